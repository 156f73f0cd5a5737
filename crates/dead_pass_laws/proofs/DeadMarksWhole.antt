-- The removal of dead assignments keeps what a well marked unit does.
use Rattle.std.proofs.Common.{◌≡◌, ℕ, inl, inr, Some, None, map, sym, ◌∙◌, subst}
use Rattle.std.specs.Prelude.{slice_get}
use Rattle.std.proofs.lemmas.Option.{none-some, same_Some}
use Rattle.debug_records.specs.declared.change.PassName.{PassName}
use Rattle.debug_records.specs.declared.change.Kind.TheVariants.{Removed}
use Rattle.dead_pass.specs.Notes.{SayWhatTheyShall}
use Rattle.graph_core.specs.Graphs.{Graph, UnitForm}
use Rattle.graph_core.specs.Validity.{IsValid}
use Rattle.graph_core.specs.WellMarked.{WasTaken, WasSunk, IsWellMarked, AreWellMarked}
use Rattle.pass_law.specs.Changes.{AddsChangesOf, logged_as}
use Rattle.pass_law.specs.Kept.{EachFunction, ShareTheSame}
use Rattle.dead_pass_rule.specs.Removing.{IsReduced}
use Rattle.pass_law.specs.Keeps.{Keeps}
use Rattle.dead_pass_notes.specs.Said.{SaysWhatItShall}
use Rattle.dead_pass_notes.specs.Writes.{IsRemovedWrite}
use Rattle.dead_pass_laws.proofs.Begins.{IsMade}
use Rattle.dead_pass_laws.proofs.Lists.{AtBoth, each_at, each_of_both, among_left}
use Rattle.dead_pass_laws.proofs.Whole.{function_made, removed_follows}
use Rattle.dead_pass_laws.proofs.Marked.{graph_marked}
use Rattle.dead_pass_laws.proofs.Program.{removed_program}

module _ (u v : UnitForm) (marked : AreWellMarked u) (shared : ShareTheSame u v) (pass : PassName) (adds : AddsChangesOf pass Removed (λ before after. IsRemovedWrite u.assignments before) u v) where
  -- What a change of the log before removed, one of the log after did.
  removed_still : (p variable : ℕ) → WasTaken u.log p variable → WasTaken v.log p variable
  removed_still p variable r =
      subst (λ l. WasTaken l p variable) (sym adds.log)
      (record { change = r.change; logged = among_left r.change u.log (map (logged_as pass Removed) adds.cases) r.logged; taken = r.taken; at = r.at; of = r.of })

  -- What sank by the log before sank by the log after.
  sunk_still : (variable : ℕ) → WasSunk u.log variable → WasSunk v.log variable
  sunk_still variable s =
      subst (λ l. WasSunk l variable) (sym adds.log) (record { change = s.change; logged = among_left s.change u.log (map (logged_as pass Removed) adds.cases) s.logged; sunk = s.sunk; of = s.of })

  -- What is made of a function is well marked.
  function_marked : (f : ℕ) (g h : Graph) → slice_get u.graphs f ≡ Some g → slice_get v.graphs f ≡ Some h → IsReduced u.assignments g h → SaysWhatItShall u.assignments v.log g h → IsWellMarked v h
  function_marked f g h stood stands reduced said =
      let made : IsMade u v.log g h = function_made u v marked pass adds f g h stood stands reduced said in
      subst (λ k. IsWellMarked v k) (sym made.is) (graph_marked u v shared g h.blocks made.taken removed_still sunk_still)

  -- So is each function of the unit after.
  functions_marked : EachFunction (IsReduced u.assignments) u.graphs v.graphs → SayWhatTheyShall u v → (f : ℕ) (h : Graph) → slice_get v.graphs f ≡ Some h → IsWellMarked v h
  functions_marked reduced said f h at = by_both (each_at (λ g k. IsReduced u.assignments g k × SaysWhatItShall u.assignments v.log g k) u.graphs v.graphs f (each_of_both (IsReduced u.assignments) (SaysWhatItShall u.assignments v.log) u.graphs v.graphs reduced said))
    where
      by_both : AtBoth (λ g k. IsReduced u.assignments g k × SaysWhatItShall u.assignments v.log g k) u.graphs v.graphs f → IsWellMarked v h
      by_both (inl none) = (let no : None ≡ Some h = sym none.1 ∙ at in absurd (none-some h no))
      by_both (inr some) = (let one : some.1 ≡ h = same_Some some.1 h (sym some.3 ∙ at) in subst (λ k. IsWellMarked v k) one (function_marked f some.0 some.1 some.2 some.3 some.4.0 some.4.1))

-- THE REMOVAL OF DEAD ASSIGNMENTS KEEPS MARKS. Where from each function of a well marked unit just the writes are gone that go, notes say what they shall, a change is logged for each write of a variable
-- that went, and what functions share is the same, the unit after is well marked, if it is valid.
pub removed_marked : (u v : UnitForm) → AreWellMarked u → IsValid v → ShareTheSame u v → (pass : PassName) → AddsChangesOf pass Removed (λ before after. IsRemovedWrite u.assignments before) u v → EachFunction (IsReduced u.assignments) u.graphs v.graphs → SayWhatTheyShall u v
    → AreWellMarked v
removed_marked u v marked valid shared pass adds reduced said = record { valid = valid; graphs = functions_marked u v marked shared pass adds reduced said }

-- THE REMOVAL OF DEAD ASSIGNMENTS KEEPS WHAT A UNIT DOES.
pub removed_keeps : (u v : UnitForm) → AreWellMarked u → IsValid v → ShareTheSame u v → (pass : PassName) → AddsChangesOf pass Removed (λ before after. IsRemovedWrite u.assignments before) u v → EachFunction (IsReduced u.assignments) u.graphs v.graphs → SayWhatTheyShall u v
    → Keeps u v
removed_keeps u v marked valid shared pass adds reduced said = record {
  marked = marked;
  still_marked = removed_marked u v marked valid shared pass adds reduced said;
  program = removed_program u v shared pass adds reduced;
  follows = removed_follows u v marked shared pass adds reduced said;
}
