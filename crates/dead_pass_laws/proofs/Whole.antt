-- The removal of dead assignments keeps what can be seen of the run of a unit.
use Rattle.std.proofs.Common.{◌≡◌, ℕ, suc, Some, List, [], ◌∷◌, refl, subst}
use Rattle.std.specs.Prelude.{slice_get}
use Rattle.debug_records.specs.declared.change.PassName.{PassName}
use Rattle.debug_records.specs.declared.change.Kind.TheVariants.{Removed}
use Rattle.dead_pass.specs.Notes.{SayWhatTheyShall}
use Rattle.graph_core.specs.Graphs.{Graph, UnitForm}
use Rattle.graph_core.specs.Validity.{IsGraph}
use Rattle.graph_core.specs.WellMarked.{AreWellMarked}
use Rattle.pass_law.specs.Changes.{AddsChangesOf}
use Rattle.pass_law.specs.Kept.{EachFunction, ShareTheSame}
use Rattle.graph_core_weights.proofs.Standing.{graph_different}
use Rattle.dead_pass_rule.specs.Removing.{IsReduced}
use Rattle.dead_pass_notes.specs.Said.{SaysWhatItShall}
use Rattle.dead_pass_notes.specs.Writes.{IsRemovedWrite}
use Rattle.dead_pass_laws.specs.Follows.{Follows}
use Rattle.dead_pass_laws.proofs.Begins.{IsMade}
use Rattle.dead_pass_laws.proofs.Lists.{all_at}
use Rattle.dead_pass_laws.proofs.Logged.{older_told, newer_told}
use Rattle.dead_pass_laws.proofs.Noted.{notes_hold}
use Rattle.dead_pass_laws.proofs.Runs.{made_follows}

module _ (u v : UnitForm) (marked : AreWellMarked u) (pass : PassName) (adds : AddsChangesOf pass Removed (λ before after. IsRemovedWrite u.assignments before) u v) where
  -- What was made of a function.
  pub function_made : (f : ℕ) (g h : Graph) → slice_get u.graphs f ≡ Some g → slice_get v.graphs f ≡ Some h → IsReduced u.assignments g h → SaysWhatItShall u.assignments v.log g h → IsMade u v.log g h
  function_made f g h stood stands reduced said = record {
    is = reduced.rest;
    taken = record {
      valid = all_at (IsGraph u) u.graphs f g marked.valid.graphs stood;
      marked = marked.graphs f g stood;
      different = graph_different u.graphs f g stood marked.valid.once;
      reduced = subst (λ k. IsReduced u.assignments g k) reduced.rest reduced;
      said = subst (λ k. SaysWhatItShall u.assignments v.log g k) reduced.rest said;
      older = older_told u v pass adds;
      newer = newer_told u v pass adds f g h stood stands;
    };
  }

  -- and of all, from a number on
  all_made : (gs hs : List Graph) (number : ℕ → ℕ) → ((k : ℕ) → slice_get u.graphs (number k) ≡ slice_get gs k) → ((k : ℕ) → slice_get v.graphs (number k) ≡ slice_get hs k) → EachFunction (IsReduced u.assignments) gs hs → EachFunction (SaysWhatItShall u.assignments v.log) gs hs
      → EachFunction (IsMade u v.log) gs hs
  all_made [] [] number before after reduced said = tt
  all_made [] (h ∷ hs) number before after reduced said = absurd reduced
  all_made (g ∷ gs) [] number before after reduced said = absurd reduced
  all_made (g ∷ gs) (h ∷ hs) number before after reduced said = (
    function_made (number 0) g h (before 0) (after 0) reduced.0 said.0,
    all_made gs hs (λ k. number (suc k)) (λ k. before (suc k)) (λ k. after (suc k)) reduced.1 said.1,
  )

-- THE REMOVAL OF DEAD ASSIGNMENTS KEEPS THE RUN. Where from each function of a well marked unit just the writes are gone that go, notes say what they shall, a change is logged for each write of a variable
-- that went, and what functions share is the same, whatever can be seen of the unit before can be seen of the unit after: but for shadows that are gone.
pub removed_follows : (u v : UnitForm) → AreWellMarked u → ShareTheSame u v → (pass : PassName) → AddsChangesOf pass Removed (λ before after. IsRemovedWrite u.assignments before) u v → EachFunction (IsReduced u.assignments) u.graphs v.graphs → SayWhatTheyShall u v → Follows u v
removed_follows u v marked shared pass adds reduced said =
    made_follows u v v.log (all_made u v marked pass adds u.graphs v.graphs (λ k. k) (λ k. refl) (λ k. refl) reduced said) (notes_hold u v.log) shared
