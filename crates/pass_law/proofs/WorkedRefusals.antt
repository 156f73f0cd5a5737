-- A sum that is computed on a way that did not compute it before was not moved; and a register that x has alone, or shares with the temporary of its moved sum alone, was not given
-- to another name.
use Rattle.std.proofs.Common.{◌≡◌, ◌≢◌, ℕ, zero, suc, ◌<◌, ◌⊎◌, inl, inr, true, List, [], ◌∷◌, ◌++◌, Some, None, refl, sym, subst, slice_get, arith, ◌∙◌, lit≤, lit<}
use Rattle.debug_records.specs.declared.change.PassName.{PassName}
use Rattle.word_base.specs.declared.operation.Operation.TheVariants.{Add}
use Rattle.graph_homes.specs.declared.home.Home.TheVariants.{Register}
use Rattle.graph_core.specs.declared.block.Comparison.TheVariants.{Less}
use Rattle.graph_core.specs.declared.value.Value.TheVariants.{Odd}
use Rattle.graph_core.specs.Graphs.{Name, Of, Is, Instruction, Marker, Note, Move, Operate, End, Branch, Return, Block}
use Rattle.graph_core.specs.Paths as paths
use Rattle.graph_core.specs.Paths.{Passed, History, front, stays, passes, goes, writes}
use Rattle.graph_core.specs.WellMarked as marked
use Rattle.graph_core.specs.WellMarked.{StandsIn, here}
use Rattle.graph_core.specs.Computations.{Computation, computed_by}
use Rattle.graph_homes.specs.Reused.{IsTemporaryOf}
use Rattle.pass_law.specs.Earned.{WasComputed, latest, earlier, IsDownSafe, LiesAt, in_block, on_edge, IsMoved}
use Rattle.pass_law.specs.WorkedChanges.{adding_on_one_way, adds_at_condition, copies_in_three, adding_on_each_way, assigning_twice, motion, apart_from_others, AreNotBorneOut}
use Rattle.pass_law.proofs.Inversions.{some_same, none_is_some, apart}
use Rattle.pass_law.proofs.WorkedOthers.{not_removed, not_another, not_replaced}

-- What stands in which place behind the pass.
data IsIn : ℕ → Instruction → Type 0 where
  condition : IsIn 1 (Marker 2)
  summing : IsIn 2 (Operate 3 Add (Name 1) (Name 2))
  idle : IsIn 2 (Move 4 (Name 3))
  assignment : IsIn 2 (Marker 3)
  copying : IsIn 3 (Move 0 (Name 3))
  noting : IsIn 3 (Note 0 (Is (Of (Name 0))))

in_entry : {p : ℕ} {i : Instruction} → StandsIn p i None (Marker 1 ∷ []) → IsIn p i
in_entry (marked.behind s) = elim s [ ]

in_condition : {p : ℕ} {i : Instruction} → StandsIn p i (Some 1) adds_at_condition → IsIn p i
in_condition here = condition
in_condition (marked.behind here) = summing
in_condition (marked.behind (marked.behind here)) = idle
in_condition (marked.behind (marked.behind (marked.behind s))) = elim s [ ]

in_assignment : {p : ℕ} {i : Instruction} → StandsIn p i (Some 2) copies_in_three → IsIn p i
in_assignment here = assignment
in_assignment (marked.behind here) = copying
in_assignment (marked.behind (marked.behind here)) = noting
in_assignment (marked.behind (marked.behind (marked.behind s))) = elim s [ ]

in_return : {p : ℕ} {i : Instruction} → StandsIn p i None (Marker 4 ∷ []) → IsIn p i
in_return (marked.behind s) = elim s [ ]

in_some : (p : ℕ) (i : Instruction) (n : ℕ) (b : Block) → slice_get adding_on_each_way.blocks n ≡ Some b → StandsIn p i b.place b.instructions → IsIn p i
in_some p i zero b is = subst (λ (c : Block). StandsIn p i c.place c.instructions → IsIn p i) (some_same is) in_entry
in_some p i (suc zero) b is = subst (λ (c : Block). StandsIn p i c.place c.instructions → IsIn p i) (some_same is) in_condition
in_some p i (suc (suc zero)) b is = subst (λ (c : Block). StandsIn p i c.place c.instructions → IsIn p i) (some_same is) in_assignment
in_some p i (suc (suc (suc zero))) b is = subst (λ (c : Block). StandsIn p i c.place c.instructions → IsIn p i) (some_same is) in_return
in_some p i (suc (suc (suc (suc n)))) b is = absurd (none_is_some is)

-- The one copy to x is of the name 3.
copied : {p x t : ℕ} → IsIn p (Move x (Name t)) → x ≡ 0 → t ≡ 3
copied idle z = absurd (apart 0 4 (lit< tt) (sym z))
copied copying z = refl

-- the end of the condition's block
abbrev forks : End
forks = Branch Less (Name 1) (Name 2) 2 3

-- What is left of the condition's block at some point of it, of the graph before.
left_of : (before left : List Instruction) → Marker 2 ∷ [] ≡ before ++ left → (left ≡ []) ⊎ (left ≡ Marker 2 ∷ [])
left_of [] left e = inr (sym e)
left_of (i ∷ []) left e = inl cc
left_of (i ∷ j ∷ before) left e = cc

-- a history of instructions that compute nothing
data IsIdle : History → Type 0 where
  none : IsIdle []
  more : {i : Passed} {h : History} → computed_by i.instruction ≡ None → IsIdle h → IsIdle (i ∷ h)

nothing_computed : {e : Computation} {h : History} → IsIdle h → WasComputed e h → ⊥
nothing_computed none w = elim w [ ]
nothing_computed (more is rest) (latest at) = none_is_some (sym is ∙ at)
nothing_computed (more is rest) (earlier w) = nothing_computed rest w

-- From there a way leads to the return, and nothing on it computes anything.
not_safe : (e : Computation) (left : List Instruction) → (left ≡ []) ⊎ (left ≡ Marker 2 ∷ []) → IsDownSafe adding_on_one_way e 1 left forks → ⊥
not_safe e left (inl at) safe =
    let at_end : IsDownSafe adding_on_one_way e 1 [] forks = subst (λ all. IsDownSafe adding_on_one_way e 1 all forks) at safe in
    nothing_computed (more refl none) (at_end _ 3 [] (Return (Some (Name 0))) (passes (goes stays (paths.behind front) _ refl) Odd) tt)
not_safe e left (inr at) safe =
    let at_marker : IsDownSafe adding_on_one_way e 1 (Marker 2 ∷ []) forks = subst (λ all. IsDownSafe adding_on_one_way e 1 all forks) at safe in
    nothing_computed (more refl (more refl none)) (at_marker _ 3 [] (Return (Some (Name 0))) (passes (goes (passes stays Odd) (paths.behind front) _ refl) Odd) tt)

at_point : {e : Computation} {rest left : List Instruction} {m : ℕ} {f : End} → LiesAt adding_on_one_way adding_on_each_way 1 rest m left f → IsDownSafe adding_on_one_way e m left f → ⊥
at_point {e} (in_block {b = b} {before = before} {left = left} is at parts all widened behind) safe =
    not_safe e left (left_of before left (subst (λ (c : Block). c.instructions ≡ before ++ left) (sym (some_same is)) parts))
    (subst (λ (c : Block). IsDownSafe adding_on_one_way e 1 left c.end) (sym (some_same is)) safe)
at_point (on_edge after is at parts widened jumps leads) safe = none_is_some (sym is)

not_moved : IsMoved adding_on_one_way adding_on_each_way 3 0 → ⊥
not_moved m =
    let t : m.t ≡ 3 = copied (in_some 3 _ m.stands.number m.stands.block m.stands.is m.stands.stands) refl in
    let sum = Operate 3 Add (Name 1) (Name 2) in
    let was = m.safe sum 1 (Move 4 (Name 3) ∷ []) forks (record { block = _; before = Marker 2 ∷ []; is = refl; instructions = refl; ends = refl }) (subst (λ k. writes k sum ≡ true) (sym t) refl) in
    at_point was.lies was.safe

-- Every other name than the temporary is kept elsewhere, or is x.
shares : (pass : PassName) (register y : ℕ) → y < 4 → y ≢ 0 → Register 9 ≡ Register register → apart_from_others y ≡ Register register
    → (IsTemporaryOf (motion pass ∷ []) assigning_twice 0 0 y → ⊥) → ⊥
shares pass register zero named other kept shared foreign = other refl
shares pass register (suc zero) named other kept shared foreign = apart 9 10 (lit< tt) (cc)
shares pass register (suc (suc zero)) named other kept shared foreign = apart 9 11 (lit< tt) (cc)
shares pass register (suc (suc (suc zero))) named other kept shared foreign =
    foreign (record { change = motion pass; logged = front; moved = refl; of = refl; copied = refl; temporary = lit≤ tt })
shares pass register (suc (suc (suc (suc y)))) named other kept shared foreign = absurd (omega (arith, named))

-- x has its register alone
has_own : (register y : ℕ) → y ≢ 0 → Register 0 ≡ Register register → Register y ≡ Register register → ⊥
has_own register y other kept shared = other cc

pub are_not_borne_out : AreNotBorneOut
are_not_borne_out = record {
  removed = not_removed;
  another = not_another;
  moved = not_moved;
  replaced = not_replaced;
  own = λ r. has_own r.register r.y r.other r.kept r.shared;
  reused = λ pass r. shares pass r.register r.y r.named r.other r.kept r.shared r.foreign;
}
