-- What bears no change out: a removed assignment whose variable is read behind its note, another sum than the one that was computed, and a read of what was not copied.
use Rattle.std.proofs.Common.{◌≡◌, ℕ, zero, suc, List, [], ◌∷◌, ◌++◌, Option, Some, None, refl, sym, ap, ◌∙◌, subst, slice_get, lit<, append-nil, append_assoc}
use Rattle.std.specs.Prelude.{true}
use Rattle.word_base.specs.declared.operation.Operation.TheVariants.{Add}
use Rattle.graph_core.specs.declared.value.Value.TheVariants.{Odd}
use Rattle.graph_core.specs.Graphs.{Name, Of, Operated, Is, Instruction, Marker, Note, Move, Operate, End, Jump, Return, Block}
use Rattle.graph_core.specs.Paths.{Passed, History, front, stays, passes, goes, Path, path, writes}
use Rattle.graph_core.specs.Validity.{place_behind}
use Rattle.graph_core.specs.WellMarked as marked
use Rattle.graph_core.specs.WellMarked.{StandsIn, here, InPlace}
use Rattle.graph_core.specs.Points.{StandsWith, reads_at}
use Rattle.graph_core.specs.Computations.{Computation, Operating, computed_by}
use Rattle.pass_law.specs.Earned.{IsRemoved, IsMoved, IsCopiedAt, IsReplaced}
use Rattle.pass_law.specs.WorkedChanges.{adding, noting_sum, adds_another, adding_another, copying, passing_another}
use Rattle.pass_law.proofs.Inversions.{some_same, none_is_some, false_is_true, apart, each_block, no_block}

abbrev passed : ℕ → ℕ → Instruction → Passed
passed n left i = record { block = n; left = left; instruction = i; wrote = Odd }

-- From the note of the removed assignment the way leads to the return of x.
pub not_removed : IsRemoved adding noting_sum 2 0 → ⊥
not_removed r =
    false_is_true
    (r.unread (passed 1 1 (Marker 2) ∷ passed 0 0 (Marker 1) ∷ []) (Is (Operated Add (Of (Name 1)) (Of (Name 2)))) 1 [] (Jump 2) (path _ refl (passes (goes (passes stays Odd) front _ refl) Odd)) refl (passed 2 0 (Marker 3) ∷ []) 2
    [] (Return (Some (Name 0))) (passes (goes stays front _ refl) Odd) front)

abbrev sum : Computation
sum = Operating Add (Name 1) (Name 2)

-- The instructions before the pass, and behind it.
data IsBefore : Instruction → Type 0 where
  second : IsBefore (Marker 2)
  summing : IsBefore (Operate 0 Add (Name 1) (Name 2))
  noting : IsBefore (Note 0 (Is (Of (Name 0))))
  third : IsBefore (Marker 3)

data IsBehind : Instruction → Type 0 where
  second : IsBehind (Marker 2)
  another : IsBehind (Operate 3 Add (Name 1) (Name 1))
  copying_it : IsBehind (Move 0 (Name 3))
  noting : IsBehind (Note 0 (Is (Of (Name 0))))
  third : IsBehind (Marker 3)

before_in : {p : ℕ} {i : Instruction} {place : Option ℕ} → StandsIn p i place (Marker 2 ∷ Operate 0 Add (Name 1) (Name 2) ∷ Note 0 (Is (Of (Name 0))) ∷ []) → IsBefore i
before_in here = second
before_in (marked.behind here) = summing
before_in (marked.behind (marked.behind here)) = noting
before_in (marked.behind (marked.behind (marked.behind s))) = elim s [ ]

behind_in : {p : ℕ} {i : Instruction} {place : Option ℕ} → StandsIn p i place adds_another → IsBehind i
behind_in here = second
behind_in (marked.behind here) = another
behind_in (marked.behind (marked.behind here)) = copying_it
behind_in (marked.behind (marked.behind (marked.behind here))) = noting
behind_in (marked.behind (marked.behind (marked.behind (marked.behind s)))) = elim s [ ]

none_first : {p q : ℕ} {i : Instruction} → StandsIn p i None (Marker q ∷ []) → ⊥
none_first (marked.behind s) = elim s [ ]

before_return : {p : ℕ} {i : Instruction} → StandsIn p i (Some 2) (Marker 3 ∷ []) → IsBefore i
before_return here = third
before_return (marked.behind s) = elim s [ ]

behind_return : {p : ℕ} {i : Instruction} → StandsIn p i (Some 2) (Marker 3 ∷ []) → IsBehind i
behind_return here = third
behind_return (marked.behind s) = elim s [ ]

stood_before : {p : ℕ} {i : Instruction} → InPlace adding p i → IsBefore i
stood_before {p} {i} at =
    each_block (Marker 2 ∷ Operate 0 Add (Name 1) (Name 2) ∷ Note 0 (Is (Of (Name 0))) ∷ []) (Name 0) [] (λ (b : Block). StandsIn p i b.place b.instructions → IsBefore i) (λ s. absurd (none_first s)) before_in before_return
    (no_block (λ (b : Block). StandsIn p i b.place b.instructions → IsBefore i)) at.number at.block at.is at.stands

stands_behind : {p : ℕ} {i : Instruction} → InPlace adding_another p i → IsBehind i
stands_behind {p} {i} at =
    each_block adds_another (Name 0) [] (λ (b : Block). StandsIn p i b.place b.instructions → IsBehind i) (λ s. absurd (none_first s)) behind_in behind_return
    (no_block (λ (b : Block). StandsIn p i b.place b.instructions → IsBehind i)) at.number at.block at.is at.stands

-- What was computed before is the sum of y and z, and the one copy is of the name 3.
was_sum : {i : Instruction} {e : Computation} → IsBefore i → computed_by i ≡ Some e → sum ≡ e
was_sum second is = absurd (none_is_some is)
was_sum summing is = some_same is
was_sum noting is = absurd (none_is_some is)
was_sum third is = absurd (none_is_some is)

copied : {t : ℕ} → IsBehind (Move 0 (Name t)) → t ≡ 3
copied copying_it = refl

another_sum : Operating Add (Name 1) (Name 1) ≡ sum → ⊥
another_sum e = let same : ◌≡◌ {A = ℕ} 1 2 = cc in apart 1 2 (lit< tt) same

pub not_another : IsMoved adding adding_another 2 0 → ⊥
not_another m =
    let added = Operate 3 Add (Name 1) (Name 1) in
    let t : m.t ≡ 3 = copied (stands_behind m.stands) in
    let computes = m.computes added 1 (Move 0 (Name 3) ∷ Note 0 (Is (Of (Name 0))) ∷ []) (Jump 2) (record { block = _; before = Marker 2 ∷ []; is = refl; instructions = refl; ends = refl }) (subst (λ k. writes k added ≡ true) (sym t) refl) in
    another_sum (some_same computes ∙ sym (was_sum (stood_before m.stood) m.computed))

-- So it is of each way to cut these instructions in two, where others stand before them.
abbrev AllSplits : (List Instruction → List Instruction → Type 0) → (done : List Instruction) → List Instruction → Type 0
AllSplits P done [] = P done []
AllSplits P done (i ∷ more) = P done (i ∷ more) × AllSplits P (done ++ i ∷ []) more

module _ (P : List Instruction → List Instruction → Type 0) where
  uncut : (done all : List Instruction) → AllSplits P done all → P done all
  uncut done [] h = h
  uncut done (i ∷ more) h = h.0

  splits : (done all before rest : List Instruction) → AllSplits P done all → all ≡ before ++ rest → P (done ++ before) rest
  splits done all [] rest h e = subst (λ front. P front rest) (sym (append-nil done)) (subst (P done) e (uncut done all h))
  splits done [] (j ∷ before) rest h e = cc
  splits done (i ∷ more) (j ∷ before) rest h e =
      let first : i ≡ j = cc in
      let others : more ≡ before ++ rest = cc in
      let cut : P ((done ++ i ∷ []) ++ before) rest = splits (done ++ i ∷ []) more before rest h.1 others in
      subst (λ k. P (done ++ k ∷ before) rest) first (subst (λ front. P front rest) (append_assoc done (i ∷ []) before) cut)

-- The one point in the place of the return.
data IsThere : ℕ → List Instruction → End → Type 0 where
  there : IsThere 2 [] (Return (Some (Name 2)))

abbrev AreThere : ℕ → Block → Type 0
AreThere n b = AllSplits (λ before rest. place_behind before b.place ≡ Some 3 → IsThere n rest b.end) [] b.instructions

there_in : (n : ℕ) (b : Block) → slice_get passing_another.blocks n ≡ Some b → AreThere n b
there_in zero b is = subst (AreThere 0) (some_same is) (λ e. absurd (none_is_some e), λ e. absurd (apart 1 3 (lit< tt) (some_same e)))
there_in (suc zero) b is =
    subst (AreThere 1) (some_same is)
    (λ e. absurd (apart 1 3 (lit< tt) (some_same e)), (λ e. absurd (apart 2 3 (lit< tt) (some_same e)), (λ e. absurd (apart 2 3 (lit< tt) (some_same e)), λ e. absurd (apart 2 3 (lit< tt) (some_same e)))))
there_in (suc (suc zero)) b is = subst (AreThere 2) (some_same is) (λ e. absurd (apart 2 3 (lit< tt) (some_same e)), λ e. there)
there_in (suc (suc (suc n))) b is = absurd (none_is_some is)

there_at : {n : ℕ} {rest : List Instruction} {e : End} → StandsWith passing_another 3 n rest e → IsThere n rest e
there_at {n} {rest} {e} at =
    let cut = splits (λ before others. place_behind before at.block.place ≡ Some 3 → IsThere n others at.block.end) [] at.block.instructions at.before rest (there_in n at.block at.is) at.instructions in
    subst (IsThere n rest) (sym at.ends) (cut at.place)

-- z is read there, and on the path to it y was copied to x last.
only_read : (k y : ℕ) → slice_get (2 ∷ []) k ≡ Some y → y ≡ 2
only_read zero y is = sym (some_same is)
only_read (suc k) y is = absurd (none_is_some is)

abbrev to_return : History
to_return = passed 2 0 (Marker 3) ∷ passed 1 0 (Note 0 (Is (Of (Name 0)))) ∷ passed 1 1 (Move 0 (Name 1)) ∷ passed 1 2 (Marker 2) ∷ passed 0 0 (Marker 1) ∷ []

returning : Path passing_another to_return 2 [] (Return (Some (Name 2)))
returning = path _ refl (passes (goes (passes (passes (passes (goes (passes stays Odd) front _ refl) Odd) Odd) Odd) front _ refl) Odd)

other_copy : Move 0 (Name 1) ≡ Move 0 (Name 2) → ⊥
other_copy e = let same : ◌≡◌ {A = ℕ} 1 2 = cc in apart 1 2 (lit< tt) same

z_is_not_copied : {block left : ℕ} → IsCopiedAt block left 0 2 to_return → ⊥
z_is_not_copied c = other_copy (ap (λ (p : Passed). p.instruction) (some_same c.last) ∙ c.copies)

no_copy : {block left n : ℕ} {rest : List Instruction} {e : End} → IsThere n rest e → (k y : ℕ) → slice_get (reads_at rest e) k ≡ Some y → ((h : History) → Path passing_another h n rest e → IsCopiedAt block left 0 y h) → ⊥
no_copy {block} {left} there k y is reaches = z_is_not_copied (subst (λ z. IsCopiedAt block left 0 z to_return) (only_read k y is) (reaches to_return returning))

pub not_replaced : IsReplaced copying passing_another 3 0 → ⊥
not_replaced r = no_copy (there_at r.stands) r.k r.y r.is r.reaches
