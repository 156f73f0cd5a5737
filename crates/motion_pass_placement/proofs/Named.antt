-- A computation does not stay somewhere just where it is read somewhere.
use Rattle.std.proofs.Common.{◌≡◌, ◌↔◌, inl, inr, ℕ, ◌<◌, Bool, true, true≢false, List, [], ◌∷◌, ◌++◌, length, drop, Option, Some, None, refl, sym, ap, ◌∙◌, subst, arith}
use Rattle.std.specs.Prelude.{is_some, slice_get}
use Rattle.std.specs.Global.{Vec}
use Rattle.std.proofs.lemmas.Bool.{cases_Bool}
use Rattle.std.proofs.lemmas.List.{length-append}
use Rattle.std.proofs.lemmas.Option.{none-some, slice_get_within}
use Rattle.graph_core.specs.Graphs.{Block}
use Rattle.graph_core.specs.Computations.{Computation}
use Rattle.motion_pass_points.specs.Ways.{Point, within, along, IsCome, IsRead}
use Rattle.motion_pass_points.specs.Columns.{number_at}
use Rattle.motion_pass_points.specs.Numbers.{AreNumbersOf, Key}
use Rattle.motion_pass_problems.specs.Inner.{point_at}
use Rattle.motion_pass_problems.proofs.Inner.{at_inside}
use Rattle.motion_pass_problems.proofs.Standing.{come_at}
use Rattle.motion_pass_placement.specs.declared.fates.Fate.{Fate}
use Rattle.motion_pass_placement.specs.Columns.{AreSizes, row_of}
use Rattle.motion_pass_placement.specs.Placed.{IsMovedAnywhere, IsReadSomewhere}
use Rattle.motion_pass_placement.proofs.Acted.{AreToldOf, come_there, computed_here, done, keep_unnumbered, moves, one, reads}

dropped_to : {A : Type 0} (before rest : List A) → drop (length before) (before ++ rest) ≡ rest
dropped_to [] rest = refl
dropped_to (x ∷ before) rest = dropped_to before rest

some_from : {A : Type 0} (o : Option A) → is_some o ≡ true → (x : A) × (o ≡ Some x)
some_from None so = absurd (true≢false (sym so))
some_from (Some x) so = (x, refl)

module _ (blocks : List Block) (reached : ℕ → Bool) (all : List Computation) (rows : List (Vec (Option ℕ))) (fates : List (Vec Fate)) (are : AreToldOf blocks reached all rows fates) (find : Key → Option ℕ) (known : AreNumbersOf all find) (sizes : AreSizes blocks fates) (k : ℕ) (e : Computation) (at : slice_get all k ≡ Some e) where
  pub moved_reads : IsMovedAnywhere (length fates) rows fates k → IsReadSomewhere blocks e
  moved_reads m =
      let n = m.block in
      let index = m.moves.index in
      let row_inside = m.moves.inside in
      let among = m.within in
      let b = at_inside blocks n (omega (arith, among, sizes.count)) in
      let size = sizes.each n b.0 b.1 in
      let inside : index < length b.0.instructions = omega (arith, row_inside, size) in
      elim (cases_Bool (reached n)) [
        | inl comes ↦ (
          point_at n b.0 index,
          (
            come_there blocks reached all rows fates are n b.0 b.1 index comes,
            subst (λ d. IsRead blocks d (point_at n b.0 index)) (computed_here blocks reached all rows fates are n b.0 b.1 index comes inside k m.moves.is e at) (reads blocks reached all rows fates are n b.0 b.1 index comes inside k m.moves.is m.moves.moves),
          ),
        )
        | inr idle ↦ absurd (none-some k (sym (ap (λ (row : List (Option ℕ)). number_at row index) (are.along.none n idle)) ∙ m.moves.is))
      ]

  number_there : (n : ℕ) (b : Block) (here : slice_get blocks n ≡ Some b) (index : ℕ) (comes : reached n ≡ true) (inside : index < length b.instructions) → IsRead blocks e (point_at n b index) → (o : Option ℕ) → number_at (row_of rows n) index ≡ o → number_at (row_of rows n) index ≡ Some k
  number_there n b here index comes inside read None is = absurd (keep_unnumbered blocks reached all rows fates are n b here index comes inside is e read)
  number_there n b here index comes inside read (Some m) is =
      let own = done blocks reached all rows fates are n b here index comes inside m is in
      let same : e ≡ own.0 = one blocks reached all rows fates are n b here index comes inside m is e read.0 in
      is ∙ sym (known.each m e (own.2 ∙ ap Some (sym same))) ∙ known.each k e at

  at_instruction : (n : ℕ) (b : Block) (here : slice_get blocks n ≡ Some b) (index : ℕ) (comes : reached n ≡ true) (inside : index < length b.instructions) → IsRead blocks e (point_at n b index) → IsMovedAnywhere (length fates) rows fates k
  at_instruction n b here index comes inside read =
      let numbered = number_there n b here index comes inside read (number_at (row_of rows n) index) refl in
      let same : e ≡ (done blocks reached all rows fates are n b here index comes inside k numbered).0 = one blocks reached all rows fates are n b here index comes inside k numbered e read.0 in
      let among = slice_get_within blocks n b here in
      let size = sizes.each n b here in
      record {
        block = n;
        within = omega (arith, among, sizes.count);
        moves = record {
          index = index;
          inside = omega (arith, inside, size);
          is = numbered;
          moves = moves blocks reached all rows fates are n b here index comes inside k numbered (subst (λ d. IsRead blocks d (point_at n b index)) same read);
        };
      }

  pub read_moves : IsReadSomewhere blocks e → IsMovedAnywhere (length fates) rows fates k
  read_moves somewhere = by somewhere.0 somewhere.1.0 somewhere.1.1
    where
      by : (p : Point) → IsCome blocks p → IsRead blocks e p → IsMovedAnywhere (length fates) rows fates k
      by (along m n) come read = absurd (true≢false (sym read.0))
      by (within n [] f) come read = absurd (true≢false (sym read.0))
      by (within n (i ∷ rest) f) come read =
          let found = come_at blocks reached are.whole come in
          let before = found.0 in
          let s = found.1 in
          let left : drop (length before) s.block.instructions ≡ i ∷ rest = ap (drop (length before)) (sym s.parts) ∙ dropped_to before (i ∷ rest) in
          let same : within n (i ∷ rest) f ≡ point_at n s.block (length before) = λ j. within n (sym left j) (s.end j) in
          let counts : length (before ++ i ∷ rest) ≡ length s.block.instructions = ap length s.parts in
          let sizes_are = length-append before (i ∷ rest) in
          let inside : length before < length s.block.instructions = omega (arith, counts, sizes_are) in
          at_instruction n s.block s.is (length before) s.comes inside (subst (λ q. IsRead blocks e q) same read)

  -- so it has a temporary just then
  pub named_rule : {A : Type 0} (temporary : Option A) (treated : Bool) → is_some temporary ≡ treated → ((treated ≡ true) ↔ IsMovedAnywhere (length fates) rows fates k) → ((t : A) × (temporary ≡ Some t)) ↔ IsReadSomewhere blocks e
  named_rule temporary treated flag marked = (λ has. moved_reads (marked.0 (sym flag ∙ ap is_some has.1)), λ read. some_from temporary (flag ∙ marked.1 (read_moves read)))
