-- What becomes of the instructions of a block that paths reach, and the rule.
use Rattle.std.proofs.Common.{◌≡◌, ◌↔◌, inl, inr, ℕ, ◌+◌, ◌<◌, Bool, true, false, true≢false, not, ◌&&◌, List, ◌∷◌, length, take, drop, Option, Some, None, refl, sym, ap, ◌∙◌, subst, arith}
use Rattle.std.specs.Prelude.{slice_get}
use Rattle.std.specs.Global.{Vec}
use Rattle.std.proofs.lemmas.Bool.{and_parts, cases_Bool}
use Rattle.std.proofs.lemmas.List.{take-append-drop}
use Rattle.std.proofs.lemmas.Option.{same_Some}
use Rattle.graph_core.specs.declared.name.Name as declared-name
use Rattle.graph_core.specs.Graphs.{Instruction, Block, Graph}
use Rattle.graph_core.specs.Computations.{Computation, computed_by}
use Rattle.motion_pass_points.specs.Ways.{Point, within, does_at, IsCome, IsPast, IsUsed, IsRead, IsInserted}
use Rattle.motion_pass_points.proofs.Keys.{does_it, it_does}
use Rattle.motion_pass_points.specs.declared.computation.Computation as declared-computation
use Rattle.motion_pass_points.specs.MotionPointsComputing.{computation_view}
use Rattle.motion_pass_points.specs.Columns.{number_at}
use Rattle.motion_pass_points.specs.Numbers.{AreOnce, IsNumberOf, computed_in}
use Rattle.motion_pass_problems.specs.Facts.{AreReached}
use Rattle.motion_pass_problems.specs.Inner.{point_at}
use Rattle.motion_pass_problems.proofs.Bools.{and_false}
use Rattle.motion_pass_problems.proofs.Inner.{at_inside, drop_at}
use Rattle.motion_pass_problems.proofs.Standing.{Stands, come_at, come_to}
use Rattle.motion_pass_placement.specs.declared.fates.Fate.{Fate}
use Rattle.motion_pass_placement.specs.Fates.{fate_of}
use Rattle.motion_pass_placement.specs.declared.placement.Placement.{Placement}
use Rattle.motion_pass_placement.specs.Columns.{AreFated, AreRows, fates_of, row_of}
use Rattle.motion_pass_placement.specs.Placed.{HasTemporary, IsActed, IsPlaced, all_of, moved_by, reached_by, stays_by, temporary_of}
use Rattle.motion_pass_placement.proofs.Members.{IsIn, in_along, in_blocks, in_once, raw_there}

used_flag : (late used : Bool) → (late && not used) ≡ false → late ≡ true → used ≡ true
used_flag true true so is = refl
used_flag true false so is = absurd (true≢false so)
used_flag false used so is = absurd (true≢false (sym is))

-- What is told of the computations of reached code at its instructions, by the rule.
pub record AreToldOf (blocks : List Block) (reached : ℕ → Bool) (all : List Computation) (rows : List (Vec (Option ℕ))) (fates : List (Vec Fate)) : Type 0 where
  pub whole : AreReached blocks reached
  pub once : AreOnce (computed_in reached 0 blocks) all
  pub along : AreRows blocks reached all rows
  pub told : (n : ℕ) (b : Block) → slice_get blocks n ≡ Some b → reached n ≡ true → (k : ℕ) (e : Computation) → slice_get all k ≡ Some e → AreFated blocks n b (row_of rows n) k e (fates_of fates n)

-- What is told of a computation where an instruction does it, by the rule.
pub record IsToldHere (blocks : List Block) (at : Point) (fate : Fate) (e : Computation) : Type 0 where
  pub does : does_at e at ≡ true
  pub late : (fate.is_late ≡ false) ↔ IsPast blocks e at
  pub used : (fate.is_used ≡ true) ↔ IsUsed blocks e at
  pub reads : stays_by fate ≡ false → IsRead blocks e at

module _ (blocks : List Block) (reached : ℕ → Bool) (all : List Computation) (rows : List (Vec (Option ℕ))) (told : List (Vec Fate)) (is : AreToldOf blocks reached all rows told) (n : ℕ) (b : Block) (at : slice_get blocks n ≡ Some b) (index : ℕ) where
  -- a path comes to it where its block is told as reached
  pub come_there : reached n ≡ true → IsCome blocks (point_at n b index)
  come_there comes = come_to blocks reached is.whole stands
    where
      stands : Stands blocks reached n (take index b.instructions) (drop index b.instructions) b.end
      stands = record { block = b; is = at; comes = comes; parts = take-append-drop index b.instructions; end = refl }

  pub reached_there : IsCome blocks (point_at n b index) → reached n ≡ true
  reached_there come = (come_at blocks reached is.whole come).1.comes

  -- where no path comes, no number is told
  pub no_number_there : (IsCome blocks (point_at n b index) → ⊥) → number_at (row_of rows n) index ≡ None
  no_number_there never = elim (cases_Bool (reached n)) [
    | inl comes ↦ absurd (never (come_there comes))
    | inr idle ↦ ap (λ (row : List (Option ℕ)). number_at row index) (is.along.none n idle)
  ]

  module _ (comes : reached n ≡ true) (inside : index < length b.instructions) where
    pub there : (i : Instruction) × (slice_get b.instructions index ≡ Some i)
    there = at_inside b.instructions index inside

    here_is : point_at n b index ≡ within n (there.0 ∷ drop (index + 1) b.instructions) b.end
    here_is = ap (λ rest. within n rest b.end) (drop_at b.instructions index there.0 there.1)

    pub done_here : (e : Computation) → does_at e (point_at n b index) ≡ true → computed_by there.0 ≡ Some e
    done_here e so = it_does e there.0 (sym (ap (does_at e) here_is) ∙ so)

    does_here : (e : Computation) → computed_by there.0 ≡ Some e → does_at e (point_at n b index) ≡ true
    does_here e so = ap (does_at e) here_is ∙ does_it e there.0 so

    numbered_here : IsNumberOf all (computed_by there.0) (number_at (row_of rows n) index)
    numbered_here = is.along.along n b at comes index there.0 there.1

    -- one without a number reads nothing
    pub keep_unnumbered : number_at (row_of rows n) index ≡ None → (e : Computation) → IsRead blocks e (point_at n b index) → ⊥
    keep_unnumbered unnumbered e read =
        let does : computed_by there.0 ≡ Some e = done_here e read.0 in
        let number : n ≡ 0 + n = omega arith in
        let place : IsIn e all = in_once is.once e (in_blocks reached 0 blocks n n b at number comes e (in_along b.instructions index there.0 there.1 e does)) in
        let never : IsNumberOf all (computed_by there.0) None = subst (λ o. IsNumberOf all (computed_by there.0) o) unnumbered numbered_here in
        never e place.0 does place.1

    module _ (k : ℕ) (numbered : number_at (row_of rows n) index ≡ Some k) where
      pub done : (e : Computation) × (computed_by there.0 ≡ Some e) × (slice_get all k ≡ Some e)
      done = subst (λ o. IsNumberOf all (computed_by there.0) o) numbered numbered_here

      pub computed_here : (e : Computation) → slice_get all k ≡ Some e → done.0 ≡ e
      computed_here e is_it = same_Some done.0 e (sym done.2 ∙ is_it)

      pub one : (e : Computation) → does_at e (point_at n b index) ≡ true → e ≡ done.0
      one e so = same_Some e done.0 (sym (done_here e so) ∙ done.1)

      abbrev pub fate : Fate
      fate = fate_of (fates_of told n) index

      late : (fate.is_late ≡ false) ↔ IsPast blocks done.0 (point_at n b index)
      late = (is.told n b at comes k done.0 done.2).late index inside numbered

      used : (fate.is_used ≡ true) ↔ IsUsed blocks done.0 (point_at n b index)
      used = (is.told n b at comes k done.0 done.2).used index inside numbered

      -- one that stays reads nothing
      pub keep_staying : stays_by fate ≡ true → (e : Computation) → IsRead blocks e (point_at n b index) → ⊥
      keep_staying so e read =
          let both = and_parts fate.is_late (not fate.is_used) so in
          let own : IsRead blocks done.0 (point_at n b index) = subst (λ d. IsRead blocks d (point_at n b index)) (one e read.0) read in
          elim own.1 [
            | inl past ↦ true≢false (sym both.0 ∙ late.1 past)
            | inr later ↦ true≢false (sym both.1 ∙ ap not (used.1 later))
          ]

      -- one that does not stay reads
      pub reads : stays_by fate ≡ false → IsRead blocks done.0 (point_at n b index)
      reads so = (
        does_here done.0 done.1,
        elim (cases_Bool fate.is_late) [
          | inl is_late ↦ inr (used.0 (used_flag fate.is_late fate.is_used so is_late))
          | inr early ↦ inl (late.0 early)
        ],
      )

      pub moves : IsRead blocks done.0 (point_at n b index) → stays_by fate ≡ false
      moves read = elim read.1 [
        | inl past ↦ ap (λ (l : Bool). l && not fate.is_used) (late.1 past)
        | inr later ↦ ap (λ (u : Bool). fate.is_late && not u) (used.1 later) ∙ and_false fate.is_late
      ]

      -- all that is told here
      pub facts_here : (e : Computation) × ((slice_get all k ≡ Some e) × IsToldHere blocks (point_at n b index) fate e)
      facts_here = (done.0, (done.2, record { does = does_here done.0 done.1; late = late; used = used; reads = reads }))

-- what is placed is told so
pub told_so : (g : Graph) (p : Placement) → IsPlaced g p → AreToldOf g.blocks (reached_by p) (all_of p) p.numbers.items p.fates.items
told_so g p is = record { whole = is.reached; once = is.once; along = is.rows; told = is.fates }

module _ (g : Graph) (p : Placement) (is : IsPlaced g p) (n : ℕ) (b : Block) (at : slice_get g.blocks n ≡ Some b) (index : ℕ) (comes : reached_by p n ≡ true) (inside : index < length b.instructions) (k : ℕ) (numbered : number_at (row_of p.numbers.items n) index ≡ Some k) where
  abbrev here : Fate
  here = fate_of (fates_of p.fates.items n) index

  own : (e : Computation) × ((slice_get (all_of p) k ≡ Some e) × IsToldHere g.blocks (point_at n b index) here e)
  own = facts_here g.blocks (reached_by p) (all_of p) p.numbers.items p.fates.items (told_so g p is) n b at index comes inside k numbered

  acted : stays_by here ≡ false → (l : Bool) → here.is_late ≡ l → (c : declared-computation.Computation) → computation_view c ≡ own.0 → (t : declared-name.Name) → temporary_of p.temporaries.items k ≡ Some t → IsActed g.blocks p (point_at n b index) (moved_by (Some c) (Some t) l)
  acted so true is_late c view t named =
      subst (λ (e : Computation). HasTemporary p e t × (IsRead g.blocks e (point_at n b index) × IsInserted g.blocks e (point_at n b index))) (sym view)
      (record { number = k; is = own.1.0; named = named }, (own.1.1.reads so, (record { delayed = λ past. true≢false (sym is_late ∙ own.1.1.late.1 past); last = inl own.1.1.does }, own.1.1.used.0 (used_flag here.is_late here.is_used so is_late))))
  acted so false early c view t named = (own.0, (record { number = k; is = own.1.0; named = named }, (own.1.1.reads so, λ inserted. inserted.0.delayed (own.1.1.late.0 early))))

  -- one that does not stay is what the rule says
  pub moved_rule : stays_by (fate_of (fates_of p.fates.items n) index) ≡ false → IsActed g.blocks p (point_at n b index) (moved_by (slice_get p.computations.all.items k) (temporary_of p.temporaries.items k) (fate_of (fates_of p.fates.items n) index).is_late)
  moved_rule so =
      let raw = raw_there p.computations.all.items k own.0 own.1.0 in
      let named = (is.named k own.0 own.1.0).1 (point_at n b index, (come_there g.blocks (reached_by p) (all_of p) p.numbers.items p.fates.items (told_so g p is) n b at index comes, own.1.1.reads so)) in
      subst (λ a. IsActed g.blocks p (point_at n b index) a) (λ i. moved_by (sym raw.1.0 i) (sym named.1 i) (fate_of (fates_of p.fates.items n) index).is_late) (acted so here.is_late refl raw.0 raw.1.1 named.0 named.1)
