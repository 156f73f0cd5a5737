-- What is so at the points inside a block, one after the other.
use Rattle.std.proofs.Common.{◌≡◌, ◌↔◌, inl, inr, ℕ, zero, suc, ◌+◌, ◌/◌, ◌<◌, Bool, true, false, true≢false, not, ◌&&◌, ◌||◌, List, [], ◌∷◌, ◌++◌, length, take, drop, Option, Some, None, refl, sym, ap, ◌∙◌, subst, arith}
use Rattle.std.specs.Prelude.{if◌then◌else◌, slice_get}
use Rattle.std.specs.BTreeMap.{get}
use Rattle.std.proofs.lemmas.Bool.{cases_Bool, cases_eq, eq-eqb, ne_eqb}
use Rattle.std.proofs.lemmas.List.{take-append-drop}
use Rattle.std.proofs.lemmas.Option.{none-some, same_Some}
use Rattle.graph_core.specs.Graphs.{Instruction, End, Block}
use Rattle.graph_core.specs.Uses.{target_of}
use Rattle.graph_core.specs.Computations.{Computation}
use Rattle.motion_pass_points.specs.Computing.{does, spoils}
use Rattle.motion_pass_points.specs.Ways.{Point, within, Leads, passes, IsUnsafe, IsPast, IsWanted, wanted_here, IsUsed}
use Rattle.motion_pass_points.specs.declared.columns.Column.{Column}
use Rattle.motion_pass_points.specs.Columns.{is_number, is_spoiled, number_at}
use Rattle.motion_pass_points.specs.Numbers.{key_cmp, views_of}
use Rattle.motion_pass_points.proofs.Telling.{done_there, spoiled_there}
use Rattle.motion_pass_problems.proofs.Bools.{not_true}
use Rattle.motion_pass_problems.proofs.Standing.{Stands, unsafe_here}
use Rattle.motion_pass_problems.proofs.Stepping.{past_on, past_off, wanted_past, wanted_on, wanted_off, end_used, used_end}
use Rattle.motion_pass_problems.specs.Inner.{IsBlock, IsTreated, in_column, point_at}

-- from one instruction on
pub drop_at : {A : Type 0} (xs : List A) (k : ℕ) (x : A) → slice_get xs k ≡ Some x → drop k xs ≡ x ∷ drop (k + 1) xs
drop_at [] k x at = absurd (none-some x at)
drop_at (y ∷ xs) zero x at = ap (λ z. z ∷ xs) (same_Some y x at)
drop_at (y ∷ xs) (suc k) x at = drop_at xs k x at ∙ ap (λ n. x ∷ drop n (y ∷ xs)) more
  where
    more : suc (k + 1) ≡ suc k + 1
    more = omega arith

-- a number is of its column
pub number_same : (column k : ℕ) → k / 64 ≡ column → (o : Option ℕ) → is_number k (in_column column o) ≡ is_number k o
number_same column k of None = refl
number_same column k of (Some m) = elim (cases_eq (m / 64) column) [
  | inl same ↦ ap (λ (t : Bool). is_number k (if t then Some m else None)) (eq-eqb (m / 64) column same)
  | inr apart ↦ ap (λ (t : Bool). is_number k (if t then Some m else None)) (ne_eqb (m / 64) column apart) ∙ sym (ne_eqb m k (λ same. apart (ap (λ j. j / 64) same ∙ of)))
]

pub column_same : (column k : ℕ) → k / 64 ≡ column → (o : Option ℕ) → o ≡ Some k → in_column column o ≡ Some k
column_same column k of o is = ap (in_column column) is ∙ ap (λ (t : Bool). if t then Some k else None) (eq-eqb (k / 64) column of)

module _ (column : Column) (b : Block) (numbers : List (Option ℕ)) (k : ℕ) (e : Computation) (is : IsTreated column b numbers k e) where
  -- the number tells whether an instruction does the computation
  pub does_there : (index : ℕ) (i : Instruction) → slice_get b.instructions index ≡ Some i → (o : Option ℕ) → o ≡ in_column column.index (number_at numbers index) → is_number k o ≡ does e i
  does_there index i at o same = ap (is_number k) same ∙ number_same column.index k is.of (number_at numbers index) ∙ done_there (views_of is.all) k e is.at (get key_cmp is.all.numbers) is.known i (number_at numbers index) (is.along index i at)

  pub spoils_there : (i : Instruction) (o : Option ℕ) → o ≡ target_of i → is_spoiled column.spoiled.items k o ≡ spoils e i
  spoils_there i o same = spoiled_there (views_of is.all) k e is.at column.spoiled.items i (λ x. is.marked x k is.of) o same

  pub done_number : (index : ℕ) (i : Instruction) → slice_get b.instructions index ≡ Some i → number_at numbers index ≡ Some k → does e i ≡ true
  done_number index i at number = sym (done_there (views_of is.all) k e is.at (get key_cmp is.all.numbers) is.known i (number_at numbers index) (is.along index i at)) ∙ ap (is_number k) number ∙ eq-eqb k k refl

module _ (blocks : List Block) (reached : ℕ → Bool) (n : ℕ) (b : Block) (is : IsBlock blocks reached n b) (e : Computation) where
  -- where it can't be delayed to a point that is down-safe, a flag tells
  abbrev pub PastAt : (index : ℕ) → Bool → Type 0
  PastAt index x = (IsUnsafe blocks e (point_at n b index) → ⊥) → (x ≡ true) ↔ IsPast blocks e (point_at n b index)

  stands : (index : ℕ) (i : Instruction) → slice_get b.instructions index ≡ Some i → Stands blocks reached n (take index b.instructions) (i ∷ drop (index + 1) b.instructions) b.end
  stands index i at = record {
    block = b;
    is = is.is;
    comes = is.comes;
    parts = ap (λ rest. take index b.instructions ++ rest) (sym (drop_at b.instructions index i at)) ∙ take-append-drop index b.instructions;
    end = refl;
  }

  here_is : (index : ℕ) (i : Instruction) → slice_get b.instructions index ≡ Some i → point_at n b index ≡ within n (i ∷ drop (index + 1) b.instructions) b.end
  here_is index i at = ap (λ rest. within n rest b.end) (drop_at b.instructions index i at)

  pub late_first : (x : Bool) → ((x ≡ true) ↔ IsPast blocks e (point_at n b 0)) → PastAt 0 x
  late_first x so safe = so

  -- one instruction further
  pub late_step : (index : ℕ) (i : Instruction) → slice_get b.instructions index ≡ Some i → (x after : Bool) → after ≡ ((x || does e i) && not (spoils e i)) → PastAt index x → PastAt (index + 1) after
  late_step index i at x after step was safe =
      let s = stands index i at in
      let here : (IsUnsafe blocks e (within n (i ∷ drop (index + 1) b.instructions) b.end) → ⊥) → (x ≡ true) ↔ IsPast blocks e (within n (i ∷ drop (index + 1) b.instructions) b.end)
      = subst (λ p. (IsUnsafe blocks e p → ⊥) → (x ≡ true) ↔ IsPast blocks e p) (here_is index i at) was in
      (λ so. past_on blocks reached is.whole e s x (λ down flag. (here down).0 flag) safe (sym step ∙ so), λ past. step ∙ past_off blocks reached is.whole e s x (λ down before. (here down).1 before) safe past)

  -- what is told where an instruction does it
  pub late_told : (index : ℕ) (i : Instruction) → slice_get b.instructions index ≡ Some i → does e i ≡ true → (x late : Bool) → late ≡ not x → PastAt index x → (late ≡ false) ↔ IsPast blocks e (point_at n b index)
  late_told index i at done x late is_late was =
      let safe : IsUnsafe blocks e (point_at n b index) → ⊥ = λ unsafe. true≢false (sym done ∙ (unsafe_here blocks reached is.whole e (subst (IsUnsafe blocks e) (here_is index i at) unsafe)).0) in
      (λ so. (was safe).0 (flip x (sym is_late ∙ so)), λ past. is_late ∙ ap not ((was safe).1 past))
    where
      flip : (y : Bool) → not y ≡ false → y ≡ true
      flip true so = refl
      flip false so = absurd (true≢false so)

  -- a flag tells whether its value is used from a point on
  abbrev pub WantedAt : (index : ℕ) → Bool → Type 0
  WantedAt index w = (w ≡ true) ↔ IsWanted blocks e (point_at n b index)

  pub used_last : (w : Bool) → ((w ≡ true) ↔ IsUsed blocks e (within n [] b.end)) → (index : ℕ) → length b.instructions ≡ index → WantedAt index w
  used_last w so index size =
      let here : point_at n b index ≡ within n [] b.end = ap (λ rest. within n rest b.end) (ap (λ m. drop m b.instructions) (sym size) ∙ nothing_left b.instructions) in
      subst (λ p. (w ≡ true) ↔ IsWanted blocks e p) (sym here) (λ flag. used_end blocks reached is.whole e n b is.is (so.0 flag), λ wanted. so.1 (end_used blocks reached is.whole e wanted))
    where
      nothing_left : {A : Type 0} (xs : List A) → drop (length xs) xs ≡ []
      nothing_left [] = refl
      nothing_left (x ∷ xs) = nothing_left xs

  -- one back
  pub used_step : (index : ℕ) (i : Instruction) → slice_get b.instructions index ≡ Some i → (w before late : Bool) → before ≡ (if does e i then not late else w) → (does e i ≡ true → (late ≡ false) ↔ IsPast blocks e (point_at n b index)) → WantedAt (index + 1) w → WantedAt index before
  used_step index i at w before late step told was = elim (cases_Bool (does e i)) [
    | inl done ↦
        let is_before : before ≡ not late = step ∙ ap (λ (d : Bool). if d then not late else w) done in
        subst (λ p. (before ≡ true) ↔ IsWanted blocks e p) (sym (here_is index i at)) (
          λ flag. wanted_here done (subst (IsPast blocks e) (here_is index i at) ((told done).0 (not_true late (sym is_before ∙ flag)))),
          λ wanted. elim (cases_Bool late) [
            | inl is_late ↦ absurd (wanted_past blocks e wanted (λ past. true≢false (sym is_late ∙ (told done).1 (subst (IsPast blocks e) (sym (here_is index i at)) past))))
            | inr early ↦ is_before ∙ ap not early
          ],
        )
    | inr undone ↦
        let is_before : before ≡ w = step ∙ ap (λ (d : Bool). if d then not late else w) undone in
        subst (λ p. (before ≡ true) ↔ IsWanted blocks e p) (sym (here_is index i at))
        (λ flag. wanted_on blocks reached is.whole e (stands index i at) undone (was.0 (sym is_before ∙ flag)), λ wanted. is_before ∙ was.1 (wanted_off blocks reached is.whole e undone wanted))
  ]

  -- what is told where an instruction does it
  pub used_told : (index : ℕ) (i : Instruction) → slice_get b.instructions index ≡ Some i → (w used : Bool) → used ≡ w → WantedAt (index + 1) w → (used ≡ true) ↔ IsUsed blocks e (point_at n b index)
  used_told index i at w used same was =
      subst (λ p. (used ≡ true) ↔ IsUsed blocks e p) (sym (here_is index i at))
      (λ flag. (within n (drop (index + 1) b.instructions) b.end, passes, was.0 (sym same ∙ flag)), λ is_used. same ∙ was.1 (next is_used.1 is_used.2))
    where
      next : {m : ℕ} {j : Instruction} {rest : List Instruction} {f : End} {q : Point} → Leads blocks (within m (j ∷ rest) f) q → IsWanted blocks e q → IsWanted blocks e (within m rest f)
      next passes wanted = wanted

pub at_inside : {A : Type 0} (xs : List A) (k : ℕ) → k < length xs → (x : A) × (slice_get xs k ≡ Some x)
at_inside [] k lt = absurd (omega (arith, lt))
at_inside (x ∷ xs) zero lt = (x, refl)
at_inside (x ∷ xs) (suc k) lt = at_inside xs k (omega (arith, lt))
