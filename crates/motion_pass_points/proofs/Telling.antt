-- What words tell of computations.
use Rattle.std.proofs.Common.{◌≡◌, ℕ, ◌+◌, ◌*◌, ◌/◌, ◌%◌, ◌<◌, ◌≤◌, false, not, List, [], ◌∷◌, length, map, drop, get_or, Option, Some, None, refl, sym, ap, ◌∙◌, inl, inr}
use Rattle.std.specs.Prelude.{◌==◌, slice_get}
use Rattle.std.specs.List.{list_any}
use Rattle.std.specs.Option.{option_map_or}
use Rattle.std.proofs.lemmas.Bool.{cases_Bool, cases_eq, eq-eqb, ne_eqb}
use Rattle.std.proofs.lemmas.List.{at_drop_more}
use Rattle.std.proofs.lemmas.Nat.{div-add-mod'}
use Rattle.std.proofs.lemmas.Nat.Bits.{bit_at-zero}
use Rattle.std.proofs.lemmas.Option.{same_Some}
use Rattle.graph_core.specs.Graphs.{Instruction}
use Rattle.graph_core.specs.Uses.{target_of}
use Rattle.graph_core.specs.Paths.{writes}
use Rattle.graph_core.specs.Computations.{Computation, computed_by, operands_of}
use Rattle.motion_pass_points.specs.Words.{has}
use Rattle.motion_pass_points.specs.Computing.{does, spoils, is_some_same, is_same, key_of}
use Rattle.motion_pass_points.specs.MotionPointsComputing.{nothing, Told, told_done, told_written, told_behind, told_along}
use Rattle.motion_pass_points.specs.Numbers.{Key, IsNumberOf, AreNumbersOf}
use Rattle.motion_pass_points.specs.Columns.{is_among, is_marked, is_operand, is_number, is_spoiled}
use Rattle.motion_pass_points.proofs.Keys.{does_it, it_does, same_is, one_key}
use Rattle.base_laws.proofs.Lists.{none_left as drop_past}

-- numbers of one column that are equal but for multiples of 64 are equal
pub one_number : (n m index : ℕ) → n / 64 ≡ index → m / 64 ≡ index → n % 64 ≡ m % 64 → n ≡ m
one_number n m index p q r = sym (div-add-mod' n 64) ∙ ap (λ k. k * 64 + n % 64) (p ∙ sym q) ∙ ap (λ k. m / 64 * 64 + k) r ∙ div-add-mod' m 64

-- what is written is an operand
any_none : (names : List ℕ) → list_any (λ y. false) names ≡ false
any_none [] = refl
any_none (y ∷ names) = any_none names

writes_any : (i : Instruction) (names : List ℕ) (o : Option ℕ) → target_of i ≡ o → list_any (λ y. writes y i) names ≡ option_map_or (λ x. is_among x names) o false
writes_any i names None e = ap (λ (t : Option ℕ). list_any (λ y. option_map_or (λ z. z == y) t false) names) e ∙ any_none names
writes_any i names (Some x) e = ap (λ (t : Option ℕ). list_any (λ y. option_map_or (λ z. z == y) t false) names) e

module _ (all : List Computation) (n : ℕ) (e : Computation) (at : slice_get all n ≡ Some e) where
  operand_there : (x : ℕ) → is_operand all n x ≡ is_among x (operands_of e)
  operand_there x = ap (λ (o : Option Computation). option_map_or (λ (d : Computation). is_among x (operands_of d)) o false) at

  pub spoiled_there : (spoiled : List ℕ) (i : Instruction) → ((x : ℕ) → is_marked spoiled x n ≡ is_operand all n x) → (o : Option ℕ) → o ≡ target_of i → is_spoiled spoiled n o ≡ spoils e i
  spoiled_there spoiled i marked None t = sym (writes_any i (operands_of e) None (sym t))
  spoiled_there spoiled i marked (Some x) t = marked x ∙ operand_there x ∙ sym (writes_any i (operands_of e) (Some x) (sym t))

  pub done_there : (find : Key → Option ℕ) → AreNumbersOf all find → (i : Instruction) (o : Option ℕ) → IsNumberOf all (computed_by i) o → is_number n o ≡ does e i
  done_there find are i None is = elim (cases_Bool (does e i)) [
    | inl does_so ↦ absurd (is e n (it_does e i does_so) at)
    | inr not ↦ sym not
  ]
  done_there find are i (Some k) is = elim (cases_eq k n) [
    | inl same ↦ eq-eqb k n same ∙ sym (does_it e i (is.1 ∙ ap Some (same_Some is.0 e (sym is.2 ∙ ap (slice_get all) same ∙ at))))
    | inr apart ↦ ne_eqb k n apart ∙ elim (cases_Bool (does e i)) [
      | inl does_so ↦ (let one : is.0 ≡ e = same_Some is.0 e (sym is.1 ∙ it_does e i does_so) in
          absurd (apart (same_Some k n (sym (are.each k is.0 is.2) ∙ ap (λ (d : Computation). find (key_of d)) one ∙ are.each n e at))))
      | inr not ↦ sym not
    ]
  ]

-- empty words tell nothing
zero_bit : (n : ℕ) → has 0 n ≡ false
zero_bit n = ap (λ b. b == 1) (bit_at-zero (n % 64))

pub told_nothing : (n : ℕ) → ◌≡◌ {A = Told} (record { first = has 0 n; last = has 0 n; done = has 0 n; written = has 0 n }) nothing
told_nothing n = λ i. record { first = zero_bit n i; last = zero_bit n i; done = zero_bit n i; written = zero_bit n i }

-- one instruction more was gone through
pub told_more : {A : Type 0} (view : A → Instruction) (e : Computation) (xs : List A) (k : ℕ) (x : A) → k < length xs → x ≡ get_or xs k x → (before after whole : Told) → after ≡ told_behind e (view x) before
    → told_along e (map view (drop k xs)) before ≡ whole → told_along e (map view (drop (k + 1) xs)) after ≡ whole
told_more view e xs k x lt is before after whole step was =
    ap (told_along e (map view (drop (k + 1) xs))) step ∙ ap (λ y. told_along e (map view (drop (k + 1) xs)) (told_behind e (view y) before)) is ∙ sym (at_drop_more (λ ys. told_along e (map view ys) before) xs k x lt) ∙ was

pub told_all : {A : Type 0} (view : A → Instruction) (e : Computation) (xs : List A) (k : ℕ) (t whole : Told) → length xs ≤ k → told_along e (map view (drop k xs)) t ≡ whole → t ≡ whole
told_all view e xs k t whole le is = sym (ap (λ ys. told_along e (map view ys) t) (drop_past k xs le)) ∙ is
