use Rattle.std.proofs.Common.{rules, arith, refl, sym, ap, ◌≡◌, ◌∙◌, ◌<◌, ◌≤◌, ◌^◌, ℕ, Bool, true, false, List, length, Some, None, Ok, Err, nat_lt}
use Rattle.std.specs.Prelude.{nat_le, ◌==◌}
use Rattle.std.specs.Str.Parse.{ParsesUnsigned}
use Rattle.std.proofs.lemmas.Bool.Decides.{nat_tests}
use Rattle.std.proofs.lemmas.Str.Parse.{IsNumeralModel, numerals_by_fold, parse_digits}
use Rattle.command_line.specs.Values.{are_digits, number_after, number_in}
use Rattle.command_line.proofs.values.number_of.Goals as goal

own : IsNumeralModel (λ ds. are_digits ds ≡ true) (number_after 0)
own = numerals_by_fold _ (search rules) number_after (search rules)

long_enough : (t : List ℕ) → (length t == 0) ≡ false → nat_lt 0 (length t) ≡ true
long_enough t h = grind (arith, nat_tests)

module _ (E : Type 0) (most : ℕ) (fits : most < 2 ^ 32) (t : List ℕ) (some : (length t == 0) ≡ false) (digits : are_digits t ≡ true) where
  within : (n : ℕ) → ParsesUnsigned {E = E} 32 10 t (Ok n) → n ≤ most → Some n ≡ number_in most t
  within n h le =
      let p = parse_digits own {E = E} 32 t (Ok n) h digits in
      let e = p.1 in
      let l = long_enough t some in
      let below : nat_le (number_after 0 t) most ≡ true = grind (arith, nat_tests) in
      rw (l, digits, below) (ap (λ k. Some k) e)

  above : (n : ℕ) → ParsesUnsigned {E = E} 32 10 t (Ok n) → most < n → None ≡ number_in most t
  above n h lt =
      let p = parse_digits own {E = E} 32 t (Ok n) h digits in
      let e = p.1 in
      let l = long_enough t some in
      let over : nat_le (number_after 0 t) most ≡ false = grind (arith, nat_tests) in
      rw (l, digits, over) refl

  none : (e : E) → ParsesUnsigned 32 10 t (Err e) → None ≡ number_in most t
  none e h =
      let p = parse_digits own {E = E} 32 t (Err e) h digits in
      let l = long_enough t some in
      let positive : 0 < length t = grind (arith, nat_tests) in
      let over : nat_le (number_after 0 t) most ≡ false = go (nat_le (number_after 0 t) most) refl (λ lt. p (positive, lt)) in
      rw (l, digits, over) refl
    where
      go : (b : Bool) → nat_le (number_after 0 t) most ≡ b → (number_after 0 t < 2 ^ 32 → ⊥) → nat_le (number_after 0 t) most ≡ false
      go false d never = d
      go true d never = let le : number_after 0 t ≤ most = grind (arith, nat_tests) in absurd (never (omega arith))

pub returns-in-Ok : goal.returns-in-Ok
returns-in-Ok c = within ℕ c.args.most c.ranges.most.fits c.args.text.now (sym c.is_empty.ensures ∙ c.if-is_empty.false) (sym c.are_digits.ensures ∙ c.if-not-are_digits.false) c.in-Ok.number c.in-Ok.ensures.value.0 c.if-number-most.true

pub returns-in_default : goal.returns-in_default
returns-in_default c = above ℕ c.args.most c.ranges.most.fits c.args.text.now (sym c.is_empty.ensures ∙ c.if-is_empty.false) (sym c.are_digits.ensures ∙ c.if-not-are_digits.false) c.in-Ok.number c.in-Ok.ensures.value.0 c.if-number-most.false

pub returns-in_default-2 : goal.returns-in_default-2
returns-in_default-2 c = none _ c.args.most c.ranges.most.fits c.args.text.now (sym c.is_empty.ensures ∙ c.if-is_empty.false) (sym c.are_digits.ensures ∙ c.if-not-are_digits.false) c.in_default.field-0 c.in_default.ensures.value.0
