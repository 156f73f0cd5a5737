-- More digits make no smaller number.
use Rattle.std.proofs.Common.{◌≡◌, ℕ, ◌+◌, ◌*◌, ◌≤◌, List, [], ◌∷◌, take, drop, sym, ap, ◌∙◌, arith, take-append-drop}
use Rattle.std.specs.Prelude.{fold}
use Rattle.std.proofs.Math.Nat.{mul-le-mul_left}
use Rattle.std.proofs.lemmas.Grind.{fold-append}
use Rattle.c_token.specs.Constants.{digit_value, value_of}

abbrev step : ℕ → ℕ → ℕ → ℕ
step base v b = v * base + digit_value b

grows_once : (base v d : ℕ) → 1 ≤ base → v ≤ v * base + d
grows_once base v d h = omega (arith, mul-le-mul_left v h)

grows : (base v : ℕ) (digits : List ℕ) → 1 ≤ base → v ≤ fold (step base) v digits
grows base v [] h = omega arith
grows base v (d ∷ digits) h = omega (arith, grows_once base v (digit_value d) h, grows base (step base v d) digits h)

pub value_grows : (base n : ℕ) (digits : List ℕ) → 1 ≤ base → value_of base (take n digits) ≤ value_of base digits
value_grows base n digits h =
    let e : value_of base digits ≡ fold (step base) (value_of base (take n digits)) (drop n digits) = ap (value_of base) (sym (take-append-drop n digits)) ∙ fold-append (step base) 0 (take n digits) (drop n digits) in
    omega (arith, e, grows base (value_of base (take n digits)) (drop n digits) h)
