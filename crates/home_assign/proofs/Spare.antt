-- What rows to work with leave, and what it says that rows have a bit in common.
use Rattle.std.proofs.Common.{◌≡◌, ℕ, ◌+◌, ◌<◌, ◌||◌, ◌&&◌, Bool, true, false, true≢false, List, length, get_or, refl, sym, ap, ◌∙◌, inl, inr, ◌↔◌, subst, arith}
use Rattle.std.proofs.lemmas.Bool.{and_cases, and_left, and_right, or_parts, or_from, cases_Bool, cases_lt}
use Rattle.bit_rows.specs.Grid.{is_set, row_at, met_bit}
use Rattle.graph_solve.specs.Rows.{AreSameElsewhere}
use Rattle.home_assign.specs.Table.{AreWide}
use Rattle.home_assign.proofs.Tables.{wide_elsewhere, past_clear}

-- a row that is as it was has the bits that it had
pub bit_same : (old new : List (List Bool)) (r : ℕ) → row_at new r ≡ row_at old r → (y : ℕ) → is_set new r y ≡ is_set old r y
bit_same old new r e y = ap (λ row. get_or row y false) e

module _ (names a b : ℕ) (r0 r1 r2 r3 r4 r5 : List (List Bool)) (result : Bool) (a_in : a < names + 31) (b_in : b < names + 31) (each : length r0 ≡ names + 34) (wide : AreWide names r0)
    (spare : (y : ℕ) → is_set r0 (names + 32) y ≡ false) (none : (y : ℕ) → is_set r0 (names + 33) y ≡ false)
    (e1 : AreSameElsewhere (names + 31) r0 r1) (h1 : (y : ℕ) → is_set r1 (names + 31) y ≡ met_bit false (is_set r0 (names + 31 + 2) y) (is_set r0 (names + 31) y))
    (e2 : AreSameElsewhere (names + 31) r1 r2) (h2 : (y : ℕ) → is_set r2 (names + 31) y ≡ met_bit true (is_set r1 a y) (is_set r1 (names + 31) y))
    (e3 : AreSameElsewhere (names + 31) r2 r3) (h3 : (y : ℕ) → is_set r3 (names + 31) y ≡ met_bit false (is_set r2 b y) (is_set r2 (names + 31) y))
    (e4 : AreSameElsewhere (names + 31 + 1) r3 r4) (h4 : (y : ℕ) → is_set r4 (names + 31 + 1) y ≡ met_bit true (is_set r3 (names + 31) y) (is_set r3 (names + 31 + 1) y)) where
  three_same : (r : ℕ) → (r ≡ names + 31 → ⊥) → row_at r3 r ≡ row_at r0 r
  three_same r ne = e3.others r ne ∙ e2.others r ne ∙ e1.others r ne

  spare_there : (y : ℕ) → is_set r3 (names + 31 + 1) y ≡ false
  spare_there y =
      let e : names + 32 ≡ names + 31 + 1 = omega arith in
      bit_same r0 r3 (names + 31 + 1) (three_same (names + 31 + 1) (λ q. omega (arith, q))) y ∙ subst (λ r. is_set r0 r y ≡ false) e (spare y)

  none_first : (y : ℕ) → is_set r0 (names + 31 + 2) y ≡ false
  none_first y = (let e : names + 33 ≡ names + 31 + 2 = omega arith in subst (λ r. is_set r0 r y ≡ false) e (none y))

  emptied : (y : ℕ) → is_set r1 (names + 31) y ≡ false
  emptied y = h1 y ∙ and_left _ _ (none_first y)

  filled : (y : ℕ) → is_set r2 (names + 31) y ≡ (is_set r0 a y || false)
  filled y = h2 y ∙ ap (λ v. v || is_set r1 (names + 31) y) (bit_same r0 r1 a (e1.others a (λ q. omega (arith, q, a_in))) y) ∙ ap (λ v. is_set r0 a y || v) (emptied y)

  met_there : (y : ℕ) → is_set r3 (names + 31) y ≡ (is_set r0 b y && (is_set r0 a y || false))
  met_there y =
      h3 y ∙ ap (λ v. v && is_set r2 (names + 31) y) (bit_same r0 r2 b (e2.others b (λ q. omega (arith, q, b_in)) ∙ e1.others b (λ q. omega (arith, q, b_in))) y) ∙ ap (λ v. is_set r0 b y && v) (filled y)

  pub common : (result ≡ false) ↔ ((y : ℕ) → is_set r4 (names + 31 + 1) y ≡ is_set r3 (names + 31 + 1) y) → (result ≡ false) ↔ ((y : ℕ) → is_set r0 a y ≡ true → is_set r0 b y ≡ false)
  common changed = (
    (λ e y has.
        let clear : is_set r3 (names + 31) y ≡ false = (or_parts (is_set r3 (names + 31) y) (is_set r3 (names + 31 + 1) y) (sym (h4 y) ∙ changed.0 e y ∙ spare_there y)).0 in
        elim (and_cases (is_set r0 b y) (is_set r0 a y || false) (sym (met_there y) ∙ clear)) [
          | inl f ↦ f
          | inr f ↦ absurd (true≢false (sym has ∙ (or_parts (is_set r0 a y) false f).0))
        ]),
    (λ apart. changed.1 (λ y. h4 y ∙ or_from (is_set r3 (names + 31) y) (is_set r3 (names + 31 + 1) y) (met_there y ∙ elim (cases_Bool (is_set r0 a y)) [
      | inl t ↦ and_left (is_set r0 b y) (is_set r0 a y || false) (apart y t)
      | inr f ↦ and_right (is_set r0 b y) (is_set r0 a y || false) (or_from (is_set r0 a y) false f refl)
    ]) (spare_there y) ∙ sym (spare_there y))),
  )

  pub spare_width : length (row_at r4 (names + 31 + 2)) ≡ length (row_at r4 (names + 31 + 1))
  spare_width =
      ap length (e4.others (names + 31 + 2) (λ q. omega (arith, q)) ∙ three_same (names + 31 + 2) (λ q. omega (arith, q))) ∙ wide (names + 31 + 2) (omega (arith, each))
      ∙ sym (e4.width ∙ ap length (three_same (names + 31 + 1) (λ q. omega (arith, q))) ∙ wide (names + 31 + 1) (omega (arith, each)))

  module _ (e5 : AreSameElsewhere (names + 31 + 1) r4 r5) (h5 : (y : ℕ) → is_set r5 (names + 31 + 1) y ≡ met_bit false (is_set r4 (names + 31 + 2) y) (is_set r4 (names + 31 + 1) y)) where
    pub five_same : (r : ℕ) → (r ≡ names + 31 → ⊥) → (r ≡ names + 31 + 1 → ⊥) → row_at r5 r ≡ row_at r0 r
    five_same r ne other = e5.others r other ∙ e4.others r other ∙ three_same r ne

    pub five_each : length r5 ≡ names + 34
    five_each = e5.count ∙ e4.count ∙ e3.count ∙ e2.count ∙ e1.count ∙ each

    pub five_wide : AreWide names r5
    five_wide =
        let w1 = wide_elsewhere names (names + 31) r0 r1 (omega (arith, each)) e1 wide in
        let w2 = wide_elsewhere names (names + 31) r1 r2 (omega (arith, each, e1.count)) e2 w1 in
        let w3 = wide_elsewhere names (names + 31) r2 r3 (omega (arith, each, e1.count, e2.count)) e3 w2 in
        let w4 = wide_elsewhere names (names + 31 + 1) r3 r4 (omega (arith, each, e1.count, e2.count, e3.count)) e4 w3 in
        wide_elsewhere names (names + 31 + 1) r4 r5 (omega (arith, each, e1.count, e2.count, e3.count, e4.count)) e5 w4

    pub five_spare : (y : ℕ) → is_set r5 (names + 32) y ≡ false
    five_spare y =
        let e : names + 31 + 1 ≡ names + 32 = omega arith in
        let clear : is_set r4 (names + 31 + 2) y ≡ false = bit_same r0 r4 (names + 31 + 2) (e4.others (names + 31 + 2) (λ q. omega (arith, q)) ∙ three_same (names + 31 + 2) (λ q. omega (arith, q))) y ∙ none_first y in
        subst (λ r. is_set r5 r y ≡ false) e (h5 y ∙ and_left (is_set r4 (names + 31 + 2) y) (is_set r4 (names + 31 + 1) y) clear)

    pub five_none : (y : ℕ) → is_set r5 (names + 33) y ≡ false
    five_none y = bit_same r0 r5 (names + 33) (five_same (names + 33) (λ q. omega (arith, q)) (λ q. omega (arith, q))) y ∙ none y

-- rows of registers that are as they were
module _ (names : ℕ) (old new : List (List Bool)) (wide : AreWide names old) (same : (r : ℕ) → r < names + 31 → row_at new r ≡ row_at old r) where
  pub still_gathered : ((r x y : ℕ) → r < 15 → x < names → is_set old (names + (1 + r)) x ≡ true → is_set old x y ≡ true → is_set old (names + (16 + r)) y ≡ true)
      → (r x y : ℕ) → r < 15 → x < names → is_set new (names + (1 + r)) x ≡ true → is_set new x y ≡ true → is_set new (names + (16 + r)) y ≡ true
  still_gathered gathered r x y lt small has bit =
      bit_same old new (names + (16 + r)) (same (names + (16 + r)) (omega (arith, lt))) y
      ∙ gathered r x y lt small (sym (bit_same old new (names + (1 + r)) (same (names + (1 + r)) (omega (arith, lt))) x) ∙ has) (sym (bit_same old new x (same x (omega (arith, small))) y) ∙ bit)

  pub still_only : ((r y : ℕ) → r < 15 → ((x : ℕ) → is_set old (names + (1 + r)) x ≡ true → is_set old x y ≡ false) → is_set old (names + (16 + r)) y ≡ false)
      → (r y : ℕ) → r < 15 → ((x : ℕ) → is_set new (names + (1 + r)) x ≡ true → is_set new x y ≡ false) → is_set new (names + (16 + r)) y ≡ false
  still_only only r y lt never =
      bit_same old new (names + (16 + r)) (same (names + (16 + r)) (omega (arith, lt))) y ∙ only r y lt (λ x has. elim (cases_lt x names) [
        | inl small ↦ sym (bit_same old new x (same x (omega (arith, small))) y) ∙ never x (bit_same old new (names + (1 + r)) (same (names + (1 + r)) (omega (arith, lt))) x ∙ has)
        | inr past ↦ absurd (true≢false (sym has ∙ past_clear names old wide (names + (1 + r)) x past))
      ])
