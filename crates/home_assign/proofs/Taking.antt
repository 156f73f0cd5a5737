-- A name that has a register from now on.
use Rattle.std.proofs.Common.{◌≡◌, ℕ, ◌+◌, ◌<◌, ◌==◌, ◌||◌, ◌&&◌, Bool, true, false, true≢false, cond, List, length, refl, sym, ap, ◌∙◌, inl, inr, subst, arith}
use Rattle.std.proofs.lemmas.Bool.{or_left, or_right, or_from, cases_eq, cases_lt, eq-eqb, ne_eqb, cond-false}
use Rattle.std.proofs.lemmas.Bool.Decides.{eqb_tells}
use Rattle.bit_rows.specs.Grid.{is_set, row_at, met_bit}
use Rattle.graph_solve.specs.Rows.{AreSameElsewhere}
use Rattle.home_assign.specs.Table.{AreWide}
use Rattle.home_assign.proofs.Tables.{wide_elsewhere, past_clear}
use Rattle.home_assign.proofs.Spare.{bit_same}

or_false : (b : Bool) → b ≡ (b || false)
or_false true = refl
or_false false = refl

put_in : (old b : Bool) → cond b true old ≡ (old || b)
put_in true true = refl
put_in true false = refl
put_in false true = refl
put_in false false = refl

module _ (names register name : ℕ) (r0 r1 r2 : List (List Bool)) (register_in : register < 15) (name_in : name < names) (each : length r0 ≡ names + 34) (wide : AreWide names r0)
    (e1 : AreSameElsewhere (names + (1 + register)) r0 r1) (h1 : (y : ℕ) → is_set r1 (names + (1 + register)) y ≡ cond (name == y) true (is_set r0 (names + (1 + register)) y))
    (e2 : AreSameElsewhere (names + (16 + register)) r1 r2) (h2 : (y : ℕ) → is_set r2 (names + (16 + register)) y ≡ met_bit true (is_set r1 name y) (is_set r1 (names + (16 + register)) y)) where
  pub two_same : (r : ℕ) → (r ≡ names + (1 + register) → ⊥) → (r ≡ names + (16 + register) → ⊥) → row_at r2 r ≡ row_at r0 r
  two_same r ne other = e2.others r other ∙ e1.others r ne

  pub name_row : (x : ℕ) → x < names → (y : ℕ) → is_set r2 x y ≡ is_set r0 x y
  name_row x lt y = bit_same r0 r2 x (two_same x (λ q. omega (arith, q, lt)) (λ q. omega (arith, q, lt))) y

  pub two_each : length r2 ≡ names + 34
  two_each = e2.count ∙ e1.count ∙ each

  pub two_wide : AreWide names r2
  two_wide = wide_elsewhere names (names + (16 + register)) r1 r2 (omega (arith, each, e1.count, register_in)) e2 (wide_elsewhere names (names + (1 + register)) r0 r1 (omega (arith, each, register_in)) e1 wide)

  pub two_taken : (r x : ℕ) → r < 15 → is_set r2 (names + (1 + r)) x ≡ (is_set r0 (names + (1 + r)) x || ((register == r) && (name == x)))
  two_taken r x lt = elim (eqb_tells register r) [
    | inl h ↦
        let P : ℕ → Type 0 = λ k. is_set r2 (names + (1 + k)) x ≡ (is_set r0 (names + (1 + k)) x || (name == x)) in
        let here : P register = bit_same r1 r2 (names + (1 + register)) (e2.others (names + (1 + register)) (λ q. omega (arith, q))) x ∙ h1 x ∙ put_in (is_set r0 (names + (1 + register)) x) (name == x) in
        subst P h.1 here ∙ sym (ap (λ b. is_set r0 (names + (1 + r)) x || (b && (name == x))) h.0)
    | inr h ↦
        bit_same r0 r2 (names + (1 + r)) (two_same (names + (1 + r)) (λ q. h.1 (omega (arith, q))) (λ q. omega (arith, q, lt))) x
        ∙ or_false (is_set r0 (names + (1 + r)) x) ∙ sym (ap (λ b. is_set r0 (names + (1 + r)) x || (b && (name == x))) h.0)
  ]

  had : (r x : ℕ) → r < 15 → is_set r0 (names + (1 + r)) x ≡ true → is_set r2 (names + (1 + r)) x ≡ true
  had r x lt has = two_taken r x lt ∙ or_left (is_set r0 (names + (1 + r)) x) ((register == r) && (name == x)) has

  own : is_set r2 (names + (1 + register)) name ≡ true
  own = two_taken register name register_in ∙ or_right (is_set r0 (names + (1 + register)) name) ((register == register) && (name == name)) (ap (λ b. b && (name == name)) (eq-eqb register register refl) ∙ eq-eqb name name refl)

  union_row : (y : ℕ) → is_set r2 (names + (16 + register)) y ≡ (is_set r0 name y || is_set r0 (names + (16 + register)) y)
  union_row y = h2 y ∙ ap (λ b. b || is_set r1 (names + (16 + register)) y) (bit_same r0 r1 name (e1.others name (λ q. omega (arith, q, name_in))) y)
      ∙ ap (λ b. is_set r0 name y || b) (bit_same r0 r1 (names + (16 + register)) (e1.others (names + (16 + register)) (λ q. omega (arith, q))) y)

  other_union : (r : ℕ) → r < 15 → (r ≡ register → ⊥) → (y : ℕ) → is_set r2 (names + (16 + r)) y ≡ is_set r0 (names + (16 + r)) y
  other_union r lt ne y = bit_same r0 r2 (names + (16 + r)) (two_same (names + (16 + r)) (λ q. omega (arith, q, register_in)) (λ q. ne (omega (arith, q)))) y

  was : (r x : ℕ) → r < 15 → (r ≡ register → ⊥) → is_set r2 (names + (1 + r)) x ≡ true → is_set r0 (names + (1 + r)) x ≡ true
  was r x lt ne has = sym (bit_same r0 r2 (names + (1 + r)) (two_same (names + (1 + r)) (λ q. ne (omega (arith, q))) (λ q. omega (arith, q, lt))) x) ∙ has

  was_or : (x : ℕ) → is_set r2 (names + (1 + register)) x ≡ true → (name ≡ x → ⊥) → is_set r0 (names + (1 + register)) x ≡ true
  was_or x has ne = cond_false (sym (bit_same r1 r2 (names + (1 + register)) (e2.others (names + (1 + register)) (λ q. omega (arith, q))) x ∙ h1 x) ∙ has)
    where
      cond_false : cond (name == x) true (is_set r0 (names + (1 + register)) x) ≡ true → is_set r0 (names + (1 + register)) x ≡ true
      cond_false e = sym (cond-false (name == x) true (is_set r0 (names + (1 + register)) x) (ne_eqb name x ne)) ∙ e

  pub two_gathered : ((r x y : ℕ) → r < 15 → x < names → is_set r0 (names + (1 + r)) x ≡ true → is_set r0 x y ≡ true → is_set r0 (names + (16 + r)) y ≡ true)
      → (r x y : ℕ) → r < 15 → x < names → is_set r2 (names + (1 + r)) x ≡ true → is_set r2 x y ≡ true → is_set r2 (names + (16 + r)) y ≡ true
  two_gathered gathered r x y lt small has bit =
      let before : is_set r0 x y ≡ true = sym (name_row x small y) ∙ bit in
      elim (cases_eq r register) [
        | inl e ↦
            let P : ℕ → Type 0 = λ k. is_set r2 (names + (1 + k)) x ≡ true → is_set r2 (names + (16 + k)) y ≡ true in
            let here : P register = λ h. union_row y ∙ elim (cases_eq name x) [
              | inl same ↦ or_left (is_set r0 name y) (is_set r0 (names + (16 + register)) y) (ap (λ n. is_set r0 n y) same ∙ before)
              | inr ne ↦ or_right (is_set r0 name y) (is_set r0 (names + (16 + register)) y) (gathered register x y register_in small (was_or x h ne) before)
            ] in
            subst P (sym e) here has
        | inr ne ↦ other_union r lt ne y ∙ gathered r x y lt small (was r x lt ne has) before
      ]

  pub two_only : ((r y : ℕ) → r < 15 → ((x : ℕ) → is_set r0 (names + (1 + r)) x ≡ true → is_set r0 x y ≡ false) → is_set r0 (names + (16 + r)) y ≡ false)
      → (r y : ℕ) → r < 15 → ((x : ℕ) → is_set r2 (names + (1 + r)) x ≡ true → is_set r2 x y ≡ false) → is_set r2 (names + (16 + r)) y ≡ false
  two_only only r y lt never =
      let before : (x : ℕ) → is_set r0 (names + (1 + r)) x ≡ true → is_set r0 x y ≡ false = λ x has. elim (cases_lt x names) [
        | inl small ↦ sym (name_row x small y) ∙ never x (had r x lt has)
        | inr past ↦ absurd (true≢false (sym has ∙ past_clear names r0 wide (names + (1 + r)) x past))
      ] in
      elim (cases_eq r register) [
        | inl e ↦
            let P : ℕ → Type 0 = λ k. ((x : ℕ) → is_set r2 (names + (1 + k)) x ≡ true → is_set r2 x y ≡ false) → ((x : ℕ) → is_set r0 (names + (1 + k)) x ≡ true → is_set r0 x y ≡ false) → is_set r2 (names + (16 + k)) y ≡ false in
            let here : P register = λ all old. union_row y ∙ or_from (is_set r0 name y) (is_set r0 (names + (16 + register)) y) (sym (name_row name name_in y) ∙ all name own) (only register y register_in old) in
            subst P (sym e) here never before
        | inr ne ↦ other_union r lt ne y ∙ only r y lt before
      ]
