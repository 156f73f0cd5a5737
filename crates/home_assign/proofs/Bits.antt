-- Bits of rows that are written, or that meet.
use Rattle.std.proofs.Common.{◌≡◌, ℕ, ◌<◌, ◌==◌, Bool, false, cond, List, [], length, sym, ap, ◌∙◌, inl, inr, ◌↔◌, get_or}
use Rattle.std.proofs.Math.ListN.{set}
use Rattle.std.proofs.lemmas.Bool.{cond-true, cond-false}
use Rattle.std.proofs.lemmas.Bool.Decides.{eqb_tells}
use Rattle.std.proofs.lemmas.List.{get_or-set_same, get_or-set_other, set-get_or, ext_get_or}
use Rattle.bit_rows.specs.Grid.{is_set, row_at, with_bit, met, met_bit}
use Rattle.bit_rows.proofs.Bits.{met_clear}
use Rattle.graph_solve.specs.Rows.{AreSameElsewhere}
use Rattle.graph_solve.proofs.Bitsets.{get_joined, length_joined}
use Rattle.graph_solve.proofs.RowSets.{row_elsewhere}

-- a bit that is written
pub bit_written : (rows : List (List Bool)) (row bit : ℕ) (b : Bool) → row < length rows → bit < length (row_at rows row) → (c : ℕ) → is_set (with_bit rows row bit b) row c ≡ cond (bit == c) b (is_set rows row c)
bit_written rows row bit b here within c = ap (λ r. get_or r c false) (get_or-set_same rows row (set (row_at rows row) bit b) [] here) ∙ elim (eqb_tells bit c) [
  | inl h ↦ ap (λ n. get_or (set (row_at rows row) bit b) n false) (sym h.1) ∙ get_or-set_same (row_at rows row) bit b false within ∙ sym (cond-true (bit == c) b (is_set rows row c) h.0)
  | inr h ↦ get_or-set_other (row_at rows row) bit c b false (λ e. h.1 (sym e)) ∙ sym (cond-false (bit == c) b (is_set rows row c) h.0)
]

-- rows that meet
module _ (rows new : List (List Bool)) (from to : ℕ) (unite : Bool) (here : to < length rows) (wide : length (row_at rows from) ≡ length (row_at rows to)) (is : new ≡ set rows to (met unite (row_at rows from) (row_at rows to))) where
  pub met_elsewhere : AreSameElsewhere to rows new
  met_elsewhere = rw is (row_elsewhere rows to (met unite (row_at rows from) (row_at rows to)) here (length_joined (met_bit unite) (row_at rows from) (row_at rows to) wide ∙ wide))

  pub met_here : (bit : ℕ) → is_set new to bit ≡ met_bit unite (is_set rows from bit) (is_set rows to bit)
  met_here bit = ap (λ all. is_set all to bit) is ∙ ap (λ r. get_or r bit false) (get_or-set_same rows to (met unite (row_at rows from) (row_at rows to)) [] here)
      ∙ get_joined (met_bit unite) (met_clear unite) (row_at rows from) (row_at rows to) wide bit

  pub met_changed : (changed : Bool) → (changed ≡ false) ↔ (new ≡ rows) → (changed ≡ false) ↔ ((bit : ℕ) → is_set new to bit ≡ is_set rows to bit)
  met_changed changed tells = (
    (λ e bit. ap (λ all. is_set all to bit) (tells.0 e)),
    (λ same. tells.1 (is ∙ ap (set rows to) (ext_get_or false (met unite (row_at rows from) (row_at rows to)) (row_at rows to) (length_joined (met_bit unite) (row_at rows from) (row_at rows to) wide ∙ wide)
        (λ bit lt. sym (get_joined_at bit) ∙ same bit)) ∙ set-get_or rows to [])),
  )
    where
      get_joined_at : (bit : ℕ) → is_set new to bit ≡ get_or (met unite (row_at rows from) (row_at rows to)) bit false
      get_joined_at bit = ap (λ all. is_set all to bit) is ∙ ap (λ r. get_or r bit false) (get_or-set_same rows to (met unite (row_at rows from) (row_at rows to)) [] here)
