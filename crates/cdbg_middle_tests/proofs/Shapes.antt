-- Rows of bits keep their shape.
use Rattle.std.proofs.Common.{◌≡◌, ℕ, zero, suc, ◌<◌, inl, inr, Bool, true, false, List, [], ◌∷◌, length, replicate, refl, sym, ap, ◌∙◌, subst, arith}
use Rattle.std.specs.Prelude.{slice_set}
use Rattle.std.proofs.lemmas.Bool.{cases_eq}
use Rattle.std.proofs.lemmas.List.{length-set, length-replicate, get_or-set_same, get_or-set_other}
use Rattle.bit_rows.specs.Grid.{row_at, with_bit, joined, met, met_bit}
use Rattle.cdbg_middle_tests.specs.Passing.{HasShape}

at_replicate : (count k : ℕ) (row : List Bool) → k < count → row_at (replicate count row) k ≡ row
at_replicate zero k row lt = absurd (omega (arith, lt))
at_replicate (suc count) zero row lt = refl
at_replicate (suc count) (suc k) row lt = at_replicate count k row (omega (arith, lt))

pub new_shape : (count width : ℕ) → HasShape count width (replicate count (replicate width false))
new_shape count width = record {
  rows_are = length-replicate count (replicate width false);
  widths_are = λ row lt. ap length (at_replicate count row (replicate width false) lt) ∙ length-replicate width false;
}

pub set_shape : (count width : ℕ) (rows : List (List Bool)) (to : ℕ) (row : List Bool) → HasShape count width rows → to < count → length row ≡ width → HasShape count width (slice_set rows to row)
set_shape count width rows to row shape lt wide = record {
  rows_are = length-set rows to row ∙ shape.rows_are;
  widths_are = λ k less. elim (cases_eq k to) [
    | inl e ↦ ap (λ n. length (row_at (slice_set rows to row) n)) e ∙ ap length (get_or-set_same rows to row [] (omega (arith, lt, shape.rows_are))) ∙ wide
    | inr ne ↦ ap length (get_or-set_other rows to k row [] ne) ∙ shape.widths_are k less
  ];
}

pub bit_shape : (count width : ℕ) (rows : List (List Bool)) (row bit : ℕ) (b : Bool) → HasShape count width rows → row < count → HasShape count width (with_bit rows row bit b)
bit_shape count width rows row bit b shape lt = set_shape count width rows row _ shape lt (length-set (row_at rows row) bit b ∙ shape.widths_are row lt)

length_joined : (f : Bool → Bool → Bool) (a b : List Bool) → length a ≡ length b → length (joined f a b) ≡ length a
length_joined f [] b len = refl
length_joined f (x ∷ a) [] len = absurd (omega (arith, len))
length_joined f (x ∷ a) (y ∷ b) len = ap suc (length_joined f a b (omega (arith, len)))

pub met_shape : (unite : Bool) (rows : List (List Bool)) → HasShape 2 70 rows → HasShape 2 70 (slice_set rows 1 (met unite (row_at rows 0) (row_at rows 1)))
met_shape unite rows shape =
    let first : length (row_at rows 0) ≡ 70 = shape.widths_are 0 (omega arith) in
    let second : length (row_at rows 1) ≡ 70 = shape.widths_are 1 (omega arith) in
    set_shape 2 70 rows 1 _ shape (omega arith) (length_joined (met_bit unite) (row_at rows 0) (row_at rows 1) (first ∙ sym second) ∙ first)
