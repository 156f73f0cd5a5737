-- Rows keep their width.
use Rattle.std.proofs.Common.{◌≡◌, ℕ, ◌<◌, Bool, List, [], ◌∷◌, length, refl, sym, ap, ◌∙◌, inl, inr, subst, arith}
use Rattle.std.specs.Prelude.{slice_set, ◌&&◌, ◌||◌}
use Rattle.std.proofs.lemmas.Bool.{cases_eq}
use Rattle.std.proofs.lemmas.List.{length-set, get_or-set_same, get_or-set_other}
use Rattle.bit_rows.specs.Grid.{row_at, joined, met, met_bit, passed}
use Rattle.graph_paths.specs.Table.{AreWide}

pub wide_set : (width : ℕ) (rows : List (List Bool)) (row : ℕ) (new : List Bool) → length new ≡ width → AreWide width rows → AreWide width (slice_set rows row new)
wide_set width rows row new e wide k lt =
    let inside : k < length rows = (let P : ℕ → Type 0 = λ n. k < n in subst P (length-set rows row new) lt) in
    elim (cases_eq k row) [
      | inl same ↦ (let P : ℕ → Type 0 = λ j. length (row_at (slice_set rows row new) j) ≡ width in
          subst P (sym same) (ap (λ r. length r) (get_or-set_same rows row new [] (let Q : ℕ → Type 0 = λ j. j < length rows in subst Q same inside)) ∙ e))
      | inr other ↦ ap (λ r. length r) (get_or-set_other rows row k new [] other) ∙ wide k inside
    ]

pub joined_length : (f : Bool → Bool → Bool) (xs ys : List Bool) → length xs ≡ length ys → length (joined f xs ys) ≡ length ys
joined_length f [] [] e = refl
joined_length f [] (y ∷ ys) e = omega (arith, e)
joined_length f (x ∷ xs) [] e = omega (arith, e)
joined_length f (x ∷ xs) (y ∷ ys) e = (let h = joined_length f xs ys (omega (arith, e)) in omega (arith, h))

pub wide_met : (width : ℕ) (rows : List (List Bool)) (from to : ℕ) (unite : Bool) → from < length rows → to < length rows → AreWide width rows → AreWide width (slice_set rows to (met unite (row_at rows from) (row_at rows to)))
wide_met width rows from to unite f t wide = wide_set width rows to (met unite (row_at rows from) (row_at rows to)) (joined_length (met_bit unite) (row_at rows from) (row_at rows to) (wide from f ∙ sym (wide to t)) ∙ wide to t) wide

pub met_rows : (rows : List (List Bool)) (to : ℕ) (new : List Bool) → length (slice_set rows to new) ≡ length rows
met_rows rows to new = length-set rows to new

pub wide_passed : (width : ℕ) (rows : List (List Bool)) (to : ℕ) (row kept written : List Bool) → length row ≡ width → length kept ≡ width → length written ≡ width → AreWide width rows → AreWide width (slice_set rows to (passed row kept written))
wide_passed width rows to row kept written r k w wide =
    let both : length (joined (λ a b. a && b) row kept) ≡ width = joined_length (λ a b. a && b) row kept (r ∙ sym k) ∙ k in
    wide_set width rows to (passed row kept written) (joined_length (λ a b. a || b) (joined (λ a b. a && b) row kept) written (both ∙ sym w) ∙ w) wide
