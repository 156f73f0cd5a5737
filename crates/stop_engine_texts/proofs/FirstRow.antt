-- The first row of a name among those of a place is the first among all rows.
use Rattle.std.proofs.Common.{◌≡◌, ℕ, ◌==◌, true, false, Bool, Some, List, [], ◌∷◌, refl, ap, ◌∙◌, if◌then◌else◌}
use Rattle.image_form.specs.Form.{Form}
use Rattle.image_form.specs.declared.verdicts.VisibleRow.{VisibleRow}
use Rattle.stop_engine_texts.specs.Shown.{is_row_of, first_row_of}
use Rattle.stop_engine_view.specs.Rows.{rows_at}

-- the first row of a name
pub row_of_place : (m : Form) (place : ℕ) (name : List ℕ) (rows : List VisibleRow) → first_row_of m place name (rows_at place rows) ≡ first_row_of m place name rows
row_of_place m place name [] = refl
row_of_place m place name (r ∷ rows) = by_test (r.place == place) refl (row_of_place m place name rows)
  where
    by_test : (b : Bool) → (r.place == place) ≡ b → first_row_of m place name (rows_at place rows) ≡ first_row_of m place name rows → first_row_of m place name (rows_at place (r ∷ rows)) ≡ first_row_of m place name (r ∷ rows)
    by_test true t rest =
        let first : rows_at place (r ∷ rows) ≡ r ∷ rows_at place rows = rw t refl in
        ap (first_row_of m place name) first ∙ ap (λ o. if is_row_of m place name r then Some r else o) rest
    by_test false t rest = rw t rest
