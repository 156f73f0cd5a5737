-- Rows keep their width.
use Rattle.std.proofs.Common.{◌≡◌, ℕ, ◌<◌, ◌≤◌, Bool, false, List, [], length, ap, ◌∙◌, inl, inr, get_or, arith}
use Rattle.std.proofs.lemmas.Bool.{cases_eq, cases_lt}
use Rattle.std.proofs.lemmas.List.{get_or_past}
use Rattle.bit_rows.specs.Grid.{is_set, row_at}
use Rattle.graph_solve.specs.Rows.{AreSameElsewhere}
use Rattle.home_assign.specs.Table.{AreWide}

-- Rows of which one was written have their width.
pub wide_elsewhere : (width row : ℕ) (old new : List (List Bool)) → row < length old → AreSameElsewhere row old new → AreWide width old → AreWide width new
wide_elsewhere width row old new here same wide other lt = elim (cases_eq other row) [
  | inl e ↦ ap (λ r. length (row_at new r)) e ∙ same.width ∙ wide row here
  | inr ne ↦ ap length (same.others other ne) ∙ wide other (omega (arith, lt, same.count))
]

-- behind their width no bit is set
pub past_clear : (width : ℕ) (rows : List (List Bool)) → AreWide width rows → (row bit : ℕ) → width ≤ bit → is_set rows row bit ≡ false
past_clear width rows wide row bit ge = elim (cases_lt row (length rows)) [
  | inl lt ↦ get_or_past (row_at rows row) bit false (omega (arith, wide row lt))
  | inr past ↦ ap (λ r. get_or r bit false) (get_or_past rows row [] past)
]
