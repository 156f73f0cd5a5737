-- A bit that is asked for is that of the set of its row.
use Rattle.std.proofs.Common.{◌≡◌, ℕ, ◌+◌, ◌<◌, Bool, List, Some, sym, ap, ◌∙◌, arith}
use Rattle.std.specs.Prelude.{slice_get}
use Rattle.std.specs.FinSet.{contains}
use Rattle.std.proofs.lemmas.List.FromFn.{length-map-range_with_len}
use Rattle.std.proofs.lemmas.Option.{slice_get-get_or, same_Some}
use Rattle.bit_rows.specs.Grid.{is_set, row_at}
use Rattle.bit_rows.proofs.Bits.{at_index}
use Rattle.graph_solve_problem.specs.Numbers.{Numbers}
use Rattle.graph_solve.specs.Rows.{set_at, sets_at}
use Rattle.graph_solve.proofs.Bitsets.{in_row, at_sets}

pub asked_first : (rows : List (List Bool)) (count block fact : ℕ) (facts : Numbers) → block < count → slice_get (sets_at rows 0 count) block ≡ Some facts → is_set rows block fact ≡ contains facts fact
asked_first rows count block fact facts lt at = sym (in_row (row_at rows block) fact) ∙ ap (λ (s : Numbers). contains s fact) (same_Some _ _ (sym (at_sets rows count block lt) ∙ at))

pub further_at : (rows : List (List Bool)) (count block : ℕ) → block < count → slice_get (sets_at rows count count) block ≡ Some (set_at rows (count + block))
further_at rows count block lt =
    slice_get-get_or (sets_at rows count count) block (set_at rows (count + block)) (omega (arith, lt, length-map-range_with_len (λ row. set_at rows (count + row)) 0 count))
    ∙ ap Some (at_index (λ row. set_at rows (count + row)) count block (set_at rows (count + block)) lt)

pub asked_further : (rows : List (List Bool)) (count block fact : ℕ) (facts : Numbers) → block < count → slice_get (sets_at rows count count) block ≡ Some facts → is_set rows (count + block) fact ≡ contains facts fact
asked_further rows count block fact facts lt at =
    sym (in_row (row_at rows (count + block)) fact) ∙ ap (λ (s : Numbers). contains s fact) (same_Some _ _ (sym (further_at rows count block lt) ∙ at))
