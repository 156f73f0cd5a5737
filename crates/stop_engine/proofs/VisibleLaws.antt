-- The lines of the rows of a place are those of the place's among all rows.
use Rattle.std.proofs.Common.{◌≡◌, ℕ, suc, ◌+◌, ◌-◌, ◌<◌, ◌≤◌, ◌==◌, true, false, Bool, Some, List, [], ◌∷◌, ◌++◌, append-nil, drop, map, take, refl, sym, ap, ◌∙◌, if◌then◌else◌, arith}
use Rattle.std.specs.List.{slice_get, slice_range}
use Rattle.std.proofs.lemmas.List.{append_assoc, map-append}
use Rattle.image_form.specs.Form.{Form}
use Rattle.image_form.specs.Views.{viewed}
use Rattle.image_form.specs.declared.verdicts.VisibleRow.{VisibleRow}
use Rattle.rv_machine.specs.State.{MachineState}
use Rattle.stop_engine.specs.EngineState.{RunState}
use Rattle.stop_engine.specs.Shown.{lines_of_rows, locals_lines, or_no_locals, row_line}
use Rattle.stop_engine.specs.Stopping.{IsStopOf}
use Rattle.stop_engine.specs.Transcript.{at_stop}
use Rattle.stop_engine.specs.Visible.{visible_at, visible_line, visible_of, visible_of_row}
use Rattle.stop_engine.specs.declared.locals.Local.{Local}
use Rattle.stop_engine.specs.declared.run.Stop.{Stop}
use Rattle.stop_engine_tables.proofs.Records.{records_from}
use Rattle.stop_engine_view.specs.Rows.{rows_at}
use Rattle.stop_engine.proofs.Answering.{at_stop-said}

-- the rows of a range from one on
rows-next : (rows : List VisibleRow) (n end : ℕ) (row : VisibleRow) → slice_get rows n ≡ Some row → n < end → slice_range rows n end ≡ row ∷ slice_range rows (n + 1) end
rows-next rows n end row got within =
    let count : end - n ≡ suc (end - (n + 1)) = omega (arith, within) in
    ap (take (end - n)) (records_from rows n row got) ∙ ap (λ k. take k (row ∷ drop (n + 1) rows)) count

-- one variable more is seen, by the next row
pub seen-more : (m : Form) (s : MachineState) (n end : ℕ) (row : VisibleRow) (found more : List Local) (local : Local) → slice_get m.rows n ≡ Some row → n < end → visible_of local ≡ visible_of_row m s row → more ≡ found ++ local ∷ []
    → map visible_of more ++ map (visible_of_row m s) (slice_range m.rows (n + 1) end) ≡ map visible_of found ++ map (visible_of_row m s) (slice_range m.rows n end)
seen-more m s n end row found more local got within is pushed =
    let seen = map visible_of found in
    let rest = map (visible_of_row m s) (slice_range m.rows (n + 1) end) in
    let one_more : map visible_of more ≡ seen ++ visible_of_row m s row ∷ [] = ap (map visible_of) pushed ∙ (map-append visible_of found (local ∷ []) ∙ ap (λ v. seen ++ v ∷ []) is) in
    ap (λ l. l ++ rest) one_more ∙ (append_assoc seen (visible_of_row m s row ∷ []) rest ∙ ap (λ l. seen ++ map (visible_of_row m s) l) (sym (rows-next m.rows n end row got within)))

-- and behind the last row no more
pub seen-all : (m : Form) (s : MachineState) (n end : ℕ) (found : List Local) → end ≤ n → map visible_of found ≡ map visible_of found ++ map (visible_of_row m s) (slice_range m.rows n end)
seen-all m s n end found past =
    let none : end - n ≡ 0 = omega (arith, past) in
    sym (append-nil (map visible_of found)) ∙ ap (λ k. map visible_of found ++ map (visible_of_row m s) (take k (drop n m.rows))) (sym none)

-- the lines of the variables that are visible at a place
pub lines_of_place : (m : Form) (s : MachineState) (place : ℕ) (rows : List VisibleRow) → map visible_line (map (visible_of_row m s) (rows_at place rows)) ≡ lines_of_rows m s place rows
lines_of_place m s place [] = refl
lines_of_place m s place (r ∷ rows) = by_test (r.place == place) refl (lines_of_place m s place rows)
  where
    by_test : (b : Bool) → (r.place == place) ≡ b → map visible_line (map (visible_of_row m s) (rows_at place rows)) ≡ lines_of_rows m s place rows
        → map visible_line (map (visible_of_row m s) (rows_at place (r ∷ rows))) ≡ lines_of_rows m s place (r ∷ rows)
    by_test true t rest = rw t (ap (λ l. row_line m s r ∷ l) rest)
    by_test false t rest = rw t rest

-- the lines of `locals`, by what is seen of the variables
pub locals_said : (r : RunState) (stop : Stop) (locals : List Local) (lines : List (List ℕ)) → IsStopOf r stop → map visible_of locals ≡ visible_at (viewed stop.image) stop.machine.now stop.place
    → lines ≡ or_no_locals (map visible_line (map visible_of locals)) → lines ≡ at_stop r.form r.position (locals_lines r.form)
locals_said r stop locals lines is seen said =
    let m = viewed stop.image in
    let all : map visible_line (map visible_of locals) ≡ lines_of_rows m stop.machine.now stop.place m.rows = ap (map visible_line) seen ∙ lines_of_place m stop.machine.now stop.place m.rows in
    at_stop-said r stop (locals_lines r.form) lines is (said ∙ (ap or_no_locals all ∙ ap (λ (n : Form). locals_lines n stop.machine.now stop.place) is.image))
