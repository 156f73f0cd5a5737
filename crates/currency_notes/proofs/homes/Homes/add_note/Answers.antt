use Rattle.std.proofs.Common.{ap, sym, subst, ◌∙◌}
use Rattle.graph_core.specs.Graphs.{Is, instruction_view, note_view}
use Rattle.currency_notes.specs.Numbers.{IsReaderOf}
use Rattle.currency_notes.proofs.Numbering.{same_scalar, same_value}
use Rattle.currency_notes.proofs.homes.Homes.add_note.Goals as goal

pub returns-in_ok-add_value-in-Note-clause-read : goal.returns-in_ok-add_value-in-Note-clause-read
returns-in_ok-add_value-in-Note-clause-read c = λ orderly x r said y among.
    (let both = ap instruction_view (sym c.in-Note.is) ∙ said in
    subst (λ k. IsReaderOf c.add_value.new.self y k) (same_scalar c.in-Note.of.0 x (note_view c.in-Note.value) (Is r) both)
    (c.in_ok-add_value-in-Note.ensures.read orderly r (same_value c.in-Note.of.0 x (note_view c.in-Note.value) (Is r) both) y among))
