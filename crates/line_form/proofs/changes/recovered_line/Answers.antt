use Rattle.line_form.proofs.Sequences.{three_more}
use Rattle.line_form.specs.Changes.{recovered_line}
use Rattle.line_form.proofs.changes.recovered_line.Goals as goal

pub returns : goal.returns
unfolding recovered_line
returns c = three_more _ _ _ _ _ _ _ _ c.in_ok-text.ensures c.in_ok-extend_from_slice.ensures.items c.in_ok-extend_from_slice-2.ensures.items c.in_ok-extend_from_slice-3.ensures.items
