use Rattle.std.proofs.Common.{◌++◌, ap, ◌∙◌}
use Rattle.debug_records.specs.declared.change.Place.{Place}
use Rattle.line_form.specs.Lines.{spaced_number}
use Rattle.line_form.proofs.Sequences.{piece_more}
use Rattle.line_form.proofs.commands.push_places.Goals as goal

pub loop-place-preserved : goal.loop-place-preserved
loop-place-preserved c =
    piece_more spaced_number (λ (p : Place). p.0) c.args.places.now c.loop-place.place-index _ c.loop-place.text.items c.extend_from_slice.new.self.items _ c.loop-place-test.true
    (c.in_ok-extend_from_slice.ensures.items ∙ ap (λ t. c.loop-place.text.items ++ t) (c.deref.ensures.value ∙ c.in_ok-piece.ensures)) c.loop-place.invariant
