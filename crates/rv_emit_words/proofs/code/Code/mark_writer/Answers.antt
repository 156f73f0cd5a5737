use Rattle.std.proofs.Common.{◌-◌, ap, arith, refl, List}
use Rattle.std.specs.Vec.{vec_len}
use Rattle.rv_emit_words.specs.declared.piece.PlacedPiece.{PlacedPiece}
use Rattle.rv_emit_words.proofs.Counting.{words_set, shown_set, marked_last}
use Rattle.rv_emit_words.proofs.code.Code.mark_writer.Goals as goal

pub returns-in-Some-clause-few : goal.returns-in-Some-clause-few
returns-in-Some-clause-few c = words_set _ _ c.in-Some.last.now _ c.in-Some.ensures.value refl (omega (arith, c.in-Some.ensures.item.3.0))

pub returns-in-Some-clause-stops : goal.returns-in-Some-clause-stops
returns-in-Some-clause-stops c = shown_set c.args.self.now.pieces.items (vec_len c.args.self.now.pieces - 1) c.in-Some.last.now _ _ c.in-Some.ensures.value refl refl (omega (arith, c.in-Some.ensures.item.3.0))

pub returns-in-Some-clause-grown : goal.returns-in-Some-clause-grown
returns-in-Some-clause-grown c = ap (λ (l : List PlacedPiece). record { pieces = l; held = c.args.self.now.held.items; owner = c.args.self.now.owner; begins = c.args.self.now.begins }) (marked_last c.args.self.now.pieces.items (vec_len c.args.self.now.pieces - 1) c.in-Some.last.now c.args.number (omega (arith, c.in-Some.ensures.item.3.0)) c.in-Some.ensures.value)
