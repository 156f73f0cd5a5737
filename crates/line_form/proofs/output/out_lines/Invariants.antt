use Rattle.std.proofs.Common.{◌≡◌, ◌++◌, map}
use Rattle.std.specs.Slice.Iter.{chunks_rest, chunks_size}
use Rattle.line_form.specs.Lines.{out_lines}
use Rattle.line_form.proofs.output.out_lines.Given as goal

abbrev pub invariant-loop-piece : goal.invariant-loop-piece
invariant-loop-piece l = record {
  left : map (λ text. text.items) l.lines.items ++ out_lines (chunks_rest l.piece-iterator) ≡ out_lines l.output;
  size : chunks_size l.piece-iterator ≡ 64;
}
