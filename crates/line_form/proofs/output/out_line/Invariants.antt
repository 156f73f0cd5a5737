use Rattle.std.proofs.Common.{◌≡◌, ◌++◌, drop, flat_map}
use Rattle.line_form.specs.Lines.{quoted_byte}
use Rattle.line_form.proofs.output.out_line.Given as goal

abbrev pub invariant-loop-byte : goal.invariant-loop-byte
invariant-loop-byte l = l.text.items ++ flat_map quoted_byte (drop l.byte-index l.piece) ≡ l.initial.text.items ++ flat_map quoted_byte l.piece
