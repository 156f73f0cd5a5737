use Rattle.std.proofs.Common.{◌≡◌, ℕ, ◌<◌, true}
use Rattle.graph_paths.specs.Flood.{AreSameBut}
use Rattle.graph_paths.specs.PathMarksTable.{bits_of}
use Rattle.copy_pass_rule.proofs.flow.put_entry.Given as goal

abbrev pub invariant-loop-bit : goal.invariant-loop-bit
invariant-loop-bit l = record {
  count : l.marks.count ≡ l.fn.marks.count;
  width : l.marks.width ≡ l.fn.marks.width;
  others : AreSameBut 0 (bits_of l.fn.marks) (bits_of l.marks);
  entry : (bit : ℕ) → bit < l.bit → bits_of l.marks 0 bit ≡ true;
}
