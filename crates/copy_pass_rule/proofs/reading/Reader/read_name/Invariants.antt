use Rattle.std.proofs.Common.{◌≡◌, drop}
use Rattle.copy_pass_rule.specs.Flow.{missing_in, source_among}
use Rattle.copy_pass_rule.specs.Reader.{read_as}
use Rattle.graph_paths.specs.PathMarksTable.{bits_of}
use Rattle.copy_pass_rule.proofs.reading.Reader.read_name.Given as goal

abbrev pub invariant-loop-k : goal.invariant-loop-k
invariant-loop-k l = source_among (drop l.k l.self.copies.now.all.now) (missing_in (bits_of l.self.marks.now) l.self.row) l.k l.name ≡ read_as l.self l.name
