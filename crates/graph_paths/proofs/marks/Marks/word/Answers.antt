use Rattle.std.proofs.Common.{arith}
use Rattle.graph_paths.proofs.marks.Marks.word.Goals as goal

pub word-requires-clause-index : goal.word-requires-clause-index
word-requires-clause-index c = let m = c.args.self.now in omega (arith, m.wide c.args.row (omega (arith, m.each, c.requires.row)), c.requires.index)
