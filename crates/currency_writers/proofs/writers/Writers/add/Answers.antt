use Rattle.std.proofs.Common.{ap}
use Rattle.currency_writers.specs.Writers.{placed}
use Rattle.currency_writers.proofs.writers.Writers.add.Goals as goal

pub push-requires-clause-lists : goal.push-requires-clause-lists
push-requires-clause-lists c = c.requires.lists c.in-Some.place.0 c.args.name c.args.writer (c.requires.writes c.in-Some.place.0 (ap placed c.in-Some.is))
