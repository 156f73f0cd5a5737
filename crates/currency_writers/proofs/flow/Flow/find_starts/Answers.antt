use Rattle.currency_writers.proofs.Telling.{least_of, starts_of}
use Rattle.currency_writers.proofs.flow.Flow.find_starts.Goals as goal

pub returns-clause-starts : goal.returns-clause-starts
returns-clause-starts c = starts_of c.args.self.now c.ways.result c.requires.blocked c.ways.ensures.steps c.ways.ensures.blocked c.get-from.result.now c.find_starts.new.starts c.requires.flow c.get-from.ensures c.in_ok-find_starts.ensures.starts

pub returns-clause-least : goal.returns-clause-least
returns-clause-least c = least_of c.args.self.now c.ways.result c.requires.blocked c.ways.ensures.steps c.ways.ensures.blocked c.get-from.result.now c.find_starts.new.starts c.requires.flow c.get-from.ensures c.in_ok-find_starts.ensures.least
