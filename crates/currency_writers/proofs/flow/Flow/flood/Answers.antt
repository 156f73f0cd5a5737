use Rattle.currency_writers.proofs.Telling.{closed_of, shut_of, told_from, told_of}
use Rattle.currency_writers.proofs.flow.Flow.flood.Goals as goal

pub flood-requires-clause-shut : goal.flood-requires-clause-shut
flood-requires-clause-shut g c = shut_of c.args.self.now c.ways.result c.requires.blocked c.ways.ensures.steps c.ways.ensures.blocked c.args.told.now c.requires.closed

pub returns-clause-told : goal.returns-clause-told
returns-clause-told g c = told_from c.args.self.now c.ways.result c.requires.blocked c.ways.ensures.steps c.ways.ensures.blocked c.args.from c.args.value c.args.told.now c.flood.new.told c.in_ok-flood.ensures.told

pub returns-clause-closed : goal.returns-clause-closed
returns-clause-closed g c = closed_of c.args.self.now c.ways.result c.requires.blocked c.ways.ensures.steps c.ways.ensures.blocked c.flood.new.told c.in_ok-flood.ensures.shut

pub returns-clause-all : goal.returns-clause-all
returns-clause-all g c = told_of c.args.self.now c.ways.result c.requires.blocked c.ways.ensures.steps c.ways.ensures.blocked c.args.from c.flood.new.told c.in_ok-flood.ensures.all
