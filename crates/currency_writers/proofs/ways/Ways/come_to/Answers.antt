use Rattle.currency_writers.proofs.Flooding.{more_blocked, more_pushed}
use Rattle.currency_writers.proofs.ways.Ways.come_to.Goals as goal

pub returns-then-has-2-clause-more : goal.returns-then-has-2-clause-more
returns-then-has-2-clause-more g c = more_blocked c.args.self c.args.told.now c.put.new.self c.args.ahead.now.items c.args.place c.args.value c.put.ensures.put (c.has-2.ensures.0 c.if-has-2.true)

pub returns-clause-more : goal.returns-clause-more
returns-clause-more g c = more_pushed c.args.self c.args.told.now c.put.new.self c.args.ahead.now.items c.push.new.self.items c.args.place c.args.value c.put.ensures.put c.in_ok-push.ensures.items
