use Rattle.currency.proofs.told.told_of.Goals as goal

pub unreachable-requires : goal.unreachable-requires
unreachable-requires c = c.requires.sourced c.in-Some.note c.in-Some.is c.in-None-change.is

pub hiding_at-requires-clause-ready : goal.hiding_at-requires-clause-ready
hiding_at-requires-clause-ready c = c.requires.ready c.in-None.is

pub hiding_at-requires-clause-hidden : goal.hiding_at-requires-clause-hidden
hiding_at-requires-clause-hidden c = c.requires.some c.in-None.is
