use Rattle.std.proofs.Common.{refl}
use Rattle.currency_writers.proofs.Telling.{ways_past}
use Rattle.currency_writers.proofs.flow.Flow.past.Goals as goal

pub returns-clause-ways : goal.returns-clause-ways
returns-clause-ways c = ways_past c.args.self.now _ c.requires.flow c.requires.room c.deref.ensures.value refl
