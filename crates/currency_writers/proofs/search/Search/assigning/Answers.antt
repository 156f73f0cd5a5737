use Rattle.currency_writers.proofs.Telling.{assigning_ascends, assigning_so}
use Rattle.currency_writers.proofs.search.Search.assigning.Goals as goal

pub returns-clause-places : goal.returns-clause-places
returns-clause-places c = assigning_so c.args.self.now.flow c.get.result.now c.requires.search.flow c.get.ensures

pub returns-clause-ascend : goal.returns-clause-ascend
returns-clause-ascend c = assigning_ascends c.args.self.now.flow c.get.result.now c.requires.search.flow c.get.ensures
