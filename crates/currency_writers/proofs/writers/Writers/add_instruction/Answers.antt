use Rattle.currency_writers.specs.Order.{rank_of}
use Rattle.currency_writers.proofs.Order.{no_later_same}
use Rattle.currency_writers.proofs.writers.Writers.add_instruction.Goals as goal

pub returns-in_ok-add-in-Some-clause-next : goal.returns-in_ok-add-in-Some-clause-next
returns-in_ok-add-in-Some-clause-next c = c.in_ok-add-in-Some.ensures.next (rank_of c.args.writer) (no_later_same (rank_of c.args.writer)) c.requires.next
