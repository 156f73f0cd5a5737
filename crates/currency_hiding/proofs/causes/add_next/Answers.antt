use Rattle.std.proofs.Common.{inl}
use Rattle.currency_hiding.proofs.First.{via_last}
use Rattle.currency_hiding.proofs.causes.add_next.Goals as goal

pub returns-then-is_again-clause-only : goal.returns-then-is_again-clause-only
returns-then-is_again-clause-only c = λ v there. inl there

pub returns-then-is_again-clause-there : goal.returns-then-is_again-clause-there
returns-then-is_again-clause-there c = via_last c.args.search.now c.args.vias.now.items c.args.last c.args.write (c.is_again.ensures.same c.if-is_again.true) (c.is_again.ensures.some c.if-is_again.true) c.requires.last
