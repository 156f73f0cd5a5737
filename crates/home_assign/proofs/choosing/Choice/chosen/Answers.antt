use Rattle.home_assign.specs.Registers.{IsFreeFor}
use Rattle.home_assign.specs.Choosing.{IsWished, wished}
use Rattle.home_assign.proofs.Choices.{chosen_after, free_back_same, free_same}
use Rattle.home_assign.proofs.choosing.Choice.chosen.Goals as goal

pub returns-in-Some-clause-chosen : goal.returns-in-Some-clause-chosen
returns-in-Some-clause-chosen c = wished c.in-Some.ensures.some.0 c.in-Some.ensures.some.1

pub returns-in-None-clause-chosen : goal.returns-in-None-clause-chosen
returns-in-None-clause-chosen c =
    let before = c.args.interference.now in
    let after = c.joined.new.interference in
    chosen_after (IsWished c.args.self.now.homes.items c.args.joined) (λ k. IsFreeFor before k c.args.name) (λ k. IsFreeFor after k c.args.name) (c.joined.ensures.none c.in-None.is)
    (λ k lt free. free_same before after k c.args.name c.joined.ensures.clashes c.joined.ensures.registers lt c.requires free)
    (λ k lt free. free_back_same before after k c.args.name c.joined.ensures.clashes c.joined.ensures.registers lt c.requires free) c.first_free.result c.first_free.ensures.some c.first_free.ensures.none
