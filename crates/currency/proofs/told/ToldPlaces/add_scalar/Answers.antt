use Rattle.std.proofs.Common.{length}
use Rattle.currency.proofs.Hiding.{can_same, scalar_hiding}
use Rattle.currency.proofs.told.ToldPlaces.add_scalar.Goals as goal

pub add_entries-requires-clause-ready : goal.add_entries-requires-clause-ready
add_entries-requires-clause-ready c = λ u among none. (c.in_ok-ask.ensures.ready (c.is_hidden_somewhere-is_asked.ensures u among none)).0

pub add_entries-requires-clause-can : goal.add_entries-requires-clause-can
add_entries-requires-clause-can c =
    (let asked = c.in_ok-ask.ensures in
    can_same c.args.teller.now c.ask.new.teller c.args.function.now c.ask.new.function c.args.scalar c.args.var.0 (length c.args.self.now.by_place.items) c.args.unshown.now asked.teller asked.function
    (λ u among none. (let ready = asked.ready (c.is_hidden_somewhere-is_asked.ensures u among none) in (ready.1, ready.2))) c.requires.can)

pub returns-clause-hiding : goal.returns-clause-hiding
returns-clause-hiding c =
    (let asked = c.in_ok-ask.ensures in
    let added = c.in_ok-add_entries.ensures in
    scalar_hiding c.args.teller.now c.ask.new.teller c.args.function.now c.ask.new.function c.args.scalar c.args.var c.args.unshown.now c.args.self.now c.add_entries.new.self asked.teller asked.function
    (λ u among none. (let ready = asked.ready (c.is_hidden_somewhere-is_asked.ensures u among none) in (ready.1, ready.2))) added.told added.hiding)
