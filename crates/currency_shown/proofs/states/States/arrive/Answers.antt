use Rattle.std.proofs.Common.{Some, ap, arith, refl, sym, ◌∙◌}
use Rattle.std.proofs.lemmas.Option.{slice_get-get_or}
use Rattle.currency_shown.proofs.Chaining.{falls_arrived, full_arrived}
use Rattle.currency_shown.proofs.states.States.arrive.Goals as goal

pub returns-then-is_within-clause-within : goal.returns-then-is_within-clause-within
returns-then-is_within-clause-within c = λ e lt. c.is_within.ensures.within c.if-is_within.true

pub returns-clause-full : goal.returns-clause-full
returns-clause-full c =
    (let old = c.args.self.now in
    let o = c.index_mut.result.now in
    full_arrived c.args.function.now old _ c.args.to o c.come.new.found c.args.state.now (slice_get-get_or old.arrived.items c.args.to o (omega arith) ∙ ap Some (sym c.index_mut.ensures.value)) refl c.in_ok-come.ensures.come)

pub returns-clause-falls : goal.returns-clause-falls
returns-clause-falls c = λ e.
    (let old = c.args.self.now in
    let o = c.index_mut.result.now in
    falls_arrived c.args.function.now old _ c.args.to o c.come.new.found c.args.state.now (slice_get-get_or old.arrived.items c.args.to o (omega arith) ∙ ap Some (sym c.index_mut.ensures.value)) refl c.in_ok-come.ensures.falls
    (c.is_within.ensures.apart c.if-is_within.false))
