use Rattle.std.proofs.Common.{◌≡◌, ◌<◌, ℕ, get_or, length, subst, sym, ◌∙◌}
use Rattle.graph_core.proofs.Among.{among_one}
use Rattle.currency_shown.specs.Chains.{comes_to, AreEqualAll, IsFullAtStart}
use Rattle.currency_shown.proofs.Chaining.{start_of}
use Rattle.currency_shown.proofs.Walking.{reached_by, reached_not}
use Rattle.currency_shown.proofs.survey.Survey.add_reached.Goals as goal

pub add_chain-requires-clause-full : goal.add_chain-requires-clause-full
add_chain-requires-clause-full c = λ l among.
    (let f = c.args.self.now.function.now in
    let first = get_or c.args.chain.now 0 0 in
    let equal = subst (λ o. AreEqualAll o (comes_to c.args.states.now first)) c.in-Some.is c.in_ok-state.ensures in
    subst (λ k. IsFullAtStart f c.in-Some.state k) (sym (among_one among)) (start_of f c.args.states.now first c.in-Some.state equal c.requires.full))

pub returns-in_ok-is_new-in-Some-clause-sound : goal.returns-in_ok-is_new-in-Some-clause-sound
returns-in_ok-is_new-in-Some-clause-sound c = λ e later more.
    (let v = c.args.self.now in
    let states = c.args.states.now in
    let first = get_or c.args.chain.now 0 0 in
    let equal = subst (λ o. AreEqualAll o (comes_to states first)) c.in-Some.is c.in_ok-state.ensures in
    reached_by v states later c.args.chain.now 0 c.in-Some.state equal
    (c.in_ok-end-in-Some.ensures.sound states later more (λ l among lt. (c.in_ok-end-in-Some.ensures.starts l among lt, c.in_ok-is_new-in-Some.ensures.within e l among (subst (λ n. l < n) (sym c.requires.full.count) lt)))))

pub returns-in-None-clause-sound : goal.returns-in-None-clause-sound
returns-in-None-clause-sound c = λ e later more.
    reached_not c.args.self.now c.args.states.now later c.args.chain.now 0 (subst (λ o. AreEqualAll o (comes_to c.args.states.now (get_or c.args.chain.now 0 0))) c.in-None.is c.in_ok-state.ensures)
