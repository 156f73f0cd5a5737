use Rattle.std.proofs.Common.{subst, ◌<◌, ◌∙◌}
use Rattle.currency_shown.specs.declared.states.States as declared-states
use Rattle.currency_shown.specs.Chains.{ranks}
use Rattle.currency_shown.proofs.Walking.{walked_of}
use Rattle.currency_shown.proofs.survey.Survey.walk.Goals as goal

pub add_chains-requires-clause-full : goal.add_chains-requires-clause-full
add_chains-requires-clause-full c = c.in_ok-arrive.ensures.full c.requires.full c.requires.entered

pub returns-clause-falls : goal.returns-clause-falls
returns-clause-falls c = λ e.
    subst (λ (s : declared-states.States). ranks c.args.self.now.function.now c.add_chains.new.states < ranks c.args.self.now.function.now s) (c.in_ok-arrive.ensures.quiet c.if-branch.false) (c.in_ok-is_new.ensures.falls e)

pub returns-clause-walked : goal.returns-clause-walked
returns-clause-walked c = λ e.
    (let old = c.args.states.now in
    let one = c.in_ok-arrive.ensures.quiet c.if-branch.false in
    walked_of c.args.self.now old _ _ c.add_chains.new.found c.args.entered.now c.requires.survey c.requires.full one (c.in_ok-is_new.ensures.quiet e) (c.in_ok-arrive.ensures.within c.if-branch.false)
    (c.in_ok-is_new.ensures.sound e) c.in_ok-is_new.ensures.met)

pub returns-clause-quiet : goal.returns-clause-quiet
returns-clause-quiet c = λ e. c.in_ok-is_new.ensures.quiet e ∙ c.in_ok-arrive.ensures.quiet c.if-branch.false
