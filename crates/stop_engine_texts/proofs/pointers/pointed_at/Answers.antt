use Rattle.std.proofs.Common.{Option, sym, ap, ◌∙◌}
use Rattle.image_form.specs.Views.{viewed}
use Rattle.rv_machine.specs.State.{reg}
use Rattle.stop_engine_view.specs.Pointers.{target_or_else, stack_target}
use Rattle.stop_engine_view.specs.Reading.{depth, greatest_depth}
use Rattle.stop_engine_view.specs.declared.target.Target.{Target}
use Rattle.stop_engine_tables.proofs.NameBounds.{variables_fit}
use Rattle.stop_engine_texts.proofs.pointers.pointed_at.Goals as goal

pub static_target-requires : goal.static_target-requires
static_target-requires c = record { lists = c.requires.lists; few = variables_fit (viewed c.args.image.now) c.requires.image }

pub returns-in-Some-clause-found : goal.returns-in-Some-clause-found
returns-in-Some-clause-found c =
    let m = viewed c.args.image.now in
    let s = c.args.machine.now in
    ap (λ (o : Option Target). target_or_else o (stack_target greatest_depth m s c.args.address c.args.place (reg s 2) (depth s))) (sym c.in-Some.is ∙ c.static_target.ensures.found)

pub returns-in-None-clause-found : goal.returns-in-None-clause-found
returns-in-None-clause-found c =
    let m = viewed c.args.image.now in
    let s = c.args.machine.now in
    c.stack_target.ensures.found
    ∙ ap (λ (o : Option Target). target_or_else o (stack_target greatest_depth m s c.args.address c.args.place (reg s 2) (depth s))) (sym c.in-None.is ∙ c.static_target.ensures.found)
