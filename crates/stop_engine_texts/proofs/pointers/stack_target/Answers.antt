use Rattle.std.proofs.Common.{◌≡◌, refl, suc, ◌+◌, ◌-◌, sym, ◌∙◌, subst, arith}
use Rattle.image_form.specs.Views.{viewed}
use Rattle.rv_machine.specs.State.{reg, word}
use Rattle.stop_engine_view.specs.Pointers.{stack_target}
use Rattle.stop_engine_view.specs.Reading.{depth, greatest_depth}
use Rattle.stop_engine_tables.proofs.NameBounds.{variables_fit}
use Rattle.stop_engine_view.proofs.Targets.{stack_found, stack_last, stack_more}
use Rattle.stop_engine_texts.proofs.pointers.stack_target.Goals as goal

pub returns-in-Some-clause-found : goal.returns-in-Some-clause-found
returns-in-Some-clause-found c =
    let m = viewed c.args.image.now in
    let s = c.args.machine.now in
    let some : c.loop-left.left ≡ suc (c.loop-left.left - 1) = omega arith in
    let so_far = subst (λ n. stack_target n m s c.args.address c.loop-left.at c.loop-left.frame c.loop-left.deep ≡ stack_target greatest_depth m s c.args.address c.args.place (reg s 2) (depth s)) some c.loop-left.invariant.1 in
    stack_found (c.loop-left.left - 1) m s c.args.address c.loop-left.at c.loop-left.frame c.loop-left.deep c.function_of-function.result _ _ refl c.function_of-function.ensures.number c.in-Some.ensures.found ∙ so_far

pub returns-then-caller-eq0-clause-found : goal.returns-then-caller-eq0-clause-found
returns-then-caller-eq0-clause-found c =
    let m = viewed c.args.image.now in
    let s = c.args.machine.now in
    let some : c.loop-left.left ≡ suc (c.loop-left.left - 1) = omega arith in
    let so_far = subst (λ n. stack_target n m s c.args.address c.loop-left.at c.loop-left.frame c.loop-left.deep ≡ stack_target greatest_depth m s c.args.address c.args.place (reg s 2) (depth s)) some c.loop-left.invariant.1 in
    sym (stack_last (c.loop-left.left - 1) m s c.args.address c.loop-left.at c.loop-left.frame c.loop-left.deep c.function_of-function.result c.calling_place-caller.result _ refl c.function_of-function.ensures.number c.in-None.ensures.found c.calling_place-caller.ensures.place c.if-caller-eq0.true) ∙ so_far

pub loop-left-preserved : goal.loop-left-preserved
loop-left-preserved c =
    let m = viewed c.args.image.now in
    let s = c.args.machine.now in
    let some : c.loop-left.left ≡ suc (c.loop-left.left - 1) = omega arith in
    let so_far = subst (λ n. stack_target n m s c.args.address c.loop-left.at c.loop-left.frame c.loop-left.deep ≡ stack_target greatest_depth m s c.args.address c.args.place (reg s 2) (depth s)) some c.loop-left.invariant.1 in (
      c.calling_place-caller.ensures.number c.if-caller-eq0.false,
      subst (λ size. stack_target (c.loop-left.left - 1) m s c.args.address c.calling_place-caller.result (word (c.loop-left.frame + size)) (word (c.loop-left.deep + 4294967295)) ≡ stack_target greatest_depth m s c.args.address c.args.place (reg s 2) (depth s)) (sym c.frame_of-frame.ensures)
          (sym (stack_more (c.loop-left.left - 1) m s c.args.address c.loop-left.at c.loop-left.frame c.loop-left.deep c.function_of-function.result c.calling_place-caller.result _ refl c.function_of-function.ensures.number c.in-None.ensures.found c.calling_place-caller.ensures.place c.if-caller-eq0.false) ∙ so_far),
    )

pub local_target-requires : goal.local_target-requires
local_target-requires c = record { lists = c.requires.lists; few = variables_fit (viewed c.args.image.now) c.requires.image; function = c.function_of-function.ensures.within }
