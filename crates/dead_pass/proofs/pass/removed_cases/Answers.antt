use Rattle.std.proofs.Common.{◌≡◌, ◌<◌, ◌≤◌, List, Some, length, map, refl, sym, ap, ◌∙◌, subst, arith}
use Rattle.std.specs.Prelude.{option_map, slice_get}
use Rattle.std.specs.declared.vec.Vec.{Vec}
use Rattle.std.specs.declared.alloc.Global.{Global}
use Rattle.std.proofs.lemmas.List.{length-map}
use Rattle.std.proofs.lemmas.Option.{slice_get-map, slice_get_read}
use Rattle.pass_law.proofs.OfFunctions.{AreCasesBelow, cases_first, cases_last, cases_next, function_step}
use Rattle.dead_pass_rule.specs.Asking.{is_going}
use Rattle.dead_pass_rule.specs.Certified.{AreIdle}
use Rattle.dead_pass_rule.specs.Walks.{turn_of}
use Rattle.dead_pass_notes.specs.Idle.{IsBorneOut, IsOf, graph_of}
use Rattle.dead_pass_notes.specs.Writes.{IsRemovedWrite}
use Rattle.dead_pass.proofs.Leaving.{one_of_all}
use Rattle.dead_pass.proofs.pass.removed_cases.Goals as goal

pub loop-number-init : goal.loop-number-init
loop-number-init c = λ assignments of.
    (let gs = map graph_of c.args.idle.now in
    subst (AreCasesBelow (λ before after. IsRemovedWrite assignments before) gs gs 0) (sym c.new-cases.ensures.items) (cases_first (λ before after. IsRemovedWrite assignments before) gs gs))

pub loop-number-preserved : goal.loop-number-preserved
loop-number-preserved c = λ assignments of.
    (let xs = c.args.idle.now in
    let gs = map graph_of xs in
    let k = c.loop-number.number in
    let one = c.index-idle-number.result in
    let test = c.loop-number-test.true in
    let inside : k < length xs = omega (arith, test) in
    let borne : IsBorneOut one = one_of_all IsBorneOut xs k one inside c.index-idle-number.is c.requires in
    let its : IsOf assignments one = one_of_all (IsOf assignments) xs k one inside c.index-idle-number.is of in
    let idle : AreIdle assignments (graph_of one) (is_going (turn_of c.deref.result.now)) =
    subst (λ (ts : List (Vec _ Global)). AreIdle assignments (graph_of one) (is_going (turn_of ts))) (sym c.deref.ensures.value) (subst (λ l. AreIdle l (graph_of one) (is_going (turn_of one.turns.items))) its borne.goes) in
    let there : slice_get gs k ≡ Some (graph_of one) = slice_get-map graph_of xs k ∙ ap (option_map graph_of) (slice_get_read xs (length xs) k one refl inside c.index-idle-number.is) in
    cases_next (λ before after. IsRemovedWrite assignments before) gs gs k _ _ (c.loop-number.invariant assignments of)
    (function_step (λ before after. IsRemovedWrite assignments before) gs gs k (graph_of one) (graph_of one) _ _ there there (c.in_ok-removed_writes.ensures assignments idle)))

pub returns : goal.returns
returns c = λ assignments of.
    (let gs = map graph_of c.args.idle.now in
    let long = length-map c.args.idle.now graph_of in
    let test = c.loop-number-test.false in
    let whole : length gs ≤ c.loop-number.number = omega (arith, long, test) in
    cases_last (λ before after. IsRemovedWrite assignments before) gs gs c.loop-number.number _ whole (c.loop-number.invariant assignments of))
