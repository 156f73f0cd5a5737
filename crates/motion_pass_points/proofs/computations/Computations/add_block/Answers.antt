use Rattle.std.proofs.Common.{◌≡◌, ◌∷◌, ◌-◌, Some, length, map, take, drop, refl, sym, ap, ◌∙◌, subst, arith}
use Rattle.std.specs.Prelude.{option_map}
use Rattle.graph_core.specs.Graphs.{instruction_view}
use Rattle.graph_core.specs.Computations.{computed_by}
use Rattle.motion_pass_points.specs.MotionPointsComputing.{computation_view, computed_along}
use Rattle.motion_pass_points.specs.Numbers.{views_of}
use Rattle.motion_pass_points.proofs.Few.{none_ahead, one_ahead}
use Rattle.motion_pass_points.proofs.Passing.{ArePassed, passed_first, passed_one, whole_is}
use Rattle.motion_pass_points.proofs.computations.Computations.add_block.Goals as goal

pub loop-ahead-init : goal.loop-ahead-init
loop-ahead-init c = record {
  numbers = c.requires.numbers;
  few = (let same = ap (λ xs. length (computed_along (map instruction_view xs))) c.as_slice-ahead.ensures.value in omega (arith, same));
  passed = subst (λ xs. ArePassed (views_of c.args.self.now) (views_of c.args.self.now) (computed_along (map instruction_view c.args.block.now.instructions.items)) (computed_along (map instruction_view xs))) (sym c.as_slice-ahead.ensures.value) (passed_first (views_of c.args.self.now) (computed_along (map instruction_view c.args.block.now.instructions.items)));
}

pub loop-ahead-preserved-in_ok-add : goal.loop-ahead-preserved-in_ok-add
loop-ahead-preserved-in_ok-add c =
    (let left = c.loop-ahead.ahead.now in
    let all = computed_along (map instruction_view c.args.block.now.instructions.items) in
    let whole = whole_is left c.instruction-item.result _ c.in-len1-up.len_at_least c.instruction-item.is in
    let is : computed_by (instruction_view c.instruction-item.result) ≡ Some (computation_view c.in-Some.computation) = sym c.of.ensures ∙ ap (option_map computation_view) c.in-Some.is in
    record {
      numbers = c.in_ok-add.ensures.numbers;
      few =
          (let ahead = one_ahead (instruction_view c.instruction-item.result) (computation_view c.in-Some.computation) (map instruction_view (take (length left - 1) (drop 1 left))) (map instruction_view left) is (ap (map instruction_view) whole) in
          let was = c.loop-ahead.invariant.few in
          let more = c.in_ok-add.ensures.count in
          omega (arith, ahead, was, more));
      passed = passed_one (views_of c.args.self.now) (views_of c.loop-ahead.self) (views_of c.add.new.self) all (instruction_view c.instruction-item.result) (computation_view c.in-Some.computation) (map instruction_view (take (length left - 1) (drop 1 left))) is
          (subst (λ xs. ArePassed (views_of c.args.self.now) (views_of c.loop-ahead.self) all (computed_along (map instruction_view xs))) whole c.loop-ahead.invariant.passed)
          c.in_ok-add.ensures.once;
    })

pub add-requires-clause-few : goal.add-requires-clause-few
add-requires-clause-few c =
    let left = c.loop-ahead.ahead.now in
    let whole = whole_is left c.instruction-item.result _ c.in-len1-up.len_at_least c.instruction-item.is in
    let is : computed_by (instruction_view c.instruction-item.result) ≡ Some (computation_view c.in-Some.computation) = sym c.of.ensures ∙ ap (option_map computation_view) c.in-Some.is in
    let ahead = one_ahead (instruction_view c.instruction-item.result) (computation_view c.in-Some.computation) (map instruction_view (take (length left - 1) (drop 1 left))) (map instruction_view left) is (ap (map instruction_view) whole) in
    let was = c.loop-ahead.invariant.few in
    let few = c.requires.few in
    omega (arith, ahead, was, few)
