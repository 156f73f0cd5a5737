use Rattle.std.proofs.Common.{◌≡◌, inl, inr, Some, sym, ap, ◌∙◌, subst, arith}
use Rattle.std.specs.Prelude.{slice_get}
use Rattle.std.proofs.lemmas.Bool.{cases_lt}
use Rattle.std.proofs.lemmas.List.{length-map}
use Rattle.std.proofs.lemmas.Option.{same_Some, slice_get_within}
use Rattle.motion_pass_points.specs.MotionPointsComputing.{computation_view}
use Rattle.motion_pass_problems.proofs.Pushed.{count_on}
use Rattle.motion_pass_placement.specs.declared.columns.Solved.{Solved}
use Rattle.motion_pass_placement.specs.Columns.{IsSolved, all_in}
use Rattle.motion_pass_placement.proofs.Rows.{got_below, got_there}
use Rattle.motion_pass_placement.proofs.columns.Placing.columns.Goals as goal

pub loop-index-preserved : goal.loop-index-preserved
loop-index-preserved c =
    let s = c.args.self.now in
    let index = c.loop-index.index in
    let all = c.loop-index.columns.items in
    let longer = c.push.new.self.items in
    let solved = c.in_ok-solved.solved in
    let count = c.loop-index.invariant.count in
    let grown = c.in_ok-push.ensures.items in
    let more = count_on all longer solved index grown count in
    let is : IsSolved s index solved = c.in_ok-solved.ensures in
    record {
      count = more;
      each = λ i one at. elim (cases_lt i index) [
        | inl less ↦ c.loop-index.invariant.each i one (sym (got_below all solved i (omega (arith, less, count))) ∙ sym (ap (λ cs. slice_get cs i) grown) ∙ at)
        | inr past ↦
            let inside = slice_get_within longer i one at in
            let same : i ≡ index = omega (arith, past, inside, more) in
            let there : slice_get longer index ≡ Some solved = ap (λ cs. slice_get cs index) grown ∙ ap (slice_get _) (sym count) ∙ got_there all solved in
            subst (λ j. IsSolved s j one) (sym same) (subst (λ (o : Solved). IsSolved s index o) (same_Some solved one (sym there ∙ ap (slice_get longer) (sym same) ∙ at)) is)
      ];
    }

pub returns : goal.returns
returns c = record {
  few = omega (arith, c.loop-index.invariant.count);
  each = c.loop-index.invariant.each;
  enough = λ k e at.
      (let inside = slice_get_within (all_in c.args.self.now) k e at in
      let size = length-map c.args.self.now.computations.now.all.items computation_view in
      let few = c.requires.computed in
      omega (arith, inside, size, few, c.len.ensures, c.loop-index-test.false, c.loop-index.invariant.count));
}

pub solved-requires-clause-index : goal.solved-requires-clause-index
solved-requires-clause-index c =
    let size = length-map c.args.self.now.computations.now.all.items computation_view in
    let few = c.requires.computed in
    omega (arith, few, size, c.len.ensures, c.loop-index-test.true)
