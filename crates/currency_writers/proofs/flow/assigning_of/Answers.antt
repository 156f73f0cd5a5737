use Rattle.std.proofs.Common.{◌∙◌, arith, inl, inr, refl, take}
use Rattle.std.specs.Prelude.{Contains}
use Rattle.std.proofs.lemmas.List.Elements.{All-more, All-weaker}
use Rattle.places.specs.declared.flow.Assignment.{Assignment}
use Rattle.currency_writers.specs.Lists.{entries_of}
use Rattle.currency_writers.proofs.Pushing.{ascending_push, none_ascends, none_in, pushed_kept, pushed_only, pushed_there}
use Rattle.currency_writers.proofs.Going.{assigning_all, assigns_at, behind_next, listed_at}
use Rattle.currency_writers.proofs.flow.assigning_of.Goals as goal

pub loop-assignment-init : goal.loop-assignment-init
loop-assignment-init c = record {
  sound = λ x p there. absurd (none_in _ p (c.in_ok-assigning.ensures.none x) there);
  all = λ k d lt. absurd (omega (arith, lt));
  ordered = λ x. none_ascends _ (c.in_ok-assigning.ensures.none x);
  behind = λ x p there. absurd (none_in _ p (c.in_ok-assigning.ensures.none x) there);
  count = refl;
}

pub push-requires : goal.push-requires
push-requires c = listed_at c.args.assignments.now c.loop-assignment.assignment-index _ c.variable_count.result _ c.loop-assignment-test.true c.variable_count.ensures (c.loop-assignment.invariant.count ∙ c.in_ok-assigning.ensures.count)

pub loop-assignment-preserved : goal.loop-assignment-preserved
loop-assignment-preserved c =
    let k = c.loop-assignment.assignment-index in
    let all = c.args.assignments.now in
    let push = c.in_ok-push.ensures in
    let known = c.loop-assignment.invariant in
    let only = pushed_only c.loop-assignment.assigning c.push.new.self _ _ push.pushed push.others in
    let kept = pushed_kept c.loop-assignment.assigning c.push.new.self _ _ push.pushed push.others in
    record {
      sound = λ x p there. elim (only x p there) [
        | inl f ↦ known.sound x p f
        | inr f ↦ assigns_at all k _ p x c.loop-assignment-test.true f.1 f.0
      ];
      all = All-more (λ (a : Assignment). Contains (entries_of c.push.new.self a.var.0) a.place.0) all k _ c.loop-assignment-test.true
          (All-weaker (λ (a : Assignment). Contains (entries_of c.loop-assignment.assigning a.var.0) a.place.0) (λ (a : Assignment). Contains (entries_of c.push.new.self a.var.0) a.place.0) (λ a there. kept a.var.0 a.place.0 there) (take k all) known.all)
          (pushed_there c.loop-assignment.assigning c.push.new.self _ _ push.pushed push.others);
      ordered = ascending_push c.loop-assignment.assigning c.push.new.self _ _ push.pushed push.others (λ x there. known.behind _ x there k _ (omega arith) c.loop-assignment-test.true) known.ordered;
      behind = behind_next all c.loop-assignment.assigning c.push.new.self k _ c.requires c.loop-assignment-test.true only known.behind;
      count = push.count ∙ known.count;
    }

pub returns-clause-assigning : goal.returns-clause-assigning
returns-clause-assigning c = record {
  sound = c.loop-assignment.invariant.sound;
  all = assigning_all c.args.assignments.now c.loop-assignment.assigning c.loop-assignment.assignment-index (omega arith) c.loop-assignment.invariant.all;
}
