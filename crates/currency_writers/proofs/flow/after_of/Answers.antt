use Rattle.std.proofs.Common.{◌∙◌, arith, inl, inr, take}
use Rattle.std.specs.Prelude.{Contains}
use Rattle.std.proofs.lemmas.List.Elements.{All-more, All-weaker}
use Rattle.places.specs.declared.flow.FlowStep.{FlowStep}
use Rattle.currency_writers.specs.Lists.{entries_of}
use Rattle.currency_writers.proofs.Pushing.{none_in, pushed_kept, pushed_only, pushed_there}
use Rattle.currency_writers.proofs.Going.{following_all, leads_at, step_at}
use Rattle.currency_writers.proofs.flow.after_of.Goals as goal

pub loop-step-init : goal.loop-step-init
loop-step-init c = record { sound = λ p q there. absurd (none_in _ q (c.in_ok-after.ensures.none p) there); all = λ k d lt. absurd (omega (arith, lt)); count = c.in_ok-after.ensures.count }

pub push-requires : goal.push-requires
push-requires c = leads_at c.args.steps.now c.loop-step.step-index _ c.args.places _ c.loop-step-test.true c.requires c.loop-step.invariant.count

pub loop-step-preserved : goal.loop-step-preserved
loop-step-preserved c =
    let k = c.loop-step.step-index in
    let all = c.args.steps.now in
    let push = c.in_ok-push.ensures in
    let only = pushed_only c.loop-step.after c.push.new.self _ _ push.pushed push.others in
    let kept = pushed_kept c.loop-step.after c.push.new.self _ _ push.pushed push.others in
    record {
      sound = λ p q there. elim (only p q there) [
        | inl f ↦ c.loop-step.invariant.sound p q f
        | inr f ↦ step_at all k _ p q c.loop-step-test.true f.0 f.1
      ];
      all = All-more (λ (s : FlowStep). Contains (entries_of c.push.new.self s.from.0) s.to.0) all k _ c.loop-step-test.true
          (All-weaker (λ (s : FlowStep). Contains (entries_of c.loop-step.after s.from.0) s.to.0) (λ (s : FlowStep). Contains (entries_of c.push.new.self s.from.0) s.to.0) (λ s there. kept s.from.0 s.to.0 there) (take k all) c.loop-step.invariant.all)
          (pushed_there c.loop-step.after c.push.new.self _ _ push.pushed push.others);
      count = push.count ∙ c.loop-step.invariant.count;
    }

pub returns : goal.returns
returns c = record {
  sound = c.loop-step.invariant.sound;
  all = following_all c.args.steps.now c.loop-step.after c.loop-step.step-index (omega arith) c.loop-step.invariant.all;
}
