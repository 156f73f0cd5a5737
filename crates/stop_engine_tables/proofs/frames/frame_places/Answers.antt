use Rattle.std.proofs.Common.{◌≡◌, suc, ◌+◌, ◌-◌, ◌++◌, sym, subst, arith}
use Rattle.image_form.specs.Views.{viewed}
use Rattle.image_form.specs.RulesOfFunctions.{IsPlaceNumber}
use Rattle.rv_machine.specs.State.{word}
use Rattle.stop_engine_view.specs.Reading.{frames, frames_from}
use Rattle.stop_engine_view.proofs.Callers.{all_more, frames_last, frames_more}
use Rattle.stop_engine_tables.proofs.frames.frame_places.Goals as goal

pub returns-then-caller-eq0-clause-places : goal.returns-then-caller-eq0-clause-places
returns-then-caller-eq0-clause-places c =
    let m = viewed c.args.image.now in
    let s = c.args.machine.now in
    let some : c.loop-left.left ≡ suc (c.loop-left.left - 1) = omega arith in
    let so_far = subst (λ n. c.loop-left.places.items ++ frames_from n m s c.loop-left.at c.loop-left.frame ≡ frames m s c.args.place) some c.loop-left.invariant.places in
    frames_last (c.loop-left.left - 1) m s c.loop-left.at c.loop-left.frame c.calling_place-caller.result _ _ _ c.calling_place-caller.ensures.place c.if-caller-eq0.true c.in_ok-push.ensures.items so_far

pub returns-then-caller-eq0-clause-numbers : goal.returns-then-caller-eq0-clause-numbers
returns-then-caller-eq0-clause-numbers c =
    all_more (IsPlaceNumber (viewed c.args.image.now)) c.loop-left.places.items c.push.new.self.items c.loop-left.at c.in_ok-push.ensures.items c.loop-left.invariant.place c.loop-left.invariant.numbers

pub loop-left-preserved : goal.loop-left-preserved
loop-left-preserved c =
    let m = viewed c.args.image.now in
    let s = c.args.machine.now in
    let some : c.loop-left.left ≡ suc (c.loop-left.left - 1) = omega arith in
    let so_far = subst (λ n. c.loop-left.places.items ++ frames_from n m s c.loop-left.at c.loop-left.frame ≡ frames m s c.args.place) some c.loop-left.invariant.places in
    record {
      place = c.calling_place-caller.ensures.number c.if-caller-eq0.false;
      places = subst (λ size. c.push.new.self.items ++ frames_from (c.loop-left.left - 1) m s c.calling_place-caller.result (word (c.loop-left.frame + size)) ≡ frames m s c.args.place) (sym c.frame_of-frame.ensures)
          (frames_more (c.loop-left.left - 1) m s c.loop-left.at c.loop-left.frame c.calling_place-caller.result _ _ _ c.calling_place-caller.ensures.place c.if-caller-eq0.false c.in_ok-push.ensures.items so_far);
      numbers = all_more (IsPlaceNumber m) c.loop-left.places.items c.push.new.self.items c.loop-left.at c.in_ok-push.ensures.items c.loop-left.invariant.place c.loop-left.invariant.numbers;
    }
