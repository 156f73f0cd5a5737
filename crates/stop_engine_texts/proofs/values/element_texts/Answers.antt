use Rattle.std.proofs.Common.{◌≡◌, ℕ, suc, ◌-◌, ◌++◌, map, subst, arith}
use Rattle.std.specs.Prelude.{Vec}
use Rattle.std.specs.Global.{Global}
use Rattle.image_form.specs.Views.{viewed}
use Rattle.stop_engine_view.specs.Values.{element_texts}
use Rattle.stop_engine_view.proofs.Elements.{elements_more}
use Rattle.stop_engine_texts.proofs.values.element_texts.Goals as goal

pub loop-left-preserved : goal.loop-left-preserved
loop-left-preserved c =
    let m = viewed c.args.image.now in
    let s = c.args.machine.now in
    let some : c.loop-left.left ≡ suc (c.loop-left.left - 1) = omega arith in
    let so_far = subst (λ n. map (λ (t : Vec ℕ Global). t.items) c.loop-left.texts.items ++ element_texts m s c.args.place c.args.element n c.loop-left.at ≡ element_texts m s c.args.place c.args.element c.args.count c.args.address) some c.loop-left.invariant in
    elements_more m s c.args.place c.args.element (c.loop-left.left - 1) c.loop-left.at c.element_word-word.result c.element_size.result c.in_ok-word_text.field-0 _ _ _
    c.element_word-word.ensures c.in_ok-word_text.ensures c.element_size.ensures.size c.in_ok-push.ensures.items so_far
