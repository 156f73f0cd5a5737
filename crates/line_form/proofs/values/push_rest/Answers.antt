use Rattle.std.proofs.Common.{ℕ, ◌++◌, ap, ◌∙◌}
use Rattle.std.specs.Prelude.{Vec}
use Rattle.std.specs.Global.{Global}
use Rattle.line_form.specs.Values.{next_value}
use Rattle.line_form.proofs.Sequences.{piece_more}
use Rattle.line_form.proofs.values.push_rest.Goals as goal

pub loop-value-preserved : goal.loop-value-preserved
loop-value-preserved c =
    let item = c.deref.ensures.value ∙ ap (λ (v : Vec ℕ Global). v.items) c.value-item.is in
    piece_more next_value (λ (v : Vec ℕ Global). v.items) c.args.values.now c.loop-value.value-index c.value-item.result c.loop-value.text.items c.push_next.new.text.items _ c.loop-value-test.true
    (c.in_ok-push_next.ensures ∙ ap (λ t. c.loop-value.text.items ++ next_value t) item) c.loop-value.invariant
