use Rattle.std.proofs.Common.{ℕ, List, ◌++◌, map, sym, ap, ◌∙◌, subst, arith}
use Rattle.std.specs.Prelude.{Vec}
use Rattle.std.specs.Global.{Global}
use Rattle.std.specs.List.{flat_map}
use Rattle.line_form.specs.Lines.{line}
use Rattle.script_form.specs.Script.{orders, order_of}
use Rattle.stop_engine.specs.EngineState.{lines_of}
use Rattle.session.proofs.Parts.{IsUnderWay, on_err_anyway}
use Rattle.session.proofs.Orders.{order_left, order_part}
use Rattle.session.proofs.playing.carry_out.Goals as goal

pub returns-in_err-put_lines-clause-part : goal.returns-in_err-put_lines-clause-part
returns-in_err-put_lines-clause-part g c = on_err_anyway c.from_residual.result _ (λ told.
    let whole : List ℕ = flat_map line (lines_of c.args.engine.now (orders c.args.commands.now)) in
    let here = order_left c.args.commands.now c.loop-command.command-index c.command-item.result (omega arith) c.command-item.is in
    let so_far = subst (λ os. IsUnderWay whole (flat_map line (lines_of c.loop-command.engine os)) (g.K.Sink.state c.args.sink.now).taken (g.K.Sink.state c.loop-command.sink).taken) here (c.loop-command.invariant.taken told) in
    order_part whole c.loop-command.engine c.answer.new.self (order_of c.command-item.result) _ (map (λ l. l.items) c.deref.result.now) (g.K.Sink.state c.args.sink.now).taken (g.K.Sink.state c.loop-command.sink).taken (g.K.Sink.state c.put_lines.new.sink).taken
    (λ more. c.in-Ok.ensures.answered more ∙ ap (λ (l : List (Vec ℕ Global)). map (λ x. x.items) l ++ lines_of c.answer.new.self more) (sym c.deref.ensures.value)) (c.in_err-put_lines.ensures.part (c.loop-command.invariant.telling ∙ told)) so_far)
