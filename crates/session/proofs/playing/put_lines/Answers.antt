use Rattle.std.proofs.Common.{ℕ, List, ◌+◌, ◌++◌, drop, map, sym, ap, ◌∙◌, subst, arith}
use Rattle.std.specs.List.{flat_map}
use Rattle.line_form.specs.Lines.{line}
use Rattle.session.proofs.Parts.{IsUnderWay, under_way_part, on_err_anyway, text_left}
use Rattle.session.proofs.playing.put_lines.Goals as goal

pub returns-in_err-put_line-clause-part : goal.returns-in_err-put_line-clause-part
returns-in_err-put_line-clause-part g c = on_err_anyway c.from_residual.result _ (λ told.
    let so_far = c.loop-text.invariant.taken told in
    let whole : List ℕ = flat_map line (map (λ x. x.items) c.args.lines.now) in
    let rest : List ℕ = flat_map line (map (λ x. x.items) (drop (c.loop-text.text-index + 1) c.args.lines.now)) in
    let here = text_left c.args.lines.now c.loop-text.text-index c.text-item.result (omega arith) c.text-item.is ∙ ap (λ l. line l ++ rest) (sym c.deref.ensures.value) in
    under_way_part whole (line c.deref.result.now) rest (g.K.Sink.state c.args.sink.now).taken (g.K.Sink.state c.loop-text.sink).taken (g.K.Sink.state c.put_line.new.sink).taken (c.in_err-put_line.ensures.part (c.loop-text.invariant.telling ∙ told)) (subst (λ l. IsUnderWay whole l (g.K.Sink.state c.args.sink.now).taken (g.K.Sink.state c.loop-text.sink).taken) here so_far))
