use Rattle.std.proofs.Common.{ap, sym, ◌∙◌}
use Rattle.rv_emit_storage.specs.Filled.{with_relocations}
use Rattle.rv_emit_storage.proofs.Filling.{before_last}
use Rattle.rv_emit_storage.proofs.statics.relocate_all.Goals as goal

pub loop-last-preserved : goal.loop-last-preserved
loop-last-preserved c =
    let addresses = c.args.statics.now.objects.items in
    let size = c.args.size in
    ap (with_relocations addresses size c.in-Some.rest.now) c.relocate.ensures ∙ before_last addresses size c.in-Some.rest.now c.in-Some.last.now c.loop-last.bytes.items
    ∙ ap (λ l. with_relocations addresses size l c.loop-last.bytes.items) (sym c.in-Some.ensures.cases.0) ∙ c.loop-last.invariant
