use Rattle.std.proofs.Common.{◌≡◌, ◌+◌, length, ap, sym, ◌∙◌}
use Rattle.image_form.specs.Form.{Form}
use Rattle.script_form.specs.Script.{mark}
use Rattle.stop_engine.proofs.MarkBounds.{marks-within}
use Rattle.stop_engine.proofs.engine.Engine.set_marks.Goals as goal

pub mark_all-requires : goal.mark_all-requires
mark_all-requires c =
    let m = c.table.result.now in
    let bound : c.self.inside.marks.bound ≡ length m.places + 1 = c.self.invariant.2 ∙ ap (λ (f : Form). length f.places + 1) (sym c.table.ensures.table) in
    rw c.deref-2.ensures.value (marks-within m (mark c.args.target.now) c.in_ok-places.places.items c.self.inside.marks.bound c.table.ensures.image c.in_ok-places.ensures bound)
