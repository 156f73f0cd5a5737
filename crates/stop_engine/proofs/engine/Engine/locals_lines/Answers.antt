use Rattle.std.proofs.Common.{ap, map, ◌∙◌}
use Rattle.stop_engine.specs.Shown.{or_no_locals}
use Rattle.stop_engine.specs.Visible.{visible_line, visible_of}
use Rattle.stop_engine.proofs.VisibleLaws.{locals_said}
use Rattle.stop_engine.proofs.engine.Engine.locals_lines.Goals as goal

pub returns : goal.returns
returns c =
    rw (← c.self.view_is) (locals_said c.self.inside.run c.in-Some.stop c.in_ok-locals.locals.items _ c.in-Some.ensures.some c.in_ok-locals.ensures
    (c.in_ok-locals_lines.ensures ∙ ap (λ l. or_no_locals (map visible_line (map visible_of l))) c.deref.ensures.value))
