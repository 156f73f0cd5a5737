use Rattle.std.proofs.Common.{sym, ◌∙◌}
use Rattle.graph_core.specs.Graphs.{end_view}
use Rattle.dead_pass_notes.proofs.Coming.{leaves_on}
use Rattle.dead_pass_notes.proofs.ways.Ways.visit.Goals as goal

pub returns-in_ok-go_on-in-Leaves-clause-on : goal.returns-in_ok-go_on-in-Leaves-clause-on
returns-in_ok-go_on-in-Leaves-clause-on c = λ _ count long all.
    leaves_on count c.go_on.new.self.ahead.items (end_view c.args.end.now) _ c.in-Leaves.is_written (sym c.scan.ensures ∙ c.in-Leaves.is) (c.in_ok-go_on-in-Leaves.ensures.come count long all)
