use Rattle.std.proofs.Common.{ap, option_map, sym}
use Rattle.debug_records.specs.declared.change.Place as declared-place
use Rattle.graph_core.specs.Graphs.{graph_view}
use Rattle.currency_notes.proofs.Sourcing.{first_of}
use Rattle.currency_notes.proofs.function.Function.removal.Goals as goal

pub returns : goal.returns
returns c = λ log told.
    first_of log (graph_view c.args.self.now.graph.now) c.args.scalar c.in-Some-place.place.0 c.in-Some.var.0 (option_map (λ (p : declared-place.Place). p.0) c.args.place) c.first.result
    (ap (λ o. option_map (λ (p : declared-place.Place). p.0) o) c.in-Some-place.is) (sym c.in-Some.ensures) (c.first.ensures.first log told) (c.first.ensures.none log told)
