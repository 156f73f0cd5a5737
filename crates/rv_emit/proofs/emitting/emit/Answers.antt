use Rattle.std.proofs.Common.{map, subst}
use Rattle.std.specs.List.{AllByRecursion}
use Rattle.graph_core.specs.Graphs.{graph_view}
use Rattle.graph_homes.specs.Homed.{homed_view}
use Rattle.rv_emit_tables.specs.Emitted.{emitted_view}
use Rattle.rv_emit_runs.specs.Laid.{IsInWords}
use Rattle.rv_emit_runs.specs.Told.{IsCountable}
use Rattle.rv_emit.proofs.Promised.{countable_each, emits_all}
use Rattle.rv_emit.proofs.emitting.emit.Goals as goal

pub returns-clause-countable : goal.returns-clause-countable
returns-clause-countable c =
    countable_each (homed_view c.args.homed.now)
    (subst (λ gs. AllByRecursion IsCountable (map graph_view gs)) c.deref-2.ensures.value (c.are_countable.ensures.0 c.if-not-are_countable.false))

pub returns-clause-emits : goal.returns-clause-emits
returns-clause-emits c =
    emits_all (homed_view c.args.homed.now) c.requires.valid c.requires.homes (emitted_view c.in_ok-emitted.emitted) c.in_ok-emitted.ensures.code c.in_ok-emitted.ensures.few c.in_ok-emitted.ensures.owners
    (subst (λ gs. AllByRecursion IsInWords (map graph_view gs)) c.deref.ensures.value c.graphs_have_words.ensures)
    (countable_each (homed_view c.args.homed.now)
    (subst (λ gs. AllByRecursion IsCountable (map graph_view gs)) c.deref-2.ensures.value (c.are_countable.ensures.0 c.if-not-are_countable.false)))
