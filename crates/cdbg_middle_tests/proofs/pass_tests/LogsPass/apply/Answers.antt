use Rattle.std.proofs.Common.{ap, map, sym, slice_get, ◌∙◌}
use Rattle.graph_core.specs.declared.unit.Unit as declared-unit
use Rattle.graph_core.specs.Graphs.{UnitForm, logged, unit_view}
use Rattle.debug_records.specs.Change.{changes}
use Rattle.pass_law.proofs.LogsLittle.{logs_nothing}
use Rattle.pass_law.proofs.Shape.{shape_logged}
use Rattle.cdbg_middle_tests.proofs.LogsOne.{logs_one}
use Rattle.cdbg_middle_tests.proofs.pass_tests.LogsPass.apply.Goals as goal
use Rattle.cdbg_middle_tests.proofs.pass_tests.LogsPass.apply.Goals.{in-Some-first+in_ok-push, in_default-first}

pub returns-clause-kept : goal.returns-clause-kept
returns-clause-kept c =
    elim c.match-first-2.branch [
      | in-Some-first+in_ok-push w ↦ shape_logged (unit_view c.args.unit.now) (unit_view c.in_ok-next.next) (unit_view c.match-first-2.next) (map logged (changes w.push.new.self)) c.in_ok-next.ensures (ap unit_view w.next-is)
      | in_default-first w ↦ shape_logged (unit_view c.args.unit.now) (unit_view c.in_ok-next.next) (unit_view c.match-first-2.next) (unit_view c.in_ok-next.next).log c.in_ok-next.ensures (ap unit_view w.next-is)
    ]

pub returns-clause-logs : goal.returns-clause-logs
returns-clause-logs c =
    elim c.match-first-2.branch [
      | in-Some-first+in_ok-push w ↦ logs_one c.args.self.now.name _ c.args.unit.now c.in_ok-next.next c.match-first-2.next c.in-Some.graph.now w.in-Some-first.scalar.now _ (λ e. absurd cc) c.requires.marked
          (sym (c.in-Some.ensures.value ∙ ap (λ all. slice_get all 0) c.deref.ensures.value)) (sym (w.in-Some-first.ensures.value ∙ ap (λ all. slice_get all 0) c.deref-2.ensures.value)) c.in_ok-next.ensures
          (ap (λ (u : declared-unit.Unit). changes u.log) w.next-is ∙ w.in_ok-push.ensures.appended)
      | in_default-first w ↦ logs_nothing c.args.self.now.name (unit_view c.args.unit.now) (unit_view c.match-first-2.next)
          (ap (λ (u : declared-unit.Unit). (unit_view u).log) w.next-is ∙ ap (λ (u : UnitForm). u.log) c.in_ok-next.ensures)
    ]
