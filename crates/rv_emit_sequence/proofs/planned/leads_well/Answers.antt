use Rattle.std.proofs.Common.{◌≤◌, ◌∙◌, ap, sym, subst, length, map, arith}
use Rattle.graph_core.specs.declared.name.Label.{Label}
use Rattle.graph_core.specs.Paths.{Among}
use Rattle.rv_emit_plan.specs.Plans.{held_at}
use Rattle.rv_emit_sequence.proofs.Holding.{labels_lead}
use Rattle.rv_emit_sequence.proofs.planned.leads_well.Goals as goal

pub returns : goal.returns
returns c =
    let labels = c.as_slice-label-items.result.now in
    let targets = ap (map (λ (x : Label). x.0)) c.as_slice-label-items.ensures ∙ c.targets-targets.ensures in
    let all : length labels ≤ c.loop-label.label-index = omega (arith, c.loop-label-test.false) in
    λ well l there. labels_lead c.args.held.now (held_at c.args.plan.now) labels c.loop-label.label-index c.loop-label.invariant all l (subst (Among l) (sym targets) there)
