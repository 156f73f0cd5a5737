use Rattle.std.proofs.Common.{◌≡◌, ◌∙◌, ap, arith, subst, sym}
use Rattle.std.proofs.lemmas.List.{length-map}
use Rattle.graph_core.specs.Graphs.{end_view}
use Rattle.graph_core.specs.Paths.{Among}
use Rattle.graph_core.specs.Uses.{targets_of}
use Rattle.graph_core.specs.declared.name.Label.{Label}
use Rattle.currency_notes.proofs.Lists.{each_all}
use Rattle.currency_shown.specs.Chains.{StartsIf}
use Rattle.currency_shown.proofs.Targets.{each_label, label_numbers}
use Rattle.currency_shown.proofs.chains.Chains.add_targets.Goals as goal

pub loop-target-preserved : goal.loop-target-preserved
loop-target-preserved c =
    let said = c.in_ok-add.ensures in
    let now = c.loop-target.invariant in
    let none : Label = record { 0 = 0 } in
    record {
      begun = said.begun;
      kept = λ l s. said.kept l (now.kept l s);
      starts = each_label (StartsIf c.args.blocks.now c.args.links.now c.add.new.self) c.as_slice-target-items.result.now c.loop-target.target-index none c.loop-target-test.true (λ l among small first. said.kept l (now.starts l among small first)) said.starts;
    }

pub returns-clause-starts : goal.returns-clause-starts
returns-clause-starts c = λ l among.
    (let labels = c.as_slice-target-items.result.now in
    let targets : label_numbers labels ≡ targets_of (end_view c.args.end.now) = ap label_numbers c.as_slice-target-items.ensures ∙ c.targets-targets.ensures in
    let long = length-map labels (λ (label : Label). label.0) in
    let end = c.loop-target-test.false in
    each_all (StartsIf c.args.blocks.now c.args.links.now c.loop-target.self) (label_numbers labels) c.loop-target.target-index (omega (arith, long, end)) c.loop-target.invariant.starts l (subst (λ all. Among l all) (sym targets) among))
