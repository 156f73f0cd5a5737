use Rattle.std.proofs.Common.{◌≡◌, ◌<◌, ◌∙◌, ap, arith, get_or, length, map, subst, sym}
use Rattle.std.proofs.lemmas.List.{length-map}
use Rattle.graph_core.specs.Graphs.{end_view}
use Rattle.graph_core.specs.Paths.{Among}
use Rattle.graph_core.specs.Uses.{targets_of}
use Rattle.graph_core.specs.declared.name.Label.{Label}
use Rattle.currency_notes.proofs.Lists.{each_all}
use Rattle.currency_shown.specs.Chains.{IsWithinSome, comes_to}
use Rattle.currency_shown.proofs.Targets.{label_numbers, next_label}
use Rattle.currency_shown.proofs.Walking.{falls_two, quiet_two, within_more}
use Rattle.currency_shown.proofs.states.States.go_on.Goals as goal

pub loop-target-preserved : goal.loop-target-preserved
loop-target-preserved c =
    let f = c.args.function.now in
    let old = c.args.self.now in
    let labels = c.as_slice-target-items.result.now in
    let i = c.loop-target.target-index in
    let none : Label = record { 0 = 0 } in
    let next = (get_or labels i none).0 in
    let targets : label_numbers labels ≡ targets_of (end_view c.args.end.now) = ap label_numbers c.as_slice-target-items.ensures ∙ c.targets-targets.ensures in
    let among : Among next (targets_of (end_view c.args.end.now)) = subst (λ all. Among next all) targets (next_label labels i none c.loop-target-test.true) in
    let now = c.loop-target.invariant in
    let said = c.in_ok-is_newer.ensures in
    let is_new = c.loop-target.is_new in
    let is_newer = c.in_ok-is_newer.is_newer in
    record {
      full = λ before each. said.full (now.full before each) (each next among);
      quiet = quiet_two f old _ _ is_new is_newer now.quiet said.quiet;
      within = within_more f old _ _ is_new is_newer now.quiet said.quiet labels i none c.args.state.now c.loop-target-test.true now.within said.within;
      falls = λ e before each. falls_two f old _ _ is_new is_newer now.quiet said.quiet (λ p. now.falls p before each) (λ p. said.falls p (now.full before each) (each next among)) e;
    }

pub returns-clause-within : goal.returns-clause-within
returns-clause-within c = λ e l among lt.
    (let labels = c.as_slice-target-items.result.now in
    let i = c.loop-target.target-index in
    let old = c.args.self.now in
    let targets : label_numbers labels ≡ targets_of (end_view c.args.end.now) = ap label_numbers c.as_slice-target-items.ensures ∙ c.targets-targets.ensures in
    let long = length-map labels (λ (label : Label). label.0) in
    let end = c.loop-target-test.false in
    each_all (λ k. k < length old.arrived.items → IsWithinSome (comes_to old k) c.args.state.now) (label_numbers labels) i (omega (arith, long, end)) (c.loop-target.invariant.within e) l (subst (λ all. Among l all) (sym targets) among) lt)
