use Rattle.std.proofs.Common.{◌≡◌, ◌∙◌, Some, ap, arith, subst, sym, ℕ}
use Rattle.std.proofs.lemmas.List.{length-map}
use Rattle.graph_core.specs.Graphs.{end_view}
use Rattle.graph_core.specs.Paths.{Among}
use Rattle.graph_core.specs.Uses.{targets_of}
use Rattle.graph_core.specs.declared.name.Label.{Label}
use Rattle.currency_notes.proofs.Lists.{each_all}
use Rattle.currency_shown.specs.Chains.{IsNext, name_at}
use Rattle.currency_shown.proofs.Linking.{struck_on, struck_same}
use Rattle.currency_shown.proofs.Targets.{each_label, label_numbers}
use Rattle.currency_shown.proofs.chains.strike_edges.Goals as goal

pub loop-target-init : goal.loop-target-init
loop-target-init c = record {
  struck = struck_same c.args.before.now.items;
  edges = λ k none. elim none [ ];
}

pub loop-target-preserved : goal.loop-target-preserved
loop-target-preserved c =
    let n = c.args.number in
    let old = c.loop-target.before.items in
    let new = c.strike_edge.new.before.items in
    let said = c.strike_edge.ensures in
    let now = c.loop-target.invariant in
    let none : Label = record { 0 = 0 } in
    record {
      struck = struck_on c.args.before.now.items old new now.struck said.struck;
      edges = each_label (λ k. (m : ℕ) → name_at new k ≡ Some m → (m ≡ n) × IsNext c.args.positions.now n (end_view c.args.end.now) k) c.as_slice-target-items.result.now c.loop-target.target-index none c.loop-target-test.true
          (λ k among m found. now.edges k among m (said.struck.kept k m found)) said.edge;
    }

pub returns-clause-edges : goal.returns-clause-edges
returns-clause-edges c = λ l among.
    (let n = c.args.number in
    let labels = c.as_slice-target-items.result.now in
    let targets : label_numbers labels ≡ targets_of (end_view c.args.end.now) = ap label_numbers c.as_slice-target-items.ensures ∙ c.targets-targets.ensures in
    let long = length-map labels (λ (label : Label). label.0) in
    let end = c.loop-target-test.false in
    each_all (λ k. (m : ℕ) → name_at c.loop-target.before.items k ≡ Some m → (m ≡ n) × IsNext c.args.positions.now n (end_view c.args.end.now) k) (label_numbers labels) c.loop-target.target-index (omega (arith, long, end)) c.loop-target.invariant.edges l
    (subst (λ all. Among l all) (sym targets) among))
