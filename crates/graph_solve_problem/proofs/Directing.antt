-- Edges in the direction of a problem's paths.
use Rattle.std.proofs.Common.{◌≡◌, ℕ, ◌<◌, Bool, true, false, List, get_or, map, ap, subst}
use Rattle.std.specs.List.{Contains}
use Rattle.std.specs.List.Sorted.{IsPermutation}
use Rattle.std.proofs.lemmas.List.Elements.{All-contains, Contains-get_or}
use Rattle.std.proofs.lemmas.List.Sorted.{Contains-permutation, IsPermutation-sym}
use Rattle.graph_solve_problem.specs.declared.flow_graph.Edge.{Edge}
use Rattle.graph_solve_problem.specs.declared.flow_graph.FlowGraph.{FlowGraph}
use Rattle.graph_solve_problem.specs.Paths.{Leads}
use Rattle.graph_solve_problem.specs.Solution.{control_flow, AreWithin}
use Rattle.graph_solve_problem.specs.Rounds.{AreDirected, directed}
use Rattle.graph_solve_problem.proofs.Lists.{from_map, into_map}

module _ (graph : FlowGraph) (edges : List Edge) where
  same_edges : (forward : Bool) → ((e : Edge) → Contains (map (directed forward) graph.edges.items) e → Contains edges e) → ((e : Edge) → Contains edges e → Contains (map (directed forward) graph.edges.items) e) → AreDirected (control_flow graph) forward edges
  same_edges true into out = record {
    only = λ from to has.
        let there = out (record { from = from; to = to }) has in
        let e = from_map (directed true) graph.edges.items (record { from = from; to = to }) there.0 there.1 there.2 in
        subst (Contains graph.edges.items) e.2 e.1;
    all = λ from to has. into (record { from = from; to = to }) (into_map (directed true) graph.edges.items (record { from = from; to = to }) has.0 has.1 has.2);
  }
  same_edges false into out = record {
    only = λ from to has.
        let there = out (record { from = from; to = to }) has in
        let e = from_map (directed false) graph.edges.items (record { from = from; to = to }) there.0 there.1 there.2 in
        subst (Contains graph.edges.items) (ap (directed false) e.2) e.1;
    all = λ from to has. into (record { from = from; to = to }) (into_map (directed false) graph.edges.items (record { from = to; to = from }) has.0 has.1 has.2);
  }

  pub directed_permuted : (forward : Bool) (turned : List Edge) → turned ≡ map (directed forward) graph.edges.items → IsPermutation turned edges → AreDirected (control_flow graph) forward edges
  directed_permuted forward turned is moved =
      let all : IsPermutation (map (directed forward) graph.edges.items) edges = subst (λ es. IsPermutation es edges) is moved in
      same_edges forward (λ e. Contains-permutation _ _ e all) (λ e. Contains-permutation _ _ e (IsPermutation-sym _ _ all))

  leads_within : (forward : Bool) (blocks from to : ℕ) → AreWithin blocks graph.edges.items → Leads (control_flow graph) forward from to → (from < blocks) × (to < blocks)
  leads_within true blocks from to within leads = All-contains (λ (e : Edge). (e.from < blocks) × (e.to < blocks)) graph.edges.items (record { from = from; to = to }) within leads
  leads_within false blocks from to within leads =
      let both = All-contains (λ (e : Edge). (e.from < blocks) × (e.to < blocks)) graph.edges.items (record { from = to; to = from }) within leads in
      (both.1, both.0)

  pub directed_within : (forward : Bool) (blocks : ℕ) → AreDirected (control_flow graph) forward edges → AreWithin blocks graph.edges.items → AreWithin blocks edges
  directed_within forward blocks directed within k d lt =
      let e = get_or edges k d in
      leads_within forward blocks e.from e.to within (directed.only e.from e.to (Contains-get_or edges k d lt))
