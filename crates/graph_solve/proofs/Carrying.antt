-- Solutions over the same flow of control.
use Rattle.std.proofs.Common.{◌≡◌, ℕ, ◌+◌, ◌<◌, ◌⊎◌, inl, inr, Bool, true, false, Some, List, [], ◌∷◌, ◌++◌, map, length, refl, sym, ap, ◌∙◌, subst, arith, get_or}
use Rattle.std.specs.Prelude.{slice_get}
use Rattle.std.specs.List.{All, Contains}
use Rattle.std.proofs.lemmas.List.Elements.{All-contains, Contains-append_left, Contains-append_right, Contains-append_cases, Contains-get_or}
use Rattle.std.proofs.lemmas.List.{length_push}
use Rattle.std.proofs.lemmas.Option.{slice_get_within, same_Some}
use Rattle.graph_core.specs.Graphs.{Block, Graph}
use Rattle.graph_core.specs.Uses.{targets_of}
use Rattle.graph_solve_problem.specs.declared.flow_graph.Edge.{Edge}
use Rattle.graph_solve_problem.specs.declared.flow_graph.FlowGraph.{FlowGraph}
use Rattle.graph_solve_problem.specs.Numbers.{Numbers}
use Rattle.graph_solve_problem.specs.Problem.{DataFlow}
use Rattle.graph_solve_problem.specs.Paths.{ControlFlow, Begins, Leads, Path, first, anywhere, next, along, Comes, Leaves}
use Rattle.graph_solve_problem.specs.Meets.{SomeMeet, one, both, IsMeetOf}
use Rattle.graph_solve_problem.specs.Solution.{AreMet, AreMetBehind, AreMetBySides, IsSolution, AreWithin, control_flow}
use Rattle.graph_solve.specs.GraphFlow.{AreFlow, AreTargetsWithin, edge_from, graph_flow, is_return}
use Rattle.graph_solve_problem.proofs.Lists.{All-at, there, push_before, push_last, from_map, into_map}

some_mapped : (meet : Numbers → Numbers → Numbers) (P Q : Numbers → Type 0) → ((v : Numbers) → P v → Q v) → {x : Numbers} → SomeMeet meet P x → SomeMeet meet Q x
some_mapped meet P Q to (one {x} p) = one (to x p)
some_mapped meet P Q to (both s t) = both (some_mapped meet P Q to s) (some_mapped meet P Q to t)

meet_mapped : (meet : Numbers → Numbers → Numbers) (P Q : Numbers → Type 0) → ((v : Numbers) → P v → Q v) → ((v : Numbers) → Q v → P v) → (x : Numbers) → IsMeetOf meet P x → IsMeetOf meet Q x
meet_mapped meet P Q to back x m = record { below = λ v q. m.below v (back v q); made = some_mapped meet P Q to m.made }

-- every way of the one flow of control is one of the other
record IsPart (c d : ControlFlow) : Type 0 where
  goes : (from to : ℕ) → c.Goes from to → d.Goes from to
  ends : (block : ℕ) → c.Ends block → d.Ends block

module _ (c d : ControlFlow) (part : IsPart c d) where
  begins_too : (forward : Bool) (block : ℕ) → Begins c forward block → Begins d forward block
  begins_too true block e = e
  begins_too false block e = part.ends block e

  leads_too : (forward : Bool) (from to : ℕ) → Leads c forward from to → Leads d forward from to
  leads_too true from to e = part.goes from to e
  leads_too false from to e = part.goes to from e

  carried : (flow : DataFlow) {block : ℕ} (path : Path c flow.forward block) → (other : Path d flow.forward block) × (along flow d other ≡ along flow c path)
  carried flow (first {block} begin) = (first (begins_too flow.forward block begin), refl)
  carried flow (anywhere block) = (anywhere block, refl)
  carried flow (next {from} {to} path leads) = let other = carried flow path in (next other.0 (leads_too flow.forward from to leads), ap (flow.transfer from) other.1)

  comes_too : (flow : DataFlow) (block : ℕ) (v : Numbers) → Comes flow c block v → Comes flow d block v
  comes_too flow block v comes = let other = carried flow comes.0 in (other.0, comes.1 ∙ sym other.1)

  leaves_too : (flow : DataFlow) (block : ℕ) (v : Numbers) → Leaves flow c block v → Leaves flow d block v
  leaves_too flow block v leaves = let other = carried flow leaves.0 in (other.0, leaves.1 ∙ ap (flow.transfer block) (sym other.1))

module _ (flow : DataFlow) (c d : ControlFlow) (to : IsPart c d) (back : IsPart d c) where
  met_too : (values : List Numbers) → AreMet flow c values → AreMet flow d values
  met_too values met block x at = meet_mapped flow.meet _ _ (comes_too c d to flow block) (comes_too d c back flow block) x (met block x at)

  met_behind_too : (values : List Numbers) → AreMetBehind flow c values → AreMetBehind flow d values
  met_behind_too values met block x at = meet_mapped flow.meet _ _ (leaves_too c d to flow block) (leaves_too d c back flow block) x (met block x at)

  sides_too : (forward : Bool) (starts ends : List Numbers) → AreMetBySides flow c forward starts ends → AreMetBySides flow d forward starts ends
  sides_too true starts ends met = (met_too starts met.0, met_behind_too ends met.1)
  sides_too false starts ends met = (met_too ends met.0, met_behind_too starts met.1)

  solution_too : (blocks : ℕ) (starts ends : List Numbers) → IsSolution flow c blocks starts ends → IsSolution flow d blocks starts ends
  solution_too blocks starts ends solution = record { starts_each = solution.starts_each; ends_each = solution.ends_each; met = sides_too flow.forward starts ends solution.met }

module _ (g : Graph) (flow_graph : FlowGraph) (are : AreFlow g (length g.blocks) flow_graph.ends.items flow_graph.edges.items) where
  to_graph : IsPart (control_flow flow_graph) (graph_flow g)
  to_graph = record {
    goes = λ from to has. (are.only from to has).1;
    ends = λ n at.
        let inside : n < length g.blocks = subst (λ k. n < k) are.each (slice_get_within flow_graph.ends.items n true at) in
        let b = there g.blocks n inside in
        (b.0, b.1, same_Some _ _ (sym (are.at n b.0 inside b.1) ∙ at));
  }

  from_graph : IsPart (graph_flow g) (control_flow flow_graph)
  from_graph = record {
    goes = λ from to goes. are.all from to (slice_get_within g.blocks from goes.0 goes.1) goes;
    ends = λ n ends. are.at n ends.0 (slice_get_within g.blocks n ends.0 ends.1) ends.1 ∙ ap Some ends.2;
  }

  pub flow_within : AreTargetsWithin g → AreWithin (length g.blocks) flow_graph.edges.items
  flow_within within k d lt =
      let e = get_or flow_graph.edges.items k d in
      let is = are.only e.from e.to (Contains-get_or flow_graph.edges.items k d lt) in
      let b = is.1.0 in
      (is.0, All-contains (λ to. to < length g.blocks) (targets_of b.end) e.to (All-at (λ (b : Block). All (λ to. to < length g.blocks) (targets_of b.end)) g.blocks e.from b within is.1.1) is.1.2)

  pub graph_solution : (flow : DataFlow) (starts ends : List Numbers) → IsSolution flow (control_flow flow_graph) (length g.blocks) starts ends → IsSolution flow (graph_flow g) (length g.blocks) starts ends
  graph_solution flow starts ends = solution_too flow (control_flow flow_graph) (graph_flow g) to_graph from_graph (length g.blocks) starts ends

-- the flow of one block more
module _ (g : Graph) (n : ℕ) (b : Block) (at : slice_get g.blocks n ≡ Some b) (ends : List Bool) (edges : List Edge) (are : AreFlow g n ends edges) where
  abbrev more_edges : List Edge
  more_edges = map (edge_from n) (targets_of b.end)

  before_or_at : (m : ℕ) → m < n + 1 → (m < n) ⊎ (m ≡ n)
  before_or_at m lt = grind arith

  pub flow_more : AreFlow g (n + 1) (ends ++ is_return b.end ∷ []) (edges ++ more_edges)
  flow_more = record {
    each = length_push ends (is_return b.end) ∙ ap (λ k. k + 1) are.each;
    at = λ m c lt c_at. elim (before_or_at m lt) [
      | inl l ↦ push_before ends (is_return b.end) m (omega (arith, l, are.each)) ∙ are.at m c l c_at
      | inr e ↦
          let same : b ≡ c = same_Some b c (sym at ∙ ap (slice_get g.blocks) (sym e) ∙ c_at) in
          ap (slice_get (ends ++ is_return b.end ∷ [])) (e ∙ sym are.each) ∙ push_last ends (is_return b.end) ∙ ap (λ (k : Block). Some (is_return k.end)) same
    ];
    only = λ from to has. elim (Contains-append_cases edges more_edges (edge_from from to) has) [
      | inl l ↦ let old = are.only from to l in (omega (arith, old.0), old.1)
      | inr r ↦
          let e = from_map (edge_from n) (targets_of b.end) (edge_from from to) r.0 r.1 r.2 in
          let from_is : n ≡ from = ap (λ (k : Edge). k.from) e.2 in
          let to_is : e.0 ≡ to = ap (λ (k : Edge). k.to) e.2 in
          (omega (arith, from_is), (b, ap (slice_get g.blocks) (sym from_is) ∙ at, subst (Contains (targets_of b.end)) to_is e.1))
    ];
    all = λ from to lt goes. elim (before_or_at from lt) [
      | inl l ↦ Contains-append_left edges more_edges (edge_from from to) (are.all from to l goes)
      | inr e ↦
          let same : goes.0 ≡ b = same_Some goes.0 b (sym goes.1 ∙ ap (slice_get g.blocks) e ∙ at) in
          let target = subst (λ (k : Block). Contains (targets_of k.end) to) same goes.2 in
          Contains-append_right edges more_edges (edge_from from to) (subst (λ m. Contains more_edges (edge_from m to)) (sym e) (into_map (edge_from n) (targets_of b.end) to target.0 target.1 target.2))
    ];
  }
