-- Where no block waits, the rows solve the problem.
use Rattle.std.proofs.Common.{◌≡◌, ℕ, ◌+◌, ◌<◌, inl, inr, Bool, true, false, cond, List, [], Some, length, get_or, sym, ap, ◌∙◌, subst, arith}
use Rattle.std.specs.List.{Contains}
use Rattle.std.proofs.lemmas.Bool.{cases_Bool}
use Rattle.std.proofs.lemmas.List.{get_or_default}
use Rattle.std.proofs.lemmas.List.Elements.{All-contains, Contains-get_or}
use Rattle.std.proofs.lemmas.List.FromFn.{length-map-range_with_len}
use Rattle.std.proofs.lemmas.Option.{slice_get-get_or, same_Some}
use Rattle.bit_rows.proofs.Bits.{at_index}
use Rattle.graph_solve_problem.specs.declared.flow_graph.Edge.{Edge}
use Rattle.graph_solve_problem.specs.Numbers.{Numbers}
use Rattle.graph_solve_problem.specs.Problem.{DataFlow}
use Rattle.graph_solve_problem.specs.Paths.{ControlFlow}
use Rattle.graph_solve_problem.specs.Solution.{AreMet, AreWithin, IsSolution}
use Rattle.graph_solve_problem.specs.Rounds.{AreDirected, AreMade, AreAllSettled}
use Rattle.graph_solve.specs.Rows.{set_at, sets_at}
use Rattle.graph_solve.specs.Work.{IsState}
use Rattle.graph_solve.proofs.Bitsets.{at_sets}
use Rattle.graph_solve_problem.proofs.Falling.{met}
use Rattle.graph_solve_problem.proofs.Solved.{solved_forward, solved_backward}

module _ (flow : DataFlow) (control : ControlFlow) (edges : List Edge) (blocks : ℕ) (directed : AreDirected control flow.forward edges) (within : AreWithin blocks edges)
    (values : List (List Bool)) (queue : List ℕ) (waiting : List Bool) (counts : List ℕ) (block : ℕ) (state : IsState flow control edges blocks values queue waiting counts block []) (done : queue ≡ []) where
  abbrev sets : List Numbers
  sets = sets_at values 0 blocks

  abbrev made_sets : List Numbers
  made_sets = sets_at values blocks blocks

  count : length sets ≡ blocks
  count = length-map-range_with_len (λ row. set_at values (0 + row)) 0 blocks

  rests : (b : ℕ) → b < blocks → get_or waiting b true ≡ false
  rests b lt = elim (cases_Bool (get_or waiting b true)) [
    | inl waits ↦
        let there = subst (λ q. Contains q b) done (state.listed b (get_or_default waiting b false true (omega (arith, lt, state.waits)) ∙ waits)) in
        absurd (omega (arith, there.1))
    | inr no_more ↦ no_more
  ]

  settled_edge : (from to : ℕ) → Contains edges (record { from = from; to = to }) → flow.meet (set_at values to) (flow.transfer from (set_at values from)) ≡ set_at values to
  settled_edge from to has =
      let ends = All-contains (λ (e : Edge). (e.from < blocks) × (e.to < blocks)) edges (record { from = from; to = to }) within has in
      elim (state.settled from to has (rests from ends.0)) [ inl low ↦ low | inr r ↦ absurd (omega (arith, r.1.1)) ]

  all_settled : AreAllSettled flow edges sets
  all_settled k d lt x y x_at y_at =
      let e = get_or edges k d in
      let has = Contains-get_or edges k d lt in
      let ends = All-contains (λ (e : Edge). (e.from < blocks) × (e.to < blocks)) edges e within has in
      let x_is = same_Some _ _ (sym (at_sets values blocks e.from ends.0) ∙ x_at) in
      let y_is = same_Some _ _ (sym (at_sets values blocks e.to ends.1) ∙ y_at) in
      subst (λ v. flow.meet v (flow.transfer e.from x) ≡ v) y_is (subst (λ v. flow.meet (set_at values e.to) (flow.transfer e.from v) ≡ set_at values e.to) x_is (settled_edge e.from e.to has))

  are_met : AreMet flow control sets
  are_met = met flow control edges sets counts directed state.falling (subst (λ n. AreWithin n edges) (sym count) within) all_settled

  are_made : AreMade flow sets blocks made_sets
  are_made = record {
    each = length-map-range_with_len (λ row. set_at values (blocks + row)) 0 blocks;
    at = λ b x lt x_at.
        let x_is = same_Some _ _ (sym (at_sets values blocks b lt) ∙ x_at) in
        slice_get-get_or made_sets b (set_at values (blocks + b)) (omega (arith, lt, length-map-range_with_len (λ row. set_at values (blocks + row)) 0 blocks))
        ∙ ap Some (at_index (λ row. set_at values (blocks + row)) blocks b (set_at values (blocks + b)) lt ∙ state.made b lt (rests b lt) ∙ ap (flow.transfer b) x_is);
  }

  -- in the direction of the paths
  pub rows_solve : (forward : Bool) → flow.forward ≡ forward → IsSolution flow control blocks (cond forward sets made_sets) (cond forward made_sets sets)
  rows_solve true is = solved_forward flow control blocks sets made_sets count are_met (subst (λ n. AreMade flow sets n made_sets) (sym count) are_made) is
  rows_solve false is = solved_backward flow control blocks sets made_sets count are_met (subst (λ n. AreMade flow sets n made_sets) (sym count) are_made) is
