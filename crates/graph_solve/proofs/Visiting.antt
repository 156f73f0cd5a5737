-- A block that is visited: it waits no longer, and has made its further row.
use Rattle.std.proofs.Common.{◌≡◌, ℕ, zero, suc, ◌+◌, ◌<◌, ◌==◌, ◌||◌, ◌&&◌, inl, inr, Bool, true, false, true≢false, Vec, Global, List, [], ◌∷◌, length, map, get_or, refl, sym, ap, ◌∙◌, subst, arith}
use Rattle.std.specs.List.{Contains, range_with_len}
use Rattle.std.proofs.Math.ListN.{set}
use Rattle.std.proofs.lemmas.Bool.{cases_eq, eqb-true, eq-eqb, cases_Bool, cond-true, cond-false}
use Rattle.std.proofs.lemmas.List.{length-set, get_or-set_same, get_or-set_other}
use Rattle.std.proofs.lemmas.List.Elements.{All-contains, All-tail, All-head}
use Rattle.std.proofs.lemmas.List.FromFn.{length-map-range_with_len}
use Rattle.bit_rows.specs.Grid.{row_at, passed, joined}
use Rattle.bit_rows.proofs.Bits.{at_index}
use Rattle.graph_solve_problem.specs.declared.flow_graph.Edge.{Edge}
use Rattle.graph_solve_problem.specs.Problem.{DataFlow}
use Rattle.graph_solve_problem.specs.Paths.{ControlFlow}
use Rattle.graph_solve_problem.specs.Solution.{AreWithin, HasEdge}
use Rattle.graph_solve_problem.specs.Rounds.{AreFalling}
use Rattle.graph_solve.specs.Rows.{set_at, table}
use Rattle.graph_solve.specs.Work.{AreTargets, IsState, targets_from}
use Rattle.graph_solve.proofs.Bitsets.{set_passed, length_joined, there_same, elsewhere, sets_before}
use Rattle.std.proofs.lemmas.Option.{get_or_from_slice_get}
use Rattle.graph_solve_problem.proofs.Lists.{there}
use Rattle.graph_solve.proofs.Working.{contains_cases}

further : {X : Type 0} (x : X) (xs : List X) (y : X) → Contains xs y → Contains (x ∷ xs) y
further x xs y (k, lt, e) = (suc k, omega (arith, lt), e)

-- a block's targets are where the edges lead from it
pub target_edge : (block : ℕ) (edges : List Edge) (to : ℕ) → Contains (targets_from block edges) to → HasEdge edges block to
target_edge block [] to (k, lt, e) = absurd (omega (arith, lt))
target_edge block (edge ∷ more) to has = elim (cases_Bool (edge.from == block)) [
  | inl holds ↦ elim (contains_cases edge.to (targets_from block more) to (subst (λ xs. Contains xs to) (cond-true (edge.from == block) (edge.to ∷ targets_from block more) (targets_from block more) holds) has)) [
    | inl e ↦ (0, omega arith, subst (λ t. edge ≡ record { from = block; to = t }) (sym e) (subst (λ f. edge ≡ record { from = f; to = edge.to }) (eqb-true edge.from block holds) refl))
    | inr rest ↦ further edge more (record { from = block; to = to }) (target_edge block more to rest)
  ]
  | inr none ↦ further edge more (record { from = block; to = to }) (target_edge block more to (subst (λ xs. Contains xs to) (cond-false (edge.from == block) (edge.to ∷ targets_from block more) (targets_from block more) none) has))
]

pub edge_target : (block : ℕ) (edges : List Edge) (to : ℕ) → HasEdge edges block to → Contains (targets_from block edges) to
edge_target block [] to (k, lt, e) = absurd (omega (arith, lt))
edge_target block (edge ∷ more) to has = elim (contains_cases edge more (record { from = block; to = to }) has) [
  | inl e ↦
      let same : (edge.from == block) ≡ true = eq-eqb edge.from block (ap (λ (x : Edge). x.from) (sym e)) in
      subst (λ xs. Contains xs to) (sym (cond-true (edge.from == block) (edge.to ∷ targets_from block more) (targets_from block more) same)) (0, omega arith, ap (λ (x : Edge). x.to) (sym e))
  | inr rest ↦
      let there = edge_target block more to rest in
      elim (cases_Bool (edge.from == block)) [
        | inl holds ↦ subst (λ xs. Contains xs to) (sym (cond-true (edge.from == block) (edge.to ∷ targets_from block more) (targets_from block more) holds)) (further edge.to (targets_from block more) to there)
        | inr none ↦ subst (λ xs. Contains xs to) (sym (cond-false (edge.from == block) (edge.to ∷ targets_from block more) (targets_from block more) none)) there
      ]
]

nothing : {X : Type 0} (x : X) → Contains [] x → ⊥
nothing x (k, lt, e) = omega (arith, lt)

module _ (flow : DataFlow) (control : ControlFlow) (edges : List Edge) (blocks : ℕ) (within : AreWithin blocks edges) where
  -- where no edge is left, it does not matter of which block
  pub of_any : (values : List (List Bool)) (queue : List ℕ) (waiting : List Bool) (counts : List ℕ) (block other : ℕ) → IsState flow control edges blocks values queue waiting counts block [] → IsState flow control edges blocks values queue waiting counts other []
  of_any values queue waiting counts block other state = record {
    rows = state.rows;
    widths = state.widths;
    falling = state.falling;
    queued = state.queued;
    waits = state.waits;
    listed = state.listed;
    made = state.made;
    settled = λ from to has rests. elim (state.settled from to has rests) [ inl low ↦ inl low | inr r ↦ absurd (nothing to r.1) ];
  }

  module _ (values : List (List Bool)) (queue : List ℕ) (waiting : List Bool) (counts : List ℕ) (block before : ℕ) (kept written : List (List Bool)) (is_kept : kept ≡ table blocks flow.width flow.kept) (is_written : written ≡ table blocks flow.width flow.written)
      (state : IsState flow control edges blocks values (block ∷ queue) waiting counts before []) where
    pub block_in : block < blocks
    block_in = All-head (λ b. b < blocks) block queue state.queued

    pub kept_row : row_at kept block ≡ map (flow.kept block) (range_with_len 0 flow.width)
    kept_row = ap (λ rows. row_at rows block) is_kept ∙ at_index (λ row. map (flow.kept row) (range_with_len 0 flow.width)) blocks block [] block_in

    pub written_row : row_at written block ≡ map (flow.written block) (range_with_len 0 flow.width)
    written_row = ap (λ rows. row_at rows block) is_written ∙ at_index (λ row. map (flow.written row) (range_with_len 0 flow.width)) blocks block [] block_in

    pub block_width : length (row_at values block) ≡ flow.width
    block_width = state.widths block (omega (arith, block_in))

    pub kept_width : length (row_at kept block) ≡ flow.width
    kept_width = ap length kept_row ∙ length-map-range_with_len (flow.kept block) 0 flow.width

    pub written_width : length (row_at written block) ≡ flow.width
    written_width = ap length written_row ∙ length-map-range_with_len (flow.written block) 0 flow.width

    abbrev made_row : List Bool
    made_row = passed (row_at values block) (row_at kept block) (row_at written block)

    abbrev new : List (List Bool)
    new = set values (blocks + block) made_row

    both_width : length (joined (λ a b. a && b) (row_at values block) (row_at kept block)) ≡ flow.width
    both_width = length_joined (λ a b. a && b) (row_at values block) (row_at kept block) (block_width ∙ sym kept_width) ∙ block_width

    made_width : length made_row ≡ flow.width
    made_width = length_joined (λ a b. a || b) (joined (λ a b. a && b) (row_at values block) (row_at kept block)) (row_at written block) (both_width ∙ sym written_width) ∙ both_width

    row_in : blocks + block < length values
    row_in = omega (arith, block_in, state.rows)

    first_same : (b : ℕ) → b < blocks → set_at new b ≡ set_at values b
    first_same b lt = elsewhere values (blocks + block) b made_row (λ q. omega (arith, q))

    pub made_now : set_at new (blocks + block) ≡ flow.transfer block (set_at new block)
    made_now = there_same values (blocks + block) made_row row_in ∙ set_passed flow block (row_at values block) (row_at kept block) (row_at written block) block_width kept_row written_row ∙ ap (flow.transfer block) (sym (first_same block block_in))

    pub visited : IsState flow control edges blocks new queue (set waiting block false) counts block (targets_from block edges)
    visited = record {
      rows = length-set values (blocks + block) made_row ∙ state.rows;
      widths = λ row lt. elim (cases_eq row (blocks + block)) [
        | inl e ↦ ap (λ n. length (row_at new n)) e ∙ ap length (get_or-set_same values (blocks + block) made_row [] row_in) ∙ made_width
        | inr ne ↦ ap length (get_or-set_other values (blocks + block) row made_row [] ne) ∙ state.widths row lt
      ];
      falling = subst (λ vs. AreFalling flow control vs counts) (sym (sets_before values blocks (blocks + block) made_row (omega arith))) state.falling;
      queued = All-tail (λ b. b < blocks) block queue state.queued;
      waits = length-set waiting block false ∙ state.waits;
      listed = λ b waits. elim (cases_eq b block) [
        | inl e ↦ absurd (true≢false (sym (ap (λ n. get_or (set waiting block false) n false) (sym e) ∙ waits) ∙ get_or-set_same waiting block false false (omega (arith, block_in, state.waits))))
        | inr ne ↦ elim (contains_cases block queue b (state.listed b (sym (get_or-set_other waiting block b false false ne) ∙ waits))) [ inl e ↦ absurd (ne e) | inr rest ↦ rest ]
      ];
      made = λ b lt rests. elim (cases_eq b block) [
        | inl e ↦ subst (λ n. set_at new (blocks + n) ≡ flow.transfer n (set_at new n)) (sym e) made_now
        | inr ne ↦ elsewhere values (blocks + block) (blocks + b) made_row (λ q. ne (omega (arith, q))) ∙ state.made b lt (sym (get_or-set_other waiting block b false true ne) ∙ rests) ∙ ap (flow.transfer b) (sym (first_same b lt))
      ];
      settled = λ from to has rests. elim (cases_eq from block) [
        | inl e ↦ inr (e, edge_target block edges to (subst (λ f. HasEdge edges f to) e has))
        | inr ne ↦ elim (state.settled from to has (sym (get_or-set_other waiting block from false true ne) ∙ rests)) [
          | inl low ↦
              let ends = All-contains (λ (e : Edge). (e.from < blocks) × (e.to < blocks)) edges (record { from = from; to = to }) within has in
              inl (ap (λ v. flow.meet v (flow.transfer from (set_at new from))) (first_same to ends.1) ∙ ap (λ v. flow.meet (set_at values to) (flow.transfer from v)) (first_same from ends.0) ∙ low ∙ sym (first_same to ends.1))
          | inr r ↦ absurd (nothing to r.1)
        ]
      ];
    }

-- what a read of a block's list gives
pub items_at : (targets : List (Vec ℕ Global)) (block : ℕ) (v : Vec ℕ Global) → block < length targets → v ≡ get_or targets block v → get_or (map (λ (w : Vec ℕ Global). w.items) targets) block [] ≡ v.items
items_at [] block v lt e = absurd (omega arith)
items_at (t ∷ ts) zero v lt e = ap (λ (w : Vec ℕ Global). w.items) (sym e)
items_at (t ∷ ts) (suc block) v lt e = items_at ts block v (omega arith) e

pub targets_there : (edges : List Edge) (blocks : ℕ) (targets : List (Vec ℕ Global)) (block : ℕ) → AreTargets edges blocks targets → block < blocks → get_or (map (λ (w : Vec ℕ Global). w.items) targets) block [] ≡ targets_from block edges
targets_there edges blocks targets block are lt =
    let at = there targets block (omega (arith, are.each)) in
    let v = at.0 in
    let is = get_or_from_slice_get targets block v v at.1 in
    items_at targets block v (omega (arith, are.each)) (sym is) ∙ ap (λ (w : Vec ℕ Global). w.items) (sym is) ∙ are.at block v lt
