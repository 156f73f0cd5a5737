-- The work as it begins.
use Rattle.std.proofs.Common.{◌≡◌, ℕ, zero, suc, ◌+◌, ◌*◌, ◌-◌, ◌<◌, ◌≤◌, ◌==◌, ◌&&◌, ◌||◌, ◌⊎◌, inl, inr, Bool, true, false, true≢false, cond, not, nat_lt, List, [], ◌∷◌, ◌++◌, Some, length, map, get_or, replicate, refl, sym, ap, ◌∙◌, subst, arith, zero-add}
use Rattle.std.specs.FinSet.{contains, empty}
use Rattle.std.specs.List.{All, Contains, range_with_len}
use Rattle.std.proofs.Math.Nat.{mul-suc, add-mul}
use Rattle.std.proofs.lemmas.Bool.{cases_lt, cases_eq, eqb-true, eq-eqb, ne_eqb, lt-ltb, cond-true, cond-false, and_from, and_right}
use Rattle.std.proofs.lemmas.List.{get_or_past, get_or-replicate, length-replicate}
use Rattle.std.proofs.lemmas.List.Elements.{All-cons, All-tail, All-push, Contains-push, Contains-append_left}
use Rattle.std.proofs.lemmas.List.FromFn.{length-map-range_with_len}
use Rattle.std.proofs.lemmas.Option.{slice_get_within, slice_get-get_or, get_or_from_slice_get, same_Some}
use Rattle.bit_rows.specs.Grid.{row_at, met_bit}
use Rattle.bit_rows.proofs.Bits.{at_index, same_made}
use Rattle.graph_solve_problem.specs.declared.flow_graph.Edge.{Edge}
use Rattle.graph_solve_problem.specs.declared.flow_graph.FlowGraph.{FlowGraph}
use Rattle.graph_solve.specs.First.{is_first, first_bit}
use Rattle.graph_solve_problem.specs.Numbers.{Numbers, numbers_below}
use Rattle.graph_solve_problem.specs.Problem.{DataFlow}
use Rattle.graph_solve_problem.specs.Paths.{Begins}
use Rattle.graph_solve_problem.specs.SetLaws.{equal, below_empty, in_below, not_below}
use Rattle.std.specs.FinSet.{contains-empty}
use Rattle.std.proofs.Common.{nat_cmp}
use Rattle.graph_solve_problem.specs.Solution.{AreWithin, control_flow}
use Rattle.graph_solve_problem.specs.Rounds.{AreFalling, AreFirst}
use Rattle.graph_solve.specs.Rows.{set_of, set_at, sets_at, table}
use Rattle.graph_solve.specs.Work.{IsState, edges_of, falls_to_come, sum_to, targets_from, weighed}
use Rattle.graph_solve.proofs.Bitsets.{in_row, at_sets, table_rows}
use Rattle.graph_solve_problem.proofs.Falling.{first_falling}
use Rattle.graph_solve.proofs.Weighing.{weighed_push}

-- the queue with one more block, last or first
pub record IsQueue (blocks block : ℕ) (queue : List ℕ) : Type 0 where
  pub within : All (λ b. b < blocks) queue
  pub each : (b : ℕ) → b < block → Contains queue b
  pub weighs : (weight : ℕ → ℕ) → weighed weight queue ≡ sum_to weight block

pub queue_back : (blocks block : ℕ) (queue : List ℕ) → block < blocks → IsQueue blocks block queue → IsQueue blocks (block + 1) (queue ++ block ∷ [])
queue_back blocks block queue lt is = record {
  within = All-push (λ b. b < blocks) queue block is.within lt;
  each = λ b less. elim (cases_eq b block) [
    | inl e ↦ subst (Contains (queue ++ block ∷ [])) (sym e) (Contains-push queue block)
    | inr ne ↦ Contains-append_left queue (block ∷ []) b (is.each b (omega (arith, ne)))
  ];
  weighs = λ weight. weighed_push weight queue block ∙ ap (λ n. n + weight block) (is.weighs weight) ∙ sum_next weight block;
}
  where
    sum_next : (weight : ℕ → ℕ) (block : ℕ) → sum_to weight block + weight block ≡ sum_to weight (block + 1)
    sum_next weight block = let e : suc block ≡ block + 1 = omega arith in ap (sum_to weight) e

pub queue_front : (blocks block : ℕ) (queue : List ℕ) → block < blocks → IsQueue blocks block queue → IsQueue blocks (block + 1) (block ∷ queue)
queue_front blocks block queue lt is = record {
  within = All-cons (λ b. b < blocks) block queue lt is.within;
  each = λ b less. elim (cases_eq b block) [
    | inl e ↦ (0, omega arith, sym e)
    | inr ne ↦ let there = is.each b (omega (arith, ne)) in (suc there.0, omega (arith, there.1), there.2)
  ];
  weighs = λ weight. let e : suc block ≡ block + 1 = omega arith in omega (arith, is.weighs weight, ap (sum_to weight) e);
}

sum_same : (w v : ℕ → ℕ) (n : ℕ) → ((b : ℕ) → b < n → w b ≡ v b) → sum_to w n ≡ sum_to v n
sum_same w v zero same = refl
sum_same w v (suc n) same = omega (arith, sum_same w v n (λ b lt. same b (omega arith)), same n (omega arith))

sum_zero : (n : ℕ) → sum_to (λ b. 0) n ≡ 0
sum_zero zero = refl
sum_zero (suc n) = omega (arith, sum_zero n)

module _ (from to : ℕ) (targets : ℕ → List ℕ) where
  abbrev with_one : ℕ → ℕ
  with_one b = length (cond (from == b) (to ∷ targets b) (targets b))

  sum_none : (n : ℕ) → n ≤ from → sum_to with_one n ≡ sum_to (λ b. length (targets b)) n
  sum_none n le = sum_same with_one (λ b. length (targets b)) n (λ b lt. ap length (cond-false (from == b) (to ∷ targets b) (targets b) (ne_eqb from b (λ q. omega (arith, q)))))

  sum_one : (n : ℕ) → from < n → sum_to with_one n ≡ suc (sum_to (λ b. length (targets b)) n)
  sum_one zero lt = absurd (omega arith)
  sum_one (suc n) lt = elim (cases_eq from n) [
    | inl e ↦ omega (arith, sum_none n (omega (arith, e)), ap length (cond-true (from == n) (to ∷ targets n) (targets n) (eq-eqb from n e)))
    | inr ne ↦ omega (arith, sum_one n (omega (arith, ne)), ap length (cond-false (from == n) (to ∷ targets n) (targets n) (ne_eqb from n ne)))
  ]

-- each edge leads from one block
pub sum_edges : (edges : List Edge) (n : ℕ) → AreWithin n edges → sum_to (λ b. length (targets_from b edges)) n ≡ length edges
sum_edges [] n within = sum_zero n
sum_edges (e ∷ edges) n within =
    sum_one e.from e.to (λ b. targets_from b edges) n (within 0 e (omega arith)).0
    ∙ ap suc (sum_edges edges n (All-tail (λ (e : Edge). (e.from < n) × (e.to < n)) e edges within))

module _ (weight : ℕ → ℕ) (height : ℕ) where
  sum_from : (block count : ℕ) → ℕ
  sum_from block zero = 0
  sum_from block (suc count) = weight block + sum_from (suc block) count

  sum_last : (block count : ℕ) → sum_from block (suc count) ≡ sum_from block count + weight (block + count)
  unfolding sum_from
  sum_last block zero = let e : block + 0 ≡ block = omega arith in omega (arith, ap weight e)
  sum_last block (suc count) = let e : suc block + count ≡ block + suc count = omega arith in omega (arith, sum_last (suc block) count, ap weight e)

  from_first : (count : ℕ) → sum_from 0 count ≡ sum_to weight count
  unfolding sum_from
  from_first zero = refl
  from_first (suc count) = omega (arith, sum_last 0 count, from_first count, ap weight (zero-add count))

  falls_zero : (block count : ℕ) → falls_to_come weight height block (replicate count 0) ≡ sum_from block count * height
  unfolding sum_from
  falls_zero block zero = omega arith
  falls_zero block (suc count) =
      let e : height - 0 ≡ height = omega arith in
      ap (λ n. weight block * n + falls_to_come weight height (suc block) (replicate count 0)) e ∙ ap (λ n. weight block * height + n) (falls_zero (suc block) count) ∙ sym (add-mul (weight block) (sum_from (suc block) count) height)

  -- all that is to come as the work begins
  pub all_to_come : (count total : ℕ) (queue : List ℕ) → weighed weight queue ≡ sum_to weight count → sum_to weight count ≡ total → falls_to_come weight height 0 (replicate count 0) + weighed weight queue ≡ total * (height + 1)
  all_to_come count total queue weighs is =
      let e : suc height ≡ height + 1 = omega arith in
      ap (λ n. n + weighed weight queue) (falls_zero 0 count ∙ ap (λ n. n * height) (from_first count ∙ is)) ∙ ap (λ n. total * height + n) (weighs ∙ is) ∙ sym (mul-suc total height) ∙ ap (λ n. total * n) e

pub edges_weigh : (edges : List Edge) (n : ℕ) (weight : ℕ → ℕ) → AreWithin n edges → ((b : ℕ) → b < n → weight b ≡ length (targets_from b edges)) → sum_to weight n ≡ length edges
edges_weigh edges n weight within same = sum_same weight (λ b. length (targets_from b edges)) n same ∙ sum_edges edges n within

-- paths begin at a block just where it is told
pub first_begins : (graph : FlowGraph) (forward : Bool) (b : ℕ) → b < length graph.ends.items → is_first graph.ends.items forward b ≡ true → Begins (control_flow graph) forward b
first_begins graph true b lt e = eqb-true b 0 e
first_begins graph false b lt e = slice_get-get_or graph.ends.items b false lt ∙ ap Some e

pub begins_first : (graph : FlowGraph) (forward : Bool) (b : ℕ) → Begins (control_flow graph) forward b → is_first graph.ends.items forward b ≡ true
begins_first graph true b begin = eq-eqb b 0 begin
begins_first graph false b begin = get_or_from_slice_get graph.ends.items b true false begin

module _ (flow : DataFlow) where
  row_of_edge : set_of (map (contains flow.edge) (range_with_len 0 flow.width)) ≡ flow.edge
  row_of_edge = equal _ _ (λ q. in_row (map (contains flow.edge) (range_with_len 0 flow.width)) q ∙ elim (cases_lt q flow.width) [
    | inl lt ↦ at_index (contains flow.edge) flow.width q false lt
    | inr ge ↦ get_or_past (map (contains flow.edge) (range_with_len 0 flow.width)) q false (omega (arith, length-map-range_with_len (contains flow.edge) 0 flow.width, ge)) ∙ sym ((flow.values flow.edge).0 flow.edge_value q ge)
  ])

  top_none : flow.unites ≡ true → (q : ℕ) → contains flow.top q ≡ false
  top_none unites q =
      let bare : Numbers = empty in
      let value : flow.IsValue bare = (flow.values bare).1 (below_empty flow.width) in
      let none : contains bare q ≡ false = contains-empty nat_cmp q in
      ap (λ b. b || contains flow.top q) (sym none) ∙ ap (λ u. met_bit u (contains bare q) (contains flow.top q)) (sym unites) ∙ sym (flow.meets bare flow.top value flow.top_value q) ∙ ap (λ (s : Numbers). contains s q) (flow.neutral bare value) ∙ none

  top_all : flow.unites ≡ false → (q : ℕ) → q < flow.width → contains flow.top q ≡ true
  top_all unites q lt =
      let all = numbers_below flow.width in
      let value : flow.IsValue all = (flow.values all).1 (not_below flow.width) in
      let there = in_below flow.width q lt in
      ap (λ b. b && contains flow.top q) (sym there) ∙ ap (λ u. met_bit u (contains all q) (contains flow.top q)) (sym unites) ∙ sym (flow.meets all flow.top value flow.top_value q) ∙ ap (λ s. contains s q) (flow.neutral all value) ∙ there

  top_bit : (u : Bool) → flow.unites ≡ u → (q : ℕ) → q < flow.width → not u ≡ contains flow.top q
  top_bit true is q lt = sym (top_none is q)
  top_bit false is q lt = sym (top_all is q lt)

  row_of_top : set_of (map (λ q. not flow.unites) (range_with_len 0 flow.width)) ≡ flow.top
  row_of_top = equal _ _ (λ q. in_row (map (λ q. not flow.unites) (range_with_len 0 flow.width)) q ∙ elim (cases_lt q flow.width) [
    | inl lt ↦ at_index (λ q. not flow.unites) flow.width q false lt ∙ top_bit flow.unites refl q lt
    | inr ge ↦ get_or_past (map (λ q. not flow.unites) (range_with_len 0 flow.width)) q false (omega (arith, length-map-range_with_len (λ q. not flow.unites) 0 flow.width, ge)) ∙ sym ((flow.values flow.top).0 flow.top_value q ge)
  ])

  module _ (graph : FlowGraph) (values : List (List Bool)) where
    abbrev blocks : ℕ
    blocks = length graph.ends.items

    module _ (is : values ≡ table (blocks + blocks) flow.width (first_bit graph.ends.items flow.forward flow.unites flow.edge)) where
      row_is : (b : ℕ) → b < blocks + blocks → row_at values b ≡ map (first_bit graph.ends.items flow.forward flow.unites flow.edge b) (range_with_len 0 flow.width)
      row_is b lt = ap (λ rows. row_at rows b) is ∙ at_index (λ row. map (first_bit graph.ends.items flow.forward flow.unites flow.edge row) (range_with_len 0 flow.width)) (blocks + blocks) b [] lt

      first_widths : (b : ℕ) → b < blocks + blocks → length (row_at values b) ≡ flow.width
      first_widths b lt = ap length (row_is b lt) ∙ length-map-range_with_len (first_bit graph.ends.items flow.forward flow.unites flow.edge b) 0 flow.width

      set_first : (b : ℕ) → b < blocks → (c : Bool) → is_first graph.ends.items flow.forward b ≡ c → set_at values b ≡ cond c flow.edge flow.top
      set_first b lt true e =
          ap set_of (row_is b (omega arith) ∙ same_made (first_bit graph.ends.items flow.forward flow.unites flow.edge b) (contains flow.edge) flow.width (λ q less. cond-true _ (contains flow.edge q) (not flow.unites) (and_from _ _ (lt-ltb b blocks lt) e))) ∙ row_of_edge
      set_first b lt false e =
          ap set_of (row_is b (omega arith) ∙ same_made (first_bit graph.ends.items flow.forward flow.unites flow.edge b) (λ q. not flow.unites) flow.width (λ q less. cond-false _ (contains flow.edge q) (not flow.unites) (and_right (nat_lt b blocks) _ e))) ∙ row_of_top

      first_at : (b : ℕ) → b < blocks → (c : Bool) → is_first graph.ends.items flow.forward b ≡ c → (Begins (control_flow graph) flow.forward b × (set_at values b ≡ flow.edge)) ⊎ ((Begins (control_flow graph) flow.forward b → ⊥) × (set_at values b ≡ flow.top))
      first_at b lt true e = inl (first_begins graph flow.forward b lt e, set_first b lt true e)
      first_at b lt false e = inr (λ begin. true≢false (sym (begins_first graph flow.forward b begin) ∙ e), set_first b lt false e)

      firsts : AreFirst flow (control_flow graph) blocks (sets_at values 0 blocks)
      firsts = record {
        each = length-map-range_with_len (λ row. set_at values (0 + row)) 0 blocks;
        at = λ b x at.
            let lt : b < blocks = omega (arith, slice_get_within (sets_at values 0 blocks) b x at, length-map-range_with_len (λ row. set_at values (0 + row)) 0 blocks) in
            subst (λ v. (Begins (control_flow graph) flow.forward b × (v ≡ flow.edge)) ⊎ ((Begins (control_flow graph) flow.forward b → ⊥) × (v ≡ flow.top))) (same_Some (set_at values b) x (sym (at_sets values blocks b lt) ∙ at)) (first_at b lt (is_first graph.ends.items flow.forward b) refl);
      }

      pub first_state : (queue : List ℕ) (waiting : List Bool) (counts : List ℕ) → IsQueue blocks blocks queue → waiting ≡ replicate blocks true → counts ≡ replicate blocks 0 → IsState flow (control_flow graph) (edges_of flow graph) blocks values queue waiting counts 0 []
      first_state queue waiting counts queued waits zeros = record {
        rows = ap length is ∙ table_rows (blocks + blocks) flow.width (first_bit graph.ends.items flow.forward flow.unites flow.edge);
        widths = first_widths;
        falling = subst (λ cs. AreFalling flow (control_flow graph) (sets_at values 0 blocks) cs) (sym zeros) (first_falling flow (control_flow graph) blocks (sets_at values 0 blocks) firsts);
        queued = queued.within;
        waits = ap length waits ∙ length-replicate blocks true;
        listed = λ b here. queued.each b (waiting_in b here);
        made = λ b lt rests. absurd (never b rests);
        settled = λ from to has rests. absurd (never from rests);
      }
        where
          waiting_in : (b : ℕ) → get_or waiting b false ≡ true → b < blocks
          waiting_in b here = elim (cases_lt b blocks) [
            | inl lt ↦ lt
            | inr ge ↦ absurd (true≢false (sym here ∙ get_or_past waiting b false (omega (arith, ap length waits, length-replicate blocks true, ge))))
          ]

          never : (b : ℕ) → get_or waiting b true ≡ false → ⊥
          never b rests = elim (cases_lt b blocks) [
            | inl lt ↦ true≢false (sym (ap (λ ws. get_or ws b true) waits ∙ get_or-replicate blocks b true true lt) ∙ rests)
            | inr ge ↦ true≢false (sym (get_or_past waiting b true (omega (arith, ap length waits, length-replicate blocks true, ge))) ∙ rests)
          ]
