-- The state of the work, from one edge that is followed to the next.
use Rattle.std.proofs.Common.{◌≡◌, ℕ, zero, suc, ◌+◌, ◌<◌, ◌⊎◌, inl, inr, Bool, true, false, true≢false, List, [], ◌∷◌, ◌++◌, Some, length, get_or, refl, sym, ap, ◌∙◌, subst, arith}
use Rattle.std.specs.Prelude.{slice_get}
use Rattle.std.specs.List.{All, Contains}
use Rattle.std.proofs.Math.ListN.{set}
use Rattle.std.proofs.lemmas.Bool.{cases_eq}
use Rattle.std.proofs.lemmas.List.FromFn.{length-map-range_with_len}
use Rattle.std.proofs.lemmas.List.{length-set, get_or_default, get_or-set_same, get_or-set_other, set-get_or}
use Rattle.std.proofs.lemmas.List.Elements.{All-contains, All-push, Contains-push, Contains-append_left}
use Rattle.bit_rows.specs.Grid.{row_at, met, met_bit}
use Rattle.graph_solve_problem.specs.declared.flow_graph.Edge.{Edge}
use Rattle.graph_solve_problem.specs.Numbers.{Numbers}
use Rattle.graph_solve_problem.specs.Problem.{DataFlow}
use Rattle.graph_solve_problem.specs.Paths.{ControlFlow}
use Rattle.graph_solve_problem.specs.Solution.{AreWithin, HasEdge}
use Rattle.graph_solve_problem.specs.Rounds.{AreDirected, HasFallen}
use Rattle.graph_solve.specs.Rows.{set_of, set_at, sets_at}
use Rattle.graph_solve.specs.Work.{IsState}
use Rattle.graph_solve.proofs.Bitsets.{row_value, same_row, set_met, length_joined, made_stays, at_sets, there_same, elsewhere, sets_set}
use Rattle.graph_solve_problem.proofs.Falling.{below_meet, still_falling, falls_within}

-- it is the first of a list, or one of the others
pub contains_cases : {X : Type 0} (x : X) (xs : List X) (y : X) → Contains (x ∷ xs) y → (y ≡ x) ⊎ Contains xs y
contains_cases x xs y (zero, lt, e) = inl (sym e)
contains_cases x xs y (suc k, lt, e) = inr (k, omega arith, e)

module _ (flow : DataFlow) (control : ControlFlow) (edges : List Edge) (blocks : ℕ) (directed : AreDirected control flow.forward edges) (within : AreWithin blocks edges) where
  module _ (values : List (List Bool)) (queue : List ℕ) (waiting : List Bool) (counts : List ℕ) (block to : ℕ) (left : List ℕ)
      (state : IsState flow control edges blocks values queue waiting counts block (to ∷ left)) (has : HasEdge edges block to)
      (made : set_at values (blocks + block) ≡ flow.transfer block (set_at values block)) where
    ends : (block < blocks) × (to < blocks)
    ends = All-contains (λ (e : Edge). (e.from < blocks) × (e.to < blocks)) edges (record { from = block; to = to }) within has

    pub row_in : to < length values
    row_in = omega (arith, ends.1, state.rows)

    pub made_row_in : blocks + block < length values
    made_row_in = omega (arith, ends.0, state.rows)

    pub counted_in : to < length counts
    counted_in = omega (arith, ends.1, state.falling.counted.lengths, length-map-range_with_len (λ row. set_at values (0 + row)) 0 blocks)

    pub waits_in : to < length waiting
    waits_in = omega (arith, ends.1, state.waits)

    abbrev given : List Bool
    given = row_at values (blocks + block)

    abbrev old : List Bool
    old = row_at values to

    abbrev fallen : List Bool
    fallen = met flow.unites given old

    abbrev sent : Numbers
    sent = flow.transfer block (set_at values block)

    given_width : length given ≡ flow.width
    given_width = state.widths (blocks + block) (omega (arith, ends.0))

    old_width : length old ≡ flow.width
    old_width = state.widths to (omega (arith, ends.1))

    fallen_width : length fallen ≡ flow.width
    fallen_width = length_joined (met_bit flow.unites) given old (given_width ∙ sym old_width) ∙ given_width

    value_at : (b : ℕ) → b < blocks → flow.IsValue (set_at values b)
    value_at b lt = row_value flow (row_at values b) (state.widths b (omega arith))

    sent_value : flow.IsValue sent
    sent_value = flow.transfer_value block (set_at values block) (value_at block ends.0)

    fallen_set : set_of fallen ≡ flow.meet (set_at values to) sent
    fallen_set = set_met flow given old given_width old_width ∙ ap (flow.meet (set_at values to)) made

    -- nothing fell
    pub rested : set values to fallen ≡ values → IsState flow control edges blocks values queue waiting counts block left
    rested same = record {
      rows = state.rows;
      widths = state.widths;
      falling = state.falling;
      queued = state.queued;
      waits = state.waits;
      listed = state.listed;
      made = state.made;
      settled = λ from k has_edge waits. elim (state.settled from k has_edge waits) [
        | inl low ↦ inl low
        | inr r ↦ elim (contains_cases to left k r.1) [
          | inl e ↦ inl (subst (λ f. flow.meet (set_at values k) (flow.transfer f (set_at values f)) ≡ set_at values k) (sym r.0) (subst (λ t. flow.meet (set_at values t) sent ≡ set_at values t) (sym e) below))
          | inr rest ↦ inr (r.0, rest)
        ]
      ];
    }
      where
        below : flow.meet (set_at values to) sent ≡ set_at values to
        below = sym fallen_set ∙ sym (there_same values to fallen row_in) ∙ ap (λ all. set_at all to) same

    module _ (changed : set values to fallen ≡ values → ⊥) (count : ℕ) (count_at : slice_get counts to ≡ Some count) where
      abbrev edge : Edge
      edge = record { from = block; to = to }

      pub fall : HasFallen flow edge (sets_at values 0 blocks) counts (sets_at (set values to fallen) 0 blocks) (set counts to (count + 1))
      fall = record {
        from_value = set_at values block;
        to_value = set_at values to;
        count = count;
        from_at = at_sets values blocks block ends.0;
        to_at = at_sets values blocks to ends.1;
        count_at = count_at;
        differs = λ q. changed (ap (set values to) (same_row fallen old (fallen_width ∙ sym old_width) (fallen_set ∙ q)) ∙ set-get_or values to []);
        falls = sets_set values blocks to fallen row_in ∙ ap (set (sets_at values 0 blocks) to) fallen_set;
        counts_it = refl;
      }

      pub count_fits : count < flow.height
      unfolding fall
      count_fits = falls_within flow edge (sets_at values 0 blocks) counts (sets_at (set values to fallen) 0 blocks) (set counts to (count + 1)) state.falling.counted fall

      abbrev new : List (List Bool)
      new = set values to fallen

      now_to : set_at new to ≡ flow.meet (set_at values to) sent
      now_to = there_same values to fallen row_in ∙ fallen_set

      made_same : (b : ℕ) → set_at new (blocks + b) ≡ set_at values (blocks + b)
      made_same b = elsewhere values to (blocks + b) fallen (λ q. omega (arith, q, ends.1))

      pub still_made : set_at new (blocks + block) ≡ flow.transfer block (set_at new block)
      still_made = made_same block ∙ made ∙ elim (cases_eq block to) [
        | inl e ↦
            sym (made_stays flow block (set_at values block) (value_at block ends.0))
            ∙ ap (flow.transfer block) (subst (λ t. flow.meet (set_at values t) sent ≡ set_at new t) (sym e) (sym now_to))
        | inr ne ↦ ap (flow.transfer block) (sym (elsewhere values to block fallen ne))
      ]

      -- what is waiting now
      module _ (new_queue : List ℕ) (new_waiting : List Bool) (queued : All (λ b. b < blocks) new_queue) (waits : length new_waiting ≡ blocks)
          (listed : (b : ℕ) → get_or new_waiting b false ≡ true → Contains new_queue b) (waits_now : get_or new_waiting to true ≡ true) (as_before : (b : ℕ) → (b ≡ to → ⊥) → get_or new_waiting b true ≡ get_or waiting b true) where
        not_to : (b : ℕ) → get_or new_waiting b true ≡ false → b ≡ to → ⊥
        not_to b rests e = true≢false (sym waits_now ∙ ap (λ n. get_or new_waiting n true) (sym e) ∙ rests)

        Low : ℕ → ℕ → Type 0
        Low from k = flow.meet (set_at new k) (flow.transfer from (set_at new from)) ≡ set_at new k

        low_to : (from : ℕ) → HasEdge edges from to → get_or new_waiting from true ≡ false → flow.meet (set_at new to) (flow.transfer from (set_at new from)) ≡ set_at new to
        low_to from has_edge rests =
            let from_in = (All-contains (λ (e : Edge). (e.from < blocks) × (e.to < blocks)) edges (record { from = from; to = to }) within has_edge).0 in
            let ne = not_to from rests in
            let t = flow.transfer from (set_at values from) in
            let tv = flow.transfer_value from (set_at values from) (value_at from from_in) in
            let y = set_at values to in
            let yv = value_at to ends.1 in
            let low : flow.meet (flow.meet y sent) t ≡ flow.meet y sent = elim (state.settled from to has_edge (sym (as_before from ne) ∙ rests)) [
              | inl l ↦ below_meet flow y sent t yv sent_value tv l
              | inr r ↦ ap (flow.meet (flow.meet y sent)) (ap (λ f. flow.transfer f (set_at values f)) r.0) ∙ flow.associates y sent sent yv sent_value sent_value ∙ ap (flow.meet y) (flow.repeats sent sent_value)
            ] in
            ap (λ v. flow.meet v (flow.transfer from (set_at new from))) now_to ∙ ap (λ v. flow.meet (flow.meet y sent) (flow.transfer from v)) (elsewhere values to from fallen ne) ∙ low ∙ sym now_to

        pub fell : IsState flow control edges blocks new new_queue new_waiting (set counts to (count + 1)) block left
        fell = record {
          rows = length-set values to fallen ∙ state.rows;
          widths = λ row lt. elim (cases_eq row to) [
            | inl e ↦ ap (λ n. length (row_at new n)) e ∙ ap length (get_or-set_same values to fallen [] row_in) ∙ fallen_width
            | inr ne ↦ ap length (get_or-set_other values to row fallen [] ne) ∙ state.widths row lt
          ];
          falling = still_falling flow control edge (sets_at values 0 blocks) counts (sets_at new 0 blocks) (set counts to (count + 1)) (directed.only block to has) state.falling fall;
          queued = queued;
          waits = waits;
          listed = listed;
          made = λ b lt rests.
              let ne = not_to b rests in
              made_same b ∙ state.made b lt (sym (as_before b ne) ∙ rests) ∙ ap (flow.transfer b) (sym (elsewhere values to b fallen ne));
          settled = λ from k has_edge rests. elim (cases_eq k to) [
            | inl e ↦ inl (subst (λ n. flow.meet (set_at new n) (flow.transfer from (set_at new from)) ≡ set_at new n) (sym e) (low_to from (subst (HasEdge edges from) e has_edge) rests))
            | inr ne ↦
                let from_ne = not_to from rests in
                elim (state.settled from k has_edge (sym (as_before from from_ne) ∙ rests)) [
                  | inl low ↦ inl (ap (λ v. flow.meet v (flow.transfer from (set_at new from))) (elsewhere values to k fallen ne) ∙ ap (λ v. flow.meet (set_at values k) (flow.transfer from v)) (elsewhere values to from fallen from_ne) ∙ low ∙ sym (elsewhere values to k fallen ne))
                  | inr r ↦ elim (contains_cases to left k r.1) [ inl q ↦ absurd (ne q) | inr rest ↦ inr (r.0, rest) ]
                ]
          ];
        }

      -- the block waits already
      pub fell_waiting : get_or waiting to false ≡ true → IsState flow control edges blocks new queue waiting (set counts to (count + 1)) block left
      fell_waiting waits = fell queue waiting state.queued state.waits state.listed (get_or_default waiting to true false waits_in ∙ waits) (λ b ne. refl)

      -- the block waits from now on
      pub fell_anew : IsState flow control edges blocks new (queue ++ to ∷ []) (set waiting to true) (set counts to (count + 1)) block left
      fell_anew = fell (queue ++ to ∷ []) (set waiting to true) (All-push (λ b. b < blocks) queue to state.queued ends.1) (length-set waiting to true ∙ state.waits)
          (λ b waits. elim (cases_eq b to) [
            | inl e ↦ subst (Contains (queue ++ to ∷ [])) (sym e) (Contains-push queue to)
            | inr ne ↦ Contains-append_left queue (to ∷ []) b (state.listed b (sym (get_or-set_other waiting to b true false ne) ∙ waits))
          ])
          (get_or-set_same waiting to true true waits_in) (λ b ne. get_or-set_other waiting to b true true ne)
