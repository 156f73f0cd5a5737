-- Values that fall until each edge is settled are the meets over all paths.
use Rattle.std.proofs.Common.{◌≡◌, ◌≢◌, ℕ, zero, suc, ◌+◌, ◌<◌, ◌⊎◌, inl, inr, List, [], ◌∷◌, ◌++◌, Some, refl, sym, ap, ◌∙◌, subst, length, replicate, arith, add-one}
use Rattle.std.specs.Prelude.{slice_get}
use Rattle.std.proofs.Math.ListN.{set, length-set}
use Rattle.std.proofs.lemmas.List.{length-replicate, length_push}
use Rattle.std.proofs.lemmas.List.Elements.{All-contains}
use Rattle.std.proofs.lemmas.Option.{slice_get_within, same_Some}
use Rattle.graph_solve_problem.specs.declared.flow_graph.Edge.{Edge}
use Rattle.graph_solve_problem.specs.Numbers.{Numbers}
use Rattle.graph_solve_problem.specs.Problem.{DataFlow, Falls, begins, falls}
use Rattle.graph_solve_problem.specs.Paths.{ControlFlow, Begins, Leads, Path, first, anywhere, next, along, Comes, Leaves}
use Rattle.graph_solve_problem.specs.Meets.{SomeMeet, one, both, IsMeetOf}
use Rattle.graph_solve_problem.specs.Solution.{AreMet, AreMetBehind, AreWithin}
use Rattle.graph_solve_problem.specs.Rounds.{AreDirected, AreCounted, AreFalling, IsSettled, AreAllSettled, HasFallen, Follows, rests, relaxes, falls_left, AreFirst, AreMade}
use Rattle.graph_solve_problem.proofs.Lists.{at_set, at_push, push_before, push_last, there, at_replicate}

-- one more fall leaves one fewer
falls_less : (height : ℕ) (counts : List ℕ) (block count : ℕ) → slice_get counts block ≡ Some count → count < height → falls_left height (set counts block (count + 1)) < falls_left height counts
falls_less height [] block count e lt = cc
falls_less height (f ∷ fs) zero count e lt = let q : f ≡ count = cc in omega (arith, q)
falls_less height (f ∷ fs) (suc block) count e lt = omega (arith, falls_less height fs block count e lt)

module _ (flow : DataFlow) where
  pub below_meet : (y t e : Numbers) → flow.IsValue y → flow.IsValue t → flow.IsValue e → flow.meet y e ≡ y → flow.meet (flow.meet y t) e ≡ flow.meet y t
  below_meet y t e vy vt ve h =
      ap (λ w. flow.meet w e) (flow.commutes y t vy vt) ∙ flow.associates t y e vt vy ve ∙ ap (flow.meet t) h ∙ flow.commutes t y vt vy

  below_self : (y t : Numbers) → flow.IsValue y → flow.IsValue t → flow.meet (flow.meet y t) y ≡ flow.meet y t
  below_self y t vy vt = below_meet y t y vy vt vy (flow.repeats y vy)

  module _ (edge : Edge) (values : List Numbers) (counts : List ℕ) (new_values : List Numbers) (new_counts : List ℕ) (counted : AreCounted flow values counts) (fall : HasFallen flow edge values counts new_values new_counts) where
    abbrev made : Numbers
    made = flow.transfer edge.from fall.from_value

    abbrev fallen : Numbers
    fallen = flow.meet fall.to_value made

    made_value : flow.IsValue made
    made_value = flow.transfer_value edge.from fall.from_value (counted.value edge.from fall.from_value fall.from_at)

    to_value_value : flow.IsValue fall.to_value
    to_value_value = counted.value edge.to fall.to_value fall.to_at

    fallen_value : flow.IsValue fallen
    fallen_value = flow.meet_value fall.to_value made to_value_value made_value

    -- what stands at a block now
    pub now_at : (block : ℕ) (x : Numbers) → slice_get new_values block ≡ Some x → ((block ≡ edge.to) × (x ≡ fallen)) ⊎ ((block ≢ edge.to) × (slice_get values block ≡ Some x))
    now_at block x at = at_set values edge.to block fallen x (ap (λ xs. slice_get xs block) (sym fall.falls) ∙ at)

    count_now : (block count : ℕ) → slice_get new_counts block ≡ Some count → ((block ≡ edge.to) × (count ≡ fall.count + 1)) ⊎ ((block ≢ edge.to) × (slice_get counts block ≡ Some count))
    count_now block count at = at_set counts edge.to block (fall.count + 1) count (ap (λ xs. slice_get xs block) (sym fall.counts_it) ∙ at)

    longer_chain : Falls flow.IsValue flow.meet (fall.count + 1) fallen
    longer_chain = subst (λ i. Falls flow.IsValue flow.meet i fallen) (sym (add-one fall.count))
        (falls (counted.chain edge.to fall.count fall.to_value fall.to_at fall.count_at) fallen_value (below_self fall.to_value made to_value_value made_value) fall.differs)

    pub still_counted : AreCounted flow new_values new_counts
    still_counted = record {
      lengths = ap length fall.falls ∙ length-set values edge.to fallen ∙ counted.lengths ∙ sym (ap length fall.counts_it ∙ length-set counts edge.to (fall.count + 1));
      value = λ block x at. elim (now_at block x at) [ inl q ↦ subst flow.IsValue (sym q.1) fallen_value | inr q ↦ counted.value block x q.1 ];
      chain = λ block count x at count_at. elim (now_at block x at) [
        | inl q ↦ elim (count_now block count count_at) [
          | inl r ↦ subst (λ u. Falls flow.IsValue flow.meet count u) (sym q.1) (subst (λ i. Falls flow.IsValue flow.meet i fallen) (sym r.1) longer_chain)
          | inr r ↦ absurd (r.0 q.0)
        ]
        | inr q ↦ elim (count_now block count count_at) [ inl r ↦ absurd (q.0 r.0) | inr r ↦ counted.chain block count x q.1 r.1 ]
      ];
    }

    -- one more fall is within the height
    pub falls_within : fall.count < flow.height
    falls_within = omega (arith, flow.bounded (fall.count + 1) fallen longer_chain)

    pub fewer_left : falls_left flow.height new_counts < falls_left flow.height counts
    fewer_left = subst (λ cs. falls_left flow.height cs < falls_left flow.height counts) (sym fall.counts_it) (falls_less flow.height counts edge.to fall.count fall.count_at falls_within)

    pub as_long : length new_values ≡ length values
    as_long = ap length fall.falls ∙ length-set values edge.to fallen

  module _ (control : ControlFlow) where
    pub along_value : {block : ℕ} (path : Path control flow.forward block) → flow.IsValue (along flow control path)
    along_value (first b) = flow.edge_value
    along_value (anywhere b) = flow.top_value
    along_value (next {from} path leads) = flow.transfer_value from _ (along_value path)

    comes_value : (block : ℕ) (x : Numbers) → Comes flow control block x → flow.IsValue x
    comes_value block x comes = subst flow.IsValue (sym comes.1) (along_value comes.0)

    some_value : (block : ℕ) {x : Numbers} → SomeMeet flow.meet (Comes flow control block) x → flow.IsValue x
    some_value block (one {x} comes) = comes_value block x comes
    some_value block (both s t) = flow.meet_value _ _ (some_value block s) (some_value block t)

    -- paths go on along an edge
    some_goes : (from to : ℕ) → Leads control flow.forward from to → {x : Numbers} → SomeMeet flow.meet (Comes flow control from) x → SomeMeet flow.meet (Comes flow control to) (flow.transfer from x)
    some_goes from to leads (one comes) = one (next comes.0 leads, ap (flow.transfer from) comes.1)
    some_goes from to leads (both {x} {y} s t) =
        subst (SomeMeet flow.meet (Comes flow control to)) (sym (flow.distributes from x y (some_value from s) (some_value from t))) (both (some_goes from to leads s) (some_goes from to leads t))

    pub still_falling : (edge : Edge) (values : List Numbers) (counts : List ℕ) (new_values : List Numbers) (new_counts : List ℕ) → Leads control flow.forward edge.from edge.to → AreFalling flow control values counts → HasFallen flow edge values counts new_values new_counts → AreFalling flow control new_values new_counts
    still_falling edge values counts new_values new_counts leads state fall =
        let counted = state.counted in
        let low = flow.meet fall.to_value (flow.transfer edge.from fall.from_value) in
        let vy = counted.value edge.to fall.to_value fall.to_at in
        let vt = flow.transfer_value edge.from fall.from_value (counted.value edge.from fall.from_value fall.from_at) in
        let now = now_at edge values counts new_values new_counts counted fall in
        record {
          counted = still_counted edge values counts new_values new_counts counted fall;
          below_edge = λ block x begin at. elim (now block x at) [
            | inl q ↦ subst (λ u. flow.meet u flow.edge ≡ u) (sym q.1) (below_meet fall.to_value (flow.transfer edge.from fall.from_value) flow.edge vy vt flow.edge_value (state.below_edge edge.to fall.to_value (subst (λ b. Begins control flow.forward b) q.0 begin) fall.to_at))
            | inr q ↦ state.below_edge block x begin q.1
          ];
          made = λ block x at. elim (now block x at) [
            | inl q ↦ subst (λ u. SomeMeet flow.meet (Comes flow control block) u) (sym q.1) (subst (λ b. SomeMeet flow.meet (Comes flow control b) low) (sym q.0) (both (state.made edge.to fall.to_value fall.to_at) (some_goes edge.from edge.to leads (state.made edge.from fall.from_value fall.from_at))))
            | inr q ↦ state.made block x q.1
          ];
        }

    pub follows_falling : (edges : List Edge) (values : List Numbers) (counts : List ℕ) → AreDirected control flow.forward edges → AreFalling flow control values counts → {new_values : List Numbers} {new_counts : List ℕ} → Follows flow edges values counts new_values new_counts → AreFalling flow control new_values new_counts
    follows_falling edges values counts directed state rests = state
    follows_falling edges values counts directed state (relaxes {mid_values} {mid_counts} {new_values} {new_counts} edge before has fall) =
        still_falling edge mid_values mid_counts new_values new_counts (directed.only edge.from edge.to has) (follows_falling edges values counts directed state before) fall

    module _ (edges : List Edge) (values : List Numbers) (counts : List ℕ) (directed : AreDirected control flow.forward edges) (state : AreFalling flow control values counts) (within : AreWithin (length values) edges) (settled : AreAllSettled flow edges values) where
      -- where each edge is settled, each value is below what comes along any path
      below_along : {block : ℕ} (path : Path control flow.forward block) (x : Numbers) → slice_get values block ≡ Some x → flow.meet x (along flow control path) ≡ x
      below_along (first {block} begin) x at = state.below_edge block x begin at
      below_along (anywhere block) x at = flow.neutral x (state.counted.value block x at)
      below_along (next {from} {to} path leads) x at =
          let has = directed.all from to leads in
          let edge : Edge = record { from = from; to = to } in
          let inside = All-contains (λ (e : Edge). (e.from < length values) × (e.to < length values)) edges edge within has in
          let start = there values from inside.0 in
          let y = start.0 in
          let vx = state.counted.value to x at in
          let vy = state.counted.value from y start.1 in
          let v = along flow control path in
          let vv = along_value path in
          let low = below_along path y start.1 in
          let rest = All-contains (IsSettled flow values) edges edge settled has y x start.1 at in
          let ty = flow.transfer_value from y vy in
          let tv = flow.transfer_value from v vv in
          let t : flow.transfer from y ≡ flow.meet (flow.transfer from y) (flow.transfer from v) = ap (flow.transfer from) (sym low) ∙ flow.distributes from y v vy vv in
          ap (λ w. flow.meet w (flow.transfer from v)) (sym rest) ∙ flow.associates x (flow.transfer from y) (flow.transfer from v) vx ty tv ∙ ap (flow.meet x) (sym t) ∙ rest

      pub met : AreMet flow control values
      met block x at = record {
        below = λ v comes. subst (λ u. flow.meet x u ≡ x) (sym comes.1) (below_along comes.0 x at);
        made = state.made block x at;
      }

    -- a block makes of a meet the meet of what it makes
    some_leaves : (block : ℕ) {x : Numbers} → SomeMeet flow.meet (Comes flow control block) x → SomeMeet flow.meet (Leaves flow control block) (flow.transfer block x)
    some_leaves block (one comes) = one (comes.0, ap (flow.transfer block) comes.1)
    some_leaves block (both {x} {y} s t) =
        subst (SomeMeet flow.meet (Leaves flow control block)) (sym (flow.distributes block x y (some_value block s) (some_value block t))) (both (some_leaves block s) (some_leaves block t))

    pub met_behind : (values made : List Numbers) → AreMet flow control values → AreMade flow values (length values) made → AreMetBehind flow control made
    met_behind values made are_met are_made block y at =
        let inside : block < length values = subst (λ n. block < n) are_made.each (slice_get_within made block y at) in
        let before = there values block inside in
        let x = before.0 in
        let meets = are_met block x before.1 in
        let same : flow.transfer block x ≡ y = same_Some _ _ (sym (are_made.at block x inside before.1) ∙ at) in
        let vx = some_value block meets.made in
        subst (IsMeetOf flow.meet (Leaves flow control block)) same (record {
          below = λ v leaves. let u = along flow control leaves.0 in
              subst (λ w. flow.meet (flow.transfer block x) w ≡ flow.transfer block x) (sym leaves.1)
              (sym (flow.distributes block x u vx (along_value leaves.0)) ∙ ap (flow.transfer block) (meets.below u (leaves.0, refl)));
          made = some_leaves block meets.made;
        })

    pub values_of_met : (values : List Numbers) → AreMet flow control values → (block : ℕ) (x : Numbers) → slice_get values block ≡ Some x → flow.IsValue x
    values_of_met values are_met block x at = some_value block (are_met block x at).made

    pub first_falling : (blocks : ℕ) (values : List Numbers) → AreFirst flow control blocks values → AreFalling flow control values (replicate blocks 0)
    first_falling blocks values firsts = record {
      counted = record {
        lengths = firsts.each ∙ sym (length-replicate blocks 0);
        value = value_there;
        chain = λ block count x at count_at. subst (λ i. Falls flow.IsValue flow.meet i x) (sym (at_replicate blocks block 0 count count_at)) (begins (value_there block x at));
      };
      below_edge = λ block x begin at. elim (firsts.at block x at) [ inl q ↦ subst (λ u. flow.meet u flow.edge ≡ u) (sym q.1) (flow.repeats flow.edge flow.edge_value) | inr q ↦ absurd (q.0 begin) ];
      made = λ block x at. elim (firsts.at block x at) [ inl q ↦ one (first q.0, q.1) | inr q ↦ one (anywhere block, q.1) ];
    }
      where
        value_there : (block : ℕ) (x : Numbers) → slice_get values block ≡ Some x → flow.IsValue x
        value_there block x at = elim (firsts.at block x at) [ inl q ↦ subst flow.IsValue (sym q.1) flow.edge_value | inr q ↦ subst flow.IsValue (sym q.1) flow.top_value ]

    pub first_more : (blocks : ℕ) (values : List Numbers) (x : Numbers) → AreFirst flow control blocks values → ((Begins control flow.forward blocks × (x ≡ flow.edge)) ⊎ ((Begins control flow.forward blocks → ⊥) × (x ≡ flow.top))) → AreFirst flow control (blocks + 1) (values ++ x ∷ [])
    first_more blocks values x firsts is = record {
      each = length_push values x ∙ ap (λ n. n + 1) firsts.each;
      at = λ block y at. elim (at_push values x block y at) [
        | inl q ↦ subst (λ b. (Begins control flow.forward b × (y ≡ flow.edge)) ⊎ ((Begins control flow.forward b → ⊥) × (y ≡ flow.top))) (sym (q.0 ∙ firsts.each)) (subst (λ z. (Begins control flow.forward blocks × (z ≡ flow.edge)) ⊎ ((Begins control flow.forward blocks → ⊥) × (z ≡ flow.top))) (sym q.1) is)
        | inr q ↦ firsts.at block y q
      ];
    }

  pub made_more : (values : List Numbers) (blocks : ℕ) (made : List Numbers) (x : Numbers) → AreMade flow values blocks made → slice_get values blocks ≡ Some x → AreMade flow values (blocks + 1) (made ++ flow.transfer blocks x ∷ [])
  made_more values blocks made x are_made at = record {
    each = length_push made (flow.transfer blocks x) ∙ ap (λ n. n + 1) are_made.each;
    at = λ block y lt y_at. elim (before_or_at block blocks lt) [
      | inl l ↦ push_before made (flow.transfer blocks x) block (omega (arith, l, are_made.each)) ∙ are_made.at block y l y_at
      | inr e ↦
          let same : y ≡ x = same_Some y x (sym y_at ∙ ap (slice_get values) e ∙ at) in
          ap (slice_get (made ++ flow.transfer blocks x ∷ [])) (e ∙ sym are_made.each) ∙ push_last made (flow.transfer blocks x) ∙ ap Some (ap (flow.transfer blocks) (sym same) ∙ ap (λ b. flow.transfer b y) (sym e))
    ];
  }
    where
      before_or_at : (block blocks : ℕ) → block < blocks + 1 → (block < blocks) ⊎ (block ≡ blocks)
      before_or_at block blocks lt = grind arith
