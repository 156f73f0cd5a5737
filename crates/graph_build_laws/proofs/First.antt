-- What is made does not lead to the first block of its graph.
use Rattle.std.proofs.Common.{◌≡◌, ◌⊎◌, inl, inr, ℕ, suc, ◌+◌, ◌-◌, Bool, true, false, Option, Some, None, List, [], ◌∷◌, ◌++◌, length, slice_get, refl, sym, subst, arith, if◌then◌else◌}
use Rattle.c_tree.specs.Programs.{TypedFunctionTree, ProgramTree}
use Rattle.c_places.specs.Flow.{reaches_end}
use Rattle.c_places.specs.Places.{Place, stop, brought_by_body, parameters_of, entry_of, close_of, places_of_all, places_of_function, places_of_program, place_number_at}
use Rattle.c_flow.specs.declared.edge.Edge.{Edge}
use Rattle.c_flow.specs.Flow.{edge, start_of_all, ways_of_body, flow_of_all, flow_of_function}
use Rattle.graph_core.specs.declared.block.Comparison.{Comparison}
use Rattle.graph_core.specs.Graphs.{Operand, End, Branch, Block}
use Rattle.graph_core.specs.Uses.{targets_of}
use Rattle.graph_core.specs.Paths.{Among, front, behind}
use Rattle.graph_build_steps.specs.Drafts.{Made, with_inner_block, label_of}
use Rattle.graph_build_laws.specs.Passing.{Grows, IsPassing}
use Rattle.graph_build_laws.specs.Points.{StandIn}
use Rattle.graph_build_laws.proofs.Instances.{got_before, got_next}
use Rattle.graph_build_laws.proofs.Targets.{AllFit, WayFits, edge_among, fit_front, fit_back, starts_fit, flows_fit}
use Rattle.graph_build_laws.proofs.Ascending.{AllAscend, places_within, numbered_within}

-- an end does not lead to the first block
abbrev pub Avoids : End → Type 0
Avoids e = Among 0 (targets_of e) → ⊥

abbrev pub AllAvoid : List Block → Type 0
AllAvoid [] = Unit {0}
AllAvoid (b ∷ more) = Avoids b.end × AllAvoid more

avoid_more : (place : ℕ) (m : Made) (xs : List Block) → AllAvoid xs → Avoids m.end → AllAvoid (xs ++ record { place = Some place; instructions = m.ops; end = m.end } ∷ [])
avoid_more place m [] h k = (k, tt)
avoid_more place m (x ∷ xs) h k = (h.0, avoid_more place m xs h.1 k)

among_one : {a b : ℕ} → Among a (b ∷ []) → b ≡ a
among_one front = refl
among_one (behind x) = elim x [ ]

among_two : {a b c : ℕ} → Among a (b ∷ c ∷ []) → (b ≡ a) ⊎ (c ≡ a)
among_two front = inl refl
among_two (behind x) = inr (among_one x)

two_avoid : (o : Comparison) (a b : Operand) (l m : ℕ) → (l ≡ 0 → ⊥) → (m ≡ 0 → ⊥) → Avoids (Branch o a b l m)
two_avoid o a b l m h k x = by (among_two x)
  where
    by : (l ≡ 0) ⊎ (m ≡ 0) → ⊥
    by (inl e) = h e
    by (inr e) = k e

-- Labels of inner blocks are not that of the first block, which is a place's.
module _ (blocks : List Block) (top : ℕ) (placed : (b : Block) → slice_get blocks 0 ≡ Some b → b.place ≡ None) where
  abbrev pub HasAvoided : (p : ℕ) → Made → Type 0
  HasAvoided p m = StandIn blocks top m.inner → Avoids m.end × AllAvoid m.inner

  abbrev pub LeadsAway : (p label : ℕ) → List Block → Type 0
  LeadsAway p l inner = StandIn blocks top inner → (l ≡ 0 → ⊥) × AllAvoid inner

  abbrev pub StandAvoided : List Block → Type 0
  StandAvoided inner = StandIn blocks top inner → AllAvoid inner

  before_closed : (p : ℕ) (m : Made) → StandIn blocks top (with_inner_block p m) → StandIn blocks top m.inner
  before_closed p m st k b e = st k b (got_before m.inner (record { place = Some p; instructions = m.ops; end = m.end } ∷ []) k b e)

  before_grown : (xs ys : List Block) → Grows xs ys → StandIn blocks top ys → StandIn blocks top xs
  before_grown xs ys g st k b e = st k b (subst (λ (zs : List Block). slice_get zs k ≡ Some b) (sym g.1) (got_before xs g.0 k b e))

  closed_away : (p : ℕ) (m : Made) → StandIn blocks top (with_inner_block p m) → label_of top m ≡ 0 → ⊥
  closed_away p m st e =
      let it : Block = record { place = Some p; instructions = m.ops; end = m.end } in
      clash (placed it (subst (λ l. slice_get blocks l ≡ Some it) e (st (length m.inner) it (got_next m.inner it))))
    where
      clash : Some p ≡ None → ⊥
      clash c = cc

  pub avoids_passes : (p : ℕ) → IsPassing p top (HasAvoided p) (LeadsAway p) StandAvoided
  avoids_passes p = record {
    step = λ i m h has st. has st;
    jump = λ l inner h st. (λ x. (h st).0 (among_one x), (h st).1);
    branch = λ o a b one other inner h k st. (two_avoid o a b one other (h st).0 (k st).0, (h st).1);
    end = λ a inner h st. (λ x. elim x [ ], h st);
    close = λ m has st. (let x = has (before_closed p m st) in (closed_away p m st, avoid_more p m m.inner x.1 x.0));
    keep = λ m l inner g has h st. (let s = before_closed p m st in let x = has s in ((h (before_grown inner m.inner g s)).0, avoid_more p m m.inner x.1 x.0));
    stands = λ m has st. (has st).1;
    shut = λ m has st. (let x = has (before_closed p m st) in avoid_more p m m.inner x.1 x.0);
  }

-- a position is that of one of these places, but not of the first
abbrev pub StandsLater : List Place → ℕ → Type 0
StandsLater own at = (j : ℕ) × (q : Place) × (slice_get own (suc j) ≡ Some q) × (q.spot.at ≡ at)

later_from : (number : ℕ) (own xs : List Place) (j : ℕ) → ((i : ℕ) (q : Place) → slice_get xs i ≡ Some q → slice_get own (suc (j + i)) ≡ Some q) → AllFit number (StandsLater own) xs
later_from number own [] j h = tt
later_from number own (x ∷ xs) j h =
    ((j + 0, x, h 0 x refl, refl), later_from number own xs (j + 1) (λ i q e. subst (λ m. slice_get own (suc m) ≡ Some q) (one i) (h (suc i) q e)))
  where
    one : (i : ℕ) → j + suc i ≡ j + 1 + i
    one i = omega arith

module _ (p : ProgramTree) (k : ℕ) (f : TypedFunctionTree) (is : slice_get p.functions k ≡ Some f) (ascend : AllAscend (places_of_program p)) where
  abbrev pub own : List Place
  own = places_of_function (0 + k) f

  abbrev pub Later : ℕ → Type 0
  Later at = StandsLater own at

  abbrev pub rest : List Place
  rest = places_of_all (0 + k) (parameters_of f) f.body ++ close_of (0 + k) f

  rest_later : AllFit (0 + k) Later rest
  rest_later = later_from (0 + k) own rest 0 (λ i q e. subst (λ m. slice_get own (suc m) ≡ Some q) (none i) e)
    where
      none : (i : ℕ) → i ≡ 0 + i
      none i = omega arith

  close_later : (b : Bool) → AllFit (0 + k) Later (if b then stop (0 + k) (parameters_of f ++ brought_by_body f.body) f.close ∷ [] else []) → WayFits (0 + k) Later (if b then Some f.close.at else None)
  close_later true h = h.0
  close_later false h = tt

  edge_later : (o : Option ℕ) → WayFits (0 + k) Later o → (e : Edge) → Among e (edge f.spot.at o) → Later e.to
  edge_later None h e a = elim a [ ]
  edge_later (Some to) h e a = subst (λ (d : Edge). Later d.to) (same a) h
    where
      same : {d g : Edge} → Among d (g ∷ []) → g ≡ d
      same front = refl
      same (behind x) = elim x [ ]

  among_parts : (xs ys : List Edge) (e : Edge) → Among e (xs ++ ys) → Among e xs ⊎ Among e ys
  among_parts [] ys e a = inr a
  among_parts (x ∷ xs) ys e front = inl front
  among_parts (x ∷ xs) ys e (behind a) = by (among_parts xs ys e a)
    where
      by : Among e xs ⊎ Among e ys → Among e (x ∷ xs) ⊎ Among e ys
      by (inl b) = inl (behind b)
      by (inr b) = inr b

  -- the flow of a function leads to its places behind the entry
  pub leads_later : (e : Edge) → Among e (flow_of_function f) → Later e.to
  leads_later e a = by (among_parts (edge f.spot.at to) (flow_of_all ways f.body) e a)
    where
      ways : Rattle.c_flow.specs.declared.edge.Ways.Ways
      ways = ways_of_body f

      body : List Place
      body = places_of_all (0 + k) (parameters_of f) f.body

      body_later : AllFit (0 + k) Later body
      body_later = fit_front (0 + k) Later body (close_of (0 + k) f) rest_later

      next : WayFits (0 + k) Later ways.next
      next = close_later (reaches_end f.body) (fit_back (0 + k) Later body (close_of (0 + k) f) rest_later)

      to : Option ℕ
      to = start_of_all f.body ways.next

      by : Among e (edge f.spot.at to) ⊎ Among e (flow_of_all ways f.body) → Later e.to
      by (inl b) = edge_later to (starts_fit (0 + k) Later f.body (parameters_of f) ways.next body_later next) e b
      by (inr b) = (edge_among (0 + k) Later (flow_of_all ways f.body) e (flows_fit (0 + k) Later f.body (parameters_of f) ways body_later (record { next = next; by_break = tt; by_continue = tt })) b).1

  -- the block of such a place is not the first
  pub later_block : (entry : ℕ) → entry ≡ place_number_at (places_of_program p) f.spot.at → (at : ℕ) → Later at → place_number_at (places_of_program p) at - entry ≡ 0 → ⊥
  later_block entry same at (j, q, got, e) zero_is =
      let within = places_within 0 p.functions k f is in
      let here = numbered_within (places_of_program p) own ascend within (suc j) q got in
      let first = numbered_within (places_of_program p) own ascend within 0 (entry_of (0 + k) f) refl in
      let there : place_number_at (places_of_program p) at ≡ length within.before + suc j + 1 = subst (λ a. place_number_at (places_of_program p) a ≡ length within.before + suc j + 1) e here in
      omega (arith, there, first, same, zero_is)
