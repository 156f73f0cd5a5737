-- The markers of a well-formed program's unit follow its flow.
use Rattle.std.proofs.Common.{◌≡◌, ℕ, zero, suc, ◌+◌, true, Some, List, [], ◌∷◌, ◌++◌, map, slice_get, refl, sym, ap, subst, ◌==◌}
use Rattle.std.specs.Prelude.{◌&&◌, ◌||◌, nat_lt}
use Rattle.places.specs.declared.flow.FlowStep.{FlowStep}
use Rattle.places.specs.Flow.{can_go}
use Rattle.c_tree.specs.Programs.{TypedFunctionTree, ProgramTree}
use Rattle.c_places.specs.Places.{Place, places_of_program, place_number_at}
use Rattle.c_flow.specs.declared.edge.Edge.{Edge}
use Rattle.c_flow.specs.Flow.{flow_of_function, flow_of_functions, flow_of_program, flow_step_of}
use Rattle.c_type_laws.specs.Orders.{ascends, ascends_behind}
use Rattle.c_type_laws.specs.Laws.{IsWellFormed}
use Rattle.graph_core.specs.Graphs.{Graph, UnitForm}
use Rattle.graph_core.specs.Paths.{Among, front, behind}
use Rattle.graph_build.specs.Units.{IsUnitOf, graphs_from}
use Rattle.graph_build_laws.proofs.Blocks.{blocks_counted}
use Rattle.graph_build_laws.proofs.WellFormed.{and_both, laws_of}
use Rattle.graph_build_laws.proofs.Keeping.{OfFunction}
use Rattle.graph_build_laws.specs.Following.{HasSteps, FollowsFlow, FollowFlow}
use Rattle.graph_build_laws.proofs.Ascending.{Ascend, AllAscend}
use Rattle.graph_build_laws.proofs.Flows.{begins, flows, cycles}
use Rattle.graph_build_laws.proofs.Avoiding.{first}
use Rattle.base_laws.proofs.Booleans.{or_right as or_second}
use Rattle.base_laws.proofs.Numbers.{is_less, same_step}
use Rattle.base_laws.proofs.Options.{none_is, some_same}

of_function : (p : ProgramTree) (m : ℕ) (all : List TypedFunctionTree) (k : ℕ) (g : Graph) → slice_get (graphs_from p m all) k ≡ Some g → OfFunction p all k g
of_function p m [] k g e = absurd (none_is e)
of_function p m (f ∷ all) zero g e = record { function = f; is_main = m == p.main; is = refl; same = some_same e }
of_function p m (f ∷ all) (suc k) g e = let x = of_function p (m + 1) all k g e in record { function = x.function; is_main = x.is_main; is = x.is; same = x.same }

-- places that ascend
abbrev spots : List Place → List ℕ
spots all = map (λ (q : Place). q.spot.at) all

ascend_behind : (last : ℕ) (all : List Place) → ascends_behind last (spots all) ≡ true → Ascend last all
ascend_behind last [] h = tt
ascend_behind last (q ∷ all) h =
    let b = and_both (nat_lt last q.spot.at) (ascends_behind q.spot.at (spots all)) h in (is_less last q.spot.at b.0, ascend_behind q.spot.at all b.1)

all_ascend : (all : List Place) → ascends (spots all) ≡ true → AllAscend all
all_ascend [] h = tt
all_ascend (q ∷ all) h = ascend_behind q.spot.at all h

may_go : (steps : List FlowStep) (s : FlowStep) → Among s steps → can_go steps s.from.0 s.to.0 ≡ true
may_go [] s a = elim a [ ]
may_go (r ∷ steps) s front = ap (λ b. b || can_go steps s.from.0 s.to.0) (same_step s.from.0 s.to.0)
may_go (r ∷ steps) s (behind a) = or_second ((r.from.0 == s.from.0) && (r.to.0 == s.to.0)) (can_go steps s.from.0 s.to.0) (may_go steps s a)

edge_front : (xs ys : List Edge) (e : Edge) → Among e xs → Among e (xs ++ ys)
edge_front [] ys e a = elim a [ ]
edge_front (x ∷ xs) ys e front = front
edge_front (x ∷ xs) ys e (behind a) = behind (edge_front xs ys e a)

edge_back : (xs ys : List Edge) (e : Edge) → Among e ys → Among e (xs ++ ys)
edge_back [] ys e a = a
edge_back (x ∷ xs) ys e a = behind (edge_back xs ys e a)

in_program : (all : List TypedFunctionTree) (k : ℕ) (f : TypedFunctionTree) → slice_get all k ≡ Some f → (e : Edge) → Among e (flow_of_function f) → Among e (flow_of_functions all)
in_program [] k f at e a = absurd (none_is at)
in_program (g ∷ all) zero f at e a = edge_front (flow_of_function g) (flow_of_functions all) e (subst (λ (h : TypedFunctionTree). Among e (flow_of_function h)) (sym (some_same at)) a)
in_program (g ∷ all) (suc k) f at e a = edge_back (flow_of_function g) (flow_of_functions all) e (in_program all k f at e a)

numbered_among : (places : List Place) (all : List Edge) (e : Edge) → Among e all → Among (flow_step_of places e) (map (flow_step_of places) all)
numbered_among places [] e a = elim a [ ]
numbered_among places (x ∷ all) e front = front
numbered_among places (x ∷ all) e (behind a) = behind (numbered_among places all e a)

pub follow_flow : (p : ProgramTree) (u : UnitForm) → IsWellFormed p → IsUnitOf p u → HasSteps p u → FollowFlow u
follow_flow p u h is steps k g at =
    let x = of_function p 0 p.functions k g (subst (λ (l : List Graph). slice_get l k ≡ Some g) is.graphs at) in
    let f = x.function in
    let places = places_of_program p in
    let ascend = all_ascend places (laws_of p h).ascend in
    let follows : ℕ → ℕ → Type 0 = λ q r. can_go u.steps q r ≡ true in
    let flow : (e : Edge) → Among e (flow_of_function f) → follows (place_number_at places e.from) (place_number_at places e.to) =
    λ e a. may_go u.steps (flow_step_of places e) (steps (flow_step_of places e) (numbered_among places (flow_of_program p) e (in_program p.functions k f x.is e a))) in
    subst (λ (d : Graph). FollowsFlow u d) x.same (record {
      begins = begins p k f x.is x.is_main ascend follows flow (blocks_counted p f x.is_main);
      first = first p k f x.is x.is_main ascend (blocks_counted p f x.is_main);
      flows = λ hist n q r rest e way there. flows p k f x.is x.is_main ascend follows flow (blocks_counted p f x.is_main) hist n q r rest e way there;
      cycles = cycles p k f x.is x.is_main ascend follows flow (blocks_counted p f x.is_main);
    })
