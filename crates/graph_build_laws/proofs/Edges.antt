-- Each edge from a block of a function's graph leads to a block that keeps the place in force.
use Rattle.std.proofs.Common.{◌≡◌, ℕ, suc, ◌+◌, Bool, true, false, Option, Some, None, List, [], ◌∷◌, ◌++◌, length, slice_get, refl, sym, subst, arith, if◌then◌else◌}
use Rattle.std.specs.List.{AllByRecursion}
use Rattle.c_tree.specs.Programs.{TypedFunctionTree, ProgramTree}
use Rattle.c_places.specs.Flow.{reaches_end}
use Rattle.c_places.specs.Places.{Place, stop, brought_by_body, parameters_of, close_of, places_of_all, places_of_function, places_of_program}
use Rattle.c_flow.specs.declared.edge.Edge.{Edge}
use Rattle.c_flow.specs.Flow.{edge, start_of_all, ways_of_body, flow_of_all, flow_of_function}
use Rattle.graph_core.specs.Graphs.{Instruction, Marker, Note, Move, Operate, Truncate, Same, Address, Load, Store, Zero, CopyWords, Call, End, Block}
use Rattle.graph_core.specs.Uses.{targets_of}
use Rattle.graph_core.specs.Paths.{Among, front, behind}
use Rattle.graph_core.specs.Validity.{KeepsPlace, IsKept, HasPlace, place_behind}
use Rattle.graph_build_steps.specs.Drafts.{Made, with_inner_block, label_of}
use Rattle.graph_build_statements.specs.Coding.{Coding, Part, place_of, block_of}
use Rattle.graph_build.specs.Units.{block_count, function_coding, function_part, graph_of}
use Rattle.graph_build_laws.specs.Passing.{Grows, IsPassing}
use Rattle.graph_build_laws.specs.Points.{StandIn}
use Rattle.graph_build_laws.proofs.Ascending.{AllAscend}
use Rattle.graph_build_laws.proofs.GraphMarkingFunctions.{function_holds}
use Rattle.graph_build_laws.proofs.Instances.{got_before, got_next, to_two, to_one, to_none, NoMarkers}
use Rattle.graph_build_laws.proofs.GraphMarkingStatements.{Holds}
use Rattle.graph_build_laws.proofs.Targets.{AllFit, WayFits, EdgesFit, fit_front, fit_back, edges_both, edge_fits, edge_among, starts_fit, flows_fit}
use Rattle.graph_build_laws.proofs.Flows.{StandsAmong, place_stands, stand}

-- a block that keeps a place keeps it
kept_same : (all : List Instruction) (place : Option ℕ) → KeepsPlace all place place
kept_same [] q = refl
kept_same (Marker p ∷ rest) q = tt
kept_same (Note y v ∷ rest) q = refl
kept_same (Move y a ∷ rest) q = refl
kept_same (Operate y o a b ∷ rest) q = refl
kept_same (Truncate y t a ∷ rest) q = refl
kept_same (Same y a b ∷ rest) q = refl
kept_same (Address y o ∷ rest) q = refl
kept_same (Load y e l ∷ rest) q = refl
kept_same (Store e l a ∷ rest) q = refl
kept_same (Zero o k ∷ rest) q = refl
kept_same (CopyWords o b k ∷ rest) q = refl
kept_same (Call y f all ∷ rest) q = refl

pub has_place : (all : List Instruction) (p : ℕ) → HasPlace all (Some p)
has_place [] p = λ e. cc
has_place (Marker q ∷ rest) p = tt
has_place (Note y v ∷ rest) p = λ e. cc
has_place (Move y a ∷ rest) p = λ e. cc
has_place (Operate y o a b ∷ rest) p = λ e. cc
has_place (Truncate y t a ∷ rest) p = λ e. cc
has_place (Same y a b ∷ rest) p = λ e. cc
has_place (Address y o ∷ rest) p = λ e. cc
has_place (Load y e l ∷ rest) p = λ e. cc
has_place (Store e l a ∷ rest) p = λ e. cc
has_place (Zero o k ∷ rest) p = λ e. cc
has_place (CopyWords o b k ∷ rest) p = λ e. cc
has_place (Call y f all ∷ rest) p = λ e. cc

-- no marker changes the place in force
pub place_stays : (all : List Instruction) (q : Option ℕ) → NoMarkers all → place_behind all q ≡ q
place_stays [] q h = refl
place_stays (Marker p ∷ rest) q h = let no = h.0 in cc
place_stays (Note y v ∷ rest) q h = place_stays rest q h.1
place_stays (Move y a ∷ rest) q h = place_stays rest q h.1
place_stays (Operate y o a b ∷ rest) q h = place_stays rest q h.1
place_stays (Truncate y t a ∷ rest) q h = place_stays rest q h.1
place_stays (Same y a b ∷ rest) q h = place_stays rest q h.1
place_stays (Address y o ∷ rest) q h = place_stays rest q h.1
place_stays (Load y e l ∷ rest) q h = place_stays rest q h.1
place_stays (Store e l a ∷ rest) q h = place_stays rest q h.1
place_stays (Zero o k ∷ rest) q h = place_stays rest q h.1
place_stays (CopyWords o b k ∷ rest) q h = place_stays rest q h.1
place_stays (Call y f all ∷ rest) q h = place_stays rest q h.1

module _ (blocks : List Block) where
  -- the block of a label keeps a place
  abbrev pub KeptAt : (place label : ℕ) → Type 0
  KeptAt p l = IsKept (Some p) (slice_get blocks l)

  -- so does each block to which an end leads
  abbrev pub LeadsKept : (place : ℕ) → End → Type 0
  LeadsKept p e = (l : ℕ) → Among l (targets_of e) → KeptAt p l

  -- each of these blocks has a place, which those keep to which its end leads
  abbrev pub EachKept : List Block → Type 0
  EachKept [] = Unit {0}
  EachKept (b ∷ more) = ((p : ℕ) × (b.place ≡ Some p) × LeadsKept p b.end) × EachKept more

  pub one_kept : (all : List Block) (b : Block) → EachKept all → Among b all → (p : ℕ) × (b.place ≡ Some p) × LeadsKept p b.end
  one_kept [] b h a = elim a [ ]
  one_kept (y ∷ all) b h front = h.0
  one_kept (y ∷ all) b h (behind a) = one_kept all b h.1 a

  each_more : (place : ℕ) (m : Made) (xs : List Block) → EachKept xs → LeadsKept place m.end → EachKept (xs ++ record { place = Some place; instructions = m.ops; end = m.end } ∷ [])
  each_more place m [] h k = ((place, refl, k), tt)
  each_more place m (y ∷ xs) h k = (h.0, each_more place m xs h.1 k)

  edges_are : (p : ℕ) (all : List ℕ) → ((l : ℕ) → Among l all → KeptAt p l) → AllByRecursion (λ l. IsKept (Some p) (slice_get blocks l)) all
  edges_are p [] h = tt
  edges_are p (l ∷ more) h = (h l front, edges_are p more (λ k a. h k (behind a)))

  pub kept_edges : (p : ℕ) (e : End) → LeadsKept p e → AllByRecursion (λ l. IsKept (Some p) (slice_get blocks l)) (targets_of e)
  kept_edges p e h = edges_are p (targets_of e) h

  module _ (top : ℕ) where
    abbrev pub HasKept : (p : ℕ) → Made → Type 0
    HasKept p m = StandIn blocks top m.inner → LeadsKept p m.end × EachKept m.inner

    abbrev pub LeadKept : (p label : ℕ) → List Block → Type 0
    LeadKept p l inner = StandIn blocks top inner → KeptAt p l × EachKept inner

    abbrev pub StandKept : List Block → Type 0
    StandKept inner = StandIn blocks top inner → EachKept inner

    pub grown_stand : (xs ys : List Block) → Grows xs ys → StandIn blocks top ys → StandIn blocks top xs
    grown_stand xs ys h st k b e = st k b (subst (λ (zs : List Block). slice_get zs k ≡ Some b) (sym h.1) (got_before xs h.0 k b e))

    closed_stand : (place : ℕ) (m : Made) → StandIn blocks top (with_inner_block place m) → StandIn blocks top m.inner
    closed_stand place m st k b e = st k b (got_before m.inner (record { place = Some place; instructions = m.ops; end = m.end } ∷ []) k b e)

    closed_label : (place : ℕ) (m : Made) → StandIn blocks top (with_inner_block place m) → KeptAt place (label_of top m)
    closed_label place m st =
        let it : Block = record { place = Some place; instructions = m.ops; end = m.end } in
        let there : slice_get blocks (label_of top m) ≡ Some it = st (length m.inner) it (got_next m.inner it) in
        subst (λ r. IsKept (Some place) r) (sym there) (kept_same m.ops (Some place))

    pub kept_passes : (p : ℕ) → IsPassing p top (HasKept p) (LeadKept p) StandKept
    kept_passes p = record {
      step = λ i m h has st. has st;
      jump = λ l inner h st. (to_one (KeptAt p) l (h st).0, (h st).1);
      branch = λ o a b one other inner h k st. (to_two (KeptAt p) one other (h st).0 (k st).0, (h st).1);
      end = λ a inner h st. (to_none (KeptAt p), h st);
      close = λ m has st. (let z = has (closed_stand p m st) in (closed_label p m st, each_more p m m.inner z.1 z.0));
      keep = λ m l inner w has h st. (let s = closed_stand p m st in let z = has s in ((h (grown_stand inner m.inner w s)).0, each_more p m m.inner z.1 z.0));
      stands = λ m has st. (has st).1;
      shut = λ m has st. (let z = has (closed_stand p m st) in each_more p m m.inner z.1 z.0);
    }

fit_from : (number : ℕ) (all xs : List Place) (j : ℕ) → ((i : ℕ) (q : Place) → slice_get xs i ≡ Some q → slice_get all (j + i) ≡ Some q) → AllFit number (StandsAmong all) xs
fit_from number all [] j h = tt
fit_from number all (x ∷ xs) j h = ((j + 0, x, h 0 x refl, refl), fit_from number all xs (j + 1) (λ i q e. subst (λ m. slice_get all m ≡ Some q) (one i) (h (suc i) q e)))
  where
    one : (i : ℕ) → j + suc i ≡ j + 1 + i
    one i = omega arith

module _ (p : ProgramTree) (k : ℕ) (f : TypedFunctionTree) (is : slice_get p.functions k ≡ Some f) (is_main : Bool) (ascend : AllAscend (places_of_program p)) (counted : length (graph_of p f is_main).blocks ≡ block_count p f is_main) where
  abbrev Any : (a b : ℕ) → Type 0
  Any a b = Unit {0}

  any : (e : Edge) → Among e (flow_of_function f) → Unit {0}
  any e a = tt

  abbrev ours : List Place
  ours = places_of_function (0 + k) f

  abbrev Ours : ℕ → Type 0
  Ours at = StandsAmong ours at

  abbrev code : Coding
  code = function_coding p f is_main

  abbrev blocks : List Block
  blocks = (graph_of p f is_main).blocks

  abbrev whole : Part
  whole = function_part code f is_main

  ours_fit : AllFit (0 + k) Ours ours
  ours_fit = fit_from (0 + k) ours ours 0 (λ i q e. subst (λ m. slice_get ours m ≡ Some q) (none i) e)
    where
      none : (i : ℕ) → i ≡ 0 + i
      none i = omega arith

  close_fits : (b : Bool) → AllFit (0 + k) Ours (if b then stop (0 + k) (parameters_of f ++ brought_by_body f.body) f.close ∷ [] else []) → WayFits (0 + k) Ours (if b then Some f.close.at else None)
  close_fits true h = h.0
  close_fits false h = tt

  flow_stays : EdgesFit (0 + k) Ours (flow_of_function f)
  flow_stays =
      let body = places_of_all (0 + k) (parameters_of f) f.body in
      let ways = ways_of_body f in
      let hb = fit_front (0 + k) Ours body (close_of (0 + k) f) ours_fit.1 in
      let next = close_fits (reaches_end f.body) (fit_back (0 + k) Ours body (close_of (0 + k) f) ours_fit.1) in
      let to = start_of_all f.body ways.next in
      edges_both (0 + k) Ours (edge f.spot.at to) (flow_of_all ways f.body) (edge_fits (0 + k) Ours f.spot.at to ours_fit.0 (starts_fit (0 + k) Ours f.body (parameters_of f) ways.next hb next))
      (flows_fit (0 + k) Ours f.body (parameters_of f) ways hb (record { next = next; by_break = tt; by_continue = tt }))

  -- the flow leads to blocks that begin with markers
  kept_along : (e : Edge) → Among e (flow_of_function f) → KeptAt blocks (place_of code e.from) (block_of code e.to)
  kept_along e a =
      let y = place_stands p k f is is_main ascend Any any counted e.to (edge_among (0 + k) Ours (flow_of_function f) e flow_stays a).1 in
      subst (λ r. IsKept (Some (place_of code e.from)) r) (sym y.at_label) (subst (λ (l : List Instruction). KeepsPlace l (Some (place_of code e.from)) y.block.place) (sym y.head_is) tt)

  pub whole_stands : StandIn blocks code.top whole.inner
  whole_stands = stand p k f is is_main ascend Any any counted

  -- The property holds of each block of the function.
  pub kept : Holds code (HasKept blocks code.top) (LeadKept blocks code.top) (StandKept blocks code.top) (λ q. kept_passes blocks code.top q) whole
  kept = function_holds code (HasKept blocks code.top) (LeadKept blocks code.top) (StandKept blocks code.top) (λ q. kept_passes blocks code.top q) f is_main (λ e a inner st s. (kept_along e a, st s)) (λ s. tt)
