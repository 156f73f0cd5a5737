-- Markers that follow one another on a path of a function's graph are a step of its flow, and each cycle has a marker.
use Rattle.std.proofs.Common.{◌≡◌, ◌⊎◌, inl, inr, ℕ, zero, suc, ◌+◌, ◌-◌, Bool, true, false, Option, Some, None, List, [], ◌∷◌, ◌++◌, length, reverse, slice_get, refl, sym, ap, ◌∙◌, subst, arith, if◌then◌else◌}
use Rattle.std.specs.Prelude.{option_map}
use Rattle.c_tree.specs.Programs.{TypedFunctionTree, ProgramTree}
use Rattle.c_places.specs.Flow.{reaches_end}
use Rattle.c_places.specs.Places.{Place, stop, brought_by_body, parameters_of, entry_of, close_of, places_of_all, places_of_function, places_of_program, place_number_at}
use Rattle.c_flow.specs.declared.edge.Edge.{Edge}
use Rattle.c_flow.specs.Flow.{edge, start_of_all, ways_of_body, flow_of_all, flow_of_function}
use Rattle.graph_core.specs.Graphs.{Instruction, Marker, End, Block, Graph}
use Rattle.graph_core.specs.Paths.{History, Among, front, behind, Path, place_of as place_along}
use Rattle.graph_core.specs.WellMarked as marked
use Rattle.graph_core.specs.WellMarked.{ComesToMarker}
use Rattle.graph_build_steps.specs.Drafts.{Made}
use Rattle.graph_build_statements.specs.Coding.{Coding, Part, place_of, block_of}
use Rattle.graph_build.specs.Units.{function_part, block_count, function_coding, graph_of}
use Rattle.graph_build_laws.specs.Points.{AtLabel, GoesBack, StandIn, here, IsLed}
use Rattle.graph_build_laws.proofs.Marked.{led_back, led_on, led_here}
use Rattle.graph_build_laws.proofs.Instances.{Each, HasBack, LeadsBack, StandBack, grown_stand, back_passes, NoMarkers, NoneMarked, HasNone, LeadsNone, none_passes}
use Rattle.graph_build_laws.proofs.GraphMarkingStatements.{IsMadeOf, AreMadeOf, Holds}
use Rattle.graph_build_laws.proofs.GraphMarkingFunctions.{function_holds, function_heads}
use Rattle.graph_build_laws.proofs.Heads.{head_marker, heads, marks}
use Rattle.graph_build_laws.proofs.Targets.{AllFit, WayFits, EdgesFit, edge_fits, edges_both, edge_among, fit_front, fit_back, starts_fit, flows_fit}
use Rattle.graph_build_laws.proofs.Standing.{stand_behind, got_among, among_either, among_reversed}
use Rattle.graph_build_laws.proofs.Ascending.{AllAscend, Among', places_within, numbered_within}
use Rattle.graph_build_laws.proofs.Paths.{BeginsPlace, along}
use Rattle.base_laws.proofs.Options.{none_is, some_same}

-- what is so of each is so of one that is among them
pub made_among : (Has : (p : ℕ) → Made → Type 0) (inner all : List Block) (b : Block) → AreMadeOf Has inner all → Among b all → IsMadeOf Has inner b
made_among Has inner [] b h a = elim a [ ]
made_among Has inner (x ∷ all) b h front = h.0
made_among Has inner (x ∷ all) b h (behind a) = made_among Has inner all b h.1 a

none_among : (all : List Block) (b : Block) → NoneMarked all → Among b all → NoMarkers b.instructions
none_among [] b h a = elim a [ ]
none_among (x ∷ all) b h front = h.0
none_among (x ∷ all) b h (behind a) = none_among all b h.1 a

each_among : (G : (p : ℕ) → List Instruction → End → Type 0) (all : List Block) (b : Block) → Each G all → Among b all → (p : ℕ) × (b.place ≡ Some p) × G p b.instructions b.end
each_among G [] b h a = elim a [ ]
each_among G (x ∷ all) b h front = h.0
each_among G (x ∷ all) b h (behind a) = each_among G all b h.1 a

-- a block whose marker stands at an index, by the markers of all
pub record BlockAt (all : List Block) (j p : ℕ) : Type 0 where
  pub block : Block
  pub is : slice_get all j ≡ Some block
  pub head : head_marker block.instructions ≡ p

block_at : (all : List Block) (j p : ℕ) → slice_get (heads all) j ≡ Some p → BlockAt all j p
block_at [] j p e = absurd (none_is e)
block_at (b ∷ all) zero p e = record { block = b; is = refl; head = some_same e }
block_at (b ∷ all) (suc j) p e = let x = block_at all j p e in record { block = x.block; is = x.is; head = x.head }

mark_at : (c : Coding) (number : ℕ) (all : List Place) (j : ℕ) (q : Place) → slice_get all j ≡ Some q → slice_get (marks c number all) j ≡ Some (place_of c q.spot.at)
mark_at c number [] j q e = absurd (none_is e)
mark_at c number (x ∷ all) zero q e = ap (λ (o : Option Place). option_map (λ (r : Place). place_of c r.spot.at) o) e
mark_at c number (x ∷ all) (suc j) q e = mark_at c number all j q e

got_front : (xs ys : List Block) (k : ℕ) (b : Block) → slice_get xs k ≡ Some b → slice_get (xs ++ ys) k ≡ Some b
got_front [] ys k b e = absurd (none_is e)
got_front (x ∷ xs) ys zero b e = e
got_front (x ∷ xs) ys (suc k) b e = got_front xs ys k b e

-- a position is that of one of these places
abbrev pub StandsAmong : List Place → ℕ → Type 0
StandsAmong own at = (j : ℕ) × (q : Place) × (slice_get own j ≡ Some q) × (q.spot.at ≡ at)

fit_from : (number : ℕ) (own xs : List Place) (j : ℕ) → ((i : ℕ) (q : Place) → slice_get xs i ≡ Some q → slice_get own (j + i) ≡ Some q) → AllFit number (StandsAmong own) xs
fit_from number own [] j h = tt
fit_from number own (x ∷ xs) j h =
    ((j + 0, x, h 0 x refl, refl), fit_from number own xs (j + 1) (λ i q e. subst (λ m. slice_get own m ≡ Some q) (one i) (h (suc i) q e)))
  where
    one : (i : ℕ) → j + suc i ≡ j + 1 + i
    one i = omega arith

module _ (p : ProgramTree) (k : ℕ) (f : TypedFunctionTree) (is : slice_get p.functions k ≡ Some f) (is_main : Bool) (ascend : AllAscend (places_of_program p)) (follows : (p q : ℕ) → Type 0)
    (flow : (e : Edge) → Among e (flow_of_function f) → follows (place_number_at (places_of_program p) e.from) (place_number_at (places_of_program p) e.to)) (counted : length (graph_of p f is_main).blocks ≡ block_count p f is_main) where
  abbrev pub c : Coding
  c = function_coding p f is_main

  abbrev pub g : Graph
  g = graph_of p f is_main

  abbrev pub part : Part
  part = function_part c f is_main

  abbrev pub own : List Place
  own = places_of_function (0 + k) f

  within : Among' (places_of_program p) own
  within = places_within 0 p.functions k f is

  abbrev pub Fits : ℕ → Type 0
  Fits at = StandsAmong own at

  -- the positions of the function's places are places of it, and so is where its flow leads
  own_fit : AllFit (0 + k) Fits own
  own_fit = fit_from (0 + k) own own 0 (λ i q e. subst (λ m. slice_get own m ≡ Some q) (none i) e)
    where
      none : (i : ℕ) → i ≡ 0 + i
      none i = omega arith

  close_fits : (b : Bool) → AllFit (0 + k) Fits (if b then stop (0 + k) (parameters_of f ++ brought_by_body f.body) f.close ∷ [] else []) → WayFits (0 + k) Fits (if b then Some f.close.at else None)
  close_fits true h = h.0
  close_fits false h = tt

  flow_stays : EdgesFit (0 + k) Fits (flow_of_function f)
  flow_stays =
      let body = places_of_all (0 + k) (parameters_of f) f.body in
      let ways = ways_of_body f in
      let hb = fit_front (0 + k) Fits body (close_of (0 + k) f) own_fit.1 in
      let next = close_fits (reaches_end f.body) (fit_back (0 + k) Fits body (close_of (0 + k) f) own_fit.1) in
      let to = start_of_all f.body ways.next in
      edges_both (0 + k) Fits (edge f.spot.at to) (flow_of_all ways f.body) (edge_fits (0 + k) Fits f.spot.at to own_fit.0 (starts_fit (0 + k) Fits f.body (parameters_of f) ways.next hb next))
      (flows_fit (0 + k) Fits f.body (parameters_of f) ways hb (record { next = next; by_break = tt; by_continue = tt }))

  -- no instruction but the first of a place's block is a marker
  pub unmarked : NoneMarked part.inner × AreMadeOf HasNone part.inner part.placed
  unmarked = function_holds c HasNone LeadsNone NoneMarked (λ q. none_passes q c.top) f is_main (λ e a inner st. st) tt

  -- the block of a place stands where it is looked for
  pub record PlaceAt (at : ℕ) : Type 0 where
    pub block : Block
    pub rest : List Instruction
    pub at_label : slice_get g.blocks (block_of c at) ≡ Some block
    pub head_is : block.instructions ≡ Marker (place_of c at) ∷ rest

  by_head : (b : Block) (q : ℕ) → head_marker b.instructions ≡ q → IsMadeOf HasNone part.inner b → (rest : List Instruction) × (b.instructions ≡ Marker q ∷ rest)
  by_head b q h m = (m.made.ops, subst (λ r. b.instructions ≡ Marker r ∷ m.made.ops) (sym (ap head_marker m.instructions) ∙ h) m.instructions)

  pub place_stands : (at : ℕ) → Fits at → PlaceAt at
  place_stands at (j, q, got, same) =
      let number = 0 + k in
      let head : slice_get (heads part.placed) j ≡ Some (place_of c q.spot.at) = subst (λ (l : List ℕ). slice_get l j ≡ Some (place_of c q.spot.at)) (sym (function_heads c number f is_main)) (mark_at c number own j q got) in
      let x = block_at part.placed j (place_of c q.spot.at) head in
      let m = made_among HasNone part.inner part.placed x.block unmarked.1 (got_among part.placed j x.block x.is) in
      let b = by_head x.block (place_of c q.spot.at) x.head m in
      let there : place_number_at (places_of_program p) q.spot.at ≡ length within.before + j + 1 = numbered_within (places_of_program p) own ascend within j q got in
      let entry : place_number_at (places_of_program p) f.spot.at ≡ length within.before + 0 + 1 = numbered_within (places_of_program p) own ascend within 0 (entry_of number f) refl in
      let index : j ≡ place_number_at (places_of_program p) q.spot.at - place_number_at (places_of_program p) f.spot.at = omega (arith, there, entry) in
      let stands : slice_get g.blocks (block_of c q.spot.at) ≡ Some x.block = subst (λ i. slice_get g.blocks i ≡ Some x.block) index (got_front part.placed (reverse part.inner) j x.block x.is) in
      subst (λ a. PlaceAt a) same (record { block = x.block; rest = b.0; at_label = stands; head_is = b.1 })

  -- where the flow leads the next marker is one that may follow
  abbrev pub Led : (q : ℕ) → List Instruction → End → Type 0
  Led q rest e = IsLed g (follows q) rest e

  back : (q : ℕ) → GoesBack g.blocks (Led q)
  back q = led_back g (follows q)

  led_along : (e : Edge) → Among e (flow_of_function f) → AtLabel g.blocks (Led (place_of c e.from)) (block_of c e.to)
  led_along e a b at =
      let x = place_stands e.to (edge_among (0 + k) Fits (flow_of_function f) e flow_stays a).1 in
      let same : x.block ≡ b = some_same (sym x.at_label ∙ at) in
      subst (λ (d : Block). Led (place_of c e.from) d.instructions d.end) same
      (subst (λ (l : List Instruction). Led (place_of c e.from) l x.block.end) (sym x.head_is) (led_here g (follows (place_of c e.from)) (place_of c e.to) x.rest x.block.end (flow e a)))

  pub stand : StandIn g.blocks c.top part.inner
  stand = subst (λ n. StandIn g.blocks n part.inner) counted (stand_behind part.placed part.inner)

  led : Holds c (HasBack g.blocks c.top Led back) (LeadsBack g.blocks c.top Led back) (StandBack g.blocks c.top Led back) (λ q. back_passes g.blocks c.top Led back q) part
  led = function_holds c (HasBack g.blocks c.top Led back) (LeadsBack g.blocks c.top Led back) (StandBack g.blocks c.top Led back) (λ q. back_passes g.blocks c.top Led back q) f is_main
      (λ e a inner st s. (led_along e a, st s)) (λ s. tt)

  -- each block is a place's, or has no marker
  same_rest : {q r : ℕ} {xs ys : List Instruction} → Marker q ∷ xs ≡ Marker r ∷ ys → xs ≡ ys
  same_rest e = cc

  of_block : (b : Block) → Among b part.placed ⊎ Among b part.inner → BeginsPlace Led b ⊎ NoMarkers b.instructions
  of_block b (inl a) =
      let m = made_among (HasBack g.blocks c.top Led back) part.inner part.placed b led.1 a in
      let o = made_among HasNone part.inner part.placed b unmarked.1 a in
      let has = m.has (grown_stand g.blocks c.top Led back m.made.inner part.inner m.grown stand) in
      inl (record {
        place = m.place;
        rest = m.made.ops;
        is = m.instructions;
        none = subst NoMarkers (same_rest (sym o.instructions ∙ m.instructions)) o.has.0;
        has = subst (λ (e : End). Led m.place m.made.ops e) (sym m.ends) has.0;
      })
  of_block b (inr a) = inr (none_among part.inner b unmarked.0 a)

  pub where_is : (n : ℕ) (b : Block) → slice_get g.blocks n ≡ Some b → Among b part.placed ⊎ Among b part.inner
  where_is n b e = by (among_either part.placed (reverse part.inner) b (got_among g.blocks n b e))
    where
      by : Among b part.placed ⊎ Among b (reverse part.inner) → Among b part.placed ⊎ Among b part.inner
      by (inl a) = inl a
      by (inr a) = inr (among_reversed part.inner b a)

  of_blocks : (n : ℕ) (b : Block) → slice_get g.blocks n ≡ Some b → BeginsPlace Led b ⊎ NoMarkers b.instructions
  of_blocks n b e = of_block b (where_is n b e)

  -- Markers that follow one another on a path are a step of the flow.
  pub flows : (h : History) (n : ℕ) (q r : ℕ) (rest : List Instruction) (e : End) → Path g h n (Marker r ∷ rest) e → place_along h ≡ Some q → follows q r
  flows h n q r rest e way at = (along g Led (λ s. led_on g (follows s)) of_blocks h n (Marker r ∷ rest) e way q at).meets r here

  -- The graph begins with the marker of its entry.
  pub begins : (b : Block) → slice_get g.blocks 0 ≡ Some b → (rest : List Instruction) × (b.instructions ≡ Marker g.entry ∷ rest)
  begins b e = subst (λ (d : Block). (rest : List Instruction) × (d.instructions ≡ Marker g.entry ∷ rest)) (some_same e) (_, refl)

  -- Each cycle has a marker.
  pub cycles : (n : ℕ) (b : Block) → slice_get g.blocks n ≡ Some b → ComesToMarker g b.instructions b.end
  cycles n b e = by (where_is n b e)
    where
      by : Among b part.placed ⊎ Among b part.inner → ComesToMarker g b.instructions b.end
      by (inl a) = let m = made_among HasNone part.inner part.placed b unmarked.1 a in subst (λ (l : List Instruction). ComesToMarker g l b.end) (sym m.instructions) marked.at_marker
      by (inr a) = (each_among Led part.inner b (led.0 stand) a).2.comes
