-- What can be told of the functions of a well marked unit, whose names have their homes, whose log tells of shared registers, and whose flow and places are those that are given.
use Rattle.std.proofs.Common.{◌≡◌, inl, inr, ℕ, suc, ◌+◌, ◌-◌, ◌<◌, ◌≤◌, Bool, true, false, Option, Some, None, List, [], ◌∷◌, ◌++◌, get_or, length, slice_get, take, refl, sym, ap, subst, ◌∙◌, arith}
use Rattle.std.specs.Prelude.{◌⊎◌, AllPairs, option_map}
use Rattle.std.specs.Global.{Vec}
use Rattle.std.specs.Option.{option_map_or}
use Rattle.std.proofs.lemmas.List.{length-map}
use Rattle.std.proofs.lemmas.Option.{none-some, same_Some, slice_get-get_or, slice_get-map, slice_get_within}
use Rattle.places.specs.declared.flow.FlowTable.{FlowTable}
use Rattle.places.specs.declared.table.PlaceTable as declared-table
use Rattle.places.specs.Flow.{IsAssignmentBefore, assigns, can_go}
use Rattle.graph_homes.specs.declared.home.Home.{Home}
use Rattle.graph_homes.specs.Homed.{AreHomesOf, HaveHomes, HomedForm, home_of, homed_view, homes_in}
use Rattle.graph_homes.specs.declared.homed.FunctionHomes as declared-homes
use Rattle.graph_homes.specs.declared.homed.HomedUnit as declared-homed
use Rattle.graph_core.specs.declared.graph.Graph as declared-graph
use Rattle.graph_core.specs.declared.graph.Scalar as declared-scalar
use Rattle.graph_core.specs.Bounds.{most_names}
use Rattle.graph_core.specs.Graphs.{Block, Graph, Instruction, Logged, Marker, Name, Of, Scalar, UnitForm, graph_view, recipe_view, scalar_view}
use Rattle.graph_core.specs.Paths.{Among, front}
use Rattle.graph_core.specs.Validity.{IsGraph, IsKept, markers_in, markers_of_blocks}
use Rattle.graph_core.specs.WellMarked.{AreWellMarked, IsVariable, IsWellMarked}
use Rattle.graph_core_weights.proofs.Standing.{graph_different}
use Rattle.base_laws.proofs.Lists.{all_there}
use Rattle.currency_notes.specs.Homes.{home_in}
use Rattle.currency_shown.specs.declared.found.Unshown as declared-unshown
use Rattle.currency_shown.specs.Found.{IsPlaceOf, entries_of}
use Rattle.currency_shown.specs.Shown.{AreDistinct, AreHidden, AreLeast, AreOther, AreReached, AreRecipes, AreTheirs, AreVisible, IsLeastAt}
use Rattle.currency_writers.specs.declared.writers.Writers as declared-writers
use Rattle.currency_writers.specs.Flow.{IsFlowOfPlaces}
use Rattle.currency_writers.specs.Ways.{at_once, on}
use Rattle.currency_hiding.specs.declared.teller.Teller as declared-teller
use Rattle.currency_hiding.specs.declared.function.Function as declared-function
use Rattle.currency_hiding.specs.Changes.{log_of}
use Rattle.currency_hiding.specs.Found.{IsSameFunction, IsSameTeller}
use Rattle.currency_hiding.specs.First.{HasNone, IsShared}
use Rattle.currency_hiding.proofs.ShownOrHidden.{hidden_by, numbered}
use Rattle.currency_hiding.proofs.Within.{copied_low, writer_placed}
use Rattle.currency.specs.Premises.{AreSharesLogged, ComesUnassigned, IsFlowOf, IsSharingLogged, IsTableOf}
use Rattle.currency.specs.Tellable.{AreShownOrHidden, CanBeTold, HasNoneBy, IsTellable}
use Rattle.currency.proofs.Distinct.{distinct_homes, homes_at, names_homed}
use Rattle.currency.proofs.Hiding.{can_before}
use Rattle.currency.proofs.OfFunctions.{names_at}
use Rattle.currency.proofs.Sourced.{all_sourced}

either : (a : Bool) → (a ≡ true) ⊎ (a ≡ false)
either true = inl refl
either false = inr refl

-- ---- Shown or hidden

-- where a variable does not come unassigned
abbrev IsAssignedAt : (u : HomedForm) (g : Graph) (variable p : ℕ) → Type 0
IsAssignedAt u g variable p = ComesUnassigned u.unit g variable p → ⊥

-- along a step it stays so, or the place before assigns it
assigned_along : (u : HomedForm) (g : Graph) (variable p q : ℕ) → can_go u.unit.steps p q ≡ true → IsAssignedAt u g variable q → IsAssignedAt u g variable p ⊎ (assigns u.unit.assignments p variable ≡ true)
assigned_along u g variable p q go there = by_test (either (assigns u.unit.assignments p variable))
  where
    by_test : (assigns u.unit.assignments p variable ≡ true) ⊎ (assigns u.unit.assignments p variable ≡ false) → IsAssignedAt u g variable p ⊎ (assigns u.unit.assignments p variable ≡ true)
    by_test (inl it) = inr it
    by_test (inr free) = inl (λ here. elim here [
      | inl start ↦ there (inr (subst (λ k. assigns u.unit.assignments k variable ≡ false) start free, at_once (subst (λ k. can_go u.unit.steps k q ≡ true) start go)))
      | inr comes ↦ there (inr (comes.0, on comes.1 free go))
    ])

-- a change that is logged has a number
share_numbered : (log : List Logged) (flow : FlowTable) (home : ℕ → Home) (f : ℕ) (g : Graph) (x variable : ℕ) → IsSharingLogged log variable → (n : ℕ) × IsShared log flow home f g x variable n
share_numbered log flow home f g x variable is = (let at = numbered log is.change is.logged in (at.0, record { change = is.change; is = at.1; reused = is.reused; of = is.of; named = is.named }))

pub shown_or_hidden : (u : HomedForm) (flow : FlowTable) (table : declared-table.PlaceTable) (f : ℕ) (g : Graph) → AreWellMarked u.unit → AreSharesLogged u → IsFlowOf u.unit flow → IsTableOf u.unit table → slice_get u.unit.graphs f ≡ Some g
    → AreShownOrHidden u.unit.log flow (home_of u f) f g table
shown_or_hidden u flow table f g marked shares of places there p x variable is visible none =
    hidden_by u.unit g f flow (home_of u f) x variable (marked.graphs f g there) (all_there (IsGraph u.unit) u.unit.graphs f g marked.valid.graphs there) (graph_different u.unit.graphs f g there marked.valid.once) of.steps of.assignments is
    (λ y low other shared foreign. share_numbered u.unit.log flow (home_of u f) f g x variable (shares f x variable y g there is low other shared foreign))
    (λ q. IsAssignedAt u g variable q) (λ here. here (inl refl)) along p (places.assigned f p variable g there visible) none
  where
    along : (p q : ℕ) → can_go flow.steps.items p q ≡ true → IsAssignedAt u g variable q → IsAssignedAt u g variable p ⊎ (assigns flow.assignments.items p variable ≡ true)
    along p q go at = subst (λ l. IsAssignedAt u g variable p ⊎ (assigns l p variable ≡ true)) (sym of.assignments) (assigned_along u g variable p q (subst (λ l. can_go l p q ≡ true) of.steps go) at)

-- ---- Each function

pub flow_placed : (u : HomedForm) (flow : FlowTable) (table : declared-table.PlaceTable) (places : ℕ) → places ≡ length table.rows.items + 1 → IsFlowOf u.unit flow → IsTableOf u.unit table → IsFlowOfPlaces flow places
flow_placed u flow table places count of is = record {
  from = λ p q go. (let le = is.from p q (subst (λ l. can_go l p q ≡ true) of.steps go) in omega (arith, le, count));
  to = λ p q go. (let le = is.to p q (subst (λ l. can_go l p q ≡ true) of.steps go) in omega (arith, le, count));
  assigning = λ p x it. (let le = is.assigning p x (subst (λ l. assigns l p x ≡ true) of.assignments it) in omega (arith, le, count));
  ordered = subst (λ l. AllPairs IsAssignmentBefore l) (sym of.assignments) of.in_order;
}

place_low : (table : declared-table.PlaceTable) (f p : ℕ) → IsPlaceOf table f p → p < length table.rows.items + 1
place_low table f p is = (let within = slice_get_within table.rows.items (p - 1) is.row is.is in let some = is.some in omega (arith, within, some))

-- the place of the entry has its marker in the first block
entry_marked : (u : UnitForm) (g : Graph) → IsWellMarked u g → IsGraph u g → Among g.entry (markers_of_blocks g.blocks)
entry_marked u g marked valid = at_first (slice_get g.blocks 0) refl valid.begins
  where
    first_marked : (blocks : List Block) (b : Block) (rest : List Instruction) → slice_get blocks 0 ≡ Some b → b.instructions ≡ Marker g.entry ∷ rest → Among g.entry (markers_of_blocks blocks)
    first_marked [] b rest e is = absurd (none-some b e)
    first_marked (c ∷ blocks) b rest e is =
        (let same : c.instructions ≡ Marker g.entry ∷ rest = ap (λ (d : Block). d.instructions) (same_Some c b e) ∙ is in
        subst (λ (l : List Instruction). Among g.entry (markers_in l ++ markers_of_blocks blocks)) (sym same) front)

    at_first : (o : Option Block) → slice_get g.blocks 0 ≡ o → IsKept (Some g.entry) o → Among g.entry (markers_of_blocks g.blocks)
    at_first None e kept = absurd kept
    at_first (Some b) e kept = first_marked g.blocks b (marked.begins b e).0 e (marked.begins b e).1

-- WHAT CAN BE TOLD of each function
pub tellable : (u : HomedForm) (flow : FlowTable) (table : declared-table.PlaceTable) (f : ℕ) (g : Graph) → AreWellMarked u.unit → HaveHomes u → AreSharesLogged u → IsFlowOf u.unit flow → IsTableOf u.unit table → slice_get u.unit.graphs f ≡ Some g
    → IsTellable u.unit.log flow (homes_in u f) f g table
tellable u flow table f g marked homed shares of places there = record {
  homed = names_homed u f g homed there valid;
  written = λ p x w writes. place_low table f p (elim (writer_placed u.unit g f valid p x w writes) [ inl same ↦ places.placed f p g there (subst (λ q. Among q (markers_of_blocks g.blocks)) (sym same) (entry_marked u.unit g well valid)) | inr among ↦ places.placed f p g there among ]);
  copied = λ p x t copied. (let low = copied_low u.unit g valid p x t copied in omega (arith, low, size));
  distinct = λ some. distinct_homes u f g homed there (omega (arith, some, scalars, temporaries)) (omega (arith, names));
  scalars = omega (arith, scalars, temporaries, names);
  variables = well.variables;
  once = graph_different u.unit.graphs f g there marked.valid.once;
  places = λ p among. places.placed f p g there among;
  rows = places.few;
  sourced = all_sourced u.unit g well valid;
  evidence = shown_or_hidden u flow table f g marked shares of places there;
}
  where
    well : IsWellMarked u.unit g
    well = marked.graphs f g there

    valid : IsGraph u.unit g
    valid = all_there (IsGraph u.unit) u.unit.graphs f g marked.valid.graphs there

    size : length (homes_in u f) ≡ g.name_count
    size = (homes_at u.unit.graphs u.homes f g homed there).0

    names : g.name_count ≤ most_names
    names = valid.names

    scalars : length g.scalars ≤ g.first_moved
    scalars = valid.scalars

    temporaries : g.first_moved ≤ g.name_count
    temporaries = valid.temporaries

-- the same of a function as it was read
pub tellable_any : (h : declared-homed.HomedUnit) (log : List Logged) (table_flow flow : FlowTable) (table : declared-table.PlaceTable) (f number : ℕ) (g : declared-graph.Graph) (one : declared-homes.FunctionHomes) (names : List Home) → AreWellMarked (homed_view h).unit → HaveHomes (homed_view h)
    → AreSharesLogged (homed_view h) → IsFlowOf (homed_view h).unit flow → IsTableOf (homed_view h).unit table → log ≡ (homed_view h).unit.log → table_flow ≡ flow → number ≡ f → f < length h.unit.graphs.items → g ≡ get_or h.unit.graphs.items f g → f < length h.homes.items
    → one ≡ get_or h.homes.items f one → names ≡ one.homes.items → IsTellable log table_flow names number (graph_view g) table
tellable_any h log table_flow flow table f number g one names marked homed shares of places logged flows same lt is small kept listed =
    let at : slice_get (homed_view h).unit.graphs f ≡ Some (graph_view g) = slice_get-map graph_view h.unit.graphs.items f ∙ ap (λ o. option_map graph_view o) (slice_get-get_or h.unit.graphs.items f g lt ∙ ap Some (sym is)) in
    let homes : homes_in (homed_view h) f ≡ names = names_at h f one (slice_get-get_or h.homes.items f one small ∙ ap Some (sym kept)) ∙ sym listed in
    subst (λ n. IsTellable log table_flow names n (graph_view g) table) (sym same)
    (subst (λ (l : List Home). IsTellable log table_flow l f (graph_view g) table) homes
    (subst (λ (w : FlowTable). IsTellable log w (homes_in (homed_view h) f) f (graph_view g) table) (sym flows)
    (subst (λ (l : List Logged). IsTellable l flow (homes_in (homed_view h) f) f (graph_view g) table) (sym logged) (tellable (homed_view h) flow table f (graph_view g) marked homed shares of places at))))

-- as many homes as graphs
pub homes_counted : (graphs : List Graph) (homes : List (List Home)) → AreHomesOf graphs homes → length homes ≡ length graphs
homes_counted [] [] all = refl
homes_counted [] (h ∷ more) all = absurd all
homes_counted (g ∷ graphs) [] all = absurd all
homes_counted (g ∷ graphs) (h ∷ more) all = ap suc (homes_counted graphs more all.2)

-- ---- Each entry

scalar_is : (g : declared-graph.Graph) (x : ℕ) (s : declared-scalar.Scalar) → slice_get g.scalars.items x ≡ Some s → IsVariable (graph_view g) x s.var.0
scalar_is g x s e = ap (λ q. option_map (λ (z : Scalar). z.variable) q) (slice_get-map scalar_view g.scalars.items x ∙ ap (λ o. option_map scalar_view o) e)

module _ (log : List Logged) (flow : FlowTable) (homes : List Home) (number : ℕ) (g : declared-graph.Graph) (table : declared-table.PlaceTable) (found : List (Vec declared-unshown.Unshown)) (is : IsTellable log flow homes number (graph_view g) table)
    (theirs : AreTheirs found number table) (reached : AreReached (graph_view g) found) (visible : AreVisible (graph_view g) table found) (recipes : AreRecipes (home_in homes) (graph_view g) found) (other : AreOther (graph_view g) found)
    (hidden : AreDistinct homes → AreHidden (home_in homes) (graph_view g) found) (least : AreLeast log (graph_view g) found) where
  -- SOMETHING CAN BE TOLD of each entry
  pub can_tell : (places : ℕ) → places ≡ length table.rows.items + 1 → (x : ℕ) (s : declared-scalar.Scalar) → slice_get g.scalars.items x ≡ Some s → CanBeTold (λ p. HasNone log flow (home_in homes) number (graph_view g) x s.var.0 p) places (entries_of found x)
  can_tell places count x s at = record {
    placed = λ u among. (let low = place_low table number u.place.0 (theirs x u among) in omega (arith, low, count));
    sourced = λ u l among last none.
        (let r = reached x u among in
        let way = r.reached.path in
        let source = is.sourced r.reached.history r.block u.place.0 x s.var.0 r.rest r.end (recipe_view l.recipe.now) way (scalar_is g x s at) (recipes x u l among last r.reached.history r.block r.rest r.end way).note (other x u l among last r.reached.history r.block r.rest r.end way) in
        subst (λ (o : Option ℕ). IsLeastAt log (graph_view g) u.place.0 x o) none (least x u l among last) r.reached.history r.block r.rest r.end way source.0 source.1);
    some = λ u among none nothing.
        (let r = reached x u among in
        hidden (is.distinct some_scalar) x u among none low r.reached.history r.block r.rest r.end r.reached.path (Of (Name x)) (is.evidence u.place.0 x s.var.0 (scalar_is g x s at) (visible x s.var.0 u among (scalar_is g x s at)) nothing));
  }
    where
      low : x < length (graph_view g).scalars
      low = subst (λ (n : ℕ). x < n) (sym (length-map g.scalars.items scalar_view)) (slice_get_within g.scalars.items x s at)

      some_scalar : 1 ≤ length (graph_view g).scalars
      some_scalar = omega (arith, low)

-- of the entries of a function that questions are on
pub can_tell_any : (t : declared-teller.Teller) (w : declared-writers.Writers) (g : declared-graph.Graph) (homes : List Home) (number x variable places : ℕ) (entries : List declared-unshown.Unshown) → w.function ≡ number → w.graph.now ≡ g → w.homes.now ≡ homes
    → CanBeTold (λ p. HasNone (log_of t.changes) t.search.flow.table.now (home_in homes) number (graph_view g) x variable p) places entries → CanBeTold (λ p. HasNoneBy t w x variable p) places entries
can_tell_any t w g homes number x variable places entries function graph kept can = record {
  placed = can.placed;
  sourced = can.sourced;
  some = λ e among none nothing. can.some e among none
      (subst (λ (l : List Home). HasNone (log_of t.changes) t.search.flow.table.now (home_in l) number (graph_view g) x variable e.place.0) kept
      (subst (λ (z : declared-graph.Graph). HasNone (log_of t.changes) t.search.flow.table.now (home_in w.homes.now) number (graph_view z) x variable e.place.0) graph
      (subst (λ n. HasNone (log_of t.changes) t.search.flow.table.now (home_in w.homes.now) n (graph_view w.graph.now) x variable e.place.0) function nothing)));
}

-- of the first none of entries each has a recipe
pub none_first : (entries : List declared-unshown.Unshown) → (u : declared-unshown.Unshown) → Among u (take 0 entries) → u.last ≡ None → ⊥
none_first [] u among none = elim among [ ]
none_first (v ∷ entries) u among none = elim among [ ]

-- of the entries of a scalar, as they were read
pub can_read : (t u : declared-teller.Teller) (f h : declared-function.Function) (scalars : List declared-scalar.Scalar) (found : List (Vec declared-unshown.Unshown)) (x : ℕ) (d : declared-scalar.Scalar) (v : Vec declared-unshown.Unshown) (entries : List declared-unshown.Unshown) (places now : ℕ)
    → x < length scalars → x < length found → v ≡ get_or found x v → entries ≡ v.items → now ≡ places → IsSameTeller t u → IsSameFunction f h
    → ((y : ℕ) (s : declared-scalar.Scalar) → slice_get scalars y ≡ Some s → CanBeTold (λ p. HasNoneBy t f.writers y s.var.0 p) places (entries_of found y)) → CanBeTold (λ p. HasNoneBy u h.writers x (get_or scalars x d).var.0 p) now entries
can_read t u f h scalars found x d v entries places now lt there is same count teller function all =
    can_before t u f h x (get_or scalars x d).var.0 now entries teller function
    (subst (λ n. CanBeTold (λ p. HasNoneBy t f.writers x (get_or scalars x d).var.0 p) n entries) (sym count)
    (subst (λ (l : List declared-unshown.Unshown). CanBeTold (λ p. HasNoneBy t f.writers x (get_or scalars x d).var.0 p) places l)
    (ap (λ (o : Option (Vec declared-unshown.Unshown)). option_map_or (λ z. z.items) o []) (slice_get-get_or found x v there ∙ ap Some (sym is)) ∙ sym same) (all x (get_or scalars x d) (slice_get-get_or scalars x d lt))))

-- a graph that was read has homes that are read
pub homes_read : (h : declared-homed.HomedUnit) (f : ℕ) → HaveHomes (homed_view h) → f < length h.unit.graphs.items → f < length h.homes.items
homes_read h f homed lt =
    let many = homes_counted (homed_view h).unit.graphs (homed_view h).homes homed in
    let graphs = length-map h.unit.graphs.items graph_view in
    let homes = length-map h.homes.items (λ (z : declared-homes.FunctionHomes). z.homes.items) in
    omega (arith, many, graphs, homes, lt)
