-- The frame of each function is laid out as frames are, and its homes are its own.
use Rattle.std.proofs.Common.{◌≡◌, ℕ, zero, suc, ◌+◌, ◌<◌, ◌≤◌, sym, ap, ◌∙◌, subst, arith, refl, Option, Some, None, Bool, true, false, cond, List, [], ◌∷◌, length, slice_get}
use Rattle.std.specs.List.{AllByRecursion, filter}
use Rattle.std.specs.Option.{option_map_or}
use Rattle.std.proofs.lemmas.Option.{slice_get_within}
use Rattle.graph_homes.specs.declared.home.Home.{Home}
use Rattle.graph_homes.specs.declared.home.Home.TheVariants.{Register, Slot}
use Rattle.graph_core.specs.Graphs.{Graph, Binding, ToScalar, ToObject, UnitForm}
use Rattle.graph_core.specs.Paths.{Among, front, behind}
use Rattle.graph_core.specs.Validity.{IsValid, IsGraph, IsBinding, total, taken_by_object}
use Rattle.graph_homes.specs.Frames.{home_registers, is_written, saved, slot_count}
use Rattle.graph_homes.specs.Homed.{HomedForm, homes_in, home_of, IsHomeAmong, AreHomesOf, HaveHomes, placed_graph, placed_graphs, over_homes}
use Rattle.rv_emit_storage.specs.Storages.{home_at}
use Rattle.rv_emit_runs.specs.Waiting.{IsFunctionCode}
use Rattle.rv_emit_runs.proofs.Beginning.{ShareStatics}
use Rattle.rv_emit_runs.proofs.Bindings.{AreBindable}
use Rattle.rv_emit_runs.proofs.LaidOut.{IsLaidOut, laid_out_is}
use Rattle.rv_emit_runs.proofs.Saved.{binding_saved}
use Rattle.rv_emit_runs.specs.Laid.{Arrangement, no_graph, graph_at, code_of}
use Rattle.rv_emit_runs.proofs.Lists.{all_at, get_some}

-- ---- Homes

-- As many slots as there are names at most, and each home is one of them or a register.
slots_few : (n : ℕ) (homes : List Home) → AllByRecursion (IsHomeAmong n) homes → slot_count homes ≤ n
slots_few n [] all = omega arith
slots_few n (Register r ∷ more) all = slots_few n more all.1
slots_few n (Slot k ∷ more) all = let later = slots_few n more all.1 in let this : k < n = all.0 in omega (arith, later, this)

home_slotted : (n : ℕ) (homes : List Home) (x : ℕ) (home : Home) → AllByRecursion (IsHomeAmong n) homes → slice_get homes x ≡ Some home → IsHomeAmong (slot_count homes) home
home_slotted n [] x home all e = cc
home_slotted n (y ∷ more) zero home all e = let same : y ≡ home = cc in subst (λ z. IsHomeAmong (slot_count (y ∷ more)) z) same (first y all.0)
  where
    first : (z : Home) → IsHomeAmong n z → IsHomeAmong (slot_count (z ∷ more)) z
    first (Register r) is = is
    first (Slot k) is = omega arith
home_slotted n (y ∷ more) (suc x) home all e = later y home (home_slotted n more x home all.1 e)
  where
    later : (z w : Home) → IsHomeAmong (slot_count more) w → IsHomeAmong (slot_count (z ∷ more)) w
    later (Register r) w is = is
    later (Slot k) (Register r) is = is
    later (Slot k) (Slot j) is = let low : j < slot_count more = is in omega (arith, low)

-- The homes of a function's names, and none where there is no function.
pub record AreHomed (g : Graph) (homes : List Home) : Type 0 where
  pub many : length homes ≡ g.name_count
  pub all : AllByRecursion (IsHomeAmong g.name_count) homes

homes_there : (gs : List Graph) (hs : List (List Home)) (n : ℕ) (g : Graph) → AreHomesOf gs hs → slice_get gs n ≡ Some g → (homes : List Home) × (slice_get hs n ≡ Some homes) × AreHomed g homes
homes_there [] hs n g are e = cc
homes_there (x ∷ gs) [] n g are e = absurd are
homes_there (x ∷ gs) (y ∷ hs) zero g are e = let same : x ≡ g = cc in (y, refl, subst (λ z. AreHomed z y) same (record { many = are.0; all = are.1 }))
homes_there (x ∷ gs) (y ∷ hs) (suc n) g are e = homes_there gs hs n g are.2 e

nothing_there : {A : Type 0} (n : ℕ) → slice_get {X = A} [] n ≡ None
nothing_there zero = refl
nothing_there (suc n) = refl

homes_none : (gs : List Graph) (hs : List (List Home)) (n : ℕ) → AreHomesOf gs hs → slice_get gs n ≡ None → slice_get hs n ≡ None
homes_none [] [] n are e = nothing_there n
homes_none [] (y ∷ hs) n are e = absurd are
homes_none (x ∷ gs) [] n are e = absurd are
homes_none (x ∷ gs) (y ∷ hs) zero are e = cc
homes_none (x ∷ gs) (y ∷ hs) (suc n) are e = homes_none gs hs n are.2 e

filter_short : (p : ℕ → Bool) (xs : List ℕ) → length (filter p xs) ≤ length xs
filter_short p [] = omega arith
filter_short p (x ∷ xs) = by_test (p x) (filter_short p xs)
  where
    by_test : (b : Bool) → length (filter p xs) ≤ length xs → length (cond b (x ∷ filter p xs) (filter p xs)) ≤ length (x ∷ xs)
    by_test true le = omega (arith, le)
    by_test false le = omega (arith, le)

-- ---- Graphs

pub graph_is : (u : UnitForm) (f : ℕ) (g : Graph) → slice_get u.graphs f ≡ Some g → graph_at u f ≡ g
graph_is u f g e = ap (λ o. option_map_or (λ (z : Graph). z) o no_graph) e

pub graph_there : (u : UnitForm) (f : ℕ) → f < length u.graphs → slice_get u.graphs f ≡ Some (graph_at u f)
graph_there u f low =
    let some = get_some u.graphs f low in
    some.1 ∙ ap (λ g. Some g) (sym (graph_is u f some.0 some.1))

-- The graph of each function is valid.
pub graph_valid : (u : UnitForm) → IsValid u → (f : ℕ) → f < length u.graphs → IsGraph u (graph_at u f)
graph_valid u valid f low = all_at (IsGraph u) u.graphs f (graph_at u f) valid.graphs (graph_there u f low)

-- That of the unit over homes has homes as names.
placed_there : (h : HomedForm) (gs : List Graph) (k n : ℕ) (g : Graph) → slice_get gs n ≡ Some g → slice_get (placed_graphs h k gs) n ≡ Some (placed_graph (home_of h (k + n)) g)
placed_there h [] k n g e = cc
placed_there h (x ∷ gs) k zero g e =
    let same : x ≡ g = cc in
    let here : k ≡ k + 0 = omega arith in
    ap (λ z. Some (placed_graph (home_of h k) z)) same ∙ ap (λ m. Some (placed_graph (home_of h m) g)) here
placed_there h (x ∷ gs) k (suc n) g e =
    let here : k + 1 + n ≡ k + suc n = omega arith in
    placed_there h gs (k + 1) n g e ∙ ap (λ m. Some (placed_graph (home_of h m) g)) here

pub over_homes_there : (h : HomedForm) (a : Arrangement) (f : ℕ) → f < length h.unit.graphs → slice_get (over_homes h).graphs f ≡ Some (placed_graph (home_at (code_of h a f).storage) (code_of h a f).graph)
over_homes_there h a f low =
    let here : 0 + f ≡ f = omega arith in
    placed_there h h.unit.graphs 0 f (graph_at h.unit f) (graph_there h.unit f low) ∙ ap (λ m. Some (placed_graph (home_of h m) (graph_at h.unit f))) here

-- ---- Frames

module _ (h : HomedForm) (valid : IsValid h.unit) (homed : HaveHomes h) (a : Arrangement) where
  saved_few : (f : ℕ) → length (saved (home_of h f) (graph_at h.unit f)) ≤ 15
  saved_few f = filter_short (is_written (home_of h f) (graph_at h.unit f)) home_registers

  -- A function that there is.
  laid_out_there : (f : ℕ) → f < length h.unit.graphs → IsLaidOut (code_of h a f)
  laid_out_there f low =
      let g : Graph = graph_at h.unit f in
      let there = homes_there h.unit.graphs h.homes f g homed (graph_there h.unit f low) in
      let homes : List Home = there.0 in
      let same : homes_in h f ≡ homes = ap (λ o. option_map_or (λ (z : List Home). z) o []) there.1 in
      let is : AreHomed g homes = there.2 in
      let graph = graph_valid h.unit valid f low in
      let few : slot_count (homes_in h f) ≤ g.name_count = subst (λ l. slot_count l ≤ g.name_count) (sym same) (slots_few g.name_count homes is.all) in
      let many = graph.names in
      let bytes = graph.objects in
      let kept = saved_few f in
      record {
        kept = refl;
        slots = refl;
        objects = refl;
        size = refl;
        small = omega (arith, few, many, bytes, kept);
        homes = λ x lt.
            let count = is.many in
            let some = get_some homes x (omega (arith, lt, count)) in
            let at : home_at (code_of h a f).storage x ≡ some.0 = ap (λ l. option_map_or (λ (z : Home). z) (slice_get l x) (Slot 0)) same ∙ ap (λ o. option_map_or (λ (z : Home). z) o (Slot 0)) some.1 in
            subst (λ z. IsHomeAmong (slot_count (homes_in h f)) z) (sym at) (subst (λ l. IsHomeAmong (slot_count l) some.0) (sym same) (home_slotted g.name_count homes x some.0 is.all some.1));
      }

  -- A number that no function has.
  laid_out_none : (f : ℕ) → slice_get h.unit.graphs f ≡ None → IsLaidOut (code_of h a f)
  laid_out_none f none =
      let same : homes_in h f ≡ [] = ap (λ o. option_map_or (λ (z : List Home). z) o []) (homes_none h.unit.graphs h.homes f homed none) in
      let empty : graph_at h.unit f ≡ no_graph =
      ap (λ o. option_map_or (λ (z : Graph). z) o no_graph) none in
      let few : slot_count (homes_in h f) ≡ 0 = ap slot_count same in
      let bytes : total taken_by_object (graph_at h.unit f).objects ≡ 0 = ap (λ (g : Graph). total taken_by_object g.objects) empty in
      let kept = saved_few f in
      record {
        kept = refl;
        slots = refl;
        objects = refl;
        size = refl;
        small = omega (arith, few, bytes, kept);
        homes = λ x lt. let none_named : (graph_at h.unit f).name_count ≡ 0 = ap (λ (g : Graph). g.name_count) empty in absurd (omega (arith, lt, none_named));
      }

  pub laid_out : (f : ℕ) → IsLaidOut (code_of h a f)
  laid_out f = by_found (slice_get h.unit.graphs f) refl
    where
      by_found : (found : Option Graph) → slice_get h.unit.graphs f ≡ found → IsLaidOut (code_of h a f)
      by_found None e = laid_out_none f e
      by_found (Some g) e = laid_out_there f (slice_get_within h.unit.graphs f g e)

  pub all_codes : (u : UnitForm) (f : ℕ) → IsFunctionCode u (code_of h a f)
  all_codes u f = laid_out_is u (code_of h a f) (laid_out f)

  pub share_statics : ShareStatics (code_of h a)
  share_statics = record { base = λ j k. refl; statics = λ j k. refl; arrays = λ j k. refl }

  -- ---- Parameters

  bindable : (f : ℕ) → f < length h.unit.graphs → (more : List Binding) → ((b : Binding) → Among b more → Among b (graph_at h.unit f).parameters) → AllByRecursion (IsBinding (graph_at h.unit f)) more
      → AreBindable (code_of h a f).storage (code_of h a f).graph (code_of h a f).saved more
  bindable f low [] among legal = tt
  bindable f low (ToScalar x ∷ more) among legal =
      let graph = graph_valid h.unit valid f low in
      let within : x < (graph_at h.unit f).name_count = let lt = legal.0 in let s = graph.scalars in let t = graph.temporaries in omega (arith, lt, s, t) in
      (within, binding_saved (home_of h f) (graph_at h.unit f) (slot_count (homes_in h f)) x (among (ToScalar x) front) ((laid_out f).homes x within), bindable f low more (λ b is. among b (behind is)) legal.1)
  bindable f low (ToObject k ∷ more) among legal = (get_some (graph_at h.unit f).objects k legal.0, tt, bindable f low more (λ b is. among b (behind is)) legal.1)

  pub are_bindable : (f : ℕ) → f < length h.unit.graphs → AreBindable (code_of h a f).storage (code_of h a f).graph (code_of h a f).saved (code_of h a f).graph.parameters
  are_bindable f low = bindable f low (graph_at h.unit f).parameters (λ b is. is) (graph_valid h.unit valid f low).bindings
