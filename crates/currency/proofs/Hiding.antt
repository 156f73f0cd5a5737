-- What hides variables is evident, entry by entry and scalar by scalar.
use Rattle.std.proofs.Common.{◌≡◌, inl, inr, ℕ, ◌<◌, ◌≤◌, Option, Some, None, List, length, get_or, map, refl, sym, ap, subst, ◌∙◌, arith}
use Rattle.std.specs.Prelude.{◌⊎◌, option_map, slice_get}
use Rattle.std.proofs.lemmas.Option.{slice_get-get_or, slice_get-map}
use Rattle.places.specs.declared.flow.FlowTable.{FlowTable}
use Rattle.debug_records.specs.declared.change.Change.{Change}
use Rattle.graph_homes.specs.declared.home.Home.{Home}
use Rattle.graph_core.specs.declared.graph.Graph as declared-graph
use Rattle.graph_core.specs.Graphs.{Scalar, graph_view, logged, scalar_view}
use Rattle.currency_notes.specs.Homes.{home_in}
use Rattle.debug_records.specs.declared.change.Var as declared-var
use Rattle.graph_core.specs.declared.graph.Scalar as declared-scalar
use Rattle.graph_core.specs.Paths.{Among}
use Rattle.currency_shown.specs.declared.found.LastNote as declared-last
use Rattle.currency_shown.specs.declared.found.Unshown as declared-unshown
use Rattle.currency_shown.specs.Found.{IsPlaceReached}
use Rattle.currency_hiding.specs.declared.hiding.Hiding as declared-hiding
use Rattle.currency_hiding.specs.declared.function.Function as declared-function
use Rattle.currency_hiding.specs.declared.teller.Teller as declared-teller
use Rattle.currency_writers.specs.declared.writers.Writers as declared-writers
use Rattle.currency_hiding.specs.Changes.{log_of}
use Rattle.currency_hiding.specs.First.{HasNone, Tells}
use Rattle.currency_hiding.specs.Found.{HasNoneAt, TellsBy, TellsFor, IsFunction, IsSameFunction, IsSameTeller, IsTeller}
use Rattle.currency_hiding.proofs.Same.{tells_same}
use Rattle.currency.specs.declared.telling.Told as declared-told
use Rattle.currency.specs.declared.telling.Told.TheVariants as told
use Rattle.currency.specs.declared.telling.ToldVariable as declared-variable
use Rattle.currency.specs.declared.told.ToldPlaces as declared-places
use Rattle.currency.specs.Tellable.{CanBeTold, HasNoneBy}
use Rattle.currency.specs.Telling.{AreToldOf, IsRecipeOf, IsToldOne, told_at}
use Rattle.currency.specs.Evident.{AreNew, IsHiding, IsHidingIn, IsHidingOn, IsHidingScalar}

-- nothing is new
pub new_none : (IsSo : (p : ℕ) → declared-variable.ToldVariable → Type 0) (all : declared-places.ToldPlaces) → AreNew IsSo all all
new_none IsSo all p t among = inl among

-- what is evident in another way
pub hiding_by : (One Other : declared-hiding.Hiding → Type 0) (what : declared-told.Told) → ((c : declared-hiding.Hiding) → One c → Other c) → IsHiding One what → IsHiding Other what
hiding_by One Other (told.Recovered r c) by hiding = hiding
hiding_by One Other (told.Hidden h) by hiding = by h hiding

-- one more is told
pub new_one : (IsEvident : (p : ℕ) → declared-hiding.Hiding → Type 0) (old mid new : declared-places.ToldPlaces) (place : ℕ) (var : declared-var.Var) (what : declared-told.Told) → AreNew (IsHidingOn IsEvident var) old mid → IsToldOne mid new place var what
    → IsHiding (λ c. IsEvident place c) what → AreNew (IsHidingOn IsEvident var) old new
new_one IsEvident old mid new place var what before one hiding p t among = elim (one.only p t among) [
  | inl a ↦ before p t a
  | inr b ↦ inr (b.1, subst (λ (w : declared-told.Told). IsHiding (λ c. IsEvident p c) w) (sym b.2) (subst (λ q. IsHiding (λ c. IsEvident q c) what) (sym b.0) hiding))
]

-- what hides where no recipe is told
hiding_where : (One Other : declared-hiding.Hiding → Type 0) (what : declared-told.Told) (last : Option declared-last.LastNote) → IsRecipeOf what last → (last ≡ None → (c : declared-hiding.Hiding) → One c → Other c) → IsHiding One what → IsHiding Other what
hiding_where One Other (told.Recovered r c) last recipe by hiding = hiding
hiding_where One Other (told.Hidden h) last recipe by hiding = by recipe h hiding

-- what is told of a scalar, on which the questions are if it is hidden somewhere
pub scalar_hiding : (t u : declared-teller.Teller) (f h : declared-function.Function) (x : ℕ) (var : declared-var.Var) (entries : List declared-unshown.Unshown) (old new : declared-places.ToldPlaces) → IsSameTeller t u → IsSameFunction f h
    → ((e : declared-unshown.Unshown) → Among e entries → e.last ≡ None → (h.scalar ≡ x) × (u.search.flow.var.0 ≡ var.0)) → AreToldOf old new var entries → AreNew (IsHidingOn (λ p c. TellsFor u h p c) var) old new
    → AreNew (IsHidingOn (λ p c. TellsBy t f.writers x var.0 p c) var) old new
scalar_hiding t u f h x var entries old new teller function asked told all p one among = elim (all p one among) [
  | inl a ↦ inl a
  | inr b ↦ elim (told.only p one among) [
    | inl a ↦ inl a
    | inr o ↦ inr (
      b.0,
      hiding_where (λ c. TellsFor u h p c) (λ c. TellsBy t f.writers x var.0 p c) one.told o.entry.last o.recipe
          (λ none c tells. (let same = asked o.entry o.among none in tells_same t u f h x var.0 p c teller function same.0 same.1 tells)) b.1,
    )
  ]
]

-- nothing may be told by the same unit and function
pub none_same : (t u : declared-teller.Teller) (f h : declared-function.Function) (x variable p : ℕ) → IsSameTeller t u → IsSameFunction f h → h.scalar ≡ x → u.search.flow.var.0 ≡ variable → HasNoneBy u h.writers h.scalar u.search.flow.var.0 p → HasNoneBy t f.writers x variable p
none_same t u f h x variable p teller function scalar var none =
    subst (λ v. HasNone (map logged t.changes.all.now) t.search.flow.table.now (home_in f.writers.homes.now) f.writers.function (graph_view f.writers.graph.now) x v p) var
    (subst (λ y. HasNone (map logged t.changes.all.now) t.search.flow.table.now (home_in f.writers.homes.now) f.writers.function (graph_view f.writers.graph.now) y u.search.flow.var.0 p) scalar
    (subst (λ (w : declared-writers.Writers). HasNone (map logged t.changes.all.now) t.search.flow.table.now (home_in w.homes.now) w.function (graph_view w.graph.now) h.scalar u.search.flow.var.0 p) function.writers
    (subst (λ (table : FlowTable). HasNone (map logged t.changes.all.now) table (home_in h.writers.homes.now) h.writers.function (graph_view h.writers.graph.now) h.scalar u.search.flow.var.0 p) teller.flow
    (subst (λ (all : List Change). HasNone (map logged all) u.search.flow.table.now (home_in h.writers.homes.now) h.writers.function (graph_view h.writers.graph.now) h.scalar u.search.flow.var.0 p) teller.changes none))))

-- of entries of a scalar on which the questions are something can be told
pub can_same : (t u : declared-teller.Teller) (f h : declared-function.Function) (x variable places : ℕ) (entries : List declared-unshown.Unshown) → IsSameTeller t u → IsSameFunction f h → ((e : declared-unshown.Unshown) → Among e entries → e.last ≡ None → (h.scalar ≡ x) × (u.search.flow.var.0 ≡ variable))
    → CanBeTold (λ p. HasNoneBy t f.writers x variable p) places entries → CanBeTold (λ p. HasNoneAt u.changes u.search h p) places entries
can_same t u f h x variable places entries teller function asked can = record {
  placed = can.placed;
  sourced = can.sourced;
  some = λ e among none nothing. (let same = asked e among none in can.some e among none (none_same t u f h x variable e.place.0 teller function same.0 same.1 nothing));
}

-- the same unit and function before
pub can_before : (t u : declared-teller.Teller) (f h : declared-function.Function) (x variable places : ℕ) (entries : List declared-unshown.Unshown) → IsSameTeller t u → IsSameFunction f h → CanBeTold (λ p. HasNoneBy t f.writers x variable p) places entries → CanBeTold (λ p. HasNoneBy u h.writers x variable p) places entries
can_before t u f h x variable places entries teller function can = record {
  placed = can.placed;
  sourced = can.sourced;
  some = λ e among none nothing. can.some e among none
      (subst (λ (w : declared-writers.Writers). HasNone (map logged t.changes.all.now) t.search.flow.table.now (home_in w.homes.now) w.function (graph_view w.graph.now) x variable e.place.0) function.writers
      (subst (λ (table : FlowTable). HasNone (map logged t.changes.all.now) table (home_in h.writers.homes.now) h.writers.function (graph_view h.writers.graph.now) x variable e.place.0) teller.flow
      (subst (λ (all : List Change). HasNone (map logged all) u.search.flow.table.now (home_in h.writers.homes.now) h.writers.function (graph_view h.writers.graph.now) x variable e.place.0) teller.changes nothing)));
}

-- one more scalar
pub scalar_more : (t : declared-teller.Teller) (w : declared-writers.Writers) (scalars : List declared-scalar.Scalar) (x : ℕ) (s : declared-scalar.Scalar) (old mid new : declared-places.ToldPlaces) → slice_get scalars x ≡ Some s
    → AreNew (IsHidingScalar t w scalars) old mid → AreNew (IsHidingOn (λ p c. TellsBy t w x s.var.0 p c) s.var) mid new → AreNew (IsHidingScalar t w scalars) old new
scalar_more t w scalars x s old mid new is before more p one among = elim (more p one among) [
  | inl a ↦ before p one a
  | inr b ↦ inr (record { x = x; scalar = s; is = is; hiding = b })
]

pub same_teller : (t : declared-teller.Teller) → IsTeller t → IsSameTeller t t
same_teller t is = record { teller = is; changes = refl; flow = refl }

pub same_function : (f : declared-function.Function) → IsFunction f → IsSameFunction f f
same_function f is = record { function = is; writers = refl }

pub teller_on : (t u v : declared-teller.Teller) → IsSameTeller t u → IsSameTeller u v → IsSameTeller t v
teller_on t u v one two = record { teller = two.teller; changes = two.changes ∙ one.changes; flow = two.flow ∙ one.flow }

pub function_on : (f h k : declared-function.Function) → IsSameFunction f h → IsSameFunction h k → IsSameFunction f k
function_on f h k one two = record { function = two.function; writers = two.writers ∙ one.writers }

-- evidence by the same unit and function
pub evident_same : (t u : declared-teller.Teller) (f h : declared-function.Function) (x variable p : ℕ) (c : declared-hiding.Hiding) → IsSameTeller t u → IsSameFunction f h → TellsBy u h.writers x variable p c → TellsBy t f.writers x variable p c
evident_same t u f h x variable p c teller function hides =
    subst (λ (w : declared-writers.Writers). Tells (map logged t.changes.all.now) t.search.flow.table.now (home_in w.homes.now) w.function (graph_view w.graph.now) x variable p c) function.writers
    (subst (λ (table : FlowTable). Tells (map logged t.changes.all.now) table (home_in h.writers.homes.now) h.writers.function (graph_view h.writers.graph.now) x variable p c) teller.flow
    (subst (λ (all : List Change). Tells (map logged all) u.search.flow.table.now (home_in h.writers.homes.now) h.writers.function (graph_view h.writers.graph.now) x variable p c) teller.changes hides))

-- one more scalar, as it was read
pub scalar_more_any : (t u : declared-teller.Teller) (f h : declared-function.Function) (scalars : List declared-scalar.Scalar) (x number : ℕ) (d : declared-scalar.Scalar) (old mid new : declared-places.ToldPlaces) → x < length scalars → number ≡ x → IsSameTeller t u → IsSameFunction f h
    → AreNew (IsHidingScalar t f.writers scalars) old mid → AreNew (IsHidingOn (λ p c. TellsBy u h.writers number (get_or scalars x d).var.0 p c) (get_or scalars x d).var) mid new → AreNew (IsHidingScalar t f.writers scalars) old new
scalar_more_any t u f h scalars x number d old mid new lt same teller function before more =
    scalar_more t f.writers scalars x (get_or scalars x d) old mid new (slice_get-get_or scalars x d lt) before
    (λ p one among. elim (more p one among) [
      | inl a ↦ inl a
      | inr b ↦ inr (
        b.0,
        hiding_by (λ c. TellsBy u h.writers number (get_or scalars x d).var.0 p c) (λ c. TellsBy t f.writers x (get_or scalars x d).var.0 p c) one.told
            (λ c hides. evident_same t u f h x (get_or scalars x d).var.0 p c teller function (subst (λ n. TellsBy u h.writers n (get_or scalars x d).var.0 p c) same hides)) b.1,
      )
    ])

-- a scalar is one of the function still
pub scalar_within : (f h : declared-function.Function) (scalars : List declared-scalar.Scalar) (x number : ℕ) → IsSameFunction f h → number ≡ x → x < length scalars → length scalars ≤ length (graph_view f.writers.graph.now).scalars → number < length (graph_view h.writers.graph.now).scalars
scalar_within f h scalars x number function same lt le =
    (let long : length (graph_view h.writers.graph.now).scalars ≡ length (graph_view f.writers.graph.now).scalars = ap (λ (w : declared-writers.Writers). length (graph_view w.graph.now).scalars) function.writers in
    omega (arith, long, same, lt, le))

-- what is told of the scalars of a function
pub hiding_in : (t : declared-teller.Teller) (w : declared-writers.Writers) (g : declared-graph.Graph) (homes : List Home) (number : ℕ) (old new : declared-places.ToldPlaces) → w.function ≡ number → w.graph.now ≡ g → w.homes.now ≡ homes
    → ((p : ℕ) (one : declared-variable.ToldVariable) → Among one (told_at new p) → Among one (told_at old p) ⊎ IsPlaceReached (graph_view g) p) → AreNew (IsHidingScalar t w g.scalars.items) old new
    → AreNew (IsHidingIn (log_of t.changes) t.search.flow.table.now (home_in homes) number (graph_view g)) old new
hiding_in t w g homes number old new function graph kept placed all p one among = elim (placed p one among) [
  | inl a ↦ inl a
  | inr reached ↦ elim (all p one among) [
    | inl a ↦ inl a
    | inr b ↦ (let of : one.var.0 ≡ b.scalar.var.0 = ap (λ (v : declared-var.Var). v.0) b.hiding.0 in
        inr (record {
          x = b.x;
          of = ap (λ q. option_map (λ (z : Scalar). z.variable) q) (slice_get-map scalar_view g.scalars.items b.x ∙ ap (λ o. option_map scalar_view o) b.is) ∙ ap Some (sym of);
          reached = reached;
          hiding = hiding_by (λ c. TellsBy t w b.x b.scalar.var.0 p c) (λ c. Tells (log_of t.changes) t.search.flow.table.now (home_in homes) number (graph_view g) b.x one.var.0 p c) one.told
              (λ c hides. subst (λ v. Tells (log_of t.changes) t.search.flow.table.now (home_in homes) number (graph_view g) b.x v p c) (sym of)
              (subst (λ (l : List Home). Tells (log_of t.changes) t.search.flow.table.now (home_in l) number (graph_view g) b.x b.scalar.var.0 p c) kept
              (subst (λ (z : declared-graph.Graph). Tells (log_of t.changes) t.search.flow.table.now (home_in w.homes.now) number (graph_view z) b.x b.scalar.var.0 p c) graph
              (subst (λ n. Tells (log_of t.changes) t.search.flow.table.now (home_in w.homes.now) n (graph_view w.graph.now) b.x b.scalar.var.0 p c) function hides)))) b.hiding.1;
        }))
  ]
]
