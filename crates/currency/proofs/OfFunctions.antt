-- What is told of functions, one after the other.
use Rattle.std.proofs.Common.{◌≡◌, ◌≢◌, inl, inr, ℕ, ◌+◌, ◌<◌, Option, Some, List, [], length, get_or, sym, ap, subst, ◌∙◌, arith}
use Rattle.std.specs.Prelude.{slice_get}
use Rattle.std.proofs.lemmas.Bool.Decides.{eqb_tells}
use Rattle.std.proofs.lemmas.Option.{same_Some}
use Rattle.places.specs.declared.table.PlaceRow as declared-row
use Rattle.places.specs.declared.table.PlaceTable as declared-table
use Rattle.graph_homes.specs.declared.home.Home.{Home}
use Rattle.graph_homes.specs.Homes.{HoldsOnAllPaths}
use Rattle.graph_core.specs.Graphs.{Graph, Logged, Of, Name}
use Rattle.graph_core.specs.Paths.{Among}
use Rattle.graph_core.specs.WellMarked.{IsVariable}
use Rattle.std.specs.Prelude.{option_map}
use Rattle.std.specs.Option.{option_map_or}
use Rattle.std.proofs.lemmas.List.{length-map}
use Rattle.std.proofs.lemmas.Option.{slice_get-get_or, slice_get-map}
use Rattle.graph_core.specs.declared.graph.Graph as declared-graph
use Rattle.graph_core.specs.Graphs.{graph_view}
use Rattle.currency_notes.specs.Homes.{home_in}
use Rattle.graph_homes.specs.declared.homed.FunctionHomes as declared-homes
use Rattle.graph_homes.specs.declared.homed.HomedUnit as declared-homed
use Rattle.graph_homes.specs.Homed.{HomedForm, homed_view, homes_in}
use Rattle.currency_shown.specs.Found.{IsPlaceOf}
use Rattle.currency_shown.specs.Shown.{ArePlaced}
use Rattle.currency.specs.declared.telling.Told as declared-told
use Rattle.currency.specs.declared.telling.Told.TheVariants as told
use Rattle.currency.specs.declared.telling.ToldVariable as declared-variable
use Rattle.currency.specs.declared.told.ToldPlaces as declared-places
use Rattle.currency.specs.Telling.{told_at, IsFunctionTold, IsToldRight}
use Rattle.currency.specs.Sound.{AreFunctionsTold, AreSo}

-- one place is of one function
one_function : (table : declared-table.PlaceTable) (f k p : ℕ) → IsPlaceOf table f p → IsPlaceOf table k p → f ≡ k
one_function table f k p a b = sym a.of ∙ ap (λ (r : declared-row.PlaceRow). r.function) (same_Some a.row b.row (sym a.is ∙ b.is)) ∙ b.of

-- what is told at a place of another function is right, since no path reaches it
right_elsewhere : (log : List Logged) (homes : List Home) (g : Graph) (table : declared-table.PlaceTable) (f k p : ℕ) (t : declared-variable.ToldVariable) (what : declared-told.Told) → f ≢ k → ArePlaced g f table → IsPlaceOf table k p → IsToldRight log homes g p t what
right_elsewhere log homes g table f k p t (told.Recovered r c) other placed there = λ x is. (
  (λ h n rest e way. absurd (other (one_function table f k p (placed h n p rest e way) there))),
  (λ h n rest e way. absurd (other (one_function table f k p (placed h n p rest e way) there))),
  (λ h n rest e way. absurd (other (one_function table f k p (placed h n p rest e way) there))),
)
right_elsewhere log homes g table f k p t (told.Hidden cause) other placed there = λ distinct x is h n rest e way r holds. other (one_function table f k p (placed h n p rest e way) there)

module _ (u : HomedForm) (table : declared-table.PlaceTable) where
  pub told_first : (all : declared-places.ToldPlaces) → ((p : ℕ) → told_at all p ≡ []) → AreFunctionsTold u table 0 all
  told_first all none = record {
    placed = λ f g lt at. absurd (omega (arith, lt));
    own = λ f g p x variable lt at. absurd (omega (arith, lt));
    right = λ p t f g among lt. absurd (omega (arith, lt));
    of = λ p t among. absurd (nothing t (subst (λ l. Among t l) (none p) among));
    reached = λ p t among. absurd (nothing t (subst (λ l. Among t l) (none p) among));
  }
    where
      nothing : (t : declared-variable.ToldVariable) → Among t [] → ⊥
      nothing t among = elim among [ ]

  pub told_next : (old new : declared-places.ToldPlaces) (count : ℕ) (g : Graph) (names : List Home) → slice_get u.unit.graphs count ≡ Some g → homes_in u count ≡ names → AreFunctionsTold u table count old → IsFunctionTold u.unit.log names g count table old new
      → AreFunctionsTold u table (count + 1) new
  told_next old new count g names at kept before next = record {
    placed = λ f d lt there. elim (eqb_tells f count) [
      | inl e ↦ placed_here f d e.1 there
      | inr e ↦ before.placed f d (omega (arith, lt, e.1)) there
    ];
    own = λ f d p x variable lt there is visible. elim (eqb_tells f count) [
      | inl e ↦ (let here : slice_get u.unit.graphs count ≡ Some d = sym (ap (λ k. slice_get u.unit.graphs k) e.1) ∙ there in
          let same : g ≡ d = same_Some g d (sym at ∙ here) in
          let homes : names ≡ homes_in u f = sym kept ∙ ap (λ k. homes_in u k) (sym e.1) in
          elim (next.own p x variable (subst (λ (c : Graph). IsVariable c x variable) (sym same) is) visible) [
            | inl a ↦ inl (subst (λ (hs : List Home). HoldsOnAllPaths (home_in hs) d p x (Of (Name x))) homes (subst (λ (c : Graph). HoldsOnAllPaths (home_in names) c p x (Of (Name x))) same a))
            | inr b ↦ inr b
          ])
      | inr e ↦ elim (before.own f d p x variable (omega (arith, lt, e.1)) there is visible) [ inl a ↦ inl a | inr b ↦ inr (record { t = b.t; among = next.kept p b.t b.among; of = b.of }) ]
    ];
    right = λ p t f d among lt there. elim (next.only p t among) [
      | inl a ↦ elim (eqb_tells f count) [
        | inl e ↦ (let o = before.of p t a in right_elsewhere u.unit.log (homes_in u f) d table f o.0 p t t.told (λ q. omega (arith, q, e.1, o.1)) (placed_here f d e.1 there) o.2)
        | inr e ↦ before.right p t f d a (omega (arith, lt, e.1)) there
      ]
      | inr b ↦ elim (eqb_tells f count) [
        | inl e ↦ (let here : slice_get u.unit.graphs count ≡ Some d = sym (ap (λ k. slice_get u.unit.graphs k) e.1) ∙ there in
            let same : g ≡ d = same_Some g d (sym at ∙ here) in
            let homes : names ≡ homes_in u f = sym kept ∙ ap (λ k. homes_in u k) (sym e.1) in
            subst (λ (hs : List Home). IsToldRight u.unit.log hs d p t t.told) homes (subst (λ (c : Graph). IsToldRight u.unit.log names c p t t.told) same b.1))
        | inr e ↦ right_elsewhere u.unit.log (homes_in u f) d table f count p t t.told e.1 (before.placed f d (omega (arith, lt, e.1)) there) b.0
      ]
    ];
    of = λ p t among. elim (next.only p t among) [
      | inl a ↦ (let o = before.of p t a in (o.0, omega (arith, o.1), o.2))
      | inr b ↦ (count, omega arith, b.0)
    ];
    reached = λ p t among. elim (next.reached p t among) [
      | inl a ↦ before.reached p t a
      | inr b ↦ record { function = count; graph = g; is = at; reached = b }
    ];
  }
    where
      placed_here : (f : ℕ) (d : Graph) → f ≡ count → slice_get u.unit.graphs f ≡ Some d → ArePlaced d f table
      placed_here f d e there =
          let same : g ≡ d = same_Some g d (sym at ∙ sym (ap (λ k. slice_get u.unit.graphs k) e) ∙ there) in
          subst (λ k. ArePlaced d k table) (sym e) (subst (λ (c : Graph). ArePlaced c count table) same next.placed)

-- the homes of a function
pub names_at : (h : declared-homed.HomedUnit) (f : ℕ) (one : declared-homes.FunctionHomes) → slice_get h.homes.items f ≡ Some one → homes_in (homed_view h) f ≡ one.homes.items
names_at h f one e =
    ap (λ (o : Option (List Home)). option_map_or (λ (homes : List Home). homes) o []) (slice_get-map (λ (z : declared-homes.FunctionHomes). z.homes.items) h.homes.items f ∙ ap (λ o. option_map (λ (z : declared-homes.FunctionHomes). z.homes.items) o) e)

-- one more function, as it was read
pub told_next_any : (h : declared-homed.HomedUnit) (table : declared-table.PlaceTable) (old new : declared-places.ToldPlaces) (f number : ℕ) (g : declared-graph.Graph) (one : declared-homes.FunctionHomes) (names : List Home) → number ≡ f → f < length h.unit.graphs.items → g ≡ get_or h.unit.graphs.items f g
    → f < length h.homes.items → one ≡ get_or h.homes.items f one → names ≡ one.homes.items → AreFunctionsTold (homed_view h) table f old → IsFunctionTold (homed_view h).unit.log names (graph_view g) number table old new → AreFunctionsTold (homed_view h) table (f + 1) new
told_next_any h table old new f number g one names same lt is small kept of before next =
    let at : slice_get (homed_view h).unit.graphs f ≡ Some (graph_view g) = slice_get-map graph_view h.unit.graphs.items f ∙ ap (λ o. option_map graph_view o) (slice_get-get_or h.unit.graphs.items f g lt ∙ ap Some (sym is)) in
    let homes : homes_in (homed_view h) f ≡ names = names_at h f one (slice_get-get_or h.homes.items f one small ∙ ap Some (sym kept)) ∙ sym of in
    told_next (homed_view h) table old new f (graph_view g) names at homes before (subst (λ n. IsFunctionTold (homed_view h).unit.log names (graph_view g) n table old new) same next)

-- all functions
pub told_all : (h : declared-homed.HomedUnit) (table : declared-table.PlaceTable) (told : declared-places.ToldPlaces) (f : ℕ) → f ≡ length h.unit.graphs.items → AreFunctionsTold (homed_view h) table f told → AreSo (homed_view h) table told
told_all h table told f e all = subst (λ n. AreFunctionsTold (homed_view h) table n told) (e ∙ sym (length-map h.unit.graphs.items graph_view)) all
