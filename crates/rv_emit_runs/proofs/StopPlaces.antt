-- Where stops are those of a unit: each place that a marker begins has one, each is of such a place, and no place has two.
use Rattle.std.proofs.Common.{◌≡◌, ◌≢◌, ℕ, zero, suc, ◌⊎◌, inl, inr, ⊎_elim, ◌==◌, not, cond, Bool, true, false, Some, List, [], ◌∷◌, ◌++◌, map, slice_get, refl, sym, ap, ◌∙◌, subst}
use Rattle.std.proofs.lemmas.Bool.{eq-eqb, ne_eqb, true≢false}
use Rattle.graph_core.specs.Graphs.{Graph, UnitForm}
use Rattle.graph_core.specs.Paths.{Among, front, behind}
use Rattle.graph_core.specs.Validity.{markers_of_blocks, AreAllDifferent}
use Rattle.rv_emit_tables.specs.declared.emitted.PlacedStop.{PlacedStop}
use Rattle.rv_emit_runs.proofs.Lists.{all_among}
use Rattle.rv_emit_runs.specs.EmitPlacedMarkers.{stop_places_in, stop_places, place_of, AreStopsOf}
use Rattle.rv_emit_runs.proofs.EmitPlacedBegun.{kept}
use Rattle.rv_emit_runs.proofs.Stops.{among_left, among_right}

-- ---- Places

-- What is kept of some places was among them, and is no entry.
kept_from : (entry p : ℕ) (xs : List ℕ) → Among p (kept entry xs) → Among p xs × (p ≢ entry)
kept_from entry p [] there = elim there [ ]
kept_from entry p (x ∷ xs) there = by_test (not (x == entry)) refl (λ there. kept_from entry p xs there) there
  where
    not_entry : (q : ℕ) → not (q == entry) ≡ true → q ≢ entry
    not_entry q e same = absurd (true≢false (sym e ∙ ap not (eq-eqb q entry same)))

    by_place : (q : ℕ) → not (x == entry) ≡ true → (Among p (kept entry xs) → Among p xs × (p ≢ entry)) → Among q (x ∷ kept entry xs) → q ≡ p → Among p (x ∷ xs) × (p ≢ entry)
    by_place q e rest front same = (subst (λ r. Among r (x ∷ xs)) same front, λ e'. not_entry x e (same ∙ e'))
    by_place q e rest (behind later) same = let found = rest (subst (λ r. Among r (kept entry xs)) same later) in (behind found.0, found.1)

    by_test : (b : Bool) → not (x == entry) ≡ b → (Among p (kept entry xs) → Among p xs × (p ≢ entry)) → Among p (cond b (x ∷ kept entry xs) (kept entry xs)) → Among p (x ∷ xs) × (p ≢ entry)
    by_test true e rest there = by_place p e rest there refl
    by_test false e rest there = let found = rest there in (behind found.0, found.1)

kept_there : (entry p : ℕ) (xs : List ℕ) → Among p xs → p ≢ entry → Among p (kept entry xs)
kept_there entry p [] there other = elim there [ ]
kept_there entry p (_ ∷ xs) front other = subst (λ b. Among p (cond (not b) (p ∷ kept entry xs) (kept entry xs))) (sym (ne_eqb p entry other)) front
kept_there entry p (x ∷ xs) (behind there) other = by_test (not (x == entry)) (kept_there entry p xs there other)
  where
    by_test : (b : Bool) → Among p (kept entry xs) → Among p (cond b (x ∷ kept entry xs) (kept entry xs))
    by_test true later = behind later
    by_test false later = later

-- A place that a marker of a function of these begins, which is not the function's entry.
pub record IsStopPlace (graphs : List Graph) (p : ℕ) : Type 0 where
  pub function : ℕ
  pub graph : Graph
  pub is : slice_get graphs function ≡ Some graph
  pub marker : Among p (markers_of_blocks graph.blocks)
  pub other : p ≢ graph.entry

in_either : (p : ℕ) (xs ys : List ℕ) → Among p (xs ++ ys) → Among p xs ⊎ Among p ys
in_either p [] ys there = inr there
in_either p (_ ∷ xs) ys front = inl front
in_either p (x ∷ xs) ys (behind there) = ⊎_elim (λ (one : Among p xs). inl (behind one)) (λ (two : Among p ys). inr two) (in_either p xs ys there)

places_from : (graphs : List Graph) (p : ℕ) → Among p (stop_places graphs) → IsStopPlace graphs p
places_from [] p there = elim there [ ]
places_from (g ∷ more) p there =
    ⊎_elim
    (λ (one : Among p (stop_places_in g)). let found = kept_from g.entry p (markers_of_blocks g.blocks) one in record { function = 0; graph = g; is = refl; marker = found.0; other = found.1 })
    (λ (two : Among p (stop_places more)). let found = places_from more p two in record { function = suc found.function; graph = found.graph; is = found.is; marker = found.marker; other = found.other })
    (in_either p (stop_places_in g) (stop_places more) there)

places_there : (graphs : List Graph) (f : ℕ) (g : Graph) (p : ℕ) → slice_get graphs f ≡ Some g → Among p (markers_of_blocks g.blocks) → p ≢ g.entry → Among p (stop_places graphs)
places_there [] f g p is marker other = cc
places_there (x ∷ more) zero g p is marker other =
    let same : x ≡ g = cc in
    among_left p (stop_places_in x) (stop_places more) (subst (λ (q : Graph). Among p (stop_places_in q)) (sym same) (kept_there g.entry p (markers_of_blocks g.blocks) marker other))
places_there (x ∷ more) (suc f) g p is marker other = among_right p (stop_places_in x) (stop_places more) (places_there more f g p is marker other)

-- ---- Stops

stop_with : (stops : List PlacedStop) (p : ℕ) → Among p (map place_of stops) → (s : PlacedStop) × Among s stops × (s.place ≡ p)
stop_with [] p there = elim there [ ]
stop_with (s ∷ more) p there = by_place p (λ there. stop_with more p there) there refl
  where
    by_place : (q : ℕ) → (Among p (map place_of more) → (t : PlacedStop) × Among t more × (t.place ≡ p)) → Among q (s.place ∷ map place_of more) → q ≡ p → (t : PlacedStop) × Among t (s ∷ more) × (t.place ≡ p)
    by_place q rest front same = (s, front, same)
    by_place q rest (behind later) same = let found = rest (subst (λ r. Among r (map place_of more)) same later) in (found.0, behind found.1, found.2)

its_place : (stops : List PlacedStop) (s : PlacedStop) → Among s stops → Among s.place (map place_of stops)
its_place [] s there = elim there [ ]
its_place (_ ∷ more) s front = front
its_place (x ∷ more) s (behind there) = behind (its_place more s there)

one_of_each : (stops : List PlacedStop) (s t : PlacedStop) → AreAllDifferent (map place_of stops) → Among s stops → Among t stops → s.place ≡ t.place → s ≡ t
one_of_each [] s t once one two same = elim one [ ]
one_of_each (_ ∷ more) s t once front two same = first t two refl
  where
    first : (u : PlacedStop) → Among u (s ∷ more) → u ≡ t → s ≡ t
    first u front e = e
    first u (behind later) e = absurd (all_among (λ q. s.place ≢ q) (map place_of more) u.place once.0 (its_place more u later) (same ∙ sym (ap place_of e)))
one_of_each (x ∷ more) s t once (behind one) two same = later t (λ two. one_of_each more s t once.1 one two same) two refl
  where
    later : (u : PlacedStop) → (Among t more → s ≡ t) → Among u (x ∷ more) → u ≡ t → s ≡ t
    later u rest front e = absurd (all_among (λ q. x.place ≢ q) (map place_of more) s.place once.0 (its_place more s one) (ap place_of e ∙ sym same))
    later u rest (behind there) e = rest (subst (λ v. Among v more) e there)

module _ (u : UnitForm) (stops : List PlacedStop) (are : AreStopsOf u stops) where
  -- Each place that a marker begins has a stop, but an entry.
  pub marker_stops : (f : ℕ) (g : Graph) (p : ℕ) → slice_get u.graphs f ≡ Some g → Among p (markers_of_blocks g.blocks) → p ≢ g.entry → (s : PlacedStop) × Among s stops × (s.place ≡ p)
  marker_stops f g p is marker other = stop_with stops p (subst (Among p) (sym are.places) (places_there u.graphs f g p is marker other))

  -- Each stop is that of such a place.
  pub stop_marked : (s : PlacedStop) → Among s stops → IsStopPlace u.graphs s.place
  stop_marked s there = places_from u.graphs s.place (subst (Among s.place) are.places (its_place stops s there))

  -- No place has two.
  pub one_stop : (s t : PlacedStop) → Among s stops → Among t stops → s.place ≡ t.place → s ≡ t
  one_stop s t one two same = one_of_each stops s t are.once one two same
