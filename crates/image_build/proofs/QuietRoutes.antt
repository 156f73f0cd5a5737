-- A quiet path by the flow of a unit is one by that of its image, so the path that is printed is the least.
use Rattle.std.proofs.Common.{◌≡◌, ◌≢◌, inl, inr, ℕ, ◌≤◌, true, false, List, [], ◌∷◌, length, map, refl, sym, ap, ◌∙◌, subst, arith}
use Rattle.std.specs.Prelude.{◌==◌, ◌&&◌, unwrap_or}
use Rattle.std.specs.List.{AllByRecursion}
use Rattle.std.proofs.lemmas.Bool.{eqb-true}
use Rattle.std.proofs.lemmas.List.{length-map}
use Rattle.base_laws.proofs.Booleans.{and_left, either}
use Rattle.places.specs.declared.flow.FlowTable.{FlowTable}
use Rattle.places.specs.Flow.{can_go}
use Rattle.places.specs.Path.{IsLeastRoute, Quest}
use Rattle.places.proofs.LeastByPlaces.{route_there}
use Rattle.currency_writers.specs.Ways.{Comes, at_once, on}
use Rattle.currency_writers.proofs.Routes.{route_by}
use Rattle.currency_hiding.specs.Quiet.{GoesBy, at_once as directly, on as by_way}
use Rattle.image_form.specs.Form.{Form}
use Rattle.image_form.specs.Rules.{IsImage}
use Rattle.image_form.specs.RulesOfFunctions.{IsPlaceNumber}
use Rattle.image_form.specs.declared.tables.FlowPair.{FlowPair}
use Rattle.image_form.proofs.Counts.{few_records}
use Rattle.image_form_sections.specs.declared.section.Section.TheVariants.{Flow}
use Rattle.stop_engine_view.specs.Evidence.{step_of}
use Rattle.stop_engine_view.specs.HomeWrites.{disturbs}
use Rattle.stop_engine_view.specs.QuietPaths.{quiet_path, quiet_quest}
use Rattle.stop_engine_view.proofs.FlowOrder.{steps_in_order}

-- Where a step leads from a place, that is a place of the image.
goes_from : (m : Form) (pairs : List FlowPair) (p q : ℕ) → AllByRecursion (λ (s : FlowPair). IsPlaceNumber m s.from × IsPlaceNumber m s.to) pairs → can_go (map step_of pairs) p q ≡ true → 1 ≤ p
goes_from m [] p q each e = absurd cc
goes_from m (s ∷ pairs) p q each e = elim (either (s.from == p && s.to == q) (can_go (map step_of pairs) p q) e) [
  | inl here ↦ let same = eqb-true s.from p (and_left (s.from == p) (s.to == q) here) in let some = each.0.0.0 in omega (arith, same, some)
  | inr later ↦ goes_from m pairs p q each.1 later
]

-- given: an image whose steps are those of a flow, and what of that disturbs a variable, where nothing else does so in the image
module _ (m : Form) (image : IsImage m) (flow : FlowTable) (steps : map step_of m.flow ≡ flow.steps.items) (variable start : ℕ) (IsDisturbed : ℕ → Type 0)
    (clear : (place : ℕ) → place ≢ 0 → (IsDisturbed place → ⊥) → disturbs m variable place ≡ false) where
  goes : (p q : ℕ) → can_go flow.steps.items p q ≡ true → can_go (map step_of m.flow) p q ≡ true
  goes p q e = ap (λ all. can_go all p q) steps ∙ e

  some_place : (p q : ℕ) → can_go flow.steps.items p q ≡ true → p ≢ 0
  some_place p q e none = let low = goes_from m m.flow p q image.flow.each (goes p q e) in omega (arith, low, none)

  comes : {stop : ℕ} → GoesBy flow IsDisturbed start stop → Comes (map step_of m.flow) (λ p. disturbs m variable p) start stop
  comes {stop} (directly e) = at_once (goes start stop e)
  comes {stop} (by_way {p = p} path free e) = on (comes {stop = p} path) (clear p (some_place p stop e) free) (goes p stop e)

  -- THE CURRENT PATH THAT IS PRINTED is one, and the least.
  pub quiet_route : (stop : ℕ) → GoesBy flow IsDisturbed start stop → IsLeastRoute (quiet_quest m variable start stop) (quiet_path m variable start stop)
  quiet_route stop path =
      let quest : Quest = quiet_quest m variable start stop in
      let route = route_by quest (inl refl) (comes {stop = stop} path) in
      let many : length (map step_of m.flow) ≡ length m.flow = length-map m.flow step_of in
      let few = few_records m image.sizes.whole Flow in
      let found = route_there quest route.0 (steps_in_order m.flow image.flow.ascend) (omega (arith, many, few)) route.1 in
      subst (λ o. IsLeastRoute quest (unwrap_or o [])) (sym found.1) found.2
