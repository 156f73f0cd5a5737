-- What `break` marks are places of the image.
use Rattle.std.proofs.Common.{◌≡◌, ℕ, suc, ◌+◌, ◌<◌, ◌≤◌, Bool, true, false, Option, Some, None, List, [], ◌∷◌, All, length, get_or, map, refl, sym, subst, arith}
use Rattle.std.specs.List.{AllByRecursion}
use Rattle.std.specs.Option.{option_map_or}
use Rattle.std.proofs.lemmas.List.{get_or-map, length-map}
use Rattle.std.proofs.lemmas.Option.{slice_get-get_or}
use Rattle.debug_records.specs.declared.change.Place.{Place as Mark}
use Rattle.image_form.specs.Form.{Form}
use Rattle.image_form.specs.Rules.{IsImage}
use Rattle.image_form.specs.RulesOfFunctions.{IsPlaceNumber}
use Rattle.image_form.specs.declared.tables.FlowPair.{FlowPair}
use Rattle.image_form.specs.declared.tables.Function.{Function}
use Rattle.image_form.specs.declared.tables.Place.{Place}
use Rattle.image_form.proofs.TableLaws.{each_at}
use Rattle.script_form.specs.Script as script
use Rattle.stop_engine.specs.Breaks.{break_places, first_place, followers, function_called, is_stop_on, least_of, one_or_none, stops_on}
use Rattle.stop_engine.proofs.Followers.{AtMost, least-within}

wider : (a b : ℕ) (xs : List ℕ) → a ≤ b → AllByRecursion (λ p. p < a) xs → AllByRecursion (λ p. p < b) xs
wider a b [] le all = tt
wider a b (x ∷ xs) le all = (omega (arith, le, all.0), wider a b xs le all.1)

stops-within : (m : Form) (line number : ℕ) (ps : List Place) → AllByRecursion (λ p. p < number + length ps) (stops_on m line number ps)
stops-within m line number [] = tt
stops-within m line number (p ∷ ps) = by_test (is_stop_on m line p) refl (wider (number + 1 + length ps) (number + suc (length ps)) (stops_on m line (number + 1) ps) (omega arith) (stops-within m line (number + 1) ps))
  where
    by_test : (b : Bool) → is_stop_on m line p ≡ b → AllByRecursion (λ q. q < number + suc (length ps)) (stops_on m line (number + 1) ps) → AllByRecursion (λ q. q < number + suc (length ps)) (stops_on m line number (p ∷ ps))
    by_test true t rest = rw t (omega arith, rest)
    by_test false t rest = rw t rest

flow-within : (m : Form) (pairs : List FlowPair) → AllByRecursion (λ (p : FlowPair). IsPlaceNumber m p.from × IsPlaceNumber m p.to) pairs → AllByRecursion (λ (p : FlowPair). p.to < length m.places + 1) pairs
flow-within m [] all = tt
flow-within m (p ∷ pairs) all = (omega (arith, all.0.1.1), flow-within m pairs all.1)

one-within : (most : ℕ) (o : Option ℕ) → AtMost most o → AllByRecursion (λ p. p < most) (one_or_none o)
one-within most None h = tt
one-within most (Some x) h = (h, tt)

first-within : (m : Form) (o : Option Function) → IsImage m → AtMost (length m.places + 1) (option_map_or (λ (f : Function). least_of (followers f.entry m.flow)) o None)
first-within m None image = tt
first-within m (Some f) image = least-within f.entry (length m.places + 1) m.flow (flow-within m m.flow image.flow.each)

break-within : (m : Form) (mark : script.Mark) → IsImage m → AllByRecursion (λ p. p < length m.places + 1) (break_places m mark)
break-within m (script.OnLine line) image = wider (1 + length m.places) (length m.places + 1) (stops_on m line 1 m.places) (omega arith) (stops-within m line 1 m.places)
break-within m (script.InFunction name) image = one-within (length m.places + 1) (first_place m name) (first-within m (function_called m name 0 m.functions) image)

-- places with these numbers are within the bound of the marks
pub marks-within : (m : Form) (mark : script.Mark) (places : List Mark) (bound : ℕ) → IsImage m → map (λ (p : Mark). p.0) places ≡ break_places m mark → bound ≡ length m.places + 1 → All (λ (p : Mark). p.0 < bound) places
marks-within m mark places bound image is e k d lt =
    let number : Mark → ℕ = λ (p : Mark). p.0 in
    let there : k < length (map number places) = omega (arith, lt, length-map places number) in
    let all = subst (AllByRecursion (λ p. p < length m.places + 1)) (sym is) (break-within m mark image) in
    let less : get_or (map number places) k 0 < length m.places + 1 = each_at (λ p. p < length m.places + 1) (map number places) k (get_or (map number places) k 0) all (slice_get-get_or (map number places) k 0 there) in
    let same : get_or (map number places) k 0 ≡ (get_or places k d).0 = get_or-map number places k d 0 lt in
    omega (arith, less, same, e)
