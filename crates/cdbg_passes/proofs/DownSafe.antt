-- Where the rule of code motion does not call a computation unsafe, it is down-safe.
use Rattle.std.proofs.Common.{◌≡◌, ◌⊎◌, inl, inr, ℕ, Bool, true, false, List, [], ◌∷◌, refl}
use Rattle.std.specs.List.{list_any}
use Rattle.std.proofs.lemmas.Bool.{cases_Bool, or_left, or_right}
use Rattle.graph_core.specs.Graphs.{Instruction, End, Jump, Branch, Return, Graph}
use Rattle.graph_core.specs.Computations.{Computation, operands_of}
use Rattle.graph_core.specs.Paths.{Passed, History, Among, front, behind, Way, stays, passes, goes, writes}
use Rattle.pass_law.specs.Earned.{IsDownSafe, StopsIt, WasComputed, latest, earlier}
use Rattle.motion_pass_points.specs.Computing.{does}
use Rattle.motion_pass_points.specs.Ways.{within, leaves, enters, passes as passes_it, IsUnsafe, ends, spoiled, ahead}
use Rattle.motion_pass_points.proofs.Keys.{it_does}

-- what some test of a list finds
some_found : (test : ℕ → Bool) (xs : List ℕ) (y : ℕ) → Among y xs → test y ≡ true → list_any test xs ≡ true
some_found test [] y among it = elim among [ ]
some_found test (y ∷ xs) _ front it = or_left (test y) (list_any test xs) it
some_found test (x ∷ xs) y (behind later) it = or_right (test x) (list_any test xs) (some_found test xs y later it)

module _ (g : Graph) (e : Computation) where
  -- nothing that was passed did it
  data IsUndone : History → Type 0 where
    nothing : IsUndone []
    one_more : {i : Passed} {h : History} → does e i.instruction ≡ false → IsUndone h → IsUndone (i ∷ h)

  was_or_undone : (h : History) → WasComputed e h ⊎ IsUndone h
  was_or_undone [] = inr nothing
  was_or_undone (i ∷ h) = elim (cases_Bool (does e i.instruction)) [
    | inl it ↦ inl (latest (it_does e i.instruction it))
    | inr not ↦ elim (was_or_undone h) [ inl was ↦ inl (earlier was) | inr undone ↦ inr (one_more not undone) ]
  ]

  -- Back along a way that did not do it it is unsafe.
  way_unsafe : {n : ℕ} {rest : List Instruction} {end : End} {h : History} {m : ℕ} {left : List Instruction} {f : End} → Way g n rest end h m left f → IsUndone h → IsUnsafe g.blocks e (within m left f) → IsUnsafe g.blocks e (within n rest end)
  way_unsafe stays undone unsafe = unsafe
  way_unsafe (passes way v) (one_more not undone) unsafe = way_unsafe way undone (ahead not passes_it unsafe)
  way_unsafe (goes way among b at) undone unsafe = way_unsafe way undone (ahead refl (leaves among) (ahead refl (enters b at) unsafe))

  -- What stops it makes it unsafe.
  stops_unsafe : (m : ℕ) (left : List Instruction) (f : End) → StopsIt e left f → IsUnsafe g.blocks e (within m left f)
  stops_unsafe m [] (Return a) stops = ends
  stops_unsafe m [] (Jump l) stops = absurd stops
  stops_unsafe m [] (Branch c a b l k) stops = absurd stops
  stops_unsafe m (i ∷ rest) f stops = spoiled undone (some_found (λ y. writes y i) (operands_of e) stops.1 stops.2 stops.3)
    where
      undone : does e i ≡ false
      undone = elim (cases_Bool (does e i)) [ inl it ↦ absurd (stops.0 (it_does e i it)) | inr not ↦ not ]

  -- WHERE IT IS NOT UNSAFE IT IS DOWN-SAFE.
  pub down_safe : (n : ℕ) (rest : List Instruction) (end : End) → (IsUnsafe g.blocks e (within n rest end) → ⊥) → IsDownSafe g e n rest end
  down_safe n rest end safe h m left f way stops = elim (was_or_undone h) [
    | inl was ↦ was
    | inr undone ↦ absurd (safe (way_unsafe way undone (stops_unsafe m left f stops)))
  ]
