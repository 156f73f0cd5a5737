-- Computations by their numbers.
use Rattle.std.specs.Prelude.{◌≡◌, ℕ, suc, ◌+◌, Bool, if◌then◌else◌, Option, Some, None, List, [], ◌∷◌, ◌++◌, map, slice_get}
use Rattle.std.specs.BTreeMap.{BTreeMap, get}
use Rattle.std.specs.Ordering.{nat_cmp, ordering_then}
use Rattle.std.specs.declared.cmp.Ordering.{Ordering}
use Rattle.graph_core.specs.Graphs.{Block}
use Rattle.graph_core.specs.Computations.{Computation}
use Rattle.motion_pass_points.specs.declared.computations.Computations.{Computations}
use Rattle.motion_pass_points.specs.Computing.{key_of}
use Rattle.motion_pass_points.specs.MotionPointsComputing.{computation_view, computed_along}

-- what the blocks compute that are told, in order; the first of them has this number
abbrev pub computed_in : (told : ℕ → Bool) (n : ℕ) → List Block → List Computation
computed_in told n [] = []
computed_in told n (b ∷ more) = (if told n then computed_along b.instructions else []) ++ computed_in told (n + 1) more

-- Each of a list once, in the order in which they come in it first.
pub data AreOnce {A : Type 0} : (list once : List A) → Type 0 where
  none : AreOnce [] []
  again : {list once : List A} {a : A} (k : ℕ) → AreOnce list once → slice_get once k ≡ Some a
      → AreOnce (list ++ a ∷ []) once
  first : {list once : List A} {a : A} → AreOnce list once → ((k : ℕ) → slice_get once k ≡ Some a → ⊥)
      → AreOnce (list ++ a ∷ []) (once ++ a ∷ [])

-- the computations of a list of them
abbrev pub views_of : Computations → List Computation
views_of c = map computation_view c.all.items

abbrev pub Key : Type 0
Key = ℕ × ((ℕ × (ℕ × ℕ)) × (ℕ × (ℕ × ℕ)))

abbrev pub three_cmp : ℕ × (ℕ × ℕ) → ℕ × (ℕ × ℕ) → Ordering
three_cmp k q = ordering_then (nat_cmp k.0 q.0) (ordering_then (nat_cmp k.1.0 q.1.0) (nat_cmp k.1.1 q.1.1))

-- the order of keys
abbrev pub key_cmp : Key → Key → Ordering
key_cmp k q = ordering_then (nat_cmp k.0 q.0) (ordering_then (three_cmp k.1.0 q.1.0) (three_cmp k.1.1 q.1.1))

-- Each computation is found by its key with its number, and nothing else is found.
pub record AreNumbersOf (all : List Computation) (find : Key → Option ℕ) : Type 0 where
  pub each : (k : ℕ) (e : Computation) → slice_get all k ≡ Some e → find (key_of e) ≡ Some k
  pub only : (q : Key) (k : ℕ) → find q ≡ Some k → (e : Computation) × (slice_get all k ≡ Some e) × (key_of e ≡ q)

abbrev pub AreNumbers : Computations → Type 0
AreNumbers c = AreNumbersOf (views_of c) (get key_cmp c.numbers)

-- what is computed has this number among them; it has none where it is not one of them
abbrev pub IsNumberOf : List Computation → Option Computation → Option ℕ → Type 0
IsNumberOf all done (Some k) = (e : Computation) × (done ≡ Some e) × (slice_get all k ≡ Some e)
IsNumberOf all done None = (e : Computation) (k : ℕ) → done ≡ Some e → slice_get all k ≡ Some e → ⊥
