-- Variables of which some are kept in memory.
use Rattle.std.proofs.Common.{◌≡◌, ◌<◌, ◌≤◌, ℕ, zero, suc, List, [], ◌∷◌, length, get_or, set, true, refl, ap, arith}
use Rattle.std.specs.Prelude.{map}
use Rattle.c_tree.specs.declared.program.AutomaticVariable.{AutomaticVariable}
use Rattle.c_tree.specs.Programs.{AutomaticTree, automatic_view}
use Rattle.c_type_bounds.specs.Bounds.{with_one_in_memory}

-- one that is marked
abbrev pub marked : AutomaticVariable → AutomaticVariable
marked v = record { name = v.name; spot = v.spot; of = v.of; in_memory = true }

pub kept_view : (vs : List AutomaticVariable) (k : ℕ) (d : AutomaticVariable) → k < length vs → map automatic_view (set vs k (marked (get_or vs k d))) ≡ with_one_in_memory k (map automatic_view vs)
kept_view [] k d lt = absurd (omega (arith, lt))
kept_view (x ∷ vs) zero d lt = refl
kept_view (x ∷ vs) (suc k) d lt = ap (λ ys. automatic_view x ∷ ys) (kept_view vs k d (omega (arith, lt)))

-- none is there
pub kept_past : (vs : List AutomaticTree) (k : ℕ) → length vs ≤ k → with_one_in_memory k vs ≡ vs
kept_past [] k h = refl
kept_past (v ∷ vs) zero h = absurd (omega (arith, h))
kept_past (v ∷ vs) (suc k) h = ap (λ ys. v ∷ ys) (kept_past vs k (omega (arith, h)))
