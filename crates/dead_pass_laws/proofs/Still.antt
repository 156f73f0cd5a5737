-- What a note says after, and what it said before.
use Rattle.std.proofs.Common.{◌≡◌, ℕ, Bool, true, false, List}
use Rattle.std.specs.Prelude.{◌==◌, if◌then◌else◌}
use Rattle.graph_core.specs.declared.value.Value.{Value}
use Rattle.graph_core.specs.declared.value.Shadow.{Shadow}
use Rattle.graph_core.specs.Graphs.{Recipe, NoteValue, Is, Gone, StaticObject}
use Rattle.graph_core.specs.Runs.{with_value_at, recipe_value}
use Rattle.pass_law.specs.Keeps.{StaysOrGoes}
use Rattle.dead_pass_laws.proofs.Related.{AreStill}

-- Where a note says a value, it says the value that it said before; or it says that it is gone.
pub data SaysStill (statics : List StaticObject) (names others : ℕ → Value) : NoteValue → NoteValue → Type 0 where
  is_gone : {v : NoteValue} {change : ℕ} → SaysStill statics names others v (Gone change)
  is_same : {r s : Recipe} → recipe_value statics others s ≡ recipe_value statics names r → SaysStill statics names others (Is r) (Is s)

-- One shadow more stays or is gone.
pub put_still : (shadows others : ℕ → Shadow) (x : ℕ) (s t : Shadow) → AreStill shadows others → StaysOrGoes s t → AreStill (with_value_at shadows x s) (with_value_at others x t)
put_still shadows others x s t still one y = by_test (y == x)
  where
    by_test : (b : Bool) → StaysOrGoes (if b then s else shadows y) (if b then t else others y)
    by_test true = one
    by_test false = still y
