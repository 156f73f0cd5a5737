-- Homes: what they hold along a path, for which name, and the note that holds on all paths to a place.
use Rattle.std.specs.Prelude.{◌≡◌, ℕ, ◌==◌, ◌||◌, Bool, false, if◌then◌else◌, Option, Some, None, List, [], ◌∷◌}
use Rattle.graph_homes.specs.declared.home.Home.{Home}
use Rattle.graph_homes.specs.declared.home.Home.TheVariants.{Register, Slot}
use Rattle.graph_core.specs.declared.value.Value.{Value}
use Rattle.graph_core.specs.Graphs.{Recipe, Is, Instruction, Marker, Binding, ToScalar, ToObject, Graph, End}
use Rattle.graph_core.specs.Uses.{target_of, names_in}
use Rattle.graph_core.specs.Paths.{History, Among, Path, notes, last_note}

-- two homes are one
abbrev pub is_same_home : Home → Home → Bool
is_same_home (Register r) (Register q) = r == q
is_same_home (Slot m) (Slot n) = m == n
is_same_home _ _ = false

-- the name of an option is kept in a home
abbrev pub is_home_of : (ℕ → Home) → Home → Option ℕ → Bool
is_home_of home k None = false
is_home_of home k (Some x) = is_same_home (home x) k

-- one home holds another value
abbrev pub put_home : (Home → Value) → Home → Value → Home → Value
put_home holds k v j = if is_same_home j k then v else holds j

-- the home of a name, if there is one, takes a value
abbrev pub home_by : (ℕ → Home) → Option ℕ → Value → (Home → Value) → Home → Value
home_by home None v holds = holds
home_by home (Some x) v holds = put_home holds (home x) v

-- What homes hold behind a history: each instruction writes the home of its target.
abbrev pub homes_behind : (ℕ → Home) → (Home → Value) → History → Home → Value
homes_behind home holds [] = holds
homes_behind home holds (i ∷ h) = home_by home (target_of i.instruction) i.wrote (homes_behind home holds h)

-- the scalar for which the binding of parameters last wrote a home
abbrev pub bound_last : (ℕ → Home) → Home → List Binding → Option ℕ → Option ℕ
bound_last home k [] before = before
bound_last home k (ToScalar x ∷ more) before =
    bound_last home k more (if is_same_home (home x) k then Some x else before)
bound_last home k (ToObject object ∷ more) before = bound_last home k more before

-- The name for which a home was last written.
abbrev pub last_writer : (ℕ → Home) → List Binding → Home → History → Option ℕ
last_writer home parameters k [] = bound_last home k parameters None
last_writer home parameters k (i ∷ h) =
    if is_home_of home k (target_of i.instruction) then target_of i.instruction else last_writer home parameters k h

-- a home was written behind the last note of a scalar
abbrev pub written_since : (ℕ → Home) → ℕ → Home → History → Bool
written_since home x k [] = false
written_since home x k (i ∷ h) =
    if notes x i.instruction then false else is_home_of home k (target_of i.instruction) || written_since home x k h

-- On this path a recipe is a scalar's last note, and the home of each name in it was last written for that name, before
-- the note.
pub record Holds (home : ℕ → Home) (g : Graph) (x : ℕ) (r : Recipe) (h : History) : Type 0 where
  pub note : last_note x h ≡ Some (Is r)
  pub own : (y : ℕ) → Among y (names_in r) → last_writer home g.parameters (home y) h ≡ Some y
  pub before : (y : ℕ) → Among y (names_in r) → written_since home x (home y) h ≡ false

-- The recipe that gives a scalar's value at a place: it holds on every path from the function's entry to the place's
-- marker.
abbrev pub HoldsOnAllPaths : (ℕ → Home) → Graph → (place x : ℕ) → Recipe → Type 0
HoldsOnAllPaths home g p x r =
    (h : History) (n : ℕ) (rest : List Instruction) (e : End) → Path g h n (Marker p ∷ rest) e → Holds home g x r h
