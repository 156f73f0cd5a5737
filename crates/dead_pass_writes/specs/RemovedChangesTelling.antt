-- What is told of the changes of a log by which assignments went.
use Rattle.std.specs.Prelude.{◌≡◌, ℕ, ◌+◌, ◌==◌, ◌&&◌, Bool, if◌then◌else◌, Option, Some, None, List, [], ◌∷◌}
use Rattle.std.specs.BTreeMap as tree
use Rattle.debug_records.specs.Change.{is_taken}
use Rattle.graph_core.specs.Graphs.{Logged}
use Rattle.dead_pass_writes.specs.Telling.{pair_cmp}
use Rattle.dead_pass_writes.specs.declared.removed.Removals.{Removals}
use Rattle.dead_pass_writes.specs.declared.removed.RemovedChanges.{RemovedChanges}

-- what is told of a variable in a place
abbrev pub told : RemovedChanges → (p v : ℕ) → Option Removals
told removed p v = tree.get pair_cmp removed.all (p, v)

-- the first of them, where one of this number is behind it, or is the first
abbrev pub first_with : Option Removals → (number : ℕ) → ℕ
first_with None number = number
first_with (Some was) number = was.first

-- what is told behind a change
abbrev pub with_removal : (is_one : Bool) → (number : ℕ) → Option Removals → Option Removals
with_removal is_one number was = if is_one then Some (record { first = first_with was number; last = number }) else was

-- what is told behind changes, where so many came before them
abbrev pub removals_by : (p v : ℕ) → Option Removals → (count : ℕ) → List Logged → Option Removals
removals_by p v was count [] = was
removals_by p v was count (c ∷ more) =
    removals_by p v (with_removal (is_taken c.kind && (c.place == p && c.variable == v)) (count + 1) was) (count + 1)
    more

-- The changes of a log are told.
abbrev pub AreToldOf : List Logged → RemovedChanges → Type 0
AreToldOf log removed = (p v : ℕ) → told removed p v ≡ removals_by p v None 0 log

-- the first and the last number, if there is one
abbrev pub first_of : Option Removals → Option ℕ
first_of None = None
first_of (Some r) = Some r.first

abbrev pub last_of : Option Removals → Option ℕ
last_of None = None
last_of (Some r) = Some r.last
