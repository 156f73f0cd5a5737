-- The changes of a log by their variables.
use Rattle.std.specs.Prelude.{◌≡◌, ℕ, ◌+◌, ◌-◌, ◌<◌, ◌≤◌, Option, Some, List, [], ◌∷◌, All, AllPairs, Contains, map, slice_get}
use Rattle.debug_records.specs.declared.change.Change.{Change}
use Rattle.debug_records.specs.Change.{letters}
use Rattle.debug_records.specs.Numbers.{AreNumbered}
use Rattle.debug_records.specs.declared.change.Kind.{Kind}
use Rattle.debug_records.specs.declared.change.Kind.TheVariants.{Removed, Moved, Reused, Replaced, Sunk}
use Rattle.graph_core.specs.Graphs.{Logged, logged}
use Rattle.currency_writers.specs.Lists.{entries_of}
use Rattle.currency_hiding.specs.declared.changes.Changes as declared-changes

-- The change of a number in a log: numbers go from 1.
pub record IsNumbered (log : List Logged) (number : ℕ) (change : Logged) : Type 0 where
  pub some : 1 ≤ number
  pub is : slice_get log (number - 1) ≡ Some change

-- the changes as contracts see them
abbrev pub log_of : declared-changes.Changes → List Logged
log_of c = map logged c.all.now

-- Each change has its number, and that is in the list of its variable; the numbers of a list ascend.
pub record AreListed (c : declared-changes.Changes) : Type 0 where
  pub numbers : AreNumbered c.all.now
  pub listed : (k : ℕ) (d : Change) → slice_get c.all.now k ≡ Some d
      → Contains (entries_of c.by_variable d.var.0) (k + 1)
  pub ordered : (variable : ℕ) → AllPairs (λ m n. m < n) (entries_of c.by_variable variable)

-- the change of a number, of those that are listed
pub record IsListed (c : declared-changes.Changes) (number : ℕ) (d : Change) : Type 0 where
  pub some : 1 ≤ number
  pub is : slice_get c.all.now (number - 1) ≡ Some d

-- The kind by whose evidence a change hides a variable: where an assignment sank from, it is missing as where one was
-- removed.
abbrev pub hides_as : Kind → Kind
hides_as Removed = Removed
hides_as Moved = Moved
hides_as Reused = Reused
hides_as Replaced = Replaced
hides_as Sunk = Removed

-- These are the changes of a variable that hide it as those of one kind do, in order: each is one, with its number, and
-- all are among them.
pub record AreFound (c : declared-changes.Changes) (variable : ℕ) (kind : Kind) (found : List Change) : Type 0 where
  pub each : All (λ (d : Change). IsListed c d.number d × (d.var.0 ≡ variable) × (hides_as d.kind ≡ kind)) found
  pub all : (number : ℕ) (d : Change) → IsListed c number d → d.var.0 ≡ variable → hides_as d.kind ≡ kind
      → Contains found d
  pub ordered : AllPairs (λ (d e : Change). d.number < e.number) found

-- the name by which the assignment of homes logs its changes: homes
abbrev pub homes_name : List ℕ
homes_name = 104 ∷ 111 ∷ 109 ∷ 101 ∷ 115 ∷ []

-- By the change of a number the assignment of homes gave the register of a variable to other names too.
pub record IsSharing (c : declared-changes.Changes) (variable number : ℕ) : Type 0 where
  pub change : Change
  pub is : IsListed c number change
  pub of : change.var.0 ≡ variable
  pub reused : change.kind ≡ Reused
  pub named : letters change.pass ≡ homes_name

-- It is the last change by which that was so.
pub record IsLastSharing (c : declared-changes.Changes) (variable number : ℕ) : Type 0 where
  pub is : IsSharing c variable number
  pub last : (other : ℕ) → IsSharing c variable other → other ≤ number

-- There is a number, and it is not below another one.
pub record IsNotBefore (n : ℕ) (o : Option ℕ) : Type 0 where
  pub last : ℕ
  pub is : o ≡ Some last
  pub le : n ≤ last
