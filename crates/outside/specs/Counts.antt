-- What a count of faults may do in a call, by the call's outcome.
use Rattle.std.specs.Prelude.{◌≡◌, ◌<◌, ◌+◌, ◌⊎◌, ℕ, min, Result, Ok, Err}
use Rattle.outside.specs.declared.shelf.ShelfErr.{ShelfErr}
use Rattle.outside.specs.declared.shelf.ShelfErr.TheVariants.{Failed, NoMemory}
use Rattle.outside.specs.declared.sink.PutErr.{PutErr}
use Rattle.outside.specs.declared.sink.PutErr.TheVariants.{Failed as PutFailed, NoMemory as NoPutMemory}

-- the greatest number that a count reaches: the greatest of 64 bits
abbrev pub greatest_count : ℕ
greatest_count = 18446744073709551615

-- one more, but no more than the greatest
abbrev pub raised : ℕ → ℕ
raised count = min (count + 1) greatest_count

-- a count after a call of a shelf: one more where the call failed
abbrev pub count_after : {A : Type 0} → ℕ → Result A ShelfErr → ℕ
count_after count (Ok x) = count
count_after count (Err NoMemory) = count
count_after count (Err Failed) = raised count

-- a count after a call of a sink: one more where the call failed
abbrev pub count_after_put : {A : Type 0} → ℕ → Result A PutErr → ℕ
count_after_put count (Ok x) = count
count_after_put count (Err NoPutMemory) = count
count_after_put count (Err PutFailed) = raised count

-- the count rose, or it stands at the greatest number and can rise no more
abbrev pub RoseOrStands : ℕ → ℕ → Type 0
RoseOrStands old new = (old < new) ⊎ ((new ≡ old) × (new ≡ greatest_count))

-- a call of a shelf leaves its count, unless it failed
abbrev pub Counts : {A : Type 0} → Result A ShelfErr → ℕ → ℕ → Type 0
Counts (Ok x) old new = new ≡ old
Counts (Err NoMemory) old new = new ≡ old
Counts (Err Failed) old new = RoseOrStands old new

-- a call of a sink leaves its count, unless it failed
abbrev pub CountsPut : {A : Type 0} → Result A PutErr → ℕ → ℕ → Type 0
CountsPut (Ok x) old new = new ≡ old
CountsPut (Err NoPutMemory) old new = new ≡ old
CountsPut (Err PutFailed) old new = RoseOrStands old new
