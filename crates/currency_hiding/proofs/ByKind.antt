-- The kinds by whose evidence changes hide a variable.
use Rattle.std.proofs.Common.{◌≡◌, true, false, true≢false, refl, sym}
use Rattle.debug_records.specs.Change.{is_taken}
use Rattle.debug_records.specs.declared.change.Kind.{Kind}
use Rattle.debug_records.specs.declared.change.Kind.TheVariants.{Removed, Moved, Reused, Replaced, Sunk}
use Rattle.currency_hiding.specs.Changes.{hides_as}

pub taken_by : (k : Kind) → hides_as k ≡ Removed → is_taken k ≡ true
taken_by Removed e = refl
taken_by Moved e = absurd cc
taken_by Reused e = absurd cc
taken_by Replaced e = absurd cc
taken_by Sunk e = refl

pub by_taken : (k : Kind) → is_taken k ≡ true → hides_as k ≡ Removed
by_taken Removed e = refl
by_taken Moved e = absurd (true≢false (sym e))
by_taken Reused e = absurd (true≢false (sym e))
by_taken Replaced e = absurd (true≢false (sym e))
by_taken Sunk e = refl

pub moved_by : (k : Kind) → hides_as k ≡ Moved → k ≡ Moved
moved_by Removed e = absurd cc
moved_by Moved e = refl
moved_by Reused e = absurd cc
moved_by Replaced e = absurd cc
moved_by Sunk e = absurd cc

pub reused_by : (k : Kind) → hides_as k ≡ Reused → k ≡ Reused
reused_by Removed e = absurd cc
reused_by Moved e = absurd cc
reused_by Reused e = refl
reused_by Replaced e = absurd cc
reused_by Sunk e = absurd cc
