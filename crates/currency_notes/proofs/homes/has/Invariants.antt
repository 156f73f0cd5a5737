use Rattle.std.proofs.Common.{◌≢◌, ℕ, ◌≤◌, length, take}
use Rattle.graph_core.specs.Paths.{Among}
use Rattle.currency_notes.proofs.homes.has.Given as goal

abbrev pub invariant-loop-entry : goal.invariant-loop-entry
invariant-loop-entry l = record {
  within : l.entry-index ≤ length l.entries;
  none : (a : ℕ) → Among a (take l.entry-index l.entries) → a ≢ l.wanted;
}
