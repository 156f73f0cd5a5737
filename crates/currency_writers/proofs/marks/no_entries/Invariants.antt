use Rattle.std.proofs.Common.{◌≡◌, length}
use Rattle.currency_writers.specs.Entries.{AreUpTo}
use Rattle.currency_writers.proofs.marks.no_entries.Given as goal

abbrev pub invariant-loop-made : goal.invariant-loop-made
invariant-loop-made g l = record { up_to : AreUpTo 0 l.entries.items; count : length l.entries.items ≡ l._made }
