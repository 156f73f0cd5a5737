use Rattle.std.proofs.Common.{◌≡◌, length}
use Rattle.currency.proofs.OnRows.{AreSlottedTo}
use Rattle.currency.proofs.rows.put_slots.Given as goal

abbrev pub invariant-loop-k : goal.invariant-loop-k
invariant-loop-k l = record { slotted : AreSlottedTo l.told l.slots l.k; count : length l.slots ≡ length l.fn.slots }
