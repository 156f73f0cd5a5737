use Rattle.std.proofs.Common.{◌≡◌, take}
use Rattle.std.specs.Prelude.{All}
use Rattle.debug_records.specs.declared.change.Change.{Change}
use Rattle.currency_writers.specs.Marks.{room_of}
use Rattle.currency_hiding.specs.Found.{IsOwn}
use Rattle.currency_hiding.proofs.Asked.{AreOwnOnly}
use Rattle.currency_hiding.proofs.function.Function.mark_own.Given as goal

abbrev pub invariant-loop-change : goal.invariant-loop-change
invariant-loop-change l = record {
  writers : l.self.writers ≡ l.fn.self.writers;
  copies : l.self.copies ≡ l.fn.self.copies;
  scalar : l.self.scalar ≡ l.fn.self.scalar;
  written : l.self.written ≡ l.fn.self.written;
  marked : All (λ (d : Change). IsOwn l.self d.place.0) (take l.change-index l.moved);
  only : AreOwnOnly l.self l.moved;
  room : room_of l.self.own ≡ room_of l.fn.self.own;
}
