use Rattle.std.specs.Prelude.{All}
use Rattle.std.proofs.Common.{◌≡◌, ◌-◌, [], ◌∷◌, take}
use Rattle.currency_writers.specs.Marks.{room_of}
use Rattle.currency_writers.specs.Flooding.{AreMoreBefore, AreNextReached, IsBefore, IsReachedFrom}
use Rattle.currency_writers.proofs.ways.Ways.flood.Given as goal

abbrev pub invariant-loop-at : goal.invariant-loop-at
invariant-loop-at g l = record {
  told : IsReachedFrom l.self l.from l.value l.fn.told l.told;
  ahead : All (λ q. IsBefore l.self l.from q) l.ahead.items;
  more : AreMoreBefore l.self l.fn.told l.told (l.from ∷ []) l.ahead.items;
  done : All (λ q. AreNextReached l.self q l.told) (take l.at l.ahead.items);
  room : room_of l.told ≡ room_of l.fn.told;
}

abbrev pub decreases-loop-at : goal.decreases-loop-at
decreases-loop-at g l = 18446744073709551615 - l.at
