use Rattle.std.specs.Prelude.{All}
use Rattle.std.proofs.Common.{◌≡◌, ◌≢◌, None, take}
use Rattle.currency_writers.specs.Marks.{mark_at, room_of}
use Rattle.currency_writers.specs.Flooding.{AreMoreBefore, IsBefore, IsReachedFrom}
use Rattle.currency_writers.proofs.ways.Ways.go_on.Given as goal

abbrev pub invariant-loop-place : goal.invariant-loop-place
invariant-loop-place g l = record {
  told : IsReachedFrom l.self l.from l.value l.fn.told l.told;
  ahead : All (λ q. IsBefore l.self l.from q) l.ahead.items;
  more : AreMoreBefore l.self l.fn.told l.told l.fn.ahead.items l.ahead.items;
  next : All (λ q. mark_at l.told q ≢ None) (take l.place-index l.place-items);
  room : room_of l.told ≡ room_of l.fn.told;
}
