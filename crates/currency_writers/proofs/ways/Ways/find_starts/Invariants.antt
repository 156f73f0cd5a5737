use Rattle.std.proofs.Common.{◌≡◌, take}
use Rattle.std.specs.Prelude.{All}
use Rattle.currency_writers.specs.Flooding.{AreStartsOf, IsShut}
use Rattle.currency_writers.specs.Marks.{room_of}
use Rattle.currency_writers.proofs.Flooding.{AreBelowRest, IsLeastOf}
use Rattle.currency_writers.proofs.ways.Ways.find_starts.Given as goal

abbrev pub invariant-loop-place : goal.invariant-loop-place
invariant-loop-place l = record {
  starts : AreStartsOf l.self l.from l.starts;
  shut : IsShut l.self l.starts;
  below : AreBelowRest l.self l.starts l.from l.place-index;
  least : All (λ s. IsLeastOf l.self l.starts s) (take l.place-index l.from);
  room : room_of l.starts ≡ room_of l.fn.starts;
}
