use Rattle.std.proofs.Common.{◌≡◌, map, drop}
use Rattle.c_meaning_values.specs.Views.{owner_view, object_view}
use Rattle.c_meaning_values.specs.Living.{owned_among}
use Rattle.c_meaning_values.proofs.memory.owned_among.Given as goal

abbrev pub invariant-loop-number : goal.invariant-loop-number
invariant-loop-number l =
    owned_among (owner_view l.owner) (map object_view l.memory) (drop l.number-index l.numbers) ≡ owned_among (owner_view l.owner) (map object_view l.memory) l.numbers
