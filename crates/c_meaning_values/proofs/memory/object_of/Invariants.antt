use Rattle.std.proofs.Common.{◌≡◌, ◌+◌, map, drop}
use Rattle.std.specs.Prelude.{option_map}
use Rattle.c_meaning_values.specs.Views.{owner_view, object_view}
use Rattle.c_meaning_values.specs.Memory.{object_of}
use Rattle.c_meaning_values.proofs.memory.object_of.Given as goal

abbrev pub invariant-loop-n : goal.invariant-loop-n
invariant-loop-n l =
    option_map (λ k. l.n + k) (object_of (owner_view l.owner) (drop l.n (map object_view l.memory))) ≡ object_of (owner_view l.owner) (map object_view l.memory)
