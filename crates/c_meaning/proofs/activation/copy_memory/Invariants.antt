use Rattle.std.proofs.Common.{◌≡◌, map, take}
use Rattle.c_meaning_values.specs.Views.{object_view}
use Rattle.c_meaning.proofs.activation.copy_memory.Given as goal

abbrev pub invariant-loop-object : goal.invariant-loop-object
invariant-loop-object l = map object_view l.copies.items ≡ map object_view (take l.object-index l.memory)
