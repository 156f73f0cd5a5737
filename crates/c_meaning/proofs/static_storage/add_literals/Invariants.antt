use Rattle.std.proofs.Common.{◌≡◌, ◌++◌, map, take}
use Rattle.c_tree.specs.Programs.{literal_view}
use Rattle.c_meaning_values.specs.Views.{object_view}
use Rattle.c_meaning.specs.StaticStorage.{literal_objects}
use Rattle.c_meaning.proofs.static_storage.add_literals.Given as goal

abbrev pub invariant-loop-number : goal.invariant-loop-number
invariant-loop-number l =
    map object_view l.memory.all.items ≡ map object_view l.fn.memory.all.items ++ literal_objects 0 (take l.number (map literal_view l.literals))
