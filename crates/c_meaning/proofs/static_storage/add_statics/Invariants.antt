use Rattle.std.proofs.Common.{◌≡◌, ◌++◌, map, take}
use Rattle.c_tree.specs.Programs.{program_view, static_view}
use Rattle.c_meaning_values.specs.Views.{object_view}
use Rattle.c_meaning.specs.StaticStorage.{static_objects}
use Rattle.c_meaning.proofs.static_storage.add_statics.Given as goal

abbrev pub invariant-loop-number : goal.invariant-loop-number
invariant-loop-number l =
    map object_view l.memory.all.items ≡ map object_view l.fn.memory.all.items ++ static_objects (program_view l.program) 0 (take l.number (map static_view l.program.statics.items))
