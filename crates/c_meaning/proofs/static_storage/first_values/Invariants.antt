use Rattle.std.proofs.Common.{◌≡◌}
use Rattle.c_tree.specs.Programs.{program_view, static_view}
use Rattle.c_places.specs.Places.{numbers_from}
use Rattle.c_meaning_values.specs.Types.{element_scalar}
use Rattle.c_meaning.specs.StaticStorage.{first_values}
use Rattle.c_meaning.proofs.static_storage.first_values.Given as goal

abbrev pub invariant-loop-index : goal.invariant-loop-index
invariant-loop-index l = l.values.items ≡ first_values (program_view l.program) (static_view l.variable) (element_scalar l.variable.of) (numbers_from 0 l.index)
