use Rattle.std.proofs.Common.{◌≡◌, drop}
use Rattle.c_tree.specs.Programs.{program_view}
use Rattle.c_meaning.specs.StaticStorage.{address_at}
use Rattle.c_meaning.proofs.static_storage.address_at.Given as goal

abbrev pub invariant-loop-relocation : goal.invariant-loop-relocation
invariant-loop-relocation l =
    address_at (program_view l.program) (drop l.relocation-index l.relocations) l.place ≡ address_at (program_view l.program) l.relocations l.place
