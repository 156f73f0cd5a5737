use Rattle.std.proofs.Common.{◌≡◌, ◌++◌, map, drop}
use Rattle.c_tree.specs.Programs.{program_view}
use Rattle.graph_build.specs.Units.{relocation_of}
use Rattle.graph_build.proofs.statics.relocations_of.Given as goal

abbrev pub invariant-loop-relocation : goal.invariant-loop-relocation
invariant-loop-relocation l =
    l.found.items ++ map (relocation_of (program_view l.program)) (drop l.relocation-index l.all) ≡ map (relocation_of (program_view l.program)) l.all
