-- Each event of a well-formed program's run is as is said of events: its stops are at its places, with the variables that are visible there, and its status is an int.
use Rattle.std.proofs.Common.{ℕ, List, [], ◌++◌, map, refl}
use Rattle.std.specs.List.{AllByRecursion}
use Rattle.c_tree.specs.Programs.{LiteralTree, ProgramTree}
use Rattle.c_meaning.specs.Runs.{source_run}
use Rattle.c_type_laws.specs.Laws.{IsWellFormed}
use Rattle.graph_core.specs.Graphs.{UnitForm}
use Rattle.graph_build.specs.Units.{IsUnitOf, graphs_from, literal_of, room_of, static_of}
use Rattle.graph_build_runs.specs.Correspondence.{AreBytes}
use Rattle.graph_build_laws.proofs.Program.{does_program}
use Rattle.image_build.specs.Sources.{IsEventOf}
use Rattle.image_build.proofs.Events.{events_by_unit}

-- a unit that has the code that the forms give, and neither flow nor assignments
unit_for : ProgramTree → UnitForm
unit_for p =
    record { graphs = graphs_from p 0 p.functions; main = p.main; statics = map (static_of p) p.statics ++ map literal_of p.literals; array_bytes = map (λ (l : LiteralTree). l.bytes) p.array_literals; steps = []; assignments = []; log = []; room = room_of p }

is_unit_for : (p : ProgramTree) → IsUnitOf p (unit_for p)
unfolding unit_for
is_unit_for p = record { graphs = refl; main = refl; statics = refl; array_bytes = refl; log = refl; room = refl }

-- So is each event of a well-formed program's run, on each input of bytes, for each number of turns.
pub source_events : (p : ProgramTree) → IsWellFormed p → (input : List ℕ) → AreBytes input → (turns : ℕ) → AllByRecursion (IsEventOf p) (source_run p input turns).events
source_events p well = events_by_unit p (unit_for p) (does_program p (unit_for p) well (is_unit_for p))
