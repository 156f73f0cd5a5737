-- LAZY CODE MOTION KEEPS THE MARKS OF A UNIT, its program, and what can be seen of it.
use Rattle.std.proofs.Common.{List, [], ◌∷◌, ◌++◌, map}
use Rattle.debug_records.specs.declared.change.PassName.{PassName}
use Rattle.debug_records.specs.declared.change.Kind.TheVariants.{Moved}
use Rattle.event_runs.specs.Agreement.{Pairs}
use Rattle.memory_map.specs.declared.map.Room.{Room}
use Rattle.graph_core.specs.Graphs.{Graph, UnitForm}
use Rattle.graph_core.specs.Validity.{IsGraph, IsValid}
use Rattle.graph_core.specs.WellMarked.{AreWellMarked}
use Rattle.pass_law.specs.Changes.{AddsChangesOf, logged_as}
use Rattle.pass_law.specs.Kept.{ShareTheSame}
use Rattle.pass_law.specs.Keeps.{SameFunction, SameProgram, Keeps}
use Rattle.motion_pass_placement.specs.Moves.{BecomesIn, moves, passes_a_bound, is_entered_again, BecomeIn, no_function, one_function, AreAllMoved, IsMovedAssignment}
use Rattle.motion_pass_laws.proofs.Carried.{all_at}
use Rattle.motion_pass_laws.proofs.Whole.{moved_follows}
use Rattle.motion_pass_laws.specs.Made.{IsMade}
use Rattle.motion_pass_laws.proofs.Lists.{pairs_before, pairs_so}
use Rattle.motion_pass_laws.proofs.Making.{itself_made, moved_made}
use Rattle.motion_pass_laws.proofs.Standing.{marker_after, marker_before}
use Rattle.motion_pass_laws.proofs.Marked.{graph_marked}

-- What is made of a graph is of the same function.
same_function : (g h : Graph) → IsMade g h → SameFunction g h
same_function g h made = record {
  entry = made.entry;
  parameters = made.parameters;
  scalars = made.scalars;
  objects = made.objects;
  markers = λ p. (marker_after g h made p, marker_before g h made p);
}

module _ (u : UnitForm) where
  -- What became of a function is made of it.
  function_made : {room : Room} (before : List Graph) (g : Graph) (behind : List Graph) (h : Graph) → BecomesIn room before g behind h → IsMade g h
  function_made before g behind h (moves once is within_bounds) = moved_made u g h is
  function_made before g behind _ (passes_a_bound once is beyond) = itself_made g
  function_made before g behind _ (is_entered_again again) = itself_made g

  -- So it is with all functions, one after the other.
  pub functions_made : {room : Room} (before gs hs : List Graph) → BecomeIn room before gs hs → Pairs IsMade gs hs
  functions_made before _ _ no_function = tt
  functions_made before _ _ (one_function {gs = gs} {hs} {g} {h} is more) = (function_made before g gs h is, functions_made (before ++ h ∷ []) gs hs more)

module _ (u v : UnitForm) (pass : PassName) (shared : ShareTheSame u v) (changes : AddsChangesOf pass Moved IsMovedAssignment u v) (made : AreAllMoved u.room u.graphs v.graphs) where
  -- THE PROGRAM STAYS. The unit that lazy code motion makes of another is of the same program.
  pub moved_program : SameProgram u v
  moved_program = record {
    main = shared.main;
    statics = shared.statics;
    array_bytes = shared.array_bytes;
    steps = shared.steps;
    assignments = shared.assignments;
    room = shared.room;
    added = map (logged_as pass Moved) changes.cases;
    log = changes.log;
    functions = pairs_so IsMade SameFunction same_function u.graphs v.graphs (functions_made u [] u.graphs v.graphs made);
  }

  module _ (marked : AreWellMarked u) (valid : IsValid v) where
    -- THE MARKS STAY. The valid unit that lazy code motion makes of a well marked one is well marked.
    pub moved_marked : AreWellMarked v
    moved_marked = record {
      valid = valid;
      graphs = λ f h at.
          (let g = pairs_before IsMade u.graphs v.graphs (functions_made u [] u.graphs v.graphs made) f h at in
          graph_marked u v g.0 h (all_at (IsGraph u) u.graphs f g.0 marked.valid.graphs g.1) g.2 (marked.graphs f g.0 g.1) shared.steps shared.assignments (map (logged_as pass Moved) changes.cases) changes.log);
    }

    -- LAZY CODE MOTION KEEPS what a well marked unit does.
    pub moved_keeps : Keeps u v
    moved_keeps = record { marked = marked; still_marked = moved_marked; program = moved_program; follows = moved_follows u v marked.valid shared made }
