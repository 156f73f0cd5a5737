-- Lazy code motion keeps units valid.
use Rattle.std.proofs.Common.{◌≡◌, ◌≤◌, List, [], ◌∷◌, ◌++◌, length, refl, sym, ap, subst, arith, length-append}
use Rattle.std.specs.List.{AllByRecursion}
use Rattle.event_runs.specs.Agreement.{Pairs}
use Rattle.memory_map.specs.declared.map.Room.{Room}
use Rattle.graph_core.specs.Bounds.{most_instructions, most_blocks}
use Rattle.graph_core.specs.Graphs.{Graph, Logged, UnitForm}
use Rattle.graph_core.specs.Validity.{IsGraph, IsInstruction, IsValid, instructions_of}
use Rattle.pass_law.specs.Kept.{ShareTheSame}
use Rattle.motion_pass_placement.specs.Moves.{BecomesIn, moves, passes_a_bound, is_entered_again, BecomeIn, no_function, one_function, AreAllMoved}
use Rattle.motion_pass.specs.Grown.{IsGrown}
use Rattle.motion_pass.proofs.Counting.{all_within}
use Rattle.motion_pass.proofs.Growing.{itself_grown, moved_grows}
use Rattle.motion_pass.proofs.Keeping.{graphs_replaced}
use Rattle.motion_pass.proofs.Naming.{with_graphs}

-- A unit that shares what functions share with another one is that one with graphs and a log of its own.
shared : (u v : UnitForm) → ShareTheSame u v → v ≡ with_graphs u v.graphs v.log
shared u v s = rw (sym s.main, sym s.statics, sym s.array_bytes, sym s.steps, sym s.assignments, sym s.room) refl

module _ (u : UnitForm) (hs : List Graph) (log : List Logged) where
  -- What became of a function has grown of it.
  function_grown : {room : Room} (before : List Graph) (g : Graph) (behind : List Graph) (h : Graph) → BecomesIn room before g behind h → IsGraph u g → IsGrown (IsInstruction (with_graphs u hs log)) g h
  function_grown before g behind h (moves once is within_bounds) valid = moved_grows u hs log g h valid is within_bounds.names within_bounds.own
  function_grown before g behind _ (passes_a_bound once is beyond) valid = itself_grown (IsInstruction (with_graphs u hs log)) g valid.names valid.instructions
  function_grown before g behind _ (is_entered_again again) valid = itself_grown (IsInstruction (with_graphs u hs log)) g valid.names valid.instructions

  -- So it is with all functions, one after the other.
  functions_grown : {room : Room} (before gs now : List Graph) → BecomeIn room before gs now → AllByRecursion (IsGraph u) gs → Pairs (IsGrown (IsInstruction (with_graphs u hs log))) gs now
  functions_grown before _ _ no_function valid = tt
  functions_grown before _ _ (one_function {gs = gs} {hs = now} {g} {h} is more) valid = (function_grown before g gs h is valid.0, functions_grown (before ++ h ∷ []) gs now more valid.1)

-- THE UNIT THAT LAZY CODE MOTION MAKES OF A VALID UNIT IS VALID.
pub moved_valid : (u v : UnitForm) (added : List Logged) → IsValid u → ShareTheSame u v → AreAllMoved u.room u.graphs v.graphs → v.log ≡ u.log ++ added → IsValid v
moved_valid u v added valid share moved log =
    subst IsValid (sym (shared u v share))
    (graphs_replaced u v.graphs v.log (functions_grown u v.graphs v.log [] u.graphs v.graphs moved valid.graphs) longer
    (all_within u.room instructions_of (most_instructions u.room) (λ h all is. is.instructions) [] u.graphs v.graphs moved valid.instructions)
    (all_within u.room (λ (g : Graph). length g.blocks) (most_blocks u.room) (λ h all is. is.blocks) [] u.graphs v.graphs moved valid.blocks)
    valid)
  where
    longer : length u.log ≤ length v.log
    longer = omega (arith, ap (λ (l : List Logged). length l) log, length-append u.log added)
