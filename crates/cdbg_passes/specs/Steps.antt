-- What the passes of the program may make of a unit.
use Rattle.std.specs.Prelude.{codes}
use Rattle.debug_records.specs.Change.{pass_name}
use Rattle.debug_records.specs.declared.change.Kind.TheVariants.{Moved, Removed, Replaced}
use Rattle.graph_core.specs.Graphs.{UnitForm}
use Rattle.graph_core.specs.Validity.{IsValid}
use Rattle.pass_law.specs.Changes.{AddsChangesOf}
use Rattle.pass_law.specs.Kept.{EachFunction, ShareTheSame}
use Rattle.copy_pass_rule.specs.Copying.{IsPropagated}
use Rattle.copy_pass.specs.Reads.{IsReplacedRead}
use Rattle.motion_pass_placement.specs.Moves.{AreAllMoved, IsMovedAssignment}
use Rattle.dead_pass_rule.specs.Removing.{IsReduced}
use Rattle.dead_pass_notes.specs.Writes.{IsRemovedWrite}
use Rattle.dead_pass.specs.Notes.{SayWhatTheyShall}

-- What each step makes is valid, and what functions share is the same in both units.
pub record MakesValid (u v : UnitForm) : Type 0 where
  pub valid : IsValid v
  pub shared : ShareTheSame u v

-- A step of copy propagation: copies are propagated in each function, and behind the old changes one is logged for each
-- read that was replaced, and no other.
pub record PropagatesCopies (u v : UnitForm) : Type 0 where
  pub made : MakesValid u v
  pub changes : AddsChangesOf (pass_name (codes "copy")) Replaced IsReplacedRead u v
  pub functions : EachFunction IsPropagated u.graphs v.graphs

-- A step of lazy code motion: the computations of each function are moved by the rule, where the unit stays within
-- bounds, and behind the old changes one is logged for each assignment of a variable that reads a temporary in place of
-- its computation, and no other.
pub record MovesCode (u v : UnitForm) : Type 0 where
  pub made : MakesValid u v
  pub changes : AddsChangesOf (pass_name (codes "motion")) Moved IsMovedAssignment u v
  pub functions : AreAllMoved u.room u.graphs v.graphs

-- A step of the removal of dead assignments: the writes that go are gone from each function, behind the old changes one
-- is logged for each of them that wrote a variable, and no other, and each note says what it shall.
pub record RemovesDead (u v : UnitForm) : Type 0 where
  pub made : MakesValid u v
  pub changes : AddsChangesOf (pass_name (codes "dead")) Removed (λ before after. IsRemovedWrite u.assignments before)
      u v
  pub functions : EachFunction (IsReduced u.assignments) u.graphs v.graphs
  pub notes : SayWhatTheyShall u v
