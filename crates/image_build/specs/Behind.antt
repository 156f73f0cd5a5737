-- What comes of a program after passes.
use Rattle.std.specs.Prelude.{◌≡◌, ℕ, List}
use Rattle.c_tree.specs.Programs.{ProgramTree}
use Rattle.debug_records.specs.declared.change.PassName.{PassName}
use Rattle.graph_core.specs.Graphs.{UnitForm}
use Rattle.home_assign.specs.Changes.{HaveChanges}
use Rattle.graph_homes.specs.Homed.{HomedForm}
use Rattle.pass_law.specs.Keeps.{Keeps}
use Rattle.pass_law.specs.Leading.{Lead}
use Rattle.graph_build_laws.specs.Built.{IsBuilt}
use Rattle.cdbg_passes.specs.Trail.{IsOnTrail}
use Rattle.image_build.specs.ProgramUnit.{IsProgramUnit}

module _ {P : Type 0} (named : P → PassName) (steps : P → UnitForm → UnitForm → Type 0) (passes : List P)
    (names : List (List ℕ)) (p : ProgramTree) where
  -- A UNIT COMES OF A PROGRAM after passes: from one that is that of the program the names lead to it on a trail of
  -- units, each by a step of the first pass of that name; and it keeps what that one does. Each unit on the trail is
  -- well marked and keeps what the one before does, each pass logs what a pass may, each change that one of the
  -- program's passes logs is earned, and what code motion makes is computationally optimal.
  pub record ComesOf (u : UnitForm) : Type 0 where
    pub first : UnitForm
    pub built : IsProgramUnit p first
    pub trail : Lead named (λ pass. IsOnTrail (named pass) (steps pass)) passes names first u
    pub keeps : Keeps first u

  -- A UNIT WITH HOMES COMES OF A PROGRAM after passes: but for its log it is a unit that does, and its log is that
  -- one's with the changes of registers that are shared after it.
  pub record ComesHomed (h : HomedForm) : Type 0 where
    pub unit : UnitForm
    pub comes : ComesOf unit
    pub same : h.unit ≡ record unit { log = h.unit.log }
    pub changes : HaveChanges unit h

  -- The same, and the first unit has the code that the forms give.
  pub record ComesOfForms (u : UnitForm) : Type 0 where
    pub first : UnitForm
    pub built : IsBuilt p first
    pub trail : Lead named (λ pass. IsOnTrail (named pass) (steps pass)) passes names first u
    pub keeps : Keeps first u

  -- The same with homes.
  pub record ComesHomedForms (h : HomedForm) : Type 0 where
    pub unit : UnitForm
    pub comes : ComesOfForms unit
    pub same : h.unit ≡ record unit { log = h.unit.log }
    pub changes : HaveChanges unit h
