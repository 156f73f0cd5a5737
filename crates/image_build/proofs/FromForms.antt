-- What comes of a unit that has the code of the forms comes of the program.
use Rattle.std.specs.Prelude.{ℕ, List}
use Rattle.c_tree.specs.Programs.{ProgramTree}
use Rattle.c_type_laws.specs.Laws.{IsWellFormed}
use Rattle.debug_records.specs.declared.change.PassName.{PassName}
use Rattle.graph_core.specs.Graphs.{UnitForm}
use Rattle.graph_homes.specs.Homed.{HomedForm}
use Rattle.image_build.specs.Behind.{ComesHomed, ComesHomedForms, ComesOf, ComesOfForms}
use Rattle.image_build.proofs.ProgramUnits.{program_unit}

module _ {P : Type 0} (named : P → PassName) (steps : P → UnitForm → UnitForm → Type 0) (passes : List P) (names : List (List ℕ)) (p : ProgramTree) (formed : IsWellFormed p) where
  -- a unit
  pub of_forms : (u : UnitForm) → ComesOfForms named steps passes names p u → ComesOf named steps passes names p u
  of_forms u c = record { first = c.first; built = program_unit p c.first formed c.built; trail = c.trail; keeps = c.keeps }

  -- a unit with homes
  pub homed_of_forms : (h : HomedForm) → ComesHomedForms named steps passes names p h → ComesHomed named steps passes names p h
  homed_of_forms h c = record { unit = c.unit; comes = of_forms c.unit c.comes; same = c.same; changes = c.changes }
