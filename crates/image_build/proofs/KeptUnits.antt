-- What a unit has that is kept of its program: the program's places and variables, and its flow in order.
use Rattle.std.proofs.Common.{◌≡◌, sym, ap, ◌∙◌, subst}
use Rattle.event_runs.specs.Agreement.{Pairs}
use Rattle.places.specs.Flow.{AreInOrder}
use Rattle.c_tree.specs.Programs.{ProgramTree}
use Rattle.c_type_laws.specs.Laws.{IsWellFormed}
use Rattle.graph_core.specs.Graphs.{UnitForm}
use Rattle.pass_law.specs.Keeps.{SameFunction}
use Rattle.image_truth_units.specs.ImageRulesUnits.{HasAllVariables, HasOwnPlaces}
use Rattle.image_truth_units.specs.Units.{HasVariablesIn}
use Rattle.image_truth_units.proofs.Built.{own_places, program_variables}
use Rattle.image_truth_units.proofs.Every.{every_variable}
use Rattle.image_build.specs.Kept.{IsKeptOf}
use Rattle.image_build.proofs.Carried.{has_all_variables, has_own_places, has_variables}

module _ (p : ProgramTree) (u : UnitForm) (kept : IsKeptOf p u) where
  -- its graphs are of the functions of the unit that is built of the program
  pub kept_functions : Pairs SameFunction kept.first.graphs u.graphs
  kept_functions = subst (λ graphs. Pairs SameFunction kept.first.graphs graphs) (sym (ap (λ (w : UnitForm). w.graphs) kept.same)) kept.keeps.program.functions

  kept_statics : u.statics ≡ kept.first.statics
  kept_statics = ap (λ (w : UnitForm). w.statics) kept.same ∙ kept.keeps.program.statics

  -- its steps are in order
  pub kept_steps : AreInOrder u.steps
  kept_steps = subst (λ l. AreInOrder l) (sym (ap (λ (w : UnitForm). w.steps) kept.same ∙ kept.keeps.program.steps)) kept.built.steps_order

  -- its markers are the program's places
  pub kept_places : IsWellFormed p → HasOwnPlaces p u
  kept_places formed = has_own_places kept.first u kept_statics kept_functions p (own_places p formed kept.first kept.built.forms)

  -- it has the program's variables
  pub kept_variables : IsWellFormed p → HasVariablesIn p u
  kept_variables formed = has_variables kept.first u kept_statics kept_functions p (program_variables p formed kept.first kept.built.forms)

  -- and all of them
  pub kept_all_variables : IsWellFormed p → HasAllVariables p u
  kept_all_variables formed = has_all_variables kept.first u kept_statics kept_functions p (every_variable p formed kept.first kept.built.forms)
