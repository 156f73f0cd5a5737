-- Units that passes made of a program come of it.
use Rattle.std.proofs.Common.{◌≡◌, ◌≤◌, ◌*◌, arith, length, sym, subst}
use Rattle.std.specs.Prelude.{ℕ, List, IfOk, Result, Ok, Err}
use Rattle.c_tree.specs.Programs.{ProgramTree}
use Rattle.debug_records.specs.declared.change.PassName.{PassName}
use Rattle.graph_core.specs.declared.unit.Unit as declared-unit
use Rattle.graph_core.specs.Graphs.{UnitForm, unit_view}
use Rattle.graph_core.specs.WellMarked.{AreWellMarked}
use Rattle.pass_law.specs.Keeps.{Keeps}
use Rattle.memory_map.specs.declared.map.Room.{Room}
use Rattle.memory_map.specs.declared.map.Room.TheVariants.{Small, Large}
use Rattle.pass_law.specs.Leading.{IsLawfulStep, Lead}
use Rattle.pass_law.specs.Logs.{most_changes}
use Rattle.graph_build_laws.specs.Built.{IsBuilt}
use Rattle.cdbg_passes.proofs.OnTrail.{trails}
use Rattle.graph_homes.specs.Homed.{homed_view}
use Rattle.home_assign.specs.Changes.{HaveChanges}
use Rattle.image_build.specs.declared.program_image.ProgramImage as declared-image
use Rattle.image_build.specs.Behind.{ComesHomedForms, ComesOfForms}

module _ {P : Type 0} (named : P → PassName) (steps : P → UnitForm → UnitForm → Type 0) (passes : List P) (names : List (List ℕ)) (p : ProgramTree) where
  -- what the names lead to from a unit that is built of the program comes of it
  pub comes_by : {E : Type 0} (u : UnitForm) (made : Result declared-unit.Unit E) → IsBuilt p u → IfOk made (λ v. Lead named (λ pass. IsLawfulStep (named pass) (steps pass)) passes names u (unit_view v)) → IfOk made (λ v. Keeps u (unit_view v))
      → IfOk made (λ v. ComesOfForms named steps passes names p (unit_view v))
  comes_by u (Ok v) built led keeps = record { first = u; built = built; trail = trails named steps passes names u (unit_view v) led; keeps = keeps }
  comes_by u (Err e) built led keeps = tt

  -- an image whose unit with homes is that unit but for its log comes of the program
  pub homed_by : {E : Type 0} (u : UnitForm) (made : Result declared-image.ProgramImage E) → ComesOfForms named steps passes names p u → IfOk made (λ b. (homed_view b.homed).unit ≡ record u { log = (homed_view b.homed).unit.log })
      → IfOk made (λ b. HaveChanges u (homed_view b.homed)) → IfOk made (λ b. ComesHomedForms named steps passes names p (homed_view b.homed))
  homed_by u (Ok b) comes same changes = record { unit = u; comes = comes; same = same; changes = changes }
  homed_by u (Err e) comes same changes = tt

-- what is given back is as it was built
pub built_by : {E : Type 0} (p : ProgramTree) (u : declared-unit.Unit) (made : Result declared-unit.Unit E) → IsBuilt p (unit_view u) → IfOk made (λ v. v ≡ u) → IfOk made (λ v. IsBuilt p (unit_view v))
built_by p u (Err e) built is = tt
built_by p u (Ok v) built is = subst (λ v. IsBuilt p (unit_view v)) (sym is) built

-- what keeps a unit is well marked
pub marked_by : {E : Type 0} (u : UnitForm) (made : Result declared-unit.Unit E) → IfOk made (λ v. Keeps u (unit_view v)) → IfOk made (λ v. AreWellMarked (unit_view v))
marked_by u (Ok v) keeps = keeps.still_marked
marked_by u (Err e) keeps = tt

-- so many changes are logged at most, in each room
pub few_in : (r : Room) (changes names : ℕ) → names ≤ 32 → changes ≤ most_changes r * names → changes ≤ 32000000
few_in Small changes names few most = let so : changes ≤ 100000 * names = most in omega arith
few_in Large changes names few most = let so : changes ≤ 1000000 * names = most in omega arith

-- behind at most 32 passes there are at most so many changes
pub few_by : {E : Type 0} (u : UnitForm) (made : Result declared-unit.Unit E) (names : ℕ) → names ≤ 32 → IfOk made (λ v. length (unit_view v).log ≤ most_changes u.room * names) → IfOk made (λ v. length (unit_view v).log ≤ 32000000)
few_by u (Ok v) names few most = few_in u.room (length (unit_view v).log) names few most
few_by u (Err e) names few most = tt
