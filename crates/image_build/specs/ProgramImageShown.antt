-- Images that show every variable, and the units that they are made of.
use Rattle.std.specs.Prelude.{◌≡◌, List, [], map}
use Rattle.std.specs.List.{AllByRecursion}
use Rattle.places.specs.declared.table.PlaceTable.{PlaceTable}
use Rattle.c_tree.specs.Programs.{ProgramTree}
use Rattle.graph_homes.specs.Homed.{HomedForm}
use Rattle.home_assign.specs.Rule.{HaveSlots}
use Rattle.graph_build_laws.specs.Built.{IsBuilt}
use Rattle.currency.specs.declared.verdict.PlaceVerdict.{PlaceVerdict}
use Rattle.currency.specs.Sound.{AreHome}
use Rattle.currency.specs.Visible.{sight, sights_from}
use Rattle.image_form.specs.Form.{Form}
use Rattle.image_form.specs.declared.verdicts.Verdict.TheVariants.{Home}
use Rattle.image_form.specs.declared.verdicts.VisibleRow.{VisibleRow}

-- A unit with homes is as it was built of its program, no change was made, and each of its names has a slot of its own.
pub record IsPlainUnit (p : ProgramTree) (h : HomedForm) : Type 0 where
  pub built : IsBuilt p h.unit
  pub unchanged : h.unit.log ≡ []
  pub slots : HaveSlots h

-- Verdicts that the home of each variable shows it, wherever it is visible at these places, are borne out.
abbrev pub AreShownAt : PlaceTable → HomedForm → Type 0
AreShownAt places h = (all : List PlaceVerdict) → map sight all ≡ sights_from 1 places.rows.items → AreHome h all

-- Each variable is shown from its home wherever it is visible, and no change is told of.
pub record ShowsAll (form : Form) : Type 0 where
  pub shown : AllByRecursion (λ (r : VisibleRow). r.verdict ≡ Home) form.rows
  pub unchanged : form.changes ≡ []
