-- The changes of tables keep their rules, where an image can tell of them.
use Rattle.std.proofs.Common.{◌≡◌, ◌≤◌, ◌<◌, List, [], ◌∷◌, length, map, sym, subst, arith}
use Rattle.std.specs.List.{AllByRecursion}
use Rattle.debug_records.specs.Change.{letters}
use Rattle.places.specs.declared.table.PlaceRow.{PlaceRow}
use Rattle.c_tree.specs.Programs.{ProgramTree}
use Rattle.c_places.specs.Places.{places_of_program}
use Rattle.graph_core.specs.Graphs.{Logged}
use Rattle.graph_homes.specs.Homed.{HomedForm}
use Rattle.rv_emit_tables.specs.Emitted.{EmittedForm}
use Rattle.image_form.specs.Form.{Form}
use Rattle.image_form.specs.RulesOfChanges.{IsChange}
use Rattle.image_build_tables.specs.Tables.{change_record}
use Rattle.image_truth_units.specs.Changes.{CanBeTold}
use Rattle.image_truth_units.specs.Tables.{variables_in}
use Rattle.image_truth_units.proofs.Fits.{variables_many}
use Rattle.image_truth_units.proofs.Functions.{places_many}
use Rattle.image_truth_units.proofs.Given.{Given}

module _ (p : ProgramTree) (h : HomedForm) (e : EmittedForm) (rows : List PlaceRow) (m : Form) (given : Given p h e rows m) where
  change_kept : (c : Logged) → CanBeTold p c → IsChange m (change_record c)
  change_kept c told =
      let places : length m.places ≡ length (places_of_program p) = places_many p h e rows m given in
      let variables : length m.variables ≡ variables_in p = variables_many p h e rows m given in
      let some : 1 ≤ length (letters c.pass) = told.called.some in
      let most : length (letters c.pass) ≤ 16 = told.called.most in
      let place : c.place ≤ length (places_of_program p) = told.place_most in
      let variable : c.variable < variables_in p = told.variable in
      record {
        named = omega (arith, some, most);
        short_name = omega (arith, most);
        at_place = (told.place_some, omega (arith, place, places));
        of_variable = omega (arith, variable, variables);
        none_sunk = λ untold. told.unsunk;
      }

  changes_kept : (log : List Logged) → AllByRecursion (CanBeTold p) log → AllByRecursion (IsChange m) (map change_record log)
  changes_kept [] each = tt
  changes_kept (c ∷ log) each = (change_kept c each.0, changes_kept log each.1)

  -- THE CHANGES KEEP THEIR RULES.
  pub change_rules : AllByRecursion (CanBeTold p) h.unit.log → AllByRecursion (IsChange m) m.changes
  change_rules each = subst (AllByRecursion (IsChange m)) (sym given.tables.changes) (changes_kept h.unit.log each)
