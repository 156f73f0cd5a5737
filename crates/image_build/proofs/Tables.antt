-- The tables of an image are its program's.
use Rattle.std.proofs.Common.{◌≡◌, ℕ, ◌+◌, ◌≤◌, List, [], ◌∷◌, ◌++◌, length, get_or, refl, sym, ap, subst, ◌∙◌, arith}
use Rattle.std.specs.Prelude.{◌↔◌, map}
use Rattle.std.specs.List.{Contains}
use Rattle.std.proofs.lemmas.List.{length-map, map-append}
use Rattle.std.proofs.Math.Nat.{min-eq_left}
use Rattle.debug_records.specs.declared.change.Var.{Var}
use Rattle.places.specs.declared.table.PlaceRow.{PlaceRow}
use Rattle.c_tree.specs.Programs.{ProgramTree}
use Rattle.c_places.specs.Places.{places_of_program}
use Rattle.c_flow.specs.Assigns.{assignments_of_program}
use Rattle.c_flow.specs.Flow.{steps_of_program}
use Rattle.c_flow.specs.Tables.{Fits32}
use Rattle.c_flow.specs.Rows.{flow_row, row_view, rows_of_program}
use Rattle.graph_core.specs.Graphs.{UnitForm}
use Rattle.image_form.specs.Form.{Form}
use Rattle.image_form.specs.Rules.{IsImage}
use Rattle.image_form.specs.Numbers.{row_numbers}
use Rattle.image_form.specs.declared.verdicts.VisibleRow.{VisibleRow}
use Rattle.currency.specs.declared.verdict.PlaceVerdict.{PlaceVerdict}
use Rattle.currency.specs.Visible as told
use Rattle.currency.specs.Visible.{next, sights_at, sights_from}
use Rattle.image_build_tables.specs.Tables.{VisiblePair, assigned_pair, flow_pair, pair_of_row, sight_of_verdict, spot, spot_of_row}
use Rattle.image_form_drafts.specs.Same.{SaysTheSame}
use Rattle.image_form.specs.Decoding.{element_type_of}
use Rattle.image_form.specs.Numbers.{element_number, variable_numbers}
use Rattle.image_form.specs.declared.variables.ElementType.{ElementType}
use Rattle.image_form.specs.declared.variables.ElementType.TheVariants.{U8, I8, U16, I16, U32, I32, Pointer}
use Rattle.image_form.specs.declared.variables.Variable.{Variable}
use Rattle.image_build_tables.specs.Variables.{Shape, declared_names, entry, length_of_name, name_length, owner, owners_of, shape, shapes_of}
use Rattle.image_build.specs.Tables.{HasShapeOf, HasTablesOf, entry_place, spot_of, visible_from}
use Rattle.image_build.proofs.Elements.{same_images}
use Rattle.image_build.proofs.Owners.{owners_same}
use Rattle.image_form_sections.specs.declared.version.Level.{Level}
use Rattle.image_build.proofs.RecordNumbers.{entries_same, name_lengths_same, views_same}

-- where places stand, as their rows say
pub spots : (rows : List PlaceRow) → map spot_of_row rows ≡ map spot_of (map row_view rows)
spots [] = refl
spots (r ∷ rows) = let rest = spots rows in (λ i. spot_of (row_view r) ∷ rest i)

sight_as : told.Sight → VisiblePair
sight_as s = record { place = s.place; variable = s.variable }

sights_told : (all : List PlaceVerdict) → map sight_of_verdict all ≡ map sight_as (map told.sight all)
unfolding sight_as
sights_told [] = refl
sights_told (v ∷ all) = let rest = sights_told all in (λ i. sight_of_verdict v ∷ rest i)

abbrev seen_at : ℕ → ℕ → VisiblePair
seen_at n x = record { place = n; variable = x }

abbrev seen_in : ℕ → PlaceRow → List VisiblePair
seen_in n r = map (seen_at n) (row_view r).visible

at_place : (n : ℕ) (variables : List Var) → map sight_as (sights_at n variables) ≡ map (seen_at n) (map (λ (v : Var). v.0) variables)
unfolding sight_as
at_place n [] = refl
at_place n (v ∷ variables) = let rest = at_place n variables in (λ i. seen_at n v.0 ∷ rest i)

next_is : (n : ℕ) → n + 1 ≤ 4294967295 → next n ≡ n + 1
next_is n few = min-eq_left few

seen_from : (n : ℕ) (rows : List PlaceRow) → n + length rows ≤ 4294967295 → map sight_as (sights_from n rows) ≡ visible_from n (map row_view rows)
seen_from n [] few = refl
seen_from n (r ∷ rows) few =
    map-append sight_as (sights_at n r.visible.items) (sights_from (next n) rows)
    ∙ ap (λ (l : List VisiblePair). l ++ map sight_as (sights_from (next n) rows)) (at_place n r.visible.items)
    ∙ ap (λ (k : ℕ). seen_in n r ++ map sight_as (sights_from k rows)) (next_is n (omega (arith, few)))
    ∙ ap (λ (l : List VisiblePair). seen_in n r ++ l) (seen_from (n + 1) rows (omega (arith, few)))

-- what rows of verdicts tell of, as the table of places says it
pub seen : (all : List PlaceVerdict) (rows : List PlaceRow) → length rows + 1 ≤ 4294967295 → map told.sight all ≡ sights_from 1 rows → map sight_of_verdict all ≡ visible_from 1 (map row_view rows)
seen all rows few e = sights_told all ∙ ap (map sight_as) e ∙ seen_from 1 rows (omega (arith, few))

sight_by : List ℕ → VisiblePair
sight_by numbers = record { place = get_or numbers 0 0; variable = get_or numbers 1 0 }

sight_back : (level : Level) (r : VisibleRow) → sight_by (row_numbers level r) ≡ pair_of_row r
unfolding sight_by
sight_back level r = refl

-- rows of the same numbers tell of the same
pub sights_same : (level : Level) (xs ys : List VisibleRow) → map (row_numbers level) xs ≡ map (row_numbers level) ys → map pair_of_row xs ≡ map pair_of_row ys
sights_same level xs ys e = views_same (row_numbers level) sight_by pair_of_row (sight_back level) xs ys e

element_back : (e : ElementType) → element_type_of (element_number e) ≡ e
element_back U8 = refl
element_back I8 = refl
element_back U16 = refl
element_back I16 = refl
element_back U32 = refl
element_back I32 = refl
element_back Pointer = refl

shape_by : List ℕ → Shape
shape_by numbers = record { name_length = get_or numbers 0 0; position = get_or numbers 2 0; element = element_type_of (get_or numbers 3 0); count = get_or numbers 6 0 }

one_shape : (v : Variable) → shape_by (variable_numbers v) ≡ shape v
unfolding shape_by
one_shape v = ap (λ (e : ElementType). record { name_length = v.name_length; position = v.position; element = e; count = v.count }) (element_back v.element)

shapes_by : (variables : List Variable) → map shape_by (map variable_numbers variables) ≡ map shape variables
shapes_by [] = refl
shapes_by (v ∷ variables) = let first = one_shape v in let rest = shapes_by variables in (λ i. first i ∷ rest i)

-- variables of the same numbers are made alike
pub shapes_same : (xs ys : List Variable) → map variable_numbers xs ≡ map variable_numbers ys → map shape xs ≡ map shape ys
shapes_same xs ys e = sym (shapes_by xs) ∙ ap (map shape_by) e ∙ shapes_by ys

-- as many places as rows, which fit numbers of 32 bits
pub rows_few : (p : ProgramTree) (rows : List PlaceRow) → Fits32 p → map row_view rows ≡ rows_of_program p → length rows + 1 ≤ 4294967295
rows_few p rows fits are =
    let same : length rows ≡ length (places_of_program p) = sym (length-map rows row_view) ∙ ap length are ∙ length-map (places_of_program p) (flow_row p) in
    omega (arith, same, fits.places)

-- The tables of an image that are made of a program's tables, of its unit's flow and of verdicts are the program's.
pub has_tables : (p : ProgramTree) (m : Form) (u : UnitForm) (rows : List PlaceRow) (all : List PlaceVerdict) → HasShapeOf p u → Fits32 p → map row_view rows ≡ rows_of_program p
    → map name_length m.functions ≡ map length_of_name p.functions → map entry m.functions ≡ map entry_place u.graphs → map shape m.variables ≡ shapes_of p → map owner m.variables ≡ owners_of p → ((more : List ℕ) × (m.names ≡ declared_names p ++ more))
    → map spot m.places ≡ map spot_of_row rows → m.flow ≡ map flow_pair u.steps → m.assigned ≡ map assigned_pair u.assignments
    → map pair_of_row m.rows ≡ map sight_of_verdict all → map told.sight all ≡ sights_from 1 rows → HasTablesOf p m
has_tables p m u rows all shaped fits are functions entries variables owners names places flow assigned seen_rows told_rows = record {
  functions = functions;
  entries = entries ∙ shaped.entries;
  variables = variables;
  owners = owners;
  names = names;
  places = places ∙ spots rows ∙ ap (map spot_of) are;
  flow = λ s. subst (λ l. Contains l s ↔ Contains (map flow_pair (steps_of_program p)) s) (sym flow) (same_images flow_pair u.steps (steps_of_program p) shaped.steps s);
  assigned = λ a. subst (λ l. Contains l a ↔ Contains (map assigned_pair (assignments_of_program p)) a) (sym assigned) (same_images assigned_pair u.assignments (assignments_of_program p) shaped.assignments a);
  visible = seen_rows ∙ seen all rows (rows_few p rows fits are) told_rows ∙ ap (visible_from 1) are;
}

as_many : (p : ProgramTree) (m : Form) → map name_length m.functions ≡ map length_of_name p.functions → length m.functions ≡ length p.functions
as_many p m same = sym (length-map m.functions name_length) ∙ ap length same ∙ length-map p.functions length_of_name

-- what says the same as such tables has them
pub tables_again : (p : ProgramTree) (tables image : Form) → IsImage image → SaysTheSame tables image → HasTablesOf p tables → HasTablesOf p image
tables_again p tables image is same are = record {
  functions = name_lengths_same tables.version.level image.functions tables.functions same.functions ∙ are.functions;
  entries = entries_same tables.version.level image.functions tables.functions same.functions ∙ are.entries;
  variables = shapes_same image.variables tables.variables same.variables ∙ are.variables;
  owners = owners_same p tables image is (as_many p image (name_lengths_same tables.version.level image.functions tables.functions same.functions ∙ are.functions)) same.variables are.owners;
  names = (are.names.0, same.names ∙ are.names.1);
  places = ap (map spot) same.places ∙ are.places;
  flow = λ s. subst (λ l. Contains l s ↔ Contains (map flow_pair (steps_of_program p)) s) (sym same.flow) (are.flow s);
  assigned = λ a. subst (λ l. Contains l a ↔ Contains (map assigned_pair (assignments_of_program p)) a) (sym same.assigned) (are.assigned a);
  visible = sights_same tables.version.level image.rows tables.rows same.rows ∙ are.visible;
}
