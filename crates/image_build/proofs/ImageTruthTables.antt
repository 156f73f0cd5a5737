-- What the tables of an image say of its program's places, and how a program's variables follow one another.
use Rattle.std.proofs.Common.{◌≡◌, ℕ, ◌+◌, refl, sym, ap, ◌∙◌, true, ◌&&◌, List, [], ◌∷◌, ◌++◌, length, map, slice_get}
use Rattle.std.proofs.lemmas.Bool.{and_parts}
use Rattle.c_tree.specs.Programs.{ProgramTree}
use Rattle.c_places.specs.Places.{Place, places_of_program}
use Rattle.c_flow.specs.Rows.{Row, flow_row, rows_of_program}
use Rattle.c_type_laws.specs.Laws.{IsWellFormed, follow, are_functions, are_objects, is_main, is_sound, is_within, objects_ascend, places_ascend}
use Rattle.c_type_laws.specs.Parameters.{parameters_single}
use Rattle.image_form.specs.Form.{Form}
use Rattle.image_form.specs.declared.tables.Place.{Place as ImagePlace}
use Rattle.image_build_tables.specs.Tables.{Spot, spot}
use Rattle.image_build.specs.Tables.{spot_of, visible_from}
use Rattle.image_build.proofs.Listed.{seen_from}
use Rattle.base_laws.proofs.Lists.{map_twice}

-- what is visible place by place
pub seen_same : (place : ℕ) (rows : List Row) → visible_from place rows ≡ seen_from place (map (λ (r : Row). r.visible) rows)
seen_same place [] = refl
seen_same place (r ∷ rows) = ap (λ l. map (λ (x : ℕ). record { place = place; variable = x }) r.visible ++ l) (seen_same (place + 1) rows)

-- the variables of functions follow one another
pub variables_follow : (p : ProgramTree) → IsWellFormed p → follow 0 (length p.automatics) p.functions ≡ true
variables_follow p h =
    let ordered = objects_ascend p in
    let singles = parameters_single p.automatics p.functions in
    let last = and_parts (ordered && follow 0 (length p.automatics) p.functions && is_main (slice_get p.functions p.main) && are_objects p && are_functions p p.functions && is_within p && places_ascend (places_of_program p) && singles) (is_sound p) h in
    let front = and_parts (ordered && follow 0 (length p.automatics) p.functions && is_main (slice_get p.functions p.main) && are_objects p && are_functions p p.functions && is_within p && places_ascend (places_of_program p)) singles last.0 in
    let a = and_parts (ordered && follow 0 (length p.automatics) p.functions && is_main (slice_get p.functions p.main) && are_objects p && are_functions p p.functions && is_within p) (places_ascend (places_of_program p)) front.0 in
    let b = and_parts (ordered && follow 0 (length p.automatics) p.functions && is_main (slice_get p.functions p.main) && are_objects p && are_functions p p.functions) (is_within p) a.0 in
    let c = and_parts (ordered && follow 0 (length p.automatics) p.functions && is_main (slice_get p.functions p.main) && are_objects p) (are_functions p p.functions) b.0 in
    let d = and_parts (ordered && follow 0 (length p.automatics) p.functions && is_main (slice_get p.functions p.main)) (are_objects p) c.0 in
    let e = and_parts (ordered && follow 0 (length p.automatics) p.functions) (is_main (slice_get p.functions p.main)) d.0 in
    (and_parts ordered (follow 0 (length p.automatics) p.functions) e.0).1

-- the functions of places, as an image with the program's tables has them
pub functions_of : (p : ProgramTree) (m : Form) → map spot m.places ≡ map spot_of (rows_of_program p) → map (λ (q : ImagePlace). q.function) m.places ≡ map (λ (q : Place). q.function) (places_of_program p)
functions_of p m same =
    let of : Spot → ℕ = λ s. s.function in
    sym (map_twice of spot m.places) ∙ ap (map of) same ∙ map_twice of spot_of (rows_of_program p) ∙ map_twice (λ (r : Row). r.function) (flow_row p) (places_of_program p)
