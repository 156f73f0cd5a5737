-- The program of an accepted source is well formed.
use Rattle.std.proofs.Common.{◌≡◌, List, length, slice_get, nat_le, Bool, true, ◌&&◌, Ok, refl}
use Rattle.std.specs.Prelude.{is_none}
use Rattle.c_tree.specs.Trees.{ItemTree}
use Rattle.c_tree.specs.Programs.{ProgramTree}
use Rattle.c_places.specs.Places.{places_of_program}
use Rattle.c_type_bounds.specs.Bounds.{program_breach}
use Rattle.c_type.specs.Programs.{checked}
use Rattle.c_type_laws.specs.Laws.{places_ascend, objects_ascend, follow, is_main, weight_of, are_functions, is_within, are_objects, is_sound, is_well_formed}
use Rattle.c_type_laws.specs.Objects.{are_ended, are_static, arrays_are_kept}
use Rattle.c_type_laws.specs.Statics.{statics_sound, literals_sound}
use Rattle.c_type_laws.specs.Parameters.{parameters_single}
use Rattle.c_source.specs.Files.{AreItemsFormed}
use Rattle.c_source.specs.TextOrder.{IsInTextOrder}
use Rattle.c_source.proofs.Same.{both, all_three, all_four}
use Rattle.c_source.proofs.Programs.{Accepted, accepted_parts, functions_follow, arrays_kept, statics_stored, literals_ended, literals_of_bytes, array_literals_ended, functions_few, no_breach}
use Rattle.c_source.proofs.InOrder.{places_in_order, objects_in_order}
use Rattle.c_source.proofs.Callees.{linked}
use Rattle.c_source.proofs.Weighing.{functions_weigh}
use Rattle.c_source.proofs.Main.{main_is}
use Rattle.c_source.proofs.Parameters.{single_parameters}
use Rattle.c_source.proofs.WholeFunctions.{functions_are_functions}

all_nine : (a b c d e f g h i : Bool) → a ≡ true → b ≡ true → c ≡ true → d ≡ true → e ≡ true → f ≡ true → g ≡ true → h ≡ true → i ≡ true → a && b && c && d && e && f && g && h && i ≡ true
all_nine a b c d e f g h i j k l m n o q r s = rw (j, k, l, m, n, o, q, r, s) refl

-- The items are those of a text: they are formed as the grammar forms them, and stand in the order of the text.
module _ (items : List ItemTree) (p : ProgramTree) (a : Accepted items p) (formed : AreItemsFormed items) (order : IsInTextOrder items) where
  well_formed : is_well_formed p ≡ true
  well_formed =
      let stored = statics_stored items p a formed (linked items p a formed) in
      all_nine (objects_ascend p) (follow 0 (length p.automatics) p.functions) (is_main (slice_get p.functions p.main)) (are_objects p) (are_functions p p.functions) (is_within p) (places_ascend (places_of_program p)) (parameters_single p.automatics p.functions) (is_sound p)
      (objects_in_order items p a order formed) (functions_follow items p a formed) (main_is items p a)
      (all_four (arrays_are_kept p.automatics) (are_static p p.statics) (are_ended p.literals) (are_ended p.array_literals) (arrays_kept items p a formed) stored.0 (literals_ended items p a formed) (array_literals_ended items p a formed))
      (functions_are_functions items p a formed)
      (all_three (nat_le (length p.functions) 256) (nat_le (weight_of p.functions) p.weight) (is_none (program_breach p)) (functions_few items p a) (functions_weigh items p a) (no_breach items p a))
      (places_in_order items p a order) (single_parameters items p a formed) (both (statics_sound p.statics) (literals_sound p.literals) stored.1 (literals_of_bytes items p a formed))

-- The program that is made of a text's tree keeps each law.
pub program_well_formed : (items : List ItemTree) (p : ProgramTree) → checked items ≡ Ok p → AreItemsFormed items → IsInTextOrder items → is_well_formed p ≡ true
program_well_formed items p is formed order = well_formed items p (accepted_parts items p is) formed order
