-- The places and objects of an accepted program stand within its text.
use Rattle.std.proofs.Common.{◌≡◌, ℕ, List, ◌∷◌, [], map, nat_lt, true, inl, inr, ap, ◌∙◌}
use Rattle.debug_records.specs.declared.source.Spot.{Spot}
use Rattle.c_tree.specs.Trees.{ItemTree}
use Rattle.c_tree.specs.Programs.{ProgramTree}
use Rattle.c_places.specs.Places.{places_of_program}
use Rattle.c_type_laws.specs.Spots.{are_below, HasSpots}
use Rattle.c_source.specs.Files.{AreItemsFormed}
use Rattle.c_source.specs.TextOrder.{spots_of_items, AreWithinText}
use Rattle.c_source.proofs.Same.{two_true, both}
use Rattle.c_source.proofs.Parts.{IsPart, part_map}
use Rattle.c_source.proofs.Adding.{literal_spot, variable_spot}
use Rattle.c_source.proofs.Stops.{spots_of_places}
use Rattle.c_source.proofs.Programs.{Accepted}
use Rattle.c_source.proofs.StaticOrder.{statics_there}
use Rattle.c_source.proofs.InOrder.{offsets_of, lines_of, place_spot, items_part, literals_part, automatics_part, places_part}

part_below : (most : ℕ) (some whole : List ℕ) → IsPart some whole → are_below most whole ≡ true → are_below most some ≡ true
part_below most some [] h k = ap (are_below most) h
part_below most some (x ∷ whole) (inl h) k = part_below most some whole h (two_true (nat_lt x most) (are_below most whole) k).1
part_below most some (x ∷ whole) (inr h) k =
    let c = two_true (nat_lt x most) (are_below most whole) k in
    ap (are_below most) h.1 ∙ both (nat_lt x most) (are_below most h.0) c.0 (part_below most h.0 whole h.2 c.1)

-- spots of which all stand within a text do so where some are left out
part_within : (some whole : List Spot) → IsPart some whole → AreWithinText whole → AreWithinText some
part_within some whole h o =
    record {
      offsets = part_below 1048576 (map (λ (s : Spot). s.at) some) (map (λ (s : Spot). s.at) whole) (part_map (λ (s : Spot). s.at) some whole h) o.offsets;
      lines = part_below 1048577 (map (λ (s : Spot). s.line) some) (map (λ (s : Spot). s.line) whole) (part_map (λ (s : Spot). s.line) some whole h) o.lines;
    }

module _ (items : List ItemTree) (p : ProgramTree) (a : Accepted items p) (formed : AreItemsFormed items) (within : AreWithinText (spots_of_items items)) where
  -- The places and objects of the program stand within the text.
  pub has_spots : HasSpots p
  has_spots =
      let places = part_within (spots_of_places (places_of_program p)) (spots_of_items items) (places_part items p a) within in
      let names = items_part items in
      record {
        places = ap (are_below 1048576) (offsets_of place_spot (places_of_program p)) ∙ places.offsets;
        lines = ap (are_below 1048577) (lines_of place_spot (places_of_program p)) ∙ places.lines;
        statics = ap (are_below 1048576) (statics_there items p a formed ∙ names.1) ∙ (part_within names.0 (spots_of_items items) names.2 within).offsets;
        automatics = ap (are_below 1048576) (offsets_of variable_spot p.automatics) ∙ (part_within (map variable_spot p.automatics) (spots_of_items items) (automatics_part items p a) within).offsets;
        literals = ap (are_below 1048576) (offsets_of literal_spot p.literals) ∙ (part_within (map literal_spot p.literals) (spots_of_items items) (literals_part items p a) within).offsets;
      }
