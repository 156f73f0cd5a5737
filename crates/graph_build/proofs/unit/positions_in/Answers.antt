use Rattle.std.proofs.Common.{◌≡◌, List, map, ap, ◌∙◌}
use Rattle.c_tree.specs.Programs.{program_view}
use Rattle.c_places.specs.declared.place.Place.{Place}
use Rattle.c_places.specs.Places.{place_view, places_of_program}
use Rattle.c_flow.proofs.Fitting.{few_positions, numbers_among}
use Rattle.graph_build.proofs.unit.positions_in.Goals as goal

pub returns : goal.returns
returns c =
    let listed = places_of_program (program_view c.args.program.now) in
    let seen : map place_view c.deref.result.now ≡ listed = ap (λ (all : List Place). map place_view all) c.deref.ensures.value ∙ c.in_ok-places.ensures in
    let positions = c.in_ok-positions.positions.items in
    record {
      sorted = c.in_ok-positions.ensures.sorted;
      few = few_positions c.deref.result.now positions listed seen c.in_ok-positions.ensures.count c.requires.places;
      numbers = numbers_among c.deref.result.now positions listed seen c.in_ok-positions.ensures.numbers;
    }
