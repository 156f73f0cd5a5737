use Rattle.std.proofs.Common.{◌≡◌, ℕ, List, map, subst, arith}
use Rattle.std.specs.List.Sorted.{IsPermutation}
use Rattle.std.proofs.lemmas.Grind.{common_steps}
use Rattle.std.proofs.lemmas.List.Sorted.{IsNonDecreasingBy-from_sort}
use Rattle.c_places.specs.declared.place.Place.{Place}
use Rattle.c_flow.proofs.Counting.{same_number}
use Rattle.c_flow.proofs.numbering.positions_of.Goals as goal

pub returns-clause-sorted : goal.returns-clause-sorted
returns-clause-sorted c = IsNonDecreasingBy-from_sort (λ (x : ℕ). x) _ c.sort_unstable.ensures.sorted

pub returns-clause-numbers : goal.returns-clause-numbers
returns-clause-numbers c =
    let whole : c.loop-place.positions.items ≡ map (λ (p : Place). p.spot.at) c.args.places.now = grind (arith, common_steps) in
    λ at. same_number c.args.places.now _ at (subst (λ (xs : List ℕ). IsPermutation xs c.sort_unstable.new.self.items) whole c.sort_unstable.ensures.permutation)
