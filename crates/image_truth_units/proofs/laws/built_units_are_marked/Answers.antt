use Rattle.image_truth_units.proofs.BuiltMarked.{built_marked}
use Rattle.image_truth_units.proofs.laws.built_units_are_marked.Goals as goal

pub returns : goal.returns
returns c = built_marked
