use Rattle.std.proofs.Common.{arith, sym}
use Rattle.std.specs.Prelude.{map}
use Rattle.std.proofs.lemmas.List.{length-map}
use Rattle.c_tree.specs.Programs.{automatic_view}
use Rattle.c_type_bounds.proofs.KeptVariables.{kept_past, kept_view}
use Rattle.c_type_bounds.proofs.breach.keep.Goals as goal

pub returns-then-place-automatics : goal.returns-then-place-automatics
returns-then-place-automatics c = kept_view c.args.automatics.now c.args.number c.index-automatics-place.result (omega arith)

pub returns-else-place-automatics : goal.returns-else-place-automatics
returns-else-place-automatics c = sym (kept_past (map automatic_view c.args.automatics.now) c.args.number (omega (arith, length-map c.args.automatics.now automatic_view)))
