use Rattle.std.proofs.Common.{sym, ap, ◌∙◌}
use Rattle.std.specs.Prelude.{option_map}
use Rattle.std.specs.BTreeMap.{get}
use Rattle.graph_core.specs.Graphs.{instruction_view}
use Rattle.graph_core.specs.Computations.{computed_by}
use Rattle.motion_pass_points.specs.MotionPointsComputing.{computation_view}
use Rattle.motion_pass_points.specs.Numbers.{key_cmp, views_of}
use Rattle.motion_pass_points.proofs.Numbering.{number_found}
use Rattle.motion_pass_points.proofs.computations.Computations.number_of.Goals as goal

pub returns : goal.returns
returns c = λ are.
    number_found (views_of c.args.self.now) (get key_cmp c.args.self.now.numbers) are (computed_by (instruction_view c.args.instruction.now)) (computation_view c.in-Some.computation) (sym c.of.ensures ∙ ap (option_map computation_view) c.in-Some.is) c.copied.result
    (c.copied.ensures ∙ c.get.ensures.value ∙ ap (get key_cmp c.args.self.now.numbers) c.key-key.ensures)
