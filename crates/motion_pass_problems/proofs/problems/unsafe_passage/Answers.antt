use Rattle.std.proofs.Common.{◌&&◌, not, ap, ◌∙◌}
use Rattle.motion_pass_points.specs.Words.{has}
use Rattle.motion_pass_problems.proofs.Pushed.{has_all}
use Rattle.motion_pass_problems.proofs.problems.unsafe_passage.Goals as goal

pub returns : goal.returns
returns c = record { made = c.without-made.ensures; passed = λ k. c.without-passed.ensures k ∙ ap (λ b. b && not (has c.args.local.first k)) (has_all k) }
