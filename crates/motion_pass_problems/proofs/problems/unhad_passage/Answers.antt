use Rattle.std.proofs.Common.{◌&&◌, ap, ◌∙◌}
use Rattle.motion_pass_points.specs.Words.{has}
use Rattle.motion_pass_problems.proofs.problems.unhad_passage.Goals as goal

pub returns : goal.returns
returns c = record { made = λ k. c.both-made.ensures k ∙ ap (λ b. b && has c.args.local.written k) (c.without-passed.ensures k); passed = c.without-passed.ensures }
