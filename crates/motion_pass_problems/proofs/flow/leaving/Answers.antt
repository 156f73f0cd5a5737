use Rattle.std.proofs.Common.{ap, ◌∙◌, ◌||◌}
use Rattle.motion_pass_points.specs.Words.{has}
use Rattle.motion_pass_problems.proofs.flow.leaving.Goals as goal

pub returns : goal.returns
returns c = λ k. c.either.ensures k ∙ ap (λ b. has c.args.passage.made k || b) (c.both-kept.ensures k)
