use Rattle.std.proofs.Common.{◌&&◌, ◌||◌, not, ap, ◌∙◌}
use Rattle.motion_pass_points.specs.Words.{has}
use Rattle.motion_pass_problems.proofs.Pushed.{has_all}
use Rattle.motion_pass_problems.proofs.problems.past_passage.Goals as goal

pub returns : goal.returns
returns c = record {
  made = λ k. c.without-made.ensures k ∙ ap (λ b. b && not (has c.args.unhad_end k)) (c.either-done.ensures k ∙ ap (λ b. has c.args.local.last k || b) (c.both-open.ensures k));
  passed = λ k. c.without-passed.ensures k ∙ ap (λ b. b && not (has c.args.unhad_end k)) (c.without-kept.ensures k ∙ ap (λ b. b && not (has c.args.local.written k)) (has_all k));
}
