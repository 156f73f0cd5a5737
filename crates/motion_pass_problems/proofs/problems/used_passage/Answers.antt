use Rattle.motion_pass_problems.proofs.problems.used_passage.Goals as goal

pub returns : goal.returns
returns c = record { made = c.both-made.ensures; passed = c.without-passed.ensures }
