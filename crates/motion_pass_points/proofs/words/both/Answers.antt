use Rattle.motion_pass_points.proofs.Bits.{has_and}
use Rattle.motion_pass_points.proofs.words.both.Goals as goal

pub returns : goal.returns
returns c = λ n. has_and c.args.one c.args.other n
