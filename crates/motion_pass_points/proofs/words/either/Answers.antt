use Rattle.motion_pass_points.proofs.Bits.{has_or}
use Rattle.motion_pass_points.proofs.words.either.Goals as goal

pub returns : goal.returns
returns c = λ n. has_or c.args.one c.args.other n
