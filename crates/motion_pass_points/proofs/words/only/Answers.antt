use Rattle.motion_pass_points.proofs.Bits.{has_only}
use Rattle.motion_pass_points.proofs.words.only.Goals as goal

pub returns : goal.returns
returns c = λ n. has_only c.args.number n
