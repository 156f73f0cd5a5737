use Rattle.std.proofs.Common.{arith}
use Rattle.motion_pass_points.proofs.Bits.{has_without}
use Rattle.motion_pass_points.proofs.words.without.Goals as goal

pub returns : goal.returns
returns c = λ n. has_without c.args.one c.args.other n (omega arith)
