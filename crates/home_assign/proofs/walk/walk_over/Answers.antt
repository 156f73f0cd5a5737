use Rattle.std.proofs.Common.{arith}
use Rattle.home_assign.proofs.walk.walk_over.Goals as goal

pub returns-clause-written : goal.returns-clause-written
returns-clause-written c =
    let a = c.in_ok-walk.ensures.names in
    let b = c.in_ok-walk_blocks.ensures.names in
    λ x y p q. c.enter.ensures.written x y (omega (arith, p, a, b)) (omega (arith, q, a, b))
