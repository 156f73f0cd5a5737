use Rattle.std.proofs.Common.{true≢false, refl, sym}
use Rattle.motion_pass_problems.proofs.Inner.{at_inside}
use Rattle.motion_pass.proofs.Acting.{never_read, read_is, compute_is}
use Rattle.motion_pass.proofs.cases.reads_at.Goals as goal

pub returns-in-Keep : goal.returns-in-Keep
returns-in-Keep c = λ g is b at inside.
    (let one = at_inside b.instructions c.args.index inside in (
      λ so. absurd (true≢false (sym so)),
      λ read. absurd (never_read g c.args.placement.now is c.args.number b at c.args.index one.0 one.1 c.action.result (c.action.ensures.by_rule g is b at inside) (c.action.ensures.nowhere g is b at) c.in-Keep.is read.0 read.1),
    ))

pub returns-in-Read : goal.returns-in-Read
returns-in-Read c = λ g is b at inside.
    (let one = at_inside b.instructions c.args.index inside in (
      λ so. read_is g c.args.placement.now is c.args.number b at c.args.index one.0 one.1 c.action.result (c.action.ensures.by_rule g is b at inside) (c.action.ensures.nowhere g is b at) _ c.in-Read.is,
      λ read. refl,
    ))

pub returns-in-Compute : goal.returns-in-Compute
returns-in-Compute c = λ g is b at inside.
    (let one = at_inside b.instructions c.args.index inside in (
      λ so. compute_is g c.args.placement.now is c.args.number b at c.args.index one.0 one.1 c.action.result (c.action.ensures.by_rule g is b at inside) (c.action.ensures.nowhere g is b at) _ _ c.in-Compute.is,
      λ read. refl,
    ))
