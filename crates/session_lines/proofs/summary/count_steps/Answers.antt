use Rattle.std.proofs.Common.{◌≤◌, suc, arith}
use Rattle.stop_engine.proofs.Executions.{executes-then}
use Rattle.session_lines.proofs.Counting.{arrivals, not_both}
use Rattle.session_lines.proofs.Stepping.{begun, ended, less, stepped}
use Rattle.session_lines.proofs.summary.count_steps.Goals as goal

pub loop-ending-init : goal.loop-ending-init
loop-ending-init c = begun c.args.engine.now.run c.nothing-counts.result c.nothing-counts.ensures

pub returns-in_err-ending-clause-executed : goal.returns-in_err-ending-clause-executed
returns-in_err-ending-clause-executed c =
    let start = c.args.engine.now.run in
    let old = c.loop-ending.engine.run in
    let new = c.count_step.new.engine.run in
    executes-then start.left old.left new.left start.machine old.machine new.machine c.loop-ending.invariant.executed c.count_step.ensures.executed

pub returns-then-not-is_stop-clause-summary : goal.returns-then-not-is_stop-clause-summary
returns-then-not-is_stop-clause-summary c =
    ended c.args.engine.now.run c.loop-ending.engine.run c.count_step.new.engine.run c.loop-ending.counts c.count_step.new.counts c.in_ok-ending.ending c.loop-ending.invariant c.in_ok-ending.ensures.step
    (λ stop. not_both (c.is_stop.ensures.1 stop) c.if-not-is_stop.true)

pub returns-then-not-is_stop-clause-executed : goal.returns-then-not-is_stop-clause-executed
returns-then-not-is_stop-clause-executed c =
    let start = c.args.engine.now.run in
    let old = c.loop-ending.engine.run in
    let new = c.count_step.new.engine.run in
    executes-then start.left old.left new.left start.machine old.machine new.machine c.loop-ending.invariant.executed c.count_step.ensures.executed

pub loop-ending-preserved : goal.loop-ending-preserved
loop-ending-preserved c =
    stepped c.args.engine.now.run c.loop-ending.engine.run c.count_step.new.engine.run c.loop-ending.counts c.count_step.new.counts c.in_ok-ending.ending c.loop-ending.invariant c.in_ok-ending.ensures.step
    c.count_step.ensures.executed

pub loop-ending-smaller : goal.loop-ending-smaller
loop-ending-smaller c =
    let stop = c.is_stop.ensures.0 c.if-not-is_stop.false in
    let fewer : suc (arrivals c.count_step.new.engine.run.events) ≤ arrivals c.loop-ending.engine.run.events =
    less c.args.engine.now.run c.loop-ending.engine.run c.count_step.new.engine.run c.loop-ending.counts c.count_step.new.counts c.in_ok-ending.ending c.loop-ending.invariant c.in_ok-ending.ensures.step stop in
    omega (arith, fewer)
