use Rattle.std.proofs.Common.{◌≡◌, ◌<◌, ◌≤◌, suc, ◌-◌, sym, subst, arith, vec_capacity}
use Rattle.rv_machine.specs.Run.{machine_run}
use Rattle.stop_engine.specs.declared.course.TheConstants.{ROOM}
use Rattle.stop_engine.specs.Marking.{aim_of}
use Rattle.stop_engine.specs.Passing.{PassesBy}
use Rattle.stop_engine_view.specs.Run.{stop_addresses}
use Rattle.stop_engine.proofs.Executions.{executes-none, executes-one, executes-then}
use Rattle.stop_engine.proofs.course.run_on.Goals as goal

pub loop-left-init : goal.loop-left-init
loop-left-init c = (c.requires, λ events p. p, executes-none c.args.left.now c.args.machine.now)

pub returns-in-Some-clause-passes : goal.returns-in-Some-clause-passes
returns-in-Some-clause-passes c = λ events p.
    let m = c.args.table.now in
    let aim = aim_of c.args.aim.now in
    let stops = stop_addresses m in
    let some : c.loop-left.left ≡ suc (c.loop-left.left - 1) = omega arith in
    let here = subst (λ n. PassesBy m aim events c.loop-left.output.items (machine_run stops n c.loop-left.machine)) some (c.loop-left.invariant.1 events p) in
    let roomy = subst (λ o. PassesBy m aim events o (machine_run stops (suc (c.loop-left.left - 1)) c.loop-left.machine)) (sym c.make_room.ensures.items) here in
    c.in-Some.ensures.passes events (c.loop-left.left - 1) roomy

pub returns-in-Some-clause-executed : goal.returns-in-Some-clause-executed
returns-in-Some-clause-executed c =
    let some : 0 < c.loop-left.left = omega arith in
    executes-then c.args.left.now c.loop-left.left (c.loop-left.left - 1) c.args.machine.now c.loop-left.machine c.carry_out.new.machine c.loop-left.invariant.2
    (executes-one c.loop-left.left c.loop-left.machine c.carry_out.new.machine some c.carry_out.ensures.moved)

pub loop-left-preserved : goal.loop-left-preserved
loop-left-preserved c =
    let m = c.args.table.now in
    let aim = aim_of c.args.aim.now in
    let stops = stop_addresses m in
    let some : c.loop-left.left ≡ suc (c.loop-left.left - 1) = omega arith in
    let before : ROOM ≤ vec_capacity c.loop-left.output = c.loop-left.invariant.0 in
    let kept : vec_capacity c.loop-left.output ≤ vec_capacity c.make_room.new.output = c.make_room.ensures.kept in
    let same : vec_capacity c.carry_out.new.output ≡ vec_capacity c.make_room.new.output = c.carry_out.ensures.room in (
      omega (arith, before, kept, same),
      λ events p.
          let here = subst (λ n. PassesBy m aim events c.loop-left.output.items (machine_run stops n c.loop-left.machine)) some (c.loop-left.invariant.1 events p) in
          let roomy = subst (λ o. PassesBy m aim events o (machine_run stops (suc (c.loop-left.left - 1)) c.loop-left.machine)) (sym c.make_room.ensures.items) here in
          c.in-None.ensures.passes events (c.loop-left.left - 1) roomy,
      executes-then c.args.left.now c.loop-left.left (c.loop-left.left - 1) c.args.machine.now c.loop-left.machine c.carry_out.new.machine c.loop-left.invariant.2
          (executes-one c.loop-left.left c.loop-left.machine c.carry_out.new.machine (omega arith) c.carry_out.ensures.moved),
    )
