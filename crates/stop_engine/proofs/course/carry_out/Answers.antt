use Rattle.rv_machine.specs.Run.{machine_run}
use Rattle.stop_engine.specs.Marking.{aim_of}
use Rattle.stop_engine_view.specs.Run.{stop_addresses}
use Rattle.stop_engine.proofs.Stepping.{passes-out}
use Rattle.stop_engine.proofs.course.carry_out.Goals as goal

pub returns-in-Out-clause-passes : goal.returns-in-Out-clause-passes
returns-in-Out-clause-passes c = λ events n p.
    let stops = stop_addresses c.args.table.now in
    c.arrived-in-Out.ensures.passes events c.push_reserved.new.self.items (machine_run stops n c.step.new.self)
    (passes-out c.args.table.now (aim_of c.args.aim.now) stops events c.args.output.now.items c.push_reserved.new.self.items n c.in-Out.byte c.args.machine.now c.step.new.self c.step.result c.step.ensures c.in-Out.is c.push_reserved.ensures.items p)
