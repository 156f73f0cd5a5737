use Rattle.std.proofs.Common.{refl, ◌∙◌}
use Rattle.rv_machine.specs.Run.{machine_run}
use Rattle.stop_engine.specs.Marking.{aim_of}
use Rattle.stop_engine_view.specs.Run.{stop_addresses}
use Rattle.stop_engine.proofs.Executions.{executes-none}
use Rattle.stop_engine.proofs.Stepping.{on_err-always, passes-unanswered, ran-to_halt, wants-before_moving, wants-on_its_way}
use Rattle.stop_engine.proofs.run.Run.run_to.Goals as goal

pub returns-in_err-reserve-clause-wanting : goal.returns-in_err-reserve-clause-wanting
returns-in_err-reserve-clause-wanting c =
    let r = c.self.inside in
    let output = c.reserve.ensures.items ∙ c.forget_answered.ensures in
    on_err-always c.from_residual.result _ (rw (← c.self.view_is) (wants-before_moving r.table (aim_of c.args.stops.now) r.limit r.left r.standing r.machine _ _ (cc) output))

pub returns-in_err-halt-clause-wanting : goal.returns-in_err-halt-clause-wanting
returns-in_err-halt-clause-wanting c =
    let r = c.self.inside in
    let aim = aim_of c.args.stops.now in
    let output = c.reserve.ensures.items ∙ c.forget_answered.ensures in
    let start = passes-unanswered r.table aim r.standing r.output.items c.reserve.new.self.items (machine_run (stop_addresses r.table) r.left r.machine) (cc) output in
    on_err-always c.from_residual-in_err-halt.result _ (rw (← c.self.view_is) (wants-on_its_way r.table aim r.limit r.left c.run_on.new.left r.standing r.machine c.run_on.new.machine r.output.items c.run_on.new.output.items (c.in_err-halt.ensures.kept _ start) c.in_err-halt.ensures.full))

pub returns-clause-ran : goal.returns-clause-ran
returns-clause-ran c =
    let r = c.self.inside in
    let aim = aim_of c.args.stops.now in
    let output = c.reserve.ensures.items ∙ c.forget_answered.ensures in
    let start = passes-unanswered r.table aim r.standing r.output.items c.reserve.new.self.items (machine_run (stop_addresses r.table) r.left r.machine) (cc) output in
    rw (← c.self.view_is) (record {
      image = refl;
      limit = refl;
      reach = ran-to_halt r.table aim r.standing r.machine c.run_on.new.machine r.output.items c.run_on.new.output.items (machine_run (stop_addresses r.table) r.left r.machine) (machine_run (stop_addresses r.table) c.run_on.new.left c.run_on.new.machine) c.in_ok-halt.halt (cc) (c.in_ok-halt.ensures.passes _ start) c.in_ok-halt.ensures.aimed;
    })

pub returns-in-Some-clause-executed : goal.returns-in-Some-clause-executed
returns-in-Some-clause-executed c = rw (← c.self.view_is) (executes-none c.self.inside.left c.self.inside.machine)

pub returns-in_err-reserve-clause-executed : goal.returns-in_err-reserve-clause-executed
returns-in_err-reserve-clause-executed c = rw (← c.self.view_is) (executes-none c.self.inside.left c.self.inside.machine)

pub returns-in_err-halt-clause-executed : goal.returns-in_err-halt-clause-executed
returns-in_err-halt-clause-executed c = rw (← c.self.view_is) c.run_on.ensures.executed

pub returns-clause-executed : goal.returns-clause-executed
returns-clause-executed c = rw (← c.self.view_is) c.run_on.ensures.executed
