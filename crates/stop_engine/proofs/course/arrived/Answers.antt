use Rattle.stop_engine.specs.Marking.{aim_of}
use Rattle.stop_engine_view.specs.Run.{stop_addresses}
use Rattle.stop_engine.proofs.Stepping.{passes-arrived}
use Rattle.stop_engine.proofs.course.arrived.Goals as goal

pub returns-then-not-has-clause-passes : goal.returns-then-not-has-clause-passes
returns-then-not-has-clause-passes c = λ events output rest p.
    passes-arrived c.args.table.now (aim_of c.args.aim.now) (stop_addresses c.args.table.now) events output c.args.machine.now rest c.pc.result c.depth-depth.result c.in_ok-place.place
    c.pc.ensures c.depth-depth.ensures c.in_ok-place.ensures.stop c.in_ok-place.ensures.place (cc (c.has.ensures, c.if-not-has.true)) p
