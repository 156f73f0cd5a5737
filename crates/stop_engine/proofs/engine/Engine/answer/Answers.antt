use Rattle.std.proofs.Common.{◌≡◌, false, ap, sym, refl, ◌∙◌}
use Rattle.script_form.specs.Script.{mark}
use Rattle.stop_engine.specs.EngineState.{EngineState}
use Rattle.stop_engine.specs.Marking.{aim_of}
use Rattle.stop_engine.specs.Transcript.{AnyStop, OneOf}
use Rattle.stop_engine.proofs.Answering.{answers-break, if_ok-with, leaves-off}
use Rattle.stop_engine.proofs.Executions.{executes-none}
use Rattle.stop_engine.proofs.engine.Engine.answer.Goals as goal

pub returns-in-Break-clause-answered : goal.returns-in-Break-clause-answered
returns-in-Break-clause-answered c =
    let unquit : c.args.self.now.has_quit ≡ false = ap (λ (e : EngineState). e.has_quit) (sym c.self.view_is) ∙ c.if-self.false in
    rw c.in-Break.is (if_ok-with c.set_marks.result _ _ _ c.set_marks.ensures.marked c.set_marks.ensures.lines (λ lines marked is. answers-break c.args.self.now c.set_marks.new.self (mark c.in-Break.target) _ unquit marked is))

pub returns-in-Step-clause-wanting : goal.returns-in-Step-clause-wanting
returns-in-Step-clause-wanting c =
    rw (← c.self.view_is) (leaves-off c.run_lines.result _ AnyStop c.run_lines.new.run _ refl c.run_lines.ensures.wanting)

pub returns-in-Continue-clause-wanting : goal.returns-in-Continue-clause-wanting
returns-in-Continue-clause-wanting c =
    rw (← c.self.view_is) (leaves-off c.run_lines-in-Continue.result _ (OneOf c.self.inside.marks.places) c.run_lines-in-Continue.new.run _ refl c.run_lines-in-Continue.ensures.wanting)

pub returns-in-Next-clause-wanting : goal.returns-in-Next-clause-wanting
returns-in-Next-clause-wanting c =
    rw (← c.self.view_is) (leaves-off c.run_lines-in-Next.result _ (aim_of c.next_stops-stops.result) c.run_lines-in-Next.new.run _ refl c.run_lines-in-Next.ensures.wanting)

pub returns-in-Some-clause-wanting : goal.returns-in-Some-clause-wanting
returns-in-Some-clause-wanting c =
    rw (← c.self.view_is) (leaves-off c.run_lines-in-Some.result _ (aim_of c.in-Some.stops) c.run_lines-in-Some.new.run _ refl c.run_lines-in-Some.ensures.wanting)

pub returns-then-self-clause-executed : goal.returns-then-self-clause-executed
returns-then-self-clause-executed c = rw (← c.self.view_is) (executes-none c.self.inside.run.left c.self.inside.run.machine)

pub returns-in-Break-clause-executed : goal.returns-in-Break-clause-executed
returns-in-Break-clause-executed c = rw (c.set_marks.ensures.run) (executes-none c.args.self.now.run.left c.args.self.now.run.machine)

pub returns-in-Step-clause-executed : goal.returns-in-Step-clause-executed
returns-in-Step-clause-executed c = rw (← c.self.view_is) c.run_lines.ensures.executed

pub returns-in-Continue-clause-executed : goal.returns-in-Continue-clause-executed
returns-in-Continue-clause-executed c = rw (← c.self.view_is) c.run_lines-in-Continue.ensures.executed

pub returns-in-Print-clause-executed : goal.returns-in-Print-clause-executed
returns-in-Print-clause-executed c = rw (← c.self.view_is) (executes-none c.self.inside.run.left c.self.inside.run.machine)

pub returns-in-Locals-clause-executed : goal.returns-in-Locals-clause-executed
returns-in-Locals-clause-executed c = rw (← c.self.view_is) (executes-none c.self.inside.run.left c.self.inside.run.machine)

pub returns-in-Where-clause-executed : goal.returns-in-Where-clause-executed
returns-in-Where-clause-executed c = rw (← c.self.view_is) (executes-none c.self.inside.run.left c.self.inside.run.machine)

pub returns-in-Quit-clause-executed : goal.returns-in-Quit-clause-executed
returns-in-Quit-clause-executed c = rw (← c.self.view_is) (executes-none c.self.inside.run.left c.self.inside.run.machine)
