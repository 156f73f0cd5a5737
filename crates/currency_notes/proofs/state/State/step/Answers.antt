use Rattle.std.proofs.Common.{sym, ap, ◌∙◌}
use Rattle.graph_core.specs.Graphs.{instruction_view}
use Rattle.graph_core.specs.Uses.{target_of}
use Rattle.currency_notes.proofs.Steps.{written_step}
use Rattle.currency_notes.proofs.Keeping.{kept_write}
use Rattle.currency_notes.proofs.state.State.step.Goals as goal

pub returns-in-Some-clause-so : goal.returns-in-Some-clause-so
returns-in-Some-clause-so c = λ ps p h is so.
    written_step c.args.function.now.homes ps c.in-Some.target.0 c.args.self.now c.write.new.self p h (ap (λ i. target_of i) is ∙ sym c.in-Some.ensures) c.write.ensures so

pub returns-in-Some-clause-kept : goal.returns-in-Some-clause-kept
returns-in-Some-clause-kept c =
    kept_write c.args.function.now.homes c.in-Some.target.0 c.args.self.now c.write.new.self (instruction_view c.args.instruction.now) (sym c.in-Some.ensures) c.write.ensures
