use Rattle.std.proofs.lemmas.Result.{IfOk-weaker}
use Rattle.command_line.proofs.CommandsLemmas.{job_made}
use Rattle.command_line.proofs.command.job_command.Goals as goal

pub returns : goal.returns
returns c = record {
  app = IfOk-weaker c.args-2.result _ _ (λ d h. (job_made c.args.name.now c.new.result d _ _ c.in_ok-arguments.ensures h c.new.ensures.app c.new.ensures.local).0) c.args-2.ensures;
  local = IfOk-weaker c.args-2.result _ _ (λ d h. (job_made c.args.name.now c.new.result d _ _ c.in_ok-arguments.ensures h c.new.ensures.app c.new.ensures.local).1) c.args-2.ensures;
}
