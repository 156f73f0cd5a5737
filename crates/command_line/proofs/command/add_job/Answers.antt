use Rattle.std.proofs.lemmas.Result.{IfOk-weaker}
use Rattle.command_line.proofs.CommandsLemmas.{job_shape}
use Rattle.command_line.proofs.command.add_job.Goals as goal

pub returns : goal.returns
returns c = IfOk-weaker c.push.result _ _ (λ u h. (_, h, job_shape c.args.name.now c.args.options.now c.args.places.now _ c.in_ok-job_command.ensures.app c.in_ok-job_command.ensures.local)) c.push.ensures
