use Rattle.pass_law.proofs.WorkedLogs.{no_pass_logs}
use Rattle.pass_law.proofs.laws.logs_are_bounded.Goals as goal

pub returns : goal.returns
returns c = no_pass_logs
