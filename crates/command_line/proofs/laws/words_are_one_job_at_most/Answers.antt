use Rattle.command_line.proofs.GrammarLemmas.{one_job}
use Rattle.command_line.proofs.laws.words_are_one_job_at_most.Goals as goal

pub returns : goal.returns
returns c = one_job
