use Rattle.std.proofs.Common.{map, string_bytes}
use Rattle.command_line.proofs.GrammarLemmas.{job_or_none}
use Rattle.command_line.proofs.reading.job_of.Goals as goal

pub returns-clause-job : goal.returns-clause-job
returns-clause-job c = (job_or_none (map string_bytes c.args.words.now) c.job_read.result c.job_read.ensures).0

pub returns-clause-none : goal.returns-clause-none
returns-clause-none c = (job_or_none (map string_bytes c.args.words.now) c.job_read.result c.job_read.ensures).1
