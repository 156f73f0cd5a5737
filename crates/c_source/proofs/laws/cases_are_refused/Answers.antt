use Rattle.c_source.proofs.Refused.{are_refused}
use Rattle.c_source.proofs.laws.cases_are_refused.Goals as goal

pub returns : goal.returns
returns c = are_refused
