use Rattle.c_token.proofs.Readings.{spells_reads, breach_is_told}
use Rattle.c_token.proofs.laws.a_text_has_one_reading.Goals as goal

pub returns-clause-spelled : goal.returns-clause-spelled
returns-clause-spelled c = spells_reads

pub returns-clause-broken : goal.returns-clause-broken
returns-clause-broken c = breach_is_told
