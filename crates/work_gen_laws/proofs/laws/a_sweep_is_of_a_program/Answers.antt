use Rattle.work_gen_laws.proofs.Swept.{swept_has_program}
use Rattle.work_gen_laws.proofs.laws.a_sweep_is_of_a_program.Goals as goal

pub returns : goal.returns
returns c = swept_has_program
