use Rattle.work_gen_laws.proofs.Whole.{generated_has_program}
use Rattle.work_gen_laws.proofs.laws.generated_is_a_program.Goals as goal

pub returns : goal.returns
returns c = λ seed size small some few. generated_has_program seed size few
