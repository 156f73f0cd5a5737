use Rattle.copy_pass_laws.proofs.Meaning.{program_done}
use Rattle.copy_pass_laws.proofs.laws.copies_do_programs.Goals as goal

pub returns : goal.returns
returns c = program_done
