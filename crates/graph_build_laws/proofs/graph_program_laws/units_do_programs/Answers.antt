use Rattle.graph_build_laws.proofs.Program.{does_program}
use Rattle.graph_build_laws.proofs.graph_program_laws.units_do_programs.Goals as goal

pub returns : goal.returns
returns c = does_program
