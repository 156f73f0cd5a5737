use Rattle.std.proofs.Common.{length}
use Rattle.graph_build_statements.proofs.declaring.+add_declared.Given as goal

abbrev pub decreases-add_declared : goal.decreases-add_declared
decreases-add_declared l = length l.all.now
