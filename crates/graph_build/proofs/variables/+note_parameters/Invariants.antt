use Rattle.std.proofs.Common.{length}
use Rattle.graph_build.proofs.variables.+note_parameters.Given as goal

abbrev pub decreases-note_parameters : goal.decreases-note_parameters
decreases-note_parameters l = length l.parameters.now
