use Rattle.std.proofs.Common.{length}
use Rattle.graph_build_statements.proofs.declaring.+store_elements.Given as goal

abbrev pub decreases-store_elements : goal.decreases-store_elements
decreases-store_elements l = length l.all.now
