use Rattle.std.proofs.Common.{◌≡◌, ◌++◌, length, map}
use Rattle.rv_emit_layout.specs.Laid.{firsts_from, laid_view}
use Rattle.rv_emit_layout.proofs.assembling.firsts_of.Given as goal

abbrev pub invariant-loop-left : goal.invariant-loop-left
invariant-loop-left l = l.firsts.items ++ firsts_from l.words (map laid_view l.left) ≡ firsts_from l.stub (map laid_view l.all)

abbrev pub decreases-loop-left : goal.decreases-loop-left
decreases-loop-left l = length l.left
