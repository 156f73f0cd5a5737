use Rattle.std.proofs.Common.{◌≡◌, ◌++◌, length, map}
use Rattle.rv_emit_layout.specs.Laid.{laid_view, words_of_all}
use Rattle.rv_emit_layout.proofs.assembling.push_functions.Given as goal

abbrev pub invariant-loop-left : goal.invariant-loop-left
invariant-loop-left l = l.code.items ++ words_of_all l.firsts l.function (map laid_view l.left) ≡ l.fn.code.items ++ words_of_all l.firsts 0 (map laid_view l.all)

abbrev pub decreases-loop-left : goal.decreases-loop-left
decreases-loop-left l = length l.left
