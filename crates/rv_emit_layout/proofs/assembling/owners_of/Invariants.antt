use Rattle.std.proofs.Common.{◌≡◌, ◌++◌, length, map}
use Rattle.rv_emit_layout.specs.declared.layout.OwnedWord.{OwnedWord}
use Rattle.rv_emit_layout.proofs.assembling.owners_of.Given as goal

abbrev pub invariant-loop-left : goal.invariant-loop-left
invariant-loop-left l = l.owners.items ++ map (λ (w : OwnedWord). w.owner) l.left ≡ map (λ (w : OwnedWord). w.owner) l.code

abbrev pub decreases-loop-left : goal.decreases-loop-left
decreases-loop-left l = length l.left
