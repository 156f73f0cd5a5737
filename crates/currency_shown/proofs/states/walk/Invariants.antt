use Rattle.std.proofs.Common.{◌≡◌, ◌∷◌, ℕ, List, Some, drop}
use Rattle.currency_shown.specs.Chains.{last_in, IsFullAtStart, IsLinked}
use Rattle.currency_shown.proofs.Chaining.{GoesOn}
use Rattle.currency_shown.proofs.states.walk.Given as goal

abbrev pub invariant-loop-number : goal.invariant-loop-number
invariant-loop-number l =
    (first last : ℕ) (more : List ℕ) → IsLinked l.function.graph.now.blocks.items l.chain → l.chain ≡ first ∷ more → last_in l.chain ≡ Some last → IsFullAtStart l.function l.fn.state first → GoesOn l.function l.state (drop l.number-index l.chain) last
