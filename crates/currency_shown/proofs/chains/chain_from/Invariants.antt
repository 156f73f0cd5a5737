use Rattle.std.proofs.Common.{◌≡◌, ◌∷◌, ◌<◌, ◌-◌, ℕ, List, Some, length}
use Rattle.graph_core.specs.Paths.{Among}
use Rattle.currency_shown.specs.Chains.{last_in, position_at, IsFollowing, IsLinked}
use Rattle.currency_shown.proofs.chains.chain_from.Given as goal

abbrev pub invariant-loop-next : goal.invariant-loop-next
invariant-loop-next l = record {
  begins : (more : List ℕ) × (l.chain.items ≡ l.first ∷ more);
  linked : IsLinked l.blocks l.chain.items;
  following : IsFollowing l.links l.chain.items;
  within : (n : ℕ) → Among n l.chain.items → n < length l.blocks;
  last : last_in l.chain.items ≡ Some l.last;
}

abbrev pub decreases-loop-next : goal.decreases-loop-next
decreases-loop-next l = length l.links.positions.items - position_at l.links.positions.items l.last
