-- What graphs within bounds have.
use Rattle.std.proofs.Common.{ℕ, ◌<◌, ◌≤◌, ◌^◌, Bool, List, length, arith}
use Rattle.graph_core.specs.Bounds.{most_instructions_of_function}
use Rattle.graph_core.specs.Computations.{Computation}
use Rattle.graph_core.specs.Graphs.{Graph}
use Rattle.motion_pass_points.proofs.Few.{blocks_all, blocks_few, once_all, once_few}
use Rattle.motion_pass_points.specs.Named.{AreNamed, IsNamed}
use Rattle.motion_pass_points.specs.Numbers.{AreOnce, computed_in}
use Rattle.motion_pass_placement.specs.Bounded.{IsBounded}

module _ (g : Graph) (is : IsBounded g) where
  pub few_blocks : length g.blocks < 2 ^ 32
  few_blocks = (let few = is.blocks in omega (arith, few))

  module _ (told : ℕ → Bool) (all : List Computation) (once : AreOnce (computed_in told 0 g.blocks) all) where
    -- its computations are no more than its instructions
    pub few_computed : length all ≤ most_instructions_of_function
    few_computed = (let one = once_few once in let more = blocks_few told 0 g.blocks in let most = is.instructions in omega (arith, one, more, most))

    -- and made of its names
    pub computed_named : AreNamed g.name_count all
    computed_named = once_all (IsNamed g.name_count) once (blocks_all (IsNamed g.name_count) told 0 g.blocks is.named)
