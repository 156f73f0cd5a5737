-- The writes that may go, and those that go.
use Rattle.std.specs.Prelude.{◌≡◌, ◌↔◌, ℕ, ◌<◌, Bool, true, false, Option, Some, List, [], ◌∷◌, ◌++◌, length, slice_get}
use Rattle.places.specs.declared.flow.Assignment.{Assignment}
use Rattle.graph_core.specs.Graphs.{Instruction, Block, Graph}
use Rattle.graph_core.specs.Uses.{target_of}
use Rattle.graph_core.specs.Validity.{place_behind}
use Rattle.dead_pass_rule.specs.Idle.{MayGo, Goes}

-- the write of a name where a place is in force may go
pub record IsFree (assignments : List Assignment) (g : Graph) (place : Option ℕ) (i : Instruction) : Type 0 where
  pub p : ℕ
  pub x : ℕ
  pub in_place : place ≡ Some p
  pub target : target_of i ≡ Some x
  pub may_go : MayGo assignments g p x

-- The writes that go are just those that shall.
pub record AreIdle (assignments : List Assignment) (g : Graph) (going : (block left : ℕ) → Bool) : Type 0 where
  pub goes : (n : ℕ) (b : Block) (before rest : List Instruction) (i : Instruction) → slice_get g.blocks n ≡ Some b
      → b.instructions ≡ before ++ i ∷ rest → (going n (length rest) ≡ true) ↔ Goes assignments g n (i ∷ rest) b.end
