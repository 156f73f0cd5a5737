-- Which names are stale: those that have not the value any more which the program gave them, since the write of it
-- goes.
use Rattle.std.specs.Prelude.{◌≡◌, ℕ, true, false, List, ◌∷◌, length}
use Rattle.places.specs.declared.flow.Assignment.{Assignment}
use Rattle.graph_core.specs.Graphs.{Instruction, End, Graph}
use Rattle.graph_core.specs.Paths.{Passed, History, Path, writes}
use Rattle.graph_core.specs.Points.{Behind}
use Rattle.dead_pass_rule.specs.Idle.{Goes}

module _ (assignments : List Assignment) (g : Graph) where
  -- What was passed on a way goes.
  pub record Went (i : Passed) : Type 0 where
    pub rest : List Instruction
    pub end : End
    pub behind : Behind g i.instruction i.block rest end
    pub left : length rest ≡ i.left
    pub goes : Goes assignments g i.block (i.instruction ∷ rest) end

  -- The last write of a name on a way goes.
  pub data IsStale (y : ℕ) : History → Type 0 where
    went : {i : Passed} {h : History} → writes y i.instruction ≡ true → Went i → IsStale y (i ∷ h)
    before : {i : Passed} {h : History} → writes y i.instruction ≡ false → IsStale y h → IsStale y (i ∷ h)

  -- Some path comes to a point with a name that is stale.
  pub record ComesStale (y n : ℕ) (rest : List Instruction) (e : End) : Type 0 where
    pub history : History
    pub path : Path g history n rest e
    pub stale : IsStale y history
