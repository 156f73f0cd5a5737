-- The instructions that a run executes, counted.
use Rattle.std.specs.Prelude.{◌≡◌, ℕ, zero, suc, ◌+◌}
use Rattle.rv_machine.specs.State.{MachineState}
use Rattle.rv_machine.specs.Table.{effect}

-- the state of a machine when it has executed so many instructions
abbrev pub state_after : (count : ℕ) → MachineState → MachineState
state_after zero s = s
state_after (suc n) s = (effect (state_after n s)).after

-- A machine that might execute so many instructions more has executed some of them, or none, and stands in the state
-- behind these. Each of them was counted: exactly as many fewer are left.
pub record Executes (before : ℕ) (s : MachineState) (left : ℕ) (t : MachineState) : Type 0 where
  -- how many it executed
  pub count : ℕ
  pub fewer : left + count ≡ before
  pub behind : t ≡ state_after count s
