-- Stretches of a run of the machine, with what is seen of them.
use Rattle.std.specs.Prelude.{◌≡◌, ℕ, ◌+◌, Bool, if◌then◌else◌, List, [], ◌++◌}
use Rattle.rv_machine.specs.State.{MachineState}
use Rattle.rv_machine.specs.Run.{MachineEvent, machine_run, arrival}
use Rattle.rv_emit_steps.specs.Holding.{Holding}
use Rattle.rv_emit_steps.specs.Programs.{Program, Stands}

-- The machine between two instructions, and whether the stop at which it stands was shown, if it stands at one.
pub record Point : Type 0 where
  pub state : MachineState
  pub shown : Bool

-- What is seen from a point on in at most so many instructions: the stop at which it stands, unless that was shown, and
-- what the instructions show. So whether a stop is seen depends on the word that comes next alone, and not on how it
-- was reached.
abbrev pub events : (stops : List ℕ) → Point → (limit : ℕ) → List MachineEvent
events stops p n = (if p.shown then [] else arrival stops p.state) ++ machine_run stops n p.state

-- So many instructions lead from one point to another, and show these events.
pub record Leads (stops : List ℕ) (n : ℕ) (p : Point) (shown : List MachineEvent) (q : Point) : Type 0 where
  pub by : (k j : ℕ) → j ≡ n + k → events stops p j ≡ shown ++ events stops q k

-- With so many instructions or more the run shows these events and has ended.
pub record Ends (stops : List ℕ) (n : ℕ) (p : Point) (shown : List MachineEvent) : Type 0 where
  pub by : (k j : ℕ) → j ≡ n + k → events stops p j ≡ shown

-- So many instructions lead from a point to the word at an index of the code and show these events; the machine then
-- holds this. Whether a stop at that word was shown is said too.
pub record Reaches (p : Program) (n : ℕ) (from : Point) (seen : List MachineEvent) (index : ℕ) (shown : Bool)
    (h : Holding) : Type 0 where
  pub state : MachineState
  pub leads : Leads p.stops n from seen (record { state = state; shown = shown })
  pub stands : Stands p state index h
