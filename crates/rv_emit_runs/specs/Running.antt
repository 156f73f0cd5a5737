-- That the run of a unit's code shows what is seen of the unit over homes.
use Rattle.std.specs.Prelude.{ℕ, ◌<◌, List}
use Rattle.std.specs.List.{AllByRecursion}
use Rattle.rv_machine.specs.Run.{MachineEvent, machine_run}
use Rattle.rv_machine.specs.Table.{started}
use Rattle.event_runs.specs.Agreement.{Agree}
use Rattle.event_runs.specs.Following.{Comes}
use Rattle.graph_homes.specs.Homed.{HomedForm, over_homes}
use Rattle.graph_homes.specs.Seen.{seen_run}
use Rattle.rv_emit_tables.specs.Emitted.{EmittedForm}
use Rattle.rv_emit_runs.specs.Laid.{Arrangement, stop_addresses}
use Rattle.rv_emit_runs.specs.Standing.{SameSeen}

-- The run of the machine over the code: its events in at most so many instructions.
abbrev pub emitted_run : EmittedForm → (input : List ℕ) → (limit : ℕ) → List MachineEvent
emitted_run e input limit = machine_run (stop_addresses e) limit (started e.map e.code e.initial input)

-- On each input of bytes, and for each number of steps of the unit, the machine comes by all that is seen of the unit
-- over homes, event by event and in order. What is seen of the unit ends before a wild step, so nothing is asked behind
-- that.
abbrev pub ComesByAll : HomedForm → EmittedForm → Arrangement → Type 0
ComesByAll h e a =
    (input : List ℕ) → AllByRecursion (λ b. b < 256) input → (steps : ℕ)
    → Comes (SameSeen h e a) (seen_run (over_homes h) input steps) (emitted_run e input)

-- On each input of bytes the events of the unit over homes and of the machine are the same one by one, as far as both
-- go, whatever the numbers of steps and of instructions.
abbrev pub AgreesThroughout : HomedForm → EmittedForm → Arrangement → Type 0
AgreesThroughout h e a =
    (input : List ℕ) → AllByRecursion (λ b. b < 256) input → (steps limit : ℕ)
    → Agree (SameSeen h e a) (seen_run (over_homes h) input steps) (emitted_run e input limit)
