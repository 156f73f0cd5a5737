-- That the run of a unit's code comes to each event in time.
use Rattle.std.specs.Prelude.{ℕ, ◌*◌, ◌<◌, List, length}
use Rattle.std.specs.List.{AllByRecursion}
use Rattle.event_runs.specs.Following.{Follows}
use Rattle.graph_homes.specs.Homed.{HomedForm, over_homes}
use Rattle.graph_homes.specs.Seen.{seen_run}
use Rattle.rv_emit_tables.specs.Emitted.{EmittedForm}
use Rattle.rv_emit_runs.specs.Laid.{Arrangement}
use Rattle.rv_emit_runs.specs.Running.{emitted_run}
use Rattle.rv_emit_runs.specs.Standing.{SameSeen}

-- On each input of bytes, and for each number of steps of the unit, the machine comes by all that is seen of the unit
-- over homes, event by event and in order: to the first within 1,025 instructions for each word of the code, and from
-- each to the next one too. What is seen of the unit ends before a wild step, so nothing is asked behind that.
abbrev pub FollowsInTime : HomedForm → EmittedForm → Arrangement → Type 0
FollowsInTime h e a =
    (input : List ℕ) → AllByRecursion (λ b. b < 256) input → (steps : ℕ)
    → Follows (SameSeen h e a) (1025 * length e.code) (1025 * length e.code) (seen_run (over_homes h) input steps)
    (emitted_run e input)
