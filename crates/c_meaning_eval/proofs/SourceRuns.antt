-- The run of a program, from what its parts give.
use Rattle.std.proofs.Common.{◌≡◌, ℕ, List, [], sym, ap, ◌∙◌}
use Rattle.c_tree.specs.Programs.{ProgramTree}
use Rattle.c_places.specs.Places.{Place, places_of_program}
use Rattle.c_meaning_steps.specs.declared.state.Evaluated as declared-evaluated
use Rattle.c_meaning_steps.specs.declared.event.Ending.{Ending}
use Rattle.c_meaning_values.specs.Memory.{Memory}
use Rattle.c_meaning_steps.specs.States.{Event, State}
use Rattle.c_meaning_steps.specs.Views.{evaluated_view}
use Rattle.c_meaning.specs.Runs.{calls_of, finished, source_run, with_ending}
use Rattle.c_meaning.specs.StaticStorage.{first_memory}

-- what `main` comes to, begun with the first memory, ends the run
pub run_is : (p : ProgramTree) (input : List ℕ) (turns : ℕ) (places : List Place) (memory : Memory) (events : List Event) (value : declared-evaluated.Evaluated) (after : State) (ending : Ending)
    → places ≡ places_of_program p → memory ≡ first_memory p → events ≡ []
    → evaluated_view value after ≡ calls_of p places 1024 [] p.main [] (record { memory = memory; input = input; events = events; turns = turns })
    → ((s : State) → finished (evaluated_view value s) ≡ with_ending ending s.events) → with_ending ending after.events ≡ source_run p input turns
run_is p input turns places memory events value after ending is_places is_memory is_events comes ends =
    sym (ends after) ∙ ap finished comes
    ∙ ap (λ all. finished (calls_of p all 1024 [] p.main [] (record { memory = memory; input = input; events = events; turns = turns }))) is_places
    ∙ ap (λ m. finished (calls_of p (places_of_program p) 1024 [] p.main [] (record { memory = m; input = input; events = events; turns = turns }))) is_memory
    ∙ ap (λ e. finished (calls_of p (places_of_program p) 1024 [] p.main [] (record { memory = first_memory p; input = input; events = e; turns = turns }))) is_events
