-- Calls, and the run of a program (ISO/IEC 9899:2011, 5.1.2.2, 6.5.2.2, 6.9.1).
use Rattle.std.specs.Prelude.{ℕ, zero, suc, ◌+◌, ◌==◌, Option, Some, None, List, [], ◌∷◌, ◌++◌, length, slice_get}
use Rattle.c_tree.specs.Programs.{TypedFunctionTree, ProgramTree}
use Rattle.c_meaning_values.specs.declared.value.Value.{Value}
use Rattle.c_meaning_values.specs.declared.value.Value.TheVariants.{Number}
use Rattle.c_meaning_steps.specs.declared.event.Frame.{Frame}
use Rattle.c_meaning_steps.specs.declared.event.Ending.{Ending}
use Rattle.c_meaning_steps.specs.declared.event.Ending.TheVariants.{Undefined, Exit, Depth, Turns}
use Rattle.c_places.specs.Places.{Place, places_of_program, parameters_of}
use Rattle.c_meaning_steps.specs.States.{Event, Exited, TooDeep, State, Evaluated, Gives, Leaves, Ends}
use Rattle.c_meaning.specs.Expressions.{Calls}
use Rattle.c_meaning.specs.Activations.{Activation}
use Rattle.c_meaning.specs.Statements.{execute_all}
use Rattle.c_meaning.specs.Calls.{bind, enter_turn, on_entry, handed_back, at_close, forgotten}
use Rattle.c_meaning.specs.StaticStorage.{first_memory}

-- an activation: its entry, its parameters, its body, and its closing brace where control reaches it
abbrev pub activate : (ℕ → Calls) → Activation → Option TypedFunctionTree → List Value → State → Evaluated
activate calls here None vs s = Ends Undefined s
activate calls here (Some f) vs s = on_entry (enter_turn s) (λ t.
    forgotten (length s.memory) (handed_back (here.function == here.program.main)
    (at_close here f.close
    (execute_all calls here f.body (record t { memory = bind here (parameters_of f) vs t.memory })))))

-- What a call comes to where so many activations may still begin. Others wait, each at the place of its call.
abbrev pub calls_of : ProgramTree → List Place → ℕ → List Frame → Calls
calls_of program places zero waiting f vs s = Ends Depth s
calls_of program places (suc left) waiting f vs s =
    activate (λ place. calls_of program places left (record { function = f; place = place } ∷ waiting))
    (record {
      program = program;
      places = places;
      function = f;
      waiting = waiting;
    }) (slice_get program.functions f) vs s

-- what a call at a place of an activation comes to, where so many may still begin
abbrev pub calls_at : Activation → ℕ → (place : ℕ) → Calls
calls_at here left place =
    calls_of here.program here.places left (record { function = here.function; place = place } ∷ here.waiting)

-- A run: what was seen of it, and how it ended, or that its turns are used up.
pub record SourceRun : Type 0 where
  pub events : List Event
  pub ending : Ending

-- the run of a program with this ending: that the program ends and that a call is too deep can be seen, undefined
-- behaviour can't
abbrev pub with_ending : Ending → List Event → SourceRun
with_ending Undefined events = record { events = events; ending = Undefined }
with_ending (Exit status) events = record { events = events ++ Exited status ∷ []; ending = Exit status }
with_ending Depth events = record { events = events ++ TooDeep ∷ []; ending = Depth }
with_ending Turns events = record { events = events; ending = Turns }

-- `main` returns the status of the program (5.1.2.2.3)
abbrev pub finished : Evaluated → SourceRun
finished (Gives (Number status) s) = with_ending (Exit status) s.events
finished (Gives v s) = with_ending Undefined s.events
finished (Leaves s) = with_ending Undefined s.events
finished (Ends e s) = with_ending e s.events

-- The run of a program on an input, of at most so many turns. Nothing follows what C does not define.
abbrev pub source_run : ProgramTree → (input : List ℕ) → (turns : ℕ) → SourceRun
source_run p input turns =
    finished (calls_of p (places_of_program p) 1024 [] p.main [] (record {
      memory = first_memory p;
      input = input;
      events = [];
      turns = turns;
    }))
