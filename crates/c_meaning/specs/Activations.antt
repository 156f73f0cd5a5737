-- Activations of functions, and the stops at their places (ISO/IEC 9899:2011, 5.1.2.3).
use Rattle.std.specs.Prelude.{ℕ, zero, suc, ◌+◌, List, ◌∷◌, length, map}
use Rattle.debug_records.specs.declared.source.Spot.{Spot}
use Rattle.c_tree.specs.Programs.{ProgramTree}
use Rattle.word_base.specs.Owners.{Owner, Variable}
use Rattle.c_meaning_steps.specs.declared.event.Frame.{Frame}
use Rattle.c_meaning_steps.specs.declared.event.Ending.TheVariants.{Turns}
use Rattle.c_meaning_values.specs.Memory.{Memory, contents}
use Rattle.c_places.specs.Places.{Place, place_number_at, scope_at, visible}
use Rattle.c_meaning_steps.specs.States.{Shown, Stop, State, seen, Outcome, Ended}

-- What is the same for all of an activation: the program and its places, the function, and the activations that wait,
-- each with the place of its call, from the innermost on.
pub record Activation : Type 0 where
  pub program : ProgramTree
  pub places : List Place
  pub function : ℕ
  pub waiting : List Frame

-- how many activations live
abbrev pub depth_of : Activation → ℕ
depth_of here = length here.waiting + 1

-- all live activations, where this one stands at a place
abbrev pub frames_at : Activation → ℕ → List Frame
frames_at here place = record { function = here.function; place = place } ∷ here.waiting

-- the owner of this activation's object of a variable
abbrev pub variable_owner : Activation → ℕ → Owner
variable_owner here x = Variable x (depth_of here)

-- what a stop shows of a variable: its values in memory
abbrev pub shown : Activation → Memory → ℕ → Shown
shown here memory x = record { variable = x; values = contents (variable_owner here x) memory }

-- the visible variables at the place at a position, with their values
abbrev pub shown_at : Activation → ℕ → Memory → List Shown
shown_at here at memory = map (shown here memory) (visible here.program.automatics (scope_at here.places at))

-- the stop at the place at a position
abbrev pub stopped : Activation → ℕ → State → State
stopped here at s =
    let place = place_number_at here.places at in
    seen (Stop place (depth_of here) (frames_at here place) (shown_at here at s.memory) s.memory) s

-- A place has begun, or no turn was left for it.
pub data Begun : Type 0 where
  Goes : State → Begun
  NoTurn : State → Begun

-- A place is begun: that is a turn and a stop, before anything of the place is done (5.1.2.3).
abbrev pub begin : Activation → Spot → State → Begun
begin here spot s =
    elim s.turns [ zero ↦ NoTurn s | suc left ↦ Goes (stopped here spot.at (record s { turns = left })) ]

-- what is done where a turn is left
abbrev pub on_begun : Begun → (State → Outcome) → Outcome
on_begun (Goes s) go = go s
on_begun (NoTurn s) go = Ended Turns s

-- what is done at a place
abbrev pub at : Activation → Spot → State → (State → Outcome) → Outcome
at here spot s go = on_begun (begin here spot s) go
