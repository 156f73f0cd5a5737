-- What begins and ends an activation (ISO/IEC 9899:2011, 5.1.2.2, 6.5.2.2, 6.9.1).
use Rattle.std.specs.Prelude.{ℕ, zero, suc, ◌+◌, pos, Bool, if◌then◌else◌, Option, Some, None, List, [], ◌∷◌, ◌++◌, map}
use Rattle.debug_records.specs.declared.source.Spot.{Spot}
use Rattle.c_meaning_values.specs.declared.value.Value.{Value}
use Rattle.c_meaning_values.specs.declared.value.Value.TheVariants.{Number}
use Rattle.c_meaning_values.specs.declared.value.Phase.TheVariants.{Live}
use Rattle.c_meaning_steps.specs.declared.event.Ending.TheVariants.{Undefined, Turns}
use Rattle.c_meaning_values.specs.Memory.{Memory, with_value}
use Rattle.c_meaning_steps.specs.States.{State, Evaluated, Gives, Leaves, Ends, Outcome, Next, Broken, Continued, Returned, Ended}
use Rattle.c_meaning.specs.Activations.{Activation, at, Begun, Goes, NoTurn}
use Rattle.c_meaning.specs.Lifetimes.{objects_of, ending_from}

-- a parameter is an object of its own, with the value of its argument (6.5.2.2p4)
abbrev pub bind_one : Activation → ℕ → Value → Memory → Memory
bind_one here x v memory = memory ++ map (λ o. with_value o 0 v) (objects_of here Live x)

-- the parameters of an activation take the values of the arguments
abbrev pub bind : Activation → List ℕ → List Value → Memory → Memory
bind here [] vs memory = memory
bind here (x ∷ xs) [] memory = memory
bind here (x ∷ xs) (v ∷ vs) memory = bind here xs vs (bind_one here x v memory)

-- an entry is begun: that is a turn, but no stop
abbrev pub enter_turn : State → Begun
enter_turn s = elim s.turns [ zero ↦ NoTurn s | suc left ↦ Goes (record s { turns = left }) ]

-- what is done where a turn is left for a call
abbrev pub on_entry : Begun → (State → Evaluated) → Evaluated
on_entry (Goes s) go = go s
on_entry (NoTurn s) go = Ends Turns s

-- Reaching the closing brace of `main` returns 0; that of another function gives no value (5.1.2.2.3, 6.9.1p12).
abbrev pub value_at_close : Bool → State → Evaluated
value_at_close is_main s = if is_main then Gives (Number (pos 0)) s else Leaves s

-- the value that a call gives, if it gives one
abbrev pub value_returned : Option Value → State → Evaluated
value_returned (Some v) s = Gives v s
value_returned None s = Leaves s

-- what a function's body leaves to its caller
abbrev pub handed_back : Bool → Outcome → Evaluated
handed_back is_main (Next s) = value_at_close is_main s
handed_back is_main (Returned v s) = value_returned v s
handed_back is_main (Broken s) = Ends Undefined s
handed_back is_main (Continued s) = Ends Undefined s
handed_back is_main (Ended e s) = Ends e s

-- the closing brace, where control reaches it
abbrev pub at_close : Activation → Spot → Outcome → Outcome
at_close here close (Next s) = at here close s Next
at_close here close (Broken s) = Broken s
at_close here close (Continued s) = Continued s
at_close here close (Returned v s) = Returned v s
at_close here close (Ended e s) = Ended e s

-- the objects of an activation end with it (6.2.4p6)
abbrev pub forgotten : ℕ → Evaluated → Evaluated
forgotten n (Gives v s) = Gives v (ending_from n s)
forgotten n (Leaves s) = Leaves (ending_from n s)
forgotten n (Ends e s) = Ends e s
