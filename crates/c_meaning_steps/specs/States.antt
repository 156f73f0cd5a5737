-- What a run has at each moment, what can be seen of it, and how its parts may end.
use Rattle.std.specs.Prelude.{Bool, ℕ, ℤ, true, false, List, [], ◌∷◌, ◌++◌, Option, Some, None, if◌then◌else◌}
use Rattle.c_meaning_values.specs.declared.value.Value.{Value}
use Rattle.c_meaning_steps.specs.declared.event.Frame.{Frame}
use Rattle.c_meaning_steps.specs.declared.event.Ending.{Ending}
use Rattle.c_meaning_steps.specs.declared.event.Ending.TheVariants.{Undefined}
use Rattle.c_meaning_values.specs.Memory.{Memory, is_usable}
use Rattle.c_meaning_values.specs.Operations.{is_true}

-- a visible variable, and the values that it holds
pub record Shown : Type 0 where
  pub variable : ℕ
  pub values : List Value

-- What can be seen of a run: a byte that is put out, the end of the program with its status, a call that finds 1,024
-- activations alive, or a stop. At a stop a place is begun: its number, how many activations live, these from the
-- innermost on, the visible variables, and all objects.
pub data Event : Type 0 where
  Put : ℕ → Event
  Exited : ℤ → Event
  TooDeep : Event
  Stop : (place depth : ℕ) → List Frame → List Shown → Memory → Event

-- What a run has: its objects, the input that is left, the events so far in order, and how many places it may still
-- begin.
pub record State : Type 0 where
  pub memory : Memory
  pub input : List ℕ
  pub events : List Event
  pub turns : ℕ

-- an event comes
abbrev pub seen : Event → State → State
seen e s = record s { events = s.events ++ e ∷ [] }

-- What an expression comes to: a value, or no value (a call of a function that gave none, or a cast to `void`), or the
-- run ends within it.
pub data Evaluated : Type 0 where
  Gives : Value → State → Evaluated
  Leaves : State → Evaluated
  Ends : Ending → State → Evaluated

-- What a statement comes to: control goes on behind it, leaves by `break`, `continue` or `return`, or the run ends
-- within it.
pub data Outcome : Type 0 where
  Next : State → Outcome
  Broken : State → Outcome
  Continued : State → Outcome
  Returned : Option Value → State → Outcome
  Ended : Ending → State → Outcome

-- a value, or undefined where there is none
abbrev pub value_or_undefined : Option Value → State → Evaluated
value_or_undefined None s = Ends Undefined s
value_or_undefined (Some v) s = Gives v s

-- the value of an expression is used: one that has none is undefined (6.9.1p12)
abbrev pub with : Evaluated → (Value → State → Evaluated) → Evaluated
with (Gives v s) go = go v s
with (Leaves s) go = Ends Undefined s
with (Ends e s) go = Ends e s

-- the value of an expression is not used
abbrev pub afterwards : Evaluated → (State → Evaluated) → Evaluated
afterwards (Gives v s) go = go s
afterwards (Leaves s) go = go s
afterwards (Ends e s) go = Ends e s

-- the value of an expression, if it has one, becomes another
abbrev pub mapped : Evaluated → (Value → Option Value) → Evaluated
mapped (Gives v s) f = value_or_undefined (f v) s
mapped (Leaves s) f = Leaves s
mapped (Ends e s) f = Ends e s

-- a value that is worked with is no pointer to an object that has ended (6.2.4p2)
abbrev pub usable : Value → State → Evaluated
usable v s = if is_usable s.memory v then Gives v s else Ends Undefined s

-- Two operands, from left to right, each of which has a value; or the run ends within one.
pub data Both : Type 0 where
  Pair : (left right : Value) → State → Both
  NoPair : Ending → State → Both

-- the value of the second operand beside that of the first
abbrev pub second : Value → Evaluated → Both
second v (Gives w s) = Pair v w s
second v (Leaves s) = NoPair Undefined s
second v (Ends e s) = NoPair e s

-- the values of two operands, the left one first
abbrev pub both_operands : Evaluated → (State → Evaluated) → Both
both_operands (Gives v s) right = second v (right s)
both_operands (Leaves s) right = NoPair Undefined s
both_operands (Ends e s) right = NoPair e s

-- what is done with the values of two operands
abbrev pub on_both : Both → (Value → Value → State → Evaluated) → Evaluated
on_both (Pair v w s) go = go v w s
on_both (NoPair e s) go = Ends e s

-- Whether a value is true; or the run ends within its expression. A value that is tested is no pointer to an object
-- that has ended.
pub data Tested : Type 0 where
  Holds : State → Tested
  Fails : State → Tested
  NoTest : Ending → State → Tested

-- a condition holds or fails
abbrev pub by_truth : Bool → State → Tested
by_truth true s = Holds s
by_truth false s = Fails s

-- a condition by its value: it holds where that is not 0
abbrev pub tested_usable : Evaluated → Tested
tested_usable (Gives v s) = by_truth (is_true v) s
tested_usable (Leaves s) = NoTest Undefined s
tested_usable (Ends e s) = NoTest e s

-- a condition by its value, which must be one that may be used
abbrev pub condition_tested : Evaluated → Tested
condition_tested (Gives v s) = tested_usable (usable v s)
condition_tested (Leaves s) = NoTest Undefined s
condition_tested (Ends e s) = NoTest e s

-- one way where a test holds, another where it fails
abbrev pub on_test : Tested → (State → Evaluated) → (State → Evaluated) → Evaluated
on_test (Holds s) if_true if_false = if_true s
on_test (Fails s) if_true if_false = if_false s
on_test (NoTest e s) if_true if_false = Ends e s

-- the same for statements
abbrev pub choose : Tested → (State → Outcome) → (State → Outcome) → Outcome
choose (Holds s) if_true if_false = if_true s
choose (Fails s) if_true if_false = if_false s
choose (NoTest e s) if_true if_false = Ended e s

-- The values of arguments, from left to right; or the run ends within one.
pub data Listed : Type 0 where
  Lists : List Value → State → Listed
  NoList : Ending → State → Listed

-- a value before others
abbrev pub fronted : Value → Listed → Listed
fronted v (Lists vs s) = Lists (v ∷ vs) s
fronted v (NoList e s) = NoList e s

-- what is done with the value of an argument, and then the arguments behind it
abbrev pub argument_listed : Evaluated → (Value → State → Listed) → Listed
argument_listed (Gives v s) go = go v s
argument_listed (Leaves s) go = NoList Undefined s
argument_listed (Ends e s) go = NoList e s

-- what is done with the values of all arguments
abbrev pub on_list : Listed → (List Value → State → Evaluated) → Evaluated
on_list (Lists vs s) go = go vs s
on_list (NoList e s) go = Ends e s

-- the value of an expression in a statement
abbrev pub on_value : Evaluated → (Value → State → Outcome) → Outcome
on_value (Gives v s) go = go v s
on_value (Leaves s) go = Ended Undefined s
on_value (Ends e s) go = Ended e s

-- what is done behind an expression whose value nothing uses
abbrev pub on_effect : Evaluated → (State → Outcome) → Outcome
on_effect (Gives v s) go = go s
on_effect (Leaves s) go = go s
on_effect (Ends e s) go = Ended e s
