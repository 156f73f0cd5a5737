-- The runs of small programs.
use Rattle.std.specs.Prelude.{◌≡◌, ℕ, ◌+◌, pos, true, false, List, [], ◌∷◌, Some, None, codes}
use Rattle.debug_records.specs.declared.source.Spot.{Spot}
use Rattle.c_tree.specs.declared.types.IntegerType.TheVariants.{Int}
use Rattle.c_tree.specs.declared.object_type.Scalar.{Scalar}
use Rattle.c_tree.specs.declared.object_type.ObjectType.TheVariants as type
use Rattle.c_tree.specs.declared.object_type.ValueType.TheVariants as result
use Rattle.c_tree.specs.declared.object_type.Object.TheVariants.{Automatic}
use Rattle.c_tree.specs.declared.typed_expression.Arithmetic.TheVariants.{Add}
use Rattle.c_tree.specs.declared.typed_expression.Comparison.TheVariants.{Less}
use Rattle.c_tree.specs.declared.typed_expression.Callee.TheVariants.{Function, Putchar}
use Rattle.c_tree.specs.TypedExpressions.{RvalueTree, LvalueTree, Constant, Load, AddressOf, Arithmetic, Compare, Comma, Assign, Call, Named, Target}
use Rattle.c_tree.specs.TypedExpressions as expression
use Rattle.c_tree.specs.TypedStatements.{TypedStatementTree, TypedStatementTrees, Block, Declaration, Empty, Run, IfElse, For, Switch, Break, Continue, Return, none, first, case, default, Nothing, Declares}
use Rattle.c_tree.specs.TypedStatements as statement
use Rattle.c_tree.specs.Programs.{AutomaticTree, ProgramTree}
use Rattle.word_base.specs.Owners.{Variable}
use Rattle.c_meaning_values.specs.declared.value.Value.TheVariants.{Number}
use Rattle.c_meaning_values.specs.declared.value.Phase.TheVariants.{Live}
use Rattle.c_meaning_steps.specs.declared.event.Ending.{Ending}
use Rattle.c_meaning_steps.specs.declared.event.Ending.TheVariants.{Undefined, Exit, Turns}
use Rattle.c_meaning_values.specs.Memory.{Memory}
use Rattle.c_meaning_steps.specs.States.{Shown, Event, Put, Exited, TooDeep, Stop}
use Rattle.c_meaning.specs.Runs.{SourceRun, source_run}

-- a spot on line 1; lines change nothing of a run
abbrev pub spot : ℕ → Spot
spot at = record { at = at; line = 1 }

abbrev pub int : Scalar
int = record { base = Int; stars = 0 }

abbrev pub pointer_to_int : Scalar
pointer_to_int = record { base = Int; stars = 1 }

-- an automatic variable of a name of one letter
abbrev pub variable : (letter at : ℕ) → Scalar → AutomaticTree
variable letter at of = record { name = letter ∷ []; spot = spot at; of = type.Scalar of; in_memory = false }

-- a program that is `main` alone
abbrev pub only_main : (name_at close_at : ℕ) → List AutomaticTree → TypedStatementTrees → ProgramTree
only_main name_at close_at variables body = record {
  functions =
      record {
        name = codes "main";
        spot = spot name_at;
        result = result.Integer Int;
        first_variable = 0;
        parameters = 0;
        variables = 0;
        body = body;
        close = spot close_at;
        weight = 0;
      }
      ∷ [];
  main = 0;
  statics = [];
  automatics = variables;
  literals = [];
  array_literals = [];
  weight = 0;
}

-- the `int` variable of a number
abbrev pub the : ℕ → LvalueTree
the x = Named (Automatic x) (type.Scalar int)

abbrev pub value_of : ℕ → RvalueTree
value_of x = Load int (the x)

abbrev pub number : ℕ → RvalueTree
number n = Constant (pos n) Int

-- a declarator of a scalar with its initializer
abbrev pub declares : (x at : ℕ) → RvalueTree → TypedStatementTree
declares x at e = Declaration (record { variable = x; spot = spot at; initial = statement.Scalar e } ∷ [])

-- a call of `putchar`, as a statement
abbrev pub puts : (at byte : ℕ) → TypedStatementTree
puts at byte = Run (spot at) (Call Putchar (expression.first (number byte) expression.none))

-- statements in order
abbrev pub sequence : List TypedStatementTree → TypedStatementTrees
sequence [] = none
sequence (s ∷ more) = first s (sequence more)

-- #include <stdio.h>
-- int main(void){int x=2; x=x+3; putchar(65); return x;}
abbrev pub sums : ProgramTree
sums =
    only_main 23 72 (variable 120 38 int ∷ [])
    (sequence (
    declares 0 38 (number 2) ∷ Run (spot 43) (Assign int (the 0) (Arithmetic Add Int (value_of 0) (number 3)))
    ∷ puts 50 65
    ∷ Return (spot 63) (Some (value_of 0)) ∷ []))

-- x's object, holding a number
abbrev pub x_is : ℕ → Memory
x_is n = record { owner = Variable 0 1; element = int; values = Number (pos n) ∷ []; phase = Live } ∷ []

-- variables from a number on, each holding a number
abbrev pub shown_numbers : ℕ → List ℕ → List Shown
shown_numbers x [] = []
shown_numbers x (n ∷ more) = record { variable = x; values = Number (pos n) ∷ [] } ∷ shown_numbers (x + 1) more

-- a stop in the first activation of `main`
abbrev pub stops : (place : ℕ) → List ℕ → Memory → Event
stops place numbers memory = Stop place 1 (record { function = 0; place = place } ∷ []) (shown_numbers 0 numbers) memory

-- int main(void){int c=0; if (c) ; else ; return c;}
abbrev pub empty_if : ProgramTree
empty_if =
    only_main 4 49 (variable 99 19 int ∷ [])
    (sequence (
    declares 0 19 (number 0) ∷ IfElse (spot 28) (value_of 0) (Empty (spot 31)) (Empty (spot 38))
    ∷ Return (spot 40) (Some (value_of 0)) ∷ []))

-- int main(void){for(;;){}}
abbrev pub endless : ProgramTree
endless = only_main 4 24 [] (sequence (For Nothing (spot 15) None None (Block none) ∷ []))

-- #include <stdio.h> int main(void){switch(1){case 0: putchar(48); case 1: putchar(49); case 2: putchar(50); break;
-- default: putchar(51);} return 0;}
abbrev pub falls_through : ProgramTree
falls_through =
    only_main 23 146 []
    (sequence (
    Switch (spot 41) (number 1)
    (case (pos 0)
    (first (puts 52 48)
    (case (pos 1)
    (first (puts 73 49)
    (case (pos 2)
    (first (puts 94 50) (first (Break (spot 107)) (default (first (puts 123 51) none)))))))))
    ∷ Return (spot 137) (Some (number 0)) ∷ []))

-- int main(void){int x=2147483647; x=x+1; return 0;}
abbrev pub overflows : ProgramTree
overflows =
    only_main 4 49 (variable 120 19 int ∷ [])
    (sequence (
    declares 0 19 (number 2147483647) ∷ Run (spot 33) (Assign int (the 0) (Arithmetic Add Int (value_of 0) (number 1)))
    ∷ Return (spot 40) (Some (number 0)) ∷ []))

-- int main(void){int *p=0; {int y=1; p=&y;} return *p;}
abbrev pub points_back : ProgramTree
points_back =
    let p = Named (Automatic 0) (type.Scalar pointer_to_int) in
    only_main 4 52 (variable 112 20 pointer_to_int ∷ variable 121 30 int ∷ [])
    (sequence (
    declares 0 20 expression.Null
    ∷ Block (sequence (declares 1 30 (number 1) ∷ Run (spot 35) (Assign pointer_to_int p (AddressOf (the 1))) ∷ []))
    ∷ Return (spot 42) (Some (Load int (Target (type.Scalar int) (Load pointer_to_int p)))) ∷ []))

-- int main(void){for(int i=0; i<2; i=i+1) continue; return 0;}
abbrev pub goes_on : ProgramTree
goes_on =
    only_main 4 59 (variable 105 23 int ∷ [])
    (sequence (
    For (Declares (record { variable = 0; spot = spot 23; initial = statement.Scalar (number 0) } ∷ [])) (spot 28)
    (Some (Compare Less Int (value_of 0) (number 2))) (Some (record {
      spot = spot 33;
      value = Assign int (the 0) (Arithmetic Add Int (value_of 0) (number 1));
    }))
    (Continue (spot 40)) ∷ Return (spot 50) (Some (number 0)) ∷ []))

-- the `int` to which the variable 0 points
abbrev pub target_of_p : LvalueTree
target_of_p = Target (type.Scalar int) (Load pointer_to_int (Named (Automatic 0) (type.Scalar pointer_to_int)))

-- int set(int *p){*p=5; return *p+1;}
-- int main(void){int x=set(&x); int y=(y=3,y+4); return x+y;}
abbrev pub stores_first : ProgramTree
stores_first = record {
  functions =
      record {
        name = codes "set";
        spot = spot 4;
        result = result.Integer Int;
        first_variable = 0;
        parameters = 1;
        variables = 1;
        body =
            sequence
            (Run (spot 16) (Assign int target_of_p (number 5))
            ∷ Return (spot 22) (Some (Arithmetic Add Int (Load int target_of_p) (number 1))) ∷ []);
        close = spot 34;
        weight = 0;
      }
      ∷ record {
        name = codes "main";
        spot = spot 40;
        result = result.Integer Int;
        first_variable = 1;
        parameters = 0;
        variables = 2;
        body =
            sequence (
            declares 1 55 (Call (Function 0) (expression.first (AddressOf (the 1)) expression.none))
            ∷ declares 2 70 (Comma (Assign int (the 2) (number 3)) (Arithmetic Add Int (value_of 2) (number 4)))
            ∷ Return (spot 83) (Some (Arithmetic Add Int (value_of 1) (value_of 2))) ∷ []);
        close = spot 94;
        weight = 0;
      }
      ∷ [];
  main = 1;
  statics = [];
  automatics =
      variable 112 13 pointer_to_int ∷ record (variable 120 55 int) { in_memory = true } ∷ variable 121 70 int ∷ [];
  literals = [];
  array_literals = [];
  weight = 0;
}

-- int main(void){int x = x + 1; return x;}
abbrev pub reads_first : ProgramTree
reads_first =
    only_main 4 39 (variable 120 19 int ∷ [])
    (sequence
    (declares 0 19 (Arithmetic Add Int (value_of 0) (number 1)) ∷ Return (spot 30) (Some (value_of 0)) ∷ []))

-- the numbers of the places at which a run stops
abbrev pub places_in : List Event → List ℕ
places_in [] = []
places_in (Stop place depth frames shown memory ∷ events) = place ∷ places_in events
places_in (Put byte ∷ events) = places_in events
places_in (Exited status ∷ events) = places_in events
places_in (TooDeep ∷ events) = places_in events

-- the bytes that a run puts out
abbrev pub bytes_in : List Event → List ℕ
bytes_in [] = []
bytes_in (Stop place depth frames shown memory ∷ events) = bytes_in events
bytes_in (Put byte ∷ events) = byte ∷ bytes_in events
bytes_in (Exited status ∷ events) = bytes_in events
bytes_in (TooDeep ∷ events) = bytes_in events

-- a run stops at these places, puts out these bytes, and ends so
pub record Runs (run : SourceRun) (places bytes : List ℕ) (ending : Ending) : Type 0 where
  pub places_are : places_in run.events ≡ places
  pub bytes_are : bytes_in run.events ≡ bytes
  pub ends : run.ending ≡ ending

pub record AreWorked : Type 0 where
  pub sums_run : source_run sums [] 100 ≡ record {
    events =
        stops 2 [] [] ∷ stops 3 (2 ∷ []) (x_is 2) ∷ stops 4 (5 ∷ []) (x_is 5) ∷ Put 65
        ∷ stops 5 (5 ∷ []) (x_is 5) ∷ Exited (pos 5) ∷ [];
    ending = Exit (pos 5);
  }
  pub empty_if_runs : Runs (source_run empty_if [] 100) (2 ∷ 3 ∷ 5 ∷ 6 ∷ []) [] (Exit (pos 0))
  pub endless_runs : Runs (source_run endless [] 4) (2 ∷ 2 ∷ 2 ∷ []) [] Turns
  pub falls_through_runs : Runs (source_run falls_through [] 100) (2 ∷ 4 ∷ 5 ∷ 6 ∷ 8 ∷ []) (49 ∷ 50 ∷ []) (Exit (pos 0))
  -- 2147483647 + 1 is no `int`
  pub overflows_runs : Runs (source_run overflows [] 100) (2 ∷ 3 ∷ []) [] Undefined
  -- the object to which p points has ended
  pub points_back_runs : Runs (source_run points_back [] 100) (2 ∷ 3 ∷ 4 ∷ 5 ∷ []) [] Undefined
  -- x and y are read in their own initializers behind a store, through a pointer and by name
  pub stores_first_runs : Runs (source_run stores_first [] 100) (5 ∷ 2 ∷ 3 ∷ 6 ∷ 7 ∷ []) [] (Exit (pos 13))
  -- and x before any
  pub reads_first_runs : Runs (source_run reads_first [] 100) (2 ∷ []) [] Undefined
  -- `continue` goes to the step
  pub goes_on_runs : Runs (source_run goes_on [] 100) (2 ∷ 3 ∷ 5 ∷ 4 ∷ 3 ∷ 5 ∷ 4 ∷ 3 ∷ 6 ∷ []) [] (Exit (pos 0))
