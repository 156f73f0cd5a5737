-- Where execution may go in small programs, and what their places assign.
use Rattle.std.specs.Prelude.{◌≡◌, ℕ, pos, false, List, [], ◌∷◌, Some, None, codes}
use Rattle.debug_records.specs.declared.source.Spot.{Spot}
use Rattle.places.specs.declared.flow.FlowStep.{FlowStep}
use Rattle.places.specs.declared.flow.Assignment.{Assignment}
use Rattle.c_tree.specs.declared.types.IntegerType.TheVariants.{Int}
use Rattle.c_tree.specs.declared.object_type.Scalar.{Scalar}
use Rattle.c_tree.specs.declared.object_type.ObjectType.TheVariants as type
use Rattle.c_tree.specs.declared.object_type.ValueType.TheVariants as result
use Rattle.c_tree.specs.declared.object_type.Object.{Object}
use Rattle.c_tree.specs.declared.object_type.Object.TheVariants.{Static, Automatic}
use Rattle.c_tree.specs.declared.typed_expression.Arithmetic.TheVariants.{Add}
use Rattle.c_tree.specs.declared.typed_expression.Callee.TheVariants.{Putchar, Function}
use Rattle.c_tree.specs.TypedExpressions.{RvalueTree, LvalueTree, Constant, Load, Arithmetic, And, Assign, Call, Named}
use Rattle.c_tree.specs.TypedExpressions as expression
use Rattle.c_tree.specs.TypedStatements.{TypedStatementTree, TypedStatementTrees, Block, Declaration, Empty, Run, If, IfElse, DoWhile, For, Switch, Break, Continue, Return, none, first, case, default, Nothing, Declares, StepTree}
use Rattle.c_tree.specs.TypedStatements as statement
use Rattle.c_tree.specs.Programs.{StaticTree, AutomaticTree, TypedFunctionTree, ProgramTree}
use Rattle.c_flow.specs.Flow.{steps_of_program}
use Rattle.c_flow.specs.Assigns.{assignments_of_program}

-- a spot on line 1
abbrev pub spot : ℕ → Spot
spot at = record { at = at; line = 1 }

abbrev pub int : Scalar
int = record { base = Int; stars = 0 }

-- an automatic variable of a name of one letter
abbrev pub automatic : (letter at : ℕ) → AutomaticTree
automatic letter at = record { name = letter ∷ []; spot = spot at; of = type.Scalar int; in_memory = false }

-- a static one
abbrev pub static : (letter at : ℕ) → StaticTree
static letter at = record { name = letter ∷ []; spot = spot at; of = type.Scalar int; bytes = []; relocations = [] }

-- a function whose variables begin with its parameters
abbrev pub function : (name : List ℕ) → (name_at close_at first_variable parameters : ℕ) → TypedStatementTrees
    → TypedFunctionTree
function name name_at close_at first_variable parameters body = record {
  name = name;
  spot = spot name_at;
  result = result.Integer Int;
  first_variable = first_variable;
  parameters = parameters;
  variables = parameters;
  body = body;
  close = spot close_at;
  weight = 0;
}

abbrev pub program : List TypedFunctionTree → List StaticTree → List AutomaticTree → ProgramTree
program functions statics automatics =
    record {
      functions = functions;
      main = 0;
      statics = statics;
      automatics = automatics;
      literals = [];
      array_literals = [];
      weight = 0;
    }

-- a program that is `main` alone
abbrev pub only_main : (name_at close_at : ℕ) → List AutomaticTree → TypedStatementTrees → ProgramTree
only_main name_at close_at variables body =
    program (function (codes "main") name_at close_at 0 0 body ∷ []) [] variables

-- a variable of type `int`
abbrev pub the : Object → LvalueTree
the x = Named x (type.Scalar int)

abbrev pub value_of : Object → RvalueTree
value_of x = Load int (the x)

abbrev pub number : ℕ → RvalueTree
number n = Constant (pos n) Int

-- statements in order
abbrev pub sequence : List TypedStatementTree → TypedStatementTrees
sequence [] = none
sequence (s ∷ more) = first s (sequence more)

-- a declarator with its initializer
abbrev pub declares : (x at : ℕ) → RvalueTree → TypedStatementTree
declares x at e = Declaration (record { variable = x; spot = spot at; initial = statement.Scalar e } ∷ [])

-- a call of `putchar`, as a statement
abbrev pub puts : (at byte : ℕ) → TypedStatementTree
puts at byte = Run (spot at) (Call Putchar (expression.first (number byte) expression.none))

-- #include <stdio.h>
-- int main(void){int x=2; x=x+3; putchar(65); return x;}
abbrev pub sums : ProgramTree
sums =
    only_main 23 72 (automatic 120 38 ∷ [])
    (sequence (
    declares 0 38 (number 2)
    ∷ Run (spot 43) (Assign int (the (Automatic 0)) (Arithmetic Add Int (value_of (Automatic 0)) (number 3)))
    ∷ puts 50 65
    ∷ Return (spot 63) (Some (value_of (Automatic 0))) ∷ []))

-- int main(void){int c=0; if (c) ; else ; return c;}
abbrev pub empty_if : ProgramTree
empty_if =
    only_main 4 49 (automatic 99 19 ∷ [])
    (sequence (
    declares 0 19 (number 0) ∷ IfElse (spot 28) (value_of (Automatic 0)) (Empty (spot 31)) (Empty (spot 38))
    ∷ Return (spot 40) (Some (value_of (Automatic 0))) ∷ []))

-- int main(void){for(;;){}}
abbrev pub endless : ProgramTree
endless = only_main 4 24 [] (sequence (For Nothing (spot 15) None None (Block none) ∷ []))

-- #include <stdio.h> int main(void){switch(1){case 0: putchar(48); case 1: putchar(49); case 2: putchar(50); break;
-- default: putchar(51);} return 0;}
abbrev pub falls_through : ProgramTree
falls_through =
    only_main 23 146 []
    (sequence (
    Switch (spot 41) (number 1)
    (case (pos 0)
    (first (puts 52 48)
    (case (pos 1)
    (first (puts 73 49)
    (case (pos 2)
    (first (puts 94 50) (first (Break (spot 107)) (default (first (puts 123 51) none)))))))))
    ∷ Return (spot 137) (Some (number 0)) ∷ []))

-- int main(void){for(int i=0; i; i=1) continue; return 0;}
abbrev pub goes_on : ProgramTree
goes_on =
    only_main 4 55 (automatic 105 23 ∷ [])
    (sequence (
    For (Declares (record { variable = 0; spot = spot 23; initial = statement.Scalar (number 0) } ∷ [])) (spot 28)
    (Some (value_of (Automatic 0))) (Some (record {
      spot = spot 31;
      value = Assign int (the (Automatic 0)) (number 1);
    }))
    (Continue (spot 36)) ∷ Return (spot 46) (Some (number 0)) ∷ []))

-- int g;void f(int a){do{if(a)break;g=a;}while(a&&(a=2));}int main(void){f(1);return g;}
abbrev pub two_functions : ProgramTree
two_functions =
    program
    (function (codes "f") 11 55 0 1
    (sequence (
    DoWhile
    (Block
    (sequence
    (If (spot 26) (value_of (Automatic 0)) (Break (spot 28))
    ∷ Run (spot 34) (Assign int (the (Static 0)) (value_of (Automatic 0))) ∷ [])))
    (spot 45) (And (value_of (Automatic 0)) (Assign int (the (Automatic 0)) (number 2))) ∷ []))
    ∷ function (codes "main") 60 84 1 0
    (sequence
    (Run (spot 71) (Call (Function 0) (expression.first (number 1) expression.none))
    ∷ Return (spot 76) (Some (value_of (Static 0))) ∷ []))
    ∷ [])
    (static 103 4 ∷ []) (automatic 97 17 ∷ [])

-- from place to place
abbrev pub step : (from to : ℕ) → FlowStep
step from to = record { from = record { 0 = from }; to = record { 0 = to } }

-- a place assigns a variable
abbrev pub assigns : (place variable : ℕ) → Assignment
assigns place variable = record { place = record { 0 = place }; var = record { 0 = variable } }

-- a program has these steps and assignments
pub record Flows (of : ProgramTree) (steps : List FlowStep) (assignments : List Assignment) : Type 0 where
  pub steps_are : steps_of_program of ≡ steps
  pub assignments_are : assignments_of_program of ≡ assignments

pub record AreWorked : Type 0 where
  pub sums_flow : Flows sums (step 1 2 ∷ step 2 3 ∷ step 3 4 ∷ step 4 5 ∷ []) (assigns 2 0 ∷ assigns 3 0 ∷ [])
  pub empty_if_flows : Flows empty_if (step 1 2 ∷ step 2 3 ∷ step 3 4 ∷ step 3 5 ∷ step 4 6 ∷ step 5 6 ∷ [])
      (assigns 2 0 ∷ [])
  -- there is no place at the brace
  pub endless_flows : Flows endless (step 1 2 ∷ step 2 2 ∷ []) []
  -- each case falls through to the next, and `break` leads behind the `switch`
  pub falls_through_flows : Flows falls_through
      (step 1 2 ∷ step 2 3 ∷ step 2 4 ∷ step 2 5 ∷ step 2 7 ∷ step 3 4 ∷ step 4 5 ∷ step 5 6 ∷ step 6 8 ∷ step 7 8 ∷ [])
      []
  -- `continue` goes to the step
  pub goes_on_flows : Flows goes_on (step 1 2 ∷ step 2 3 ∷ step 3 5 ∷ step 3 6 ∷ step 4 3 ∷ step 5 4 ∷ [])
      (assigns 2 0 ∷ assigns 4 0 ∷ [])
  -- an entry assigns its parameters, and a place what the right operand of `&&` assigns; static variables have the
  -- first numbers
  pub two_functions_flow : Flows two_functions
      (step 1 2 ∷ step 5 2 ∷ step 5 6 ∷ step 2 3 ∷ step 2 4 ∷ step 3 6 ∷ step 4 5 ∷ step 7 8 ∷ step 8 9 ∷ [])
      (assigns 1 1 ∷ assigns 5 1 ∷ assigns 4 0 ∷ [])
