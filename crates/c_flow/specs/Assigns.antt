-- What the places of a program assign: the variables that an assignment, an increment or a decrement in the expression
-- of a place names as its target, the variable that a declarator declares, and at the entry of a function its
-- parameters. What is written through a pointer is not named.
use Rattle.std.specs.Prelude.{ℕ, ◌+◌, nat_lt, List, [], ◌∷◌, ◌++◌, map, length, Option, Some, None, if◌then◌else◌}
use Rattle.c_tree.specs.declared.object_type.Object.{Object}
use Rattle.c_tree.specs.declared.object_type.Object.TheVariants as object
use Rattle.c_tree.specs.TypedExpressions.{RvalueTree, LvalueTree, ArgumentTrees, Constant, Null, Load, Decay, AddressOf, Convert, Discard, Signed, Not, Arithmetic, Compare, ComparePointers, Move, MoveFrom, Difference, And, Or, Conditional, Comma, Assign, Update, UpdatePointer, Step, StepPointer, Call, Named, Target, Element, ElementFrom}
use Rattle.c_tree.specs.TypedExpressions as expression
use Rattle.c_tree.specs.TypedStatements.{InitialTree, Zero, Scalar, Elements, Literal, DeclaredTree, TypedStartTree, Nothing, Value, Declares, StepTree, TypedStatementTree, Block, Declaration, Empty, Run, If, IfElse, While, DoWhile, For, Switch, Break, Continue, Return, TypedStatementTrees, case, default}
use Rattle.c_tree.specs.TypedStatements as statement
use Rattle.c_tree.specs.Programs.{TypedFunctionTree, ProgramTree}
use Rattle.places.specs.declared.flow.Assignment.{Assignment}
use Rattle.c_flow.specs.declared.assigned.Assigned.{Assigned}
use Rattle.c_places.specs.Places.{Place, place_number_at, numbers_from, places_of_program}

-- The place at a position assigns objects by what is evaluated there.
module _ (at : ℕ) where
  -- it assigns an object
  abbrev pub assigns_object : Object → Assigned
  assigns_object x = record { at = at; object = x }

  -- the object that a target names
  abbrev pub named_object : LvalueTree → List Assigned
  named_object (Named object of) = assigns_object object ∷ []
  named_object _ = []

  abbrev mutual
    -- the objects that are assigned by name within an expression, evaluated or not
    pub assigned_objects : RvalueTree → List Assigned
    assigned_objects (Constant value type) = []
    assigned_objects Null = []
    assigned_objects (Load scalar l) = assigned_within l
    assigned_objects (Decay l) = assigned_within l
    assigned_objects (AddressOf l) = assigned_within l
    assigned_objects (Convert to a) = assigned_objects a
    assigned_objects (Discard a) = assigned_objects a
    assigned_objects (Signed sign type a) = assigned_objects a
    assigned_objects (Not a) = assigned_objects a
    assigned_objects (Arithmetic o type a b) = assigned_objects a ++ assigned_objects b
    assigned_objects (Compare o type a b) = assigned_objects a ++ assigned_objects b
    assigned_objects (ComparePointers o a b) = assigned_objects a ++ assigned_objects b
    assigned_objects (Move direction element p n) = assigned_objects p ++ assigned_objects n
    assigned_objects (MoveFrom n element p) = assigned_objects n ++ assigned_objects p
    assigned_objects (Difference element a b) = assigned_objects a ++ assigned_objects b
    assigned_objects (And a b) = assigned_objects a ++ assigned_objects b
    assigned_objects (Or a b) = assigned_objects a ++ assigned_objects b
    assigned_objects (Conditional c a b) = assigned_objects c ++ assigned_objects a ++ assigned_objects b
    assigned_objects (Comma a b) = assigned_objects a ++ assigned_objects b
    assigned_objects (Assign scalar l a) = named_object l ++ assigned_within l ++ assigned_objects a
    assigned_objects (Update o target type l a) = named_object l ++ assigned_within l ++ assigned_objects a
    assigned_objects (UpdatePointer direction element l n) = named_object l ++ assigned_within l ++ assigned_objects n
    assigned_objects (Step direction given target type l) = named_object l ++ assigned_within l
    assigned_objects (StepPointer direction given element l) = named_object l ++ assigned_within l
    assigned_objects (Call callee all) = assigned_by_all all

    -- within what designates an object
    pub assigned_within : LvalueTree → List Assigned
    assigned_within (Named object of) = []
    assigned_within (Target of p) = assigned_objects p
    assigned_within (Element of p i) = assigned_objects p ++ assigned_objects i
    assigned_within (ElementFrom of i p) = assigned_objects i ++ assigned_objects p

    -- within arguments
    pub assigned_by_all : ArgumentTrees → List Assigned
    assigned_by_all expression.none = []
    assigned_by_all (expression.first a rest) = assigned_objects a ++ assigned_by_all rest

  -- within values
  abbrev pub assigned_by_values : List RvalueTree → List Assigned
  assigned_by_values [] = []
  assigned_by_values (a ∷ rest) = assigned_objects a ++ assigned_by_values rest

  -- within an initializer
  abbrev pub assigned_by_initial : InitialTree → List Assigned
  assigned_by_initial Zero = []
  assigned_by_initial (Scalar a) = assigned_objects a
  assigned_by_initial (Elements all) = assigned_by_values all
  assigned_by_initial (Literal k) = []

  -- within an expression that may be absent
  abbrev pub assigned_by_option : Option RvalueTree → List Assigned
  assigned_by_option None = []
  assigned_by_option (Some e) = assigned_objects e

-- A declarator assigns its variable, and what its initializer assigns.
abbrev pub assigned_by_declarators : List DeclaredTree → List Assigned
assigned_by_declarators [] = []
assigned_by_declarators (d ∷ all) =
    assigns_object d.spot.at (object.Automatic d.variable) ∷ assigned_by_initial d.spot.at d.initial
    ++ assigned_by_declarators all

-- the first part of a `for`
abbrev pub assigned_by_start : TypedStartTree → List Assigned
assigned_by_start Nothing = []
assigned_by_start (Value spot e) = assigned_objects spot.at e
assigned_by_start (Declares all) = assigned_by_declarators all

-- the step of a `for`
abbrev pub assigned_by_step : Option StepTree → List Assigned
assigned_by_step None = []
assigned_by_step (Some s) = assigned_objects s.spot.at s.value

abbrev mutual
  -- what the places of a statement assign
  pub assigned_by : TypedStatementTree → List Assigned
  assigned_by (Block all) = assigned_by_statements all
  assigned_by (Declaration all) = assigned_by_declarators all
  assigned_by (Empty spot) = []
  assigned_by (Run spot e) = assigned_objects spot.at e
  assigned_by (If spot c chosen) = assigned_objects spot.at c ++ assigned_by chosen
  assigned_by (IfElse spot c chosen other) = assigned_objects spot.at c ++ assigned_by chosen ++ assigned_by other
  assigned_by (While spot c body) = assigned_objects spot.at c ++ assigned_by body
  assigned_by (DoWhile body spot c) = assigned_objects spot.at c ++ assigned_by body
  assigned_by (For begin spot c step body) =
      assigned_by_start begin ++ assigned_by_option spot.at c ++ assigned_by_step step ++ assigned_by body
  assigned_by (Switch spot e all) = assigned_objects spot.at e ++ assigned_by_statements all
  assigned_by (Break spot) = []
  assigned_by (Continue spot) = []
  assigned_by (Return spot e) = assigned_by_option spot.at e

  -- of statements
  pub assigned_by_statements : TypedStatementTrees → List Assigned
  assigned_by_statements statement.none = []
  assigned_by_statements (statement.first s rest) = assigned_by s ++ assigned_by_statements rest
  assigned_by_statements (case value rest) = assigned_by_statements rest
  assigned_by_statements (default rest) = assigned_by_statements rest

-- The entry of a function assigns its parameters, which are its first variables.
abbrev pub assigned_by_entry : TypedFunctionTree → List Assigned
assigned_by_entry f =
    map (λ (x : ℕ). assigns_object f.spot.at (object.Automatic x)) (numbers_from f.first_variable f.parameters)

-- what the places of a function assign
abbrev pub assigned_by_function : TypedFunctionTree → List Assigned
assigned_by_function f = assigned_by_entry f ++ assigned_by_statements f.body

-- what the places of functions assign
abbrev pub assigned_by_functions : List TypedFunctionTree → List Assigned
assigned_by_functions [] = []
assigned_by_functions (f ∷ all) = assigned_by_function f ++ assigned_by_functions all

-- what the places of a program assign, by position
abbrev pub assigned_by_program : ProgramTree → List Assigned
assigned_by_program p = assigned_by_functions p.functions

-- a number that begins behind so many others, if there are more than it
abbrev pub among : (count behind number : ℕ) → Option ℕ
among count behind number = if nat_lt number count then Some (behind + number) else None

-- The number of a variable of a program: the named static ones come first, then the literals, then the automatic ones,
-- each by position.
abbrev pub variable_number : ProgramTree → Object → Option ℕ
variable_number p (object.Static x) = among (length p.statics) 0 x
variable_number p (object.Literal x) = among (length p.literals) (length p.statics) x
variable_number p (object.Automatic x) = among (length p.automatics) (length p.statics + length p.literals) x

-- by numbers
abbrev pub numbered_for : ℕ → Option ℕ → List Assignment
numbered_for place None = []
numbered_for place (Some x) = record { place = record { 0 = place }; var = record { 0 = x } } ∷ []

-- assignments by the numbers of their places and variables
abbrev pub numbered_assigned : ProgramTree → List Place → List Assigned → List Assignment
numbered_assigned p places [] = []
numbered_assigned p places (a ∷ all) =
    numbered_for (place_number_at places a.at) (variable_number p a.object) ++ numbered_assigned p places all

-- what the places of a program assign, by the numbers of places and variables
abbrev pub assignments_of_program : ProgramTree → List Assignment
assignments_of_program p = numbered_assigned p (places_of_program p) (assigned_by_program p)
