-- Which automatic variables are kept in memory: those whose address is taken, and those that are assigned, incremented
-- or decremented where that may be skipped, within the right operand of `&&` or `||` or an arm of `?:`. Each definition
-- puts the variables that a construct keeps behind others.
use Rattle.std.specs.Prelude.{ℕ, List, [], ◌∷◌, ◌++◌, Bool, true, false, Option, Some, None, if◌then◌else◌}
use Rattle.c_tree.specs.declared.object_type.Object.TheVariants.{Automatic}
use Rattle.c_tree.specs.TypedExpressions.{RvalueTree, LvalueTree, ArgumentTrees, Constant, Null, Load, Decay, AddressOf, Convert, Discard, Signed, Not, Arithmetic, Compare, ComparePointers, Move, MoveFrom, Difference, And, Or, Conditional, Comma, Assign, Update, UpdatePointer, Step, StepPointer, Call, Named, Target, Element, ElementFrom}
use Rattle.c_tree.specs.TypedExpressions as expression
use Rattle.c_tree.specs.TypedStatements.{InitialTree, Zero, Scalar, Elements, Literal, DeclaredTree, TypedStartTree, Nothing, Value, Declares, StepTree, TypedStatementTree, Block, Declaration, Empty, Run, If, IfElse, While, DoWhile, For, Switch, Break, Continue, Return, TypedStatementTrees, case, default}
use Rattle.c_tree.specs.TypedStatements as statement

-- an automatic variable that an lvalue names
abbrev pub with_named_variable : LvalueTree → List ℕ → List ℕ
with_named_variable (Named (Automatic i) of) ks = ks ++ i ∷ []
with_named_variable _ ks = ks

-- one that is written, where that may be skipped
abbrev pub named_if : Bool → LvalueTree → List ℕ → List ℕ
named_if skipped l ks = if skipped then with_named_variable l ks else ks

abbrev mutual
  -- of an expression; the flag says that it may be skipped
  pub keeps : Bool → RvalueTree → List ℕ → List ℕ
  keeps q (Constant value type) ks = ks
  keeps q Null ks = ks
  keeps q (Load scalar l) ks = kept_in q l ks
  keeps q (Decay l) ks = kept_in q l ks
  keeps q (AddressOf l) ks = kept_in q l (with_named_variable l ks)
  keeps q (Convert to a) ks = keeps q a ks
  keeps q (Discard a) ks = keeps q a ks
  keeps q (Signed sign type a) ks = keeps q a ks
  keeps q (Not a) ks = keeps q a ks
  keeps q (Arithmetic o type a b) ks = keeps q b (keeps q a ks)
  keeps q (Compare o type a b) ks = keeps q b (keeps q a ks)
  keeps q (ComparePointers o a b) ks = keeps q b (keeps q a ks)
  keeps q (Move direction element p n) ks = keeps q n (keeps q p ks)
  keeps q (MoveFrom n element p) ks = keeps q p (keeps q n ks)
  keeps q (Difference element a b) ks = keeps q b (keeps q a ks)
  keeps q (And a b) ks = keeps true b (keeps q a ks)
  keeps q (Or a b) ks = keeps true b (keeps q a ks)
  keeps q (Conditional c a b) ks = keeps true b (keeps true a (keeps q c ks))
  keeps q (Comma a b) ks = keeps q b (keeps q a ks)
  keeps q (Assign scalar l a) ks = keeps q a (kept_in q l (named_if q l ks))
  keeps q (Update o target type l a) ks = keeps q a (kept_in q l (named_if q l ks))
  keeps q (UpdatePointer direction element l n) ks = keeps q n (kept_in q l (named_if q l ks))
  keeps q (Step direction given target type l) ks = kept_in q l (named_if q l ks)
  keeps q (StepPointer direction given element l) ks = kept_in q l (named_if q l ks)
  keeps q (Call callee all) ks = kept_in_arguments q all ks

  -- of an lvalue
  pub kept_in : Bool → LvalueTree → List ℕ → List ℕ
  kept_in q (Named object of) ks = ks
  kept_in q (Target of p) ks = keeps q p ks
  kept_in q (Element of p i) ks = keeps q i (keeps q p ks)
  kept_in q (ElementFrom of i p) ks = keeps q p (keeps q i ks)

  -- of arguments
  pub kept_in_arguments : Bool → ArgumentTrees → List ℕ → List ℕ
  kept_in_arguments q expression.none ks = ks
  kept_in_arguments q (expression.first a rest) ks = kept_in_arguments q rest (keeps q a ks)

-- of a left side that is written
abbrev pub written : Bool → LvalueTree → List ℕ → List ℕ
written q l ks = kept_in q l (named_if q l ks)

-- of values
abbrev pub kept_values : List RvalueTree → List ℕ → List ℕ
kept_values [] ks = ks
kept_values (a ∷ rest) ks = kept_values rest (keeps false a ks)

-- of an initializer
abbrev pub kept_initial : InitialTree → List ℕ → List ℕ
kept_initial Zero ks = ks
kept_initial (Scalar a) ks = keeps false a ks
kept_initial (Elements all) ks = kept_values all ks
kept_initial (Literal k) ks = ks

-- of declarators
abbrev pub kept_declared : List DeclaredTree → List ℕ → List ℕ
kept_declared [] ks = ks
kept_declared (d ∷ rest) ks = kept_declared rest (kept_initial d.initial ks)

-- of the first part of a `for`
abbrev pub kept_start : TypedStartTree → List ℕ → List ℕ
kept_start Nothing ks = ks
kept_start (Value spot a) ks = keeps false a ks
kept_start (Declares all) ks = kept_declared all ks

-- of an expression that may be absent
abbrev pub kept_option : Option RvalueTree → List ℕ → List ℕ
kept_option None ks = ks
kept_option (Some a) ks = keeps false a ks

-- of the third part of a `for`
abbrev pub kept_step : Option StepTree → List ℕ → List ℕ
kept_step None ks = ks
kept_step (Some s) ks = keeps false s.value ks

abbrev mutual
  -- of a statement
  pub kept_by : TypedStatementTree → List ℕ → List ℕ
  kept_by (Block all) ks = kept_by_all all ks
  kept_by (Declaration all) ks = kept_declared all ks
  kept_by (Empty spot) ks = ks
  kept_by (Run spot a) ks = keeps false a ks
  kept_by (If spot c s) ks = kept_by s (keeps false c ks)
  kept_by (IfElse spot c s t) ks = kept_by t (kept_by s (keeps false c ks))
  kept_by (While spot c s) ks = kept_by s (keeps false c ks)
  kept_by (DoWhile s spot c) ks = keeps false c (kept_by s ks)
  kept_by (For start spot c step s) ks = kept_by s (kept_step step (kept_option c (kept_start start ks)))
  kept_by (Switch spot a all) ks = kept_by_all all (keeps false a ks)
  kept_by (Break spot) ks = ks
  kept_by (Continue spot) ks = ks
  kept_by (Return spot a) ks = kept_option a ks

  -- of statements
  pub kept_by_all : TypedStatementTrees → List ℕ → List ℕ
  kept_by_all statement.none ks = ks
  kept_by_all (statement.first s rest) ks = kept_by_all rest (kept_by s ks)
  kept_by_all (case value rest) ks = kept_by_all rest ks
  kept_by_all (default rest) ks = kept_by_all rest ks
