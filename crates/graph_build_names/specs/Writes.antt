-- Which scalars the code of expressions writes.
use Rattle.std.specs.Prelude.{ℕ, ◌==◌, ◌||◌, Bool, false, Option, Some, None}
use Rattle.c_tree.specs.TypedExpressions.{RvalueTree, LvalueTree, ArgumentTrees, Constant, Null, Load, Decay, AddressOf, Convert, Discard, Signed, Not, Arithmetic, Compare, ComparePointers, Move, MoveFrom, Difference, And, Or, Conditional, Comma, Assign, Update, UpdatePointer, Step, StepPointer, Call, Named, Target, Element, ElementFrom, none, first}
use Rattle.graph_core.specs.Graphs as unit
use Rattle.graph_core.specs.Graphs.{Operand, Location, Automatic, Static, At}
use Rattle.graph_build_names.specs.Names.{Names, scalar_named}

-- a name is one that there may be
abbrev pub is_that : ℕ → Option ℕ → Bool
is_that y None = false
is_that y (Some x) = x == y

module _ (n : Names) where
  -- an lvalue names the scalar of a name
  abbrev pub names_it : ℕ → LvalueTree → Bool
  names_it y l = is_that y (scalar_named n l)

  abbrev mutual
    -- the code of an expression writes a scalar
    pub writes : ℕ → RvalueTree → Bool
    writes y (Constant z t) = false
    writes y Null = false
    writes y (Load s l) = writes_within y l
    writes y (Decay l) = writes_within y l
    writes y (AddressOf l) = writes_within y l
    writes y (Convert t e) = writes y e
    writes y (Discard e) = writes y e
    writes y (Signed o t e) = writes y e
    writes y (Not e) = writes y e
    writes y (Arithmetic o t a b) = writes y a || writes y b
    writes y (Compare o t a b) = writes y a || writes y b
    writes y (ComparePointers o a b) = writes y a || writes y b
    writes y (Move d of a b) = writes y a || writes y b
    writes y (MoveFrom b of a) = writes y b || writes y a
    writes y (Difference of a b) = writes y a || writes y b
    writes y (And a b) = writes y a || writes y b
    writes y (Or a b) = writes y a || writes y b
    writes y (Conditional c a b) = writes y c || writes y a || writes y b
    writes y (Comma a b) = writes y a || writes y b
    writes y (Assign s l e) = names_it y l || writes_within y l || writes y e
    writes y (Update o t u l e) = names_it y l || writes_within y l || writes y e
    writes y (UpdatePointer d of l e) = names_it y l || writes_within y l || writes y e
    writes y (Step d g t u l) = names_it y l || writes_within y l
    writes y (StepPointer d g of l) = names_it y l || writes_within y l
    writes y (Call c all) = writes_any y all

    -- what comes before the place of an lvalue writes it
    pub writes_within : ℕ → LvalueTree → Bool
    writes_within y (Named o of) = false
    writes_within y (Target of p) = writes y p
    writes_within y (Element of p i) = writes y p || writes y i
    writes_within y (ElementFrom of i p) = writes y i || writes y p

    -- arguments write it
    pub writes_any : ℕ → ArgumentTrees → Bool
    writes_any y none = false
    writes_any y (first e rest) = writes y e || writes_any y rest

-- an operand is moved to a name of its own where it stands in a name that later code writes
abbrev pub is_moved : (written : ℕ → Bool) → Operand → Bool
is_moved written (unit.Name x) = written x
is_moved written (unit.Constant w) = false
is_moved written (unit.StaticAddress o k) = false

-- so is the address of a location
abbrev pub is_location_moved : (written : ℕ → Bool) → Location → Bool
is_location_moved written (At a) = is_moved written a
is_location_moved written (Automatic o k) = false
is_location_moved written (Static o) = false
