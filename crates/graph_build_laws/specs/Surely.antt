-- Expressions that write a scalar on each way through them, and points from which each way notes one.
use Rattle.std.specs.Prelude.{◌≡◌, ℕ, false, Some, List, [], ◌∷◌, slice_get}
use Rattle.c_tree.specs.TypedExpressions.{RvalueTree, LvalueTree, ArgumentTrees, Constant, Null, Load, Decay, AddressOf, Convert, Discard, Signed, Not, Arithmetic, Compare, ComparePointers, Move, MoveFrom, Difference, And, Or, Conditional, Comma, Assign, Update, UpdatePointer, Step, StepPointer, Call, Named, Target, Element, ElementFrom, none, first}
use Rattle.graph_core.specs.Graphs.{NoteValue, Instruction, Note, End, Block}
use Rattle.graph_core.specs.Uses.{targets_of}
use Rattle.graph_core.specs.Paths.{Among, is_marker}
use Rattle.graph_build_names.specs.Names.{Names}
use Rattle.graph_build_names.specs.Writes.{writes}

module _ (n : Names) where
  -- the code of an expression writes no scalar
  abbrev pub IsIdle : RvalueTree → Type 0
  IsIdle e = (x : ℕ) → writes n x e ≡ false

  abbrev mutual
    -- No scalar is written where that may be skipped: in the right operand of `&&` and `||`, nor in an arm of `?:`.
    pub IsSure : RvalueTree → Type 0
    IsSure (Constant z t) = Unit {0}
    IsSure Null = Unit {0}
    IsSure (Load s l) = IsSurePlace l
    IsSure (Decay l) = IsSurePlace l
    IsSure (AddressOf l) = IsSurePlace l
    IsSure (Convert t e) = IsSure e
    IsSure (Discard e) = IsSure e
    IsSure (Signed o t e) = IsSure e
    IsSure (Not e) = IsSure e
    IsSure (Arithmetic o t a b) = IsSure a × IsSure b
    IsSure (Compare o t a b) = IsSure a × IsSure b
    IsSure (ComparePointers o a b) = IsSure a × IsSure b
    IsSure (Move d of a b) = IsSure a × IsSure b
    IsSure (MoveFrom a of b) = IsSure a × IsSure b
    IsSure (Difference of a b) = IsSure a × IsSure b
    IsSure (And a b) = IsSure a × IsIdle b
    IsSure (Or a b) = IsSure a × IsIdle b
    IsSure (Conditional c a b) = IsSure c × IsIdle a × IsIdle b
    IsSure (Comma a b) = IsSure a × IsSure b
    IsSure (Assign s l e) = IsSurePlace l × IsSure e
    IsSure (Update o t u l e) = IsSurePlace l × IsSure e
    IsSure (UpdatePointer d of l e) = IsSurePlace l × IsSure e
    IsSure (Step d g t u l) = IsSurePlace l
    IsSure (StepPointer d g of l) = IsSurePlace l
    IsSure (Call c all) = AreSure all

    -- the same of an lvalue
    pub IsSurePlace : LvalueTree → Type 0
    IsSurePlace (Named o of) = Unit {0}
    IsSurePlace (Target of p) = IsSure p
    IsSurePlace (Element of a b) = IsSure a × IsSure b
    IsSurePlace (ElementFrom of a b) = IsSure a × IsSure b

    -- and of arguments
    pub AreSure : ArgumentTrees → Type 0
    AreSure none = Unit {0}
    AreSure (first e rest) = IsSure e × AreSure rest

module _ (blocks : List Block) (x : ℕ) where
  -- Each way from here notes a scalar before it comes to a marker.
  pub data Notes : List Instruction → End → Type 0 where
    now : {v : NoteValue} {rest : List Instruction} {e : End} → Notes (Note x v ∷ rest) e
    later : {i : Instruction} {rest : List Instruction} {e : End} → is_marker i ≡ false → Notes rest e
        → Notes (i ∷ rest) e
    over : {e : End}
        → ((l : ℕ) → Among l (targets_of e) → (b : Block) → slice_get blocks l ≡ Some b → Notes b.instructions b.end)
        → Notes [] e
