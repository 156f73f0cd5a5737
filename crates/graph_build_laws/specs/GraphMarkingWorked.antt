-- Between a write of a scalar and its note there may stand a computation: `x = y++`, where `y` is narrow.
use Rattle.std.specs.Prelude.{◌≡◌, false, None, [], ◌∷◌}
use Rattle.c_tree.specs.declared.types.IntegerType.TheVariants.{Char, Int}
use Rattle.c_tree.specs.declared.object_type.ObjectType.TheVariants as type
use Rattle.c_tree.specs.declared.object_type.Object.TheVariants.{Automatic}
use Rattle.c_tree.specs.declared.typed_expression.Direction.TheVariants.{Up}
use Rattle.c_tree.specs.declared.typed_expression.Given.TheVariants.{Old}
use Rattle.c_tree.specs.TypedExpressions.{RvalueTree, Convert, Assign, Step, Named}
use Rattle.word_base.specs.declared.operation.Operation.TheVariants.{Add}
use Rattle.word_base.specs.declared.operation.Truncation.TheVariants.{Unsigned8}
use Rattle.graph_core.specs.Graphs.{Note, Is, Of, Name, Constant, Move, Operate, Truncate, Return}
use Rattle.graph_build_names.specs.declared.names.Home.TheVariants as home
use Rattle.graph_build_names.specs.Names.{Names}
use Rattle.graph_build_steps.specs.Drafts.{Unused, ending}
use Rattle.graph_build_code.specs.Code.{code}

-- two scalars: `int x`, and behind it `char y`
abbrev pub two_scalars : Names
two_scalars = record { first = 0; homes = home.Scalar 0 ∷ home.Scalar 1 ∷ []; statics = 0; results = []; again = false }

-- `x = y++`
abbrev pub old_value : RvalueTree
old_value =
    Assign (record { base = Int; stars = 0 }) (Named (Automatic 0) (type.Scalar (record { base = Int; stars = 0 })))
    (Convert Int (Step Up Old Char Int (Named (Automatic 1) (type.Scalar (record { base = Char; stars = 0 })))))

-- The sum is computed in a temporary between the write of `x` and its note.
abbrev pub ComputesBetween : Type 0
ComputesBetween =
    (code two_scalars 1 1 old_value 2 (Unused (ending (Return None) []))).ops
    ≡ Move 0 (Name 1) ∷ Operate 2 Add (Name 1) (Constant 1) ∷ Truncate 1 Unsigned8 (Name 2) ∷ Note 1 (Is (Of (Name 1)))
    ∷ Note 0 (Is (Of (Name 0))) ∷ []
