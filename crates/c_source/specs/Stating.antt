-- What statements mean in an accepted program: well typed statements that declare the variables which come next.
use Rattle.std.specs.Prelude.{◌≡◌, ◌+◌, ◌&&◌, List, [], ◌∷◌, Bool, true, false, Option, Some, None}
use Rattle.c_tree.specs.declared.types.IntegerType.{IntegerType}
use Rattle.c_tree.specs.TypedStatements.{TypedStatementTree, TypedStatementTrees}
use Rattle.c_tree.specs.Programs.{TypedFunctionTree, ProgramTree}
use Rattle.c_type_laws.specs.Kinds.{is_promoted}
use Rattle.c_type_laws.specs.Statements.{is_label, is_switch, is_statement, may_stand, are_statements}
use Rattle.c_type_laws.specs.Declarations.{declared_in, declared_in_all}
use Rattle.c_type_declarations.specs.Progress.{ProgressTree}
use Rattle.c_type_statements.specs.declared.setting.Setting.{Setting}
use Rattle.c_type_statements.specs.Switches.{PartTree, Case, Default, Statement, StatementPlace, Outside, Inside, Labeled}
use Rattle.c_source.specs.Making.{DeclaresAll}

-- the type that a `switch` tests is a promoted one
abbrev pub is_kind : Option IntegerType → Bool
is_kind None = false
is_kind (Some t) = is_promoted t

-- labels, and no statement
abbrev pub are_labels : List PartTree → Bool
are_labels [] = true
are_labels (Case z ∷ more) = are_labels more
are_labels (Default ∷ more) = are_labels more
are_labels (Statement s ∷ more) = false

-- labels of a `switch` that tests a type
abbrev pub labels_fit : Option IntegerType → List PartTree → Bool
labels_fit kind [] = true
labels_fit kind (Case z ∷ more) = is_label kind z && labels_fit kind more
labels_fit kind (Default ∷ more) = is_switch kind && labels_fit kind more
labels_fit kind (Statement s ∷ more) = false

-- labels that stand at a place; out of place they are none
abbrev pub FitAt : StatementPlace → List PartTree → Type 0
FitAt Outside parts = Unit {0}
FitAt (Inside kind ls) parts = is_kind kind ≡ true → labels_fit kind parts ≡ true

-- A statement is well typed where it stands; where it is no declaration, it may stand directly in the block of a
-- `switch`.
pub record IsStated (p : ProgramTree) (f : TypedFunctionTree) (g : Setting) (plain : Bool) (s : TypedStatementTree)
    : Type 0 where
  pub is : is_statement p f g.may_break g.may_continue s ≡ true
  pub stands : plain ≡ true → (tested : IntegerType) → may_stand (Some tested) s ≡ true

-- what a statement means
abbrev pub States : ProgramTree → TypedFunctionTree → Setting → Bool → ProgressTree → TypedStatementTree → ProgressTree
    → Type 0
States p f g plain q s t = DeclaresAll p f (f.first_variable + f.parameters) declared_in (IsStated p f g plain) q s t

-- what the statements of a block mean
abbrev pub StatesAll : ProgramTree → TypedFunctionTree → Setting → ProgressTree → TypedStatementTrees → ProgressTree
    → Type 0
StatesAll p f g q all t =
    DeclaresAll p f (f.first_variable + f.parameters) declared_in_all
    (λ (them : TypedStatementTrees). are_statements p f g.may_break g.may_continue None them ≡ true) q all t

-- what those of the block of a `switch` mean
abbrev pub StatesParts : ProgramTree → TypedFunctionTree → Setting → Option IntegerType → ProgressTree
    → TypedStatementTrees → ProgressTree → Type 0
StatesParts p f g kind q all t =
    DeclaresAll p f (f.first_variable + f.parameters) declared_in_all
    (λ (them : TypedStatementTrees). is_kind kind ≡ true
    → are_statements p f g.may_break g.may_continue kind them ≡ true)
    q all t

-- What a statement with its labels means.
pub record StatesLabeled (p : ProgramTree) (f : TypedFunctionTree) (place : StatementPlace) (g : Setting) (plain : Bool)
    (q : ProgressTree) (x : Labeled) (t : ProgressTree) : Type 0 where
  pub states : States p f g plain q x.statement t
  pub labels : are_labels x.before ≡ true
  pub fit : FitAt place x.before
