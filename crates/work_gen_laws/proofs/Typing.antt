-- The statements of a generated program are typed where its variables are declared, and change nothing.
use Rattle.std.proofs.Common.{◌≡◌, ℕ, List, [], ◌∷◌, Some, refl, ap, ◌∙◌}
use Rattle.c_token.specs.Lexemes.{Lexeme}
use Rattle.c_tree.specs.declared.types.IntegerType.TheVariants.{Int, UnsignedInt}
use Rattle.c_tree.specs.declared.object_type.Scalar.{Scalar}
use Rattle.c_tree.specs.declared.object_type.Object.TheVariants.{Automatic}
use Rattle.c_tree.specs.declared.object_type.ObjectType.TheVariants as object
use Rattle.c_tree.specs.declared.typed_expression.Arithmetic as declared-arithmetic
use Rattle.c_tree.specs.declared.typed_expression.Arithmetic.TheVariants as arithmetic
use Rattle.c_tree.specs.TypedExpressions.{RvalueTree, LvalueTree, Load, Named, Arithmetic, Assign}
use Rattle.c_tree.specs.TypedStatements.{TypedStatementTree, TypedStatementTrees, Run, first}
use Rattle.c_tree.specs.Statements.{StatementTree, StatementTrees}
use Rattle.c_tree.specs.Statements as tree
use Rattle.c_type_values.specs.Values.{to_integer}
use Rattle.c_type_values.specs.Operations.{arithmetic_value}
use Rattle.c_type_expressions.specs.declared.names.Meaning.TheVariants.{Variable}
use Rattle.c_type_expressions.specs.Names.{Names, meaning_of}
use Rattle.c_type_declarations.specs.Progress.{ProgressTree, Met, means, next_met, value_met}
use Rattle.c_type_statements.specs.declared.setting.Setting.{Setting}
use Rattle.c_type_statements.specs.Switches.{without_label, bare}
use Rattle.c_type_statements.specs.Statements.{statement_met, statements_met}
use Rattle.work_gen_laws.specs.Drawn.{Letter, A, B, C, D, byte, Operator, Plus, Times, ExclusiveOr, Side, Only, Operation, Drawn}
use Rattle.work_gen_laws.specs.Pieces.{end_of, tokens_along, line_pieces}
use Rattle.work_gen_laws.specs.Trees.{spot, assigned_tree, line_tree, lines_before}

abbrev pub unsigned_scalar : Scalar
unsigned_scalar = record { base = UnsignedInt; stars = 0 }

abbrev pub int_scalar : Scalar
int_scalar = record { base = Int; stars = 0 }

-- the variables are numbered in their order
abbrev pub number : Letter → ℕ
number A = 0
number B = 1
number C = 2
number D = 3

abbrev pub place : Letter → LvalueTree
place l = Named (Automatic (number l)) (object.Scalar unsigned_scalar)

abbrev pub held : Letter → RvalueTree
held l = Load unsigned_scalar (place l)

abbrev pub calculates : Operator → declared-arithmetic.Arithmetic
calculates Plus = arithmetic.Add
calculates Times = arithmetic.Multiply
calculates ExclusiveOr = arithmetic.BitXor

abbrev pub side_value : Side → RvalueTree
side_value (Only l) = held l
side_value (Operation o l m) = Arithmetic (calculates o) UnsignedInt (held l) (held m)

-- a statement with what it means
abbrev pub typed_line : List Lexeme → Letter → Side → TypedStatementTree
typed_line ts t s = Run (spot ts 0) (Assign unsigned_scalar (place t) (side_value s))

-- statements before others
abbrev pub typed_before : List ℕ → ℕ → List Drawn → TypedStatementTrees → TypedStatementTrees
typed_before text at [] more = more
typed_before text at (d ∷ ds) more = first (typed_line (tokens_along text at (line_pieces d)) d.target d.side) (typed_before text (end_of at (line_pieces d)) ds more)

-- the names a to d mean the first four variables, and i the fifth
pub record Declared (names : Names) : Type 0 where
  pub letters : (l : Letter) → meaning_of names (byte l ∷ []) ≡ Some (Variable (Automatic (number l)) (object.Scalar unsigned_scalar))
  pub counter : meaning_of names (105 ∷ []) ≡ Some (Variable (Automatic 4) (object.Scalar int_scalar))

pub line_met : (g : Setting) (ts : List Lexeme) (t : Letter) (s : Side) (p : ProgressTree) → Declared p.names → statement_met g (assigned_tree ts t s) p ≡ means (typed_line ts t s) p
unfolding without_label bare next_met value_met to_integer arithmetic_value
line_met g ts t (Only l) p h =
    let target = h.letters t in
    let left = h.letters l in
    rw (target, left) refl
line_met g ts t (Operation Plus l m) p h =
    let target = h.letters t in
    let left = h.letters l in
    let right = h.letters m in
    rw (target, left, right) refl
line_met g ts t (Operation Times l m) p h =
    let target = h.letters t in
    let left = h.letters l in
    let right = h.letters m in
    rw (target, left, right) refl
line_met g ts t (Operation ExclusiveOr l m) p h =
    let target = h.letters t in
    let left = h.letters l in
    let right = h.letters m in
    rw (target, left, right) refl

-- a statement and those behind it
pub first_met : (g : Setting) (s : StatementTree) (rest : StatementTrees) (p q r : ProgressTree) (t : TypedStatementTree) (ts : TypedStatementTrees)
    → statement_met g s p ≡ means t q → statements_met g rest q ≡ means ts r → statements_met g (tree.first s rest) p ≡ means (first t ts) r
unfolding next_met
first_met g s rest p q r t ts one more =
    ap (λ (m : Met TypedStatementTree). next_met m (λ a b. next_met (statements_met g rest b) (λ c. means (first a c)))) one
    ∙ ap (λ (m : Met TypedStatementTrees). next_met m (λ c. means (first t c))) more

pub lines_met : (g : Setting) (text : List ℕ) (ds : List Drawn) (at : ℕ) (more : StatementTrees) (ts : TypedStatementTrees) (p q : ProgressTree) → Declared p.names
    → statements_met g more p ≡ means ts q → statements_met g (lines_before text at ds more) p ≡ means (typed_before text at ds ts) q
lines_met g text [] at more ts p q h e = e
lines_met g text (d ∷ ds) at more ts p q h e =
    first_met g (line_tree (tokens_along text at (line_pieces d)) d) (lines_before text (end_of at (line_pieces d)) ds more) p p q
    (typed_line (tokens_along text at (line_pieces d)) d.target d.side) (typed_before text (end_of at (line_pieces d)) ds ts)
    (line_met g (tokens_along text at (line_pieces d)) d.target d.side p h) (lines_met g text ds (end_of at (line_pieces d)) more ts p q h e)
