-- How deep constructs stand within one another (ISO/IEC 9899:2011, 5.2.4.1).
use Rattle.std.specs.Prelude.{ℕ, zero, suc, Bool, true, false, List, [], ◌∷◌, Option, Some, None}
use Rattle.c_tree.specs.Expressions.{ExpressionTree, ExpressionTrees, none, first, Name, Constant, Literal, Parenthesized, Index, Call, PostIncrement, PostDecrement, Prefix, Cast, SizeofExpression, SizeofType, SizeofArray, Binary, Conditional, Assignment, Comma}
use Rattle.c_tree.specs.Declarations.{BracketsTree, Absent, Empty, Sized, InitializerTree, InitializerTrees, Value, Braces, DeclaratorTree, DeclarationTree, ParameterTree}
use Rattle.c_tree.specs.Declarations as initializer
use Rattle.c_tree.specs.Statements.{StartTree, StatementTree, StatementTrees, BlockTree, Compound, Declare, Run, If, IfElse, While, DoWhile, For, Switch, Case, Default, Break, Continue, Return, chain_of_statements}
use Rattle.c_tree.specs.Statements as statement
use Rattle.c_parse.specs.Depths.{is_if}
use Rattle.c_tree.specs.Trees.{ItemTree, Include, Declares, Defines}

-- one level is used, and what is within has the others
abbrev pub Within : ℕ → (ℕ → Type 0) → Type 0
Within zero inner = ⊥
Within (suc depth) inner = inner depth

abbrev mutual
  -- The constructs in an expression nest so deep at most: parentheses, an index, arguments, the operand of an operator before it, of a cast and of `sizeof`,
  -- what stands behind `?`, behind `:` and behind an operator that assigns; in `sizeof ( type )` both the parentheses and the type nest, and a size within them.
  pub Nests : ExpressionTree → ℕ → Type 0
  Nests (Name n) depth = Unit {0}
  Nests (Constant spot value type) depth = Unit {0}
  Nests (Literal extent bytes) depth = Unit {0}
  Nests (Parenthesized extent e) depth = Within depth (λ d. Nests e d)
  Nests (Index e i last) depth = Nests e depth × Within depth (λ d. Nests i d)
  Nests (Call e es last) depth = Nests e depth × AllNest es depth
  Nests (PostIncrement e last) depth = Nests e depth
  Nests (PostDecrement e last) depth = Nests e depth
  Nests (Prefix spot o e) depth = Within depth (λ d. Nests e d)
  Nests (Cast spot type e) depth = Within depth (λ d. Nests e d)
  Nests (SizeofExpression spot e) depth = Within depth (λ d. Nests e d)
  Nests (SizeofType extent type count) depth = Within depth (λ d. Within d (λ _. Unit {0}))
  Nests (SizeofArray extent type count e) depth = Within depth (λ d. Within d (λ f. Within f (λ g. Nests e g)))
  Nests (Binary o left right) depth = Nests left depth × Nests right depth
  Nests (Conditional c a b) depth = Nests c depth × Within depth (λ d. Nests a d) × Within depth (λ d. Nests b d)
  Nests (Assignment o target value) depth = Nests target depth × Within depth (λ d. Nests value d)
  Nests (Comma left right) depth = Nests left depth × Nests right depth

  -- each of several expressions, within brackets
  pub AllNest : ExpressionTrees → ℕ → Type 0
  AllNest none depth = Unit {0}
  AllNest (first e es) depth = Within depth (λ d. Nests e d) × AllNest es depth

-- a size in brackets, within them
abbrev pub SizeNests : BracketsTree → ℕ → Type 0
SizeNests Absent depth = Unit {0}
SizeNests Empty depth = Unit {0}
SizeNests (Sized e) depth = Within depth (λ d. Nests e d)

-- an expression, if there is one
abbrev pub NestsIfAny : Option ExpressionTree → ℕ → Type 0
NestsIfAny None depth = Unit {0}
NestsIfAny (Some e) depth = Nests e depth

abbrev mutual
  -- an initializer; what stands within braces nests
  pub InitializerNests : InitializerTree → ℕ → Type 0
  InitializerNests (Value e) depth = Nests e depth
  InitializerNests (Braces all) depth = Within depth (λ d. InitializersNest all d)

  pub InitializersNest : InitializerTrees → ℕ → Type 0
  InitializersNest initializer.none depth = Unit {0}
  InitializersNest (initializer.first i all) depth = InitializerNests i depth × InitializersNest all depth

-- an initializer, if there is one
abbrev pub InitialNests : Option InitializerTree → ℕ → Type 0
InitialNests None depth = Unit {0}
InitialNests (Some i) depth = InitializerNests i depth

-- the declarator of an object
abbrev pub DeclaratorNests : DeclaratorTree → ℕ → Type 0
DeclaratorNests d depth = SizeNests d.brackets depth × InitialNests d.initializer depth

-- each of several declarators
abbrev pub DeclaratorsNest : List DeclaratorTree → ℕ → Type 0
DeclaratorsNest [] depth = Unit {0}
DeclaratorsNest (d ∷ all) depth = DeclaratorNests d depth × DeclaratorsNest all depth

-- a declaration of objects
abbrev pub DeclarationNests : DeclarationTree → ℕ → Type 0
DeclarationNests d depth = DeclaratorsNest d.declarators depth

-- the first part of a `for`
abbrev pub StartNests : StartTree → ℕ → Type 0
StartNests statement.Nothing depth = Unit {0}
StartNests (statement.Value e) depth = Nests e depth
StartNests (statement.Declares d) depth = DeclarationNests d depth

-- what stands behind `else` nests, but for an `if`
abbrev pub Else : (is_an_if : Bool) → ℕ → (ℕ → Type 0) → Type 0
Else true depth inner = inner depth
Else false depth inner = Within depth inner

abbrev mutual
  -- The constructs in a statement nest so deep at most: statements within others, conditions, the parentheses of a `for`; the block of a `switch` is a statement within it.
  -- Labels do not nest, nor does an `if` behind `else`.
  pub StatementNests : StatementTree → ℕ → Type 0
  StatementNests (Compound opening all closing) depth = StatementsNest all depth
  StatementNests (Declare d) depth = DeclarationNests d depth
  StatementNests (statement.Empty spot) depth = Unit {0}
  StatementNests (Run e last) depth = Nests e depth
  StatementNests (If spot c s) depth = Within depth (λ d. Nests c d) × Within depth (λ d. StatementNests s d)
  StatementNests (IfElse spot c s r) depth = Within depth (λ d. Nests c d) × Within depth (λ d. StatementNests s d) × Else (is_if r) depth (λ d. StatementNests r d)
  StatementNests (While spot c s) depth = Within depth (λ d. Nests c d) × Within depth (λ d. StatementNests s d)
  StatementNests (DoWhile extent s c) depth = Within depth (λ d. StatementNests s d) × Within depth (λ d. Nests c d)
  StatementNests (For spot start c step s) depth = Within depth (λ d. StartNests start d × NestsIfAny c d × NestsIfAny step d) × Within depth (λ d. StatementNests s d)
  StatementNests (Switch spot e opening all closing) depth = Within depth (λ d. Nests e d) × Within depth (λ d. StatementsNest all d)
  StatementNests (Case extent e s) depth = Nests e depth × StatementNests s depth
  StatementNests (Default extent s) depth = StatementNests s depth
  StatementNests (Break extent) depth = Unit {0}
  StatementNests (Continue extent) depth = Unit {0}
  StatementNests (Return extent e) depth = NestsIfAny e depth

  -- each of the statements in braces, within these
  pub StatementsNest : StatementTrees → ℕ → Type 0
  StatementsNest statement.none depth = Unit {0}
  StatementsNest (statement.first s all) depth = Within depth (λ d. StatementNests s d) × StatementsNest all depth

-- each of several parameters
abbrev pub ParametersNest : List ParameterTree → ℕ → Type 0
ParametersNest [] depth = Unit {0}
ParametersNest (p ∷ all) depth = SizeNests p.brackets depth × ParametersNest all depth

-- the body of a function, if it has one
abbrev pub BodyNests : Option BlockTree → ℕ → Type 0
BodyNests None depth = Unit {0}
BodyNests (Some b) depth = StatementsNest (chain_of_statements b.statements) depth

-- what stands at file scope; the parameters of a function nest
abbrev pub ItemNests : ItemTree → ℕ → Type 0
ItemNests (Include spot header) depth = Unit {0}
ItemNests (Declares d) depth = DeclarationNests d depth
ItemNests (Defines f) depth = Within depth (λ d. ParametersNest f.parameters d) × BodyNests f.body depth

-- each item of a file
abbrev pub ItemsNest : List ItemTree → ℕ → Type 0
ItemsNest [] depth = Unit {0}
ItemsNest (i ∷ all) depth = ItemNests i depth × ItemsNest all depth
