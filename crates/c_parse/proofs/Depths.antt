-- A tree nests within a number of levels where its depth is at most that number.
use Rattle.std.proofs.Common.{ℕ, zero, suc, max, ◌≤◌, Bool, true, false, List, [], ◌∷◌, Option, Some, None, le_trans, arith}
use Rattle.std.proofs.Math.Nat.{le-max_left, le-max_right, max-le}
use Rattle.c_tree.specs.Expressions.{ExpressionTree, ExpressionTrees, none, first, Name, Constant, Literal, Parenthesized, Index, Call, PostIncrement, PostDecrement, Prefix, Cast, SizeofExpression, SizeofType, SizeofArray, Binary, Conditional, Assignment, Comma}
use Rattle.c_tree.specs.Declarations.{BracketsTree, Absent, Empty, Sized, InitializerTree, InitializerTrees, Value, Braces, DeclaratorTree, DeclarationTree, ParameterTree}
use Rattle.c_tree.specs.Declarations as initializer
use Rattle.c_tree.specs.Statements.{StartTree, StatementTree, StatementTrees, BlockTree, Compound, Declare, Run, If, IfElse, While, DoWhile, For, Switch, Case, Default, Break, Continue, Return, chain_of_statements}
use Rattle.c_tree.specs.Statements as statement
use Rattle.c_tree.specs.Trees.{ItemTree, Include, Declares, Defines}
use Rattle.c_parse.specs.Depths.{expression_depth, arguments_depth, brackets_depth, optional_depth, initializer_depth, initializers_depth, initial_depth, declarator_depth, declarators_depth, declaration_depth, start_depth, statement_depth, statements_depth, parameters_depth, body_depth, item_depth, file_depth, is_if, else_depth}
use Rattle.c_parse.proofs.Nesting.{Within, Nests, AllNest, SizeNests, NestsIfAny, InitializerNests, InitializersNest, InitialNests, DeclaratorNests, DeclaratorsNest, DeclarationNests, StartNests, StatementNests, StatementsNest, ParametersNest, BodyNests, ItemNests, ItemsNest, Else}

left : (a b d : ℕ) → max a b ≤ d → a ≤ d
left a b d h = le_trans (le-max_left a b) h

right : (a b d : ℕ) → max a b ≤ d → b ≤ d
right a b d h = le_trans (le-max_right a b) h

nothing_deep : (d : ℕ) → 0 ≤ d
nothing_deep d = omega arith

level : (P : ℕ → Type 0) (x d : ℕ) → suc x ≤ d → ((l : ℕ) → x ≤ l → P l) → Within d P
level P x zero h f = absurd (omega (arith, h))
level P x (suc d) h f = f d (omega (arith, h))

unlevel : (P : ℕ → Type 0) (x d : ℕ) → Within d P → ((l : ℕ) → P l → x ≤ l) → suc x ≤ d
unlevel P x zero h f = elim h [ ]
unlevel P x (suc d) h f = omega (arith, f d h)

else_up : (b : Bool) (P : ℕ → Type 0) (x d : ℕ) → else_depth b x ≤ d → ((l : ℕ) → x ≤ l → P l) → Else b d P
else_up true P x d h f = f d h
else_up false P x d h f = level P x d h f

else_down : (b : Bool) (P : ℕ → Type 0) (x d : ℕ) → Else b d P → ((l : ℕ) → P l → x ≤ l) → else_depth b x ≤ d
else_down true P x d h f = f d h
else_down false P x d h f = unlevel P x d h f

mutual
  pub expression_up : (x : ExpressionTree) (d : ℕ) → expression_depth x ≤ d → Nests x d
  expression_up (Name n) d h = tt
  expression_up (Constant spot value type) d h = tt
  expression_up (Literal extent bytes) d h = tt
  expression_up (Parenthesized extent e) d h = level (λ l1. Nests e l1) (expression_depth e) d h (λ l1 g1. expression_up e l1 g1)
  expression_up (Index e i last) d h = (expression_up e d (left (expression_depth e) (suc (expression_depth i)) d h), level (λ l1. Nests i l1) (expression_depth i) d (right (expression_depth e) (suc (expression_depth i)) d h) (λ l1 g1. expression_up i l1 g1))
  expression_up (Call e es last) d h = (expression_up e d (left (expression_depth e) (arguments_depth es) d h), arguments_up es d (right (expression_depth e) (arguments_depth es) d h))
  expression_up (PostIncrement e last) d h = expression_up e d h
  expression_up (PostDecrement e last) d h = expression_up e d h
  expression_up (Prefix spot o e) d h = level (λ l1. Nests e l1) (expression_depth e) d h (λ l1 g1. expression_up e l1 g1)
  expression_up (Cast spot type e) d h = level (λ l1. Nests e l1) (expression_depth e) d h (λ l1 g1. expression_up e l1 g1)
  expression_up (SizeofExpression spot e) d h = level (λ l1. Nests e l1) (expression_depth e) d h (λ l1 g1. expression_up e l1 g1)
  expression_up (SizeofType extent type count) d h = level (λ l2. Within l2 (λ l1. Unit {0})) (suc 0) d h (λ l2 g2. level (λ l1. Unit {0}) 0 l2 g2 (λ l1 g1. tt))
  expression_up (SizeofArray extent type count e) d h = level (λ l3. Within l3 (λ l2. Within l2 (λ l1. Nests e l1))) (suc (suc (expression_depth e))) d h (λ l3 g3. level (λ l2. Within l2 (λ l1. Nests e l1)) (suc (expression_depth e)) l3 g3 (λ l2 g2. level (λ l1. Nests e l1) (expression_depth e) l2 g2 (λ l1 g1. expression_up e l1 g1)))
  expression_up (Binary o left_side right_side) d h = (expression_up left_side d (left (expression_depth left_side) (expression_depth right_side) d h), expression_up right_side d (right (expression_depth left_side) (expression_depth right_side) d h))
  expression_up (Conditional c a b) d h = (expression_up c d (left (expression_depth c) (max (suc (expression_depth a)) (suc (expression_depth b))) d h), level (λ l1. Nests a l1) (expression_depth a) d (left (suc (expression_depth a)) (suc (expression_depth b)) d (right (expression_depth c) (max (suc (expression_depth a)) (suc (expression_depth b))) d h)) (λ l1 g1. expression_up a l1 g1), level (λ l1. Nests b l1) (expression_depth b) d (right (suc (expression_depth a)) (suc (expression_depth b)) d (right (expression_depth c) (max (suc (expression_depth a)) (suc (expression_depth b))) d h)) (λ l1 g1. expression_up b l1 g1))
  expression_up (Assignment o target value) d h = (expression_up target d (left (expression_depth target) (suc (expression_depth value)) d h), level (λ l1. Nests value l1) (expression_depth value) d (right (expression_depth target) (suc (expression_depth value)) d h) (λ l1 g1. expression_up value l1 g1))
  expression_up (Comma left_side right_side) d h = (expression_up left_side d (left (expression_depth left_side) (expression_depth right_side) d h), expression_up right_side d (right (expression_depth left_side) (expression_depth right_side) d h))

  pub arguments_up : (x : ExpressionTrees) (d : ℕ) → arguments_depth x ≤ d → AllNest x d
  arguments_up none d h = tt
  arguments_up (first e es) d h = (level (λ l1. Nests e l1) (expression_depth e) d (left (suc (expression_depth e)) (arguments_depth es) d h) (λ l1 g1. expression_up e l1 g1), arguments_up es d (right (suc (expression_depth e)) (arguments_depth es) d h))

mutual
  pub expression_down : (x : ExpressionTree) (d : ℕ) → Nests x d → expression_depth x ≤ d
  expression_down (Name n) d h = nothing_deep _
  expression_down (Constant spot value type) d h = nothing_deep _
  expression_down (Literal extent bytes) d h = nothing_deep _
  expression_down (Parenthesized extent e) d h = unlevel (λ l1. Nests e l1) (expression_depth e) d h (λ l1 g1. expression_down e l1 g1)
  expression_down (Index e i last) d h = max-le (expression_down e d h.0) (unlevel (λ l1. Nests i l1) (expression_depth i) d h.1 (λ l1 g1. expression_down i l1 g1))
  expression_down (Call e es last) d h = max-le (expression_down e d h.0) (arguments_down es d h.1)
  expression_down (PostIncrement e last) d h = expression_down e d h
  expression_down (PostDecrement e last) d h = expression_down e d h
  expression_down (Prefix spot o e) d h = unlevel (λ l1. Nests e l1) (expression_depth e) d h (λ l1 g1. expression_down e l1 g1)
  expression_down (Cast spot type e) d h = unlevel (λ l1. Nests e l1) (expression_depth e) d h (λ l1 g1. expression_down e l1 g1)
  expression_down (SizeofExpression spot e) d h = unlevel (λ l1. Nests e l1) (expression_depth e) d h (λ l1 g1. expression_down e l1 g1)
  expression_down (SizeofType extent type count) d h = unlevel (λ l2. Within l2 (λ l1. Unit {0})) (suc 0) d h (λ l2 g2. unlevel (λ l1. Unit {0}) 0 l2 g2 (λ l1 g1. nothing_deep _))
  expression_down (SizeofArray extent type count e) d h = unlevel (λ l3. Within l3 (λ l2. Within l2 (λ l1. Nests e l1))) (suc (suc (expression_depth e))) d h (λ l3 g3. unlevel (λ l2. Within l2 (λ l1. Nests e l1)) (suc (expression_depth e)) l3 g3 (λ l2 g2. unlevel (λ l1. Nests e l1) (expression_depth e) l2 g2 (λ l1 g1. expression_down e l1 g1)))
  expression_down (Binary o left_side right_side) d h = max-le (expression_down left_side d h.0) (expression_down right_side d h.1)
  expression_down (Conditional c a b) d h = max-le (expression_down c d h.0) (max-le (unlevel (λ l1. Nests a l1) (expression_depth a) d h.1 (λ l1 g1. expression_down a l1 g1)) (unlevel (λ l1. Nests b l1) (expression_depth b) d h.2 (λ l1 g1. expression_down b l1 g1)))
  expression_down (Assignment o target value) d h = max-le (expression_down target d h.0) (unlevel (λ l1. Nests value l1) (expression_depth value) d h.1 (λ l1 g1. expression_down value l1 g1))
  expression_down (Comma left_side right_side) d h = max-le (expression_down left_side d h.0) (expression_down right_side d h.1)

  pub arguments_down : (x : ExpressionTrees) (d : ℕ) → AllNest x d → arguments_depth x ≤ d
  arguments_down none d h = nothing_deep _
  arguments_down (first e es) d h = max-le (unlevel (λ l1. Nests e l1) (expression_depth e) d h.0 (λ l1 g1. expression_down e l1 g1)) (arguments_down es d h.1)

pub brackets_up : (x : BracketsTree) (d : ℕ) → brackets_depth x ≤ d → SizeNests x d
brackets_up Absent d h = tt
brackets_up Empty d h = tt
brackets_up (Sized e) d h = level (λ l1. Nests e l1) (expression_depth e) d h (λ l1 g1. expression_up e l1 g1)

pub brackets_down : (x : BracketsTree) (d : ℕ) → SizeNests x d → brackets_depth x ≤ d
brackets_down Absent d h = nothing_deep _
brackets_down Empty d h = nothing_deep _
brackets_down (Sized e) d h = unlevel (λ l1. Nests e l1) (expression_depth e) d h (λ l1 g1. expression_down e l1 g1)

pub optional_up : (x : Option ExpressionTree) (d : ℕ) → optional_depth x ≤ d → NestsIfAny x d
optional_up None d h = tt
optional_up (Some e) d h = expression_up e d h

pub optional_down : (x : Option ExpressionTree) (d : ℕ) → NestsIfAny x d → optional_depth x ≤ d
optional_down None d h = nothing_deep _
optional_down (Some e) d h = expression_down e d h

mutual
  pub initializer_up : (x : InitializerTree) (d : ℕ) → initializer_depth x ≤ d → InitializerNests x d
  initializer_up (Value e) d h = expression_up e d h
  initializer_up (Braces all) d h = level (λ l1. InitializersNest all l1) (initializers_depth all) d h (λ l1 g1. initializers_up all l1 g1)

  pub initializers_up : (x : InitializerTrees) (d : ℕ) → initializers_depth x ≤ d → InitializersNest x d
  initializers_up initializer.none d h = tt
  initializers_up (initializer.first i all) d h = (initializer_up i d (left (initializer_depth i) (initializers_depth all) d h), initializers_up all d (right (initializer_depth i) (initializers_depth all) d h))

mutual
  pub initializer_down : (x : InitializerTree) (d : ℕ) → InitializerNests x d → initializer_depth x ≤ d
  initializer_down (Value e) d h = expression_down e d h
  initializer_down (Braces all) d h = unlevel (λ l1. InitializersNest all l1) (initializers_depth all) d h (λ l1 g1. initializers_down all l1 g1)

  pub initializers_down : (x : InitializerTrees) (d : ℕ) → InitializersNest x d → initializers_depth x ≤ d
  initializers_down initializer.none d h = nothing_deep _
  initializers_down (initializer.first i all) d h = max-le (initializer_down i d h.0) (initializers_down all d h.1)

pub initial_up : (x : Option InitializerTree) (d : ℕ) → initial_depth x ≤ d → InitialNests x d
initial_up None d h = tt
initial_up (Some i) d h = initializer_up i d h

pub initial_down : (x : Option InitializerTree) (d : ℕ) → InitialNests x d → initial_depth x ≤ d
initial_down None d h = nothing_deep _
initial_down (Some i) d h = initializer_down i d h

pub declarator_up : (x : DeclaratorTree) (d : ℕ) → declarator_depth x ≤ d → DeclaratorNests x d
declarator_up d depth h = (brackets_up d.brackets depth (left (brackets_depth d.brackets) (initial_depth d.initializer) depth h), initial_up d.initializer depth (right (brackets_depth d.brackets) (initial_depth d.initializer) depth h))

pub declarator_down : (x : DeclaratorTree) (d : ℕ) → DeclaratorNests x d → declarator_depth x ≤ d
declarator_down d depth h = max-le (brackets_down d.brackets depth h.0) (initial_down d.initializer depth h.1)

pub declarators_up : (x : List DeclaratorTree) (d : ℕ) → declarators_depth x ≤ d → DeclaratorsNest x d
declarators_up [] depth h = tt
declarators_up (d ∷ all) depth h = (declarator_up d depth (left (declarator_depth d) (declarators_depth all) depth h), declarators_up all depth (right (declarator_depth d) (declarators_depth all) depth h))

pub declarators_down : (x : List DeclaratorTree) (d : ℕ) → DeclaratorsNest x d → declarators_depth x ≤ d
declarators_down [] depth h = nothing_deep _
declarators_down (d ∷ all) depth h = max-le (declarator_down d depth h.0) (declarators_down all depth h.1)

pub declaration_up : (x : DeclarationTree) (d : ℕ) → declaration_depth x ≤ d → DeclarationNests x d
declaration_up d depth h = declarators_up d.declarators depth h

pub declaration_down : (x : DeclarationTree) (d : ℕ) → DeclarationNests x d → declaration_depth x ≤ d
declaration_down d depth h = declarators_down d.declarators depth h

pub start_up : (x : StartTree) (d : ℕ) → start_depth x ≤ d → StartNests x d
start_up statement.Nothing d h = tt
start_up (statement.Value e) d h = expression_up e d h
start_up (statement.Declares d) depth h = declaration_up d depth h

pub start_down : (x : StartTree) (d : ℕ) → StartNests x d → start_depth x ≤ d
start_down statement.Nothing d h = nothing_deep _
start_down (statement.Value e) d h = expression_down e d h
start_down (statement.Declares d) depth h = declaration_down d depth h

mutual
  pub statement_up : (x : StatementTree) (d : ℕ) → statement_depth x ≤ d → StatementNests x d
  statement_up (Compound opening all closing) d h = statements_up all d h
  statement_up (Declare d) depth h = declaration_up d depth h
  statement_up (statement.Empty spot) d h = tt
  statement_up (Run e last) d h = expression_up e d h
  statement_up (If spot c s) d h = (level (λ l1. Nests c l1) (expression_depth c) d (left (suc (expression_depth c)) (suc (statement_depth s)) d h) (λ l1 g1. expression_up c l1 g1), level (λ l1. StatementNests s l1) (statement_depth s) d (right (suc (expression_depth c)) (suc (statement_depth s)) d h) (λ l1 g1. statement_up s l1 g1))
  statement_up (IfElse spot c s r) d h = (level (λ l1. Nests c l1) (expression_depth c) d (left (suc (expression_depth c)) (max (suc (statement_depth s)) (else_depth (is_if r) (statement_depth r))) d h) (λ l1 g1. expression_up c l1 g1), level (λ l1. StatementNests s l1) (statement_depth s) d (left (suc (statement_depth s)) (else_depth (is_if r) (statement_depth r)) d (right (suc (expression_depth c)) (max (suc (statement_depth s)) (else_depth (is_if r) (statement_depth r))) d h)) (λ l1 g1. statement_up s l1 g1), else_up (is_if r) (λ l. StatementNests r l) (statement_depth r) d (right (suc (statement_depth s)) (else_depth (is_if r) (statement_depth r)) d (right (suc (expression_depth c)) (max (suc (statement_depth s)) (else_depth (is_if r) (statement_depth r))) d h)) (λ l g. statement_up r l g))
  statement_up (While spot c s) d h = (level (λ l1. Nests c l1) (expression_depth c) d (left (suc (expression_depth c)) (suc (statement_depth s)) d h) (λ l1 g1. expression_up c l1 g1), level (λ l1. StatementNests s l1) (statement_depth s) d (right (suc (expression_depth c)) (suc (statement_depth s)) d h) (λ l1 g1. statement_up s l1 g1))
  statement_up (DoWhile extent s c) d h = (level (λ l1. StatementNests s l1) (statement_depth s) d (left (suc (statement_depth s)) (suc (expression_depth c)) d h) (λ l1 g1. statement_up s l1 g1), level (λ l1. Nests c l1) (expression_depth c) d (right (suc (statement_depth s)) (suc (expression_depth c)) d h) (λ l1 g1. expression_up c l1 g1))
  statement_up (For spot start c step s) d h = (level (λ m. StartNests start m × NestsIfAny c m × NestsIfAny step m) (max (start_depth start) (max (optional_depth c) (optional_depth step))) d (left (suc (max (start_depth start) (max (optional_depth c) (optional_depth step)))) (suc (statement_depth s)) d h) (λ m i. (start_up start m (left (start_depth start) (max (optional_depth c) (optional_depth step)) m i), optional_up c m (left (optional_depth c) (optional_depth step) m (right (start_depth start) (max (optional_depth c) (optional_depth step)) m i)), optional_up step m (right (optional_depth c) (optional_depth step) m (right (start_depth start) (max (optional_depth c) (optional_depth step)) m i)))), level (λ l1. StatementNests s l1) (statement_depth s) d (right (suc (max (start_depth start) (max (optional_depth c) (optional_depth step)))) (suc (statement_depth s)) d h) (λ l1 g1. statement_up s l1 g1))
  statement_up (Switch spot e opening all closing) d h = (level (λ l1. Nests e l1) (expression_depth e) d (left (suc (expression_depth e)) (suc (statements_depth all)) d h) (λ l1 g1. expression_up e l1 g1), level (λ l1. StatementsNest all l1) (statements_depth all) d (right (suc (expression_depth e)) (suc (statements_depth all)) d h) (λ l1 g1. statements_up all l1 g1))
  statement_up (Case extent e s) d h = (expression_up e d (left (expression_depth e) (statement_depth s) d h), statement_up s d (right (expression_depth e) (statement_depth s) d h))
  statement_up (Default extent s) d h = statement_up s d h
  statement_up (Break extent) d h = tt
  statement_up (Continue extent) d h = tt
  statement_up (Return extent e) d h = optional_up e d h

  pub statements_up : (x : StatementTrees) (d : ℕ) → statements_depth x ≤ d → StatementsNest x d
  statements_up statement.none d h = tt
  statements_up (statement.first s all) d h = (level (λ l1. StatementNests s l1) (statement_depth s) d (left (suc (statement_depth s)) (statements_depth all) d h) (λ l1 g1. statement_up s l1 g1), statements_up all d (right (suc (statement_depth s)) (statements_depth all) d h))

mutual
  pub statement_down : (x : StatementTree) (d : ℕ) → StatementNests x d → statement_depth x ≤ d
  statement_down (Compound opening all closing) d h = statements_down all d h
  statement_down (Declare d) depth h = declaration_down d depth h
  statement_down (statement.Empty spot) d h = nothing_deep _
  statement_down (Run e last) d h = expression_down e d h
  statement_down (If spot c s) d h = max-le (unlevel (λ l1. Nests c l1) (expression_depth c) d h.0 (λ l1 g1. expression_down c l1 g1)) (unlevel (λ l1. StatementNests s l1) (statement_depth s) d h.1 (λ l1 g1. statement_down s l1 g1))
  statement_down (IfElse spot c s r) d h = max-le (unlevel (λ l1. Nests c l1) (expression_depth c) d h.0 (λ l1 g1. expression_down c l1 g1)) (max-le (unlevel (λ l1. StatementNests s l1) (statement_depth s) d h.1 (λ l1 g1. statement_down s l1 g1)) (else_down (is_if r) (λ l. StatementNests r l) (statement_depth r) d h.2 (λ l g. statement_down r l g)))
  statement_down (While spot c s) d h = max-le (unlevel (λ l1. Nests c l1) (expression_depth c) d h.0 (λ l1 g1. expression_down c l1 g1)) (unlevel (λ l1. StatementNests s l1) (statement_depth s) d h.1 (λ l1 g1. statement_down s l1 g1))
  statement_down (DoWhile extent s c) d h = max-le (unlevel (λ l1. StatementNests s l1) (statement_depth s) d h.0 (λ l1 g1. statement_down s l1 g1)) (unlevel (λ l1. Nests c l1) (expression_depth c) d h.1 (λ l1 g1. expression_down c l1 g1))
  statement_down (For spot start c step s) d h = max-le (unlevel (λ m. StartNests start m × NestsIfAny c m × NestsIfAny step m) (max (start_depth start) (max (optional_depth c) (optional_depth step))) d h.0 (λ m i. max-le (start_down start m i.0) (max-le (optional_down c m i.1) (optional_down step m i.2)))) (unlevel (λ l1. StatementNests s l1) (statement_depth s) d h.1 (λ l1 g1. statement_down s l1 g1))
  statement_down (Switch spot e opening all closing) d h = max-le (unlevel (λ l1. Nests e l1) (expression_depth e) d h.0 (λ l1 g1. expression_down e l1 g1)) (unlevel (λ l1. StatementsNest all l1) (statements_depth all) d h.1 (λ l1 g1. statements_down all l1 g1))
  statement_down (Case extent e s) d h = max-le (expression_down e d h.0) (statement_down s d h.1)
  statement_down (Default extent s) d h = statement_down s d h
  statement_down (Break extent) d h = nothing_deep _
  statement_down (Continue extent) d h = nothing_deep _
  statement_down (Return extent e) d h = optional_down e d h

  pub statements_down : (x : StatementTrees) (d : ℕ) → StatementsNest x d → statements_depth x ≤ d
  statements_down statement.none d h = nothing_deep _
  statements_down (statement.first s all) d h = max-le (unlevel (λ l1. StatementNests s l1) (statement_depth s) d h.0 (λ l1 g1. statement_down s l1 g1)) (statements_down all d h.1)

pub parameters_up : (x : List ParameterTree) (d : ℕ) → parameters_depth x ≤ d → ParametersNest x d
parameters_up [] d h = tt
parameters_up (p ∷ all) d h = (brackets_up p.brackets d (left (brackets_depth p.brackets) (parameters_depth all) d h), parameters_up all d (right (brackets_depth p.brackets) (parameters_depth all) d h))

pub parameters_down : (x : List ParameterTree) (d : ℕ) → ParametersNest x d → parameters_depth x ≤ d
parameters_down [] d h = nothing_deep _
parameters_down (p ∷ all) d h = max-le (brackets_down p.brackets d h.0) (parameters_down all d h.1)

pub body_up : (x : Option BlockTree) (d : ℕ) → body_depth x ≤ d → BodyNests x d
body_up None d h = tt
body_up (Some b) d h = statements_up (chain_of_statements b.statements) d h

pub body_down : (x : Option BlockTree) (d : ℕ) → BodyNests x d → body_depth x ≤ d
body_down None d h = nothing_deep _
body_down (Some b) d h = statements_down (chain_of_statements b.statements) d h

pub item_up : (x : ItemTree) (d : ℕ) → item_depth x ≤ d → ItemNests x d
item_up (Include spot header) d h = tt
item_up (Declares d) depth h = declaration_up d depth h
item_up (Defines f) d h = (level (λ l1. ParametersNest f.parameters l1) (parameters_depth f.parameters) d (left (suc (parameters_depth f.parameters)) (body_depth f.body) d h) (λ l1 g1. parameters_up f.parameters l1 g1), body_up f.body d (right (suc (parameters_depth f.parameters)) (body_depth f.body) d h))

pub item_down : (x : ItemTree) (d : ℕ) → ItemNests x d → item_depth x ≤ d
item_down (Include spot header) d h = nothing_deep _
item_down (Declares d) depth h = declaration_down d depth h
item_down (Defines f) d h = max-le (unlevel (λ l1. ParametersNest f.parameters l1) (parameters_depth f.parameters) d h.0 (λ l1 g1. parameters_down f.parameters l1 g1)) (body_down f.body d h.1)

pub file_up : (x : List ItemTree) (d : ℕ) → file_depth x ≤ d → ItemsNest x d
file_up [] d h = tt
file_up (i ∷ all) d h = (item_up i d (left (item_depth i) (file_depth all) d h), file_up all d (right (item_depth i) (file_depth all) d h))

pub file_down : (x : List ItemTree) (d : ℕ) → ItemsNest x d → file_depth x ≤ d
file_down [] d h = nothing_deep _
file_down (i ∷ all) d h = max-le (item_down i d h.0) (file_down all d h.1)
