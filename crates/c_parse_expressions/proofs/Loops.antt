-- One more part of what a loop reads; j and k count the tokens before and behind it.
use Rattle.std.proofs.Common.{◌≡◌, ℕ, zero, suc, ◌<◌, ◌≤◌, ◌-◌, List, [], ◌∷◌, ◌++◌, length, Some, Result, Ok, refl, ◌∙◌, arith}
use Rattle.std.specs.Prelude.{fold, map}
use Rattle.c_token.specs.Lexemes.{Lexeme}
use Rattle.c_tree.specs.declared.operator.BinaryOperator.{BinaryOperator}
use Rattle.c_tree.specs.Expressions.{ExpressionTree, SuffixTree, suffixed, Binary, Comma}
use Rattle.c_parse_tokens.specs.declared.fault.Stuck.{Stuck}
use Rattle.c_parse_tokens.specs.declared.mark.Mark.TheVariants as mark
use Rattle.c_parse_tokens.specs.Outcome.{Parser}
use Rattle.c_parse_tokens.specs.Front.{tokens_behind}
use Rattle.c_parse_tokens.specs.Operators.{operator_at}
use Rattle.c_parse_expressions.specs.declared.expression.SuffixStart.{SuffixStart}
use Rattle.c_parse_expressions.specs.Expressions.{Nesting, assignment, more_commas, levels, operations, suffix_at, suffix, suffixes}

-- a level begins with its first operand
pub level_begins : (k : ℕ) (operand : Parser ExpressionTree) (ts : List Lexeme) (left : ExpressionTree) (rest : List Lexeme) → 0 < k
    → levels (k - 1) operand ts ≡ Ok (left, rest) → levels k operand ts ≡ operations (length rest) k (levels (k - 1) operand) left rest
unfolding levels
level_begins zero operand ts left rest h e = absurd (omega arith)
level_begins (suc k) operand ts left rest h e =
    let same : suc k - 1 ≡ k = omega arith in
    let first : levels k operand ts ≡ Ok (left, rest) = rw same at e in
    rw (same, first) refl

pub operations_go_on : (n j k level : ℕ) (operand : Parser ExpressionTree) (left right : ExpressionTree) (o : BinaryOperator) (ts after rest : List Lexeme) (total : Result (ExpressionTree × List Lexeme) Stuck)
    → k < j → j ≤ n → operator_at level ts ≡ Some (o, after) → operand after ≡ Ok (right, rest) → total ≡ operations n level operand left ts
    → (m : ℕ) × (k ≤ m) × (total ≡ operations m level operand (Binary o left right) rest)
operations_go_on zero j k level operand left right o ts after rest total lt le at read e = absurd (omega arith)
operations_go_on (suc n) j k level operand left right o ts after rest total lt le at read e = (n, omega arith, e ∙ rw (at, read) refl)

pub commas_go_on : (n j k : ℕ) (nest : Nesting) (left right : ExpressionTree) (ts after rest : List Lexeme) (total : Result (ExpressionTree × List Lexeme) Stuck)
    → k < j → j ≤ n → tokens_behind mark.Comma ts ≡ Some after → assignment nest after ≡ Ok (right, rest) → total ≡ more_commas n nest left ts
    → (m : ℕ) × (k ≤ m) × (total ≡ more_commas m nest (Comma left right) rest)
commas_go_on zero j k nest left right ts after rest total lt le at read e = absurd (omega arith)
commas_go_on (suc n) j k nest left right ts after rest total lt le at read e = (n, omega arith, e ∙ rw (at, read) refl)

pub suffixes_go_on : (n j k : ℕ) (nest : Nesting) (operand : ExpressionTree) (a : SuffixStart) (s : SuffixTree) (ts after rest : List Lexeme) (total : Result (ExpressionTree × List Lexeme) Stuck)
    → k < j → j ≤ n → suffix_at ts ≡ Some (a, after) → suffix nest a ts after ≡ Ok (s, rest) → total ≡ suffixes n nest operand ts
    → (m : ℕ) × (k ≤ m) × (total ≡ suffixes m nest (suffixed operand s) rest)
suffixes_go_on zero j k nest operand a s ts after rest total lt le at read e = absurd (omega arith)
suffixes_go_on (suc n) j k nest operand a s ts after rest total lt le at read e = (n, omega arith, e ∙ rw (at, read) refl)

pub fold_pushed : {A B X : Type 0} (f : A → B → A) (g : X → B) (a : A) (xs : List X) (x : X) → fold f a (map g (xs ++ x ∷ [])) ≡ f (fold f a (map g xs)) (g x)
fold_pushed f g a [] x = refl
fold_pushed f g a (y ∷ xs) x = fold_pushed f g (f a (g y)) xs x
