-- A declaration is spelled by the tokens before others.
use Rattle.std.proofs.Common.{List, Option}
use Rattle.c_token.specs.Lexemes.{Lexeme}
use Rattle.c_tree.specs.Declarations.{BracketsTree, InitializerTree, DeclaratorTree, DeclarationTree}
use Rattle.c_parse.specs.Tokens.{Grammar}
use Rattle.c_parse.specs.Declarations.{AreBrackets, no_brackets, empty, sized, IsInitializer, value, braces, braces_with_comma, AreInitializers, only, another, IsInitialized, no_initializer, initialized, IsNamed, IsDeclarator, declarator, Separated, first, further, IsDeclaration, declaration}
use Rattle.c_parse.proofs.Passing.{Passes, here, behind, join, step}
use Rattle.c_parse.proofs.ExpressionsPass.{specifiers_pass, stars_pass, assignment_passes}

pub brackets_pass : {b : BracketsTree} {ts rest : List Lexeme} → AreBrackets b ts rest → Passes ts rest
brackets_pass no_brackets = here
brackets_pass (empty o c) = behind (behind here)
brackets_pass (sized o e c) = behind (step (assignment_passes e))

mutual
  pub initializer_passes : {i : InitializerTree} {ts rest : List Lexeme} → IsInitializer i ts rest → Passes ts rest
  initializer_passes (value e) = assignment_passes e
  initializer_passes (braces o all c) = behind (step (initializers_pass all))
  initializer_passes (braces_with_comma o all k c) = behind (step (step (initializers_pass all)))

  pub initializers_pass : {all : List InitializerTree} {ts rest : List Lexeme} → AreInitializers all ts rest → Passes ts rest
  initializers_pass (only i) = initializer_passes i
  initializers_pass (another all k i) = join (step (initializers_pass all)) (initializer_passes i)

pub initial_passes : {b : BracketsTree} {i : Option InitializerTree} {ts rest : List Lexeme} → IsInitialized b i ts rest → Passes ts rest
initial_passes (no_initializer e) = here
initial_passes (initialized k i) = behind (initializer_passes i)

pub named_passes : {start : List Lexeme} {d : DeclaratorTree} {ts rest : List Lexeme} → IsNamed start d ts rest → Passes ts rest
named_passes n = join (brackets_pass n.brackets) (initial_passes n.initial)

pub declarator_passes : {d : DeclaratorTree} {ts rest : List Lexeme} → IsDeclarator d ts rest → Passes ts rest
declarator_passes (declarator s k n) = join (step (stars_pass s)) (named_passes n)

pub separated_pass : {A : Type 0} {G : Grammar A} → ((a : A) (ts rest : List Lexeme) → G a ts rest → Passes ts rest) → {all : List A} {ts rest : List Lexeme} → Separated G all ts rest → Passes ts rest
separated_pass p (first {a} {ts} {rest} g) = p a ts rest g
separated_pass p (further {a = a} {mid = mid} {rest = rest} all k g) = join (step (separated_pass p all)) (p a mid rest g)

pub declaration_passes : {d : DeclarationTree} {ts rest : List Lexeme} → IsDeclaration d ts rest → Passes ts rest
declaration_passes (declaration s all k) = step (join (specifiers_pass s.words) (separated_pass (λ d us more e. declarator_passes e) all))
