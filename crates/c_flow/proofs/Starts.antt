-- Where a statement begins that something follows: at a place of its own, or where what follows begins.
use Rattle.std.proofs.Common.{◌≡◌, ℕ, refl, sym, ap, ◌∙◌, List, [], ◌∷◌}
use Rattle.std.specs.Prelude.{Option, Some, None}
use Rattle.c_tree.specs.TypedStatements.{DeclaredTree, TypedStartTree, Nothing, Value, Declares, TypedStatementTree, Block, Declaration, Empty, Run, If, IfElse, While, DoWhile, For, Switch, Break, Continue, Return, TypedStatementTrees, none, first, case, default}
use Rattle.c_flow.specs.Flow.{start_place, start_of_all, start_of_declarators, start_of_for}

-- the one, or what follows if there is none
abbrev pub or_next : Option ℕ → Option ℕ → Option ℕ
or_next None next = next
or_next (Some at) next = Some at

-- of three the first that there is
or_next_next : (a b c : Option ℕ) → or_next (or_next a b) c ≡ or_next a (or_next b c)
or_next_next None b c = refl
or_next_next (Some x) b c = refl

-- of two the first that there is, of which the second is there
or_some : (a : Option ℕ) (x : ℕ) (next : Option ℕ) → or_next (or_next a (Some x)) next ≡ or_next a (Some x)
or_some None x next = refl
or_some (Some y) x next = refl

declarators_begin : (all : List DeclaredTree) (next : Option ℕ) → start_of_declarators all next ≡ or_next (start_of_declarators all None) next
declarators_begin [] next = refl
declarators_begin (d ∷ all) next = refl

for_begins : (begin : TypedStartTree) (head : ℕ) (next : Option ℕ) → start_of_for begin head ≡ or_next (start_of_for begin head) next
for_begins Nothing head next = refl
for_begins (Value spot e) head next = refl
for_begins (Declares []) head next = refl
for_begins (Declares (d ∷ all)) head next = refl

mutual
  -- a statement begins at a place of its own or where what follows begins
  begins : (s : TypedStatementTree) (next : Option ℕ) → start_place s next ≡ or_next (start_place s None) next
  begins (Block all) next = all_begin all next
  begins (Declaration all) next = declarators_begin all next
  begins (Empty spot) next = refl
  begins (Run spot e) next = refl
  begins (If spot c chosen) next = refl
  begins (IfElse spot c chosen other) next = refl
  begins (While spot c body) next = refl
  begins (DoWhile body spot c) next =
      begins body (Some spot.at) ∙ sym (or_some (start_place body None) spot.at next) ∙ ap (λ o. or_next o next) (sym (begins body (Some spot.at)))
  begins (For begin spot c step body) next = for_begins begin spot.at next
  begins (Switch spot e all) next = refl
  begins (Break spot) next = refl
  begins (Continue spot) next = refl
  begins (Return spot e) next = refl

  all_begin : (all : TypedStatementTrees) (next : Option ℕ) → start_of_all all next ≡ or_next (start_of_all all None) next
  all_begin none next = refl
  all_begin (first s rest) next =
      begins s (start_of_all rest next) ∙ ap (or_next (start_place s None)) (all_begin rest next) ∙ sym (or_next_next (start_place s None) (start_of_all rest None) next)
      ∙ ap (λ o. or_next o next) (sym (begins s (start_of_all rest None)))
  all_begin (case value rest) next = all_begin rest next
  all_begin (default rest) next = all_begin rest next

-- statements of which the first has a place begin there
pub begins_here : (s : TypedStatementTree) (rest : TypedStatementTrees) (next : Option ℕ) (at : ℕ) → start_place s None ≡ Some at → start_of_all (first s rest) next ≡ Some at
begins_here s rest next at here = begins s (start_of_all rest next) ∙ ap (λ o. or_next o (start_of_all rest next)) here

-- statements of which the first has no place begin where the others begin
pub begins_later : (s : TypedStatementTree) (rest : TypedStatementTrees) (next : Option ℕ) → start_place s None ≡ None → start_of_all (first s rest) next ≡ start_of_all rest next
begins_later s rest next none_here = begins s (start_of_all rest next) ∙ ap (λ o. or_next o (start_of_all rest next)) none_here
