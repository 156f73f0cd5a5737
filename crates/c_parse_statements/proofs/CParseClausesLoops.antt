-- One more part of what a loop reads; j and k count the tokens before and behind it.
use Rattle.std.proofs.Common.{◌≡◌, ℕ, zero, suc, ◌<◌, List, [], ◌∷◌, ◌++◌, Some, Result, Ok, refl, ◌∙◌, arith}
use Rattle.c_token.specs.Lexemes.{Lexeme}
use Rattle.c_tree.specs.Statements.{LabelTree}
use Rattle.c_parse_tokens.specs.declared.fault.Stuck.{Stuck}
use Rattle.c_parse_expressions.specs.Expressions.{Nesting}
use Rattle.c_parse_statements.specs.Clauses.{label, labels}

pub labels_go_on : (n j k : ℕ) (nest : Nesting) (done : List LabelTree) (x : LabelTree) (ts rest : List Lexeme) (total : Result (List LabelTree × List Lexeme) Stuck)
    → k < j → j < n → label nest ts ≡ Ok (Some (x, rest)) → total ≡ labels n nest done ts
    → (m : ℕ) × (k < m) × (total ≡ labels m nest (done ++ x ∷ []) rest)
labels_go_on zero j k nest done x ts rest total lt le read e = absurd (omega arith)
labels_go_on (suc n) j k nest done x ts rest total lt le read e = (n, omega arith, e ∙ rw read refl)
