-- One more part of what a loop reads; j and k count the tokens before and behind it.
use Rattle.std.proofs.Common.{◌≡◌, ℕ, zero, suc, ◌<◌, ◌≤◌, List, [], ◌∷◌, ◌++◌, length, Result, Ok, refl, ◌∙◌, arith}
use Rattle.c_token.specs.Lexemes.{Lexeme}
use Rattle.c_tree.specs.Trees.{ItemTree}
use Rattle.c_parse_tokens.specs.declared.fault.Stuck.{Stuck}
use Rattle.c_parse.specs.Reading.{item, items_from}

pub items_go_on : (n j k depth : ℕ) (done : List ItemTree) (i : ItemTree) (ts rest : List Lexeme) (total : Result (List ItemTree) Stuck)
    → 0 < length ts → k < j → j ≤ n → item depth ts ≡ Ok (i, rest) → total ≡ items_from n depth done ts
    → (m : ℕ) × (k ≤ m) × (total ≡ items_from m depth (done ++ i ∷ []) rest)
items_go_on zero j k depth done i ts rest total some lt le read e = absurd (omega arith)
items_go_on (suc n) j k depth done i [] rest total some lt le read e = absurd (omega arith)
items_go_on (suc n) j k depth done i (t ∷ ts) rest total some lt le read e = (n, omega arith, e ∙ rw read refl)
