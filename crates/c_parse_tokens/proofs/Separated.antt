-- One more item of a list whose items stand behind commas; j and k count the tokens before and behind it.
use Rattle.std.proofs.Common.{◌≡◌, ℕ, zero, suc, ◌<◌, ◌≤◌, List, [], ◌∷◌, ◌++◌, Some, Result, Ok, refl, ◌∙◌, arith}
use Rattle.c_token.specs.Lexemes.{Lexeme}
use Rattle.c_parse_tokens.specs.declared.fault.Stuck.{Stuck}
use Rattle.c_parse_tokens.specs.declared.mark.Mark.TheVariants as mark
use Rattle.c_parse_tokens.specs.Outcome.{Parser}
use Rattle.c_parse_tokens.specs.Front.{tokens_behind, separated}

pub separated_goes_on : {A : Type 0} (n j k : ℕ) (read_item : Parser A) (done : List A) (x : A) (ts after rest : List Lexeme) (total : Result (List A × List Lexeme) Stuck)
    → k < j → j ≤ n → tokens_behind mark.Comma ts ≡ Some after → read_item after ≡ Ok (x, rest) → total ≡ separated n read_item done ts
    → (m : ℕ) × (k ≤ m) × (total ≡ separated m read_item (done ++ x ∷ []) rest)
separated_goes_on zero j k read_item done x ts after rest total lt le at read e = absurd (omega arith)
separated_goes_on (suc n) j k read_item done x ts after rest total lt le at read e = (n, omega arith, e ∙ rw (at, read) refl)
