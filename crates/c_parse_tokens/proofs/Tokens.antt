-- Lists of tokens and their lexemes.
use Rattle.std.proofs.Common.{◌≡◌, ℕ, zero, suc, List, [], ◌∷◌, length, drop, refl, ap}
use Rattle.c_token.specs.declared.token.Token.{Token}
use Rattle.c_token.specs.Lexemes.{lexemes}

pub length_lexemes : (ts : List Token) → length (lexemes ts) ≡ length ts
length_lexemes [] = refl
length_lexemes (t ∷ ts) = ap (λ n. suc n) (length_lexemes ts)

pub lexemes_drop : (n : ℕ) (ts : List Token) → lexemes (drop n ts) ≡ drop n (lexemes ts)
lexemes_drop zero ts = refl
lexemes_drop (suc n) [] = refl
lexemes_drop (suc n) (t ∷ ts) = lexemes_drop n ts
