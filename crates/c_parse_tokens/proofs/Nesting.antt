-- The number of levels that are left, and what nests on them.
use Rattle.std.proofs.Common.{◌≡◌, ℕ, zero, suc, List, [], ◌∷◌, Bool, Result, Ok, Err, refl, ap, ◌∙◌}
use Rattle.c_token.specs.Lexemes.{Lexeme}
use Rattle.c_parse_tokens.specs.declared.fault.Stuck.{Stuck}
use Rattle.c_parse_tokens.specs.declared.fault.ParseErr.{ParseErr}
use Rattle.c_parse_tokens.specs.declared.fault.ParseErr.TheVariants as errors
use Rattle.c_parse_tokens.specs.Outcome.{Gives}
use Rattle.c_parse_tokens.specs.Front.{inside, one_less}

abbrev mapped : {A B : Type 0} → (A → B) → Result A Stuck → Result B Stuck
mapped f (Ok x) = Ok (f x)
mapped f (Err s) = Err s

-- what nests inside is what nests where one level less is left
inside_is : {A : Type 0} (levels : ℕ → List A) (first : ℕ → A) → levels 0 ≡ [] → ((n : ℕ) → levels (suc n) ≡ first n ∷ levels n)
    → (depth : ℕ) (is_taken : Bool) (ts : List Lexeme) → inside (levels depth) is_taken ts ≡ mapped levels (one_less depth is_taken ts)
inside_is levels first none more zero is_taken ts = rw none refl
inside_is levels first none more (suc depth) is_taken ts = rw (more depth) refl

pub levels_inside : {A : Type 0} (levels : ℕ → List A) (first : ℕ → A) → levels 0 ≡ [] → ((n : ℕ) → levels (suc n) ≡ first n ∷ levels n)
    → (r : Result ℕ ParseErr) (depth : ℕ) (is_taken : Bool) (ts : List Lexeme) → Gives (λ less. less) r (one_less depth is_taken ts)
    → Gives levels r (inside (levels depth) is_taken ts)
levels_inside levels first none more (Ok n) depth is_taken ts e = inside_is levels first none more depth is_taken ts ∙ ap (mapped levels) e
levels_inside levels first none more (Err errors.NoMemory) depth is_taken ts e = tt
levels_inside levels first none more (Err (errors.Stuck s)) depth is_taken ts e = inside_is levels first none more depth is_taken ts ∙ ap (mapped levels) e
