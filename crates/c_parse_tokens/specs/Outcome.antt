-- What reading answers: what is read from the front and the tokens behind it, or where reading stops.
use Rattle.std.specs.Prelude.{◌≡◌, List, Result, Ok, Err}
use Rattle.c_token.specs.Lexemes.{Lexeme}
use Rattle.c_parse_tokens.specs.declared.fault.Stuck.{Stuck}
use Rattle.c_parse_tokens.specs.declared.fault.ParseErr.{ParseErr}
use Rattle.c_parse_tokens.specs.declared.fault.ParseErr.TheVariants as errors

-- what is read from the front of a list of lexemes, with those that are left, or where reading is stuck
abbrev pub Parser : Type 0 → Type 0
Parser A = List Lexeme → Result (A × List Lexeme) Stuck

infixl 10 ◌>>=◌
-- the next part, behind one that is read
abbrev pub ◌>>=◌ : {A B : Type 0} → Result A Stuck → (A → Result B Stuck) → Result B Stuck
(Ok x) >>= f = f x
(Err e) >>= f = Err e

-- an error says where reading stops, but for the want of memory, which says nothing of the tokens
abbrev pub Fails : {Y : Type 0} → ParseErr → Result Y Stuck → Type 0
Fails errors.NoMemory read = Unit {0}
Fails (errors.Stuck s) read = read ≡ Err s

-- what a function returned, seen by view, is what is read
abbrev pub Gives : {X Y : Type 0} → (X → Y) → Result X ParseErr → Result Y Stuck → Type 0
Gives view (Ok x) read = read ≡ Ok (view x)
Gives view (Err e) read = Fails e read
