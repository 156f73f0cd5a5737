-- Tokens that end with others.
use Rattle.std.proofs.Common.{◌≡◌, ℕ, suc, ◌-◌, ◌≤◌, List, ◌∷◌, length, drop, refl, ap, arith}
use Rattle.c_token.specs.Lexemes.{Lexeme}
use Rattle.c_parse_tokens.specs.Front.{spot_at, last_before}
use Rattle.c_parse.specs.Tokens.{AreLiterals, one, more}

-- The second list stands at the end of the first.
pub data Passes : List Lexeme → List Lexeme → Type 0 where
  here : {rest : List Lexeme} → Passes rest rest
  behind : {t : Lexeme} {ts rest : List Lexeme} → Passes ts rest → Passes (t ∷ ts) rest

pub join : {ts mid rest : List Lexeme} → Passes ts mid → Passes mid rest → Passes ts rest
join here q = q
join (behind p) q = behind (join p q)

-- a token more is passed
pub step : {t : Lexeme} {ts rest : List Lexeme} → Passes ts (t ∷ rest) → Passes ts rest
step p = join p (behind here)

pub no_longer : {ts rest : List Lexeme} → Passes ts rest → length rest ≤ length ts
no_longer here = omega arith
no_longer (behind p) = omega (arith, no_longer p)

from_end : {ts rest : List Lexeme} → Passes ts rest → drop (length ts - length rest) ts ≡ rest
from_end (here {rest}) = let e : length rest - length rest ≡ 0 = omega arith in rw e refl
from_end (behind {t} {ts} {rest} p) =
    let le = no_longer p in
    let e : length (t ∷ ts) - length rest ≡ suc (length ts - length rest) = omega (arith, le) in rw e (from_end p)

-- the last token before the rest
pub last_known : {ts rest : List Lexeme} {c : Lexeme} → Passes ts (c ∷ rest) → last_before ts rest ≡ c.spot.at
unfolding last_before
last_known {ts} {rest} {c} p =
    let e : length ts - length rest - 1 ≡ length ts - length (c ∷ rest) = omega arith in
    rw (e, last_before) (ap (λ (l : List Lexeme). (spot_at l).at) (from_end p))

pub literals_pass : {bytes : List ℕ} {last : Lexeme} {ts rest : List Lexeme} → AreLiterals bytes last ts rest → Passes ts (last ∷ rest)
literals_pass (one k) = here
literals_pass (more l k) = step (literals_pass l)
