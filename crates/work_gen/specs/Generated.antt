-- The program that is generated from a seed and a size.
use Rattle.std.specs.Prelude.{ℕ, zero, suc, ◌+◌, ◌*◌, ◌/◌, ◌%◌, ◌==◌, if◌then◌else◌, List, [], ◌∷◌, ◌++◌, codes}

-- a line, with the line feed that ends it
abbrev pub line : List ℕ → List ℕ
line text = text ++ 10 ∷ []

-- The state behind this one: a linear congruential generator of 32 bits.
abbrev pub next_state : ℕ → ℕ
next_state x = (x * 1103515245 + 12345) % 4294967296

-- a, b, c or d
abbrev pub letter : ℕ → ℕ
letter n = 97 + n % 4

-- What is assigned: a variable, or a sum, a product or an exclusive or of two.
abbrev pub right_side : (kind left right : ℕ) → List ℕ
right_side kind left right =
    if kind == 0 then left ∷ []
    else (if kind == 1 then left ∷ codes "+" ++ right ∷ []
    else (if kind == 2 then left ∷ codes "*" ++ right ∷ []
    else left ∷ codes "^" ++ right ∷ []))

-- The statement that a number draws: its lowest two bits say which variable is assigned, the next two and two which
-- stand on the right side, and the next two of which kind that is.
unfoldable pub statement : ℕ → List ℕ
statement r = line (letter r ∷ codes "=" ++ right_side (r / 64 % 4) (letter (r / 4)) (letter (r / 16)) ++ codes ";")

-- So many statements from a state on. Each is drawn by the upper 16 bits of the next state.
abbrev pub statements : (count x : ℕ) → List ℕ
statements zero x = []
statements (suc count) x = statement (next_state x / 65536) ++ statements count (next_state x)

-- the lines before the statements
abbrev pub head : List ℕ
head =
    line (codes "#include <stdio.h>") ++ line (codes "int main(void){") ++ line (codes "unsigned a=1u,b=2u,c=3u,d=4u;")
    ++ line (codes "int i=0;") ++ line (codes "while(i<2){")

-- the lines behind them
abbrev pub tail : List ℕ
tail =
    line (codes "i=i+1;") ++ line (codes "}") ++ line (codes "putchar(65+(int)((a+b+c+d)%26u));")
    ++ line (codes "return 0;") ++ line (codes "}")

-- The whole text. The first state is the seed.
unfoldable pub text : (seed size : ℕ) → List ℕ
text seed size = head ++ statements size seed ++ tail
