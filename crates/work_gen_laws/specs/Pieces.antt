-- What stands in the text of a generated program: tokens, spaces and line feeds, each with how many bytes it takes.
use Rattle.std.specs.Prelude.{ℕ, ◌+◌, List, [], ◌∷◌, ◌++◌, true, false, codes}
use Rattle.c_token.specs.declared.token.Header.TheVariants.{Stdio}
use Rattle.c_token.specs.declared.token.Keyword.TheVariants as keyword
use Rattle.c_token.specs.declared.token.Punctuator as punctuator
use Rattle.c_token.specs.declared.token.Punctuator.TheVariants as mark
use Rattle.c_token.specs.Items.{Piece, LineFeed, Blank, Token}
use Rattle.c_token.specs.Lexemes.{Name, Keyword, Constant, Punctuator, Include, Lexeme}
use Rattle.c_token.specs.Texts.{tokens_at}
use Rattle.work_gen_laws.specs.Drawn.{byte, Operator, Plus, Times, ExclusiveOr, Side, Only, Operation, Drawn}

-- a piece and how many bytes it takes
abbrev pub Sized : Type 0
Sized = Piece × ℕ

-- the offset behind pieces that begin at one
abbrev pub end_of : ℕ → List Sized → ℕ
end_of at [] = at
end_of at (p ∷ ps) = end_of (at + p.1) ps

-- the tokens among pieces of a text that begin at an offset
abbrev pub tokens_along : List ℕ → ℕ → List Sized → List Lexeme
tokens_along text at [] = []
tokens_along text at (p ∷ ps) = tokens_at text at p.0 ++ tokens_along text (at + p.1) ps

-- a line feed
abbrev pub feed : Sized
feed = (LineFeed, 1)

-- a space
abbrev pub space : Sized
space = (Blank, 1)

-- a name of one byte
abbrev pub variable : ℕ → Sized
variable b = (Token (Name (b ∷ [])), 1)

-- a name of so many bytes
abbrev pub named : List ℕ → ℕ → Sized
named name size = (Token (Name name), size)

-- the keyword `int`
abbrev pub int : Sized
int = (Token (Keyword keyword.Int), 3)

-- `=`
abbrev pub equal : Sized
equal = (Token (Punctuator mark.Equal), 1)

-- `;`
abbrev pub semicolon : Sized
semicolon = (Token (Punctuator mark.Semicolon), 1)

-- `,`
abbrev pub comma : Sized
comma = (Token (Punctuator mark.Comma), 1)

-- `+`
abbrev pub plus : Sized
plus = (Token (Punctuator mark.Plus), 1)

-- `(`
abbrev pub opens : Sized
opens = (Token (Punctuator mark.OpenParenthesis), 1)

-- `)`
abbrev pub closes : Sized
closes = (Token (Punctuator mark.CloseParenthesis), 1)

-- `{`
abbrev pub begins : Sized
begins = (Token (Punctuator mark.OpenBrace), 1)

-- `}`
abbrev pub ends : Sized
ends = (Token (Punctuator mark.CloseBrace), 1)

-- a decimal constant of a value and of so many bytes
abbrev pub number : ℕ → ℕ → Sized
number value size = (Token (Constant (record { value = value; is_unsigned = false; is_long = false })), size)

-- one with a `u` behind it
abbrev pub unsigned_number : ℕ → ℕ → Sized
unsigned_number value size = (Token (Constant (record { value = value; is_unsigned = true; is_long = false })), size)

-- the punctuator that an operator is
abbrev pub mark_of : Operator → punctuator.Punctuator
mark_of Plus = mark.Plus
mark_of Times = mark.Star
mark_of ExclusiveOr = mark.Caret

-- an operator
abbrev pub operator : Operator → Sized
operator o = (Token (Punctuator (mark_of o)), 1)

-- the right side of a statement
abbrev pub side_pieces : Side → List Sized
side_pieces (Only l) = variable (byte l) ∷ []
side_pieces (Operation o l m) = variable (byte l) ∷ operator o ∷ variable (byte m) ∷ []

-- a statement
abbrev pub line_pieces : Drawn → List Sized
line_pieces d = variable (byte d.target) ∷ equal ∷ side_pieces d.side ++ semicolon ∷ feed ∷ []

-- statements one behind the other
abbrev pub lines_pieces : List Drawn → List Sized
lines_pieces [] = []
lines_pieces (d ∷ ds) = line_pieces d ++ lines_pieces ds

-- `#include <stdio.h>`
abbrev pub include_line : List Sized
include_line = (Token (Include Stdio), 18) ∷ feed ∷ []

-- `int main(void){`
abbrev pub main_line : List Sized
main_line =
    int ∷ space ∷ named (codes "main") 4 ∷ opens ∷ (Token (Keyword keyword.Void), 4) ∷ closes ∷ begins ∷ feed ∷ []

-- `unsigned a=1u,b=2u,c=3u,d=4u;`
abbrev pub variables_line : List Sized
variables_line =
    (Token (Keyword keyword.Unsigned), 8) ∷ space ∷ variable 97 ∷ equal ∷ unsigned_number 1 2 ∷ comma ∷ variable 98
    ∷ equal ∷ unsigned_number 2 2
    ∷ comma ∷ variable 99 ∷ equal ∷ unsigned_number 3 2 ∷ comma ∷ variable 100 ∷ equal ∷ unsigned_number 4 2 ∷ semicolon
    ∷ feed ∷ []

-- `int i=0;`
abbrev pub counter_line : List Sized
counter_line = int ∷ space ∷ variable 105 ∷ equal ∷ number 0 1 ∷ semicolon ∷ feed ∷ []

-- `while(i<2){`
abbrev pub loop_line : List Sized
loop_line =
    (Token (Keyword keyword.While), 5) ∷ opens ∷ variable 105 ∷ (Token (Punctuator mark.Less), 1) ∷ number 2 1 ∷ closes
    ∷ begins ∷ feed ∷ []

-- `i=i+1;`
abbrev pub step_line : List Sized
step_line = variable 105 ∷ equal ∷ variable 105 ∷ plus ∷ number 1 1 ∷ semicolon ∷ feed ∷ []

-- `}` on a line of its own
abbrev pub end_line : List Sized
end_line = ends ∷ feed ∷ []

-- `putchar(65+(int)((a+b+c+d)%26u));`
abbrev pub output_line : List Sized
output_line =
    named (codes "putchar") 7 ∷ opens ∷ number 65 2 ∷ plus ∷ opens ∷ int ∷ closes ∷ opens ∷ opens ∷ variable 97 ∷ plus
    ∷ variable 98 ∷ plus ∷ variable 99
    ∷ plus ∷ variable 100 ∷ closes ∷ (Token (Punctuator mark.Percent), 1) ∷ unsigned_number 26 3 ∷ closes ∷ closes
    ∷ semicolon ∷ feed ∷ []

-- `return 0;`
abbrev pub return_line : List Sized
return_line = (Token (Keyword keyword.Return), 6) ∷ space ∷ number 0 1 ∷ semicolon ∷ feed ∷ []

-- the lines before the statements
abbrev pub head_pieces : List Sized
head_pieces = include_line ++ main_line ++ variables_line ++ counter_line ++ loop_line

-- the lines behind them
abbrev pub tail_pieces : List Sized
tail_pieces = step_line ++ end_line ++ output_line ++ return_line ++ end_line

-- a program with such statements
abbrev pub whole_pieces : List Drawn → List Sized
whole_pieces ds = head_pieces ++ lines_pieces ds ++ tail_pieces
