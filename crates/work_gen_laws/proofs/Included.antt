-- The line that includes a header.
use Rattle.std.proofs.Common.{◌≡◌, ℕ, List, ◌++◌, Bool, true, false, ◌||◌, length, Ok, refl}
use Rattle.std.specs.Prelude.{nat_le, slice_index, codes}
use Rattle.c_token.specs.declared.token.Header.TheVariants.{Stdio}
use Rattle.c_token.specs.Bytes.{is_blank, is_word_byte, is_letter, is_digit, text_has, is_replaced}
use Rattle.c_token.specs.Blanks.{blank_at, blanks_end}
use Rattle.c_token.specs.Includes.{context_at_start, is_inside, header_at, is_include_at, is_line_end, include_at}
use Rattle.c_token.specs.Items.{Token, token_at, item_at}
use Rattle.c_token.specs.Lexemes.{Include}
use Rattle.work_gen.specs.Generated.{line}

or_true : (a : Bool) → (a || true) ≡ true
or_true true = refl
or_true false = refl

line_ends : (text : List ℕ) (at : ℕ) → slice_index text at ≡ 10 → is_line_end text at ≡ true
unfolding is_line_end
line_ends text at e = rw e (or_true (nat_le (length text) at))

included : (rest : List ℕ) → include_at context_at_start (line (codes "#include <stdio.h>") ++ rest) 0 ≡ Ok (Stdio, 18)
unfolding include_at blank_at blanks_end is_blank is_include_at is_word_byte is_letter is_digit text_has header_at is_inside
included rest = rw (line_ends (line (codes "#include <stdio.h>") ++ rest) 18 refl) refl

pub include_stands : (rest : List ℕ) → item_at context_at_start (line (codes "#include <stdio.h>") ++ rest) 0 ≡ Ok (Token (Include Stdio), 18)
unfolding item_at token_at blank_at is_blank text_has is_replaced
include_stands rest = rw (included rest) refl
