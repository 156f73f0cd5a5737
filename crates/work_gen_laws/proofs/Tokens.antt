-- The tokens of a generated program.
use Rattle.std.proofs.Common.{◌≡◌, ℕ, ◌*◌, ◌≤◌, List, [], ◌∷◌, ◌++◌, length, drop, Ok, refl, sym, ap, subst, arith, append_assoc, append-nil, length-append, length-drop}
use Rattle.std.specs.Prelude.{codes}
use Rattle.c_token.specs.declared.token.Header.TheVariants.{Stdio}
use Rattle.c_token.specs.Includes.{context_at_start}
use Rattle.c_token.specs.Items.{Token, context_behind}
use Rattle.c_token.specs.Lexemes.{Lexeme, Include}
use Rattle.c_token.specs.Spells.{Takes, SpellsFrom, nothing, piece}
use Rattle.c_token.specs.Texts.{tokens_of}
use Rattle.c_token.proofs.Readings.{spells_reads}
use Rattle.work_gen.specs.Generated.{line, tail}
use Rattle.work_gen_laws.specs.Drawn.{Letter, Side, Only, Operation, Drawn, byte, side_text, line_text, lines_text, whole_text}
use Rattle.work_gen_laws.specs.Pieces.{Sized, tokens_along, feed, line_pieces, lines_pieces, main_line, variables_line, counter_line, loop_line, step_line, end_line, output_line, return_line, tail_pieces, whole_pieces}
use Rattle.work_gen_laws.proofs.Along.{Reads, Goes, along, reads_on}
use Rattle.work_gen_laws.proofs.Lines.{feed_alone, main_line_read, variables_line_read, counter_line_read, loop_line_read, step_line_read, end_line_read, output_line_read, return_line_read, line_read}
use Rattle.work_gen_laws.proofs.Included.{include_stands}

lines_read : (ds : List Drawn) (rest : List ℕ) → Reads (lines_text ds ++ rest) (lines_pieces ds) rest
lines_read [] rest = refl
lines_read (d ∷ ds) rest =
    subst (λ (bs : List ℕ). Reads bs (line_pieces d ++ lines_pieces ds) rest) (sym (append_assoc (line_text d) (lines_text ds) rest))
    (reads_on (line_pieces d) (lines_pieces ds) (line_text d ++ (lines_text ds ++ rest)) (lines_text ds ++ rest) rest (line_read d (lines_text ds ++ rest)) (lines_read ds rest))

-- one line before others
before : (t : List ℕ) (ps qs : List Sized) (more : List ℕ) → ((rest : List ℕ) → Reads (t ++ rest) ps rest) → Reads more qs [] → Reads (t ++ more) (ps ++ qs) []
before t ps qs more first others = reads_on ps qs (t ++ more) more [] (first more) others

return_read : Reads (line (codes "return 0;") ++ line (codes "}")) (return_line ++ end_line) []
return_read = before (line (codes "return 0;")) return_line end_line (line (codes "}")) return_line_read (end_line_read [])

output_read : Reads (line (codes "putchar(65+(int)((a+b+c+d)%26u));") ++ (line (codes "return 0;") ++ line (codes "}"))) (output_line ++ (return_line ++ end_line)) []
output_read = before (line (codes "putchar(65+(int)((a+b+c+d)%26u));")) output_line (return_line ++ end_line) (line (codes "return 0;") ++ line (codes "}")) output_line_read return_read

end_read : Reads (line (codes "}") ++ (line (codes "putchar(65+(int)((a+b+c+d)%26u));") ++ (line (codes "return 0;") ++ line (codes "}")))) (end_line ++ (output_line ++ (return_line ++ end_line))) []
end_read = before (line (codes "}")) end_line (output_line ++ (return_line ++ end_line)) (line (codes "putchar(65+(int)((a+b+c+d)%26u));") ++ (line (codes "return 0;") ++ line (codes "}"))) end_line_read output_read

tail_read : Reads tail tail_pieces []
tail_read = before (line (codes "i=i+1;")) step_line (end_line ++ (output_line ++ (return_line ++ end_line))) (line (codes "}") ++ (line (codes "putchar(65+(int)((a+b+c+d)%26u));") ++ (line (codes "return 0;") ++ line (codes "}")))) step_line_read end_read

-- the text behind the lines that come first
abbrev in_loop : List Drawn → List ℕ
in_loop ds = line (codes "while(i<2){") ++ (lines_text ds ++ tail)

abbrev in_loop_pieces : List Drawn → List Sized
in_loop_pieces ds = loop_line ++ (lines_pieces ds ++ tail_pieces)

in_loop_read : (ds : List Drawn) → Reads (in_loop ds) (in_loop_pieces ds) []
in_loop_read ds =
    before (line (codes "while(i<2){")) loop_line (lines_pieces ds ++ tail_pieces) (lines_text ds ++ tail) loop_line_read
    (before (lines_text ds) (lines_pieces ds) tail_pieces tail (lines_read ds) tail_read)

abbrev with_counter : List Drawn → List ℕ
with_counter ds = line (codes "int i=0;") ++ in_loop ds

abbrev with_counter_pieces : List Drawn → List Sized
with_counter_pieces ds = counter_line ++ in_loop_pieces ds

with_counter_read : (ds : List Drawn) → Reads (with_counter ds) (with_counter_pieces ds) []
with_counter_read ds = before (line (codes "int i=0;")) counter_line (in_loop_pieces ds) (in_loop ds) counter_line_read (in_loop_read ds)

abbrev with_variables : List Drawn → List ℕ
with_variables ds = line (codes "unsigned a=1u,b=2u,c=3u,d=4u;") ++ with_counter ds

abbrev with_variables_pieces : List Drawn → List Sized
with_variables_pieces ds = variables_line ++ with_counter_pieces ds

with_variables_read : (ds : List Drawn) → Reads (with_variables ds) (with_variables_pieces ds) []
with_variables_read ds =
    before (line (codes "unsigned a=1u,b=2u,c=3u,d=4u;")) variables_line (with_counter_pieces ds) (with_counter ds) variables_line_read (with_counter_read ds)

abbrev rest_text : List Drawn → List ℕ
rest_text ds = line (codes "int main(void){") ++ with_variables ds

abbrev rest_pieces : List Drawn → List Sized
rest_pieces ds = main_line ++ with_variables_pieces ds

rest_read : (ds : List Drawn) → Reads (rest_text ds) (rest_pieces ds) []
rest_read ds = before (line (codes "int main(void){")) main_line (with_variables_pieces ds) (with_variables ds) main_line_read (with_variables_read ds)

side_long : (t : Letter) (s : Side) → length (byte t ∷ 61 ∷ side_text s ++ 59 ∷ 10 ∷ []) ≤ 7
side_long t (Only l) = omega arith
side_long t (Operation o l m) = omega arith

lines_long : (ds : List Drawn) → length (lines_text ds) ≤ 7 * length ds
lines_long [] = omega arith
lines_long (d ∷ ds) = omega (arith, length-append (line_text d) (lines_text ds), side_long d.target d.side, lines_long ds)

text_long : (ds : List Drawn) → length ds ≤ 400 → length (whole_text ds) ≤ 1048576
text_long ds few = omega (arith, length-append (lines_text ds) tail, lines_long ds)

at_last : (text : List ℕ) (at : ℕ) → at ≤ length text → drop at text ≡ [] → Goes text at []
at_last text at fits none c =
    let here : length text ≡ at = omega (arith, length-drop at text, ap length none) in
    subst (λ (n : ℕ). SpellsFrom text n c []) here nothing

spelled : (ds : List Drawn) → SpellsFrom (whole_text ds) 0 context_at_start (tokens_along (whole_text ds) 0 (whole_pieces ds))
spelled ds =
    let text = whole_text ds in
    let takes : Takes text context_at_start 0 (Token (Include Stdio)) 18 = record { item = include_stands (rest_text ds); some = omega arith; there = omega arith } in
    let reads : Reads (10 ∷ rest_text ds) (feed ∷ rest_pieces ds) [] = (feed_alone (rest_text ds), rest_read ds) in
    let more : Goes text 18 (tokens_along text 18 (feed ∷ rest_pieces ds) ++ []) = along text (feed ∷ rest_pieces ds) 18 (10 ∷ rest_text ds) [] [] (omega arith) refl reads (at_last text _) in
    piece takes (subst (λ (ts : List Lexeme). SpellsFrom text 18 (context_behind context_at_start (Token (Include Stdio))) ts) (append-nil (tokens_along text 18 (feed ∷ rest_pieces ds))) (more _))

-- A program with at most 400 statements has these tokens.
pub tokens_are : (ds : List Drawn) → length ds ≤ 400 → tokens_of (whole_text ds) ≡ Ok (tokens_along (whole_text ds) 0 (whole_pieces ds))
tokens_are ds few = (spells_reads (whole_text ds) (tokens_along (whole_text ds) 0 (whole_pieces ds))).0 (record { fits = text_long ds few; from_start = spelled ds })
