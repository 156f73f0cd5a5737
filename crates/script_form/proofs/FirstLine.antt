-- The lines of a text, from the first on.
use Rattle.std.proofs.Common.{◌≡◌, ℕ, ◌+◌, ◌-◌, ◌<◌, ◌==◌, false, List, [], ◌∷◌, length, take, drop, Some, None, sym, ap, ◌∙◌, arith}
use Rattle.std.specs.Prelude.{position}
use Rattle.std.specs.List.{slice_split}
use Rattle.std.specs.Str.Lines.{lines, lines_of_parts, strip_carriage_return}
use Rattle.std.proofs.lemmas.Bool.{ne_eqb}
use Rattle.std.proofs.lemmas.List.{length-drop, take_all}
use Rattle.script_form.proofs.Cuts.{HasParts, has_parts, parts_at, parts_whole}

-- the lines of parts of which the first is not the last
with_end : (line : List ℕ) (parts : List (List ℕ)) → HasParts parts → lines_of_parts (line ∷ parts) ≡ strip_carriage_return line ∷ lines_of_parts parts
with_end line parts some = rw some.whole

-- a line feed ends the first line
pub line_with_end : (text : List ℕ) (end : ℕ) → position (λ byte. byte == 10) text ≡ Some end
    → lines text ≡ strip_carriage_return (take end text) ∷ lines (take (length text - (end + 1)) (drop (end + 1) text))
line_with_end text end found =
    let p = λ (byte : ℕ). byte == 10 in
    let behind : List ℕ = drop (end + 1) text in
    let whole : take (length text - (end + 1)) behind ≡ behind = take_all (length text - (end + 1)) behind (omega (arith, length-drop (end + 1) text)) in
    ap lines_of_parts (parts_at p text end found)
    ∙ with_end (take end text) (slice_split p behind) (has_parts p behind)
    ∙ ap (λ rest. strip_carriage_return (take end text) ∷ lines rest) (sym whole)

last_line : (text : List ℕ) → 0 < length text → lines_of_parts (text ∷ []) ≡ text ∷ []
last_line text some =
    let more : (length text == 0) ≡ false = ne_eqb (length text) 0 (λ e. absurd (omega (arith, e, some))) in
    rw more

-- the text is its one line
pub line_without_end : (text : List ℕ) → 0 < length text → position (λ byte. byte == 10) text ≡ None → lines text ≡ text ∷ lines []
line_without_end text some none = ap lines_of_parts (parts_whole (λ byte. byte == 10) text none) ∙ last_line text some
