-- The output cut piece by piece.
use Rattle.std.proofs.Common.{◌≡◌, ℕ, suc, ◌+◌, ◌/◌, ◌<◌, ◌≤◌, List, [], ◌∷◌, ◌++◌, length, take, drop, map, sym, ap, ◌∙◌, append_assoc, arith}
use Rattle.std.specs.Prelude.{min}
use Rattle.std.proofs.lemmas.List.{length-append, append-nil, take_at, drop_at, take_all, drop_all}
use Rattle.line_form.specs.Lines.{out_line, out_lines, pieces}

-- no line for no byte
pub no_piece : (output : List ℕ) → length output ≡ 0 → out_lines output ≡ []
unfolding out_lines
no_piece output none = let no_pieces : (length output + 63) / 64 ≡ 0 = omega arith in rw no_pieces

-- the first piece is what 64 bytes take of the output, and the rest is what they leave
taken : (front behind : List ℕ) → length front ≡ min 64 (length (front ++ behind)) → take 64 (front ++ behind) ≡ front
taken front [] full = let short : length front ≤ 64 = omega arith in ap (take 64) (append-nil front) ∙ take_all 64 front short
taken front (b ∷ behind) full = take_at front (b ∷ behind) 64 (omega (arith, length-append front (b ∷ behind)))

left : (front behind : List ℕ) → length front ≡ min 64 (length (front ++ behind)) → drop 64 (front ++ behind) ≡ behind
left front [] full = let short : length front ≤ 64 = omega arith in ap (drop 64) (append-nil front) ∙ drop_all 64 front short
left front (b ∷ behind) full = drop_at front (b ∷ behind) 64 (omega (arith, length-append front (b ∷ behind)))

-- the line of the first piece, and the lines of what is behind it
pub first_piece : (output front behind : List ℕ) → output ≡ front ++ behind → length front ≡ min 64 (length output) → 0 < length output
    → out_lines output ≡ out_line front ∷ out_lines behind
unfolding out_lines
first_piece output front behind cut full some =
    let whole : length front ≡ min 64 (length (front ++ behind)) = rw cut at full in
    let one_more : (length output + 63) / 64 ≡ suc ((length behind + 63) / 64) = omega (arith, length-append front behind, ap length cut) in
    ap (λ count. map out_line (pieces count output)) one_more
    ∙ ap (λ bytes. map out_line (pieces (suc ((length behind + 63) / 64)) bytes)) cut
    ∙ ap (λ piece. out_line piece ∷ map out_line (pieces ((length behind + 63) / 64) (drop 64 (front ++ behind)))) (taken front behind whole)
    ∙ ap (λ bytes. out_line front ∷ map out_line (pieces ((length behind + 63) / 64) bytes)) (left front behind whole)

-- one line more, for a piece that was cut off
pub one_line_more : (lines more whole : List (List ℕ)) (output front behind : List ℕ) → output ≡ front ++ behind → length front ≡ min 64 (length output)
    → 0 < length output → more ≡ lines ++ out_line front ∷ [] → lines ++ out_lines output ≡ whole → more ++ out_lines behind ≡ whole
one_line_more lines more whole output front behind cut full some pushed so_far =
    ap (λ ls. ls ++ out_lines behind) pushed
    ∙ append_assoc lines (out_line front ∷ []) (out_lines behind)
    ∙ ap (λ ls. lines ++ ls) (sym (first_piece output front behind cut full some))
    ∙ so_far

-- all lines are there, where nothing is left
pub no_line_more : (lines whole : List (List ℕ)) (output : List ℕ) → length output ≡ 0 → lines ++ out_lines output ≡ whole → lines ≡ whole
no_line_more lines whole output none so_far = sym (append-nil lines) ∙ ap (λ ls. lines ++ ls) (sym (no_piece output none)) ∙ so_far
