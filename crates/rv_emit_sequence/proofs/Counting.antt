-- Words that are appended, and words that are left.
use Rattle.std.proofs.Common.{◌≡◌, ◌≤◌, ◌-◌, ℕ, ◌+◌, List, [], ◌∷◌, ◌++◌, length, map, take, drop, get_or, refl, sym, ap, ◌∙◌, subst, append_assoc, arith}
use Rattle.rv_emit_words.specs.declared.piece.Piece.{Piece}
use Rattle.rv_emit_words.specs.declared.piece.PlacedPiece.{PlacedPiece}
use Rattle.rv_emit_words.specs.Words.{words_of_piece, words_in}
use Rattle.rv_emit_sequence.specs.Sequences.{numbered}
use Rattle.rv_emit_sequence.proofs.Splitting.{split_first}
use Rattle.base_laws.proofs.Lists.{rest_is}

words_append : (xs : List PlacedPiece) (p : PlacedPiece) → words_in (xs ++ p ∷ []) ≡ words_in xs + words_of_piece p.piece
words_append [] p = omega arith
words_append (x ∷ xs) p = omega (arith, words_append xs p)

-- a piece that has as many words as another one is appended
pub words_put : (xs ys : List PlacedPiece) (p x : PlacedPiece) → p.piece ≡ x.piece → ys ≡ xs ++ p ∷ [] → words_in ys ≡ words_in xs + words_of_piece x.piece
words_put xs ys p x same e = subst (λ zs. words_in zs ≡ words_in xs + words_of_piece x.piece) (sym e) (words_append xs p ∙ ap (λ (q : Piece). words_in xs + words_of_piece q) same)

-- the first piece, and those that are left
pub words_step : (left : List PlacedPiece) (x d : PlacedPiece) → 1 ≤ length left → x ≡ get_or left 0 d → words_in left ≡ words_of_piece x.piece + words_in (take (length left - 1) (drop 1 left))
words_step [] x d le e = absurd (omega arith)
words_step (y ∷ left) x d le e =
    subst (λ (z : PlacedPiece). words_in (y ∷ left) ≡ words_of_piece z.piece + words_in (take (length (y ∷ left) - 1) (drop 1 (y ∷ left)))) (sym e)
    (subst (λ zs. words_in (y ∷ left) ≡ words_of_piece y.piece + words_in zs) (sym (rest_is y left)) refl)

-- the first of the pieces that are left is appended
pub push_step : (left xs ys : List PlacedPiece) (n d : PlacedPiece) → 1 ≤ length left → n.piece ≡ (get_or left 0 d).piece → ys ≡ xs ++ n ∷ []
    → words_in ys + words_in (take (length left - 1) (drop 1 left)) ≡ words_in xs + words_in left
push_step left xs ys n d le same e = omega (arith, words_put xs ys n (get_or left 0 d) same e, words_step left (get_or left 0 d) d le refl)

-- It is appended with its number, before the others with theirs.
pub number_step : (n : ℕ) (left xs ys : List PlacedPiece) (x d : PlacedPiece) → 1 ≤ length left → x ≡ numbered n (get_or left 0 d) → ys ≡ xs ++ x ∷ []
    → ys ++ map (numbered n) (take (length left - 1) (drop 1 left)) ≡ xs ++ map (numbered n) left
number_step n left xs ys x d le same e =
    ap (λ l. l ++ map (numbered n) (take (length left - 1) (drop 1 left))) (e ∙ ap (λ y. xs ++ y ∷ []) same) ∙ append_assoc xs (numbered n (get_or left 0 d) ∷ []) (map (numbered n) (take (length left - 1) (drop 1 left)))
    ∙ ap (λ l. xs ++ map (numbered n) l) (sym (split_first left (get_or left 0 d) d le refl))
