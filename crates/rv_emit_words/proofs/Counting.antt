-- Words that are appended.
use Rattle.std.proofs.Common.{◌≡◌, ◌<◌, ℕ, zero, suc, ◌+◌, List, [], ◌∷◌, ◌++◌, slice_set, slice_index_or, length, sym, subst, refl, ap, ◌∙◌, arith, append_assoc, Some}
use Rattle.rv_emit_words.specs.declared.piece.Piece.{Piece}
use Rattle.rv_emit_words.specs.declared.piece.PlacedPiece.{PlacedPiece}
use Rattle.rv_emit_words.specs.Words.{words_of_piece, words_in}
use Rattle.rv_emit_words.specs.Shown.{stop_if, stops_of}
use Rattle.rv_emit_words.specs.Growing.{marked}
use Rattle.base_laws.proofs.Lists.{append_none}

pub words_append : (xs : List PlacedPiece) (p : PlacedPiece) → words_in (xs ++ p ∷ []) ≡ words_in xs + words_of_piece p.piece
words_append [] p = omega arith
words_append (x ∷ xs) p = omega (arith, words_append xs p)

pub words_put : (xs ys : List PlacedPiece) (p : PlacedPiece) → ys ≡ xs ++ p ∷ [] → words_in ys ≡ words_in xs + words_of_piece p.piece
words_put xs ys p e = subst (λ zs. words_in zs ≡ words_in xs + words_of_piece p.piece) (sym e) (words_append xs p)

pub words_set : (xs : List PlacedPiece) (i : ℕ) (x y : PlacedPiece) → x ≡ slice_index_or xs i x → y.piece ≡ x.piece → i < length xs → words_in (slice_set xs i y) ≡ words_in xs
words_set [] i x y e p lt = omega (arith, lt)
words_set (z ∷ zs) zero x y e p lt = ap (λ (q : Piece). words_of_piece q + words_in zs) (p ∙ ap (λ (w : PlacedPiece). w.piece) e)
words_set (z ∷ zs) (suc i) x y e p lt = ap (λ n. words_of_piece z.piece + n) (words_set zs i x y e p (omega (arith, lt)))

stops_append : (xs ys : List PlacedPiece) → stops_of (xs ++ ys) ≡ stops_of xs ++ stops_of ys
stops_append [] ys = refl
stops_append (x ∷ xs) ys = ap (λ l. stop_if x.is_stop x.owner ++ l) (stops_append xs ys) ∙ sym (append_assoc (stop_if x.is_stop x.owner) (stops_of xs) (stops_of ys))

-- The place that begins at the next word begins at the word that is put.
pub shown_put : (xs ys : List PlacedPiece) (p : PlacedPiece) → ys ≡ xs ++ p ∷ [] → stops_of ys ++ [] ≡ stops_of xs ++ stop_if p.is_stop p.owner
shown_put xs ys p e = append_none (stops_of ys) ∙ ap stops_of e ∙ stops_append xs (p ∷ []) ∙ ap (λ l. stops_of xs ++ l) (append_none (stop_if p.is_stop p.owner))

pub stops_set : (xs : List PlacedPiece) (i : ℕ) (x y : PlacedPiece) → x ≡ slice_index_or xs i x → y.is_stop ≡ x.is_stop → y.owner ≡ x.owner → i < length xs → stops_of (slice_set xs i y) ≡ stops_of xs
stops_set [] i x y e s o lt = absurd (omega (arith, lt))
stops_set (z ∷ zs) zero x y e s o lt =
    let is : y.is_stop ≡ z.is_stop = s ∙ ap (λ (w : PlacedPiece). w.is_stop) e in
    let of : y.owner ≡ z.owner = o ∙ ap (λ (w : PlacedPiece). w.owner) e in
    ap (λ b. stop_if b y.owner ++ stops_of zs) is ∙ ap (λ n. stop_if z.is_stop n ++ stops_of zs) of
stops_set (z ∷ zs) (suc i) x y e s o lt = ap (λ l. stop_if z.is_stop z.owner ++ l) (stops_set zs i x y e s o (omega (arith, lt)))

pub shown_set : (xs : List PlacedPiece) (i : ℕ) (x y : PlacedPiece) (more : List ℕ) → x ≡ slice_index_or xs i x → y.is_stop ≡ x.is_stop → y.owner ≡ x.owner → i < length xs → stops_of (slice_set xs i y) ++ more ≡ stops_of xs ++ more
shown_set xs i x y more e s o lt = ap (λ l. l ++ more) (stops_set xs i x y e s o lt)

-- Marking the last piece.
pub marked_last : (xs : List PlacedPiece) (i : ℕ) (x : PlacedPiece) (n : ℕ) → i + 1 ≡ length xs → x ≡ slice_index_or xs i x → slice_set xs i (record { piece = x.piece; owner = x.owner; is_stop = x.is_stop; writes = Some n }) ≡ marked n xs
marked_last [] i x n e is = absurd (omega (arith, e))
marked_last (p ∷ []) zero x n e is = ap (λ (y : PlacedPiece). record { piece = y.piece; owner = y.owner; is_stop = y.is_stop; writes = Some n } ∷ []) is
marked_last (p ∷ []) (suc i) x n e is = absurd (omega (arith, e))
marked_last (p ∷ q ∷ more) zero x n e is = absurd (omega (arith, e))
marked_last (p ∷ q ∷ more) (suc i) x n e is = ap (λ l. p ∷ l) (marked_last (q ∷ more) i x n (omega (arith, e)) is)
