-- What is held, and what is wanted where the end of a block leads.
use Rattle.std.proofs.Common.{◌≡◌, ◌<◌, ◌≤◌, ◌-◌, ℕ, suc, Some, List, [], ◌∷◌, length, map, take, drop, get_or, slice_get, refl, sym, subst, arith}
use Rattle.graph_core.specs.declared.name.Label.{Label}
use Rattle.graph_core.specs.Paths.{Among, front, behind}
use Rattle.rv_emit_words.specs.declared.piece.Held.{Held}
use Rattle.rv_emit_sequence.specs.Sequences.{Holds}
use Rattle.rv_emit_sequence.proofs.Splitting.{split_first}

same_held : (x y : Held) → x.register ≡ y.register → x.word ≡ y.word → x ≡ y
same_held x y a b = λ i. record { register = a i; word = b i }

-- The first of what is left is what is wanted, or it is among the others.
pub found_first : (left : List Held) (w d : Held) → 1 ≤ length left → (get_or left 0 d).register ≡ w.register → (get_or left 0 d).word ≡ w.word → Among w left
found_first left w d some a b =
    subst (λ l. Among w l) (sym (split_first left (get_or left 0 d) d some refl)) (subst (λ x. Among w (x ∷ take (length left - 1) (drop 1 left))) (sym (same_held (get_or left 0 d) w a b)) front)

pub found_later : (left : List Held) (w d : Held) → 1 ≤ length left → Among w (take (length left - 1) (drop 1 left)) → Among w left
found_later left w d some there = subst (λ l. Among w l) (sym (split_first left (get_or left 0 d) d some refl)) (behind there)

-- The first of what is wanted is held, and the rest.
pub holds_first : (held left : List Held) (d : Held) → 1 ≤ length left → Among (get_or left 0 d) held → Holds held (take (length left - 1) (drop 1 left)) → Holds held left
holds_first held left d some one rest = subst (λ l. Holds held l) (sym (split_first left (get_or left 0 d) d some refl)) both
  where
    both : Holds held (get_or left 0 d ∷ take (length left - 1) (drop 1 left))
    both x front = one
    both x (behind there) = rest x there

-- ---- Ends

-- What is wanted at each of some labels is held.
pub labels_lead : (held : List Held) (at : ℕ → List Held) (labels : List Label) (index : ℕ) → ((k : ℕ) (x : Label) → k < index → slice_get labels k ≡ Some x → Holds held (at x.0)) → length labels ≤ index
    → (l : ℕ) → Among l (map (λ (x : Label). x.0) labels) → Holds held (at l)
labels_lead held at [] index all few l none = elim none [ ]
labels_lead held at (x ∷ more) index all few l front = all 0 x (omega (arith, few)) refl
labels_lead held at (x ∷ more) index all few l (behind there) = labels_lead held at more (index - 1) (λ k y lt found. all (suc k) y (omega (arith, lt, few)) found) (omega (arith, few)) l there
