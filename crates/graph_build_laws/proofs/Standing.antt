-- The inner blocks of a function stand behind its places' blocks, in order of evaluation.
use Rattle.std.proofs.Common.{◌≡◌, ◌⊎◌, inl, inr, ℕ, zero, suc, ◌+◌, ◌-◌, ◌<◌, Some, List, [], ◌∷◌, ◌++◌, length, reverse, slice_get, refl, sym, ◌∙◌, subst, arith}
use Rattle.std.proofs.lemmas.List.{reverse-append, length-reverse, length-append}
use Rattle.graph_core.specs.Graphs.{Block}
use Rattle.graph_core.specs.Paths.{Among, front, behind}
use Rattle.graph_build_laws.specs.Points.{StandIn}
use Rattle.graph_build_laws.proofs.Instances.{got_before, got_next}
use Rattle.base_laws.proofs.Options.{none_is}
pub use Rattle.graph_core.proofs.Among.{among_either, get_among as got_among}

pub got_within : {A : Type 0} (xs : List A) (k : ℕ) (a : A) → slice_get xs k ≡ Some a → k < length xs
got_within [] k a e = absurd (none_is e)
got_within (x ∷ xs) zero a e = omega arith
got_within (x ∷ xs) (suc k) a e = omega (arith, got_within xs k a e)

pub got_behind : {A : Type 0} (xs ys : List A) (k : ℕ) (a : A) → slice_get ys k ≡ Some a → slice_get (xs ++ ys) (length xs + k) ≡ Some a
got_behind [] ys k a e = subst (λ j. slice_get ys j ≡ Some a) none e
  where
    none : k ≡ 0 + k
    none = omega arith
got_behind (x ∷ xs) ys k a e = subst (λ j. slice_get (x ∷ (xs ++ ys)) j ≡ Some a) one (got_behind xs ys k a e)
  where
    one : suc (length xs + k) ≡ suc (length xs) + k
    one = omega arith

turned : {A : Type 0} (x : A) (xs : List A) → reverse (x ∷ xs) ≡ reverse xs ++ x ∷ []
turned x xs = reverse-append (x ∷ []) xs

got_reversed : {A : Type 0} (xs : List A) (k : ℕ) (a : A) → slice_get xs k ≡ Some a → slice_get (reverse xs) (length xs - (k + 1)) ≡ Some a
got_reversed [] k a e = absurd (none_is e)
got_reversed (x ∷ xs) zero a e =
    let last : length (reverse xs) ≡ suc (length xs) - (0 + 1) = omega (arith, length-reverse xs) in
    subst (λ zs. slice_get zs (suc (length xs) - (0 + 1)) ≡ Some a) (sym (turned x xs)) (subst (λ j. slice_get (reverse xs ++ x ∷ []) j ≡ Some a) last (got_next (reverse xs) x ∙ e))
got_reversed (x ∷ xs) (suc k) a e =
    let same : length xs - (k + 1) ≡ suc (length xs) - (suc k + 1) = omega arith in
    subst (λ zs. slice_get zs (suc (length xs) - (suc k + 1)) ≡ Some a) (sym (turned x xs)) (got_before (reverse xs) (x ∷ []) _ a (subst (λ j. slice_get (reverse xs) j ≡ Some a) same (got_reversed xs k a e)))

-- Inner blocks stand behind others, turned round.
pub stand_behind : (placed inner : List Block) → StandIn (placed ++ reverse inner) (length (placed ++ reverse inner)) inner
stand_behind placed inner k b e =
    let less : k < length inner = got_within inner k b e in
    let at : length placed + (length inner - (k + 1)) ≡ length (placed ++ reverse inner) - (k + 1) = omega (arith, length-append placed (reverse inner), length-reverse inner) in
    subst (λ j. slice_get (placed ++ reverse inner) j ≡ Some b) at (got_behind placed (reverse inner) (length inner - (k + 1)) b (got_reversed inner k b e))

among_one : {A : Type 0} {a b : A} → Among a (b ∷ []) → b ≡ a
among_one front = refl
among_one (behind a) = elim a [ ]

pub among_reversed : {A : Type 0} (xs : List A) (a : A) → Among a (reverse xs) → Among a xs
among_reversed [] a h = elim h [ ]
among_reversed (x ∷ xs) a h = by (among_either (reverse xs) (x ∷ []) a (subst (λ zs. Among a zs) (turned x xs) h)) (among_reversed xs a)
  where
    by : Among a (reverse xs) ⊎ Among a (x ∷ []) → (Among a (reverse xs) → Among a xs) → Among a (x ∷ xs)
    by (inl k) later = behind (later k)
    by (inr k) later = subst (λ y. Among y (x ∷ xs)) (among_one k) front
