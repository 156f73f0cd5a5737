-- Lists that have all that are so, and what is added to them.
use Rattle.std.proofs.Common.{◌≡◌, ◌≢◌, ◌⊎◌, inl, inr, ℕ, zero, suc, ◌+◌, ◌-◌, ◌<◌, List, [], ◌∷◌, ◌++◌, length, get_or, refl, sym, ap, ◌∙◌, subst, arith, append_assoc, ⊎_elim}
use Rattle.std.specs.List.{AllPairs, Contains}
use Rattle.std.proofs.lemmas.Bool.{cases_lt}
use Rattle.std.proofs.lemmas.List.{length-append, append-nil, get_or_append_left, get_or-append_right, get_or_default}
use Rattle.std.proofs.lemmas.List.Elements.{Contains-append_left, Contains-append_right, Contains-append_cases}
use Rattle.pass_law.specs.Changes.{AreAll, Adds, Below, Numbered}

-- what stands at a number of a list is in it
pub stands_in : {A : Type 0} (xs : List A) (k : ℕ) (d : A) → k < length xs → Contains xs (get_or xs k d)
stands_in xs k d lt = (k, lt, get_or_default xs k (get_or xs k d) d lt)

pairs_append : {A : Type 0} (R : A → A → Type 0) (xs ys : List A) → AllPairs R xs → AllPairs R ys → ((x y : A) → Contains xs x → Contains ys y → R x y) → AllPairs R (xs ++ ys)
pairs_append R xs ys h k cross i j d less within =
    let whole = length-append xs ys in
    elim (cases_lt j (length xs)) [
      | inl early ↦ subst (λ a. R a (get_or (xs ++ ys) j d)) (sym (get_or_append_left xs ys d i (omega (arith, less, early))))
          (subst (λ b. R (get_or xs i d) b) (sym (get_or_append_left xs ys d j early)) (h i j d less early))
      | inr late ↦
          let last : j - length xs < length ys = omega (arith, within, whole, late) in
          elim (cases_lt i (length xs)) [
            | inl early ↦ subst (λ a. R a (get_or (xs ++ ys) j d)) (sym (get_or_append_left xs ys d i early))
                (subst (λ b. R (get_or xs i d) b) (sym (get_or-append_right xs ys (length xs) j d refl late))
                (cross (get_or xs i d) (get_or ys (j - length xs) d) (stands_in xs i d early) (stands_in ys (j - length xs) d last)))
            | inr later ↦ subst (λ a. R a (get_or (xs ++ ys) j d)) (sym (get_or-append_right xs ys (length xs) i d refl later))
                (subst (λ b. R (get_or ys (i - length xs) d) b) (sym (get_or-append_right xs ys (length xs) j d refl late))
                (k (i - length xs) (j - length xs) d (omega (arith, less, later, late)) last))
          ]
    ]

-- nothing is in no list, and only one in a list of one
none_in : {A : Type 0} (a : A) → Contains [] a → ⊥
none_in a (k, lt, e) = absurd (omega (arith, lt))

one_in : {A : Type 0} (a b : A) → Contains (a ∷ []) b → a ≡ b
one_in a b (zero, lt, e) = e
one_in a b (suc k, lt, e) = absurd (omega (arith, lt))

module _ {A : Type 0} where
  pub all_none : (P : A → Type 0) → ((a : A) → P a → ⊥) → AreAll P []
  all_none P none = record { only = λ a c. absurd (none_in a c); each = λ a p. absurd (none a p); once = λ i j d less within. absurd (omega (arith, within)) }

  all_one : (P : A → Type 0) (a : A) → P a → ((b : A) → P b → b ≡ a) → AreAll P (a ∷ [])
  all_one P a p same = record {
    only = λ b c. subst P (one_in a b c) p;
    each = λ b q. subst (λ z. Contains (a ∷ []) z) (sym (same b q)) (stands_in (a ∷ []) 0 a (omega arith));
    once = λ i j d less within. absurd (omega (arith, less, within));
  }

  pub all_same : (P Q : A → Type 0) (xs : List A) → ((a : A) → P a → Q a) → ((a : A) → Q a → P a) → AreAll P xs → AreAll Q xs
  all_same P Q xs to back all = record { only = λ a c. to a (all.only a c); each = λ a q. all.each a (back a q); once = all.once }

  all_join : (P Q R : A → Type 0) (xs ys : List A) → ((a : A) → P a → Q a → ⊥) → ((a : A) → R a → P a ⊎ Q a) → ((a : A) → P a → R a) → ((a : A) → Q a → R a) → AreAll P xs → AreAll Q ys → AreAll R (xs ++ ys)
  all_join P Q R xs ys apart split left right p q = record {
    only = λ a c. ⊎_elim (λ l. left a (p.only a l)) (λ r. right a (q.only a r)) (Contains-append_cases xs ys a c);
    each = λ a r. ⊎_elim (λ l. Contains-append_left xs ys a (p.each a l)) (λ m. Contains-append_right xs ys a (q.each a m)) (split a r);
    once = pairs_append (λ a b. a ≢ b) xs ys p.once q.once (λ x y c d e. apart x (p.only x c) (subst Q (sym e) (q.only y d)));
  }

  pub adds_none : (P : A → Type 0) (old : List A) → ((a : A) → P a → ⊥) → Adds P old old
  adds_none P old none = record { added = []; behind = sym (append-nil old); all = all_none P none }

  pub adds_one : (P : A → Type 0) (old new : List A) (a : A) → new ≡ old ++ a ∷ [] → P a → ((b : A) → P b → b ≡ a) → Adds P old new
  adds_one P old new a grown p same = record { added = a ∷ []; behind = grown; all = all_one P a p same }

  pub adds_same : (P Q : A → Type 0) (old new : List A) → ((a : A) → P a → Q a) → ((a : A) → Q a → P a) → Adds P old new → Adds Q old new
  adds_same P Q old new to back adds = record { added = adds.added; behind = adds.behind; all = all_same P Q adds.added to back adds.all }

  -- what is so and below a number, or has it, is below the next one
  module _ (P : A → Type 0) (number : A → ℕ) where
    below_or_at : (k : ℕ) (a : A) → Below P number (k + 1) a → Below P number k a ⊎ Numbered P number k a
    below_or_at k a h = elim (cases_lt (number a) k) [
      | inl less ↦ inl (h.0, less)
      | inr late ↦ inr (h.0, omega (arith, h.1, late))
    ]

    pub all_next : (k : ℕ) (xs ys : List A) → AreAll (Below P number k) xs → AreAll (Numbered P number k) ys → AreAll (Below P number (k + 1)) (xs ++ ys)
    all_next k xs ys p q =
        all_join (Below P number k) (Numbered P number k) (Below P number (k + 1)) xs ys (λ a l m. omega (arith, l.1, m.1)) (below_or_at k) (λ a l. (l.0, omega (arith, l.1))) (λ a m. (m.0, omega (arith, m.1))) p q

    pub adds_first : (old : List A) → Adds (Below P number 0) old old
    adds_first old = adds_none (Below P number 0) old (λ a h. absurd (omega (arith, h.1)))

    pub adds_next : (k : ℕ) (old mid new : List A) → Adds (Below P number k) old mid → Adds (Numbered P number k) mid new → Adds (Below P number (k + 1)) old new
    adds_next k old mid new p q = record {
      added = p.added ++ q.added;
      behind = q.behind ∙ ap (λ l. l ++ q.added) p.behind ∙ append_assoc old p.added q.added;
      all = all_next k p.added q.added p.all q.all;
    }

    pub adds_last : (n : ℕ) (old new : List A) → ((a : A) → P a → number a < n) → Adds (Below P number n) old new → Adds P old new
    adds_last n old new within = adds_same (Below P number n) P old new (λ a h. h.0) (λ a p. (p, within a p))
