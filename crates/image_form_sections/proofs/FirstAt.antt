-- The first row with each key, row after row.
use Rattle.std.proofs.Common.{◌≡◌, ℕ, suc, ◌+◌, ◌<◌, Bool, true, false, ◌&&◌, cond, List, [], ◌∷◌, ◌++◌, length, get_or, take, Option, Some, None, refl, sym, ap, ◌∙◌, arith, add-one, inl, inr, eqb, nat_cmp}
use Rattle.std.specs.Prelude.{is_some}
use Rattle.std.specs.Ordering.{is_eq, ordering_then}
use Rattle.image_form_sections.specs.Layouts.{node_cmp}
use Rattle.std.specs.List.{position_from}
use Rattle.std.proofs.Math.Seq.{take-suc}
use Rattle.std.proofs.lemmas.Bool.{true≢false, cases_Bool, eq-eqb, eqb-true, and_parts}
use Rattle.std.proofs.lemmas.List.{length-take}
use Rattle.std.proofs.lemmas.Option.{none-some}
use Rattle.base_laws.proofs.Numbers.{is_eq-ordering_then}
use Rattle.base_laws.proofs.Options.{some_or_none}
pub use Rattle.base_laws.proofs.Numbers.{same_number}

-- The first that passes stays the first.
position_seen : {A : Type 0} (test : A → Bool) (n : ℕ) (xs : List A) (ys : List A) (i : ℕ) → position_from test n xs ≡ Some i → position_from test n (xs ++ ys) ≡ Some i
position_seen test n [] ys i e = absurd cc
position_seen test n (x ∷ xs) ys i e = go (test x) refl (position_seen test (n + 1) xs ys i)
  where
    go : (b : Bool) → test x ≡ b → (position_from test (n + 1) xs ≡ Some i → position_from test (n + 1) (xs ++ ys) ≡ Some i) → position_from test n ((x ∷ xs) ++ ys) ≡ Some i
    go true t later = rw t (rw t at e)
    go false t later = rw t (later (rw t at e))

-- Where none passes, one more is the first if it passes.
position_unseen : {A : Type 0} (test : A → Bool) (n : ℕ) (xs : List A) (y : A) → position_from test n xs ≡ None → position_from test n (xs ++ y ∷ []) ≡ cond (test y) (Some (n + length xs)) None
position_unseen test n [] y e = let same : n + 0 ≡ n = omega arith in rw same refl
position_unseen test n (x ∷ xs) y e = go (test x) refl (position_unseen test (n + 1) xs y)
  where
    go : (b : Bool) → test x ≡ b → (position_from test (n + 1) xs ≡ None → position_from test (n + 1) (xs ++ y ∷ []) ≡ cond (test y) (Some (n + 1 + length xs)) None)
        → position_from test n ((x ∷ xs) ++ y ∷ []) ≡ cond (test y) (Some (n + length (x ∷ xs))) None
    go true t later = absurd (none-some _ (sym (rw t at e)))
    go false t later = let more : n + 1 + length xs ≡ n + suc (length xs) = omega arith in rw (t, ← more) (later (rw t at e))

module _ {A K : Type 0} (key : A → K) (same : K → K → Bool) (self : (k : K) → same k k ≡ true) (alike : (k q : K) → same k q ≡ true → k ≡ q) where
  -- A row whose key was seen changes nothing.
  pub seen_again : (rows : List A) (i : ℕ) (d : A) (first : K → Option ℕ) → i < length rows
      → ((q : K) → first q ≡ position_from (λ r. same (key r) q) 0 (take i rows))
      → is_some (first (key (get_or rows i d))) ≡ true
      → (q : K) → first q ≡ position_from (λ r. same (key r) q) 0 (take (i + 1) rows)
  seen_again rows i d first lt before seen q =
      let row = get_or rows i d in
      let longer : take (i + 1) rows ≡ take i rows ++ row ∷ [] = rw add-one (take-suc rows i d lt) in
      elim (some_or_none (first q)) [
        | inl there ↦ there.1 ∙ sym (ap (position_from (λ r. same (key r) q) 0) longer ∙ position_seen (λ r. same (key r) q) 0 (take i rows) (row ∷ []) there.0 (sym (before q) ∙ there.1))
        | inr none ↦ none ∙ sym (ap (position_from (λ r. same (key r) q) 0) longer ∙ position_unseen (λ r. same (key r) q) 0 (take i rows) row (sym (before q) ∙ none) ∙ ap (λ (b : Bool). cond b (Some (0 + length (take i rows))) None) (other none))
      ]
    where
      other : first q ≡ None → same (key (get_or rows i d)) q ≡ false
      other none = elim (cases_Bool (same (key (get_or rows i d)) q)) [
        | inl is ↦ absurd (true≢false (sym seen ∙ ap (λ (k : K). is_some (first k)) (alike (key (get_or rows i d)) q is) ∙ ap is_some none))
        | inr not ↦ not
      ]

  -- A row with a new key is the first one.
  pub seen_new : (rows : List A) (i : ℕ) (d : A) (first : K → Option ℕ) → i < length rows
      → ((q : K) → first q ≡ position_from (λ r. same (key r) q) 0 (take i rows))
      → is_some (first (key (get_or rows i d))) ≡ false
      → (q : K) → cond (same (key (get_or rows i d)) q) (Some i) (first q) ≡ position_from (λ r. same (key r) q) 0 (take (i + 1) rows)
  seen_new rows i d first lt before new q =
      let row = get_or rows i d in
      let longer : take (i + 1) rows ≡ take i rows ++ row ∷ [] = rw add-one (take-suc rows i d lt) in
      let long : 0 + length (take i rows) ≡ i = omega (arith, length-take i rows, lt) in
      elim (some_or_none (first q)) [
        | inl there ↦ ap (λ (b : Bool). cond b (Some i) (first q)) (other there.0 there.1) ∙ there.1 ∙ sym (ap (position_from (λ r. same (key r) q) 0) longer ∙ position_seen (λ r. same (key r) q) 0 (take i rows) (row ∷ []) there.0 (sym (before q) ∙ there.1))
        | inr none ↦ ap (λ (o : Option ℕ). cond (same (key row) q) (Some i) o) none ∙ sym (ap (position_from (λ r. same (key r) q) 0) longer ∙ position_unseen (λ r. same (key r) q) 0 (take i rows) row (sym (before q) ∙ none) ∙ ap (λ (n : ℕ). cond (same (key row) q) (Some n) None) long)
      ]
    where
      other : (j : ℕ) → first q ≡ Some j → same (key (get_or rows i d)) q ≡ false
      other j some = elim (cases_Bool (same (key (get_or rows i d)) q)) [
        | inl is ↦ absurd (true≢false (sym (ap (λ (k : K). is_some (first k)) (alike (key (get_or rows i d)) q is) ∙ ap is_some some) ∙ new))
        | inr not ↦ not
      ]

pub number_self : (a : ℕ) → eqb a a ≡ true
number_self a = eq-eqb a a refl

-- Three numbers are the same.
abbrev pub three_same : ℕ × ℕ × ℕ → ℕ × ℕ × ℕ → Bool
three_same k q = eqb k.0 q.0 && eqb k.1 q.1 && eqb k.2 q.2

-- They compare as equal where they are the same.
pub same_three : (k q : ℕ × ℕ × ℕ) → is_eq (node_cmp k q) ≡ three_same k q
same_three k q =
    is_eq-ordering_then (ordering_then (nat_cmp k.0 q.0) (nat_cmp k.1 q.1)) (nat_cmp k.2 q.2)
    ∙ ap (λ (b : Bool). b && is_eq (nat_cmp k.2 q.2)) (is_eq-ordering_then (nat_cmp k.0 q.0) (nat_cmp k.1 q.1))
    ∙ rw (same_number k.0 q.0, same_number k.1 q.1, same_number k.2 q.2) refl

pub three_self : (k : ℕ × ℕ × ℕ) → three_same k k ≡ true
three_self k = rw (number_self k.0, number_self k.1, number_self k.2) refl

pub three_alike : (k q : ℕ × ℕ × ℕ) → three_same k q ≡ true → k ≡ q
three_alike k q e =
    let outer = and_parts (eqb k.0 q.0 && eqb k.1 q.1) (eqb k.2 q.2) e in
    let inner = and_parts (eqb k.0 q.0) (eqb k.1 q.1) outer.0 in
    let e0 = eqb-true k.0 q.0 inner.0 in
    let e1 = eqb-true k.1 q.1 inner.1 in
    let e2 = eqb-true k.2 q.2 outer.1 in
    (λ i. (e0 i, e1 i, e2 i))
