-- Computations and their numbers, one more after the other.
use Rattle.std.proofs.Common.{◌≡◌, ℕ, zero, suc, ◌+◌, ◌<◌, true, false, cond, List, [], ◌∷◌, ◌++◌, length, get_or, Option, Some, None, refl, sym, ap, ◌∙◌, subst, arith, ◌⊎◌, inl, inr}
use Rattle.std.specs.Prelude.{is_some, slice_get}
use Rattle.std.proofs.lemmas.Bool.{true≢false, cases_Bool, cases_lt}
use Rattle.std.proofs.lemmas.Option.{none-some, same_Some}
use Rattle.graph_core.specs.Graphs.{Instruction}
use Rattle.graph_core.specs.Computations.{Computation, computed_by}
use Rattle.motion_pass_points.specs.Computing.{key_of, same_key}
use Rattle.motion_pass_points.specs.Numbers.{Key, AreNumbersOf, AreOnce, again, first, IsNumberOf}
use Rattle.motion_pass_points.specs.Columns.{number_at}
use Rattle.motion_pass_points.proofs.Keys.{one_key, key_self, key_alike}
use Rattle.base_laws.proofs.Lists.{snoc_below, snoc_there}
use Rattle.base_laws.proofs.Options.{some_or_none}
pub use Rattle.base_laws.proofs.Lists.{snoc_new, snoc_old}

pub snoc_cases : {A : Type 0} (xs : List A) (y : A) (k : ℕ) (a : A) → slice_get (xs ++ y ∷ []) k ≡ Some a → (slice_get xs k ≡ Some a) ⊎ ((k ≡ length xs) × (y ≡ a))
snoc_cases [] y zero a e = inr (refl, same_Some y a e)
snoc_cases [] y (suc k) a e = absurd (none-some _ e)
snoc_cases (x ∷ xs) y zero a e = inl e
snoc_cases (x ∷ xs) y (suc k) a e = elim (snoc_cases xs y k a e) [ inl old ↦ inl old | inr new ↦ inr (ap suc new.0, new.1) ]

module _ (all : List Computation) (find : Key → Option ℕ) (are : AreNumbersOf all find) (e : Computation) where
  -- one that is found is one of them
  pub once_again : is_some (find (key_of e)) ≡ true → (list : List Computation) → AreOnce list all → AreOnce (list ++ e ∷ []) all
  once_again found list once = elim (some_or_none (find (key_of e))) [
    | inl there ↦ (let d = are.only (key_of e) there.0 there.1 in
        again there.0 once (d.1 ∙ ap Some (one_key d.0 e d.2)))
    | inr none ↦ absurd (true≢false (sym found ∙ ap is_some none))
  ]

  module _ (none : is_some (find (key_of e)) ≡ false) where
    not_found : find (key_of e) ≡ None
    not_found = elim (some_or_none (find (key_of e))) [
      | inl there ↦ absurd (true≢false (sym (ap is_some there.1) ∙ none))
      | inr is ↦ is
    ]

    -- one that is not found is none of them
    pub once_more : (list : List Computation) → AreOnce list all → AreOnce (list ++ e ∷ []) (all ++ e ∷ [])
    once_more list once = first once (λ k at. none-some k (sym not_found ∙ are.each k e at))

    pub numbers_more : (next : Key → Option ℕ) → ((q : Key) → next q ≡ cond (same_key (key_of e) q) (Some (length all)) (find q)) → AreNumbersOf (all ++ e ∷ []) next
    numbers_more next is = record {
      each = λ k d at. elim (snoc_cases all e k d at) [
        | inl old ↦ is (key_of d) ∙ elim (cases_Bool (same_key (key_of e) (key_of d))) [
          | inl same ↦ absurd (none-some k (sym not_found ∙ ap find (key_alike (key_of e) (key_of d) same) ∙ are.each k d old))
          | inr other ↦ ap (λ b. cond b (Some (length all)) (find (key_of d))) other ∙ are.each k d old
        ]
        | inr new ↦ is (key_of d) ∙ ap (λ b. cond b (Some (length all)) (find (key_of d))) (ap (λ (c : Computation). same_key (key_of e) (key_of c)) (sym new.1) ∙ key_self (key_of e)) ∙ ap Some (sym new.0)
      ];
      only = λ q k found. elim (cases_Bool (same_key (key_of e) q)) [
        | inl same ↦ (let number : length all ≡ k = same_Some (length all) k (sym (is q ∙ ap (λ b. cond b (Some (length all)) (find q)) same) ∙ found) in
            (e, subst (λ n. slice_get (all ++ e ∷ []) n ≡ Some e) number (snoc_new all e), key_alike (key_of e) q same))
        | inr other ↦ (let d = are.only q k (sym (is q ∙ ap (λ b. cond b (Some (length all)) (find q)) other) ∙ found) in
            (d.0, snoc_old all (e ∷ []) k d.0 d.1, d.2))
      ];
    }

-- the number by which a computation is found
pub number_found : (all : List Computation) (find : Key → Option ℕ) → AreNumbersOf all find → (what : Option Computation) (e : Computation) → what ≡ Some e → (o : Option ℕ) → o ≡ find (key_of e) → IsNumberOf all what o
number_found all find are what e is None found = λ d k at there. none-some k (found ∙ ap (λ (c : Computation). find (key_of c)) (same_Some e d (sym is ∙ at)) ∙ are.each k d there)
number_found all find are what e is (Some k) found =
    let d = are.only (key_of e) k (sym found) in
    (e, is, d.1 ∙ ap Some (one_key d.0 e d.2))

-- one number more
pub numbers_on : (all : List Computation) (instructions : List Instruction) (out longer : List (Option ℕ)) (index : ℕ) (i : Instruction) (o : Option ℕ) → longer ≡ out ++ o ∷ [] → length out ≡ index → slice_get instructions index ≡ Some i → IsNumberOf all (computed_by i) o
    → ((k : ℕ) (j : Instruction) → k < index → slice_get instructions k ≡ Some j → IsNumberOf all (computed_by j) (number_at out k)) → (k : ℕ) (j : Instruction) → k < index + 1 → slice_get instructions k ≡ Some j → IsNumberOf all (computed_by j) (number_at longer k)
numbers_on all instructions out longer index i o grown count at is was k j lt there = elim (cases_lt k index) [
  | inl less ↦ subst (λ n. IsNumberOf all (computed_by j) n) (sym (ap (λ (l : List (Option ℕ)). get_or l k None) grown ∙ snoc_below out o None k (omega (arith, less, count)))) (was k j less there)
  | inr more ↦
      let same : k ≡ index = omega (arith, lt, more) in
      let one : i ≡ j = same_Some i j (sym at ∙ ap (slice_get instructions) (sym same) ∙ there) in
      let number : number_at longer k ≡ o = ap (λ (l : List (Option ℕ)). get_or l k None) grown ∙ ap (λ n. get_or (out ++ o ∷ []) n None) (same ∙ sym count) ∙ snoc_there out o None in
      subst (λ n. IsNumberOf all (computed_by j) n) (sym number) (subst (λ (d : Instruction). IsNumberOf all (computed_by d) o) one is)
]
