-- What is told of the changes of a log is their first and their last.
use Rattle.std.proofs.Common.{◌≡◌, ℕ, zero, suc, ◌+◌, ◌≤◌, ◌<◌, ◌⊎◌, inl, inr, Bool, true, false, cond, true≢false, Option, Some, None, List, [], ◌∷◌, ◌++◌, length, get_or, take, drop, map, ◌-◌, refl, sym, ap, ◌∙◌, subst, arith, append_assoc}
use Rattle.std.specs.Prelude.{◌==◌, ◌&&◌, slice_get}
use Rattle.std.proofs.lemmas.Bool.{cases_eq, and_parts, and_from, eq-eqb, eqb-true}
use Rattle.std.proofs.lemmas.Option.{none-some, same_Some, slice_get_within}
use Rattle.debug_records.specs.Change.{is_taken}
use Rattle.graph_core.specs.Graphs.{Logged}
use Rattle.dead_pass_writes.proofs.Steps.{ahead_is, none_ahead}
use Rattle.dead_pass_writes.specs.declared.removed.Removals.{Removals}
use Rattle.dead_pass_writes.specs.declared.removed.RemovedChanges.{RemovedChanges}
use Rattle.dead_pass_writes.specs.Removals.{IsRemoval, IsFirstRemoval, IsLastRemoval}
use Rattle.dead_pass_writes.specs.RemovedChangesTelling.{told, with_removal, first_with, removals_by, first_of, last_of}

get_at : {A : Type 0} (xs : List A) (a : A) (ys : List A) → slice_get (xs ++ a ∷ ys) (length xs) ≡ Some a
get_at [] a ys = refl
get_at (x ∷ xs) a ys = get_at xs a ys

module _ (log : List Logged) (p v : ℕ) where
  abbrev IsOne : Logged → Bool
  IsOne c = is_taken c.kind && (c.place == p && c.variable == v)

  -- so it is told of the first so many
  data IsTold (count : ℕ) : Option Removals → Type 0 where
    never : ((number : ℕ) → IsRemoval log p v number → number ≤ count → ⊥) → IsTold count None
    some : {r : Removals} → IsFirstRemoval log p v r.first → IsRemoval log p v r.last → ((other : ℕ) → IsRemoval log p v other → other ≤ count → other ≤ r.last) → r.last ≤ count → IsTold count (Some r)

  one_here : (k : ℕ) (c : Logged) → slice_get log k ≡ Some c → IsOne c ≡ true → IsRemoval log p v (k + 1)
  one_here k c is e =
      let both = and_parts (is_taken c.kind) (c.place == p && c.variable == v) e in
      let rest = and_parts (c.place == p) (c.variable == v) both.1 in
      record { k = k; change = c; counted = refl; is = is; taken = both.0; in_place = eqb-true c.place p rest.0; of = eqb-true c.variable v rest.1 }

  only_here : (k number : ℕ) (c : Logged) → slice_get log k ≡ Some c → IsOne c ≡ false → IsRemoval log p v number → number ≤ k + 1 → number ≤ k
  only_here k number c is e r le = elim (cases_eq r.k k) [
    | inl q ↦ (let same : r.change ≡ c = same_Some r.change c (sym r.is ∙ ap (slice_get log) q ∙ is) in
        absurd (true≢false (sym (and_from (is_taken c.kind) (c.place == p && c.variable == v) (ap is_taken (ap (λ (z : Logged). z.kind) (sym same)) ∙ r.taken)
        (and_from (c.place == p) (c.variable == v) (eq-eqb c.place p (ap (λ (z : Logged). z.place) (sym same) ∙ r.in_place)) (eq-eqb c.variable v (ap (λ (z : Logged). z.variable) (sym same) ∙ r.of)))) ∙ e)))
    | inr ne ↦ (let counted = r.counted in omega (arith, counted, ne, le))
  ]

  told_next : (k : ℕ) (c : Logged) (was : Option Removals) → slice_get log k ≡ Some c → IsTold k was → IsTold (k + 1) (with_removal (IsOne c) (k + 1) was)
  told_next k c was is t = by (IsOne c) refl was t
    where
      by : (b : Bool) → IsOne c ≡ b → (old : Option Removals) → IsTold k old → IsTold (k + 1) (with_removal b (k + 1) old)
      by false e _ (never none) = never (λ number r le. none number r (only_here k number c is e r le))
      by false e _ (some first last most within) = some first last (λ other r le. most other r (only_here k other c is e r le)) (omega (arith, within))
      by true e _ (never none) =
          some (record { is = one_here k c is e; first = λ other r. at_least other r (cases_le other k) }) (one_here k c is e) (λ other r le. le) (omega arith)
        where
          at_least : (other : ℕ) → IsRemoval log p v other → (other ≤ k) ⊎ (k + 1 ≤ other) → k + 1 ≤ other
          at_least other r (inl le) = absurd (none other r le)
          at_least other r (inr more) = more

          cases_le : (a b : ℕ) → (a ≤ b) ⊎ (b + 1 ≤ a)
          cases_le zero b = inl (omega arith)
          cases_le (suc a) zero = inr (omega arith)
          cases_le (suc a) (suc b) = elim (cases_le a b) [ inl le ↦ inl (omega (arith, le)) | inr more ↦ inr (omega (arith, more)) ]
      by true e _ (some first last most within) = some first (one_here k c is e) (λ other r le. le) (omega arith)

  told_behind : (before ahead : List Logged) → log ≡ before ++ ahead → (was : Option Removals) → IsTold (length before) was → IsTold (length log) (removals_by p v was (length before) ahead)
  told_behind before [] parts was t = (let e : length before ≡ length log = sym (ap (λ l. length l) (parts ∙ append_nil before)) in subst (λ n. IsTold n was) e t)
    where
      append_nil : {A : Type 0} (xs : List A) → xs ++ [] ≡ xs
      append_nil [] = refl
      append_nil (x ∷ xs) = ap (λ ys. x ∷ ys) (append_nil xs)
  told_behind before (c ∷ ahead) parts was t =
      let there : slice_get log (length before) ≡ Some c = ap (λ l. slice_get l (length before)) parts ∙ get_at before c ahead in
      let long : length (before ++ c ∷ []) ≡ length before + 1 = length_one before in
      let next : Option Removals = with_removal (IsOne c) (length before + 1) was in
      let told = told_behind (before ++ c ∷ []) ahead (parts ∙ sym (append_assoc before (c ∷ []) ahead)) next (subst (λ n. IsTold n next) (sym long) (told_next (length before) c was there t)) in
      subst (λ n. IsTold (length log) (removals_by p v next n ahead)) long told
    where
      length_one : (xs : List Logged) → length (xs ++ c ∷ []) ≡ length xs + 1
      length_one [] = omega arith
      length_one (x ∷ xs) = (let e = length_one xs in omega (arith, e))

  all_told : IsTold (length log) (removals_by p v None 0 log)
  all_told = told_behind [] log refl None (never (λ number r le. (let counted = r.counted in omega (arith, counted, le))))

  within_log : (number : ℕ) → IsRemoval log p v number → number ≤ length log
  within_log number r = (let inside = slice_get_within log r.k r.change r.is in let counted = r.counted in omega (arith, inside, counted))

  pub first_told : (number : ℕ) → first_of (removals_by p v None 0 log) ≡ Some number → IsFirstRemoval log p v number
  first_told number e = by (removals_by p v None 0 log) all_told e
    where
      by : (o : Option Removals) → IsTold (length log) o → first_of o ≡ Some number → IsFirstRemoval log p v number
      by _ (never none) q = absurd (none-some number q)
      by _ (some {r} first last most within) q = subst (λ n. IsFirstRemoval log p v n) (same_Some r.first number q) first

  pub last_told : (number : ℕ) → last_of (removals_by p v None 0 log) ≡ Some number → IsLastRemoval log p v number
  last_told number e = by (removals_by p v None 0 log) all_told e
    where
      by : (o : Option Removals) → IsTold (length log) o → last_of o ≡ Some number → IsLastRemoval log p v number
      by _ (never none) q = absurd (none-some number q)
      by _ (some {r} first last most within) q = subst (λ n. IsLastRemoval log p v n) (same_Some r.last number q) (record { is = last; last = λ other s. most other s (within_log other s) })

  pub none_first : first_of (removals_by p v None 0 log) ≡ None → (number : ℕ) → IsRemoval log p v number → ⊥
  none_first e number r = by (removals_by p v None 0 log) all_told e
    where
      by : (o : Option Removals) → IsTold (length log) o → first_of o ≡ None → ⊥
      by _ (never none) q = none number r (within_log number r)
      by _ (some {r = s} first last most within) q = none-some s.first (sym q)

  pub none_last : last_of (removals_by p v None 0 log) ≡ None → (number : ℕ) → IsRemoval log p v number → ⊥
  none_last e number r = by (removals_by p v None 0 log) all_told e
    where
      by : (o : Option Removals) → IsTold (length log) o → last_of o ≡ None → ⊥
      by _ (never none) q = none number r (within_log number r)
      by _ (some {r = s} first last most within) q = none-some s.last (sym q)

-- a change is put
pub put_removal : (is_key was_eq : Bool) (value : Removals) (number : ℕ) (there was : Option Removals) → was_eq ≡ is_key → value ≡ record { first = first_with there number; last = number } → (is_key ≡ true → there ≡ was) → cond was_eq (Some value) was ≡ with_removal is_key number was
put_removal true was_eq value number there was e is same = ap (λ b. cond b (Some value) was) e ∙ ap Some is ∙ ap (λ o. Some (record { first = first_with o number; last = number })) (same refl)
put_removal false was_eq value number there was e is same = ap (λ b. cond b (Some value) was) e

-- what is told of the same key is the same
pub told_same : (w : RemovedChanges) (p x q y : ℕ) → (p == q && x == y) ≡ true → told w p x ≡ told w q y
told_same w p x q y e =
    let both = and_parts (p == q) (x == y) e in
    ap (λ a. told w a x) (eqb-true p q both.0) ∙ ap (λ b. told w q b) (eqb-true x y both.1)

-- one change more
pub change_step : {A : Type 0} (view : A → Logged) (ahead : List A) (item : A) (p v n next : ℕ) (was now whole : Option Removals) → 1 ≤ length ahead → item ≡ get_or ahead 0 item → next ≡ n + 1
    → now ≡ with_removal (is_taken (view item).kind && ((view item).place == p && (view item).variable == v)) next was → removals_by p v was n (map view ahead) ≡ whole → removals_by p v now next (map view (take (length ahead - 1) (drop 1 ahead))) ≡ whole
change_step view ahead item p v n next was now whole le e counts grown so_far =
    let rest = map view (take (length ahead - 1) (drop 1 ahead)) in
    let test = is_taken (view item).kind && ((view item).place == p && (view item).variable == v) in
    ap (λ w. removals_by p v w next rest) grown ∙ ap (λ k. removals_by p v (with_removal test k was) k rest) counts ∙ ap (removals_by p v was n) (sym (ahead_is view ahead item le e)) ∙ so_far

pub change_done : {A : Type 0} (view : A → Logged) (ahead : List A) (p v n : ℕ) (was whole : Option Removals) → length ahead < 1 → removals_by p v was n (map view ahead) ≡ whole → was ≡ whole
change_done view ahead p v n was whole lt e = sym (ap (removals_by p v was n) (none_ahead view ahead lt)) ∙ e
