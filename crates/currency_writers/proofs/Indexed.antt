-- Writes by homes and names.
use Rattle.std.proofs.Common.{◌≡◌, ◌≢◌, inl, inr, ℕ, zero, suc, ◌<◌, ◌≤◌, Option, Some, List, [], ◌∷◌, ◌++◌, length, refl, sym, ap, subst, ◌∙◌, arith}
use Rattle.std.specs.Prelude.{slice_get, slice_set, All, Contains, ◌⊎◌}
use Rattle.std.specs.Option.{option_map_or}
use Rattle.std.specs.Global.{Vec}
use Rattle.std.specs.List.Sorted.{IsPermutation}
use Rattle.std.proofs.lemmas.Bool.Decides.{eqb_tells}
use Rattle.std.proofs.lemmas.List.Elements.{All-nil, All-push, All-weaker, Contains-append_left, Contains-push}
use Rattle.std.proofs.lemmas.List.Sorted.{All-permutation, Contains-permutation, IsPermutation-refl}
use Rattle.std.proofs.lemmas.Option.{none-some, same_Some, slice_get_within}
use Rattle.currency_notes.specs.Homes.{home_in, number_at}
use Rattle.graph_homes.specs.declared.home.Home.{Home}
use Rattle.currency_writers.specs.declared.writers.Writers as declared-writers
use Rattle.currency_writers.specs.declared.writers.Written as declared-written
use Rattle.currency_writers.specs.declared.writers.Write as declared-write
use Rattle.currency_writers.specs.Order.{IsNoLater, rank_of}
use Rattle.currency_writers.specs.Writers.{AreWritesBy, IsIndexed, IsWriteBy, home_key, writes_in}
use Rattle.currency_writers.proofs.Order.{no_later_same}

pub get_kept : {A : Type 0} (all : List A) (one z : A) (k : ℕ) → slice_get all k ≡ Some z → slice_get (all ++ (one ∷ [])) k ≡ Some z
get_kept [] one z k e = absurd (none-some z e)
get_kept (x ∷ all) one z zero e = e
get_kept (x ∷ all) one z (suc k) e = get_kept all one z k e

pub get_last : {A : Type 0} (all : List A) (one : A) → slice_get (all ++ (one ∷ [])) (length all) ≡ Some one
get_last [] one = refl
get_last (x ∷ all) one = get_last all one

pub get_cases : {A : Type 0} (all : List A) (one z : A) (k : ℕ) → slice_get (all ++ (one ∷ [])) k ≡ Some z → (slice_get all k ≡ Some z) ⊎ ((k ≡ length all) × (one ≡ z))
get_cases [] one z zero e = inr (refl, same_Some one z e)
get_cases [] one z (suc k) e = absurd (none-some z e)
get_cases (x ∷ all) one z zero e = inl e
get_cases (x ∷ all) one z (suc k) e = elim (get_cases all one z k e) [ inl f ↦ inl f | inr f ↦ inr (ap suc f.0, f.1) ]

put_same : (all : List (Vec declared-write.Write)) (k : ℕ) (v : Vec declared-write.Write) → k < length all → writes_in (slice_set all k v) k ≡ v.items
put_same [] k v lt = absurd (omega (arith, lt))
put_same (w ∷ all) zero v lt = refl
put_same (w ∷ all) (suc k) v lt = put_same all k v (omega (arith, lt))

put_other : (all : List (Vec declared-write.Write)) (i : ℕ) (v : Vec declared-write.Write) (k : ℕ) → k ≢ i → writes_in (slice_set all i v) k ≡ writes_in all k
put_other [] i v k other = refl
put_other (w ∷ all) zero v zero other = absurd (other refl)
put_other (w ∷ all) zero v (suc k) other = refl
put_other (w ∷ all) (suc i) v zero other = refl
put_other (w ∷ all) (suc i) v (suc k) other = put_other all i v k (λ e. other (ap suc e))

writes_at : (all : List (Vec declared-write.Write)) (k : ℕ) (v : Vec declared-write.Write) → slice_get all k ≡ Some v → writes_in all k ≡ v.items
writes_at all k v e = ap (λ (o : Option (Vec declared-write.Write)). option_map_or (λ (z : Vec declared-write.Write). z.items) o []) e

module _ (old : List (Vec declared-write.Write)) (number : ℕ) (v w : Vec declared-write.Write) (lt : number < length old) (is : slice_get old number ≡ Some v) where
  pub pushed_here : (entry : declared-write.Write) → w.items ≡ v.items ++ (entry ∷ []) → writes_in (slice_set old number w) number ≡ writes_in old number ++ (entry ∷ [])
  pushed_here entry more = put_same old number w lt ∙ more ∙ ap (λ xs. xs ++ (entry ∷ [])) (sym (writes_at old number v is))

  pub pushed_others : (n : ℕ) → n ≢ number → writes_in (slice_set old number w) n ≡ writes_in old n
  pushed_others n other = put_other old number w n other

  pub moved_one : IsPermutation v.items w.items → (n : ℕ) → IsPermutation (writes_in old n) (writes_in (slice_set old number w) n)
  moved_one moved n = elim (eqb_tells n number) [
    | inl e ↦ subst (λ m. IsPermutation (writes_in old m) (writes_in (slice_set old number w) m)) (sym e.1)
        (subst (λ xs. IsPermutation xs (writes_in (slice_set old number w) number)) (sym (writes_at old number v is)) (subst (λ xs. IsPermutation v.items xs) (sym (put_same old number w lt)) moved))
    | inr e ↦ subst (λ xs. IsPermutation (writes_in old n) xs) (sym (put_other old number w n e.1)) (IsPermutation-refl (writes_in old n))
  ]

module _ (all : List declared-written.Written) (key : ℕ → ℕ) (n : ℕ) where
  abbrev By : List declared-write.Write → Type 0
  By found = AreWritesBy all key n found

  -- writes in another order
  pub writes_moved : (old new : List declared-write.Write) → IsPermutation old new → AreWritesBy all key n old → AreWritesBy all key n new
  writes_moved old new moved was = record {
    each = All-permutation (IsWriteBy all key n) old new moved was.each;
    complete = λ k z at of. Contains-permutation old new (record { place = z.place; number = k }) moved (was.complete k z at of);
  }

  module _ (one : declared-written.Written) (found : List declared-write.Write) (was : AreWritesBy all key n found) where
    abbrev more : List declared-written.Written
    more = all ++ (one ∷ [])

    each_kept : All (IsWriteBy more key n) found
    each_kept = All-weaker (IsWriteBy all key n) (IsWriteBy more key n) (λ w is. record { written = is.written; is = get_kept all one is.written w.number is.is; place = is.place; of = is.of }) found was.each

    -- a write of a name of another number
    pub writes_old : (key one.name ≡ n → ⊥) → AreWritesBy more key n found
    writes_old other = record {
      each = each_kept;
      complete = λ k z at of. elim (get_cases all one z k at) [
        | inl e ↦ was.complete k z e of
        | inr e ↦ absurd (other (ap (λ (y : declared-written.Written). key y.name) e.1 ∙ of))
      ];
    }

    -- a write of one of this number
    pub writes_new : (number : ℕ) → number ≡ length all → key one.name ≡ n → AreWritesBy more key n (found ++ (record { place = one.place; number = number } ∷ []))
    writes_new number same of = (let last : declared-write.Write = record { place = one.place; number = number } in
        record {
          each = All-push (IsWriteBy more key n) found last each_kept (record { written = one; is = ap (λ k. slice_get more k) same ∙ get_last all one; place = refl; of = of });
          complete = λ k z at is. elim (get_cases all one z k at) [
            | inl e ↦ Contains-append_left found (last ∷ []) (record { place = z.place; number = k }) (was.complete k z e is)
            | inr e ↦ subst (λ (y : declared-written.Written). Contains (found ++ (last ∷ [])) (record { place = y.place; number = k })) e.1
                (subst (λ m. Contains (found ++ (last ∷ [])) (record { place = one.place; number = m })) (same ∙ sym e.0) (Contains-push found last))
          ];
        })

-- one write more among lists by numbers
pub lists_more : (all : List declared-written.Written) (key : ℕ → ℕ) (one : declared-written.Written) (number at : ℕ) (old new : ℕ → List declared-write.Write) → number ≡ length all → key one.name ≡ at → new at ≡ old at ++ (record { place = one.place; number = number } ∷ [])
    → ((n : ℕ) → n ≢ at → new n ≡ old n) → ((n : ℕ) → AreWritesBy all key n (old n)) → (n : ℕ) → AreWritesBy (all ++ (one ∷ [])) key n (new n)
lists_more all key one number at old new same of pushed others was n = elim (eqb_tells n at) [
  | inl e ↦ subst (λ m. AreWritesBy (all ++ (one ∷ [])) key m (new m)) (sym e.1)
      (subst (λ (xs : List declared-write.Write). AreWritesBy (all ++ (one ∷ [])) key at xs) (sym pushed) (writes_new all key at one (old at) (was at) number same of))
  | inr e ↦ subst (λ (xs : List declared-write.Write). AreWritesBy (all ++ (one ∷ [])) key n xs) (sym (others n e.1)) (writes_old all key n one (old n) (was n) (λ q. e.1 (sym q ∙ of)))
]

abbrev AreOrdered : List declared-written.Written → Type 0
AreOrdered all = (j k : ℕ) (z y : declared-written.Written) → j ≤ k → slice_get all j ≡ Some z → slice_get all k ≡ Some y → IsNoLater (rank_of z.writer) (rank_of y.writer)

ordered_more : (all : List declared-written.Written) (one : declared-written.Written) → AreOrdered all → ((k : ℕ) (z : declared-written.Written) → slice_get all k ≡ Some z → IsNoLater (rank_of z.writer) (rank_of one.writer)) → AreOrdered (all ++ (one ∷ []))
ordered_more all one was next j k z y le first last = elim (get_cases all one y k last) [
  | inl e ↦ elim (get_cases all one z j first) [
    | inl f ↦ was j k z y le f e
    | inr f ↦ (let lt : k < length all = slice_get_within all k y e in let same = f.0 in absurd (omega (arith, lt, same, le)))
  ]
  | inr e ↦ elim (get_cases all one z j first) [
    | inl f ↦ subst (λ (w : declared-written.Written). IsNoLater (rank_of z.writer) (rank_of w.writer)) e.1 (next j z f)
    | inr f ↦ subst (λ (w : declared-written.Written). IsNoLater (rank_of z.writer) (rank_of w.writer)) (sym f.1 ∙ e.1) (no_later_same (rank_of z.writer))
  ]
]

-- one write more
pub indexed_more : (old new : declared-writers.Writers) (one : declared-written.Written) (number : ℕ) → IsIndexed old → number ≡ length old.all.items → ((k : ℕ) (z : declared-written.Written) → slice_get old.all.items k ≡ Some z → IsNoLater (rank_of z.writer) (rank_of one.writer))
    → new.all.items ≡ old.all.items ++ (one ∷ []) → new.homes.now ≡ old.homes.now → writes_in new.by_home.items (home_key old one.name) ≡ writes_in old.by_home.items (home_key old one.name) ++ (record { place = one.place; number = number } ∷ [])
    → ((n : ℕ) → n ≢ home_key old one.name → writes_in new.by_home.items n ≡ writes_in old.by_home.items n) → writes_in new.by_name.items one.name ≡ writes_in old.by_name.items one.name ++ (record { place = one.place; number = number } ∷ [])
    → ((n : ℕ) → n ≢ one.name → writes_in new.by_name.items n ≡ writes_in old.by_name.items n) → IsIndexed new
indexed_more old new one number was same next all homes home others name rest = record {
  ordered = subst (λ (l : List declared-written.Written). AreOrdered l) (sym all) (ordered_more old.all.items one was.ordered next);
  by_home = λ n. subst (λ (l : List declared-written.Written). AreWritesBy l (home_key new) n (writes_in new.by_home.items n)) (sym all)
      (subst (λ (h : List Home). AreWritesBy (old.all.items ++ (one ∷ [])) (λ y. number_at (home_in h y)) n (writes_in new.by_home.items n)) (sym homes)
      (lists_more old.all.items (home_key old) one number (home_key old one.name) (λ m. writes_in old.by_home.items m) (λ m. writes_in new.by_home.items m) same refl home others was.by_home n));
  by_name = λ n. subst (λ (l : List declared-written.Written). AreWritesBy l (λ y. y) n (writes_in new.by_name.items n)) (sym all)
      (lists_more old.all.items (λ y. y) one number one.name (λ m. writes_in old.by_name.items m) (λ m. writes_in new.by_name.items m) same refl name rest was.by_name n);
}

-- the lists in another order
pub indexed_moved : (old new : declared-writers.Writers) → IsIndexed old → new.all.items ≡ old.all.items → new.homes.now ≡ old.homes.now → ((n : ℕ) → IsPermutation (writes_in old.by_home.items n) (writes_in new.by_home.items n))
    → ((n : ℕ) → IsPermutation (writes_in old.by_name.items n) (writes_in new.by_name.items n)) → IsIndexed new
indexed_moved old new was all homes home name = record {
  ordered = subst (λ (l : List declared-written.Written). AreOrdered l) (sym all) was.ordered;
  by_home = λ n. subst (λ (l : List declared-written.Written). AreWritesBy l (home_key new) n (writes_in new.by_home.items n)) (sym all)
      (subst (λ (h : List Home). AreWritesBy old.all.items (λ y. number_at (home_in h y)) n (writes_in new.by_home.items n)) (sym homes)
      (writes_moved old.all.items (home_key old) n (writes_in old.by_home.items n) (writes_in new.by_home.items n) (home n) (was.by_home n)));
  by_name = λ n. subst (λ (l : List declared-written.Written). AreWritesBy l (λ y. y) n (writes_in new.by_name.items n)) (sym all)
      (writes_moved old.all.items (λ y. y) n (writes_in old.by_name.items n) (writes_in new.by_name.items n) (name n) (was.by_name n));
}
