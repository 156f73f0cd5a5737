-- The numbers of changes ascend in the lists of their variables, and so do those of what is found.
use Rattle.std.proofs.Common.{◌≡◌, ◌≢◌, inl, inr, ℕ, ◌+◌, ◌<◌, ◌≤◌, Option, Some, None, List, [], ◌∷◌, ◌++◌, length, get_or, take, sym, ap, subst, ◌∙◌, arith}
use Rattle.std.specs.Prelude.{slice_get, All, AllPairs, Contains, IfSome, ◌⊎◌}
use Rattle.std.proofs.lemmas.Bool.Decides.{eqb_tells}
use Rattle.std.proofs.lemmas.List.{get_or_default}
use Rattle.std.proofs.lemmas.List.Elements.{All-more, All-weaker, Contains-get_or, Contains-push_cases}
use Rattle.std.proofs.lemmas.List.Quantifiers.{all_pairs_push}
use Rattle.std.proofs.lemmas.Option.{same_Some, slice_get-get_or, slice_get_within}
use Rattle.debug_records.specs.declared.change.Change.{Change}
use Rattle.debug_records.specs.declared.change.Kind.{Kind}
use Rattle.debug_records.specs.Numbers.{AreNumbered}
use Rattle.currency_notes.proofs.Lists.{take_whole}
use Rattle.currency_writers.specs.declared.lists.Lists as declared-lists
use Rattle.currency_writers.specs.Lists.{entries_of}
use Rattle.currency_writers.proofs.Pushing.{none_in, pushed_kept, pushed_there}
use Rattle.currency_hiding.specs.declared.changes.Changes as declared-changes
use Rattle.currency_hiding.specs.Changes.{AreListed, IsListed, hides_as}
use Rattle.currency_hiding.proofs.Listed.{own_number}

-- each variable that has a change is below a number
pub variable_next : (all : List Change) (old new k : ℕ) (d : Change) → k < length all → old ≤ new → (get_or all k d).var.0 < new → All (λ (e : Change). e.var.0 < old) (take k all) → All (λ (e : Change). e.var.0 < new) (take (k + 1) all)
variable_next all old new k d lt le here before =
    All-more (λ (e : Change). e.var.0 < new) all k d lt (All-weaker (λ (e : Change). e.var.0 < old) (λ (e : Change). e.var.0 < new) (λ e small. omega (arith, small, le)) (take k all) before) here

pub variable_done : (all : List Change) (count k : ℕ) → length all ≤ k → All (λ (e : Change). e.var.0 < count) (take k all) → (j : ℕ) (d : Change) → slice_get all j ≡ Some d → d.var.0 < count
variable_done all count k le each j d at =
    (let whole : All (λ (e : Change). e.var.0 < count) all = subst (λ (l : List Change). All (λ (e : Change). e.var.0 < count) l) (take_whole all k le) each in
    let lt = slice_get_within all j d at in
    subst (λ (e : Change). e.var.0 < count) (same_Some (get_or all j d) d (sym (slice_get-get_or all j d lt) ∙ at)) (whole j d lt))

-- The first changes are in the lists of their variables, by their numbers, in order.
pub record IsListing (all : List Change) (lists : declared-lists.Lists) (k : ℕ) : Type 0 where
  pub listed : (j : ℕ) (d : Change) → j < k → slice_get all j ≡ Some d → Contains (entries_of lists d.var.0) (j + 1)
  pub below : (x n : ℕ) → Contains (entries_of lists x) n → n ≤ k
  pub ordered : (x : ℕ) → AllPairs (λ m n. m < n) (entries_of lists x)

pub listing_none : (all : List Change) (lists : declared-lists.Lists) → ((x : ℕ) → entries_of lists x ≡ []) → IsListing all lists 0
listing_none all lists none = record {
  listed = λ j d lt. absurd (omega (arith, lt));
  below = λ x n there. absurd (none_in (entries_of lists x) n (none x) there);
  ordered = λ x i j d less within. (let long = ap (λ (l : List ℕ). length l) (none x) in absurd (omega (arith, within, long)));
}

-- a change has a list
pub listed_at : (all : List Change) (k : ℕ) (d : Change) (above count : ℕ) → k < length all → ((j : ℕ) (e : Change) → slice_get all j ≡ Some e → e.var.0 < above) → count ≡ above → (get_or all k d).var.0 < count
listed_at all k d above count lt each same = (let inside = each k (get_or all k d) (slice_get-get_or all k d lt) in omega (arith, inside, same))

module _ (all : List Change) (numbered : AreNumbered all) (old new : declared-lists.Lists) (k : ℕ) (e : Change) (lt : k < length all) (pushed : entries_of new (get_or all k e).var.0 ≡ entries_of old (get_or all k e).var.0 ++ ((get_or all k e).number ∷ []))
    (others : (x : ℕ) → x ≢ (get_or all k e).var.0 → entries_of new x ≡ entries_of old x) (was : IsListing all old k) where
  abbrev one : Change
  one = get_or all k e

  abbrev x : ℕ
  x = one.var.0

  at : slice_get all k ≡ Some one
  at = slice_get-get_or all k e lt

  number : one.number ≡ k + 1
  number = numbered k one at

  listed_on : (j : ℕ) (d : Change) → j < k + 1 → slice_get all j ≡ Some d → Contains (entries_of new d.var.0) (j + 1)
  listed_on j d small is = elim (eqb_tells j k) [
    | inl f ↦ (let same : one ≡ d = same_Some one d (sym at ∙ ap (λ n. slice_get all n) (sym f.1) ∙ is) in
        let there : Contains (entries_of new x) one.number = pushed_there old new x one.number pushed others in
        let own : one.number ≡ j + 1 = number ∙ ap (λ n. n + 1) (sym f.1) in
        subst (λ (d : Change). Contains (entries_of new d.var.0) (j + 1)) same (subst (λ n. Contains (entries_of new x) n) own there))
    | inr f ↦ (let differ = f.1 in pushed_kept old new x one.number pushed others d.var.0 (j + 1) (was.listed j d (omega (arith, small, differ)) is))
  ]

  below_on : (y n : ℕ) → Contains (entries_of new y) n → n ≤ k + 1
  below_on y n there = elim (eqb_tells y x) [
    | inl f ↦ elim (Contains-push_cases (entries_of old x) one.number n (subst (λ l. Contains l n) pushed (subst (λ z. Contains (entries_of new z) n) f.1 there))) [
      | inl g ↦ (let small = was.below x n g in omega (arith, small))
      | inr g ↦ (let same : one.number ≡ n = g in let own = number in omega (arith, same, own))
    ]
    | inr f ↦ (let small = was.below y n (subst (λ l. Contains l n) (others y f.1) there) in omega (arith, small))
  ]

  ordered_on : (y : ℕ) → AllPairs (λ m n. m < n) (entries_of new y)
  ordered_on y = elim (eqb_tells y x) [
    | inl f ↦ subst (λ z. AllPairs (λ m n. m < n) (entries_of new z)) (sym f.1)
        (subst (λ l. AllPairs (λ m n. m < n) l) (sym pushed)
        (all_pairs_push (λ m n. m < n) (entries_of old x) one.number (was.ordered x) (λ j d within. (let small = was.below x (get_or (entries_of old x) j d) (Contains-get_or (entries_of old x) j d within) in let own = number in omega (arith, small, own)))))
    | inr f ↦ subst (λ l. AllPairs (λ m n. m < n) l) (sym (others y f.1)) (was.ordered y)
  ]

  -- one change more
  pub listing_next : IsListing all new (k + 1)
  listing_next = record { listed = listed_on; below = below_on; ordered = ordered_on }

-- What was found is in order, and before the numbers from an index on.
pub record IsAscending (found : List Change) (all : List ℕ) (k : ℕ) : Type 0 where
  pub ordered : AllPairs (λ (d e : Change). d.number < e.number) found
  pub behind : (d : Change) → Contains found d → (j e : ℕ) → k ≤ j → j < length all → d.number < get_or all j e

pub ascending_none : (found : List Change) (all : List ℕ) → found ≡ [] → IsAscending found all 0
ascending_none found all none = record {
  ordered = λ i j d less within. (let long = ap (λ (l : List Change). length l) none in absurd (omega (arith, within, long)));
  behind = λ d there. (let lt = there.1 in let long = ap (λ (l : List Change). length l) none in absurd (omega (arith, lt, long)));
}

-- the change of one more number was found, or there is none
pub ascending_more : (c : declared-changes.Changes) (variable : ℕ) (kind : Kind) (old new : List Change) (all : List ℕ) (k d : ℕ) (o : Option Change) → AreListed c → AllPairs (λ m n. m < n) all → k < length all
    → IfSome o (λ (e : Change). IsListed c (get_or all k d) e × (e.var.0 ≡ variable) × (hides_as e.kind ≡ kind)) → ((o ≡ None) × (new ≡ old)) ⊎ ((e : Change) × (o ≡ Some e) × (new ≡ old ++ (e ∷ []))) → IsAscending old all k → IsAscending new all (k + 1)
ascending_more c variable kind old new all k d o listed ordered lt some (inl none) was = record {
  ordered = subst (λ (l : List Change). AllPairs (λ (d e : Change). d.number < e.number) l) (sym none.1) was.ordered;
  behind = λ z there j e le within. was.behind z (subst (λ (l : List Change). Contains l z) none.1 there) j e (omega (arith, le)) within;
}
ascending_more c variable kind old new all k d o listed ordered lt some (inr one) was =
    let is = subst (λ (p : Option Change). IfSome p (λ (e : Change). IsListed c (get_or all k d) e × (e.var.0 ≡ variable) × (hides_as e.kind ≡ kind))) one.1 some in
    let own : one.0.number ≡ get_or all k d = own_number c (get_or all k d) one.0 listed is.0 in
    record {
      ordered = subst (λ (l : List Change). AllPairs (λ (d e : Change). d.number < e.number) l) (sym one.2)
          (all_pairs_push (λ (d e : Change). d.number < e.number) old one.0 was.ordered
          (λ j x within. (let less = was.behind (get_or old j x) (Contains-get_or old j x within) k d (omega arith) lt in omega (arith, less, own))));
      behind = λ z there j e le within. elim (Contains-push_cases old one.0 z (subst (λ (l : List Change). Contains l z) one.2 there)) [
        | inl f ↦ was.behind z f j e (omega (arith, le)) within
        | inr f ↦ (let same : one.0.number ≡ z.number = ap (λ (x : Change). x.number) f in
            let here : get_or all k d ≡ get_or all k e = get_or_default all k d e lt in
            let less : get_or all k e < get_or all j e = ordered k j e (omega (arith, le)) within in
            omega (arith, same, own, here, less))
      ];
    }
