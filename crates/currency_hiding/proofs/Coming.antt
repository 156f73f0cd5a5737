-- What hides a scalar is found in the order in which it is told.
use Rattle.std.proofs.Common.{◌≡◌, inl, inr, ℕ, ◌+◌, ◌<◌, ◌≤◌, Some, List, [], ◌∷◌, ◌++◌, length, get_or, refl, sym, ap, subst, ◌∙◌, arith, true≢false}
use Rattle.std.specs.Prelude.{slice_get, AllPairs, ◌⊎◌}
use Rattle.std.specs.Cmp.{IsTotalOrder, nat_cmp_total}
use Rattle.std.specs.List.Sorted.{IsSorted}
use Rattle.std.specs.declared.cmp.Ordering.{Ordering}
use Rattle.std.specs.declared.cmp.Ordering.TheVariants.{Less, Equal}
use Rattle.std.specs.Ordering.{is_lt, nat_cmp, ordering_then}
use Rattle.std.proofs.lemmas.Bool.Decides.{eqb_tells, leb_tells}
use Rattle.std.proofs.lemmas.Cmp.{by_ranked, on_total, ranked, then_total}
use Rattle.std.proofs.lemmas.List.{get_or_default}
use Rattle.std.proofs.lemmas.List.Sorted.{ranks_by, sorted_far}
use Rattle.std.proofs.lemmas.Option.{none-some, same_Some, slice_get-get_or, slice_get_within}
use Rattle.debug_records.specs.declared.change.Change.{Change}
use Rattle.debug_records.specs.declared.change.Kind.{Kind}
use Rattle.currency_hiding.specs.declared.changes.Changes as declared-changes
use Rattle.currency_hiding.specs.Changes.{AreFound}
use Rattle.currency_writers.specs.declared.writers.Writers as declared-writers
use Rattle.currency_writers.specs.declared.writers.Written as declared-written
use Rattle.currency_writers.specs.Order.{IsNoLater, rank_of}
use Rattle.currency_writers.specs.Writers.{AreSound, IsIndexed, Writes}
use Rattle.currency_writers.proofs.Indexed.{get_cases}
use Rattle.currency_writers.proofs.Order.{no_later_on}
use Rattle.currency_hiding.specs.declared.causes.Found as declared-found
use Rattle.currency_hiding.specs.declared.causes.Via as declared-via
use Rattle.currency_hiding.specs.First.{order_of}
use Rattle.currency_hiding.specs.Found.{AreToldBefore, AreViasInOrder}

-- nothing was found
pub before_none : (all : List declared-found.Found) (rank : List ℕ) → all ≡ [] → AreToldBefore all rank
before_none all rank none k z at = absurd (none-some z (sym (ap (λ (l : List declared-found.Found). slice_get l k) none) ∙ at))

-- one more was found, that is told no later
pub before_push : (old new : List declared-found.Found) (one : declared-found.Found) (rank : List ℕ) → new ≡ old ++ (one ∷ []) → IsNoLater (order_of one.cause one.via) rank → AreToldBefore old rank → AreToldBefore new rank
before_push old new one rank more here before k z at = elim (get_cases old one z k (subst (λ (l : List declared-found.Found). slice_get l k ≡ Some z) more at)) [
  | inl e ↦ before k z e
  | inr e ↦ subst (λ (x : declared-found.Found). IsNoLater (order_of x.cause x.via) rank) e.1 here
]

-- no later than what is told later yet
pub before_on : (all : List declared-found.Found) (rank other : List ℕ) → IsNoLater rank other → AreToldBefore all rank → AreToldBefore all other
before_on all rank other le before k z at = no_later_on (order_of z.cause z.via) rank other (before k z at) le

-- What was found is told no later than the changes from an index on, by what leads to their numbers.
abbrev pub AreChangesNext : List declared-found.Found → (lead : ℕ → List ℕ) → List Change → (k : ℕ) → Type 0
AreChangesNext found lead changes k = (j : ℕ) (d : Change) → k ≤ j → j < length changes → AreToldBefore found (lead (get_or changes j d).number)

pub changes_first : (found : List declared-found.Found) (lead : ℕ → List ℕ) (changes : List Change) (rank : List ℕ) → ((n : ℕ) → IsNoLater rank (lead n)) → AreToldBefore found rank → AreChangesNext found lead changes 0
changes_first found lead changes rank le before j d from within = before_on found rank (lead (get_or changes j d).number) (le (get_or changes j d).number) before

-- the least numbers
pub zero_first : (n : ℕ) → IsNoLater (0 ∷ 0 ∷ []) (0 ∷ n ∷ [])
zero_first n = elim (eqb_tells 0 n) [ inl e ↦ inr (refl, inr (e.1, tt)) | inr e ↦ (let differ = e.1 in inr (refl, inl (omega (arith, differ)))) ]

-- the next number is no later than one above
pub above_first : (m n : ℕ) → m < n → IsNoLater ((m + 1) ∷ []) (n ∷ [])
above_first m n lt = elim (eqb_tells (m + 1) n) [ inl e ↦ inr (e.1, tt) | inr e ↦ (let differ = e.1 in inl (omega (arith, lt, differ))) ]

-- what was found is so by whatever name
pub are_same : (l : declared-changes.Changes) (variable : ℕ) (kind : Kind) (found list : List Change) → found ≡ list → AreFound l variable kind found → AreFound l variable kind list
are_same l variable kind found list same are = subst (λ (z : List Change). AreFound l variable kind z) same are

-- one change more
pub changes_next : (found : List declared-found.Found) (lead : ℕ → List ℕ) (changes : List Change) (k : ℕ) (d : Change) (rank : List ℕ) → AllPairs (λ (d e : Change). d.number < e.number) changes → k < length changes → ((n : ℕ) → (get_or changes k d).number < n → IsNoLater rank (lead n)) → AreToldBefore found rank
    → AreChangesNext found lead changes (k + 1)
changes_next found lead changes k d rank ordered lt le before j e from within =
    (let here : get_or changes k d ≡ get_or changes k e = get_or_default changes k d e lt in
    let less : (get_or changes k e).number < (get_or changes j e).number = ordered k j e (omega (arith, from)) within in
    before_on found rank (lead (get_or changes j e).number) (le (get_or changes j e).number (subst (λ (z : Change). z.number < (get_or changes j e).number) (sym here) less)) before)

-- a way comes no later by what writes there, if it does so by its number
way_on : (a b c x y z : ℕ) (rs ts : List ℕ) → IsNoLater (a ∷ b ∷ c ∷ []) (x ∷ y ∷ z ∷ []) → (c ≤ z → IsNoLater rs ts) → IsNoLater (a ∷ b ∷ rs) (x ∷ y ∷ ts)
way_on a b c x y z rs ts one rest = elim one [
  | inl lt ↦ inl lt
  | inr e ↦ elim e.1 [
    | inl lt ↦ inr (e.0, inl lt)
    | inr f ↦ inr (e.0, inr (f.0, elim f.1 [ inl lt ↦ rest (omega (arith, lt)) | inr g ↦ (let same = g.0 in rest (omega (arith, same))) ]))
  ]
]

-- the numbers by which a way is in order, by what writes there
abbrev pub rank_of_via : declared-via.Via → declared-written.Written → List ℕ
rank_of_via v z = v.start ∷ v.place ∷ rank_of z.writer

module _ (w : declared-writers.Writers) (lead : List ℕ → List ℕ) where
  -- What was found is told no later than the ways from an index on, by what leads to their numbers.
  abbrev pub AreViasNext : List declared-found.Found → List declared-via.Via → (k : ℕ) → Type 0
  AreViasNext found vias k = (j : ℕ) (d : declared-via.Via) (z : declared-written.Written) → k ≤ j → j < length vias → slice_get w.all.items (get_or vias j d).writer ≡ Some z → AreToldBefore found (lead (rank_of_via (get_or vias j d) z))

  pub vias_first : (found : List declared-found.Found) (vias : List declared-via.Via) (rank : List ℕ) → ((rs : List ℕ) → IsNoLater rank (lead rs)) → AreToldBefore found rank → AreViasNext found vias 0
  vias_first found vias rank le before j d z from within at = before_on found rank (lead (rank_of_via (get_or vias j d) z)) (le (rank_of_via (get_or vias j d) z)) before

  -- one way more
  pub vias_on : (old new : List declared-found.Found) (vias : List declared-via.Via) (k : ℕ) (d : declared-via.Via) (y : declared-written.Written) → IsIndexed w → ((rs ts : List ℕ) → IsNoLater rs ts → IsNoLater (lead rs) (lead ts)) → AreViasInOrder vias → k < length vias
      → slice_get w.all.items (get_or vias k d).writer ≡ Some y → ((rank : List ℕ) → IsNoLater (lead (rank_of_via (get_or vias k d) y)) rank → AreToldBefore old rank → AreToldBefore new rank) → AreViasNext old vias k → AreViasNext new vias (k + 1)
  vias_on old new vias k d y indexed more ordered lt there next before j e z from within at =
      (let one = get_or vias k d in
      let other = get_or vias j e in
      let here : get_or vias k e ≡ one = get_or_default vias k e d lt in
      let way : IsNoLater (one.start ∷ one.place ∷ one.writer ∷ []) (other.start ∷ other.place ∷ other.writer ∷ []) =
      subst (λ (v : declared-via.Via). IsNoLater (v.start ∷ v.place ∷ v.writer ∷ []) (other.start ∷ other.place ∷ other.writer ∷ [])) here (ordered k j e (omega (arith, from)) within) in
      let later : IsNoLater (rank_of_via one y) (rank_of_via other z) =
      way_on one.start one.place one.writer other.start other.place other.writer (rank_of y.writer) (rank_of z.writer) way (λ le. indexed.ordered one.writer other.writer y z le there at) in
      next (lead (rank_of_via other z)) (more (rank_of_via one y) (rank_of_via other z) later) (before j e z (omega (arith, from)) within at))

-- what is read of a number that is known
pub written_at : (all : List declared-written.Written) (k : ℕ) (known read d : declared-written.Written) → slice_get all k ≡ Some known → read ≡ get_or all k d → slice_get all k ≡ Some read
written_at all k known read d at is = slice_get-get_or all k d (slice_get_within all k known at) ∙ ap Some (sym is)

-- what is told to write a name does
pub sound_at : (w : declared-writers.Writers) (k : ℕ) (z : declared-written.Written) → AreSound w → slice_get w.all.items k ≡ Some z → Writes w z.place z.name z.writer
sound_at w k z sound at =
    (let lt = slice_get_within w.all.items k z at in
    subst (λ (y : declared-written.Written). Writes w y.place y.name y.writer) (same_Some (get_or w.all.items k z) z (sym (slice_get-get_or w.all.items k z lt) ∙ at)) (sound k z lt))

-- ---- Ways in order

-- how ways compare: by start, place and writer
abbrev pub via_cmp : declared-via.Via → declared-via.Via → Ordering
via_cmp a b = ordering_then (nat_cmp a.start b.start) (ordering_then (nat_cmp a.place b.place) (nat_cmp a.writer b.writer))

via_total : IsTotalOrder via_cmp
via_total = then_total (on_total (λ (v : declared-via.Via). v.start) nat_cmp_total) (then_total (on_total (λ (v : declared-via.Via). v.place) nat_cmp_total) (on_total (λ (v : declared-via.Via). v.writer) nat_cmp_total))

less_first : (a b : ℕ) → a < b → nat_cmp a b ≡ Less
less_first a b lt = by_ranked (a < b) (a ≡ b) (b < a) (nat_cmp a b) (ranked a b (nat_cmp a b) refl) (λ is p. is) (λ is p. absurd (omega (arith, lt, p))) (λ is p. absurd (omega (arith, lt, p)))

tied_first : (a b : ℕ) → a ≡ b → nat_cmp a b ≡ Equal
tied_first a b e = by_ranked (a < b) (a ≡ b) (b < a) (nat_cmp a b) (ranked a b (nat_cmp a b) refl) (λ is p. absurd (omega (arith, e, p))) (λ is p. is) (λ is p. absurd (omega (arith, e, p)))

carried : {Q : Type 0} (a b : ℕ) (o : Ordering) → (Q → o ≡ Less) → (a < b) ⊎ ((a ≡ b) × Q) → ordering_then (nat_cmp a b) o ≡ Less
carried a b o go (inl lt) = ap (λ r. ordering_then r o) (less_first a b lt)
carried a b o go (inr p) = ap (λ r. ordering_then r o) (tied_first a b p.0) ∙ go p.1

abbrev IsViaBefore : declared-via.Via → declared-via.Via → Type 0
IsViaBefore b a = (b.start < a.start) ⊎ ((b.start ≡ a.start) × ((b.place < a.place) ⊎ ((b.place ≡ a.place) × (b.writer < a.writer))))

before_less : (b a : declared-via.Via) → IsViaBefore b a → via_cmp b a ≡ Less
before_less b a h = carried _ _ _ (carried _ _ _ (λ lt. less_first b.writer a.writer lt)) h

-- one number is below the other, or they are the same and it is as what comes behind
by_number : (a b : ℕ) (P Q : Type 0) → P ⊎ Q → ((a < b) ⊎ ((a ≡ b) × P)) ⊎ ((b < a) ⊎ ((b ≡ a) × Q))
by_number a b P Q rest = elim (leb_tells a b) [
  | inl le ↦ elim (eqb_tells a b) [
    | inl e ↦ elim rest [ inl p ↦ inl (inr (e.1, p)) | inr q ↦ inr (inr (sym e.1, q)) ]
    | inr e ↦ (let below = le.1 in let differ = e.1 in inl (inl (omega (arith, below, differ))))
  ]
  | inr more ↦ (let above = more.1 in inr (inl (omega (arith, above))))
]

last_number : (a b : ℕ) → IsNoLater (a ∷ []) (b ∷ []) ⊎ (b < a)
last_number a b = elim (leb_tells a b) [
  | inl le ↦ elim (eqb_tells a b) [ inl e ↦ inl (inr (e.1, tt)) | inr e ↦ (let below = le.1 in let differ = e.1 in inl (inl (omega (arith, below, differ)))) ]
  | inr more ↦ (let above = more.1 in inr (omega (arith, above)))
]

either_way : (a b : declared-via.Via) → IsNoLater (a.start ∷ a.place ∷ a.writer ∷ []) (b.start ∷ b.place ∷ b.writer ∷ []) ⊎ IsViaBefore b a
either_way a b = by_number a.start b.start _ _ (by_number a.place b.place _ _ (last_number a.writer b.writer))

-- ways that are sorted are in order
pub vias_sorted : (vias : List declared-via.Via) → IsSorted via_cmp vias → AreViasInOrder vias
vias_sorted vias up i j d less within = elim (either_way (get_or vias i d) (get_or vias j d)) [
  | inl is ↦ is
  | inr before ↦ absurd (true≢false (sym (ap is_lt (before_less (get_or vias j d) (get_or vias i d) before)) ∙ sorted_far (λ x y. is_lt (via_cmp x y)) (ranks_by via_total (λ x. x)) vias up i j d (omega (arith, less)) within))
]
