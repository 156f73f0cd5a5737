-- Places that get numbers along ways, and that each place to which a way leads gets its number.
use Rattle.std.proofs.Common.{◌≡◌, ◌≢◌, inl, inr, ℕ, ◌+◌, ◌<◌, ◌≤◌, true, false, None, Option, Some, List, [], ◌∷◌, ◌++◌, length, get_or, take, refl, sym, ap, subst, ◌∙◌, arith, append_assoc, true≢false}
use Rattle.std.specs.Prelude.{All, Contains, IsSomeAnd, is_some, ◌⊎◌}
use Rattle.std.specs.List.Sorted.{IsNonDecreasing}
use Rattle.std.proofs.lemmas.List.{get_or_default, take-append-le}
use Rattle.std.proofs.lemmas.List.Elements.{All-contains, All-more, All-push, All-weaker, Contains-append_left, Contains-get_or, Contains-push}
use Rattle.std.proofs.lemmas.Option.{same_Some}
use Rattle.places.specs.Flow.{can_go}
use Rattle.currency_writers.specs.declared.marks.Marks as declared-marks
use Rattle.currency_writers.specs.declared.ways.Ways as declared-ways
use Rattle.currency_writers.specs.Lists.{entries_of}
use Rattle.currency_writers.specs.Marks.{mark_at, room_of}
use Rattle.currency_writers.specs.Ways.{at_once, on}
use Rattle.currency_writers.specs.Flooding.{AreLeastOf, AreMoreBefore, AreNextReached, AreReached, AreStartsOf, AreWays, IsBefore, IsReachedFrom, IsShut, LeadsTo, is_blocked}
use Rattle.currency_writers.proofs.Entering.{and_some, none_tells, some_and}
use Rattle.currency_writers.proofs.Going.{take_whole}

some_is : {A : Type 0} (o : Option A) → o ≢ None → is_some o ≡ true
some_is None some = absurd (some refl)
some_is (Some a) some = refl

none_is : {A : Type 0} (o : Option A) → (o ≢ None → ⊥) → is_some o ≡ false
none_is None none = refl
none_is (Some a) none = absurd (none (λ e. cc))

-- one step more
pub come_next : (w : declared-ways.Ways) (from q p : ℕ) → IsBefore w from q → can_go w.steps.now q p ≡ true → LeadsTo w from p
come_next w from q p ahead goes = elim ahead [
  | inl e ↦ at_once (subst (λ n. can_go w.steps.now n p ≡ true) e goes)
  | inr c ↦ on c.0 c.1 goes
]

is_none : {A : Type 0} (o : Option A) → (o ≢ None → ⊥) → o ≡ None
is_none o none = elim (none_tells o) [ inl e ↦ e | inr e ↦ absurd (none e) ]

module _ {T : Type 0} (w : declared-ways.Ways) (from : ℕ) (value : T) where
  pub told_same : (m : declared-marks.Marks T) → IsReachedFrom w from value m m
  told_same m p = inl refl

  pub told_on : (a b c : declared-marks.Marks T) → IsReachedFrom w from value a b → IsReachedFrom w from value b c → IsReachedFrom w from value a c
  told_on a b c one two p = elim (two p) [
    | inl e ↦ elim (one p) [ inl g ↦ inl (e ∙ g) | inr r ↦ inr (r.0, e ∙ r.1, r.2) ]
    | inr r ↦ elim (one p) [ inl g ↦ inr (sym g ∙ r.0, r.1, r.2) | inr q ↦ inr (q.0, r.1, r.2) ]
  ]

  pub told_put : (old new : declared-marks.Marks T) (place : ℕ) → LeadsTo w from place → (mark_at old place ≢ None → ⊥) → ((p : ℕ) → (mark_at new p ≡ mark_at old p) ⊎ ((p ≡ place) × (mark_at new p ≡ Some value))) → IsReachedFrom w from value old new
  told_put old new place comes none put p = elim (put p) [
    | inl e ↦ inl e
    | inr r ↦ inr (ap (λ q. mark_at old q) r.0 ∙ is_none (mark_at old place) none, r.1, subst (λ q. LeadsTo w from q) (sym r.0) comes)
  ]

  -- a place that has a number keeps it
  pub told_kept : (old new : declared-marks.Marks T) → IsReachedFrom w from value old new → (p : ℕ) → mark_at old p ≢ None → mark_at new p ≡ mark_at old p
  told_kept old new told p some = elim (told p) [ inl e ↦ e | inr r ↦ absurd (some r.0) ]

  pub some_kept : (old new : declared-marks.Marks T) → IsReachedFrom w from value old new → (p : ℕ) → mark_at old p ≢ None → mark_at new p ≢ None
  some_kept old new told p some e = some (sym (told_kept old new told p some) ∙ e)

module _ (w : declared-ways.Ways) (from : ℕ) where
  -- a place that is not marked is not blocked
  pub ahead_more : (ahead : List ℕ) (place : ℕ) → LeadsTo w from place → (mark_at w.blocked.now place ≢ None → ⊥) → All (λ q. IsBefore w from q) ahead → All (λ q. IsBefore w from q) (ahead ++ (place ∷ []))
  ahead_more ahead place comes free all =
      All-push (λ q. IsBefore w from q) ahead place all (inr (comes, none_is (mark_at w.blocked.now place) free))

  -- to the places of the list of one execution may go on
  pub come_on : (next : ℕ) (list : List ℕ) (k d : ℕ) → AreWays w → IsBefore w from next → list ≡ entries_of w.after.now next → k < length list → LeadsTo w from (get_or list k d)
  come_on next list k d flow ahead is lt =
      come_next w from next (get_or list k d) ahead (flow.after.sound next (get_or list k d) (subst (λ xs. Contains xs (get_or list k d)) is (Contains-get_or list k d lt)))

-- such places may be marked
pub come_within : (w : declared-ways.Ways) (next : ℕ) (list : List ℕ) (k d room there : ℕ) → AreWays w → list ≡ entries_of w.after.now next → room_of w.blocked.now ≤ room → k < length list → there ≡ room → get_or list k d < there
come_within w next list k d room there flow is le lt same =
    (let one = get_or list k d in
    let inside : one < room_of w.blocked.now = flow.to next one (flow.after.sound next one (subst (λ xs. Contains xs one) is (Contains-get_or list k d lt))) in
    omega (arith, inside, le, same))

append_none : (xs : List ℕ) → xs ≡ xs ++ []
append_none [] = refl
append_none (x ∷ xs) = ap (λ ys. x ∷ ys) (append_none xs)

module _ {T : Type 0} (w : declared-ways.Ways) where
  -- nothing more is told
  pub more_none : (told : declared-marks.Marks T) (ahead : List ℕ) → AreMoreBefore w told told ahead ahead
  more_none told ahead = record { rest = []; is = append_none ahead; all = λ p none some free. absurd (some none) }

  -- one place is told, or none
  pub more_put : (old new : declared-marks.Marks T) (before after rest : List ℕ) (place : ℕ) (value : T) → after ≡ before ++ rest → ((p : ℕ) → (mark_at new p ≡ mark_at old p) ⊎ ((p ≡ place) × (mark_at new p ≡ Some value)))
      → (mark_at new place ≢ None → is_blocked w place ≡ false → Contains after place) → AreMoreBefore w old new before after
  more_put old new before after rest place value is put here = record {
    rest = rest;
    is = is;
    all = λ p none some free. elim (put p) [
      | inl e ↦ absurd (some (e ∙ none))
      | inr r ↦ subst (λ q. Contains after q) (sym r.0) (here (subst (λ q. mark_at new q ≢ None) r.0 some) (subst (λ q. is_blocked w q ≡ false) r.0 free))
    ];
  }

  -- a place is told that is blocked
  pub more_blocked : (old new : declared-marks.Marks T) (ahead : List ℕ) (place : ℕ) (value : T) → ((p : ℕ) → (mark_at new p ≡ mark_at old p) ⊎ ((p ≡ place) × (mark_at new p ≡ Some value))) → mark_at w.blocked.now place ≢ None → AreMoreBefore w old new ahead ahead
  more_blocked old new ahead place value put some = more_put old new ahead ahead [] place value (append_none ahead) put (λ told free. absurd (true≢false (sym (some_is (mark_at w.blocked.now place) some) ∙ free)))

  -- a place is told that is gone on from
  pub more_pushed : (old new : declared-marks.Marks T) (before after : List ℕ) (place : ℕ) (value : T) → ((p : ℕ) → (mark_at new p ≡ mark_at old p) ⊎ ((p ≡ place) × (mark_at new p ≡ Some value))) → after ≡ before ++ (place ∷ []) → AreMoreBefore w old new before after
  more_pushed old new before after place value put is = more_put old new before after (place ∷ []) place value is put (λ told free. subst (λ xs. Contains xs place) (sym is) (Contains-push before place))

  pub more_on : (a b c : declared-marks.Marks T) (xs ys zs : List ℕ) → AreMoreBefore w a b xs ys → AreMoreBefore w b c ys zs → AreMoreBefore w a c xs zs
  more_on a b c xs ys zs one two = record {
    rest = one.rest ++ two.rest;
    is = two.is ∙ ap (λ l. l ++ two.rest) one.is ∙ append_assoc xs one.rest two.rest;
    all = λ p none some free. elim (none_tells (mark_at b p)) [
      | inl e ↦ two.all p e some free
      | inr e ↦ subst (λ l. Contains l p) (sym two.is) (Contains-append_left ys two.rest p (one.all p none e free))
    ];
  }

  -- to all places of the list of one
  pub next_told : (next : ℕ) (told : declared-marks.Marks T) (list : List ℕ) (k : ℕ) → AreWays w → list ≡ entries_of w.after.now next → length list ≤ k → All (λ q. mark_at told q ≢ None) (take k list) → AreNextReached w next told
  next_told next told list k flow is le all p goes =
      All-contains (λ q. mark_at told q ≢ None) list p (subst (λ (l : List ℕ). All (λ q. mark_at told q ≢ None) l) (take_whole list k le) all) (subst (λ l. Contains l p) (sym is) (flow.after.all next p goes))

  -- what was told is still told
  pub told_more : (from : ℕ) (value : T) (old new : declared-marks.Marks T) (list : List ℕ) (k d : ℕ) → k < length list → IsReachedFrom w from value old new → All (λ q. mark_at old q ≢ None) (take k list) → mark_at new (get_or list k d) ≢ None
      → All (λ q. mark_at new q ≢ None) (take (k + 1) list)
  told_more from value old new list k d lt told all here =
      All-more (λ q. mark_at new q ≢ None) list k d lt (All-weaker (λ q. mark_at old q ≢ None) (λ q. mark_at new q ≢ None) (λ q some. some_kept w from value old new told q some) (take k list) all) here

  next_kept : (from : ℕ) (value : T) (old new : declared-marks.Marks T) → IsReachedFrom w from value old new → (q : ℕ) → AreNextReached w q old → AreNextReached w q new
  next_kept from value old new told q all p goes = some_kept w from value old new told p (all p goes)

  -- one place more was gone on from
  pub done_more : (from : ℕ) (value : T) (old new : declared-marks.Marks T) (before after : List ℕ) (k d : ℕ) → k < length before → IsReachedFrom w from value old new → AreMoreBefore w old new before after → All (λ q. AreNextReached w q old) (take k before) → AreNextReached w (get_or before k d) new
      → All (λ q. AreNextReached w q new) (take (k + 1) after)
  done_more from value old new before after k d lt told more all here =
      (let same : take (k + 1) after ≡ take (k + 1) before = ap (λ l. take (k + 1) l) more.is ∙ take-append-le (k + 1) before more.rest (omega (arith, lt)) in
      subst (λ (l : List ℕ). All (λ q. AreNextReached w q new) l) (sym same)
      (All-more (λ q. AreNextReached w q new) before k d lt (All-weaker (λ q. AreNextReached w q old) (λ q. AreNextReached w q new) (next_kept from value old new told) (take k before) all) here))

  module _ (from : ℕ) (value : T) (old new : declared-marks.Marks T) (ahead : List ℕ) (k : ℕ) (le : length ahead ≤ k) (told : IsReachedFrom w from value old new) (closed : IsShut w old) (more : AreMoreBefore w old new (from ∷ []) ahead) (done : All (λ q. AreNextReached w q new) (take k ahead)) where
    all_done : (q : ℕ) → Contains ahead q → AreNextReached w q new
    all_done q there = All-contains (λ q. AreNextReached w q new) ahead q (subst (λ (l : List ℕ). All (λ q. AreNextReached w q new) l) (take_whole ahead k le) done) there

    -- all places were gone on from
    pub closed_new : IsShut w new
    closed_new q some free p goes = elim (none_tells (mark_at old q)) [
      | inl e ↦ all_done q (more.all q e some free) p goes
      | inr e ↦ some_kept w from value old new told p (closed q e free p goes)
    ]

    from_there : Contains ahead from
    from_there = subst (λ l. Contains l from) (sym more.is) (Contains-append_left (from ∷ []) more.rest from (Contains-push [] from))

    pub told_all : AreReached w from new
    told_all p (at_once goes) = all_done from from_there p goes
    told_all p (on {q} comes free goes) = closed_new q (told_all q comes) free p goes

module _ (w : declared-ways.Ways) where
  -- a place to which execution may come from a start is marked, and not with one above that
  abbrev pub IsLeastOf : declared-marks.Marks ℕ → (start : ℕ) → Type 0
  IsLeastOf starts start = (p : ℕ) → LeadsTo w start p → IsSomeAnd (mark_at starts p) (λ least. least ≤ start)

  -- no place is marked with one above this
  abbrev pub AreBelow : declared-marks.Marks ℕ → (last : ℕ) → Type 0
  AreBelow starts last = (p start : ℕ) → mark_at starts p ≡ Some start → start ≤ last

  pub below_next : (old new : declared-marks.Marks ℕ) (last place : ℕ) → last ≤ place → IsReachedFrom w place place old new → AreBelow old last → AreBelow new place
  below_next old new last place le told below p start at = elim (told p) [
    | inl e ↦ (let small = below p start (sym e ∙ at) in omega (arith, small, le))
    | inr r ↦ (let same : place ≡ start = same_Some place start (sym r.1 ∙ at) in omega (arith, same))
  ]

  -- what was marked so far is so with nothing above the places from an index on
  abbrev pub AreBelowRest : declared-marks.Marks ℕ → List ℕ → (k : ℕ) → Type 0
  AreBelowRest starts list k = (j d : ℕ) → k ≤ j → j < length list → AreBelow starts (get_or list j d)

  pub rest_next : (starts : declared-marks.Marks ℕ) (list : List ℕ) (k d : ℕ) → IsNonDecreasing list → k < length list → AreBelow starts (get_or list k d) → AreBelowRest starts list (k + 1)
  rest_next starts list k d ascends lt below j e le within p start at =
      (let small = below p start at in
      let same : get_or list k d ≡ get_or list k e = get_or_default list k d e lt in
      let later : get_or list k e ≤ get_or list j e = ascends k j e (omega (arith, le)) within in
      omega (arith, small, same, later))

  least_kept : (old new : declared-marks.Marks ℕ) (place : ℕ) → IsReachedFrom w place place old new → (s : ℕ) → IsLeastOf old s → IsLeastOf new s
  least_kept old new place told s least p comes =
      (let was = least p comes in
      let same = told_kept w place place old new told p (and_some (mark_at old p) (λ n. n ≤ s) was) in
      subst (λ (o : Option ℕ). IsSomeAnd o (λ n. n ≤ s)) (sym same) was)

  pub least_next : (old new : declared-marks.Marks ℕ) (list : List ℕ) (k d place : ℕ) → k < length list → place ≡ get_or list k d → IsReachedFrom w place place old new → AreReached w place new → AreBelow new place → All (λ s. IsLeastOf old s) (take k list)
      → All (λ s. IsLeastOf new s) (take (k + 1) list)
  least_next old new list k d place lt is told all below before =
      All-more (λ s. IsLeastOf new s) list k d lt (All-weaker (λ s. IsLeastOf old s) (λ s. IsLeastOf new s) (least_kept old new place told) (take k list) before)
      (subst (λ s. IsLeastOf new s) is (λ p comes. some_and (mark_at new p) (λ n. n ≤ place) (all p comes) (below p)))

  pub least_done : (starts : declared-marks.Marks ℕ) (list : List ℕ) (k : ℕ) → length list ≤ k → All (λ s. IsLeastOf starts s) (take k list) → AreLeastOf w list starts
  least_done starts list k le all start p there comes =
      All-contains (λ s. IsLeastOf starts s) list start (subst (λ (l : List ℕ). All (λ s. IsLeastOf starts s) l) (take_whole list k le) all) there p comes

-- one start more
pub starts_next : (w : declared-ways.Ways) (old new : declared-marks.Marks ℕ) (list : List ℕ) (k d : ℕ) → k < length list → AreStartsOf w list old → IsReachedFrom w (get_or list k d) (get_or list k d) old new → AreStartsOf w list new
starts_next w old new list k d lt before told p start at = elim (told p) [
  | inl e ↦ before p start (sym e ∙ at)
  | inr r ↦ (let one = get_or list k d in
      let same : one ≡ start = same_Some one start (sym r.1 ∙ at) in
      (subst (λ n. Contains list n) same (Contains-get_or list k d lt), subst (λ n. LeadsTo w n p) same r.2))
]
