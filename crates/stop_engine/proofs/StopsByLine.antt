-- The stops on a line lie side by side, and so do the pairs that lead from a place.
use Rattle.std.proofs.Common.{◌≡◌, ◌≢◌, ℕ, zero, suc, ◌+◌, ◌<◌, ◌≤◌, ◌==◌, true, false, if◌then◌else◌, List, [], ◌∷◌, ◌++◌, Some, None, length, drop, get_or, refl, sym, ap, ◌∙◌, inl, inr, arith, map}
use Rattle.std.specs.Prelude.{slice_get}
use Rattle.std.specs.List.Sorted.{IsNonDecreasingBy}
use Rattle.std.proofs.lemmas.Bool.{ne_eqb}
use Rattle.std.proofs.lemmas.List.{append_assoc, drop_all, get_or-drop, get_or_default, length-drop, map-append}
use Rattle.std.proofs.lemmas.Option.{slice_get_within}
use Rattle.debug_records.specs.declared.change.Place.{Place as Number}
use Rattle.image_form.specs.Form.{Form}
use Rattle.image_form.specs.Lists.{EachToNext}
use Rattle.image_form.specs.RulesOfChanges.{IsPairBefore}
use Rattle.image_form.specs.declared.tables.FlowPair.{FlowPair}
use Rattle.image_form.specs.declared.tables.Place.{Place}
use Rattle.stop_engine_tables.proofs.Records.{record_at, records_from}
use Rattle.stop_engine_view.proofs.RowsByPlace.{kept_behind, none_kept}
use Rattle.stop_engine.specs.Breaks.{followers, is_stop_on, least_of, stops_on}

-- ---- What does not fall from one to the next is in order

later : {A : Type 0} (n : A → ℕ) (x : A) (xs : List A) → EachToNext (λ (a b : A). n a ≤ n b) (x ∷ xs) → (j : ℕ) (d : A) → j < length xs → n x ≤ n (get_or xs j d)
later n x [] ascend j d lt = absurd (omega arith)
later n x (y ∷ xs) ascend zero d lt = ascend.0
later n x (y ∷ xs) ascend (suc j) d lt = let rest = later n y xs ascend.1 j d (omega arith) in omega (arith, ascend.0, rest)

pub in_order : {A : Type 0} (n : A → ℕ) (xs : List A) → EachToNext (λ (a b : A). n a ≤ n b) xs → IsNonDecreasingBy n xs
in_order n [] ascend i j d le lt = absurd (omega arith)
in_order n (x ∷ xs) ascend zero zero d le lt = omega arith
in_order n (x ∷ xs) ascend (suc i) zero d le lt = absurd (omega arith)
in_order n (x ∷ xs) ascend zero (suc j) d le lt = later n x xs ascend j d (omega arith)
in_order n (x ∷ xs) ascend (suc i) (suc j) d le lt = in_order n xs ascend.1 i j d (omega arith) (omega arith)

-- the places from which pairs lead do not fall
pub from_not_falling : (pairs : List FlowPair) → EachToNext (λ (a b : FlowPair). IsPairBefore a.from a.to b.from b.to) pairs → EachToNext (λ (a b : FlowPair). a.from ≤ b.from) pairs
from_not_falling [] ascend = tt
from_not_falling (p ∷ []) ascend = (tt, tt)
from_not_falling (p ∷ q ∷ pairs) ascend = (elim ascend.0 [ inl less ↦ omega (arith, less) | inr same ↦ omega (arith, same.0) ], from_not_falling (q ∷ pairs) ascend.1)

-- where numbers do not fall, those up to one that is less than a bound are all less
pub less_before : {A : Type 0} (n : A → ℕ) (xs : List A) (bound i : ℕ) (x : A) → IsNonDecreasingBy n xs → slice_get xs i ≡ Some x → n x < bound
    → (k : ℕ) (d : A) → k < i + 1 → k < length xs → n (get_or xs k d) < bound
less_before n xs bound i x order got less k d before within =
    let not_more = order k i d (omega (arith, before)) (slice_get_within xs i x got) in
    omega (arith, not_more, ap n (record_at xs i x d got), less)

-- and those from one on that is no less are no less
pub not_less_behind : {A : Type 0} (n : A → ℕ) (xs : List A) (bound i : ℕ) (x : A) → IsNonDecreasingBy n xs → slice_get xs i ≡ Some x → bound ≤ n x
    → (k : ℕ) (d : A) → i ≤ k → k < length xs → bound ≤ n (get_or xs k d)
not_less_behind n xs bound i x order got least_of k d behind within =
    let not_less = order i k d behind within in
    omega (arith, not_less, ap n (record_at xs i x d got), least_of)

-- ---- Stops on a line

pub stops-behind : (m : Form) (line i n : ℕ) (ps : List Place) → ((k : ℕ) (d : Place) → k < i → k < length ps → (get_or ps k d).line < line) → stops_on m line (n + i) (drop i ps) ≡ stops_on m line n ps
stops-behind m line zero n ps before = let none : n + 0 ≡ n = omega arith in ap (λ k. stops_on m line k ps) none
stops-behind m line (suc i) n [] before = refl
stops-behind m line (suc i) n (p ∷ ps) before =
    let less : p.line < line = before 0 p (omega arith) (omega arith) in
    let other : (p.line == line) ≡ false = ne_eqb p.line line (λ e. omega (arith, e, less)) in
    let sums : n + suc i ≡ (n + 1) + i = omega arith in
    rw (sums, other) (stops-behind m line i (n + 1) ps (λ k d lt within. before (suc k) d (omega arith) (omega arith)))

pub stops-past : (m : Form) (line n : ℕ) (ps : List Place) → ((k : ℕ) (d : Place) → k < length ps → line < (get_or ps k d).line) → stops_on m line n ps ≡ []
stops-past m line n [] past = refl
stops-past m line n (p ∷ ps) past =
    let more : line < p.line = past 0 p (omega arith) in
    let other : (p.line == line) ≡ false = ne_eqb p.line line (λ e. omega (arith, e, more)) in
    rw other (stops-past m line (n + 1) ps (λ k d within. past (suc k) d (omega arith)))

-- from a place of a later line on there is none
pub stops-end : (m : Form) (line n i : ℕ) (d : Place) (ps : List Place) → EachToNext (λ (a b : Place). a.line ≤ b.line) ps → i < length ps → line ≤ (get_or ps i d).line → (get_or ps i d).line ≢ line
    → stops_on m line n (drop i ps) ≡ []
stops-end m line n i d ps ascend lt le other = stops-past m line n (drop i ps) (λ k e within.
    let order = in_order (λ (p : Place). p.line) ps ascend i (i + k) d (omega arith) (omega (arith, within, length-drop i ps, lt)) in
    let same : get_or (drop i ps) k e ≡ get_or ps (i + k) e = get_or-drop i ps k e in
    let alike : get_or ps (i + k) e ≡ get_or ps (i + k) d = get_or_default ps (i + k) e d (omega (arith, within, length-drop i ps, lt)) in
    rw (same, alike) (omega (arith, order, le, other)))

-- one place more, which is a stop on the line
pub stops-more : (m : Form) (line i : ℕ) (place : Place) (ps : List Place) (found more : List Number) (number : Number) → slice_get ps i ≡ Some place → is_stop_on m line place ≡ true → number.0 ≡ i + 1 → more ≡ found ++ number ∷ []
    → map (λ (q : Number). q.0) more ++ stops_on m line (i + 1 + 1) (drop (i + 1) ps) ≡ map (λ (q : Number). q.0) found ++ stops_on m line (i + 1) (drop i ps)
stops-more m line i place ps found more number got stop numbered pushed =
    let behind = stops_on m line (i + 1 + 1) (drop (i + 1) ps) in
    let numbers = map (λ (q : Number). q.0) found in
    let one_more : map (λ (q : Number). q.0) more ≡ numbers ++ (i + 1) ∷ [] = ap (map (λ (q : Number). q.0)) pushed ∙ (map-append (λ (q : Number). q.0) found (number ∷ []) ∙ ap (λ n. numbers ++ n ∷ []) numbered) in
    let here : stops_on m line (i + 1) (drop i ps) ≡ (i + 1) ∷ behind = ap (stops_on m line (i + 1)) (records_from ps i place got) ∙ ap (λ b. if b then (i + 1) ∷ behind else behind) stop in
    ap (λ l. l ++ behind) one_more ∙ (append_assoc numbers ((i + 1) ∷ []) behind ∙ ap (λ l. numbers ++ l) (sym here))

-- or which is none
pub stops-other : (m : Form) (line i : ℕ) (place : Place) (ps : List Place) (found more : List Number) → slice_get ps i ≡ Some place → is_stop_on m line place ≡ false → more ≡ found
    → map (λ (q : Number). q.0) more ++ stops_on m line (i + 1 + 1) (drop (i + 1) ps) ≡ map (λ (q : Number). q.0) found ++ stops_on m line (i + 1) (drop i ps)
stops-other m line i place ps found more got none same =
    let behind = stops_on m line (i + 1 + 1) (drop (i + 1) ps) in
    let here : stops_on m line (i + 1) (drop i ps) ≡ behind = ap (stops_on m line (i + 1)) (records_from ps i place got) ∙ ap (λ b. if b then (i + 1) ∷ behind else behind) none in
    ap (λ l. map (λ (q : Number). q.0) l ++ behind) same ∙ ap (λ l. map (λ (q : Number). q.0) found ++ l) (sym here)

-- ---- Pairs that lead from a place

-- no pair leads from it before the first that leads from no earlier place
pub followers-behind : (place i : ℕ) (pairs : List FlowPair) → ((k : ℕ) (d : FlowPair) → k < i → k < length pairs → (get_or pairs k d).from < place) → least_of (followers place (drop i pairs)) ≡ least_of (followers place pairs)
followers-behind place i pairs before =
    let same = kept_behind (λ (p : FlowPair). p.from == place) i pairs (λ k d lt within. let less = before k d lt within in ne_eqb (get_or pairs k d).from place (λ e. omega (arith, e, less))) in
    ap (λ (l : List FlowPair). least_of (map (λ (p : FlowPair). p.to) l)) (sym same)

-- nor from one on that leads from a later place
pub followers-none : (place i : ℕ) (d : FlowPair) (pairs : List FlowPair) → EachToNext (λ (a b : FlowPair). IsPairBefore a.from a.to b.from b.to) pairs → i < length pairs → place ≤ (get_or pairs i d).from → (get_or pairs i d).from ≢ place
    → least_of (followers place (drop i pairs)) ≡ None
followers-none place i d pairs ascend lt le other =
    let none = none_kept (λ (p : FlowPair). p.from == place) (drop i pairs) (λ k e within.
    let order = in_order (λ (p : FlowPair). p.from) pairs (from_not_falling pairs ascend) i (i + k) d (omega arith) (omega (arith, within, length-drop i pairs, lt)) in
    let same : get_or (drop i pairs) k e ≡ get_or pairs (i + k) e = get_or-drop i pairs k e in
    let alike : get_or pairs (i + k) e ≡ get_or pairs (i + k) d = get_or_default pairs (i + k) e d (omega (arith, within, length-drop i pairs, lt)) in
    rw (same, alike) (ne_eqb (get_or pairs (i + k) d).from place (λ e. omega (arith, e, order, le, other)))) in
    ap (λ (l : List FlowPair). least_of (map (λ (p : FlowPair). p.to) l)) none

-- and behind the last pair there is none
pub followers-past : (place i : ℕ) (pairs : List FlowPair) → length pairs ≤ i → least_of (followers place (drop i pairs)) ≡ None
followers-past place i pairs past = rw (drop_all i pairs past) refl
