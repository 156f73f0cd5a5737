-- The least place that follows a place stands in the first of its pairs.
use Rattle.std.proofs.Common.{◌≡◌, ◌≢◌, ℕ, zero, suc, ◌+◌, ◌<◌, ◌≤◌, ◌==◌, inl, inr, Bool, true, false, Option, Some, None, List, [], ◌∷◌, drop, ap, refl, sym, ◌∙◌, subst, arith}
use Rattle.std.specs.Prelude.{min}
use Rattle.std.specs.List.{AllByRecursion, slice_get}
use Rattle.std.specs.Option.{option_map_or}
use Rattle.std.proofs.lemmas.Bool.Decides.{nat_tests}
use Rattle.image_form.specs.Lists.{EachToNext}
use Rattle.image_form.specs.RulesOfChanges.{IsPairBefore}
use Rattle.image_form.specs.declared.tables.FlowPair.{FlowPair}
use Rattle.stop_engine.specs.Breaks.{followers, least_of}
use Rattle.stop_engine_tables.proofs.Records.{records_from}

-- the pairs ascend
abbrev pub Ascend : List FlowPair → Type 0
Ascend pairs = EachToNext (λ (a b : FlowPair). IsPairBefore a.from a.to b.from b.to) pairs

before_trans : (a b c : FlowPair) → IsPairBefore a.from a.to b.from b.to → IsPairBefore b.from b.to c.from c.to → IsPairBefore a.from a.to c.from c.to
before_trans a b c (inl g) (inl h) = inl (omega arith)
before_trans a b c (inl g) (inr h) = inl (omega (arith, h.0))
before_trans a b c (inr g) (inl h) = inl (omega (arith, g.0))
before_trans a b c (inr g) (inr h) = inr (g.0 ∙ h.0, omega (arith, g.1, h.1))

-- a number is none or not less
abbrev AtLeast : ℕ → Option ℕ → Type 0
AtLeast low None = Unit {0}
AtLeast low (Some x) = low ≤ x

least_of_two : (low x : ℕ) (o : Option ℕ) → low ≤ x → AtLeast low o → AtLeast low (Some (option_map_or (λ y. min x y) o x))
least_of_two low x None le h = le
least_of_two low x (Some y) le h = grind (arith, nat_tests, le, h)

pub followers-there : (place : ℕ) (q : FlowPair) (pairs : List FlowPair) → q.from ≡ place → followers place (q ∷ pairs) ≡ q.to ∷ followers place pairs
followers-there place q pairs same = let t : (q.from == place) ≡ true = grind (arith, nat_tests, same) in rw t refl

pub followers-elsewhere : (place : ℕ) (q : FlowPair) (pairs : List FlowPair) → q.from ≢ place → followers place (q ∷ pairs) ≡ followers place pairs
followers-elsewhere place q pairs differ = let t : (q.from == place) ≡ false = grind (arith, nat_tests, differ) in rw t refl

-- behind a pair of a place there is no lesser place that follows it
later_follow : (p : FlowPair) (pairs : List FlowPair) → Ascend (p ∷ pairs) → AtLeast p.to (least_of (followers p.from pairs))
later_follow p [] ascend = tt
later_follow p (q ∷ pairs) ascend = by_test (q.from == p.from) refl (later_follow p pairs (behind pairs ascend))
  where
    behind : (rest : List FlowPair) → Ascend (p ∷ q ∷ rest) → Ascend (p ∷ rest)
    behind [] h = (tt, tt)
    behind (r ∷ rest) h = (before_trans p q r h.0 h.1.0, h.1.1)

    not_less : IsPairBefore p.from p.to q.from q.to → q.from ≡ p.from → p.to ≤ q.to
    not_less (inl g) same = absurd (omega (arith, g, same))
    not_less (inr g) same = omega (arith, g.1)

    by_test : (b : Bool) → (q.from == p.from) ≡ b → AtLeast p.to (least_of (followers p.from pairs)) → AtLeast p.to (least_of (followers p.from (q ∷ pairs)))
    by_test true t rest =
        let same : q.from ≡ p.from = grind (arith, nat_tests, t) in
        subst (λ l. AtLeast p.to (least_of l)) (sym (followers-there p.from q pairs same)) (least_of_two p.to q.to (least_of (followers p.from pairs)) (not_less ascend.0 same) rest)
    by_test false t rest =
        let differ : q.from ≢ p.from = grind (arith, nat_tests, t) in
        subst (λ l. AtLeast p.to (least_of l)) (sym (followers-elsewhere p.from q pairs differ)) rest

min_first : (x : ℕ) (o : Option ℕ) → AtLeast x o → option_map_or (λ y. min x y) o x ≡ x
min_first x None h = refl
min_first x (Some y) h = grind (arith, nat_tests, h)

pub least-first : (place : ℕ) (q : FlowPair) (pairs : List FlowPair) → Ascend (q ∷ pairs) → q.from ≡ place → least_of (followers place (q ∷ pairs)) ≡ Some q.to
least-first place q pairs ascend same =
    ap least_of (followers-there place q pairs same)
    ∙ ap Some (min_first q.to (least_of (followers place pairs)) (subst (λ n. AtLeast q.to (least_of (followers n pairs))) same (later_follow q pairs ascend)))

pub ascend-drop : (i : ℕ) (pairs : List FlowPair) → Ascend pairs → Ascend (drop i pairs)
ascend-drop zero pairs h = h
ascend-drop (suc i) [] h = h
ascend-drop (suc i) (p ∷ pairs) h = ascend-drop i pairs h.1

-- the least place that follows, by the first pair of the place
pub follower-found : (place i : ℕ) (pair : FlowPair) (pairs : List FlowPair) → Ascend pairs → slice_get pairs i ≡ Some pair → pair.from ≡ place → Some pair.to ≡ least_of (followers place (drop i pairs))
follower-found place i pair pairs ascend got same =
    let front : drop i pairs ≡ pair ∷ drop (i + 1) pairs = records_from pairs i pair got in
    let ascends = subst Ascend front (ascend-drop i pairs ascend) in
    sym (ap (λ l. least_of (followers place l)) front ∙ least-first place pair (drop (i + 1) pairs) ascends same)

-- the least of some numbers is within what they all are within
abbrev pub AtMost : ℕ → Option ℕ → Type 0
AtMost most None = Unit {0}
AtMost most (Some x) = x < most

most_of_two : (most x : ℕ) (o : Option ℕ) → x < most → AtMost most (Some (option_map_or (λ y. min x y) o x))
most_of_two most x None le = le
most_of_two most x (Some y) le = grind (arith, nat_tests, le)

pub least-within : (place most : ℕ) (pairs : List FlowPair) → AllByRecursion (λ (p : FlowPair). p.to < most) pairs → AtMost most (least_of (followers place pairs))
least-within place most [] all = tt
least-within place most (q ∷ pairs) all = by_test (q.from == place) refl (least-within place most pairs all.1)
  where
    by_test : (b : Bool) → (q.from == place) ≡ b → AtMost most (least_of (followers place pairs)) → AtMost most (least_of (followers place (q ∷ pairs)))
    by_test true t rest =
        let same : q.from ≡ place = grind (arith, nat_tests, t) in
        subst (λ l. AtMost most (least_of l)) (sym (followers-there place q pairs same)) (most_of_two most q.to (least_of (followers place pairs)) all.0)
    by_test false t rest =
        let differ : q.from ≢ place = grind (arith, nat_tests, t) in
        subst (λ l. AtMost most (least_of l)) (sym (followers-elsewhere place q pairs differ)) rest
