-- Sets of numbers below a width are the values of problems, by union and by intersection.
use Rattle.std.proofs.Common.{nat_cmp, ◌≡◌, ℕ, zero, suc, ◌+◌, ◌<◌, ◌≤◌, ◌⊎◌, inl, inr, Bool, true, false, true≢false, refl, sym, ap, ◌∙◌, subst, arith}
use Rattle.std.specs.Prelude.{◌||◌, ◌&&◌, ◌==◌, not}
use Rattle.std.specs.Cmp.{nat_cmp_total, unsigned_tied, eq_by_cmp_equiv}
use Rattle.std.proofs.lemmas.Bool.Decides.{nat_tests}
use Rattle.std.specs.Ordering.{eq_by_cmp}
use Rattle.std.specs.FinSet.{empty, contains, union, intersection, difference, contains-empty, contains-insert, contains-union, contains-intersection, contains-difference, same_set, nat_cmp-IsAntisymmetric}
use Rattle.graph_solve_problem.specs.Numbers.{Numbers, IsBelow, numbers_below, made_of}
use Rattle.graph_solve_problem.specs.Problem.{Falls, begins, falls}

-- sets of the same numbers are equal
pub equal : (s t : Numbers) → ((q : ℕ) → contains s q ≡ contains t q) → s ≡ t
equal = same_set nat_cmp_total nat_cmp-IsAntisymmetric

pub in_union : (s t : Numbers) (q : ℕ) → contains (union s t) q ≡ (contains s q || contains t q)
in_union = contains-union nat_cmp_total

pub in_both : (s t : Numbers) (q : ℕ) → contains (intersection s t) q ≡ (contains s q && contains t q)
in_both = contains-intersection nat_cmp_total

or_comm : (a b : Bool) → (a || b) ≡ (b || a)
or_comm true true = refl
or_comm true false = refl
or_comm false true = refl
or_comm false false = refl

or_assoc : (a b c : Bool) → ((a || b) || c) ≡ (a || (b || c))
or_assoc true b c = refl
or_assoc false b c = refl

or_same : (a : Bool) → (a || a) ≡ a
or_same true = refl
or_same false = refl

or_none : (a : Bool) → (a || false) ≡ a
or_none true = refl
or_none false = refl

and_comm : (a b : Bool) → (a && b) ≡ (b && a)
and_comm true true = refl
and_comm true false = refl
and_comm false true = refl
and_comm false false = refl

and_assoc : (a b c : Bool) → ((a && b) && c) ≡ (a && (b && c))
and_assoc true b c = refl
and_assoc false b c = refl

and_same : (a : Bool) → (a && a) ≡ a
and_same true = refl
and_same false = refl

and_true : (a : Bool) → (a && true) ≡ a
and_true true = refl
and_true false = refl

pub union_comm : (s t : Numbers) → union s t ≡ union t s
union_comm s t = equal _ _ (λ q. in_union s t q ∙ or_comm (contains s q) (contains t q) ∙ sym (in_union t s q))

pub union_assoc : (s t u : Numbers) → union (union s t) u ≡ union s (union t u)
union_assoc s t u = equal _ _ (λ q.
    in_union (union s t) u q ∙ ap (λ b. b || contains u q) (in_union s t q) ∙ or_assoc (contains s q) (contains t q)
    (contains u q)
    ∙ ap (λ b. contains s q || b) (sym (in_union t u q)) ∙ sym (in_union s (union t u) q))

pub union_same : (s : Numbers) → union s s ≡ s
union_same s = equal _ _ (λ q. in_union s s q ∙ or_same (contains s q))

pub union_empty : (s : Numbers) → union s empty ≡ s
union_empty s =
    equal _ _
    (λ q. in_union s empty q ∙ ap (λ b. contains s q || b) (contains-empty nat_cmp q) ∙ or_none (contains s q))

pub both_comm : (s t : Numbers) → intersection s t ≡ intersection t s
both_comm s t = equal _ _ (λ q. in_both s t q ∙ and_comm (contains s q) (contains t q) ∙ sym (in_both t s q))

pub both_assoc : (s t u : Numbers) → intersection (intersection s t) u ≡ intersection s (intersection t u)
both_assoc s t u = equal _ _ (λ q.
    in_both (intersection s t) u q ∙ ap (λ b. b && contains u q) (in_both s t q) ∙ and_assoc (contains s q)
    (contains t q) (contains u q)
    ∙ ap (λ b. contains s q && b) (sym (in_both t u q)) ∙ sym (in_both s (intersection t u) q))

pub both_same : (s : Numbers) → intersection s s ≡ s
both_same s = equal _ _ (λ q. in_both s s q ∙ and_same (contains s q))

below_or_not : (w q : ℕ) → (q < w) ⊎ (w ≤ q)
below_or_not w q = grind arith

at_or_below : (n q : ℕ) → q < suc n → (q < n) ⊎ (q ≡ n)
at_or_below n q lt = grind arith

same_number : (q : ℕ) → eq_by_cmp nat_cmp q q ≡ true
same_number q = (eq_by_cmp_equiv nat_cmp_total).refl q

pub in_below : (w q : ℕ) → q < w → contains (numbers_below w) q ≡ true
in_below zero q lt = absurd (omega arith)
in_below (suc n) q lt = contains-insert nat_cmp_total (numbers_below n) n q ∙ elim (at_or_below n q lt) [
  | inl l ↦ ap (λ b. eq_by_cmp nat_cmp q n || b) (in_below n q l) ∙ or_true (eq_by_cmp nat_cmp q n)
  | inr e ↦ ap (λ b. b || contains (numbers_below n) q) (ap (λ m. eq_by_cmp nat_cmp q m) (sym e) ∙ same_number q)
]
  where
    or_true : (a : Bool) → (a || true) ≡ true
    or_true true = refl
    or_true false = refl

pub not_below : (w : ℕ) → IsBelow w (numbers_below w)
not_below zero q h = contains-empty nat_cmp q
not_below (suc n) q h =
    contains-insert nat_cmp_total (numbers_below n) n q ∙ both_false (unsigned_tied q n ∙ differs q n (omega arith))
    (not_below n q (omega arith))
  where
    both_false : {a b : Bool} → a ≡ false → b ≡ false → (a || b) ≡ false
    both_false {a} {b} e f = ap (λ c. c || b) e ∙ f

    differs : (q n : ℕ) → n < q → (q == n) ≡ false
    differs q n lt = grind (arith, nat_tests)

-- among sets below the width, all numbers below it change nothing
pub both_all : (w : ℕ) (s : Numbers) → IsBelow w s → intersection s (numbers_below w) ≡ s
both_all w s below = equal _ _ (λ q. in_both s (numbers_below w) q ∙ elim (below_or_not w q) [
  | inl l ↦ ap (λ b. contains s q && b) (in_below w q l) ∙ and_true (contains s q)
  | inr g ↦ ap (λ b. b && contains (numbers_below w) q) (below q g) ∙ sym (below q g)
])

moved : (made lost u : Numbers) (q : ℕ)
    → contains (made_of made lost u) q ≡ (contains made q || (contains u q && not (contains lost q)))
moved made lost u q =
    in_union made (difference u lost) q ∙ ap (λ b. contains made q || b) (contains-difference nat_cmp_total u lost q)

all_parted : (g a b k : Bool) → (g || ((a && b) && k)) ≡ ((g || (a && k)) && (g || (b && k)))
all_parted true a b k = refl
all_parted false true b true = refl
all_parted false true b false = and_false b
  where
    and_false : (b : Bool) → (b && false) ≡ false
    and_false true = refl
    and_false false = refl
all_parted false false b k = refl

pub made_of_both : (made lost s t : Numbers)
    → made_of made lost (intersection s t) ≡ intersection (made_of made lost s) (made_of made lost t)
made_of_both made lost s t = equal _ _ (λ q.
    moved made lost (intersection s t) q ∙ ap (λ b. contains made q || (b && not (contains lost q))) (in_both s t q)
    ∙ all_parted (contains made q) (contains s q) (contains t q) (not (contains lost q))
    ∙ sym
    (in_both (made_of made lost s) (made_of made lost t) q ∙ ap (λ b. b && contains (made_of made lost t) q)
    (moved made lost s q) ∙ ap (λ b. (contains made q || (contains s q && not (contains lost q))) && b)
    (moved made lost t q)))

-- how many numbers below n are in
abbrev one_of : Bool → ℕ
one_of true = 1
one_of false = 0

abbrev count : ℕ → (ℕ → Bool) → ℕ
count zero f = 0
count (suc n) f = one_of (f n) + count n f

count_same : (n : ℕ) (f h : ℕ → Bool) → ((q : ℕ) → q < n → f q ≡ h q) → count n f ≡ count n h
count_same zero f h e = refl
count_same (suc n) f h e =
    let a = e n (omega arith) in omega (arith, ap one_of a, count_same n f h (λ q lt. e q (omega arith)))

-- more members, or the same
grows : (n : ℕ) (f h : ℕ → Bool) → ((q : ℕ) → (h q || f q) ≡ h q)
    → (count n f < count n h) ⊎ ((q : ℕ) → q < n → f q ≡ h q)
grows zero f h sub = inr (λ q lt. absurd (omega arith))
grows (suc n) f h sub = go (f n) (h n) refl refl (grows n f h sub)
  where
    both_so : f n ≡ h n → ((q : ℕ) → q < n → f q ≡ h q) → (q : ℕ) → q < suc n → f q ≡ h q
    both_so here below q lt =
        elim (at_or_below n q lt) [ inl l ↦ below q l | inr e ↦ subst (λ m. f m ≡ h m) (sym e) here ]

    go : (x y : Bool) → f n ≡ x → h n ≡ y → (count n f < count n h) ⊎ ((q : ℕ) → q < n → f q ≡ h q)
        → (one_of x + count n f < one_of y + count n h) ⊎ ((q : ℕ) → q < suc n → f q ≡ h q)
    go true true e d (inl lt) = inl (omega arith)
    go true true e d (inr same) = inr (both_so (e ∙ sym d) same)
    go false false e d (inl lt) = inl (omega arith)
    go false false e d (inr same) = inr (both_so (e ∙ sym d) same)
    go false true e d (inl lt) = inl (omega arith)
    go false true e d (inr same) = inl (omega (arith, count_same n f h same))
    go true false e d r = let bad : true ≡ false = sym (ap (λ b. b || f n) d ∙ e) ∙ sub n ∙ d in absurd (true≢false bad)

within_width : (n : ℕ) (f : ℕ → Bool) → count n f ≤ n
within_width zero f = omega arith
within_width (suc n) f = omega (arith, at_most (f n), within_width n f)
  where
    at_most : (b : Bool) → one_of b ≤ 1
    at_most true = omega arith
    at_most false = omega arith

-- sets below the width that agree below it are equal
agree_below : (width : ℕ) (s t : Numbers) → IsBelow width s → IsBelow width t
    → ((q : ℕ) → q < width → contains s q ≡ contains t q) → s ≡ t
agree_below width s t v w same =
    equal s t (λ q. elim (below_or_not width q) [ inl l ↦ same q l | inr g ↦ v q g ∙ sym (w q g) ])

counted_up : (width n : ℕ) (s : Numbers) → Falls (IsBelow width) union n s
    → IsBelow width s × (n ≤ count width (contains s))
counted_up width _ _ (begins v) = (v, omega arith)
counted_up width _ _ (falls {n} {x} {y} c v low differs) =
    let before = counted_up width n x c in (
      v,
      elim (grows width (contains x) (contains y) (λ q. sym (in_union y x q) ∙ ap (λ u. contains u q) low)) [
        | inl lt ↦ omega (arith, before.1)
        | inr same ↦ absurd (differs (sym (agree_below width x y before.0 v same)))
      ],
    )

counted_down : (width n : ℕ) (s : Numbers) → Falls (IsBelow width) intersection n s
    → IsBelow width s × (n + count width (contains s) ≤ width)
counted_down width _ _ (begins {x} v) = (v, omega (arith, within_width width (contains x)))
counted_down width _ _ (falls {n} {x} {y} c v low differs) =
    let before = counted_down width n x c in (
      v,
      elim
          (grows width (contains y) (contains x)
          (λ q. absorbed (contains y q) (contains x q) (sym (in_both y x q) ∙ ap (λ u. contains u q) low))) [
            | inl lt ↦ omega (arith, before.1)
            | inr same ↦ absurd (differs (agree_below width y x v before.0 same))
          ],
    )
  where
    absorbed : (a b : Bool) → (a && b) ≡ a → (b || a) ≡ b
    absorbed true true e = refl
    absorbed true false e = sym e
    absorbed false true e = refl
    absorbed false false e = refl

-- no chain of falling sets is longer than the width
pub bounded_union : (width n : ℕ) (s : Numbers) → Falls (IsBelow width) union n s → n ≤ width
bounded_union width n s c = omega (arith, (counted_up width n s c).1, within_width width (contains s))

pub bounded_both : (width n : ℕ) (s : Numbers) → Falls (IsBelow width) intersection n s → n ≤ width
bounded_both width n s c = omega (arith, (counted_down width n s c).1)

or_false : (a b : Bool) → a ≡ false → b ≡ false → (a || b) ≡ false
or_false true b p q = p
or_false false b p q = q

and_left : (a b : Bool) → a ≡ false → (a && b) ≡ false
and_left true b p = absurd (true≢false p)
and_left false b p = refl

pub below_empty : (w : ℕ) → IsBelow w empty
below_empty w q h = contains-empty nat_cmp q

pub below_union : (w : ℕ) (s t : Numbers) → IsBelow w s → IsBelow w t → IsBelow w (union s t)
below_union w s t p q n h = in_union s t n ∙ or_false _ _ (p n h) (q n h)

pub below_both : (w : ℕ) (s t : Numbers) → IsBelow w s → IsBelow w t → IsBelow w (intersection s t)
below_both w s t p q n h = in_both s t n ∙ and_left _ _ (p n h)

pub below_made : (w : ℕ) (made lost s : Numbers) → IsBelow w made → IsBelow w s → IsBelow w (made_of made lost s)
below_made w made lost s p v =
    below_union w made (difference s lost) p (λ q h. contains-difference nat_cmp_total s lost q ∙ and_left _ _ (v q h))
