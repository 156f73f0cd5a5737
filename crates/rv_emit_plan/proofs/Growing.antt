-- Blocks that are placed one behind the other.
use Rattle.std.proofs.Common.{◌≡◌, ◌≢◌, ℕ, zero, suc, ◌+◌, ◌<◌, ◌≤◌, ◌⊎◌, Bool, true, false, List, [], ◌∷◌, ◌++◌, length, length-append, get_or, slice_index, slice_set, replicate, refl, sym, ap, ◌∙◌, subst, arith, inl, inr, ⊎_elim}
use Rattle.std.specs.Prelude.{if◌then◌else◌}
use Rattle.std.specs.List.{AllByRecursion}
use Rattle.std.proofs.lemmas.Bool.{cases_eq, false≢true}
use Rattle.std.proofs.lemmas.List.{get_or-set_same, get_or-set_other, length-set}
use Rattle.graph_core.specs.Paths.{Among, front, behind}
use Rattle.rv_emit_plan.specs.Orders.{AreOnce, ArePlaced, Grows, IsOrder, PlacingForm, left_out, with_placed}

-- ---- A number behind others

among_end : (xs : List ℕ) (n m : ℕ) → Among m (xs ++ n ∷ []) → Among m xs ⊎ (m ≡ n)
among_end [] n m front = inr refl
among_end [] n m (behind none) = elim none [ ]
among_end (_ ∷ xs) n m front = inl front
among_end (x ∷ xs) n m (behind there) = ⊎_elim (λ (w : Among m xs). inl (behind w)) (λ (e : m ≡ n). inr e) (among_end xs n m there)

once_end : (xs : List ℕ) (n : ℕ) → AreOnce xs → (Among n xs → ⊥) → AreOnce (xs ++ n ∷ [])
once_end [] n once new = ((λ none. elim none [ ]), tt)
once_end (x ∷ xs) n (other, once) new = (
  (λ there. ⊎_elim other (λ (e : x ≡ n). new (subst (λ k. Among k (x ∷ xs)) e front)) (among_end xs n x there)),
  once_end xs n once (λ w. new (behind w)),
)

low_end : (b : ℕ) (xs : List ℕ) (n : ℕ) → AllByRecursion (λ k. k < b) xs → n < b → AllByRecursion (λ k. k < b) (xs ++ n ∷ [])
low_end b [] n all fits = (fits, tt)
low_end b (x ∷ xs) n (one, all) fits = (one, low_end b xs n all fits)

first_end : (xs : List ℕ) (n : ℕ) → 1 ≤ length xs → slice_index xs 0 ≡ 0 → slice_index (xs ++ n ∷ []) 0 ≡ 0
first_end [] n some first = absurd (omega (arith, some))
first_end (x ∷ xs) n some first = first

-- ---- Marks

low_of : (ps : List Bool) (n : ℕ) → get_or ps n true ≡ false → n < length ps
low_of [] n e = absurd (false≢true (sym e))
low_of (p ∷ ps) zero e = omega arith
low_of (p ∷ ps) (suc n) e = let more = low_of ps n e in omega (arith, more)

one_less : (ps : List Bool) (n : ℕ) → get_or ps n true ≡ false → left_out ps ≡ left_out (slice_set ps n true) + 1
one_less [] n e = absurd (false≢true (sym e))
one_less (p ∷ ps) zero e =
    let one : left_out (p ∷ ps) ≡ 1 + left_out ps = ap (λ b. (if b then 0 else 1) + left_out ps) e in
    omega (arith, one)
one_less (p ∷ ps) (suc n) e = let rest = one_less ps n e in omega (arith, rest)

all_marked : (ps : List Bool) → ((n : ℕ) → n < length ps → get_or ps n true ≡ true) → left_out ps ≡ 0
all_marked [] each = refl
all_marked (p ∷ ps) each =
    let one : p ≡ true = each 0 (omega arith) in
    let rest = all_marked ps (λ n lt. each (suc n) (omega (arith, lt))) in
    let both : left_out (p ∷ ps) ≡ 0 + left_out ps = ap (λ b. (if b then 0 else 1) + left_out ps) one in
    omega (arith, both, rest)

none_marked : (n : ℕ) → left_out (replicate n false) ≡ length (replicate n false)
none_marked zero = refl
none_marked (suc n) = let rest = none_marked n in omega (arith, rest)

-- ---- What is placed

-- A block that was not placed.
abbrev put_last : (n : ℕ) → PlacingForm → PlacingForm
put_last n s = record { is_placed = slice_set s.is_placed n true; order = s.order ++ n ∷ [] }

module _ (n : ℕ) (s : PlacingForm) (new : get_or s.is_placed n true ≡ false) where
  low : n < length s.is_placed
  low = low_of s.is_placed n new

  stay : (m : ℕ) → get_or s.is_placed m true ≡ true → get_or (slice_set s.is_placed n true) m true ≡ true
  stay m was =
      ⊎_elim
      (λ (e : m ≡ n). ap (λ k. get_or (slice_set s.is_placed n true) k true) e ∙ get_or-set_same s.is_placed n true true low)
      (λ (ne : m ≢ n). get_or-set_other s.is_placed n m true true ne ∙ was)
      (cases_eq m n)

  not_again : ArePlaced s → Among n s.order → ⊥
  not_again is there = false≢true (sym new ∙ is.marked n there)

  still : ArePlaced s → ArePlaced (put_last n s)
  still is =
      let count : length (slice_set s.is_placed n true) ≡ length s.is_placed = length-set s.is_placed n true in
      let longer : length (s.order ++ n ∷ []) ≡ length s.order + 1 = length-append s.order (n ∷ []) in
      let less = one_less s.is_placed n new in
      let counted = is.counted in
      record {
        begun = λ some. omega (arith, longer);
        first = first_end s.order n (is.begun (omega (arith, low))) is.first;
        low = subst (λ b. AllByRecursion (λ k. k < b) (s.order ++ n ∷ [])) (sym count) (low_end (length s.is_placed) s.order n is.low low);
        once = once_end s.order n is.once (not_again is);
        marked = λ m there. ⊎_elim
            (λ (w : Among m s.order). stay m (is.marked m w))
            (λ (e : m ≡ n). ap (λ k. get_or (slice_set s.is_placed n true) k true) e ∙ get_or-set_same s.is_placed n true true low)
            (among_end s.order n m there);
        counted = omega (arith, count, longer, less, counted);
      }

  pub grows_by : Grows s (put_last n s)
  grows_by = record { count = length-set s.is_placed n true; stay = stay; placed = still }

pub grows_same : (s : PlacingForm) → Grows s s
grows_same s = record { count = refl; stay = λ n was. was; placed = λ is. is }

pub grows_on : (s t u : PlacingForm) → Grows s t → Grows t u → Grows s u
grows_on s t u one two = record { count = two.count ∙ one.count; stay = λ n was. two.stay n (one.stay n was); placed = λ is. two.placed (one.placed is) }

-- Block 0 is placed first.
pub begins : (blocks : ℕ) → ArePlaced (with_placed 0 (record { is_placed = replicate blocks false; order = [] }))
begins zero = record { begun = λ some. absurd (omega (arith, some)); first = refl; low = tt; once = tt; marked = λ n none. elim none [ ]; counted = refl }
begins (suc n) =
    let none = none_marked n in
    record {
      begun = λ some. omega arith;
      first = refl;
      low = (omega arith, tt);
      once = ((λ none. elim none [ ]), tt);
      marked = marked;
      counted = omega (arith, none);
    }
  where
    marked : (m : ℕ) → Among m (0 ∷ []) → get_or (true ∷ replicate n false) m true ≡ true
    marked m front = refl
    marked m (behind none) = elim none [ ]

-- Where each block is placed, they are in order.
pub order_of_placed : (s : PlacingForm) (blocks : ℕ) → ArePlaced s → length s.is_placed ≡ blocks → ((n : ℕ) → n < blocks → get_or s.is_placed n true ≡ true) → IsOrder blocks s.order
order_of_placed s blocks is count each =
    let none : left_out s.is_placed ≡ 0 = all_marked s.is_placed (λ n lt. each n (omega (arith, lt, count))) in
    let counted = is.counted in
    record {
      all = omega (arith, counted, none, count);
      first = is.first;
      low = subst (λ b. AllByRecursion (λ n. n < b) s.order) count is.low;
      once = is.once;
    }
