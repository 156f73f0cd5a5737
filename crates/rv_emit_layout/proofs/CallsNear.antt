-- Each call of one word reaches the function that it calls: no function has more words than in its longest layout, so what was near in the longest layout of the unit is near.
use Rattle.std.proofs.Common.{◌≡◌, ◌≢◌, ◌≤◌, ◌<◌, ℕ, zero, suc, ◌+◌, ◌*◌, ⊎_elim, if◌then◌else◌, Bool, true, false, Some, List, [], ◌∷◌, length, slice_get, slice_index, get_or, refl, sym, ap, ◌∙◌, subst, arith}
use Rattle.std.proofs.lemmas.Bool.{cases_lt}
use Rattle.std.proofs.lemmas.List.{get_or_past}
use Rattle.std.proofs.lemmas.Option.{none-some, same_Some}
use Rattle.std.specs.List.{AllByRecursion}
use Rattle.memory_map.specs.declared.map.Room.{Room}
use Rattle.memory_map.specs.declared.map.Room.TheVariants.{Small, Large}
use Rattle.graph_core.specs.Validity.{total}
use Rattle.rv_code.specs.InForm.{IsJumpDistance}
use Rattle.rv_emit_words.specs.declared.piece.Piece.{Piece}
use Rattle.rv_emit_words.specs.declared.piece.Piece.TheVariants.{Word, Jump, Branch, Call}
use Rattle.rv_emit_words.specs.declared.piece.PlacedPiece.{PlacedPiece}
use Rattle.rv_emit_sequence.specs.Sequences.{SequenceForm, counted}
use Rattle.rv_emit_layout.specs.declared.reaching.Reach.{Reach}
use Rattle.rv_emit_layout.specs.declared.reaching.Reach.TheVariants.{Near, Over, Far}
use Rattle.rv_emit_layout.specs.Laid.{all_shortened, firsts_from, pieces_in, shortened, AreAllCallsNear, IsCallNear, IsLongest, LaidForm}
use Rattle.rv_emit_layout.specs.Layouts.{distance, layout_of, longest_layout, most_pieces, reach_of, words_before, IsJumpNear, IsLayoutOf, LayoutForm, LongestForm}
use Rattle.rv_emit_layout.specs.Longest.{long_before, longest}
use Rattle.rv_emit_layout.specs.Reaches.{is_within_jump, jump_reach}
use Rattle.rv_emit_layout.proofs.Layouts.{get_low, jump_distance, layout_is, none_before, reach_is, words_few, words_more}
use Rattle.rv_emit_layout.proofs.LongestLayout.{jump_form, longest_at, words_longest, Within}
use Rattle.rv_emit_layout.proofs.Shortened.{shortened_count}

-- ---- Words before functions

-- How many words the first so many functions have.
abbrev words_first : List LaidForm → ℕ → ℕ
words_first [] k = 0
words_first (l ∷ more) zero = 0
words_first (l ∷ more) (suc k) = l.layout.words + words_first more k

none_first : (all : List LaidForm) → words_first all 0 ≡ 0
none_first [] = refl
none_first (l ∷ all) = refl

firsts_at : (n : ℕ) (all : List LaidForm) (k : ℕ) → k ≤ length all → slice_index (firsts_from (counted n) all) k ≡ counted (n + words_first all k)
firsts_at n [] zero le = omega arith
firsts_at n [] (suc k) le = absurd (omega (arith, le))
firsts_at n (l ∷ more) zero le = omega arith
firsts_at n (l ∷ more) (suc k) le =
    let next : counted (counted n + l.layout.words) ≡ counted (n + l.layout.words) = omega arith in
    let later = firsts_at (n + l.layout.words) more k (omega (arith, le)) in
    let sum : n + l.layout.words + words_first more k ≡ n + (l.layout.words + words_first more k) = omega arith in
    ap (λ m. slice_index (firsts_from m more) k) next ∙ later ∙ ap (λ m. counted m) sum

firsts_count : (n : ℕ) (all : List LaidForm) → length (firsts_from n all) ≡ length all + 1
firsts_count n [] = omega arith
firsts_count n (l ∷ more) = omega (arith, firsts_count (counted (n + l.layout.words)) more)

firsts_past : (n : ℕ) (all : List LaidForm) (k : ℕ) → length all < k → slice_index (firsts_from n all) k ≡ 0
firsts_past n all k lt = get_or_past (firsts_from n all) k 0 (let c = firsts_count n all in omega (arith, c, lt))

first_grows : (all : List LaidForm) (i j : ℕ) → i ≤ j → words_first all i ≤ words_first all j
first_grows [] i j le = omega arith
first_grows (l ∷ more) zero j le = omega arith
first_grows (l ∷ more) (suc i) zero le = absurd (omega (arith, le))
first_grows (l ∷ more) (suc i) (suc j) le = omega (arith, first_grows more i j (omega (arith, le)))

first_step : (all : List LaidForm) (k : ℕ) (l : LaidForm) → slice_get all k ≡ Some l → words_first all (suc k) ≡ words_first all k + l.layout.words
first_step [] k l at = absurd (none-some l at)
first_step (x ∷ more) zero l at =
    let same : x.layout.words ≡ l.layout.words = ap (λ (y : LaidForm). y.layout.words) (same_Some x l at) in
    omega (arith, same, none_first more)
first_step (x ∷ more) (suc k) l at = omega (arith, first_step more k l at)

-- ---- No function is longer than in its longest layout

-- Functions have no more words, each, than others.
abbrev AreNoLonger : List LaidForm → List LaidForm → Type 0
AreNoLonger [] [] = Unit {0}
AreNoLonger [] (y ∷ ys) = ⊥
AreNoLonger (x ∷ xs) [] = ⊥
AreNoLonger (x ∷ xs) (y ∷ ys) = (x.layout.words ≤ y.layout.words) × AreNoLonger xs ys

-- So between two functions there are no more words.
between : (xs ys : List LaidForm) (i j : ℕ) → AreNoLonger xs ys → i ≤ j → words_first xs j + words_first ys i ≤ words_first ys j + words_first xs i
between [] [] i j short le = omega arith
between [] (y ∷ ys) i j short le = absurd short
between (x ∷ xs) [] i j short le = absurd short
between (x ∷ xs) (y ∷ ys) zero zero short le = omega arith
between (x ∷ xs) (y ∷ ys) zero (suc j) short le = omega (arith, short.0, between xs ys 0 j short.1 (omega arith), none_first xs, none_first ys)
between (x ∷ xs) (y ∷ ys) (suc i) zero short le = absurd (omega (arith, le))
between (x ∷ xs) (y ∷ ys) (suc i) (suc j) short le = omega (arith, between xs ys i j short.1 (omega (arith, le)))

-- A function as it is seen from the longest layout, and where its pieces stand.
abbrev seen : Room → List ℕ → ℕ → LaidForm → LongestForm
seen room firsts f l = record { room = room; first = slice_index firsts f; firsts = firsts; offsets = l.layout.offsets }

offsets_longest : (room : Room) (l : LaidForm) → IsLongest room l → l.layout.offsets ≡ longest room l.sequence
offsets_longest room l long = ap (λ (o : LayoutForm). o.offsets) long

its_layout : (room : Room) (firsts : List ℕ) (f : ℕ) (l : LaidForm) → IsLongest room l → length l.sequence.pieces ≤ most_pieces
    → IsLayoutOf room l.sequence (shortened room firsts f l).layout
its_layout room firsts f l long few =
    layout_is (seen room firsts f l) l.sequence (layout_of (seen room firsts f l) l.sequence) refl (offsets_longest room l long) few

-- All its words in the longest layout.
long_words : (room : Room) (l : LaidForm) → IsLongest room l → length l.sequence.pieces ≤ most_pieces → l.layout.words ≡ counted (long_before room l.sequence (length l.sequence.pieces))
long_words room l long few =
    let count : counted (length l.sequence.pieces) ≡ length l.sequence.pieces = omega (arith, few) in
    ap (λ (o : LayoutForm). o.words) long ∙ ap (λ k. slice_index (longest room l.sequence) k) count ∙ longest_at room l.sequence (length l.sequence.pieces) (omega arith)

no_longer : (room : Room) (firsts : List ℕ) (f : ℕ) (l : LaidForm) → IsLongest room l → length l.sequence.pieces ≤ most_pieces
    → ((shortened room firsts f l).layout.words ≤ l.layout.words) × ((shortened room firsts f l).layout.words ≤ 3 * length l.sequence.pieces)
no_longer room firsts f l long few =
    let s = l.sequence in
    let layout = its_layout room firsts f l long few in
    let reaches = (shortened room firsts f l).layout.reaches in
    let count = length s.pieces in
    let real : (shortened room firsts f l).layout.words ≡ words_before reaches s.pieces count = layout.words in
    let most = words_longest room reaches s 0 count layout.widths (omega arith) in
    let none : words_before reaches s.pieces 0 ≡ 0 = none_before reaches s.pieces in
    let fits = words_few reaches s.pieces count in
    let long_one = long_words room l long few in
    (omega (arith, real, most, none, fits, long_one, few), omega (arith, real, fits))

shortened_pieces : (room : Room) (firsts : List ℕ) (f : ℕ) (all : List LaidForm) → pieces_in (all_shortened room firsts f all) ≡ pieces_in all
shortened_pieces room firsts f [] = refl
shortened_pieces room firsts f (l ∷ more) = ap (λ n. length l.sequence.pieces + n) (shortened_pieces room firsts (counted (f + 1)) more)

all_no_longer : (room : Room) (firsts : List ℕ) (f : ℕ) (all : List LaidForm) → AllByRecursion (IsLongest room) all → pieces_in all < most_pieces
    → AreNoLonger (all_shortened room firsts f all) all
all_no_longer room firsts f [] long few = tt
all_no_longer room firsts f (l ∷ more) long few = (
  (no_longer room firsts f l long.0 (omega (arith, few))).0,
  all_no_longer room firsts (counted (f + 1)) more long.1 (omega (arith, few)),
)

all_few : (room : Room) (firsts : List ℕ) (f : ℕ) (all : List LaidForm) (k : ℕ) → AllByRecursion (IsLongest room) all → pieces_in all < most_pieces
    → words_first (all_shortened room firsts f all) k ≤ 3 * pieces_in all
all_few room firsts f [] k long few = omega arith
all_few room firsts f (l ∷ more) zero long few = omega arith
all_few room firsts f (l ∷ more) (suc k) long few = omega (
  arith,
  (no_longer room firsts f l long.0 (omega (arith, few))).1,
  all_few room firsts (counted (f + 1)) more k long.1 (omega (arith, few)),
)

-- Which function one of them was.
shortened_at : (room : Room) (firsts : List ℕ) (f : ℕ) (all : List LaidForm) (k : ℕ) (l : LaidForm) → f + length all ≤ 4294967295
    → slice_get (all_shortened room firsts f all) k ≡ Some l → (x : LaidForm) × (slice_get all k ≡ Some x) × (shortened room firsts (f + k) x ≡ l)
shortened_at room firsts f [] k l fits at = absurd (none-some l at)
shortened_at room firsts f (x ∷ more) zero l fits at =
    let here : f + 0 ≡ f = omega arith in
    (x, refl, ap (λ n. shortened room firsts n x) here ∙ same_Some (shortened room firsts f x) l at)
shortened_at room firsts f (x ∷ more) (suc k) l fits at =
    let next : counted (f + 1) + k ≡ f + suc k = omega (arith, fits) in
    let later = shortened_at room firsts (counted (f + 1)) more k l (omega (arith, fits)) at in
    (later.0, later.1, ap (λ n. shortened room firsts n later.0) (sym next) ∙ later.2)

its_pieces : (all : List LaidForm) (k : ℕ) (l : LaidForm) → slice_get all k ≡ Some l → length l.sequence.pieces ≤ pieces_in all
its_pieces [] k l at = absurd (none-some l at)
its_pieces (x ∷ more) zero l at =
    let same : length x.sequence.pieces ≡ length l.sequence.pieces = ap (λ (y : LaidForm). length y.sequence.pieces) (same_Some x l at) in
    omega (arith, same)
its_pieces (x ∷ more) (suc k) l at = omega (arith, its_pieces more k l at)

long_there : (room : Room) (all : List LaidForm) (k : ℕ) (l : LaidForm) → AllByRecursion (IsLongest room) all → slice_get all k ≡ Some l → IsLongest room l
long_there room [] k l long at = absurd (none-some l at)
long_there room (x ∷ more) zero l long at = subst (IsLongest room) (same_Some x l at) long.0
long_there room (x ∷ more) (suc k) l long at = long_there room more k l long.1 at

index_low : (all : List LaidForm) (k : ℕ) (l : LaidForm) → slice_get all k ≡ Some l → k < length all
index_low [] k l at = absurd (none-some l at)
index_low (x ∷ more) zero l at = omega arith
index_low (x ∷ more) (suc k) l at = omega (arith, index_low more k l at)

-- ---- How far apart a call and a function are

-- A word is within the reach of a jump from another one.
abbrev IsReached : (here there : ℕ) → Type 0
IsReached here there = (here ≤ there + 262144) × (there ≤ here + 262143)

-- The function does not stand behind the call. In the longest layout so many words stand before the call's function, before the one that is called, and before the call; these are wf, wg and b, and vf, vg and a in the real one.
reached_back : (n wf wg vf vg a b lf lg la : ℕ) → lf ≡ counted (n + wf) → lg ≡ counted (n + wg) → la ≡ counted b → a ≤ b → vf + wg ≤ wf + vg → vg ≤ vf
    → Within 262144 262143 (counted (lf + la)) lg → IsReached (n + vf + a) (n + vg)
reached_back n wf wg vf vg a b lf lg la is_f is_g is_a less between before near =
    let from : counted (lf + la) < 4294967295 = near.from in
    let to : lg < 4294967295 = near.to in
    let back : counted (lf + la) ≤ lg + 262144 = near.back in
    (omega (arith, is_f, is_g, is_a, less, between, from, to, back), omega (arith, before))

-- It does. The call's function has e and c words, of which what stands behind the call is no longer.
reached_on : (n wf wg vf vg a b e c ll lf lg la : ℕ) → lf ≡ counted (n + wf) → lg ≡ counted (n + wg) → la ≡ counted b → ll ≡ counted c → e + b ≤ c + a → a ≤ e
    → vg + (wf + ll) ≤ wg + (vf + e) → vf + e ≤ vg → wf + ll ≤ wg → Within 262144 262143 (counted (lf + la)) lg → IsReached (n + vf + a) (n + vg)
reached_on n wf wg vf vg a b e c ll lf lg la is_f is_g is_a is_l less within between before long_before near =
    let from : counted (lf + la) < 4294967295 = near.from in
    let to : lg < 4294967295 = near.to in
    let on : lg ≤ counted (lf + la) + 262143 = near.on in
    (omega (arith, within, before), omega (arith, is_f, is_g, is_a, is_l, less, between, long_before, from, to, on))

-- There is no such function: it counts as the beginning of all code.
reached_none : (n wf vf a b lf la : ℕ) → lf ≡ counted (n + wf) → la ≡ counted b → a ≤ b → vf ≤ wf → Within 262144 262143 (counted (lf + la)) 0 → IsReached (n + vf + a) 0
reached_none n wf vf a b lf la is_f is_a less before near =
    let from : counted (lf + la) < 4294967295 = near.from in
    let back : counted (lf + la) ≤ 0 + 262144 = near.back in
    (omega (arith, is_f, is_a, less, before, from, back), omega arith)

-- ---- All calls

-- The functions of a unit in the longest layout, where so many words stand before all of them, and how many stand before each one there and in the real layout.
module _ (room : Room) (n : ℕ) (all : List LaidForm) (low : n ≤ 100) (count : length all ≤ 256) (long : AllByRecursion (IsLongest room) all) (few : pieces_in all < most_pieces) (longest_firsts : List ℕ)
    (are_longest : longest_firsts ≡ firsts_from n all) (firsts : List ℕ) (are : firsts ≡ firsts_from n (all_shortened room longest_firsts 0 all)) where
  abbrev real : List LaidForm
  real = all_shortened room longest_firsts 0 all

  long_first : (k : ℕ) → k ≤ length all → slice_index longest_firsts k ≡ counted (n + words_first all k)
  long_first k le =
      let same : n ≡ counted n = omega (arith, low) in
      ap (λ l. slice_index l k) (are_longest ∙ ap (λ m. firsts_from m all) same) ∙ firsts_at n all k le

  real_first : (k : ℕ) → k ≤ length all → slice_index firsts k ≡ n + words_first real k
  real_first k le =
      let same : n ≡ counted n = omega (arith, low) in
      let number : length real ≡ length all = shortened_count room longest_firsts 0 all in
      let is : slice_index firsts k ≡ counted (n + words_first real k) = ap (λ l. slice_index l k) (are ∙ ap (λ m. firsts_from m real) same) ∙ firsts_at n real k (omega (arith, le, number)) in
      let most : words_first real k ≤ 3 * pieces_in all = all_few room longest_firsts 0 all k long few in
      omega (arith, is, most, few, low)

  shorter : AreNoLonger real all
  shorter = all_no_longer room longest_firsts 0 all long few

  -- A call that the longest layout lets have one word: of a function of this number, at a piece, to another function.
  module _ (f : ℕ) (l : LaidForm) (at : slice_get all f ≡ Some l) (there : slice_get real f ≡ Some (shortened room longest_firsts f l)) (k : ℕ) (within : k < length l.sequence.pieces) (g : ℕ)
      (near : Within 262144 262143 (counted (slice_index longest_firsts f + slice_index (longest room l.sequence) k)) (slice_index longest_firsts g)) where
    abbrev reaches : List Reach
    reaches = (shortened room longest_firsts f l).layout.reaches

    f_low : f < length all
    f_low = index_low all f l at

    its_few : length l.sequence.pieces ≤ most_pieces
    its_few = let some = its_pieces all f l at in omega (arith, some, few)

    its_long : IsLongest room l
    its_long = long_there room all f l long at

    layout : IsLayoutOf room l.sequence (shortened room longest_firsts f l).layout
    layout = its_layout room longest_firsts f l its_long its_few

    abbrev before : ℕ → ℕ
    before j = words_before reaches l.sequence.pieces j

    abbrev all_pieces : ℕ
    all_pieces = length l.sequence.pieces

    long_here : slice_index (longest room l.sequence) k ≡ counted (long_before room l.sequence k)
    long_here = longest_at room l.sequence k (omega (arith, within))

    -- No more words stand before it, and none more behind it.
    less : before k ≤ long_before room l.sequence k
    less =
        let most = words_longest room reaches l.sequence 0 k layout.widths (omega arith) in
        let none : before 0 ≡ 0 = none_before reaches l.sequence.pieces in
        omega (arith, most, none)

    real_step : words_first real (suc f) ≡ words_first real f + before all_pieces
    real_step =
        let words : (shortened room longest_firsts f l).layout.words ≡ before all_pieces = layout.words in
        first_step real f (shortened room longest_firsts f l) there ∙ ap (λ m. words_first real f + m) words

    long_step : words_first all (suc f) ≡ words_first all f + l.layout.words
    long_step = first_step all f l at

    -- Where the call stands in the real layout.
    abbrev here : ℕ
    here = n + words_first real f + before k

    onward : f < g → g ≤ length all → IsReached here (n + words_first real g)
    onward lt le =
        let more = between real all (suc f) g shorter (omega (arith, lt)) in
        let real_more = first_grows real (suc f) g (omega (arith, lt)) in
        let long_more = first_grows all (suc f) g (omega (arith, lt)) in
        reached_on n (words_first all f) (words_first all g) (words_first real f) (words_first real g) (before k) (long_before room l.sequence k) (before all_pieces) (long_before room l.sequence all_pieces)
        l.layout.words (slice_index longest_firsts f) (slice_index longest_firsts g) (slice_index (longest room l.sequence) k)
        (long_first f (let low = f_low in omega (arith, low)))
        (long_first g le)
        long_here
        (long_words room l its_long its_few)
        (words_longest room reaches l.sequence k all_pieces layout.widths (omega (arith, within)))
        (words_more reaches l.sequence.pieces k all_pieces (omega (arith, within)))
        (let a = real_step in let b = long_step in omega (arith, more, a, b))
        (let a = real_step in omega (arith, real_more, a))
        (let b = long_step in omega (arith, long_more, b))
        near

    backward : g ≤ f → IsReached here (n + words_first real g)
    backward le =
        reached_back n (words_first all f) (words_first all g) (words_first real f) (words_first real g) (before k) (long_before room l.sequence k) (slice_index longest_firsts f) (slice_index longest_firsts g)
        (slice_index (longest room l.sequence) k)
        (long_first f (let low = f_low in omega (arith, low)))
        (long_first g (let low = f_low in omega (arith, low, le)))
        long_here less (between real all g f shorter le) (first_grows real g f le) near

    nowhere : length all < g → IsReached here 0
    nowhere lt =
        let none : slice_index longest_firsts g ≡ 0 = ap (λ l. slice_index l g) are_longest ∙ firsts_past n all g lt in
        let all_less = between real all 0 f shorter (omega arith) in
        let no_real : words_first real 0 ≡ 0 = none_first real in
        let no_long : words_first all 0 ≡ 0 = none_first all in
        reached_none n (words_first all f) (words_first real f) (before k) (long_before room l.sequence k) (slice_index longest_firsts f) (slice_index (longest room l.sequence) k)
        (long_first f (let low = f_low in omega (arith, low)))
        long_here less
        (omega (arith, all_less, no_real, no_long))
        (subst (λ m. Within 262144 262143 (counted (slice_index longest_firsts f + slice_index (longest room l.sequence) k)) m) none near)

    reached : IsReached here (slice_index firsts g)
    reached =
        ⊎_elim
        (λ (lt : length all < g).
        let number : length real ≡ length all = shortened_count room longest_firsts 0 all in
        let none : slice_index firsts g ≡ 0 = ap (λ l. slice_index l g) are ∙ firsts_past n real g (omega (arith, lt, number)) in
        subst (λ m. IsReached here m) (sym none) (nowhere lt))
        (λ (le : g ≤ length all).
        subst (λ m. IsReached here m) (sym (real_first g le)) (⊎_elim (λ (lt : f < g). onward lt le) (λ (ge : g ≤ f). backward ge) (cases_lt f g)))
        (cases_lt (length all) g)

    jumps_there : IsJumpDistance (distance (slice_index firsts f + slice_index (shortened room longest_firsts f l).layout.offsets k) (slice_index firsts g))
    jumps_there =
        let low_f = f_low in
        let first : slice_index firsts f ≡ n + words_first real f = real_first f (omega (arith, low_f)) in
        let offset : slice_index (shortened room longest_firsts f l).layout.offsets k ≡ before k = layout.offsets k (omega (arith, within)) in
        let most : words_first real f ≤ 3 * pieces_in all = all_few room longest_firsts 0 all f long few in
        let own : before k ≤ 3 * length l.sequence.pieces = words_few reaches l.sequence.pieces k in
        let some = its_few in
        let both = reached in
        let back : here ≤ slice_index firsts g + 262144 = both.0 in
        let on : slice_index firsts g ≤ here + 262143 = both.1 in
        jump_distance (slice_index firsts f + slice_index (shortened room longest_firsts f l).layout.offsets k) (slice_index firsts g)
        (omega (arith, first, offset, most, own, some, low, few))
        (omega (arith, on, most, own, some, low, few))
        (omega (arith, first, offset, back))
        (omega (arith, first, offset, on))

-- In the smaller room each call reaches.
near_small : (firsts : List ℕ) (x : Reach) (n : ℕ) (p : Piece) → IsCallNear Small firsts x n p
near_small firsts x n (Word i) = tt
near_small firsts x n (Jump to) = tt
near_small firsts x n (Branch op l r to) = tt
near_small firsts x n (Call f) = λ short. tt

-- In the larger one what the longest layout lets have one word.
module _ (n : ℕ) (all : List LaidForm) (low : n ≤ 100) (count : length all ≤ 256) (long : AllByRecursion (IsLongest Large) all) (few : pieces_in all < most_pieces) (longest_firsts : List ℕ)
    (are_longest : longest_firsts ≡ firsts_from n all) (firsts : List ℕ) (are : firsts ≡ firsts_from n (all_shortened Large longest_firsts 0 all)) (f : ℕ) (l : LaidForm)
    (at : slice_get all f ≡ Some l) (there : slice_get (all_shortened Large longest_firsts 0 all) f ≡ Some (shortened Large longest_firsts f l)) (k : ℕ) (within : k < length l.sequence.pieces) where
  abbrev reach : Reach
  reach = get_or (shortened Large longest_firsts f l).layout.reaches k Near

  abbrev stands_at : ℕ
  stands_at = slice_index firsts f + slice_index (shortened Large longest_firsts f l).layout.offsets k

  abbrev far_from : ℕ
  far_from = counted (slice_index longest_firsts f + slice_index (longest Large l.sequence) k)

  by_test : (g : ℕ) (b : Bool) → is_within_jump far_from (slice_index longest_firsts g) ≡ b → (if b then Over else Far) ≢ Far → IsJumpDistance (distance stands_at (slice_index firsts g))
  by_test g true e short = jumps_there Large n all low count long few longest_firsts are_longest firsts are f l at there k within g (jump_form far_from (slice_index longest_firsts g) e)
  by_test g false e short = absurd (short refl)

  near_large : (p : Piece) → reach ≡ reach_of (seen Large longest_firsts f l) l.sequence.labels (slice_index l.layout.offsets k) p → IsCallNear Large firsts reach stands_at p
  near_large (Word i) e = tt
  near_large (Jump to) e = tt
  near_large (Branch op x y to) e = tt
  near_large (Call g) e = λ short.
      let from : counted (slice_index longest_firsts f + slice_index l.layout.offsets k) ≡ far_from =
      ap (λ o. counted (slice_index longest_firsts f + slice_index o k)) (offsets_longest Large l (long_there Large all f l long at)) in
      by_test g (is_within_jump far_from (slice_index longest_firsts g)) refl (λ far. short (e ∙ ap (λ a. jump_reach Large a (slice_index longest_firsts g)) from ∙ far))

-- So each call of the unit reaches.
pub calls_near : (room : Room) (n : ℕ) (all : List LaidForm) (longest_firsts firsts : List ℕ) → n ≤ 100 → length all ≤ 256 → AllByRecursion (IsLongest room) all → longest_firsts ≡ firsts_from n all
    → firsts ≡ firsts_from n (all_shortened room longest_firsts 0 all) → pieces_in (all_shortened room longest_firsts 0 all) < most_pieces → AreAllCallsNear room firsts (all_shortened room longest_firsts 0 all)
calls_near Small n all longest_firsts firsts low count long are_longest are few = λ f l at k x get. near_small firsts (get_or l.layout.reaches k Near) (slice_index firsts f + slice_index l.layout.offsets k) x.piece
calls_near Large n all longest_firsts firsts low count long are_longest are few = λ f l at k x get.
    let fewer : pieces_in all < most_pieces = subst (λ m. m < most_pieces) (shortened_pieces Large longest_firsts 0 all) few in
    let was = shortened_at Large longest_firsts 0 all f l (omega (arith, count)) at in
    let number : 0 + f ≡ f = omega arith in
    let same : shortened Large longest_firsts f was.0 ≡ l = ap (λ m. shortened Large longest_firsts m was.0) (sym number) ∙ was.2 in
    let there : slice_get (all_shortened Large longest_firsts 0 all) f ≡ Some (shortened Large longest_firsts f was.0) = at ∙ ap (λ y. Some y) (sym same) in
    let pieces : was.0.sequence.pieces ≡ l.sequence.pieces = ap (λ (y : LaidForm). y.sequence.pieces) same in
    let piece : slice_get was.0.sequence.pieces k ≡ Some x = ap (λ p. slice_get p k) pieces ∙ get in
    let within : k < length was.0.sequence.pieces = get_low was.0.sequence.pieces k x piece in
    let own = its_pieces all f was.0 was.1 in
    let zero_on : 0 + k ≡ k = omega arith in
    let is = reach_is (seen Large longest_firsts f was.0) was.0.sequence.labels was.0.sequence.pieces 0 k x (omega (arith, own, fewer)) piece
    ∙ ap (λ m. reach_of (seen Large longest_firsts f was.0) was.0.sequence.labels (slice_index was.0.layout.offsets m) x.piece) zero_on in
    subst (λ (y : LaidForm). IsCallNear Large firsts (get_or y.layout.reaches k Near) (slice_index firsts f + slice_index y.layout.offsets k) x.piece) same
    (near_large n all low count long fewer longest_firsts are_longest firsts are f was.0 was.1 there k within x.piece is)
