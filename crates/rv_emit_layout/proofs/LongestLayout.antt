-- The longest layout: where its pieces stand, step by step, and that no layout has more words between two of them.
use Rattle.std.proofs.Common.{◌≡◌, ℕ, zero, suc, ◌+◌, ◌-◌, ◌*◌, ◌<◌, ◌≤◌, ◌≢◌, ⊎_elim, ◌==◌, eqb, ◌&&◌, nat_lt, nat_le, max, cond, Bool, true, false, Some, List, [], ◌∷◌, ◌++◌, length, map, replicate, take, drop, slice_get, slice_index, slice_set, get_or, count_by, refl, sym, ap, ◌∙◌, subst, arith}
use Rattle.std.proofs.lemmas.Bool.{and_parts, leb-true, ltb-true, cases_lt}
use Rattle.std.proofs.lemmas.List.{get_or-drop}
use Rattle.std.proofs.lemmas.Bool.Decides.{eqb_tells, nat_tests}
use Rattle.std.proofs.lemmas.List.FromFn.{get_or-map-range_with_len, length-map-range_with_len, map-range_with_len_more}
use Rattle.std.proofs.lemmas.List.Sums.{sum_by-cons}
use Rattle.std.specs.List.{range_with_len}
use Rattle.std.specs.Option.{option_map_or}
use Rattle.rv_emit_words.specs.declared.piece.Piece.{Piece}
use Rattle.rv_emit_words.specs.declared.piece.Piece.TheVariants.{Word, Jump, Branch, Call}
use Rattle.rv_emit_words.specs.declared.piece.PlacedPiece.{PlacedPiece}
use Rattle.memory_map.specs.declared.map.Room.{Room}
use Rattle.memory_map.specs.declared.map.Room.TheVariants.{Small, Large}
use Rattle.graph_core.specs.Validity.{total}
use Rattle.rv_emit_sequence.specs.Sequences.{SequenceForm, counted}
use Rattle.rv_emit_layout.specs.declared.reaching.Reach.{Reach}
use Rattle.rv_emit_layout.specs.declared.reaching.Reach.TheVariants.{Near}
use Rattle.rv_emit_layout.specs.Reaches.{farthest, is_near, is_within_jump, jump_width, width}
use Rattle.rv_emit_layout.specs.Layouts.{words_before}
use Rattle.rv_emit_layout.specs.Longest.{dropped_at, dropped_until, has_word_at, has_word_before, is_dropped, long_before, longest, longest_words}

-- ---- Counts

count_cons : {A : Type 0} (p : A → Bool) (x : A) (xs : List A) → count_by p (x ∷ xs) ≡ cond (p x) 1 0 + count_by p xs
count_cons p x xs = sum_by-cons (λ y. cond (p y) 1 0) x xs

-- One more is counted where the next one passes.
count_step : {A : Type 0} (p : A → Bool) (xs : List A) (k : ℕ) → count_by p (take (suc k) xs) ≡ count_by p (take k xs) + cond (option_map_or p (slice_get xs k) false) 1 0
count_step p [] zero = refl
count_step p [] (suc k) = refl
count_step p (x ∷ xs) zero = count_cons p x (take 0 xs) ∙ (let none : count_by p (take 0 xs) ≡ 0 = count_none p xs in omega (arith, none))
  where
    count_none : {A : Type 0} (p : A → Bool) (xs : List A) → count_by p (take 0 xs) ≡ 0
    count_none p [] = refl
    count_none p (x ∷ xs) = refl
count_step p (x ∷ xs) (suc k) =
    let here : count_by p (take (suc (suc k)) (x ∷ xs)) ≡ cond (p x) 1 0 + count_by p (take (suc k) xs) = count_cons p x (take (suc k) xs) in
    let before : count_by p (take (suc k) (x ∷ xs)) ≡ cond (p x) 1 0 + count_by p (take k xs) = count_cons p x (take k xs) in
    let later : count_by p (take (suc k) xs) ≡ count_by p (take k xs) + cond (option_map_or p (slice_get xs k) false) 1 0 = count_step p xs k in
    omega (arith, here, before, later)

-- More are counted of more.
count_more : {A : Type 0} (p : A → Bool) (xs : List A) (i j : ℕ) → i ≤ j → count_by p (take i xs) ≤ count_by p (take j xs)
count_more p xs i zero le = let same : i ≡ 0 = omega (arith, le) in rw same (omega arith)
count_more p xs i (suc j) le =
    ⊎_elim
    (λ (lt : i < suc j). let before = count_more p xs i j (omega (arith, lt)) in omega (arith, before, count_step p xs j))
    (λ (ge : suc j ≤ i). let same : i ≡ suc j = omega (arith, le, ge) in rw same (omega arith))
    (cases_lt i (suc j))

-- Those up to a number are those up to the one before and those of the number itself.
part_step : (d : Bool) (e k : ℕ) → cond (d && nat_le e (suc k)) 1 0 ≡ cond (d && nat_le e k) 1 0 + cond (d && e == suc k) 1 0
part_step false e k = refl
part_step true e k = grind (arith, nat_tests)

part_start : (d : Bool) (e : ℕ) → ◌≡◌ {A = ℕ} (cond (d && nat_le e 0) 1 0) (cond (d && e == 0) 1 0)
part_start false e = refl
part_start true e = grind (arith, nat_tests)

-- The same of all blocks.
dropped_step : (d : ℕ → Bool) (e : ℕ → ℕ) (k : ℕ) (bs : List ℕ)
    → count_by (λ b. d b && nat_le (e b) (suc k)) bs ≡ count_by (λ b. d b && nat_le (e b) k) bs + count_by (λ b. d b && e b == suc k) bs
dropped_step d e k [] = refl
dropped_step d e k (b ∷ bs) = omega (
  arith,
  count_cons (λ c. d c && nat_le (e c) (suc k)) b bs,
  count_cons (λ c. d c && nat_le (e c) k) b bs,
  count_cons (λ c. d c && e c == suc k) b bs,
  part_step (d b) (e b) k,
  dropped_step d e k bs,
)

dropped_start : (d : ℕ → Bool) (e : ℕ → ℕ) (bs : List ℕ) → count_by (λ b. d b && nat_le (e b) 0) bs ≡ count_by (λ b. d b && e b == 0) bs
dropped_start d e [] = refl
dropped_start d e (b ∷ bs) = omega (
  arith,
  count_cons (λ c. d c && nat_le (e c) 0) b bs,
  count_cons (λ c. d c && e c == 0) b bs,
  part_start (d b) (e b),
  dropped_start d e bs,
)

dropped_more : (s : SequenceForm) (i j : ℕ) → i ≤ j → dropped_until s i ≤ dropped_until s j
dropped_more s i zero le = let same : i ≡ 0 = omega (arith, le) in rw same (omega arith)
dropped_more s i (suc j) le =
    ⊎_elim
    (λ (lt : i < suc j).
    let before = dropped_more s i j (omega (arith, lt)) in
    omega (arith, before, dropped_step (is_dropped s) (λ b. slice_index s.ends b) j (range_with_len 0 (length s.ends))))
    (λ (ge : suc j ≤ i). let same : i ≡ suc j = omega (arith, le, ge) in rw same (omega arith))
    (cases_lt i (suc j))

-- One block more is counted where it passes.
count_next : (p : ℕ → Bool) (a n j : ℕ) → a + n ≡ j → count_by p (range_with_len a (suc n)) ≡ count_by p (range_with_len a n) + cond (p j) 1 0
count_next p a zero j e =
    let same : a ≡ j = omega (arith, e) in
    let here : count_by p (a ∷ []) ≡ cond (p a) 1 0 + 0 = count_cons p a [] in
    let there : ◌≡◌ {A = ℕ} (cond (p a) 1 0) (cond (p j) 1 0) = ap (λ k. cond (p k) 1 0) same in
    omega (arith, here, there)
count_next p a (suc n) j e =
    let here : count_by p (range_with_len a (suc (suc n))) ≡ cond (p a) 1 0 + count_by p (range_with_len (a + 1) (suc n)) = count_cons p a (range_with_len (a + 1) (suc n)) in
    let before : count_by p (range_with_len a (suc n)) ≡ cond (p a) 1 0 + count_by p (range_with_len (a + 1) n) = count_cons p a (range_with_len (a + 1) n) in
    let later : count_by p (range_with_len (a + 1) (suc n)) ≡ count_by p (range_with_len (a + 1) n) + cond (p j) 1 0 = count_next p (a + 1) n j (omega (arith, e)) in
    omega (arith, here, before, later)

-- A number is set.
put_here : (xs : List ℕ) (k v : ℕ) → k < length xs → slice_index (slice_set xs k v) k ≡ v
put_here [] k v lt = absurd (omega (arith, lt))
put_here (x ∷ xs) zero v lt = refl
put_here (x ∷ xs) (suc k) v lt = put_here xs k v (omega (arith, lt))

put_else : (xs : List ℕ) (e k v : ℕ) → e ≢ k → slice_index (slice_set xs e v) k ≡ slice_index xs k
put_else [] e k v apart = refl
put_else (x ∷ xs) zero zero v apart = absurd (apart refl)
put_else (x ∷ xs) zero (suc k) v apart = refl
put_else (x ∷ xs) (suc e) zero v apart = refl
put_else (x ∷ xs) (suc e) (suc k) v apart = put_else xs e k v (λ same. apart (ap (λ n. suc n) same))

put_length : (xs : List ℕ) (e v : ℕ) → length (slice_set xs e v) ≡ length xs
put_length [] e v = refl
put_length (x ∷ xs) zero v = refl
put_length (x ∷ xs) (suc e) v = ap (λ n. suc n) (put_length xs e v)

-- Before any block none is counted.
pub none_length : (n : ℕ) → length {A = ℕ} (replicate n 0 ++ 0 ∷ []) ≡ n + 1
none_length zero = omega arith
none_length (suc n) = omega (arith, none_length n)

pub none_at : (n k : ℕ) → slice_index (replicate n 0 ++ 0 ∷ []) k ≡ 0
none_at zero zero = refl
none_at zero (suc k) = refl
none_at (suc n) zero = refl
none_at (suc n) (suc k) = none_at n k

-- One is added to the number at an index, if it is to be.
pub added_length : (d : Bool) (xs ys : List ℕ) (e v : ℕ) → ys ≡ cond d (slice_set xs e v) xs → length ys ≡ length xs
added_length true xs ys e v is = ap (λ l. length l) is ∙ put_length xs e v
added_length false xs ys e v is = ap (λ l. length l) is

added_at : (d : Bool) (xs ys : List ℕ) (e k m : ℕ) → ys ≡ cond d (slice_set xs e (counted (slice_index xs e + 1))) xs → k < length xs → slice_index xs k ≡ counted m
    → slice_index ys k ≡ counted (m + cond (d && e == k) 1 0)
added_at false xs ys e k m is within before = let none : counted m ≡ counted (m + 0) = omega arith in ap (λ l. slice_index l k) is ∙ before ∙ none
added_at true xs ys e k m is within before =
    ⊎_elim
    (λ (same : (eqb e k ≡ true) × (e ≡ k)).
    let put : slice_index ys k ≡ counted (slice_index xs e + 1) =
    ap (λ l. slice_index l k) is ∙ subst (λ n. slice_index (slice_set xs n (counted (slice_index xs e + 1))) k ≡ counted (slice_index xs e + 1)) (sym same.1) (put_here xs k (counted (slice_index xs e + 1)) within) in
    let old : slice_index xs e ≡ counted m = ap (λ n. slice_index xs n) same.1 ∙ before in
    let one : ◌≡◌ {A = ℕ} (cond (e == k) 1 0) 1 = ap (λ b. cond b 1 0) same.0 in
    omega (arith, put, old, one))
    (λ (apart : (eqb e k ≡ false) × (e ≢ k)).
    let kept : slice_index ys k ≡ slice_index xs k = ap (λ l. slice_index l k) is ∙ put_else xs e k (counted (slice_index xs e + 1)) apart.1 in
    let none : ◌≡◌ {A = ℕ} (cond (e == k) 1 0) 0 = ap (λ b. cond b 1 0) apart.0 in
    omega (arith, kept, before, none))
    (eqb_tells e k)

-- So one block more is counted at where it ends, if its jump was dropped.
pub added_jump : (d : ℕ → Bool) (ends : ℕ → ℕ) (xs ys : List ℕ) (b k : ℕ) → ys ≡ cond (d b) (slice_set xs (ends b) (counted (slice_index xs (ends b) + 1))) xs → k < length xs
    → slice_index xs k ≡ counted (count_by (λ c. d c && ends c == k) (range_with_len 0 b)) → slice_index ys k ≡ counted (count_by (λ c. d c && ends c == k) (range_with_len 0 (b + 1)))
added_jump d ends xs ys b k is within before =
    let next : count_by (λ c. d c && ends c == k) (range_with_len 0 (suc b)) ≡ count_by (λ c. d c && ends c == k) (range_with_len 0 b) + cond (d b && ends b == k) 1 0 = count_next (λ c. d c && ends c == k) 0 b b (omega arith) in
    let same : suc b ≡ b + 1 = omega arith in
    added_at (d b) xs ys (ends b) k (count_by (λ c. d c && ends c == k) (range_with_len 0 b)) is within before
    ∙ ap (λ n. counted n) (sym next) ∙ ap (λ n. counted (count_by (λ c. d c && ends c == k) (range_with_len 0 n))) same

-- ---- Where pieces stand

words_none : (room : Room) (pieces : List PlacedPiece) → longest_words room (take 0 pieces) ≡ 0
words_none room [] = refl
words_none room (q ∷ pieces) = refl

words_step : (room : Room) (pieces : List PlacedPiece) (k : ℕ) (x : PlacedPiece) → slice_get pieces k ≡ Some x
    → longest_words room (take (suc k) pieces) ≡ longest_words room (take k pieces) + width (farthest room) x.piece
words_step room [] k x e = cc
words_step room (p ∷ more) zero x e = (let same : width (farthest room) p.piece ≡ width (farthest room) x.piece = (let is : p ≡ x = cc in ap (λ (y : PlacedPiece). width (farthest room) y.piece) is) in omega (arith, same, words_none room more))
words_step room (p ∷ more) (suc k) x e = omega (arith, words_step room more k x e)

count_none_yet : (pieces : List PlacedPiece) → count_by has_word_before (take 0 pieces) ≡ 0
count_none_yet [] = refl
count_none_yet (q ∷ pieces) = refl

-- The first piece stands behind what is counted right before it.
pub long_start : (room : Room) (s : SequenceForm) → long_before room s 0 ≡ jump_width (farthest room) * dropped_at s 0 + cond (has_word_at s.pieces 0) 1 0
long_start Small s = omega (arith, words_none Small s.pieces, count_step has_word_before s.pieces 0, count_none_yet s.pieces, dropped_start (is_dropped s) (λ b. slice_index s.ends b) (range_with_len 0 (length s.ends)))
long_start Large s = omega (arith, words_none Large s.pieces, count_step has_word_before s.pieces 0, count_none_yet s.pieces, dropped_start (is_dropped s) (λ b. slice_index s.ends b) (range_with_len 0 (length s.ends)))

-- Each other one stands behind the one before at its longest, and what is counted right before it.
pub long_step : (room : Room) (s : SequenceForm) (k : ℕ) (x : PlacedPiece) → slice_get s.pieces k ≡ Some x
    → long_before room s (suc k) ≡ long_before room s k + (width (farthest room) x.piece + (jump_width (farthest room) * dropped_at s (suc k) + cond (has_word_at s.pieces (suc k)) 1 0))
long_step Small s k x e = omega (
  arith,
  words_step Small s.pieces k x e,
  count_step has_word_before s.pieces (suc k),
  dropped_step (is_dropped s) (λ b. slice_index s.ends b) k (range_with_len 0 (length s.ends)),
)
long_step Large s k x e = omega (
  arith,
  words_step Large s.pieces k x e,
  count_step has_word_before s.pieces (suc k),
  dropped_step (is_dropped s) (λ b. slice_index s.ends b) k (range_with_len 0 (length s.ends)),
)

-- So words are counted: up to a piece by what is counted right before it, and up to the next one behind that by its own.
pub starts_at : (room : Room) (s : SequenceForm) → counted (0 + (jump_width (farthest room) * dropped_at s 0 + cond (has_word_at s.pieces 0) 1 0)) ≡ counted (long_before room s 0)
starts_at Small s = omega (arith, long_start Small s)
starts_at Large s = omega (arith, long_start Large s)

pub stands_at : (room : Room) (s : SequenceForm) (words more k : ℕ) (pieces : List PlacedPiece) (dropped items : List ℕ) → pieces ≡ s.pieces → dropped ≡ items
    → slice_index items k ≡ counted (dropped_at s k) → more ≡ counted (jump_width (farthest room) * slice_index dropped k + cond (has_word_at pieces k) 1 0)
    → counted (words + (jump_width (farthest room) * dropped_at s k + cond (has_word_at s.pieces k) 1 0)) ≡ counted (long_before room s k) → counted (words + more) ≡ counted (long_before room s k)
stands_at room s words more k pieces dropped items these those jumps is before =
    let dropped_here : slice_index dropped k ≡ counted (dropped_at s k) = ap (λ l. slice_index l k) those ∙ jumps in
    let word_here : ◌≡◌ {A = ℕ} (cond (has_word_at pieces k) 1 0) (cond (has_word_at s.pieces k) 1 0) = ap (λ l. cond (has_word_at l k) 1 0) these in
    go room is before dropped_here word_here
  where
    go : (r : Room) → more ≡ counted (jump_width (farthest r) * slice_index dropped k + cond (has_word_at pieces k) 1 0)
        → counted (words + (jump_width (farthest r) * dropped_at s k + cond (has_word_at s.pieces k) 1 0)) ≡ counted (long_before r s k)
        → slice_index dropped k ≡ counted (dropped_at s k) → ◌≡◌ {A = ℕ} (cond (has_word_at pieces k) 1 0) (cond (has_word_at s.pieces k) 1 0) → counted (words + more) ≡ counted (long_before r s k)
    go Small is before dropped_here word_here = omega (arith, dropped_here, word_here, is, before)
    go Large is before dropped_here word_here = omega (arith, dropped_here, word_here, is, before)

pub goes_on : (room : Room) (s : SequenceForm) (here words k : ℕ) (x : PlacedPiece) → slice_get s.pieces k ≡ Some x → here ≡ counted (long_before room s k) → words ≡ counted (here + width (farthest room) x.piece)
    → counted (words + (jump_width (farthest room) * dropped_at s (k + 1) + cond (has_word_at s.pieces (k + 1)) 1 0)) ≡ counted (long_before room s (k + 1))
goes_on room s here words k x e before is =
    let same : suc k ≡ k + 1 = omega arith in
    subst (λ n. counted (words + (jump_width (farthest room) * dropped_at s n + cond (has_word_at s.pieces n) 1 0)) ≡ counted (long_before room s n)) same (go room before is)
  where
    go : (r : Room) → here ≡ counted (long_before r s k) → words ≡ counted (here + width (farthest r) x.piece)
        → counted (words + (jump_width (farthest r) * dropped_at s (suc k) + cond (has_word_at s.pieces (suc k)) 1 0)) ≡ counted (long_before r s (suc k))
    go Small before is = omega (arith, long_step Small s k x e, before, is)
    go Large before is = omega (arith, long_step Large s k x e, before, is)

pub offsets_grow : (room : Room) (s : SequenceForm) (k here : ℕ) (old new : List ℕ) → new ≡ old ++ here ∷ [] → old ≡ map (λ n. counted (long_before room s n)) (range_with_len 0 k)
    → here ≡ counted (long_before room s k) → new ≡ map (λ n. counted (long_before room s n)) (range_with_len 0 (k + 1))
offsets_grow room s k here old new is before stands =
    is ∙ ap (λ l. l ++ here ∷ []) before ∙ ap (λ n. map (λ m. counted (long_before room s m)) (range_with_len 0 k) ++ n ∷ []) stands
    ∙ sym (map-range_with_len_more (λ m. counted (long_before room s m)) 0 k k (omega arith))

-- What the list of them has.
pub longest_at : (room : Room) (s : SequenceForm) (k : ℕ) → k ≤ length s.pieces → slice_index (longest room s) k ≡ counted (long_before room s k)
longest_at room s k le = get_or-map-range_with_len (λ n. counted (long_before room s n)) 0 (length s.pieces + 1) k k 0 (omega (arith, le)) (omega arith)

pub longest_count : (room : Room) (s : SequenceForm) → length (longest room s) ≡ length s.pieces + 1
longest_count room s = length-map-range_with_len (λ n. counted (long_before room s n)) 0 (length s.pieces + 1)

-- ---- No layout is longer

-- Each piece has at most as many words as pieces have in the room.
abbrev pub AreWithin : Room → List Reach → List PlacedPiece → Type 0
AreWithin room reaches pieces = (k : ℕ) (x : PlacedPiece) → slice_get pieces k ≡ Some x → width (get_or reaches k Near) x.piece ≤ width (farthest room) x.piece

pub within_rest : (room : Room) (reaches : List Reach) (p : PlacedPiece) (more : List PlacedPiece) → AreWithin room reaches (p ∷ more) → AreWithin room (drop 1 reaches) more
within_rest room reaches p more all = λ k x at. let next : 1 + k ≡ suc k = omega arith in subst (λ r. width r x.piece ≤ width (farthest room) x.piece) (ap (λ n. get_or reaches n Near) (sym next) ∙ sym (get_or-drop 1 reaches k Near)) (all (suc k) x at)

-- Between two pieces there are no more than the most that those between have.
words_most : (room : Room) (reaches : List Reach) (pieces : List PlacedPiece) (i j : ℕ) → AreWithin room reaches pieces → i ≤ j
    → words_before reaches pieces j + longest_words room (take i pieces) ≤ longest_words room (take j pieces) + words_before reaches pieces i
words_most room reaches [] zero zero all le = omega arith
words_most room reaches [] zero (suc j) all le = omega arith
words_most room reaches [] (suc i) zero all le = omega arith
words_most room reaches [] (suc i) (suc j) all le = omega arith
words_most room reaches (p ∷ more) zero zero all le = omega arith
words_most room reaches (p ∷ more) zero (suc j) all le =
    let later = words_most room (drop 1 reaches) more 0 j (within_rest room reaches p more all) (omega arith) in
    omega (arith, all 0 p refl, later, none_before (drop 1 reaches) more, words_none room more)
  where
    none_before : (reaches : List Reach) (pieces : List PlacedPiece) → words_before reaches pieces 0 ≡ 0
    none_before reaches [] = refl
    none_before reaches (q ∷ pieces) = refl
words_most room reaches (p ∷ more) (suc i) zero all le = absurd (omega (arith, le))
words_most room reaches (p ∷ more) (suc i) (suc j) all le = omega (arith, words_most room (drop 1 reaches) more i j (within_rest room reaches p more all) (omega (arith, le)))

-- So between two pieces no layout has more words than the longest one.
pub words_longest : (room : Room) (reaches : List Reach) (s : SequenceForm) (i j : ℕ) → AreWithin room reaches s.pieces → i ≤ j
    → words_before reaches s.pieces j + long_before room s i ≤ long_before room s j + words_before reaches s.pieces i
words_longest Small reaches s i j all le = omega (
  arith,
  words_most Small reaches s.pieces i j all le,
  count_more has_word_before s.pieces (suc i) (suc j) (omega (arith, le)),
  dropped_more s i j le,
)
words_longest Large reaches s i j all le = omega (
  arith,
  words_most Large reaches s.pieces i j all le,
  count_more has_word_before s.pieces (suc i) (suc j) (omega (arith, le)),
  dropped_more s i j le,
)

-- ---- What is near

-- What is within so many words back and so many on is so on either side, and could be counted.
pub record Within (back_most on_most a b : ℕ) : Type 0 where
  pub back : a ≤ b + back_most
  pub on : b ≤ a + on_most
  pub from : a < 4294967295
  pub to : b < 4294967295

within_form : (m n a b : ℕ) → (nat_le (a - b) m && nat_le (b - a) n && nat_lt (max a b) 4294967295) ≡ true → Within m n a b
within_form m n a b e =
    let sides : (nat_le (a - b) m && nat_le (b - a) n ≡ true) × (nat_lt (max a b) 4294967295 ≡ true) = and_parts (nat_le (a - b) m && nat_le (b - a) n) (nat_lt (max a b) 4294967295) e in
    let both : (nat_le (a - b) m ≡ true) × (nat_le (b - a) n ≡ true) = and_parts (nat_le (a - b) m) (nat_le (b - a) n) sides.0 in
    let back : a - b ≤ m = leb-true (a - b) m both.0 in
    let on : b - a ≤ n = leb-true (b - a) n both.1 in
    let most : max a b < 4294967295 = ltb-true (max a b) 4294967295 sides.1 in
    record {
      back = omega (arith, back);
      on = omega (arith, on);
      from = omega (arith, most);
      to = omega (arith, most);
    }

pub near_form : (a b : ℕ) → is_near a b ≡ true → Within 1024 1023 a b
near_form a b e = within_form 1024 1023 a b e

pub jump_form : (a b : ℕ) → is_within_jump a b ≡ true → Within 262144 262143 a b
jump_form a b e = within_form 262144 262143 a b e
