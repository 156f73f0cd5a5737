-- A layout in which each piece has as few words as the longest layout of its unit allows: where pieces stand in it, and that what has one word is near enough.
use Rattle.std.proofs.Common.{◌≡◌, ◌≢◌, ℕ, zero, suc, ◌+◌, ◌-◌, ◌*◌, ◌%◌, ◌<◌, ◌≤◌, inl, inr, ⊎_elim, if◌then◌else◌, Bool, true, false, Some, List, [], ◌∷◌, length, slice_get, slice_index, get_or, drop, refl, sym, ap, ◌∙◌, subst, arith}
use Rattle.std.proofs.lemmas.Bool.{cases_lt}
use Rattle.std.proofs.lemmas.List.{drop-drop, get_or-drop, get_or_past, length-append, length-map}
use Rattle.memory_map.specs.declared.map.Room.{Room}
use Rattle.memory_map.specs.declared.map.Room.TheVariants.{Small, Large}
use Rattle.rv_code.specs.declared.instruction.Instruction.{Instruction}
use Rattle.rv_code.specs.declared.instruction.Instruction.TheVariants as branch
use Rattle.rv_code.specs.InForm.{IsBranchDistance, IsJumpDistance}
use Rattle.rv_emit_words.specs.declared.piece.Piece.{Piece}
use Rattle.rv_emit_words.specs.declared.piece.Piece.TheVariants.{Word, Jump, Branch, Call}
use Rattle.rv_emit_words.specs.declared.piece.PlacedPiece.{PlacedPiece}
use Rattle.rv_emit_code.specs.Ends.{opposite}
use Rattle.rv_emit_sequence.specs.Sequences.{SequenceForm, counted}
use Rattle.rv_emit_layout.specs.declared.reaching.Reach.{Reach}
use Rattle.rv_emit_layout.specs.declared.reaching.Reach.TheVariants.{Near, Over, Far}
use Rattle.rv_emit_layout.specs.Reaches.{branch_width, farthest, is_near, is_within_jump, jump_reach, jump_width, width}
use Rattle.rv_emit_layout.specs.Layouts.{LayoutForm, LongestForm, Lying, branch_code, distance, function_words, jump_code, label_at, layout_of, lying, most_pieces, offsets_from, owned_words, piece_code, reach_of, reaches_from, words_before, words_from, IsJumpNear, IsLayoutOf, IsNearEnough}
use Rattle.rv_emit_layout.specs.Longest.{long_before, longest}
use Rattle.rv_emit_layout.specs.Spelling.{spelled}
use Rattle.rv_emit_layout.proofs.LongestLayout.{jump_form, longest_at, longest_count, near_form, words_longest, AreWithin, Within}

-- ---- How many words

jump_few : (x : Reach) → jump_width x ≤ 2
jump_few Near = omega arith
jump_few Over = omega arith
jump_few Far = omega arith

branch_few : (x : Reach) → branch_width x ≤ 3
branch_few Near = omega arith
branch_few Over = omega arith
branch_few Far = omega arith

pub jump_one : (x : Reach) → 1 ≤ jump_width x
jump_one Near = omega arith
jump_one Over = omega arith
jump_one Far = omega arith

branch_one : (x : Reach) → 1 ≤ branch_width x
branch_one Near = omega arith
branch_one Over = omega arith
branch_one Far = omega arith

pub width_few : (x : Reach) (p : Piece) → width x p ≤ 3
width_few x (Word i) = omega arith
width_few x (Jump to) = omega (arith, jump_few x)
width_few x (Branch op l r to) = branch_few x
width_few x (Call f) = omega (arith, jump_few x)

-- A piece has a word.
pub width_some : (x : Reach) (p : Piece) → 1 ≤ width x p
width_some x (Word i) = omega arith
width_some x (Jump to) = jump_one x
width_some x (Branch op l r to) = branch_one x
width_some x (Call f) = jump_one x

pub words_few : (reaches : List Reach) (pieces : List PlacedPiece) (k : ℕ) → words_before reaches pieces k ≤ 3 * length pieces
words_few reaches [] k = omega arith
words_few reaches (p ∷ more) zero = omega arith
words_few reaches (p ∷ more) (suc k) = omega (arith, width_few (get_or reaches 0 Near) p.piece, words_few (drop 1 reaches) more k)

-- More pieces have no fewer words.
pub words_more : (reaches : List Reach) (pieces : List PlacedPiece) (i j : ℕ) → i ≤ j → words_before reaches pieces i ≤ words_before reaches pieces j
words_more reaches [] i j le = omega arith
words_more reaches (p ∷ more) zero j le = omega arith
words_more reaches (p ∷ more) (suc i) zero le = absurd (omega (arith, le))
words_more reaches (p ∷ more) (suc i) (suc j) le = omega (arith, words_more (drop 1 reaches) more i j (omega (arith, le)))

-- Behind a piece that has a word there are more words before than before it.
pub words_past : (reaches : List Reach) (pieces : List PlacedPiece) (i j : ℕ) → i < j → j ≤ length pieces → words_before reaches pieces i + 1 ≤ words_before reaches pieces j
words_past reaches [] i j lt le = absurd (omega (arith, lt, le))
words_past reaches (p ∷ more) i zero lt le = absurd (omega (arith, lt))
words_past reaches (p ∷ more) zero (suc j) lt le = omega (arith, width_some (get_or reaches 0 Near) p.piece)
words_past reaches (p ∷ more) (suc i) (suc j) lt le = omega (arith, words_past (drop 1 reaches) more i j (omega (arith, lt)) (omega (arith, le)))

pub none_before : (reaches : List Reach) (pieces : List PlacedPiece) → words_before reaches pieces 0 ≡ 0
none_before reaches [] = refl
none_before reaches (p ∷ more) = refl

-- ---- Offsets

pub reach_first : (reaches : List Reach) (i : ℕ) → get_or (drop i reaches) 0 Near ≡ get_or reaches i Near
reach_first reaches i = get_or-drop i reaches 0 Near ∙ (let e : i + 0 ≡ i = omega arith in ap (λ k. get_or reaches k Near) e)

offset_is : (reaches : List Reach) (pieces : List PlacedPiece) (i n k : ℕ) → i + length pieces ≤ 4294967295 → n + 3 * length pieces ≤ 4294967295 → k ≤ length pieces
    → slice_index (offsets_from reaches i n pieces) k ≡ n + words_before (drop i reaches) pieces k
offset_is reaches [] i n zero a b le = omega arith
offset_is reaches [] i n (suc k) a b le = absurd (omega (arith, le))
offset_is reaches (p ∷ more) i n zero a b le = omega arith
offset_is reaches (p ∷ more) i n (suc k) a b le =
    let next : counted (i + 1) ≡ i + 1 = omega (arith, a) in
    let few : width (get_or reaches i Near) p.piece ≤ 3 = width_few (get_or reaches i Near) p.piece in
    let sum : counted (n + width (get_or reaches i Near) p.piece) ≡ n + width (get_or reaches i Near) p.piece = omega (arith, b, few) in
    let later : slice_index (offsets_from reaches (counted (i + 1)) (counted (n + width (get_or reaches i Near) p.piece)) more) k ≡ counted (n + width (get_or reaches i Near) p.piece) + words_before (drop (counted (i + 1)) reaches) more k =
    offset_is reaches more (counted (i + 1)) (counted (n + width (get_or reaches i Near) p.piece)) k (omega (arith, a, next)) (omega (arith, b, few, sum)) (omega (arith, le)) in
    let rest : words_before (drop (counted (i + 1)) reaches) more k ≡ words_before (drop 1 (drop i reaches)) more k = ap (λ l. words_before l more k) (ap (λ m. drop m reaches) next ∙ sym (drop-drop 1 i reaches)) in
    let here : width (get_or (drop i reaches) 0 Near) p.piece ≡ width (get_or reaches i Near) p.piece = ap (λ r. width r p.piece) (reach_first reaches i) in
    omega (arith, later, rest, here, sum)

-- From the beginning on.
offset_at : (reaches : List Reach) (pieces : List PlacedPiece) (k : ℕ) → length pieces ≤ most_pieces → k ≤ length pieces → slice_index (offsets_from reaches 0 0 pieces) k ≡ words_before reaches pieces k
offset_at reaches pieces k few le = offset_is reaches pieces 0 0 k (omega (arith, few)) (omega (arith, few)) le ∙ (omega arith)

offset_count : (reaches : List Reach) (pieces : List PlacedPiece) (i n : ℕ) → length (offsets_from reaches i n pieces) ≡ length pieces + 1
offset_count reaches [] i n = omega arith
offset_count reaches (p ∷ more) i n = omega (arith, offset_count reaches more (counted (i + 1)) (counted (n + width (get_or reaches i Near) p.piece)))

-- ---- Words

jump_count : (x : Reach) (r q d : ℕ) → length (jump_code x r q d) ≡ jump_width x
jump_count Near r q d = refl
jump_count Over r q d = refl
jump_count Far r q d = refl

branch_count : (x : Reach) (b o : ℕ → Instruction) (d : ℕ) → length (branch_code x b o d) ≡ branch_width x
branch_count Near b o d = refl
branch_count Over b o d = refl
branch_count Far b o d = refl

piece_count : (t : Lying) (x : Reach) (from : ℕ) (p : Piece) → length (piece_code t x from p) ≡ width x p
piece_count t x from (Word i) = refl
piece_count t x from (Jump to) = jump_count x 0 5 (distance from (label_at t.labels t.offsets to.0))
piece_count t x from (Branch op l r to) = branch_count x (λ d. branch.Branch op l r d) (λ d. branch.Branch (opposite op) l r d) (distance from (label_at t.labels t.offsets to.0))
piece_count t x from (Call f) = jump_count x 1 1 (distance ((t.first + from) % 4294967296) (slice_index t.functions f))

owned_count : (owner : ℕ) (code : List Instruction) → length (owned_words owner code) ≡ length code
owned_count owner code = length-map code (λ i. record { word = spelled i; owner = owner })

-- Pieces become as many words as they have.
words_count : (t : Lying) (reaches : List Reach) (i : ℕ) (pieces : List PlacedPiece) → i + length pieces ≤ 4294967295 → length (words_from t reaches i pieces) ≡ words_before (drop i reaches) pieces (length pieces)
words_count t reaches i [] fits = refl
words_count t reaches i (p ∷ more) fits =
    let next : counted (i + 1) ≡ i + 1 = omega (arith, fits) in
    let code = piece_code t (get_or reaches i Near) (slice_index t.offsets i) p.piece in
    let here : length (owned_words p.owner code) ≡ width (get_or reaches i Near) p.piece = owned_count p.owner code ∙ piece_count t (get_or reaches i Near) (slice_index t.offsets i) p.piece in
    let first : width (get_or (drop i reaches) 0 Near) p.piece ≡ width (get_or reaches i Near) p.piece = ap (λ r. width r p.piece) (reach_first reaches i) in
    let later : length (words_from t reaches (counted (i + 1)) more) ≡ words_before (drop (counted (i + 1)) reaches) more (length more) = words_count t reaches (counted (i + 1)) more (omega (arith, fits, next)) in
    let rest : words_before (drop (counted (i + 1)) reaches) more (length more) ≡ words_before (drop 1 (drop i reaches)) more (length more) = ap (λ l. words_before l more (length more)) (ap (λ m. drop m reaches) next ∙ sym (drop-drop 1 i reaches)) in
    let both : length (words_from t reaches i (p ∷ more)) ≡ length (owned_words p.owner code) + length (words_from t reaches (counted (i + 1)) more) = length-append (owned_words p.owner code) (words_from t reaches (counted (i + 1)) more) in
    omega (arith, both, here, first, later, rest)

-- So does a function.
pub function_count : (s : SequenceForm) (l : LayoutForm) (first : ℕ) (functions : List ℕ) → length s.pieces ≤ most_pieces → length (function_words s l first functions) ≡ words_before l.reaches s.pieces (length s.pieces)
function_count s l first functions few =
    words_count (lying s l first functions) l.reaches 0 s.pieces (omega (arith, few)) ∙ ap (λ r. words_before r s.pieces (length s.pieces)) (none_dropped l.reaches)
  where
    none_dropped : (reaches : List Reach) → drop 0 reaches ≡ reaches
    none_dropped [] = refl
    none_dropped (x ∷ more) = refl

-- ---- How pieces reach

reach_count : (m : LongestForm) (labels : List ℕ) (pieces : List PlacedPiece) (i : ℕ) → length (reaches_from m labels i pieces) ≡ length pieces
reach_count m labels [] i = refl
reach_count m labels (p ∷ more) i = omega (arith, reach_count m labels more (counted (i + 1)))

pub reach_is : (m : LongestForm) (labels : List ℕ) (pieces : List PlacedPiece) (i k : ℕ) (x : PlacedPiece) → i + length pieces ≤ 4294967295 → slice_get pieces k ≡ Some x
    → get_or (reaches_from m labels i pieces) k Near ≡ reach_of m labels (slice_index m.offsets (i + k)) x.piece
reach_is m labels [] i k x fits e = cc
reach_is m labels (p ∷ more) i zero x fits e =
    let same : p ≡ x = cc in
    let here : i ≡ i + 0 = omega arith in
    ap (λ (y : PlacedPiece). reach_of m labels (slice_index m.offsets i) y.piece) same ∙ ap (λ n. reach_of m labels (slice_index m.offsets n) x.piece) here
reach_is m labels (p ∷ more) i (suc k) x fits e =
    let next : counted (i + 1) + k ≡ i + suc k = omega (arith, fits) in
    reach_is m labels more (counted (i + 1)) k x (omega (arith, fits)) e ∙ ap (λ n. reach_of m labels (slice_index m.offsets n) x.piece) next

-- A jump that the longest layout lets have one word has two words else, and in the smaller room always one.
jump_within : (room : Room) (i j : ℕ) → jump_width (jump_reach room i j) ≤ jump_width (farthest room)
jump_within Small i j = omega arith
jump_within Large i j = go (is_within_jump i j)
  where
    go : (b : Bool) → jump_width (if b then Over else Far) ≤ 2
    go true = omega arith
    go false = omega arith

branch_within : (room : Room) (b : Bool) (i j : ℕ) → branch_width (if b then Near else jump_reach room i j) ≤ branch_width (farthest room)
branch_within Small true i j = omega arith
branch_within Small false i j = omega arith
branch_within Large true i j = omega arith
branch_within Large false i j = go (is_within_jump i j)
  where
    go : (b : Bool) → branch_width (if b then Over else Far) ≤ 3
    go true = omega arith
    go false = omega arith

reach_within : (m : LongestForm) (labels : List ℕ) (from : ℕ) (p : Piece) → width (reach_of m labels from p) p ≤ width (farthest m.room) p
reach_within m labels from (Word i) = omega arith
reach_within m labels from (Jump to) = jump_within m.room from (label_at labels m.offsets to.0)
reach_within m labels from (Branch op l r to) = branch_within m.room (is_near from (label_at labels m.offsets to.0)) (counted (from + 1)) (label_at labels m.offsets to.0)
reach_within m labels from (Call f) = jump_within m.room (counted (m.first + from)) (slice_index m.firsts f)

pub reaches_within : (m : LongestForm) (s : SequenceForm) → length s.pieces ≤ most_pieces → AreWithin m.room (reaches_from m s.labels 0 s.pieces) s.pieces
reaches_within m s few = λ k x at. subst (λ r. width r x.piece ≤ width (farthest m.room) x.piece) (sym (reach_is m s.labels s.pieces 0 k x (omega (arith, few)) at)) (reach_within m s.labels (slice_index m.offsets (0 + k)) x.piece)

-- ---- Distances

pub forward : (a b : ℕ) → a ≤ b → b ≤ 1000000000 → distance a b ≡ 4 * b - 4 * a
forward a b le fits = omega (arith, le, fits)

pub backward : (a b : ℕ) → b < a → a ≤ 1000000000 → distance a b ≡ 4294967296 - (4 * a - 4 * b)
backward a b lt fits = omega (arith, lt, fits)

-- Over -4,096 to 4,092 bytes a branch leads alone.
near_distance : (a b : ℕ) → a ≤ 1000000000 → b ≤ 1000000000 → a ≤ b + 1024 → b ≤ a + 1023 → IsBranchDistance (distance a b)
near_distance a b fits fits' back on =
    ⊎_elim
    (λ (lt : b < a).
    let is : distance a b ≡ 4294967296 - (4 * a - 4 * b) = backward a b lt fits in
    (omega (arith, is, lt, fits), inr (omega (arith, is, back, lt, fits), omega (arith, is, lt, fits))))
    (λ (ge : a ≤ b). let is : distance a b ≡ 4 * b - 4 * a = forward a b ge fits' in (omega (arith, is, ge), inl (omega (arith, is, on, ge))))
    (cases_lt b a)

-- Over -1,048,576 to 1,048,572 bytes a jump of one word does.
pub jump_distance : (a b : ℕ) → a ≤ 1000000000 → b ≤ 1000000000 → a ≤ b + 262144 → b ≤ a + 262143 → IsJumpDistance (distance a b)
jump_distance a b fits fits' back on =
    ⊎_elim
    (λ (lt : b < a).
    let is : distance a b ≡ 4294967296 - (4 * a - 4 * b) = backward a b lt fits in
    (omega (arith, is, lt, fits), inr (omega (arith, is, back, lt, fits), omega (arith, is, lt, fits))))
    (λ (ge : a ≤ b). let is : distance a b ≡ 4 * b - 4 * a = forward a b ge fits' in (omega (arith, is, ge), inl (omega (arith, is, on, ge))))
    (cases_lt b a)

-- ---- All of it

pub get_low : (pieces : List PlacedPiece) (k : ℕ) (x : PlacedPiece) → slice_get pieces k ≡ Some x → k < length pieces
get_low [] k x e = cc
get_low (p ∷ more) zero x e = omega arith
get_low (p ∷ more) (suc k) x e = omega (arith, get_low more k x e)

-- Where a piece stands in the longest layout, if 32 bits could count that.
stands : (room : Room) (s : SequenceForm) (k : ℕ) → k ≤ length s.pieces → slice_index (longest room s) k < 4294967295 → slice_index (longest room s) k ≡ long_before room s k
stands room s k le low = let is : slice_index (longest room s) k ≡ counted (long_before room s k) = longest_at room s k le in omega (arith, is, low)

-- In each layout that is no longer, what is apart so much in the longest layout is no further apart. The step is the one word by which a branch's jump stands behind the branch, or none.
pub apart_in_any : (room : Room) (s : SequenceForm) (reaches : List Reach) (m n step k l : ℕ) → AreWithin room reaches s.pieces → length s.pieces ≤ most_pieces → k < length s.pieces → l ≤ length s.pieces → step ≤ 1
    → Within m n (counted (slice_index (longest room s) k + step)) (slice_index (longest room s) l) → 1 ≤ m
    → (words_before reaches s.pieces k + step ≤ words_before reaches s.pieces l + m) × (words_before reaches s.pieces l ≤ words_before reaches s.pieces k + step + n)
apart_in_any room s reaches m n step k l all few low low' one near some =
    let f : counted (slice_index (longest room s) k + step) < 4294967295 = near.from in
    let here : slice_index (longest room s) k ≡ long_before room s k = stands room s k (omega (arith, low)) (omega (arith, f)) in
    let there : slice_index (longest room s) l ≡ long_before room s l = stands room s l low' near.to in
    ⊎_elim
    (λ (lt : l < k).
    let less = words_longest room reaches s l k all (omega (arith, lt)) in
    let more = words_more reaches s.pieces l k (omega (arith, lt)) in
    (omega (arith, less, near.back, here, there, f), omega (arith, more)))
    (λ (ge : k ≤ l).
    let less = words_longest room reaches s k l all ge in
    let more = words_more reaches s.pieces k l ge in
    (omega (arith, more, one, some), omega (arith, less, near.on, here, there, f)))
    (cases_lt l k)

-- So it is of the beginning of the function.
apart_first : (room : Room) (s : SequenceForm) (reaches : List Reach) (m n step k : ℕ) → AreWithin room reaches s.pieces → k < length s.pieces → step ≤ 1
    → Within m n (counted (slice_index (longest room s) k + step)) 0 → words_before reaches s.pieces k + step ≤ m
apart_first room s reaches m n step k all low one near =
    let f : counted (slice_index (longest room s) k + step) < 4294967295 = near.from in
    let here : slice_index (longest room s) k ≡ long_before room s k = stands room s k (omega (arith, low)) (omega (arith, f)) in
    let less = words_longest room reaches s 0 k all (omega arith) in
    omega (arith, less, near.back, here, none_before reaches s.pieces, f)

-- A label stands at a piece, at the end, or at the beginning where there is none.
pub apart : (room : Room) (s : SequenceForm) (reaches : List Reach) (m n step k l : ℕ) → AreWithin room reaches s.pieces → length s.pieces ≤ most_pieces → k < length s.pieces → step ≤ 1
    → Within m n (counted (slice_index (longest room s) k + step)) (slice_index (longest room s) l) → 1 ≤ m
    → (slice_index (offsets_from reaches 0 0 s.pieces) k + step ≤ slice_index (offsets_from reaches 0 0 s.pieces) l + m)
    × (slice_index (offsets_from reaches 0 0 s.pieces) l ≤ slice_index (offsets_from reaches 0 0 s.pieces) k + step + n)
    × (slice_index (offsets_from reaches 0 0 s.pieces) k + step ≤ 1000000000)
    × (slice_index (offsets_from reaches 0 0 s.pieces) l ≤ 1000000000)
apart room s reaches m n step k l all few low one near some =
    let short : slice_index (offsets_from reaches 0 0 s.pieces) k ≡ words_before reaches s.pieces k = offset_at reaches s.pieces k few (omega (arith, low)) in
    let fits = words_few reaches s.pieces k in
    ⊎_elim
    (λ (within : l < length s.pieces + 1).
    let at : slice_index (offsets_from reaches 0 0 s.pieces) l ≡ words_before reaches s.pieces l = offset_at reaches s.pieces l few (omega (arith, within)) in
    let both = apart_in_any room s reaches m n step k l all few low (omega (arith, within)) one near some in
    let most = words_few reaches s.pieces l in
    (omega (arith, short, at, both.0), omega (arith, short, at, both.1), omega (arith, short, fits, few, one), omega (arith, at, most, few)))
    (λ (past : length s.pieces + 1 ≤ l).
    let none : slice_index (offsets_from reaches 0 0 s.pieces) l ≡ 0 = get_or_past (offsets_from reaches 0 0 s.pieces) l 0 (let n : length (offsets_from reaches 0 0 s.pieces) ≡ length s.pieces + 1 = offset_count reaches s.pieces 0 0 in omega (arith, n, past)) in
    let none' : slice_index (longest room s) l ≡ 0 = get_or_past (longest room s) l 0 (let n : length (longest room s) ≡ length s.pieces + 1 = longest_count room s in omega (arith, n, past)) in
    let first = apart_first room s reaches m n step k all low one (subst (λ e. Within m n (counted (slice_index (longest room s) k + step)) e) none' near) in
    (omega (arith, short, none, first), omega (arith, none), omega (arith, short, fits, few, one), omega (arith, none)))
    (cases_lt l (length s.pieces + 1))

-- A jump of one word that the longest layout allows is near enough in any other.
jump_near : (room : Room) (s : SequenceForm) (reaches : List Reach) (step k l : ℕ) → AreWithin room reaches s.pieces → length s.pieces ≤ most_pieces → k < length s.pieces → step ≤ 1
    → jump_reach room (counted (slice_index (longest room s) k + step)) (slice_index (longest room s) l) ≢ Far
    → IsJumpNear room (distance (slice_index (offsets_from reaches 0 0 s.pieces) k + step) (slice_index (offsets_from reaches 0 0 s.pieces) l))
jump_near Small s reaches step k l all few low one short = tt
jump_near Large s reaches step k l all few low one short = go (is_within_jump (counted (slice_index (longest Large s) k + step)) (slice_index (longest Large s) l)) refl short
  where
    go : (b : Bool) → is_within_jump (counted (slice_index (longest Large s) k + step)) (slice_index (longest Large s) l) ≡ b → (if b then Over else Far) ≢ Far
        → IsJumpDistance (distance (slice_index (offsets_from reaches 0 0 s.pieces) k + step) (slice_index (offsets_from reaches 0 0 s.pieces) l))
    go true e short =
        let near = apart Large s reaches 262144 262143 step k l all few low one (jump_form (counted (slice_index (longest Large s) k + step)) (slice_index (longest Large s) l) e) (omega arith) in
        jump_distance (slice_index (offsets_from reaches 0 0 s.pieces) k + step) (slice_index (offsets_from reaches 0 0 s.pieces) l) near.2 near.3 near.0 near.1
    go false e short = absurd (short refl)

-- A branch alone is too.
branch_near : (room : Room) (s : SequenceForm) (reaches : List Reach) (k l : ℕ) → AreWithin room reaches s.pieces → length s.pieces ≤ most_pieces → k < length s.pieces
    → is_near (slice_index (longest room s) k) (slice_index (longest room s) l) ≡ true
    → IsBranchDistance (distance (slice_index (offsets_from reaches 0 0 s.pieces) k) (slice_index (offsets_from reaches 0 0 s.pieces) l))
branch_near room s reaches k l all few low test =
    let form : Within 1024 1023 (slice_index (longest room s) k) (slice_index (longest room s) l) = near_form (slice_index (longest room s) k) (slice_index (longest room s) l) test in
    let f : slice_index (longest room s) k < 4294967295 = form.from in
    let same : slice_index (longest room s) k ≡ counted (slice_index (longest room s) k + 0) = omega (arith, f) in
    let near = apart room s reaches 1024 1023 0 k l all few low (omega arith) (subst (λ a. Within 1024 1023 a (slice_index (longest room s) l)) same form) (omega arith) in
    near_distance (slice_index (offsets_from reaches 0 0 s.pieces) k) (slice_index (offsets_from reaches 0 0 s.pieces) l) (omega (arith, near.2)) near.3 (omega (arith, near.0)) (omega (arith, near.1))

-- How a branch reaches tells what it leads over.
branch_alone : (b : Bool) (r : Reach) → r ≢ Near → (if b then Near else r) ≡ Near → b ≡ true
branch_alone true r other e = refl
branch_alone false r other e = absurd (other e)

jump_never : (room : Room) (i j : ℕ) → jump_reach room i j ≢ Near
jump_never Small i j = λ e. cc
jump_never Large i j = go (is_within_jump i j)
  where
    go : (b : Bool) → (if b then Over else Far) ≢ Near
    go true = λ e. cc
    go false = λ e. cc

branch_over : (b : Bool) (r : Reach) → (if b then Near else r) ≡ Over → r ≢ Far
branch_over true r e = cc
branch_over false r e = λ far. (let two : Far ≡ Over = sym far ∙ e in cc)

piece_near : (m : LongestForm) (s : SequenceForm) (reaches : List Reach) (k : ℕ) (x : Piece) → m.offsets ≡ longest m.room s → AreWithin m.room reaches s.pieces → length s.pieces ≤ most_pieces → k < length s.pieces
    → (reach : Reach) → reach ≡ reach_of m s.labels (slice_index m.offsets k) x
    → IsNearEnough m.room s.labels (offsets_from reaches 0 0 s.pieces) reach (slice_index (offsets_from reaches 0 0 s.pieces) k) x
piece_near m s reaches k (Word i) is all few low reach e = tt
piece_near m s reaches k (Jump to) is all few low reach e = λ short.
    let at = longest_at m.room s k (omega (arith, low)) in
    let here : counted (slice_index (longest m.room s) k + 0) ≡ slice_index (longest m.room s) k = omega (arith, at) in
    let same : counted (slice_index (longest m.room s) k + 0) ≡ slice_index m.offsets k = here ∙ ap (λ o. slice_index o k) (sym is) in
    let there : slice_index (longest m.room s) (slice_index s.labels to.0) ≡ label_at s.labels m.offsets to.0 = ap (λ o. slice_index o (slice_index s.labels to.0)) (sym is) in
    let zero_on : slice_index (offsets_from reaches 0 0 s.pieces) k + 0 ≡ slice_index (offsets_from reaches 0 0 s.pieces) k = omega arith in
    subst (λ n. IsJumpNear m.room (distance n (label_at s.labels (offsets_from reaches 0 0 s.pieces) to.0))) zero_on
    (jump_near m.room s reaches 0 k (slice_index s.labels to.0) all few low (omega arith)
    (λ far. short (e ∙ ap (λ i. jump_reach m.room i (label_at s.labels m.offsets to.0)) (sym same) ∙ ap (λ j. jump_reach m.room (counted (slice_index (longest m.room s) k + 0)) j) (sym there) ∙ far)))
piece_near m s reaches k (Branch op l r to) is all few low reach e = (
  (λ alone. branch_near m.room s reaches k (slice_index s.labels to.0) all few low
      (subst (λ o. is_near (slice_index o k) (slice_index o (slice_index s.labels to.0)) ≡ true) is
      (branch_alone (is_near (slice_index m.offsets k) (label_at s.labels m.offsets to.0)) (jump_reach m.room (counted (slice_index m.offsets k + 1)) (label_at s.labels m.offsets to.0))
      (jump_never m.room (counted (slice_index m.offsets k + 1)) (label_at s.labels m.offsets to.0)) (sym e ∙ alone)))),
  (λ over. jump_near m.room s reaches 1 k (slice_index s.labels to.0) all few low (omega arith)
      (subst (λ o. jump_reach m.room (counted (slice_index o k + 1)) (slice_index o (slice_index s.labels to.0)) ≢ Far) is
      (branch_over (is_near (slice_index m.offsets k) (label_at s.labels m.offsets to.0)) (jump_reach m.room (counted (slice_index m.offsets k + 1)) (label_at s.labels m.offsets to.0)) (sym e ∙ over)))),
)
piece_near m s reaches k (Call f) is all few low reach e = tt

-- So the layout is one.
pub layout_is : (m : LongestForm) (s : SequenceForm) (l : LayoutForm) → l ≡ layout_of m s → m.offsets ≡ longest m.room s → length s.pieces ≤ most_pieces → IsLayoutOf m.room s l
layout_is m s l e is few = subst (λ o. IsLayoutOf m.room s o) (sym e) (record {
  count = offset_count (reaches_from m s.labels 0 s.pieces) s.pieces 0 0;
  flags = flags;
  offsets = λ k le. offset_at (reaches_from m s.labels 0 s.pieces) s.pieces k few le;
  words = ap (λ n. slice_index (offsets_from (reaches_from m s.labels 0 s.pieces) 0 0 s.pieces) n) (let n : counted (length (reaches_from m s.labels 0 s.pieces)) ≡ length s.pieces = omega (arith, flags, few) in n) ∙ offset_at (reaches_from m s.labels 0 s.pieces) s.pieces (length s.pieces) few (omega arith);
  widths = reaches_within m s few;
  near = λ k x at. piece_near m s (reaches_from m s.labels 0 s.pieces) k x.piece is (reaches_within m s few) few (get_low s.pieces k x at) (get_or (reaches_from m s.labels 0 s.pieces) k Near)
      (reach_is m s.labels s.pieces 0 k x (omega (arith, few)) at ∙ (let n : 0 + k ≡ k = omega arith in ap (λ n. reach_of m s.labels (slice_index m.offsets n) x.piece) n));
})
  where
    flags : length (reaches_from m s.labels 0 s.pieces) ≡ length s.pieces
    flags = reach_count m s.labels s.pieces 0
