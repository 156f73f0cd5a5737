-- Static memory is laid out in chunks one behind the other: where each lies, and what stands there.
use Rattle.std.proofs.Common.{◌≡◌, ℕ, zero, suc, ◌+◌, ◌-◌, ◌%◌, ◌<◌, ◌≤◌, sym, ap, ◌∙◌, arith, refl, Some, List, [], ◌∷◌, ◌++◌, append_assoc, length, length-append, map, take, drop, slice_get}
use Rattle.std.specs.Prelude.{replicate, slice_index}
use Rattle.std.specs.List.{flat_map}
use Rattle.std.proofs.lemmas.List.{length-replicate}
use Rattle.rv_machine.specs.Table.{zeros}
use Rattle.graph_core.specs.Validity.{taken_by, total}
use Rattle.rv_emit_storage.specs.StaticAddresses.{addresses_from, padded}
pub use Rattle.base_laws.proofs.Lists.{front_only}

-- ---- Lists of bytes

pub in_front : (xs ys : List ℕ) (k : ℕ) → k < length xs → slice_index (xs ++ ys) k ≡ slice_index xs k
in_front [] ys k lt = absurd (omega (arith, lt))
in_front (x ∷ xs) ys zero lt = refl
in_front (x ∷ xs) ys (suc k) lt = in_front xs ys k (omega (arith, lt))

pub behind_front : (xs ys : List ℕ) (k : ℕ) → slice_index (xs ++ ys) (length xs + k) ≡ slice_index ys k
behind_front [] ys k = let here : 0 + k ≡ k = omega arith in ap (slice_index ys) here
behind_front (x ∷ xs) ys k = let here : length (x ∷ xs) + k ≡ suc (length xs + k) = omega arith in ap (slice_index ((x ∷ xs) ++ ys)) here ∙ behind_front xs ys k

pub rest_only : (n : ℕ) (xs : List ℕ) (k : ℕ) → slice_index (drop n xs) k ≡ slice_index xs (n + k)
rest_only zero xs k = let here : k ≡ 0 + k = omega arith in ap (slice_index xs) here
rest_only (suc n) [] k = refl
rest_only (suc n) (x ∷ xs) k = let here : suc (n + k) ≡ suc n + k = omega arith in rest_only n xs k ∙ ap (slice_index (x ∷ xs)) here

zeros_behind : (xs : List ℕ) (n k : ℕ) → slice_index (xs ++ replicate n 0) k ≡ slice_index xs k
zeros_behind [] n k = zero_at n k
  where
    zero_at : (m j : ℕ) → slice_index (replicate m 0) j ≡ 0
    zero_at zero j = refl
    zero_at (suc m) zero = refl
    zero_at (suc m) (suc j) = zero_at m j
zeros_behind (x ∷ xs) n zero = refl
zeros_behind (x ∷ xs) n (suc k) = zeros_behind xs n k

zeros_at : (n k : ℕ) → slice_index (zeros n) k ≡ 0
unfolding zeros
zeros_at n k = zeros_behind [] n k

pub with_zeros : (xs : List ℕ) (n k : ℕ) → slice_index (xs ++ zeros n) k ≡ slice_index xs k
with_zeros [] n k = zeros_at n k
with_zeros (x ∷ xs) n zero = refl
with_zeros (x ∷ xs) n (suc k) = with_zeros xs n k

-- Bytes that are filled up with zeros.
pub padded_at : (n : ℕ) (xs : List ℕ) (k : ℕ) → k < n → slice_index (padded n xs) k ≡ slice_index xs k
padded_at n xs k lt = front_only n (xs ++ replicate n 0) k lt ∙ zeros_behind xs n k

take_length : (n : ℕ) (xs : List ℕ) → n ≤ length xs → length (take n xs) ≡ n
take_length zero xs le = refl
take_length (suc n) [] le = absurd (omega (arith, le))
take_length (suc n) (x ∷ xs) le = let later = take_length n xs (omega (arith, le)) in omega (arith, later)

pub padded_length : (n : ℕ) (xs : List ℕ) → length (padded n xs) ≡ n
padded_length n xs = let both = length-append xs (replicate n 0) in let many = length-replicate {A = ℕ} n 0 in take_length n (xs ++ replicate n 0) (omega (arith, both, many))

-- ---- Chunks

abbrev pub joined : List (List ℕ) → List ℕ
joined chunks = flat_map (λ c. c) chunks

-- Each has as many bytes as what so many bytes take.
abbrev pub AreChunks : List (List ℕ) → List ℕ → Type 0
AreChunks [] [] = Unit {0}
AreChunks [] (s ∷ sizes) = ⊥
AreChunks (c ∷ chunks) [] = ⊥
AreChunks (c ∷ chunks) (s ∷ sizes) = (length c ≡ taken_by s) × AreChunks chunks sizes

-- Where a thing of this size lies, among things that lie from an address on.
pub record LiesAmong (start : ℕ) (sizes : List ℕ) (n s : ℕ) : Type 0 where
  pub aligned : start % 4 ≡ 0 → slice_index (addresses_from start sizes) n % 4 ≡ 0
  pub low : start ≤ slice_index (addresses_from start sizes) n
  pub high : slice_index (addresses_from start sizes) n + taken_by s ≤ start + total taken_by sizes

pub lies_among : (sizes : List ℕ) (start n s : ℕ) → slice_get sizes n ≡ Some s → LiesAmong start sizes n s
lies_among [] start n s e = cc
lies_among (x ∷ sizes) start zero s e =
    let same : x ≡ s = cc in
    let taken : taken_by x ≡ taken_by s = ap taken_by same in
    record { aligned = λ even. even; low = omega arith; high = omega (arith, taken) }
lies_among (x ∷ sizes) start (suc n) s e =
    let later : LiesAmong (start + taken_by x) sizes n s = lies_among sizes (start + taken_by x) n s e in
    let low = later.low in
    let high = later.high in
    record {
      aligned = λ even. later.aligned (omega (arith, even));
      low = omega (arith, low);
      high = omega (arith, high);
    }

pub lies_before : (sizes : List ℕ) (start m n s : ℕ) → m < n → slice_get sizes m ≡ Some s → n < length sizes → slice_index (addresses_from start sizes) m + taken_by s ≤ slice_index (addresses_from start sizes) n
lies_before [] start m n s lt e within = cc
lies_before (x ∷ sizes) start m zero s lt e within = absurd (omega (arith, lt))
lies_before (x ∷ sizes) start zero (suc n) s lt e within =
    let same : x ≡ s = cc in
    let taken : taken_by x ≡ taken_by s = ap taken_by same in
    let low = least sizes (start + taken_by x) n (omega (arith, within)) in
    omega (arith, taken, low)
  where
    least : (all : List ℕ) (from k : ℕ) → k < length all → from ≤ slice_index (addresses_from from all) k
    least [] from k below = absurd (omega (arith, below))
    least (y ∷ all) from zero below = omega arith
    least (y ∷ all) from (suc k) below = let later = least all (from + taken_by y) k (omega (arith, below)) in omega (arith, later)
lies_before (x ∷ sizes) start (suc m) (suc n) s lt e within = lies_before sizes (start + taken_by x) m n s (omega (arith, lt)) e (omega (arith, within))

-- What stands there.
pub chunk_at : (chunks : List (List ℕ)) (sizes : List ℕ) (start n : ℕ) (c : List ℕ) → AreChunks chunks sizes → slice_get chunks n ≡ Some c → (k j : ℕ) → k < length c → start + j ≡ slice_index (addresses_from start sizes) n + k → slice_index (joined chunks) j ≡ slice_index c k
chunk_at [] sizes start n c are e k j lt at = cc
chunk_at (x ∷ chunks) [] start n c are e k j lt at = absurd are
chunk_at (x ∷ chunks) (s ∷ sizes) start zero c are e k j lt at =
    let same : x ≡ c = cc in
    let here : j ≡ k = omega (arith, at) in
    let many : length x ≡ length c = ap (λ (l : List ℕ). length l) same in
    ap (slice_index (x ++ joined chunks)) here ∙ in_front x (joined chunks) k (omega (arith, many, lt)) ∙ ap (λ l. slice_index l k) same
chunk_at (x ∷ chunks) (s ∷ sizes) start (suc n) c are e k j lt at =
    let many = are.0 in
    let low = least sizes (start + taken_by s) n (within chunks sizes n c are.1 e) in
    let here : j ≡ length x + (j - taken_by s) = omega (arith, many, low, at) in
    let there : start + taken_by s + (j - taken_by s) ≡ slice_index (addresses_from (start + taken_by s) sizes) n + k = omega (arith, low, at) in
    ap (slice_index (x ++ joined chunks)) here ∙ behind_front x (joined chunks) (j - taken_by s) ∙ chunk_at chunks sizes (start + taken_by s) n c are.1 e k (j - taken_by s) lt there
  where
    within : (cs : List (List ℕ)) (ss : List ℕ) (m : ℕ) (d : List ℕ) → AreChunks cs ss → slice_get cs m ≡ Some d → m < length ss
    within [] ss m d are found = cc
    within (y ∷ cs) [] m d are found = absurd are
    within (y ∷ cs) (t ∷ ss) zero d are found = omega arith
    within (y ∷ cs) (t ∷ ss) (suc m) d are found = let later = within cs ss m d are.1 found in omega (arith, later)

    least : (all : List ℕ) (from i : ℕ) → i < length all → from ≤ slice_index (addresses_from from all) i
    least [] from i below = absurd (omega (arith, below))
    least (y ∷ all) from zero below = omega arith
    least (y ∷ all) from (suc i) below = let later = least all (from + taken_by y) i (omega (arith, below)) in omega (arith, later)

-- ---- Two kinds of them

pub joined_both : (xs ys : List (List ℕ)) → joined (xs ++ ys) ≡ joined xs ++ joined ys
joined_both [] ys = refl
joined_both (x ∷ xs) ys = ap (λ l. x ++ l) (joined_both xs ys) ∙ sym (append_assoc x (joined xs) (joined ys))

pub joined_mapped : {A : Type 0} (f : A → List ℕ) (xs : List A) → flat_map f xs ≡ joined (map f xs)
joined_mapped f [] = refl
joined_mapped f (x ∷ xs) = ap (λ l. f x ++ l) (joined_mapped f xs)

pub chunks_both : (xs ys : List (List ℕ)) (ss ts : List ℕ) → AreChunks xs ss → AreChunks ys ts → AreChunks (xs ++ ys) (ss ++ ts)
chunks_both [] ys [] ts a b = b
chunks_both [] ys (s ∷ ss) ts a b = absurd a
chunks_both (x ∷ xs) ys [] ts a b = absurd a
chunks_both (x ∷ xs) ys (s ∷ ss) ts a b = (a.0, chunks_both xs ys ss ts a.1 b)

pub chunks_mapped : {A : Type 0} (f : A → List ℕ) (size : A → ℕ) → ((x : A) → length (f x) ≡ taken_by (size x)) → (xs : List A) → AreChunks (map f xs) (map size xs)
chunks_mapped f size each [] = tt
chunks_mapped f size each (x ∷ xs) = (each x, chunks_mapped f size each xs)

total_mapped : {B : Type 0} (g : B → ℕ) (ys : List B) → total taken_by (map g ys) ≡ total (λ y. taken_by (g y)) ys
total_mapped g [] = refl
total_mapped g (y ∷ ys) = let later = total_mapped g ys in omega (arith, later)

pub total_both : {A B : Type 0} (f : A → ℕ) (g : B → ℕ) (xs : List A) (ys : List B) → total taken_by (map f xs ++ map g ys) ≡ total (λ x. taken_by (f x)) xs + total (λ y. taken_by (g y)) ys
total_both f g [] ys = let all = total_mapped g ys in omega (arith, all)
total_both f g (x ∷ xs) ys = let later = total_both f g xs ys in omega (arith, later)
