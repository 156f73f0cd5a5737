-- Bytes with zeros behind them.
use Rattle.std.proofs.Common.{◌≡◌, ℕ, zero, suc, ◌+◌, ◌-◌, ◌<◌, List, [], ◌∷◌, ◌++◌, length, take, replicate, get_or, refl, sym, ap, ◌∙◌, arith}
use Rattle.std.specs.List.{AllByRecursion}
use Rattle.rv_emit_storage.specs.StaticAddresses.{padded}

-- so many bytes, one by one
abbrev pub pad : (count : ℕ) → List ℕ → List ℕ
pad zero xs = []
pad (suc n) [] = 0 ∷ pad n []
pad (suc n) (x ∷ xs) = x ∷ pad n xs

pad_none : (n : ℕ) → pad n [] ≡ replicate n 0
pad_none zero = refl
pad_none (suc n) = ap (λ l. 0 ∷ l) (pad_none n)

take_zeros : (n k : ℕ) → take n (replicate (n + k) 0) ≡ pad n []
take_zeros zero k = refl
take_zeros (suc n) k =
    let more : suc n + k ≡ suc (n + k) = omega arith in
    ap (λ m. take (suc n) (replicate m 0)) more ∙ ap (λ l. 0 ∷ l) (take_zeros n k)

take_padded : (n k : ℕ) (xs : List ℕ) → take n (xs ++ replicate (n + k) 0) ≡ pad n xs
take_padded zero k xs = refl
take_padded (suc n) k [] = take_zeros (suc n) k
take_padded (suc n) k (x ∷ xs) =
    let more : suc n + k ≡ n + (k + 1) = omega arith in
    ap (λ l. x ∷ l) (ap (λ m. take n (xs ++ replicate m 0)) more ∙ take_padded n (k + 1) xs)

pub padded_is : (n : ℕ) (xs : List ℕ) → padded n xs ≡ pad n xs
padded_is n xs = (let same : n ≡ n + 0 = omega arith in ap (λ m. take n (xs ++ replicate m 0)) same ∙ take_padded n 0 xs)

pub pad_length : (n : ℕ) (xs : List ℕ) → length (pad n xs) ≡ n
pad_length zero xs = refl
pad_length (suc n) [] = let rest = pad_length n [] in omega (arith, rest)
pad_length (suc n) (x ∷ xs) = let rest = pad_length n xs in omega (arith, rest)

pub padded_length : (n : ℕ) (xs : List ℕ) → length (padded n xs) ≡ n
padded_length n xs = ap (λ l. length l) (padded_is n xs) ∙ pad_length n xs

-- A first part is padded as the first part with zeros behind it.
take_none : (k : ℕ) → take {A = ℕ} k [] ≡ []
take_none zero = refl
take_none (suc k) = refl

pad_both : (n m : ℕ) (xs : List ℕ) → pad n (take m xs) ≡ pad n (pad m xs)
pad_both zero m xs = refl
pad_both (suc n) zero xs = refl
pad_both (suc n) (suc m) [] = ap (λ l. 0 ∷ l) (ap (pad n) (sym (take_none m)) ∙ pad_both n m [])
pad_both (suc n) (suc m) (x ∷ xs) = ap (λ l. x ∷ l) (pad_both n m xs)

pub padded_both : (n m : ℕ) (xs : List ℕ) → padded n (take m xs) ≡ padded n (padded m xs)
padded_both n m xs = padded_is n (take m xs) ∙ pad_both n m xs ∙ ap (pad n) (sym (padded_is m xs)) ∙ sym (padded_is n (padded m xs))

-- Zeros stand behind all.
pub pad_behind : (xs : List ℕ) (k : ℕ) → pad (length xs + k) xs ≡ xs ++ pad k []
pad_behind [] k = (let same : length {A = ℕ} [] + k ≡ k = omega arith in ap (λ m. pad m []) same)
pad_behind (x ∷ xs) k = (let more : length (x ∷ xs) + k ≡ suc (length xs + k) = omega arith in ap (λ m. pad m (x ∷ xs)) more ∙ ap (λ l. x ∷ l) (pad_behind xs k))

-- The first bytes, and zeros behind them.
zeros_behind : (n : ℕ) (xs : List ℕ) → take n xs ++ replicate (n - length (take n xs)) 0 ≡ pad n xs
zeros_behind zero xs = refl
zeros_behind (suc n) [] = (let all : suc n - length (take {A = ℕ} (suc n) []) ≡ suc n = omega arith in ap (λ m. replicate m 0) all ∙ sym (pad_none (suc n)))
zeros_behind (suc n) (x ∷ xs) =
    let less : suc n - length (take (suc n) (x ∷ xs)) ≡ n - length (take n xs) = omega arith in
    ap (λ m. x ∷ take n xs ++ replicate m 0) less ∙ ap (λ l. x ∷ l) (zeros_behind n xs)

pub first_padded : (n k : ℕ) (xs : List ℕ) → k ≡ n - length (take n xs) → take n xs ++ replicate k 0 ≡ padded n xs
first_padded n k xs e = ap (λ m. take n xs ++ replicate m 0) e ∙ zeros_behind n xs ∙ sym (padded_is n xs)

-- Numbers of a list that are bytes one by one are bytes.
pub all_bytes : (xs : List ℕ) → ((i d : ℕ) → i < length xs → get_or xs i d < 256) → AllByRecursion (λ x. x < 256) xs
all_bytes [] each = tt
all_bytes (x ∷ xs) each = (each 0 0 (omega arith), all_bytes xs (λ i d lt. each (suc i) d (omega (arith, lt))))
