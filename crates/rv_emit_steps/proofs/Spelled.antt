-- The number that an array's bytes spell for an element is what these bytes in memory spell.
use Rattle.std.proofs.Common.{◌≡◌, ℕ, zero, suc, ◌+◌, ◌*◌, ◌<◌, sym, ap, ◌∙◌, arith, refl, List, [], ◌∷◌, length, take, drop, slice_get, Some}
use Rattle.std.specs.Prelude.{slice_index}
use Rattle.graph_core.specs.declared.value.Value.{Value}
use Rattle.graph_core.specs.declared.instruction.Element.{Element}
use Rattle.graph_core.specs.Memory.{spelled, element_in, elements_from}

-- Bytes from an index on; behind them all is zero.
pub spelled_1 : (xs : List ℕ) (k : ℕ) → spelled (take 1 (drop k xs)) ≡ slice_index xs k
spelled_1 [] zero = refl
spelled_1 [] (suc k) = refl
spelled_1 (x ∷ xs) zero = omega arith
spelled_1 (x ∷ xs) (suc k) = spelled_1 xs k

first_of : (xs : List ℕ) (n : ℕ) → spelled (take (suc n) xs) ≡ slice_index xs 0 + 256 * spelled (take n (drop 1 xs))
first_of [] zero = refl
first_of [] (suc n) = refl
first_of (x ∷ xs) n = refl

next_of : (xs : List ℕ) (k n : ℕ) → spelled (take (suc n) (drop k xs)) ≡ slice_index xs k + 256 * spelled (take n (drop (suc k) xs))
next_of xs zero n = first_of xs n
next_of [] (suc k) zero = refl
next_of [] (suc k) (suc n) = refl
next_of (x ∷ xs) (suc k) n = next_of xs k n

pub spelled_2 : (xs : List ℕ) (k : ℕ) → spelled (take 2 (drop k xs)) ≡ slice_index xs k + slice_index xs (k + 1) * 256
spelled_2 xs k =
    let a = next_of xs k 1 in
    let b = spelled_1 xs (suc k) in
    let e1 : slice_index xs (suc k) ≡ slice_index xs (k + 1) = ap (slice_index xs) (omega arith) in
    omega (arith, a, b, e1)

pub spelled_4 : (xs : List ℕ) (k : ℕ) → spelled (take 4 (drop k xs)) ≡ slice_index xs k + slice_index xs (k + 1) * 256 + slice_index xs (k + 2) * 65536 + slice_index xs (k + 3) * 16777216
spelled_4 xs k =
    let a = next_of xs k 3 in
    let b = next_of xs (suc k) 2 in
    let c = next_of xs (suc (suc k)) 1 in
    let d = spelled_1 xs (suc (suc (suc k))) in
    let e1 : slice_index xs (suc k) ≡ slice_index xs (k + 1) = ap (slice_index xs) (omega arith) in
    let e2 : slice_index xs (suc (suc k)) ≡ slice_index xs (k + 2) = ap (slice_index xs) (omega arith) in
    let e3 : slice_index xs (suc (suc (suc k))) ≡ slice_index xs (k + 3) = ap (slice_index xs) (omega arith) in
    omega (arith, a, b, c, d, e1, e2, e3)

-- The elements that bytes hold.
pub elements_length : (bytes : List ℕ) (e : Element) (i count : ℕ) → length (elements_from bytes e i count) ≡ count
elements_length bytes e i zero = refl
elements_length bytes e i (suc n) = ap (λ k. suc k) (elements_length bytes e (i + 1) n)

pub elements_have : (bytes : List ℕ) (e : Element) (i count j : ℕ) (v : Value) → slice_get (elements_from bytes e i count) j ≡ Some v → (j < count) × (v ≡ element_in bytes e (i + j))
elements_have bytes e i zero j v found = cc
elements_have bytes e i (suc n) zero v found =
    let same : element_in bytes e i ≡ v = cc in
    let here : i ≡ i + 0 = omega arith in
    (omega arith, sym same ∙ ap (element_in bytes e) here)
elements_have bytes e i (suc n) (suc j) v found =
    let rest = elements_have bytes e (i + 1) n j v found in
    let next : i + 1 + j ≡ i + suc j = omega arith in
    (omega (arith, rest.0), rest.1 ∙ ap (element_in bytes e) next)
