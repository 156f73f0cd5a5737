-- Where names start.
use Rattle.std.proofs.Common.{◌≡◌, ℕ, zero, suc, ◌+◌, ◌<◌, List, [], ◌∷◌, length, map, sum, take, get_or, ap, refl, ◌∙◌, arith}
use Rattle.std.proofs.lemmas.List.{length-map, take-map}
use Rattle.std.proofs.lemmas.List.Sums.{sum_by-cons}
use Rattle.stop_engine_tables.specs.Tables.{starts_from}

pub starts-length : (first : ℕ) (lengths : List ℕ) → length (starts_from first lengths) ≡ length lengths
starts-length first [] = refl
starts-length first (n ∷ lengths) = ap suc (starts-length (first + n) lengths)

-- a name starts behind those in front of it
pub starts-at : (first : ℕ) (lengths : List ℕ) (k d : ℕ) → k < length lengths → get_or (starts_from first lengths) k d ≡ first + sum (take k lengths)
starts-at first [] k d lt = absurd (omega (arith, lt))
starts-at first (n ∷ lengths) zero d lt = omega arith
starts-at first (n ∷ lengths) (suc k) d lt =
    let rest : get_or (starts_from (first + n) lengths) k d ≡ first + n + sum (take k lengths) = starts-at (first + n) lengths k d (omega (arith, lt)) in
    let cons : sum (n ∷ take k lengths) ≡ n + sum (take k lengths) = sum_by-cons (λ x. x) n (take k lengths) in
    omega (arith, rest, cons)

-- the same of names whose lengths are told by records
pub starts-of : {A : Type 0} (first : ℕ) (f : A → ℕ) (xs : List A) (k d : ℕ) (starts : List ℕ) → starts ≡ starts_from first (map f xs) → k < length xs → get_or starts k d ≡ first + sum (map f (take k xs))
starts-of first f xs k d starts is lt =
    let within : k < length (map f xs) = omega (arith, lt, length-map xs f) in
    ap (λ l. get_or l k d) is ∙ (starts-at first (map f xs) k d within ∙ ap (λ l. first + sum l) (take-map f k xs))

pub starts-of-first : {A : Type 0} (f : A → ℕ) (xs : List A) (k d : ℕ) (starts : List ℕ) → starts ≡ starts_from 0 (map f xs) → k < length xs → get_or starts k d ≡ sum (map f (take k xs))
starts-of-first f xs k d starts is lt = let at = starts-of 0 f xs k d starts is lt in omega (arith, at)

pub starts-within : {A : Type 0} (first : ℕ) (f : A → ℕ) (xs : List A) (k : ℕ) (starts : List ℕ) → starts ≡ starts_from first (map f xs) → k < length xs → k < length starts
starts-within first f xs k starts is lt = omega (arith, lt, length-map xs f, starts-length first (map f xs), ap length is)
