-- The two parts of a word make it up.
use Rattle.std.proofs.Common.{◌≡◌, ℕ, ◌+◌, ◌*◌, ◌%◌, ◌<◌, ◌≤◌, ◌⊎◌, ⊎_elim, inl, inr, arith, true, false}
use Rattle.std.specs.Prelude.{nat_lt}
use Rattle.std.proofs.lemmas.Bool.{cases_lt, le-ltb, lt-ltb}
use Rattle.rv_machine.specs.State.{word}
use Rattle.word_base.specs.Arithmetic.{subtracted}
use Rattle.rv_emit_words.specs.Constants.{low_part, high_part}

-- What the low part of a word is, by its lowest 12 bits.
low_part_by : (w : ℕ) → ((w % 4096 < 2048) × (low_part w ≡ w % 4096)) ⊎ ((2048 ≤ w % 4096) × (low_part w ≡ w % 4096 + 4294963200))
low_part_by w = ⊎_elim
    (λ (low : w % 4096 < 2048). let t : nat_lt (w % 4096) 2048 ≡ true = lt-ltb (w % 4096) 2048 low in inl (low, simp t))
    (λ (high : 2048 ≤ w % 4096). let t : nat_lt (w % 4096) 2048 ≡ false = le-ltb (w % 4096) 2048 high in inr (high, simp t))
    (cases_lt (w % 4096) 2048)

pub high_part_fits : (w : ℕ) → high_part w < 1048576
high_part_fits w = omega arith

-- The upper part and the lower one, added to it, make the word, on top of any other number too.
pub parts_reach : (w b : ℕ) → w < 4294967296 → word (word (high_part w * 4096 + b) + low_part w) ≡ word (b + w)
parts_reach w b fits = ⊎_elim
    (λ (h : (w % 4096 < 2048) × (low_part w ≡ w % 4096)). let a = h.0 in let e = h.1 in omega arith)
    (λ (h : (2048 ≤ w % 4096) × (low_part w ≡ w % 4096 + 4294963200)). let a = h.0 in let e = h.1 in omega arith)
    (low_part_by w)

pub parts_make : (w : ℕ) → w < 4294967296 → word (high_part w * 4096 + low_part w) ≡ w
parts_make w fits = ⊎_elim
    (λ (h : (w % 4096 < 2048) × (low_part w ≡ w % 4096)). let a = h.0 in let e = h.1 in omega arith)
    (λ (h : (2048 ≤ w % 4096) × (low_part w ≡ w % 4096 + 4294963200)). let a = h.0 in let e = h.1 in omega arith)
    (low_part_by w)

-- The upper part alone, where the lower one is 0.
pub high_part_alone : (w : ℕ) → w < 4294967296 → low_part w ≡ 0 → high_part w * 4096 ≡ w
high_part_alone w fits zero_low = ⊎_elim
    (λ (h : (w % 4096 < 2048) × (low_part w ≡ w % 4096)). let a = h.0 in let e = h.1 in omega arith)
    (λ (h : (2048 ≤ w % 4096) × (low_part w ≡ w % 4096 + 4294963200)). let a = h.0 in let e = h.1 in absurd (omega arith))
    (low_part_by w)

-- A word that differs from another one, and the difference.
pub difference_adds : (w b : ℕ) → w < 4294967296 → b < 4294967296 → word (b + subtracted w b) ≡ w
difference_adds w b hw hb = omega arith
