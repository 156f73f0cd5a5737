-- Bytes, and the numbers that they spell.
use Rattle.std.proofs.Common.{ℕ, ◌+◌, ◌^◌, ◌<◌, List, get_or, take, drop, arith, length-take, get_or-drop, get_or-take, inl, inr}
use Rattle.std.specs.Int.{w32, from_le_bytes}
use Rattle.std.proofs.lemmas.Bool.{cases_lt}
use Rattle.std.proofs.lemmas.List.{get_or_past}
use Rattle.image_form_sections.specs.Sections.{number_at}

-- Each number is a byte's.
abbrev pub AreBytes : List ℕ → Type 0
AreBytes bytes = (i : ℕ) → get_or bytes i 0 < 256

pub AreBytes-drop : (n : ℕ) (bytes : List ℕ) → AreBytes bytes → AreBytes (drop n bytes)
AreBytes-drop n bytes are i = rw get_or-drop (are (n + i))

pub AreBytes-take : (n : ℕ) (bytes : List ℕ) → AreBytes bytes → AreBytes (take n bytes)
AreBytes-take n bytes are i =
    elim (cases_lt i n) [
      | inl lt ↦ rw (get_or-take n bytes i 0 lt) (are i)
      | inr le ↦ rw (get_or_past (take n bytes) i 0 (omega (arith, length-take n bytes))) (omega arith)
    ]

pub number_fits : (bytes : List ℕ) (at : ℕ) → AreBytes bytes → number_at bytes at < 2 ^ 32
unfolding number_at
number_fits bytes at are = below (take 4 (drop at bytes)) (AreBytes-take 4 (drop at bytes) (AreBytes-drop at bytes are))
  where
    below : (bs : List ℕ) → AreBytes bs → from_le_bytes w32 bs < 2 ^ 32
    below bs are = omega (arith, are 0, are 1, are 2, are 3)
