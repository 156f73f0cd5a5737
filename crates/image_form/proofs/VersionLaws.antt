-- Versions and their numbers.
use Rattle.std.proofs.Common.{◌≡◌, ℕ, zero, suc, ◌+◌, ◌*◌, ◌≤◌, true, false, refl, inl, inr, arith}
use Rattle.std.proofs.lemmas.Bool.{leb-true, and_parts, cases_Bool}
use Rattle.std.specs.Prelude.{nat_le, ◌&&◌}
use Rattle.memory_map.specs.declared.map.Map.{Map}
use Rattle.memory_map.specs.declared.map.Map.TheVariants.{One, Two}
use Rattle.image_form_sections.specs.declared.version.Level.{Level}
use Rattle.image_form_sections.specs.declared.version.Level.TheVariants.{Plain, Quiet, Callers}
use Rattle.image_form_sections.specs.declared.version.Version.{Version}
use Rattle.image_form_sections.specs.Versions.{greatest_level, is_read, map_number, map_of, level_number, version_number, level_of, version_of, has_callers}

-- The versions whose level is read are the first four.
few_read : (n : ℕ) → level_number (level_of n) ≤ 1 → n ≤ 4
few_read n low = elim (cases_Bool (nat_le n 4)) [
  | inl few ↦ leb-true n 4 few
  | inr many ↦ elim (cases_Bool (nat_le n 2)) [
    | inl fewer ↦ let two = leb-true n 2 fewer in omega (arith, two)
    | inr more ↦ absurd (let high = rw (more, many) at low in omega (arith, high))
  ]
]

read_parts : (n : ℕ) → is_read n ≡ true → (1 ≤ n) × (n ≤ 4)
unfolding is_read greatest_level
read_parts n read =
    let parts = and_parts (nat_le 1 n) (nat_le (level_number (level_of n)) greatest_level) read in
    (leb-true 1 n parts.0, few_read n (leb-true (level_number (level_of n)) greatest_level parts.1))

-- The number of a version that is read is one of six.
pub read_known : (n : ℕ) → is_read n ≡ true → (1 ≤ n) × (n ≤ 6)
read_known n read = let parts = read_parts n read in let last = parts.1 in (parts.0, omega (arith, last))

-- The version of such a number has it.
number_known : (n : ℕ) → 1 ≤ n → n ≤ 6 → version_number (version_of n) ≡ n
number_known zero low high = absurd (omega (arith, low))
number_known (suc zero) low high = refl
number_known (suc (suc zero)) low high = refl
number_known (suc (suc (suc zero))) low high = refl
number_known (suc (suc (suc (suc zero)))) low high = refl
number_known (suc (suc (suc (suc (suc zero))))) low high = refl
number_known (suc (suc (suc (suc (suc (suc zero)))))) low high = refl
number_known (suc (suc (suc (suc (suc (suc (suc n))))))) low high = absurd (omega (arith, high))

pub number_told : (n : ℕ) → is_read n ≡ true → version_number (version_of n) ≡ n
number_told n read = let known = read_known n read in number_known n known.0 known.1

version_parts : (m : Map) (l : Level) → version_of (2 * level_number l + map_number m) ≡ record { map = m; level = l }
version_parts One Plain = refl
version_parts One Quiet = refl
version_parts One Callers = refl
version_parts Two Plain = refl
version_parts Two Quiet = refl
version_parts Two Callers = refl

pub version_back : (v : Version) → version_of (version_number v) ≡ v
version_back v = version_parts v.map v.level

number_small : (m : Map) (l : Level) → 2 * level_number l + map_number m ≤ 6
number_small One Plain = omega arith
number_small One Quiet = omega arith
number_small One Callers = omega arith
number_small Two Plain = omega arith
number_small Two Quiet = omega arith
number_small Two Callers = omega arith

pub version_small : (v : Version) → version_number v ≤ 6
version_small v = number_small v.map v.level

few_no_calls : (n : ℕ) → n ≤ 4 → has_callers (level_of n) ≡ false
few_no_calls zero low = refl
few_no_calls (suc zero) low = refl
few_no_calls (suc (suc zero)) low = refl
few_no_calls (suc (suc (suc zero))) low = refl
few_no_calls (suc (suc (suc (suc zero)))) low = refl
few_no_calls (suc (suc (suc (suc (suc n))))) low = absurd (omega (arith, low))

-- No version that is read has rows of calls: with the first that has, what a row must be takes the place of this law.
pub read_no_calls : (n : ℕ) → is_read n ≡ true → has_callers (level_of n) ≡ false
read_no_calls n read = few_no_calls n (read_parts n read).1
