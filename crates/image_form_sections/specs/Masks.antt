-- Masks of the registers that keep scalars.
use Rattle.std.specs.Prelude.{ℕ, ◌/◌, ◌%◌, ◌^◌, ◌==◌, Bool, List, [], ◌∷◌, filter, sum_by}

-- The registers that keep scalars: s1, and s2 to s11, t3 to t6.
abbrev pub home_registers : List ℕ
home_registers = 9 ∷ 18 ∷ 19 ∷ 20 ∷ 21 ∷ 22 ∷ 23 ∷ 24 ∷ 25 ∷ 26 ∷ 27 ∷ 28 ∷ 29 ∷ 30 ∷ 31 ∷ []

-- The register is in the mask.
abbrev pub is_in_mask : (mask register : ℕ) → Bool
is_in_mask mask register = mask / 2 ^ register % 2 == 1

-- The registers of a mask that keep scalars, in ascending order.
abbrev pub masked : (mask : ℕ) → List ℕ
masked mask = filter (is_in_mask mask) home_registers

-- The mask of registers.
abbrev pub mask_of : List ℕ → ℕ
mask_of registers = sum_by (λ r. 2 ^ r) registers
