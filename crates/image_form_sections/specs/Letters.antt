-- The bytes of names.
use Rattle.std.specs.Prelude.{ℕ, Bool, ◌&&◌, ◌||◌, ◌==◌, nat_le}

-- A letter from a to z.
abbrev pub is_lower_letter : ℕ → Bool
is_lower_letter c = nat_le 97 c && nat_le c 122

-- A letter or an underscore, with which an identifier begins.
abbrev pub begins_identifier : ℕ → Bool
begins_identifier c = is_lower_letter c || (nat_le 65 c && nat_le c 90) || c == 95

-- A letter, an underscore or a digit.
abbrev pub is_identifier_byte : ℕ → Bool
is_identifier_byte c = begins_identifier c || (nat_le 48 c && nat_le c 57)
