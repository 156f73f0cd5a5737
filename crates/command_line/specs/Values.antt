-- The values of options and positionals.
use Rattle.std.specs.Prelude.{ℕ, ◌+◌, ◌-◌, ◌*◌, ◌==◌, ◌&&◌, Bool, List, [], ◌∷◌, length, Option, Some, None, codes, if◌then◌else◌, nat_le, nat_lt}
use Rattle.std.specs.List.{list_all, slice_split}
use Rattle.std.specs.Char.{is_ascii_digit}
use Rattle.std.specs.Str.{bytes_eq}
use Rattle.debug_records.specs.Change.{is_lower_case}
use Rattle.command_line.specs.Words.{Text}
use Rattle.debug_records.specs.declared.mode.Mode.{Mode}
use Rattle.debug_records.specs.declared.mode.Mode.TheVariants.{Slots, Registers}

-- the number that these digits write behind those of n
abbrev pub number_after : ℕ → Text → ℕ
number_after n [] = n
number_after n (c ∷ cs) = number_after (10 * n + (c - 48)) cs

-- each byte is a decimal digit
abbrev pub are_digits : Text → Bool
are_digits t = list_all is_ascii_digit t

-- the number of one or more decimal digits, if it is at most `most`
abbrev pub number_in : ℕ → Text → Option ℕ
number_in most t =
    if nat_lt 0 (length t) && (are_digits t && nat_le (number_after 0 t) most) then Some (number_after 0 t) else None

-- `slots` or `registers`
abbrev pub mode_named : Text → Option Mode
mode_named t =
    if bytes_eq t (codes "slots") then Some Slots
    else (if bytes_eq t (codes "registers") then Some Registers else None)

-- 1 to 16 lower-case letters
abbrev pub is_pass_name : Text → Bool
is_pass_name t = nat_le 1 (length t) && (nat_le (length t) 16 && list_all is_lower_case t)

-- the texts, where each is the name of a pass
abbrev pub all_named : List Text → Option (List Text)
all_named texts = if list_all is_pass_name texts then Some texts else None

-- what stands between the commas (44)
abbrev pub comma_pieces : Text → List Text
comma_pieces t = slice_split (λ c. c == 44) t

-- the one word `none`, which is the empty list, or else 1 to 32 names with commas between
abbrev pub names_in : Text → Option (List Text)
names_in t =
    if bytes_eq t (codes "none") then Some []
    else (if nat_le (length (comma_pieces t)) 32 then all_named (comma_pieces t) else None)
