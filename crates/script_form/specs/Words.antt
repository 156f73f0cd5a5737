-- The words of a line.
use Rattle.std.specs.Prelude.{ℕ, Bool, ◌||◌, ◌==◌, nat_lt, List, length}
use Rattle.std.specs.List.{filter, slice_split}

-- a space or a tab
abbrev pub is_space_or_tab : ℕ → Bool
is_space_or_tab b = b == 32 || b == 9

-- a word has at least one byte
abbrev pub is_word : List ℕ → Bool
is_word word = nat_lt 0 (length word)

-- what stands between the blanks of a line
abbrev pub words : List ℕ → List (List ℕ)
words line = filter is_word (slice_split is_space_or_tab line)
