-- The names of passes, and the changes that they made.
use Rattle.std.specs.Prelude.{◌≡◌, ◌≤◌, ◌-◌, ◌++◌, ◌&&◌, ℕ, nat_le, Bool, true, false, List, replicate, take, length}
use Rattle.std.specs.List.{list_all}
use Rattle.debug_records.specs.declared.change.Change.{Change}
use Rattle.debug_records.specs.declared.log.ChangeLog.{ChangeLog}
use Rattle.debug_records.specs.declared.change.Kind.{Kind}
use Rattle.debug_records.specs.declared.change.Kind.TheVariants.{Removed, Moved, Reused, Replaced, Sunk}
use Rattle.debug_records.specs.declared.change.PassName.{PassName}

-- the ASCII code of a letter from a to z
abbrev pub is_lower_case : ℕ → Bool
is_lower_case byte = nat_le 97 byte && nat_le byte 122

-- 1 to 16 lower-case letters
pub record IsPassName (bytes : List ℕ) : Type 0 where
  pub some : 1 ≤ length bytes
  pub most : length bytes ≤ 16
  pub lower_case : list_all is_lower_case bytes ≡ true

-- the letters of a pass's name
abbrev pub letters : PassName → List ℕ
letters name = take name.length name.padded

-- the name that these letters are: they, and zeros behind them, so that names of the same letters are one name
abbrev pub pass_name : List ℕ → PassName
pass_name bytes = record { padded = bytes ++ replicate (16 - length bytes) 0; length = length bytes }

-- the changes of a log, in order
abbrev pub changes : ChangeLog → List Change
changes log = log.changes.items

-- By a change of this kind an assignment went from its place.
abbrev pub is_taken : Kind → Bool
is_taken Removed = true
is_taken Moved = false
is_taken Reused = false
is_taken Replaced = false
is_taken Sunk = true
