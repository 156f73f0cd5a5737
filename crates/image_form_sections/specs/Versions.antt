-- The versions of the format: for which map of memory an image is made, and which fields and sections its tables have.
-- A field or section that a version has not reads as 0 or as empty.
use Rattle.std.specs.Prelude.{ℕ, ◌+◌, ◌*◌, ◌%◌, ◌&&◌, ◌==◌, nat_le, Bool, true, false, if◌then◌else◌}
use Rattle.memory_map.specs.declared.map.Map.{Map}
use Rattle.memory_map.specs.declared.map.Map.TheVariants.{One, Two}
use Rattle.image_form_sections.specs.declared.version.Level.{Level}
use Rattle.image_form_sections.specs.declared.version.Level.TheVariants.{Plain, Quiet, Callers}
use Rattle.image_form_sections.specs.declared.version.Version.{Version}

-- The number of the greatest level whose versions are read and written.
unfoldable pub greatest_level : ℕ
greatest_level = 1

-- Whether structures may stand in an image.
unfoldable pub has_structures : Bool
has_structures = false

-- The number of a map.
abbrev pub map_number : Map → ℕ
map_number One = 1
map_number Two = 2

-- How many levels stand below one.
abbrev pub level_number : Level → ℕ
level_number Plain = 0
level_number Quiet = 1
level_number Callers = 2

-- The number of a version: each level has two, an odd one for the first map and an even one for the second.
abbrev pub version_number : Version → ℕ
version_number v = 2 * level_number v.level + map_number v.map

-- The map of the version of a number.
abbrev pub map_of : ℕ → Map
map_of n = if n % 2 == 1 then One else Two

-- The level of the version of a number; the greatest one stands for all above it.
abbrev pub level_of : ℕ → Level
level_of n = if nat_le n 2 then Plain else if nat_le n 4 then Quiet else Callers

-- The number is that of a version that is read.
unfoldable pub is_read : ℕ → Bool
is_read n = nat_le 1 n && nat_le (level_number (level_of n)) greatest_level

-- The version of a number.
abbrev pub version_of : ℕ → Version
version_of n = record { map = map_of n; level = level_of n }

-- Visible rows tell where a quiet path begins.
abbrev pub has_quiet : Level → Bool
has_quiet Plain = false
has_quiet Quiet = true
has_quiet Callers = true

-- Functions tell the registers that they save, and calls have rows.
abbrev pub has_callers : Level → Bool
has_callers Plain = false
has_callers Quiet = false
has_callers Callers = true

-- How many bytes the header has.
abbrev pub header_size : Level → ℕ
header_size level = if has_callers level then 80 else 64
