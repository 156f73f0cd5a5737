-- The rules of functions.
use Rattle.std.specs.Prelude.{◌≡◌, ℕ, ◌+◌, ◌*◌, ◌%◌, ◌<◌, ◌≤◌, false, length}
use Rattle.std.specs.List.{AllByRecursion}
use Rattle.image_form.specs.declared.tables.Function.{Function}
use Rattle.image_form.specs.Form.{Form}
use Rattle.image_form.specs.Lists.{EachToNext}
unfoldable pub use Rattle.image_form_sections.specs.Bounds.{first_code_address}
use Rattle.image_form_sections.specs.Masks.{masked, mask_of}
use Rattle.image_form_sections.specs.Versions.{has_callers}

-- The address behind the last code word.
abbrev pub code_end : Form → ℕ
code_end f = first_code_address + 4 * length f.code

-- A multiple of 4 at which a code word stands.
abbrev pub IsCodeAddress : Form → ℕ → Type 0
IsCodeAddress f address = (address % 4 ≡ 0) × (first_code_address ≤ address) × (address < code_end f)

-- A number of a place.
abbrev pub IsPlaceNumber : Form → ℕ → Type 0
IsPlaceNumber f n = (1 ≤ n) × (n ≤ length f.places)

-- What a function must be by itself.
pub record IsFunction (f : Form) (g : Function) : Type 0 where
  pub named : 1 ≤ g.name_length
  pub short_name : g.name_length ≤ 63
  pub first_in_code : IsCodeAddress f g.first
  pub end_aligned : g.end % 4 ≡ 0
  pub not_empty : g.first < g.end
  pub end_in_code : g.end ≤ code_end f
  pub frame_aligned : g.frame % 16 ≡ 0
  pub frame_some : 16 ≤ g.frame
  pub frame_small : g.frame ≤ 16384
  pub entry_is_place : IsPlaceNumber f g.entry
  -- The registers that it saves are of those that keep scalars.
  pub saves_homes : g.saved ≡ mask_of (masked g.saved)

-- what is asked of the functions of an image
pub record FunctionRules (f : Form) : Type 0 where
  pub each : AllByRecursion (IsFunction f) f.functions
  -- They stand in order and do not overlap.
  pub apart : EachToNext (λ g h. g.end ≤ h.first) f.functions
  pub entries_ascend : EachToNext (λ g h. g.entry < h.entry) f.functions
  -- Only some versions tell which registers are saved.
  pub none_saved : has_callers f.version.level ≡ false → AllByRecursion (λ g. g.saved ≡ 0) f.functions
