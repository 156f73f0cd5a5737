-- The rules of the rows of calls and of the members of structures. No version that is read has either: what a row or a
-- member must be is told with the first version that has them.
use Rattle.std.specs.Prelude.{◌≡◌, false, []}
use Rattle.image_form.specs.Form.{Form}
use Rattle.image_form_sections.specs.Versions.{has_callers, has_structures}

-- what is asked of the rows of calls
pub record CallRules (f : Form) : Type 0 where
  -- Only some versions have them.
  pub none : has_callers f.version.level ≡ false → f.calls ≡ []

-- what is asked of the members of structures
pub record MemberRules (f : Form) : Type 0 where
  -- Only some versions have them,
  pub none : has_callers f.version.level ≡ false → f.members ≡ []
  -- and they stand only where structures may.
  pub structures : has_structures ≡ false → f.members ≡ []
