-- The rules of variables.
use Rattle.std.specs.Prelude.{◌≡◌, ℕ, ◌+◌, ◌%◌, ◌<◌, ◌≤◌, ◌⊎◌, ◌==◌, if◌then◌else◌, Option, Some, None, slice_get, IsSomeAnd, length, ⊤}
use Rattle.std.specs.List.{AllByRecursion}
use Rattle.image_form.specs.declared.variables.Storage.{Storage}
use Rattle.image_form.specs.declared.variables.Storage.TheVariants.{Static, Frame, Register, Slot}
use Rattle.image_form.specs.declared.variables.Variable.{Variable}
use Rattle.image_form.specs.Form.{Form}
use Rattle.image_form.specs.Lists.{EachToNext}
unfoldable pub use Rattle.image_form_sections.specs.Bounds.{first_static_address, static_size}

-- An address of static memory, in the map of the image's version.
abbrev pub IsStaticAddress : Form → ℕ → Type 0
IsStaticAddress f address =
    (first_static_address f.version.map ≤ address) × (address < first_static_address f.version.map + static_size)

-- The registers that keep scalars: s1, and s2 to s11, t3 to t6.
abbrev pub IsHomeRegister : ℕ → Type 0
IsHomeRegister r = (r ≡ 9) ⊎ ((18 ≤ r) × (r ≤ 31))

-- A multiple of 4 within the frame of the k-th function, which is there.
abbrev pub IsFrameOffset : Form → ℕ → ℕ → Type 0
IsFrameOffset f k offset = IsSomeAnd (slice_get f.functions k) (λ g. (offset % 4 ≡ 0) × (offset < g.frame))

-- A variable of the k-th function may be kept there.
abbrev pub IsKeptInFunction : Form → ℕ → Storage → Type 0
IsKeptInFunction f k (Static address) = ⊥
IsKeptInFunction f k (Frame offset) = IsFrameOffset f k offset
IsKeptInFunction f k (Register number) = (k < length f.functions) × IsHomeRegister number
IsKeptInFunction f k (Slot offset) = IsFrameOffset f k offset

-- A static variable may be kept there.
abbrev pub IsKeptStatically : Form → Storage → Type 0
IsKeptStatically f (Static address) = IsStaticAddress f address
IsKeptStatically f (Frame offset) = ⊥
IsKeptStatically f (Register number) = ⊥
IsKeptStatically f (Slot offset) = ⊥

-- Static memory is for static variables; the others belong to a function that is there.
abbrev pub IsKept : Form → Option ℕ → Storage → Type 0
IsKept f None storage = IsKeptStatically f storage
IsKept f (Some k) storage = IsKeptInFunction f k storage

-- Only a variable in memory may be an array: a home has count 0.
abbrev pub IsCount : Storage → ℕ → Type 0
IsCount (Static address) count = ⊤
IsCount (Frame offset) count = ⊤
IsCount (Register number) count = count ≡ 0
IsCount (Slot offset) count = count ≡ 0

-- Only a static one may lack a name, which then is a literal.
abbrev pub IsNamed : Option ℕ → ℕ → Type 0
IsNamed None name_length = ⊤
IsNamed (Some k) name_length = 1 ≤ name_length

-- What a variable must be by itself.
pub record IsVariable (f : Form) (v : Variable) : Type 0 where
  pub short_name : v.name_length ≤ 63
  pub named : IsNamed v.function v.name_length
  pub kept : IsKept f v.function v.storage
  pub counted : IsCount v.storage v.count

-- Named static variables come first, then literals, then those of functions.
abbrev pub group_of : Option ℕ → ℕ → ℕ
group_of None name_length = if name_length == 0 then 1 else 0
group_of (Some k) name_length = 2

-- 0 for a named static variable, 1 for a literal, 2 for a variable of a function
abbrev pub group : Variable → ℕ
group v = group_of v.function v.name_length

-- The first is of an earlier group, or of the same at an earlier position.
abbrev pub IsDeclaredBefore : Variable → Variable → Type 0
IsDeclaredBefore u v = (group u < group v) ⊎ ((group u ≡ group v) × (u.position < v.position))

-- what is asked of the variables of an image
pub record VariableRules (f : Form) : Type 0 where
  pub each : AllByRecursion (IsVariable f) f.variables
  pub in_order : EachToNext IsDeclaredBefore f.variables
