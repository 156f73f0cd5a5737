-- The scalars of a function by their variables.
use Rattle.std.specs.Prelude.{◌≡◌, ℕ, ◌-◌, nat_lt, if◌then◌else◌, Option, Some, None, List, slice_get}
use Rattle.std.specs.Option.{option_map_or}
use Rattle.graph_core.specs.declared.graph.Scalar as declared-scalar
use Rattle.currency_shown.specs.declared.numbering.Numbering as declared-numbering

-- the scalar that a variable is, if it is one of the function
abbrev pub scalar_in : declared-numbering.Numbering → (variable : ℕ) → Option ℕ
scalar_in n v =
    if nat_lt v n.first then None else option_map_or (λ (x : Option ℕ). x) (slice_get n.names.items (v - n.first)) None

-- No two scalars are one variable.
abbrev pub AreDistinctVariables : List declared-scalar.Scalar → Type 0
AreDistinctVariables scalars =
    (x y : ℕ) (s t : declared-scalar.Scalar) → slice_get scalars x ≡ Some s → slice_get scalars y ≡ Some t
    → s.var.0 ≡ t.var.0 → x ≡ y

-- a scalar is a variable
abbrev pub IsNumberOf : List declared-scalar.Scalar → (variable x : ℕ) → Type 0
IsNumberOf scalars v x = (s : declared-scalar.Scalar) × (slice_get scalars x ≡ Some s) × (s.var.0 ≡ v)

-- Each scalar is that of its variable.
abbrev pub AreNumbered : declared-numbering.Numbering → List declared-scalar.Scalar → Type 0
AreNumbered n scalars =
    (x : ℕ) (s : declared-scalar.Scalar) → slice_get scalars x ≡ Some s → scalar_in n s.var.0 ≡ Some x
