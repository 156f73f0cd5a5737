-- What names and shadows hold behind a path, by what its instructions wrote and noted.
use Rattle.std.specs.Prelude.{ℕ, ◌==◌, if◌then◌else◌, Option, Some, None, List, [], ◌∷◌}
use Rattle.graph_core.specs.declared.value.Value.{Value}
use Rattle.graph_core.specs.declared.value.Shadow.{Shadow}
use Rattle.graph_core.specs.declared.value.Shadow.TheVariants as shadow
use Rattle.graph_core.specs.Graphs.{Is, Gone, Instruction, Note, StaticObject}
use Rattle.graph_core.specs.Uses.{target_of}
use Rattle.graph_core.specs.Paths.{History}
use Rattle.graph_core.specs.Runs.{with_value_at, recipe_value}

-- a name, if there is one, takes a value
abbrev pub name_by : Option ℕ → Value → (ℕ → Value) → ℕ → Value
name_by None v names = names
name_by (Some x) v names = with_value_at names x v

-- What the names hold behind a history, if at the function's beginning they held these values.
abbrev pub values_behind : (ℕ → Value) → History → ℕ → Value
values_behind names [] = names
values_behind names (i ∷ h) = name_by (target_of i.instruction) i.wrote (values_behind names h)

-- what an instruction makes known of a scalar, where the names hold these values
abbrev pub shadow_by : List StaticObject → ℕ → Instruction → (ℕ → Value) → Shadow → Shadow
shadow_by statics x (Note y (Is r)) names before =
    if y == x then shadow.Known (recipe_value statics names r) else before
shadow_by statics x (Note y (Gone change)) names before = if y == x then shadow.Gone else before
shadow_by statics x _ names before = before

-- What the last note of a scalar made known.
abbrev pub shadow_of : List StaticObject → (ℕ → Value) → ℕ → History → Shadow
shadow_of statics names x [] = shadow.Gone
shadow_of statics names x (i ∷ h) =
    shadow_by statics x i.instruction (values_behind names h) (shadow_of statics names x h)
