-- Which places the words of code belong to.
use Rattle.std.specs.Prelude.{◌≡◌, ℕ, ◌<◌, ◌≤◌, ◌⊎◌, Some, slice_get, slice_index}
use Rattle.graph_core.specs.Graphs.{Graph, UnitForm}
use Rattle.graph_core.specs.Validity.{IsOwnPlace}
use Rattle.rv_emit_tables.specs.Emitted.{EmittedForm, FunctionCode}
use Rattle.rv_emit_steps.specs.Programs.{address_of}

-- A word belongs to no place, or to a place of a graph.
abbrev pub IsOwnedBy : Graph → (place : ℕ) → Type 0
IsOwnedBy g p = (p ≡ 0) ⊎ IsOwnPlace g (Some p)

-- Each word of the code of a function belongs to a place of the function, or to none.
abbrev pub HasOwnWords : UnitForm → EmittedForm → Type 0
HasOwnWords u e =
    (f : ℕ) (g : Graph) (code : FunctionCode) → slice_get u.graphs f ≡ Some g → slice_get e.functions f ≡ Some code
    → (i : ℕ) → code.first ≤ address_of i → address_of i < code.end → IsOwnedBy g (slice_index e.owners i)
