-- Where static objects lie.
use Rattle.std.specs.Prelude.{◌≡◌, ℕ, List, ◌++◌}
use Rattle.graph_core.specs.Graphs.{UnitForm}
use Rattle.rv_emit_storage.specs.StaticAddresses.{static_addresses}

-- Addresses are those of a unit's static memory, as far as they go.
abbrev pub AreFirstAddresses : UnitForm → List ℕ → Type 0
AreFirstAddresses u addresses = (behind : List ℕ) × (addresses ++ behind ≡ static_addresses u)
