-- Static memory begins where the map of a unit has it.
use Rattle.std.proofs.Common.{◌≡◌, ℕ, refl}
use Rattle.graph_core.specs.Graphs.{UnitForm}
use Rattle.rv_emit_storage.specs.StaticAddresses.{statics_start}
use Rattle.memory_map.specs.Maps.{bytes_start}
use Rattle.rv_emit_storage.specs.UnitMaps.{map_of_unit}

pub statics_begin : (u : UnitForm) → statics_start u ≡ bytes_start (map_of_unit u)
unfolding statics_start map_of_unit
statics_begin u = refl
