-- Static memory whose addresses are words.
use Rattle.std.specs.Prelude.{◌≡◌, ℕ, ◌+◌, ◌<◌, List, length, take}
use Rattle.std.specs.List.{AllByRecursion}
use Rattle.graph_core.specs.Graphs.{StaticObject, UnitForm}
use Rattle.graph_core.specs.Validity.{taken_by, total, AreRelocations}
use Rattle.memory_map.specs.Maps.{bytes_start}
use Rattle.rv_emit_storage.specs.StaticAddresses.{static_addresses, static_sizes}
use Rattle.rv_emit_storage.specs.UnitMaps.{map_of_unit}

-- All addresses of static memory are words. So it is in a valid unit.
abbrev pub FitsStatics : UnitForm → Type 0
FitsStatics u = bytes_start (map_of_unit u) + total taken_by (static_sizes u) < 4294967295

-- These are the addresses of the unit's static objects.
abbrev pub HaveAddresses : UnitForm → List ℕ → Type 0
HaveAddresses u addresses = addresses ≡ take (length u.statics) (static_addresses u)

-- Each relocation names a static object. So it is in a valid unit.
abbrev pub NameObjects : UnitForm → Type 0
NameObjects u = AllByRecursion (λ (o : StaticObject). AreRelocations u.statics o.relocations) u.statics
