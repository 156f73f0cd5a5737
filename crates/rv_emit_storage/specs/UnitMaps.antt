-- Which map the memory of what is compiled of a unit has.
use Rattle.graph_core.specs.Graphs.{UnitForm}
use Rattle.memory_map.specs.declared.map.Map.{Map}
use Rattle.memory_map.specs.Maps.{map_of}

-- The map of the memory of what is compiled of a unit: its room decides it.
unfoldable pub map_of_unit : UnitForm → Map
map_of_unit u = map_of u.room
