-- That code carries out a unit with homes, said of addresses, homes, owners and events and of no word of the code.
use Rattle.std.specs.Prelude.{◌≡◌, ℕ, ◌<◌, Some, length, slice_get}
use Rattle.graph_core.specs.Paths.{Among}
use Rattle.graph_homes.specs.Homed.{HomedForm}
use Rattle.rv_emit_storage.specs.StaticAddresses.{initial_bytes, static_at}
use Rattle.rv_emit_storage.specs.UnitMaps.{map_of_unit}
use Rattle.rv_emit_tables.specs.declared.emitted.PlacedStop.{PlacedStop}
use Rattle.rv_emit_tables.specs.Emitted.{EmittedForm}
use Rattle.rv_emit_runs.specs.Laid.{Arrangement}
use Rattle.rv_emit_runs.specs.Running.{ComesByAll}
use Rattle.rv_emit_runs.specs.EmitPlacedMarkers.{AreStopsOf}
use Rattle.rv_emit_runs.specs.Owners.{HasOwnWords}
use Rattle.rv_emit_runs.specs.Told.{TellBinders, TellWriters, Tells}
use Rattle.rv_emit_runs.specs.Writing.{WritesNothingElse}

-- CODE CARRIES OUT A UNIT WITH HOMES, where its functions and blocks stand as this arrangement says: on each input the
-- machine comes by all that is seen of the unit over its homes, and at each stop it holds what the homes and objects
-- hold there. What is told of the code is so: whose its words are, where its stops, frames, slots and objects lie, and
-- which words write which homes.
pub record CarriesOut (h : HomedForm) (a : Arrangement) (e : EmittedForm) : Type 0 where
  -- The regions of memory are those of what is compiled of the unit, and static memory begins with its initial bytes.
  pub map : e.map ≡ map_of_unit h.unit
  pub initial : e.initial ≡ initial_bytes h.unit
  -- On each input the machine comes by all that is seen of the unit over homes, event by event, and at each stop it
  -- holds what the unit's homes and objects hold there.
  pub comes : ComesByAll h e a
  -- Each word belongs to a place, or to none; those of a function to its own places, or to none.
  pub owners : length e.owners ≡ length e.code
  pub owned : HasOwnWords h.unit e
  -- Its stops are those of the unit's markers but of entries, in their order and each once; each has an address of its
  -- own.
  pub stops : AreStopsOf h.unit e.stops
  pub apart : (s t : PlacedStop) → Among s e.stops → Among t e.stops → s.address ≡ t.address → s.place ≡ t.place
  -- The table of writers tells of each instruction with a target the word that writes the target's home, in the place
  -- that is in force before it; that of bindings tells it of each parameter which is a scalar, in the place of the
  -- entry.
  pub writers : TellWriters h a e
  pub bindings : TellBinders h a e
  -- No other word of a place writes a home of its function.
  pub nothing_else : WritesNothingElse h a e
  -- Each static object has its address, and each function its frame, its slots and its objects.
  pub told : Tells h a e
  pub statics : (n : ℕ) → n < length h.unit.statics → slice_get e.statics n ≡ Some (static_at h.unit n)
