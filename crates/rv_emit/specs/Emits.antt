-- What is promised of the code of a unit with homes.
use Rattle.std.specs.Prelude.{◌≡◌, ℕ, ◌<◌, Some, length, slice_get}
use Rattle.graph_core.specs.Paths.{Among}
use Rattle.graph_homes.specs.Homed.{HomedForm}
use Rattle.rv_emit_storage.specs.StaticAddresses.{static_at}
use Rattle.rv_emit_tables.specs.declared.emitted.PlacedStop.{PlacedStop}
use Rattle.rv_emit_tables.specs.Emitted.{EmittedForm}
use Rattle.rv_emit_runs.specs.Laid.{IsCode}
use Rattle.rv_emit_runs.specs.Running.{AgreesThroughout, ComesByAll}
use Rattle.rv_emit_runs.specs.InTime.{FollowsInTime}
use Rattle.rv_emit_runs.specs.Timed.{AreTimed}
use Rattle.rv_emit_runs.specs.EmitPlacedMarkers.{AreStopsOf}
use Rattle.rv_emit_runs.specs.Owners.{HasOwnWords}
use Rattle.rv_emit_runs.specs.Told.{TellBinders, TellWriters, Tells}
use Rattle.rv_emit_runs.specs.Writing.{HaveBinders, HaveWriters, WritesNothingElse}

-- The machine over the code does what the unit over homes does.
pub record Emits (h : HomedForm) (e : EmittedForm) : Type 0 where
  -- Each part of the unit's code stands in it, each stop is the first word of its place, and static memory begins with
  -- the unit's initial bytes.
  pub code : IsCode h e
  -- On each input the machine comes by all that is seen of the unit over homes, event by event, and at each stop it
  -- holds what the unit's homes and objects hold there.
  pub comes : ComesByAll h e code.arrangement
  -- On each input the events of both are the same one by one, as far as both go.
  pub agrees : AgreesThroughout h e code.arrangement
  -- Where the unit's places take bounded time, the machine comes to each event within 1,025 instructions for each word
  -- of the code.
  pub in_time : AreTimed h.unit → FollowsInTime h e code.arrangement
  -- Each word belongs to a place, or to none.
  pub owners : length e.owners ≡ length e.code
  -- Those of a function belong to its places, or to none.
  pub owned : HasOwnWords h.unit e
  -- Its stops are those of the unit's markers but of entries, in their order and each once.
  pub stops : AreStopsOf h.unit e.stops
  -- Each instruction with a target has a word that writes the target's home, in the place that is in force before it.
  pub writers : HaveWriters h code.arrangement e
  -- Each parameter that is a scalar has one too, in the place of its function's entry.
  pub binders : HaveBinders h code.arrangement e
  -- No other word of a place writes a home of its function.
  pub nothing_else : WritesNothingElse h code.arrangement e
  -- The table of writers tells the address of the word that writes the home of each instruction's target.
  pub tables : TellWriters h code.arrangement e
  -- The table of bindings tells that of the word that binds each parameter which is a scalar.
  pub bindings : TellBinders h code.arrangement e
  -- Each place has an address of its own.
  pub apart : (s t : PlacedStop) → Among s e.stops → Among t e.stops → s.address ≡ t.address → s.place ≡ t.place
  -- What is told of it is where its parts are: of static objects, and of each function its frame, its slots and its
  -- objects.
  pub told : Tells h code.arrangement e
  -- Each static object has its address.
  pub statics : (n : ℕ) → n < length h.unit.statics → slice_get e.statics n ≡ Some (static_at h.unit n)
