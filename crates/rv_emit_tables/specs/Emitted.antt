-- What the emitter gives, as contracts see it.
use Rattle.std.specs.Prelude.{ℕ, ◌+◌, ◌*◌, List, map}
use Rattle.memory_map.specs.Maps.{code_start}
use Rattle.memory_map.specs.declared.map.Map.{Map}
use Rattle.rv_emit_tables.specs.declared.emitted.Emitted as declared-emitted
use Rattle.rv_emit_tables.specs.declared.emitted.EmittedFunction as declared-function
use Rattle.rv_emit_tables.specs.declared.emitted.PlacedStop.{PlacedStop}

-- The code of a function, and where its parts lie.
pub record FunctionCode : Type 0 where
  pub first : ℕ
  pub end : ℕ
  pub frame : ℕ
  pub slots : ℕ
  pub objects : List ℕ
  pub bindings : List ℕ
  pub writers : List ℕ

-- The code of a unit, and where in memory the regions of its run lie.
pub record EmittedForm : Type 0 where
  pub map : Map
  pub code : List ℕ
  pub owners : List ℕ
  pub initial : List ℕ
  pub statics : List ℕ
  pub stops : List PlacedStop
  pub functions : List FunctionCode

abbrev pub function_view : declared-function.EmittedFunction → FunctionCode
function_view f =
    record {
      first = f.first;
      end = f.end;
      frame = f.frame;
      slots = f.slots;
      objects = f.objects.items;
      bindings = f.bindings.items;
      writers = f.writers.items;
    }

abbrev pub emitted_view : declared-emitted.Emitted → EmittedForm
emitted_view e = record {
  map = e.map;
  code = e.code.items;
  owners = e.owners.items;
  initial = e.initial.items;
  statics = e.statics.items;
  stops = e.stops.items;
  functions = map function_view e.functions.items;
}

-- the address of a code word
abbrev pub address_of_word : (index : ℕ) → ℕ
address_of_word i = code_start + 4 * i
