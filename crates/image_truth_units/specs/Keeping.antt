-- Where an image keeps what a unit has.
use Rattle.std.specs.Prelude.{◌≡◌, ◌≢◌, ℕ, ◌+◌, ◌<◌, Option, Some, None, List, [], ◌∷◌, length, slice_get}
use Rattle.image_form.specs.Form.{Form, numbered}
use Rattle.image_form.specs.declared.tables.Place.{Place}
use Rattle.image_form.specs.declared.variables.Storage.{Storage}
use Rattle.image_form.specs.declared.variables.Storage.TheVariants as kept
use Rattle.image_form.specs.declared.variables.Variable.{Variable}
use Rattle.stop_engine_view.specs.Pointers.{function_of_place, variable_size}
use Rattle.stop_engine_view.specs.Reading.{frame_of}
use Rattle.graph_core.specs.declared.graph.MemoryObject.{MemoryObject}
use Rattle.graph_core.specs.Graphs.{Graph, StaticObject, UnitForm}
use Rattle.graph_core.specs.Memory.{static_bytes}
use Rattle.graph_core.specs.Runs.{Activation}
use Rattle.graph_homes.specs.Homed.{HomedForm}
use Rattle.rv_emit_storage.specs.StaticAddresses.{static_at}
use Rattle.rv_emit_storage.specs.Storages.{object_at}
use Rattle.rv_emit_runs.specs.Waiting.{FunctionCode, bytes_in}
use Rattle.rv_emit_runs.specs.Laid.{Arrangement, code_of}
use Rattle.graph_homes.specs.Owned.{IsPlaceOf}
use Rattle.image_truth_units.specs.Standing.{Standing}

-- ---- The image

-- The variable of an image with this number belongs to a function or to none, is kept there, and has so many bytes.
pub record IsKept (m : Form) (number : ℕ) (function : Option ℕ) (storage : Storage) (bytes : ℕ) : Type 0 where
  pub variable : Variable
  pub is : slice_get m.variables number ≡ Some variable
  pub owner : variable.function ≡ function
  pub there : variable.storage ≡ storage
  pub size : variable_size variable ≡ bytes

-- A graph has an object of a variable.
pub record HasObjectOf (g : Graph) (variable : ℕ) : Type 0 where
  pub index : ℕ
  pub object : MemoryObject
  pub is : slice_get g.objects index ≡ Some object
  pub var : object.var.0 ≡ variable

-- An image keeps the objects of a unit: static ones at their addresses, those of functions at their offsets in frames,
-- and nothing else in either.
pub record KeepsObjectsOf (h : HomedForm) (a : Arrangement) (m : Form) : Type 0 where
  pub statics : (k : ℕ) (o : StaticObject) → slice_get h.unit.statics k ≡ Some o
      → IsKept m k None (kept.Static (static_at h.unit k)) (static_bytes o)
  pub objects : (f k : ℕ) (o : MemoryObject) → slice_get (code_of h a f).graph.objects k ≡ Some o
      → IsKept m o.var.0 (Some f) (kept.Frame (object_at (code_of h a f).storage k)) (bytes_in o)
  pub static_only : (number address : ℕ) (v : Variable) → slice_get m.variables number ≡ Some v
      → v.storage ≡ kept.Static address → number < length h.unit.statics
  pub objects_only : (f number offset : ℕ) (v : Variable) → slice_get m.variables number ≡ Some v → v.function ≡ Some f
      → v.storage ≡ kept.Frame offset → HasObjectOf (code_of h a f).graph number

-- An activation stands at a place of its function, whose frame the image knows.
pub record IsPlaced (h : HomedForm) (a : Arrangement) (m : Form) (b : Activation) : Type 0 where
  pub some : b.place ≢ 0
  pub function : function_of_place m b.place ≡ b.function
  pub frame : frame_of m b.place ≡ (code_of h a b.function).size

-- The places of a unit's functions are those of an image's, which knows their frames.
pub record KeepsPlacesOf (h : HomedForm) (a : Arrangement) (m : Form) : Type 0 where
  pub some : (f p : ℕ) (g : Graph) → slice_get h.unit.graphs f ≡ Some g → IsPlaceOf g p → p ≢ 0
  pub function : (f p : ℕ) (g : Graph) → slice_get h.unit.graphs f ≡ Some g → IsPlaceOf g p → function_of_place m p ≡ f
  pub frame : (f p : ℕ) (g : Graph) → slice_get h.unit.graphs f ≡ Some g → IsPlaceOf g p
      → frame_of m p ≡ (code_of h a f).size

-- ---- The stack

-- The activations as they stand in the stack, from a frame on: each begins where the one before it ends.
abbrev pub standings : (codes : ℕ → FunctionCode) → (sp : ℕ) → List Activation → List Standing
standings codes sp [] = []
standings codes sp (b ∷ more) =
    record { place = b.place; frame = sp } ∷ standings codes (sp + (codes b.function).size) more

-- ---- Places

-- An image has the places of a unit's functions, each of its function.
pub record HasPlacesOf (u : UnitForm) (m : Form) : Type 0 where
  pub place : (f p : ℕ) (g : Graph) → slice_get u.graphs f ≡ Some g → IsPlaceOf g p
      → (q : Place) × (numbered m.places p ≡ Some q) × (q.function ≡ f)
