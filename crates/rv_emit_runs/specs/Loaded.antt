-- What static memory holds as a run begins.
use Rattle.std.specs.Prelude.{◌≡◌, ℕ, ◌+◌, ◌≤◌, Some, List, slice_get}
use Rattle.memory_map.specs.Maps.{bytes_end}
use Rattle.graph_core.specs.Graphs.{UnitForm, StaticObject}
use Rattle.graph_core.specs.Memory.{Object, bytes_of, first_memory}
use Rattle.rv_emit_storage.specs.Storages.{StorageForm, static_object_at}
use Rattle.rv_emit_storage.specs.UnitMaps.{map_of_unit}
use Rattle.rv_emit_steps.specs.Meaning.{HoldsObjects, AreLaid}
use Rattle.rv_emit_steps.specs.Frames.{Setting, HasArray}

-- Static memory as it is loaded, where objects have addresses: each static object lies where the code finds it, and
-- holds what it holds first; the bytes that initialise arrays stand there too.
pub record IsLoaded (u : UnitForm) (storage : StorageForm) (addresses : ℕ → ℕ) (m : ℕ → ℕ) : Type 0 where
  pub fits : storage.base + 1 ≤ 4294967296
  pub laid : AreLaid (map_of_unit u) addresses (first_memory u.statics)
  pub objects : HoldsObjects addresses (first_memory u.statics) m
  pub static : (n : ℕ) (o : Object) → slice_get (first_memory u.statics) n ≡ Some o
      → addresses n + bytes_of o ≤ bytes_end (map_of_unit u)
  pub at : (n : ℕ) (o : StaticObject) → slice_get u.statics n ≡ Some o → addresses n ≡ static_object_at storage n
  pub arrays : (w : Setting) → w.unit ≡ u → w.storage ≡ storage → w.addresses ≡ addresses → (n : ℕ) (all : List ℕ)
      → slice_get u.array_bytes n ≡ Some all → HasArray w (first_memory u.statics) m n all
