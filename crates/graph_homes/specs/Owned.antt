-- Whose the live objects of a unit's run are, and where its activations are.
use Rattle.std.specs.Prelude.{◌≡◌, ℕ, ◌+◌, ◌*◌, ◌⊎◌, true, Some, List, ◌∷◌, length, map, slice_get}
use Rattle.std.specs.List.{AllByRecursion}
use Rattle.graph_core.specs.declared.graph.MemoryObject.{MemoryObject}
use Rattle.graph_core.specs.declared.value.Owner.TheVariants.{Static, Automatic}
use Rattle.graph_core.specs.Graphs.{Marker, Block, Graph, StaticObject, UnitForm}
use Rattle.graph_core.specs.Memory.{Memory, Object, bytes_of, static_bytes}
use Rattle.graph_core.specs.Paths.{Among}
use Rattle.graph_core.specs.Runs.{Activation, Configuration}
use Rattle.graph_core.specs.Values.{size_of}
use Rattle.graph_homes.specs.Homed.{HomedForm, home_of, placed_graph}
use Rattle.graph_homes.specs.Seen.{Seen, Going, Over}

-- ---- Objects

-- What an activation's objects rest on: its function, its graph, and the number of its first object.
pub record Base : Type 0 where
  pub function : ℕ
  pub graph : Graph
  pub first : ℕ

abbrev pub base_of : Activation → Base
base_of a = record { function = a.function; graph = a.graph; first = a.first_object }

-- those of all activations, the innermost first
abbrev pub bases_of : Configuration → List Base
bases_of c = base_of c.here ∷ map base_of c.waiting

-- An object is the static one of a unit with this number.
pub record IsStaticObject (u : UnitForm) (number n : ℕ) (q : Object) : Type 0 where
  pub same : number ≡ n
  pub object : StaticObject
  pub is : slice_get u.statics n ≡ Some object
  pub bytes : bytes_of q ≡ static_bytes object

-- An object is that of a variable of the activation at a depth, of which the last one has depth 1.
pub record IsObjectOf (bases : List Base) (variable depth n : ℕ) (q : Object) : Type 0 where
  pub index : ℕ
  pub base : Base
  pub there : slice_get bases index ≡ Some base
  pub deep : depth + index ≡ length bases
  pub number : ℕ
  pub object : MemoryObject
  pub is : slice_get base.graph.objects number ≡ Some object
  pub var : object.var.0 ≡ variable
  pub at : n ≡ base.first + number
  pub bytes : bytes_of q ≡ object.count * size_of object.element

-- Each live object is static, or one of a live activation.
pub record AreOwned (u : UnitForm) (memory : Memory) (bases : List Base) : Type 0 where
  pub statics : (n k : ℕ) (q : Object) → slice_get memory n ≡ Some q → q.live ≡ true → q.owner ≡ Static k
      → IsStaticObject u k n q
  pub automatics : (n x depth : ℕ) (q : Object) → slice_get memory n ≡ Some q → q.live ≡ true
      → q.owner ≡ Automatic x depth → IsObjectOf bases x depth n q

-- ---- Places

-- A graph begins at a place, or has a marker of it.
pub record HasMarker (g : Graph) (place : ℕ) : Type 0 where
  pub number : ℕ
  pub block : Block
  pub is : slice_get g.blocks number ≡ Some block
  pub marker : Among (Marker place) block.instructions

abbrev pub IsPlaceOf : Graph → (place : ℕ) → Type 0
IsPlaceOf g place = (place ≡ g.entry) ⊎ HasMarker g place

-- An activation is one of a function of a unit, stands at a place of it, and comes to no others.
pub record IsActivation (u : UnitForm) (a : Activation) : Type 0 where
  pub graph : slice_get u.graphs a.function ≡ Some a.graph
  pub place : IsPlaceOf a.graph a.place
  pub rest : (place : ℕ) → Among (Marker place) a.rest → IsPlaceOf a.graph place

-- ---- Runs

-- The live objects of a configuration are owned, and its activations are ones of functions.
pub record IsRunning (u : UnitForm) (c : Configuration) : Type 0 where
  pub owned : AreOwned u c.memory (bases_of c)
  pub here : IsActivation u c.here
  pub waiting : AllByRecursion (IsActivation u) c.waiting

-- so it is in what is seen
abbrev pub IsSeenRunning : UnitForm → Seen → Type 0
IsSeenRunning u (Going e c) = IsRunning u c
IsSeenRunning u (Over e) = Unit {0}

-- An activation over homes is one of a function of the unit, and stands at a place of it.
pub record IsOfFunction (h : HomedForm) (a : Activation) : Type 0 where
  pub graph : Graph
  pub is : slice_get h.unit.graphs a.function ≡ Some graph
  pub placed : a.graph ≡ placed_graph (home_of h a.function) graph
  pub place : IsPlaceOf graph a.place
