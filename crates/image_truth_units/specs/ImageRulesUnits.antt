-- When the graphs of a unit have the places of its program's functions.
use Rattle.std.specs.Prelude.{◌≡◌, ℕ, ◌+◌, ◌⊎◌, Some, slice_get}
use Rattle.c_tree.specs.declared.object_type.ObjectType.{ObjectType}
use Rattle.c_tree.specs.declared.object_type.ObjectType.TheVariants as type
use Rattle.c_tree.specs.Programs.{AutomaticTree, ProgramTree}
use Rattle.c_places.specs.Places.{Place, places_of_program}
use Rattle.graph_core.specs.declared.graph.MemoryObject.{MemoryObject}
use Rattle.graph_core.specs.Graphs.{Graph, Scalar, UnitForm}
use Rattle.graph_core.specs.Paths.{Among}
use Rattle.graph_core.specs.Validity.{markers_of_blocks}
use Rattle.image_build_tables.specs.Variables.{owned_from}
use Rattle.image_truth_units.specs.Variables.{automatic_number}

-- A number is that of a place of a function; places are numbered from 1.
pub record IsPlaceIn (p : ProgramTree) (function number : ℕ) : Type 0 where
  pub index : ℕ
  pub at : Place
  pub is : slice_get (places_of_program p) index ≡ Some at
  pub number_is : number ≡ index + 1
  pub function_is : at.function ≡ function

-- THE MARKERS OF A UNIT ARE ITS PROGRAM'S PLACES: each place has one, in the graph of its function, and each is that of
-- such a place.
pub record HasOwnPlaces (p : ProgramTree) (u : UnitForm) : Type 0 where
  pub marked : (i : ℕ) (q : Place) (g : Graph) → slice_get (places_of_program p) i ≡ Some q
      → slice_get u.graphs q.function ≡ Some g → Among (i + 1) (markers_of_blocks g.blocks)
  pub own : (f place : ℕ) (g : Graph) → slice_get u.graphs f ≡ Some g → Among place (markers_of_blocks g.blocks)
      → IsPlaceIn p f place

-- A graph has a scalar for the variable of this number.
pub record HasScalarOf (g : Graph) (number : ℕ) : Type 0 where
  pub index : ℕ
  pub scalar : Scalar
  pub is : slice_get g.scalars index ≡ Some scalar
  pub variable_is : scalar.variable ≡ number

-- It has an object in memory for it.
pub record HasObjectOf (g : Graph) (number : ℕ) : Type 0 where
  pub index : ℕ
  pub object : MemoryObject
  pub is : slice_get g.objects index ≡ Some object
  pub variable_is : object.var.0 ≡ number

-- a type that is no array's
abbrev pub IsSingle : ObjectType → Type 0
IsSingle (type.Scalar s) = Unit {0}
IsSingle (type.Array element count) = ⊥

-- EACH VARIABLE OF A FUNCTION HAS A HOME IN ITS GRAPH: it is one of the graph's scalars or of its objects, and a scalar
-- is no array.
pub record HasAllVariables (p : ProgramTree) (u : UnitForm) : Type 0 where
  pub there : (x f : ℕ) (a : AutomaticTree) (g : Graph) → slice_get p.automatics x ≡ Some a
      → slice_get (owned_from 0 p.functions) x ≡ Some (Some f) → slice_get u.graphs f ≡ Some g
      → HasScalarOf g (automatic_number p x) ⊎ HasObjectOf g (automatic_number p x)
  pub single : (f k x : ℕ) (g : Graph) (s : Scalar) (a : AutomaticTree) → slice_get u.graphs f ≡ Some g
      → slice_get g.scalars k ≡ Some s → s.variable ≡ automatic_number p x → slice_get p.automatics x ≡ Some a
      → IsSingle a.of
