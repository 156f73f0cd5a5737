-- When a unit has the variables of a program.
use Rattle.std.specs.Prelude.{◌≡◌, ◌≢◌, ℕ, ◌+◌, ◌*◌, Some, length, slice_get}
use Rattle.c_tree.specs.Programs.{StaticTree, AutomaticTree, LiteralTree, ProgramTree}
use Rattle.c_meaning_values.specs.Types.{element_scalar, value_count, scalar_size}
use Rattle.graph_core.specs.declared.graph.MemoryObject.{MemoryObject}
use Rattle.graph_core.specs.Graphs.{Graph, Scalar, StaticObject, UnitForm}
use Rattle.graph_core.specs.Memory.{static_bytes}
use Rattle.graph_core.specs.Values.{size_of}
use Rattle.image_build_tables.specs.Variables.{owned_from}
use Rattle.image_truth_units.specs.Variables.{static_count, automatic_number}

-- A number is that of an automatic variable of a function.
pub record IsVariableOf (p : ProgramTree) (function number : ℕ) : Type 0 where
  pub variable : ℕ
  pub tree : AutomaticTree
  pub is : slice_get p.automatics variable ≡ Some tree
  pub number_is : number ≡ automatic_number p variable
  pub owner : slice_get (owned_from 0 p.functions) variable ≡ Some (Some function)

-- A unit has an object for each static variable and each literal, of as many bytes; and the graph of a function has
-- names and objects of its automatic variables alone, at most one for each, and objects of as many bytes as the
-- variables have.
pub record HasVariablesIn (p : ProgramTree) (u : UnitForm) : Type 0 where
  pub statics : length u.statics ≡ static_count p
  pub static_size : (n : ℕ) (t : StaticTree) (o : StaticObject) → slice_get p.statics n ≡ Some t
      → slice_get u.statics n ≡ Some o → static_bytes o ≡ value_count t.of * scalar_size (element_scalar t.of)
  pub literal_size : (n : ℕ) (l : LiteralTree) (o : StaticObject) → slice_get p.literals n ≡ Some l
      → slice_get u.statics (length p.statics + n) ≡ Some o → static_bytes o ≡ length l.bytes
  pub scalars : (f k : ℕ) (g : Graph) (s : Scalar) → slice_get u.graphs f ≡ Some g → slice_get g.scalars k ≡ Some s
      → IsVariableOf p f s.variable
  pub objects : (f k : ℕ) (g : Graph) (o : MemoryObject) → slice_get u.graphs f ≡ Some g
      → slice_get g.objects k ≡ Some o → IsVariableOf p f o.var.0
  pub object_size : (f k x : ℕ) (g : Graph) (o : MemoryObject) (a : AutomaticTree) → slice_get u.graphs f ≡ Some g
      → slice_get g.objects k ≡ Some o → o.var.0 ≡ automatic_number p x → slice_get p.automatics x ≡ Some a
      → o.count * size_of o.element ≡ value_count a.of * scalar_size (element_scalar a.of)
  pub one_name : (f j k : ℕ) (g : Graph) (s t : Scalar) → slice_get u.graphs f ≡ Some g → slice_get g.scalars j ≡ Some s
      → slice_get g.scalars k ≡ Some t → s.variable ≡ t.variable → j ≡ k
  pub one_object : (f j k : ℕ) (g : Graph) (o q : MemoryObject) → slice_get u.graphs f ≡ Some g
      → slice_get g.objects j ≡ Some o → slice_get g.objects k ≡ Some q → o.var.0 ≡ q.var.0 → j ≡ k
  pub apart : (f j k : ℕ) (g : Graph) (s : Scalar) (o : MemoryObject) → slice_get u.graphs f ≡ Some g
      → slice_get g.scalars j ≡ Some s → slice_get g.objects k ≡ Some o → s.variable ≢ o.var.0
