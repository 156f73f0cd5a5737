-- When the variables of an image are a program's.
use Rattle.std.specs.Prelude.{◌≡◌, ◌≢◌, ℕ, ◌+◌, ◌<◌, ◌≤◌, Some, List, length, slice_get}
use Rattle.c_tree.specs.declared.object_type.ObjectType.{ObjectType}
use Rattle.c_tree.specs.declared.object_type.ObjectType.TheVariants as type
use Rattle.c_tree.specs.Programs.{StaticTree, AutomaticTree, LiteralTree, ProgramTree}
use Rattle.image_form.specs.Form.{Form}
use Rattle.image_form.specs.Names.{variable_name}
use Rattle.image_form.specs.declared.variables.Storage.TheVariants as kept
use Rattle.image_form.specs.declared.variables.Variable.{Variable}
use Rattle.image_build_tables.specs.Variables.{element_of_object, element_count}
pub use Rattle.graph_build_runs.specs.Correspondence.{variable_of as automatic_number}

-- how many objects of static storage a program has: its static variables come first among all, then its string literals
abbrev pub static_count : ProgramTree → ℕ
static_count p = length p.statics + length p.literals

-- an array has an element at least
abbrev pub HasElements : ObjectType → Type 0
HasElements (type.Scalar s) = Unit {0}
HasElements (type.Array element count) = 1 ≤ count

-- The variable of an image with this number has a name, which is this one, and is of a type.
pub record IsNamed (m : Form) (number : ℕ) (name : List ℕ) (of : ObjectType) : Type 0 where
  pub variable : Variable
  pub is : slice_get m.variables number ≡ Some variable
  pub length_is : variable.name_length ≢ 0
  pub name_is : variable_name m number ≡ name
  pub element : variable.element ≡ element_of_object of
  pub count : variable.count ≡ element_count of
  pub some : HasElements of

-- The variable of an image with this number is a string literal, which has no name.
pub record IsLiteral (m : Form) (number : ℕ) : Type 0 where
  pub variable : Variable
  pub is : slice_get m.variables number ≡ Some variable
  pub length_is : variable.name_length ≡ 0

-- The variables of an image are a program's, each by its number: only automatic ones belong to functions, and only
-- those of static storage are kept at addresses of their own.
pub record HasVariablesOf (p : ProgramTree) (m : Form) : Type 0 where
  pub statics : (n : ℕ) (v : StaticTree) → slice_get p.statics n ≡ Some v → IsNamed m n v.name v.of
  pub literals : (n : ℕ) (l : LiteralTree) → slice_get p.literals n ≡ Some l → IsLiteral m (length p.statics + n)
  pub automatics : (x : ℕ) (a : AutomaticTree) → slice_get p.automatics x ≡ Some a
      → IsNamed m (automatic_number p x) a.name a.of
  pub owned : (k f : ℕ) (v : Variable) → slice_get m.variables k ≡ Some v → v.function ≡ Some f → static_count p ≤ k
  pub fixed : (k address : ℕ) (v : Variable) → slice_get m.variables k ≡ Some v → v.storage ≡ kept.Static address
      → k < static_count p
