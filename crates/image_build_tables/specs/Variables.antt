-- What an image says of what a program declares.
use Rattle.std.specs.Prelude.{ℕ, zero, suc, ◌+◌, min, Option, Some, None, List, [], ◌∷◌, ◌++◌, length, map, replicate}
use Rattle.std.specs.List.{flat_map}
use Rattle.c_tree.specs.declared.types.IntegerType.{IntegerType}
use Rattle.c_tree.specs.declared.types.IntegerType.TheVariants.{Char, SignedChar, UnsignedChar, Short, UnsignedShort, Int, UnsignedInt, Long, UnsignedLong}
use Rattle.c_tree.specs.declared.object_type.ObjectType.{ObjectType}
use Rattle.c_tree.specs.declared.object_type.ObjectType.TheVariants as type
use Rattle.c_tree.specs.Programs.{AutomaticTree, LiteralTree, ProgramTree, StaticTree, TypedFunctionTree}
use Rattle.debug_records.specs.Change.{letters}
use Rattle.graph_core.specs.Graphs.{Logged}
use Rattle.image_form.specs.declared.tables.Function.{Function}
use Rattle.image_form.specs.declared.variables.ElementType.{ElementType}
use Rattle.image_form.specs.declared.variables.ElementType.TheVariants.{U8, I8, U16, I16, U32, I32, Pointer}
use Rattle.image_form.specs.declared.variables.Storage.{Storage}
use Rattle.image_form.specs.declared.variables.Variable.{Variable}

-- the element type of an integer type
abbrev pub element_of_integer : IntegerType → ElementType
element_of_integer Char = U8
element_of_integer SignedChar = I8
element_of_integer UnsignedChar = U8
element_of_integer Short = I16
element_of_integer UnsignedShort = U16
element_of_integer Int = I32
element_of_integer UnsignedInt = U32
element_of_integer Long = I32
element_of_integer UnsignedLong = U32

-- the element type of a scalar type: a pointer where it has a `*`, else that of its integer type
abbrev pub element_by_stars : IntegerType → (stars : ℕ) → ElementType
element_by_stars base zero = element_of_integer base
element_by_stars base (suc stars) = Pointer

-- the element type of an object's type
abbrev pub element_of_object : ObjectType → ElementType
element_of_object (type.Scalar s) = element_by_stars s.base s.stars
element_of_object (type.Array s count) = element_by_stars s.base s.stars

-- the number of elements of an array; 0 for a scalar
abbrev pub element_count : ObjectType → ℕ
element_count (type.Scalar s) = 0
element_count (type.Array s count) = count

-- how many there are, as far as numbers of 32 bits go
abbrev pub bounded_count : ℕ → ℕ
bounded_count n = min n 4294967295

-- What an image says of a variable, but for its function and where it is kept: how long its name is, where it is
-- declared, of what elements it is made and of how many.
pub record Shape : Type 0 where
  pub name_length : ℕ
  pub position : ℕ
  pub element : ElementType
  pub count : ℕ

-- what is compared of a variable of an image
abbrev pub shape : Variable → Shape
shape v = record { name_length = v.name_length; position = v.position; element = v.element; count = v.count }

-- a named static variable has its name, the line and column where it is declared, its element and its count
abbrev pub static_shape : StaticTree → Shape
static_shape v =
    record {
      name_length = bounded_count (length v.name);
      position = v.spot.at;
      element = element_of_object v.of;
      count = element_count v.of;
    }

-- a string literal has no name, and is an array of bytes
abbrev pub literal_shape : LiteralTree → Shape
literal_shape l = record { name_length = 0; position = l.spot.at; element = U8; count = bounded_count (length l.bytes) }

-- an automatic variable has its name, the line and column where it is declared, its element and its count
abbrev pub automatic_shape : AutomaticTree → Shape
automatic_shape v =
    record {
      name_length = bounded_count (length v.name);
      position = v.spot.at;
      element = element_of_object v.of;
      count = element_count v.of;
    }

-- the variables of a program: the named static ones, the literals, the automatic ones
abbrev pub shapes_of : ProgramTree → List Shape
shapes_of p = map static_shape p.statics ++ (map literal_shape p.literals ++ map automatic_shape p.automatics)

-- the function of a variable of an image, if it belongs to one
abbrev pub owner : Variable → Option ℕ
owner v = v.function

-- where a variable of an image is kept
abbrev pub storage : Variable → Storage
storage v = v.storage

-- to which functions variables belong, of functions the first of which has this number: as many as a function has are
-- its, function by function
abbrev pub owned_from : (number : ℕ) → List TypedFunctionTree → List (Option ℕ)
owned_from number [] = []
owned_from number (f ∷ more) = replicate f.variables (Some number) ++ owned_from (number + 1) more

-- to which functions the variables of a program belong: static ones and literals to none
abbrev pub owners_of : ProgramTree → List (Option ℕ)
owners_of p = map (λ v. None) p.statics ++ (map (λ l. None) p.literals ++ owned_from 0 p.functions)

-- the place at which a function of an image begins
abbrev pub entry : Function → ℕ
entry f = f.entry

-- the names of a program's functions and variables, one after the other
abbrev pub declared_names : ProgramTree → List ℕ
declared_names p =
    flat_map (λ (f : TypedFunctionTree). f.name) p.functions
    ++ (flat_map (λ (v : StaticTree). v.name) p.statics ++ flat_map (λ (v : AutomaticTree). v.name) p.automatics)

-- the names of the passes that made changes, one after the other, once for each change
abbrev pub pass_names : List Logged → List ℕ
pass_names log = flat_map (λ (c : Logged). letters c.pass) log

-- how long the name of a function is
abbrev pub name_length : Function → ℕ
name_length f = f.name_length

-- how many letters the name of a function of the program has
abbrev pub length_of_name : TypedFunctionTree → ℕ
length_of_name f = bounded_count (length f.name)
