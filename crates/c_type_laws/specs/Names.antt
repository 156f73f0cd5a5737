-- What else each accepted program keeps: its names are identifiers of C, its static arrays have elements, and its
-- literals have bytes, for which there is room.
use Rattle.std.specs.Prelude.{ℕ, ◌^◌, ◌==◌, ◌&&◌, ◌||◌, nat_le, nat_lt, Bool, true, false, List, [], ◌∷◌, length, IsTrue}
use Rattle.std.specs.List.{list_all}
use Rattle.c_tree.specs.declared.object_type.ObjectType.{ObjectType}
use Rattle.c_tree.specs.declared.object_type.ObjectType.TheVariants as of-object
use Rattle.c_tree.specs.Programs.{AutomaticTree, LiteralTree, StaticTree, TypedFunctionTree, ProgramTree}

-- a letter or the underscore, with which an identifier begins (ISO/IEC 9899:2011, 6.4.2.1)
abbrev pub begins_identifier : ℕ → Bool
begins_identifier b = (nat_le 97 b && nat_le b 122) || (nat_le 65 b && nat_le b 90) || b == 95

-- a letter, the underscore or a digit
abbrev pub is_identifier_byte : ℕ → Bool
is_identifier_byte b = begins_identifier b || (nat_le 48 b && nat_le b 57)

-- an identifier of C; keywords are not told apart
abbrev pub is_identifier : List ℕ → Bool
is_identifier [] = false
is_identifier (b ∷ more) = begins_identifier b && list_all is_identifier_byte more

-- a name is an identifier of no more than 63 bytes
abbrev pub is_name : List ℕ → Bool
is_name s = is_identifier s && nat_le (length s) 63

-- an array has fewer elements than 2 ^ 32
abbrev pub has_few_elements : ObjectType → Bool
has_few_elements (of-object.Scalar s) = true
has_few_elements (of-object.Array element count) = nat_lt count (2 ^ 32)

-- a variable has a name, and fewer elements than 2 ^ 32
abbrev pub is_named : (name : List ℕ) → ObjectType → Bool
is_named name of = is_name name && has_few_elements of

-- so has each of these static variables
abbrev pub statics_named : List StaticTree → Bool
statics_named [] = true
statics_named (v ∷ more) = is_named v.name v.of && statics_named more

-- so has each of these automatic variables
abbrev pub automatics_named : List AutomaticTree → Bool
automatics_named [] = true
automatics_named (a ∷ more) = is_named a.name a.of && automatics_named more

-- each of these functions has a name
abbrev pub functions_named : List TypedFunctionTree → Bool
functions_named [] = true
functions_named (f ∷ more) = is_name f.name && functions_named more

-- an array has an element at least
abbrev pub has_elements : ObjectType → Bool
has_elements (of-object.Scalar s) = true
has_elements (of-object.Array element count) = nat_le 1 count

-- each static array does
abbrev pub statics_have_elements : List StaticTree → Bool
statics_have_elements [] = true
statics_have_elements (v ∷ more) = has_elements v.of && statics_have_elements more

-- each literal has a byte at least, and no more of them than static memory has
abbrev pub literals_have_room : List LiteralTree → Bool
literals_have_room [] = true
literals_have_room (l ∷ more) = nat_le 1 (length l.bytes) && nat_le (length l.bytes) 1048576 && literals_have_room more

-- A program whose variables and functions have names, whose arrays have fewer elements than 2 ^ 32, whose static ones
-- have some, and whose literals have bytes, for which there is room.
pub record HasNames (p : ProgramTree) : Type 0 where
  pub statics : IsTrue (statics_named p.statics)
  pub automatics : IsTrue (automatics_named p.automatics)
  pub functions : IsTrue (functions_named p.functions)
  pub elements : IsTrue (statics_have_elements p.statics)
  pub literals : IsTrue (literals_have_room p.literals)
