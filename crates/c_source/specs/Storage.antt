-- What initializers put into objects of static storage in an accepted source: bytes and addresses that the objects
-- hold.
use Rattle.std.specs.Prelude.{◌≡◌, ℕ, ◌*◌, ◌==◌, ◌&&◌, ◌||◌, nat_le, nat_lt, Bool, true, List, [], ◌∷◌, length}
use Rattle.c_tree.specs.declared.object_type.Scalar.{Scalar}
use Rattle.c_tree.specs.declared.object_type.ObjectType.{ObjectType}
use Rattle.c_tree.specs.declared.program.Relocation.{Relocation}
use Rattle.c_tree.specs.Programs.{StaticTree, ProgramTree}
use Rattle.c_type_rules.specs.Integers.{object_size, scalar_size}
use Rattle.c_type_declarations.specs.Statics.{Contents}
use Rattle.c_type_laws.specs.Names.{statics_named, statics_have_elements}
use Rattle.c_type_laws.specs.Orders.{ascends}
use Rattle.c_type_laws.specs.Objects.{element_of, spots_of, hold_addresses, are_zero, are_static}
use Rattle.c_type_laws.specs.Statics.{are_bytes, all_suit, statics_sound}

-- words that hold addresses stand before a place
abbrev pub are_before : ℕ → List Relocation → Bool
are_before n [] = true
are_before n (r ∷ more) = nat_lt r.at n && are_before n more

-- Contents hold so many elements of a type: their bytes, and addresses in order, which the elements may hold.
pub record Fills (p : ProgramTree) (s : Scalar) (n : ℕ) (c : Contents) : Type 0 where
  pub room : length c.bytes ≡ n * scalar_size s
  pub bytes : are_bytes c.bytes ≡ true
  pub addresses : hold_addresses p s c.relocations ≡ true
  pub suit : all_suit s c.relocations ≡ true
  pub order : ascends (spots_of c.relocations) ≡ true
  pub before : are_before (length c.bytes) c.relocations ≡ true
  pub empty : s.stars == 0 || are_zero c.bytes ≡ true

-- Contents are those that an object of a type may have.
pub record Fits (p : ProgramTree) (of : ObjectType) (c : Contents) : Type 0 where
  pub room : nat_le (length c.bytes) (object_size of) ≡ true
  pub bytes : are_bytes c.bytes ≡ true
  pub addresses : hold_addresses p (element_of of) c.relocations ≡ true
  pub suit : all_suit (element_of of) c.relocations ≡ true
  pub order : ascends (spots_of c.relocations) ≡ true
  pub empty : (element_of of).stars == 0 || are_zero c.bytes ≡ true

-- static objects keep the laws of static storage, and have names and elements
abbrev pub AreStored : ProgramTree → List StaticTree → Type 0
AreStored p all =
    (are_static p all ≡ true) × (statics_sound all ≡ true) × (statics_named all ≡ true)
    × (statics_have_elements all ≡ true)
