-- What objects of static storage hold at first (6.7.9p4 and p10): constants, in the bytes of the machine, the lowest
-- first.
use Rattle.std.specs.Prelude.{ℕ, zero, suc, ◌/◌, ◌%◌, ◌^◌, List, [], ◌∷◌, ◌++◌, length, take, Option, Some, None}
use Rattle.std.specs.Option.{option_map_or}
use Rattle.debug_records.specs.declared.code.TheConstants.Code.{INITIALIZER}
use Rattle.c_tree.specs.declared.extent.Extent.{Extent}
use Rattle.c_tree.specs.declared.object_type.Scalar.{Scalar}
use Rattle.c_tree.specs.declared.object_type.ObjectType.{ObjectType}
use Rattle.c_tree.specs.declared.object_type.ObjectType.TheVariants as object
use Rattle.c_tree.specs.declared.program.Relocation.{Relocation}
use Rattle.c_tree.specs.Declarations.{InitializerTree, Value, Braces, InitializerTrees, none, first}
use Rattle.c_type_rules.specs.declared.constancy.Constancy.{Constancy}
use Rattle.c_type_rules.specs.declared.constancy.Constancy.TheVariants.{Varies, Known, Address}
use Rattle.c_type_rules.specs.Integers.{residue, scalar_size}
use Rattle.c_type_values.specs.Values.{ValueTree}
use Rattle.c_type_declarations.specs.Progress.{ProgressTree, Met, means, next_met, breaks}
use Rattle.c_type_declarations.specs.Objects.{literal_for, count}
use Rattle.c_type_declarations.specs.Initials.{misfit_met, scalar_met, within_count}
use Rattle.c_type_declarations.specs.declared.fixed.Contents as declared-contents

-- bytes, and the words among them that hold addresses
pub record Contents : Type 0 where
  pub bytes : List ℕ
  pub relocations : List Relocation

abbrev pub contents_view : declared-contents.Contents → Contents
contents_view c = record { bytes = c.bytes.items; relocations = c.relocations.items }

-- no byte, and no address among bytes
abbrev pub nothing : Contents
nothing = record { bytes = []; relocations = [] }

-- so many bytes of a number, the lowest first
abbrev pub low_bytes : ℕ → ℕ → List ℕ
low_bytes zero n = []
low_bytes (suc k) n = n % 256 ∷ low_bytes k (n / 256)

-- bytes with a constant of a scalar type behind them; the place of an address is zero
abbrev pub with_constant : Scalar → Constancy → Contents → Contents
with_constant s (Known z) c = record c { bytes = c.bytes ++ low_bytes (scalar_size s) (residue z (2 ^ 32)) }
with_constant s (Address object offset) c =
    record {
      bytes = c.bytes ++ low_bytes (scalar_size s) 0;
      relocations = c.relocations ++ record { at = length c.bytes; object = object; offset = offset } ∷ [];
    }
with_constant s k c = record c { bytes = c.bytes ++ low_bytes (scalar_size s) 0 }

-- a constant: a number, or the address of an object of static storage or a literal (E27)
abbrev pub constant_met : Extent → Constancy → ProgressTree → ProgressTree
constant_met extent (Known z) p = p
constant_met extent (Address object offset) p = p
constant_met extent k p = breaks INITIALIZER extent p

-- bytes with a scalar's value behind them, which has to be a constant; nothing more is asked of one at fault
abbrev pub filled : Scalar → Extent → Option ValueTree → Contents → ProgressTree → Met Contents
filled s extent (Some v) c p = means (with_constant s v.constant c) (constant_met extent v.constant p)
filled s extent None c p = means (with_constant s Varies c) p

-- initializers of elements, in order, behind bytes
abbrev pub fills_met : Scalar → Extent → InitializerTrees → Contents → ProgressTree → Met Contents
fills_met s extent none c p = means c p
fills_met s extent (first i more) c p =
    next_met (scalar_met s extent i p) (λ v q. next_met (filled s extent v c q) (fills_met s extent more))

-- the bytes of a literal with its final zero, as far as there is room, but for which all have room (E27)
abbrev pub literal_bytes : ℕ → List ℕ → List ℕ
literal_bytes size bytes = take size (bytes ++ 0 ∷ [])

-- the first bytes of a static array that a list initialises
abbrev pub list_contents : Scalar → ℕ → Extent → InitializerTree → ProgressTree → Met Contents
list_contents element size extent (Braces all) p =
    fills_met element extent all nothing (within_count (count all) size extent p)
list_contents element size extent (Value e) p = means nothing (misfit_met extent e p)

-- what an initializer puts into an object of static storage
abbrev pub put_met : ObjectType → Extent → InitializerTree → ProgressTree → Met Contents
put_met (object.Scalar s) extent i p = next_met (scalar_met s extent i p) (λ v. filled s extent v nothing)
put_met (object.Array element size) extent i p =
    option_map_or
    (λ l. means (record { bytes = literal_bytes size l.1; relocations = [] }) (within_count (length l.1) size extent p))
    (literal_for element i)
    (list_contents element size extent i p)

-- the first bytes of a static object (C11 6.7.9 p10)
abbrev pub contents_met : ObjectType → Extent → Option InitializerTree → ProgressTree → Met Contents
contents_met of extent (Some i) p = put_met of extent i p
contents_met of extent None p = means nothing p
