-- Memory: all objects of a run, each with its owner, what it holds, and whether it lives (ISO/IEC 9899:2011, 6.2.4).
use Rattle.std.specs.Prelude.{◌≡◌, ℕ, suc, ◌*◌, ◌/◌, ◌&&◌, not, nat_le, ℤ, pos, negsuc, ◌+ℤ◌, Bool, true, false, if◌then◌else◌, Option, Some, None, option_map, option_and_then, List, [], ◌∷◌, ◌++◌, length, map, take, drop, replicate, slice_get, slice_set}
use Rattle.std.specs.Option.{option_map_or}
use Rattle.c_tree.specs.declared.object_type.Scalar.{Scalar}
use Rattle.c_tree.specs.declared.object_type.ObjectType.{ObjectType}
use Rattle.word_base.specs.Owners.{Owner, Static, Literal, Variable, is_same_owner}
use Rattle.c_meaning_values.specs.declared.value.Value.{Value}
use Rattle.c_meaning_values.specs.declared.value.Value.TheVariants.{Number, Null, Pointer}
use Rattle.c_meaning_values.specs.declared.value.Phase.{Phase}
use Rattle.c_meaning_values.specs.declared.value.Phase.TheVariants.{Initialising, Live, Ended}
use Rattle.c_meaning_values.specs.Types.{scalar_size, element_scalar, value_count, zero_of}

-- An object: whose it is, the type of its values, its values in order, and how far its lifetime has come.
pub record Object : Type 0 where
  pub owner : Owner
  pub element : Scalar
  pub values : List Value
  pub phase : Phase

-- Objects in the order in which they began. One that has ended stays, so that its number is never another's.
abbrev pub Memory : Type 0
Memory = List Object

-- an object's lifetime is over
abbrev pub is_over : Phase → Bool
is_over Initialising = false
is_over Live = false
is_over Ended = true

-- an object has values: its lifetime has begun, and it is initialised
abbrev pub is_begun : Phase → Bool
is_begun Initialising = false
is_begun Live = true
is_begun Ended = false

-- a new object of a type, all zero
abbrev pub new_object : Owner → ObjectType → Phase → Object
new_object owner of phase =
    record {
      owner = owner;
      element = element_scalar of;
      values = replicate (value_count of) (zero_of (element_scalar of));
      phase = phase;
    }

-- how many bytes an object has
abbrev pub bytes_of : Object → ℕ
bytes_of o = length o.values * scalar_size o.element

-- which of an object's values stands at an offset in bytes
abbrev pub index_at : Object → ℕ → ℕ
index_at o offset = offset / scalar_size o.element

-- the object is this owner's, and has not ended
abbrev pub is_owned : Owner → Object → Bool
is_owned owner o = not (is_over o.phase) && is_same_owner owner o.owner

-- the number of an owner's object
abbrev pub object_of : Owner → Memory → Option ℕ
object_of owner [] = None
object_of owner (o ∷ memory) = if is_owned owner o then Some 0 else option_map (λ n. suc n) (object_of owner memory)

-- a pointer to the beginning of an owner's object
abbrev pub pointer_to_owner : Owner → Memory → Option Value
pointer_to_owner owner memory = option_map (λ n. Pointer n 0) (object_of owner memory)

-- the values of an owner's object
abbrev pub contents : Owner → Memory → List Value
contents owner memory =
    option_map_or (λ o. o.values) (option_and_then (λ n. slice_get memory n) (object_of owner memory)) []

-- A value may be used where it is no pointer to an object that has ended (6.2.4p2).
abbrev pub is_usable : Memory → Value → Bool
is_usable memory (Number z) = true
is_usable memory Null = true
is_usable memory (Pointer n offset) = option_map_or (λ o. not (is_over o.phase)) (slice_get memory n) false

-- the value of the element at an offset of an object, if the object has values
abbrev pub value_in : Object → ℕ → Option Value
value_in o offset = if is_begun o.phase then slice_get o.values (index_at o offset) else None

-- What an object holds where a pointer points: not by null, not one past the object's end, not in an object that has
-- ended, nor in one that is being initialised and that nothing was stored in yet (6.5.3.2p4, 6.5.6p8, 6.3.2.1p2).
abbrev pub read : Memory → Value → Option Value
read memory (Number z) = None
read memory Null = None
read memory (Pointer n offset) = option_and_then (λ o. value_in o offset) (slice_get memory n)

-- a string literal's object must not be written (6.4.5p7)
abbrev pub is_literal : Owner → Bool
is_literal (Static n) = false
is_literal (Literal n) = true
is_literal (Variable x depth) = false

-- an object with another value at an index
abbrev pub with_value : Object → ℕ → Value → Object
with_value o index v = record o { values = slice_set o.values index v }

-- the memory in which an object's value of this index is another
abbrev pub set_value : Memory → ℕ → (index : ℕ) → Value → Memory
set_value memory n index v = option_map_or (λ o. slice_set memory n (with_value o index v)) (slice_get memory n) memory

-- an object's phase is another
abbrev pub in_phase : Phase → Object → Object
in_phase phase o = record o { phase = phase }

-- the object with this number can be read and written from now on
abbrev pub begun : Memory → ℕ → Memory
begun memory n = option_map_or (λ o. slice_set memory n (in_phase Live o)) (slice_get memory n) memory

-- the element at an offset of an object may be written: it is there, alive, and no part of a string literal
abbrev pub is_writable : Object → ℕ → Bool
is_writable o offset =
    not (is_over o.phase) && not (is_literal o.owner) && not (nat_le (length o.values) (index_at o offset))

-- A write changes a value of an object that may be written, and makes the object live: a read of a variable in its own
-- initializer is undefined only where nothing was assigned to it before, by its name or through a pointer (6.3.2.1p2,
-- 6.7.9p8).
abbrev pub written_in : Memory → ℕ → ℕ → Value → Object → Option Memory
written_in memory n offset v o =
    if is_writable o offset then Some (begun (set_value memory n (index_at o offset) v) n) else None

-- The memory behind a write where a pointer points: not by null, not one past the object's end, not to an object that
-- has ended, not to a string literal.
abbrev pub write : Memory → Value → Value → Option Memory
write memory (Number z) v = None
write memory Null v = None
write memory (Pointer n offset) v = option_and_then (written_in memory n offset v) (slice_get memory n)

-- an offset from 0 to so many bytes
abbrev pub in_bytes : (bytes : ℕ) → ℤ → Option ℕ
in_bytes bytes (pos offset) = if nat_le offset bytes then Some offset else None
in_bytes bytes (negsuc below) = None

-- the pointer into an object at an offset, or directly behind it, if that is there
abbrev pub in_object : ℕ → Object → ℤ → Option Value
in_object n o offset = option_map (λ k. Pointer n k) (in_bytes (bytes_of o) offset)

-- a pointer that was moved within an object that lives (C11 6.5.6 p8)
abbrev pub moved_in : ℕ → ℤ → Object → Option Value
moved_in n offset o = if is_over o.phase then None else in_object n o offset

-- A pointer moved by so many bytes: it stays in its object, or one past its end (6.5.6p8).
abbrev pub moved_by_bytes : Memory → Value → ℤ → Option Value
moved_by_bytes memory (Number z) by = None
moved_by_bytes memory Null by = None
moved_by_bytes memory (Pointer n offset) by = option_and_then (moved_in n (pos offset +ℤ by)) (slice_get memory n)

-- all objects that began when there were so many end
abbrev pub ended_from : ℕ → Memory → Memory
ended_from n memory = take n memory ++ map (in_phase Ended) (drop n memory)

-- an object may be written at an offset, which is that of this index
pub record IsOpen (memory : Memory) (n offset index : ℕ) : Type 0 where
  pub object : Object
  pub is : slice_get memory n ≡ Some object
  pub writable : is_writable object offset ≡ true
  pub at : index ≡ index_at object offset

-- there is no object that may be written at an offset
abbrev pub IsClosed : Memory → ℕ → ℕ → Type 0
IsClosed memory n offset = (o : Object) → slice_get memory n ≡ Some o → is_writable o offset ≡ false
