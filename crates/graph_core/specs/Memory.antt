-- Memory: all objects of a run.
use Rattle.std.specs.Prelude.{ℕ, zero, suc, ◌+◌, ◌*◌, ◌/◌, ◌%◌, ◌==◌, ◌&&◌, nat_le, nat_lt, Bool, true, false, if◌then◌else◌, Option, Some, None, option_map, option_and_then, List, [], ◌∷◌, ◌++◌, length, map, take, drop, replicate, slice_get, slice_set}
use Rattle.std.specs.Option.{option_map_or}
use Rattle.graph_core.specs.declared.value.Value.{Value}
use Rattle.graph_core.specs.declared.value.Value.TheVariants.{Number, Pointer, Odd}
use Rattle.graph_core.specs.declared.value.Owner.{Owner}
use Rattle.graph_core.specs.declared.value.Owner.TheVariants.{Static, Automatic}
use Rattle.graph_core.specs.declared.instruction.Element.{Element}
use Rattle.graph_core.specs.declared.graph.MemoryObject.{MemoryObject}
use Rattle.graph_core.specs.declared.unit.Relocation.{Relocation}
use Rattle.graph_core.specs.Graphs.{StaticObject}
use Rattle.graph_core.specs.Values.{size_of, as_element, pointer_at}

-- An object: whose it is, what its elements are, what they hold, and whether it lives.
pub record Object : Type 0 where
  pub owner : Owner
  pub element : Element
  pub values : List Value
  pub live : Bool

-- Objects in the order in which they began. One that has ended stays, so that its number is never another's.
abbrev pub Memory : Type 0
Memory = List Object

-- how many bytes an object has
abbrev pub bytes_of : Object → ℕ
bytes_of o = length o.values * size_of o.element

-- how many words these bytes take
abbrev pub words_of : (bytes : ℕ) → ℕ
words_of bytes = (bytes + 3) / 4

-- the object with this number lives
abbrev pub is_live : Memory → ℕ → Bool
is_live memory n = option_map_or (λ o. o.live) (slice_get memory n) false

-- a pointer to the beginning of an object
abbrev pub pointer_to_object : Memory → ℕ → Value
pointer_to_object memory n = option_map_or (λ o. Pointer n (bytes_of o) 0) (slice_get memory n) Odd

-- the address of so many bytes behind the beginning of an object
abbrev pub address_in : Memory → (object offset : ℕ) → Value
address_in memory n offset = option_map_or (λ o. pointer_at n (bytes_of o) offset) (slice_get memory n) Odd

-- Which of an object's values an access by an element reaches at an offset in bytes: the object lives, its elements are
-- as wide, and one stands there.
abbrev pub index_in : Element → (offset : ℕ) → Object → Option ℕ
index_in e offset o =
    if o.live && size_of e == size_of o.element && offset % size_of e == 0
    && nat_lt (offset / size_of e) (length o.values)
    then Some (offset / size_of e) else None

-- what an access by an element reads of an object at an offset in bytes, if it reaches a value
abbrev pub value_in : Element → (offset : ℕ) → Object → Option Value
value_in e offset o = option_map (as_element e) (option_and_then (λ i. slice_get o.values i) (index_in e offset o))

-- What an access by an element reads where a value points; none where it reaches no value of a live object.
abbrev pub read : Memory → Element → Value → Option Value
read memory e (Number w) = None
read memory e (Pointer n size offset) = option_and_then (value_in e offset) (slice_get memory n)
read memory e Odd = None

-- one value of an object is another, as its elements keep it
abbrev pub with_value : (index : ℕ) → Value → Object → Object
with_value index v o = record o { values = slice_set o.values index (as_element o.element v) }

-- one value of the object with this number is another
abbrev pub written_in : Memory → ℕ → Value → Object → ℕ → Memory
written_in memory n v o index = slice_set memory n (with_value index v o)

-- the memory behind a write to an object at an offset in bytes, if it reaches a value
abbrev pub write_in : Memory → ℕ → Element → (offset : ℕ) → Value → Object → Option Memory
write_in memory n e offset v o = option_map (written_in memory n v o) (index_in e offset o)

-- The memory behind a write by an element where a value points; none where it reaches no value of a live object.
abbrev pub write : Memory → Element → Value → Value → Option Memory
write memory e (Number w) v = None
write memory e (Pointer n size offset) v = option_and_then (write_in memory n e offset v) (slice_get memory n)
write memory e Odd v = None

-- the number that bytes spell, the lowest first
abbrev pub spelled : List ℕ → ℕ
spelled [] = 0
spelled (byte ∷ more) = byte + 256 * spelled more

-- the element of this index that bytes hold; behind them all is zero
abbrev pub element_in : List ℕ → Element → (index : ℕ) → Value
element_in bytes e index = as_element e (Number (spelled (take (size_of e) (drop (index * size_of e) bytes))))

-- the elements that bytes hold, from an index on
abbrev pub elements_from : List ℕ → Element → (index count : ℕ) → List Value
elements_from bytes e index zero = []
elements_from bytes e index (suc count) = element_in bytes e index ∷ elements_from bytes e (index + 1) count

-- so many values of an object, from its beginning, are others; none where the object has not so many words or has ended
abbrev pub filled : (words : ℕ) → (List Value) → Object → Option Object
filled words values o =
    if o.live && nat_le words (words_of (bytes_of o))
    then Some (record o { values = take (length o.values) values ++ drop (length values) o.values }) else None

-- the object with this number is another
abbrev pub with_object : Memory → ℕ → Object → Memory
with_object memory n o = slice_set memory n o

-- So many words of an object become zero.
abbrev pub zeroed : Memory → ℕ → (words : ℕ) → Option Memory
zeroed memory n words =
    option_and_then
    (λ o. option_map (with_object memory n) (filled words (replicate (4 * words / size_of o.element) (Number 0)) o))
    (slice_get memory n)

-- So many words of bytes are copied into an object; none where there are not so many.
abbrev pub copied : Memory → ℕ → List ℕ → (words : ℕ) → Option Memory
copied memory n bytes words =
    if nat_le words (words_of (length bytes))
    then option_and_then
    (λ o. option_map (with_object memory n)
    (filled words (elements_from bytes o.element 0 (4 * words / size_of o.element)) o))
    (slice_get memory n)
    else None

-- a new automatic object of an activation: nothing is known of what it holds
abbrev pub new_object : (depth : ℕ) → MemoryObject → Object
new_object depth m =
    record { owner = Automatic m.var.0 depth; element = m.element; values = replicate m.count Odd; live = true }

-- all objects that began when there were so many end
abbrev pub ended : Object → Object
ended o = record o { live = false }

-- the memory in which all objects from a number on have ended
abbrev pub ended_from : ℕ → Memory → Memory
ended_from n memory = take n memory ++ map ended (drop n memory)

-- how many bytes a static object has
abbrev pub static_bytes : StaticObject → ℕ
static_bytes o = o.count * size_of o.element

-- the address by the first relocation at an offset of a static object, if there is one
abbrev pub address_at : List StaticObject → List Relocation → (at : ℕ) → Option Value
address_at statics [] at = None
address_at statics (r ∷ more) at =
    if r.at == at then option_map (λ o. pointer_at r.object (static_bytes o) r.offset) (slice_get statics r.object)
    else address_at statics more at

-- an element holds the address at the offset where it begins, as it keeps any value, or else what the bytes say
abbrev pub first_value : List StaticObject → StaticObject → (index : ℕ) → Value
first_value statics o index =
    option_map_or (as_element o.element) (address_at statics o.relocations (index * size_of o.element))
    (element_in o.bytes o.element index)

-- the elements of a static object as a run begins, from an index on
abbrev pub first_values : List StaticObject → StaticObject → (index count : ℕ) → List Value
first_values statics o index zero = []
first_values statics o index (suc count) = first_value statics o index ∷ first_values statics o (index + 1) count

-- the objects of static storage, from a number on
abbrev pub static_objects : List StaticObject → ℕ → List StaticObject → Memory
static_objects statics n [] = []
static_objects statics n (o ∷ more) =
    record {
      owner = Static n;
      element = o.element;
      values = first_values statics o 0 o.count;
      live = true;
    } ∷ static_objects statics (n + 1) more

-- The memory in which a unit's run begins.
abbrev pub first_memory : List StaticObject → Memory
first_memory statics = static_objects statics 0 statics
