-- How the memory of a program's run stands in the machine of its image at a stop.
use Rattle.std.specs.Prelude.{◌≡◌, ◌≢◌, ℕ, zero, suc, ℤ, ◌+◌, ◌*◌, ◌%◌, ◌==◌, ◌<◌, ◌≤◌, ◌⊎◌, true, false, if◌then◌else◌, Some, List, [], ◌∷◌, length, slice_get}
use Rattle.word_base.specs.Owners.{Owner, Static, Literal, Variable as OfVariable}
use Rattle.word_base.specs.Types.{bits_of, holds, unsigned_type}
use Rattle.c_tree.specs.declared.types.IntegerType as named
use Rattle.c_tree.specs.declared.types.IntegerType.TheVariants.{Char}
use Rattle.c_tree.specs.Programs.{StaticTree, AutomaticTree, LiteralTree, ProgramTree}
use Rattle.c_type_rules.specs.Integers.{integer}
use Rattle.c_meaning_values.specs.declared.value.Value as source
use Rattle.c_meaning_values.specs.declared.value.Value.TheVariants.{Number, Null, Pointer}
use Rattle.c_meaning_values.specs.declared.value.Phase.TheVariants.{Live}
use Rattle.c_meaning_values.specs.Types.{element_scalar, value_count, scalar_size}
use Rattle.c_meaning_values.specs.Memory.{Memory, Object, is_over}
use Rattle.image_form.specs.Form.{Form}
use Rattle.image_form.specs.declared.variables.Storage.{Storage}
use Rattle.image_form.specs.declared.variables.Storage.TheVariants as kept
use Rattle.image_form.specs.declared.variables.Variable.{Variable}
use Rattle.image_build_tables.specs.Variables.{element_by_stars}
use Rattle.rv_machine.specs.State.{MachineState, reg}
use Rattle.stop_engine_view.specs.Callers.{calling_place}
use Rattle.stop_engine_view.specs.Pointers.{function_of_place, is_variable_of, variable_size}
use Rattle.stop_engine_view.specs.Reading.{depth, frame_of}
use Rattle.stop_engine_view.specs.Words.{element_word}
use Rattle.image_truth_units.specs.Variables.{automatic_number}

-- ---- Activations

-- An activation as it stands in the stack: the place at which it is, and the address at which its frame begins.
pub record Standing : Type 0 where
  pub place : ℕ
  pub frame : ℕ

-- The activations that wait for one, from the innermost on: each returns to the place of the next, whose frame begins
-- where its own ends, and the last one to no place.
abbrev pub AreCallers : Form → MachineState → Standing → List Standing → Type 0
AreCallers m s a [] = calling_place m s a.frame ≡ 0
AreCallers m s a (b ∷ more) =
    (calling_place m s a.frame ≡ b.place) × (b.place ≢ 0) × (b.frame ≡ a.frame + frame_of m a.place)
    × (b.frame < 4294967296) × AreCallers m s b more

-- ---- Areas

-- The variable of an image with this number is kept at an address of its own, and has so many bytes.
pub record IsStaticArea (m : Form) (number start bytes : ℕ) : Type 0 where
  pub variable : Variable
  pub is : slice_get m.variables number ≡ Some variable
  pub storage : variable.storage ≡ kept.Static start
  pub size : bytes ≡ variable_size variable

-- The variable of an image with this number is one of the function of the activation at this depth, is kept in its
-- frame, and has so many bytes. The innermost activation comes first, and the last one is at depth 1.
pub record IsFrameArea (m : Form) (stack : List Standing) (number depth start bytes : ℕ) : Type 0 where
  pub index : ℕ
  pub activation : Standing
  pub there : slice_get stack index ≡ Some activation
  pub deep : depth + index ≡ length stack
  pub variable : Variable
  pub is : slice_get m.variables number ≡ Some variable
  pub own : is_variable_of (function_of_place m activation.place) variable ≡ true
  pub offset : ℕ
  pub storage : variable.storage ≡ kept.Frame offset
  pub starts : start ≡ activation.frame + offset
  pub size : bytes ≡ variable_size variable

-- What an owner owns begins at an address, and has so many bytes.
abbrev pub IsArea : ProgramTree → Form → List Standing → Owner → (start bytes : ℕ) → Type 0
IsArea p m stack (Static n) start bytes = (n < length p.statics) × IsStaticArea m n start bytes
IsArea p m stack (Literal n) start bytes = (n < length p.literals) × IsStaticArea m (length p.statics + n) start bytes
IsArea p m stack (OfVariable x depth) start bytes = IsFrameArea m stack (automatic_number p x) depth start bytes

-- ---- Values

-- the word of a number
abbrev pub word_of_number : ℤ → ℕ
word_of_number z = bits_of unsigned_type z

-- A word leads into what an owner owns, so many bytes behind its beginning, or directly behind its end.
pub record LeadsInto (p : ProgramTree) (m : Form) (stack : List Standing) (owner : Owner) (offset w : ℕ) : Type 0 where
  pub start : ℕ
  pub bytes : ℕ
  pub area : IsArea p m stack owner start bytes
  pub within : offset ≤ bytes
  pub leads : w ≡ start + offset

-- A word is that of a value: a number's is its own, null is 0, and a pointer's is the address to which it leads. Of a
-- pointer to an object that has ended nothing is said.
abbrev pub IsWordOf : ProgramTree → Form → List Standing → Memory → source.Value → (w : ℕ) → Type 0
IsWordOf p m stack memory (Number z) w = w ≡ word_of_number z
IsWordOf p m stack memory Null w = w ≡ 0
IsWordOf p m stack memory (Pointer n offset) w =
    (o : Object) → slice_get memory n ≡ Some o → is_over o.phase ≡ false → LeadsInto p m stack o.owner offset w

-- what is kept of a word in so many bytes
abbrev pub kept_bits : (size w : ℕ) → ℕ
kept_bits size w = if size == 1 then w % 256 else if size == 2 then w % 65536 else w

-- The bits that are kept in so many bytes are those of a value's word.
pub record AreBitsOf (p : ProgramTree) (m : Form) (stack : List Standing) (memory : Memory) (v : source.Value)
    (size bits : ℕ) : Type 0 where
  pub word : ℕ
  pub means : IsWordOf p m stack memory v word
  pub kept : bits ≡ kept_bits size word

-- ---- Types

-- A value is one of a scalar type: a number of it, or, of a type with a `*`, null or a pointer.
abbrev pub IsOfType : named.IntegerType → (stars : ℕ) → source.Value → Type 0
IsOfType t zero (Number z) = holds (integer t) z ≡ true
IsOfType t zero Null = ⊥
IsOfType t zero (Pointer n offset) = ⊥
IsOfType t (suc stars) (Number z) = ⊥
IsOfType t (suc stars) Null = Unit {0}
IsOfType t (suc stars) (Pointer n offset) = Unit {0}

-- An object has the elements of its owner's type, and as many.
abbrev pub IsDeclared : ProgramTree → Owner → Object → Type 0
IsDeclared p (Static n) o =
    (v : StaticTree) × (slice_get p.statics n ≡ Some v) × (o.element ≡ element_scalar v.of)
    × (length o.values ≡ value_count v.of)
IsDeclared p (Literal n) o =
    (l : LiteralTree) × (slice_get p.literals n ≡ Some l) × (o.element ≡ record {
      base = Char;
      stars = 0;
    }) × (length o.values ≡ length l.bytes)
IsDeclared p (OfVariable x depth) o =
    (a : AutomaticTree) × (slice_get p.automatics x ≡ Some a) × (o.element ≡ element_scalar a.of)
    × (length o.values ≡ value_count a.of)

-- ---- The memory

-- What an object of a program's run holds stands in the machine's memory, value by value from an address on.
pub record StandsInMemory (p : ProgramTree) (m : Form) (stack : List Standing) (memory : Memory) (s : MachineState)
    (o : Object) : Type 0 where
  pub start : ℕ
  pub bytes : ℕ
  pub area : IsArea p m stack o.owner start bytes
  pub values : (i : ℕ) (v : source.Value) → slice_get o.values i ≡ Some v
      → AreBitsOf p m stack memory v (scalar_size o.element)
      (element_word s (element_by_stars o.element.base o.element.stars) (start + i * scalar_size o.element))

-- whose contents stand in memory: objects of static storage, and automatic variables that are not kept in homes
abbrev pub IsInMemory : ProgramTree → Owner → Type 0
IsInMemory p (Static n) = Unit {0}
IsInMemory p (Literal n) = Unit {0}
IsInMemory p (OfVariable x depth) = (a : AutomaticTree) × (slice_get p.automatics x ≡ Some a) × (a.in_memory ≡ true)

-- THE MACHINE OF AN IMAGE HOLDS THE MEMORY OF A PROGRAM'S RUN at a stop at a place: as many activations stand in its
-- stack as it counts, the innermost at the place, each waiting for the one before it; what is owned lies apart, with a
-- byte between; and each live object that is not kept in a home stands where its owner's is, with its values. Values
-- are of their types, and objects of their owners'.
pub record HoldsMemory (p : ProgramTree) (m : Form) (memory : Memory) (here : Standing) (waiting : List Standing)
    (s : MachineState) : Type 0 where
  pub frame : here.frame ≡ reg s 2
  pub depth_is : depth s ≡ length waiting + 1
  pub few : length waiting + 1 ≤ 1024
  pub callers : AreCallers m s here waiting
  pub inside : (o : Owner) (start bytes : ℕ) → IsArea p m (here ∷ waiting) o start bytes
      → (1 ≤ start) × (start + bytes < 4294967296)
  pub apart : (o q : Owner) (a b n k : ℕ) → o ≢ q → IsArea p m (here ∷ waiting) o a n
      → IsArea p m (here ∷ waiting) q b k → (a + n < b) ⊎ (b + k < a)
  pub typed : (n i : ℕ) (o : Object) (v : source.Value) → slice_get memory n ≡ Some o → slice_get o.values i ≡ Some v
      → IsOfType o.element.base o.element.stars v
  pub declared : (n : ℕ) (o : Object) → slice_get memory n ≡ Some o → IsDeclared p o.owner o
  pub objects : (n : ℕ) (o : Object) → slice_get memory n ≡ Some o → o.phase ≡ Live → IsInMemory p o.owner
      → StandsInMemory p m (here ∷ waiting) memory s o

-- A storage is a home of a scalar: a register, or a slot of the frame.
abbrev pub IsHome : Storage → Type 0
IsHome (kept.Static address) = ⊥
IsHome (kept.Frame offset) = ⊥
IsHome (kept.Register number) = Unit {0}
IsHome (kept.Slot offset) = Unit {0}
