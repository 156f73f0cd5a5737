-- Values and what operations make of them.
use Rattle.std.specs.Prelude.{ℕ, ◌+◌, ◌-◌, ◌%◌, ◌==◌, ◌&&◌, nat_le, nat_lt, Bool, true, false, not, if◌then◌else◌, Option, Some, None, option_map}
use Rattle.word_base.specs.declared.operation.Operation.{Operation}
use Rattle.word_base.specs.declared.operation.Operation.TheVariants.{Add, Sub, Slt, Sltu}
use Rattle.word_base.specs.declared.operation.Truncation.{Truncation}
use Rattle.word_base.specs.declared.operation.Truncation.TheVariants as truncation
use Rattle.word_base.specs.WordOperations.{word_operation, truncated}
use Rattle.graph_core.specs.declared.value.Value.{Value}
use Rattle.graph_core.specs.declared.value.Value.TheVariants.{Number, Pointer, Odd}
use Rattle.graph_core.specs.declared.instruction.Element.{Element}
use Rattle.graph_core.specs.declared.instruction.Element.TheVariants.{Unsigned8, Signed8, Unsigned16, Signed16, Word}
use Rattle.graph_core.specs.declared.block.Comparison.{Comparison}
use Rattle.graph_core.specs.declared.block.Comparison.TheVariants.{Equal, NotEqual, Less, AtLeast, LessUnsigned, AtLeastUnsigned}

-- the word of a number
abbrev pub word : ℕ → ℕ
word n = n % 4294967296

-- the word of a test: 1 where it holds, and else 0
abbrev pub truth_word : Bool → Value
truth_word b = if b then Number 1 else Number 0

-- A pointer at an offset of its object, if that is within the object or directly behind it.
abbrev pub pointer_at : (object size offset : ℕ) → Value
pointer_at object size offset = if nat_le offset size then Pointer object size offset else Odd

-- a pointer and a word: only a sum moves the pointer
abbrev pub moved_by : Operation → (object size offset : ℕ) → (by : ℕ) → Value
moved_by Add object size offset by = pointer_at object size (word (offset + by))
moved_by Sub object size offset by = pointer_at object size (word (offset + (4294967296 - by)))
moved_by _ _ _ _ _ = Odd

-- a word and a pointer
abbrev pub moving : Operation → (by : ℕ) → (object size offset : ℕ) → Value
moving Add by object size offset = pointer_at object size (word (offset + by))
moving _ _ _ _ _ = Odd

-- two pointers into one object: their distance, and which is the lower
abbrev pub between : Operation → (offset other : ℕ) → Value
between Sub m n = Number (word (m + (4294967296 - n)))
between Slt m n = truth_word (nat_lt m n)
between Sltu m n = truth_word (nat_lt m n)
between _ _ _ = Odd

-- What an operation makes of two values: of two words what RV32IM makes of them; a pointer is moved by a word within
-- its object and directly behind it; two pointers into one object have a distance and an order. All else is Odd.
abbrev pub operate : Operation → Value → Value → Value
operate o (Number a) (Number b) = Number (word_operation o a b)
operate o (Number a) (Pointer object size n) = moving o a object size n
operate o (Number a) Odd = Odd
operate o (Pointer object size m) (Number b) = moved_by o object size m b
operate o (Pointer object size m) (Pointer other size' n) = if object == other then between o m n else Odd
operate o (Pointer object size m) Odd = Odd
operate o Odd b = Odd

-- What a truncation leaves of a value.
abbrev pub truncate : Truncation → Value → Value
truncate t (Number a) = Number (truncated t a)
truncate t (Pointer object size offset) = Odd
truncate t Odd = Odd

-- how many bytes an element has
abbrev pub size_of : Element → ℕ
size_of Unsigned8 = 1
size_of Signed8 = 1
size_of Unsigned16 = 2
size_of Signed16 = 2
size_of Word = 4

-- a value as an element keeps it: a word by its lowest bits, with or without their sign
abbrev pub as_element : Element → Value → Value
as_element Unsigned8 v = truncate truncation.Unsigned8 v
as_element Signed8 v = truncate truncation.Signed8 v
as_element Unsigned16 v = truncate truncation.Unsigned16 v
as_element Signed16 v = truncate truncation.Signed16 v
as_element Word v = v

-- Whether two pointers are one, where that is known. Null is the word 0, and no pointer is null. Of a pointer to an
-- object that has ended it is not known whether it is equal to another pointer, since another object may lie where its
-- object lay.
abbrev pub same : (live : ℕ → Bool) → Value → Value → Value
same live (Number a) (Number b) = truth_word (a == b)
same live (Number a) (Pointer object size n) = if a == 0 then Number 0 else Odd
same live (Number a) Odd = Odd
same live (Pointer object size m) (Number b) = if b == 0 then Number 0 else Odd
same live (Pointer object size m) (Pointer other size' n) =
    if live object && live other then truth_word (object == other && m == n) else Odd
same live (Pointer object size m) Odd = Odd
same live Odd b = Odd

-- whether a word is not 0; nothing is known of another value
abbrev pub is_true : Value → Option Bool
is_true (Number a) = Some (not (a == 0))
is_true (Pointer object size offset) = None
is_true Odd = None

-- Whether a comparison holds of two values, where that is known.
abbrev pub holds : (live : ℕ → Bool) → Comparison → Value → Value → Option Bool
holds live Equal a b = is_true (same live a b)
holds live NotEqual a b = option_map not (is_true (same live a b))
holds live Less a b = is_true (operate Slt a b)
holds live AtLeast a b = option_map not (is_true (operate Slt a b))
holds live LessUnsigned a b = is_true (operate Sltu a b)
holds live AtLeastUnsigned a b = option_map not (is_true (operate Sltu a b))

-- it is Odd
abbrev pub is_odd : Value → Bool
is_odd (Number a) = false
is_odd (Pointer object size offset) = false
is_odd Odd = true
