-- Integer types: their ranges, promotions and conversions (ISO/IEC 9899:2011, 6.2.5 and 6.3.1).
use Rattle.std.specs.Prelude.{ℕ, ◌+◌, ◌*◌, ◌/◌, ℤ, Bool, ◌&&◌, not, nat_lt, ◌==◌, if◌then◌else◌}
use Rattle.word_base.specs.Types as word
use Rattle.c_tree.specs.declared.types.IntegerType.{IntegerType}
use Rattle.c_tree.specs.declared.types.IntegerType.TheVariants.{Char, SignedChar, UnsignedChar, Short, UnsignedShort, Int, UnsignedInt, Long, UnsignedLong}
use Rattle.c_tree.specs.declared.object_type.Scalar.{Scalar}
use Rattle.c_tree.specs.declared.object_type.ObjectType.{ObjectType}
use Rattle.c_tree.specs.declared.object_type.ObjectType.TheVariants as type

-- the width and the sign of an integer type
abbrev pub integer : IntegerType → word.IntegerType
integer Char = word.char_type
integer SignedChar = word.signed_char_type
integer UnsignedChar = word.char_type
integer Short = word.short_type
integer UnsignedShort = word.unsigned_short_type
integer Int = word.int_type
integer UnsignedInt = word.unsigned_type
integer Long = word.int_type
integer UnsignedLong = word.unsigned_type

-- the types that have negative numbers; `char` has none
abbrev pub is_signed : IntegerType → Bool
is_signed t = (integer t).is_signed

-- the rank of a type: that of the character types, of `short`, of `int`, of `long`
abbrev pub rank : IntegerType → ℕ
rank Char = 1
rank SignedChar = 1
rank UnsignedChar = 1
rank Short = 2
rank UnsignedShort = 2
rank Int = 3
rank UnsignedInt = 3
rank Long = 4
rank UnsignedLong = 4

-- how many bytes a type has
abbrev pub integer_size : IntegerType → ℕ
integer_size Char = 1
integer_size SignedChar = 1
integer_size UnsignedChar = 1
integer_size Short = 2
integer_size UnsignedShort = 2
integer_size Int = 4
integer_size UnsignedInt = 4
integer_size Long = 4
integer_size UnsignedLong = 4

-- a number is one of a type's
abbrev pub fits : IntegerType → ℤ → Bool
fits t z = word.holds (integer t) z

-- the residue of a number, from 0 to below the modulus
unfoldable pub residue : ℤ → ℕ → ℕ
residue z m = word.modulo m z

-- a number converted to a type: the one of the type's numbers that differs from it by a multiple of how many there are
-- (6.3.1.3)
abbrev pub wrapped : IntegerType → ℤ → ℤ
wrapped t z = word.converted (integer t) z

-- the integer promotions: a type of lesser rank than `int` becomes `int` (6.3.1.1)
abbrev pub promoted : IntegerType → IntegerType
promoted t = if nat_lt (rank t) 3 then Int else t

-- the unsigned type of the same rank
abbrev pub unsigned_of : IntegerType → IntegerType
unsigned_of Char = UnsignedChar
unsigned_of SignedChar = UnsignedChar
unsigned_of UnsignedChar = UnsignedChar
unsigned_of Short = UnsignedShort
unsigned_of UnsignedShort = UnsignedShort
unsigned_of Int = UnsignedInt
unsigned_of UnsignedInt = UnsignedInt
unsigned_of Long = UnsignedLong
unsigned_of UnsignedLong = UnsignedLong

-- the common type of two promoted types, the first of no lesser rank: it is the first, but where the first is signed
-- and the other unsigned it is the first's unsigned type. For a signed type of greater rank holds no more numbers here
-- than an unsigned one of lesser rank has.
abbrev pub joined : IntegerType → IntegerType → IntegerType
joined t u = if is_signed t && not (is_signed u) then unsigned_of t else t

-- the usual arithmetic conversions (6.3.1.8)
abbrev pub common : IntegerType → IntegerType → IntegerType
common a b =
    if nat_lt (rank (promoted a)) (rank (promoted b)) then joined (promoted b) (promoted a)
    else joined (promoted a) (promoted b)

-- how many bytes an object of a scalar type has; a pointer has 4
abbrev pub scalar_size : Scalar → ℕ
scalar_size s = if s.stars == 0 then integer_size s.base else 4

-- how many bytes an object of a type has
abbrev pub object_size : ObjectType → ℕ
object_size (type.Scalar s) = scalar_size s
object_size (type.Array element count) = scalar_size element * count

-- how many bytes an object takes where it stands: its size, rounded up to whole words, and a word behind it
abbrev pub room : ℕ → ℕ
room size = (size + 3) / 4 * 4 + 4
