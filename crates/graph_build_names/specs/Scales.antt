-- Indices of elements as distances in bytes.
use Rattle.std.specs.Prelude.{ℕ, zero, suc, ◌+◌, ◌*◌, ◌^◌, ◌==◌, not, Bool, false, pos, Option, Some, None, if◌then◌else◌}
use Rattle.word_base.specs.Types.{bits_of, unsigned_type}
use Rattle.graph_core.specs.Graphs.{Operand, Name, Constant, StaticAddress}

-- from a number of bits on, by how many of the next so many a size is a shift
abbrev pub shift_from : (left : ℕ) → (bits : ℕ) → (size : ℕ) → Option ℕ
shift_from zero k size = None
shift_from (suc left) k size = if 2 ^ k == size then Some k else shift_from left (k + 1) size

-- by how many bits a size is a shift, if it is a power of 2 below 2^32
abbrev pub shift_of : (size : ℕ) → Option ℕ
shift_of size = shift_from 32 0 size

-- an index is scaled by an instruction, but for a constant one, and for elements of one byte
abbrev pub is_scaled : (size : ℕ) → Operand → Bool
is_scaled size (Constant w) = false
is_scaled size (Name x) = not (size == 1)
is_scaled size (StaticAddress o k) = not (size == 1)

-- Where an index times a size stands: in a constant, in the index itself, or in a name that an instruction writes.
abbrev pub scaled : (size : ℕ) → (index : Operand) → (name : ℕ) → Operand
scaled size (Constant w) t = Constant (bits_of unsigned_type (pos (w * size)))
scaled size (Name x) t = if size == 1 then Name x else Name t
scaled size (StaticAddress o k) t = if size == 1 then StaticAddress o k else Name t
