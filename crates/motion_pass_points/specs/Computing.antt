-- What instructions do to a computation.
use Rattle.std.specs.Prelude.{ℕ, ◌==◌, ◌&&◌, Bool, true, false, Option, Some, None}
use Rattle.std.specs.List.{list_any}
use Rattle.word_base.specs.declared.operation.Operation.{Operation}
use Rattle.word_base.specs.declared.operation.Operation.TheVariants.{Add, Sub, Mul, Div, Divu, Rem, Remu, Sll, Srl, Sra, And, Or, Xor, Slt, Sltu}
use Rattle.word_base.specs.declared.operation.Truncation.{Truncation}
use Rattle.word_base.specs.declared.operation.Truncation.TheVariants.{Unsigned8, Signed16, Unsigned16, Signed8}
use Rattle.graph_core.specs.Graphs.{Operand, Name, Constant, StaticAddress, Instruction}
use Rattle.graph_core.specs.Computations.{Computation, Operating, Truncating, Comparing, computed_by, operands_of}
use Rattle.graph_core.specs.Paths.{writes}

-- the number of an operation
abbrev pub operation_number : Operation → ℕ
operation_number Add = 0
operation_number Sub = 1
operation_number Mul = 2
operation_number Div = 3
operation_number Divu = 4
operation_number Rem = 5
operation_number Remu = 6
operation_number Sll = 7
operation_number Srl = 8
operation_number Sra = 9
operation_number And = 10
operation_number Or = 11
operation_number Xor = 12
operation_number Slt = 13
operation_number Sltu = 14

-- the number of a truncation, behind those of operations
abbrev pub truncation_number : Truncation → ℕ
truncation_number Unsigned8 = 15
truncation_number Signed16 = 16
truncation_number Unsigned16 = 17
truncation_number Signed8 = 18

-- an operand as numbers
abbrev pub operand_key : Operand → ℕ × (ℕ × ℕ)
operand_key (Name x) = (0, (x, 0))
operand_key (Constant word) = (1, (word, 0))
operand_key (StaticAddress object offset) = (2, (object, offset))

-- a computation as numbers, which are others for two that differ
abbrev pub key_of : Computation → ℕ × ((ℕ × (ℕ × ℕ)) × (ℕ × (ℕ × ℕ)))
key_of (Operating o a b) = (operation_number o, (operand_key a, operand_key b))
key_of (Truncating t a) = (truncation_number t, (operand_key a, operand_key a))
key_of (Comparing a b) = (19, (operand_key a, operand_key b))

-- two triples of numbers are the same
abbrev pub same_three : ℕ × (ℕ × ℕ) → ℕ × (ℕ × ℕ) → Bool
same_three k q = (k.0 == q.0) && ((k.1.0 == q.1.0) && (k.1.1 == q.1.1))

-- two keys of computations are the same
abbrev pub same_key : ℕ × ((ℕ × (ℕ × ℕ)) × (ℕ × (ℕ × ℕ))) → ℕ × ((ℕ × (ℕ × ℕ)) × (ℕ × (ℕ × ℕ))) → Bool
same_key k q = (k.0 == q.0) && (same_three k.1.0 q.1.0 && same_three k.1.1 q.1.1)

-- Two computations are one: operation and operands are equal, in order.
abbrev pub is_same : Computation → Computation → Bool
is_same d e = same_key (key_of d) (key_of e)

-- there is a computation, and it is this one
abbrev pub is_some_same : Computation → Option Computation → Bool
is_some_same e None = false
is_some_same e (Some d) = is_same d e

-- an instruction does a computation
abbrev pub does : Computation → Instruction → Bool
does e i = is_some_same e (computed_by i)

-- an instruction writes an operand of a computation
abbrev pub spoils : Computation → Instruction → Bool
spoils e i = list_any (λ y. writes y i) (operands_of e)
