-- What instructions compute of names and constants alone.
use Rattle.std.specs.Prelude.{ℕ, Option, Some, None, List, ◌++◌}
use Rattle.word_base.specs.declared.operation.Operation.{Operation}
use Rattle.word_base.specs.declared.operation.Truncation.{Truncation}
use Rattle.graph_core.specs.Graphs.{Operand, Instruction, Operate, Truncate, Same}
use Rattle.graph_core.specs.Uses.{names_of}

-- What an instruction computes of names and constants alone: no load, no store, no call.
pub data Computation : Type 0 where
  Operating : Operation → (left right : Operand) → Computation
  Truncating : Truncation → Operand → Computation
  Comparing : (left right : Operand) → Computation

-- the computation of an instruction, if it is one
abbrev pub computed_by : Instruction → Option Computation
computed_by (Operate x o a b) = Some (Operating o a b)
computed_by (Truncate x t a) = Some (Truncating t a)
computed_by (Same x a b) = Some (Comparing a b)
computed_by _ = None

-- the names of which a computation is made
abbrev pub operands_of : Computation → List ℕ
operands_of (Operating o a b) = names_of a ++ names_of b
operands_of (Truncating t a) = names_of a
operands_of (Comparing a b) = names_of a ++ names_of b
