-- Operands and locations that are moved to a name of their own, and how many instructions comparisons take.
use Rattle.std.specs.Prelude.{ℕ, Bool, true, false, if◌then◌else◌}
use Rattle.c_tree.specs.declared.typed_expression.Comparison as declared-comparison
use Rattle.c_tree.specs.declared.typed_expression.Comparison.TheVariants.{Less, Greater, Equal}
use Rattle.graph_core.specs.Graphs.{Operand, Name, Constant, Location, Automatic, Static, At}

-- an operand, or the name that it is moved to
abbrev pub held : (moved : Bool) → Operand → (name : ℕ) → Operand
held moved a t = if moved then Name t else a

-- the operand of a location that is where a value points
abbrev pub operand_at : Location → Operand
operand_at (At a) = a
operand_at (Automatic o k) = Constant 0
operand_at (Static o) = Constant 0

-- a location with another operand, if it is where a value points
abbrev pub located_at : Location → Operand → Location
located_at (At b) a = At a
located_at (Automatic o k) a = Automatic o k
located_at (Static o) a = Static o

-- a comparison of numbers whose value takes two instructions
abbrev pub is_two : declared-comparison.Comparison → Bool
is_two Less = false
is_two Greater = false
is_two _ = true

-- a comparison of pointers whose value takes two instructions
abbrev pub is_two_pointers : declared-comparison.Comparison → Bool
is_two_pointers Equal = false
is_two_pointers Less = false
is_two_pointers Greater = false
is_two_pointers _ = true
