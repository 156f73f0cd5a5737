-- The statements of a generated program, by what each of them assigns.
use Rattle.std.specs.Prelude.{ℕ, zero, suc, ◌/◌, ◌%◌, List, [], ◌∷◌, ◌++◌}
use Rattle.work_gen.specs.Generated.{next_state, head, tail}

-- one of the variables a, b, c and d
pub data Letter : Type 0 where
  A : Letter
  B : Letter
  C : Letter
  D : Letter

-- plus, times or exclusive or
pub data Operator : Type 0 where
  Plus : Operator
  Times : Operator
  ExclusiveOr : Operator

-- what is assigned: a variable, or an operation on two
pub data Side : Type 0 where
  Only : Letter → Side
  Operation : Operator → (left right : Letter) → Side

-- A statement: a variable, and what is assigned to it.
pub record Drawn : Type 0 where
  pub target : Letter
  pub side : Side

-- the byte that a variable is called by
abbrev pub byte : Letter → ℕ
byte A = 97
byte B = 98
byte C = 99
byte D = 100

-- the byte that an operator is written with
abbrev pub sign : Operator → ℕ
sign Plus = 43
sign Times = 42
sign ExclusiveOr = 94

-- what is assigned, as it is written
abbrev pub side_text : Side → List ℕ
side_text (Only l) = byte l ∷ []
side_text (Operation o l m) = byte l ∷ sign o ∷ byte m ∷ []

-- a statement as it is written, on a line of its own
abbrev pub line_text : Drawn → List ℕ
line_text d = byte d.target ∷ 61 ∷ side_text d.side ++ 59 ∷ 10 ∷ []

-- statements one behind the other
abbrev pub lines_text : List Drawn → List ℕ
lines_text [] = []
lines_text (d ∷ ds) = line_text d ++ lines_text ds

-- a program with such statements
abbrev pub whole_text : List Drawn → List ℕ
whole_text ds = head ++ lines_text ds ++ tail

-- the variable of a number below 4
abbrev pub letter_of : ℕ → Letter
letter_of zero = A
letter_of (suc zero) = B
letter_of (suc (suc zero)) = C
letter_of (suc (suc (suc n))) = D

-- what the variables are that stand on the right side, of a kind below 4
abbrev pub side_of : ℕ → (left right : Letter) → Side
side_of zero l m = Only l
side_of (suc zero) l m = Operation Plus l m
side_of (suc (suc zero)) l m = Operation Times l m
side_of (suc (suc (suc n))) l m = Operation ExclusiveOr l m

-- the statement that a number draws
abbrev pub drawn : ℕ → Drawn
drawn r =
    record { target = letter_of (r % 4); side = side_of (r / 64 % 4) (letter_of (r / 4 % 4)) (letter_of (r / 16 % 4)) }

-- so many statements from a state on
abbrev pub drawn_all : (count x : ℕ) → List Drawn
drawn_all zero x = []
drawn_all (suc count) x = drawn (next_state x / 65536) ∷ drawn_all count (next_state x)
