-- What instructions read and write.
use Rattle.std.specs.Prelude.{ℕ, Bool, true, false, Option, Some, None, List, [], ◌∷◌, ◌++◌, map, take}
use Rattle.graph_core.specs.declared.name.Label.{Label}
use Rattle.graph_core.specs.declared.name.Name as declared-name
use Rattle.graph_core.specs.declared.uses.Targets.{Targets}
use Rattle.graph_core.specs.Graphs.{Operand, Name, Constant, StaticAddress, Recipe, Of, Truncated, Operated, Location, Automatic, Static, At, Instruction, Marker, Note, Move, Operate, Truncate, Same, Address, Load, Store, Zero, CopyWords, Call, End, Jump, Branch, Return}

-- the numbers of names
abbrev pub numbers : List declared-name.Name → List ℕ
numbers names = map (λ (n : declared-name.Name). n.0) names

-- the name that an operand reads
abbrev pub names_of : Operand → List ℕ
names_of (Name x) = x ∷ []
names_of (Constant word) = []
names_of (StaticAddress object offset) = []

-- the names that operands read, in order
abbrev pub names_of_all : List Operand → List ℕ
names_of_all [] = []
names_of_all (a ∷ more) = names_of a ++ names_of_all more

-- the names that a location reads
abbrev pub names_of_location : Location → List ℕ
names_of_location (Automatic object offset) = []
names_of_location (Static object) = []
names_of_location (At a) = names_of a

-- the names that an operand reads, if there is one
abbrev pub names_of_some : Option Operand → List ℕ
names_of_some None = []
names_of_some (Some a) = names_of a

-- The names that an instruction reads, in order. A note is no read.
abbrev pub reads_of : Instruction → List ℕ
reads_of (Marker p) = []
reads_of (Note x v) = []
reads_of (Move x a) = names_of a
reads_of (Operate x o a b) = names_of a ++ names_of b
reads_of (Truncate x t a) = names_of a
reads_of (Same x a b) = names_of a ++ names_of b
reads_of (Address x object) = []
reads_of (Load x e l) = names_of_location l
reads_of (Store e l a) = names_of_location l ++ names_of a
reads_of (Zero object words) = []
reads_of (CopyWords object bytes words) = []
reads_of (Call x f all) = names_of_all all

-- the names that the end of a block reads
abbrev pub reads_of_end : End → List ℕ
reads_of_end (Jump l) = []
reads_of_end (Branch c a b l m) = names_of a ++ names_of b
reads_of_end (Return a) = names_of_some a

-- the name that an instruction writes
abbrev pub target_of : Instruction → Option ℕ
target_of (Marker p) = None
target_of (Note x v) = None
target_of (Move x a) = Some x
target_of (Operate x o a b) = Some x
target_of (Truncate x t a) = Some x
target_of (Same x a b) = Some x
target_of (Address x object) = Some x
target_of (Load x e l) = Some x
target_of (Store e l a) = None
target_of (Zero object words) = None
target_of (CopyWords object bytes words) = None
target_of (Call x f all) = x

-- the place that an instruction begins
abbrev pub marker_of : Instruction → Option ℕ
marker_of (Marker p) = Some p
marker_of _ = None

-- whether an instruction makes a value and writes it to a name, and calls nothing
abbrev pub is_computation : Instruction → Bool
is_computation (Marker p) = false
is_computation (Note x v) = false
is_computation (Move x a) = true
is_computation (Operate x o a b) = true
is_computation (Truncate x t a) = true
is_computation (Same x a b) = true
is_computation (Address x object) = true
is_computation (Load x e l) = true
is_computation (Store e l a) = false
is_computation (Zero object words) = false
is_computation (CopyWords object bytes words) = false
is_computation (Call x f all) = false

-- whether an instruction makes its value of two operands
abbrev pub is_of_two : Instruction → Bool
is_of_two (Operate x o a b) = true
is_of_two (Same x a b) = true
is_of_two _ = false

-- the blocks that the code tells of an end
abbrev pub labels_in : Targets → List Label
labels_in t = take t.count t.labels

-- the blocks to which an end leads
abbrev pub targets_of : End → List ℕ
targets_of (Jump l) = l ∷ []
targets_of (Branch c a b l m) = l ∷ m ∷ []
targets_of (Return a) = []

-- the names in a recipe
abbrev pub names_in : Recipe → List ℕ
names_in (Of a) = names_of a
names_in (Truncated t r) = names_in r
names_in (Operated o r s) = names_in r ++ names_in s
