-- A unit with homes, and the unit whose names are these homes: by it the run of a unit over homes is the run of a unit.
use Rattle.std.specs.Prelude.{◌≡◌, ℕ, ◌+◌, ◌<◌, ◌≤◌, ◌⊎◌, option_map, List, [], ◌∷◌, length, map, slice_get}
use Rattle.std.specs.Option.{option_map_or}
use Rattle.std.specs.List.{AllByRecursion}
use Rattle.graph_homes.specs.declared.home.Home.{Home}
use Rattle.graph_homes.specs.declared.home.Home.TheVariants.{Register, Slot}
use Rattle.debug_records.specs.declared.mode.Mode.{Mode}
use Rattle.graph_homes.specs.declared.homed.FunctionHomes as declared-homes
use Rattle.graph_homes.specs.declared.homed.HomedUnit as declared-homed
use Rattle.graph_core.specs.Graphs.{Operand, Name, Constant, StaticAddress, Location, Automatic, Static, At, Gone, Instruction, Marker, Note, Move, Operate, Truncate, Same, Address, Load, Store, Zero, CopyWords, Call, End, Jump, Branch, Return, Block, Binding, ToScalar, ToObject, Graph, UnitForm, unit_view}

-- A unit, which homes its names may have, and the homes of each function's names.
pub record HomedForm : Type 0 where
  pub unit : UnitForm
  pub mode : Mode
  pub homes : List (List Home)

abbrev pub homed_view : declared-homed.HomedUnit → HomedForm
homed_view h =
    record {
      unit = unit_view h.unit;
      mode = h.mode;
      homes = map (λ (f : declared-homes.FunctionHomes). f.homes.items) h.homes.items;
    }

-- the homes of a function's names
abbrev pub homes_in : HomedForm → (function : ℕ) → List Home
homes_in h f = option_map_or (λ homes. homes) (slice_get h.homes f) []

-- the home of a function's name
abbrev pub home_of : HomedForm → (function name : ℕ) → Home
home_of h f x = option_map_or (λ home. home) (slice_get (homes_in h f) x) (Slot 0)

-- The registers that may be homes: s1, which is 9, s2 to s11 and t3 to t6, which are 18 to 31.
abbrev pub IsHomeRegister : ℕ → Type 0
IsHomeRegister r = (r ≡ 9) ⊎ ((18 ≤ r) × (r ≤ 31))

-- A home of a function with so many names: its slots are not more than those.
abbrev pub IsHomeAmong : (names : ℕ) → Home → Type 0
IsHomeAmong names (Register r) = IsHomeRegister r
IsHomeAmong names (Slot k) = k < names

-- Each function has a home for each of its names.
abbrev pub AreHomesOf : List Graph → List (List Home) → Type 0
AreHomesOf [] [] = Unit {0}
AreHomesOf [] (homes ∷ more) = ⊥
AreHomesOf (g ∷ graphs) [] = ⊥
AreHomesOf (g ∷ graphs) (homes ∷ more) =
    (length homes ≡ g.name_count) × AllByRecursion (IsHomeAmong g.name_count) homes × AreHomesOf graphs more

-- The homes are homes of the unit's names.
abbrev pub HaveHomes : HomedForm → Type 0
HaveHomes h = AreHomesOf h.unit.graphs h.homes

-- ---- Homes as names

-- the number of a home: that of a register, or 32 and that of a slot
abbrev pub home_number : Home → ℕ
home_number (Register r) = r
home_number (Slot k) = 32 + k

module _ (home : ℕ → Home) where
  -- a name becomes its home
  abbrev pub placed : ℕ → ℕ
  placed x = home_number (home x)

  -- an operand over homes
  abbrev pub placed_operand : Operand → Operand
  placed_operand (Name x) = Name (placed x)
  placed_operand (Constant w) = Constant w
  placed_operand (StaticAddress object offset) = StaticAddress object offset

  -- a location over homes
  abbrev pub placed_location : Location → Location
  placed_location (Automatic object offset) = Automatic object offset
  placed_location (Static object) = Static object
  placed_location (At a) = At (placed_operand a)

  -- A note says nothing here, since no code is made of it: a variable's shadow is not what its home holds.
  abbrev pub placed_instruction : Instruction → Instruction
  placed_instruction (Marker p) = Marker p
  placed_instruction (Note x v) = Note x (Gone 0)
  placed_instruction (Move x a) = Move (placed x) (placed_operand a)
  placed_instruction (Operate x o a b) = Operate (placed x) o (placed_operand a) (placed_operand b)
  placed_instruction (Truncate x t a) = Truncate (placed x) t (placed_operand a)
  placed_instruction (Same x a b) = Same (placed x) (placed_operand a) (placed_operand b)
  placed_instruction (Address x object) = Address (placed x) object
  placed_instruction (Load x e l) = Load (placed x) e (placed_location l)
  placed_instruction (Store e l a) = Store e (placed_location l) (placed_operand a)
  placed_instruction (Zero object words) = Zero object words
  placed_instruction (CopyWords object bytes words) = CopyWords object bytes words
  placed_instruction (Call x f all) = Call (option_map placed x) f (map placed_operand all)

  -- the end of a block over homes
  abbrev pub placed_end : End → End
  placed_end (Jump l) = Jump l
  placed_end (Branch k a b l m) = Branch k (placed_operand a) (placed_operand b) l m
  placed_end (Return a) = Return (option_map placed_operand a)

  -- a block over homes
  abbrev pub placed_block : Block → Block
  placed_block b =
      record { place = b.place; instructions = map placed_instruction b.instructions; end = placed_end b.end }

  -- what a parameter is bound to, over homes
  abbrev pub placed_binding : Binding → Binding
  placed_binding (ToScalar x) = ToScalar (placed x)
  placed_binding (ToObject object) = ToObject object

  -- The graph of which the names are homes. How many names it has is not looked at when it runs.
  abbrev pub placed_graph : Graph → Graph
  placed_graph g = record g { parameters = map placed_binding g.parameters; blocks = map placed_block g.blocks }

-- the graphs of a unit over homes, from this function on
abbrev pub placed_graphs : HomedForm → (function : ℕ) → List Graph → List Graph
placed_graphs h f [] = []
placed_graphs h f (g ∷ graphs) = placed_graph (home_of h f) g ∷ placed_graphs h (f + 1) graphs

-- The unit over homes: an instruction that writes a name writes its home, and one that reads a name reads what its home
-- holds, whichever name that was written for.
abbrev pub over_homes : HomedForm → UnitForm
over_homes h = record h.unit { graphs = placed_graphs h 0 h.unit.graphs }
