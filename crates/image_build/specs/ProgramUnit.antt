-- The unit of a program, said of its functions, variables and places, of flow and events; of its instructions only how
-- many they are, and where a temporary is copied to a scalar.
use Rattle.std.specs.Prelude.{◌≡◌, ◌↔◌, ◌⊎◌, ℕ, ◌*◌, ◌<◌, ◌≤◌, AllPairs, Bool, false, not, List, [], ◌∷◌, ◌++◌, Some, filter, length, map, slice_get}
use Rattle.std.specs.List.{Contains}
use Rattle.std.specs.Option.{option_map_or}
use Rattle.event_runs.specs.Agreement.{Pairs}
use Rattle.places.specs.declared.flow.Assignment.{Assignment}
use Rattle.places.specs.declared.flow.FlowStep.{FlowStep}
use Rattle.places.specs.Flow.{AreInOrder, IsAssignmentBefore}
use Rattle.c_tree.specs.Programs.{AutomaticTree, LiteralTree, ProgramTree, TypedFunctionTree}
use Rattle.c_places.specs.Places.{Place, parameters_of, place_number_at, places_of_function, places_of_program}
use Rattle.c_flow.specs.Assigns.{assignments_of_program}
use Rattle.c_flow.specs.Flow.{steps_of_program}
use Rattle.graph_core.specs.Graphs.{Binding, Block, Graph, Instruction, Move, Name, ToObject, ToScalar, UnitForm}
use Rattle.graph_core.specs.Paths.{Among, writes}
use Rattle.graph_core.specs.Validity.{instructions_of, markers_of_blocks}
use Rattle.graph_core.specs.WellMarked.{AreWellMarked}
use Rattle.graph_build.specs.Units.{literal_of, memory_object, room_of, scalar_record, static_of, variables_in}
use Rattle.graph_build_runs.specs.Correspondence.{DoesProgram}

module _ (p : ProgramTree) where
  -- an automatic variable is kept in memory
  abbrev pub is_kept : (variable : ℕ) → Bool
  is_kept x = option_map_or (λ (a : AutomaticTree). a.in_memory) (slice_get p.automatics x) false

  -- the variables of a function that are not, in order: the scalars
  abbrev pub scalars_of : TypedFunctionTree → List ℕ
  scalars_of f = filter (λ (x : ℕ). not (is_kept x)) (variables_in f)

  -- those that are, in order: its objects
  abbrev pub objects_of : TypedFunctionTree → List ℕ
  objects_of f = filter is_kept (variables_in f)

-- What an argument of a call is bound to is this variable, one of these scalars or objects.
abbrev pub IsBoundTo : (scalars objects : List ℕ) → Binding → (variable : ℕ) → Type 0
IsBoundTo scalars objects (ToScalar k) x = slice_get scalars k ≡ Some x
IsBoundTo scalars objects (ToObject k) x = slice_get objects k ≡ Some x

-- A temporary has the value that a scalar had: it was copied before, and nothing has written the temporary since.
abbrev pub HasOldValue : (scalar temporary : ℕ) → (before : List Instruction) → Type 0
HasOldValue x t before =
    (first : List Instruction) × (since : List Instruction) × (before ≡ first ++ Move t (Name x) ∷ since)
    × ((i : Instruction) → Among i since → writes t i ≡ false)

-- NO VALUE TAKES A DETOUR. A scalar's value is computed in the scalar: a temporary is copied to it only where the copy
-- is the first instruction of a block, as where arms meet, or where the temporary has the value that the scalar had
-- before, as in `x = x++`.
abbrev pub CopiesMeet : Graph → Type 0
CopiesMeet g =
    (n x t : ℕ) (b : Block) (before rest : List Instruction) → slice_get g.blocks n ≡ Some b
    → b.instructions ≡ before ++ Move x (Name t) ∷ rest → x < length g.scalars → length g.scalars ≤ t
    → (before ≡ []) ⊎ HasOldValue x t before

-- A GRAPH IS THAT OF A FUNCTION of a program, by the function's number. It begins at the place of the function's name,
-- and has a marker for each place of the function, in the order of the text. Its scalars are the variables of the
-- function that are not kept in memory, each with its type and the place that declares it, its objects the others, each
-- of its elements and of so many; and each argument goes to its parameter. No name is one that code motion made, no
-- value takes a detour to a scalar, and it has at most as many names as the function weighs, and at most twice as many
-- instructions.
pub record IsGraphOf (p : ProgramTree) (number : ℕ) (f : TypedFunctionTree) (g : Graph) : Type 0 where
  pub entry : g.entry ≡ place_number_at (places_of_program p) f.spot.at
  pub places : markers_of_blocks g.blocks
      ≡ map (λ (q : Place). place_number_at (places_of_program p) q.spot.at) (places_of_function number f)
  pub scalars : g.scalars ≡ map (scalar_record p f g.entry (scalars_of p f)) (scalars_of p f)
  pub objects : g.objects ≡ map (memory_object p) (objects_of p f)
  pub parameters : Pairs (IsBoundTo (scalars_of p f) (objects_of p f)) g.parameters (parameters_of f)
  pub moved : g.first_moved ≡ g.name_count
  pub copies : CopiesMeet g
  pub names : g.name_count ≤ f.weight
  pub instructions : instructions_of g ≤ 2 * f.weight

-- A UNIT IS THAT OF A PROGRAM. It is well marked, which means that it is valid, that its markers follow the flow, and
-- that each scalar is written and noted in the places that assign it; it logs no change, and its room is the large one
-- exactly where the program weighs over 4,000. It has a graph for each function, and the program's objects of static
-- storage; its steps and assignments are the program's, in order and each once; and on each input it does what the
-- program does, as far as C defines it.
pub record IsProgramUnit (p : ProgramTree) (u : UnitForm) : Type 0 where
  pub marked : AreWellMarked u
  pub log : u.log ≡ []
  pub room : u.room ≡ room_of p
  pub main : u.main ≡ p.main
  pub functions : length u.graphs ≡ length p.functions
  pub graphs : (k : ℕ) (f : TypedFunctionTree) (g : Graph)
      → slice_get p.functions k ≡ Some f → slice_get u.graphs k ≡ Some g → IsGraphOf p k f g
  pub statics : u.statics ≡ map (static_of p) p.statics ++ map literal_of p.literals
  pub array_bytes : u.array_bytes ≡ map (λ (l : LiteralTree). l.bytes) p.array_literals
  pub steps : (s : FlowStep) → Contains u.steps s ↔ Contains (steps_of_program p) s
  pub steps_order : AreInOrder u.steps
  pub assignments : (a : Assignment) → Contains u.assignments a ↔ Contains (assignments_of_program p) a
  pub assignments_order : AllPairs IsAssignmentBefore u.assignments
  pub does : DoesProgram p u
