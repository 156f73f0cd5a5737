-- Valid units: their numbers name what they have, their counts stay within bounds, each instruction has a place, and
-- the place that a block keeps is one of its graph and right along each edge into it.
use Rattle.std.specs.Prelude.{◌≡◌, ◌≢◌, ◌⊎◌, ℕ, max, ◌+◌, ◌*◌, ◌<◌, ◌≤◌, Option, Some, None, List, [], ◌∷◌, ◌++◌, length, slice_get, ⊤}
use Rattle.std.specs.List.{AllByRecursion}
use Rattle.graph_core.specs.declared.instruction.Callee.{Callee}
use Rattle.graph_core.specs.declared.instruction.Callee.TheVariants.{Function, Getchar, Putchar, Exit}
use Rattle.graph_core.specs.declared.graph.MemoryObject.{MemoryObject}
use Rattle.graph_core.specs.declared.unit.Relocation.{Relocation}
use Rattle.graph_core.specs.Graphs.{Operand, Name, Constant, StaticAddress, Recipe, Of, Truncated, Operated, NoteValue, Is, Gone, Location, Automatic, Static, At, Instruction, Marker, Note, Move, Operate, Truncate, Same, Address, Load, Store, Zero, CopyWords, Call, End, Jump, Branch, Return, Block, Binding, ToScalar, ToObject, Graph, StaticObject, UnitForm}
use Rattle.graph_core.specs.Uses.{targets_of}
use Rattle.graph_core.specs.Paths.{Among}
use Rattle.graph_core.specs.Bounds.{most_functions, most_parameters, most_names, most_instructions_of_function, most_instructions, most_blocks, most_markers, most_arguments, most_bytes_of_function, most_static_bytes, most_depth}
use Rattle.graph_core.specs.Values.{size_of}
use Rattle.graph_core.specs.Memory.{words_of, static_bytes}

-- sums over lists
abbrev pub total : {A : Type 0} → (A → ℕ) → List A → ℕ
total count [] = 0
total count (a ∷ more) = count a + total count more

-- Markers, notes and the ends of blocks are not counted.
abbrev pub counts : Instruction → ℕ
counts (Marker p) = 0
counts (Note x v) = 0
counts _ = 1

-- how many instructions of a graph are counted
abbrev pub instructions_of : Graph → ℕ
instructions_of g = total (λ (b : Block). total counts b.instructions) g.blocks

-- the arguments of calls
abbrev pub arguments_in : Instruction → ℕ
arguments_in (Call x f all) = length all
arguments_in _ = 0

-- the arguments of all calls of a graph
abbrev pub arguments_of : Graph → ℕ
arguments_of g = total (λ (b : Block). total arguments_in b.instructions) g.blocks

-- the places that markers begin, in order
abbrev pub markers_in : List Instruction → List ℕ
markers_in [] = []
markers_in (Marker p ∷ more) = p ∷ markers_in more
markers_in (_ ∷ more) = markers_in more

-- the places that blocks begin, in order
abbrev pub markers_of_blocks : List Block → List ℕ
markers_of_blocks [] = []
markers_of_blocks (b ∷ more) = markers_in b.instructions ++ markers_of_blocks more

-- the places that graphs begin, in order
abbrev pub markers_of : List Graph → List ℕ
markers_of [] = []
markers_of (g ∷ more) = markers_of_blocks g.blocks ++ markers_of more

-- What an object takes: its bytes rounded up to words, and one word.
abbrev pub taken_by : (bytes : ℕ) → ℕ
taken_by bytes = 4 * words_of bytes + 4

-- what an automatic object takes
abbrev pub taken_by_object : MemoryObject → ℕ
taken_by_object o = taken_by (o.count * size_of o.element)

-- how deep a recipe is, where an operand is 1 deep
abbrev pub depth_of : Recipe → ℕ
depth_of (Of a) = 1
depth_of (Truncated t r) = 1 + depth_of r
depth_of (Operated o r s) = 1 + max (depth_of r) (depth_of s)

-- the place in force behind instructions
abbrev pub place_behind : List Instruction → Option ℕ → Option ℕ
place_behind [] before = before
place_behind (Marker p ∷ more) before = place_behind more (Some p)
place_behind (_ ∷ more) before = place_behind more before

-- the place in force at the end of a block
abbrev pub place_at_end : Block → Option ℕ
place_at_end b = place_behind b.instructions b.place

-- A block keeps a place: it begins with a marker, or the place is in force where it begins.
abbrev pub KeepsPlace : List Instruction → (in_force kept : Option ℕ) → Type 0
KeepsPlace (Marker p ∷ more) place kept = ⊤
KeepsPlace _ place kept = place ≡ kept

-- there is a block, and it keeps the place in force
abbrev pub IsKept : Option ℕ → Option Block → Type 0
IsKept place None = ⊥
IsKept place (Some b) = KeepsPlace b.instructions place b.place

-- Each instruction of a block has a place: the block begins with a marker, or it keeps a place.
abbrev pub HasPlace : List Instruction → (kept : Option ℕ) → Type 0
HasPlace (Marker p ∷ more) kept = ⊤
HasPlace _ kept = kept ≢ None

-- A place that a block keeps is the entry of its graph, or has its marker there, whether a path reaches the block or
-- not.
abbrev pub IsOwnPlace : Graph → Option ℕ → Type 0
IsOwnPlace g None = ⊤
IsOwnPlace g (Some p) = (p ≡ g.entry) ⊎ Among p (markers_of_blocks g.blocks)

-- there is a function, and it has so many parameters
abbrev pub HasParameters : Option Graph → (count : ℕ) → Type 0
HasParameters None n = ⊥
HasParameters (Some f) n = n ≡ length f.parameters

-- there is an automatic object, and an offset is within it or directly behind it
abbrev pub IsInObject : Option MemoryObject → (offset : ℕ) → Type 0
IsInObject None offset = ⊥
IsInObject (Some o) offset = offset ≤ o.count * size_of o.element

-- no number stands twice
abbrev pub AreAllDifferent : List ℕ → Type 0
AreAllDifferent [] = ⊤
AreAllDifferent (p ∷ more) = AllByRecursion (λ q. p ≢ q) more × AreAllDifferent more

module _ (g : Graph) where
  -- a name of the graph
  abbrev pub IsTarget : ℕ → Type 0
  IsTarget x = x < g.name_count

  -- a name of the graph, if there is one
  abbrev pub IsWanted : Option ℕ → Type 0
  IsWanted None = ⊤
  IsWanted (Some x) = IsTarget x

  -- the number of an automatic object of the graph
  abbrev pub IsObject : ℕ → Type 0
  IsObject k = k < length g.objects

  -- a parameter is bound to a scalar or an object of the graph
  abbrev pub IsBinding : Binding → Type 0
  IsBinding (ToScalar x) = x < length g.scalars
  IsBinding (ToObject object) = IsObject object

  -- each edge from a block leads to a block of the graph that keeps the place in force
  abbrev pub AreEdges : Option ℕ → List ℕ → Type 0
  AreEdges place all = AllByRecursion (λ l. IsKept place (slice_get g.blocks l)) all

-- A call has as many arguments as what it calls takes.
abbrev pub IsCall : List Graph → Callee → (arguments : ℕ) → Type 0
IsCall graphs (Function f) n = HasParameters (slice_get graphs f) n
IsCall graphs Getchar n = n ≡ 0
IsCall graphs Putchar n = n ≡ 1
IsCall graphs Exit n = n ≡ 1

module _ (statics : List StaticObject) where
  -- the number of a static object
  abbrev pub IsStatic : ℕ → Type 0
  IsStatic n = n < length statics

  -- each relocation names a static object
  abbrev pub AreRelocations : List Relocation → Type 0
  AreRelocations all = AllByRecursion (λ (r : Relocation). IsStatic r.object) all

  module _ (g : Graph) where
    -- An operand names a name of its graph, or a static object of its unit.
    abbrev pub IsOperand : Operand → Type 0
    IsOperand (Name x) = x < g.name_count
    IsOperand (Constant w) = ⊤
    IsOperand (StaticAddress object offset) = IsStatic object

    -- each operand of a recipe names what its graph and its unit have
    abbrev pub AreOperandsOf : Recipe → Type 0
    AreOperandsOf (Of a) = IsOperand a
    AreOperandsOf (Truncated t r) = AreOperandsOf r
    AreOperandsOf (Operated o r s) = AreOperandsOf r × AreOperandsOf s

    -- a location names what its graph and its unit have
    abbrev pub IsLocation : Location → Type 0
    IsLocation (Automatic object offset) = IsInObject (slice_get g.objects object) offset
    IsLocation (Static object) = IsStatic object
    IsLocation (At a) = IsOperand a

    -- each operand of the end of a block names what its graph and its unit have
    abbrev pub AreOperandsOfEnd : End → Type 0
    AreOperandsOfEnd (Jump l) = ⊤
    AreOperandsOfEnd (Branch k a b l m) = IsOperand a × IsOperand b
    AreOperandsOfEnd (Return None) = ⊤
    AreOperandsOfEnd (Return (Some a)) = IsOperand a

module _ (u : UnitForm) where
  module _ (g : Graph) where
    -- A note's recipe is not too deep; a change is one of the log.
    abbrev pub IsNoteValue : NoteValue → Type 0
    IsNoteValue (Is r) = AreOperandsOf u.statics g r × (depth_of r ≤ most_depth)
    IsNoteValue (Gone change) = (1 ≤ change) × (change ≤ length u.log)

    -- An instruction names what its graph and its unit have.
    abbrev pub IsInstruction : Instruction → Type 0
    IsInstruction (Marker p) = ⊤
    IsInstruction (Note x v) = (x < length g.scalars) × IsNoteValue v
    IsInstruction (Move x a) = IsTarget g x × IsOperand u.statics g a
    IsInstruction (Operate x o a b) = IsTarget g x × IsOperand u.statics g a × IsOperand u.statics g b
    IsInstruction (Truncate x t a) = IsTarget g x × IsOperand u.statics g a
    IsInstruction (Same x a b) = IsTarget g x × IsOperand u.statics g a × IsOperand u.statics g b
    IsInstruction (Address x object) = IsTarget g x × IsObject g object
    IsInstruction (Load x e l) = IsTarget g x × IsLocation u.statics g l
    IsInstruction (Store e l a) = IsLocation u.statics g l × IsOperand u.statics g a
    IsInstruction (Zero object words) = IsObject g object
    IsInstruction (CopyWords object bytes words) = IsObject g object × (bytes < length u.array_bytes)
    IsInstruction (Call x f all) =
        IsWanted g x × AllByRecursion (IsOperand u.statics g) all × IsCall u.graphs f (length all)

    -- A block is valid: its instructions have places, it keeps a place of its graph, it names what there is, and each
    -- edge from it leads to a block that keeps the place in force.
    pub record IsBlock (b : Block) : Type 0 where
      pub place : HasPlace b.instructions b.place
      pub own : IsOwnPlace g b.place
      pub instructions : AllByRecursion IsInstruction b.instructions
      pub operands : AreOperandsOfEnd u.statics g b.end
      pub edges : AreEdges g (place_at_end b) (targets_of b.end)

    -- A graph is valid: its counts are within bounds, it begins in its entry's place, and its bindings and blocks name
    -- what there is.
    pub record IsGraph : Type 0 where
      pub instructions : instructions_of g ≤ most_instructions_of_function
      pub names : g.name_count ≤ most_names
      pub scalars : length g.scalars ≤ g.first_moved
      pub temporaries : g.first_moved ≤ g.name_count
      pub parameters : length g.parameters ≤ most_parameters
      pub bindings : AllByRecursion (IsBinding g) g.parameters
      -- what its objects take
      pub objects : total taken_by_object g.objects ≤ most_bytes_of_function
      -- A call begins in the first block, where the entry's place is in force.
      pub begins : IsKept (Some g.entry) (slice_get g.blocks 0)
      pub blocks : AllByRecursion IsBlock g.blocks

  -- A unit is valid.
  pub record IsValid : Type 0 where
    pub functions : length u.graphs ≤ most_functions
    -- main is called with no argument
    pub main : HasParameters (slice_get u.graphs u.main) 0
    pub instructions : total instructions_of u.graphs ≤ most_instructions u.room
    pub blocks : total (λ (g : Graph). length g.blocks) u.graphs ≤ most_blocks u.room
    pub markers : length (markers_of u.graphs) ≤ most_markers u.room
    pub arguments : total arguments_of u.graphs ≤ most_arguments u.room
    -- what the static objects and the bytes that initialise arrays take
    pub statics : total (λ o. taken_by (static_bytes o)) u.statics
        + total (λ (b : List ℕ). taken_by (length b)) u.array_bytes
        ≤ most_static_bytes
    pub relocations : AllByRecursion (λ (o : StaticObject). AreRelocations u.statics o.relocations) u.statics
    -- no place has two markers
    pub once : AreAllDifferent (markers_of u.graphs)
    pub graphs : AllByRecursion IsGraph u.graphs
