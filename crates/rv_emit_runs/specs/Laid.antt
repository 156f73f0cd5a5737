-- Where the code of a unit with homes stands in memory, piece by piece, and what stands in static memory as a run
-- begins.
use Rattle.std.specs.Prelude.{◌≡◌, ℕ, ◌-◌, ◌<◌, ◌≤◌, ◌==◌, Some, None, List, [], ◌++◌, length, map, take, drop, slice_get, slice_index}
use Rattle.std.specs.Option.{option_map_or}
use Rattle.std.specs.List.{AllByRecursion}
use Rattle.memory_map.specs.Maps.{bytes_size, most_words, stack_size, stub_words}
use Rattle.rv_machine.specs.Table.{zeros}
use Rattle.graph_core.specs.Graphs.{Instruction, Marker, Note, Move, Operate, Truncate, Same, Address, Load, Store, Zero, CopyWords, Call, End, Jump, Branch, Return, Block, Graph, UnitForm}
use Rattle.graph_core.specs.Paths.{Among}
use Rattle.graph_core.specs.Uses.{targets_of}
use Rattle.graph_homes.specs.Frames.{saved, slot_count, slots_start, objects_start, object_offsets, frame_size}
use Rattle.graph_homes.specs.Homed.{HomedForm, homes_in, home_of}
use Rattle.rv_emit_storage.specs.StaticAddresses.{static_addresses, initial_bytes}
use Rattle.rv_emit_tables.specs.declared.emitted.PlacedStop.{PlacedStop}
use Rattle.rv_emit_tables.specs.Emitted.{EmittedForm}
use Rattle.rv_emit_words.specs.declared.piece.Held.{Held}
use Rattle.rv_emit_storage.specs.Storages.{StorageForm}
use Rattle.rv_emit_storage.specs.UnitMaps.{map_of_unit}
use Rattle.rv_emit_steps.specs.Holding.{memory_of}
use Rattle.rv_emit_steps.specs.Programs.{Program, address_of}
pub use Rattle.rv_emit_steps.specs.Frames.{IsWord, IsWordIn}
use Rattle.rv_emit_code.specs.Beginning.{with_beginning}
use Rattle.rv_emit_code.specs.Blocks.{no_code, block_code, with_stub}
use Rattle.rv_emit_code.specs.Leaving.{words_of_moving, with_leaving}
use Rattle.rv_emit_runs.specs.Passing.{AreWords}
use Rattle.rv_emit_runs.specs.Pieces.{Targets, AreInCode}
use Rattle.rv_emit_runs.specs.Placed.{PlacedAt}
use Rattle.rv_emit_runs.specs.Settings.{AreLoads}
use Rattle.rv_emit_runs.specs.Waiting.{FunctionCode}

-- ---- The parts of the code

-- Where the parts of the code stand: the word that gp holds, the index of the code at which each function begins, and
-- that at which each label of a function stands. The last label of a function is that of its end.
pub record Arrangement : Type 0 where
  pub base : ℕ
  pub function : ℕ → ℕ
  pub label : (function label : ℕ) → ℕ

-- the graph of no function: it has nothing
abbrev pub no_graph : Graph
no_graph =
    record { entry = 0; parameters = []; scalars = []; objects = []; name_count = 0; first_moved = 0; blocks = [] }

-- the graph of a function, if there is one
abbrev pub graph_at : UnitForm → (function : ℕ) → Graph
graph_at u f = option_map_or (λ g. g) (slice_get u.graphs f) no_graph

-- Where the code of a function finds values.
abbrev pub storage_in : HomedForm → Arrangement → (function : ℕ) → Graph → StorageForm
storage_in h a f g = record {
  homes = homes_in h f;
  slots = slots_start (length (saved (home_of h f) g));
  objects = object_offsets (objects_start (length (saved (home_of h f) g)) (slot_count (homes_in h f))) g.objects;
  statics = take (length h.unit.statics) (static_addresses h.unit);
  arrays = drop (length h.unit.statics) (static_addresses h.unit);
  base = a.base;
}

-- The code of a function: its frame is laid out as frames are.
abbrev pub code_of : HomedForm → Arrangement → (function : ℕ) → FunctionCode
code_of h a f = record {
  graph = graph_at h.unit f;
  storage = storage_in h a f (graph_at h.unit f);
  slots = slot_count (homes_in h f);
  size =
      frame_size (length (saved (home_of h f) (graph_at h.unit f))) (slot_count (homes_in h f))
      (graph_at h.unit f).objects;
  saved = saved (home_of h f) (graph_at h.unit f);
  begin = a.function f;
}

-- ---- What the machine has of it

-- the addresses at which a run stops
abbrev pub stop_addresses : EmittedForm → List ℕ
stop_addresses e = map (λ (s : PlacedStop). s.address) e.stops

-- the code as it lies in memory
abbrev pub program_of : (e : EmittedForm) → length e.code ≤ most_words e.map → Program
program_of e short = record { words = e.code; stops = stop_addresses e; map = e.map; short = short }

-- where labels of a function and functions stand, and whose the words are
abbrev pub targets_in : EmittedForm → Arrangement → (function : ℕ) → Targets
targets_in e a f = record { label = a.label f; function = a.function; owner = λ i. slice_index e.owners i }

-- the byte at each address as a run begins: static memory begins with the initial bytes, and all else is zero
abbrev pub first_bytes : EmittedForm → (address : ℕ) → ℕ
first_bytes e = memory_of e.map (e.initial ++ zeros (bytes_size - length e.initial)) (zeros stack_size)

-- ---- Where it stands

-- Each constant that is to be held is.
abbrev pub AreHeldAmong : (wanted held : List Held) → Type 0
AreHeldAmong wanted held = (x : Held) → Among x wanted → Among x held

-- The code of a block stands from its label on, up to the label of what stands next, where scratch registers hold
-- constants as it begins. It loads constants, each a word in a scratch register, at its end; and behind it those are
-- held that each block is to hold to which its end leads.
pub record IsBlockAt (h : HomedForm) (a : Arrangement) (p : Program) (t : Targets) (f : ℕ) (known : ℕ → List Held)
    (l : ℕ) (b : Block) : Type 0 where
  pub next : ℕ
  pub loads : List Held
  pub there : PlacedAt p t (a.label f l)
      (block_code (code_of h a f).storage (code_of h a f).graph.entry (code_of h a f).saved (code_of h a f).size
      (length (code_of h a f).graph.blocks) next (known l) loads b).pieces
      (a.label f next)
  pub constants : AreLoads loads
  pub leads : (m : ℕ) → Among m (targets_of b.end)
      → AreHeldAmong (known m)
      (block_code (code_of h a f).storage (code_of h a f).graph.entry (code_of h a f).saved (code_of h a f).size
      (length (code_of h a f).graph.blocks) next (known l) loads b).held

-- The code of a function stands in three parts: its beginning, behind which its first block stands, where nothing is
-- held; its blocks, each with constants, which are words in scratch registers, that are held as it begins; and its end.
pub record IsFunctionAt (h : HomedForm) (a : Arrangement) (p : Program) (t : Targets) (f : ℕ) : Type 0 where
  pub known : ℕ → List Held
  pub begins : PlacedAt p t (a.function f)
      (with_beginning (code_of h a f).storage (code_of h a f).graph (code_of h a f).saved (code_of h a f).size
      (f == h.unit.main) (no_code (code_of h a f).graph.entry [])).pieces
      (a.label f 0)
  pub first : known 0 ≡ []
  pub constants : (l : ℕ) → AreLoads (known l)
  pub blocks : (l : ℕ) (b : Block) → slice_get (code_of h a f).graph.blocks l ≡ Some b → IsBlockAt h a p t f known l b
  pub behind : ℕ
  pub ends : PlacedAt p t (a.label f (length (code_of h a f).graph.blocks))
      (with_leaving (words_of_moving (code_of h a f).size) (code_of h a f).saved (code_of h a f).size
      (no_code 0 [])).pieces
      behind

-- ---- What is asked of the unit's numbers

-- The constants of an instruction are words.
abbrev pub HasWords : Instruction → Type 0
HasWords (Marker p) = Unit {0}
HasWords (Note x v) = Unit {0}
HasWords (Move x a) = IsWord a
HasWords (Operate x op a b) = IsWord a × IsWord b
HasWords (Truncate x t a) = IsWord a
HasWords (Same x a b) = IsWord a × IsWord b
HasWords (Address x object) = Unit {0}
HasWords (Load x e l) = IsWordIn l
HasWords (Store e l a) = IsWordIn l × IsWord a
HasWords (Zero object words) = Unit {0}
HasWords (CopyWords object bytes words) = Unit {0}
HasWords (Call target f all) = AreWords all

-- those of an end too
abbrev pub HasWordsAtEnd : End → Type 0
HasWordsAtEnd (Jump to) = Unit {0}
HasWordsAtEnd (Branch k x y if_true if_false) = IsWord x × IsWord y
HasWordsAtEnd (Return None) = Unit {0}
HasWordsAtEnd (Return (Some a)) = IsWord a

-- The constants of a block are words.
pub record HasWordsInBlock (b : Block) : Type 0 where
  pub instructions : AllByRecursion HasWords b.instructions
  pub end : HasWordsAtEnd b.end

-- The constants of a graph are words.
pub record IsInWords (g : Graph) : Type 0 where
  pub blocks : AllByRecursion HasWordsInBlock g.blocks

-- ---- The code of a unit

-- A unit with homes has this code: its memory is the unit's; its parts stand where they are to stand, as they are made;
-- each stop is the first word of its place; static memory begins with the initial bytes of the unit; and the unit's
-- numbers are in range.
pub record IsCode (h : HomedForm) (e : EmittedForm) : Type 0 where
  pub arrangement : Arrangement
  pub map : e.map ≡ map_of_unit h.unit
  pub short : length e.code ≤ most_words e.map
  pub inside : (f : ℕ) → AreInCode e.map (targets_in e arrangement f)
  -- what stands before all functions
  pub stub : PlacedAt (program_of e short) (targets_in e arrangement h.unit.main) 0
      (with_stub e.map h.unit.main (no_code 0 [])).pieces (stub_words e.map)
  pub functions : (f : ℕ) → f < length h.unit.graphs
      → IsFunctionAt h arrangement (program_of e short) (targets_in e arrangement f) f
  -- a stop is the first word of its place
  pub stops : (s : PlacedStop) → Among s e.stops
      → (index : ℕ) × (s.address ≡ address_of index) × (slice_index e.owners index ≡ s.place)
  -- constants and the initial bytes are in range
  pub words : AllByRecursion IsInWords h.unit.graphs
  pub bytes : AllByRecursion (λ b. b < 256) e.initial
  pub few_bytes : length e.initial ≤ bytes_size
  pub base : arrangement.base < 4294967296
  -- static memory begins with the unit's initial bytes
  pub initial : e.initial ≡ initial_bytes h.unit
