-- The code of a unit: what stands before all functions, and the functions one behind the other.
use Rattle.std.specs.Prelude.{◌≡◌, ◌≢◌, ℕ, ◌+◌, ◌<◌, ◌≤◌, ◌==◌, nat_lt, nat_le, Bool, Some, List, [], ◌∷◌, ◌++◌, length, map, take, drop, replicate, slice_get, slice_index, get_or}
use Rattle.std.specs.Option.{option_map_or}
use Rattle.std.specs.List.{AllByRecursion}
use Rattle.graph_core.specs.Graphs.{Graph, UnitForm}
use Rattle.graph_core.specs.Validity.{total}
use Rattle.graph_homes.specs.declared.home.Home.{Home}
use Rattle.graph_homes.specs.Frames.{frame_size, object_offsets, objects_start, slot_count, slots_start}
use Rattle.graph_homes.specs.Homed.{HomedForm, homes_in}
use Rattle.rv_emit_storage.specs.StaticAddresses.{initial_bytes, static_addresses}
use Rattle.memory_map.specs.Maps.{bytes_start}
use Rattle.memory_map.specs.declared.map.Map.{Map}
use Rattle.memory_map.specs.declared.map.Room.{Room}
use Rattle.rv_emit_tables.specs.declared.emitted.PlacedStop.{PlacedStop}
use Rattle.rv_emit_tables.specs.Emitted.{EmittedForm, FunctionCode}
use Rattle.rv_emit_storage.specs.declared.statics.Statics as declared-statics
use Rattle.rv_emit_storage.specs.Kept.{FitsFrame, saved_in}
use Rattle.rv_emit_storage.specs.UnitMaps.{map_of_unit}
use Rattle.rv_emit_code.specs.Blocks.{no_code, with_stub}
use Rattle.rv_emit_words.specs.declared.piece.Piece.{Piece}
use Rattle.rv_emit_words.specs.declared.piece.Piece.TheVariants.{Word, Jump, Branch, Call}
use Rattle.rv_emit_words.specs.declared.piece.PlacedPiece.{PlacedPiece}
use Rattle.rv_emit_sequence.specs.Sequences.{Ground, SequenceForm, counted, sequence_view, IsSequenceOf}
use Rattle.rv_emit_layout.specs.declared.layout.OwnedWord.{OwnedWord}
use Rattle.rv_emit_layout.specs.declared.reaching.Reach.{Reach}
use Rattle.rv_emit_layout.specs.declared.reaching.Reach.TheVariants.{Near, Far}
use Rattle.rv_emit_layout.specs.Layouts.{LayoutForm, distance, function_words, layout_of, layout_view, longest_layout, most_pieces, IsJumpNear, IsLayoutOf}
use Rattle.rv_emit_layout.specs.Tracing.{stops_of_blocks, with_writers, word_address}
use Rattle.rv_emit_layout.specs.declared.assembling.Coded as declared-coded
use Rattle.rv_emit_layout.specs.declared.laying.Laid as declared-laid

-- A function before it has an address: the registers that its frame keeps, the offset of its slots and of its objects,
-- its size, its pieces, and where they stand.
pub record LaidForm : Type 0 where
  pub saved : List ℕ
  pub slots : ℕ
  pub objects : List ℕ
  pub size : ℕ
  pub sequence : SequenceForm
  pub layout : LayoutForm

-- what the code has of it
abbrev pub laid_view : declared-laid.Laid → LaidForm
laid_view l =
    record {
      saved = l.frame.saved.items;
      slots = l.frame.slots;
      objects = l.frame.objects.items;
      size = l.frame.size;
      sequence = sequence_view l.sequence;
      layout = layout_view l.layout;
    }

-- The addresses of static objects and of the bytes that initialise arrays, and the one that gp holds.
pub record StaticForm : Type 0 where
  pub objects : List ℕ
  pub arrays : List ℕ
  pub base : ℕ

-- what the code has of it
abbrev pub static_view : declared-statics.Statics → StaticForm
static_view s = record { objects = s.objects.items; arrays = s.array_bytes.items; base = s.base }

-- The word that gp holds: the address of the middle of the first 4,096 bytes of static memory.
abbrev pub base_of : Map → ℕ
base_of m = bytes_start m + 2048

-- Addresses are those that a unit's static objects and the bytes that initialise its arrays have, and gp holds its
-- word.
pub record AreAddressesOf (u : UnitForm) (s : StaticForm) : Type 0 where
  pub objects : s.objects ≡ take (length u.statics) (static_addresses u)
  pub arrays : s.arrays ≡ drop (length u.statics) (static_addresses u)
  pub base : s.base ≡ base_of (map_of_unit u)

-- What the code of a function rests on. Its end has the label behind those of its blocks.
abbrev pub ground_for : StaticForm → Graph → List Home → LaidForm → Ground
ground_for s g homes l = record {
  storage =
      record {
        homes = homes;
        slots = l.slots;
        objects = l.objects;
        statics = s.objects;
        arrays = s.arrays;
        base = s.base;
      };
  entry = g.entry;
  saved = l.saved;
  size = l.size;
  end = counted (length g.blocks);
}

-- The code of a function: its frame is laid out as frames are, and its pieces are a sequence of the function.
pub record IsDrawnOf (s : StaticForm) (g : Graph) (homes : List Home) (is_main : Bool) (l : LaidForm) : Type 0 where
  pub saved : l.saved ≡ saved_in homes g
  pub slots : l.slots ≡ slots_start (length l.saved)
  pub objects : FitsFrame homes g
      → l.objects ≡ object_offsets (objects_start (length l.saved) (slot_count homes)) g.objects
  pub size : FitsFrame homes g → l.size ≡ frame_size (length l.saved) (slot_count homes) g.objects
  pub sequence : length g.blocks < 4294967295 → IsSequenceOf (ground_for s g homes l) g is_main l.sequence

-- It stands in the longest layout of its room.
abbrev pub IsLongest : Room → LaidForm → Type 0
IsLongest room l = l.layout ≡ longest_layout room l.sequence

-- The code of a function before it has an address: it is that of the function, and its pieces stand as a layout has
-- them.
pub record IsLaidOf (room : Room) (s : StaticForm) (g : Graph) (homes : List Home) (is_main : Bool) (l : LaidForm)
    : Type 0 where
  pub drawn : IsDrawnOf s g homes is_main l
  pub layout : length l.sequence.pieces ≤ most_pieces → IsLayoutOf room l.sequence l.layout

-- There is code of each function, from one of this number on.
abbrev pub AreDrawn : HomedForm → StaticForm → (function : ℕ) → List Graph → List LaidForm → Type 0
AreDrawn h s f [] [] = Unit {0}
AreDrawn h s f [] (l ∷ more) = ⊥
AreDrawn h s f (g ∷ graphs) [] = ⊥
AreDrawn h s f (g ∷ graphs) (l ∷ more) =
    IsDrawnOf s g (homes_in h f) (f == h.unit.main) l × AreDrawn h s (counted (f + 1)) graphs more

-- The code of each is laid out.
abbrev pub AreLaid : HomedForm → StaticForm → (function : ℕ) → List Graph → List LaidForm → Type 0
AreLaid h s f [] [] = Unit {0}
AreLaid h s f [] (l ∷ more) = ⊥
AreLaid h s f (g ∷ graphs) [] = ⊥
AreLaid h s f (g ∷ graphs) (l ∷ more) =
    IsLaidOf h.unit.room s g (homes_in h f) (f == h.unit.main) l × AreLaid h s (counted (f + 1)) graphs more

-- A function of this number that stands in the longest layout gets its own one, where so many words stand before each
-- function in the longest layout.
abbrev pub shortened : Room → (firsts : List ℕ) → (function : ℕ) → LaidForm → LaidForm
shortened room firsts f l =
    record
    l {
      layout = layout_of (record {
        room = room;
        first = slice_index firsts f;
        firsts = firsts;
        offsets = l.layout.offsets;
      }) l.sequence;
    }

-- So does each, from one of this number on.
abbrev pub all_shortened : Room → (firsts : List ℕ) → (function : ℕ) → List LaidForm → List LaidForm
all_shortened room firsts f [] = []
all_shortened room firsts f (l ∷ more) = shortened room firsts f l ∷ all_shortened room firsts (counted (f + 1)) more

-- A call of one word reaches the function that it calls.
abbrev pub IsCallNear : Room → (firsts : List ℕ) → Reach → (here : ℕ) → Piece → Type 0
IsCallNear room firsts x here (Word i) = Unit {0}
IsCallNear room firsts x here (Jump to) = Unit {0}
IsCallNear room firsts x here (Branch op l r to) = Unit {0}
IsCallNear room firsts x here (Call f) = x ≢ Far → IsJumpNear room (distance here (slice_index firsts f))

-- So does each in a function before which so many words stand.
abbrev pub AreCallsNear : Room → (firsts : List ℕ) → (first : ℕ) → LaidForm → Type 0
AreCallsNear room firsts n l =
    (k : ℕ) (x : PlacedPiece) → slice_get l.sequence.pieces k ≡ Some x
    → IsCallNear room firsts (get_or l.layout.reaches k Near) (n + slice_index l.layout.offsets k) x.piece

-- Each call of the unit does, as long as 32 bits can count the bytes of its code.
abbrev pub AreAllCallsNear : Room → (firsts : List ℕ) → List LaidForm → Type 0
AreAllCallsNear room firsts all =
    (f : ℕ) (l : LaidForm) → slice_get all f ≡ Some l → AreCallsNear room firsts (slice_index firsts f) l

-- How many words stand before each function, where so many stand before the first, and in all. As far as 32 bits can
-- count.
abbrev pub firsts_from : (words : ℕ) → List LaidForm → List ℕ
firsts_from n [] = n ∷ []
firsts_from n (l ∷ more) = n ∷ firsts_from (counted (n + l.layout.words)) more

-- What stands before all functions: its pieces, and where they stand.
abbrev pub stub_form : Map → (main : ℕ) → SequenceForm
stub_form m main =
    record { pieces = (with_stub m main (no_code 0 [])).pieces; begin = 0; labels = []; ends = []; numbers = [] }

-- What stands before all functions of a unit.
abbrev pub stub_of : UnitForm → SequenceForm
stub_of u = stub_form (map_of_unit u) u.main

-- The words of functions, from one of this number on.
abbrev pub words_of_all : (firsts : List ℕ) → (function : ℕ) → List LaidForm → List OwnedWord
words_of_all firsts f [] = []
words_of_all firsts f (l ∷ more) =
    function_words l.sequence l.layout (slice_index firsts f) firsts ++ words_of_all firsts (counted (f + 1)) more

-- Their stops.
abbrev pub stops_of_all : (firsts : List ℕ) → (function : ℕ) → List LaidForm → List PlacedStop
stops_of_all firsts f [] = []
stops_of_all firsts f (l ∷ more) =
    stops_of_blocks l.sequence l.layout (slice_index firsts f) 0 (counted (length l.sequence.ends))
    ++ stops_of_all firsts (counted (f + 1)) more

-- What is told of a function before which so many words stand.
abbrev pub told_by : (first parameters : ℕ) → LaidForm → FunctionCode
told_by first n l = record {
  first = word_address first;
  end = word_address (counted (first + l.layout.words));
  frame = l.size;
  slots = l.slots;
  objects = l.objects;
  bindings = with_writers l.layout first (λ i. nat_lt i l.sequence.begin) 0 l.sequence.pieces (replicate n 0);
  writers =
      with_writers l.layout first (λ i. nat_le l.sequence.begin i) 0 l.sequence.pieces
      (replicate (slice_index l.sequence.numbers (counted (length l.sequence.ends))) 0);
}

-- How many parameters a function has.
abbrev pub parameters_in : List Graph → (function : ℕ) → ℕ
parameters_in graphs f = option_map_or (λ (g : Graph). length g.parameters) (slice_get graphs f) 0

-- What is told of functions, from one of this number on.
abbrev pub told_of_all : List Graph → (firsts : List ℕ) → (function : ℕ) → List LaidForm → List FunctionCode
told_of_all graphs firsts f [] = []
told_of_all graphs firsts f (l ∷ more) =
    told_by (slice_index firsts f) (parameters_in graphs f) l ∷ told_of_all graphs firsts (counted (f + 1)) more

-- The code of a unit with what stands where: its functions, how many words stand before each of them and in all, and
-- all words.
pub record CodedForm : Type 0 where
  pub all : List LaidForm
  pub firsts : List ℕ
  pub words : List OwnedWord

-- what the code has of it
abbrev pub coded_view : declared-coded.Coded → CodedForm
coded_view c = record { all = map laid_view c.all.items; firsts = c.firsts.items; words = c.words.items }

-- How many pieces functions have.
abbrev pub pieces_in : List LaidForm → ℕ
pieces_in all = total (λ (l : LaidForm). length l.sequence.pieces) all

-- What stands before all functions of a unit is always in the longest layout: its call is one of two words in the
-- larger room.
abbrev pub layout_of_stub : UnitForm → LayoutForm
layout_of_stub u = longest_layout u.room (stub_of u)

-- The functions are those of the unit, their calls reach, and the words are those of the stub and theirs, one behind
-- the other.
pub record IsCodeOf (h : HomedForm) (s : StaticForm) (c : CodedForm) : Type 0 where
  pub laid : AreLaid h s 0 h.unit.graphs c.all
  pub firsts : c.firsts ≡ firsts_from (layout_of_stub h.unit).words c.all
  pub calls : pieces_in c.all < most_pieces → AreAllCallsNear h.unit.room c.firsts c.all
  pub words : c.words
      ≡ function_words (stub_of h.unit) (layout_of_stub h.unit) 0 c.firsts ++ words_of_all c.firsts 0 c.all

-- What is emitted is such code: its words, their owners, its stops, and what is told of its functions. Its memory is
-- the unit's. Static memory begins with the unit's initial bytes, which are bytes, and what lies there has its
-- addresses.
pub record IsEmittedOf (h : HomedForm) (e : EmittedForm) : Type 0 where
  pub regions : e.map ≡ map_of_unit h.unit
  pub statics : StaticForm
  pub coded : CodedForm
  pub code : IsCodeOf h statics coded
  pub words : e.code ≡ map (λ (w : OwnedWord). w.word) coded.words
  pub owners : e.owners ≡ map (λ (w : OwnedWord). w.owner) coded.words
  pub stops : e.stops ≡ stops_of_all coded.firsts 0 coded.all
  pub functions : e.functions ≡ told_of_all h.unit.graphs coded.firsts 0 coded.all
  pub objects : e.statics ≡ statics.objects
  pub addresses : AreAddressesOf h.unit statics
  pub initial : e.initial ≡ initial_bytes h.unit
  pub bytes : AllByRecursion (λ b. b < 256) e.initial
