-- Units and their graphs as contracts see them, without where they lie in memory.
use Rattle.std.specs.Prelude.{ℕ, List, Option, map, option_map}
use Rattle.memory_map.specs.declared.map.Room.{Room}
use Rattle.debug_records.specs.declared.change.PassName.{PassName}
use Rattle.debug_records.specs.declared.change.Kind as declared-kind
use Rattle.debug_records.specs.declared.change.Change as declared-change
use Rattle.debug_records.specs.declared.change.Place as declared-place
use Rattle.debug_records.specs.Change.{changes}
use Rattle.places.specs.declared.flow.FlowStep.{FlowStep}
use Rattle.places.specs.declared.flow.Assignment.{Assignment}
use Rattle.word_base.specs.declared.operation.Operation.{Operation}
use Rattle.word_base.specs.declared.operation.Truncation.{Truncation}
use Rattle.graph_core.specs.declared.name.Operand as declared-operand
use Rattle.graph_core.specs.declared.name.Operand.TheVariants as operand
use Rattle.graph_core.specs.declared.recipe.Recipe as declared-recipe
use Rattle.graph_core.specs.declared.recipe.Recipe.TheVariants as recipe
use Rattle.graph_core.specs.declared.recipe.NoteValue as declared-note
use Rattle.graph_core.specs.declared.recipe.NoteValue.TheVariants as note
use Rattle.graph_core.specs.declared.instruction.Element.{Element}
use Rattle.graph_core.specs.declared.instruction.Location as declared-location
use Rattle.graph_core.specs.declared.instruction.Location.TheVariants as location
use Rattle.graph_core.specs.declared.instruction.Callee.{Callee}
use Rattle.graph_core.specs.declared.instruction.Instr as declared-instr
use Rattle.graph_core.specs.declared.instruction.Instr.TheVariants as instr
use Rattle.graph_core.specs.declared.block.Comparison.{Comparison}
use Rattle.graph_core.specs.declared.block.End as declared-end
use Rattle.graph_core.specs.declared.block.End.TheVariants as end
use Rattle.graph_core.specs.declared.block.Block as declared-block
use Rattle.graph_core.specs.declared.graph.Binding as declared-binding
use Rattle.graph_core.specs.declared.graph.Binding.TheVariants as binding
use Rattle.graph_core.specs.declared.graph.MemoryObject.{MemoryObject}
use Rattle.graph_core.specs.declared.graph.Scalar as declared-scalar
use Rattle.graph_core.specs.declared.graph.Graph as declared-graph
use Rattle.graph_core.specs.declared.unit.Relocation.{Relocation}
use Rattle.graph_core.specs.declared.unit.StaticObject as declared-static
use Rattle.graph_core.specs.declared.unit.Bytes as declared-bytes
use Rattle.graph_core.specs.declared.unit.Unit as declared-unit
use Rattle.graph_core.specs.declared.name.Name as declared-name

-- What an instruction reads: the value of a name, a word, or the address of a static object.
pub data Operand : Type 0 where
  Name : ℕ → Operand
  Constant : (word : ℕ) → Operand
  StaticAddress : (object offset : ℕ) → Operand

-- How a value is computed from names.
pub data Recipe : Type 0 where
  Of : Operand → Recipe
  Truncated : Truncation → Recipe → Recipe
  Operated : Operation → (left right : Recipe) → Recipe

-- What a note says of its variable: its value is that of a recipe, or it is gone by a change.
pub data NoteValue : Type 0 where
  Is : Recipe → NoteValue
  Gone : (change : ℕ) → NoteValue

-- Where a load reads and a store writes: in an automatic object, so many bytes behind its beginning, at the beginning
-- of a static object, or where a value points.
pub data Location : Type 0 where
  Automatic : (object offset : ℕ) → Location
  Static : (object : ℕ) → Location
  At : Operand → Location

-- What an instruction does: it begins a place, notes a value, writes a name, writes memory, or calls.
pub data Instruction : Type 0 where
  Marker : (place : ℕ) → Instruction
  Note : (x : ℕ) → NoteValue → Instruction
  Move : (target : ℕ) → Operand → Instruction
  Operate : (target : ℕ) → Operation → (left right : Operand) → Instruction
  Truncate : (target : ℕ) → Truncation → Operand → Instruction
  Same : (target : ℕ) → (left right : Operand) → Instruction
  Address : (target object : ℕ) → Instruction
  Load : (target : ℕ) → Element → Location → Instruction
  Store : Element → Location → (value : Operand) → Instruction
  Zero : (object words : ℕ) → Instruction
  CopyWords : (object bytes words : ℕ) → Instruction
  Call : (target : Option ℕ) → Callee → (arguments : List Operand) → Instruction

-- Where control goes from the end of a block.
pub data End : Type 0 where
  Jump : (block : ℕ) → End
  Branch : Comparison → (left right : Operand) → (if_true if_false : ℕ) → End
  Return : Option Operand → End

-- A basic block: the place in force where it begins, if there is one, its instructions and its end.
pub record Block : Type 0 where
  pub place : Option ℕ
  pub instructions : List Instruction
  pub end : End

-- What an argument is bound to: a scalar, or an automatic object.
pub data Binding : Type 0 where
  ToScalar : ℕ → Binding
  ToObject : ℕ → Binding

-- A scalar variable: its number; that of its type, which equal types alone share; and the place of its declarator, or
-- of the function's entry where it is a parameter.
pub record Scalar : Type 0 where
  pub variable : ℕ
  pub of : ℕ
  pub place : ℕ

-- The graph of a function. Its first names are its scalars; behind them come the temporaries, last those that code
-- motion made.
pub record Graph : Type 0 where
  pub entry : ℕ
  pub parameters : List Binding
  pub scalars : List Scalar
  pub objects : List MemoryObject
  pub name_count : ℕ
  pub first_moved : ℕ
  pub blocks : List Block

-- An object of static storage: what its elements are, how many it has, its first bytes, and the elements that hold
-- addresses.
pub record StaticObject : Type 0 where
  pub element : Element
  pub count : ℕ
  pub bytes : List ℕ
  pub relocations : List Relocation

-- A change that a pass made; its number is its position among all changes, from 1 on.
pub record Logged : Type 0 where
  pub pass : PassName
  pub kind : declared-kind.Kind
  pub place : ℕ
  pub variable : ℕ

-- A unit: a graph for each function, the number of main, what is in static storage, the bytes that initialise arrays,
-- the flow of the program from place to place with what the places assign, the changes that passes made, and the room.
pub record UnitForm : Type 0 where
  pub graphs : List Graph
  pub main : ℕ
  pub statics : List StaticObject
  pub array_bytes : List (List ℕ)
  pub steps : List FlowStep
  pub assignments : List Assignment
  pub log : List Logged
  pub room : Room

-- the operand that the code has
abbrev pub operand_view : declared-operand.Operand → Operand
operand_view (operand.Name n) = Name n.0
operand_view (operand.Constant word) = Constant word
operand_view (operand.StaticAddress object offset) = StaticAddress object offset

-- the recipe that the code has
abbrev pub recipe_view : declared-recipe.Recipe → Recipe
recipe_view (recipe.Operand o) = Of (operand_view o)
recipe_view (recipe.Truncated' t at r) = Truncated t (recipe_view r)
recipe_view (recipe.Operated' o at left by right) = Operated o (recipe_view left) (recipe_view right)

-- what a note of the code says
abbrev pub note_view : declared-note.NoteValue → NoteValue
note_view (note.Is r) = Is (recipe_view r)
note_view (note.Gone change) = Gone change

-- the location that the code has
abbrev pub location_view : declared-location.Location → Location
location_view (location.Automatic object offset) = Automatic object offset
location_view (location.Static object) = Static object
location_view (location.At o) = At (operand_view o)

-- the instruction that the code has
abbrev pub instruction_view : declared-instr.Instr → Instruction
instruction_view (instr.Marker p) = Marker p.0
instruction_view (instr.Note x v) = Note x.0 (note_view v)
instruction_view (instr.Move x a) = Move x.0 (operand_view a)
instruction_view (instr.Operate x o a b) = Operate x.0 o (operand_view a) (operand_view b)
instruction_view (instr.Truncate x t a) = Truncate x.0 t (operand_view a)
instruction_view (instr.Same x a b) = Same x.0 (operand_view a) (operand_view b)
instruction_view (instr.Address x object) = Address x.0 object
instruction_view (instr.Load x e l) = Load x.0 e (location_view l)
instruction_view (instr.Store e l a) = Store e (location_view l) (operand_view a)
instruction_view (instr.Zero object words) = Zero object words
instruction_view (instr.CopyWords object bytes words) = CopyWords object bytes words
instruction_view (instr.Call x f all) =
    Call (option_map (λ (n : declared-name.Name). n.0) x) f (map operand_view all.items)

-- the end of a block that the code has
abbrev pub end_view : declared-end.End → End
end_view (end.Jump l) = Jump l.0
end_view (end.Branch c a b l m) = Branch c (operand_view a) (operand_view b) l.0 m.0
end_view (end.Return a) = Return (option_map operand_view a)

-- the block that the code has
abbrev pub block_view : declared-block.Block → Block
block_view b =
    record {
      place = option_map (λ (p : declared-place.Place). p.0) b.place;
      instructions = map instruction_view b.instructions.items;
      end = end_view b.end;
    }

-- the binding that the code has
abbrev pub binding_view : declared-binding.Binding → Binding
binding_view (binding.Scalar n) = ToScalar n.0
binding_view (binding.Object object) = ToObject object

-- the scalar that the code has
abbrev pub scalar_view : declared-scalar.Scalar → Scalar
scalar_view s = record { variable = s.var.0; of = s.of; place = s.place.0 }

-- the graph that the code has
abbrev pub graph_view : declared-graph.Graph → Graph
graph_view g = record {
  entry = g.entry.0;
  parameters = map binding_view g.parameters.items;
  scalars = map scalar_view g.scalars.items;
  objects = g.objects.items;
  name_count = g.name_count;
  first_moved = g.first_moved;
  blocks = map block_view g.blocks.items;
}

-- the static object that the code has
abbrev pub static_view : declared-static.StaticObject → StaticObject
static_view o =
    record { element = o.element; count = o.count; bytes = o.bytes.items; relocations = o.relocations.items }

-- the bytes that the code has
abbrev pub bytes_view : declared-bytes.Bytes → List ℕ
bytes_view b = b.bytes.items

-- the change that the code has
abbrev pub logged : declared-change.Change → Logged
logged c = record { pass = c.pass; kind = c.kind; place = c.place.0; variable = c.var.0 }

-- The unit that the code has.
abbrev pub unit_view : declared-unit.Unit → UnitForm
unit_view u = record {
  graphs = map graph_view u.graphs.items;
  main = u.main;
  statics = map static_view u.statics.items;
  array_bytes = map bytes_view u.array_bytes.items;
  steps = u.flow.steps.items;
  assignments = u.flow.assignments.items;
  log = map logged (changes u.log);
  room = u.room;
}
