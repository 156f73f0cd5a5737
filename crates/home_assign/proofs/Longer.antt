-- A unit stays valid where its log grows.
use Rattle.std.proofs.Common.{◌≡◌, ℕ, ◌≤◌, List, [], ◌∷◌, length, arith}
use Rattle.std.specs.List.{AllByRecursion}
use Rattle.graph_core.specs.Graphs.{Address, Block, Call, CopyWords, Gone, Graph, Instruction, Is, Load, Logged, Marker, Move, Note, NoteValue, Operate, Same, Store, Truncate, UnitForm, Zero}
use Rattle.graph_core.specs.Validity.{IsBlock, IsGraph, IsInstruction, IsNoteValue, IsValid}

-- the unit with another log
abbrev logging : UnitForm → List Logged → UnitForm
logging u log = record u { log = log }

value_stays : (u : UnitForm) (log : List Logged) (g : Graph) (v : NoteValue) → length u.log ≤ length log → IsNoteValue u g v → IsNoteValue (logging u log) g v
value_stays u log g (Is r) more is = is
value_stays u log g (Gone change) more is = (is.0, (let within = is.1 in omega (arith, within, more)))

instruction_stays : (u : UnitForm) (log : List Logged) (g : Graph) (i : Instruction) → length u.log ≤ length log → IsInstruction u g i → IsInstruction (logging u log) g i
instruction_stays u log g (Marker p) more is = is
instruction_stays u log g (Note x v) more is = (is.0, value_stays u log g v more is.1)
instruction_stays u log g (Move x a) more is = is
instruction_stays u log g (Operate x o a b) more is = is
instruction_stays u log g (Truncate x t a) more is = is
instruction_stays u log g (Same x a b) more is = is
instruction_stays u log g (Address x object) more is = is
instruction_stays u log g (Load x e l) more is = is
instruction_stays u log g (Store e l a) more is = is
instruction_stays u log g (Zero object words) more is = is
instruction_stays u log g (CopyWords object bytes words) more is = is
instruction_stays u log g (Call x f all) more is = is

instructions_stay : (u : UnitForm) (log : List Logged) (g : Graph) (all : List Instruction) → length u.log ≤ length log → AllByRecursion (IsInstruction u g) all → AllByRecursion (IsInstruction (logging u log) g) all
instructions_stay u log g [] more are = tt
instructions_stay u log g (i ∷ rest) more are = (instruction_stays u log g i more are.0, instructions_stay u log g rest more are.1)

block_stays : (u : UnitForm) (log : List Logged) (g : Graph) (b : Block) → length u.log ≤ length log → IsBlock u g b → IsBlock (logging u log) g b
block_stays u log g b more is = record {
  place = is.place;
  own = is.own;
  instructions = instructions_stay u log g b.instructions more is.instructions;
  operands = is.operands;
  edges = is.edges;
}

blocks_stay : (u : UnitForm) (log : List Logged) (g : Graph) (all : List Block) → length u.log ≤ length log → AllByRecursion (IsBlock u g) all → AllByRecursion (IsBlock (logging u log) g) all
blocks_stay u log g [] more are = tt
blocks_stay u log g (b ∷ rest) more are = (block_stays u log g b more are.0, blocks_stay u log g rest more are.1)

graph_stays : (u : UnitForm) (log : List Logged) (g : Graph) → length u.log ≤ length log → IsGraph u g → IsGraph (logging u log) g
graph_stays u log g more is = record {
  instructions = is.instructions;
  names = is.names;
  scalars = is.scalars;
  temporaries = is.temporaries;
  parameters = is.parameters;
  bindings = is.bindings;
  objects = is.objects;
  begins = is.begins;
  blocks = blocks_stay u log g g.blocks more is.blocks;
}

graphs_stay : (u : UnitForm) (log : List Logged) (all : List Graph) → length u.log ≤ length log → AllByRecursion (IsGraph u) all → AllByRecursion (IsGraph (logging u log)) all
graphs_stay u log [] more are = tt
graphs_stay u log (g ∷ rest) more are = (graph_stays u log g more are.0, graphs_stay u log rest more are.1)

-- a valid unit with a log that is no shorter is valid
pub longer_valid : (u : UnitForm) (log : List Logged) → length u.log ≤ length log → IsValid u → IsValid (record u { log = log })
longer_valid u log more is = record {
  functions = is.functions;
  main = is.main;
  instructions = is.instructions;
  blocks = is.blocks;
  markers = is.markers;
  arguments = is.arguments;
  statics = is.statics;
  relocations = is.relocations;
  once = is.once;
  graphs = graphs_stay u log u.graphs more is.graphs;
}
