-- What the code of a function stands on, and the blocks of its places: each place has one that begins with its marker.
use Rattle.std.specs.Prelude.{ℕ, ◌-◌, Option, Some, None, List, ◌∷◌, map, reverse}
use Rattle.c_tree.specs.TypedExpressions.{RvalueTree}
use Rattle.c_tree.specs.Programs.{ProgramTree, program_view}
use Rattle.c_places.specs.Places.{Place, place_number_at, places_of_program}
use Rattle.graph_core.specs.Graphs as unit
use Rattle.graph_core.specs.Graphs.{Marker, Jump, block_view}
use Rattle.graph_build_names.specs.Names.{Names, pick, names_view}
use Rattle.graph_build_steps.specs.Drafts.{Made, Goal, Either, ending, with_inner_block, next_label}
use Rattle.graph_build_code.specs.Code.{code}
use Rattle.graph_build_statements.specs.declared.form.Form as declared-form
use Rattle.graph_build_statements.specs.declared.form.Part as declared-part

-- What the code of a function stands on: its names, the program with its places, the place of its entry, how many
-- scalars it has, and how many blocks its graph has.
pub record Coding : Type 0 where
  pub names : Names
  pub program : ProgramTree
  pub places : List Place
  pub entry : ℕ
  pub scalars : ℕ
  pub top : ℕ

-- The blocks that stand: those of places in the order of the text, and the others, the last one in order of evaluation
-- first.
pub record Part : Type 0 where
  pub placed : List unit.Block
  pub inner : List unit.Block

-- the coding that the code has: its places are the program's
abbrev pub coding_view : declared-form.Form → Coding
coding_view f = record {
  names = names_view f.names.now;
  program = program_view f.source.program.now;
  places = places_of_program (program_view f.source.program.now);
  entry = f.entry;
  scalars = f.scalars;
  top = f.top;
}

-- the blocks that the code has: that of the last place stands first
abbrev pub part_view : declared-part.Part → Part
part_view p = record { placed = map block_view (reverse p.placed.items); inner = map block_view p.inner.items }

module _ (c : Coding) where
  -- the place at a position
  abbrev pub place_of : (at : ℕ) → ℕ
  place_of at = place_number_at c.places at

  -- its block: places of one function follow one another
  abbrev pub block_of : (at : ℕ) → ℕ
  block_of at = place_of at - c.entry

  -- the name from which on a place's temporaries are numbered, where names up to this one are used before it
  abbrev pub begun : (free : ℕ) → ℕ
  begun t = pick c.names c.scalars t

  -- a jump to a place, or where flow reaches no closing brace an end that nothing reaches
  abbrev pub going : (next : Option ℕ) → List unit.Block → Made
  going (Some at) inner = ending (Jump (block_of at)) inner
  going None inner = ending (unit.Return None) inner

  -- the label of a place to branch to, or that of the end that stands for none and is closed next
  abbrev pub label_for : (next : Option ℕ) → List unit.Block → ℕ
  label_for (Some at) inner = block_of at
  label_for None inner = next_label c.top inner

  -- the inner blocks, with the end that stands for no place to go to
  abbrev pub with_end : (at : ℕ) → (next : Option ℕ) → List unit.Block → List unit.Block
  with_end at (Some to) inner = inner
  with_end at None inner = with_inner_block (place_of at) (ending (unit.Return None) inner)

  -- the block of the place at a position, before those that stand
  abbrev pub placed_at : (at : ℕ) → Made → (later : List unit.Block) → Part
  placed_at at m later =
      record {
        placed = record { place = None; instructions = Marker (place_of at) ∷ m.ops; end = m.end } ∷ later;
        inner = m.inner;
      }

  -- the code of an expression in the place at a position
  abbrev pub coded : (at : ℕ) → RvalueTree → (free : ℕ) → Goal → Made
  coded at e t g = code c.names (place_of at) c.top e (begun t) g

  -- a condition, which leads two ways
  abbrev pub branching : (at : ℕ) → RvalueTree → (free : ℕ) → (one other : Option ℕ) → List unit.Block → Made
  branching at e t one other inner =
      let ends = with_end at other inner in
      coded at e t (Either (label_for one ends) (label_for other inner) (with_end at one ends))
