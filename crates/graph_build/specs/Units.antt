-- The unit of a program: a graph for each function, and what stands in static storage.
use Rattle.std.specs.Prelude.{◌≡◌, ℕ, ◌+◌, ◌==◌, nat_lt, Bool, false, Option, Some, None, List, [], ◌∷◌, ◌++◌, length, map, reverse, slice_get, if◌then◌else◌}
use Rattle.std.specs.Option.{option_map_or}
use Rattle.c_tree.specs.declared.object_type.ObjectType.{ObjectType}
use Rattle.c_tree.specs.declared.object_type.ObjectType.TheVariants as of-object
use Rattle.c_tree.specs.declared.object_type.Object as designator
use Rattle.c_tree.specs.declared.object_type.Object.TheVariants as object
use Rattle.c_tree.specs.declared.program.Relocation as source-relocation
use Rattle.c_tree.specs.Programs.{AutomaticTree, LiteralTree, StaticTree, TypedFunctionTree, ProgramTree}
use Rattle.c_type_rules.specs.Types.{same_object}
use Rattle.c_places.specs.Places.{numbers_from, parameters_of, places_of_program, place_number_at}
use Rattle.c_flow.specs.Flow.{start_of_all, ways_of_body}
use Rattle.memory_map.specs.declared.map.Room.{Room}
use Rattle.memory_map.specs.declared.map.Room.TheVariants.{Small, Large}
use Rattle.graph_core.specs.declared.instruction.Element as declared-element
use Rattle.graph_core.specs.declared.instruction.Element.TheVariants.{Unsigned8}
use Rattle.graph_core.specs.declared.graph.MemoryObject.{MemoryObject}
use Rattle.graph_core.specs.declared.unit.Relocation.{Relocation}
use Rattle.graph_core.specs.Graphs as unit
use Rattle.graph_core.specs.Graphs.{Binding, ToScalar, ToObject, Scalar, Graph, StaticObject, UnitForm}
use Rattle.graph_build_names.specs.Names.{Names, names_of, scalar_of, object_of}
use Rattle.graph_build_steps.specs.Rules.{element_of}
use Rattle.graph_build_steps.specs.Drafts.{Made, ending, note}
use Rattle.graph_build_steps.specs.Steps.{or_zero}
use Rattle.graph_build_statements.specs.Coding.{Coding, Part, going, placed_at}
use Rattle.graph_build_statements.specs.Reached.{statements_reached}
use Rattle.graph_build_statements.specs.Declaring.{object_type_of}
use Rattle.graph_build_statements.specs.Forms.{add_all}

-- the number of an automatic variable among all variables
abbrev pub variable_of : ProgramTree → (variable : ℕ) → ℕ
variable_of p x = length p.statics + length p.literals + x

-- what the elements of an object are, and how many it has
abbrev pub object_element : ObjectType → declared-element.Element
object_element (of-object.Scalar s) = element_of s
object_element (of-object.Array s count) = element_of s

-- how many elements an object has
abbrev pub object_count : ObjectType → ℕ
object_count (of-object.Scalar s) = 1
object_count (of-object.Array s count) = count

-- the variables that are scalars, and those in memory, in order
abbrev pub add_if_some : Option ℕ → (variable : ℕ) → List ℕ → List ℕ
add_if_some None x more = more
add_if_some (Some k) x more = x ∷ more

module _ (n : Names) where
  -- those of these variables that are scalars
  abbrev pub scalars_among : List ℕ → List ℕ
  scalars_among [] = []
  scalars_among (x ∷ more) = add_if_some (scalar_of n x) x (scalars_among more)

  -- those of these variables that lie in memory
  abbrev pub kept_among : List ℕ → List ℕ
  kept_among [] = []
  kept_among (x ∷ more) = add_if_some (object_of n x) x (kept_among more)

  -- the notes of the scalars that are parameters
  abbrev pub note_if : Option ℕ → Made → Made
  note_if None m = m
  note_if (Some k) m = note k m

  -- each parameter that is a scalar is noted
  abbrev pub note_parameters : List ℕ → Made → Made
  note_parameters [] m = m
  note_parameters (x ∷ more) m = note_if (scalar_of n x) (note_parameters more m)

  -- what an argument is bound to
  abbrev pub bound_to : Option ℕ → (variable : ℕ) → Binding
  bound_to (Some k) x = ToScalar k
  bound_to None x = ToObject (or_zero (object_of n x))

  -- what a call binds a parameter to
  abbrev pub binding_of : (variable : ℕ) → Binding
  binding_of x = bound_to (scalar_of n x) x

-- the variables of a function
abbrev pub variables_in : TypedFunctionTree → List ℕ
variables_in f = numbers_from f.first_variable f.variables

module _ (p : ProgramTree) where
  -- two variables are of one type
  abbrev pub both_are : Option AutomaticTree → Option AutomaticTree → Bool
  both_are (Some a) (Some b) = same_object a.of b.of
  both_are _ _ = false

  -- two automatic variables have one type
  abbrev pub are_of_one_type : (one other : ℕ) → Bool
  are_of_one_type x y = both_are (slice_get p.automatics x) (slice_get p.automatics y)

  -- the number of a variable's type: at which index the first scalar of that type stands
  abbrev pub type_index : (scalars : List ℕ) → (variable : ℕ) → ℕ
  type_index [] x = 0
  type_index (y ∷ more) x = if are_of_one_type y x then 0 else type_index more x + 1

  -- the place where a variable is declared: that of its declarator, or the function's entry where it is a parameter
  abbrev pub declared_at : TypedFunctionTree → (entry variable : ℕ) → ℕ
  declared_at f entry x =
      if nat_lt x (f.first_variable + f.parameters) then entry
      else option_map_or (λ (a : AutomaticTree). place_number_at (places_of_program p) a.spot.at)
      (slice_get p.automatics x) entry

  -- a scalar as the graph lists it: its variable, its type, and the place that declares it
  abbrev pub scalar_record : TypedFunctionTree → (entry : ℕ) → (scalars : List ℕ) → (variable : ℕ) → Scalar
  scalar_record f entry scalars x =
      record { variable = variable_of p x; of = type_index scalars x; place = declared_at f entry x }

  -- an automatic object as the graph lists it: its variable, its element and its count
  abbrev pub memory_object : (variable : ℕ) → MemoryObject
  memory_object x =
      record {
        var = record { 0 = variable_of p x };
        element = object_element (object_type_of p x);
        count = object_count (object_type_of p x);
      }

  -- what the code of a function with these names stands on, in a graph of so many blocks
  abbrev pub coding_with : TypedFunctionTree → Names → (top : ℕ) → Coding
  coding_with f n top = record {
    names = n;
    program = p;
    places = places_of_program p;
    entry = place_number_at (places_of_program p) f.spot.at;
    scalars = length (scalars_among n (variables_in f));
    top = top;
  }

  -- the same, where names are used again or not
  abbrev pub coding_of : TypedFunctionTree → (again : Bool) → (top : ℕ) → Coding
  coding_of f again top = coding_with f (names_of p f again) top

-- the closing brace, where flow reaches it: `main` returns 0
module _ (c : Coding) where
  -- the place at the closing brace of a function, if it has one: there it returns, with 0 in main
  abbrev pub add_close : (is_main : Bool) → (closing : Option ℕ) → Part → Part
  add_close is_main None part = part
  add_close is_main (Some at) part =
      placed_at c at (ending (unit.Return (if is_main then Some (unit.Constant 0) else None)) part.inner) part.placed

  -- The blocks of a function: its entry, its statements, and its closing brace.
  abbrev pub body_part : TypedFunctionTree → (is_main : Bool) → Part
  body_part f is_main =
      add_all c f.body c.scalars (ways_of_body f) (add_close is_main (ways_of_body f).next (record {
        placed = [];
        inner = [];
      }))

  -- the code of a function, from its entry to its closing brace
  abbrev pub function_part : TypedFunctionTree → (is_main : Bool) → Part
  function_part f is_main =
      let body = body_part f is_main in
      placed_at c f.spot.at
      (note_parameters c.names (parameters_of f) (going c (start_of_all f.body (ways_of_body f).next) body.inner))
      body.placed

  -- the places' blocks in the order of the text, and behind them the inner ones in order of evaluation
  abbrev pub blocks_in : Part → List unit.Block
  blocks_in part = part.placed ++ reverse part.inner

  -- how many names a function's code uses
  abbrev pub names_used : TypedFunctionTree → ℕ
  names_used f = statements_reached c f.body c.scalars

module _ (p : ProgramTree) where
  -- Names are used again where a fresh one for each result is more than the function weighs.
  abbrev pub is_again : TypedFunctionTree → Bool
  is_again f = nat_lt f.weight (names_used (coding_of p f false 0) f)

  -- how many blocks a function has, which hangs on no label
  abbrev pub block_count : TypedFunctionTree → (is_main : Bool) → ℕ
  block_count f is_main = let c = coding_of p f (is_again f) 0 in length (blocks_in c (function_part c f is_main))

  -- how the names and blocks of a function are numbered
  abbrev pub function_coding : TypedFunctionTree → (is_main : Bool) → Coding
  function_coding f is_main = coding_of p f (is_again f) (block_count f is_main)

  -- the graph of a function whose code stands on this
  abbrev pub graph_in : Coding → TypedFunctionTree → (is_main : Bool) → Graph
  graph_in c f is_main =
      let scalars = scalars_among c.names (variables_in f) in record {
        entry = c.entry;
        parameters = map (binding_of c.names) (parameters_of f);
        scalars = map (scalar_record p f c.entry scalars) scalars;
        objects = map (memory_object p) (kept_among c.names (variables_in f));
        name_count = names_used c f;
        first_moved = names_used c f;
        blocks = blocks_in c (function_part c f is_main);
      }

  -- the graph of a function
  abbrev pub graph_of : TypedFunctionTree → (is_main : Bool) → Graph
  graph_of f is_main = graph_in (function_coding f is_main) f is_main

  -- the graphs of functions, the first of which has this number
  abbrev pub graphs_from : (number : ℕ) → List TypedFunctionTree → List Graph
  graphs_from number [] = []
  graphs_from number (f ∷ more) = graph_of f (number == p.main) ∷ graphs_from (number + 1) more

  -- the number of an object of static storage: the static variables come first, and then the literals; an automatic
  -- object is none, and 0 stands for it
  abbrev pub static_number : designator.Object → ℕ
  static_number (object.Static n) = n
  static_number (object.Literal n) = length p.statics + n
  static_number (object.Automatic x) = 0

  -- an address among the first bytes of an object, as the unit lists it
  abbrev pub relocation_of : source-relocation.Relocation → Relocation
  relocation_of r = record { at = r.at; object = static_number r.object; offset = r.offset }

  -- a static variable as the unit lists it
  abbrev pub static_of : StaticTree → StaticObject
  static_of v =
      record {
        element = object_element v.of;
        count = object_count v.of;
        bytes = v.bytes;
        relocations = map relocation_of v.relocations;
      }

-- a string literal as the unit lists it: an object of bytes
abbrev pub literal_of : LiteralTree → StaticObject
literal_of l = record { element = Unsigned8; count = length l.bytes; bytes = l.bytes; relocations = [] }

-- The room of a program's unit: the larger one where it weighs more than 4,000.
abbrev pub room_of : ProgramTree → Room
room_of p = if nat_lt 4000 p.weight then Large else Small

-- The unit of a program by its forms; flow and assignments are told apart from these. The log is empty, and what the
-- program weighs decides the room.
pub record IsUnitOf (p : ProgramTree) (u : UnitForm) : Type 0 where
  pub graphs : u.graphs ≡ graphs_from p 0 p.functions
  pub main : u.main ≡ p.main
  pub statics : u.statics ≡ map (static_of p) p.statics ++ map literal_of p.literals
  pub array_bytes : u.array_bytes ≡ map (λ (l : LiteralTree). l.bytes) p.array_literals
  pub log : u.log ≡ []
  pub room : u.room ≡ room_of p
