-- What declarators write, and their blocks.
use Rattle.std.specs.Prelude.{ℕ, ◌+◌, ◌*◌, ◌/◌, min, nat_le, Option, Some, None, List, [], ◌∷◌, length, slice_get, if◌then◌else◌}
use Rattle.std.specs.Option.{option_map_or}
use Rattle.c_tree.specs.declared.types.IntegerType.TheVariants.{Char}
use Rattle.c_tree.specs.declared.object_type.Scalar.{Scalar}
use Rattle.c_tree.specs.declared.object_type.ObjectType.{ObjectType}
use Rattle.c_tree.specs.declared.object_type.ObjectType.TheVariants as of-object
use Rattle.c_tree.specs.TypedExpressions.{RvalueTree}
use Rattle.c_tree.specs.TypedStatements.{InitialTree, Zero, Scalar as scalar-initial, Elements, Literal, DeclaredTree}
use Rattle.c_tree.specs.Programs.{AutomaticTree, LiteralTree, ProgramTree}
use Rattle.c_type_rules.specs.Integers.{scalar_size}
use Rattle.c_flow.specs.Flow.{start_of_declarators}
use Rattle.graph_core.specs.Graphs as unit
use Rattle.graph_core.specs.Graphs.{Automatic, Store, CopyWords}
use Rattle.graph_build_layout.specs.declared.laid.Use.TheVariants.{Anywhere}
use Rattle.graph_build_names.specs.Names.{scalar_of, object_of, pick}
use Rattle.graph_build_layout.specs.Layout.{laid}
use Rattle.graph_build_steps.specs.Rules.{element_of}
use Rattle.graph_build_steps.specs.Drafts.{Made, To, instruction_before, note}
use Rattle.graph_build_steps.specs.Steps.{or_zero}
use Rattle.graph_build_code.specs.Code.{code}
use Rattle.graph_build_statements.specs.Coding.{Coding, Part, place_of, begun, going, placed_at, coded}
use Rattle.graph_build_statements.specs.Reached.{bare, initial_reached}

-- the type of an automatic variable; an array of nothing where there is none of that number
abbrev pub object_type_of : ProgramTree → (variable : ℕ) → ObjectType
object_type_of p x =
    option_map_or (λ (a : AutomaticTree). a.of) (slice_get p.automatics x) (of-object.Array (record {
      base = Char;
      stars = 0;
    }) 0)

-- how many words so many bytes fill
abbrev pub words_of : ℕ → ℕ
words_of bytes = (bytes + 3) / 4

-- An array is set to zero first, unless so many words of it are covered by a literal and these are all.
abbrev pub cleared : (object bytes covered : ℕ) → Made → Made
cleared object bytes covered m =
    if nat_le (words_of bytes) covered then m else instruction_before (unit.Zero object (words_of bytes)) m

module _ (c : Coding) where
  -- An array's elements from an index on: each is stored where it stands.
  abbrev pub store_elements : (at : ℕ) → Scalar → (object index : ℕ) → List RvalueTree → (free : ℕ) → Made → Made
  store_elements at s object index [] t m = m
  store_elements at s object index (e ∷ more) t m =
      code c.names (place_of c at) c.top (bare e) t
      (To None
      (instruction_before
      (Store (element_of s) (Automatic object (index * scalar_size s))
      (laid c.names (bare e) Anywhere t).value)
      (store_elements at s object (index + 1) more (pick c.names t (laid c.names (bare e) Anywhere t).top) m)))

  -- how many words of a literal are copied into an object of so many bytes
  abbrev pub copied_words : (literal bytes : ℕ) → ℕ
  copied_words literal bytes =
      option_map_or (λ (l : LiteralTree). min (words_of bytes) (words_of (length l.bytes)))
      (slice_get c.program.array_literals literal) 0

  -- what a declarator writes into an object of a scalar type in memory
  abbrev pub declare_single : (at object : ℕ) → Scalar → InitialTree → (free : ℕ) → Made → Made
  declare_single at object s Zero t m =
      instruction_before (Store (element_of s) (Automatic object 0) (unit.Constant 0)) m
  declare_single at object s (scalar-initial e) t m =
      coded c at e t
      (To None
      (instruction_before
      (Store (element_of s) (Automatic object 0) (laid c.names e Anywhere (begun c t)).value) m))
  declare_single at object s _ t m = cleared object (scalar_size s) 0 m

  -- what a declarator writes into an array of so many bytes
  abbrev pub declare_array : (at object : ℕ) → Scalar → (bytes : ℕ) → InitialTree → (free : ℕ) → Made → Made
  declare_array at object s bytes (Elements all) t m =
      cleared object bytes 0 (store_elements at s object 0 all (begun c t) m)
  declare_array at object s bytes (Literal k) t m =
      cleared object bytes (copied_words k bytes) (instruction_before (CopyWords object k (copied_words k bytes)) m)
  declare_array at object s bytes _ t m = cleared object bytes 0 m

  -- what a declarator writes into an object in memory
  abbrev pub declare_kept : (at object : ℕ) → ObjectType → InitialTree → (free : ℕ) → Made → Made
  declare_kept at object (of-object.Scalar s) i t m = declare_single at object s i t m
  declare_kept at object (of-object.Array s count) i t m = declare_array at object s (scalar_size s * count) i t m

  -- what a declarator writes into a scalar, and the note
  abbrev pub declare_scalar : (at x : ℕ) → InitialTree → (free : ℕ) → Made → Made
  declare_scalar at x (scalar-initial e) t m = coded c at e t (To (Some x) (note x m))
  declare_scalar at x _ t m = instruction_before (unit.Move x (unit.Constant 0)) (note x m)

  -- what a declarator writes, where its variable is a scalar and where it is none
  abbrev pub declare_as : (scalar : Option ℕ) → DeclaredTree → (free : ℕ) → Made → Made
  declare_as (Some x) d t m = declare_scalar d.spot.at x d.initial t m
  declare_as None d t m =
      declare_kept d.spot.at (or_zero (object_of c.names d.variable)) (object_type_of c.program d.variable)
      d.initial t m

  -- a declaration with its initial value, as a scalar or as an object
  abbrev pub declare : DeclaredTree → (free : ℕ) → Made → Made
  declare d t m = declare_as (scalar_of c.names d.variable) d t m

  -- the blocks of declarators
  abbrev pub add_declared : List DeclaredTree → (free : ℕ) → (next : Option ℕ) → Part → Part
  add_declared [] t next part = part
  add_declared (d ∷ more) t next part =
      let later = add_declared more (initial_reached c (scalar_of c.names d.variable) d.initial t) next part in
      placed_at c d.spot.at (declare d t (going c (start_of_declarators more next) later.inner)) later.placed
