-- The texts of a program's values, as a session shows them.
use Rattle.std.specs.Prelude.{◌≡◌, ℕ, ◌+◌, nat_lt, false, Some, List, [], ◌∷◌, length, take, slice_get}
use Rattle.std.specs.Option.{option_map_or}
use Rattle.line_form.specs.Decimal.{signed_decimal}
use Rattle.line_form.specs.Values.{array_text, null_text, static_pointer, literal_pointer, frame_pointer}
use Rattle.word_base.specs.Owners.{Owner, Static, Literal, Variable}
use Rattle.c_tree.specs.declared.object_type.ObjectType.{ObjectType}
use Rattle.c_tree.specs.declared.object_type.ObjectType.TheVariants as type
use Rattle.c_tree.specs.Programs.{StaticTree, AutomaticTree, ProgramTree}
use Rattle.c_meaning_values.specs.declared.value.Value.{Value}
use Rattle.c_meaning_values.specs.declared.value.Value.TheVariants.{Number, Null, Pointer}
use Rattle.c_meaning_values.specs.Memory.{Memory, Object, is_over}
use Rattle.event_runs.specs.Agreement.{Pairs}
pub use Rattle.stop_engine_view.specs.Values.{most_elements}

-- the name of a static object, and of an automatic one
abbrev pub static_name : ProgramTree → ℕ → List ℕ
static_name p n = option_map_or (λ (v : StaticTree). v.name) (slice_get p.statics n) []

-- the name of an automatic variable of the program
abbrev pub automatic_name : ProgramTree → ℕ → List ℕ
automatic_name p x = option_map_or (λ (v : AutomaticTree). v.name) (slice_get p.automatics x) []

-- the text of a pointer into an object of this owner, so many bytes on; literals are counted from 1
abbrev pub owner_text : ProgramTree → Owner → (offset : ℕ) → List ℕ
owner_text p (Static n) offset = static_pointer (static_name p n) offset
owner_text p (Literal n) offset = literal_pointer (n + 1) offset
owner_text p (Variable x depth) offset = frame_pointer (automatic_name p x) depth offset

-- This is the text of a value. Of a pointer to an object that has ended nothing is said.
abbrev pub IsText : ProgramTree → Memory → Value → (text : List ℕ) → Type 0
IsText p memory (Number z) text = text ≡ signed_decimal z
IsText p memory Null text = text ≡ null_text
IsText p memory (Pointer n offset) text =
    (o : Object) → slice_get memory n ≡ Some o → is_over o.phase ≡ false → text ≡ owner_text p o.owner offset

-- this is the text of an array: of its elements one by one
pub record IsArrayText (p : ProgramTree) (memory : Memory) (values : List Value) (text : List ℕ) : Type 0 where
  pub texts : List (List ℕ)
  pub each : Pairs (IsText p memory) (take most_elements values) texts
  pub is : text ≡ array_text texts (nat_lt most_elements (length values))

-- this is the text of the one value of a scalar
abbrev pub IsScalarText : ProgramTree → Memory → List Value → List ℕ → Type 0
IsScalarText p memory [] text = ⊥
IsScalarText p memory (v ∷ []) text = IsText p memory v text
IsScalarText p memory (v ∷ w ∷ more) text = ⊥

-- this is the text of what an object of a type holds
abbrev pub IsObjectText : ProgramTree → Memory → ObjectType → List Value → List ℕ → Type 0
IsObjectText p memory (type.Scalar s) values text = IsScalarText p memory values text
IsObjectText p memory (type.Array element count) values text = IsArrayText p memory values text
