-- How what can be seen of a program's run corresponds to what can be seen of its unit's.
use Rattle.std.specs.Prelude.{◌≡◌, ◌≢◌, ℕ, ◌+◌, ◌-◌, ◌<◌, ◌≤◌, true, ℤ, Some, List, [], ◌∷◌, length, slice_get}
use Rattle.word_base.specs.Owners as source-owner
use Rattle.c_tree.specs.Programs.{AutomaticTree, ProgramTree}
use Rattle.c_places.specs.Places.{Place, places_of_program, visible}
use Rattle.c_meaning_values.specs.declared.value.Value as source-value
use Rattle.c_meaning_values.specs.declared.value.Value.TheVariants as source
use Rattle.c_meaning_values.specs.declared.value.Phase.TheVariants.{Live, Ended}
use Rattle.c_meaning_steps.specs.declared.event.Frame as source-frame
use Rattle.c_meaning_values.specs.Memory as source-memory
use Rattle.c_meaning_steps.specs.States as source-event
use Rattle.c_meaning.specs.Runs.{source_run}
use Rattle.graph_core.specs.declared.value.Value as unit-value
use Rattle.graph_core.specs.declared.value.Value.TheVariants as unit
use Rattle.graph_core.specs.declared.value.Shadow.TheVariants.{Known}
use Rattle.graph_core.specs.declared.value.Owner as unit-owner
use Rattle.graph_core.specs.declared.value.Owner.TheVariants.{Static, Automatic}
use Rattle.graph_core.specs.Graphs.{Scalar, Graph, UnitForm}
use Rattle.graph_core.specs.Memory as unit-memory
use Rattle.graph_core.specs.Runs as unit-event
use Rattle.graph_core.specs.Runs.{unit_run}
use Rattle.graph_build_names.specs.Conversions.{unsigned_bits}
use Rattle.graph_build_steps.specs.Rules.{element_of}
use Rattle.event_runs.specs.Following.{Reached}
use Rattle.graph_build_runs.specs.Typed.{AreTyped, OwnersDiffer}
use Rattle.graph_build_runs.specs.Stops.{IsStopOf, IsStatus}

-- The number of an automatic variable among all variables of a program: static ones come first, then literals.
abbrev pub variable_of : ProgramTree → ℕ → ℕ
variable_of p x = length p.statics + length p.literals + x

-- The owner in a unit of what a source's owner owns: literals stand behind the static variables, and automatic
-- variables have their numbers among all.
abbrev pub owner_of : ProgramTree → source-owner.Owner → unit-owner.Owner
owner_of p (source-owner.Static n) = Static n
owner_of p (source-owner.Literal n) = Static (length p.statics + n)
owner_of p (source-owner.Variable x depth) = Automatic (variable_of p x) depth

-- One object of the source's run and one of the unit's: the same owner's, of elements of one kind and as many, and the
-- unit's lives.
pub record SameObject (p : ProgramTree) (o : source-memory.Object) (q : unit-memory.Object) : Type 0 where
  pub owner : q.owner ≡ owner_of p o.owner
  pub lives : q.live ≡ true
  pub element : q.element ≡ element_of o.element
  pub count : length q.values ≡ length o.values

-- whose contents stand in a unit's memory: objects of static storage, and automatic variables in memory
abbrev pub IsInMemory : ProgramTree → source-owner.Owner → Type 0
IsInMemory p (source-owner.Static n) = Unit {0}
IsInMemory p (source-owner.Literal n) = Unit {0}
IsInMemory p (source-owner.Variable x depth) =
    (a : AutomaticTree) × (slice_get p.automatics x ≡ Some a) × (a.in_memory ≡ true)

module _ (p : ProgramTree) (memory : source-memory.Memory) (others : unit-memory.Memory) where
  -- A pointer of the source and a value of the unit. A pointer to an object that has not ended leads to what stands in
  -- the unit's memory, and the unit's value is the pointer to its object of the same owner, at the same offset. Of a
  -- pointer to an object that has ended nothing is asked but that the unit's value is known.
  pub data SamePointer (n offset : ℕ) (w : unit-value.Value) : Type 0 where
    points : (o : source-memory.Object) → slice_get memory n ≡ Some o → o.phase ≢ Ended → IsInMemory p o.owner
        → (m : ℕ) (q : unit-memory.Object) → slice_get others m ≡ Some q → SameObject p o q
        → offset ≤ unit-memory.bytes_of q → w ≡ unit.Pointer m (unit-memory.bytes_of q) offset → SamePointer n offset w
    ended : (o : source-memory.Object) → slice_get memory n ≡ Some o → o.phase ≡ Ended → w ≢ unit.Odd
        → SamePointer n offset w

  -- A value of the source and one of the unit: a number and its word, null and the word 0, or pointers.
  abbrev pub SameValue : source-value.Value → unit-value.Value → Type 0
  SameValue (source.Number z) w = w ≡ unit.Number (unsigned_bits z)
  SameValue source.Null w = w ≡ unit.Number 0
  SameValue (source.Pointer n offset) w = SamePointer n offset w

  -- values one by one
  abbrev pub SameValues : List source-value.Value → List unit-value.Value → Type 0
  SameValues [] [] = Unit {0}
  SameValues [] (w ∷ ws) = ⊥
  SameValues (v ∷ vs) [] = ⊥
  SameValues (v ∷ vs) (w ∷ ws) = SameValue v w × SameValues vs ws

  -- an object of the unit that holds what an object of the source does
  pub record Held (o : source-memory.Object) : Type 0 where
    pub number : ℕ
    pub object : unit-memory.Object
    pub is : slice_get others number ≡ Some object
    pub same : SameObject p o object
    pub values : SameValues o.values object.values

  -- Each live object of the source's that is no scalar of a graph stands in the unit's memory with its values. Of one
  -- that is being initialised nothing is said.
  abbrev pub SameMemory : Type 0
  SameMemory =
      (n : ℕ) (o : source-memory.Object) → slice_get memory n ≡ Some o → o.phase ≡ Live → IsInMemory p o.owner → Held o

  -- what a shadow says is the one value of an object
  pub record ShadowIs (o : source-memory.Object) (k : ℕ) (frame : unit-event.Frame) : Type 0 where
    pub value : source-value.Value
    pub other : unit-value.Value
    pub holds : o.values ≡ value ∷ []
    pub known : slice_get frame.shadows k ≡ Some (Known other)
    pub same : SameValue value other

  -- A visible variable in an activation of a depth has a live object; where it is a scalar of the graph, its shadow is
  -- known and is the object's value.
  pub record Seen (g : Graph) (depth : ℕ) (frame : unit-event.Frame) (x : ℕ) : Type 0 where
    pub number : ℕ
    pub object : source-memory.Object
    pub is : slice_get memory number ≡ Some object
    pub owner : object.owner ≡ source-owner.Variable x depth
    pub lives : object.phase ≡ Live
    pub shadow : (k : ℕ) (s : Scalar) → slice_get g.scalars k ≡ Some s → s.variable ≡ variable_of p x
        → ShadowIs object k frame

  -- An activation of the source and one of the unit, at this depth: one function, one place, and each variable that is
  -- visible there is seen.
  pub record SameFrame (u : UnitForm) (depth : ℕ) (a : source-frame.Frame) (b : unit-event.Frame) : Type 0 where
    pub function : b.function ≡ a.function
    pub place : b.place ≡ a.place
    pub seen : (g : Graph) (q : Place) (x : ℕ) → slice_get u.graphs a.function ≡ Some g
        → slice_get (places_of_program p) (a.place - 1) ≡ Some q
        → (k : ℕ) → slice_get (visible p.automatics q.scope) k ≡ Some x → Seen g depth b x

  -- live activations, the innermost first: the last one is at depth 1
  abbrev pub SameFrames : UnitForm → List source-frame.Frame → List unit-event.Frame → Type 0
  SameFrames u [] [] = Unit {0}
  SameFrames u [] (b ∷ bs) = ⊥
  SameFrames u (a ∷ more) [] = ⊥
  SameFrames u (a ∷ more) (b ∷ bs) = SameFrame u (length more + 1) a b × SameFrames u more bs

-- the place of the innermost of live activations
abbrev pub StandsAt : ℕ → List source-frame.Frame → Type 0
StandsAt place [] = ⊥
StandsAt place (a ∷ more) = a.place ≡ place

-- An event of a program's run and one of its unit's: the same byte, the same status, which is an int, the same want of
-- depth, or stops with the same activations and the same memory, of which the program's is at a place of its own and
-- shows what is visible there.
pub data SameEvent (p : ProgramTree) (u : UnitForm) : source-event.Event → unit-event.Event → Type 0 where
  put : {byte : ℕ} → SameEvent p u (source-event.Put byte) (unit-event.Put byte)
  exited : {status : ℤ} → IsStatus status
      → SameEvent p u (source-event.Exited status) (unit-event.Exited (unsigned_bits status))
  deep : SameEvent p u source-event.TooDeep unit-event.TooDeep
  stop : {place depth : ℕ} {frames : List source-frame.Frame} {shown : List source-event.Shown}
      {memory : source-memory.Memory} {seen : List unit-event.Frame} {others : unit-memory.Memory}
      → IsStopOf p place depth shown memory → StandsAt place frames → depth ≡ length frames
      → SameFrames p memory others u frames seen → AreTyped memory → OwnersDiffer memory → SameMemory p memory others
      → SameEvent p u (source-event.Stop place depth frames shown memory) (unit-event.Stop seen others)

-- a byte of an input
abbrev pub AreBytes : List ℕ → Type 0
AreBytes [] = Unit {0}
AreBytes (b ∷ more) = (b < 256) × AreBytes more

-- The unit does what the program does, as far as C defines it: on each input, and for each number of turns, its run of
-- some number of steps shows the events of the source's run one by one, before any wild step.
abbrev pub DoesProgram : ProgramTree → UnitForm → Type 0
DoesProgram p u =
    (input : List ℕ) → AreBytes input → (turns : ℕ)
    → Reached (SameEvent p u) (source_run p input turns).events (unit_run u input)
