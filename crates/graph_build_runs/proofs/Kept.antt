-- What a unit's run keeps of the state of a program's run.
use Rattle.std.proofs.Common.{◌≡◌, ◌≢◌, ℕ, ◌+◌, ◌<◌, ◌≤◌, List, [], ◌∷◌, ◌++◌, length, Option, Some, None, Bool, true, false, slice_get, refl, sym, ap, ◌∙◌, subst, arith}
use Rattle.std.specs.Prelude.{◌==◌, if◌then◌else◌}
use Rattle.word_base.specs.Owners.{Variable}
use Rattle.c_tree.specs.Programs.{AutomaticTree, TypedFunctionTree, ProgramTree}
use Rattle.c_meaning_values.specs.declared.value.Value as source-value
use Rattle.c_meaning_values.specs.declared.value.Phase.TheVariants.{Initialising, Live, Ended}
use Rattle.c_meaning_values.specs.Types.{element_scalar, value_count}
use Rattle.c_meaning_values.specs.Memory.{Object as SourceObject, Memory as SourceMemory}
use Rattle.c_meaning_steps.specs.States.{State}
use Rattle.graph_core.specs.declared.value.Value.{Value}
use Rattle.graph_core.specs.declared.value.Shadow.{Shadow}
use Rattle.graph_core.specs.declared.value.Shadow.TheVariants.{Known}
use Rattle.graph_core.specs.declared.value.Owner.TheVariants.{Static as UnitStatic, Automatic}
use Rattle.graph_core.specs.Graphs.{StaticObject, UnitForm}
use Rattle.graph_core.specs.Memory.{Object, Memory}
use Rattle.graph_core.specs.Runs.{Activation, with_value_at}
use Rattle.graph_build_names.specs.Names.{Names, names_of, scalar_of, object_of}
use Rattle.graph_build_steps.specs.Rules as rule
use Rattle.event_runs.specs.Agreement.{Pairs}
use Rattle.graph_build_runs.specs.Typed.{AreTyped, OwnersDiffer}
use Rattle.graph_build_runs.specs.Stops.{AreDeclared}
use Rattle.graph_build_runs.specs.Correspondence.{variable_of, SameObject, SameValue, SameValues, IsInMemory, SameEvent, AreBytes}
use Rattle.graph_build_runs.proofs.Leads.{Setting, names_in, size_in, depth_in, Local, World, set_name, put_elsewhere, less_other, in_block}
use Rattle.graph_build_runs.proofs.Later.{Later, StillThere, OthersLater, OtherThere, value_later, values_later, object_later}

-- A memory that went on from another, in which whatever began since then has ended.
pub record Since (began memory : SourceMemory) : Type 0 where
  pub later : Later began memory
  pub ends : (n : ℕ) (o : SourceObject) → slice_get memory n ≡ Some o → o.phase ≢ Ended → n < length began

-- an object that is being initialised is a scalar: it has one value
abbrev pub AreSingle : SourceMemory → Type 0
AreSingle memory = (n : ℕ) (o : SourceObject) → slice_get memory n ≡ Some o → o.phase ≡ Initialising → length o.values ≡ 1

-- What a program's run keeps: values are of their types, owners differ, objects are of the types of their variables, what is being initialised is a scalar, the input is bytes, and what began since
-- there was a memory has ended.
pub record Sound (p : ProgramTree) (began : SourceMemory) (s : State) : Type 0 where
  pub typed : AreTyped s.memory
  pub differ : OwnersDiffer s.memory
  pub declared : AreDeclared p s.memory
  pub single : AreSingle s.memory
  pub bytes : AreBytes s.input
  pub since : Since began s.memory

-- a name is one that was just written and is not noted yet
abbrev pub is_want : Option ℕ → ℕ → Bool
is_want None k = false
is_want (Some x) k = k == x

-- A scalar of an activation: its name holds the value of its object, but where it was just written, and its shadow does.
pub record ScalarIs (p : ProgramTree) (memory : SourceMemory) (others : Memory) (want : Option ℕ) (o : SourceObject) (k : ℕ) (names : ℕ → Value) (shadows : ℕ → Shadow) : Type 0 where
  pub value : source-value.Value
  pub holds : o.values ≡ value ∷ []
  pub named : is_want want k ≡ false → SameValue p memory others value (names k)
  pub word : Value
  pub known : shadows k ≡ Known word
  pub same : SameValue p memory others value word

-- the object of a variable in memory, of an activation at a depth
pub record ObjectIs (p : ProgramTree) (others : Memory) (v depth n : ℕ) (a : AutomaticTree) : Type 0 where
  pub object : Object
  pub is : slice_get others n ≡ Some object
  pub owner : object.owner ≡ Automatic (variable_of p v) depth
  pub lives : object.live ≡ true
  pub element : object.element ≡ rule.element_of (element_scalar a.of)
  pub count : length object.values ≡ value_count a.of

-- An activation at a depth: its scalars are kept in names and shadows, and its objects stand in memory.
pub record Own (p : ProgramTree) (n : Names) (want : Option ℕ) (memory : SourceMemory) (others : Memory) (depth first : ℕ) (names : ℕ → Value) (shadows : ℕ → Shadow) : Type 0 where
  pub scalars : (v k m : ℕ) (o : SourceObject) → scalar_of n v ≡ Some k → slice_get memory m ≡ Some o → o.owner ≡ Variable v depth → o.phase ≡ Live → ScalarIs p memory others want o k names shadows
  pub objects : (v k : ℕ) (a : AutomaticTree) → object_of n v ≡ Some k → slice_get p.automatics v ≡ Some a → ObjectIs p others v depth (first + k) a

-- an activation that waits
pub record Waits (p : ProgramTree) (memory : SourceMemory) (others : Memory) (depth : ℕ) (a : Activation) : Type 0 where
  pub tree : TypedFunctionTree
  pub is : slice_get p.functions a.function ≡ Some tree
  pub own : Own p (names_of p tree false) None memory others depth a.first_object a.names a.shadows

abbrev pub Outer : ProgramTree → SourceMemory → Memory → List Activation → Type 0
Outer p memory others [] = Unit {0}
Outer p memory others (a ∷ more) = Waits p memory others (length more + 1) a × Outer p memory others more

-- The unit's object of an object in memory that has not ended, with its values where it is begun.
pub record Placed (p : ProgramTree) (memory : SourceMemory) (others : Memory) (o : SourceObject) : Type 0 where
  pub number : ℕ
  pub object : Object
  pub is : slice_get others number ≡ Some object
  pub same : SameObject p o object
  pub values : o.phase ≡ Live → SameValues p memory others o.values object.values

abbrev pub ArePlaced : ProgramTree → SourceMemory → Memory → Type 0
ArePlaced p memory others = (n : ℕ) (o : SourceObject) → slice_get memory n ≡ Some o → o.phase ≢ Ended → IsInMemory p o.owner → Placed p memory others o

-- no two live objects of a unit are one owner's
abbrev pub LiveDiffer : Memory → Type 0
LiveDiffer others = (m n : ℕ) (q r : Object) → slice_get others m ≡ Some q → slice_get others n ≡ Some r → q.live ≡ true → r.live ≡ true → q.owner ≡ r.owner → m ≡ n

-- a static object stands in memory
pub record StaticIs (others : Memory) (n : ℕ) (s : StaticObject) : Type 0 where
  pub object : Object
  pub is : slice_get others n ≡ Some object
  pub owner : object.owner ≡ UnitStatic n
  pub lives : object.live ≡ true
  pub element : object.element ≡ s.element
  pub count : length object.values ≡ s.count

abbrev pub StaticsStand : UnitForm → Memory → Type 0
StaticsStand u others = (n : ℕ) (s : StaticObject) → slice_get u.statics n ≡ Some s → StaticIs others n s

-- no live object of a unit is deeper than a depth
abbrev pub NoneDeeper : Memory → (depth : ℕ) → Type 0
NoneDeeper others depth = (m : ℕ) (q : Object) (v d : ℕ) → slice_get others m ≡ Some q → q.live ≡ true → q.owner ≡ Automatic v d → d ≤ depth

-- What a unit's run keeps of the state of a program's run, in an activation and those that wait, but perhaps for a name that was just written.
pub record Fits (x : Setting) (want : Option ℕ) (s : State) (l : Local) (w : World) : Type 0 where
  pub own : Own x.program (names_in x) want s.memory w.memory (depth_in x) x.first l.names l.shadows
  pub outer : Outer x.program s.memory w.memory x.waiting
  pub placed : ArePlaced x.program s.memory w.memory
  pub differ : LiveDiffer w.memory
  pub above : NoneDeeper w.memory (depth_in x)
  pub later : OthersLater x.objects w.memory
  pub statics : StaticsStand x.unit w.memory
  pub input : w.input ≡ s.input
  pub events : Pairs (SameEvent x.program x.unit) s.events w.seen

-- what does not concern the activation's names and shadows stays
pub fits_local : (x : Setting) (want other : Option ℕ) (s : State) (l m : Local) (w : World) → Fits x want s l w → Own x.program (names_in x) other s.memory w.memory (depth_in x) x.first m.names m.shadows → Fits x other s m w
fits_local x want other s l m w f own =
    record { own = own; outer = f.outer; placed = f.placed; differ = f.differ; above = f.above; later = f.later; statics = f.statics; input = f.input; events = f.events }

-- what is kept hangs on no block
pub fits_in_block : (x : Setting) (want : Option ℕ) (s : State) (l : Local) (w : World) (number : ℕ) → Fits x want s l w → Fits x want s (in_block number l) w
fits_in_block x want s l w number f = fits_local x want want s l (in_block number l) w f f.own

-- a name is written that is no scalar's, or the one that is excepted
pub own_set : (p : ProgramTree) (n : Names) (want : Option ℕ) (memory : SourceMemory) (others : Memory) (depth first : ℕ) (names : ℕ → Value) (shadows : ℕ → Shadow) (j : ℕ) (w : Value) →
    Own p n None memory others depth first names shadows → ((v k : ℕ) → scalar_of n v ≡ Some k → is_want want k ≡ false → k == j ≡ false) → Own p n want memory others depth first (with_value_at names j w) shadows
own_set p n want memory others depth first names shadows j w own apart = record {
  scalars = λ v k m o is at owner live. (let c = own.scalars v k m o is at owner live in
      record {
        value = c.value;
        holds = c.holds;
        named = λ h. subst (SameValue p memory others c.value) (sym (put_elsewhere names j k w (apart v k is h))) (c.named refl);
        word = c.word;
        known = c.known;
        same = c.same;
      });
  objects = own.objects;
}

-- scalars are the first names of a function
abbrev pub ScalarsFirst : Setting → Type 0
ScalarsFirst x = (v k : ℕ) → scalar_of (names_in x) v ≡ Some k → k < size_in x

-- a temporary is written
pub fits_temporary : (x : Setting) (s : State) (l : Local) (w : World) (j : ℕ) (v : Value) → ScalarsFirst x → Fits x None s l w → size_in x ≤ j → Fits x None s (set_name l j v) w
fits_temporary x s l w j v low f le =
    fits_local x None None s l (set_name l j v) w f
    (own_set x.program (names_in x) None s.memory w.memory (depth_in x) x.first l.names l.shadows j v f.own (λ y k is h. less_other k j (omega (arith, low y k is, le))))

-- a name is written that is wanted
pub fits_wanted : (x : Setting) (s : State) (l : Local) (w : World) (j : ℕ) (v : Value) → Fits x None s l w → Fits x (Some j) s (set_name l j v) w
fits_wanted x s l w j v f =
    fits_local x None (Some j) s l (set_name l j v) w f
    (own_set x.program (names_in x) (Some j) s.memory w.memory (depth_in x) x.first l.names l.shadows j v f.own (λ y k is h. h))

-- a temporary is no exception
pub fits_unwanted : (x : Setting) (s : State) (l : Local) (w : World) (j : ℕ) → ScalarsFirst x → Fits x (Some j) s l w → size_in x ≤ j → Fits x None s l w
fits_unwanted x s l w j low f le =
    fits_local x (Some j) None s l l w f (record {
      scalars = λ v k m o is at owner live. (let c = f.own.scalars v k m o is at owner live in
          record { value = c.value; holds = c.holds; named = λ h. c.named (less_other k j (omega (arith, low v k is, le))); word = c.word; known = c.known; same = c.same });
      objects = f.own.objects;
    })
