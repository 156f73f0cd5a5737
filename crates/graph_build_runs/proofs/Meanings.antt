-- What expressions come to is of their types: values in objects, reads and writes.
use Rattle.std.proofs.Common.{◌≡◌, ◌≢◌, ℕ, zero, suc, ◌+◌, ◌*◌, ◌/◌, ◌<◌, ◌≤◌, ◌⊎◌, inl, inr, List, [], ◌∷◌, length, Option, Some, None, Bool, true, false, ◌&&◌, slice_get, slice_set, refl, sym, ap, ◌∙◌, subst, arith, ℤ, pos}
use Rattle.std.specs.Prelude.{◌==◌, if◌then◌else◌, option_map, option_and_then}
use Rattle.std.specs.Option.{option_map_or}
use Rattle.std.specs.List.{AllByRecursion}
use Rattle.std.proofs.lemmas.List.{length-set}
use Rattle.word_base.specs.Owners.{Owner, Static, Literal, Variable}
use Rattle.word_base.specs.Types.{holds}
use Rattle.c_tree.specs.declared.types.IntegerType.{IntegerType}
use Rattle.c_tree.specs.declared.object_type.Scalar.{Scalar}
use Rattle.c_tree.specs.declared.object_type.ObjectType.{ObjectType}
use Rattle.c_tree.specs.declared.object_type.ObjectType.TheVariants as of-object
use Rattle.c_tree.specs.declared.object_type.ValueType.{ValueType}
use Rattle.c_tree.specs.declared.object_type.ValueType.TheVariants.{Void, Integer, Pointer}
use Rattle.c_tree.specs.TypedExpressions.{RvalueTree, LvalueTree, Constant, Null, Load, Assign, Comma, Discard}
use Rattle.c_tree.specs.Programs.{ProgramTree}
use Rattle.c_type_rules.specs.Integers.{integer}
use Rattle.c_type_rules.specs.Types.{loaded_type}
use Rattle.c_type_rules.specs.ValueTypes.{object_type}
use Rattle.c_type_laws.specs.Kind.{Kind, Wrong, NullPointer, Of}
use Rattle.c_type_laws.specs.Kinds.{of_if, is_of, is_typed}
use Rattle.c_type_laws.specs.Expressions.{kind_of}
use Rattle.c_meaning_values.specs.declared.value.Value.{Value}
use Rattle.c_meaning_values.specs.declared.value.Value.TheVariants as source
use Rattle.c_meaning_values.specs.declared.value.Phase.{Phase}
use Rattle.c_meaning_values.specs.declared.value.Phase.TheVariants.{Live, Ended}
use Rattle.c_meaning_steps.specs.declared.event.Ending.TheVariants.{Undefined}
use Rattle.c_meaning_values.specs.Types.{element_scalar, scalar_size}
use Rattle.c_meaning_values.specs.Memory.{Object, Memory, is_usable, is_begun, is_writable, index_at, read, value_in, write, written_in, set_value, with_value}
use Rattle.c_meaning_steps.specs.States.{State, Evaluated, Gives, Leaves, Ends, value_or_undefined, with, usable, both_operands, on_both, afterwards}
use Rattle.c_meaning.specs.Expressions.{Calls, evaluate, designate}
use Rattle.c_meaning_steps.specs.Steps.{load, store, value_stored}
use Rattle.graph_build_runs.specs.Typed.{PointsInto, IsOf, AreTyped, OwnersDiffer}
use Rattle.graph_build_runs.specs.Stops.{IsDeclared, AreDeclared}
use Rattle.graph_build_runs.proofs.Leads.{Setting, depth_in}
use Rattle.graph_build_runs.proofs.Later.{get_set, Onward, onward, live_open, still_initialising, Later, later_refl, later_trans, later_changed}
use Rattle.graph_build_runs.proofs.Kept.{Sound}
use Rattle.graph_build_runs.proofs.Leaves.{both_with}
use Rattle.graph_build_runs.proofs.Typing.{HasKind, Gave, Left, Keeps, Typed, of_later, kind_later}
use Rattle.graph_build_runs.proofs.Types.{kind_is_of}

-- it was kept from before, too
pub keeps_before : (p : ProgramTree) (began first before : Memory) (k : Kind) (r : Evaluated) → Later first before → Keeps p began before k r → Keeps p began first k r
keeps_before p began first before k (Gives v s) later h = record { sound = h.sound; later = later_trans first before s.memory later h.later; is = h.is }
keeps_before p began first before k (Leaves s) later h = record { sound = h.sound; later = later_trans first before s.memory later h.later }
keeps_before p began first before k (Ends e s) later h = tt

-- the value of an expression is used
pub keeps_with : (p : ProgramTree) (began before : Memory) (k1 k : Kind) (r : Evaluated) (next : Value → State → Evaluated) → Keeps p began before k1 r → ((v : Value) (s : State) → Gave p began before k1 v s → Keeps p began s.memory k (next v s)) → Keeps p began before k (with r next)
keeps_with p began before k1 k (Gives v s) next h go_on = keeps_before p began before s.memory k (next v s) h.later (go_on v s h)
keeps_with p began before k1 k (Leaves s) next h go_on = tt
keeps_with p began before k1 k (Ends e s) next h go_on = tt

pub keeps_afterwards : (p : ProgramTree) (began before : Memory) (k1 k : Kind) (r : Evaluated) (next : State → Evaluated) → Keeps p began before k1 r → ((s : State) → Left p began before s → Keeps p began s.memory k (next s)) → Keeps p began before k (afterwards r next)
keeps_afterwards p began before k1 k (Gives v s) next h go_on = keeps_before p began before s.memory k (next s) h.later (go_on s (record { sound = h.sound; later = h.later }))
keeps_afterwards p began before k1 k (Leaves s) next h go_on = keeps_before p began before s.memory k (next s) h.later (go_on s h)
keeps_afterwards p began before k1 k (Ends e s) next h go_on = tt

-- a value that was found, or none
pub keeps_given : (p : ProgramTree) (began : Memory) (k : Kind) (s : State) (r : Option Value) → Sound p began s → ((v : Value) → r ≡ Some v → HasKind s.memory k v) → Keeps p began s.memory k (value_or_undefined r s)
keeps_given p began k s None sound h = tt
keeps_given p began k s (Some v) sound h = record { sound = sound; later = later_refl s.memory; is = h v refl }

pub constant_typed : (x : Setting) (calls : Calls) (z : ℤ) (t : IntegerType) → holds (integer t) z ≡ true → Typed x calls (Constant z t)
constant_typed x calls z t fits s sound = record { sound = sound; later = later_refl s.memory; is = subst (λ b. HasKind s.memory (of_if b (Integer t)) (source.Number z)) (sym fits) fits }

pub null_typed : (x : Setting) (calls : Calls) → Typed x calls Null
null_typed x calls s sound = record { sound = sound; later = later_refl s.memory; is = refl }

-- a value among values of a type
pub all_at : (memory : Memory) (t : ValueType) (vs : List Value) (i : ℕ) (v : Value) → AllByRecursion (IsOf memory t) vs → slice_get vs i ≡ Some v → IsOf memory t v
all_at memory t [] i v all h = cc
all_at memory t (u ∷ vs) zero v all h = let same : u ≡ v = cc in subst (IsOf memory t) same all.0
all_at memory t (u ∷ vs) (suc i) v all h = all_at memory t vs i v all.1 h

all_later : (memory after : Memory) → Later memory after → (t : ValueType) (vs : List Value) → AllByRecursion (IsOf memory t) vs → AllByRecursion (IsOf after t) vs
all_later memory after later t [] all = tt
all_later memory after later t (v ∷ vs) all = (of_later memory after later t v all.0, all_later memory after later t vs all.1)

all_set : (memory : Memory) (t : ValueType) (vs : List Value) (i : ℕ) (v : Value) → AllByRecursion (IsOf memory t) vs → IsOf memory t v → AllByRecursion (IsOf memory t) (slice_set vs i v)
all_set memory t [] i v all is = tt
all_set memory t (u ∷ vs) zero v all is = (is, all.1)
all_set memory t (u ∷ vs) (suc i) v all is = (all.0, all_set memory t vs i v all.1 is)

-- An object takes a value of its type, and may come to live: what runs keep is kept.
module _ (p : ProgramTree) (began : Memory) (s : State) (n i : ℕ) (o : Object) (v : Value) (phase : Phase) (goes_on : Onward o.phase phase) (at : slice_get s.memory n ≡ Some o) (sound : Sound p began s) (is : IsOf s.memory (loaded_type o.element) v) where
  abbrev changed : Object
  changed = record o { values = slice_set o.values i v; phase = phase }

  abbrev after : Memory
  after = slice_set s.memory n changed

  changed_later : Later s.memory after
  changed_later = later_changed s.memory n o changed at refl refl goes_on (length-set o.values i v)

  sound_changed : Sound p began (record s { memory = after })
  sound_changed = record {
    typed = λ m q found. elim (get_set s.memory n m changed q found) [
      | inl both_operands ↦
          subst (λ z. AllByRecursion (IsOf after (loaded_type z.element)) z.values) (sym both_operands.1)
          (all_set after (loaded_type o.element) o.values i v
          (all_later s.memory after changed_later (loaded_type o.element) o.values (sound.typed n o at))
          (of_later s.memory after changed_later (loaded_type o.element) v is))
      | inr both_operands ↦ all_later s.memory after changed_later (loaded_type q.element) q.values (sound.typed m q both_operands.1)
    ];
    differ = λ a b q r fa fb la lb same. (let x = old a q fa in let y = old b r fb in sound.differ a b x.0 y.0 x.1 y.1 (λ e. la (x.2 e)) (λ e. lb (y.2 e)) (sym x.3 ∙ same ∙ y.3));
    declared = λ m q found. elim (get_set s.memory n m changed q found) [
      | inl both_operands ↦ subst (λ z. IsDeclared p z.owner z) (sym both_operands.1) (declared_set o.owner (sound.declared n o at))
      | inr both_operands ↦ sound.declared m q both_operands.1
    ];
    single = λ m q found young. elim (get_set s.memory n m changed q found) [
      | inl both_operands ↦
          let before = still_initialising o.phase phase goes_on (sym (ap (λ z. z.phase) both_operands.1) ∙ young) in
          ap (λ z. length z.values) both_operands.1 ∙ length-set o.values i v ∙ sound.single n o at before
      | inr both_operands ↦ sound.single m q both_operands.1 young
    ];
    bytes = sound.bytes;
    since = record {
      later = later_trans began s.memory after sound.since.later changed_later;
      ends = λ m q found alive. (let x = old m q found in sound.since.ends m x.0 x.1 (λ e. alive (x.2 e)));
    };
  }
    where
      old : (a : ℕ) (q : Object) → slice_get after a ≡ Some q → (z : Object) × (slice_get s.memory a ≡ Some z) × (z.phase ≡ Ended → q.phase ≡ Ended) × (q.owner ≡ z.owner)
      old a q found = elim (get_set s.memory n a changed q found) [
        | inl both_operands ↦ (o, ap (slice_get s.memory) both_operands.0 ∙ at, (λ e. ap (λ z. z.phase) both_operands.1 ∙ goes_on.over e), ap (λ z. z.owner) both_operands.1)
        | inr both_operands ↦ (q, both_operands.1, (λ e. e), refl)
      ]

      declared_set : (w : Owner) → IsDeclared p w o → IsDeclared p w changed
      declared_set (Static k) c = (c.0, c.1, c.2, length-set o.values i v ∙ c.3)
      declared_set (Literal k) c = (c.0, c.1, c.2, length-set o.values i v ∙ c.3)
      declared_set (Variable k d) c = (c.0, c.1, c.2, length-set o.values i v ∙ c.3)

-- An element of an array takes a value.
pub sound_set : (p : ProgramTree) (began : Memory) (s : State) (n i : ℕ) (o : Object) (v : Value) → slice_get s.memory n ≡ Some o → Sound p began s → IsOf s.memory (loaded_type o.element) v → Sound p began (record s { memory = slice_set s.memory n (record o { values = slice_set o.values i v }) })
sound_set p began s n i o v at sound is = sound_changed p began s n i o v o.phase (onward o.phase o.phase refl) at sound is

-- An object is written, and lives.
pub sound_written : (p : ProgramTree) (began : Memory) (s : State) (n i : ℕ) (o : Object) (v : Value) → slice_get s.memory n ≡ Some o → o.phase ≢ Ended → Sound p began s → IsOf s.memory (loaded_type o.element) v
    → Sound p began (record s { memory = slice_set s.memory n (record o { values = slice_set o.values i v; phase = Live }) })
sound_written p began s n i o v at alive sound is = sound_changed p began s n i o v Live (live_open o.phase alive) at sound is
