-- What the types of expressions tell of their values.
use Rattle.std.proofs.Common.{◌≡◌, ℕ, ◌*◌, ◌≤◌, List, [], ◌∷◌, length, Option, Some, None, Bool, true, false, slice_get, refl, sym, ap, ◌∙◌, subst}
use Rattle.std.specs.Prelude.{if◌then◌else◌}
use Rattle.c_tree.specs.declared.object_type.ObjectType.{ObjectType}
use Rattle.c_tree.specs.declared.object_type.ValueType.{ValueType}
use Rattle.c_tree.specs.declared.object_type.ValueType.TheVariants.{Void, Integer, Pointer}
use Rattle.c_tree.specs.TypedExpressions.{RvalueTree}
use Rattle.c_tree.specs.Programs.{ProgramTree}
use Rattle.c_type_laws.specs.Kind.{Kind, Wrong, NullPointer, Of}
use Rattle.c_type_laws.specs.Expressions.{kind_of}
use Rattle.c_meaning_values.specs.declared.value.Value.{Value}
use Rattle.c_meaning_values.specs.declared.value.Value.TheVariants as source
use Rattle.c_meaning_values.specs.Memory.{Memory, is_usable}
use Rattle.c_meaning_values.specs.Operations.{is_true}
use Rattle.c_meaning_steps.specs.declared.event.Ending.TheVariants.{Undefined}
use Rattle.c_meaning_steps.specs.States.{State, Evaluated, Gives, Leaves, Ends, Tested, Holds, Fails, NoTest, condition_tested, tested_usable, by_truth}
use Rattle.c_meaning.specs.Expressions.{Calls, evaluate}
use Rattle.graph_build_runs.specs.Typed.{StandsWhole, PointsInto, IsOf}
use Rattle.graph_build_runs.proofs.Words.{in_word}
use Rattle.graph_build_runs.proofs.Tests.{HasWord}
use Rattle.graph_build_runs.proofs.Leads.{Setting, depth_in}
use Rattle.graph_build_runs.proofs.Later.{Later, later_refl, later_trans}
use Rattle.graph_build_runs.proofs.Kept.{Sound}

-- a value is what the type of its expression says
abbrev pub HasKind : Memory → Kind → Value → Type 0
HasKind memory Wrong v = ⊥
HasKind memory NullPointer v = v ≡ source.Null
HasKind memory (Of t) v = IsOf memory t v

-- An expression gave a value of its kind, and the memory went on.
pub record Gave (p : ProgramTree) (began before : Memory) (k : Kind) (v : Value) (s : State) : Type 0 where
  pub sound : Sound p began s
  pub later : Later before s.memory
  pub is : HasKind s.memory k v

-- it gave none
pub record Left (p : ProgramTree) (began before : Memory) (s : State) : Type 0 where
  pub sound : Sound p began s
  pub later : Later before s.memory

abbrev pub Keeps : ProgramTree → (began before : Memory) → Kind → Evaluated → Type 0
Keeps p began before k (Gives v s) = Gave p began before k v s
Keeps p began before k (Leaves s) = Left p began before s
Keeps p began before k (Ends e s) = Unit {0}

-- What an expression comes to is of its type, in each state that keeps what runs keep.
abbrev pub Typed : Setting → Calls → RvalueTree → Type 0
Typed x calls e = (s : State) → Sound x.program x.begun s → Keeps x.program x.begun s.memory (kind_of x.program x.tree e) (evaluate calls (depth_in x) e s)

-- a result that is a value
pub gave_by : (p : ProgramTree) (began before : Memory) (k : Kind) (r : Evaluated) (v : Value) (s : State) → r ≡ Gives v s → Keeps p began before k r → Gave p began before k v s
gave_by p began before k r v s e keeps = subst (Keeps p began before k) e keeps

-- a value of a type is one that a word can say
pub of_word : (memory : Memory) (t : ValueType) (v : Value) → IsOf memory t v → HasWord v
of_word memory Void v is = absurd is
of_word memory (Integer t) (source.Number z) is = in_word t z is
of_word memory (Integer t) source.Null is = tt
of_word memory (Integer t) (source.Pointer n offset) is = tt
of_word memory (Pointer of) (source.Number z) is = absurd is
of_word memory (Pointer of) source.Null is = tt
of_word memory (Pointer of) (source.Pointer n offset) is = tt

pub kind_word : (memory : Memory) (k : Kind) (v : Value) → HasKind memory k v → HasWord v
kind_word memory Wrong v is = absurd is
kind_word memory NullPointer v is = subst HasWord (sym is) tt
kind_word memory (Of t) v is = of_word memory t v is

-- it is so later
pub into_later : (memory after : Memory) → Later memory after → (of : ObjectType) (n offset : ℕ) → PointsInto memory of n offset → PointsInto after of n offset
into_later memory after later of n offset c =
    let o = later n c.object c.is in
    record {
      object = o.object;
      is = o.is;
      element_is = o.element ∙ c.element_is;
      index = c.index;
      at = c.at;
      within = subst (λ k. c.index ≤ k) (sym o.count) c.within;
      stands = subst (λ k. StandsWhole of k offset) (sym o.count) c.stands;
    }

pub of_later : (memory after : Memory) → Later memory after → (t : ValueType) (v : Value) → IsOf memory t v → IsOf after t v
of_later memory after later Void v is = is
of_later memory after later (Integer t) (source.Number z) is = is
of_later memory after later (Integer t) source.Null is = is
of_later memory after later (Integer t) (source.Pointer n offset) is = is
of_later memory after later (Pointer of) (source.Number z) is = is
of_later memory after later (Pointer of) source.Null is = is
of_later memory after later (Pointer of) (source.Pointer n offset) is = into_later memory after later of n offset is

pub kind_later : (memory after : Memory) → Later memory after → (k : Kind) (v : Value) → HasKind memory k v → HasKind after k v
kind_later memory after later Wrong v is = is
kind_later memory after later NullPointer v is = is
kind_later memory after later (Of t) v is = of_later memory after later t v is

-- what is kept where a value is tested
abbrev pub KeepsTest : ProgramTree → (began before : Memory) → Tested → Type 0
KeepsTest p began before (Holds s) = Left p began before s
KeepsTest p began before (Fails s) = Left p began before s
KeepsTest p began before (NoTest e s) = Unit {0}

pub keeps_tested : (p : ProgramTree) (began before : Memory) (k : Kind) (r : Evaluated) → Keeps p began before k r → KeepsTest p began before (condition_tested r)
keeps_tested p began before k (Gives v s) h = by_usable (is_usable s.memory v)
  where
    by_true : (b : Bool) → KeepsTest p began before (by_truth b s)
    by_true true = record { sound = h.sound; later = h.later }
    by_true false = record { sound = h.sound; later = h.later }

    by_usable : (b : Bool) → KeepsTest p began before (tested_usable (if b then Gives v s else Ends Undefined s))
    by_usable true = by_true (is_true v)
    by_usable false = tt
keeps_tested p began before k (Leaves s) h = tt
keeps_tested p began before k (Ends e s) h = tt
