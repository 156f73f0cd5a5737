-- Names, reads, assignments, operators and tests come to values of their types.
use Rattle.std.proofs.Common.{◌≡◌, ◌≢◌, ℕ, zero, suc, ◌+◌, ◌*◌, ◌/◌, ◌<◌, ◌≤◌, List, [], ◌∷◌, length, Option, Some, None, Bool, true, false, not, ◌&&◌, slice_get, slice_set, refl, sym, ap, ◌∙◌, subst, arith, ℤ, pos}
use Rattle.std.specs.Prelude.{◌==◌, if◌then◌else◌, option_map, option_and_then}
use Rattle.std.specs.List.{AllByRecursion}
use Rattle.word_base.specs.Owners.{Owner, Static, Literal, Variable}
use Rattle.word_base.specs.Operations.{truth as truth_of}
use Rattle.word_base.specs.Types.{holds}
use Rattle.c_tree.specs.declared.types.IntegerType.{IntegerType}
use Rattle.c_tree.specs.declared.types.IntegerType.TheVariants.{Int}
use Rattle.c_tree.specs.declared.object_type.Scalar.{Scalar}
use Rattle.c_tree.specs.declared.object_type.ObjectType.{ObjectType}
use Rattle.c_tree.specs.declared.object_type.ObjectType.TheVariants as of-object
use Rattle.c_tree.specs.declared.object_type.ValueType.{ValueType}
use Rattle.c_tree.specs.declared.object_type.ValueType.TheVariants.{Void, Integer, Pointer}
use Rattle.c_tree.specs.declared.object_type.Object as designator
use Rattle.c_tree.specs.declared.object_type.Object.TheVariants as object
use Rattle.c_tree.specs.declared.typed_expression.Arithmetic as declared-arithmetic
use Rattle.c_tree.specs.declared.typed_expression.Comparison as declared-comparison
use Rattle.c_tree.specs.TypedExpressions.{RvalueTree, LvalueTree, Load, AddressOf, Assign, Comma, Discard, Arithmetic, Compare, And, Or, Not, Conditional, Named, Target}
use Rattle.c_tree.specs.Programs.{AutomaticTree, StaticTree, ProgramTree}
use Rattle.c_type_rules.specs.Constants.{calculated, comparison_holds as test_of}
use Rattle.c_type_rules.specs.Integers.{integer}
use Rattle.c_type_rules.specs.Types.{loaded_type as loaded}
use Rattle.c_type_rules.specs.ValueTypes.{object_type}
use Rattle.c_type_laws.specs.Kind.{Kind, Wrong, NullPointer, Of}
use Rattle.c_type_laws.specs.Kinds.{is_of}
use Rattle.c_type_laws.specs.Expressions.{kind_of}
use Rattle.c_meaning_values.specs.declared.value.Value.{Value}
use Rattle.c_meaning_values.specs.declared.value.Value.TheVariants as source
use Rattle.c_meaning_values.specs.declared.value.Phase.TheVariants.{Live}
use Rattle.c_meaning_steps.specs.declared.event.Ending.TheVariants.{Undefined}
use Rattle.c_meaning_values.specs.Types.{element_scalar, value_count}
use Rattle.c_meaning_values.specs.Memory.{Object, Memory, is_usable, is_begun, is_writable, index_at, object_of, read, value_in, write, written_in, set_value, begun}
use Rattle.c_meaning_values.specs.Operations.{arithmetic, comparison, comparison_value}
use Rattle.c_meaning_steps.specs.States.{State, Evaluated, Gives, Leaves, Ends, value_or_undefined, with, usable, both_operands, on_both, Tested, Holds, Fails, NoTest, condition_tested, on_test}
use Rattle.c_meaning.specs.Expressions.{Calls, evaluate, designate}
use Rattle.c_meaning_steps.specs.Steps.{pointer_to_named, load, store, value_stored, truth_value}
use Rattle.graph_build_runs.specs.Typed.{PointsInto, IsPointerTo, IsOf}
use Rattle.graph_build_runs.specs.Stops.{IsDeclared}
use Rattle.graph_build_runs.proofs.Leads.{Setting, depth_in}
use Rattle.graph_build_runs.proofs.Later.{Later, later_refl, later_written, written_is}
use Rattle.graph_build_runs.proofs.Kept.{Sound}
use Rattle.graph_build_runs.proofs.Leaves.{both_with}
use Rattle.graph_build_runs.proofs.Objects.{Owned, owned_at, writable_open}
use Rattle.graph_build_runs.proofs.Wholes.{stands_first}
use Rattle.graph_build_runs.proofs.Typing.{HasKind, Gave, Left, Keeps, KeepsTest, keeps_tested, Typed, of_later, kind_later}
use Rattle.graph_build_runs.proofs.Types.{kind_is_of}
use Rattle.graph_build_runs.proofs.Meanings.{keeps_before, keeps_with, keeps_afterwards, keeps_given, all_at, sound_written}

-- An lvalue is designated by a pointer to elements of its type.
abbrev pub TypedPlace : Setting → Calls → LvalueTree → Type 0
TypedPlace x calls l = (s : State) → Sound x.program x.begun s → Keeps x.program x.begun s.memory (Of (Pointer (object_type l))) (designate calls (depth_in x) l s)

-- the address of an owner's object
pub address_typed : (p : ProgramTree) (began : Memory) (owner : Owner) (of : ObjectType) (s : State) → Sound p began s → ((o : Object) → IsDeclared p owner o → (o.element ≡ element_scalar of) × (length o.values ≡ value_count of)) → (r : Option ℕ) → object_of owner s.memory ≡ r
    → Keeps p began s.memory (Of (Pointer of)) (value_or_undefined (option_map (λ n. source.Pointer n 0) r) s)
address_typed p began owner of s sound fits None e = tt
address_typed p began owner of s sound fits (Some n) e =
    let o = owned_at owner s.memory n e in
    let c = fits o.object (subst (λ w. IsDeclared p w o.object) o.owner_is (sound.declared n o.object o.is)) in
    record {
      sound = sound;
      later = later_refl s.memory;
      is = record {
        object = o.object;
        is = o.is;
        element_is = c.0;
        index = 0;
        at = omega arith;
        within = omega arith;
        stands = stands_first of (length o.object.values) (let count = c.1 in omega (arith, count));
      };
    }

-- an automatic variable
pub variable_typed : (x : Setting) (calls : Calls) (v : ℕ) (of : ObjectType) → ((a : AutomaticTree) → slice_get x.program.automatics v ≡ Some a → a.of ≡ of) → TypedPlace x calls (Named (object.Automatic v) of)
variable_typed x calls v of fits s sound =
    address_typed x.program x.begun (Variable v (depth_in x)) of s sound (λ o c. (c.2 ∙ ap element_scalar (fits c.0 c.1), c.3 ∙ ap value_count (fits c.0 c.1))) (object_of (Variable v (depth_in x)) s.memory) refl

-- a static one
pub static_typed : (x : Setting) (calls : Calls) (n : ℕ) (of : ObjectType) → ((v : StaticTree) → slice_get x.program.statics n ≡ Some v → v.of ≡ of) → TypedPlace x calls (Named (object.Static n) of)
static_typed x calls n of fits s sound = address_typed x.program x.begun (Static n) of s sound (λ o c. (c.2 ∙ ap element_scalar (fits c.0 c.1), c.3 ∙ ap value_count (fits c.0 c.1))) (object_of (Static n) s.memory) refl

-- a value that is worked with
usable_keeps : (p : ProgramTree) (began : Memory) (k : Kind) (v : Value) (s : State) → Sound p began s → HasKind s.memory k v → Keeps p began s.memory k (usable v s)
usable_keeps p began k v s sound is = by_use (is_usable s.memory v)
  where
    by_use : (b : Bool) → Keeps p began s.memory k (if b then Gives v s else Ends Undefined s)
    by_use true = record { sound = sound; later = later_refl s.memory; is = is }
    by_use false = tt

-- a read where a pointer points
pub load_typed : (p : ProgramTree) (began : Memory) (sc : Scalar) (v : Value) (s : State) → Sound p began s → IsPointerTo s.memory (of-object.Scalar sc) v → Keeps p began s.memory (Of (loaded sc)) (load v s)
load_typed p began sc (source.Number z) s sound is = absurd is
load_typed p began sc source.Null s sound is = tt
load_typed p began sc (source.Pointer n offset) s sound c =
    subst (λ q. Keeps p began s.memory (Of (loaded sc)) (with (value_or_undefined (option_and_then (λ o. value_in o offset) q) s) usable)) (sym c.is) (by_phase (is_begun c.object.phase))
  where
    found : (r : Option Value) → slice_get c.object.values (index_at c.object offset) ≡ r → Keeps p began s.memory (Of (loaded sc)) (with (value_or_undefined r s) usable)
    found None e = tt
    found (Some v) e =
        usable_keeps p began (Of (loaded sc)) v s sound
        (subst (λ q. IsOf s.memory (loaded q) v) c.element_is (all_at s.memory (loaded c.object.element) c.object.values (index_at c.object offset) v (sound.typed n c.object c.is) e))

    by_phase : (b : Bool) → Keeps p began s.memory (Of (loaded sc)) (with (value_or_undefined (if b then slice_get c.object.values (index_at c.object offset) else None) s) usable)
    by_phase true = found (slice_get c.object.values (index_at c.object offset)) refl
    by_phase false = tt

pub load_of : (x : Setting) (calls : Calls) (sc : Scalar) (l : LvalueTree) → kind_of x.program x.tree (Load sc l) ≡ Of (loaded sc) → object_type l ≡ of-object.Scalar sc → TypedPlace x calls l → Typed x calls (Load sc l)
load_of x calls sc l kind of place s sound =
    subst (λ k. Keeps x.program x.begun s.memory k (evaluate calls (depth_in x) (Load sc l) s)) (sym kind)
    (keeps_with x.program x.begun s.memory (Of (Pointer (object_type l))) (Of (loaded sc)) (designate calls (depth_in x) l s) load (place s sound)
    (λ v s1 h. load_typed x.program x.begun sc v s1 h.sound (subst (λ o. IsPointerTo s1.memory o v) of h.is)))

-- a write where a pointer points
pub store_typed : (p : ProgramTree) (began : Memory) (sc : Scalar) (ptr v : Value) (s : State) → Sound p began s → IsPointerTo s.memory (of-object.Scalar sc) ptr → IsOf s.memory (loaded sc) v → Keeps p began s.memory (Of (loaded sc)) (store ptr v s)
store_typed p began sc (source.Number z) v s sound is typed = absurd is
store_typed p began sc source.Null v s sound is typed = tt
store_typed p began sc (source.Pointer n offset) v s sound c typed =
    subst (λ q. Keeps p began s.memory (Of (loaded sc)) (value_stored (option_and_then (written_in s.memory n offset v) q) v s)) (sym c.is) (by_way (is_writable c.object offset) refl)
  where
    typed_here : IsOf s.memory (loaded c.object.element) v
    typed_here = subst (λ q. IsOf s.memory (loaded q) v) (sym c.element_is) typed

    by_way : (b : Bool) → is_writable c.object offset ≡ b → Keeps p began s.memory (Of (loaded sc)) (value_stored (if b then Some (begun (set_value s.memory n (index_at c.object offset) v) n) else None) v s)
    by_way true e =
        let alive = writable_open c.object offset e in
        let after = slice_set s.memory n (record c.object { values = slice_set c.object.values (index_at c.object offset) v; phase = Live }) in
        let later = later_written s.memory n (index_at c.object offset) c.object v c.is alive in
        subst (λ m. Gave p began s.memory (Of (loaded sc)) v (record s { memory = m })) (sym (written_is s.memory n (index_at c.object offset) c.object v c.is))
        (record { sound = sound_written p began s n (index_at c.object offset) c.object v c.is alive sound typed_here; later = later; is = of_later s.memory after later (loaded sc) v typed })
    by_way false e = tt

pub assign_of : (x : Setting) (calls : Calls) (sc : Scalar) (l : LvalueTree) (e : RvalueTree) → kind_of x.program x.tree (Assign sc l e) ≡ Of (loaded sc) → object_type l ≡ of-object.Scalar sc → is_of (kind_of x.program x.tree e) (loaded sc) ≡ true → TypedPlace x calls l → Typed x calls e
    → Typed x calls (Assign sc l e)
assign_of x calls sc l e kind of fits place typed_e s sound =
    subst (λ k. Keeps x.program x.begun s.memory k (evaluate calls (depth_in x) (Assign sc l e) s)) (sym kind)
    (subst (Keeps x.program x.begun s.memory (Of (loaded sc))) (both_with (designate calls (depth_in x) l s) (evaluate calls (depth_in x) e) store)
    (keeps_with x.program x.begun s.memory (Of (Pointer (object_type l))) (Of (loaded sc)) (designate calls (depth_in x) l s) (λ v t. with (evaluate calls (depth_in x) e t) (store v)) (place s sound)
    (λ ptr s1 h. keeps_with x.program x.begun s1.memory (kind_of x.program x.tree e) (Of (loaded sc)) (evaluate calls (depth_in x) e s1) (store ptr) (typed_e s1 h.sound)
    (λ v s2 k. store_typed x.program x.begun sc ptr v s2 k.sound
    (subst (λ o. IsPointerTo s2.memory o ptr) of (of_later s1.memory s2.memory k.later (Pointer (object_type l)) ptr h.is))
    (kind_is_of s2.memory (kind_of x.program x.tree e) (loaded sc) v fits k.is)))))

-- two operands, and what is made of their values
pub both_typed : (x : Setting) (calls : Calls) (a b : RvalueTree) (k : Kind) (next : Value → Value → State → Evaluated) → Typed x calls a → Typed x calls b
    → ((v w : Value) (s : State) → Sound x.program x.begun s → HasKind s.memory (kind_of x.program x.tree a) v → HasKind s.memory (kind_of x.program x.tree b) w → Keeps x.program x.begun s.memory k (next v w s))
    → (s : State) → Sound x.program x.begun s → Keeps x.program x.begun s.memory k (on_both (both_operands (evaluate calls (depth_in x) a s) (evaluate calls (depth_in x) b)) next)
both_typed x calls a b k next typed_a typed_b go_on s sound =
    subst (Keeps x.program x.begun s.memory k) (both_with (evaluate calls (depth_in x) a s) (evaluate calls (depth_in x) b) next)
    (keeps_with x.program x.begun s.memory (kind_of x.program x.tree a) k (evaluate calls (depth_in x) a s) (λ v t. with (evaluate calls (depth_in x) b t) (next v)) (typed_a s sound)
    (λ v s1 h. keeps_with x.program x.begun s1.memory (kind_of x.program x.tree b) k (evaluate calls (depth_in x) b s1) (next v) (typed_b s1 h.sound)
    (λ w s2 j. go_on v w s2 j.sound (kind_later s1.memory s2.memory j.later (kind_of x.program x.tree a) v h.is) j.is)))

-- a comparison of numbers is 0 or 1
truth_typed : (c : Bool) → holds (integer Int) (truth_of c) ≡ true
truth_typed true = refl
truth_typed false = refl

compared_typed : (p : ProgramTree) (began : Memory) (o : declared-comparison.Comparison) (v w : Value) (s : State) → Sound p began s → Keeps p began s.memory (Of (Integer Int)) (value_or_undefined (comparison o v w) s)
compared_typed p began o (source.Number a) (source.Number b) s sound = record { sound = sound; later = later_refl s.memory; is = truth_typed (test_of o a b) }
compared_typed p began o (source.Number a) source.Null s sound = tt
compared_typed p began o (source.Number a) (source.Pointer n k) s sound = tt
compared_typed p began o source.Null w s sound = tt
compared_typed p began o (source.Pointer n k) w s sound = tt

pub compare_of : (x : Setting) (calls : Calls) (o : declared-comparison.Comparison) (ty : IntegerType) (a b : RvalueTree) → kind_of x.program x.tree (Compare o ty a b) ≡ Of (Integer Int) → Typed x calls a → Typed x calls b → Typed x calls (Compare o ty a b)
compare_of x calls o ty a b kind typed_a typed_b s sound =
    subst (λ k. Keeps x.program x.begun s.memory k (evaluate calls (depth_in x) (Compare o ty a b) s)) (sym kind)
    (both_typed x calls a b (Of (Integer Int)) (λ v w t. value_or_undefined (comparison o v w) t) typed_a typed_b (λ v w s2 sound2 ka kb. compared_typed x.program x.begun o v w s2 sound2) s sound)

pub comma_of : (x : Setting) (calls : Calls) (a b : RvalueTree) → kind_of x.program x.tree (Comma a b) ≡ kind_of x.program x.tree b → Typed x calls a → Typed x calls b → Typed x calls (Comma a b)
comma_of x calls a b kind typed_a typed_b s sound =
    subst (λ k. Keeps x.program x.begun s.memory k (evaluate calls (depth_in x) (Comma a b) s)) (sym kind)
    (keeps_afterwards x.program x.begun s.memory (kind_of x.program x.tree a) (kind_of x.program x.tree b) (evaluate calls (depth_in x) a s) (evaluate calls (depth_in x) b) (typed_a s sound) (λ s1 h. typed_b s1 h.sound))

pub discard_of : (x : Setting) (calls : Calls) (e : RvalueTree) → Typed x calls e → Typed x calls (Discard e)
discard_of x calls e typed_e s sound =
    keeps_afterwards x.program x.begun s.memory (kind_of x.program x.tree e) (kind_of x.program x.tree (Discard e)) (evaluate calls (depth_in x) e s) Leaves (typed_e s sound) (λ s1 h. record { sound = h.sound; later = later_refl s1.memory })

-- a test, and what follows it
pub keeps_on_test : (p : ProgramTree) (began before : Memory) (k : Kind) (r : Tested) (one other : State → Evaluated) → KeepsTest p began before r → ((s : State) → Left p began before s → Keeps p began s.memory k (one s)) → ((s : State) → Left p began before s → Keeps p began s.memory k (other s))
    → Keeps p began before k (on_test r one other)
keeps_on_test p began before k (Holds s) one other h f g = keeps_before p began before s.memory k (one s) h.later (f s h)
keeps_on_test p began before k (Fails s) one other h f g = keeps_before p began before s.memory k (other s) h.later (g s h)
keeps_on_test p began before k (NoTest e s) one other h f g = tt

number_typed : (p : ProgramTree) (began : Memory) (s : State) (c : Bool) → Sound p began s → Keeps p began s.memory (Of (Integer Int)) (truth_value (truth_of c) s)
number_typed p began s c sound = record { sound = sound; later = later_refl s.memory; is = truth_typed c }

pub and_of : (x : Setting) (calls : Calls) (a b : RvalueTree) → kind_of x.program x.tree (And a b) ≡ Of (Integer Int) → Typed x calls a → Typed x calls b → Typed x calls (And a b)
and_of x calls a b kind typed_a typed_b s sound =
    subst (λ k. Keeps x.program x.begun s.memory k (evaluate calls (depth_in x) (And a b) s)) (sym kind)
    (keeps_on_test x.program x.begun s.memory (Of (Integer Int)) (condition_tested (evaluate calls (depth_in x) a s)) _ (truth_value (pos 0)) (keeps_tested x.program x.begun s.memory (kind_of x.program x.tree a) (evaluate calls (depth_in x) a s) (typed_a s sound))
    (λ s1 h. keeps_on_test x.program x.begun s1.memory (Of (Integer Int)) (condition_tested (evaluate calls (depth_in x) b s1)) (truth_value (pos 1)) (truth_value (pos 0)) (keeps_tested x.program x.begun s1.memory (kind_of x.program x.tree b) (evaluate calls (depth_in x) b s1) (typed_b s1 h.sound))
    (λ s2 k. number_typed x.program x.begun s2 true k.sound) (λ s2 k. number_typed x.program x.begun s2 false k.sound)) (λ s1 h. number_typed x.program x.begun s1 false h.sound))

pub or_of : (x : Setting) (calls : Calls) (a b : RvalueTree) → kind_of x.program x.tree (Or a b) ≡ Of (Integer Int) → Typed x calls a → Typed x calls b → Typed x calls (Or a b)
or_of x calls a b kind typed_a typed_b s sound =
    subst (λ k. Keeps x.program x.begun s.memory k (evaluate calls (depth_in x) (Or a b) s)) (sym kind)
    (keeps_on_test x.program x.begun s.memory (Of (Integer Int)) (condition_tested (evaluate calls (depth_in x) a s)) (truth_value (pos 1)) _ (keeps_tested x.program x.begun s.memory (kind_of x.program x.tree a) (evaluate calls (depth_in x) a s) (typed_a s sound))
    (λ s1 h. number_typed x.program x.begun s1 true h.sound)
    (λ s1 h. keeps_on_test x.program x.begun s1.memory (Of (Integer Int)) (condition_tested (evaluate calls (depth_in x) b s1)) (truth_value (pos 1)) (truth_value (pos 0)) (keeps_tested x.program x.begun s1.memory (kind_of x.program x.tree b) (evaluate calls (depth_in x) b s1) (typed_b s1 h.sound))
    (λ s2 k. number_typed x.program x.begun s2 true k.sound) (λ s2 k. number_typed x.program x.begun s2 false k.sound)))

pub not_of : (x : Setting) (calls : Calls) (e : RvalueTree) → kind_of x.program x.tree (Not e) ≡ Of (Integer Int) → Typed x calls e → Typed x calls (Not e)
not_of x calls e kind typed_e s sound =
    subst (λ k. Keeps x.program x.begun s.memory k (evaluate calls (depth_in x) (Not e) s)) (sym kind)
    (keeps_on_test x.program x.begun s.memory (Of (Integer Int)) (condition_tested (evaluate calls (depth_in x) e s)) (truth_value (pos 0)) (truth_value (pos 1)) (keeps_tested x.program x.begun s.memory (kind_of x.program x.tree e) (evaluate calls (depth_in x) e s) (typed_e s sound))
    (λ s1 h. number_typed x.program x.begun s1 false h.sound) (λ s1 h. number_typed x.program x.begun s1 true h.sound))

-- `?:`, whose arms are of its kind
pub conditional_of : (x : Setting) (calls : Calls) (c a b : RvalueTree) → ((memory : Memory) (v : Value) → HasKind memory (kind_of x.program x.tree a) v → HasKind memory (kind_of x.program x.tree (Conditional c a b)) v)
    → ((memory : Memory) (v : Value) → HasKind memory (kind_of x.program x.tree b) v → HasKind memory (kind_of x.program x.tree (Conditional c a b)) v) → Typed x calls c → Typed x calls a → Typed x calls b → Typed x calls (Conditional c a b)
conditional_of x calls c a b one other typed_c typed_a typed_b s sound =
    keeps_on_test x.program x.begun s.memory (kind_of x.program x.tree (Conditional c a b)) (condition_tested (evaluate calls (depth_in x) c s)) (evaluate calls (depth_in x) a) (evaluate calls (depth_in x) b)
    (keeps_tested x.program x.begun s.memory (kind_of x.program x.tree c) (evaluate calls (depth_in x) c s) (typed_c s sound)) (λ s1 h. widened (kind_of x.program x.tree a) s1 one (evaluate calls (depth_in x) a s1) (typed_a s1 h.sound))
    (λ s1 h. widened (kind_of x.program x.tree b) s1 other (evaluate calls (depth_in x) b s1) (typed_b s1 h.sound))
  where
    widened : (k : Kind) (s1 : State) → ((memory : Memory) (v : Value) → HasKind memory k v → HasKind memory (kind_of x.program x.tree (Conditional c a b)) v) → (r : Evaluated) → Keeps x.program x.begun s1.memory k r
        → Keeps x.program x.begun s1.memory (kind_of x.program x.tree (Conditional c a b)) r
    widened k s1 f (Gives v s2) h = record { sound = h.sound; later = h.later; is = f s2.memory v h.is }
    widened k s1 f (Leaves s2) h = h
    widened k s1 f (Ends e s2) h = tt
