-- What expressions on pointers and memory come to is of their types.
use Rattle.std.proofs.Common.{◌≡◌, ℕ, ◌⊎◌, inl, inr, length, Option, Some, None, Bool, true, false, not, ◌&&◌, slice_get, refl, sym, ap, ◌∙◌, subst, ℤ, pos, negsuc, ◌-ℤ◌}
use Rattle.std.specs.Prelude.{◌==◌, if◌then◌else◌, option_map}
use Rattle.word_base.specs.Owners.{Literal}
use Rattle.word_base.specs.Types.{holds}
use Rattle.word_base.specs.Operations.{truth}
use Rattle.c_tree.specs.declared.types.IntegerType.{IntegerType}
use Rattle.c_tree.specs.declared.types.IntegerType.TheVariants.{Char, Int}
use Rattle.c_tree.specs.declared.object_type.Scalar.{Scalar}
use Rattle.c_tree.specs.declared.object_type.ObjectType.{ObjectType}
use Rattle.c_tree.specs.declared.object_type.ObjectType.TheVariants as of-object
use Rattle.c_tree.specs.declared.object_type.ValueType.{ValueType}
use Rattle.c_tree.specs.declared.object_type.ValueType.TheVariants.{Integer, Pointer}
use Rattle.c_tree.specs.declared.object_type.Object.TheVariants as object
use Rattle.c_tree.specs.declared.typed_expression.Comparison as declared-comparison
use Rattle.c_tree.specs.declared.typed_expression.Comparison.TheVariants as comparison
use Rattle.c_tree.specs.declared.typed_expression.Direction.{Direction}
use Rattle.c_tree.specs.declared.typed_expression.Direction.TheVariants.{Up}
use Rattle.c_tree.specs.declared.typed_expression.Given.{Given}
use Rattle.c_tree.specs.declared.typed_expression.Given.TheVariants.{New, Old}
use Rattle.c_tree.specs.declared.typed_expression.Sign as declared-sign
use Rattle.c_tree.specs.declared.typed_expression.Sign.TheVariants as sign
use Rattle.c_tree.specs.TypedExpressions.{RvalueTree, LvalueTree, Decay, AddressOf, Signed, ComparePointers, Move, MoveFrom, Named, Target}
use Rattle.c_tree.specs.Programs.{LiteralTree, ProgramTree}
use Rattle.c_type_rules.specs.Constants.{constant_with_sign as sign_of, comparison_holds as test_of}
use Rattle.c_type_rules.specs.Integers.{integer}
use Rattle.c_type_rules.specs.Types.{loaded_type}
use Rattle.c_type_rules.specs.ValueTypes.{object_type}
use Rattle.c_type_laws.specs.Kind.{Kind, Of}
use Rattle.c_type_laws.specs.Kinds.{is_of}
use Rattle.c_type_laws.specs.Expressions.{kind_of}
use Rattle.c_meaning_values.specs.declared.value.Value.{Value}
use Rattle.c_meaning_values.specs.declared.value.Value.TheVariants as source
use Rattle.c_meaning_values.specs.Types.{element_scalar, value_count}
use Rattle.c_meaning_values.specs.Memory.{Memory, is_usable, object_of}
use Rattle.c_meaning_values.specs.Operations.{value_with_sign, comparison_value, is_same_pointer, order_of, pointers_compared, pointer_comparison, moved_by_elements}
use Rattle.c_meaning_steps.specs.declared.event.Ending.TheVariants.{Undefined}
use Rattle.c_meaning_steps.specs.States.{State, Evaluated, Gives, Leaves, Ends, value_or_undefined, with, usable, both_operands, on_both}
use Rattle.c_meaning.specs.Expressions.{Calls, evaluate, designate}
use Rattle.c_meaning_steps.specs.Steps.{load, store, decayed, left_side_read, store_if, replace_if, one}
use Rattle.graph_build_steps.specs.declared.change.Change as declared-change
use Rattle.graph_build_runs.specs.Typed.{IsOf, IsPointerTo}
use Rattle.graph_build_runs.proofs.Leads.{Setting, depth_in}
use Rattle.graph_build_runs.proofs.Later.{some_same, later_refl}
use Rattle.graph_build_runs.proofs.Kept.{Sound}
use Rattle.graph_build_runs.proofs.Typing.{HasKind, Keeps, Typed, of_later}
use Rattle.graph_build_runs.proofs.Types.{kind_is_of}
use Rattle.graph_build_runs.proofs.Meanings.{keeps_with, keeps_given}
use Rattle.graph_build_runs.proofs.Meant.{TypedPlace, address_typed, load_typed, store_typed, both_typed}
use Rattle.graph_build_runs.proofs.Wrapping.{wrapped_holds}
use Rattle.graph_build_runs.proofs.Fragment.{kept_holds}
use Rattle.graph_build_runs.proofs.Moving.{moved_typed}
use Rattle.graph_build_runs.proofs.PointerSums.{Filters, decayed_filters}
use Rattle.graph_build_runs.proofs.Renewing.{Changes}
use Rattle.graph_build_runs.proofs.MemorySteps.{located_with}

-- what is filtered is of the same kind
filter_keeps : (p : ProgramTree) (began before : Memory) (k : Kind) (next : Value → State → Evaluated) → Filters next → (r : Evaluated) → Keeps p began before k r → Keeps p began before k (with r next)
filter_keeps p began before k next filters (Gives v s) h = by (filters v s)
  where
    by : (next v s ≡ Gives v s) ⊎ (next v s ≡ Ends Undefined s) → Keeps p began before k (next v s)
    by (inl e) = subst (Keeps p began before k) (sym e) h
    by (inr e) = subst (Keeps p began before k) (sym e) tt
filter_keeps p began before k next filters (Leaves s) h = tt
filter_keeps p began before k next filters (Ends e s) h = tt

usable_filters : Filters usable
usable_filters v s = by (is_usable s.memory v)
  where
    by : (b : Bool) → ((if b then Gives v s else Ends Undefined s) ≡ Gives v s) ⊎ ((if b then Gives v s else Ends Undefined s) ≡ Ends Undefined s)
    by true = inl refl
    by false = inr refl

-- a kind that is of a type
pub keeps_of : (p : ProgramTree) (began before : Memory) (k : Kind) (t : ValueType) (r : Evaluated) → is_of k t ≡ true → Keeps p began before k r → Keeps p began before (Of t) r
keeps_of p began before k t (Gives v s) fits h = record { sound = h.sound; later = h.later; is = kind_is_of s.memory k t v fits h.is }
keeps_of p began before k t (Leaves s) fits h = h
keeps_of p began before k t (Ends e s) fits h = tt

-- what a pointer points to
pub target_typed : (x : Setting) (calls : Calls) (of : ObjectType) (e : RvalueTree) → is_of (kind_of x.program x.tree e) (Pointer of) ≡ true → Typed x calls e → TypedPlace x calls (Target of e)
target_typed x calls of e fits typed_e s sound =
    filter_keeps x.program x.begun s.memory (Of (Pointer of)) usable usable_filters (evaluate calls (depth_in x) e s) (keeps_of x.program x.begun s.memory (kind_of x.program x.tree e) (Pointer of) (evaluate calls (depth_in x) e s) fits (typed_e s sound))

-- a pointer that is moved
moved_keeps : (p : ProgramTree) (began : Memory) (d : Direction) (of : ObjectType) (v w : Value) (s : State) → Sound p began s → IsOf s.memory (Pointer of) v → Keeps p began s.memory (Of (Pointer of)) (value_or_undefined (moved_by_elements s.memory d of v w) s)
moved_keeps p began d of v (source.Number z) s sound is = keeps_given p began (Of (Pointer of)) s (moved_by_elements s.memory d of v (source.Number z)) sound (λ new e. moved_typed s.memory d of v z new is e)
moved_keeps p began d of v source.Null s sound is = tt
moved_keeps p began d of v (source.Pointer n k) s sound is = tt

pub element_typed : (x : Setting) (calls : Calls) (d : Direction) (of : ObjectType) (p i : RvalueTree) → is_of (kind_of x.program x.tree p) (Pointer of) ≡ true → Typed x calls p → Typed x calls i → (s : State) → Sound x.program x.begun s
    → Keeps x.program x.begun s.memory (Of (Pointer of)) (on_both (both_operands (evaluate calls (depth_in x) p s) (evaluate calls (depth_in x) i)) (λ v w t. value_or_undefined (moved_by_elements t.memory d of v w) t))
element_typed x calls d of p i fits typed_p typed_i s sound =
    both_typed x calls p i (Of (Pointer of)) (λ v w t. value_or_undefined (moved_by_elements t.memory d of v w) t) typed_p typed_i
    (λ v w s2 sound2 kv kw. moved_keeps x.program x.begun d of v w s2 sound2 (kind_is_of s2.memory (kind_of x.program x.tree p) (Pointer of) v fits kv)) s sound

pub element_from_typed : (x : Setting) (calls : Calls) (of : ObjectType) (i p : RvalueTree) → is_of (kind_of x.program x.tree p) (Pointer of) ≡ true → Typed x calls i → Typed x calls p → (s : State) → Sound x.program x.begun s
    → Keeps x.program x.begun s.memory (Of (Pointer of)) (on_both (both_operands (evaluate calls (depth_in x) i s) (evaluate calls (depth_in x) p)) (λ w v t. value_or_undefined (moved_by_elements t.memory Up of v w) t))
element_from_typed x calls of i p fits typed_i typed_p s sound =
    both_typed x calls i p (Of (Pointer of)) (λ w v t. value_or_undefined (moved_by_elements t.memory Up of v w) t) typed_i typed_p
    (λ w v s2 sound2 kw kv. moved_keeps x.program x.begun Up of v w s2 sound2 (kind_is_of s2.memory (kind_of x.program x.tree p) (Pointer of) v fits kv)) s sound

pub move_of : (x : Setting) (calls : Calls) (d : Direction) (of : ObjectType) (p i : RvalueTree) → kind_of x.program x.tree (Move d of p i) ≡ Of (Pointer of) → is_of (kind_of x.program x.tree p) (Pointer of) ≡ true → Typed x calls p → Typed x calls i → Typed x calls (Move d of p i)
move_of x calls d of p i kind fits typed_p typed_i s sound = subst (λ k. Keeps x.program x.begun s.memory k (evaluate calls (depth_in x) (Move d of p i) s)) (sym kind) (element_typed x calls d of p i fits typed_p typed_i s sound)

pub move_from_of : (x : Setting) (calls : Calls) (of : ObjectType) (i p : RvalueTree) → kind_of x.program x.tree (MoveFrom i of p) ≡ Of (Pointer of) → is_of (kind_of x.program x.tree p) (Pointer of) ≡ true → Typed x calls i → Typed x calls p → Typed x calls (MoveFrom i of p)
move_from_of x calls of i p kind fits typed_i typed_p s sound = subst (λ k. Keeps x.program x.begun s.memory k (evaluate calls (depth_in x) (MoveFrom i of p) s)) (sym kind) (element_from_typed x calls of i p fits typed_i typed_p s sound)

pub address_of : (x : Setting) (calls : Calls) (l : LvalueTree) → kind_of x.program x.tree (AddressOf l) ≡ Of (Pointer (object_type l)) → TypedPlace x calls l → Typed x calls (AddressOf l)
address_of x calls l kind typed_l s sound = subst (λ k. Keeps x.program x.begun s.memory k (designate calls (depth_in x) l s)) (sym kind) (typed_l s sound)

-- an array decays to a pointer to its elements
pub decay_of : (x : Setting) (calls : Calls) (l : LvalueTree) (element : Scalar) (count : ℕ) → object_type l ≡ of-object.Array element count → kind_of x.program x.tree (Decay l) ≡ Of (Pointer (of-object.Scalar element)) → TypedPlace x calls l → Typed x calls (Decay l)
decay_of x calls l element count of kind typed_l s sound =
    subst (λ k. Keeps x.program x.begun s.memory k (evaluate calls (depth_in x) (Decay l) s)) (sym kind)
    (to_element (with (designate calls (depth_in x) l s) decayed) (subst (λ o. Keeps x.program x.begun s.memory (Of (Pointer o)) (with (designate calls (depth_in x) l s) decayed)) of
    (filter_keeps x.program x.begun s.memory (Of (Pointer (object_type l))) decayed decayed_filters (designate calls (depth_in x) l s) (typed_l s sound))))
  where
    to_first : (memory : Memory) (v : Value) → IsOf memory (Pointer (of-object.Array element count)) v → IsOf memory (Pointer (of-object.Scalar element)) v
    to_first memory (source.Number z) is = is
    to_first memory source.Null is = tt
    to_first memory (source.Pointer n offset) c = record { object = c.object; is = c.is; element_is = c.element_is; index = c.index; at = c.at; within = c.within; stands = tt }

    to_element : (r : Evaluated) → Keeps x.program x.begun s.memory (Of (Pointer (of-object.Array element count))) r → Keeps x.program x.begun s.memory (Of (Pointer (of-object.Scalar element))) r
    to_element (Gives v s1) h = record { sound = h.sound; later = h.later; is = to_first s1.memory v h.is }
    to_element (Leaves s1) h = h
    to_element (Ends e s1) h = tt

-- a test of pointers is 0 or 1
test_typed : (c : Bool) → holds (integer Int) (truth c) ≡ true
test_typed true = refl
test_typed false = refl

order_typed : (p : ProgramTree) (began : Memory) (o : declared-comparison.Comparison) (v w : Value) (s : State) → Sound p began s → Keeps p began s.memory (Of (Integer Int)) (value_or_undefined (order_of o v w) s)
order_typed p began o (source.Number z) w s sound = tt
order_typed p began o source.Null w s sound = tt
order_typed p began o (source.Pointer n i) (source.Number z) s sound = tt
order_typed p began o (source.Pointer n i) source.Null s sound = tt
order_typed p began o (source.Pointer n i) (source.Pointer m j) s sound = by (n == m)
  where
    by : (b : Bool) → Keeps p began s.memory (Of (Integer Int)) (value_or_undefined (if b then Some (source.Number (comparison_value o (pos i) (pos j))) else None) s)
    by true = record { sound = sound; later = later_refl s.memory; is = test_typed (test_of o (pos i) (pos j)) }
    by false = tt

pointers_typed : (p : ProgramTree) (began : Memory) (o : declared-comparison.Comparison) (v w : Value) (s : State) → Sound p began s → Keeps p began s.memory (Of (Integer Int)) (value_or_undefined (pointers_compared o v w) s)
pointers_typed p began comparison.Equal v w s sound = record { sound = sound; later = later_refl s.memory; is = test_typed (is_same_pointer v w) }
pointers_typed p began comparison.NotEqual v w s sound = record { sound = sound; later = later_refl s.memory; is = test_typed (not (is_same_pointer v w)) }
pointers_typed p began comparison.Less v w s sound = order_typed p began comparison.Less v w s sound
pointers_typed p began comparison.Greater v w s sound = order_typed p began comparison.Greater v w s sound
pointers_typed p began comparison.LessEqual v w s sound = order_typed p began comparison.LessEqual v w s sound
pointers_typed p began comparison.GreaterEqual v w s sound = order_typed p began comparison.GreaterEqual v w s sound

pub compare_pointers_of : (x : Setting) (calls : Calls) (o : declared-comparison.Comparison) (a b : RvalueTree) → kind_of x.program x.tree (ComparePointers o a b) ≡ Of (Integer Int) → Typed x calls a → Typed x calls b → Typed x calls (ComparePointers o a b)
compare_pointers_of x calls o a b kind typed_a typed_b s sound =
    subst (λ k. Keeps x.program x.begun s.memory k (evaluate calls (depth_in x) (ComparePointers o a b) s)) (sym kind)
    (both_typed x calls a b (Of (Integer Int)) (λ v w t. value_or_undefined (pointer_comparison t.memory o v w) t) typed_a typed_b (λ v w s2 sound2 ka kb. by v w s2 sound2 (is_usable s2.memory v && is_usable s2.memory w)) s sound)
  where
    by : (v w : Value) (s2 : State) → Sound x.program x.begun s2 → (c : Bool) → Keeps x.program x.begun s2.memory (Of (Integer Int)) (value_or_undefined (if c then pointers_compared o v w else None) s2)
    by v w s2 sound2 true = pointers_typed x.program x.begun o v w s2 sound2
    by v w s2 sound2 false = tt

-- a sign
pub signed_of : (x : Setting) (calls : Calls) (o : declared-sign.Sign) (ty : IntegerType) (e : RvalueTree) → kind_of x.program x.tree (Signed o ty e) ≡ Of (Integer ty) → kind_of x.program x.tree e ≡ Of (Integer ty) → Typed x calls e → Typed x calls (Signed o ty e)
signed_of x calls o ty e kind kind_e typed_e s sound =
    subst (λ k. Keeps x.program x.begun s.memory k (evaluate calls (depth_in x) (Signed o ty e) s)) (sym kind)
    (keeps_with x.program x.begun s.memory (Of (Integer ty)) (Of (Integer ty)) (evaluate calls (depth_in x) e s) (λ v t. value_or_undefined (value_with_sign o ty v) t) (subst (λ k. Keeps x.program x.begun s.memory k (evaluate calls (depth_in x) e s)) kind_e (typed_e s sound))
    (λ v s1 h. by v s1 h.sound h.is))
  where
    sign_holds : (o : declared-sign.Sign) (z r : ℤ) → holds (integer ty) z ≡ true → sign_of o ty z ≡ Some r → holds (integer ty) r ≡ true
    sign_holds sign.Plus z r h is = subst (λ k. holds (integer ty) k ≡ true) (some_same is) h
    sign_holds sign.Minus z r h is = kept_holds ty (pos 0 -ℤ z) r is
    sign_holds sign.Complement z r h is = subst (λ k. holds (integer ty) k ≡ true) (some_same is) (wrapped_holds ty (negsuc 0 -ℤ z))

    by_result : (z : ℤ) (s1 : State) → Sound x.program x.begun s1 → holds (integer ty) z ≡ true → (r : Option ℤ) → sign_of o ty z ≡ r → Keeps x.program x.begun s1.memory (Of (Integer ty)) (value_or_undefined (option_map source.Number r) s1)
    by_result z s1 sound1 h None is = tt
    by_result z s1 sound1 h (Some r) is = record { sound = sound1; later = later_refl s1.memory; is = sign_holds o z r h is }

    by : (v : Value) (s1 : State) → Sound x.program x.begun s1 → IsOf s1.memory (Integer ty) v → Keeps x.program x.begun s1.memory (Of (Integer ty)) (value_or_undefined (value_with_sign o ty v) s1)
    by (source.Number z) s1 sound1 h = by_result z s1 sound1 h (sign_of o ty z) refl
    by source.Null s1 sound1 h = absurd h
    by (source.Pointer n k) s1 sound1 h = absurd h

-- changes of objects
module _ (x : Setting) (calls : Calls) (sc : Scalar) (lv : LvalueTree) (of : object_type lv ≡ of-object.Scalar sc) (typed_lv : TypedPlace x calls lv) (c : declared-change.Change) (target_type : ValueType) (HasBy : Value → Type 0) (next : Memory → Value → Value → Option Value)
    (changes : Changes x c target_type HasBy next) (type_is : loaded_type sc ≡ target_type) where
  -- where it is, and what it holds
  located_keeps : (k : Kind) (go : Value → Value → State → Evaluated) (s : State) → Sound x.program x.begun s → ((p old : Value) (s1 : State) → Sound x.program x.begun s1 → IsPointerTo s1.memory (of-object.Scalar sc) p → IsOf s1.memory target_type old → Keeps x.program x.begun s1.memory k (go p old s1))
      → Keeps x.program x.begun s.memory k (on_both (left_side_read (designate calls (depth_in x) lv s)) go)
  located_keeps k go s sound next_keeps =
      subst (Keeps x.program x.begun s.memory k) (located_with (designate calls (depth_in x) lv s) go)
      (keeps_with x.program x.begun s.memory (Of (Pointer (object_type lv))) k (designate calls (depth_in x) lv s) (λ p s1. with (load p s1) (λ old u. go p old u)) (typed_lv s sound)
      (λ p s1 h. (let there = subst (λ o. IsPointerTo s1.memory o p) of h.is in
      keeps_with x.program x.begun s1.memory (Of (loaded_type sc)) k (load p s1) (λ old u. go p old u) (load_typed x.program x.begun sc p s1 h.sound there)
      (λ old s2 q. next_keeps p old s2 q.sound (of_later s1.memory s2.memory q.later (Pointer (of-object.Scalar sc)) p there) (subst (λ t. IsOf s2.memory t old) type_is q.is)))))

  stores_keep : (p old b : Value) (s : State) → Sound x.program x.begun s → IsPointerTo s.memory (of-object.Scalar sc) p → IsOf s.memory target_type old → HasBy b → (r : Option Value) → next s.memory old b ≡ r → Keeps x.program x.begun s.memory (Of target_type) (store_if r p s)
  stores_keep p old b s sound there is has None e = tt
  stores_keep p old b s sound there is has (Some new) e =
      subst (λ t. Keeps x.program x.begun s.memory (Of t) (store p new s)) type_is (store_typed x.program x.begun sc p new s sound there (subst (λ t. IsOf s.memory t new) (sym type_is) (changes.typed s.memory old b new is has e)))

  pub updated_keeps : (e : RvalueTree) → Typed x calls e → ((memory : Memory) (u : Value) → HasKind memory (kind_of x.program x.tree e) u → HasBy u) → (s : State) → Sound x.program x.begun s
      → Keeps x.program x.begun s.memory (Of target_type) (on_both (left_side_read (designate calls (depth_in x) lv s)) (λ p old u. with (evaluate calls (depth_in x) e u) (λ b z. store_if (next z.memory old b) p z)))
  updated_keeps e typed_e by_is s sound =
      located_keeps (Of target_type) (λ p old u. with (evaluate calls (depth_in x) e u) (λ b z. store_if (next z.memory old b) p z)) s sound
      (λ p old s1 sound1 there is. keeps_with x.program x.begun s1.memory (kind_of x.program x.tree e) (Of target_type) (evaluate calls (depth_in x) e s1) (λ b z. store_if (next z.memory old b) p z) (typed_e s1 sound1)
      (λ b s2 h. stores_keep p old b s2 h.sound (of_later s1.memory s2.memory h.later (Pointer (of-object.Scalar sc)) p there) (of_later s1.memory s2.memory h.later target_type old is) (by_is s2.memory b h.is) (next s2.memory old b) refl))

  replaces_keep : (which : Given) (p old : Value) (s : State) → Sound x.program x.begun s → IsPointerTo s.memory (of-object.Scalar sc) p → IsOf s.memory target_type old → HasBy one → (r : Option Value) → next s.memory old one ≡ r → Keeps x.program x.begun s.memory (Of target_type) (replace_if r which p old s)
  replaces_keep New p old s sound there is has None e = tt
  replaces_keep Old p old s sound there is has None e = tt
  replaces_keep New p old s sound there is has (Some new) e = stores_keep p old one s sound there is has (Some new) e
  replaces_keep Old p old s sound there is has (Some new) e =
      keeps_with x.program x.begun s.memory (Of target_type) (Of target_type) (store p new s) (λ v t. Gives old t) (stores_keep p old one s sound there is has (Some new) e)
      (λ v s1 h. record { sound = h.sound; later = later_refl s1.memory; is = of_later s.memory s1.memory h.later target_type old is })

  pub stepped_keeps : (which : Given) → HasBy one → (s : State) → Sound x.program x.begun s → Keeps x.program x.begun s.memory (Of target_type) (on_both (left_side_read (designate calls (depth_in x) lv s)) (λ p old u. replace_if (next u.memory old one) which p old u))
  stepped_keeps which has s sound =
      located_keeps (Of target_type) (λ p old u. replace_if (next u.memory old one) which p old u) s sound (λ p old s1 sound1 there is. replaces_keep which p old s1 sound1 there is has (next s1.memory old one) refl)

-- a literal
pub literal_typed : (x : Setting) (calls : Calls) (n : ℕ) (of : ObjectType) → ((l : LiteralTree) → slice_get x.program.literals n ≡ Some l → of-object.Array (record { base = Char; stars = 0 }) (length l.bytes) ≡ of) → TypedPlace x calls (Named (object.Literal n) of)
literal_typed x calls n of fits s sound = address_typed x.program x.begun (Literal n) of s sound (λ o c. (c.2 ∙ ap element_scalar (fits c.0 c.1), c.3 ∙ ap value_count (fits c.0 c.1))) (object_of (Literal n) s.memory) refl
