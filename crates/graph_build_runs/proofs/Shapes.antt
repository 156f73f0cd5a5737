-- What the kinds of expressions tell of their trees.
use Rattle.std.proofs.Common.{◌≡◌, ℕ, Bool, true, false, ◌&&◌, refl, sym, ap, ◌∙◌, subst}
use Rattle.std.specs.Prelude.{◌==◌, if◌then◌else◌}
use Rattle.c_tree.specs.declared.types.IntegerType.{IntegerType}
use Rattle.c_tree.specs.declared.types.IntegerType.TheVariants.{Int}
use Rattle.c_tree.specs.declared.object_type.Scalar.{Scalar}
use Rattle.c_tree.specs.declared.object_type.ObjectType.{ObjectType}
use Rattle.c_tree.specs.declared.object_type.ObjectType.TheVariants as of-object
use Rattle.c_tree.specs.declared.object_type.ValueType.{ValueType}
use Rattle.c_tree.specs.declared.object_type.ValueType.TheVariants.{Void, Integer, Pointer}
use Rattle.c_tree.specs.TypedExpressions.{RvalueTree, LvalueTree, Constant, Null, Load, Decay, AddressOf, Convert, Discard, Signed, Not, Arithmetic, Compare, ComparePointers, Move, MoveFrom, Difference, And, Or, Conditional, Comma, Assign, Update, UpdatePointer, Step, StepPointer, Call, Named, Target, Element, ElementFrom}
use Rattle.c_type_rules.specs.Types.{loaded_type, pointed_to, same_value}
use Rattle.c_type_rules.specs.ValueTypes.{object_type, decayed, results_of, type_of, given_by, is_void, is_pointer}
use Rattle.c_type_laws.specs.Kind.{Kind, Wrong, NullPointer, Of}
use Rattle.c_type_laws.specs.Kinds.{of_if, is_scalar_type, is_promoted, is_of, is_typed, is_scalar, is_pointer as is_pointer_kind, is_integer, is_counted, joined, holds_scalar, holds_pointer, is_array, is_callee, taken_by}
use Rattle.c_type_laws.specs.Expressions.{kind_of, is_place, are_passed}
use Rattle.c_meaning_values.specs.declared.value.Value as source-value
use Rattle.c_meaning_values.specs.declared.value.Value.TheVariants as source
use Rattle.c_meaning_values.specs.Memory.{Memory as SourceMemory}
use Rattle.graph_build_runs.specs.Typed.{IsOf}
use Rattle.graph_build_runs.proofs.Leads.{Setting}
use Rattle.graph_build_runs.proofs.Typing.{HasKind}
use Rattle.graph_build_runs.proofs.Types.{value_is}
use Rattle.graph_build_runs.proofs.TwoPointers.{IsPointer}
use Rattle.graph_build_runs.proofs.ValuesStand.{IsWhole, IsWholeIn}
pub use Rattle.base_laws.proofs.Booleans.{four_true, three_true, two_true}

-- an array's type, and that of a pointer's object
pub array_of : (o : ObjectType) → is_array o ≡ true → (el : Scalar) × (count : ℕ) × (o ≡ of-object.Array el count)
array_of (of-object.Scalar s) h = cc
array_of (of-object.Array el count) h = (el, count, refl)

pub pointer_object : (o el : ObjectType) → holds_pointer o el ≡ true → (s : Scalar) × (o ≡ of-object.Scalar s) × (loaded_type s ≡ Pointer el)
pointer_object (of-object.Scalar s) el h = (s, refl, value_is (loaded_type s) (Pointer el) h)
pointer_object (of-object.Array s count) el h = cc

pub if_typed : (b : Bool) (k : Kind) → is_typed (if b then k else Wrong) ≡ true → (b ≡ true) × (is_typed k ≡ true)
if_typed true k h = (refl, h)
if_typed false k h = cc

-- kinds that fit
pub fits_of : (b : Bool) (t : ValueType) → is_typed (of_if b t) ≡ true → b ≡ true
fits_of true t h = refl
fits_of false t h = cc

pub kind_by : (b : Bool) (t : ValueType) → b ≡ true → of_if b t ≡ Of t
kind_by true t h = refl
kind_by false t h = cc

pub integer_kind : (k : Kind) (t : IntegerType) → is_of k (Integer t) ≡ true → k ≡ Of (Integer t)
integer_kind Wrong t h = cc
integer_kind NullPointer t h = cc
integer_kind (Of u) t h = ap Of (value_is u (Integer t) h)

pub typed_of : (k : Kind) (t : ValueType) → is_of k t ≡ true → is_typed k ≡ true
typed_of Wrong t h = cc
typed_of NullPointer t h = refl
typed_of (Of u) t h = refl

pub any_integer : (k : Kind) → is_integer k ≡ true → (t : IntegerType) × (k ≡ Of (Integer t))
any_integer Wrong h = cc
any_integer NullPointer h = cc
any_integer (Of Void) h = cc
any_integer (Of (Integer t)) h = (t, refl)
any_integer (Of (Pointer of)) h = cc

pub counted : (k : Kind) → is_counted k ≡ true → (t : IntegerType) × (k ≡ Of (Integer t))
counted Wrong h = cc
counted NullPointer h = cc
counted (Of Void) h = cc
counted (Of (Integer t)) h = (t, refl)
counted (Of (Pointer of)) h = cc

pub counted_typed : (k : Kind) → is_counted k ≡ true → is_typed k ≡ true
counted_typed k h = let c = counted k h in ap is_typed c.1

pub scalar_typed : (k : Kind) → is_scalar k ≡ true → is_typed k ≡ true
scalar_typed Wrong h = cc
scalar_typed NullPointer h = refl
scalar_typed (Of t) h = refl

-- The type that a tree tells of a value of a kind: the same, but that of a null pointer is some pointer's.
abbrev pub Shape : Kind → ValueType → Type 0
Shape Wrong t = Unit {0}
Shape NullPointer t = is_pointer t ≡ true
Shape (Of Void) t = t ≡ Void
Shape (Of (Integer u)) t = t ≡ Integer u
Shape (Of (Pointer of)) t = is_pointer t ≡ true

shape_if : (b : Bool) (t : ValueType) → Shape (of_if b t) t
shape_if true Void = refl
shape_if true (Integer u) = refl
shape_if true (Pointer of) = refl
shape_if false t = tt

pub joined_shape : (k j : Kind) (t : ValueType) → Shape k t → Shape (joined k j) t
joined_shape Wrong j t h = tt
joined_shape NullPointer Wrong t h = tt
joined_shape NullPointer NullPointer t h = h
joined_shape NullPointer (Of Void) t h = tt
joined_shape NullPointer (Of (Integer u)) t h = tt
joined_shape NullPointer (Of (Pointer of)) t h = h
joined_shape (Of v) Wrong t h = tt
joined_shape (Of Void) NullPointer t h = tt
joined_shape (Of (Integer u)) NullPointer t h = tt
joined_shape (Of (Pointer of)) NullPointer t h = h
joined_shape (Of v) (Of w) t h = by (same_value v w)
  where
    by : (b : Bool) → Shape (of_if b v) t
    by true = h
    by false = tt

-- what two kinds that are joined are
joined_scalar : (k j : Kind) → is_scalar (joined k j) ≡ true → is_scalar k ≡ true
joined_scalar Wrong j h = h
joined_scalar NullPointer j h = refl
joined_scalar (Of v) Wrong h = cc
joined_scalar (Of Void) NullPointer h = cc
joined_scalar (Of (Integer u)) NullPointer h = refl
joined_scalar (Of (Pointer of)) NullPointer h = refl
joined_scalar (Of v) (Of w) h = by (same_value v w) h
  where
    by : (b : Bool) → is_scalar (of_if b v) ≡ true → is_scalar (Of v) ≡ true
    by true h = h
    by false h = cc

pub joined_typed : (k j : Kind) → is_typed (joined k j) ≡ true → (is_typed k ≡ true) × (is_typed j ≡ true)
joined_typed Wrong j h = cc
joined_typed NullPointer Wrong h = cc
joined_typed NullPointer NullPointer h = (refl, refl)
joined_typed NullPointer (Of t) h = (refl, refl)
joined_typed (Of v) Wrong h = cc
joined_typed (Of v) NullPointer h = (refl, refl)
joined_typed (Of v) (Of w) h = (refl, refl)

-- a value of either kind is one of the joined kind
pub left_joined : (memory : SourceMemory) (v : source-value.Value) (k j : Kind) → is_typed (joined k j) ≡ true → HasKind memory k v → HasKind memory (joined k j) v
left_joined memory v Wrong j h is = absurd is
left_joined memory v NullPointer Wrong h is = cc
left_joined memory v NullPointer NullPointer h is = is
left_joined memory v NullPointer (Of Void) h is = cc
left_joined memory v NullPointer (Of (Integer u)) h is = cc
left_joined memory v NullPointer (Of (Pointer of)) h is = subst (IsOf memory (Pointer of)) (sym is) tt
left_joined memory v (Of u) Wrong h is = cc
left_joined memory v (Of Void) NullPointer h is = cc
left_joined memory v (Of (Integer u)) NullPointer h is = cc
left_joined memory v (Of (Pointer of)) NullPointer h is = is
left_joined memory v (Of u) (Of w) h is = by (same_value u w) h
  where
    by : (b : Bool) → is_typed (of_if b u) ≡ true → HasKind memory (of_if b u) v
    by true h = is
    by false h = cc

pub right_joined : (memory : SourceMemory) (v : source-value.Value) (k j : Kind) → is_typed (joined k j) ≡ true → HasKind memory j v → HasKind memory (joined k j) v
right_joined memory v Wrong j h is = cc
right_joined memory v NullPointer Wrong h is = absurd is
right_joined memory v NullPointer NullPointer h is = is
right_joined memory v NullPointer (Of Void) h is = cc
right_joined memory v NullPointer (Of (Integer u)) h is = cc
right_joined memory v NullPointer (Of (Pointer of)) h is = is
right_joined memory v (Of u) Wrong h is = absurd is
right_joined memory v (Of Void) NullPointer h is = cc
right_joined memory v (Of (Integer u)) NullPointer h is = cc
right_joined memory v (Of (Pointer of)) NullPointer h is = subst (IsOf memory (Pointer of)) (sym is) tt
right_joined memory v (Of u) (Of w) h is = by (same_value u w) refl h
  where
    by : (b : Bool) → same_value u w ≡ b → is_typed (of_if b u) ≡ true → HasKind memory (of_if b u) v
    by true e h = subst (λ q. IsOf memory q v) (sym (value_is u w e)) is
    by false e h = cc

-- pointers that are compared
pub pointer_kinds : (memory : SourceMemory) (k j : Kind) → is_pointer_kind (joined k j) ≡ true → ((v : source-value.Value) → HasKind memory k v → IsPointer v) × ((v : source-value.Value) → HasKind memory j v → IsPointer v)
pointer_kinds memory k j h = (λ v is. of_pointer memory v (joined k j) h (left_joined memory v k j (pointer_typed (joined k j) h) is), λ v is. of_pointer memory v (joined k j) h (right_joined memory v k j (pointer_typed (joined k j) h) is))
  where
    pointer_typed : (k : Kind) → is_pointer_kind k ≡ true → is_typed k ≡ true
    pointer_typed Wrong h = cc
    pointer_typed NullPointer h = refl
    pointer_typed (Of t) h = refl

    of_pointer : (memory : SourceMemory) (v : source-value.Value) (k : Kind) → is_pointer_kind k ≡ true → HasKind memory k v → IsPointer v
    of_pointer memory v Wrong h is = cc
    of_pointer memory v NullPointer h is = subst IsPointer (sym is) tt
    of_pointer memory v (Of Void) h is = cc
    of_pointer memory v (Of (Integer t)) h is = cc
    of_pointer memory (source.Number z) (Of (Pointer of)) h is = absurd is
    of_pointer memory source.Null (Of (Pointer of)) h is = tt
    of_pointer memory (source.Pointer n k) (Of (Pointer of)) h is = tt

module _ (x : Setting) where
  abbrev K : RvalueTree → Kind
  K e = kind_of x.program x.tree e

  abbrev T : RvalueTree → ValueType
  T e = type_of (results_of x.program.functions) e

  by_choice : (b : Bool) (k : Kind) (t : ValueType) → Shape k t → Shape (if b then k else Wrong) t
  by_choice true k t h = h
  by_choice false k t h = tt

  -- A tree's type is that of its value.
  pub shape : (e : RvalueTree) → Shape (K e) (T e)
  shape (Constant z t) = shape_if _ (Integer t)
  shape Null = refl
  shape (Load s l) = shape_if _ (loaded_type s)
  shape (Decay l) = shape_if _ (decayed (object_type l))
  shape (AddressOf l) = shape_if _ (Pointer (object_type l))
  shape (Convert t e) = shape_if _ (Integer t)
  shape (Discard e) = shape_if _ Void
  shape (Signed o t e) = shape_if _ (Integer t)
  shape (Not e) = shape_if _ (Integer Int)
  shape (Arithmetic o t a b) = shape_if _ (Integer t)
  shape (Compare o t a b) = shape_if _ (Integer Int)
  shape (ComparePointers o a b) = shape_if _ (Integer Int)
  shape (Move d of p i) = shape_if _ (Pointer of)
  shape (MoveFrom i of p) = shape_if _ (Pointer of)
  shape (Difference of a b) = shape_if _ (Integer Int)
  shape (And a b) = shape_if _ (Integer Int)
  shape (Or a b) = shape_if _ (Integer Int)
  shape (Conditional c a b) = by_choice (is_scalar (K c)) (joined (K a) (K b)) (T a) (joined_shape (K a) (K b) (T a) (shape a))
  shape (Comma a b) = by_choice (is_typed (K a)) (K b) (T b) (shape b)
  shape (Assign s l e) = shape_if _ (loaded_type s)
  shape (Update o t u l e) = shape_if _ (Integer t)
  shape (UpdatePointer d of l e) = shape_if _ (Pointer of)
  shape (Step d g t u l) = shape_if _ (Integer t)
  shape (StepPointer d g of l) = shape_if _ (Pointer of)
  shape (Call c all) = shape_if _ (given_by (results_of x.program.functions) c)

  -- kinds of trees by what they are made of
  scalar_if : (b : Bool) (t : ValueType) → is_scalar (of_if b t) ≡ true → b ≡ true
  scalar_if true t h = refl
  scalar_if false t h = cc

  pub scalar_by : (k : Kind) (t : ValueType) → is_of k t ≡ true → is_scalar_type t ≡ true → is_scalar k ≡ true
  scalar_by Wrong t h s = cc
  scalar_by NullPointer t h s = refl
  scalar_by (Of u) t h s = ap is_scalar_type (value_is u t h) ∙ s

  pub loaded_scalar : (s : Scalar) → is_scalar_type (loaded_type s) ≡ true
  loaded_scalar s = by (s.stars == 0)
    where
      by : (b : Bool) → is_scalar_type (if b then Integer s.base else Pointer (of-object.Scalar (pointed_to s))) ≡ true
      by true = refl
      by false = refl

  void_none : (b : Bool) → is_scalar (of_if b Void) ≡ true → ⊥
  void_none true h = cc
  void_none false h = cc

  given_whole : (b : Bool) (t : ValueType) → is_scalar (of_if b t) ≡ true → is_void t ≡ false
  given_whole true Void h = cc
  given_whole true (Integer u) h = refl
  given_whole true (Pointer of) h = refl
  given_whole false t h = cc

  shape_whole : (k : Kind) (t : ValueType) → Shape k t → is_scalar k ≡ true → is_void t ≡ false
  shape_whole Wrong t h s = cc
  shape_whole NullPointer Void h s = cc
  shape_whole NullPointer (Integer u) h s = refl
  shape_whole NullPointer (Pointer of) h s = refl
  shape_whole (Of Void) t h s = cc
  shape_whole (Of (Integer u)) t h s = ap is_void h
  shape_whole (Of (Pointer of)) Void h s = cc
  shape_whole (Of (Pointer of)) (Integer u) h s = refl
  shape_whole (Of (Pointer of)) (Pointer o) h s = refl

  if_both : (b : Bool) (k : Kind) → is_scalar (if b then k else Wrong) ≡ true → is_scalar k ≡ true
  if_both true k h = h
  if_both false k h = cc

  integer_scalar : (k : Kind) → is_integer k ≡ true → is_scalar k ≡ true
  integer_scalar k h = ap is_scalar (any_integer k h).1

  mutual
    -- An expression that has a value has one wherever it has an end.
    pub whole_of : (e : RvalueTree) → is_scalar (K e) ≡ true → IsWhole x e
    whole_of (Constant z t) h = tt
    whole_of Null h = tt
    whole_of (Load s l) h = tt
    whole_of (Decay l) h = whole_in l (two_true (is_array (object_type l)) (is_place x.program x.tree l) (scalar_if (is_array (object_type l) && is_place x.program x.tree l) (decayed (object_type l)) h)).1
    whole_of (AddressOf l) h = whole_in l (scalar_if (is_place x.program x.tree l) (Pointer (object_type l)) h)
    whole_of (Convert t e) h = whole_of e (integer_scalar (K e) (scalar_if (is_integer (K e)) (Integer t) h))
    whole_of (Discard e) h = void_none (is_typed (K e)) h
    whole_of (Signed o t e) h = whole_of e (scalar_by (K e) (Integer t) (two_true (is_promoted t) (is_of (K e) (Integer t)) (scalar_if (is_promoted t && is_of (K e) (Integer t)) (Integer t) h)).1 refl)
    whole_of (Not e) h = tt
    whole_of (Arithmetic o t a b) h = tt
    whole_of (Compare o t a b) h = tt
    whole_of (ComparePointers o a b) h = tt
    whole_of (Move d of p i) h = tt
    whole_of (MoveFrom i of p) h = tt
    whole_of (Difference of a b) h = tt
    whole_of (And a b) h = tt
    whole_of (Or a b) h = tt
    whole_of (Conditional c a b) h = shape_whole (K a) (T a) (shape a) (joined_scalar (K a) (K b) (if_both (is_scalar (K c)) (joined (K a) (K b)) h))
    whole_of (Comma a b) h = whole_of b (if_both (is_typed (K a)) (K b) h)
    whole_of (Assign s l e) h =
        let c = three_true (holds_scalar (object_type l) s) (is_place x.program x.tree l) (is_of (K e) (loaded_type s)) (scalar_if (holds_scalar (object_type l) s && is_place x.program x.tree l && is_of (K e) (loaded_type s)) (loaded_type s) h) in
        whole_of e (scalar_by (K e) (loaded_type s) c.2 (loaded_scalar s))
    whole_of (Update o t u l e) h = tt
    whole_of (UpdatePointer d of l e) h = tt
    whole_of (Step d g t u l) h = tt
    whole_of (StepPointer d g of l) h = tt
    whole_of (Call c all) h = given_whole (is_callee x.program c && are_passed x.program x.tree (taken_by x.program c) all) (given_by (results_of x.program.functions) c) h

    whole_in : (l : LvalueTree) → is_place x.program x.tree l ≡ true → IsWholeIn x l
    whole_in (Named o of) h = tt
    whole_in (Target of p) h = whole_of p (scalar_by (K p) (Pointer of) h refl)
    whole_in (Element of p i) h = tt
    whole_in (ElementFrom of i p) h = tt
