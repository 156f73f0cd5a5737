-- A variable is not of the type of what it points to: what a scalar is assigned stores nothing where that scalar points.
use Rattle.std.proofs.Common.{◌≡◌, ℕ, Option, Some, None, Bool, true, refl, sym, ap, ◌∙◌, subst, slice_get}
use Rattle.std.specs.Prelude.{◌&&◌, if◌then◌else◌}
use Rattle.c_tree.specs.declared.types.IntegerType.{IntegerType}
use Rattle.c_tree.specs.declared.object_type.Scalar.{Scalar}
use Rattle.c_tree.specs.declared.object_type.ObjectType.{ObjectType}
use Rattle.c_tree.specs.declared.object_type.ObjectType.TheVariants as of-object
use Rattle.c_tree.specs.declared.object_type.ValueType.{ValueType}
use Rattle.c_tree.specs.declared.object_type.ValueType.TheVariants.{Void, Integer, Pointer}
use Rattle.c_tree.specs.declared.object_type.Object.TheVariants as object
use Rattle.c_tree.specs.TypedExpressions.{RvalueTree, LvalueTree, Constant, Null, Load, Decay, AddressOf, Convert, Discard, Signed, Not, Arithmetic, Compare, ComparePointers, Move, MoveFrom, Difference, And, Or, Conditional, Comma, Assign, Update, UpdatePointer, Step, StepPointer, Call, Named, Target, Element, ElementFrom}
use Rattle.c_tree.specs.Programs.{AutomaticTree}
use Rattle.c_type_rules.specs.Integers.{promoted}
use Rattle.c_type_rules.specs.Types.{loaded_type, same_integer}
use Rattle.c_type_rules.specs.ValueTypes.{object_type, decayed}
use Rattle.c_type_laws.specs.Kind.{Kind, Wrong, Of}
use Rattle.c_type_laws.specs.Kinds.{of_if, is_promoted, is_of, is_typed, is_scalar_type, is_integer, is_counted, is_operand, holds_scalar, holds_integer, holds_pointer, is_array, automatic_is, is_variable}
use Rattle.c_type_laws.specs.Expressions.{kind_of, is_place}
use Rattle.graph_build_names.specs.Names.{scalar_of, scalar_named}
use Rattle.graph_build_runs.proofs.Leads.{Setting, names_in}
use Rattle.graph_build_runs.proofs.Kept.{ScalarsFirst}
use Rattle.graph_build_runs.proofs.Noting.{ScalarsApart}
use Rattle.graph_build_runs.proofs.Later.{some_same}
use Rattle.graph_build_runs.proofs.Types.{object_is, value_is}
use Rattle.graph_build_runs.proofs.Operands.{IsFreeOf, Apart, ApartIn}
use Rattle.graph_build_runs.proofs.Shapes.{fits_of, kind_by, typed_of, two_true, three_true, four_true, any_integer, loaded_scalar, array_of, pointer_object, if_typed}
use Rattle.graph_build_runs.proofs.NamedPlaces.{no_array, no_itself, PointsBy, place_named}

-- what a scalar is assigned: a number, a pointer of its type, or what comes from a pointer to an array
data Aim (own : Scalar) : Kind → Type 0 where
  number : {j : Kind} → (t : IntegerType) → loaded_type own ≡ Integer t → Aim own j
  pointer : {j : Kind} → (of : ObjectType) → loaded_type own ≡ Pointer of → is_of j (Pointer of) ≡ true → Aim own j
  array : {j : Kind} → (el : Scalar) (count : ℕ) → is_of j (Pointer (of-object.Array el count)) ≡ true → Aim own j

through : (own : Scalar) (u : ValueType) (j : Kind) → is_of j u ≡ true → Aim own (Of u) → Aim own j
through own u j h (number t e) = number t e
through own u j h (pointer of e is) = pointer of e (subst (λ z. is_of j z ≡ true) (value_is u (Pointer of) is) h)
through own u j h (array el count is) = array el count (subst (λ z. is_of j z ≡ true) (value_is u (Pointer (of-object.Array el count)) is) h)

by_integer : (own : Scalar) (u : IntegerType) (j : Kind) → Aim own (Of (Integer u)) → Aim own j
by_integer own u j (number t e) = number t e
by_integer own u j (pointer of e is) = cc
by_integer own u j (array el count is) = cc

-- what is assigned that stores a value is not stored where the scalar points
elsewhere : (own s : Scalar) → Aim own (Of (loaded_type s)) → loaded_type own ≡ Pointer (of-object.Scalar s) → ⊥
elsewhere own s (number t e) h = clash (sym e ∙ h)
  where
    clash : Integer t ≡ Pointer (of-object.Scalar s) → ⊥
    clash h = cc
elsewhere own s (pointer of e is) h = no_itself s (value_is (loaded_type s) (Pointer of) is ∙ sym e ∙ h)
elsewhere own s (array el count is) h = no_array s el count (value_is (loaded_type s) (Pointer (of-object.Array el count)) is)

module _ (x : Setting) (low : ScalarsFirst x) (scalars : ScalarsApart x) (v k : ℕ) (named : scalar_of (names_in x) v ≡ Some k) (a : AutomaticTree) (is : slice_get x.program.automatics v ≡ Some a) (own : Scalar) (one : a.of ≡ of-object.Scalar own) where
  abbrev K : RvalueTree → Kind
  K e = kind_of x.program x.tree e

  abbrev P : LvalueTree → Bool
  P l = is_place x.program x.tree l

  is_own : (of : ObjectType) → PointsBy x k of → loaded_type own ≡ Pointer of
  is_own of p =
      let same : p.variable ≡ v = scalars.one p.variable v k p.named named in
      let declared : p.declared ≡ a = some_same (sym p.is ∙ ap (slice_get x.program.automatics) same ∙ is) in
      subst (λ z. loaded_type z ≡ Pointer of) (same_scalar (sym p.one ∙ ap (λ z. z.of) declared ∙ one)) p.points
    where
      same_scalar : {s r : Scalar} → of-object.Scalar s ≡ of-object.Scalar r → s ≡ r
      same_scalar h = cc

  free : (l : LvalueTree) (s : Scalar) → P l ≡ true → object_type l ≡ of-object.Scalar s → Aim own (Of (loaded_type s)) → IsFreeOf x k l
  free l s h of aim t size e = elsewhere own s aim (is_own (object_type l) (place_named x low l t k size (low v k named) h e) ∙ ap Pointer of)

  kind_aim : (b : Bool) (u : ValueType) → b ≡ true → Aim own (of_if b u) → Aim own (Of u)
  kind_aim b u h aim = subst (Aim own) (kind_by b u h) aim

  either_aim : (b : Bool) (j : Kind) → b ≡ true → Aim own (if b then j else Wrong) → Aim own j
  either_aim b j h aim = subst (λ z. Aim own (if z then j else Wrong)) h aim

  mutual
    -- What is assigned to a scalar stores nothing where that scalar points.
    apart : (e : RvalueTree) → is_typed (K e) ≡ true → Aim own (K e) → Apart x k e
    apart (Constant z t) h aim = tt
    apart Null h aim = tt
    apart (Load s l) h aim = tt
    apart (Decay l) h aim =
        let c = two_true (is_array (object_type l)) (P l) (fits_of (is_array (object_type l) && P l) (decayed (object_type l)) h) in
        let o = array_of (object_type l) c.0 in
        apart_in l c.1 (λ j is. array o.0 o.1 (subst (λ z. is_of j (Pointer z) ≡ true) o.2 is))
    apart (AddressOf l) h aim =
        let c = fits_of (P l) (Pointer (object_type l)) h in
        apart_in l c (λ j is. through own (Pointer (object_type l)) j is (kind_aim (P l) (Pointer (object_type l)) c aim))
    apart (Convert t e) h aim =
        let b = fits_of (is_integer (K e)) (Integer t) h in
        let c = any_integer (K e) b in
        apart e (subst (λ z. is_typed z ≡ true) (sym c.1) refl) (by_integer own t (K e) (kind_aim (is_integer (K e)) (Integer t) b aim))
    apart (Discard e) h aim = tt
    apart (Signed o t e) h aim =
        let b = fits_of (is_promoted t && is_of (K e) (Integer t)) (Integer t) h in
        let c = two_true (is_promoted t) (is_of (K e) (Integer t)) b in
        apart e (typed_of (K e) (Integer t) c.1) (by_integer own t (K e) (kind_aim (is_promoted t && is_of (K e) (Integer t)) (Integer t) b aim))
    apart (Not e) h aim = tt
    apart (Arithmetic o t a b) h aim = tt
    apart (Compare o t a b) h aim = tt
    apart (ComparePointers o a b) h aim = tt
    apart (Move d of a b) h aim = tt
    apart (MoveFrom b of a) h aim = tt
    apart (Difference of a b) h aim = tt
    apart (And a b) h aim = tt
    apart (Or a b) h aim = tt
    apart (Conditional c a b) h aim = tt
    apart (Comma a b) h aim = let c = if_typed (is_typed (K a)) (K b) h in apart b c.1 (either_aim (is_typed (K a)) (K b) c.0 aim)
    apart (Assign s l e) h aim =
        let fits = holds_scalar (object_type l) s && P l && is_of (K e) (loaded_type s) in
        let b = fits_of fits (loaded_type s) h in
        let c = three_true (holds_scalar (object_type l) s) (P l) (is_of (K e) (loaded_type s)) b in
        let it = kind_aim fits (loaded_type s) b aim in
        (free l s c.1 (object_is (object_type l) (of-object.Scalar s) c.0) it, apart e (typed_of (K e) (loaded_type s) c.2) (through own (loaded_type s) (K e) c.2 it))
    apart (Update o t u l e) h aim =
        let fits = holds_integer (object_type l) t && is_promoted u && P l && is_operand o u (K e) in
        let b = fits_of fits (Integer t) h in
        let c = four_true (holds_integer (object_type l) t) (is_promoted u) (P l) (is_operand o u (K e)) b in
        free l (record { base = t; stars = 0 }) c.2 (object_is (object_type l) (of-object.Scalar (record { base = t; stars = 0 })) c.0) (kind_aim fits (Integer t) b aim)
    apart (UpdatePointer d of l e) h aim =
        let fits = holds_pointer (object_type l) of && P l && is_counted (K e) in
        let b = fits_of fits (Pointer of) h in
        let c = three_true (holds_pointer (object_type l) of) (P l) (is_counted (K e)) b in
        let o = pointer_object (object_type l) of c.0 in
        free l o.0 c.1 o.1 (subst (λ z. Aim own (Of z)) (sym o.2) (kind_aim fits (Pointer of) b aim))
    apart (Step d g t u l) h aim =
        let fits = holds_integer (object_type l) t && same_integer u (promoted t) && P l in
        let b = fits_of fits (Integer t) h in
        let c = three_true (holds_integer (object_type l) t) (same_integer u (promoted t)) (P l) b in
        free l (record { base = t; stars = 0 }) c.2 (object_is (object_type l) (of-object.Scalar (record { base = t; stars = 0 })) c.0) (kind_aim fits (Integer t) b aim)
    apart (StepPointer d g of l) h aim =
        let fits = holds_pointer (object_type l) of && P l in
        let b = fits_of fits (Pointer of) h in
        let c = two_true (holds_pointer (object_type l) of) (P l) b in
        let o = pointer_object (object_type l) of c.0 in
        free l o.0 c.1 o.1 (subst (λ z. Aim own (Of z)) (sym o.2) (kind_aim fits (Pointer of) b aim))
    apart (Call c all) h aim = tt

    apart_in : (l : LvalueTree) → P l ≡ true → ((j : Kind) → is_of j (Pointer (object_type l)) ≡ true → Aim own j) → ApartIn x k l
    apart_in (Named o of) h aim = tt
    apart_in (Target of p) h aim = apart p (typed_of (K p) (Pointer of) h) (aim (K p) h)
    apart_in (Element of p i) h aim = tt
    apart_in (ElementFrom of i p) h aim = tt

  -- a value of the scalar's type is apart from where the scalar points
  pub assigned_apart : (e : RvalueTree) → is_of (K e) (loaded_type own) ≡ true → Apart x k e
  assigned_apart e h = apart e (typed_of (K e) (loaded_type own) h) (by (loaded_type own) refl h)
    where
      by : (u : ValueType) → loaded_type own ≡ u → is_of (K e) u ≡ true → Aim own (K e)
      by Void at q = let no : is_scalar_type Void ≡ true = subst (λ z. is_scalar_type z ≡ true) at (loaded_scalar x own) in cc
      by (Integer t) at q = number t at
      by (Pointer of) at q = pointer of at q

-- What a scalar is assigned that an lvalue names stores nothing where that scalar points.
pub place_apart : (x : Setting) → ScalarsFirst x → ScalarsApart x → (l : LvalueTree) (s : Scalar) (e : RvalueTree) → is_place x.program x.tree l ≡ true → object_type l ≡ of-object.Scalar s → is_of (kind_of x.program x.tree e) (loaded_type s) ≡ true → (k : ℕ) → scalar_named (names_in x) l ≡ Some k → Apart x k e
place_apart x low scalars (Named (object.Automatic v) o) s e h one fits k named = by (slice_get x.program.automatics v) refl (two_true (is_variable x.tree v) (automatic_is (slice_get x.program.automatics v) o) h).1
  where
    by : (r : Option AutomaticTree) → slice_get x.program.automatics v ≡ r → automatic_is r o ≡ true → Apart x k e
    by None at q = cc
    by (Some a) at q = assigned_apart x low scalars v k named a at s (object_is a.of o q ∙ one) e fits
place_apart x low scalars (Named (object.Static i) o) s e h one fits k named = cc
place_apart x low scalars (Named (object.Literal i) o) s e h one fits k named = cc
place_apart x low scalars (Target o p) s e h one fits k named = cc
place_apart x low scalars (Element o p i) s e h one fits k named = cc
place_apart x low scalars (ElementFrom o i p) s e h one fits k named = cc
