-- What assignments, `++` and `--` make of well typed operands is well typed.
use Rattle.std.proofs.Common.{◌≡◌, Bool, true, false, ◌&&◌, Some, refl, ap, ◌∙◌, subst}
use Rattle.std.specs.Prelude.{◌==◌, if◌then◌else◌}
use Rattle.c_tree.specs.declared.types.IntegerType.{IntegerType}
use Rattle.c_tree.specs.declared.object_type.Scalar.{Scalar}
use Rattle.c_tree.specs.declared.object_type.ObjectType.{ObjectType}
use Rattle.c_tree.specs.declared.object_type.ObjectType.TheVariants as object
use Rattle.c_tree.specs.declared.object_type.ValueType.{ValueType}
use Rattle.c_tree.specs.declared.object_type.ValueType.TheVariants.{Void, Integer, Pointer}
use Rattle.c_tree.specs.declared.typed_expression.Arithmetic.{Arithmetic}
use Rattle.c_tree.specs.declared.typed_expression.Direction.{Direction}
use Rattle.c_tree.specs.declared.typed_expression.Given.{Given}
use Rattle.c_tree.specs.TypedExpressions.{LvalueTree, Step, StepPointer}
use Rattle.c_tree.specs.Programs.{TypedFunctionTree, ProgramTree}
use Rattle.c_type_rules.specs.Integers.{common, promoted}
use Rattle.c_type_rules.specs.Types.{loaded_type, pointed_to, same_integer, same_value}
use Rattle.c_type_values.specs.Values.{ValueTree, MeantTree, IsObject, IsValue, meant_type, to_integer}
use Rattle.c_type_values.specs.Operations.{is_shift}
use Rattle.c_type_values.specs.Writing.{is_modifiable, stepped, simple_assignment, is_updatable, update_type, integer_updated, pointer_updated, updated_by, compound_assignment}
use Rattle.c_type_rules.specs.ValueTypes.{object_type}
use Rattle.c_type_laws.specs.Kinds.{is_promoted, is_of, is_counted, is_operand, holds_scalar, holds_integer, holds_pointer}
use Rattle.c_type_laws.specs.Expressions.{kind_of, is_place}
use Rattle.c_source.specs.Values.{IsTyped, Designates, Means}
use Rattle.c_source.proofs.Same.{both, all_three, all_four, integer_itself, scalar_itself, value_itself}
use Rattle.c_source.proofs.Constants.{varies_is}
use Rattle.c_source.proofs.Fitting.{given_kind, promoted_once, common_promoted, loaded_elements}
use Rattle.c_source.proofs.Values.{counted_typed, operand_typed}

-- an object that holds an integer, and one that holds a pointer
own_integer : (o : ObjectType) (s : Scalar) → o ≡ object.Scalar s → (s.stars == 0) ≡ true → holds_integer o s.base ≡ true
own_integer o s e h = rw e (both (same_integer s.base s.base) (s.stars == 0) (integer_itself s.base) h)

own_pointer : (o : ObjectType) (s : Scalar) → o ≡ object.Scalar s → (s.stars == 0) ≡ false → holds_pointer o (object.Scalar (pointed_to s)) ≡ true
own_pointer o s e h =
    rw e (ap (λ b. same_value (if b then Integer s.base else Pointer (object.Scalar (pointed_to s))) (Pointer (object.Scalar (pointed_to s)))) h ∙ value_itself (Pointer (object.Scalar (pointed_to s))))

-- an operator that assigns takes no value of another type
void_right : (o : Arithmetic) (t : ValueType) → is_updatable o t Void ≡ false
void_right o Void = refl
void_right o (Integer t) = refl
void_right o (Pointer q) = refl

pointer_right : (o : Arithmetic) (t : ValueType) (r : ObjectType) → is_updatable o t (Pointer r) ≡ false
pointer_right o Void r = refl
pointer_right o (Integer t) r = refl
pointer_right o (Pointer q) r = refl

module _ (p : ProgramTree) (f : TypedFunctionTree) where
  -- `++` and `--`
  pub stepped_typed : (d : Direction) (g : Given) (m : MeantTree) → is_modifiable m ≡ true → Means p f m → IsTyped p f (stepped d g m)
  stepped_typed d g (IsValue v) fine h = cc
  stepped_typed d g (IsObject (object.Array e n) l k) fine h = cc
  stepped_typed d g (IsObject (object.Scalar s) l k) fine h = record { is = by (s.stars == 0) refl; elements = loaded_elements s; constant = varies_is p f (loaded_type s) }
    where
      by : (b : Bool) → (s.stars == 0) ≡ b → is_of (kind_of p f (if b then Step d g s.base (promoted s.base) l else StepPointer d g (object.Scalar (pointed_to s)) l)) (if b then Integer s.base else Pointer (object.Scalar (pointed_to s))) ≡ true
      by true z =
          given_kind (holds_integer (object_type l) s.base && same_integer (promoted s.base) (promoted s.base) && is_place p f l) (Integer s.base)
          (all_three (holds_integer (object_type l) s.base) (same_integer (promoted s.base) (promoted s.base)) (is_place p f l) (own_integer (object_type l) s h.0.is z) (integer_itself (promoted s.base)) h.0.place)
      by false z =
          given_kind (holds_pointer (object_type l) (object.Scalar (pointed_to s)) && is_place p f l) (Pointer (object.Scalar (pointed_to s)))
          (both (holds_pointer (object_type l) (object.Scalar (pointed_to s))) (is_place p f l) (own_pointer (object_type l) s h.0.is z) h.0.place)

  -- `a=b`
  pub assigned_typed : (m : MeantTree) (v : ValueTree) → is_modifiable m ≡ true → Means p f m → is_of (kind_of p f v.tree) (meant_type m) ≡ true → IsTyped p f (simple_assignment m (Some v))
  assigned_typed (IsValue w) v fine h g = cc
  assigned_typed (IsObject (object.Array e n) l k) v fine h g = cc
  assigned_typed (IsObject (object.Scalar s) l k) v fine h g =
      record {
        is = given_kind (holds_scalar (object_type l) s && is_place p f l && is_of (kind_of p f v.tree) (loaded_type s)) (loaded_type s)
            (all_three (holds_scalar (object_type l) s) (is_place p f l) (is_of (kind_of p f v.tree) (loaded_type s)) (rw h.0.is (scalar_itself s)) h.0.place g);
        elements = loaded_elements s;
        constant = varies_is p f (loaded_type s);
      }

  -- the type that an operator that assigns calculates in
  update_promoted : (o : Arithmetic) (t u : IntegerType) → is_promoted (update_type o t u) ≡ true
  update_promoted o t u = by (is_shift o)
    where
      by : (b : Bool) → is_promoted (if b then promoted t else common t u) ≡ true
      by true = promoted_once t
      by false = common_promoted t u

  integer_updated_typed : (o : Arithmetic) (s : Scalar) (u : IntegerType) (l : LvalueTree) (v : ValueTree) → Designates p f l (object.Scalar s) → (s.stars == 0) ≡ true → IsTyped p f v → v.of ≡ Integer u
      → is_of (kind_of p f (integer_updated o s.base u l v)) (Integer s.base) ≡ true
  unfolding integer_updated
  integer_updated_typed o s u l v h z g e =
      let k = kind_of p f (to_integer (if is_shift o then promoted u else common s.base u) v).tree in
      given_kind (holds_integer (object_type l) s.base && is_promoted (update_type o s.base u) && is_place p f l && is_operand o (update_type o s.base u) k) (Integer s.base)
      (all_four (holds_integer (object_type l) s.base) (is_promoted (update_type o s.base u)) (is_place p f l) (is_operand o (update_type o s.base u) k)
      (own_integer (object_type l) s h.is z) (update_promoted o s.base u) h.place (operand_typed p f o s.base u v g e))

  pointer_updated_typed : (o : Arithmetic) (s : Scalar) (u : IntegerType) (l : LvalueTree) (v : ValueTree) → Designates p f l (object.Scalar s) → (s.stars == 0) ≡ false → IsTyped p f v → v.of ≡ Integer u
      → is_of (kind_of p f (pointer_updated o (pointed_to s) u l v)) (Pointer (object.Scalar (pointed_to s))) ≡ true
  pointer_updated_typed o s u l v h z g e =
      let k = kind_of p f (to_integer (promoted u) v).tree in
      given_kind (holds_pointer (object_type l) (object.Scalar (pointed_to s)) && is_place p f l && is_counted k) (Pointer (object.Scalar (pointed_to s)))
      (all_three (holds_pointer (object_type l) (object.Scalar (pointed_to s))) (is_place p f l) (is_counted k) (own_pointer (object_type l) s h.is z) h.place (counted_typed p f u v g e))

  -- `a+=b`
  pub updated_typed : (o : Arithmetic) (m : MeantTree) (v : ValueTree) → is_modifiable m ≡ true → is_updatable o (meant_type m) v.of ≡ true → Means p f m → IsTyped p f v → IsTyped p f (compound_assignment o m v)
  updated_typed o (IsValue w) v fine fit h g = cc
  updated_typed o (IsObject (object.Array e n) l k) v fine fit h g = cc
  updated_typed o (IsObject (object.Scalar s) l k) v fine fit h g = by v.of refl
    where
      of_scalar : (u : IntegerType) → v.of ≡ Integer u → (b : Bool) → (s.stars == 0) ≡ b
          → is_of (kind_of p f (if b then integer_updated o s.base u l v else pointer_updated o (pointed_to s) u l v)) (if b then Integer s.base else Pointer (object.Scalar (pointed_to s))) ≡ true
      of_scalar u e true z = integer_updated_typed o s u l v h.0 z g e
      of_scalar u e false z = pointer_updated_typed o s u l v h.0 z g e

      by : (t : ValueType) → v.of ≡ t → IsTyped p f (updated_by o (IsObject (object.Scalar s) l k) t v)
      by (Integer u) e = record { is = of_scalar u e (s.stars == 0) refl; elements = loaded_elements s; constant = varies_is p f (loaded_type s) }
      by Void e = let no : is_updatable o (loaded_type s) Void ≡ true = subst (λ q. is_updatable o (loaded_type s) q ≡ true) e fit in let other = void_right o (loaded_type s) in cc
      by (Pointer r) e = let no : is_updatable o (loaded_type s) (Pointer r) ≡ true = subst (λ q. is_updatable o (loaded_type s) q ≡ true) e fit in let other = pointer_right o (loaded_type s) r in cc
