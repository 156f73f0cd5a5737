-- What operators, conversions and addresses make of well typed values is well typed.
use Rattle.std.proofs.Common.{◌≡◌, Bool, true, false, ◌&&◌, Some, None, refl, sym, ap, ◌∙◌, subst}
use Rattle.std.specs.Prelude.{if◌then◌else◌}
use Rattle.std.specs.Option.{option_map}
use Rattle.c_tree.specs.declared.types.IntegerType.{IntegerType}
use Rattle.c_tree.specs.declared.types.IntegerType.TheVariants.{Int}
use Rattle.c_tree.specs.declared.object_type.ObjectType.{ObjectType}
use Rattle.c_tree.specs.declared.object_type.ObjectType.TheVariants as object
use Rattle.c_tree.specs.declared.object_type.ValueType.{ValueType}
use Rattle.c_tree.specs.declared.object_type.ValueType.TheVariants.{Void, Integer, Pointer}
use Rattle.c_tree.specs.declared.typed_expression.Arithmetic as declared-arithmetic
use Rattle.c_tree.specs.declared.typed_expression.Arithmetic.TheVariants as arithmetic
use Rattle.c_tree.specs.declared.typed_expression.Comparison.{Comparison}
use Rattle.c_tree.specs.declared.typed_expression.Sign.{Sign}
use Rattle.c_tree.specs.declared.typed_expression.Direction.{Direction}
use Rattle.c_tree.specs.TypedExpressions.{Convert, Not, And, Or}
use Rattle.c_tree.specs.Programs.{TypedFunctionTree, ProgramTree}
use Rattle.c_type_rules.specs.declared.constancy.Constancy.{Constancy}
use Rattle.c_type_rules.specs.Integers.{common, promoted}
use Rattle.c_type_rules.specs.Types.{loaded_type, same_object, same_value}
use Rattle.c_type_rules.specs.declared.constancy.Constancy.TheVariants.{Varies}
use Rattle.c_type_rules.specs.Constancies.{converted_constant, not_constant, and_constant, or_constant}
use Rattle.c_type_values.specs.declared.operation.Operation as declared-operation
use Rattle.c_type_values.specs.declared.operation.Operation.TheVariants.{Calculates, Compares, Both, Either}
use Rattle.c_type_values.specs.Values.{ValueTree, MeantTree, IsObject, IsValue, as_value, is_integer_of, to_integer, null, converted_from, converted_value}
use Rattle.c_type_values.specs.Operations as operation
use Rattle.c_type_values.specs.Operations.{is_shift, is_equality, signed_as, signed_value, negated, discarded, in_types, arithmetic_value, moved_pointer, moved_from, pointer_sum, moved_behind, difference_by, calculated_as, calculated_value, comparison_of_pointers, integers_compared, compared_as, compared_value, logical_and as both_values, logical_or, combined, sequenced, conditional_value, chosen_integer, chosen_as, conditional_meaning}
use Rattle.c_type_values.specs.Pointers.{address, target_of, dereferenced, elements, subscript}
use Rattle.c_type_rules.specs.ValueTypes.{object_type}
use Rattle.c_type_laws.specs.Kind.{Kind, NullPointer, Of}
use Rattle.c_type_laws.specs.Kinds.{is_promoted, is_of, is_typed, is_scalar, is_pointer, is_integer, is_counted, joined, is_operand, holds_scalar, is_array}
use Rattle.c_type_laws.specs.Expressions.{kind_of, is_place}
use Rattle.c_source.specs.Findings.{HoldsOf}
use Rattle.c_source.specs.Addresses.{is_number, is_constant_of}
use Rattle.c_source.specs.Values.{leads_to_elements, IsTyped, Means}
use Rattle.c_source.proofs.Same.{two_true, both, all_three, integer_is, object_is, value_is, scalar_itself}
use Rattle.c_source.proofs.Constants.{converted_number, sign_number, not_number, arithmetic_number, comparison_number, and_number, or_number, conditional_number, varies_is, element_leads}
use Rattle.c_source.proofs.Fitting.{of_if_true, given_kind, integer_kind, typed_kind, scalar_kind, pointer_kind, joined_kinds, promoted_once, common_promoted, counted_kind, integer_in_kind, of_integer_kind, operand_by, loaded_elements}

module _ (p : ProgramTree) (f : TypedFunctionTree) where
  -- the kind of a value's tree
  abbrev kind : ValueTree → Kind
  kind v = kind_of p f v.tree

  -- a value of an integer type
  pub of_integer : (v : ValueTree) (t : IntegerType) → IsTyped p f v → v.of ≡ Integer t → kind_of p f v.tree ≡ Of (Integer t)
  of_integer v t h e = integer_kind (kind v) t (subst (λ q. is_of (kind v) q ≡ true) e h.is)

  -- a value of a pointer type
  pub of_pointer : (v : ValueTree) (o : ObjectType) → IsTyped p f v → v.of ≡ Pointer o → is_of (kind_of p f v.tree) (Pointer o) ≡ true
  of_pointer v o h e = subst (λ q. is_of (kind v) q ≡ true) e h.is

  -- an integer converted to a type
  pub to_integer_kind : (t u : IntegerType) (v : ValueTree) → IsTyped p f v → v.of ≡ Integer u → kind_of p f (to_integer t v).tree ≡ Of (Integer t)
  unfolding to_integer
  to_integer_kind t u v h e = by (is_integer_of v.of t) refl
    where
      by : (b : Bool) → is_integer_of v.of t ≡ b → kind_of p f (if b then v else record { of = Integer t; tree = Convert t v.tree; constant = converted_constant t v.constant }).tree ≡ Of (Integer t)
      by true is = let same : u ≡ t = integer_is u t (subst (λ q. is_integer_of q t ≡ true) e is) in subst (λ w. kind v ≡ Of (Integer w)) same (of_integer v u h e)
      by false is = of_if_true (is_integer (kind v)) (Integer t) (integer_in_kind (kind v) u (of_integer v u h e))

  -- an integer is no address
  number_of_integer : (v : ValueTree) (t : IntegerType) → IsTyped p f v → v.of ≡ Integer t → is_number v.constant ≡ true
  number_of_integer v t h e = subst (λ q. is_constant_of p q v.constant ≡ true) e h.constant

  to_integer_number : (t u : IntegerType) (v : ValueTree) → IsTyped p f v → v.of ≡ Integer u → is_number (to_integer t v).constant ≡ true
  unfolding to_integer
  to_integer_number t u v h e = by (is_integer_of v.of t)
    where
      by : (b : Bool) → is_number (if b then v else record { of = Integer t; tree = Convert t v.tree; constant = converted_constant t v.constant }).constant ≡ true
      by true = number_of_integer v u h e
      by false = converted_number t v.constant (number_of_integer v u h e)

  -- the value of what an expression means
  pub as_value_typed : (m : MeantTree) → Means p f m → IsTyped p f (as_value m)
  as_value_typed (IsValue v) h = h
  as_value_typed (IsObject (object.Scalar s) l k) h =
      record {
        is = given_kind (holds_scalar (object_type l) s && is_place p f l) (loaded_type s) (both (holds_scalar (object_type l) s) (is_place p f l) (rw h.0.is (scalar_itself s)) h.0.place);
        elements = loaded_elements s;
        constant = varies_is p f (loaded_type s);
      }
  as_value_typed (IsObject (object.Array element count) l k) h =
      record {
        is = rw (h.0.is) (given_kind (is_array (object.Array element count) && is_place p f l) (Pointer (object.Scalar element)) (both (is_array (object.Array element count)) (is_place p f l) h.0.elements h.0.place));
        elements = refl;
        constant = h.1;
      }

  -- `&a`
  pub address_typed : (m : MeantTree) → Means p f m → HoldsOf (Means p f) (option_map IsValue (address m))
  address_typed (IsValue v) h = tt
  address_typed (IsObject of l k) h = record { is = rw h.0.is (given_kind (is_place p f l) (Pointer of) h.0.place); elements = h.0.elements; constant = h.1 }

  -- `*a`
  pub dereferenced_typed : (v : ValueTree) → IsTyped p f v → HoldsOf (Means p f) (dereferenced v)
  dereferenced_typed v h = by v.of refl
    where
      by : (t : ValueType) → v.of ≡ t → HoldsOf (Means p f) (target_of t v.tree)
      by Void e = tt
      by (Integer t) e = tt
      by (Pointer of) e = (record { place = of_pointer v of h e; is = refl; elements = ap leads_to_elements (sym e) ∙ h.elements }, refl)

  -- an index
  pub counted_typed : (t : IntegerType) (v : ValueTree) → IsTyped p f v → v.of ≡ Integer t → is_counted (kind_of p f (to_integer (promoted t) v).tree) ≡ true
  counted_typed t v h e = counted_kind (kind_of p f (to_integer (promoted t) v).tree) (promoted t) (to_integer_kind (promoted t) t v h e) (promoted_once t)

  -- `a[b]`
  pub element_typed : (a b : ValueTree) → IsTyped p f a → IsTyped p f b → HoldsOf (Means p f) (subscript a b)
  element_typed a b h g = by a.of b.of refl refl
    where
      by : (t u : ValueType) → a.of ≡ t → b.of ≡ u → HoldsOf (Means p f) (elements t u a b)
      by (Pointer of) (Integer t) e d = (
        record {
          place = both (is_of (kind a) (Pointer of)) (is_counted (kind_of p f (to_integer (promoted t) b).tree)) (of_pointer a of h e) (counted_typed t b g d);
          is = refl;
          elements = ap leads_to_elements (sym e) ∙ h.elements;
        },
        element_leads p f a.tree of (to_integer (promoted t) b).constant (of_pointer a of h e),
      )
      by (Integer t) (Pointer of) e d = (
        record {
          place = both (is_counted (kind_of p f (to_integer (promoted t) a).tree)) (is_of (kind b) (Pointer of)) (counted_typed t a h e) (of_pointer b of g d);
          is = refl;
          elements = ap leads_to_elements (sym d) ∙ g.elements;
        },
        refl,
      )
      by Void u e d = tt
      by (Integer t) Void e d = tt
      by (Integer t) (Integer u) e d = tt
      by (Pointer of) Void e d = tt
      by (Pointer of) (Pointer o) e d = tt

  -- `+a`, `-a`, `~a`
  pub signed_typed : (o : Sign) (v : ValueTree) → IsTyped p f v → HoldsOf (Means p f) (option_map IsValue (signed_value o v))
  signed_typed o v h = by v.of refl
    where
      by : (t : ValueType) → v.of ≡ t → HoldsOf (Means p f) (option_map IsValue (signed_as t o v))
      by Void e = tt
      by (Pointer of) e = tt
      by (Integer t) e =
          record {
            is = given_kind (is_promoted (promoted t) && is_of (kind_of p f (to_integer (promoted t) v).tree) (Integer (promoted t))) (Integer (promoted t))
                (both (is_promoted (promoted t)) (is_of (kind_of p f (to_integer (promoted t) v).tree) (Integer (promoted t))) (promoted_once t) (of_integer_kind (kind_of p f (to_integer (promoted t) v).tree) (promoted t) (to_integer_kind (promoted t) t v h e)));
            elements = refl;
            constant = sign_number o (promoted t) (to_integer (promoted t) v).constant (to_integer_number (promoted t) t v h e);
          }

  -- `!a`
  pub negated_typed : (v : ValueTree) → IsTyped p f v → HoldsOf (Means p f) (option_map IsValue (negated v))
  negated_typed v h = by (operation.is_scalar v.of) refl
    where
      by : (b : Bool) → operation.is_scalar v.of ≡ b → HoldsOf (Means p f) (option_map IsValue (if b then Some (record { of = Integer Int; tree = Not v.tree; constant = not_constant v.constant }) else None))
      by false e = tt
      by true e = record { is = given_kind (is_scalar (kind v)) (Integer Int) (scalar_kind (kind v) v.of h.is e); elements = refl; constant = not_number v.constant }

  -- `(void)a`
  pub discarded_typed : (v : ValueTree) → IsTyped p f v → IsTyped p f (discarded v)
  discarded_typed v h = record { is = given_kind (is_typed (kind v)) Void (typed_kind (kind v) v.of h.is); elements = refl; constant = refl }

  -- a cast of an integer
  pub cast_typed : (t u : IntegerType) (v : ValueTree) → IsTyped p f v → v.of ≡ Integer u → IsTyped p f (record { of = Integer t; tree = Convert t v.tree; constant = converted_constant t v.constant })
  cast_typed t u v h e = record { is = given_kind (is_integer (kind v)) (Integer t) (integer_in_kind (kind v) u (of_integer v u h e)); elements = refl; constant = converted_number t v.constant (number_of_integer v u h e) }

  -- arithmetic in a type
  in_types_typed : (o : declared-arithmetic.Arithmetic) (t : IntegerType) (a b : ValueTree) → is_promoted t ≡ true → kind_of p f a.tree ≡ Of (Integer t) → is_operand o t (kind_of p f b.tree) ≡ true → IsTyped p f (in_types o t a b)
  in_types_typed o t a b promoted_t h g =
      record {
        is = given_kind (is_promoted t && is_of (kind a) (Integer t) && is_operand o t (kind b)) (Integer t)
            (all_three (is_promoted t) (is_of (kind a) (Integer t)) (is_operand o t (kind b)) promoted_t (of_integer_kind (kind a) t h) g);
        elements = refl;
        constant = arithmetic_number o t a.constant b.constant;
      }

  -- the right operand of a shift, and of another operator
  shift_operand : (o : declared-arithmetic.Arithmetic) (t : IntegerType) (k : Kind) → is_shift o ≡ true → is_counted k ≡ true → is_operand o t k ≡ true
  shift_operand o t k s h = operand_by o t k ∙ ap (λ b. if b then is_counted k else is_of k (Integer t)) s ∙ h

  pub other_operand : (o : declared-arithmetic.Arithmetic) (t : IntegerType) (k : Kind) → is_shift o ≡ false → is_of k (Integer t) ≡ true → is_operand o t k ≡ true
  other_operand o t k s h = operand_by o t k ∙ ap (λ b. if b then is_counted k else is_of k (Integer t)) s ∙ h

  -- an operand of a type that is told by whether the operator is a shift
  pub operand_typed : (o : declared-arithmetic.Arithmetic) (t u : IntegerType) (v : ValueTree) → IsTyped p f v → v.of ≡ Integer u
      → is_operand o (if is_shift o then promoted t else common t u) (kind_of p f (to_integer (if is_shift o then promoted u else common t u) v).tree) ≡ true
  operand_typed o t u v h e = by (is_shift o) refl
    where
      by : (b : Bool) → is_shift o ≡ b → is_operand o (if b then promoted t else common t u) (kind_of p f (to_integer (if b then promoted u else common t u) v).tree) ≡ true
      by true s = shift_operand o (promoted t) (kind_of p f (to_integer (promoted u) v).tree) s (counted_typed u v h e)
      by false s = other_operand o (common t u) (kind_of p f (to_integer (common t u) v).tree) s (of_integer_kind (kind_of p f (to_integer (common t u) v).tree) (common t u) (to_integer_kind (common t u) u v h e))

  arithmetic_typed : (o : declared-arithmetic.Arithmetic) (t u : IntegerType) (a b : ValueTree) → IsTyped p f a → IsTyped p f b → a.of ≡ Integer t → b.of ≡ Integer u → IsTyped p f (arithmetic_value o t u a b)
  unfolding arithmetic_value
  arithmetic_typed o t u a b h g e d = by (is_shift o) refl
    where
      by : (s : Bool) → is_shift o ≡ s → IsTyped p f (if s then in_types o (promoted t) (to_integer (promoted t) a) (to_integer (promoted u) b) else in_types o (common t u) (to_integer (common t u) a) (to_integer (common t u) b))
      by true s =
          in_types_typed o (promoted t) (to_integer (promoted t) a) (to_integer (promoted u) b) (promoted_once t) (to_integer_kind (promoted t) t a h e)
          (shift_operand o (promoted t) (kind_of p f (to_integer (promoted u) b).tree) s (counted_typed u b g d))
      by false s =
          in_types_typed o (common t u) (to_integer (common t u) a) (to_integer (common t u) b) (common_promoted t u) (to_integer_kind (common t u) t a h e)
          (other_operand o (common t u) (kind_of p f (to_integer (common t u) b).tree) s (of_integer_kind (kind_of p f (to_integer (common t u) b).tree) (common t u) (to_integer_kind (common t u) u b g d)))

  -- a pointer moved by an integer
  moved_typed : (d : Direction) (o : ObjectType) (t : IntegerType) (a b : ValueTree) → IsTyped p f a → IsTyped p f b → a.of ≡ Pointer o → b.of ≡ Integer t → IsTyped p f (moved_pointer d o t a b)
  moved_typed d o t a b h g e c =
      record {
        is = given_kind (is_of (kind a) (Pointer o) && is_counted (kind_of p f (to_integer (promoted t) b).tree)) (Pointer o)
            (both (is_of (kind a) (Pointer o)) (is_counted (kind_of p f (to_integer (promoted t) b).tree)) (of_pointer a o h e) (counted_typed t b g c));
        elements = ap leads_to_elements (sym e) ∙ h.elements;
        constant = refl;
      }

  moved_from_typed : (o : ObjectType) (t : IntegerType) (a b : ValueTree) → IsTyped p f a → IsTyped p f b → a.of ≡ Integer t → b.of ≡ Pointer o → IsTyped p f (moved_from o t a b)
  moved_from_typed o t a b h g e c =
      record {
        is = given_kind (is_counted (kind_of p f (to_integer (promoted t) a).tree) && is_of (kind b) (Pointer o)) (Pointer o)
            (both (is_counted (kind_of p f (to_integer (promoted t) a).tree)) (is_of (kind b) (Pointer o)) (counted_typed t a h e) (of_pointer b o g c));
        elements = ap leads_to_elements (sym c) ∙ g.elements;
        constant = refl;
      }

  moved_by_typed : (q : declared-arithmetic.Arithmetic) (o : ObjectType) (t : IntegerType) (a b : ValueTree) → IsTyped p f a → IsTyped p f b → a.of ≡ Pointer o → b.of ≡ Integer t → HoldsOf (Means p f) (option_map IsValue (pointer_sum q o t a b))
  moved_by_typed arithmetic.Add o t a b h g e c = moved_typed _ o t a b h g e c
  moved_by_typed arithmetic.Subtract o t a b h g e c = moved_typed _ o t a b h g e c
  moved_by_typed _ o t a b h g e c = tt

  moved_behind_typed : (q : declared-arithmetic.Arithmetic) (o : ObjectType) (t : IntegerType) (a b : ValueTree) → IsTyped p f a → IsTyped p f b → a.of ≡ Integer t → b.of ≡ Pointer o
      → HoldsOf (Means p f) (option_map IsValue (moved_behind q o t a b))
  moved_behind_typed arithmetic.Add o t a b h g e c = moved_from_typed o t a b h g e c
  moved_behind_typed _ o t a b h g e c = tt

  -- two pointers of one type
  same_pointer : (a b : ValueTree) (o r : ObjectType) → IsTyped p f b → b.of ≡ Pointer r → same_object o r ≡ true → is_of (kind_of p f b.tree) (Pointer o) ≡ true
  same_pointer a b o r g d s = subst (λ q. is_of (kind b) (Pointer q) ≡ true) (sym (object_is o r s)) (of_pointer b r g d)

  difference_typed : (o r : ObjectType) (a b : ValueTree) → IsTyped p f a → IsTyped p f b → a.of ≡ Pointer o → b.of ≡ Pointer r → same_object o r ≡ true → IsTyped p f (operation.element_difference o a b)
  difference_typed o r a b h g e d s =
      record {
        is = given_kind (is_of (kind a) (Pointer o) && is_of (kind b) (Pointer o)) (Integer Int) (both (is_of (kind a) (Pointer o)) (is_of (kind b) (Pointer o)) (of_pointer a o h e) (same_pointer a b o r g d s));
        elements = refl;
        constant = refl;
      }

  difference_by_typed : (q : declared-arithmetic.Arithmetic) (o r : ObjectType) (a b : ValueTree) → IsTyped p f a → IsTyped p f b → a.of ≡ Pointer o → b.of ≡ Pointer r
      → HoldsOf (Means p f) (option_map IsValue (difference_by q o r a b))
  difference_by_typed arithmetic.Subtract o r a b h g e d = by (same_object o r) refl
    where
      by : (s : Bool) → same_object o r ≡ s → HoldsOf (Means p f) (option_map IsValue (if s then Some (operation.element_difference o a b) else None))
      by true s = difference_typed o r a b h g e d s
      by false s = tt
  difference_by_typed _ o r a b h g e d = tt

  pub calculated_typed : (o : declared-arithmetic.Arithmetic) (a b : ValueTree) → IsTyped p f a → IsTyped p f b → HoldsOf (Means p f) (option_map IsValue (calculated_value o a b))
  calculated_typed o a b h g = by a.of b.of refl refl
    where
      by : (t u : ValueType) → a.of ≡ t → b.of ≡ u → HoldsOf (Means p f) (option_map IsValue (calculated_as t u o a b))
      by (Integer t) (Integer u) e d = arithmetic_typed o t u a b h g e d
      by (Pointer r) (Integer t) e d = moved_by_typed o r t a b h g e d
      by (Integer t) (Pointer r) e d = moved_behind_typed o r t a b h g e d
      by (Pointer r) (Pointer q) e d = difference_by_typed o r q a b h g e d
      by Void u e d = tt
      by (Integer t) Void e d = tt
      by (Pointer r) Void e d = tt

  -- comparisons
  integers_typed : (o : Comparison) (t u : IntegerType) (a b : ValueTree) → IsTyped p f a → IsTyped p f b → a.of ≡ Integer t → b.of ≡ Integer u → IsTyped p f (integers_compared o (common t u) a b)
  integers_typed o t u a b h g e d =
      let k = kind_of p f (to_integer (common t u) a).tree in
      let j = kind_of p f (to_integer (common t u) b).tree in
      record {
        is = given_kind (is_promoted (common t u) && is_of k (Integer (common t u)) && is_of j (Integer (common t u))) (Integer Int)
            (all_three (is_promoted (common t u)) (is_of k (Integer (common t u))) (is_of j (Integer (common t u))) (common_promoted t u)
            (of_integer_kind k (common t u) (to_integer_kind (common t u) t a h e)) (of_integer_kind j (common t u) (to_integer_kind (common t u) u b g d)));
        elements = refl;
        constant = comparison_number o (to_integer (common t u) a).constant (to_integer (common t u) b).constant;
      }

  pointers_typed : (o : Comparison) (r : ObjectType) (a b : ValueTree) → is_of (kind_of p f a.tree) (Pointer r) ≡ true → is_of (kind_of p f b.tree) (Pointer r) ≡ true → IsTyped p f (comparison_of_pointers o a b)
  pointers_typed o r a b h g =
      record { is = given_kind (is_pointer (joined (kind a) (kind b))) (Integer Int) (pointer_kind (joined (kind a) (kind b)) r (joined_kinds (kind a) (kind b) (Pointer r) h g)); elements = refl; constant = refl }

  pub compared_typed : (o : Comparison) (a b : ValueTree) (az bz : Bool) → IsTyped p f a → IsTyped p f b → HoldsOf (Means p f) (option_map IsValue (compared_value o a b az bz))
  compared_typed o a b az bz h g = by a.of b.of refl refl
    where
      if_same : (r q : ObjectType) → a.of ≡ Pointer r → b.of ≡ Pointer q → (s : Bool) → same_object r q ≡ s → HoldsOf (Means p f) (option_map IsValue (if s then Some (comparison_of_pointers o a b) else None))
      if_same r q e d true s = pointers_typed o r a b (of_pointer a r h e) (same_pointer a b r q g d s)
      if_same r q e d false s = tt

      right_null : (r : ObjectType) → a.of ≡ Pointer r → (s : Bool) → HoldsOf (Means p f) (option_map IsValue (if s then Some (comparison_of_pointers o a (null a.of)) else None))
      right_null r e true = pointers_typed o r a (null a.of) (of_pointer a r h e) refl
      right_null r e false = tt

      left_null : (r : ObjectType) → b.of ≡ Pointer r → (s : Bool) → HoldsOf (Means p f) (option_map IsValue (if s then Some (comparison_of_pointers o (null b.of) b) else None))
      left_null r e true = pointers_typed o r (null b.of) b refl (of_pointer b r g e)
      left_null r e false = tt

      by : (t u : ValueType) → a.of ≡ t → b.of ≡ u → HoldsOf (Means p f) (option_map IsValue (compared_as t u o a b az bz))
      by (Integer t) (Integer u) e d = integers_typed o t u a b h g e d
      by (Pointer r) (Pointer q) e d = if_same r q e d (same_object r q) refl
      by (Pointer r) (Integer u) e d = right_null r e (is_equality o && bz)
      by (Integer t) (Pointer q) e d = left_null q d (is_equality o && az)
      by Void u e d = tt
      by (Integer t) Void e d = tt
      by (Pointer r) Void e d = tt

  -- `&&` and `||`
  scalars_typed : (a b : ValueTree) → IsTyped p f a → IsTyped p f b → operation.is_scalar a.of && operation.is_scalar b.of ≡ true → is_scalar (kind_of p f a.tree) && is_scalar (kind_of p f b.tree) ≡ true
  scalars_typed a b h g s =
      let c = two_true (operation.is_scalar a.of) (operation.is_scalar b.of) s in
      both (is_scalar (kind a)) (is_scalar (kind b)) (scalar_kind (kind a) a.of h.is c.0) (scalar_kind (kind b) b.of g.is c.1)

  pub both_typed : (a b : ValueTree) → IsTyped p f a → IsTyped p f b → HoldsOf (Means p f) (option_map IsValue (both_values a b))
  both_typed a b h g = by (operation.is_scalar a.of && operation.is_scalar b.of) refl
    where
      by : (s : Bool) → (operation.is_scalar a.of && operation.is_scalar b.of) ≡ s
          → HoldsOf (Means p f) (option_map IsValue (if s then Some (record { of = Integer Int; tree = And a.tree b.tree; constant = and_constant a.constant b.constant }) else None))
      by true s = record { is = given_kind (is_scalar (kind a) && is_scalar (kind b)) (Integer Int) (scalars_typed a b h g s); elements = refl; constant = and_number a.constant b.constant }
      by false s = tt

  pub either_typed : (a b : ValueTree) → IsTyped p f a → IsTyped p f b → HoldsOf (Means p f) (option_map IsValue (logical_or a b))
  either_typed a b h g = by (operation.is_scalar a.of && operation.is_scalar b.of) refl
    where
      by : (s : Bool) → (operation.is_scalar a.of && operation.is_scalar b.of) ≡ s
          → HoldsOf (Means p f) (option_map IsValue (if s then Some (record { of = Integer Int; tree = Or a.tree b.tree; constant = or_constant a.constant b.constant }) else None))
      by true s = record { is = given_kind (is_scalar (kind a) && is_scalar (kind b)) (Integer Int) (scalars_typed a b h g s); elements = refl; constant = or_number a.constant b.constant }
      by false s = tt

  -- an operator between two values
  pub combined_typed : (o : declared-operation.Operation) (a b : ValueTree) (az bz : Bool) → IsTyped p f a → IsTyped p f b → HoldsOf (Means p f) (option_map IsValue (combined o a b az bz))
  combined_typed (Calculates o) a b az bz h g = calculated_typed o a b h g
  combined_typed (Compares o) a b az bz h g = compared_typed o a b az bz h g
  combined_typed Both a b az bz h g = both_typed a b h g
  combined_typed Either a b az bz h g = either_typed a b h g

  -- `a,b`
  pub sequenced_typed : (a b : ValueTree) → IsTyped p f a → IsTyped p f b → IsTyped p f (sequenced a b)
  sequenced_typed a b h g = record { is = rw (typed_kind (kind a) a.of h.is) g.is; elements = g.elements; constant = varies_is p f b.of }

  -- `a?b:c`
  chosen_typed : (t : ValueType) (c a b : ValueTree) (k : Constancy) → is_scalar (kind_of p f c.tree) ≡ true → is_of (kind_of p f a.tree) t ≡ true → is_of (kind_of p f b.tree) t ≡ true → leads_to_elements t ≡ true
      → is_constant_of p t k ≡ true → IsTyped p f (conditional_value t c a b k)
  chosen_typed t c a b k s h g e n = record { is = rw s (joined_kinds (kind a) (kind b) t h g); elements = e; constant = n }

  pub conditional_typed : (c a b : ValueTree) (az bz : Bool) → IsTyped p f c → IsTyped p f a → IsTyped p f b → HoldsOf (Means p f) (option_map IsValue (conditional_meaning c a b az bz))
  conditional_typed c a b az bz i h g = by (operation.is_scalar c.of) refl
    where
      integers : (t u : IntegerType) → a.of ≡ Integer t → b.of ≡ Integer u → is_scalar (kind c) ≡ true → IsTyped p f (chosen_integer (common t u) c a b)
      integers t u e d s =
          chosen_typed (Integer (common t u)) c (to_integer (common t u) a) (to_integer (common t u) b) _ s
          (of_integer_kind (kind_of p f (to_integer (common t u) a).tree) (common t u) (to_integer_kind (common t u) t a h e))
          (of_integer_kind (kind_of p f (to_integer (common t u) b).tree) (common t u) (to_integer_kind (common t u) u b g d)) refl (conditional_number c.constant (to_integer (common t u) a).constant (to_integer (common t u) b).constant)

      right_null : (r : ObjectType) → a.of ≡ Pointer r → is_scalar (kind c) ≡ true → (z : Bool) → HoldsOf (Means p f) (option_map IsValue (if z then Some (conditional_value a.of c a (null a.of) Varies) else None))
      right_null r e s true = chosen_typed a.of c a (null a.of) Varies s h.is (subst (λ q. is_of NullPointer q ≡ true) (sym e) refl) h.elements (varies_is p f a.of)
      right_null r e s false = tt

      left_null : (r : ObjectType) → b.of ≡ Pointer r → is_scalar (kind c) ≡ true → (z : Bool) → HoldsOf (Means p f) (option_map IsValue (if z then Some (conditional_value b.of c (null b.of) b Varies) else None))
      left_null r e s true = chosen_typed b.of c (null b.of) b Varies s (subst (λ q. is_of NullPointer q ≡ true) (sym e) refl) g.is g.elements (varies_is p f b.of)
      left_null r e s false = tt

      one_type : (t u : ValueType) → a.of ≡ t → b.of ≡ u → is_scalar (kind c) ≡ true → (z : Bool) → same_value t u ≡ z → HoldsOf (Means p f) (option_map IsValue (if z then Some (conditional_value t c a b Varies) else None))
      one_type t u e d s true z =
          chosen_typed t c a b Varies s (subst (λ q. is_of (kind a) q ≡ true) e h.is) (subst (λ q. is_of (kind b) q ≡ true) (d ∙ sym (value_is t u z)) g.is) (ap leads_to_elements (sym e) ∙ h.elements) (varies_is p f t)
      one_type t u e d s false z = tt

      arms : (t u : ValueType) → a.of ≡ t → b.of ≡ u → is_scalar (kind c) ≡ true → HoldsOf (Means p f) (option_map IsValue (chosen_as t u c a b az bz))
      arms (Integer t) (Integer u) e d s = integers t u e d s
      arms (Pointer r) (Integer u) e d s = right_null r e s bz
      arms (Integer t) (Pointer r) e d s = left_null r d s az
      arms Void u e d s = one_type Void u e d s (same_value Void u) refl
      arms (Integer t) Void e d s = one_type (Integer t) Void e d s (same_value (Integer t) Void) refl
      arms (Pointer r) Void e d s = one_type (Pointer r) Void e d s (same_value (Pointer r) Void) refl
      arms (Pointer r) (Pointer q) e d s = one_type (Pointer r) (Pointer q) e d s (same_value (Pointer r) (Pointer q)) refl

      by : (z : Bool) → operation.is_scalar c.of ≡ z → HoldsOf (Means p f) (option_map IsValue (if z then chosen_as a.of b.of c a b az bz else None))
      by true z = arms a.of b.of refl refl (scalar_kind (kind c) c.of i.is z)
      by false z = tt

  -- a value as if assigned to an object of a type
  pub converted_typed : (v : ValueTree) (to : ValueType) (zero : Bool) → IsTyped p f v → HoldsOf (λ (r : ValueTree). is_of (kind_of p f r.tree) to ≡ true) (converted_value v to zero)
  converted_typed v to zero h = by to v.of refl
    where
      unchanged_typed : (to : ValueType) (z : Bool) → same_value v.of to ≡ z → HoldsOf (λ (r : ValueTree). is_of (kind_of p f r.tree) to ≡ true) (if z then Some v else None)
      unchanged_typed to true z = subst (λ q. is_of (kind v) q ≡ true) (value_is v.of to z) h.is
      unchanged_typed to false z = tt

      null_if : (o : ObjectType) (z : Bool) → HoldsOf (λ (r : ValueTree). is_of (kind_of p f r.tree) (Pointer o) ≡ true) (if z then Some (null (Pointer o)) else None)
      null_if o true = refl
      null_if o false = tt

      by : (to t : ValueType) → v.of ≡ t → HoldsOf (λ (r : ValueTree). is_of (kind_of p f r.tree) to ≡ true) (converted_from to t v zero)
      by (Integer t) (Integer u) e = of_integer_kind (kind_of p f (to_integer t v).tree) t (to_integer_kind t u v h e)
      by (Pointer o) (Integer u) e = null_if o zero
      by Void t e = unchanged_typed Void (same_value v.of Void) refl
      by (Integer t) Void e = unchanged_typed (Integer t) (same_value v.of (Integer t)) refl
      by (Integer t) (Pointer o) e = unchanged_typed (Integer t) (same_value v.of (Integer t)) refl
      by (Pointer o) Void e = unchanged_typed (Pointer o) (same_value v.of (Pointer o)) refl
      by (Pointer o) (Pointer q) e = unchanged_typed (Pointer o) (same_value v.of (Pointer o)) refl

  -- of such a value a constant is one of the type
  pub converted_constant_is : (v : ValueTree) (to : ValueType) (zero : Bool) → IsTyped p f v → HoldsOf (λ (r : ValueTree). is_constant_of p to r.constant ≡ true) (converted_value v to zero)
  converted_constant_is v to zero h = by to v.of refl
    where
      unchanged_is : (to : ValueType) (z : Bool) → same_value v.of to ≡ z → HoldsOf (λ (r : ValueTree). is_constant_of p to r.constant ≡ true) (if z then Some v else None)
      unchanged_is to true z = subst (λ q. is_constant_of p q v.constant ≡ true) (value_is v.of to z) h.constant
      unchanged_is to false z = tt

      null_if : (o : ObjectType) (z : Bool) → HoldsOf (λ (r : ValueTree). is_constant_of p (Pointer o) r.constant ≡ true) (if z then Some (null (Pointer o)) else None)
      null_if o true = refl
      null_if o false = tt

      by : (to t : ValueType) → v.of ≡ t → HoldsOf (λ (r : ValueTree). is_constant_of p to r.constant ≡ true) (converted_from to t v zero)
      by (Integer t) (Integer u) e = to_integer_number t u v h e
      by (Pointer o) (Integer u) e = null_if o zero
      by Void t e = unchanged_is Void (same_value v.of Void) refl
      by (Integer t) Void e = unchanged_is (Integer t) (same_value v.of (Integer t)) refl
      by (Integer t) (Pointer o) e = unchanged_is (Integer t) (same_value v.of (Integer t)) refl
      by (Pointer o) Void e = unchanged_is (Pointer o) (same_value v.of (Pointer o)) refl
      by (Pointer o) (Pointer q) e = unchanged_is (Pointer o) (same_value v.of (Pointer o)) refl
