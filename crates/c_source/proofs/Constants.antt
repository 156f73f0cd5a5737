-- What rules make of constants are constants of their types.
use Rattle.std.proofs.Common.{◌≡◌, ℕ, zero, suc, ◌*◌, ◌%◌, ℤ, pos, negsuc, Bool, true, false, ◌&&◌, nat_le, Option, Some, None, refl, sym, ap, ◌∙◌, subst, arith, length, slice_get}
use Rattle.std.specs.Prelude.{◌==◌, if◌then◌else◌, is_some}
use Rattle.std.proofs.lemmas.Bool.{eq-eqb}
use Rattle.std.proofs.lemmas.Bool.Decides.{nat_tests}
use Rattle.c_tree.specs.declared.types.IntegerType.{IntegerType}
use Rattle.c_tree.specs.declared.types.IntegerType.TheVariants.{Char, SignedChar, UnsignedChar, Short, UnsignedShort, Int, UnsignedInt, Long, UnsignedLong}
use Rattle.c_tree.specs.declared.object_type.Scalar.{Scalar}
use Rattle.c_tree.specs.declared.object_type.Object.{Object}
use Rattle.c_tree.specs.declared.object_type.Object.TheVariants as designator
use Rattle.c_tree.specs.declared.object_type.ObjectType.{ObjectType}
use Rattle.c_tree.specs.declared.object_type.ObjectType.TheVariants as object
use Rattle.c_tree.specs.declared.object_type.ValueType.{ValueType}
use Rattle.c_tree.specs.declared.object_type.ValueType.TheVariants.{Void, Integer, Pointer}
use Rattle.c_tree.specs.declared.typed_expression.Arithmetic.{Arithmetic}
use Rattle.c_tree.specs.declared.typed_expression.Comparison.{Comparison}
use Rattle.c_tree.specs.declared.typed_expression.Sign.{Sign}
use Rattle.c_tree.specs.TypedExpressions.{RvalueTree, Decay, Named}
use Rattle.c_tree.specs.Programs.{LiteralTree, StaticTree, TypedFunctionTree, ProgramTree}
use Rattle.c_type_rules.specs.declared.constancy.Constancy.{Constancy}
use Rattle.c_type_rules.specs.declared.constancy.Constancy.TheVariants.{Varies, Formed, Known, Address}
use Rattle.c_type_rules.specs.Integers.{integer_size, scalar_size}
use Rattle.c_type_rules.specs.Types.{same_scalar, same_value}
use Rattle.c_type_rules.specs.Constants.{calculated, constant_with_sign}
use Rattle.c_type_rules.specs.Constancies.{is_formed, only_formed, or_formed, converted_constant, sign_constant, not_constant, arithmetic_constant, comparison_constant, and_constant, or_constant, chosen_constant, conditional_constant}
use Rattle.c_type_values.specs.Pointers.{named_array, element_address}
use Rattle.c_type_expressions.specs.Judgements.{constant_address}
use Rattle.c_type_laws.specs.Kinds.{of_if, is_of, is_array, static_is, literal_is, is_object}
use Rattle.c_type_laws.specs.Expressions.{kind_of}
use Rattle.c_type_laws.specs.Objects.{element_of}
use Rattle.c_source.specs.Addresses.{is_offset, is_offset_if, leads_to, is_number, is_constant_of}
use Rattle.c_source.proofs.Same.{two_true, all_three, object_is, value_is, scalar_itself}

formed_number : (k : Constancy) → is_formed k ≡ true → is_number k ≡ true
formed_number Varies h = refl
formed_number Formed h = refl
formed_number (Known z) h = refl
formed_number (Address o offset) h = cc

only_number : (k l : Constancy) → is_number (only_formed k l) ≡ true
only_number k l = by (is_formed k && is_formed l)
  where
    by : (b : Bool) → is_number (if b then Formed else Varies) ≡ true
    by true = refl
    by false = refl

or_formed_number : (o : Option ℤ) → is_number (or_formed o) ≡ true
or_formed_number None = refl
or_formed_number (Some z) = refl

pub converted_number : (t : IntegerType) (k : Constancy) → is_number k ≡ true → is_number (converted_constant t k) ≡ true
converted_number t (Known z) h = refl
converted_number t Varies h = refl
converted_number t Formed h = refl
converted_number t (Address o offset) h = h

pub sign_number : (o : Sign) (t : IntegerType) (k : Constancy) → is_number k ≡ true → is_number (sign_constant o t k) ≡ true
sign_number o t (Known z) h = or_formed_number (constant_with_sign o t z)
sign_number o t Varies h = refl
sign_number o t Formed h = refl
sign_number o t (Address r offset) h = h

pub not_number : (k : Constancy) → is_number (not_constant k) ≡ true
not_number (Known z) = refl
not_number Varies = refl
not_number Formed = refl
not_number (Address o offset) = refl

pub arithmetic_number : (o : Arithmetic) (t : IntegerType) (k l : Constancy) → is_number (arithmetic_constant o t k l) ≡ true
arithmetic_number o t (Known a) (Known b) = or_formed_number (calculated o t a b)
arithmetic_number o t (Known a) Varies = only_number (Known a) Varies
arithmetic_number o t (Known a) Formed = only_number (Known a) Formed
arithmetic_number o t (Known a) (Address r offset) = only_number (Known a) (Address r offset)
arithmetic_number o t Varies l = only_number Varies l
arithmetic_number o t Formed l = only_number Formed l
arithmetic_number o t (Address r offset) l = only_number (Address r offset) l

pub comparison_number : (o : Comparison) (k l : Constancy) → is_number (comparison_constant o k l) ≡ true
comparison_number o (Known a) (Known b) = refl
comparison_number o (Known a) Varies = only_number (Known a) Varies
comparison_number o (Known a) Formed = only_number (Known a) Formed
comparison_number o (Known a) (Address r offset) = only_number (Known a) (Address r offset)
comparison_number o Varies l = only_number Varies l
comparison_number o Formed l = only_number Formed l
comparison_number o (Address r offset) l = only_number (Address r offset) l

-- a number where an operand has the form, else nothing constant
if_formed : (k l : Constancy) → is_number l ≡ true → is_number (if is_formed k then l else Varies) ≡ true
if_formed k l h = by (is_formed k)
  where
    by : (b : Bool) → is_number (if b then l else Varies) ≡ true
    by true = h
    by false = refl

pub and_number : (k l : Constancy) → is_number (and_constant k l) ≡ true
and_number (Known (pos zero)) l = if_formed l (Known (pos 0)) refl
and_number (Known (pos (suc n))) l = not_number (not_constant l)
and_number (Known (negsuc n)) l = not_number (not_constant l)
and_number Varies l = only_number Varies l
and_number Formed l = only_number Formed l
and_number (Address o offset) l = only_number (Address o offset) l

pub or_number : (k l : Constancy) → is_number (or_constant k l) ≡ true
or_number (Known (pos zero)) l = not_number (not_constant l)
or_number (Known (pos (suc n))) l = if_formed l (Known (pos 1)) refl
or_number (Known (negsuc n)) l = if_formed l (Known (pos 1)) refl
or_number Varies l = only_number Varies l
or_number Formed l = only_number Formed l
or_number (Address o offset) l = only_number (Address o offset) l

chosen_number : (c k l : Constancy) → is_number k ≡ true → is_number l ≡ true → is_number (chosen_constant c k l) ≡ true
chosen_number (Known (pos zero)) k l h g = g
chosen_number (Known (pos (suc n))) k l h g = h
chosen_number (Known (negsuc n)) k l h g = h
chosen_number Varies k l h g = only_number Varies k
chosen_number Formed k l h g = only_number Formed k
chosen_number (Address o offset) k l h g = only_number (Address o offset) k

pub conditional_number : (c k l : Constancy) → is_number (conditional_constant c k l) ≡ true
conditional_number c k l = by (is_formed k && is_formed l) refl
  where
    by : (b : Bool) → is_formed k && is_formed l ≡ b → is_number (if b then chosen_constant c k l else Varies) ≡ true
    by true e = let d = two_true (is_formed k) (is_formed l) e in chosen_number c k l (formed_number k d.0) (formed_number l d.1)
    by false e = refl

-- what is true of each size that a scalar has
pub of_size : (P : ℕ → Type 0) (s : Scalar) → P 1 → P 2 → P 4 → P (scalar_size s)
of_size P s one two four = by (s.stars == 0)
  where
    of_type : (t : IntegerType) → P (integer_size t)
    of_type Char = one
    of_type SignedChar = one
    of_type UnsignedChar = one
    of_type Short = two
    of_type UnsignedShort = two
    of_type Int = four
    of_type UnsignedInt = four
    of_type Long = four
    of_type UnsignedLong = four

    by : (b : Bool) → P (if b then integer_size s.base else 4)
    by true = of_type s.base
    by false = four

-- an element's offset
abbrev Divides : ℕ → Type 0
Divides m = (at count : ℕ) → nat_le at count ≡ true → (nat_le (at * m) (m * count) ≡ true) × ((at * m) % m == 0 ≡ true)

at_size : (s : Scalar) → Divides (scalar_size s)
at_size s = of_size Divides s
    (λ at count h. (grind (arith, nat_tests), eq-eqb ((at * 1) % 1) 0 (omega arith)))
    (λ at count h. (grind (arith, nat_tests), eq-eqb ((at * 2) % 2) 0 (omega arith)))
    (λ at count h. (grind (arith, nat_tests), eq-eqb ((at * 4) % 4) 0 (omega arith)))

-- the address of an element of an array
array_offset : (s : Scalar) (count at : ℕ) (o : Option StaticTree) → static_is o (object.Array s count) ≡ true → nat_le at count ≡ true → is_offset_if s (at * scalar_size s) o ≡ true
array_offset s count at None h g = cc
array_offset s count at (Some v) h g =
    let is : v.of ≡ object.Array s count = object_is v.of (object.Array s count) h in
    let d = at_size s at count g in
    ap (is_offset s (at * scalar_size s)) is ∙ all_three (same_scalar s s) (nat_le (at * scalar_size s) (scalar_size s * count)) ((at * scalar_size s) % scalar_size s == 0) (scalar_itself s) d.0 d.1

of_if_is : (b : Bool) (t u : ValueType) → is_of (of_if b t) u ≡ true → (b ≡ true) × (same_value t u ≡ true)
of_if_is true t u h = (refl, h)
of_if_is false t u h = cc

module _ (p : ProgramTree) (f : TypedFunctionTree) where
  -- nothing constant
  pub varies_is : (t : ValueType) → is_constant_of p t Varies ≡ true
  varies_is Void = refl
  varies_is (Integer t) = refl
  varies_is (Pointer of) = refl

  -- the beginning of a static object
  static_begins : (of : ObjectType) (o : Option StaticTree) → static_is o of ≡ true → is_offset_if (element_of of) 0 o ≡ true
  static_begins of None h = cc
  static_begins of (Some v) h = ap (is_offset (element_of of) 0) (object_is v.of of h) ∙ itself of
    where
      itself : (of : ObjectType) → is_offset (element_of of) 0 of ≡ true
      itself (object.Scalar s) = all_three (same_scalar s s) (nat_le 0 (scalar_size s)) (0 % scalar_size s == 0) (scalar_itself s) (grind (arith, nat_tests)) (of_size (λ m. 0 % m == 0 ≡ true) s refl refl refl)
      itself (object.Array s n) = all_three (same_scalar s s) (nat_le 0 (scalar_size s * n)) (0 % scalar_size s == 0) (scalar_itself s) (grind (arith, nat_tests)) (of_size (λ m. 0 % m == 0 ≡ true) s refl refl refl)

  literal_begins : (of : ObjectType) (o : Option LiteralTree) → literal_is o of ≡ true → is_some o && true && same_scalar (element_of of) (record { base = Char; stars = 0 }) ≡ true
  literal_begins of None h = cc
  literal_begins of (Some l) h = ap (λ t. same_scalar (element_of t) (record { base = Char; stars = 0 })) (sym (object_is (object.Array (record { base = Char; stars = 0 }) (length l.bytes)) of h))

  -- the address of an object that is named
  pub address_leads : (o : Object) (of : ObjectType) → is_object p f o of ≡ true → leads_to p (element_of of) (constant_address o) ≡ true
  address_leads (designator.Static n) of h = static_begins of (slice_get p.statics n) h
  address_leads (designator.Literal n) of h = literal_begins of (slice_get p.literals n) h
  address_leads (designator.Automatic x) of h = refl

  no_array : (s : Scalar) (k : Constancy) → leads_to p s (element_address None k) ≡ true
  no_array s k = refl

  -- the address of an element of an array that is named
  named_leads : (n count : ℕ) (s : Scalar) (k : Constancy) → static_is (slice_get p.statics n) (object.Array s count) ≡ true → leads_to p s (element_address (Some (n, scalar_size s, count)) k) ≡ true
  named_leads n count s Varies h = refl
  named_leads n count s Formed h = refl
  named_leads n count s (Address o offset) h = refl
  named_leads n count s (Known (negsuc z)) h = refl
  named_leads n count s (Known (pos at)) h = by (nat_le at count) refl
    where
      by : (b : Bool) → nat_le at count ≡ b → leads_to p s (if b then Address (designator.Static n) (at * scalar_size s) else Varies) ≡ true
      by true e = array_offset s count at (slice_get p.statics n) h e
      by false e = refl

  pub element_leads : (t : RvalueTree) (of : ObjectType) (k : Constancy) → is_of (kind_of p f t) (Pointer of) ≡ true → leads_to p (element_of of) (element_address (named_array t) k) ≡ true
  element_leads (Decay (Named (designator.Static n) (object.Array s count))) of k h =
      let b = of_if_is (is_array (object.Array s count) && static_is (slice_get p.statics n) (object.Array s count)) (Pointer (object.Scalar s)) (Pointer of) h in
      let c = two_true (is_array (object.Array s count)) (static_is (slice_get p.statics n) (object.Array s count)) b.0 in
      let is : Pointer (object.Scalar s) ≡ Pointer of = value_is (Pointer (object.Scalar s)) (Pointer of) b.1 in
      let same : object.Scalar s ≡ of = cc in
      subst (λ (o : ObjectType). leads_to p (element_of o) (element_address (Some (n, scalar_size s, count)) k) ≡ true) same (named_leads n count s k c.1)
  element_leads _ of k h = refl
