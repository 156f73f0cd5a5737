-- A well-typed expression is one whose code does what it means.
use Rattle.std.proofs.Common.{◌≡◌, ℕ, zero, suc, ◌+◌, List, [], ◌∷◌, length, Option, Some, None, Bool, true, false, ◌&&◌, slice_get, refl, sym, ap, ◌∙◌, subst, ℤ}
use Rattle.std.specs.Prelude.{if◌then◌else◌}
use Rattle.c_tree.specs.declared.types.IntegerType.{IntegerType}
use Rattle.c_tree.specs.declared.types.IntegerType.TheVariants.{Char, SignedChar, UnsignedChar, Short, UnsignedShort, Int, UnsignedInt, Long, UnsignedLong}
use Rattle.c_tree.specs.declared.object_type.Scalar.{Scalar}
use Rattle.c_tree.specs.declared.object_type.ObjectType.{ObjectType}
use Rattle.c_tree.specs.declared.object_type.ObjectType.TheVariants as of-object
use Rattle.c_tree.specs.declared.object_type.ValueType.{ValueType}
use Rattle.c_tree.specs.declared.object_type.ValueType.TheVariants.{Void, Integer, Pointer}
use Rattle.c_tree.specs.declared.object_type.Object.TheVariants as object
use Rattle.c_tree.specs.declared.typed_expression.Arithmetic as declared-arithmetic
use Rattle.c_tree.specs.declared.typed_expression.Arithmetic.TheVariants as arithmetic-is
use Rattle.c_tree.specs.declared.typed_expression.Direction.{Direction}
use Rattle.c_tree.specs.declared.typed_expression.Given.{Given}
use Rattle.c_tree.specs.declared.typed_expression.Callee.{Callee}
use Rattle.c_tree.specs.declared.typed_expression.Callee.TheVariants as callee
use Rattle.c_tree.specs.TypedExpressions.{RvalueTree, LvalueTree, ArgumentTrees, Constant, Null, Load, Decay, AddressOf, Convert, Discard, Signed, Not, Arithmetic, Compare, ComparePointers, Move, MoveFrom, Difference, And, Or, Conditional, Comma, Assign, Update, UpdatePointer, Step, StepPointer, Call, Named, Target, Element, ElementFrom, none, first}
use Rattle.c_tree.specs.Programs.{AutomaticTree, LiteralTree, StaticTree}
use Rattle.c_type_rules.specs.Integers.{fits as number_fits, promoted}
use Rattle.c_type_rules.specs.Types.{loaded_type, same_integer}
use Rattle.c_type_rules.specs.ValueTypes.{object_type, decayed, results_of, type_of, given_by, integer_in, is_void, is_pointer}
use Rattle.c_type_laws.specs.Kind.{Kind, Wrong, NullPointer, Of}
use Rattle.c_type_laws.specs.Kinds.{is_promoted, is_of, is_typed, is_scalar, is_pointer as is_pointer_kind, is_integer, is_counted, joined, is_operand, holds_scalar, holds_integer, holds_pointer, is_array, static_is, literal_is, automatic_is, is_variable, is_object, is_callee, taken_by}
use Rattle.c_type_laws.specs.Expressions.{kind_of, is_place, are_passed}
use Rattle.c_meaning_values.specs.declared.value.Value as source-value
use Rattle.c_meaning_values.specs.declared.value.Value.TheVariants as source
use Rattle.c_meaning_values.specs.Memory.{Memory as SourceMemory}
use Rattle.c_meaning_steps.specs.States.{State, Gives}
use Rattle.c_meaning.specs.Expressions.{Calls}
use Rattle.graph_core.specs.declared.instruction.Element.TheVariants.{Word}
use Rattle.graph_build_names.specs.Names.{scalar_of, scalar_named, object_of}
use Rattle.graph_build_steps.specs.Rules as rule
use Rattle.graph_build_runs.specs.Typed.{IsOf}
use Rattle.graph_build_runs.proofs.Words.{InWord, in_word}
use Rattle.graph_build_runs.proofs.Leads.{Setting, names_in}
use Rattle.graph_build_runs.proofs.Later.{some_same}
use Rattle.graph_build_runs.proofs.Typing.{HasKind}
use Rattle.graph_build_runs.proofs.Types.{integer_is, object_is, kind_is_of}
use Rattle.graph_build_runs.proofs.Operands.{Apart}
use Rattle.graph_build_runs.proofs.Kept.{ScalarsFirst}
use Rattle.graph_build_runs.proofs.Noting.{ScalarsApart}
use Rattle.graph_build_runs.proofs.Apartness.{place_apart}
use Rattle.graph_build_runs.proofs.Elements.{word_element}
use Rattle.graph_build_runs.proofs.Negations.{IsPointerBy}
use Rattle.graph_build_runs.proofs.Calling.{CallsOk}
use Rattle.graph_build_runs.proofs.Places.{StaticsThere}
use Rattle.graph_build_runs.proofs.Renewing.{IsRightValue, IsNumber}
use Rattle.graph_build_runs.proofs.ValuesStand.{IsWhole}
use Rattle.graph_build_runs.proofs.Shapes.{fits_of, kind_by, integer_kind, typed_of, any_integer, counted, counted_typed, scalar_typed, two_true, three_true, four_true, Shape, joined_shape, joined_typed, left_joined, right_joined, pointer_kinds, shape, scalar_by, loaded_scalar, whole_of, array_of, pointer_object, if_typed}
use Rattle.graph_build_runs.proofs.Expressions.{IsRightBy, IsNumberBy, CallKeeps, Coded, constant, null, scalar, load, decay, address, convert, discarded, signed, negated, operated, compared, pointers, moved, moved_from, subtracted, conjunction, disjunction, chosen, nothing_chosen, sequence, assigned, stored, updated, updated_there, advanced, advanced_there, stepped, stepped_there, walked, walked_there, called, run, got, put_out, left, CodedPlace, variable, static, literal, target, element, element_from, CodedAll, no_more, one_more}

word_of_pointer : (base : IntegerType) (stars : ℕ) (el : ObjectType) → loaded_type (record { base = base; stars = stars }) ≡ Pointer el → rule.element_of (record { base = base; stars = stars }) ≡ Word
word_of_pointer base zero el h = cc
word_of_pointer base (suc stars) el h = word_element base stars

promoted_twice : (t u : IntegerType) → same_integer u (promoted t) ≡ true → is_promoted u ≡ true
promoted_twice t u h = subst (λ q. is_promoted q ≡ true) (sym (integer_is u (promoted t) h)) (by t)
  where
    by : (t : IntegerType) → is_promoted (promoted t) ≡ true
    by Char = refl
    by SignedChar = refl
    by UnsignedChar = refl
    by Short = refl
    by UnsignedShort = refl
    by Int = refl
    by UnsignedInt = refl
    by Long = refl
    by UnsignedLong = refl

-- whether a value is a pointer, by its tree's type
pointer_by : (k : Kind) (t : ValueType) → Shape k t → is_scalar k ≡ true → (memory : SourceMemory) (v : source-value.Value) → HasKind memory k v → IsPointerBy (is_pointer t) v
pointer_by Wrong t shape s memory v is = cc
pointer_by NullPointer t shape s memory v is = subst (λ b. IsPointerBy b v) (sym shape) (λ z e. null_no_number z (sym is ∙ e))
  where
    null_no_number : (z : ℤ) → source.Null ≡ source.Number z → ⊥
    null_no_number z h = cc
pointer_by (Of Void) t shape s memory v is = cc
pointer_by (Of (Integer u)) t shape s memory (source.Number z) is = subst (λ q. IsPointerBy (is_pointer q) (source.Number z)) (sym shape) (z, refl)
pointer_by (Of (Integer u)) t shape s memory source.Null is = absurd is
pointer_by (Of (Integer u)) t shape s memory (source.Pointer n k) is = absurd is
pointer_by (Of (Pointer of)) t shape s memory (source.Number z) is = absurd is
pointer_by (Of (Pointer of)) t shape s memory source.Null is = subst (λ b. IsPointerBy b source.Null) (sym shape) (λ z e. cc)
pointer_by (Of (Pointer of)) t shape s memory (source.Pointer n k) is = subst (λ b. IsPointerBy b (source.Pointer n k)) (sym shape) (λ z e. cc)

-- a tree of no value
void_nothing : (k : Kind) (t : ValueType) → Shape k t → is_void t ≡ true → (memory : SourceMemory) (v : source-value.Value) → HasKind memory k v → ⊥
void_nothing Wrong t shape void memory v is = is
void_nothing NullPointer Void shape void memory v is = cc
void_nothing NullPointer (Integer u) shape void memory v is = cc
void_nothing NullPointer (Pointer of) shape void memory v is = cc
void_nothing (Of Void) t shape void memory v is = is
void_nothing (Of (Integer u)) t shape void memory v is = let no : is_void t ≡ false = ap is_void shape in cc
void_nothing (Of (Pointer of)) Void shape void memory v is = cc
void_nothing (Of (Pointer of)) (Integer u) shape void memory v is = cc
void_nothing (Of (Pointer of)) (Pointer o) shape void memory v is = cc

-- right operands
number_right : (k : Kind) (t : IntegerType) → is_of k (Integer t) ≡ true → (memory : SourceMemory) (u : source-value.Value) → HasKind memory k u → IsOf memory (Integer t) u
number_right k t h memory u is = kind_is_of memory k (Integer t) u h is

counted_right : (k : Kind) → is_counted k ≡ true → (memory : SourceMemory) (u : source-value.Value) → HasKind memory k u → (z : ℤ) × (u ≡ source.Number z) × InWord z
counted_right k h memory u is = let c = counted k h in by c.0 u (subst (λ q. HasKind memory q u) c.1 is)
  where
    by : (t : IntegerType) (u : source-value.Value) → IsOf memory (Integer t) u → (z : ℤ) × (u ≡ source.Number z) × InWord z
    by t (source.Number z) is = (z, refl, in_word t z is)
    by t source.Null is = absurd is
    by t (source.Pointer n i) is = absurd is

is_right : (o : declared-arithmetic.Arithmetic) (t : IntegerType) (k : Kind) → is_operand o t k ≡ true → (memory : SourceMemory) (u : source-value.Value) → HasKind memory k u → IsRightValue o t u
is_right arithmetic-is.ShiftLeft t k h memory u is = let c = counted_right k h memory u is in subst (IsRightValue arithmetic-is.ShiftLeft t) (sym c.1) c.2
is_right arithmetic-is.ShiftRight t k h memory u is = let c = counted_right k h memory u is in subst (IsRightValue arithmetic-is.ShiftRight t) (sym c.1) c.2
is_right arithmetic-is.Multiply t k h memory (source.Number z) is = number_right k t h memory (source.Number z) is
is_right arithmetic-is.Multiply t k h memory source.Null is = number_right k t h memory source.Null is
is_right arithmetic-is.Multiply t k h memory (source.Pointer n i) is = number_right k t h memory (source.Pointer n i) is
is_right arithmetic-is.Divide t k h memory (source.Number z) is = number_right k t h memory (source.Number z) is
is_right arithmetic-is.Divide t k h memory source.Null is = number_right k t h memory source.Null is
is_right arithmetic-is.Divide t k h memory (source.Pointer n i) is = number_right k t h memory (source.Pointer n i) is
is_right arithmetic-is.Remainder t k h memory (source.Number z) is = number_right k t h memory (source.Number z) is
is_right arithmetic-is.Remainder t k h memory source.Null is = number_right k t h memory source.Null is
is_right arithmetic-is.Remainder t k h memory (source.Pointer n i) is = number_right k t h memory (source.Pointer n i) is
is_right arithmetic-is.Add t k h memory (source.Number z) is = number_right k t h memory (source.Number z) is
is_right arithmetic-is.Add t k h memory source.Null is = number_right k t h memory source.Null is
is_right arithmetic-is.Add t k h memory (source.Pointer n i) is = number_right k t h memory (source.Pointer n i) is
is_right arithmetic-is.Subtract t k h memory (source.Number z) is = number_right k t h memory (source.Number z) is
is_right arithmetic-is.Subtract t k h memory source.Null is = number_right k t h memory source.Null is
is_right arithmetic-is.Subtract t k h memory (source.Pointer n i) is = number_right k t h memory (source.Pointer n i) is
is_right arithmetic-is.BitAnd t k h memory (source.Number z) is = number_right k t h memory (source.Number z) is
is_right arithmetic-is.BitAnd t k h memory source.Null is = number_right k t h memory source.Null is
is_right arithmetic-is.BitAnd t k h memory (source.Pointer n i) is = number_right k t h memory (source.Pointer n i) is
is_right arithmetic-is.BitXor t k h memory (source.Number z) is = number_right k t h memory (source.Number z) is
is_right arithmetic-is.BitXor t k h memory source.Null is = number_right k t h memory source.Null is
is_right arithmetic-is.BitXor t k h memory (source.Pointer n i) is = number_right k t h memory (source.Pointer n i) is
is_right arithmetic-is.BitOr t k h memory (source.Number z) is = number_right k t h memory (source.Number z) is
is_right arithmetic-is.BitOr t k h memory source.Null is = number_right k t h memory source.Null is
is_right arithmetic-is.BitOr t k h memory (source.Pointer n i) is = number_right k t h memory (source.Pointer n i) is

operand_typed : (o : declared-arithmetic.Arithmetic) (t : IntegerType) (k : Kind) → is_operand o t k ≡ true → is_typed k ≡ true
operand_typed arithmetic-is.ShiftLeft t k h = counted_typed k h
operand_typed arithmetic-is.ShiftRight t k h = counted_typed k h
operand_typed arithmetic-is.Multiply t k h = typed_of k (Integer t) h
operand_typed arithmetic-is.Divide t k h = typed_of k (Integer t) h
operand_typed arithmetic-is.Remainder t k h = typed_of k (Integer t) h
operand_typed arithmetic-is.Add t k h = typed_of k (Integer t) h
operand_typed arithmetic-is.Subtract t k h = typed_of k (Integer t) h
operand_typed arithmetic-is.BitAnd t k h = typed_of k (Integer t) h
operand_typed arithmetic-is.BitXor t k h = typed_of k (Integer t) h
operand_typed arithmetic-is.BitOr t k h = typed_of k (Integer t) h

number_by : (k : Kind) → is_counted k ≡ true → (memory : SourceMemory) (u : source-value.Value) → HasKind memory k u → IsNumber u
number_by k h memory u is = let c = counted_right k h memory u is in subst IsNumber (sym c.1) tt

pointer_typed : (k : Kind) → is_pointer_kind k ≡ true → is_typed k ≡ true
pointer_typed Wrong h = cc
pointer_typed NullPointer h = refl
pointer_typed (Of t) h = refl

-- where a variable of the function is kept
pub data VariableHome (x : Setting) (v : ℕ) : Type 0 where
  in_name : (k : ℕ) → scalar_of (names_in x) v ≡ Some k → VariableHome x v
  in_object : (j : ℕ) → object_of (names_in x) v ≡ Some j → VariableHome x v

-- Variables of the function have homes, and static objects and literals stand in the unit.
pub record LaidOut (x : Setting) : Type 0 where
  pub variable_home : (v : ℕ) → is_variable x.tree v ≡ true → VariableHome x v
  pub static_there : (i : ℕ) (s : StaticTree) → slice_get x.program.statics i ≡ Some s → StaticsThere x i
  pub literal_there : (i : ℕ) (s : LiteralTree) → slice_get x.program.literals i ≡ Some s → StaticsThere x ((names_in x).statics + i)

-- Functions that are called keep what runs keep, do what they mean, and give nothing where their type says so.
pub record CallsAre (x : Setting) (calls : Calls) : Type 0 where
  pub keeps : (f : ℕ) → is_callee x.program (callee.Function f) ≡ true → CallKeeps x calls (callee.Function f) (taken_by x.program (callee.Function f))
  pub does : (f : ℕ) → is_callee x.program (callee.Function f) ≡ true → CallsOk x calls f (taken_by x.program (callee.Function f))
  pub nothing : (f : ℕ) → is_void (given_by (results_of x.program.functions) (callee.Function f)) ≡ true → (vs : List source-value.Value) (s : State) (v : source-value.Value) (s2 : State) → calls f vs s ≡ Gives v s2 → ⊥

-- a variable that a name designates is kept in memory
abbrev pub InMemory : Setting → LvalueTree → Type 0
InMemory x (Named (object.Static i) of) = Unit {0}
InMemory x (Named (object.Literal i) of) = Unit {0}
InMemory x (Named (object.Automatic v) of) = (j : ℕ) × (object_of (names_in x) v ≡ Some j)
InMemory x (Target of p) = Unit {0}
InMemory x (Element of p i) = Unit {0}
InMemory x (ElementFrom of i p) = Unit {0}

abbrev mutual
  -- What has its address taken is in memory.
  pub IsLaid : Setting → RvalueTree → Type 0
  IsLaid x (Constant z t) = Unit {0}
  IsLaid x Null = Unit {0}
  IsLaid x (Load s l) = IsLaidPlace x l
  IsLaid x (Decay l) = IsLaidPlace x l × InMemory x l
  IsLaid x (AddressOf l) = IsLaidPlace x l × InMemory x l
  IsLaid x (Convert t e) = IsLaid x e
  IsLaid x (Discard e) = IsLaid x e
  IsLaid x (Signed o t e) = IsLaid x e
  IsLaid x (Not e) = IsLaid x e
  IsLaid x (Arithmetic o t a b) = IsLaid x a × IsLaid x b
  IsLaid x (Compare o t a b) = IsLaid x a × IsLaid x b
  IsLaid x (ComparePointers o a b) = IsLaid x a × IsLaid x b
  IsLaid x (Move d of p i) = IsLaid x p × IsLaid x i
  IsLaid x (MoveFrom i of p) = IsLaid x i × IsLaid x p
  IsLaid x (Difference of a b) = IsLaid x a × IsLaid x b
  IsLaid x (And a b) = IsLaid x a × IsLaid x b
  IsLaid x (Or a b) = IsLaid x a × IsLaid x b
  IsLaid x (Conditional c a b) = IsLaid x c × IsLaid x a × IsLaid x b
  IsLaid x (Comma a b) = IsLaid x a × IsLaid x b
  IsLaid x (Assign s l e) = IsLaidPlace x l × IsLaid x e
  IsLaid x (Update o t u l e) = IsLaidPlace x l × IsLaid x e
  IsLaid x (UpdatePointer d of l e) = IsLaidPlace x l × IsLaid x e
  IsLaid x (Step d g t u l) = IsLaidPlace x l
  IsLaid x (StepPointer d g of l) = IsLaidPlace x l
  IsLaid x (Call c all) = AreLaid x all

  pub IsLaidPlace : Setting → LvalueTree → Type 0
  IsLaidPlace x (Named o of) = Unit {0}
  IsLaidPlace x (Target of p) = IsLaid x p
  IsLaidPlace x (Element of p i) = IsLaid x p × IsLaid x i
  IsLaidPlace x (ElementFrom of i p) = IsLaid x i × IsLaid x p

  pub AreLaid : Setting → ArgumentTrees → Type 0
  AreLaid x none = Unit {0}
  AreLaid x (first e rest) = IsLaid x e × AreLaid x rest

-- an lvalue is a scalar's name, or a place in memory
data View (x : Setting) (calls : Calls) : LvalueTree → Type 0 where
  as_name : {v : ℕ} {of : ObjectType} → (k : ℕ) → scalar_of (names_in x) v ≡ Some k → ((a : AutomaticTree) → slice_get x.program.automatics v ≡ Some a → a.of ≡ of) → View x calls (Named (object.Automatic v) of)
  as_place : {l : LvalueTree} → CodedPlace x calls l → View x calls l

load_view : (x : Setting) (calls : Calls) (s : Scalar) (l : LvalueTree) → View x calls l → object_type l ≡ of-object.Scalar s → kind_of x.program x.tree (Load s l) ≡ Of (loaded_type s) → Coded x calls (Load s l)
load_view x calls s (Named (object.Automatic v) of) (as_name k is fits) one kind = scalar (record { name = k; is = is; one = one; fits = fits }) kind
load_view x calls s l (as_place p) one kind = load one kind p

memory_view : (x : Setting) (calls : Calls) (l : LvalueTree) → View x calls l → InMemory x l → CodedPlace x calls l
memory_view x calls (Named (object.Automatic v) of) (as_name k is fits) there = variable there.1 fits
memory_view x calls l (as_place p) there = p

assign_view : (x : Setting) (calls : Calls) (s : Scalar) (l : LvalueTree) (e : RvalueTree) → View x calls l → object_type l ≡ of-object.Scalar s → kind_of x.program x.tree (Assign s l e) ≡ Of (loaded_type s) → is_of (kind_of x.program x.tree e) (loaded_type s) ≡ true → IsWhole x e
    → ((k : ℕ) → scalar_named (names_in x) l ≡ Some k → Apart x k e) → Coded x calls e → Coded x calls (Assign s l e)
assign_view x calls s (Named (object.Automatic v) of) e (as_name k is fits) one kind fits_e whole apart c = assigned (record { name = k; is = is; one = one; fits = fits }) kind fits_e (apart k is) c
assign_view x calls s l e (as_place p) one kind fits_e whole apart c = stored one kind fits_e whole p c

update_view : (x : Setting) (calls : Calls) (o : declared-arithmetic.Arithmetic) (ty t : IntegerType) (l : LvalueTree) (e : RvalueTree) → View x calls l → is_promoted t ≡ true → object_type l ≡ of-object.Scalar (record { base = ty; stars = 0 }) → kind_of x.program x.tree (Update o ty t l e) ≡ Of (Integer ty) → IsRightBy x o t e → Coded x calls e
    → Coded x calls (Update o ty t l e)
update_view x calls o ty t (Named (object.Automatic v) of) e (as_name k is fits) promoted one kind right c = updated promoted (record { name = k; is = is; one = one; fits = fits }) kind right c
update_view x calls o ty t l e (as_place p) promoted one kind right c = updated_there promoted one kind right p c

advance_view : (x : Setting) (calls : Calls) (d : Direction) (of : ObjectType) (s : Scalar) (l : LvalueTree) (e : RvalueTree) → View x calls l → object_type l ≡ of-object.Scalar s → loaded_type s ≡ Pointer of → kind_of x.program x.tree (UpdatePointer d of l e) ≡ Of (Pointer of) → IsNumberBy x e → Coded x calls e
    → Coded x calls (UpdatePointer d of l e)
advance_view x calls d of s (Named (object.Automatic v) o) e (as_name k is fits) one type_is kind number c = advanced (record { name = k; is = is; one = one; fits = fits }) type_is kind number c
advance_view x calls d of s l e (as_place p) one type_is kind number c = advanced_there one type_is (word_of_pointer s.base s.stars of type_is) kind number p c

step_view : (x : Setting) (calls : Calls) (d : Direction) (g : Given) (ty t : IntegerType) (l : LvalueTree) → View x calls l → is_promoted t ≡ true → object_type l ≡ of-object.Scalar (record { base = ty; stars = 0 }) → kind_of x.program x.tree (Step d g ty t l) ≡ Of (Integer ty) → Coded x calls (Step d g ty t l)
step_view x calls d g ty t (Named (object.Automatic v) of) (as_name k is fits) promoted one kind = stepped promoted (record { name = k; is = is; one = one; fits = fits }) kind
step_view x calls d g ty t l (as_place p) promoted one kind = stepped_there promoted one kind p

walk_view : (x : Setting) (calls : Calls) (d : Direction) (g : Given) (of : ObjectType) (s : Scalar) (l : LvalueTree) → View x calls l → object_type l ≡ of-object.Scalar s → loaded_type s ≡ Pointer of → kind_of x.program x.tree (StepPointer d g of l) ≡ Of (Pointer of) → Coded x calls (StepPointer d g of l)
walk_view x calls d g of s (Named (object.Automatic v) o) (as_name k is fits) one type_is kind = walked (record { name = k; is = is; one = one; fits = fits }) type_is kind
walk_view x calls d g of s l (as_place p) one type_is kind = walked_there one type_is (word_of_pointer s.base s.stars of type_is) kind p

-- what an operator or a choice asks of its operands
module _ (x : Setting) (calls : Calls) (low : ScalarsFirst x) (scalars : ScalarsApart x) (out : LaidOut x) (are : CallsAre x calls) where
  abbrev K : RvalueTree → Kind
  K e = kind_of x.program x.tree e

  abbrev P : LvalueTree → Bool
  P l = is_place x.program x.tree l

  -- objects by their names
  static_named : (i : ℕ) (of : ObjectType) → is_object x.program x.tree (object.Static i) of ≡ true → CodedPlace x calls (Named (object.Static i) of)
  static_named i of h = by (slice_get x.program.statics i) refl h
    where
      by : (r : Option StaticTree) → slice_get x.program.statics i ≡ r → static_is r of ≡ true → CodedPlace x calls (Named (object.Static i) of)
      by None e q = cc
      by (Some s) e q = static (out.static_there i s e) (λ a at. ap (λ z. z.of) (some_same (sym at ∙ e)) ∙ object_is s.of of q)

  literal_named : (i : ℕ) (of : ObjectType) → is_object x.program x.tree (object.Literal i) of ≡ true → CodedPlace x calls (Named (object.Literal i) of)
  literal_named i of h = by (slice_get x.program.literals i) refl h
    where
      by : (r : Option LiteralTree) → slice_get x.program.literals i ≡ r → literal_is r of ≡ true → CodedPlace x calls (Named (object.Literal i) of)
      by None e q = cc
      by (Some s) e q = literal (out.literal_there i s e) (λ l at. ap (λ z. of-object.Array (record { base = Char; stars = 0 }) (length z.bytes)) (some_same (sym at ∙ e)) ∙ object_is (of-object.Array (record { base = Char; stars = 0 }) (length s.bytes)) of q)

  variable_named : (v : ℕ) (of : ObjectType) → is_object x.program x.tree (object.Automatic v) of ≡ true → View x calls (Named (object.Automatic v) of)
  variable_named v of h = let b = two_true (is_variable x.tree v) (automatic_is (slice_get x.program.automatics v) of) h in by_home (out.variable_home v b.0) (by (slice_get x.program.automatics v) refl b.1)
    where
      by : (r : Option AutomaticTree) → slice_get x.program.automatics v ≡ r → automatic_is r of ≡ true → (a : AutomaticTree) → slice_get x.program.automatics v ≡ Some a → a.of ≡ of
      by None e q a at = cc
      by (Some s) e q a at = ap (λ z. z.of) (some_same (sym at ∙ e)) ∙ object_is s.of of q

      by_home : VariableHome x v → ((a : AutomaticTree) → slice_get x.program.automatics v ≡ Some a → a.of ≡ of) → View x calls (Named (object.Automatic v) of)
      by_home (in_name k is) fits = as_name k is fits
      by_home (in_object j is) fits = as_place (variable is fits)

  -- choices, by whether their arms have values
  choice : (c a b : RvalueTree) → is_scalar (K c) ≡ true → is_typed (joined (K a) (K b)) ≡ true → Coded x calls c → Coded x calls a → Coded x calls b → Coded x calls (Conditional c a b)
  choice c a b test fits test_c ca cb = by (is_void (type_of (names_in x).results a)) refl
    where
      whole : K (Conditional c a b) ≡ joined (K a) (K b)
      whole = ap (λ q. if q then joined (K a) (K b) else Wrong) test

      by : (void : Bool) → is_void (type_of (names_in x).results a) ≡ void → Coded x calls (Conditional c a b)
      by false e =
          chosen e (λ memory v h. subst (λ k. HasKind memory k v) (sym whole) (left_joined memory v (K a) (K b) fits h)) (λ memory v h. subst (λ k. HasKind memory k v) (sym whole) (right_joined memory v (K a) (K b) fits h)) test_c ca cb
      by true e =
          nothing_chosen e (λ memory v h. void_nothing (K a) (type_of (names_in x).results a) (shape x a) e memory v h)
          (λ memory v h. void_nothing (joined (K a) (K b)) (type_of (names_in x).results a) (joined_shape (K a) (K b) (type_of (names_in x).results a) (shape x a)) e memory v (right_joined memory v (K a) (K b) fits h)) test_c ca cb

  -- calls, by what is called
  call_of : (c : Callee) (all : ArgumentTrees) → kind_of x.program x.tree (Call c all) ≡ Of (given_by (results_of x.program.functions) c) → is_callee x.program c ≡ true → are_passed x.program x.tree (taken_by x.program c) all ≡ true → CodedAll x calls (taken_by x.program c) all → Coded x calls (Call c all)
  call_of (callee.Function f) all kind there passed c = by (is_void (given_by (names_in x).results (callee.Function f))) refl
    where
      by : (void : Bool) → is_void (given_by (names_in x).results (callee.Function f)) ≡ void → Coded x calls (Call (callee.Function f) all)
      by false e = called kind e (are.keeps f there) (are.does f there) c
      by true e = run kind e (are.nothing f e) (are.keeps f there) (are.does f there) c
  call_of callee.Getchar none kind there passed c = got kind
  call_of callee.Getchar (first e rest) kind there passed c = cc
  call_of callee.Putchar all kind there passed c = put_out kind c
  call_of callee.Exit all kind there passed c = left c

  mutual
    -- A well-typed expression is one whose code does what it means.
    pub coded : (e : RvalueTree) → is_typed (K e) ≡ true → IsLaid x e → Coded x calls e
    coded (Constant z t) h laid = constant (fits_of (number_fits t z) (Integer t) h)
    coded Null h laid = null
    coded (Load s l) h laid =
        let a = fits_of (holds_scalar (object_type l) s && P l) (loaded_type s) h in
        let b = two_true (holds_scalar (object_type l) s) (P l) a in load_view x calls s l (view l b.1 laid) (object_is (object_type l) (of-object.Scalar s) b.0) (kind_by (holds_scalar (object_type l) s && P l) (loaded_type s) a)
    coded (Decay l) h laid =
        let a = fits_of (is_array (object_type l) && P l) (decayed (object_type l)) h in
        let b = two_true (is_array (object_type l)) (P l) a in let o = array_of (object_type l) b.0 in
        decay o.2 (kind_by (is_array (object_type l) && P l) (decayed (object_type l)) a ∙ ap (λ q. Of (decayed q)) o.2) (memory_view x calls l (view l b.1 laid.0) laid.1)
    coded (AddressOf l) h laid = let a = fits_of (P l) (Pointer (object_type l)) h in address (kind_by (P l) (Pointer (object_type l)) a) (memory_view x calls l (view l a laid.0) laid.1)
    coded (Convert t e) h laid =
        let a = fits_of (is_integer (K e)) (Integer t) h in
        let k = any_integer (K e) a in
        convert (kind_by (is_integer (K e)) (Integer t) a) k.1 (ap integer_in (subst (λ q. Shape q (type_of (names_in x).results e)) k.1 (shape x e))) (coded e (ap is_typed k.1) laid)
    coded (Discard e) h laid = discarded (coded e (fits_of (is_typed (K e)) Void h) laid)
    coded (Signed o t e) h laid =
        let a = fits_of (is_promoted t && is_of (K e) (Integer t)) (Integer t) h in
        let b = two_true (is_promoted t) (is_of (K e) (Integer t)) a in
        signed b.0 (kind_by (is_promoted t && is_of (K e) (Integer t)) (Integer t) a) (integer_kind (K e) t b.1) (coded e (typed_of (K e) (Integer t) b.1) laid)
    coded (Not e) h laid =
        let a = fits_of (is_scalar (K e)) (Integer Int) h in
        negated (kind_by (is_scalar (K e)) (Integer Int) a) (pointer_by (K e) (type_of (names_in x).results e) (shape x e) a) (coded e (scalar_typed (K e) a) laid)
    coded (Arithmetic o t a b) h laid =
        let f = fits_of (is_promoted t && is_of (K a) (Integer t) && is_operand o t (K b)) (Integer t) h in
        let c = three_true (is_promoted t) (is_of (K a) (Integer t)) (is_operand o t (K b)) f in
        operated c.0 (kind_by (is_promoted t && is_of (K a) (Integer t) && is_operand o t (K b)) (Integer t) f) (integer_kind (K a) t c.1) (is_right o t (K b) c.2) (coded a (typed_of (K a) (Integer t) c.1) laid.0) (coded b (operand_typed o t (K b) c.2) laid.1)
    coded (Compare o t a b) h laid =
        let f = fits_of (is_promoted t && is_of (K a) (Integer t) && is_of (K b) (Integer t)) (Integer Int) h in
        let c = three_true (is_promoted t) (is_of (K a) (Integer t)) (is_of (K b) (Integer t)) f in
        compared c.0 (kind_by (is_promoted t && is_of (K a) (Integer t) && is_of (K b) (Integer t)) (Integer Int) f) (integer_kind (K a) t c.1) (integer_kind (K b) t c.2) (coded a (typed_of (K a) (Integer t) c.1) laid.0) (coded b (typed_of (K b) (Integer t) c.2) laid.1)
    coded (ComparePointers o a b) h laid =
        let f = fits_of (is_pointer_kind (joined (K a) (K b))) (Integer Int) h in
        let c = joined_typed (K a) (K b) (pointer_typed (joined (K a) (K b)) f) in
        pointers (kind_by (is_pointer_kind (joined (K a) (K b))) (Integer Int) f) (λ memory u is. (pointer_kinds memory (K a) (K b) f).0 u is) (λ memory u is. (pointer_kinds memory (K a) (K b) f).1 u is) (coded a c.0 laid.0) (coded b c.1 laid.1)
    coded (Move d of p i) h laid =
        let f = fits_of (is_of (K p) (Pointer of) && is_counted (K i)) (Pointer of) h in
        let c = two_true (is_of (K p) (Pointer of)) (is_counted (K i)) f in
        moved (kind_by (is_of (K p) (Pointer of) && is_counted (K i)) (Pointer of) f) c.0 (coded p (typed_of (K p) (Pointer of) c.0) laid.0) (coded i (counted_typed (K i) c.1) laid.1)
    coded (MoveFrom i of p) h laid =
        let f = fits_of (is_counted (K i) && is_of (K p) (Pointer of)) (Pointer of) h in
        let c = two_true (is_counted (K i)) (is_of (K p) (Pointer of)) f in
        moved_from (kind_by (is_counted (K i) && is_of (K p) (Pointer of)) (Pointer of) f) c.1 (coded i (counted_typed (K i) c.0) laid.0) (coded p (typed_of (K p) (Pointer of) c.1) laid.1)
    coded (Difference of a b) h laid =
        let f = fits_of (is_of (K a) (Pointer of) && is_of (K b) (Pointer of)) (Integer Int) h in
        let c = two_true (is_of (K a) (Pointer of)) (is_of (K b) (Pointer of)) f in
        subtracted (kind_by (is_of (K a) (Pointer of) && is_of (K b) (Pointer of)) (Integer Int) f) c.0 c.1 (coded a (typed_of (K a) (Pointer of) c.0) laid.0) (coded b (typed_of (K b) (Pointer of) c.1) laid.1)
    coded (And a b) h laid =
        let f = fits_of (is_scalar (K a) && is_scalar (K b)) (Integer Int) h in
        let c = two_true (is_scalar (K a)) (is_scalar (K b)) f in conjunction (kind_by (is_scalar (K a) && is_scalar (K b)) (Integer Int) f) (coded a (scalar_typed (K a) c.0) laid.0) (coded b (scalar_typed (K b) c.1) laid.1)
    coded (Or a b) h laid =
        let f = fits_of (is_scalar (K a) && is_scalar (K b)) (Integer Int) h in
        let c = two_true (is_scalar (K a)) (is_scalar (K b)) f in disjunction (kind_by (is_scalar (K a) && is_scalar (K b)) (Integer Int) f) (coded a (scalar_typed (K a) c.0) laid.0) (coded b (scalar_typed (K b) c.1) laid.1)
    coded (Conditional c a b) h laid =
        let f = if_typed (is_scalar (K c)) (joined (K a) (K b)) h in
        let k = joined_typed (K a) (K b) f.1 in
        choice c a b f.0 f.1 (coded c (scalar_typed (K c) f.0) laid.0) (coded a k.0 laid.1) (coded b k.1 laid.2)
    coded (Comma a b) h laid = let f = if_typed (is_typed (K a)) (K b) h in sequence (ap (λ q. if q then K b else Wrong) f.0) (coded a f.0 laid.0) (coded b f.1 laid.1)
    coded (Assign s l e) h laid =
        let f = fits_of (holds_scalar (object_type l) s && P l && is_of (K e) (loaded_type s)) (loaded_type s) h in
        let c = three_true (holds_scalar (object_type l) s) (P l) (is_of (K e) (loaded_type s)) f in
        assign_view x calls s l e (view l c.1 laid.0) (object_is (object_type l) (of-object.Scalar s) c.0) (kind_by (holds_scalar (object_type l) s && P l && is_of (K e) (loaded_type s)) (loaded_type s) f) c.2 (whole_of x e (scalar_by x (K e) (loaded_type s) c.2 (loaded_scalar x s))) (place_apart x low scalars l s e c.1 (object_is (object_type l) (of-object.Scalar s) c.0) c.2)
        (coded e (typed_of (K e) (loaded_type s) c.2) laid.1)
    coded (Update o t u l e) h laid =
        let f = fits_of (holds_integer (object_type l) t && is_promoted u && P l && is_operand o u (K e)) (Integer t) h in
        let c = four_true (holds_integer (object_type l) t) (is_promoted u) (P l) (is_operand o u (K e)) f in
        update_view x calls o t u l e (view l c.2 laid.0) c.1 (object_is (object_type l) (of-object.Scalar (record { base = t; stars = 0 })) c.0) (kind_by (holds_integer (object_type l) t && is_promoted u && P l && is_operand o u (K e)) (Integer t) f)
        (is_right o u (K e) c.3) (coded e (operand_typed o u (K e) c.3) laid.1)
    coded (UpdatePointer d of l e) h laid =
        let f = fits_of (holds_pointer (object_type l) of && P l && is_counted (K e)) (Pointer of) h in
        let c = three_true (holds_pointer (object_type l) of) (P l) (is_counted (K e)) f in
        let o = pointer_object (object_type l) of c.0 in
        advance_view x calls d of o.0 l e (view l c.1 laid.0) o.1 o.2 (kind_by (holds_pointer (object_type l) of && P l && is_counted (K e)) (Pointer of) f) (number_by (K e) c.2) (coded e (counted_typed (K e) c.2) laid.1)
    coded (Step d g t u l) h laid =
        let f = fits_of (holds_integer (object_type l) t && same_integer u (promoted t) && P l) (Integer t) h in
        let c = three_true (holds_integer (object_type l) t) (same_integer u (promoted t)) (P l) f in
        step_view x calls d g t u l (view l c.2 laid) (promoted_twice t u c.1) (object_is (object_type l) (of-object.Scalar (record { base = t; stars = 0 })) c.0) (kind_by (holds_integer (object_type l) t && same_integer u (promoted t) && P l) (Integer t) f)
    coded (StepPointer d g of l) h laid =
        let f = fits_of (holds_pointer (object_type l) of && P l) (Pointer of) h in
        let c = two_true (holds_pointer (object_type l) of) (P l) f in
        let o = pointer_object (object_type l) of c.0 in
        walk_view x calls d g of o.0 l (view l c.1 laid) o.1 o.2 (kind_by (holds_pointer (object_type l) of && P l) (Pointer of) f)
    coded (Call c all) h laid =
        let f = fits_of (is_callee x.program c && are_passed x.program x.tree (taken_by x.program c) all) (given_by (results_of x.program.functions) c) h in
        let b = two_true (is_callee x.program c) (are_passed x.program x.tree (taken_by x.program c) all) f in
        call_of c all (kind_by (is_callee x.program c && are_passed x.program x.tree (taken_by x.program c) all) (given_by (results_of x.program.functions) c) f) b.0 b.1 (all_coded (taken_by x.program c) all b.1 laid)

    view : (l : LvalueTree) → P l ≡ true → IsLaidPlace x l → View x calls l
    view (Named (object.Static i) of) h laid = as_place (static_named i of h)
    view (Named (object.Literal i) of) h laid = as_place (literal_named i of h)
    view (Named (object.Automatic v) of) h laid = variable_named v of h
    view (Target of p) h laid = as_place (target h (coded p (typed_of (K p) (Pointer of) h) laid))
    view (Element of p i) h laid =
        let c = two_true (is_of (K p) (Pointer of)) (is_counted (K i)) h in as_place (element c.0 (coded p (typed_of (K p) (Pointer of) c.0) laid.0) (coded i (counted_typed (K i) c.1) laid.1))
    view (ElementFrom of i p) h laid =
        let c = two_true (is_counted (K i)) (is_of (K p) (Pointer of)) h in as_place (element_from c.1 (coded i (counted_typed (K i) c.0) laid.0) (coded p (typed_of (K p) (Pointer of) c.1) laid.1))

    all_coded : (types : List ValueType) (all : ArgumentTrees) → are_passed x.program x.tree types all ≡ true → AreLaid x all → CodedAll x calls types all
    all_coded [] none h laid = no_more
    all_coded [] (first e rest) h laid = cc
    all_coded (t ∷ types) none h laid = cc
    all_coded (t ∷ types) (first e rest) h laid =
        let c = two_true (is_of (K e) t) (are_passed x.program x.tree types rest) h in one_more c.0 (coded e (typed_of (K e) t c.0) laid.0) (all_coded types rest c.1 laid.1)
