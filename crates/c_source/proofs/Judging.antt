-- What each construct of an expression gives is well typed where its parts are.
use Rattle.std.proofs.Common.{◌≡◌, ◌<◌, ℕ, ◌+◌, ◌%◌, ◌^◌, ℤ, pos, negsuc, List, [], ◌∷◌, ◌++◌, length, slice_get, Bool, true, false, Option, Some, None, refl, ap, ◌∙◌, arith}
use Rattle.std.specs.Prelude.{◌==◌, if◌then◌else◌}
use Rattle.std.specs.Option.{option_map}
use Rattle.debug_records.specs.declared.source.Spot.{Spot}
use Rattle.debug_records.specs.declared.code.TheConstants.Code.{OPERAND_TYPES, UNEXPECTED_KEYWORD}
use Rattle.c_tree.specs.declared.types.IntegerType.{IntegerType}
use Rattle.c_tree.specs.declared.types.IntegerType.TheVariants.{Int, UnsignedInt}
use Rattle.c_tree.specs.declared.types.Base.{Base}
use Rattle.c_tree.specs.declared.types.Base.TheVariants as base
use Rattle.c_tree.specs.declared.types.TypeName.{TypeName}
use Rattle.c_tree.specs.declared.operator.PrefixOperator.{PrefixOperator}
use Rattle.c_tree.specs.declared.operator.PrefixOperator.TheVariants as prefix
use Rattle.c_tree.specs.declared.operator.AssignmentOperator.{AssignmentOperator}
use Rattle.c_tree.specs.declared.operator.AssignmentOperator.TheVariants as assignment
use Rattle.c_tree.specs.declared.object_type.Object.{Object}
use Rattle.c_tree.specs.declared.object_type.Object.TheVariants as designator
use Rattle.c_tree.specs.declared.object_type.ObjectType.{ObjectType}
use Rattle.c_tree.specs.declared.object_type.ValueType.{ValueType}
use Rattle.c_tree.specs.declared.object_type.ValueType.TheVariants.{Void, Integer, Pointer}
use Rattle.c_tree.specs.declared.typed_expression.Arithmetic.{Arithmetic}
use Rattle.c_tree.specs.declared.typed_expression.Direction.{Direction}
use Rattle.c_tree.specs.declared.typed_expression.Given.{Given}
use Rattle.c_tree.specs.Programs.{LiteralTree, TypedFunctionTree, ProgramTree}
use Rattle.c_type_rules.specs.Integers.{fits}
use Rattle.c_type_values.specs.Values.{ValueTree, MeantTree, IsValue, as_value, meant_type}
use Rattle.c_type_values.specs.Operations as operation
use Rattle.c_type_values.specs.Pointers.{address, dereferenced}
use Rattle.c_type_values.specs.Writing.{is_modifiable, is_updatable, stepped}
use Rattle.c_type_laws.specs.Kinds.{is_of, literal_is}
use Rattle.c_type_laws.specs.Expressions.{kind_of}
use Rattle.c_type_laws.specs.Statics.{are_bytes}
use Rattle.c_type_expressions.specs.declared.names.Meaning.{Meaning}
use Rattle.c_type_expressions.specs.declared.names.Meaning.TheVariants.{Variable, Function, EndOfFile}
use Rattle.c_type_expressions.specs.Findings.{FoundTree, gives, with_one, faulted, with_literal}
use Rattle.c_type_expressions.specs.Judgements.{constant_of_type, meaning_of_name, literal_type, literal_met, writing, stepping, prefixed, cast_from, cast_to, cast_meaning, size_value, assignable, assigning, updating, assignment_by}
use Rattle.c_source.specs.Findings.{Accepts, HoldsOf, Good, IsGood}
use Rattle.c_source.specs.Values.{IsTyped, Means}
use Rattle.c_source.specs.Known.{IsKnown}
use Rattle.c_source.proofs.Same.{object_itself}
use Rattle.c_source.proofs.Growing.{grows_itself, grows_on, no_fault_before, accepts_before, grows_fault, grows_literal, grows_writing, writing_fine, faulted_if, fine_if, given, refused, one_good, judged_good, earlier, more_is_some}
use Rattle.c_source.proofs.Constants.{address_leads}
use Rattle.c_source.proofs.Fitting.{given_kind}
use Rattle.c_source.proofs.Values.{as_value_typed, address_typed, dereferenced_typed, signed_typed, negated_typed, discarded_typed, cast_typed, converted_typed}
use Rattle.c_source.proofs.Writing.{stepped_typed, assigned_typed, updated_typed}
pub use Rattle.base_laws.proofs.Numbers.{at_most as le_is, is_most as le_true}

-- the element behind others
pub at_end : {A : Type 0} (xs more : List A) (x : A) → slice_get ((xs ++ x ∷ []) ++ more) (length xs) ≡ Some x
at_end [] more x = refl
at_end (y ∷ xs) more x = at_end xs more x

-- sizes are numbers of `unsigned int`
size_fits : (m : ℕ) → m < 4294967296 → fits UnsignedInt (pos m) ≡ true
size_fits m h = rw (le_true 0 m (omega arith), le_true m 4294967295 (omega arith)) refl

length_ended : (bytes : List ℕ) → length (bytes ++ 0 ∷ []) ≡ length bytes + 1
length_ended [] = refl
length_ended (b ∷ bytes) = omega (arith, length_ended bytes)

module _ (K : Type 0) (p : ProgramTree) (f : TypedFunctionTree) where
  -- a number of an integer type
  pub number_typed : (t : IntegerType) (z : ℤ) → fits t z ≡ true → Means p f (constant_of_type t z)
  number_typed t z h = record { is = given_kind (fits t z) (Integer t) h; elements = refl; constant = refl }

  pub size_typed : (n : ℕ) → Means p f (size_value n)
  size_typed n = number_typed UnsignedInt (pos (n % 2 ^ 32)) (size_fits (n % 2 ^ 32) (omega arith))

  pub sizes_typed : (o : Option ℕ) (g : ℕ → ℕ) → HoldsOf (Means p f) (option_map (λ n. size_value (g n)) o)
  sizes_typed None g = tt
  sizes_typed (Some n) g = size_typed (g n)

  -- a name
  pub named_good : (m : Option Meaning) (spot : Spot) (s : FoundTree) → (K → (o : Object) (of : ObjectType) → m ≡ Some (Variable o of) → IsKnown p f o of) → IsGood K p (Means p f) s (meaning_of_name m spot s)
  named_good (Some (Variable o of)) spot s known =
      given K p (Means p f) s s _ (grows_itself s) (λ e. let k = known e.given o of refl in (record { place = k.is; is = refl; elements = k.elements }, address_leads p f o of k.is))
  named_good (Some EndOfFile) spot s known = given K p (Means p f) s s _ (grows_itself s) (λ e. number_typed Int (negsuc 0) refl)
  named_good (Some (Function k)) spot s known = refused K p (Means p f) s _ spot spot.at
  named_good None spot s known = refused K p (Means p f) s _ spot spot.at

  -- a string literal
  literal_there : (bytes : List ℕ) (o : Option LiteralTree) (l : LiteralTree) → o ≡ Some l → length l.bytes ≡ length bytes + 1 → literal_is o (literal_type bytes) ≡ true
  literal_there bytes o l e n = rw (e, n) (object_itself (literal_type bytes))

  pub literal_good : (first : Spot) (bytes : List ℕ) (s : FoundTree) → are_bytes bytes ≡ true → IsGood K p (Means p f) s (literal_met first bytes s)
  literal_good first bytes s b =
      given K p (Means p f) s (with_literal first bytes s) _ (grows_literal first bytes s b)
      (λ e.
      let l : LiteralTree = record { spot = first; bytes = bytes ++ 0 ∷ [] } in
      let stands : slice_get p.literals (length s.literals) ≡ Some l = ap (λ q. slice_get q (length s.literals)) e.literals.1 ∙ at_end s.literals e.literals.0 l in
      let there = literal_there bytes (slice_get p.literals (length s.literals)) l stands (length_ended bytes) in
      (record { place = there; is = refl; elements = le_true 1 (length bytes + 1) (omega arith) }, address_leads p f (designator.Literal (length s.literals)) (literal_type bytes) there))

  -- `++` and `--`
  pub stepping_good : (d : Direction) (g : Given) (first : Spot) (last : ℕ) (m : MeantTree) (s : FoundTree) → (Accepts K p s → Means p f m) → IsGood K p (Means p f) s (stepping d g first last m s)
  stepping_good d g first last m s h = by (operation.is_scalar (meant_type m))
    where
      by : (b : Bool) → IsGood K p (Means p f) s (if b then gives (Some (IsValue (stepped d g m))) (writing (is_modifiable m) first last s) else gives None (faulted OPERAND_TYPES first last s))
      by true =
          given K p (Means p f) s (writing (is_modifiable m) first last s) _ (grows_writing (is_modifiable m) first last s)
          (λ e. stepped_typed p f d g m (writing_fine (is_modifiable m) first last s e.faults) (h (accepts_before (grows_writing (is_modifiable m) first last s) e)))
      by false = refused K p (Means p f) s _ first last

  -- the operators before an operand
  pub prefixed_good : (o : PrefixOperator) (first : Spot) (last : ℕ) (m : MeantTree) (s : FoundTree) → (Accepts K p s → Means p f m) → IsGood K p (Means p f) s (prefixed o first last m s)
  prefixed_good prefix.AddressOf first last m s h = judged_good K p (Means p f) (option_map IsValue (address m)) _ first last s (λ e. address_typed p f m (h e))
  prefixed_good prefix.Indirection first last m s h = judged_good K p (Means p f) (dereferenced (as_value m)) _ first last s (λ e. dereferenced_typed p f (as_value m) (as_value_typed p f m (h e)))
  prefixed_good prefix.Plus first last m s h = judged_good K p (Means p f) _ _ first last s (λ e. signed_typed p f _ (as_value m) (as_value_typed p f m (h e)))
  prefixed_good prefix.Minus first last m s h = judged_good K p (Means p f) _ _ first last s (λ e. signed_typed p f _ (as_value m) (as_value_typed p f m (h e)))
  prefixed_good prefix.Complement first last m s h = judged_good K p (Means p f) _ _ first last s (λ e. signed_typed p f _ (as_value m) (as_value_typed p f m (h e)))
  prefixed_good prefix.Not first last m s h = judged_good K p (Means p f) _ _ first last s (λ e. negated_typed p f (as_value m) (as_value_typed p f m (h e)))
  prefixed_good prefix.Increment first last m s h = stepping_good _ _ first last m s h
  prefixed_good prefix.Decrement first last m s h = stepping_good _ _ first last m s h

  -- a cast
  cast_from_good : (u : ValueType) (t : IntegerType) (first : Spot) (last : ℕ) (v : ValueTree) (s : FoundTree) → v.of ≡ u → (Accepts K p s → IsTyped p f v) → IsGood K p (Means p f) s (cast_from u t first last v s)
  cast_from_good (Integer u) t first last v s e h = given K p (Means p f) s s _ (grows_itself s) (λ a. cast_typed p f t u v (h a) e)
  cast_from_good (Pointer of) t first last v s e h = refused K p (Means p f) s _ first last
  cast_from_good Void t first last v s e h = refused K p (Means p f) s _ first last

  cast_to_good : (to : Base) (first : Spot) (last : ℕ) (v : ValueTree) (s : FoundTree) → (Accepts K p s → IsTyped p f v) → IsGood K p (Means p f) s (cast_to to first last v s)
  cast_to_good base.Void first last v s h = given K p (Means p f) s s _ (grows_itself s) (λ a. discarded_typed p f v (h a))
  cast_to_good (base.Integer t) first last v s h = cast_from_good v.of t first last v s refl h

  pub cast_good : (to : TypeName) (first : Spot) (last : ℕ) (m : Option ValueTree) (r s : FoundTree) → Good K p (IsTyped p f) r m s → IsGood K p (Means p f) r (cast_meaning to first last m s)
  cast_good to first last m r s h = by (to.stars == 0)
    where
      by : (b : Bool) → IsGood K p (Means p f) r (if b then with_one m (cast_to to.base first last) s else gives None (faulted UNEXPECTED_KEYWORD first last s))
      by true = one_good K p (IsTyped p f) (Means p f) r s m (cast_to to.base first last) h (λ v k. cast_to_good to.base first last v s k)
      by false = earlier K p (Means p f) r s _ None h.grows (refused K p (Means p f) s _ first last)

  -- `=`
  assigning_good : (o : Option ValueTree) (first : Spot) (last : ℕ) (m : MeantTree) (s : FoundTree) → (Accepts K p s → Means p f m) → (Accepts K p s → HoldsOf (λ (r : ValueTree). is_of (kind_of p f r.tree) (meant_type m) ≡ true) o)
      → IsGood K p (Means p f) s (assigning o first last m s)
  assigning_good (Some v) first last m s h g =
      given K p (Means p f) s (writing (is_modifiable m) first last s) _ (grows_writing (is_modifiable m) first last s)
      (λ e. assigned_typed p f m v (writing_fine (is_modifiable m) first last s e.faults) (h (accepts_before (grows_writing (is_modifiable m) first last s) e)) (g (accepts_before (grows_writing (is_modifiable m) first last s) e)))
  assigning_good None first last m s h g =
      let t = faulted OPERAND_TYPES first last s in
      given K p (Means p f) s (writing (is_modifiable m) first last t) _ (grows_on (grows_fault _ first last s) (grows_writing (is_modifiable m) first last t))
      (λ e. absurd (more_is_some s.faults _ (no_fault_before (grows_writing (is_modifiable m) first last t) e.faults)))

  assignable_typed : (to : ValueType) (v : ValueTree) (null : Bool) → IsTyped p f v → HoldsOf (λ (r : ValueTree). is_of (kind_of p f r.tree) to ≡ true) (assignable to v null)
  assignable_typed Void v null h = tt
  assignable_typed (Integer t) v null h = converted_typed p f v (Integer t) null h
  assignable_typed (Pointer o) v null h = converted_typed p f v (Pointer o) null h

  -- `+=` and the like
  updating_good : (o : Arithmetic) (first : Spot) (last : ℕ) (m : MeantTree) (v : ValueTree) (s : FoundTree) → (Accepts K p s → Means p f m) → (Accepts K p s → IsTyped p f v) → IsGood K p (Means p f) s (updating o first last m v s)
  updating_good o first last m v s h g =
      let fit = is_updatable o (meant_type m) v.of in
      let code = OPERAND_TYPES in
      let t : FoundTree = if fit then s else faulted code first last s in
      let on = grows_writing (is_modifiable m) first last t in
      let from = faulted_if fit code first last s in
      given K p (Means p f) s (writing (is_modifiable m) first last t) _ (grows_on from on)
      (λ e.
      updated_typed p f o m v (writing_fine (is_modifiable m) first last t e.faults) (fine_if fit code first last s (no_fault_before on e.faults)) (h (accepts_before from (accepts_before on e))) (g (accepts_before from (accepts_before on e))))

  pub assignment_good : (o : AssignmentOperator) (null : Bool) (first : Spot) (last : ℕ) (m : MeantTree) (v : ValueTree) (s : FoundTree) → (Accepts K p s → Means p f m) → (Accepts K p s → IsTyped p f v)
      → IsGood K p (Means p f) s (assignment_by o null first last m v s)
  assignment_good assignment.Assign null first last m v s h g = assigning_good (assignable (meant_type m) v null) first last m s h (λ e. assignable_typed (meant_type m) v null (g e))
  assignment_good (assignment.With o) null first last m v s h g = updating_good o first last m v s h g
