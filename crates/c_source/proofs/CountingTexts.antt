-- What an expression means weighs no more than the expression.
use Rattle.std.proofs.Common.{◌≤◌, ℕ, ◌+◌, ◌*◌, List, [], length, slice_get, Bool, true, false, Option, Some, None, arith}
use Rattle.std.specs.Prelude.{if◌then◌else◌, ◌==◌}
use Rattle.std.specs.Option.{option_map}
use Rattle.debug_records.specs.declared.source.Spot.{Spot}
use Rattle.debug_records.specs.declared.code.Code.{Code}
use Rattle.debug_records.specs.declared.code.TheConstants.Code.{UNEXPECTED_KEYWORD, OPERAND_TYPES}
use Rattle.c_tree.specs.declared.types.Base.{Base}
use Rattle.c_tree.specs.declared.types.Base.TheVariants as base
use Rattle.c_tree.specs.declared.types.TypeName.{TypeName}
use Rattle.c_tree.specs.declared.types.IntegerType.{IntegerType}
use Rattle.c_tree.specs.declared.operator.PrefixOperator.{PrefixOperator}
use Rattle.c_tree.specs.declared.operator.PrefixOperator.TheVariants as prefix
use Rattle.c_tree.specs.declared.operator.AssignmentOperator.{AssignmentOperator}
use Rattle.c_tree.specs.declared.operator.AssignmentOperator.TheVariants as assignment
use Rattle.c_tree.specs.declared.object_type.Scalar.{Scalar}
use Rattle.c_tree.specs.declared.object_type.ValueType.{ValueType}
use Rattle.c_tree.specs.declared.object_type.ValueType.TheVariants.{Void, Integer, Pointer}
use Rattle.c_tree.specs.declared.typed_expression.Callee.{Callee}
use Rattle.c_tree.specs.declared.typed_expression.Direction.{Direction}
use Rattle.c_tree.specs.declared.typed_expression.Given.{Given}
use Rattle.c_tree.specs.Expressions.{ExpressionTree, ExpressionTrees, Name, Constant, Literal, Parenthesized, Index, Call, PostIncrement, PostDecrement, Prefix, Cast, SizeofExpression, SizeofType, SizeofArray, Binary, Conditional, Assignment, Comma}
use Rattle.c_tree.specs.Expressions as expression
use Rattle.c_tree.specs.Ends.{first_spot, last_of}
use Rattle.c_type_rules.specs.Integers.{scalar_size}
use Rattle.c_type_rules.specs.Types.{loaded_type}
use Rattle.c_type_bounds.specs.Weights.{prefix_weight, called_weight, weight_of, weight_of_all}
use Rattle.c_type_values.specs.Values.{ValueTree, MeantTree, IsValue, as_value, meant_type, converted_value}
use Rattle.c_type_values.specs.Operations as operation
use Rattle.c_type_values.specs.Operations.{binary_operation}
use Rattle.c_type_values.specs.Writing.{is_modifiable, stepped}
use Rattle.c_type_laws.specs.Weighing.{weighed, weighed_all, conversion}
use Rattle.c_type_expressions.specs.declared.names.Meaning.{Meaning}
use Rattle.c_type_expressions.specs.declared.names.Meaning.TheVariants.{Variable, Function, EndOfFile}
use Rattle.c_type_expressions.specs.Names.{Names, SignatureTree, meaning_of}
use Rattle.c_type_expressions.specs.Findings.{FoundTree, Checked, gives, check_next, with_one, restored, faulted, judged}
use Rattle.c_type_expressions.specs.Judgements.{valued, meaning_of_name, writing, stepping, prefixed, cast_from, cast_to, cast_meaning, size_value, size_of, array_count, assignable, assigning, assignment_by, Passed, passed_as, passed_to, argument_before, uncallable, noted, call_tree, called}
use Rattle.c_type_expressions.specs.Expressions.{function_named, call_meaning, is_zero, typed, typed_all}
use Rattle.c_source.proofs.Counting.{is_narrow, meant_weight, value_weight, implied_weight, Few, GivesFew, next_few, one_few, two_few, three_few, judged_few, as_value_weight, valued_few, option_few, converted_few, address_few, dereferenced_few, element_few, signed_few, negated_few, combined_few, conditional_few, stepped_few, assigned_few, updated_few}

-- each expression weighs something
pub weighs : (e : ExpressionTree) → 1 ≤ weight_of e
weighs (Name n) = omega arith
weighs (Constant spot value type) = omega arith
weighs (Literal extent bytes) = omega arith
weighs (Parenthesized extent e) = weighs e
weighs (Index e i last) = omega arith
weighs (Call e all last) = by (called_weight e (weight_of e))
  where
    by : (k : ℕ) → 1 ≤ 1 + k + weight_of_all all
    by k = omega arith
weighs (PostIncrement e last) = omega arith
weighs (PostDecrement e last) = omega arith
weighs (Prefix spot o e) = let h = weighs e in by (prefix_weight o) h
  where
    by : (k : ℕ) → 1 ≤ weight_of e → 1 ≤ k + weight_of e
    by k h = omega (arith, h)
weighs (Cast spot to e) = omega arith
weighs (SizeofExpression spot e) = omega arith
weighs (SizeofType extent type stars) = omega arith
weighs (SizeofArray extent type stars e) = omega arith
weighs (Binary o a b) = omega arith
weighs (Conditional c a b) = omega arith
weighs (Assignment o a b) = omega arith
weighs (Comma a b) = omega arith

-- a rule on one, two or three parts
judged_meant : (k : ℕ) (m : Option MeantTree) (code : Code) (first : Spot) (last : ℕ) (s : FoundTree) → Few meant_weight k m → GivesFew meant_weight k (judged m code first last s)
judged_meant k m code first last s h = judged_few meant_weight meant_weight meant_weight meant_weight k m code first last s h

named_few : (m : Option Meaning) (spot : Spot) (s : FoundTree) → GivesFew meant_weight 1 (meaning_of_name m spot s)
named_few (Some (Variable o of)) spot s = omega arith
named_few (Some EndOfFile) spot s = omega arith
named_few (Some (Function k)) spot s = tt
named_few None spot s = tt

stepping_few : (d : Direction) (g : Given) (first : Spot) (last : ℕ) (m : MeantTree) (s : FoundTree) (n : ℕ) → meant_weight m ≤ n → GivesFew meant_weight (2 + n) (stepping d g first last m s)
stepping_few d g first last m s n h = by (operation.is_scalar (meant_type m)) (writing (is_modifiable m) first last s)
  where
    by : (b : Bool) (t : FoundTree) → GivesFew meant_weight (2 + n) (if b then gives (Some (IsValue (stepped d g m))) t else gives None (faulted OPERAND_TYPES first last s))
    by true t = stepped_few d g m n h
    by false t = tt

prefixed_few : (o : PrefixOperator) (first : Spot) (last : ℕ) (m : MeantTree) (s : FoundTree) (n : ℕ) → meant_weight m ≤ n → GivesFew meant_weight (prefix_weight o + n) (prefixed o first last m s)
prefixed_few prefix.AddressOf first last m s n h = judged_meant (1 + n) _ _ first last s (option_few (1 + n) _ (address_few m n h))
prefixed_few prefix.Indirection first last m s n h = judged_meant (1 + n) _ _ first last s (dereferenced_few (as_value m) n (let e = as_value_weight m in omega (arith, h, e)))
prefixed_few prefix.Plus first last m s n h = judged_meant (1 + n) _ _ first last s (option_few (1 + n) _ (signed_few _ (as_value m) n (let e = as_value_weight m in omega (arith, h, e))))
prefixed_few prefix.Minus first last m s n h = judged_meant (1 + n) _ _ first last s (option_few (1 + n) _ (signed_few _ (as_value m) n (let e = as_value_weight m in omega (arith, h, e))))
prefixed_few prefix.Complement first last m s n h = judged_meant (1 + n) _ _ first last s (option_few (1 + n) _ (signed_few _ (as_value m) n (let e = as_value_weight m in omega (arith, h, e))))
prefixed_few prefix.Not first last m s n h = judged_meant (1 + n) _ _ first last s (option_few (1 + n) _ (negated_few (as_value m) n (let e = as_value_weight m in omega (arith, h, e))))
prefixed_few prefix.Increment first last m s n h = stepping_few _ _ first last m s n h
prefixed_few prefix.Decrement first last m s n h = stepping_few _ _ first last m s n h

-- a conversion that was written weighs one at most
written_most : (b : Bool) → conversion false b ≤ 1
written_most true = omega arith
written_most false = omega arith

cast_from_few : (u : ValueType) (t : IntegerType) (first : Spot) (last : ℕ) (v : ValueTree) (s : FoundTree) (n : ℕ) → weighed false v.tree ≤ n → GivesFew meant_weight (1 + n) (cast_from u t first last v s)
cast_from_few (Integer u) t first last v s n h = let one = written_most (is_narrow t) in omega (arith, h, one)
cast_from_few (Pointer of) t first last v s n h = tt
cast_from_few Void t first last v s n h = tt

cast_to_few : (to : Base) (first : Spot) (last : ℕ) (v : ValueTree) (s : FoundTree) (n : ℕ) → weighed false v.tree ≤ n → GivesFew meant_weight (1 + n) (cast_to to first last v s)
cast_to_few base.Void first last v s n h = omega (arith, h)
cast_to_few (base.Integer t) first last v s n h = cast_from_few v.of t first last v s n h

cast_few : (to : TypeName) (first : Spot) (last : ℕ) (m : Option ValueTree) (s : FoundTree) (n : ℕ) → Few value_weight n m → GivesFew meant_weight (1 + n) (cast_meaning to first last m s)
cast_few to first last m s n h = by (to.stars == 0)
  where
    by : (b : Bool) → GivesFew meant_weight (1 + n) (if b then with_one m (cast_to to.base first last) s else gives None (faulted UNEXPECTED_KEYWORD first last s))
    by true = one_few value_weight value_weight value_weight meant_weight n (1 + n) m (cast_to to.base first last) s h (λ v k. cast_to_few to.base first last v s n k)
    by false = tt

sizes_few : (o : Option ℕ) (g : ℕ → ℕ) → Few meant_weight 1 (option_map (λ n. size_value (g n)) o)
sizes_few None g = tt
sizes_few (Some n) g = omega arith

assigning_few : (o : Option ValueTree) (first : Spot) (last : ℕ) (m : MeantTree) (s : FoundTree) (n k : ℕ) → meant_weight m ≤ n → Few implied_weight k o → GivesFew meant_weight (1 + n + k) (assigning o first last m s)
assigning_few (Some v) first last m s n k h g = assigned_few m (Some v) n k h g
assigning_few None first last m s n k h g = assigned_few m None n k h tt

assignable_few : (to : ValueType) (v : ValueTree) (z : Bool) (n : ℕ) → 1 ≤ n → weighed false v.tree ≤ n → Few implied_weight n (assignable to v z)
assignable_few Void v z n one h = tt
assignable_few (Integer t) v z n one h = converted_few v (Integer t) z n one h
assignable_few (Pointer of) v z n one h = converted_few v (Pointer of) z n one h

assignment_few : (o : AssignmentOperator) (z : Bool) (first : Spot) (last : ℕ) (m : MeantTree) (v : ValueTree) (s : FoundTree) (n k : ℕ) → 1 ≤ k → meant_weight m ≤ n → weighed false v.tree ≤ k → GivesFew meant_weight (1 + n + k) (assignment_by o z first last m v s)
assignment_few assignment.Assign z first last m v s n k one h g = assigning_few (assignable (meant_type m) v z) first last m s n k h (assignable_few (meant_type m) v z k one g)
assignment_few (assignment.With o) z first last m v s n k one h g = updated_few o m v n k h g

-- arguments
abbrev pub PassesFew : ℕ → Checked Passed → Type 0
PassesFew n (gives q s) = weighed_all q.trees ≤ n

passed_few : (o : Option Scalar) (v : Option ValueTree) (z : Bool) (n : ℕ) → 1 ≤ n → Few value_weight n v → weighed true (passed_to o v z).0 ≤ n
passed_few None v z n one h = omega (arith, one)
passed_few (Some p) None z n one h = omega (arith, one)
passed_few (Some p) (Some v) z n one h = by (converted_value v (loaded_type p) z) (converted_few v (loaded_type p) z n one h)
  where
    by : (o : Option ValueTree) → Few implied_weight n o → weighed true (passed_as o).0 ≤ n
    by (Some w) k = k
    by None k = omega (arith, one)

argument_few : (v : Checked (Option ValueTree)) (others : FoundTree → Checked Passed) (o : Option Scalar) (z : Bool) (n k : ℕ) → 1 ≤ n → GivesFew value_weight n v → ((t : FoundTree) → PassesFew k (others t))
    → PassesFew (n + k) (check_next v (λ m t. check_next (others t) (argument_before (passed_to o m z))))
argument_few (gives m t) others o z n k one h rest = by (others t) (rest t)
  where
    by : (c : Checked Passed) → PassesFew k c → PassesFew (n + k) (check_next c (argument_before (passed_to o m z)))
    by (gives q u) g = let p = passed_few o m z n one h in omega (arith, p, g)

-- a call
called_few : (g : SignatureTree) (first : Spot) (last : ℕ) (c : Checked Passed) (extra k : ℕ) → PassesFew k c → GivesFew meant_weight (1 + extra + k) (check_next c (called g first last))
called_few g first last (gives q s) extra k h = by g.callee
  where
    by : (o : Option Callee) → weighed false (call_tree o q.trees) ≤ 1 + extra + k
    by (Some c) = omega (arith, h)
    by None = omega arith

other_few : (first : Spot) (last : ℕ) (m : Option ValueTree) (c : Checked Passed) (n : ℕ) → GivesFew meant_weight n (check_next c (λ (q : Passed). uncallable first last m))
other_few first last (Some v) (gives q s) n = tt
other_few first last None (gives q s) n = tt

call_few : (o : Option SignatureTree) (operand : Checked (Option ValueTree)) (arguments : List Scalar → ℕ → FoundTree → Checked Passed) (first : Spot) (last : ℕ) (s : FoundTree) (extra k : ℕ)
    → ((parameters : List Scalar) (at : ℕ) (t : FoundTree) → PassesFew k (arguments parameters at t)) → GivesFew meant_weight (1 + extra + k) (call_meaning o operand arguments first last s)
call_few (Some g) operand arguments first last s extra k each = called_few g first last (arguments g.parameters 0 (noted g.callee first s)) extra k (each g.parameters 0 (noted g.callee first s))
call_few None (gives m t) arguments first last s extra k each = other_few first last m (arguments [] 0 t) (1 + extra + k)

module _ (names : Names) where
  mutual
    pub typed_few : (e : ExpressionTree) (s : FoundTree) → GivesFew meant_weight (weight_of e) (typed names e s)
    typed_few (Name n) s = named_few (meaning_of names n.name) n.spot s
    typed_few (Constant spot value type) s = omega arith
    typed_few (Literal extent bytes) s = omega arith
    typed_few (Parenthesized extent e) s = typed_few e s
    typed_few (Index e i last) s =
        next_few value_weight value_weight value_weight meant_weight (weight_of e) (1 + weight_of e + weight_of i) (valued (typed names e s)) _ (valued_few (weight_of e) (typed names e s) (typed_few e s))
        (λ a t x.
        next_few value_weight value_weight value_weight meant_weight (weight_of i) (1 + weight_of e + weight_of i) (valued (typed names i t)) _ (valued_few (weight_of i) (typed names i t) (typed_few i t))
        (λ b u y. two_few value_weight value_weight value_weight meant_weight (weight_of e) (weight_of i) (1 + weight_of e + weight_of i) a b _ u x y (λ v w j k. judged_meant (1 + weight_of e + weight_of i) _ _ (first_spot e) last u (element_few v w (weight_of e) (weight_of i) j k))))
    typed_few (Call e all last) s = call_few (function_named names e) (valued (typed names e s)) (typed_all names all) (first_spot e) last s (called_weight e (weight_of e)) (weight_of_all all) (λ parameters at t. all_few all parameters at t)
    typed_few (PostIncrement e last) s =
        next_few meant_weight meant_weight meant_weight meant_weight (weight_of e) (2 + weight_of e) (typed names e s) _ (typed_few e s)
        (λ m t x. one_few meant_weight meant_weight meant_weight meant_weight (weight_of e) (2 + weight_of e) m _ t x (λ a k. stepping_few _ _ (first_spot e) last a t (weight_of e) k))
    typed_few (PostDecrement e last) s =
        next_few meant_weight meant_weight meant_weight meant_weight (weight_of e) (2 + weight_of e) (typed names e s) _ (typed_few e s)
        (λ m t x. one_few meant_weight meant_weight meant_weight meant_weight (weight_of e) (2 + weight_of e) m _ t x (λ a k. stepping_few _ _ (first_spot e) last a t (weight_of e) k))
    typed_few (Prefix spot o e) s =
        next_few meant_weight meant_weight meant_weight meant_weight (weight_of e) (prefix_weight o + weight_of e) (typed names e s) _ (typed_few e s)
        (λ m t x. one_few meant_weight meant_weight meant_weight meant_weight (weight_of e) (prefix_weight o + weight_of e) m _ t x (λ a k. prefixed_few o spot (last_of e) a t (weight_of e) k))
    typed_few (Cast spot to e) s =
        next_few value_weight value_weight value_weight meant_weight (weight_of e) (1 + weight_of e) (valued (typed names e s)) _ (valued_few (weight_of e) (typed names e s) (typed_few e s)) (λ m t x. cast_few to spot (last_of e) m t (weight_of e) x)
    typed_few (SizeofExpression spot e) s =
        next_few meant_weight meant_weight meant_weight meant_weight (weight_of e) 1 (typed names e s) _ (typed_few e s)
        (λ m t x.
        one_few meant_weight meant_weight meant_weight meant_weight (weight_of e) 1 m _ (restored (length s.undefined) (length s.literals) t) x (λ a k. judged_meant 1 _ _ spot (last_of e) (restored (length s.undefined) (length s.literals) t) (sizes_few (size_of a) (λ n. n))))
    typed_few (SizeofType extent type stars) s = omega arith
    typed_few (SizeofArray extent type stars e) s =
        next_few value_weight value_weight value_weight meant_weight (weight_of e) 1 (valued (typed names e s)) _ (valued_few (weight_of e) (typed names e s) (typed_few e s))
        (λ m t x.
        one_few value_weight value_weight value_weight meant_weight (weight_of e) 1 m _ t x
        (λ v k. judged_meant 1 _ _ extent.first extent.last t (sizes_few (array_count v.of v.constant) (λ n. scalar_size (record { base = type; stars = stars }) * n))))
    typed_few (Binary o a b) s =
        next_few value_weight value_weight value_weight meant_weight (weight_of a) (1 + weight_of a + weight_of b) (valued (typed names a s)) _ (valued_few (weight_of a) (typed names a s) (typed_few a s))
        (λ m t x.
        next_few value_weight value_weight value_weight meant_weight (weight_of b) (1 + weight_of a + weight_of b) (valued (typed names b t)) _ (valued_few (weight_of b) (typed names b t) (typed_few b t))
        (λ n u y.
        two_few value_weight value_weight value_weight meant_weight (weight_of a) (weight_of b) (1 + weight_of a + weight_of b) m n _ u x y
        (λ v w j k.
        judged_meant (1 + weight_of a + weight_of b) _ _ (first_spot a) (last_of b) u
        (option_few (1 + weight_of a + weight_of b) _ (combined_few v w (weight_of a) (weight_of b) (weighs a) (weighs b) j k (binary_operation o) (is_zero a) (is_zero b))))))
    typed_few (Conditional c a b) s =
        let all = 1 + weight_of c + weight_of a + weight_of b in
        next_few value_weight value_weight value_weight meant_weight (weight_of c) all (valued (typed names c s)) _ (valued_few (weight_of c) (typed names c s) (typed_few c s))
        (λ l t x.
        next_few value_weight value_weight value_weight meant_weight (weight_of a) all (valued (typed names a t)) _ (valued_few (weight_of a) (typed names a t) (typed_few a t))
        (λ m u y.
        next_few value_weight value_weight value_weight meant_weight (weight_of b) all (valued (typed names b u)) _ (valued_few (weight_of b) (typed names b u) (typed_few b u))
        (λ n v z.
        three_few value_weight value_weight value_weight meant_weight (weight_of c) (weight_of a) (weight_of b) all l m n _ v x y z
        (λ i j k one two three.
        judged_meant all _ _ (first_spot c) (last_of b) v (option_few all _ (conditional_few j k (weight_of a) (weight_of b) (weighs a) (weighs b) two three i (weight_of c) (is_zero a) (is_zero b) one))))))
    typed_few (Assignment o a b) s =
        next_few meant_weight meant_weight meant_weight meant_weight (weight_of a) (1 + weight_of a + weight_of b) (typed names a s) _ (typed_few a s)
        (λ m t x.
        next_few value_weight value_weight value_weight meant_weight (weight_of b) (1 + weight_of a + weight_of b) (valued (typed names b t)) _ (valued_few (weight_of b) (typed names b t) (typed_few b t))
        (λ n u y.
        two_few meant_weight value_weight value_weight meant_weight (weight_of a) (weight_of b) (1 + weight_of a + weight_of b) m n _ u x y
        (λ v w j k. assignment_few o (is_zero b) (first_spot a) (last_of b) v w u (weight_of a) (weight_of b) (weighs b) j k)))
    typed_few (Comma a b) s =
        next_few value_weight value_weight value_weight meant_weight (weight_of a) (1 + weight_of a + weight_of b) (valued (typed names a s)) _ (valued_few (weight_of a) (typed names a s) (typed_few a s))
        (λ m t x.
        next_few value_weight value_weight value_weight meant_weight (weight_of b) (1 + weight_of a + weight_of b) (valued (typed names b t)) _ (valued_few (weight_of b) (typed names b t) (typed_few b t))
        (λ n u y. two_few value_weight value_weight value_weight meant_weight (weight_of a) (weight_of b) (1 + weight_of a + weight_of b) m n _ u x y (λ v w j k. omega (arith, j, k))))

    all_few : (es : ExpressionTrees) (parameters : List Scalar) (at : ℕ) (s : FoundTree) → PassesFew (weight_of_all es) (typed_all names es parameters at s)
    all_few expression.none parameters at s = omega arith
    all_few (expression.first e rest) parameters at s =
        argument_few (valued (typed names e s)) (typed_all names rest parameters (at + 1)) (slice_get parameters at) (is_zero e) (weight_of e) (weight_of_all rest) (weighs e) (valued_few (weight_of e) (typed names e s) (typed_few e s))
        (λ t. all_few rest parameters (at + 1) t)
