-- What an expression of an accepted source means is well typed.
use Rattle.std.proofs.Common.{◌≡◌, ℕ, ◌+◌, ◌*◌, List, length, slice_get, Option, Some, None}
use Rattle.std.specs.Prelude.{pos}
use Rattle.debug_records.specs.declared.source.Spot.{Spot}
use Rattle.c_tree.specs.declared.object_type.Scalar.{Scalar}
use Rattle.c_tree.specs.declared.typed_expression.Callee.{Callee}
use Rattle.c_tree.specs.Expressions.{ExpressionTree, ExpressionTrees, Name, Constant, Literal, Parenthesized, Index, Call, PostIncrement, PostDecrement, Prefix, Cast, SizeofExpression, SizeofType, SizeofArray, Binary, Conditional, Assignment, Comma, none, first}
use Rattle.c_tree.specs.Ends.{first_spot, last_of}
use Rattle.c_tree.specs.Programs.{TypedFunctionTree, ProgramTree}
use Rattle.c_type_rules.specs.Integers.{scalar_size}
use Rattle.c_type_values.specs.Values.{MeantTree}
use Rattle.c_type_values.specs.Operations.{binary_operation}
use Rattle.c_type_expressions.specs.Names.{Names, SignatureTree, meaning_of}
use Rattle.c_type_expressions.specs.Findings.{FoundTree, gives, with_one, restored}
use Rattle.c_type_expressions.specs.Judgements.{Meant, valued, measured, size_of, array_count}
use Rattle.c_type_expressions.specs.Expressions.{function_at, function_number, function_named, is_zero, typed, typed_all}
use Rattle.c_source.specs.Constants.{HasNumbers, HaveNumbers}
use Rattle.c_source.specs.Findings.{HoldsOf, Good, IsGood}
use Rattle.c_source.specs.Values.{IsTyped, Means}
use Rattle.c_source.specs.Known.{IsCalled, Knows}
use Rattle.c_source.proofs.Growing.{grows_itself, grows_restored, given, next_good, one_good, two_good, three_good, judged_good}
use Rattle.c_source.proofs.Values.{as_value_typed, element_typed, combined_typed, conditional_typed, sequenced_typed}
use Rattle.c_source.proofs.Judging.{number_typed, size_typed, sizes_typed, named_good, literal_good, stepping_good, prefixed_good, cast_good, assignment_good}
use Rattle.c_source.proofs.Calling.{Pass, none_passed, argument_passed, call_good}

-- a property that everything has
abbrev Any : {A : Type 0} → A → Type 0
Any a = Unit {0}

anything : {A : Type 0} (m : Option A) → HoldsOf Any m
anything None = tt
anything (Some a) = tt

module _ (K : Type 0) (p : ProgramTree) (f : TypedFunctionTree) where
  -- the value of what is meant
  pub valued_good : (s : FoundTree) (q : Meant) → IsGood K p (Means p f) s q → IsGood K p (IsTyped p f) s (valued q)
  valued_good s (gives None t) h = record { grows = h.grows; there = h.there; holds = λ e. tt }
  valued_good s (gives (Some m) t) h = record { grows = h.grows; there = λ e. tt; holds = λ e. as_value_typed p f m (h.holds e) }

  -- `sizeof`, of which nothing is evaluated
  measured_good : (spot : Spot) (last : ℕ) (s t : FoundTree) (m : Option MeantTree) → Good K p (Means p f) s m t
      → IsGood K p (Means p f) s (with_one m (measured spot last) (restored (length s.undefined) (length s.literals) t))
  measured_good spot last s t m h =
      one_good K p Any (Means p f) s (restored (length s.undefined) (length s.literals) t) m (measured spot last) (record { grows = grows_restored s t h.grows; there = h.there; holds = λ e. anything m })
      (λ a k. judged_good K p (Means p f) _ _ spot last _ (λ e. sizes_typed K p f (size_of a) (λ n. n)))

  -- the function of a number
  function_there : (names : Names) (o : Option ℕ) (g : SignatureTree) → function_at names o ≡ Some g → (k : ℕ) × (slice_get names.signatures k ≡ Some g)
  function_there names (Some k) g h = (k, h)
  function_there names None g h = cc

  module _ (names : Names) (known : K → Knows p f names) where
    function_known : K → (e : ExpressionTree) (g : SignatureTree) (c : Callee) → function_named names e ≡ Some g → g.callee ≡ Some c → IsCalled p g c
    function_known x e g c h is = let k = function_there names (function_number names e) g h in (known x).functions k.0 g c k.1 is

    mutual
      pub typed_good : (e : ExpressionTree) (s : FoundTree) → HasNumbers e → IsGood K p (Means p f) s (typed names e s)
      typed_good (Name n) s h = named_good K p f (meaning_of names n.name) n.spot s (λ k o of is. (known k).variables n.name o of is)
      typed_good (Constant spot value type) s h = given K p (Means p f) s s _ (grows_itself s) (λ e. number_typed K p f type (pos value) h)
      typed_good (Literal extent bytes) s h = literal_good K p f extent.first bytes s h
      typed_good (Parenthesized extent e) s h = typed_good e s h
      typed_good (Index e i last) s h =
          next_good K p (IsTyped p f) (Means p f) s s (valued (typed names e s)) _ (valued_good s (typed names e s) (typed_good e s h.0))
          (λ a t x.
          next_good K p (IsTyped p f) (Means p f) s t (valued (typed names i t)) _ (valued_good t (typed names i t) (typed_good i t h.1))
          (λ b u y. two_good K p (IsTyped p f) (IsTyped p f) (Means p f) s t u a b _ x y (λ v w j k. judged_good K p (Means p f) _ _ (first_spot e) last u (λ z. element_typed p f v w (j z) (k z)))))
      typed_good (Call e all last) s h =
          call_good K p f (function_named names e) (valued (typed names e s)) (typed_all names all) (first_spot e) last s (λ k. function_known k e) (valued_good s (typed names e s) (typed_good e s h.0)) (λ parameters at t. all_good all parameters at t h.1)
      typed_good (PostIncrement e last) s h =
          next_good K p (Means p f) (Means p f) s s (typed names e s) _ (typed_good e s h) (λ m t x. one_good K p (Means p f) (Means p f) s t m _ x (λ a k. stepping_good K p f _ _ (first_spot e) last a t k))
      typed_good (PostDecrement e last) s h =
          next_good K p (Means p f) (Means p f) s s (typed names e s) _ (typed_good e s h) (λ m t x. one_good K p (Means p f) (Means p f) s t m _ x (λ a k. stepping_good K p f _ _ (first_spot e) last a t k))
      typed_good (Prefix spot o e) s h =
          next_good K p (Means p f) (Means p f) s s (typed names e s) _ (typed_good e s h) (λ m t x. one_good K p (Means p f) (Means p f) s t m _ x (λ a k. prefixed_good K p f o spot (last_of e) a t k))
      typed_good (Cast spot to e) s h =
          next_good K p (IsTyped p f) (Means p f) s s (valued (typed names e s)) _ (valued_good s (typed names e s) (typed_good e s h)) (λ m t x. cast_good K p f to spot (last_of e) m s t x)
      typed_good (SizeofExpression spot e) s h = next_good K p (Means p f) (Means p f) s s (typed names e s) _ (typed_good e s h) (λ m t x. measured_good spot (last_of e) s t m x)
      typed_good (SizeofType extent type stars) s h = given K p (Means p f) s s _ (grows_itself s) (λ e. size_typed K p f (scalar_size (record { base = type; stars = stars })))
      typed_good (SizeofArray extent type stars e) s h =
          next_good K p (IsTyped p f) (Means p f) s s (valued (typed names e s)) _ (valued_good s (typed names e s) (typed_good e s h))
          (λ m t x.
          one_good K p (IsTyped p f) (Means p f) s t m _ x
          (λ v k. judged_good K p (Means p f) _ _ extent.first extent.last t (λ z. sizes_typed K p f (array_count v.of v.constant) (λ n. scalar_size (record { base = type; stars = stars }) * n))))
      typed_good (Binary o a b) s h =
          next_good K p (IsTyped p f) (Means p f) s s (valued (typed names a s)) _ (valued_good s (typed names a s) (typed_good a s h.0))
          (λ m t x.
          next_good K p (IsTyped p f) (Means p f) s t (valued (typed names b t)) _ (valued_good t (typed names b t) (typed_good b t h.1))
          (λ n u y.
          two_good K p (IsTyped p f) (IsTyped p f) (Means p f) s t u m n _ x y
          (λ v w j k. judged_good K p (Means p f) _ _ (first_spot a) (last_of b) u (λ z. combined_typed p f (binary_operation o) v w (is_zero a) (is_zero b) (j z) (k z)))))
      typed_good (Conditional c a b) s h =
          next_good K p (IsTyped p f) (Means p f) s s (valued (typed names c s)) _ (valued_good s (typed names c s) (typed_good c s h.0))
          (λ l t x.
          next_good K p (IsTyped p f) (Means p f) s t (valued (typed names a t)) _ (valued_good t (typed names a t) (typed_good a t h.1))
          (λ m u y.
          next_good K p (IsTyped p f) (Means p f) s u (valued (typed names b u)) _ (valued_good u (typed names b u) (typed_good b u h.2))
          (λ n v z.
          three_good K p (IsTyped p f) (IsTyped p f) (IsTyped p f) (Means p f) s t u v l m n _ x y z
          (λ i j k one two three. judged_good K p (Means p f) _ _ (first_spot c) (last_of b) v (λ w. conditional_typed p f i j k (is_zero a) (is_zero b) (one w) (two w) (three w))))))
      typed_good (Assignment o a b) s h =
          next_good K p (Means p f) (Means p f) s s (typed names a s) _ (typed_good a s h.0)
          (λ m t x.
          next_good K p (IsTyped p f) (Means p f) s t (valued (typed names b t)) _ (valued_good t (typed names b t) (typed_good b t h.1))
          (λ n u y. two_good K p (Means p f) (IsTyped p f) (Means p f) s t u m n _ x y (λ v w j k. assignment_good K p f o (is_zero b) (first_spot a) (last_of b) v w u j k)))
      typed_good (Comma a b) s h =
          next_good K p (IsTyped p f) (Means p f) s s (valued (typed names a s)) _ (valued_good s (typed names a s) (typed_good a s h.0))
          (λ m t x.
          next_good K p (IsTyped p f) (Means p f) s t (valued (typed names b t)) _ (valued_good t (typed names b t) (typed_good b t h.1))
          (λ n u y. two_good K p (IsTyped p f) (IsTyped p f) (Means p f) s t u m n _ x y (λ v w j k. given K p (Means p f) u u _ (grows_itself u) (λ z. sequenced_typed p f v w (j z) (k z)))))

      -- each argument, for its parameter
      all_good : (es : ExpressionTrees) (parameters : List Scalar) (at : ℕ) (s : FoundTree) → HaveNumbers es → Pass K p f parameters at s (typed_all names es parameters at s)
      all_good none parameters at s h = none_passed K p f parameters at s
      all_good (first e rest) parameters at s h =
          argument_passed K p f parameters at (is_zero e) s (valued (typed names e s)) (typed_all names rest parameters (at + 1)) (valued_good s (typed names e s) (typed_good e s h.0))
          (λ t. all_good rest parameters (at + 1) t h.1)
