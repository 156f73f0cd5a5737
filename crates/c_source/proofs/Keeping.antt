-- The variables that well typed expressions and statements keep in memory are their function's.
use Rattle.std.proofs.Common.{◌≡◌, ◌≤◌, ◌<◌, ℕ, ◌+◌, List, [], ◌∷◌, ◌++◌, length, slice_get, nat_le, nat_lt, Bool, true, false, not, Option, Some, None, refl}
use Rattle.std.specs.Prelude.{if◌then◌else◌}
use Rattle.c_tree.specs.declared.types.IntegerType.{IntegerType}
use Rattle.c_tree.specs.declared.object_type.Scalar.{Scalar}
use Rattle.c_tree.specs.declared.object_type.ObjectType.{ObjectType}
use Rattle.c_tree.specs.declared.object_type.ObjectType.TheVariants as object
use Rattle.c_tree.specs.declared.object_type.Object.TheVariants.{Static, Automatic, Literal}
use Rattle.c_tree.specs.declared.object_type.ValueType.{ValueType}
use Rattle.c_tree.specs.declared.object_type.ValueType.TheVariants.{Void, Integer, Pointer}
use Rattle.c_tree.specs.declared.typed_expression.Arithmetic.{Arithmetic}
use Rattle.c_tree.specs.declared.typed_expression.Arithmetic.TheVariants.{ShiftLeft, ShiftRight}
use Rattle.c_tree.specs.TypedExpressions.{RvalueTree, LvalueTree, ArgumentTrees, Constant, Null, Load, Decay, AddressOf, Convert, Discard, Signed, Not, Arithmetic as Calculate, Compare, ComparePointers, Move, MoveFrom, Difference, And, Or, Conditional, Comma, Assign, Update, UpdatePointer, Step, StepPointer, Call, Named, Target, Element, ElementFrom, none, first}
use Rattle.c_tree.specs.TypedStatements.{InitialTree, DeclaredTree, TypedStartTree, StepTree, TypedStatementTree, TypedStatementTrees}
use Rattle.c_tree.specs.TypedStatements as statement
use Rattle.c_tree.specs.Programs.{AutomaticTree, TypedFunctionTree, ProgramTree}
use Rattle.c_type_rules.specs.Types.{loaded_type, same_integer}
use Rattle.c_type_rules.specs.Integers.{promoted}
use Rattle.c_places.specs.Memory.{with_named_variable, named_if, keeps, kept_in, kept_in_arguments, kept_values, kept_initial, kept_declared, kept_start, kept_option, kept_step, kept_by, kept_by_all}
use Rattle.c_type_rules.specs.ValueTypes.{object_type}
use Rattle.c_type_laws.specs.Kind.{Kind, Wrong, NullPointer, Of}
use Rattle.c_type_laws.specs.Kinds.{of_if, is_promoted, is_of, is_typed, is_scalar, is_pointer, is_integer, is_counted, joined, is_operand, holds_scalar, holds_integer, holds_pointer, is_array, automatic_is, is_variable, is_callee, taken_by}
use Rattle.c_type_laws.specs.Expressions.{kind_of, is_place, are_passed}
use Rattle.c_type_laws.specs.Statements.{same_spot, initialises, are_elements, declares_as, is_declared, are_declared, is_start, is_step, is_condition, is_returned, is_void, tested_type, is_switch, is_label, may_stand, is_statement, are_statements}
use Rattle.c_source.proofs.Same.{two_true}
use Rattle.c_source.proofs.Fitting.{typed_kind}
use Rattle.c_source.proofs.Judging.{le_is}
use Rattle.c_source.proofs.Marking.{AreWithin}
use Rattle.base_laws.proofs.Booleans.{four_true, three_true}
use Rattle.base_laws.proofs.Numbers.{is_less as lt_is}

-- what fits, and values that are typed
fits_if : (b : Bool) (t : ValueType) → is_typed (of_if b t) ≡ true → b ≡ true
fits_if true t h = refl
fits_if false t h = cc

chosen_if : (b : Bool) (k : Kind) → is_typed (if b then k else Wrong) ≡ true → (b ≡ true) × (is_typed k ≡ true)
chosen_if true k h = (refl, h)
chosen_if false k h = cc

scalar_typed : (k : Kind) → is_scalar k ≡ true → is_typed k ≡ true
scalar_typed Wrong h = cc
scalar_typed NullPointer h = refl
scalar_typed (Of t) h = refl

integer_typed : (k : Kind) → is_integer k ≡ true → is_typed k ≡ true
integer_typed Wrong h = cc
integer_typed NullPointer h = cc
integer_typed (Of t) h = refl

counted_typed : (k : Kind) → is_counted k ≡ true → is_typed k ≡ true
counted_typed Wrong h = cc
counted_typed NullPointer h = cc
counted_typed (Of t) h = refl

pointer_typed : (k : Kind) → is_pointer k ≡ true → is_typed k ≡ true
pointer_typed Wrong h = cc
pointer_typed NullPointer h = refl
pointer_typed (Of t) h = refl

operand_typed : (o : Arithmetic) (t : IntegerType) (k : Kind) → is_operand o t k ≡ true → is_typed k ≡ true
operand_typed ShiftLeft t k h = counted_typed k h
operand_typed ShiftRight t k h = counted_typed k h
operand_typed _ t k h = typed_kind k (Integer t) h

joined_typed : (a b : Kind) → is_typed (joined a b) ≡ true → (is_typed a ≡ true) × (is_typed b ≡ true)
joined_typed Wrong b h = cc
joined_typed NullPointer Wrong h = cc
joined_typed NullPointer NullPointer h = (refl, refl)
joined_typed NullPointer (Of t) h = (refl, refl)
joined_typed (Of t) Wrong h = cc
joined_typed (Of t) NullPointer h = (refl, refl)
joined_typed (Of t) (Of u) h = (refl, refl)

switch_typed : (k : Kind) → is_switch (tested_type k) ≡ true → is_typed k ≡ true
switch_typed Wrong h = cc
switch_typed NullPointer h = refl
switch_typed (Of t) h = refl

within_push : (m n k : ℕ) (ks : List ℕ) → AreWithin m n ks → m ≤ k → k < n → AreWithin m n (ks ++ k ∷ [])
within_push m n k [] h le lt = ((le, lt), tt)
within_push m n k (x ∷ ks) h le lt = (h.0, within_push m n k ks h.1 le lt)

module _ (p : ProgramTree) (f : TypedFunctionTree) where
  -- variables of a function
  abbrev pub AreOwn : List ℕ → Type 0
  AreOwn ks = AreWithin f.first_variable (f.first_variable + f.variables) ks

  named_own : (l : LvalueTree) (ks : List ℕ) → is_place p f l ≡ true → AreOwn ks → AreOwn (with_named_variable l ks)
  named_own (Named (Automatic i) of) ks h own =
      let c = two_true (is_variable f i) (automatic_is (slice_get p.automatics i) of) h in
      let d = two_true (nat_le f.first_variable i) (nat_lt i (f.first_variable + f.variables)) c.0 in
      within_push f.first_variable (f.first_variable + f.variables) i ks own (le_is f.first_variable i d.0) (lt_is i (f.first_variable + f.variables) d.1)
  named_own (Named (Static n) of) ks h own = own
  named_own (Named (Literal n) of) ks h own = own
  named_own (Target of a) ks h own = own
  named_own (Element of a i) ks h own = own
  named_own (ElementFrom of i a) ks h own = own

  named_if_own : (q : Bool) (l : LvalueTree) (ks : List ℕ) → is_place p f l ≡ true → AreOwn ks → AreOwn (named_if q l ks)
  named_if_own true l ks h own = named_own l ks h own
  named_if_own false l ks h own = own

  mutual
    -- of an expression
    pub keeps_own : (q : Bool) (e : RvalueTree) (ks : List ℕ) → is_typed (kind_of p f e) ≡ true → AreOwn ks → AreOwn (keeps q e ks)
    keeps_own q (Constant z t) ks h own = own
    keeps_own q Null ks h own = own
    keeps_own q (Load s l) ks h own = place_own q l ks (two_true (holds_scalar (object_type l) s) (is_place p f l) (fits_if _ (loaded_type s) h)).1 own
    keeps_own q (Decay l) ks h own = place_own q l ks (two_true (is_array (object_type l)) (is_place p f l) (fits_if _ _ h)).1 own
    keeps_own q (AddressOf l) ks h own = let c = fits_if (is_place p f l) (Pointer (object_type l)) h in place_own q l (with_named_variable l ks) c (named_own l ks c own)
    keeps_own q (Convert t e) ks h own = keeps_own q e ks (integer_typed (kind_of p f e) (fits_if _ (Integer t) h)) own
    keeps_own q (Discard e) ks h own = keeps_own q e ks (fits_if (is_typed (kind_of p f e)) Void h) own
    keeps_own q (Signed o t e) ks h own = keeps_own q e ks (typed_kind (kind_of p f e) (Integer t) (two_true (is_promoted t) (is_of (kind_of p f e) (Integer t)) (fits_if _ (Integer t) h)).1) own
    keeps_own q (Not e) ks h own = keeps_own q e ks (scalar_typed (kind_of p f e) (fits_if (is_scalar (kind_of p f e)) _ h)) own
    keeps_own q (Calculate o t a b) ks h own =
        let c = three_true (is_promoted t) (is_of (kind_of p f a) (Integer t)) (is_operand o t (kind_of p f b)) (fits_if _ (Integer t) h) in
        keeps_own q b (keeps q a ks) (operand_typed o t (kind_of p f b) c.2) (keeps_own q a ks (typed_kind (kind_of p f a) (Integer t) c.1) own)
    keeps_own q (Compare o t a b) ks h own =
        let c = three_true (is_promoted t) (is_of (kind_of p f a) (Integer t)) (is_of (kind_of p f b) (Integer t)) (fits_if _ _ h) in
        keeps_own q b (keeps q a ks) (typed_kind (kind_of p f b) (Integer t) c.2) (keeps_own q a ks (typed_kind (kind_of p f a) (Integer t) c.1) own)
    keeps_own q (ComparePointers o a b) ks h own =
        let c = joined_typed (kind_of p f a) (kind_of p f b) (pointer_typed (joined (kind_of p f a) (kind_of p f b)) (fits_if _ _ h)) in
        keeps_own q b (keeps q a ks) c.1 (keeps_own q a ks c.0 own)
    keeps_own q (Move d u a b) ks h own =
        let c = two_true (is_of (kind_of p f a) (Pointer u)) (is_counted (kind_of p f b)) (fits_if _ (Pointer u) h) in
        keeps_own q b (keeps q a ks) (counted_typed (kind_of p f b) c.1) (keeps_own q a ks (typed_kind (kind_of p f a) (Pointer u) c.0) own)
    keeps_own q (MoveFrom b u a) ks h own =
        let c = two_true (is_counted (kind_of p f b)) (is_of (kind_of p f a) (Pointer u)) (fits_if _ (Pointer u) h) in
        keeps_own q a (keeps q b ks) (typed_kind (kind_of p f a) (Pointer u) c.1) (keeps_own q b ks (counted_typed (kind_of p f b) c.0) own)
    keeps_own q (Difference u a b) ks h own =
        let c = two_true (is_of (kind_of p f a) (Pointer u)) (is_of (kind_of p f b) (Pointer u)) (fits_if _ _ h) in
        keeps_own q b (keeps q a ks) (typed_kind (kind_of p f b) (Pointer u) c.1) (keeps_own q a ks (typed_kind (kind_of p f a) (Pointer u) c.0) own)
    keeps_own q (And a b) ks h own =
        let c = two_true (is_scalar (kind_of p f a)) (is_scalar (kind_of p f b)) (fits_if _ _ h) in
        keeps_own true b (keeps q a ks) (scalar_typed (kind_of p f b) c.1) (keeps_own q a ks (scalar_typed (kind_of p f a) c.0) own)
    keeps_own q (Or a b) ks h own =
        let c = two_true (is_scalar (kind_of p f a)) (is_scalar (kind_of p f b)) (fits_if _ _ h) in
        keeps_own true b (keeps q a ks) (scalar_typed (kind_of p f b) c.1) (keeps_own q a ks (scalar_typed (kind_of p f a) c.0) own)
    keeps_own q (Conditional e a b) ks h own =
        let c = chosen_if (is_scalar (kind_of p f e)) (joined (kind_of p f a) (kind_of p f b)) h in
        let d = joined_typed (kind_of p f a) (kind_of p f b) c.1 in
        keeps_own true b (keeps true a (keeps q e ks)) d.1 (keeps_own true a (keeps q e ks) d.0 (keeps_own q e ks (scalar_typed (kind_of p f e) c.0) own))
    keeps_own q (Comma a b) ks h own = let c = chosen_if (is_typed (kind_of p f a)) (kind_of p f b) h in keeps_own q b (keeps q a ks) c.1 (keeps_own q a ks c.0 own)
    keeps_own q (Assign s l e) ks h own =
        let c = three_true (holds_scalar (object_type l) s) (is_place p f l) (is_of (kind_of p f e) (loaded_type s)) (fits_if _ (loaded_type s) h) in
        keeps_own q e (kept_in q l (named_if q l ks)) (typed_kind (kind_of p f e) (loaded_type s) c.2) (place_own q l (named_if q l ks) c.1 (named_if_own q l ks c.1 own))
    keeps_own q (Update o t u l e) ks h own =
        let c = four_true (holds_integer (object_type l) t) (is_promoted u) (is_place p f l) (is_operand o u (kind_of p f e)) (fits_if _ (Integer t) h) in
        keeps_own q e (kept_in q l (named_if q l ks)) (operand_typed o u (kind_of p f e) c.3) (place_own q l (named_if q l ks) c.2 (named_if_own q l ks c.2 own))
    keeps_own q (UpdatePointer d u l e) ks h own =
        let c = three_true (holds_pointer (object_type l) u) (is_place p f l) (is_counted (kind_of p f e)) (fits_if _ (Pointer u) h) in
        keeps_own q e (kept_in q l (named_if q l ks)) (counted_typed (kind_of p f e) c.2) (place_own q l (named_if q l ks) c.1 (named_if_own q l ks c.1 own))
    keeps_own q (Step d g t u l) ks h own =
        let c = three_true (holds_integer (object_type l) t) (same_integer u (promoted t)) (is_place p f l) (fits_if _ (Integer t) h) in
        place_own q l (named_if q l ks) c.2 (named_if_own q l ks c.2 own)
    keeps_own q (StepPointer d g u l) ks h own =
        let c = two_true (holds_pointer (object_type l) u) (is_place p f l) (fits_if _ (Pointer u) h) in place_own q l (named_if q l ks) c.1 (named_if_own q l ks c.1 own)
    keeps_own q (Call c all) ks h own = let d = two_true (is_callee p c) (are_passed p f (taken_by p c) all) (fits_if _ _ h) in all_own q all (taken_by p c) ks d.1 own

    -- of an lvalue
    place_own : (q : Bool) (l : LvalueTree) (ks : List ℕ) → is_place p f l ≡ true → AreOwn ks → AreOwn (kept_in q l ks)
    place_own q (Named o of) ks h own = own
    place_own q (Target of a) ks h own = keeps_own q a ks (typed_kind (kind_of p f a) (Pointer of) h) own
    place_own q (Element of a i) ks h own =
        let c = two_true (is_of (kind_of p f a) (Pointer of)) (is_counted (kind_of p f i)) h in
        keeps_own q i (keeps q a ks) (counted_typed (kind_of p f i) c.1) (keeps_own q a ks (typed_kind (kind_of p f a) (Pointer of) c.0) own)
    place_own q (ElementFrom of i a) ks h own =
        let c = two_true (is_counted (kind_of p f i)) (is_of (kind_of p f a) (Pointer of)) h in
        keeps_own q a (keeps q i ks) (typed_kind (kind_of p f a) (Pointer of) c.1) (keeps_own q i ks (counted_typed (kind_of p f i) c.0) own)

    -- of arguments
    all_own : (q : Bool) (all : ArgumentTrees) (ts : List ValueType) (ks : List ℕ) → are_passed p f ts all ≡ true → AreOwn ks → AreOwn (kept_in_arguments q all ks)
    all_own q none ts ks h own = own
    all_own q (first e rest) [] ks h own = cc
    all_own q (first e rest) (t ∷ ts) ks h own =
        let c = two_true (is_of (kind_of p f e) t) (are_passed p f ts rest) h in all_own q rest ts (keeps q e ks) c.1 (keeps_own q e ks (typed_kind (kind_of p f e) t c.0) own)

  values_own : (s : Scalar) (es : List RvalueTree) (ks : List ℕ) → are_elements p f s es ≡ true → AreOwn ks → AreOwn (kept_values es ks)
  values_own s [] ks h own = own
  values_own s (e ∷ more) ks h own = let c = two_true (is_of (kind_of p f e) (loaded_type s)) (are_elements p f s more) h in values_own s more (keeps false e ks) c.1 (keeps_own false e ks (typed_kind (kind_of p f e) (loaded_type s) c.0) own)

  initial_own : (of : ObjectType) (i : InitialTree) (ks : List ℕ) → initialises p f of i ≡ true → AreOwn ks → AreOwn (kept_initial i ks)
  initial_own of statement.Zero ks h own = own
  initial_own (object.Scalar s) (statement.Scalar e) ks h own = keeps_own false e ks (typed_kind (kind_of p f e) (loaded_type s) h) own
  initial_own (object.Array s n) (statement.Scalar e) ks h own = cc
  initial_own (object.Scalar s) (statement.Elements all) ks h own = cc
  initial_own (object.Array s n) (statement.Elements all) ks h own = values_own s all ks (two_true (nat_le (length all) n) (are_elements p f s all) h).1 own
  initial_own (object.Scalar s) (statement.Literal n) ks h own = own
  initial_own (object.Array s m) (statement.Literal n) ks h own = own

  declared_own : (all : List DeclaredTree) (ks : List ℕ) → are_declared p f all ≡ true → AreOwn ks → AreOwn (kept_declared all ks)
  declared_own [] ks h own = own
  declared_own (d ∷ more) ks h own =
      let c = two_true (is_declared p f d) (are_declared p f more) h in
      let e = three_true (nat_le (f.first_variable + f.parameters) d.variable) (nat_lt d.variable (f.first_variable + f.variables)) (declares_as p f d (slice_get p.automatics d.variable)) c.0 in
      declared_own more (kept_initial d.initial ks) c.1 (by (slice_get p.automatics d.variable) e.2)
    where
      by : (o : Option AutomaticTree) → declares_as p f d o ≡ true → AreOwn (kept_initial d.initial ks)
      by None g = cc
      by (Some a) g = initial_own a.of d.initial ks (two_true (same_spot d.spot a.spot) (initialises p f a.of d.initial) g).1 own

  start_own : (a : TypedStartTree) (ks : List ℕ) → is_start p f a ≡ true → AreOwn ks → AreOwn (kept_start a ks)
  start_own statement.Nothing ks h own = own
  start_own (statement.Value spot e) ks h own = keeps_own false e ks h own
  start_own (statement.Declares all) ks h own = declared_own all ks h own

  condition_own : (o : Option RvalueTree) (ks : List ℕ) → is_condition p f o ≡ true → AreOwn ks → AreOwn (kept_option o ks)
  condition_own None ks h own = own
  condition_own (Some e) ks h own = keeps_own false e ks (scalar_typed (kind_of p f e) h) own

  step_own : (o : Option StepTree) (ks : List ℕ) → is_step p f o ≡ true → AreOwn ks → AreOwn (kept_step o ks)
  step_own None ks h own = own
  step_own (Some s) ks h own = keeps_own false s.value ks h own

  returned_own : (o : Option RvalueTree) (ks : List ℕ) → is_returned p f o ≡ true → AreOwn ks → AreOwn (kept_option o ks)
  returned_own None ks h own = own
  returned_own (Some e) ks h own = keeps_own false e ks (typed_kind (kind_of p f e) f.result (two_true (not (is_void f.result)) (is_of (kind_of p f e) f.result) h).1) own

  mutual
    -- of a statement
    pub statement_own : (b c : Bool) (s : TypedStatementTree) (ks : List ℕ) → is_statement p f b c s ≡ true → AreOwn ks → AreOwn (kept_by s ks)
    statement_own b c (statement.Block all) ks h own = statements_own b c None all ks h own
    statement_own b c (statement.Declaration all) ks h own = declared_own all ks h own
    statement_own b c (statement.Empty spot) ks h own = own
    statement_own b c (statement.Run spot e) ks h own = keeps_own false e ks h own
    statement_own b c (statement.If spot e s) ks h own =
        let d = two_true (is_scalar (kind_of p f e)) (is_statement p f b c s) h in statement_own b c s (keeps false e ks) d.1 (keeps_own false e ks (scalar_typed (kind_of p f e) d.0) own)
    statement_own b c (statement.IfElse spot e s r) ks h own =
        let d = three_true (is_scalar (kind_of p f e)) (is_statement p f b c s) (is_statement p f b c r) h in
        statement_own b c r (kept_by s (keeps false e ks)) d.2 (statement_own b c s (keeps false e ks) d.1 (keeps_own false e ks (scalar_typed (kind_of p f e) d.0) own))
    statement_own b c (statement.While spot e s) ks h own =
        let d = two_true (is_scalar (kind_of p f e)) (is_statement p f true true s) h in statement_own true true s (keeps false e ks) d.1 (keeps_own false e ks (scalar_typed (kind_of p f e) d.0) own)
    statement_own b c (statement.DoWhile s spot e) ks h own =
        let d = two_true (is_scalar (kind_of p f e)) (is_statement p f true true s) h in keeps_own false e (kept_by s ks) (scalar_typed (kind_of p f e) d.0) (statement_own true true s ks d.1 own)
    statement_own b c (statement.For a spot e o s) ks h own =
        let d = four_true (is_start p f a) (is_condition p f e) (is_step p f o) (is_statement p f true true s) h in
        statement_own true true s (kept_step o (kept_option e (kept_start a ks))) d.3 (step_own o (kept_option e (kept_start a ks)) d.2 (condition_own e (kept_start a ks) d.1 (start_own a ks d.0 own)))
    statement_own b c (statement.Switch spot e all) ks h own =
        let d = two_true (is_switch (tested_type (kind_of p f e))) (are_statements p f true c (tested_type (kind_of p f e)) all) h in
        statements_own true c (tested_type (kind_of p f e)) all (keeps false e ks) d.1 (keeps_own false e ks (switch_typed (kind_of p f e) d.0) own)
    statement_own b c (statement.Break spot) ks h own = own
    statement_own b c (statement.Continue spot) ks h own = own
    statement_own b c (statement.Return spot e) ks h own = returned_own e ks h own

    -- of statements
    pub statements_own : (b c : Bool) (tested : Option IntegerType) (all : TypedStatementTrees) (ks : List ℕ) → are_statements p f b c tested all ≡ true → AreOwn ks → AreOwn (kept_by_all all ks)
    statements_own b c tested statement.none ks h own = own
    statements_own b c tested (statement.first s rest) ks h own =
        let d = three_true (may_stand tested s) (is_statement p f b c s) (are_statements p f b c tested rest) h in statements_own b c tested rest (kept_by s ks) d.2 (statement_own b c s ks d.1 own)
    statements_own b c tested (statement.case z rest) ks h own = statements_own b c tested rest ks (two_true (is_label tested z) (are_statements p f b c tested rest) h).1 own
    statements_own b c tested (statement.default rest) ks h own = statements_own b c tested rest ks (two_true (is_switch tested) (are_statements p f b c tested rest) h).1 own
