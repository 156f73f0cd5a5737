-- What expressions and statements name: objects that are there, the addresses of those in memory, and calls with as many arguments as what they call takes.
use Rattle.std.proofs.Common.{◌≡◌, ℕ, suc, ◌<◌, ◌⊎◌, Bool, true, Option, Some, None, List, [], ◌∷◌, ◌++◌, length, slice_get, refl, sym, ap, ◌∙◌, subst}
use Rattle.std.specs.Prelude.{◌&&◌, nat_le}
use Rattle.std.proofs.lemmas.Option.{slice_get_within}
use Rattle.c_tree.specs.declared.types.IntegerType.{IntegerType}
use Rattle.c_tree.specs.declared.types.IntegerType.TheVariants.{Int}
use Rattle.c_tree.specs.declared.object_type.ObjectType.{ObjectType}
use Rattle.c_tree.specs.declared.object_type.ObjectType.TheVariants as of-object
use Rattle.c_tree.specs.declared.object_type.ValueType.{ValueType}
use Rattle.c_tree.specs.declared.object_type.ValueType.TheVariants.{Void, Integer, Pointer}
use Rattle.c_tree.specs.declared.object_type.Object as designator
use Rattle.c_tree.specs.declared.object_type.Object.TheVariants as object
use Rattle.c_tree.specs.declared.typed_expression.Arithmetic as declared-arithmetic
use Rattle.c_tree.specs.declared.typed_expression.Arithmetic.TheVariants as arithmetic-is
use Rattle.c_tree.specs.declared.typed_expression.Callee as source-callee
use Rattle.c_tree.specs.TypedExpressions.{RvalueTree, LvalueTree, ArgumentTrees, Constant, Null, Load, Decay, AddressOf, Convert, Discard, Signed, Not, Arithmetic, Compare, ComparePointers, Move, MoveFrom, Difference, And, Or, Conditional, Comma, Assign, Update, UpdatePointer, Step, StepPointer, Call, Named, Target, Element, ElementFrom, none, first}
use Rattle.c_tree.specs.Programs.{AutomaticTree, LiteralTree, StaticTree, TypedFunctionTree, ProgramTree}
use Rattle.c_places.specs.Memory.{with_named_variable, named_if, keeps, kept_in, kept_in_arguments}
use Rattle.c_type_rules.specs.Integers.{promoted}
use Rattle.c_type_rules.specs.Types.{loaded_type, same_integer}
use Rattle.c_type_rules.specs.ValueTypes.{object_type, decayed, results_of, given_by}
use Rattle.c_type_laws.specs.Kind.{Kind, Wrong, NullPointer, Of}
use Rattle.c_type_laws.specs.Kinds.{is_promoted, is_of, is_typed, is_scalar, is_pointer as is_pointer_kind, is_integer, is_counted, joined, is_operand, holds_scalar, holds_integer, holds_pointer, is_array, static_is, literal_is, automatic_is, is_variable, is_object, is_callee, taken_by}
use Rattle.c_type_laws.specs.Expressions.{kind_of, is_place, are_passed}
use Rattle.c_type_laws.specs.Laws.{is_in_memory, are_in_memory}
use Rattle.c_type_laws.specs.Objects.{is_kept_array}
use Rattle.graph_core.specs.Graphs.{Graph}
use Rattle.graph_core.specs.Validity.{IsCall}
use Rattle.graph_build_names.specs.Names.{Names as NamesOf, scalar_of, object_of}
use Rattle.graph_build_steps.specs.Rules.{callee_for}
use Rattle.graph_build_runs.proofs.Types.{object_is}
use Rattle.graph_build_runs.proofs.Shapes.{fits_of, typed_of, any_integer, counted_typed, scalar_typed, two_true, three_true, four_true, joined_typed, if_typed}
use Rattle.graph_build_laws.proofs.Kept.{InIt, front}

-- how many arguments there are
abbrev pub arguments : ArgumentTrees → ℕ
arguments none = 0
arguments (first e rest) = suc (arguments rest)

module _ (p : ProgramTree) (graphs : List Graph) (n : NamesOf) where
  -- an object is of static storage, or an automatic one in memory
  abbrev pub InMemory : designator.Object → Type 0
  InMemory (object.Static i) = i < length p.statics
  InMemory (object.Literal i) = i < length p.literals
  InMemory (object.Automatic v) = (j : ℕ) × (object_of n v ≡ Some j)

  -- an object is there: an automatic one has a name or stands in memory
  abbrev pub IsThere : designator.Object → Type 0
  IsThere (object.Static i) = i < length p.statics
  IsThere (object.Literal i) = i < length p.literals
  IsThere (object.Automatic v) = ((k : ℕ) × (scalar_of n v ≡ Some k)) ⊎ ((j : ℕ) × (object_of n v ≡ Some j))

  -- what an lvalue designates has an address
  abbrev pub HasAddress : LvalueTree → Type 0
  HasAddress (Named o of) = InMemory o
  HasAddress (Target of a) = Unit {0}
  HasAddress (Element of a i) = Unit {0}
  HasAddress (ElementFrom of i a) = Unit {0}

  abbrev mutual
    -- an expression names what is there
    pub ExpressionNames : RvalueTree → Type 0
    ExpressionNames (Constant z t) = Unit {0}
    ExpressionNames Null = Unit {0}
    ExpressionNames (Load s l) = PlaceNames l
    ExpressionNames (Decay l) = PlaceNames l × HasAddress l
    ExpressionNames (AddressOf l) = PlaceNames l × HasAddress l
    ExpressionNames (Convert t e) = ExpressionNames e
    ExpressionNames (Discard e) = ExpressionNames e
    ExpressionNames (Signed o t e) = ExpressionNames e
    ExpressionNames (Not e) = ExpressionNames e
    ExpressionNames (Arithmetic o t a b) = ExpressionNames a × ExpressionNames b
    ExpressionNames (Compare o t a b) = ExpressionNames a × ExpressionNames b
    ExpressionNames (ComparePointers o a b) = ExpressionNames a × ExpressionNames b
    ExpressionNames (Move d of a b) = ExpressionNames a × ExpressionNames b
    ExpressionNames (MoveFrom b of a) = ExpressionNames b × ExpressionNames a
    ExpressionNames (Difference of a b) = ExpressionNames a × ExpressionNames b
    ExpressionNames (And a b) = ExpressionNames a × ExpressionNames b
    ExpressionNames (Or a b) = ExpressionNames a × ExpressionNames b
    ExpressionNames (Conditional c a b) = ExpressionNames c × ExpressionNames a × ExpressionNames b
    ExpressionNames (Comma a b) = ExpressionNames a × ExpressionNames b
    ExpressionNames (Assign s l e) = PlaceNames l × ExpressionNames e
    ExpressionNames (Update o t u l e) = PlaceNames l × ExpressionNames e
    ExpressionNames (UpdatePointer d of l e) = PlaceNames l × ExpressionNames e
    ExpressionNames (Step d g t u l) = PlaceNames l
    ExpressionNames (StepPointer d g of l) = PlaceNames l
    ExpressionNames (Call c all) = IsCall graphs (callee_for c) (arguments all) × ArgumentsName all

    -- an lvalue does
    pub PlaceNames : LvalueTree → Type 0
    PlaceNames (Named o of) = IsThere o
    PlaceNames (Target of a) = ExpressionNames a
    PlaceNames (Element of a i) = ExpressionNames a × ExpressionNames i
    PlaceNames (ElementFrom of i a) = ExpressionNames i × ExpressionNames a

    -- arguments do
    pub ArgumentsName : ArgumentTrees → Type 0
    ArgumentsName none = Unit {0}
    ArgumentsName (first e rest) = ExpressionNames e × ArgumentsName rest

operand_typed : (o : declared-arithmetic.Arithmetic) (t : IntegerType) (k : Kind) → is_operand o t k ≡ true → is_typed k ≡ true
operand_typed arithmetic-is.ShiftLeft t k h = counted_typed k h
operand_typed arithmetic-is.ShiftRight t k h = counted_typed k h
operand_typed arithmetic-is.Multiply t k h = typed_of k (Integer t) h
operand_typed arithmetic-is.Divide t k h = typed_of k (Integer t) h
operand_typed arithmetic-is.Remainder t k h = typed_of k (Integer t) h
operand_typed arithmetic-is.Add t k h = typed_of k (Integer t) h
operand_typed arithmetic-is.Subtract t k h = typed_of k (Integer t) h
operand_typed arithmetic-is.BitAnd t k h = typed_of k (Integer t) h
operand_typed arithmetic-is.BitXor t k h = typed_of k (Integer t) h
operand_typed arithmetic-is.BitOr t k h = typed_of k (Integer t) h

pointer_typed : (k : Kind) → is_pointer_kind k ≡ true → is_typed k ≡ true
pointer_typed Wrong h = cc
pointer_typed NullPointer h = refl
pointer_typed (Of t) h = refl

-- an array that is kept as arrays are is in memory
kept_array : (inside : Bool) (of : ObjectType) → is_array of ≡ true → is_kept_array inside of ≡ true → inside ≡ true
kept_array inside (of-object.Scalar s) h e = cc
kept_array inside (of-object.Array s n) h e = (two_true (nat_le 1 n) inside e).1

in_back : (all : List AutomaticTree) (xs ys : List ℕ) → InIt all (xs ++ ys) → InIt all ys
in_back all [] ys h = h
in_back all (x ∷ xs) ys h = in_back all xs ys (two_true (is_in_memory (slice_get all x)) (are_in_memory all (xs ++ ys)) h).1

-- what stands in memory before an lvalue, or arguments, is among what does behind them
front_in : (all : List AutomaticTree) (q : Bool) (l : LvalueTree) (ks : List ℕ) → InIt all (kept_in q l ks) → InIt all ks
front_in all q (Named o of) ks h = h
front_in all q (Target of a) ks h = front all q a ks h
front_in all q (Element of a i) ks h = front all q a ks (front all q i (keeps q a ks) h)
front_in all q (ElementFrom of i a) ks h = front all q i ks (front all q a (keeps q i ks) h)

front_all : (all : List AutomaticTree) (q : Bool) (args : ArgumentTrees) (ks : List ℕ) → InIt all (kept_in_arguments q args ks) → InIt all ks
front_all all q none ks h = h
front_all all q (first e rest) ks h = front all q e ks (front_all all q rest (keeps q e ks) h)

-- What is known where a function's expressions stand: variables have homes, those in memory have objects, arrays are in memory, and callees take their arguments.
pub record HasHomes (p : ProgramTree) (f : TypedFunctionTree) (graphs : List Graph) (n : NamesOf) : Type 0 where
  pub homes : (v : ℕ) → is_variable f v ≡ true → IsThere p graphs n (object.Automatic v)
  pub kept : (v : ℕ) → is_variable f v ≡ true → is_in_memory (slice_get p.automatics v) ≡ true → (j : ℕ) × (object_of n v ≡ Some j)
  pub arrays : (v : ℕ) (a : AutomaticTree) → slice_get p.automatics v ≡ Some a → is_kept_array a.in_memory a.of ≡ true
  pub callees : (c : source-callee.Callee) → is_callee p c ≡ true → IsCall graphs (callee_for c) (length (taken_by p c))

module _ (p : ProgramTree) (f : TypedFunctionTree) (graphs : List Graph) (n : NamesOf) (have : HasHomes p f graphs n) where
  abbrev K : RvalueTree → Kind
  K e = kind_of p f e

  abbrev P : LvalueTree → Bool
  P l = is_place p f l

  abbrev M : List ℕ → Type 0
  M ks = InIt p.automatics ks

  abbrev before : (q : Bool) (e : RvalueTree) (ks : List ℕ) → M (keeps q e ks) → M ks
  before q e ks h = front p.automatics q e ks h

  abbrev before_in : (q : Bool) (l : LvalueTree) (ks : List ℕ) → M (kept_in q l ks) → M ks
  before_in q l ks h = front_in p.automatics q l ks h

  static_there : (of : ObjectType) (i : ℕ) (o : Option StaticTree) → slice_get p.statics i ≡ o → static_is o of ≡ true → i < length p.statics
  static_there of i None e h = cc
  static_there of i (Some v) e h = slice_get_within p.statics i v e

  literal_there : (of : ObjectType) (i : ℕ) (o : Option LiteralTree) → slice_get p.literals i ≡ o → literal_is o of ≡ true → i < length p.literals
  literal_there of i None e h = cc
  literal_there of i (Some v) e h = slice_get_within p.literals i v e

  object_there : (o : designator.Object) (of : ObjectType) → is_object p f o of ≡ true → IsThere p graphs n o
  object_there (object.Static i) of h = static_there of i (slice_get p.statics i) refl h
  object_there (object.Literal i) of h = literal_there of i (slice_get p.literals i) refl h
  object_there (object.Automatic v) of h = have.homes v (two_true (is_variable f v) (automatic_is (slice_get p.automatics v) of) h).0

  array_inside : (l : LvalueTree) → is_array (object_type l) ≡ true → P l ≡ true → HasAddress p graphs n l
  array_inside (Named (object.Static i) of) h c = object_there (object.Static i) of c
  array_inside (Named (object.Literal i) of) h c = object_there (object.Literal i) of c
  array_inside (Named (object.Automatic v) of) h c = let b = two_true (is_variable f v) (automatic_is (slice_get p.automatics v) of) c in by (slice_get p.automatics v) refl b.1 (λ e. have.kept v b.0 e)
    where
      by : (r : Option AutomaticTree) → slice_get p.automatics v ≡ r → automatic_is r of ≡ true → (is_in_memory (slice_get p.automatics v) ≡ true → (j : ℕ) × (object_of n v ≡ Some j)) → (j : ℕ) × (object_of n v ≡ Some j)
      by None e q go = cc
      by (Some a) e q go = let same : a.of ≡ of = object_is a.of of q in go (ap is_in_memory e ∙ kept_array a.in_memory a.of (ap is_array same ∙ h) (have.arrays v a e))
  array_inside (Target of a) h c = tt
  array_inside (Element of a i) h c = tt
  array_inside (ElementFrom of i a) h c = tt

  address_inside : (l : LvalueTree) (ks : List ℕ) → P l ≡ true → M (with_named_variable l ks) → HasAddress p graphs n l
  address_inside (Named (object.Static i) of) ks c m = object_there (object.Static i) of c
  address_inside (Named (object.Literal i) of) ks c m = object_there (object.Literal i) of c
  address_inside (Named (object.Automatic v) of) ks c m =
      let b = two_true (is_variable f v) (automatic_is (slice_get p.automatics v) of) c in
      have.kept v b.0 (two_true (is_in_memory (slice_get p.automatics v)) true (in_back p.automatics ks (v ∷ []) m)).0
  address_inside (Target of a) ks c m = tt
  address_inside (Element of a i) ks c m = tt
  address_inside (ElementFrom of i a) ks c m = tt

  as_many : (types : List ValueType) (args : ArgumentTrees) → are_passed p f types args ≡ true → arguments args ≡ length types
  as_many [] none h = refl
  as_many [] (first e rest) h = cc
  as_many (t ∷ types) none h = cc
  as_many (t ∷ types) (first e rest) h = ap suc (as_many types rest (two_true (is_of (K e) t) (are_passed p f types rest) h).1)

  mutual
    -- A well-typed expression names what is there.
    pub expression_names : (q : Bool) (e : RvalueTree) (ks : List ℕ) → is_typed (K e) ≡ true → M (keeps q e ks) → ExpressionNames p graphs n e
    expression_names q (Constant z t) ks h m = tt
    expression_names q Null ks h m = tt
    expression_names q (Load s l) ks h m =
        let a = fits_of (holds_scalar (object_type l) s && P l) (loaded_type s) h in place_named q l ks (two_true (holds_scalar (object_type l) s) (P l) a).1 m
    expression_names q (Decay l) ks h m =
        let a = fits_of (is_array (object_type l) && P l) (decayed (object_type l)) h in
        let b = two_true (is_array (object_type l)) (P l) a in (place_named q l ks b.1 m, array_inside l b.0 b.1)
    expression_names q (AddressOf l) ks h m = let a = fits_of (P l) (Pointer (object_type l)) h in (place_named q l (with_named_variable l ks) a m, address_inside l ks a (before_in q l (with_named_variable l ks) m))
    expression_names q (Convert t e) ks h m = let k = any_integer (K e) (fits_of (is_integer (K e)) (Integer t) h) in expression_names q e ks (ap is_typed k.1) m
    expression_names q (Discard e) ks h m = expression_names q e ks (fits_of (is_typed (K e)) Void h) m
    expression_names q (Signed o t e) ks h m = let b = two_true (is_promoted t) (is_of (K e) (Integer t)) (fits_of (is_promoted t && is_of (K e) (Integer t)) (Integer t) h) in expression_names q e ks (typed_of (K e) (Integer t) b.1) m
    expression_names q (Not e) ks h m = expression_names q e ks (scalar_typed (K e) (fits_of (is_scalar (K e)) (Integer Int) h)) m
    expression_names q (Arithmetic o t a b) ks h m =
        let c = three_true (is_promoted t) (is_of (K a) (Integer t)) (is_operand o t (K b)) (fits_of (is_promoted t && is_of (K a) (Integer t) && is_operand o t (K b)) (Integer t) h) in
        (expression_names q a ks (typed_of (K a) (Integer t) c.1) (before q b (keeps q a ks) m), expression_names q b (keeps q a ks) (operand_typed o t (K b) c.2) m)
    expression_names q (Compare o t a b) ks h m =
        let c = three_true (is_promoted t) (is_of (K a) (Integer t)) (is_of (K b) (Integer t)) (fits_of (is_promoted t && is_of (K a) (Integer t) && is_of (K b) (Integer t)) (Integer Int) h) in
        (expression_names q a ks (typed_of (K a) (Integer t) c.1) (before q b (keeps q a ks) m), expression_names q b (keeps q a ks) (typed_of (K b) (Integer t) c.2) m)
    expression_names q (ComparePointers o a b) ks h m =
        let c = joined_typed (K a) (K b) (pointer_typed (joined (K a) (K b)) (fits_of (is_pointer_kind (joined (K a) (K b))) (Integer Int) h)) in
        (expression_names q a ks c.0 (before q b (keeps q a ks) m), expression_names q b (keeps q a ks) c.1 m)
    expression_names q (Move d of a b) ks h m =
        let c = two_true (is_of (K a) (Pointer of)) (is_counted (K b)) (fits_of (is_of (K a) (Pointer of) && is_counted (K b)) (Pointer of) h) in
        (expression_names q a ks (typed_of (K a) (Pointer of) c.0) (before q b (keeps q a ks) m), expression_names q b (keeps q a ks) (counted_typed (K b) c.1) m)
    expression_names q (MoveFrom a of b) ks h m =
        let c = two_true (is_counted (K a)) (is_of (K b) (Pointer of)) (fits_of (is_counted (K a) && is_of (K b) (Pointer of)) (Pointer of) h) in
        (expression_names q a ks (counted_typed (K a) c.0) (before q b (keeps q a ks) m), expression_names q b (keeps q a ks) (typed_of (K b) (Pointer of) c.1) m)
    expression_names q (Difference of a b) ks h m =
        let c = two_true (is_of (K a) (Pointer of)) (is_of (K b) (Pointer of)) (fits_of (is_of (K a) (Pointer of) && is_of (K b) (Pointer of)) (Integer Int) h) in
        (expression_names q a ks (typed_of (K a) (Pointer of) c.0) (before q b (keeps q a ks) m), expression_names q b (keeps q a ks) (typed_of (K b) (Pointer of) c.1) m)
    expression_names q (And a b) ks h m =
        let c = two_true (is_scalar (K a)) (is_scalar (K b)) (fits_of (is_scalar (K a) && is_scalar (K b)) (Integer Int) h) in
        (expression_names q a ks (scalar_typed (K a) c.0) (before true b (keeps q a ks) m), expression_names true b (keeps q a ks) (scalar_typed (K b) c.1) m)
    expression_names q (Or a b) ks h m =
        let c = two_true (is_scalar (K a)) (is_scalar (K b)) (fits_of (is_scalar (K a) && is_scalar (K b)) (Integer Int) h) in
        (expression_names q a ks (scalar_typed (K a) c.0) (before true b (keeps q a ks) m), expression_names true b (keeps q a ks) (scalar_typed (K b) c.1) m)
    expression_names q (Conditional c a b) ks h m =
        let f = if_typed (is_scalar (K c)) (joined (K a) (K b)) h in
        let k = joined_typed (K a) (K b) f.1 in
        let m2 = before true b (keeps true a (keeps q c ks)) m in
        (expression_names q c ks (scalar_typed (K c) f.0) (before true a (keeps q c ks) m2), expression_names true a (keeps q c ks) k.0 m2, expression_names true b (keeps true a (keeps q c ks)) k.1 m)
    expression_names q (Comma a b) ks h m = let f = if_typed (is_typed (K a)) (K b) h in (expression_names q a ks f.0 (before q b (keeps q a ks) m), expression_names q b (keeps q a ks) f.1 m)
    expression_names q (Assign s l e) ks h m =
        let c = three_true (holds_scalar (object_type l) s) (P l) (is_of (K e) (loaded_type s)) (fits_of (holds_scalar (object_type l) s && P l && is_of (K e) (loaded_type s)) (loaded_type s) h) in
        let ws = named_if q l ks in
        (place_named q l ws c.1 (before q e (kept_in q l ws) m), expression_names q e (kept_in q l ws) (typed_of (K e) (loaded_type s) c.2) m)
    expression_names q (Update o t u l e) ks h m =
        let c = four_true (holds_integer (object_type l) t) (is_promoted u) (P l) (is_operand o u (K e)) (fits_of (holds_integer (object_type l) t && is_promoted u && P l && is_operand o u (K e)) (Integer t) h) in
        let ws = named_if q l ks in
        (place_named q l ws c.2 (before q e (kept_in q l ws) m), expression_names q e (kept_in q l ws) (operand_typed o u (K e) c.3) m)
    expression_names q (UpdatePointer d of l e) ks h m =
        let c = three_true (holds_pointer (object_type l) of) (P l) (is_counted (K e)) (fits_of (holds_pointer (object_type l) of && P l && is_counted (K e)) (Pointer of) h) in
        let ws = named_if q l ks in
        (place_named q l ws c.1 (before q e (kept_in q l ws) m), expression_names q e (kept_in q l ws) (counted_typed (K e) c.2) m)
    expression_names q (Step d g t u l) ks h m =
        let c = three_true (holds_integer (object_type l) t) (same_integer u (promoted t)) (P l) (fits_of (holds_integer (object_type l) t && same_integer u (promoted t) && P l) (Integer t) h) in place_named q l (named_if q l ks) c.2 m
    expression_names q (StepPointer d g of l) ks h m =
        let c = two_true (holds_pointer (object_type l) of) (P l) (fits_of (holds_pointer (object_type l) of && P l) (Pointer of) h) in place_named q l (named_if q l ks) c.1 m
    expression_names q (Call c args) ks h m =
        let r = fits_of (is_callee p c && are_passed p f (taken_by p c) args) (given_by (results_of p.functions) c) h in
        let b = two_true (is_callee p c) (are_passed p f (taken_by p c) args) r in
        (subst (λ k. IsCall graphs (callee_for c) k) (sym (as_many (taken_by p c) args b.1)) (have.callees c b.0), all_named q (taken_by p c) args ks b.1 m)

    place_named : (q : Bool) (l : LvalueTree) (ks : List ℕ) → P l ≡ true → M (kept_in q l ks) → PlaceNames p graphs n l
    place_named q (Named o of) ks h m = object_there o of h
    place_named q (Target of p) ks h m = expression_names q p ks (typed_of (K p) (Pointer of) h) m
    place_named q (Element of p i) ks h m =
        let c = two_true (is_of (K p) (Pointer of)) (is_counted (K i)) h in
        (expression_names q p ks (typed_of (K p) (Pointer of) c.0) (before q i (keeps q p ks) m), expression_names q i (keeps q p ks) (counted_typed (K i) c.1) m)
    place_named q (ElementFrom of i p) ks h m =
        let c = two_true (is_counted (K i)) (is_of (K p) (Pointer of)) h in
        (expression_names q i ks (counted_typed (K i) c.0) (before q p (keeps q i ks) m), expression_names q p (keeps q i ks) (typed_of (K p) (Pointer of) c.1) m)

    all_named : (q : Bool) (types : List ValueType) (args : ArgumentTrees) (ks : List ℕ) → are_passed p f types args ≡ true → M (kept_in_arguments q args ks) → ArgumentsName p graphs n args
    all_named q [] none ks h m = tt
    all_named q [] (first e rest) ks h m = cc
    all_named q (t ∷ types) none ks h m = tt
    all_named q (t ∷ types) (first e rest) ks h m =
        let c = two_true (is_of (K e) t) (are_passed p f types rest) h in
        (expression_names q e ks (typed_of (K e) t c.0) (front_all p.automatics q rest (keeps q e ks) m), all_named q types rest (keeps q e ks) c.1 m)
