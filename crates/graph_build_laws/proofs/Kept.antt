-- What has to stand in memory is told of the parts of an expression, too, and a well-typed expression takes the addresses of what does.
use Rattle.std.proofs.Common.{◌≡◌, ℕ, Bool, true, false, Option, Some, None, List, [], ◌∷◌, ◌++◌, slice_get, refl, ap, ◌∙◌}
use Rattle.std.specs.Prelude.{◌&&◌, nat_le}
use Rattle.c_tree.specs.declared.types.IntegerType.{IntegerType}
use Rattle.c_tree.specs.declared.types.IntegerType.TheVariants.{Int}
use Rattle.c_tree.specs.declared.object_type.ObjectType.{ObjectType}
use Rattle.c_tree.specs.declared.object_type.ObjectType.TheVariants as of-object
use Rattle.c_tree.specs.declared.object_type.ValueType.{ValueType}
use Rattle.c_tree.specs.declared.object_type.ValueType.TheVariants.{Void, Integer, Pointer}
use Rattle.c_tree.specs.declared.object_type.Object.TheVariants as object
use Rattle.c_tree.specs.declared.typed_expression.Arithmetic as declared-arithmetic
use Rattle.c_tree.specs.declared.typed_expression.Arithmetic.TheVariants as arithmetic-is
use Rattle.c_tree.specs.TypedExpressions.{RvalueTree, LvalueTree, ArgumentTrees, Constant, Null, Load, Decay, AddressOf, Convert, Discard, Signed, Not, Arithmetic, Compare, ComparePointers, Move, MoveFrom, Difference, And, Or, Conditional, Comma, Assign, Update, UpdatePointer, Step, StepPointer, Call, Named, Target, Element, ElementFrom, none, first}
use Rattle.c_tree.specs.Programs.{AutomaticTree}
use Rattle.c_places.specs.Memory.{with_named_variable, named_if, keeps, kept_in, kept_in_arguments}
use Rattle.c_type_rules.specs.Integers.{promoted}
use Rattle.c_type_rules.specs.Types.{loaded_type, same_integer}
use Rattle.c_type_rules.specs.ValueTypes.{object_type, decayed, results_of, given_by}
use Rattle.c_type_laws.specs.Kind.{Kind, Wrong, NullPointer, Of}
use Rattle.c_type_laws.specs.Kinds.{is_promoted, is_of, is_typed, is_scalar, is_pointer as is_pointer_kind, is_integer, is_counted, joined, is_operand, holds_scalar, holds_integer, holds_pointer, is_array, automatic_is, is_variable, is_callee, taken_by}
use Rattle.c_type_laws.specs.Expressions.{kind_of, is_place, are_passed}
use Rattle.c_type_laws.specs.Laws.{is_in_memory, are_in_memory}
use Rattle.c_type_laws.specs.Objects.{is_kept_array}
use Rattle.graph_build_names.specs.Names.{object_of}
use Rattle.graph_build_runs.proofs.Leads.{Setting, names_in}
use Rattle.graph_build_runs.proofs.Types.{object_is}
use Rattle.graph_build_runs.proofs.Shapes.{fits_of, typed_of, any_integer, counted_typed, scalar_typed, two_true, three_true, four_true, joined_typed, if_typed}
use Rattle.graph_build_runs.proofs.Coding.{InMemory, IsLaid, IsLaidPlace, AreLaid}

module _ (all : List AutomaticTree) where
  -- these variables stand in memory
  abbrev pub InIt : List ℕ → Type 0
  InIt ks = are_in_memory all ks ≡ true

  in_front : (xs ys : List ℕ) → InIt (xs ++ ys) → InIt xs
  in_front [] ys h = refl
  in_front (x ∷ xs) ys h = let b = two_true (is_in_memory (slice_get all x)) (are_in_memory all (xs ++ ys)) h in both b.0 (in_front xs ys b.1)
    where
      both : is_in_memory (slice_get all x) ≡ true → InIt xs → InIt (x ∷ xs)
      both e g = ap (λ b. b && are_in_memory all xs) e ∙ g

  in_back : (xs ys : List ℕ) → InIt (xs ++ ys) → InIt ys
  in_back [] ys h = h
  in_back (x ∷ xs) ys h = in_back xs ys (two_true (is_in_memory (slice_get all x)) (are_in_memory all (xs ++ ys)) h).1

  front_named : (l : LvalueTree) (ks : List ℕ) → InIt (with_named_variable l ks) → InIt ks
  front_named (Named (object.Automatic v) of) ks h = in_front ks (v ∷ []) h
  front_named (Named (object.Static v) of) ks h = h
  front_named (Named (object.Literal v) of) ks h = h
  front_named (Target of p) ks h = h
  front_named (Element of p i) ks h = h
  front_named (ElementFrom of i p) ks h = h

  front_if : (q : Bool) (l : LvalueTree) (ks : List ℕ) → InIt (named_if q l ks) → InIt ks
  front_if true l ks h = front_named l ks h
  front_if false l ks h = h

  mutual
    -- What stands in memory before an expression is among what does behind it.
    pub front : (q : Bool) (e : RvalueTree) (ks : List ℕ) → InIt (keeps q e ks) → InIt ks
    front q (Constant z t) ks h = h
    front q Null ks h = h
    front q (Load s l) ks h = front_in q l ks h
    front q (Decay l) ks h = front_in q l ks h
    front q (AddressOf l) ks h = front_named l ks (front_in q l (with_named_variable l ks) h)
    front q (Convert t e) ks h = front q e ks h
    front q (Discard e) ks h = front q e ks h
    front q (Signed o t e) ks h = front q e ks h
    front q (Not e) ks h = front q e ks h
    front q (Arithmetic o t a b) ks h = front q a ks (front q b (keeps q a ks) h)
    front q (Compare o t a b) ks h = front q a ks (front q b (keeps q a ks) h)
    front q (ComparePointers o a b) ks h = front q a ks (front q b (keeps q a ks) h)
    front q (Move d of a b) ks h = front q a ks (front q b (keeps q a ks) h)
    front q (MoveFrom a of b) ks h = front q a ks (front q b (keeps q a ks) h)
    front q (Difference of a b) ks h = front q a ks (front q b (keeps q a ks) h)
    front q (And a b) ks h = front q a ks (front true b (keeps q a ks) h)
    front q (Or a b) ks h = front q a ks (front true b (keeps q a ks) h)
    front q (Conditional c a b) ks h = front q c ks (front true a (keeps q c ks) (front true b (keeps true a (keeps q c ks)) h))
    front q (Comma a b) ks h = front q a ks (front q b (keeps q a ks) h)
    front q (Assign s l e) ks h = front_if q l ks (front_in q l (named_if q l ks) (front q e (kept_in q l (named_if q l ks)) h))
    front q (Update o t u l e) ks h = front_if q l ks (front_in q l (named_if q l ks) (front q e (kept_in q l (named_if q l ks)) h))
    front q (UpdatePointer d of l e) ks h = front_if q l ks (front_in q l (named_if q l ks) (front q e (kept_in q l (named_if q l ks)) h))
    front q (Step d g t u l) ks h = front_if q l ks (front_in q l (named_if q l ks) h)
    front q (StepPointer d g of l) ks h = front_if q l ks (front_in q l (named_if q l ks) h)
    front q (Call c args) ks h = front_all q args ks h

    front_in : (q : Bool) (l : LvalueTree) (ks : List ℕ) → InIt (kept_in q l ks) → InIt ks
    front_in q (Named o of) ks h = h
    front_in q (Target of p) ks h = front q p ks h
    front_in q (Element of p i) ks h = front q p ks (front q i (keeps q p ks) h)
    front_in q (ElementFrom of i p) ks h = front q i ks (front q p (keeps q i ks) h)

    front_all : (q : Bool) (args : ArgumentTrees) (ks : List ℕ) → InIt (kept_in_arguments q args ks) → InIt ks
    front_all q none ks h = h
    front_all q (first e rest) ks h = front q e ks (front_all q rest (keeps q e ks) h)

operand_typed : (o : declared-arithmetic.Arithmetic) (t : IntegerType) (k : Kind) → is_operand o t k ≡ true → is_typed k ≡ true
operand_typed arithmetic-is.ShiftLeft t k h = counted_typed k h
operand_typed arithmetic-is.ShiftRight t k h = counted_typed k h
operand_typed arithmetic-is.Multiply t k h = typed_of k (Integer t) h
operand_typed arithmetic-is.Divide t k h = typed_of k (Integer t) h
operand_typed arithmetic-is.Remainder t k h = typed_of k (Integer t) h
operand_typed arithmetic-is.Add t k h = typed_of k (Integer t) h
operand_typed arithmetic-is.Subtract t k h = typed_of k (Integer t) h
operand_typed arithmetic-is.BitAnd t k h = typed_of k (Integer t) h
operand_typed arithmetic-is.BitXor t k h = typed_of k (Integer t) h
operand_typed arithmetic-is.BitOr t k h = typed_of k (Integer t) h

pointer_typed : (k : Kind) → is_pointer_kind k ≡ true → is_typed k ≡ true
pointer_typed Wrong h = cc
pointer_typed NullPointer h = refl
pointer_typed (Of t) h = refl

-- an array that is kept as arrays are is in memory
kept_array : (inside : Bool) (of : ObjectType) → is_array of ≡ true → is_kept_array inside of ≡ true → inside ≡ true
kept_array inside (of-object.Scalar s) h e = cc
kept_array inside (of-object.Array s n) h e = (two_true (nat_le 1 n) inside e).1

-- Where variables in memory have objects and arrays are kept there, no address is taken but of what stands in memory.
module _ (x : Setting) (there : (v : ℕ) → is_variable x.tree v ≡ true → is_in_memory (slice_get x.program.automatics v) ≡ true → (j : ℕ) × (object_of (names_in x) v ≡ Some j)) (arrays : (v : ℕ) (a : AutomaticTree) → slice_get x.program.automatics v ≡ Some a → is_kept_array a.in_memory a.of ≡ true)
    (differs : (of : ObjectType) (a b : RvalueTree) → IsLaid x a → IsLaid x b → IsLaid x (Difference of a b)) where
  abbrev K : RvalueTree → Kind
  K e = kind_of x.program x.tree e

  abbrev P : LvalueTree → Bool
  P l = is_place x.program x.tree l

  abbrev M : List ℕ → Type 0
  M ks = InIt x.program.automatics ks

  abbrev before : (q : Bool) (e : RvalueTree) (ks : List ℕ) → M (keeps q e ks) → M ks
  before q e ks h = front x.program.automatics q e ks h

  abbrev before_in : (q : Bool) (l : LvalueTree) (ks : List ℕ) → M (kept_in q l ks) → M ks
  before_in q l ks h = front_in x.program.automatics q l ks h

  array_inside : (l : LvalueTree) → is_array (object_type l) ≡ true → P l ≡ true → InMemory x l
  array_inside (Named (object.Static i) of) h c = tt
  array_inside (Named (object.Literal i) of) h c = tt
  array_inside (Named (object.Automatic v) of) h c = let b = two_true (is_variable x.tree v) (automatic_is (slice_get x.program.automatics v) of) c in by (slice_get x.program.automatics v) refl b.1 (λ e. there v b.0 e)
    where
      by : (r : Option AutomaticTree) → slice_get x.program.automatics v ≡ r → automatic_is r of ≡ true → (is_in_memory (slice_get x.program.automatics v) ≡ true → (j : ℕ) × (object_of (names_in x) v ≡ Some j)) → (j : ℕ) × (object_of (names_in x) v ≡ Some j)
      by None e q go = cc
      by (Some a) e q go = let same : a.of ≡ of = object_is a.of of q in go (ap is_in_memory e ∙ kept_array a.in_memory a.of (ap is_array same ∙ h) (arrays v a e))
  array_inside (Target of p) h c = tt
  array_inside (Element of p i) h c = tt
  array_inside (ElementFrom of i p) h c = tt

  address_inside : (l : LvalueTree) (ks : List ℕ) → P l ≡ true → M (with_named_variable l ks) → InMemory x l
  address_inside (Named (object.Static i) of) ks c m = tt
  address_inside (Named (object.Literal i) of) ks c m = tt
  address_inside (Named (object.Automatic v) of) ks c m =
      let b = two_true (is_variable x.tree v) (automatic_is (slice_get x.program.automatics v) of) c in
      there v b.0 (two_true (is_in_memory (slice_get x.program.automatics v)) true (in_back x.program.automatics ks (v ∷ []) m)).0
  address_inside (Target of p) ks c m = tt
  address_inside (Element of p i) ks c m = tt
  address_inside (ElementFrom of i p) ks c m = tt

  mutual
    -- A well-typed expression is laid out.
    pub laid : (q : Bool) (e : RvalueTree) (ks : List ℕ) → is_typed (K e) ≡ true → M (keeps q e ks) → IsLaid x e
    laid q (Constant z t) ks h m = tt
    laid q Null ks h m = tt
    laid q (Load s l) ks h m =
        let a = fits_of (holds_scalar (object_type l) s && P l) (loaded_type s) h in laid_place q l ks (two_true (holds_scalar (object_type l) s) (P l) a).1 m
    laid q (Decay l) ks h m =
        let a = fits_of (is_array (object_type l) && P l) (decayed (object_type l)) h in
        let b = two_true (is_array (object_type l)) (P l) a in (laid_place q l ks b.1 m, array_inside l b.0 b.1)
    laid q (AddressOf l) ks h m = let a = fits_of (P l) (Pointer (object_type l)) h in (laid_place q l (with_named_variable l ks) a m, address_inside l ks a (before_in q l (with_named_variable l ks) m))
    laid q (Convert t e) ks h m = let k = any_integer (K e) (fits_of (is_integer (K e)) (Integer t) h) in laid q e ks (ap is_typed k.1) m
    laid q (Discard e) ks h m = laid q e ks (fits_of (is_typed (K e)) Void h) m
    laid q (Signed o t e) ks h m = let b = two_true (is_promoted t) (is_of (K e) (Integer t)) (fits_of (is_promoted t && is_of (K e) (Integer t)) (Integer t) h) in laid q e ks (typed_of (K e) (Integer t) b.1) m
    laid q (Not e) ks h m = laid q e ks (scalar_typed (K e) (fits_of (is_scalar (K e)) (Integer Int) h)) m
    laid q (Arithmetic o t a b) ks h m =
        let c = three_true (is_promoted t) (is_of (K a) (Integer t)) (is_operand o t (K b)) (fits_of (is_promoted t && is_of (K a) (Integer t) && is_operand o t (K b)) (Integer t) h) in
        (laid q a ks (typed_of (K a) (Integer t) c.1) (before q b (keeps q a ks) m), laid q b (keeps q a ks) (operand_typed o t (K b) c.2) m)
    laid q (Compare o t a b) ks h m =
        let c = three_true (is_promoted t) (is_of (K a) (Integer t)) (is_of (K b) (Integer t)) (fits_of (is_promoted t && is_of (K a) (Integer t) && is_of (K b) (Integer t)) (Integer Int) h) in
        (laid q a ks (typed_of (K a) (Integer t) c.1) (before q b (keeps q a ks) m), laid q b (keeps q a ks) (typed_of (K b) (Integer t) c.2) m)
    laid q (ComparePointers o a b) ks h m =
        let c = joined_typed (K a) (K b) (pointer_typed (joined (K a) (K b)) (fits_of (is_pointer_kind (joined (K a) (K b))) (Integer Int) h)) in
        (laid q a ks c.0 (before q b (keeps q a ks) m), laid q b (keeps q a ks) c.1 m)
    laid q (Move d of a b) ks h m =
        let c = two_true (is_of (K a) (Pointer of)) (is_counted (K b)) (fits_of (is_of (K a) (Pointer of) && is_counted (K b)) (Pointer of) h) in
        (laid q a ks (typed_of (K a) (Pointer of) c.0) (before q b (keeps q a ks) m), laid q b (keeps q a ks) (counted_typed (K b) c.1) m)
    laid q (MoveFrom a of b) ks h m =
        let c = two_true (is_counted (K a)) (is_of (K b) (Pointer of)) (fits_of (is_counted (K a) && is_of (K b) (Pointer of)) (Pointer of) h) in
        (laid q a ks (counted_typed (K a) c.0) (before q b (keeps q a ks) m), laid q b (keeps q a ks) (typed_of (K b) (Pointer of) c.1) m)
    laid q (Difference of a b) ks h m =
        let c = two_true (is_of (K a) (Pointer of)) (is_of (K b) (Pointer of)) (fits_of (is_of (K a) (Pointer of) && is_of (K b) (Pointer of)) (Integer Int) h) in
        differs of a b (laid q a ks (typed_of (K a) (Pointer of) c.0) (before q b (keeps q a ks) m)) (laid q b (keeps q a ks) (typed_of (K b) (Pointer of) c.1) m)
    laid q (And a b) ks h m =
        let c = two_true (is_scalar (K a)) (is_scalar (K b)) (fits_of (is_scalar (K a) && is_scalar (K b)) (Integer Int) h) in
        (laid q a ks (scalar_typed (K a) c.0) (before true b (keeps q a ks) m), laid true b (keeps q a ks) (scalar_typed (K b) c.1) m)
    laid q (Or a b) ks h m =
        let c = two_true (is_scalar (K a)) (is_scalar (K b)) (fits_of (is_scalar (K a) && is_scalar (K b)) (Integer Int) h) in
        (laid q a ks (scalar_typed (K a) c.0) (before true b (keeps q a ks) m), laid true b (keeps q a ks) (scalar_typed (K b) c.1) m)
    laid q (Conditional c a b) ks h m =
        let f = if_typed (is_scalar (K c)) (joined (K a) (K b)) h in
        let k = joined_typed (K a) (K b) f.1 in
        let m2 = before true b (keeps true a (keeps q c ks)) m in
        (laid q c ks (scalar_typed (K c) f.0) (before true a (keeps q c ks) m2), laid true a (keeps q c ks) k.0 m2, laid true b (keeps true a (keeps q c ks)) k.1 m)
    laid q (Comma a b) ks h m = let f = if_typed (is_typed (K a)) (K b) h in (laid q a ks f.0 (before q b (keeps q a ks) m), laid q b (keeps q a ks) f.1 m)
    laid q (Assign s l e) ks h m =
        let c = three_true (holds_scalar (object_type l) s) (P l) (is_of (K e) (loaded_type s)) (fits_of (holds_scalar (object_type l) s && P l && is_of (K e) (loaded_type s)) (loaded_type s) h) in
        let ws = named_if q l ks in
        (laid_place q l ws c.1 (before q e (kept_in q l ws) m), laid q e (kept_in q l ws) (typed_of (K e) (loaded_type s) c.2) m)
    laid q (Update o t u l e) ks h m =
        let c = four_true (holds_integer (object_type l) t) (is_promoted u) (P l) (is_operand o u (K e)) (fits_of (holds_integer (object_type l) t && is_promoted u && P l && is_operand o u (K e)) (Integer t) h) in
        let ws = named_if q l ks in
        (laid_place q l ws c.2 (before q e (kept_in q l ws) m), laid q e (kept_in q l ws) (operand_typed o u (K e) c.3) m)
    laid q (UpdatePointer d of l e) ks h m =
        let c = three_true (holds_pointer (object_type l) of) (P l) (is_counted (K e)) (fits_of (holds_pointer (object_type l) of && P l && is_counted (K e)) (Pointer of) h) in
        let ws = named_if q l ks in
        (laid_place q l ws c.1 (before q e (kept_in q l ws) m), laid q e (kept_in q l ws) (counted_typed (K e) c.2) m)
    laid q (Step d g t u l) ks h m =
        let c = three_true (holds_integer (object_type l) t) (same_integer u (promoted t)) (P l) (fits_of (holds_integer (object_type l) t && same_integer u (promoted t) && P l) (Integer t) h) in laid_place q l (named_if q l ks) c.2 m
    laid q (StepPointer d g of l) ks h m =
        let c = two_true (holds_pointer (object_type l) of) (P l) (fits_of (holds_pointer (object_type l) of && P l) (Pointer of) h) in laid_place q l (named_if q l ks) c.1 m
    laid q (Call c args) ks h m =
        let f = fits_of (is_callee x.program c && are_passed x.program x.tree (taken_by x.program c) args) (given_by (results_of x.program.functions) c) h in
        all_laid q (taken_by x.program c) args ks (two_true (is_callee x.program c) (are_passed x.program x.tree (taken_by x.program c) args) f).1 m

    laid_place : (q : Bool) (l : LvalueTree) (ks : List ℕ) → P l ≡ true → M (kept_in q l ks) → IsLaidPlace x l
    laid_place q (Named o of) ks h m = tt
    laid_place q (Target of p) ks h m = laid q p ks (typed_of (K p) (Pointer of) h) m
    laid_place q (Element of p i) ks h m =
        let c = two_true (is_of (K p) (Pointer of)) (is_counted (K i)) h in
        (laid q p ks (typed_of (K p) (Pointer of) c.0) (before q i (keeps q p ks) m), laid q i (keeps q p ks) (counted_typed (K i) c.1) m)
    laid_place q (ElementFrom of i p) ks h m =
        let c = two_true (is_counted (K i)) (is_of (K p) (Pointer of)) h in
        (laid q i ks (counted_typed (K i) c.0) (before q p (keeps q i ks) m), laid q p (keeps q i ks) (typed_of (K p) (Pointer of) c.1) m)

    all_laid : (q : Bool) (types : List ValueType) (args : ArgumentTrees) (ks : List ℕ) → are_passed x.program x.tree types args ≡ true → M (kept_in_arguments q args ks) → AreLaid x args
    all_laid q [] none ks h m = tt
    all_laid q [] (first e rest) ks h m = cc
    all_laid q (t ∷ types) none ks h m = tt
    all_laid q (t ∷ types) (first e rest) ks h m =
        let c = two_true (is_of (K e) t) (are_passed x.program x.tree types rest) h in
        (laid q e ks (typed_of (K e) t c.0) (front_all x.program.automatics q rest (keeps q e ks) m), all_laid q types rest (keeps q e ks) c.1 m)
