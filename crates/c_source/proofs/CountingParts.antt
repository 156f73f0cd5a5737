-- What initializers, declarators and parts of statements mean weighs no more than they do.
use Rattle.std.proofs.Common.{◌≡◌, ◌≤◌, ℕ, ◌+◌, List, [], ◌∷◌, Bool, true, false, Option, Some, None, refl, ap, arith}
use Rattle.std.specs.Option.{option_map_or}
use Rattle.std.proofs.lemmas.List.Sums.{sum_by-cons}
use Rattle.debug_records.specs.declared.source.Spot.{Spot}
use Rattle.c_tree.specs.declared.extent.Extent.{Extent}
use Rattle.c_tree.specs.declared.types.IntegerType.{IntegerType}
use Rattle.c_tree.specs.declared.object_type.Scalar.{Scalar}
use Rattle.c_tree.specs.declared.object_type.ObjectType.{ObjectType}
use Rattle.c_tree.specs.declared.object_type.ObjectType.TheVariants as object
use Rattle.c_tree.specs.Expressions.{ExpressionTree}
use Rattle.c_tree.specs.Declarations.{InitializerTree, InitializerTrees, Value, Braces, DeclaratorTree}
use Rattle.c_tree.specs.Declarations as declaration
use Rattle.c_tree.specs.TypedStatements.{DeclaredTree}
use Rattle.c_type_rules.specs.Types.{loaded_type}
use Rattle.c_type_bounds.specs.Weights.{weight_of, initializer_weight, initializers_weight, initial_weight, declarator_weight, declarators_weight}
use Rattle.c_type_values.specs.Values.{ValueTree, converted_value}
use Rattle.c_type_expressions.specs.Findings.{Checked, gives}
use Rattle.c_type_expressions.specs.Judgements.{valued}
use Rattle.c_type_expressions.specs.Expressions.{typed, is_zero}
use Rattle.c_type_declarations.specs.Progress.{ProgressTree, check_within, value_met}
use Rattle.c_type_declarations.specs.Objects.{literal_for, only_in, type_met}
use Rattle.c_type_declarations.specs.Initials.{or_misfit, fitted, fitting, braces_met, scalar_met, computed_tree, elements_met, array_literal_met, list_met, written_met, initial_met}
use Rattle.c_type_declarations.specs.Declarations.{automatic_of_type, automatic_met, automatics_met}
use Rattle.c_type_laws.specs.Weighing.{weighed, weighed_elements, weighed_initial, weighed_declared}
use Rattle.c_source.specs.Progress.{Ensures}
use Rattle.c_source.proofs.Coming.{next_ensures}
use Rattle.c_source.proofs.PlainTexts.{next_any}
use Rattle.c_source.proofs.Counting.{value_weight, implied_weight, Few, GivesFew, valued_few, converted_few}
use Rattle.c_source.proofs.CountingTexts.{weighs, typed_few}

-- a part that weighs so much at most
abbrev pub AtMost : {A : Type 0} → (A → ℕ) → ℕ → A → ProgressTree → Type 0
AtMost size n a t = size a ≤ n

-- a value, if it is there
abbrev pub HasFew : ℕ → Option ValueTree → ProgressTree → Type 0
HasFew n v t = Few value_weight n v

pub value_few : (e : ExpressionTree) (q : ProgressTree) → Ensures (HasFew (weight_of e)) (value_met e q)
unfolding value_met
value_few e q = by (valued (typed q.names e q.found)) (valued_few (weight_of e) (typed q.names e q.found) (typed_few q.names e q.found))
  where
    by : (c : Checked (Option ValueTree)) → GivesFew value_weight (weight_of e) c → Ensures (HasFew (weight_of e)) (check_within q c)
    by (gives v s) h = h

-- what there is where nothing is
pub tree_few : (v : Option ValueTree) (n : ℕ) → 1 ≤ n → Few value_weight n v → weighed false (computed_tree v) ≤ n
tree_few (Some v) n one h = h
tree_few None n one h = omega (arith, one)

-- where a conversion is implied
abbrev HasImplied : ℕ → Option ValueTree → ProgressTree → Type 0
HasImplied n v t = Few implied_weight n v

implied_few : (v : Option ValueTree) (n : ℕ) → 1 ≤ n → Few implied_weight n v → weighed true (computed_tree v) ≤ n
implied_few (Some v) n one h = h
implied_few None n one h = omega (arith, one)

-- initializers
or_misfit_few : (n : ℕ) (o : Option ValueTree) (extent : Extent) (q : ProgressTree) → Few implied_weight n o → Ensures (HasImplied n) (or_misfit o extent q)
or_misfit_few n (Some v) extent q h = h
or_misfit_few n None extent q h = tt

fitted_few : (n : ℕ) (s : Scalar) (extent : Extent) (z : Bool) (v : Option ValueTree) (q : ProgressTree) → 1 ≤ n → Few value_weight n v → Ensures (HasImplied n) (fitted s extent z v q)
fitted_few n s extent z (Some v) q one h = or_misfit_few n (converted_value v (loaded_type s) z) extent q (converted_few v (loaded_type s) z n one h)
fitted_few n s extent z None q one h = tt

fitting_few : (s : Scalar) (extent : Extent) (e : ExpressionTree) (q : ProgressTree) → Ensures (HasImplied (weight_of e)) (fitting s extent e q)
fitting_few s extent e q = next_ensures (HasFew (weight_of e)) (HasImplied (weight_of e)) (value_met e q) _ (value_few e q) (λ v t h. fitted_few (weight_of e) s extent (is_zero e) v t (weighs e) h)

few_more : (n k : ℕ) (v : Option ValueTree) → n ≤ k → Few value_weight n v → Few value_weight k v
few_more n k (Some v) le h = omega (arith, le, h)
few_more n k None le h = tt

only_weighs : (all : InitializerTrees) (e : ExpressionTree) → only_in all ≡ Some e → weight_of e ≤ initializers_weight all
only_weighs declaration.none e h = cc
only_weighs (declaration.first (Value x) declaration.none) e h = let is : x ≡ e = cc in let same : weight_of x ≡ weight_of e = ap weight_of is in omega (arith, same)
only_weighs (declaration.first (Value x) (declaration.first i more)) e h = cc
only_weighs (declaration.first (Braces xs) more) e h = cc

braces_few : (s : Scalar) (extent : Extent) (o : Option ExpressionTree) (all : InitializerTrees) (q : ProgressTree) → only_in all ≡ o → Ensures (HasImplied (1 + initializers_weight all)) (braces_met s extent o all q)
braces_few s extent (Some e) all q is =
    next_ensures (HasFew (weight_of e)) (HasImplied (1 + initializers_weight all)) (value_met e q) _ (value_few e q)
    (λ v t h. fitted_few (1 + initializers_weight all) s extent (is_zero e) v t (omega arith) (few_more (weight_of e) (1 + initializers_weight all) v (let w = only_weighs all e is in omega (arith, w)) h))
braces_few s extent None all q is = tt

scalar_few : (s : Scalar) (extent : Extent) (i : InitializerTree) (q : ProgressTree) → Ensures (HasImplied (initializer_weight i)) (scalar_met s extent i q)
scalar_few s extent (Value e) q = fitting_few s extent e q
scalar_few s extent (Braces all) q = braces_few s extent (only_in all) all q refl

initializer_weighs : (i : InitializerTree) → 1 ≤ initializer_weight i
initializer_weighs (Value e) = weighs e
initializer_weighs (Braces all) = omega arith

elements_few : (s : Scalar) (extent : Extent) (all : InitializerTrees) (q : ProgressTree) → Ensures (AtMost weighed_elements (initializers_weight all)) (elements_met s extent all q)
elements_few s extent declaration.none q = omega arith
elements_few s extent (declaration.first i more) q =
    next_ensures (HasImplied (initializer_weight i)) (AtMost weighed_elements (initializer_weight i + initializers_weight more)) (scalar_met s extent i q) _ (scalar_few s extent i q)
    (λ v t h.
    next_ensures (AtMost weighed_elements (initializers_weight more)) (AtMost weighed_elements (initializer_weight i + initializers_weight more)) (elements_met s extent more t) _ (elements_few s extent more t)
    (λ vs u g. let one = implied_few v (initializer_weight i) (initializer_weighs i) h in omega (arith, one, g)))

list_few : (s : Scalar) (size : ℕ) (extent : Extent) (i : InitializerTree) (q : ProgressTree) → Ensures (AtMost weighed_initial (initializer_weight i)) (list_met s size extent i q)
list_few s size extent (Braces all) q = next_ensures (AtMost weighed_elements (initializers_weight all)) (AtMost weighed_initial (1 + initializers_weight all)) _ _ (elements_few s extent all _) (λ vs t h. omega (arith, h))
list_few s size extent (Value e) q = omega arith

written_few : (of : ObjectType) (extent : Extent) (i : InitializerTree) (q : ProgressTree) → Ensures (AtMost weighed_initial (initializer_weight i)) (written_met of extent i q)
written_few (object.Scalar s) extent i q =
    next_ensures (HasImplied (initializer_weight i)) (AtMost weighed_initial (initializer_weight i)) (scalar_met s extent i q) _ (scalar_few s extent i q) (λ v t h. implied_few v (initializer_weight i) (initializer_weighs i) h)
written_few (object.Array s size) extent i q = by (literal_for s i)
  where
    by : (o : Option (Spot × List ℕ)) → Ensures (AtMost weighed_initial (initializer_weight i)) (option_map_or (λ l. array_literal_met size extent l q) o (list_met s size extent i q))
    by (Some l) = initializer_weighs i
    by None = list_few s size extent i q

initial_few : (of : ObjectType) (extent : Extent) (i : Option InitializerTree) (q : ProgressTree) → Ensures (AtMost weighed_initial (initial_weight i)) (initial_met of extent i q)
initial_few of extent (Some i) q = written_few of extent i q
initial_few of extent None q = omega arith

-- declarators
abbrev one_weight : DeclaredTree → ℕ
one_weight d = weighed_initial d.initial + 2

of_type_few : (d : DeclaratorTree) (of : ObjectType) (q : ProgressTree) → Ensures (AtMost one_weight (declarator_weight d)) (automatic_of_type d of q)
of_type_few d of q = next_ensures (AtMost weighed_initial (initial_weight d.initializer)) (AtMost one_weight (declarator_weight d)) _ _ (initial_few of d.extent d.initializer _) (λ i t h. omega (arith, h))

pub automatics_few : (t : IntegerType) (ds : List DeclaratorTree) (q : ProgressTree) → Ensures (AtMost weighed_declared (declarators_weight ds)) (automatics_met t ds q)
automatics_few t [] q = omega arith
automatics_few t (d ∷ ds) q =
    next_ensures (AtMost one_weight (declarator_weight d)) (AtMost weighed_declared (declarators_weight (d ∷ ds))) (automatic_met t d q) _ (next_any (AtMost one_weight (declarator_weight d)) (type_met (record { base = t; stars = d.stars }) d q) _ (λ of u. of_type_few d of u))
    (λ one r h.
    next_ensures (AtMost weighed_declared (declarators_weight ds)) (AtMost weighed_declared (declarators_weight (d ∷ ds))) (automatics_met t ds r) _ (automatics_few t ds r)
    (λ rest u g. let e : declarators_weight (d ∷ ds) ≡ declarator_weight d + declarators_weight ds = sum_by-cons declarator_weight d ds in omega (arith, h, g, e)))
