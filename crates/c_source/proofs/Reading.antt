-- The literals that the check of values, sizes and initializers finds stand within them, in the order of the text.
use Rattle.std.proofs.Common.{◌≡◌, ℕ, ◌^◌, List, [], ◌++◌, length, nat_lt, Bool, true, false, Option, Some, None, refl, subst, append-nil}
use Rattle.std.specs.Prelude.{if◌then◌else◌}
use Rattle.std.specs.Option.{option_map_or}
use Rattle.debug_records.specs.declared.source.Spot.{Spot}
use Rattle.debug_records.specs.declared.code.Code.{Code}
use Rattle.debug_records.specs.declared.code.TheConstants.Code.{INITIALIZER, UNEXPECTED_KEYWORD}
use Rattle.c_tree.specs.declared.extent.Extent.{Extent}
use Rattle.c_tree.specs.declared.object_type.Scalar.{Scalar}
use Rattle.c_tree.specs.declared.object_type.ObjectType.{ObjectType}
use Rattle.c_tree.specs.declared.object_type.ObjectType.TheVariants as object
use Rattle.c_tree.specs.Expressions.{ExpressionTree}
use Rattle.c_tree.specs.Declarations.{BracketsTree, Absent, Empty, Sized, InitializerTree, InitializerTrees, Value, Braces, none, first, DeclaratorTree}
use Rattle.c_tree.specs.TypedStatements.{InitialTree}
use Rattle.c_type_rules.specs.declared.constancy.Constancy.{Constancy}
use Rattle.c_type_rules.specs.declared.constancy.Constancy.TheVariants.{Varies, Formed, Known, Address}
use Rattle.c_type_rules.specs.Types.{loaded_type}
use Rattle.c_type_values.specs.Values.{ValueTree, converted_value}
use Rattle.c_type_expressions.specs.Findings.{Checked, gives}
use Rattle.c_type_expressions.specs.Judgements.{valued, array_count}
use Rattle.c_type_expressions.specs.Expressions.{typed, is_zero}
use Rattle.c_type_declarations.specs.Progress.{ProgressTree, Met, means, next_met, reached_by, check_within, value_met, breaks}
use Rattle.c_type_declarations.specs.Objects.{only_in, count, literal_for, implied_count, declared_count, count_or, sized_by, size_met, type_by, type_met}
use Rattle.c_type_declarations.specs.Initials.{or_misfit, fitted, fitting, looked_at_one, looked_at, misfit_met, braces_met, scalar_met, elements_met, within_count, array_literal_met, list_met, written_met, initial_met}
use Rattle.c_type_declarations.specs.Statics.{Contents, nothing, constant_met, filled, fills_met, literal_bytes, list_contents, put_met, contents_met}
use Rattle.c_source.specs.TextOrder.{spots_of, spots_of_brackets, spots_of_initializer, spots_of_initializers, spots_of_initial}
use Rattle.c_source.specs.Progress.{Ensures}
use Rattle.c_source.proofs.Parts.{IsPart, part_all, part_first}
use Rattle.c_source.proofs.Coming.{next_ensures, ensures_more}
use Rattle.c_source.proofs.Adding.{Reads, reads_none, reads_itself, reads_on, reads_more, reads_then, reads_behind}
use Rattle.c_source.proofs.Finding.{FindsIn, finds_valued, typed_finds}

-- what a part means is of no matter
abbrev pub ReadsIn : {A : Type 0} → List Spot → ProgressTree → Met A → Type 0
ReadsIn {A} whole q m = Ensures (λ (a : A) (t : ProgressTree). Reads whole q t) m

-- a part, and another one behind it
pub reads_next : {A B : Type 0} (whole others : List Spot) (q : ProgressTree) (m : Met A) (g : A → ProgressTree → Met B) → ReadsIn whole q m → ((a : A) (t : ProgressTree) → ReadsIn others t (g a t)) → ReadsIn (whole ++ others) q (next_met m g)
reads_next {A} {B} whole others q m g h k =
    next_ensures (λ (a : A) (t : ProgressTree). Reads whole q t) (λ (b : B) (t : ProgressTree). Reads (whole ++ others) q t) m g h
    (λ a t one. ensures_more (λ (b : B) (u : ProgressTree). Reads others t u) (λ (b : B) (u : ProgressTree). Reads (whole ++ others) q u) (g a t) (k a t) (λ b u two. reads_on whole others q t u one two))

-- another one behind it that finds nothing
pub reads_last : {A B : Type 0} (whole : List Spot) (q : ProgressTree) (m : Met A) (g : A → ProgressTree → Met B) → ReadsIn whole q m → ((a : A) (t : ProgressTree) → ReadsIn [] t (g a t)) → ReadsIn whole q (next_met m g)
reads_last whole q m g h k = subst (λ z. ReadsIn z q (next_met m g)) (append-nil whole) (reads_next whole [] q m g h k)

-- within more spots
pub reads_within : {A : Type 0} (whole all : List Spot) (q : ProgressTree) (m : Met A) → IsPart whole all → ReadsIn whole q m → ReadsIn all q m
reads_within {A} whole all q m h k = ensures_more (λ (a : A) (t : ProgressTree). Reads whole q t) (λ (a : A) (t : ProgressTree). Reads all q t) m k (λ a t one. reads_more whole all q t h one)

pub reads_breaks : (whole : List Spot) (code : Code) (extent : Extent) (q : ProgressTree) → Reads whole q (breaks code extent q)
reads_breaks whole code extent q = reads_none whole q (breaks code extent q) refl refl

-- The value of an expression.
pub value_reads : (e : ExpressionTree) (q : ProgressTree) → ReadsIn (spots_of e) q (value_met e q)
unfolding value_met
value_reads e q = by (valued (typed q.names e q.found)) (finds_valued (spots_of e) q.found (typed q.names e q.found) (typed_finds q.names e q.found))
  where
    by : (c : Checked (Option ValueTree)) → FindsIn (spots_of e) q.found c → ReadsIn (spots_of e) q (check_within q c)
    by (gives v s) h = record { literals = h; same = refl }

-- how far a check comes behind a value
pub value_reaches : (e : ExpressionTree) (q : ProgressTree) (g : Option ValueTree → ProgressTree → ProgressTree) → ((v : Option ValueTree) (t : ProgressTree) → Reads [] t (g v t)) → Reads (spots_of e) q (reached_by (value_met e q) g)
unfolding reached_by
value_reaches e q g k = by (value_met e q) (value_reads e q)
  where
    by : (m : Met (Option ValueTree)) → ReadsIn (spots_of e) q m → Reads (spots_of e) q (reached_by m g)
    by (means v t) h = reads_then (spots_of e) q t (g v t) h (k v t)

-- sizes
counted_reads : (n : ℕ) (extent : Extent) (q : ProgressTree) → ReadsIn [] q (declared_count n extent q)
counted_reads n extent q = by (nat_lt n (2 ^ 32))
  where
    by : (b : Bool) → ReadsIn [] q (if b then means n q else means 1 (breaks UNEXPECTED_KEYWORD extent q))
    by true = reads_itself [] q
    by false = reads_breaks [] UNEXPECTED_KEYWORD extent q

or_reads : (o : Option ℕ) (extent : Extent) (q : ProgressTree) → ReadsIn [] q (count_or o extent q)
or_reads (Some n) extent q = counted_reads n extent q
or_reads None extent q = reads_breaks [] UNEXPECTED_KEYWORD extent q

sized_reads : (extent : Extent) (v : Option ValueTree) (q : ProgressTree) → ReadsIn [] q (sized_by extent v q)
sized_reads extent (Some v) q = or_reads (array_count v.of v.constant) extent q
sized_reads extent None q = reads_itself [] q

pub size_reads : (extent : Extent) (e : ExpressionTree) (q : ProgressTree) → ReadsIn (spots_of e) q (size_met extent e q)
size_reads extent e q = reads_last (spots_of e) q (value_met e q) (sized_by extent) (value_reads e q) (λ v t. sized_reads extent v t)

type_by_reads : (b : BracketsTree) (s : Scalar) (extent : Extent) (i : Option InitializerTree) (q : ProgressTree) → ReadsIn (spots_of_brackets b) q (type_by b s extent i q)
type_by_reads Absent s extent i q = reads_itself [] q
type_by_reads Empty s extent i q = reads_last [] q (declared_count (implied_count s i) extent q) _ (counted_reads (implied_count s i) extent q) (λ n t. reads_itself [] t)
type_by_reads (Sized e) s extent i q = reads_last (spots_of e) q (size_met extent e q) _ (size_reads extent e q) (λ n t. reads_itself [] t)

pub type_reads : (s : Scalar) (d : DeclaratorTree) (q : ProgressTree) → ReadsIn (spots_of_brackets d.brackets) q (type_met s d q)
type_reads s d q = type_by_reads d.brackets s d.extent d.initializer q

-- initializers of scalars
misfit_reads : (o : Option ValueTree) (extent : Extent) (q : ProgressTree) → ReadsIn [] q (or_misfit o extent q)
misfit_reads (Some v) extent q = reads_itself [] q
misfit_reads None extent q = reads_breaks [] INITIALIZER extent q

fitted_reads : (s : Scalar) (extent : Extent) (zero : Bool) (v : Option ValueTree) (q : ProgressTree) → ReadsIn [] q (fitted s extent zero v q)
fitted_reads s extent zero (Some v) q = misfit_reads (converted_value v (loaded_type s) zero) extent q
fitted_reads s extent zero None q = reads_itself [] q

fitting_reads : (s : Scalar) (extent : Extent) (e : ExpressionTree) (q : ProgressTree) → ReadsIn (spots_of e) q (fitting s extent e q)
fitting_reads s extent e q = reads_last (spots_of e) q (value_met e q) (fitted s extent (is_zero e)) (value_reads e q) (λ v t. fitted_reads s extent (is_zero e) v t)

looked_at_one_reads : (i : InitializerTree) (q : ProgressTree) → Reads (spots_of_initializer i) q (looked_at_one i q)
looked_at_one_reads (Braces all) q = reads_itself (spots_of_initializers all) q
looked_at_one_reads (Value e) q = value_reaches e q _ (λ v t. reads_itself [] t)

looked_at_reads : (all : InitializerTrees) (q : ProgressTree) → Reads (spots_of_initializers all) q (looked_at all q)
looked_at_reads none q = reads_itself [] q
looked_at_reads (first i more) q = reads_on (spots_of_initializer i) (spots_of_initializers more) q (looked_at_one i q) (looked_at more (looked_at_one i q)) (looked_at_one_reads i q) (looked_at_reads more (looked_at_one i q))

misfit_met_reads : (extent : Extent) (e : ExpressionTree) (q : ProgressTree) → Reads (spots_of e) q (misfit_met extent e q)
misfit_met_reads extent e q = value_reaches e q _ (λ v t. reads_breaks [] INITIALIZER extent t)

-- the only expression in braces
only_part : (all : InitializerTrees) (e : ExpressionTree) → only_in all ≡ Some e → IsPart (spots_of e) (spots_of_initializers all)
only_part none e h = cc
only_part (first (Value x) none) e h = let same : x ≡ e = cc in subst (λ z. IsPart (spots_of z) (spots_of x ++ [])) same (part_first (spots_of x) (spots_of x) [] (part_all (spots_of x)))
only_part (first (Value x) (first i more)) e h = cc
only_part (first (Braces xs) more) e h = cc

braces_read : (s : Scalar) (extent : Extent) (o : Option ExpressionTree) (all : InitializerTrees) (q : ProgressTree) → only_in all ≡ o → ReadsIn (spots_of_initializers all) q (braces_met s extent o all q)
braces_read s extent (Some e) all q is = reads_within (spots_of e) (spots_of_initializers all) q (fitting s extent e q) (only_part all e is) (fitting_reads s extent e q)
braces_read s extent None all q is =
    reads_behind (spots_of_initializers all) q (breaks INITIALIZER extent q) (looked_at all (breaks INITIALIZER extent q)) (reads_breaks [] INITIALIZER extent q) (looked_at_reads all (breaks INITIALIZER extent q))

scalar_reads : (s : Scalar) (extent : Extent) (i : InitializerTree) (q : ProgressTree) → ReadsIn (spots_of_initializer i) q (scalar_met s extent i q)
scalar_reads s extent (Value e) q = fitting_reads s extent e q
scalar_reads s extent (Braces all) q = braces_read s extent (only_in all) all q refl

-- initializers of automatic objects
within_reads : (whole : List Spot) (given size : ℕ) (extent : Extent) (q : ProgressTree) → Reads whole q (within_count given size extent q)
within_reads whole given size extent q = by (nat_lt size given)
  where
    by : (b : Bool) → Reads whole q (if b then breaks INITIALIZER extent q else q)
    by true = reads_breaks whole INITIALIZER extent q
    by false = reads_itself whole q

elements_read : (s : Scalar) (extent : Extent) (all : InitializerTrees) (q : ProgressTree) → ReadsIn (spots_of_initializers all) q (elements_met s extent all q)
elements_read s extent none q = reads_itself [] q
elements_read s extent (first i more) q =
    reads_next (spots_of_initializer i) (spots_of_initializers more) q (scalar_met s extent i q) _ (scalar_reads s extent i q)
    (λ v t. reads_last (spots_of_initializers more) t (elements_met s extent more t) _ (elements_read s extent more t) (λ vs u. reads_itself [] u))

array_literal_reads : (whole : List Spot) (size : ℕ) (extent : Extent) (l : Spot × List ℕ) (q : ProgressTree) → ReadsIn whole q (array_literal_met size extent l q)
array_literal_reads whole size extent l q =
    let r = within_count (length l.1) size extent q in
    let one = within_reads whole (length l.1) size extent q in
    record { literals = one.literals; same = one.same }

list_reads : (s : Scalar) (size : ℕ) (extent : Extent) (i : InitializerTree) (q : ProgressTree) → ReadsIn (spots_of_initializer i) q (list_met s size extent i q)
list_reads s size extent (Braces all) q =
    let r = within_count (count all) size extent q in
    ensures_more (λ (w : InitialTree) (t : ProgressTree). Reads (spots_of_initializers all) r t) (λ (w : InitialTree) (t : ProgressTree). Reads (spots_of_initializers all) q t) (list_met s size extent (Braces all) q)
    (reads_last (spots_of_initializers all) r (elements_met s extent all r) _ (elements_read s extent all r) (λ vs u. reads_itself [] u))
    (λ w t h. reads_behind (spots_of_initializers all) q r t (within_reads [] (count all) size extent q) h)
list_reads s size extent (Value e) q = misfit_met_reads extent e q

written_reads : (of : ObjectType) (extent : Extent) (i : InitializerTree) (q : ProgressTree) → ReadsIn (spots_of_initializer i) q (written_met of extent i q)
written_reads (object.Scalar s) extent i q = reads_last (spots_of_initializer i) q (scalar_met s extent i q) _ (scalar_reads s extent i q) (λ v t. reads_itself [] t)
written_reads (object.Array element size) extent i q = by (literal_for element i)
  where
    by : (o : Option (Spot × List ℕ)) → ReadsIn (spots_of_initializer i) q (option_map_or (λ l. array_literal_met size extent l q) o (list_met element size extent i q))
    by (Some l) = array_literal_reads (spots_of_initializer i) size extent l q
    by None = list_reads element size extent i q

-- What an initializer writes into an automatic object.
pub initial_reads : (of : ObjectType) (extent : Extent) (i : Option InitializerTree) (q : ProgressTree) → ReadsIn (spots_of_initial i) q (initial_met of extent i q)
initial_reads of extent (Some i) q = written_reads of extent i q
initial_reads of extent None q = reads_itself [] q

-- initializers of static objects
constant_reads : (extent : Extent) (k : Constancy) (q : ProgressTree) → Reads [] q (constant_met extent k q)
constant_reads extent (Known z) q = reads_itself [] q
constant_reads extent (Address o offset) q = reads_itself [] q
constant_reads extent Varies q = reads_breaks [] INITIALIZER extent q
constant_reads extent Formed q = reads_breaks [] INITIALIZER extent q

filled_reads : (s : Scalar) (extent : Extent) (v : Option ValueTree) (c : Contents) (q : ProgressTree) → ReadsIn [] q (filled s extent v c q)
filled_reads s extent (Some v) c q = constant_reads extent v.constant q
filled_reads s extent None c q = reads_itself [] q

fills_read : (s : Scalar) (extent : Extent) (all : InitializerTrees) (c : Contents) (q : ProgressTree) → ReadsIn (spots_of_initializers all) q (fills_met s extent all c q)
fills_read s extent none c q = reads_itself [] q
fills_read s extent (first i more) c q =
    reads_next (spots_of_initializer i) (spots_of_initializers more) q (scalar_met s extent i q) _ (scalar_reads s extent i q)
    (λ v t. reads_next [] (spots_of_initializers more) t (filled s extent v c t) (fills_met s extent more) (filled_reads s extent v c t) (λ d u. fills_read s extent more d u))

list_contents_read : (s : Scalar) (size : ℕ) (extent : Extent) (i : InitializerTree) (q : ProgressTree) → ReadsIn (spots_of_initializer i) q (list_contents s size extent i q)
list_contents_read s size extent (Braces all) q =
    let r = within_count (count all) size extent q in
    ensures_more (λ (w : Contents) (t : ProgressTree). Reads (spots_of_initializers all) r t) (λ (w : Contents) (t : ProgressTree). Reads (spots_of_initializers all) q t) (fills_met s extent all nothing r) (fills_read s extent all nothing r)
    (λ w t h. reads_behind (spots_of_initializers all) q r t (within_reads [] (count all) size extent q) h)
list_contents_read s size extent (Value e) q = misfit_met_reads extent e q

put_reads : (of : ObjectType) (extent : Extent) (i : InitializerTree) (q : ProgressTree) → ReadsIn (spots_of_initializer i) q (put_met of extent i q)
put_reads (object.Scalar s) extent i q = reads_last (spots_of_initializer i) q (scalar_met s extent i q) _ (scalar_reads s extent i q) (λ v t. filled_reads s extent v nothing t)
put_reads (object.Array element size) extent i q = by (literal_for element i)
  where
    by : (o : Option (Spot × List ℕ))
        → ReadsIn (spots_of_initializer i) q (option_map_or (λ l. means (record { bytes = literal_bytes size l.1; relocations = [] }) (within_count (length l.1) size extent q)) o (list_contents element size extent i q))
    by (Some l) = within_reads (spots_of_initializer i) (length l.1) size extent q
    by None = list_contents_read element size extent i q

-- What an initializer puts into a static object.
pub contents_read : (of : ObjectType) (extent : Extent) (i : Option InitializerTree) (q : ProgressTree) → ReadsIn (spots_of_initial i) q (contents_met of extent i q)
contents_read of extent (Some i) q = put_reads of extent i q
contents_read of extent None q = reads_itself [] q
