-- To which functions the variables of an image belong.
use Rattle.std.proofs.Common.{◌≡◌, ℕ, zero, suc, ◌+◌, ◌%◌, ◌<◌, ◌^◌, true, false, Option, Some, None, List, [], ◌∷◌, ◌++◌, length, map, replicate, slice_get, get_or, refl, sym, ap, subst, ◌∙◌, arith}
use Rattle.std.specs.Prelude.{◌==◌, ◌&&◌, if◌then◌else◌, unwrap_or}
use Rattle.std.specs.List.{AllByRecursion}
use Rattle.std.proofs.lemmas.Bool.Decides.{nat_tests}
use Rattle.std.proofs.lemmas.List.{length-append, length-replicate}
use Rattle.c_tree.specs.Programs.{LiteralTree, ProgramTree, StaticTree, TypedFunctionTree}
use Rattle.c_type_laws.specs.Laws.{IsWellFormed, are_functions, are_objects, follow, is_main, is_sound, is_within, objects_ascend, places_ascend}
use Rattle.c_type_laws.specs.Parameters.{parameters_single}
use Rattle.c_places.specs.Places.{places_of_program}
use Rattle.image_form.specs.Decoding.{owning_function}
use Rattle.image_form.specs.Form.{Form}
use Rattle.image_form.specs.Numbers.{no_function, variable_numbers}
use Rattle.image_form.specs.Rules.{IsImage}
use Rattle.image_form.specs.RulesOfVariables.{IsKept, IsKeptInFunction, IsVariable}
use Rattle.image_form.proofs.Counts.{less_functions}
use Rattle.image_form.specs.declared.variables.Storage.{Storage}
use Rattle.image_form.specs.declared.variables.Storage.TheVariants.{Static, Frame, Register, Slot}
use Rattle.image_form.specs.declared.variables.Variable.{Variable}
use Rattle.image_build_tables.specs.Variables.{owned_from, owner, owners_of}
use Rattle.base_laws.proofs.Booleans.{two_true as and_both}
use Rattle.base_laws.proofs.Lists.{number_there as some_within}
use Rattle.base_laws.proofs.Numbers.{are_equal}

-- Where the variables of functions follow one another from a number to another, so many belong to them.
owned_behind : (functions : List TypedFunctionTree) (number next count : ℕ) → follow next count functions ≡ true → next + length (owned_from number functions) ≡ count
owned_behind [] number next count h = let same = are_equal next count h in omega (arith, same)
owned_behind (f ∷ more) number next count h =
    let rest = owned_behind more (number + 1) (next + f.variables) count (and_both (f.first_variable == next) (follow (next + f.variables) count more) h).1 in
    let own = replicate f.variables (Some number) in
    let all = length-append own (owned_from (number + 1) more) in
    let many = length-replicate f.variables (Some number) in
    omega (arith, rest, all, many)

-- as many variables belong to the functions of a well-formed program as it has automatic ones
pub all_owned : (p : ProgramTree) → IsWellFormed p → length (owned_from 0 p.functions) ≡ length p.automatics
all_owned p h =
    let ordered = objects_ascend p in
    let singles = parameters_single p.automatics p.functions in
    let last = and_both (ordered && follow 0 (length p.automatics) p.functions && is_main (slice_get p.functions p.main) && are_objects p && are_functions p p.functions && is_within p && places_ascend (places_of_program p) && singles) (is_sound p) h in
    let front = and_both (ordered && follow 0 (length p.automatics) p.functions && is_main (slice_get p.functions p.main) && are_objects p && are_functions p p.functions && is_within p && places_ascend (places_of_program p)) singles last.0 in
    let a = and_both (ordered && follow 0 (length p.automatics) p.functions && is_main (slice_get p.functions p.main) && are_objects p && are_functions p p.functions && is_within p) (places_ascend (places_of_program p)) front.0 in
    let b = and_both (ordered && follow 0 (length p.automatics) p.functions && is_main (slice_get p.functions p.main) && are_objects p && are_functions p p.functions) (is_within p) a.0 in
    let c = and_both (ordered && follow 0 (length p.automatics) p.functions && is_main (slice_get p.functions p.main) && are_objects p) (are_functions p p.functions) b.0 in
    let d = and_both (ordered && follow 0 (length p.automatics) p.functions && is_main (slice_get p.functions p.main)) (are_objects p) c.0 in
    let e = and_both (ordered && follow 0 (length p.automatics) p.functions) (is_main (slice_get p.functions p.main)) d.0 in
    let rest = owned_behind p.functions 0 0 (length p.automatics) (and_both ordered (follow 0 (length p.automatics) p.functions) e.0).1 in
    omega (arith, rest)

-- A function, or none, is told apart by its number.
abbrev IsTold : Option ℕ → Type 0
IsTold o = owning_function (unwrap_or o no_function) ≡ o

told_below : (k : ℕ) → k < 4294967295 → IsTold (Some k)
told_below k less =
    let other : (k == no_function) ≡ false = differ k less in
    ap (λ b. if b then None else Some k) other
  where
    differ : (n : ℕ) → n < 4294967295 → (n == 4294967295) ≡ false
    differ n h = grind (arith, nat_tests)

kept_within : (m : Form) (k : ℕ) (s : Storage) → IsKeptInFunction m k s → k < length m.functions
kept_within m k (Static address) h = absurd h
kept_within m k (Frame offset) h = some_within m.functions k (λ g. (offset % 4 ≡ 0) × (offset < g.frame)) h
kept_within m k (Register number) h = h.0
kept_within m k (Slot offset) h = some_within m.functions k (λ g. (offset % 4 ≡ 0) × (offset < g.frame)) h

told_kept : (m : Form) → length m.functions < 4294967295 → (o : Option ℕ) (s : Storage) → IsKept m o s → IsTold o
told_kept m few None s h = refl
told_kept m few (Some k) s h = let less = kept_within m k s h in told_below k (omega (arith, less, few))

-- The function of a variable by its numbers.
owner_by : List ℕ → Option ℕ
owner_by numbers = owning_function (get_or numbers 1 0)

owners_by : (m : Form) → length m.functions < 4294967295 → (all : List Variable) → AllByRecursion (IsVariable m) all → map owner_by (map variable_numbers all) ≡ map owner all
unfolding owner_by
owners_by m few [] each = refl
owners_by m few (v ∷ all) each =
    let one = told_kept m few v.function v.storage each.0.kept in
    let rest = owners_by m few all each.1 in
    (λ i. one i ∷ rest i)

told_by : (all : List Variable) → AllByRecursion IsTold (map owner all) → map owner_by (map variable_numbers all) ≡ map owner all
unfolding owner_by
told_by [] each = refl
told_by (v ∷ all) each = let one = each.0 in let rest = told_by all each.1 in (λ i. one i ∷ rest i)

-- the owners of a program's variables are told apart by their numbers, where there are so few functions
told_both : (xs ys : List (Option ℕ)) → AllByRecursion IsTold xs → AllByRecursion IsTold ys → AllByRecursion IsTold (xs ++ ys)
told_both [] ys first second = second
told_both (x ∷ xs) ys first second = (first.0, told_both xs ys first.1 second)

none_told : {A : Type 0} (xs : List A) → AllByRecursion IsTold (map (λ x. None) xs)
none_told [] = tt
none_told (x ∷ xs) = (refl, none_told xs)

often_told : (count number : ℕ) → number < 4294967295 → AllByRecursion IsTold (replicate count (Some number))
often_told zero number less = tt
often_told (suc count) number less = (told_below number less, often_told count number less)

owned_told : (functions : List TypedFunctionTree) (number : ℕ) → number + length functions < 4294967295 → AllByRecursion IsTold (owned_from number functions)
owned_told [] number few = tt
owned_told (f ∷ more) number few =
    told_both (replicate f.variables (Some number)) (owned_from (number + 1) more) (often_told f.variables number (omega (arith, few))) (owned_told more (number + 1) (omega (arith, few)))

owners_told : (p : ProgramTree) → length p.functions < 4294967295 → AllByRecursion IsTold (owners_of p)
owners_told p few =
    told_both (map (λ (v : StaticTree). None) p.statics) (map (λ (l : LiteralTree). None) p.literals ++ owned_from 0 p.functions) (none_told p.statics)
    (told_both (map (λ (l : LiteralTree). None) p.literals) (owned_from 0 p.functions) (none_told p.literals) (owned_told p.functions 0 (omega (arith, few))))

-- Variables of an image that have the numbers of tables whose variables belong to a program's functions belong to them too.
pub owners_same : (p : ProgramTree) (tables image : Form) → IsImage image → length image.functions ≡ length p.functions → map variable_numbers image.variables ≡ map variable_numbers tables.variables
    → map owner tables.variables ≡ owners_of p → map owner image.variables ≡ owners_of p
owners_same p tables image is count numbers are =
    let few = less_functions image is.sizes.whole in
    let told = subst (AllByRecursion IsTold) (sym are) (owners_told p (omega (arith, few, count))) in
    sym (owners_by image few image.variables is.variables.each) ∙ ap (map owner_by) numbers ∙ told_by tables.variables told ∙ are
