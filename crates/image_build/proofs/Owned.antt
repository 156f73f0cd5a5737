-- To which functions the variables of a well-formed program belong, and by what numbers they go.
use Rattle.std.proofs.Common.{◌≡◌, ℕ, zero, suc, ◌+◌, ◌-◌, ◌<◌, ◌≤◌, Bool, true, false, Option, Some, None, List, [], ◌∷◌, ◌++◌, length, map, replicate, slice_get, refl, sym, ap, ◌∙◌, subst, arith}
use Rattle.std.specs.Prelude.{◌==◌, ◌&&◌, nat_lt, if◌then◌else◌}
use Rattle.std.proofs.lemmas.Bool.{and_parts, eqb-true}
use Rattle.std.proofs.lemmas.Bool.Decides.{nat_tests}
use Rattle.std.proofs.lemmas.List.{length-map, length-replicate}
use Rattle.std.proofs.lemmas.Option.{none-some, same_Some}
use Rattle.c_tree.specs.declared.object_type.Object.TheVariants as object
use Rattle.c_tree.specs.Programs.{StaticTree, LiteralTree, TypedFunctionTree, ProgramTree}
use Rattle.c_type_laws.specs.Laws.{IsWellFormed, follow, are_functions, objects_ascend, is_main, are_objects, is_within, places_ascend, is_sound}
use Rattle.c_type_laws.specs.Parameters.{parameters_single}
use Rattle.c_places.specs.Places.{places_of_program}
use Rattle.c_flow.specs.Rows.{numbers_of, variable_if}
use Rattle.c_flow.specs.Assigns.{variable_number}
use Rattle.image_build_tables.specs.Variables.{owned_from, owners_of}
use Rattle.image_build.proofs.Lists.{Up, up_le, front_at, behind_at}
use Rattle.base_laws.proofs.Options.{replicate_at}

-- ---- Laws

pub record LawsOf (p : ProgramTree) : Type 0 where
  pub follows : follow 0 (length p.automatics) p.functions ≡ true
  pub functions : are_functions p p.functions ≡ true

pub laws_of : (p : ProgramTree) → IsWellFormed p → LawsOf p
laws_of p h =
    let ordered = objects_ascend p in
    let follows = follow 0 (length p.automatics) p.functions in
    let main = is_main (slice_get p.functions p.main) in
    let singles = parameters_single p.automatics p.functions in
    let last = and_parts (ordered && follows && main && are_objects p && are_functions p p.functions && is_within p && places_ascend (places_of_program p) && singles) (is_sound p) h in
    let a = and_parts (ordered && follows && main && are_objects p && are_functions p p.functions && is_within p && places_ascend (places_of_program p)) singles last.0 in
    let b = and_parts (ordered && follows && main && are_objects p && are_functions p p.functions && is_within p) (places_ascend (places_of_program p)) a.0 in
    let c = and_parts (ordered && follows && main && are_objects p && are_functions p p.functions) (is_within p) b.0 in
    let d = and_parts (ordered && follows && main && are_objects p) (are_functions p p.functions) c.0 in
    let e = and_parts (ordered && follows && main) (are_objects p) d.0 in
    let f = and_parts (ordered && follows) main e.0 in
    record { follows = (and_parts ordered follows f.0).1; functions = d.1 }

-- ---- To which function a variable belongs

reached : (next count : ℕ) (all : List TypedFunctionTree) → follow next count all ≡ true → next ≤ count
reached next count [] ok = let e = eqb-true next count ok in omega (arith, e)
reached next count (g ∷ more) ok = let rest = reached (next + g.variables) count more (and_parts (g.first_variable == next) (follow (next + g.variables) count more) ok).1 in omega (arith, rest)

-- a later function's variables come behind
later_behind : (next count : ℕ) (all : List TypedFunctionTree) (k : ℕ) (f : TypedFunctionTree) → follow next count all ≡ true → slice_get all k ≡ Some f → next ≤ f.first_variable
later_behind next count [] k f ok is = absurd (none-some f is)
later_behind next count (g ∷ more) zero f ok is =
    let first = eqb-true g.first_variable next (and_parts (g.first_variable == next) (follow (next + g.variables) count more) ok).0 in
    let same : g.first_variable ≡ f.first_variable = ap (λ (x : TypedFunctionTree). x.first_variable) (same_Some g f is) in
    omega (arith, first, same)
later_behind next count (g ∷ more) (suc k) f ok is =
    let rest = later_behind (next + g.variables) count more k f (and_parts (g.first_variable == next) (follow (next + g.variables) count more) ok).1 is in
    omega (arith, rest)

-- the variables of a function are among those that there are
pub ends_within : (next count : ℕ) (all : List TypedFunctionTree) (k : ℕ) (f : TypedFunctionTree) → follow next count all ≡ true → slice_get all k ≡ Some f → f.first_variable + f.variables ≤ count
ends_within next count [] k f ok is = absurd (none-some f is)
ends_within next count (g ∷ more) zero f ok is =
    let parts = and_parts (g.first_variable == next) (follow (next + g.variables) count more) ok in
    let first = eqb-true g.first_variable next parts.0 in
    let least = reached (next + g.variables) count more parts.1 in
    subst (λ (x : TypedFunctionTree). x.first_variable + x.variables ≤ count) (same_Some g f is) (omega (arith, first, least))
ends_within next count (g ∷ more) (suc k) f ok is = ends_within (next + g.variables) count more k f (and_parts (g.first_variable == next) (follow (next + g.variables) count more) ok).1 is

owned_there : (number next count : ℕ) (all : List TypedFunctionTree) (k : ℕ) (f : TypedFunctionTree) (x : ℕ) → follow next count all ≡ true → slice_get all k ≡ Some f → f.first_variable ≤ x → x < f.first_variable + f.variables
    → slice_get (owned_from number all) (x - next) ≡ Some (Some (number + k))
owned_there number next count [] k f x ok is low high = absurd (none-some f is)
owned_there number next count (g ∷ more) zero f x ok is low high =
    let parts = and_parts (g.first_variable == next) (follow (next + g.variables) count more) ok in
    let first = eqb-true g.first_variable next parts.0 in
    let same = same_Some g f is in
    let start : g.first_variable ≡ f.first_variable = ap (λ (x : TypedFunctionTree). x.first_variable) same in
    let many : g.variables ≡ f.variables = ap (λ (x : TypedFunctionTree). x.variables) same in
    let at : number ≡ number + 0 = omega arith in
    front_at (replicate g.variables (Some number)) (owned_from (number + 1) more) (x - next) (Some number) (replicate_at g.variables (x - next) (Some number) (omega (arith, first, start, many, low, high))) ∙ ap (λ n. Some (Some n)) at
owned_there number next count (g ∷ more) (suc k) f x ok is low high =
    let parts = and_parts (g.first_variable == next) (follow (next + g.variables) count more) ok in
    let least = later_behind (next + g.variables) count more k f parts.1 is in
    let rest = owned_there (number + 1) (next + g.variables) count more k f x parts.1 is low high in
    let many = length-replicate g.variables (Some number) in
    let at : x - next ≡ length (replicate g.variables (Some number)) + (x - (next + g.variables)) = omega (arith, many, least, low) in
    let index : number + 1 + k ≡ number + suc k = omega arith in
    ap (slice_get (replicate g.variables (Some number) ++ owned_from (number + 1) more)) at ∙ behind_at (replicate g.variables (Some number)) (owned_from (number + 1) more) (x - (next + g.variables)) ∙ rest ∙ ap (λ n. Some (Some n)) index

-- how many variables stand before the automatic ones
abbrev pub offset : ProgramTree → ℕ
offset p = length p.statics + length p.literals

-- A variable of a function belongs to it.
pub owner_there : (p : ProgramTree) → LawsOf p → (k : ℕ) (f : TypedFunctionTree) (x : ℕ) → slice_get p.functions k ≡ Some f → f.first_variable ≤ x → x < f.first_variable + f.variables → slice_get (owners_of p) (offset p + x) ≡ Some (Some k)
owner_there p laws k f x is low high =
    let statics : List (Option ℕ) = map (λ (v : StaticTree). None) p.statics in
    let literals : List (Option ℕ) = map (λ (l : LiteralTree). None) p.literals in
    let owned : List (Option ℕ) = owned_from 0 p.functions in
    let long : length statics ≡ length p.statics = length-map p.statics (λ (v : StaticTree). None) in
    let more : length literals ≡ length p.literals = length-map p.literals (λ (l : LiteralTree). None) in
    let at : offset p + x ≡ length statics + (length literals + x) = omega (arith, long, more) in
    let none : x ≡ x - 0 = omega arith in
    let same : 0 + k ≡ k = omega arith in
    ap (slice_get (statics ++ (literals ++ owned))) at ∙ behind_at statics (literals ++ owned) (length literals + x) ∙ behind_at literals owned x ∙ ap (slice_get owned) none ∙ owned_there 0 0 (length p.automatics) p.functions k f x laws.follows is low high ∙ ap (λ n. Some (Some n)) same

-- ---- Numbers of variables

number_there : (p : ProgramTree) (x : ℕ) → x < length p.automatics → variable_number p (object.Automatic x) ≡ Some (offset p + x)
number_there p x lt = by_test (nat_lt x (length p.automatics)) (below x (length p.automatics) lt)
  where
    below : (a b : ℕ) → a < b → nat_lt a b ≡ true
    below a b h = grind (arith, nat_tests)

    by_test : (b : Bool) → b ≡ true → (if b then Some (length p.statics + length p.literals + x) else None) ≡ Some (offset p + x)
    by_test true e = refl
    by_test false e = cc

-- the numbers of automatic variables that ascend ascend
pub numbers_up : (p : ProgramTree) (low high : ℕ) (xs : List ℕ) → high ≤ length p.automatics → Up low high xs → Up (offset p + low) (offset p + high) (numbers_of p xs)
numbers_up p low high [] le up = omega (arith, up)
numbers_up p low high (x ∷ xs) le up =
    let first = up.0 in
    let rest = up_le (x + 1) high xs up.1 in
    let is = number_there p x (omega (arith, rest, le)) in
    let more = numbers_up p (x + 1) high xs le up.1 in
    let next : offset p + (x + 1) ≡ offset p + x + 1 = omega arith in
    subst (λ (o : Option ℕ). Up (offset p + low) (offset p + high) (variable_if o ++ numbers_of p xs)) (sym is) (omega (arith, first), subst (λ n. Up n (offset p + high) (numbers_of p xs)) next more)
