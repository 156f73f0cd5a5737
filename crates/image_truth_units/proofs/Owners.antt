-- The functions to which the variables of a well-formed program belong.
use Rattle.std.proofs.Common.{◌≡◌, ℕ, zero, suc, ◌+◌, ◌-◌, ◌<◌, ◌≤◌, true, Some, List, [], ◌∷◌, ◌++◌, length, replicate, slice_get, ap, ◌∙◌, arith}
use Rattle.std.specs.Prelude.{◌==◌}
use Rattle.std.proofs.lemmas.Bool.{and_parts, eqb-true}
use Rattle.std.proofs.lemmas.List.{length-replicate}
use Rattle.std.proofs.lemmas.Option.{none-some, same_Some}
use Rattle.c_tree.specs.Programs.{TypedFunctionTree}
use Rattle.c_type_laws.specs.Laws.{follow}
use Rattle.image_build_tables.specs.Variables.{owned_from}
use Rattle.image_truth_units.proofs.Tables.{front_at, behind_at}
use Rattle.base_laws.proofs.Options.{replicate_at}

-- a later function's variables come behind
later_behind : (next count : ℕ) (all : List TypedFunctionTree) (k : ℕ) (f : TypedFunctionTree) → follow next count all ≡ true → slice_get all k ≡ Some f → next ≤ f.first_variable
later_behind next count [] k f ok is = absurd (none-some f is)
later_behind next count (g ∷ more) zero f ok is =
    let first = eqb-true g.first_variable next (and_parts (g.first_variable == next) (follow (next + g.variables) count more) ok).0 in
    let same : g.first_variable ≡ f.first_variable = ap (λ (x : TypedFunctionTree). x.first_variable) (same_Some g f is) in
    omega (arith, first, same)
later_behind next count (g ∷ more) (suc k) f ok is =
    let rest = later_behind (next + g.variables) count more k f (and_parts (g.first_variable == next) (follow (next + g.variables) count more) ok).1 is in
    omega (arith, rest)

-- A variable of a function belongs to it, and is one of those that there are.
pub owned_there : (number next count : ℕ) (all : List TypedFunctionTree) (k : ℕ) (f : TypedFunctionTree) (x : ℕ) → follow next count all ≡ true → slice_get all k ≡ Some f → f.first_variable ≤ x → x < f.first_variable + f.variables
    → (slice_get (owned_from number all) (x - next) ≡ Some (Some (number + k))) × (x < count)
owned_there number next count [] k f x ok is low high = absurd (none-some f is)
owned_there number next count (g ∷ more) zero f x ok is low high =
    let parts = and_parts (g.first_variable == next) (follow (next + g.variables) count more) ok in
    let first = eqb-true g.first_variable next parts.0 in
    let same = same_Some g f is in
    let start : g.first_variable ≡ f.first_variable = ap (λ (x : TypedFunctionTree). x.first_variable) same in
    let many : g.variables ≡ f.variables = ap (λ (x : TypedFunctionTree). x.variables) same in
    let least = reached (next + g.variables) count more parts.1 in
    let at : number ≡ number + 0 = omega arith in (
      front_at (replicate g.variables (Some number)) (owned_from (number + 1) more) (x - next) (Some number) (replicate_at g.variables (x - next) (Some number) (omega (arith, first, start, many, low, high))) ∙ ap (λ n. Some (Some n)) at,
      omega (arith, least, first, start, many, high),
    )
  where
    reached : (next count : ℕ) (all : List TypedFunctionTree) → follow next count all ≡ true → next ≤ count
    reached next count [] ok = let e = eqb-true next count ok in omega (arith, e)
    reached next count (g ∷ more) ok = let rest = reached (next + g.variables) count more (and_parts (g.first_variable == next) (follow (next + g.variables) count more) ok).1 in omega (arith, rest)
owned_there number next count (g ∷ more) (suc k) f x ok is low high =
    let parts = and_parts (g.first_variable == next) (follow (next + g.variables) count more) ok in
    let least = later_behind (next + g.variables) count more k f parts.1 is in
    let rest = owned_there (number + 1) (next + g.variables) count more k f x parts.1 is low high in
    let many = length-replicate g.variables (Some number) in
    let at : x - next ≡ length (replicate g.variables (Some number)) + (x - (next + g.variables)) = omega (arith, many, least, low) in
    let index : number + 1 + k ≡ number + suc k = omega arith in (
      ap (slice_get (replicate g.variables (Some number) ++ owned_from (number + 1) more)) at ∙ behind_at (replicate g.variables (Some number)) (owned_from (number + 1) more) (x - (next + g.variables)) ∙ rest.0 ∙ ap (λ n. Some (Some n)) index,
      rest.1,
    )
