-- The variables and the places of a function.
use Rattle.std.proofs.Common.{◌≡◌, ◌+◌, arith, ℕ, List, length, take, drop, Bool, true, false, if◌then◌else◌, refl, ap, ◌∙◌, sym}
use Rattle.std.proofs.lemmas.Bool.{false≢true}
use Rattle.std.specs.Prelude.{map}
use Rattle.std.proofs.lemmas.List.{take-map, drop-map}
use Rattle.c_tree.specs.declared.program.AutomaticVariable.{AutomaticVariable}
use Rattle.c_tree.specs.Programs.{AutomaticTree, TypedFunctionTree, automatic_view}
use Rattle.c_places.specs.Flow.{reaches_end}
use Rattle.c_type_bounds.specs.Visible.{at_close, at_function, at_statements, behind_statements, parameter_names}

-- some of the variables, as trees
pub own_view : (vs : List AutomaticVariable) (first count : ℕ) → map automatic_view (take count (drop first vs)) ≡ take count (drop first (map automatic_view vs))
own_view vs first count = sym (take-map automatic_view count (drop first vs)) ∙ ap (take count) (sym (drop-map automatic_view first vs))

if_true : (b : Bool) (n : ℕ) → b ≡ true → n ≡ (if b then n else 0)
if_true true n h = refl
if_true false n h = absurd (false≢true h)

if_false : (b : Bool) (n : ℕ) → b ≡ false → (if b then n else 0) ≡ 0
if_false true n h = absurd (false≢true (sym h))
if_false false n h = refl

-- the closing brace, where flow reaches it and where it doesn't
pub with_close : (vs : List AutomaticTree) (f : TypedFunctionTree) (names after : List (List ℕ)) → reaches_end f.body ≡ true → names ≡ parameter_names vs f → after ≡ behind_statements vs f.body names
    → at_statements vs f.body names + length after ≡ at_function vs f
with_close vs f names after reaches named behind =
    let close : length after ≡ at_close vs f =
    ap length (behind ∙ ap (behind_statements vs f.body) named) ∙ if_true (reaches_end f.body) (length (behind_statements vs f.body (parameter_names vs f))) reaches in
    let inner : at_statements vs f.body names ≡ at_statements vs f.body (parameter_names vs f) = ap (at_statements vs f.body) named in
    omega (arith, close, inner)

pub without_close : (vs : List AutomaticTree) (f : TypedFunctionTree) (names : List (List ℕ)) → reaches_end f.body ≡ false → names ≡ parameter_names vs f → at_statements vs f.body names ≡ at_function vs f
without_close vs f names reaches named =
    let close : at_close vs f ≡ 0 = if_false (reaches_end f.body) (length (behind_statements vs f.body (parameter_names vs f))) reaches in
    let inner : at_statements vs f.body names ≡ at_statements vs f.body (parameter_names vs f) = ap (at_statements vs f.body) named in
    omega (arith, close, inner)
