-- Flags of places that are set one after the other.
use Rattle.std.proofs.Common.{◌≡◌, ◌≢◌, ℕ, zero, suc, ◌+◌, ◌-◌, ◌<◌, ◌≤◌, ◌==◌, Bool, true, false, Some, List, [], ◌∷◌, ◌++◌, length, map, take, get_or, refl, sym, ap, ◌∙◌, subst, arith}
use Rattle.std.specs.Prelude.{◌&&◌, ◌||◌, slice_get, slice_index_or, slice_set}
use Rattle.std.specs.List.{list_any}
use Rattle.std.proofs.Math.Bool.{and-false, and-true, or-false, or-true, or_assoc}
use Rattle.std.proofs.lemmas.Bool.{eqb-true, eqb-false}
use Rattle.std.proofs.lemmas.Bool.Decides.{nat_tests}
use Rattle.std.proofs.lemmas.List.{get_or-set_same, get_or-set_other}
use Rattle.std.proofs.lemmas.List.Folds.{list_any-append}
use Rattle.image_form.specs.declared.tables.AssignedPair.{AssignedPair}
use Rattle.places.specs.declared.flow.Assignment.{Assignment}
use Rattle.places.specs.Flow.{assigns}
use Rattle.stop_engine_view.specs.Evidence.{assignment_of}
use Rattle.stop_engine_view.specs.HomeWrites.{any_from}
use Rattle.stop_engine_tables.proofs.Records.{made_of_more}

-- a flag more is set
pub flag_set : (flags : List Bool) (n p : ℕ) → n < length flags → slice_index_or (slice_set flags n true) p false ≡ (slice_index_or flags p false || n == p)
flag_set flags n p low = by_test (n == p) refl
  where
    by_test : (b : Bool) → (n == p) ≡ b → slice_index_or (slice_set flags n true) p false ≡ (slice_index_or flags p false || n == p)
    by_test true t =
        let here : slice_index_or (slice_set flags n true) p false ≡ true = subst (λ q. get_or (slice_set flags n true) q false ≡ true) (eqb-true n p t) (get_or-set_same flags n true false low) in
        here ∙ (sym (or-true (slice_index_or flags p false)) ∙ ap (λ b. slice_index_or flags p false || b) (sym t))
    by_test false t =
        get_or-set_other flags n p true false (λ e. eqb-false n p t (sym e)) ∙ (sym (or-false (slice_index_or flags p false)) ∙ ap (λ b. slice_index_or flags p false || b) (sym t))

-- one number more is tested
pub any_last : (test : ℕ → Bool) (first count : ℕ) → any_from test first (suc count) ≡ (any_from test first count || test (first + count))
any_last test first zero = or-false (test first) ∙ ap test (omega arith)
any_last test first (suc count) =
    let behind : first + 1 + count ≡ first + suc count = omega arith in
    ap (λ b. test first || b) (any_last test (first + 1) count ∙ ap (λ n. any_from test (first + 1) count || test n) behind)
    ∙ sym (or_assoc (test first) (any_from test (first + 1) count) (test (first + suc count)))

-- what a flag says of the numbers before one, and of that one
pub tested_more : (test : ℕ → Bool) (first index : ℕ) (old now new here : Bool) → first ≤ index → test index ≡ here → now ≡ (old || any_from test first (index - first)) → new ≡ (now || here)
    → new ≡ (old || any_from test first (index + 1 - first))
tested_more test first index old now new here from is so_far next =
    let count : suc (index - first) ≡ index + 1 - first = omega (arith, from) in
    let there : first + (index - first) ≡ index = omega (arith, from) in
    let before : Bool = any_from test first (index - first) in
    let last : any_from test first (index + 1 - first) ≡ (before || here) = ap (any_from test first) (sym count) ∙ any_last test first (index - first) ∙ ap (λ b. before || b) (ap test there ∙ is) in
    next ∙ ap (λ b. b || here) so_far ∙ or_assoc old before here ∙ ap (λ b. old || b) (sym last)

-- the assignments before one, and that one
pub assigns_more : (pairs : List AssignedPair) (n : ℕ) (pair : AssignedPair) (place variable : ℕ) → slice_get pairs n ≡ Some pair
    → assigns (map assignment_of (take (n + 1) pairs)) place variable ≡ (assigns (map assignment_of (take n pairs)) place variable || (pair.place == place && pair.variable == variable))
assigns_more pairs n pair place variable at =
    let made : List Assignment = map assignment_of (take n pairs) in
    let is : Assignment → Bool = λ (a : Assignment). a.place.0 == place && a.var.0 == variable in
    let more : made ++ assignment_of pair ∷ [] ≡ map assignment_of (take (n + 1) pairs) = made_of_more assignment_of pairs n pair made _ refl at refl in
    ap (λ all. assigns all place variable) (sym more) ∙ (list_any-append is made (assignment_of pair ∷ []) ∙ ap (λ b. list_any is made || b) (or-false (is (assignment_of pair))))

-- what a flag says of the assignments before one, and of that one
assigned_more : (pairs : List AssignedPair) (n : ℕ) (pair : AssignedPair) (place variable : ℕ) (old now new here : Bool) → slice_get pairs n ≡ Some pair
    → (pair.place == place && pair.variable == variable) ≡ here → now ≡ (old || assigns (map assignment_of (take n pairs)) place variable) → new ≡ (now || here)
    → new ≡ (old || assigns (map assignment_of (take (n + 1) pairs)) place variable)
assigned_more pairs n pair place variable old now new here at is so_far next =
    let before : Bool = assigns (map assignment_of (take n pairs)) place variable in
    let last : assigns (map assignment_of (take (n + 1) pairs)) place variable ≡ (before || here) = assigns_more pairs n pair place variable at ∙ ap (λ b. before || b) is in
    next ∙ ap (λ b. b || here) so_far ∙ or_assoc old before here ∙ ap (λ b. old || b) (sym last)

-- it assigns the variable, and its place has the flag set
pub assigned_here : (pairs : List AssignedPair) (n : ℕ) (pair : AssignedPair) (place variable : ℕ) (old now new : Bool) → slice_get pairs n ≡ Some pair → pair.variable ≡ variable
    → now ≡ (old || assigns (map assignment_of (take n pairs)) place variable) → new ≡ (now || pair.place == place) → new ≡ (old || assigns (map assignment_of (take (n + 1) pairs)) place variable)
assigned_here pairs n pair place variable old now new at same so_far next =
    let met : (pair.variable == variable) ≡ true = grind (arith, nat_tests, same) in
    assigned_more pairs n pair place variable old now new (pair.place == place) at (ap (λ b. pair.place == place && b) met ∙ and-true (pair.place == place)) so_far next

-- it assigns another
pub assigned_other : (pairs : List AssignedPair) (n : ℕ) (pair : AssignedPair) (place variable : ℕ) (old now : Bool) → slice_get pairs n ≡ Some pair → pair.variable ≢ variable
    → now ≡ (old || assigns (map assignment_of (take n pairs)) place variable) → now ≡ (old || assigns (map assignment_of (take (n + 1) pairs)) place variable)
assigned_other pairs n pair place variable old now at other so_far =
    let failed : (pair.variable == variable) ≡ false = grind (arith, nat_tests, other) in
    assigned_more pairs n pair place variable old now now false at (ap (λ b. pair.place == place && b) failed ∙ and-false (pair.place == place)) so_far (sym (or-false now))
