-- The limits of a function, one by one.
use Rattle.std.proofs.Common.{◌≡◌, ◌<◌, ◌≤◌, ℕ, List, take, drop, Bool, true, false, Ok, Err, Some, None, if◌then◌else◌, refl, ap, ◌∙◌}
use Rattle.std.specs.Prelude.{map, nat_lt, ◌||◌}
use Rattle.std.proofs.lemmas.Bool.{false≢true}
use Rattle.debug_records.specs.declared.code.TheConstants.Code.{FUNCTION_WEIGHT, FUNCTION_OBJECTS, FUNCTION_COUNT}
use Rattle.c_tree.specs.declared.program.AutomaticVariable.{AutomaticVariable}
use Rattle.c_tree.specs.declared.program.TypedFunction.{TypedFunction}
use Rattle.c_tree.specs.Programs.{AutomaticTree, TypedFunctionTree, automatic_view, function_view}
use Rattle.c_type_bounds.specs.Bounds.{behind_function, memory_room, or_breach, variables_of, with_kept}
use Rattle.c_type_bounds.proofs.FunctionPlaces.{own_view}
use Rattle.base_laws.proofs.Numbers.{less as lt_true, not_before as lt_false}

-- what the memory objects of a function take
pub own_room_of : (own all : List AutomaticVariable) (f : TypedFunction) (ws : List AutomaticTree) → own ≡ take f.variables (drop f.first_variable all) → map automatic_view all ≡ ws
    → memory_room (map automatic_view own) ≡ memory_room (variables_of (function_view f) ws)
own_room_of own all f ws is whole = ap memory_room (ap (map automatic_view) is ∙ own_view all f.first_variable f.variables ∙ ap (λ xs. take f.variables (drop f.first_variable xs)) whole)

either_true : (p q : Bool) → p ≡ true → (p || q) ≡ true
either_true true q h = refl
either_true false q h = absurd (false≢true h)

or_true : (p q : Bool) → q ≡ true → (p || q) ≡ true
or_true true q h = refl
or_true false q h = h

neither : (p q : Bool) → p ≡ false → q ≡ false → (p || q) ≡ false
neither true q h g = h
neither false q h g = g

-- the second, the third and none of three
second : {A : Type 0} (p q r : Bool) (a b c d : A) → p ≡ false → q ≡ true → (if p then a else (if q then b else (if r then c else d))) ≡ b
second p q r a b c d h g = rw (h, g) refl

third : {A : Type 0} (p q r : Bool) (a b c d : A) → p ≡ false → q ≡ false → r ≡ true → (if p then a else (if q then b else (if r then c else d))) ≡ c
third p q r a b c d h g k = rw (h, g, k) refl

none_of : {A : Type 0} (p q r : Bool) (a b c d : A) → p ≡ false → q ≡ false → r ≡ false → (if p then a else (if q then b else (if r then c else d))) ≡ d
none_of p q r a b c d h g k = rw (h, g, k) refl

module _ (number : ℕ) (f : TypedFunctionTree) (vs : List AutomaticTree) (light : f.weight ≤ 3000) where
  pub room_refused : 4096 < memory_room (variables_of f (with_kept f vs)) → behind_function number f vs ≡ Err (FUNCTION_OBJECTS, f.spot.line)
  room_refused large =
      ap (λ breach. or_breach breach f.spot.line (with_kept f vs))
      (second (nat_lt 3000 f.weight) (nat_lt 4096 (memory_room (variables_of f (with_kept f vs)))) (nat_lt 255 number || nat_lt 8 f.parameters) (Some FUNCTION_WEIGHT) (Some FUNCTION_OBJECTS) (Some FUNCTION_COUNT) None (lt_false 3000 f.weight light) (lt_true 4096 (memory_room (variables_of f (with_kept f vs))) large))

  count_refused : memory_room (variables_of f (with_kept f vs)) ≤ 4096 → (nat_lt 255 number || nat_lt 8 f.parameters) ≡ true → behind_function number f vs ≡ Err (FUNCTION_COUNT, f.spot.line)
  count_refused small many =
      ap (λ breach. or_breach breach f.spot.line (with_kept f vs))
      (third (nat_lt 3000 f.weight) (nat_lt 4096 (memory_room (variables_of f (with_kept f vs)))) (nat_lt 255 number || nat_lt 8 f.parameters) (Some FUNCTION_WEIGHT) (Some FUNCTION_OBJECTS) (Some FUNCTION_COUNT) None (lt_false 3000 f.weight light) (lt_false 4096 (memory_room (variables_of f (with_kept f vs))) small) many)

  pub number_refused : memory_room (variables_of f (with_kept f vs)) ≤ 4096 → 255 < number → behind_function number f vs ≡ Err (FUNCTION_COUNT, f.spot.line)
  number_refused small many = count_refused small (either_true (nat_lt 255 number) (nat_lt 8 f.parameters) (lt_true 255 number many))

  pub parameters_refused : memory_room (variables_of f (with_kept f vs)) ≤ 4096 → 8 < f.parameters → behind_function number f vs ≡ Err (FUNCTION_COUNT, f.spot.line)
  parameters_refused small many = count_refused small (or_true (nat_lt 255 number) (nat_lt 8 f.parameters) (lt_true 8 f.parameters many))

  pub within_limits : memory_room (variables_of f (with_kept f vs)) ≤ 4096 → number ≤ 255 → f.parameters ≤ 8 → behind_function number f vs ≡ Ok (with_kept f vs)
  within_limits small few short =
      ap (λ breach. or_breach breach f.spot.line (with_kept f vs))
      (none_of (nat_lt 3000 f.weight) (nat_lt 4096 (memory_room (variables_of f (with_kept f vs)))) (nat_lt 255 number || nat_lt 8 f.parameters) (Some FUNCTION_WEIGHT) (Some FUNCTION_OBJECTS) (Some FUNCTION_COUNT) None (lt_false 3000 f.weight light) (lt_false 4096 (memory_room (variables_of f (with_kept f vs))) small) (neither (nat_lt 255 number) (nat_lt 8 f.parameters) (lt_false 255 number few) (lt_false 8 f.parameters short)))
