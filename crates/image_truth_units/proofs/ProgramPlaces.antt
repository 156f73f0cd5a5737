-- The places of a program: function by function, each at its number.
use Rattle.std.proofs.Common.{◌≡◌, ℕ, zero, suc, ◌+◌, ◌-◌, ◌≤◌, ◌<◌, ◌⊎◌, inl, inr, Bool, true, false, Option, Some, None, List, [], ◌∷◌, ◌++◌, length, map, slice_get, refl, sym, ap, ◌∙◌, subst, arith}
use Rattle.std.specs.Prelude.{nat_lt, if◌then◌else◌}
use Rattle.std.specs.List.{AllByRecursion}
use Rattle.std.proofs.lemmas.Bool.{cases_lt}
use Rattle.std.proofs.lemmas.Option.{none-some, same_Some}
use Rattle.debug_records.specs.declared.source.Spot.{Spot}
use Rattle.c_tree.specs.TypedExpressions.{RvalueTree}
use Rattle.c_tree.specs.TypedStatements.{DeclaredTree, TypedStartTree, Nothing, Value, Declares, StepTree, TypedStatementTree, Block, Declaration, Empty, Run, If, IfElse, While, DoWhile, For, Switch, Break, Continue, Return, TypedStatementTrees, none, first, case, default}
use Rattle.c_tree.specs.Programs.{TypedFunctionTree}
use Rattle.c_places.specs.Flow.{reaches_end}
use Rattle.c_places.specs.Places.{Place, stop, brought, brought_by_start, brought_by_body, parameters_of, entry_of, close_of, count_before, place_number_at, places_of_declarators, places_of_start, places_of_head, places_of_step, places_of, places_of_all, places_of_function, places_of_functions}
use Rattle.c_type_laws.specs.Orders.{ascends, ascends_behind}
use Rattle.image_truth_units.proofs.Accepted.{both, is_less}
use Rattle.image_truth_units.proofs.Lists.{all_at}
use Rattle.base_laws.proofs.Numbers.{less as is_before, no_entry, not_before}
pub use Rattle.base_laws.proofs.Lists.{behind_at as behind_is, both_all}

-- ---- Lists

pub front_is : {A : Type 0} (xs ys : List A) (k : ℕ) → k < length xs → slice_get (xs ++ ys) k ≡ slice_get xs k
front_is [] ys k low = absurd (omega (arith, low))
front_is (x ∷ xs) ys zero low = refl
front_is (x ∷ xs) ys (suc k) low = front_is xs ys k (omega (arith, low))

-- ---- The function of each place

-- a place is one of a function, and no entry
abbrev IsIn : (function : ℕ) → Place → Type 0
IsIn f q = (q.function ≡ f) × (q.is_entry ≡ false)

declared_in : (f : ℕ) (scope : List ℕ) (all : List DeclaredTree) → AllByRecursion (IsIn f) (places_of_declarators f scope all)
declared_in f scope [] = tt
declared_in f scope (d ∷ all) = ((refl, refl), declared_in f (scope ++ d.variable ∷ []) all)

start_in : (f : ℕ) (scope : List ℕ) (s : TypedStartTree) → AllByRecursion (IsIn f) (places_of_start f scope s)
start_in f scope Nothing = tt
start_in f scope (Value spot e) = ((refl, refl), tt)
start_in f scope (Declares all) = declared_in f scope all

head_in : (f : ℕ) (scope : List ℕ) (start : TypedStartTree) (spot : Spot) (c : Option RvalueTree) → AllByRecursion (IsIn f) (places_of_head f scope start spot c)
head_in f scope start spot None = ((refl, refl), start_in f scope start)
head_in f scope start spot (Some c) = both_all (IsIn f) (places_of_start f scope start) (stop f (scope ++ brought_by_start start) spot ∷ []) (start_in f scope start) ((refl, refl), tt)

step_in : (f : ℕ) (scope : List ℕ) (s : Option StepTree) → AllByRecursion (IsIn f) (places_of_step f scope s)
step_in f scope None = tt
step_in f scope (Some s) = ((refl, refl), tt)

mutual
  statement_in : (f : ℕ) (scope : List ℕ) (s : TypedStatementTree) → AllByRecursion (IsIn f) (places_of f scope s)
  statement_in f scope (Block all) = statements_in f scope all
  statement_in f scope (Declaration all) = declared_in f scope all
  statement_in f scope (Empty spot) = ((refl, refl), tt)
  statement_in f scope (Run spot e) = ((refl, refl), tt)
  statement_in f scope (If spot c chosen) = ((refl, refl), statement_in f scope chosen)
  statement_in f scope (IfElse spot c chosen other) = ((refl, refl), both_all (IsIn f) (places_of f scope chosen) (places_of f scope other) (statement_in f scope chosen) (statement_in f scope other))
  statement_in f scope (While spot c body) = ((refl, refl), statement_in f scope body)
  statement_in f scope (DoWhile body spot c) = both_all (IsIn f) (places_of f scope body) (stop f scope spot ∷ []) (statement_in f scope body) ((refl, refl), tt)
  statement_in f scope (For start spot c step body) =
      let inside = scope ++ brought_by_start start in
      both_all (IsIn f) (places_of_head f scope start spot c ++ places_of_step f inside step) (places_of f inside body)
      (both_all (IsIn f) (places_of_head f scope start spot c) (places_of_step f inside step) (head_in f scope start spot c) (step_in f inside step)) (statement_in f inside body)
  statement_in f scope (Switch spot e all) = ((refl, refl), statements_in f scope all)
  statement_in f scope (Break spot) = ((refl, refl), tt)
  statement_in f scope (Continue spot) = ((refl, refl), tt)
  statement_in f scope (Return spot e) = ((refl, refl), tt)

  statements_in : (f : ℕ) (scope : List ℕ) (all : TypedStatementTrees) → AllByRecursion (IsIn f) (places_of_all f scope all)
  statements_in f scope none = tt
  statements_in f scope (first s rest) = both_all (IsIn f) (places_of f scope s) (places_of_all f (scope ++ brought s) rest) (statement_in f scope s) (statements_in f (scope ++ brought s) rest)
  statements_in f scope (case value rest) = statements_in f scope rest
  statements_in f scope (default rest) = statements_in f scope rest

-- what stands behind a function's entry
abbrev behind_entry : (f : ℕ) → TypedFunctionTree → List Place
behind_entry f tree = places_of_all f (parameters_of tree) tree.body ++ close_of f tree

function_in : (f : ℕ) (tree : TypedFunctionTree) → AllByRecursion (IsIn f) (behind_entry f tree)
function_in f tree = both_all (IsIn f) (places_of_all f (parameters_of tree) tree.body) (close_of f tree) (statements_in f (parameters_of tree) tree.body) (closed (reaches_end tree.body))
  where
    closed : (b : Bool) → AllByRecursion (IsIn f) (if b then stop f (parameters_of tree ++ brought_by_body tree.body) tree.close ∷ [] else [])
    closed true = ((refl, refl), tt)
    closed false = tt

-- a place of a function is its entry, or another of its places
own_place : (f i : ℕ) (tree : TypedFunctionTree) (q : Place) → slice_get (places_of_function f tree) i ≡ Some q → (entry_of f tree ≡ q) ⊎ IsIn f q
own_place f zero tree q is = inl (same_Some (entry_of f tree) q is)
own_place f (suc i) tree q is = inr (all_at (IsIn f) (behind_entry f tree) i q (function_in f tree) is)

pub own_function : (f i : ℕ) (tree : TypedFunctionTree) (q : Place) → slice_get (places_of_function f tree) i ≡ Some q → q.function ≡ f
own_function f i tree q is = elim (own_place f i tree q is) [
  | inl same ↦ sym (ap (λ (x : Place). x.function) same)
  | inr other ↦ other.0
]

-- A place of functions, the first of which has a number, is of one of them.
pub in_range : (number : ℕ) (all : List TypedFunctionTree) (i : ℕ) (q : Place) → slice_get (places_of_functions number all) i ≡ Some q → (number ≤ q.function) × (q.function < number + length all)
in_range number [] i q is = absurd (none-some q is)
in_range number (f ∷ all) i q is = elim (cases_lt i (length (places_of_function number f))) [
  | inl low ↦
      let own = own_function number i f q (sym (front_is (places_of_function number f) (places_of_functions (number + 1) all) i low) ∙ is) in
      (omega (arith, own), omega (arith, own))
  | inr high ↦
      let k = i - length (places_of_function number f) in
      let same : length (places_of_function number f) + (i - length (places_of_function number f)) ≡ i = omega (arith, high) in
      let later = in_range (number + 1) all k q (sym (behind_is (places_of_function number f) (places_of_functions (number + 1) all) k) ∙ ap (slice_get (places_of_function number f ++ places_of_functions (number + 1) all)) same ∙ is) in
      let least = later.0 in let most = later.1 in
      (omega (arith, least), omega (arith, most))
]

-- The functions of places do not fall.
pub in_order : (number : ℕ) (all : List TypedFunctionTree) (i j : ℕ) (q r : Place) → i ≤ j → slice_get (places_of_functions number all) i ≡ Some q → slice_get (places_of_functions number all) j ≡ Some r → q.function ≤ r.function
in_order number [] i j q r le is at = absurd (none-some q is)
in_order number (f ∷ all) i j q r le is at = elim (cases_lt i (length (places_of_function number f))) [
  | inl low ↦
      let own = own_function number i f q (sym (front_is (places_of_function number f) (places_of_functions (number + 1) all) i low) ∙ is) in
      let least = (in_range number (f ∷ all) j r at).0 in
      omega (arith, own, least)
  | inr high ↦
      let k = i - length (places_of_function number f) in
      let n = j - length (places_of_function number f) in
      let same : length (places_of_function number f) + (i - length (places_of_function number f)) ≡ i = omega (arith, high) in
      let also : length (places_of_function number f) + (j - length (places_of_function number f)) ≡ j = omega (arith, high, le) in
      let less : i - length (places_of_function number f) ≤ j - length (places_of_function number f) = omega (arith, high, le) in
      in_order (number + 1) all k n q r less (sym (behind_is (places_of_function number f) (places_of_functions (number + 1) all) k) ∙ ap (slice_get (places_of_function number f ++ places_of_functions (number + 1) all)) same ∙ is)
      (sym (behind_is (places_of_function number f) (places_of_functions (number + 1) all) n) ∙ ap (slice_get (places_of_function number f ++ places_of_functions (number + 1) all)) also ∙ at)
]

-- A function begins with its entry.
pub entry_there : (number : ℕ) (all : List TypedFunctionTree) (k : ℕ) (f : TypedFunctionTree) → slice_get all k ≡ Some f → (i : ℕ) × (slice_get (places_of_functions number all) i ≡ Some (entry_of (number + k) f))
entry_there number [] k f is = absurd (none-some f is)
entry_there number (g ∷ all) zero f is =
    let here : number ≡ number + 0 = omega arith in
    (0, ap (λ n. Some (entry_of n g)) here ∙ ap (λ x. Some (entry_of (number + 0) x)) (same_Some g f is))
entry_there number (g ∷ all) (suc k) f is =
    let later = entry_there (number + 1) all k f is in
    let here : number + 1 + k ≡ number + suc k = omega arith in
    (length (places_of_function number g) + later.0, behind_is (places_of_function number g) (places_of_functions (number + 1) all) later.0 ∙ later.1 ∙ ap (λ n. Some (entry_of n f)) here)

-- A place that is an entry is that of a function.
pub record IsEntryOf (number : ℕ) (all : List TypedFunctionTree) (q : Place) : Type 0 where
  pub index : ℕ
  pub tree : TypedFunctionTree
  pub is : slice_get all index ≡ Some tree
  pub same : entry_of (number + index) tree ≡ q

pub entry_only : (number : ℕ) (all : List TypedFunctionTree) (i : ℕ) (q : Place) → slice_get (places_of_functions number all) i ≡ Some q → q.is_entry ≡ true → IsEntryOf number all q
entry_only number [] i q is flag = absurd (none-some q is)
entry_only number (f ∷ all) i q is flag = elim (cases_lt i (length (places_of_function number f))) [
  | inl low ↦ elim (own_place number i f q (sym (front_is (places_of_function number f) (places_of_functions (number + 1) all) i low) ∙ is)) [
    | inl same ↦ let here : number + 0 ≡ number = omega arith in record { index = 0; tree = f; is = refl; same = ap (λ n. entry_of n f) here ∙ same }
    | inr other ↦ absurd (no_entry (sym flag ∙ other.1))
  ]
  | inr high ↦
      let k = i - length (places_of_function number f) in
      let same : length (places_of_function number f) + (i - length (places_of_function number f)) ≡ i = omega (arith, high) in
      further (entry_only (number + 1) all k q (sym (behind_is (places_of_function number f) (places_of_functions (number + 1) all) k) ∙ ap (slice_get (places_of_function number f ++ places_of_functions (number + 1) all)) same ∙ is) flag)
]
  where
    further : IsEntryOf (number + 1) all q → IsEntryOf number (f ∷ all) q
    further later = let here : number + suc later.index ≡ number + 1 + later.index = omega arith in record { index = suc later.index; tree = later.tree; is = later.is; same = ap (λ n. entry_of n later.tree) here ∙ later.same }

-- ---- The number of each place

abbrev pub spots : List Place → List ℕ
spots all = map (λ (q : Place). q.spot.at) all

none_before : (at last : ℕ) (all : List Place) → at ≤ last → ascends_behind last (spots all) ≡ true → count_before at all ≡ 0
none_before at last [] h k = refl
none_before at last (q ∷ all) h k =
    let parts = both (nat_lt last q.spot.at) (ascends_behind q.spot.at (spots all)) k in
    let less = is_less last q.spot.at parts.0 in
    ap (λ b. if b then count_before at all + 1 else count_before at all) (not_before q.spot.at at (omega (arith, h, less))) ∙ none_before at q.spot.at all (omega (arith, h, less)) parts.1

so_many : (last : ℕ) (all : List Place) (k : ℕ) (q : Place) → ascends_behind last (spots all) ≡ true → slice_get all k ≡ Some q → (last < q.spot.at) × (count_before q.spot.at all ≡ k)
so_many last [] k q h is = absurd (none-some q is)
so_many last (x ∷ all) zero q h is =
    let parts = both (nat_lt last x.spot.at) (ascends_behind x.spot.at (spots all)) h in
    let none = none_before x.spot.at x.spot.at all (omega arith) parts.1 in
    subst (λ (y : Place). (last < y.spot.at) × (count_before y.spot.at (x ∷ all) ≡ 0)) (same_Some x q is)
    (is_less last x.spot.at parts.0, ap (λ b. if b then count_before x.spot.at all + 1 else count_before x.spot.at all) (not_before x.spot.at x.spot.at (omega arith)) ∙ none)
so_many last (x ∷ all) (suc k) q h is =
    let parts = both (nat_lt last x.spot.at) (ascends_behind x.spot.at (spots all)) h in
    let less = is_less last x.spot.at parts.0 in
    let later = so_many x.spot.at all k q parts.1 is in
    let more = later.0 in
    let many = later.1 in
    (omega (arith, less, more), ap (λ b. if b then count_before q.spot.at all + 1 else count_before q.spot.at all) (is_before x.spot.at q.spot.at more) ∙ (omega (arith, many)))

-- Places that ascend are numbered by where they stand among them.
pub numbered_at : (all : List Place) (k : ℕ) (q : Place) → ascends (spots all) ≡ true → slice_get all k ≡ Some q → place_number_at all q.spot.at ≡ k + 1
numbered_at [] k q h is = absurd (none-some q is)
numbered_at (x ∷ all) zero q h is =
    let none = none_before x.spot.at x.spot.at all (omega arith) h in
    let none_too : place_number_at (x ∷ all) x.spot.at ≡ 0 + 1 = ap (λ b. (if b then count_before x.spot.at all + 1 else count_before x.spot.at all) + 1) (not_before x.spot.at x.spot.at (omega arith)) ∙ ap (λ n. n + 1) none in
    subst (λ (y : Place). place_number_at (x ∷ all) y.spot.at ≡ 0 + 1) (same_Some x q is) none_too
numbered_at (x ∷ all) (suc k) q h is =
    let later = so_many x.spot.at all k q h is in
    let many = later.1 in
    let number : place_number_at (x ∷ all) q.spot.at ≡ count_before q.spot.at all + 1 + 1 = ap (λ b. (if b then count_before q.spot.at all + 1 else count_before q.spot.at all) + 1) (is_before x.spot.at q.spot.at later.0) in
    omega (arith, number, many)
