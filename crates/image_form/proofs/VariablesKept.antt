-- Variables keep their rules where their rows keep their tests.
use Rattle.std.proofs.Common.{◌≡◌, ◌≢◌, ℕ, zero, suc, ◌+◌, ◌%◌, ◌<◌, ◌≤◌, true, false, not, ◌&&◌, [], ◌∷◌, length, get_or, Option, Some, None, refl, sym, ap, subst, arith, eqb}
use Rattle.std.specs.Prelude.{map, slice_get, unwrap_or, ◌==◌, nat_le, nat_lt, if◌then◌else◌}
use Rattle.std.specs.List.{AllByRecursion}
use Rattle.std.proofs.lemmas.Bool.{ne_eqb, eq-eqb}
use Rattle.std.proofs.lemmas.Bool.Decides.{nat_tests}
use Rattle.std.proofs.lemmas.List.{length-map}
use Rattle.std.proofs.lemmas.Option.{slice_get_within, slice_get-get_or}
use Rattle.image_form.specs.declared.tables.Function.{Function}
use Rattle.image_form.specs.declared.variables.ElementType.{ElementType}
use Rattle.image_form.specs.declared.variables.ElementType.TheVariants.{U8, I8, U16, I16, U32, I32, Pointer}
use Rattle.image_form.specs.declared.variables.Storage.{Storage}
use Rattle.image_form.specs.declared.variables.Storage.TheVariants.{Static, Frame, Register, Slot}
use Rattle.image_form.specs.declared.variables.Variable.{Variable}
use Rattle.image_form.specs.Decoding.{sections_of}
use Rattle.image_form.specs.Form.{Form}
use Rattle.image_form.specs.Numbers.{function_numbers, no_function, element_number, storage_number, storage_value, variable_numbers}
use Rattle.image_form.specs.RulesOfVariables.{IsVariable, IsKept, IsCount, IsNamed, IsFrameOffset, IsHomeRegister, IsStaticAddress, group_of, group, IsDeclaredBefore, VariableRules, first_static_address, static_size}
use Rattle.memory_map.specs.declared.map.Map.{Map}
use Rattle.image_form_sections.specs.declared.version.Version.{Version}
use Rattle.image_form_sections.specs.Versions.{map_of, version_number}
use Rattle.image_form.proofs.VersionLaws.{version_back}
use Rattle.image_form_sections.specs.Sections.{cell}
use Rattle.image_form_sections.specs.TestsOfTables.{is_above}
use Rattle.image_form_sections.specs.TestsOfVariables.{group_at, group_before, is_name_length, is_function, is_position, is_storage, is_home_register, is_static_address, is_value, is_count, variable_tests}
use Rattle.image_form.proofs.Kept.{AllTrue, row_is, next_from, next_at, before_at, at_each}
use Rattle.image_form.proofs.RecordsBack.{some_and, kept_there, all_of}
use Rattle.image_form.proofs.TableLaws.{each_at, each_from}

-- No variable has the function number that stands for none.
abbrev pub TellsFunctions : Form → Type 0
TellsFunctions f = AllByRecursion (λ v. v.function ≢ Some no_function) f.variables

element_small : (e : ElementType) → nat_le (element_number e) 6 ≡ true
element_small U8 = refl
element_small I8 = refl
element_small U16 = refl
element_small I16 = refl
element_small U32 = refl
element_small I32 = refl
element_small Pointer = refl

group_small : (function : Option ℕ) (name_length : ℕ) → group_of function name_length ≤ 2
group_small None name_length = grind (arith, nat_tests)
group_small (Some k) name_length = omega arith

no_code : Function
no_code = record { name_length = 0; first = 0; end = 0; frame = 0; entry = 0; saved = 0 }

-- A function number that is told.
told_apart : (k : ℕ) → Some k ≢ Some no_function → eqb k no_function ≡ false
told_apart k told = ne_eqb k no_function (λ e. told (ap Some e))

home_sound : (r : ℕ) → is_home_register r ≡ true → IsHomeRegister r
unfolding is_home_register
home_sound r kept = grind (arith, nat_tests, kept)

home_complete : (r : ℕ) → IsHomeRegister r → is_home_register r ≡ true
unfolding is_home_register
home_complete r is = grind (arith, nat_tests, is)

-- The map of the number of an image's version.
map_told : (f : Form) → map_of (version_number f.version) ≡ f.version.map
map_told f = ap (λ (v : Version). v.map) (version_back f.version)

static_sound : (f : Form) (a : ℕ) → is_static_address (sections_of f) a ≡ true → IsStaticAddress f a
unfolding is_static_address
static_sound f a kept =
    let start = first_static_address f.version.map in
    let told : (nat_le start a && nat_lt a (start + static_size)) ≡ true =
    subst (λ (m : Map). (nat_le (first_static_address m) a && nat_lt a (first_static_address m + static_size)) ≡ true) (map_told f) kept in
    grind (arith, nat_tests, told)

static_complete : (f : Form) (a : ℕ) → IsStaticAddress f a → is_static_address (sections_of f) a ≡ true
unfolding is_static_address
static_complete f a is =
    let start = first_static_address f.version.map in
    let told : (nat_le start a && nat_lt a (start + static_size)) ≡ true = grind (arith, nat_tests, is) in
    subst (λ (m : Map). (nat_le (first_static_address m) a && nat_lt a (first_static_address m + static_size)) ≡ true) (sym (map_told f)) told

module _ (f : Form) where
  abbrev pub VariablesKept : Type 0
  VariablesKept = (i : ℕ) → i < length f.variables → AllTrue (variable_tests (sections_of f) i)

  frame_sound : (k o : ℕ) → k < length f.functions → (o % 4 == 0 && nat_lt o (cell (map (function_numbers f.version.level) f.functions) k 3)) ≡ true → IsFrameOffset f k o
  frame_sound k o there kept =
      let at = slice_get-get_or f.functions k no_code there in
      let t = rw (row_is (function_numbers f.version.level) f.functions k (get_or f.functions k no_code) at) at kept in
      rw at (grind (arith, nat_tests, t), grind (arith, nat_tests, t))

  frame_complete : (k o : ℕ) → IsFrameOffset f k o → (o % 4 == 0 && nat_lt o (cell (map (function_numbers f.version.level) f.functions) k 3)) ≡ true
  frame_complete k o is =
      let g = some_and (slice_get f.functions k) _ is in
      rw (row_is (function_numbers f.version.level) f.functions k g.0 g.1) (grind (arith, nat_tests, g.2))

  kept_sound : (i name_length position count : ℕ) (function : Option ℕ) (element : ElementType) (storage : Storage)
      → get_or (map variable_numbers f.variables) i [] ≡ name_length ∷ unwrap_or function no_function ∷ position ∷ element_number element ∷ storage_number storage ∷ storage_value storage ∷ count ∷ 0 ∷ []
      → function ≢ Some no_function → AllTrue (variable_tests (sections_of f) i) → IsNamed function name_length × IsKept f function storage × IsCount storage count
  unfolding is_function is_storage is_value is_count
  kept_sound i name_length position count None element (Static a) row told kept = let k = rw row at kept in (tt, static_sound f a k.1.1.1.1.1.0, tt)
  kept_sound i name_length position count None element (Frame o) row told kept = absurd (let k = rw row at kept in let never = k.1.1.1.1.0 in cc)
  kept_sound i name_length position count None element (Register r) row told kept = absurd (let k = rw row at kept in let never = k.1.1.1.1.0 in cc)
  kept_sound i name_length position count None element (Slot o) row told kept = absurd (let k = rw row at kept in let never = k.1.1.1.1.0 in cc)
  kept_sound i name_length position count (Some n) element (Static a) row told kept = absurd (let k = rw (row, told_apart n told) at kept in let never = k.1.1.1.1.0 in cc)
  kept_sound i name_length position count (Some n) element (Frame o) row told kept =
      let k = rw (row, told_apart n told, length-map f.functions (function_numbers f.version.level)) at kept in
      let there : n < length f.functions = grind (arith, nat_tests, k.1.0) in
      (grind (arith, nat_tests, k.1.0), frame_sound n o there k.1.1.1.1.1.0, tt)
  kept_sound i name_length position count (Some n) element (Register r) row told kept =
      let k = rw (row, told_apart n told, length-map f.functions (function_numbers f.version.level)) at kept in
      (grind (arith, nat_tests, k.1.0), (grind (arith, nat_tests, k.1.0), home_sound r k.1.1.1.1.1.0), grind (arith, nat_tests, k.1.1.1.1.1.1.0))
  kept_sound i name_length position count (Some n) element (Slot o) row told kept =
      let k = rw (row, told_apart n told, length-map f.functions (function_numbers f.version.level)) at kept in
      let there : n < length f.functions = grind (arith, nat_tests, k.1.0) in
      (grind (arith, nat_tests, k.1.0), frame_sound n o there k.1.1.1.1.1.0, grind (arith, nat_tests, k.1.1.1.1.1.1.0))

  one_sound : (i : ℕ) (v : Variable) → slice_get f.variables i ≡ Some v → v.function ≢ Some no_function → AllTrue (variable_tests (sections_of f) i) → IsVariable f v
  unfolding is_name_length
  one_sound i v at told kept =
      let row = row_is variable_numbers f.variables i v at in
      let parts = kept_sound i v.name_length v.position v.count v.function v.element v.storage row told kept in
      let k = rw row at kept in
      record { short_name = grind (arith, nat_tests, k.0); named = parts.0; kept = parts.1; counted = parts.2 }

  -- The group of a variable by its row.
  group_is : (i : ℕ) (v : Variable) → slice_get f.variables i ≡ Some v → v.function ≢ Some no_function → group_at (sections_of f) i ≡ group v
  unfolding group_at
  group_is i v at told = rw (row_is variable_numbers f.variables i v at) (go v.function told)
    where
      go : (function : Option ℕ) → function ≢ Some no_function → (if unwrap_or function no_function == no_function then (if v.name_length == 0 then 1 else 0) else 2) ≡ group_of function v.name_length
      go None told = refl
      go (Some k) told = rw (told_apart k told) refl

  next_sound : (j : ℕ) (u v : Variable) → slice_get f.variables j ≡ Some u → slice_get f.variables (suc j) ≡ Some v → u.function ≢ Some no_function → v.function ≢ Some no_function
      → AllTrue (variable_tests (sections_of f) (suc j)) → IsDeclaredBefore u v
  unfolding is_function is_position is_above
  next_sound j u v at_u at_v told_u told_v kept =
      let k = rw (group_is j u at_u told_u, group_is (suc j) v at_v told_v, row_is variable_numbers f.variables j u at_u, row_is variable_numbers f.variables (suc j) v at_v) at kept in
      let order : group u ≤ group v = go v.function refl told_v k.1.0 in
      grind (arith, nat_tests, order, k.1.1.0)
    where
      go : (function : Option ℕ) → v.function ≡ function → function ≢ Some no_function
          → (if unwrap_or v.function no_function == no_function then nat_le (group u) (group v) else (nat_le 1 v.name_length && nat_lt (unwrap_or v.function no_function) (length (map (function_numbers f.version.level) f.functions)))) ≡ true
          → group u ≤ group v
      go None is told kept = let t = rw is at kept in rw is (grind (arith, nat_tests, t))
      go (Some k) is told kept = let small = group_small u.function u.name_length in rw is small

  pub variables_sound : TellsFunctions f → VariablesKept → VariableRules f
  variables_sound told kept = record {
    each = each_from (IsVariable f) f.variables (λ i v at. one_sound i v at (each_at _ f.variables i v told at) (kept i (slice_get_within f.variables i v at)));
    in_order = next_from _ f.variables (λ j u v at_u at_v. next_sound j u v at_u at_v (each_at _ f.variables j u told at_u) (each_at _ f.variables (suc j) v told at_v) (kept (suc j) (slice_get_within f.variables (suc j) v at_v)));
  }

  -- ---- and the other way

  -- What the tests of storage, value and count say.
  kept_complete : (i name_length position count : ℕ) (function : Option ℕ) (element : ElementType) (storage : Storage)
      → get_or (map variable_numbers f.variables) i [] ≡ name_length ∷ unwrap_or function no_function ∷ position ∷ element_number element ∷ storage_number storage ∷ storage_value storage ∷ count ∷ 0 ∷ []
      → function ≢ Some no_function → IsKept f function storage → IsCount storage count
      → (is_storage (sections_of f) i ≡ true) × (is_value (sections_of f) i ≡ true) × (is_count (sections_of f) i ≡ true)
  unfolding is_storage is_value is_count
  kept_complete i name_length position count None element (Static a) row told kept counted = rw row (refl, static_complete f a kept, refl)
  kept_complete i name_length position count None element (Frame o) row told kept counted = absurd kept
  kept_complete i name_length position count None element (Register r) row told kept counted = absurd kept
  kept_complete i name_length position count None element (Slot o) row told kept counted = absurd kept
  kept_complete i name_length position count (Some n) element (Static a) row told kept counted = absurd kept
  kept_complete i name_length position count (Some n) element (Frame o) row told kept counted = rw (row, told_apart n told) (refl, frame_complete n o kept, refl)
  kept_complete i name_length position count (Some n) element (Register r) row told kept counted = rw (row, told_apart n told) (refl, home_complete r kept.1, eq-eqb count 0 counted)
  kept_complete i name_length position count (Some n) element (Slot o) row told kept counted = rw (row, told_apart n told) (refl, frame_complete n o kept, eq-eqb count 0 counted)

  -- A function that is there is told.
  told_kept : length f.functions < no_function → (v : Variable) → IsVariable f v → v.function ≢ Some no_function
  told_kept few v is none = let there = kept_there f no_function v.storage (rw none at is.kept) in omega (arith, there, few)

  -- The name's length and the function, behind a variable of a group that is not later.
  named_complete : (i before : ℕ) (v : Variable) → slice_get f.variables i ≡ Some v → v.function ≢ Some no_function → IsVariable f v → group_before (sections_of f) i ≡ before → before ≤ group v
      → (is_name_length (sections_of f) i ≡ true) × (is_function (sections_of f) i ≡ true)
  unfolding is_name_length is_function
  named_complete i before v at told is same order = rw (group_is i v at told, row_is variable_numbers f.variables i v at, same, length-map f.functions (function_numbers f.version.level)) (go v.function refl told)
    where
      go : (function : Option ℕ) → v.function ≡ function → function ≢ Some no_function
          → ((nat_le v.name_length 63 && not (v.name_length == 0 && before == 2)) ≡ true)
          × ((if unwrap_or v.function no_function == no_function then nat_le before (group v) else (nat_le 1 v.name_length && nat_lt (unwrap_or v.function no_function) (length f.functions))) ≡ true)
      go None here told =
          let low : before ≤ group_of None v.name_length = rw here at order in
          rw here (grind (arith, nat_tests, is.short_name, low), grind (arith, nat_tests, low))
      go (Some k) here told =
          let named : 1 ≤ v.name_length = rw here at is.named in
          let there = kept_there f k v.storage (rw here at is.kept) in
          rw (here, told_apart k told) (grind (arith, nat_tests, is.short_name, named), grind (arith, nat_tests, named, there))

  position_complete : (i : ℕ) (v : Variable) → slice_get f.variables i ≡ Some v → VariableRules f → TellsFunctions f → is_position (sections_of f) i ≡ true
  unfolding is_position is_above
  position_complete zero v at rules told = grind (arith, nat_tests)
  position_complete (suc j) v at rules told =
      let u = before_at f.variables j v at in
      let order = next_at _ f.variables rules.in_order j u.0 v u.1 at in
      rw (group_is j u.0 u.1 (each_at _ f.variables j u.0 told u.1), group_is (suc j) v at (each_at _ f.variables (suc j) v told at), row_is variable_numbers f.variables j u.0 u.1, row_is variable_numbers f.variables (suc j) v at) (grind (arith, nat_tests, order))

  one_complete : (i : ℕ) (v : Variable) → slice_get f.variables i ≡ Some v → TellsFunctions f → VariableRules f → AllTrue (variable_tests (sections_of f) i)
  one_complete i v at told rules =
      let is = each_at (IsVariable f) f.variables i v rules.each at in
      let told_v = each_at _ f.variables i v told at in
      let row = row_is variable_numbers f.variables i v at in
      let storage = kept_complete i v.name_length v.position v.count v.function v.element v.storage row told_v is.kept is.counted in
      let named = names i v at is told_v in
      let last : (cell (map variable_numbers f.variables) i 7 == 0) ≡ true = rw row refl in
      let element : nat_le (cell (map variable_numbers f.variables) i 3) 6 ≡ true = rw row (element_small v.element) in
      (named.0, (named.1, (position_complete i v at rules told, (element, (storage.0, (storage.1, (storage.2, (last, tt))))))))
    where
      names : (i : ℕ) (v : Variable) → slice_get f.variables i ≡ Some v → IsVariable f v → v.function ≢ Some no_function → (is_name_length (sections_of f) i ≡ true) × (is_function (sections_of f) i ≡ true)
      names zero v at is told_v = named_complete 0 0 v at told_v is refl (omega arith)
      names (suc j) v at is told_v =
          let u = before_at f.variables j v at in
          let order = next_at _ f.variables rules.in_order j u.0 v u.1 at in
          let low : group u.0 ≤ group v = grind (arith, order) in
          named_complete (suc j) (group u.0) v at told_v is (group_is j u.0 u.1 (each_at _ f.variables j u.0 told u.1)) low

  pub variables_complete : length f.functions < no_function → VariableRules f → VariablesKept
  variables_complete few rules = at_each f.variables _ (λ i v at. one_complete i v at (all_of (told_kept few) f.variables rules.each) rules)
