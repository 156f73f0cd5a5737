-- Rows that keep their tests are what their records' numbers say.
use Rattle.std.proofs.Common.{◌≡◌, ◌≢◌, ℕ, zero, suc, ◌+◌, ◌-◌, ◌*◌, ◌/◌, ◌<◌, ◌≤◌, Bool, true, false, List, [], ◌∷◌, length, get_or, drop, Some, None, refl, sym, ◌∙◌, arith, subst, inl, inr}
use Rattle.std.specs.Prelude.{map, slice_get, unwrap_or, ◌==◌, ◌&&◌, ◌||◌, nat_le, nat_lt, if◌then◌else◌}
use Rattle.std.proofs.lemmas.Bool.{eq-eqb, true≢false, eqb-true, leb-true, and_parts, cases_Bool}
use Rattle.std.proofs.lemmas.Bool.Decides.{nat_tests}
use Rattle.std.proofs.lemmas.Option.{slice_get_within, get_or_from_slice_get, same_Some}
use Rattle.image_form.specs.Decoding.{mode_of, owning_function, element_type_of, storage_of, variable_of, kind_of, change_of, writer_of, quiet_of, function_of_row, visible_row_of, operation_of, truncation_of, node_of}
use Rattle.image_form.specs.Numbers.{mode_number, no_function, element_number, storage_number, storage_value, variable_numbers, kind_number, change_numbers, function_numbers, row_numbers, operation_number, truncation_number, node_numbers}
use Rattle.image_form_sections.specs.Sections.{number_at, numbers_at, number_rows_at, cell, Sections}
use Rattle.image_form_sections.specs.TestsOfChanges.{change_tests, row_tests, is_change, is_kind, is_node_or_start, is_writer}
use Rattle.image_form_sections.specs.TestsOfNodes.{node_tests, is_right, is_operand, is_new_node}
use Rattle.image_form_sections.specs.TestsOfTables.{within}
use Rattle.image_form_sections.specs.TestsOfVariables.{variable_tests, is_storage}
use Rattle.image_form_sections.specs.declared.section.Section.TheVariants.{Functions, Rows}
use Rattle.image_form_sections.specs.declared.version.Level.{Level}
use Rattle.image_form_sections.specs.declared.version.Level.TheVariants.{Plain, Quiet, Callers}
use Rattle.image_form_sections.specs.Order.{record_size}
use Rattle.image_form_sections.specs.Versions.{has_quiet, has_callers, level_of}
use Rattle.image_form.proofs.Kept.{AllTrue}

-- A row is some numbers of the bytes.
pub row_shape : (width n : ℕ) (bytes : List ℕ) (i : ℕ) (row : List ℕ) → slice_get (number_rows_at width n bytes) i ≡ Some row → (b : List ℕ) × (row ≡ numbers_at width 0 b)
row_shape width zero bytes i row at = absurd cc
row_shape width (suc n) bytes zero row at = (bytes, sym (same_Some (numbers_at width 0 bytes) row at))
row_shape width (suc n) bytes (suc i) row at = row_shape width n (drop (4 * width) bytes) i row at

-- Rows of which each is told are the numbers of their records.
pub rows_told : {A : Type 0} (numbers : A → List ℕ) (of_numbers : List ℕ → A) (rows : List (List ℕ)) → ((i : ℕ) (row : List ℕ) → slice_get rows i ≡ Some row → numbers (of_numbers row) ≡ row) → map numbers (map of_numbers rows) ≡ rows
rows_told numbers of_numbers [] told = refl
rows_told numbers of_numbers (row ∷ rows) told = let head = told 0 row refl in let tail = rows_told numbers of_numbers rows (λ i r at. told (suc i) r at) in (λ i. head i ∷ tail i)

-- Rows of which all are told.
pub plain_told : {A : Type 0} (width n : ℕ) (bytes : List ℕ) (numbers : A → List ℕ) (of_numbers : List ℕ → A) → ((b : List ℕ) → numbers (of_numbers (numbers_at width 0 b)) ≡ numbers_at width 0 b) → map numbers (map of_numbers (number_rows_at width n bytes)) ≡ number_rows_at width n bytes
plain_told width n bytes numbers of_numbers told = rows_told numbers of_numbers (number_rows_at width n bytes) (λ i row at.
    let shape = row_shape width n bytes i row at in
    rw shape.1 (told shape.0))

pub mode_told : (n : ℕ) → n ≤ 1 → mode_number (mode_of n) ≡ n
mode_told zero le = refl
mode_told (suc zero) le = refl
mode_told (suc (suc n)) le = absurd (omega (arith, le))

owner_told : (n : ℕ) → unwrap_or (owning_function n) no_function ≡ n
owner_told n = elim (cases_Bool (n == no_function)) [
  | inl same ↦ rw same (sym (eqb-true n no_function same))
  | inr apart ↦ rw apart refl
]

-- A function's number is not the one that stands for none.
pub owner_apart : (n : ℕ) → owning_function n ≢ Some no_function
owner_apart n e = elim (cases_Bool (n == no_function)) [
  | inl same ↦ let none = rw same at e in cc
  | inr apart ↦ let some = same_Some n no_function (rw apart at e) in let yes = eq-eqb n no_function some in true≢false (sym yes ∙ apart)
]

pub writer_told : (n : ℕ) → unwrap_or (writer_of n) 0 ≡ n
writer_told n = elim (cases_Bool (n == 0)) [
  | inl same ↦ rw same (sym (eqb-true n 0 same))
  | inr apart ↦ rw apart refl
]

pub writer_apart : (n : ℕ) → writer_of n ≢ Some 0
writer_apart n e = elim (cases_Bool (n == 0)) [
  | inl same ↦ let none = rw same at e in cc
  | inr apart ↦ let some = same_Some n 0 (rw apart at e) in let yes = eq-eqb n 0 some in true≢false (sym yes ∙ apart)
]

quiet_told : (n : ℕ) → unwrap_or (quiet_of n) 0 ≡ n
quiet_told n = writer_told n

pub quiet_apart : (n : ℕ) → quiet_of n ≢ Some 0
quiet_apart n = writer_apart n

-- A function of a version of each level.
pub function_told : (level : Level) (b : List ℕ) → function_numbers level (function_of_row (numbers_at (record_size level Functions / 4) 0 b)) ≡ numbers_at (record_size level Functions / 4) 0 b
function_told Plain b = refl
function_told Quiet b = refl
function_told Callers b = refl

-- Where the registers that are saved are not told, they are 0.
pub saved_none : (level : Level) (b : List ℕ) → has_callers level ≡ false → (function_of_row (numbers_at (record_size level Functions / 4) 0 b)).saved ≡ 0
saved_none Plain b none = refl
saved_none Quiet b none = refl
saved_none Callers b none = absurd cc

-- Where quiet paths are not told, there are none.
pub quiet_none : (level : Level) (b : List ℕ) → has_quiet level ≡ false → (visible_row_of (numbers_at (record_size level Rows / 4) 0 b)).quiet ≡ None
quiet_none Plain b none = refl
quiet_none Quiet b none = absurd cc
quiet_none Callers b none = absurd cc

element_told : (n : ℕ) → n ≤ 6 → element_number (element_type_of n) ≡ n
element_told zero le = refl
element_told (suc zero) le = refl
element_told (suc (suc zero)) le = refl
element_told (suc (suc (suc zero))) le = refl
element_told (suc (suc (suc (suc zero)))) le = refl
element_told (suc (suc (suc (suc (suc zero))))) le = refl
element_told (suc (suc (suc (suc (suc (suc zero)))))) le = refl
element_told (suc (suc (suc (suc (suc (suc (suc n))))))) le = absurd (omega (arith, le))

storage_told : (n value : ℕ) → n ≤ 3 → (storage_number (storage_of n value) ≡ n) × (storage_value (storage_of n value) ≡ value)
storage_told zero value le = (refl, refl)
storage_told (suc zero) value le = (refl, refl)
storage_told (suc (suc zero)) value le = (refl, refl)
storage_told (suc (suc (suc zero))) value le = (refl, refl)
storage_told (suc (suc (suc (suc n)))) value le = absurd (omega (arith, le))

kind_told : (n : ℕ) → n ≤ 4 → kind_number (kind_of n) ≡ n
kind_told zero le = refl
kind_told (suc zero) le = refl
kind_told (suc (suc zero)) le = refl
kind_told (suc (suc (suc zero))) le = refl
kind_told (suc (suc (suc (suc zero)))) le = refl
kind_told (suc (suc (suc (suc (suc n))))) le = absurd (omega (arith, le))

-- The numbers of kinds are 0 to 4.
kind_few : (s : Sections) (n : ℕ) → is_kind s n ≡ true → n ≤ 4
unfolding is_kind
kind_few s n is = by (nat_le n 3) refl is
  where
    by : (low : Bool) → nat_le n 3 ≡ low → (low || n == 4 && has_quiet (level_of s.version)) ≡ true → n ≤ 4
    by true low is = let small = leb-true n 3 low in omega (arith, small)
    by false low is = let four = eqb-true n 4 (and_parts (n == 4) (has_quiet (level_of s.version)) is).0 in omega (arith, four)

operation_told : (n : ℕ) → n ≤ 14 → operation_number (operation_of (n + 3)) ≡ n + 3
operation_told zero le = refl
operation_told (suc zero) le = refl
operation_told (suc (suc zero)) le = refl
operation_told (suc (suc (suc zero))) le = refl
operation_told (suc (suc (suc (suc zero)))) le = refl
operation_told (suc (suc (suc (suc (suc zero))))) le = refl
operation_told (suc (suc (suc (suc (suc (suc zero)))))) le = refl
operation_told (suc (suc (suc (suc (suc (suc (suc zero))))))) le = refl
operation_told (suc (suc (suc (suc (suc (suc (suc (suc zero)))))))) le = refl
operation_told (suc (suc (suc (suc (suc (suc (suc (suc (suc zero))))))))) le = refl
operation_told (suc (suc (suc (suc (suc (suc (suc (suc (suc (suc zero)))))))))) le = refl
operation_told (suc (suc (suc (suc (suc (suc (suc (suc (suc (suc (suc zero))))))))))) le = refl
operation_told (suc (suc (suc (suc (suc (suc (suc (suc (suc (suc (suc (suc zero)))))))))))) le = refl
operation_told (suc (suc (suc (suc (suc (suc (suc (suc (suc (suc (suc (suc (suc zero))))))))))))) le = refl
operation_told (suc (suc (suc (suc (suc (suc (suc (suc (suc (suc (suc (suc (suc (suc zero)))))))))))))) le = refl
operation_told (suc (suc (suc (suc (suc (suc (suc (suc (suc (suc (suc (suc (suc (suc (suc n))))))))))))))) le = absurd (omega (arith, le))

truncation_told : (n : ℕ) → n ≤ 3 → truncation_number (truncation_of (n + 18)) ≡ n + 18
truncation_told zero le = refl
truncation_told (suc zero) le = refl
truncation_told (suc (suc zero)) le = refl
truncation_told (suc (suc (suc zero))) le = refl
truncation_told (suc (suc (suc (suc n)))) le = absurd (omega (arith, le))

-- ---- the rows of each section whose numbers have rules of their own

-- The rows of a section, as they are read.
abbrev pub ShapedRows : ℕ → List (List ℕ) → Type 0
ShapedRows width rows = (i : ℕ) (row : List ℕ) → slice_get rows i ≡ Some row → (b : List ℕ) × (row ≡ numbers_at width 0 b)

module _ (s : Sections) where
  variable_told : (i : ℕ) (b : List ℕ) → get_or s.variables i [] ≡ numbers_at 8 0 b → AllTrue (variable_tests s i) → variable_numbers (variable_of (numbers_at 8 0 b)) ≡ numbers_at 8 0 b
  unfolding is_storage
  variable_told i b row kept =
      let k = rw row at kept in
      let element = leb-true (number_at b 12) 6 k.1.1.1.0 in
      let storage : number_at b 16 ≤ 3 = small (number_at b 4 == no_function) k.1.1.1.1.0 in
      let zero_is = eqb-true (number_at b 28) 0 k.1.1.1.1.1.1.1.0 in
      let its = storage_told (number_at b 16) (number_at b 20) storage in
      rw (owner_told (number_at b 4), element_told (number_at b 12) element, its.0, its.1, zero_is) refl
    where
      small : (static : Bool) → (if static then number_at b 16 == 0 else within 1 3 (number_at b 16)) ≡ true → number_at b 16 ≤ 3
      small true k = grind (arith, nat_tests, k)
      small false k = grind (arith, nat_tests, k)

  pub variables_told : ShapedRows 8 s.variables → ((i : ℕ) → i < length s.variables → AllTrue (variable_tests s i)) → map variable_numbers (map variable_of s.variables) ≡ s.variables
  variables_told shape kept = rows_told variable_numbers variable_of s.variables (λ i row at.
      let b = shape i row at in
      rw b.1 (variable_told i b.0 (get_or_from_slice_get s.variables i row [] at ∙ b.1) (kept i (slice_get_within s.variables i row at))))

  change_told : (i : ℕ) (b : List ℕ) → get_or s.changes i [] ≡ numbers_at 5 0 b → AllTrue (change_tests s i) → change_numbers (change_of (numbers_at 5 0 b)) ≡ numbers_at 5 0 b
  change_told i b row kept =
      let k = rw row at kept in
      let kind = kind_few s (number_at b 4) k.1.0 in
      let zero_is = eqb-true (number_at b 16) 0 k.1.1.1.1.0 in
      rw (kind_told (number_at b 4) kind, zero_is) refl

  pub changes_told : ShapedRows 5 s.changes → ((i : ℕ) → i < length s.changes → AllTrue (change_tests s i)) → map change_numbers (map change_of s.changes) ≡ s.changes
  changes_told shape kept = rows_told change_numbers change_of s.changes (λ i row at.
      let b = shape i row at in
      rw b.1 (change_told i b.0 (get_or_from_slice_get s.changes i row [] at ∙ b.1) (kept i (slice_get_within s.changes i row at))))

  -- A row of a version of this level.
  abbrev RowTold : Level → List ℕ → Type 0
  RowTold level b = row_numbers level (visible_row_of (numbers_at (record_size level Rows / 4) 0 b)) ≡ numbers_at (record_size level Rows / 4) 0 b

  long_told : (i : ℕ) (b : List ℕ) → get_or s.rows i [] ≡ numbers_at 7 0 b → AllTrue (row_tests s i) → RowTold Quiet b
  unfolding is_change is_node_or_start is_writer
  long_told i b row kept =
      let k = rw row at kept in
      go (number_at b 8) refl (leb-true (number_at b 8) 3 k.1.1.0)
    where
      go : (n : ℕ) → number_at b 8 ≡ n → n ≤ 3 → RowTold Quiet b
      go zero is le =
          let k = rw (row, is) at kept in
          let e3 = eqb-true (number_at b 12) 0 k.1.1.1.0 in
          let e4 = eqb-true (number_at b 16) 0 k.1.1.1.1.0 in
          let e5 = eqb-true (number_at b 20) 0 k.1.1.1.1.1.0 in
          rw (is, e3, e4, e5, quiet_told (number_at b 24)) refl
      go (suc zero) is le =
          let k = rw (row, is) at kept in
          let e5 = eqb-true (number_at b 20) 0 k.1.1.1.1.1.0 in
          rw (is, e5, quiet_told (number_at b 24)) refl
      go (suc (suc zero)) is le = rw (is, writer_told (number_at b 20), quiet_told (number_at b 24)) refl
      go (suc (suc (suc zero))) is le = rw (is, writer_told (number_at b 20), quiet_told (number_at b 24)) refl
      go (suc (suc (suc (suc n)))) is le = absurd (omega (arith, le))

  short_told : (i : ℕ) (b : List ℕ) → get_or s.rows i [] ≡ numbers_at 6 0 b → AllTrue (row_tests s i) → RowTold Plain b
  unfolding is_change is_node_or_start is_writer
  short_told i b row kept =
      let k = rw row at kept in
      go (number_at b 8) refl (leb-true (number_at b 8) 3 k.1.1.0)
    where
      go : (n : ℕ) → number_at b 8 ≡ n → n ≤ 3 → RowTold Plain b
      go zero is le =
          let k = rw (row, is) at kept in
          let e3 = eqb-true (number_at b 12) 0 k.1.1.1.0 in
          let e4 = eqb-true (number_at b 16) 0 k.1.1.1.1.0 in
          let e5 = eqb-true (number_at b 20) 0 k.1.1.1.1.1.0 in
          rw (is, e3, e4, e5) refl
      go (suc zero) is le =
          let k = rw (row, is) at kept in
          let e5 = eqb-true (number_at b 20) 0 k.1.1.1.1.1.0 in
          rw (is, e5) refl
      go (suc (suc zero)) is le = rw (is, writer_told (number_at b 20)) refl
      go (suc (suc (suc zero))) is le = rw (is, writer_told (number_at b 20)) refl
      go (suc (suc (suc (suc n)))) is le = absurd (omega (arith, le))

  visible_told : (level : Level) (i : ℕ) (b : List ℕ) → get_or s.rows i [] ≡ numbers_at (record_size level Rows / 4) 0 b → AllTrue (row_tests s i) → RowTold level b
  visible_told Plain i b row kept = short_told i b row kept
  visible_told Quiet i b row kept = long_told i b row kept
  visible_told Callers i b row kept = long_told i b row kept

  pub visible_rows_told : (level : Level) → ShapedRows (record_size level Rows / 4) s.rows → ((i : ℕ) → i < length s.rows → AllTrue (row_tests s i)) → map (row_numbers level) (map visible_row_of s.rows) ≡ s.rows
  visible_rows_told level shape kept = rows_told (row_numbers level) visible_row_of s.rows (λ i row at.
      let b = shape i row at in
      rw b.1 (visible_told level i b.0 (get_or_from_slice_get s.rows i row [] at ∙ b.1) (kept i (slice_get_within s.rows i row at))))

  node_told : (i : ℕ) (b : List ℕ) → get_or s.nodes i [] ≡ numbers_at 3 0 b → AllTrue (node_tests s i) → node_numbers (node_of (numbers_at 3 0 b)) ≡ numbers_at 3 0 b
  unfolding is_right
  node_told i b row kept =
      let k = rw row at kept in
      go (number_at b 0) refl (leb-true (number_at b 0) 21 k.0)
    where
      right : (if within 3 17 (cell s.nodes i 0) then is_operand s i (cell s.nodes i 2) else cell s.nodes i 2 == 0) ≡ true
      right = (and_parts (if within 3 17 (cell s.nodes i 0) then is_operand s i (cell s.nodes i 2) else cell s.nodes i 2 == 0) (is_new_node s i) kept.1.1.0).0

      go : (n : ℕ) → number_at b 0 ≡ n → n ≤ 21 → node_numbers (node_of (numbers_at 3 0 b)) ≡ numbers_at 3 0 b
      go zero is le = let e2 = eqb-true (number_at b 8) 0 (rw (row, is) at right) in rw (is, e2) refl
      go (suc zero) is le = let e2 = eqb-true (number_at b 8) 0 (rw (row, is) at right) in rw (is, e2) refl
      go (suc (suc zero)) is le = let e2 = eqb-true (number_at b 8) 0 (rw (row, is) at right) in rw (is, e2) refl
      go (suc (suc (suc m))) is le = elim (cases_Bool (nat_lt (suc (suc (suc m))) 18)) [
        | inl operation ↦
            let sums : m + 3 ≡ suc (suc (suc m)) = omega arith in
            let few : m ≤ 14 = grind (arith, nat_tests, operation) in
            let its : operation_number (operation_of (suc (suc (suc m)))) ≡ suc (suc (suc m)) = subst (λ k. operation_number (operation_of k) ≡ k) sums (operation_told m few) in
            rw (is, operation, its) refl
        | inr truncation ↦
            let many : 15 ≤ m = grind (arith, nat_tests, truncation) in
            let sums : (m - 15) + 18 ≡ suc (suc (suc m)) = omega (arith, many) in
            let its : truncation_number (truncation_of (suc (suc (suc m)))) ≡ suc (suc (suc m)) = subst (λ k. truncation_number (truncation_of k) ≡ k) sums (truncation_told (m - 15) (omega (arith, le, many))) in
            let unary : within 3 17 (suc (suc (suc m))) ≡ false = grind (arith, nat_tests, many) in
            let e2 = eqb-true (number_at b 8) 0 (rw (row, is, unary) at right) in
            rw (is, truncation, its, e2) refl
      ]

  pub nodes_told : ShapedRows 3 s.nodes → ((i : ℕ) → i < length s.nodes → AllTrue (node_tests s i)) → map node_numbers (map node_of s.nodes) ≡ s.nodes
  nodes_told shape kept = rows_told node_numbers node_of s.nodes (λ i row at.
      let b = shape i row at in
      rw b.1 (node_told i b.0 (get_or_from_slice_get s.nodes i row [] at ∙ b.1) (kept i (slice_get_within s.nodes i row at))))
