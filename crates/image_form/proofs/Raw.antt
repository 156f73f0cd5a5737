-- The numbers of the records that a view lends.
use Rattle.std.proofs.Common.{◌≡◌, ℕ, zero, suc, ◌<◌, Some, List, [], ◌∷◌, length, get_or, refl, ap, ◌∙◌, arith}
use Rattle.std.specs.Prelude.{map, slice_get}
use Rattle.image_form_sections.specs.declared.layout.Layout.{Layout}
use Rattle.image_form.specs.Decoding.{sections_of}
use Rattle.image_form.specs.Form.{Form}
use Rattle.image_form_sections.specs.Layouts.{rows_in, sections_in}
use Rattle.image_form.specs.Numbers.{function_numbers, last_if, place_numbers, variable_numbers, change_numbers, flow_numbers, assigned_numbers, row_numbers, call_numbers, member_numbers, node_numbers}
use Rattle.image_form.specs.declared.tables.Function.{Function}
use Rattle.image_form.specs.declared.verdicts.VisibleRow.{VisibleRow}
use Rattle.image_form_sections.specs.declared.version.Level.{Level}
use Rattle.image_form_sections.specs.declared.version.Level.TheVariants.{Plain, Quiet, Callers}
use Rattle.image_form_sections.specs.Versions.{has_quiet, has_callers}
use Rattle.image_form_sections.specs.Sections.{cell, Sections}
use Rattle.image_form.proofs.OneSpelling.{row_sized, call_sized, node_sized}

-- The first numbers that g gives.
abbrev firsts : ℕ → (ℕ → ℕ) → List ℕ
firsts zero g = []
firsts (suc n) g = g 0 ∷ firsts n (λ k. g (suc k))

numbers_each : (n : ℕ) (ns : List ℕ) → length ns ≡ n → ns ≡ firsts n (λ k. get_or ns k 0)
numbers_each zero [] e = refl
numbers_each zero (m ∷ ns) e = absurd (omega (arith, e))
numbers_each (suc n) [] e = absurd (omega (arith, e))
numbers_each (suc n) (m ∷ ns) e = ap (λ (ms : List ℕ). m ∷ ms) (numbers_each n ns (omega (arith, e)))

-- The numbers of a record stand in its row.
record_got : {A : Type 0} (numbers : A → List ℕ) (width : ℕ) → ((x : A) → length (numbers x) ≡ width) → (xs : List A) (n : ℕ) → n < length xs
    → slice_get (map numbers xs) n ≡ Some (firsts width (λ k. cell (map numbers xs) n k))
record_got numbers width sized [] n low = absurd (omega (arith, low))
record_got numbers width sized (x ∷ xs) zero low = ap Some (numbers_each width (numbers x) (sized x))
record_got numbers width sized (x ∷ xs) (suc n) low = record_got numbers width sized xs n (omega (arith, low))

row_told : {A : Type 0} (numbers : A → List ℕ) (width : ℕ) → ((x : A) → length (numbers x) ≡ width) → (xs : List A) (rows : List (List ℕ)) → map numbers xs ≡ rows
    → (n : ℕ) → n < length xs → slice_get (map numbers xs) n ≡ Some (firsts width (λ k. cell rows n k))
row_told numbers width sized xs rows told n low = record_got numbers width sized xs n low ∙ ap (λ (r : List (List ℕ)). Some (firsts width (λ k. cell r n k))) told

-- The numbers of a function, by the level of its version.
function_cells : (level : Level) (gs : List Function) (rows : List (List ℕ)) → map (function_numbers level) gs ≡ rows → (n : ℕ) → n < length gs
    → slice_get (map (function_numbers level) gs) n ≡ Some (cell rows n 0 ∷ cell rows n 1 ∷ cell rows n 2 ∷ cell rows n 3 ∷ cell rows n 4 ∷ last_if (has_callers level) (cell rows n 5))
function_cells Plain gs rows told n low = row_told (function_numbers Plain) 5 (λ x. refl) gs rows told n low
function_cells Quiet gs rows told n low = row_told (function_numbers Quiet) 5 (λ x. refl) gs rows told n low
function_cells Callers gs rows told n low = row_told (function_numbers Callers) 6 (λ x. refl) gs rows told n low

-- The numbers of a visible row.
visible_cells : (level : Level) (rs : List VisibleRow) (rows : List (List ℕ)) → map (row_numbers level) rs ≡ rows → (n : ℕ) → n < length rs
    → slice_get (map (row_numbers level) rs) n ≡ Some (cell rows n 0 ∷ cell rows n 1 ∷ cell rows n 2 ∷ cell rows n 3 ∷ cell rows n 4 ∷ cell rows n 5 ∷ last_if (has_quiet level) (cell rows n 6))
visible_cells Plain rs rows told n low = row_told (row_numbers Plain) 6 (row_sized Plain) rs rows told n low
visible_cells Quiet rs rows told n low = row_told (row_numbers Quiet) 7 (row_sized Quiet) rs rows told n low
visible_cells Callers rs rows told n low = row_told (row_numbers Callers) 7 (row_sized Callers) rs rows told n low

module _ (f : Form) (l : Layout) (told : sections_of f ≡ sections_in l) (n : ℕ) where
  pub function_raw : n < length f.functions → slice_get (map (function_numbers f.version.level) f.functions) n ≡ Some (let rows = rows_in l.functions in cell rows n 0 ∷ cell rows n 1 ∷ cell rows n 2 ∷ cell rows n 3 ∷ cell rows n 4 ∷ last_if (has_callers f.version.level) (cell rows n 5))
  function_raw = function_cells f.version.level f.functions (rows_in l.functions) (ap (λ (s : Sections). s.functions) told) n

  pub place_raw : n < length f.places → slice_get (map place_numbers f.places) n ≡ Some (firsts 4 (λ k. cell (rows_in l.places) n k))
  place_raw = row_told place_numbers 4 (λ x. refl) f.places (rows_in l.places) (ap (λ (s : Sections). s.places) told) n

  pub variable_raw : n < length f.variables → slice_get (map variable_numbers f.variables) n ≡ Some (firsts 8 (λ k. cell (rows_in l.variables) n k))
  variable_raw = row_told variable_numbers 8 (λ x. refl) f.variables (rows_in l.variables) (ap (λ (s : Sections). s.variables) told) n

  pub change_raw : n < length f.changes → slice_get (map change_numbers f.changes) n ≡ Some (firsts 5 (λ k. cell (rows_in l.changes) n k))
  change_raw = row_told change_numbers 5 (λ x. refl) f.changes (rows_in l.changes) (ap (λ (s : Sections). s.changes) told) n

  pub flow_raw : n < length f.flow → slice_get (map flow_numbers f.flow) n ≡ Some (firsts 2 (λ k. cell (rows_in l.flow) n k))
  flow_raw = row_told flow_numbers 2 (λ x. refl) f.flow (rows_in l.flow) (ap (λ (s : Sections). s.flow) told) n

  pub assigned_raw : n < length f.assigned → slice_get (map assigned_numbers f.assigned) n ≡ Some (firsts 2 (λ k. cell (rows_in l.assigned) n k))
  assigned_raw = row_told assigned_numbers 2 (λ x. refl) f.assigned (rows_in l.assigned) (ap (λ (s : Sections). s.assigned) told) n

  pub row_raw : n < length f.rows → slice_get (map (row_numbers f.version.level) f.rows) n ≡ Some (let rows = rows_in l.rows in cell rows n 0 ∷ cell rows n 1 ∷ cell rows n 2 ∷ cell rows n 3 ∷ cell rows n 4 ∷ cell rows n 5 ∷ last_if (has_quiet f.version.level) (cell rows n 6))
  row_raw = visible_cells f.version.level f.rows (rows_in l.rows) (ap (λ (s : Sections). s.rows) told) n

  pub call_raw : n < length f.calls → slice_get (map call_numbers f.calls) n ≡ Some (firsts 7 (λ k. cell (rows_in l.calls) n k))
  call_raw = row_told call_numbers 7 call_sized f.calls (rows_in l.calls) (ap (λ (s : Sections). s.calls) told) n

  pub member_raw : n < length f.members → slice_get (map member_numbers f.members) n ≡ Some (firsts 5 (λ k. cell (rows_in l.members) n k))
  member_raw = row_told member_numbers 5 (λ x. refl) f.members (rows_in l.members) (ap (λ (s : Sections). s.members) told) n

  pub node_raw : n < length f.nodes → slice_get (map node_numbers f.nodes) n ≡ Some (firsts 3 (λ k. cell (rows_in l.nodes) n k))
  node_raw = row_told node_numbers 3 node_sized f.nodes (rows_in l.nodes) (ap (λ (s : Sections). s.nodes) told) n
