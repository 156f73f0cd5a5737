-- The spelling of an image is read.
use Rattle.std.proofs.Common.{◌≡◌, ℕ, ◌+◌, ◌%◌, ◌<◌, ◌≤◌, Bool, true, false, cond, ltb, List, [], ◌∷◌, length, get_or, take, None, Ok, refl, sym, ap, ◌∙◌, arith, subst}
use Rattle.std.specs.Prelude.{codes, map}
use Rattle.std.specs.List.{AllByRecursion}
use Rattle.std.specs.Str.{bytes_eq}
use Rattle.std.proofs.lemmas.Bool.{le-leb, le-ltb, eq-eqb, and_from}
use Rattle.std.proofs.lemmas.List.{length-map}
use Rattle.image_form_sections.specs.Breaches.{Check, first_breach, first_broken}
use Rattle.image_form.specs.Decoding.{form_of_sections, word_numbers, sections_of}
use Rattle.image_form.specs.Form.{Form}
use Rattle.image_form.specs.Numbers.{function_numbers, place_numbers, variable_numbers, change_numbers, flow_numbers, assigned_numbers, row_numbers, node_numbers}
use Rattle.image_form.specs.Reading.{read_of}
use Rattle.image_form_sections.specs.Checking.{size_told, long_checks, header_checks, breach_of_program, breach_of_tables, checked_of}
use Rattle.image_form.specs.Rules.{IsImage}
use Rattle.image_form_sections.specs.Sections.{number_at, version_told, count_told, sections_at}
use Rattle.image_form.specs.Spelling.{size, header, long_header, spelling}
use Rattle.image_form_sections.specs.TestsOfChanges.{change_tests, flow_tests, assigned_tests, row_tests}
use Rattle.image_form_sections.specs.TestsOfCode.{function_tests, place_tests, owner_tests}
use Rattle.image_form_sections.specs.TestsOfNodes.{node_tests}
use Rattle.image_form_sections.specs.TestsOfVariables.{variable_tests}
use Rattle.memory_map.specs.Maps.{most_words}
use Rattle.image_form_sections.specs.declared.section.Section.TheVariants.{Code, Initial, Functions, Places, Rows, Members, Names}
use Rattle.image_form_sections.specs.declared.version.Version.{Version}
use Rattle.image_form_sections.specs.Order.{order, sections_end}
use Rattle.image_form_sections.specs.Versions.{is_read, has_callers, has_structures, header_size}
use Rattle.image_form.proofs.Counts.{records_inside}
use Rattle.image_form.proofs.ChangesKept.{changes_complete, flow_complete, assigned_complete}
use Rattle.image_form.proofs.FunctionsKept.{functions_complete}
use Rattle.image_form.proofs.Kept.{AllTrue, none_broken}
use Rattle.image_form.proofs.NamesKept.{names_complete}
use Rattle.image_form.proofs.NodesKept.{nodes_complete}
use Rattle.image_form.proofs.OneSpelling.{is_told, header_sized, header_number, short_number, version_is, count_is, counts_are, length-spelling, sections_back, decoded_back, few_functions, mode_fits}
use Rattle.image_form.proofs.PlacesKept.{places_complete, owners_complete}
use Rattle.image_form.proofs.RowsKept.{rows_complete}
use Rattle.image_form.proofs.VariablesKept.{variables_complete}

-- No row of a section is broken where each keeps its tests.
none_of_section : {A : Type 0} (tests : ℕ → List Bool) (numbers : A → List ℕ) (xs : List A) → ((i : ℕ) → i < length xs → AllTrue (tests i)) → first_broken tests (length (map numbers xs)) 0 ≡ None
none_of_section tests numbers xs kept =
    none_broken tests (length (map numbers xs)) 0 (λ i lt. let same : i ≡ 0 + i = omega arith in subst (λ j. AllTrue (tests j)) same (kept i (omega (arith, lt, length-map xs numbers))))

-- Where each rule is kept there is no breach.
all_kept : (checks : List Check) → AllByRecursion (λ c. c.kept ≡ true) checks → first_breach checks ≡ Ok tt
all_kept [] kept = refl
all_kept (c ∷ checks) kept = rw kept.0 (all_kept checks kept.1)

module _ (f : Form) (image : IsImage f) where
  program_kept : breach_of_program (sections_of f) ≡ Ok tt
  unfolding breach_of_program
  program_kept =
      let s = sections_of f in
      rw (
        none_of_section (function_tests s) (function_numbers f.version.level) f.functions (functions_complete f image.functions),
        none_of_section (place_tests s) place_numbers f.places (places_complete f image.places),
        none_of_section (owner_tests s) word_numbers f.owners (owners_complete f image.owners),
        none_of_section (variable_tests s) variable_numbers f.variables (variables_complete f (few_functions f image) image.variables),
        none_of_section (change_tests s) change_numbers f.changes (changes_complete f image.changes),
      ) refl

  tables_kept : breach_of_tables (sections_of f) ≡ Ok tt
  unfolding breach_of_tables
  tables_kept =
      let s = sections_of f in
      rw (
        none_of_section (flow_tests s) flow_numbers f.flow (flow_complete f image.flow),
        none_of_section (assigned_tests s) assigned_numbers f.assigned (assigned_complete f image.assigned),
        none_of_section (row_tests s) (row_numbers f.version.level) f.rows (rows_complete f image.assigned image.rows),
        none_of_section (node_tests s) node_numbers f.nodes (nodes_complete f image.nodes),
        names_complete f image.names,
      ) refl

  magic_kept : bytes_eq (codes "CDBG") (take 4 (spelling f)) ≡ true
  unfolding spelling
  magic_kept = refl

  pub told_size : size_told (spelling f) ≡ length (spelling f)
  unfolding size_told size
  told_size = (λ i. sections_end (version_is f (is_told f image) i).level (counts_are f (is_told f image) i) order) ∙ sym (length-spelling f)

  -- The numbers that only some headers have keep their rules.
  long_kept : (b : Bool) → has_callers f.version.level ≡ b → AllByRecursion (λ c. c.kept ≡ true) (cond b (long_checks (spelling f)) [])
  unfolding has_structures
  long_kept false lacks = tt
  long_kept true has =
      let size : header_size f.version.level ≡ 80 = ap (λ (b : Bool). cond b 80 64) has in
      let there : 19 ≤ length (header f) = omega (arith, size, header_sized f) in
      let zero_at : (i : ℕ) → i < 4 → get_or (long_header f) i 0 ≡ get_or (length f.calls ∷ length f.members ∷ 0 ∷ 0 ∷ []) i 0 = λ i low. ap (λ (b : Bool). get_or (cond b (length f.calls ∷ length f.members ∷ 0 ∷ 0 ∷ []) []) i 0) has in
      let members : count_told (spelling f) Members ≡ 0 = count_is f (is_told f image) Members ∙ ap length (image.members.structures refl) in (
        eq-eqb _ _ members,
        (
          eq-eqb _ _ (header_number f (is_told f image) 17 (omega (arith, there)) ∙ zero_at 2 (omega arith)),
          (eq-eqb _ _ (header_number f (is_told f image) 18 (omega (arith, there)) ∙ zero_at 3 (omega arith)), tt),
        ),
      )

  header_inside : header_size f.version.level ≤ length (spelling f)
  unfolding size
  header_inside = omega (arith, length-spelling f)

  checks_kept : first_breach (header_checks (spelling f)) ≡ Ok tt
  checks_kept =
      let at = short_number f (is_told f image) in
      let count = count_is f (is_told f image) in
      let sizes = image.sizes in
      let version : is_read (number_at (spelling f) 4) ≡ true = ap is_read (at 0 (omega arith)) ∙ sizes.version in
      let total : number_at (spelling f) 8 ≡ length (spelling f) = at 1 (omega arith) ∙ sym (length-spelling f) in
      let level = ap (λ (v : Version). v.level) (version_is f (is_told f image)) in
      let own : header_size (version_told (spelling f)).level ≡ header_size f.version.level = ap header_size level in
      let long = header_inside in
      let mode = mode_fits f.mode in
      let most : most_words (version_told (spelling f)).map ≡ most_words f.version.map = ap (λ (v : Version). most_words v.map) (version_is f (is_told f image)) in
      let words : count_told (spelling f) Initial % 4 ≡ 0 = ap (λ (n : ℕ). n % 4) (count Initial) ∙ sizes.initial_words in
      let last = ap has_callers level in
      all_kept (header_checks (spelling f)) (
        magic_kept,
        (
          version,
          (
            le-leb _ _ (omega (arith, own, long)),
            (
              and_from _ _ (eq-eqb _ _ total) (eq-eqb _ _ told_size),
              (
                le-leb _ _ (omega (arith, at 2 (omega arith), mode)),
                (
                  le-leb _ _ (omega (arith, count Code, sizes.code, most)),
                  (
                    and_from _ _ (le-leb _ _ (omega (arith, count Initial, sizes.initial))) (eq-eqb _ _ words),
                    (
                      le-leb _ _ (omega (arith, count Functions, sizes.some_function)),
                      (
                        le-leb _ _ (omega (arith, count Places, sizes.some_place)),
                        (le-leb _ _ (omega (arith, count Rows, sizes.rows)), (eq-eqb _ _ (at 14 (omega arith)), long_kept (has_callers (version_told (spelling f)).level) (sym last))),
                      ),
                    ),
                  ),
                ),
              ),
            ),
          ),
        ),
      )

  pub image_read : read_of (spelling f) ≡ Ok f
  unfolding read_of checked_of
  image_read =
      let long : ltb (length (spelling f)) 64 ≡ false = le-ltb _ _ (omega (arith, length-spelling f, records_inside f Names)) in
      let back = sections_back f image in
      let program : breach_of_program (sections_at (spelling f)) ≡ Ok tt = ap breach_of_program back ∙ program_kept in
      let tables : breach_of_tables (sections_at (spelling f)) ≡ Ok tt = ap breach_of_tables back ∙ tables_kept in
      let same : form_of_sections (sections_at (spelling f)) ≡ f = ap form_of_sections back ∙ decoded_back f image in
      rw (long, checks_kept, program, tables, same) refl
