-- What is read is an image, and the bytes are its spelling.
use Rattle.std.proofs.Common.{◌≡◌, ◌≢◌, ℕ, zero, suc, ◌+◌, ◌-◌, ◌*◌, ◌/◌, ◌%◌, ◌<◌, ◌≤◌, Bool, true, false, cond, ltb, leb, List, [], ◌∷◌, ◌++◌, length, get_or, take, drop, Option, Some, None, Result, Ok, Err, refl, sym, ap, ◌∙◌, append_assoc, arith, subst, length-drop, take-append-drop}
use Rattle.std.specs.Prelude.{codes, map, slice_get, sum_by, ◌==◌, ◌&&◌}
use Rattle.std.specs.List.{AllByRecursion, flat_map}
use Rattle.std.specs.Option.{option_map_or}
use Rattle.std.proofs.lemmas.Bool.{leb-true, ltb-false, eqb-true, and_parts}
use Rattle.std.proofs.lemmas.Grind.{flat_map-append}
use Rattle.std.proofs.lemmas.List.{length-map, length-take-le, drop-drop, take_all}
use Rattle.std.proofs.lemmas.Slice.Eq.{bytes_eq-Decides}
use Rattle.byteorder.specs.Endian.{little_bytes}
use Rattle.debug_records.specs.declared.code.Code.{Code as ErrorCode}
use Rattle.debug_records.specs.declared.code.TheConstants.Code.{HEADER_SIZE, NODES_AND_NAMES}
use Rattle.memory_map.specs.Maps.{most_words, bytes_size}
use Rattle.image_form_sections.specs.Breaches.{Fault, ◌>>=◌, Check, first_breach, first_broken, breach_in}
use Rattle.image_form_sections.specs.Checking.{size_told, long_checks, header_checks, breach_of_program, breach_of_tables, checked_of}
use Rattle.image_form_sections.specs.declared.section.Section.{Section}
use Rattle.image_form_sections.specs.declared.section.Section.TheVariants.{Code, Initial, Functions, Places, Owners, Variables, Changes, Flow, Assigned, Rows, Calls, Members, Nodes, Names}
use Rattle.image_form_sections.specs.declared.version.Level.{Level}
use Rattle.image_form_sections.specs.Order.{order, record_size, sections_end as behind, section_start as start}
use Rattle.image_form_sections.specs.Sections.{number_at, numbers_at, number_rows_at, Sections, version_told, section_records, count_told, bytes_from, rows_of, sections_at}
use Rattle.image_form_sections.specs.TestsOfChanges.{change_tests, flow_tests, assigned_tests, row_tests}
use Rattle.image_form_sections.specs.TestsOfCode.{function_tests, place_tests, owner_tests}
use Rattle.image_form_sections.specs.TestsOfNames.{name_tests, first_misfit}
use Rattle.image_form_sections.specs.TestsOfNodes.{node_tests}
use Rattle.image_form_sections.specs.TestsOfVariables.{variable_tests}
use Rattle.image_form_sections.specs.Versions.{is_read, level_of, version_number, has_callers, has_structures, header_size}
use Rattle.image_form_sections.proofs.Inside.{told_inside}
use Rattle.image_form_sections.proofs.Octets.{AreBytes, AreBytes-drop, AreBytes-take, number_fits}
use Rattle.image_form_sections.proofs.RowLaws.{length-rows_at}
use Rattle.image_form_sections.proofs.SectionLaws.{bytes_of, behind_one, numbers_inside}
use Rattle.image_form.specs.Decoding.{verdict_of, only_number, function_of_row, place_of, variable_of, change_of, flow_pair_of, assigned_of, visible_row_of, call_row_of, member_of, node_of, word_numbers, form_of_sections, sections_of}
use Rattle.image_form.specs.Form.{Form}
use Rattle.image_form.specs.Numbers.{mode_number, no_function, function_numbers, place_numbers, variable_numbers, change_numbers, flow_numbers, assigned_numbers, row_numbers, call_numbers, member_numbers, node_numbers}
use Rattle.image_form.specs.Reading.{read_of}
use Rattle.image_form.specs.Rules.{AllFit, RecordsFit, SizeRules, FitRules, IsImage}
use Rattle.image_form.specs.RulesOfCalls.{CallRules, MemberRules}
use Rattle.image_form.specs.Spelling.{size, record_count, short_header, long_header, header, section_bytes, body, spelled, spelling}
use Rattle.image_form.proofs.ChangesKept.{changes_sound, flow_sound, assigned_sound}
use Rattle.image_form.proofs.Counts.{less_functions}
use Rattle.image_form.proofs.FunctionsKept.{TellsSaved, functions_sound}
use Rattle.image_form.proofs.NamesKept.{names_sound}
use Rattle.image_form.proofs.NodesKept.{nodes_sound}
use Rattle.image_form.proofs.OneSpelling.{function_whole, row_whole}
use Rattle.image_form.proofs.Parts.{parts_gathered}
use Rattle.image_form.proofs.PlacesKept.{places_sound, owners_sound}
use Rattle.image_form.proofs.RowsKept.{TellsWriter, TellsWriters, TellsQuiet, rows_sound}
use Rattle.image_form.proofs.VariablesKept.{TellsFunctions, variables_sound}
use Rattle.image_form.proofs.VersionLaws.{number_told, read_no_calls}
use Rattle.image_form.proofs.Kept.{AllTrue, rows_kept, none_in}
use Rattle.image_form.proofs.ReadBack.{section-words}
use Rattle.image_form.proofs.SpelledRows.{all_bytes, numbers_spelled, spelled_rows, rows_spelled, rows_fit, section-rows, records_fit}
use Rattle.image_form.proofs.Told.{ShapedRows, row_shape, plain_told, mode_told, function_told, saved_none, quiet_none, variables_told, changes_told, visible_rows_told, nodes_told, owner_apart, writer_apart, quiet_apart}

bind_ok : {B : Type 0} (r : Result (Unit {0}) Fault) (k : Unit {0} → Result B Fault) (y : B) → (r >>= k) ≡ Ok y → (r ≡ Ok tt) × (k tt ≡ Ok y)
bind_ok (Ok x) k y e = (refl, e)
bind_ok (Err d) k y e = absurd cc

kept_of : (code : ErrorCode) (start size : ℕ) (tests : ℕ → List Bool) (n : ℕ) → breach_in code start size (first_broken tests n 0) ≡ Ok tt → (i : ℕ) → i < n → AllTrue (tests i)
kept_of code start size tests n e i lt =
    let same : 0 + i ≡ i = omega arith in
    subst (λ j. AllTrue (tests j)) same (rows_kept tests n 0 (none_in code start size (first_broken tests n 0) e) i lt)

no_misfit : (start : ℕ) (o : Option ℕ) → option_map_or {U = Result (Unit {0}) Fault} (λ k. Err (NODES_AND_NAMES, start + k)) o (Ok tt) ≡ Ok tt → o ≡ None
no_misfit start None e = refl
no_misfit start (Some k) e = absurd cc

-- Every row of these sections keeps its tests.
record ProgramKept (s : Sections) : Type 0 where
  functions : (i : ℕ) → i < length s.functions → AllTrue (function_tests s i)
  places : (i : ℕ) → i < length s.places → AllTrue (place_tests s i)
  owners : (i : ℕ) → i < length s.owners → AllTrue (owner_tests s i)
  variables : (i : ℕ) → i < length s.variables → AllTrue (variable_tests s i)
  changes : (i : ℕ) → i < length s.changes → AllTrue (change_tests s i)

program_parts : (s : Sections) → breach_of_program s ≡ Ok tt → ProgramKept s
unfolding breach_of_program
program_parts s e =
    let a = bind_ok _ _ tt e in
    let b = bind_ok _ _ tt a.1 in
    let c = bind_ok _ _ tt b.1 in
    let d = bind_ok _ _ tt c.1 in
    record {
      functions = kept_of _ _ _ (function_tests s) (length s.functions) a.0;
      places = kept_of _ _ _ (place_tests s) (length s.places) b.0;
      owners = kept_of _ _ _ (owner_tests s) (length s.owners) c.0;
      variables = kept_of _ _ _ (variable_tests s) (length s.variables) d.0;
      changes = kept_of _ _ _ (change_tests s) (length s.changes) d.1;
    }

record TablesKept (s : Sections) : Type 0 where
  flow : (i : ℕ) → i < length s.flow → AllTrue (flow_tests s i)
  assigned : (i : ℕ) → i < length s.assigned → AllTrue (assigned_tests s i)
  rows : (i : ℕ) → i < length s.rows → AllTrue (row_tests s i)
  nodes : (i : ℕ) → i < length s.nodes → AllTrue (node_tests s i)
  names : first_misfit (name_tests s) s.names ≡ None

tables_parts : (s : Sections) → breach_of_tables s ≡ Ok tt → TablesKept s
unfolding breach_of_tables
tables_parts s e =
    let a = bind_ok _ _ tt e in
    let b = bind_ok _ _ tt a.1 in
    let c = bind_ok _ _ tt b.1 in
    let d = bind_ok _ _ tt c.1 in
    record {
      flow = kept_of _ _ _ (flow_tests s) (length s.flow) a.0;
      assigned = kept_of _ _ _ (assigned_tests s) (length s.assigned) b.0;
      rows = kept_of _ _ _ (row_tests s) (length s.rows) c.0;
      nodes = kept_of _ _ _ (node_tests s) (length s.nodes) d.0;
      names = no_misfit (start (level_of s.version) (section_records s) Names) (first_misfit (name_tests s) s.names) d.1;
    }

kept_each : (checks : List Check) → first_breach checks ≡ Ok tt → AllByRecursion (λ c. c.kept ≡ true) checks
kept_each [] e = tt
kept_each (c ∷ checks) e = let p = kept_ok c.kept (c.code, c.at) (first_breach checks) e in (p.0, kept_each checks p.1)
  where
    kept_ok : (b : Bool) (d : Fault) (r : Result (Unit {0}) Fault) → cond b r (Err d) ≡ Ok tt → (b ≡ true) × (r ≡ Ok tt)
    kept_ok true d r e = (refl, e)
    kept_ok false d r e = absurd cc

words_fit_alone : (ns : List ℕ) → AllByRecursion AllFit (map word_numbers ns) → AllFit ns
words_fit_alone [] fit = tt
words_fit_alone (n ∷ ns) fit = (fit.0.0, words_fit_alone ns fit.1)

all_mapped : {A B : Type 0} (P : B → Type 0) (g : A → B) → ((x : A) → P (g x)) → (xs : List A) → AllByRecursion P (map g xs)
all_mapped P g each [] = tt
all_mapped P g each (x ∷ xs) = (each x, all_mapped P g each xs)

-- What holds of the record of each row that is there holds of each record.
all_rows : {B : Type 0} (P : B → Type 0) (g : List ℕ → B) (rows : List (List ℕ)) → ((i : ℕ) (row : List ℕ) → slice_get rows i ≡ Some row → P (g row)) → AllByRecursion P (map g rows)
all_rows P g [] each = tt
all_rows P g (row ∷ rows) each = (each 0 row refl, all_rows P g rows (λ i r at. each (suc i) r at))

verdict_apart : (n change first second : ℕ) → TellsWriter (verdict_of n change first second)
verdict_apart zero change first second = tt
verdict_apart (suc zero) change first second = tt
verdict_apart (suc (suc zero)) change first second = writer_apart second
verdict_apart (suc (suc (suc n))) change first second = writer_apart second

-- Bytes whose header and rows keep their tests.
record IsKept (bytes : List ℕ) : Type 0 where
  are : AreBytes bytes
  long : 64 ≤ length bytes
  header_kept : AllByRecursion (λ c. c.kept ≡ true) (header_checks bytes)
  program : ProgramKept (sections_at bytes)
  tables : TablesKept (sections_at bytes)

-- ---- the rows of a section, where they lie

-- The bytes of each section, row by row.
raw_bytes : Sections → Section → List ℕ
raw_bytes s Code = spelled_rows s.code
raw_bytes s Initial = s.initial
raw_bytes s Functions = spelled_rows s.functions
raw_bytes s Places = spelled_rows s.places
raw_bytes s Owners = spelled_rows s.owners
raw_bytes s Variables = spelled_rows s.variables
raw_bytes s Changes = spelled_rows s.changes
raw_bytes s Flow = spelled_rows s.flow
raw_bytes s Assigned = spelled_rows s.assigned
raw_bytes s Rows = spelled_rows s.rows
raw_bytes s Calls = spelled_rows s.calls
raw_bytes s Members = spelled_rows s.members
raw_bytes s Nodes = spelled_rows s.nodes
raw_bytes s Names = s.names

-- An image's sections are spelled as their rows.
section_raw : (f : Form) (s : Section) → section_bytes f s ≡ raw_bytes (sections_of f) s
unfolding raw_bytes
section_raw f Code = sym (section-words f.code) ∙ section-rows word_numbers f.code
section_raw f Initial = refl
section_raw f Functions = section-rows (function_numbers f.version.level) f.functions
section_raw f Places = section-rows place_numbers f.places
section_raw f Owners = sym (section-words f.owners) ∙ section-rows word_numbers f.owners
section_raw f Variables = section-rows variable_numbers f.variables
section_raw f Changes = section-rows change_numbers f.changes
section_raw f Flow = section-rows flow_numbers f.flow
section_raw f Assigned = section-rows assigned_numbers f.assigned
section_raw f Rows = section-rows (row_numbers f.version.level) f.rows
section_raw f Calls = section-rows call_numbers f.calls
section_raw f Members = section-rows member_numbers f.members
section_raw f Nodes = section-rows node_numbers f.nodes
section_raw f Names = refl

module _ (bytes : List ℕ) (kept : IsKept bytes) where
  abbrev level : Level
  level = (version_told bytes).level

  length_kept : (number_at bytes 8 == length bytes && size_told bytes == length bytes) ≡ true
  length_kept = kept.header_kept.1.1.1.0

  size_is : size_told bytes ≡ length bytes
  size_is = eqb-true _ _ (and_parts (number_at bytes 8 == length bytes) (size_told bytes == length bytes) length_kept).1

  total_is : number_at bytes 8 ≡ length bytes
  total_is = eqb-true _ _ (and_parts (number_at bytes 8 == length bytes) (size_told bytes == length bytes) length_kept).0

  mode_small : number_at bytes 12 ≤ 1
  mode_small = leb-true _ _ kept.header_kept.1.1.1.1.0

  zero_last : number_at bytes 60 ≡ 0
  zero_last = eqb-true (number_at bytes 60) 0 kept.header_kept.1.1.1.1.1.1.1.1.1.1.0

  long_kept : AllByRecursion (λ c. c.kept ≡ true) (cond (has_callers level) (long_checks bytes) [])
  long_kept = kept.header_kept.1.1.1.1.1.1.1.1.1.1.1

  -- The bytes from a section on are as many as those behind its begin.
  left : (s : Section) → length (bytes_from bytes s) ≡ length bytes - start level (count_told bytes) s
  left s = length-drop (start level (count_told bytes) s) bytes

  are_from : (s : Section) → AreBytes (bytes_from bytes s)
  are_from s = AreBytes-drop (start level (count_told bytes) s) bytes kept.are

  inside : (s : Section) → record_size level s * count_told bytes s ≤ length (bytes_from bytes s)
  inside s = omega (arith, told_inside bytes s size_is, left s)

  rows_lie : (s : Section) → 4 * (record_size level s / 4) ≡ record_size level s → spelled_rows (rows_of bytes s) ≡ take (record_size level s * count_told bytes s) (bytes_from bytes s)
  rows_lie s whole =
      let width = record_size level s / 4 in
      let count = count_told bytes s in
      let low = numbers_inside level s count in
      rows_spelled width count (bytes_from bytes s) (are_from s) (omega (arith, low, inside s)) ∙ ap (λ (n : ℕ). take (n * count) (bytes_from bytes s)) whole

  names_end : length (bytes_from bytes Names) ≤ count_told bytes Names
  unfolding size_told
  names_end =
      let last = behind_one level (count_told bytes) (take 13 order) Names in
      omega (arith, last, left Names, size_is)

  -- Each section lies where the header says.
  lies : (s : Section) → raw_bytes (sections_at bytes) s ≡ take (record_size level s * count_told bytes s) (bytes_from bytes s)
  unfolding raw_bytes sections_at
  lies Code = rows_lie Code refl
  lies Initial = ap (λ (n : ℕ). take n (bytes_from bytes Initial)) (omega arith)
  lies Functions = rows_lie Functions (function_whole level)
  lies Places = rows_lie Places refl
  lies Owners = rows_lie Owners refl
  lies Variables = rows_lie Variables refl
  lies Changes = rows_lie Changes refl
  lies Flow = rows_lie Flow refl
  lies Assigned = rows_lie Assigned refl
  lies Rows = rows_lie Rows (row_whole level)
  lies Calls = rows_lie Calls refl
  lies Members = rows_lie Members refl
  lies Nodes = rows_lie Nodes refl
  lies Names = sym (take_all (1 * count_told bytes Names) (bytes_from bytes Names) (omega (arith, names_end)))

  behind_is : drop (header_size level) bytes ≡ flat_map (raw_bytes (sections_at bytes)) order
  unfolding size_told
  behind_is =
      let all = sum_by (bytes_of level (count_told bytes)) order in
      let few : length (drop (header_size level) bytes) ≤ all = omega (arith, length-drop (header_size level) bytes, size_is) in
      sym (parts_gathered level (count_told bytes) bytes (raw_bytes (sections_at bytes)) lies ∙ take_all all (drop (header_size level) bytes) few)

  -- ---- what the rows say is told by the rows

  version_is : number_at bytes 4 ≡ version_number (version_told bytes)
  version_is = sym (number_told (number_at bytes 4) kept.header_kept.1.0)

  no_callers : has_callers level ≡ false
  no_callers = read_no_calls (number_at bytes 4) kept.header_kept.1.0

  calls_none : rows_of bytes Calls ≡ []
  calls_none = ap (λ (b : Bool). number_rows_at 7 (cond b (number_at bytes 64) 0) (bytes_from bytes Calls)) no_callers

  members_count : (b : Bool) → has_callers level ≡ b → AllByRecursion (λ c. c.kept ≡ true) (cond b (long_checks bytes) []) → count_told bytes Members ≡ 0
  unfolding has_structures
  members_count true has all = eqb-true (count_told bytes Members) 0 all.0
  members_count false lacks all = ap (λ (b : Bool). cond b (number_at bytes 68) 0) lacks

  members_none : rows_of bytes Members ≡ []
  members_none = ap (λ (n : ℕ). number_rows_at 5 n (bytes_from bytes Members)) (members_count (has_callers level) refl long_kept)

  shaped : (s : Section) → ShapedRows (record_size level s / 4) (rows_of bytes s)
  shaped s = row_shape (record_size level s / 4) (count_told bytes s) (bytes_from bytes s)

  plain : {A : Type 0} (s : Section) (numbers : A → List ℕ) (of_numbers : List ℕ → A) → ((b : List ℕ) → numbers (of_numbers (numbers_at (record_size level s / 4) 0 b)) ≡ numbers_at (record_size level s / 4) 0 b)
      → map numbers (map of_numbers (rows_of bytes s)) ≡ rows_of bytes s
  plain s numbers of_numbers told = plain_told (record_size level s / 4) (count_told bytes s) (bytes_from bytes s) numbers of_numbers told

  told : sections_of (form_of_sections (sections_at bytes)) ≡ sections_at bytes
  unfolding form_of_sections sections_at
  told =
      let s = sections_at bytes in
      let version = sym version_is in
      let mode = mode_told (number_at bytes 12) mode_small in
      let code = plain Code word_numbers only_number (λ b. refl) in
      let functions = plain Functions (function_numbers level) function_of_row (function_told level) in
      let places = plain Places place_numbers place_of (λ b. refl) in
      let owners = plain Owners word_numbers only_number (λ b. refl) in
      let variables = variables_told s (shaped Variables) kept.program.variables in
      let changes = changes_told s (shaped Changes) kept.program.changes in
      let flow = plain Flow flow_numbers flow_pair_of (λ b. refl) in
      let assigned = plain Assigned assigned_numbers assigned_of (λ b. refl) in
      let rows = visible_rows_told s level (shaped Rows) kept.tables.rows in
      let calls : map call_numbers (map call_row_of (rows_of bytes Calls)) ≡ rows_of bytes Calls = ap (λ (rs : List (List ℕ)). map call_numbers (map call_row_of rs)) calls_none ∙ sym calls_none in
      let members : map member_numbers (map member_of (rows_of bytes Members)) ≡ rows_of bytes Members = ap (λ (rs : List (List ℕ)). map member_numbers (map member_of rs)) members_none ∙ sym members_none in
      let nodes = nodes_told s (shaped Nodes) kept.tables.nodes in
      (λ i. record {
        version = version i;
        mode = mode i;
        code = code i;
        initial = s.initial;
        functions = functions i;
        places = places i;
        owners = owners i;
        variables = variables i;
        changes = changes i;
        flow = flow i;
        assigned = assigned i;
        rows = rows i;
        calls = calls i;
        members = members i;
        nodes = nodes i;
        names = s.names;
      })

  body_is : body (form_of_sections (sections_at bytes)) ≡ drop (header_size level) bytes
  body_is =
      let f = form_of_sections (sections_at bytes) in
      let raw : section_bytes f ≡ raw_bytes (sections_of f) = λ i s. section_raw f s i in
      ap (λ (part : Section → List ℕ). flat_map part order) raw ∙ ap (λ (s : Sections). flat_map (raw_bytes s) order) told ∙ sym behind_is

  -- ---- how many records there are

  of_rows : {A : Type 0} (of_numbers : List ℕ → A) (s : Section) → length (map of_numbers (rows_of bytes s)) ≡ count_told bytes s
  of_rows of_numbers s = length-map (rows_of bytes s) of_numbers ∙ length-rows_at (record_size level s / 4) (count_told bytes s) (bytes_from bytes s)

  count_is : (s : Section) → record_count (form_of_sections (sections_at bytes)) s ≡ count_told bytes s
  unfolding form_of_sections sections_at
  count_is Code = of_rows only_number Code
  count_is Initial = length-take-le (count_told bytes Initial) (bytes_from bytes Initial) (let low = inside Initial in omega (arith, low))
  count_is Functions = of_rows function_of_row Functions
  count_is Places = of_rows place_of Places
  count_is Owners = of_rows only_number Owners
  count_is Variables = of_rows variable_of Variables
  count_is Changes = of_rows change_of Changes
  count_is Flow = of_rows flow_pair_of Flow
  count_is Assigned = of_rows assigned_of Assigned
  count_is Rows = of_rows visible_row_of Rows
  count_is Calls = of_rows call_row_of Calls
  count_is Members = of_rows member_of Members
  count_is Nodes = of_rows node_of Nodes
  count_is Names = let low = inside Names in omega (arith, low, names_end)

  level_is : (form_of_sections (sections_at bytes)).version.level ≡ level
  unfolding form_of_sections sections_at
  level_is = refl

  map_is : (form_of_sections (sections_at bytes)).version.map ≡ (version_told bytes).map
  unfolding form_of_sections sections_at
  map_is = refl

  whole_size : size (form_of_sections (sections_at bytes)) ≡ length bytes
  unfolding size size_told
  whole_size =
      let counts : record_count (form_of_sections (sections_at bytes)) ≡ count_told bytes = λ i s. count_is s i in
      (λ i. behind (level_is i) (counts i) order) ∙ size_is

  mode_is : mode_number (form_of_sections (sections_at bytes)).mode ≡ number_at bytes 12
  unfolding form_of_sections sections_at
  mode_is = mode_told (number_at bytes 12) mode_small

  number_is : version_number (form_of_sections (sections_at bytes)).version ≡ number_at bytes 4
  unfolding form_of_sections sections_at
  number_is = sym version_is

  short_is : short_header (form_of_sections (sections_at bytes)) ≡ numbers_at 15 4 bytes
  short_is =
      let f = form_of_sections (sections_at bytes) in
      let size = whole_size ∙ sym total_is in
      let zero_is = sym zero_last in
      (λ i.
      number_is i ∷ size i ∷ mode_is i ∷ count_is Code i ∷ count_is Initial i ∷ count_is Functions i ∷ count_is Places i ∷ count_is Variables i ∷ count_is Changes i
      ∷ count_is Flow i ∷ count_is Assigned i ∷ count_is Rows i ∷ count_is Nodes i ∷ count_is Names i ∷ zero_is i ∷ [])

  -- The numbers that only some headers have.
  long_is : (b : Bool) → has_callers level ≡ b → AllByRecursion (λ c. c.kept ≡ true) (cond b (long_checks bytes) [])
      → long_header (form_of_sections (sections_at bytes)) ≡ numbers_at (cond b 4 0) 64 bytes
  long_is true has all =
      let f = form_of_sections (sections_at bytes) in
      let calls : length f.calls ≡ number_at bytes 64 = count_is Calls ∙ ap (λ (b : Bool). cond b (number_at bytes 64) 0) has in
      let members : length f.members ≡ number_at bytes 68 = count_is Members ∙ ap (λ (b : Bool). cond b (number_at bytes 68) 0) has in
      let first = sym (eqb-true (number_at bytes 72) 0 all.1.0) in
      let second = sym (eqb-true (number_at bytes 76) 0 all.1.1.0) in
      let told_so : has_callers f.version.level ≡ true = ap has_callers level_is ∙ has in
      ap (λ (b : Bool). cond b (length f.calls ∷ length f.members ∷ 0 ∷ 0 ∷ []) []) told_so ∙ (λ i. calls i ∷ members i ∷ first i ∷ second i ∷ [])
  long_is false lacks all =
      let f = form_of_sections (sections_at bytes) in
      let told_so : has_callers f.version.level ≡ false = ap has_callers level_is ∙ lacks in
      ap (λ (b : Bool). cond b (length f.calls ∷ length f.members ∷ 0 ∷ 0 ∷ []) []) told_so

  magic_is : codes "CDBG" ≡ take 4 bytes
  magic_is = (bytes_eq-Decides (codes "CDBG") (take 4 bytes)).0 kept.header_kept.0

  header_long : (b : Bool) → has_callers level ≡ b → (header_size level ≡ 64 + 4 * cond b 4 0) × (64 + 4 * cond b 4 0 ≤ length bytes)
  header_long b is =
      let whole : header_size level ≡ cond b 80 64 = ap (λ (c : Bool). cond c 80 64) is in
      let there = leb-true (header_size level) (length bytes) kept.header_kept.1.1.0 in
      let same = sum_of b in
      (omega (arith, whole, same), omega (arith, whole, same, there))
    where
      sum_of : (b : Bool) → cond b 80 64 ≡ 64 + 4 * cond b 4 0
      sum_of true = refl
      sum_of false = refl

  spelled_so : bytes ≡ spelling (form_of_sections (sections_at bytes))
  unfolding spelling
  spelled_so =
      let f = form_of_sections (sections_at bytes) in
      let more : ℕ = cond (has_callers level) 4 0 in
      let long = header_long (has_callers level) refl in
      let short : spelled (short_header f) ≡ take 60 (drop 4 bytes) = ap spelled short_is ∙ numbers_spelled 15 4 bytes kept.are (omega (arith, kept.long)) in
      let rest : spelled (long_header f) ≡ take (4 * more) (drop 64 bytes) = ap spelled (long_is (has_callers level) refl long_kept) ∙ numbers_spelled more 64 bytes kept.are (omega (arith, long.1)) in
      let head : spelled (header f) ≡ take 60 (drop 4 bytes) ++ take (4 * more) (drop 64 bytes) = flat_map-append (little_bytes 4) (short_header f) (long_header f) ∙ (λ i. short i ++ rest i) in
      let behind : drop (header_size level) bytes ≡ drop (4 * more) (drop 64 bytes) = ap (λ (n : ℕ). drop n bytes) long.0 ∙ sym (drop-drop (4 * more) 64 bytes) in
      let parts : codes "CDBG" ++ (spelled (header f) ++ body f) ≡ take 4 bytes ++ ((take 60 (drop 4 bytes) ++ take (4 * more) (drop 64 bytes)) ++ drop (4 * more) (drop 64 bytes)) =
      (λ i. magic_is i ++ (head i ++ (body_is ∙ behind) i)) in
      let regrouped = append_assoc (take 60 (drop 4 bytes)) (take (4 * more) (drop 64 bytes)) (drop (4 * more) (drop 64 bytes)) in
      let second : take (4 * more) (drop 64 bytes) ++ drop (4 * more) (drop 64 bytes) ≡ drop 60 (drop 4 bytes) = take-append-drop (4 * more) (drop 64 bytes) ∙ sym (drop-drop 60 4 bytes) in
      let third = regrouped ∙ ap (λ (r : List ℕ). take 60 (drop 4 bytes) ++ r) second ∙ take-append-drop 60 (drop 4 bytes) in
      let joined : take 4 bytes ++ ((take 60 (drop 4 bytes) ++ take (4 * more) (drop 64 bytes)) ++ drop (4 * more) (drop 64 bytes)) ≡ bytes =
      ap (λ (r : List ℕ). take 4 bytes ++ r) third ∙ take-append-drop 4 bytes in
      sym (parts ∙ joined)

  -- ---- the image

  sizes : SizeRules (form_of_sections (sections_at bytes))
  sizes =
      let h = kept.header_kept.1.1.1.1 in
      let initial = and_parts (leb (count_told bytes Initial) bytes_size) (count_told bytes Initial % 4 == 0) h.1.1.0 in
      let most : most_words (form_of_sections (sections_at bytes)).version.map ≡ most_words (version_told bytes).map = ap most_words map_is in
      record {
        version = ap is_read number_is ∙ kept.header_kept.1.0;
        code = omega (arith, count_is Code, most, leb-true (count_told bytes Code) (most_words (version_told bytes).map) h.1.0);
        initial = omega (arith, count_is Initial, leb-true (count_told bytes Initial) bytes_size initial.0);
        initial_words = ap (λ (n : ℕ). n % 4) (count_is Initial) ∙ eqb-true (count_told bytes Initial % 4) 0 initial.1;
        some_function = omega (arith, count_is Functions, leb-true 1 (count_told bytes Functions) h.1.1.1.0);
        some_place = omega (arith, count_is Places, leb-true 1 (count_told bytes Places) h.1.1.1.1.0);
        rows = omega (arith, count_is Rows, leb-true (count_told bytes Rows) 1000000 h.1.1.1.1.1.0);
        whole = omega (arith, whole_size, total_is, number_fits bytes 8 kept.are);
      }

  -- The numbers of records fit where the numbers of their rows do.
  fit_from : {A : Type 0} (s : Section) (numbers : A → List ℕ) (xs : List A) → map numbers xs ≡ rows_of bytes s → RecordsFit numbers xs
  fit_from s numbers xs same =
      records_fit numbers xs (subst (AllByRecursion AllFit) (sym same) (rows_fit (record_size level s / 4) (count_told bytes s) (bytes_from bytes s) (are_from s)))

  initial_bytes : AreBytes (form_of_sections (sections_at bytes)).initial
  unfolding form_of_sections sections_at
  initial_bytes = AreBytes-take (count_told bytes Initial) (bytes_from bytes Initial) (are_from Initial)

  fits : FitRules (form_of_sections (sections_at bytes))
  unfolding sections_at
  fits =
      let f = form_of_sections (sections_at bytes) in
      record {
        code = words_fit_alone f.code (fit_words Code f.code (ap (λ (s : Sections). s.code) told));
        initial = all_bytes f.initial initial_bytes;
        functions = fit_from Functions (function_numbers f.version.level) f.functions (ap (λ (s : Sections). s.functions) told);
        places = fit_from Places place_numbers f.places (ap (λ (s : Sections). s.places) told);
        owners = words_fit_alone f.owners (fit_words Owners f.owners (ap (λ (s : Sections). s.owners) told));
        variables = fit_from Variables variable_numbers f.variables (ap (λ (s : Sections). s.variables) told);
        changes = fit_from Changes change_numbers f.changes (ap (λ (s : Sections). s.changes) told);
        flow = fit_from Flow flow_numbers f.flow (ap (λ (s : Sections). s.flow) told);
        assigned = fit_from Assigned assigned_numbers f.assigned (ap (λ (s : Sections). s.assigned) told);
        rows = fit_from Rows (row_numbers f.version.level) f.rows (ap (λ (s : Sections). s.rows) told);
        calls = fit_from Calls call_numbers f.calls (ap (λ (s : Sections). s.calls) told);
        members = fit_from Members member_numbers f.members (ap (λ (s : Sections). s.members) told);
        nodes = fit_from Nodes node_numbers f.nodes (ap (λ (s : Sections). s.nodes) told);
      }
    where
      fit_words : (s : Section) (ns : List ℕ) → map word_numbers ns ≡ rows_of bytes s → AllByRecursion AllFit (map word_numbers ns)
      fit_words s ns same = subst (AllByRecursion AllFit) (sym same) (rows_fit (record_size level s / 4) (count_told bytes s) (bytes_from bytes s) (are_from s))

  few : length (form_of_sections (sections_at bytes)).functions < no_function
  few = less_functions (form_of_sections (sections_at bytes)) sizes.whole

  tells_functions : TellsFunctions (form_of_sections (sections_at bytes))
  unfolding form_of_sections
  tells_functions = all_mapped (λ v. v.function ≢ Some no_function) variable_of (λ row. owner_apart (get_or row 1 0)) (sections_at bytes).variables

  tells_saved : TellsSaved (form_of_sections (sections_at bytes))
  unfolding form_of_sections sections_at
  tells_saved none = all_rows (λ g. g.saved ≡ 0) function_of_row (rows_of bytes Functions) (λ i row at. let b = shaped Functions i row at in rw b.1 (saved_none level b.0 none))

  tells_writers : TellsWriters (form_of_sections (sections_at bytes))
  unfolding form_of_sections
  tells_writers = all_mapped (λ r. TellsWriter r.verdict) visible_row_of (λ row. verdict_apart (get_or row 2 0) (get_or row 3 0) (get_or row 4 0) (get_or row 5 0)) (sections_at bytes).rows

  tells_quiet : TellsQuiet (form_of_sections (sections_at bytes))
  unfolding form_of_sections sections_at
  tells_quiet = (
    all_mapped (λ r. r.quiet ≢ Some 0) visible_row_of (λ row. quiet_apart (get_or row 6 0)) (rows_of bytes Rows),
    λ none. all_rows (λ r. r.quiet ≡ None) visible_row_of (rows_of bytes Rows) (λ i row at. let b = shaped Rows i row at in rw b.1 (quiet_none level b.0 none)),
  )

  calls_rule : CallRules (form_of_sections (sections_at bytes))
  unfolding form_of_sections sections_at
  calls_rule = record { none = λ _. ap (map call_row_of) calls_none }

  members_rule : MemberRules (form_of_sections (sections_at bytes))
  unfolding form_of_sections sections_at
  members_rule = record { none = λ _. ap (map member_of) members_none; structures = λ _. ap (map member_of) members_none }

  image_is : IsImage (form_of_sections (sections_at bytes))
  image_is =
      let f = form_of_sections (sections_at bytes) in
      let program : ProgramKept (sections_of f) = subst ProgramKept (sym told) kept.program in
      let tables : TablesKept (sections_of f) = subst TablesKept (sym told) kept.tables in
      let functions = functions_sound f tells_saved (λ i lt. program.functions i (omega (arith, lt, length-map f.functions (function_numbers f.version.level)))) in
      let places = places_sound f (λ i lt. program.places i (omega (arith, lt, length-map f.places place_numbers))) in
      record {
        sizes = sizes;
        fits = fits;
        functions = functions;
        places = places;
        owners = owners_sound f functions places (count_is Owners ∙ sym (count_is Code)) (λ i lt. program.owners i (omega (arith, lt, length-map f.owners word_numbers)));
        variables = variables_sound f tells_functions (λ i lt. program.variables i (omega (arith, lt, length-map f.variables variable_numbers)));
        changes = changes_sound f (λ i lt. program.changes i (omega (arith, lt, length-map f.changes change_numbers)));
        flow = flow_sound f (λ i lt. tables.flow i (omega (arith, lt, length-map f.flow flow_numbers)));
        assigned = assigned_sound f (λ i lt. tables.assigned i (omega (arith, lt, length-map f.assigned assigned_numbers)));
        rows = rows_sound f few places tells_writers tells_quiet (λ i lt. tables.rows i (omega (arith, lt, length-map f.rows (row_numbers f.version.level))));
        calls = calls_rule;
        members = members_rule;
        nodes = nodes_sound f (λ i lt. tables.nodes i (omega (arith, lt, length-map f.nodes node_numbers)));
        names = names_sound f functions tables.names;
      }

-- ---- what reading answers

ok_of : {A : Type 0} (b : Bool) (d : Fault) (r : Result A Fault) (y : A) → cond b (Err d) r ≡ Ok y → (b ≡ false) × (r ≡ Ok y)
ok_of true d r y e = absurd cc
ok_of false d r y e = (refl, e)

same_ok : {A : Type 0} (x y : A) → ◌≡◌ {A = Result A Fault} (Ok x) (Ok y) → x ≡ y
same_ok x y e = cc

-- What is read are the sections that were checked.
pub read_from : (r : Result Sections Fault) (f : Form) → (r >>= λ s. Ok (form_of_sections s)) ≡ Ok f → (s : Sections) × (r ≡ Ok s) × (form_of_sections s ≡ f)
read_from (Ok s) f e = (s, refl, same_ok (form_of_sections s) f e)
read_from (Err d) f e = absurd cc

pub read_sound : (bytes : List ℕ) (f : Form) → AreBytes bytes → read_of bytes ≡ Ok f → IsImage f × (bytes ≡ spelling f)
unfolding read_of checked_of
read_sound bytes f are e =
    let read = read_from (checked_of bytes) f e in
    let long = ok_of (ltb (length bytes) 64) (HEADER_SIZE, length bytes) _ read.0 read.1 in
    let checks = bind_ok (first_breach (header_checks bytes)) _ read.0 long.1 in
    let program = bind_ok (breach_of_program (sections_at bytes)) _ read.0 checks.1 in
    let tables = bind_ok (breach_of_tables (sections_at bytes)) _ read.0 program.1 in
    let kept : IsKept bytes = record {
      are = are;
      long = ltb-false (length bytes) 64 long.0;
      header_kept = kept_each (header_checks bytes) checks.0;
      program = program_parts (sections_at bytes) program.0;
      tables = tables_parts (sections_at bytes) tables.0;
    } in
    subst (λ (g : Form). IsImage g × (bytes ≡ spelling g)) (ap form_of_sections (same_ok (sections_at bytes) read.0 tables.1) ∙ read.2) (image_is bytes kept, spelled_so bytes kept)
