-- What an image's bytes decode to is the image.
use Rattle.std.proofs.Common.{◌≡◌, ℕ, suc, ◌+◌, ◌*◌, ◌/◌, ◌^◌, ◌<◌, ◌≤◌, Bool, true, false, cond, List, [], ◌∷◌, ◌++◌, length, get_or, take, drop, refl, sym, ap, ◌∙◌, append_assoc, arith, inl, inr}
use Rattle.std.specs.Prelude.{codes, map, unwrap_or}
use Rattle.std.specs.List.{AllByRecursion, flat_map}
use Rattle.std.proofs.lemmas.Bool.{cases_Bool}
use Rattle.std.proofs.lemmas.List.{append-nil, take_at, drop_at, length-append}
use Rattle.debug_records.specs.declared.mode.Mode.{Mode}
use Rattle.debug_records.specs.declared.mode.Mode.TheVariants.{Slots, Registers}
use Rattle.image_form.specs.declared.recipes.Node.{Node}
use Rattle.image_form.specs.declared.recipes.Node.TheVariants.{Constant, Variable, Home, Truncated, Operated}
use Rattle.image_form.specs.declared.tables.Function.{Function}
use Rattle.image_form.specs.declared.verdicts.CallRow.{CallRow}
use Rattle.image_form.specs.declared.verdicts.Verdict.{Verdict}
use Rattle.image_form.specs.declared.verdicts.Verdict.TheVariants as verdict
use Rattle.image_form.specs.declared.verdicts.VisibleRow.{VisibleRow}
use Rattle.image_form_sections.specs.declared.section.Section.{Section}
use Rattle.image_form_sections.specs.declared.section.Section.TheVariants.{Code, Initial, Functions, Places, Owners, Variables, Changes, Flow, Assigned, Rows, Calls, Members, Nodes, Names}
use Rattle.image_form_sections.specs.declared.version.Level.{Level}
use Rattle.image_form_sections.specs.declared.version.Level.TheVariants.{Plain, Quiet, Callers}
use Rattle.image_form_sections.specs.declared.version.Version.{Version}
use Rattle.image_form_sections.specs.Order.{order, section_number, record_size, count_offset, section_start as start}
use Rattle.image_form_sections.specs.Sections.{number_at, numbers_at, number_rows_at, version_told, count_told, bytes_from, rows_of, sections_at}
use Rattle.image_form_sections.specs.Versions.{version_number, version_of, has_callers, header_size}
use Rattle.image_form.specs.Decoding.{only_number, function_of_row, place_of, variable_of, change_of, flow_pair_of, assigned_of, visible_row_of, call_row_of, member_of, node_of, form_of_sections, word_numbers, sections_of}
use Rattle.image_form.specs.Form.{Form}
use Rattle.image_form.specs.Numbers.{mode_number, no_function, function_numbers, place_numbers, variable_numbers, change_numbers, flow_numbers, assigned_numbers, verdict_then, row_numbers, call_numbers, member_numbers, node_numbers}
use Rattle.image_form.specs.Rules.{AllFit, RecordsFit, FitRules, IsImage}
use Rattle.image_form.specs.Spelling.{record_count, size, header, long_header, body, section, section_bytes, spelled, spelling}
use Rattle.image_form.specs.Unique.{SpellsOneImage}
use Rattle.image_form_sections.proofs.RowLaws.{number_of as number_there}
use Rattle.image_form.proofs.Counts.{few_records, less_functions}
use Rattle.image_form.proofs.Parts.{length-parts, after_parts}
use Rattle.image_form.proofs.ReadBack.{numbers_back, length-spelled, length-section, rows_back, section-words, words_fit}
use Rattle.image_form.proofs.RecordsBack.{all_of, all_always, mode_back, function_back, variable_back, change_back, row_back, member_back, node_back}
use Rattle.image_form.proofs.TableLaws.{each_at, each_from}
use Rattle.image_form.proofs.VersionLaws.{version_back, version_small, read_no_calls}

pub mode_fits : (m : Mode) → mode_number m < 2
mode_fits Slots = omega arith
mode_fits Registers = omega arith

verdict_sized : (v : Verdict) (more : List ℕ) → length (verdict_then v more) ≡ 4 + length more
verdict_sized verdict.Home more = omega arith
verdict_sized (verdict.Recovered change node) more = omega arith
verdict_sized (verdict.Noncurrent change start writer) more = omega arith
verdict_sized (verdict.Nonresident change start writer) more = omega arith

pub row_sized : (level : Level) (r : VisibleRow) → length (row_numbers level r) ≡ record_size level Rows / 4
row_sized Plain r = ap (λ (n : ℕ). suc (suc n)) (verdict_sized r.verdict [])
row_sized Quiet r = ap (λ (n : ℕ). suc (suc n)) (verdict_sized r.verdict (unwrap_or r.quiet 0 ∷ []))
row_sized Callers r = ap (λ (n : ℕ). suc (suc n)) (verdict_sized r.verdict (unwrap_or r.quiet 0 ∷ []))

pub row_whole : (level : Level) → 4 * (record_size level Rows / 4) ≡ record_size level Rows
row_whole Plain = refl
row_whole Quiet = refl
row_whole Callers = refl

pub function_sized : (level : Level) (g : Function) → length (function_numbers level g) ≡ record_size level Functions / 4
function_sized Plain g = refl
function_sized Quiet g = refl
function_sized Callers g = refl

pub function_whole : (level : Level) → 4 * (record_size level Functions / 4) ≡ record_size level Functions
function_whole Plain = refl
function_whole Quiet = refl
function_whole Callers = refl

pub call_sized : (r : CallRow) → length (call_numbers r) ≡ 7
call_sized r = ap (λ (n : ℕ). suc (suc n)) (verdict_sized r.verdict (r.path_form ∷ []))

pub node_sized : (n : Node) → length (node_numbers n) ≡ 3
node_sized (Constant value) = refl
node_sized (Variable variable) = refl
node_sized (Home home) = refl
node_sized (Truncated truncation operand) = refl
node_sized (Operated operation left right) = refl

map_back : {A : Type 0} (numbers : A → List ℕ) (of_numbers : List ℕ → A) (xs : List A) → AllByRecursion (λ x. of_numbers (numbers x) ≡ x) xs → map of_numbers (map numbers xs) ≡ xs
map_back numbers of_numbers [] back = refl
map_back numbers of_numbers (x ∷ xs) back = let head = back.0 in let tail = map_back numbers of_numbers xs back.1 in (λ i. head i ∷ tail i)

-- How many bytes the records of a section have.
section_sized : {A : Type 0} (numbers : A → List ℕ) (width size : ℕ) → ((x : A) → length (numbers x) ≡ width) → 4 * width ≡ size → (xs : List A) → length (section numbers xs) ≡ size * length xs
section_sized numbers width size sized whole xs = length-section width numbers sized xs ∙ ap (λ (n : ℕ). n * length xs) whole

functions_back : (level : Level) (gs : List Function) → (has_callers level ≡ false → AllByRecursion (λ g. g.saved ≡ 0) gs) → map function_of_row (map (function_numbers level) gs) ≡ gs
functions_back Plain gs none = map_back (function_numbers Plain) function_of_row gs (all_of (λ g e. function_back Plain g (λ _. e)) gs (none refl))
functions_back Quiet gs none = map_back (function_numbers Quiet) function_of_row gs (all_of (λ g e. function_back Quiet g (λ _. e)) gs (none refl))
functions_back Callers gs none = map_back (function_numbers Callers) function_of_row gs (all_always (λ g. refl) gs)

-- The numbers of the header that only some versions have.
long_fits : (b : Bool) (calls members : ℕ) → calls < 2 ^ 32 → members < 2 ^ 32 → AllFit (cond b (calls ∷ members ∷ 0 ∷ 0 ∷ []) [])
long_fits true calls members few fewer = (few, (fewer, (omega arith, (omega arith, tt))))
long_fits false calls members few fewer = tt

long_sized : (b : Bool) (calls members : ℕ) → 64 + 4 * length (cond b (calls ∷ members ∷ 0 ∷ 0 ∷ []) []) ≡ cond b 80 64
long_sized true calls members = refl
long_sized false calls members = refl

module _ (f : Form) where
  -- How long the header is.
  pub header_sized : 4 + 4 * length (header f) ≡ header_size f.version.level
  header_sized =
      let long = long_header f in
      let sums : 4 + 4 * length (header f) ≡ 64 + 4 * length long = omega arith in
      sums ∙ long_sized (has_callers f.version.level) (length f.calls) (length f.members)

  -- Each section has as many bytes as its records.
  pub part_sized : (s : Section) → length (section_bytes f s) ≡ record_size f.version.level s * record_count f s
  part_sized Code = length-spelled f.code
  part_sized Initial = omega arith
  part_sized Functions = section_sized (function_numbers f.version.level) _ _ (function_sized f.version.level) (function_whole f.version.level) f.functions
  part_sized Places = section_sized place_numbers 4 16 (λ x. refl) refl f.places
  part_sized Owners = length-spelled f.owners
  part_sized Variables = section_sized variable_numbers 8 32 (λ x. refl) refl f.variables
  part_sized Changes = section_sized change_numbers 5 20 (λ x. refl) refl f.changes
  part_sized Flow = section_sized flow_numbers 2 8 (λ x. refl) refl f.flow
  part_sized Assigned = section_sized assigned_numbers 2 8 (λ x. refl) refl f.assigned
  part_sized Rows = section_sized (row_numbers f.version.level) _ _ (row_sized f.version.level) (row_whole f.version.level) f.rows
  part_sized Calls = section_sized call_numbers 7 28 call_sized refl f.calls
  part_sized Members = section_sized member_numbers 5 20 (λ x. refl) refl f.members
  part_sized Nodes = section_sized node_numbers 3 12 node_sized refl f.nodes
  part_sized Names = omega arith

  -- The first four bytes and the header.
  pub front : List ℕ
  front = codes "CDBG" ++ spelled (header f)

  pub length-front : length front ≡ header_size f.version.level
  unfolding front
  length-front =
      let magic : length (codes "CDBG") ≡ 4 = refl in
      omega (arith, magic, length-append (codes "CDBG") (spelled (header f)), length-spelled (header f), header_sized)

  pub spelling_is : spelling f ≡ front ++ body f
  unfolding spelling front
  spelling_is = sym (append_assoc (codes "CDBG") (spelled (header f)) (body f))

  -- How many bytes a spelling has.
  pub length-spelling : length (spelling f) ≡ size f
  unfolding size
  length-spelling =
      let level = f.version.level in
      let parts = length-parts level (record_count f) (section_bytes f) part_sized order in
      ap length spelling_is ∙ length-append front (body f) ∙ omega (arith, length-front, parts)

-- What tables must keep so that their spelling tells them.
pub record IsTold (f : Form) : Type 0 where
  pub whole : size f < 2 ^ 32
  pub fits : FitRules f
  pub one_each : length f.owners ≡ length f.code
  pub no_calls : has_callers f.version.level ≡ false → f.calls ≡ []
  pub no_members : has_callers f.version.level ≡ false → f.members ≡ []

module _ (f : Form) (told : IsTold f) where
  few : (s : Section) → record_count f s < 2 ^ 32
  few s = few_records f told.whole s

  header_fits : AllFit (header f)
  header_fits =
      let whole = told.whole in
      let mode = mode_fits f.mode in
      let version = version_small f.version in
      let long = long_fits (has_callers f.version.level) (length f.calls) (length f.members) (few Calls) (few Members) in
      (omega (arith, version), (whole, (omega (arith, mode), (few Code, (few Initial, (few Functions, (few Places, (few Variables, (few Changes, (few Flow, (few Assigned, (few Rows, (few Nodes, (few Names, (omega arith, long)))))))))))))))

  pub header_back : numbers_at (length (header f)) 4 (spelling f) ≡ header f
  unfolding spelling
  header_back = numbers_back (header f) (body f) (codes "CDBG") 4 refl header_fits

  -- A number of the header, where it stands.
  pub header_number : (i : ℕ) → i < length (header f) → number_at (spelling f) (4 + 4 * i) ≡ get_or (header f) i 0
  header_number i low = sym (number_there (length (header f)) 4 i (spelling f) low) ∙ ap (λ (l : List ℕ). get_or l i 0) header_back

  -- Those that each version has.
  pub short_number : (i : ℕ) → i < 15 → number_at (spelling f) (4 + 4 * i) ≡ get_or (header f) i 0
  short_number i low = header_number i (omega (arith, low))

  pub version_is : version_told (spelling f) ≡ f.version
  version_is = ap version_of (short_number 0 (omega arith)) ∙ version_back f.version

  -- The counts of sections of which only some headers tell.
  long_number : (s : Section) (i : ℕ) → count_offset s ≡ 4 + 4 * i → 15 ≤ i → i < 17 → (has_callers f.version.level ≡ true → get_or (header f) i 0 ≡ record_count f s)
      → (has_callers f.version.level ≡ false → record_count f s ≡ 0) → cond (has_callers f.version.level) (number_at (spelling f) (count_offset s)) 0 ≡ record_count f s
  long_number s i offset high low is none = elim (cases_Bool (has_callers f.version.level)) [
    | inl has ↦
        let long : header_size f.version.level ≡ 80 = ap (λ (b : Bool). cond b 80 64) has in
        let there : i < length (header f) = omega (arith, low, (header_sized f), long) in
        ap (λ (b : Bool). cond b (number_at (spelling f) (count_offset s)) 0) has ∙ ap (number_at (spelling f)) offset ∙ header_number i there ∙ is has
    | inr lacks ↦ ap (λ (b : Bool). cond b (number_at (spelling f) (count_offset s)) 0) lacks ∙ sym (none lacks)
  ]

  long_is : (s : Section) → cond (has_callers (version_told (spelling f)).level) (number_at (spelling f) (count_offset s)) 0 ≡ cond (has_callers f.version.level) (number_at (spelling f) (count_offset s)) 0
  long_is s = ap (λ (v : Version). cond (has_callers v.level) (number_at (spelling f) (count_offset s)) 0) version_is

  -- The header tells how many records each section has.
  pub count_is : (s : Section) → count_told (spelling f) s ≡ record_count f s
  count_is Code = short_number 3 (omega arith)
  count_is Initial = short_number 4 (omega arith)
  count_is Functions = short_number 5 (omega arith)
  count_is Places = short_number 6 (omega arith)
  count_is Owners = short_number 3 (omega arith) ∙ sym told.one_each
  count_is Variables = short_number 7 (omega arith)
  count_is Changes = short_number 8 (omega arith)
  count_is Flow = short_number 9 (omega arith)
  count_is Assigned = short_number 10 (omega arith)
  count_is Rows = short_number 11 (omega arith)
  count_is Calls =
      long_is Calls
      ∙ long_number Calls 15 refl (omega arith) (omega arith) (λ has. ap (λ (b : Bool). get_or (cond b (length f.calls ∷ length f.members ∷ 0 ∷ 0 ∷ []) []) 0 0) has) (λ lacks. ap length (told.no_calls lacks))
  count_is Members =
      long_is Members
      ∙ long_number Members 16 refl (omega arith) (omega arith) (λ has. ap (λ (b : Bool). get_or (cond b (length f.calls ∷ length f.members ∷ 0 ∷ 0 ∷ []) []) 1 0) has) (λ lacks. ap length (told.no_members lacks))
  count_is Nodes = short_number 12 (omega arith)
  count_is Names = short_number 13 (omega arith)

  pub counts_are : count_told (spelling f) ≡ record_count f
  counts_are = λ i s. count_is s i

  pub behind_header : drop (header_size f.version.level) (spelling f) ≡ body f
  behind_header = ap (drop (header_size f.version.level)) (spelling_is f) ∙ drop_at (front f) (body f) (header_size f.version.level) (length-front f)

  -- What stands behind a section.
  abbrev rest : Section → List ℕ
  rest s = flat_map (section_bytes f) (drop (suc (section_number s)) order)

  -- A section lies where the header says.
  lies_at : (s : Section) → bytes_from (spelling f) s ≡ section_bytes f s ++ rest s
  lies_at s =
      (λ i. drop (start (version_is i).level (counts_are i) s) (spelling_is f i))
      ∙ after_parts f.version.level (record_count f) (section_bytes f) (part_sized f) (front f) (length-front f) s

  rows_there : {A : Type 0} (s : Section) (numbers : A → List ℕ) (xs : List A) → ((x : A) → length (numbers x) ≡ record_size f.version.level s / 4) → record_count f s ≡ length xs
      → section_bytes f s ≡ section numbers xs → RecordsFit numbers xs → rows_of (spelling f) s ≡ map numbers xs
  rows_there s numbers xs sized count bytes fit =
      let as_many = count_is s ∙ count in
      let lies = lies_at s ∙ ap (λ (b : List ℕ). b ++ rest s) bytes in
      (λ i. number_rows_at (record_size (version_is i).level s / 4) (as_many i) (lies i)) ∙ rows_back (record_size f.version.level s / 4) numbers sized xs (rest s) fit

  words_there : (s : Section) (ns : List ℕ) → record_size f.version.level s / 4 ≡ 1 → record_count f s ≡ length ns → section_bytes f s ≡ spelled ns → AllFit ns → rows_of (spelling f) s ≡ map word_numbers ns
  words_there s ns width count bytes fit = rows_there s word_numbers ns (λ x. sym width) count (bytes ∙ sym (section-words ns)) (words_fit ns fit)

  initial_there : take (count_told (spelling f) Initial) (bytes_from (spelling f) Initial) ≡ f.initial
  initial_there = (λ i. take (count_is Initial i) (lies_at Initial i)) ∙ take_at f.initial (rest Initial) (length f.initial) refl

  names_there : bytes_from (spelling f) Names ≡ f.names
  names_there = lies_at Names ∙ append-nil f.names

  pub sections_are : sections_at (spelling f) ≡ sections_of f
  unfolding sections_at
  sections_are =
      let fits = told.fits in
      let version = short_number 0 (omega arith) in
      let mode = short_number 2 (omega arith) in
      let code = words_there Code f.code refl refl refl fits.code in
      let functions = rows_there Functions (function_numbers f.version.level) f.functions (function_sized f.version.level) refl refl fits.functions in
      let places = rows_there Places place_numbers f.places (λ x. refl) refl refl fits.places in
      let owners = words_there Owners f.owners refl refl refl fits.owners in
      let variables = rows_there Variables variable_numbers f.variables (λ x. refl) refl refl fits.variables in
      let changes = rows_there Changes change_numbers f.changes (λ x. refl) refl refl fits.changes in
      let flow = rows_there Flow flow_numbers f.flow (λ x. refl) refl refl fits.flow in
      let assigned = rows_there Assigned assigned_numbers f.assigned (λ x. refl) refl refl fits.assigned in
      let rows = rows_there Rows (row_numbers f.version.level) f.rows (row_sized f.version.level) refl refl fits.rows in
      let calls = rows_there Calls call_numbers f.calls call_sized refl refl fits.calls in
      let members = rows_there Members member_numbers f.members (λ x. refl) refl refl fits.members in
      let nodes = rows_there Nodes node_numbers f.nodes node_sized refl refl fits.nodes in
      (λ i. record {
        version = version i;
        mode = mode i;
        code = code i;
        initial = initial_there i;
        functions = functions i;
        places = places i;
        owners = owners i;
        variables = variables i;
        changes = changes i;
        flow = flow i;
        assigned = assigned i;
        rows = rows i;
        calls = calls i;
        members = members i;
        nodes = nodes i;
        names = names_there i;
      })

-- An image keeps it.
pub is_told : (f : Form) → IsImage f → IsTold f
is_told f image = record {
  whole = image.sizes.whole;
  fits = image.fits;
  one_each = image.owners.one_each;
  no_calls = image.calls.none;
  no_members = image.members.none;
}

module _ (f : Form) (image : IsImage f) where
  pub few_functions : length f.functions < no_function
  few_functions = less_functions f image.sizes.whole

  pub sections_back : sections_at (spelling f) ≡ sections_of f
  sections_back = sections_are f (is_told f image)

  -- No version that is read has rows of calls.
  no_calls : f.calls ≡ []
  no_calls = image.calls.none (ap (λ (v : Version). has_callers v.level) (sym (version_back f.version)) ∙ read_no_calls (version_number f.version) image.sizes.version)

  rows_are : map visible_row_of (map (row_numbers f.version.level) f.rows) ≡ f.rows
  rows_are = map_back (row_numbers f.version.level) visible_row_of f.rows (each_from (λ r. visible_row_of (row_numbers f.version.level r) ≡ r) f.rows (λ i r at.
      row_back f f.version.level r image.assigned (each_at _ f.rows i r image.rows.verdicts at) (each_at _ f.rows i r image.rows.quiet at) (λ none. each_at _ f.rows i r (image.rows.none_quiet none) at)))

  pub decoded_back : form_of_sections (sections_of f) ≡ f
  unfolding form_of_sections
  decoded_back =
      let version = version_back f.version in
      let mode = mode_back f.mode in
      let code = map_back word_numbers only_number f.code (all_always (λ x. refl) f.code) in
      let functions = functions_back f.version.level f.functions image.functions.none_saved in
      let places = map_back place_numbers place_of f.places (all_always (λ x. refl) f.places) in
      let owners = map_back word_numbers only_number f.owners (all_always (λ x. refl) f.owners) in
      let variables = map_back variable_numbers variable_of f.variables (all_of (variable_back f few_functions) f.variables image.variables.each) in
      let changes = map_back change_numbers change_of f.changes (all_always change_back f.changes) in
      let flow = map_back flow_numbers flow_pair_of f.flow (all_always (λ x. refl) f.flow) in
      let assigned = map_back assigned_numbers assigned_of f.assigned (all_always (λ x. refl) f.assigned) in
      let calls : map call_row_of (map call_numbers f.calls) ≡ f.calls = ap (λ (cs : List CallRow). map call_row_of (map call_numbers cs)) no_calls ∙ sym no_calls in
      let members = map_back member_numbers member_of f.members (all_always member_back f.members) in
      let nodes = map_back node_numbers node_of f.nodes (all_always node_back f.nodes) in
      (λ i. record {
        version = version i;
        mode = mode i;
        code = code i;
        initial = f.initial;
        functions = functions i;
        places = places i;
        owners = owners i;
        variables = variables i;
        changes = changes i;
        flow = flow i;
        assigned = assigned i;
        rows = rows_are i;
        calls = calls i;
        members = members i;
        nodes = nodes i;
        names = f.names;
      })

  pub form_back : form_of_sections (sections_at (spelling f)) ≡ f
  form_back = ap form_of_sections sections_back ∙ decoded_back

-- Images that are spelled alike are alike.
pub spells_one : SpellsOneImage
spells_one f g image_f image_g e = sym (form_back f image_f) ∙ ap (λ (b : List ℕ). form_of_sections (sections_at b)) e ∙ form_back g image_g
