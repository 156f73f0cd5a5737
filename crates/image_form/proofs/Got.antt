-- What a view lends: the image that was read, and the records of its rows.
use Rattle.std.proofs.Common.{◌≡◌, ℕ, zero, suc, ◌+◌, ◌*◌, ◌^◌, ◌<◌, ◌≤◌, true, cond, ltb, Some, Ok, Err, Result, List, [], ◌∷◌, length, take, drop, refl, sym, ap, subst, ◌∙◌, arith}
use Rattle.std.specs.Prelude.{IfOk, map, slice_get, slice_index_or}
use Rattle.std.proofs.lemmas.Bool.{ltb-true, lt-ltb, and_from, and_parts}
use Rattle.std.proofs.lemmas.List.{length-map, take_at}
use Rattle.image_form_sections.specs.declared.fault.ImageErr.{ImageErr}
use Rattle.image_form.specs.declared.lent.View.{View}
use Rattle.image_form.specs.declared.numbers.Header.{Header}
use Rattle.image_form_sections.specs.declared.layout.Layout.{Layout}
use Rattle.image_form.specs.RawRecords.{header_numbers}
use Rattle.image_form_sections.specs.declared.section.Section.{Section}
use Rattle.image_form_sections.specs.declared.section.Section.TheVariants.{Code, Initial, Functions, Places, Owners, Variables, Changes, Flow, Assigned, Rows, Calls, Members, Nodes, Names}
use Rattle.image_form_sections.specs.Versions.{has_callers, header_size, level_of}
use Rattle.image_form_sections.specs.declared.version.Level.{Level}
use Rattle.image_form.specs.Numbers.{function_numbers, place_numbers, variable_numbers, change_numbers, flow_numbers, assigned_numbers, row_numbers, call_numbers, member_numbers, node_numbers}
use Rattle.image_form_sections.specs.Breaches.{Gives}
use Rattle.image_form.specs.Decoding.{form_of_sections, sections_of, word_numbers}
use Rattle.image_form.specs.Form.{Form}
use Rattle.image_form_sections.specs.Layouts.{rows_in, sections_in}
use Rattle.image_form.specs.Lent.{are_bytes}
use Rattle.image_form.specs.Reading.{read_of}
use Rattle.image_form_sections.specs.Checking.{size_told}
use Rattle.image_form.specs.Rules.{IsImage}
use Rattle.image_form_sections.specs.Sections.{Sections, section_records, sections_at}
use Rattle.image_form.specs.Spelling.{size, header, record_count, spelled, spelling}
use Rattle.image_form.specs.Views.{viewed}
use Rattle.image_form.proofs.Counts.{few_records}
use Rattle.image_form.proofs.Complete.{image_read, told_size}
use Rattle.image_form.proofs.OneSpelling.{is_told, length-spelling, behind_header, sections_back, form_back}
use Rattle.image_form.proofs.ReadBack.{length-spelled}
use Rattle.image_form.proofs.Sound.{read_sound}
use Rattle.image_form_sections.proofs.Octets.{AreBytes}
use Rattle.image_form_sections.proofs.SectionLaws.{ends_inside}

-- What is read of bytes is an image, of which these are the spelling.
pub found_by : {X : Type 0} (view : X → Form) (bytes : List ℕ) (r : Result X ImageErr) → AreBytes bytes → Gives view r (read_of bytes) → IfOk r (λ x. IsImage (view x) × (bytes ≡ spelling (view x)))
found_by view bytes (Ok x) are gives = read_sound bytes (view x) are gives
found_by view bytes (Err e) are gives = tt

-- The spelling of an image is read as it.
pub read_spelled : (bytes : List ℕ) (f : Form) → IsImage f → bytes ≡ spelling f → read_of bytes ≡ Ok f
read_spelled bytes f image e = ap read_of e ∙ image_read f image

-- Its header asks for as many bytes as there are.
pub told_spelled : (bytes : List ℕ) (f : Form) → IsImage f → bytes ≡ spelling f → size_told bytes ≡ length bytes
told_spelled bytes f image e = subst (λ (b : List ℕ). size_told b ≡ length b) (sym e) (told_size f image)

-- What its sections say is the image.
pub form_spelled : (bytes : List ℕ) (f : Form) → IsImage f → bytes ≡ spelling f → form_of_sections (sections_at bytes) ≡ f
form_spelled bytes f image e = ap (λ (b : List ℕ). form_of_sections (sections_at b)) e ∙ form_back f image

-- There are as many records as rows.
pub counted : {B : Type 0} (f : List ℕ → B) (rows : List (List ℕ)) → length rows ≡ length (map f rows)
counted f rows = omega (arith, length-map rows f)

-- The record that a row says.
pub got_mapped : {B : Type 0} (f : List ℕ → B) (rows : List (List ℕ)) (n : ℕ) → n < length (map f rows) → slice_get (map f rows) n ≡ Some (f (slice_index_or rows n []))
got_mapped f [] n low = absurd (omega (arith, low))
got_mapped f (r ∷ rows) zero low = refl
got_mapped f (r ∷ rows) (suc n) low = got_mapped f rows n (omega (arith, low))

-- The sections that say an image have as many rows as it has records.
pub counts_told : (f : Form) (s : Section) → section_records (sections_of f) s ≡ record_count f s
counts_told f Code = length-map f.code word_numbers
counts_told f Initial = refl
counts_told f Functions = length-map f.functions (function_numbers f.version.level)
counts_told f Places = length-map f.places place_numbers
counts_told f Owners = length-map f.owners word_numbers
counts_told f Variables = length-map f.variables variable_numbers
counts_told f Changes = length-map f.changes change_numbers
counts_told f Flow = length-map f.flow flow_numbers
counts_told f Assigned = length-map f.assigned assigned_numbers
counts_told f Rows = length-map f.rows (row_numbers f.version.level)
counts_told f Calls = length-map f.calls call_numbers
counts_told f Members = length-map f.members member_numbers
counts_told f Nodes = length-map f.nodes node_numbers
counts_told f Names = refl

-- Each number is a byte's.
pub bytes_are : (bytes : List ℕ) → are_bytes bytes ≡ true → AreBytes bytes
bytes_are [] e i = omega arith
bytes_are (b ∷ bytes) e zero = ltb-true b 256 (and_parts (ltb b 256) (are_bytes bytes) e).0
bytes_are (b ∷ bytes) e (suc i) = bytes_are bytes (and_parts (ltb b 256) (are_bytes bytes) e).1 i

pub are_bytes_so : (bytes : List ℕ) → AreBytes bytes → are_bytes bytes ≡ true
are_bytes_so [] are = refl
are_bytes_so (b ∷ bytes) are = and_from (ltb b 256) (are_bytes bytes) (lt-ltb b 256 (are 0)) (are_bytes_so bytes (λ i. are (suc i)))

-- What is viewed is an image, and the bytes are its spelling.
pub view_sound : (v : View) → IsImage (viewed v) × (v.bytes.now ≡ spelling (viewed v))
view_sound v = read_sound v.bytes.now (viewed v) (bytes_are v.bytes.now v.fit) v.read

-- The sections of a view are those of its image.
pub sections_told : (v : View) → sections_of (viewed v) ≡ sections_in v.layout
sections_told v = let sound = view_sound v in sym (sections_back (viewed v) sound.0) ∙ ap sections_at (sym sound.1) ∙ sym v.sections

-- The size of the header by the number of the version.
pub header_told : (v : View) (level : Level) (n : ℕ) → level ≡ level_of v.layout.version → n ≡ header_size level → n ≡ header_size (viewed v).version.level
unfolding form_of_sections
header_told v level n is size = size ∙ ap header_size is

-- The bytes of the code words lie behind the header.
pub code_inside : (v : View) → header_size (viewed v).version.level + 4 * length (viewed v).code ≤ length v.bytes.now
unfolding size
code_inside v =
    let sound = view_sound v in
    let f = viewed v in
    omega (arith, ap length sound.1, length-spelling f, ends_inside f.version.level (record_count f) Code)

pub code_spelled : (v : View) → take (4 * length (viewed v).code) (drop (header_size (viewed v).version.level) v.bytes.now) ≡ spelled (viewed v).code
code_spelled v =
    let sound = view_sound v in
    ap (λ (bytes : List ℕ). take (4 * length (viewed v).code) (drop (header_size (viewed v).version.level) bytes)) sound.1
    ∙ ap (take (4 * length (viewed v).code)) (behind_header (viewed v) (is_told (viewed v) sound.0))
    ∙ take_at (spelled (viewed v).code) _ (4 * length (viewed v).code) (length-spelled (viewed v).code)

-- The bytes are fewer than a number can say.
pub bytes_few : (v : View) → (length v.bytes.now ≡ size (viewed v)) × (length v.bytes.now < 2 ^ 32)
bytes_few v =
    let sound = view_sound v in
    let same = ap length sound.1 ∙ length-spelling (viewed v) in
    (same, omega (arith, same, sound.0.sizes.whole))

-- No section has more records than a number can say.
pub few_told : (v : View) (l : Layout) → sections_of (viewed v) ≡ sections_in l → (s : Section) → section_records (sections_in l) s < 2 ^ 32
few_told v l told s =
    let f = viewed v in
    let same : section_records (sections_of f) s ≡ section_records (sections_in l) s = ap (λ (t : Sections). section_records t s) told in
    omega (arith, few_records f (view_sound v).0.sizes.whole s, same, counts_told f s)

-- The numbers of a header that say what the sections have.
pub record HeaderSays (bytes : List ℕ) (l : Layout) (h : Header) : Type 0 where
  pub version : h.version ≡ l.version
  pub size : h.length ≡ length bytes
  pub mode : h.mode ≡ l.mode
  pub zero_is : h.zero ≡ 0
  pub code : h.code ≡ length (rows_in l.code)
  pub initial : h.initial ≡ length l.initial.now
  pub functions : h.functions ≡ length (rows_in l.functions)
  pub places : h.places ≡ length (rows_in l.places)
  pub variables : h.variables ≡ length (rows_in l.variables)
  pub changes : h.changes ≡ length (rows_in l.changes)
  pub flow : h.flow ≡ length (rows_in l.flow)
  pub assigned : h.assigned ≡ length (rows_in l.assigned)
  pub rows : h.rows ≡ length (rows_in l.rows)
  pub calls : h.calls ≡ length (rows_in l.calls)
  pub members : h.members ≡ length (rows_in l.members)
  pub nodes : h.nodes ≡ length (rows_in l.nodes)
  pub names : h.names ≡ length l.names.now

-- They are the header's.
pub header_got : (v : View) (l : Layout) → sections_of (viewed v) ≡ sections_in l → (h : Header) → HeaderSays v.bytes.now l h → header_numbers (viewed v).version.level h ≡ header (viewed v)
header_got v l told h says =
    let f = viewed v in
    let version = says.version ∙ sym (ap (λ (s : Sections). s.version) told) in
    let size = says.size ∙ (bytes_few v).0 in
    let mode = says.mode ∙ sym (ap (λ (s : Sections). s.mode) told) in
    let is = λ (s : Section). sym (ap (λ (t : Sections). section_records t s) told) ∙ counts_told f s in
    let code = says.code ∙ is Code in
    let initial = says.initial ∙ is Initial in
    let functions = says.functions ∙ is Functions in
    let places = says.places ∙ is Places in
    let variables = says.variables ∙ is Variables in
    let changes = says.changes ∙ is Changes in
    let flow = says.flow ∙ is Flow in
    let assigned = says.assigned ∙ is Assigned in
    let rows = says.rows ∙ is Rows in
    let calls = says.calls ∙ is Calls in
    let members = says.members ∙ is Members in
    let nodes = says.nodes ∙ is Nodes in
    let names = says.names ∙ is Names in
    let none = says.zero_is in
    (λ i.
    version i ∷ size i ∷ mode i ∷ code i ∷ initial i ∷ functions i ∷ places i ∷ variables i ∷ changes i ∷ flow i ∷ assigned i ∷ rows i ∷ nodes i ∷ names i ∷ none i
    ∷ cond (has_callers f.version.level) (calls i ∷ members i ∷ none i ∷ none i ∷ []) [])
