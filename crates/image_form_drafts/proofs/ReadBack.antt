-- Tables that are spelled as an image is say what it says.
use Rattle.std.proofs.Common.{◌≡◌, ℕ, ◌+◌, ◌*◌, ◌/◌, ◌<◌, ◌^◌, Bool, true, false, List, [], ◌∷◌, ◌++◌, length, get_or, take, drop, refl, sym, ap, subst, ◌∙◌, append_assoc, arith}
use Rattle.std.specs.Prelude.{codes, map, if◌then◌else◌}
use Rattle.std.specs.List.{AllByRecursion, flat_map}
use Rattle.std.proofs.lemmas.List.{take_at, drop_at}
use Rattle.std.proofs.lemmas.List.Concat.{flat_map-append, flat_map-cons}
use Rattle.byteorder.specs.Endian.{little_bytes}
use Rattle.debug_records.specs.declared.mode.Mode.{Mode}
use Rattle.image_form_sections.specs.declared.section.Section.{Section}
use Rattle.image_form_sections.specs.declared.section.Section.TheVariants.{Code, Initial, Functions, Places, Owners, Variables, Changes, Flow, Assigned, Rows, Calls, Members, Nodes, Names}
use Rattle.image_form_sections.specs.declared.version.Level.{Level}
use Rattle.image_form_sections.specs.declared.version.Level.TheVariants.{Plain, Quiet, Callers}
use Rattle.image_form_sections.specs.declared.version.Version.{Version}
use Rattle.image_form.specs.Decoding.{place_of, change_of, flow_pair_of, assigned_of, mode_of, node_of}
use Rattle.image_form.specs.Order.{sections_end, order, record_size}
use Rattle.image_form.specs.Sections.{number_at, numbers_at, number_rows_at}
use Rattle.image_form.specs.Versions.{has_callers, header_size, version_number, version_of}
use Rattle.image_form.specs.Form.{Form}
use Rattle.image_form.specs.Numbers.{mode_number, function_numbers, place_numbers, variable_numbers, change_numbers, flow_numbers, assigned_numbers, row_numbers, call_numbers, member_numbers, node_numbers}
use Rattle.image_form.specs.Rules.{AllFit, RecordsFit, IsImage}
use Rattle.image_form.specs.Spelling.{size, record_count, short_header, long_header, header, body, section, section_bytes, spelled, spelling}
use Rattle.image_form.proofs.ReadBack.{numbers_back, length-spelled, rows_back}
use Rattle.image_form.proofs.RecordsBack.{mode_back, change_back, node_back}
use Rattle.image_form.proofs.Counts.{few_records}
use Rattle.image_form.proofs.OneSpelling.{mode_fits, function_sized, row_sized, call_sized, node_sized, header_sized, part_sized, length-spelling}
use Rattle.image_form.proofs.VersionLaws.{version_back, version_small}
use Rattle.image_form_drafts.specs.Fitting.{AreFit}
use Rattle.image_form_drafts.specs.Same.{SaysTheSame}

-- ---- Lists

-- Of two lists that are the same, the first parts of one length are the same, and so is what stands behind them.
front_same : {A : Type 0} (a b c d : List A) → length a ≡ length c → a ++ b ≡ c ++ d → a ≡ c
front_same a b c d same e = sym (take_at a b (length c) same) ∙ ap (take (length c)) e ∙ take_at c d (length c) refl

rest_same : {A : Type 0} (a b c d : List A) → length a ≡ length c → a ++ b ≡ c ++ d → b ≡ d
rest_same a b c d same e = sym (drop_at a b (length c) same) ∙ ap (drop (length c)) e ∙ drop_at c d (length c) refl

-- Parts of the same lengths that stand one behind the other are the same, one by one.
parts_same : (p q : Section → List ℕ) → ((s : Section) → length (p s) ≡ length (q s)) → (ss : List Section)
    → flat_map p ss ≡ flat_map q ss → AllByRecursion (λ s. p s ≡ q s) ss
parts_same p q long [] e = tt
parts_same p q long (s ∷ ss) e =
    let whole : p s ++ flat_map p ss ≡ q s ++ flat_map q ss = sym (flat_map-cons p s ss) ∙ e ∙ flat_map-cons q s ss in
    let one = front_same (p s) (flat_map p ss) (q s) (flat_map q ss) (long s) whole in
    let rest = rest_same (p s) (flat_map p ss) (q s) (flat_map q ss) (long s) whole in
    (one, parts_same p q long ss rest)

-- Tables of as many records that are spelled alike have the same numbers.
table_same : {A : Type 0} (width : ℕ) (numbers : A → List ℕ) (sized : (x : A) → length (numbers x) ≡ width)
    (xs ys : List A) → length xs ≡ length ys
    → RecordsFit numbers xs → RecordsFit numbers ys → section numbers xs ≡ section numbers ys → map numbers xs ≡ map numbers ys
table_same width numbers sized xs ys count fit fit' e =
    sym (rows_back width numbers sized xs [] fit)
    ∙ ap (λ (n : ℕ). number_rows_at width n (section numbers xs ++ [])) count
    ∙ ap (λ (b : List ℕ). number_rows_at width (length ys) (b ++ [])) e
    ∙ rows_back width numbers sized ys [] fit'

of_numbers_same : {A : Type 0} (numbers : A → List ℕ) (of_numbers : List ℕ → A)
    → ((x : A) → of_numbers (numbers x) ≡ x) → (xs : List A) → map of_numbers (map numbers xs) ≡ xs
of_numbers_same numbers of_numbers back [] = refl
of_numbers_same numbers of_numbers back (x ∷ xs) =
    let head = back x in
    let tail = of_numbers_same numbers of_numbers back xs in
    (λ i. head i ∷ tail i)

-- Where records are told by their numbers, they are the same.
records_same : {A : Type 0} (width : ℕ) (numbers : A → List ℕ) (sized : (x : A) → length (numbers x) ≡ width)
    (of_numbers : List ℕ → A) → ((x : A) → of_numbers (numbers x) ≡ x) → (xs ys : List A) → length xs ≡ length ys
    → RecordsFit numbers xs → RecordsFit numbers ys → section numbers xs ≡ section numbers ys → xs ≡ ys
records_same width numbers sized of_numbers back xs ys count fit fit' e =
    sym (of_numbers_same numbers of_numbers back xs)
    ∙ ap (map of_numbers) (table_same width numbers sized xs ys count fit fit' e)
    ∙ of_numbers_same numbers of_numbers back ys

-- numbers that are spelled alike are the same
words_same : (xs ys : List ℕ) → length xs ≡ length ys → AllFit xs → AllFit ys → spelled xs ≡ spelled ys → xs ≡ ys
words_same xs ys count fit fit' e =
    sym (numbers_back xs [] [] 0 refl fit)
    ∙ (λ i. numbers_at (count i) 0 (e i ++ []))
    ∙ numbers_back ys [] [] 0 refl fit'

-- modes of one number are one
modes_same : (m n : Mode) → mode_number m ≡ mode_number n → m ≡ n
modes_same m n e = sym (mode_back m) ∙ ap mode_of e ∙ mode_back n

-- ---- The header

-- The bytes of numbers are those of the first ones and of the others.
split : (xs ys rest : List ℕ) → spelled (xs ++ ys) ++ rest ≡ spelled xs ++ (spelled ys ++ rest)
split xs ys rest =
    ap (λ (b : List ℕ). b ++ rest) (flat_map-append (little_bytes 4) xs ys)
    ∙ append_assoc (spelled xs) (spelled ys) rest

-- The version is told behind the first four bytes.
version_read : (f : Form) → number_at (spelling f) 4 ≡ version_number f.version
unfolding spelling
version_read f =
    let behind_it : List ℕ = drop 1 (header f) in
    let first : List ℕ = version_number f.version ∷ [] in
    let small = version_small f.version in
    let fits : AllFit (version_number f.version ∷ []) = (omega (arith, small), tt) in
    ap (λ (b : List ℕ). number_at (codes "CDBG" ++ b) 4) (split first behind_it (body f))
    ∙ ap (λ (l : List ℕ). get_or l 0 0) (numbers_back first (spelled behind_it ++ body f) (codes "CDBG") 4 refl fits)

short_fits : (f : Form) → size f < 2 ^ 32 → AllFit (short_header f)
short_fits f whole =
    let small = version_small f.version in
    let mode = mode_fits f.mode in
    let fits = λ (s : Section). few_records f whole s in (
      omega (arith, small),
      (
        whole,
        (
          omega (arith, mode),
          (
            fits Code,
            (
              fits Initial,
              (
                fits Functions,
                (
                  fits Places,
                  (
                    fits Variables,
                    (
                      fits Changes,
                      (
                        fits Flow,
                        (
                          fits Assigned,
                          (
                            fits Rows,
                            (
                              fits Nodes,
                              (
                                fits Names,
                                (omega arith, tt),
                              ),
                            ),
                          ),
                        ),
                      ),
                    ),
                  ),
                ),
              ),
            ),
          ),
        ),
      ),
    )

-- As many rows of calls and as many members take as many bytes, where the other sections have as many records.
others_same : (level : Level) (count other : Section → ℕ) → sections_end level count order ≡ sections_end level other order
    → count Code ≡ other Code → count Initial ≡ other Initial → count Functions ≡ other Functions
    → count Places ≡ other Places → count Owners ≡ other Owners → count Variables ≡ other Variables
    → count Changes ≡ other Changes → count Flow ≡ other Flow → count Assigned ≡ other Assigned
    → count Rows ≡ other Rows → count Nodes ≡ other Nodes → count Names ≡ other Names
    → 28 * count Calls + 20 * count Members ≡ 28 * other Calls + 20 * other Members
others_same Plain count other all a b c d e f g h i j k l = omega (arith, all, a, b, c, d, e, f, g, h, i, j, k, l)
others_same Quiet count other all a b c d e f g h i j k l = omega (arith, all, a, b, c, d, e, f, g, h, i, j, k, l)
others_same Callers count other all a b c d e f g h i j k l = omega (arith, all, a, b, c, d, e, f, g, h, i, j, k, l)

module _ (f g : Form) (owners : length f.owners ≡ length f.code) (fit : AreFit f) (image : IsImage g)
    (e : spelling f ≡ spelling g) where
  whole : size f < 2 ^ 32
  whole =
      let same : size g ≡ size f = sym (length-spelling g) ∙ sym (ap length e) ∙ length-spelling f in
      subst (λ (n : ℕ). n < 2 ^ 32) same image.sizes.whole

  version : f.version ≡ g.version
  version =
      let numbers : version_number f.version ≡ version_number g.version =
      sym (version_read f) ∙ ap (λ (b : List ℕ). number_at b 4) e ∙ version_read g in
      sym (version_back f.version) ∙ ap version_of numbers ∙ version_back g.version

  level : f.version.level ≡ g.version.level
  level = ap (λ (v : Version). v.level) version

  behind_magic : spelled (header f) ++ body f ≡ spelled (header g) ++ body g
  unfolding spelling
  behind_magic =
      rest_same (codes "CDBG") (spelled (header f) ++ body f) (codes "CDBG") (spelled (header g) ++ body g) refl e

  -- what stands behind the numbers that each version has
  behind_short : Form → List ℕ
  behind_short k = spelled (long_header k) ++ body k

  headers : spelled (short_header f) ++ behind_short f ≡ spelled (short_header g) ++ behind_short g
  unfolding behind_short
  headers =
      sym (split (short_header f) (long_header f) (body f))
      ∙ behind_magic
      ∙ split (short_header g) (long_header g) (body g)

  short_long : length (spelled (short_header f)) ≡ length (spelled (short_header g))
  short_long = length-spelled (short_header f) ∙ sym (length-spelled (short_header g))

  shorts : short_header f ≡ short_header g
  shorts =
      let bytes : spelled (short_header f) ≡ spelled (short_header g) =
      front_same (spelled (short_header f)) (behind_short f) (spelled (short_header g)) (behind_short g)
      short_long headers in
      words_same (short_header f) (short_header g) refl (short_fits f whole) (short_fits g image.sizes.whole) bytes

  behind_shorts : spelled (long_header f) ++ body f ≡ spelled (long_header g) ++ body g
  unfolding behind_short
  behind_shorts =
      rest_same (spelled (short_header f)) (behind_short f) (spelled (short_header g)) (behind_short g)
      short_long headers

  long_long : length (long_header f) ≡ length (long_header g)
  long_long =
      let one = header_sized f in
      let two = header_sized g in
      let same = ap header_size level in
      omega (arith, one, two, same)

  spelled_long : length (spelled (long_header f)) ≡ length (spelled (long_header g))
  spelled_long =
      length-spelled (long_header f) ∙ ap (λ (n : ℕ). 4 * n) long_long ∙ sym (length-spelled (long_header g))

  bodies : body f ≡ body g
  bodies =
      rest_same (spelled (long_header f)) (body f) (spelled (long_header g)) (body g) spelled_long behind_shorts

  -- ---- How many records there are

  told : (i : ℕ) → get_or (short_header f) i 0 ≡ get_or (short_header g) i 0
  told i = ap (λ (l : List ℕ). get_or l i 0) shorts

  owned : length f.owners ≡ length g.owners
  owned = owners ∙ told 3 ∙ sym image.owners.one_each

  -- the numbers of a header that tells of calls and members
  long_numbers : Form → List ℕ
  long_numbers k = length k.calls ∷ length k.members ∷ 0 ∷ 0 ∷ []

  long_fits : (k : Form) → size k < 2 ^ 32 → AllFit (long_numbers k)
  unfolding long_numbers
  long_fits k small = (few_records k small Calls, (few_records k small Members, (omega arith, (omega arith, tt))))

  long_is : (k : Form) → k.version.level ≡ g.version.level → has_callers g.version.level ≡ true
      → long_header k ≡ long_numbers k
  unfolding long_numbers
  long_is k same is = ap (λ b. if b then long_numbers k else []) (ap has_callers same ∙ is)

  long_same : spelled (long_header f) ≡ spelled (long_header g)
  long_same =
      front_same (spelled (long_header f)) (body f) (spelled (long_header g)) (body g) spelled_long behind_shorts

  told_long : has_callers g.version.level ≡ true → long_numbers f ≡ long_numbers g
  unfolding long_numbers
  told_long is =
      words_same (long_numbers f) (long_numbers g) refl (long_fits f whole) (long_fits g image.sizes.whole)
      (ap spelled (sym (long_is f level is)) ∙ long_same ∙ ap spelled (long_is g refl is))

  sizes : sections_end g.version.level (record_count f) order ≡ sections_end g.version.level (record_count g) order
  unfolding size
  sizes = ap (λ (l : Level). sections_end l (record_count f) order) (sym level) ∙ told 1

  -- of calls and members, where the header tells of them and where it does not
  callers : (b : Bool) → has_callers g.version.level ≡ b
      → (length f.calls ≡ length g.calls) × (length f.members ≡ length g.members)
  unfolding long_numbers
  callers true is =
      (ap (λ (l : List ℕ). get_or l 0 0) (told_long is), ap (λ (l : List ℕ). get_or l 1 0) (told_long is))
  callers false is =
      let no_calls = ap length (image.calls.none is) in
      let no_members = ap length (image.members.none is) in
      let all =
      others_same g.version.level (record_count f) (record_count g) sizes (told 3) (told 4) (told 5) (told 6) owned
      (told 7) (told 8) (told 9) (told 10) (told 11) (told 12) (told 13) in
      (omega (arith, no_calls, no_members, all), omega (arith, no_calls, no_members, all))

  counts : (s : Section) → record_count f s ≡ record_count g s
  counts Code = told 3
  counts Initial = told 4
  counts Functions = told 5
  counts Places = told 6
  counts Owners = owned
  counts Variables = told 7
  counts Changes = told 8
  counts Flow = told 9
  counts Assigned = told 10
  counts Rows = told 11
  counts Calls = (callers (has_callers g.version.level) refl).0
  counts Members = (callers (has_callers g.version.level) refl).1
  counts Nodes = told 12
  counts Names = told 13

  lengths : (s : Section) → length (section_bytes f s) ≡ length (section_bytes g s)
  lengths s =
      part_sized f s
      ∙ ap (λ (n : ℕ). record_size f.version.level s * n) (counts s)
      ∙ ap (λ (l : Level). record_size l s * record_count g s) level
      ∙ sym (part_sized g s)

  -- each section has the same bytes
  sections : AllByRecursion (λ s. section_bytes f s ≡ section_bytes g s) order
  sections = parts_same (section_bytes f) (section_bytes g) lengths order bodies

  -- ---- What they say

  functions : section (function_numbers f.version.level) f.functions ≡ section (function_numbers f.version.level) g.functions
  functions = sections.1.1.0 ∙ ap (λ (l : Level). section (function_numbers l) g.functions) (sym level)

  rows : section (row_numbers f.version.level) f.rows ≡ section (row_numbers f.version.level) g.rows
  rows = sections.1.1.1.1.1.1.1.1.1.0 ∙ ap (λ (l : Level). section (row_numbers l) g.rows) (sym level)

  functions_fit : RecordsFit (function_numbers f.version.level) g.functions
  functions_fit = subst (λ (l : Level). RecordsFit (function_numbers l) g.functions) (sym level) image.fits.functions

  rows_fit : RecordsFit (row_numbers f.version.level) g.rows
  rows_fit = subst (λ (l : Level). RecordsFit (row_numbers l) g.rows) (sym level) image.fits.rows

  functions_same : map (function_numbers f.version.level) f.functions ≡ map (function_numbers f.version.level) g.functions
  functions_same =
      let l = f.version.level in
      table_same (record_size l Functions / 4) (function_numbers l) (function_sized l) f.functions g.functions (counts Functions)
      fit.functions functions_fit functions

  rows_same : map (row_numbers f.version.level) f.rows ≡ map (row_numbers f.version.level) g.rows
  rows_same =
      let l = f.version.level in
      table_same (record_size l Rows / 4) (row_numbers l) (row_sized l) f.rows g.rows (counts Rows) fit.rows rows_fit rows

  pub says_the_same : SaysTheSame f g
  says_the_same = record {
    version = sym version;
    mode = sym (modes_same f.mode g.mode (told 2));
    code = sym (words_same f.code g.code (counts Code) fit.code image.fits.code sections.0);
    initial = sym sections.1.0;
    functions = sym functions_same;
    places = sym (records_same 4 place_numbers (λ x. refl) place_of (λ x. refl) f.places g.places (counts Places)
        fit.places image.fits.places sections.1.1.1.0);
    owners = sym (words_same f.owners g.owners owned fit.owners image.fits.owners sections.1.1.1.1.0);
    variables = sym (table_same 8 variable_numbers (λ x. refl) f.variables g.variables (counts Variables)
        fit.variables image.fits.variables sections.1.1.1.1.1.0);
    changes = sym (records_same 5 change_numbers (λ x. refl) change_of change_back f.changes g.changes (counts Changes)
        fit.changes image.fits.changes sections.1.1.1.1.1.1.0);
    flow = sym (records_same 2 flow_numbers (λ x. refl) flow_pair_of (λ x. refl) f.flow g.flow (counts Flow)
        fit.flow image.fits.flow sections.1.1.1.1.1.1.1.0);
    assigned = sym (records_same 2 assigned_numbers (λ x. refl) assigned_of (λ x. refl) f.assigned g.assigned
        (counts Assigned) fit.assigned image.fits.assigned sections.1.1.1.1.1.1.1.1.0);
    rows = sym rows_same;
    calls = sym (table_same 7 call_numbers call_sized f.calls g.calls (counts Calls)
        fit.calls image.fits.calls sections.1.1.1.1.1.1.1.1.1.1.0);
    members = sym (table_same 5 member_numbers (λ x. refl) f.members g.members (counts Members)
        fit.members image.fits.members sections.1.1.1.1.1.1.1.1.1.1.1.0);
    nodes = sym (records_same 3 node_numbers node_sized node_of node_back f.nodes g.nodes (counts Nodes)
        fit.nodes image.fits.nodes sections.1.1.1.1.1.1.1.1.1.1.1.1.0);
    names = sym sections.1.1.1.1.1.1.1.1.1.1.1.1.1.0;
  }
