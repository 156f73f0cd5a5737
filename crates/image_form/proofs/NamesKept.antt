-- Names keep their rules where their bytes keep their tests.
use Rattle.std.proofs.Common.{◌≡◌, ℕ, zero, suc, ◌+◌, ◌<◌, ◌≤◌, Bool, true, false, List, [], ◌∷◌, ◌++◌, length, take, drop, Option, Some, None, refl, sym, ap, ◌∙◌, arith, inl, inr}
use Rattle.std.specs.Prelude.{map, slice_index, sum, replicate}
use Rattle.std.specs.List.{flat_map, list_all}
use Rattle.std.specs.Option.{option_map}
use Rattle.std.proofs.lemmas.Bool.{and_parts, and_from, cases_Bool}
use Rattle.std.proofs.lemmas.List.{length-append, length-map, length-drop, length-take-le, drop-drop}
use Rattle.std.proofs.lemmas.List.Concat.{flat_map-cons}
use Rattle.std.proofs.lemmas.Option.{none-some, slice_get-map, get_or_from_slice_get}
use Rattle.image_form_sections.specs.declared.name_rules.NameKind.{NameKind}
use Rattle.image_form_sections.specs.declared.name_rules.NameKind.TheVariants.{Identifier, Letters}
use Rattle.image_form.specs.declared.tables.Change.{Change}
use Rattle.image_form.specs.declared.tables.Function.{Function}
use Rattle.image_form.specs.declared.variables.Variable.{Variable}
use Rattle.image_form.specs.Decoding.{sections_of}
use Rattle.image_form.specs.Numbers.{function_numbers, variable_numbers, change_numbers}
use Rattle.image_form.specs.RulesOfFunctions.{IsFunction, FunctionRules}
use Rattle.image_form.proofs.Kept.{at_each}
use Rattle.image_form.proofs.TableLaws.{each_at}
use Rattle.image_form.specs.Form.{Form}
use Rattle.image_form.specs.Names.{function_name_lengths, variable_name_lengths, pass_name_lengths}
use Rattle.image_form.specs.RulesOfNames.{is_lower_letter, begins_identifier, is_identifier_byte, IsIdentifier, IsIdentifierOrEmpty, NameRules}
use Rattle.image_form_sections.specs.TestsOfNames.{identifier_tests, byte_tests, table_tests, name_tests, first_unfit, first_misfit}
use Rattle.image_form_sections.proofs.Unfit.{first_unfit-append, first_unfit-front, unfit_long, misfit_none, length-byte_tests}
use Rattle.base_laws.proofs.Lists.{sum_more as sum-cons}

-- The parts of tests that are all met are met.
split_met : (ts us : List (ℕ → Bool)) (bytes : List ℕ) → first_unfit (ts ++ us) bytes ≡ None → (first_unfit ts bytes ≡ None) × (first_unfit us (drop (length ts) bytes) ≡ None)
split_met ts us bytes e = go (first_unfit ts bytes) refl
  where
    none_mapped : (o : Option ℕ) → option_map (λ k. length ts + k) o ≡ None → o ≡ None
    none_mapped None e = refl
    none_mapped (Some k) e = absurd (none-some (length ts + k) (sym e))

    go : (o : Option ℕ) → first_unfit ts bytes ≡ o → (first_unfit ts bytes ≡ None) × (first_unfit us (drop (length ts) bytes) ≡ None)
    go None met = (met, none_mapped (first_unfit us (drop (length ts) bytes)) (sym (first_unfit-append ts us bytes met) ∙ e))
    go (Some k) unmet = absurd (none-some k (sym e ∙ first_unfit-front ts us bytes k unmet))

join_met : (ts us : List (ℕ → Bool)) (bytes : List ℕ) → first_unfit ts bytes ≡ None → first_unfit us (drop (length ts) bytes) ≡ None → first_unfit (ts ++ us) bytes ≡ None
join_met ts us bytes met_ts met_us = first_unfit-append ts us bytes met_ts ∙ ap (option_map (λ k. length ts + k)) met_us

-- A misfit is nowhere exactly where all tests are met and nothing is left over.
none_sound : (ts : List (ℕ → Bool)) (bytes : List ℕ) → first_misfit ts bytes ≡ None → (first_unfit ts bytes ≡ None) × (length ts ≡ length bytes)
none_sound [] [] e = (refl, refl)
none_sound [] (b ∷ bytes) e = absurd (none-some 0 (sym e))
none_sound (t ∷ ts) [] e = absurd (none-some 0 (sym e))
none_sound (t ∷ ts) (b ∷ bytes) e = go (t b) refl (none_sound ts bytes)
  where
    none_mapped : (o : Option ℕ) → option_map suc o ≡ None → o ≡ None
    none_mapped None e = refl
    none_mapped (Some k) e = absurd (none-some (suc k) (sym e))

    go : (v : Bool) → t b ≡ v → (first_misfit ts bytes ≡ None → (first_unfit ts bytes ≡ None) × (length ts ≡ length bytes)) → (first_unfit (t ∷ ts) (b ∷ bytes) ≡ None) × (suc (length ts) ≡ suc (length bytes))
    go true v later = let rest = later (none_mapped (first_misfit ts bytes) (rw v at e)) in (rw (v, rest.0) refl, ap suc rest.1)
    go false v later = absurd (none-some 0 (sym (rw v at e)))

-- So many bytes pass a test.
all_sound : (p : ℕ → Bool) (n : ℕ) (bytes : List ℕ) → first_unfit (replicate n p) bytes ≡ None → list_all p (take n bytes) ≡ true
all_sound p zero bytes e = refl
all_sound p (suc n) [] e = absurd (none-some 0 (sym e))
all_sound p (suc n) (b ∷ bytes) e =
    let parts = split_met (p ∷ []) (replicate n p) (b ∷ bytes) e in
    and_from (p b) (list_all p (take n bytes)) (one parts.0) (all_sound p n bytes parts.1)
  where
    one : first_unfit (p ∷ []) (b ∷ []) ≡ None → p b ≡ true
    one e = elim (cases_Bool (p b)) [
      | inl v ↦ v
      | inr v ↦ absurd (none-some 0 (sym (rw v at e)))
    ]

all_complete : (p : ℕ → Bool) (n : ℕ) (bytes : List ℕ) → n ≤ length bytes → list_all p (take n bytes) ≡ true → first_unfit (replicate n p) bytes ≡ None
all_complete p zero bytes long all = refl
all_complete p (suc n) [] long all = absurd (omega (arith, long))
all_complete p (suc n) (b ∷ bytes) long all =
    let parts = and_parts (p b) (list_all p (take n bytes)) all in
    rw (parts.0, all_complete p n bytes (omega (arith, long)) parts.1) refl

identifier_sound : (n : ℕ) (bytes : List ℕ) → first_unfit (identifier_tests n) bytes ≡ None → IsIdentifierOrEmpty (take n bytes)
identifier_sound zero bytes e = tt
identifier_sound (suc n) [] e = tt
identifier_sound (suc n) (b ∷ bytes) e =
    let parts = split_met (begins_identifier ∷ []) (replicate n is_identifier_byte) (b ∷ bytes) e in
    (one parts.0, all_sound is_identifier_byte n bytes parts.1)
  where
    one : first_unfit (begins_identifier ∷ []) (b ∷ []) ≡ None → begins_identifier b ≡ true
    one e = elim (cases_Bool (begins_identifier b)) [
      | inl v ↦ v
      | inr v ↦ absurd (none-some 0 (sym (rw v at e)))
    ]

identifier_complete : (n : ℕ) (bytes : List ℕ) → n ≤ length bytes → IsIdentifierOrEmpty (take n bytes) → first_unfit (identifier_tests n) bytes ≡ None
identifier_complete zero bytes long is = refl
identifier_complete (suc n) [] long is = absurd (omega (arith, long))
identifier_complete (suc n) (b ∷ bytes) long is = rw (is.0, all_complete is_identifier_byte n bytes (omega (arith, long)) is.1) refl

-- ---- the names of a table

-- The tests of names of these lengths.
abbrev tests_of : NameKind → List ℕ → List (ℕ → Bool)
tests_of kind lengths = flat_map (byte_tests kind) lengths

-- A table's tests are those of its lengths.
tests_by_lengths : {A : Type 0} (kind : NameKind) (numbers : A → List ℕ) (len : A → ℕ) → ((x : A) → slice_index (numbers x) 0 ≡ len x) → (xs : List A) → table_tests kind (map numbers xs) ≡ tests_of kind (map len xs)
tests_by_lengths kind numbers len first [] = refl
tests_by_lengths kind numbers len first (x ∷ xs) =
    flat_map-cons (λ r. byte_tests kind (slice_index r 0)) (numbers x) (map numbers xs)
    ∙ (λ i. byte_tests kind (first x i) ++ tests_by_lengths kind numbers len first xs i)
    ∙ sym (flat_map-cons (byte_tests kind) (len x) (map len xs))

length-tests_of : (kind : NameKind) (ns : List ℕ) → length (tests_of kind ns) ≡ sum ns
length-tests_of kind [] = refl
length-tests_of kind (n ∷ ns) =
    ap length (flat_map-cons (byte_tests kind) n ns) ∙ length-append (byte_tests kind n) (tests_of kind ns) ∙ (λ i. length-byte_tests kind n i + length-tests_of kind ns i) ∙ sym (sum-cons n ns)

-- Each name's tests are met where all are.
each_met : (kind : NameKind) (ns : List ℕ) (bytes : List ℕ) → first_unfit (tests_of kind ns) bytes ≡ None → (k : ℕ) → k < length ns → first_unfit (byte_tests kind (slice_index ns k)) (drop (sum (take k ns)) bytes) ≡ None
each_met kind [] bytes e k lt = absurd (omega (arith, lt))
each_met kind (n ∷ ns) bytes e k lt =
    let parts = split_met (byte_tests kind n) (tests_of kind ns) bytes (ap (λ (ts : List (ℕ → Bool)). first_unfit ts bytes) (sym (flat_map-cons (byte_tests kind) n ns)) ∙ e) in
    go k lt parts.0 (each_met kind ns (drop n bytes) (ap (λ (m : ℕ). first_unfit (tests_of kind ns) (drop m bytes)) (sym (length-byte_tests kind n)) ∙ parts.1))
  where
    go : (k : ℕ) → k < suc (length ns) → first_unfit (byte_tests kind n) bytes ≡ None
        → ((j : ℕ) → j < length ns → first_unfit (byte_tests kind (slice_index ns j)) (drop (sum (take j ns)) (drop n bytes)) ≡ None)
        → first_unfit (byte_tests kind (slice_index (n ∷ ns) k)) (drop (sum (take k (n ∷ ns))) bytes) ≡ None
    go zero lt head later = head
    go (suc j) lt head later =
        ap (first_unfit (byte_tests kind (slice_index ns j))) (sym (drop-drop (sum (take j ns)) n bytes ∙ ap (λ (m : ℕ). drop m bytes) (sym (sum-cons n (take j ns))))) ∙ later j (omega (arith, lt))

each_joins : (kind : NameKind) (ns : List ℕ) (bytes : List ℕ) → ((k : ℕ) → k < length ns → first_unfit (byte_tests kind (slice_index ns k)) (drop (sum (take k ns)) bytes) ≡ None) → first_unfit (tests_of kind ns) bytes ≡ None
each_joins kind [] bytes each = refl
each_joins kind (n ∷ ns) bytes each =
    let head : first_unfit (byte_tests kind n) bytes ≡ None = each 0 (omega arith) in
    let later : (j : ℕ) → j < length ns → first_unfit (byte_tests kind (slice_index ns j)) (drop (sum (take j ns)) (drop n bytes)) ≡ None = λ j lt.
    ap (first_unfit (byte_tests kind (slice_index ns j))) (drop-drop (sum (take j ns)) n bytes ∙ ap (λ (m : ℕ). drop m bytes) (sym (sum-cons n (take j ns)))) ∙ each (suc j) (omega (arith, lt)) in
    let rest = each_joins kind ns (drop n bytes) later in
    ap (λ (ts : List (ℕ → Bool)). first_unfit ts bytes) (flat_map-cons (byte_tests kind) n ns)
    ∙ join_met (byte_tests kind n) (tests_of kind ns) bytes head (ap (λ (m : ℕ). first_unfit (tests_of kind ns) (drop m bytes)) (length-byte_tests kind n) ∙ rest)

-- A name ends within the sum of all lengths.
up_to : (ns : List ℕ) (k : ℕ) → k < length ns → sum (take k ns) + slice_index ns k ≤ sum ns
up_to [] k lt = absurd (omega (arith, lt))
up_to (n ∷ ns) zero lt = omega (arith, sum-cons n ns)
up_to (n ∷ ns) (suc k) lt = omega (arith, up_to ns k (omega (arith, lt)), sum-cons n ns, sum-cons n (take k ns))

-- ---- the names of an image

not_empty : (name : List ℕ) → 1 ≤ length name → IsIdentifierOrEmpty name → IsIdentifier name
not_empty [] some is = absurd (omega (arith, some))
not_empty (c ∷ cs) some is = is

or_empty : (name : List ℕ) → IsIdentifier name → IsIdentifierOrEmpty name
or_empty [] is = tt
or_empty (c ∷ cs) is = is

module _ (f : Form) where
  tests_are : name_tests (sections_of f) ≡ tests_of Identifier (function_name_lengths f) ++ (tests_of Identifier (variable_name_lengths f) ++ tests_of Letters (pass_name_lengths f))
  tests_are =
      let a = tests_by_lengths Identifier (function_numbers f.version.level) (λ g. g.name_length) (λ x. refl) f.functions in
      let b = tests_by_lengths Identifier variable_numbers (λ v. v.name_length) (λ x. refl) f.variables in
      let c = tests_by_lengths Letters change_numbers (λ c. c.pass_length) (λ x. refl) f.changes in
      (λ i. a i ++ (b i ++ c i))

  pub names_sound : FunctionRules f → first_misfit (name_tests (sections_of f)) f.names ≡ None → NameRules f
  names_sound rules e =
      let a = function_name_lengths f in
      let b = variable_name_lengths f in
      let c = pass_name_lengths f in
      let ta = tests_of Identifier a in
      let tb = tests_of Identifier b in
      let tc = tests_of Letters c in
      let all = none_sound (ta ++ (tb ++ tc)) f.names (ap (λ (ts : List (ℕ → Bool)). first_misfit ts f.names) (sym tests_are) ∙ e) in
      let first = split_met ta (tb ++ tc) f.names all.0 in
      let behind : first_unfit (tb ++ tc) (drop (sum a) f.names) ≡ None = ap (λ (m : ℕ). first_unfit (tb ++ tc) (drop m f.names)) (sym (length-tests_of Identifier a)) ∙ first.1 in
      let second = split_met tb tc (drop (sum a) f.names) behind in
      let third : first_unfit tc (drop (sum a + sum b) f.names) ≡ None =
      ap (first_unfit tc) (sym (drop-drop (sum b) (sum a) f.names)) ∙ ap (λ (m : ℕ). first_unfit tc (drop m (drop (sum a) f.names))) (sym (length-tests_of Identifier b)) ∙ second.1 in
      record {
        whole = omega (arith, all.1, length-append ta (tb ++ tc), length-append tb tc, length-tests_of Identifier a, length-tests_of Identifier b, length-tests_of Letters c);
        functions = λ k lt.
            let met = each_met Identifier a f.names first.0 k (omega (arith, lt, length-map f.functions (λ (g : Function). g.name_length))) in
            let n = slice_index a k in
            let bytes = drop (sum (take k a)) f.names in
            let long : n ≤ length bytes = omega (arith, unfit_long (byte_tests Identifier n) bytes met, length-byte_tests Identifier n) in
            let some : 1 ≤ n = named k lt in
            not_empty (take n bytes) (omega (arith, length-take-le n bytes long, some)) (identifier_sound n bytes met);
        variables = λ k lt. identifier_sound (slice_index b k) (drop (sum (take k b)) (drop (sum a) f.names)) (each_met Identifier b (drop (sum a) f.names) second.0 k (omega (arith, lt, length-map f.variables (λ (v : Variable). v.name_length))));
        passes = λ k lt. all_sound is_lower_letter (slice_index c k) (drop (sum (take k c)) (drop (sum a + sum b) f.names)) (each_met Letters c (drop (sum a + sum b) f.names) third k (omega (arith, lt, length-map f.changes (λ (c : Change). c.pass_length))));
      }
    where
      named : (k : ℕ) → k < length f.functions → 1 ≤ slice_index (function_name_lengths f) k
      named k lt = at_each f.functions (λ k. 1 ≤ slice_index (function_name_lengths f) k) (λ i g at.
          let is = (each_at (IsFunction f) f.functions i g rules.each at).named in
          let its : slice_index (function_name_lengths f) i ≡ g.name_length = get_or_from_slice_get (function_name_lengths f) i g.name_length 0 (slice_get-map (λ (g : Function). g.name_length) f.functions i ∙ ap (option_map (λ (g : Function). g.name_length)) at) in
          omega (arith, is, its)) k lt

  pub names_complete : NameRules f → first_misfit (name_tests (sections_of f)) f.names ≡ None
  names_complete rules =
      let a = function_name_lengths f in
      let b = variable_name_lengths f in
      let c = pass_name_lengths f in
      let ta = tests_of Identifier a in
      let tb = tests_of Identifier b in
      let tc = tests_of Letters c in
      let whole = rules.whole in
      let first : first_unfit ta f.names ≡ None = each_joins Identifier a f.names (λ k lt.
      let there : k < length f.functions = omega (arith, lt, length-map f.functions (λ (g : Function). g.name_length)) in
      let bytes = drop (sum (take k a)) f.names in
      let long : slice_index a k ≤ length bytes = omega (arith, up_to a k lt, length-drop (sum (take k a)) f.names, whole) in
      identifier_complete (slice_index a k) bytes long (or_empty (take (slice_index a k) bytes) (rules.functions k there))) in
      let rest = drop (sum a) f.names in
      let left : length rest ≡ sum b + sum c = omega (arith, length-drop (sum a) f.names, whole) in
      let second : first_unfit tb rest ≡ None = each_joins Identifier b rest (λ k lt.
      let there : k < length f.variables = omega (arith, lt, length-map f.variables (λ (v : Variable). v.name_length)) in
      let bytes = drop (sum (take k b)) rest in
      let long : slice_index b k ≤ length bytes = omega (arith, up_to b k lt, length-drop (sum (take k b)) rest, left) in
      identifier_complete (slice_index b k) bytes long (rules.variables k there)) in
      let last = drop (sum a + sum b) f.names in
      let left_last : length last ≡ sum c = omega (arith, length-drop (sum a + sum b) f.names, whole) in
      let third : first_unfit tc last ≡ None = each_joins Letters c last (λ k lt.
      let there : k < length f.changes = omega (arith, lt, length-map f.changes (λ (c : Change). c.pass_length)) in
      let bytes = drop (sum (take k c)) last in
      let long : slice_index c k ≤ length bytes = omega (arith, up_to c k lt, length-drop (sum (take k c)) last, left_last) in
      all_complete is_lower_letter (slice_index c k) bytes long (rules.passes k there)) in
      let behind : first_unfit tc (drop (length tb) rest) ≡ None =
      ap (λ (m : ℕ). first_unfit tc (drop m rest)) (length-tests_of Identifier b) ∙ ap (first_unfit tc) (drop-drop (sum b) (sum a) f.names) ∙ third in
      let both : first_unfit (tb ++ tc) (drop (length ta) f.names) ≡ None =
      ap (λ (m : ℕ). first_unfit (tb ++ tc) (drop m f.names)) (length-tests_of Identifier a) ∙ join_met tb tc rest second behind in
      let size : length (ta ++ (tb ++ tc)) ≡ length f.names = omega (arith, whole, length-append ta (tb ++ tc), length-append tb tc, length-tests_of Identifier a, length-tests_of Identifier b, length-tests_of Letters c) in
      ap (λ (ts : List (ℕ → Bool)). first_misfit ts f.names) tests_are ∙ misfit_none (ta ++ (tb ++ tc)) f.names (join_met ta (tb ++ tc) f.names first both) size
