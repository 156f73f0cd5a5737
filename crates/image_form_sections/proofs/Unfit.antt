-- The first byte that does not fit.
use Rattle.std.proofs.Common.{◌≡◌, ℕ, zero, suc, ◌+◌, ◌<◌, ◌≤◌, Bool, true, false, List, [], ◌∷◌, ◌++◌, length, drop, Option, Some, None, refl, sym, ap, ◌∙◌, arith, ◌≢◌, inl, inr}
use Rattle.std.specs.Prelude.{replicate}
use Rattle.std.specs.Option.{option_map}
use Rattle.std.proofs.lemmas.Option.{none-some, same_Some}
use Rattle.std.proofs.lemmas.Bool.{cases_Bool}
use Rattle.std.proofs.Common.{get_or, take, drop-cons, add-one}
use Rattle.std.specs.Prelude.{slice_index}
use Rattle.std.proofs.Math.Seq.{take-suc}
use Rattle.std.proofs.lemmas.List.{drop_all, append-nil, length-append, length-drop, take-append-drop}
use Rattle.std.proofs.lemmas.Grind.{flat_map-append}
use Rattle.image_form_sections.specs.declared.name_rules.NameKind.{NameKind}
use Rattle.image_form_sections.specs.declared.name_rules.NameKind.TheVariants.{Identifier, Letters}
use Rattle.image_form_sections.specs.Letters.{is_lower_letter, is_identifier_byte}
use Rattle.image_form_sections.specs.TestsOfNames.{identifier_tests, byte_tests, byte_test, table_tests, first_unfit, first_misfit}

-- What a mapped option was.
map_none : {A B : Type 0} (f : A → B) (o : Option A) → option_map f o ≡ None → o ≡ None
map_none f None e = refl
map_none f (Some x) e = absurd (none-some (f x) (sym e))

map_some : (o : Option ℕ) (k : ℕ) → option_map suc o ≡ Some k → (j : ℕ) × (o ≡ Some j) × (suc j ≡ k)
map_some None k e = absurd (none-some k e)
map_some (Some j) k e = (j, refl, same_Some (suc j) k e)

map_zero : (o : Option ℕ) → o ≡ option_map (λ k. 0 + k) o
map_zero None = refl
map_zero (Some k) = ap Some (omega arith)

map_suc : (n : ℕ) (o : Option ℕ) → option_map suc (option_map (λ k. n + k) o) ≡ option_map (λ k. suc n + k) o
map_suc n None = refl
map_suc n (Some k) = ap Some (omega arith)

-- A first byte that fits, or does not.
module _ (t : ℕ → Bool) (ts : List (ℕ → Bool)) (b : ℕ) (bytes : List ℕ) where
  fits : t b ≡ true → first_unfit (t ∷ ts) (b ∷ bytes) ≡ option_map suc (first_unfit ts bytes)
  fits v = rw v refl

  unfit : t b ≡ false → first_unfit (t ∷ ts) (b ∷ bytes) ≡ Some 0
  unfit v = rw v refl

  met : first_unfit (t ∷ ts) (b ∷ bytes) ≡ None → (t b ≡ true) × (first_unfit ts bytes ≡ None)
  met e = elim (cases_Bool (t b)) [
    | inl v ↦ (v, map_none suc (first_unfit ts bytes) (sym (fits v) ∙ e))
    | inr v ↦ absurd (none-some 0 (sym e ∙ unfit v))
  ]

  misfits : t b ≡ true → first_misfit (t ∷ ts) (b ∷ bytes) ≡ option_map suc (first_misfit ts bytes)
  misfits v = rw v refl

  misfit : t b ≡ false → first_misfit (t ∷ ts) (b ∷ bytes) ≡ Some 0
  misfit v = rw v refl

-- Where tests are met, those behind them decide.
pub first_unfit-append : (ts us : List (ℕ → Bool)) (bytes : List ℕ) → first_unfit ts bytes ≡ None → first_unfit (ts ++ us) bytes ≡ option_map (λ k. length ts + k) (first_unfit us (drop (length ts) bytes))
first_unfit-append [] us bytes e = map_zero (first_unfit us bytes)
first_unfit-append (t ∷ ts) us [] e = absurd (none-some 0 (sym e))
first_unfit-append (t ∷ ts) us (b ∷ bytes) e =
    let m = met t ts b bytes e in
    fits t (ts ++ us) b bytes m.0 ∙ ap (option_map suc) (first_unfit-append ts us bytes m.1) ∙ map_suc (length ts) (first_unfit us (drop (length ts) bytes))

-- A byte that does not fit decides.
pub first_unfit-front : (ts us : List (ℕ → Bool)) (bytes : List ℕ) (k : ℕ) → first_unfit ts bytes ≡ Some k → first_unfit (ts ++ us) bytes ≡ Some k
first_unfit-front [] us bytes k e = absurd (none-some k e)
first_unfit-front (t ∷ ts) us [] k e = e
first_unfit-front (t ∷ ts) us (b ∷ bytes) k e = elim (cases_Bool (t b)) [
  | inl v ↦
      let m = map_some (first_unfit ts bytes) k (sym (fits t ts b bytes v) ∙ e) in
      fits t (ts ++ us) b bytes v ∙ ap (option_map suc) (first_unfit-front ts us bytes m.0 m.1) ∙ ap Some m.2
  | inr v ↦ unfit t (ts ++ us) b bytes v ∙ sym (unfit t ts b bytes v) ∙ e
]

-- Tests that are met have a byte each.
pub unfit_long : (ts : List (ℕ → Bool)) (bytes : List ℕ) → first_unfit ts bytes ≡ None → length ts ≤ length bytes
unfit_long [] bytes e = omega arith
unfit_long (t ∷ ts) [] e = absurd (none-some 0 (sym e))
unfit_long (t ∷ ts) (b ∷ bytes) e = let later = unfit_long ts bytes (met t ts b bytes e).1 in omega (arith, later)

-- A byte that does not fit is the first misfit.
pub misfit_some : (ts : List (ℕ → Bool)) (bytes : List ℕ) (k : ℕ) → first_unfit ts bytes ≡ Some k → first_misfit ts bytes ≡ Some k
misfit_some [] bytes k e = absurd (none-some k e)
misfit_some (t ∷ ts) [] k e = e
misfit_some (t ∷ ts) (b ∷ bytes) k e = elim (cases_Bool (t b)) [
  | inl v ↦
      let m = map_some (first_unfit ts bytes) k (sym (fits t ts b bytes v) ∙ e) in
      misfits t ts b bytes v ∙ ap (option_map suc) (misfit_some ts bytes m.0 m.1) ∙ ap Some m.2
  | inr v ↦ misfit t ts b bytes v ∙ sym (unfit t ts b bytes v) ∙ e
]

-- Where all tests are met, only what is left over is a misfit.
pub misfit_none : (ts : List (ℕ → Bool)) (bytes : List ℕ) → first_unfit ts bytes ≡ None → length ts ≡ length bytes → first_misfit ts bytes ≡ None
misfit_none [] [] e same = refl
misfit_none [] (b ∷ bytes) e same = absurd (omega (arith, same))
misfit_none (t ∷ ts) [] e same = absurd (none-some 0 (sym e))
misfit_none (t ∷ ts) (b ∷ bytes) e same = let m = met t ts b bytes e in misfits t ts b bytes m.0 ∙ ap (option_map suc) (misfit_none ts bytes m.1 (omega (arith, same)))

pub misfit_over : (ts : List (ℕ → Bool)) (bytes : List ℕ) → first_unfit ts bytes ≡ None → length ts ≢ length bytes → first_misfit ts bytes ≡ Some (length ts)
misfit_over [] [] e other = absurd (other refl)
misfit_over [] (b ∷ bytes) e other = refl
misfit_over (t ∷ ts) [] e other = absurd (none-some 0 (sym e))
misfit_over (t ∷ ts) (b ∷ bytes) e other = let m = met t ts b bytes e in misfits t ts b bytes m.0 ∙ ap (option_map suc) (misfit_over ts bytes m.1 (λ same. other (ap suc same)))

replicate-drop : {A : Type 0} (n i : ℕ) (x : A) → i < n → drop i (replicate n x) ≡ x ∷ drop (i + 1) (replicate n x)
replicate-drop zero i x lt = absurd (omega (arith, lt))
replicate-drop (suc n) zero x lt = refl
replicate-drop (suc n) (suc i) x lt = let more : suc (i + 1) ≡ suc i + 1 = omega arith in replicate-drop n i x (omega (arith, lt)) ∙ ap (λ (m : ℕ). x ∷ drop m (replicate (suc n) x)) more

-- The tests of a name from an index on.
pub byte_tests-drop : (kind : NameKind) (n i : ℕ) → i < n → drop i (byte_tests kind n) ≡ byte_test kind i ∷ drop (i + 1) (byte_tests kind n)
byte_tests-drop Letters n i lt = replicate-drop n i is_lower_letter lt
byte_tests-drop Identifier zero i lt = absurd (omega (arith, lt))
byte_tests-drop Identifier (suc n) zero lt = refl
byte_tests-drop Identifier (suc n) (suc i) lt = let more : suc (i + 1) ≡ suc i + 1 = omega arith in replicate-drop n i is_identifier_byte (omega (arith, lt)) ∙ ap (λ (m : ℕ). is_identifier_byte ∷ drop m (identifier_tests (suc n))) more

length-replicate : {A : Type 0} (n : ℕ) (x : A) → length (replicate n x) ≡ n
length-replicate zero x = refl
length-replicate (suc n) x = ap suc (length-replicate n x)

-- A name has a test for each of its bytes.
pub length-byte_tests : (kind : NameKind) (n : ℕ) → length (byte_tests kind n) ≡ n
length-byte_tests Letters n = length-replicate n is_lower_letter
length-byte_tests Identifier zero = refl
length-byte_tests Identifier (suc n) = ap suc (length-replicate n is_identifier_byte)

map_more : (n : ℕ) (o : Option ℕ) → option_map (λ k. n + k) (option_map suc o) ≡ option_map (λ k. n + 1 + k) o
map_more n None = refl
map_more n (Some k) = ap Some (omega arith)

module _ (kind : NameKind) (count i : ℕ) (bytes : List ℕ) (d : ℕ) (in_name : i < count) where
  from_index : i < length bytes → first_unfit (drop i (byte_tests kind count)) (drop i bytes) ≡ first_unfit (byte_test kind i ∷ drop (i + 1) (byte_tests kind count)) (get_or bytes i d ∷ drop (i + 1) bytes)
  from_index there =
      let next : drop i bytes ≡ get_or bytes i d ∷ drop (i + 1) bytes = rw add-one (drop-cons bytes i d there) in
      let tests = byte_tests-drop kind count i in_name in
      (λ j. first_unfit (tests j) (next j))

  -- From an index on, where a byte fits: it is passed.
  pub from_fitting : i < length bytes → byte_test kind i (get_or bytes i d) ≡ true
      → option_map (λ k. i + k) (first_unfit (drop i (byte_tests kind count)) (drop i bytes)) ≡ option_map (λ k. i + 1 + k) (first_unfit (drop (i + 1) (byte_tests kind count)) (drop (i + 1) bytes))
  from_fitting there v =
      let rest = drop (i + 1) (byte_tests kind count) in
      ap (option_map (λ k. i + k)) (from_index there ∙ fits (byte_test kind i) rest (get_or bytes i d) (drop (i + 1) bytes) v) ∙ map_more i (first_unfit rest (drop (i + 1) bytes))

  -- Where it does not, it is the first.
  pub from_unfit : i < length bytes → byte_test kind i (get_or bytes i d) ≡ false → option_map (λ k. i + k) (first_unfit (drop i (byte_tests kind count)) (drop i bytes)) ≡ Some i
  from_unfit there v =
      let none : i + 0 ≡ i = omega arith in
      ap (option_map (λ k. i + k)) (from_index there ∙ unfit (byte_test kind i) (drop (i + 1) (byte_tests kind count)) (get_or bytes i d) (drop (i + 1) bytes) v) ∙ ap Some none

  -- Where there is none, it is missing.
  pub from_missing : length bytes ≤ i → option_map (λ k. i + k) (first_unfit (drop i (byte_tests kind count)) (drop i bytes)) ≡ Some i
  from_missing past =
      let none : i + 0 ≡ i = omega arith in
      let tests = byte_tests-drop kind count i in_name in
      let empty = drop_all i bytes past in
      ap (option_map (λ k. i + k)) (λ j. first_unfit (tests j) (empty j)) ∙ ap Some none

-- One row more.
pub table_more : (kind : NameKind) (rows : List (List ℕ)) (i : ℕ) → i < length rows → table_tests kind (take (i + 1) rows) ≡ table_tests kind (take i rows) ++ byte_tests kind (slice_index (get_or rows i []) 0)
table_more kind rows i lt =
    let row = get_or rows i [] in
    let longer : take (i + 1) rows ≡ take i rows ++ row ∷ [] = rw add-one (take-suc rows i [] lt) in
    ap (table_tests kind) longer ∙ flat_map-append (λ r. byte_tests kind (slice_index r 0)) (take i rows) (row ∷ []) ∙ ap (λ (ts : List (ℕ → Bool)). table_tests kind (take i rows) ++ ts) (append-nil (byte_tests kind (slice_index row 0)))

module _ (kind : NameKind) (rows : List (List ℕ)) (i : ℕ) (bytes : List ℕ) (lt : i < length rows) (met_so_far : first_unfit (table_tests kind (take i rows)) bytes ≡ None) where
  -- A row's name that does not fit is the first of the table.
  pub row_unfit : (k : ℕ) → first_unfit (byte_tests kind (slice_index (get_or rows i []) 0)) (drop (length (table_tests kind (take i rows))) bytes) ≡ Some k
      → first_unfit (table_tests kind rows) bytes ≡ Some (length (table_tests kind (take i rows)) + k)
  row_unfit k e =
      let front = table_tests kind (take i rows) in
      let own = byte_tests kind (slice_index (get_or rows i []) 0) in
      let behind = table_tests kind (drop (i + 1) rows) in
      let parts : table_tests kind rows ≡ (front ++ own) ++ behind =
      ap (table_tests kind) (sym (take-append-drop (i + 1) rows))
      ∙ flat_map-append (λ r. byte_tests kind (slice_index r 0)) (take (i + 1) rows) (drop (i + 1) rows)
      ∙ ap (λ (ts : List (ℕ → Bool)). ts ++ behind) (table_more kind rows i lt) in
      let here : first_unfit (front ++ own) bytes ≡ Some (length front + k) = first_unfit-append front own bytes met_so_far ∙ ap (option_map (λ j. length front + j)) e in
      ap (λ (ts : List (ℕ → Bool)). first_unfit ts bytes) parts ∙ first_unfit-front (front ++ own) behind bytes (length front + k) here

  -- One that fits is passed.
  pub row_fits : first_unfit (byte_tests kind (slice_index (get_or rows i []) 0)) (drop (length (table_tests kind (take i rows))) bytes) ≡ None → first_unfit (table_tests kind (take (i + 1) rows)) bytes ≡ None
  row_fits e =
      let front = table_tests kind (take i rows) in
      ap (λ (ts : List (ℕ → Bool)). first_unfit ts bytes) (table_more kind rows i lt)
      ∙ first_unfit-append front (byte_tests kind (slice_index (get_or rows i []) 0)) bytes met_so_far
      ∙ ap (option_map (λ j. length front + j)) e

pub length-table_more : (kind : NameKind) (rows : List (List ℕ)) (i : ℕ) → i < length rows → length (table_tests kind (take (i + 1) rows)) ≡ length (table_tests kind (take i rows)) + slice_index (get_or rows i []) 0
length-table_more kind rows i lt =
    let n = slice_index (get_or rows i []) 0 in
    ap length (table_more kind rows i lt) ∙ length-append (table_tests kind (take i rows)) (byte_tests kind n) ∙ ap (λ (m : ℕ). length (table_tests kind (take i rows)) + m) (length-byte_tests kind n)

-- Three tables of names, one after the other.
module _ (a b c : List (ℕ → Bool)) (bytes : List ℕ) where
  pub misfit_first : (k : ℕ) → first_unfit a bytes ≡ Some k → first_misfit (a ++ (b ++ c)) bytes ≡ Some k
  misfit_first k e = misfit_some (a ++ (b ++ c)) bytes k (first_unfit-front a (b ++ c) bytes k e)

  behind_first : first_unfit a bytes ≡ None → (o : Option ℕ) → first_unfit (b ++ c) (drop (length a) bytes) ≡ o → first_unfit (a ++ (b ++ c)) bytes ≡ option_map (λ k. length a + k) o
  behind_first fit_a o e = first_unfit-append a (b ++ c) bytes fit_a ∙ ap (option_map (λ k. length a + k)) e

  pub misfit_second : (k : ℕ) → first_unfit a bytes ≡ None → first_unfit b (drop (length a) bytes) ≡ Some k → first_misfit (a ++ (b ++ c)) bytes ≡ Some (length a + k)
  misfit_second k fit_a e = misfit_some (a ++ (b ++ c)) bytes (length a + k) (behind_first fit_a (Some k) (first_unfit-front b c (drop (length a) bytes) k e))

  pub misfit_third : (k : ℕ) → first_unfit a bytes ≡ None → first_unfit b (drop (length a) bytes) ≡ None → first_unfit c (drop (length b) (drop (length a) bytes)) ≡ Some k
      → first_misfit (a ++ (b ++ c)) bytes ≡ Some (length a + length b + k)
  misfit_third k fit_a fit_b e =
      let sums : length a + (length b + k) ≡ length a + length b + k = omega arith in
      misfit_some (a ++ (b ++ c)) bytes (length a + (length b + k)) (behind_first fit_a (Some (length b + k)) (first_unfit-append b c (drop (length a) bytes) fit_b ∙ ap (option_map (λ j. length b + j)) e)) ∙ ap Some sums

  module _ (fit_a : first_unfit a bytes ≡ None) (fit_b : first_unfit b (drop (length a) bytes) ≡ None) (fit_c : first_unfit c (drop (length b) (drop (length a) bytes)) ≡ None) where
    all_fit : first_unfit (a ++ (b ++ c)) bytes ≡ None
    all_fit = behind_first fit_a None (first_unfit-append b c (drop (length a) bytes) fit_b ∙ ap (option_map (λ j. length b + j)) fit_c)

    all_long : length (a ++ (b ++ c)) ≡ length a + length b + length c
    all_long = omega (arith, length-append a (b ++ c), length-append b c)

    left : length (drop (length b) (drop (length a) bytes)) + (length a + length b) ≡ length bytes
    left =
        let long_a = unfit_long a bytes fit_a in
        let long_b = unfit_long b (drop (length a) bytes) fit_b in
        omega (arith, long_a, long_b, length-drop (length a) bytes, length-drop (length b) (drop (length a) bytes))

    pub misfit_nowhere : length c ≡ length (drop (length b) (drop (length a) bytes)) → first_misfit (a ++ (b ++ c)) bytes ≡ None
    misfit_nowhere e = misfit_none (a ++ (b ++ c)) bytes all_fit (omega (arith, all_long, left, e))

    pub misfit_behind : length c ≢ length (drop (length b) (drop (length a) bytes)) → first_misfit (a ++ (b ++ c)) bytes ≡ Some (length a + length b + length c)
    misfit_behind other = misfit_over (a ++ (b ++ c)) bytes all_fit (λ e. other (omega (arith, all_long, left, e))) ∙ ap Some all_long
