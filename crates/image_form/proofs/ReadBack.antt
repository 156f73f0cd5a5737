-- Numbers and records that were spelled are read back.
use Rattle.std.proofs.Common.{◌≡◌, ℕ, ◌+◌, ◌*◌, ◌^◌, ◌<◌, List, [], ◌∷◌, ◌++◌, length, take, drop, refl, sym, ap, ◌∙◌, append_assoc, arith}
use Rattle.std.specs.Int.{w32, from_le_bytes, to_le_bytes}
use Rattle.std.specs.Prelude.{map}
use Rattle.std.proofs.lemmas.List.{take_at, drop_at, length-append}
use Rattle.std.proofs.lemmas.List.Concat.{flat_map-cons}
use Rattle.std.proofs.lemmas.Nat.{from_le_bytes-to_le_bytes_4}
use Rattle.image_form.specs.Decoding.{word_numbers}
use Rattle.image_form_sections.specs.Sections.{number_at, numbers_at, number_rows_at}
use Rattle.image_form.specs.Rules.{AllFit, RecordsFit}
use Rattle.image_form.specs.Spelling.{section, spelled}

number_back : (front rest : List ℕ) (n at : ℕ) → length front ≡ at → n < 2 ^ 32 → number_at (front ++ (to_le_bytes w32 n ++ rest)) at ≡ n
unfolding number_at
number_back front rest n at len fit =
    ap (λ (b : List ℕ). from_le_bytes w32 (take 4 b)) (drop_at front (to_le_bytes w32 n ++ rest) at len)
    ∙ ap (from_le_bytes w32) (take_at (to_le_bytes w32 n) rest 4 refl)
    ∙ from_le_bytes-to_le_bytes_4 n fit

-- Numbers that stand behind so many bytes.
pub numbers_back : (ns rest front : List ℕ) (at : ℕ) → length front ≡ at → AllFit ns → numbers_at (length ns) at (front ++ (spelled ns ++ rest)) ≡ ns
numbers_back [] rest front at len fit = refl
numbers_back (n ∷ ns) rest front at len fit =
    let four = to_le_bytes w32 n in
    let behind = spelled ns ++ rest in
    let regrouped : front ++ (spelled (n ∷ ns) ++ rest) ≡ front ++ (four ++ behind) = ap (λ (x : List ℕ). front ++ (x ++ rest)) (flat_map-cons (to_le_bytes w32) n ns) ∙ ap (λ (x : List ℕ). front ++ x) (append_assoc four (spelled ns) rest) in
    let head : number_at (front ++ (spelled (n ∷ ns) ++ rest)) at ≡ n = ap (λ (b : List ℕ). number_at b at) regrouped ∙ number_back front behind n at len fit.0 in
    let moved : front ++ (spelled (n ∷ ns) ++ rest) ≡ (front ++ four) ++ behind = regrouped ∙ sym (append_assoc front four behind) in
    let len_four : length four ≡ 4 = refl in
    let tail : numbers_at (length ns) (at + 4) (front ++ (spelled (n ∷ ns) ++ rest)) ≡ ns = ap (numbers_at (length ns) (at + 4)) moved ∙ numbers_back ns rest (front ++ four) (at + 4) (length-append front four ∙ omega (arith, len_four, len)) fit.1 in
    (λ i. head i ∷ tail i)

pub length-spelled : (ns : List ℕ) → length (spelled ns) ≡ 4 * length ns
length-spelled [] = refl
length-spelled (n ∷ ns) =
    let four : length (to_le_bytes w32 n) ≡ 4 = refl in
    ap length (flat_map-cons (to_le_bytes w32) n ns) ∙ length-append (to_le_bytes w32 n) (spelled ns) ∙ omega (arith, four, length-spelled ns)

pub after_numbers : (ns rest : List ℕ) → drop (4 * length ns) (spelled ns ++ rest) ≡ rest
after_numbers ns rest = drop_at (spelled ns) rest (4 * length ns) (length-spelled ns)

-- Records of `width` numbers each.
module _ {A : Type 0} (width : ℕ) (numbers : A → List ℕ) (sized : (x : A) → length (numbers x) ≡ width) where
  section-cons : (x : A) (xs : List A) (rest : List ℕ) → section numbers (x ∷ xs) ++ rest ≡ spelled (numbers x) ++ (section numbers xs ++ rest)
  section-cons x xs rest = ap (λ (b : List ℕ). b ++ rest) (flat_map-cons (λ (r : A). spelled (numbers r)) x xs) ∙ append_assoc (spelled (numbers x)) (section numbers xs) rest

  length-record : (x : A) → length (spelled (numbers x)) ≡ 4 * width
  length-record x = length-spelled (numbers x) ∙ ap (λ (n : ℕ). 4 * n) (sized x)

  record_back : (x : A) (rest : List ℕ) → AllFit (numbers x) → numbers_at width 0 (spelled (numbers x) ++ rest) ≡ numbers x
  record_back x rest fit = ap (λ (n : ℕ). numbers_at n 0 (spelled (numbers x) ++ rest)) (sym (sized x)) ∙ numbers_back (numbers x) rest [] 0 refl fit

  -- Rows that were spelled are read back.
  pub rows_back : (xs : List A) (rest : List ℕ) → RecordsFit numbers xs → number_rows_at width (length xs) (section numbers xs ++ rest) ≡ map numbers xs
  rows_back [] rest fit = refl
  rows_back (x ∷ xs) rest fit =
      let behind = section numbers xs ++ rest in
      let head : numbers_at width 0 (section numbers (x ∷ xs) ++ rest) ≡ numbers x = ap (numbers_at width 0) (section-cons x xs rest) ∙ record_back x behind fit.0 in
      let after : drop (4 * width) (section numbers (x ∷ xs) ++ rest) ≡ behind = ap (drop (4 * width)) (section-cons x xs rest) ∙ drop_at (spelled (numbers x)) behind (4 * width) (length-record x) in
      let tail : number_rows_at width (length xs) (drop (4 * width) (section numbers (x ∷ xs) ++ rest)) ≡ map numbers xs = ap (number_rows_at width (length xs)) after ∙ rows_back xs rest fit.1 in
      (λ i. head i ∷ tail i)

  pub length-section : (xs : List A) → length (section numbers xs) ≡ 4 * width * length xs
  length-section [] = omega arith
  length-section (x ∷ xs) = ap length (flat_map-cons (λ (r : A). spelled (numbers r)) x xs) ∙ length-append (spelled (numbers x)) (section numbers xs) ∙ omega (arith, length-record x, length-section xs)

  pub after_section : (xs : List A) (rest : List ℕ) → drop (4 * width * length xs) (section numbers xs ++ rest) ≡ rest
  after_section xs rest = drop_at (section numbers xs) rest (4 * width * length xs) (length-section xs)

-- Words are spelled like records of one number.
pub section-words : (ns : List ℕ) → section word_numbers ns ≡ spelled ns
section-words [] = refl
section-words (n ∷ ns) =
    flat_map-cons (λ (r : ℕ). spelled (word_numbers r)) n ns ∙ (λ i. one i ++ section-words ns i) ∙ sym (flat_map-cons (to_le_bytes w32) n ns)
  where
    one : spelled (word_numbers n) ≡ to_le_bytes w32 n
    one = refl

pub words_fit : (ns : List ℕ) → AllFit ns → RecordsFit word_numbers ns
words_fit [] fit = tt
words_fit (n ∷ ns) fit = ((fit.0, tt), words_fit ns fit.1)

pub words_back : (ns : List ℕ) (rest : List ℕ) → AllFit ns → number_rows_at 1 (length ns) (spelled ns ++ rest) ≡ map word_numbers ns
words_back ns rest fit = ap (λ (b : List ℕ). number_rows_at 1 (length ns) (b ++ rest)) (sym (section-words ns)) ∙ rows_back 1 word_numbers (λ x. refl) ns rest (words_fit ns fit)
