-- Rows of bits, bit by bit.
use Rattle.std.proofs.Common.{◌≡◌, ℕ, zero, suc, ◌+◌, ◌*◌, ◌/◌, ◌%◌, ◌<◌, ◌≤◌, ◌==◌, ◌||◌, inl, inr, if◌then◌else◌, Bool, true, false, List, [], ◌∷◌, length, get_or, refl, sym, ap, ◌∙◌, arith, zero-add}
use Rattle.std.specs.Prelude.{slice_set}
use Rattle.std.specs.Int.{bit_at}
use Rattle.std.proofs.lemmas.Bool.{cases_lt, eq-eqb, ne_eqb}
use Rattle.std.proofs.lemmas.Nat.{div-mul-add, mod-mul-add}
use Rattle.std.proofs.lemmas.List.FromFn.{length-map-range_with_len, get_or-map-range_with_len}
use Rattle.std.proofs.lemmas.List.{get_or-set_same}
use Rattle.bit_rows.specs.Grid.{row_at, is_set, joined, met, met_bit, with_word}
use Rattle.graph_paths.specs.Table.{AreWide}

joined_bit : (f : Bool → Bool → Bool) → f false false ≡ false → (xs ys : List Bool) (b : ℕ) → length xs ≡ length ys → get_or (joined f xs ys) b false ≡ f (get_or xs b false) (get_or ys b false)
joined_bit f e [] [] b q = sym e
joined_bit f e [] (y ∷ ys) b q = absurd (omega (arith, q))
joined_bit f e (x ∷ xs) [] b q = absurd (omega (arith, q))
joined_bit f e (x ∷ xs) (y ∷ ys) zero q = refl
joined_bit f e (x ∷ xs) (y ∷ ys) (suc b) q = joined_bit f e xs ys b (omega (arith, q))

nothing : (unite : Bool) → met_bit unite false false ≡ false
nothing true = refl
nothing false = refl

-- a row that met another
pub met_there : (width : ℕ) (rows : List (List Bool)) (from to : ℕ) (unite : Bool) (bit : ℕ) → from < length rows → to < length rows → AreWide width rows
    → is_set (slice_set rows to (met unite (row_at rows from) (row_at rows to))) to bit ≡ met_bit unite (is_set rows from bit) (is_set rows to bit)
met_there width rows from to unite bit f t wide =
    ap (λ r. get_or r bit false) (get_or-set_same rows to (met unite (row_at rows from) (row_at rows to)) [] t) ∙ joined_bit (met_bit unite) (nothing unite) (row_at rows from) (row_at rows to) bit (wide from f ∙ sym (wide to t))

-- a row that took another one
pub taken_there : (rows : List (List Bool)) (to : ℕ) (from : List Bool) (bit : ℕ) → to < length rows → length from ≡ length (row_at rows to)
    → is_set (slice_set rows to (met true from (row_at rows to))) to bit ≡ (get_or from bit false || is_set rows to bit)
taken_there rows to from bit lt e =
    ap (λ r. get_or r bit false) (get_or-set_same rows to (met true from (row_at rows to)) [] lt) ∙ joined_bit (met_bit true) refl from (row_at rows to) bit e

pub word_length : (row : List Bool) (index word : ℕ) → length (with_word row index word) ≡ length row
word_length row index word = length-map-range_with_len _ 0 (length row)

past : (bs : List Bool) (j : ℕ) → length bs ≤ j → get_or bs j false ≡ false
past [] j le = refl
past (b ∷ bs) zero le = absurd (omega (arith, le))
past (b ∷ bs) (suc j) le = past bs j (omega (arith, le))

-- a bit of a row of which one word is anew
module _ (row : List Bool) (index word bit : ℕ) where
  bit_there : bit < length row → get_or (with_word row index word) bit false ≡ (if bit / 64 == index then bit_at word (bit % 64) == 1 else get_or row bit false)
  bit_there lt = get_or-map-range_with_len (λ c. if c / 64 == index then bit_at word (c % 64) == 1 else get_or row c false) 0 (length row) bit bit false lt (zero-add bit)

  bit_other : (bit / 64 ≡ index → ⊥) → get_or (with_word row index word) bit false ≡ get_or row bit false
  bit_other ne = elim (cases_lt bit (length row)) [
    | inl lt ↦ bit_there lt ∙ ap (λ b. if b then bit_at word (bit % 64) == 1 else get_or row bit false) (ne_eqb _ _ ne)
    | inr ge ↦ past (with_word row index word) bit (omega (arith, ge, word_length row index word)) ∙ sym (past row bit ge)
  ]

pub word_there : (rows : List (List Bool)) (row index word k : ℕ) → row < length rows → 64 * index + 64 ≤ length (row_at rows row) → k < 64
    → is_set (slice_set rows row (with_word (row_at rows row) index word)) row (64 * index + k) ≡ (bit_at word k == 1)
word_there rows row index word k lt full less =
    let order : 64 * index + k ≡ index * 64 + k = omega arith in
    let q : (64 * index + k) / 64 ≡ index = ap (λ n. n / 64) order ∙ div-mul-add index 64 k less in
    let r : (64 * index + k) % 64 ≡ k = ap (λ n. n % 64) order ∙ mod-mul-add index 64 k less in
    ap (λ bs. get_or bs (64 * index + k) false) (get_or-set_same rows row (with_word (row_at rows row) index word) [] lt)
    ∙ bit_there (row_at rows row) index word (64 * index + k) (omega (arith, full, less))
    ∙ ap (λ b. if b then bit_at word ((64 * index + k) % 64) == 1 else get_or (row_at rows row) (64 * index + k) false) (eq-eqb _ _ q)
    ∙ ap (λ j. bit_at word j == 1) r

pub word_others : (rows : List (List Bool)) (row index word bit : ℕ) → row < length rows → (bit / 64 ≡ index → ⊥)
    → is_set (slice_set rows row (with_word (row_at rows row) index word)) row bit ≡ is_set rows row bit
word_others rows row index word bit lt ne =
    ap (λ bs. get_or bs bit false) (get_or-set_same rows row (with_word (row_at rows row) index word) [] lt) ∙ bit_other (row_at rows row) index word bit ne
