-- What a write of words does to the bits of rows.
use Rattle.std.proofs.Common.{◌≡◌, ℕ, zero, suc, ◌+◌, ◌*◌, ◌/◌, ◌%◌, ◌^◌, ◌<◌, ◌≤◌, ◌==◌, ◌||◌, ◌&&◌, ◌⊎◌, inl, inr, Bool, true, false, List, [], ◌∷◌, length, map, get_or, replicate, bit_and, bit_or, w64, refl, sym, ap, ◌∙◌, arith, zero-add}
use Rattle.std.proofs.Math.ListN.{set}
use Rattle.std.proofs.Math.Nat.{mul_comm}
use Rattle.std.specs.Int.{bit_at, bit_not}
use Rattle.std.specs.List.{range_with_len}
use Rattle.std.proofs.lemmas.Bool.{cases_eq, cases_lt}
use Rattle.std.proofs.lemmas.Nat.{div-add-mod', mod_below, div_below, same_from_place, mul-add-lt, row_fits}
use Rattle.std.proofs.lemmas.Nat.Bits.{bit_at-lt, bit_at-zero, bit_at_and, bit_at_or, bit_at_set_same, bit_at_set_other, bit_at_clear_same, bit_at_clear_other, shr_and_one}
use Rattle.std.proofs.lemmas.List.{same_lists, get_or-set_same, get_or-set_other, length-set, get_or-replicate, length-replicate, get_or_read}
use Rattle.std.proofs.lemmas.List.FromFn.{length-map-range_with_len, get_or-map-range_with_len}
use Rattle.bit_rows.specs.Grid.{row_at, with_bit, joined, met_bit}
use Rattle.bit_rows.specs.Words.{bit_in, row_in, rows_in, AreRows, met_word, passed_word}
use Rattle.base_laws.proofs.Numbers.{max_one, min_one}

-- lists that are made of a function of the index
pub at_index : {X : Type 0} (f : ℕ → X) (n i : ℕ) (d : X) → i < n → get_or (map f (range_with_len 0 n)) i d ≡ f i
at_index f n i d lt = get_or-map-range_with_len f 0 n i i d lt (zero-add i)

pub same_made : {X : Type 0} (f g : ℕ → X) (n : ℕ) → ((j : ℕ) → j < n → f j ≡ g j) → map f (range_with_len 0 n) ≡ map g (range_with_len 0 n)
same_made f g n same = same_lists _ _ (length-map-range_with_len f 0 n ∙ sym (length-map-range_with_len g 0 n)) (λ k d lt.
    let less : k < n = omega (arith, lt, length-map-range_with_len f 0 n) in
    at_index f n k d less ∙ same k less ∙ sym (at_index g n k d less))

pub made_set : {X : Type 0} (f g : ℕ → X) (n i : ℕ) (x : X) → g i ≡ x → ((j : ℕ) → j < n → (j ≡ i → ⊥) → g j ≡ f j) → map g (range_with_len 0 n) ≡ set (map f (range_with_len 0 n)) i x
made_set f g n i x is same = same_lists _ _ (length-map-range_with_len g 0 n ∙ sym (length-set (map f (range_with_len 0 n)) i x ∙ length-map-range_with_len f 0 n)) (λ k d lt.
    let less : k < n = omega (arith, lt, length-map-range_with_len g 0 n) in
    at_index g n k d less ∙ elim (cases_eq k i) [
      | inl e ↦ ap g e ∙ is ∙ sym (ap (λ j. get_or (set (map f (range_with_len 0 n)) i x) j d) e ∙ get_or-set_same (map f (range_with_len 0 n)) i x d (omega (arith, length-map-range_with_len f 0 n, e, less)))
      | inr ne ↦ same k less ne ∙ sym (get_or-set_other (map f (range_with_len 0 n)) i k x d ne ∙ at_index f n k d less)
    ])

pub joined_made : (h : Bool → Bool → Bool) (f g : ℕ → Bool) (is : List ℕ) → joined h (map f is) (map g is) ≡ map (λ j. h (f j) (g j)) is
joined_made h f g [] = refl
joined_made h f g (i ∷ is) = ap (λ bs. h (f i) (g i) ∷ bs) (joined_made h f g is)

-- the place of a bit's word
pub place_within : (stride rows row bit : ℕ) → row < rows → bit < 64 * stride → row * stride + bit / 64 < rows * stride
place_within stride rows row bit lt in_row = omega (arith, mul-add-lt row stride (bit / 64) rows lt (div_below bit 64 stride (omega arith) (omega (arith, in_row))), mul_comm stride rows)

-- another bit stands in another word, or at another place of the word
module _ (words : List ℕ) (stride row bit w : ℕ) (in_row : bit < 64 * stride) (lt : row * stride + bit / 64 < length words) where
  pub at_bit : bit_in (set words (row * stride + bit / 64) w) stride row bit ≡ (bit_at w (bit % 64) == 1)
  at_bit = ap (λ v. bit_at v (bit % 64) == 1) (get_or-set_same words (row * stride + bit / 64) w 0 lt)

  pub at_others : ((i : ℕ) → i < 64 → (i ≡ bit % 64 → ⊥) → bit_at w i ≡ bit_at (get_or words (row * stride + bit / 64) 0) i) → (r c : ℕ) → c < 64 * stride → (r ≡ row → c ≡ bit → ⊥) → bit_in (set words (row * stride + bit / 64) w) stride r c ≡ bit_in words stride r c
  at_others same r c inside differs = elim (cases_eq (r * stride + c / 64) (row * stride + bit / 64)) [
    | inl e ↦
        let place = same_from_place r (c / 64) row (bit / 64) stride (div_below c 64 stride (omega arith) (omega (arith, inside))) (div_below bit 64 stride (omega arith) (omega (arith, in_row))) e in
        let apart = λ (q : c % 64 ≡ bit % 64). differs place.0 (sym (div-add-mod' c 64) ∙ ap (λ n. n * 64 + c % 64) place.1 ∙ ap (λ n. bit / 64 * 64 + n) q ∙ div-add-mod' bit 64) in
        ap (λ j. bit_at (get_or (set words (row * stride + bit / 64) w) j 0) (c % 64) == 1) e ∙ ap (λ v. bit_at v (c % 64) == 1) (get_or-set_same words (row * stride + bit / 64) w 0 lt)
        ∙ ap (λ n. n == 1) (same (c % 64) (mod_below c 64 (omega arith)) apart) ∙ ap (λ j. bit_at (get_or words j 0) (c % 64) == 1) (sym e)
    | inr ne ↦ ap (λ v. bit_at v (c % 64) == 1) (get_or-set_other words (row * stride + bit / 64) (r * stride + c / 64) w 0 ne)
  ]

-- One bit of the rows is this, and all others are as they were.
pub record IsBitPut (old new : List ℕ) (stride row bit : ℕ) (b : Bool) : Type 0 where
  pub size : length new ≡ length old
  pub there : bit_in new stride row bit ≡ b
  pub others : (r c : ℕ) → c < 64 * stride → (r ≡ row → c ≡ bit → ⊥) → bit_in new stride r c ≡ bit_in old stride r c

module _ (words : List ℕ) (stride row bit word : ℕ) (in_row : bit < 64 * stride) (lt : row * stride + bit / 64 < length words) (is : word ≡ get_or words (row * stride + bit / 64) 0) where
  same_as : (i n : ℕ) → bit_at n i ≡ bit_at word i → bit_at n i ≡ bit_at (get_or words (row * stride + bit / 64) 0) i
  same_as i n e = e ∙ ap (λ w. bit_at w i) is

  pub is_set_there : IsBitPut words (set words (row * stride + bit / 64) (bit_or word (1 * 2 ^ (bit % 64) % 2 ^ 64))) stride row bit true
  is_set_there =
      let new = bit_or word (1 * 2 ^ (bit % 64) % 2 ^ 64) in
      record {
        size = length-set words (row * stride + bit / 64) new;
        there = at_bit words stride row bit new in_row lt ∙ ap (λ n. n == 1) (bit_at_set_same w64 word (bit % 64) (mod_below bit 64 (omega arith)));
        others = at_others words stride row bit new in_row lt (λ i less ne. same_as i new (bit_at_set_other w64 word (bit % 64) (mod_below bit 64 (omega arith)) i ne));
      }

  pub is_cleared_there : IsBitPut words (set words (row * stride + bit / 64) (bit_and word (bit_not w64 (1 * 2 ^ (bit % 64) % 2 ^ 64)))) stride row bit false
  is_cleared_there =
      let new = bit_and word (bit_not w64 (1 * 2 ^ (bit % 64) % 2 ^ 64)) in
      record {
        size = length-set words (row * stride + bit / 64) new;
        there = at_bit words stride row bit new in_row lt ∙ ap (λ n. n == 1) (bit_at_clear_same w64 word (bit % 64) (mod_below bit 64 (omega arith)));
        others = at_others words stride row bit new in_row lt (λ i less ne. same_as i new (bit_at_clear_other w64 word (bit % 64) (mod_below bit 64 (omega arith)) i less ne));
      }

module _ (words : List ℕ) (stride width rows : ℕ) (are : AreRows words stride width rows) where
  pub row_is : (row : ℕ) → row < rows → row_at (rows_in words stride width rows) row ≡ row_in words stride width row
  row_is row lt = at_index (row_in words stride width) rows row [] lt

  pub row_width : (row : ℕ) → row < rows → length (row_at (rows_in words stride width rows) row) ≡ width
  row_width row lt = ap length (row_is row lt) ∙ length-map-range_with_len (bit_in words stride row) 0 width

  pub rows_count : length (rows_in words stride width rows) ≡ rows
  rows_count = length-map-range_with_len (row_in words stride width) 0 rows

  -- what contracts see of the rows tells that a bit is within the words
  module _ (view : List (List Bool)) (seen : rows_in words stride width rows ≡ view) (row : ℕ) (lt : row < length view) where
    pub row_within : row < rows
    row_within = omega (arith, ap length seen, rows_count)

    pub width_is : length (row_at view row) ≡ width
    width_is = ap (λ all. length (row_at all row)) (sym seen) ∙ row_width row row_within

    pub bit_within : (bit : ℕ) → bit < length (row_at view row) → bit < width
    bit_within bit less = omega (arith, width_is)

    pub word_within : (bit : ℕ) → bit < length (row_at view row) → row * stride + bit / 64 < length words
    word_within bit less = omega (arith, place_within stride rows row bit row_within (omega (arith, bit_within bit less, are.room)), are.each)

    pub row_seen : row_at view row ≡ row_in words stride width row
    row_seen = ap (λ all. row_at all row) (sym seen) ∙ row_is row row_within

    pub words_within : row * stride + stride ≤ length words
    words_within = omega (arith, row_fits row stride rows stride row_within (omega arith), are.each)

  module _ (new : List ℕ) (row bit : ℕ) (b : Bool) (lt : row < rows) (in_row : bit < width) (put : IsBitPut words new stride row bit b) where
    pub still_rows : AreRows new stride width rows
    still_rows = record {
      few = are.few;
      narrow = are.narrow;
      each = put.size ∙ are.each;
      room = are.room;
      tight = are.tight;
      unused = λ r c less over inside. put.others r c inside (λ _ q. omega (arith, q)) ∙ are.unused r c less over inside;
    }

    pub rows_put : rows_in new stride width rows ≡ with_bit (rows_in words stride width rows) row bit b
    rows_put = made_set (row_in words stride width) (row_in new stride width) rows row (set (row_at (rows_in words stride width rows) row) bit b)
        (made_set (bit_in words stride row) (bit_in new stride row) width bit b put.there (λ c less ne. put.others row c (omega (arith, are.room)) (λ _ q. ne q)) ∙ ap (λ bs. set bs bit b) (sym (row_is row lt)))
        (λ r less ne. same_made (bit_in new stride r) (bit_in words stride r) width (λ c low. put.others r c (omega (arith, are.room)) (λ q _. ne q)))

  -- One row's words are written anew, and the others are as they were.
  module _ (new : List ℕ) (to : ℕ) (bits : ℕ → Bool) (size : length new ≡ length words) (lt : to < rows)
      (there : (c : ℕ) → c < 64 * stride → bit_in new stride to c ≡ bits c) (apart : (j : ℕ) → (j < to * stride) ⊎ (to * stride + stride ≤ j) → get_or new j 0 ≡ get_or words j 0) where
    other_bits : (r c : ℕ) → c < 64 * stride → (r ≡ to → ⊥) → bit_in new stride r c ≡ bit_in words stride r c
    other_bits r c inside ne =
        let less : c / 64 < stride = div_below c 64 stride (omega arith) (omega (arith, inside)) in
        ap (λ w. bit_at w (c % 64) == 1) (apart (r * stride + c / 64) (elim (cases_lt r to) [
          | inl low ↦ inl (omega (arith, less, row_fits r stride to stride low (omega arith)))
          | inr high ↦ inr (omega (arith, row_fits to stride r stride (omega (arith, ne, high)) (omega arith)))
        ]))

    pub still_rows_after : ((c : ℕ) → width ≤ c → c < 64 * stride → bits c ≡ false) → AreRows new stride width rows
    still_rows_after clear = record {
      few = are.few;
      narrow = are.narrow;
      each = size ∙ are.each;
      room = are.room;
      tight = are.tight;
      unused = λ r c less over inside. elim (cases_eq r to) [
        | inl e ↦ ap (λ n. bit_in new stride n c) e ∙ there c inside ∙ clear c over inside
        | inr ne ↦ other_bits r c inside ne ∙ are.unused r c less over inside
      ];
    }

    pub rows_after : rows_in new stride width rows ≡ set (rows_in words stride width rows) to (map bits (range_with_len 0 width))
    rows_after = made_set (row_in words stride width) (row_in new stride width) rows to (map bits (range_with_len 0 width))
        (same_made (bit_in new stride to) bits width (λ c low. there c (omega (arith, are.room))))
        (λ r less ne. same_made (bit_in new stride r) (bit_in words stride r) width (λ c low. other_bits r c (omega (arith, are.room)) ne))

or_bit : (a b i : ℕ) → (bit_at (bit_or a b) i == 1) ≡ ((bit_at a i == 1) || (bit_at b i == 1))
or_bit a b i = ap (λ n. n == 1) (bit_at_or a b i) ∙ max_one (bit_at a i) (bit_at b i) (bit_at-lt a i) (bit_at-lt b i)

and_bit : (a b i : ℕ) → (bit_at (bit_and a b) i == 1) ≡ ((bit_at a i == 1) && (bit_at b i == 1))
and_bit a b i = ap (λ n. n == 1) (bit_at_and a b i) ∙ min_one (bit_at a i) (bit_at b i) (bit_at-lt a i) (bit_at-lt b i)

pub met_word_bit : (unite : Bool) (a b i : ℕ) → (bit_at (met_word unite a b) i == 1) ≡ met_bit unite (bit_at a i == 1) (bit_at b i == 1)
met_word_bit true a b i = or_bit a b i
met_word_bit false a b i = and_bit a b i

pub passed_word_bit : (a k w i : ℕ) → (bit_at (passed_word a k w) i == 1) ≡ (((bit_at a i == 1) && (bit_at k i == 1)) || (bit_at w i == 1))
passed_word_bit a k w i = or_bit (bit_and a k) w i ∙ ap (λ b. b || (bit_at w i == 1)) (and_bit a k i)

pub met_clear : (unite : Bool) → met_bit unite false false ≡ false
met_clear true = refl
met_clear false = refl

-- equal tests for 1 of two bits
pub same_bit : (x y : ℕ) → x < 2 → y < 2 → (x == 1) ≡ (y == 1) → x ≡ y
same_bit zero zero p q e = refl
same_bit zero (suc zero) p q e = cc
same_bit (suc zero) zero p q e = cc
same_bit (suc zero) (suc zero) p q e = refl
same_bit zero (suc (suc y)) p q e = absurd (omega (arith, q))
same_bit (suc zero) (suc (suc y)) p q e = absurd (omega (arith, q))
same_bit (suc (suc x)) y p q e = absurd (omega (arith, p))

-- what a bit of a row reads
pub bit_read : (words : List ℕ) (stride width rows : ℕ) (are : AreRows words stride width rows) (view : List (List Bool)) → rows_in words stride width rows ≡ view → (row bit word : ℕ) → row < length view → bit < length (row_at view row) →
    word ≡ get_or words (row * stride + bit / 64) word → (bit_and (word / 2 ^ (bit % 64)) 1 == 1) ≡ get_or (row_at view row) bit false
bit_read words stride width rows are view seen row bit word lt less is =
    let here = get_or_read words (row * stride + bit / 64) word (word_within words stride width rows are view seen row lt bit less) is 0 in
    ap (λ n. n == 1) (shr_and_one word (bit % 64)) ∙ ap (λ w. bit_at w (bit % 64) == 1) here
    ∙ sym (ap (λ bs. get_or bs bit false) (row_seen words stride width rows are view seen row lt) ∙ at_index (bit_in words stride row) width bit false (bit_within words stride width rows are view seen row lt bit less))

-- rows of words that are all 0 are clear
module _ (words : List ℕ) (stride width rows : ℕ) (zeros : words ≡ replicate (rows * stride) 0) where
  clear_bit : (row bit : ℕ) → row < rows → bit < 64 * stride → bit_in words stride row bit ≡ false
  clear_bit row bit lt in_row =
      let place = place_within stride rows row bit lt in_row in
      ap (λ ws. bit_at (get_or ws (row * stride + bit / 64) 0) (bit % 64) == 1) zeros ∙ ap (λ w. bit_at w (bit % 64) == 1) (get_or-replicate (rows * stride) (row * stride + bit / 64) 0 0 place) ∙ ap (λ n. n == 1) (bit_at-zero (bit % 64))

  pub clear_rows : rows < 2 ^ 32 → width < 2 ^ 32 → width ≤ 64 * stride → 64 * stride < width + 64 → AreRows words stride width rows
  clear_rows few narrow room tight = record {
    few = few;
    narrow = narrow;
    each = ap length zeros ∙ length-replicate (rows * stride) 0;
    room = room;
    tight = tight;
    unused = λ row bit lt _ in_row. clear_bit row bit lt in_row;
  }

  made_replicate : {X : Type 0} (f : ℕ → X) (n : ℕ) (x : X) → ((j : ℕ) → j < n → f j ≡ x) → map f (range_with_len 0 n) ≡ replicate n x
  made_replicate f n x same = same_lists _ _ (length-map-range_with_len f 0 n ∙ sym (length-replicate n x)) (λ k d lt.
      let less : k < n = omega (arith, lt, length-map-range_with_len f 0 n) in
      at_index f n k d less ∙ same k less ∙ sym (get_or-replicate n k x d less))

  pub clear_view : width ≤ 64 * stride → rows_in words stride width rows ≡ replicate rows (replicate width false)
  clear_view room = made_replicate (row_in words stride width) rows (replicate width false) (λ row lt. made_replicate (bit_in words stride row) width false (λ bit less. clear_bit row bit lt (omega (arith, room))))
