-- What it does to rows to write one of them anew by the words of another table.
use Rattle.std.proofs.Common.{◌≡◌, ℕ, zero, suc, ◌+◌, ◌-◌, ◌*◌, ◌/◌, ◌%◌, ◌^◌, ◌<◌, ◌≤◌, ◌==◌, ◌⊎◌, ◌↔◌, inl, inr, not, Bool, true, false, true≢false, if◌then◌else◌, List, [], ◌∷◌, length, map, get_or, refl, sym, ap, ◌∙◌, subst, arith}
use Rattle.std.proofs.Math.ListN.{set}
use Rattle.std.specs.Int.{bit_at}
use Rattle.std.specs.List.{range_with_len}
use Rattle.std.proofs.lemmas.Bool.{cases_eq, cases_lt, eq-eqb, ne_eqb}
use Rattle.std.proofs.lemmas.Nat.{div_below, div-mul-add, mod-mul-add, mod_below, div-add-mod', row_fits, or_lt}
use Rattle.std.proofs.lemmas.Nat.Bits.{bit_at-lt, same_from_bits_below}
use Rattle.std.proofs.lemmas.List.{get_or-set_same, get_or-set_other, length-set, set-get_or, same_lists, get_or_default}
use Rattle.bit_rows.specs.Grid.{row_at, joined, with_word}
use Rattle.bit_rows.specs.Words.{bit_in, row_in, rows_in, AreRows, met_word}
use Rattle.bit_rows.proofs.Bits.{at_index, same_made, joined_made, row_within, row_seen, row_is, words_within, rows_after, still_rows_after, same_bit, width_is}

pub joined_first : (xs ys : List Bool) → length xs ≡ length ys → joined (λ a b. a) xs ys ≡ xs
joined_first [] ys e = refl
joined_first (x ∷ xs) [] e = absurd (omega (arith, e))
joined_first (x ∷ xs) (y ∷ ys) e = ap (λ more. x ∷ more) (joined_first xs ys (omega (arith, e)))

module _ (words : List ℕ) (stride width rows : ℕ) (are : AreRows words stride width rows) (view : List (List Bool)) (seen : rows_in words stride width rows ≡ view) (new : List ℕ) (size : length new ≡ length words)
    (to : ℕ) (to_in : to < length view) (apart : (j : ℕ) → (j < to * stride) ⊎ (to * stride + stride ≤ j) → get_or new j 0 ≡ get_or words j 0) where
  within : to < rows
  within = row_within words stride width rows are view seen to to_in

  -- what a row is with that of another table
  module _ (other : List ℕ) (row other_rows : ℕ) (other_view : List (List Bool)) (other_are : AreRows other stride width other_rows) (other_seen : rows_in other stride width other_rows ≡ other_view) (row_in_other : row < length other_view)
      (word : ℕ → ℕ → ℕ) (bit : Bool → Bool → Bool) (word_bit : (a b i : ℕ) → (bit_at (word a b) i == 1) ≡ bit (bit_at a i == 1) (bit_at b i == 1)) (clear : bit false false ≡ false)
      (all : (k : ℕ) → k < stride → get_or new (to * stride + k) 0 ≡ word (get_or other (row * stride + k) 0) (get_or words (to * stride + k) 0)) where
    abbrev bits : ℕ → Bool
    bits c = bit (bit_in other stride row c) (bit_in words stride to c)

    there : (c : ℕ) → c < 64 * stride → bit_in new stride to c ≡ bits c
    there c inside = ap (λ w. bit_at w (c % 64) == 1) (all (c / 64) (div_below c 64 stride (omega arith) (omega (arith, inside))))
        ∙ word_bit (get_or other (row * stride + c / 64) 0) (get_or words (to * stride + c / 64) 0) (c % 64)

    pub taken_rows : AreRows new stride width rows
    taken_rows = still_rows_after words stride width rows are new to bits size within there apart (λ c over inside.
        ap (λ b. bit b (bit_in words stride to c)) (other_are.unused row c (row_within other stride width other_rows other_are other_view other_seen row row_in_other) over inside)
        ∙ ap (bit false) (are.unused to c within over inside) ∙ clear)

    pub taken_view : rows_in new stride width rows ≡ set view to (joined bit (row_at other_view row) (row_at view to))
    taken_view = rows_after words stride width rows are new to bits size within there apart
        ∙ ap (set (rows_in words stride width rows) to) (sym (
        ap (λ r. joined bit r (row_at view to)) (row_seen other stride width other_rows other_are other_view other_seen row row_in_other)
        ∙ ap (joined bit (row_in other stride width row)) (row_seen words stride width rows are view seen to to_in)
        ∙ joined_made bit (bit_in other stride row) (bit_in words stride to) (range_with_len 0 width)))
        ∙ ap (λ all. set all to (joined bit (row_at other_view row) (row_at view to))) seen

  -- where words stay, so do bits
  pub same_words : ((k : ℕ) → k < stride → get_or new (to * stride + k) 0 ≡ get_or words (to * stride + k) 0) → rows_in new stride width rows ≡ view
  same_words same = ap (λ ws. rows_in ws stride width rows) (same_lists new words size (λ k d lt.
      get_or_default new k d 0 lt ∙ at_word k (cases_lt k (to * stride)) (cases_lt k (to * stride + stride)) ∙ get_or_default words k 0 d (omega (arith, size, lt)))) ∙ seen
    where
      at_word : (k : ℕ) → (k < to * stride) ⊎ (to * stride ≤ k) → (k < to * stride + stride) ⊎ (to * stride + stride ≤ k) → get_or new k 0 ≡ get_or words k 0
      at_word k (inl low) _ = apart k (inl low)
      at_word k (inr ge) (inl lt) =
          let e : to * stride + (k - to * stride) ≡ k = omega arith in
          subst (λ j. get_or new j 0 ≡ get_or words j 0) e (same (k - to * stride) (omega arith))
      at_word k (inr ge) (inr more) = apart k (inr more)

  -- and where bits stay, so do words
  pub same_bits : (new_are : AreRows new stride width rows) → ((k : ℕ) → k < stride → get_or words (to * stride + k) 0 < 2 ^ 64) → ((k : ℕ) → k < stride → get_or new (to * stride + k) 0 < 2 ^ 64) → rows_in new stride width rows ≡ view
      → (k : ℕ) → k < stride → get_or new (to * stride + k) 0 ≡ get_or words (to * stride + k) 0
  same_bits new_are fit fits same k lt = same_from_bits_below 64 _ _ (fits k lt) (fit k lt) (λ i less.
      let c = k * 64 + i in
      let bit = same_there c (omega (arith, row_fits k 64 stride 64 lt (omega arith))) in
      same_bit _ _ (bit_at-lt _ i) (bit_at-lt _ i) (subst (λ j. (bit_at (get_or new (to * stride + k) 0) j == 1) ≡ (bit_at (get_or words (to * stride + k) 0) j == 1)) (mod-mul-add k 64 i less)
      (subst (λ j. (bit_at (get_or new (to * stride + j) 0) (c % 64) == 1) ≡ (bit_at (get_or words (to * stride + j) 0) (c % 64) == 1)) (div-mul-add k 64 i less) bit)))
    where
      same_row : row_in new stride width to ≡ row_in words stride width to
      same_row = sym (row_is new stride width rows new_are to within) ∙ ap (λ all. row_at all to) same ∙ row_seen words stride width rows are view seen to to_in

      same_there : (c : ℕ) → c < 64 * stride → bit_in new stride to c ≡ bit_in words stride to c
      same_there c inside = elim (cases_lt c width) [
        | inl low ↦ sym (at_index (bit_in new stride to) width c false low) ∙ ap (λ bs. get_or bs c false) same_row ∙ at_index (bit_in words stride to) width c false low
        | inr over ↦ new_are.unused to c within over inside ∙ sym (are.unused to c within over inside)
      ]

same_number : (a b : ℕ) → not (a == b) ≡ false → a ≡ b
same_number a b e = elim (cases_eq a b) [ inl q ↦ q | inr ne ↦ absurd (true≢false (sym (ap not (ne_eqb a b ne)) ∙ e)) ]

-- rows of one word each
module _ (words : List ℕ) (stride width rows : ℕ) (are : AreRows words stride width rows) (view : List (List Bool)) (seen : rows_in words stride width rows ≡ view) (one : stride ≡ 1) (to : ℕ) (to_in : to < length view) where
  here : to * stride ≡ to
  here = omega (arith, ap (λ s. to * s) one)

  pub one_within : to < length words
  one_within = omega (arith, words_within words stride width rows are view seen to to_in, here, one)

  -- one of them with the word of another table
  module _ (other : List ℕ) (row : ℕ) (word : ℕ → ℕ → ℕ) (w : ℕ) (is : w ≡ word (get_or other row 0) (get_or words to 0)) where
    one_apart : (j : ℕ) → (j < to * stride) ⊎ (to * stride + stride ≤ j) → get_or (set words to w) j 0 ≡ get_or words j 0
    one_apart j out = get_or-set_other words to j w 0 (differs out)
      where
        differs : (j < to * stride) ⊎ (to * stride + stride ≤ j) → j ≡ to → ⊥
        differs (inl less) q = omega (arith, q, less, here)
        differs (inr more) q = omega (arith, q, more, here, one)

    one_all : (k : ℕ) → k < stride → get_or (set words to w) (to * stride + k) 0 ≡ word (get_or other (row * stride + k) 0) (get_or words (to * stride + k) 0)
    one_all k lt =
        let at_to : to * stride + k ≡ to = omega (arith, here, one, lt) in
        let at_row : row * stride + k ≡ row = omega (arith, ap (λ s. row * s) one, one, lt) in
        ap (λ j. get_or (set words to w) j 0) at_to ∙ get_or-set_same words to w 0 one_within ∙ is
        ∙ ap (λ j. word (get_or other j 0) (get_or words to 0)) (sym at_row) ∙ ap (λ j. word (get_or other (row * stride + k) 0) (get_or words j 0)) (sym at_to)

    module _ (other_rows : ℕ) (other_view : List (List Bool)) (other_are : AreRows other stride width other_rows) (other_seen : rows_in other stride width other_rows ≡ other_view) (row_in_other : row < length other_view)
        (bit : Bool → Bool → Bool) (word_bit : (a b i : ℕ) → (bit_at (word a b) i == 1) ≡ bit (bit_at a i == 1) (bit_at b i == 1)) (clear : bit false false ≡ false) where
      pub one_rows : AreRows (set words to w) stride width rows
      one_rows = taken_rows words stride width rows are view seen (set words to w) (length-set words to w) to to_in one_apart
          other row other_rows other_view other_are other_seen row_in_other word bit word_bit clear one_all

      pub one_view : rows_in (set words to w) stride width rows ≡ set view to (joined bit (row_at other_view row) (row_at view to))
      one_view = taken_view words stride width rows are view seen (set words to w) (length-set words to w) to to_in one_apart
          other row other_rows other_view other_are other_seen row_in_other word bit word_bit clear one_all

      -- the word stays where the rows do
      pub one_same : (b : ℕ) → b ≡ get_or words to 0 → b < 2 ^ 64 → w < 2 ^ 64 → (not (w == b) ≡ false) ↔ (rows_in (set words to w) stride width rows ≡ view)
      one_same b was fit fits = (
        (λ e. ap (λ ws. rows_in ws stride width rows) (ap (set words to) (same_number w b e ∙ was) ∙ set-get_or words to 0) ∙ seen),
        (λ e.
            let zeroth : to * stride + 0 ≡ to = omega (arith, here) in
            ap not (eq-eqb w b (sym (get_or-set_same words to w 0 one_within) ∙ ap (λ j. get_or (set words to w) j 0) (sym zeroth)
            ∙ same_bits words stride width rows are view seen (set words to w) (length-set words to w) to to_in one_apart one_rows
            (λ k lt. subst (λ j. get_or words j 0 < 2 ^ 64) (let q : to ≡ to * stride + k = omega (arith, here, one, lt) in q) (subst (λ n. n < 2 ^ 64) was fit))
            (λ k lt. subst (λ j. get_or (set words to w) j 0 < 2 ^ 64) (let q : to ≡ to * stride + k = omega (arith, here, one, lt) in q)
            (subst (λ n. n < 2 ^ 64) (sym (get_or-set_same words to w 0 one_within)) fits))
            e 0 (omega (arith, one))
            ∙ ap (λ j. get_or words j 0) zeroth ∙ sym was))),
      )

pub met_fits : (a b : ℕ) → a < 2 ^ 64 → b < 2 ^ 64 → met_word true a b < 2 ^ 64
met_fits a b p q = or_lt 64 a b p q

-- one word of a row
module _ (words : List ℕ) (stride width rows : ℕ) (are : AreRows words stride width rows) (view : List (List Bool)) (seen : rows_in words stride width rows ≡ view) (row index : ℕ) (row_lt : row < length view) where
  in_rows : row < rows
  in_rows = row_within words stride width rows are view seen row row_lt

  module _ (index_lt : 64 * index < length (row_at view row)) where
    inside : 64 * index < width
    inside = omega (arith, index_lt, width_is words stride width rows are view seen row row_lt)

    pub index_within : index < stride
    index_within = omega (arith, inside, are.room)

    pub word_there : row * stride + index < length words
    word_there = omega (arith, row_fits row stride rows stride in_rows (omega arith), index_within, are.each)

    pub word_read : (word : ℕ) → word ≡ get_or words (row * stride + index) 0 → (k : ℕ) → k < 64 → (bit_at word k == 1) ≡ get_or (row_at view row) (64 * index + k) false
    word_read word is k lt =
        let c = 64 * index + k in
        let order : c ≡ index * 64 + k = omega arith in
        let q : c / 64 ≡ index = ap (λ n. n / 64) order ∙ div-mul-add index 64 k lt in
        let r : c % 64 ≡ k = ap (λ n. n % 64) order ∙ mod-mul-add index 64 k lt in
        let here : (bit_at word k == 1) ≡ bit_in words stride row c = ap (λ w. bit_at w k == 1) is ∙ ap (λ j. bit_at (get_or words (row * stride + j) 0) k == 1) (sym q) ∙ ap (λ j. bit_at (get_or words (row * stride + c / 64) 0) j == 1) (sym r) in
        elim (cases_lt c width) [
          | inl low ↦ here ∙ sym (ap (λ bs. get_or bs c false) (row_seen words stride width rows are view seen row row_lt) ∙ at_index (bit_in words stride row) width c false low)
          | inr over ↦ here ∙ are.unused row c in_rows over (omega (arith, index_within, lt)) ∙ sym (outside c (omega (arith, over, width_is words stride width rows are view seen row row_lt)))
        ]
      where
        outside : (c : ℕ) → length (row_at view row) ≤ c → get_or (row_at view row) c false ≡ false
        outside c over = past (row_at view row) c over
          where
            past : (bs : List Bool) (j : ℕ) → length bs ≤ j → get_or bs j false ≡ false
            past [] j le = refl
            past (b ∷ bs) zero le = absurd (omega (arith, le))
            past (b ∷ bs) (suc j) le = past bs j (omega (arith, le))

    module _ (full : 64 * index + 64 ≤ length (row_at view row)) (word : ℕ) where
      abbrev changed : ℕ → Bool
      changed c = if c / 64 == index then bit_at word (c % 64) == 1 else bit_in words stride row c

      put_there : (c : ℕ) → c < 64 * stride → bit_in (set words (row * stride + index) word) stride row c ≡ changed c
      put_there c less = elim (cases_eq (c / 64) index) [
        | inl e ↦ ap (λ w. bit_at w (c % 64) == 1) (ap (λ j. get_or (set words (row * stride + index) word) (row * stride + j) 0) e ∙ get_or-set_same words (row * stride + index) word 0 word_there)
            ∙ sym (ap (λ b. if b then bit_at word (c % 64) == 1 else bit_in words stride row c) (eq-eqb _ _ e))
        | inr ne ↦ ap (λ w. bit_at w (c % 64) == 1) (get_or-set_other words (row * stride + index) (row * stride + c / 64) word 0 (λ q. ne (omega (arith, q))))
            ∙ sym (ap (λ b. if b then bit_at word (c % 64) == 1 else bit_in words stride row c) (ne_eqb _ _ ne))
      ]

      put_apart : (j : ℕ) → (j < row * stride) ⊎ (row * stride + stride ≤ j) → get_or (set words (row * stride + index) word) j 0 ≡ get_or words j 0
      put_apart j out = get_or-set_other words (row * stride + index) j word 0 (differs out)
        where
          differs : (j < row * stride) ⊎ (row * stride + stride ≤ j) → j ≡ row * stride + index → ⊥
          differs (inl less) q = omega (arith, q, less)
          differs (inr more) q = omega (arith, q, more, index_within)

      pub put_rows : AreRows (set words (row * stride + index) word) stride width rows
      put_rows = still_rows_after words stride width rows are _ row changed (length-set words (row * stride + index) word) in_rows put_there put_apart (λ c over less. clear c over less)
        where
          clear : (c : ℕ) → width ≤ c → c < 64 * stride → changed c ≡ false
          clear c over less = elim (cases_eq (c / 64) index) [
            | inl e ↦ absurd (omega (arith, e, div-add-mod' c 64, mod_below c 64 (omega arith), over, full, width_is words stride width rows are view seen row row_lt))
            | inr ne ↦ sym (put_there c less) ∙ ap (λ w. bit_at w (c % 64) == 1) (get_or-set_other words (row * stride + index) (row * stride + c / 64) word 0 (λ q. ne (omega (arith, q)))) ∙ are.unused row c in_rows over less
          ]

      pub put_view : rows_in (set words (row * stride + index) word) stride width rows ≡ set view row (with_word (row_at view row) index word)
      put_view = rows_after words stride width rows are _ row changed (length-set words (row * stride + index) word) in_rows put_there put_apart
          ∙ ap (set (rows_in words stride width rows) row) (same_made changed asked width (λ c low. ap (λ b. if c / 64 == index then bit_at word (c % 64) == 1 else b)
          (sym (ap (λ bs. get_or bs c false) (row_seen words stride width rows are view seen row row_lt) ∙ at_index (bit_in words stride row) width c false low)))
          ∙ ap (λ n. map asked (range_with_len 0 n)) (sym (width_is words stride width rows are view seen row row_lt)))
          ∙ ap (λ all. set all row (with_word (row_at view row) index word)) seen
        where
          asked : ℕ → Bool
          asked c = if c / 64 == index then bit_at word (c % 64) == 1 else get_or (row_at view row) c false
