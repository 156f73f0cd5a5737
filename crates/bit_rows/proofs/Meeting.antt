-- What it does to rows to write one of them anew, word by word.
use Rattle.std.proofs.Common.{◌≡◌, ℕ, ◌+◌, ◌-◌, ◌*◌, ◌/◌, ◌%◌, ◌^◌, ◌<◌, ◌≤◌, ◌==◌, ◌||◌, ◌&&◌, ◌⊎◌, inl, inr, Bool, true, false, List, length, get_or, sym, ap, ◌∙◌, subst, arith}
use Rattle.std.proofs.Math.ListN.{set}
use Rattle.std.specs.Int.{bit_at}
use Rattle.std.specs.List.{range_with_len}
use Rattle.std.proofs.lemmas.Bool.{cases_lt}
use Rattle.std.proofs.lemmas.Nat.{div_below, div-mul-add, mod-mul-add, row_fits, or_lt, and_le_l}
use Rattle.std.proofs.lemmas.Nat.Bits.{bit_at-lt, same_from_bits_below}
use Rattle.std.proofs.lemmas.List.{same_lists, get_or_default}
use Rattle.bit_rows.specs.Grid.{row_at, joined, met_bit, met, passed}
use Rattle.bit_rows.specs.Words.{bit_in, row_in, rows_in, AreRows, met_word, passed_word}
use Rattle.bit_rows.proofs.Bits.{at_index, joined_made, row_within, row_seen, row_is, rows_after, still_rows_after, met_word_bit, passed_word_bit, met_clear, same_bit}

-- a row before another ends before it
pub rows_apart : (stride from to : ℕ) → from * stride < to * stride → from * stride + stride ≤ to * stride
rows_apart stride from to less = elim (cases_lt from to) [
  | inl lt ↦ row_fits from stride to stride lt (omega arith)
  | inr ge ↦ absurd (omega (arith, less, further to from ge))
]
  where
    further : (a b : ℕ) → a ≤ b → a * stride ≤ b * stride
    further a b le = elim (cases_lt a b) [ inl lt ↦ omega (arith, row_fits a stride b stride lt (omega arith)) | inr ge ↦ let e : a ≡ b = omega arith in subst (λ n. a * stride ≤ n * stride) e (omega arith) ]

met_word_fits : (unite : Bool) (a b : ℕ) → a < 2 ^ 64 → b < 2 ^ 64 → met_word unite a b < 2 ^ 64
met_word_fits true a b p q = or_lt 64 a b p q
met_word_fits false a b p q = omega (arith, and_le_l a b, p)

module _ (words : List ℕ) (stride width rows : ℕ) (are : AreRows words stride width rows) (view : List (List Bool)) (seen : rows_in words stride width rows ≡ view) (new : List ℕ) (size : length new ≡ length words)
    (from to : ℕ) (from_in : from < length view) (to_in : to < length view) (apart : (j : ℕ) → (j < to * stride) ⊎ (to * stride + stride ≤ j) → get_or new j 0 ≡ get_or words j 0) where
  within : to < rows
  within = row_within words stride width rows are view seen to to_in

  module _ (unite : Bool) (all_met : (k : ℕ) → k < stride → get_or new (to * stride + k) 0 ≡ met_word unite (get_or words (from * stride + k) 0) (get_or words (to * stride + k) 0)) where
    abbrev bits : ℕ → Bool
    bits c = met_bit unite (bit_in words stride from c) (bit_in words stride to c)

    there : (c : ℕ) → c < 64 * stride → bit_in new stride to c ≡ bits c
    there c inside = ap (λ w. bit_at w (c % 64) == 1) (all_met (c / 64) (div_below c 64 stride (omega arith) (omega (arith, inside))))
        ∙ met_word_bit unite (get_or words (from * stride + c / 64) 0) (get_or words (to * stride + c / 64) 0) (c % 64)

    pub met_rows : AreRows new stride width rows
    met_rows = still_rows_after words stride width rows are new to bits size within there apart (λ c over inside.
        ap (λ b. met_bit unite b (bit_in words stride to c)) (are.unused from c (row_within words stride width rows are view seen from from_in) over inside)
        ∙ ap (met_bit unite false) (are.unused to c within over inside) ∙ met_clear unite)

    pub met_view : rows_in new stride width rows ≡ set view to (met unite (row_at view from) (row_at view to))
    met_view = rows_after words stride width rows are new to bits size within there apart
        ∙ ap (set (rows_in words stride width rows) to) (sym (
        ap (λ r. joined (met_bit unite) r (row_at view to)) (row_seen words stride width rows are view seen from from_in)
        ∙ ap (joined (met_bit unite) (row_in words stride width from)) (row_seen words stride width rows are view seen to to_in)
        ∙ joined_made (met_bit unite) (bit_in words stride from) (bit_in words stride to) (range_with_len 0 width)))
        ∙ ap (λ all. set all to (met unite (row_at view from) (row_at view to))) seen

    pub same_view : ((k : ℕ) → k < stride → get_or new (to * stride + k) 0 ≡ get_or words (to * stride + k) 0) → rows_in new stride width rows ≡ view
    same_view same = ap (λ ws. rows_in ws stride width rows) (same_lists new words size (λ k d lt.
        get_or_default new k d 0 lt ∙ at_word k (cases_lt k (to * stride)) (cases_lt k (to * stride + stride)) ∙ get_or_default words k 0 d (omega (arith, size, lt)))) ∙ seen
      where
        at_word : (k : ℕ) → (k < to * stride) ⊎ (to * stride ≤ k) → (k < to * stride + stride) ⊎ (to * stride + stride ≤ k) → get_or new k 0 ≡ get_or words k 0
        at_word k (inl low) _ = apart k (inl low)
        at_word k (inr ge) (inl lt) =
            let e : to * stride + (k - to * stride) ≡ k = omega arith in
            subst (λ j. get_or new j 0 ≡ get_or words j 0) e (same (k - to * stride) (omega arith))
        at_word k (inr ge) (inr more) = apart k (inr more)

    pub view_tells : ((k : ℕ) → get_or words k 0 < 2 ^ 64) → rows_in new stride width rows ≡ view → (k : ℕ) → k < stride → get_or new (to * stride + k) 0 ≡ get_or words (to * stride + k) 0
    view_tells fit same k lt = same_from_bits_below 64 _ _ (subst (λ n. n < 2 ^ 64) (sym (all_met k lt)) (met_word_fits unite _ _ (fit (from * stride + k)) (fit (to * stride + k)))) (fit (to * stride + k)) (λ i less.
        let c = k * 64 + i in
        let bit = same_there c (omega (arith, row_fits k 64 stride 64 lt (omega arith))) in
        same_bit _ _ (bit_at-lt _ i) (bit_at-lt _ i) (subst (λ j. (bit_at (get_or new (to * stride + k) 0) j == 1) ≡ (bit_at (get_or words (to * stride + k) 0) j == 1)) (mod-mul-add k 64 i less)
        (subst (λ j. (bit_at (get_or new (to * stride + j) 0) (c % 64) == 1) ≡ (bit_at (get_or words (to * stride + j) 0) (c % 64) == 1)) (div-mul-add k 64 i less) bit)))
      where
        same_row : row_in new stride width to ≡ row_in words stride width to
        same_row = sym (row_is new stride width rows met_rows to within) ∙ ap (λ all. row_at all to) same ∙ row_seen words stride width rows are view seen to to_in

        same_there : (c : ℕ) → c < 64 * stride → bit_in new stride to c ≡ bit_in words stride to c
        same_there c inside = elim (cases_lt c width) [
          | inl low ↦ sym (at_index (bit_in new stride to) width c false low) ∙ ap (λ bs. get_or bs c false) same_row ∙ at_index (bit_in words stride to) width c false low
          | inr over ↦ met_rows.unused to c within over inside ∙ sym (are.unused to c within over inside)
        ]

  -- what a row passes of another, by the words of two further ones
  module _ (kept written : List ℕ) (row : ℕ) (kept_rows written_rows : ℕ) (kept_view written_view : List (List Bool))
      (kept_are : AreRows kept stride width kept_rows) (written_are : AreRows written stride width written_rows)
      (kept_seen : rows_in kept stride width kept_rows ≡ kept_view) (written_seen : rows_in written stride width written_rows ≡ written_view) (kept_in : row < length kept_view) (written_in : row < length written_view)
      (all_passed : (k : ℕ) → k < stride → get_or new (to * stride + k) 0 ≡ passed_word (get_or words (from * stride + k) 0) (get_or kept (row * stride + k) 0) (get_or written (row * stride + k) 0)) where
    abbrev passes : ℕ → Bool
    passes c = (bit_in words stride from c && bit_in kept stride row c) || bit_in written stride row c

    passes_there : (c : ℕ) → c < 64 * stride → bit_in new stride to c ≡ passes c
    passes_there c inside = ap (λ w. bit_at w (c % 64) == 1) (all_passed (c / 64) (div_below c 64 stride (omega arith) (omega (arith, inside))))
        ∙ passed_word_bit (get_or words (from * stride + c / 64) 0) (get_or kept (row * stride + c / 64) 0) (get_or written (row * stride + c / 64) 0) (c % 64)

    pub passed_rows : AreRows new stride width rows
    passed_rows = still_rows_after words stride width rows are new to passes size within passes_there apart (λ c over inside.
        ap (λ b. (b && bit_in kept stride row c) || bit_in written stride row c) (are.unused from c (row_within words stride width rows are view seen from from_in) over inside)
        ∙ written_are.unused row c (row_within written stride width written_rows written_are written_view written_seen row written_in) over inside)

    pub passed_view : rows_in new stride width rows ≡ set view to (passed (row_at view from) (row_at kept_view row) (row_at written_view row))
    passed_view = rows_after words stride width rows are new to passes size within passes_there apart
        ∙ ap (set (rows_in words stride width rows) to) (sym (
        ap (λ r. passed r (row_at kept_view row) (row_at written_view row)) (row_seen words stride width rows are view seen from from_in)
        ∙ ap (λ r. passed (row_in words stride width from) r (row_at written_view row)) (row_seen kept stride width kept_rows kept_are kept_view kept_seen row kept_in)
        ∙ ap (passed (row_in words stride width from) (row_in kept stride width row)) (row_seen written stride width written_rows written_are written_view written_seen row written_in)
        ∙ ap (λ r. joined (λ a b. a || b) r (row_in written stride width row)) (joined_made (λ a b. a && b) (bit_in words stride from) (bit_in kept stride row) (range_with_len 0 width))
        ∙ joined_made (λ a b. a || b) (λ c. bit_in words stride from c && bit_in kept stride row c) (bit_in written stride row) (range_with_len 0 width)))
        ∙ ap (λ all. set all to (passed (row_at view from) (row_at kept_view row) (row_at written_view row))) seen

-- rows of one width take as many words
pub same_stride : (words kept : List ℕ) (stride width rows kept_stride kept_width kept_rows : ℕ) → AreRows words stride width rows → AreRows kept kept_stride kept_width kept_rows → kept_width ≡ width → kept_stride ≡ stride
same_stride words kept stride width rows kept_stride kept_width kept_rows are kept_are same = omega (arith, are.room, are.tight, kept_are.room, kept_are.tight, same)

pub same_shape : (kept : List ℕ) (stride width kept_stride kept_width rows : ℕ) → kept_stride ≡ stride → kept_width ≡ width → AreRows kept kept_stride kept_width rows → AreRows kept stride width rows
same_shape kept stride width kept_stride kept_width rows e f are = subst (λ n. AreRows kept n width rows) e (subst (λ n. AreRows kept kept_stride n rows) f are)

pub same_seen : (kept : List ℕ) (stride width kept_stride kept_width rows : ℕ) → kept_stride ≡ stride → kept_width ≡ width → rows_in kept stride width rows ≡ rows_in kept kept_stride kept_width rows
same_seen kept stride width kept_stride kept_width rows e f = sym (ap (λ n. rows_in kept n kept_width rows) e ∙ ap (λ n. rows_in kept stride n rows) f)
