-- Rows that are copied into others.
use Rattle.std.proofs.Common.{◌≡◌, ℕ, ◌+◌, ◌-◌, ◌*◌, ◌<◌, ◌≤◌, ◌==◌, inl, inr, Bool, false, List, [], length, get_or, refl, sym, ap, ◌∙◌, arith}
use Rattle.std.specs.Prelude.{slice_set}
use Rattle.std.specs.Int.{bit_at}
use Rattle.std.proofs.Math.ListN.{set}
use Rattle.std.proofs.lemmas.Bool.{cases_lt}
use Rattle.std.proofs.lemmas.List.{get_or_past, get_or-set_same, get_or-set_other}
use Rattle.bit_rows.specs.Grid.{is_set, row_at, with_bit, with_word}
use Rattle.graph_paths.specs.declared.marks.Marks.{Marks}
use Rattle.graph_paths.specs.PathMarksTable.{bits_of}
use Rattle.graph_paths.proofs.PathMarksTables.{word_length, word_others, word_there}
use Rattle.graph_solve_problem.specs.SetLaws.{equal}
use Rattle.graph_solve.specs.Rows.{AreSameElsewhere, set_at}
use Rattle.graph_solve.proofs.Bitsets.{in_row}
use Rattle.graph_solve.proofs.RowSets.{row_elsewhere}

-- one change of a row behind another
pub then_elsewhere : (row : ℕ) (old some new : List (List Bool)) → AreSameElsewhere row old some → AreSameElsewhere row some new → AreSameElsewhere row old new
then_elsewhere row old some new one two = record {
  count = two.count ∙ one.count;
  width = two.width ∙ one.width;
  others = λ other ne. two.others other ne ∙ one.others other ne;
}

pub none_elsewhere : (row : ℕ) (rows : List (List Bool)) → AreSameElsewhere row rows rows
none_elsewhere row rows = record { count = refl; width = refl; others = λ other ne. refl }

-- a bit that is put
module _ (rows : List (List Bool)) (row bit : ℕ) (b : Bool) (lt : row < length rows) where
  row_put : row_at (with_bit rows row bit b) row ≡ set (row_at rows row) bit b
  row_put = get_or-set_same rows row (set (row_at rows row) bit b) [] lt

  pub bit_put : bit < length (row_at rows row) → is_set (with_bit rows row bit b) row bit ≡ b
  bit_put within = ap (λ r. get_or r bit false) row_put ∙ get_or-set_same (row_at rows row) bit b false within

  pub others_put : (other : ℕ) → (other ≡ bit → ⊥) → is_set (with_bit rows row bit b) row other ≡ is_set rows row other
  others_put other ne = ap (λ r. get_or r other false) row_put ∙ get_or-set_other (row_at rows row) bit other b false ne

-- a word that is put
module _ (rows : List (List Bool)) (row index word : ℕ) (lt : row < length rows) where
  pub word_elsewhere : AreSameElsewhere row rows (slice_set rows row (with_word (row_at rows row) index word))
  word_elsewhere = row_elsewhere rows row (with_word (row_at rows row) index word) lt (word_length (row_at rows row) index word)

  pub word_more : (so : ℕ → Bool) → 64 * index + 64 ≤ length (row_at rows row) → ((k : ℕ) → k < 64 → (bit_at word k == 1) ≡ so (64 * index + k)) → ((bit : ℕ) → bit < 64 * index → is_set rows row bit ≡ so bit)
      → (bit : ℕ) → bit < 64 * (index + 1) → is_set (slice_set rows row (with_word (row_at rows row) index word)) row bit ≡ so bit
  word_more so full here before bit less = elim (cases_lt bit (64 * index)) [
    | inl early ↦ word_others rows row index word bit lt (λ e. omega (arith, e, early)) ∙ before bit early
    | inr late ↦
        let k = bit - 64 * index in
        let is : 64 * index + k ≡ bit = omega (arith, late) in
        let small : k < 64 = omega (arith, less, late) in
        ap (is_set (slice_set rows row (with_word (row_at rows row) index word)) row) (sym is) ∙ word_there rows row index word k lt full small ∙ here k small ∙ ap so is
  ]

-- rows of one width with the same bits are one set
pub same_sets : (new : List (List Bool)) (row : ℕ) (marks : Marks) (from width : ℕ) → from < marks.count → marks.width ≡ width → length (row_at new row) ≡ width → ((bit : ℕ) → bit < width → is_set new row bit ≡ bits_of marks from bit)
    → set_at new row ≡ set_at marks.rows from
same_sets new row marks from width inside wide size same = equal _ _ (λ q. in_row (row_at new row) q ∙ bit_same q ∙ sym (in_row (row_at marks.rows from) q))
  where
    there : length (row_at marks.rows from) ≡ marks.width
    there = (let each = marks.each in marks.wide from (omega (arith, inside, each)))

    bit_same : (q : ℕ) → is_set new row q ≡ is_set marks.rows from q
    bit_same q = elim (cases_lt q width) [
      | inl lt ↦ same q lt
      | inr ge ↦ get_or_past (row_at new row) q false (omega (arith, size, ge)) ∙ sym (get_or_past (row_at marks.rows from) q false (omega (arith, there, wide, ge)))
    ]
