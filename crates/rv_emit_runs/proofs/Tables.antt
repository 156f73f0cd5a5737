-- What tables of writers tell, piece by piece.
use Rattle.std.proofs.Common.{◌≡◌, ◌≢◌, ℕ, zero, suc, ◌+◌, ◌-◌, ◌<◌, ◌≤◌, Bool, true, false, Option, Some, None, if◌then◌else◌, cond, List, [], ◌∷◌, ◌++◌, length, slice_get, slice_set, refl, sym, ap, ◌∙◌, subst, arith}
use Rattle.std.specs.Option.{option_map_or}
use Rattle.std.specs.List.{AllByRecursion}
use Rattle.std.proofs.lemmas.List.{length-set}
use Rattle.std.proofs.lemmas.Option.{slice_get_within}
use Rattle.rv_code.specs.declared.instruction.Instruction.{Instruction}
use Rattle.rv_emit_words.specs.declared.piece.PlacedPiece.{PlacedPiece}
use Rattle.rv_emit_steps.proofs.Objects.{set_elsewhere, set_here}
use Rattle.rv_emit_runs.proofs.Lists.{get_some}
use Rattle.rv_emit_sequence.specs.Sequences.{counted}
use Rattle.rv_emit_layout.specs.Layouts.{LayoutForm}
use Rattle.rv_emit_layout.specs.Tracing.{piece_address, with_writer, with_writers}
use Rattle.rv_emit_runs.proofs.Forms.{choice, perhaps}
use Rattle.rv_emit_runs.proofs.Marking.{writer_pieces}

-- No piece is told to write for a number.
abbrev pub AreOthers : (number : ℕ) → List PlacedPiece → Type 0
AreOthers n pieces = AllByRecursion (λ (x : PlacedPiece). x.writes ≢ Some n) pieces

module _ (l : LayoutForm) (first : ℕ) (asked : ℕ → Bool) where
  put_count : (a : ℕ) (x : PlacedPiece) (table : List ℕ) → length (with_writer a x table) ≡ length table
  put_count a x table = perhaps (λ (t : List ℕ). length t ≡ length table) (λ n. slice_set table n a) x.writes table (λ n at. length-set table n a) refl

  step_count : (i : ℕ) (x : PlacedPiece) (table : List ℕ) → length (if asked i then with_writer (piece_address l first i) x table else table) ≡ length table
  step_count i x table = choice (λ (t : List ℕ). length t ≡ length table) (asked i) (with_writer (piece_address l first i) x table) table (λ e. put_count (piece_address l first i) x table) (λ e. refl)

  pub table_count : (i : ℕ) (pieces : List PlacedPiece) (table : List ℕ) → length (with_writers l first asked i pieces table) ≡ length table
  table_count i [] table = refl
  table_count i (x ∷ more) table = table_count (counted (i + 1)) more (if asked i then with_writer (piece_address l first i) x table else table) ∙ step_count i x table

  -- What is told for a number stays where no piece is told to write for it.
  put_other : (n a : ℕ) (x : PlacedPiece) (table : List ℕ) → x.writes ≢ Some n → slice_get (with_writer a x table) n ≡ slice_get table n
  put_other n a x table other = perhaps (λ (t : List ℕ). slice_get t n ≡ slice_get table n) (λ m. slice_set table m a) x.writes table (λ m at. set_elsewhere table m n a (λ e. other (at ∙ ap (λ k. Some k) (sym e)))) refl

  pub others_keep : (n i : ℕ) (pieces : List PlacedPiece) (table : List ℕ) → AreOthers n pieces → slice_get (with_writers l first asked i pieces table) n ≡ slice_get table n
  others_keep n i [] table others = refl
  others_keep n i (x ∷ more) table others =
      others_keep n (counted (i + 1)) more (if asked i then with_writer (piece_address l first i) x table else table) others.1
      ∙ choice (λ (t : List ℕ). slice_get t n ≡ slice_get table n) (asked i) (with_writer (piece_address l first i) x table) table (λ e. put_other n (piece_address l first i) x table others.0) (λ e. refl)

  -- Pieces of which none is asked for tell nothing.
  pub unasked_keep : (n i : ℕ) (pieces : List PlacedPiece) (table : List ℕ) → i + length pieces ≤ 4294967295 → ((j : ℕ) → i ≤ j → j < i + length pieces → asked j ≡ false) → slice_get (with_writers l first asked i pieces table) n ≡ slice_get table n
  unasked_keep n i [] table few none = refl
  unasked_keep n i (x ∷ more) table few none =
      let next : counted (i + 1) ≡ i + 1 = omega (arith, few) in
      unasked_keep n (counted (i + 1)) more (if asked i then with_writer (piece_address l first i) x table else table) (omega (arith, few, next)) (λ j le lt. none j (omega (arith, le, next)) (omega (arith, lt, next)))
      ∙ ap (λ b. slice_get (if b then with_writer (piece_address l first i) x table else table) n) (none i (omega arith) (omega arith))

  pub tables_then : (i : ℕ) (front back : List PlacedPiece) (table : List ℕ) → i + length front ≤ 4294967295 → with_writers l first asked i (front ++ back) table ≡ with_writers l first asked (i + length front) back (with_writers l first asked i front table)
  tables_then i [] back table few = let none : i ≡ i + 0 = omega arith in ap (λ j. with_writers l first asked j back table) none
  tables_then i (x ∷ front) back table few =
      let next : counted (i + 1) ≡ i + 1 = omega (arith, few) in
      let end : counted (i + 1) + length front ≡ i + length (x ∷ front) = omega (arith, next) in
      tables_then (counted (i + 1)) front back (if asked i then with_writer (piece_address l first i) x table else table) (omega (arith, few, next))
      ∙ ap (λ j. with_writers l first asked j back (with_writers l first asked (counted (i + 1)) front (if asked i then with_writer (piece_address l first i) x table else table))) end

  -- The last of words that write a home is told for its number.
  pub writer_tells : (n i owner : ℕ) (stops : Bool) (code : List Instruction) (table : List ℕ) → 1 ≤ length code → i + length code ≤ 4294967295 → n < length table → asked (i + length code - 1) ≡ true
      → slice_get (with_writers l first asked i (writer_pieces n owner stops code) table) n ≡ Some (piece_address l first (i + length code - 1))
  writer_tells n i owner stops [] table some few low there_asked = absurd (omega (arith, some))
  writer_tells n i owner stops (x ∷ []) table some few low there_asked =
      let here : i + length (x ∷ []) - 1 ≡ i = omega arith in
      let one = get_some table n low in
      ap (λ b. slice_get (if b then slice_set table n (piece_address l first i) else table) n) (ap asked (sym here) ∙ there_asked) ∙ set_here table n one.0 (piece_address l first i) one.1 ∙ ap (λ j. Some (piece_address l first j)) (sym here)
  writer_tells n i owner stops (x ∷ y ∷ more) table some few low there_asked =
      let next : counted (i + 1) ≡ i + 1 = omega (arith, few) in
      let end : i + 1 + length (y ∷ more) - 1 ≡ i + length (x ∷ y ∷ more) - 1 = omega arith in
      ap (λ t. slice_get (with_writers l first asked (counted (i + 1)) (writer_pieces n owner false (y ∷ more)) t) n) (choice (λ (t : List ℕ). t ≡ table) (asked i) table table (λ e. refl) (λ e. refl))
      ∙ ap (λ j. slice_get (with_writers l first asked j (writer_pieces n owner false (y ∷ more)) table) n) next
      ∙ writer_tells n (i + 1) owner false (y ∷ more) table (omega arith) (omega (arith, few)) low (ap asked end ∙ there_asked) ∙ ap (λ j. Some (piece_address l first j)) end
