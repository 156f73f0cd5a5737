-- Where a word stands that a table tells as a writer, and what the table tells for it.
use Rattle.std.proofs.Common.{◌≡◌, ◌≢◌, ℕ, zero, suc, ◌+◌, ◌-◌, ◌<◌, ◌≤◌, Bool, true, false, Option, Some, List, [], ◌∷◌, ◌++◌, length, slice_get, slice_index, get_or, refl, sym, ap, ◌∙◌, subst, arith, append_assoc}
use Rattle.std.specs.List.{AllByRecursion}
use Rattle.std.proofs.lemmas.List.{length-append}
use Rattle.rv_code.specs.declared.instruction.Instruction.{Instruction}
use Rattle.graph_homes.specs.declared.home.Home.{Home}
use Rattle.rv_emit_words.specs.declared.piece.Piece.{Piece}
use Rattle.rv_emit_words.specs.declared.piece.Piece.TheVariants as piece
use Rattle.rv_emit_words.specs.declared.piece.PlacedPiece.{PlacedPiece}
use Rattle.rv_emit_storage.specs.Storages.{StorageForm}
use Rattle.rv_emit_code.specs.Ends.{words}
use Rattle.rv_emit_steps.specs.Programs.{Program, address_of}
use Rattle.rv_emit_runs.specs.Pieces.{Targets}
use Rattle.rv_emit_runs.specs.Placed.{placed_pieces}
use Rattle.rv_emit_runs.proofs.Appended.{marked_there}
use Rattle.rv_emit_runs.proofs.Lists.{get_some}
use Rattle.rv_emit_sequence.specs.Sequences.{SequenceForm}
use Rattle.rv_emit_layout.specs.declared.reaching.Reach.TheVariants.{Near}
use Rattle.rv_emit_layout.specs.declared.reaching.Reach.{Reach}
use Rattle.rv_emit_layout.specs.Reaches.{width}
use Rattle.rv_emit_layout.specs.Layouts.{LayoutForm, words_before, most_pieces}
use Rattle.rv_emit_layout.specs.Tracing.{piece_address, with_writers}
use Rattle.rv_emit_layout.proofs.Layouts.{words_more}
use Rattle.rv_emit_runs.specs.EmitPlacedStanding.{targets_of}
use Rattle.rv_emit_runs.specs.Writing.{IsWriter, IsWriting}
use Rattle.rv_emit_runs.proofs.Marking.{writer_count, writer_pieces}
use Rattle.rv_emit_runs.proofs.Pieces.{FunctionThere, part_there, words_step}
use Rattle.rv_emit_runs.proofs.Stops.{address_is}
use Rattle.rv_emit_runs.proofs.Tables.{table_count, tables_then, writer_tells}
use Rattle.rv_emit_runs.proofs.Writers.{WordsThere, words_there, writing_some}

-- ---- Words

piece_at : (ahead : List PlacedPiece) (x : PlacedPiece) (rest : List PlacedPiece) → slice_get (ahead ++ x ∷ rest) (length ahead) ≡ Some x
piece_at [] x rest = refl
piece_at (y ∷ ahead) x rest = piece_at ahead x rest

-- A piece is a word: it has one, wherever it stands.
abbrev IsWord : Piece → Type 0
IsWord (piece.Word i) = Unit {0}
IsWord (piece.Jump to) = ⊥
IsWord (piece.Branch op l r to) = ⊥
IsWord (piece.Call f) = ⊥

abbrev AreWords : List PlacedPiece → Type 0
AreWords pieces = AllByRecursion (λ (x : PlacedPiece). IsWord x.piece) pieces

word_width : (x : Reach) (q : Piece) → IsWord q → width x q ≡ 1
word_width x (piece.Word i) is = refl
word_width x (piece.Jump to) is = absurd is
word_width x (piece.Branch op l r to) is = absurd is
word_width x (piece.Call f) is = absurd is

-- Words that write a home are.
writer_words : (n owner : ℕ) (stops : Bool) (code : List Instruction) → AreWords (writer_pieces n owner stops code)
writer_words n owner stops [] = tt
writer_words n owner stops (i ∷ []) = (tt, tt)
writer_words n owner stops (i ∷ j ∷ more) = (tt, writer_words n owner false (j ∷ more))

words_on : (reaches : List Reach) (pieces ahead part rest : List PlacedPiece) → pieces ≡ ahead ++ (part ++ rest) → AreWords part → (r : ℕ) → r ≤ length part → words_before reaches pieces (length ahead + r) ≡ words_before reaches pieces (length ahead) + r
words_on reaches pieces ahead [] rest is are r le =
    let none : r ≡ 0 = omega (arith, le) in
    let here : length ahead + r ≡ length ahead = omega (arith, none) in
    ap (words_before reaches pieces) here ∙ (omega (arith, none))
words_on reaches pieces ahead (x ∷ part) rest is are zero le = let here : length ahead + 0 ≡ length ahead = omega arith in ap (words_before reaches pieces) here ∙ (omega arith)
words_on reaches pieces ahead (x ∷ part) rest is are (suc r) le =
    let at : slice_get pieces (length ahead) ≡ Some x = ap (λ (q : List PlacedPiece). slice_get q (length ahead)) is ∙ piece_at ahead x (part ++ rest) in
    let step : words_before reaches pieces (length ahead + 1) ≡ words_before reaches pieces (length ahead) + width (get_or reaches (length ahead) Near) x.piece = words_step reaches pieces (length ahead) x at in
    let one : width (get_or reaches (length ahead) Near) x.piece ≡ 1 = word_width (get_or reaches (length ahead) Near) x.piece are.0 in
    let count : length (ahead ++ x ∷ []) ≡ length ahead + 1 = length-append ahead (x ∷ []) in
    let later : words_before reaches pieces (length (ahead ++ x ∷ []) + r) ≡ words_before reaches pieces (length (ahead ++ x ∷ [])) + r =
    words_on reaches pieces (ahead ++ x ∷ []) part rest (is ∙ sym (append_assoc ahead (x ∷ []) (part ++ rest))) are.1 r (omega (arith, le)) in
    let index : length ahead + suc r ≡ length (ahead ++ x ∷ []) + r = omega (arith, count) in
    let front : words_before reaches pieces (length (ahead ++ x ∷ [])) ≡ words_before reaches pieces (length ahead + 1) = ap (words_before reaches pieces) count in
    ap (words_before reaches pieces) index ∙ later ∙ (omega (arith, front, step, one))

-- ---- The word, and its address

-- A word that writes a home stands behind a piece of a function, belongs to a place, and has the address of another piece.
pub record WordThere (p : Program) (owners : List ℕ) (s : SequenceForm) (y : LayoutForm) (first : ℕ) (g : StorageForm) (home : Home) (place start last : ℕ) : Type 0 where
  pub index : ℕ
  pub within : first + words_before y.reaches s.pieces start ≤ index
  pub writes : IsWriter g p.words home index
  pub own : slice_index owners index ≡ place
  pub address : piece_address y first last ≡ address_of index

module _ (p : Program) (owners : List ℕ) (s : SequenceForm) (y : LayoutForm) (first : ℕ) (firsts : List ℕ) (there : FunctionThere p owners s y first firsts) where
  -- The last of words that write a home, where all are in parts.
  pub word_there : (g : StorageForm) (home : Home) (n place : ℕ) (ahead inner back : List PlacedPiece) (code : List Instruction) (stops : Bool) → s.pieces ≡ ahead ++ ((inner ++ writer_pieces n place stops code) ++ back) → IsWriting g home code
      → WordThere p owners s y first g home place (length ahead) (length ahead + length inner + length code - 1)
  word_there g home n place ahead inner back code stops pieces writes =
      let mine : List PlacedPiece = writer_pieces n place stops code in
      let front : List PlacedPiece = ahead ++ inner in
      let t : Targets = targets_of owners s y first firsts in
      let from : ℕ = first + words_before y.reaches s.pieces (length front) in
      let end : ℕ = first + words_before y.reaches s.pieces (length front + length mine) in
      let again : s.pieces ≡ front ++ (mine ++ back) = pieces ∙ ap (λ q. ahead ++ q) (append_assoc inner mine back) ∙ sym (append_assoc ahead inner (mine ++ back)) in
      let total = ap (λ (q : List PlacedPiece). length q) again in
      let counts = length-append front (mine ++ back) in
      let parts = length-append mine back in
      let joint = length-append ahead inner in
      let mine_count : length mine ≡ length code = writer_count n place stops code in
      let some : 1 ≤ length code = writing_some g home code writes in
      let stand : WordsThere p t from end place code = words_there p t from end place stops code (marked_there p t from n (placed_pieces place stops (words code)) end (part_there p owners s y first firsts there front mine back again)) in
      let ends : end ≡ from + length code = stand.is in
      let before : words_before y.reaches s.pieces (length ahead) ≤ words_before y.reaches s.pieces (length front) = words_more y.reaches s.pieces (length ahead) (length front) (omega (arith, joint)) in
      let last : ℕ = length front + (length code - 1) in
      let index : length ahead + length inner + length code - 1 ≡ last = omega (arith, some, joint) in
      let words_last : words_before y.reaches s.pieces last ≡ words_before y.reaches s.pieces (length front) + (length code - 1) =
      words_on y.reaches s.pieces front mine back again (writer_words n place stops code) (length code - 1) (omega (arith, mine_count)) in
      let found = get_some s.pieces last (omega (arith, total, counts, parts, mine_count, some)) in
      let address : piece_address y first last ≡ address_of (first + words_before y.reaches s.pieces last) = address_is there.room p.map s y first there.layout there.stands.low last found.0 found.1 in
      let same : first + words_before y.reaches s.pieces last ≡ end - 1 = omega (arith, words_last, ends, some) in
      record {
        index = end - 1;
        within = omega (arith, ends, before, some);
        writes = record { from = from; last = code; there = stand.there; writes = writes; is = omega (arith, ends, some) };
        own = stand.owners (end - 1) (omega (arith, ends, some)) (omega (arith, ends, some));
        address = ap (λ k. piece_address y first k) index ∙ address ∙ ap address_of same;
      }

  -- What a table tells for it, where what stands behind it tells nothing else.
  pub told_there : (asked : ℕ → Bool) (n place : ℕ) (tab : List ℕ) (ahead back : List PlacedPiece) (code : List Instruction) (stops : Bool) → s.pieces ≡ ahead ++ (writer_pieces n place stops code ++ back) → 1 ≤ length code → n < length tab
      → asked (length ahead + length code - 1) ≡ true → ((t : List ℕ) → slice_get (with_writers y first asked (length ahead + length (writer_pieces n place stops code)) back t) n ≡ slice_get t n)
      → slice_get (with_writers y first asked 0 s.pieces tab) n ≡ Some (piece_address y first (length ahead + length code - 1))
  told_there asked n place tab ahead back code stops pieces some inside there_asked keeps =
      let mine : List PlacedPiece = writer_pieces n place stops code in
      let total = ap (λ (q : List PlacedPiece). length q) pieces in
      let counts = length-append ahead (mine ++ back) in
      let parts = length-append mine back in
      let mine_count : length mine ≡ length code = writer_count n place stops code in
      let most : length s.pieces ≤ most_pieces = there.few in
      let none : 0 + length ahead ≡ length ahead = omega arith in
      let mine_low : length ahead + length mine ≤ 4294967295 = omega (arith, total, counts, parts, most) in
      let code_low : length ahead + length code ≤ 4294967295 = omega (arith, total, counts, parts, mine_count, most) in
      let ahead_low : 0 + length ahead ≤ 4294967295 = omega (arith, total, counts, most) in
      let before : List ℕ = with_writers y first asked 0 ahead tab in
      let before_count : length before ≡ length tab = table_count y first asked 0 ahead tab in
      ap (λ q. slice_get (with_writers y first asked 0 q tab) n) pieces ∙ ap (λ t. slice_get t n) (tables_then y first asked 0 ahead (mine ++ back) tab ahead_low)
      ∙ ap (λ k. slice_get (with_writers y first asked k (mine ++ back) before) n) none ∙ ap (λ t. slice_get t n) (tables_then y first asked (length ahead) mine back before mine_low) ∙ keeps (with_writers y first asked (length ahead) mine before)
      ∙ writer_tells y first asked n (length ahead) place stops code before some code_low (omega (arith, before_count, inside)) there_asked
