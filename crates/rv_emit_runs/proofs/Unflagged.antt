-- No stop begins in the beginning and in the end of a function, and each that begins in it does in a block.
use Rattle.std.proofs.Common.{◌≡◌, ℕ, zero, suc, ◌+◌, ◌-◌, ◌%◌, ◌<◌, ◌≤◌, ◌⊎◌, inl, inr, Bool, false, None, Some, List, [], ◌∷◌, ◌++◌, length, map, slice_get, slice_index, refl, sym, ap, ◌∙◌, subst, append_assoc, arith}
use Rattle.std.specs.List.{AllByRecursion}
use Rattle.std.proofs.lemmas.Bool.{true≢false}
use Rattle.std.proofs.lemmas.List.{length-append, length-map}
use Rattle.rv_emit_layout.specs.Layouts.{most_pieces}
use Rattle.rv_code.specs.declared.instruction.Instruction.{Instruction}
use Rattle.rv_code.specs.declared.instruction.Instruction.TheVariants.{Load, Immediate, Jalr}
use Rattle.rv_code.specs.declared.instruction.LoadOperation.TheVariants.{Lw}
use Rattle.rv_code.specs.declared.instruction.ImmediateOperation.TheVariants.{Addi}
use Rattle.graph_core.specs.Graphs.{Binding, Graph}
use Rattle.rv_emit_words.specs.declared.piece.Piece.TheVariants.{Word}
use Rattle.rv_emit_words.specs.declared.piece.PlacedPiece.{PlacedPiece}
use Rattle.rv_emit_storage.specs.Storages.{StorageForm}
use Rattle.rv_emit_words.specs.Growing.{CodeState, marked, with_code, with_piece}
use Rattle.rv_emit_instructions.specs.Calls.{argument_register}
use Rattle.rv_emit_code.specs.Beginning.{base_code, binding_code, entering_code, guard_code, with_bindings, with_writer}
use Rattle.rv_emit_code.specs.Blocks.{no_code}
use Rattle.rv_emit_code.specs.Leaving.{moving_by, of_no_place, restoring_code, words_of_moving}
use Rattle.rv_emit_sequence.specs.Sequences.{Ground, SequenceForm, Standing, counted, standing_code, standing_pieces, all_pieces, numbered, first_pieces, last_pieces, AreLabelled, IsSequenceOf}
use Rattle.rv_emit_runs.proofs.Stops.{all_append}
use Rattle.rv_emit_runs.proofs.UnitStops.{StopsAreInBlocks}

-- None of some pieces is a stop.
abbrev pub NoStops : List PlacedPiece → Type 0
NoStops pieces = AllByRecursion (λ (x : PlacedPiece). x.is_stop ≡ false) pieces

code_unflagged : (code : List Instruction) (s : CodeState) → s.begins ≡ false → NoStops s.pieces → NoStops (with_code code s).pieces × ((with_code code s).begins ≡ false)
code_unflagged [] s begins none = (none, begins)
code_unflagged (i ∷ more) s begins none =
    code_unflagged more (with_piece (Word i) s) refl (all_append (λ (x : PlacedPiece). x.is_stop ≡ false) s.pieces ((record { piece = Word i; owner = s.owner; is_stop = s.begins; writes = None }) ∷ []) none (begins, tt))

marked_unflagged : (n : ℕ) (pieces : List PlacedPiece) → NoStops pieces → NoStops (marked n pieces)
marked_unflagged n [] none = tt
marked_unflagged n (x ∷ []) none = (none.0, tt)
marked_unflagged n (x ∷ y ∷ more) none = (none.0, marked_unflagged n (y ∷ more) none.1)

bindings_unflagged : (g : StorageForm) (f : Graph) (n : ℕ) (all : List Binding) (s : CodeState) → s.begins ≡ false → NoStops s.pieces → NoStops (with_bindings g f n all s).pieces
bindings_unflagged g f n [] s begins none = none
bindings_unflagged g f n (b ∷ more) s begins none =
    let code = code_unflagged (binding_code g f (argument_register n) b) s begins none in
    bindings_unflagged g f ((n + 1) % 4294967296) more (with_writer n (with_code (binding_code g f (argument_register n) b) s)) code.1 (marked_unflagged n (with_code (binding_code g f (argument_register n) b) s).pieces code.0)

pub first_unflagged : (g : Ground) (f : Graph) (is_main : Bool) → NoStops (first_pieces g f is_main)
first_unflagged g f is_main =
    let code = code_unflagged (guard_code ++ entering_code g.saved g.size ++ base_code is_main g.storage.base) (no_code g.entry []) refl tt in
    bindings_unflagged g.storage f 0 f.parameters (with_code (guard_code ++ entering_code g.saved g.size ++ base_code is_main g.storage.base) (no_code g.entry [])) code.1 code.0

pub last_unflagged : (g : Ground) → NoStops (last_pieces g)
last_unflagged g =
    let one = code_unflagged (Immediate Addi 4 4 1 ∷ []) (no_code 0 []) refl tt in
    (code_unflagged (restoring_code g.saved 4 ++ Load Lw 1 2 0 ∷ moving_by (words_of_moving g.size) g.size ++ Jalr 0 1 0 ∷ []) (of_no_place (with_code (Immediate Addi 4 4 1 ∷ []) (no_code 0 []))) one.1 one.0).0

-- ---- Where a piece stands

pub unflagged_at : (pieces : List PlacedPiece) (k : ℕ) (x : PlacedPiece) → NoStops pieces → slice_get pieces k ≡ Some x → x.is_stop ≡ false
unflagged_at [] k x none e = cc
unflagged_at (y ∷ more) zero x none e = let same : y ≡ x = cc in subst (λ (z : PlacedPiece). z.is_stop ≡ false) same none.0
unflagged_at (y ∷ more) (suc k) x none e = unflagged_at more k x none.1 e

-- An element of a list in two parts is in one of them.
in_parts : (xs ys : List PlacedPiece) (k : ℕ) (x : PlacedPiece) → slice_get (xs ++ ys) k ≡ Some x → ((k < length xs) × (slice_get xs k ≡ Some x)) ⊎ ((length xs ≤ k) × (slice_get ys (k - length xs) ≡ Some x))
in_parts [] ys k x e = inr (omega arith, (let z : k - 0 ≡ k = omega arith in ap (λ j. slice_get ys j) z ∙ e))
in_parts (y ∷ xs) ys zero x e = inl (omega arith, e)
in_parts (y ∷ xs) ys (suc k) x e = by_part (in_parts xs ys k x e)
  where
    by_part : ((k < length xs) × (slice_get xs k ≡ Some x)) ⊎ ((length xs ≤ k) × (slice_get ys (k - length xs) ≡ Some x)) → ((suc k < length (y ∷ xs)) × (slice_get xs k ≡ Some x)) ⊎ ((length (y ∷ xs) ≤ suc k) × (slice_get ys (suc k - length (y ∷ xs)) ≡ Some x))
    by_part (inl (low, at)) = inl (omega (arith, low), at)
    by_part (inr (high, at)) = inr (omega (arith, high), (let z : suc k - length (y ∷ xs) ≡ k - length xs = omega arith in ap (λ j. slice_get ys j) z ∙ at))

-- It is in one of the blocks, or behind all of them.
in_blocks : (g : Ground) (s : SequenceForm) (blocks : ℕ) (all : List Standing) (i k : ℕ) (x : PlacedPiece) → AreLabelled g s i all → AllByRecursion (λ n. n < blocks) (map (λ (x : Standing). x.number) all) → i + length (all_pieces g s.numbers all) ≤ 4294967295
    → slice_get (all_pieces g s.numbers all) k ≡ Some x → (b : ℕ) × (b < blocks) × (slice_index s.labels b ≤ i + k) × (i + k < slice_index s.ends b)
in_blocks g s blocks [] i k x labelled low few e = cc
in_blocks g s blocks (y ∷ more) i k x labelled low few e =
    by_part (λ at. in_blocks g s blocks more (i + length (standing_code g y).pieces) (k - length (standing_pieces g s.numbers y)) x labelled.2 low.1 (let all = length-append (standing_pieces g s.numbers y) (all_pieces g s.numbers more) in omega (arith, all, few, count)) at)
    (in_parts (standing_pieces g s.numbers y) (all_pieces g s.numbers more) k x e)
  where
    count : length (standing_pieces g s.numbers y) ≡ length (standing_code g y).pieces
    count = length-map (standing_code g y).pieces (numbered (slice_index s.numbers y.number))

    by_part : (slice_get (all_pieces g s.numbers more) (k - length (standing_pieces g s.numbers y)) ≡ Some x → (b : ℕ) × (b < blocks) × (slice_index s.labels b ≤ i + length (standing_code g y).pieces + (k - length (standing_pieces g s.numbers y))) × (i + length (standing_code g y).pieces + (k - length (standing_pieces g s.numbers y)) < slice_index s.ends b))
        → ((k < length (standing_pieces g s.numbers y)) × (slice_get (standing_pieces g s.numbers y) k ≡ Some x)) ⊎ ((length (standing_pieces g s.numbers y) ≤ k) × (slice_get (all_pieces g s.numbers more) (k - length (standing_pieces g s.numbers y)) ≡ Some x))
        → (b : ℕ) × (b < blocks) × (slice_index s.labels b ≤ i + k) × (i + k < slice_index s.ends b)
    by_part rest (inl (inside, at)) =
        let label : slice_index s.labels y.number ≡ counted i = labelled.0 in
        let end : slice_index s.ends y.number ≡ counted (i + length (standing_code g y).pieces) = labelled.1 in
        let all = length-append (standing_pieces g s.numbers y) (all_pieces g s.numbers more) in
        (y.number, low.0, omega (arith, label), omega (arith, end, inside, count, all, few))
    by_part rest (inr (outside, at)) =
        let later = rest at in
        let from = later.2 in
        let to = later.3 in
        (later.0, later.1, omega (arith, from, outside, count), omega (arith, to, outside, count))

-- Stops begin in blocks.
pub stops_in_blocks : (g : Ground) (f : Graph) (is_main : Bool) (s : SequenceForm) → IsSequenceOf g f is_main s → length s.pieces ≤ most_pieces → StopsAreInBlocks s
stops_in_blocks g f is_main s sequence few k x e flag = by_first (in_parts (first_pieces g f is_main) (all_pieces g s.numbers sequence.standing ++ last_pieces g) k x (ap (λ l. slice_get l k) (sym whole) ∙ e))
  where
    whole : s.pieces ≡ first_pieces g f is_main ++ (all_pieces g s.numbers sequence.standing ++ last_pieces g)
    whole = sequence.pieces ∙ append_assoc (first_pieces g f is_main) (all_pieces g s.numbers sequence.standing) (last_pieces g)

    count : length s.pieces ≡ length (first_pieces g f is_main) + (length (all_pieces g s.numbers sequence.standing) + length (last_pieces g))
    count = ap (λ (l : List PlacedPiece). length l) whole ∙ length-append (first_pieces g f is_main) (all_pieces g s.numbers sequence.standing ++ last_pieces g)
        ∙ ap (λ n. length (first_pieces g f is_main) + n) (length-append (all_pieces g s.numbers sequence.standing) (last_pieces g))

    by_last : (m : ℕ) → length (first_pieces g f is_main) + m ≡ k → ((m < length (all_pieces g s.numbers sequence.standing)) × (slice_get (all_pieces g s.numbers sequence.standing) m ≡ Some x)) ⊎ ((length (all_pieces g s.numbers sequence.standing) ≤ m) × (slice_get (last_pieces g) (m - length (all_pieces g s.numbers sequence.standing)) ≡ Some x))
        → (b : ℕ) × (b < length s.ends) × (slice_index s.labels b ≤ k) × (k < slice_index s.ends b)
    by_last m index (inl (low, at)) =
        let found = in_blocks g s (length f.blocks) sequence.standing (length (first_pieces g f is_main)) m x sequence.labels sequence.order.low (omega (arith, count, few)) at in
        let low : found.0 < length f.blocks = found.1 in
        let ends : length s.ends ≡ length f.blocks = sequence.end_count in
        (found.0, omega (arith, low, ends), subst (λ n. slice_index s.labels found.0 ≤ n) index found.2, subst (λ n. n < slice_index s.ends found.0) index found.3)
    by_last m index (inr (high, at)) = absurd (true≢false (sym flag ∙ unflagged_at (last_pieces g) (m - length (all_pieces g s.numbers sequence.standing)) x (last_unflagged g) at))

    by_first : ((k < length (first_pieces g f is_main)) × (slice_get (first_pieces g f is_main) k ≡ Some x)) ⊎ ((length (first_pieces g f is_main) ≤ k) × (slice_get (all_pieces g s.numbers sequence.standing ++ last_pieces g) (k - length (first_pieces g f is_main)) ≡ Some x))
        → (b : ℕ) × (b < length s.ends) × (slice_index s.labels b ≤ k) × (k < slice_index s.ends b)
    by_first (inl (low, at)) = absurd (true≢false (sym flag ∙ unflagged_at (first_pieces g f is_main) k x (first_unflagged g f is_main) at))
    by_first (inr (high, at)) = by_last (k - length (first_pieces g f is_main)) (omega (arith, high)) (in_parts (all_pieces g s.numbers sequence.standing) (last_pieces g) (k - length (first_pieces g f is_main)) x at)
