-- Which places the pieces of code begin: those of its markers, but the entry.
use Rattle.std.proofs.Common.{◌≡◌, ℕ, ◌+◌, ◌%◌, ◌==◌, ◌||◌, not, nat_le, cond, filter, Bool, true, false, Option, Some, None, List, [], ◌∷◌, ◌++◌, length, map, refl, sym, ap, ◌∙◌, append_assoc, append-nil}
use Rattle.std.specs.Option.{option_map_or}
use Rattle.rv_code.specs.declared.instruction.Instruction.{Instruction}
use Rattle.rv_code.specs.declared.instruction.Instruction.TheVariants as instruction
use Rattle.rv_code.specs.declared.instruction.ImmediateOperation.TheVariants.{Addi}
use Rattle.rv_code.specs.declared.instruction.LoadOperation.TheVariants.{Lw}
use Rattle.rv_code.specs.declared.instruction.BranchOperation.{BranchOperation}
use Rattle.graph_core.specs.declared.block.Comparison.{Comparison}
use Rattle.graph_core.specs.declared.instruction.Callee.{Callee}
use Rattle.graph_core.specs.declared.instruction.Callee.TheVariants as callee
use Rattle.graph_core.specs.Graphs.{Operand, Block, End, Jump, Branch, Return, Instruction as UnitInstruction, Marker, Note, Move, Operate, Truncate, Same, Address, Load, Store, Zero, CopyWords, Call}
use Rattle.graph_core.specs.Uses.{target_of}
use Rattle.graph_core.specs.Validity.{markers_in}
use Rattle.rv_emit_words.specs.declared.piece.Held.{Held}
use Rattle.rv_emit_words.specs.declared.piece.Piece.{Piece}
use Rattle.rv_emit_words.specs.declared.piece.Piece.TheVariants as piece
use Rattle.rv_emit_words.specs.declared.piece.PlacedPiece.{PlacedPiece}
use Rattle.rv_emit_storage.specs.declared.storage.Source.{Source}
use Rattle.rv_emit_storage.specs.declared.storage.Source.TheVariants.{Home as OfHome, Word}
use Rattle.rv_emit_storage.specs.Storages.{StorageForm, home_at, source_of}
use Rattle.rv_emit_words.specs.Growing.{CodeState, marked, settled, with_code, with_piece}
use Rattle.rv_emit_words.specs.Operands.{bringing, home_written, source_register}
use Rattle.rv_emit_instructions.specs.Calls.{answered, argument_register, called, environment_called, forgetting, passed, passed_from}
use Rattle.rv_emit_instructions.specs.Operations.{operation_code, truncation_code, comparison_code, move_code}
use Rattle.rv_emit_instructions.specs.Code.{with_instruction}
use Rattle.rv_emit_instructions.specs.Filling.{zero_code, copy_code}
use Rattle.rv_emit_instructions.specs.Memory.{load_code, store_code, object_address_code}
use Rattle.rv_emit_code.specs.Beginning.{with_writer}
use Rattle.rv_emit_code.specs.Blocks.{block_code, no_code, with_instructions, with_numbered}
use Rattle.rv_emit_code.specs.Ends.{Compared, begins_behind, branch_operation, branching, choosing, comparing_code, end_pieces, going, going_by, jumping, loading_code, loading_held, opposite, room_of, with_pieces, with_zero, word_test, words}
use Rattle.rv_emit_code.specs.Leaving.{moving_by, of_no_place, restoring_code, room_behind, with_end, with_leave, with_leaving, words_of_moving}
use Rattle.rv_emit_sequence.specs.Sequences.{numbered}
use Rattle.rv_emit_runs.proofs.Forms.{choice, perhaps}

-- ---- Pieces

-- The place that a piece begins, if it begins one.
abbrev pub begun_by : PlacedPiece → List ℕ
begun_by x = cond x.is_stop (x.owner ∷ []) []

-- The places that pieces begin, in order.
abbrev pub begun : List PlacedPiece → List ℕ
begun [] = []
begun (x ∷ more) = begun_by x ++ begun more

pub begun_append : (xs ys : List PlacedPiece) → begun (xs ++ ys) ≡ begun xs ++ begun ys
begun_append [] ys = refl
begun_append (x ∷ xs) ys = ap (λ l. begun_by x ++ l) (begun_append xs ys) ∙ sym (append_assoc (begun_by x) (begun xs) (begun ys))

begun_marked : (n : ℕ) (pieces : List PlacedPiece) → begun (marked n pieces) ≡ begun pieces
begun_marked n [] = refl
begun_marked n (x ∷ []) = refl
begun_marked n (x ∷ y ∷ more) = ap (λ l. begun_by x ++ l) (begun_marked n (y ∷ more))

pub begun_numbered : (n : ℕ) (pieces : List PlacedPiece) → begun (map (numbered n) pieces) ≡ begun pieces
begun_numbered n [] = refl
begun_numbered n (x ∷ more) = ap (λ l. begun_by x ++ l) (begun_numbered n more)

-- ---- Code as it grows

-- The place in force, if it has no word yet.
abbrev pending : CodeState → List ℕ
pending s = cond s.begins (s.owner ∷ []) []

-- The places that code has begun, and is to begin with its next word.
abbrev begun_in : CodeState → List ℕ
begun_in s = begun s.pieces ++ pending s

piece_begun : (q : Piece) (s : CodeState) → begun_in (with_piece q s) ≡ begun_in s
piece_begun q s =
    append-nil (begun (s.pieces ++ (record { piece = q; owner = s.owner; is_stop = s.begins; writes = None }) ∷ []))
    ∙ begun_append s.pieces ((record { piece = q; owner = s.owner; is_stop = s.begins; writes = None }) ∷ [])
    ∙ ap (λ l. begun s.pieces ++ l) (append-nil (pending s))

code_begun : (code : List Instruction) (s : CodeState) → begun_in (with_code code s) ≡ begun_in s
code_begun [] s = refl
code_begun (i ∷ more) s = code_begun more (with_piece (piece.Word i) s) ∙ piece_begun (piece.Word i) s

pieces_begun : (pieces : List Piece) (s : CodeState) → begun_in (with_pieces pieces s) ≡ begun_in s
pieces_begun [] s = refl
pieces_begun (x ∷ more) s = pieces_begun more (with_piece x s) ∙ piece_begun x s

-- No place is to begin.
nothing_pending : (s : CodeState) → s.begins ≡ false → begun s.pieces ≡ begun_in s
nothing_pending s none = sym (append-nil (begun s.pieces)) ∙ ap (λ b. begun s.pieces ++ cond b (s.owner ∷ []) []) (sym none)

code_settles : (code : List Instruction) (s : CodeState) → s.begins ≡ false → (with_code code s).begins ≡ false
code_settles [] s none = none
code_settles (i ∷ more) s none = code_settles more (with_piece (piece.Word i) s) refl

settled_settles : (s : CodeState) → (settled s).begins ≡ false
settled_settles s = by_flag s.begins refl
  where
    by_flag : (b : Bool) → s.begins ≡ b → (cond b (with_code (instruction.Immediate Addi 0 0 0 ∷ []) s) s).begins ≡ false
    by_flag true e = refl
    by_flag false e = e

settled_begun : (s : CodeState) → begun (settled s).pieces ≡ begun_in s
settled_begun s =
    nothing_pending (settled s) (settled_settles s)
    ∙ choice (λ (t : CodeState). begun_in t ≡ begun_in s) s.begins (with_code (instruction.Immediate Addi 0 0 0 ∷ []) s) s (λ e. code_begun (instruction.Immediate Addi 0 0 0 ∷ []) s) (λ e. refl)

-- ---- Instructions

passed_begun : (g : StorageForm) (n : ℕ) (all : List Operand) (s : CodeState) → begun_in (passed_from g n all s) ≡ begun_in s
passed_begun g n [] s = refl
passed_begun g n (a ∷ more) s = passed_begun g (n + 1) more (passed g n a s) ∙ code_begun (bringing g s.held (argument_register n) (source_of g a)) s

environment_begun : (n : ℕ) (s : CodeState) → begun_in (environment_called n s) ≡ begun_in s
environment_begun n s = code_begun (instruction.Ecall ∷ []) (forgetting 17 (with_code (instruction.Immediate Addi 17 0 n ∷ []) s)) ∙ code_begun (instruction.Immediate Addi 17 0 n ∷ []) s

called_begun : (f : Callee) (s : CodeState) → begun_in (called f s) ≡ begun_in s
called_begun callee.Getchar s = environment_begun 1 s
called_begun callee.Putchar s = environment_begun 2 s
called_begun callee.Exit s = environment_begun 10 s
called_begun (callee.Function f) s = piece_begun (piece.Call f) (record s { held = [] })

answered_begun : (g : StorageForm) (target : Option ℕ) (s : CodeState) → begun_in (answered g target s) ≡ begun_in s
answered_begun g None s = refl
answered_begun g (Some x) s = code_begun (home_written g (home_at g x) 10) s

-- A place is a stop, but the entry.
abbrev pub kept : (entry : ℕ) → List ℕ → List ℕ
kept entry places = filter (λ p. not (p == entry)) places

pub kept_append : (entry : ℕ) (xs ys : List ℕ) → kept entry (xs ++ ys) ≡ kept entry xs ++ kept entry ys
kept_append entry [] ys = refl
kept_append entry (x ∷ xs) ys = by_test (not (x == entry)) (kept_append entry xs ys)
  where
    by_test : (b : Bool) → kept entry (xs ++ ys) ≡ kept entry xs ++ kept entry ys → cond b (x ∷ kept entry (xs ++ ys)) (kept entry (xs ++ ys)) ≡ cond b (x ∷ kept entry xs) (kept entry xs) ++ kept entry ys
    by_test true later = ap (λ l. x ∷ l) later
    by_test false later = later

-- An instruction begins its place, if it is a marker.
instruction_begun : (g : StorageForm) (entry : ℕ) (i : UnitInstruction) (s : CodeState) → begun_in (with_instruction g entry i s) ≡ begun_in s ++ kept entry (markers_in (i ∷ []))
instruction_begun g entry (Marker p) s = ap (λ l. l ++ cond (not (p == entry)) (p ∷ []) []) (settled_begun s)
instruction_begun g entry (Note x v) s = sym (append-nil (begun_in s))
instruction_begun g entry (Move x a) s = code_begun (move_code g s.held (home_at g x) (source_of g a)) s ∙ sym (append-nil (begun_in s))
instruction_begun g entry (Operate x op a b) s = code_begun (operation_code g s.held (home_at g x) op (source_of g a) (source_of g b)) s ∙ sym (append-nil (begun_in s))
instruction_begun g entry (Truncate x t a) s = code_begun (truncation_code g s.held (home_at g x) t (source_of g a)) s ∙ sym (append-nil (begun_in s))
instruction_begun g entry (Same x a b) s = code_begun (comparison_code g s.held (home_at g x) (source_of g a) (source_of g b)) s ∙ sym (append-nil (begun_in s))
instruction_begun g entry (Address x object) s = code_begun (object_address_code g (home_at g x) object) s ∙ sym (append-nil (begun_in s))
instruction_begun g entry (Load x e l) s = code_begun (load_code g s.held (home_at g x) e l) s ∙ sym (append-nil (begun_in s))
instruction_begun g entry (Store e l a) s = code_begun (store_code g s.held e l (source_of g a)) s ∙ sym (append-nil (begun_in s))
instruction_begun g entry (Zero object words) s = code_begun (zero_code g object words) s ∙ sym (append-nil (begun_in s))
instruction_begun g entry (CopyWords object bytes words) s = code_begun (copy_code g s.held object bytes words) s ∙ sym (append-nil (begun_in s))
instruction_begun g entry (Call target f all) s = answered_begun g target (called f (passed_from g 0 all s)) ∙ called_begun f (passed_from g 0 all s) ∙ passed_begun g 0 all s ∙ sym (append-nil (begun_in s))

numbered_begun : (g : StorageForm) (entry n : ℕ) (i : UnitInstruction) (s : CodeState) → begun_in (with_numbered g entry n i s) ≡ begun_in s ++ kept entry (markers_in (i ∷ []))
numbered_begun g entry n i s =
    perhaps (λ (t : CodeState). begun_in t ≡ begun_in s ++ kept entry (markers_in (i ∷ []))) (λ x. with_writer n (with_instruction g entry i s)) (target_of i) (with_instruction g entry i s)
    (λ x at. ap (λ l. l ++ pending (with_instruction g entry i s)) (begun_marked n (with_instruction g entry i s).pieces) ∙ instruction_begun g entry i s)
    (instruction_begun g entry i s)

markers_front : (i : UnitInstruction) (more : List UnitInstruction) → markers_in (i ∷ more) ≡ markers_in (i ∷ []) ++ markers_in more
markers_front (Marker p) more = refl
markers_front (Note x v) more = refl
markers_front (Move x a) more = refl
markers_front (Operate x op a b) more = refl
markers_front (Truncate x t a) more = refl
markers_front (Same x a b) more = refl
markers_front (Address x object) more = refl
markers_front (Load x e l) more = refl
markers_front (Store e l a) more = refl
markers_front (Zero object words) more = refl
markers_front (CopyWords object bytes words) more = refl
markers_front (Call target f all) more = refl

instructions_begun : (g : StorageForm) (entry n : ℕ) (all : List UnitInstruction) (s : CodeState) → begun_in (with_instructions g entry n all s) ≡ begun_in s ++ kept entry (markers_in all)
instructions_begun g entry n [] s = sym (append-nil (begun_in s))
instructions_begun g entry n (i ∷ more) s =
    instructions_begun g entry ((n + 1) % 4294967296) more (with_numbered g entry n i s)
    ∙ ap (λ l. l ++ kept entry (markers_in more)) (numbered_begun g entry n i s)
    ∙ append_assoc (begun_in s) (kept entry (markers_in (i ∷ []))) (kept entry (markers_in more))
    ∙ ap (λ l. begun_in s ++ l) (sym (kept_append entry (markers_in (i ∷ [])) (markers_in more)) ∙ ap (kept entry) (sym (markers_front i more)))

-- ---- Ends

-- Whether a place has no word yet behind pieces, if it had none before them.
abbrev begins_still : Bool → List Piece → Bool
begins_still b [] = b
begins_still b (x ∷ more) = false

pieces_settle : (pieces : List Piece) (s : CodeState) → (with_pieces pieces s).begins ≡ begins_still s.begins pieces
pieces_settle [] s = refl
pieces_settle (x ∷ more) s = pieces_settle more (with_piece x s) ∙ none more
  where
    none : (more : List Piece) → begins_still false more ≡ false
    none [] = refl
    none (x ∷ more) = refl

going_settles : (b : Bool) (to next : ℕ) → begins_still b (going b to next) ≡ false
going_settles b to next =
    choice (λ (l : List Piece). begins_still b l ≡ false) (to == next) (cond b (piece.Word (instruction.Immediate Addi 0 0 0) ∷ []) []) (piece.Jump (record { 0 = to }) ∷ []) (λ e. by_flag b) (λ e. refl)
  where
    by_flag : (b : Bool) → begins_still b (cond b (piece.Word (instruction.Immediate Addi 0 0 0) ∷ []) []) ≡ false
    by_flag true = refl
    by_flag false = refl

going_by_settles : (b : Bool) (op : BranchOperation) (l r if_true if_false next : ℕ) → begins_still b (going_by op l r if_true if_false next) ≡ false
going_by_settles b op l r if_true if_false next =
    choice (λ (l : List Piece). begins_still b l ≡ false) (if_true == next) (piece.Branch (opposite op) l r (record { 0 = if_false }) ∷ []) (piece.Branch op l r (record { 0 = if_true }) ∷ going false if_false next) (λ e. refl) (λ e. refl)

module _ (g : StorageForm) (held loads : List Held) (b : Bool) where
  jumping_settles : (to next : ℕ) → begins_still b (jumping g held b loads to next) ≡ false
  jumping_settles to next = by_code (loading_code g.base 8 loads held)
    where
      by_code : (code : List Instruction) → begins_still b (words code ++ going (begins_behind b code) to next) ≡ false
      by_code [] = going_settles b to next
      by_code (i ∷ more) = refl

  branching_settles : (x : Compared) (if_true if_false next : ℕ) → begins_still b (branching g held loads x if_true if_false next) ≡ false
  branching_settles x if_true if_false next = by_code (comparing_code g held loads x)
    where
      by_code : (code : List Instruction)
          → begins_still b (words code ++ going_by (branch_operation x.comparison) (source_register g (loading_held g.base (room_of x) loads held) x.left 6) (source_register g (loading_held g.base (room_of x) loads held) x.right 7) if_true if_false next) ≡ false
      by_code [] = going_by_settles b (branch_operation x.comparison) (source_register g (loading_held g.base (room_of x) loads held) x.left 6) (source_register g (loading_held g.base (room_of x) loads held) x.right 7) if_true if_false next
      by_code (i ∷ more) = refl

  choosing_settles : (k : Comparison) (l r : Source) (if_true if_false next : ℕ) → begins_still b (choosing g held b loads k l r if_true if_false next) ≡ false
  choosing_settles k (Word x) (Word y) if_true if_false next = jumping_settles (cond (word_test k x y) if_true if_false) next
  choosing_settles k (Word x) (OfHome y) if_true if_false next = branching_settles (with_zero k (Word x) (OfHome y)) if_true if_false next
  choosing_settles k (OfHome x) (Word y) if_true if_false next = branching_settles (with_zero k (OfHome x) (Word y)) if_true if_false next
  choosing_settles k (OfHome x) (OfHome y) if_true if_false next = branching_settles (with_zero k (OfHome x) (OfHome y)) if_true if_false next

-- Pieces begin what was to begin, where nothing is to begin behind them.
pieces_end : (pieces : List Piece) (s : CodeState) → begins_still s.begins pieces ≡ false → begun (with_pieces pieces s).pieces ≡ begun_in s
pieces_end pieces s none = nothing_pending (with_pieces pieces s) (pieces_settle pieces s ∙ none) ∙ pieces_begun pieces s

leaving_begun : (moves : ℕ) (saved : List ℕ) (size : ℕ) (s : CodeState) → begun (with_leaving moves saved size s).pieces ≡ begun_in s
leaving_begun moves saved size s =
    let code = restoring_code saved 4 ++ instruction.Load Lw 1 2 0 ∷ moving_by moves size ++ instruction.Jalr 0 1 0 ∷ [] in
    let one = with_code (instruction.Immediate Addi 4 4 1 ∷ []) s in
    nothing_pending (with_code code (of_no_place one)) (code_settles code (of_no_place one) refl) ∙ code_begun code (of_no_place one) ∙ code_begun (instruction.Immediate Addi 4 4 1 ∷ []) s

leave_begun : (saved : List ℕ) (size end next room : ℕ) (s : CodeState) → begun (with_leave saved size end next room s).pieces ≡ begun_in s
leave_begun saved size end next room s =
    choice (λ (t : CodeState). begun t.pieces ≡ begun_in s) (next == end || (not (nat_le (length saved) 9) || not (nat_le (length saved + 3 + words_of_moving size) room))) (with_pieces (going s.begins end next) s) (with_leaving (words_of_moving size) saved size s)
    (λ e. pieces_end (going s.begins end next) s (going_settles s.begins end next)) (λ e. leaving_begun (words_of_moving size) saved size s)

end_begun : (g : StorageForm) (saved : List ℕ) (size end next : ℕ) (loads : List Held) (b : End) (s : CodeState) → begun (with_end g saved size end next loads b s).pieces ≡ begun_in s
end_begun g saved size end next loads (Jump to) s = pieces_end (end_pieces g s.held s.begins loads next (Jump to)) s (jumping_settles g s.held loads s.begins to next)
end_begun g saved size end next loads (Branch k x y if_true if_false) s =
    pieces_end (end_pieces g s.held s.begins loads next (Branch k x y if_true if_false)) s
    (choice (λ (l : List Piece). begins_still s.begins l ≡ false) (if_true == if_false) (jumping g s.held s.begins loads if_true next) (choosing g s.held s.begins loads k (source_of g x) (source_of g y) if_true if_false next)
    (λ e. jumping_settles g s.held loads s.begins if_true next) (λ e. choosing_settles g s.held loads s.begins k (source_of g x) (source_of g y) if_true if_false next))
end_begun g saved size end next loads (Return None) s = leave_begun saved size end next 9 s
end_begun g saved size end next loads (Return (Some a)) s =
    leave_begun saved size end next (room_behind g.base (source_of g a)) (with_code (bringing g s.held 10 (source_of g a)) s) ∙ code_begun (bringing g s.held 10 (source_of g a)) s

-- ---- Blocks

-- The code of a block begins the places of its markers, but the entry.
pub block_begun : (g : StorageForm) (entry : ℕ) (saved : List ℕ) (size end next : ℕ) (known loads : List Held) (b : Block) → begun (block_code g entry saved size end next known loads b).pieces ≡ kept entry (markers_in b.instructions)
block_begun g entry saved size end next known loads b =
    end_begun g saved size end next loads b.end (with_instructions g entry 0 b.instructions (no_code (option_map_or (λ p. p) b.place 0) known))
    ∙ instructions_begun g entry 0 b.instructions (no_code (option_map_or (λ p. p) b.place 0) known)
