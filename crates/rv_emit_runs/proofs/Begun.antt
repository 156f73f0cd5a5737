-- Where a place begins that is a stop and has no word yet, the next word of the block is its first, and there is a stop at it.
use Rattle.std.proofs.Common.{◌≡◌, ℕ, ◌+◌, ap, refl, Option, Some, None, Bool, true, false, cond, ◌⊎◌, inl, inr, List, [], ◌∷◌, ◌++◌}
use Rattle.std.specs.Prelude.{◌==◌}
use Rattle.rv_code.specs.declared.instruction.Instruction.{Instruction as MachineInstruction}
use Rattle.rv_code.specs.declared.instruction.Instruction.TheVariants as instruction
use Rattle.rv_code.specs.declared.instruction.LoadOperation.TheVariants.{Lw}
use Rattle.rv_code.specs.declared.instruction.ImmediateOperation.TheVariants.{Addi}
use Rattle.rv_code.specs.declared.instruction.BranchOperation.{BranchOperation}
use Rattle.graph_core.specs.declared.block.Comparison.{Comparison}
use Rattle.graph_core.specs.declared.instruction.Callee.{Callee}
use Rattle.graph_core.specs.declared.instruction.Callee.TheVariants as callee
use Rattle.graph_core.specs.Graphs.{Operand, Instruction, Marker, Note, Move, Operate, Truncate, Same, Address, Load, Store, Zero, CopyWords, Call, End, Jump, Branch, Return}
use Rattle.rv_emit_words.specs.declared.piece.Held.{Held}
use Rattle.rv_emit_words.specs.declared.piece.Piece.{Piece}
use Rattle.rv_emit_words.specs.declared.piece.Piece.TheVariants as piece
use Rattle.rv_emit_words.specs.declared.piece.PlacedPiece.{PlacedPiece}
use Rattle.rv_emit_storage.specs.declared.storage.Source.{Source}
use Rattle.rv_emit_storage.specs.declared.storage.Source.TheVariants.{Home as OfHome, Word}
use Rattle.rv_emit_storage.specs.Storages.{StorageForm, home_at, source_of}
use Rattle.rv_emit_words.specs.Growing.{CodeState, with_code, with_piece, settled}
use Rattle.rv_emit_words.specs.Operands.{bringing, home_written, source_register}
use Rattle.rv_emit_instructions.specs.Operations.{operation_code, truncation_code, comparison_code, move_code}
use Rattle.rv_emit_instructions.specs.Memory.{load_code, store_code, object_address_code}
use Rattle.rv_emit_instructions.specs.Filling.{zero_code, copy_code}
use Rattle.rv_emit_instructions.specs.Calls.{argument_register, passed, passed_from, environment_called, called, answered, forgetting}
use Rattle.rv_emit_instructions.specs.Code.{with_instruction}
use Rattle.rv_emit_code.specs.Ends.{words, with_pieces, begins_behind, loading_code, loading_held, going, going_by, jumping, Compared, branch_operation, with_zero, room_of, comparing_code, branching, choosing, word_test, opposite}
use Rattle.rv_emit_code.specs.Leaving.{words_of_moving, moving_by, restoring_code, of_no_place, with_leaving, with_leave, room_behind, with_end}
use Rattle.rv_emit_runs.proofs.Unmarked.{with_all}

-- The place's first piece is the first of all.
pub record IsBegun (place : ℕ) (all : List PlacedPiece) : Type 0 where
  pub first : PlacedPiece
  pub more : List PlacedPiece
  pub is : all ≡ first ∷ more
  pub stop : first.is_stop ≡ true
  pub owner : first.owner ≡ place

-- It is, or there is no piece and the place is in force as a stop that has no word yet.
abbrev pub Begins : (place : ℕ) → CodeState → Type 0
Begins place s = IsBegun place s.pieces ⊎ ((s.pieces ≡ []) × (s.begins ≡ true) × (s.owner ≡ place))

-- ---- Pieces

more_begun : (place : ℕ) (all back : List PlacedPiece) → IsBegun place all → IsBegun place (all ++ back)
more_begun place all back begun = record { first = begun.first; more = begun.more ++ back; is = ap (λ l. l ++ back) begun.is; stop = begun.stop; owner = begun.owner }

piece_begun : (place : ℕ) (x : Piece) (s : CodeState) → Begins place s → IsBegun place (with_piece x s).pieces
piece_begun place x s (inl begun) = more_begun place s.pieces ((record { piece = x; owner = s.owner; is_stop = s.begins; writes = None }) ∷ []) begun
piece_begun place x s (inr (none, begins, owner)) =
    let one : PlacedPiece = record { piece = x; owner = s.owner; is_stop = s.begins; writes = None } in
    record { first = one; more = []; is = ap (λ l. l ++ one ∷ []) none; stop = begins; owner = owner }

code_begin : (place : ℕ) (code : List MachineInstruction) (s : CodeState) → Begins place s → Begins place (with_code code s)
code_begin place [] s begins = begins
code_begin place (x ∷ code) s begins = code_begin place code (with_piece (piece.Word x) s) (inl (piece_begun place (piece.Word x) s begins))

-- Where they are some, they are begun.
pieces_begun : (place : ℕ) (more : List Piece) (s : CodeState) → IsBegun place s.pieces → IsBegun place (with_pieces more s).pieces
pieces_begun place [] s begun = begun
pieces_begun place (x ∷ more) s begun = pieces_begun place more (with_piece x s) (piece_begun place x s (inl begun))

code_begun : (place : ℕ) (code : List MachineInstruction) (s : CodeState) → IsBegun place s.pieces → IsBegun place (with_code code s).pieces
code_begun place [] s begun = begun
code_begun place (x ∷ code) s begun = code_begun place code (with_piece (piece.Word x) s) (piece_begun place (piece.Word x) s (inl begun))

some_begun : (place : ℕ) (x : Piece) (more : List Piece) (s : CodeState) → Begins place s → IsBegun place (with_pieces (x ∷ more) s).pieces
some_begun place x more s begins = pieces_begun place more (with_piece x s) (piece_begun place x s begins)

-- ---- Instructions

passed_begin : (place : ℕ) (g : StorageForm) (n : ℕ) (all : List Operand) (s : CodeState) → Begins place s → Begins place (passed_from g n all s)
passed_begin place g n [] s begins = begins
passed_begin place g n (a ∷ more) s begins = passed_begin place g (n + 1) more (passed g n a s) (code_begin place (bringing g s.held (argument_register n) (source_of g a)) s begins)

environment_begin : (place n : ℕ) (s : CodeState) → Begins place s → Begins place (environment_called n s)
environment_begin place n s begins =
    code_begin place (instruction.Ecall ∷ []) (forgetting 17 (with_code (instruction.Immediate Addi 17 0 n ∷ []) s)) (code_begin place (instruction.Immediate Addi 17 0 n ∷ []) s begins)

called_begin : (place : ℕ) (f : Callee) (s : CodeState) → Begins place s → Begins place (called f s)
called_begin place callee.Getchar s begins = environment_begin place 1 s begins
called_begin place callee.Putchar s begins = environment_begin place 2 s begins
called_begin place callee.Exit s begins = environment_begin place 10 s begins
called_begin place (callee.Function f) s begins = inl (piece_begun place (piece.Call f) (record s { held = [] }) begins)

answered_begin : (place : ℕ) (g : StorageForm) (target : Option ℕ) (s : CodeState) → Begins place s → Begins place (answered g target s)
answered_begin place g None s begins = begins
answered_begin place g (Some x) s begins = code_begin place (home_written g (home_at g x) 10) s begins

-- A marker gives the place before it a word.
settled_begun : (place : ℕ) (s : CodeState) → Begins place s → IsBegun place (settled s).pieces
settled_begun place s begins = by_test s.begins refl begins
  where
    by_test : (b : Bool) → s.begins ≡ b → Begins place s → IsBegun place (cond b (with_code (instruction.Immediate Addi 0 0 0 ∷ []) s) s).pieces
    by_test true e way = piece_begun place (piece.Word (instruction.Immediate Addi 0 0 0)) s way
    by_test false e (inl begun) = begun
    by_test false e (inr (none, is, owner)) = cc

instruction_begin : (place : ℕ) (g : StorageForm) (entry : ℕ) (i : Instruction) (s : CodeState) → Begins place s → Begins place (with_instruction g entry i s)
instruction_begin place g entry (Marker p) s begins = inl (settled_begun place s begins)
instruction_begin place g entry (Note x v) s begins = begins
instruction_begin place g entry (Move x a) s begins = code_begin place (move_code g s.held (home_at g x) (source_of g a)) s begins
instruction_begin place g entry (Operate x o a b) s begins = code_begin place (operation_code g s.held (home_at g x) o (source_of g a) (source_of g b)) s begins
instruction_begin place g entry (Truncate x t a) s begins = code_begin place (truncation_code g s.held (home_at g x) t (source_of g a)) s begins
instruction_begin place g entry (Same x a b) s begins = code_begin place (comparison_code g s.held (home_at g x) (source_of g a) (source_of g b)) s begins
instruction_begin place g entry (Address x o) s begins = code_begin place (object_address_code g (home_at g x) o) s begins
instruction_begin place g entry (Load x e l) s begins = code_begin place (load_code g s.held (home_at g x) e l) s begins
instruction_begin place g entry (Store e l a) s begins = code_begin place (store_code g s.held e l (source_of g a)) s begins
instruction_begin place g entry (Zero o w) s begins = code_begin place (zero_code g o w) s begins
instruction_begin place g entry (CopyWords o b w) s begins = code_begin place (copy_code g s.held o b w) s begins
instruction_begin place g entry (Call x f all) s begins = answered_begin place g x (called f (passed_from g 0 all s)) (called_begin place f (passed_from g 0 all s) (passed_begin place g 0 all s begins))

all_begin : (place : ℕ) (g : StorageForm) (entry : ℕ) (is : List Instruction) (s : CodeState) → Begins place s → Begins place (with_all g entry is s)
all_begin place g entry [] s begins = begins
all_begin place g entry (i ∷ more) s begins = all_begin place g entry more (with_instruction g entry i s) (instruction_begin place g entry i s begins)

-- ---- Ends

going_begun : (place to next : ℕ) (s : CodeState) → Begins place s → IsBegun place (with_pieces (going s.begins to next) s).pieces
going_begun place to next s begins = by_test (to == next) s.begins refl begins
  where
    by_test : (same b : Bool) → s.begins ≡ b → Begins place s → IsBegun place (with_pieces (cond same (cond b (piece.Word (instruction.Immediate Addi 0 0 0) ∷ []) []) (piece.Jump (record { 0 = to }) ∷ [])) s).pieces
    by_test false b e way = some_begun place (piece.Jump (record { 0 = to })) [] s way
    by_test true true e way = some_begun place (piece.Word (instruction.Immediate Addi 0 0 0)) [] s way
    by_test true false e (inl begun) = begun
    by_test true false e (inr (none, is, owner)) = cc

jumping_begun : (place : ℕ) (g : StorageForm) (held loads : List Held) (to next : ℕ) (s : CodeState) → Begins place s → IsBegun place (with_pieces (jumping g held s.begins loads to next) s).pieces
jumping_begun place g held loads to next s begins = by_code (loading_code g.base 8 loads held)
  where
    by_code : (code : List MachineInstruction) → IsBegun place (with_pieces (words code ++ going (begins_behind s.begins code) to next) s).pieces
    by_code [] = going_begun place to next s begins
    by_code (x ∷ code) = some_begun place (piece.Word x) (words code ++ going false to next) s begins

branching_begun : (place : ℕ) (g : StorageForm) (held loads : List Held) (x : Compared) (if_true if_false next : ℕ) (s : CodeState) → Begins place s → IsBegun place (with_pieces (branching g held loads x if_true if_false next) s).pieces
branching_begun place g held loads x if_true if_false next s begins = by_code (comparing_code g held loads x)
  where
    abbrev_by : (op : BranchOperation) (l r : ℕ) (same : Bool) → IsBegun place (with_pieces (cond same (piece.Branch (opposite op) l r (record { 0 = if_false }) ∷ []) (piece.Branch op l r (record { 0 = if_true }) ∷ going false if_false next)) s).pieces
    abbrev_by op l r true = some_begun place (piece.Branch (opposite op) l r (record { 0 = if_false })) [] s begins
    abbrev_by op l r false = some_begun place (piece.Branch op l r (record { 0 = if_true })) (going false if_false next) s begins

    by_code : (code : List MachineInstruction)
        → IsBegun place (with_pieces (words code ++ going_by (branch_operation x.comparison) (source_register g (loading_held g.base (room_of x) loads held) x.left 6) (source_register g (loading_held g.base (room_of x) loads held) x.right 7) if_true if_false next) s).pieces
    by_code [] = abbrev_by (branch_operation x.comparison) (source_register g (loading_held g.base (room_of x) loads held) x.left 6) (source_register g (loading_held g.base (room_of x) loads held) x.right 7) (if_true == next)
    by_code (y ∷ code) =
        some_begun place (piece.Word y) (words code ++ going_by (branch_operation x.comparison) (source_register g (loading_held g.base (room_of x) loads held) x.left 6) (source_register g (loading_held g.base (room_of x) loads held) x.right 7) if_true if_false next) s begins

choosing_begun : (place : ℕ) (g : StorageForm) (held loads : List Held) (k : Comparison) (l r : Source) (if_true if_false next : ℕ) (s : CodeState) → Begins place s → IsBegun place (with_pieces (choosing g held s.begins loads k l r if_true if_false next) s).pieces
choosing_begun place g held loads k (Word x) (Word y) if_true if_false next s begins = jumping_begun place g held loads (cond (word_test k x y) if_true if_false) next s begins
choosing_begun place g held loads k (Word x) (OfHome q) if_true if_false next s begins = branching_begun place g held loads (with_zero k (Word x) (OfHome q)) if_true if_false next s begins
choosing_begun place g held loads k (OfHome q) (Word y) if_true if_false next s begins = branching_begun place g held loads (with_zero k (OfHome q) (Word y)) if_true if_false next s begins
choosing_begun place g held loads k (OfHome q) (OfHome r) if_true if_false next s begins = branching_begun place g held loads (with_zero k (OfHome q) (OfHome r)) if_true if_false next s begins

leaving_begun : (place moves : ℕ) (saved : List ℕ) (size : ℕ) (s : CodeState) → Begins place s → IsBegun place (with_leaving moves saved size s).pieces
leaving_begun place moves saved size s begins =
    code_begun place (restoring_code saved 4 ++ instruction.Load Lw 1 2 0 ∷ moving_by moves size ++ instruction.Jalr 0 1 0 ∷ []) (of_no_place (with_code (instruction.Immediate Addi 4 4 1 ∷ []) s))
    (piece_begun place (piece.Word (instruction.Immediate Addi 4 4 1)) s begins)

leave_begun : (place : ℕ) (saved : List ℕ) (size end next room : ℕ) (s : CodeState) → Begins place s → IsBegun place (with_leave saved size end next room s).pieces
leave_begun place saved size end next room s begins = by_test _
  where
    by_test : (c : Bool) → IsBegun place (cond c (with_pieces (going s.begins end next) s) (with_leaving (words_of_moving size) saved size s)).pieces
    by_test true = going_begun place end next s begins
    by_test false = leaving_begun place (words_of_moving size) saved size s begins

end_begun : (place : ℕ) (g : StorageForm) (saved : List ℕ) (size end next : ℕ) (loads : List Held) (e : End) (s : CodeState) → Begins place s → IsBegun place (with_end g saved size end next loads e s).pieces
end_begun place g saved size end next loads (Jump to) s begins = jumping_begun place g s.held loads to next s begins
end_begun place g saved size end next loads (Branch k x y if_true if_false) s begins = by_test (if_true == if_false)
  where
    by_test : (same : Bool) → IsBegun place (with_pieces (cond same (jumping g s.held s.begins loads if_true next) (choosing g s.held s.begins loads k (source_of g x) (source_of g y) if_true if_false next)) s).pieces
    by_test true = jumping_begun place g s.held loads if_true next s begins
    by_test false = choosing_begun place g s.held loads k (source_of g x) (source_of g y) if_true if_false next s begins
end_begun place g saved size end next loads (Return None) s begins = leave_begun place saved size end next 9 s begins
end_begun place g saved size end next loads (Return (Some a)) s begins =
    leave_begun place saved size end next (room_behind g.base (source_of g a)) (with_code (bringing g s.held 10 (source_of g a)) s) (code_begin place (bringing g s.held 10 (source_of g a)) s begins)

-- What is left of a block has a first word.
pub rest_begun : (place : ℕ) (g : StorageForm) (entry : ℕ) (saved : List ℕ) (size end next : ℕ) (loads : List Held) (e : End) (is : List Instruction) (s : CodeState) → s.pieces ≡ [] → s.begins ≡ true → s.owner ≡ place
    → IsBegun place (with_end g saved size end next loads e (with_all g entry is s)).pieces
rest_begun place g entry saved size end next loads e is s none begins owner = end_begun place g saved size end next loads e (with_all g entry is s) (all_begin place g entry is s (inr (none, begins, owner)))
