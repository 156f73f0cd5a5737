-- The code of a block stands as the code of its instructions and of its end, one behind the other, whatever words are marked as those that write homes.
use Rattle.std.proofs.Common.{◌≡◌, ℕ, ◌+◌, ◌%◌, sym, ap, ◌∙◌, subst, refl, append_assoc, append-nil, Option, Some, None, Bool, true, false, cond, List, [], ◌∷◌, ◌++◌}
use Rattle.std.specs.Prelude.{option_map}
use Rattle.std.specs.Option.{option_map_or}
use Rattle.rv_code.specs.declared.instruction.Instruction.{Instruction as MachineInstruction}
use Rattle.rv_code.specs.declared.instruction.Instruction.TheVariants as instruction
use Rattle.rv_code.specs.declared.instruction.LoadOperation.TheVariants.{Lw}
use Rattle.rv_code.specs.declared.instruction.ImmediateOperation.TheVariants.{Addi}
use Rattle.graph_core.specs.declared.instruction.Callee.{Callee}
use Rattle.graph_core.specs.declared.instruction.Callee.TheVariants as callee
use Rattle.graph_core.specs.Graphs.{Operand, Instruction, Marker, Note, Move, Operate, Truncate, Same, Address, Load, Store, Zero, CopyWords, Call, End, Jump, Branch, Return, Block}
use Rattle.graph_core.specs.Uses.{target_of}
use Rattle.rv_emit_words.specs.declared.piece.Held.{Held}
use Rattle.rv_emit_words.specs.declared.piece.Piece.{Piece}
use Rattle.rv_emit_words.specs.declared.piece.Piece.TheVariants as piece
use Rattle.rv_emit_words.specs.declared.piece.PlacedPiece.{PlacedPiece}
use Rattle.rv_emit_storage.specs.declared.storage.Source.{Source}
use Rattle.rv_emit_storage.specs.Storages.{StorageForm, home_at, source_of}
use Rattle.rv_emit_words.specs.Growing.{CodeState, with_code, with_piece, settled, marked}
use Rattle.rv_emit_words.specs.Operands.{bringing, home_written}
use Rattle.rv_emit_instructions.specs.Operations.{operation_code, truncation_code, comparison_code, move_code}
use Rattle.rv_emit_instructions.specs.Memory.{load_code, store_code, object_address_code}
use Rattle.rv_emit_instructions.specs.Filling.{zero_code, copy_code}
use Rattle.rv_emit_instructions.specs.Calls.{argument_register, forgetting, passed, passed_from, environment_called, called, answered, with_call}
use Rattle.rv_emit_instructions.specs.Code.{with_instruction}
use Rattle.rv_emit_steps.specs.Programs.{Program}
use Rattle.rv_emit_code.specs.Ends.{with_pieces, going, end_pieces, end_held}
use Rattle.rv_emit_code.specs.Leaving.{words_of_moving, moving_by, restoring_code, of_no_place, with_leaving, with_leave, room_behind, with_return, with_end}
use Rattle.rv_emit_code.specs.Beginning.{with_writer}
use Rattle.rv_emit_code.specs.Blocks.{no_code, with_numbered, with_instructions, block_code}
use Rattle.rv_emit_runs.specs.Pieces.{Targets}
use Rattle.rv_emit_runs.specs.Placed.{PlacedAt}
use Rattle.rv_emit_runs.proofs.Appended.{BothPlaced, both_placed, placed_both, marked_there}

-- ---- Code behind other code

-- The same code with other pieces before it.
abbrev pub onto : List PlacedPiece → CodeState → CodeState
onto q s = record s { pieces = q ++ s.pieces }

-- What is appended depends on none of the pieces before it.
abbrev pub IsAppending : (CodeState → CodeState) → Type 0
IsAppending f = (q : List PlacedPiece) (s : CodeState) → f (onto q s) ≡ onto q (f s)

piece_onto : (x : Piece) → IsAppending (with_piece x)
piece_onto x q s = ap (λ l. record { pieces = l; held = s.held; owner = s.owner; begins = false }) (append_assoc q s.pieces ((record { piece = x; owner = s.owner; is_stop = s.begins; writes = None }) ∷ []))

pub code_onto : (code : List MachineInstruction) → IsAppending (with_code code)
code_onto [] q s = refl
code_onto (i ∷ code) q s = ap (with_code code) (piece_onto (piece.Word i) q s) ∙ code_onto code q (with_piece (piece.Word i) s)

pieces_onto : (more : List Piece) → IsAppending (with_pieces more)
pieces_onto [] q s = refl
pieces_onto (x ∷ more) q s = ap (with_pieces more) (piece_onto x q s) ∙ pieces_onto more q (with_piece x s)

settled_onto : IsAppending settled
settled_onto q s = by_test s.begins
  where
    by_test : (b : Bool) → cond b (with_code (instruction.Immediate Addi 0 0 0 ∷ []) (onto q s)) (onto q s) ≡ onto q (cond b (with_code (instruction.Immediate Addi 0 0 0 ∷ []) s) s)
    by_test true = code_onto (instruction.Immediate Addi 0 0 0 ∷ []) q s
    by_test false = refl

-- ---- Instructions

passed_onto : (g : StorageForm) (n : ℕ) (all : List Operand) → IsAppending (passed_from g n all)
passed_onto g n [] q s = refl
passed_onto g n (a ∷ more) q s =
    ap (λ u. passed_from g (n + 1) more (forgetting (argument_register n) u)) (code_onto (bringing g s.held (argument_register n) (source_of g a)) q s) ∙ passed_onto g (n + 1) more q (passed g n a s)

environment_onto : (n : ℕ) → IsAppending (environment_called n)
environment_onto n q s =
    let t : CodeState = forgetting 17 (with_code (instruction.Immediate Addi 17 0 n ∷ []) s) in
    ap (λ u. with_code (instruction.Ecall ∷ []) (forgetting 17 u)) (code_onto (instruction.Immediate Addi 17 0 n ∷ []) q s) ∙ code_onto (instruction.Ecall ∷ []) q t

called_onto : (f : Callee) → IsAppending (called f)
called_onto callee.Getchar q s = environment_onto 1 q s
called_onto callee.Putchar q s = environment_onto 2 q s
called_onto callee.Exit q s = environment_onto 10 q s
called_onto (callee.Function f) q s = piece_onto (piece.Call f) q (record s { held = [] })

answered_onto : (g : StorageForm) (target : Option ℕ) → IsAppending (answered g target)
answered_onto g None q s = refl
answered_onto g (Some x) q s = code_onto (home_written g (home_at g x) 10) q s

call_onto : (g : StorageForm) (target : Option ℕ) (f : Callee) (all : List Operand) → IsAppending (with_call g target f all)
call_onto g target f all q s =
    ap (λ u. answered g target (called f u)) (passed_onto g 0 all q s) ∙ ap (answered g target) (called_onto f q (passed_from g 0 all s)) ∙ answered_onto g target q (called f (passed_from g 0 all s))

pub instruction_onto : (g : StorageForm) (entry : ℕ) (i : Instruction) → IsAppending (with_instruction g entry i)
instruction_onto g entry (Marker p) q s = ap (λ (u : CodeState). record u { owner = p; begins = (with_instruction g entry (Marker p) s).begins }) (settled_onto q s)
instruction_onto g entry (Note x v) q s = refl
instruction_onto g entry (Move x a) q s = code_onto (move_code g s.held (home_at g x) (source_of g a)) q s
instruction_onto g entry (Operate x o a b) q s = code_onto (operation_code g s.held (home_at g x) o (source_of g a) (source_of g b)) q s
instruction_onto g entry (Truncate x t a) q s = code_onto (truncation_code g s.held (home_at g x) t (source_of g a)) q s
instruction_onto g entry (Same x a b) q s = code_onto (comparison_code g s.held (home_at g x) (source_of g a) (source_of g b)) q s
instruction_onto g entry (Address x o) q s = code_onto (object_address_code g (home_at g x) o) q s
instruction_onto g entry (Load x e l) q s = code_onto (load_code g s.held (home_at g x) e l) q s
instruction_onto g entry (Store e l a) q s = code_onto (store_code g s.held e l (source_of g a)) q s
instruction_onto g entry (Zero o w) q s = code_onto (zero_code g o w) q s
instruction_onto g entry (CopyWords o b w) q s = code_onto (copy_code g s.held o b w) q s
instruction_onto g entry (Call x f all) q s = call_onto g x f all q s

-- Instructions in order, without marks.
abbrev pub with_all : StorageForm → (entry : ℕ) → List Instruction → CodeState → CodeState
with_all g entry [] s = s
with_all g entry (i ∷ more) s = with_all g entry more (with_instruction g entry i s)

pub all_onto : (g : StorageForm) (entry : ℕ) (is : List Instruction) → IsAppending (with_all g entry is)
all_onto g entry [] q s = refl
all_onto g entry (i ∷ more) q s = ap (with_all g entry more) (instruction_onto g entry i q s) ∙ all_onto g entry more q (with_instruction g entry i s)

-- ---- Ends

leaving_onto : (moves : ℕ) (saved : List ℕ) (size : ℕ) → IsAppending (with_leaving moves saved size)
leaving_onto moves saved size q s =
    let rest : List MachineInstruction = restoring_code saved 4 ++ instruction.Load Lw 1 2 0 ∷ moving_by moves size ++ instruction.Jalr 0 1 0 ∷ [] in
    ap (λ (u : CodeState). with_code rest (of_no_place u)) (code_onto (instruction.Immediate Addi 4 4 1 ∷ []) q s) ∙ code_onto rest q (of_no_place (with_code (instruction.Immediate Addi 4 4 1 ∷ []) s))

leave_onto : (saved : List ℕ) (size end next room : ℕ) → IsAppending (with_leave saved size end next room)
leave_onto saved size end next room q s = by_test _
  where
    by_test : (c : Bool) → cond c (with_pieces (going s.begins end next) (onto q s)) (with_leaving (words_of_moving size) saved size (onto q s)) ≡ onto q (cond c (with_pieces (going s.begins end next) s) (with_leaving (words_of_moving size) saved size s))
    by_test true = pieces_onto (going s.begins end next) q s
    by_test false = leaving_onto (words_of_moving size) saved size q s

return_onto : (g : StorageForm) (saved : List ℕ) (size end next : ℕ) (value : Option Source) → IsAppending (with_return g saved size end next value)
return_onto g saved size end next None q s = leave_onto saved size end next 9 q s
return_onto g saved size end next (Some value) q s =
    ap (with_leave saved size end next (room_behind g.base value)) (code_onto (bringing g s.held 10 value) q s) ∙ leave_onto saved size end next (room_behind g.base value) q (with_code (bringing g s.held 10 value) s)

pub end_onto : (g : StorageForm) (saved : List ℕ) (size end next : ℕ) (loads : List Held) (e : End) → IsAppending (with_end g saved size end next loads e)
end_onto g saved size end next loads (Jump to) q s = ap (λ (u : CodeState). record u { held = end_held g s.held loads (Jump to) }) (pieces_onto (end_pieces g s.held s.begins loads next (Jump to)) q s)
end_onto g saved size end next loads (Branch k x y if_true if_false) q s =
    ap (λ (u : CodeState). record u { held = end_held g s.held loads (Branch k x y if_true if_false) }) (pieces_onto (end_pieces g s.held s.begins loads next (Branch k x y if_true if_false)) q s)
end_onto g saved size end next loads (Return v) q s = return_onto g saved size end next (option_map (source_of g) v) q s

-- ---- Marks

-- What is appended, behind no pieces.
abbrev pub bare : CodeState → CodeState
bare s = record s { pieces = [] }

bare_onto : (s : CodeState) → onto s.pieces (bare s) ≡ s
bare_onto s = ap (λ l. record { pieces = l; held = s.held; owner = s.owner; begins = s.begins }) (append-nil s.pieces)

-- Pieces that were appended stand behind those before them.
pub behind_there : (f : CodeState → CodeState) → IsAppending f → (p : Program) (t : Targets) (i j : ℕ) (s : CodeState) → PlacedAt p t i (f s).pieces j → BothPlaced p t i s.pieces (f (bare s)).pieces j
behind_there f appends p t i j s at =
    let is : f s ≡ onto s.pieces (f (bare s)) = ap f (sym (bare_onto s)) ∙ appends s.pieces (bare s) in
    both_placed p t i s.pieces (f (bare s)).pieces j (subst (λ (u : CodeState). PlacedAt p t i u.pieces j) is at)

-- They stand as they do where a word before them is not marked.
unmarked_there : (f : CodeState → CodeState) → IsAppending f → (p : Program) (t : Targets) (i j n : ℕ) (s : CodeState) → PlacedAt p t i (f (with_writer n s)).pieces j → PlacedAt p t i (f s).pieces j
unmarked_there f appends p t i j n s at =
    let both : BothPlaced p t i (marked n s.pieces) (f (bare s)).pieces j = behind_there f appends p t i j (with_writer n s) at in
    let is : f s ≡ onto s.pieces (f (bare s)) = ap f (sym (bare_onto s)) ∙ appends s.pieces (bare s) in
    subst (λ (u : CodeState). PlacedAt p t i u.pieces j) (sym is) (placed_both p t i both.index j s.pieces (f (bare s)).pieces (marked_there p t i n s.pieces both.index both.front_there) both.back_there)

-- Instructions stand without their marks, whatever stands behind them.
instructions_unmarked : (g : StorageForm) (entry : ℕ) (f : CodeState → CodeState) → IsAppending f → (p : Program) (t : Targets) (i j n : ℕ) (is : List Instruction) (s : CodeState)
    → PlacedAt p t i (f (with_instructions g entry n is s)).pieces j → PlacedAt p t i (f (with_all g entry is s)).pieces j
instructions_unmarked g entry f appends p t i j n [] s at = at
instructions_unmarked g entry f appends p t i j n (x ∷ more) s at =
    by_target (target_of x) (instructions_unmarked g entry f appends p t i j ((n + 1) % 4294967296) more (with_numbered g entry n x s) at)
  where
    later : IsAppending (λ u. f (with_all g entry more u))
    later q u = ap f (all_onto g entry more q u) ∙ appends q (with_all g entry more u)

    by_target : (target : Option ℕ) → PlacedAt p t i (f (with_all g entry more (option_map_or (λ y. with_writer n (with_instruction g entry x s)) target (with_instruction g entry x s)))).pieces j
        → PlacedAt p t i (f (with_all g entry more (with_instruction g entry x s))).pieces j
    by_target None there = there
    by_target (Some y) there = unmarked_there (λ u. f (with_all g entry more u)) later p t i j n (with_instruction g entry x s) there

-- The code of a block stands as its instructions in order, and its end behind them.
pub block_there : (g : StorageForm) (entry : ℕ) (saved : List ℕ) (size end next : ℕ) (known loads : List Held) (b : Block) (p : Program) (t : Targets) (i j : ℕ)
    → PlacedAt p t i (block_code g entry saved size end next known loads b).pieces j
    → PlacedAt p t i (with_end g saved size end next loads b.end (with_all g entry b.instructions (no_code (option_map_or (λ q. q) b.place 0) known))).pieces j
block_there g entry saved size end next known loads b p t i j at =
    instructions_unmarked g entry (with_end g saved size end next loads b.end) (end_onto g saved size end next loads b.end) p t i j 0 b.instructions (no_code (option_map_or (λ q. q) b.place 0) known) at
