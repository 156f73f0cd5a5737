-- The words of the code of a function belong to its places.
use Rattle.std.proofs.Common.{◌≡◌, ℕ, ◌+◌, ◌%◌, ◌==◌, ◌||◌, not, nat_le, Bool, Option, Some, None, List, [], ◌∷◌, ◌++◌, length, map, slice_get, slice_index, sym, subst}
use Rattle.std.specs.Option.{option_map_or}
use Rattle.std.specs.List.{AllByRecursion}
use Rattle.rv_code.specs.declared.instruction.Instruction.{Instruction}
use Rattle.rv_code.specs.declared.instruction.Instruction.TheVariants as instruction
use Rattle.rv_code.specs.declared.instruction.ImmediateOperation.TheVariants.{Addi}
use Rattle.rv_code.specs.declared.instruction.LoadOperation.TheVariants.{Lw}
use Rattle.graph_core.specs.declared.instruction.Callee.{Callee}
use Rattle.graph_core.specs.declared.instruction.Callee.TheVariants as callee
use Rattle.graph_core.specs.Graphs.{Operand, Binding, Block, Graph, End, Jump, Branch, Return, Instruction as UnitInstruction, Marker, Note, Move, Operate, Truncate, Same, Address, Load, Store, Zero, CopyWords, Call}
use Rattle.graph_core.specs.Uses.{target_of}
use Rattle.graph_core.specs.Validity.{markers_in}
use Rattle.rv_emit_words.specs.declared.piece.Held.{Held}
use Rattle.rv_emit_words.specs.declared.piece.Piece.{Piece}
use Rattle.rv_emit_words.specs.declared.piece.Piece.TheVariants as piece
use Rattle.rv_emit_words.specs.declared.piece.PlacedPiece.{PlacedPiece}
use Rattle.rv_emit_storage.specs.Storages.{StorageForm, home_at, source_of}
use Rattle.rv_emit_words.specs.Growing.{CodeState, marked, settled, with_code, with_piece}
use Rattle.rv_emit_words.specs.Operands.{bringing, home_written}
use Rattle.rv_emit_instructions.specs.Operations.{operation_code, truncation_code, comparison_code, move_code}
use Rattle.rv_emit_instructions.specs.Calls.{answered, argument_register, called, environment_called, forgetting, passed, passed_from}
use Rattle.rv_emit_instructions.specs.Code.{with_instruction}
use Rattle.rv_emit_instructions.specs.Filling.{zero_code, copy_code}
use Rattle.rv_emit_instructions.specs.Memory.{load_code, store_code, object_address_code}
use Rattle.rv_emit_code.specs.Beginning.{base_code, binding_code, entering_code, guard_code, with_bindings, with_writer}
use Rattle.rv_emit_code.specs.Blocks.{no_code, with_instructions, with_numbered}
use Rattle.rv_emit_code.specs.Ends.{end_pieces, going, with_pieces}
use Rattle.rv_emit_code.specs.Leaving.{moving_by, of_no_place, restoring_code, room_behind, with_end, with_leave, with_leaving, words_of_moving}
use Rattle.rv_emit_sequence.specs.Sequences.{Ground, SequenceForm, Standing, all_pieces, first_pieces, last_pieces, numbered, standing_code, standing_pieces, IsSequenceOf, IsStanding}
use Rattle.rv_emit_runs.proofs.Forms.{choice, perhaps}
use Rattle.rv_emit_runs.proofs.Stops.{all_append}

-- All words belong to places of one kind.
module _ (P : ℕ → Type 0) where
  abbrev pub AreOwned : List PlacedPiece → Type 0
  AreOwned pieces = AllByRecursion (λ (x : PlacedPiece). P x.owner) pieces

  -- So do those of the code so far and the next ones.
  abbrev IsOwned : CodeState → Type 0
  IsOwned s = P s.owner × AreOwned s.pieces

  piece_owned : (q : Piece) (s : CodeState) → IsOwned s → IsOwned (with_piece q s)
  piece_owned q s own = (own.0, all_append (λ (x : PlacedPiece). P x.owner) s.pieces ((record { piece = q; owner = s.owner; is_stop = s.begins; writes = None }) ∷ []) own.1 (own.0, tt))

  code_owned : (code : List Instruction) (s : CodeState) → IsOwned s → IsOwned (with_code code s)
  code_owned [] s own = own
  code_owned (i ∷ more) s own = code_owned more (with_piece (piece.Word i) s) (piece_owned (piece.Word i) s own)

  pieces_owned : (pieces : List Piece) (s : CodeState) → IsOwned s → IsOwned (with_pieces pieces s)
  pieces_owned [] s own = own
  pieces_owned (x ∷ more) s own = pieces_owned more (with_piece x s) (piece_owned x s own)

  marked_owned : (n : ℕ) (pieces : List PlacedPiece) → AreOwned pieces → AreOwned (marked n pieces)
  marked_owned n [] all = tt
  marked_owned n (x ∷ []) all = (all.0, tt)
  marked_owned n (x ∷ y ∷ more) all = (all.0, marked_owned n (y ∷ more) all.1)

  numbered_owned : (n : ℕ) (pieces : List PlacedPiece) → AreOwned pieces → AreOwned (map (numbered n) pieces)
  numbered_owned n [] all = tt
  numbered_owned n (x ∷ more) all = (all.0, numbered_owned n more all.1)

  settled_owned : (s : CodeState) → IsOwned s → IsOwned (settled s)
  settled_owned s own = choice IsOwned s.begins (with_code (instruction.Immediate Addi 0 0 0 ∷ []) s) s (λ e. code_owned (instruction.Immediate Addi 0 0 0 ∷ []) s own) (λ e. own)

  passed_owned : (g : StorageForm) (n : ℕ) (all : List Operand) (s : CodeState) → IsOwned s → IsOwned (passed_from g n all s)
  passed_owned g n [] s own = own
  passed_owned g n (a ∷ more) s own = passed_owned g (n + 1) more (passed g n a s) (code_owned (bringing g s.held (argument_register n) (source_of g a)) s own)

  environment_owned : (n : ℕ) (s : CodeState) → IsOwned s → IsOwned (environment_called n s)
  environment_owned n s own = code_owned (instruction.Ecall ∷ []) (forgetting 17 (with_code (instruction.Immediate Addi 17 0 n ∷ []) s)) (code_owned (instruction.Immediate Addi 17 0 n ∷ []) s own)

  called_owned : (f : Callee) (s : CodeState) → IsOwned s → IsOwned (called f s)
  called_owned callee.Getchar s own = environment_owned 1 s own
  called_owned callee.Putchar s own = environment_owned 2 s own
  called_owned callee.Exit s own = environment_owned 10 s own
  called_owned (callee.Function f) s own = piece_owned (piece.Call f) (record s { held = [] }) own

  answered_owned : (g : StorageForm) (target : Option ℕ) (s : CodeState) → IsOwned s → IsOwned (answered g target s)
  answered_owned g None s own = own
  answered_owned g (Some x) s own = code_owned (home_written g (home_at g x) 10) s own

  instruction_owned : (g : StorageForm) (entry : ℕ) (i : UnitInstruction) (s : CodeState) → AllByRecursion P (markers_in (i ∷ [])) → IsOwned s → IsOwned (with_instruction g entry i s)
  instruction_owned g entry (Marker p) s of own = (of.0, (settled_owned s own).1)
  instruction_owned g entry (Note x v) s of own = own
  instruction_owned g entry (Move x a) s of own = code_owned (move_code g s.held (home_at g x) (source_of g a)) s own
  instruction_owned g entry (Operate x op a b) s of own = code_owned (operation_code g s.held (home_at g x) op (source_of g a) (source_of g b)) s own
  instruction_owned g entry (Truncate x t a) s of own = code_owned (truncation_code g s.held (home_at g x) t (source_of g a)) s own
  instruction_owned g entry (Same x a b) s of own = code_owned (comparison_code g s.held (home_at g x) (source_of g a) (source_of g b)) s own
  instruction_owned g entry (Address x object) s of own = code_owned (object_address_code g (home_at g x) object) s own
  instruction_owned g entry (Load x e l) s of own = code_owned (load_code g s.held (home_at g x) e l) s own
  instruction_owned g entry (Store e l a) s of own = code_owned (store_code g s.held e l (source_of g a)) s own
  instruction_owned g entry (Zero object words) s of own = code_owned (zero_code g object words) s own
  instruction_owned g entry (CopyWords object bytes words) s of own = code_owned (copy_code g s.held object bytes words) s own
  instruction_owned g entry (Call target f all) s of own = answered_owned g target (called f (passed_from g 0 all s)) (called_owned f (passed_from g 0 all s) (passed_owned g 0 all s own))

  with_numbered_owned : (g : StorageForm) (entry n : ℕ) (i : UnitInstruction) (s : CodeState) → AllByRecursion P (markers_in (i ∷ [])) → IsOwned s → IsOwned (with_numbered g entry n i s)
  with_numbered_owned g entry n i s of own =
      let one : IsOwned (with_instruction g entry i s) = instruction_owned g entry i s of own in
      perhaps IsOwned (λ x. with_writer n (with_instruction g entry i s)) (target_of i) (with_instruction g entry i s) (λ x at. (one.0, marked_owned n (with_instruction g entry i s).pieces one.1)) one

  front_markers : (i : UnitInstruction) (more : List UnitInstruction) → AllByRecursion P (markers_in (i ∷ more)) → AllByRecursion P (markers_in (i ∷ [])) × AllByRecursion P (markers_in more)
  front_markers (Marker p) more all = ((all.0, tt), all.1)
  front_markers (Note x v) more all = (tt, all)
  front_markers (Move x a) more all = (tt, all)
  front_markers (Operate x op a b) more all = (tt, all)
  front_markers (Truncate x t a) more all = (tt, all)
  front_markers (Same x a b) more all = (tt, all)
  front_markers (Address x object) more all = (tt, all)
  front_markers (Load x e l) more all = (tt, all)
  front_markers (Store e l a) more all = (tt, all)
  front_markers (Zero object words) more all = (tt, all)
  front_markers (CopyWords object bytes words) more all = (tt, all)
  front_markers (Call target f args) more all = (tt, all)

  instructions_owned : (g : StorageForm) (entry n : ℕ) (all : List UnitInstruction) (s : CodeState) → AllByRecursion P (markers_in all) → IsOwned s → IsOwned (with_instructions g entry n all s)
  instructions_owned g entry n [] s of own = own
  instructions_owned g entry n (i ∷ more) s of own =
      let parts = front_markers i more of in
      instructions_owned g entry ((n + 1) % 4294967296) more (with_numbered g entry n i s) parts.1 (with_numbered_owned g entry n i s parts.0 own)

  bindings_owned : (g : StorageForm) (f : Graph) (n : ℕ) (all : List Binding) (s : CodeState) → IsOwned s → IsOwned (with_bindings g f n all s)
  bindings_owned g f n [] s own = own
  bindings_owned g f n (b ∷ more) s own =
      let one : IsOwned (with_code (binding_code g f (argument_register n) b) s) = code_owned (binding_code g f (argument_register n) b) s own in
      bindings_owned g f ((n + 1) % 4294967296) more (with_writer n (with_code (binding_code g f (argument_register n) b) s)) (one.0, marked_owned n (with_code (binding_code g f (argument_register n) b) s).pieces one.1)

  -- What a function begins with is of its entry.
  pub first_owned : (g : Ground) (f : Graph) (is_main : Bool) → P g.entry → AreOwned (first_pieces g f is_main)
  first_owned g f is_main entry =
      (bindings_owned g.storage f 0 f.parameters (with_code (guard_code ++ entering_code g.saved g.size ++ base_code is_main g.storage.base) (no_code g.entry []))
      (code_owned (guard_code ++ entering_code g.saved g.size ++ base_code is_main g.storage.base) (no_code g.entry []) (entry, tt))).1

  module _ (none : P 0) where
    leaving_owned : (moves : ℕ) (saved : List ℕ) (size : ℕ) (s : CodeState) → IsOwned s → IsOwned (with_leaving moves saved size s)
    leaving_owned moves saved size s own =
        let one : IsOwned (with_code (instruction.Immediate Addi 4 4 1 ∷ []) s) = code_owned (instruction.Immediate Addi 4 4 1 ∷ []) s own in
        code_owned (restoring_code saved 4 ++ instruction.Load Lw 1 2 0 ∷ moving_by moves size ++ instruction.Jalr 0 1 0 ∷ []) (of_no_place (with_code (instruction.Immediate Addi 4 4 1 ∷ []) s)) (none, one.1)

    leave_owned : (saved : List ℕ) (size end next room : ℕ) (s : CodeState) → IsOwned s → IsOwned (with_leave saved size end next room s)
    leave_owned saved size end next room s own =
        choice IsOwned (next == end || (not (nat_le (length saved) 9) || not (nat_le (length saved + 3 + words_of_moving size) room))) (with_pieces (going s.begins end next) s) (with_leaving (words_of_moving size) saved size s)
        (λ e. pieces_owned (going s.begins end next) s own) (λ e. leaving_owned (words_of_moving size) saved size s own)

    end_owned : (g : StorageForm) (saved : List ℕ) (size end next : ℕ) (loads : List Held) (b : End) (s : CodeState) → IsOwned s → AreOwned (with_end g saved size end next loads b s).pieces
    end_owned g saved size end next loads (Jump to) s own = (pieces_owned (end_pieces g s.held s.begins loads next (Jump to)) s own).1
    end_owned g saved size end next loads (Branch k x y if_true if_false) s own = (pieces_owned (end_pieces g s.held s.begins loads next (Branch k x y if_true if_false)) s own).1
    end_owned g saved size end next loads (Return None) s own = (leave_owned saved size end next 9 s own).1
    end_owned g saved size end next loads (Return (Some a)) s own =
        (leave_owned saved size end next (room_behind g.base (source_of g a)) (with_code (bringing g s.held 10 (source_of g a)) s) (code_owned (bringing g s.held 10 (source_of g a)) s own)).1

    -- ---- Parts of functions

    -- The block's place or none is in force where the block begins.
    abbrev IsOwnedBlock : Block → Type 0
    IsOwnedBlock b = P (option_map_or (λ p. p) b.place 0) × AllByRecursion P (markers_in b.instructions)

    last_owned : (g : Ground) → AreOwned (last_pieces g)
    last_owned g = (leaving_owned (words_of_moving g.size) g.saved g.size (no_code 0 []) (none, tt)).1

    block_owned : (g : Ground) (x : Standing) → IsOwnedBlock x.block → AreOwned (standing_code g x).pieces
    block_owned g x is =
        end_owned g.storage g.saved g.size g.end x.next x.loads x.block.end (with_instructions g.storage g.entry 0 x.block.instructions (no_code (option_map_or (λ p. p) x.block.place 0) x.known))
        (instructions_owned g.storage g.entry 0 x.block.instructions (no_code (option_map_or (λ p. p) x.block.place 0) x.known) is.1 (is.0, tt))

    blocks_owned : (g : Ground) (numbers : List ℕ) (all : List Standing) → AllByRecursion (λ (x : Standing). IsOwnedBlock x.block) all → AreOwned (all_pieces g numbers all)
    blocks_owned g numbers [] are = tt
    blocks_owned g numbers (x ∷ more) are =
        all_append (λ (y : PlacedPiece). P y.owner) (standing_pieces g numbers x) (all_pieces g numbers more) (numbered_owned (slice_index numbers x.number) (standing_code g x).pieces (block_owned g x are.0)) (blocks_owned g numbers more are.1)

    standing_owned : (g : Ground) (blocks : List Block) (at : ℕ → List Held) (all : List Standing) → ((k : ℕ) (b : Block) → slice_get blocks k ≡ Some b → IsOwnedBlock b) → AllByRecursion (IsStanding g blocks at) all → AllByRecursion (λ (x : Standing). IsOwnedBlock x.block) all
    standing_owned g blocks at [] are standing = tt
    standing_owned g blocks at (x ∷ more) are standing = (are x.number x.block standing.0.block, standing_owned g blocks at more are standing.1)

    -- The pieces of a function belong to such places where its entry and its blocks do.
    pub sequence_owned : (g : Ground) (f : Graph) (is_main : Bool) (s : SequenceForm) → IsSequenceOf g f is_main s → P g.entry → ((k : ℕ) (b : Block) → slice_get f.blocks k ≡ Some b → IsOwnedBlock b) → AreOwned s.pieces
    sequence_owned g f is_main s sequence entry are =
        subst AreOwned (sym sequence.pieces)
        (all_append (λ (x : PlacedPiece). P x.owner) (first_pieces g f is_main ++ all_pieces g s.numbers sequence.standing) (last_pieces g)
        (all_append (λ (x : PlacedPiece). P x.owner) (first_pieces g f is_main) (all_pieces g s.numbers sequence.standing) (first_owned g f is_main entry)
        (blocks_owned g s.numbers sequence.standing (standing_owned g f.blocks sequence.at sequence.standing are sequence.blocks))) (last_owned g))
