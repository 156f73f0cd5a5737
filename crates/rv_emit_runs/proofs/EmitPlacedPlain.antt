-- What code appends: pieces of one word, for which nothing is told yet.
use Rattle.std.proofs.Common.{◌≡◌, ℕ, ◌+◌, Bool, false, true, cond, Option, Some, None, List, [], ◌∷◌, ◌++◌, refl, sym, ap, ◌∙◌, append_assoc, append-nil}
use Rattle.std.specs.List.{AllByRecursion}
use Rattle.rv_code.specs.declared.instruction.Instruction.{Instruction}
use Rattle.rv_code.specs.declared.instruction.Instruction.TheVariants as instruction
use Rattle.rv_code.specs.declared.instruction.ImmediateOperation.TheVariants.{Addi}
use Rattle.graph_core.specs.declared.instruction.Callee.{Callee}
use Rattle.graph_core.specs.declared.instruction.Callee.TheVariants as callee
use Rattle.graph_core.specs.Graphs.{Operand, Instruction as UnitInstruction, Marker, Note, Move, Operate, Truncate, Same, Address, Load, Store, Zero, CopyWords, Call}
use Rattle.rv_emit_words.specs.declared.piece.Piece.{Piece}
use Rattle.rv_emit_words.specs.declared.piece.Piece.TheVariants as piece
use Rattle.rv_emit_words.specs.declared.piece.PlacedPiece.{PlacedPiece}
use Rattle.rv_emit_storage.specs.Storages.{StorageForm, home_at, source_of}
use Rattle.rv_emit_words.specs.Growing.{CodeState, settled, with_code, with_piece}
use Rattle.rv_emit_words.specs.Operands.{bringing, home_written}
use Rattle.rv_emit_instructions.specs.Operations.{comparison_code, move_code, operation_code, truncation_code}
use Rattle.rv_emit_instructions.specs.Calls.{answered, argument_register, called, environment_called, forgetting, passed, passed_from}
use Rattle.rv_emit_instructions.specs.Code.{with_instruction}
use Rattle.rv_emit_instructions.specs.Filling.{copy_code, zero_code}
use Rattle.rv_emit_instructions.specs.Memory.{load_code, object_address_code, store_code}
use Rattle.rv_emit_code.specs.Ends.{words}
use Rattle.rv_emit_runs.specs.Placed.{placed_pieces}
use Rattle.rv_emit_runs.proofs.Appended.{pieces_appended, words_appended}
use Rattle.rv_emit_runs.proofs.Forms.{choice}
use Rattle.rv_emit_runs.proofs.Stops.{all_append}

-- A piece has one word, however its labels lie.
abbrev pub IsNarrow : Piece → Type 0
IsNarrow (piece.Word i) = Unit {0}
IsNarrow (piece.Jump to) = Unit {0}
IsNarrow (piece.Branch op l r to) = ⊥
IsNarrow (piece.Call f) = Unit {0}

abbrev pub AreNarrow : List PlacedPiece → Type 0
AreNarrow pieces = AllByRecursion (λ (x : PlacedPiece). IsNarrow x.piece) pieces

-- So many pieces are appended, each of one word, and no target is told for any of them.
abbrev pub ArePlain : List PlacedPiece → Type 0
ArePlain pieces = AllByRecursion (λ (x : PlacedPiece). IsNarrow x.piece × (x.writes ≡ None)) pieces

pub record Appends (s t : CodeState) : Type 0 where
  pub more : List PlacedPiece
  pub is : t.pieces ≡ s.pieces ++ more
  pub plain : ArePlain more

pub appends_none : (s : CodeState) → Appends s s
appends_none s = record { more = []; is = sym (append-nil s.pieces); plain = tt }

pub appends_then : (s t u : CodeState) → Appends s t → Appends t u → Appends s u
appends_then s t u one two = record {
  more = one.more ++ two.more;
  is = two.is ∙ ap (λ l. l ++ two.more) one.is ∙ append_assoc s.pieces one.more two.more;
  plain = all_append (λ (x : PlacedPiece). IsNarrow x.piece × (x.writes ≡ None)) one.more two.more one.plain two.plain;
}

words_plain : (owner : ℕ) (stops : Bool) (code : List Instruction) → ArePlain (placed_pieces owner stops (words code))
words_plain owner stops [] = tt
words_plain owner stops (i ∷ more) = ((tt, refl), words_plain owner false more)

pub code_appends : (code : List Instruction) (s : CodeState) → Appends s (with_code code s)
code_appends code s = record {
  more = placed_pieces s.owner s.begins (words code);
  is = ap (λ (x : CodeState). x.pieces) (words_appended code s) ∙ pieces_appended (words code) s;
  plain = words_plain s.owner s.begins code;
}

settled_appends : (s : CodeState) → Appends s (settled s)
settled_appends s = choice (Appends s) s.begins (with_code (instruction.Immediate Addi 0 0 0 ∷ []) s) s (λ e. code_appends (instruction.Immediate Addi 0 0 0 ∷ []) s) (λ e. appends_none s)

-- ---- Calls

-- What registers hold is no matter.
forgetting_appends : (r : ℕ) (s t : CodeState) → Appends s t → Appends s (forgetting r t)
forgetting_appends r s t is = record { more = is.more; is = is.is; plain = is.plain }

passed_appends : (g : StorageForm) (n : ℕ) (a : Operand) (s : CodeState) → Appends s (passed g n a s)
passed_appends g n a s = forgetting_appends (argument_register n) s (with_code (bringing g s.held (argument_register n) (source_of g a)) s) (code_appends (bringing g s.held (argument_register n) (source_of g a)) s)

all_passed : (g : StorageForm) (n : ℕ) (all : List Operand) (s : CodeState) → Appends s (passed_from g n all s)
all_passed g n [] s = appends_none s
all_passed g n (a ∷ more) s = appends_then s (passed g n a s) (passed_from g (n + 1) more (passed g n a s)) (passed_appends g n a s) (all_passed g (n + 1) more (passed g n a s))

environment_appends : (n : ℕ) (s : CodeState) → Appends s (environment_called n s)
environment_appends n s =
    let one : CodeState = with_code (instruction.Immediate Addi 17 0 n ∷ []) s in
    appends_then s (forgetting 17 one) (environment_called n s) (forgetting_appends 17 s one (code_appends (instruction.Immediate Addi 17 0 n ∷ []) s)) (code_appends (instruction.Ecall ∷ []) (forgetting 17 one))

called_appends : (f : Callee) (s : CodeState) → Appends s (called f s)
called_appends callee.Getchar s = environment_appends 1 s
called_appends callee.Putchar s = environment_appends 2 s
called_appends callee.Exit s = environment_appends 10 s
called_appends (callee.Function f) s = record { more = (record { piece = piece.Call f; owner = s.owner; is_stop = s.begins; writes = None }) ∷ []; is = refl; plain = ((tt, refl), tt) }

pub passed_and_called : (g : StorageForm) (f : Callee) (all : List Operand) (s : CodeState) → Appends s (called f (passed_from g 0 all s))
passed_and_called g f all s = appends_then s (passed_from g 0 all s) (called f (passed_from g 0 all s)) (all_passed g 0 all s) (called_appends f (passed_from g 0 all s))

answered_appends : (g : StorageForm) (target : Option ℕ) (s : CodeState) → Appends s (answered g target s)
answered_appends g None s = appends_none s
answered_appends g (Some x) s = code_appends (home_written g (home_at g x) 10) s

-- ---- Instructions

pub instruction_appends : (g : StorageForm) (entry : ℕ) (i : UnitInstruction) (s : CodeState) → Appends s (with_instruction g entry i s)
instruction_appends g entry (Marker p) s = let done = settled_appends s in record { more = done.more; is = done.is; plain = done.plain }
instruction_appends g entry (Note x v) s = appends_none s
instruction_appends g entry (Move x a) s = code_appends (move_code g s.held (home_at g x) (source_of g a)) s
instruction_appends g entry (Operate x op a b) s = code_appends (operation_code g s.held (home_at g x) op (source_of g a) (source_of g b)) s
instruction_appends g entry (Truncate x t a) s = code_appends (truncation_code g s.held (home_at g x) t (source_of g a)) s
instruction_appends g entry (Same x a b) s = code_appends (comparison_code g s.held (home_at g x) (source_of g a) (source_of g b)) s
instruction_appends g entry (Address x object) s = code_appends (object_address_code g (home_at g x) object) s
instruction_appends g entry (Load x e l) s = code_appends (load_code g s.held (home_at g x) e l) s
instruction_appends g entry (Store e l a) s = code_appends (store_code g s.held e l (source_of g a)) s
instruction_appends g entry (Zero object words) s = code_appends (zero_code g object words) s
instruction_appends g entry (CopyWords object bytes words) s = code_appends (copy_code g s.held object bytes words) s
instruction_appends g entry (Call target f all) s =
    appends_then s (called f (passed_from g 0 all s)) (answered g target (called f (passed_from g 0 all s))) (passed_and_called g f all s) (answered_appends g target (called f (passed_from g 0 all s)))
