-- The code of each instruction.
use Rattle.std.specs.Prelude.{ℕ, ◌==◌, not}
use Rattle.graph_core.specs.Graphs.{Instruction, Marker, Note, Move, Operate, Truncate, Same, Address, Load, Store, Zero, CopyWords, Call}
use Rattle.rv_emit_storage.specs.Storages.{StorageForm, home_at, source_of}
use Rattle.rv_emit_words.specs.Growing.{CodeState, with_code, settled}
use Rattle.rv_emit_instructions.specs.Operations.{operation_code, truncation_code, comparison_code, move_code}
use Rattle.rv_emit_instructions.specs.Memory.{load_code, store_code, object_address_code}
use Rattle.rv_emit_instructions.specs.Filling.{zero_code, copy_code}
use Rattle.rv_emit_instructions.specs.Calls.{with_call}

-- The code of an instruction behind other code, in a function with this entry. A marker has no word of its own but
-- where the place before it has none; a note has none.
abbrev pub with_instruction : StorageForm → (entry : ℕ) → Instruction → CodeState → CodeState
with_instruction g entry (Marker p) s = record (settled s) { owner = p; begins = not (p == entry) }
with_instruction g entry (Note x v) s = s
with_instruction g entry (Move x a) s = with_code (move_code g s.held (home_at g x) (source_of g a)) s
with_instruction g entry (Operate x op a b) s =
    with_code (operation_code g s.held (home_at g x) op (source_of g a) (source_of g b)) s
with_instruction g entry (Truncate x t a) s = with_code (truncation_code g s.held (home_at g x) t (source_of g a)) s
with_instruction g entry (Same x a b) s =
    with_code (comparison_code g s.held (home_at g x) (source_of g a) (source_of g b)) s
with_instruction g entry (Address x object) s = with_code (object_address_code g (home_at g x) object) s
with_instruction g entry (Load x e l) s = with_code (load_code g s.held (home_at g x) e l) s
with_instruction g entry (Store e l a) s = with_code (store_code g s.held e l (source_of g a)) s
with_instruction g entry (Zero object words) s = with_code (zero_code g object words) s
with_instruction g entry (CopyWords object bytes words) s = with_code (copy_code g s.held object bytes words) s
with_instruction g entry (Call target f all) s = with_call g target f all s
