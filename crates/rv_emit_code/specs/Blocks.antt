-- The code of blocks and of whole functions' beginnings and ends, and of what stands before all functions, as it is
-- made from none.
use Rattle.std.specs.Prelude.{ℕ, ◌+◌, ◌/◌, ◌%◌, false, List, [], ◌∷◌}
use Rattle.std.specs.Option.{option_map_or}
use Rattle.memory_map.specs.Maps.{stack_end}
use Rattle.memory_map.specs.declared.map.Map.{Map}
use Rattle.rv_code.specs.declared.instruction.Instruction.TheVariants.{Lui, Immediate, Ecall}
use Rattle.rv_code.specs.declared.instruction.ImmediateOperation.TheVariants.{Addi}
use Rattle.graph_core.specs.Graphs.{Instruction, Block}
use Rattle.graph_core.specs.Uses.{target_of}
use Rattle.rv_emit_words.specs.declared.piece.Held.{Held}
use Rattle.rv_emit_words.specs.declared.piece.Piece.TheVariants.{Call}
use Rattle.rv_emit_storage.specs.Storages.{StorageForm}
use Rattle.rv_emit_words.specs.Growing.{CodeState, with_code, with_piece}
use Rattle.rv_emit_instructions.specs.Code.{with_instruction}
use Rattle.rv_emit_code.specs.Beginning.{with_writer}
use Rattle.rv_emit_code.specs.Leaving.{with_end}

-- No code yet, of a place or of none, where constants are held.
abbrev pub no_code : (owner : ℕ) → List Held → CodeState
no_code owner held = record { pieces = []; held = held; owner = owner; begins = false }

-- An instruction of this number in its block. Its last word is marked as the one that writes the home of its target, if
-- it has one.
abbrev pub with_numbered : StorageForm → (entry number : ℕ) → Instruction → CodeState → CodeState
with_numbered g entry n i s =
    option_map_or (λ x. with_writer n (with_instruction g entry i s)) (target_of i) (with_instruction g entry i s)

-- Instructions in order, the first of them of this number.
abbrev pub with_instructions : StorageForm → (entry number : ℕ) → List Instruction → CodeState → CodeState
with_instructions g entry n [] s = s
with_instructions g entry n (i ∷ more) s =
    with_instructions g entry ((n + 1) % 4294967296) more (with_numbered g entry n i s)

-- The code of a block, in a function with this entry and this end, where the block of a label stands next and constants
-- are known: its instructions, and its end.
abbrev pub block_code : StorageForm → (entry : ℕ) → (saved : List ℕ) → (size end next : ℕ) → (known loads : List Held)
    → Block → CodeState
block_code g entry saved size end next known loads b =
    with_end g saved size end next loads b.end
    (with_instructions g entry 0 b.instructions (no_code (option_map_or (λ p. p) b.place 0) known))

-- The code before all functions: sp is set to the end of the stack, tp is set, main is called, and the run ends with
-- its result.
abbrev pub with_stub : Map → (main : ℕ) → CodeState → CodeState
with_stub m main s =
    with_code (Immediate Addi 17 0 10 ∷ Ecall ∷ [])
    (with_piece (Call main) (with_code (Lui 2 (stack_end m / 4096) ∷ Immediate Addi 4 0 1024 ∷ []) s))
