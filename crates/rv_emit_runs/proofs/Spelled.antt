-- Words can spell all pieces of a function whose constants are words.
use Rattle.std.proofs.Common.{◌≡◌, ℕ, ◌+◌, ◌%◌, ◌<◌, ◌≤◌, inl, ⊎_elim, Bool, List, [], ◌∷◌, ◌++◌, map, sym, subst, arith}
use Rattle.std.specs.List.{AllByRecursion}
use Rattle.std.specs.Option.{option_map_or}
use Rattle.memory_map.specs.declared.map.Map.{Map}
use Rattle.memory_map.proofs.Facts.{map_facts}
use Rattle.graph_core.specs.Graphs.{Block, Graph, Instruction}
use Rattle.graph_core.specs.Uses.{target_of}
use Rattle.rv_emit_words.specs.declared.piece.Held.{Held}
use Rattle.rv_emit_words.specs.declared.piece.PlacedPiece.{PlacedPiece}
use Rattle.rv_emit_storage.specs.Storages.{StorageForm}
use Rattle.rv_emit_words.specs.Growing.{CodeState}
use Rattle.rv_emit_instructions.specs.Code.{with_instruction}
use Rattle.rv_emit_code.specs.Beginning.{with_writer}
use Rattle.rv_emit_code.specs.Blocks.{no_code, with_instructions, with_numbered, with_stub}
use Rattle.rv_emit_sequence.specs.Sequences.{AreConstants, Ground, IsConstant, IsSequenceOf, IsStanding, SequenceForm, Standing, all_pieces, first_pieces, last_pieces, numbered, standing_code, standing_pieces}
use Rattle.rv_emit_runs.specs.Laid.{HasWords, HasWordsInBlock, IsInWords}
use Rattle.rv_emit_runs.proofs.Lists.{all_at}
use Rattle.rv_emit_runs.specs.EmitPlacedStanding.{AreSpelled, IsSpelled}
use Rattle.rv_emit_runs.proofs.Endings.{AreFitLoads, AreFitSaved, beginning_fits, end_fits, leaving_fits}
use Rattle.rv_emit_runs.proofs.Forms.{AreRegisters, IsFitStorage, perhaps}
use Rattle.rv_emit_runs.proofs.Instructions.{IsFitCode, instruction_fits, marked_spelled}
use Rattle.rv_emit_runs.proofs.Stops.{all_append}

-- ---- What the code of a function rests on

-- Values are found where words can say so, and the frame is small.
pub record IsFitGround (g : Ground) : Type 0 where
  pub storage : IsFitStorage g.storage
  pub base : g.storage.base < 4294967296
  pub saved : AreFitSaved g.saved
  pub size : g.size < 4294967296

constant_register : (x : Held) → IsConstant x → x.register < 32
constant_register x is = ⊎_elim (λ (e : x.register ≡ 8). omega (arith, e)) (λ (both : (11 ≤ x.register) × (x.register ≤ 17)). let low = both.1 in omega (arith, low)) is.register

constants_registers : (held : List Held) → AreConstants held → AreRegisters held
constants_registers [] are = tt
constants_registers (x ∷ more) are = (constant_register x are.0, constants_registers more are.1)

constants_loads : (held : List Held) → AreConstants held → AreFitLoads held
constants_loads [] are = tt
constants_loads (x ∷ more) are = ((constant_register x are.0, are.0.word), constants_loads more are.1)

-- ---- Blocks

numbered_fits : (g : StorageForm) → IsFitStorage g → (entry n : ℕ) (i : Instruction) (s : CodeState) → HasWords i → IsFitCode s → IsFitCode (with_numbered g entry n i s)
numbered_fits g storage entry n i s is fit =
    let one : IsFitCode (with_instruction g entry i s) = instruction_fits g storage entry i s is fit in
    perhaps IsFitCode (λ x. with_writer n (with_instruction g entry i s)) (target_of i) (with_instruction g entry i s)
    (λ x at. record { pieces = marked_spelled n (with_instruction g entry i s).pieces one.pieces; held = one.held }) one

instructions_fit : (g : StorageForm) → IsFitStorage g → (entry n : ℕ) (all : List Instruction) (s : CodeState) → AllByRecursion HasWords all → IsFitCode s → IsFitCode (with_instructions g entry n all s)
instructions_fit g storage entry n [] s are fit = fit
instructions_fit g storage entry n (i ∷ more) s are fit = instructions_fit g storage entry ((n + 1) % 4294967296) more (with_numbered g entry n i s) are.1 (numbered_fits g storage entry n i s are.0 fit)

standing_fits : (g : Ground) → IsFitGround g → (x : Standing) → AreConstants x.known → AreConstants x.loads → HasWordsInBlock x.block → AreSpelled (standing_code g x).pieces
standing_fits g ground x known loads is =
    end_fits g.storage ground.storage g.saved g.size g.end x.next x.loads x.block.end (with_instructions g.storage g.entry 0 x.block.instructions (no_code (option_map_or (λ p. p) x.block.place 0) x.known))
    ground.saved ground.size (constants_loads x.loads loads) is.end
    (instructions_fit g.storage ground.storage g.entry 0 x.block.instructions (no_code (option_map_or (λ p. p) x.block.place 0) x.known) is.instructions (record { pieces = tt; held = constants_registers x.known known }))

numbered_spelled : (n : ℕ) (pieces : List PlacedPiece) → AreSpelled pieces → AreSpelled (map (numbered n) pieces)
numbered_spelled n [] all = tt
numbered_spelled n (x ∷ more) all = (all.0, numbered_spelled n more all.1)

blocks_spelled : (g : Ground) → IsFitGround g → (blocks : List Block) → AllByRecursion HasWordsInBlock blocks → (at : ℕ → List Held) → ((n : ℕ) → AreConstants (at n)) → (numbers : List ℕ) (all : List Standing) → AllByRecursion (IsStanding g blocks at) all → AreSpelled (all_pieces g numbers all)
blocks_spelled g ground blocks are at constants numbers [] standing = tt
blocks_spelled g ground blocks are at constants numbers (x ∷ more) standing =
    all_append (λ (y : PlacedPiece). IsSpelled y.piece) (standing_pieces g numbers x) (all_pieces g numbers more)
    (numbered_spelled _ (standing_code g x).pieces (standing_fits g ground x (subst AreConstants (sym standing.0.known) (constants x.number)) standing.0.loads (all_at HasWordsInBlock blocks x.number x.block are standing.0.block)))
    (blocks_spelled g ground blocks are at constants numbers more standing.1)

-- ---- All of it

pub sequence_spelled : (g : Ground) → IsFitGround g → (f : Graph) (is_main : Bool) (s : SequenceForm) → IsInWords f → IsSequenceOf g f is_main s → AreSpelled s.pieces
sequence_spelled g ground f is_main s is sequence =
    subst AreSpelled (sym sequence.pieces)
    (all_append (λ (y : PlacedPiece). IsSpelled y.piece) (first_pieces g f is_main ++ all_pieces g s.numbers sequence.standing) (last_pieces g)
    (all_append (λ (y : PlacedPiece). IsSpelled y.piece) (first_pieces g f is_main) (all_pieces g s.numbers sequence.standing)
    (beginning_fits g.storage ground.storage ground.base f g.saved g.size is_main (no_code g.entry []) ground.saved (record { pieces = tt; held = tt })).pieces
    (blocks_spelled g ground f.blocks is.blocks sequence.at sequence.constants s.numbers sequence.standing sequence.blocks))
    (leaving_fits g.saved g.size (no_code 0 []) ground.saved ground.size (record { pieces = tt; held = tt })).pieces)

-- What stands before all functions.
pub stub_spelled : (regions : Map) (main : ℕ) → AreSpelled (with_stub regions main (no_code 0 [])).pieces
stub_spelled regions main = ((omega arith, omega (arith, (map_facts regions).whole)), ((omega arith, omega arith, inl (omega arith)), (tt, ((omega arith, omega arith, inl (omega arith)), (tt, tt)))))
