-- The code of a valid unit has few words.
use Rattle.std.proofs.Common.{◌≡◌, ◌≤◌, ℕ, ◌+◌, ◌*◌, refl, subst, List, [], ◌∷◌, length, arith}
use Rattle.std.proofs.lemmas.List.{length-append}
use Rattle.std.specs.List.{AllByRecursion}
use Rattle.memory_map.specs.Maps.{most_words}
use Rattle.memory_map.specs.declared.map.Map.{Map}
use Rattle.memory_map.specs.declared.map.Map.TheVariants.{One, Two}
use Rattle.memory_map.specs.declared.map.Room.TheVariants.{Small, Large}
use Rattle.graph_core.specs.Bounds.{most_arguments, most_blocks, most_instructions, most_markers}
use Rattle.graph_core.specs.Graphs.{Instruction, Marker, Note, Move, Operate, Truncate, Same, Address, Load, Store, Zero, CopyWords, Call, Block, Graph, UnitForm}
use Rattle.graph_core.specs.Validity.{IsGraph, IsValid, arguments_in, arguments_of, counts, instructions_of, markers_in, markers_of, markers_of_blocks, total}
use Rattle.rv_emit_words.specs.declared.piece.Piece.{Piece}
use Rattle.rv_emit_words.specs.declared.piece.Piece.TheVariants.{Word, Jump, Branch, Call as CallPiece}
use Rattle.rv_emit_words.specs.declared.piece.PlacedPiece.{PlacedPiece}
use Rattle.rv_emit_words.specs.InstructionWords.{most_words_of}
use Rattle.rv_emit_words.specs.Words.{words_in, words_of_piece}
use Rattle.rv_emit_sequence.specs.Words.{most_words_of_blocks}
use Rattle.rv_emit_layout.specs.declared.reaching.Reach.TheVariants.{Over, Far}
use Rattle.rv_emit_layout.specs.Longest.{longest_words}
use Rattle.rv_emit_layout.specs.Reaches.{width}
use Rattle.rv_emit_layout.specs.Words.{most_words_of_graphs}

of_instructions : (is : List Instruction) → total most_words_of is ≤ 13 * total counts is + (3 * total arguments_in is + length (markers_in is))
of_instructions [] = omega arith
of_instructions (Marker p ∷ more) = omega (arith, of_instructions more)
of_instructions (Note x v ∷ more) = omega (arith, of_instructions more)
of_instructions (Move x a ∷ more) = omega (arith, of_instructions more)
of_instructions (Operate x o a b ∷ more) = omega (arith, of_instructions more)
of_instructions (Truncate x t a ∷ more) = omega (arith, of_instructions more)
of_instructions (Same x a b ∷ more) = omega (arith, of_instructions more)
of_instructions (Address x o ∷ more) = omega (arith, of_instructions more)
of_instructions (Load x e l ∷ more) = omega (arith, of_instructions more)
of_instructions (Store e l a ∷ more) = omega (arith, of_instructions more)
of_instructions (Zero o w ∷ more) = omega (arith, of_instructions more)
of_instructions (CopyWords o b w ∷ more) = omega (arith, of_instructions more)
of_instructions (Call x f all ∷ more) = omega (arith, of_instructions more)

of_blocks : (bs : List Block) → most_words_of_blocks bs
    ≤ 13 * total (λ (b : Block). total counts b.instructions) bs + (3 * total (λ (b : Block). total arguments_in b.instructions) bs + (length (markers_of_blocks bs) + 9 * length bs))
of_blocks [] = omega arith
of_blocks (b ∷ more) = omega (arith, of_blocks more, of_instructions b.instructions, length-append (markers_in b.instructions) (markers_of_blocks more))

of_graphs : (u : UnitForm) (gs : List Graph) → AllByRecursion (IsGraph u) gs → most_words_of_graphs gs
    ≤ 13 * total instructions_of gs + (3 * total arguments_of gs + (length (markers_of gs) + (9 * total (λ (g : Graph). length g.blocks) gs + 70 * length gs)))
of_graphs u [] all = omega arith
of_graphs u (g ∷ more) all = let few : length g.parameters ≤ 8 = all.0.parameters in
    omega (arith, few, of_graphs u more all.1, of_blocks g.blocks, length-append (markers_of_blocks g.blocks) (markers_of more))

-- Each memory has room for that many.
pub code_has_room : (m : Map) → 262144 ≤ most_words m
code_has_room One = omega arith
code_has_room Two = omega arith

-- As far as jumps and calls have one word, and the code is not made by a plan: in the smaller room, and in the larger.
pub few_small : (u : UnitForm) → u.room ≡ Small → IsValid u → most_words_of_graphs u.graphs ≤ 262139
few_small u small v =
    let functions : length u.graphs ≤ 256 = v.functions in
    let instructions : total instructions_of u.graphs ≤ 8000 = subst (λ r. total instructions_of u.graphs ≤ most_instructions r) small v.instructions in
    let blocks : total (λ (g : Graph). length g.blocks) u.graphs ≤ 12000 = subst (λ r. total (λ (g : Graph). length g.blocks) u.graphs ≤ most_blocks r) small v.blocks in
    let markers : length (markers_of u.graphs) ≤ 4000 = subst (λ r. length (markers_of u.graphs) ≤ most_markers r) small v.markers in
    let arguments : total arguments_of u.graphs ≤ 4000 = subst (λ r. total arguments_of u.graphs ≤ most_arguments r) small v.arguments in
    omega (arith, functions, instructions, blocks, markers, arguments, of_graphs u u.graphs v.graphs)

pub few_large : (u : UnitForm) → u.room ≡ Large → IsValid u → most_words_of_graphs u.graphs ≤ 2297920
few_large u large v =
    let functions : length u.graphs ≤ 256 = v.functions in
    let instructions : total instructions_of u.graphs ≤ 80000 = subst (λ r. total instructions_of u.graphs ≤ most_instructions r) large v.instructions in
    let blocks : total (λ (g : Graph). length g.blocks) u.graphs ≤ 120000 = subst (λ r. total (λ (g : Graph). length g.blocks) u.graphs ≤ most_blocks r) large v.blocks in
    let markers : length (markers_of u.graphs) ≤ 40000 = subst (λ r. length (markers_of u.graphs) ≤ most_markers r) large v.markers in
    let arguments : total arguments_of u.graphs ≤ 40000 = subst (λ r. total arguments_of u.graphs ≤ most_arguments r) large v.arguments in
    omega (arith, functions, instructions, blocks, markers, arguments, of_graphs u u.graphs v.graphs)

-- ---- Jumps, branches and calls

-- A piece that is no word: in the larger room it may have one word more.
abbrev pub leads_on : Piece → ℕ
leads_on (Word i) = 0
leads_on (Jump to) = 1
leads_on (Branch op l r to) = 1
leads_on (CallPiece f) = 1

-- In the smaller room the most words are those that were counted as the code was made, in the larger room one more for each of these.
piece_small : (x : Piece) → width Over x ≡ words_of_piece x
piece_small (Word i) = refl
piece_small (Jump to) = refl
piece_small (Branch op l r to) = refl
piece_small (CallPiece f) = refl

piece_large : (x : Piece) → width Far x ≡ words_of_piece x + leads_on x
piece_large (Word i) = refl
piece_large (Jump to) = refl
piece_large (Branch op l r to) = refl
piece_large (CallPiece f) = refl

pub longest_small : (pieces : List PlacedPiece) → longest_words Small pieces ≡ words_in pieces
longest_small [] = refl
longest_small (p ∷ more) = omega (arith, piece_small p.piece, longest_small more)

pub longest_large : (pieces : List PlacedPiece) → longest_words Large pieces ≡ words_in pieces + total (λ (p : PlacedPiece). leads_on p.piece) pieces
longest_large [] = refl
longest_large (p ∷ more) = omega (arith, piece_large p.piece, longest_large more)
