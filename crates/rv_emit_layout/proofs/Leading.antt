-- How many pieces of functions are jumps, branches and calls: at most two for each block, and one for each instruction.
use Rattle.std.proofs.Common.{◌≡◌, ◌≢◌, ◌≤◌, ◌<◌, ℕ, zero, suc, ◌+◌, ◌*◌, ◌%◌, ◌==◌, ◌||◌, not, nat_le, if◌then◌else◌, Bool, true, false, Option, Some, None, List, [], ◌∷◌, ◌++◌, length, map, slice_get, slice_index, slice_set, option_map, refl, sym, ap, ◌∙◌, subst, arith}
use Rattle.std.proofs.lemmas.Option.{same_Some}
use Rattle.std.specs.List.{AllByRecursion}
use Rattle.std.specs.Option.{option_map_or}
use Rattle.rv_code.specs.declared.instruction.Instruction.{Instruction as CodeInstruction}
use Rattle.rv_code.specs.declared.instruction.Instruction.TheVariants.{Load as LoadWord, Immediate, Jalr, Ecall}
use Rattle.rv_code.specs.declared.instruction.BranchOperation.{BranchOperation}
use Rattle.rv_code.specs.declared.instruction.LoadOperation.TheVariants.{Lw}
use Rattle.rv_code.specs.declared.instruction.ImmediateOperation.TheVariants.{Addi}
use Rattle.graph_core.specs.Graphs.{Instruction, Marker, Note, Move, Operate, Truncate, Same, Address, Load, Store, Zero, CopyWords, Call, Operand, Binding, End, Jump, Branch, Return, Block, Graph}
use Rattle.graph_core.specs.Paths.{Among, front, behind}
use Rattle.graph_core.specs.Uses.{target_of}
use Rattle.graph_core.specs.Validity.{counts, instructions_of, total}
use Rattle.graph_core.specs.declared.block.Comparison.{Comparison}
use Rattle.graph_core.specs.declared.instruction.Callee.{Callee}
use Rattle.graph_core.specs.declared.instruction.Callee.TheVariants.{Getchar, Putchar, Exit, Function}
use Rattle.graph_homes.specs.Homed.{HomedForm, homes_in}
use Rattle.rv_emit_storage.specs.declared.storage.Source.{Source}
use Rattle.rv_emit_storage.specs.declared.storage.Source.TheVariants.{Home as OfHome, Word as OfWord}
use Rattle.rv_emit_storage.specs.Storages.{StorageForm, home_at, source_of}
use Rattle.rv_emit_words.specs.declared.piece.Held.{Held}
use Rattle.rv_emit_words.specs.declared.piece.Piece.{Piece}
use Rattle.rv_emit_words.specs.declared.piece.Piece.TheVariants.{Word, Jump as JumpPiece, Branch as BranchPiece, Call as CallPiece}
use Rattle.rv_emit_words.specs.declared.piece.PlacedPiece.{PlacedPiece}
use Rattle.rv_emit_words.specs.Growing.{CodeState, forgotten, marked, settled, with_code, with_piece}
use Rattle.rv_emit_words.specs.Operands.{bringing, home_written, source_register}
use Rattle.rv_emit_instructions.specs.Calls.{answered, argument_register, called, environment_called, forgetting, passed, passed_from, with_call}
use Rattle.rv_emit_instructions.specs.Code.{with_instruction}
use Rattle.rv_emit_instructions.specs.Filling.{copy_code, zero_code}
use Rattle.rv_emit_instructions.specs.Memory.{load_code, object_address_code, store_code}
use Rattle.rv_emit_instructions.specs.Operations.{comparison_code, move_code, operation_code, truncation_code}
use Rattle.rv_emit_code.specs.Beginning.{base_code, binding_code, entering_code, guard_code, with_beginning, with_bindings, with_writer}
use Rattle.rv_emit_code.specs.Blocks.{block_code, no_code, with_instructions, with_numbered}
use Rattle.rv_emit_code.specs.Ends.{Compared, begins_behind, branch_operation, branching, choosing, comparing_code, end_pieces, going, going_by, jumping, loading_code, loading_held, opposite, room_of, with_pieces, with_zero, word_test, words}
use Rattle.rv_emit_code.specs.Leaving.{moving_by, of_no_place, restoring_code, room_behind, with_end, with_leave, with_leaving, with_return, words_of_moving}
use Rattle.rv_emit_sequence.specs.Sequences.{Ground, SequenceForm, Standing, all_pieces, counted, first_pieces, last_pieces, numbered, standing_code, standing_pieces, AreOnce, IsSequenceOf, IsStanding}
use Rattle.rv_emit_layout.specs.Laid.{ground_for, AreLaid, IsLaidOf, LaidForm, StaticForm}
use Rattle.rv_emit_layout.specs.Layouts.{most_pieces}
use Rattle.rv_emit_layout.proofs.Bound.{leads_on}

-- How many of some pieces are none of words.
abbrev pub leads : List PlacedPiece → ℕ
leads pieces = total (λ (p : PlacedPiece). leads_on p.piece) pieces

leads_both : (xs ys : List PlacedPiece) → leads (xs ++ ys) ≡ leads xs + leads ys
leads_both [] ys = omega arith
leads_both (x ∷ xs) ys = omega (arith, leads_both xs ys)

-- ---- How code grows

one_more : (x : Piece) (s : CodeState) → leads (with_piece x s).pieces ≡ leads s.pieces + leads_on x
one_more x s =
    let both = leads_both s.pieces ((record { piece = x; owner = s.owner; is_stop = s.begins; writes = None }) ∷ []) in
    omega (arith, both)

by_code : (code : List CodeInstruction) (s : CodeState) → leads (with_code code s).pieces ≡ leads s.pieces
by_code [] s = refl
by_code (i ∷ more) s = omega (arith, by_code more (with_piece (Word i) s), one_more (Word i) s)

by_pieces : (xs : List Piece) (s : CodeState) → leads (with_pieces xs s).pieces ≡ leads s.pieces + total leads_on xs
by_pieces [] s = omega arith
by_pieces (x ∷ more) s = omega (arith, by_pieces more (with_piece x s), one_more x s)

by_mark : (n : ℕ) (pieces : List PlacedPiece) → leads (marked n pieces) ≡ leads pieces
by_mark n [] = refl
by_mark n (p ∷ []) = refl
by_mark n (p ∷ q ∷ more) = ap (λ k. leads_on p.piece + k) (by_mark n (q ∷ more))

by_number : (n : ℕ) (pieces : List PlacedPiece) → leads (map (numbered n) pieces) ≡ leads pieces
by_number n [] = refl
by_number n (p ∷ more) = ap (λ k. leads_on p.piece + k) (by_number n more)

-- ---- Ends of blocks

total_both : (xs ys : List Piece) → total leads_on (xs ++ ys) ≡ total leads_on xs + total leads_on ys
total_both [] ys = omega arith
total_both (x ∷ xs) ys = omega (arith, total_both xs ys)

no_words : (code : List CodeInstruction) → total leads_on (words code) ≡ 0
no_words [] = refl
no_words (i ∷ more) = omega (arith, no_words more)

by_going : (b : Bool) (to next : ℕ) → total leads_on (going b to next) ≤ 1
by_going b to next = go (to == next) b
  where
    go : (same begins : Bool)
        → total leads_on (if same then (if begins then Word (Immediate Addi 0 0 0) ∷ [] else []) else JumpPiece (record { 0 = to }) ∷ []) ≤ 1
    go true true = omega arith
    go true false = omega arith
    go false begins = omega arith

by_jumping : (g : StorageForm) (held : List Held) (b : Bool) (loads : List Held) (to next : ℕ) → total leads_on (jumping g held b loads to next) ≤ 1
by_jumping g held b loads to next =
    let code = loading_code g.base 8 loads held in
    omega (arith, total_both (words code) (going (begins_behind b code) to next), no_words code, by_going (begins_behind b code) to next)

by_going_by : (op : BranchOperation) (l r if_true if_false next : ℕ) → total leads_on (going_by op l r if_true if_false next) ≤ 2
by_going_by op l r if_true if_false next = go (if_true == next)
  where
    go : (same : Bool)
        → total leads_on (if same then BranchPiece (opposite op) l r (record { 0 = if_false }) ∷ [] else BranchPiece op l r (record { 0 = if_true }) ∷ going false if_false next) ≤ 2
    go true = omega arith
    go false = omega (arith, by_going false if_false next)

by_branching : (g : StorageForm) (held loads : List Held) (x : Compared) (if_true if_false next : ℕ)
    → total leads_on (branching g held loads x if_true if_false next) ≤ 2
by_branching g held loads x if_true if_false next =
    let code = comparing_code g held loads x in
    let left = source_register g (loading_held g.base (room_of x) loads held) x.left 6 in
    let right = source_register g (loading_held g.base (room_of x) loads held) x.right 7 in
    let behind = going_by (branch_operation x.comparison) left right if_true if_false next in
    omega (arith, total_both (words code) behind, no_words code, by_going_by (branch_operation x.comparison) left right if_true if_false next)

by_choosing : (g : StorageForm) (held : List Held) (b : Bool) (loads : List Held) (k : Comparison) (l r : Source) (if_true if_false next : ℕ)
    → total leads_on (choosing g held b loads k l r if_true if_false next) ≤ 2
by_choosing g held b loads k (OfWord x) (OfWord y) if_true if_false next = omega (arith, by_jumping g held b loads (if word_test k x y then if_true else if_false) next)
by_choosing g held b loads k (OfWord x) (OfHome y) if_true if_false next = by_branching g held loads (with_zero k (OfWord x) (OfHome y)) if_true if_false next
by_choosing g held b loads k (OfHome x) (OfWord y) if_true if_false next = by_branching g held loads (with_zero k (OfHome x) (OfWord y)) if_true if_false next
by_choosing g held b loads k (OfHome x) (OfHome y) if_true if_false next = by_branching g held loads (with_zero k (OfHome x) (OfHome y)) if_true if_false next

by_end_pieces : (g : StorageForm) (held : List Held) (b : Bool) (loads : List Held) (next : ℕ) (e : End)
    → total leads_on (end_pieces g held b loads next e) ≤ 2
by_end_pieces g held b loads next (Jump to) = omega (arith, by_jumping g held b loads to next)
by_end_pieces g held b loads next (Branch k x y if_true if_false) = go (if_true == if_false)
  where
    go : (same : Bool)
        → total leads_on (if same then jumping g held b loads if_true next else choosing g held b loads k (source_of g x) (source_of g y) if_true if_false next) ≤ 2
    go true = omega (arith, by_jumping g held b loads if_true next)
    go false = by_choosing g held b loads k (source_of g x) (source_of g y) if_true if_false next
by_end_pieces g held b loads next (Return v) = omega arith

by_leaving : (moves : ℕ) (saved : List ℕ) (size : ℕ) (s : CodeState) → leads (with_leaving moves saved size s).pieces ≡ leads s.pieces
by_leaving k saved size s =
    by_code (restoring_code saved 4 ++ LoadWord Lw 1 2 0 ∷ moving_by k size ++ Jalr 0 1 0 ∷ []) (of_no_place (with_code (Immediate Addi 4 4 1 ∷ []) s))
    ∙ by_code (Immediate Addi 4 4 1 ∷ []) s

by_leave : (saved : List ℕ) (size end next room : ℕ) (s : CodeState) → leads (with_leave saved size end next room s).pieces ≤ leads s.pieces + 2
by_leave saved size end next room s = go (next == end || (not (nat_le (length saved) 9) || not (nat_le (length saved + 3 + words_of_moving size) room)))
  where
    go : (far : Bool) → leads (if far then with_pieces (going s.begins end next) s else with_leaving (words_of_moving size) saved size s).pieces ≤ leads s.pieces + 2
    go true = omega (arith, by_pieces (going s.begins end next) s, by_going s.begins end next)
    go false = omega (arith, by_leaving (words_of_moving size) saved size s)

by_return : (g : StorageForm) (saved : List ℕ) (size end next : ℕ) (v : Option Source) (s : CodeState)
    → leads (with_return g saved size end next v s).pieces ≤ leads s.pieces + 2
by_return g saved size end next None s = by_leave saved size end next 9 s
by_return g saved size end next (Some value) s = omega (
  arith,
  by_leave saved size end next (room_behind g.base value) (with_code (bringing g s.held 10 value) s),
  by_code (bringing g s.held 10 value) s,
)

by_end : (g : StorageForm) (saved : List ℕ) (size end next : ℕ) (loads : List Held) (e : End) (s : CodeState)
    → leads (with_end g saved size end next loads e s).pieces ≤ leads s.pieces + 2
by_end g saved size end next loads (Jump to) s =
    omega (arith, by_pieces (end_pieces g s.held s.begins loads next (Jump to)) s, by_end_pieces g s.held s.begins loads next (Jump to))
by_end g saved size end next loads (Branch k x y if_true if_false) s = omega (
  arith,
  by_pieces (end_pieces g s.held s.begins loads next (Branch k x y if_true if_false)) s,
  by_end_pieces g s.held s.begins loads next (Branch k x y if_true if_false),
)
by_end g saved size end next loads (Return v) s = by_return g saved size end next (option_map (source_of g) v) s

-- ---- Instructions

by_settled : (s : CodeState) → leads (settled s).pieces ≡ leads s.pieces
by_settled s = go s.begins
  where
    go : (b : Bool) → leads (if b then with_code (Immediate Addi 0 0 0 ∷ []) s else s).pieces ≡ leads s.pieces
    go true = by_code (Immediate Addi 0 0 0 ∷ []) s
    go false = refl

by_passing : (g : StorageForm) (n : ℕ) (all : List Operand) (s : CodeState) → leads (passed_from g n all s).pieces ≡ leads s.pieces
by_passing g n [] s = refl
by_passing g n (a ∷ more) s =
    by_passing g (n + 1) more (passed g n a s) ∙ by_code (bringing g s.held (argument_register n) (source_of g a)) s

by_environment : (n : ℕ) (s : CodeState) → leads (environment_called n s).pieces ≡ leads s.pieces
by_environment n s = by_code (Ecall ∷ []) (forgetting 17 (with_code (Immediate Addi 17 0 n ∷ []) s)) ∙ by_code (Immediate Addi 17 0 n ∷ []) s

by_called : (f : Callee) (s : CodeState) → leads (called f s).pieces ≤ leads s.pieces + 1
by_called Getchar s = omega (arith, by_environment 1 s)
by_called Putchar s = omega (arith, by_environment 2 s)
by_called Exit s = omega (arith, by_environment 10 s)
by_called (Function f) s = omega (arith, one_more (CallPiece f) (record s { held = [] }))

by_answer : (g : StorageForm) (target : Option ℕ) (s : CodeState) → leads (answered g target s).pieces ≡ leads s.pieces
by_answer g None s = refl
by_answer g (Some x) s = by_code (home_written g (home_at g x) 10) s

by_call : (g : StorageForm) (target : Option ℕ) (f : Callee) (all : List Operand) (s : CodeState) → leads (with_call g target f all s).pieces ≤ leads s.pieces + 1
by_call g target f all s =
    omega (arith, by_answer g target (called f (passed_from g 0 all s)), by_called f (passed_from g 0 all s), by_passing g 0 all s)

by_instruction : (g : StorageForm) (entry : ℕ) (i : Instruction) (s : CodeState) → leads (with_instruction g entry i s).pieces ≤ leads s.pieces + counts i
by_instruction g entry (Marker p) s = omega (arith, by_settled s)
by_instruction g entry (Note x v) s = omega arith
by_instruction g entry (Move x a) s = omega (arith, by_code (move_code g s.held (home_at g x) (source_of g a)) s)
by_instruction g entry (Operate x op a b) s = omega (arith, by_code (operation_code g s.held (home_at g x) op (source_of g a) (source_of g b)) s)
by_instruction g entry (Truncate x t a) s = omega (arith, by_code (truncation_code g s.held (home_at g x) t (source_of g a)) s)
by_instruction g entry (Same x a b) s = omega (arith, by_code (comparison_code g s.held (home_at g x) (source_of g a) (source_of g b)) s)
by_instruction g entry (Address x object) s = omega (arith, by_code (object_address_code g (home_at g x) object) s)
by_instruction g entry (Load x e l) s = omega (arith, by_code (load_code g s.held (home_at g x) e l) s)
by_instruction g entry (Store e l a) s = omega (arith, by_code (store_code g s.held e l (source_of g a)) s)
by_instruction g entry (Zero object count) s = omega (arith, by_code (zero_code g object count) s)
by_instruction g entry (CopyWords object bytes count) s = omega (arith, by_code (copy_code g s.held object bytes count) s)
by_instruction g entry (Call target f all) s = by_call g target f all s

by_numbered : (g : StorageForm) (entry n : ℕ) (i : Instruction) (s : CodeState) → leads (with_numbered g entry n i s).pieces ≤ leads s.pieces + counts i
by_numbered g entry n i s = go (target_of i)
  where
    go : (target : Option ℕ)
        → leads (option_map_or (λ x. with_writer n (with_instruction g entry i s)) target (with_instruction g entry i s)).pieces ≤ leads s.pieces + counts i
    go None = by_instruction g entry i s
    go (Some x) = omega (arith, by_mark n (with_instruction g entry i s).pieces, by_instruction g entry i s)

by_instructions : (g : StorageForm) (entry n : ℕ) (all : List Instruction) (s : CodeState)
    → leads (with_instructions g entry n all s).pieces ≤ leads s.pieces + total counts all
by_instructions g entry n [] s = omega arith
by_instructions g entry n (i ∷ more) s =
    omega (arith, by_instructions g entry ((n + 1) % 4294967296) more (with_numbered g entry n i s), by_numbered g entry n i s)

-- ---- Functions

-- How many of a block's pieces may be none of words.
abbrev block_leads : Block → ℕ
block_leads b = total counts b.instructions + 2

by_block : (g : Ground) (x : Standing) → leads (standing_code g x).pieces ≤ block_leads x.block
by_block g x =
    let none = no_code (option_map_or (λ p. p) x.block.place 0) x.known in
    let all = with_instructions g.storage g.entry 0 x.block.instructions none in
    omega (arith, by_end g.storage g.saved g.size g.end x.next x.loads x.block.end all, by_instructions g.storage g.entry 0 x.block.instructions none)

by_blocks : (g : Ground) (numbers : List ℕ) (standing : List Standing) → leads (all_pieces g numbers standing) ≤ total (λ (x : Standing). block_leads x.block) standing
by_blocks g numbers [] = omega arith
by_blocks g numbers (x ∷ more) = omega (
  arith,
  leads_both (standing_pieces g numbers x) (all_pieces g numbers more),
  by_number (slice_index numbers x.number) (standing_code g x).pieces,
  by_block g x,
  by_blocks g numbers more,
)

by_bindings : (g : StorageForm) (f : Graph) (n : ℕ) (all : List Binding) (s : CodeState) → leads (with_bindings g f n all s).pieces ≡ leads s.pieces
by_bindings g f n [] s = refl
by_bindings g f n (b ∷ more) s =
    let code = with_code (binding_code g f (argument_register n) b) s in
    by_bindings g f ((n + 1) % 4294967296) more (with_writer n code) ∙ by_mark n code.pieces ∙ by_code (binding_code g f (argument_register n) b) s

by_first : (g : Ground) (f : Graph) (is_main : Bool) → leads (first_pieces g f is_main) ≡ 0
by_first g f is_main =
    let code = guard_code ++ entering_code g.saved g.size ++ base_code is_main g.storage.base in
    by_bindings g.storage f 0 f.parameters (with_code code (no_code g.entry [])) ∙ by_code code (no_code g.entry [])

by_last : (g : Ground) → leads (last_pieces g) ≡ 0
by_last g = by_leaving (words_of_moving g.size) g.saved g.size (no_code 0 [])

-- ---- Each block stands once

-- One of some numbers becomes 0.
taken_away : (xs : List ℕ) (n : ℕ) → total (λ x. x) (slice_set xs n 0) + slice_index xs n ≡ total (λ x. x) xs
taken_away [] zero = refl
taken_away [] (suc n) = refl
taken_away (x ∷ xs) zero = omega arith
taken_away (x ∷ xs) (suc n) = omega (arith, taken_away xs n)

kept : (xs : List ℕ) (n k : ℕ) → n ≢ k → slice_index (slice_set xs n 0) k ≡ slice_index xs k
kept [] n k apart = refl
kept (x ∷ xs) zero zero apart = absurd (apart refl)
kept (x ∷ xs) zero (suc k) apart = refl
kept (x ∷ xs) (suc n) zero apart = refl
kept (x ∷ xs) (suc n) (suc k) apart = kept xs n k (λ same. apart (ap (λ m. suc m) same))

all_kept : (xs : List ℕ) (n : ℕ) (ns : List ℕ) → (Among n ns → ⊥) → total (λ k. slice_index (slice_set xs n 0) k) ns ≡ total (λ k. slice_index xs k) ns
all_kept xs n [] not = refl
all_kept xs n (m ∷ more) not =
    let here : slice_index (slice_set xs n 0) m ≡ slice_index xs m = kept xs n m (λ e. not (subst (λ k. Among n (k ∷ more)) e front)) in
    omega (arith, here, all_kept xs n more (λ there. not (behind there)))

-- Numbers at different indices are together no more than all.
each_once : (xs ns : List ℕ) → AreOnce ns → total (λ k. slice_index xs k) ns ≤ total (λ x. x) xs
each_once xs [] once = omega arith
each_once xs (n ∷ more) once = omega (arith, each_once (slice_set xs n 0) more once.1, all_kept xs n more once.0, taken_away xs n)

total_mapped : {A : Type 0} (count : A → ℕ) (xs : List A) → total (λ n. n) (map count xs) ≡ total count xs
total_mapped count [] = refl
total_mapped count (x ∷ xs) = omega (arith, total_mapped count xs)

count_at : {A : Type 0} (count : A → ℕ) (xs : List A) (k : ℕ) (x : A) → slice_get xs k ≡ Some x → slice_index (map count xs) k ≡ count x
count_at count [] k x e = cc
count_at count (y ∷ xs) zero x e = ap count (same_Some y x e)
count_at count (y ∷ xs) (suc k) x e = count_at count xs k x e

standing_total : (g : Ground) (blocks : List Block) (at : ℕ → List Held) (standing : List Standing) → AllByRecursion (IsStanding g blocks at) standing
    → total (λ (x : Standing). block_leads x.block) standing ≡ total (λ k. slice_index (map block_leads blocks) k) (map (λ (x : Standing). x.number) standing)
standing_total g blocks at [] all = refl
standing_total g blocks at (x ∷ more) all =
    omega (arith, standing_total g blocks at more all.1, count_at block_leads blocks x.number x.block all.0.block)

blocks_total : (blocks : List Block) → total block_leads blocks ≡ total (λ (b : Block). total counts b.instructions) blocks + 2 * length blocks
blocks_total [] = omega arith
blocks_total (b ∷ more) = omega (arith, blocks_total more)

leads_sequence : (g : Ground) (f : Graph) (is_main : Bool) (s : SequenceForm) → IsSequenceOf g f is_main s → leads s.pieces ≤ instructions_of f + 2 * length f.blocks
leads_sequence g f is_main s is =
    let all = all_pieces g s.numbers is.standing in
    let pieces : leads s.pieces ≡ leads (first_pieces g f is_main ++ all ++ last_pieces g) = ap leads is.pieces in
    omega (
      arith,
      pieces,
      leads_both (first_pieces g f is_main ++ all) (last_pieces g),
      leads_both (first_pieces g f is_main) all,
      by_first g f is_main,
      by_last g,
      by_blocks g s.numbers is.standing,
      standing_total g f.blocks is.at is.standing is.blocks,
      each_once (map block_leads f.blocks) (map (λ (x : Standing). x.number) is.standing) is.order.once,
      total_mapped block_leads f.blocks,
      blocks_total f.blocks,
    )

-- All functions together.
pub leads_all : (h : HomedForm) (s : StaticForm) (f : ℕ) (graphs : List Graph) (all : List LaidForm) → total (λ (g : Graph). length g.blocks) graphs < 4294967295 → AreLaid h s f graphs all
    → total (λ (l : LaidForm). leads l.sequence.pieces) all ≤ total instructions_of graphs + 2 * total (λ (g : Graph). length g.blocks) graphs
leads_all h s f [] [] few laid = omega arith
leads_all h s f [] (l ∷ more) few laid = absurd laid
leads_all h s f (g ∷ graphs) [] few laid = absurd laid
leads_all h s f (g ∷ graphs) (l ∷ more) few laid = omega (
  arith,
  leads_sequence (ground_for s g (homes_in h f) l) g (f == h.unit.main) l.sequence (laid.0.drawn.sequence (omega (arith, few))),
  leads_all h s (counted (f + 1)) graphs more (omega (arith, few)) laid.1,
)
