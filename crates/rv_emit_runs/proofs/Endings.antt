-- Words can spell the code of the ends of blocks, and that with which a function begins and ends.
use Rattle.std.proofs.Common.{◌≡◌, ℕ, ◌+◌, ◌-◌, ◌*◌, ◌%◌, ◌<◌, ◌≤◌, inl, inr, ◌==◌, ◌||◌, not, nat_le, cond, Bool, true, false, Some, None, List, [], ◌∷◌, ◌++◌, length, refl, arith}
use Rattle.std.specs.List.{AllByRecursion}
use Rattle.word_base.specs.Arithmetic.{subtracted}
use Rattle.rv_code.specs.declared.instruction.Instruction.{Instruction}
use Rattle.rv_code.specs.declared.instruction.Instruction.TheVariants as instruction
use Rattle.rv_code.specs.declared.instruction.ImmediateOperation.TheVariants.{Addi}
use Rattle.rv_code.specs.declared.instruction.RegisterOperation.TheVariants as on
use Rattle.rv_code.specs.declared.instruction.BranchOperation.{BranchOperation}
use Rattle.rv_code.specs.declared.instruction.LoadOperation.TheVariants.{Lw}
use Rattle.rv_code.specs.declared.instruction.StoreOperation.TheVariants.{Sw}
use Rattle.graph_core.specs.declared.block.Comparison.{Comparison}
use Rattle.graph_core.specs.declared.block.Comparison.TheVariants.{Equal, NotEqual, Less, AtLeast, LessUnsigned, AtLeastUnsigned}
use Rattle.graph_core.specs.Graphs.{End, Jump, Branch, Return, Binding, ToScalar, ToObject, Graph}
use Rattle.rv_emit_words.specs.declared.piece.Held.{Held}
use Rattle.rv_emit_words.specs.declared.piece.Piece.{Piece}
use Rattle.rv_emit_words.specs.declared.piece.Piece.TheVariants as piece
use Rattle.rv_emit_storage.specs.declared.storage.Source.{Source}
use Rattle.rv_emit_storage.specs.declared.storage.Source.TheVariants.{Home as OfHome, Word}
use Rattle.rv_emit_storage.specs.Storages.{StorageForm, home_at, object_at, source_of}
use Rattle.rv_emit_words.specs.Constants.{constant_by, constant_code, is_small, words_of_constant}
use Rattle.rv_emit_words.specs.Growing.{CodeState, forgotten, holder_of, with_code, with_piece}
use Rattle.rv_emit_words.specs.Operands.{bringing, fetched_source, source_register}
use Rattle.rv_emit_instructions.specs.Calls.{argument_register}
use Rattle.rv_emit_instructions.specs.Memory.{frame_reach}
use Rattle.rv_emit_code.specs.Beginning.{base_code, binding_code, element_of, entering_code, guard_code, saving_code, with_beginning, with_bindings, with_writer}
use Rattle.rv_emit_code.specs.Ends.{Compared, begins_behind, branch_operation, branching, choosing, comparing_code, end_pieces, going, going_by, held_with, holding_code, holding_held, is_word, jumping, loading_code, loading_held, opposite, room_of, with_pieces, with_zero, word_test, words}
use Rattle.rv_emit_code.specs.Leaving.{moving_by, moving_code, of_no_place, restoring_code, room_behind, with_end, with_leave, with_leaving, words_of_moving}
use Rattle.rv_emit_runs.specs.Laid.{HasWordsAtEnd}
use Rattle.rv_emit_runs.specs.EmitPlacedStanding.{AreSpelled, IsSpelled}
use Rattle.rv_emit_runs.proofs.Forms.{AreInForm, AreRegisters, IsFitSource, IsFitStorage, both_in_form, bringing_fits, choice, constant_fits, fetched_fits, forgotten_registers, holder_is, perhaps, small_is, source_fits, source_register_is, three_in_form, written_fits}
use Rattle.rv_emit_runs.proofs.Instructions.{IsFitCode, argument_is, frame_fits, marked_spelled, storing_fits, with_code_fits, with_piece_fits}
use Rattle.rv_emit_runs.proofs.Stops.{all_append}

-- ---- Constants that are loaded

-- Constants that are to be held: each a word, in a register.
abbrev pub AreFitLoads : List Held → Type 0
AreFitLoads loads = AllByRecursion (λ (x : Held). (x.register < 32) × (x.word < 4294967296)) loads

holding_fits : (x : Held) (base : ℕ) (held : List Held) → x.register < 32 → x.word < 4294967296 → AreRegisters held → AreInForm (holding_code x base held)
holding_fits x base held reg low all =
    perhaps AreInForm (λ r. cond (r == x.register) [] (instruction.Immediate Addi x.register r 0 ∷ [])) (holder_of x.word held) (constant_by (words_of_constant x.word base) x.register x.word base)
    (λ r at. choice AreInForm (r == x.register) [] (instruction.Immediate Addi x.register r 0 ∷ []) (λ e. tt) (λ e. ((reg, holder_is x.word held r all at, inl (omega arith)), tt)))
    (constant_fits (words_of_constant x.word base) x.register x.word base reg low)

held_with_registers : (x : Held) (held : List Held) → x.register < 32 → AreRegisters held → AreRegisters (held_with x held)
held_with_registers x held reg all = all_append (λ (y : Held). y.register < 32) (forgotten x.register held) (x ∷ []) (forgotten_registers x.register held all) (reg, tt)

holding_registers : (x : Held) (held : List Held) → x.register < 32 → AreRegisters held → AreRegisters (holding_held x held)
holding_registers x held reg all =
    perhaps AreRegisters (λ r. cond (r == x.register) held (held_with x held)) (holder_of x.word held) (held_with x held)
    (λ r at. choice AreRegisters (r == x.register) held (held_with x held) (λ e. all) (λ e. held_with_registers x held reg all)) (held_with_registers x held reg all)

loads_fit : (base room : ℕ) (loads held : List Held) → AreFitLoads loads → AreRegisters held → AreInForm (loading_code base room loads held)
loads_fit base room [] held fit all = tt
loads_fit base room (x ∷ more) held fit all =
    choice AreInForm (nat_le (words_of_constant x.word base) room)
    (holding_code x base held ++ loading_code base (room - words_of_constant x.word base) more (holding_held x held)) (loading_code base room more held)
    (λ e. both_in_form (holding_code x base held) (loading_code base (room - words_of_constant x.word base) more (holding_held x held)) (holding_fits x base held fit.0.0 fit.0.1 all)
    (loads_fit base (room - words_of_constant x.word base) more (holding_held x held) fit.1 (holding_registers x held fit.0.0 all)))
    (λ e. loads_fit base room more held fit.1 all)

loaded_registers : (base room : ℕ) (loads held : List Held) → AreFitLoads loads → AreRegisters held → AreRegisters (loading_held base room loads held)
loaded_registers base room [] held fit all = all
loaded_registers base room (x ∷ more) held fit all =
    choice AreRegisters (nat_le (words_of_constant x.word base) room) (loading_held base (room - words_of_constant x.word base) more (holding_held x held)) (loading_held base room more held)
    (λ e. loaded_registers base (room - words_of_constant x.word base) more (holding_held x held) fit.1 (holding_registers x held fit.0.0 all)) (λ e. loaded_registers base room more held fit.1 all)

-- ---- Pieces

-- Words can spell each of some pieces.
abbrev AreFitPieces : List Piece → Type 0
AreFitPieces pieces = AllByRecursion IsSpelled pieces

words_spelled : (code : List Instruction) → AreInForm code → AreFitPieces (words code)
words_spelled [] is = tt
words_spelled (i ∷ more) is = (is.0, words_spelled more is.1)

with_pieces_fits : (pieces : List Piece) (s : CodeState) → AreFitPieces pieces → IsFitCode s → IsFitCode (with_pieces pieces s)
with_pieces_fits [] s are fit = fit
with_pieces_fits (x ∷ more) s are fit = with_pieces_fits more (with_piece x s) are.1 (with_piece_fits x s are.0 fit)

going_spelled : (b : Bool) (to next : ℕ) → AreFitPieces (going b to next)
going_spelled b to next =
    choice AreFitPieces (to == next) (cond b (piece.Word (instruction.Immediate Addi 0 0 0) ∷ []) []) (piece.Jump (record { 0 = to }) ∷ [])
    (λ e. choice AreFitPieces b (piece.Word (instruction.Immediate Addi 0 0 0) ∷ []) [] (λ e. ((omega arith, omega arith, inl (omega arith)), tt)) (λ e. tt)) (λ e. (tt, tt))

going_by_spelled : (op : BranchOperation) (l r if_true if_false next : ℕ) → l < 32 → r < 32 → AreFitPieces (going_by op l r if_true if_false next)
going_by_spelled op l r if_true if_false next left right =
    choice AreFitPieces (if_true == next) (piece.Branch (opposite op) l r (record { 0 = if_false }) ∷ []) (piece.Branch op l r (record { 0 = if_true }) ∷ going false if_false next)
    (λ e. ((left, right), tt)) (λ e. ((left, right), going_spelled false if_false next))

-- ---- Comparisons

-- What is compared can be read.
abbrev IsFitComparison : Compared → Type 0
IsFitComparison c = IsFitSource c.left × IsFitSource c.right

compared_fits : (k : Comparison) (l r : Source) → IsFitSource l → IsFitSource r → IsFitComparison (with_zero k l r)
compared_fits Equal l r left right = (left, right)
compared_fits NotEqual l r left right = (left, right)
compared_fits Less l r left right =
    choice IsFitComparison (is_word 1 r) (record { comparison = AtLeast; left = Word 0; right = l })
    (cond (is_word 4294967295 l) (record { comparison = AtLeast; left = r; right = Word 0 }) (record { comparison = Less; left = l; right = r })) (λ e. (omega arith, left))
    (λ e. choice IsFitComparison (is_word 4294967295 l) (record { comparison = AtLeast; left = r; right = Word 0 }) (record { comparison = Less; left = l; right = r }) (λ e. (right, omega arith)) (λ e. (left, right)))
compared_fits AtLeast l r left right =
    choice IsFitComparison (is_word 1 r) (record { comparison = Less; left = Word 0; right = l })
    (cond (is_word 4294967295 l) (record { comparison = Less; left = r; right = Word 0 }) (record { comparison = AtLeast; left = l; right = r })) (λ e. (omega arith, left))
    (λ e. choice IsFitComparison (is_word 4294967295 l) (record { comparison = Less; left = r; right = Word 0 }) (record { comparison = AtLeast; left = l; right = r }) (λ e. (right, omega arith)) (λ e. (left, right)))
compared_fits LessUnsigned l r left right =
    choice IsFitComparison (is_word 1 r) (record { comparison = Equal; left = l; right = Word 0 }) (record { comparison = LessUnsigned; left = l; right = r }) (λ e. (left, omega arith)) (λ e. (left, right))
compared_fits AtLeastUnsigned l r left right =
    choice IsFitComparison (is_word 1 r) (record { comparison = NotEqual; left = l; right = Word 0 }) (record { comparison = AtLeastUnsigned; left = l; right = r }) (λ e. (left, omega arith)) (λ e. (left, right))

module _ (g : StorageForm) (storage : IsFitStorage g) (held loads : List Held) (all : AreRegisters held) (fit : AreFitLoads loads) where
  jumping_spelled : (b : Bool) (to next : ℕ) → AreFitPieces (jumping g held b loads to next)
  jumping_spelled b to next =
      all_append IsSpelled (words (loading_code g.base 8 loads held)) (going (begins_behind b (loading_code g.base 8 loads held)) to next)
      (words_spelled (loading_code g.base 8 loads held) (loads_fit g.base 8 loads held fit all)) (going_spelled (begins_behind b (loading_code g.base 8 loads held)) to next)

  branching_spelled : (x : Compared) (if_true if_false next : ℕ) → IsFitComparison x → AreFitPieces (branching g held loads x if_true if_false next)
  branching_spelled x if_true if_false next is =
      let after : AreRegisters (loading_held g.base (room_of x) loads held) = loaded_registers g.base (room_of x) loads held fit all in
      all_append IsSpelled (words (comparing_code g held loads x))
      (going_by (branch_operation x.comparison) (source_register g (loading_held g.base (room_of x) loads held) x.left 6) (source_register g (loading_held g.base (room_of x) loads held) x.right 7) if_true if_false next)
      (words_spelled (comparing_code g held loads x)
      (both_in_form (loading_code g.base (room_of x) loads held) (fetched_source g (loading_held g.base (room_of x) loads held) x.left 6 ++ fetched_source g (loading_held g.base (room_of x) loads held) x.right 7)
      (loads_fit g.base (room_of x) loads held fit all)
      (both_in_form (fetched_source g (loading_held g.base (room_of x) loads held) x.left 6) (fetched_source g (loading_held g.base (room_of x) loads held) x.right 7)
      (fetched_fits g (loading_held g.base (room_of x) loads held) x.left 6 is.0 (omega arith)) (fetched_fits g (loading_held g.base (room_of x) loads held) x.right 7 is.1 (omega arith)))))
      (going_by_spelled (branch_operation x.comparison) (source_register g (loading_held g.base (room_of x) loads held) x.left 6) (source_register g (loading_held g.base (room_of x) loads held) x.right 7) if_true if_false next
      (source_register_is g (loading_held g.base (room_of x) loads held) x.left 6 is.0 after (omega arith)) (source_register_is g (loading_held g.base (room_of x) loads held) x.right 7 is.1 after (omega arith)))

  choosing_spelled : (b : Bool) (k : Comparison) (l r : Source) (if_true if_false next : ℕ) → IsFitSource l → IsFitSource r → AreFitPieces (choosing g held b loads k l r if_true if_false next)
  choosing_spelled b k (Word x) (Word y) if_true if_false next left right = jumping_spelled b (cond (word_test k x y) if_true if_false) next
  choosing_spelled b k (Word x) (OfHome y) if_true if_false next left right = branching_spelled (with_zero k (Word x) (OfHome y)) if_true if_false next (compared_fits k (Word x) (OfHome y) left right)
  choosing_spelled b k (OfHome x) (Word y) if_true if_false next left right = branching_spelled (with_zero k (OfHome x) (Word y)) if_true if_false next (compared_fits k (OfHome x) (Word y) left right)
  choosing_spelled b k (OfHome x) (OfHome y) if_true if_false next left right = branching_spelled (with_zero k (OfHome x) (OfHome y)) if_true if_false next (compared_fits k (OfHome x) (OfHome y) left right)

-- ---- Frames

-- Registers that a frame keeps are registers, and few.
pub record AreFitSaved (saved : List ℕ) : Type 0 where
  pub registers : AllByRecursion (λ r. r < 32) saved
  pub few : length saved ≤ 15

restoring_fits : (saved : List ℕ) (offset : ℕ) → AllByRecursion (λ r. r < 32) saved → offset + 4 * length saved ≤ 1024 → AreInForm (restoring_code saved offset)
restoring_fits [] offset registers low = tt
restoring_fits (r ∷ more) offset registers low =
    ((registers.0, omega arith, inl (omega (arith, low))), restoring_fits more ((offset + 4) % 4294967296) registers.1 (omega (arith, low)))

saving_fits : (saved : List ℕ) (offset : ℕ) → AllByRecursion (λ r. r < 32) saved → offset + 4 * length saved ≤ 1024 → AreInForm (saving_code saved offset)
saving_fits [] offset registers low = tt
saving_fits (r ∷ more) offset registers low =
    ((registers.0, omega arith, inl (omega (arith, low))), saving_fits more ((offset + 4) % 4294967296) registers.1 (omega (arith, low)))

moving_fits : (n : ℕ) → n < 4294967296 → AreInForm (moving_code n)
moving_fits n low =
    choice AreInForm (is_small n) (instruction.Immediate Addi 2 2 n ∷ []) (constant_code 5 n 0 ++ instruction.Register on.Add 2 2 5 ∷ []) (λ e. ((omega arith, omega arith, small_is n low e), tt))
    (λ e. both_in_form (constant_code 5 n 0) (instruction.Register on.Add 2 2 5 ∷ []) (constant_fits (words_of_constant n 0) 5 n 0 (omega arith) low) ((omega arith, omega arith, omega arith), tt))

moving_by_fits : (n : ℕ) → n < 4294967296 → AreInForm (moving_by (words_of_moving n) n)
moving_by_fits n low = by_test (is_small n) refl
  where
    by_test : (b : Bool) → is_small n ≡ b → AreInForm (moving_by (cond b 1 3) n)
    by_test true e = ((omega arith, omega arith, small_is n low e), tt)
    by_test false e = both_in_form (constant_code 5 n 0) (instruction.Register on.Add 2 2 5 ∷ []) (constant_fits (words_of_constant n 0) 5 n 0 (omega arith) low) ((omega arith, omega arith, omega arith), tt)

-- ---- The end of a function

pub leaving_fits : (saved : List ℕ) (size : ℕ) (s : CodeState) → AreFitSaved saved → size < 4294967296 → IsFitCode s → IsFitCode (with_leaving (words_of_moving size) saved size s)
leaving_fits saved size s kept low fit =
    let few = kept.few in
    let one : IsFitCode (with_code (instruction.Immediate Addi 4 4 1 ∷ []) s) = with_code_fits (instruction.Immediate Addi 4 4 1 ∷ []) s ((omega arith, omega arith, inl (omega arith)), tt) fit in
    with_code_fits (restoring_code saved 4 ++ instruction.Load Lw 1 2 0 ∷ moving_by (words_of_moving size) size ++ instruction.Jalr 0 1 0 ∷ []) (of_no_place (with_code (instruction.Immediate Addi 4 4 1 ∷ []) s))
    (three_in_form (restoring_code saved 4) (instruction.Load Lw 1 2 0 ∷ moving_by (words_of_moving size) size) (instruction.Jalr 0 1 0 ∷ [])
    (restoring_fits saved 4 kept.registers (omega (arith, few))) ((omega arith, omega arith, inl (omega arith)), moving_by_fits size low) ((omega arith, omega arith, inl (omega arith)), tt))
    (record { pieces = one.pieces; held = one.held })

leave_fits : (saved : List ℕ) (size end next room : ℕ) (s : CodeState) → AreFitSaved saved → size < 4294967296 → IsFitCode s → IsFitCode (with_leave saved size end next room s)
leave_fits saved size end next room s kept low fit =
    choice IsFitCode (next == end || (not (nat_le (length saved) 9) || not (nat_le (length saved + 3 + words_of_moving size) room))) (with_pieces (going s.begins end next) s) (with_leaving (words_of_moving size) saved size s)
    (λ e. with_pieces_fits (going s.begins end next) s (going_spelled s.begins end next) fit) (λ e. leaving_fits saved size s kept low fit)

-- ---- The ends of blocks

pub end_fits : (g : StorageForm) → IsFitStorage g → (saved : List ℕ) (size end next : ℕ) (loads : List Held) (b : End) (s : CodeState) → AreFitSaved saved → size < 4294967296 → AreFitLoads loads → HasWordsAtEnd b → IsFitCode s
    → AreSpelled (with_end g saved size end next loads b s).pieces
end_fits g storage saved size end next loads (Jump to) s kept low fits is fit =
    (with_pieces_fits (end_pieces g s.held s.begins loads next (Jump to)) s (jumping_spelled g storage s.held loads fit.held fits s.begins to next) fit).pieces
end_fits g storage saved size end next loads (Branch k x y if_true if_false) s kept low fits is fit =
    (with_pieces_fits (end_pieces g s.held s.begins loads next (Branch k x y if_true if_false)) s
    (choice AreFitPieces (if_true == if_false) (jumping g s.held s.begins loads if_true next) (choosing g s.held s.begins loads k (source_of g x) (source_of g y) if_true if_false next)
    (λ e. jumping_spelled g storage s.held loads fit.held fits s.begins if_true next)
    (λ e. choosing_spelled g storage s.held loads fit.held fits s.begins k (source_of g x) (source_of g y) if_true if_false next (source_fits g storage x is.0) (source_fits g storage y is.1))) fit).pieces
end_fits g storage saved size end next loads (Return None) s kept low fits is fit = (leave_fits saved size end next 9 s kept low fit).pieces
end_fits g storage saved size end next loads (Return (Some a)) s kept low fits is fit =
    (leave_fits saved size end next (room_behind g.base (source_of g a)) (with_code (bringing g s.held 10 (source_of g a)) s) kept low
    (with_code_fits (bringing g s.held 10 (source_of g a)) s (bringing_fits g s.held 10 (source_of g a) (omega arith) (source_fits g storage a is) fit.held) fit)).pieces

-- ---- The beginning of a function

binding_fits : (g : StorageForm) → IsFitStorage g → (f : Graph) (r : ℕ) (b : Binding) → r < 32 → AreInForm (binding_code g f r b)
binding_fits g storage f r (ToScalar x) low = written_fits g (home_at g x) r (storage.homes x) low
binding_fits g storage f r (ToObject k) low = storing_fits (element_of f k) (frame_reach (object_at g k)) r (frame_fits (object_at g k)) low

bindings_fit : (g : StorageForm) → IsFitStorage g → (f : Graph) (n : ℕ) (all : List Binding) (s : CodeState) → IsFitCode s → IsFitCode (with_bindings g f n all s)
bindings_fit g storage f n [] s fit = fit
bindings_fit g storage f n (b ∷ more) s fit =
    let one : IsFitCode (with_code (binding_code g f (argument_register n) b) s) = with_code_fits (binding_code g f (argument_register n) b) s (binding_fits g storage f (argument_register n) b (argument_is n)) fit in
    bindings_fit g storage f ((n + 1) % 4294967296) more (with_writer n (with_code (binding_code g f (argument_register n) b) s))
    (record { pieces = marked_spelled n (with_code (binding_code g f (argument_register n) b) s).pieces one.pieces; held = one.held })

guard_fits : AreInForm guard_code
guard_fits = ((omega arith, omega arith, (refl, inl (omega arith))), ((omega arith, omega arith, inl (omega arith)), (tt, ((omega arith, omega arith, inr (omega arith, omega arith)), tt))))

entering_fits : (saved : List ℕ) (size : ℕ) → AreFitSaved saved → AreInForm (entering_code saved size)
entering_fits saved size kept =
    let few = kept.few in
    both_in_form (moving_code (subtracted 0 size)) (instruction.Store Sw 1 2 0 ∷ saving_code saved 4) (moving_fits (subtracted 0 size) (omega arith))
    ((omega arith, omega arith, inl (omega arith)), saving_fits saved 4 kept.registers (omega (arith, few)))

base_fits : (is_main : Bool) (base : ℕ) → base < 4294967296 → AreInForm (base_code is_main base)
base_fits true base low = constant_fits (words_of_constant base 0) 3 base 0 (omega arith) low
base_fits false base low = tt

pub beginning_fits : (g : StorageForm) → IsFitStorage g → g.base < 4294967296 → (f : Graph) (saved : List ℕ) (size : ℕ) (is_main : Bool) (s : CodeState) → AreFitSaved saved → IsFitCode s → IsFitCode (with_beginning g f saved size is_main s)
beginning_fits g storage low f saved size is_main s kept fit =
    bindings_fit g storage f 0 f.parameters (with_code (guard_code ++ entering_code saved size ++ base_code is_main g.base) s)
    (with_code_fits (guard_code ++ entering_code saved size ++ base_code is_main g.base) s
    (three_in_form guard_code (entering_code saved size) (base_code is_main g.base) guard_fits (entering_fits saved size kept) (base_fits is_main g.base low)) fit)
