-- The code of the ends of blocks. Registers 1, 2, 4, 6, 7 and 10 are ra, sp, tp, t1, t2 and a0.
use Rattle.std.specs.Prelude.{ℕ, ◌-◌, ◌==◌, not, nat_lt, nat_le, int_lt, Bool, false, if◌then◌else◌, List, [], ◌∷◌, ◌++◌, map}
use Rattle.std.specs.Option.{option_map_or}
use Rattle.word_base.specs.Words.{signed_number}
use Rattle.rv_code.specs.declared.instruction.Instruction.{Instruction}
use Rattle.rv_code.specs.declared.instruction.Instruction.TheVariants as instruction
use Rattle.rv_code.specs.declared.instruction.BranchOperation.{BranchOperation}
use Rattle.rv_code.specs.declared.instruction.BranchOperation.TheVariants.{Beq, Bne, Blt, Bge, Bltu, Bgeu}
use Rattle.rv_code.specs.declared.instruction.ImmediateOperation.TheVariants.{Addi}
use Rattle.graph_core.specs.declared.block.Comparison.{Comparison}
use Rattle.graph_core.specs.declared.block.Comparison.TheVariants.{Equal, NotEqual, Less, AtLeast, LessUnsigned, AtLeastUnsigned}
use Rattle.graph_core.specs.Graphs.{End, Jump, Branch, Return}
use Rattle.rv_emit_words.specs.declared.piece.Held.{Held}
use Rattle.rv_emit_words.specs.declared.piece.Piece.{Piece}
use Rattle.rv_emit_words.specs.declared.piece.Piece.TheVariants as piece
use Rattle.rv_emit_storage.specs.declared.storage.Source.{Source}
use Rattle.rv_emit_storage.specs.declared.storage.Source.TheVariants.{Home as OfHome, Word}
use Rattle.rv_emit_storage.specs.Storages.{StorageForm, source_of}
use Rattle.rv_emit_words.specs.Fetching.{most_words_of_source}
use Rattle.rv_emit_words.specs.Growing.{CodeState, with_code, with_piece, holder_of, forgotten}
use Rattle.rv_emit_words.specs.Constants.{words_of_constant, constant_by}
use Rattle.rv_emit_words.specs.Operands.{source_register, fetched_source}

-- Words as pieces.
abbrev pub words : List Instruction → List Piece
words code = map (λ i. piece.Word i) code

-- Pieces are appended, one behind the other.
abbrev pub with_pieces : List Piece → CodeState → CodeState
with_pieces [] s = s
with_pieces (x ∷ more) s = with_pieces more (with_piece x s)

-- Whether a stop has no word yet behind words, if it had none before them.
abbrev pub begins_behind : (begins : Bool) → List Instruction → Bool
begins_behind b [] = b
begins_behind b (i ∷ more) = false

-- ---- Constants that the next block holds

-- The words by which a register comes to hold a constant: none where it does, and else it is moved or made.
abbrev pub holding_code : Held → (base : ℕ) → List Held → List Instruction
holding_code x base held =
    option_map_or
    (λ r. if r == x.register then [] else instruction.Immediate Addi x.register r 0 ∷ [])
    (holder_of x.word held)
    (constant_by (words_of_constant x.word base) x.register x.word base)

-- What registers hold once one of them holds another constant.
abbrev pub held_with : Held → List Held → List Held
held_with x held = forgotten x.register held ++ x ∷ []

-- What they hold behind those words.
abbrev pub holding_held : Held → List Held → List Held
holding_held x held =
    option_map_or (λ r. if r == x.register then held else held_with x held) (holder_of x.word held) (held_with x held)

-- Constants are loaded, as far as that takes no more than so many words, and what registers hold behind that.
abbrev pub loading_code : (base room : ℕ) → (loads held : List Held) → List Instruction
loading_code base room [] held = []
loading_code base room (x ∷ more) held =
    if nat_le (words_of_constant x.word base) room
    then holding_code x base held ++ loading_code base (room - words_of_constant x.word base) more (holding_held x held)
    else loading_code base room more held

-- what the scratch registers hold behind the constants that were loaded
abbrev pub loading_held : (base room : ℕ) → (loads held : List Held) → List Held
loading_held base room [] held = held
loading_held base room (x ∷ more) held =
    if nat_le (words_of_constant x.word base) room
    then loading_held base (room - words_of_constant x.word base) more (holding_held x held)
    else loading_held base room more held

-- The words are appended, and those constants are held from then on.
abbrev pub with_loads : (base room : ℕ) → (loads : List Held) → CodeState → CodeState
with_loads base room loads s =
    record (with_code (loading_code base room loads s.held) s) { held = loading_held base room loads s.held }

-- ---- Where control goes

-- The pieces that go to a label behind which what stands next has another, where a stop that has no word yet is in
-- force or is not.
abbrev pub going : (begins : Bool) → (to next : ℕ) → List Piece
going b to next =
    if to == next then (if b then piece.Word (instruction.Immediate Addi 0 0 0) ∷ [] else [])
    else piece.Jump (record { 0 = to }) ∷ []

-- The branch that is taken where this one is not.
abbrev pub opposite : BranchOperation → BranchOperation
opposite Beq = Bne
opposite Bne = Beq
opposite Blt = Bge
opposite Bge = Blt
opposite Bltu = Bgeu
opposite Bgeu = Bltu

-- To one label where a branch is taken, and else to another.
abbrev pub going_by : BranchOperation → (left right if_true if_false next : ℕ) → List Piece
going_by op l r if_true if_false next =
    if if_true == next then piece.Branch (opposite op) l r (record { 0 = if_false }) ∷ []
    else piece.Branch op l r (record { 0 = if_true }) ∷ going false if_false next

-- Constants are loaded, and control goes to a label.
abbrev pub jumping : StorageForm → List Held → (begins : Bool) → (loads : List Held) → (to next : ℕ) → List Piece
jumping g held b loads to next =
    words (loading_code g.base 8 loads held) ++ going (begins_behind b (loading_code g.base 8 loads held)) to next

-- ---- Comparisons

-- What is compared.
pub record Compared : Type 0 where
  pub comparison : Comparison
  pub left : Source
  pub right : Source

-- The branch that is taken where a comparison holds.
abbrev pub branch_operation : Comparison → BranchOperation
branch_operation Equal = Beq
branch_operation NotEqual = Bne
branch_operation Less = Blt
branch_operation AtLeast = Bge
branch_operation LessUnsigned = Bltu
branch_operation AtLeastUnsigned = Bgeu

-- Whether a comparison of two words holds.
abbrev pub word_test : Comparison → (left right : ℕ) → Bool
word_test Equal a b = a == b
word_test NotEqual a b = not (a == b)
word_test Less a b = int_lt (signed_number a) (signed_number b)
word_test AtLeast a b = not (int_lt (signed_number a) (signed_number b))
word_test LessUnsigned a b = nat_lt a b
word_test AtLeastUnsigned a b = not (nat_lt a b)

-- What is read is this word.
abbrev pub is_word : (word : ℕ) → Source → Bool
is_word n (OfHome home) = false
is_word n (Word w) = w == n

-- The same comparison with 0 in place of 1 on the right or of -1 on the left, where there is one.
abbrev pub with_zero : Comparison → (left right : Source) → Compared
with_zero Equal l r = record { comparison = Equal; left = l; right = r }
with_zero NotEqual l r = record { comparison = NotEqual; left = l; right = r }
with_zero Less l r =
    if is_word 1 r then (record { comparison = AtLeast; left = Word 0; right = l })
    else if is_word 4294967295 l then (record { comparison = AtLeast; left = r; right = Word 0 })
    else (record { comparison = Less; left = l; right = r })
with_zero AtLeast l r =
    if is_word 1 r then (record { comparison = Less; left = Word 0; right = l })
    else if is_word 4294967295 l then (record { comparison = Less; left = r; right = Word 0 })
    else (record { comparison = AtLeast; left = l; right = r })
with_zero LessUnsigned l r =
    if is_word 1 r then (record { comparison = Equal; left = l; right = Word 0 })
    else (record { comparison = LessUnsigned; left = l; right = r })
with_zero AtLeastUnsigned l r =
    if is_word 1 r then (record { comparison = NotEqual; left = l; right = Word 0 })
    else (record { comparison = AtLeastUnsigned; left = l; right = r })

-- How many words the constants may take that are loaded before a comparison.
abbrev pub room_of : Compared → ℕ
room_of x = 6 - most_words_of_source x.left - most_words_of_source x.right

-- The words before the branch: constants are loaded, and what is compared is fetched.
abbrev pub comparing_code : StorageForm → List Held → (loads : List Held) → Compared → List Instruction
comparing_code g held loads x =
    loading_code g.base (room_of x) loads held
    ++
    (fetched_source g (loading_held g.base (room_of x) loads held) x.left 6
    ++ fetched_source g (loading_held g.base (room_of x) loads held) x.right 7)

-- Constants are loaded, and control goes to one label where a comparison holds, and else to another.
abbrev pub branching : StorageForm → List Held → (loads : List Held) → Compared → (if_true if_false next : ℕ)
    → List Piece
branching g held loads x if_true if_false next =
    words (comparing_code g held loads x)
    ++ going_by (branch_operation x.comparison)
    (source_register g (loading_held g.base (room_of x) loads held) x.left 6)
    (source_register g (loading_held g.base (room_of x) loads held) x.right 7) if_true if_false next

-- The code of the end of a block that goes on to one of two blocks by a comparison, which may be known.
abbrev pub choosing : StorageForm → List Held → (begins : Bool) → (loads : List Held) → Comparison
    → (left right : Source) → (if_true if_false next : ℕ) → List Piece
choosing g held b loads k (Word x) (Word y) if_true if_false next =
    jumping g held b loads (if word_test k x y then if_true else if_false) next
choosing g held b loads k l r if_true if_false next = branching g held loads (with_zero k l r) if_true if_false next

-- What registers hold behind it.
abbrev pub choosing_held : StorageForm → List Held → (loads : List Held) → Comparison → (left right : Source)
    → List Held
choosing_held g held loads k (Word x) (Word y) = loading_held g.base 8 loads held
choosing_held g held loads k l r = loading_held g.base (room_of (with_zero k l r)) loads held

-- ---- Ends that go on

-- The code of an end that goes to a block, and what registers hold behind it. That of a return is told elsewhere.
abbrev pub end_pieces : StorageForm → List Held → (begins : Bool) → (loads : List Held) → (next : ℕ) → End → List Piece
end_pieces g held b loads next (Jump to) = jumping g held b loads to next
end_pieces g held b loads next (Branch k x y if_true if_false) =
    if if_true == if_false then jumping g held b loads if_true next
    else choosing g held b loads k (source_of g x) (source_of g y) if_true if_false next
end_pieces g held b loads next (Return v) = []

-- what the scratch registers hold behind the end of a block
abbrev pub end_held : StorageForm → List Held → (loads : List Held) → End → List Held
end_held g held loads (Jump to) = loading_held g.base 8 loads held
end_held g held loads (Branch k x y if_true if_false) =
    if if_true == if_false then loading_held g.base 8 loads held
    else choosing_held g held loads k (source_of g x) (source_of g y)
end_held g held loads (Return v) = []

-- ---- How code grows by them

-- Constants are loaded, and control goes to a label.
abbrev pub with_jump : StorageForm → (loads : List Held) → (to next : ℕ) → CodeState → CodeState
with_jump g loads to next s =
    record (with_pieces (jumping g s.held s.begins loads to next) s) { held = loading_held g.base 8 loads s.held }

-- Constants are loaded, and control goes to one label where a comparison holds, and else to another.
abbrev pub with_branch : StorageForm → (loads : List Held) → Compared → (if_true if_false next : ℕ) → CodeState
    → CodeState
with_branch g loads x if_true if_false next s =
    record (with_pieces (branching g s.held loads x if_true if_false next) s)
    { held = loading_held g.base (room_of x) loads s.held }

-- The same where the labels may be one, and the comparison known.
abbrev pub with_choice : StorageForm → (loads : List Held) → Comparison → (left right : Source)
    → (if_true if_false next : ℕ) → CodeState → CodeState
with_choice g loads k l r if_true if_false next s =
    if if_true == if_false then with_jump g loads if_true next s
    else record (with_pieces (choosing g s.held s.begins loads k l r if_true if_false next) s)
    { held = choosing_held g s.held loads k l r }
