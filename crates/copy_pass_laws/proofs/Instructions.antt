-- Instructions that are alike mark, note, write and call the same, and read the same of the names that are read only for themselves, as temporaries are.
use Rattle.std.proofs.Common.{◌≡◌, ℕ, ◌≤◌, Bool, Option, Some, None, List, [], ◌∷◌, refl, sym, subst, arith}
use Rattle.event_runs.specs.Agreement.{Pairs}
use Rattle.graph_core.specs.Graphs.{Operand, NoteValue, Location, Instruction, Marker, Note, Zero, CopyWords, End, Return}
use Rattle.graph_core.specs.Uses.{names_of, names_of_all, names_of_location, reads_of, reads_of_end}
use Rattle.graph_core.specs.Paths.{Among, front, behind, place_by, writes, is_marker, is_call, notes, owed_by}
use Rattle.copy_pass_rule.specs.Alike.{IsReadFor, itself, a_scalar, AreAlikeOperands, name, constant, static_address, AreAlikeLocations, automatic, static_object, where_it_points, AreAlikeInstructions, marker, note, move, operate, truncate, same, address, load, store, zero_words, copy_words, call, AreAlikeEnds, jump, branch, return_none, return_some}
use Rattle.copy_pass_laws.proofs.CopyMarksLists.{pairs_turned, among_both}

module _ (Reads : (x read : ℕ) → Type 0) where
  -- ---- What they do

  -- They write a name, or do not.
  pub alike_writes : (x : ℕ) {i j : Instruction} → AreAlikeInstructions Reads i j → writes x j ≡ writes x i
  alike_writes x marker = refl
  alike_writes x _ = refl

  -- They begin a place, or do not.
  pub alike_marker : {i j : Instruction} → AreAlikeInstructions Reads i j → is_marker j ≡ is_marker i
  alike_marker marker = refl
  alike_marker _ = refl

  -- The place in force behind them is the same.
  pub alike_place : {i j : Instruction} → AreAlikeInstructions Reads i j → (before : Option ℕ) → place_by j before ≡ place_by i before
  alike_place marker before = refl
  alike_place _ before = refl

  -- They are calls, or are not.
  pub alike_call : {i j : Instruction} → AreAlikeInstructions Reads i j → is_call j ≡ is_call i
  alike_call marker = refl
  alike_call _ = refl

  -- They note a scalar, or do not.
  pub alike_notes : (x : ℕ) {i j : Instruction} → AreAlikeInstructions Reads i j → notes x j ≡ notes x i
  alike_notes x marker = refl
  alike_notes x _ = refl

  -- A note of a scalar is owed behind them, or is not.
  pub alike_owed : (assigns : ℕ → Bool) (x : ℕ) {i j : Instruction} → AreAlikeInstructions Reads i j → (before : Bool) → owed_by assigns x j before ≡ owed_by assigns x i before
  alike_owed assigns x marker before = refl
  alike_owed assigns x _ before = refl

  -- What reads nothing is the same.
  pub only_marker : {p : ℕ} (j : Instruction) → AreAlikeInstructions Reads (Marker p) j → j ≡ Marker p
  only_marker _ marker = refl

  -- so is a note
  pub only_note : {x : ℕ} {v : NoteValue} (j : Instruction) → AreAlikeInstructions Reads (Note x v) j → j ≡ Note x v
  only_note _ note = refl

  -- so are words that are set
  pub only_zero : {object words : ℕ} (j : Instruction) → AreAlikeInstructions Reads (Zero object words) j → j ≡ Zero object words
  only_zero _ zero_words = refl

  -- and words that are copied
  pub only_copy : {object bytes words : ℕ} (j : Instruction) → AreAlikeInstructions Reads (CopyWords object bytes words) j → j ≡ CopyWords object bytes words
  only_copy _ copy_words = refl

  -- What is alike to a return returns.
  pub alike_return : {a : Option Operand} {f : End} → AreAlikeEnds Reads (Return a) f → (b : Option Operand) × (f ≡ Return b)
  alike_return return_none = (None, refl)
  alike_return (return_some {b = b} h) = (Some b, refl)

  -- ---- What they read

  module _ (t : ℕ) (only : (y : ℕ) → Reads t y → y ≡ t) where
    -- Where a name is read only for itself, an operand that is alike reads it.
    reads_operand : {a b : Operand} → AreAlikeOperands Reads a b → Among t (names_of a) → Among t (names_of b)
    reads_operand (name {y} read) front = subst (λ z. Among t (z ∷ [])) (sym (only y read)) front
    reads_operand (name read) (behind m) = elim m [ ]
    reads_operand constant m = m
    reads_operand static_address m = m

    -- So does a location.
    reads_location : {l m : Location} → AreAlikeLocations Reads l m → Among t (names_of_location l) → Among t (names_of_location m)
    reads_location automatic m = m
    reads_location static_object m = m
    reads_location (where_it_points h) m = reads_operand h m

    -- So do the arguments of calls.
    reads_all : (all others : List Operand) → Pairs (AreAlikeOperands Reads) all others → Among t (names_of_all all) → Among t (names_of_all others)
    reads_all [] [] alike m = m
    reads_all [] (b ∷ others) alike m = absurd alike
    reads_all (a ∷ all) [] alike m = absurd alike
    reads_all (a ∷ all) (b ∷ others) alike m = among_both t (names_of a) (names_of_all all) (names_of b) (names_of_all others) (reads_operand alike.0) (reads_all all others alike.1) m

    -- So does an instruction.
    pub alike_reads : {i j : Instruction} → AreAlikeInstructions Reads i j → Among t (reads_of i) → Among t (reads_of j)
    alike_reads marker m = m
    alike_reads note m = m
    alike_reads (move h) m = reads_operand h m
    alike_reads (operate {a} {b} {c} {d} h k) m = among_both t (names_of a) (names_of b) (names_of c) (names_of d) (reads_operand h) (reads_operand k) m
    alike_reads (truncate h) m = reads_operand h m
    alike_reads (same {a} {b} {c} {d} h k) m = among_both t (names_of a) (names_of b) (names_of c) (names_of d) (reads_operand h) (reads_operand k) m
    alike_reads address m = m
    alike_reads (load h) m = reads_location h m
    alike_reads (store {l = l} {m = k} {a = a} {b = b} h j) m = among_both t (names_of_location l) (names_of a) (names_of_location k) (names_of b) (reads_location h) (reads_operand j) m
    alike_reads zero_words m = m
    alike_reads copy_words m = m
    alike_reads (call {all} {others} h) m = reads_all all others h m

    -- So does the end of a block.
    pub alike_end_reads : {e f : End} → AreAlikeEnds Reads e f → Among t (reads_of_end e) → Among t (reads_of_end f)
    alike_end_reads jump m = m
    alike_end_reads (branch {a} {b} {c} {d} h k) m = among_both t (names_of a) (names_of b) (names_of c) (names_of d) (reads_operand h) (reads_operand k) m
    alike_end_reads return_none m = m
    alike_end_reads (return_some h) m = reads_operand h m

  -- ---- The other way round

  module _ (turned : (x y : ℕ) → Reads x y → Reads y x) where
    -- Operands that are alike are so in either order, where what is read for names is.
    operands_turned : (a b : Operand) → AreAlikeOperands Reads a b → AreAlikeOperands Reads b a
    operands_turned _ _ (name {x} {y} read) = name (turned x y read)
    operands_turned _ _ constant = constant
    operands_turned _ _ static_address = static_address

    -- So are locations.
    locations_turned : {l m : Location} → AreAlikeLocations Reads l m → AreAlikeLocations Reads m l
    locations_turned automatic = automatic
    locations_turned static_object = static_object
    locations_turned (where_it_points {a} {b} h) = where_it_points (operands_turned a b h)

    -- So are instructions.
    pub instructions_turned : (i j : Instruction) → AreAlikeInstructions Reads i j → AreAlikeInstructions Reads j i
    instructions_turned _ _ marker = marker
    instructions_turned _ _ note = note
    instructions_turned _ _ (move {a} {b} h) = move (operands_turned a b h)
    instructions_turned _ _ (operate {a} {b} {c} {d} h k) = operate (operands_turned a c h) (operands_turned b d k)
    instructions_turned _ _ (truncate {a} {b} h) = truncate (operands_turned a b h)
    instructions_turned _ _ (same {a} {b} {c} {d} h k) = same (operands_turned a c h) (operands_turned b d k)
    instructions_turned _ _ address = address
    instructions_turned _ _ (load h) = load (locations_turned h)
    instructions_turned _ _ (store {a} {b} h k) = store (locations_turned h) (operands_turned a b k)
    instructions_turned _ _ zero_words = zero_words
    instructions_turned _ _ copy_words = copy_words
    instructions_turned _ _ (call {all} {others} h) = call (pairs_turned (AreAlikeOperands Reads) operands_turned all others h)

    -- So are the ends of blocks.
    pub ends_turned : (e f : End) → AreAlikeEnds Reads e f → AreAlikeEnds Reads f e
    ends_turned _ _ jump = jump
    ends_turned _ _ (branch {a} {b} {c} {d} h k) = branch (operands_turned a c h) (operands_turned b d k)
    ends_turned _ _ return_none = return_none
    ends_turned _ _ (return_some {a} {b} h) = return_some (operands_turned a b h)

-- ---- Scalars

-- What is read for a name has that name read for it.
pub read_turned : (scalars x y : ℕ) → IsReadFor scalars x y → IsReadFor scalars y x
read_turned scalars x _ itself = itself
read_turned scalars x y (a_scalar of less) = a_scalar less of

-- A temporary is read only for itself.
pub read_itself : (scalars t : ℕ) → scalars ≤ t → (y : ℕ) → IsReadFor scalars t y → y ≡ t
read_itself scalars t temporary _ itself = refl
read_itself scalars t temporary y (a_scalar less _) = absurd (omega (arith, less, temporary))
