-- Code as it grows writes no home but those that its places may write.
use Rattle.std.proofs.Common.{◌≡◌, ℕ, zero, suc, ◌+◌, ◌*◌, ◌%◌, ◌<◌, ◌≤◌, ◌⊎◌, inl, inr, ⊎_elim, ◌==◌, not, nat_lt, cond, Bool, true, false, Option, Some, None, List, [], ◌∷◌, ◌++◌, length, map, slice_get, refl, sym, ap, ◌∙◌, subst, arith, append_assoc}
use Rattle.std.specs.Option.{option_map_or}
use Rattle.std.specs.List.{AllByRecursion}
use Rattle.std.proofs.lemmas.Bool.{ltb-true}
use Rattle.std.proofs.lemmas.Option.{none-some, same_Some}
use Rattle.rv_code.specs.declared.instruction.Instruction.{Instruction}
use Rattle.rv_code.specs.declared.instruction.Instruction.TheVariants as instruction
use Rattle.rv_code.specs.declared.instruction.ImmediateOperation.TheVariants.{Addi}
use Rattle.graph_core.specs.declared.instruction.Callee.{Callee}
use Rattle.graph_core.specs.declared.instruction.Callee.TheVariants as callee
use Rattle.graph_core.specs.Graphs.{Operand, Graph, UnitForm, Instruction as UnitInstruction, Marker, Note, Move, Operate, Truncate, Same, Address, Load, Store, Zero, CopyWords, Call}
use Rattle.graph_core.specs.Uses.{target_of}
use Rattle.graph_core.specs.Validity.{IsInstruction}
use Rattle.graph_homes.specs.declared.home.Home.{Home}
use Rattle.graph_homes.specs.declared.home.Home.TheVariants.{Register, Slot}
use Rattle.graph_homes.specs.Homed.{IsHomeAmong}
use Rattle.rv_emit_words.specs.declared.piece.Held.{Held}
use Rattle.rv_emit_words.specs.declared.piece.Piece.{Piece}
use Rattle.rv_emit_words.specs.declared.piece.Piece.TheVariants as piece
use Rattle.rv_emit_words.specs.declared.piece.PlacedPiece.{PlacedPiece}
use Rattle.rv_emit_storage.specs.Storages.{StorageForm, home_at, source_of}
use Rattle.rv_emit_words.specs.Growing.{CodeState, forgotten, marked, settled, with_code, with_piece}
use Rattle.rv_emit_words.specs.Operands.{bringing, home_written}
use Rattle.rv_emit_instructions.specs.Operations.{comparison_code, move_code, operation_code, truncation_code}
use Rattle.rv_emit_instructions.specs.Calls.{answered, argument_register, called, environment_called, forgetting, passed, passed_from}
use Rattle.rv_emit_instructions.specs.Code.{with_instruction}
use Rattle.rv_emit_instructions.specs.Filling.{copy_code, zero_code}
use Rattle.rv_emit_instructions.specs.Memory.{load_code, object_address_code, reach_of, store_code}
use Rattle.rv_emit_code.specs.Ends.{with_pieces, words}
use Rattle.rv_emit_runs.specs.Placed.{placed_pieces}
use Rattle.rv_emit_runs.proofs.Appended.{pieces_appended, words_appended}
use Rattle.rv_emit_sequence.specs.Sequences.{AreConstants, IsConstant, numbered}
use Rattle.rv_emit_runs.proofs.Forms.{choice}
use Rattle.rv_emit_runs.proofs.Sparing.{AreSparing, Before, IsDue, IsMore, IsSparing, MayMake, Spares, bringing_spares, low, middle, one_more, written_spares}
use Rattle.rv_emit_runs.proofs.SparingOperations.{IsRightStorage, comparison_spares, copy_spares, loading_spares, move_spares, object_address_spares, operation_spares, reach_spares, store_spares, truncation_spares, zero_spares}
use Rattle.rv_emit_runs.proofs.Writers.{called_owner, passed_owner}

-- What is known of the two instructions before the next piece: a piece that is no word is not looked at.
abbrev pub first_behind : Before → Piece → Before
first_behind b (piece.Word i) = b
first_behind b (piece.Jump to) = None
first_behind b (piece.Branch op l r to) = None
first_behind b (piece.Call f) = None

abbrev pub second_behind : Piece → Before
second_behind (piece.Word i) = Some i
second_behind (piece.Jump to) = None
second_behind (piece.Branch op l r to) = None
second_behind (piece.Call f) = None

-- given: where values are found, how many slots there are, and which homes words of each place may write
module _ (g : StorageForm) (slots : ℕ) (V : (owner : ℕ) → Home → Type 0) where
  -- A piece of a place writes no home but those.
  abbrev pub IsSparingPiece : (owner : ℕ) → (a b : Before) → Piece → Type 0
  IsSparingPiece owner a b (piece.Word i) = IsSparing g slots (V owner) a b i
  IsSparingPiece owner a b (piece.Jump to) = Unit {0}
  IsSparingPiece owner a b (piece.Branch op l r to) = Unit {0}
  IsSparingPiece owner a b (piece.Call f) = Unit {0}

  -- So do pieces of one place, one behind the other.
  abbrev pub PiecesSpare : (owner : ℕ) → (a b : Before) → List Piece → Type 0
  PiecesSpare owner a b [] = Unit {0}
  PiecesSpare owner a b (x ∷ more) = IsSparingPiece owner a b x × PiecesSpare owner (first_behind b x) (second_behind x) more

  -- So do pieces of places.
  abbrev pub AllSpare : (a b : Before) → List PlacedPiece → Type 0
  AllSpare a b [] = Unit {0}
  AllSpare a b (x ∷ more) = IsSparingPiece x.owner a b x.piece × AllSpare (first_behind b x.piece) (second_behind x.piece) more

  -- ---- One behind the other

  piece_more : (owner : ℕ) (a b c d : Before) (x : Piece) → IsMore a c → IsMore b d → IsSparingPiece owner a b x → IsSparingPiece owner c d x
  piece_more owner a b c d (piece.Word i) first second is = one_more g slots (V owner) a b c d i first second is
  piece_more owner a b c d (piece.Jump to) first second is = tt
  piece_more owner a b c d (piece.Branch op l r to) first second is = tt
  piece_more owner a b c d (piece.Call f) first second is = tt

  first_more : (b d : Before) (x : Piece) → IsMore b d → IsMore (first_behind b x) (first_behind d x)
  first_more b d (piece.Word i) second = second
  first_more b d (piece.Jump to) second = inl refl
  first_more b d (piece.Branch op l r to) second = inl refl
  first_more b d (piece.Call f) second = inl refl

  pieces_more : (owner : ℕ) (a b c d : Before) (pieces : List Piece) → IsMore a c → IsMore b d → PiecesSpare owner a b pieces → PiecesSpare owner c d pieces
  pieces_more owner a b c d [] first second are = tt
  pieces_more owner a b c d (x ∷ more) first second are =
      (piece_more owner a b c d x first second are.0, pieces_more owner (first_behind b x) (second_behind x) (first_behind d x) (second_behind x) more (first_more b d x second) (inr refl) are.1)

  placed_more : (a b c d : Before) (pieces : List PlacedPiece) → IsMore a c → IsMore b d → AllSpare a b pieces → AllSpare c d pieces
  placed_more a b c d [] first second are = tt
  placed_more a b c d (x ∷ more) first second are =
      (piece_more x.owner a b c d x.piece first second are.0, placed_more (first_behind b x.piece) (second_behind x.piece) (first_behind d x.piece) (second_behind x.piece) more (first_more b d x.piece second) (inr refl) are.1)

  pub both_pieces : (owner : ℕ) (a b : Before) (front back : List Piece) → PiecesSpare owner a b front → PiecesSpare owner None None back → PiecesSpare owner a b (front ++ back)
  both_pieces owner a b [] back one two = pieces_more owner None None a b back (inl refl) (inl refl) two
  both_pieces owner a b (x ∷ front) back one two = (one.0, both_pieces owner (first_behind b x) (second_behind x) front back one.1 two)

  both_placed : (a b : Before) (front back : List PlacedPiece) → AllSpare a b front → AllSpare None None back → AllSpare a b (front ++ back)
  both_placed a b [] back one two = placed_more None None a b back (inl refl) (inl refl) two
  both_placed a b (x ∷ front) back one two = (one.0, both_placed (first_behind b x.piece) (second_behind x.piece) front back one.1 two)

  pub both_all : (front back : List PlacedPiece) → AllSpare None None front → AllSpare None None back → AllSpare None None (front ++ back)
  both_all front back one two = both_placed None None front back one two

  pub words_spare : (owner : ℕ) (a b : Before) (code : List Instruction) → AreSparing g slots (V owner) a b code → PiecesSpare owner a b (words code)
  words_spare owner a b [] are = tt
  words_spare owner a b (i ∷ more) are = (are.0, words_spare owner b (Some i) more are.1)

  placed_spare : (owner : ℕ) (stops : Bool) (a b : Before) (pieces : List Piece) → PiecesSpare owner a b pieces → AllSpare a b (placed_pieces owner stops pieces)
  placed_spare owner stops a b [] are = tt
  placed_spare owner stops a b (x ∷ more) are = (are.0, placed_spare owner false (first_behind b x) (second_behind x) more are.1)

  pub marked_spare : (n : ℕ) (a b : Before) (pieces : List PlacedPiece) → AllSpare a b pieces → AllSpare a b (marked n pieces)
  marked_spare n a b [] are = tt
  marked_spare n a b (x ∷ []) are = (are.0, tt)
  marked_spare n a b (x ∷ y ∷ more) are = (are.0, marked_spare n (first_behind b x.piece) (second_behind x.piece) (y ∷ more) are.1)

  pub numbered_spare : (n : ℕ) (a b : Before) (pieces : List PlacedPiece) → AllSpare a b pieces → AllSpare a b (map (numbered n) pieces)
  numbered_spare n a b [] are = tt
  numbered_spare n a b (x ∷ more) are = (are.0, numbered_spare n (first_behind b x.piece) (second_behind x.piece) more are.1)

  -- ---- Code as it grows

  -- The pieces so far write no home but those, and scratch registers hold constants.
  pub record IsSparingCode (s : CodeState) : Type 0 where
    pub pieces : AllSpare None None s.pieces
    pub held : AreConstants s.held

  pieces_held : (pieces : List Piece) (s : CodeState) → (with_pieces pieces s).held ≡ s.held
  pieces_held [] s = refl
  pieces_held (x ∷ more) s = pieces_held more (with_piece x s)

  pub with_pieces_spares : (pieces : List Piece) (s : CodeState) → PiecesSpare s.owner None None pieces → IsSparingCode s → IsSparingCode (with_pieces pieces s)
  with_pieces_spares pieces s are is = record {
    pieces = subst (AllSpare None None) (sym (pieces_appended pieces s)) (both_all s.pieces (placed_pieces s.owner s.begins pieces) is.pieces (placed_spare s.owner s.begins None None pieces are));
    held = subst AreConstants (sym (pieces_held pieces s)) is.held;
  }

  pub with_code_spares : (code : List Instruction) (s : CodeState) → Spares g slots (V s.owner) code → IsSparingCode s → IsSparingCode (with_code code s)
  with_code_spares code s are is = subst IsSparingCode (sym (words_appended code s)) (with_pieces_spares (words code) s (words_spare s.owner None None code are) is)

  settled_spares : (s : CodeState) → IsSparingCode s → IsSparingCode (settled s)
  settled_spares s is =
      choice IsSparingCode s.begins (with_code (instruction.Immediate Addi 0 0 0 ∷ []) s) s (λ e. with_code_spares (instruction.Immediate Addi 0 0 0 ∷ []) s (low g slots (V s.owner) 0 (omega arith), tt) is) (λ e. is)

  -- ---- Calls

  pub forgotten_constants : (r : ℕ) (held : List Held) → AreConstants held → AreConstants (forgotten r held)
  forgotten_constants r [] all = tt
  forgotten_constants r (x ∷ more) all = choice AreConstants (not (x.register == r)) (x ∷ forgotten r more) (forgotten r more) (λ e. (all.0, forgotten_constants r more all.1)) (λ e. forgotten_constants r more all.1)

  pub argument_may : (W : Home → Type 0) (n : ℕ) → MayMake g slots W (argument_register n)
  argument_may W n = choice (MayMake g slots W) (nat_lt n 8) (10 + n) 17 (λ e. let lt : n < 8 = ltb-true n 8 e in middle g slots W (10 + n) (omega arith) (omega (arith, lt))) (λ e. middle g slots W 17 (omega arith) (omega arith))

  forgetting_spares : (r : ℕ) (s : CodeState) → IsSparingCode s → IsSparingCode (forgetting r s)
  forgetting_spares r s is = record { pieces = is.pieces; held = forgotten_constants r s.held is.held }

  passed_spares : (n : ℕ) (a : Operand) (s : CodeState) → IsSparingCode s → IsSparingCode (passed g n a s)
  passed_spares n a s is =
      forgetting_spares (argument_register n) (with_code (bringing g s.held (argument_register n) (source_of g a)) s)
      (with_code_spares (bringing g s.held (argument_register n) (source_of g a)) s (bringing_spares g slots (V s.owner) s.held (argument_register n) (source_of g a) (argument_may (V s.owner) n)) is)

  all_passed : (n : ℕ) (all : List Operand) (s : CodeState) → IsSparingCode s → IsSparingCode (passed_from g n all s)
  all_passed n [] s is = is
  all_passed n (a ∷ more) s is = all_passed (n + 1) more (passed g n a s) (passed_spares n a s is)

  environment_spares : (n : ℕ) (s : CodeState) → IsSparingCode s → IsSparingCode (environment_called n s)
  environment_spares n s is =
      with_code_spares (instruction.Ecall ∷ []) (forgetting 17 (with_code (instruction.Immediate Addi 17 0 n ∷ []) s)) (tt, tt)
      (forgetting_spares 17 (with_code (instruction.Immediate Addi 17 0 n ∷ []) s) (with_code_spares (instruction.Immediate Addi 17 0 n ∷ []) s (middle g slots (V s.owner) 17 (omega arith) (omega arith), tt) is))

  called_spares : (f : Callee) (s : CodeState) → IsSparingCode s → IsSparingCode (called f s)
  called_spares callee.Getchar s is = environment_spares 1 s is
  called_spares callee.Putchar s is = environment_spares 2 s is
  called_spares callee.Exit s is = environment_spares 10 s is
  called_spares (callee.Function f) s is = with_pieces_spares (piece.Call f ∷ []) (record s { held = [] }) (tt, tt) (record { pieces = is.pieces; held = tt })

  module _ (f : Graph) (right : IsRightStorage g slots f) where
    few : g.slots + 4 * slots ≤ 16384
    few = right.few

    -- The home of a name that a place may write is due there.
    pub home_due : (W : Home → Type 0) (home : Home) → IsHomeAmong slots home → W home → IsDue g slots W home
    home_due W (Register r) among may = may
    home_due W (Slot k) among may = (may, among)

    -- What an instruction writes is a name of the graph, and what it is to reach is of the graph.
    module _ (u : UnitForm) where
      named : (i : UnitInstruction) (x : ℕ) → IsInstruction u f i → target_of i ≡ Some x → x < f.name_count
      named (Marker p) x is e = absurd (none-some x e)
      named (Note y v) x is e = absurd (none-some x e)
      named (Move y a) x is e = subst (λ z. z < f.name_count) (same_Some y x e) is.0
      named (Operate y op a b) x is e = subst (λ z. z < f.name_count) (same_Some y x e) is.0
      named (Truncate y t a) x is e = subst (λ z. z < f.name_count) (same_Some y x e) is.0
      named (Same y a b) x is e = subst (λ z. z < f.name_count) (same_Some y x e) is.0
      named (Address y object) x is e = subst (λ z. z < f.name_count) (same_Some y x e) is.0
      named (Load y e' l) x is e = subst (λ z. z < f.name_count) (same_Some y x e) is.0
      named (Store e' l a) x is e = absurd (none-some x e)
      named (Zero object words) x is e = absurd (none-some x e)
      named (CopyWords object bytes words) x is e = absurd (none-some x e)
      named (Call None c all) x is e = absurd (none-some x e)
      named (Call (Some y) c all) x is e = subst (λ z. z < f.name_count) (same_Some y x e) is.0

      answered_spares : (target : Option ℕ) (s : CodeState) → ((x : ℕ) → target ≡ Some x → IsDue g slots (V s.owner) (home_at g x)) → IsSparingCode s → IsSparingCode (answered g target s)
      answered_spares None s due is = is
      answered_spares (Some x) s due is = with_code_spares (home_written g (home_at g x) 10) s (written_spares g slots (V s.owner) few (home_at g x) 10 (due x refl)) is

      -- The code of an instruction whose target's home the place in force may write.
      pub instruction_spares : (entry : ℕ) (i : UnitInstruction) (s : CodeState) → IsInstruction u f i → ((x : ℕ) → target_of i ≡ Some x → V s.owner (home_at g x)) → IsSparingCode s → IsSparingCode (with_instruction g entry i s)
      instruction_spares entry i s legal may is = by_form i legal (λ x e. home_due (V s.owner) (home_at g x) (right.slotted x (named i x legal e)) (may x e))
        where
          by_form : (i : UnitInstruction) → IsInstruction u f i → ((x : ℕ) → target_of i ≡ Some x → IsDue g slots (V s.owner) (home_at g x)) → IsSparingCode (with_instruction g entry i s)
          by_form (Marker p) legal due = let done = settled_spares s is in record { pieces = done.pieces; held = done.held }
          by_form (Note x v) legal due = is
          by_form (Move x a) legal due = with_code_spares (move_code g s.held (home_at g x) (source_of g a)) s (move_spares g slots (V s.owner) few s.held (home_at g x) (due x refl) (source_of g a)) is
          by_form (Operate x op a b) legal due =
              with_code_spares (operation_code g s.held (home_at g x) op (source_of g a) (source_of g b)) s (operation_spares g slots (V s.owner) few s.held (home_at g x) (due x refl) op (source_of g a) (source_of g b)) is
          by_form (Truncate x t a) legal due = with_code_spares (truncation_code g s.held (home_at g x) t (source_of g a)) s (truncation_spares g slots (V s.owner) few s.held (home_at g x) (due x refl) t (source_of g a)) is
          by_form (Same x a b) legal due =
              with_code_spares (comparison_code g s.held (home_at g x) (source_of g a) (source_of g b)) s (comparison_spares g slots (V s.owner) few s.held (home_at g x) (due x refl) (source_of g a) (source_of g b)) is
          by_form (Address x object) legal due = with_code_spares (object_address_code g (home_at g x) object) s (object_address_spares g slots (V s.owner) few s.held (home_at g x) (due x refl) object) is
          by_form (Load x e l) legal due =
              with_code_spares (load_code g s.held (home_at g x) e l) s
              (loading_spares g slots (V s.owner) few s.held (home_at g x) (due x refl) e (reach_of g s.held l) (reach_spares g slots (V s.owner) few f right u.statics s.held is.held l legal.1).code) is
          by_form (Store e l a) legal due = with_code_spares (store_code g s.held e l (source_of g a)) s (store_spares g slots (V s.owner) few f right u.statics s.held is.held e l (source_of g a) legal.0) is
          by_form (Zero object words) legal due = with_code_spares (zero_code g object words) s (zero_spares g slots (V s.owner) few f right object words legal) is
          by_form (CopyWords object bytes words) legal due = with_code_spares (copy_code g s.held object bytes words) s (copy_spares g slots (V s.owner) few s.held object bytes words) is
          by_form (Call target c all) legal due =
              answered_spares target (called c (passed_from g 0 all s))
              (λ x e. subst (λ o. IsDue g slots (V o) (home_at g x)) (sym (called_owner c (passed_from g 0 all s) ∙ passed_owner g 0 all s)) (due x e))
              (called_spares c (passed_from g 0 all s) (all_passed 0 all s is))
