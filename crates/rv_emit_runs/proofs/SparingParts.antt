-- All pieces of a function write no home but those that their places may write.
use Rattle.std.proofs.Common.{◌≡◌, ◌≢◌, ℕ, suc, ◌+◌, ◌-◌, ◌*◌, ◌%◌, ◌<◌, ◌≤◌, inl, inr, ⊎_elim, ◌==◌, ◌||◌, not, nat_le, cond, Bool, true, false, Option, Some, None, List, [], ◌∷◌, ◌++◌, length, map, slice_get, slice_index, refl, sym, ap, ◌∙◌, subst, arith, append_assoc}
use Rattle.std.specs.Option.{option_map_or}
use Rattle.std.specs.List.{AllByRecursion}
use Rattle.std.proofs.lemmas.Bool.{eqb-false}
use Rattle.word_base.specs.Arithmetic.{subtracted}
use Rattle.rv_code.specs.declared.instruction.Instruction.{Instruction}
use Rattle.rv_code.specs.declared.instruction.Instruction.TheVariants as instruction
use Rattle.rv_code.specs.declared.instruction.ImmediateOperation.TheVariants.{Addi}
use Rattle.rv_code.specs.declared.instruction.RegisterOperation.TheVariants as on
use Rattle.rv_code.specs.declared.instruction.BranchOperation.{BranchOperation}
use Rattle.rv_code.specs.declared.instruction.LoadOperation.TheVariants.{Lw}
use Rattle.rv_code.specs.declared.instruction.StoreOperation.TheVariants.{Sw}
use Rattle.graph_core.specs.declared.block.Comparison.{Comparison}
use Rattle.graph_core.specs.declared.graph.MemoryObject.{MemoryObject}
use Rattle.graph_core.specs.Graphs.{Binding, ToScalar, ToObject, Block, End, Jump, Branch, Return, Graph, UnitForm, Instruction as UnitInstruction}
use Rattle.graph_core.specs.Paths.{Among, front, behind}
use Rattle.graph_core.specs.Uses.{target_of}
use Rattle.graph_core.specs.Validity.{IsBinding, IsBlock, IsGraph, IsInstruction, place_behind}
use Rattle.graph_homes.specs.declared.home.Home.{Home}
use Rattle.rv_emit_words.specs.declared.piece.Held.{Held}
use Rattle.rv_emit_words.specs.declared.piece.Piece.{Piece}
use Rattle.rv_emit_words.specs.declared.piece.Piece.TheVariants as piece
use Rattle.rv_emit_words.specs.declared.piece.PlacedPiece.{PlacedPiece}
use Rattle.rv_emit_storage.specs.declared.storage.Source.{Source}
use Rattle.rv_emit_storage.specs.declared.storage.Source.TheVariants.{Home as OfHome, Word}
use Rattle.rv_emit_storage.specs.Storages.{StorageForm, home_at, object_at, source_of}
use Rattle.rv_emit_words.specs.Constants.{constant_by, constant_code, is_small, words_of_constant}
use Rattle.rv_emit_words.specs.Growing.{CodeState, forgotten, holder_of, with_code}
use Rattle.rv_emit_words.specs.Operands.{bringing, fetched_source, source_register}
use Rattle.rv_emit_instructions.specs.Calls.{argument_register}
use Rattle.rv_emit_instructions.specs.Code.{with_instruction}
use Rattle.rv_emit_instructions.specs.Memory.{frame_reach, storing}
use Rattle.rv_emit_code.specs.Beginning.{base_code, binding_code, element_of, entering_code, guard_code, saving_code, with_beginning, with_bindings, with_writer}
use Rattle.rv_emit_code.specs.Blocks.{no_code, with_instructions, with_numbered}
use Rattle.rv_emit_code.specs.Ends.{Compared, begins_behind, branch_operation, branching, choosing, comparing_code, end_pieces, going, going_by, held_with, holding_code, holding_held, jumping, loading_code, loading_held, opposite, room_of, with_pieces, with_zero, word_test, words}
use Rattle.rv_emit_code.specs.Leaving.{moving_by, moving_code, of_no_place, restoring_code, room_behind, with_end, with_leave, with_leaving, words_of_moving}
use Rattle.rv_emit_runs.proofs.Lists.{all_at, get_some}
use Rattle.rv_emit_sequence.specs.Sequences.{AreConstants, Ground, IsConstant, IsSequenceOf, IsStanding, SequenceForm, Standing, all_pieces, first_pieces, last_pieces, numbered, standing_code, standing_pieces}
use Rattle.rv_emit_runs.proofs.Forms.{choice, perhaps}
use Rattle.rv_emit_runs.proofs.Sparing.{IsDue, IsSparing, MayMake, Spares, both_spare, bringing_spares, constant_spares, fetched_spares, first_spares, low, middle, three_spare, written_spares}
use Rattle.rv_emit_runs.proofs.SparingOperations.{IsRightStorage, early, frame_spares, storing_spares}
use Rattle.rv_emit_runs.proofs.SparingCode.{AllSpare, IsSparingCode, PiecesSpare, argument_may, both_all, both_pieces, forgotten_constants, home_due, instruction_spares, marked_spare, numbered_spare, with_code_spares, with_pieces_spares, words_spare}
use Rattle.rv_emit_runs.proofs.Stops.{all_append}
use Rattle.rv_emit_runs.proofs.Writers.{behind_one, code_owner, instruction_owner, place_or_none}

pub behind_both : (before more : List UnitInstruction) (place : Option ℕ) → place_behind (before ++ more) place ≡ place_behind more (place_behind before place)
behind_both [] more place = refl
behind_both (x ∷ before) more place = behind_one x (before ++ more) place ∙ behind_both before more (place_behind (x ∷ []) place) ∙ ap (place_behind more) (sym (behind_one x before place))

among_at : (all : List Binding) (b : Binding) → Among b all → (k : ℕ) × (slice_get all k ≡ Some b)
among_at [] b there = elim there [ ]
among_at (_ ∷ all) b front = (0, refl)
among_at (x ∷ all) b (behind there) = let later = among_at all b there in (suc later.0, later.1)

module _ (g : StorageForm) (slots : ℕ) (V : (owner : ℕ) → Home → Type 0) where
  -- ---- Constants that are loaded

  constant_may : (W : Home → Type 0) (x : Held) → IsConstant x → MayMake g slots W x.register
  constant_may W x is =
      ⊎_elim (λ (e : x.register ≡ 8). low g slots W x.register (omega (arith, e))) (λ (both : (11 ≤ x.register) × (x.register ≤ 17)). let le = both.0 in let lt = both.1 in middle g slots W x.register (omega (arith, le)) (omega (arith, lt))) is.register

  module _ (owner : ℕ) where
    holding_spares : (x : Held) (base : ℕ) (held : List Held) → IsConstant x → Spares g slots (V owner) (holding_code x base held)
    holding_spares x base held is =
        perhaps (Spares g slots (V owner)) (λ r. cond (r == x.register) [] (instruction.Immediate Addi x.register r 0 ∷ [])) (holder_of x.word held) (constant_by (words_of_constant x.word base) x.register x.word base)
        (λ r at. choice (Spares g slots (V owner)) (r == x.register) [] (instruction.Immediate Addi x.register r 0 ∷ []) (λ e. tt) (λ e. (constant_may (V owner) x is, tt)))
        (constant_spares g slots (V owner) (words_of_constant x.word base) x.register x.word base (constant_may (V owner) x is))

    loads_spare : (base room : ℕ) (loads held : List Held) → AreConstants loads → Spares g slots (V owner) (loading_code base room loads held)
    loads_spare base room [] held are = tt
    loads_spare base room (x ∷ more) held are =
        choice (Spares g slots (V owner)) (nat_le (words_of_constant x.word base) room)
        (holding_code x base held ++ loading_code base (room - words_of_constant x.word base) more (holding_held x held)) (loading_code base room more held)
        (λ e. both_spare g slots (V owner) (holding_code x base held) (loading_code base (room - words_of_constant x.word base) more (holding_held x held)) (holding_spares x base held are.0)
        (loads_spare base (room - words_of_constant x.word base) more (holding_held x held) are.1))
        (λ e. loads_spare base room more held are.1)

    -- ---- Where control goes

    going_spares : (b : Bool) (to next : ℕ) → PiecesSpare g slots V owner None None (going b to next)
    going_spares b to next =
        choice (PiecesSpare g slots V owner None None) (to == next) (cond b (piece.Word (instruction.Immediate Addi 0 0 0) ∷ []) []) (piece.Jump (record { 0 = to }) ∷ [])
        (λ e. choice (PiecesSpare g slots V owner None None) b (piece.Word (instruction.Immediate Addi 0 0 0) ∷ []) [] (λ e. (low g slots (V owner) 0 (omega arith), tt)) (λ e. tt)) (λ e. (tt, tt))

    going_by_spares : (op : BranchOperation) (l r if_true if_false next : ℕ) → PiecesSpare g slots V owner None None (going_by op l r if_true if_false next)
    going_by_spares op l r if_true if_false next =
        choice (PiecesSpare g slots V owner None None) (if_true == next) (piece.Branch (opposite op) l r (record { 0 = if_false }) ∷ []) (piece.Branch op l r (record { 0 = if_true }) ∷ going false if_false next) (λ e. (tt, tt))
        (λ e. (tt, going_spares false if_false next))

    module _ (held loads : List Held) (are : AreConstants loads) where
      jumping_spares : (b : Bool) (to next : ℕ) → PiecesSpare g slots V owner None None (jumping g held b loads to next)
      jumping_spares b to next =
          both_pieces g slots V owner None None (words (loading_code g.base 8 loads held)) (going (begins_behind b (loading_code g.base 8 loads held)) to next)
          (words_spare g slots V owner None None (loading_code g.base 8 loads held) (loads_spare g.base 8 loads held are)) (going_spares (begins_behind b (loading_code g.base 8 loads held)) to next)

      branching_spares : (x : Compared) (if_true if_false next : ℕ) → PiecesSpare g slots V owner None None (branching g held loads x if_true if_false next)
      branching_spares x if_true if_false next =
          both_pieces g slots V owner None None (words (comparing_code g held loads x))
          (going_by (branch_operation x.comparison) (source_register g (loading_held g.base (room_of x) loads held) x.left 6) (source_register g (loading_held g.base (room_of x) loads held) x.right 7) if_true if_false next)
          (words_spare g slots V owner None None (comparing_code g held loads x)
          (both_spare g slots (V owner) (loading_code g.base (room_of x) loads held) (fetched_source g (loading_held g.base (room_of x) loads held) x.left 6 ++ fetched_source g (loading_held g.base (room_of x) loads held) x.right 7)
          (loads_spare g.base (room_of x) loads held are)
          (both_spare g slots (V owner) (fetched_source g (loading_held g.base (room_of x) loads held) x.left 6) (fetched_source g (loading_held g.base (room_of x) loads held) x.right 7)
          (fetched_spares g slots (V owner) (loading_held g.base (room_of x) loads held) x.left 6 (low g slots (V owner) 6 (omega arith)))
          (fetched_spares g slots (V owner) (loading_held g.base (room_of x) loads held) x.right 7 (low g slots (V owner) 7 (omega arith))))))
          (going_by_spares (branch_operation x.comparison) (source_register g (loading_held g.base (room_of x) loads held) x.left 6) (source_register g (loading_held g.base (room_of x) loads held) x.right 7) if_true if_false next)

      choosing_spares : (b : Bool) (k : Comparison) (l r : Source) (if_true if_false next : ℕ) → PiecesSpare g slots V owner None None (choosing g held b loads k l r if_true if_false next)
      choosing_spares b k (Word x) (Word y) if_true if_false next = jumping_spares b (cond (word_test k x y) if_true if_false) next
      choosing_spares b k (Word x) (OfHome y) if_true if_false next = branching_spares (with_zero k (Word x) (OfHome y)) if_true if_false next
      choosing_spares b k (OfHome x) (Word y) if_true if_false next = branching_spares (with_zero k (OfHome x) (Word y)) if_true if_false next
      choosing_spares b k (OfHome x) (OfHome y) if_true if_false next = branching_spares (with_zero k (OfHome x) (OfHome y)) if_true if_false next

    -- ---- Frames

    moving_spares : (n : ℕ) → Spares g slots (V owner) (moving_code n)
    moving_spares n =
        choice (Spares g slots (V owner)) (is_small n) (instruction.Immediate Addi 2 2 n ∷ []) (constant_code 5 n 0 ++ instruction.Register on.Add 2 2 5 ∷ []) (λ e. (low g slots (V owner) 2 (omega arith), tt))
        (λ e. both_spare g slots (V owner) (constant_code 5 n 0) (instruction.Register on.Add 2 2 5 ∷ []) (constant_spares g slots (V owner) (words_of_constant n 0) 5 n 0 (low g slots (V owner) 5 (omega arith))) (low g slots (V owner) 2 (omega arith), tt))

    moving_by_spares : (k n : ℕ) → Spares g slots (V owner) (moving_by k n)
    moving_by_spares k n =
        choice (Spares g slots (V owner)) (k == 1) (instruction.Immediate Addi 2 2 n ∷ []) (constant_code 5 n 0 ++ instruction.Register on.Add 2 2 5 ∷ []) (λ e. (low g slots (V owner) 2 (omega arith), tt))
        (λ e. both_spare g slots (V owner) (constant_code 5 n 0) (instruction.Register on.Add 2 2 5 ∷ []) (constant_spares g slots (V owner) (words_of_constant n 0) 5 n 0 (low g slots (V owner) 5 (omega arith))) (low g slots (V owner) 2 (omega arith), tt))

    restoring_spares : ((home : Home) → V owner home) → (saved : List ℕ) (offset : ℕ) → Spares g slots (V owner) (restoring_code saved offset)
    restoring_spares any [] offset = tt
    restoring_spares any (r ∷ more) offset = first_spares g slots (V owner) (instruction.Load Lw r 2 offset) (restoring_code more ((offset + 4) % 4294967296)) (λ is. any _) (restoring_spares any more ((offset + 4) % 4294967296))

    module _ (few : g.slots + 4 * slots ≤ 16384) where
      early_store : (register n : ℕ) → n + 4 ≤ g.slots → IsSparing g slots (V owner) None None (instruction.Store Sw register 2 n)
      early_store register n le = (λ e. early g slots (V owner) few n le, λ e. absurd (eqb-false 2 5 refl e))

      saving_spares : (saved : List ℕ) (offset : ℕ) → offset + 4 * length saved ≤ g.slots → Spares g slots (V owner) (saving_code saved offset)
      saving_spares [] offset le = tt
      saving_spares (r ∷ more) offset le =
          first_spares g slots (V owner) (instruction.Store Sw r 2 offset) (saving_code more ((offset + 4) % 4294967296)) (early_store r offset (omega (arith, le))) (saving_spares more ((offset + 4) % 4294967296) (omega (arith, le, few)))

      entering_spares : (saved : List ℕ) (size : ℕ) → 4 + 4 * length saved ≤ g.slots → Spares g slots (V owner) (entering_code saved size)
      entering_spares saved size le =
          both_spare g slots (V owner) (moving_code (subtracted 0 size)) (instruction.Store Sw 1 2 0 ∷ saving_code saved 4) (moving_spares (subtracted 0 size))
          (first_spares g slots (V owner) (instruction.Store Sw 1 2 0) (saving_code saved 4) (early_store 1 0 (omega (arith, le))) (saving_spares saved 4 (omega (arith, le))))

    guard_spares : Spares g slots (V owner) guard_code
    guard_spares = (tt, (middle g slots (V owner) 17 (omega arith) (omega arith), (tt, (low g slots (V owner) 4 (omega arith), tt))))

    base_spares : (is_main : Bool) (base : ℕ) → Spares g slots (V owner) (base_code is_main base)
    base_spares true base = constant_spares g slots (V owner) (words_of_constant base 0) 3 base 0 (low g slots (V owner) 3 (omega arith))
    base_spares false base = tt

  -- ---- Ends

  module _ (any : (home : Home) → V 0 home) where
    leaving_spares : (moves : ℕ) (saved : List ℕ) (size : ℕ) (s : CodeState) → IsSparingCode g slots V s → IsSparingCode g slots V (with_leaving moves saved size s)
    leaving_spares moves saved size s is =
        let one : IsSparingCode g slots V (with_code (instruction.Immediate Addi 4 4 1 ∷ []) s) = with_code_spares g slots V (instruction.Immediate Addi 4 4 1 ∷ []) s (low g slots (V s.owner) 4 (omega arith), tt) is in
        with_code_spares g slots V (restoring_code saved 4 ++ instruction.Load Lw 1 2 0 ∷ moving_by moves size ++ instruction.Jalr 0 1 0 ∷ []) (of_no_place (with_code (instruction.Immediate Addi 4 4 1 ∷ []) s))
        (three_spare g slots (V 0) (restoring_code saved 4) (instruction.Load Lw 1 2 0 ∷ moving_by moves size) (instruction.Jalr 0 1 0 ∷ []) (restoring_spares 0 any saved 4)
        (first_spares g slots (V 0) (instruction.Load Lw 1 2 0) (moving_by moves size) (low g slots (V 0) 1 (omega arith)) (moving_by_spares 0 moves size)) (low g slots (V 0) 0 (omega arith), tt))
        (record { pieces = one.pieces; held = one.held })

    leave_spares : (saved : List ℕ) (size end next room : ℕ) (s : CodeState) → IsSparingCode g slots V s → IsSparingCode g slots V (with_leave saved size end next room s)
    leave_spares saved size end next room s is =
        choice (IsSparingCode g slots V) (next == end || (not (nat_le (length saved) 9) || not (nat_le (length saved + 3 + words_of_moving size) room))) (with_pieces (going s.begins end next) s) (with_leaving (words_of_moving size) saved size s)
        (λ e. with_pieces_spares g slots V (going s.begins end next) s (going_spares s.owner s.begins end next) is) (λ e. leaving_spares (words_of_moving size) saved size s is)

    end_spares : (saved : List ℕ) (size end next : ℕ) (loads : List Held) (b : End) (s : CodeState) → AreConstants loads → IsSparingCode g slots V s → AllSpare g slots V None None (with_end g saved size end next loads b s).pieces
    end_spares saved size end next loads (Jump to) s are is = (with_pieces_spares g slots V (end_pieces g s.held s.begins loads next (Jump to)) s (jumping_spares s.owner s.held loads are s.begins to next) is).pieces
    end_spares saved size end next loads (Branch k x y if_true if_false) s are is =
        (with_pieces_spares g slots V (end_pieces g s.held s.begins loads next (Branch k x y if_true if_false)) s
        (choice (PiecesSpare g slots V s.owner None None) (if_true == if_false) (jumping g s.held s.begins loads if_true next) (choosing g s.held s.begins loads k (source_of g x) (source_of g y) if_true if_false next)
        (λ e. jumping_spares s.owner s.held loads are s.begins if_true next) (λ e. choosing_spares s.owner s.held loads are s.begins k (source_of g x) (source_of g y) if_true if_false next)) is).pieces
    end_spares saved size end next loads (Return None) s are is = (leave_spares saved size end next 9 s is).pieces
    end_spares saved size end next loads (Return (Some a)) s are is =
        (leave_spares saved size end next (room_behind g.base (source_of g a)) (with_code (bringing g s.held 10 (source_of g a)) s)
        (with_code_spares g slots V (bringing g s.held 10 (source_of g a)) s (bringing_spares g slots (V s.owner) s.held 10 (source_of g a) (middle g slots (V s.owner) 10 (omega arith) (omega arith))) is)).pieces

  -- ---- Functions

  -- What a place may write: what its instructions write, and in the entry what parameters are bound to.
  pub record MayWriteAll (u : UnitForm) (f : Graph) (entry : ℕ) : Type 0 where
    pub any : (home : Home) → V 0 home
    pub instructions : (l x : ℕ) (b : Block) (before behind : List UnitInstruction) (i : UnitInstruction) → slice_get f.blocks l ≡ Some b → b.instructions ≡ before ++ (i ∷ behind) → target_of i ≡ Some x → V (place_or_none (place_behind before b.place)) (home_at g x)
    pub bindings : (k x : ℕ) → slice_get f.parameters k ≡ Some (ToScalar x) → V entry (home_at g x)

  module _ (u : UnitForm) (f : Graph) (entry : ℕ) (graph : IsGraph u f) (right : IsRightStorage g slots f) (may : MayWriteAll u f entry) where
    numbered_spares : (n : ℕ) (i : UnitInstruction) (s : CodeState) → IsInstruction u f i → ((x : ℕ) → target_of i ≡ Some x → V s.owner (home_at g x)) → IsSparingCode g slots V s → IsSparingCode g slots V (with_numbered g entry n i s)
    numbered_spares n i s legal allowed is =
        let one : IsSparingCode g slots V (with_instruction g entry i s) = instruction_spares g slots V f right u entry i s legal allowed is in
        perhaps (IsSparingCode g slots V) (λ x. with_writer n (with_instruction g entry i s)) (target_of i) (with_instruction g entry i s)
        (λ x at. record { pieces = marked_spare g slots V n None None (with_instruction g entry i s).pieces one.pieces; held = one.held }) one

    numbered_owner : (n : ℕ) (i : UnitInstruction) (s : CodeState) → (with_numbered g entry n i s).owner ≡ (with_instruction g entry i s).owner
    numbered_owner n i s = perhaps (λ (t : CodeState). t.owner ≡ (with_instruction g entry i s).owner) (λ x. with_writer n (with_instruction g entry i s)) (target_of i) (with_instruction g entry i s) (λ x at. refl) refl

    module _ (l : ℕ) (b : Block) (there : slice_get f.blocks l ≡ Some b) where
      instructions_spare : (n : ℕ) (before all : List UnitInstruction) (s : CodeState) → b.instructions ≡ before ++ all → s.owner ≡ place_or_none (place_behind before b.place) → AllByRecursion (IsInstruction u f) all → IsSparingCode g slots V s
          → IsSparingCode g slots V (with_instructions g entry n all s)
      instructions_spare n before [] s is own legal spares = spares
      instructions_spare n before (i ∷ more) s is own legal spares =
          instructions_spare ((n + 1) % 4294967296) (before ++ i ∷ []) more (with_numbered g entry n i s) (is ∙ sym (append_assoc before (i ∷ []) more))
          (numbered_owner n i s ∙ instruction_owner g entry i (place_behind before b.place) s own ∙ ap place_or_none (sym (behind_both before (i ∷ []) b.place))) legal.1
          (numbered_spares n i s legal.0 (λ x target. subst (λ o. V o (home_at g x)) (sym own) (may.instructions l x b before more i there is target)) spares)

      block_spares : (saved : List ℕ) (size end next : ℕ) (known loads : List Held) → AreConstants known → AreConstants loads → AllByRecursion (IsInstruction u f) b.instructions
          → AllSpare g slots V None None (with_end g saved size end next loads b.end (with_instructions g entry 0 b.instructions (no_code (place_or_none b.place) known))).pieces
      block_spares saved size end next known loads constants are legal =
          end_spares may.any saved size end next loads b.end (with_instructions g entry 0 b.instructions (no_code (place_or_none b.place) known)) are
          (instructions_spare 0 [] b.instructions (no_code (place_or_none b.place) known) refl refl legal (record { pieces = tt; held = constants }))

    -- ---- Beginnings

    scalar_named : (x : ℕ) → IsBinding f (ToScalar x) → x < f.name_count
    scalar_named x lt = let scalars = graph.scalars in let temporaries = graph.temporaries in let within : x < length f.scalars = lt in omega (arith, within, scalars, temporaries)

    binding_spares : (r : ℕ) (b : Binding) → IsBinding f b → ((x : ℕ) → b ≡ ToScalar x → IsDue g slots (V entry) (home_at g x)) → Spares g slots (V entry) (binding_code g f r b)
    binding_spares r (ToScalar x) legal due = written_spares g slots (V entry) right.few (home_at g x) r (due x refl)
    binding_spares r (ToObject k) legal due =
        let one = get_object k legal in
        storing_spares g slots (V entry) right.few f right u.statics [] tt (element_of f k) (frame_reach (object_at g k)) r (frame_spares g slots (V entry) right.few (object_at g k) (right.low k one.0 one.1))
      where
        get_object : (k : ℕ) → IsBinding f (ToObject k) → (m : MemoryObject) × (slice_get f.objects k ≡ Some m)
        get_object k legal = get_some f.objects k legal

    bindings_spare : (n : ℕ) (all : List Binding) (s : CodeState) → ((b : Binding) → Among b all → Among b f.parameters) → AllByRecursion (IsBinding f) all → s.owner ≡ entry → IsSparingCode g slots V s → IsSparingCode g slots V (with_bindings g f n all s)
    bindings_spare n [] s among legal own is = is
    bindings_spare n (b ∷ more) s among legal own is =
        let code : List Instruction = binding_code g f (argument_register n) b in
        let one : IsSparingCode g slots V (with_code code s) = with_code_spares g slots V code s
        (subst (λ o. Spares g slots (V o) code) (sym own) (binding_spares (argument_register n) b legal.0 (λ x e. bound_due b x (among b front) legal.0 e))) is in
        bindings_spare ((n + 1) % 4294967296) more (with_writer n (with_code code s)) (λ c at. among c (behind at)) legal.1 (code_owner code s ∙ own) (record { pieces = marked_spare g slots V n None None (with_code code s).pieces one.pieces; held = one.held })
      where
        bound_due : (b : Binding) (x : ℕ) → Among b f.parameters → IsBinding f b → b ≡ ToScalar x → IsDue g slots (V entry) (home_at g x)
        bound_due b x there legal e =
            let at = among_at f.parameters b there in
            home_due g slots V f right (V entry) (home_at g x) (right.slotted x (scalar_named x (subst (IsBinding f) e legal))) (may.bindings at.0 x (at.1 ∙ ap (λ c. Some c) e))

    beginning_spares : (saved : List ℕ) (size : ℕ) (is_main : Bool) → 4 + 4 * length saved ≤ g.slots → AllSpare g slots V None None (with_beginning g f saved size is_main (no_code entry [])).pieces
    beginning_spares saved size is_main kept =
        let code : List Instruction = guard_code ++ entering_code saved size ++ base_code is_main g.base in
        (bindings_spare 0 f.parameters (with_code code (no_code entry [])) (λ b at. at) graph.bindings (code_owner code (no_code entry []))
        (with_code_spares g slots V code (no_code entry [])
        (three_spare g slots (V entry) guard_code (entering_code saved size) (base_code is_main g.base) (guard_spares entry) (entering_spares entry right.few saved size kept) (base_spares entry is_main g.base)) (record { pieces = tt; held = tt }))).pieces

-- ---- All of them

module _ (g : Ground) (slots : ℕ) (V : (owner : ℕ) → Home → Type 0) (u : UnitForm) (f : Graph) (graph : IsGraph u f) (right : IsRightStorage g.storage slots f) (may : MayWriteAll g.storage slots V u f g.entry) where
  blocks_spare : (at : ℕ → List Held) → ((n : ℕ) → AreConstants (at n)) → (numbers : List ℕ) (all : List Standing) → AllByRecursion (IsStanding g f.blocks at) all → AllSpare g.storage slots V None None (all_pieces g numbers all)
  blocks_spare at constants numbers [] standing = tt
  blocks_spare at constants numbers (x ∷ more) standing =
      let one = standing.0 in
      let block : IsBlock u f x.block = all_at (IsBlock u f) f.blocks x.number x.block graph.blocks one.block in
      both_all g.storage slots V (standing_pieces g numbers x) (all_pieces g numbers more)
      (numbered_spare g.storage slots V (slice_index numbers x.number) None None (standing_code g x).pieces
      (block_spares g.storage slots V u f g.entry graph right may x.number x.block one.block g.saved g.size g.end x.next x.known x.loads (subst AreConstants (sym one.known) (constants x.number)) one.loads block.instructions))
      (blocks_spare at constants numbers more standing.1)

  -- The pieces of a function write no home but those that their places may.
  pub sequence_spares : (is_main : Bool) (s : SequenceForm) → 4 + 4 * length g.saved ≤ g.storage.slots → IsSequenceOf g f is_main s → AllSpare g.storage slots V None None s.pieces
  sequence_spares is_main s kept sequence =
      subst (AllSpare g.storage slots V None None) (sym sequence.pieces)
      (both_all g.storage slots V (first_pieces g f is_main ++ all_pieces g s.numbers sequence.standing) (last_pieces g)
      (both_all g.storage slots V (first_pieces g f is_main) (all_pieces g s.numbers sequence.standing) (beginning_spares g.storage slots V u f g.entry graph right may g.saved g.size is_main kept)
      (blocks_spare sequence.at sequence.constants s.numbers sequence.standing sequence.blocks))
      (leaving_spares g.storage slots V may.any (words_of_moving g.size) g.saved g.size (no_code 0 []) (record { pieces = tt; held = tt })).pieces)
