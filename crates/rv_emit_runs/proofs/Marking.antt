-- Which piece of a block is told as the writer of an instruction's target: the last one of the instruction's code, and none behind it.
use Rattle.std.proofs.Common.{◌≡◌, ◌≢◌, ℕ, zero, suc, ◌+◌, ◌%◌, ◌<◌, ◌≤◌, ◌==◌, ◌||◌, not, nat_le, cond, Bool, true, false, Option, Some, None, List, [], ◌∷◌, ◌++◌, length, map, refl, sym, ap, ◌∙◌, subst, arith, append_assoc, append-nil}
use Rattle.std.specs.Option.{option_map_or}
use Rattle.std.specs.Prelude.{option_map}
use Rattle.std.specs.List.{AllByRecursion}
use Rattle.std.proofs.lemmas.List.{length-append, map-append}
use Rattle.rv_code.specs.declared.instruction.Instruction.{Instruction}
use Rattle.rv_code.specs.declared.instruction.Instruction.TheVariants as instruction
use Rattle.rv_code.specs.declared.instruction.ImmediateOperation.TheVariants.{Addi}
use Rattle.rv_code.specs.declared.instruction.LoadOperation.TheVariants.{Lw}
use Rattle.graph_core.specs.Graphs.{Block, End, Jump, Branch, Return, Instruction as UnitInstruction}
use Rattle.graph_core.specs.Uses.{target_of}
use Rattle.graph_core.specs.Validity.{place_behind}
use Rattle.graph_homes.specs.declared.home.Home.{Home}
use Rattle.rv_emit_words.specs.declared.piece.Held.{Held}
use Rattle.rv_emit_words.specs.declared.piece.Piece.{Piece}
use Rattle.rv_emit_words.specs.declared.piece.Piece.TheVariants as piece
use Rattle.rv_emit_words.specs.declared.piece.PlacedPiece.{PlacedPiece}
use Rattle.rv_emit_storage.specs.Storages.{StorageForm, home_at, source_of}
use Rattle.rv_emit_words.specs.Growing.{CodeState, marked, with_code, with_piece}
use Rattle.rv_emit_words.specs.Operands.{bringing}
use Rattle.rv_emit_words.proofs.Appending.{with_code_then}
use Rattle.rv_emit_instructions.specs.Code.{with_instruction}
use Rattle.rv_emit_code.specs.Beginning.{with_writer}
use Rattle.rv_emit_code.specs.Blocks.{no_code, with_instructions, with_numbered}
use Rattle.rv_emit_code.specs.Ends.{end_pieces, going, with_pieces, words}
use Rattle.rv_emit_code.specs.Leaving.{moving_by, of_no_place, restoring_code, room_behind, with_end, with_leave, with_leaving, words_of_moving}
use Rattle.rv_emit_runs.specs.Placed.{placed_pieces}
use Rattle.rv_emit_runs.proofs.Appended.{pieces_appended, words_appended}
use Rattle.rv_emit_sequence.specs.Sequences.{counted, numbered}
use Rattle.rv_emit_runs.specs.Writing.{EndsWriting, IsWriting}
use Rattle.rv_emit_runs.proofs.Forms.{choice, perhaps}
use Rattle.rv_emit_runs.proofs.EmitPlacedPlain.{AreNarrow, ArePlain, Appends, IsNarrow, appends_then, code_appends, instruction_appends}
use Rattle.rv_emit_runs.proofs.SparingParts.{behind_both}
use Rattle.rv_emit_runs.proofs.Stops.{all_append}
use Rattle.rv_emit_runs.proofs.Writers.{Writes, code_owner, instruction_owner, instruction_writes, place_or_none, writing_some}

-- What a piece is told to write is of one of these numbers, if it is told to write.
abbrev pub IsToldIn : (low high : ℕ) → Option ℕ → Type 0
IsToldIn low high None = Unit {0}
IsToldIn low high (Some n) = (low ≤ n) × (n < high)

abbrev pub AreToldIn : (low high : ℕ) → List PlacedPiece → Type 0
AreToldIn low high pieces = AllByRecursion (λ (x : PlacedPiece). IsToldIn low high x.writes) pieces

in_wider : (low high l h : ℕ) (o : Option ℕ) → l ≤ low → high ≤ h → IsToldIn low high o → IsToldIn l h o
in_wider low high l h None one two is = tt
in_wider low high l h (Some n) one two is = let a = is.0 in let b = is.1 in (omega (arith, one, a), omega (arith, two, b))

pub told_wider : (low high l h : ℕ) (pieces : List PlacedPiece) → l ≤ low → high ≤ h → AreToldIn low high pieces → AreToldIn l h pieces
told_wider low high l h [] one two are = tt
told_wider low high l h (x ∷ more) one two are = (in_wider low high l h x.writes one two are.0, told_wider low high l h more one two are.1)

none_in : (low high : ℕ) (o : Option ℕ) → o ≡ None → IsToldIn low high o
none_in low high o e = subst (IsToldIn low high) (sym e) tt

pub plain_narrow : (pieces : List PlacedPiece) → ArePlain pieces → AreNarrow pieces
plain_narrow [] are = tt
plain_narrow (x ∷ more) are = (are.0.0, plain_narrow more are.1)

pub plain_told : (low high : ℕ) (pieces : List PlacedPiece) → ArePlain pieces → AreToldIn low high pieces
plain_told low high [] are = tt
plain_told low high (x ∷ more) are = (none_in low high x.writes are.0.1, plain_told low high more are.1)

-- ---- The last piece

-- The last of pieces that are not none, behind others.
pub marked_behind : (n : ℕ) (front back : List PlacedPiece) → 1 ≤ length back → marked n (front ++ back) ≡ front ++ marked n back
marked_behind n [] back some = refl
marked_behind n (x ∷ []) [] some = absurd (omega (arith, some))
marked_behind n (x ∷ []) (y ∷ back) some = refl
marked_behind n (x ∷ z ∷ front) back some = ap (λ l. x ∷ l) (marked_behind n (z ∷ front) back some)

pub words_count : (owner : ℕ) (stops : Bool) (code : List Instruction) → length (placed_pieces owner stops (words code)) ≡ length code
words_count owner stops [] = refl
words_count owner stops (i ∷ more) = omega (arith, words_count owner false more)

-- Words of which the last is marked.
abbrev pub writer_pieces : (number owner : ℕ) → (stops : Bool) → List Instruction → List PlacedPiece
writer_pieces n owner stops code = marked n (placed_pieces owner stops (words code))

marked_count : (n : ℕ) (pieces : List PlacedPiece) → length (marked n pieces) ≡ length pieces
marked_count n [] = refl
marked_count n (x ∷ []) = refl
marked_count n (x ∷ y ∷ more) = omega (arith, marked_count n (y ∷ more))

pub writer_count : (n owner : ℕ) (stops : Bool) (code : List Instruction) → length (writer_pieces n owner stops code) ≡ length code
writer_count n owner stops code = marked_count n (placed_pieces owner stops (words code)) ∙ words_count owner stops code

pub writer_narrow : (n owner : ℕ) (stops : Bool) (code : List Instruction) → AreNarrow (writer_pieces n owner stops code)
writer_narrow n owner stops [] = tt
writer_narrow n owner stops (i ∷ []) = (tt, tt)
writer_narrow n owner stops (i ∷ j ∷ more) = (tt, writer_narrow n owner false (j ∷ more))

pub writer_told : (n owner : ℕ) (stops : Bool) (code : List Instruction) → AreToldIn n (n + 1) (writer_pieces n owner stops code)
writer_told n owner stops [] = tt
writer_told n owner stops (i ∷ []) = ((omega arith, omega arith), tt)
writer_told n owner stops (i ∷ j ∷ more) = (tt, writer_told n owner false (j ∷ more))

-- ---- One instruction

-- Code is other code, pieces of one word, and words behind them that write a home, of which the last is told to.
pub record AppendsWriter (g : StorageForm) (home : Home) (n : ℕ) (s t : CodeState) : Type 0 where
  pub front : List PlacedPiece
  pub code : List Instruction
  pub stops : Bool
  pub is : t.pieces ≡ s.pieces ++ (front ++ writer_pieces n s.owner stops code)
  pub plain : ArePlain front
  pub writes : IsWriting g home code

pub writer_appended : (g : StorageForm) (home : Home) (n : ℕ) (s t : CodeState) → Writes g home s t → AppendsWriter g home n s (with_writer n t)
writer_appended g home n s t by =
    let ends : EndsWriting g home by.code = by.ends in
    let v : CodeState = with_code ends.before by.before in
    let before : Appends s v = appends_then s by.before v by.appended (code_appends ends.before by.before) in
    let is : t ≡ with_code ends.last v = by.is ∙ ap (λ c. with_code c by.before) ends.is ∙ with_code_then ends.before ends.last by.before in
    let pieces : t.pieces ≡ v.pieces ++ placed_pieces v.owner v.begins (words ends.last) = ap (λ (x : CodeState). x.pieces) (is ∙ words_appended ends.last v) ∙ pieces_appended (words ends.last) v in
    let some : 1 ≤ length ends.last = writing_some g home ends.last ends.writes in
    let count = words_count v.owner v.begins ends.last in
    let owner : v.owner ≡ s.owner = code_owner ends.before by.before ∙ by.owner in
    record {
      front = before.more;
      code = ends.last;
      stops = v.begins;
      is = ap (marked n) pieces ∙ marked_behind n v.pieces (placed_pieces v.owner v.begins (words ends.last)) (omega (arith, some, count)) ∙ ap (λ l. l ++ writer_pieces n v.owner v.begins ends.last) before.is
          ∙ append_assoc s.pieces before.more (writer_pieces n v.owner v.begins ends.last) ∙ ap (λ o. s.pieces ++ (before.more ++ writer_pieces n o v.begins ends.last)) owner;
      plain = before.plain;
      writes = ends.writes;
    }

-- Numbers that pieces are told to write for, from one on.
pub record TellsWithin (low high : ℕ) (s t : CodeState) : Type 0 where
  pub more : List PlacedPiece
  pub is : t.pieces ≡ s.pieces ++ more
  pub told : AreToldIn low high more
  pub narrow : AreNarrow more

pub within_then : (low middle high : ℕ) (s t u : CodeState) → low ≤ middle → middle ≤ high → TellsWithin low middle s t → TellsWithin middle high t u → TellsWithin low high s u
within_then low middle high s t u one two first second = record {
  more = first.more ++ second.more;
  is = second.is ∙ ap (λ l. l ++ second.more) first.is ∙ append_assoc s.pieces first.more second.more;
  told = all_append (λ (x : PlacedPiece). IsToldIn low high x.writes) first.more second.more (told_wider low middle low high first.more (omega arith) two first.told) (told_wider middle high low high second.more one (omega arith) second.told);
  narrow = all_append (λ (x : PlacedPiece). IsNarrow x.piece) first.more second.more first.narrow second.narrow;
}

module _ (g : StorageForm) (entry : ℕ) where
  numbered_is : (n : ℕ) (i : UnitInstruction) (x : ℕ) (s : CodeState) → target_of i ≡ Some x → with_numbered g entry n i s ≡ with_writer n (with_instruction g entry i s)
  numbered_is n i x s e = ap (λ (o : Option ℕ). option_map_or (λ x. with_writer n (with_instruction g entry i s)) o (with_instruction g entry i s)) e

  pub numbered_writes : (n : ℕ) (i : UnitInstruction) (x : ℕ) (s : CodeState) → target_of i ≡ Some x → AppendsWriter g (home_at g x) n s (with_numbered g entry n i s)
  numbered_writes n i x s e = subst (AppendsWriter g (home_at g x) n s) (sym (numbered_is n i x s e)) (writer_appended g (home_at g x) n s (with_instruction g entry i s) (instruction_writes g entry i x s e))

  numbered_within : (n : ℕ) (i : UnitInstruction) (s : CodeState) → TellsWithin n (n + 1) s (with_numbered g entry n i s)
  numbered_within n i s = by_target (target_of i) refl
    where
      by_target : (o : Option ℕ) → target_of i ≡ o → TellsWithin n (n + 1) s (with_numbered g entry n i s)
      by_target None e =
          let one : Appends s (with_instruction g entry i s) = instruction_appends g entry i s in
          subst (TellsWithin n (n + 1) s) (sym (ap (λ (o : Option ℕ). option_map_or (λ x. with_writer n (with_instruction g entry i s)) o (with_instruction g entry i s)) e))
          (record { more = one.more; is = one.is; told = plain_told n (n + 1) one.more one.plain; narrow = plain_narrow one.more one.plain })
      by_target (Some x) e =
          let one : AppendsWriter g (home_at g x) n s (with_numbered g entry n i s) = numbered_writes n i x s e in
          record {
            more = one.front ++ writer_pieces n s.owner one.stops one.code;
            is = one.is;
            told = all_append (λ (y : PlacedPiece). IsToldIn n (n + 1) y.writes) one.front (writer_pieces n s.owner one.stops one.code) (plain_told n (n + 1) one.front one.plain) (writer_told n s.owner one.stops one.code);
            narrow = all_append (λ (y : PlacedPiece). IsNarrow y.piece) one.front (writer_pieces n s.owner one.stops one.code) (plain_narrow one.front one.plain) (writer_narrow n s.owner one.stops one.code);
          }

  -- ---- Instructions in order

  pub instructions_within : (n : ℕ) (all : List UnitInstruction) (s : CodeState) → n + length all ≤ 4294967295 → TellsWithin n (n + length all) s (with_instructions g entry n all s)
  instructions_within n [] s few = record { more = []; is = sym (append-nil s.pieces); told = tt; narrow = tt }
  instructions_within n (i ∷ more) s few =
      let next : (n + 1) % 4294967296 ≡ n + 1 = omega (arith, few) in
      let end : n + 1 + length more ≡ n + length (i ∷ more) = omega arith in
      within_then n (n + 1) (n + length (i ∷ more)) s (with_numbered g entry n i s) (with_instructions g entry ((n + 1) % 4294967296) more (with_numbered g entry n i s)) (omega arith) (omega arith) (numbered_within n i s)
      (subst (λ m. TellsWithin (n + 1) (n + length (i ∷ more)) (with_numbered g entry n i s) (with_instructions g entry m more (with_numbered g entry n i s))) (sym next)
      (subst (λ m. TellsWithin (n + 1) m (with_numbered g entry n i s) (with_instructions g entry (n + 1) more (with_numbered g entry n i s))) end (instructions_within (n + 1) more (with_numbered g entry n i s) (omega (arith, few)))))

  instructions_split : (n : ℕ) (before rest : List UnitInstruction) (s : CodeState) → n + length before ≤ 4294967295 → with_instructions g entry n (before ++ rest) s ≡ with_instructions g entry (n + length before) rest (with_instructions g entry n before s)
  instructions_split n [] rest s few = let none : n ≡ n + 0 = omega arith in ap (λ m. with_instructions g entry m rest s) none
  instructions_split n (i ∷ before) rest s few =
      let next : (n + 1) % 4294967296 ≡ n + 1 = omega (arith, few) in
      let end : n + 1 + length before ≡ n + length (i ∷ before) = omega arith in
      ap (λ m. with_instructions g entry m (before ++ rest) (with_numbered g entry n i s)) next ∙ instructions_split (n + 1) before rest (with_numbered g entry n i s) (omega (arith, few))
      ∙ ap (λ m. with_instructions g entry m rest (with_instructions g entry (n + 1) before (with_numbered g entry n i s))) end
      ∙ ap (λ m. with_instructions g entry (n + length (i ∷ before)) rest (with_instructions g entry m before (with_numbered g entry n i s))) (sym next)

  numbered_owner : (n : ℕ) (i : UnitInstruction) (s : CodeState) → (with_numbered g entry n i s).owner ≡ (with_instruction g entry i s).owner
  numbered_owner n i s = perhaps (λ (t : CodeState). t.owner ≡ (with_instruction g entry i s).owner) (λ x. with_writer n (with_instruction g entry i s)) (target_of i) (with_instruction g entry i s) (λ x at. refl) refl

  instructions_owner : (n : ℕ) (before : List UnitInstruction) (place : Option ℕ) (s : CodeState) → s.owner ≡ place_or_none place → (with_instructions g entry n before s).owner ≡ place_or_none (place_behind before place)
  instructions_owner n [] place s own = own
  instructions_owner n (i ∷ before) place s own =
      instructions_owner ((n + 1) % 4294967296) before (place_behind (i ∷ []) place) (with_numbered g entry n i s) (numbered_owner n i s ∙ instruction_owner g entry i place s own)
      ∙ ap place_or_none (sym (behind_both (i ∷ []) before place))

  -- ---- Ends

  -- Nothing is told for what is appended.
  record AppendsUntold (s t : CodeState) : Type 0 where
    pub more : List PlacedPiece
    pub is : t.pieces ≡ s.pieces ++ more
    pub none : AreToldIn 0 0 more

  untold_then : (s t u : CodeState) → AppendsUntold s t → AppendsUntold t u → AppendsUntold s u
  untold_then s t u one two = record {
    more = one.more ++ two.more;
    is = two.is ∙ ap (λ l. l ++ two.more) one.is ∙ append_assoc s.pieces one.more two.more;
    none = all_append (λ (x : PlacedPiece). IsToldIn 0 0 x.writes) one.more two.more one.none two.none;
  }

  placed_untold : (owner : ℕ) (stops : Bool) (pieces : List Piece) → AreToldIn 0 0 (placed_pieces owner stops pieces)
  placed_untold owner stops [] = tt
  placed_untold owner stops (x ∷ more) = (tt, placed_untold owner false more)

  pieces_untold : (pieces : List Piece) (s : CodeState) → AppendsUntold s (with_pieces pieces s)
  pieces_untold pieces s = record { more = placed_pieces s.owner s.begins pieces; is = pieces_appended pieces s; none = placed_untold s.owner s.begins pieces }

  code_untold : (code : List Instruction) (s : CodeState) → AppendsUntold s (with_code code s)
  code_untold code s = subst (AppendsUntold s) (sym (words_appended code s)) (pieces_untold (words code) s)

  leaving_untold : (moves : ℕ) (saved : List ℕ) (size : ℕ) (s : CodeState) → AppendsUntold s (with_leaving moves saved size s)
  leaving_untold moves saved size s =
      let one : CodeState = with_code (instruction.Immediate Addi 4 4 1 ∷ []) s in
      let code : List Instruction = restoring_code saved 4 ++ instruction.Load Lw 1 2 0 ∷ moving_by moves size ++ instruction.Jalr 0 1 0 ∷ [] in
      let first : AppendsUntold s one = code_untold (instruction.Immediate Addi 4 4 1 ∷ []) s in
      untold_then s (of_no_place one) (with_code code (of_no_place one)) (record { more = first.more; is = first.is; none = first.none }) (code_untold code (of_no_place one))

  leave_untold : (saved : List ℕ) (size end next room : ℕ) (s : CodeState) → AppendsUntold s (with_leave saved size end next room s)
  leave_untold saved size end next room s =
      choice (AppendsUntold s) (next == end || (not (nat_le (length saved) 9) || not (nat_le (length saved + 3 + words_of_moving size) room))) (with_pieces (going s.begins end next) s) (with_leaving (words_of_moving size) saved size s)
      (λ e. pieces_untold (going s.begins end next) s) (λ e. leaving_untold (words_of_moving size) saved size s)

  end_untold : (saved : List ℕ) (size end next : ℕ) (loads : List Held) (b : End) (s : CodeState) → AppendsUntold s (with_end g saved size end next loads b s)
  end_untold saved size end next loads (Jump to) s = let one = pieces_untold (end_pieces g s.held s.begins loads next (Jump to)) s in record { more = one.more; is = one.is; none = one.none }
  end_untold saved size end next loads (Branch k x y if_true if_false) s = let one = pieces_untold (end_pieces g s.held s.begins loads next (Branch k x y if_true if_false)) s in record { more = one.more; is = one.is; none = one.none }
  end_untold saved size end next loads (Return None) s = leave_untold saved size end next 9 s
  end_untold saved size end next loads (Return (Some a)) s =
      untold_then s (with_code (bringing g s.held 10 (source_of g a)) s) (with_leave saved size end next (room_behind g.base (source_of g a)) (with_code (bringing g s.held 10 (source_of g a)) s))
      (code_untold (bringing g s.held 10 (source_of g a)) s) (leave_untold saved size end next (room_behind g.base (source_of g a)) (with_code (bringing g s.held 10 (source_of g a)) s))

  pub last_untold : (moves : ℕ) (saved : List ℕ) (size : ℕ) → AreToldIn 0 0 (with_leaving moves saved size (no_code 0 [])).pieces
  last_untold moves saved size = let one = leaving_untold moves saved size (no_code 0 []) in subst (AreToldIn 0 0) (sym one.is) one.none

-- ---- A block

-- Pieces are others of one word, words that write a home of which the last is told to for a number, and others that are told for greater numbers, if for any.
pub record WriterIn (g : StorageForm) (home : Home) (owner n high : ℕ) (pieces : List PlacedPiece) : Type 0 where
  pub front : List PlacedPiece
  pub code : List Instruction
  pub stops : Bool
  pub behind : List PlacedPiece
  pub is : pieces ≡ front ++ (writer_pieces n owner stops code ++ behind)
  pub narrow : AreNarrow front
  pub writes : IsWriting g home code
  pub later : AreToldIn (n + 1) high behind

untold_in : (low high : ℕ) (o : Option ℕ) → IsToldIn 0 0 o → IsToldIn low high o
untold_in low high None is = tt
untold_in low high (Some n) is = let lt = is.1 in absurd (omega (arith, lt))

pub untold_within : (low high : ℕ) (pieces : List PlacedPiece) → AreToldIn 0 0 pieces → AreToldIn low high pieces
untold_within low high [] are = tt
untold_within low high (x ∷ more) are = (untold_in low high x.writes are.0, untold_within low high more are.1)

pub block_writer_in : (g : StorageForm) (entry : ℕ) (saved : List ℕ) (size end next : ℕ) (known loads : List Held) (b : Block) (before more : List UnitInstruction) (i : UnitInstruction) (x : ℕ) → b.instructions ≡ before ++ (i ∷ more) → target_of i ≡ Some x → length b.instructions ≤ 4294967295
    → WriterIn g (home_at g x) (place_or_none (place_behind before b.place)) (length before) (length b.instructions) (with_end g saved size end next loads b.end (with_instructions g entry 0 b.instructions (no_code (place_or_none b.place) known))).pieces
block_writer_in g entry saved size end next known loads b before more i x is target few =
    let s0 : CodeState = no_code (place_or_none b.place) known in
    let s1 : CodeState = with_instructions g entry 0 before s0 in
    let s2 : CodeState = with_numbered g entry (length before) i s1 in
    let s3 : CodeState = with_instructions g entry ((length before + 1) % 4294967296) more s2 in
    let all : length b.instructions ≡ length before + length (i ∷ more) = ap (λ (l : List UnitInstruction). length l) is ∙ length-append before (i ∷ more) in
    let none : 0 + length before ≡ length before = omega arith in
    let whole : with_instructions g entry 0 b.instructions s0 ≡ s3 =
    ap (λ l. with_instructions g entry 0 l s0) is ∙ instructions_split g entry 0 before (i ∷ more) s0 (omega (arith, all, few)) ∙ ap (λ m. with_instructions g entry m (i ∷ more) s1) none in
    let first : TellsWithin 0 (0 + length before) s0 s1 = instructions_within g entry 0 before s0 (omega (arith, all, few)) in
    let own : s1.owner ≡ place_or_none (place_behind before b.place) = instructions_owner g entry 0 before b.place s0 refl in
    let here : AppendsWriter g (home_at g x) (length before) s1 s2 = numbered_writes g entry (length before) i x s1 target in
    let step : (length before + 1) % 4294967296 ≡ length before + 1 = omega (arith, all, few) in
    let rest : TellsWithin (length before + 1) (length before + 1 + length more) s2 s3 =
    subst (λ m. TellsWithin (length before + 1) (length before + 1 + length more) s2 (with_instructions g entry m more s2)) (sym step) (instructions_within g entry (length before + 1) more s2 (omega (arith, all, few))) in
    let last : AppendsUntold g entry (with_instructions g entry 0 b.instructions s0) (with_end g saved size end next loads b.end (with_instructions g entry 0 b.instructions s0)) = end_untold g entry saved size end next loads b.end (with_instructions g entry 0 b.instructions s0) in
    let high : length before + 1 + length more ≡ length b.instructions = omega (arith, all) in
    record {
      front = first.more ++ here.front;
      code = here.code;
      stops = here.stops;
      behind = rest.more ++ last.more;
      is = last.is ∙ ap (λ (t : CodeState). t.pieces ++ last.more) whole ∙ ap (λ l. l ++ last.more) (rest.is ∙ ap (λ l. l ++ rest.more) (here.is ∙ ap (λ l. l ++ (here.front ++ writer_pieces (length before) s1.owner here.stops here.code)) first.is))
          ∙ arranged first.more here.front (writer_pieces (length before) s1.owner here.stops here.code) rest.more last.more
          ∙ ap (λ o. (first.more ++ here.front) ++ (writer_pieces (length before) o here.stops here.code ++ (rest.more ++ last.more))) own;
      narrow = all_append (λ (y : PlacedPiece). IsNarrow y.piece) first.more here.front first.narrow (plain_narrow here.front here.plain);
      writes = here.writes;
      later = all_append (λ (y : PlacedPiece). IsToldIn (length before + 1) (length b.instructions) y.writes) rest.more last.more (subst (λ m. AreToldIn (length before + 1) m rest.more) high rest.told) (untold_within (length before + 1) (length b.instructions) last.more last.none);
    }
  where
    arranged : (a b c d e : List PlacedPiece) → ((a ++ (b ++ c)) ++ d) ++ e ≡ (a ++ b) ++ (c ++ (d ++ e))
    arranged a b c d e =
        append_assoc (a ++ (b ++ c)) d e ∙ ap (λ l. l ++ (d ++ e)) (sym (append_assoc a b c)) ∙ append_assoc (a ++ b) c (d ++ e)

-- What the pieces of a block are told to write for are its instructions.
pub end_within : (g : StorageForm) (entry : ℕ) (saved : List ℕ) (size end next : ℕ) (loads : List Held) (b : End) (all : List UnitInstruction) (s : CodeState) → s.pieces ≡ [] → length all ≤ 4294967295
    → AreToldIn 0 (length all) (with_end g saved size end next loads b (with_instructions g entry 0 all s)).pieces
end_within g entry saved size end next loads b all s none few =
    let t : CodeState = with_instructions g entry 0 all s in
    let zero_more : 0 + length all ≡ length all = omega arith in
    let one : TellsWithin 0 (0 + length all) s t = instructions_within g entry 0 all s (omega (arith, few)) in
    let last : AppendsUntold g entry t (with_end g saved size end next loads b t) = end_untold g entry saved size end next loads b t in
    subst (AreToldIn 0 (length all)) (sym (last.is ∙ ap (λ l. l ++ last.more) (one.is ∙ ap (λ l. l ++ one.more) none)))
    (all_append (λ (y : PlacedPiece). IsToldIn 0 (length all) y.writes) one.more last.more (subst (λ m. AreToldIn 0 m one.more) zero_more one.told) (untold_within 0 (length all) last.more last.none))

-- ---- Numbered from the first block

numbered_words : (m n owner : ℕ) (stops : Bool) (code : List Instruction) → map (numbered m) (writer_pieces n owner stops code) ≡ writer_pieces (counted (m + n)) owner stops code
numbered_words m n owner stops [] = refl
numbered_words m n owner stops (i ∷ []) = refl
numbered_words m n owner stops (i ∷ j ∷ more) = ap (λ l. (record { piece = piece.Word i; owner = owner; is_stop = stops; writes = None }) ∷ l) (numbered_words m n owner false (j ∷ more))

numbered_narrow : (m : ℕ) (pieces : List PlacedPiece) → AreNarrow pieces → AreNarrow (map (numbered m) pieces)
numbered_narrow m [] are = tt
numbered_narrow m (x ∷ more) are = (are.0, numbered_narrow m more are.1)

numbered_in : (m low high : ℕ) (x : PlacedPiece) → m + high ≤ 4294967295 → IsToldIn low high x.writes → IsToldIn (m + low) (m + high) (numbered m x).writes
numbered_in m low high x few is = by_told x.writes is
  where
    by_told : (o : Option ℕ) → IsToldIn low high o → IsToldIn (m + low) (m + high) (option_map (λ i. counted (m + i)) o)
    by_told None is = tt
    by_told (Some n) is = let one = is.0 in let two = is.1 in (omega (arith, one, two, few), omega (arith, two, few))

pub numbered_told : (m low high : ℕ) (pieces : List PlacedPiece) → m + high ≤ 4294967295 → AreToldIn low high pieces → AreToldIn (m + low) (m + high) (map (numbered m) pieces)
numbered_told m low high [] few are = tt
numbered_told m low high (x ∷ more) few are = (numbered_in m low high x few are.0, numbered_told m low high more few are.1)

pub numbered_writer : (g : StorageForm) (home : Home) (owner n high m : ℕ) (pieces : List PlacedPiece) → n < high → m + high ≤ 4294967295 → WriterIn g home owner n high pieces → WriterIn g home owner (m + n) (m + high) (map (numbered m) pieces)
numbered_writer g home owner n high m pieces lt few in_block =
    let number : counted (m + n) ≡ m + n = omega (arith, lt, few) in
    let next : m + (n + 1) ≡ m + n + 1 = omega arith in
    record {
      front = map (numbered m) in_block.front;
      code = in_block.code;
      stops = in_block.stops;
      behind = map (numbered m) in_block.behind;
      is = ap (map (numbered m)) in_block.is ∙ map-append (numbered m) in_block.front (writer_pieces n owner in_block.stops in_block.code ++ in_block.behind)
          ∙ ap (λ l. map (numbered m) in_block.front ++ l) (map-append (numbered m) (writer_pieces n owner in_block.stops in_block.code) in_block.behind ∙ ap (λ l. l ++ map (numbered m) in_block.behind) (numbered_words m n owner in_block.stops in_block.code ∙ ap (λ k. writer_pieces k owner in_block.stops in_block.code) number));
      narrow = numbered_narrow m in_block.front in_block.narrow;
      writes = in_block.writes;
      later = subst (λ k. AreToldIn k (m + high) (map (numbered m) in_block.behind)) next (numbered_told m (n + 1) high in_block.behind few in_block.later);
    }
