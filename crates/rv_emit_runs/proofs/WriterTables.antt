-- The table of writers tells the address of the word that writes the home of each instruction's target.
use Rattle.std.proofs.Common.{◌≡◌, ◌≢◌, ℕ, zero, suc, ◌+◌, ◌-◌, ◌<◌, ◌≤◌, ◌⊎◌, inl, inr, ⊎_elim, ◌==◌, nat_le, Bool, true, false, Option, Some, None, List, [], ◌∷◌, ◌++◌, length, map, slice_get, slice_index, replicate, get_or, refl, sym, ap, ◌∙◌, subst, arith, append_assoc, append-nil}
use Rattle.std.specs.Option.{option_map_or}
use Rattle.std.specs.List.{AllByRecursion}
use Rattle.std.proofs.lemmas.Bool.{cases_eq, cases_lt, le-leb}
use Rattle.std.proofs.lemmas.List.{length-append, length-map, length-replicate}
use Rattle.std.proofs.lemmas.Option.{none-some, same_Some, slice_get_within}
use Rattle.memory_map.specs.Maps.{most_words}
use Rattle.rv_emit_runs.proofs.Maps.{emitted_in_reach}
use Rattle.rv_code.specs.declared.instruction.Instruction.{Instruction as MachineInstruction}
use Rattle.graph_core.specs.Graphs.{Block, Graph, Instruction}
use Rattle.graph_core.specs.Paths.{Among, front, behind}
use Rattle.graph_core.specs.Uses.{target_of}
use Rattle.graph_core.specs.Validity.{IsValid, place_behind}
use Rattle.graph_homes.specs.declared.home.Home.{Home}
use Rattle.graph_homes.specs.Homed.{HomedForm, HaveHomes, homes_in, home_of}
use Rattle.rv_emit_tables.specs.declared.emitted.PlacedStop.{PlacedStop}
use Rattle.rv_emit_tables.specs.Emitted.{EmittedForm, FunctionCode}
use Rattle.rv_emit_words.specs.declared.piece.Held.{Held}
use Rattle.rv_emit_words.specs.declared.piece.Piece.{Piece}
use Rattle.rv_emit_words.specs.declared.piece.Piece.TheVariants as piece
use Rattle.rv_emit_words.specs.declared.piece.PlacedPiece.{PlacedPiece}
use Rattle.rv_emit_storage.specs.Storages.{StorageForm, home_at}
use Rattle.rv_emit_code.specs.Blocks.{no_code, with_instructions}
use Rattle.rv_emit_steps.specs.Programs.{Program, address_of}
use Rattle.rv_emit_runs.specs.Pieces.{Targets, PieceAt}
use Rattle.rv_emit_runs.specs.Placed.{PlacedAt, placed_pieces}
use Rattle.rv_emit_runs.proofs.Appended.{BothPlaced, both_placed, marked_there}
use Rattle.rv_emit_code.specs.Ends.{words}
use Rattle.rv_emit_code.specs.Leaving.{words_of_moving}
use Rattle.rv_emit_sequence.specs.Sequences.{AreLabelled, AreOnce, Ground, IsSequenceOf, IsStanding, SequenceForm, Standing, all_pieces, counted, first_pieces, last_pieces, numbers_from, standing_code, standing_pieces}
use Rattle.rv_emit_layout.specs.Reaches.{width}
use Rattle.rv_emit_layout.specs.Layouts.{LayoutForm, label_at, words_before, IsLayoutOf, most_pieces}
use Rattle.rv_emit_layout.specs.Tracing.{piece_address, with_writers}
use Rattle.rv_emit_runs.specs.Laid.{Arrangement, code_of, graph_at, program_of, IsInWords}
use Rattle.rv_emit_runs.proofs.Frames.{graph_is, graph_there}
use Rattle.rv_emit_runs.proofs.Lists.{get_some}
use Rattle.rv_emit_layout.specs.Laid.{LaidForm, ground_for, parameters_in, told_by, told_of_all, IsEmittedOf}
use Rattle.rv_emit_runs.specs.EmitPlacedStanding.{targets_of}
use Rattle.rv_emit_runs.specs.Told.{instructions_before, AreCountable, IsToldWriter, TellWriters}
use Rattle.rv_emit_runs.specs.Writing.{HasWriter, IsWriter, IsWriting}
use Rattle.rv_emit_runs.proofs.Covering.{all_below}
use Rattle.rv_emit_runs.proofs.Grounds.{blocks_few, can_stand, ground_at, ground_is}
use Rattle.rv_emit_runs.proofs.Marking.{AreToldIn, IsToldIn, TellsWithin, WriterIn, block_writer_in, end_within, instructions_within, last_untold, numbered_told, numbered_writer, told_wider, untold_within, writer_count, writer_narrow, writer_pieces}
use Rattle.rv_emit_runs.proofs.Pieces.{FunctionThere, none_before, part_there, words_step}
use Rattle.rv_emit_runs.proofs.EmitPlacedPlain.{AreNarrow, IsNarrow}
use Rattle.rv_emit_runs.proofs.Stops.{address_is, all_append}
use Rattle.rv_emit_runs.proofs.Tables.{AreOthers, others_keep}
use Rattle.rv_emit_runs.proofs.TableWords.{WordThere, told_there, word_there}
use Rattle.rv_emit_runs.proofs.Told.{told_there as function_told}
use Rattle.rv_emit_runs.proofs.UnitCode.{arranged, laid_is, laid_of}
use Rattle.rv_emit_runs.proofs.UnitPlaced.{HasCode, Placed, laid_count, unit_placed}
use Rattle.rv_emit_runs.proofs.Writers.{WordsThere, place_or_none, words_there, writing_some}

-- ---- Numbers of instructions

numbers_are : (blocks : List Block) (n l : ℕ) → l ≤ length blocks → n + instructions_before blocks (length blocks) ≤ 4294967295 → slice_index (numbers_from n blocks) l ≡ n + instructions_before blocks l
numbers_are [] n zero low few = omega arith
numbers_are [] n (suc l) low few = absurd (omega (arith, low))
numbers_are (b ∷ more) n zero low few = omega arith
numbers_are (b ∷ more) n (suc l) low few =
    let next : counted (n + counted (length b.instructions)) ≡ n + length b.instructions = omega (arith, few) in
    let later : slice_index (numbers_from (counted (n + counted (length b.instructions))) more) l ≡ counted (n + counted (length b.instructions)) + instructions_before more l =
    numbers_are more (counted (n + counted (length b.instructions))) l (omega (arith, low)) (omega (arith, few, next)) in
    omega (arith, later, next)

-- The instructions of a block stand before those of later ones.
before_grows : (blocks : List Block) (j l : ℕ) (b : Block) → slice_get blocks j ≡ Some b → j < l → l ≤ length blocks → instructions_before blocks j + length b.instructions ≤ instructions_before blocks l
before_grows [] j l b at lt low = cc
before_grows (x ∷ more) j zero b at lt low = absurd (omega (arith, lt))
before_grows (x ∷ more) zero (suc l) b at lt low = let same : length x.instructions ≡ length b.instructions = (let both : x ≡ b = cc in ap (λ (y : Block). length y.instructions) both) in omega (arith, same)
before_grows (x ∷ more) (suc j) (suc l) b at lt low = let later = before_grows more j l b at (omega (arith, lt)) (omega (arith, low)) in omega (arith, later)

-- Numbers of one range are none of another.
pub others_by : (n low high : ℕ) (pieces : List PlacedPiece) → (n < low) ⊎ (high ≤ n) → AreToldIn low high pieces → AreOthers n pieces
others_by n low high [] outside are = tt
others_by n low high (x ∷ more) outside are = (one x.writes are.0, others_by n low high more outside are.1)
  where
    one : (o : Option ℕ) → IsToldIn low high o → o ≢ Some n
    one None is e = none-some n e
    one (Some m) is e =
        let same : m ≡ n = same_Some m n e in
        let from = is.0 in
        let to = is.1 in
        ⊎_elim (λ (lt : n < low). absurd (omega (arith, lt, from, same))) (λ (le : high ≤ n). absurd (omega (arith, le, to, same))) outside

-- ---- Among blocks

-- Words that write a home stand among pieces, behind pieces of one word that stand from a label on, and the last of them is told to for a number, which none behind it is.
record WriterAmong (g : StorageForm) (home : Home) (owner n i l : ℕ) (labels : List ℕ) (all : List PlacedPiece) : Type 0 where
  pub outer : List PlacedPiece
  pub inner : List PlacedPiece
  pub code : List MachineInstruction
  pub stops : Bool
  pub back : List PlacedPiece
  pub is : all ≡ (outer ++ inner) ++ (writer_pieces n owner stops code ++ back)
  pub start : slice_index labels l ≡ counted (i + length outer)
  pub narrow : AreNarrow inner
  pub writes : IsWriting g home code
  pub other : AreOthers n back

module _ (g : Ground) (s : SequenceForm) (blocks : List Block) (at : ℕ → List Held) (few : instructions_before blocks (length blocks) ≤ 4294967295) (numbers : s.numbers ≡ numbers_from 0 blocks) where
  number_is : (l : ℕ) → l ≤ length blocks → slice_index s.numbers l ≡ instructions_before blocks l
  number_is l low = ap (λ (ns : List ℕ). slice_index ns l) numbers ∙ numbers_are blocks 0 l low (omega (arith, few)) ∙ (omega arith)

  -- What the pieces of a block are told to write for are its instructions.
  standing_told : (x : Standing) → IsStanding g blocks at x → AreToldIn (instructions_before blocks x.number) (instructions_before blocks x.number + length x.block.instructions) (standing_pieces g s.numbers x)
  standing_told x is =
      let lt = slice_get_within blocks x.number x.block is.block in
      let grows = before_grows blocks x.number (length blocks) x.block is.block lt (omega arith) in
      let first : slice_index s.numbers x.number ≡ instructions_before blocks x.number = number_is x.number (omega (arith, lt)) in
      let none : instructions_before blocks x.number + 0 ≡ instructions_before blocks x.number = omega arith in
      subst (λ m. AreToldIn m (instructions_before blocks x.number + length x.block.instructions) (standing_pieces g s.numbers x)) none
      (subst (λ m. AreToldIn (m + 0) (m + length x.block.instructions) (standing_pieces g s.numbers x)) first
      (numbered_told (slice_index s.numbers x.number) 0 (length x.block.instructions) (standing_code g x).pieces (omega (arith, grows, few, first))
      (end_within g.storage g.entry g.saved g.size g.end x.next x.loads x.block.end x.block.instructions (no_code (place_or_none x.block.place) x.known) refl (omega (arith, grows, few)))))

  -- Blocks but this are told to write for other numbers.
  blocks_other : (l n : ℕ) (b : Block) → slice_get blocks l ≡ Some b → instructions_before blocks l ≤ n → n < instructions_before blocks l + length b.instructions → (all : List Standing) → (Among l (map (λ (x : Standing). x.number) all) → ⊥) → AllByRecursion (IsStanding g blocks at) all
      → AreOthers n (all_pieces g s.numbers all)
  blocks_other l n b there low high [] absent standing = tt
  blocks_other l n b there low high (x ∷ more) absent standing =
      let is = standing.0 in
      let lt_x = slice_get_within blocks x.number x.block is.block in
      let lt_l = slice_get_within blocks l b there in
      let outside : (n < instructions_before blocks x.number) ⊎ (instructions_before blocks x.number + length x.block.instructions ≤ n) =
      ⊎_elim (λ (before : x.number < l). let grows = before_grows blocks x.number l x.block is.block before (omega (arith, lt_l)) in inr (omega (arith, grows, low)))
      (λ (ge : l ≤ x.number).
      ⊎_elim (λ (same : l ≡ x.number). absurd (absent (subst (λ m. Among m (x.number ∷ map (λ (x : Standing). x.number) more)) (sym same) front)))
      (λ (other : l ≢ x.number). let grows = before_grows blocks l x.number b there (omega (arith, ge, other)) (omega (arith, lt_x)) in inl (omega (arith, grows, high))) (cases_eq l x.number)) (cases_lt x.number l) in
      all_append (λ (y : PlacedPiece). y.writes ≢ Some n) (standing_pieces g s.numbers x) (all_pieces g s.numbers more)
      (others_by n (instructions_before blocks x.number) (instructions_before blocks x.number + length x.block.instructions) (standing_pieces g s.numbers x) outside (standing_told x is))
      (blocks_other l n b there low high more (λ later. absent (behind later)) standing.1)

  module _ (l : ℕ) (b : Block) (there : slice_get blocks l ≡ Some b) (before more : List Instruction) (i : Instruction) (x : ℕ) (is : b.instructions ≡ before ++ (i ∷ more)) (target : target_of i ≡ Some x) where
    abbrev number : ℕ
    number = instructions_before blocks l + length before

    abbrev owner : ℕ
    owner = place_or_none (place_behind before b.place)

    number_low : length before < length b.instructions
    number_low = let all = ap (λ (k : List Instruction). length k) is ∙ length-append before (i ∷ more) in omega (arith, all)

    here : (y : Standing) → IsStanding g blocks at y → y.number ≡ l → WriterIn g.storage (home_at g.storage x) owner number (instructions_before blocks l + length b.instructions) (standing_pieces g s.numbers y)
    here y standing same =
        let lt = slice_get_within blocks l b there in
        let grows = before_grows blocks l (length blocks) b there lt (omega arith) in
        let block : y.block ≡ b = (let both : Some y.block ≡ Some b = sym standing.block ∙ ap (λ m. slice_get blocks m) same ∙ there in same_Some y.block b both) in
        let first : slice_index s.numbers y.number ≡ instructions_before blocks l = ap (λ m. slice_index s.numbers m) same ∙ number_is l (omega (arith, lt)) in
        let low = number_low in
        let in_block : WriterIn g.storage (home_at g.storage x) (place_or_none (place_behind before y.block.place)) (length before) (length y.block.instructions) (standing_code g y).pieces =
        block_writer_in g.storage g.entry g.saved g.size g.end y.next y.known y.loads y.block before more i x (ap (λ (c : Block). c.instructions) block ∙ is) target
        (subst (λ (c : Block). length c.instructions ≤ 4294967295) (sym block) (omega (arith, grows, few))) in
        let of_b : WriterIn g.storage (home_at g.storage x) owner (length before) (length b.instructions) (standing_code g y).pieces =
        subst (λ (c : Block). WriterIn g.storage (home_at g.storage x) (place_or_none (place_behind before c.place)) (length before) (length c.instructions) (standing_code g y).pieces) block in_block in
        let moved = numbered_writer g.storage (home_at g.storage x) owner (length before) (length b.instructions) (slice_index s.numbers y.number) (standing_code g y).pieces low (omega (arith, grows, few, first)) of_b in
        subst (λ m. WriterIn g.storage (home_at g.storage x) owner (m + length before) (m + length b.instructions) (standing_pieces g s.numbers y)) first moved

    abbrev IsAmong : ℕ → List Standing → Type 0
    IsAmong k all = WriterAmong g.storage (home_at g.storage x) owner number k l s.labels (all_pieces g s.numbers all)

    blocks_writer : (k : ℕ) (all : List Standing) → Among l (map (λ (y : Standing). y.number) all) → AreOnce (map (λ (y : Standing). y.number) all) → AllByRecursion (IsStanding g blocks at) all → AreLabelled g s k all → IsAmong k all
    blocks_writer k [] among once standing labelled = elim among [ ]
    blocks_writer k (y ∷ rest) among once standing labelled =
        ⊎_elim (λ (same : y.number ≡ l). first same)
        (λ (other : y.number ≢ l). later (blocks_writer (k + length (standing_code g y).pieces) rest (not_first among other) once.1 standing.1 labelled.2)) (cases_eq y.number l)
      where
        not_first : Among l (y.number ∷ map (λ (y : Standing). y.number) rest) → y.number ≢ l → Among l (map (λ (y : Standing). y.number) rest)
        not_first among other = by_place l among refl
          where
            by_place : (m : ℕ) → Among m (y.number ∷ map (λ (y : Standing). y.number) rest) → m ≡ l → Among l (map (λ (y : Standing). y.number) rest)
            by_place m front e = absurd (other e)
            by_place m (behind there) e = subst (λ j. Among j (map (λ (y : Standing). y.number) rest)) e there

        first : y.number ≡ l → IsAmong k (y ∷ rest)
        first same =
            let one : WriterIn g.storage (home_at g.storage x) owner number (instructions_before blocks l + length b.instructions) (standing_pieces g s.numbers y) = here y standing.0 same in
            let low = number_low in
            let zero_more : k ≡ k + 0 = omega arith in
            record {
              outer = [];
              inner = one.front;
              code = one.code;
              stops = one.stops;
              back = one.behind ++ all_pieces g s.numbers rest;
              is = ap (λ q. q ++ all_pieces g s.numbers rest) one.is ∙ append_assoc one.front (writer_pieces number owner one.stops one.code ++ one.behind) (all_pieces g s.numbers rest)
                  ∙ ap (λ q. one.front ++ q) (append_assoc (writer_pieces number owner one.stops one.code) one.behind (all_pieces g s.numbers rest));
              start = ap (λ m. slice_index s.labels m) (sym same) ∙ labelled.0 ∙ ap counted zero_more;
              narrow = one.narrow;
              writes = one.writes;
              other = all_append (λ (z : PlacedPiece). z.writes ≢ Some number) one.behind (all_pieces g s.numbers rest)
                  (others_by number (number + 1) (instructions_before blocks l + length b.instructions) one.behind (inl (omega arith)) one.later)
                  (blocks_other l number b there (omega arith) (omega (arith, low)) rest (λ again. once.0 (subst (λ m. Among m (map (λ (y : Standing). y.number) rest)) (sym same) again)) standing.1);
            }

        later : IsAmong (k + length (standing_code g y).pieces) rest → IsAmong k (y ∷ rest)
        later found =
            let count : length (standing_pieces g s.numbers y) ≡ length (standing_code g y).pieces = length-map (standing_code g y).pieces _ in
            let both = length-append (standing_pieces g s.numbers y) found.outer in
            let sum : k + length (standing_code g y).pieces + length found.outer ≡ k + length (standing_pieces g s.numbers y ++ found.outer) = omega (arith, count, both) in
            record {
              outer = standing_pieces g s.numbers y ++ found.outer;
              inner = found.inner;
              code = found.code;
              stops = found.stops;
              back = found.back;
              is = ap (λ q. standing_pieces g s.numbers y ++ q) found.is ∙ sym (append_assoc (standing_pieces g s.numbers y) (found.outer ++ found.inner) (writer_pieces number owner found.stops found.code ++ found.back))
                  ∙ ap (λ q. q ++ (writer_pieces number owner found.stops found.code ++ found.back)) (sym (append_assoc (standing_pieces g s.numbers y) found.outer found.inner));
              start = found.start ∙ ap counted sum;
              narrow = found.narrow;
              writes = found.writes;
              other = found.other;
            }

-- ---- Where they stand

module _ (p : Program) (owners : List ℕ) (g : Ground) (f : Graph) (is_main : Bool) (s : SequenceForm) (y : LayoutForm) (first : ℕ) (firsts : List ℕ) (there : FunctionThere p owners s y first firsts) (sequence : IsSequenceOf g f is_main s) (few : instructions_before f.blocks (length f.blocks) ≤ 4294967295) (count : length f.blocks < 4294967295) where
  -- The table that is told.
  abbrev table : List ℕ
  table = with_writers y first (λ i. nat_le s.begin i) 0 s.pieces (replicate (slice_index s.numbers (counted (length s.ends))) 0)

  -- The word that writes a home, in the code of a block, and its address in the table.
  pub record TellsWriter (l number owner : ℕ) (home : Home) : Type 0 where
    pub index : ℕ
    pub within : first + label_at s.labels y.offsets l ≤ index
    pub writes : IsWriter g.storage p.words home index
    pub own : slice_index owners index ≡ owner
    pub told : slice_get table number ≡ Some (address_of index)

  module _ (l : ℕ) (b : Block) (block : slice_get f.blocks l ≡ Some b) (before more : List Instruction) (i : Instruction) (x : ℕ) (is : b.instructions ≡ before ++ (i ∷ more)) (target : target_of i ≡ Some x) where
    abbrev wanted : ℕ
    wanted = instructions_before f.blocks l + length before

    abbrev place : ℕ
    place = place_or_none (place_behind before b.place)

    low : l < length f.blocks
    low = slice_get_within f.blocks l b block

    among : WriterAmong g.storage (home_at g.storage x) place wanted (length (first_pieces g f is_main)) l s.labels (all_pieces g s.numbers sequence.standing)
    among =
        blocks_writer g s f.blocks sequence.at few sequence.numbers l b block before more i x is target (length (first_pieces g f is_main)) sequence.standing
        (all_below (length f.blocks) (map (λ (z : Standing). z.number) sequence.standing) sequence.order.once sequence.order.low sequence.order.all l low) sequence.order.once sequence.blocks sequence.labels

    in_table : wanted < slice_index s.numbers (counted (length s.ends))
    in_table =
        let ends : length s.ends ≡ length f.blocks = sequence.end_count in
        let end : counted (length s.ends) ≡ length f.blocks = omega (arith, ends, count) in
        let all : slice_index s.numbers (counted (length s.ends)) ≡ instructions_before f.blocks (length f.blocks) =
        ap (λ m. slice_index s.numbers m) end ∙ number_is g s f.blocks sequence.at few sequence.numbers (length f.blocks) (omega arith) in
        let grows = before_grows f.blocks l (length f.blocks) b block low (omega arith) in
        let inside = number_low g s f.blocks sequence.at few sequence.numbers l b block before more i x is target in
        omega (arith, all, grows, inside)

    by_among : WriterAmong g.storage (home_at g.storage x) place wanted (length (first_pieces g f is_main)) l s.labels (all_pieces g s.numbers sequence.standing) → TellsWriter l wanted place (home_at g.storage x)
    by_among w =
        let ahead : List PlacedPiece = first_pieces g f is_main ++ w.outer in
        let mine : List PlacedPiece = writer_pieces wanted place w.stops w.code in
        let back : List PlacedPiece = w.back ++ last_pieces g in
        let pieces : s.pieces ≡ ahead ++ ((w.inner ++ mine) ++ back) =
        sequence.pieces ∙ ap (λ q. (first_pieces g f is_main ++ q) ++ last_pieces g) w.is ∙ arranged (first_pieces g f is_main) w.outer w.inner mine w.back (last_pieces g) in
        let again : s.pieces ≡ (ahead ++ w.inner) ++ (mine ++ back) = pieces ∙ ap (λ q. ahead ++ q) (append_assoc w.inner mine back) ∙ sym (append_assoc ahead w.inner (mine ++ back)) in
        let ahead_count = length-append (first_pieces g f is_main) w.outer in
        let joint = length-append ahead w.inner in
        let total = ap (λ (q : List PlacedPiece). length q) pieces in
        let counts = length-append ahead ((w.inner ++ mine) ++ back) in
        let most : length s.pieces ≤ most_pieces = there.few in
        let begin : s.begin ≡ counted (length (first_pieces g f is_main)) = sequence.begin in
        let some : 1 ≤ length w.code = writing_some g.storage (home_at g.storage x) w.code w.writes in
        let others : AreOthers wanted back = all_append (λ (z : PlacedPiece). z.writes ≢ Some wanted) w.back (last_pieces g) w.other (others_by wanted 0 0 (last_pieces g) (inr (omega arith)) (last_untold g.storage g.entry (words_of_moving g.size) g.saved g.size)) in
        let inside : wanted < slice_index s.numbers (counted (length s.ends)) = in_table in
        let tab : List ℕ = replicate (slice_index s.numbers (counted (length s.ends))) 0 in
        let tab_count : length {A = ℕ} tab ≡ slice_index s.numbers (counted (length s.ends)) = length-replicate {A = ℕ} (slice_index s.numbers (counted (length s.ends))) 0 in
        let word : WordThere p owners s y first g.storage (home_at g.storage x) place (length ahead) (length ahead + length w.inner + length w.code - 1) =
        word_there p owners s y first firsts there g.storage (home_at g.storage x) wanted place ahead w.inner back w.code w.stops pieces w.writes in
        let told : slice_get table wanted ≡ Some (piece_address y first (length (ahead ++ w.inner) + length w.code - 1)) =
        told_there p owners s y first firsts there (λ k. nat_le s.begin k) wanted place tab (ahead ++ w.inner) back w.code w.stops again some (omega (arith, inside, tab_count))
        (le-leb s.begin (length (ahead ++ w.inner) + length w.code - 1) (omega (arith, begin, ahead_count, joint, some)))
        (λ t. others_keep y first (λ k. nat_le s.begin k) wanted (length (ahead ++ w.inner) + length mine) back t others) in
        let place_is : length (ahead ++ w.inner) + length w.code - 1 ≡ length ahead + length w.inner + length w.code - 1 = omega (arith, joint) in
        let label : slice_index s.labels l ≡ length ahead = w.start ∙ (omega (arith, ahead_count, total, counts, most)) in
        let offset : slice_index y.offsets (slice_index s.labels l) ≡ words_before y.reaches s.pieces (slice_index s.labels l) = there.layout.offsets (slice_index s.labels l) (omega (arith, label, total, counts)) in
        let at : words_before y.reaches s.pieces (slice_index s.labels l) ≡ words_before y.reaches s.pieces (length ahead) = ap (words_before y.reaches s.pieces) label in
        let within = word.within in
        record {
          index = word.index;
          within = omega (arith, offset, at, within);
          writes = word.writes;
          own = word.own;
          told = told ∙ ap (λ k. Some (piece_address y first k)) place_is ∙ ap (λ a. Some a) word.address;
        }
      where
        arranged : (a b c d e z : List PlacedPiece) → (a ++ ((b ++ c) ++ (d ++ e))) ++ z ≡ (a ++ b) ++ ((c ++ d) ++ (e ++ z))
        arranged a b c d e z =
            append_assoc a ((b ++ c) ++ (d ++ e)) z
            ∙ ap (λ l. a ++ l) (append_assoc (b ++ c) (d ++ e) z ∙ append_assoc b c ((d ++ e) ++ z) ∙ ap (λ l. b ++ l) (ap (λ l. c ++ l) (append_assoc d e z) ∙ sym (append_assoc c d (e ++ z))))
            ∙ sym (append_assoc a b ((c ++ d) ++ (e ++ z)))

    pub tells_writer : TellsWriter l wanted place (home_at g.storage x)
    tells_writer = by_among among

-- ---- All of them

module _ (h : HomedForm) (valid : IsValid h.unit) (homed : HaveHomes h) (e : EmittedForm) (emitted : IsEmittedOf h e) (short : length e.code ≤ most_words e.map) (words_in : AllByRecursion IsInWords h.unit.graphs) (countable : AreCountable h) where
  abbrev a : Arrangement
  a = arranged emitted.statics emitted.coded

  abbrev p : Program
  p = program_of e short

  has : HasCode h.unit.room p e.owners emitted.coded
  has = record { reach = emitted_in_reach h e emitted; words = emitted.words; own = emitted.owners; stops = ap (λ l. map (λ (x : PlacedStop). x.address) l) emitted.stops }

  few : length h.unit.graphs ≤ 4294967295
  few = let functions : length h.unit.graphs ≤ 256 = valid.functions in omega (arith, functions)

  module _ (f : ℕ) (low : f < length h.unit.graphs) (code : FunctionCode) (told : slice_get e.functions f ≡ Some code) where
    abbrev graph : Graph
    graph = graph_at h.unit f

    placed : Placed h emitted.statics p e.owners emitted.coded f graph
    placed = unit_placed h emitted.statics emitted.coded emitted.code p e.owners has few f graph (can_stand h valid homed emitted.statics emitted.addresses a refl words_in f low) (graph_there h.unit f low)

    abbrev first : ℕ
    first = slice_index emitted.coded.firsts f

    code_is : told_by first (parameters_in h.unit.graphs f) placed.laid ≡ code
    code_is =
        let count : length emitted.coded.all ≡ length h.unit.graphs = laid_count h emitted.statics 0 h.unit.graphs emitted.coded.all emitted.code.laid in
        let here : 0 + f ≡ f = omega arith in
        same_Some (told_by first (parameters_in h.unit.graphs f) placed.laid) code
        (sym (ap (λ l. slice_get l f) emitted.functions ∙ told_there_all count ∙ ap (λ j. Some (told_by (slice_index emitted.coded.firsts j) (parameters_in h.unit.graphs j) placed.laid)) here) ∙ told)
      where
        told_there_all : length emitted.coded.all ≡ length h.unit.graphs → slice_get (told_of_all h.unit.graphs emitted.coded.firsts 0 emitted.coded.all) f ≡ Some (told_by (slice_index emitted.coded.firsts (0 + f)) (parameters_in h.unit.graphs (0 + f)) placed.laid)
        told_there_all count = function_told h.unit.graphs emitted.coded.firsts emitted.coded.all 0 f placed.laid (omega (arith, few, count)) placed.there

    ground : Ground
    ground = ground_at h valid homed emitted.statics emitted.addresses a refl f

    writer : (l : ℕ) (b : Block) → slice_get graph.blocks l ≡ Some b → (before more : List Instruction) (i : Instruction) (x : ℕ) → b.instructions ≡ before ++ (i ∷ more) → target_of i ≡ Some x
        → IsToldWriter h a e code f l (instructions_before graph.blocks l + length before) (place_behind before b.place) (home_of h f x)
    writer l b block before more i x is target =
        let short_blocks : length graph.blocks ≤ 120000 = blocks_few h.unit valid f graph (graph_there h.unit f low) in
        let g : Ground = ground_at h valid homed emitted.statics emitted.addresses a refl f in
        let sequence : IsSequenceOf g graph (f == h.unit.main) placed.laid.sequence =
        subst (λ q. IsSequenceOf q graph (f == h.unit.main) placed.laid.sequence) (ground_is h valid homed emitted.statics emitted.addresses a refl f low (f == h.unit.main) placed.laid placed.is) (placed.is.sequence (omega (arith, short_blocks))) in
        let one : TellsWriter p e.owners g graph (f == h.unit.main) placed.laid.sequence placed.laid.layout first emitted.coded.firsts placed.code sequence (countable f graph (graph_there h.unit f low)) (omega (arith, short_blocks)) l (instructions_before graph.blocks l + length before) (place_or_none (place_behind before b.place)) (home_of h f x) =
        tells_writer p e.owners g graph (f == h.unit.main) placed.laid.sequence placed.laid.layout first emitted.coded.firsts placed.code sequence (countable f graph (graph_there h.unit f low)) (omega (arith, short_blocks)) l b block before more i x is target in
        record {
          writer = record {
            index = one.index;
            within = subst (λ (m : LaidForm). first + label_at m.sequence.labels m.layout.offsets l ≤ one.index) (laid_is emitted.coded f placed.laid placed.there) one.within;
            writes = one.writes;
            owner = one.own;
          };
          told = ap (λ (c : FunctionCode). slice_get c.writers (instructions_before graph.blocks l + length before)) (sym code_is) ∙ one.told;
        }

  -- The table of writers tells where they are.
  pub emitted_writers : (f : ℕ) (g : Graph) (code : FunctionCode) → slice_get h.unit.graphs f ≡ Some g → slice_get e.functions f ≡ Some code → (l : ℕ) (b : Block) → slice_get g.blocks l ≡ Some b → (before more : List Instruction) (i : Instruction) (x : ℕ)
      → b.instructions ≡ before ++ (i ∷ more) → target_of i ≡ Some x → IsToldWriter h a e code f l (instructions_before g.blocks l + length before) (place_behind before b.place) (home_of h f x)
  emitted_writers f g code is told l b block before more i x parts target =
      let low : f < length h.unit.graphs = slice_get_within h.unit.graphs f g is in
      let same : graph_at h.unit f ≡ g = graph_is h.unit f g is in
      subst (λ (q : Graph). IsToldWriter h a e code f l (instructions_before q.blocks l + length before) (place_behind before b.place) (home_of h f x)) same
      (writer f low code told l b (ap (λ (q : Graph). slice_get q.blocks l) same ∙ block) before more i x parts target)

pub tells_writers : (h : HomedForm) → IsValid h.unit → HaveHomes h → (e : EmittedForm) → (emitted : IsEmittedOf h e) → length e.code ≤ most_words e.map → AllByRecursion IsInWords h.unit.graphs → AreCountable h → TellWriters h (arranged emitted.statics emitted.coded) e
tells_writers h valid homed e emitted short words_in countable f g code is told l b block before more i x parts target = emitted_writers h valid homed e emitted short words_in countable f g code is told l b block before more i x parts target
