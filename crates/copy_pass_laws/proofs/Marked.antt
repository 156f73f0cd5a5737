-- What is alike to what is well marked is well marked.
use Rattle.std.proofs.Common.{◌≡◌, ◌≢◌, ◌⊎◌, inl, inr, ℕ, ◌<◌, ◌≤◌, true, false, Option, Some, List, [], ◌∷◌, ◌++◌, length, map, refl, sym, ap, ◌∙◌, subst}
use Rattle.std.specs.Prelude.{option_map, slice_get}
use Rattle.event_runs.specs.Agreement.{Pairs}
use Rattle.places.specs.Flow.{can_go, assigns}
use Rattle.graph_core.specs.Graphs.{Operand, Name, Of, Scalar, NoteValue, Is, Instruction, Marker, Note, Zero, CopyWords, End, Return, Block, Graph, Logged, UnitForm}
use Rattle.graph_core.specs.Uses.{reads_of, reads_of_end, targets_of}
use Rattle.graph_core.specs.Paths.{History, Among, Path, place_of, writes, is_call, called, is_bound, written, unnoted, owed}
use Rattle.graph_core.specs.Validity.{AreAllDifferent, IsValid, place_behind}
use Rattle.graph_core.specs.Bounds.{most_words}
use Rattle.graph_core.specs.WellMarked.{InPlace, ComesToMarker, IsVariable, IsLocal, WasTaken, WasSunk, WrittenIn, ArePaired, MayStand, ReadsAcross, moved, sunk, IsRightNote, IsWellMarked, AreWellMarked}
use Rattle.copy_pass_rule.specs.Alike.{IsReadFor, AreAlikeInstructions, AreAlikeBlocks, AreAlike}
use Rattle.copy_pass_rule.proofs.Lists.{among_left}
use Rattle.copy_pass_rule.proofs.Shapes.{same_computation, same_target, same_targets, same_behind}
use Rattle.copy_pass_laws.specs.Alike.{AreAlikeUnits}
use Rattle.copy_pass_laws.proofs.CopyMarksLists.{PairsAt, pairs_after, pairs_at, pairs_before, pairs_turned}
use Rattle.copy_pass_laws.proofs.Instructions.{alike_writes, alike_call, alike_return, alike_reads, alike_end_reads, only_marker, only_note, only_zero, only_copy, instructions_turned, read_turned, read_itself}
use Rattle.copy_pass_laws.proofs.Histories.{same_place, same_called, same_unnoted, same_owed, same_written}
use Rattle.copy_pass_laws.proofs.Ways.{path_to, path_to_same, path_to_end}
use Rattle.copy_pass_laws.proofs.Standing.{block_turned, blocks_turned, in_place_alike, written_alike, comes_alike}

-- What was removed by the log was removed by a longer one.
removed_still : (log added : List Logged) (p variable : ℕ) → WasTaken log p variable → WasTaken (log ++ added) p variable
removed_still log added p variable r = record { change = r.change; logged = among_left r.change log added r.logged; taken = r.taken; at = r.at; of = r.of }

-- What sank by the log sank by a longer one.
sunk_still : (log added : List Logged) (variable : ℕ) → WasSunk log variable → WasSunk (log ++ added) variable
sunk_still log added variable s = record { change = s.change; logged = among_left s.change log added s.logged; sunk = s.sunk; of = s.of }

-- A block that is alike to one that begins with a marker does so.
begins_alike : (scalars entry other : ℕ) → other ≡ entry → (all rest : List Instruction) → Pairs (AreAlikeInstructions (IsReadFor scalars)) all (Marker entry ∷ rest) → (more : List Instruction) × (all ≡ Marker other ∷ more)
begins_alike scalars entry other e [] rest alike = absurd alike
begins_alike scalars entry other e (j ∷ more) rest alike = (more, ap (λ i. i ∷ more) (only_marker (IsReadFor scalars) j (instructions_turned (IsReadFor scalars) (read_turned scalars) j (Marker entry) alike.0) ∙ ap Marker (sym e)))

module _ (u v : UnitForm) (g h : Graph) (alike : AreAlike g h) (old : IsWellMarked u g) where
  -- what is read for a name
  abbrev Reads : (x read : ℕ) → Type 0
  Reads = IsReadFor (length g.scalars)

  -- The entry is the same.
  entry : h.entry ≡ g.entry
  entry = ap (λ (k : Graph). k.entry) alike.rest

  -- The parameters are the same.
  parameters : h.parameters ≡ g.parameters
  parameters = ap (λ (k : Graph). k.parameters) alike.rest

  -- The scalars are the same.
  scalars : h.scalars ≡ g.scalars
  scalars = ap (λ (k : Graph). k.scalars) alike.rest

  -- The first temporary that code motion made is the same.
  first_moved : h.first_moved ≡ g.first_moved
  first_moved = ap (λ (k : Graph). k.first_moved) alike.rest

  -- The blocks of the first graph are alike to those of the second.
  back : Pairs (AreAlikeBlocks Reads) h.blocks g.blocks
  back = blocks_turned Reads (read_turned (length g.scalars)) g.blocks h.blocks alike.blocks

  -- The block of a number is alike.
  block_back : (n : ℕ) (c : Block) → slice_get h.blocks n ≡ Some c → (b : Block) × (slice_get g.blocks n ≡ Some b) × AreAlikeBlocks Reads c b
  block_back n c at = pairs_after (AreAlikeBlocks Reads) h.blocks g.blocks back n c at

  -- A scalar has the same variable.
  variable_back : (x variable : ℕ) → IsVariable h x variable → IsVariable g x variable
  variable_back x variable is = subst (λ ss. option_map (λ (s : Scalar). s.variable) (slice_get ss x) ≡ Some variable) scalars is

  -- The same temporaries are local.
  local_back : (t : ℕ) → IsLocal h t → IsLocal g t
  local_back t is = record { temporary = subst (λ ss. length ss ≤ t) scalars is.temporary; not_moved = subst (λ k. t < k) first_moved is.not_moved }

  -- What the second graph writes in a place the first one writes there.
  written_back : (p x : ℕ) → WrittenIn h p x → WrittenIn g p x
  written_back p x w = written_alike Reads h g back (sym entry) (sym parameters) p x w

  -- What the first graph writes in a place the second one writes there.
  written_still : (p x : ℕ) → WrittenIn g p x → WrittenIn h p x
  written_still p x w = written_alike Reads g h alike.blocks entry parameters p x w

  -- ---- Blocks

  -- It begins with the marker of its entry.
  begins : (c : Block) → slice_get h.blocks 0 ≡ Some c → (rest : List Instruction) × (c.instructions ≡ Marker h.entry ∷ rest)
  begins c at =
      let b = block_back 0 c at in
      let first = old.begins b.0 b.1 in
      begins_alike (length g.scalars) g.entry h.entry entry c.instructions first.0 (subst (λ all. Pairs (AreAlikeInstructions Reads) c.instructions all) first.1 b.2.instructions)

  -- No edge leads back there.
  first : (n : ℕ) (c : Block) → slice_get h.blocks n ≡ Some c → Among 0 (targets_of c.end) → ⊥
  first n c at among = let b = block_back n c at in old.first n b.0 b.1 (subst (λ ls. Among 0 ls) (sym (same_targets Reads c.end b.0.end b.2.end)) among)

  -- Each cycle has a marker.
  cycles : (n : ℕ) (c : Block) → slice_get h.blocks n ≡ Some c → ComesToMarker h c.instructions c.end
  cycles n c at =
      let b = block_back n c at in
      let on = block_turned Reads (read_turned (length g.scalars)) c b.0 b.2 in
      comes_alike Reads g h alike.blocks (read_turned (length g.scalars)) (old.cycles n b.0 b.1) c.instructions c.end on.instructions on.end

  -- ---- Places

  -- The place of the entry has no call.
  entry_calls : (i : Instruction) → InPlace h h.entry i → is_call i ≡ false
  entry_calls i at =
      let s = in_place_alike Reads h g back h.entry i at in
      sym (alike_call Reads s.alike) ∙ old.entry_calls s.other (subst (λ p. InPlace g p s.other) entry s.stands)

  -- Words that are set are few.
  zeroes : (p object words : ℕ) → InPlace h p (Zero object words) → words ≤ most_words
  zeroes p object words at =
      let s = in_place_alike Reads h g back p (Zero object words) at in
      old.zeroes p object words (subst (λ i. InPlace g p i) (only_zero Reads s.other s.alike) s.stands)

  -- Words that are copied are few.
  copies : (p object bytes words : ℕ) → InPlace h p (CopyWords object bytes words) → words ≤ most_words
  copies p object bytes words at =
      let s = in_place_alike Reads h g back p (CopyWords object bytes words) at in
      old.copies p object bytes words (subst (λ i. InPlace g p i) (only_copy Reads s.other s.alike) s.stands)

  -- ---- Pairs of a write and its note

  -- The own note of a scalar.
  abbrev own : (x : ℕ) → Instruction
  own x = Note x (Is (Of (Name x)))

  module _ (p x : ℕ) (pairs : ArePaired g p x) where
    -- Of the parts of a block after, what is alike in the block before.
    parts_back : (n : ℕ) (c : Block) (before rest : List Instruction) (i : Instruction) → slice_get h.blocks n ≡ Some c → c.instructions ≡ before ++ i ∷ rest
        → (b : Block) × (slice_get g.blocks n ≡ Some b) × (c.place ≡ b.place) × PairsAt (AreAlikeInstructions Reads) b.instructions before i rest
    parts_back n c before rest i at parts =
        let b = block_back n c at in
        let turned = block_turned Reads (read_turned (length g.scalars)) c b.0 b.2 in (
          b.0,
          b.1,
          turned.place,
          pairs_at (AreAlikeInstructions Reads) b.0.instructions before i rest (subst (λ l. Pairs (AreAlikeInstructions Reads) b.0.instructions l) parts turned.instructions),
        )

    -- What is alike is so the other way round.
    turned_back : (all others : List Instruction) → Pairs (AreAlikeInstructions Reads) all others → Pairs (AreAlikeInstructions Reads) others all
    turned_back all others = pairs_turned (AreAlikeInstructions Reads) (instructions_turned Reads (read_turned (length g.scalars))) all others

    -- What is alike to the own note and more begins with the own note.
    own_first : (more js : List Instruction) → Pairs (AreAlikeInstructions Reads) (own x ∷ more) js → (later : List Instruction) × (js ≡ own x ∷ later)
    own_first more [] none = absurd none
    own_first more (j ∷ js) both = (js, ap (λ k. k ∷ js) (only_note Reads j both.0))

    -- What is alike to what ends with a write ends with one.
    write_last : (front others : List Instruction) (i : Instruction) → Pairs (AreAlikeInstructions Reads) (front ++ i ∷ []) others → writes x i ≡ true
        → (before : List Instruction) × (j : Instruction) × (others ≡ before ++ j ∷ []) × (writes x j ≡ true)
    write_last [] [] i none it = absurd none
    write_last [] (j ∷ []) i both it = ([], j, refl, alike_writes Reads x both.0 ∙ it)
    write_last [] (j ∷ k ∷ others) i both it = absurd both.1
    write_last (f ∷ front) [] i none it = absurd none
    write_last (f ∷ front) (j ∷ others) i both it = (let later = write_last front others i both.1 it in (j ∷ later.0, later.1, ap (λ l. j ∷ l) later.2, later.3))

    -- The own note stands directly behind each write.
    noted_still : (n : ℕ) (c : Block) (before rest : List Instruction) (i : Instruction) → slice_get h.blocks n ≡ Some c → c.instructions ≡ before ++ i ∷ rest → place_behind before c.place ≡ Some p → writes x i ≡ true
        → (more : List Instruction) × (rest ≡ own x ∷ more)
    noted_still n c before rest i at parts place it =
        let b = parts_back n c before rest i at parts in
        let s = b.3 in
        let there : place_behind s.before b.0.place ≡ Some p = ap (place_behind s.before) (sym b.2) ∙ sym (same_behind Reads s.before before s.in_front c.place) ∙ place in
        let note = pairs.noted n b.0 s.before s.behind_it s.it b.1 s.is there (sym (alike_writes Reads x s.alike) ∙ it) in
        own_first note.0 rest (subst (λ l. Pairs (AreAlikeInstructions Reads) l rest) note.1 s.rest)

    -- A note is the own note, and stands directly behind a write.
    written_still_there : (n : ℕ) (c : Block) (before rest : List Instruction) (value : NoteValue) → slice_get h.blocks n ≡ Some c → c.instructions ≡ before ++ Note x value ∷ rest → place_behind before c.place ≡ Some p
        → (value ≡ Is (Of (Name x))) × (front : List Instruction) × (i : Instruction) × (before ≡ front ++ i ∷ []) × (writes x i ≡ true)
    written_still_there n c before rest value at parts place =
        let b = parts_back n c before rest (Note x value) at parts in
        let s = b.3 in
        let there : place_behind s.before b.0.place ≡ Some p = ap (place_behind s.before) (sym b.2) ∙ sym (same_behind Reads s.before before s.in_front c.place) ∙ place in
        let one : s.it ≡ Note x value = only_note Reads s.it (instructions_turned Reads (read_turned (length g.scalars)) s.it (Note x value) s.alike) in
        let pair = pairs.written n b.0 s.before s.behind_it value b.1 (s.is ∙ ap (λ i. s.before ++ i ∷ s.behind_it) one) there in
        let write = write_last pair.1 before pair.2 (subst (λ l. Pairs (AreAlikeInstructions Reads) l before) pair.3 s.in_front) pair.4 in
        (pair.0, write.0, write.1, write.2, write.3)

    -- What writes and notes in pairs does so still.
    paired_still : ArePaired h p x
    paired_still = record { noted = noted_still; written = written_still_there; unbound = λ is. ap (λ ps. is_bound x ps) parameters ∙ pairs.unbound (is ∙ entry) }

  module _ (assignments : v.assignments ≡ u.assignments) (added : List Logged) (log : v.log ≡ u.log ++ added) where
    -- Where a scalar may be written and noted it may be still.
    may_still : (p x variable : ℕ) → MayStand u g p x variable → MayStand v h p x variable
    may_still p x variable (inl assigned) = inl (ap (λ all. assigns all p variable) assignments ∙ assigned)
    may_still p x variable (inr paired) = inr (subst (λ l. WasSunk l variable) (sym log) (sunk_still u.log added variable paired.0), paired_still p x paired.1)

    -- Scalars are written where they may.
    written_where : (p x variable : ℕ) → IsVariable h x variable → WrittenIn h p x → MayStand v h p x variable
    written_where p x variable is w = may_still p x variable (old.written_where p x variable (variable_back x variable is) (written_back p x w))

    -- They are noted there.
    noted_where : (p x variable : ℕ) (value : NoteValue) → IsVariable h x variable → InPlace h p (Note x value) → MayStand v h p x variable
    noted_where p x variable value is at =
        let s = in_place_alike Reads h g back p (Note x value) at in
        may_still p x variable (old.noted_where p x variable value (variable_back x variable is) (subst (λ i. InPlace g p i) (only_note Reads s.other s.alike) s.stands))

  -- No variable has two scalars.
  variables : AreAllDifferent (map (λ (s : Scalar). s.variable) h.scalars)
  variables = subst (λ ss. AreAllDifferent (map (λ (s : Scalar). s.variable) ss)) (sym scalars) old.variables

  -- ---- Paths

  -- Markers follow one another as the program flows.
  flows : v.steps ≡ u.steps → (hist : History) (n : ℕ) (p q : ℕ) (rest : List Instruction) (e : End) → Path h hist n (Marker q ∷ rest) e → place_of hist ≡ Some p → can_go v.steps p q ≡ true
  flows steps hist n p q rest e way place =
      let c = path_to_same Reads h g back hist n (Marker q) rest e (only_marker Reads) way in
      ap (λ all. can_go all p q) steps ∙ old.flows c.history n p q c.left c.last c.way (same_place Reads hist c.history c.passed ∙ place)

  -- Each path to an end has another marker than that of the entry.
  leaves : (hist : History) (n : ℕ) (a : Option Operand) → Path h hist n [] (Return a) → place_of hist ≢ Some h.entry
  leaves hist n a way place =
      let c = path_to_end Reads h g back hist n (Return a) way in
      let r = alike_return Reads c.alike in
      old.leaves c.history n r.0 (subst (λ e. Path g c.history n [] e) r.1 c.way) (same_place Reads hist c.history c.passed ∙ place ∙ ap Some entry)

  -- No call of its place precedes words that are set.
  zeroes_first : (hist : History) (n : ℕ) (object words : ℕ) (rest : List Instruction) (e : End) → Path h hist n (Zero object words ∷ rest) e → called hist ≡ false
  zeroes_first hist n object words rest e way =
      let c = path_to_same Reads h g back hist n (Zero object words) rest e (only_zero Reads) way in
      sym (same_called Reads hist c.history c.passed) ∙ old.zeroes_first c.history n object words c.left c.last c.way

  -- No call of its place precedes words that are copied.
  copies_first : (hist : History) (n : ℕ) (object bytes words : ℕ) (rest : List Instruction) (e : End) → Path h hist n (CopyWords object bytes words ∷ rest) e → called hist ≡ false
  copies_first hist n object bytes words rest e way =
      let c = path_to_same Reads h g back hist n (CopyWords object bytes words) rest e (only_copy Reads) way in
      sym (same_called Reads hist c.history c.passed) ∙ old.copies_first c.history n object bytes words c.left c.last c.way

  -- What is owed is noted by the next marker.
  noted : v.assignments ≡ u.assignments → (hist : History) (n : ℕ) (p x variable : ℕ) (rest : List Instruction) (e : End) → IsVariable h x variable → Path h hist n (Marker p ∷ rest) e
      → owed (λ q. assigns v.assignments q variable) x hist ≡ false
  noted assignments hist n p x variable rest e is way =
      let c = path_to_same Reads h g back hist n (Marker p) rest e (only_marker Reads) way in
      ap (λ all. owed (λ q. assigns all q variable) x hist) assignments
      ∙ sym (same_owed Reads x (λ q. assigns u.assignments q variable) hist c.history c.passed)
      ∙ old.noted c.history n p x variable c.left c.last (variable_back x variable is) c.way

  -- A note of the scalar itself stands behind a write of it.
  behind_write : (hist : History) (n : ℕ) (x : ℕ) (rest : List Instruction) (e : End) → Path h hist n (Note x (Is (Of (Name x))) ∷ rest) e → written h x hist ≡ true
  behind_write hist n x rest e way =
      let c = path_to_same Reads h g back hist n (Note x (Is (Of (Name x)))) rest e (only_note Reads) way in
      sym (same_written Reads x h g (sym entry) (sym parameters) hist c.history c.passed) ∙ old.behind_write c.history n x c.left c.last c.way

  -- No call stands between a write of a scalar and its note.
  calls : (hist : History) (n : ℕ) (i : Instruction) (x variable : ℕ) (rest : List Instruction) (e : End) → IsVariable h x variable → Path h hist n (i ∷ rest) e → is_call i ≡ true → unnoted x hist ≡ false
  calls hist n i x variable rest e is way call =
      let c = path_to Reads h g back hist n i rest e way in
      sym (same_unnoted Reads x hist c.history c.passed)
      ∙ old.calls c.history n c.next x variable c.left c.last (variable_back x variable is) c.way (alike_call Reads c.alike ∙ call)

  -- What may read across places may do so still.
  across_still : v.assignments ≡ u.assignments → (hist history : History) (i j : Instruction) → AreAlikeInstructions Reads i j → place_of history ≡ place_of hist → ReadsAcross u g history j → ReadsAcross v h hist i
  across_still assignments hist history i j one place (moved t target made computes) = moved t (sym (same_target Reads i j one) ∙ target) (subst (λ k. k ≤ t) (sym first_moved) made) (sym (same_computation Reads i j one) ∙ computes)
  across_still assignments hist history i j one place (sunk x variable p target of at unassigned) =
      sunk x variable p (sym (same_target Reads i j one) ∙ target) (subst (λ ss. option_map (λ (s : Scalar). s.variable) (slice_get ss x) ≡ Some variable) (sym scalars) of)
      (sym place ∙ at) (ap (λ all. assigns all p variable) assignments ∙ unassigned)

  -- A local temporary is read only behind a write of it in the same place, but by what may read across places.
  local : v.assignments ≡ u.assignments → (hist : History) (n : ℕ) (i : Instruction) (t : ℕ) (rest : List Instruction) (e : End) → IsLocal h t → Path h hist n (i ∷ rest) e → Among t (reads_of i)
      → (written h t hist ≡ true) ⊎ ReadsAcross v h hist i
  local assignments hist n i t rest e is way among =
      let c = path_to Reads h g back hist n i rest e way in
      let of = local_back t is in
      elim (old.local c.history n c.next t c.left c.last of c.way (alike_reads Reads t (read_itself (length g.scalars) t of.temporary) c.alike among)) [
        | inl it ↦ inl (sym (same_written Reads t h g (sym entry) (sym parameters) hist c.history c.passed) ∙ it)
        | inr across ↦ inr (across_still assignments hist c.history i c.next c.alike (same_place Reads hist c.history c.passed) across)
      ]

  -- So it is at the ends of blocks.
  local_at_end : (hist : History) (n : ℕ) (t : ℕ) (e : End) → IsLocal h t → Path h hist n [] e → Among t (reads_of_end e) → written h t hist ≡ true
  local_at_end hist n t e is way among =
      let c = path_to_end Reads h g back hist n e way in
      let of = local_back t is in
      sym (same_written Reads t h g (sym entry) (sym parameters) hist c.history c.passed)
      ∙ old.local_at_end c.history n t c.last of c.way (alike_end_reads Reads t (read_itself (length g.scalars) t of.temporary) c.alike among)

  module _ (added : List Logged) (log : v.log ≡ u.log ++ added) where
    -- A note that is right in the first graph is right in the second one.
    right_still : (p x variable : ℕ) (value : NoteValue) → IsRightNote u g p x variable value → IsRightNote v h p x variable value
    right_still p x variable value (inl own) = inl (own.0, written_still p x own.1)
    right_still p x variable value (inr gone) =
        inr (gone.0, λ w. gone.1 (written_back p x w), subst (λ all. WasTaken all p variable) (sym log) (removed_still u.log added p variable gone.2))

    -- Each note that a path comes to is right.
    right : (hist : History) (n : ℕ) (p x variable : ℕ) (value : NoteValue) (rest : List Instruction) (e : End) → IsVariable h x variable → Path h hist n (Note x value ∷ rest) e → place_of hist ≡ Some p → IsRightNote v h p x variable value
    right hist n p x variable value rest e is way place =
        let c = path_to_same Reads h g back hist n (Note x value) rest e (only_note Reads) way in
        right_still p x variable value
        (old.right c.history n p x variable value c.left c.last (variable_back x variable is) c.way (same_place Reads hist c.history c.passed ∙ place))

  -- A graph that is alike to a well marked one is well marked, in a unit that shares the same and whose log is longer.
  pub graph_marked : v.steps ≡ u.steps → v.assignments ≡ u.assignments → (added : List Logged) → v.log ≡ u.log ++ added → IsWellMarked v h
  graph_marked steps assignments added log = record {
    begins = begins;
    first = first;
    flows = flows steps;
    cycles = cycles;
    entry_calls = entry_calls;
    leaves = leaves;
    zeroes = zeroes;
    copies = copies;
    zeroes_first = zeroes_first;
    copies_first = copies_first;
    variables = variables;
    written_where = written_where assignments added log;
    noted_where = noted_where assignments added log;
    noted = noted assignments;
    right = right added log;
    behind_write = behind_write;
    calls = calls;
    local = local assignments;
    local_at_end = local_at_end;
  }

-- THE MARKS STAY. A valid unit that is alike to a well marked one is well marked.
pub units_marked : (u v : UnitForm) → AreAlikeUnits u v → IsValid v → AreWellMarked u → AreWellMarked v
units_marked u v alike valid old = record {
  valid = valid;
  graphs = λ f h at.
      (let g = pairs_before AreAlike u.graphs v.graphs alike.functions f h at in
      graph_marked u v g.0 h g.2 (old.graphs f g.0 g.1) alike.shared.steps alike.shared.assignments alike.added alike.log);
}
