-- What is made of a well marked graph is well marked.
use Rattle.std.proofs.Common.{◌≡◌, ◌≢◌, inl, inr, ℕ, zero, suc, ◌<◌, ◌≤◌, true, false, true≢false, Option, Some, List, [], ◌∷◌, ◌++◌, length, refl, sym, ap, ◌∙◌, subst, arith}
use Rattle.std.specs.Prelude.{◌⊎◌, map, option_map, slice_get}
use Rattle.std.specs.List.{AllByRecursion}
use Rattle.std.proofs.lemmas.Option.{none-some, same_Some}
use Rattle.places.specs.Flow.{can_go, assigns}
use Rattle.graph_core.specs.Graphs.{Operand, Name, Of, Scalar, NoteValue, Is, Instruction, Marker, Note, Zero, CopyWords, End, Return, Block, Graph, Logged, UnitForm}
use Rattle.graph_core.specs.Uses.{reads_of, reads_of_end, targets_of}
use Rattle.graph_core.specs.Paths.{History, Among, Path, place_of, is_call, called, written, unnoted, owed}
use Rattle.graph_core.specs.Validity.{AreAllDifferent, IsGraph}
use Rattle.graph_core.specs.Computations.{Computation}
use Rattle.graph_core.specs.Bounds.{most_words}
use Rattle.graph_core.specs.WellMarked.{InPlace, ComesToMarker, IsVariable, IsLocal, WasTaken, WasSunk, WrittenIn, MayStand, ReadsAcross, moved, sunk, IsRightNote, IsWellMarked}
use Rattle.motion_pass_laws.proofs.Carried.{valid_at}
use Rattle.motion_pass_laws.specs.Made.{StaysOrReads, IsDoing, IsNew, PassedSo, AreLeft, IsAfter, of_block, of_edge, IsMade, IsLedTo, directly, by_own}
use Rattle.motion_pass_laws.proofs.Lists.{among_left}
use Rattle.motion_pass_laws.proofs.Doings.{no_new_marker, no_new_note, no_new_zero, no_new_copy, new_call, new_target, new_computation, same_call, same_reads, same_target, same_computation, only_marker, only_note, only_zero, only_copy}
use Rattle.motion_pass_laws.proofs.Histories.{same_place, same_called, same_unnoted, same_owed, same_written}
use Rattle.motion_pass_laws.proofs.Ways.{leads_inside, ComesTo, to_old, to_new, path_to, path_to_same, path_to_end, path_come}
use Rattle.motion_pass_laws.proofs.Standing.{WasInPlace, was_in, was_none, was_in_place, written_before, written_after, before_end, comes_after, first_stays, left_ends}
use Rattle.motion_pass_laws.proofs.Pairing.{paired_after}

-- What was removed by the log was removed by a longer one.
removed_still : (log added : List Logged) (p variable : ℕ) → WasTaken log p variable → WasTaken (log ++ added) p variable
removed_still log added p variable r = record { change = r.change; logged = among_left r.change log added r.logged; taken = r.taken; at = r.at; of = r.of }

-- What sank by the log sank by a longer one.
sunk_still : (log added : List Logged) (variable : ℕ) → WasSunk log variable → WasSunk (log ++ added) variable
sunk_still log added variable s = record { change = s.change; logged = among_left s.change log added s.logged; sunk = s.sunk; of = s.of }

-- A number that has an element is below their count.
number_inside : {A : Type 0} (f : A → ℕ) (xs : List A) (n value : ℕ) → option_map f (slice_get xs n) ≡ Some value → n < length xs
number_inside f [] n value at = absurd (none-some value at)
number_inside f (x ∷ xs) zero value at = omega (arith)
number_inside f (x ∷ xs) (suc n) value at = (let less = number_inside f xs n value at in omega (arith, less))

module _ (u v : UnitForm) (g h : Graph) (valid : IsGraph u g) (made : IsMade g h) (old : IsWellMarked u g) where
  -- A scalar has the same variable.
  variable_back : (x variable : ℕ) → IsVariable h x variable → IsVariable g x variable
  variable_back x variable is = subst (λ ss. option_map (λ (s : Scalar). s.variable) (slice_get ss x) ≡ Some variable) made.scalars is

  -- The number of a scalar is a name of the graph before.
  note_name : (x : ℕ) → x < length g.scalars → x < g.name_count
  note_name x less = (let most = valid.scalars in let more = valid.temporaries in omega (arith, less, most, more))

  -- A scalar is a name of the graph before.
  scalar_name : (x variable : ℕ) → IsVariable g x variable → x < g.name_count
  scalar_name x variable is = note_name x (number_inside (λ (s : Scalar). s.variable) g.scalars x variable is)

  -- The same temporaries are local.
  local_back : (t : ℕ) → IsLocal h t → IsLocal g t
  local_back t is = record { temporary = subst (λ ss. length ss ≤ t) made.scalars is.temporary; not_moved = subst (λ k. t < k) made.first_moved is.not_moved }

  -- A local temporary is a name of the graph before.
  local_name : (t : ℕ) → IsLocal g t → t < g.name_count
  local_name t is = (let less = is.not_moved in let more = valid.temporaries in omega (arith, less, more))

  -- ---- Blocks

  -- the block before of the number of the first block
  first_before : (n : ℕ) (b : Block) → slice_get g.blocks n ≡ Some b → (c : Block) × (slice_get g.blocks 0 ≡ Some c)
  first_before n b at = by_list g.blocks at
    where
      by_list : (bs : List Block) → slice_get bs n ≡ Some b → (c : Block) × (slice_get bs 0 ≡ Some c)
      by_list [] there = absurd (none-some b there)
      by_list (c ∷ bs) there = (c, refl)

  -- Some block was there before.
  some_before : (n : ℕ) (c : Block) → slice_get h.blocks n ≡ Some c → (b : Block) × (slice_get g.blocks 0 ≡ Some b)
  some_before n c there = by_block (made.back n c there)
    where
      by_block : IsAfter g h n c → (b : Block) × (slice_get g.blocks 0 ≡ Some b)
      by_block (of_block b at of) = first_before n b at
      by_block (of_edge m b at are) = first_before m b at

  -- It begins with the marker of its entry.
  begins : (c : Block) → slice_get h.blocks 0 ≡ Some c → (rest : List Instruction) × (c.instructions ≡ Marker h.entry ∷ rest)
  begins c there =
      let b = some_before 0 c there in
      let d = made.block 0 b.0 b.1 in
      let of = old.begins b.0 b.1 in
      let left : AreLeft g h 0 b.0.end c.end (Marker g.entry ∷ of.0) c.instructions = subst (λ xs. AreLeft g h 0 b.0.end c.end xs c.instructions) of.1 (subst (λ (k : Block). AreLeft g h 0 b.0.end k.end b.0.instructions k.instructions) (same_Some d.0 c (sym d.1 ∙ there)) d.2.left) in
      let begin = first_stays g h 0 b.0.end c.end g.entry of.0 c.instructions left in
      (begin.0, begin.1 ∙ ap (λ p. Marker p ∷ begin.0) (sym made.entry))

  -- No edge leads back there.
  first : (n : ℕ) (c : Block) → slice_get h.blocks n ≡ Some c → Among 0 (targets_of c.end) → ⊥
  first n c there among = by_block (made.back n c there)
    where
      by_edge : (m : ℕ) (b : Block) → slice_get g.blocks m ≡ Some b → IsLedTo g h m b.end 0 → ⊥
      by_edge m b at (directly to) = old.first m b at to
      by_edge m b at (by_own d to stands all leads jumps) =
          let begin = begins d stands in
          let new : IsNew g m [] b.end (Marker h.entry) = (subst (λ xs. AllByRecursion (IsNew g m [] b.end) xs) begin.1 all).0 in
          no_new_marker g new.does

      by_block : IsAfter g h n c → ⊥
      by_block (of_block b at of) = by_edge n b at ((left_ends g h n b.end c.end of.left).targets 0 among)
      by_block (of_edge m b at are) = by_edge m b at ((left_ends g h m b.end c.end are).targets 0 among)

  -- Each cycle has a marker.
  cycles : (n : ℕ) (c : Block) → slice_get h.blocks n ≡ Some c → ComesToMarker h c.instructions c.end
  cycles n c there = by_block (made.back n c there)
    where
      by_block : IsAfter g h n c → ComesToMarker h c.instructions c.end
      by_block (of_block b at of) = comes_after g h made u valid (old.cycles n b at) (leads_inside u g valid n b at) n c.end c.instructions of.left
      by_block (of_edge m b at are) =
          before_end g h made b.end (leads_inside u g valid m b at) (λ l d among stands. comes_after g h made u valid (old.cycles l d stands) (leads_inside u g valid l d stands)) m c.end c.instructions are

  -- ---- Places

  -- The place of the entry has no call.
  entry_calls : (i : Instruction) → InPlace h h.entry i → is_call i ≡ false
  entry_calls i at = by_place (was_in_place g h made h.entry i at)
    where
      by_place : WasInPlace g h made h.entry i → is_call i ≡ false
      by_place (was_in k same stands) = same_call g same ∙ old.entry_calls k (subst (λ p. InPlace g p k) made.entry stands)
      by_place (was_none e new) = new_call g e i new

  -- Words that are set are few.
  zeroes : (p object words : ℕ) → InPlace h p (Zero object words) → words ≤ most_words
  zeroes p object words at = by_place (was_in_place g h made p (Zero object words) at)
    where
      by_place : WasInPlace g h made p (Zero object words) → words ≤ most_words
      by_place (was_in k same stands) = old.zeroes p object words (subst (λ i. InPlace g p i) (only_zero g k same) stands)
      by_place (was_none e new) = absurd (no_new_zero g new)

  -- Words that are copied are few.
  copies : (p object bytes words : ℕ) → InPlace h p (CopyWords object bytes words) → words ≤ most_words
  copies p object bytes words at = by_place (was_in_place g h made p (CopyWords object bytes words) at)
    where
      by_place : WasInPlace g h made p (CopyWords object bytes words) → words ≤ most_words
      by_place (was_in k same stands) = old.copies p object bytes words (subst (λ i. InPlace g p i) (only_copy g k same) stands)
      by_place (was_none e new) = absurd (no_new_copy g new)

  -- No variable has two scalars.
  variables : AreAllDifferent (map (λ (s : Scalar). s.variable) h.scalars)
  variables = subst (λ ss. AreAllDifferent (map (λ (s : Scalar). s.variable) ss)) (sym made.scalars) old.variables

  module _ (assignments : v.assignments ≡ u.assignments) (added : List Logged) (log : v.log ≡ u.log ++ added) where
    -- A scalar may be written and noted where it might be before.
    may_stand : (p x variable : ℕ) → IsVariable g x variable → MayStand u g p x variable → MayStand v h p x variable
    may_stand p x variable is (inl assigned) = inl (ap (λ all. assigns all p variable) assignments ∙ assigned)
    may_stand p x variable is (inr pairs) = inr (subst (λ all. WasSunk all variable) (sym log) (sunk_still u.log added variable pairs.0), paired_after g h made p x (scalar_name x variable is) pairs.1)

    -- Scalars are written where they may be.
    written_where : (p x variable : ℕ) → IsVariable h x variable → WrittenIn h p x → MayStand v h p x variable
    written_where p x variable is w =
        let of = variable_back x variable is in
        may_stand p x variable of (old.written_where p x variable of (written_before g h made p x (scalar_name x variable of) w))

    -- They are noted there.
    noted_where : (p x variable : ℕ) (value : NoteValue) → IsVariable h x variable → InPlace h p (Note x value) → MayStand v h p x variable
    noted_where p x variable value is at = by_place (was_in_place g h made p (Note x value) at)
      where
        of : IsVariable g x variable
        of = variable_back x variable is

        by_place : WasInPlace g h made p (Note x value) → MayStand v h p x variable
        by_place (was_in k same stands) = may_stand p x variable of (old.noted_where p x variable value of (subst (λ i. InPlace g p i) (only_note g k same) stands))
        by_place (was_none e new) = absurd (no_new_note g new)

  -- ---- Paths

  -- Markers follow one another as the program flows.
  flows : v.steps ≡ u.steps → (hist : History) (n : ℕ) (p q : ℕ) (rest : List Instruction) (e : End) → Path h hist n (Marker q ∷ rest) e → place_of hist ≡ Some p → can_go v.steps p q ≡ true
  flows steps hist n p q rest e way place =
      let c = path_to_same u g h valid made (only_marker g) (λ d new. no_new_marker g new) way in
      ap (λ all. can_go all p q) steps ∙ old.flows c.before c.number p q c.rest c.end c.way (sym (same_place g c.passed) ∙ place)

  -- Each path to an end has another marker than that of the entry.
  leaves : (hist : History) (n : ℕ) (a : Option Operand) → Path h hist n [] (Return a) → place_of hist ≢ Some h.entry
  leaves hist n a way place =
      let c = path_to_end u g h valid made way in
      old.leaves c.before c.number a (subst (λ e. Path g c.before c.number [] e) (c.ends.returns a refl) c.way) (sym (same_place g c.passed) ∙ place ∙ ap Some made.entry)

  -- No call of its place precedes words that are set.
  zeroes_first : (hist : History) (n : ℕ) (object words : ℕ) (rest : List Instruction) (e : End) → Path h hist n (Zero object words ∷ rest) e → called hist ≡ false
  zeroes_first hist n object words rest e way =
      let c = path_to_same u g h valid made (only_zero g) (λ d new. no_new_zero g new) way in
      same_called g c.passed ∙ old.zeroes_first c.before c.number object words c.rest c.end c.way

  -- No call of its place precedes words that are copied.
  copies_first : (hist : History) (n : ℕ) (object bytes words : ℕ) (rest : List Instruction) (e : End) → Path h hist n (CopyWords object bytes words ∷ rest) e → called hist ≡ false
  copies_first hist n object bytes words rest e way =
      let c = path_to_same u g h valid made (only_copy g) (λ d new. no_new_copy g new) way in
      same_called g c.passed ∙ old.copies_first c.before c.number object bytes words c.rest c.end c.way

  -- What is owed is noted by the next marker.
  noted : v.assignments ≡ u.assignments → (hist : History) (n : ℕ) (p x variable : ℕ) (rest : List Instruction) (e : End) → IsVariable h x variable → Path h hist n (Marker p ∷ rest) e
      → owed (λ q. assigns v.assignments q variable) x hist ≡ false
  noted assignments hist n p x variable rest e is way =
      let c = path_to_same u g h valid made (only_marker g) (λ d new. no_new_marker g new) way in
      let of = variable_back x variable is in
      ap (λ all. owed (λ q. assigns all q variable) x hist) assignments
      ∙ same_owed g x (scalar_name x variable of) (λ q. assigns u.assignments q variable) c.passed
      ∙ old.noted c.before c.number p x variable c.rest c.end of c.way

  -- No call stands between a write of a scalar and its note.
  calls : (hist : History) (n : ℕ) (i : Instruction) (x variable : ℕ) (rest : List Instruction) (e : End) → IsVariable h x variable → Path h hist n (i ∷ rest) e → is_call i ≡ true → unnoted x hist ≡ false
  calls hist n i x variable rest e is way call = by_kind (path_to u g h valid made way)
    where
      of : IsVariable g x variable
      of = variable_back x variable is

      by_kind : ComesTo u g h valid made hist i → unnoted x hist ≡ false
      by_kind (to_old before number k more end walk passed same) =
          same_unnoted g x (scalar_name x variable of) passed ∙ old.calls before number k x variable more end of walk (sym (same_call g same) ∙ call)
      by_kind (to_new before number more end walk passed new) = absurd (true≢false (sym call ∙ new_call g new.computation i new.does))

  -- A note of the scalar itself stands behind a write of it.
  behind_write : (hist : History) (n : ℕ) (x : ℕ) (rest : List Instruction) (e : End) → Path h hist n (Note x (Is (Of (Name x))) ∷ rest) e → written h x hist ≡ true
  behind_write hist n x rest e way =
      let c = path_to_same u g h valid made (only_note g) (λ d new. no_new_note g new) way in
      let all = valid_at u g valid (path_come g c.way) in
      same_written g x (note_name x all.0.0.0) h made.entry made.parameters c.passed ∙ old.behind_write c.before c.number x c.rest c.end c.way

  -- What might read across places reads across them still.
  across_still : v.assignments ≡ u.assignments → {before hist : History} {k i : Instruction} → PassedSo g before hist → StaysOrReads g k i → ReadsAcross u g before k → ReadsAcross v h hist i
  across_still assignments passed same (moved t target of_motion computes) = moved t (same_target g same ∙ target) (subst (λ m. m ≤ t) (sym made.first_moved) of_motion) (same_computation g same ∙ computes)
  across_still assignments passed same (sunk x variable p target is place none) = sunk x variable p (same_target g same ∙ target)
      (subst (λ ss. option_map (λ (s : Scalar). s.variable) (slice_get ss x) ≡ Some variable) (sym made.scalars) is) (same_place g passed ∙ place) (ap (λ all. assigns all p variable) assignments ∙ none)

  -- A new instruction reads across places: it computes a temporary of code motion.
  new_across : (hist : History) (e : Computation) (i : Instruction) → IsDoing g e i → ReadsAcross v h hist i
  new_across hist e i new = moved new.name (new_target g e i new) (subst (λ m. m ≤ new.name) (sym made.first_moved) (let less = valid.temporaries in let fresh = new.fresh in omega (arith, less, fresh))) (new_computation g e i new)

  -- A local temporary is read only behind a write of it in the same place, but by what may read across places.
  local : v.assignments ≡ u.assignments → (hist : History) (n : ℕ) (i : Instruction) (t : ℕ) (rest : List Instruction) (e : End) → IsLocal h t → Path h hist n (i ∷ rest) e → Among t (reads_of i) → (written h t hist ≡ true) ⊎ ReadsAcross v h hist i
  local assignments hist n i t rest e is way among = by_kind (path_to u g h valid made way)
    where
      of : IsLocal g t
      of = local_back t is

      less : t < g.name_count
      less = local_name t of

      by_old : (before : History) (k : Instruction) → PassedSo g before hist → StaysOrReads g k i → (written g t before ≡ true) ⊎ ReadsAcross u g before k → (written h t hist ≡ true) ⊎ ReadsAcross v h hist i
      by_old before k passed same (inl there) = inl (same_written g t less h made.entry made.parameters passed ∙ there)
      by_old before k passed same (inr across) = inr (across_still assignments passed same across)

      by_kind : ComesTo u g h valid made hist i → (written h t hist ≡ true) ⊎ ReadsAcross v h hist i
      by_kind (to_old before number k more end walk passed same) = by_old before k passed same (old.local before number k t more end of walk (same_reads g t less same among))
      by_kind (to_new before number more end walk passed new) = inr (new_across hist new.computation i new.does)

  -- So it is at the ends of blocks.
  local_at_end : (hist : History) (n : ℕ) (t : ℕ) (e : End) → IsLocal h t → Path h hist n [] e → Among t (reads_of_end e) → written h t hist ≡ true
  local_at_end hist n t e is way among =
      let c = path_to_end u g h valid made way in
      let of = local_back t is in
      same_written g t (local_name t of) h made.entry made.parameters c.passed ∙ old.local_at_end c.before c.number t c.end of c.way (c.ends.reads t among)

  module _ (added : List Logged) (log : v.log ≡ u.log ++ added) where
    -- A note of a scalar that is right before is right after.
    right_still : (p x variable : ℕ) (value : NoteValue) → x < g.name_count → IsRightNote u g p x variable value → IsRightNote v h p x variable value
    right_still p x variable value less (inl own) = inl (own.0, written_after g h made p x own.1)
    right_still p x variable value less (inr gone) =
        inr (gone.0, λ w. gone.1 (written_before g h made p x less w), subst (λ all. WasTaken all p variable) (sym log) (removed_still u.log added p variable gone.2))

    -- Each note that a path comes to is right.
    right : (hist : History) (n : ℕ) (p x variable : ℕ) (value : NoteValue) (rest : List Instruction) (e : End) → IsVariable h x variable → Path h hist n (Note x value ∷ rest) e → place_of hist ≡ Some p → IsRightNote v h p x variable value
    right hist n p x variable value rest e is way place =
        let c = path_to_same u g h valid made (only_note g) (λ d new. no_new_note g new) way in
        let of = variable_back x variable is in
        right_still p x variable value (scalar_name x variable of)
        (old.right c.before c.number p x variable value c.rest c.end of c.way (sym (same_place g c.passed) ∙ place))

  -- WHAT IS MADE OF A WELL MARKED GRAPH IS WELL MARKED, in a unit that shares the same and whose log is longer.
  pub graph_marked : v.steps ≡ u.steps → v.assignments ≡ u.assignments → (added : List Logged) → v.log ≡ u.log ++ added → IsWellMarked v h
  graph_marked steps assignments added log = record {
    begins = begins;
    first = first;
    flows = flows steps;
    cycles = cycles;
    entry_calls = entry_calls;
    leaves = leaves;
    zeroes = zeroes;
    copies = copies;
    zeroes_first = zeroes_first;
    copies_first = copies_first;
    variables = variables;
    written_where = written_where assignments added log;
    noted_where = noted_where assignments added log;
    noted = noted assignments;
    right = right added log;
    behind_write = behind_write;
    calls = calls;
    local = local assignments;
    local_at_end = local_at_end;
  }
