-- The graph that the removal of dead assignments makes of a well marked one is well marked.
use Rattle.std.proofs.Common.{◌≡◌, ◌≢◌, ℕ, ◌≤◌, ◌⊎◌, inl, inr, true, false, true≢false, Option, Some, List, [], ◌∷◌, refl, sym, ap, ◌∙◌, subst}
use Rattle.std.specs.Prelude.{slice_get}
use Rattle.std.proofs.lemmas.Bool.{cases_Bool}
use Rattle.places.specs.Flow.{can_go, assigns}
use Rattle.graph_core.specs.Bounds.{most_words}
use Rattle.graph_core.specs.Graphs.{Operand, NoteValue, Instruction, Marker, Note, Zero, CopyWords, End, Return, Block, Graph, UnitForm}
use Rattle.graph_core.specs.Paths.{History, Among, Path, place_of, is_call, called, written, unnoted, owed}
use Rattle.graph_core.specs.Points.{ReadsNext}
use Rattle.graph_core.specs.Uses.{reads_of, reads_of_end, targets_of, is_computation}
use Rattle.graph_core.specs.WellMarked.{InPlace, IsVariable, IsLocal, WasTaken, WasSunk, WrittenIn, MayStand, ReadsAcross, moved, sunk, IsWellMarked}
use Rattle.pass_law.specs.Kept.{ShareTheSame}
use Rattle.graph_core_weights.proofs.Standing.{in_place}
use Rattle.dead_pass_rule.specs.Idle.{is_computed_next, Goes}
use Rattle.dead_pass_laws.proofs.Came.{reduced_graph, IsTaken}
use Rattle.dead_pass_laws.proofs.Entry.{goes_assigned}
use Rattle.dead_pass_laws.proofs.Lags.{lags_read}
use Rattle.dead_pass_laws.proofs.Followed.{LagsHere}
use Rattle.dead_pass_laws.proofs.Instructions.{StaysOrCalls, kept_computes, kept_target, said_kept, left_cases, left_like, left_was, left_note}
use Rattle.dead_pass_laws.proofs.Markers.{begins_still, cycles_still}
use Rattle.dead_pass_laws.proofs.Notes.{note_right, note_behind}
use Rattle.dead_pass_laws.proofs.Paired.{paired_made}
use Rattle.dead_pass_laws.proofs.Standing.{StoodBefore, stood_before}
use Rattle.dead_pass_laws.proofs.Ways.{ComesNext, ComesLast, path_next, path_last, was_block}
use Rattle.dead_pass_laws.proofs.Written.{written_before}

module _ (u v : UnitForm) (shared : ShareTheSame u v) (g : Graph) (blocks : List Block) (taken : IsTaken u v.log g blocks) (longer : (p variable : ℕ) → WasTaken u.log p variable → WasTaken v.log p variable)
    (sunk_longer : (variable : ℕ) → WasSunk u.log variable → WasSunk v.log variable) where
  -- the graph after
  abbrev made : Graph
  made = reduced_graph g blocks

  -- No edge leads back to its first block.
  first : (n : ℕ) (c : Block) → slice_get blocks n ≡ Some c → Among 0 (targets_of c.end) → ⊥
  first n c at among = (let b = was_block u v.log g blocks taken n c at in taken.marked.first n b.block b.is (subst (λ f. Among 0 (targets_of f)) b.end among))

  -- ---- Places

  -- What stood at a point stood in its place.
  stood_in_place : (p : ℕ) (j : Instruction) → (s : StoodBefore u v.log g blocks taken p j) → InPlace g p s.instruction
  stood_in_place p j s = in_place g s.n s.stands.block s.stands.before s.instruction s.rest p s.stands.is s.stands.instructions s.stands.place

  -- The place of the entry has no call.
  entry_calls : (j : Instruction) → InPlace made g.entry j → is_call j ≡ false
  entry_calls j at =
      let s = stood_before u v.log g blocks taken g.entry j at in
      (left_like v.log g s.n s.rest s.end s.left).call ∙ taken.marked.entry_calls s.instruction (stood_in_place g.entry j s)

  -- Words that are set are few.
  zeroes : (p object words : ℕ) → InPlace made p (Zero object words) → words ≤ most_words
  zeroes p object words at =
      let s = stood_before u v.log g blocks taken p (Zero object words) at in
      taken.marked.zeroes p object words (subst (λ i. InPlace g p i) (left_was v.log g s.n s.rest s.end s.left refl) (stood_in_place p (Zero object words) s))

  -- Words that are copied are few.
  copies : (p object bytes words : ℕ) → InPlace made p (CopyWords object bytes words) → words ≤ most_words
  copies p object bytes words at =
      let s = stood_before u v.log g blocks taken p (CopyWords object bytes words) at in
      taken.marked.copies p object bytes words (subst (λ i. InPlace g p i) (left_was v.log g s.n s.rest s.end s.left refl) (stood_in_place p (CopyWords object bytes words) s))

  -- Where a scalar may be written and noted it may be still.
  may_still : (p x variable : ℕ) → IsVariable g x variable → MayStand u g p x variable → MayStand v made p x variable
  may_still p x variable is may = elim (cases_Bool (assigns u.assignments p variable)) [
    | inl assigned ↦ inl (ap (λ all. assigns all p variable) shared.assignments ∙ assigned)
    | inr unassigned ↦ by_may unassigned may
  ]
    where
      by_may : assigns u.assignments p variable ≡ false → MayStand u g p x variable → MayStand v made p x variable
      by_may unassigned (inl assigned) = absurd (true≢false (sym assigned ∙ unassigned))
      by_may unassigned (inr paired) = inr (sunk_longer variable paired.0, paired_made u v.log g blocks taken p x variable is unassigned paired.1)

  -- Scalars are written where they may.
  written_where : (p x variable : ℕ) → IsVariable g x variable → WrittenIn made p x → MayStand v made p x variable
  written_where p x variable is w = may_still p x variable is (taken.marked.written_where p x variable is (written_before u v.log g blocks taken p x w))

  -- They are noted there.
  noted_where : (p x variable : ℕ) (w : NoteValue) → IsVariable g x variable → InPlace made p (Note x w) → MayStand v made p x variable
  noted_where p x variable w is at =
      let s = stood_before u v.log g blocks taken p (Note x w) at in
      let was = left_note v.log g s.n s.rest s.end x w s.left refl in
      may_still p x variable is (taken.marked.noted_where p x variable was.0 is (subst (λ i. InPlace g p i) was.1 (stood_in_place p (Note x w) s)))

  -- ---- Paths

  -- Markers follow one another as the program flows.
  flows : (after : History) (n : ℕ) (p q : ℕ) (rest : List Instruction) (e : End) → Path made after n (Marker q ∷ rest) e → place_of after ≡ Some p → can_go v.steps p q ≡ true
  flows after n p q rest e way place =
      let c = path_next u v.log g blocks taken after n (Marker q) rest e way in
      let along : Path g c.hist n (Marker q ∷ c.rest) e = subst (λ i. Path g c.hist n (i ∷ c.rest) e) (left_was v.log g n c.rest e c.left refl) c.along in
      ap (λ all. can_go all p q) shared.steps ∙ taken.marked.flows c.hist n p q c.rest e along (sym c.followed.same_place ∙ place)

  -- Each path to an end has another marker than that of the entry.
  leaves : (after : History) (n : ℕ) (a : Option Operand) → Path made after n [] (Return a) → place_of after ≢ Some g.entry
  leaves after n a way place = (let c = path_last u v.log g blocks taken after n (Return a) way in taken.marked.leaves c.hist n a c.along (sym c.followed.same_place ∙ place))

  -- No call of its place precedes words that are set.
  zeroes_first : (after : History) (n : ℕ) (object words : ℕ) (rest : List Instruction) (e : End) → Path made after n (Zero object words ∷ rest) e → called after ≡ false
  zeroes_first after n object words rest e way =
      let c = path_next u v.log g blocks taken after n (Zero object words) rest e way in
      c.followed.same_called ∙ taken.marked.zeroes_first c.hist n object words c.rest e (subst (λ i. Path g c.hist n (i ∷ c.rest) e) (left_was v.log g n c.rest e c.left refl) c.along)

  -- No call of its place precedes words that are copied.
  copies_first : (after : History) (n : ℕ) (object bytes words : ℕ) (rest : List Instruction) (e : End) → Path made after n (CopyWords object bytes words ∷ rest) e → called after ≡ false
  copies_first after n object bytes words rest e way =
      let c = path_next u v.log g blocks taken after n (CopyWords object bytes words) rest e way in
      c.followed.same_called ∙ taken.marked.copies_first c.hist n object bytes words c.rest e (subst (λ i. Path g c.hist n (i ∷ c.rest) e) (left_was v.log g n c.rest e c.left refl) c.along)

  -- What is owed is noted by the next marker.
  noted : (after : History) (n : ℕ) (p x variable : ℕ) (rest : List Instruction) (e : End) → IsVariable g x variable → Path made after n (Marker p ∷ rest) e → owed (λ q. assigns v.assignments q variable) x after ≡ false
  noted after n p x variable rest e is way =
      let c = path_next u v.log g blocks taken after n (Marker p) rest e way in
      let along : Path g c.hist n (Marker p ∷ c.rest) e = subst (λ i. Path g c.hist n (i ∷ c.rest) e) (left_was v.log g n c.rest e c.left refl) c.along in
      ap (λ all. owed (λ q. assigns all q variable) x after) shared.assignments ∙ c.followed.none_owed (λ q. assigns u.assignments q variable) x (taken.marked.noted c.hist n p x variable c.rest e is along)

  -- No call stands between a write of a scalar and its note.
  calls : (after : History) (n : ℕ) (j : Instruction) (x variable : ℕ) (rest : List Instruction) (e : End) → IsVariable g x variable → Path made after n (j ∷ rest) e → is_call j ≡ true → unnoted x after ≡ false
  calls after n j x variable rest e is way call =
      let c = path_next u v.log g blocks taken after n j rest e way in
      c.followed.none_unnoted x (taken.marked.calls c.hist n c.instruction x variable c.rest e is c.along (sym (left_like v.log g n c.rest e c.left).call ∙ call))

  -- What reads a name that lags goes, if it is a computation.
  lagging_goes : (t : ℕ) (hist : History) (n : ℕ) (rest : List Instruction) (e : End) → Path g hist n rest e → LagsHere u v.log g blocks taken t hist n rest e → ReadsNext t rest e → (is_computed_next rest ≡ true) × Goes u.assignments g n rest e
  lagging_goes t hist n rest e along lags reads = (let both = lags_read g t hist n rest e lags.lags reads in (both.0, record { reached = record { history = hist; path = along }; idle = both.1 }))

  -- The same temporaries are local.
  local_before : (t : ℕ) → IsLocal made t → IsLocal g t
  local_before t is = record { temporary = is.temporary; not_moved = is.not_moved }

  -- What may read across places may do so still.
  across_still : (hist after : History) (n : ℕ) (i j : Instruction) (rest : List Instruction) (e : End) → Path g hist n (i ∷ rest) e → place_of after ≡ place_of hist → StaysOrCalls u.assignments v.log g n rest e i j → ReadsAcross u g hist i → ReadsAcross v made after j
  across_still hist after n i j rest e along place (inl kept) (moved t target least computes) =
      moved t (kept_target (said_kept v.log g n rest e kept.1) ∙ target) least (kept_computes (said_kept v.log g n rest e kept.1) ∙ computes)
  across_still hist after n i j rest e along place (inl kept) (sunk x variable p target of at unassigned) =
      sunk x variable p (kept_target (said_kept v.log g n rest e kept.1) ∙ target) of (place ∙ at) (ap (λ all. assigns all p variable) shared.assignments ∙ unassigned)
  across_still hist after n i j rest e along place (inr gone) (moved t target least computes) = absurd (true≢false (sym computes ∙ gone.2))
  across_still hist after n i j rest e along place (inr gone) (sunk x variable p target of at unassigned) =
      absurd (true≢false (sym (goes_assigned u v.log g blocks taken hist n i rest e x variable p along at target of gone.0) ∙ unassigned))

  -- A local temporary is read only behind a write of it in the same place, but by what may read across places.
  local : (after : History) (n : ℕ) (j : Instruction) (t : ℕ) (rest : List Instruction) (e : End) → IsLocal made t → Path made after n (j ∷ rest) e → Among t (reads_of j) → (written made t after ≡ true) ⊎ ReadsAcross v made after j
  local after n j t rest e is way among = elim (taken.marked.local c.hist n c.instruction t c.rest e (local_before t is) c.along reads) [
    | inl it ↦ inl (elim (c.followed.still_written t it) [
      | inl lags ↦ absurd (by_cases (lagging_goes t c.hist n (c.instruction ∷ c.rest) e c.along lags reads) (left_cases v.log g n c.rest e c.left))
      | inr still ↦ still.was_written
    ])
    | inr across ↦ inr (across_still c.hist after n c.instruction j c.rest e c.along c.followed.same_place (left_cases v.log g n c.rest e c.left) across)
  ]
    where
      c : ComesNext u v.log g blocks taken after n j rest e
      c = path_next u v.log g blocks taken after n j rest e way

      reads : Among t (reads_of c.instruction)
      reads = subst (λ l. Among t l) (left_like v.log g n c.rest e c.left).reads among

      by_cases : (is_computation c.instruction ≡ true) × Goes u.assignments g n (c.instruction ∷ c.rest) e → StaysOrCalls u.assignments v.log g n c.rest e c.instruction j → ⊥
      by_cases both (inl kept) = kept.0 both.1
      by_cases both (inr untargeted) = true≢false (sym both.0 ∙ untargeted.2)

  -- So it is at the ends of blocks.
  local_at_end : (after : History) (n : ℕ) (t : ℕ) (e : End) → IsLocal made t → Path made after n [] e → Among t (reads_of_end e) → written made t after ≡ true
  local_at_end after n t e is way among = elim (c.followed.still_written t (taken.marked.local_at_end c.hist n t e (local_before t is) c.along among)) [
    | inl lags ↦ (let both = lagging_goes t c.hist n [] e c.along lags among in absurd (true≢false (sym both.0)))
    | inr still ↦ still.was_written
  ]
    where
      c : ComesLast u v.log g blocks taken after n e
      c = path_last u v.log g blocks taken after n e way

  -- THE GRAPH AFTER IS WELL MARKED.
  pub graph_marked : IsWellMarked v made
  graph_marked = record {
    begins = begins_still u v.log g blocks taken;
    first = first;
    flows = flows;
    cycles = cycles_still u v.log g blocks taken;
    entry_calls = entry_calls;
    leaves = leaves;
    zeroes = zeroes;
    copies = copies;
    zeroes_first = zeroes_first;
    copies_first = copies_first;
    variables = taken.marked.variables;
    written_where = written_where;
    noted_where = noted_where;
    noted = noted;
    right = note_right u v g blocks taken longer;
    behind_write = note_behind u v g blocks taken longer;
    calls = calls;
    local = local;
    local_at_end = local_at_end;
  }
