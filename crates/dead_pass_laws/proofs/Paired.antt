-- Where a place does not assign a variable, what the removal of dead assignments leaves of a graph writes and notes its scalar there in pairs, as the graph before does.
use Rattle.std.proofs.Common.{◌≡◌, ◌≢◌, ℕ, ◌<◌, inl, inr, true, false, true≢false, Option, Some, List, [], ◌∷◌, ◌++◌, refl, sym, ap, ◌∙◌, subst, append_assoc}
use Rattle.std.specs.Prelude.{slice_get}
use Rattle.places.specs.Flow.{assigns}
use Rattle.places.specs.declared.flow.Assignment.{Assignment}
use Rattle.graph_core.specs.declared.instruction.Callee.{Callee}
use Rattle.graph_core.specs.Graphs.{Operand, Name, Of, NoteValue, Is, Instruction, Marker, Note, Call, End, Block, Graph, Logged, UnitForm}
use Rattle.graph_core.specs.Paths.{writes, is_marker}
use Rattle.graph_core.specs.Points.{StandsWith}
use Rattle.graph_core.specs.Uses.{target_of, is_computation}
use Rattle.graph_core.specs.Validity.{place_behind}
use Rattle.graph_core.specs.WellMarked.{IsVariable, ArePaired}
use Rattle.dead_pass_rule.specs.Idle.{Goes, assigns_scalar}
use Rattle.dead_pass_rule.specs.Removing.{without}
use Rattle.dead_pass_notes.specs.Said.{IsDropped, IsSaid, recipe, unlogged, lost, unlost, SaysAs, noted, unreached, other, AreSaid, ends, gone, stays}
use Rattle.dead_pass_laws.specs.Staying.{IsLeft, stays as left_stays, untargeted}
use Rattle.dead_pass_laws.proofs.Came.{reduced_graph, IsTaken}
use Rattle.dead_pass_laws.proofs.Entry.{goes_once, plain_target, scalar_assigns, variable_scalar}
use Rattle.dead_pass_laws.proofs.Instructions.{GoesAs, computed, called, IsPlain, goes_as, computed_plain, kept_writes, said_kept, note_name, note_value, StaysOrCalls, left_cases, left_note}
use Rattle.dead_pass_laws.proofs.Noted.{same_is}
use Rattle.dead_pass_laws.proofs.Points.{behind_one, first_same, rest_same}
use Rattle.dead_pass_laws.proofs.Values.{target_written}
use Rattle.dead_pass_laws.proofs.Ways.{WasBlock, not_empty, was_block}
use Rattle.dead_pass_laws.proofs.Written.{same_place}

-- ---- Lists

-- A list with something behind others is not empty.
some_behind : (before rest : List Instruction) (j : Instruction) → [] ≡ before ++ j ∷ rest → ⊥
some_behind [] rest j e = not_empty (sym e)
some_behind (h ∷ before) rest j e = not_empty (sym e)

-- what is no marker begins no place
plain_one : (i : Instruction) (o : Option ℕ) → is_marker i ≡ false → place_behind (i ∷ []) o ≡ o
plain_one (Marker p) o plain = absurd (true≢false plain)
plain_one _ o plain = refl

-- So it is behind others.
plain_last : (front : List Instruction) (i : Instruction) (o : Option ℕ) → is_marker i ≡ false → place_behind (front ++ i ∷ []) o ≡ place_behind front o
plain_last [] i o plain = plain_one i o plain
plain_last (k ∷ front) i o plain =
    sym (behind_one k (front ++ i ∷ []) o) ∙ plain_last front i (place_behind (k ∷ []) o) plain ∙ behind_one k front o

-- ---- What is left, at one instruction

module _ (assignments : List Assignment) (log : List Logged) (g : Graph) (n : ℕ) (e : End) where
  -- What stays begins the same place, or none.
  same_begun : (rest : List Instruction) (i j : Instruction) (o : Option ℕ) → SaysAs assignments log g n rest e i j → place_behind (j ∷ []) o ≡ place_behind (i ∷ []) o
  same_begun rest i j o (noted reached stands said) = refl
  same_begun rest i j o (unreached none) = refl
  same_begun rest i j o (other plain) = refl

  -- Where an instruction stands among those that are left, it is what is left of one among those before: what is left behind it is left of what stands behind that; nothing stands before it where
  -- nothing stands before that; and what stands directly before it is what is left of what stands directly before that, if that stays.
  record SaidAt (xs before : List Instruction) (j : Instruction) (rest : List Instruction) : Type 0 where
    front : List Instruction
    i : Instruction
    behind : List Instruction
    is : xs ≡ front ++ i ∷ behind
    left : IsLeft assignments log g n behind e i j
    said : AreSaid assignments log g n e behind rest
    none : front ≡ [] → before ≡ []
    last : (first : List Instruction) (k : Instruction) → front ≡ first ++ k ∷ [] → (Goes assignments g n (k ∷ i ∷ behind) e → ⊥)
        → (b : List Instruction) × (l : Instruction) × (before ≡ b ++ l ∷ []) × SaysAs assignments log g n (i ∷ behind) e k l
    place : (o : Option ℕ) → place_behind before o ≡ place_behind front o

  -- it is what is left of the first
  at_first : (i j : Instruction) (behind rest more : List Instruction) → IsLeft assignments log g n behind e i j → AreSaid assignments log g n e behind rest → rest ≡ more → SaidAt (i ∷ behind) [] j more
  at_first i j behind rest more left said same = record {
    front = [];
    i = i;
    behind = behind;
    is = refl;
    left = left;
    said = subst (λ l. AreSaid assignments log g n e behind l) same said;
    none = λ z. refl;
    last = λ first k z stay. absurd (some_behind first [] k z);
    place = λ o. refl;
  }

  -- one that goes stands first
  past_gone : (k : Instruction) (more before longer : List Instruction) (j : Instruction) (rest : List Instruction) → Goes assignments g n (k ∷ more) e
      → ((b : List Instruction) (l : Instruction) → before ≡ b ++ l ∷ [] → (c : List Instruction) × (longer ≡ c ++ l ∷ []))
      → ((s : SaidAt more before j rest) (o : Option ℕ) → place_behind longer o ≡ place_behind (k ∷ s.front) o) → SaidAt more before j rest → SaidAt (k ∷ more) longer j rest
  past_gone k more before longer j rest it_goes grown place s = record {
    front = k ∷ s.front;
    i = s.i;
    behind = s.behind;
    is = ap (λ l. k ∷ l) s.is;
    left = s.left;
    said = s.said;
    none = λ z. absurd (not_empty z);
    last = λ first m z stay. by_first first m z stay;
    place = place s;
  }
    where
      by_first : (first : List Instruction) (m : Instruction) → k ∷ s.front ≡ first ++ m ∷ [] → (Goes assignments g n (m ∷ s.i ∷ s.behind) e → ⊥)
          → (b : List Instruction) × (l : Instruction) × (longer ≡ b ++ l ∷ []) × SaysAs assignments log g n (s.i ∷ s.behind) e m l
      by_first [] m z stay =
          let all : k ∷ more ≡ m ∷ s.i ∷ s.behind = ap (λ l. k ∷ l) (s.is ∙ ap (λ l. l ++ s.i ∷ s.behind) (rest_same z)) ∙ ap (λ q. q ∷ s.i ∷ s.behind) (first_same z) in
          absurd (stay (subst (λ l. Goes assignments g n l e) all it_goes))
      by_first (h ∷ first) m z stay =
          let was = s.last first m (rest_same z) stay in
          let more_before = grown was.0 was.1 was.2 in
          (more_before.0, was.1, more_before.1, was.3)

  -- over what goes
  said_going : (k : Instruction) (more after before : List Instruction) (j : Instruction) (rest : List Instruction) → GoesAs k → Goes assignments g n (k ∷ more) e → AreSaid assignments log g n e more after
      → ((b : List Instruction) → after ≡ b ++ j ∷ rest → SaidAt more b j rest) → without k ++ after ≡ before ++ j ∷ rest → SaidAt (k ∷ more) before j rest
  said_going k more after before j rest (computed is) it_goes said later whole =
      let plain : IsPlain k = computed_plain k is in
      past_gone k more before before j rest it_goes (λ b l same. (b, same)) (λ s o. s.place o ∙ sym (plain.place s.front o)) (later before (sym (ap (λ l. l ++ after) plain.left) ∙ whole))
  said_going _ more after [] j rest (called {x} {f} {all}) it_goes said later whole =
      at_first (Call (Some x) f all) j more after rest (subst (λ q. IsLeft assignments log g n more e (Call (Some x) f all) q) (first_same whole) (untargeted it_goes)) said (rest_same whole)
  said_going _ more after (h ∷ before) j rest (called {x} {f} {all}) it_goes said later whole =
      past_gone (Call (Some x) f all) more before (h ∷ before) j rest it_goes (λ b l same. (h ∷ b, ap (λ q. h ∷ q) same))
      (λ s o. ap (λ q. place_behind (q ∷ before) o) (sym (first_same whole)) ∙ s.place o) (later before (rest_same whole))

  -- over what stays
  said_staying : (k l : Instruction) (more after before : List Instruction) (j : Instruction) (rest : List Instruction) → (Goes assignments g n (k ∷ more) e → ⊥) → SaysAs assignments log g n more e k l → AreSaid assignments log g n e more after
      → ((b : List Instruction) → after ≡ b ++ j ∷ rest → SaidAt more b j rest) → l ∷ after ≡ before ++ j ∷ rest → SaidAt (k ∷ more) before j rest
  said_staying k l more after [] j rest stay says said later whole =
      at_first k j more after rest (subst (λ q. IsLeft assignments log g n more e k q) (first_same whole) (left_stays stay says)) said (rest_same whole)
  said_staying k l more after (h ∷ before) j rest stay says said later whole = record {
    front = k ∷ s.front;
    i = s.i;
    behind = s.behind;
    is = ap (λ q. k ∷ q) s.is;
    left = s.left;
    said = s.said;
    none = λ z. absurd (not_empty z);
    last = λ first m z not_m. by_first first m z not_m;
    place = λ o. sym (behind_one h before o) ∙ s.place (place_behind (h ∷ []) o)
        ∙ ap (place_behind s.front) (ap (λ q. place_behind (q ∷ []) o) (sym (first_same whole)) ∙ same_begun more k l o says) ∙ behind_one k s.front o;
  }
    where
      s : SaidAt more before j rest
      s = later before (rest_same whole)

      by_first : (first : List Instruction) (m : Instruction) → k ∷ s.front ≡ first ++ m ∷ [] → (Goes assignments g n (m ∷ s.i ∷ s.behind) e → ⊥)
          → (b : List Instruction) × (q : Instruction) × (h ∷ before ≡ b ++ q ∷ []) × SaysAs assignments log g n (s.i ∷ s.behind) e m q
      by_first [] m z not_m =
          let all : more ≡ s.i ∷ s.behind = s.is ∙ ap (λ q. q ++ s.i ∷ s.behind) (rest_same z) in (
            [],
            h,
            ap (λ q. h ∷ q) (s.none (rest_same z)),
            subst (λ q. SaysAs assignments log g n (s.i ∷ s.behind) e m q) (first_same whole)
                (subst (λ q. SaysAs assignments log g n (s.i ∷ s.behind) e q l) (first_same z) (subst (λ q. SaysAs assignments log g n q e k l) all says)),
          )
      by_first (f ∷ first) m z not_m = (let was = s.last first m (rest_same z) not_m in (h ∷ was.0, was.1, ap (λ q. h ∷ q) was.2, was.3))

  -- EACH INSTRUCTION THAT IS LEFT is left of one that stood.
  said_at : (xs ys : List Instruction) → AreSaid assignments log g n e xs ys → (before : List Instruction) (j : Instruction) (rest : List Instruction) → ys ≡ before ++ j ∷ rest → SaidAt xs before j rest
  said_at _ _ ends before j rest whole = absurd (some_behind before rest j whole)
  said_at _ _ (gone {i = k} {rest = more} {after} it_goes said) before j rest whole =
      said_going k more after before j rest (goes_as g n k more e it_goes) it_goes said (λ b same. said_at more after said b j rest same) whole
  said_at _ _ (stays {i = k} {j = l} {rest = more} {after} stay says said) before j rest whole =
      said_staying k l more after before j rest stay says said (λ b same. said_at more after said b j rest same) whole

  -- A note that is left is left of what stays.
  left_says : (rest : List Instruction) (i j : Instruction) (x : ℕ) (w : NoteValue) → IsLeft assignments log g n rest e i j → j ≡ Note x w → SaysAs assignments log g n rest e i j
  left_says rest i j x w (left_stays stay says) is = says
  left_says rest i j x w (untargeted it_goes) is = absurd (call_note is)
    where
      call_note : {y : Option ℕ} {f : Callee} {all : List Operand} → Call y f all ≡ Note x w → ⊥
      call_note z = cc

-- ---- In a place that does not assign the variable

module _ (u : UnitForm) (log : List Logged) (g : Graph) (blocks : List Block) (taken : IsTaken u log g blocks) (p x variable : ℕ) (is_variable : IsVariable g x variable) (unassigned : assigns u.assignments p variable ≡ false) where
  -- the own note of the scalar
  abbrev own : Instruction
  own = Note x (Is (Of (Name x)))

  -- No write of the scalar in the place goes.
  none_goes : (n : ℕ) (i : Instruction) (rest : List Instruction) (e : End) → StandsWith g p n (i ∷ rest) e → target_of i ≡ Some x → Goes u.assignments g n (i ∷ rest) e → ⊥
  none_goes n i rest e stands target it_goes =
      let o = goes_once g x n i rest e target (variable_scalar g.scalars x variable is_variable) it_goes in
      let one : o.place ≡ p = same_place g o.place p n (i ∷ rest) e o.stands stands in
      true≢false (sym o.assigned ∙ ap (λ q. assigns_scalar u.assignments g q x) one ∙ scalar_assigns u.assignments g p x variable is_variable ∙ unassigned)

  -- So none was dropped.
  none_dropped : IsDropped u.assignments g p x → ⊥
  none_dropped d = none_goes d.n d.instruction d.rest d.end d.stands d.target d.goes

  -- The own note says what it said.
  said_own : (q n : ℕ) (v : NoteValue) (note : List Instruction) (e : End) (w : NoteValue) → q ≡ p → v ≡ Is (Of (Name x)) → IsSaid u.assignments log g q n x v note e w → w ≡ Is (Of (Name x))
  said_own q n v note e w one is (recipe of) = absurd (none_dropped (subst (λ r. IsDropped u.assignments g r x) one of.dropped))
  said_own q n v note e w one is (gone dropped none scalar last) = absurd (none_dropped (subst (λ r. IsDropped u.assignments g r x) one dropped))
  said_own q n v note e w one is (unlogged dropped none never) = absurd (none_dropped (subst (λ r. IsDropped u.assignments g r x) one dropped))
  said_own q n v note e w one is (lost stayed found scalar first) = absurd (found.other (same_is (sym found.is ∙ is)))
  said_own q n v note e w one is (unlost stayed found never) = absurd (found.other (same_is (sym found.is ∙ is)))
  said_own q n v note e w one is (stays stayed found) = is

  -- So it stays.
  own_stays : (n : ℕ) (rest : List Instruction) (e : End) (i j : Instruction) → i ≡ own → StandsWith g p n (i ∷ rest) e → SaysAs u.assignments log g n rest e i j → j ≡ own
  own_stays n rest e i j is stands (noted {p = q} {x = y} {v} {w} reached stood said) =
      let name : y ≡ x = note_name is in
      let one : q ≡ p = same_place g q p n (Note y v ∷ rest) e stood stands in
      let named : IsSaid u.assignments log g q n x v (Note y v ∷ rest) e w = subst (λ z. IsSaid u.assignments log g q n z v (Note y v ∷ rest) e w) name said in
      ap (λ z. Note z w) name ∙ ap (Note x) (said_own q n v (Note y v ∷ rest) e w one (note_value is) named)
  own_stays n rest e i j is stands (unreached none) = is
  own_stays n rest e i j is stands (other plain) = is

  -- What is left of the own note and more begins with the own note.
  own_first : (n : ℕ) (e : End) (xs ys more : List Instruction) → AreSaid u.assignments log g n e xs ys → xs ≡ own ∷ more → StandsWith g p n xs e → (later : List Instruction) × (ys ≡ own ∷ later)
  own_first n e xs ys more ends is stands = absurd (not_empty (sym is))
  own_first n e xs ys more (gone {i = k} {rest = behind} it_goes said) is stands = absurd (by_kind k (goes_as g n k behind e it_goes) (first_same is))
    where
      by_kind : (i : Instruction) → GoesAs i → i ≡ own → ⊥
      by_kind i (computed computes) z = true≢false (sym computes ∙ ap is_computation z)
      by_kind i called z = cc
  own_first n e xs ys more (stays {i = k} {j = l} {rest = behind} {after} stay says said) is stands = (after, ap (λ q. q ∷ after) (own_stays n behind e k l (first_same is) stands says))

  module _ (pairs : ArePaired g p x) where
    -- What is left of a write.
    write_was : (n : ℕ) (rest : List Instruction) (e : End) (i j : Instruction) → writes x j ≡ true → IsLeft u.assignments log g n rest e i j → writes x i ≡ true
    write_was n rest e i j it left = by_cases (left_cases log g n rest e left)
      where
        by_cases : StaysOrCalls u.assignments log g n rest e i j → writes x i ≡ true
        by_cases (inl kept) = sym (kept_writes x (said_kept log g n rest e kept.1)) ∙ it
        by_cases (inr calls) = absurd (true≢false (sym it ∙ calls.3 x))

    -- Behind each write stands the own note.
    noted_made : (n : ℕ) (c : Block) (before rest : List Instruction) (j : Instruction) → slice_get blocks n ≡ Some c → c.instructions ≡ before ++ j ∷ rest → place_behind before c.place ≡ Some p → writes x j ≡ true
        → (more : List Instruction) × (rest ≡ own ∷ more)
    noted_made n c before rest j at parts place it =
        let b : WasBlock u log g blocks taken n c = was_block u log g blocks taken n c at in
        let s = said_at u.assignments log g n b.block.end b.block.instructions c.instructions b.said before j rest parts in
        let wrote : writes x s.i ≡ true = write_was n s.behind b.block.end s.i j it s.left in
        let there : place_behind s.front b.block.place ≡ Some p = sym (s.place b.block.place) ∙ ap (place_behind before) (sym b.place) ∙ place in
        let note = pairs.noted n b.block s.front s.behind s.i b.is s.is there wrote in
        let plain : is_marker s.i ≡ false = plain_target x s.i (target_written x s.i wrote) in
        let whole : b.block.instructions ≡ (s.front ++ s.i ∷ []) ++ s.behind = s.is ∙ sym (append_assoc s.front (s.i ∷ []) s.behind) in
        own_first n b.block.end s.behind rest note.0 s.said note.1
        (record { block = b.block; before = s.front ++ s.i ∷ []; is = b.is; instructions = whole; ends = refl; place = plain_last s.front s.i b.block.place plain ∙ there })

    -- Each note is the own note, and stands directly behind a write.
    written_made : (n : ℕ) (c : Block) (before rest : List Instruction) (value : NoteValue) → slice_get blocks n ≡ Some c → c.instructions ≡ before ++ Note x value ∷ rest → place_behind before c.place ≡ Some p
        → (value ≡ Is (Of (Name x))) × (front : List Instruction) × (i : Instruction) × (before ≡ front ++ i ∷ []) × (writes x i ≡ true)
    written_made n c before rest value at parts place =
        let b : WasBlock u log g blocks taken n c = was_block u log g blocks taken n c at in
        let s = said_at u.assignments log g n b.block.end b.block.instructions c.instructions b.said before (Note x value) rest parts in
        let was = left_note log g n s.behind b.block.end x value s.left refl in
        let there : place_behind s.front b.block.place ≡ Some p = sym (s.place b.block.place) ∙ ap (place_behind before) (sym b.place) ∙ place in
        let pair = pairs.written n b.block s.front s.behind was.0 b.is (s.is ∙ ap (λ i. s.front ++ i ∷ s.behind) was.1) there in
        let is_own : s.i ≡ own = was.1 ∙ ap (Note x) pair.0 in
        let stands : StandsWith g p n (s.i ∷ s.behind) b.block.end = record { block = b.block; before = s.front; is = b.is; instructions = s.is; ends = refl; place = there } in
        let says = left_says u.assignments log g n b.block.end s.behind s.i (Note x value) x value s.left refl in
        let target : target_of pair.2 ≡ Some x = target_written x pair.2 pair.4 in
        let whole : b.block.instructions ≡ pair.1 ++ pair.2 ∷ s.i ∷ s.behind = s.is ∙ ap (λ l. l ++ s.i ∷ s.behind) pair.3 ∙ append_assoc pair.1 (pair.2 ∷ []) (s.i ∷ s.behind) in
        let in_place : place_behind pair.1 b.block.place ≡ Some p = sym (plain_last pair.1 pair.2 b.block.place (plain_target x pair.2 target)) ∙ ap (λ l. place_behind l b.block.place) (sym pair.3) ∙ there in
        let write : StandsWith g p n (pair.2 ∷ s.i ∷ s.behind) b.block.end = record { block = b.block; before = pair.1; is = b.is; instructions = whole; ends = refl; place = in_place } in
        let last = s.last pair.1 pair.2 pair.3 (none_goes n pair.2 (s.i ∷ s.behind) b.block.end write target) in
        (note_value (own_stays n s.behind b.block.end s.i (Note x value) is_own stands says), last.0, last.1, last.2, kept_writes x (said_kept log g n (s.i ∷ s.behind) b.block.end last.3) ∙ pair.4)

    -- THE PAIRS STAY.
    pub paired_made : ArePaired (reduced_graph g blocks) p x
    paired_made = record { noted = noted_made; written = written_made; unbound = pairs.unbound }
