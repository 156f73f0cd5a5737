-- A scalar that is written and noted in pairs in a place is so behind code motion.
use Rattle.std.proofs.Common.{◌≡◌, ℕ, ◌<◌, Bool, true, false, true≢false, Option, Some, None, List, [], ◌∷◌, ◌++◌, refl, sym, ap, ◌∙◌, subst}
use Rattle.std.specs.Prelude.{slice_get}
use Rattle.std.proofs.lemmas.Option.{none-some}
use Rattle.graph_core.specs.Graphs.{Name, Of, NoteValue, Is, Instruction, Marker, Note, End, Block, Graph}
use Rattle.graph_core.specs.Computations.{Computation, computed_by}
use Rattle.graph_core.specs.Paths.{is_bound, writes}
use Rattle.graph_core.specs.Validity.{place_behind}
use Rattle.graph_core.specs.WellMarked.{ArePaired}
use Rattle.motion_pass_laws.specs.Made.{StaysOrReads, stays, IsDoing, CanBeDone, of_next, IsNew, AreLeft, none_left, one_left, new_left, IsAfter, of_block, of_edge, IsMade}
use Rattle.motion_pass_laws.proofs.Doings.{new_behind, new_writes, no_new_note, only_note, same_place_behind, same_writes}

-- ---- Lists

-- all but the first
abbrev pub tail_of : List Instruction → List Instruction
tail_of [] = []
tail_of (i ∷ more) = more

-- the first, or another where there is none
abbrev pub first_or : Instruction → List Instruction → Instruction
first_or other [] = other
first_or other (i ∷ more) = i

-- whether there is none
abbrev is_empty : List Instruction → Bool
is_empty [] = true
is_empty _ = false

-- No instructions are not some.
none_there : (before rest : List Instruction) (i : Instruction) → [] ≡ before ++ i ∷ rest → ⊥
none_there [] rest i same = true≢false (ap is_empty same)
none_there (j ∷ before) rest i same = true≢false (ap is_empty same)

-- The place in force behind one instruction and others.
behind_first : (i : Instruction) (more : List Instruction) (place : Option ℕ) → place_behind (i ∷ more) place ≡ place_behind more (place_behind (i ∷ []) place)
behind_first (Marker p) more place = refl
behind_first _ more place = refl

module _ (g h : Graph) (n : ℕ) (end last : End) where
  -- AN INSTRUCTION THAT IS NOT NEW, among what is left after, is what became of one before. The place in force there is the same; and where nothing can be done directly before it, what stood directly before it became what stands directly before it after.
  pub record WasPart (all before : List Instruction) (i : Instruction) (rest : List Instruction) (place : Option ℕ) : Type 0 where
    pub front : List Instruction
    pub was : Instruction
    pub back : List Instruction
    pub are : all ≡ front ++ was ∷ back
    pub becomes : StaysOrReads g was i
    pub left : AreLeft g h n end last back rest
    pub place_same : place_behind before place ≡ place_behind front place
    pub none : computed_by was ≡ None → front ≡ [] → before ≡ []
    pub directly : computed_by was ≡ None → (ys : List Instruction) (k : Instruction) → front ≡ ys ++ k ∷ [] → (zs : List Instruction) × (j : Instruction) × (before ≡ zs ++ j ∷ []) × StaysOrReads g k j

  -- it is the first of these
  is_first : (k j i : Instruction) (all after rest : List Instruction) (place : Option ℕ) → StaysOrReads g k j → AreLeft g h n end last all after → j ∷ after ≡ i ∷ rest → WasPart (k ∷ all) [] i rest place
  is_first k j i all after rest place same are is = record {
    front = [];
    was = k;
    back = all;
    are = refl;
    becomes = subst (λ z. StaysOrReads g k z) (ap (first_or j) is) same;
    left = subst (λ zs. AreLeft g h n end last all zs) (ap tail_of is) are;
    place_same = refl;
    none = λ not empty. refl;
    directly = λ not ys q none. absurd (none_there ys [] q none);
  }

  -- one that became another stands before it
  behind_one : (k j b : Instruction) (all before rest : List Instruction) (i : Instruction) (place : Option ℕ) → StaysOrReads g k j → j ≡ b → WasPart all before i rest (place_behind (k ∷ []) place) → WasPart (k ∷ all) (b ∷ before) i rest place
  behind_one k j b all before rest i place same is s = record {
    front = k ∷ s.front;
    was = s.was;
    back = s.back;
    are = ap (λ zs. k ∷ zs) s.are;
    becomes = s.becomes;
    left = s.left;
    place_same = behind_first b before place ∙ ap (λ z. place_behind before (place_behind (z ∷ []) place)) (sym is) ∙ ap (place_behind before) (same_place_behind g same place) ∙ s.place_same ∙ sym (behind_first k s.front place);
    none = λ not empty. absurd (none_there [] s.front k (sym empty));
    directly = by_front;
  }
    where
      by_front : computed_by s.was ≡ None → (ys : List Instruction) (q : Instruction) → k ∷ s.front ≡ ys ++ q ∷ [] → (zs : List Instruction) × (m : Instruction) × (b ∷ before ≡ zs ++ m ∷ []) × StaysOrReads g q m
      by_front not [] q front = ([], b, ap (λ zs. b ∷ zs) (s.none not (ap tail_of front)), subst (λ z. StaysOrReads g z b) (ap (first_or k) front) (subst (λ z. StaysOrReads g k z) is same))
      by_front not (y ∷ ys) q front = (let more = s.directly not ys q (ap tail_of front) in (b ∷ more.0, more.1, ap (λ zs. b ∷ zs) more.2, more.3))

  -- a new one stands before it
  behind_new : (d b : Instruction) (all before rest : List Instruction) (i : Instruction) (place : Option ℕ) → IsNew g n all end d → d ≡ b → WasPart all before i rest place → WasPart all (b ∷ before) i rest place
  behind_new d b all before rest i place new is s = record {
    front = s.front;
    was = s.was;
    back = s.back;
    are = s.are;
    becomes = s.becomes;
    left = s.left;
    place_same = behind_first b before place ∙ ap (λ z. place_behind before (place_behind (z ∷ []) place)) (sym is) ∙ ap (place_behind before) (new_behind g new.computation d new.does place) ∙ s.place_same;
    none = λ not empty. absurd (none_done not (subst (λ zs. CanBeDone g new.computation n zs end) (s.are ∙ ap (λ zs. zs ++ s.was ∷ s.back) empty) new.can));
    directly = λ not ys q front. (let more = s.directly not ys q front in (b ∷ more.0, more.1, ap (λ zs. b ∷ zs) more.2, more.3));
  }
    where
      none_done : computed_by s.was ≡ None → CanBeDone g new.computation n (s.was ∷ s.back) end → ⊥
      none_done not (of_next it) = none-some new.computation (sym not ∙ it)

  -- It became so, among what is left.
  pub was_part : {all after : List Instruction} → AreLeft g h n end last all after → (before rest : List Instruction) (i : Instruction) (place : Option ℕ) → after ≡ before ++ i ∷ rest → ((e : Computation) → IsDoing g e i → ⊥) → WasPart all before i rest place
  was_part (none_left ends) before rest i place are old = absurd (none_there before rest i are)
  was_part (one_left {i = k} {j = j} {before = all} {after = after} same left) [] rest i place are old = is_first k j i all after rest place same left are
  was_part (one_left {i = k} {j = j} {before = all} {after = after} same left) (b ∷ before) rest i place are old =
      behind_one k j b all before rest i place same (ap (first_or j) are) (was_part left before rest i (place_behind (k ∷ []) place) (ap tail_of are) old)
  was_part (new_left {i = d} {before = all} {after = after} new left) [] rest i place are old = absurd (old new.computation (subst (λ z. IsDoing g new.computation z) (ap (first_or d) are) new.does))
  was_part (new_left {i = d} {before = all} {after = after} new left) (b ∷ before) rest i place are old =
      behind_new d b all before rest i place new (ap (first_or d) are) (was_part left before rest i place (ap tail_of are) old)

  -- What becomes a note is that note.
  note_stays : {x : ℕ} {v : NoteValue} (j : Instruction) → StaysOrReads g (Note x v) j → j ≡ Note x v
  note_stays _ stays = refl

  -- Nothing new stands directly before a note.
  note_next : (x : ℕ) (v : NoteValue) (more rest : List Instruction) → AreLeft g h n end last (Note x v ∷ more) rest → (later : List Instruction) × (rest ≡ Note x v ∷ later)
  note_next x v more _ (one_left {j = j} {after = later} same left) = (later, ap (λ z. z ∷ later) (note_stays j same))
  note_next x v more _ (new_left new left) = absurd (none_done new.can)
    where
      none_done : {e : Computation} → CanBeDone g e n (Note x v ∷ more) end → ⊥
      none_done {e} (of_next it) = none-some e it

module _ (g h : Graph) (made : IsMade g h) (p x : ℕ) (less : x < g.name_count) (old : ArePaired g p x) where
  -- Behind what writes it stands its note.
  noted : (n : ℕ) (b : Block) (before rest : List Instruction) (i : Instruction) → slice_get h.blocks n ≡ Some b → b.instructions ≡ before ++ i ∷ rest → place_behind before b.place ≡ Some p → writes x i ≡ true
      → (more : List Instruction) × (rest ≡ Note x (Is (Of (Name x))) ∷ more)
  noted n b before rest i at are place is = by_block (made.back n b at)
    where
      not_new : (e : Computation) → IsDoing g e i → ⊥
      not_new e new = true≢false (sym is ∙ new_writes g e i new x less)

      by_block : IsAfter g h n b → (more : List Instruction) × (rest ≡ Note x (Is (Of (Name x))) ∷ more)
      by_block (of_block a there of) =
          let s = was_part g h n a.end b.end of.left before rest i a.place are not_new in
          let pair = old.noted n a s.front s.back s.was there s.are (sym s.place_same ∙ ap (place_behind before) (sym of.place) ∙ place) (sym (same_writes g x s.becomes) ∙ is) in
          note_next g h n a.end b.end x (Is (Of (Name x))) pair.0 rest (subst (λ zs. AreLeft g h n a.end b.end zs rest) pair.1 s.left)
      by_block (of_edge m a there left) = (let s = was_part g h m a.end b.end left before rest i b.place are not_new in absurd (none_there s.front s.back s.was s.are))

  -- Before its note stands what writes it.
  written : (n : ℕ) (b : Block) (before rest : List Instruction) (v : NoteValue) → slice_get h.blocks n ≡ Some b → b.instructions ≡ before ++ Note x v ∷ rest → place_behind before b.place ≡ Some p
      → (v ≡ Is (Of (Name x))) × (front : List Instruction) × (i : Instruction) × (before ≡ front ++ i ∷ []) × (writes x i ≡ true)
  written n b before rest v at are place = by_block (made.back n b at)
    where
      by_block : IsAfter g h n b → (v ≡ Is (Of (Name x))) × (front : List Instruction) × (i : Instruction) × (before ≡ front ++ i ∷ []) × (writes x i ≡ true)
      by_block (of_block a there of) =
          let s = was_part g h n a.end b.end of.left before rest (Note x v) a.place are (λ e new. no_new_note g new) in
          let only : s.was ≡ Note x v = only_note g s.was s.becomes in
          let pair = old.written n a s.front s.back v there (s.are ∙ ap (λ z. s.front ++ z ∷ s.back) only) (sym s.place_same ∙ ap (place_behind before) (sym of.place) ∙ place) in
          let one = s.directly (ap computed_by only) pair.1 pair.2 pair.3 in
          (pair.0, one.0, one.1, one.2, same_writes g x {i = pair.2} {j = one.1} one.3 ∙ pair.4)
      by_block (of_edge m a there left) =
          (let s = was_part g h m a.end b.end left before rest (Note x v) b.place are (λ e new. no_new_note g new) in absurd (none_there s.front s.back s.was s.are))

  -- PAIRS STAY: a scalar that is written and noted in pairs in a place before is so after.
  pub paired_after : ArePaired h p x
  paired_after = record { noted = noted; written = written; unbound = λ entry. ap (is_bound x) made.parameters ∙ old.unbound (entry ∙ made.entry) }
