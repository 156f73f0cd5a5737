-- Each note that a path of the graph after comes to is right.
use Rattle.std.proofs.Common.{◌≡◌, ◌≢◌, ℕ, ◌<◌, inl, inr, true, Some, List, ◌∷◌, length, refl, sym, ap, ◌∙◌, subst}
use Rattle.std.specs.List.{AllByRecursion}
use Rattle.std.proofs.lemmas.Option.{same_Some}
use Rattle.places.specs.declared.flow.Assignment.{Assignment}
use Rattle.graph_core.specs.Graphs.{Operand, Name, Recipe, Of, NoteValue, Is, Gone, Instruction, Note, End, Block, Graph, Logged, UnitForm}
use Rattle.graph_core.specs.Paths.{History, Path, place_of, written}
use Rattle.graph_core.specs.Points.{StandsWith}
use Rattle.graph_core.specs.Validity.{IsInstruction, IsBlock}
use Rattle.graph_core.specs.WellMarked.{IsVariable, WasTaken, WrittenIn, instruction, IsRightNote}
use Rattle.graph_core_weights.proofs.Standing.{in_place}
use Rattle.dead_pass_notes.specs.Said.{IsDropped, IsRecipe, constant, address, name, moved, truncated, operated, IsRightSide, moved as made_moved, truncated as made_truncated, operated as made_operated, IsRecipeOf, IsLost, WasNeverRemoved, IsSaid, recipe, gone, unlogged, lost, unlost, stays, noted, unreached, other}
use Rattle.dead_pass_notes.specs.Stale.{ComesStale}
use Rattle.dead_pass_laws.proofs.Came.{reduced_graph, HasRemoval, IsTaken}
use Rattle.dead_pass_laws.proofs.Lists.{all_at, all_within}
use Rattle.dead_pass_laws.proofs.Noted.{scalar_at, same_is}
use Rattle.dead_pass_laws.proofs.Points.{stands_path}
use Rattle.dead_pass_laws.proofs.Values.{writes_target}
use Rattle.dead_pass_laws.specs.Staying.{IsLeft, stays as left_stays, untargeted}
use Rattle.dead_pass_laws.proofs.Entry.{variable_scalar}
use Rattle.dead_pass_laws.proofs.Instructions.{note_name, note_value}
use Rattle.dead_pass_laws.proofs.Ways.{path_next}
use Rattle.dead_pass_laws.proofs.Followed.{IsFollowed}
use Rattle.dead_pass_laws.proofs.Written.{dropped_none, goes_dropped, written_stays, stays_written, written_before, written_kept}
use Rattle.graph_core.proofs.Among.{at_among}

-- ---- The log

-- What some change of the log removed was removed.
removal_was : (log : List Logged) (p variable : ℕ) → HasRemoval log p variable → WasTaken log p variable
removal_was log p variable has = (let r = has.1 in record { change = r.change; logged = at_among log r.k r.change r.is; taken = r.taken; at = r.in_place; of = r.of })

-- ---- Values of notes

-- what says that the value is gone says no recipe
gone_is : {change : ℕ} {r : Recipe} → Gone change ≡ Is r → ⊥
gone_is e = cc

-- recipes of names that are the same are of the same name
same_name : {x y : ℕ} → Of (Name x) ≡ Of (Name y) → x ≡ y
same_name e = cc

module _ {assignments : List Assignment} (g : Graph) (p k : ℕ) (note : List Instruction) (last : End) (x : ℕ) (stale : ComesStale assignments g x k note last) where
  -- No operand that is read has a name for its recipe that is stale at the note.
  operand_other : (n : ℕ) (rest : List Instruction) (e : End) (a : Operand) (r : Recipe) → IsRecipe assignments g p k note last n rest e a r → r ≡ Of (Name x) → ⊥
  operand_other n rest e a r constant own = cc
  operand_other n rest e a r address own = cc
  operand_other n rest e a r (name {y} not_local fresh unwritten) own = fresh (subst (λ z. ComesStale assignments g z k note last) (sym (same_name own)) stale)
  operand_other n rest e a r (moved {m} {t} {more} {f} {x = z} {a = b} {r = q} def given) own = operand_other m more f b q given own
  operand_other n rest e a r (truncated def given) own = cc
  operand_other n rest e a r (operated def left right) own = cc

  -- So no instruction has.
  side_other : (n : ℕ) (rest : List Instruction) (e : End) (j : Instruction) (r : Recipe) → IsRightSide assignments g p k note last n rest e j r → r ≡ Of (Name x) → ⊥
  side_other n rest e j r (made_moved {x = z} {a} given) own = operand_other n rest e a r given own
  side_other n rest e j r (made_truncated given) own = cc
  side_other n rest e j r (made_operated left right) own = cc

  -- So the recipe of an assignment that goes is no name that is stale at the note.
  recipe_other : (y : ℕ) (r : Recipe) → IsRecipeOf assignments g p k note last y r → r ≡ Of (Name x) → ⊥
  recipe_other y r is own = (let d = is.dropped in side_other d.n d.rest d.end d.instruction r is.right own)

module _ (u v : UnitForm) (g : Graph) (blocks : List Block) (taken : IsTaken u v.log g blocks) (longer : (p variable : ℕ) → WasTaken u.log p variable → WasTaken v.log p variable) where
  module _ (hist after : History) (n p x variable : ℕ) (value : NoteValue) (rest : List Instruction) (e : End) (is_variable : IsVariable g x variable) (along : Path g hist n (Note x value ∷ rest) e) (place : place_of hist ≡ Some p)
      (followed : IsFollowed u v.log g blocks taken hist after n (Note x value ∷ rest) e) where
    -- the note, and what stands behind it
    abbrev note : List Instruction
    note = Note x value ∷ rest

    -- its scalar is one
    scalar : x < length g.scalars
    scalar = variable_scalar g.scalars x variable is_variable

    -- It was right,
    was_right : IsRightNote u g p x variable value
    was_right = taken.marked.right hist n p x variable value rest e is_variable along place

    -- and behind a write, if it was of the scalar itself.
    was_behind : value ≡ Is (Of (Name x)) → written g x hist ≡ true
    was_behind own = taken.marked.behind_write hist n x rest e (subst (λ w. Path g hist n (Note x w ∷ rest) e) own along)

    -- ---- Where the assignment of its scalar went

    module _ (d : IsDropped u.assignments g p x) where
      -- it was written in the place before
      dropped_written : WrittenIn g p x
      dropped_written = instruction d.instruction (in_place g d.n d.stands.block d.stands.before d.instruction d.rest p d.stands.is d.stands.instructions d.stands.place) (writes_target x d.instruction d.target)

      -- so the note was of the scalar itself,
      was_own : value ≡ Is (Of (Name x))
      was_own = by_right was_right
        where
          by_right : IsRightNote u g p x variable value → value ≡ Is (Of (Name x))
          by_right (inl own) = own.0
          by_right (inr another) = absurd (another.1 dropped_written)

      -- and the scalar is stale there.
      comes_stale : ComesStale u.assignments g x n note e
      comes_stale = elim (followed.still_written x (was_behind was_own)) [
        | inl lags ↦ record { history = hist; path = along; stale = lags.lags.stale }
        | inr still ↦ absurd (dropped_none g p x d (still.stays_written p place))
      ]

      -- Its recipe is another.
      dropped_other : (r : Recipe) → IsRecipeOf u.assignments g p n note e x r → Is r ≢ Is (Of (Name x))
      dropped_other r is own = recipe_other g p n note e x comes_stale x r is (same_is own)

      -- Nothing writes the scalar in the place after,
      dropped_unwritten : WrittenIn (reduced_graph g blocks) p x → ⊥
      dropped_unwritten w = dropped_none g p x d (written_stays u v.log g blocks taken p x w)

      -- and the log tells of it.
      dropped_removed : WasTaken v.log p variable
      dropped_removed = removal_was v.log p variable (taken.newer p x variable is_variable d)

      -- So what says another value is right.
      dropped_right : (w : NoteValue) → w ≢ Is (Of (Name x)) → IsRightNote v (reduced_graph g blocks) p x variable w
      dropped_right w another = inr (another, dropped_unwritten, dropped_removed)

      -- it cannot be that no change of the log tells of it
      dropped_logged : WasNeverRemoved v.log g p x → ⊥
      dropped_logged never = (let told = taken.newer p x variable is_variable d in never variable told.0 is_variable told.1)

    -- ---- Where the assignment went before

    module _ (l : IsLost u.assignments v.log g n note e x value) where
      -- so the note was not of the scalar itself
      abbrev WasAnother : Type 0
      WasAnother = (value ≢ Is (Of (Name x))) × (WrittenIn g p x → ⊥) × WasTaken u.log p variable

      -- it was another
      lost_another : WasAnother
      lost_another = by_right was_right
        where
          by_right : IsRightNote u g p x variable value → WasAnother
          by_right (inl own) = absurd (l.other (same_is (sym l.is ∙ own.0)))
          by_right (inr another) = another

      -- it cannot be that no change of the log tells of it
      lost_logged : WasNeverRemoved v.log g p x → ⊥
      lost_logged never = (let told = taken.older p variable lost_another.2 in never variable told.0 is_variable told.1)

    -- What was not written in the place is not written there after, and what was removed was.
    another_still : (w : NoteValue) → w ≢ Is (Of (Name x)) → (WrittenIn g p x → ⊥) → WasTaken u.log p variable → IsRightNote v (reduced_graph g blocks) p x variable w
    another_still w another none removed = inr (another, λ it. none (written_before u v.log g blocks taken p x it), longer p variable removed)

    -- A note that says what it said is right where the assignment of its scalar did not go.
    same_right : (IsDropped u.assignments g p x → ⊥) → IsRightNote u g p x variable value → IsRightNote v (reduced_graph g blocks) p x variable value
    same_right stayed (inl own) = inl (own.0, stays_written u v.log g blocks taken p x (written_kept u v.log g blocks taken p x scalar stayed own.1))
    same_right stayed (inr another) = another_still value another.0 another.1 another.2

    -- WHAT A NOTE SHALL SAY IS RIGHT.
    pub said_right : (w : NoteValue) → IsSaid u.assignments v.log g p n x value note e w → IsRightNote v (reduced_graph g blocks) p x variable w
    said_right w (recipe {r} is) = dropped_right is.dropped (Is r) (dropped_other is.dropped r is)
    said_right w (gone {number} d none scalar_is last) = dropped_right d (Gone number) gone_is
    said_right w (unlogged d none never) = absurd (dropped_logged d never)
    said_right w (lost {number} stayed l scalar_is is_first) = (let another = lost_another l in another_still (Gone number) gone_is another.1 another.2)
    said_right w (unlost stayed l never) = absurd (lost_logged l never)
    said_right w (stays stayed none) = same_right stayed was_right

    -- A note that says what it said stands behind a write that stays, if it is of the scalar itself.
    same_behind : (IsDropped u.assignments g p x → ⊥) → value ≡ Is (Of (Name x)) → written (reduced_graph g blocks) x after ≡ true
    same_behind stayed own = elim (followed.still_written x (was_behind own)) [
      | inl lags ↦ absurd (stayed (goes_dropped g p x scalar (lags.goes_here p place)))
      | inr still ↦ still.was_written
    ]

    -- AND WHERE IT IS OF THE SCALAR ITSELF, it stands behind a write.
    pub said_behind : (w : NoteValue) → IsSaid u.assignments v.log g p n x value note e w → w ≡ Is (Of (Name x)) → written (reduced_graph g blocks) x after ≡ true
    said_behind w (recipe {r} is) own = absurd (dropped_other is.dropped r is own)
    said_behind w (gone {number} d none scalar_is last) own = absurd (gone_is own)
    said_behind w (unlogged d none never) own = absurd (dropped_logged d never)
    said_behind w (lost {number} stayed l scalar_is is_first) own = absurd (gone_is own)
    said_behind w (unlost stayed l never) own = absurd (lost_logged l never)
    said_behind w (stays stayed none) own = same_behind stayed own

  -- ---- Notes at points to which paths come

  -- A note to which a path comes is what is left of one, in the place in force, and says what that shall say.
  record WasNote (hist : History) (n : ℕ) (i : Instruction) (rest : List Instruction) (e : End) (x : ℕ) (w : NoteValue) : Type 0 where
    value : NoteValue
    is : i ≡ Note x value
    p : ℕ
    stands : StandsWith g p n (Note x value ∷ rest) e
    says : IsSaid u.assignments v.log g p n x value (Note x value ∷ rest) e w

  -- So it was by what it is left of.
  was_note : (hist : History) (n : ℕ) (i j : Instruction) (rest : List Instruction) (e : End) (x : ℕ) (w : NoteValue) → Path g hist n (i ∷ rest) e → j ≡ Note x w → IsLeft u.assignments v.log g n rest e i j → WasNote hist n i rest e x w
  was_note hist n _ j rest e x w along one (left_stays stay (noted {p} {x = y} {v = value} {w = said} reached st says)) =
      let name : y ≡ x = note_name one in
      let what : said ≡ w = note_value one in
      record {
        value = value;
        is = ap (λ z. Note z value) name;
        p = p;
        stands = subst (λ z. StandsWith g p n (Note z value ∷ rest) e) name st;
        says = subst (λ z. IsSaid u.assignments v.log g p n x value (Note x value ∷ rest) e z) what (subst (λ z. IsSaid u.assignments v.log g p n z value (Note z value ∷ rest) e said) name says);
      }
  was_note hist n _ j rest e x w along one (left_stays stay (unreached none)) = absurd (none (record { history = hist; path = along }))
  was_note hist n _ j rest e x w along one (left_stays stay (other none)) = absurd (none x w one)
  was_note hist n _ j rest e x w along one (untargeted it_goes) = cc

  -- the place in which it stood is in force
  note_place : (hist : History) (n p x : ℕ) (value : NoteValue) (rest : List Instruction) (e : End) → Path g hist n (Note x value ∷ rest) e → StandsWith g p n (Note x value ∷ rest) e → place_of hist ≡ Some p
  note_place hist n p x value rest e along st = stands_path u g taken.valid taken.marked hist n (Note x value) rest e p along refl st

  -- and its scalar has a variable
  note_variable : (n p x : ℕ) (value : NoteValue) (rest : List Instruction) (e : End) → StandsWith g p n (Note x value ∷ rest) e → (variable : ℕ) × IsVariable g x variable
  note_variable n p x value rest e st =
      let block : IsBlock u g st.block = all_at (IsBlock u g) g.blocks n st.block taken.valid.blocks st.is in
      let valid : IsInstruction u g (Note x value) = all_within (IsInstruction u g) st.before (Note x value) rest (subst (λ l. AllByRecursion (IsInstruction u g) l) st.instructions block.instructions) in
      scalar_at g.scalars x valid.0

  -- Each note to which a path of the graph after comes is right.
  pub note_right : (after : History) (n p x variable : ℕ) (w : NoteValue) (rest : List Instruction) (e : End) → IsVariable g x variable → Path (reduced_graph g blocks) after n (Note x w ∷ rest) e → place_of after ≡ Some p
      → IsRightNote v (reduced_graph g blocks) p x variable w
  note_right after n p x variable w rest e is_variable along place =
      let c = path_next u v.log g blocks taken after n (Note x w) rest e along in
      let was = was_note c.hist n c.instruction (Note x w) c.rest e x w c.along refl c.left in
      let there : Path g c.hist n (Note x was.value ∷ c.rest) e = subst (λ i. Path g c.hist n (i ∷ c.rest) e) was.is c.along in
      let followed : IsFollowed u v.log g blocks taken c.hist after n (Note x was.value ∷ c.rest) e = subst (λ i. IsFollowed u v.log g blocks taken c.hist after n (i ∷ c.rest) e) was.is c.followed in
      let at : place_of c.hist ≡ Some was.p = note_place c.hist n was.p x was.value c.rest e there was.stands in
      let one : was.p ≡ p = same_Some was.p p (sym at ∙ sym c.followed.same_place ∙ place) in
      subst (λ q. IsRightNote v (reduced_graph g blocks) q x variable w) one (said_right c.hist after n was.p x variable was.value c.rest e is_variable there at followed w was.says)

  -- One that is of the scalar itself stands behind a write of it.
  pub note_behind : (after : History) (n x : ℕ) (rest : List Instruction) (e : End) → Path (reduced_graph g blocks) after n (Note x (Is (Of (Name x))) ∷ rest) e → written (reduced_graph g blocks) x after ≡ true
  note_behind after n x rest e along =
      let c = path_next u v.log g blocks taken after n (Note x (Is (Of (Name x)))) rest e along in
      let was = was_note c.hist n c.instruction (Note x (Is (Of (Name x)))) c.rest e x (Is (Of (Name x))) c.along refl c.left in
      let there : Path g c.hist n (Note x was.value ∷ c.rest) e = subst (λ i. Path g c.hist n (i ∷ c.rest) e) was.is c.along in
      let followed : IsFollowed u v.log g blocks taken c.hist after n (Note x was.value ∷ c.rest) e = subst (λ i. IsFollowed u v.log g blocks taken c.hist after n (i ∷ c.rest) e) was.is c.followed in
      let at : place_of c.hist ≡ Some was.p = note_place c.hist n was.p x was.value c.rest e there was.stands in
      let of = note_variable n was.p x was.value c.rest e was.stands in
      said_behind c.hist after n was.p x of.0 was.value c.rest e of.1 there at followed (Is (Of (Name x))) was.says refl
