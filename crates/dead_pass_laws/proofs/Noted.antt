-- Each note that a path comes to says after what it said before, or that the value is gone.
use Rattle.std.proofs.Common.{◌≡◌, ℕ, zero, suc, ◌<◌, inl, inr, true, Option, Some, List, [], ◌∷◌, ◌++◌, length, refl, sym, ap, ◌∙◌, subst, arith}
use Rattle.std.specs.List.{AllByRecursion}
use Rattle.std.specs.Prelude.{◌==◌, ◌&&◌, slice_get, option_map}
use Rattle.std.proofs.lemmas.Bool.{cases_Bool, and_parts, eqb-true}
use Rattle.std.proofs.lemmas.Option.{same_Some}
use Rattle.graph_core.specs.declared.value.Value.{Value}
use Rattle.graph_core.specs.Graphs.{Name, Recipe, Of, NoteValue, Is, Gone, Instruction, Note, Scalar, End, Block, Graph, Logged, UnitForm}
use Rattle.graph_core.specs.Runs.{recipe_value}
use Rattle.graph_core.specs.Paths.{History, Path, place_of, is_bound, written}
use Rattle.graph_core.specs.Points.{StandsWith, assignments_in}
use Rattle.graph_core.specs.Uses.{target_of}
use Rattle.graph_core.specs.Validity.{IsInstruction, IsBlock, place_behind}
use Rattle.graph_core.specs.WellMarked.{StandsIn, here, behind, InPlace, IsVariable, WrittenIn, instruction, IsRightNote}
use Rattle.dead_pass_rule.specs.Idle.{Goes}
use Rattle.dead_pass_notes.specs.Said.{IsDropped, IsSaid, recipe, gone, unlogged, lost, unlost, stays, IsLost, IsRecipeOf, WasNeverRemoved}
use Rattle.dead_pass_notes.specs.Stale.{IsStale, ComesStale}
use Rattle.dead_pass_laws.proofs.Back.{From, from_note}
use Rattle.dead_pass_laws.proofs.Came.{Came}
use Rattle.dead_pass_laws.proofs.Entry.{plain_target, goes_once, bound_fresh}
use Rattle.dead_pass_laws.proofs.Lists.{all_at, all_within}
use Rattle.dead_pass_laws.proofs.Moves.{NotesHold}
use Rattle.dead_pass_laws.proofs.Points.{stands_path}
pub use Rattle.dead_pass_laws.proofs.Points.{behind_one}
use Rattle.dead_pass_laws.proofs.Recipes.{IsReader, last_reader, once_last, written_value}
use Rattle.dead_pass_laws.proofs.Still.{SaysStill, is_gone, is_same}
use Rattle.dead_pass_laws.proofs.Values.{recipe_same, writes_target}
use Rattle.dead_pass_laws.proofs.Walks.{IsLast, HasLast, has_last}

-- ---- Places, and variables of scalars

-- what stands behind instructions stands in the place that is in force behind them
stands_in : (p : ℕ) (i : Instruction) (rest before : List Instruction) (place : Option ℕ) → place_behind before place ≡ Some p → StandsIn p i place (before ++ i ∷ rest)
stands_in p i rest [] place at = subst (λ o. StandsIn p i o (i ∷ rest)) (sym at) here
stands_in p i rest (j ∷ before) place at = behind (stands_in p i rest before (place_behind (j ∷ []) place) (behind_one j before place ∙ at))

-- What stands at a point in a place stands in that place, and a scalar that it writes is written there.
in_place : (g : Graph) (p n : ℕ) (i : Instruction) (rest : List Instruction) (e : End) → StandsWith g p n (i ∷ rest) e → InPlace g p i
in_place g p n i rest e s = record { number = n; block = s.block; is = s.is; stands = subst (λ l. StandsIn p i s.block.place l) (sym s.instructions) (stands_in p i rest s.before s.block.place s.place) }

-- so a name that it writes is written in that place
written_in : (g : Graph) (p x n : ℕ) (i : Instruction) (rest : List Instruction) (e : End) → StandsWith g p n (i ∷ rest) e → target_of i ≡ Some x → WrittenIn g p x
written_in g p x n i rest e s target = instruction i (in_place g p n i rest e s) (writes_target x i target)

-- Each scalar has a variable.
pub scalar_at : (all : List Scalar) (x : ℕ) → x < length all → (variable : ℕ) × (option_map (λ (s : Scalar). s.variable) (slice_get all x) ≡ Some variable)
scalar_at [] x less = absurd (omega (arith, less))
scalar_at (s ∷ all) zero less = (s.variable, refl)
scalar_at (s ∷ all) (suc x) less = scalar_at all x (omega (arith, less))

-- Notes that say the same say the same recipe.
pub same_is : {r s : Recipe} → Is r ≡ Is s → r ≡ s
same_is e = cc

module _ (u : UnitForm) (log : List Logged) (g : Graph) (blocks : List Block) (names others : ℕ → Value) (n p x : ℕ) (v : NoteValue) (rest : List Instruction) (e : End) (came : Came u log g blocks names others n (Note x v ∷ rest) e) (stands : StandsWith g p n (Note x v ∷ rest) e) where
  -- the path that came to the note
  abbrev whole : History
  whole = came.history

  -- the note, and what stands behind it
  abbrev note : List Instruction
  note = Note x v ∷ rest

  -- what is so at a point from which the way goes on to the note
  abbrev FromHere : (h : History) (m : ℕ) (left : List Instruction) (f : End) → Type 0
  FromHere = From u log g blocks came.taken n note e came.first others whole came.along

  -- an instruction is the last before the note that wrote a name
  abbrev IsLastOf : (y m : ℕ) (j : Instruction) (more : List Instruction) (f : End) → Type 0
  IsLastOf y m j more f = IsLast u log g blocks came.taken n note e came.first others whole came.along whole p y m j more f

  -- the place of the note is in force
  place : place_of whole ≡ Some p
  place = stands_path u g came.taken.valid came.taken.marked whole n (Note x v) rest e p came.along refl stands

  -- the scalar of the note
  block_valid : IsBlock u g stands.block
  block_valid = all_at (IsBlock u g) g.blocks n stands.block came.taken.valid.blocks stands.is

  -- so the note is valid
  note_valid : IsInstruction u g (Note x v)
  note_valid = all_within (IsInstruction u g) stands.before (Note x v) rest (subst (λ l. AllByRecursion (IsInstruction u g) l) stands.instructions block_valid.instructions)

  -- and its scalar has a variable
  scalar : (variable : ℕ) × IsVariable g x variable
  scalar = scalar_at g.scalars x note_valid.0

  -- A name that is not stale at the note agrees there.
  fresh_agrees : (y : ℕ) → (ComesStale u.assignments g y n note e → ⊥) → others y ≡ names y
  fresh_agrees y fresh = elim (came.agree y) [
    | inl lags ↦ absurd (fresh (record { history = whole; path = came.along; stale = lags.stale }))
    | inr one ↦ one
  ]

  -- so it is at the note itself
  starts : FromHere whole n note e
  starts = from_note u log g blocks came.taken n note e came.first others whole came.along came.are_true (λ y fresh. sym (fresh_agrees y fresh ∙ ap (λ (f : ℕ → Value). f y) came.holds))

  -- The note is right.
  right : IsRightNote u g p x scalar.0 v
  right = came.taken.marked.right whole n p x scalar.0 v rest e scalar.1 came.along place

  -- Where it is of the scalar itself, the scalar was written in its place.
  own_written : v ≡ Is (Of (Name x)) → written g x whole ≡ true
  own_written is = came.taken.marked.behind_write whole n x rest e (subst (λ w. Path g whole n (Note x w ∷ rest) e) is came.along)

  -- ---- The assignment of the scalar in the place went

  -- the note is of the scalar itself
  own_note : IsDropped u.assignments g p x → v ≡ Is (Of (Name x))
  own_note d = by_right right
    where
      by_right : IsRightNote u g p x scalar.0 v → v ≡ Is (Of (Name x))
      by_right (inl own) = own.0
      by_right (inr another) = absurd (another.1 (written_in g p x d.n d.instruction d.rest d.end d.stands d.target))

  -- Its recipe gives what the scalar held before.
  recipe_still : (r : Recipe) → IsRecipeOf u.assignments g p n note e x r → SaysStill u.statics names others v (Is r)
  recipe_still r is =
      let d = is.dropped in
      let own : v ≡ Is (Of (Name x)) = own_note d in
      let l : IsLastOf x d.n d.instruction d.rest d.end = once_last u log g blocks came.taken n note e came.first others whole came.along p whole n note e x d.n d.instruction d.rest d.end starts place (own_written own) d.once d.stands d.target in
      let reader : IsReader u log g blocks came.taken n note e came.first others whole came.along p l.history d.n d.instruction d.rest d.end l.wrote =
      last_reader u log g blocks came.taken n note e came.first others whole came.along p whole x d.n d.instruction d.rest d.end l (λ y target. inr (subst (λ z. z < length g.scalars) (same_Some x y (sym d.target ∙ target)) note_valid.0, d.goes)) in
      let value = written_value u log g blocks came.taken n note e came.first others whole came.along p d.n d.rest d.end d.instruction r is.right l.history l.wrote reader l.is in
      subst (λ w. SaysStill u.statics names others w (Is r)) (sym own) (is_same (value ∙ sym l.value ∙ sym (ap (λ (f : ℕ → Value). f x) came.holds)))

  -- ---- It did not

  module _ (stayed : IsDropped u.assignments g p x → ⊥) where
    -- a write of the scalar in the place does not go
    goes_not : (m : ℕ) (j : Instruction) (more : List Instruction) (f : End) (h : History) → Path g h m (j ∷ more) f → place_of h ≡ Some p → target_of j ≡ Some x → Goes u.assignments g m (j ∷ more) f → ⊥
    goes_not m j more f h along at target goes =
        let o = goes_once g x m j more f target note_valid.0 goes in
        let one : o.place ≡ p = same_Some o.place p (sym (stands_path u g came.taken.valid came.taken.marked h m j more f o.place along (plain_target x j target) o.stands) ∙ at) in
        stayed (record { n = m; instruction = j; rest = more; end = f; stands = subst (λ q. StandsWith g q m (j ∷ more) f) one o.stands; target = target; once = sym (ap (λ q. assignments_in g q x) one) ∙ o.once; goes = goes })

    -- Then the scalar is not stale at a note of itself,
    own_fresh : v ≡ Is (Of (Name x)) → IsStale u.assignments g x whole → ⊥
    own_fresh own stale = elim (cases_Bool (p == g.entry && is_bound x g.parameters)) [
      | inl bound ↦ (let at_entry : p ≡ g.entry = eqb-true p g.entry (and_parts (p == g.entry) (is_bound x g.parameters) bound).0 in
          bound_fresh u log g blocks came.taken x note_valid.0 (sym (ap (λ q. q == g.entry && is_bound x g.parameters) at_entry) ∙ bound) whole n note e came.along (place ∙ ap (λ q. Some q) at_entry) stale)
      | inr free ↦ (let has : HasLast u log g blocks came.taken n note e came.first others whole came.along whole p x = has_last u log g blocks came.taken n note e came.first others whole came.along p x free whole n note e came.along starts (own_written own) place in
          let l = has.found in
          goes_not has.block has.write has.more has.end l.history l.from.along l.place l.target (l.stale stale))
    ]

    -- and it agrees there.
    own_agrees : v ≡ Is (Of (Name x)) → others x ≡ names x
    own_agrees own = elim (came.agree x) [
      | inl lags ↦ absurd (own_fresh own lags.stale)
      | inr one ↦ one
    ]

    -- A note that says what it said gives what it gave.
    still_same : (IsLost u.assignments log g n note e x v → ⊥) → SaysStill u.statics names others v v
    still_same found = by_value v refl
      where
        by_value : (w : NoteValue) → v ≡ w → SaysStill u.statics names others w w
        by_value (Gone change) is = is_gone
        by_value (Is r) is = is_same (by_right right)
          where
            by_right : IsRightNote u g p x scalar.0 v → recipe_value u.statics others r ≡ recipe_value u.statics names r
            by_right (inl own) =
                let of : r ≡ Of (Name x) = same_is (sym is ∙ own.0) in
                ap (recipe_value u.statics others) of ∙ own_agrees own.0 ∙ sym (ap (recipe_value u.statics names) of)
            by_right (inr another) = recipe_same u.statics names others r
                (λ y among. fresh_agrees y (λ stale. found (record { r = r; is = is; other = λ of. another.0 (is ∙ ap Is of); y = y; named = among; stale = stale })))

  -- ---- What the log tells

  -- Of an assignment that went now some change tells, and of one that went before.
  logged_now : IsDropped u.assignments g p x → WasNeverRemoved log g p x → ⊥
  logged_now d never = (let told = came.taken.newer p x scalar.0 scalar.1 d in never scalar.0 told.0 scalar.1 told.1)

  -- and so it does of one that went before
  logged_before : IsLost u.assignments log g n note e x v → WasNeverRemoved log g p x → ⊥
  logged_before l never = by_right right
    where
      by_right : IsRightNote u g p x scalar.0 v → ⊥
      by_right (inl own) = l.other (same_is (sym l.is ∙ own.0))
      by_right (inr another) = (let told = came.taken.older p scalar.0 another.2 in never scalar.0 told.0 scalar.1 told.1)

  -- THE NOTE SAYS AFTER WHAT IT SAID BEFORE, or that the value is gone.
  pub note_holds : (w : NoteValue) → IsSaid u.assignments log g p n x v note e w → SaysStill u.statics names others v w
  note_holds w (recipe {r} is) = recipe_still r is
  note_holds w (gone {number} dropped no_recipe scalar_is last) = is_gone
  note_holds w (unlogged dropped no_recipe never) = absurd (logged_now dropped never)
  note_holds w (lost {number} stayed found scalar_is is_first) = is_gone
  note_holds w (unlost stayed found never) = absurd (logged_before found never)
  note_holds w (stays stayed found) = still_same stayed found

-- So all notes hold.
pub notes_hold : (u : UnitForm) (log : List Logged) → NotesHold u log
notes_hold u log g blocks names others n p x k m rest e came stands said = note_holds u log g blocks names others n p x k rest e came stands m said
