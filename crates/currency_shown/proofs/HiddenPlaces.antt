-- Where a scalar is told of with no recipe, none holds on all paths.
use Rattle.std.proofs.Common.{◌≡◌, ℕ, ◌<◌, Option, Some, None, List, ◌∷◌, length, refl, subst}
use Rattle.graph_homes.specs.Homes.{HoldsOnAllPaths}
use Rattle.graph_core.specs.Graphs.{Instruction, Marker, Recipe, Of, Name, Graph, End, graph_view}
use Rattle.currency_notes.specs.declared.homes.Homes as declared-homes
use Rattle.currency_notes.specs.declared.state.State as declared-state
use Rattle.currency_notes.specs.Homes.{home_by, number_at}
use Rattle.currency_notes.specs.Notes.{recipe_in, AreHeld}
use Rattle.currency_notes.specs.Numbered.{IsNoteIn}
use Rattle.currency_notes.specs.Full.{AreExact, IsFullAt}
use Rattle.currency_notes.proofs.Filling.{full_equal, full_next, full_step, path_note}
use Rattle.currency_shown.specs.declared.found.LastNote as declared-last
use Rattle.currency_shown.specs.declared.found.Found as declared-found
use Rattle.currency_shown.specs.declared.states.States as declared-states
use Rattle.currency_shown.specs.declared.survey.Survey as declared-survey
use Rattle.currency_shown.proofs.Carried.{carried_at, IsCarried}
use Rattle.currency_shown.specs.Chains.{AreFull}
use Rattle.currency_shown.specs.Found.{IsShownBy, Shows}
use Rattle.currency_shown.specs.Survey.{IsWalked}
use Rattle.currency_shown.specs.Shown.{AreHidden}

module _ (v : declared-survey.Survey) (states : declared-states.States) (f : declared-found.Found) (entered : declared-state.State) (done : IsWalked v states f entered)
    (exact : AreExact v.function.now) (full : AreFull v.function.now states) where
  abbrev g : Graph
  g = graph_view v.function.now.graph.now

  abbrev m : declared-homes.Homes
  m = v.function.now.homes

  -- what holds on all paths is so in a full state
  module _ (s : declared-state.State) (n p : ℕ) (rest : List Instruction) (e : End) (here : IsFullAt v.function.now s n (Marker p ∷ rest) e) (x : ℕ) (lt : x < length g.scalars) (r : Recipe) (holds : HoldsOnAllPaths (home_by m) g p x r)
      (within : (y : ℕ) → number_at (home_by m y) < length m.numbers.items) where
    said : recipe_in s.noted.items x ≡ Some r
    said = here.noted x r lt (λ h way. (let k = holds h n rest e way in record { note = k.note; before = k.before }))

    note : IsNoteIn g x r
    note = path_note g here.history n (Marker p ∷ rest) e here.way x r lt (holds here.history n rest e here.way).note

    held : AreHeld m s r
    held y among = (let k = exact.numbered.given x r note y among (within y) in (k.0, k.1, here.written y k.0 k.1 (λ h way. (holds h n rest e way).own y among)))

  none_holds : (s : declared-state.State) (n p : ℕ) (rest : List Instruction) (e : End) → IsFullAt v.function.now s n (Marker p ∷ rest) e → (x : ℕ) → x < length g.scalars → Shows m s x None → (IsShownBy m s x → ⊥) → ((y : ℕ) → number_at (home_by m y) < length m.numbers.items)
      → (r : Recipe) → HoldsOnAllPaths (home_by m) g p x r → ⊥
  none_holds s n p rest e here x lt shows apart within r holds =
      let own : r ≡ Of (Name x) = shows r (said s n p rest e here x lt r holds within) (held s n p rest e here x lt r holds within) in
      apart (subst (λ (q : Recipe). recipe_in s.noted.items x ≡ Some q) own (said s n p rest e here x lt r holds within), subst (λ (q : Recipe). AreHeld m s q) own (held s n p rest e here x lt r holds within))

  -- a full state is carried
  carried : IsCarried v states (λ s n rest e. IsFullAt v.function.now s n rest e)
  carried = record {
    start = λ l t b comes at. (full.each l t comes b at).full exact;
    equal = λ s t n rest e same here. full_equal m g n rest e s t same here;
    step = λ s t n i rest e step here. full_step m g exact.told exact.numbered n i rest e s t step.kept here;
    next = λ s n l e b among at here. full_next m g n l e b s among at here;
  }

  pub are_hidden : ((y : ℕ) → number_at (home_by m y) < length m.numbers.items) → AreHidden (home_by m) g f.unshown.items
  are_hidden within x u among none lt h n rest e way r holds =
      let at = carried_at v states f entered done (λ s k left d. IsFullAt v.function.now s k left d) carried h n u.place.0 rest e way in
      none_holds at.0 n u.place.0 rest e at.1 x lt (subst (λ (o : Option declared-last.LastNote). Shows m at.0 x o) none (at.2.shown x u among refl)) (at.2.apart x u among refl) within r holds
