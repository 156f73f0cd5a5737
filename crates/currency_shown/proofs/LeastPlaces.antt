-- Where a scalar is told of with a recipe, the change beside it is the least of its notes.
use Rattle.std.proofs.Common.{◌≡◌, ℕ, Option, Some, None, List, [], ◌∷◌, map, refl, ap, subst, ◌∙◌}
use Rattle.graph_core.specs.Graphs.{Instruction, Marker, Graph, End, Logged, binding_view, graph_view}
use Rattle.graph_core.specs.Paths.{Among, History, Path}
use Rattle.dead_pass_writes.specs.RemovedChangesTelling.{AreToldOf}
use Rattle.currency_notes.specs.declared.state.State as declared-state
use Rattle.currency_notes.specs.Notes.{told_in, IsAtMost, IsSo}
use Rattle.currency_notes.specs.Sources.{IsAttained, IsSource}
use Rattle.currency_notes.proofs.Sourcing.{attained_equal, attained_next, attained_step}
use Rattle.currency_shown.specs.declared.found.LastNote as declared-last
use Rattle.currency_shown.specs.declared.found.Unshown as declared-unshown
use Rattle.currency_shown.specs.declared.found.Found as declared-found
use Rattle.currency_shown.specs.declared.states.States as declared-states
use Rattle.currency_shown.specs.declared.survey.Survey as declared-survey
use Rattle.currency_shown.specs.Chains.{AreFull}
use Rattle.currency_shown.specs.Found.{entries_of, Shows}
use Rattle.currency_shown.specs.Survey.{IsFound, IsWalked}
use Rattle.currency_shown.specs.Shown.{AreLeast, IsLeastAt}
use Rattle.currency_shown.proofs.Carried.{carried_at, IsCarried}
use Rattle.currency_shown.proofs.OnPaths.{least_at}

module _ (v : declared-survey.Survey) (states : declared-states.States) (f : declared-found.Found) (entered : declared-state.State) (done : IsWalked v states f entered)
    (so : IsSo v.function.now.homes (map binding_view v.function.now.graph.now.parameters.items) entered []) (full : AreFull v.function.now states)
    (log : List Logged) (told : AreToldOf log v.function.now.removed.now) where
  abbrev g : Graph
  g = graph_view v.function.now.graph.now

  -- that each change that is told is some note's is carried
  carried : IsCarried v states (λ s n rest e. IsAttained log g s n rest e)
  carried = record {
    start = λ l t b comes at. (full.each l t comes b at).attained log told;
    equal = λ s t n rest e same here. attained_equal log g n rest e s t same here;
    step = λ s t n i rest e step here. attained_step log g s t n i rest e (step.told log told) here;
    next = λ s n l e b among at here. attained_next log g n l e b s among at here;
  }

  -- what is told at a place of an entry
  said : (s : declared-state.State) (x : ℕ) (u : declared-unshown.Unshown) (l : declared-last.LastNote) → Among u (entries_of f.unshown.items x) → u.last ≡ Some l → IsFound v f s u.place.0 → told_in s.noted.items x ≡ Some l.change
  said s x u l among last found = (subst (λ o. Shows v.function.now.homes s x o) last (found.shown x u among refl)).3

  pub are_least : AreLeast log g f.unshown.items
  are_least x u l among last = at_change l.change refl
    where
      -- no change is less on a path
      no_less : (h : History) (n : ℕ) (rest : List Instruction) (e : End) → Path g h n (Marker u.place.0 ∷ rest) e → (other : ℕ) → IsSource log g x h other → IsAtMost l.change other
      no_less h n rest e way other source =
          let at = least_at v states f entered done so way in
          at.1 log told x l.change other (said at.0 x u l among last at.2) source

      at_change : (c : Option ℕ) → l.change ≡ c → IsLeastAt log g u.place.0 x c
      at_change None is = λ h n rest e way other source. subst (λ (o : Option ℕ). IsAtMost o other) is (no_less h n rest e way other source)
      at_change (Some c) is = λ h n rest e way.
          (let at = carried_at v states f entered done (λ s k left d. IsAttained log g s k left d) carried h n u.place.0 rest e way in
          let one = at.1.source x c (said at.0 x u l among last at.2 ∙ ap Some is) in
          record {
            is = (one.0, n, rest, e, one.1, one.2);
            least = λ k m left d other_way other source. subst (λ (o : Option ℕ). IsAtMost o other) is (no_less k m left d other_way other source);
          })
