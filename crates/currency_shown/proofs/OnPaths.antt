-- What a walk bears out is so on all paths.
use Rattle.std.proofs.Common.{◌≡◌, inl, inr, ℕ, Option, Some, None, List, [], ◌∷◌, ◌<◌, length, map, refl, sym, ap, subst, ◌∙◌}
use Rattle.std.specs.Prelude.{slice_get, option_map}
use Rattle.std.proofs.lemmas.Option.{none-some, same_Some, slice_get-map, slice_get_within}
use Rattle.std.proofs.lemmas.List.{length-map}
use Rattle.places.specs.declared.table.PlaceRow as declared-row
use Rattle.graph_core.specs.declared.graph.Scalar as declared-scalar
use Rattle.graph_core.specs.declared.block.Block as declared-block
use Rattle.graph_core.specs.Graphs.{Instruction, Marker, Scalar, Block, Graph, End, Logged, Jump, Of, Name, block_view, binding_view, graph_view, recipe_view, scalar_view}
use Rattle.graph_core.specs.Paths.{Among, History, Path, Way, path, stays, passes, goes}
use Rattle.graph_core.specs.Uses.{targets_of}
use Rattle.graph_core.specs.WellMarked.{IsVariable}
use Rattle.currency_notes.specs.declared.homes.Homes as declared-homes
use Rattle.currency_notes.specs.declared.state.State as declared-state
use Rattle.currency_notes.specs.Notes.{IsSo}
use Rattle.currency_notes.specs.Homes.{home_by}
use Rattle.currency_notes.proofs.Lists.{among_one, at_among}
use Rattle.currency_notes.proofs.Filling.{within_equal}
use Rattle.currency_notes.proofs.Steps.{shown_by, so_within}
use Rattle.currency_notes.proofs.Sourcing.{least_first, least_step, least_within}
use Rattle.currency_notes.specs.Sources.{IsLeastTold}
use Rattle.dead_pass_writes.specs.RemovedChangesTelling.{AreToldOf}
use Rattle.graph_core.specs.declared.value.Value.{Value}
use Rattle.currency_shown.specs.declared.found.Found as declared-found
use Rattle.currency_shown.specs.declared.states.States as declared-states
use Rattle.currency_shown.specs.Chains.{comes_to, IsWithinSome}
use Rattle.currency_shown.specs.declared.survey.Survey as declared-survey
use Rattle.currency_shown.specs.Numbering.{AreNumbered, IsNumberOf, scalar_in}
use Rattle.currency_shown.specs.Found.{Shows}
use Rattle.currency_shown.specs.Survey.{IsChainSound, IsFound, IsSound, IsStartWithin, IsWalked}
use Rattle.currency_shown.specs.Shown.{AreDifferent, ArePlaced, AreOther, AreOwn, AreRecipes, AreVisible}

module _ (v : declared-survey.Survey) (states : declared-states.States) (f : declared-found.Found) (entered : declared-state.State) (done : IsWalked v states f entered)
    (so : IsSo v.function.now.homes (map binding_view v.function.now.graph.now.parameters.items) entered []) where
  abbrev g : Graph
  g = graph_view v.function.now.graph.now

  abbrev m : declared-homes.Homes
  m = v.function.now.homes

  -- no change is less than is told, of each log that was looked at
  abbrev IsLeastOf : declared-state.State → History → Type 0
  IsLeastOf s h = (log : List Logged) → AreToldOf log v.function.now.removed.now → IsLeastTold log g s h

  -- a point behind a history, with a state that is so there, and sound from there on
  record IsAt (h : History) (n : ℕ) (rest : List Instruction) (e : End) : Type 0 where
    state : declared-state.State
    last : declared-state.State
    more : List ℕ
    is : IsSo m g.parameters state h
    least : IsLeastOf state h
    walked : IsSound v f n rest state last
    chained : IsChainSound v states f more e last

  -- a block of the view
  one_block : (l : ℕ) (b : Block) → slice_get g.blocks l ≡ Some b → (d : declared-block.Block) → slice_get v.function.now.graph.now.blocks.items l ≡ Some d → block_view d ≡ b
  one_block l b at d is = same_Some (block_view d) b (sym (slice_get-map block_view v.function.now.graph.now.blocks.items l ∙ ap (λ o. option_map block_view o) is) ∙ at)

  -- the number of a block of the view
  small : (l : ℕ) (b : Block) → slice_get g.blocks l ≡ Some b → l < length v.function.now.graph.now.blocks.items
  small l b at = subst (λ n. l < n) (length-map v.function.now.graph.now.blocks.items block_view) (slice_get_within g.blocks l b at)

  -- the first block of a chain
  at_start : (l : ℕ) (b : Block) (s : declared-state.State) (h : History) → slice_get g.blocks l ≡ Some b → IsStartWithin v states l s → IsSo m g.parameters s h → IsLeastOf s h → IsAt h l b.instructions b.end
  at_start l b s h at begin here less = at_state (comes_to states l) refl begin.1
    where
      at_state : (o : Option declared-state.State) → comes_to states l ≡ o → IsWithinSome o s → IsAt h l b.instructions b.end
      at_state None e within = elim within [ ]
      at_state (Some t) e within =
          let c = begin.0 in
          let r = done.sound c.chain (at_among v.chains.now c.index c.chain c.is) l c.more c.begins t e in
          let chain : IsChainSound v states f (l ∷ c.more) (Jump l) r.0 = subst (λ (ls : List ℕ). IsChainSound v states f ls (Jump l) r.0) c.begins r.2 in
          let one = one_block l b at chain.1.0 chain.1.1 in
          record {
            state = r.0;
            last = chain.1.2.0;
            more = c.more;
            is = so_within m g.parameters r.0 t h (within_equal r.0 t r.1) (so_within m g.parameters t s h within here);
            least = λ log told. least_within log g r.0 t h (within_equal r.0 t r.1) (least_within log g t s h within (less log told));
            walked = subst (λ (d : Block). IsSound v f l d.instructions r.0 chain.1.2.0) one chain.1.2.1;
            chained = subst (λ (d : Block). IsChainSound v states f c.more d.end chain.1.2.0) one chain.1.2.2;
          }

  at_passed : (h : History) (n : ℕ) (i : Instruction) (left : List Instruction) (e : End) (value : Value) → IsAt h n (i ∷ left) e → IsAt (record { block = n; left = length left; instruction = i; wrote = value } ∷ h) n left e
  at_passed h n i left e value at = record {
    state = at.walked.1.0;
    last = at.last;
    more = at.more;
    is = at.walked.1.1.so g.parameters (record { block = n; left = length left; instruction = i; wrote = value }) h refl at.is;
    least = λ log told. least_step log g at.state at.walked.1.0 (record { block = n; left = length left; instruction = i; wrote = value }) h (at.walked.1.1.told log told) (at.least log told);
    walked = at.walked.1.2;
    chained = at.chained;
  }

  at_next : (h : History) (e : End) (l : ℕ) (b : Block) → Among l (targets_of e) → slice_get g.blocks l ≡ Some b → (s t : declared-state.State) (more : List ℕ) → IsSo m g.parameters s h → IsLeastOf s h → s ≡ t → IsChainSound v states f more e t → IsAt h l b.instructions b.end
  at_next h e l b among at s t [] here less same chained =
      at_start l b t h at (chained l among (small l b at)) (subst (λ (u : declared-state.State). IsSo m g.parameters u h) same here) (subst (λ (u : declared-state.State). IsLeastOf u h) same less)
  at_next h e l b among at s t (n ∷ more) here less same chained =
      let one : l ≡ n = among_one (subst (λ (d : End). Among l (targets_of d)) chained.0 among) in
      let there : slice_get g.blocks n ≡ Some b = subst (λ k. slice_get g.blocks k ≡ Some b) one at in
      let same_block = one_block n b there chained.1.0 chained.1.1 in
      record {
        state = t;
        last = chained.1.2.0;
        more = more;
        is = subst (λ (u : declared-state.State). IsSo m g.parameters u h) same here;
        least = subst (λ (u : declared-state.State). IsLeastOf u h) same less;
        walked = subst (λ k. IsSound v f k b.instructions t chained.1.2.0) (sym one) (subst (λ (d : Block). IsSound v f n d.instructions t chained.1.2.0) same_block chained.1.2.1);
        chained = subst (λ (d : Block). IsChainSound v states f more d.end chained.1.2.0) same_block chained.1.2.2;
      }

  on_way : {b : Block} {h : History} {n : ℕ} {rest : List Instruction} {e : End} → slice_get g.blocks 0 ≡ Some b → Way g 0 b.instructions b.end h n rest e → IsAt h n rest e
  on_way {b} at stays = at_start 0 b entered [] at (done.begins (small 0 b at)) so (λ log told. least_first log g entered)
  on_way at (passes {h} {n} {i} {left} {e} way value) = at_passed h n i left e value (on_way at way)
  on_way at (goes {h} {n} {l} {e} way among b is) = (let here = on_way at way in at_next h e l b among is here.state here.last here.more here.is here.least here.walked here.chained)

  on_path : {h : History} {n : ℕ} {rest : List Instruction} {e : End} → Path g h n rest e → IsAt h n rest e
  on_path (path b at way) = on_way at way

  -- what is found at a marker
  found_at : {h : History} {n : ℕ} {p : ℕ} {rest : List Instruction} {e : End} → Path g h n (Marker p ∷ rest) e → (s : declared-state.State) × IsSo m g.parameters s h × IsFound v f s p
  found_at {h} {n} {p} way = (let at = on_path way in (at.state, at.is, at.walked.0 p refl))

  -- with no less change than is told
  pub least_at : {h : History} {n : ℕ} {p : ℕ} {rest : List Instruction} {e : End} → Path g h n (Marker p ∷ rest) e → (s : declared-state.State) × IsLeastOf s h × IsFound v f s p
  least_at {h} {n} {p} way = (let at = on_path way in (at.state, at.least, at.walked.0 p refl))

  pub are_placed : ArePlaced g v.number v.table.now
  are_placed h n p rest e way = (let at = found_at way in record { row = at.2.row; some = at.2.some; is = at.2.is; of = at.2.of })

  numbered : AreNumbered v.numbering v.function.now.graph.now.scalars.items → (x variable : ℕ) → IsVariable g x variable → scalar_in v.numbering variable ≡ Some x
  numbered each x variable is = at_scalar (slice_get v.function.now.graph.now.scalars.items x) refl
    where
      at_scalar : (o : Option declared-scalar.Scalar) → slice_get v.function.now.graph.now.scalars.items x ≡ o → scalar_in v.numbering variable ≡ Some x
      at_scalar None e = absurd (none-some variable (sym (ap (λ q. option_map (λ (s : Scalar). s.variable) q) (slice_get-map scalar_view v.function.now.graph.now.scalars.items x ∙ ap (λ o. option_map scalar_view o) e)) ∙ is))
      at_scalar (Some s) e =
          let of : s.var.0 ≡ variable = same_Some s.var.0 variable (sym (ap (λ q. option_map (λ (s : Scalar). s.variable) q) (slice_get-map scalar_view v.function.now.graph.now.scalars.items x ∙ ap (λ o. option_map scalar_view o) e)) ∙ is) in
          subst (λ n. scalar_in v.numbering n ≡ Some x) of (each x s e)

  pub are_different : AreNumbered v.numbering v.function.now.graph.now.scalars.items → AreDifferent g
  are_different each x y variable one other = same_Some x y (sym (numbered each x variable one) ∙ numbered each y variable other)

  pub are_own : AreNumbered v.numbering v.function.now.graph.now.scalars.items → AreOwn (home_by m) g v.table.now f.unshown.items
  are_own each p x variable is visible none h n rest e way =
      let at = found_at way in
      let found = at.2 in
      let one : visible.row ≡ found.row = same_Some visible.row found.row (sym visible.is ∙ found.is) in
      let among : Among visible.var found.row.visible.items = subst (λ (r : declared-row.PlaceRow). Among visible.var r.visible.items) one visible.among in
      let number : scalar_in v.numbering visible.var.0 ≡ Some x = ap (λ k. scalar_in v.numbering k) visible.of ∙ numbered each x variable is in
      elim (found.told visible.var x among number) [
        | inl a ↦ shown_by m g at.0 h x (Of (Name x)) at.1 a.0 a.1
        | inr b ↦ absurd (none b.0 b.1 b.2)
      ]

  pub are_recipes : AreRecipes (home_by m) g f.unshown.items
  are_recipes x u l among last h n rest e way =
      let at = found_at way in
      let shown = subst (λ o. Shows m at.0 x o) last (at.2.shown x u among refl) in
      shown_by m g at.0 h x (recipe_view l.recipe.now) at.1 shown.0 shown.1

  pub are_other : AreOther g f.unshown.items
  are_other x u l among last h n rest e way =
      let at = found_at way in
      (subst (λ o. Shows m at.0 x o) last (at.2.shown x u among refl)).2

  -- each place that is told of is one where the scalar's variable is visible
  pub are_visible : ((w x : ℕ) → scalar_in v.numbering w ≡ Some x → IsNumberOf v.function.now.graph.now.scalars.items w x) → AreVisible g v.table.now f.unshown.items
  are_visible only x variable u among is =
      let met = done.met.each x u among in
      let seen = met.3 in
      let one = only seen.seen.0.0 x seen.seen.2 in
      let same : variable ≡ seen.seen.0.0 = same_variable one.0 one.1 is ∙ one.2 in
      record { row = seen.row; var = seen.seen.0; some = met.1.some; is = seen.is; among = seen.seen.1; of = sym same }
    where
      same_variable : (s : declared-scalar.Scalar) → slice_get v.function.now.graph.now.scalars.items x ≡ Some s → IsVariable g x variable → variable ≡ s.var.0
      same_variable s e q = sym (same_Some s.var.0 variable (sym (ap (λ z. option_map (λ (t : Scalar). t.variable) z) (slice_get-map scalar_view v.function.now.graph.now.scalars.items x ∙ ap (λ o. option_map scalar_view o) e)) ∙ q))
