-- What is carried along the states of a walk that bears them out is so at each place.
use Rattle.std.proofs.Common.{◌≡◌, ℕ, Option, Some, None, List, [], ◌∷◌, ◌<◌, length, refl, sym, ap, subst, ◌∙◌}
use Rattle.std.specs.Prelude.{slice_get, option_map}
use Rattle.std.proofs.lemmas.Option.{same_Some, slice_get-map, slice_get_within}
use Rattle.std.proofs.lemmas.List.{length-map}
use Rattle.graph_core.specs.declared.block.Block as declared-block
use Rattle.graph_core.specs.Graphs.{Instruction, Marker, Block, Graph, End, Jump, block_view, graph_view}
use Rattle.graph_core.specs.Paths.{Among, History, Path, Way, path, stays, passes, goes}
use Rattle.graph_core.specs.Uses.{targets_of}
use Rattle.currency_notes.specs.declared.state.State as declared-state
use Rattle.currency_notes.specs.Full.{IsEqual}
use Rattle.currency_notes.specs.Sources.{place_where}
use Rattle.currency_notes.proofs.Lists.{among_one, at_among}
use Rattle.currency_shown.specs.declared.found.Found as declared-found
use Rattle.currency_shown.specs.declared.states.States as declared-states
use Rattle.currency_shown.specs.Chains.{comes_to, IsWithinSome}
use Rattle.currency_shown.specs.declared.survey.Survey as declared-survey
use Rattle.currency_shown.specs.Survey.{IsChainSound, IsFound, IsSound, IsStartWithin, IsStep, IsWalked}

-- What is so of a state at a point is carried: it is so where chains begin, of an equal state, behind an instruction, and in a block to which one leads.
pub record IsCarried (v : declared-survey.Survey) (states : declared-states.States) (IsSuch : declared-state.State → ℕ → List Instruction → End → Type 0) : Type 0 where
  pub start : (l : ℕ) (t : declared-state.State) (b : Block) → comes_to states l ≡ Some t → slice_get (graph_view v.function.now.graph.now).blocks l ≡ Some b → IsSuch t l b.instructions b.end
  pub equal : (s t : declared-state.State) (n : ℕ) (rest : List Instruction) (e : End) → IsEqual s t → IsSuch t n rest e → IsSuch s n rest e
  pub step : (s t : declared-state.State) (n : ℕ) (i : Instruction) (rest : List Instruction) (e : End) → IsStep v.function.now (place_where (graph_view v.function.now.graph.now) n (length rest)) s t i → IsSuch s n (i ∷ rest) e → IsSuch t n rest e
  pub next : (s : declared-state.State) (n l : ℕ) (e : End) (b : Block) → Among l (targets_of e) → slice_get (graph_view v.function.now.graph.now).blocks l ≡ Some b → IsSuch s n [] e → IsSuch s l b.instructions b.end

module _ (v : declared-survey.Survey) (states : declared-states.States) (f : declared-found.Found) (entered : declared-state.State) (done : IsWalked v states f entered)
    (IsSuch : declared-state.State → ℕ → List Instruction → End → Type 0) (carried : IsCarried v states IsSuch) where
  abbrev g : Graph
  g = graph_view v.function.now.graph.now

  -- a point with a state that is such there, and sound from there on
  record IsCarriedTo (n : ℕ) (rest : List Instruction) (e : End) : Type 0 where
    state : declared-state.State
    last : declared-state.State
    more : List ℕ
    is : IsSuch state n rest e
    walked : IsSound v f n rest state last
    chained : IsChainSound v states f more e last

  -- a block of the view
  one_block : (l : ℕ) (b : Block) → slice_get g.blocks l ≡ Some b → (d : declared-block.Block) → slice_get v.function.now.graph.now.blocks.items l ≡ Some d → block_view d ≡ b
  one_block l b at d is = same_Some (block_view d) b (sym (slice_get-map block_view v.function.now.graph.now.blocks.items l ∙ ap (λ o. option_map block_view o) is) ∙ at)

  -- the number of a block of the view
  small : (l : ℕ) (b : Block) → slice_get g.blocks l ≡ Some b → l < length v.function.now.graph.now.blocks.items
  small l b at = subst (λ n. l < n) (length-map v.function.now.graph.now.blocks.items block_view) (slice_get_within g.blocks l b at)

  -- the first block of a chain
  carried_start : (l : ℕ) (b : Block) (s : declared-state.State) → slice_get g.blocks l ≡ Some b → IsStartWithin v states l s → IsCarriedTo l b.instructions b.end
  carried_start l b s at begin = at_state (comes_to states l) refl begin.1
    where
      at_state : (o : Option declared-state.State) → comes_to states l ≡ o → IsWithinSome o s → IsCarriedTo l b.instructions b.end
      at_state None e within = elim within [ ]
      at_state (Some t) e within =
          let c = begin.0 in
          let r = done.sound c.chain (at_among v.chains.now c.index c.chain c.is) l c.more c.begins t e in
          let chain : IsChainSound v states f (l ∷ c.more) (Jump l) r.0 = subst (λ (ls : List ℕ). IsChainSound v states f ls (Jump l) r.0) c.begins r.2 in
          let one = one_block l b at chain.1.0 chain.1.1 in
          record {
            state = r.0;
            last = chain.1.2.0;
            more = c.more;
            is = carried.equal r.0 t l b.instructions b.end r.1 (carried.start l t b e at);
            walked = subst (λ (d : Block). IsSound v f l d.instructions r.0 chain.1.2.0) one chain.1.2.1;
            chained = subst (λ (d : Block). IsChainSound v states f c.more d.end chain.1.2.0) one chain.1.2.2;
          }

  carried_passed : (n : ℕ) (i : Instruction) (left : List Instruction) (e : End) → IsCarriedTo n (i ∷ left) e → IsCarriedTo n left e
  carried_passed n i left e at = record {
    state = at.walked.1.0;
    last = at.last;
    more = at.more;
    is = carried.step at.state at.walked.1.0 n i left e at.walked.1.1 at.is;
    walked = at.walked.1.2;
    chained = at.chained;
  }

  carried_next : (n : ℕ) (e : End) (l : ℕ) (b : Block) → Among l (targets_of e) → slice_get g.blocks l ≡ Some b → (s t : declared-state.State) (more : List ℕ) → IsSuch s n [] e → s ≡ t → IsChainSound v states f more e t → IsCarriedTo l b.instructions b.end
  carried_next n e l b among at s t [] here same chained = carried_start l b t at (chained l among (small l b at))
  carried_next n e l b among at s t (k ∷ more) here same chained =
      let there : Among l (targets_of (Jump k)) = subst (λ (d : End). Among l (targets_of d)) chained.0 among in
      let one : l ≡ k = among_one there in
      let same_block = one_block k b (subst (λ j. slice_get g.blocks j ≡ Some b) one at) chained.1.0 chained.1.1 in
      record {
        state = t;
        last = chained.1.2.0;
        more = more;
        is = carried.next t n l e b among at (subst (λ (u : declared-state.State). IsSuch u n [] e) same here);
        walked = subst (λ j. IsSound v f j b.instructions t chained.1.2.0) (sym one) (subst (λ (d : Block). IsSound v f k d.instructions t chained.1.2.0) same_block chained.1.2.1);
        chained = subst (λ (d : Block). IsChainSound v states f more d.end chained.1.2.0) same_block chained.1.2.2;
      }

  carried_on : {b : Block} {h : History} {n : ℕ} {rest : List Instruction} {e : End} → slice_get g.blocks 0 ≡ Some b → Way g 0 b.instructions b.end h n rest e → IsCarriedTo n rest e
  carried_on {b} at stays = carried_start 0 b entered at (done.begins (small 0 b at))
  carried_on at (passes {h} {n} {i} {left} {e} way value) = carried_passed n i left e (carried_on at way)
  carried_on at (goes {h} {n} {l} {e} way among b is) = (let here = carried_on at way in carried_next n e l b among is here.state here.last here.more here.is here.walked here.chained)

  -- what is found at a marker
  pub carried_at : (h : History) (n p : ℕ) (rest : List Instruction) (e : End) → Path g h n (Marker p ∷ rest) e → (s : declared-state.State) × IsSuch s n (Marker p ∷ rest) e × IsFound v f s p
  carried_at h n p rest e (path b at way) = (let here = carried_on at way in (here.state, here.is, here.walked.0 p refl))
