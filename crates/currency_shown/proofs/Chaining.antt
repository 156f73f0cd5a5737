-- Chains are linked, and what comes to their blocks is full.
use Rattle.std.proofs.Common.{◌≡◌, inl, inr, ℕ, zero, suc, ◌+◌, ◌<◌, ◌≤◌, Option, Some, None, List, [], ◌∷◌, ◌++◌, length, get_or, refl, sym, ap, subst, ◌∙◌, arith}
use Rattle.std.specs.Prelude.{slice_get, slice_set, option_map}
use Rattle.std.specs.Option.{option_map_or}
use Rattle.std.specs.Global.{Vec}
use Rattle.std.proofs.lemmas.Bool.Decides.{eqb_tells}
use Rattle.std.proofs.lemmas.List.{length-set}
use Rattle.std.proofs.lemmas.Option.{none-some, same_Some, slice_get-map, slice_get_within}
use Rattle.graph_core.specs.declared.block.Block as declared-block
use Rattle.graph_core.specs.Graphs.{Instruction, Block, End, Jump, block_view, end_view, graph_view}
use Rattle.graph_core.specs.Paths.{Among, front}
use Rattle.graph_core.specs.Uses.{targets_of}
use Rattle.graph_paths.proofs.Points.{reached_next}
use Rattle.currency_notes.specs.declared.function.Function as declared-function
use Rattle.currency_notes.specs.declared.state.State as declared-state
use Rattle.currency_notes.specs.Full.{IsEqual}
use Rattle.currency_notes.specs.Notes.{IsJoined}
use Rattle.currency_notes.specs.Ranks.{known_in, most_rank, rank, rank_in}
use Rattle.currency_notes.proofs.Lowering.{low_rank}
use Rattle.currency_notes.proofs.Filling.{full_equal, full_joined, full_next}
use Rattle.currency_notes.proofs.Sourcing.{attained_equal, attained_joined, attained_next}
use Rattle.currency_notes.proofs.Lists.{among_one, among_parts, get_put_other, get_put_same}
use Rattle.currency_shown.specs.declared.states.States as declared-states
use Rattle.currency_shown.specs.Chains.{comes_to, last_in, ranks, rank_all, rank_or, AreEqualAll, AreFull, AreLinked, IsComeTo, IsWithinSome, IsFullAtEnd, IsFullAtStart, IsLinked, IsWholeAt, LeadsTo}

-- one block more, to which the last one leads alone
pub linked_push : (blocks : List declared-block.Block) (chain : List ℕ) (next : ℕ) → IsLinked blocks chain → ((l : ℕ) → last_in chain ≡ Some l → LeadsTo blocks l next) → IsLinked blocks (chain ++ (next ∷ []))
linked_push blocks [] next linked last = tt
linked_push blocks (l ∷ []) next linked last = (last l refl, tt)
linked_push blocks (l ∷ k ∷ more) next linked last = (linked.0, linked_push blocks (k ∷ more) next linked.1 last)

pub last_push : (chain : List ℕ) (l : ℕ) → last_in (chain ++ (l ∷ [])) ≡ Some l
last_push [] l = refl
last_push (k ∷ []) l = refl
last_push (k ∷ n ∷ more) l = last_push (n ∷ more) l

-- beyond a list nothing stands
pub none_beyond : {A : Type 0} (xs : List A) (k : ℕ) → length xs ≤ k → slice_get xs k ≡ None
none_beyond [] k le = refl
none_beyond (x ∷ xs) zero le = absurd (omega (arith, le))
none_beyond (x ∷ xs) (suc k) le = none_beyond xs k (omega (arith, le))

-- a list that is not empty begins
pub list_begins : (chain : List ℕ) → 0 < length chain → (more : List ℕ) × (chain ≡ get_or chain 0 0 ∷ more)
list_begins [] lt = absurd (omega (arith, lt))
list_begins (l ∷ more) lt = (more, refl)

-- the last one stands at the end
pub last_at : (chain : List ℕ) (k d : ℕ) → length chain ≡ k + 1 → last_in chain ≡ Some (get_or chain k d)
last_at [] k d e = absurd (omega (arith, e))
last_at (l ∷ []) zero d e = refl
last_at (l ∷ []) (suc k) d e = absurd (omega (arith, e))
last_at (l ∷ n ∷ more) zero d e = absurd (omega (arith, e))
last_at (l ∷ n ∷ more) (suc k) d e = last_at (n ∷ more) k d (omega (arith, e))

module _ (f : declared-function.Function) where
  -- what is whole is so of an equal state, of what two states leave, and in a block to which one leads
  pub whole_equal : (n : ℕ) (rest : List Instruction) (e : End) (s t : declared-state.State) → IsEqual s t → IsWholeAt f t n rest e → IsWholeAt f s n rest e
  whole_equal n rest e s t equal whole = record {
    reached = whole.reached;
    sized = (ap (λ xs. length xs) equal.noted ∙ whole.sized.0, ap (λ xs. length xs) equal.written ∙ whole.sized.1);
    full = λ exact. full_equal f.homes (graph_view f.graph.now) n rest e s t equal (whole.full exact);
    attained = λ log told. attained_equal log (graph_view f.graph.now) n rest e s t equal (whole.attained log told);
  }

  pub whole_joined : (n : ℕ) (rest : List Instruction) (e : End) (one other both : declared-state.State) → IsJoined one other both → IsWholeAt f one n rest e → IsWholeAt f other n rest e → IsWholeAt f both n rest e
  whole_joined n rest e one other both joined a b = record {
    reached = a.reached;
    sized = (joined.sizes.0 ∙ a.sized.0, joined.sizes.1 ∙ a.sized.1);
    full = λ exact. full_joined f.homes (graph_view f.graph.now) n rest e one other both joined (a.full exact) (b.full exact);
    attained = λ log told. attained_joined log (graph_view f.graph.now) n rest e one other both joined (a.attained log told) (b.attained log told);
  }

  pub whole_next : (n l : ℕ) (e : End) (c : Block) (s : declared-state.State) → Among l (targets_of e) → slice_get (graph_view f.graph.now).blocks l ≡ Some c → IsWholeAt f s n [] e → IsWholeAt f s l c.instructions c.end
  whole_next n l e c s among is whole = record {
    reached = reached_next whole.reached among c is;
    sized = whole.sized;
    full = λ exact. full_next f.homes (graph_view f.graph.now) n l e c s among is (whole.full exact);
    attained = λ log told. attained_next log (graph_view f.graph.now) n l e c s among is (whole.attained log told);
  }

-- what comes of one state comes of the list of states
abbrev come_of : Option (Option declared-state.State) → Option declared-state.State
come_of o = option_map_or (λ (s : Option declared-state.State). s) o None

-- a state came to a block
module _ (f : declared-function.Function) (old new : declared-states.States) (to : ℕ) (o t : Option declared-state.State) (s : declared-state.State) (is : slice_get old.arrived.items to ≡ Some o) (put : new.arrived.items ≡ slice_set old.arrived.items to t) (come : IsComeTo o s t) where
  here_now : comes_to new to ≡ t
  here_now = ap (λ xs. come_of (slice_get xs to)) put ∙ ap come_of (get_put_same old.arrived.items to t (slice_get_within old.arrived.items to o is))

  here_before : comes_to old to ≡ o
  here_before = ap come_of is

  elsewhere : (l : ℕ) → (l ≡ to → ⊥) → comes_to new l ≡ comes_to old l
  elsewhere l other = ap (λ xs. come_of (slice_get xs l)) put ∙ ap come_of (get_put_other old.arrived.items to t l other)

  full_here : AreFull f old → IsFullAtStart f s to → (u : declared-state.State) → t ≡ Some u → IsFullAtStart f u to
  full_here before start u e b at = at_old o here_before (subst (λ (w : Option declared-state.State). IsComeTo o s w) e come)
    where
      at_old : (q : Option declared-state.State) → comes_to old to ≡ q → IsComeTo q s (Some u) → IsWholeAt f u to b.instructions b.end
      at_old None e equal = whole_equal f to b.instructions b.end u s equal (start b at)
      at_old (Some q) e joined = whole_joined f to b.instructions b.end q s u joined (before.each to q e b at) (start b at)

  pub full_arrived : AreFull f old → IsFullAtStart f s to → AreFull f new
  full_arrived before start = record {
    count = ap (λ xs. length xs) put ∙ length-set old.arrived.items to t ∙ before.count;
    each = λ l u e. elim (eqb_tells l to) [
      | inl q ↦ subst (λ k. IsFullAtStart f u k) (sym q.1) (full_here before start u (sym here_now ∙ ap (λ k. comes_to new k) (sym q.1) ∙ e))
      | inr q ↦ before.each l u (sym (elsewhere l q.1) ∙ e)
    ];
  }

module _ (f : declared-function.Function) where
  viewed : (l : ℕ) (b : Block) → slice_get (graph_view f.graph.now).blocks l ≡ Some b → (o : Option declared-block.Block) → slice_get f.graph.now.blocks.items l ≡ o → option_map block_view o ≡ Some b
  viewed l b at o is = sym (slice_get-map block_view f.graph.now.blocks.items l ∙ ap (λ p. option_map block_view p) is) ∙ at

  pub view_at : (l : ℕ) (d : declared-block.Block) → slice_get f.graph.now.blocks.items l ≡ Some d → slice_get (graph_view f.graph.now).blocks l ≡ Some (block_view d)
  view_at l d is = slice_get-map block_view f.graph.now.blocks.items l ∙ ap (λ p. option_map block_view p) is

  -- a state that is full where a block ends, which leads to another one, is full where that begins
  pub start_next : (s : declared-state.State) (l next : ℕ) → LeadsTo f.graph.now.blocks.items l next → IsFullAtEnd f s l → IsFullAtStart f s next
  start_next s l next leads end b at =
      let d = leads.0 in
      whole_next f l next (Jump next) b s front at (subst (λ (e : End). IsWholeAt f s l [] e) leads.2 (end (block_view d) (view_at l d leads.1)))

  -- the same for each block to which it leads
  pub start_each : (s : declared-state.State) (l : ℕ) (d : declared-block.Block) → slice_get f.graph.now.blocks.items l ≡ Some d → IsFullAtEnd f s l → (next : ℕ) → Among next (targets_of (end_view d.end)) → IsFullAtStart f s next
  start_each s l d is end next among b at = whole_next f l next (end_view d.end) b s among at (end (block_view d) (view_at l d is))

  -- a block that there is not
  pub no_end : (s : declared-state.State) (l : ℕ) → slice_get f.graph.now.blocks.items l ≡ None → IsFullAtEnd f s l
  no_end s l none b at = absurd (none-some b (viewed l b at None none))

  -- a block that was walked over
  pub end_walked : (s t : declared-state.State) (l : ℕ) (d : declared-block.Block) → slice_get f.graph.now.blocks.items l ≡ Some d → (IsWholeAt f s l (block_view d).instructions (block_view d).end → IsWholeAt f t l [] (block_view d).end) → IsFullAtStart f s l → IsFullAtEnd f t l
  end_walked s t l d is walked start b at =
      let one : block_view d ≡ b = same_Some (block_view d) b (viewed l b at (Some d) is) in
      subst (λ (c : Block). IsWholeAt f t l [] c.end) one (walked (start (block_view d) (view_at l d is)))

  -- what is left of a chain that is walked over, from a state that is full where it begins; or the state is full where the last block ends
  abbrev pub GoesOn : declared-state.State → List ℕ → (last : ℕ) → Type 0
  GoesOn s [] last = IsFullAtEnd f s last
  GoesOn s (l ∷ more) last = IsFullAtStart f s l × IsLinked f.graph.now.blocks.items (l ∷ more) × (last_in (l ∷ more) ≡ Some last)

  -- one block more of a chain is walked over
  pub goes_on : (s t : declared-state.State) (l : ℕ) (more : List ℕ) (last : ℕ) → (IsFullAtStart f s l → IsFullAtEnd f t l) → GoesOn s (l ∷ more) last → GoesOn t more last
  goes_on s t l [] last walked here = subst (λ k. IsFullAtEnd f t k) (same_Some l last here.2) (walked here.0)
  goes_on s t l (n ∷ more) last walked here = (start_next t l n here.1.0 (walked here.0), here.1.1, here.2)

  -- a chain begins
  pub goes_first : (s : declared-state.State) (chain more : List ℕ) (first last : ℕ) → chain ≡ first ∷ more → IsLinked f.graph.now.blocks.items chain → last_in chain ≡ Some last → IsFullAtStart f s first → GoesOn s chain last
  goes_first s chain more first last is linked end start =
      subst (λ (c : List ℕ). GoesOn s c last) (sym is) (start, subst (λ (c : List ℕ). IsLinked f.graph.now.blocks.items c) is linked, subst (λ (c : List ℕ). last_in c ≡ Some last) is end)

  -- a state that is equal to one that came to a block is full there
  pub start_of : (states : declared-states.States) (l : ℕ) (s : declared-state.State) → AreEqualAll (Some s) (comes_to states l) → AreFull f states → IsFullAtStart f s l
  start_of states l s equal full = at_come (comes_to states l) refl equal
    where
      at_come : (o : Option declared-state.State) → comes_to states l ≡ o → AreEqualAll (Some s) o → IsFullAtStart f s l
      at_come None e none = elim none [ ]
      at_come (Some t) e same = λ b at. whole_equal f l b.instructions b.end s t same (full.each l t e b at)

-- nothing came to one block more
pub nothing_more : (xs : List (Option declared-state.State)) → ((l : ℕ) (t : declared-state.State) → slice_get xs l ≡ Some (Some t) → ⊥) → (l : ℕ) (t : declared-state.State) → slice_get (xs ++ (None ∷ [])) l ≡ Some (Some t) → ⊥
nothing_more [] none zero t e = none-some t (same_Some None (Some t) e)
nothing_more [] none (suc l) t e = none-some (Some t) e
nothing_more (x ∷ xs) none zero t e = none zero t e
nothing_more (x ∷ xs) none (suc l) t e = nothing_more xs (λ k u q. none (suc k) u q) l t e

pub nothing_pushed : (xs all : List (Option declared-state.State)) → all ≡ xs ++ (None ∷ []) → ((l : ℕ) (t : declared-state.State) → slice_get xs l ≡ Some (Some t) → ⊥) → (l : ℕ) (t : declared-state.State) → slice_get all l ≡ Some (Some t) → ⊥
nothing_pushed xs all is none l t e = nothing_more xs none l t (subst (λ (zs : List (Option declared-state.State)). slice_get zs l ≡ Some (Some t)) is e)

-- where nothing came all is full
pub full_nothing : (f : declared-function.Function) (xs : List (Option declared-state.State)) (l : ℕ) (t : declared-state.State) → ((k : ℕ) (u : declared-state.State) → slice_get xs k ≡ Some (Some u) → ⊥) → come_of (slice_get xs l) ≡ Some t → IsFullAtStart f t l
full_nothing f xs l t none e = at_found (slice_get xs l) refl
  where
    at_found : (o : Option (Option declared-state.State)) → slice_get xs l ≡ o → IsFullAtStart f t l
    at_found None q = absurd (none-some t (sym (ap come_of q) ∙ e))
    at_found (Some s) q = absurd (none l t (q ∙ ap Some (sym (ap come_of q) ∙ e)))

-- ---- How much can be lost

-- a block of this number
pub block_there : {A : Type 0} (xs : List A) (k : ℕ) → k < length xs → (a : A) × (slice_get xs k ≡ Some a)
block_there [] k lt = absurd (omega (arith, lt))
block_there (x ∷ xs) zero lt = (x, refl)
block_there (x ∷ xs) (suc k) lt = block_there xs k (omega (arith, lt))

-- what all rank behind a store
rank_put : (most : ℕ) (xs : List (Option declared-state.State)) (k : ℕ) (o t : Option declared-state.State) → slice_get xs k ≡ Some o → rank_all most (slice_set xs k t) + rank_or most o ≡ rank_all most xs + rank_or most t
rank_put most [] k o t is = absurd (none-some o is)
rank_put most (q ∷ xs) zero o t is = (let e : rank_or most q ≡ rank_or most o = ap (λ z. rank_or most z) (same_Some q o is) in omega (arith, e))
rank_put most (q ∷ xs) (suc k) o t is = (let h = rank_put most xs k o t is in omega (arith, h))

-- less is so where a state came that was not within what was so there
pub falls_arrived : (f : declared-function.Function) (old : declared-states.States) (new : List (Option declared-state.State)) (to : ℕ) (o t : Option declared-state.State) (s : declared-state.State) → slice_get old.arrived.items to ≡ Some o → new ≡ slice_set old.arrived.items to t
    → ((IsWithinSome o s → ⊥) → (most : ℕ) → rank s ≤ most → rank_or most t < rank_or most o) → (IsWithinSome (comes_to old to) s → ⊥) → AreFull f old → IsFullAtStart f s to → rank_all (most_rank f) new < ranks f old
falls_arrived f old new to o t s is put falls apart full start =
    let here : comes_to old to ≡ o = ap come_of is in
    let small : to < length f.graph.now.blocks.items = subst (λ k. to < k) full.count (slice_get_within old.arrived.items to o is) in
    let d = block_there f.graph.now.blocks.items to small in
    let sized = (start (block_view d.0) (view_at f to d.0 d.1)).sized in
    let lower = falls (λ within. apart (subst (λ (q : Option declared-state.State). IsWithinSome q s) (sym here) within)) (most_rank f) (low_rank f s sized) in
    let sum = rank_put (most_rank f) old.arrived.items to o t is in
    let e : rank_all (most_rank f) new ≡ rank_all (most_rank f) (slice_set old.arrived.items to t) = ap (λ xs. rank_all (most_rank f) xs) put in
    omega (arith, lower, sum, e)

-- a state that comes where nothing was so, or where another one was that it is not within
pub lower_equal : (most : ℕ) (s t : declared-state.State) → IsEqual t s → rank s ≤ most → rank t < most + 1
lower_equal most s t equal le =
    let e : rank_in t.noted.items ≡ rank_in s.noted.items = ap rank_in equal.noted in
    let d : known_in t.written.items ≡ known_in s.written.items = ap known_in equal.written in
    omega (arith, le, e, d)
