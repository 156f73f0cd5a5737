-- A name whose last write went lags on along each way of the graph after that does not write it, and nothing there reads it.
use Rattle.std.proofs.Common.{◌≡◌, ℕ, inl, inr, Bool, true, false, true≢false, List, [], ◌∷◌, ◌++◌, length, refl, sym, ap, ◌∙◌, subst}
use Rattle.std.specs.Prelude.{Some, slice_get}
use Rattle.std.proofs.lemmas.Bool.{cases_Bool, or_parts}
use Rattle.graph_core.specs.declared.value.Value.{Value}
use Rattle.graph_core.specs.declared.value.Value.TheVariants.{Odd}
use Rattle.graph_core.specs.Graphs.{Instruction, Call, End, Block, Graph, Logged, UnitForm}
use Rattle.graph_core.specs.Paths.{History, Among, Way, stays as way_stays, passes, goes, Path, writes}
use Rattle.graph_core.specs.Points.{Behind, IsUnread, ReadsNext, some_passed}
use Rattle.graph_core.specs.Uses.{is_computation, targets_of}
use Rattle.dead_pass_rule.specs.Idle.{Goes, IsIdle}
use Rattle.dead_pass_rule.specs.Removing.{without}
use Rattle.dead_pass_notes.specs.Said.{AreSaid, ends, gone, stays}
use Rattle.dead_pass_laws.specs.Staying.{IsLeft, stays as left_stays, untargeted}
use Rattle.dead_pass_laws.proofs.Came.{reduced_graph, IsTaken, path_passes, path_goes}
use Rattle.dead_pass_laws.proofs.Instructions.{GoesAs, computed, called, goes_as, computed_plain, kept_writes, said_kept, left_like, StaysOrCalls, left_cases}
use Rattle.dead_pass_laws.proofs.Lags.{Lags, lags_behind, lags_on, lags_first, lags_read}
use Rattle.dead_pass_laws.proofs.Points.{first_same, rest_same, path_at}
use Rattle.dead_pass_laws.proofs.Values.{target_written}
use Rattle.dead_pass_laws.proofs.Ways.{not_empty, was_block}

module _ (u : UnitForm) (log : List Logged) (g : Graph) (blocks : List Block) (taken : IsTaken u log g blocks) (x : ℕ) where
  -- A point of the graph after, which a path of the graph before comes to where what is left is left, and where the name lags.
  pub record IsLagging (n : ℕ) (left : List Instruction) (e : End) : Type 0 where
    pub hist : History
    pub rest : List Instruction
    pub along : Path g hist n rest e
    pub said : AreSaid u.assignments log g n e rest left
    pub lags : Lags u.assignments g x hist n rest e

  -- The same where an instruction comes next: it is what is left of one that comes next on the path before.
  record LagsNext (n : ℕ) (j : Instruction) (more : List Instruction) (e : End) : Type 0 where
    hist : History
    instruction : Instruction
    rest : List Instruction
    along : Path g hist n (instruction ∷ rest) e
    left : IsLeft u.assignments log g n rest e instruction j
    said : AreSaid u.assignments log g n e rest more
    lags : Lags u.assignments g x hist n (instruction ∷ rest) e

  -- The same where a block ends: it ends on the path before.
  record LagsLast (n : ℕ) (e : End) : Type 0 where
    hist : History
    along : Path g hist n [] e
    lags : Lags u.assignments g x hist n [] e

  -- It lags behind what goes, whether that writes it or not.
  lags_over : (hist : History) (n : ℕ) (i : Instruction) (rest : List Instruction) (e : End) (w : Value) → Path g hist n (i ∷ rest) e → Goes u.assignments g n (i ∷ rest) e → Lags u.assignments g x hist n (i ∷ rest) e
      → Lags u.assignments g x (record { block = n; left = length rest; instruction = i; wrote = w } ∷ hist) n rest e
  lags_over hist n i rest e w along it_goes lags = elim (cases_Bool (writes x i)) [
    | inl it ↦ lags_first g x hist n i rest e w there (target_written x i it) it_goes
    | inr other ↦ lags_behind g x hist n i rest e w other lags
  ]
    where
      there : Behind g i n rest e
      there = (let at = path_at u g taken.valid taken.marked along in record { block = at.block; before = at.before; is = at.is; instructions = at.instructions; ends = at.ends })

  -- ---- Over what goes

  module _ (n : ℕ) (e : End) where
    -- over one of which it is known what is behind it
    next_going : (hist : History) (i : Instruction) (behind others : List Instruction) (j : Instruction) (more : List Instruction) → GoesAs i → (is_computation i ≡ true → LagsNext n j more e)
        → Goes u.assignments g n (i ∷ behind) e → AreSaid u.assignments log g n e behind others → without i ++ others ≡ j ∷ more → Path g hist n (i ∷ behind) e → Lags u.assignments g x hist n (i ∷ behind) e → LagsNext n j more e
    next_going hist i behind others j more (computed is) later it_goes said same along lags = later is
    next_going hist _ behind others j more (called {x = y} {f = f} {all = all}) later it_goes said same along lags = record {
      hist = hist;
      instruction = Call (Some y) f all;
      rest = behind;
      along = along;
      left = subst (λ k. IsLeft u.assignments log g n behind e (Call (Some y) f all) k) (first_same same) (untargeted it_goes);
      said = subst (λ l. AreSaid u.assignments log g n e behind l) (rest_same same) said;
      lags = lags;
    }

    -- Where an instruction comes next in the graph after, one comes next behind what goes.
    next_of : (hist : History) (rest left : List Instruction) (j : Instruction) (more : List Instruction) → AreSaid u.assignments log g n e rest left → left ≡ j ∷ more → Path g hist n rest e → Lags u.assignments g x hist n rest e → LagsNext n j more e
    next_of hist rest left j more ends same along lags = absurd (not_empty (sym same))
    next_of hist rest left j more (gone {i} {rest = behind} {after = others} it_goes said) same along lags =
        next_going hist i behind others j more (goes_as g n i behind e it_goes)
        (λ is.
        next_of (record { block = n; left = length behind; instruction = i; wrote = Odd } ∷ hist) behind others j more said
        (sym (ap (λ l. l ++ others) (computed_plain i is).left) ∙ same) (path_passes g hist n i behind e Odd along) (lags_over hist n i behind e Odd along it_goes lags))
        it_goes said same along lags
    next_of hist rest left j more (stays {i} {j = k} {rest = behind} {after = others} stay says said) same along lags = record {
      hist = hist;
      instruction = i;
      rest = behind;
      along = along;
      left = subst (λ l. IsLeft u.assignments log g n behind e i l) (first_same same) (left_stays stay says);
      said = subst (λ l. AreSaid u.assignments log g n e behind l) (rest_same same) said;
      lags = lags;
    }

    -- over one that goes, where nothing is left
    last_going : (i : Instruction) (others : List Instruction) → GoesAs i → (is_computation i ≡ true → LagsLast n e) → without i ++ others ≡ [] → LagsLast n e
    last_going i others (computed is) later same = later is
    last_going _ others called later same = absurd (not_empty same)

    -- Where the block ends in the graph after, it ends behind what goes.
    last_of : (hist : History) (rest left : List Instruction) → AreSaid u.assignments log g n e rest left → left ≡ [] → Path g hist n rest e → Lags u.assignments g x hist n rest e → LagsLast n e
    last_of hist rest left ends same along lags = record { hist = hist; along = along; lags = lags }
    last_of hist rest left (gone {i} {rest = behind} {after = others} it_goes said) same along lags =
        last_going i others (goes_as g n i behind e it_goes)
        (λ is.
        last_of (record { block = n; left = length behind; instruction = i; wrote = Odd } ∷ hist) behind others said
        (sym (ap (λ l. l ++ others) (computed_plain i is).left) ∙ same) (path_passes g hist n i behind e Odd along) (lags_over hist n i behind e Odd along it_goes lags))
        same
    last_of hist rest left (stays stay says said) same along lags = absurd (not_empty same)

  -- ---- Ways

  -- It lags on behind an instruction of which something is left that does not write it,
  lagging_behind : (n : ℕ) (j : Instruction) (more : List Instruction) (e : End) (v : Value) → writes x j ≡ false → LagsNext n j more e → IsLagging n more e
  lagging_behind n j more e v quiet c = record {
    hist = record { block = n; left = length c.rest; instruction = c.instruction; wrote = v } ∷ c.hist;
    rest = c.rest;
    along = path_passes g c.hist n c.instruction c.rest e v c.along;
    said = c.said;
    lags = by_cases (left_cases log g n c.rest e c.left);
  }
    where
      by_cases : StaysOrCalls u.assignments log g n c.rest e c.instruction j → Lags u.assignments g x (record { block = n; left = length c.rest; instruction = c.instruction; wrote = v } ∷ c.hist) n c.rest e
      by_cases (inl kept) = lags_behind g x c.hist n c.instruction c.rest e v (sym (kept_writes x (said_kept log g n c.rest e kept.1)) ∙ quiet) c.lags
      by_cases (inr calls) = lags_over c.hist n c.instruction c.rest e v c.along calls.0 c.lags

  -- and in the block to which control goes.
  lagging_on : (n l : ℕ) (e : End) (c : Block) → Among l (targets_of e) → slice_get blocks l ≡ Some c → LagsLast n e → IsLagging l c.instructions c.end
  lagging_on n l e c to at was =
      let b = was_block u log g blocks taken l c at in
      subst (λ f. IsLagging l c.instructions f) (sym b.end)
      (record {
        hist = was.hist;
        rest = b.block.instructions;
        along = path_goes g was.hist n e l b.block to b.is was.along;
        said = b.said;
        lags = lags_on g x was.hist n l e b.block to b.is was.lags;
      })

  -- What comes next on the path before, where an instruction comes next in the graph after.
  next_there : (n : ℕ) (j : Instruction) (more : List Instruction) (e : End) → IsLagging n (j ∷ more) e → LagsNext n j more e
  next_there n j more e l = next_of n e l.hist l.rest (j ∷ more) j more l.said refl l.along l.lags

  -- the same where a block ends
  last_there : (n : ℕ) (e : End) → IsLagging n [] e → LagsLast n e
  last_there n e l = last_of n e l.hist l.rest [] l.said refl l.along l.lags

  -- Nothing that comes next reads it: that would be a computation that goes.
  no_read : (n : ℕ) (left : List Instruction) (e : End) → IsLagging n left e → ReadsNext x left e → ⊥
  no_read n [] e l reads =
      let c = last_there n e l in
      true≢false (sym (lags_read g x c.hist n [] e c.lags reads).0)
  no_read n (j ∷ more) e l reads = by_read (lags_read g x c.hist n (c.instruction ∷ c.rest) e c.lags (subst (λ names. Among x names) (left_like log g n c.rest e c.left).reads reads)) (left_cases log g n c.rest e c.left)
    where
      c : LagsNext n j more e
      c = next_there n j more e l

      by_read : (is_computation c.instruction ≡ true) × IsIdle u.assignments g n (c.instruction ∷ c.rest) e → StaysOrCalls u.assignments log g n c.rest e c.instruction j → ⊥
      by_read both (inl kept) = kept.0 (record { reached = record { history = c.hist; path = c.along }; idle = both.1 })
      by_read both (inr calls) = true≢false (sym both.0 ∙ calls.2)

  module _ (n : ℕ) (start : List Instruction) (e : End) (first : IsLagging n start e) where
    -- It lags on along a way that does not write it,
    way_lags : {k : History} {m : ℕ} {left : List Instruction} {f : End} → Way (reduced_graph g blocks) n start e k m left f → some_passed (writes x) k ≡ false → IsLagging m left f
    way_lags way_stays quiet = first
    way_lags (passes {h = k} {n = m} {i = j} {left = more} {e = f} way v) quiet =
        let both = or_parts (writes x j) (some_passed (writes x) k) quiet in
        lagging_behind m j more f v both.0 (next_there m j more f (way_lags way both.1))
    way_lags (goes {h = k} {n = m} {l = l} {e = f} way to d there) quiet = lagging_on m l f d to there (last_there m f (way_lags way quiet))

    -- so no way from there reads it before it is written.
    pub lagging_unread : IsUnread (reduced_graph g blocks) x n start e
    lagging_unread k m left f way reads = by_test (some_passed (writes x) k) refl
      where
        by_test : (t : Bool) → some_passed (writes x) k ≡ t → t ≡ true
        by_test true q = refl
        by_test false q = absurd (no_read m left f (way_lags way q) reads)
