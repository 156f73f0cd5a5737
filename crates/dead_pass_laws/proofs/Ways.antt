-- Each path of the graph after follows a path of the graph before.
use Rattle.std.proofs.Common.{◌≡◌, ℕ, inl, inr, true, Some, None, List, [], ◌∷◌, ◌++◌, length, refl, sym, ap, ◌∙◌, subst, arith}
use Rattle.std.specs.Prelude.{slice_get}
use Rattle.std.proofs.lemmas.Option.{none-some, same_Some}
use Rattle.graph_core.specs.declared.value.Value.{Value}
use Rattle.graph_core.specs.declared.value.Value.TheVariants.{Odd}
use Rattle.graph_core.specs.Graphs.{Instruction, Call, End, Block, Graph, Logged, UnitForm}
use Rattle.graph_core.specs.Paths.{History, Among, Way, stays as way_stays, passes, goes, Path, path}
use Rattle.graph_core.specs.Uses.{targets_of, is_computation}
use Rattle.dead_pass_rule.specs.Idle.{Goes}
use Rattle.dead_pass_rule.specs.Removing.{without, IsReducedBlock}
use Rattle.dead_pass_notes.specs.Said.{AreSaid, ends, gone, stays}
use Rattle.dead_pass_laws.proofs.Came.{reduced_graph, IsTaken, path_passes, path_goes}
use Rattle.dead_pass_laws.proofs.Lists.{AtBoth, at_both}
use Rattle.dead_pass_laws.proofs.Points.{first_same, rest_same}
use Rattle.dead_pass_laws.specs.Staying.{IsLeft, stays as left_stays, untargeted}
use Rattle.dead_pass_laws.proofs.Followed.{IsFollowed, followed_first, followed_on, followed_over, followed_behind}
use Rattle.dead_pass_laws.proofs.Instructions.{GoesAs, computed, called, goes_as, computed_plain}

-- no list with a member is empty
pub not_empty : {A : Type 0} {x : A} {xs : List A} → x ∷ xs ≡ [] → ⊥
not_empty e = (let l = ap length e in absurd (omega (arith, l)))

module _ (u : UnitForm) (log : List Logged) (g : Graph) (blocks : List Block) (taken : IsTaken u log g blocks) where
  -- A path of the graph before, which one of the graph after follows to where what is left is left.
  record IsLifted (after : History) (n : ℕ) (left : List Instruction) (e : End) : Type 0 where
    hist : History
    rest : List Instruction
    along : Path g hist n rest e
    said : AreSaid u.assignments log g n e rest left
    followed : IsFollowed u log g blocks taken hist after n rest e

  -- The same where an instruction comes next: it is what is left of one that comes next on the path before.
  pub record ComesNext (after : History) (n : ℕ) (j : Instruction) (more : List Instruction) (e : End) : Type 0 where
    pub hist : History
    pub instruction : Instruction
    pub rest : List Instruction
    pub along : Path g hist n (instruction ∷ rest) e
    pub left : IsLeft u.assignments log g n rest e instruction j
    pub said : AreSaid u.assignments log g n e rest more
    pub followed : IsFollowed u log g blocks taken hist after n (instruction ∷ rest) e

  -- The same where a block ends: it ends on the path before.
  pub record ComesLast (after : History) (n : ℕ) (e : End) : Type 0 where
    pub hist : History
    pub along : Path g hist n [] e
    pub followed : IsFollowed u log g blocks taken hist after n [] e

  -- ---- Over computations that go

  module _ (after : History) (n : ℕ) (e : End) where
    -- over one of which it is known what is behind it
    next_going : (hist : History) (i : Instruction) (behind others : List Instruction) (j : Instruction) (more : List Instruction) → GoesAs i → (is_computation i ≡ true → ComesNext after n j more e)
        → Goes u.assignments g n (i ∷ behind) e → AreSaid u.assignments log g n e behind others → without i ++ others ≡ j ∷ more → Path g hist n (i ∷ behind) e → IsFollowed u log g blocks taken hist after n (i ∷ behind) e → ComesNext after n j more e
    next_going hist i behind others j more (computed is) later it_goes said same along followed = later is
    next_going hist _ behind others j more (called {x} {f} {all}) later it_goes said same along followed = record {
      hist = hist;
      instruction = Call (Some x) f all;
      rest = behind;
      along = along;
      left = subst (λ k. IsLeft u.assignments log g n behind e (Call (Some x) f all) k) (first_same same) (untargeted it_goes);
      said = subst (λ l. AreSaid u.assignments log g n e behind l) (rest_same same) said;
      followed = followed;
    }

    -- Where an instruction comes next on the path after, one comes next behind what goes.
    next_of : (hist : History) (rest left : List Instruction) (j : Instruction) (more : List Instruction) → AreSaid u.assignments log g n e rest left → left ≡ j ∷ more → Path g hist n rest e → IsFollowed u log g blocks taken hist after n rest e → ComesNext after n j more e
    next_of hist rest left j more ends same along followed = absurd (not_empty (sym same))
    next_of hist rest left j more (gone {i} {rest = behind} {after = others} it_goes said) same along followed =
        next_going hist i behind others j more (goes_as g n i behind e it_goes)
        (λ is.
        next_of (record { block = n; left = length behind; instruction = i; wrote = Odd } ∷ hist) behind others j more said
        (sym (ap (λ l. l ++ others) (computed_plain i is).left) ∙ same) (path_passes g hist n i behind e Odd along) (followed_over u log g blocks taken hist after n i behind e Odd along followed is it_goes))
        it_goes said same along followed
    next_of hist rest left j more (stays {i} {j = k} {rest = behind} {after = others} stay says said) same along followed = record {
      hist = hist;
      instruction = i;
      rest = behind;
      along = along;
      left = subst (λ l. IsLeft u.assignments log g n behind e i l) (first_same same) (left_stays stay says);
      said = subst (λ l. AreSaid u.assignments log g n e behind l) (rest_same same) said;
      followed = followed;
    }

    -- over one that goes, where nothing is left
    last_going : (i : Instruction) (others : List Instruction) → GoesAs i → (is_computation i ≡ true → ComesLast after n e) → without i ++ others ≡ [] → ComesLast after n e
    last_going i others (computed is) later same = later is
    last_going _ others called later same = absurd (not_empty same)

    -- Where the block ends on the path after, it ends behind what goes.
    last_of : (hist : History) (rest left : List Instruction) → AreSaid u.assignments log g n e rest left → left ≡ [] → Path g hist n rest e → IsFollowed u log g blocks taken hist after n rest e → ComesLast after n e
    last_of hist rest left ends same along followed = record { hist = hist; along = along; followed = followed }
    last_of hist rest left (gone {i} {rest = behind} {after = others} it_goes said) same along followed =
        last_going i others (goes_as g n i behind e it_goes)
        (λ is.
        last_of (record { block = n; left = length behind; instruction = i; wrote = Odd } ∷ hist) behind others said
        (sym (ap (λ l. l ++ others) (computed_plain i is).left) ∙ same) (path_passes g hist n i behind e Odd along) (followed_over u log g blocks taken hist after n i behind e Odd along followed is it_goes))
        same
    last_of hist rest left (stays stay says said) same along followed = absurd (not_empty same)

  -- ---- Blocks

  -- A block of the graph after was one of the graph before: what is left of it is what the rule of notes says, and it keeps its place and its end.
  pub record WasBlock (n : ℕ) (c : Block) : Type 0 where
    pub block : Block
    pub is : slice_get g.blocks n ≡ Some block
    pub said : AreSaid u.assignments log g n block.end block.instructions c.instructions
    pub place : c.place ≡ block.place
    pub end : c.end ≡ block.end

  -- So each was.
  pub was_block : (n : ℕ) (c : Block) → slice_get blocks n ≡ Some c → WasBlock n c
  was_block n c at = by_both (at_both g.blocks blocks n taken.reduced.count)
    where
      by_both : AtBoth (λ x y. Unit {0}) g.blocks blocks n → WasBlock n c
      by_both (inl none) = (let no : None ≡ Some c = sym none.1 ∙ at in absurd (none-some c no))
      by_both (inr some) =
          let one : some.1 ≡ c = same_Some some.1 c (sym some.3 ∙ at) in
          let reduced : IsReducedBlock u.assignments g n some.0 some.1 = taken.reduced.blocks n some.0 some.1 some.2 some.3 in
          subst (λ d. WasBlock n d) one (record { block = some.0; is = some.2; said = taken.said.notes n some.0 some.1 some.2 some.3; place = reduced.place; end = reduced.end })

  -- A block of the graph before is one of the graph after.
  pub record IsBlockAfter (n : ℕ) (b : Block) : Type 0 where
    pub block : Block
    pub is : slice_get blocks n ≡ Some block
    pub said : AreSaid u.assignments log g n b.end b.instructions block.instructions
    pub place : block.place ≡ b.place
    pub end : block.end ≡ b.end

  -- So each is.
  pub block_after : (n : ℕ) (b : Block) → slice_get g.blocks n ≡ Some b → IsBlockAfter n b
  block_after n b at = by_both (at_both g.blocks blocks n taken.reduced.count)
    where
      by_both : AtBoth (λ x y. Unit {0}) g.blocks blocks n → IsBlockAfter n b
      by_both (inl none) = (let no : None ≡ Some b = sym none.0 ∙ at in absurd (none-some b no))
      by_both (inr some) =
          let one : some.0 ≡ b = same_Some some.0 b (sym some.2 ∙ at) in
          let reduced : IsReducedBlock u.assignments g n some.0 some.1 = taken.reduced.blocks n some.0 some.1 some.2 some.3 in
          subst (λ d. IsBlockAfter n d) one (record { block = some.1; is = some.3; said = taken.said.notes n some.0 some.1 some.2 some.3; place = reduced.place; end = reduced.end })

  -- ---- Ways

  -- Where the path after goes on behind an instruction, the path before does.
  lifted_behind : (after : History) (n : ℕ) (j : Instruction) (more : List Instruction) (e : End) (v : Value) → ComesNext after n j more e → IsLifted (record { block = n; left = length more; instruction = j; wrote = v } ∷ after) n more e
  lifted_behind after n j more e v c = record {
    hist = record { block = n; left = length c.rest; instruction = c.instruction; wrote = v } ∷ c.hist;
    rest = c.rest;
    along = path_passes g c.hist n c.instruction c.rest e v c.along;
    said = c.said;
    followed = followed_behind u log g blocks taken c.hist after n c.instruction c.rest e v c.along c.followed j more v c.left;
  }

  -- Where it goes on to a block, the path before does.
  lifted_on : (after : History) (n l : ℕ) (e : End) (c : Block) → Among l (targets_of e) → slice_get blocks l ≡ Some c → ComesLast after n e → IsLifted after l c.instructions c.end
  lifted_on after n l e c to at was =
      let b = was_block l c at in
      subst (λ f. IsLifted after l c.instructions f) (sym b.end)
      (record {
        hist = was.hist;
        rest = b.block.instructions;
        along = path_goes g was.hist n e l b.block to b.is was.along;
        said = b.said;
        followed = followed_on u log g blocks taken was.hist after n l e b.block to b.is was.followed;
      })

  -- It begins where the path before does.
  lifted_first : (c : Block) → slice_get blocks 0 ≡ Some c → IsLifted [] 0 c.instructions c.end
  lifted_first c at =
      let b = was_block 0 c at in
      subst (λ f. IsLifted [] 0 c.instructions f) (sym b.end)
      (record {
        hist = [];
        rest = b.block.instructions;
        along = path b.block b.is way_stays;
        said = b.said;
        followed = followed_first u log g blocks taken 0 b.block.instructions b.block.end;
      })

  module _ (c : Block) (at : slice_get blocks 0 ≡ Some c) where
    -- So each way from the first block follows a path.
    way_lifted : {after : History} {n : ℕ} {left : List Instruction} {e : End} → Way (reduced_graph g blocks) 0 c.instructions c.end after n left e → IsLifted after n left e
    way_lifted way_stays = lifted_first c at
    way_lifted (passes {h = after} {n} {i = j} {left = more} {e} way v) =
        let l = way_lifted way in
        lifted_behind after n j more e v (next_of after n e l.hist l.rest (j ∷ more) j more l.said refl l.along l.followed)
    way_lifted (goes {h = after} {n} {l = k} {e} way to d there) =
        let l = way_lifted way in
        lifted_on after n k e d to there (last_of after n e l.hist l.rest [] l.said refl l.along l.followed)

  -- A PATH OF THE GRAPH AFTER to an instruction follows a path of the graph before to one of which that is left,
  pub path_next : (after : History) (n : ℕ) (j : Instruction) (more : List Instruction) (e : End) → Path (reduced_graph g blocks) after n (j ∷ more) e → ComesNext after n j more e
  path_next after n j more e (path c at way) = (let l = way_lifted c at way in next_of after n e l.hist l.rest (j ∷ more) j more l.said refl l.along l.followed)

  -- and to the end of a block one to the end of that block.
  pub path_last : (after : History) (n : ℕ) (e : End) → Path (reduced_graph g blocks) after n [] e → ComesLast after n e
  path_last after n e (path c at way) = (let l = way_lifted c at way in last_of after n e l.hist l.rest [] l.said refl l.along l.followed)
