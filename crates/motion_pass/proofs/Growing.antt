-- A graph whose code was moved has grown of the one before.
use Rattle.std.proofs.Common.{◌≡◌, inl, inr, ℕ, suc, ◌+◌, ◌<◌, ◌≤◌, Bool, true≢false, Option, Some, List, [], ◌∷◌, ◌++◌, length, refl, sym, ap, ◌∙◌, subst, arith, append_assoc, append-nil}
use Rattle.std.specs.Prelude.{slice_get}
use Rattle.std.specs.List.{AllByRecursion}
use Rattle.std.proofs.lemmas.Option.{none-some, slice_get_within}
use Rattle.event_runs.specs.Agreement.{Pairs}
use Rattle.graph_core.specs.Bounds.{most_names, most_instructions_of_function}
use Rattle.graph_core.specs.Graphs.{Instruction, End, Jump, Branch, Return, Block, Graph, UnitForm, Logged}
use Rattle.graph_core.specs.Computations.{Computation, computed_by}
use Rattle.graph_core.specs.Paths.{Among, front, behind}
use Rattle.graph_core.specs.Uses.{targets_of}
use Rattle.graph_core.specs.Validity.{IsBlock, IsGraph, IsInstruction, instructions_of, place_at_end}
use Rattle.motion_pass_points.specs.Ways.{Point, within, along, Leads, passes, IsCome, IsPast}
use Rattle.motion_pass_points.proofs.Keys.{it_does}
use Rattle.motion_pass_points.specs.MotionPointsComputing.{doing}
use Rattle.motion_pass_problems.specs.Facts.{AreReached}
use Rattle.motion_pass_problems.proofs.Standing.{come_at, past_before}
use Rattle.motion_pass_placement.specs.Placed.{IsReadSomewhere}
use Rattle.motion_pass_placement.specs.Moving as moving
use Rattle.motion_pass_placement.specs.Moving.{AreRead, none_is, read_somewhere, read_nowhere, IsDoneAt, AreDoneAt, no_computation, one_done, one_passed, Becomes, AreMoved, no_more, one_more, IsLed, directly, by_own, IsEnd, IsMovedBlock, AreMovedBlocks, no_block, one_block, IsMoved}
use Rattle.motion_pass.specs.Grown as grown
use Rattle.motion_pass.specs.Grown.{BeginNoPlace, IsAdded, Turns, is_replaced, AreGrown, ends, adds, turns, IsBetween, IsOnEdge, IsLedTo, IsGrownEnd, IsGrownBlock, IsGrown}
use Rattle.motion_pass.proofs.Lists.{all_at, all_behind, all_of_both, at_left, at_right, each_among}
use Rattle.motion_pass.proofs.Computing.{CanBeComputed, can_compute, can_do, computes, doing_computes, writes_own}
use Rattle.motion_pass.proofs.Naming.{with_graphs}
use Rattle.motion_pass.proofs.Shapes.{begins_no_place}

-- ---- A graph that was left

module _ (May : Graph → Instruction → Type 0) (g : Graph) where
  -- Its instructions stay,
  itself_instructions : (is : List Instruction) → AreGrown (May g) is is
  itself_instructions [] = ends
  itself_instructions (i ∷ is) = turns grown.stays (itself_instructions is)

  -- its ends stay,
  itself_end : (place : Option ℕ) (end : End) → IsGrownEnd (May g) g.blocks place end end
  itself_end place (Jump l) = grown.jumps
  itself_end place (Branch k a b l m) = grown.branches grown.directly grown.directly
  itself_end place (Return a) = grown.returns

  -- and so do its blocks.
  itself_blocks : (bs : List Block) → Pairs (IsGrownBlock (May g) g.blocks) bs bs
  itself_blocks [] = tt
  itself_blocks (b ∷ bs) = (record { place = refl; instructions = itself_instructions b.instructions; end = itself_end (place_at_end b) b.end }, itself_blocks bs)

  -- A GRAPH THAT WAS LEFT has grown of itself.
  pub itself_grown : g.name_count ≤ most_names → instructions_of g ≤ most_instructions_of_function → IsGrown May g g
  itself_grown names instructions = record { rest = refl; more = omega arith; names = names; instructions = instructions; first = g.blocks; own = []; are = sym (append-nil g.blocks); blocks = itself_blocks g.blocks; edges = tt }

-- ---- A graph whose code was moved

module _ (May : Instruction → Type 0) where
  -- Computations are added before instructions.
  added_before : (before after done : List Instruction) → AllByRecursion (IsAdded May before) done → AreGrown May before after → AreGrown May before (done ++ after)
  added_before before after [] all more = more
  added_before before after (i ∷ done) all more = adds all.0 (added_before before after done all.1 more)

  -- Computations are added where nothing is left.
  added_alone : (done : List Instruction) → AllByRecursion (IsAdded May []) done → AreGrown May [] done
  added_alone [] all = ends
  added_alone (i ∷ done) all = adds all.0 (added_alone done all.1)

module _ (u : UnitForm) (hs : List Graph) (log : List Logged) (g h : Graph) (valid : IsGraph u g) (treated : List Computation) (names : h.name_count ≡ g.name_count + length treated) (reached : ℕ → Bool) (just : AreReached g.blocks reached) where
  -- what an instruction of the graph after names is there
  abbrev May : Instruction → Type 0
  May = IsInstruction (with_graphs u hs log) h

  -- What stands at a point of the graph before to which paths come is valid.
  valid_at : {n : ℕ} {rest : List Instruction} {end : End} → IsCome g.blocks (within n rest end) → AllByRecursion (IsInstruction u g) rest
  valid_at {n} {rest} come =
      let stands = come_at g.blocks reached just come in
      let block : IsBlock u g stands.1.block = all_at (IsBlock u g) g.blocks n stands.1.block valid.blocks stands.1.is in
      all_behind (IsInstruction u g) stands.0 rest (subst (AllByRecursion (IsInstruction u g)) (sym stands.1.parts) block.instructions)

  -- A computation that some instruction reads can be computed.
  read_can : (e : Computation) → IsReadSomewhere g.blocks e → CanBeComputed u g e
  read_can e (within n [] end, is) = absurd (true≢false (sym is.1.0))
  read_can e (within n (i ∷ rest) end, is) = can_compute u g i e (it_does e i is.1.0) (valid_at is.0).0
  read_can e (along n l, is) = absurd (true≢false (sym is.1.0))

  -- So can all that have temporaries.
  treated_can : (computations read : List Computation) → AreRead g.blocks computations read → AllByRecursion (CanBeComputed u g) read
  treated_can _ _ none_is = tt
  treated_can _ _ (read_somewhere {e} {computations} {read} is more) = (read_can e is, treated_can computations read more)
  treated_can _ _ (read_nowhere {e} {computations} {read} not more) = treated_can computations read more

  -- INSIDE A BLOCK the rule inserts a computation only before an instruction that does it.
  inserted_before : (e : Computation) (n : ℕ) (i : Instruction) (rest : List Instruction) (end : End) → IsDoneAt g.blocks e (within n (i ∷ rest) end) → computed_by i ≡ Some e
  inserted_before e n i rest end done = elim done.1.0.last [
    | inl does ↦ it_does e i does
    | inr next ↦ by_step next.0 next.1 next.2
  ]
    where
      behind_it : IsPast g.blocks e (within n rest end) → computed_by i ≡ Some e
      behind_it past = elim (past_before g.blocks reached just e (come_at g.blocks reached just done.0).1 past) [
        | inl does ↦ it_does e i does
        | inr still ↦ absurd (done.1.0.delayed still)
      ]

      by_step : (q : Point) → Leads g.blocks (within n (i ∷ rest) end) q → IsPast g.blocks e q → computed_by i ≡ Some e
      by_step _ passes past = behind_it past

  -- So it is no marker.
  begins_nothing : (e : Computation) (n : ℕ) (i : Instruction) (rest : List Instruction) (end : End) → IsDoneAt g.blocks e (within n (i ∷ rest) end) → BeginNoPlace (i ∷ rest)
  begins_nothing e n i rest end done = begins_no_place i (computes i e (inserted_before e n i rest end done)) rest

  -- What is done at a point is added there.
  done_added : (p : Point) (before : List Instruction) → ((e : Computation) → IsDoneAt g.blocks e p → BeginNoPlace before) → (name : ℕ) (more : List Computation) (done : List Instruction) → AreDoneAt g.blocks p name more done → g.name_count ≤ name → name + length more ≤ h.name_count
      → AllByRecursion (CanBeComputed u g) more → AllByRecursion (IsAdded May before) done
  done_added p before begin name _ _ no_computation fresh few can = tt
  done_added p before begin name _ _ (one_done {e = e} {more} {rest} is later) fresh few can =
      let added : IsAdded May before (doing name e) = record { computes = doing_computes name e; may = can_do u hs log g h (omega (arith, names)) name e (omega (arith, few)) can.0; begin = begin e is } in
      (added, done_added p before begin (suc name) more rest later (omega (arith, fresh)) (omega (arith, few)) can.1)
  done_added p before begin name _ _ (one_passed {e = e} {more} {rest} not later) fresh few can = done_added p before begin (suc name) more rest later (omega (arith, fresh)) (omega (arith, few)) can.1

  module _ (can : AllByRecursion (CanBeComputed u g) treated) where
    -- So is all that is done at a point,
    all_added : (p : Point) (before done : List Instruction) → ((e : Computation) → IsDoneAt g.blocks e p → BeginNoPlace before) → AreDoneAt g.blocks p g.name_count treated done → AllByRecursion (IsAdded May before) done
    all_added p before done begin are = done_added p before begin g.name_count treated done are (omega arith) (omega (arith, names)) can

    -- and what is done on an edge, before its end.
    edge_added : (n l : ℕ) (done : List Instruction) → AreDoneAt g.blocks (along n l) g.name_count treated done → AllByRecursion (IsAdded May []) done
    edge_added n l done are = all_added (along n l) [] done (λ e is. tt) are

    -- An instruction stays, or a read of a temporary stands in its place.
    becomes_turns : (n : ℕ) (i j : Instruction) (rest : List Instruction) (end : End) → IsInstruction u g i → Becomes g.blocks g.name_count treated (within n (i ∷ rest) end) i j → Turns May i j
    becomes_turns n i _ rest end v (moving.stays not) = grown.stays
    becomes_turns n i _ rest end v (moving.reads e k x read at target) =
        let does : computed_by i ≡ Some e = it_does e i read.1.0 in
        let inside : k < length treated = slice_get_within treated k e at in
        let own : x < g.name_count = writes_own u g i e x does target v in
        is_replaced (computes i e does) refl (omega (arith, own, names), omega (arith, inside, names))

    -- Instructions of a block grow, with what is done at its end.
    moved_grown : (n : ℕ) (end : End) (done : List Instruction) → AllByRecursion (IsAdded May []) done → (before after : List Instruction) → AllByRecursion (IsInstruction u g) before → AreMoved g.blocks g.name_count treated n end before after → AreGrown May before (after ++ done)
    moved_grown n end done all _ _ v no_more = added_alone May done all
    moved_grown n end done all _ _ v (one_more {i} {j} {rest} {done = news} {moved = later} are becomes more) =
        subst (AreGrown May (i ∷ rest)) (sym (append_assoc news (j ∷ later) done))
        (added_before May (i ∷ rest) (j ∷ (later ++ done)) news
        (all_added (within n (i ∷ rest) end) (i ∷ rest) news (λ e is. begins_nothing e n i rest end is) are)
        (turns (becomes_turns n i j rest end v.0 becomes) (moved_grown n end done all rest later v.1 more)))

    -- blocks on edges stand in the graph after from a number on
    abbrev OwnStand : (next : ℕ) → List Block → Type 0
    OwnStand next own = (j : ℕ) (x : Block) → slice_get own j ≡ Some x → slice_get h.blocks (next + j) ≡ Some x

    -- what is done on an edge stands between
    between : (n to : ℕ) (place : Option ℕ) (i : Instruction) (more : List Instruction) → AreDoneAt g.blocks (along n to) g.name_count treated (i ∷ more) → IsBetween May place to (record { place = place; instructions = i ∷ more; end = Jump to })
    between n to place i more are = record { place = refl; instructions = added_alone May (i ∷ more) (edge_added n to (i ∷ more) are); end = refl }

    -- Where an edge leads.
    led_to : (n : ℕ) (place : Option ℕ) (to next label : ℕ) (own : List Block) → IsLed g.blocks g.name_count treated n place to next label own → OwnStand next own → IsLedTo May h.blocks place to label
    led_to n place to next _ _ (directly are) stand = grown.directly
    led_to n place to next _ _ (by_own {i} {more} are) stand =
        grown.by_own (record { place = place; instructions = i ∷ more; end = Jump to }) (ap (slice_get h.blocks) here ∙ stand 0 (record { place = place; instructions = i ∷ more; end = Jump to }) refl) (between n to place i more are)
      where
        here : next ≡ next + 0
        here = omega arith

    -- A block of its own is on the edge.
    led_own : (n : ℕ) (b : Block) → Among b g.blocks → (to next label : ℕ) (own : List Block) → Among to (targets_of b.end) → IsLed g.blocks g.name_count treated n (place_at_end b) to next label own → AllByRecursion (IsOnEdge May g) own
    led_own n b of to next _ _ among (directly are) = tt
    led_own n b of to next _ _ among (by_own {i} {more} are) = (record { from = b; is = of; to = to; leads = among; between = between n to (place_at_end b) i more are }, tt)

    -- What becomes of an end, with what is done before it, and the blocks on its edges.
    record IsEndSo (b : Block) (done : List Instruction) (last : End) (own : List Block) : Type 0 where
      news : AllByRecursion (IsAdded May []) done
      end : IsGrownEnd May h.blocks (place_at_end b) b.end last
      edges : AllByRecursion (IsOnEdge May g) own

    -- So it is with each end.
    end_so : (n next : ℕ) (b : Block) → Among b g.blocks → (end : End) → b.end ≡ end → (done : List Instruction) (last : End) (own : List Block) → IsEnd g.blocks g.name_count treated n (place_at_end b) next end done last own → OwnStand next own → IsEndSo b done last own
    end_so n next b of _ is _ _ _ (moving.returns {a}) stand = record { news = tt; end = subst (λ e. IsGrownEnd May h.blocks (place_at_end b) e (Return a)) (sym is) grown.returns; edges = tt }
    end_so n next b of _ is _ _ _ (moving.jumps {to} {done} are) stand = record { news = edge_added n to done are; end = subst (λ e. IsGrownEnd May h.blocks (place_at_end b) e (Jump to)) (sym is) grown.jumps; edges = tt }
    end_so n next b of _ is _ _ _ (moving.branches {c = k} {a = v} {b = w} {to} {else} {label} {other} {own} {others} one two) stand = record {
      news = tt;
      end = subst (λ e. IsGrownEnd May h.blocks (place_at_end b) e (Branch k v w label other)) (sym is) (grown.branches first second);
      edges = all_of_both (IsOnEdge May g) own others
          (led_own n b of to next label own (subst (λ e. Among to (targets_of e)) (sym is) front) one)
          (led_own n b of else (next + length own) other others (subst (λ e. Among else (targets_of e)) (sym is) (behind front)) two);
    }
      where
        further : (j : ℕ) → (next + length own) + j ≡ next + (length own + j)
        further j = omega arith

        first : IsLedTo May h.blocks (place_at_end b) to label
        first = led_to n (place_at_end b) to next label own one (λ j x at. stand j x (at_left own others j (λ o. o ≡ Some x) (none-some x) at))

        second : IsLedTo May h.blocks (place_at_end b) else other
        second = led_to n (place_at_end b) else (next + length own) other others two (λ j x at. ap (slice_get h.blocks) (further j) ∙ stand (length own + j) x (at_right own others j (length own + j) refl ∙ at))

    -- what blocks become, with those on their edges
    record AreBlocksSo (before after own : List Block) : Type 0 where
      blocks : Pairs (IsGrownBlock May h.blocks) before after
      edges : AllByRecursion (IsOnEdge May g) own

    -- Blocks grow, one after the other.
    blocks_so : (n next : ℕ) (before after own : List Block) → ((b : Block) → Among b before → Among b g.blocks) → AreMovedBlocks g.blocks g.name_count treated n next before after own → OwnStand next own → AreBlocksSo before after own
    blocks_so n next _ _ _ of no_block stand = record { blocks = tt; edges = tt }
    blocks_so n next _ _ _ of (one_block {b = b} {c} {own} {rest} {moved} {others} is more) stand =
        let here : Among b g.blocks = of b front in
        let block : IsBlock u g b = each_among (IsBlock u g) g.blocks b here valid.blocks in
        let one : IsEndSo b is.done c.end own = end_so n next b here b.end refl is.done c.end own is.end (λ j x at. stand j x (at_left own others j (λ o. o ≡ Some x) (none-some x) at)) in
        let later : AreBlocksSo rest moved others = blocks_so (suc n) (next + length own) rest moved others (λ a among. of a (behind among)) more (λ j x at. ap (slice_get h.blocks) (further j) ∙ stand (length own + j) x (at_right own others j (length own + j) refl ∙ at)) in
        record {
          blocks = (record { place = is.place; instructions = subst (AreGrown May b.instructions) (sym is.are) (moved_grown n b.end is.done one.news b.instructions is.moved block.instructions is.instructions); end = one.end }, later.blocks);
          edges = all_of_both (IsOnEdge May g) own others one.edges later.edges;
        }
      where
        further : (j : ℕ) → (next + length own) + j ≡ next + (length own + j)
        further j = omega arith

-- As many blocks become others.
moved_many : (blocks : List Block) (first : ℕ) (treated : List Computation) (n next : ℕ) (before after own : List Block) → AreMovedBlocks blocks first treated n next before after own → length after ≡ length before
moved_many blocks first treated n next _ _ _ no_block = refl
moved_many blocks first treated n next _ _ _ (one_block {own = own} {rest = rest} {moved = moved} {others = others} is more) = ap suc (moved_many blocks first treated (suc n) (next + length own) rest moved others more)

-- A GRAPH WHOSE CODE WAS MOVED has grown of the one before, where it stays within bounds.
pub moved_grows : (u : UnitForm) (hs : List Graph) (log : List Logged) (g h : Graph) → IsGraph u g → IsMoved g h → h.name_count ≤ most_names → instructions_of h ≤ most_instructions_of_function → IsGrown (IsInstruction (with_graphs u hs log)) g h
moved_grows u hs log g h valid is names instructions = record {
  rest = λ i. record { entry = is.keeps.entry i; parameters = is.keeps.parameters i; scalars = is.keeps.scalars i; objects = is.keeps.objects i; name_count = h.name_count; first_moved = is.keeps.first_moved i; blocks = h.blocks };
  more = omega (arith, is.names);
  names = names;
  instructions = instructions;
  first = is.moved;
  own = is.own;
  are = is.are;
  blocks = so.blocks;
  edges = so.edges;
}
  where
    many : length is.moved ≡ length g.blocks
    many = moved_many g.blocks g.name_count is.treated 0 (length g.blocks) g.blocks is.moved is.own is.blocks

    stand : (j : ℕ) (x : Block) → slice_get is.own j ≡ Some x → slice_get h.blocks (length g.blocks + j) ≡ Some x
    stand j x at = ap (λ xs. slice_get xs (length g.blocks + j)) is.are ∙ at_right is.moved is.own j (length g.blocks + j) (ap (λ n. n + j) (sym many)) ∙ at

    can : AllByRecursion (CanBeComputed u g) is.treated
    can = treated_can u hs log g h valid is.treated is.names is.are_treated.reached is.are_treated.just is.are_treated.computations is.treated is.are_treated.read

    so : AreBlocksSo u hs log g h valid is.treated is.names is.are_treated.reached is.are_treated.just can g.blocks is.moved is.own
    so = blocks_so u hs log g h valid is.treated is.names is.are_treated.reached is.are_treated.just can 0 (length g.blocks) g.blocks is.moved is.own (λ b among. among) is.blocks stand
