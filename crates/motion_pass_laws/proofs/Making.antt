-- A graph whose code was moved is made of the one before, as marks see it; so is one that was left.
use Rattle.std.proofs.Common.{◌≡◌, inl, inr, ℕ, suc, ◌+◌, ◌≤◌, Bool, true, false, true≢false, Option, Some, List, [], ◌∷◌, ◌++◌, length, refl, sym, ap, ◌∙◌, subst, arith}
use Rattle.std.specs.Prelude.{slice_get}
use Rattle.std.specs.List.{AllByRecursion}
use Rattle.std.proofs.lemmas.List.{append_assoc}
use Rattle.std.proofs.lemmas.Option.{none-some, same_Some}
use Rattle.graph_core.specs.Graphs.{Operand, Name, Instruction, Marker, Note, Move, Operate, Truncate, Same, Address, Load, Store, Zero, CopyWords, Call, End, Jump, Branch, Return, Block, Graph, UnitForm}
use Rattle.graph_core.specs.Uses.{target_of, targets_of}
use Rattle.graph_core.specs.Paths.{Among, front, behind}
use Rattle.graph_core.specs.Computations.{Computation, computed_by}
use Rattle.graph_core.specs.Validity.{place_at_end}
use Rattle.motion_pass_points.specs.Ways.{Point, within, along, Leads, passes, IsPast}
use Rattle.motion_pass_points.proofs.Keys.{it_does}
use Rattle.motion_pass_problems.specs.Facts.{AreReached}
use Rattle.motion_pass_problems.proofs.Standing.{come_at, past_before}
use Rattle.motion_pass_placement.specs.Moving.{IsDoneAt, AreDoneAt, no_computation, one_done, one_passed, Becomes, stays, reads, AreMoved, no_more, one_more, IsLed, directly, by_own, IsEnd, returns, jumps, branches, IsMovedBlock, AreMovedBlocks, no_block, one_block, IsMoved}
use Rattle.motion_pass_laws.proofs.Blocks.{at_left, at_right, as_many}
use Rattle.motion_pass_laws.proofs.Quiet.{moved_graph}
use Rattle.motion_pass_laws.proofs.Fits.{moved_to}
use Rattle.motion_pass_laws.specs.Made as made
use Rattle.motion_pass_laws.specs.Made.{StaysOrReads, of_operate, of_truncate, of_same, CanBeDone, of_next, on_edge, IsNew, IsLedTo, EndsSo, AreLeft, none_left, one_left, new_left, IsMadeOf, IsAfter, of_block, of_edge, IsMade}
use Rattle.motion_pass_laws.proofs.Lists.{among_parts, at_among, inside_or_behind}
use Rattle.motion_pass_laws.proofs.Ways.{news_left, own_left}

module _ (g : Graph) where
  -- ---- A graph that was left

  -- An end stands for itself.
  itself_ends : (n : ℕ) (end : End) → EndsSo g g n end end
  itself_ends n end = record { targets = λ label among. made.directly among; returns = λ a is. is; reads = λ t among. among }

  -- What is left is left.
  itself_left : (n : ℕ) (end : End) (rest : List Instruction) → AreLeft g g n end end rest rest
  itself_left n end [] = none_left (itself_ends n end)
  itself_left n end (i ∷ rest) = one_left made.stays (itself_left n end rest)

  -- A GRAPH THAT WAS LEFT is made of itself.
  pub itself_made : IsMade g g
  itself_made = record {
    entry = refl;
    parameters = refl;
    scalars = refl;
    objects = refl;
    first_moved = refl;
    block = λ n b at. (b, at, record { place = refl; left = itself_left n b.end b.instructions });
    back = λ n b at. of_block b at (record { place = refl; left = itself_left n b.end b.instructions });
  }

  -- ---- Instructions

  -- an instruction that computes, of which the target is assigned a temporary
  reads_so : (i : Instruction) (e : Computation) (x t : ℕ) → computed_by i ≡ Some e → target_of i ≡ Some x → g.name_count ≤ t → StaysOrReads g i (Move x (Name t))
  reads_so (Operate z o a b) e x t is target fresh = subst (λ y. StaysOrReads g (Operate z o a b) (Move y (Name t))) (same_Some z x target) (of_operate fresh)
  reads_so (Truncate z k a) e x t is target fresh = subst (λ y. StaysOrReads g (Truncate z k a) (Move y (Name t))) (same_Some z x target) (of_truncate fresh)
  reads_so (Same z a b) e x t is target fresh = subst (λ y. StaysOrReads g (Same z a b) (Move y (Name t))) (same_Some z x target) (of_same fresh)
  reads_so (Marker p) e x t is target fresh = absurd (none-some e is)
  reads_so (Note z v) e x t is target fresh = absurd (none-some e is)
  reads_so (Move z a) e x t is target fresh = absurd (none-some e is)
  reads_so (Address z object) e x t is target fresh = absurd (none-some e is)
  reads_so (Load z k l) e x t is target fresh = absurd (none-some e is)
  reads_so (Store k l a) e x t is target fresh = absurd (none-some e is)
  reads_so (Zero object words) e x t is target fresh = absurd (none-some e is)
  reads_so (CopyWords object bytes words) e x t is target fresh = absurd (none-some e is)
  reads_so (Call z f all) e x t is target fresh = absurd (none-some e is)

  -- What becomes of an instruction by the rule stays, or reads a temporary.
  pub becomes_so : (treated : List Computation) (n : ℕ) (i j : Instruction) (rest : List Instruction) (end : End) → Becomes g.blocks g.name_count treated (within n (i ∷ rest) end) i j → StaysOrReads g i j
  becomes_so treated n i _ rest end (stays not) = made.stays
  becomes_so treated n i _ rest end (reads e k x read at target) = reads_so i e x (g.name_count + k) (it_does e i read.1.0) target (omega (arith))

  -- What the rule does before what is left of a block is new there, where what it does can be done.
  done_new : (p : Point) (n : ℕ) (rest : List Instruction) (end : End) → ((e : Computation) → IsDoneAt g.blocks e p → CanBeDone g e n rest end) → (name : ℕ) (treated : List Computation) (done : List Instruction) → AreDoneAt g.blocks p name treated done → g.name_count ≤ name
      → AllByRecursion (IsNew g n rest end) done
  done_new p n rest end can name _ _ no_computation fresh = tt
  done_new p n rest end can name _ _ (one_done {e = e} {more = more} {rest = later} is are) fresh =
      (record { computation = e; does = record { name = name; fresh = fresh; is = refl }; can = can e is }, done_new p n rest end can (suc name) more later are (omega (arith, fresh)))
  done_new p n rest end can name _ _ (one_passed {more = more} {rest = later} not are) fresh = done_new p n rest end can (suc name) more later are (omega (arith, fresh))

  -- What is done on an edge is new at the end of the block that it leaves.
  edge_new : (treated : List Computation) (n l : ℕ) (end : End) → Among l (targets_of end) → (done : List Instruction) → AreDoneAt g.blocks (along n l) g.name_count treated done → AllByRecursion (IsNew g n [] end) done
  edge_new treated n l end among done are = done_new (along n l) n [] end (λ e is. on_edge l among is) g.name_count treated done are (omega (arith))

  module _ (reached : ℕ → Bool) (just : AreReached g.blocks reached) where
    -- INSIDE A BLOCK the rule inserts a computation only before an instruction that does it.
    inserted_before : (e : Computation) (n : ℕ) (i : Instruction) (rest : List Instruction) (end : End) → IsDoneAt g.blocks e (within n (i ∷ rest) end) → computed_by i ≡ Some e
    inserted_before e n i rest end done = elim done.1.0.last [
      | inl does ↦ it_does e i does
      | inr next ↦ by_step next.0 next.1 next.2
    ]
      where
        behind_it : IsPast g.blocks e (within n rest end) → computed_by i ≡ Some e
        behind_it past = elim (past_before g.blocks reached just e (come_at g.blocks reached just done.0).1 past) [
          | inl does ↦ it_does e i does
          | inr still ↦ absurd (done.1.0.delayed still)
        ]

        by_step : (q : Point) → Leads g.blocks (within n (i ∷ rest) end) q → IsPast g.blocks e q → computed_by i ≡ Some e
        by_step _ passes past = behind_it past

    module _ (h : Graph) (treated : List Computation) where
      -- new instructions before what is left
      news_before : (n : ℕ) (end last : End) (rest after : List Instruction) → AreLeft g h n end last rest after → (news : List Instruction) → AllByRecursion (IsNew g n rest end) news → AreLeft g h n end last rest (news ++ after)
      news_before n end last rest after are [] all = are
      news_before n end last rest after are (i ∷ news) all = new_left all.0 (news_before n end last rest after are news all.1)

      -- What becomes of instructions of a block, with what is done at its end.
      moved_left : (n : ℕ) (end last : End) → EndsSo g h n end last → (done : List Instruction) → AllByRecursion (IsNew g n [] end) done → (before after : List Instruction) → AreMoved g.blocks g.name_count treated n end before after → AreLeft g h n end last before (after ++ done)
      moved_left n end last ends done all _ _ no_more = news_left g h n end last ends done all
      moved_left n end last ends done all _ _ (one_more {i = i} {j} {rest} {done = news} {moved = later} are becomes more) =
          subst (λ xs. AreLeft g h n end last (i ∷ rest) xs) (sym (append_assoc news (j ∷ later) done))
          (news_before n end last (i ∷ rest) (j ∷ (later ++ done)) (one_left (becomes_so treated n i j rest end becomes) (moved_left n end last ends done all rest later more)) news
          (done_new (within n (i ∷ rest) end) n (i ∷ rest) end (λ e is. of_next (inserted_before e n i rest end is)) g.name_count treated news are (omega (arith))))

      -- Blocks on edges stand in the graph after from a number on.
      abbrev OwnStand : (next : ℕ) → List Block → Type 0
      OwnStand next own = (j : ℕ) (x : Block) → slice_get own j ≡ Some x → slice_get h.blocks (next + j) ≡ Some x

      -- where an edge leads
      led_to : (n : ℕ) (end : End) (place : Option ℕ) (to next label : ℕ) (own : List Block) → Among to (targets_of end) → IsLed g.blocks g.name_count treated n place to next label own → OwnStand next own → IsLedTo g h n end label
      led_to n end place to next _ _ among (directly are) stand = made.directly among
      led_to n end place to next _ _ among (by_own {i = i} {more} are) stand =
          made.by_own (record { place = place; instructions = i ∷ more; end = Jump to }) to (ap (slice_get h.blocks) here ∙ stand 0 (record { place = place; instructions = i ∷ more; end = Jump to }) refl) (edge_new treated n to end among (i ∷ more) are) among refl
        where
          here : next ≡ next + 0
          here = omega (arith)

      -- What becomes of an end stands for it, and what is done before it is new.
      record IsEndSo (n : ℕ) (end last : End) (done : List Instruction) : Type 0 where
        ends : EndsSo g h n end last
        news : AllByRecursion (IsNew g n [] end) done

      -- So it is with each end.
      end_so : (n : ℕ) (place : Option ℕ) (next : ℕ) (end : End) (done : List Instruction) (last : End) (own : List Block) → IsEnd g.blocks g.name_count treated n place next end done last own → OwnStand next own → IsEndSo n end last done
      end_so n place next _ _ _ _ (returns {a = a}) stand = record { ends = record { targets = λ label none. elim none [ ]; returns = λ b is. is; reads = λ t among. among }; news = tt }
      end_so n place next _ _ _ _ (jumps {to = to} {done = done} are) stand = record { ends = record { targets = λ label among. made.directly among; returns = λ b is. is; reads = λ t among. among }; news = edge_new treated n to (Jump to) front done are }
      end_so n place next _ _ _ _ (branches {c = k} {a} {b} {to} {else} {label} {other} {own} {others} one two) stand = record { ends = record { targets = targets; returns = λ v is. absurd (no_return v is); reads = λ t among. among }; news = tt }
        where
          end : End
          end = Branch k a b to else

          further : (j : ℕ) → (next + length own) + j ≡ next + (length own + j)
          further j = omega (arith)

          first : IsLedTo g h n end label
          first = led_to n end place to next label own front one (λ j x at. stand j x (at_left own others j x at))

          second : IsLedTo g h n end other
          second = led_to n end place else (next + length own) other others (behind front) two (λ j x at. ap (slice_get h.blocks) (further j) ∙ stand (length own + j) x (at_right own others j (length own + j) refl ∙ at))

          targets : (l : ℕ) → Among l (label ∷ other ∷ []) → IsLedTo g h n end l
          targets _ front = first
          targets _ (behind front) = second
          targets l (behind (behind more)) = elim more [ ]

          is_branch : End → Bool
          is_branch (Branch c v w l m) = true
          is_branch _ = false

          no_return : (v : Option Operand) → Branch k a b label other ≡ Return v → ⊥
          no_return v is = true≢false (ap is_branch is)

      -- A block becomes one that is made of it.
      block_so : (n next : ℕ) (b c : Block) (own : List Block) → IsMovedBlock g.blocks g.name_count treated n next b c own → OwnStand next own → IsMadeOf g h n b c
      block_so n next b c own is stand = (let e = end_so n (place_at_end b) next b.end is.done c.end own is.end stand in record {
        place = is.place;
        left = subst (λ xs. AreLeft g h n b.end c.end b.instructions xs) (sym is.are) (moved_left n b.end c.end e.ends is.done e.news b.instructions is.moved is.instructions);
      })

      -- A block on an edge is one of new instructions.
      led_own : (n : ℕ) (end : End) (place : Option ℕ) (to next label : ℕ) (own : List Block) → Among to (targets_of end) → IsLed g.blocks g.name_count treated n place to next label own → (c : Block) → Among c own → AreLeft g h n end c.end [] c.instructions
      led_own n end place to next _ _ among (directly are) c of = elim of [ ]
      led_own n end place to next _ _ among (by_own {i = i} {more} are) _ front = own_left g h n end (record { place = place; instructions = i ∷ more; end = Jump to }) to (edge_new treated n to end among (i ∷ more) are) among refl
      led_own n end place to next _ _ among (by_own {i = i} {more} are) c (behind none) = elim none [ ]

      -- So is each of those at an end.
      end_own : (n : ℕ) (place : Option ℕ) (next : ℕ) (end : End) (done : List Instruction) (last : End) (own : List Block) → IsEnd g.blocks g.name_count treated n place next end done last own → (c : Block) → Among c own → AreLeft g h n end c.end [] c.instructions
      end_own n place next _ _ _ _ (returns {a = a}) c of = elim of [ ]
      end_own n place next _ _ _ _ (jumps {to = to} are) c of = elim of [ ]
      end_own n place next _ _ _ _ (branches {c = k} {a} {b} {to} {else} {label} {other} {own} {others} one two) c of = elim (among_parts c own others of) [
        | inl here ↦ led_own n (Branch k a b to else) place to next label own front one c here
        | inr there ↦ led_own n (Branch k a b to else) place else (next + length own) other others (behind front) two c there
      ]

      -- Of some block it is.
      record IsOfSome (before : List Block) (from : ℕ) (c : Block) : Type 0 where
        index : ℕ
        block : Block
        is : slice_get before index ≡ Some block
        left : AreLeft g h (from + index) block.end c.end [] c.instructions

      -- So is each of those on the edges of blocks.
      some_own : (n next : ℕ) (before after own : List Block) → AreMovedBlocks g.blocks g.name_count treated n next before after own → (c : Block) → Among c own → IsOfSome before n c
      some_own n next _ _ _ no_block c of = elim of [ ]
      some_own n next _ _ _ (one_block {b = b} {c = a} {own = own} {rest = rest} {moved = moved} {others = others} is more) c of = elim (among_parts c own others of) [
        | inl here ↦ record { index = 0; block = b; is = refl; left = subst (λ m. AreLeft g h m b.end c.end [] c.instructions) first (end_own n (place_at_end b) next b.end is.done a.end own is.end c here) }
        | inr there ↦ (let s = some_own (suc n) (next + length own) rest moved others more c there in record { index = suc s.index; block = s.block; is = s.is; left = subst (λ m. AreLeft g h m s.block.end c.end [] c.instructions) (later s.index) s.left })
      ]
        where
          first : n ≡ n + 0
          first = omega (arith)

          later : (k : ℕ) → suc n + k ≡ n + suc k
          later k = omega (arith)

module _ (u : UnitForm) (g h : Graph) (is : IsMoved g h) where
  -- the graph after, by what it has more
  shape : h ≡ moved_graph g h.name_count h.blocks
  shape = λ i. record {
    entry = is.keeps.entry i;
    parameters = is.keeps.parameters i;
    scalars = is.keeps.scalars i;
    objects = is.keeps.objects i;
    name_count = h.name_count;
    first_moved = is.keeps.first_moved i;
    blocks = h.blocks;
  }

  -- the code of that was moved
  same_moved : IsMoved g (moved_graph g h.name_count h.blocks)
  same_moved = subst (λ k. IsMoved g k) shape is

  -- Each block becomes one that is made of it.
  block_made : (n : ℕ) (b : Block) → slice_get g.blocks n ≡ Some b → (c : Block) × (slice_get h.blocks n ≡ Some c) × IsMadeOf g h n b c
  block_made n b at =
      let t = moved_to u g h.name_count h.blocks same_moved n b at in
      (t.block, t.stands, block_so g same_moved.are_treated.reached same_moved.are_treated.just h same_moved.treated n t.next b t.block t.own t.moved t.own_stand)

  -- Each block is made of one, or stands on an edge.
  block_back : (n : ℕ) (c : Block) → slice_get h.blocks n ≡ Some c → IsAfter g h n c
  block_back n c there = elim (inside_or_behind g.blocks n) [
    | inl at ↦ (let d = block_made n at.0 at.1 in of_block at.0 at.1 (subst (λ k. IsMadeOf g h n at.0 k) (same_Some d.0 c (sym d.1 ∙ there)) d.2))
    | inr over ↦ on_some_edge over.0 over.1
  ]
    where
      all : (m : ℕ) → 0 + m ≡ m
      all m = omega (arith)

      on_some_edge : (k : ℕ) → n ≡ length g.blocks + k → IsAfter g h n c
      on_some_edge k over =
          let many = as_many g.blocks g.name_count is.treated 0 (length g.blocks) g.blocks is.moved is.own is.blocks in
          let here : n ≡ length is.moved + k = over ∙ ap (λ m. m + k) (sym many) in
          let at : slice_get is.own k ≡ Some c = sym (at_right is.moved is.own k n here) ∙ ap (λ xs. slice_get xs n) (sym is.are) ∙ there in
          let s = some_own g is.are_treated.reached is.are_treated.just h is.treated 0 (length g.blocks) g.blocks is.moved is.own is.blocks c (at_among is.own k c at) in
          of_edge s.index s.block s.is (subst (λ m. AreLeft g h m s.block.end c.end [] c.instructions) (all s.index) s.left)

  -- A GRAPH WHOSE CODE WAS MOVED is made of the one before.
  pub moved_made : IsMade g h
  moved_made = record { entry = is.keeps.entry; parameters = is.keeps.parameters; scalars = is.keeps.scalars; objects = is.keeps.objects; first_moved = is.keeps.first_moved; block = block_made; back = block_back }
