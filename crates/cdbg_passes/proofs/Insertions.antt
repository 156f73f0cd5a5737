-- What writes a temporary of code motion does its computation, where that was down-safe.
use Rattle.std.proofs.Common.{◌≡◌, inl, inr, ℕ, suc, ◌+◌, ◌≤◌, ◌<◌, true≢false, Option, Some, None, List, [], ◌∷◌, ◌++◌, length, refl, sym, ap, ◌∙◌, subst, arith, append_assoc}
use Rattle.std.specs.Prelude.{slice_get}
use Rattle.std.specs.List.{AllByRecursion}
use Rattle.std.proofs.lemmas.Option.{none-some, same_Some, slice_get_past}
use Rattle.graph_core.specs.Graphs.{Instruction, Marker, Note, Move, Operate, Truncate, Same, Address, Load, Store, Zero, CopyWords, Call, End, Jump, Block, Graph, UnitForm}
use Rattle.graph_core.specs.Uses.{target_of}
use Rattle.graph_core.specs.Paths.{Among, front, behind}
use Rattle.graph_core.specs.Points.{Behind}
use Rattle.graph_core.specs.Computations.{Computation}
use Rattle.graph_core.specs.Validity.{IsBlock, IsGraph, IsInstruction, place_at_end}
use Rattle.graph_core.proofs.Among.{among_cases, among_one, at_among}
use Rattle.base_laws.proofs.Lists.{all_at, append_nil, front_at}
use Rattle.pass_law.specs.Earned.{in_block, on_edge, WasDownSafe, Widens, none}
use Rattle.motion_pass_points.specs.Ways.{Point, within, along, Leads, leaves, enters, IsUnsafe, spoiled, ahead}
use Rattle.motion_pass_points.specs.MotionPointsComputing.{doing}
use Rattle.motion_pass_points.proofs.Wanted.{inserted_safe}
use Rattle.motion_pass_placement.specs.Moving.{AreDoneAt, no_computation, one_done, one_passed, AreMoved, no_more, one_more, AreMovedBlocks, no_block, one_block, IsDoneAt, IsEnd, returns, jumps, branches, IsLed, directly, by_own, IsMoved, IsMovedBlock}
use Rattle.motion_pass_laws.proofs.Blocks.{IsFound, found, as_many, at_right}
use Rattle.motion_pass_laws.proofs.Lists.{inside_or_behind}
use Rattle.dead_pass_laws.proofs.Points.{first_same, rest_same}
use Rattle.dead_pass_laws.proofs.Ways.{not_empty}
use Rattle.cdbg_passes.proofs.DownSafe.{down_safe}
use Rattle.cdbg_passes.proofs.Widening.{PutsFrom, becomes_target, becomes_wide, both_wide, done_puts, moved_wide, puts_before}

-- ---- Lists in two ways

-- Where an element stands in a list that is put together of three: in the first part, in the middle, or in the last.
data StandsWhere {A : Type 0} (xs : List A) (y : A) (ys fronts : List A) (i : A) (rest : List A) : Type 0 where
  in_first : (more : List A) → xs ≡ fronts ++ i ∷ more → rest ≡ more ++ y ∷ ys → StandsWhere xs y ys fronts i rest
  in_middle : i ≡ y → StandsWhere xs y ys fronts i rest
  in_last : (more : List A) → fronts ≡ xs ++ y ∷ more → ys ≡ more ++ i ∷ rest → StandsWhere xs y ys fronts i rest

stands_where : {A : Type 0} (xs : List A) (y : A) (ys fronts : List A) (i : A) (rest : List A) → xs ++ y ∷ ys ≡ fronts ++ i ∷ rest → StandsWhere xs y ys fronts i rest
stands_where [] y ys [] i rest e = in_middle (sym (first_same e))
stands_where [] y ys (f ∷ fronts) i rest e = in_last fronts (ap (λ z. z ∷ fronts) (sym (first_same e))) (rest_same e)
stands_where (x ∷ xs) y ys [] i rest e = in_first xs (ap (λ z. z ∷ xs) (first_same e)) (sym (rest_same e))
stands_where (x ∷ xs) y ys (f ∷ fronts) i rest e = one_behind (stands_where xs y ys fronts i rest (rest_same e))
  where
    head : x ≡ f
    head = first_same e

    one_behind : StandsWhere xs y ys fronts i rest → StandsWhere (x ∷ xs) y ys (f ∷ fronts) i rest
    one_behind (in_first more a b) = in_first more (ap (λ z. z ∷ xs) head ∙ ap (λ l. f ∷ l) a) b
    one_behind (in_middle a) = in_middle a
    one_behind (in_last more a b) = in_last more (ap (λ l. f ∷ l) a ∙ ap (λ z. z ∷ (xs ++ y ∷ more)) (sym head)) b

-- What is so of the elements of two lists is so of those of each.
all_parts : {A : Type 0} (P : A → Type 0) (xs ys : List A) → AllByRecursion P (xs ++ ys) → AllByRecursion P xs × AllByRecursion P ys
all_parts P [] ys all = (tt, all)
all_parts P (x ∷ xs) ys all = (let rest = all_parts P xs ys all.1 in ((all.0, rest.0), rest.1))

-- what writes a name that its graph has writes none from a later one on
target_below : (u : UnitForm) (g : Graph) (i : Instruction) (t : ℕ) → IsInstruction u g i → target_of i ≡ Some t → t < g.name_count
target_below u g (Marker p) t valid target = absurd (none-some t target)
target_below u g (Note y v) t valid target = absurd (none-some t target)
target_below u g (Move y a) t valid target = subst (λ z. z < g.name_count) (same_Some y t target) valid.0
target_below u g (Operate y o a b) t valid target = subst (λ z. z < g.name_count) (same_Some y t target) valid.0
target_below u g (Truncate y k a) t valid target = subst (λ z. z < g.name_count) (same_Some y t target) valid.0
target_below u g (Same y a b) t valid target = subst (λ z. z < g.name_count) (same_Some y t target) valid.0
target_below u g (Address y object) t valid target = subst (λ z. z < g.name_count) (same_Some y t target) valid.0
target_below u g (Load y k l) t valid target = subst (λ z. z < g.name_count) (same_Some y t target) valid.0
target_below u g (Store k l a) t valid target = absurd (none-some t target)
target_below u g (Zero object words) t valid target = absurd (none-some t target)
target_below u g (CopyWords object bytes words) t valid target = absurd (none-some t target)
target_below u g (Call None f all) t valid target = absurd (none-some t target)
target_below u g (Call (Some y) f all) t valid target = subst (λ z. z < g.name_count) (same_Some y t target) valid.0

module _ (g h : Graph) (treated : List Computation) where
  -- An instruction of the graph after does a computation that has a temporary, into it, where it was down-safe.
  pub record IsInsertion (n : ℕ) (i : Instruction) (rest : List Instruction) : Type 0 where
    pub e : Computation
    pub k : ℕ
    pub numbered : slice_get treated k ≡ Some e
    pub does : i ≡ doing (g.name_count + k) e
    pub safe : WasDownSafe g h e n (i ∷ rest)

  -- What is done at a point, one by one.
  record IsDone (p : Point) (name : ℕ) (all : List Computation) (i : Instruction) : Type 0 where
    e : Computation
    k : ℕ
    numbered : slice_get all k ≡ Some e
    does : i ≡ doing (name + k) e
    done : IsDoneAt g.blocks e p

  done_next : (p : Point) (name : ℕ) (e : Computation) (more : List Computation) (i : Instruction) → IsDone p (suc name) more i → IsDone p name (e ∷ more) i
  done_next p name e more i d = record { e = d.e; k = suc d.k; numbered = d.numbered; does = d.does ∙ ap (λ m. doing m d.e) (further d.k); done = d.done }
    where
      further : (k : ℕ) → suc name + k ≡ name + suc k
      further k = omega arith

  done_is : (p : Point) (name : ℕ) (all : List Computation) (done : List Instruction) → AreDoneAt g.blocks p name all done → (fronts : List Instruction) (i : Instruction) (more : List Instruction) → done ≡ fronts ++ i ∷ more → IsDone p name all i
  done_is p name _ _ no_computation [] i more e = absurd (not_empty (sym e))
  done_is p name _ _ no_computation (f ∷ fronts) i more e = absurd (not_empty (sym e))
  done_is p name _ _ (one_done {e = c} {more = others} {rest = later} is are) [] i more e =
      record { e = c; k = 0; numbered = refl; does = sym (first_same e) ∙ ap (λ m. doing m c) here; done = is }
    where
      here : name ≡ name + 0
      here = omega arith
  done_is p name _ _ (one_done {e = c} {more = others} {rest = later} is are) (f ∷ fronts) i more e = done_next p name c others i (done_is p (suc name) others later are fronts i more (rest_same e))
  done_is p name _ _ (one_passed {e = c} {more = others} {rest = later} not are) fronts i more e = done_next p name c others i (done_is p (suc name) others later are fronts i more e)

  -- Such an instruction is an insertion, where its point lies where the rule inserts it.
  inserted : (p : Point) (n : ℕ) (i : Instruction) (rest : List Instruction) → IsDone p g.name_count treated i → ((e : Computation) → IsDoneAt g.blocks e p → (IsUnsafe g.blocks e p → ⊥) → WasDownSafe g h e n (i ∷ rest)) → IsInsertion n i rest
  inserted p n i rest d safe = record { e = d.e; k = d.k; numbered = d.numbered; does = d.does; safe = safe d.e d.done (inserted_safe g.blocks d.e d.done.0 d.done.1) }

  -- ---- In a block of the graph before

  module _ (u : UnitForm) (n : ℕ) (b c : Block) (is : slice_get g.blocks n ≡ Some b) (at : slice_get h.blocks n ≡ Some c) (t : ℕ) (fresh : g.name_count ≤ t) where
    -- The point lies at one of the graph before.
    lies_here : (was left so rest : List Instruction) → b.instructions ≡ was ++ left → c.instructions ≡ so ++ rest → Widens g.name_count was so → Widens g.name_count left rest → (e : Computation) → (IsUnsafe g.blocks e (within n left b.end) → ⊥) → WasDownSafe g h e n rest
    lies_here was left so rest parts others before after e safe = record { block = n; left = left; end = b.end; lies = in_block is at parts others before after; safe = down_safe g e n left b.end safe }

    -- What is done on the one edge from the block stands at its end.
    end_insertion : (end : End) (done : List Instruction) (last : End) (own : List Block) (place : Option ℕ) (next : ℕ) → IsEnd g.blocks g.name_count treated n place next end done last own → end ≡ b.end
        → (was so : List Instruction) → b.instructions ≡ was ++ [] → c.instructions ≡ so ++ done → Widens g.name_count was so → (fronts : List Instruction) (i : Instruction) (rest : List Instruction) → done ≡ fronts ++ i ∷ rest → IsInsertion n i rest
    end_insertion _ _ _ _ place next (returns {a = a}) ending was so parts others wide [] i rest e = absurd (not_empty (sym e))
    end_insertion _ _ _ _ place next (returns {a = a}) ending was so parts others wide (f ∷ fronts) i rest e = absurd (not_empty (sym e))
    end_insertion _ _ _ _ place next (branches one two) ending was so parts others wide [] i rest e = absurd (not_empty (sym e))
    end_insertion _ _ _ _ place next (branches one two) ending was so parts others wide (f ∷ fronts) i rest e = absurd (not_empty (sym e))
    end_insertion _ _ _ _ place next (jumps {to = to} {done = done} are) ending was so parts others wide fronts i rest e =
        inserted (along n to) n i rest (done_is (along n to) g.name_count treated done are fronts i rest e)
        (λ d done_at safe. lies_here was [] (so ++ fronts) (i ∷ rest) parts (others ∙ ap (λ l. so ++ l) e ∙ sym (append_assoc so fronts (i ∷ rest)))
        (subst (λ l. Widens g.name_count l (so ++ fronts)) (append_nil was) (both_wide g.blocks g.name_count treated was so [] fronts wide (subst (λ l. Widens g.name_count [] l) (append_nil fronts) (puts_before g.blocks g.name_count treated fronts [] [] puts.0 none))))
        (subst (λ l. Widens g.name_count [] l) (append_nil (i ∷ rest)) (puts_before g.blocks g.name_count treated (i ∷ rest) [] [] puts.1 none)) d
        (subst (λ f. IsUnsafe g.blocks d (within n [] f) → ⊥) ending (by_edge d safe)))
      where
        all : AllByRecursion (PutsFrom g.name_count) done
        all = done_puts g.blocks g.name_count treated (along n to) g.name_count treated done (omega arith) are

        puts : AllByRecursion (PutsFrom g.name_count) fronts × AllByRecursion (PutsFrom g.name_count) (i ∷ rest)
        puts = all_parts (PutsFrom g.name_count) fronts (i ∷ rest) (subst (λ l. AllByRecursion (PutsFrom g.name_count) l) e all)

        by_edge : (d : Computation) → (IsUnsafe g.blocks d (along n to) → ⊥) → IsUnsafe g.blocks d (within n [] (Jump to)) → ⊥
        by_edge d safe (spoiled undone spoils) = true≢false (sym spoils)
        by_edge d safe (ahead undone step unsafe) = by_step step unsafe
          where
            by_step : {q : Point} → Leads g.blocks (within n [] (Jump to)) q → IsUnsafe g.blocks d q → ⊥
            by_step (leaves {l = l} among) further = safe (subst (λ m. IsUnsafe g.blocks d (along n m)) (among_one among) further)

    -- What is done at the end writes temporaries.
    end_puts : (end : End) (done : List Instruction) (last : End) (own : List Block) (place : Option ℕ) (next : ℕ) → IsEnd g.blocks g.name_count treated n place next end done last own → AllByRecursion (PutsFrom g.name_count) done
    end_puts _ _ _ _ place next (returns {a = a}) = tt
    end_puts _ _ _ _ place next (jumps {to = to} {done = done} are) = done_puts g.blocks g.name_count treated (along n to) g.name_count treated done (omega arith) are
    end_puts _ _ _ _ place next (branches one two) = tt

    -- WHAT WRITES A TEMPORARY IN THE BLOCK is an insertion.
    block_insertion : (bs moved : List Instruction) → AreMoved g.blocks g.name_count treated n b.end bs moved → (done : List Instruction) → AllByRecursion (PutsFrom g.name_count) done
        → ((was so : List Instruction) → b.instructions ≡ was ++ [] → c.instructions ≡ so ++ done → Widens g.name_count was so → (fronts : List Instruction) (i : Instruction) (rest : List Instruction) → done ≡ fronts ++ i ∷ rest → IsInsertion n i rest)
        → AllByRecursion (IsInstruction u g) bs → (was so : List Instruction) → b.instructions ≡ was ++ bs → c.instructions ≡ so ++ (moved ++ done) → Widens g.name_count was so
        → (fronts : List Instruction) (i : Instruction) (rest : List Instruction) → moved ++ done ≡ fronts ++ i ∷ rest → target_of i ≡ Some t → IsInsertion n i rest
    block_insertion _ _ no_more done all ending valid was so parts others wide fronts i rest e target = ending was so parts others wide fronts i rest e
    block_insertion _ _ (one_more {i = j} {j = l} {rest = left} {done = news} {moved = moved} are becomes more) done all ending valid was so parts others wide fronts i rest e target =
        by_where (λ w s p o v f q. block_insertion left moved more done all ending valid.1 w s p o v f i rest q target) (stands_where news l (moved ++ done) fronts i rest (sym (append_assoc news (l ∷ moved) done) ∙ e))
      where
        news_puts : AllByRecursion (PutsFrom g.name_count) news
        news_puts = done_puts g.blocks g.name_count treated (within n (j ∷ left) b.end) g.name_count treated news (omega arith) are

        -- before what is left of the block
        in_news : (back : List Instruction) → news ≡ fronts ++ i ∷ back → rest ≡ back ++ l ∷ (moved ++ done) → IsInsertion n i rest
        in_news back a r =
            let both = all_parts (PutsFrom g.name_count) fronts (i ∷ back) (subst (λ q. AllByRecursion (PutsFrom g.name_count) q) a news_puts) in
            let fronts_wide : Widens g.name_count [] fronts = subst (λ q. Widens g.name_count [] q) (append_nil fronts) (puts_before g.blocks g.name_count treated fronts [] [] both.0 none) in
            let so_wide : Widens g.name_count was (so ++ fronts) = subst (λ q. Widens g.name_count q (so ++ fronts)) (append_nil was) (both_wide g.blocks g.name_count treated was so [] fronts wide fronts_wide) in
            let left_wide : Widens g.name_count (j ∷ left) (l ∷ (moved ++ done)) = becomes_wide g.blocks g.name_count treated (within n (j ∷ left) b.end) j l left (moved ++ done) becomes (moved_wide g.blocks g.name_count treated n b.end left moved done more all) in
            let rest_wide : Widens g.name_count (j ∷ left) (i ∷ rest) = subst (λ q. Widens g.name_count (j ∷ left) (i ∷ q)) (sym r) (puts_before g.blocks g.name_count treated (i ∷ back) (j ∷ left) (l ∷ (moved ++ done)) both.1 left_wide) in
            inserted (within n (j ∷ left) b.end) n i rest (done_is (within n (j ∷ left) b.end) g.name_count treated news are fronts i back a)
            (λ d done_at safe. lies_here was (j ∷ left) (so ++ fronts) (i ∷ rest) parts (others ∙ ap (λ q. so ++ q) e ∙ sym (append_assoc so fronts (i ∷ rest))) so_wide rest_wide d safe)

        by_where : ((w s : List Instruction) → b.instructions ≡ w ++ left → c.instructions ≡ s ++ (moved ++ done) → Widens g.name_count w s → (f : List Instruction) → moved ++ done ≡ f ++ i ∷ rest → IsInsertion n i rest)
            → StandsWhere news l (moved ++ done) fronts i rest → IsInsertion n i rest
        by_where later (in_first back a r) = in_news back a r
        by_where later (in_middle same) =
            let low = target_below u g j t valid.0 (sym (becomes_target g.blocks g.name_count treated (within n (j ∷ left) b.end) j l becomes) ∙ ap target_of (sym same) ∙ target) in
            absurd (omega (arith, low, fresh))
        by_where later (in_last f a r) =
            later (was ++ j ∷ []) (so ++ (news ++ l ∷ [])) (parts ∙ sym (append_assoc was (j ∷ []) left))
            (others ∙ ap (λ q. so ++ q) (append_assoc news (l ∷ moved) done ∙ sym (append_assoc news (l ∷ []) (moved ++ done))) ∙ sym (append_assoc so (news ++ l ∷ []) (moved ++ done)))
            (both_wide g.blocks g.name_count treated was so (j ∷ []) (news ++ l ∷ []) wide
            (puts_before g.blocks g.name_count treated news (j ∷ []) (l ∷ []) news_puts (becomes_wide g.blocks g.name_count treated (within n (j ∷ left) b.end) j l [] [] becomes none)))
            f r

    of_block : (next : ℕ) (own : List Block) → IsMovedBlock g.blocks g.name_count treated n next b c own → AllByRecursion (IsInstruction u g) b.instructions
        → (fronts : List Instruction) (i : Instruction) (rest : List Instruction) → c.instructions ≡ fronts ++ i ∷ rest → target_of i ≡ Some t → IsInsertion n i rest
    of_block next own m valid fronts i rest e target =
        block_insertion b.instructions m.moved m.instructions m.done (end_puts b.end m.done c.end own (place_at_end b) next m.end)
        (λ w s p o v f k r q. end_insertion b.end m.done c.end own (place_at_end b) next m.end refl w s p o v f k r q)
        valid [] [] refl m.are none fronts i rest (sym m.are ∙ e) target

  -- ---- On an edge

  -- A block on an edge, and what is done on the edge.
  record IsOwn (c : Block) : Type 0 where
    from : ℕ
    to : ℕ
    done : AreDoneAt g.blocks (along from to) g.name_count treated c.instructions
    end : c.end ≡ Jump to

  led_own : (n : ℕ) (place : Option ℕ) (to next label : ℕ) (own : List Block) → IsLed g.blocks g.name_count treated n place to next label own → (c : Block) → Among c own → IsOwn c
  led_own n place to next _ _ (directly are) c of = elim of [ ]
  led_own n place to next _ _ (by_own {i = i} {more = more} are) _ front = record { from = n; to = to; done = are; end = refl }
  led_own n place to next _ _ (by_own {i = i} {more = more} are) c (behind later) = elim later [ ]

  end_own : (n : ℕ) (place : Option ℕ) (next : ℕ) (end : End) (done : List Instruction) (last : End) (own : List Block) → IsEnd g.blocks g.name_count treated n place next end done last own → (c : Block) → Among c own → IsOwn c
  end_own n place next _ _ _ _ (returns {a = a}) c of = elim of [ ]
  end_own n place next _ _ _ _ (jumps {to = to} are) c of = elim of [ ]
  end_own n place next _ _ _ _ (branches {c = k} {a} {b} {to} {else} {label} {other} {own} {others} one two) c of = elim (among_cases c own others of) [
    | inl first ↦ led_own n place to next label own one c first
    | inr second ↦ led_own n place else (next + length own) other others two c second
  ]

  some_own : (n next : ℕ) (before after own : List Block) → AreMovedBlocks g.blocks g.name_count treated n next before after own → (c : Block) → Among c own → IsOwn c
  some_own n next _ _ _ no_block c of = elim of [ ]
  some_own n next _ _ _ (one_block {b = b} {c = a} {own = own} {rest = rest} {moved = moved} {others = others} is more) c of = elim (among_cases c own others of) [
    | inl first ↦ end_own n (place_at_end b) next b.end is.done a.end own is.end c first
    | inr later ↦ some_own (suc n) (next + length own) rest moved others more c later
  ]

  -- WHAT WRITES A TEMPORARY ON AN EDGE is an insertion.
  of_edge : (m : ℕ) (c : Block) → slice_get g.blocks m ≡ None → slice_get h.blocks m ≡ Some c → IsOwn c → (fronts : List Instruction) (i : Instruction) (rest : List Instruction) → c.instructions ≡ fronts ++ i ∷ rest → IsInsertion m i rest
  of_edge m c gone at o fronts i rest e =
      inserted (along o.from o.to) m i rest (done_is (along o.from o.to) g.name_count treated c.instructions o.done fronts i rest e) (λ d done_at safe. by_step d safe done_at.1.1.1)
    where
      wide : Widens g.name_count [] c.instructions
      wide =
          subst (λ l. Widens g.name_count [] l) (append_nil c.instructions)
          (puts_before g.blocks g.name_count treated c.instructions [] [] (done_puts g.blocks g.name_count treated (along o.from o.to) g.name_count treated c.instructions (omega arith) o.done) none)

      by_step : (d : Computation) → (IsUnsafe g.blocks d (along o.from o.to) → ⊥) → {q : Point} → Leads g.blocks (along o.from o.to) q → WasDownSafe g h d m (i ∷ rest)
      by_step d safe (enters b there) = record {
        block = o.to;
        left = b.instructions;
        end = b.end;
        lies = on_edge fronts gone at e wide o.end there;
        safe = down_safe g d o.to b.instructions b.end (λ unsafe. safe (ahead refl (enters b there) unsafe));
      }

-- ---- In the graph after

module _ (u : UnitForm) (g h : Graph) (is : IsMoved g h) (valid : IsGraph u g) where
  -- What a block of the graph before became.
  pub record BlockMoved (n : ℕ) (b : Block) : Type 0 where
    pub block : Block
    pub stands : slice_get h.blocks n ≡ Some block
    pub next : ℕ
    pub own : List Block
    pub moved : IsMovedBlock g.blocks g.name_count is.treated n next b block own

  pub block_moved : (n : ℕ) (b : Block) → slice_get g.blocks n ≡ Some b → BlockMoved n b
  block_moved n b at = record {
    block = f.block;
    stands = ap (λ all. slice_get all n) is.are ∙ front_at is.moved is.own n f.block f.stands;
    next = length g.blocks + f.offset;
    own = f.others;
    moved = subst (λ m. IsMovedBlock g.blocks g.name_count is.treated m (length g.blocks + f.offset) b f.block f.others) number f.moved;
  }
    where
      f : IsFound g.blocks g.name_count is.treated (0 + n) (length g.blocks) b is.moved is.own n
      f = found g.blocks g.name_count is.treated 0 (length g.blocks) g.blocks is.moved is.own is.blocks n b at

      number : 0 + n ≡ n
      number = omega arith

  -- WHAT WRITES A TEMPORARY is an insertion.
  pub insertion_at : (t : ℕ) → g.name_count ≤ t → (i : Instruction) (n : ℕ) (rest : List Instruction) (f : End) → Behind h i n rest f → target_of i ≡ Some t → IsInsertion g h is.treated n i rest
  insertion_at t fresh i n rest f at target = elim (inside_or_behind g.blocks n) [ inl inside ↦ in_old inside.0 inside.1 | inr over ↦ in_new over.0 over.1 ]
    where
      in_old : (b : Block) → slice_get g.blocks n ≡ Some b → IsInsertion g h is.treated n i rest
      in_old b there =
          let m = block_moved n b there in
          let one : m.block ≡ at.block = same_Some m.block at.block (sym m.stands ∙ at.is) in
          let block : IsBlock u g b = all_at (IsBlock u g) g.blocks n b valid.blocks there in
          of_block g h is.treated u n b m.block there m.stands t fresh m.next m.own m.moved block.instructions at.before i rest (ap (λ (c : Block). c.instructions) one ∙ at.instructions) target

      in_new : (k : ℕ) → n ≡ length g.blocks + k → IsInsertion g h is.treated n i rest
      in_new k over =
          let many = as_many g.blocks g.name_count is.treated 0 (length g.blocks) g.blocks is.moved is.own is.blocks in
          let here : n ≡ length is.moved + k = omega (arith, over, many) in
          let own : slice_get is.own k ≡ Some at.block = sym (at_right is.moved is.own k n here) ∙ ap (λ all. slice_get all n) (sym is.are) ∙ at.is in
          let o = some_own g h is.treated 0 (length g.blocks) g.blocks is.moved is.own is.blocks at.block (at_among is.own k at.block own) in
          of_edge g h is.treated n at.block (slice_get_past g.blocks n (omega (arith, over))) at.is o at.before i rest at.instructions
