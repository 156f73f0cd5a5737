-- What is to be paid from a point of a graph to the next marker: it goes down by what is passed, and is never more than what the whole graph costs.
use Rattle.std.proofs.Common.{◌≡◌, ℕ, zero, suc, ◌+◌, ◌<◌, ◌≤◌, ap, ◌∙◌, subst, arith, refl, Some, None, Bool, true, false, cond, Option, List, [], ◌∷◌, ◌++◌, length, slice_get}
use Rattle.std.specs.Option.{option_map_or}
use Rattle.graph_core.specs.Graphs.{Instruction, End, Block, Graph}
use Rattle.graph_core.specs.Paths.{Among, is_marker}
use Rattle.graph_core.specs.Uses.{targets_of}
use Rattle.graph_core.specs.WellMarked.{ComesToMarker}
use Rattle.graph_core_weights.specs.Costs.{Costs, has_marker, sum_below, state_behind, cost_of_all, cost_to_marker, cost_of_block, cost_of_graph}
use Rattle.graph_core_weights.proofs.Cycles.{unmarked_targets, next_in, leads_on, no_cycle}
use Rattle.graph_core_weights.proofs.Ranks.{best, best_le, best_ge, weight, weight_le, weight_pays}
use Rattle.graph_core_weights.proofs.Sums.{sum_most, sum_room}

within : {A : Type 0} (xs : List A) (n : ℕ) (x : A) → slice_get xs n ≡ Some x → n < length xs
within [] n x e = cc
within (y ∷ xs) zero x e = omega arith
within (y ∷ xs) (suc n) x e = let later = within xs n x e in omega (arith, later)

-- Each block to which an end leads is there.
abbrev pub AreInside : Graph → Type 0
AreInside g = (l : ℕ) (b : Block) (t : ℕ) → slice_get g.blocks l ≡ Some b → Among t (targets_of b.end) → t < length g.blocks

module _ {S : Type 0} (c : Costs S) (g : Graph) where
  -- what a block costs to its first marker, or with its end
  abbrev pub entered_cost : (block : ℕ) → Block → ℕ
  entered_cost l b = cost_to_marker c b.instructions (c.first l) + cond (has_marker b.instructions) 0 (c.last l)

  abbrev pub entered_at : ℕ → ℕ
  entered_at l = option_map_or (entered_cost l) (slice_get g.blocks l) 0

  -- what is to be paid from the beginning of a block
  abbrev pub weight_of : ℕ → ℕ
  weight_of l = weight (length g.blocks) (next_in g) entered_at l

  -- What is to be paid from a point of a graph on: where these instructions and this end are left of a block.
  abbrev pub to_pay : (block : ℕ) → List Instruction → End → S → ℕ
  to_pay l more e s = cost_to_marker c more s + cond (has_marker more) 0 (c.last l + best weight_of (targets_of e))

  -- ---- It goes down

  pub pays_marker : (l : ℕ) (i : Instruction) (more : List Instruction) (e : End) (s : S) → c.cost i s ≤ to_pay l (i ∷ more) e s
  pays_marker l i more e s = omega arith

  pub pays_on : (l : ℕ) (i : Instruction) (more : List Instruction) (e : End) (s : S) → is_marker i ≡ false → to_pay l (i ∷ more) e s ≡ c.cost i s + to_pay l more e (c.next i s)
  pays_on l i more e s is = by_test (is_marker i) is
    where
      by_test : (b : Bool) → b ≡ false
          → c.cost i s + cond b 0 (cost_to_marker c more (c.next i s)) + cond (cond b true (has_marker more)) 0 (c.last l + best weight_of (targets_of e))
          ≡ c.cost i s + (cost_to_marker c more (c.next i s) + cond (has_marker more) 0 (c.last l + best weight_of (targets_of e)))
      by_test true it = cc
      by_test false it = omega arith

  pub pays_last : (l : ℕ) (e : End) (s : S) → c.last l ≤ to_pay l [] e s
  pays_last l e s = omega arith

  module _ (cycles : (n : ℕ) (b : Block) → slice_get g.blocks n ≡ Some b → ComesToMarker g b.instructions b.end) (inside : AreInside g) where
    stays_inside : (a b : ℕ) → Among b (next_in g a) → b < length g.blocks
    stays_inside a b among = let lead = leads_on g a b among in inside a lead.block b lead.there lead.among

    -- what is to be paid from the beginning of a block, of which this is the block
    weight_there : (l : ℕ) (b : Block) → slice_get g.blocks l ≡ Some b → to_pay l b.instructions b.end (c.first l) ≤ weight_of l
    weight_there l b there =
        let pays = weight_pays (length g.blocks) (next_in g) stays_inside (no_cycle g (length g.blocks) cycles) entered_at l (within g.blocks l b there) in
        let cost : entered_at l ≡ entered_cost l b = ap (λ o. option_map_or (entered_cost l) o 0) there in
        let next : next_in g l ≡ unmarked_targets b = ap (λ o. option_map_or unmarked_targets o []) there in
        let most : best weight_of (next_in g l) ≡ best weight_of (unmarked_targets b) = ap (best weight_of) next in
        by_test (has_marker b.instructions) (entered_at l) (best weight_of (next_in g l)) cost most pays
      where
        by_test : (marked : Bool) (n m : ℕ) → n ≡ cost_to_marker c b.instructions (c.first l) + cond marked 0 (c.last l) → m ≡ best weight_of (cond marked [] (targets_of b.end)) → n + m ≤ weight_of l
            → cost_to_marker c b.instructions (c.first l) + cond marked 0 (c.last l + best weight_of (targets_of b.end)) ≤ weight_of l
        by_test true n m a b pays = omega (arith, a, b, pays)
        by_test false n m a b pays = omega (arith, a, b, pays)

    pub pays_enters : (l t : ℕ) (b : Block) (e : End) (s : S) → Among t (targets_of e) → slice_get g.blocks t ≡ Some b → c.last l + to_pay t b.instructions b.end (c.first t) ≤ to_pay l [] e s
    pays_enters l t b e s among there =
        let one = weight_there t b there in
        let most = best_ge weight_of (targets_of e) t among in
        omega (arith, one, most)

    -- ---- It is never much

    to_marker_few : (is : List Instruction) (s : S) → cost_to_marker c is s ≤ cost_of_all c is s
    to_marker_few [] s = omega arith
    to_marker_few (i ∷ more) s = let rest = to_marker_few more (c.next i s) in by_test (is_marker i) rest
      where
        by_test : (b : Bool) → cost_to_marker c more (c.next i s) ≤ cost_of_all c more (c.next i s) → c.cost i s + cond b 0 (cost_to_marker c more (c.next i s)) ≤ c.cost i s + cost_of_all c more (c.next i s)
        by_test true rest = omega arith
        by_test false rest = omega (arith, rest)

    pub entered_few : (l : ℕ) → entered_at l ≤ cost_of_block c g l
    entered_few l = by_found (slice_get g.blocks l)
      where
        by_found : (found : Option Block) → option_map_or (entered_cost l) found 0 ≤ option_map_or (λ (b : Block). cost_of_all c b.instructions (c.first l) + c.last l) found 0
        by_found None = omega arith
        by_found (Some b) = let few = to_marker_few b.instructions (c.first l) in by_test (has_marker b.instructions) few
          where
            by_test : (m : Bool) → cost_to_marker c b.instructions (c.first l) ≤ cost_of_all c b.instructions (c.first l) → cost_to_marker c b.instructions (c.first l) + cond m 0 (c.last l) ≤ cost_of_all c b.instructions (c.first l) + c.last l
            by_test true few = omega (arith, few)
            by_test false few = omega (arith, few)

    weight_few : (l : ℕ) → l < length g.blocks → weight_of l ≤ sum_below entered_at (length g.blocks)
    weight_few l lt = weight_le (length g.blocks) (next_in g) stays_inside (no_cycle g (length g.blocks) cycles) entered_at l lt

    -- what is left behind instructions of which one is a marker
    all_behind : (passed more : List Instruction) (s : S) → cost_of_all c more (state_behind c passed s) ≤ cost_of_all c (passed ++ more) s
    all_behind [] more s = omega arith
    all_behind (j ∷ passed) more s = let rest = all_behind passed more (c.next j s) in omega (arith, rest)

    marked_front : (passed more : List Instruction) (s : S) → has_marker passed ≡ true → cost_to_marker c (passed ++ more) s + cost_of_all c more (state_behind c passed s) ≤ cost_of_all c (passed ++ more) s
    marked_front [] more s is = cc
    marked_front (i ∷ passed) more s is = by_test (is_marker i) is (all_behind passed more (c.next i s)) (λ it. marked_front passed more (c.next i s) it)
      where
        by_test : (b : Bool) → cond b true (has_marker passed) ≡ true → cost_of_all c more (state_behind c passed (c.next i s)) ≤ cost_of_all c (passed ++ more) (c.next i s)
            → (has_marker passed ≡ true → cost_to_marker c (passed ++ more) (c.next i s) + cost_of_all c more (state_behind c passed (c.next i s)) ≤ cost_of_all c (passed ++ more) (c.next i s))
            → c.cost i s + cond b 0 (cost_to_marker c (passed ++ more) (c.next i s)) + cost_of_all c more (state_behind c passed (c.next i s)) ≤ c.cost i s + cost_of_all c (passed ++ more) (c.next i s)
        by_test true it rest later = omega (arith, rest)
        by_test false it rest later = let one = later it in omega (arith, one)

    marked_behind : (passed more : List Instruction) → has_marker passed ≡ true → has_marker (passed ++ more) ≡ true
    marked_behind [] more is = cc
    marked_behind (i ∷ passed) more is = by_test (is_marker i) is (λ it. marked_behind passed more it)
      where
        by_test : (b : Bool) → cond b true (has_marker passed) ≡ true → (has_marker passed ≡ true → has_marker (passed ++ more) ≡ true) → cond b true (has_marker (passed ++ more)) ≡ true
        by_test true it later = refl
        by_test false it later = later it

    -- what is left behind instructions of which none is one
    unmarked_front : (l : ℕ) (e : End) (passed more : List Instruction) (s : S) → has_marker passed ≡ false → to_pay l more e (state_behind c passed s) ≤ to_pay l (passed ++ more) e s
    unmarked_front l e [] more s is = omega arith
    unmarked_front l e (i ∷ passed) more s is = by_test (is_marker i) refl is (λ it. unmarked_front l e passed more (c.next i s) it)
      where
        by_test : (b : Bool) → is_marker i ≡ b → cond b true (has_marker passed) ≡ false → (has_marker passed ≡ false → to_pay l more e (state_behind c passed (c.next i s)) ≤ to_pay l (passed ++ more) e (c.next i s))
            → to_pay l more e (state_behind c passed (c.next i s)) ≤ to_pay l (i ∷ (passed ++ more)) e s
        by_test true none it later = cc
        by_test false none it later =
            let rest = later it in
            let here = pays_on l i (passed ++ more) e s none in
            omega (arith, rest, here)

    -- Wherever it is, what is to be paid is no more than what the graph costs.
    pub pays_within : (l : ℕ) (b : Block) (passed more : List Instruction) → slice_get g.blocks l ≡ Some b → b.instructions ≡ passed ++ more → to_pay l more b.end (state_behind c passed (c.first l)) ≤ cost_of_graph c g
    pays_within l b passed more there is = by_test (has_marker passed) refl
      where
        lt : l < length g.blocks
        lt = within g.blocks l b there

        fewer : sum_below entered_at (length g.blocks) ≤ cost_of_graph c g
        fewer = sum_most entered_at (cost_of_block c g) (length g.blocks) (λ i low. entered_few i)

        best_few : best weight_of (targets_of b.end) ≤ sum_below entered_at (length g.blocks)
        best_few = best_le weight_of (targets_of b.end) (sum_below entered_at (length g.blocks)) (λ t among. weight_few t (inside l b t there among))

        by_test : (m : Bool) → has_marker passed ≡ m → to_pay l more b.end (state_behind c passed (c.first l)) ≤ cost_of_graph c g
        by_test false none =
            let front = unmarked_front l b.end passed more (c.first l) none in
            let whole : to_pay l (passed ++ more) b.end (c.first l) ≤ weight_of l = subst (λ is. to_pay l is b.end (c.first l) ≤ weight_of l) is (weight_there l b there) in
            let few = weight_few l lt in
            omega (arith, front, whole, few, fewer)
        by_test true some =
            let s : S = state_behind c passed (c.first l) in
            let front = marked_front passed more (c.first l) some in
            let part = to_marker_few more s in
            let marked : has_marker b.instructions ≡ true = ap has_marker is ∙ marked_behind passed more some in
            let cost : entered_at l ≡ cost_to_marker c (passed ++ more) (c.first l) + 0 =
            ap (λ o. option_map_or (entered_cost l) o 0) there ∙ ap (λ m. cost_to_marker c b.instructions (c.first l) + cond m 0 (c.last l)) marked ∙ ap (λ is. cost_to_marker c is (c.first l) + 0) is in
            let all : cost_of_block c g l ≡ cost_of_all c (passed ++ more) (c.first l) + c.last l =
            ap (λ o. option_map_or (λ (b : Block). cost_of_all c b.instructions (c.first l) + c.last l) o 0) there ∙ ap (λ is. cost_of_all c is (c.first l) + c.last l) is in
            let room : sum_below entered_at (length g.blocks) + (cost_of_all c more s + c.last l) ≤ cost_of_graph c g =
            sum_room entered_at (cost_of_block c g) (length g.blocks) l (cost_of_all c more s + c.last l) (λ i low. entered_few i) lt (omega (arith, front, cost, all)) in
            by_more (has_marker more) part room
          where
            by_more : (n : Bool) → cost_to_marker c more (state_behind c passed (c.first l)) ≤ cost_of_all c more (state_behind c passed (c.first l))
                → sum_below entered_at (length g.blocks) + (cost_of_all c more (state_behind c passed (c.first l)) + c.last l) ≤ cost_of_graph c g
                → cost_to_marker c more (state_behind c passed (c.first l)) + cond n 0 (c.last l + best weight_of (targets_of b.end)) ≤ cost_of_graph c g
            by_more true part room = omega (arith, part, room)
            by_more false part room = let most = best_few in omega (arith, part, room, most)
