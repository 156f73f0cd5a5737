-- A path of the graph after is followed through the points of the graph before.
use Rattle.std.proofs.Common.{◌≡◌, ℕ, ◌+◌, ◌≤◌, arith, true, false, true≢false, Bool, Option, Some, List, [], ◌∷◌, ◌++◌, length, refl, sym, ap, ◌∙◌, subst}
use Rattle.std.specs.Prelude.{slice_get}
use Rattle.std.proofs.lemmas.List.{append_assoc}
use Rattle.std.proofs.lemmas.Option.{same_Some}
use Rattle.graph_core.specs.declared.value.Value.{Value}
use Rattle.graph_core.specs.Graphs.{Instruction, End, Jump, Block, Graph, UnitForm}
use Rattle.graph_core.specs.Uses.{targets_of}
use Rattle.graph_core.specs.Paths.{History, Among, front, behind, Way, Path, path}
use Rattle.graph_core.specs.Paths as paths
use Rattle.graph_core.specs.Validity.{IsGraph, place_at_end}
use Rattle.graph_core.proofs.Among.{among_one}
use Rattle.base_laws.proofs.Lists.{append_nil}
use Rattle.motion_pass_points.specs.Ways.{Point, within, along, passes, leaves, enters, IsCome, begins, goes}
use Rattle.motion_pass_placement.specs.Moving.{AreDone, Becomes, AreMoved, no_more, one_more, IsLed, directly, by_own, IsEnd, returns, jumps, branches, IsMoved}
use Rattle.motion_pass_laws.specs.Optimal.{entered_along, entered}
use Rattle.motion_pass_laws.proofs.Positions.{BlockBecame, AtBlock, AtEdge, at_end, on_own, OwnStand, first_own, later_own, front_own, edge_stands, start_at}
use Rattle.motion_pass_laws.proofs.Ways.{kept_there, leads_inside}

-- A list that begins so is that.
pub first_same : {A : Type 0} {x y : A} {xs ys : List A} → x ∷ xs ≡ y ∷ ys → x ≡ y
first_same e = cc

pub rest_same : {A : Type 0} {x y : A} {xs ys : List A} → x ∷ xs ≡ y ∷ ys → xs ≡ ys
rest_same e = cc

pub not_empty : {A : Type 0} {x : A} {xs : List A} → x ∷ xs ≡ [] → ⊥
not_empty e = cc

-- What stands behind others is something.
pub something : {A : Type 0} (xs : List A) (x : A) (ys : List A) → xs ++ x ∷ ys ≡ [] → ⊥
something [] x ys e = not_empty e
something (z ∷ xs) x ys e = not_empty e

-- a jump leads to one block
jump_label : {l m : ℕ} → Jump l ≡ Jump m → l ≡ m
jump_label e = cc

abbrev pub is_jump : End → Bool
is_jump (Jump l) = true
is_jump _ = false

module _ (u : UnitForm) (g h : Graph) (valid : IsGraph u g) (is : IsMoved g h) (K : List ℕ → History → Point → List Instruction → Type 0) where
  -- WHAT IS FOLLOWED, with the blocks that were entered: it holds where the function begins, and on, behind each instruction and along each edge.
  pub record IsFollowed : Type 0 where
    pub first : (b : Block) → slice_get g.blocks 0 ≡ Some b → K [] [] (within 0 b.instructions b.end) []
    pub new : (trail : List ℕ) (history : History) (p : Point) (passed : List Instruction) (k : Instruction) (more : List Instruction) (n : ℕ) (left : List Instruction) (v : Value) → IsCome g.blocks p → AreDone g.blocks g.name_count is.treated p (passed ++ k ∷ more)
        → K trail history p passed → K trail (record { block = n; left = length left; instruction = k; wrote = v } ∷ history) p (passed ++ k ∷ [])
    pub old : (trail : List ℕ) (history : History) (n : ℕ) (i : Instruction) (rest : List Instruction) (f : End) (done : List Instruction) (j : Instruction) (left : List Instruction) (v : Value) → IsCome g.blocks (within n (i ∷ rest) f)
        → AreDone g.blocks g.name_count is.treated (within n (i ∷ rest) f) done → Becomes g.blocks g.name_count is.treated (within n (i ∷ rest) f) i j
        → K trail history (within n (i ∷ rest) f) done → K trail (record { block = n; left = length left; instruction = j; wrote = v } ∷ history) (within n rest f) []
    pub leave : (trail : List ℕ) (history : History) (n l : ℕ) (f : End) → IsCome g.blocks (within n [] f) → Among l (targets_of f) → K trail history (within n [] f) [] → K trail history (along n l) []
    pub enter : (trail : List ℕ) (history : History) (n l : ℕ) (b : Block) (done : List Instruction) → IsCome g.blocks (along n l) → slice_get g.blocks l ≡ Some b → AreDone g.blocks g.name_count is.treated (along n l) done
        → K trail history (along n l) done → K (l ∷ trail) history (within l b.instructions b.end) []
    pub own : (trail : List ℕ) (history : History) (n l label : ℕ) → IsCome g.blocks (along n l) → length g.blocks ≤ label → K trail history (along n l) [] → K (label ∷ trail) history (along n l) []

  -- WHERE A PATH AFTER IS, by a point of the graph before to which paths come: it passed some of what is done there.
  pub data Where (trail : List ℕ) (history : History) (number : ℕ) (left : List Instruction) (last : End) : Type 0 where
    -- before an instruction
    inside : (b : Block) (i : Instruction) (rest : List Instruction) → IsCome g.blocks (within number (i ∷ rest) b.end) → (passed remaining : List Instruction) (j : Instruction) (later : List Instruction)
        → AreDone g.blocks g.name_count is.treated (within number (i ∷ rest) b.end) (passed ++ remaining) → Becomes g.blocks g.name_count is.treated (within number (i ∷ rest) b.end) i j
        → AtBlock g h is number b rest later last → left ≡ remaining ++ j ∷ later → K trail history (within number (i ∷ rest) b.end) passed → Where trail history number left last
    -- on an edge
    on_edge : (n l : ℕ) → IsCome g.blocks (along n l) → (passed : List Instruction) → AreDone g.blocks g.name_count is.treated (along n l) (passed ++ left) → AtEdge g h is n l number (passed ++ left) last → last ≡ Jump l
        → K trail history (along n l) passed → Where trail history number left last
    -- before an end that is no jump
    ending : (b : Block) → IsCome g.blocks (within number [] b.end) → AtBlock g h is number b [] [] last → is_jump last ≡ false → left ≡ [] → K trail history (within number [] b.end) [] → Where trail history number left last

  module _ (laws : IsFollowed) where
    -- At the end of a block.
    where_end : (trail : List ℕ) (history : History) (n : ℕ) (b : Block) (left : List Instruction) (last : End) → IsCome g.blocks (within n [] b.end) → AtBlock g h is n b [] left last → K trail history (within n [] b.end) []
        → (place : Option ℕ) (next : ℕ) (end : End) (done : List Instruction) (final : End) (own : List Block) → IsEnd g.blocks g.name_count is.treated n place next end done final own
        → b.end ≡ end → last ≡ final → left ≡ done → Where trail history n left last
    where_end trail history n b left last come a k place next _ _ _ _ (returns {a = v}) end_is last_is left_is = ending b come (subst (λ xs. AtBlock g h is n b [] xs last) left_is a) (ap is_jump last_is) left_is k
    where_end trail history n b left last come a k place next _ _ _ _ (branches one two) end_is last_is left_is = ending b come (subst (λ xs. AtBlock g h is n b [] xs last) left_is a) (ap is_jump last_is) left_is k
    where_end trail history n b left last come a k place next _ _ _ _ (jumps {to = to} {done = done} are) end_is last_is left_is =
        on_edge n to (goes come (leaves among)) [] here (at_end a (subst (λ f. Among to (targets_of f)) (sym last_is) front) here) last_is (laws.leave trail history n to b.end come among k)
      where
        among : Among to (targets_of b.end)
        among = subst (λ f. Among to (targets_of f)) (sym end_is) front

        here : AreDone g.blocks g.name_count is.treated (along n to) left
        here = subst (λ xs. AreDone g.blocks g.name_count is.treated (along n to) xs) (sym left_is) are

    -- At a point of a block.
    where_made : (trail : List ℕ) (history : History) (n : ℕ) (b : Block) (rest left : List Instruction) (last : End) → AtBlock g h is n b rest left last → (m : BlockBecame g h is n b) (code : List Instruction) → last ≡ m.block.end
        → AreMoved g.blocks g.name_count is.treated n b.end rest code → left ≡ code ++ m.moved.done → IsCome g.blocks (within n rest b.end) → K trail history (within n rest b.end) [] → Where trail history n left last
    where_made trail history n b _ left last a m _ last_is no_more left_is come k = where_end trail history n b left last come a k (place_at_end b) m.next b.end m.moved.done m.block.end m.own m.moved.end refl last_is left_is
    where_made trail history n b _ left last a m _ last_is (one_more {i = i} {j = j} {rest = rest} {done = news} {moved = code} are becomes more) left_is come k =
        inside b i rest come [] news j (code ++ m.moved.done) are becomes (record { in_block = a.in_block; became = m; code = code; made = more; left_is = refl; last_is = last_is }) (left_is ∙ append_assoc news (j ∷ code) m.moved.done) k

    where_at : (trail : List ℕ) (history : History) (n : ℕ) (b : Block) (rest left : List Instruction) (last : End) → IsCome g.blocks (within n rest b.end) → AtBlock g h is n b rest left last → K trail history (within n rest b.end) [] → Where trail history n left last
    where_at trail history n b rest left last come a k = where_made trail history n b rest left last a a.became a.code a.last_is a.made a.left_is come k

    -- Behind one instruction more.
    where_passes : (trail : List ℕ) (history : History) (n : ℕ) (k : Instruction) (left : List Instruction) (last : End) (v : Value) → Where trail history n (k ∷ left) last → Where trail (record { block = n; left = length left; instruction = k; wrote = v } ∷ history) n left last
    where_passes trail history n k left last v (inside b i rest come passed [] j later done becomes a left_is holds) =
        let same : k ≡ j = first_same left_is in
        let others : left ≡ later = rest_same left_is in
        where_at trail (record { block = n; left = length left; instruction = k; wrote = v } ∷ history) n b rest left last (goes come passes) (subst (λ xs. AtBlock g h is n b rest xs last) (sym others) a)
        (laws.old trail history n i rest b.end passed k left v come (subst (λ xs. AreDone g.blocks g.name_count is.treated (within n (i ∷ rest) b.end) xs) (append_nil passed) done)
        (subst (λ x. Becomes g.blocks g.name_count is.treated (within n (i ∷ rest) b.end) i x) (sym same) becomes) holds)
    where_passes trail history n k left last v (inside b i rest come passed (r ∷ remaining) j later done becomes a left_is holds) =
        let same : r ≡ k = sym (first_same left_is) in
        let here = subst (λ x. AreDone g.blocks g.name_count is.treated (within n (i ∷ rest) b.end) (passed ++ x ∷ remaining)) same done in
        inside b i rest come (passed ++ k ∷ []) remaining j later (subst (λ xs. AreDone g.blocks g.name_count is.treated (within n (i ∷ rest) b.end) xs) (sym (append_assoc passed (k ∷ []) remaining)) here) becomes a (rest_same left_is)
        (laws.new trail history (within n (i ∷ rest) b.end) passed k remaining n left v come here holds)
    where_passes trail history n k left last v (on_edge m l come passed done at last_is holds) =
        on_edge m l come (passed ++ k ∷ []) (subst (λ xs. AreDone g.blocks g.name_count is.treated (along m l) xs) (sym (append_assoc passed (k ∷ []) left)) done) (subst (λ xs. AtEdge g h is m l n xs last) (sym (append_assoc passed (k ∷ []) left)) at) last_is
        (laws.new trail history (along m l) passed k left n left v come done holds)
    where_passes trail history n k left last v (ending b come a no_jump left_is holds) = absurd (not_empty left_is)

    -- In the block to which an edge leads.
    where_enters : (trail : List ℕ) (history : History) (n l : ℕ) (done : List Instruction) (d : Block) → IsCome g.blocks (along n l) → AreDone g.blocks g.name_count is.treated (along n l) done → slice_get h.blocks l ≡ Some d → K trail history (along n l) done → Where (l ∷ trail) history l d.instructions d.end
    where_enters trail history n l done d come are there holds =
        let from = edge_stands g h is come in
        let to = leads_inside u g valid n from.0 from.1 l from.2 in
        where_at (l ∷ trail) history l to.0 to.0.instructions d.instructions d.end (goes come (enters to.0 to.1)) (start_at g h is l to.0 d to.1 there) (laws.enter trail history n l to.0 done come to.1 are holds)

    -- Along an edge of a branch.
    where_led : (trail : List ℕ) (history : History) (n : ℕ) (b : Block) (last : End) (place : Option ℕ) (to next label : ℕ) (own : List Block) (d : Block) → length g.blocks ≤ next → IsCome g.blocks (within n [] b.end) → AtBlock g h is n b [] [] last → Among to (targets_of b.end) → Among label (targets_of last)
        → IsLed g.blocks g.name_count is.treated n place to next label own → OwnStand g h is next own → slice_get h.blocks label ≡ Some d → K trail history (within n [] b.end) [] → Where (label ∷ trail) history label d.instructions d.end
    where_led trail history n b last place to next _ _ d beyond come a among leads (directly are) stand there holds = where_enters trail history n to [] d (goes come (leaves among)) are there (laws.leave trail history n to b.end come among holds)
    where_led trail history n b last place to next _ _ d beyond come a among leads (by_own {i = i} {more} are) stand there holds =
        let same : record { place = place; instructions = i ∷ more; end = Jump to } ≡ d = same_Some (record { place = place; instructions = i ∷ more; end = Jump to }) d (sym (first_own g h is next (record { place = place; instructions = i ∷ more; end = Jump to }) [] stand) ∙ there) in
        let done = subst (λ (c : Block). AreDone g.blocks g.name_count is.treated (along n to) c.instructions) same are in
        let jump : d.end ≡ Jump to = ap (λ (c : Block). c.end) (sym same) in
        on_edge n to (goes come (leaves among)) [] done (on_own a leads there jump done) jump (laws.own trail history n to next (goes come (leaves among)) beyond (laws.leave trail history n to b.end come among holds))

    -- Along an edge of an end that is no jump.
    where_branches : (trail : List ℕ) (history : History) (n : ℕ) (b : Block) (last : End) (d : Block) (label : ℕ) → IsCome g.blocks (within n [] b.end) → AtBlock g h is n b [] [] last → is_jump last ≡ false → Among label (targets_of last) → slice_get h.blocks label ≡ Some d
        → K trail history (within n [] b.end) [] → (place : Option ℕ) (next : ℕ) → length g.blocks ≤ next → (end : End) (done : List Instruction) (final : End) (own : List Block) → IsEnd g.blocks g.name_count is.treated n place next end done final own → OwnStand g h is next own
        → b.end ≡ end → last ≡ final → Where (label ∷ trail) history label d.instructions d.end
    where_branches trail history n b last d label come a no_jump leads there holds place next beyond _ _ _ _ (returns {a = v}) stand end_is last_is = absurd (none (subst (λ f. Among label (targets_of f)) last_is leads))
      where
        none : Among label [] → ⊥
        none none' = elim none' [ ]
    where_branches trail history n b last d label come a no_jump leads there holds place next beyond _ _ _ _ (jumps are) stand end_is last_is = absurd (true≢false (sym (ap is_jump last_is) ∙ no_jump))
    where_branches trail history n b last d label come a no_jump leads there holds place next beyond _ _ _ _ (branches {c = k} {a = x} {b = y} {to} {else} {label = one_label} {other} {own} {others} one two) stand end_is last_is =
        by_edge (subst (λ f. Among label (targets_of f)) last_is leads) leads there
      where
        first_among : Among to (targets_of b.end)
        first_among = subst (λ f. Among to (targets_of f)) (sym end_is) front

        second_among : Among else (targets_of b.end)
        second_among = subst (λ f. Among else (targets_of f)) (sym end_is) (behind front)

        by_edge : {label : ℕ} → Among label (one_label ∷ other ∷ []) → Among label (targets_of last) → slice_get h.blocks label ≡ Some d → Where (label ∷ trail) history label d.instructions d.end
        by_edge front leads there = where_led trail history n b last place to next one_label own d beyond come a first_among leads one (front_own g h is next own others stand) there holds
        by_edge (behind front) leads there = where_led trail history n b last place else (next + length own) other others d (omega (arith, beyond)) come a second_among leads two (later_own g h is next own others stand) there holds
        by_edge (behind (behind none)) leads there = elim none [ ]

    -- Behind one edge more.
    where_goes : (trail : List ℕ) (history : History) (n label : ℕ) (last : End) (d : Block) → Where trail history n [] last → Among label (targets_of last) → slice_get h.blocks label ≡ Some d → Where (label ∷ trail) history label d.instructions d.end
    where_goes trail history n label last d (inside b i rest come passed remaining j later done becomes a left_is holds) leads there = absurd (something remaining j later (sym left_is))
    where_goes trail history n label last d (on_edge m l come passed done at last_is holds) leads there =
        let same : label ≡ l = among_one (subst (λ f. Among label (targets_of f)) last_is leads) in
        subst (λ x. Where (x ∷ trail) history x d.instructions d.end) (sym same)
        (where_enters trail history m l passed d come (subst (λ xs. AreDone g.blocks g.name_count is.treated (along m l) xs) (append_nil passed) done) (subst (λ x. slice_get h.blocks x ≡ Some d) same there) holds)
    where_goes trail history n label last d (ending b come a no_jump left_is holds) leads there =
        where_branches trail history n b last d label come a no_jump leads there holds (place_at_end b) a.became.next a.became.beyond b.end a.became.moved.done a.became.block.end a.became.own a.became.moved.end a.became.own_stand refl a.last_is

    where_way : (a b : Block) → slice_get g.blocks 0 ≡ Some a → slice_get h.blocks 0 ≡ Some b → {history : History} {n : ℕ} {left : List Instruction} {last : End} → (way : Way h 0 b.instructions b.end history n left last) → Where (entered_along way) history n left last
    where_way a b at there paths.stays = where_at [] [] 0 a a.instructions b.instructions b.end (begins a at) (start_at g h is 0 a b at there) (laws.first a at)
    where_way a b at there (paths.passes {h = history} {n = n} {i = i} {left = left} {e = e} way v) = where_passes (entered_along way) history n i left e v (where_way a b at there way)
    where_way a b at there (paths.goes {h = history} {n = n} {l = l} {e = e} way among d stands) = where_goes (entered_along way) history n l e d (where_way a b at there way) among stands

    -- EACH PATH AFTER is somewhere.
    pub followed : {history : History} {n : ℕ} {left : List Instruction} {last : End} → (way : Path h history n left last) → Where (entered way) history n left last
    followed (path b there way) = (let a = kept_there (Some g.entry) (slice_get g.blocks 0) valid.begins in where_way a.0 b a.1 there way)
