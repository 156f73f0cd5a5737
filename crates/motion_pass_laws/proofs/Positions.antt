-- Where the points of a graph stand in the graph after, and how paths go on there from one point to the next.
use Rattle.std.proofs.Common.{◌≡◌, ℕ, ◌+◌, ◌≤◌, Option, Some, List, [], ◌∷◌, ◌++◌, length, refl, sym, ap, ◌∙◌, subst, arith}
use Rattle.std.specs.Prelude.{slice_get}
use Rattle.std.proofs.lemmas.List.{append_assoc}
use Rattle.std.proofs.lemmas.Option.{same_Some}
use Rattle.graph_core.specs.declared.value.Value.{Value}
use Rattle.graph_core.specs.declared.value.Value.TheVariants.{Odd}
use Rattle.graph_core.specs.Graphs.{Instruction, End, Jump, Branch, Block, Graph}
use Rattle.graph_core.specs.Uses.{targets_of}
use Rattle.graph_core.specs.Paths.{History, Among, front, behind, Path, path}
use Rattle.graph_core.specs.Paths as paths
use Rattle.graph_core.specs.Validity.{place_at_end}
use Rattle.base_laws.proofs.Lists.{append_nil}
use Rattle.motion_pass_points.specs.Ways.{Point, within, along, leaves, IsCome, goes}
use Rattle.motion_pass_placement.specs.Moving.{AreDone, Becomes, AreMoved, no_more, one_more, IsLed, directly, by_own, IsEnd, returns, jumps, branches, IsMovedBlock, IsMoved}
use Rattle.motion_pass_laws.proofs.Blocks.{IsFound, found, as_many, at_left, at_right}
use Rattle.motion_pass_laws.proofs.Ready.{come_stands}
use Rattle.motion_pass_laws.proofs.Once.{AreApart, treated_apart, same_moved}

-- ---- Paths

-- the history behind instructions that were passed, whatever they wrote
abbrev pub passed_by : (n : ℕ) → (news left : List Instruction) → History → History
passed_by n [] left history = history
passed_by n (i ∷ news) left history = passed_by n news left (record { block = n; left = length (news ++ left); instruction = i; wrote = Odd } ∷ history)

module _ (h : Graph) where
  -- A path passes one instruction more,
  abbrev pub passes_one : (history : History) (n : ℕ) (i : Instruction) (rest : List Instruction) (f : End) (v : Value) → Path h history n (i ∷ rest) f → Path h (record { block = n; left = length rest; instruction = i; wrote = v } ∷ history) n rest f
  passes_one history n i rest f v (path b at way) = path b at (paths.passes way v)

  -- or several,
  pub passes_all : (history : History) (n : ℕ) (news left : List Instruction) (f : End) → Path h history n (news ++ left) f → Path h (passed_by n news left history) n left f
  passes_all history n [] left f way = way
  passes_all history n (i ∷ news) left f way = passes_all (record { block = n; left = length (news ++ left); instruction = i; wrote = Odd } ∷ history) n news left f (passes_one history n i (news ++ left) f Odd way)

  -- or follows an edge.
  abbrev pub goes_one : (history : History) (n l : ℕ) (f : End) → Path h history n [] f → Among l (targets_of f) → (b : Block) → slice_get h.blocks l ≡ Some b → Path h history l b.instructions b.end
  goes_one history n l f (path b at way) among c there = path b at (paths.goes way among c there)

module _ (g h : Graph) (is : IsMoved g h) where
  -- ---- Blocks

  -- What became of a block, and where the blocks on its edges stand.
  pub record BlockBecame (n : ℕ) (b : Block) : Type 0 where
    pub block : Block
    pub stands : slice_get h.blocks n ≡ Some block
    pub next : ℕ
    pub beyond : length g.blocks ≤ next
    pub own : List Block
    pub moved : IsMovedBlock g.blocks g.name_count is.treated n next b block own
    pub own_stand : (j : ℕ) (x : Block) → slice_get own j ≡ Some x → slice_get h.blocks (next + j) ≡ Some x

  pub block_became : (n : ℕ) (b : Block) → slice_get g.blocks n ≡ Some b → BlockBecame n b
  block_became n b at = record {
    block = f.block;
    stands = ap (λ xs. slice_get xs n) is.are ∙ at_left is.moved is.own n f.block f.stands;
    next = length g.blocks + f.offset;
    beyond = omega (arith);
    own = f.others;
    moved = subst (λ m. IsMovedBlock g.blocks g.name_count is.treated m (length g.blocks + f.offset) b f.block f.others) from f.moved;
    own_stand = λ j x there. ap (λ xs. slice_get xs ((length g.blocks + f.offset) + j)) is.are ∙ at_right is.moved is.own (f.offset + j) ((length g.blocks + f.offset) + j) (further j) ∙ f.own_stand j x there;
  }
    where
      f : IsFound g.blocks g.name_count is.treated (0 + n) (length g.blocks) b is.moved is.own n
      f = found g.blocks g.name_count is.treated 0 (length g.blocks) g.blocks is.moved is.own is.blocks n b at

      from : 0 + n ≡ n
      from = omega (arith)

      further : (j : ℕ) → (length g.blocks + f.offset) + j ≡ length is.moved + (f.offset + j)
      further j = (let same = as_many g.blocks g.name_count is.treated 0 (length g.blocks) g.blocks is.moved is.own is.blocks in omega (arith, same))

  -- ---- Points

  -- THE POINT BEFORE WHAT IS LEFT OF A BLOCK stands in the graph after before this, and before what is done at the point.
  pub record AtBlock (n : ℕ) (b : Block) (rest left : List Instruction) (last : End) : Type 0 where
    pub in_block : slice_get g.blocks n ≡ Some b
    pub became : BlockBecame n b
    pub code : List Instruction
    pub made : AreMoved g.blocks g.name_count is.treated n b.end rest code
    pub left_is : left ≡ code ++ became.moved.done
    pub last_is : last ≡ became.block.end

  -- The first point of a block stands at the beginning of what became of it,
  pub start_at : (n : ℕ) (b c : Block) → slice_get g.blocks n ≡ Some b → slice_get h.blocks n ≡ Some c → AtBlock n b b.instructions c.instructions c.end
  start_at n b c at there =
      let m = block_became n b at in
      let same : m.block ≡ c = same_Some m.block c (sym m.stands ∙ there) in
      subst (λ (d : Block). AtBlock n b b.instructions d.instructions d.end) same (record { in_block = at; became = m; code = m.moved.moved; made = m.moved.instructions; left_is = m.moved.are; last_is = refl })

  -- and nowhere else.
  pub at_start : (n : ℕ) (b : Block) (left : List Instruction) (last : End) (a : AtBlock n b b.instructions left last) → (left ≡ a.became.block.instructions) × (last ≡ a.became.block.end)
  at_start n b left last a =
      let apart : AreApart is.treated = treated_apart g.blocks is.treated is.are_treated in
      let same : a.code ≡ a.became.moved.moved = same_moved g.blocks g.name_count is.treated apart n b.end b.instructions a.made a.became.moved.instructions in
      (a.left_is ∙ ap (λ xs. xs ++ a.became.moved.done) same ∙ sym a.became.moved.are, a.last_is)

  -- What stands before what becomes of an instruction is done at the point before it.
  pub before_it : (n : ℕ) (b : Block) (i j : Instruction) (rest news left : List Instruction) (last : End) → AreDone g.blocks g.name_count is.treated (within n (i ∷ rest) b.end) news
      → Becomes g.blocks g.name_count is.treated (within n (i ∷ rest) b.end) i j → AtBlock n b rest left last → AtBlock n b (i ∷ rest) (news ++ j ∷ left) last
  before_it n b i j rest news left last are becomes a = record {
    in_block = a.in_block;
    became = a.became;
    code = news ++ j ∷ a.code;
    made = one_more are becomes a.made;
    left_is = ap (λ xs. news ++ j ∷ xs) a.left_is ∙ sym (append_assoc news (j ∷ a.code) a.became.moved.done);
    last_is = a.last_is;
  }

  -- The point before an instruction stands where this is done before what becomes of it.
  pub record OneBack (n : ℕ) (b : Block) (i : Instruction) (rest left : List Instruction) (last : End) : Type 0 where
    pub news : List Instruction
    pub j : Instruction
    pub done : AreDone g.blocks g.name_count is.treated (within n (i ∷ rest) b.end) news
    pub becomes : Becomes g.blocks g.name_count is.treated (within n (i ∷ rest) b.end) i j
    pub at : AtBlock n b (i ∷ rest) (news ++ j ∷ left) last

  moved_behind : (n : ℕ) (end : End) (before rest moved : List Instruction) → AreMoved g.blocks g.name_count is.treated n end (before ++ rest) moved → (code : List Instruction) × AreMoved g.blocks g.name_count is.treated n end rest code
  moved_behind n end [] rest moved are = (moved, are)
  moved_behind n end (i ∷ before) rest _ (one_more {moved = moved} done becomes more) = moved_behind n end before rest moved more

  pub one_back : (n : ℕ) (b : Block) (i : Instruction) (rest left : List Instruction) (last : End) → IsCome g.blocks (within n (i ∷ rest) b.end) → AtBlock n b rest left last → OneBack n b i rest left last
  one_back n b i rest left last come a = by_code all.0 all.1
    where
      parts : (before : List Instruction) × (b.instructions ≡ before ++ i ∷ rest)
      parts = (let s = come_stands g.blocks come in (s.before, ap (λ (c : Block). c.instructions) (same_Some b s.block (sym a.in_block ∙ s.is)) ∙ s.parts))

      all : (code : List Instruction) × AreMoved g.blocks g.name_count is.treated n b.end (i ∷ rest) code
      all = moved_behind n b.end parts.0 (i ∷ rest) a.became.moved.moved (subst (λ xs. AreMoved g.blocks g.name_count is.treated n b.end xs a.became.moved.moved) parts.1 a.became.moved.instructions)

      by_code : (code : List Instruction) → AreMoved g.blocks g.name_count is.treated n b.end (i ∷ rest) code → OneBack n b i rest left last
      by_code _ (one_more {j = j} {done = news} are becomes more) = record { news = news; j = j; done = are; becomes = becomes; at = before_it n b i j rest news left last are becomes a }

  -- THE POINT ON AN EDGE stands in the graph after before what is done there: at the end of the block that it leaves, or in a block of its own.
  pub data AtEdge (n l : ℕ) : (number : ℕ) → (left : List Instruction) → (last : End) → Type 0 where
    at_end : {b : Block} {left : List Instruction} {last : End} → AtBlock n b [] left last → Among l (targets_of last) → AreDone g.blocks g.name_count is.treated (along n l) left → AtEdge n l n left last
    on_own : {b c : Block} {last : End} {label : ℕ} → AtBlock n b [] [] last → Among label (targets_of last) → slice_get h.blocks label ≡ Some c → c.end ≡ Jump l → AreDone g.blocks g.name_count is.treated (along n l) c.instructions
        → AtEdge n l label c.instructions c.end

  -- What stands there is done on the edge,
  pub edge_done : {n l number : ℕ} {left : List Instruction} {last : End} → AtEdge n l number left last → AreDone g.blocks g.name_count is.treated (along n l) left
  edge_done (at_end a among are) = are
  edge_done (on_own a among there jump are) = are

  -- and then control goes where the edge leads.
  pub edge_leads : {n l number : ℕ} {left : List Instruction} {last : End} → AtEdge n l number left last → Among l (targets_of last)
  edge_leads (at_end a among are) = among
  edge_leads {l = l} (on_own a among there jump are) = subst (λ f. Among l (targets_of f)) (sym jump) front

  -- It stands somewhere.
  pub record EdgeFound (n l : ℕ) : Type 0 where
    pub number : ℕ
    pub left : List Instruction
    pub last : End
    pub at : AtEdge n l number left last

  -- so many blocks on edges stand in the graph after from a number on
  abbrev pub OwnStand : (next : ℕ) → List Block → Type 0
  OwnStand next own = (j : ℕ) (x : Block) → slice_get own j ≡ Some x → slice_get h.blocks (next + j) ≡ Some x

  -- the first of these
  pub first_own : (next : ℕ) (x : Block) (own : List Block) → OwnStand next (x ∷ own) → slice_get h.blocks next ≡ Some x
  first_own next x own stand = ap (slice_get h.blocks) here ∙ stand 0 x refl
    where
      here : next ≡ next + 0
      here = omega (arith)

  -- those behind others
  pub later_own : (next : ℕ) (own others : List Block) → OwnStand next (own ++ others) → OwnStand (next + length own) others
  later_own next own others stand j x at = ap (slice_get h.blocks) (further j) ∙ stand (length own + j) x (at_right own others j (length own + j) refl ∙ at)
    where
      further : (j : ℕ) → (next + length own) + j ≡ next + (length own + j)
      further j = omega (arith)

  pub front_own : (next : ℕ) (own others : List Block) → OwnStand next (own ++ others) → OwnStand next own
  front_own next own others stand j x at = stand j x (at_left own others j x at)

  edge_led : (n : ℕ) (b : Block) (last : End) (place : Option ℕ) (to next label : ℕ) (own : List Block) → AtBlock n b [] [] last → Among label (targets_of last) → IsLed g.blocks g.name_count is.treated n place to next label own → OwnStand next own → EdgeFound n to
  edge_led n b last place to next _ _ a among (directly are) stand = record { number = n; left = []; last = last; at = at_end a among are }
  edge_led n b last place to next _ _ a among (by_own {i = i} {more} are) stand = record {
    number = next;
    left = i ∷ more;
    last = Jump to;
    at = on_own {c = record { place = place; instructions = i ∷ more; end = Jump to }} a among (first_own next (record { place = place; instructions = i ∷ more; end = Jump to }) [] stand) refl are;
  }

  edge_of : (n l : ℕ) (b : Block) (place : Option ℕ) (next : ℕ) (end : End) (done : List Instruction) (last : End) (own : List Block) → IsEnd g.blocks g.name_count is.treated n place next end done last own → OwnStand next own → AtBlock n b [] done last
      → Among l (targets_of end) → EdgeFound n l
  edge_of n l b place next _ _ _ _ returns stand a none = elim none [ ]
  edge_of n l b place next _ _ _ _ (jumps {to = to} {done = done} are) stand a among = by_jump among
    where
      by_jump : {m : ℕ} → Among m (to ∷ []) → EdgeFound n m
      by_jump front = record { number = n; left = done; last = Jump to; at = at_end a front are }
      by_jump (behind none) = elim none [ ]
  edge_of n l b place next _ _ _ _ (branches {c = k} {a = x} {b = y} {to} {else} {label} {other} {own} {others} one two) stand a among = by_branch among
    where
      by_branch : {m : ℕ} → Among m (to ∷ else ∷ []) → EdgeFound n m
      by_branch front = edge_led n b (Branch k x y label other) place to next label own a front one (front_own next own others stand)
      by_branch (behind front) = edge_led n b (Branch k x y label other) place else (next + length own) other others a (behind front) two (later_own next own others stand)
      by_branch (behind (behind none)) = elim none [ ]

  -- the end of a block stands before what is done there
  pub end_at : (n : ℕ) (b : Block) → slice_get g.blocks n ≡ Some b → (m : BlockBecame n b) → AtBlock n b [] m.moved.done m.block.end
  end_at n b at m = record { in_block = at; became = m; code = []; made = no_more; left_is = refl; last_is = refl }

  pub edge_at : (n l : ℕ) (b : Block) → slice_get g.blocks n ≡ Some b → Among l (targets_of b.end) → EdgeFound n l
  edge_at n l b at among = (let m = block_became n b at in edge_of n l b (place_at_end b) m.next b.end m.moved.done m.block.end m.own m.moved.end m.own_stand (end_at n b at m) among)

  -- An edge to which paths come leaves a block.
  pub edge_stands : {n l : ℕ} → IsCome g.blocks (along n l) → (b : Block) × (slice_get g.blocks n ≡ Some b) × Among l (targets_of b.end)
  edge_stands {n} {l} (goes come (leaves among)) = (let s = come_stands g.blocks come in (s.block, s.is, subst (λ f. Among l (targets_of f)) (sym s.ends) among))

  -- ---- Paths from point to point

  -- NOT ALL PATHS: wherever a point stands, it is not so along all paths to there.
  abbrev pub NotAll : (T : History → Type 0) → Point → Type 0
  NotAll T (within n rest f) = (b : Block) (left : List Instruction) (last : End) → b.end ≡ f → AtBlock n b rest left last → ((history : History) → Path h history n left last → T history) → ⊥
  NotAll T (along n l) = (number : ℕ) (left : List Instruction) (last : End) → AtEdge n l number left last → ((history : History) → Path h history number left last → T history) → ⊥

  -- the first point of a block stands at its beginning
  start_path : (n : ℕ) (b c : Block) (left : List Instruction) (last : End) (history : History) → slice_get g.blocks n ≡ Some b → AtBlock n c b.instructions left last → ((d : Block) → slice_get h.blocks n ≡ Some d → Path h history n d.instructions d.end) → Path h history n left last
  start_path n b c left last history at a way =
      let same : c ≡ b = same_Some c b (sym a.in_block ∙ at) in
      let here : AtBlock n b b.instructions left last = subst (λ x. AtBlock n x b.instructions left last) same a in
      let start = at_start n b left last here in
      subst (λ xs. Path h history n xs last) (sym start.0) (subst (λ f. Path h history n here.became.block.instructions f) (sym start.1) (way here.became.block here.became.stands))

  -- where the function begins
  pub not_first : (T : History → Type 0) (b : Block) → slice_get g.blocks 0 ≡ Some b → (T [] → ⊥) → NotAll T (within 0 b.instructions b.end)
  not_first T b at never c left last ends a all = never (all [] (start_path 0 b c left last [] at a (λ d there. path d there paths.stays)))

  -- behind an instruction
  pub not_passes : (T S : History → Type 0) (n : ℕ) (i : Instruction) (rest : List Instruction) (f : End) → IsCome g.blocks (within n (i ∷ rest) f)
      → ((news : List Instruction) (j : Instruction) (left : List Instruction) (history : History) → AreDone g.blocks g.name_count is.treated (within n (i ∷ rest) f) news → Becomes g.blocks g.name_count is.treated (within n (i ∷ rest) f) i j
      → T (record { block = n; left = length left; instruction = j; wrote = Odd } ∷ passed_by n news (j ∷ left) history) → S history)
      → NotAll S (within n (i ∷ rest) f) → NotAll T (within n rest f)
  not_passes T S n i rest f come back not b left last ends a all =
      let o = one_back n b i rest left last (subst (λ e. IsCome g.blocks (within n (i ∷ rest) e)) (sym ends) come) a in
      not b (o.news ++ o.j ∷ left) last ends o.at (λ history way. back o.news o.j left history (subst (λ e. AreDone g.blocks g.name_count is.treated (within n (i ∷ rest) e) o.news) ends o.done)
      (subst (λ e. Becomes g.blocks g.name_count is.treated (within n (i ∷ rest) e) i o.j) ends o.becomes)
      (all (record { block = n; left = length left; instruction = o.j; wrote = Odd } ∷ passed_by n o.news (o.j ∷ left) history) (passes_one h (passed_by n o.news (o.j ∷ left) history) n o.j left last Odd (passes_all h history n o.news (o.j ∷ left) last way))))

  -- on an edge
  pub not_leaves : (T : History → Type 0) (n l : ℕ) (f : End) → IsCome g.blocks (within n [] f) → NotAll T (within n [] f) → NotAll T (along n l)
  not_leaves T n l f come not number left last at all = by at all
    where
      ends : (b : Block) → slice_get g.blocks n ≡ Some b → b.end ≡ f
      ends b there = (let s = come_stands g.blocks come in ap (λ (c : Block). c.end) (same_Some b s.block (sym there ∙ s.is)) ∙ s.ends)

      by : {number : ℕ} {left : List Instruction} {last : End} → AtEdge n l number left last → ((history : History) → Path h history number left last → T history) → ⊥
      by (at_end {b} {left} {last} a among are) all = not b left last (ends b a.in_block) a all
      by (on_own {b} {c} {last} {label} a among there jump are) all = not b [] last (ends b a.in_block) a (λ history way. all history (goes_one h history n label last way among c there))

  -- and where a block begins
  pub not_enters : (T S : History → Type 0) (n l : ℕ) (b : Block) → slice_get g.blocks l ≡ Some b → IsCome g.blocks (along n l)
      → ((number : ℕ) (news : List Instruction) (history : History) → AreDone g.blocks g.name_count is.treated (along n l) news → T (passed_by number news [] history) → S history) → NotAll S (along n l) → NotAll T (within l b.instructions b.end)
  not_enters T S n l b at come back not c left last ends a all =
      not x.number x.left x.last x.at (λ history way. back x.number x.left history (edge_done x.at) (all (passed_by x.number x.left [] history) (start_path l b c left last (passed_by x.number x.left [] history) at a
      (λ d there. goes_one h (passed_by x.number x.left [] history) x.number l x.last (passes_all h history x.number x.left [] x.last (subst (λ xs. Path h history x.number xs x.last) (sym (append_nil x.left)) way)) (edge_leads x.at) d there))))
    where
      x : EdgeFound n l
      x = (let s = edge_stands come in edge_at n l s.0 s.1 s.2)
