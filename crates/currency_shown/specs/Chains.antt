-- How blocks follow one another in chains, and that all is so where they begin that is so on all paths to them.
use Rattle.std.specs.Prelude.{◌≡◌, ◌<◌, ◌≤◌, ◌+◌, ℕ, false, true, Option, Some, None, List, [], ◌∷◌, get_or, length, slice_get}
use Rattle.std.specs.Option.{option_map_or}
use Rattle.std.specs.Global.{Vec}
use Rattle.graph_core.specs.declared.block.Block as declared-block
use Rattle.graph_core.specs.Graphs.{Instruction, Block, End, Jump, Logged, end_view, graph_view}
use Rattle.graph_core.specs.Paths.{Among}
use Rattle.graph_core.specs.Uses.{targets_of}
use Rattle.graph_paths.specs.Reached.{IsReached}
use Rattle.currency_notes.specs.declared.function.Function as declared-function
use Rattle.currency_notes.specs.declared.state.State as declared-state
use Rattle.currency_notes.specs.Notes.{IsJoined, IsWithin}
use Rattle.dead_pass_writes.specs.RemovedChangesTelling.{AreToldOf}
use Rattle.currency_notes.specs.Full.{AreExact, IsEqual, IsFullAt}
use Rattle.currency_notes.specs.Ranks.{most_rank, rank, IsSized}
use Rattle.currency_notes.specs.Sources.{IsAttained}
use Rattle.currency_shown.specs.declared.chains.Chains as declared-chains
use Rattle.currency_shown.specs.declared.chains.Links as declared-links
use Rattle.currency_shown.specs.declared.states.States as declared-states

-- what is told of a block, if something is
abbrev pub name_at : List (Option ℕ) → (l : ℕ) → Option ℕ
name_at names l = option_map_or (λ (o : Option ℕ). o) (slice_get names l) None

-- the position of a block
abbrev pub position_at : List ℕ → (l : ℕ) → ℕ
position_at positions l = get_or positions l 0

-- the block directly before another one, if there is one
abbrev pub block_before : declared-links.Links → (l : ℕ) → Option ℕ
block_before links l = name_at links.before.items l

-- A block with this end leads to another one alone, which has a later position.
pub record IsNext (positions : List ℕ) (n : ℕ) (e : End) (l : ℕ) : Type 0 where
  pub jump : e ≡ Jump l
  pub later : position_at positions n < position_at positions l
  pub within : position_at positions l ≤ length positions

-- No block stands before another one that did not.
pub record IsStruck (old new : List (Option ℕ)) : Type 0 where
  pub size : length new ≡ length old
  pub kept : (l m : ℕ) → name_at new l ≡ Some m → name_at old l ≡ Some m

-- Where a block to which this end leads has one directly before it, that is the block with this end.
abbrev pub AreEdgesNext : (before : List (Option ℕ)) (positions : List ℕ) (n : ℕ) → End → Type 0
AreEdgesNext before positions n e =
    (l : ℕ) → Among l (targets_of e) → (m : ℕ) → name_at before l ≡ Some m → (m ≡ n) × IsNext positions n e l

module _ (blocks : List declared-block.Block) where
  -- a block leads to another one alone
  abbrev pub LeadsTo : (l next : ℕ) → Type 0
  LeadsTo l next = (b : declared-block.Block) × (slice_get blocks l ≡ Some b) × (end_view b.end ≡ Jump next)

  -- Each block of a chain but the last leads to the next one alone.
  abbrev pub IsLinked : List ℕ → Type 0
  IsLinked [] = Unit {0}
  IsLinked (l ∷ []) = Unit {0}
  IsLinked (l ∷ next ∷ more) = LeadsTo l next × IsLinked (next ∷ more)

  -- Each chain is.
  abbrev pub AreLinked : List (Vec ℕ) → Type 0
  AreLinked chains = (c : Vec ℕ) → Among c chains → IsLinked c.items

-- the last of a list
abbrev pub last_in : List ℕ → Option ℕ
last_in [] = None
last_in (l ∷ []) = Some l
last_in (l ∷ next ∷ more) = last_in (next ∷ more)

-- no block stands twice in a chain
abbrev pub AreAllOnce : List ℕ → Type 0
AreAllOnce chain = (i j n : ℕ) → slice_get chain i ≡ Some n → slice_get chain j ≡ Some n → i ≡ j

-- some chain begins with a block
pub record Starts (chains : List (Vec ℕ)) (l : ℕ) : Type 0 where
  pub index : ℕ
  pub chain : Vec ℕ
  pub more : List ℕ
  pub is : slice_get chains index ≡ Some chain
  pub begins : chain.items ≡ l ∷ more

module _ (links : declared-links.Links) where
  -- each block of a chain but the first has the one before it directly before it
  abbrev pub IsFollowing : List ℕ → Type 0
  IsFollowing [] = Unit {0}
  IsFollowing (l ∷ []) = Unit {0}
  IsFollowing (l ∷ next ∷ more) = (block_before links next ≡ Some l) × IsFollowing (next ∷ more)

module _ (blocks : List declared-block.Block) (links : declared-links.Links) where
  -- No block stands before the first one, and each that stands directly before another one leads to that alone; nothing
  -- else does.
  pub record AreLinks : Type 0 where
    pub size : length links.before.items ≡ length blocks
    pub first : block_before links 0 ≡ None
    pub edges : (n : ℕ) (b : declared-block.Block) → slice_get blocks n ≡ Some b
        → AreEdgesNext links.before.items links.positions.items n (end_view b.end)

  -- A block stands directly behind another one.
  pub record IsFollowed (n next : ℕ) : Type 0 where
    pub leads : LeadsTo blocks n next
    pub before : block_before links next ≡ Some n
    pub later : position_at links.positions.items n < position_at links.positions.items next
    pub within : position_at links.positions.items next ≤ length links.positions.items

  -- A chain begins with a block that has none before it, goes from block to block, and where it ends leads to blocks
  -- that have none before them.
  pub record IsChain (first : ℕ) (chain : List ℕ) : Type 0 where
    pub more : List ℕ
    pub begins : chain ≡ first ∷ more
    pub start : block_before links first ≡ None
    pub linked : IsLinked blocks chain
    pub following : IsFollowing links chain
    pub within : (n : ℕ) → Among n chain → n < length blocks
    pub ends : (n : ℕ) → last_in chain ≡ Some n → (b : declared-block.Block) → slice_get blocks n ≡ Some b → (l : ℕ)
        → Among l (targets_of (end_view b.end)) → block_before links l ≡ None

  -- Chains were begun with the blocks that are told, with each once.
  pub record AreBegun (all : declared-chains.Chains) : Type 0 where
    pub size : length all.begun.items ≡ length blocks
    pub chain : (x : ℕ) (c : Vec ℕ) → slice_get all.chains.items x ≡ Some c → (first : ℕ) × IsChain first c.items
    pub begun : (l : ℕ) → get_or all.begun.items l false ≡ true → Starts all.chains.items l
    pub told : (l : ℕ) → Starts all.chains.items l → get_or all.begun.items l false ≡ true
    pub apart : (l : ℕ) (one other : Starts all.chains.items l) → one.index ≡ other.index

  -- a chain begins with a block that has none before it
  abbrev pub StartsIf : declared-chains.Chains → (l : ℕ) → Type 0
  StartsIf all l = l < length blocks → block_before links l ≡ None → Starts all.chains.items l

-- what was begun stays
abbrev pub AreKept : (old new : declared-chains.Chains) → Type 0
AreKept old new = (l : ℕ) → Starts old.chains.items l → Starts new.chains.items l

-- Blocks stand in chains, each once: one begins with the first block, and one with each block to which the last of a
-- chain leads.
pub record AreChains (blocks : List declared-block.Block) (chains : List (Vec ℕ)) : Type 0 where
  pub linked : AreLinked blocks chains
  pub some : (c : Vec ℕ) → Among c chains → 0 < length c.items
  pub within : (c : Vec ℕ) (n : ℕ) → Among c chains → Among n c.items → n < length blocks
  pub first : 0 < length blocks → Starts chains 0
  pub next : (c : Vec ℕ) (n : ℕ) (b : declared-block.Block) (l : ℕ) → Among c chains → last_in c.items ≡ Some n
      → slice_get blocks n ≡ Some b → Among l (targets_of (end_view b.end)) → l < length blocks
      → Starts chains l
  pub apart : (x y i j n : ℕ) (c d : Vec ℕ) → slice_get chains x ≡ Some c → slice_get chains y ≡ Some d
      → slice_get c.items i ≡ Some n → slice_get d.items j ≡ Some n → (x ≡ y) × (i ≡ j)

-- what is so where a chain begins with a block that a path comes to
abbrev pub comes_to : declared-states.States → (block : ℕ) → Option declared-state.State
comes_to states l = option_map_or (λ (o : Option declared-state.State). o) (slice_get states.arrived.items l) None

-- some state is so, and no more than in another one
abbrev pub IsWithinSome : Option declared-state.State → declared-state.State → Type 0
IsWithinSome None s = ⊥
IsWithinSome (Some t) s = IsWithin t s

-- there is a state where there is another one, which is equal
abbrev pub AreEqualAll : (one other : Option declared-state.State) → Type 0
AreEqualAll None None = Unit {0}
AreEqualAll None (Some t) = ⊥
AreEqualAll (Some s) None = ⊥
AreEqualAll (Some s) (Some t) = IsEqual s t

-- A state ranks as it does, and none above all that rank no higher than this.
abbrev pub rank_or : (most : ℕ) → Option declared-state.State → ℕ
rank_or most None = most + 1
rank_or most (Some s) = rank s

-- what is so where chains begin
abbrev pub rank_all : (most : ℕ) → List (Option declared-state.State) → ℕ
rank_all most [] = 0
rank_all most (o ∷ more) = rank_or most o + rank_all most more

-- how much of what is so where the chains of a function begin can still be lost
abbrev pub ranks : declared-function.Function → declared-states.States → ℕ
ranks f states = rank_all (most_rank f) states.arrived.items

module _ (blocks : List declared-block.Block) (chains : List (Vec ℕ)) where
  -- each block to which an end leads begins a chain
  abbrev pub AreStarts : End → Type 0
  AreStarts e = (l : ℕ) → Among l (targets_of e) → l < length blocks → Starts chains l

  -- Where this end leads these blocks come, one after the other, and where the last of them leads chains begin.
  abbrev pub IsCourse : End → List ℕ → Type 0
  IsCourse e [] = AreStarts e
  IsCourse e (n ∷ more) =
      (e ≡ Jump n) × ((b : declared-block.Block) × (slice_get blocks n ≡ Some b) × IsCourse (end_view b.end) more)

-- a state came to a block, to which another one came before, or none
abbrev pub IsComeTo : (old : Option declared-state.State) (s : declared-state.State) (new : Option declared-state.State)
    → Type 0
IsComeTo old s None = ⊥
IsComeTo None s (Some t) = IsEqual t s
IsComeTo (Some q) s (Some t) = IsJoined q s t

module _ (f : declared-function.Function) where
  -- Some path comes to a point, and in a state of the function all is so that is so on all paths to it, if homes are
  -- numbered and told apart; and each change that is told is that of a note on some path to it.
  pub record IsWholeAt (s : declared-state.State) (n : ℕ) (rest : List Instruction) (e : End) : Type 0 where
    pub reached : IsReached (graph_view f.graph.now) n rest e
    pub sized : IsSized f s
    pub full : AreExact f → IsFullAt f s n rest e
    pub attained : (log : List Logged) → AreToldOf log f.removed.now
        → IsAttained log (graph_view f.graph.now) s n rest e

  -- the same where a block begins
  abbrev pub IsFullAtStart : declared-state.State → (l : ℕ) → Type 0
  IsFullAtStart s l =
      (b : Block) → slice_get (graph_view f.graph.now).blocks l ≡ Some b → IsWholeAt s l b.instructions b.end

  -- the same where it ends
  abbrev pub IsFullAtEnd : declared-state.State → (l : ℕ) → Type 0
  IsFullAtEnd s l = (b : Block) → slice_get (graph_view f.graph.now).blocks l ≡ Some b → IsWholeAt s l [] b.end

  -- The same where chains begin, as far as paths were found.
  pub record AreFull (states : declared-states.States) : Type 0 where
    pub count : length states.arrived.items ≡ length f.graph.now.blocks.items
    pub each : (l : ℕ) (t : declared-state.State) → comes_to states l ≡ Some t → IsFullAtStart t l

  -- a state is so where the blocks begin to which an end leads
  abbrev pub AreFullNext : End → declared-state.State → Type 0
  AreFullNext e s = (l : ℕ) → Among l (targets_of e) → IsFullAtStart s l
