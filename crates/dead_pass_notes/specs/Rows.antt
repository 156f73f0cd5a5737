-- Rows that tell which names are stale: one for each of so many blocks, that tells of its start, one for the point to
-- which a walk has come, and one without bits.
use Rattle.std.specs.Prelude.{◌≡◌, ℕ, ◌+◌, ◌<◌, Bool, true, if◌then◌else◌, Option, Some, None, List, [], ◌∷◌, length, slice_get}
use Rattle.places.specs.declared.flow.Assignment.{Assignment}
use Rattle.graph_core.specs.Graphs.{Instruction, Block, Graph}
use Rattle.graph_core.specs.Uses.{targets_of}
use Rattle.graph_core.specs.Paths.{Among, writes}
use Rattle.graph_paths.specs.declared.marks.Marks.{Marks}
use Rattle.graph_paths.specs.Flood.{Course}
use Rattle.graph_paths.specs.PathMarksTable.{bits_of}
use Rattle.dead_pass_notes.specs.Stale.{ComesStale}

-- Whether a name is stale behind instructions of a block, behind which so many are left, where this is told of it
-- before them. A write of it makes it stale where it goes.
abbrev pub stale_behind : (goes : (left : ℕ) → Bool) → (x : ℕ) → Bool → List Instruction → (left : ℕ) → Bool
stale_behind goes x was [] left = was
stale_behind goes x was (i ∷ before) left =
    stale_behind goes x (if writes x i then goes (length before + left) else was) before left

-- a name that is told of at the start of a block is stale there on some path
abbrev pub IsStaleAt : List Assignment → Graph → (x n : ℕ) → Type 0
IsStaleAt assignments g x n =
    (b : Block) → slice_get g.blocks n ≡ Some b → ComesStale assignments g x n b.instructions b.end

abbrev pub AreStale : List Assignment → Graph → (names : ℕ) → Marks → Type 0
AreStale assignments g names marks =
    (n x : ℕ) → n < length g.blocks → x < names → bits_of marks n x ≡ true → IsStaleAt assignments g x n

-- What is stale at the end of a block to which a way leads is told at the start of each block to which it leads.
abbrev pub TellsOn : Graph → (goes : (block left : ℕ) → Bool) → (led : ℕ → Bool) → (names : ℕ)
    → (told : (n x : ℕ) → Bool) → (n : ℕ) → Type 0
TellsOn g goes led names told n =
    (b : Block) (l x : ℕ) → slice_get g.blocks n ≡ Some b → led n ≡ true → Among l (targets_of b.end)
    → l < length g.blocks → x < names → stale_behind (goes n) x (told n x) b.instructions 0 ≡ true → told l x ≡ true

-- so it is of each block
abbrev pub AreAll : Graph → (goes : (block left : ℕ) → Bool) → (led : ℕ → Bool) → (names : ℕ)
    → (told : (n x : ℕ) → Bool) → Type 0
AreAll g goes led names told = (n : ℕ) → n < length g.blocks → TellsOn g goes led names told n

-- whether a name is stale behind a block, from whether it is before it
abbrev pub stale_past : (goes : (left : ℕ) → Bool) → (x : ℕ) → Bool → Option Block → Bool
stale_past goes x was None = was
stale_past goes x was (Some b) = stale_behind goes x was b.instructions 0

-- how the names flow that are stale: as execution goes, through the blocks to which ways lead
abbrev pub going_stale : Graph → (goes : (block left : ℕ) → Bool) → (led : ℕ → Bool) → Course
going_stale g goes led =
    record {
      blocks = g.blocks;
      is_open = led;
      forward = true;
      width = g.name_count;
      does = λ n x was. stale_past (goes n) x was (slice_get g.blocks n);
    }
