-- Points of a graph: what stands there and in which place, what is read next, and where a place assigns a scalar.
use Rattle.std.specs.Prelude.{◌≡◌, ℕ, ◌+◌, ◌==◌, ◌&&◌, ◌||◌, Bool, true, false, if◌then◌else◌, Option, Some, List, [], ◌∷◌, ◌++◌, slice_get}
use Rattle.std.specs.Option.{option_map_or}
use Rattle.graph_core.specs.Graphs.{Instruction, End, Block, Graph}
use Rattle.graph_core.specs.Uses.{reads_of, reads_of_end}
use Rattle.graph_core.specs.Paths.{History, Among, Way, writes, is_bound}
use Rattle.graph_core.specs.Validity.{place_behind, total}

-- Behind an instruction of a graph: its block, and what is left of it.
pub record Behind (g : Graph) (i : Instruction) (n : ℕ) (rest : List Instruction) (end : End) : Type 0 where
  pub block : Block
  pub before : List Instruction
  pub is : slice_get g.blocks n ≡ Some block
  pub instructions : block.instructions ≡ before ++ i ∷ rest
  pub ends : end ≡ block.end

-- A point of a graph, where these instructions are left of a block, and the place in force there.
pub record StandsWith (g : Graph) (p n : ℕ) (rest : List Instruction) (end : End) : Type 0 where
  pub block : Block
  pub before : List Instruction
  pub is : slice_get g.blocks n ≡ Some block
  pub instructions : block.instructions ≡ before ++ rest
  pub ends : end ≡ block.end
  pub place : place_behind before block.place ≡ Some p

-- something passed is so
abbrev pub some_passed : (Instruction → Bool) → History → Bool
some_passed is [] = false
some_passed is (i ∷ h) = is i.instruction || some_passed is h

-- what is read at a point
abbrev pub reads_at : List Instruction → End → List ℕ
reads_at [] e = reads_of_end e
reads_at (i ∷ rest) e = reads_of i

-- what comes next at a point reads a name
abbrev pub ReadsNext : ℕ → List Instruction → End → Type 0
ReadsNext x [] e = Among x (reads_of_end e)
ReadsNext x (i ∷ rest) e = Among x (reads_of i)

-- No way from a point reads a name before it is written.
abbrev pub IsUnread : Graph → (x n : ℕ) → List Instruction → End → Type 0
IsUnread g x n rest e =
    (h : History) (m : ℕ) (left : List Instruction) (f : End) → Way g n rest e h m left f → ReadsNext x left f
    → some_passed (writes x) h ≡ true

-- this place is in force
abbrev pub is_place : ℕ → Option ℕ → Bool
is_place p in_force = option_map_or (λ q. q == p) in_force false

-- how many of these instructions, of which the first stands where a place is in force, stand in a place and write a
-- name
abbrev pub writes_among : (p x : ℕ) → (in_force : Option ℕ) → List Instruction → ℕ
writes_among p x place [] = 0
writes_among p x place (i ∷ more) =
    (if is_place p place && writes x i then 1 else 0) + writes_among p x (place_behind (i ∷ []) place) more

-- how many instructions of a graph stand in a place and write a name
abbrev pub writes_in : Graph → (p x : ℕ) → ℕ
writes_in g p x = total (λ (b : Block). writes_among p x b.place b.instructions) g.blocks

-- How often a place assigns a scalar: by its instructions, and at the entry by the call, whose binding of a parameter
-- to the scalar counts as one.
abbrev pub assignments_in : Graph → (p x : ℕ) → ℕ
assignments_in g p x = (if p == g.entry && is_bound x g.parameters then 1 else 0) + writes_in g p x
