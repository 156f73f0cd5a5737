-- What flags of blocks tell of a computation by the rule of lazy code motion.
use Rattle.std.specs.Prelude.{◌≡◌, ◌↔◌, ℕ, ◌||◌, Bool, true, false, Some, List, [], slice_get}
use Rattle.graph_core.specs.Graphs.{Block, End, Return}
use Rattle.graph_core.specs.Computations.{Computation}
use Rattle.motion_pass_points.specs.Ways.{within, along, IsCome, IsUnsafe, IsUnhad, IsPast, IsWanted, IsUsed}
use Rattle.motion_pass_problems.specs.Flowing.{HasEdge}

-- Just the blocks are told that some path from the entry reaches.
pub record AreReached (blocks : List Block) (reached : ℕ → Bool) : Type 0 where
  pub first : (b : Block) → slice_get blocks 0 ≡ Some b → reached 0 ≡ true
  pub closed : (m n : ℕ) → HasEdge blocks reached m n → (b : Block) → slice_get blocks n ≡ Some b → reached n ≡ true
  pub come : (n : ℕ) (b : Block) → slice_get blocks n ≡ Some b → reached n ≡ true
      → IsCome blocks (within n b.instructions b.end)

-- an end leads to no block
abbrev pub is_return : End → Bool
is_return (Return a) = true
is_return _ = false

module _ (blocks : List Block) (reached : ℕ → Bool) (e : Computation) where
  -- flags tell of each reached block whether the computation is not down-safe at its end
  abbrev pub AreUnsafeEnds : (flags : ℕ → Bool) → Type 0
  AreUnsafeEnds flags =
      (n : ℕ) (b : Block) → slice_get blocks n ≡ Some b → reached n ≡ true
      → (flags n ≡ true) ↔ IsUnsafe blocks e (within n [] b.end)

  -- at its start
  abbrev pub AreUnsafeStarts : (flags : ℕ → Bool) → Type 0
  AreUnsafeStarts flags =
      (n : ℕ) (b : Block) → slice_get blocks n ≡ Some b → reached n ≡ true
      → (flags n ≡ true) ↔ IsUnsafe blocks e (within n b.instructions b.end)

  -- whether it is neither down-safe nor up-safe at its end
  abbrev pub AreUnhadEnds : (flags : ℕ → Bool) → Type 0
  AreUnhadEnds flags =
      (n : ℕ) (b : Block) → slice_get blocks n ≡ Some b → reached n ≡ true
      → (flags n ≡ true) ↔ (IsUnsafe blocks e (within n [] b.end) × IsUnhad blocks e (within n [] b.end))

  -- Flags tell of each reached block whether it can't be delayed to its start and to the edges from its end, given
  -- those of the starts where it is not down-safe, and of the ends where it is not up-safe either.
  pub record ArePast (unsafe_starts unhad_ends starts ends : ℕ → Bool) : Type 0 where
    pub start : (n : ℕ) (b : Block) → slice_get blocks n ≡ Some b → reached n ≡ true
        → (starts n ≡ true) ↔ IsPast blocks e (within n b.instructions b.end)
    pub end : (n : ℕ) (b : Block) → slice_get blocks n ≡ Some b → reached n ≡ true
        → (ends n ≡ true) ↔ ((unhad_ends n ≡ false) × IsPast blocks e (within n [] b.end))
    pub edge : (m n : ℕ) → HasEdge blocks reached m n → (b : Block) → slice_get blocks n ≡ Some b
        → ((ends m || unsafe_starts n) ≡ true) ↔ IsPast blocks e (along m n)

  -- flags tell of each reached block whether its value is used from the start on, and behind the end
  pub record AreWanted (starts ends : ℕ → Bool) : Type 0 where
    pub start : (n : ℕ) (b : Block) → slice_get blocks n ≡ Some b → reached n ≡ true
        → (starts n ≡ true) ↔ IsWanted blocks e (within n b.instructions b.end)
    pub end : (n : ℕ) (b : Block) → slice_get blocks n ≡ Some b → reached n ≡ true
        → (ends n ≡ true) ↔ IsUsed blocks e (within n [] b.end)

  -- Flags tell what is so of the computation at each reached block, and on the edges from it.
  pub record AreFacts (unsafe_starts past_starts past_ends used_starts used_ends : ℕ → Bool) : Type 0 where
    -- it is not down-safe at the start
    pub unsafe_start : (n : ℕ) (b : Block) → slice_get blocks n ≡ Some b → reached n ≡ true
        → (unsafe_starts n ≡ true) ↔ IsUnsafe blocks e (within n b.instructions b.end)
    -- it can't be delayed to the start
    pub past_start : (n : ℕ) (b : Block) → slice_get blocks n ≡ Some b → reached n ≡ true
        → (past_starts n ≡ true) ↔ IsPast blocks e (within n b.instructions b.end)
    -- it can't be delayed to an edge
    pub past_edge : (m n : ℕ) → HasEdge blocks reached m n → (b : Block) → slice_get blocks n ≡ Some b
        → ((past_ends m || unsafe_starts n) ≡ true) ↔ IsPast blocks e (along m n)
    -- its value is used from the start on
    pub used_start : (n : ℕ) (b : Block) → slice_get blocks n ≡ Some b → reached n ≡ true
        → (used_starts n ≡ true) ↔ IsWanted blocks e (within n b.instructions b.end)
    -- its value is used behind the end
    pub used_end : (n : ℕ) (b : Block) → slice_get blocks n ≡ Some b → reached n ≡ true
        → (used_ends n ≡ true) ↔ IsUsed blocks e (within n [] b.end)
