-- Where copies are missing: how that flows from block to block.
use Rattle.std.specs.Prelude.{◌≡◌, ℕ, suc, ◌+◌, ◌<◌, ◌==◌, ◌&&◌, ◌||◌, Bool, true, false, if◌then◌else◌, not, Option, Some, List, [], ◌∷◌, ◌++◌, length, map, slice_get, ⊤}
use Rattle.std.specs.Option.{option_map_or}
use Rattle.graph_core.specs.Graphs.{Name, Instruction, Move, Block, Scalar}
use Rattle.graph_core.specs.Uses.{target_of, targets_of}
use Rattle.graph_core.specs.Paths.{Among}
use Rattle.copy_pass_rule.specs.declared.copies.CopyAt.{CopyAt}
use Rattle.copy_pass_rule.specs.Copying.{reading, reading_end, AreOfOneType}

-- What of a block matters to copies: what its instructions write, and where it leads.
pub record Line : Type 0 where
  pub writes : List (Option ℕ)
  pub leads : List ℕ

abbrev pub line_of : Block → Line
line_of b = record { writes = map target_of b.instructions; leads = targets_of b.end }

abbrev pub lines_of : List Block → List Line
lines_of blocks = map line_of blocks

-- what is written is this name
abbrev pub is_written : ℕ → Option ℕ → Bool
is_written x target = option_map_or (λ y. y == x) target false

-- the copy stands there
abbrev pub stands_at : CopyAt → (n left : ℕ) → Bool
stands_at c n left = (n == c.block) && (left == c.left)

-- Whether a copy is missing behind an instruction, from whether it was before it: not behind its own; behind a write of
-- one of its scalars it is.
abbrev pub missing_behind : CopyAt → (n left : ℕ) → Option ℕ → Bool → Bool
missing_behind c n left target before =
    if stands_at c n left then false else (is_written c.target target || (is_written c.source target || before))

-- the same behind several instructions to the end of their block
abbrev pub missing_along : CopyAt → (n : ℕ) → List (Option ℕ) → Bool → Bool
missing_along c n [] before = before
missing_along c n (t ∷ more) before = missing_along c n more (missing_behind c n (length more) t before)

-- whether it is missing where so many instructions are left, from whether it is missing before the first of these
abbrev pub missing_where : CopyAt → (n left : ℕ) → List (Option ℕ) → Bool → Bool
missing_where c n left [] before = before
missing_where c n left (t ∷ more) before =
    if length (t ∷ more) == left then before
    else missing_where c n left more (missing_behind c n (length more) t before)

module _ (lines : List Line) where
  -- some way leads from the first block to this one
  pub data IsLed : ℕ → Type 0 where
    entry : IsLed 0
    leads : {n l : ℕ} (line : Line) → IsLed n → slice_get lines n ≡ Some line → Among l line.leads → IsLed l

  -- some way leads there on which the copy is missing
  pub data IsMissed (c : CopyAt) : ℕ → Type 0 where
    at_entry : IsMissed c 0
    behind : {n l : ℕ} (line : Line) (before : Bool) → IsLed n → (before ≡ true → IsMissed c n)
        → slice_get lines n ≡ Some line → Among l line.leads → missing_along c n line.writes before ≡ true
        → IsMissed c l

-- A fact flows as bit 0, that some way leads there, and one for each copy, that it is missing on some.
abbrev pub Bits : Type 0
Bits = (row bit : ℕ) → Bool

-- To each of so many blocks to which a line leads, its block brings what it has.
pub record IsClosed (copies : List CopyAt) (bits : Bits) (count n : ℕ) (line : Line) : Type 0 where
  pub on : (l : ℕ) → l < count → Among l line.leads → bits l 0 ≡ true
  pub brings : (l k : ℕ) (c : CopyAt) → l < count → Among l line.leads → slice_get copies k ≡ Some c
      → missing_along c n line.writes (bits n (suc k)) ≡ true → bits l (suc k) ≡ true

-- What is missing at the start of each block is found: all that the edges bring, and nothing else.
pub record AreFound (lines : List Line) (copies : List CopyAt) (bits : Bits) : Type 0 where
  pub entry : (k : ℕ) (c : CopyAt) → slice_get copies k ≡ Some c → bits 0 (suc k) ≡ true
  pub led : bits 0 0 ≡ true
  pub closed : (n : ℕ) (line : Line) → slice_get lines n ≡ Some line → bits n 0 ≡ true
      → IsClosed copies bits (length lines) n line
  pub is_led : (n : ℕ) → n < length lines → bits n 0 ≡ true → IsLed lines n
  pub is_missed : (n k : ℕ) (c : CopyAt) → n < length lines → slice_get copies k ≡ Some c → bits n (suc k) ≡ true
      → IsMissed lines c n

-- what a name is read as, where these copies are missing: the source of the first copy to it that is not; the copies
-- are numbered from k on
abbrev pub source_among : List CopyAt → (missing : ℕ → Bool) → (k x : ℕ) → ℕ
source_among [] missing k x = x
source_among (c ∷ more) missing k x =
    if (c.target == x) && not (missing k) then c.source else source_among more missing (k + 1) x

-- The copies that stand at a point are those that its instruction makes: of one scalar to another of the same type.
pub record IsKnown (scalars : List Scalar) (copies : List CopyAt) (n left : ℕ) (i : Instruction) : Type 0 where
  pub listed : (k : ℕ) (c : CopyAt) → slice_get copies k ≡ Some c → stands_at c n left ≡ true
      → (i ≡ Move c.target (Name c.source)) × AreOfOneType scalars c.target c.source
  pub all : (x y : ℕ) → i ≡ Move x (Name y) → AreOfOneType scalars x y
      → (k : ℕ) × (c : CopyAt) × (slice_get copies k ≡ Some c) × (stands_at c n left ≡ true) × (c.target ≡ x)
      × (c.source ≡ y)

-- What is left of a block as it was and as it is read, from which copies are missing before it, to which are missing
-- behind it. The copies that it makes are known.
pub data AreRead (scalars : List Scalar) (copies : List CopyAt) (n : ℕ) : List Instruction → (before : ℕ → Bool)
    → List Instruction → (after : ℕ → Bool) → Type 0 where
  none : {missing : ℕ → Bool} → AreRead scalars copies n [] missing [] missing
  more : {i : Instruction} {rest later : List Instruction} {missing after : ℕ → Bool} (next : ℕ → Bool)
      → IsKnown scalars copies n (length rest) (reading (source_among copies missing 0) i)
      →
      ((k : ℕ) (c : CopyAt) → slice_get copies k ≡ Some c
      → next k ≡ missing_behind c n (length rest) (target_of i) (missing k))
      → AreRead scalars copies n rest next later after
      → AreRead scalars copies n (i ∷ rest) missing (reading (source_among copies missing 0) i ∷ later) after

-- At each point of a block the copies are known that its instruction makes, as it is read by those that are not missing
-- there; at the start of the block these are missing.
abbrev pub AreKnownIn : List Scalar → List CopyAt → (n : ℕ) → List Instruction → (missing : ℕ → Bool) → Type 0
AreKnownIn scalars copies n all missing =
    (before rest : List Instruction) (i : Instruction) (here : ℕ → Bool) → all ≡ before ++ i ∷ rest
    → ((k : ℕ) (c : CopyAt) → slice_get copies k ≡ Some c
    → here k ≡ missing_where c n (length (i ∷ rest)) (map target_of all) (missing k))
    → IsKnown scalars copies n (length rest) (reading (source_among copies here 0) i)

-- the copies that are missing by the bits of a row
abbrev pub missing_in : Bits → (row : ℕ) → ℕ → Bool
missing_in bits row k = bits row (suc k)

-- A block is read, if some way leads to it; else it stays.
pub data IsReadBlock (scalars : List Scalar) (copies : List CopyAt) (bits : Bits) (n : ℕ) (b : Block) : Block
    → Type 0 where
  unled : bits n 0 ≡ false → IsReadBlock scalars copies bits n b b
  led : {later : List Instruction} (after : ℕ → Bool) → bits n 0 ≡ true
      → AreRead scalars copies n b.instructions (missing_in bits n) later after
      → IsReadBlock scalars copies bits n b (record {
        place = b.place;
        instructions = later;
        end = reading_end (source_among copies after 0) b.end;
      })

-- the blocks from a number on, one by one
abbrev pub AreReadBlocks : List Scalar → List CopyAt → Bits → (n : ℕ) → (before after : List Block) → Type 0
AreReadBlocks scalars copies bits n [] [] = ⊤
AreReadBlocks scalars copies bits n [] (c ∷ after) = ⊥
AreReadBlocks scalars copies bits n (b ∷ before) [] = ⊥
AreReadBlocks scalars copies bits n (b ∷ before) (c ∷ after) =
    IsReadBlock scalars copies bits n b c × AreReadBlocks scalars copies bits (n + 1) before after

-- Some way leads to a block, and the copies are not known that it makes.
pub record IsUnknownBlock (scalars : List Scalar) (copies : List CopyAt) (bits : Bits) (n : ℕ) (b : Block)
    : Type 0 where
  pub led : bits n 0 ≡ true
  pub unknown : AreKnownIn scalars copies n b.instructions (missing_in bits n) → ⊥

-- there is such a block
pub record IsSomeUnknown (scalars : List Scalar) (copies : List CopyAt) (bits : Bits) (blocks : List Block)
    : Type 0 where
  pub number : ℕ
  pub block : Block
  pub is : slice_get blocks number ≡ Some block
  pub unknown : IsUnknownBlock scalars copies bits number block
