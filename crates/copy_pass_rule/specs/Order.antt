-- The order in which the blocks of a graph are gone through to find its copies.
use Rattle.std.specs.Prelude.{◌≡◌, ℕ, ◌<◌, Bool, true, false, Some, List, [], ◌∷◌, ◌++◌, length, slice_get, slice_set}
use Rattle.graph_core.specs.Graphs.{Block}
use Rattle.graph_core.specs.Uses.{targets_of}
use Rattle.graph_core.specs.Paths.{Among}

-- An earlier block of the order leads to this one.
pub record IsLedEarlier (blocks : List Block) (order : List ℕ) (k n : ℕ) : Type 0 where
  pub turn : ℕ
  pub number : ℕ
  pub block : Block
  pub earlier : turn < k
  pub stands : slice_get order turn ≡ Some number
  pub is : slice_get blocks number ≡ Some block
  pub leads : Among n (targets_of block.end)

-- BLOCKS IN ORDER. The first block is first, each other one stands behind one that leads to it, none stands twice, and
-- where a block leads stands too.
pub record IsInOrder (blocks : List Block) (order : List ℕ) : Type 0 where
  pub first : slice_get order 0 ≡ Some 0
  pub within : (k n : ℕ) → slice_get order k ≡ Some n → n < length blocks
  pub behind : (k n : ℕ) → slice_get order k ≡ Some n → 0 < k → IsLedEarlier blocks order k n
  pub once : (j k n : ℕ) → slice_get order j ≡ Some n → slice_get order k ≡ Some n → j ≡ k
  pub closed : (k n l : ℕ) (b : Block) → slice_get order k ≡ Some n → slice_get blocks n ≡ Some b
      → Among l (targets_of b.end) → l < length blocks
      → (j : ℕ) × (slice_get order j ≡ Some l)

-- A block was put behind the others, or it is one of them, or there is no such block.
pub data IsAdded (label : ℕ) (order : List ℕ) (has : List Bool) : List ℕ → List Bool → Type 0 where
  stood : (label < length has → slice_get has label ≡ Some true) → IsAdded label order has order has
  put : slice_get has label ≡ Some false → IsAdded label order has (order ++ label ∷ []) (slice_set has label true)

-- so were several, one after the other
pub data AreAdded : (labels : List ℕ) → (order : List ℕ) → (has : List Bool) → List ℕ → List Bool → Type 0 where
  none : {order : List ℕ} {has : List Bool} → AreAdded [] order has order has
  more : {label : ℕ} {labels order mid new : List ℕ} {has mid_has new_has : List Bool}
      → IsAdded label order has mid mid_has → AreAdded labels mid mid_has new new_has
      → AreAdded (label ∷ labels) order has new new_has
