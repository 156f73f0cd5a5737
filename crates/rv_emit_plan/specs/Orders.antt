-- Orders of the blocks of a function, and how one grows.
use Rattle.std.specs.Prelude.{◌≡◌, ℕ, ◌+◌, ◌<◌, ◌≤◌, Bool, true, if◌then◌else◌, List, [], ◌∷◌, ◌++◌, length, get_or, slice_index, slice_set}
use Rattle.std.specs.List.{AllByRecursion}
use Rattle.graph_core.specs.Paths.{Among}
use Rattle.rv_emit_plan.specs.declared.placing.Placing as declared-placing

-- The numbers of blocks, each once, block 0 first if there is one.
abbrev pub AreOnce : List ℕ → Type 0
AreOnce [] = Unit {0}
AreOnce (n ∷ more) = (Among n more → ⊥) × AreOnce more

pub record IsOrder (blocks : ℕ) (order : List ℕ) : Type 0 where
  pub all : length order ≡ blocks
  pub first : slice_index order 0 ≡ 0
  pub low : AllByRecursion (λ n. n < blocks) order
  pub once : AreOnce order

-- ---- How an order grows

-- Which blocks are placed, and in which order they were.
pub record PlacingForm : Type 0 where
  pub is_placed : List Bool
  pub order : List ℕ

-- what the code has of it
abbrev pub placing_view : declared-placing.Placing → PlacingForm
placing_view p = record { is_placed = p.is_placed.items; order = p.order.items }

-- how many blocks are not placed
abbrev pub left_out : List Bool → ℕ
left_out [] = 0
left_out (p ∷ more) = (if p then 0 else 1) + left_out more

-- The blocks that are placed stand in the order, each once, block 0 first if there is one.
pub record ArePlaced (s : PlacingForm) : Type 0 where
  pub begun : 1 ≤ length s.is_placed → 1 ≤ length s.order
  pub first : slice_index s.order 0 ≡ 0
  pub low : AllByRecursion (λ n. n < length s.is_placed) s.order
  pub once : AreOnce s.order
  pub marked : (n : ℕ) → Among n s.order → get_or s.is_placed n true ≡ true
  pub counted : length s.order + left_out s.is_placed ≡ length s.is_placed

-- A block is placed behind those that are, if there is such a block and it is not one of them.
abbrev pub with_placed : (block : ℕ) → PlacingForm → PlacingForm
with_placed n s =
    if get_or s.is_placed n true then s else record {
      is_placed = slice_set s.is_placed n true;
      order = s.order ++ n ∷ [];
    }

-- What was placed stays placed, of as many blocks.
pub record Grows (s t : PlacingForm) : Type 0 where
  pub count : length t.is_placed ≡ length s.is_placed
  pub stay : (n : ℕ) → get_or s.is_placed n true ≡ true → get_or t.is_placed n true ≡ true
  pub placed : ArePlaced s → ArePlaced t
