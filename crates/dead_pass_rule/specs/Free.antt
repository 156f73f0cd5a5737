-- The writes of a graph that may go, told instruction by instruction.
use Rattle.std.specs.Prelude.{◌≡◌, ◌↔◌, ◌⊎◌, ℕ, ◌<◌, ◌≤◌, Bool, true, false, Option, Some, None, List, [], ◌∷◌, ◌++◌, length, slice_get, slice_index_or, option_map, ⊤}
use Rattle.std.specs.declared.vec.Vec.{Vec}
use Rattle.std.specs.declared.alloc.Global.{Global}
use Rattle.places.specs.declared.flow.Assignment.{Assignment}
use Rattle.debug_records.specs.declared.change.Place as declared-place
use Rattle.graph_core.specs.Graphs.{Instruction, Block, Graph}
use Rattle.graph_core.specs.Uses.{target_of}
use Rattle.graph_core.specs.Validity.{place_behind}
use Rattle.dead_pass_writes.specs.Once.{IsOnce}
use Rattle.dead_pass_rule.specs.Idle.{assigns_scalar}
use Rattle.dead_pass_rule.specs.Certified.{IsFree}

-- the place in force, by its number
abbrev pub placed : Option declared-place.Place → Option ℕ
placed place = option_map (λ (q : declared-place.Place). q.0) place

-- In a place one instruction of a graph writes a name, and nothing else does.
pub record IsWrittenOnce (g : Graph) (p x : ℕ) : Type 0 where
  pub block : ℕ
  pub left : ℕ
  pub is : IsOnce g p x block left

-- a write of a name in a place may go, if it stands there: the name is a temporary, or one instruction writes it there,
-- and the place assigns its variable
abbrev pub MayGoOnce : List Assignment → Graph → (p x : ℕ) → Type 0
MayGoOnce assignments g p x = (length g.scalars ≤ x) ⊎ (IsWrittenOnce g p x × (assigns_scalar assignments g p x ≡ true))

-- The write of a name where a place is in force may go, if it stands there.
pub record IsFreeOnce (assignments : List Assignment) (g : Graph) (place : Option ℕ) (i : Instruction) : Type 0 where
  pub p : ℕ
  pub x : ℕ
  pub in_place : place ≡ Some p
  pub target : target_of i ≡ Some x
  pub may_go : MayGoOnce assignments g p x

-- it is told of each instruction whether what it writes may go; the first stands where this place is in force
abbrev pub AreFreeFrom : List Assignment → Graph → (place : Option ℕ) → List Instruction → List Bool → Type 0
AreFreeFrom assignments g place [] [] = ⊤
AreFreeFrom assignments g place [] (v ∷ told) = ⊥
AreFreeFrom assignments g place (i ∷ rest) [] = ⊥
AreFreeFrom assignments g place (i ∷ rest) (v ∷ told) =
    ((v ≡ true) ↔ IsFreeOnce assignments g place i) × AreFreeFrom assignments g (place_behind (i ∷ []) place) rest told

-- this is told of a block
abbrev pub AreFreeOnce : List Assignment → Graph → Block → Option (Vec Bool Global) → Type 0
AreFreeOnce assignments g b None = ⊥
AreFreeOnce assignments g b (Some told) = AreFreeFrom assignments g b.place b.instructions told.items

-- the flags of a block; none where there are none
abbrev pub flags_in : Option (Vec Bool Global) → List Bool
flags_in None = []
flags_in (Some told) = told.items

-- it is told of each instruction of a block whether what it writes may go, by how many instructions stand before it
abbrev pub AreFree : List Assignment → Graph → Block → List Bool → Type 0
AreFree assignments g b free =
    (before rest : List Instruction) (i : Instruction) → b.instructions ≡ before ++ i ∷ rest
    → (slice_index_or free (length before) false ≡ true) ↔ IsFree assignments g (place_behind before b.place) i

-- it is told of the instructions of all blocks
abbrev pub AreAllFree : List Assignment → Graph → List (Vec Bool Global) → Type 0
AreAllFree assignments g free =
    (n : ℕ) (b : Block) → slice_get g.blocks n ≡ Some b → AreFree assignments g b (flags_in (slice_get free n))

-- each name that an instruction writes is one of so many
abbrev pub AreNamed : List Block → (names : ℕ) → Type 0
AreNamed blocks names =
    (n : ℕ) (b : Block) (before rest : List Instruction) (i : Instruction) (x : ℕ) → slice_get blocks n ≡ Some b
    → b.instructions ≡ before ++ i ∷ rest → target_of i ≡ Some x → x < names
