-- The rules of the nodes of recipes.
use Rattle.std.specs.Prelude.{◌≡◌, ℕ, zero, suc, ◌-◌, ◌%◌, ◌<◌, ◌≤◌, ◌⊎◌, List, [], ◌∷◌, Some, slice_get, IsSomeAnd, length, ⊤}
use Rattle.std.specs.List.{AllByRecursion}
use Rattle.image_form.specs.declared.recipes.Node.{Node}
use Rattle.image_form.specs.declared.recipes.Node.TheVariants.{Constant, Variable, Home, Truncated, Operated}
use Rattle.image_form.specs.declared.variables.Storage.{Storage}
use Rattle.image_form.specs.declared.variables.Storage.TheVariants.{Static, Frame, Register, Slot}
use Rattle.image_form.specs.Form.{Form}
use Rattle.image_form.specs.Lists.{AreDistinct}

-- The numbers of a node's operands.
abbrev pub operands : Node → List ℕ
operands (Constant value) = []
operands (Variable variable) = []
operands (Home home) = []
operands (Truncated truncation operand) = operand ∷ []
operands (Operated operation left right) = left ∷ right ∷ []

-- A home: a register or a slot.
abbrev pub IsHome : Storage → Type 0
IsHome (Static address) = ⊥
IsHome (Frame offset) = ⊥
IsHome (Register number) = ⊤
IsHome (Slot offset) = ⊤

-- A register, or 32 plus the offset of a slot in a frame of the greatest size.
abbrev pub IsHomeNumber : ℕ → Type 0
IsHomeNumber home = (home < 32) ⊎ ((32 ≤ home) × ((home - 32) % 4 ≡ 0) × (home - 32 < 16384))

-- What a node may name beside its operands: a variable that has a home, or a home without a name.
abbrev pub NamesHome : Form → Node → Type 0
NamesHome f (Constant value) = ⊤
NamesHome f (Variable variable) = IsSomeAnd (slice_get f.variables variable) (λ v. IsHome v.storage)
NamesHome f (Home home) = IsHomeNumber home
NamesHome f (Truncated truncation operand) = ⊤
NamesHome f (Operated operation left right) = ⊤

-- The i-th node is the root of a recipe of at most so many levels.
abbrev pub HasDepth : List Node → ℕ → ℕ → Type 0
HasDepth nodes zero i = ⊥
HasDepth nodes (suc depth) i = IsSomeAnd (slice_get nodes i) (λ n. AllByRecursion (HasDepth nodes depth) (operands n))

-- The rules of an image's nodes: what they name, that their operands are earlier ones, at most four levels, and no two
-- of them alike.
pub record NodeRules (f : Form) : Type 0 where
  pub homes : AllByRecursion (NamesHome f) f.nodes
  -- Operands are earlier nodes.
  pub earlier : (i : ℕ) (n : Node) → slice_get f.nodes i ≡ Some n → AllByRecursion (λ k. k < i) (operands n)
  pub shallow : (i : ℕ) → i < length f.nodes → HasDepth f.nodes 4 i
  pub differ : AreDistinct (λ n. n) f.nodes
