-- The nodes of recipes.
use Rattle.std.specs.Prelude.{◌≡◌, ℕ, ◌+◌, ◌*◌, ◌%◌, ◌^◌, ◌++◌, ◌<◌, ◌≤◌, ◌⊎◌, get_or, length, List, Some, slice_get, slice_index}
use Rattle.std.specs.BTreeMap as tree
use Rattle.std.specs.BTreeMap.{BTreeMap}
use Rattle.std.specs.List.{AllByRecursion}
use Rattle.std.specs.Option.{option_map_or}
use Rattle.graph_homes.specs.declared.home.Home.{Home}
use Rattle.graph_homes.specs.declared.home.Home.TheVariants.{Register, Slot}
use Rattle.graph_core.specs.Graphs.{Graph, Operand, Name, Constant, StaticAddress, Recipe, Of, Truncated, Operated, Scalar, graph_view}
use Rattle.image_form.specs.declared.recipes.Node.{Node}
use Rattle.image_form.specs.declared.recipes.Node.TheVariants as node
use Rattle.image_form.specs.Lists.{AreDistinct}
use Rattle.image_form.specs.Numbers.{node_numbers}
use Rattle.image_form.specs.RulesOfNodes.{operands}
use Rattle.image_form_sections.specs.Layouts.{node_cmp}
use Rattle.image_build_tables.specs.Variables.{bounded_count}
use Rattle.image_build_tables.specs.declared.nodes.Naming as declared-naming

-- By what the names of a function's recipes are told: its graph, the homes of its names, the offset of its slots in the
-- frame, and the addresses of static objects.
pub record Naming : Type 0 where
  pub graph : Graph
  pub homes : List Home
  pub slots : ℕ
  pub statics : List ℕ

abbrev pub naming_view : declared-naming.Naming → Naming
naming_view n =
    record { graph = graph_view n.graph.now; homes = n.homes.now; slots = n.code.now.slots; statics = n.statics.now }

-- the node of a home: a register's number, or 32 and the offset of a slot
abbrev pub home_node : (slots : ℕ) → Home → Node
home_node slots (Register r) = node.Home r
home_node slots (Slot k) = node.Home (bounded_count (slots + 4 * k + 32))

-- the node of a name: of a scalar its variable, of another name its home
abbrev pub name_node : Naming → ℕ → Node
name_node n x =
    option_map_or (λ (s : Scalar). node.Variable s.variable) (slice_get n.graph.scalars x)
    (option_map_or (home_node n.slots) (slice_get n.homes x) (node.Home 0))

-- the node of an operand
abbrev pub operand_node : Naming → Operand → Node
operand_node n (Name x) = name_node n x
operand_node n (Constant w) = node.Constant w
operand_node n (StaticAddress object offset) = node.Constant ((get_or n.statics object 0 + offset) % 2 ^ 32)

-- what a node is and its operands, as three numbers
abbrev pub key : Node → ℕ × ℕ × ℕ
key n = (slice_index (node_numbers n) 0, slice_index (node_numbers n) 1, slice_index (node_numbers n) 2)

-- A map tells the number of each node by what the node is, where there are fewer than 2^32.
abbrev pub TellsNumbers : BTreeMap (ℕ × ℕ × ℕ) ℕ → List Node → Type 0
TellsNumbers numbers nodes =
    length nodes < 2 ^ 32 → (k : ℕ) (n : Node) → slice_get nodes k ≡ Some n → tree.get node_cmp numbers (key n) ≡ Some k

-- the operands of each node are earlier ones
abbrev pub AreEarlier : List Node → Type 0
AreEarlier nodes = (k : ℕ) (n : Node) → slice_get nodes k ≡ Some n → AllByRecursion (λ j. j < k) (operands n)

-- no two nodes are alike
abbrev pub AreOnce : List Node → Type 0
AreOnce nodes = AreDistinct (λ n. n) nodes

-- THE NODE OF THIS NUMBER IS A RECIPE'S: it is the node of its operand, or it truncates or operates on the nodes of its
-- parts.
abbrev pub IsNodeOf : List Node → Naming → Recipe → ℕ → Type 0
IsNodeOf nodes n (Of a) k = slice_get nodes k ≡ Some (operand_node n a)
IsNodeOf nodes n (Truncated t r) k = (j : ℕ) × (slice_get nodes k ≡ Some (node.Truncated t j)) × IsNodeOf nodes n r j
IsNodeOf nodes n (Operated o r s) k =
    (i : ℕ) × (j : ℕ) × (slice_get nodes k ≡ Some (node.Operated o i j)) × IsNodeOf nodes n r i × IsNodeOf nodes n s j

-- nodes, and perhaps more behind them
abbrev pub Begin : List Node → List Node → Type 0
Begin nodes all = (more : List Node) × (all ≡ nodes ++ more)

-- a recipe is another one, or a part of it
abbrev pub IsPartOf : Recipe → (whole : Recipe) → Type 0
IsPartOf part (Of a) = part ≡ Of a
IsPartOf part (Truncated t r) = (part ≡ Truncated t r) ⊎ IsPartOf part r
IsPartOf part (Operated o r s) = (part ≡ Operated o r s) ⊎ (IsPartOf part r ⊎ IsPartOf part s)

-- how many parts a recipe has, itself among them
abbrev pub size_of : Recipe → ℕ
size_of (Of a) = 1
size_of (Truncated t r) = 1 + size_of r
size_of (Operated o r s) = 1 + size_of r + size_of s

-- each node behind the old ones is that of a recipe or of a part of it
abbrev pub AreNewOf : (old new : List Node) → Naming → Recipe → Type 0
AreNewOf old new n r =
    (k : ℕ) → length old ≤ k → k < length new → (part : Recipe) × IsPartOf part r × IsNodeOf new n part k
