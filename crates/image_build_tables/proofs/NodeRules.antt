-- THE NODES OF AN IMAGE KEEP THEIR RULES, where they are those of recipes that are told, each once, behind its operands.
use Rattle.std.proofs.Common.{◌≡◌, ◌<◌, ◌≤◌, ◌+◌, ◌*◌, inl, inr, ℕ, zero, suc, Option, Some, None, List, [], ◌∷◌, length, slice_get, refl, subst, sym, ap, ◌∙◌, arith}
use Rattle.std.specs.Prelude.{IsSomeAnd, max, option_and_then, option_map}
use Rattle.std.specs.List.{AllByRecursion}
use Rattle.std.specs.Option.{option_map_or}
use Rattle.std.proofs.lemmas.Option.{none-some, same_Some, slice_get_within}
use Rattle.places.specs.declared.table.PlaceRow.{PlaceRow}
use Rattle.rv_emit_tables.specs.Emitted.{FunctionCode}
use Rattle.graph_homes.specs.declared.home.Home.{Home}
use Rattle.graph_core.specs.Graphs.{Graph, Operand, Name, Constant, StaticAddress, Recipe, Of, Truncated, Operated, Scalar, recipe_view}
use Rattle.graph_core.specs.Paths.{Among, front, behind}
use Rattle.graph_core.specs.Validity.{depth_of, total}
use Rattle.currency.specs.declared.verdict.Verdict as told-verdict
use Rattle.currency.specs.declared.verdict.Verdict.TheVariants as told
use Rattle.currency.specs.declared.verdict.PlaceVerdict.{PlaceVerdict}
use Rattle.image_form.specs.declared.recipes.Node.{Node}
use Rattle.image_form.specs.declared.recipes.Node.TheVariants as node
use Rattle.image_form.specs.Form.{Form}
use Rattle.image_form.specs.RulesOfNodes.{HasDepth, NamesHome, NodeRules, operands}
use Rattle.image_build_tables.specs.Nodes.{AreEarlier, AreOnce, IsNodeOf, IsPartOf, Naming, home_node, name_node, operand_node, size_of}
use Rattle.image_build_tables.specs.Rows.{AreNodesOf, AreShallow, IsNodeToldBy, Telling, naming_at, naming_in, size_told}
use Rattle.image_build_tables.proofs.NodesOnce.{leaf}

-- ---- How many there are

-- so many nodes have recipes of so many levels, and one more
abbrev room : (levels : ℕ) → ℕ
room zero = 1
room (suc levels) = room levels + room levels

some_room : (levels : ℕ) → 1 ≤ room levels
some_room zero = omega arith
some_room (suc levels) = let some = some_room levels in omega (arith, some)

larger : (m n most : ℕ) → 1 + max m n ≤ suc most → (m ≤ most) × (n ≤ most)
larger m n most le = (omega (arith, le), omega (arith, le))

size_fits : (r : Recipe) (levels : ℕ) → depth_of r ≤ levels → size_of r + 1 ≤ room levels
size_fits (Of a) zero deep = absurd (omega (arith, deep))
size_fits (Of a) (suc levels) deep = let some = some_room levels in omega (arith, some)
size_fits (Truncated t r) zero deep = absurd (omega (arith, deep))
size_fits (Truncated t r) (suc levels) deep =
    let some = some_room levels in
    let rest = size_fits r levels (omega (arith, deep)) in
    omega (arith, some, rest)
size_fits (Operated o r s) zero deep = absurd (omega (arith, deep))
size_fits (Operated o r s) (suc levels) deep =
    let low = larger (depth_of r) (depth_of s) levels deep in
    let left = size_fits r levels low.0 in
    let right = size_fits s levels low.1 in
    omega (arith, left, right)

one_told : (w : PlaceVerdict) (all : List PlaceVerdict) → AreShallow all → Among w all → (v : told-verdict.Verdict) → w.verdict ≡ v → size_told v ≤ 15
one_told w all shallow among told.Home is = omega arith
one_told w all shallow among (told.Recovered r change) is =
    let deep = shallow w r change among is in
    let fits : size_of (recipe_view r) + 1 ≤ 16 = size_fits (recipe_view r) 4 deep in
    omega (arith, fits)
one_told w all shallow among (told.Noncurrent change start writer q) is = omega arith
one_told w all shallow among (told.Nonresident change start writer q) is = omega arith

-- A row asks for fifteen nodes at most, where recipes have at most four levels.
pub few_told : (all : List PlaceVerdict) → AreShallow all → total (λ (w : PlaceVerdict). size_told w.verdict) all ≤ 15 * length all
few_told [] shallow = omega arith
few_told (w ∷ all) shallow =
    let one = one_told w (w ∷ all) shallow front w.verdict refl in
    let rest = few_told all (λ x r change among is. shallow x r change (behind among) is) in
    omega (arith, one, rest)

-- ---- Lists

each_at : {A : Type 0} (P : A → Type 0) (xs : List A) (k : ℕ) (x : A) → AllByRecursion P xs → slice_get xs k ≡ Some x → P x
each_at P [] k x each is = absurd (none-some x is)
each_at P (y ∷ xs) zero x each is = subst P (same_Some y x is) each.0
each_at P (y ∷ xs) (suc k) x each is = each_at P xs k x each.1 is

all_from : {A : Type 0} (P : A → Type 0) (xs : List A) → ((k : ℕ) (x : A) → slice_get xs k ≡ Some x → P x) → AllByRecursion P xs
all_from P [] each = tt
all_from P (x ∷ xs) each = (each 0 x refl, all_from P xs (λ k y is. each (suc k) y is))

-- ---- How deep they are

both_less : (m n most : ℕ) → 1 + max m n ≤ most → (m ≤ most) × (n ≤ most)
both_less m n most le = (omega (arith, le), omega (arith, le))

part_shallow : (part r : Recipe) (levels : ℕ) → IsPartOf part r → depth_of r ≤ levels → depth_of part ≤ levels
part_shallow part (Of a) levels is deep = let same = ap depth_of is in omega (arith, same, deep)
part_shallow part (Truncated t r) levels (inl is) deep = let same = ap depth_of is in omega (arith, same, deep)
part_shallow part (Truncated t r) levels (inr of) deep = part_shallow part r levels of (omega (arith, deep))
part_shallow part (Operated o r s) levels (inl is) deep = let same = ap depth_of is in omega (arith, same, deep)
part_shallow part (Operated o r s) levels (inr (inl of)) deep = part_shallow part r levels of (both_less (depth_of r) (depth_of s) levels deep).0
part_shallow part (Operated o r s) levels (inr (inr of)) deep = part_shallow part s levels of (both_less (depth_of r) (depth_of s) levels deep).1

-- the node of a recipe is the root of one of as many levels
node_depth : (nodes : List Node) (n : Naming) (r : Recipe) (levels k : ℕ) → depth_of r ≤ levels → IsNodeOf nodes n r k → HasDepth nodes levels k
node_depth nodes n (Of a) zero k deep is = absurd (omega (arith, deep))
node_depth nodes n (Of a) (suc levels) k deep is =
    subst (λ o. IsSomeAnd o (λ (m : Node). AllByRecursion (HasDepth nodes levels) (operands m))) (sym is) (subst (AllByRecursion (HasDepth nodes levels)) (sym (leaf n a)) tt)
node_depth nodes n (Truncated t r) zero k deep is = absurd (omega (arith, deep))
node_depth nodes n (Truncated t r) (suc levels) k deep (j, is, of) =
    subst (λ o. IsSomeAnd o (λ (m : Node). AllByRecursion (HasDepth nodes levels) (operands m))) (sym is) (node_depth nodes n r levels j (omega (arith, deep)) of, tt)
node_depth nodes n (Operated o r s) zero k deep is = absurd (omega (arith, deep))
node_depth nodes n (Operated o r s) (suc levels) k deep (i, j, is, left, right) =
    let low = larger (depth_of r) (depth_of s) levels deep in
    subst (λ q. IsSomeAnd q (λ (m : Node). AllByRecursion (HasDepth nodes levels) (operands m))) (sym is)
    (node_depth nodes n r levels i low.0 left, (node_depth nodes n s levels j low.1 right, tt))

-- ---- What they name

-- What the names of a function stand for are variables of an image that have homes, and homes.
pub record HasHomesIn (m : Form) (n : Naming) : Type 0 where
  pub scalars : AllByRecursion (λ (s : Scalar). NamesHome m (node.Variable s.variable)) n.graph.scalars
  pub homes : AllByRecursion (λ (home : Home). NamesHome m (home_node n.slots home)) n.homes

module _ (m : Form) (n : Naming) (has : HasHomesIn m n) where
  name_named : (x : ℕ) → NamesHome m (name_node n x)
  name_named x = by_scalar (slice_get n.graph.scalars x) refl
    where
      by_home : (o : Option Home) → slice_get n.homes x ≡ o → NamesHome m (option_map_or (home_node n.slots) o (node.Home 0))
      by_home None is = inl (omega arith)
      by_home (Some home) is = each_at (λ (h : Home). NamesHome m (home_node n.slots h)) n.homes x home has.homes is

      by_scalar : (o : Option Scalar) → slice_get n.graph.scalars x ≡ o → NamesHome m (option_map_or (λ (s : Scalar). node.Variable s.variable) o (option_map_or (home_node n.slots) (slice_get n.homes x) (node.Home 0)))
      by_scalar None is = by_home (slice_get n.homes x) refl
      by_scalar (Some s) is = each_at (λ (z : Scalar). NamesHome m (node.Variable z.variable)) n.graph.scalars x s has.scalars is

  operand_named : (a : Operand) → NamesHome m (operand_node n a)
  operand_named (Name x) = name_named x
  operand_named (Constant word) = tt
  operand_named (StaticAddress object offset) = tt

  node_named : (nodes : List Node) (r : Recipe) (k : ℕ) (x : Node) → IsNodeOf nodes n r k → slice_get nodes k ≡ Some x → NamesHome m x
  node_named nodes (Of a) k x is there = subst (NamesHome m) (same_Some (operand_node n a) x (sym is ∙ there)) (operand_named a)
  node_named nodes (Truncated t r) k x (j, is, of) there = subst (NamesHome m) (same_Some (node.Truncated t j) x (sym is ∙ there)) tt
  node_named nodes (Operated o r s) k x (i, j, is, left, right) there = subst (NamesHome m) (same_Some (node.Operated o i j) x (sym is ∙ there)) tt

-- ---- By what recipes are told

-- By what those at a place are told is a function's graph, its homes and its code.
pub record IsNamingIn (t : Telling) (n : Naming) : Type 0 where
  pub function : ℕ
  pub graph_is : slice_get t.graphs function ≡ Some n.graph
  pub homes_are : slice_get t.homes function ≡ Some n.homes
  pub code : FunctionCode
  pub code_is : slice_get t.codes function ≡ Some code
  pub slots_are : n.slots ≡ code.slots

naming_in_is : (t : Telling) (f : ℕ) (n : Naming) → naming_in t f ≡ Some n → IsNamingIn t n
naming_in_is t f n is = by_parts (slice_get t.graphs f) refl (slice_get t.homes f) refl (slice_get t.codes f) refl is
  where
    by_parts : (graphs : Option Graph) → slice_get t.graphs f ≡ graphs → (homes : Option (List Home)) → slice_get t.homes f ≡ homes → (codes : Option FunctionCode) → slice_get t.codes f ≡ codes
        → option_and_then (λ (g : Graph). option_and_then (λ (hs : List Home). option_map (λ (c : FunctionCode). record { graph = g; homes = hs; slots = c.slots; statics = t.statics }) codes) homes) graphs ≡ Some n → IsNamingIn t n
    by_parts None graph homes homes_are codes code same = absurd (none-some n same)
    by_parts (Some g) graph None homes_are codes code same = absurd (none-some n same)
    by_parts (Some g) graph (Some hs) homes_are None code same = absurd (none-some n same)
    by_parts (Some g) graph (Some hs) homes_are (Some c) code same =
        let made : Naming = record { graph = g; homes = hs; slots = c.slots; statics = t.statics } in
        let one : made ≡ n = same_Some made n same in
        record {
          function = f;
          graph_is = graph ∙ ap (λ (m : Naming). Some m.graph) one;
          homes_are = homes_are ∙ ap (λ (m : Naming). Some m.homes) one;
          code = c;
          code_is = code;
          slots_are = sym (ap (λ (m : Naming). m.slots) one);
        }

pub naming_at_is : (t : Telling) (place : ℕ) (n : Naming) → naming_at t place ≡ Some n → IsNamingIn t n
naming_at_is t zero n is = absurd (none-some n is)
naming_at_is t (suc k) n is = by_row (slice_get t.places k) is
  where
    by_row : (row : Option PlaceRow) → option_and_then (λ (r : PlaceRow). naming_in t r.function) row ≡ Some n → IsNamingIn t n
    by_row None same = absurd (none-some n same)
    by_row (Some r) same = naming_in_is t r.function n same

-- ---- Rules

module _ (m : Form) (t : Telling) (all : List PlaceVerdict) (are : AreNodesOf t m.nodes all) where
  pub node_rules : AreOnce m.nodes → AreEarlier m.nodes → AreShallow all → ((place : ℕ) (n : Naming) → naming_at t place ≡ Some n → HasHomesIn m n) → NodeRules m
  node_rules once earlier shallow homes = record {
    homes = all_from (NamesHome m) m.nodes named;
    earlier = earlier;
    shallow = deep;
    differ = once;
  }
    where
      named : (k : ℕ) (x : Node) → slice_get m.nodes k ≡ Some x → NamesHome m x
      named k x is =
          let one : IsNodeToldBy t m.nodes all k = are k (slice_get_within m.nodes k x is) in
          node_named m one.naming (homes one.row.place.0 one.naming one.naming_is) m.nodes one.part k x one.node is

      deep : (k : ℕ) → k < length m.nodes → HasDepth m.nodes 4 k
      deep k within =
          let one : IsNodeToldBy t m.nodes all k = are k within in
          let low = shallow one.row one.recipe one.change one.among one.verdict in
          node_depth m.nodes one.naming one.part 4 k (part_shallow one.part (recipe_view one.recipe) 4 one.of low) one.node
