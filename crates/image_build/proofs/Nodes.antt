-- What the nodes of a recipe come to at a stop is the word of its value over homes.
use Rattle.std.proofs.Common.{◌≡◌, ℕ, zero, suc, ◌+◌, ◌-◌, ◌*◌, ◌%◌, ◌<◌, ◌≤◌, inl, inr, Bool, true, false, cond, Option, Some, None, List, [], ◌++◌, length, map, slice_get, get_or, refl, sym, ap, ◌∙◌, subst, arith}
use Rattle.std.specs.Prelude.{if◌then◌else◌, nat_lt, nat_le, max}
use Rattle.std.specs.Option.{option_map_or}
use Rattle.std.proofs.lemmas.Bool.{leb-true, lt-ltb, le-ltb}
use Rattle.std.proofs.lemmas.Option.{get_or_from_slice_get, same_Some}
use Rattle.c_tree.specs.Programs.{ProgramTree}
use Rattle.rv_emit_runs.specs.Waiting.{FunctionCode}
use Rattle.rv_emit_steps.specs.Meaning.{Means}
use Rattle.rv_emit_steps.proofs.Values.{lies_low, operation_means, truncation_means}
use Rattle.rv_emit_steps.specs.EmitMovesDoing.{value_of_home}
use Rattle.rv_emit_runs.specs.Told.{IsTold, Tells}
use Rattle.rv_emit_runs.specs.Laid.{Arrangement, code_of}
use Rattle.rv_emit_runs.specs.Standing.{IsFrame, StandsAt}
use Rattle.rv_emit_runs.proofs.Frames.{all_codes, graph_is}
use Rattle.rv_emit_storage.specs.Storages.{slot_at}
use Rattle.rv_emit_tables.specs.Emitted as emitted
use Rattle.rv_emit_tables.specs.Emitted.{EmittedForm}
use Rattle.graph_core.specs.declared.value.Value.{Value}
use Rattle.graph_core.specs.declared.value.Value.TheVariants.{Pointer, Odd}
use Rattle.graph_core.specs.Graphs.{Graph, Operand, Name, Constant, StaticAddress, Recipe, Of, Truncated, Operated, StaticObject}
use Rattle.graph_core.specs.Graphs.{Scalar as UnitScalar}
use Rattle.graph_core.specs.Memory.{static_bytes}
use Rattle.graph_core.specs.Runs.{Configuration, static_address, value}
use Rattle.graph_core.specs.Validity.{IsValid, IsOperand, AreOperandsOf, depth_of}
use Rattle.graph_core.specs.Values.{pointer_at}
use Rattle.graph_homes.specs.declared.home.Home.{Home}
use Rattle.graph_homes.specs.declared.home.Home.TheVariants.{Register, Slot}
use Rattle.home_assign.specs.Alike.{held_in, shown_value}
use Rattle.rv_emit_storage.specs.StaticAddresses.{static_at}
use Rattle.graph_homes.specs.Homed.{HomedForm, HaveHomes, IsHomeAmong, IsHomeRegister, home_number, home_of}
use Rattle.image_build_tables.specs.Storages.{storage_of, storages_of}
use Rattle.image_build_tables.specs.Variables.{bounded_count, shape, shapes_of, owner, owners_of, declared_names, name_length, length_of_name, storage}
use Rattle.image_form.specs.declared.recipes.Node.{Node}
use Rattle.image_form.specs.declared.recipes.Node.TheVariants as node
use Rattle.image_form.specs.declared.variables.Variable.{Variable}
use Rattle.image_form.specs.Form.{Form}
use Rattle.image_form.specs.Numbers.{node_numbers}
use Rattle.image_form.specs.Rules.{AllFit, IsImage}
use Rattle.image_truth_units.proofs.Frames.{frame_there}
use Rattle.image_truth_units.proofs.Homes.{home_word_is}
use Rattle.image_build_tables.specs.Nodes.{IsNodeOf, Naming, home_node, name_node, operand_node}
use Rattle.image_truth_units.specs.Units.{HasVariablesIn}
use Rattle.image_truth_units.proofs.Areas.{there}
use Rattle.image_truth_units.proofs.Kept.{scalar_kept}
use Rattle.image_truth_units.proofs.Tables.{all_at}
use Rattle.rv_emit_steps.specs.Holding.{held, memory_of}
use Rattle.rv_machine.specs.State.{MachineState, reg}
use Rattle.stop_engine_view.specs.Reading.{slot_word}
use Rattle.stop_engine_view.specs.Recipes.{node_value, recipe_value, variable_word}
use Rattle.stop_engine_view.specs.Words.{home_word}
use Rattle.word_base.specs.WordOperations.{word_operation, truncated}
use Rattle.image_build.proofs.PassesTruthWords.{operated_fits, truncated_fits}

-- An image has a program's tables and a unit's storages; the machine stands at a stop of the unit over homes.
module _ (p : ProgramTree) (m : Form) (functions : map name_length m.functions ≡ map length_of_name p.functions) (variables : map shape m.variables ≡ shapes_of p) (owners : map owner m.variables ≡ owners_of p) (more : List ℕ) (names : m.names ≡ declared_names p ++ more) (rules : IsImage m)
    (h : HomedForm) (valid : IsValid h.unit) (homed : HaveHomes h) (a : Arrangement) (e : EmittedForm) (storages : map storage m.variables ≡ storages_of h e (length m.variables)) (unit : HasVariablesIn p h.unit) (tells : Tells h a e)
    (c : Configuration) (s : MachineState) (stands : StandsAt h e a c s)
    -- the function of the innermost activation
    (g : Graph) (graph : slice_get h.unit.graphs c.here.function ≡ Some g) (homes : List Home) (homes_are : slice_get h.homes c.here.function ≡ Some homes) (many : length homes ≡ g.name_count) where
  -- a word of a value
  abbrev pub IsWord : Value → (word : ℕ) → Type 0
  IsWord v w = Means stands.addresses c.memory v w × (w < 4294967296)

  -- by what the recipes of the function are told
  abbrev told : IsTold h a e c.here.function
  told = tells.functions c.here.function g graph

  abbrev pub naming : Naming
  naming = record { graph = g; homes = homes; slots = told.code.slots; statics = e.statics }

  abbrev code : FunctionCode
  code = code_of h a c.here.function

  frame_here : IsFrame s.map code stands.addresses (reg s 2) c.here
  frame_here =
      let there_is = frame_there h a e stands.addresses (memory_of s.map s.bytes s.stack) (reg s 2) c.here c.waiting 0 c.here stands.stack refl in
      subst (λ r. IsFrame r code stands.addresses (reg s 2) c.here) (sym stands.map) there_is

  -- ---- Names

  among : (x : ℕ) → x < g.name_count → IsHomeAmong code.slots (home_of h c.here.function x)
  among x lt =
      let same = graph_is h.unit c.here.function g graph in
      let count : code.graph.name_count ≡ g.name_count = ap (λ (y : Graph). y.name_count) same in
      ((all_codes h valid homed a h.unit c.here.function).storage stands.addresses []).homes x (omega (arith, lt, count))

  -- what the machine holds in the home of a name
  home_word_here : (x : ℕ) → x < g.name_count → home_word s (storage_of told.code.slots (home_of h c.here.function x)) ≡ value_of_home code.storage (held s) (home_of h c.here.function x)
  home_word_here x lt = home_word_is h valid homed a stands.addresses s c.here frame_here told.code.slots told.slots (home_of h c.here.function x) (among x lt)

  home_fits : (home : Home) → value_of_home code.storage (held s) home < 4294967296
  home_fits (Register r) = stands.range.words r
  home_fits (Slot k) =
      let i = reg s 2 + slot_at code.storage k in
      let b0 = stands.range.bytes i in let b1 = stands.range.bytes (i + 1) in let b2 = stands.range.bytes (i + 2) in let b3 = stands.range.bytes (i + 3) in
      omega (arith, b0, b1, b2, b3)

  -- the node of a home comes to what it holds
  node_of_home : (operand : ℕ → ℕ) (home : Home) → IsHomeAmong code.slots home → node_value m s operand (home_node told.code.slots home) ≡ home_word s (storage_of told.code.slots home)
  node_of_home operand (Register r) is = let low : nat_lt r 32 ≡ true = lt-ltb r 32 (below r is) in ap (λ b. if b then reg s r else slot_word s (r - 32)) low
    where
      below : (r : ℕ) → IsHomeRegister r → r < 32
      below r (inl is) = omega (arith, is)
      below r (inr both) = let high = both.1 in omega (arith, high)
  node_of_home operand (Slot k) lt =
      let its = all_codes h valid homed a h.unit c.here.function in
      let room = (its.storage stands.addresses []).room in
      let small = its.small in
      let slots = told.slots in
      let number : bounded_count (told.code.slots + 4 * k + 32) ≡ told.code.slots + 4 * k + 32 = omega (arith, slots, room, small, lt) in
      let offset : bounded_count (told.code.slots + 4 * k + 32) - 32 ≡ bounded_count (told.code.slots + 4 * k) = omega (arith, slots, room, small, lt) in
      let high : nat_lt (bounded_count (told.code.slots + 4 * k + 32)) 32 ≡ false = le-ltb (bounded_count (told.code.slots + 4 * k + 32)) 32 (omega (arith, number)) in
      ap (λ b. if b then reg s (bounded_count (told.code.slots + 4 * k + 32)) else slot_word s (bounded_count (told.code.slots + 4 * k + 32) - 32)) high ∙ ap (slot_word s) offset

  -- the home of a name among those of the function
  home_there : (x : ℕ) → x < g.name_count → slice_get homes x ≡ Some (home_of h c.here.function x)
  home_there x lt =
      let at = there homes x (omega (arith, lt, many)) in
      let same : home_of h c.here.function x ≡ at.0 = ap (λ r. option_map_or (λ (y : Home). y) (slice_get (option_map_or (λ (l : List Home). l) r []) x) (Slot 0)) homes_are ∙ ap (λ r. option_map_or (λ (y : Home). y) r (Slot 0)) at.1 in
      at.1 ∙ ap (λ y. Some y) (sym same)

  -- the word of a scalar's variable
  scalar_word : (x : ℕ) (sc : UnitScalar) → slice_get g.scalars x ≡ Some sc → variable_word m s sc.variable ≡ home_word s (storage_of told.code.slots (home_of h c.here.function x))
  scalar_word x sc at =
      let kept = scalar_kept p m functions variables owners more names rules h e storages unit tells.many c.here.function x g sc graph at in
      let code_same : kept.code ≡ told.code = same_Some kept.code told.code (sym kept.code_is ∙ told.is) in
      let home : home_of h c.here.function x ≡ kept.home = ap (λ r. option_map_or (λ (y : Home). y) (slice_get (option_map_or (λ (l : List Home). l) r []) x) (Slot 0)) kept.homes_are ∙ ap (λ r. option_map_or (λ (y : Home). y) r (Slot 0)) kept.home_is in
      ap (λ o. option_map_or (λ (v : Variable). home_word s v.storage) o 0) kept.is ∙ ap (home_word s) kept.storage_is
      ∙ ap (λ (y : emitted.FunctionCode). home_word s (storage_of y.slots kept.home)) code_same ∙ ap (λ y. home_word s (storage_of told.code.slots y)) (sym home)

  -- the node of a name comes to what the name's home holds
  name_word : (operand : ℕ → ℕ) (x : ℕ) → x < g.name_count → node_value m s operand (name_node naming x) ≡ home_word s (storage_of told.code.slots (home_of h c.here.function x))
  name_word operand x lt = by_scalar (slice_get g.scalars x) refl
    where
      by_scalar : (found : Option UnitScalar) → slice_get g.scalars x ≡ found
          → node_value m s operand (option_map_or (λ (z : UnitScalar). node.Variable z.variable) found (option_map_or (home_node told.code.slots) (slice_get homes x) (node.Home 0))) ≡ home_word s (storage_of told.code.slots (home_of h c.here.function x))
      by_scalar (Some sc) at = scalar_word x sc at
      by_scalar None at = ap (λ o. node_value m s operand (option_map_or (home_node told.code.slots) o (node.Home 0))) (home_there x lt) ∙ node_of_home operand (home_of h c.here.function x) (among x lt)

  name_read : (operand : ℕ → ℕ) (x : ℕ) → x < g.name_count → IsWord (c.here.names (home_number (home_of h c.here.function x))) (node_value m s operand (name_node naming x))
  name_read operand x lt =
      let is = name_word operand x lt ∙ home_word_here x lt in
      subst (IsWord (c.here.names (home_number (home_of h c.here.function x)))) (sym is) (stands.homes (home_of h c.here.function x) (among x lt), home_fits (home_of h c.here.function x))

  -- ---- Operands

  -- the address in a static object
  static_read : (object offset : ℕ) → object < length h.unit.statics → IsWord (static_address h.unit.statics object offset) ((get_or e.statics object 0 + offset) % 4294967296)
  static_read object offset lt =
      let o = there h.unit.statics object lt in
      (by_test o.0 o.1 (nat_le offset (static_bytes o.0)) refl, omega arith)
    where
      address : get_or e.statics object 0 ≡ stands.addresses object
      address = get_or_from_slice_get e.statics object (static_at h.unit object) 0 (tells.statics object lt) ∙ sym (stands.statics object lt)

      in_it : (o : StaticObject) → slice_get h.unit.statics object ≡ Some o → offset ≤ static_bytes o → Means stands.addresses c.memory (Pointer object (static_bytes o) offset) ((get_or e.statics object 0 + offset) % 4294967296)
      in_it o is le =
          let size = stands.sizes object o is in
          let low = lies_low stands.addresses c.memory object (static_bytes o) stands.laid size in
          let start = address in let first = low.0 in let last = low.1 in
          (size, le, omega (arith, start, first, last, le))

      by_test : (o : StaticObject) → slice_get h.unit.statics object ≡ Some o → (b : Bool) → nat_le offset (static_bytes o) ≡ b → Means stands.addresses c.memory (static_address h.unit.statics object offset) ((get_or e.statics object 0 + offset) % 4294967296)
      by_test o is b test =
          let same : static_address h.unit.statics object offset ≡ cond b (Pointer object (static_bytes o) offset) Odd = ap (λ r. option_map_or (λ (z : StaticObject). pointer_at object (static_bytes z) offset) r Odd) is ∙ ap (λ t. cond t (Pointer object (static_bytes o) offset) Odd) test in
          subst (λ v. Means stands.addresses c.memory v ((get_or e.statics object 0 + offset) % 4294967296)) (sym same) (by_answer b test)
        where
          by_answer : (b : Bool) → nat_le offset (static_bytes o) ≡ b → Means stands.addresses c.memory (cond b (Pointer object (static_bytes o) offset) Odd) ((get_or e.statics object 0 + offset) % 4294967296)
          by_answer true test = in_it o is (leb-true offset (static_bytes o) test)
          by_answer false test = tt

  -- the node of an operand comes to the word of its value over homes
  operand_read : (operand : ℕ → ℕ) (k : ℕ) (o : Operand) → slice_get m.nodes k ≡ Some (operand_node naming o) → IsOperand h.unit.statics g o → IsWord (value h.unit.statics (held_in h c.here.function c.here.names) o) (node_value m s operand (operand_node naming o))
  operand_read operand k (Name x) is lt = name_read operand x lt
  operand_read operand k (Constant w) is lt = (refl, (all_at (λ (n : Node). AllFit (node_numbers n)) m.nodes k (node.Constant w) rules.fits.nodes is).1.0)
  operand_read operand k (StaticAddress object offset) is lt = static_read object offset lt

  -- ---- Recipes

  larger : (r s n : ℕ) → 1 + max r s ≤ suc n → (r ≤ n) × (s ≤ n)
  larger r s n le = (omega (arith, le), omega (arith, le))

  -- The nodes of a recipe come to the word of its value over homes.
  pub recipe_read : (r : Recipe) (levels k : ℕ) → AreOperandsOf h.unit.statics g r → depth_of r ≤ levels → IsNodeOf m.nodes naming r k → IsWord (shown_value h c.here.function c.here.names r) (recipe_value m s levels k)
  recipe_read (Of o) zero k are deep is = absurd (omega (arith, deep))
  recipe_read (Of o) (suc levels) k are deep is =
      let same : recipe_value m s (suc levels) k ≡ node_value m s (recipe_value m s levels) (operand_node naming o) = ap (λ n. option_map_or (node_value m s (recipe_value m s levels)) n 0) is in
      subst (IsWord (shown_value h c.here.function c.here.names (Of o))) (sym same) (operand_read (recipe_value m s levels) k o is are)
  recipe_read (Truncated t r) zero k are deep is = absurd (omega (arith, deep))
  recipe_read (Truncated t r) (suc levels) k are deep is =
      let same : recipe_value m s (suc levels) k ≡ truncated t (recipe_value m s levels is.0) = ap (λ n. option_map_or (node_value m s (recipe_value m s levels)) n 0) is.1 in
      let part = recipe_read r levels is.0 are (omega (arith, deep)) is.2 in
      subst (IsWord (shown_value h c.here.function c.here.names (Truncated t r))) (sym same)
      (truncation_means stands.addresses c.memory stands.laid t (shown_value h c.here.function c.here.names r) (recipe_value m s levels is.0) part.0, truncated_fits t (recipe_value m s levels is.0))
  recipe_read (Operated o q r) zero k are deep is = absurd (omega (arith, deep))
  recipe_read (Operated o q r) (suc levels) k are deep is =
      let same : recipe_value m s (suc levels) k ≡ word_operation o (recipe_value m s levels is.0) (recipe_value m s levels is.1) = ap (λ n. option_map_or (node_value m s (recipe_value m s levels)) n 0) is.2 in
      let low = larger (depth_of q) (depth_of r) levels deep in
      let one = recipe_read q levels is.0 are.0 low.0 is.3 in
      let two = recipe_read r levels is.1 are.1 low.1 is.4 in
      subst (IsWord (shown_value h c.here.function c.here.names (Operated o q r))) (sym same) (
        operation_means stands.addresses c.memory stands.laid o (shown_value h c.here.function c.here.names q) (shown_value h c.here.function c.here.names r) (recipe_value m s levels is.0) (recipe_value m s levels is.1) one.1 two.1 one.0 two.0,
        operated_fits o (recipe_value m s levels is.0) (recipe_value m s levels is.1) one.1 two.1,
      )
