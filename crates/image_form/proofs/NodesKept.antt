-- Nodes keep their rules where their rows keep their tests.
use Rattle.std.proofs.Common.{◌≡◌, ℕ, zero, suc, ◌+◌, ◌<◌, true, false, ◌&&◌, List, [], ◌∷◌, length, get_or, Some, None, refl, sym, ap, ◌∙◌, arith}
use Rattle.std.specs.Prelude.{map, slice_get, slice_index, ◌==◌, nat_le, nat_lt, if◌then◌else◌}
use Rattle.std.specs.List.{AllByRecursion, position_from}
use Rattle.std.specs.Option.{option_map}
use Rattle.std.proofs.lemmas.Bool.{eq-eqb, eqb-true, and_parts, and_from}
use Rattle.std.proofs.lemmas.Bool.Decides.{nat_tests}
use Rattle.std.proofs.lemmas.List.{length-map}
use Rattle.std.proofs.lemmas.Option.{slice_get_within, slice_get-get_or, slice_get-map, same_Some}
use Rattle.image_form.specs.declared.recipes.Node.{Node}
use Rattle.image_form.specs.declared.recipes.Node.TheVariants as node
use Rattle.word_base.specs.declared.operation.Operation.{Operation}
use Rattle.word_base.specs.declared.operation.Operation.TheVariants.{Add, Sub, Mul, Div, Divu, Rem, Remu, Sll, Srl, Sra, And, Or, Xor, Slt, Sltu}
use Rattle.word_base.specs.declared.operation.Truncation.{Truncation}
use Rattle.word_base.specs.declared.operation.Truncation.TheVariants.{Unsigned8, Signed16, Unsigned16, Signed8}
use Rattle.image_form.specs.declared.variables.ElementType.TheVariants.{U8}
use Rattle.image_form.specs.declared.variables.Storage.{Storage}
use Rattle.image_form.specs.declared.variables.Storage.TheVariants.{Static, Frame, Register, Slot}
use Rattle.image_form.specs.declared.variables.Variable.{Variable}
use Rattle.image_form.specs.Decoding.{sections_of, node_of}
use Rattle.image_form.specs.Form.{Form}
use Rattle.image_form.specs.Lists.{AreDistinct}
use Rattle.image_form.specs.Numbers.{storage_number, variable_numbers, operation_number, truncation_number, node_numbers}
use Rattle.image_form.specs.RulesOfNodes.{operands, IsHome, IsHomeNumber, NamesHome, HasDepth, NodeRules}
use Rattle.image_form_sections.specs.Sections.{cell}
use Rattle.image_form_sections.specs.TestsOfNodes.{is_shallow, is_operand, has_home, is_home_number, is_left, is_right, is_same, is_new_node, node_tests}
use Rattle.image_form_sections.specs.TestsOfTables.{within}
use Rattle.image_form.proofs.Kept.{AllTrue, row_is, at_each, map_at}
use Rattle.image_form.proofs.PlacesKept.{passed_some}
use Rattle.image_form.proofs.Positions.{position_only}
use Rattle.image_form.proofs.RecordsBack.{node_back, some_and, all_of}
use Rattle.image_form.proofs.TableLaws.{each_at, each_from}

-- An operation's number, against those of leaves and truncations.
record OperationNumber (o : Operation) : Type 0 where
  some : (operation_number o == 0) ≡ false
  no_variable : (operation_number o == 1) ≡ false
  no_home : (operation_number o == 2) ≡ false
  no_leaf : nat_lt (operation_number o) 3 ≡ false
  binary : within 3 17 (operation_number o) ≡ true
  below : nat_lt (operation_number o) 18 ≡ true
  known : nat_le (operation_number o) 21 ≡ true

operation_number_is : (o : Operation) → OperationNumber o
operation_number_is Add = record { some = refl; no_variable = refl; no_home = refl; no_leaf = refl; binary = refl; below = refl; known = refl }
operation_number_is Sub = record { some = refl; no_variable = refl; no_home = refl; no_leaf = refl; binary = refl; below = refl; known = refl }
operation_number_is Mul = record { some = refl; no_variable = refl; no_home = refl; no_leaf = refl; binary = refl; below = refl; known = refl }
operation_number_is Div = record { some = refl; no_variable = refl; no_home = refl; no_leaf = refl; binary = refl; below = refl; known = refl }
operation_number_is Divu = record { some = refl; no_variable = refl; no_home = refl; no_leaf = refl; binary = refl; below = refl; known = refl }
operation_number_is Rem = record { some = refl; no_variable = refl; no_home = refl; no_leaf = refl; binary = refl; below = refl; known = refl }
operation_number_is Remu = record { some = refl; no_variable = refl; no_home = refl; no_leaf = refl; binary = refl; below = refl; known = refl }
operation_number_is Sll = record { some = refl; no_variable = refl; no_home = refl; no_leaf = refl; binary = refl; below = refl; known = refl }
operation_number_is Srl = record { some = refl; no_variable = refl; no_home = refl; no_leaf = refl; binary = refl; below = refl; known = refl }
operation_number_is Sra = record { some = refl; no_variable = refl; no_home = refl; no_leaf = refl; binary = refl; below = refl; known = refl }
operation_number_is And = record { some = refl; no_variable = refl; no_home = refl; no_leaf = refl; binary = refl; below = refl; known = refl }
operation_number_is Or = record { some = refl; no_variable = refl; no_home = refl; no_leaf = refl; binary = refl; below = refl; known = refl }
operation_number_is Xor = record { some = refl; no_variable = refl; no_home = refl; no_leaf = refl; binary = refl; below = refl; known = refl }
operation_number_is Slt = record { some = refl; no_variable = refl; no_home = refl; no_leaf = refl; binary = refl; below = refl; known = refl }
operation_number_is Sltu = record { some = refl; no_variable = refl; no_home = refl; no_leaf = refl; binary = refl; below = refl; known = refl }

-- A truncation's number, against those of leaves and operations.
record TruncationNumber (t : Truncation) : Type 0 where
  some : (truncation_number t == 0) ≡ false
  no_variable : (truncation_number t == 1) ≡ false
  no_home : (truncation_number t == 2) ≡ false
  no_leaf : nat_lt (truncation_number t) 3 ≡ false
  unary : within 3 17 (truncation_number t) ≡ false
  above : nat_lt (truncation_number t) 18 ≡ false
  known : nat_le (truncation_number t) 21 ≡ true

truncation_number_is : (t : Truncation) → TruncationNumber t
truncation_number_is Unsigned8 = record { some = refl; no_variable = refl; no_home = refl; no_leaf = refl; unary = refl; above = refl; known = refl }
truncation_number_is Signed16 = record { some = refl; no_variable = refl; no_home = refl; no_leaf = refl; unary = refl; above = refl; known = refl }
truncation_number_is Unsigned16 = record { some = refl; no_variable = refl; no_home = refl; no_leaf = refl; unary = refl; above = refl; known = refl }
truncation_number_is Signed8 = record { some = refl; no_variable = refl; no_home = refl; no_leaf = refl; unary = refl; above = refl; known = refl }

home_sound : (s : Storage) → within 2 3 (storage_number s) ≡ true → IsHome s
home_sound (Static a) kept = absurd cc
home_sound (Frame o) kept = absurd cc
home_sound (Register r) kept = tt
home_sound (Slot o) kept = tt

home_complete : (s : Storage) → IsHome s → within 2 3 (storage_number s) ≡ true
home_complete (Static a) is = absurd is
home_complete (Frame o) is = absurd is
home_complete (Register r) is = refl
home_complete (Slot o) is = refl

number_sound : (home : ℕ) → is_home_number home ≡ true → IsHomeNumber home
unfolding is_home_number
number_sound home kept = grind (arith, nat_tests, kept)

number_complete : (home : ℕ) → IsHomeNumber home → is_home_number home ≡ true
unfolding is_home_number
number_complete home is = grind (arith, nat_tests, is)

no_variable_there : Variable
no_variable_there = record { name_length = 0; function = None; position = 0; element = U8; storage = Static 0; count = 0 }

no_node : Node
no_node = node.Constant 0

-- Nodes with the same numbers are the same.
same_nodes : (x y : Node) → is_same (node_numbers x) (node_numbers y) ≡ true → x ≡ y
same_nodes x y e =
    let outer = and_parts (slice_index (node_numbers x) 0 == slice_index (node_numbers y) 0 && slice_index (node_numbers x) 1 == slice_index (node_numbers y) 1) (slice_index (node_numbers x) 2 == slice_index (node_numbers y) 2) e in
    let inner = and_parts (slice_index (node_numbers x) 0 == slice_index (node_numbers y) 0) (slice_index (node_numbers x) 1 == slice_index (node_numbers y) 1) outer.0 in
    let e0 = eqb-true (slice_index (node_numbers x) 0) (slice_index (node_numbers y) 0) inner.0 in
    let e1 = eqb-true (slice_index (node_numbers x) 1) (slice_index (node_numbers y) 1) inner.1 in
    let e2 = eqb-true (slice_index (node_numbers x) 2) (slice_index (node_numbers y) 2) outer.1 in
    sym (node_back x) ∙ alike (node_numbers x) (node_numbers y) e0 e1 e2 ∙ node_back y
  where
    alike : (p q : List ℕ) → slice_index p 0 ≡ slice_index q 0 → slice_index p 1 ≡ slice_index q 1 → slice_index p 2 ≡ slice_index q 2 → node_of p ≡ node_of q
    alike p q e0 e1 e2 = rw (e0, e1, e2) refl

self_same : (p : List ℕ) → is_same p p ≡ true
self_same p = rw (eq-eqb (slice_index p 0) (slice_index p 0) refl, eq-eqb (slice_index p 1) (slice_index p 1) refl, eq-eqb (slice_index p 2) (slice_index p 2) refl) refl

both_of : (P Q : ℕ → Type 0) (ks : List ℕ) → AllByRecursion P ks → AllByRecursion Q ks → AllByRecursion (λ k. P k × Q k) ks
both_of P Q [] p q = tt
both_of P Q (k ∷ ks) p q = ((p.0, q.0), both_of P Q ks p.1 q.1)

module _ (f : Form) where
  abbrev pub NodesKept : Type 0
  NodesKept = (i : ℕ) → i < length f.nodes → AllTrue (node_tests (sections_of f) i)

  -- Operands are earlier nodes.
  abbrev Earlier : Type 0
  Earlier = (i : ℕ) (n : Node) → slice_get f.nodes i ≡ Some n → AllByRecursion (λ k. k < i) (operands n)

  shallow_sound : Earlier → (depth i : ℕ) → i < length f.nodes → is_shallow (map node_numbers f.nodes) depth i ≡ true → HasDepth f.nodes depth i
  shallow_sound earlier zero i there kept = absurd cc
  shallow_sound earlier (suc depth) i there kept =
      let at = slice_get-get_or f.nodes i no_node there in
      let n = get_or f.nodes i no_node in
      rw at (go n (earlier i n at) (rw (row_is node_numbers f.nodes i n at) at kept) (shallow_sound earlier depth))
    where
      go : (n : Node) → AllByRecursion (λ k. k < i) (operands n)
          → (if nat_lt (slice_index (node_numbers n) 0) 3 then true
          else (is_shallow (map node_numbers f.nodes) depth (slice_index (node_numbers n) 1) && (if nat_lt (slice_index (node_numbers n) 0) 18 then is_shallow (map node_numbers f.nodes) depth (slice_index (node_numbers n) 2) else true))) ≡ true
          → ((k : ℕ) → k < length f.nodes → is_shallow (map node_numbers f.nodes) depth k ≡ true → HasDepth f.nodes depth k)
          → AllByRecursion (HasDepth f.nodes depth) (operands n)
      go (node.Constant value) low kept below = tt
      go (node.Variable variable) low kept below = tt
      go (node.Home home) low kept below = tt
      go (node.Truncated t operand) low kept below =
          let its = truncation_number_is t in
          let k = rw (its.no_leaf, its.above) at kept in
          (below operand (omega (arith, low.0, there)) (and_parts (is_shallow (map node_numbers f.nodes) depth operand) true k).0, tt)
      go (node.Operated o left right) low kept below =
          let its = operation_number_is o in
          let k = rw (its.no_leaf, its.below) at kept in
          let parts = and_parts (is_shallow (map node_numbers f.nodes) depth left) (is_shallow (map node_numbers f.nodes) depth right) k in
          (below left (omega (arith, low.0, there)) parts.0, (below right (omega (arith, low.1.0, there)) parts.1, tt))

  shallow_complete : (depth i : ℕ) → HasDepth f.nodes depth i → is_shallow (map node_numbers f.nodes) depth i ≡ true
  shallow_complete zero i has = absurd has
  shallow_complete (suc depth) i has =
      let n = some_and (slice_get f.nodes i) _ has in
      rw (row_is node_numbers f.nodes i n.0 n.1) (go n.0 n.2 (shallow_complete depth))
    where
      go : (n : Node) → AllByRecursion (HasDepth f.nodes depth) (operands n)
          → ((k : ℕ) → HasDepth f.nodes depth k → is_shallow (map node_numbers f.nodes) depth k ≡ true)
          → (if nat_lt (slice_index (node_numbers n) 0) 3 then true
          else (is_shallow (map node_numbers f.nodes) depth (slice_index (node_numbers n) 1) && (if nat_lt (slice_index (node_numbers n) 0) 18 then is_shallow (map node_numbers f.nodes) depth (slice_index (node_numbers n) 2) else true))) ≡ true
      go (node.Constant value) deep below = refl
      go (node.Variable variable) deep below = refl
      go (node.Home home) deep below = refl
      go (node.Truncated t operand) deep below = let its = truncation_number_is t in rw (its.no_leaf, its.above, below operand deep.0) refl
      go (node.Operated o left right) deep below = let its = operation_number_is o in rw (its.no_leaf, its.below, below left deep.0, below right deep.1.0) refl

  operand_sound : (i m : ℕ) → (nat_lt m i && is_shallow (map node_numbers f.nodes) 3 m) ≡ true → (m < i) × (is_shallow (map node_numbers f.nodes) 3 m ≡ true)
  operand_sound i m k = let parts = and_parts (nat_lt m i) (is_shallow (map node_numbers f.nodes) 3 m) k in (grind (arith, nat_tests, parts.0), parts.1)

  -- What a row says of its node: the homes that it names, and its operands.
  own_sound : (i : ℕ) (n : Node) → get_or (map node_numbers f.nodes) i [] ≡ node_numbers n → is_left (sections_of f) i ≡ true → is_right (sections_of f) i ≡ true
      → NamesHome f n × AllByRecursion (λ k. (k < i) × (is_shallow (map node_numbers f.nodes) 3 k ≡ true)) (operands n)
  unfolding is_left is_right has_home is_operand
  own_sound i (node.Constant value) row left right = (tt, tt)
  own_sound i (node.Variable variable) row left right =
      let k = rw (row, length-map f.variables variable_numbers) at left in
      let parts = and_parts (nat_lt variable (length f.variables)) (within 2 3 (cell (map variable_numbers f.variables) variable 4)) k in
      let there : variable < length f.variables = grind (arith, nat_tests, parts.0) in
      let at = slice_get-get_or f.variables variable no_variable_there there in
      let v = get_or f.variables variable no_variable_there in
      let its = rw (row_is variable_numbers f.variables variable v at) at parts.1 in
      (rw at (home_sound v.storage its), tt)
  own_sound i (node.Home home) row left right = (number_sound home (rw row at left), tt)
  own_sound i (node.Truncated t operand) row left right =
      let its = truncation_number_is t in
      let k = rw (row, its.some, its.no_variable, its.no_home) at left in
      (tt, (operand_sound i operand k, tt))
  own_sound i (node.Operated o l r) row left right =
      let its = operation_number_is o in
      let k = rw (row, its.some, its.no_variable, its.no_home) at left in
      let t = rw (row, its.binary) at right in
      (tt, (operand_sound i l k, (operand_sound i r t, tt)))

  new_sound : (i : ℕ) → is_new_node (sections_of f) i ≡ true → position_from (λ q. is_same q (get_or (map node_numbers f.nodes) i [])) 0 (map node_numbers f.nodes) ≡ Some i
  unfolding is_new_node
  new_sound i kept = passed_some (position_from (λ q. is_same q (get_or (map node_numbers f.nodes) i [])) 0 (map node_numbers f.nodes)) i kept

  new_complete : AreDistinct (λ (n : Node). n) f.nodes → (i : ℕ) (n : Node) → slice_get f.nodes i ≡ Some n → is_new_node (sections_of f) i ≡ true
  unfolding is_new_node
  new_complete distinct i n at =
      let row = row_is node_numbers f.nodes i n at in
      let here : slice_get (map node_numbers f.nodes) i ≡ Some (node_numbers n) = slice_get-map node_numbers f.nodes i ∙ ap (option_map node_numbers) at in
      let none : 0 + i ≡ i = omega arith in
      let first : position_from (λ q. is_same q (node_numbers n)) 0 (map node_numbers f.nodes) ≡ Some (0 + i) =
      position_only (λ q. is_same q (node_numbers n)) 0 (map node_numbers f.nodes) i (node_numbers n) here (self_same (node_numbers n)) (λ j p at_p pass.
      let m = map_at node_numbers f.nodes j p at_p in
      distinct j i m.0 n m.1 at (same_nodes m.0 n (ap (λ (q : List ℕ). is_same q (node_numbers n)) m.2 ∙ pass))) in
      rw (row, first, none) (eq-eqb i i refl)

  pub nodes_sound : NodesKept → NodeRules f
  nodes_sound kept =
      let own = λ (i : ℕ) (n : Node) (at : slice_get f.nodes i ≡ Some n).
      let k = kept i (slice_get_within f.nodes i n at) in
      own_sound i n (row_is node_numbers f.nodes i n at) k.1.0 (and_parts (is_right (sections_of f) i) (is_new_node (sections_of f) i) k.1.1.0).0 in
      let earlier : Earlier = λ i n at. all_of (λ k both. both.0) (operands n) (own i n at).1 in
      let new = λ (i : ℕ) (n : Node) (at : slice_get f.nodes i ≡ Some n).
      new_sound i (and_parts (is_right (sections_of f) i) (is_new_node (sections_of f) i) (kept i (slice_get_within f.nodes i n at)).1.1.0).1 in
      record {
        homes = each_from (NamesHome f) f.nodes (λ i n at. (own i n at).0);
        earlier = earlier;
        shallow = at_each f.nodes (HasDepth f.nodes 4) (λ i n at.
            let there = slice_get_within f.nodes i n at in
            rw at (all_of (λ k both. shallow_sound earlier 3 k (omega (arith, both.0, there)) both.1) (operands n) (own i n at).1));
        differ = λ i j x y at_x at_y same.
            let rows : get_or (map node_numbers f.nodes) i [] ≡ get_or (map node_numbers f.nodes) j [] = row_is node_numbers f.nodes i x at_x ∙ ap node_numbers same ∙ sym (row_is node_numbers f.nodes j y at_y) in
            same_Some i j (sym (new i x at_x) ∙ ap (λ (r : List ℕ). position_from (λ q. is_same q r) 0 (map node_numbers f.nodes)) rows ∙ new j y at_y);
      }

  operand_complete : (i m : ℕ) → (m < i) × (is_shallow (map node_numbers f.nodes) 3 m ≡ true) → (nat_lt m i && is_shallow (map node_numbers f.nodes) 3 m) ≡ true
  operand_complete i m both = let lt = both.0 in and_from (nat_lt m i) (is_shallow (map node_numbers f.nodes) 3 m) (grind (arith, nat_tests, lt)) both.1

  own_complete : (i : ℕ) (n : Node) → get_or (map node_numbers f.nodes) i [] ≡ node_numbers n → NamesHome f n → AllByRecursion (λ k. (k < i) × (is_shallow (map node_numbers f.nodes) 3 k ≡ true)) (operands n)
      → (nat_le (cell (map node_numbers f.nodes) i 0) 21 ≡ true) × (is_left (sections_of f) i ≡ true) × (is_right (sections_of f) i ≡ true)
  unfolding is_left is_right has_home is_operand
  own_complete i (node.Constant value) row home deep = rw row (refl, refl, refl)
  own_complete i (node.Variable variable) row home deep =
      let v = some_and (slice_get f.variables variable) _ home in
      let there = slice_get_within f.variables variable v.0 v.1 in
      rw (row, length-map f.variables variable_numbers, row_is variable_numbers f.variables variable v.0 v.1) (
        refl,
        and_from (nat_lt variable (length f.variables)) (within 2 3 (storage_number v.0.storage)) (grind (arith, nat_tests, there)) (home_complete v.0.storage v.2),
        refl,
      )
  own_complete i (node.Home home) row is deep = rw row (refl, number_complete home is, refl)
  own_complete i (node.Truncated t operand) row home deep =
      let its = truncation_number_is t in
      rw (row, its.some, its.no_variable, its.no_home, its.unary) (its.known, operand_complete i operand deep.0, refl)
  own_complete i (node.Operated o l r) row home deep =
      let its = operation_number_is o in
      rw (row, its.some, its.no_variable, its.no_home, its.binary) (its.known, operand_complete i l deep.0, operand_complete i r deep.1.0)

  one_complete : (i : ℕ) (n : Node) → slice_get f.nodes i ≡ Some n → NodeRules f → AllTrue (node_tests (sections_of f) i)
  one_complete i n at rules =
      let has : AllByRecursion (HasDepth f.nodes 3) (operands n) = rw at at (rules.shallow i (slice_get_within f.nodes i n at)) in
      let deep = both_of (λ k. k < i) (λ k. is_shallow (map node_numbers f.nodes) 3 k ≡ true) (operands n) (rules.earlier i n at) (all_of (λ k d. shallow_complete 3 k d) (operands n) has) in
      let own = own_complete i n (row_is node_numbers f.nodes i n at) (each_at (NamesHome f) f.nodes i n rules.homes at) deep in
      (own.0, (own.1, (and_from _ _ own.2 (new_complete rules.differ i n at), tt)))

  pub nodes_complete : NodeRules f → NodesKept
  nodes_complete rules = at_each f.nodes _ (λ i n at. one_complete i n at rules)
