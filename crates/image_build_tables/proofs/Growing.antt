-- Nodes to which others come stay what they are.
use Rattle.std.proofs.Common.{◌≡◌, ◌<◌, ◌≤◌, ◌+◌, ℕ, List, [], ◌∷◌, ◌++◌, Some, length, length-append, map, slice_get, zero, suc, refl, subst, sym, ap, ◌∙◌, append_assoc, append-nil, arith}
use Rattle.std.specs.Prelude.{◌^◌, IfOk, OnOk, Result, Ok, Err}
use Rattle.word_base.specs.declared.operation.Operation.{Operation}
use Rattle.word_base.specs.declared.operation.Truncation.{Truncation}
use Rattle.graph_core.specs.Graphs.{Recipe, Of, Truncated, Operated}
use Rattle.rv_emit_tables.specs.declared.emitted.EmittedFunction.{EmittedFunction}
use Rattle.rv_emit_tables.specs.Emitted.{function_view, FunctionCode}
use Rattle.image_form.specs.declared.recipes.Node.{Node}
use Rattle.image_form.specs.declared.recipes.Node.TheVariants as node
use Rattle.image_build_tables.specs.Nodes.{Naming, IsNodeOf, Begin}

-- an element of a list is that of a longer one
get_longer : {A : Type 0} (all more : List A) (k : ℕ) (a : A) → slice_get all k ≡ Some a → slice_get (all ++ more) k ≡ Some a
get_longer [] more k a is = cc
get_longer (b ∷ all) more zero a is = is
get_longer (b ∷ all) more (suc k) a is = get_longer all more k a is

-- the node of a recipe stays its node
node_longer : (nodes more : List Node) (n : Naming) (r : Recipe) (k : ℕ) → IsNodeOf nodes n r k → IsNodeOf (nodes ++ more) n r k
node_longer nodes more n (Of a) k is = get_longer nodes more k _ is
node_longer nodes more n (Truncated t r) k (j, is, of) = (j, get_longer nodes more k _ is, node_longer nodes more n r j of)
node_longer nodes more n (Operated o r s) k (i, j, is, left, right) = (i, j, get_longer nodes more k _ is, node_longer nodes more n r i left, node_longer nodes more n s j right)

pub node_kept : (nodes all : List Node) (n : Naming) (r : Recipe) (k : ℕ) → Begin nodes all → IsNodeOf nodes n r k → IsNodeOf all n r k
node_kept nodes all n r k begin is = subst (λ (l : List Node). IsNodeOf l n r k) (sym begin.1) (node_longer nodes begin.0 n r k is)

-- nodes begin what they begin that they begin
pub begin_twice : (nodes some all : List Node) → Begin nodes some → Begin some all → Begin nodes all
begin_twice nodes some all one other = (one.0 ++ other.0, other.1 ∙ ap (λ l. l ++ other.0) one.1 ∙ append_assoc nodes one.0 other.0)

pub begin_itself : (nodes : List Node) → Begin nodes nodes
begin_itself nodes = ([], sym (append-nil nodes))

-- they are no more
pub begin_fewer : (nodes all : List Node) → Begin nodes all → length nodes ≤ length all
begin_fewer nodes all begin = let e : length all ≡ length nodes + length begin.0 = ap length begin.1 ∙ length-append nodes begin.0 in omega (arith, e)

-- where the codes that are seen begin
pub firsts_seen : (codes : List EmittedFunction) → map (λ (c : EmittedFunction). c.first) codes ≡ map (λ (f : FunctionCode). f.first) (map function_view codes)
firsts_seen [] = refl
firsts_seen (c ∷ codes) = ap (λ l. c.first ∷ l) (firsts_seen codes)

-- what a node is told to be behind others, it is: the truncation of a recipe's
pub truncated_node : {E : Type 0} (some all : List Node) (n : Naming) (t : Truncation) (r : Recipe) (j : ℕ) (result : Result ℕ E) → OnOk result (Begin some all) → (length some < 2 ^ 32 → IsNodeOf some n r j)
    → (length all < 2 ^ 32 → IfOk result (λ k. slice_get all k ≡ Some (node.Truncated t j))) → length all < 2 ^ 32 → IfOk result (λ k. IsNodeOf all n (Truncated t r) k)
truncated_node some all n t r j (Err e) grown of told few = tt
truncated_node some all n t r j (Ok k) grown of told few = (j, told few, node_kept some all n r j grown (of (omega (arith, few, begin_fewer some all grown))))

-- an operation on two
pub operated_node : {E : Type 0} (first some all : List Node) (n : Naming) (o : Operation) (r s : Recipe) (i j : ℕ) (result : Result ℕ E) → Begin first some → OnOk result (Begin some all)
    → (length first < 2 ^ 32 → IsNodeOf first n r i) → (length some < 2 ^ 32 → IsNodeOf some n s j)
    → (length all < 2 ^ 32 → IfOk result (λ k. slice_get all k ≡ Some (node.Operated o i j))) → length all < 2 ^ 32 → IfOk result (λ k. IsNodeOf all n (Operated o r s) k)
operated_node first some all n o r s i j (Err e) begin grown left right told few = tt
operated_node first some all n o r s i j (Ok k) begin grown left right told few =
    let fewer = begin_fewer some all grown in
    let least = begin_fewer first some begin in
    (i, j, told few, node_kept first all n r i (begin_twice first some all begin grown) (left (omega (arith, few, fewer, least))), node_kept some all n s j grown (right (omega (arith, few, fewer))))
