-- Nodes that are new are those of a recipe and its parts.
use Rattle.std.proofs.Common.{◌≡◌, ◌<◌, ◌≤◌, ◌⊎◌, ◌^◌, inl, inr, ℕ, zero, suc, List, Some, length, slice_get, refl, ap, ◌∙◌, arith}
use Rattle.std.specs.Prelude.{Result, Ok, Err, OnOk}
use Rattle.word_base.specs.declared.operation.Operation.{Operation}
use Rattle.word_base.specs.declared.operation.Truncation.{Truncation}
use Rattle.graph_core.specs.Graphs.{Operand, Recipe, Of, Truncated, Operated}
use Rattle.image_form.specs.declared.recipes.Node.{Node}
use Rattle.image_form.specs.declared.recipes.Node.TheVariants as node
use Rattle.image_build_tables.specs.Nodes.{AreNewOf, Begin, IsNodeOf, IsPartOf, Naming, operand_node}
use Rattle.image_build_tables.proofs.Growing.{begin_fewer, begin_twice, node_kept}

pub below_or : (a b : ℕ) → (a < b) ⊎ (b ≤ a)
below_or zero zero = inr (omega arith)
below_or zero (suc b) = inl (omega arith)
below_or (suc a) zero = inr (omega arith)
below_or (suc a) (suc b) = next (below_or a b)
  where
    next : (a < b) ⊎ (b ≤ a) → (suc a < suc b) ⊎ (suc b ≤ suc a)
    next (inl less) = inl (omega (arith, less))
    next (inr most) = inr (omega (arith, most))

-- what is new of an operand
pub operand_new : {E : Type 0} (old all : List Node) (n : Naming) (a : Operand) (node : Node) (result : Result ℕ E) → node ≡ operand_node n a
    → OnOk result ((k : ℕ) → length old ≤ k → k < length all → slice_get all k ≡ Some node) → OnOk result (AreNewOf old all n (Of a))
operand_new old all n a node (Err e) is fresh = tt
operand_new old all n a node (Ok result) is fresh = λ k behind within. (Of a, refl, fresh k behind within ∙ ap Some is)

-- what was new stays so, as a part of what it is a part of
kept_new : (old some all : List Node) (n : Naming) (r whole : Recipe) → Begin some all → ((part : Recipe) → IsPartOf part r → IsPartOf part whole) → AreNewOf old some n r
    → (k : ℕ) → length old ≤ k → k < length some → (part : Recipe) × IsPartOf part whole × IsNodeOf all n part k
kept_new old some all n r whole begin wider new k behind within =
    let found = new k behind within in
    (found.0, wider found.0 found.1, node_kept some all n found.0 k begin found.2)

-- those of a truncation: its own, and those of what it truncates
pub truncated_new : {E : Type 0} (old some all : List Node) (n : Naming) (t : Truncation) (r : Recipe) (j : ℕ) (result : Result ℕ E) → OnOk result (Begin some all) → (length some < 2 ^ 32 → AreNewOf old some n r)
    → (length some < 2 ^ 32 → IsNodeOf some n r j) → OnOk result ((k : ℕ) → length some ≤ k → k < length all → slice_get all k ≡ Some (node.Truncated t j)) → length all < 2 ^ 32 → OnOk result (AreNewOf old all n (Truncated t r))
truncated_new old some all n t r j (Err e) begin new is fresh few = tt
truncated_new old some all n t r j (Ok result) begin new is fresh few = λ k behind within. by k behind within (below_or k (length some))
  where
    less : length some < 2 ^ 32
    less = omega (arith, few, begin_fewer some all begin)

    by : (k : ℕ) → length old ≤ k → k < length all → (k < length some) ⊎ (length some ≤ k) → (part : Recipe) × IsPartOf part (Truncated t r) × IsNodeOf all n part k
    by k behind within (inl before) = kept_new old some all n r (Truncated t r) begin (λ part of. inr of) (new less) k behind before
    by k behind within (inr after) = (Truncated t r, inl refl, (j, fresh k after within, node_kept some all n r j begin (is less)))

-- those of an operation: its own, and those of both its parts
pub operated_new : {E : Type 0} (old first some all : List Node) (n : Naming) (o : Operation) (r s : Recipe) (i j : ℕ) (result : Result ℕ E) → Begin first some → OnOk result (Begin some all)
    → (length first < 2 ^ 32 → AreNewOf old first n r) → (length some < 2 ^ 32 → AreNewOf first some n s) → (length first < 2 ^ 32 → IsNodeOf first n r i) → (length some < 2 ^ 32 → IsNodeOf some n s j)
    → OnOk result ((k : ℕ) → length some ≤ k → k < length all → slice_get all k ≡ Some (node.Operated o i j)) → length all < 2 ^ 32 → OnOk result (AreNewOf old all n (Operated o r s))
operated_new old first some all n o r s i j (Err e) begin grown left right is_left is_right fresh few = tt
operated_new old first some all n o r s i j (Ok result) begin grown left right is_left is_right fresh few = λ k behind within. by k behind within (below_or k (length first)) (below_or k (length some))
  where
    less : length some < 2 ^ 32
    less = omega (arith, few, begin_fewer some all grown)

    least : length first < 2 ^ 32
    least = omega (arith, less, begin_fewer first some begin)

    by : (k : ℕ) → length old ≤ k → k < length all → (k < length first) ⊎ (length first ≤ k) → (k < length some) ⊎ (length some ≤ k) → (part : Recipe) × IsPartOf part (Operated o r s) × IsNodeOf all n part k
    by k behind within (inl before) other = kept_new old first all n r (Operated o r s) (begin_twice first some all begin grown) (λ part of. inr (inl of)) (left least) k behind before
    by k behind within (inr after) (inl before) = kept_new first some all n s (Operated o r s) grown (λ part of. inr (inr of)) (right less) k after before
    by k behind within (inr _) (inr after) =
        (Operated o r s, inl refl, (i, j, fresh k after within, node_kept first all n r i (begin_twice first some all begin grown) (is_left least), node_kept some all n s j grown (is_right less)))
