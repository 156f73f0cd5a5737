-- The functions of a program weigh no more than the program.
use Rattle.std.proofs.Common.{◌≡◌, ◌≤◌, ℕ, ◌+◌, List, [], ◌∷◌, ◌++◌, length, nat_le, nat_lt, Bool, true, false, Option, Some, None, refl, ap, subst, arith}
use Rattle.std.specs.Prelude.{if◌then◌else◌}
use Rattle.std.proofs.lemmas.List.Sums.{sum_by-cons}
use Rattle.debug_records.specs.declared.code.Code.{Code}
use Rattle.debug_records.specs.declared.code.TheConstants.Code.{PROGRAM_WEIGHT}
use Rattle.c_tree.specs.Statements.{BlockTree}
use Rattle.c_tree.specs.Trees.{FunctionTree, ItemTree, Include, Declares, Defines}
use Rattle.c_tree.specs.TypedStatements.{TypedStatementTrees}
use Rattle.c_tree.specs.Programs.{TypedFunctionTree, ProgramTree}
use Rattle.c_type_expressions.specs.Names.{SignatureTree}
use Rattle.c_type_bounds.specs.Counts.{capped}
use Rattle.c_type_bounds.specs.Weights.{definition_weight, function_weight, item_weight, items_weight}
use Rattle.c_type_bounds.specs.Bounds.{program_breach}
use Rattle.c_type_declarations.specs.Progress.{ProgressTree, Met, means, next_met}
use Rattle.c_type.specs.Functions.{defined, function_made, rest_met, signature_of, name_met, parameter_sizes}
use Rattle.c_type.specs.Items.{item_met, items_met, beginning}
use Rattle.c_type_laws.specs.Laws.{weight_of}
use Rattle.c_source.specs.Progress.{Ensures}
use Rattle.c_source.proofs.Judging.{le_true}
use Rattle.c_source.proofs.Programs.{Accepted}
use Rattle.base_laws.proofs.Numbers.{not_less as not_more}

-- functions that weigh so much at most
abbrev Weigh : ℕ → List TypedFunctionTree → ProgressTree → Type 0
Weigh n fs t = weight_of fs ≤ n

made_weighs : (f : FunctionTree) (g : SignatureTree) (b : BlockTree) (start : ℕ) (m : Met TypedStatementTrees) → Ensures (Weigh (definition_weight f.parameters b)) (next_met m (function_made f g b start))
unfolding next_met
made_weighs f g b start (means ts t) = omega arith

rest_weighs : (f : FunctionTree) (g : SignatureTree) (b : Option BlockTree) (q : ProgressTree) → Ensures (Weigh (function_weight f.parameters b)) (rest_met f g b q)
rest_weighs f g (Some b) q = made_weighs f g b (length q.automatics) _
rest_weighs f g None q = omega arith

item_weighs : (names : List (List ℕ)) (k : ℕ) (i : ItemTree) (q : ProgressTree) → Ensures (Weigh (item_weight i)) (item_met names k i q)
item_weighs names k (Include spot h) q = omega arith
item_weighs names k (Declares d) q = omega arith
item_weighs names k (Defines f) q = rest_weighs f (signature_of names f) f.body (name_met k f (signature_of names f) (parameter_sizes f.parameters q))

weight_on : (fs gs : List TypedFunctionTree) → weight_of (fs ++ gs) ≡ weight_of fs + weight_of gs
weight_on [] gs = omega arith
weight_on (f ∷ fs) gs = let e = weight_on fs gs in omega arith

items_weigh : (names : List (List ℕ)) (fs : List TypedFunctionTree) (items : List ItemTree) (q : ProgressTree) → Ensures (Weigh (weight_of fs + items_weight items)) (items_met names fs items q)
unfolding next_met
items_weigh names fs [] q = omega arith
items_weigh names fs (i ∷ rest) q = by (item_met names (length fs) i q) (item_weighs names (length fs) i q) (λ gs t. items_weigh names gs rest t)
  where
    later : (more : List TypedFunctionTree) (m : Met (List TypedFunctionTree)) → weight_of more ≤ item_weight i → Ensures (Weigh (weight_of (fs ++ more) + items_weight rest)) m → Ensures (Weigh (weight_of fs + items_weight (i ∷ rest))) m
    later more (means gs u) le h =
        let k : weight_of gs ≤ weight_of (fs ++ more) + items_weight rest = h in
        let e = weight_on fs more in
        let sum : items_weight (i ∷ rest) ≡ item_weight i + items_weight rest = sum_by-cons item_weight i rest in
        omega (arith, le, k, e, sum)

    by : (m : Met (List TypedFunctionTree)) → Ensures (Weigh (item_weight i)) m → ((gs : List TypedFunctionTree) (t : ProgressTree) → Ensures (Weigh (weight_of gs + items_weight rest)) (items_met names gs rest t))
        → Ensures (Weigh (weight_of fs + items_weight (i ∷ rest))) (next_met (next_met m (λ more. means (fs ++ more))) (λ gs. items_met names gs rest))
    by (means more t) le all = later more (items_met names (fs ++ more) rest t) le (all (fs ++ more) t)

first_none : (b : Bool) (o : Option Code) → (if b then Some PROGRAM_WEIGHT else o) ≡ None → b ≡ false
first_none true o h = cc
first_none false o h = refl

light : (p : ProgramTree) → program_breach p ≡ None → p.weight ≤ 40000
light p h = not_more 40000 p.weight (first_none (nat_lt 40000 p.weight) _ h)

-- The functions weigh no more than the program.
pub functions_weigh : (items : List ItemTree) (p : ProgramTree) (a : Accepted items p) → nat_le (weight_of p.functions) p.weight ≡ true
functions_weigh items p a =
    let all : weight_of a.functions ≤ items_weight items = let h = subst (Ensures (Weigh (0 + items_weight items))) a.is (items_weigh (defined items) [] items beginning) in omega (arith, h) in
    let is : p.weight ≡ capped (items_weight items) = ap (λ z. z.weight) a.program in
    let few = light p a.breach in
    le_true (weight_of p.functions) p.weight (let same : weight_of p.functions ≡ weight_of a.functions = ap (λ z. weight_of z.functions) a.program in omega (arith, all, few))
