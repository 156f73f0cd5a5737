-- Each function of the program of an accepted source keeps the laws of a function.
use Rattle.std.proofs.Common.{◌≡◌, ◌≤◌, ℕ, zero, suc, ◌+◌, List, [], ◌∷◌, ◌++◌, length, slice_get, nat_le, Bool, true, false, ◌&&◌, Option, Some, None, refl, sym, ap, ◌∙◌, subst, arith}
use Rattle.std.proofs.lemmas.List.Sums.{sum_by-cons}
use Rattle.c_tree.specs.Declarations.{ParameterTree}
use Rattle.c_tree.specs.Statements.{BlockTree, chain_of_statements}
use Rattle.c_tree.specs.Trees.{FunctionTree, ItemTree, Include, Declares, Defines}
use Rattle.c_tree.specs.TypedStatements.{TypedStatementTrees}
use Rattle.c_tree.specs.Programs.{TypedFunctionTree, ProgramTree}
use Rattle.c_places.specs.Memory.{kept_by_all}
use Rattle.c_type_bounds.specs.Counts.{capped}
use Rattle.c_type_bounds.specs.Weights.{parameter_weight, parameters_weight, statements_weight, definition_weight}
use Rattle.c_type_bounds.specs.Bounds.{memory_room, variables_of}
use Rattle.c_type_expressions.specs.Names.{SignatureTree}
use Rattle.c_type_declarations.specs.Progress.{ProgressTree, Met, means, next_met, opened}
use Rattle.c_type.specs.Functions.{defined, parameters_met, function_made, setting_of, rest_met, signature_of, name_met, parameter_sizes}
use Rattle.c_type.specs.Items.{item_met, items_met, beginning}
use Rattle.c_type_laws.specs.Weighing.{weighed_statements}
use Rattle.c_type_laws.specs.Statements.{are_statements}
use Rattle.c_type_laws.specs.Laws.{declares_its_own, are_in_memory, keeps_limits, is_function, are_functions}
use Rattle.c_type_laws.specs.Plain.{are_plain}
use Rattle.c_source.specs.Files.{AreItemsFormed}
use Rattle.c_source.specs.Progress.{Ensures}
use Rattle.c_source.proofs.Same.{two_true, both, all_four}
use Rattle.c_source.proofs.Judging.{le_true, le_is}
use Rattle.c_source.proofs.Programs.{Accepted}
use Rattle.c_source.proofs.Functions.{function_limits, function_typed, function_kept}
use Rattle.c_source.proofs.PlainFunctions.{bodies_plain, functions_plain}
use Rattle.c_source.proofs.Callees.{linked}
use Rattle.c_source.proofs.Rooms.{function_room}
use Rattle.c_source.proofs.CountingParts.{AtMost}
use Rattle.c_source.proofs.CountingStatements.{all_few}

-- a function weighs as much as its nodes and the conversions to narrow types that were written, or more
abbrev pub IsHeavy : TypedFunctionTree → Type 0
IsHeavy f = (n : ℕ) × (f.weight ≡ capped n) × (2 + f.parameters + weighed_statements f.body ≤ n)

abbrev pub AreHeavy : List TypedFunctionTree → Type 0
AreHeavy [] = Unit {0}
AreHeavy (f ∷ fs) = IsHeavy f × AreHeavy fs

abbrev HaveHeavy : List TypedFunctionTree → ProgressTree → Type 0
HaveHeavy fs t = AreHeavy fs

heavy_on : (fs gs : List TypedFunctionTree) → AreHeavy fs → AreHeavy gs → AreHeavy (fs ++ gs)
heavy_on [] gs h g = g
heavy_on (f ∷ fs) gs h g = (h.0, heavy_on fs gs h.1 g)

parameters_weigh : (ds : List ParameterTree) → length ds ≤ parameters_weight ds
parameters_weigh [] = omega arith
parameters_weigh (d ∷ ds) =
    let h = parameters_weigh ds in
    let e : parameters_weight (d ∷ ds) ≡ parameter_weight d + parameters_weight ds = sum_by-cons parameter_weight d ds in
    omega (arith, h, e)

made_heavy : (f : FunctionTree) (g : SignatureTree) (b : BlockTree) (start : ℕ) (m : Met TypedStatementTrees) → Ensures (AtMost weighed_statements (statements_weight (chain_of_statements b.statements))) m → Ensures HaveHeavy (next_met m (function_made f g b start))
unfolding next_met
made_heavy f g b start (means ts t) h = ((definition_weight f.parameters b, refl, (let p = parameters_weigh f.parameters in omega (arith, h, p))), tt)

rest_heavy : (f : FunctionTree) (g : SignatureTree) (b : Option BlockTree) (q : ProgressTree) → Ensures HaveHeavy (rest_met f g b q)
rest_heavy f g (Some b) q = made_heavy f g b (length q.automatics) _ (all_few (setting_of g) (chain_of_statements b.statements) (parameters_met f.parameters (opened q)))
rest_heavy f g None q = tt

item_heavy : (names : List (List ℕ)) (k : ℕ) (i : ItemTree) (q : ProgressTree) → Ensures HaveHeavy (item_met names k i q)
item_heavy names k (Include spot h) q = tt
item_heavy names k (Declares d) q = tt
item_heavy names k (Defines f) q = rest_heavy f (signature_of names f) f.body (name_met k f (signature_of names f) (parameter_sizes f.parameters q))

items_heavy : (names : List (List ℕ)) (fs : List TypedFunctionTree) (items : List ItemTree) (q : ProgressTree) → AreHeavy fs → Ensures HaveHeavy (items_met names fs items q)
unfolding next_met
items_heavy names fs [] q h = h
items_heavy names fs (i ∷ rest) q h = by (item_met names (length fs) i q) (item_heavy names (length fs) i q) (λ gs t k. items_heavy names gs rest t k)
  where
    by : (m : Met (List TypedFunctionTree)) → Ensures HaveHeavy m → ((gs : List TypedFunctionTree) (t : ProgressTree) → AreHeavy gs → Ensures HaveHeavy (items_met names gs rest t))
        → Ensures HaveHeavy (next_met (next_met m (λ more. means (fs ++ more))) (λ gs. items_met names gs rest))
    by (means more t) k all = all (fs ++ more) t (heavy_on fs more h k)

heavy_at : (fs : List TypedFunctionTree) (k : ℕ) (f : TypedFunctionTree) → AreHeavy fs → slice_get fs k ≡ Some f → IsHeavy f
heavy_at [] k f h at = cc
heavy_at (g ∷ fs) zero f h at = let e : g ≡ f = cc in subst IsHeavy e h.0
heavy_at (g ∷ fs) (suc k) f h at = heavy_at fs k f h.1 at

plain_at : (fs : List TypedFunctionTree) (k : ℕ) (f : TypedFunctionTree) → bodies_plain fs ≡ true → slice_get fs k ≡ Some f → are_plain f.body ≡ true
plain_at [] k f h at = cc
plain_at (g ∷ fs) zero f h at = let e : g ≡ f = cc in subst (λ z. are_plain z.body ≡ true) e (two_true (are_plain g.body) (bodies_plain fs) h).0
plain_at (g ∷ fs) (suc k) f h at = plain_at fs k f (two_true (are_plain g.body) (bodies_plain fs) h).1 at

enough : (n weight least : ℕ) → weight ≡ capped n → least ≤ n → weight ≤ 3000 → least ≤ weight
enough n weight least e h few = omega (arith, e, h, few)

all_five : (a b c d e : Bool) → a ≡ true → b ≡ true → c ≡ true → d ≡ true → e ≡ true → a && b && c && d && e ≡ true
all_five a b c d e h g k m n = rw (h, g, k, m, n) refl

each_function : (p : ProgramTree) (fs : List TypedFunctionTree) → ((k : ℕ) (f : TypedFunctionTree) → slice_get fs k ≡ Some f → is_function p f ≡ true) → are_functions p fs ≡ true
each_function p [] h = refl
each_function p (f ∷ fs) h = both (is_function p f) (are_functions p fs) (h 0 f refl) (each_function p fs (λ k g at. h (suc k) g at))

module _ (items : List ItemTree) (p : ProgramTree) (a : Accepted items p) (formed : AreItemsFormed items) where
  -- A function weighs as much as its nodes and the conversions to narrow types that were written, or more, and keeps its limits.
  function_keeps : (k : ℕ) (f : TypedFunctionTree) → slice_get p.functions k ≡ Some f → keeps_limits p.automatics f ≡ true
  function_keeps k f at =
      let heavy = heavy_at a.functions k f (subst (Ensures HaveHeavy) a.is (items_heavy (defined items) [] items beginning tt)) (ap (λ z. slice_get z.functions k) (sym a.program) ∙ at) in
      let limits = function_limits items p a k f at in
      all_four (nat_le (2 + f.parameters + weighed_statements f.body) f.weight) (nat_le f.weight 3000) (nat_le f.parameters 8) (nat_le (memory_room (variables_of f p.automatics)) 4096)
      (le_true (2 + f.parameters + weighed_statements f.body) f.weight (enough heavy.0 f.weight (2 + f.parameters + weighed_statements f.body) heavy.1 heavy.2 (le_is f.weight 3000 limits.0))) limits.0 limits.1 (function_room items p a formed k f at)

  function_is : (k : ℕ) (f : TypedFunctionTree) → slice_get p.functions k ≡ Some f → is_function p f ≡ true
  function_is k f at =
      let typed = function_typed items p a formed (linked items p a formed) k f at in
      all_five (are_statements p f false false None f.body) (declares_its_own f) (are_in_memory p.automatics (kept_by_all f.body [])) (keeps_limits p.automatics f) (are_plain f.body) typed.0 typed.1
      (function_kept items p a formed (linked items p a formed) k f at) (function_keeps k f at) (plain_at p.functions k f (functions_plain items p a formed) at)

  -- The functions of the program keep the laws of functions.
  pub functions_are_functions : are_functions p p.functions ≡ true
  functions_are_functions = each_function p p.functions (λ k f at. function_is k f at)
