-- No function of an accepted source has a declaration alone as the body of an `if`, an `else` or a loop.
use Rattle.std.proofs.Common.{◌≡◌, ℕ, List, [], ◌∷◌, ◌++◌, length, Bool, true, ◌&&◌, Option, Some, None, refl, ap, ◌∙◌, subst}
use Rattle.c_tree.specs.Statements.{BlockTree, chain_of_statements}
use Rattle.c_tree.specs.Trees.{FunctionTree, ItemTree, Include, Declares, Defines}
use Rattle.c_tree.specs.TypedStatements.{TypedStatementTrees}
use Rattle.c_tree.specs.Programs.{TypedFunctionTree, ProgramTree}
use Rattle.c_type_expressions.specs.Names.{SignatureTree}
use Rattle.c_type_declarations.specs.Progress.{ProgressTree, Met, means, next_met, opened}
use Rattle.c_type.specs.Functions.{defined, parameters_met, function_made, setting_of, rest_met, signature_of, name_met, parameter_sizes}
use Rattle.c_type.specs.Items.{item_met, items_met, beginning}
use Rattle.c_type_laws.specs.Plain.{are_plain}
use Rattle.c_source.specs.Files.{IsBodyFormed, IsItemFormed, AreItemsFormed}
use Rattle.c_source.specs.Progress.{Ensures}
use Rattle.c_source.proofs.Same.{two_true, both}
use Rattle.c_source.proofs.PlainTexts.{ArePlain, all_plain}
use Rattle.c_source.proofs.Programs.{Accepted}

-- the bodies of functions are plain
abbrev pub bodies_plain : List TypedFunctionTree → Bool
bodies_plain [] = true
bodies_plain (f ∷ more) = are_plain f.body && bodies_plain more

abbrev HavePlain : List TypedFunctionTree → ProgressTree → Type 0
HavePlain fs t = bodies_plain fs ≡ true

plain_on : (fs gs : List TypedFunctionTree) → bodies_plain fs ≡ true → bodies_plain gs ≡ true → bodies_plain (fs ++ gs) ≡ true
plain_on [] gs h g = g
plain_on (f ∷ fs) gs h g = let c = two_true (are_plain f.body) (bodies_plain fs) h in both (are_plain f.body) (bodies_plain (fs ++ gs)) c.0 (plain_on fs gs c.1 g)

made_plain : (f : FunctionTree) (g : SignatureTree) (b : BlockTree) (start : ℕ) (m : Met TypedStatementTrees) → Ensures ArePlain m → Ensures HavePlain (next_met m (function_made f g b start))
unfolding next_met
made_plain f g b start (means ts t) h = both (are_plain ts) true h refl

rest_plain : (f : FunctionTree) (g : SignatureTree) (b : Option BlockTree) (q : ProgressTree) → IsBodyFormed f.parameters b → Ensures HavePlain (rest_met f g b q)
rest_plain f g (Some b) q h = made_plain f g b (length q.automatics) _ (all_plain (setting_of g) (chain_of_statements b.statements) (parameters_met f.parameters (opened q)) h.1)
rest_plain f g None q h = refl

item_plain : (names : List (List ℕ)) (k : ℕ) (i : ItemTree) (q : ProgressTree) → IsItemFormed i → Ensures HavePlain (item_met names k i q)
item_plain names k (Include spot h) q formed = refl
item_plain names k (Declares d) q formed = refl
item_plain names k (Defines f) q formed = rest_plain f (signature_of names f) f.body (name_met k f (signature_of names f) (parameter_sizes f.parameters q)) formed.1

items_plain : (names : List (List ℕ)) (fs : List TypedFunctionTree) (items : List ItemTree) (q : ProgressTree) → AreItemsFormed items → bodies_plain fs ≡ true → Ensures HavePlain (items_met names fs items q)
unfolding next_met
items_plain names fs [] q formed h = h
items_plain names fs (i ∷ rest) q formed h = by (item_met names (length fs) i q) (item_plain names (length fs) i q formed.0) (λ gs t k. items_plain names gs rest t formed.1 k)
  where
    by : (m : Met (List TypedFunctionTree)) → Ensures HavePlain m → ((gs : List TypedFunctionTree) (t : ProgressTree) → bodies_plain gs ≡ true → Ensures HavePlain (items_met names gs rest t))
        → Ensures HavePlain (next_met (next_met m (λ more. means (fs ++ more))) (λ gs. items_met names gs rest))
    by (means more t) k all = all (fs ++ more) t (plain_on fs more h k)

-- The functions of an accepted program are plain.
pub functions_plain : (items : List ItemTree) (p : ProgramTree) (a : Accepted items p) → AreItemsFormed items → bodies_plain p.functions ≡ true
functions_plain items p a formed = ap (λ z. bodies_plain z.functions) a.program ∙ subst (Ensures HavePlain) a.is (items_plain (defined items) [] items beginning formed refl)
