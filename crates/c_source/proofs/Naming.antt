-- The functions of an accepted program have the names of its source, and what it declares has names, elements and room.
use Rattle.std.proofs.Common.{◌≡◌, ◌≤◌, ℕ, ◌+◌, List, [], ◌∷◌, ◌++◌, length, nat_le, nat_lt, Bool, true, false, Option, Some, None, refl, ap, ◌∙◌, subst, arith}
use Rattle.std.specs.Prelude.{is_none, if◌then◌else◌}
use Rattle.std.proofs.lemmas.Bool.Decides.{nat_tests}
use Rattle.std.proofs.lemmas.List.Sums.{sum_by-cons}
use Rattle.debug_records.specs.declared.code.TheConstants.Code.{PROGRAM_WEIGHT, STATIC_OBJECTS, VISIBLE_PAIRS}
use Rattle.c_tree.specs.Statements.{BlockTree, chain_of_statements}
use Rattle.c_tree.specs.Trees.{FunctionTree, ItemTree, Include, Declares, Defines}
use Rattle.c_tree.specs.TypedStatements.{TypedStatementTrees}
use Rattle.c_tree.specs.Programs.{LiteralTree, TypedFunctionTree, ProgramTree}
use Rattle.c_type_rules.specs.Integers.{room}
use Rattle.c_type_bounds.specs.Bounds.{text_room, literal_room, objects_room, program_breach}
use Rattle.c_type_bounds.specs.Visible.{visible_pairs}
use Rattle.c_type_expressions.specs.Names.{SignatureTree}
use Rattle.c_type_declarations.specs.Progress.{ProgressTree, Met, means, next_met, opened}
use Rattle.c_type_statements.specs.Statements.{statements_met}
use Rattle.c_type.specs.Functions.{parameters_met, parameter_sizes, defined, signature_of, name_met, setting_of, function_made, rest_met}
use Rattle.c_type.specs.Items.{item_met, items_met, beginning}
use Rattle.c_type_laws.specs.Names.{is_name, functions_named, literals_have_room, HasNames}
use Rattle.c_type_laws.specs.Objects.{are_ended}
use Rattle.c_source.specs.Files.{IsItemFormed, AreItemsFormed}
use Rattle.c_source.specs.Progress.{Ensures}
use Rattle.c_source.proofs.Same.{two_true, both, all_three}
use Rattle.c_source.proofs.Judging.{le_true}
use Rattle.c_source.proofs.Programs.{Accepted, statics_stored, variables_named, literals_ended, no_breach}
use Rattle.c_source.proofs.Callees.{linked}
use Rattle.base_laws.proofs.Numbers.{rounded}

-- what is met gives functions with names
abbrev HaveTheirNames : List TypedFunctionTree → ProgressTree → Type 0
HaveTheirNames fs t = functions_named fs ≡ true

named_on : (fs gs : List TypedFunctionTree) → functions_named fs ≡ true → functions_named gs ≡ true → functions_named (fs ++ gs) ≡ true
named_on [] gs h g = g
named_on (f ∷ fs) gs h g = let c = two_true (is_name f.name) (functions_named fs) h in both (is_name f.name) (functions_named (fs ++ gs)) c.0 (named_on fs gs c.1 g)

made_named : (f : FunctionTree) (g : SignatureTree) (b : BlockTree) (start : ℕ) (m : Met TypedStatementTrees) → is_name f.name.name ≡ true → Ensures HaveTheirNames (next_met m (function_made f g b start))
unfolding next_met
made_named f g b start (means ts t) h = both (is_name f.name.name) true h refl

rest_named : (f : FunctionTree) (g : SignatureTree) (b : Option BlockTree) (q : ProgressTree) → is_name f.name.name ≡ true → Ensures HaveTheirNames (rest_met f g b q)
rest_named f g (Some b) q h = made_named f g b (length q.automatics) (statements_met (setting_of g) (chain_of_statements b.statements) (parameters_met f.parameters (opened q))) h
rest_named f g None q h = refl

item_named : (names : List (List ℕ)) (k : ℕ) (i : ItemTree) (q : ProgressTree) → IsItemFormed i → Ensures HaveTheirNames (item_met names k i q)
item_named names k (Include spot h) q formed = refl
item_named names k (Declares d) q formed = refl
item_named names k (Defines f) q formed = rest_named f (signature_of names f) f.body (name_met k f (signature_of names f) (parameter_sizes f.parameters q)) formed.2

items_named : (names : List (List ℕ)) (fs : List TypedFunctionTree) (items : List ItemTree) (q : ProgressTree) → AreItemsFormed items → functions_named fs ≡ true → Ensures HaveTheirNames (items_met names fs items q)
unfolding next_met
items_named names fs [] q formed h = h
items_named names fs (i ∷ rest) q formed h = by (item_met names (length fs) i q) (item_named names (length fs) i q formed.0) (λ gs t k. items_named names gs rest t formed.1 k)
  where
    by : (m : Met (List TypedFunctionTree)) → Ensures HaveTheirNames m → ((gs : List TypedFunctionTree) (t : ProgressTree) → functions_named gs ≡ true → Ensures HaveTheirNames (items_met names gs rest t))
        → Ensures HaveTheirNames (next_met (next_met m (λ more. means (fs ++ more))) (λ gs. items_met names gs rest))
    by (means more t) k all = all (fs ++ more) t (named_on fs more h k)

-- ---- the room of literals

no_more : (n m : ℕ) → nat_lt m n ≡ false → n ≤ m
no_more n m h = grind (arith, nat_tests)

-- a program that keeps its limits has room for its static objects
room_is : (p : ProgramTree) → is_none (program_breach p) ≡ true → objects_room p ≤ 1048576
room_is p h = by (nat_lt 40000 p.weight) (nat_lt 1048576 (objects_room p)) refl h
  where
    by : (a b : Bool) → nat_lt 1048576 (objects_room p) ≡ b
        → is_none (if a then Some PROGRAM_WEIGHT else (if b then Some STATIC_OBJECTS else (if nat_lt 1000000 (visible_pairs p) then Some VISIBLE_PAIRS else None))) ≡ true → objects_room p ≤ 1048576
    by true b e h = cc
    by false true e h = cc
    by false false e h = no_more (objects_room p) 1048576 e

enough : (n : ℕ) → n ≤ room n
enough n = rounded n

literals_room : (all : List LiteralTree) → are_ended all ≡ true → literal_room all ≤ 1048576 → literals_have_room all ≡ true
literals_room [] h fit = refl
literals_room (l ∷ all) h fit =
    let c = two_true (nat_le 1 (length l.bytes)) (are_ended all) h in
    let one = enough (length l.bytes) in
    let whole : literal_room (l ∷ all) ≡ text_room l + literal_room all = sum_by-cons text_room l all in
    all_three (nat_le 1 (length l.bytes)) (nat_le (length l.bytes) 1048576) (literals_have_room all) c.0 (le_true (length l.bytes) 1048576 (omega (arith, fit, one, whole))) (literals_room all c.1 (omega (arith, fit, whole)))

module _ (items : List ItemTree) (p : ProgramTree) (a : Accepted items p) (formed : AreItemsFormed items) where
  -- The variables and functions of the program have names, its static arrays have elements, and there is room for its literals.
  pub has_names : HasNames p
  has_names =
      let stored = statics_stored items p a formed (linked items p a formed) in
      let fits = room_is p (no_breach items p a) in
      record {
        statics = stored.2;
        automatics = variables_named items p a formed;
        functions = ap (λ z. functions_named z.functions) a.program ∙ subst (Ensures HaveTheirNames) a.is (items_named (defined items) [] items beginning formed refl);
        elements = stored.3;
        literals = literals_room p.literals (literals_ended items p a formed) (omega (arith, fits));
      }
