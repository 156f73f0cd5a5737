-- The program of an accepted source has its `main`: a function without parameters that gives an `int`.
use Rattle.std.proofs.Common.{◌≡◌, ℕ, zero, suc, ◌+◌, List, [], ◌∷◌, ◌++◌, length, slice_get, Bool, true, false, ◌&&◌, Option, Some, None, refl, sym, ap, ◌∙◌, subst, add-one}
use Rattle.std.specs.Prelude.{if◌then◌else◌, map, ◌==◌}
use Rattle.std.specs.Option.{option_map, option_map_or}
use Rattle.c_tree.specs.declared.types.IntegerType.TheVariants.{Int}
use Rattle.c_tree.specs.declared.object_type.ValueType.{ValueType}
use Rattle.c_tree.specs.declared.object_type.ValueType.TheVariants.{Integer}
use Rattle.c_tree.specs.Declarations.{ParameterTree}
use Rattle.c_tree.specs.Statements.{BlockTree}
use Rattle.c_tree.specs.Trees.{FunctionTree, ItemTree, Include, Declares, Defines}
use Rattle.c_tree.specs.TypedStatements.{TypedStatementTrees}
use Rattle.c_tree.specs.Programs.{TypedFunctionTree, ProgramTree}
use Rattle.c_type_rules.specs.Types.{same_value}
use Rattle.c_type_expressions.specs.Names.{SignatureTree}
use Rattle.c_type_declarations.specs.Progress.{ProgressTree, Met, means, next_met}
use Rattle.c_type.specs.Functions.{result_type, defined, definition_number, function_made, rest_met, signature_of, name_met, parameter_sizes}
use Rattle.c_type.specs.Items.{item_met, items_met, beginning}
use Rattle.c_type.specs.Programs.{main, is_main, is_int, has_none, main_line, main_definition, main_refusal}
use Rattle.c_type_laws.specs.Laws as law
use Rattle.c_source.specs.Progress.{Ensures}
use Rattle.c_source.proofs.Same.{both}
use Rattle.c_source.proofs.Programs.{Accepted}

-- what a definition says of its function
pub record Heading : Type 0 where
  pub result : ValueType
  pub parameters : ℕ

abbrev heading : TypedFunctionTree → Heading
heading f = record { result = f.result; parameters = f.parameters }

abbrev headings_if : FunctionTree → List Heading
headings_if f = option_map_or (λ b. record { result = result_type f.base f.stars; parameters = length f.parameters } ∷ []) f.body []

abbrev headings : List ItemTree → List Heading
headings [] = []
headings (Include spot h ∷ rest) = headings rest
headings (Declares d ∷ rest) = headings rest
headings (Defines f ∷ rest) = headings_if f ++ headings rest

abbrev headings_by : ItemTree → List Heading
headings_by (Include spot h) = []
headings_by (Declares d) = []
headings_by (Defines f) = headings_if f

one_more : (i : ItemTree) (rest : List ItemTree) → headings (i ∷ rest) ≡ headings_by i ++ headings rest
one_more (Include spot h) rest = refl
one_more (Declares d) rest = refl
one_more (Defines f) rest = refl

-- the functions of an item have its headings
abbrev Headed : List Heading → List TypedFunctionTree → ProgressTree → Type 0
Headed hs fs t = map heading fs ≡ hs

made_headed : (f : FunctionTree) (g : SignatureTree) (b : BlockTree) (start : ℕ) (m : Met TypedStatementTrees) → Ensures (Headed (record { result = g.result; parameters = length f.parameters } ∷ [])) (next_met m (function_made f g b start))
unfolding next_met
made_headed f g b start (means ts t) = refl

rest_headed : (names : List (List ℕ)) (f : FunctionTree) (b : Option BlockTree) (q : ProgressTree)
    → Ensures (Headed (option_map_or (λ b. record { result = result_type f.base f.stars; parameters = length f.parameters } ∷ []) b [])) (rest_met f (signature_of names f) b q)
rest_headed names f (Some b) q = made_headed f (signature_of names f) b (length q.automatics) _
rest_headed names f None q = refl

item_headed : (names : List (List ℕ)) (k : ℕ) (i : ItemTree) (q : ProgressTree) → Ensures (Headed (headings_by i)) (item_met names k i q)
item_headed names k (Include spot h) q = refl
item_headed names k (Declares d) q = refl
item_headed names k (Defines f) q = rest_headed names f f.body (name_met k f (signature_of names f) (parameter_sizes f.parameters q))

map_on : (fs gs : List TypedFunctionTree) → map heading (fs ++ gs) ≡ map heading fs ++ map heading gs
map_on [] gs = refl
map_on (f ∷ fs) gs = ap (λ q. heading f ∷ q) (map_on fs gs)

push_on : (xs ys zs : List Heading) → (xs ++ ys) ++ zs ≡ xs ++ (ys ++ zs)
push_on [] ys zs = refl
push_on (x ∷ xs) ys zs = ap (λ q. x ∷ q) (push_on xs ys zs)

push_none : (xs : List Heading) → xs ++ [] ≡ xs
push_none [] = refl
push_none (x ∷ xs) = ap (λ q. x ∷ q) (push_none xs)

items_headed : (names : List (List ℕ)) (fs : List TypedFunctionTree) (items : List ItemTree) (q : ProgressTree) → Ensures (Headed (map heading fs ++ headings items)) (items_met names fs items q)
unfolding next_met
items_headed names fs [] q = sym (push_none (map heading fs))
items_headed names fs (i ∷ rest) q = by (item_met names (length fs) i q) (item_headed names (length fs) i q) (λ gs t. items_headed names gs rest t)
  where
    later : (more : List TypedFunctionTree) (m : Met (List TypedFunctionTree)) → map heading more ≡ headings_by i → Ensures (Headed (map heading (fs ++ more) ++ headings rest)) m → Ensures (Headed (map heading fs ++ headings (i ∷ rest))) m
    later more (means gs u) e h =
        let here : map heading gs ≡ map heading (fs ++ more) ++ headings rest = h in
        here ∙ ap (λ z. z ++ headings rest) (map_on fs more) ∙ push_on (map heading fs) (map heading more) (headings rest) ∙ ap (λ z. map heading fs ++ (z ++ headings rest)) e ∙ ap (λ z. map heading fs ++ z) (sym (one_more i rest))

    by : (m : Met (List TypedFunctionTree)) → Ensures (Headed (headings_by i)) m → ((gs : List TypedFunctionTree) (t : ProgressTree) → Ensures (Headed (map heading gs ++ headings rest)) (items_met names gs rest t))
        → Ensures (Headed (map heading fs ++ headings (i ∷ rest))) (next_met (next_met m (λ more. means (fs ++ more))) (λ gs. items_met names gs rest))
    by (means more t) e all = later more (items_met names (fs ++ more) rest t) e (all (fs ++ more) t)

-- the heading of the definition of `main` has its number
abbrev IsMainHeading : Option Heading → Type 0
IsMainHeading None = ⊥
IsMainHeading (Some h) = (h.parameters == 0) && same_value h.result (Integer Int) ≡ true

abbrev numbered : Option ℕ → ℕ
numbered o = option_map_or (λ k. k) o 0

fine_heading : (f : FunctionTree) → main_line f ≡ None → (length f.parameters == 0) && same_value (result_type f.base f.stars) (Integer Int) ≡ true
fine_heading f h = by f.parameters (is_int (result_type f.base f.stars)) refl h
  where
    by : (ps : List ParameterTree) (b : Bool) → is_int (result_type f.base f.stars) ≡ b → (if b && has_none ps then None else Some f.name.spot.line) ≡ None → (length ps == 0) && same_value (result_type f.base f.stars) (Integer Int) ≡ true
    by [] true e h = both (0 == 0) (same_value (result_type f.base f.stars) (Integer Int)) refl e
    by [] false e h = cc
    by (d ∷ ps) true e h = cc
    by (d ∷ ps) false e h = cc

main_heading : (items : List ItemTree) (f : FunctionTree) → main_definition items ≡ Some f → main_line f ≡ None → (k : ℕ) × (definition_number main (defined items) ≡ Some k) × IsMainHeading (slice_get (headings items) k)
main_heading [] f h line = cc
main_heading (Include spot x ∷ rest) f h line = main_heading rest f h line
main_heading (Declares d ∷ rest) f h line = main_heading rest f h line
main_heading (Defines g ∷ rest) f h line = by g.body (is_main g.name.name) refl h (λ k. main_heading rest f k line)
  where
    this : Heading
    this = record { result = result_type g.base g.stars; parameters = length g.parameters }

    by : (b : Option BlockTree) (m : Bool) → is_main g.name.name ≡ m → (if option_map_or (λ x. is_main g.name.name) b false then Some g else main_definition rest) ≡ Some f
        → (main_definition rest ≡ Some f → (k : ℕ) × (definition_number main (defined rest) ≡ Some k) × IsMainHeading (slice_get (headings rest) k))
        → (k : ℕ) × (definition_number main (option_map_or (λ x. g.name.name ∷ []) b [] ++ defined rest) ≡ Some k) × IsMainHeading (slice_get (option_map_or (λ x. this ∷ []) b [] ++ headings rest) k)
    by None m e h rest_of = rest_of h
    by (Some b) true e h rest_of =
        let is : Some g ≡ Some f = ap (λ z. if z then Some g else main_definition rest) (sym e) ∙ h in
        let same : g ≡ f = cc in
        (0, ap (λ z. if z then Some 0 else option_map (λ k. k + 1) (definition_number main (defined rest))) e, fine_heading g (ap main_line same ∙ line))
    by (Some b) false e h rest_of =
        let c = rest_of (ap (λ z. if z then Some g else main_definition rest) (sym e) ∙ h) in
        (c.0 + 1, ap (λ z. if z then Some 0 else option_map (λ k. k + 1) (definition_number main (defined rest))) e ∙ ap (option_map (λ k. k + 1)) c.1, subst (λ k. IsMainHeading (slice_get (this ∷ headings rest) k)) (sym (add-one c.0)) c.2)

-- `main` is there
heading_there : (fs : List TypedFunctionTree) (k : ℕ) → IsMainHeading (slice_get (map heading fs) k) → law.is_main (slice_get fs k) ≡ true
heading_there [] k h = absurd h
heading_there (f ∷ fs) zero h = h
heading_there (f ∷ fs) (suc k) h = heading_there fs k h

none_of : {A : Type 0} (o : Option ℕ) (g : ℕ → A) → option_map g o ≡ None → o ≡ None
none_of None g h = refl
none_of (Some n) g h = cc

main_there : (items : List ItemTree) → main_refusal items (main_definition items) ≡ None → (k : ℕ) × (definition_number main (defined items) ≡ Some k) × IsMainHeading (slice_get (headings items) k)
main_there items h = by (main_definition items) refl h
  where
    by : (o : Option FunctionTree) → main_definition items ≡ o → main_refusal items o ≡ None → (k : ℕ) × (definition_number main (defined items) ≡ Some k) × IsMainHeading (slice_get (headings items) k)
    by (Some f) e h = main_heading items f e (none_of (main_line f) _ h)
    by None e h = cc

-- The program's `main` is a function without parameters that gives an `int`.
pub main_is : (items : List ItemTree) (p : ProgramTree) (a : Accepted items p) → law.is_main (slice_get p.functions p.main) ≡ true
main_is items p a =
    let c = main_there items a.main in
    let headed : map heading a.functions ≡ headings items = subst (Ensures (Headed (headings items))) a.is (items_headed (defined items) [] items beginning) in
    let at : p.main ≡ c.0 = ap (λ z. z.main) a.program ∙ ap numbered c.1 in
    ap (λ z. law.is_main (slice_get z.functions p.main)) a.program ∙ ap (λ k. law.is_main (slice_get a.functions k)) at ∙ heading_there a.functions c.0 (subst (λ hs. IsMainHeading (slice_get hs c.0)) (sym headed) c.2)
