-- Places of a function's graph are places of the image that are of the function.
use Rattle.std.proofs.Common.{◌≡◌, ℕ, zero, suc, ◌+◌, inl, inr, Bool, true, false, Option, Some, None, List, [], ◌∷◌, ◌++◌, map, slice_get, refl, sym, ap, ◌∙◌, subst, arith}
use Rattle.std.specs.Prelude.{if◌then◌else◌}
use Rattle.std.specs.List.{AllByRecursion}
use Rattle.std.proofs.lemmas.Option.{none-some, same_Some}
use Rattle.c_tree.specs.TypedExpressions.{RvalueTree}
use Rattle.c_tree.specs.TypedStatements.{DeclaredTree, TypedStartTree, Nothing, Value, Declares, StepTree, TypedStatementTree, Block, Declaration, Empty, Run, If, IfElse, While, DoWhile, For, Switch, Break, Continue, Return, TypedStatementTrees, none, first, case, default}
use Rattle.c_tree.specs.Programs.{TypedFunctionTree, ProgramTree}
use Rattle.c_places.specs.Flow.{reaches_end}
use Rattle.debug_records.specs.declared.source.Spot.{Spot}
use Rattle.c_places.specs.Places.{Place, stop, brought, brought_by_start, brought_by_body, parameters_of, entry_of, close_of, places_of_declarators, places_of_start, places_of_head, places_of_step, places_of, places_of_all, places_of_function, places_of_functions, places_of_program, place_number_at}
use Rattle.graph_core.specs.Graphs as unit
use Rattle.graph_core.specs.Graphs.{Marker, Graph, UnitForm}
use Rattle.graph_core.specs.Paths.{Among}
use Rattle.graph_core.specs.Validity.{markers_in, markers_of_blocks}
use Rattle.graph_build.specs.Units.{graph_of, IsUnitOf}
use Rattle.graph_homes.specs.Owned.{IsPlaceOf}
use Rattle.image_form.specs.Form.{Form}
use Rattle.image_form.specs.Form.{numbered as numbered_place}
use Rattle.image_form.specs.declared.tables.Place.{Place as ImagePlace}
use Rattle.image_truth_units.proofs.Tables.{from_map, front_at, all_at, map_at}
use Rattle.image_truth_units.proofs.ImageUnitsWhole.{of_graph}
use Rattle.base_laws.proofs.Lists.{both_all}
use Rattle.graph_core.proofs.Among.{among_at, among_behind, among_front, marker_in}

-- ---- Lists

-- an element of a list is one of it with others before it
behind_all : {A : Type 0} (xs ys : List A) (k : ℕ) (y : A) → slice_get ys k ≡ Some y → (i : ℕ) × (slice_get (xs ++ ys) i ≡ Some y)
behind_all [] ys k y is = (k, is)
behind_all (x ∷ xs) ys k y is = let r = behind_all xs ys k y is in (suc r.0, r.1)

-- ---- Markers

marker_of_blocks : (blocks : List unit.Block) (k p : ℕ) (b : unit.Block) → slice_get blocks k ≡ Some b → Among (Marker p) b.instructions → Among p (markers_of_blocks blocks)
marker_of_blocks [] k p b is among = absurd (none-some b is)
marker_of_blocks (x ∷ more) zero p b is among = among_front (markers_in x.instructions) (markers_of_blocks more) p (marker_in x.instructions p (subst (λ (y : unit.Block). Among (Marker p) y.instructions) (sym (same_Some x b is)) among))
marker_of_blocks (x ∷ more) (suc k) p b is among = among_behind (markers_in x.instructions) (markers_of_blocks more) p (marker_of_blocks more k p b is among)

-- ---- Places

-- a place is one of a function
abbrev IsIn : (function : ℕ) → Place → Type 0
IsIn f q = q.function ≡ f

declared_in : (f : ℕ) (scope : List ℕ) (all : List DeclaredTree) → AllByRecursion (IsIn f) (places_of_declarators f scope all)
declared_in f scope [] = tt
declared_in f scope (d ∷ all) = (refl, declared_in f (scope ++ d.variable ∷ []) all)

start_in : (f : ℕ) (scope : List ℕ) (s : TypedStartTree) → AllByRecursion (IsIn f) (places_of_start f scope s)
start_in f scope Nothing = tt
start_in f scope (Value spot e) = (refl, tt)
start_in f scope (Declares all) = declared_in f scope all

head_in : (f : ℕ) (scope : List ℕ) (start : TypedStartTree) (spot : Spot) (c : Option RvalueTree) → AllByRecursion (IsIn f) (places_of_head f scope start spot c)
head_in f scope start spot None = (refl, start_in f scope start)
head_in f scope start spot (Some c) = both_all (IsIn f) (places_of_start f scope start) (stop f (scope ++ brought_by_start start) spot ∷ []) (start_in f scope start) (refl, tt)

step_in : (f : ℕ) (scope : List ℕ) (s : Option StepTree) → AllByRecursion (IsIn f) (places_of_step f scope s)
step_in f scope None = tt
step_in f scope (Some s) = (refl, tt)

mutual
  statement_in : (f : ℕ) (scope : List ℕ) (s : TypedStatementTree) → AllByRecursion (IsIn f) (places_of f scope s)
  statement_in f scope (Block all) = statements_in f scope all
  statement_in f scope (Declaration all) = declared_in f scope all
  statement_in f scope (Empty spot) = (refl, tt)
  statement_in f scope (Run spot e) = (refl, tt)
  statement_in f scope (If spot c chosen) = (refl, statement_in f scope chosen)
  statement_in f scope (IfElse spot c chosen other) = (refl, both_all (IsIn f) (places_of f scope chosen) (places_of f scope other) (statement_in f scope chosen) (statement_in f scope other))
  statement_in f scope (While spot c body) = (refl, statement_in f scope body)
  statement_in f scope (DoWhile body spot c) = both_all (IsIn f) (places_of f scope body) (stop f scope spot ∷ []) (statement_in f scope body) (refl, tt)
  statement_in f scope (For start spot c step body) =
      let inside = scope ++ brought_by_start start in
      both_all (IsIn f) (places_of_head f scope start spot c ++ places_of_step f inside step) (places_of f inside body)
      (both_all (IsIn f) (places_of_head f scope start spot c) (places_of_step f inside step) (head_in f scope start spot c) (step_in f inside step)) (statement_in f inside body)
  statement_in f scope (Switch spot e all) = (refl, statements_in f scope all)
  statement_in f scope (Break spot) = (refl, tt)
  statement_in f scope (Continue spot) = (refl, tt)
  statement_in f scope (Return spot e) = (refl, tt)

  statements_in : (f : ℕ) (scope : List ℕ) (all : TypedStatementTrees) → AllByRecursion (IsIn f) (places_of_all f scope all)
  statements_in f scope none = tt
  statements_in f scope (first s rest) = both_all (IsIn f) (places_of f scope s) (places_of_all f (scope ++ brought s) rest) (statement_in f scope s) (statements_in f (scope ++ brought s) rest)
  statements_in f scope (case value rest) = statements_in f scope rest
  statements_in f scope (default rest) = statements_in f scope rest

function_in : (f : ℕ) (tree : TypedFunctionTree) → AllByRecursion (IsIn f) (places_of_function f tree)
function_in f tree = (refl, both_all (IsIn f) (places_of_all f (parameters_of tree) tree.body) (close_of f tree) (statements_in f (parameters_of tree) tree.body) (closed (reaches_end tree.body)))
  where
    closed : (b : Bool) → AllByRecursion (IsIn f) (if b then stop f (parameters_of tree ++ brought_by_body tree.body) tree.close ∷ [] else [])
    closed true = (refl, tt)
    closed false = tt

-- a place of a function is one of the program's
program_in : (number : ℕ) (all : List TypedFunctionTree) (k j : ℕ) (tree : TypedFunctionTree) (q : Place) → slice_get all k ≡ Some tree → slice_get (places_of_function (number + k) tree) j ≡ Some q → (i : ℕ) × (slice_get (places_of_functions number all) i ≡ Some q)
program_in number [] k j tree q is at = absurd (none-some tree is)
program_in number (f ∷ all) zero j tree q is at =
    let same : number + 0 ≡ number = omega arith in
    (j, front_at (places_of_function number f) (places_of_functions (number + 1) all) j q (ap (λ n. slice_get (places_of_function n f) j) (sym same) ∙ ap (λ (x : TypedFunctionTree). slice_get (places_of_function (number + 0) x) j) (same_Some f tree is) ∙ at))
program_in number (f ∷ all) (suc k) j tree q is at =
    let same : number + suc k ≡ number + 1 + k = omega arith in
    let r = program_in (number + 1) all k j tree q is (ap (λ n. slice_get (places_of_function n tree) j) (sym same) ∙ at) in
    behind_all (places_of_function number f) (places_of_functions (number + 1) all) r.0 q r.1

-- The places of graphs are the program's places: it is asked that places are numbered in order, and that the markers of a graph are those of the places of its function.
module _ (p : ProgramTree) (u : UnitForm) (is : IsUnitOf p u) (numbered : (k : ℕ) (q : Place) → slice_get (places_of_program p) k ≡ Some q → place_number_at (places_of_program p) q.spot.at ≡ k + 1)
    (markers : (k : ℕ) (f : TypedFunctionTree) → slice_get p.functions k ≡ Some f → (is_main : Bool) → markers_of_blocks (graph_of p f is_main).blocks ≡ map (λ (q : Place). place_number_at (places_of_program p) q.spot.at) (places_of_function k f)) where
  -- one of a function's places, by its number
  own_place : (f : ℕ) (tree : TypedFunctionTree) (j place : ℕ) (q : Place) → slice_get p.functions f ≡ Some tree → slice_get (places_of_function f tree) j ≡ Some q → place ≡ place_number_at (places_of_program p) q.spot.at → (i : ℕ) × (r : Place) × (place ≡ i + 1) × (slice_get (places_of_program p) i ≡ Some r) × (r.function ≡ f)
  own_place f tree j place q there at number =
      let same : 0 + f ≡ f = omega arith in
      let i = program_in 0 p.functions f j tree q there (ap (λ n. slice_get (places_of_function n tree) j) same ∙ at) in
      (i.0, q, number ∙ numbered i.0 q i.1, i.1, all_at (IsIn f) (places_of_function f tree) j q (function_in f tree) at)

  -- A place of a graph is a place of the program, of the graph's function.
  pub place_of : (f place : ℕ) (g : Graph) → slice_get u.graphs f ≡ Some g → IsPlaceOf g place → (i : ℕ) × (r : Place) × (place ≡ i + 1) × (slice_get (places_of_program p) i ≡ Some r) × (r.function ≡ f)
  place_of f place g at of =
      let t = of_graph p 0 p.functions f g (ap (λ l. slice_get l f) (sym is.graphs) ∙ at) in
      by_kind t.0 t.1 t.2 t.3 of
    where
      by_kind : (tree : TypedFunctionTree) (b : Bool) → slice_get p.functions f ≡ Some tree → graph_of p tree b ≡ g → IsPlaceOf g place → (i : ℕ) × (r : Place) × (place ≡ i + 1) × (slice_get (places_of_program p) i ≡ Some r) × (r.function ≡ f)
      by_kind tree b there same (inl entry) = own_place f tree 0 place (entry_of f tree) there refl (entry ∙ ap (λ (x : Graph). x.entry) (sym same))
      by_kind tree b there same (inr has) =
          let listed = subst (λ l. Among place l) (ap (λ (x : Graph). markers_of_blocks x.blocks) (sym same) ∙ markers f tree there b) (marker_of_blocks g.blocks has.number place has.block has.is has.marker) in
          let k = among_at (map (λ (q : Place). place_number_at (places_of_program p) q.spot.at) (places_of_function f tree)) place listed in
          let q = from_map (λ (q : Place). place_number_at (places_of_program p) q.spot.at) (places_of_function f tree) k.0 place k.1 in
          own_place f tree k.0 place q.0 there q.1 (sym q.2)

  -- An image that has the program's places, each of its function, has those of a graph.
  pub has_place : (m : Form) → map (λ (q : ImagePlace). q.function) m.places ≡ map (λ (q : Place). q.function) (places_of_program p) → (f place : ℕ) (g : Graph) → slice_get u.graphs f ≡ Some g → IsPlaceOf g place → (q : ImagePlace) × (numbered_place m.places place ≡ Some q) × (q.function ≡ f)
  has_place m same f place g at of =
      let r = place_of f place g at of in
      let q = from_map (λ (q : ImagePlace). q.function) m.places r.0 r.1.function (ap (λ l. slice_get l r.0) same ∙ map_at (λ (q : Place). q.function) (places_of_program p) r.0 r.1 r.3) in
      let number : place ≡ suc r.0 = (let e = r.2 in omega (arith, e)) in
      (q.0, ap (numbered_place m.places) number ∙ q.1, q.2 ∙ r.4)
