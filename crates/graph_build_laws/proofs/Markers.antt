-- The markers of a unit are those of its program's places, in order: no place has two, and there are no more of them than the program weighs.
use Rattle.std.proofs.Common.{◌≡◌, ◌≢◌, ℕ, suc, ◌+◌, ◌≤◌, ◌<◌, Bool, true, false, Option, Some, None, List, [], ◌∷◌, ◌++◌, length, map, reverse, slice_get, refl, sym, ap, ◌∙◌, subst, arith, if◌then◌else◌}
use Rattle.std.specs.Prelude.{◌==◌}
use Rattle.std.specs.List.{AllByRecursion}
use Rattle.std.proofs.lemmas.List.{length-append, length-map, map-append, append-nil, reverse-append}
use Rattle.c_tree.specs.TypedExpressions.{RvalueTree}
use Rattle.c_tree.specs.TypedStatements as statement
use Rattle.c_tree.specs.TypedStatements.{DeclaredTree, TypedStartTree, Nothing, Value, Declares, StepTree, TypedStatementTree, Block, Declaration, Empty, Run, If, IfElse, While, DoWhile, For, Switch, Break, Continue, Return, TypedStatementTrees, case, default}
use Rattle.debug_records.specs.declared.source.Spot.{Spot}
use Rattle.c_tree.specs.Programs.{TypedFunctionTree, ProgramTree}
use Rattle.c_places.specs.Flow.{reaches_end}
use Rattle.c_places.specs.Places.{Place, stop, brought, brought_by_start, brought_by_body, parameters_of, close_of, places_of_declarators, places_of_start, places_of_head, places_of_step, places_of, places_of_all, places_of_function, places_of_functions, places_of_program, place_number_at}
use Rattle.c_type_laws.specs.Nodes.{declared_nodes, start_nodes, option_nodes, step_nodes, statement_nodes, statements_nodes}
use Rattle.c_type_laws.specs.Laws.{weight_of}
use Rattle.graph_core.specs.Graphs as unit
use Rattle.graph_core.specs.Graphs.{Instruction, Marker, Note, Move, Operate, Truncate, Same, Address, Load, Store, Zero, CopyWords, Call, Graph}
use Rattle.graph_core.specs.Validity.{AreAllDifferent, markers_in, markers_of_blocks, markers_of}
use Rattle.graph_build.specs.Units.{function_coding, function_part, graph_of, graphs_from}
use Rattle.graph_build_laws.proofs.Blocks.{blocks_counted}
use Rattle.graph_build_laws.proofs.NamesAgain.{least_nodes}
use Rattle.graph_build_laws.proofs.Ascending.{AllAscend, numbered_in}
use Rattle.graph_build_laws.proofs.GraphMarkingFunctions.{function_heads}
use Rattle.graph_build_laws.proofs.Heads.{head_marker, heads}
use Rattle.graph_build_laws.proofs.Instances.{NoMarkers, NoneMarked, HasNone}
use Rattle.graph_build_laws.proofs.GraphMarkingStatements.{IsMadeOf, AreMadeOf}
use Rattle.graph_build_laws.proofs.Flows.{unmarked}

-- instructions that are no markers have none
none_in : (all : List Instruction) → NoMarkers all → markers_in all ≡ []
none_in [] h = refl
none_in (Marker p ∷ rest) h = let no = h.0 in cc
none_in (Note y v ∷ rest) h = none_in rest h.1
none_in (Move y a ∷ rest) h = none_in rest h.1
none_in (Operate y o a b ∷ rest) h = none_in rest h.1
none_in (Truncate y t a ∷ rest) h = none_in rest h.1
none_in (Same y a b ∷ rest) h = none_in rest h.1
none_in (Address y o ∷ rest) h = none_in rest h.1
none_in (Load y e l ∷ rest) h = none_in rest h.1
none_in (Store e l a ∷ rest) h = none_in rest h.1
none_in (Zero o k ∷ rest) h = none_in rest h.1
none_in (CopyWords o b k ∷ rest) h = none_in rest h.1
none_in (Call y f all ∷ rest) h = none_in rest h.1

none_append : (xs ys : List unit.Block) → NoneMarked xs → NoneMarked ys → NoneMarked (xs ++ ys)
none_append [] ys h k = k
none_append (x ∷ xs) ys h k = (h.0, none_append xs ys h.1 k)

none_of_blocks : (all : List unit.Block) → NoneMarked all → markers_of_blocks all ≡ []
none_of_blocks [] h = refl
none_of_blocks (b ∷ more) h = ap (λ (l : List ℕ). l ++ markers_of_blocks more) (none_in b.instructions h.0) ∙ none_of_blocks more h.1

none_reversed : (all : List unit.Block) → NoneMarked all → NoneMarked (reverse all)
none_reversed [] h = tt
none_reversed (b ∷ more) h = subst NoneMarked (sym (reverse-append (b ∷ []) more)) (none_append (reverse more) (b ∷ []) (none_reversed more h.1) (h.0, tt))

append_assoc : (xs ys zs : List ℕ) → (xs ++ ys) ++ zs ≡ xs ++ (ys ++ zs)
append_assoc [] ys zs = refl
append_assoc (x ∷ xs) ys zs = ap (λ (l : List ℕ). x ∷ l) (append_assoc xs ys zs)

pub markers_append : (xs ys : List unit.Block) → markers_of_blocks (xs ++ ys) ≡ markers_of_blocks xs ++ markers_of_blocks ys
markers_append [] ys = refl
markers_append (b ∷ xs) ys = ap (λ (l : List ℕ). markers_in b.instructions ++ l) (markers_append xs ys) ∙ sym (append_assoc (markers_in b.instructions) (markers_of_blocks xs) (markers_of_blocks ys))

-- a place's block has its own marker alone
one_marker : (inner : List unit.Block) (b : unit.Block) (more : List ℕ) → IsMadeOf HasNone inner b → markers_in b.instructions ++ more ≡ head_marker b.instructions ∷ more
one_marker inner b more m =
    subst (λ (l : List Instruction). markers_in l ++ more ≡ head_marker l ∷ more) (sym m.instructions) (ap (λ (l : List ℕ). m.place ∷ (l ++ more)) (none_in m.made.ops m.has.0))

heads_are : (inner all : List unit.Block) → AreMadeOf HasNone inner all → markers_of_blocks all ≡ heads all
heads_are inner [] h = refl
heads_are inner (b ∷ more) h = one_marker inner b (markers_of_blocks more) h.0 ∙ ap (λ (l : List ℕ). head_marker b.instructions ∷ l) (heads_are inner more h.1)

-- the numbers of places
abbrev pub numbers : List Place → List Place → List ℕ
numbers all own = map (λ (q : Place). place_number_at all q.spot.at) own

-- The markers of a function's graph are the numbers of its places.
pub graph_markers : (p : ProgramTree) (k : ℕ) (f : TypedFunctionTree) → slice_get p.functions k ≡ Some f → (is_main : Bool) → AllAscend (places_of_program p) → markers_of_blocks (graph_of p f is_main).blocks ≡ numbers (places_of_program p) (places_of_function k f)
graph_markers p k f is is_main ascend =
    let c = function_coding p f is_main in
    let part = function_part c f is_main in
    let none = unmarked p k f is is_main ascend (λ a b. Unit {0}) (λ e a. tt) (blocks_counted p f is_main) in
    markers_append part.placed (reverse part.inner) ∙ ap (λ (l : List ℕ). markers_of_blocks part.placed ++ l) (none_of_blocks (reverse part.inner) (none_reversed part.inner none.0)) ∙ append-nil (markers_of_blocks part.placed)
    ∙ heads_are part.inner part.placed none.1 ∙ function_heads c k f is_main

-- those of graphs
graphs_markers : (p : ProgramTree) (m : ℕ) (all : List TypedFunctionTree) → ((k : ℕ) (f : TypedFunctionTree) → slice_get all k ≡ Some f → slice_get p.functions (m + k) ≡ Some f) → AllAscend (places_of_program p) → markers_of (graphs_from p m all) ≡ numbers (places_of_program p) (places_of_functions m all)
graphs_markers p m [] h ascend = refl
graphs_markers p m (f ∷ all) h ascend =
    let places = places_of_program p in
    let none : m + 0 ≡ m = omega arith in
    let here = graph_markers p m f (subst (λ k. slice_get p.functions k ≡ Some f) none (h 0 f refl)) (m == p.main) ascend in
    let later = graphs_markers p (m + 1) all (λ k g e. subst (λ j. slice_get p.functions j ≡ Some g) (one m k) (h (suc k) g e)) ascend in
    ap (λ (l : List ℕ). l ++ markers_of (graphs_from p (m + 1) all)) here ∙ ap (λ (l : List ℕ). numbers places (places_of_function m f) ++ l) later ∙ sym (map-append (λ (q : Place). place_number_at places q.spot.at) (places_of_function m f) (places_of_functions (m + 1) all))
  where
    one : (m k : ℕ) → m + suc k ≡ m + 1 + k
    one m k = omega arith

-- The markers of a program's graphs are the numbers of its places.
pub markers_are : (p : ProgramTree) → AllAscend (places_of_program p) → markers_of (graphs_from p 0 p.functions) ≡ numbers (places_of_program p) (places_of_program p)
markers_are p ascend = graphs_markers p 0 p.functions (λ k f e. subst (λ j. slice_get p.functions j ≡ Some f) (none k) e) ascend
  where
    none : (k : ℕ) → k ≡ 0 + k
    none k = omega arith

-- numbers that ascend are different
abbrev rise : (from : ℕ) (all : List ℕ) → Type 0
rise from [] = Unit {0}
rise from (n ∷ more) = (n ≡ from) × rise (from + 1) more

all_above : (from low : ℕ) (all : List ℕ) → rise from all → low < from → AllByRecursion (λ q. low ≢ q) all
all_above from low [] h lt = tt
all_above from low (n ∷ more) h lt = ((λ e. absurd (omega (arith, h.0, lt, e))), all_above (from + 1) low more h.1 (omega (arith, lt)))

different : (from : ℕ) (all : List ℕ) → rise from all → AreAllDifferent all
different from [] h = tt
different from (n ∷ more) h = (all_above (from + 1) n more h.1 (omega (arith, h.0)), different (from + 1) more h.1)

numbers_rise : (all own : List Place) (from : ℕ) → ((k : ℕ) (q : Place) → slice_get own k ≡ Some q → place_number_at all q.spot.at ≡ from + k) → rise from (numbers all own)
numbers_rise all [] from h = tt
numbers_rise all (q ∷ own) from h =
    let none : from + 0 ≡ from = omega arith in (h 0 q refl ∙ none, numbers_rise all own (from + 1) (λ k r e. h (suc k) r e ∙ one from k))
  where
    one : (from k : ℕ) → from + suc k ≡ from + 1 + k
    one from k = omega arith

-- No place has two markers.
pub once : (p : ProgramTree) → AllAscend (places_of_program p) → AreAllDifferent (numbers (places_of_program p) (places_of_program p))
once p ascend =
    let places = places_of_program p in different 1 (numbers places places) (numbers_rise places places 1 (λ k q e. numbered_in places ascend k q e ∙ swapped k))
  where
    swapped : (k : ℕ) → k + 1 ≡ 1 + k
    swapped k = omega arith

-- a function has no more places than it weighs
declared_places : (number : ℕ) (scope : List ℕ) (all : List DeclaredTree) → length (places_of_declarators number scope all) ≤ declared_nodes all
declared_places number scope [] = omega arith
declared_places number scope (d ∷ more) = omega (arith, declared_places number (scope ++ d.variable ∷ []) more)

start_places : (number : ℕ) (scope : List ℕ) (begin : TypedStartTree) → length (places_of_start number scope begin) ≤ start_nodes begin
start_places number scope Nothing = omega arith
start_places number scope (Value spot e) = omega (arith, least_nodes e)
start_places number scope (Declares all) = declared_places number scope all

head_places : (number : ℕ) (scope : List ℕ) (begin : TypedStartTree) (spot : Spot) (e : Option RvalueTree) → length (places_of_head number scope begin spot e) ≤ start_nodes begin + option_nodes e + 1
head_places number scope begin spot None = omega (arith, start_places number scope begin)
head_places number scope begin spot (Some e) =
    omega (arith, start_places number scope begin, length-append (places_of_start number scope begin) (stop number (scope ++ brought_by_start begin) spot ∷ []))

step_places : (number : ℕ) (scope : List ℕ) (step : Option StepTree) → length (places_of_step number scope step) ≤ step_nodes step
step_places number scope None = omega arith
step_places number scope (Some s) = omega (arith, least_nodes s.value)

mutual
  statement_places : (number : ℕ) (scope : List ℕ) (s : TypedStatementTree) → length (places_of number scope s) ≤ statement_nodes s
  statement_places number scope (Block all) = omega (arith, statements_places number scope all)
  statement_places number scope (Declaration all) = declared_places number scope all
  statement_places number scope (Empty spot) = omega arith
  statement_places number scope (Run spot e) = omega arith
  statement_places number scope (If spot e s) = omega (arith, statement_places number scope s)
  statement_places number scope (IfElse spot e s r) = omega (arith, length-append (places_of number scope s) (places_of number scope r), statement_places number scope s, statement_places number scope r)
  statement_places number scope (While spot e s) = omega (arith, statement_places number scope s)
  statement_places number scope (DoWhile s spot e) = omega (arith, length-append (places_of number scope s) (stop number scope spot ∷ []), statement_places number scope s)
  statement_places number scope (For begin spot e step s) = (
      let inside = scope ++ brought_by_start begin in
      let head = places_of_head number scope begin spot e in
      let round = places_of_step number inside step in
      let body = places_of number inside s in
      omega (arith, length-append (head ++ round) body, length-append head round, head_places number scope begin spot e, step_places number inside step, statement_places number inside s))
  statement_places number scope (Switch spot e all) = omega (arith, statements_places number scope all)
  statement_places number scope (Break spot) = omega arith
  statement_places number scope (Continue spot) = omega arith
  statement_places number scope (Return spot e) = omega arith

  statements_places : (number : ℕ) (scope : List ℕ) (all : TypedStatementTrees) → length (places_of_all number scope all) ≤ statements_nodes all
  statements_places number scope statement.none = omega arith
  statements_places number scope (statement.first s rest) = omega (arith, length-append (places_of number scope s) (places_of_all number (scope ++ brought s) rest), statement_places number scope s, statements_places number (scope ++ brought s) rest)
  statements_places number scope (case z rest) = omega (arith, statements_places number scope rest)
  statements_places number scope (default rest) = omega (arith, statements_places number scope rest)

close_places : (number : ℕ) (f : TypedFunctionTree) → length (close_of number f) ≤ 1
close_places number f = go (reaches_end f.body)
  where
    go : (b : Bool) → length (if b then stop number (parameters_of f ++ brought_by_body f.body) f.close ∷ [] else []) ≤ 1
    go true = omega arith
    go false = omega arith

function_places : (number : ℕ) (f : TypedFunctionTree) → length (places_of_function number f) ≤ 2 + statements_nodes f.body
function_places number f =
    let body = places_of_all number (parameters_of f) f.body in omega (arith, length-append body (close_of number f), statements_places number (parameters_of f) f.body, close_places number f)

functions_places : (number : ℕ) (all : List TypedFunctionTree) → ((k : ℕ) (f : TypedFunctionTree) → slice_get all k ≡ Some f → 2 + f.parameters + statements_nodes f.body ≤ f.weight) → length (places_of_functions number all) ≤ weight_of all
functions_places number [] h = omega arith
functions_places number (f ∷ all) h =
    omega (arith, length-append (places_of_function number f) (places_of_functions (number + 1) all), function_places number f, h 0 f refl, functions_places (number + 1) all (λ k g e. h (suc k) g e))

-- A program has no more places than its functions weigh.
pub few_places : (p : ProgramTree) → ((k : ℕ) (f : TypedFunctionTree) → slice_get p.functions k ≡ Some f → 2 + f.parameters + statements_nodes f.body ≤ f.weight) → length (numbers (places_of_program p) (places_of_program p)) ≤ weight_of p.functions
few_places p h = omega (arith, length-map (places_of_program p) (λ (q : Place). place_number_at (places_of_program p) q.spot.at), functions_places 0 p.functions h)
