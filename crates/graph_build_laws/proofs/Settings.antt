-- The graph of a function in a program's unit, an activation that runs it, and where its places stand.
use Rattle.std.proofs.Common.{◌≡◌, ℕ, zero, suc, ◌+◌, Some, Bool, List, [], ◌∷◌, ◌++◌, length, slice_get, refl, sym, ap, ◌∙◌, subst, arith}
use Rattle.std.specs.Prelude.{◌==◌}
use Rattle.std.proofs.lemmas.List.{length-map}
use Rattle.c_tree.specs.Programs.{TypedFunctionTree, ProgramTree}
use Rattle.c_places.specs.Places.{Place, parameters_of, entry_of, close_of, places_of_all, places_of_function, places_of_program, place_number_at}
use Rattle.c_meaning_steps.specs.declared.event.Frame.{Frame}
use Rattle.graph_core.specs.Graphs.{UnitForm}
use Rattle.graph_core.specs.Memory.{Memory}
use Rattle.graph_core.specs.Runs.{Activation}
use Rattle.graph_build.specs.Units.{IsUnitOf, variables_in, scalars_among, scalar_record, is_again, block_count, function_coding, graph_of, graphs_from}
use Rattle.graph_build_laws.proofs.Ascending.{AllAscend, Among', places_within, numbered_within}
use Rattle.graph_build_laws.proofs.Instances.{got_before}
use Rattle.graph_build_laws.proofs.Standing.{got_behind}
use Rattle.graph_build_runs.proofs.Later.{some_same}
use Rattle.graph_build_runs.proofs.Activities.{Activity}
use Rattle.graph_build_runs.proofs.Calls.{activity_of}

-- the graph of the function of a number, where the first one has another number
graph_at : (p : ProgramTree) (m : ℕ) (all : List TypedFunctionTree) (k : ℕ) (f : TypedFunctionTree) → slice_get all k ≡ Some f → slice_get (graphs_from p m all) k ≡ Some (graph_of p f (m + k == p.main))
graph_at p m [] k f e = cc
graph_at p m (g ∷ all) zero f e =
    let none : m ≡ m + 0 = omega arith in
    ap (λ h. Some (graph_of p h (m == p.main))) (some_same e) ∙ ap (λ j. Some (graph_of p f (j == p.main))) none
graph_at p m (g ∷ all) (suc k) f e = let next : m + 1 + k ≡ m + suc k = omega arith in graph_at p (m + 1) all k f e ∙ ap (λ j. Some (graph_of p f (j == p.main))) next

-- The unit's graph of a function is that of its forms.
pub graph_is : (p : ProgramTree) (u : UnitForm) → IsUnitOf p u → (f : ℕ) (tree : TypedFunctionTree) → slice_get p.functions f ≡ Some tree → slice_get u.graphs f ≡ Some (graph_of p tree (f == p.main))
graph_is p u unit f tree is =
    let none : 0 + f ≡ f = omega arith in ap (λ l. slice_get l f) unit.graphs ∙ graph_at p 0 p.functions f tree is ∙ ap (λ j. Some (graph_of p tree (j == p.main))) none

-- An activation that runs the graph of a function's forms.
abbrev pub running : (p : ProgramTree) (u : UnitForm) (f : ℕ) (tree : TypedFunctionTree) (first : ℕ) → List Activation → Memory → List Frame → (left : ℕ) → Activity
running p u f tree first ws objects frames left = activity_of p u f tree (graph_of p tree (f == p.main)) (is_again p tree) (block_count p tree (f == p.main)) first ws objects frames left

-- its graph has a scalar for each variable that is one
pub scalars_counted : (p : ProgramTree) (tree : TypedFunctionTree) (is_main : Bool) → length (graph_of p tree is_main).scalars ≡ (function_coding p tree is_main).scalars
scalars_counted p tree is_main =
    let c = function_coding p tree is_main in
    let scalars = scalars_among c.names (variables_in tree) in
    length-map scalars (scalar_record p tree c.entry scalars)

-- The places of a function stand together among those of the program, each numbered by where it stands.
module _ (p : ProgramTree) (f : ℕ) (tree : TypedFunctionTree) (is : slice_get p.functions f ≡ Some tree) (ascend : AllAscend (places_of_program p)) where
  abbrev pub own : List Place
  own = places_of_function f tree

  abbrev pub behind_entry : List Place
  behind_entry = places_of_all f (parameters_of tree) tree.body ++ close_of f tree

  pub within : Among' (places_of_program p) own
  within = let none : 0 + f ≡ f = omega arith in subst (λ j. Among' (places_of_program p) (places_of_function j tree)) none (places_within 0 p.functions f tree is)

  pub place_number : (j : ℕ) (q : Place) → slice_get own j ≡ Some q → place_number_at (places_of_program p) q.spot.at ≡ length within.before + j + 1
  place_number j q e = numbered_within (places_of_program p) own ascend within j q e

  pub entry_number : place_number_at (places_of_program p) tree.spot.at ≡ length within.before + 0 + 1
  entry_number = place_number 0 (entry_of f tree) refl

  pub place_there : (j : ℕ) (q : Place) → slice_get own j ≡ Some q → slice_get (places_of_program p) (length within.before + j) ≡ Some q
  place_there j q e = subst (λ (l : List Place). slice_get l (length within.before + j) ≡ Some q) (sym within.is) (got_behind within.before (own ++ within.behind) j q (got_before own within.behind j q e))
