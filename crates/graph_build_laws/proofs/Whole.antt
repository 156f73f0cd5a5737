-- The unit of a well-formed program whose functions weigh what they have is valid.
use Rattle.std.proofs.Common.{◌≡◌, ℕ, zero, suc, ◌+◌, true, Option, Some, None, List, [], ◌∷◌, length, slice_get, refl, sym, ap, ◌∙◌, subst, arith}
use Rattle.std.specs.Prelude.{◌==◌}
use Rattle.std.specs.List.{AllByRecursion}
use Rattle.c_tree.specs.declared.object_type.ValueType.TheVariants.{Integer}
use Rattle.c_tree.specs.declared.types.IntegerType.TheVariants.{Int}
use Rattle.c_tree.specs.Programs.{TypedFunctionTree, ProgramTree}
use Rattle.c_places.specs.Places.{places_of_program}
use Rattle.c_type_rules.specs.Types.{same_value}
use Rattle.c_type_laws.specs.Laws.{IsWellFormed, is_main}
use Rattle.graph_core.specs.Graphs.{Graph, UnitForm}
use Rattle.graph_core.specs.Validity.{HasParameters, AreAllDifferent, IsGraph, IsValid, markers_of}
use Rattle.graph_build.specs.Units.{IsUnitOf, graph_of, graphs_from}
use Rattle.graph_build_laws.specs.Keeping.{KeepsBounds}
use Rattle.graph_build_laws.proofs.Keeping.{keep_bounds}
use Rattle.graph_build_laws.proofs.Weighed.{weighed_in}
use Rattle.graph_build_laws.proofs.WellFormed.{and_both, laws_of}
use Rattle.graph_build_laws.proofs.Accepted.{ProgramFacts, facts_of}
use Rattle.graph_build_laws.proofs.Settings.{graph_is}
use Rattle.graph_build_laws.proofs.GraphProgramFunctions.{parameters_many, graph_valid}
use Rattle.graph_build_laws.proofs.Markers.{numbers, markers_are, once, few_places}
use Rattle.graph_build_laws.proofs.Storage.{statics_within, relocations_within}
use Rattle.base_laws.proofs.Numbers.{are_equal}
use Rattle.base_laws.proofs.Options.{some_same}

-- what holds of each element by its number holds of all
all_got : {A : Type 0} (P : A → Type 0) (all : List A) → ((k : ℕ) (a : A) → slice_get all k ≡ Some a → P a) → AllByRecursion P all
all_got P [] h = tt
all_got P (a ∷ all) h = (h 0 a refl, all_got P all (λ k b e. h (suc k) b e))

-- a graph of the unit is that of a function
function_there : (p : ProgramTree) (m : ℕ) (all : List TypedFunctionTree) (k : ℕ) (g : Graph) → slice_get (graphs_from p m all) k ≡ Some g → (f : TypedFunctionTree) × (slice_get all k ≡ Some f)
function_there p m [] k g e = cc
function_there p m (f ∷ all) zero g e = (f, refl)
function_there p m (f ∷ all) (suc k) g e = function_there p (m + 1) all k g e

module _ (p : ProgramTree) (u : UnitForm) (well : IsWellFormed p) (is : IsUnitOf p u) where
  abbrev facts : ProgramFacts p
  facts = facts_of p well

  main_takes : (o : Option TypedFunctionTree) → slice_get p.functions p.main ≡ o → is_main o ≡ true → HasParameters (slice_get u.graphs p.main) 0
  main_takes None e h = cc
  main_takes (Some f) e h =
      let none : f.parameters ≡ 0 = are_equal f.parameters 0 (and_both (f.parameters == 0) (same_value f.result (Integer Int)) h).0 in
      let many : 0 ≡ length (graph_of p f (p.main == p.main)).parameters = sym (parameters_many p u facts is f (p.main == p.main) ∙ none) in
      subst (λ g. HasParameters g 0) (sym (graph_is p u is p.main f e)) many

  one_valid : (k : ℕ) (g : Graph) → slice_get u.graphs k ≡ Some g → IsGraph u g
  one_valid k g e =
      let there = function_there p 0 p.functions k g (subst (λ (l : List Graph). slice_get l k ≡ Some g) is.graphs e) in
      let f = there.0 in
      let same : graph_of p f (k == p.main) ≡ g = some_same (sym (graph_is p u is k f there.1) ∙ e) in
      subst (λ (h : Graph). IsGraph u h) same (graph_valid p u facts is k f there.1 (subst (λ (h : Graph). KeepsBounds h) (sym same) ((keep_bounds p u well is).graphs k g e)))

  -- The unit is valid.
  pub valid : IsValid u
  valid =
      let bounds = keep_bounds p u well is in
      let laws = laws_of p well in
      let marks : markers_of u.graphs ≡ numbers (places_of_program p) (places_of_program p) = ap markers_of is.graphs ∙ markers_are p facts.ascend in
      let few = few_places p (λ k f e. (laws.functions k f e).nodes) in
      let many : length (markers_of u.graphs) ≡ length (numbers (places_of_program p) (places_of_program p)) = ap (λ (l : List ℕ). length l) marks in
      record {
        functions = bounds.functions;
        main = subst (λ m. HasParameters (slice_get u.graphs m) 0) (sym is.main) (main_takes (slice_get p.functions p.main) refl facts.main);
        instructions = bounds.instructions;
        blocks = bounds.blocks;
        markers = omega (arith, many, few, laws.weights, (weighed_in p u.room is.room laws.weight).markers);
        arguments = bounds.arguments;
        statics = statics_within p u is facts;
        relocations = relocations_within p u is facts;
        once = subst AreAllDifferent (sym marks) (once p facts.ascend);
        graphs = all_got (IsGraph u) u.graphs one_valid;
      }
