-- The graphs of a well-formed program keep the weights of its functions, and the bounds of valid units.
use Rattle.std.proofs.Common.{◌≡◌, ℕ, zero, suc, ◌+◌, ◌*◌, ◌≤◌, Bool, Some, List, [], ◌∷◌, length, slice_get, refl, sym, ap, ◌∙◌, subst, arith, ◌==◌}
use Rattle.std.proofs.lemmas.List.{length-map}
use Rattle.c_tree.specs.Programs.{TypedFunctionTree, ProgramTree}
use Rattle.c_places.specs.Places.{numbers_from, parameters_of}
use Rattle.c_type_laws.specs.Laws.{IsWellFormed, weight_of}
use Rattle.graph_core.specs.Graphs.{Graph, UnitForm}
use Rattle.graph_core.specs.Validity.{instructions_of, arguments_of, total}
use Rattle.graph_build_laws.specs.Keeping.{KeepsWeight, KeepWeights, KeepsBounds, KeepBounds}
use Rattle.graph_build.specs.Units.{IsUnitOf, graphs_from, graph_of, binding_of, function_coding, scalars_among, variables_in, scalar_record, names_used}
use Rattle.graph_build_laws.proofs.Statements.{statements_more}
use Rattle.graph_build_laws.proofs.Functions.{instructions_within}
use Rattle.graph_build_laws.proofs.Blocks.{blocks_within}
use Rattle.graph_build_laws.proofs.Weighed.{weighed_in}
use Rattle.graph_build_laws.proofs.WellFormed.{KeepsLimits, KeepsLaws, laws_of}
use Rattle.graph_build_laws.proofs.Names.{names_within}
use Rattle.graph_build_laws.proofs.FunctionArguments.{arguments_within}
use Rattle.base_laws.proofs.Options.{none_is, some_same}

-- a graph is that of the function of its number
pub record OfFunction (p : ProgramTree) (all : List TypedFunctionTree) (k : ℕ) (g : Graph) : Type 0 where
  pub function : TypedFunctionTree
  pub is_main : Bool
  pub is : slice_get all k ≡ Some function
  pub same : graph_of p function is_main ≡ g

of_function : (p : ProgramTree) (m : ℕ) (all : List TypedFunctionTree) (k : ℕ) (g : Graph) → slice_get (graphs_from p m all) k ≡ Some g → OfFunction p all k g
of_function p m [] k g e = absurd (none_is e)
of_function p m (f ∷ all) zero g e = record { function = f; is_main = m == p.main; is = refl; same = some_same e }
of_function p m (f ∷ all) (suc k) g e = let x = of_function p (m + 1) all k g e in record { function = x.function; is_main = x.is_main; is = x.is; same = x.same }

graphs_length : (p : ProgramTree) (m : ℕ) (all : List TypedFunctionTree) → length (graphs_from p m all) ≡ length all
graphs_length p m [] = refl
graphs_length p m (f ∷ all) = ap suc (graphs_length p (m + 1) all)

-- a function's graph
keeps_weight : (p : ProgramTree) (f : TypedFunctionTree) (is_main : Bool) → KeepsLimits f → KeepsWeight f (graph_of p f is_main)
keeps_weight p f is_main h = record {
  instructions = instructions_within p f is_main h.weighed;
  names = names_within p f is_main h;
  blocks = blocks_within p f is_main h.nodes;
}

pub keep_weights : (p : ProgramTree) (u : UnitForm) → IsWellFormed p → IsUnitOf p u → KeepWeights p u
keep_weights p u h is k f g at at_graph =
    let laws = laws_of p h in
    let x = of_function p 0 p.functions k g (subst (λ (l : List Graph). slice_get l k ≡ Some g) is.graphs at_graph) in
    let same : x.function ≡ f = some_same (sym x.is ∙ at) in
    subst (λ (h : Graph). KeepsWeight f h) (subst (λ (d : TypedFunctionTree). graph_of p d x.is_main ≡ g) same x.same) (keeps_weight p f x.is_main (laws.functions k f at))

-- sums over the graphs
sums : (p : ProgramTree) (m : ℕ) (all : List TypedFunctionTree) → ((k : ℕ) (f : TypedFunctionTree) → slice_get all k ≡ Some f → KeepsLimits f) →
    (total instructions_of (graphs_from p m all) ≤ 2 * weight_of all) × (total (λ (g : Graph). length g.blocks) (graphs_from p m all) ≤ 3 * weight_of all) × (total arguments_of (graphs_from p m all) ≤ weight_of all)
sums p m [] h = (omega arith, omega arith, omega arith)
sums p m (f ∷ all) h =
    let here = h 0 f refl in
    let x = keeps_weight p f (m == p.main) here in
    let later = sums p (m + 1) all (λ k g e. h (suc k) g e) in
    (omega (arith, x.instructions, later.0), omega (arith, x.blocks, later.1), omega (arith, arguments_within p f (m == p.main) here.nodes, later.2))

numbers_length : (least count : ℕ) → length (numbers_from least count) ≡ count
numbers_length least zero = refl
numbers_length least (suc count) = ap suc (numbers_length (least + 1) count)

keeps_bounds : (p : ProgramTree) (f : TypedFunctionTree) (is_main : Bool) → KeepsLimits f → KeepsBounds (graph_of p f is_main)
keeps_bounds p f is_main h =
    let x = keeps_weight p f is_main h in
    let c = function_coding p f is_main in
    let scalars = scalars_among c.names (variables_in f) in record {
      instructions = omega (arith, x.instructions, h.weight);
      names = omega (arith, x.names, h.weight);
      scalars = omega (arith, length-map scalars (scalar_record p f c.entry scalars), statements_more c f.body c.scalars);
      temporaries = omega arith;
      parameters = omega (arith, length-map (parameters_of f) (binding_of c.names), numbers_length f.first_variable f.parameters, h.parameters);
    }

pub keep_bounds : (p : ProgramTree) (u : UnitForm) → IsWellFormed p → IsUnitOf p u → KeepBounds u
keep_bounds p u h is =
    let laws = laws_of p h in
    let all = graphs_from p 0 p.functions in
    let sum = sums p 0 p.functions laws.functions in
    let fits = weighed_in p u.room is.room laws.weight in
    let x : KeepBounds (record u { graphs = all }) = record {
      functions = omega (arith, graphs_length p 0 p.functions, laws.few);
      instructions = omega (arith, sum.0, laws.weights, fits.instructions);
      blocks = omega (arith, sum.1, laws.weights, fits.blocks);
      arguments = omega (arith, sum.2, laws.weights, fits.arguments);
      graphs = λ k g at. (let y = of_function p 0 p.functions k g at in subst (λ (z : Graph). KeepsBounds z) y.same (keeps_bounds p y.function y.is_main (laws.functions k y.function y.is)));
    } in
    subst (λ (l : List Graph). KeepBounds (record u { graphs = l })) (sym is.graphs) x
