-- The unit of a well-formed program keeps what bounds how long its places take.
use Rattle.std.proofs.Common.{◌≡◌, ◌≢◌, ℕ, zero, suc, ◌+◌, Bool, Some, List, [], ◌∷◌, ◌++◌, slice_get, sym, subst, ◌==◌}
use Rattle.c_tree.specs.Programs.{TypedFunctionTree, ProgramTree}
use Rattle.c_type_laws.specs.Laws.{IsWellFormed}
use Rattle.graph_core.specs.Graphs.{Graph, UnitForm}
use Rattle.graph_core.specs.Validity.{AreAllDifferent, IsGraph, markers_of, markers_of_blocks}
use Rattle.graph_build.specs.Units.{IsUnitOf, graph_of, graphs_from}
use Rattle.graph_build_laws.proofs.Accepted.{facts_of}
use Rattle.graph_build_laws.proofs.Whole.{valid}
use Rattle.image_truth_units.specs.Timing.{KeepsTime, KeepTime}
use Rattle.image_truth_units.proofs.TimedFunctions.{graph_keeps_time}
use Rattle.base_laws.proofs.Lists.{all_before, got_one as one_of_all}
use Rattle.base_laws.proofs.Options.{none_is, some_same}

-- a graph is that of a function
record OfFunction (p : ProgramTree) (g : Graph) : Type 0 where
  function : TypedFunctionTree
  is_main : Bool
  same : graph_of p function is_main ≡ g

of_function : (p : ProgramTree) (m : ℕ) (all : List TypedFunctionTree) (k : ℕ) (g : Graph) → slice_get (graphs_from p m all) k ≡ Some g → OfFunction p g
of_function p m [] k g e = absurd (none_is e)
of_function p m (f ∷ all) zero g e = record { function = f; is_main = m == p.main; same = some_same e }
of_function p m (f ∷ all) (suc k) g e = of_function p (m + 1) all k g e

-- numbers that are all different are so among fewer
different_before : (xs ys : List ℕ) → AreAllDifferent (xs ++ ys) → AreAllDifferent xs
different_before [] ys h = tt
different_before (x ∷ xs) ys h = (all_before (λ q. x ≢ q) xs ys h.0, different_before xs ys h.1)

different_behind : (xs ys : List ℕ) → AreAllDifferent (xs ++ ys) → AreAllDifferent ys
different_behind [] ys h = h
different_behind (x ∷ xs) ys h = different_behind xs ys h.1

different_in : (all : List Graph) (k : ℕ) (g : Graph) → AreAllDifferent (markers_of all) → slice_get all k ≡ Some g → AreAllDifferent (markers_of_blocks g.blocks)
different_in [] k g h e = absurd (none_is e)
different_in (d ∷ all) zero g h e = subst (λ (x : Graph). AreAllDifferent (markers_of_blocks x.blocks)) (some_same e) (different_before (markers_of_blocks d.blocks) (markers_of all) h)
different_in (d ∷ all) (suc k) g h e = different_in all k g (different_behind (markers_of_blocks d.blocks) (markers_of all) h) e

-- Each graph of a well-formed program's unit keeps what bounds how long its places take.
pub keep_time : (p : ProgramTree) (u : UnitForm) → IsWellFormed p → IsUnitOf p u → KeepTime u
keep_time p u well is k g got =
    let x = of_function p 0 p.functions k g (subst (λ (l : List Graph). slice_get l k ≡ Some g) is.graphs got) in
    let whole = valid p u well is in
    let own = subst (λ (d : Graph). IsGraph u d) (sym x.same) (one_of_all (IsGraph u) u.graphs k g whole.graphs got) in
    let apart = subst (λ (d : Graph). AreAllDifferent (markers_of_blocks d.blocks)) (sym x.same) (different_in u.graphs k g whole.once got) in
    subst (λ (d : Graph). KeepsTime d) x.same (graph_keeps_time p u (facts_of p well) x.function x.is_main own apart)
