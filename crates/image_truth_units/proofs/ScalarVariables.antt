-- The scalars of a function that is built are those of different variables.
use Rattle.std.proofs.Common.{◌≡◌, ◌≢◌, ℕ, zero, suc, ◌+◌, ◌<◌, Option, Some, None, List, length, map, arith}
use Rattle.std.specs.List.{AllByRecursion}
use Rattle.c_tree.specs.Programs.{TypedFunctionTree, ProgramTree}
use Rattle.c_places.specs.Places.{numbers_from}
use Rattle.graph_core.specs.Graphs.{Scalar}
use Rattle.graph_core.specs.Validity.{AreAllDifferent}
use Rattle.graph_build_names.specs.Names.{Names, scalar_of}
use Rattle.graph_build.specs.Units.{variable_of, add_if_some, scalars_among, scalar_record}

module _ (p : ProgramTree) (f : TypedFunctionTree) (n : Names) (entry : ℕ) (all : List ℕ) where
  -- the variables of these scalars, as the graph lists them
  abbrev listed : List ℕ → List ℕ
  listed variables = map (λ (s : Scalar). s.variable) (map (scalar_record p f entry all) variables)

  -- those behind a variable are others
  others : (x first count : ℕ) → x < first → AllByRecursion (λ y. variable_of p x ≢ y) (listed (scalars_among n (numbers_from first count)))
  others x first zero lt = tt
  others x first (suc count) lt = by (scalar_of n first) (others x (first + 1) count (omega (arith, lt)))
    where
      by : (o : Option ℕ) → AllByRecursion (λ y. variable_of p x ≢ y) (listed (scalars_among n (numbers_from (first + 1) count)))
          → AllByRecursion (λ y. variable_of p x ≢ y) (listed (add_if_some o first (scalars_among n (numbers_from (first + 1) count))))
      by None rest = rest
      by (Some k) rest = (λ e. (let same : length p.statics + length p.literals + x ≡ length p.statics + length p.literals + first = e in absurd (omega (arith, lt, same))), rest)

  -- no variable has two scalars
  pub all_different : (first count : ℕ) → AreAllDifferent (listed (scalars_among n (numbers_from first count)))
  all_different first zero = tt
  all_different first (suc count) = by (scalar_of n first) (all_different (first + 1) count)
    where
      by : (o : Option ℕ) → AreAllDifferent (listed (scalars_among n (numbers_from (first + 1) count))) → AreAllDifferent (listed (add_if_some o first (scalars_among n (numbers_from (first + 1) count))))
      by None rest = rest
      by (Some k) rest = (others first (first + 1) count (omega arith), rest)
