-- A unit of the small program is valid, whatever the block of the declarator does behind its marker, if it names what there is.
use Rattle.std.proofs.Common.{◌≡◌, ◌≢◌, ◌≤◌, ℕ, inl, inr, List, [], ◌∷◌, ◌++◌, length, Option, Some, None, refl, sym, subst, arith, lit≤, lit<}
use Rattle.std.specs.List.{AllByRecursion}
use Rattle.memory_map.specs.declared.map.Room.TheVariants.{Small}
use Rattle.graph_core.specs.Bounds.{most_markers}
use Rattle.graph_core.specs.Graphs.{Operand, Instruction, Marker, Graph, Logged, UnitForm}
use Rattle.graph_core.specs.Paths as paths
use Rattle.graph_core.specs.Validity.{AreAllDifferent, IsInstruction, IsOperand, IsValid, arguments_in, counts, markers_in, total}
use Rattle.pass_law.specs.Worked.{main_with, unit_of, unreached_block}
use Rattle.pass_law.proofs.Inversions.{apart}

some_is_none : ◌≢◌ {A = Option ℕ} (Some 2) None
some_is_none e = cc

module _ (body : List Instruction) (a : Operand) (log : List Logged) where
  -- the graph with this behind the marker of the declarator
  abbrev pub graph : Graph
  graph = main_with (Marker 2 ∷ body) a (unreached_block ∷ [])

  abbrev pub unit : UnitForm
  unit = unit_of graph log

  pub valid_with : total counts body ≤ 2 → total arguments_in body ≡ 0 → markers_in body ≡ [] → AllByRecursion (IsInstruction unit graph) body → IsOperand [] graph a → IsValid unit
  valid_with few no_arguments no_markers names returned = record {
    functions = lit≤ tt;
    main = refl;
    instructions = omega (arith, few);
    blocks = lit≤ tt;
    markers = subst (λ (all : List ℕ). length (1 ∷ 2 ∷ ((all ++ (3 ∷ [])) ++ [])) ≤ most_markers Small) (sym no_markers) (lit≤ tt);
    arguments = omega (arith, no_arguments);
    statics = lit≤ tt;
    relocations = tt;
    once = subst (λ (all : List ℕ). AreAllDifferent (1 ∷ 2 ∷ ((all ++ (3 ∷ [])) ++ []))) (sym no_markers) ((apart 1 2 (lit< tt), (apart 1 3 (lit< tt), tt)), ((apart 2 3 (lit< tt), tt), (tt, tt)));
    graphs = (
      record {
        instructions = omega (arith, few);
        names = lit≤ tt;
        scalars = lit≤ tt;
        temporaries = lit≤ tt;
        parameters = lit≤ tt;
        bindings = tt;
        objects = lit≤ tt;
        begins = tt;
        blocks = (
          record { place = tt; own = tt; instructions = (tt, tt); operands = tt; edges = (tt, tt) },
          (
            record { place = tt; own = inl refl; instructions = (tt, names); operands = tt; edges = (tt, tt) },
            (
              record { place = tt; own = inr (paths.behind paths.front); instructions = (tt, tt); operands = returned; edges = tt },
              (
                record {
                  place = some_is_none;
                  own = inr (paths.behind paths.front);
                  instructions = ((lit< tt, (lit< tt, lit≤ tt)), ((tt, (lit< tt, tt), refl), tt));
                  operands = tt;
                  edges = (tt, tt);
                },
                tt,
              ),
            ),
          ),
        );
      },
      tt,
    );
  }
