-- What keeps a unit's shape keeps it along a list of passes.
use Rattle.std.proofs.Common.{◌≡◌, List, [], ◌∷◌, refl, sym, subst, ap, ◌∙◌}
use Rattle.std.specs.Prelude.{IfOk, Result, Ok, Err}
use Rattle.graph_core.specs.declared.unit.Unit as declared-unit
use Rattle.graph_core.specs.Graphs.{Graph, Logged, UnitForm, unit_view}
use Rattle.pass_law.specs.Kept.{EachFunction, KeepsAllButBlocks, KeepsFunction, KeepsShape, ShareTheSame}

function_itself : (g : Graph) → KeepsFunction g g
function_itself g = record { entry = refl; parameters = refl; scalars = refl; objects = refl; first_moved = refl }

function_twice : (f g h : Graph) → KeepsFunction f g → KeepsFunction g h → KeepsFunction f h
function_twice f g h first then = record {
  entry = then.entry ∙ first.entry;
  parameters = then.parameters ∙ first.parameters;
  scalars = then.scalars ∙ first.scalars;
  objects = then.objects ∙ first.objects;
  first_moved = then.first_moved ∙ first.first_moved;
}

functions_themselves : (gs : List Graph) → EachFunction KeepsFunction gs gs
functions_themselves [] = tt
functions_themselves (g ∷ gs) = (function_itself g, functions_themselves gs)

functions_twice : (fs gs hs : List Graph) → EachFunction KeepsFunction fs gs → EachFunction KeepsFunction gs hs → EachFunction KeepsFunction fs hs
functions_twice [] [] [] first then = tt
functions_twice [] [] (h ∷ hs) first then = absurd then
functions_twice [] (g ∷ gs) hs first then = absurd first
functions_twice (f ∷ fs) [] hs first then = absurd first
functions_twice (f ∷ fs) (g ∷ gs) [] first then = absurd then
functions_twice (f ∷ fs) (g ∷ gs) (h ∷ hs) first then = (function_twice f g h first.0 then.0, functions_twice fs gs hs first.1 then.1)

-- where only blocks and temporaries may differ, each function is kept
pub of_functions : (gs hs : List Graph) → EachFunction KeepsAllButBlocks gs hs → EachFunction KeepsFunction gs hs
of_functions [] [] kept = tt
of_functions [] (h ∷ hs) kept = absurd kept
of_functions (g ∷ gs) [] kept = absurd kept
of_functions (g ∷ gs) (h ∷ hs) kept = (kept.0.function, of_functions gs hs kept.1)

-- a unit keeps its own shape
pub shape_itself : (u : UnitForm) → KeepsShape u u
shape_itself u = record {
  shared = record { main = refl; statics = refl; array_bytes = refl; steps = refl; assignments = refl; room = refl };
  functions = functions_themselves u.graphs;
}

-- and where its log alone is another
pub shape_logged : (u v w : UnitForm) (log : List Logged) → v ≡ u → w ≡ record v { log = log } → KeepsShape u w
shape_logged u v w log same grown =
    let to : UnitForm → UnitForm = λ (x : UnitForm). record x { log = log } in
    subst (KeepsShape u) (sym (grown ∙ ap to same)) (record { shared = record { main = refl; statics = refl; array_bytes = refl; steps = refl; assignments = refl; room = refl }; functions = functions_themselves u.graphs })

-- what is kept twice is kept
pub shape_twice : (u v w : UnitForm) → KeepsShape u v → KeepsShape v w → KeepsShape u w
shape_twice u v w first then = record {
  shared = record {
    main = then.shared.main ∙ first.shared.main;
    statics = then.shared.statics ∙ first.shared.statics;
    array_bytes = then.shared.array_bytes ∙ first.shared.array_bytes;
    steps = then.shared.steps ∙ first.shared.steps;
    assignments = then.shared.assignments ∙ first.shared.assignments;
    room = then.shared.room ∙ first.shared.room;
  };
  functions = functions_twice u.graphs v.graphs w.graphs first.functions then.functions;
}

-- A pass whose unit shares what the given one has, and keeps its functions, keeps its shape.
pub kept_by : {E : Type 0} (u : UnitForm) (made : Result declared-unit.Unit E) → IfOk made (λ v. ShareTheSame u (unit_view v))
    → IfOk made (λ v. EachFunction KeepsFunction u.graphs (unit_view v).graphs) → IfOk made (λ v. KeepsShape u (unit_view v))
kept_by u (Ok v) shared functions = record { shared = shared; functions = functions }
kept_by u (Err e) shared functions = tt

-- the same where it keeps all of its functions but blocks
pub kept_but_blocks : {E : Type 0} (u : UnitForm) (made : Result declared-unit.Unit E) → IfOk made (λ v. ShareTheSame u (unit_view v))
    → IfOk made (λ v. EachFunction KeepsAllButBlocks u.graphs (unit_view v).graphs) → IfOk made (λ v. KeepsShape u (unit_view v))
kept_but_blocks u (Ok v) shared functions = record { shared = shared; functions = of_functions u.graphs (unit_view v).graphs functions }
kept_but_blocks u (Err e) shared functions = tt
