-- Calls do what they mean, by how many activations may still begin, where functions are entered as they should be.
use Rattle.std.proofs.Common.{◌≡◌, ℕ, ◌+◌, List, [], ◌∷◌, ◌++◌, length, map, Option, Some, None, Bool, true, false, slice_get, pos}
use Rattle.std.specs.Prelude.{◌==◌}
use Rattle.c_tree.specs.declared.typed_expression.Callee.TheVariants as called
use Rattle.c_tree.specs.Programs.{TypedFunctionTree, ProgramTree}
use Rattle.c_places.specs.Flow.{reaches_end}
use Rattle.c_places.specs.Places.{places_of_program, parameters_of, brought_by_body}
use Rattle.c_type_rules.specs.ValueTypes.{is_void}
use Rattle.c_type_laws.specs.Kinds.{taken_by}
use Rattle.c_meaning_values.specs.declared.value.Value as source-value
use Rattle.c_meaning_values.specs.declared.value.Value.TheVariants as source
use Rattle.c_meaning_values.specs.Memory.{Memory as SourceMemory}
use Rattle.c_meaning_steps.specs.declared.event.Frame.{Frame}
use Rattle.c_meaning_steps.specs.States.{State, Next, Returned}
use Rattle.c_meaning.specs.Activations.{Activation as SourceActivation}
use Rattle.c_meaning.specs.Calls.{bind}
use Rattle.c_meaning.specs.Expressions.{Calls}
use Rattle.c_meaning.specs.Statements.{execute_all}
use Rattle.c_meaning.specs.Runs.{calls_of}
use Rattle.c_flow.specs.Flow.{start_of_all, ways_of_body}
use Rattle.graph_core.specs.declared.instruction.Callee.TheVariants as unit-called
use Rattle.graph_core.specs.Graphs as unit
use Rattle.graph_core.specs.Graphs.{Graph, UnitForm, Operand, Instruction, End, Return}
use Rattle.graph_core.specs.Memory.{Memory}
use Rattle.graph_core.specs.Runs.{Activation, Configuration, Event, value}
use Rattle.graph_build_steps.specs.Drafts.{ending as ends_with}
use Rattle.graph_build_runs.specs.Typed.{IsOf}
use Rattle.graph_build_runs.specs.Correspondence.{SameValues}
use Rattle.graph_build_runs.proofs.Leads.{Setting, depth_in, Local, World, here_at, at}
use Rattle.graph_build_runs.proofs.Kept.{Sound, Fits}
use Rattle.graph_build_runs.proofs.Arguments.{AreOf}
use Rattle.graph_build_runs.proofs.Calling.{waiting}
use Rattle.graph_build_runs.proofs.Coding.{CallsAre}
use Rattle.graph_build_runs.proofs.Activities.{Activity, here_in, placed}
use Rattle.graph_build_runs.proofs.Living.{Grown}
use Rattle.graph_build_runs.proofs.Outcomes.{Comes, Holding}
use Rattle.graph_build_runs.proofs.Stops.{Lawful, Ready}
use Rattle.graph_build_runs.proofs.AtPlaces.{Begins}
use Rattle.graph_build_runs.proofs.Formed.{FormedAll}
use Rattle.graph_build_runs.proofs.Closing.{closing_operand}

-- Calls at each place of an activation keep what runs keep and do what they mean.
abbrev pub CallsGood : Activity → Type 0
CallsGood k = (place : ℕ) (began : SourceMemory) → Ready k place began → CallsAre (placed k place began) (k.calls place)

module _ (p : ProgramTree) (u : UnitForm) where
  -- an activation of a function, where so many activations may still begin
  abbrev pub activity_of : (f : ℕ) → TypedFunctionTree → Graph → (again : Bool) → (top first : ℕ) → List Activation → Memory → List Frame → (left : ℕ) → Activity
  activity_of f tree g again top first ws objects frames left = record {
    setting = record { program = p; unit = u; tree = tree; function = f; graph = g; place = g.entry; first = first; waiting = ws; again = again; top = top; begun = []; objects = objects };
    frames = frames;
    calls = λ place. calls_of p (places_of_program p) left (record { function = f; place = place } ∷ frames);
  }

  -- The run has come to the body of a function, with the values of its arguments.
  pub record Entered (k : Activity) (tree : TypedFunctionTree) (c : Configuration) (es : List Event) (before : SourceMemory) (s : State) : Type 0 where
    pub place : ℕ
    pub local : Local
    pub world : World
    pub comes : Comes k c es (start_of_all tree.body (ways_of_body tree).next) place local world
    pub fits : Fits k.setting None s local world

  -- What binding keeps of a program's run.
  pub record Bound (k : Activity) (tree : TypedFunctionTree) (before : SourceMemory) (s : State) : Type 0 where
    pub sound : Sound p s.memory s
    pub grown : Grown (depth_in k.setting) 0 (tree.first_variable + tree.parameters) before s.memory
    pub holding : Holding k (parameters_of tree) (tree.first_variable + tree.parameters) s.memory

  -- A function whose blocks stand, and that is entered as it should be.
  pub record FunctionIs (f : ℕ) (tree : TypedFunctionTree) : Type 0 where
    pub graph : Graph
    pub again : Bool
    pub top : ℕ
    pub is : slice_get u.graphs f ≡ Some graph
    pub lawful : (first : ℕ) (ws : List Activation) (objects : Memory) (frames : List Frame) (left : ℕ) → Lawful (activity_of f tree graph again top first ws objects frames left)
    pub formed : (first : ℕ) (ws : List Activation) (objects : Memory) (frames : List Frame) (left : ℕ) → CallsGood (activity_of f tree graph again top first ws objects frames left)
        → FormedAll (activity_of f tree graph again top first ws objects frames left) (ways_of_body tree) (parameters_of tree) (tree.first_variable + tree.parameters) tree.body
    pub closes : (first : ℕ) (ws : List Activation) (objects : Memory) (frames : List Frame) (left : ℕ) → reaches_end tree.body ≡ true
        → Begins (activity_of f tree graph again top first ws objects frames left) (parameters_of tree ++ brought_by_body tree.body) tree.close.at (λ t i. ends_with (Return (closing_operand (f == p.main))) i)
    pub never : reaches_end tree.body ≡ false → (calls : ℕ → Calls) (here : SourceActivation) (s s2 : State) → execute_all calls here tree.body s ≡ Next s2 → ⊥
    pub nothing : is_void tree.result ≡ true → (calls : ℕ → Calls) (here : SourceActivation) (s s2 : State) (v : source-value.Value) → execute_all calls here tree.body s ≡ Returned (Some v) s2 → ⊥
    pub main_is : (f == p.main) ≡ true → (memory : SourceMemory) → IsOf memory tree.result (source.Number (pos 0))
    -- parameters are bound to objects of their own
    pub binds : (first : ℕ) (ws : List Activation) (objects : Memory) (frames : List Frame) (left : ℕ) (vs : List source-value.Value) (s : State) → Sound p s.memory s → Holding (activity_of f tree graph again top first ws objects frames left) [] 0 s.memory
        → AreOf s.memory (taken_by p (called.Function f)) vs → Bound (activity_of f tree graph again top first ws objects frames left) tree s.memory
        (record s { memory = bind (here_in (activity_of f tree graph again top first ws objects frames left)) (parameters_of tree) vs s.memory })
    -- a call leads to the body
    pub enters : (x : Setting) → x.program ≡ p → x.unit ≡ u → slice_get p.functions x.function ≡ Some x.tree → (target : Option ℕ) (all : List Operand) (ops : List Instruction) (end : End) (l : Local) (w : World) (s : State) (vs : List source-value.Value) (frames : List Frame) (left : ℕ) → length x.waiting + 1 + 1 + left ≡ 1024
        → Sound p s.memory s → Fits x None s l w → AreOf s.memory (taken_by p (called.Function f)) vs → SameValues p s.memory w.memory vs (map (value u.statics l.names) all)
        → Holding (activity_of f tree graph again top (length w.memory) (here_at x ops end (waiting l target) ∷ x.waiting) w.memory frames left) [] 0 s.memory
        → Entered (activity_of f tree graph again top (length w.memory) (here_at x ops end (waiting l target) ∷ x.waiting) w.memory frames left) tree (at x (unit.Call target (unit-called.Function f) all ∷ ops) end l w) w.seen s.memory
        (record s { memory = bind (here_in (activity_of f tree graph again top (length w.memory) (here_at x ops end (waiting l target) ∷ x.waiting) w.memory frames left)) (parameters_of tree) vs s.memory })

  -- Each function of the program is.
  abbrev pub FunctionsAre : Type 0
  FunctionsAre = (f : ℕ) (tree : TypedFunctionTree) → slice_get p.functions f ≡ Some tree → FunctionIs f tree
