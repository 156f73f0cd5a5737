-- A program's `main` is there, and both runs come to its body, where its blocks stand and static storage is the program's.
use Rattle.std.proofs.Common.{◌≡◌, ℕ, ◌+◌, List, [], ◌∷◌, length, take, drop, Some, None, slice_get, refl, sym, ap, ◌∙◌, subst}
use Rattle.c_tree.specs.declared.types.IntegerType.TheVariants.{Int}
use Rattle.c_tree.specs.declared.object_type.ValueType.TheVariants.{Integer}
use Rattle.c_tree.specs.Programs.{AutomaticTree, TypedFunctionTree, ProgramTree}
use Rattle.c_type_laws.specs.Kinds.{types_of}
use Rattle.c_places.specs.Places.{numbers_from, parameters_of}
use Rattle.c_meaning_values.specs.Memory.{Memory as SourceMemory}
use Rattle.c_meaning.specs.Activations.{Activation as SourceActivation}
use Rattle.c_meaning.specs.Calls.{bind}
use Rattle.c_meaning.specs.StaticStorage.{static_object, first_memory}
use Rattle.graph_core.specs.Graphs as unit
use Rattle.graph_core.specs.Graphs.{UnitForm, Marker}
use Rattle.graph_core.specs.Memory.{first_memory as unit_memory}
use Rattle.graph_core.specs.Runs.{Configuration, begun, enter}
use Rattle.graph_build_runs.specs.Stops.{StaticsLive}
use Rattle.graph_build_runs.specs.Correspondence.{DoesProgram}
use Rattle.graph_build_runs.proofs.Leads.{depth_in, stays}
use Rattle.graph_build_runs.proofs.Later.{Later, later_refl, others_refl}
use Rattle.graph_build_runs.proofs.Arguments.{AreOf}
use Rattle.graph_build_runs.proofs.Activities.{Activity, here_in}
use Rattle.graph_build_runs.proofs.Living.{AllLive}
use Rattle.graph_build_runs.proofs.Outcomes.{Holding, grown_none}
use Rattle.graph_build_runs.proofs.Calls.{activity_of, Bound}
use Rattle.graph_build_runs.proofs.Entry.{entry_made, Awaits}
use Rattle.graph_build_runs.proofs.Entering.{entered_from, enters_there}
use Rattle.graph_build_runs.proofs.Functions.{FunctionStands, function_is}
use Rattle.graph_build_runs.proofs.StaticObjects.{statics_of, static_there}
use Rattle.graph_build_runs.proofs.StaticValues.{StaticsFit}
use Rattle.graph_build_runs.proofs.StaticStorage.{awaits_first, never_variable, sound_first}
use Rattle.graph_build_runs.proofs.Program.{MainIs, begun_with, program_does}

-- without arguments nothing is bound
bound_nothing : (here : SourceActivation) (all : List ℕ) (memory : SourceMemory) → bind here all [] memory ≡ memory
bound_nothing here [] memory = refl
bound_nothing here (v ∷ all) memory = refl

-- What is asked of a program and its unit where a run begins: `main` is one of its functions, takes nothing, gives an int, and has its number in both; its blocks stand; and static storage is the program's.
pub record MainStands (p : ProgramTree) (u : UnitForm) : Type 0 where
  pub tree : TypedFunctionTree
  pub is : slice_get p.functions p.main ≡ Some tree
  pub function : FunctionStands p u p.main tree
  pub takes_none : tree.parameters ≡ 0
  pub gives : tree.result ≡ Integer Int
  pub number : u.main ≡ p.main
  pub statics : u.statics ≡ statics_of p
  pub fit : StaticsFit p

module _ (p : ProgramTree) (u : UnitForm) (h : MainStands p u) where
  abbrev first_number : ℕ
  first_number = length (unit_memory u.statics)

  abbrev main_activity : Activity
  main_activity = activity_of p u p.main h.tree h.function.graph h.function.again h.function.top first_number [] (unit_memory u.statics) [] 1023

  -- the block with which `main` begins
  abbrev entry_block : unit.Block
  entry_block = record { place = None; instructions = Marker h.function.graph.entry ∷ (entry_made p h.tree h.function.graph h.function.again h.function.top h.function.entry.inner).ops; end = (entry_made p h.tree h.function.graph h.function.again h.function.top h.function.entry.inner).end }

  abbrev begins_with : List ℕ → Configuration
  begins_with input = begun (unit_memory u.statics) input p.main [] [] h.function.graph entry_block

  begins_there : (input : List ℕ) → enter u (unit_memory u.statics) input u.main [] [] ≡ Some (begins_with input)
  begins_there input = ap (λ f. enter u (unit_memory u.statics) input f [] []) h.number ∙ enters_there u (unit_memory u.statics) input p.main [] [] h.function.graph entry_block h.function.is h.function.entry.block

  waits_none : Awaits p u (first_memory p) (unit_memory u.statics) []
  waits_none = subst (λ z. Awaits p u (first_memory p) (unit_memory z) []) (sym h.statics) (awaits_first p h.fit u h.statics)

  -- static variables live
  statics_first : StaticsLive p (first_memory p)
  statics_first n v is = record { number = n; object = static_object p n v; is = static_there p n v is; owned = refl; phase = refl }

  holds_first : Holding main_activity [] 0 (first_memory p)
  holds_first = record { statics = statics_first; under = λ n o v d is alive owner. never_variable p h.fit n o v d is owner; scoped = tt; frames = tt }

  takes_nothing : AreOf (first_memory p) (types_of (take h.tree.parameters (drop h.tree.first_variable p.automatics))) []
  takes_nothing = subst (λ n. AreOf (first_memory p) (types_of (take n (drop h.tree.first_variable p.automatics))) []) (sym h.takes_none) (none (drop h.tree.first_variable p.automatics))
    where
      none : (all : List AutomaticTree) → AreOf (first_memory p) (types_of (take 0 all)) []
      none [] = tt
      none (a ∷ all) = tt

  -- the memory with which the body begins
  memory_is : bind (here_in main_activity) (parameters_of h.tree) [] (first_memory p) ≡ first_memory p
  memory_is = bound_nothing (here_in main_activity) (parameters_of h.tree) (first_memory p)

  parameters_none : (memory : SourceMemory) (depth : ℕ) → AllLive memory depth (parameters_of h.tree)
  parameters_none memory depth = subst (λ n. AllLive memory depth (numbers_from h.tree.first_variable n)) (sym h.takes_none) tt

  -- `main` is there, and both runs come to its body.
  pub main_is_there : MainIs p u
  unfolding function_is
  main_is_there = record {
    tree = h.tree;
    is = h.is;
    gives = h.gives;
    function = function_is p u p.main h.tree h.function;
    first = first_number;
    begins = λ input. (begins_with input, begins_there input);
    entered = λ input bytes turns.
        entered_from main_activity (h.function.lawful first_number [] (unit_memory u.statics) [] 1023) refl h.function.entry (begun_with p u input turns) (unit_memory u.statics) refl waits_none holds_first [] [] takes_nothing tt
        (begins_with input) [] input refl [] tt (subst (Later (first_memory p)) (sym memory_is) (later_refl (first_memory p))) (others_refl (unit_memory u.statics)) stays;
    bound = λ input bytes turns. subst (λ m. Bound p u main_activity h.tree (first_memory p) (record (begun_with p u input turns) { memory = m })) (sym memory_is) (record {
      sound = sound_first p h.fit (begun_with p u input turns) refl bytes;
      grown = grown_none main_activity 0 (h.tree.first_variable + h.tree.parameters) (first_memory p);
      holding = record { statics = statics_first; under = λ n o v d is alive owner. never_variable p h.fit n o v d is owner; scoped = parameters_none (first_memory p) (depth_in main_activity.setting); frames = tt };
    });
  }
