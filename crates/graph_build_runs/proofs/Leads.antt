-- The steps of a unit within an activation: what they lead to, and what they show on the way.
use Rattle.std.proofs.Common.{◌≡◌, ℕ, ◌+◌, ◌<◌, List, [], ◌∷◌, ◌++◌, Option, Bool, false, ap, arith}
use Rattle.std.specs.Prelude.{◌==◌, if◌then◌else◌, length}
use Rattle.std.proofs.lemmas.Bool.Decides.{nat_tests}
use Rattle.c_tree.specs.Programs.{TypedFunctionTree, ProgramTree}
use Rattle.c_meaning_values.specs.Memory.{Memory as SourceMemory}
use Rattle.graph_core.specs.declared.value.Value.{Value}
use Rattle.graph_core.specs.declared.value.Shadow.{Shadow}
use Rattle.graph_core.specs.Graphs.{Instruction, End, Graph, UnitForm}
use Rattle.graph_core.specs.Memory.{Memory}
use Rattle.graph_core.specs.Runs.{Activation, Configuration, Event, Stepped, Goes, Shows, with_value_at, step}
use Rattle.graph_build_names.specs.Names.{Names, names_of}
pub use Rattle.base_laws.proofs.Numbers.{same_size as same_number}

-- Where the code of an expression runs: the program and its unit, the function with its number and graph, the place, the activation's first object, the activations that wait, whether
-- temporaries are used again, how many blocks the graph has, the memory of the program's run with which the place's code began, and that
-- of the unit's with which the activation did.
pub record Setting : Type 0 where
  pub program : ProgramTree
  pub unit : UnitForm
  pub tree : TypedFunctionTree
  pub function : ℕ
  pub graph : Graph
  pub place : ℕ
  pub first : ℕ
  pub waiting : List Activation
  pub again : Bool
  pub top : ℕ
  pub begun : SourceMemory
  pub objects : Memory

abbrev pub names_in : Setting → Names
names_in x = names_of x.program x.tree x.again

-- how many names are scalars
abbrev pub size_in : Setting → ℕ
size_in x = length x.graph.scalars

-- how many activations live
abbrev pub depth_in : Setting → ℕ
depth_in x = length x.waiting + 1

-- what changes of an activation as it runs
pub record Local : Type 0 where
  pub block : ℕ
  pub names : ℕ → Value
  pub shadows : ℕ → Shadow
  pub wants : Option ℕ

-- what changes beside it, with the events that were shown
pub record World : Type 0 where
  pub memory : Memory
  pub input : List ℕ
  pub seen : List Event

abbrev pub set_name : Local → ℕ → Value → Local
set_name l k v = record l { names = with_value_at l.names k v }

-- an activation that has come to a block
abbrev pub in_block : (number : ℕ) → Local → Local
in_block number l = record l { block = number }

-- the activation before some instructions
abbrev pub here_at : Setting → List Instruction → End → Local → Activation
here_at x ops end l = record {
  function = x.function;
  graph = x.graph;
  place = x.place;
  block = l.block;
  names = l.names;
  shadows = l.shadows;
  first_object = x.first;
  rest = ops;
  end = end;
  wants = l.wants;
}

abbrev pub at : Setting → List Instruction → End → Local → World → Configuration
at x ops end l w = record { memory = w.memory; input = w.input; here = here_at x ops end l; waiting = x.waiting }

-- Steps lead from a configuration, behind some events, to another, behind these and those that were shown on the way.
pub data Leads (u : UnitForm) : Configuration → List Event → Configuration → List Event → Type 0 where
  stays : {c : Configuration} {es : List Event} → Leads u c es c es
  goes : {c d f : Configuration} {es fs : List Event} → step u c ≡ Goes d → Leads u d es f fs → Leads u c es f fs
  shows : {c d f : Configuration} {es fs : List Event} {e : Event} → step u c ≡ Shows e d → Leads u d (es ++ e ∷ []) f fs → Leads u c es f fs

pub then_leads : {u : UnitForm} {a b c : Configuration} {es fs gs : List Event} → Leads u a es b fs → Leads u b fs c gs → Leads u a es c gs
then_leads stays q = q
then_leads (goes s p) q = goes s (then_leads p q)
then_leads (shows s p) q = shows s (then_leads p q)

pub put_here : {A : Type 0} (f : ℕ → A) (k : ℕ) (v : A) → with_value_at f k v k ≡ v
put_here f k v = ap (λ b. if b then v else f k) (same_number k)

pub put_elsewhere : {A : Type 0} (f : ℕ → A) (k j : ℕ) (v : A) → j == k ≡ false → with_value_at f k v j ≡ f j
put_elsewhere f k j v h = ap (λ b. if b then v else f j) h

pub less_other : (j k : ℕ) → j < k → j == k ≡ false
less_other j k h = grind (arith, nat_tests)
