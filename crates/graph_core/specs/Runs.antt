-- What a unit does: its steps, its run, and what can be seen of it.
use Rattle.std.specs.Prelude.{ℕ, zero, suc, ◌+◌, ◌%◌, ◌==◌, Bool, if◌then◌else◌, Option, Some, None, option_map, option_and_then, List, [], ◌∷◌, ◌++◌, length, map, slice_get}
use Rattle.std.specs.List.{list_any}
use Rattle.std.specs.Option.{option_map_or}
use Rattle.graph_core.specs.declared.value.Value.{Value}
use Rattle.graph_core.specs.declared.value.Value.TheVariants.{Number, Pointer, Odd}
use Rattle.graph_core.specs.declared.value.Shadow.{Shadow}
use Rattle.graph_core.specs.declared.value.Shadow.TheVariants as shadow
use Rattle.graph_core.specs.declared.instruction.Callee.{Callee}
use Rattle.graph_core.specs.declared.instruction.Callee.TheVariants as callee
use Rattle.graph_core.specs.Graphs.{Operand, Name, Constant, StaticAddress, Recipe, Of, Truncated, Operated, NoteValue, Is, Gone, Location, Automatic, Static, At, Instruction, Marker, Note, Move, Operate, Truncate, Same, Address, Load, Store, Zero, CopyWords, Call, End, Jump, Branch, Return, Block, Binding, ToScalar, ToObject, Graph, StaticObject, UnitForm}
use Rattle.graph_core.specs.Bounds.{most_activations}
use Rattle.graph_core.specs.Values.{pointer_at, operate, truncate, same, holds, is_odd}
use Rattle.graph_core.specs.Memory.{Memory, is_live, pointer_to_object, address_in, static_bytes, read, write, zeroed, copied, new_object, ended_from, first_memory}

-- An activation of a function: its function, its graph, the place that it has come to, the block that it stands in, the
-- values of its names, the shadows of its scalars, the number of its first object, what is left of its block, and the
-- name that a call's value goes to while it waits. Its block and what is left of it tell at which call it waits.
pub record Activation : Type 0 where
  pub function : ℕ
  pub graph : Graph
  pub place : ℕ
  pub block : ℕ
  pub names : ℕ → Value
  pub shadows : ℕ → Shadow
  pub first_object : ℕ
  pub rest : List Instruction
  pub end : End
  pub wants : Option ℕ

-- What a run has: its objects, the input that is left, the activation that goes on, and those that wait, from the
-- innermost on.
pub record Configuration : Type 0 where
  pub memory : Memory
  pub input : List ℕ
  pub here : Activation
  pub waiting : List Activation

-- A live activation as a stop shows it: its function, its place, and the shadows of its scalars by position.
pub record Frame : Type 0 where
  pub function : ℕ
  pub place : ℕ
  pub shadows : List Shadow

-- What can be seen of a run: a byte that is put out, the end of the program with its status, a call that finds as many
-- activations alive as may be, or a stop: a place that is no entry begins, with the live activations from the innermost
-- on, and all objects.
pub data Event : Type 0 where
  Put : (byte : ℕ) → Event
  Exited : (status : ℕ) → Event
  TooDeep : Event
  Stop : List Frame → Memory → Event

-- What one step comes to. A step that works with what is not known is wild: nothing is said of what comes behind it.
pub data Stepped : Type 0 where
  Goes : Configuration → Stepped
  Shows : Event → Configuration → Stepped
  Ends : Event → Stepped
  Wild : Stepped

-- one value of a function is another
abbrev pub with_value_at : {A : Type 0} → (ℕ → A) → ℕ → A → ℕ → A
with_value_at f x v y = if y == x then v else f y

-- the address in a static object; the first objects of a run are the static ones
abbrev pub static_address : List StaticObject → (object offset : ℕ) → Value
static_address statics object offset =
    option_map_or (λ o. pointer_at object (static_bytes o) offset) (slice_get statics object) Odd

-- the value of an operand
abbrev pub value : List StaticObject → (ℕ → Value) → Operand → Value
value statics names (Name x) = names x
value statics names (Constant w) = Number w
value statics names (StaticAddress object offset) = static_address statics object offset

-- the value of a recipe
abbrev pub recipe_value : List StaticObject → (ℕ → Value) → Recipe → Value
recipe_value statics names (Of a) = value statics names a
recipe_value statics names (Truncated t r) = truncate t (recipe_value statics names r)
recipe_value statics names (Operated o r s) = operate o (recipe_value statics names r) (recipe_value statics names s)

-- where a location points
abbrev pub pointed : List StaticObject → Memory → Activation → Location → Value
pointed statics memory here (Automatic object offset) = address_in memory (here.first_object + object) offset
pointed statics memory here (Static object) = static_address statics object 0
pointed statics memory here (At a) = value statics here.names a

-- the live activations as a stop shows them
abbrev pub numbers_from : ℕ → (count : ℕ) → List ℕ
numbers_from least zero = []
numbers_from least (suc count) = least ∷ numbers_from (least + 1) count

-- an activation as a stop shows it
abbrev pub frame : Activation → Frame
frame a =
    record { function = a.function; place = a.place; shadows = map a.shadows (numbers_from 0 (length a.graph.scalars)) }

-- a name takes a value
abbrev pub take_value : ℕ → Value → Activation → Activation
take_value x v a = record a { names = with_value_at a.names x v }

-- the name that a call's value goes to, if there is one, takes it
abbrev pub take_wanted : Option ℕ → Value → Activation → Activation
take_wanted None v a = a
take_wanted (Some x) v a = take_value x v a

-- a value is written to a name
abbrev pub wrote : Configuration → ℕ → Value → Stepped
wrote c x v = Goes (record c { here = take_value x v c.here })

-- a value is written to a name, if there is one to be had
abbrev pub wrote_some : Configuration → ℕ → Option Value → Stepped
wrote_some c x None = Wild
wrote_some c x (Some v) = wrote c x v

-- memory becomes another, if it can
abbrev pub with_memory : Configuration → Option Memory → Stepped
with_memory c None = Wild
with_memory c (Some memory) = Goes (record c { memory = memory })

-- a value that is not known is not used
abbrev pub unless_odd : Value → Stepped → Stepped
unless_odd v go = if is_odd v then Wild else go

-- A variable's shadow becomes what a note says.
abbrev pub noted : List StaticObject → Configuration → ℕ → NoteValue → Stepped
noted statics c x (Gone change) =
    Goes (record c { here = record c.here { shadows = with_value_at c.here.shadows x shadow.Gone } })
noted statics c x (Is r) =
    unless_odd (recipe_value statics c.here.names r)
    (Goes
    (record
    c {
      here = record
          c.here {
            shadows = with_value_at c.here.shadows x (shadow.Known (recipe_value statics c.here.names r));
          };
    }))

-- A place begins: that is a stop, but at the function's entry.
abbrev pub marked : Configuration → Stepped
marked c =
    if c.here.place == c.here.graph.entry then Goes c else Shows (Stop (frame c.here ∷ map frame c.waiting) c.memory) c

-- an activation comes to a place
abbrev pub at_place : ℕ → Configuration → Configuration
at_place p c = record c { here = record c.here { place = p } }

-- control goes to the block with this number, if there is one
abbrev pub entered : Configuration → (number : ℕ) → Option Block → Stepped
entered c l None = Wild
entered c l (Some b) = Goes (record c { here = record c.here { block = l; rest = b.instructions; end = b.end } })

-- control goes to the block with this number
abbrev pub go_to : Configuration → ℕ → Stepped
go_to c l = entered c l (slice_get c.here.graph.blocks l)

-- control goes to one of two blocks by a test, if its outcome is known
abbrev pub branched : Configuration → Option Bool → (if_true if_false : ℕ) → Stepped
branched c None l m = Wild
branched c (Some b) l m = if b then go_to c l else go_to c m

-- The program ends with a status, if it is a word.
abbrev pub exited : Value → Stepped
exited (Number w) = Ends (Exited w)
exited (Pointer object size offset) = Wild
exited Odd = Wild

-- An activation is left with a value: its objects end, and the innermost one that waits goes on.
abbrev pub returned : Memory → List ℕ → Value → List Activation → Stepped
returned memory input v [] = exited v
returned memory input v (a ∷ waiting) =
    Goes (record { memory = memory; input = input; here = take_wanted a.wants v a; waiting = waiting })

-- An activation is left with a value.
abbrev pub leave : Configuration → Value → Stepped
leave c v = returned (ended_from c.here.first_object c.memory) c.input v c.waiting

-- A byte is put out, if the value is a word.
abbrev pub put_out : Configuration → Option ℕ → Value → Stepped
put_out c x (Number w) = Shows (Put (w % 256)) (record c { here = take_wanted x (Number (w % 256)) c.here })
put_out c x (Pointer object size offset) = Wild
put_out c x Odd = Wild

-- a byte of the input, or -1 at its end
abbrev pub got : Configuration → Option ℕ → List ℕ → Stepped
got c x [] = Goes (record c { here = take_wanted x (Number 4294967295) c.here })
got c x (byte ∷ input) = Goes (record c { here = take_wanted x (Number byte) c.here; input = input })

-- Arguments are bound: each becomes the value of a scalar, or the first element of an object of the activation, of
-- which these are the first number and the memory.
abbrev pub bind_names : List Binding → List Value → (ℕ → Value) → ℕ → Value
bind_names [] vs names = names
bind_names (b ∷ more) [] names = names
bind_names (ToScalar x ∷ more) (v ∷ vs) names = bind_names more vs (with_value_at names x v)
bind_names (ToObject object ∷ more) (v ∷ vs) names = bind_names more vs names

-- the first element of an object takes a value
abbrev pub set_first : ℕ → Value → Memory → Memory
set_first n v memory =
    option_map_or (λ o. option_map_or (λ m. m) (write memory o.element (pointer_to_object memory n) v) memory)
    (slice_get memory n) memory

-- the memory in which arguments are bound to objects
abbrev pub bind_objects : ℕ → List Binding → List Value → Memory → Memory
bind_objects first [] vs memory = memory
bind_objects first (b ∷ more) [] memory = memory
bind_objects first (ToScalar x ∷ more) (v ∷ vs) memory = bind_objects first more vs memory
bind_objects first (ToObject object ∷ more) (v ∷ vs) memory =
    bind_objects first more vs (set_first (first + object) v memory)

-- the activation of a function that begins when there is this memory, at this depth
abbrev pub with_objects : (depth : ℕ) → Graph → Memory → Memory
with_objects depth g memory = memory ++ map (new_object depth) g.objects

-- the activation of a function as it begins
abbrev pub new_activation : (function : ℕ) → Graph → Block → (first : ℕ) → List Value → Activation
new_activation function g b first vs = record {
  function = function;
  graph = g;
  place = g.entry;
  block = 0;
  names = bind_names g.parameters vs (λ x. Odd);
  shadows = λ x. shadow.Gone;
  first_object = first;
  rest = b.instructions;
  end = b.end;
  wants = None;
}

-- A function begins, with these values as arguments, while others wait.
abbrev pub begun : Memory → List ℕ → (function : ℕ) → List Value → List Activation → Graph → Block → Configuration
begun memory input function vs waiting g b = record {
  memory = bind_objects (length memory) g.parameters vs (with_objects (length waiting + 1) g memory);
  input = input;
  here = new_activation function g b (length memory) vs;
  waiting = waiting;
}

-- a step to a configuration, if there is one
abbrev pub goes_if : Option Configuration → Stepped
goes_if None = Wild
goes_if (Some c) = Goes c

-- the first argument
abbrev pub first_argument : List Value → Value
first_argument [] = Odd
first_argument (v ∷ vs) = v

-- what can be seen in a step, and then of what it comes to
abbrev pub events_after : Stepped → (Configuration → List Event) → List Event
events_after (Goes c) go = go c
events_after (Shows e c) go = e ∷ go c
events_after (Ends e) go = e ∷ []
events_after Wild go = []

module _ (u : UnitForm) where
  -- the function with this number begins, if there is one and it has a block
  abbrev pub enter : Memory → List ℕ → (function : ℕ) → List Value → List Activation → Option Configuration
  enter memory input function vs waiting =
      option_and_then (λ g. option_map (begun memory input function vs waiting g) (slice_get g.blocks 0))
      (slice_get u.graphs function)

  -- A function is called, where fewer activations live than may.
  abbrev pub call_function : Configuration → Option ℕ → (function : ℕ) → List Value → Stepped
  call_function c x function vs =
      if length c.waiting + 1 == most_activations then Ends TooDeep
      else goes_if (enter c.memory c.input function vs (record c.here { wants = x } ∷ c.waiting))

  -- What a call does.
  abbrev pub call : Configuration → Option ℕ → Callee → List Value → Stepped
  call c x (callee.Function f) vs = call_function c x f vs
  call c x callee.Getchar vs = got c x c.input
  call c x callee.Putchar vs = put_out c x (first_argument vs)
  call c x callee.Exit vs = exited (first_argument vs)

  -- What an instruction does; the configuration is the one behind it but for that.
  abbrev pub execute : Instruction → Configuration → Stepped
  execute (Marker p) c = marked (at_place p c)
  execute (Note x v) c = noted u.statics c x v
  execute (Move x a) c = wrote c x (value u.statics c.here.names a)
  execute (Operate x o a b) c = wrote c x (operate o (value u.statics c.here.names a) (value u.statics c.here.names b))
  execute (Truncate x t a) c = wrote c x (truncate t (value u.statics c.here.names a))
  execute (Same x a b) c =
      wrote c x (same (is_live c.memory) (value u.statics c.here.names a) (value u.statics c.here.names b))
  execute (Address x object) c = wrote c x (pointer_to_object c.memory (c.here.first_object + object))
  execute (Load x e l) c = wrote_some c x (read c.memory e (pointed u.statics c.memory c.here l))
  execute (Store e l a) c =
      unless_odd (value u.statics c.here.names a)
      (with_memory c (write c.memory e (pointed u.statics c.memory c.here l) (value u.statics c.here.names a)))
  execute (Zero object words) c = with_memory c (zeroed c.memory (c.here.first_object + object) words)
  execute (CopyWords object bytes words) c =
      with_memory c
      (option_and_then (λ all. copied c.memory (c.here.first_object + object) all words)
      (slice_get u.array_bytes bytes))
  execute (Call x f all) c =
      if list_any is_odd (map (value u.statics c.here.names) all) then Wild
      else call c x f (map (value u.statics c.here.names) all)

  -- what the end of a block does
  abbrev pub execute_end : End → Configuration → Stepped
  execute_end (Jump l) c = go_to c l
  execute_end (Branch k a b l m) c =
      branched c (holds (is_live c.memory) k (value u.statics c.here.names a) (value u.statics c.here.names b)) l m
  execute_end (Return None) c = leave c Odd
  execute_end (Return (Some a)) c = leave c (value u.statics c.here.names a)

  -- a step where these instructions are left of the block
  abbrev pub step_from : List Instruction → Configuration → Stepped
  step_from [] c = execute_end c.here.end c
  step_from (i ∷ rest) c = execute i (record c { here = record c.here { rest = rest } })

  -- one step: the next instruction, or the end of the block
  abbrev pub step : Configuration → Stepped
  step c = step_from c.here.rest c

  -- what can be seen in so many steps
  abbrev pub run : (steps : ℕ) → Configuration → List Event
  run zero c = []
  run (suc n) c = events_after (step c) (run n)

  -- the run from a configuration, if there is one
  abbrev pub run_some : (steps : ℕ) → Option Configuration → List Event
  run_some n None = []
  run_some n (Some c) = run n c

  -- The run of a unit on an input: what can be seen of it in so many steps. It ends before a wild step.
  abbrev pub unit_run : (input : List ℕ) → (steps : ℕ) → List Event
  unit_run input n = run_some n (enter (first_memory u.statics) input u.main [] [])
