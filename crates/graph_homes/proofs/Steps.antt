-- Each step of a unit's run keeps it that live objects are owned, and activations are ones of functions.
use Rattle.std.proofs.Common.{◌≡◌, ℕ, zero, suc, ◌+◌, ◌%◌, inl, inr, Bool, true, false, Option, Some, None, List, [], ◌∷◌, length, map, slice_get, refl, sym, subst}
use Rattle.std.specs.Prelude.{◌==◌, if◌then◌else◌, option_map, option_and_then}
use Rattle.std.specs.List.{AllByRecursion, list_any}
use Rattle.std.proofs.lemmas.List.{length-map}
use Rattle.std.proofs.lemmas.Option.{none-some, same_Some}
use Rattle.graph_core.specs.declared.value.Value.{Value}
use Rattle.graph_core.specs.declared.value.Value.TheVariants.{Number, Pointer, Odd}
use Rattle.graph_core.specs.declared.instruction.Callee.{Callee}
use Rattle.graph_core.specs.declared.instruction.Callee.TheVariants as callee
use Rattle.graph_core.specs.Bounds.{most_activations}
use Rattle.graph_core.specs.Graphs.{NoteValue, Is, Gone, Instruction, Marker, Note, Move, Operate, Truncate, Same, Address, Load, Store, Zero, CopyWords, Call, End, Jump, Branch, Return, Block, Graph, UnitForm}
use Rattle.graph_core.specs.Memory.{Memory, is_live, pointer_to_object, read, write, zeroed, copied, ended_from, first_memory}
use Rattle.graph_core.specs.Paths.{Among, front, behind}
use Rattle.graph_core.specs.Runs.{Activation, Configuration, Stop, TooDeep, Stepped, Goes, Shows, Ends, Wild, value, recipe_value, pointed, frame, take_value, take_wanted, wrote, wrote_some, with_memory, unless_odd, noted, marked, at_place, entered, go_to, branched, exited, returned, leave, put_out, got, bind_objects, with_objects, begun, goes_if, first_argument, enter, call_function, call, execute, execute_end, step_from, step}
use Rattle.graph_core.specs.Values.{operate, truncate, same, holds, is_odd}
use Rattle.graph_homes.specs.Seen.{seen, seen_after, seen_some, seen_run}
use Rattle.graph_homes.specs.Owned.{base_of, bases_of, AreOwned, IsPlaceOf, IsActivation, IsRunning, IsSeenRunning}
use Rattle.graph_homes.proofs.Alike.{AreAlike, write_alike, zeroed_alike, copied_alike, bound_alike, owned_alike}
use Rattle.graph_homes.proofs.Calls.{owned_behind, owned_called, owned_first}

module _ (u : UnitForm) where
  -- what a step comes to is such a configuration
  abbrev pub KeepsRunning : Stepped → Type 0
  KeepsRunning (Goes c) = IsRunning u c
  KeepsRunning (Shows e c) = IsRunning u c
  KeepsRunning (Ends e) = Unit {0}
  KeepsRunning Wild = Unit {0}

  -- ---- Names

  value_taken : (x : ℕ) (v : Value) (a : Activation) → IsActivation u a → IsActivation u (take_value x v a)
  value_taken x v a is = record { graph = is.graph; place = is.place; rest = is.rest }

  wanted_taken : (x : Option ℕ) (v : Value) (a : Activation) → IsActivation u a → IsActivation u (take_wanted x v a)
  wanted_taken None v a is = is
  wanted_taken (Some x) v a is = value_taken x v a is

  same_base : (x : Option ℕ) (v : Value) (a : Activation) → base_of (take_wanted x v a) ≡ base_of a
  same_base None v a = refl
  same_base (Some x) v a = refl

  wrote_keeps : (c : Configuration) (x : ℕ) (v : Value) → IsRunning u c → KeepsRunning (wrote c x v)
  wrote_keeps c x v is = record { owned = is.owned; here = value_taken x v c.here is.here; waiting = is.waiting }

  wrote_some_keeps : (c : Configuration) (x : ℕ) (v : Option Value) → IsRunning u c → KeepsRunning (wrote_some c x v)
  wrote_some_keeps c x None is = tt
  wrote_some_keeps c x (Some v) is = wrote_keeps c x v is

  wanted_keeps : (c : Configuration) (x : Option ℕ) (v : Value) (input : List ℕ) → IsRunning u c → IsRunning u (record c { here = take_wanted x v c.here; input = input })
  wanted_keeps c x v input is = record { owned = subst (λ b. AreOwned u c.memory (b ∷ map base_of c.waiting)) (sym (same_base x v c.here)) is.owned; here = wanted_taken x v c.here is.here; waiting = is.waiting }

  unless_keeps : (v : Value) (go : Stepped) → KeepsRunning go → KeepsRunning (unless_odd v go)
  unless_keeps v go is = by_test (is_odd v)
    where
      by_test : (b : Bool) → KeepsRunning (if b then Wild else go)
      by_test true = tt
      by_test false = is

  -- ---- Memory

  memory_keeps : (c : Configuration) (r : Option Memory) → ((other : Memory) → r ≡ Some other → AreAlike c.memory other) → IsRunning u c → KeepsRunning (with_memory c r)
  memory_keeps c None alike is = tt
  memory_keeps c (Some other) alike is = record { owned = owned_alike u c.memory other (bases_of c) (alike other refl) is.owned; here = is.here; waiting = is.waiting }

  -- ---- Notes and places

  noted_keeps : (c : Configuration) (x : ℕ) (v : NoteValue) → IsRunning u c → KeepsRunning (noted u.statics c x v)
  noted_keeps c x (Gone change) is = record { owned = is.owned; here = record { graph = is.here.graph; place = is.here.place; rest = is.here.rest }; waiting = is.waiting }
  noted_keeps c x (Is r) is = unless_keeps (recipe_value u.statics c.here.names r) _ (record { owned = is.owned; here = record { graph = is.here.graph; place = is.here.place; rest = is.here.rest }; waiting = is.waiting })

  marked_keeps : (p : ℕ) (c : Configuration) → IsPlaceOf c.here.graph p → IsRunning u c → KeepsRunning (marked (at_place p c))
  marked_keeps p c place is = by_test (p == c.here.graph.entry)
    where
      there : IsRunning u (at_place p c)
      there = record { owned = is.owned; here = record { graph = is.here.graph; place = place; rest = is.here.rest }; waiting = is.waiting }

      by_test : (b : Bool) → KeepsRunning (if b then Goes (at_place p c) else Shows (Stop (frame (at_place p c).here ∷ map frame c.waiting) c.memory) (at_place p c))
      by_test true = there
      by_test false = there

  -- ---- Blocks

  entered_keeps : (c : Configuration) (l : ℕ) (r : Option Block) → slice_get c.here.graph.blocks l ≡ r → IsRunning u c → KeepsRunning (entered c l r)
  entered_keeps c l None there is = tt
  entered_keeps c l (Some b) there is = record {
    owned = is.owned;
    here = record { graph = is.here.graph; place = is.here.place; rest = λ place among. inr (record { number = l; block = b; is = there; marker = among }) };
    waiting = is.waiting;
  }

  go_keeps : (c : Configuration) (l : ℕ) → IsRunning u c → KeepsRunning (go_to c l)
  go_keeps c l is = entered_keeps c l (slice_get c.here.graph.blocks l) refl is

  branched_keeps : (c : Configuration) (r : Option Bool) (l k : ℕ) → IsRunning u c → KeepsRunning (branched c r l k)
  branched_keeps c None l k is = tt
  branched_keeps c (Some true) l k is = go_keeps c l is
  branched_keeps c (Some false) l k is = go_keeps c k is

  exited_keeps : (v : Value) → KeepsRunning (exited v)
  exited_keeps (Number w) = tt
  exited_keeps (Pointer object size offset) = tt
  exited_keeps Odd = tt

  -- ---- Returns

  returned_keeps : (memory : Memory) (input : List ℕ) (v : Value) (waiting : List Activation) → AreOwned u memory (map base_of waiting) → AllByRecursion (IsActivation u) waiting → KeepsRunning (returned memory input v waiting)
  returned_keeps memory input v [] owned all = exited_keeps v
  returned_keeps memory input v (a ∷ waiting) owned all = record { owned = subst (λ b. AreOwned u memory (b ∷ map base_of waiting)) (sym (same_base a.wants v a)) owned; here = wanted_taken a.wants v a all.0; waiting = all.1 }

  leave_keeps : (c : Configuration) (v : Value) → IsRunning u c → KeepsRunning (leave c v)
  leave_keeps c v is = returned_keeps (ended_from c.here.first_object c.memory) c.input v c.waiting (owned_behind u c.memory (base_of c.here) (map base_of c.waiting) is.owned) is.waiting

  -- ---- Calls

  begun_keeps : (memory : Memory) (input : List ℕ) (function : ℕ) (vs : List Value) (waiting : List Activation) (g : Graph) (b : Block) → slice_get u.graphs function ≡ Some g → slice_get g.blocks 0 ≡ Some b → AreOwned u memory (map base_of waiting) → AllByRecursion (IsActivation u) waiting
      → IsRunning u (begun memory input function vs waiting g b)
  begun_keeps memory input function vs waiting g b of first owned all = record {
    owned = owned_alike u (with_objects (length waiting + 1) g memory) (bind_objects (length memory) g.parameters vs (with_objects (length waiting + 1) g memory)) (record { function = function; graph = g; first = length memory } ∷ map base_of waiting)
        (bound_alike (length memory) g.parameters vs (with_objects (length waiting + 1) g memory)) (owned_called u memory (map base_of waiting) function (length waiting) g (length-map waiting base_of) owned);
    here = record { graph = of; place = inl refl; rest = λ place among. inr (record { number = 0; block = b; is = first; marker = among }) };
    waiting = all;
  }

  IsRunningIf : Option Configuration → Type 0
  IsRunningIf None = Unit {0}
  IsRunningIf (Some c) = IsRunning u c

  pub enter_keeps : (memory : Memory) (input : List ℕ) (function : ℕ) (vs : List Value) (waiting : List Activation) → AreOwned u memory (map base_of waiting) → AllByRecursion (IsActivation u) waiting → (c : Configuration) → enter u memory input function vs waiting ≡ Some c → IsRunning u c
  enter_keeps memory input function vs waiting owned all c is = by_graph (slice_get u.graphs function) refl is
    where
      by_block : (g : Graph) → slice_get u.graphs function ≡ Some g → (r : Option Block) → slice_get g.blocks 0 ≡ r → option_map (begun memory input function vs waiting g) r ≡ Some c → IsRunning u c
      by_block g of None first is = absurd (none-some c is)
      by_block g of (Some b) first is = subst (IsRunning u) (same_Some (begun memory input function vs waiting g b) c is) (begun_keeps memory input function vs waiting g b of first owned all)

      by_graph : (r : Option Graph) → slice_get u.graphs function ≡ r → option_and_then (λ g. option_map (begun memory input function vs waiting g) (slice_get g.blocks 0)) r ≡ Some c → IsRunning u c
      by_graph None of is = absurd (none-some c is)
      by_graph (Some g) of is = by_block g of (slice_get g.blocks 0) refl is

  goes_keeps : (r : Option Configuration) → ((c : Configuration) → r ≡ Some c → IsRunning u c) → KeepsRunning (goes_if r)
  goes_keeps None is = tt
  goes_keeps (Some c) is = is c refl

  function_keeps : (c : Configuration) (x : Option ℕ) (function : ℕ) (vs : List Value) → IsRunning u c → KeepsRunning (call_function u c x function vs)
  function_keeps c x function vs is = by_test (length c.waiting + 1 == most_activations)
    where
      caller : IsActivation u (record c.here { wants = x })
      caller = record { graph = is.here.graph; place = is.here.place; rest = is.here.rest }

      by_test : (b : Bool) → KeepsRunning (if b then Ends TooDeep else goes_if (enter u c.memory c.input function vs (record c.here { wants = x } ∷ c.waiting)))
      by_test true = tt
      by_test false = goes_keeps (enter u c.memory c.input function vs (record c.here { wants = x } ∷ c.waiting)) (λ d e. enter_keeps c.memory c.input function vs (record c.here { wants = x } ∷ c.waiting) is.owned (caller, is.waiting) d e)

  got_keeps : (c : Configuration) (x : Option ℕ) (input : List ℕ) → IsRunning u c → KeepsRunning (got c x input)
  got_keeps c x [] is = wanted_keeps c x (Number 4294967295) c.input is
  got_keeps c x (byte ∷ input) is = wanted_keeps c x (Number byte) input is

  put_keeps : (c : Configuration) (x : Option ℕ) (v : Value) → IsRunning u c → KeepsRunning (put_out c x v)
  put_keeps c x (Number w) is = wanted_keeps c x (Number (w % 256)) c.input is
  put_keeps c x (Pointer object size offset) is = tt
  put_keeps c x Odd is = tt

  call_keeps : (c : Configuration) (x : Option ℕ) (f : Callee) (vs : List Value) → IsRunning u c → KeepsRunning (call u c x f vs)
  call_keeps c x (callee.Function f) vs is = function_keeps c x f vs is
  call_keeps c x callee.Getchar vs is = got_keeps c x c.input is
  call_keeps c x callee.Putchar vs is = put_keeps c x (first_argument vs) is
  call_keeps c x callee.Exit vs is = exited_keeps (first_argument vs)

  -- ---- Steps

  executed_keeps : (i : Instruction) (c : Configuration) → ((p : ℕ) → i ≡ Marker p → IsPlaceOf c.here.graph p) → IsRunning u c → KeepsRunning (execute u i c)
  executed_keeps (Marker p) c place is = marked_keeps p c (place p refl) is
  executed_keeps (Note x v) c place is = noted_keeps c x v is
  executed_keeps (Move x a) c place is = wrote_keeps c x (value u.statics c.here.names a) is
  executed_keeps (Operate x o a b) c place is = wrote_keeps c x (operate o (value u.statics c.here.names a) (value u.statics c.here.names b)) is
  executed_keeps (Truncate x t a) c place is = wrote_keeps c x (truncate t (value u.statics c.here.names a)) is
  executed_keeps (Same x a b) c place is = wrote_keeps c x (same (is_live c.memory) (value u.statics c.here.names a) (value u.statics c.here.names b)) is
  executed_keeps (Address x object) c place is = wrote_keeps c x (pointer_to_object c.memory (c.here.first_object + object)) is
  executed_keeps (Load x e l) c place is = wrote_some_keeps c x (read c.memory e (pointed u.statics c.memory c.here l)) is
  executed_keeps (Store e l a) c place is =
      unless_keeps (value u.statics c.here.names a) (with_memory c (write c.memory e (pointed u.statics c.memory c.here l) (value u.statics c.here.names a)))
      (memory_keeps c (write c.memory e (pointed u.statics c.memory c.here l) (value u.statics c.here.names a)) (λ other written. write_alike c.memory e (pointed u.statics c.memory c.here l) (value u.statics c.here.names a) other written) is)
  executed_keeps (Zero object words) c place is = memory_keeps c (zeroed c.memory (c.here.first_object + object) words) (λ other done. zeroed_alike c.memory (c.here.first_object + object) words other done) is
  executed_keeps (CopyWords object bytes words) c place is = memory_keeps c (option_and_then (λ all. copied c.memory (c.here.first_object + object) all words) (slice_get u.array_bytes bytes)) (λ other done. by_bytes (slice_get u.array_bytes bytes) other done) is
    where
      by_bytes : (r : Option (List ℕ)) (other : Memory) → option_and_then (λ all. copied c.memory (c.here.first_object + object) all words) r ≡ Some other → AreAlike c.memory other
      by_bytes None other done = absurd (none-some other done)
      by_bytes (Some all) other done = copied_alike c.memory (c.here.first_object + object) all words other done
  executed_keeps (Call x f all) c place is = by_test (list_any is_odd (map (value u.statics c.here.names) all))
    where
      by_test : (b : Bool) → KeepsRunning (if b then Wild else call u c x f (map (value u.statics c.here.names) all))
      by_test true = tt
      by_test false = call_keeps c x f (map (value u.statics c.here.names) all) is

  ended_keeps : (e : End) (c : Configuration) → IsRunning u c → KeepsRunning (execute_end u e c)
  ended_keeps (Jump l) c is = go_keeps c l is
  ended_keeps (Branch k a b l n) c is = branched_keeps c (holds (is_live c.memory) k (value u.statics c.here.names a) (value u.statics c.here.names b)) l n is
  ended_keeps (Return None) c is = leave_keeps c Odd is
  ended_keeps (Return (Some a)) c is = leave_keeps c (value u.statics c.here.names a) is

  stepped_keeps : (rest : List Instruction) (c : Configuration) → c.here.rest ≡ rest → IsRunning u c → KeepsRunning (step_from u rest c)
  stepped_keeps [] c same is = ended_keeps c.here.end c is
  stepped_keeps (i ∷ rest) c same is =
      executed_keeps i (record c { here = record c.here { rest = rest } }) (λ p e. is.here.rest p (subst (Among (Marker p)) (sym same) (subst (λ j. Among (Marker p) (j ∷ rest)) (sym e) front)))
      (record { owned = is.owned; here = record { graph = is.here.graph; place = is.here.place; rest = λ p among. is.here.rest p (subst (Among (Marker p)) (sym same) (behind among)) }; waiting = is.waiting })

  pub step_keeps : (c : Configuration) → IsRunning u c → KeepsRunning (step u c)
  step_keeps c is = stepped_keeps c.here.rest c refl is

  -- ---- Runs

  pub seen_keeps : (n : ℕ) (c : Configuration) → IsRunning u c → AllByRecursion (IsSeenRunning u) (seen u n c)
  seen_keeps zero c is = tt
  seen_keeps (suc n) c is = by_step (λ d next. seen_keeps n d next) (step u c) (step_keeps c is)
    where
      by_step : ((d : Configuration) → IsRunning u d → AllByRecursion (IsSeenRunning u) (seen u n d)) → (r : Stepped) → KeepsRunning r → AllByRecursion (IsSeenRunning u) (seen_after r (seen u n))
      by_step later (Goes d) next = later d next
      by_step later (Shows e d) next = (next, later d next)
      by_step later (Ends e) next = (tt, tt)
      by_step later Wild next = tt

  -- In all that is seen of a unit's run the live objects are owned, and the activations are ones of functions and stand at places of theirs.
  pub all_running : (input : List ℕ) (steps : ℕ) → AllByRecursion (IsSeenRunning u) (seen_run u input steps)
  all_running input steps = by_first (enter u (first_memory u.statics) input u.main [] []) refl
    where
      by_first : (r : Option Configuration) → enter u (first_memory u.statics) input u.main [] [] ≡ r → AllByRecursion (IsSeenRunning u) (seen_some u steps r)
      by_first None is = tt
      by_first (Some c) is = seen_keeps steps c (enter_keeps (first_memory u.statics) input u.main [] [] (owned_first u) tt c is)
