-- What a step of a unit shows, and what it leaves of where the activation is.
use Rattle.std.proofs.Common.{◌≡◌, ℕ, ◌+◌, ◌%◌, refl, Option, Some, None, Bool, true, false, cond, List, [], ◌∷◌, length, map, slice_get}
use Rattle.std.specs.Prelude.{◌==◌, option_and_then}
use Rattle.std.specs.List.{list_any}
use Rattle.graph_core.specs.declared.value.Value.{Value}
use Rattle.graph_core.specs.declared.value.Value.TheVariants.{Number, Pointer, Odd}
use Rattle.graph_core.specs.declared.value.Shadow.TheVariants as shadow
use Rattle.graph_core.specs.declared.instruction.Callee.{Callee}
use Rattle.graph_core.specs.declared.instruction.Callee.TheVariants as callee
use Rattle.graph_core.specs.Graphs.{Instruction, Marker, Note, Is, Gone, Move, Operate, Truncate, Same, Address, Load, Store, Zero, CopyWords, Call, End, Jump, Branch, Return, Block, Graph, UnitForm}
use Rattle.graph_core.specs.Values.{holds, is_odd}
use Rattle.graph_core.specs.Memory.{Memory, is_live, ended_from, read, write, zeroed, copied}
use Rattle.graph_core.specs.Runs.{Activation, Configuration, Event, Put, Exited, TooDeep, Stop, Stepped, Goes, Shows, Ends, Wild, frame, with_value_at, value, recipe_value, pointed, take_wanted, wrote_some, with_memory, at_place, entered, branched, exited, returned, put_out, got, goes_if, first_argument, enter, call_function, call, execute, execute_end, step_from, step}

-- ---- Where an activation is

-- Its function and graph, the place that it has come to, its block, and what is left of it.
pub record Spot : Type 0 where
  pub function : ℕ
  pub graph : Graph
  pub place : ℕ
  pub block : ℕ
  pub rest : List Instruction
  pub end : End

abbrev pub spot_of : Activation → Spot
spot_of a = record { function = a.function; graph = a.graph; place = a.place; block = a.block; rest = a.rest; end = a.end }

-- A step leaves it there.
abbrev pub KeepsSpot : Configuration → Stepped → Type 0
KeepsSpot c (Goes d) = spot_of d.here ≡ spot_of c.here
KeepsSpot c (Shows e d) = spot_of d.here ≡ spot_of c.here
KeepsSpot c (Ends e) = Unit {0}
KeepsSpot c Wild = Unit {0}

-- An instruction is no marker, and calls no function.
abbrev pub IsPlain : Instruction → Type 0
IsPlain (Marker p) = ⊥
IsPlain (Note x v) = Unit {0}
IsPlain (Move x a) = Unit {0}
IsPlain (Operate x op a b) = Unit {0}
IsPlain (Truncate x t a) = Unit {0}
IsPlain (Same x a b) = Unit {0}
IsPlain (Address x object) = Unit {0}
IsPlain (Load x e l) = Unit {0}
IsPlain (Store e l a) = Unit {0}
IsPlain (Zero object words) = Unit {0}
IsPlain (CopyWords object bytes words) = Unit {0}
IsPlain (Call target callee.Getchar all) = Unit {0}
IsPlain (Call target callee.Putchar all) = Unit {0}
IsPlain (Call target callee.Exit all) = Unit {0}
IsPlain (Call target (callee.Function f) all) = ⊥

-- What an activation wanted is no part of where it is.
pub wanted_spot : (wanted : Option ℕ) (v : Value) (a : Activation) → spot_of (take_wanted wanted v a) ≡ spot_of a
wanted_spot None v a = refl
wanted_spot (Some x) v a = refl

memory_spot : (c : Configuration) (later : Option Memory) → KeepsSpot c (with_memory c later)
memory_spot c None = tt
memory_spot c (Some later) = refl

unless_spot : (c : Configuration) (b : Bool) (q : Stepped) → KeepsSpot c q → KeepsSpot c (cond b Wild q)
unless_spot c true q kept = tt
unless_spot c false q kept = kept

got_spot : (c : Configuration) (wanted : Option ℕ) (input : List ℕ) → KeepsSpot c (got c wanted input)
got_spot c wanted [] = wanted_spot wanted (Number 4294967295) c.here
got_spot c wanted (byte ∷ input) = wanted_spot wanted (Number byte) c.here

put_spot : (c : Configuration) (wanted : Option ℕ) (v : Value) → KeepsSpot c (put_out c wanted v)
put_spot c wanted (Number w) = wanted_spot wanted (Number (w % 256)) c.here
put_spot c wanted (Pointer object size offset) = tt
put_spot c wanted Odd = tt

exit_spot : (c : Configuration) (v : Value) → KeepsSpot c (exited v)
exit_spot c (Number w) = tt
exit_spot c (Pointer object size offset) = tt
exit_spot c Odd = tt

pub execute_spot : (u : UnitForm) (x : Instruction) (c : Configuration) → IsPlain x → KeepsSpot c (execute u x c)
execute_spot u (Marker p) c is = absurd is
execute_spot u (Note x (Gone change)) c is = refl
execute_spot u (Note x (Is r)) c is =
    unless_spot c (is_odd (recipe_value u.statics c.here.names r)) (Goes (record c { here = record c.here { shadows = with_value_at c.here.shadows x (shadow.Known (recipe_value u.statics c.here.names r)) } })) refl
execute_spot u (Move x a) c is = refl
execute_spot u (Operate x op a b) c is = refl
execute_spot u (Truncate x t a) c is = refl
execute_spot u (Same x a b) c is = refl
execute_spot u (Address x object) c is = refl
execute_spot u (Load x e l) c is = by_value (read c.memory e (pointed u.statics c.memory c.here l))
  where
    by_value : (found : Option Value) → KeepsSpot c (wrote_some c x found)
    by_value None = tt
    by_value (Some v) = refl
execute_spot u (Store e l a) c is =
    unless_spot c (is_odd (value u.statics c.here.names a)) (with_memory c (write c.memory e (pointed u.statics c.memory c.here l) (value u.statics c.here.names a))) (memory_spot c (write c.memory e (pointed u.statics c.memory c.here l) (value u.statics c.here.names a)))
execute_spot u (Zero object words) c is = memory_spot c (zeroed c.memory (c.here.first_object + object) words)
execute_spot u (CopyWords object bytes words) c is = memory_spot c (option_and_then (λ all. copied c.memory (c.here.first_object + object) all words) (slice_get u.array_bytes bytes))
execute_spot u (Call x callee.Getchar all) c is = unless_spot c (list_any is_odd (map (value u.statics c.here.names) all)) (got c x c.input) (got_spot c x c.input)
execute_spot u (Call x callee.Putchar all) c is =
    unless_spot c (list_any is_odd (map (value u.statics c.here.names) all)) (put_out c x (first_argument (map (value u.statics c.here.names) all))) (put_spot c x (first_argument (map (value u.statics c.here.names) all)))
execute_spot u (Call x callee.Exit all) c is =
    unless_spot c (list_any is_odd (map (value u.statics c.here.names) all)) (exited (first_argument (map (value u.statics c.here.names) all))) (exit_spot c (first_argument (map (value u.statics c.here.names) all)))
execute_spot u (Call x (callee.Function f) all) c is = absurd is

-- ---- What is shown

-- An event behind which a run goes on, and one that ends it.
abbrev pub IsOn : Event → Type 0
IsOn (Put b) = Unit {0}
IsOn (Exited status) = ⊥
IsOn TooDeep = ⊥
IsOn (Stop frames memory) = Unit {0}

abbrev pub IsLast : Event → Type 0
IsLast (Put b) = ⊥
IsLast (Exited status) = Unit {0}
IsLast TooDeep = Unit {0}
IsLast (Stop frames memory) = ⊥

-- A step that goes on shows one of these, and one that ends the run one of those.
abbrev pub ShowsRightly : Stepped → Type 0
ShowsRightly (Goes d) = Unit {0}
ShowsRightly (Shows e d) = IsOn e
ShowsRightly (Ends e) = IsLast e
ShowsRightly Wild = Unit {0}

unless_right : (b : Bool) (q : Stepped) → ShowsRightly q → ShowsRightly (cond b Wild q)
unless_right true q right = tt
unless_right false q right = right

memory_right : (c : Configuration) (later : Option Memory) → ShowsRightly (with_memory c later)
memory_right c None = tt
memory_right c (Some later) = tt

exited_right : (v : Value) → ShowsRightly (exited v)
exited_right (Number w) = tt
exited_right (Pointer object size offset) = tt
exited_right Odd = tt

put_right : (c : Configuration) (wanted : Option ℕ) (v : Value) → ShowsRightly (put_out c wanted v)
put_right c wanted (Number w) = tt
put_right c wanted (Pointer object size offset) = tt
put_right c wanted Odd = tt

got_right : (c : Configuration) (wanted : Option ℕ) (input : List ℕ) → ShowsRightly (got c wanted input)
got_right c wanted [] = tt
got_right c wanted (byte ∷ input) = tt

entered_right : (c : Configuration) (number : ℕ) (found : Option Block) → ShowsRightly (entered c number found)
entered_right c number None = tt
entered_right c number (Some b) = tt

returned_right : (memory : Memory) (input : List ℕ) (v : Value) (waiting : List Activation) → ShowsRightly (returned memory input v waiting)
returned_right memory input v [] = exited_right v
returned_right memory input v (a ∷ waiting) = tt

function_right : (u : UnitForm) (c : Configuration) (x : Option ℕ) (f : ℕ) (vs : List Value) → ShowsRightly (call_function u c x f vs)
function_right u c x f vs = by_test (length c.waiting + 1 == 1024)
  where
    by_found : (found : Option Configuration) → ShowsRightly (goes_if found)
    by_found None = tt
    by_found (Some d) = tt

    by_test : (full : Bool) → ShowsRightly (cond full (Ends TooDeep) (goes_if (enter u c.memory c.input f vs (record c.here { wants = x } ∷ c.waiting))))
    by_test true = tt
    by_test false = by_found (enter u c.memory c.input f vs (record c.here { wants = x } ∷ c.waiting))

call_right : (u : UnitForm) (c : Configuration) (x : Option ℕ) (f : Callee) (vs : List Value) → ShowsRightly (call u c x f vs)
call_right u c x (callee.Function f) vs = function_right u c x f vs
call_right u c x callee.Getchar vs = got_right c x c.input
call_right u c x callee.Putchar vs = put_right c x (first_argument vs)
call_right u c x callee.Exit vs = exited_right (first_argument vs)

execute_right : (u : UnitForm) (x : Instruction) (c : Configuration) → ShowsRightly (execute u x c)
execute_right u (Marker p) c = by_test (p == c.here.graph.entry)
  where
    by_test : (b : Bool) → ShowsRightly (cond b (Goes (at_place p c)) (Shows (Stop (frame (at_place p c).here ∷ map frame c.waiting) c.memory) (at_place p c)))
    by_test true = tt
    by_test false = tt
execute_right u (Note x (Gone change)) c = tt
execute_right u (Note x (Is r)) c =
    unless_right (is_odd (recipe_value u.statics c.here.names r)) (Goes (record c { here = record c.here { shadows = with_value_at c.here.shadows x (shadow.Known (recipe_value u.statics c.here.names r)) } })) tt
execute_right u (Move x a) c = tt
execute_right u (Operate x op a b) c = tt
execute_right u (Truncate x t a) c = tt
execute_right u (Same x a b) c = tt
execute_right u (Address x object) c = tt
execute_right u (Load x e l) c = by_value (read c.memory e (pointed u.statics c.memory c.here l))
  where
    by_value : (found : Option Value) → ShowsRightly (wrote_some c x found)
    by_value None = tt
    by_value (Some v) = tt
execute_right u (Store e l a) c =
    unless_right (is_odd (value u.statics c.here.names a)) (with_memory c (write c.memory e (pointed u.statics c.memory c.here l) (value u.statics c.here.names a))) (memory_right c (write c.memory e (pointed u.statics c.memory c.here l) (value u.statics c.here.names a)))
execute_right u (Zero object words) c = memory_right c (zeroed c.memory (c.here.first_object + object) words)
execute_right u (CopyWords object bytes words) c = memory_right c (option_and_then (λ all. copied c.memory (c.here.first_object + object) all words) (slice_get u.array_bytes bytes))
execute_right u (Call x f all) c = unless_right (list_any is_odd (map (value u.statics c.here.names) all)) (call u c x f (map (value u.statics c.here.names) all)) (call_right u c x f (map (value u.statics c.here.names) all))

end_right : (u : UnitForm) (e : End) (c : Configuration) → ShowsRightly (execute_end u e c)
end_right u (Jump l) c = entered_right c l (slice_get c.here.graph.blocks l)
end_right u (Branch k a b l m) c = by_found (holds (is_live c.memory) k (value u.statics c.here.names a) (value u.statics c.here.names b))
  where
    by_found : (found : Option Bool) → ShowsRightly (branched c found l m)
    by_found None = tt
    by_found (Some true) = entered_right c l (slice_get c.here.graph.blocks l)
    by_found (Some false) = entered_right c m (slice_get c.here.graph.blocks m)
end_right u (Return None) c = returned_right (ended_from c.here.first_object c.memory) c.input Odd c.waiting
end_right u (Return (Some a)) c = returned_right (ended_from c.here.first_object c.memory) c.input (value u.statics c.here.names a) c.waiting

pub step_right : (u : UnitForm) (c : Configuration) → ShowsRightly (step u c)
step_right u c = by_rest c.here.rest
  where
    by_rest : (rest : List Instruction) → ShowsRightly (step_from u rest c)
    by_rest [] = end_right u c.here.end c
    by_rest (i ∷ rest) = execute_right u i (record c { here = record c.here { rest = rest } })
