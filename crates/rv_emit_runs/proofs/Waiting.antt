-- How many activations wait behind a step of a unit: as many, where no function begins or is left.
use Rattle.std.proofs.Common.{◌≡◌, ℕ, suc, ap, refl, Option, Some, None, Bool, true, false, cond, List, [], ◌∷◌, length, map, slice_get}
use Rattle.std.specs.List.{list_any}
use Rattle.graph_core.specs.declared.value.Value.{Value}
use Rattle.graph_core.specs.declared.value.Value.TheVariants.{Number, Pointer, Odd}
use Rattle.graph_core.specs.declared.instruction.Callee.TheVariants as callee
use Rattle.graph_core.specs.Graphs.{Operand, Instruction, Marker, Note, Move, Operate, Truncate, Same, Address, Load, Store, Zero, CopyWords, Call, End, Jump, Branch, Return, Block, UnitForm}
use Rattle.graph_core.specs.Memory.{is_live, ended_from, Memory}
use Rattle.graph_core.specs.Uses.{targets_of}
use Rattle.graph_core.specs.Paths.{Among}
use Rattle.graph_core.specs.Values.{holds, is_odd}
use Rattle.graph_core.specs.Runs.{Activation, Configuration, Stepped, Goes, Shows, Ends, Wild, value, entered, branched, exited, returned, put_out, got, first_argument, execute, execute_end}
use Rattle.rv_emit_runs.proofs.Same.{StepKeeps, execute_keeps}
use Rattle.rv_emit_runs.proofs.Tracks.{calls_function}

-- Where a step goes on, as many wait.
abbrev pub KeepsWaiting : Configuration → Stepped → Type 0
KeepsWaiting c (Goes d) = d.waiting ≡ c.waiting
KeepsWaiting c (Shows e d) = Unit {0}
KeepsWaiting c (Ends e) = Unit {0}
KeepsWaiting c Wild = Unit {0}

from_same : (c : Configuration) (z : Stepped) → StepKeeps c z → KeepsWaiting c z
from_same c (Goes d) kept = kept.0.waiting
from_same c (Shows e d) kept = tt
from_same c (Ends e) kept = tt
from_same c Wild kept = tt

got_keeps : (c : Configuration) (x : Option ℕ) (input : List ℕ) → KeepsWaiting c (got c x input)
got_keeps c x [] = refl
got_keeps c x (byte ∷ input) = refl

put_keeps : (c : Configuration) (x : Option ℕ) (v : Value) → KeepsWaiting c (put_out c x v)
put_keeps c x (Number w) = tt
put_keeps c x (Pointer object size offset) = tt
put_keeps c x Odd = tt

exit_keeps : (c : Configuration) (v : Value) → KeepsWaiting c (exited v)
exit_keeps c (Number w) = tt
exit_keeps c (Pointer object size offset) = tt
exit_keeps c Odd = tt

unless_keeps : (c : Configuration) (b : Bool) (z : Stepped) → KeepsWaiting c z → KeepsWaiting c (cond b Wild z)
unless_keeps c true z kept = tt
unless_keeps c false z kept = kept

pub instruction_keeps : (u : UnitForm) (i : Instruction) (c : Configuration) → calls_function i ≡ false → KeepsWaiting c (execute u i c)
instruction_keeps u (Call x callee.Getchar all) c none = unless_keeps c (list_any is_odd (map (value u.statics c.here.names) all)) (got c x c.input) (got_keeps c x c.input)
instruction_keeps u (Call x callee.Putchar all) c none =
    unless_keeps c (list_any is_odd (map (value u.statics c.here.names) all)) (put_out c x (first_argument (map (value u.statics c.here.names) all))) (put_keeps c x (first_argument (map (value u.statics c.here.names) all)))
instruction_keeps u (Call x callee.Exit all) c none =
    unless_keeps c (list_any is_odd (map (value u.statics c.here.names) all)) (exited (first_argument (map (value u.statics c.here.names) all))) (exit_keeps c (first_argument (map (value u.statics c.here.names) all)))
instruction_keeps u (Call x (callee.Function f) all) c none = cc
instruction_keeps u (Marker p) c none = from_same c (execute u (Marker p) c) (execute_keeps u (Marker p) c tt)
instruction_keeps u (Note x v) c none = from_same c (execute u (Note x v) c) (execute_keeps u (Note x v) c tt)
instruction_keeps u (Move x a) c none = from_same c (execute u (Move x a) c) (execute_keeps u (Move x a) c tt)
instruction_keeps u (Operate x op a b) c none = from_same c (execute u (Operate x op a b) c) (execute_keeps u (Operate x op a b) c tt)
instruction_keeps u (Truncate x t a) c none = from_same c (execute u (Truncate x t a) c) (execute_keeps u (Truncate x t a) c tt)
instruction_keeps u (Same x a b) c none = from_same c (execute u (Same x a b) c) (execute_keeps u (Same x a b) c tt)
instruction_keeps u (Address x o) c none = from_same c (execute u (Address x o) c) (execute_keeps u (Address x o) c tt)
instruction_keeps u (Load x e l) c none = from_same c (execute u (Load x e l) c) (execute_keeps u (Load x e l) c tt)
instruction_keeps u (Store e l a) c none = from_same c (execute u (Store e l a) c) (execute_keeps u (Store e l a) c tt)
instruction_keeps u (Zero o w) c none = from_same c (execute u (Zero o w) c) (execute_keeps u (Zero o w) c tt)
instruction_keeps u (CopyWords o b w) c none = from_same c (execute u (CopyWords o b w) c) (execute_keeps u (CopyWords o b w) c tt)

-- An end that leads to a block.
block_keeps : (c : Configuration) (number : ℕ) (found : Option Block) → KeepsWaiting c (entered c number found)
block_keeps c number None = tt
block_keeps c number (Some b) = refl

pub end_keeps : (u : UnitForm) (e : End) (c : Configuration) (l : ℕ) → Among l (targets_of e) → KeepsWaiting c (execute_end u e c)
end_keeps u (Jump to) c l among = block_keeps c to (slice_get c.here.graph.blocks to)
end_keeps u (Branch k a b if_true if_false) c l among = by_found (holds (is_live c.memory) k (value u.statics c.here.names a) (value u.statics c.here.names b))
  where
    by_found : (found : Option Bool) → KeepsWaiting c (branched c found if_true if_false)
    by_found None = tt
    by_found (Some true) = block_keeps c if_true (slice_get c.here.graph.blocks if_true)
    by_found (Some false) = block_keeps c if_false (slice_get c.here.graph.blocks if_false)
end_keeps u (Return v) c l among = elim among [ ]

-- A return leaves one less.
abbrev pub LeavesOne : Configuration → Stepped → Type 0
LeavesOne c (Goes d) = length c.waiting ≡ suc (length d.waiting)
LeavesOne c (Shows e d) = Unit {0}
LeavesOne c (Ends e) = Unit {0}
LeavesOne c Wild = Unit {0}

pub return_leaves : (u : UnitForm) (v : Option Operand) (c : Configuration) → LeavesOne c (execute_end u (Return v) c)
return_leaves u v c = by_value v
  where
    over : (v : Value) → LeavesOne c (exited v)
    over (Number w) = tt
    over (Pointer object size offset) = tt
    over Odd = tt

    by_waiting : (memory : Memory) (v : Value) (waiting : List Activation) → c.waiting ≡ waiting → LeavesOne c (returned memory c.input v waiting)
    by_waiting memory v [] is = over v
    by_waiting memory v (a ∷ waiting) is = ap length is

    by_value : (v : Option Operand) → LeavesOne c (execute_end u (Return v) c)
    by_value None = by_waiting (ended_from c.here.first_object c.memory) Odd c.waiting refl
    by_value (Some a) = by_waiting (ended_from c.here.first_object c.memory) (value u.statics c.here.names a) c.waiting refl
