-- What a unit shows does not rest on its log.
use Rattle.std.proofs.Common.{◌≡◌, ℕ, zero, suc, if◌then◌else◌, Option, Some, None, List, [], ◌∷◌, map, refl, ap, ◌∙◌}
use Rattle.std.specs.List.{list_any}
use Rattle.std.proofs.Math.Path.{fun_ext}
use Rattle.graph_core.specs.declared.instruction.Callee.{Callee}
use Rattle.graph_core.specs.declared.instruction.Callee.TheVariants as callee
use Rattle.graph_core.specs.declared.value.Value.{Value}
use Rattle.graph_core.specs.Graphs.{Instruction, Marker, Note, Move, Operate, Truncate, Same, Address, Load, Store, Zero, CopyWords, Call, End, Jump, Branch, Return, Logged, UnitForm}
use Rattle.graph_core.specs.Memory.{first_memory}
use Rattle.graph_core.specs.Values.{is_odd}
use Rattle.graph_core.specs.Runs.{Configuration, Wild, value, enter, call, execute, execute_end, step_from, step, events_after, run, run_some, unit_run}

module _ (u : UnitForm) (log : List Logged) where
  -- the unit with another log
  abbrev pub other : UnitForm
  other = record u { log = log }

  call_same : (c : Configuration) (x : Option ℕ) (f : Callee) (vs : List Value) → call other c x f vs ≡ call u c x f vs
  call_same c x (callee.Function f) vs = refl
  call_same c x callee.Getchar vs = refl
  call_same c x callee.Putchar vs = refl
  call_same c x callee.Exit vs = refl

  execute_same : (i : Instruction) (c : Configuration) → execute other i c ≡ execute u i c
  execute_same (Marker p) c = refl
  execute_same (Note x v) c = refl
  execute_same (Move x a) c = refl
  execute_same (Operate x o a b) c = refl
  execute_same (Truncate x t a) c = refl
  execute_same (Same x a b) c = refl
  execute_same (Address x object) c = refl
  execute_same (Load x e l) c = refl
  execute_same (Store e l a) c = refl
  execute_same (Zero object words) c = refl
  execute_same (CopyWords object bytes words) c = refl
  execute_same (Call x f all) c =
      ap (λ s. if list_any is_odd (map (value u.statics c.here.names) all) then Wild else s) (call_same c x f (map (value u.statics c.here.names) all))

  end_same : (e : End) (c : Configuration) → execute_end other e c ≡ execute_end u e c
  end_same (Jump l) c = refl
  end_same (Branch k a b l m) c = refl
  end_same (Return None) c = refl
  end_same (Return (Some a)) c = refl

  from_same : (rest : List Instruction) (c : Configuration) → step_from other rest c ≡ step_from u rest c
  from_same [] c = end_same c.here.end c
  from_same (i ∷ rest) c = execute_same i (record c { here = record c.here { rest = rest } })

  run_same : (n : ℕ) (c : Configuration) → run other n c ≡ run u n c
  run_same zero c = refl
  run_same (suc n) c = ap (events_after (step other c)) (fun_ext (run_same n)) ∙ ap (λ s. events_after s (run u n)) (from_same c.here.rest c)

  some_same : (n : ℕ) (o : Option Configuration) → run_some other n o ≡ run_some u n o
  some_same n None = refl
  some_same n (Some c) = run_same n c

  -- What it shows does not rest on its log.
  pub unit_same : (input : List ℕ) (n : ℕ) → unit_run other input n ≡ unit_run u input n
  unit_same input n = some_same n (enter u (first_memory u.statics) input u.main [] [])
