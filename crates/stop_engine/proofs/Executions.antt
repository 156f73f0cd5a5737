-- Instructions that are executed one after the other.
use Rattle.std.proofs.Common.{◌≡◌, ℕ, zero, suc, ◌+◌, ◌-◌, ◌<◌, refl, sym, ap, ◌∙◌, arith}
use Rattle.rv_machine.specs.State.{MachineState}
use Rattle.rv_machine.specs.Table.{effect}
use Rattle.stop_engine.specs.Executing.{Executes, state_after}

-- None was executed.
pub executes-none : (left : ℕ) (s : MachineState) → Executes left s left s
executes-none left s = record { count = 0; fewer = omega arith; behind = refl }

-- One was, of those that were left.
pub executes-one : (before : ℕ) (s t : MachineState) → 0 < before → t ≡ (effect s).after → Executes before s (before - 1) t
executes-one before s t some moved = record { count = 1; fewer = omega arith; behind = moved }

after-more : (k n : ℕ) (s : MachineState) → state_after (k + n) s ≡ state_after n (state_after k s)
after-more k zero s =
    let same : k + 0 ≡ k = omega arith in
    ap (λ (m : ℕ). state_after m s) same
after-more k (suc n) s =
    let same : k + suc n ≡ suc (k + n) = omega arith in
    ap (λ (m : ℕ). state_after m s) same ∙ ap (λ (x : MachineState). (effect x).after) (after-more k n s)

-- Some were, and then others: they are executed in all.
pub executes-then : (a b c : ℕ) (s t u : MachineState) → Executes a s b t → Executes b t c u → Executes a s c u
executes-then a b c s t u first second =
    let some : b + first.count ≡ a = first.fewer in
    let others : c + second.count ≡ b = second.fewer in
    record {
      count = first.count + second.count;
      fewer = omega arith;
      behind = second.behind ∙ (ap (state_after second.count) first.behind ∙ sym (after-more first.count second.count s));
    }
