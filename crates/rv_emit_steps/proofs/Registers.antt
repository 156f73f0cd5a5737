-- Registers that are written.
use Rattle.std.proofs.Common.{◌≡◌, ◌≢◌, ℕ, zero, suc, ◌<◌, ap, ◌∙◌, arith, refl, List, length, Bool, true, false, cond}
use Rattle.std.specs.Prelude.{slice_index, ◌==◌}
use Rattle.std.proofs.Math.Path.{fun_ext}
use Rattle.std.proofs.Math.ListN.{length-set}
use Rattle.std.proofs.lemmas.List.{get_or-set_same, get_or-set_other}
use Rattle.std.proofs.lemmas.Bool.{eq-eqb, ne_eqb, eqb-true}
use Rattle.rv_machine.specs.State.{with_reg}
use Rattle.rv_emit_steps.specs.Holding.{with_register}

-- ---- Registers as functions

-- The register that was written, which is not register 0.
pub register_same : (r v : ℕ) (registers : ℕ → ℕ) → 0 < r → with_register r v registers r ≡ v
register_same zero v registers some = absurd (omega arith)
register_same (suc r) v registers some = ap (λ b. cond b v (registers (suc r))) (eq-eqb (suc r) (suc r) refl)

-- Another register.
pub register_other : (r v q : ℕ) (registers : ℕ → ℕ) → q ≢ r → with_register r v registers q ≡ registers q
register_other zero v q registers ne = refl
register_other (suc r) v q registers ne = ap (λ b. cond b v (registers q)) (ne_eqb q (suc r) ne)

-- Register 0.
pub register_none : (r v : ℕ) (registers : ℕ → ℕ) → with_register r v registers 0 ≡ registers 0
register_none zero v registers = refl
register_none (suc r) v registers = ap (λ b. cond b v (registers 0)) (ne_eqb 0 (suc r) (λ e. omega arith))

-- Each register still holds a word.
pub registers_in_range : (r v : ℕ) (registers : ℕ → ℕ) → v < 4294967296 → ((q : ℕ) → registers q < 4294967296) → (q : ℕ) → with_register r v registers q < 4294967296
registers_in_range zero v registers fits old q = old q
registers_in_range (suc r) v registers fits old q = by_test (q == suc r)
  where
    by_test : (b : Bool) → cond b v (registers q) < 4294967296
    by_test true = fits
    by_test false = old q

-- ---- Registers as the machine's list of them

-- What the list says of a register after a write to one of its registers.
index_with : (registers : List ℕ) (r v : ℕ) → r < length registers → (q : ℕ) → slice_index (with_reg registers r v) q ≡ with_register r v (slice_index registers) q
index_with registers zero v low q = refl
index_with registers (suc r) v low q = by_test (q == suc r) refl
  where
    by_test : (b : Bool) → (q == suc r) ≡ b → slice_index (with_reg registers (suc r) v) q ≡ cond b v (slice_index registers q)
    by_test true e = ap (slice_index (with_reg registers (suc r) v)) (eqb-true q (suc r) e) ∙ get_or-set_same registers (suc r) v 0 low
    by_test false e = get_or-set_other registers (suc r) q v 0 (λ same. cc (eq-eqb q (suc r) same))

-- After a write the list says what the function with that write says.
pub registers_written : (registers : List ℕ) (r v : ℕ) → r < length registers → slice_index (with_reg registers r v) ≡ with_register r v (slice_index registers)
registers_written registers r v low = fun_ext (index_with registers r v low)

pub length_written : (registers : List ℕ) (r v : ℕ) → length (with_reg registers r v) ≡ length registers
length_written registers zero v = refl
length_written registers (suc r) v = length-set registers (suc r) v
