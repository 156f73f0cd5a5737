-- A loop that goes straight on through its body and ends in a branch to its beginning.
use Rattle.std.proofs.Common.{◌≡◌, ◌≢◌, ℕ, zero, suc, ◌+◌, ◌*◌, ◌<◌, sym, ap, ◌∙◌, subst, arith, refl, List, [], ◌∷◌, ◌++◌, length, true, false}
use Rattle.std.specs.Prelude.{not, ◌==◌}
use Rattle.std.proofs.lemmas.Bool.{eq-eqb, ne_eqb}
use Rattle.std.proofs.Math.Nat.{mul-suc}
use Rattle.word_base.specs.Arithmetic.{subtracted}
use Rattle.rv_code.specs.declared.instruction.Instruction.{Instruction}
use Rattle.rv_code.specs.declared.instruction.Instruction.TheVariants.{Branch}
use Rattle.rv_code.specs.declared.instruction.BranchOperation.TheVariants.{Bne}
use Rattle.rv_machine.specs.State.{MachineState, word}
use Rattle.rv_machine.specs.Table.{taken}
use Rattle.rv_emit_steps.specs.Holding.{Holding}
use Rattle.rv_emit_steps.specs.Doing.{done_by_all, CanDoAll}
use Rattle.rv_emit_steps.specs.Programs.{Program, address_of, IsAt, CodeAt, behind, Stands}
use Rattle.rv_emit_steps.specs.Points.{Reaches}
use Rattle.rv_emit_steps.proofs.Standing.{index_low}
use Rattle.rv_emit_steps.proofs.Straight.{code_does}
use Rattle.rv_emit_steps.proofs.Jumping.{branch_taken, branch_not_taken}
use Rattle.rv_emit_steps.proofs.Placing.{code_front, code_rest, reaches_then}

-- What holds while so many turns are left, and what one turn makes of it.
pub record Turns (body : List Instruction) (limit : ℕ) (Left : ℕ → Holding → Type 0) : Type 1 where
  pub can : (k : ℕ) (h : Holding) → Left (suc k) h → CanDoAll body h
  pub next : (k : ℕ) (h : Holding) → Left (suc k) h → Left k (done_by_all body h)
  pub ends : (h : Holding) → Left zero h → h.registers 6 ≡ h.registers limit
  pub goes : (k : ℕ) (h : Holding) → Left (suc k) h → h.registers 6 ≢ h.registers limit

-- The loop has ended, behind so many instructions.
pub record LoopDone (p : Program) (s : MachineState) (first count : ℕ) (end : ℕ) (Left : ℕ → Holding → Type 0) : Type 0 where
  pub holding : Holding
  pub reaches : Reaches p count (record { state = s; shown = false }) [] end false holding
  pub left : Left zero holding

not_behind : (code : List Instruction) → behind false code ≡ false
not_behind [] = refl
not_behind (i ∷ code) = refl

back_leads : (first many : ℕ) → first + many < 1000000000 → word (address_of (first + many) + subtracted 0 (4 * many)) ≡ address_of first
back_leads first many low = omega arith

one_more : (x k : ℕ) → x + x * (k + 1) ≡ x * (suc k + 1)
one_more x k =
    let e : suc k + 1 ≡ suc (k + 1) = omega arith in
    let m : x * suc (k + 1) ≡ x * (k + 1) + x = mul-suc x (k + 1) in
    let sum : x + x * (k + 1) ≡ x * (k + 1) + x = omega arith in
    sum ∙ sym m ∙ ap (λ n. x * n) (sym e)

module _ (p : Program) (first : ℕ) (body : List Instruction) (limit : ℕ) (Left : ℕ → Holding → Type 0) (turns : Turns body limit Left) (there : CodeAt p first false (body ++ Branch Bne 6 limit (subtracted 0 (4 * length body)) ∷ [])) where
  at_branch : IsAt p (first + length body) false (Branch Bne 6 limit (subtracted 0 (4 * length body)))
  at_branch = subst (λ b. IsAt p (first + length body) b (Branch Bne 6 limit (subtracted 0 (4 * length body)))) (not_behind body) (code_rest p first false body (Branch Bne 6 limit (subtracted 0 (4 * length body)) ∷ []) there).0

  -- One turn, up to the branch.
  body_done : (s : MachineState) (h : Holding) (k : ℕ) → Stands p s first h → Left (suc k) h → Reaches p (length body) (record { state = s; shown = false }) [] (first + length body) false (done_by_all body h)
  body_done s h k stands left =
      subst (λ b. Reaches p (length body) (record { state = s; shown = false }) [] (first + length body) b (done_by_all body h)) (not_behind body)
      (code_does p s first h false body stands (code_front p first false body (Branch Bne 6 limit (subtracted 0 (4 * length body)) ∷ []) there) (turns.can k h left))

  -- The loop, where a turn is left.
  pub loop_done : (k : ℕ) (s : MachineState) (h : Holding) → Stands p s first h → Left (suc k) h → LoopDone p s first ((length body + 1) * (k + 1)) (first + length body + 1) Left
  unfolding taken
  loop_done zero s h stands left =
      let once = body_done s h zero stands left in
      let g : Holding = done_by_all body h in
      let done : Left zero g = turns.next zero h left in
      let test : not (g.registers 6 == g.registers limit) ≡ false = ap not (eq-eqb (g.registers 6) (g.registers limit) (turns.ends g done)) in
      let last = branch_not_taken p once.state (first + length body) g false Bne 6 limit (subtracted 0 (4 * length body)) once.stands at_branch test in
      let n : length body + 1 ≡ (length body + 1) * (0 + 1) = omega arith in
      record {
        holding = g;
        reaches = subst (λ m. Reaches p m (record { state = s; shown = false }) [] (first + length body + 1) false g) n (reaches_then p (length body) 1 (record { state = s; shown = false }) [] (first + length body) false g [] (first + length body + 1) false g once last);
        left = done;
      }
  loop_done (suc k) s h stands left =
      let once = body_done s h (suc k) stands left in
      let g : Holding = done_by_all body h in
      let more : Left (suc k) g = turns.next (suc k) h left in
      let test : not (g.registers 6 == g.registers limit) ≡ true = ap not (ne_eqb (g.registers 6) (g.registers limit) (turns.goes k g more)) in
      let low = index_low p (first + length body) false (Branch Bne 6 limit (subtracted 0 (4 * length body))) at_branch in
      let back = branch_taken p once.state (first + length body) g first false Bne 6 limit (subtracted 0 (4 * length body)) once.stands at_branch test (back_leads first (length body) low) in
      let turn = reaches_then p (length body) 1 (record { state = s; shown = false }) [] (first + length body) false g [] first false g once back in
      let rest = loop_done k turn.state g turn.stands more in
      let n : length body + 1 + (length body + 1) * (k + 1) ≡ (length body + 1) * (suc k + 1) = one_more (length body + 1) k in
      record {
        holding = rest.holding;
        reaches = subst (λ m. Reaches p m (record { state = s; shown = false }) [] (first + length body + 1) false rest.holding) n
            (reaches_then p (length body + 1) ((length body + 1) * (k + 1)) (record { state = s; shown = false }) [] first false g [] (first + length body + 1) false rest.holding turn rest.reaches);
        left = rest.left;
      }
