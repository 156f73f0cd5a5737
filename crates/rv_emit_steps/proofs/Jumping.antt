-- Jumps, calls, returns and branches.
use Rattle.std.proofs.Common.{◌≡◌, ℕ, ◌+◌, ◌*◌, ◌/◌, ◌%◌, ◌<◌, ◌≤◌, ap, ◌∙◌, subst, arith, [], Bool, true, false, cond}
use Rattle.std.specs.Prelude.{◌==◌}
use Rattle.std.proofs.lemmas.Bool.{eq-eqb}
use Rattle.rv_code.specs.declared.instruction.BranchOperation.{BranchOperation}
use Rattle.rv_code.specs.declared.instruction.Instruction.TheVariants.{Jal, Jalr, Branch}
use Rattle.rv_machine.specs.declared.event.Event.TheVariants.{Fault}
use Rattle.rv_machine.specs.State.{MachineState, reg, word}
use Rattle.rv_machine.specs.Table.{acted, goes, stays, jumps, next_pc, taken}
use Rattle.rv_emit_steps.specs.Holding.{Holding, held}
use Rattle.rv_emit_steps.specs.Doing.{writing}
use Rattle.rv_emit_steps.specs.Programs.{Program, address_of, distance, IsAt, Stands}
use Rattle.rv_emit_steps.specs.Points.{Reaches}
use Rattle.rv_emit_steps.proofs.Standing.{index_low, next_address, goes_to, goes_on_next, stands_itself}

-- ---- Distances

-- The distance from one word of the code to another leads there.
pub distance_leads : (i j : ℕ) → i < 1000000000 → j ≤ 1000000000 → word (address_of i + distance i j) ≡ address_of j
distance_leads i j hi hj = omega arith

-- ---- Where they go

-- A jump to a word of the code goes there.
jumps_to : (s : MachineState) (to j r v : ℕ) → to ≡ address_of j → jumps s to r v ≡ goes s (address_of j) r v
jumps_to s to j r v e =
    let even : (to % 4 == 0) ≡ true = eq-eqb (to % 4) 0 (omega arith) in
    ap (λ b. cond b (goes s to r v) (stays s (Fault s.pc))) even ∙ ap (λ a. goes s a r v) e

jump_held : (p : Program) (s : MachineState) (index j : ℕ) (b : Bool) (r n : ℕ) → Stands p s index (held s) → IsAt p index b (Jal r n) → word (address_of index + n) ≡ address_of j
    → Reaches p 1 (record { state = s; shown = b }) [] j false (writing r (address_of (index + 1)) (held s))
unfolding acted
jump_held p s index j b r n stands at leads =
    let low : index < 1000000000 = index_low p index b (Jal r n) at in
    let there : word (s.pc + n) ≡ address_of j = ap (λ a. word (a + n)) stands.pc ∙ leads in
    goes_to p s index j b (Jal r n) r (address_of (index + 1)) stands at
    (jumps_to s (word (s.pc + n)) j r (next_pc s) there ∙ ap (λ v. goes s (address_of j) r v) (next_address p s index (held s) stands low)) at.in_form.0 (omega arith)

-- JAL: to the word at a distance, with the address of the next word in a register.
pub jump_does : (p : Program) (s : MachineState) (index : ℕ) (h : Holding) (j : ℕ) (b : Bool) (r n : ℕ) → Stands p s index h → IsAt p index b (Jal r n) → word (address_of index + n) ≡ address_of j
    → Reaches p 1 (record { state = s; shown = b }) [] j false (writing r (address_of (index + 1)) h)
jump_does p s index h j b r n stands at leads =
    subst (λ (g : Holding). Reaches p 1 (record { state = s; shown = b }) [] j false (writing r (address_of (index + 1)) g)) stands.holds
    (jump_held p s index j b r n (stands_itself p s index h stands) at leads)

return_held : (p : Program) (s : MachineState) (index j : ℕ) (b : Bool) (r a n : ℕ) → Stands p s index (held s) → IsAt p index b (Jalr r a n) → word (reg s a + n) ≡ address_of j
    → Reaches p 1 (record { state = s; shown = b }) [] j false (writing r (address_of (index + 1)) (held s))
unfolding acted
return_held p s index j b r a n stands at leads =
    let low : index < 1000000000 = index_low p index b (Jalr r a n) at in
    let there : word (reg s a + n) / 2 * 2 ≡ address_of j = omega (arith, leads) in
    goes_to p s index j b (Jalr r a n) r (address_of (index + 1)) stands at
    (jumps_to s (word (reg s a + n) / 2 * 2) j r (next_pc s) there ∙ ap (λ v. goes s (address_of j) r v) (next_address p s index (held s) stands low)) at.in_form.0 (omega arith)

-- JALR: to the word at an address that a register holds, with the address of the next word in a register.
pub return_does : (p : Program) (s : MachineState) (index : ℕ) (h : Holding) (j : ℕ) (b : Bool) (r a n : ℕ) → Stands p s index h → IsAt p index b (Jalr r a n) → word (h.registers a + n) ≡ address_of j
    → Reaches p 1 (record { state = s; shown = b }) [] j false (writing r (address_of (index + 1)) h)
return_does p s index h j b r a n stands at =
    subst (λ (g : Holding). word (g.registers a + n) ≡ address_of j → Reaches p 1 (record { state = s; shown = b }) [] j false (writing r (address_of (index + 1)) g)) stands.holds
    (λ leads. return_held p s index j b r a n (stands_itself p s index h stands) at leads)

-- ---- Branches

taken_held : (p : Program) (s : MachineState) (index j : ℕ) (b : Bool) (op : BranchOperation) (q a n : ℕ) → Stands p s index (held s) → IsAt p index b (Branch op q a n)
    → taken op (reg s q) (reg s a) ≡ true → word (address_of index + n) ≡ address_of j → Reaches p 1 (record { state = s; shown = b }) [] j false (held s)
unfolding acted
taken_held p s index j b op q a n stands at test leads =
    let there : word (s.pc + n) ≡ address_of j = ap (λ x. word (x + n)) stands.pc ∙ leads in
    goes_to p s index j b (Branch op q a n) 0 0 stands at
    (ap (λ c. cond c (jumps s (word (s.pc + n)) 0 0) (goes s (next_pc s) 0 0)) test ∙ jumps_to s (word (s.pc + n)) j 0 0 there) (omega arith) (omega arith)

not_taken_held : (p : Program) (s : MachineState) (index : ℕ) (b : Bool) (op : BranchOperation) (q a n : ℕ) → Stands p s index (held s) → IsAt p index b (Branch op q a n)
    → taken op (reg s q) (reg s a) ≡ false → Reaches p 1 (record { state = s; shown = b }) [] (index + 1) false (held s)
unfolding acted
not_taken_held p s index b op q a n stands at test =
    goes_on_next p s index b (Branch op q a n) 0 0 stands at (ap (λ c. cond c (jumps s (word (s.pc + n)) 0 0) (goes s (next_pc s) 0 0)) test) (omega arith) (omega arith)

-- A branch that is taken goes to the word at its distance.
pub branch_taken : (p : Program) (s : MachineState) (index : ℕ) (h : Holding) (j : ℕ) (b : Bool) (op : BranchOperation) (q a n : ℕ) → Stands p s index h → IsAt p index b (Branch op q a n)
    → taken op (h.registers q) (h.registers a) ≡ true → word (address_of index + n) ≡ address_of j → Reaches p 1 (record { state = s; shown = b }) [] j false h
branch_taken p s index h j b op q a n stands at =
    subst (λ (g : Holding). taken op (g.registers q) (g.registers a) ≡ true → word (address_of index + n) ≡ address_of j → Reaches p 1 (record { state = s; shown = b }) [] j false g) stands.holds
    (λ test leads. taken_held p s index j b op q a n (stands_itself p s index h stands) at test leads)

-- One that is not goes on to the next.
pub branch_not_taken : (p : Program) (s : MachineState) (index : ℕ) (h : Holding) (b : Bool) (op : BranchOperation) (q a n : ℕ) → Stands p s index h → IsAt p index b (Branch op q a n)
    → taken op (h.registers q) (h.registers a) ≡ false → Reaches p 1 (record { state = s; shown = b }) [] (index + 1) false h
branch_not_taken p s index h b op q a n stands at =
    subst (λ (g : Holding). taken op (g.registers q) (g.registers a) ≡ false → Reaches p 1 (record { state = s; shown = b }) [] (index + 1) false g) stands.holds
    (λ test. not_taken_held p s index b op q a n (stands_itself p s index h stands) at test)
