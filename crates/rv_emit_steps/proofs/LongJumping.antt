-- Jumps and calls in two words, by way of a register.
use Rattle.std.proofs.Common.{◌≡◌, ℕ, zero, suc, ◌+◌, ◌*◌, ◌<◌, ◌≤◌, ◌==◌, cond, refl, ap, ◌∙◌, subst, arith, [], Bool, true, false}
use Rattle.std.proofs.Math.Path.{fun_ext}
use Rattle.rv_code.specs.declared.instruction.Instruction.TheVariants.{Auipc, Jalr}
use Rattle.rv_machine.specs.State.{MachineState, word}
use Rattle.rv_machine.specs.Table.{acted, goes, next_pc}
use Rattle.rv_emit_words.specs.Constants.{high_part, low_part}
use Rattle.rv_emit_steps.specs.Holding.{Holding, held, with_register}
use Rattle.rv_emit_steps.specs.Doing.{writing}
use Rattle.rv_emit_steps.specs.Programs.{Program, address_of, distance, IsAt, Stands}
use Rattle.rv_emit_steps.specs.Points.{Reaches}
use Rattle.rv_emit_steps.proofs.Jumping.{distance_leads, return_does}
use Rattle.rv_emit_steps.proofs.Parts.{parts_make}
use Rattle.rv_emit_steps.proofs.Placing.{reaches_then}
use Rattle.rv_emit_steps.proofs.Registers.{register_same}
use Rattle.rv_emit_steps.proofs.Standing.{goes_on_next, index_low, stands_itself}

auipc_held : (p : Program) (s : MachineState) (index : ℕ) (b : Bool) (q n : ℕ) → Stands p s index (held s) → IsAt p index b (Auipc q n)
    → Reaches p 1 (record { state = s; shown = b }) [] (index + 1) false (writing q (word (address_of index + n * 4096)) (held s))
unfolding acted
auipc_held p s index b q n stands at =
    goes_on_next p s index b (Auipc q n) q (word (address_of index + n * 4096)) stands at (ap (λ a. goes s (next_pc s) q (word (a + n * 4096))) stands.pc) at.in_form.0 (omega arith)

-- AUIPC: the address of the word, and an upper part added to it, in a register.
pub auipc_does : (p : Program) (s : MachineState) (index : ℕ) (h : Holding) (b : Bool) (q n : ℕ) → Stands p s index h → IsAt p index b (Auipc q n)
    → Reaches p 1 (record { state = s; shown = b }) [] (index + 1) false (writing q (word (address_of index + n * 4096)) h)
auipc_does p s index h b q n stands at =
    subst (λ (g : Holding). Reaches p 1 (record { state = s; shown = b }) [] (index + 1) false (writing q (word (address_of index + n * 4096)) g)) stands.holds
    (auipc_held p s index b q n (stands_itself p s index h stands) at)

-- The upper part of a distance, and then its low part, lead as far as the distance.
parts_lead : (a h l d t : ℕ) → word (h * 4096 + l) ≡ d → word (a + d) ≡ t → word (word (a + h * 4096) + l) ≡ t
parts_lead a h l d t parts leads = omega (arith, parts, leads)

-- A jump in two words goes to the word at its distance from the first of them, with the address behind the second in a register; by way of another register, which holds something else then.
pub long_jump_does : (p : Program) (s : MachineState) (index : ℕ) (h : Holding) (to : ℕ) (b : Bool) (r q : ℕ) → Stands p s index h → 0 < q → index < 1000000000 → to ≤ 1000000000
    → IsAt p index b (Auipc q (high_part (distance index to))) → IsAt p (index + 1) false (Jalr r q (low_part (distance index to)))
    → Reaches p 2 (record { state = s; shown = b }) [] to false (writing r (address_of (index + 1 + 1)) (writing q (word (address_of index + high_part (distance index to) * 4096)) h))
long_jump_does p s index h to b r q stands some low fits upper lower =
    let d : ℕ = distance index to in
    let v : ℕ = word (address_of index + high_part d * 4096) in
    let first = auipc_does p s index h b q (high_part d) stands upper in
    let parts : word (high_part d * 4096 + low_part d) ≡ d = parts_make d (omega arith) in
    let leads : word (v + low_part d) ≡ address_of to = parts_lead (address_of index) (high_part d) (low_part d) d (address_of to) parts (distance_leads index to low fits) in
    let there : word ((writing q v h).registers q + low_part d) ≡ address_of to = ap (λ x. word (x + low_part d)) (register_same q v h.registers some) ∙ leads in
    let second = return_does p first.state (index + 1) (writing q v h) to false r q (low_part d) first.stands lower there in
    reaches_then p 1 1 (record { state = s; shown = b }) [] (index + 1) false (writing q v h) [] to false (writing r (address_of (index + 1 + 1)) (writing q v h)) first second

-- ---- Calls

with_twice : (r v w : ℕ) (registers : ℕ → ℕ) → with_register r v (with_register r w registers) ≡ with_register r v registers
with_twice zero v w registers = refl
with_twice (suc r) v w registers = fun_ext (λ q. go (q == suc r) (registers q))
  where
    go : (b : Bool) (n : ℕ) → cond b v (cond b w n) ≡ cond b v n
    go true n = refl
    go false n = refl

-- Of two writings of a register the later counts.
writing_twice : (r v w : ℕ) (h : Holding) → writing r v (writing r w h) ≡ writing r v h
writing_twice r v w h = ap (λ (f : ℕ → ℕ). record h { registers = f }) (with_twice r v w h.registers)

-- A call in two words, by way of the register that takes the address behind it.
pub long_call_does : (p : Program) (s : MachineState) (index : ℕ) (h : Holding) (to : ℕ) (b : Bool) (r : ℕ) → Stands p s index h → 0 < r → index < 1000000000 → to ≤ 1000000000
    → IsAt p index b (Auipc r (high_part (distance index to))) → IsAt p (index + 1) false (Jalr r r (low_part (distance index to)))
    → Reaches p 2 (record { state = s; shown = b }) [] to false (writing r (address_of (index + 1 + 1)) h)
long_call_does p s index h to b r stands some low fits upper lower =
    subst (λ (g : Holding). Reaches p 2 (record { state = s; shown = b }) [] to false g)
    (writing_twice r (address_of (index + 1 + 1)) (word (address_of index + high_part (distance index to) * 4096)) h)
    (long_jump_does p s index h to b r r stands some low fits upper lower)
