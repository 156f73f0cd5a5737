-- Code that goes straight on: it does to what the machine holds what its instructions do, one behind the other.
use Rattle.std.proofs.Common.{◌≡◌, ℕ, ◌+◌, ◌*◌, ◌<◌, ap, ◌∙◌, subst, arith, refl, List, [], ◌∷◌, length, Bool, false}
use Rattle.memory_map.specs.declared.map.Map.{Map}
use Rattle.rv_code.specs.declared.instruction.LoadOperation.{LoadOperation}
use Rattle.rv_code.specs.declared.instruction.StoreOperation.{StoreOperation}
use Rattle.rv_code.specs.declared.instruction.Instruction.{Instruction}
use Rattle.rv_code.specs.declared.instruction.Instruction.TheVariants.{Lui, Auipc, Jal, Jalr, Branch, Load, Store, Immediate, Register, Fence, Ecall, Ebreak}
use Rattle.rv_machine.specs.State.{MachineState, reg, word}
use Rattle.rv_machine.specs.Table.{acted, next_pc, on_load, on_store, load_size, store_size, operation_result, operated_immediate}
use Rattle.rv_emit_steps.specs.Holding.{Holding, held, memory_of, loaded_at, IsDataAt, with_bytes}
use Rattle.rv_emit_steps.specs.Doing.{writing, storing, done_by, CanDo, done_by_all, CanDoAll}
use Rattle.rv_emit_steps.specs.Programs.{Program, IsAt, CodeAt, behind, Stands}
use Rattle.rv_emit_steps.specs.Points.{Leads, Reaches}
use Rattle.rv_emit_steps.proofs.Leading.{leads_nowhere, leads_then, one_goes}
use Rattle.rv_emit_steps.proofs.Bytes.{loads}
use Rattle.rv_emit_steps.proofs.Storing.{Stored, stores}
use Rattle.rv_emit_steps.proofs.Apart.{bytes_in_range, loaded_in_range}
use Rattle.rv_emit_steps.proofs.Operating.{operated_in_range, operated_immediate_in_range}
use Rattle.rv_emit_steps.proofs.Standing.{effect_there, stop_there, index_low, code_short, next_address, goes_on_next, stands_itself}

-- A store.
store_reaches : (p : Program) (s : MachineState) (index : ℕ) (b : Bool) (op : StoreOperation) (q a n : ℕ) → Stands p s index (held s) → IsAt p index b (Store op q a n)
    → IsDataAt s.map (store_size op) (word (reg s a + n)) → Reaches p 1 (record { state = s; shown = b }) [] (index + 1) false (storing (store_size op) (word (reg s a + n)) (reg s q) (held s))
unfolding acted
store_reaches p s index b op q a n stands at allowed =
    let made : Stored s op (word (reg s a + n)) (reg s q) = stores s op (word (reg s a + n)) (reg s q) (code_short p s index (held s) stands) stands.bytes stands.stack allowed in
    let t : MachineState = record made.state { pc = next_pc s } in
    record {
      state = t;
      leads = one_goes p.stops s t b (stop_there p s index (held s) b (Store op q a n) stands at) (effect_there p s index (held s) b (Store op q a n) stands at ∙ ap (on_store s) made.is);
      stands = record {
        code = made.code ∙ stands.code;
        pc = next_address p s index (held s) stands (index_low p index b (Store op q a n) at);
        registers = ap (λ (l : List ℕ). length l) made.registers ∙ stands.registers;
        map = made.map ∙ stands.map;
        bytes = made.bytes ∙ stands.bytes;
        stack = made.stack ∙ stands.stack;
        holds = ap (λ (l : List ℕ). record { registers = reg (record s { registers = l }); memory = memory_of made.state.map made.state.bytes made.state.stack; input = made.state.input; regions = made.state.map }) made.registers
            ∙ ap (λ (m : Map). record { registers = reg s; memory = memory_of m made.state.bytes made.state.stack; input = made.state.input; regions = m }) made.map
            ∙ ap (λ (m : ℕ → ℕ). record { registers = reg s; memory = m; input = made.state.input; regions = s.map }) made.memory
            ∙ ap (λ (l : List ℕ). record { registers = reg s; memory = with_bytes (store_size op) (word (reg s a + n)) (reg s q) (memory_of s.map s.bytes s.stack); input = l; regions = s.map }) made.input;
        in_range = record {
          none = stands.in_range.none;
          words = stands.in_range.words;
          bytes = bytes_in_range (store_size op) (word (reg s a + n)) (reg s q) (memory_of s.map s.bytes s.stack) stands.in_range.bytes;
          input = stands.in_range.input;
        };
      };
    }

-- A load.
load_reaches : (p : Program) (s : MachineState) (index : ℕ) (b : Bool) (op : LoadOperation) (r a n : ℕ) → Stands p s index (held s) → IsAt p index b (Load op r a n)
    → IsDataAt s.map (load_size op) (word (reg s a + n)) → Reaches p 1 (record { state = s; shown = b }) [] (index + 1) false (writing r (loaded_at op (memory_of s.map s.bytes s.stack) (word (reg s a + n))) (held s))
unfolding acted
load_reaches p s index b op r a n stands at allowed =
    goes_on_next p s index b (Load op r a n) r (loaded_at op (memory_of s.map s.bytes s.stack) (word (reg s a + n))) stands at
    (ap (on_load s r) (loads s op (word (reg s a + n)) (code_short p s index (held s) stands) allowed)) at.in_form.0
    (loaded_in_range op (word (reg s a + n)) (memory_of s.map s.bytes s.stack) stands.in_range.bytes)

-- One instruction that goes straight on.
step_held : (p : Program) (s : MachineState) (index : ℕ) (b : Bool) (i : Instruction) → Stands p s index (held s) → IsAt p index b i → CanDo i (held s)
    → Reaches p 1 (record { state = s; shown = b }) [] (index + 1) false (done_by i (held s))
unfolding acted
step_held p s index b (Lui r n) stands at can =
    let small : n < 1048576 = at.in_form.1 in
    goes_on_next p s index b (Lui r n) r (n * 4096) stands at refl at.in_form.0 (omega arith)
step_held p s index b (Auipc r n) stands at can = absurd can
step_held p s index b (Jal r n) stands at can = absurd can
step_held p s index b (Jalr r a n) stands at can = absurd can
step_held p s index b (Branch op a q n) stands at can = absurd can
step_held p s index b (Load op r a n) stands at can = load_reaches p s index b op r a n stands at can
step_held p s index b (Store op q a n) stands at can = store_reaches p s index b op q a n stands at can
step_held p s index b (Immediate op r a n) stands at can =
    goes_on_next p s index b (Immediate op r a n) r (operated_immediate op (reg s a) n) stands at refl at.in_form.0 (operated_immediate_in_range op (reg s a) n (stands.in_range.words a) at.in_form.2)
step_held p s index b (Register op r a q) stands at can =
    goes_on_next p s index b (Register op r a q) r (operation_result op (reg s a) (reg s q)) stands at refl at.in_form.0 (operated_in_range op (reg s a) (reg s q) (stands.in_range.words a) (stands.in_range.words q))
step_held p s index b (Fence r a n) stands at can = absurd can
step_held p s index b Ecall stands at can = absurd can
step_held p s index b Ebreak stands at can = absurd can

pub step_does : (p : Program) (s : MachineState) (index : ℕ) (h : Holding) (b : Bool) (i : Instruction) → Stands p s index h → IsAt p index b i → CanDo i h
    → Reaches p 1 (record { state = s; shown = b }) [] (index + 1) false (done_by i h)
step_does p s index h b i stands at =
    subst (λ (g : Holding). CanDo i g → Reaches p 1 (record { state = s; shown = b }) [] (index + 1) false (done_by i g)) stands.holds
    (λ can. step_held p s index b i (stands_itself p s index h stands) at can)

-- Code that goes straight on does what its instructions do, in as many steps, and nothing is seen.
pub code_does : (p : Program) (s : MachineState) (index : ℕ) (h : Holding) (b : Bool) (code : List Instruction) → Stands p s index h → CodeAt p index b code → CanDoAll code h
    → Reaches p (length code) (record { state = s; shown = b }) [] (index + length code) (behind b code) (done_by_all code h)
code_does p s index h b [] stands at can = record {
  state = s;
  leads = leads_nowhere p.stops (record { state = s; shown = b });
  stands = let e : index ≡ index + 0 = omega arith in subst (λ j. Stands p s j h) e stands;
}
code_does p s index h b (i ∷ more) stands at can =
    let first = step_does p s index h b i stands at.0 can.0 in
    let rest = code_does p first.state (index + 1) (done_by i h) false more first.stands at.1 can.1 in
    let e : index + 1 + length more ≡ index + length (i ∷ more) = omega arith in
    let n : 1 + length more ≡ length (i ∷ more) = omega arith in
    record {
      state = rest.state;
      leads = subst (λ m. Leads p.stops m (record { state = s; shown = b }) [] (record { state = rest.state; shown = false })) n
          (leads_then p.stops 1 (length more) (record { state = s; shown = b }) [] (record { state = first.state; shown = false }) [] (record { state = rest.state; shown = false }) first.leads (shown_none p.stops (length more) first.state rest.state more rest.leads));
      stands = subst (λ j. Stands p rest.state j (done_by_all more (done_by i h))) e rest.stands;
    }
  where
    shown_none : (stops : List ℕ) (n : ℕ) (t u : MachineState) (code : List Instruction) → Leads stops n (record { state = t; shown = false }) [] (record { state = u; shown = behind false code })
        → Leads stops n (record { state = t; shown = false }) [] (record { state = u; shown = false })
    shown_none stops n t u [] h = h
    shown_none stops n t u (i ∷ code) h = h
