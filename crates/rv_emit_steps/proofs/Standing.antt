-- What one instruction comes to, by where it goes.
use Rattle.std.proofs.Common.{◌≡◌, ℕ, ◌+◌, ◌-◌, ◌*◌, ◌/◌, ◌%◌, ◌<◌, ◌≤◌, sym, ap, ◌∙◌, subst, arith, refl, List, [], length, Bool, false}
use Rattle.std.specs.Prelude.{slice_get, nat_lt}
use Rattle.std.proofs.lemmas.Bool.{le-ltb}
use Rattle.std.proofs.lemmas.Option.{slice_get_within}
use Rattle.memory_map.specs.Maps.{code_start, most_words}
use Rattle.memory_map.proofs.Facts.{map_facts}
use Rattle.rv_code.specs.declared.instruction.Instruction.{Instruction}
use Rattle.rv_code.specs.Encoding.{encoded}
use Rattle.rv_code.proofs.RoundTrip.{decoded_encoded}
use Rattle.rv_machine.specs.State.{MachineState, reg, with_reg}
use Rattle.rv_machine.specs.Table.{effect, effect_of_word, effect_of_instruction, acted, fetched, goes, next_pc}
use Rattle.rv_machine.specs.Run.{is_stop}
use Rattle.rv_emit_steps.specs.Holding.{Holding, held, AreInRange, memory_of}
use Rattle.rv_emit_steps.specs.Doing.{writing}
use Rattle.rv_emit_steps.specs.Programs.{Program, address_of, IsAt, Stands}
use Rattle.rv_emit_steps.specs.Points.{Reaches}
use Rattle.rv_emit_steps.proofs.Leading.{one_goes}
use Rattle.rv_emit_steps.proofs.Registers.{registers_written, length_written, register_none, registers_in_range}

-- The word that a pc names.
fetched_at : (s : MachineState) (i : ℕ) → s.pc ≡ address_of i → fetched s ≡ slice_get s.code i
unfolding fetched
fetched_at s i e =
    let a : s.pc % 4 ≡ 0 = omega arith in
    let b : nat_lt s.pc code_start ≡ false = le-ltb s.pc code_start (omega arith) in
    let c : (s.pc - code_start) / 4 ≡ i = omega arith in
    simp (a, b, c)

-- The instruction that stands where the machine stands is what it does.
pub effect_there : (p : Program) (s : MachineState) (index : ℕ) (h : Holding) (b : Bool) (i : Instruction) → Stands p s index h → IsAt p index b i → effect s ≡ acted s i
unfolding effect
effect_there p s index h b i stands at =
    ap (effect_of_word s) (fetched_at s index stands.pc ∙ ap (λ c. slice_get c index) stands.code ∙ at.there) ∙ ap (effect_of_instruction s) (decoded_encoded i at.in_form)

-- Whether it is a stop.
pub stop_there : (p : Program) (s : MachineState) (index : ℕ) (h : Holding) (b : Bool) (i : Instruction) → Stands p s index h → IsAt p index b i → is_stop p.stops s.pc ≡ b
stop_there p s index h b i stands at = ap (is_stop p.stops) stands.pc ∙ at.stop

-- The index of an instruction is less than the number of words.
pub index_low : (p : Program) (index : ℕ) (b : Bool) (i : Instruction) → IsAt p index b i → index < 1000000000
index_low p index b i at =
    let short : length p.words ≤ most_words p.map = p.short in
    let few = (map_facts p.map).few in
    let low : index < length p.words = slice_get_within p.words index (encoded i) at.there in
    omega arith

pub code_short : (p : Program) (s : MachineState) (index : ℕ) (h : Holding) → Stands p s index h → length s.code ≤ most_words s.map
code_short p s index h stands =
    subst (λ m. length s.code ≤ most_words m) (sym stands.map)
    (subst (λ n. n ≤ most_words p.map) (sym (ap (λ (l : List ℕ). length l) stands.code)) p.short)

-- The regions lie where the program has them.
pub regions_there : (p : Program) (s : MachineState) (index : ℕ) (h : Holding) → Stands p s index h → h.regions ≡ p.map
regions_there p s index h stands = sym (ap (λ (g : Holding). g.regions) stands.holds) ∙ stands.map

-- The address of the word behind it.
pub next_address : (p : Program) (s : MachineState) (index : ℕ) (h : Holding) → Stands p s index h → index < 1000000000 → next_pc s ≡ address_of (index + 1)
next_address p s index h stands low = let here : s.pc ≡ code_start + 4 * index = stands.pc in omega arith

-- The machine with a value written to a register, at another word.
pub stands_gone : (p : Program) (s : MachineState) (index j r v : ℕ) → Stands p s index (held s) → r < 32 → v < 4294967296
    → Stands p (record s { pc = address_of j; registers = with_reg s.registers r v }) j (writing r v (held s))
stands_gone p s index j r v stands low fits =
    let many : length s.registers ≡ 32 = stands.registers in
    record {
      code = stands.code;
      pc = refl;
      registers = length_written s.registers r v ∙ stands.registers;
      map = stands.map;
      bytes = stands.bytes;
      stack = stands.stack;
      holds = ap (λ (f : ℕ → ℕ). record { registers = f; memory = memory_of s.map s.bytes s.stack; input = s.input; regions = s.map }) (registers_written s.registers r v (omega arith));
      in_range = record {
        none = register_none r v (reg s) ∙ stands.in_range.none;
        words = registers_in_range r v (reg s) fits stands.in_range.words;
        bytes = stands.in_range.bytes;
        input = stands.in_range.input;
      };
    }

-- An instruction that goes to a word, with a value written to a register.
pub goes_to : (p : Program) (s : MachineState) (index j : ℕ) (b : Bool) (i : Instruction) (r v : ℕ) → Stands p s index (held s) → IsAt p index b i
    → acted s i ≡ goes s (address_of j) r v → r < 32 → v < 4294967296 → Reaches p 1 (record { state = s; shown = b }) [] j false (writing r v (held s))
goes_to p s index j b i r v stands at does low fits = record {
  state = record s { pc = address_of j; registers = with_reg s.registers r v };
  leads = one_goes p.stops s (record s { pc = address_of j; registers = with_reg s.registers r v }) b (stop_there p s index (held s) b i stands at) (effect_there p s index (held s) b i stands at ∙ does);
  stands = stands_gone p s index j r v stands low fits;
}

-- One that goes to the next word.
pub goes_on_next : (p : Program) (s : MachineState) (index : ℕ) (b : Bool) (i : Instruction) (r v : ℕ) → Stands p s index (held s) → IsAt p index b i
    → acted s i ≡ goes s (next_pc s) r v → r < 32 → v < 4294967296 → Reaches p 1 (record { state = s; shown = b }) [] (index + 1) false (writing r v (held s))
goes_on_next p s index b i r v stands at does low fits =
    goes_to p s index (index + 1) b i r v stands at (does ∙ ap (λ a. goes s a r v) (next_address p s index (held s) stands (index_low p index b i at))) low fits

-- What the machine holds, by itself.
pub stands_itself : (p : Program) (s : MachineState) (index : ℕ) (h : Holding) → Stands p s index h → Stands p s index (held s)
stands_itself p s index h stands = record {
  code = stands.code;
  pc = stands.pc;
  registers = stands.registers;
  map = stands.map;
  bytes = stands.bytes;
  stack = stands.stack;
  holds = refl;
  in_range = subst AreInRange (sym stands.holds) stands.in_range;
}
