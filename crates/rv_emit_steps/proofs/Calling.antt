-- Calls of the environment: a byte is read, a byte is put out, the run ends.
use Rattle.std.proofs.Common.{◌≡◌, ℕ, ◌+◌, ◌%◌, ◌<◌, ap, ◌∙◌, subst, arith, refl, List, [], ◌∷◌, Bool, true, false}
use Rattle.std.specs.Prelude.{◌==◌}
use Rattle.std.specs.Int.{cast_signed, w32}
use Rattle.std.specs.List.{AllByRecursion}
use Rattle.std.proofs.lemmas.Bool.{eq-eqb, ne_eqb}
use Rattle.rv_code.specs.declared.instruction.Instruction.TheVariants.{Ecall}
use Rattle.rv_machine.specs.declared.event.Event.TheVariants.{Went, Out, Exited, Depth}
use Rattle.rv_machine.specs.State.{MachineState, reg, with_reg}
use Rattle.rv_machine.specs.Table.{acted, stays, next_pc, on_input, on_call}
use Rattle.rv_machine.specs.Run.{Byte, Exit, TooDeep}
use Rattle.rv_emit_steps.specs.Holding.{Holding, held}
use Rattle.rv_emit_steps.specs.Doing.{writing}
use Rattle.rv_emit_steps.specs.Programs.{Program, address_of, IsAt, Stands}
use Rattle.rv_emit_steps.specs.Points.{Ends, Reaches}
use Rattle.rv_emit_steps.proofs.Leading.{one_goes, one_puts, one_exits, one_is_too_deep}
use Rattle.rv_emit_steps.proofs.Standing.{effect_there, stop_there, index_low, next_address, stands_gone, goes_on_next, stands_itself}

-- What a call does, by the number in a7.
call_1 : (s : MachineState) → reg s 17 ≡ 1 → acted s Ecall ≡ on_input s s.input
unfolding acted on_call
call_1 s e = let t : (reg s 17 == 1) ≡ true = eq-eqb (reg s 17) 1 e in simp t

call_2 : (s : MachineState) → reg s 17 ≡ 2 → acted s Ecall ≡ record { event = Out (reg s 10 % 256); after = record s { pc = next_pc s; registers = with_reg s.registers 10 (reg s 10 % 256) } }
unfolding acted on_call
call_2 s e =
    let t1 : (reg s 17 == 1) ≡ false = ne_eqb (reg s 17) 1 (λ f. omega arith) in
    let t2 : (reg s 17 == 2) ≡ true = eq-eqb (reg s 17) 2 e in
    simp (t1, t2)

call_3 : (s : MachineState) → reg s 17 ≡ 3 → acted s Ecall ≡ stays s Depth
unfolding acted on_call
call_3 s e =
    let t1 : (reg s 17 == 1) ≡ false = ne_eqb (reg s 17) 1 (λ f. omega arith) in
    let t2 : (reg s 17 == 2) ≡ false = ne_eqb (reg s 17) 2 (λ f. omega arith) in
    let t3 : (reg s 17 == 3) ≡ true = eq-eqb (reg s 17) 3 e in
    simp (t1, t2, t3)

call_10 : (s : MachineState) → reg s 17 ≡ 10 → acted s Ecall ≡ stays s (Exited (cast_signed w32 (reg s 10)))
unfolding acted on_call
call_10 s e =
    let t1 : (reg s 17 == 1) ≡ false = ne_eqb (reg s 17) 1 (λ f. omega arith) in
    let t2 : (reg s 17 == 2) ≡ false = ne_eqb (reg s 17) 2 (λ f. omega arith) in
    let t3 : (reg s 17 == 3) ≡ false = ne_eqb (reg s 17) 3 (λ f. omega arith) in
    let t4 : (reg s 17 == 10) ≡ true = eq-eqb (reg s 17) 10 e in
    simp (t1, t2, t3, t4)

-- ---- The input

-- What a7 and a0 hold, in what the machine holds.
register_is : (p : Program) (s : MachineState) (index : ℕ) (h : Holding) (q v : ℕ) → Stands p s index h → h.registers q ≡ v → reg s q ≡ v
register_is p s index h q v stands e = ap (λ (g : Holding). g.registers q) stands.holds ∙ e

no_input_held : (p : Program) (s : MachineState) (index : ℕ) (b : Bool) → Stands p s index (held s) → IsAt p index b Ecall → reg s 17 ≡ 1 → s.input ≡ []
    → Reaches p 1 (record { state = s; shown = b }) [] (index + 1) false (writing 10 4294967295 (held s))
no_input_held p s index b stands at a7 none =
    goes_on_next p s index b Ecall 10 4294967295 stands at (call_1 s a7 ∙ ap (on_input s) none) (omega arith) (omega arith)

-- Call 1 where there is no input left: a0 becomes the word of -1.
pub end_of_input_read : (p : Program) (s : MachineState) (index : ℕ) (h : Holding) (b : Bool) → Stands p s index h → IsAt p index b Ecall → h.registers 17 ≡ 1 → h.input ≡ []
    → Reaches p 1 (record { state = s; shown = b }) [] (index + 1) false (writing 10 4294967295 h)
end_of_input_read p s index h b stands at =
    subst (λ (g : Holding). g.registers 17 ≡ 1 → g.input ≡ [] → Reaches p 1 (record { state = s; shown = b }) [] (index + 1) false (writing 10 4294967295 g)) stands.holds
    (λ a7 none. no_input_held p s index b (stands_itself p s index h stands) at a7 none)

first_of_input : (byte : ℕ) (rest input : List ℕ) → input ≡ byte ∷ rest → AllByRecursion (λ b. b < 256) input → (byte < 256) × AllByRecursion (λ b. b < 256) rest
first_of_input byte rest input e all = let both = subst (λ (l : List ℕ). AllByRecursion (λ b. b < 256) l) e all in (both.0, both.1)

byte_held : (p : Program) (s : MachineState) (index : ℕ) (b : Bool) (byte : ℕ) (rest : List ℕ) → Stands p s index (held s) → IsAt p index b Ecall → reg s 17 ≡ 1 → s.input ≡ byte ∷ rest
    → Reaches p 1 (record { state = s; shown = b }) [] (index + 1) false (record (writing 10 byte (held s)) { input = rest })
byte_held p s index b byte rest stands at a7 some =
    let small = first_of_input byte rest s.input some stands.in_range.input in
    let fits : byte < 4294967296 = let h : byte < 256 = small.0 in omega arith in
    let gone = stands_gone p s index (index + 1) 10 byte stands (omega arith) fits in
    let to : next_pc s ≡ address_of (index + 1) = next_address p s index (held s) stands (index_low p index b Ecall at) in
    let t : MachineState = record s { pc = address_of (index + 1); registers = with_reg s.registers 10 byte; input = rest } in
    record {
      state = t;
      leads = one_goes p.stops s t b (stop_there p s index (held s) b Ecall stands at)
          (effect_there p s index (held s) b Ecall stands at ∙ call_1 s a7 ∙ ap (on_input s) some
          ∙ ap (λ (a : ℕ). record { event = Went; after = record s { pc = a; registers = with_reg s.registers 10 byte; input = rest } }) to);
      stands = record {
        code = gone.code;
        pc = refl;
        registers = gone.registers;
        map = gone.map;
        bytes = gone.bytes;
        stack = gone.stack;
        holds = ap (λ (g : Holding). record g { input = rest }) gone.holds;
        in_range = record { none = gone.in_range.none; words = gone.in_range.words; bytes = gone.in_range.bytes; input = small.1 };
      };
    }

-- Call 1 where there is input: its first byte goes to a0.
pub byte_read : (p : Program) (s : MachineState) (index : ℕ) (h : Holding) (b : Bool) (byte : ℕ) (rest : List ℕ) → Stands p s index h → IsAt p index b Ecall → h.registers 17 ≡ 1 → h.input ≡ byte ∷ rest
    → Reaches p 1 (record { state = s; shown = b }) [] (index + 1) false (record (writing 10 byte h) { input = rest })
byte_read p s index h b byte rest stands at =
    subst (λ (g : Holding). g.registers 17 ≡ 1 → g.input ≡ byte ∷ rest → Reaches p 1 (record { state = s; shown = b }) [] (index + 1) false (record (writing 10 byte g) { input = rest })) stands.holds
    (λ a7 some. byte_held p s index b byte rest (stands_itself p s index h stands) at a7 some)

-- ---- Output

put_held : (p : Program) (s : MachineState) (index : ℕ) (b : Bool) → Stands p s index (held s) → IsAt p index b Ecall → reg s 17 ≡ 2
    → Reaches p 1 (record { state = s; shown = b }) (Byte (reg s 10 % 256) ∷ []) (index + 1) false (writing 10 (reg s 10 % 256) (held s))
put_held p s index b stands at a7 =
    let to : next_pc s ≡ address_of (index + 1) = next_address p s index (held s) stands (index_low p index b Ecall at) in
    let t : MachineState = record s { pc = address_of (index + 1); registers = with_reg s.registers 10 (reg s 10 % 256) } in
    record {
      state = t;
      leads = one_puts p.stops s t b (reg s 10 % 256) (stop_there p s index (held s) b Ecall stands at)
          (effect_there p s index (held s) b Ecall stands at ∙ call_2 s a7
          ∙ ap (λ (a : ℕ). record { event = Out (reg s 10 % 256); after = record s { pc = a; registers = with_reg s.registers 10 (reg s 10 % 256) } }) to);
      stands = stands_gone p s index (index + 1) 10 (reg s 10 % 256) stands (omega arith) (omega arith);
    }

-- Call 2: the low byte of a0 is shown, and a0 becomes it.
pub byte_put : (p : Program) (s : MachineState) (index : ℕ) (h : Holding) (b : Bool) → Stands p s index h → IsAt p index b Ecall → h.registers 17 ≡ 2
    → Reaches p 1 (record { state = s; shown = b }) (Byte (h.registers 10 % 256) ∷ []) (index + 1) false (writing 10 (h.registers 10 % 256) h)
byte_put p s index h b stands at =
    subst (λ (g : Holding). g.registers 17 ≡ 2 → Reaches p 1 (record { state = s; shown = b }) (Byte (g.registers 10 % 256) ∷ []) (index + 1) false (writing 10 (g.registers 10 % 256) g)) stands.holds
    (λ a7. put_held p s index b (stands_itself p s index h stands) at a7)

-- ---- Ends

-- Call 3: the run ends because calls nest too deep.
pub ends_too_deep : (p : Program) (s : MachineState) (index : ℕ) (h : Holding) (b : Bool) → Stands p s index h → IsAt p index b Ecall → h.registers 17 ≡ 3
    → Ends p.stops 1 (record { state = s; shown = b }) (TooDeep ∷ [])
ends_too_deep p s index h b stands at a7 =
    one_is_too_deep p.stops s s b (stop_there p s index h b Ecall stands at) (effect_there p s index h b Ecall stands at ∙ call_3 s (register_is p s index h 17 3 stands a7))

-- Call 10: the run ends with the number that a0 holds.
pub ends_with_status : (p : Program) (s : MachineState) (index : ℕ) (h : Holding) (b : Bool) → Stands p s index h → IsAt p index b Ecall → h.registers 17 ≡ 10
    → Ends p.stops 1 (record { state = s; shown = b }) (Exit (cast_signed w32 (h.registers 10)) ∷ [])
ends_with_status p s index h b stands at a7 =
    one_exits p.stops s s b (cast_signed w32 (h.registers 10)) (stop_there p s index h b Ecall stands at)
    (effect_there p s index h b Ecall stands at ∙ call_10 s (register_is p s index h 17 10 stands a7) ∙ ap (λ v. stays s (Exited (cast_signed w32 v))) (register_is p s index h 10 (h.registers 10) stands refl))
