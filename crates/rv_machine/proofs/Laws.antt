-- What holds of every instruction, by the rows of the table.
use Rattle.std.proofs.Common.{◌≡◌, ℕ, zero, suc, ◌+◌, ◌/◌, ◌%◌, ap, ◌∙◌, refl, List, [], ◌∷◌, length, Bool, true, false, cond, Option, Some, None, nat_eq}
use Rattle.std.specs.Prelude.{slice_index}
use Rattle.std.proofs.Math.ListN.{length-set}
use Rattle.rv_code.specs.declared.instruction.StoreOperation.{StoreOperation}
use Rattle.rv_code.specs.declared.instruction.StoreOperation.TheVariants.{Sb, Sh, Sw}
use Rattle.rv_code.specs.declared.instruction.Instruction.{Instruction}
use Rattle.rv_code.specs.declared.instruction.Instruction.TheVariants.{Lui, Auipc, Jal, Jalr, Branch, Load, Store, Immediate, Register, Fence, Ecall, Ebreak}
use Rattle.rv_code.specs.Decoding.{decoded}
use Rattle.rv_machine.specs.declared.event.Event.{Event}
use Rattle.rv_machine.specs.declared.event.Event.TheVariants.{Out, Exited, Depth, Fault}
use Rattle.rv_machine.specs.State.{MachineState, reg, with_reg, word}
use Rattle.rv_machine.specs.Memory.{with_half}
use Rattle.rv_machine.specs.Table.{Effect, MemoryLocation, InCode, InBytes, InStack, goes, stays, next_pc, jumps, taken, aligned_location, store_size, load_result, store_result, stored_in, stored_at, stored_where, on_load, on_store, on_input, on_call, acted, fetched, effect, effect_of_word, effect_of_instruction}
use Rattle.rv_machine.specs.Laws.{IsEnding, Kept}
use Rattle.rv_machine.proofs.Memory.{length_with_word}

-- What holds of both that a test chooses from holds of what it chooses.
choice : {A : Type 0} (P : A → Type 0) (b : Bool) (x y : A) → P x → P y → P (cond b x y)
choice P true x y p q = p
choice P false x y p q = q

-- ---- What every effect keeps, from what the three ways to go on keep

-- A fact of effects on a state that holds however the program goes on.
pub record Holds (s : MachineState) (P : Effect → Type 0) : Type 0 where
  pub going : (to r v : ℕ) → P (goes s to r v)
  pub staying : (e : Event) → IsEnding e → P (stays s e)
  pub storing : (op : StoreOperation) (a v : ℕ) → P (on_store s (store_result s op a v))
  pub reading : P (on_input s s.input)
  pub writing : (b : ℕ) → P record { event = Out b; after = record s { pc = next_pc s; registers = with_reg s.registers 10 b } }

jumps_hold : (s : MachineState) (P : Effect → Type 0) → Holds s P → (to r v : ℕ) → P (jumps s to r v)
jumps_hold s P h to r v = choice P (nat_eq (to % 4) 0) (goes s to r v) (stays s (Fault s.pc)) (h.going to r v) (h.staying (Fault s.pc) tt)

loads_hold : (s : MachineState) (P : Effect → Type 0) → Holds s P → (r : ℕ) (o : Option ℕ) → P (on_load s r o)
loads_hold s P h r None = h.staying (Fault s.pc) tt
loads_hold s P h r (Some v) = h.going (next_pc s) r v

calls_hold : (s : MachineState) (P : Effect → Type 0) → Holds s P → P (on_call s)
unfolding on_call
calls_hold s P h =
    choice P (nat_eq (reg s 17) 1) _ _ h.reading
    (choice P (nat_eq (reg s 17) 2) _ _ (h.writing (reg s 10 % 256))
    (choice P (nat_eq (reg s 17) 3) _ _ (h.staying Depth tt)
    (choice P (nat_eq (reg s 17) 10) _ _ (h.staying (Exited _) tt)
    (h.staying (Fault s.pc) tt))))

acted_holds : (s : MachineState) (P : Effect → Type 0) → Holds s P → (i : Instruction) → P (acted s i)
unfolding acted
acted_holds s P h (Lui r n) = h.going _ _ _
acted_holds s P h (Auipc r n) = h.going _ _ _
acted_holds s P h (Jal r n) = jumps_hold s P h _ _ _
acted_holds s P h (Jalr r a n) = jumps_hold s P h _ _ _
acted_holds s P h (Branch op a b n) = choice P (taken op (reg s a) (reg s b)) _ _ (jumps_hold s P h (word (s.pc + n)) 0 0) (h.going (next_pc s) 0 0)
acted_holds s P h (Load op r a n) = loads_hold s P h r (load_result s op (word (reg s a + n)))
acted_holds s P h (Store op b a n) = h.storing op _ _
acted_holds s P h (Immediate op r a n) = h.going _ _ _
acted_holds s P h (Register op r a b) = h.going _ _ _
acted_holds s P h (Fence r a n) = h.going (next_pc s) 0 0
acted_holds s P h Ecall = calls_hold s P h
acted_holds s P h Ebreak = h.staying (Fault s.pc) tt

row_holds : (s : MachineState) (P : Effect → Type 0) → Holds s P → (o : Option Instruction) → P (effect_of_instruction s o)
row_holds s P h None = h.staying (Fault s.pc) tt
row_holds s P h (Some i) = acted_holds s P h i

word_holds : (s : MachineState) (P : Effect → Type 0) → Holds s P → (o : Option ℕ) → P (effect_of_word s o)
word_holds s P h None = h.staying (Fault s.pc) tt
word_holds s P h (Some w) = row_holds s P h (decoded w)

-- A fact of effects that holds however the program goes on holds of what the next instruction does.
pub effect_holds : (s : MachineState) (P : Effect → Type 0) → Holds s P → P (effect s)
unfolding effect
effect_holds s P h = word_holds s P h (fetched s)

-- ---- Endings

-- Where the program ends, the state is what it was.
StaysAtEnd : MachineState → Effect → Type 0
StaysAtEnd s e = IsEnding e.event → e.after ≡ s

end_of_store : (s : MachineState) (o : Option MachineState) → StaysAtEnd s (on_store s o)
unfolding StaysAtEnd
end_of_store s None = λ e. refl
end_of_store s (Some t) = λ e. absurd e

end_of_input : (s : MachineState) (xs : List ℕ) → StaysAtEnd s (on_input s xs)
unfolding StaysAtEnd
end_of_input s [] = λ e. absurd e
end_of_input s (x ∷ xs) = λ e. absurd e

ends_hold : (s : MachineState) → Holds s (StaysAtEnd s)
unfolding StaysAtEnd
ends_hold s = record {
  going = λ to r v e. absurd e;
  staying = λ e end f. refl;
  storing = λ op a v. end_of_store s (store_result s op a v);
  reading = end_of_input s s.input;
  writing = λ b e. absurd e;
}

pub ending_stays : (s : MachineState) → IsEnding (effect s).event → (effect s).after ≡ s
unfolding StaysAtEnd
ending_stays s = effect_holds s (StaysAtEnd s) (ends_hold s)

-- After an ending the same comes of every further step.
pub endings_repeat : (s : MachineState) → IsEnding (effect s).event → effect (effect s).after ≡ effect s
endings_repeat s e = ap effect (ending_stays s e)

-- ---- What is kept

length_with_reg : (regs : List ℕ) (r v : ℕ) → length (with_reg regs r v) ≡ length regs
length_with_reg regs zero v = refl
length_with_reg regs (suc r) v = length-set regs (suc r) v

zero_with_reg : (regs : List ℕ) (r v : ℕ) → slice_index (with_reg regs r v) 0 ≡ slice_index regs 0
zero_with_reg regs zero v = refl
zero_with_reg [] (suc r) v = refl
zero_with_reg (x ∷ xs) (suc r) v = refl

pub length_stored_in : (op : StoreOperation) (xs : List ℕ) (i v : ℕ) → length (stored_in op xs i v) ≡ length xs
unfolding stored_in with_half
length_stored_in Sb xs i v = length-set xs i (v % 256)
length_stored_in Sh xs i v = length-set _ (i + 1) (v / 256 % 256) ∙ length-set xs i (v % 256)
length_stored_in Sw xs i v = length_with_word xs i v

kept_written : (s : MachineState) (to r v : ℕ) (input : List ℕ) → Kept s record s { pc = to; registers = with_reg s.registers r v; input = input }
kept_written s to r v input = record { code = refl; registers = length_with_reg s.registers r v; bytes = refl; stack = refl; zero = zero_with_reg s.registers r v }

kept_same : (s : MachineState) → Kept s s
kept_same s = record { code = refl; registers = refl; bytes = refl; stack = refl; zero = refl }

kept_at : (s : MachineState) (op : StoreOperation) (v : ℕ) (p : MemoryLocation) → Kept s (on_store s (stored_at s op v p)).after
kept_at s op v (InCode i) = kept_same s
kept_at s op v (InBytes i) = record { code = refl; registers = refl; bytes = length_stored_in op s.bytes i v; stack = refl; zero = refl }
kept_at s op v (InStack i) = record { code = refl; registers = refl; bytes = refl; stack = length_stored_in op s.stack i v; zero = refl }

kept_where : (s : MachineState) (op : StoreOperation) (v : ℕ) (o : Option MemoryLocation) → Kept s (on_store s (stored_where s op v o)).after
kept_where s op v None = kept_same s
kept_where s op v (Some p) = kept_at s op v p

kept_stored : (s : MachineState) (op : StoreOperation) (a v : ℕ) → Kept s (on_store s (store_result s op a v)).after
unfolding store_result
kept_stored s op a v = kept_where s op v (aligned_location s (store_size op) a)

kept_input : (s : MachineState) (xs : List ℕ) → Kept s (on_input s xs).after
kept_input s [] = kept_written s (next_pc s) 10 4294967295 s.input
kept_input s (x ∷ xs) = kept_written s (next_pc s) 10 x xs

-- Every instruction leaves as it was what `Kept` names.
pub effects_keep : (s : MachineState) → Kept s (effect s).after
effects_keep s = effect_holds s (λ e. Kept s e.after) (record {
  going = λ to r v. kept_written s to r v s.input;
  staying = λ e end. kept_same s;
  storing = kept_stored s;
  reading = kept_input s s.input;
  writing = λ b. kept_written s (next_pc s) 10 b s.input;
})
