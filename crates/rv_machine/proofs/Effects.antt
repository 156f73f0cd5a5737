-- What the next instruction does, by the row of the table that the pc names, and what a read of input does.
use Rattle.std.proofs.Common.{◌≡◌, ℕ, ◌+◌, ◌<◌, ◌≤◌, ap, sym, ◌∙◌, refl, List, ◌∷◌, length, get_or, drop, Option, Some, None, option_and_then}
use Rattle.std.proofs.lemmas.List.{drop_more, drop_all}
use Rattle.rv_code.specs.declared.instruction.Instruction.{Instruction}
use Rattle.rv_code.specs.Decoding.{decoded}
use Rattle.rv_machine.specs.declared.event.Event.TheVariants.{Fault}
use Rattle.rv_machine.specs.State.{MachineState}
use Rattle.rv_machine.specs.Table.{stays, goes, next_pc, on_input, fetched, acted, effect, effect_of_word, effect_of_instruction}

of_word : (s : MachineState) (o : Option ℕ) → effect_of_word s o ≡ effect_of_instruction s (option_and_then decoded o)
of_word s None = refl
of_word s (Some w) = refl

by_row : (s : MachineState) → effect s ≡ effect_of_instruction s (option_and_then decoded (fetched s))
unfolding effect
by_row s = of_word s (fetched s)

-- It faults where there is no row.
pub effect_none : (s : MachineState) → None ≡ option_and_then decoded (fetched s) → stays s (Fault s.pc) ≡ effect s
effect_none s e = ap (effect_of_instruction s) e ∙ sym (by_row s)

-- It does what the row says.
pub effect_some : (s : MachineState) (i : Instruction) → Some i ≡ option_and_then decoded (fetched s) → acted s i ≡ effect s
effect_some s i e = ap (effect_of_instruction s) e ∙ sym (by_row s)

-- A read of input where some is left, and where none is.
pub input_more : (s : MachineState) (xs : List ℕ) (i : ℕ) → i < length xs → on_input s (drop i xs) ≡ on_input s (get_or xs i 0 ∷ drop (i + 1) xs)
input_more s xs i h = ap (on_input s) (drop_more xs i 0 h)

pub input_end : (s : MachineState) (xs : List ℕ) (i : ℕ) → length xs ≤ i → on_input s (drop i xs) ≡ goes s (next_pc s) 10 4294967295
input_end s xs i h = ap (on_input s) (drop_all i xs h)
