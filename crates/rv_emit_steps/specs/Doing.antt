-- What instructions do that go on to the next one: they compute, load and store.
use Rattle.std.specs.Prelude.{ℕ, ◌+◌, ◌*◌, List, [], ◌∷◌}
use Rattle.rv_code.specs.declared.instruction.Instruction.{Instruction}
use Rattle.rv_code.specs.declared.instruction.Instruction.TheVariants.{Lui, Auipc, Jal, Jalr, Branch, Load, Store, Immediate, Register, Fence, Ecall, Ebreak}
use Rattle.rv_machine.specs.State.{word}
use Rattle.rv_machine.specs.Table.{operation_result, operated_immediate, load_size, store_size}
use Rattle.rv_emit_steps.specs.Holding.{Holding, with_register, with_bytes, loaded_at, IsDataAt}

-- A value is written to a register.
abbrev pub writing : (register value : ℕ) → Holding → Holding
writing r v h = record h { registers = with_register r v h.registers }

-- So many bytes of a value are written to memory.
abbrev pub storing : (size address value : ℕ) → Holding → Holding
storing n a v h = record h { memory = with_bytes n a v h.memory }

-- What one of these instructions makes of what the machine holds. The others, which may go elsewhere or be seen, are
-- not told of here.
abbrev pub done_by : Instruction → Holding → Holding
done_by (Lui r n) h = writing r (n * 4096) h
done_by (Auipc r n) h = h
done_by (Jal r n) h = h
done_by (Jalr r a n) h = h
done_by (Branch op a b n) h = h
done_by (Load op r a n) h = writing r (loaded_at op h.memory (word (h.registers a + n))) h
done_by (Store op b a n) h = storing (store_size op) (word (h.registers a + n)) (h.registers b) h
done_by (Immediate op r a n) h = writing r (operated_immediate op (h.registers a) n) h
done_by (Register op r a b) h = writing r (operation_result op (h.registers a) (h.registers b)) h
done_by (Fence r a n) h = h
done_by Ecall h = h
done_by Ebreak h = h

-- The instruction is one of these, and what it loads or stores stands in static memory or in the stack.
abbrev pub CanDo : Instruction → Holding → Type 0
CanDo (Lui r n) h = Unit {0}
CanDo (Auipc r n) h = ⊥
CanDo (Jal r n) h = ⊥
CanDo (Jalr r a n) h = ⊥
CanDo (Branch op a b n) h = ⊥
CanDo (Load op r a n) h = IsDataAt h.regions (load_size op) (word (h.registers a + n))
CanDo (Store op b a n) h = IsDataAt h.regions (store_size op) (word (h.registers a + n))
CanDo (Immediate op r a n) h = Unit {0}
CanDo (Register op r a b) h = Unit {0}
CanDo (Fence r a n) h = ⊥
CanDo Ecall h = ⊥
CanDo Ebreak h = ⊥

-- The same of several, one after the other.
abbrev pub done_by_all : List Instruction → Holding → Holding
done_by_all [] h = h
done_by_all (i ∷ more) h = done_by_all more (done_by i h)

abbrev pub CanDoAll : List Instruction → Holding → Type 0
CanDoAll [] h = Unit {0}
CanDoAll (i ∷ more) h = CanDo i h × CanDoAll more (done_by i h)
