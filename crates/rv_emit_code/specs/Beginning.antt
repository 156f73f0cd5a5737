-- The code with which a function begins. Registers 0, 1, 2, 3, 4 and 17 are the one that is 0, ra, sp, gp, tp and a7.
use Rattle.std.specs.Prelude.{ℕ, ◌+◌, ◌%◌, Bool, if◌then◌else◌, List, [], ◌∷◌, ◌++◌, slice_get}
use Rattle.std.specs.Option.{option_map_or}
use Rattle.word_base.specs.Arithmetic.{subtracted}
use Rattle.rv_code.specs.declared.instruction.Instruction.{Instruction}
use Rattle.rv_code.specs.declared.instruction.Instruction.TheVariants.{Branch, Store, Immediate, Ecall}
use Rattle.rv_code.specs.declared.instruction.BranchOperation.TheVariants.{Bne}
use Rattle.rv_code.specs.declared.instruction.StoreOperation.TheVariants.{Sw}
use Rattle.rv_code.specs.declared.instruction.ImmediateOperation.TheVariants.{Addi}
use Rattle.graph_core.specs.declared.graph.MemoryObject.{MemoryObject}
use Rattle.graph_core.specs.declared.instruction.Element.{Element}
use Rattle.graph_core.specs.declared.instruction.Element.TheVariants as element
use Rattle.graph_core.specs.Graphs.{Graph, Binding, ToScalar, ToObject}
use Rattle.rv_emit_storage.specs.Storages.{StorageForm, home_at, object_at}
use Rattle.rv_emit_words.specs.Growing.{CodeState, with_code, marked}
use Rattle.rv_emit_words.specs.Constants.{constant_code}
use Rattle.rv_emit_words.specs.Operands.{home_written}
use Rattle.rv_emit_instructions.specs.Calls.{argument_register}
use Rattle.rv_emit_instructions.specs.Memory.{frame_reach, storing}
use Rattle.rv_emit_code.specs.Leaving.{moving_code}

-- Where no activation may begin, the run ends; else one less may.
abbrev pub guard_code : List Instruction
guard_code = Branch Bne 4 0 12 ∷ Immediate Addi 17 0 3 ∷ Ecall ∷ Immediate Addi 4 4 4294967295 ∷ []

-- Registers are stored in the frame, one behind the other from an offset on.
abbrev pub saving_code : List ℕ → (offset : ℕ) → List Instruction
saving_code [] offset = []
saving_code (r ∷ more) offset = Store Sw r 2 offset ∷ saving_code more ((offset + 4) % 4294967296)

-- The frame is made, and the return address and the registers that it keeps are stored there.
abbrev pub entering_code : (saved : List ℕ) → (size : ℕ) → List Instruction
entering_code saved size = moving_code (subtracted 0 size) ++ Store Sw 1 2 0 ∷ saving_code saved 4

-- main sets gp.
abbrev pub base_code : (is_main : Bool) → (base : ℕ) → List Instruction
base_code is_main base = if is_main then constant_code 3 base 0 else []

-- What the elements of an object are.
abbrev pub element_of : Graph → (object : ℕ) → Element
element_of g k = option_map_or (λ (m : MemoryObject). m.element) (slice_get g.objects k) element.Word

-- A parameter that a register has becomes its scalar, or the first element of its object.
abbrev pub binding_code : StorageForm → Graph → (register : ℕ) → Binding → List Instruction
binding_code s g r (ToScalar x) = home_written s (home_at s x) r
binding_code s g r (ToObject k) = storing (element_of g k) (frame_reach (object_at s k)) r

-- The parameters, from one of this number on.
abbrev pub bindings_code : StorageForm → Graph → (number : ℕ) → List Binding → List Instruction
bindings_code s g n [] = []
bindings_code s g n (b ∷ more) =
    binding_code s g (argument_register n) b ++ bindings_code s g ((n + 1) % 4294967296) more

-- All of it behind the guard, and with it.
abbrev pub beginning_behind : StorageForm → Graph → (saved : List ℕ) → (size : ℕ) → (is_main : Bool) → List Instruction
beginning_behind s g saved size is_main =
    entering_code saved size ++ base_code is_main s.base ++ bindings_code s g 0 g.parameters

abbrev pub beginning_code : StorageForm → Graph → (saved : List ℕ) → (size : ℕ) → (is_main : Bool) → List Instruction
beginning_code s g saved size is_main = guard_code ++ beginning_behind s g saved size is_main

-- ---- How code grows by it

-- The last word is marked as the one that binds the parameter of this number.
abbrev pub with_writer : (number : ℕ) → CodeState → CodeState
with_writer n s = record s { pieces = marked n s.pieces }

-- The parameters, from one of this number on.
abbrev pub with_bindings : StorageForm → Graph → (number : ℕ) → List Binding → CodeState → CodeState
with_bindings g f n [] s = s
with_bindings g f n (b ∷ more) s =
    with_bindings g f ((n + 1) % 4294967296) more
    (with_writer n (with_code (binding_code g f (argument_register n) b) s))

-- The beginning of a function.
abbrev pub with_beginning : StorageForm → Graph → (saved : List ℕ) → (size : ℕ) → (is_main : Bool) → CodeState
    → CodeState
with_beginning g f saved size is_main s =
    with_bindings g f 0 f.parameters (with_code (guard_code ++ entering_code saved size ++ base_code is_main g.base) s)
