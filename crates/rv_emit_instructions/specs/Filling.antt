-- The code that sets objects to zero or to bytes that are known. Registers 0, 2, 5 to 7 and 10 are the one that is 0,
-- sp, t0 to t2 and a0.
use Rattle.std.specs.Prelude.{ℕ, zero, suc, ◌+◌, ◌*◌, ◌%◌, ◌==◌, ◌&&◌, ◌||◌, nat_lt, nat_le, if◌then◌else◌, List, [], ◌∷◌, ◌++◌}
use Rattle.word_base.specs.Arithmetic.{subtracted}
use Rattle.rv_code.specs.declared.instruction.Instruction.{Instruction}
use Rattle.rv_code.specs.declared.instruction.Instruction.TheVariants.{Branch, Load, Store, Immediate, Register}
use Rattle.rv_code.specs.declared.instruction.BranchOperation.TheVariants.{Bne}
use Rattle.rv_code.specs.declared.instruction.LoadOperation.TheVariants.{Lw}
use Rattle.rv_code.specs.declared.instruction.StoreOperation.TheVariants.{Sw}
use Rattle.rv_code.specs.declared.instruction.ImmediateOperation.TheVariants.{Addi}
use Rattle.rv_code.specs.declared.instruction.RegisterOperation.TheVariants.{Add}
use Rattle.rv_emit_words.specs.declared.piece.Held.{Held}
use Rattle.rv_emit_storage.specs.Storages.{StorageForm, object_at, array_bytes_at}
use Rattle.rv_emit_words.specs.Constants.{is_small, constant_code, set_constant_code}
use Rattle.rv_emit_words.specs.Operands.{address_code}

-- Zeros from an offset from sp on, word by word.
abbrev pub zeros_code : (offset count : ℕ) → List Instruction
zeros_code offset zero = []
zeros_code offset (suc n) = zeros_code offset n ++ Store Sw 0 2 ((offset + n * 4 % 4294967296) % 4294967296) ∷ []

-- The sum of t1 and a number of bytes in a register: the address at which a loop over words ends.
abbrev pub limit_code : (register bytes : ℕ) → List Instruction
limit_code r bytes =
    if is_small bytes then Immediate Addi r 6 bytes ∷ [] else constant_code r bytes 0 ++ Register Add r r 6 ∷ []

-- The end of such a loop: t1 goes on to the next word, and the loop begins again so many bytes before the branch unless
-- t1 is at its end.
abbrev pub turn_code : (limit back : ℕ) → List Instruction
turn_code limit back = Immediate Addi 6 6 4 ∷ Branch Bne 6 limit (subtracted 0 back) ∷ []

-- So many words of an automatic object become zero: a few near ones one by one, and else by a loop.
abbrev pub zero_code : StorageForm → (object words : ℕ) → List Instruction
zero_code g object words =
    if words == 0 || (nat_le words 4 && nat_lt (object_at g object) 2032) then zeros_code (object_at g object) words
    else address_code 6 6 (object_at g object) ++ limit_code 7 (words * 4 % 4294967296) ++ Store Sw 0 6 0
    ∷ turn_code 7 8

-- So many words of bytes that initialise an array are copied to an object: by a loop from where t2 points to where t1
-- points, by way of t0.
abbrev pub copy_code : StorageForm → List Held → (object bytes words : ℕ) → List Instruction
copy_code g held object bytes words =
    if words == 0 then []
    else address_code 6 6 (object_at g object) ++ set_constant_code 7 (array_bytes_at g bytes) g.base held
    ++ limit_code 10 (words * 4 % 4294967296)
    ++ Load Lw 5 7 0 ∷ Store Sw 5 6 0 ∷ Immediate Addi 7 7 4 ∷ turn_code 10 16
