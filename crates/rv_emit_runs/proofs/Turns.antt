-- What sets or copies words takes no more instructions than 1,025 for each of its words.
use Rattle.std.proofs.Common.{◌≡◌, ℕ, zero, suc, ◌+◌, ◌*◌, ◌≤◌, arith, refl, Bool, true, false, cond, List, [], ◌∷◌, ◌++◌, length, length-append, ◌%◌}
use Rattle.std.specs.Prelude.{◌==◌, ◌&&◌, ◌||◌, nat_le, nat_lt}
use Rattle.std.proofs.lemmas.Bool.{eqb-true}
use Rattle.rv_code.specs.declared.instruction.Instruction.{Instruction as MachineInstruction}
use Rattle.rv_code.specs.declared.instruction.Instruction.TheVariants as instruction
use Rattle.rv_code.specs.declared.instruction.LoadOperation.TheVariants.{Lw}
use Rattle.rv_code.specs.declared.instruction.StoreOperation.TheVariants.{Sw}
use Rattle.rv_code.specs.declared.instruction.ImmediateOperation.TheVariants.{Addi}
use Rattle.graph_core.specs.Graphs.{Instruction, Marker, Note, Move, Operate, Truncate, Same, Address, Load, Store, Zero, CopyWords, Call}
use Rattle.rv_emit_words.specs.declared.piece.Held.{Held}
use Rattle.rv_emit_storage.specs.Storages.{StorageForm, object_at, array_bytes_at}
use Rattle.rv_emit_words.specs.Constants.{set_constant_code}
use Rattle.rv_emit_words.specs.Growing.{CodeState}
use Rattle.rv_emit_words.specs.Operands.{address_code}
use Rattle.rv_emit_instructions.specs.Filling.{zeros_code, limit_code, turn_code, zero_code, copy_code}
use Rattle.rv_emit_runs.proofs.States.{pieces_of_code}
use Rattle.rv_emit_runs.proofs.Tracks.{pieces_of}
use Rattle.rv_emit_runs.proofs.Amounts.{turns, plain_cost, early_cost, later_cost}

-- It sets or copies few words.
abbrev pub IsSmall : Instruction → Type 0
IsSmall (Zero object words) = words ≤ 1023
IsSmall (CopyWords object bytes words) = words ≤ 1023
IsSmall _ = Unit {0}

zeros_length : (offset n : ℕ) → length (zeros_code offset n) ≡ n
zeros_length offset zero = refl
zeros_length offset (suc n) =
    let rest = zeros_length offset n in
    let both = length-append (zeros_code offset n) (instruction.Store Sw 0 2 ((offset + n * 4 % 4294967296) % 4294967296) ∷ []) in
    omega (arith, rest, both)

-- The words of each turn.
abbrev zero_end : List MachineInstruction
zero_end = instruction.Store Sw 0 6 0 ∷ turn_code 7 8

abbrev copy_end : List MachineInstruction
copy_end = instruction.Load Lw 5 7 0 ∷ instruction.Store Sw 5 6 0 ∷ instruction.Immediate Addi 7 7 4 ∷ turn_code 10 16

-- What stands behind others is no longer than all.
behind_others : {A : Type 0} (xs ys : List A) → length ys ≤ length (xs ++ ys)
behind_others xs ys = let both = length-append xs ys in omega (arith, both)

three_enough : (n m : ℕ) → n ≤ 1023 → 3 ≤ m → 3 * n ≤ 1024 * m
three_enough n m few long = omega (arith, few, long)

five_enough : (n m : ℕ) → n ≤ 1023 → 5 ≤ m → 5 * n ≤ 1024 * m
five_enough n m few long = omega (arith, few, long)

zero_few : (g : StorageForm) (object n : ℕ) → n ≤ 1023 → 3 * n ≤ 1024 * length (zero_code g object n)
zero_few g object n few = by_test (n == 0 || (nat_le n 4 && nat_lt (object_at g object) 2032))
  where
    loop : 3 * n ≤ 1024 * length (address_code 6 6 (object_at g object) ++ limit_code 7 (n * 4 % 4294967296) ++ zero_end)
    loop = three_enough n (length (address_code 6 6 (object_at g object) ++ limit_code 7 (n * 4 % 4294967296) ++ zero_end)) few (behind_others (address_code 6 6 (object_at g object) ++ limit_code 7 (n * 4 % 4294967296)) zero_end)

    by_test : (b : Bool) → 3 * n ≤ 1024 * length (cond b (zeros_code (object_at g object) n) (address_code 6 6 (object_at g object) ++ limit_code 7 (n * 4 % 4294967296) ++ zero_end))
    by_test true = let same = zeros_length (object_at g object) n in omega (arith, same)
    by_test false = loop

copy_few : (g : StorageForm) (held : List Held) (object bytes n : ℕ) → n ≤ 1023 → 5 * n ≤ 1024 * length (copy_code g held object bytes n)
copy_few g held object bytes n few = by_test (n == 0) refl
  where
    loop : 5 * n ≤ 1024 * length (address_code 6 6 (object_at g object) ++ set_constant_code 7 (array_bytes_at g bytes) g.base held ++ limit_code 10 (n * 4 % 4294967296) ++ copy_end)
    loop =
        five_enough n (length (address_code 6 6 (object_at g object) ++ set_constant_code 7 (array_bytes_at g bytes) g.base held ++ limit_code 10 (n * 4 % 4294967296) ++ copy_end)) few
        (behind_others (address_code 6 6 (object_at g object) ++ set_constant_code 7 (array_bytes_at g bytes) g.base held ++ limit_code 10 (n * 4 % 4294967296)) copy_end)

    by_test : (b : Bool) → (n == 0) ≡ b → 5 * n ≤ 1024 * length (cond b [] (address_code 6 6 (object_at g object) ++ set_constant_code 7 (array_bytes_at g bytes) g.base held ++ limit_code 10 (n * 4 % 4294967296) ++ copy_end))
    by_test true is = let none : n ≡ 0 = eqb-true n 0 is in omega (arith, none)
    by_test false is = loop

-- Where it is counted does not matter.
counted_once : (b : Bool) (n m : ℕ) → n ≤ m → 1025 * 0 + cond b n 0 + cond b 0 n ≤ m
counted_once true n m le = omega (arith, le)
counted_once false n m le = omega (arith, le)

counted_never : (b : Bool) (m : ℕ) → 1025 * m + cond b 0 0 + cond b 0 0 ≤ 1025 * m
counted_never true m = omega arith
counted_never false m = omega arith

-- All that an instruction costs is no more than 1,025 for each of its pieces.
pub weighed : (g : StorageForm) (entry : ℕ) (i : Instruction) (s : CodeState) → IsSmall i → 1025 * plain_cost g entry i s + early_cost g entry i s + later_cost g entry i s ≤ 1025 * pieces_of g entry i s
weighed g entry (Zero object n) s small =
    let few = zero_few g object n small in
    let many : pieces_of g entry (Zero object n) s ≡ length s.pieces + length (zero_code g object n) = pieces_of_code (zero_code g object n) s in
    counted_once (s.owner == entry) (turns g entry (Zero object n) s) (1025 * pieces_of g entry (Zero object n) s) (omega (arith, few, many))
weighed g entry (CopyWords object bytes n) s small =
    let few = copy_few g s.held object bytes n small in
    let many : pieces_of g entry (CopyWords object bytes n) s ≡ length s.pieces + length (copy_code g s.held object bytes n) = pieces_of_code (copy_code g s.held object bytes n) s in
    counted_once (s.owner == entry) (turns g entry (CopyWords object bytes n) s) (1025 * pieces_of g entry (CopyWords object bytes n) s) (omega (arith, few, many))
weighed g entry (Marker p) s small = counted_never (s.owner == entry) (pieces_of g entry (Marker p) s)
weighed g entry (Note x v) s small = counted_never (s.owner == entry) (pieces_of g entry (Note x v) s)
weighed g entry (Move x a) s small = counted_never (s.owner == entry) (pieces_of g entry (Move x a) s)
weighed g entry (Operate x op a b) s small = counted_never (s.owner == entry) (pieces_of g entry (Operate x op a b) s)
weighed g entry (Truncate x t a) s small = counted_never (s.owner == entry) (pieces_of g entry (Truncate x t a) s)
weighed g entry (Same x a b) s small = counted_never (s.owner == entry) (pieces_of g entry (Same x a b) s)
weighed g entry (Address x o) s small = counted_never (s.owner == entry) (pieces_of g entry (Address x o) s)
weighed g entry (Load x e l) s small = counted_never (s.owner == entry) (pieces_of g entry (Load x e l) s)
weighed g entry (Store e l a) s small = counted_never (s.owner == entry) (pieces_of g entry (Store e l a) s)
weighed g entry (Call x f all) s small = counted_never (s.owner == entry) (pieces_of g entry (Call x f all) s)
