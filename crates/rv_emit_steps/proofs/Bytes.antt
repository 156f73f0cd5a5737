-- Memory as a function and as the machine's lists of bytes: what is loaded and what is stored.
use Rattle.std.proofs.Common.{◌≡◌, ℕ, ◌+◌, ◌-◌, ◌*◌, ◌<◌, ◌≤◌, inl, inr, sym, ap, ◌∙◌, arith, List, length, true, false, Some}
use Rattle.std.specs.Prelude.{slice_index, nat_lt}
use Rattle.std.proofs.lemmas.Bool.{le-ltb, lt-ltb}
use Rattle.memory_map.specs.declared.map.Map.{Map}
use Rattle.memory_map.specs.Maps.{bytes_end, bytes_start, code_start, most_words, stack_end, stack_start}
use Rattle.memory_map.proofs.Facts.{map_facts}
use Rattle.rv_code.specs.declared.instruction.LoadOperation.{LoadOperation}
use Rattle.rv_code.specs.declared.instruction.LoadOperation.TheVariants.{Lb, Lh, Lw, Lbu, Lhu}
use Rattle.rv_machine.specs.State.{MachineState}
use Rattle.rv_machine.specs.Memory.{half_in, word_in}
use Rattle.rv_machine.specs.Table.{signed_byte, signed_half, location_of, load_result, loaded_from, load_size}
use Rattle.rv_emit_steps.specs.Holding.{memory_of, loaded_at, IsDataAt}

-- ---- One byte, by its region

pub in_bytes : (m : Map) (bytes stack : List ℕ) (a : ℕ) → bytes_start m ≤ a → a < stack_start m → memory_of m bytes stack a ≡ slice_index bytes (a - bytes_start m)
unfolding memory_of
in_bytes m bytes stack a low high =
    let b1 : nat_lt a (bytes_start m) ≡ false = le-ltb a (bytes_start m) low in
    let b2 : nat_lt a (stack_start m) ≡ true = lt-ltb a (stack_start m) high in
    simp (b1, b2)

pub in_stack : (m : Map) (bytes stack : List ℕ) (a : ℕ) → stack_start m ≤ a → memory_of m bytes stack a ≡ slice_index stack (a - stack_start m)
unfolding memory_of
in_stack m bytes stack a low =
    let apart = (map_facts m).apart in
    let b1 : nat_lt a (bytes_start m) ≡ false = le-ltb a (bytes_start m) (omega arith) in
    let b2 : nat_lt a (stack_start m) ≡ false = le-ltb a (stack_start m) low in
    simp (b1, b2)

pub in_none : (m : Map) (bytes stack : List ℕ) (a : ℕ) → a < bytes_start m → memory_of m bytes stack a ≡ 0
unfolding memory_of
in_none m bytes stack a low =
    let b1 : nat_lt a (bytes_start m) ≡ true = lt-ltb a (bytes_start m) low in
    simp b1

-- ---- What is loaded

first_byte : (xs : List ℕ) (i a : ℕ) (memory : ℕ → ℕ) → memory (a + 0) ≡ slice_index xs (i + 0) → memory a ≡ slice_index xs i
first_byte xs i a memory h =
    let a0 : a ≡ a + 0 = omega arith in
    let i0 : i + 0 ≡ i = omega arith in
    ap memory a0 ∙ h ∙ ap (slice_index xs) i0

-- A load from a list of bytes is one from memory that says the same from there on.
loaded_like : (op : LoadOperation) (xs : List ℕ) (i a : ℕ) (memory : ℕ → ℕ) → ((k : ℕ) → k < load_size op → memory (a + k) ≡ slice_index xs (i + k)) → loaded_from op xs i ≡ loaded_at op memory a
unfolding loaded_from half_in word_in
loaded_like Lb xs i a memory same =
    let b0 : memory a ≡ slice_index xs i = first_byte xs i a memory (same 0 (omega arith)) in
    sym (ap signed_byte b0)
loaded_like Lh xs i a memory same =
    let b0 : memory a ≡ slice_index xs i = first_byte xs i a memory (same 0 (omega arith)) in
    let b1 : memory (a + 1) ≡ slice_index xs (i + 1) = same 1 (omega arith) in
    sym (ap signed_half (ap (λ x. x + memory (a + 1) * 256) b0 ∙ ap (λ y. slice_index xs i + y * 256) b1))
loaded_like Lw xs i a memory same =
    let b0 : memory a ≡ slice_index xs i = first_byte xs i a memory (same 0 (omega arith)) in
    let b1 : memory (a + 1) ≡ slice_index xs (i + 1) = same 1 (omega arith) in
    let b2 : memory (a + 2) ≡ slice_index xs (i + 2) = same 2 (omega arith) in
    let b3 : memory (a + 3) ≡ slice_index xs (i + 3) = same 3 (omega arith) in
    omega arith
loaded_like Lbu xs i a memory same =
    let b0 : memory a ≡ slice_index xs i = first_byte xs i a memory (same 0 (omega arith)) in
    sym b0
loaded_like Lhu xs i a memory same =
    let b0 : memory a ≡ slice_index xs i = first_byte xs i a memory (same 0 (omega arith)) in
    let b1 : memory (a + 1) ≡ slice_index xs (i + 1) = same 1 (omega arith) in
    omega arith

load_size_few : (op : LoadOperation) → (1 ≤ load_size op) × (load_size op ≤ 4)
load_size_few Lb = (omega arith, omega arith)
load_size_few Lh = (omega arith, omega arith)
load_size_few Lw = (omega arith, omega arith)
load_size_few Lbu = (omega arith, omega arith)
load_size_few Lhu = (omega arith, omega arith)

-- A load at an address of static memory or of the stack gets what memory has there.
pub loads : (s : MachineState) (op : LoadOperation) (a : ℕ) → length s.code ≤ most_words s.map → IsDataAt s.map (load_size op) a → load_result s op a ≡ Some (loaded_at op (memory_of s.map s.bytes s.stack) a)
unfolding load_result location_of
loads s op a short (aligned, inl (low, high)) =
    let few = load_size_few op in
    let code = (map_facts s.map).code in
    let apart = (map_facts s.map).apart in
    let a1 : nat_lt a code_start ≡ false = le-ltb a code_start (omega arith) in
    let a2 : nat_lt a (code_start + 4 * length s.code) ≡ false = le-ltb a (code_start + 4 * length s.code) (omega arith) in
    let a3 : nat_lt a (bytes_start s.map) ≡ false = le-ltb a (bytes_start s.map) (omega arith) in
    let a4 : nat_lt a (bytes_end s.map) ≡ true = lt-ltb a (bytes_end s.map) (omega arith) in
    let same : loaded_from op s.bytes (a - bytes_start s.map) ≡ loaded_at op (memory_of s.map s.bytes s.stack) a =
    loaded_like op s.bytes (a - bytes_start s.map) a (memory_of s.map s.bytes s.stack)
    (λ k lt. in_bytes s.map s.bytes s.stack (a + k) (omega arith) (omega arith) ∙ ap (slice_index s.bytes) (omega arith)) in
    simp (aligned, a1, a2, a3, a4) (ap Some same)
loads s op a short (aligned, inr (low, high)) =
    let few = load_size_few op in
    let code = (map_facts s.map).code in
    let apart = (map_facts s.map).apart in
    let a1 : nat_lt a code_start ≡ false = le-ltb a code_start (omega arith) in
    let a2 : nat_lt a (code_start + 4 * length s.code) ≡ false = le-ltb a (code_start + 4 * length s.code) (omega arith) in
    let a3 : nat_lt a (bytes_start s.map) ≡ false = le-ltb a (bytes_start s.map) (omega arith) in
    let a4 : nat_lt a (bytes_end s.map) ≡ false = le-ltb a (bytes_end s.map) (omega arith) in
    let a5 : nat_lt a (stack_start s.map) ≡ false = le-ltb a (stack_start s.map) (omega arith) in
    let a6 : nat_lt a (stack_end s.map) ≡ true = lt-ltb a (stack_end s.map) (omega arith) in
    let same : loaded_from op s.stack (a - stack_start s.map) ≡ loaded_at op (memory_of s.map s.bytes s.stack) a =
    loaded_like op s.stack (a - stack_start s.map) a (memory_of s.map s.bytes s.stack)
    (λ k lt. in_stack s.map s.bytes s.stack (a + k) (omega arith) ∙ ap (slice_index s.stack) (omega arith)) in
    simp (aligned, a1, a2, a3, a4, a5, a6) (ap Some same)
