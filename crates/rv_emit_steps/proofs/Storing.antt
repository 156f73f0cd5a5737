-- Stores into the machine's lists of bytes, as writes to memory as a function.
use Rattle.std.proofs.Common.{◌≡◌, ℕ, zero, suc, ◌+◌, ◌-◌, ◌*◌, ◌/◌, ◌%◌, ◌<◌, ◌≤◌, ◌⊎◌, ⊎_elim, inl, inr, sym, ap, ◌∙◌, arith, refl, List, length, true, false, Some}
use Rattle.std.specs.Prelude.{slice_index, slice_set, nat_lt}
use Rattle.std.proofs.lemmas.List.{get_or-set_same, get_or-set_other}
use Rattle.std.proofs.Math.ListN.{length-set}
use Rattle.std.proofs.lemmas.Bool.{le-ltb, lt-ltb, cases_lt}
use Rattle.memory_map.specs.declared.map.Map.{Map}
use Rattle.memory_map.specs.Maps.{bytes_end, bytes_size, bytes_start, code_start, most_words, stack_end, stack_size, stack_start}
use Rattle.memory_map.proofs.Facts.{map_facts}
use Rattle.rv_code.specs.declared.instruction.StoreOperation.{StoreOperation}
use Rattle.rv_code.specs.declared.instruction.StoreOperation.TheVariants.{Sb, Sh, Sw}
use Rattle.rv_machine.specs.State.{MachineState}
use Rattle.rv_machine.specs.Memory.{with_half, with_word}
use Rattle.rv_machine.specs.Table.{location_of, store_result, stored_in, store_size}
use Rattle.rv_machine.proofs.Laws.{length_stored_in}
use Rattle.rv_machine.proofs.Memory.{written_bytes, byte_other}
use Rattle.rv_machine.proofs.Narrow.{byte_in_with_byte, byte_in_other, byte_in_with_half_other}
use Rattle.rv_emit_steps.specs.Holding.{memory_of, byte_of, with_bytes, IsDataAt}
use Rattle.rv_emit_steps.proofs.Bytes.{in_bytes, in_stack, in_none}
use Rattle.rv_emit_steps.proofs.Apart.{written_memory}

-- A list of bytes behind a store of so many bytes of a value at an offset: these stand there, and the others as they were.
record IsWritten (n : ℕ) (xs ys : List ℕ) (i v : ℕ) : Type 0 where
  within : (k : ℕ) → k < n → slice_index ys (i + k) ≡ byte_of v k
  outside : (j : ℕ) → (j < i) ⊎ (i + n ≤ j) → slice_index ys j ≡ slice_index xs j

-- at the offset itself
at_first : (ys : List ℕ) (i x : ℕ) → slice_index ys i ≡ x → slice_index ys (i + 0) ≡ x
at_first ys i x h = let e : i + 0 ≡ i = omega arith in ap (slice_index ys) e ∙ h

half_written : (xs : List ℕ) (i v : ℕ) → i + 1 < length xs → (slice_index (with_half xs i v) i ≡ v % 256) × (slice_index (with_half xs i v) (i + 1) ≡ v / 256 % 256)
unfolding with_half
half_written xs i v lt =
    let l0 = length-set xs i (v % 256) in (
      get_or-set_other (slice_set xs i (v % 256)) (i + 1) i (v / 256 % 256) 0 (λ e. omega arith) ∙ get_or-set_same xs i (v % 256) 0 (omega arith),
      get_or-set_same (slice_set xs i (v % 256)) (i + 1) (v / 256 % 256) 0 (omega arith),
    )

store_written : (op : StoreOperation) (xs : List ℕ) (i v : ℕ) → i + store_size op ≤ length xs → IsWritten (store_size op) xs (stored_in op xs i v) i v
unfolding stored_in
store_written Sb xs i v lt = record { within = within; outside = λ j apart. byte_in_other xs i j v (λ e. ⊎_elim (λ (h : j < i). omega arith) (λ (h : i + 1 ≤ j). omega arith) apart) }
  where
    within : (k : ℕ) → k < 1 → slice_index (slice_set xs i (v % 256)) (i + k) ≡ byte_of v k
    within zero lt1 = at_first (slice_set xs i (v % 256)) i (v % 256) (byte_in_with_byte xs i v (omega arith))
    within (suc k) lt1 = absurd (omega arith)
store_written Sh xs i v lt = record { within = within; outside = λ j apart. byte_in_with_half_other xs i j v apart }
  where
    within : (k : ℕ) → k < 2 → slice_index (with_half xs i v) (i + k) ≡ byte_of v k
    within zero lt2 = at_first (with_half xs i v) i (v % 256) (half_written xs i v (omega arith)).0
    within (suc zero) lt2 = (half_written xs i v (omega arith)).1
    within (suc (suc k)) lt2 = absurd (omega arith)
store_written Sw xs i v lt = record { within = within; outside = λ j apart. byte_other xs i j v apart }
  where
    within : (k : ℕ) → k < 4 → slice_index (with_word xs i v) (i + k) ≡ byte_of v k
    within zero lt4 = at_first (with_word xs i v) i (v % 256) (written_bytes xs i v (omega arith)).0
    within (suc zero) lt4 = (written_bytes xs i v (omega arith)).1
    within (suc (suc zero)) lt4 = (written_bytes xs i v (omega arith)).2
    within (suc (suc (suc zero))) lt4 = (written_bytes xs i v (omega arith)).3
    within (suc (suc (suc (suc k)))) lt4 = absurd (omega arith)

-- Memory after a store into static memory.
memory_with_bytes : (m : Map) (n : ℕ) (xs ys stack : List ℕ) (a v : ℕ) → bytes_start m ≤ a → a + n ≤ bytes_end m → IsWritten n xs ys (a - bytes_start m) v → memory_of m ys stack ≡ with_bytes n a v (memory_of m xs stack)
memory_with_bytes m n xs ys stack a v low high h = written_memory n a v (memory_of m xs stack) (memory_of m ys stack) within outside
  where
    within : (b : ℕ) → a ≤ b → b < a + n → memory_of m ys stack b ≡ byte_of v (b - a)
    within b lb hb =
        let between = (map_facts m).apart in
        let e : b - bytes_start m ≡ a - bytes_start m + (b - a) = omega arith in
        in_bytes m ys stack b (omega arith) (omega arith) ∙ ap (slice_index ys) e ∙ h.within (b - a) (omega arith)

    outside : (b : ℕ) → (b < a) ⊎ (a + n ≤ b) → memory_of m ys stack b ≡ memory_of m xs stack b
    outside b apart = ⊎_elim
        (λ (none : b < bytes_start m). in_none m ys stack b none ∙ sym (in_none m xs stack b none))
        (λ (some : bytes_start m ≤ b). ⊎_elim
        (λ (near : b < stack_start m). in_bytes m ys stack b some near ∙ h.outside (b - bytes_start m) (⊎_elim (λ (l : b < a). inl (omega arith)) (λ (g : a + n ≤ b). inr (omega arith)) apart) ∙ sym (in_bytes m xs stack b some near))
        (λ (far : stack_start m ≤ b). in_stack m ys stack b far ∙ sym (in_stack m xs stack b far))
        (cases_lt b (stack_start m)))
        (cases_lt b (bytes_start m))

-- Memory after a store into the stack.
memory_with_stack : (m : Map) (n : ℕ) (xs ys bytes : List ℕ) (a v : ℕ) → stack_start m ≤ a → IsWritten n xs ys (a - stack_start m) v → memory_of m bytes ys ≡ with_bytes n a v (memory_of m bytes xs)
memory_with_stack m n xs ys bytes a v low h = written_memory n a v (memory_of m bytes xs) (memory_of m bytes ys) within outside
  where
    within : (b : ℕ) → a ≤ b → b < a + n → memory_of m bytes ys b ≡ byte_of v (b - a)
    within b lb hb =
        let between = (map_facts m).apart in
        let e : b - stack_start m ≡ a - stack_start m + (b - a) = omega arith in
        in_stack m bytes ys b (omega arith) ∙ ap (slice_index ys) e ∙ h.within (b - a) (omega arith)

    outside : (b : ℕ) → (b < a) ⊎ (a + n ≤ b) → memory_of m bytes ys b ≡ memory_of m bytes xs b
    outside b apart = ⊎_elim
        (λ (none : b < bytes_start m). in_none m bytes ys b none ∙ sym (in_none m bytes xs b none))
        (λ (some : bytes_start m ≤ b). ⊎_elim
        (λ (near : b < stack_start m). in_bytes m bytes ys b some near ∙ sym (in_bytes m bytes xs b some near))
        (λ (far : stack_start m ≤ b). in_stack m bytes ys b far ∙ h.outside (b - stack_start m) (⊎_elim (λ (l : b < a). inl (omega arith)) (λ (g : a + n ≤ b). inr (omega arith)) apart) ∙ sym (in_stack m bytes xs b far))
        (cases_lt b (stack_start m)))
        (cases_lt b (bytes_start m))

-- A store that is carried out: the state behind it differs in memory alone, and by the bytes that were written.
pub record Stored (s : MachineState) (op : StoreOperation) (a v : ℕ) : Type 0 where
  pub state : MachineState
  pub is : store_result s op a v ≡ Some state
  pub code : state.code ≡ s.code
  pub map : state.map ≡ s.map
  pub registers : state.registers ≡ s.registers
  pub input : state.input ≡ s.input
  pub bytes : length state.bytes ≡ length s.bytes
  pub stack : length state.stack ≡ length s.stack
  pub memory : memory_of s.map state.bytes state.stack ≡ with_bytes (store_size op) a v (memory_of s.map s.bytes s.stack)

store_size_few : (op : StoreOperation) → (1 ≤ store_size op) × (store_size op ≤ 4)
store_size_few Sb = (omega arith, omega arith)
store_size_few Sh = (omega arith, omega arith)
store_size_few Sw = (omega arith, omega arith)

-- A store at an address of static memory or of the stack is carried out.
pub stores : (s : MachineState) (op : StoreOperation) (a v : ℕ) → length s.code ≤ most_words s.map → length s.bytes ≡ bytes_size → length s.stack ≡ stack_size
    → IsDataAt s.map (store_size op) a → Stored s op a v
unfolding store_result location_of
stores s op a v short bytes stack (aligned, inl (low, high)) =
    let few = store_size_few op in
    let code = (map_facts s.map).code in
    let apart = (map_facts s.map).apart in
    let a1 : nat_lt a code_start ≡ false = le-ltb a code_start (omega arith) in
    let a2 : nat_lt a (code_start + 4 * length s.code) ≡ false = le-ltb a (code_start + 4 * length s.code) (omega arith) in
    let a3 : nat_lt a (bytes_start s.map) ≡ false = le-ltb a (bytes_start s.map) (omega arith) in
    let a4 : nat_lt a (bytes_end s.map) ≡ true = lt-ltb a (bytes_end s.map) (omega arith) in
    record {
      state = record s { bytes = stored_in op s.bytes (a - bytes_start s.map) v };
      is = simp (aligned, a1, a2, a3, a4);
      code = refl;
      map = refl;
      registers = refl;
      input = refl;
      bytes = length_stored_in op s.bytes (a - bytes_start s.map) v;
      stack = refl;
      memory = memory_with_bytes s.map (store_size op) s.bytes (stored_in op s.bytes (a - bytes_start s.map) v) s.stack a v low high (store_written op s.bytes (a - bytes_start s.map) v (omega arith));
    }
stores s op a v short bytes stack (aligned, inr (low, high)) =
    let few = store_size_few op in
    let code = (map_facts s.map).code in
    let apart = (map_facts s.map).apart in
    let a1 : nat_lt a code_start ≡ false = le-ltb a code_start (omega arith) in
    let a2 : nat_lt a (code_start + 4 * length s.code) ≡ false = le-ltb a (code_start + 4 * length s.code) (omega arith) in
    let a3 : nat_lt a (bytes_start s.map) ≡ false = le-ltb a (bytes_start s.map) (omega arith) in
    let a4 : nat_lt a (bytes_end s.map) ≡ false = le-ltb a (bytes_end s.map) (omega arith) in
    let a5 : nat_lt a (stack_start s.map) ≡ false = le-ltb a (stack_start s.map) (omega arith) in
    let a6 : nat_lt a (stack_end s.map) ≡ true = lt-ltb a (stack_end s.map) (omega arith) in
    record {
      state = record s { stack = stored_in op s.stack (a - stack_start s.map) v };
      is = simp (aligned, a1, a2, a3, a4, a5, a6);
      code = refl;
      map = refl;
      registers = refl;
      input = refl;
      bytes = refl;
      stack = length_stored_in op s.stack (a - stack_start s.map) v;
      memory = memory_with_stack s.map (store_size op) s.stack (stored_in op s.stack (a - stack_start s.map) v) s.bytes a v low (store_written op s.stack (a - stack_start s.map) v (omega arith));
    }
