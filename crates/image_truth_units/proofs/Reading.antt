-- What a debugger reads of memory is what stands there.
use Rattle.std.proofs.Common.{◌≡◌, ℕ, zero, suc, ◌+◌, ◌-◌, ◌*◌, ◌<◌, ◌≤◌, ◌⊎◌, inl, inr, sym, ap, ◌∙◌, arith, refl, length, true, false, Some}
use Rattle.std.specs.Prelude.{slice_index, nat_lt}
use Rattle.std.proofs.lemmas.Bool.{le-ltb, lt-ltb}
use Rattle.memory_map.specs.declared.map.Map.{Map}
use Rattle.memory_map.specs.Maps.{bytes_end, bytes_start, code_start, most_words, stack_end, stack_start}
use Rattle.memory_map.proofs.Facts.{code_ends, map_facts}
use Rattle.c_tree.specs.declared.types.IntegerType.{IntegerType}
use Rattle.c_tree.specs.declared.types.IntegerType.TheVariants.{Char, SignedChar, UnsignedChar, Short, UnsignedShort, Int, UnsignedInt, Long, UnsignedLong}
use Rattle.c_meaning_values.specs.Types.{size_by_stars}
use Rattle.image_build_tables.specs.Variables.{element_by_stars}
use Rattle.rv_machine.specs.State.{MachineState, word}
use Rattle.rv_machine.specs.Memory.{word_in}
use Rattle.rv_machine.specs.Table.{InBytes, InStack, location_of}
use Rattle.rv_machine.specs.Reading.{byte_at, byte_of_location}
use Rattle.stop_engine_view.specs.Words.{element_word, memory_half, memory_word}
use Rattle.rv_emit_steps.specs.Holding.{memory_of, half_at, word_at}
use Rattle.rv_emit_steps.proofs.Bytes.{in_bytes, in_stack}
use Rattle.rv_emit_steps.specs.Meaning.{bits_at}

location_in_bytes : (s : MachineState) (a : ℕ) → length s.code ≤ most_words s.map → bytes_start s.map ≤ a → a < bytes_end s.map → location_of s a ≡ Some (InBytes (a - bytes_start s.map))
unfolding location_of
location_in_bytes s a short low high =
    let ends = code_ends s.map (length s.code) short in
    let a1 : nat_lt a code_start ≡ false = le-ltb a code_start (omega (arith, ends, low)) in
    let a2 : nat_lt a (code_start + 4 * length s.code) ≡ false = le-ltb a (code_start + 4 * length s.code) (omega (arith, ends, low)) in
    let a3 : nat_lt a (bytes_start s.map) ≡ false = le-ltb a (bytes_start s.map) low in
    let a4 : nat_lt a (bytes_end s.map) ≡ true = lt-ltb a (bytes_end s.map) high in
    simp (a1, a2, a3, a4)

location_in_stack : (s : MachineState) (a : ℕ) → length s.code ≤ most_words s.map → stack_start s.map ≤ a → a < stack_end s.map → location_of s a ≡ Some (InStack (a - stack_start s.map))
unfolding location_of
location_in_stack s a short low high =
    let ends = code_ends s.map (length s.code) short in
    let apart = (map_facts s.map).apart in
    let a1 : nat_lt a code_start ≡ false = le-ltb a code_start (omega (arith, ends, apart, low)) in
    let a2 : nat_lt a (code_start + 4 * length s.code) ≡ false = le-ltb a (code_start + 4 * length s.code) (omega (arith, ends, apart, low)) in
    let a3 : nat_lt a (bytes_start s.map) ≡ false = le-ltb a (bytes_start s.map) (omega (arith, apart, low)) in
    let a4 : nat_lt a (bytes_end s.map) ≡ false = le-ltb a (bytes_end s.map) (omega (arith, apart, low)) in
    let a5 : nat_lt a (stack_start s.map) ≡ false = le-ltb a (stack_start s.map) low in
    let a6 : nat_lt a (stack_end s.map) ≡ true = lt-ltb a (stack_end s.map) high in
    simp (a1, a2, a3, a4, a5, a6)

-- so many bytes from an address on lie in static memory, or in the stack
abbrev pub AreInside : (regions : Map) → (address bytes : ℕ) → Type 0
AreInside m a n = ((bytes_start m ≤ a) × (a + n ≤ bytes_end m)) ⊎ ((stack_start m ≤ a) × (a + n ≤ stack_end m))

-- they end at an address of 32 bits
inside_fits : (m : Map) (a n : ℕ) → AreInside m a n → a + n < 4294967296
inside_fits m a n (inl (low, high)) = let apart = (map_facts m).apart in let whole = (map_facts m).whole in omega (arith, high, apart, whole)
inside_fits m a n (inr (low, high)) = let whole = (map_facts m).whole in omega (arith, high, whole)

-- a part of them lies there too
part_inside : (m : Map) (a n k : ℕ) → AreInside m a n → k < n → AreInside m (a + k) 1
part_inside m a n k (inl (low, high)) lt = inl (omega (arith, low), omega (arith, high, lt))
part_inside m a n k (inr (low, high)) lt = inr (omega (arith, low), omega (arith, high, lt))

-- a byte
pub byte_is : (s : MachineState) (a : ℕ) → length s.code ≤ most_words s.map → AreInside s.map a 1 → byte_at s a ≡ memory_of s.map s.bytes s.stack a
unfolding byte_at
byte_is s a short (inl (low, high)) =
    let apart = (map_facts s.map).apart in
    ap (byte_of_location s) (location_in_bytes s a short low (omega (arith, high))) ∙ sym (in_bytes s.map s.bytes s.stack a low (omega (arith, high, apart)))
byte_is s a short (inr (low, high)) = ap (byte_of_location s) (location_in_stack s a short low (omega (arith, high))) ∙ sym (in_stack s.map s.bytes s.stack a low)

byte_behind : (s : MachineState) (a n k : ℕ) → length s.code ≤ most_words s.map → AreInside s.map a n → k < n → byte_at s (word (a + k)) ≡ memory_of s.map s.bytes s.stack (a + k)
byte_behind s a n k short inside lt =
    let fits = inside_fits s.map a n inside in
    let same : word (a + k) ≡ a + k = omega (arith, fits, lt) in
    ap (byte_at s) same ∙ byte_is s (a + k) short (part_inside s.map a n k inside lt)

first_byte : (s : MachineState) (a n : ℕ) → length s.code ≤ most_words s.map → AreInside s.map a n → 1 ≤ n → byte_at s a ≡ memory_of s.map s.bytes s.stack a
first_byte s a n short (inl (low, high)) lt = byte_is s a short (inl (low, omega (arith, high, lt)))
first_byte s a n short (inr (low, high)) lt = byte_is s a short (inr (low, omega (arith, high, lt)))

-- a halfword
half_is : (s : MachineState) (a : ℕ) → length s.code ≤ most_words s.map → AreInside s.map a 2 → memory_half s a ≡ half_at (memory_of s.map s.bytes s.stack) a
half_is s a short inside =
    ap (λ b. b + byte_at s (word (a + 1)) * 256) (first_byte s a 2 short inside (omega arith)) ∙ ap (λ b. memory_of s.map s.bytes s.stack a + b * 256) (byte_behind s a 2 1 short inside (omega arith))

-- a word
word_is : (s : MachineState) (a : ℕ) → length s.code ≤ most_words s.map → AreInside s.map a 4 → memory_word s a ≡ word_at (memory_of s.map s.bytes s.stack) a
unfolding memory_word
word_is s a short inside =
    let f = memory_of s.map s.bytes s.stack in
    let b0 = first_byte s a 4 short inside (omega arith) in
    let b1 = byte_behind s a 4 1 short inside (omega arith) in
    let b2 = byte_behind s a 4 2 short inside (omega arith) in
    let next : word (word (a + 2) + 1) ≡ word (a + 3) = omega arith in
    let b3 : byte_at s (word (word (a + 2) + 1)) ≡ f (a + 3) = ap (byte_at s) next ∙ byte_behind s a 4 3 short inside (omega arith) in
    joined (byte_at s a) (byte_at s (word (a + 1))) (byte_at s (word (a + 2))) (byte_at s (word (word (a + 2) + 1))) (f a) (f (a + 1)) (f (a + 2)) (f (a + 3)) b0 b1 b2 b3
  where
    joined : (w x y z w' x' y' z' : ℕ) → w ≡ w' → x ≡ x' → y ≡ y' → z ≡ z' → w + x * 256 + (y + z * 256) * 65536 ≡ w' + x' * 256 + y' * 65536 + z' * 16777216
    joined w x y z w' x' y' z' b0 b1 b2 b3 = omega (arith, b0, b1, b2, b3)

-- an element of any type
pub element_is : (s : MachineState) (base : IntegerType) (stars a : ℕ) → length s.code ≤ most_words s.map → AreInside s.map a (size_by_stars base stars) → element_word s (element_by_stars base stars) a ≡ bits_at (memory_of s.map s.bytes s.stack) (size_by_stars base stars) a
element_is s Char zero a short inside = byte_is s a short inside
element_is s SignedChar zero a short inside = byte_is s a short inside
element_is s UnsignedChar zero a short inside = byte_is s a short inside
element_is s Short zero a short inside = half_is s a short inside
element_is s UnsignedShort zero a short inside = half_is s a short inside
element_is s Int zero a short inside = word_is s a short inside
element_is s UnsignedInt zero a short inside = word_is s a short inside
element_is s Long zero a short inside = word_is s a short inside
element_is s UnsignedLong zero a short inside = word_is s a short inside
element_is s base (suc stars) a short inside = word_is s a short inside

-- a word of the stack, from the offset of its address in the stack on
pub stack_word_is : (s : MachineState) (a : ℕ) → stack_start s.map ≤ a → word_in s.stack (a - stack_start s.map) ≡ word_at (memory_of s.map s.bytes s.stack) a
unfolding word_in
stack_word_is s a low =
    let f = memory_of s.map s.bytes s.stack in
    let byte : (k j : ℕ) → j ≡ a - stack_start s.map + k → slice_index s.stack j ≡ f (a + k) = λ k j e.
    let same : j ≡ a + k - stack_start s.map = omega (arith, e, low) in
    ap (slice_index s.stack) same ∙ sym (in_stack s.map s.bytes s.stack (a + k) (omega (arith, low))) in
    let here : a + 0 ≡ a = omega arith in
    let b0 : slice_index s.stack (a - stack_start s.map) ≡ f a = byte 0 (a - stack_start s.map) (omega arith) ∙ ap f here in
    let b1 : slice_index s.stack (a - stack_start s.map + 1) ≡ f (a + 1) = byte 1 (a - stack_start s.map + 1) refl in
    let b2 : slice_index s.stack (a - stack_start s.map + 2) ≡ f (a + 2) = byte 2 (a - stack_start s.map + 2) refl in
    let b3 : slice_index s.stack (a - stack_start s.map + 3) ≡ f (a + 3) = byte 3 (a - stack_start s.map + 3) refl in
    rw (b0, b1, b2, b3) refl
