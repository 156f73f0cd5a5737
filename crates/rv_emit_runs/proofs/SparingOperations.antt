-- Code that writes no home but those that it may: moves, operations, truncations and comparisons, loads and stores, and objects that are filled.
use Rattle.std.proofs.Common.{◌≡◌, ℕ, zero, suc, ◌+◌, ◌*◌, ◌%◌, ◌<◌, ◌≤◌, inl, inr, ⊎_elim, ◌==◌, ◌&&◌, ◌||◌, nat_lt, nat_le, cond, true, false, Option, Some, None, List, [], ◌∷◌, ◌++◌, length, slice_get, refl, sym, ap, ◌∙◌, subst, arith}
use Rattle.std.specs.Option.{option_map_or}
use Rattle.std.proofs.lemmas.Bool.{and_parts, or_cases, ltb-true, leb-true, eqb-true, eqb-false}
use Rattle.word_base.specs.Arithmetic.{subtracted}
use Rattle.word_base.specs.WordOperations.{word_operation}
use Rattle.word_base.specs.declared.operation.Operation.{Operation}
use Rattle.word_base.specs.declared.operation.Truncation.{Truncation}
use Rattle.word_base.specs.declared.operation.Truncation.TheVariants.{Unsigned8, Signed8, Unsigned16, Signed16}
use Rattle.rv_code.specs.declared.instruction.Instruction.{Instruction}
use Rattle.rv_code.specs.declared.instruction.Instruction.TheVariants as instruction
use Rattle.rv_code.specs.declared.instruction.ImmediateOperation.{ImmediateOperation}
use Rattle.rv_code.specs.declared.instruction.ImmediateOperation.TheVariants.{Addi, Slli, Srai, Srli, Andi, Sltiu}
use Rattle.rv_code.specs.declared.instruction.LoadOperation.TheVariants.{Lw}
use Rattle.rv_code.specs.declared.instruction.StoreOperation.TheVariants.{Sw}
use Rattle.rv_code.specs.declared.instruction.RegisterOperation.{RegisterOperation}
use Rattle.rv_code.specs.declared.instruction.RegisterOperation.TheVariants as on
use Rattle.graph_core.specs.declared.graph.MemoryObject.{MemoryObject}
use Rattle.graph_core.specs.declared.instruction.Element.{Element}
use Rattle.graph_core.specs.Graphs.{Graph, StaticObject, Operand, Name, Constant, StaticAddress, Location, Automatic, Static, At}
use Rattle.graph_core.specs.Validity.{IsInObject, IsLocation, IsObject}
use Rattle.graph_homes.specs.declared.home.Home.{Home}
use Rattle.graph_homes.specs.declared.home.Home.TheVariants.{Register, Slot}
use Rattle.graph_homes.specs.Homed.{IsHomeAmong, IsHomeRegister}
use Rattle.rv_emit_words.specs.declared.piece.Held.{Held}
use Rattle.rv_emit_storage.specs.declared.storage.Source.{Source}
use Rattle.rv_emit_storage.specs.declared.storage.Source.TheVariants.{Home as OfHome, Word}
use Rattle.rv_emit_storage.specs.Storages.{StorageForm, array_bytes_at, home_at, object_at, slot_at, source_of, static_object_at}
use Rattle.rv_emit_words.specs.Constants.{constant_code, constant_register, fetched_constant, high_part, is_small, low_part, set_constant_code, words_of_constant}
use Rattle.rv_emit_words.specs.Operands.{address_code, fetched_home, fetched_source, finishing, home_register, home_written, load_slot_code, result_register, source_register}
use Rattle.rv_emit_instructions.specs.Operations.{by_word, compared, comparison_code, constant_to, immediate_form, is_commutative, move_code, moved, on_immediate, on_registers, operation_code, register_operation, shifted_twice, truncation_code}
use Rattle.rv_emit_instructions.specs.Filling.{copy_code, limit_code, turn_code, zero_code, zeros_code}
use Rattle.rv_emit_instructions.specs.Memory.{Reach, frame_reach, load_code, load_operation, loading, object_address_code, pointer_reach, reach_of, static_reach, store_code, store_operation, storing, upper_of}
use Rattle.rv_emit_runs.specs.Waiting.{bytes_in}
use Rattle.rv_emit_runs.proofs.Lists.{get_some}
use Rattle.rv_emit_sequence.specs.Sequences.{AreConstants}
use Rattle.rv_emit_runs.proofs.Forms.{choice, perhaps}
use Rattle.rv_emit_runs.proofs.Sparing.{IsAside, IsDue, IsSparing, MayMake, MayStoreAt, Spares, address_spares, both_spare, constant_spares, fetched_constant_spares, fetched_home_spares, fetched_spares, finishing_spares, first_spares, home_aside, load_slot_spares, low, middle, register_aside, result_due, set_constant_spares, three_spare, written_spares}

-- A home that is a register is one that may be a home.
abbrev pub IsRightHome : Home → Type 0
IsRightHome (Register r) = IsHomeRegister r
IsRightHome (Slot k) = Unit {0}

-- given: where values are found, how many slots there are, the graph, and which homes may be written
module _ (g : StorageForm) (slots : ℕ) where
  -- Where values are found, the homes are so many slots and registers that may be homes, and objects lie behind the slots.
  pub record IsRightStorage (f : Graph) : Type 0 where
    pub homes : (x : ℕ) → IsRightHome (home_at g x)
    pub slotted : (x : ℕ) → x < f.name_count → IsHomeAmong slots (home_at g x)
    pub few : g.slots + 4 * slots ≤ 16384
    pub low : (k : ℕ) (m : MemoryObject) → slice_get f.objects k ≡ Some m → g.slots + 4 * slots ≤ object_at g k
    pub high : (k : ℕ) (m : MemoryObject) → slice_get f.objects k ≡ Some m → object_at g k + bytes_in m + 4 ≤ 16384

  module _ (W : Home → Type 0) (few : g.slots + 4 * slots ≤ 16384) where
    -- Behind the slots anything may be stored, and before them.
    pub beyond : (n : ℕ) → g.slots + 4 * slots ≤ n → MayStoreAt g slots W n
    beyond n le k lt reach = let near = reach.0 in absurd (omega (arith, le, lt, near, few))

    pub early : (n : ℕ) → n + 4 ≤ g.slots → MayStoreAt g slots W n
    early n le k lt reach = let near = reach.1 in absurd (omega (arith, le, lt, near, few))

    -- ---- Operations

    module _ (held : List Held) (target : Home) (due : IsDue g slots W target) where
      ending_spares : Spares g slots W (finishing g target (result_register target))
      ending_spares = finishing_spares g slots W few target (result_register target) due

      made_spares : (i : Instruction) → IsSparing g slots W None None i → Spares g slots W (i ∷ finishing g target (result_register target))
      made_spares i is = first_spares g slots W i (finishing g target (result_register target)) is ending_spares

      constant_to_spares : (t : Home) → IsDue g slots W t → (w : ℕ) → Spares g slots W (constant_to g held target t w)
      constant_to_spares (Register r) is w = set_constant_spares g slots W r w g.base held (λ home. is)
      constant_to_spares (Slot k) is w =
          both_spare g slots W (fetched_constant w g.base 6 held) (home_written g (Slot k) (constant_register w g.base 6 held)) (fetched_constant_spares g slots W w g.base 6 held (low g slots W 6 (omega arith)))
          (written_spares g slots W few (Slot k) (constant_register w g.base 6 held) is)

      on_registers_spares : (op : RegisterOperation) (l r : Source) → Spares g slots W (on_registers g held target op l r)
      on_registers_spares op l r =
          three_spare g slots W (fetched_source g held l 6) (fetched_source g held r 7) (instruction.Register op (result_register target) (source_register g held l 6) (source_register g held r 7) ∷ finishing g target (result_register target))
          (fetched_spares g slots W held l 6 (low g slots W 6 (omega arith))) (fetched_spares g slots W held r 7 (low g slots W 7 (omega arith)))
          (made_spares (instruction.Register op (result_register target) (source_register g held l 6) (source_register g held r 7)) (result_due g slots W target due))

      on_immediate_spares : (op : ImmediateOperation) (s : Source) (n : ℕ) → Spares g slots W (on_immediate g held target op s n)
      on_immediate_spares op s n =
          both_spare g slots W (fetched_source g held s 6) (instruction.Immediate op (result_register target) (source_register g held s 6) n ∷ finishing g target (result_register target)) (fetched_spares g slots W held s 6 (low g slots W 6 (omega arith)))
          (made_spares (instruction.Immediate op (result_register target) (source_register g held s 6) n) (result_due g slots W target due))

      by_word_spares : (op : Operation) (l : Source) (w : ℕ) → Spares g slots W (by_word g held target op l w)
      by_word_spares op l w =
          perhaps (Spares g slots W) (λ (form : ImmediateOperation × ℕ). on_immediate g held target form.0 l form.1) (immediate_form op w) (on_registers g held target (register_operation op) l (Word w)) (λ form at. on_immediate_spares form.0 l form.1)
          (on_registers_spares (register_operation op) l (Word w))

      pub operation_spares : (op : Operation) (l r : Source) → Spares g slots W (operation_code g held target op l r)
      operation_spares op (Word a) (Word b) = constant_to_spares target due (word_operation op a b)
      operation_spares op (OfHome a) (Word b) = by_word_spares op (OfHome a) b
      operation_spares op (Word a) (OfHome b) =
          choice (Spares g slots W) (is_commutative op) (by_word g held target op (OfHome b) a) (on_registers g held target (register_operation op) (Word a) (OfHome b)) (λ e. by_word_spares op (OfHome b) a)
          (λ e. on_registers_spares (register_operation op) (Word a) (OfHome b))
      operation_spares op (OfHome a) (OfHome b) = on_registers_spares (register_operation op) (OfHome a) (OfHome b)

      shifted_spares : (s : Source) (by : ℕ) (back : ImmediateOperation) → Spares g slots W (shifted_twice g held target s by back)
      shifted_spares s by back =
          both_spare g slots W (fetched_source g held s 6) (instruction.Immediate Slli 6 (source_register g held s 6) by ∷ instruction.Immediate back (result_register target) 6 by ∷ finishing g target (result_register target))
          (fetched_spares g slots W held s 6 (low g slots W 6 (omega arith)))
          (first_spares g slots W (instruction.Immediate Slli 6 (source_register g held s 6) by) (instruction.Immediate back (result_register target) 6 by ∷ finishing g target (result_register target)) (low g slots W 6 (omega arith))
          (made_spares (instruction.Immediate back (result_register target) 6 by) (result_due g slots W target due)))

      pub truncation_spares : (t : Truncation) (s : Source) → Spares g slots W (truncation_code g held target t s)
      truncation_spares Unsigned8 s = on_immediate_spares Andi s 255
      truncation_spares Signed8 s = shifted_spares s 24 Srai
      truncation_spares Unsigned16 s = shifted_spares s 16 Srli
      truncation_spares Signed16 s = shifted_spares s 16 Srai

      compared_spares : (l r : Source) → Spares g slots W (compared g held target l r)
      compared_spares l r =
          three_spare g slots W (fetched_source g held l 6) (fetched_source g held r 7)
          (instruction.Register on.Xor 6 (source_register g held l 6) (source_register g held r 7) ∷ instruction.Immediate Sltiu (result_register target) 6 1 ∷ finishing g target (result_register target))
          (fetched_spares g slots W held l 6 (low g slots W 6 (omega arith))) (fetched_spares g slots W held r 7 (low g slots W 7 (omega arith)))
          (first_spares g slots W (instruction.Register on.Xor 6 (source_register g held l 6) (source_register g held r 7)) (instruction.Immediate Sltiu (result_register target) 6 1 ∷ finishing g target (result_register target)) (low g slots W 6 (omega arith))
          (made_spares (instruction.Immediate Sltiu (result_register target) 6 1) (result_due g slots W target due)))

      pub comparison_spares : (l r : Source) → Spares g slots W (comparison_code g held target l r)
      comparison_spares (Word a) (Word b) =
          choice (Spares g slots W) (a == 0) (on_immediate g held target Sltiu (Word b) 1) (cond (b == 0) (on_immediate g held target Sltiu (Word a) 1) (compared g held target (Word a) (Word b))) (λ e. on_immediate_spares Sltiu (Word b) 1)
          (λ e. choice (Spares g slots W) (b == 0) (on_immediate g held target Sltiu (Word a) 1) (compared g held target (Word a) (Word b)) (λ e. on_immediate_spares Sltiu (Word a) 1) (λ e. compared_spares (Word a) (Word b)))
      comparison_spares (Word a) (OfHome b) =
          choice (Spares g slots W) (a == 0) (on_immediate g held target Sltiu (OfHome b) 1) (compared g held target (Word a) (OfHome b)) (λ e. on_immediate_spares Sltiu (OfHome b) 1) (λ e. compared_spares (Word a) (OfHome b))
      comparison_spares (OfHome a) (Word b) =
          choice (Spares g slots W) (b == 0) (on_immediate g held target Sltiu (OfHome a) 1) (compared g held target (OfHome a) (Word b)) (λ e. on_immediate_spares Sltiu (OfHome a) 1) (λ e. compared_spares (OfHome a) (Word b))
      comparison_spares (OfHome a) (OfHome b) = compared_spares (OfHome a) (OfHome b)

      moved_spares : (to from : Home) → IsDue g slots W to → Spares g slots W (moved g held target to from)
      moved_spares (Register r) (Slot k) is = load_slot_spares g slots W r (slot_at g k) (λ home. is)
      moved_spares (Register r) (Register q) is = ((λ home. is), tt)
      moved_spares (Slot k) from is =
          both_spare g slots W (fetched_home g from 6) (home_written g (Slot k) (home_register from 6)) (fetched_home_spares g slots W from 6 (low g slots W 6 (omega arith))) (written_spares g slots W few (Slot k) (home_register from 6) is)

      pub move_spares : (s : Source) → Spares g slots W (move_code g held target s)
      move_spares (Word w) = constant_to_spares target due w
      move_spares (OfHome from) = moved_spares target from due

      pub object_address_spares : (object : ℕ) → Spares g slots W (object_address_code g target object)
      object_address_spares object =
          both_spare g slots W (address_code (result_register target) 7 (object_at g object)) (finishing g target (result_register target))
          (address_spares g slots W (result_register target) 7 (object_at g object) (result_due g slots W target due) (low g slots W 7 (omega arith))) ending_spares

      pub loading_spares : (e : Element) (r : Reach) → Spares g slots W r.code → Spares g slots W (loading g target e r)
      loading_spares e r code =
          both_spare g slots W r.code (instruction.Load (load_operation e) (result_register target) r.base r.offset ∷ finishing g target (result_register target)) code
          (made_spares (instruction.Load (load_operation e) (result_register target) r.base r.offset) (result_due g slots W target due))

    -- ---- Memory

    -- What it takes to reach memory writes no home, and a store there may be.
    pub record IsSparingReach (r : Reach) : Type 0 where
      pub code : Spares g slots W r.code
      pub near : r.base ≡ 2 → MayStoreAt g slots W r.offset
      pub far : r.base ≡ 5 → ⊥

    reach_aside : (r : Reach) → Spares g slots W r.code → IsAside r.base → IsSparingReach r
    reach_aside r code aside = record { code = code; near = λ e. absurd (aside.0 e); far = aside.1 }

    other : (r : ℕ) → (r == 2) ≡ false → (r == 5) ≡ false → IsAside r
    other r two five = (eqb-false r 2 two, eqb-false r 5 five)

    static_spares : (held : List Held) (address : ℕ) → AreConstants held → IsSparingReach (static_reach g held address)
    static_spares held address all =
        choice IsSparingReach (is_small (subtracted address g.base))
        (record { code = []; base = 3; offset = subtracted address g.base })
        (record { code = fetched_constant (upper_of address) g.base 7 held; base = constant_register (upper_of address) g.base 7 held; offset = low_part address })
        (λ e. reach_aside (record { code = []; base = 3; offset = subtracted address g.base }) tt (other 3 refl refl))
        (λ e. reach_aside (record { code = fetched_constant (upper_of address) g.base 7 held; base = constant_register (upper_of address) g.base 7 held; offset = low_part address })
        (fetched_constant_spares g slots W (upper_of address) g.base 7 held (low g slots W 7 (omega arith))) (register_aside (upper_of address) g.base 7 held (other 7 refl refl) all))

    pub frame_spares : (offset : ℕ) → g.slots + 4 * slots ≤ offset → IsSparingReach (frame_reach offset)
    frame_spares offset le =
        choice IsSparingReach (nat_lt offset 2048)
        (record { code = []; base = 2; offset = offset })
        (record { code = instruction.Lui 7 (high_part offset) ∷ instruction.Register on.Add 7 7 2 ∷ []; base = 7; offset = low_part offset })
        (λ e. record { code = tt; near = λ base. beyond offset le; far = λ base. eqb-false 2 5 refl base })
        (λ e. reach_aside (record { code = instruction.Lui 7 (high_part offset) ∷ instruction.Register on.Add 7 7 2 ∷ []; base = 7; offset = low_part offset }) (low g slots W 7 (omega arith), (low g slots W 7 (omega arith), tt)) (other 7 refl refl))

    pointer_spares : (held : List Held) (home : Home) → IsRightHome home → IsSparingReach (record { code = fetched_home g home 7; base = home_register home 7; offset = 0 })
    pointer_spares held (Register r) right = reach_aside (record { code = []; base = r; offset = 0 }) tt (home_aside r right)
    pointer_spares held (Slot k) right =
        reach_aside (record { code = load_slot_code 7 (slot_at g k); base = 7; offset = 0 }) (load_slot_spares g slots W 7 (slot_at g k) (low g slots W 7 (omega arith))) (other 7 refl refl)

    module _ (f : Graph) (right : IsRightStorage f) (statics : List StaticObject) (held : List Held) (all : AreConstants held) where
      object_spares : (object offset : ℕ) (found : Option MemoryObject) → slice_get f.objects object ≡ found → IsInObject found offset → IsSparingReach (frame_reach ((object_at g object + offset) % 4294967296))
      object_spares object offset None at is = absurd is
      object_spares object offset (Some m) at is =
          let inside : offset ≤ bytes_in m = is in
          let le = right.low object m at in
          let high = right.high object m at in
          frame_spares ((object_at g object + offset) % 4294967296) (omega (arith, inside, le, high))

      pub reach_spares : (l : Location) → IsLocation statics f l → IsSparingReach (reach_of g held l)
      reach_spares (Automatic object offset) is = object_spares object offset (slice_get f.objects object) refl is
      reach_spares (Static object) is = static_spares held (static_object_at g object) all
      reach_spares (At (Name x)) is = pointer_spares held (home_at g x) (right.homes x)
      reach_spares (At (Constant w)) is = static_spares held w all
      reach_spares (At (StaticAddress object offset)) is = static_spares held ((static_object_at g object + offset) % 4294967296) all

      pub storing_spares : (e : Element) (r : Reach) (register : ℕ) → IsSparingReach r → Spares g slots W (storing e r register)
      storing_spares e r register reach = both_spare g slots W r.code (instruction.Store (store_operation e) register r.base r.offset ∷ []) reach.code (((reach.near, λ base. absurd (reach.far base))), tt)

      pub store_spares : (e : Element) (l : Location) (s : Source) → IsLocation statics f l → Spares g slots W (store_code g held e l s)
      store_spares e l s is =
          both_spare g slots W (fetched_source g held s 6) (storing e (reach_of g held l) (source_register g held s 6)) (fetched_spares g slots W held s 6 (low g slots W 6 (omega arith)))
          (storing_spares e (reach_of g held l) (source_register g held s 6) (reach_spares l is))

    -- ---- Objects that are filled

    aside_store : (register base n : ℕ) → IsAside base → IsSparing g slots W None None (instruction.Store Sw register base n)
    aside_store register base n aside = (λ e. absurd (aside.0 e), λ e. absurd (aside.1 e))

    zeros_spare : (offset n : ℕ) → offset < 2032 → g.slots + 4 * slots ≤ offset → n ≤ 4 → Spares g slots W (zeros_code offset n)
    zeros_spare offset zero lt le few = tt
    zeros_spare offset (suc n) lt le most =
        both_spare g slots W (zeros_code offset n) (instruction.Store Sw 0 2 ((offset + n * 4 % 4294967296) % 4294967296) ∷ []) (zeros_spare offset n lt le (omega (arith, most)))
        ((λ e. beyond ((offset + n * 4 % 4294967296) % 4294967296) (omega (arith, lt, le, most)), λ e. absurd (eqb-false 2 5 refl e)), tt)

    limit_spares : (r bytes : ℕ) → MayMake g slots W r → Spares g slots W (limit_code r bytes)
    limit_spares r bytes may =
        choice (Spares g slots W) (is_small bytes) (instruction.Immediate Addi r 6 bytes ∷ []) (constant_code r bytes 0 ++ instruction.Register on.Add r r 6 ∷ []) (λ e. (may, tt))
        (λ e. both_spare g slots W (constant_code r bytes 0) (instruction.Register on.Add r r 6 ∷ []) (constant_spares g slots W (words_of_constant bytes 0) r bytes 0 may) (may, tt))

    turn_spares : (limit back : ℕ) → Spares g slots W (turn_code limit back)
    turn_spares limit back = (low g slots W 6 (omega arith), (tt, tt))

    pub zero_spares : (f : Graph) → IsRightStorage f → (object words : ℕ) → IsObject f object → Spares g slots W (zero_code g object words)
    zero_spares f right object words is =
        choice (Spares g slots W) (words == 0 || (nat_le words 4 && nat_lt (object_at g object) 2032)) (zeros_code (object_at g object) words)
        (address_code 6 6 (object_at g object) ++ limit_code 7 (words * 4 % 4294967296) ++ instruction.Store Sw 0 6 0 ∷ turn_code 7 8)
        (λ e. ⊎_elim
        (λ (none : (words == 0) ≡ true). subst (λ n. Spares g slots W (zeros_code (object_at g object) n)) (sym (eqb-true words 0 none)) tt)
        (λ (both : (nat_le words 4 && nat_lt (object_at g object) 2032) ≡ true).
        let parts = and_parts (nat_le words 4) (nat_lt (object_at g object) 2032) both in
        let one = get_some f.objects object is in
        zeros_spare (object_at g object) words (ltb-true (object_at g object) 2032 parts.1) (right.low object one.0 one.1) (leb-true words 4 parts.0))
        (or_cases (words == 0) (nat_le words 4 && nat_lt (object_at g object) 2032) e))
        (λ e. three_spare g slots W (address_code 6 6 (object_at g object)) (limit_code 7 (words * 4 % 4294967296)) (instruction.Store Sw 0 6 0 ∷ turn_code 7 8)
        (address_spares g slots W 6 6 (object_at g object) (low g slots W 6 (omega arith)) (low g slots W 6 (omega arith))) (limit_spares 7 (words * 4 % 4294967296) (low g slots W 7 (omega arith)))
        (first_spares g slots W (instruction.Store Sw 0 6 0) (turn_code 7 8) (aside_store 0 6 0 (other 6 refl refl)) (turn_spares 7 8)))

    pub copy_spares : (held : List Held) (object bytes words : ℕ) → Spares g slots W (copy_code g held object bytes words)
    copy_spares held object bytes words =
        choice (Spares g slots W) (words == 0) []
        (address_code 6 6 (object_at g object) ++ set_constant_code 7 (array_bytes_at g bytes) g.base held ++ limit_code 10 (words * 4 % 4294967296) ++ instruction.Load Lw 5 7 0 ∷ instruction.Store Sw 5 6 0 ∷ instruction.Immediate Addi 7 7 4 ∷ turn_code 10 16)
        (λ e. tt)
        (λ e. both_spare g slots W (address_code 6 6 (object_at g object) ++ set_constant_code 7 (array_bytes_at g bytes) g.base held ++ limit_code 10 (words * 4 % 4294967296))
        (instruction.Load Lw 5 7 0 ∷ instruction.Store Sw 5 6 0 ∷ instruction.Immediate Addi 7 7 4 ∷ turn_code 10 16)
        (three_spare g slots W (address_code 6 6 (object_at g object)) (set_constant_code 7 (array_bytes_at g bytes) g.base held) (limit_code 10 (words * 4 % 4294967296))
        (address_spares g slots W 6 6 (object_at g object) (low g slots W 6 (omega arith)) (low g slots W 6 (omega arith))) (set_constant_spares g slots W 7 (array_bytes_at g bytes) g.base held (low g slots W 7 (omega arith)))
        (limit_spares 10 (words * 4 % 4294967296) (middle g slots W 10 (omega arith) (omega arith))))
        (first_spares g slots W (instruction.Load Lw 5 7 0) (instruction.Store Sw 5 6 0 ∷ instruction.Immediate Addi 7 7 4 ∷ turn_code 10 16) (low g slots W 5 (omega arith))
        (first_spares g slots W (instruction.Store Sw 5 6 0) (instruction.Immediate Addi 7 7 4 ∷ turn_code 10 16) (aside_store 5 6 0 (other 6 refl refl))
        (first_spares g slots W (instruction.Immediate Addi 7 7 4) (turn_code 10 16) (low g slots W 7 (omega arith)) (turn_spares 10 16)))))
