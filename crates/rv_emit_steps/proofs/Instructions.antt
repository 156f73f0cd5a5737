-- The words of an instruction that goes straight on do the unit's step.
use Rattle.std.proofs.Common.{⊎_elim, inl, inr, ◌≡◌, ◌≢◌, ℕ, ◌+◌, ◌*◌, ◌<◌, ◌≤◌, sym, ap, ◌∙◌, subst, arith, refl, Option, Some, None, Bool, true, false, cond, List, [], ◌∷◌, ◌++◌, append_assoc, length, slice_get, slice_set}
use Rattle.std.specs.Option.{option_map_or}
use Rattle.std.specs.Prelude.{nat_lt, ◌==◌, option_map}
use Rattle.word_base.specs.declared.operation.Operation.{Operation}
use Rattle.word_base.specs.declared.operation.Truncation.{Truncation}
use Rattle.memory_map.specs.Maps.{stack_end}
use Rattle.memory_map.proofs.Facts.{map_facts}
use Rattle.rv_code.specs.declared.instruction.Instruction.{Instruction as MachineInstruction}
use Rattle.rv_code.specs.declared.instruction.Instruction.TheVariants as instruction
use Rattle.rv_machine.specs.State.{word}
use Rattle.rv_machine.specs.Table.{operation_result, operated_immediate, load_size, store_size}
use Rattle.rv_code.specs.declared.instruction.ImmediateOperation.TheVariants.{Addi}
use Rattle.rv_code.specs.declared.instruction.RegisterOperation.TheVariants as on
use Rattle.std.proofs.lemmas.Bool.{eqb-true}
use Rattle.rv_emit_words.specs.Constants.{low_part, high_part}
use Rattle.rv_emit_steps.proofs.Parts.{high_part_alone, parts_make}
use Rattle.graph_core.specs.declared.value.Value.{Value}
use Rattle.graph_core.specs.declared.value.Value.TheVariants.{Pointer, Odd}
use Rattle.graph_core.specs.declared.instruction.Element.{Element}
use Rattle.graph_core.specs.Graphs.{Operand, Location, Instruction, Move, Operate, Truncate, Same, Address, Load, Store, Marker, Note, Gone, Zero, CopyWords, Call}
use Rattle.graph_core.specs.Values.{size_of, as_element, operate, truncate, same, is_odd}
use Rattle.graph_core.specs.Memory.{Memory, Object, bytes_of, words_of, is_live, pointer_to_object, read, write, with_value}
use Rattle.graph_core.specs.Runs.{noted, Configuration, Wild, value, pointed, wrote, wrote_some, with_memory, unless_odd, execute}
use Rattle.graph_core.specs.Uses.{target_of}
use Rattle.graph_core.specs.Validity.{IsOperand, IsLocation, IsInstruction}
use Rattle.graph_homes.specs.declared.home.Home.{Home}
use Rattle.graph_homes.specs.Homed.{home_number, placed_operand, placed_location, placed_instruction}
use Rattle.rv_emit_storage.specs.UnitMaps.{map_of_unit}
use Rattle.rv_emit_storage.specs.Storages.{home_at, object_at, source_of}
use Rattle.rv_emit_words.specs.Operands.{source_register, fetched_source, result_register, finishing, address_code}
use Rattle.rv_emit_instructions.specs.Memory.{Reach, load_operation, store_operation, reach_of, loading, load_code, storing, store_code}
use Rattle.rv_emit_steps.specs.Holding.{Holding, AreInRange, loaded_at, with_register, with_bytes, IsDataAt}
use Rattle.rv_emit_steps.specs.Doing.{done_by_all, CanDoAll, writing}
use Rattle.rv_emit_steps.proofs.Placing.{done_by_both, can_do_both, regions_stay}
use Rattle.rv_emit_steps.proofs.Registers.{register_same, register_other}
use Rattle.rv_emit_steps.proofs.Apart.{loaded_in_range}
use Rattle.rv_emit_steps.specs.EmitMovesDoing.{Brings, Computes, Makes, CanWrite, IsLeft, IsReadable, value_of}
use Rattle.rv_emit_steps.proofs.Computing.{fetched, found_apart, computed_made, result_some}
use Rattle.rv_emit_steps.proofs.Moves.{value_fits, operation_made, truncation_made, comparison_made, move_made}
use Rattle.rv_emit_steps.specs.Meaning.{Means, bits_at, HoldsBits}
use Rattle.rv_emit_steps.specs.Frames.{Setting, IsStorage, HoldsFrame, Performs, DoesStep, IsWord, IsWordIn, IsStraight, straight_code}
use Rattle.rv_emit_steps.proofs.Values.{operation_means, truncation_means, same_means}
use Rattle.rv_emit_steps.proofs.Elements.{load_size_is, store_size_is, loaded_means}
use Rattle.rv_emit_steps.proofs.Homes.{can_write, frame_stays, home_performed}
use Rattle.rv_emit_steps.proofs.Operands.{operand_readable, operand_means}
use Rattle.rv_emit_steps.proofs.Reaching.{Finds, location_found}
use Rattle.rv_emit_steps.proofs.Stores.{byte_apart, store_framed}
use Rattle.rv_emit_steps.proofs.Accesses.{Hits, Reads, read_reads, WritesTo, write_writes, hit_data}

-- ---- Addresses in the frame

address_computes : (h : Holding) (rd offset : ℕ) → 0 < rd → h.registers 2 + offset < 4294967296 → Computes (address_code rd 7 offset) h rd (h.registers 2 + offset)
unfolding operation_result operated_immediate
address_computes h rd offset some fits = by_tests (nat_lt offset 2048) (low_part offset == 0) refl
  where
    by_tests : (b z : Bool) → (low_part offset == 0) ≡ z
        → Computes (cond b (instruction.Immediate Addi rd 2 offset ∷ []) (cond z (instruction.Lui 7 (high_part offset) ∷ instruction.Register on.Add rd 7 2 ∷ [])
        (instruction.Lui 7 (high_part offset) ∷ instruction.Immediate Addi 7 7 (low_part offset) ∷ instruction.Register on.Add rd 7 2 ∷ []))) h rd (h.registers 2 + offset)
    by_tests true z e = record {
      can = (tt, tt);
      value = register_same rd (word (h.registers 2 + offset)) h.registers some ∙ (omega arith);
      kept = λ q other left. register_other rd (word (h.registers 2 + offset)) q h.registers other;
      memory = refl;
      input = refl;
    }
    by_tests false true e =
        let alone : high_part offset * 4096 ≡ offset = high_part_alone offset (omega arith) (eqb-true (low_part offset) 0 e) in
        let v2 : ℕ = word (high_part offset * 4096 + h.registers 2) in
        record {
          can = (tt, (tt, tt));
          value = register_same rd v2 (with_register 7 (high_part offset * 4096) h.registers) some ∙ (omega (arith, alone));
          kept = λ q other left. register_other rd v2 q (with_register 7 (high_part offset * 4096) h.registers) other ∙ register_other 7 (high_part offset * 4096) q h.registers left.t2;
          memory = refl;
          input = refl;
        }
    by_tests false false e =
        let made : word (high_part offset * 4096 + low_part offset) ≡ offset = parts_make offset (omega arith) in
        let g1 : ℕ → ℕ = with_register 7 (high_part offset * 4096) h.registers in
        let v2 : ℕ = word (high_part offset * 4096 + low_part offset) in
        let g2 : ℕ → ℕ = with_register 7 v2 g1 in
        let v3 : ℕ = word (v2 + h.registers 2) in
        record {
          can = (tt, (tt, (tt, tt)));
          value = register_same rd v3 g2 some ∙ ap (λ x. word (x + h.registers 2)) made ∙ (omega arith);
          kept = λ q other left. register_other rd v3 q g2 other ∙ register_other 7 v2 q g1 left.t2 ∙ register_other 7 (high_part offset * 4096) q h.registers left.t2;
          memory = refl;
          input = refl;
        }

-- ---- Stores

-- A register, in which words brought a value, is stored where other words find the element.
pub element_stored : (w : Setting) (c : Configuration) (h : Holding) → IsStorage w → HoldsFrame w c h → (front : List MachineInstruction) (r : Reach) (e : Element) (rs x : ℕ) (p v : Value) (n : ℕ) (o : Object) (i : ℕ)
    → Hits c.memory e p n o i → CanDoAll front h → (done_by_all front h).registers rs ≡ x → ((q : ℕ) → IsLeft q → (done_by_all front h).registers q ≡ h.registers q) → (done_by_all front h).memory ≡ h.memory
    → (done_by_all front h).input ≡ h.input → Finds r (done_by_all front h) (w.addresses n + i * size_of o.element) → rs ≢ 5 → rs ≢ 7 → Means w.addresses c.memory v x → x < 4294967296
    → Performs w c h None (front ++ storing e r rs) (record c { memory = slice_set c.memory n (with_value i v o) })
element_stored w c h storage frame front r e rs x p v n o i hits can is stays memory input finds n5 n7 means fits =
    let a : ℕ = w.addresses n + i * size_of o.element in
    let t : Holding = done_by_all front h in
    let u : Holding = done_by_all r.code t in
    let s : MachineInstruction = instruction.Store (store_operation e) rs r.base r.offset in
    let both : done_by_all (front ++ storing e r rs) h ≡ done_by_all (r.code ++ s ∷ []) t = done_by_both front (storing e r rs) h in
    let last : done_by_all (r.code ++ s ∷ []) t ≡ done_by_all (s ∷ []) u = done_by_both r.code (s ∷ []) t in
    let there : IsDataAt u.regions (store_size (store_operation e)) (word (u.registers r.base + r.offset)) =
    subst (λ m. IsDataAt m (store_size (store_operation e)) (word (u.registers r.base + r.offset))) (sym (regions_stay r.code t ∙ regions_stay front h ∙ frame.map))
    (subst (λ k. IsDataAt (map_of_unit w.unit) k (word (u.registers r.base + r.offset))) (sym (store_size_is e))
    (subst (IsDataAt (map_of_unit w.unit) (size_of e)) (sym finds.there) (hit_data w.addresses c.memory e p n o i frame.laid hits))) in
    let kept : (q : ℕ) → IsLeft q → (done_by_all (front ++ storing e r rs) h).registers q ≡ h.registers q = λ q left. ap (λ (y : Holding). y.registers q) (both ∙ last) ∙ finds.kept q left.t0 left.t2 ∙ stays q left in
    let made : (done_by_all (front ++ storing e r rs) h).memory ≡ with_bytes (size_of e) a x h.memory =
    ap (λ (y : Holding). y.memory) (both ∙ last)
    ∙ ap (λ k. with_bytes k (word (u.registers r.base + r.offset)) (u.registers rs) u.memory) (store_size_is e)
    ∙ ap (λ k. with_bytes (size_of e) k (u.registers rs) u.memory) finds.there
    ∙ ap (λ k. with_bytes (size_of e) a k u.memory) (finds.kept rs n5 n7 ∙ is)
    ∙ ap (λ (m : ℕ → ℕ). with_bytes (size_of e) a x m) (finds.memory ∙ memory) in
    record {
      can = can_do_both front (storing e r rs) h can (can_do_both r.code (s ∷ []) t finds.can (there, tt));
      frame = store_framed w c h storage frame e p v x n o i hits means fits (done_by_all (front ++ storing e r rs) h) (regions_stay (front ++ storing e r rs) h) kept made;
      kept = λ q none left. kept q left;
      outside = λ b out. ap (λ (m : ℕ → ℕ). m b) made ∙ byte_apart w c h storage frame e p v x n o i hits means fits b (⊎_elim (λ (low : b < w.addresses n). inl low) (λ (past : w.addresses n + 4 * words_of (bytes_of o) ≤ b). inr (omega (arith, past))) (out.1 n o hits.there hits.live));
      input = ap (λ (y : Holding). y.input) (both ∙ last) ∙ finds.input ∙ input;
    }

module _ (w : Setting) (c : Configuration) (h : Holding) (storage : IsStorage w) (frame : HoldsFrame w c h) (range : AreInRange h) where
  -- ---- Values of names

  move_does : (x : ℕ) (a : Operand) → x < w.graph.name_count → IsOperand w.unit.statics w.graph a → IsWord a
      → DoesStep w c h (Some (home_at w.storage x)) (straight_code w.storage w.held (Move x a)) (wrote c (home_number (home_at w.storage x)) (value w.unit.statics c.here.names (placed_operand (home_at w.storage) a)))
  move_does x a is valid fits =
      let home = home_at w.storage x in
      home_performed w c h home _ _ _ storage frame (storage.homes x is)
      (move_made w.storage w.held h home (source_of w.storage a) frame.fetch (can_write w c h home storage frame (storage.homes x is)) range (operand_readable w c h a storage frame valid fits))
      (operand_means w c h a storage frame valid)

  operation_does : (x : ℕ) (op : Operation) (a b : Operand) → x < w.graph.name_count → IsOperand w.unit.statics w.graph a → IsOperand w.unit.statics w.graph b → IsWord a → IsWord b
      → DoesStep w c h (Some (home_at w.storage x)) (straight_code w.storage w.held (Operate x op a b))
      (wrote c (home_number (home_at w.storage x)) (operate op (value w.unit.statics c.here.names (placed_operand (home_at w.storage) a)) (value w.unit.statics c.here.names (placed_operand (home_at w.storage) b))))
  operation_does x op a b is va vb fa fb =
      let home = home_at w.storage x in
      let ra : IsReadable w.storage h (source_of w.storage a) = operand_readable w c h a storage frame va fa in
      let rb : IsReadable w.storage h (source_of w.storage b) = operand_readable w c h b storage frame vb fb in
      home_performed w c h home _ _ _ storage frame (storage.homes x is)
      (operation_made w.storage w.held h home op (source_of w.storage a) (source_of w.storage b) frame.fetch (can_write w c h home storage frame (storage.homes x is)) range ra rb)
      (operation_means w.addresses c.memory frame.laid op _ _ _ _ (value_fits w.storage h (source_of w.storage a) range ra) (value_fits w.storage h (source_of w.storage b) range rb) (operand_means w c h a storage frame va) (operand_means w c h b storage frame vb))

  truncation_does : (x : ℕ) (t : Truncation) (a : Operand) → x < w.graph.name_count → IsOperand w.unit.statics w.graph a → IsWord a
      → DoesStep w c h (Some (home_at w.storage x)) (straight_code w.storage w.held (Truncate x t a)) (wrote c (home_number (home_at w.storage x)) (truncate t (value w.unit.statics c.here.names (placed_operand (home_at w.storage) a))))
  truncation_does x t a is valid fits =
      let home = home_at w.storage x in
      home_performed w c h home _ _ _ storage frame (storage.homes x is)
      (truncation_made w.storage w.held h home t (source_of w.storage a) frame.fetch (can_write w c h home storage frame (storage.homes x is)) (operand_readable w c h a storage frame valid fits))
      (truncation_means w.addresses c.memory frame.laid t _ _ (operand_means w c h a storage frame valid))

  comparison_does : (x : ℕ) (a b : Operand) → x < w.graph.name_count → IsOperand w.unit.statics w.graph a → IsOperand w.unit.statics w.graph b → IsWord a → IsWord b
      → DoesStep w c h (Some (home_at w.storage x)) (straight_code w.storage w.held (Same x a b))
      (wrote c (home_number (home_at w.storage x)) (same (is_live c.memory) (value w.unit.statics c.here.names (placed_operand (home_at w.storage) a)) (value w.unit.statics c.here.names (placed_operand (home_at w.storage) b))))
  comparison_does x a b is va vb fa fb =
      let home = home_at w.storage x in
      home_performed w c h home _ _ _ storage frame (storage.homes x is)
      (comparison_made w.storage w.held h home (source_of w.storage a) (source_of w.storage b) frame.fetch (can_write w c h home storage frame (storage.homes x is)) (operand_readable w c h a storage frame va fa) (operand_readable w c h b storage frame vb fb))
      (same_means w.addresses c.memory frame.laid _ _ _ _ (operand_means w c h a storage frame va) (operand_means w c h b storage frame vb))

  -- ---- Loads

  -- A load behind the words that find the element.
  load_computes : (r : Reach) (e : Element) (rd a : ℕ) → 0 < rd → Finds r h a → IsDataAt h.regions (size_of e) a → Computes (r.code ++ instruction.Load (load_operation e) rd r.base r.offset ∷ []) h rd (loaded_at (load_operation e) h.memory a)
  load_computes r e rd a some finds there =
      let i : MachineInstruction = instruction.Load (load_operation e) rd r.base r.offset in
      let t : Holding = done_by_all r.code h in
      let v : ℕ = loaded_at (load_operation e) t.memory (word (t.registers r.base + r.offset)) in
      let both : done_by_all (r.code ++ i ∷ []) h ≡ writing rd v t = done_by_both r.code (i ∷ []) h in
      record {
        can = can_do_both r.code (i ∷ []) h finds.can (
          subst (λ m. IsDataAt m (load_size (load_operation e)) (word (t.registers r.base + r.offset))) (sym (regions_stay r.code h))
              (subst (λ k. IsDataAt h.regions k (word (t.registers r.base + r.offset))) (sym (load_size_is e)) (subst (IsDataAt h.regions (size_of e)) (sym finds.there) there)),
          tt,
        );
        value = ap (λ (u : Holding). u.registers rd) both ∙ register_same rd v t.registers some ∙ ap (λ (m : ℕ → ℕ). loaded_at (load_operation e) m (word (t.registers r.base + r.offset))) finds.memory ∙ ap (loaded_at (load_operation e) h.memory) finds.there;
        kept = λ q other left. ap (λ (u : Holding). u.registers q) both ∙ register_other rd v q t.registers other ∙ finds.kept q left.t0 left.t2;
        memory = ap (λ (u : Holding). u.memory) both ∙ finds.memory;
        input = ap (λ (u : Holding). u.input) both ∙ finds.input;
      }

  load_made : (r : Reach) (e : Element) (home : Home) (a : ℕ) → CanWrite w.storage h home → Finds r h a → IsDataAt h.regions (size_of e) a → Makes w.storage (loading w.storage home e r) h home (loaded_at (load_operation e) h.memory a)
  load_made r e home a write finds there =
      let rd : ℕ = result_register home in
      let i : MachineInstruction = instruction.Load (load_operation e) rd r.base r.offset in
      subst (λ l. Makes w.storage l h home (loaded_at (load_operation e) h.memory a)) (append_assoc r.code (i ∷ []) (finishing w.storage home rd))
      (computed_made w.storage (r.code ++ i ∷ []) h home (loaded_at (load_operation e) h.memory a) write (load_computes r e rd a (result_some w.storage h home write) finds there) (loaded_in_range (load_operation e) a h.memory range.bytes))

  load_does : (x : ℕ) (e : Element) (l : Location) → x < w.graph.name_count → IsLocation w.unit.statics w.graph l → IsWordIn l
      → DoesStep w c h (Some (home_at w.storage x)) (straight_code w.storage w.held (Load x e l)) (wrote_some c (home_number (home_at w.storage x)) (read c.memory e (pointed w.unit.statics c.memory c.here (placed_location (home_at w.storage) l))))
  load_does x e l is valid fits = by_value (read c.memory e p) refl
    where
      home : Home
      home = home_at w.storage x

      p : Value
      p = pointed w.unit.statics c.memory c.here (placed_location (home_at w.storage) l)

      by_value : (v : Option Value) → read c.memory e p ≡ v → DoesStep w c h (Some (home_at w.storage x)) (load_code w.storage w.held (home_at w.storage x) e l) (wrote_some c (home_number (home_at w.storage x)) v)
      by_value None found = tt
      by_value (Some v) found =
          let r : Reads c.memory e p v = read_reads c.memory e p v found in
          let a : ℕ = w.addresses r.number + r.index * size_of r.object.element in
          let finds : Finds (reach_of w.storage w.held l) h (w.addresses r.number + r.hits.offset) = location_found w c h l r.number r.hits.size r.hits.offset storage frame valid fits r.hits.is in
          let holds : HoldsBits w.addresses c.memory (size_of r.object.element) r.value (bits_at h.memory (size_of r.object.element) a) = frame.objects r.number r.object r.hits.there r.hits.live r.index r.value r.has in
          let means : Means w.addresses c.memory (as_element e r.value) (loaded_at (load_operation e) h.memory a) =
          loaded_means w.addresses c.memory e r.value h.memory a (subst (λ s. HoldsBits w.addresses c.memory s r.value (bits_at h.memory s a)) (sym r.hits.wide) holds) in
          home_performed w c h (home_at w.storage x) v (loaded_at (load_operation e) h.memory a) _ storage frame (storage.homes x is)
          (load_made (reach_of w.storage w.held l) e (home_at w.storage x) a (can_write w c h (home_at w.storage x) storage frame (storage.homes x is))
          (subst (λ o. Finds (reach_of w.storage w.held l) h (w.addresses r.number + o)) r.hits.at finds)
          (subst (λ m. IsDataAt m (size_of e) (w.addresses r.number + r.index * size_of r.object.element)) (sym frame.map) (hit_data w.addresses c.memory e p r.number r.object r.index frame.laid r.hits)))
          (subst (λ y. Means w.addresses c.memory y (loaded_at (load_operation e) h.memory a)) (sym r.gives) means)

  -- ---- Addresses

  address_does : (x object : ℕ) → x < w.graph.name_count → object < length w.graph.objects
      → DoesStep w c h (Some (home_at w.storage x)) (straight_code w.storage w.held (Address x object)) (wrote c (home_number (home_at w.storage x)) (pointer_to_object c.memory (c.here.first_object + object)))
  address_does x object is valid =
      let rd : ℕ = result_register (home_at w.storage x) in
      let a : ℕ = h.registers 2 + object_at w.storage object in
      let within : object_at w.storage object ≤ w.size = storage.objects object valid in
      let high : h.registers 2 + w.size ≤ stack_end (map_of_unit w.unit) = frame.high in
      let whole = (map_facts (map_of_unit w.unit)).whole in
      let write = can_write w c h (home_at w.storage x) storage frame (storage.homes x is) in
      home_performed w c h (home_at w.storage x) _ a _ storage frame (storage.homes x is)
      (computed_made w.storage (address_code rd 7 (object_at w.storage object)) h (home_at w.storage x) a write (address_computes h rd (object_at w.storage object) (result_some w.storage h (home_at w.storage x) write) (omega arith)) (omega arith))
      (own_means (slice_get c.memory (c.here.first_object + object)) refl)
    where
      own_means : (found : Option Object) → slice_get c.memory (c.here.first_object + object) ≡ found
          → Means w.addresses c.memory (option_map_or (λ (o : Object). Pointer (c.here.first_object + object) (bytes_of o) 0) found Odd) (h.registers 2 + object_at w.storage object)
      own_means None there = tt
      own_means (Some o) there = (ap (λ (q : Option Object). option_map bytes_of q) there, omega arith, omega (arith, frame.own object valid))

  -- ---- Stores

  store_does : (e : Element) (l : Location) (a : Operand) → IsLocation w.unit.statics w.graph l → IsWordIn l → IsOperand w.unit.statics w.graph a → IsWord a
      → DoesStep w c h None (straight_code w.storage w.held (Store e l a))
      (unless_odd (value w.unit.statics c.here.names (placed_operand (home_at w.storage) a)) (with_memory c (write c.memory e (pointed w.unit.statics c.memory c.here (placed_location (home_at w.storage) l)) (value w.unit.statics c.here.names (placed_operand (home_at w.storage) a)))))
  store_does e l a vl fl va fa = by_test (is_odd v) (write c.memory e p v) refl
    where
      v : Value
      v = value w.unit.statics c.here.names (placed_operand (home_at w.storage) a)

      p : Value
      p = pointed w.unit.statics c.memory c.here (placed_location (home_at w.storage) l)

      by_test : (b : Bool) (later : Option Memory) → write c.memory e p v ≡ later → DoesStep w c h None (store_code w.storage w.held e l (source_of w.storage a)) (cond b Wild (with_memory c later))
      by_test true later made = tt
      by_test false None made = tt
      by_test false (Some later) made =
          let t : WritesTo c.memory e p v later = write_writes c.memory e p v later made in
          subst (λ m. Performs w c h None (store_code w.storage w.held e l (source_of w.storage a)) (record c { memory = m })) t.makes (stored t.number t.object t.index t.hits)
        where
          stored : (n : ℕ) (o : Object) (i : ℕ) → Hits c.memory e p n o i → Performs w c h None (store_code w.storage w.held e l (source_of w.storage a)) (record c { memory = slice_set c.memory n (with_value i v o) })
          stored n o i hits =
              let source = source_of w.storage a in
              let front = fetched_source w.storage w.held source 6 in
              let rs : ℕ = source_register w.storage w.held source 6 in
              let x : ℕ = value_of w.storage h source in
              let readable : IsReadable w.storage h source = operand_readable w c h a storage frame va fa in
              let brings : Brings front h 6 rs x = fetched w.storage w.held h source 6 (omega arith) frame.fetch readable in
              let t : Holding = done_by_all front h in
              let stays : (q : ℕ) → IsLeft q → t.registers q ≡ h.registers q = λ q left. brings.kept q left.t1 left.t0 in
              let framed : HoldsFrame w c t = frame_stays w c h t (regions_stay front h) stays brings.memory frame in
              let finds : Finds (reach_of w.storage w.held l) t (w.addresses n + hits.offset) = location_found w c t l n hits.size hits.offset storage framed vl fl hits.is in
              let apart = found_apart w.storage w.held h source frame.fetch.left readable in
              element_stored w c h storage frame front (reach_of w.storage w.held l) e rs x _ v n o i hits brings.can (brings.value) stays brings.memory brings.input
              (subst (λ k. Finds (reach_of w.storage w.held l) t (w.addresses n + k)) hits.at finds) apart.0 apart.1 (operand_means w c h a storage frame va) (value_fits w.storage h source range readable)

  -- ---- Notes

  -- A note says nothing of a unit over homes but that a shadow is gone, and shadows are no part of the frame.
  note_does : (x : ℕ) → DoesStep w c h None [] (noted w.unit.statics c x (Gone 0))
  note_does x = record {
    can = tt;
    frame = record {
      fetch = frame.fetch;
      scratch = frame.scratch;
      aligned = frame.aligned;
      map = frame.map;
      low = frame.low;
      high = frame.high;
      homes = frame.homes;
      objects = frame.objects;
      laid = frame.laid;
      free = frame.free;
      own = frame.own;
      static = frame.static;
      arrays = frame.arrays;
    };
    kept = λ q none left. refl;
    outside = λ b out. refl;
    input = refl;
  }

  -- ---- All of them

  -- The words of an instruction that goes straight on do the step of the unit over homes.
  pub straight_does : (x : Instruction) → IsInstruction w.unit w.graph x → IsStraight x
      → DoesStep w c h (option_map (home_at w.storage) (target_of x)) (straight_code w.storage w.held x) (execute w.unit (placed_instruction (home_at w.storage) x) c)
  straight_does (Marker p) valid straight = absurd straight
  straight_does (Note x v) valid straight = note_does x
  straight_does (Move x a) valid straight = move_does x a valid.0 valid.1 straight
  straight_does (Operate x op a b) valid straight = operation_does x op a b valid.0 valid.1 valid.2 straight.0 straight.1
  straight_does (Truncate x t a) valid straight = truncation_does x t a valid.0 valid.1 straight
  straight_does (Same x a b) valid straight = comparison_does x a b valid.0 valid.1 valid.2 straight.0 straight.1
  straight_does (Address x object) valid straight = address_does x object valid.0 valid.1
  straight_does (Load x e l) valid straight = load_does x e l valid.0 valid.1 straight
  straight_does (Store e l a) valid straight = store_does e l a valid.0 straight.0 valid.1 straight.1
  straight_does (Zero object words) valid straight = absurd straight
  straight_does (CopyWords object bytes words) valid straight = absurd straight
  straight_does (Call target f all) valid straight = absurd straight
