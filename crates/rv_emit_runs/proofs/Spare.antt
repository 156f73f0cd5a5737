-- A store to the first element of an object of the frame that has none: it writes the spare word behind the object, in which nothing is held.
use Rattle.std.proofs.Common.{◌≡◌, ◌≢◌, ℕ, ◌+◌, ◌*◌, ◌%◌, ◌<◌, ◌≤◌, ◌⊎◌, ⊎_elim, inl, inr, sym, ap, ◌∙◌, subst, arith, true, Option, Some, None, List, [], ◌∷◌, ◌++◌, length, slice_get}
use Rattle.std.proofs.lemmas.Bool.{cases_eq}
use Rattle.memory_map.specs.Maps.{stack_start, stack_end}
use Rattle.memory_map.proofs.Facts.{map_facts}
use Rattle.rv_emit_storage.specs.UnitMaps.{map_of_unit}
use Rattle.rv_code.specs.declared.instruction.Instruction.{Instruction as MachineInstruction}
use Rattle.rv_code.specs.declared.instruction.Instruction.TheVariants as instruction
use Rattle.rv_machine.specs.State.{word}
use Rattle.rv_machine.specs.Table.{store_size}
use Rattle.graph_core.specs.declared.graph.MemoryObject.{MemoryObject}
use Rattle.graph_core.specs.declared.instruction.Element.{Element}
use Rattle.graph_core.specs.declared.instruction.Element.TheVariants.{Unsigned8, Signed8, Unsigned16, Signed16, Word}
use Rattle.graph_core.specs.Values.{size_of}
use Rattle.graph_core.specs.Memory.{Object, bytes_of}
use Rattle.graph_core.specs.Runs.{Configuration}
use Rattle.graph_homes.specs.declared.home.Home.{Home}
use Rattle.graph_homes.specs.declared.home.Home.TheVariants.{Register, Slot}
use Rattle.graph_homes.specs.Homed.{IsHomeAmong, home_number}
use Rattle.rv_emit_storage.specs.Storages.{slot_at, object_at}
use Rattle.rv_emit_instructions.specs.Memory.{Reach, store_operation, storing}
use Rattle.rv_emit_steps.specs.Holding.{Holding, word_at, with_bytes, IsDataAt}
use Rattle.rv_emit_steps.specs.Doing.{done_by_all, CanDoAll}
use Rattle.rv_emit_steps.proofs.Apart.{byte_outside}
use Rattle.rv_emit_steps.proofs.Placing.{done_by_both, can_do_both, regions_stay}
use Rattle.rv_emit_steps.specs.EmitMovesDoing.{IsLeft, value_of_home}
use Rattle.rv_emit_steps.proofs.Computing.{left_2, can_fetch_stays}
use Rattle.rv_emit_steps.specs.Meaning.{Means, HoldsObjects}
use Rattle.rv_emit_steps.specs.Frames.{Setting, IsStorage, HoldsFrame, IsNoTarget, IsOutside, Performs}
use Rattle.rv_emit_steps.proofs.Arrays.{array_stays, those_same}
use Rattle.rv_emit_steps.proofs.Elements.{store_size_is, word_kept}
use Rattle.rv_emit_steps.proofs.Homes.{home_left, slot_is}
use Rattle.rv_emit_steps.proofs.Objects.{objects_kept}
use Rattle.rv_emit_steps.proofs.Reaching.{Finds}

-- Each object of a frame lies behind its slots, with a word behind it.
abbrev pub HasRoom : Setting → Type 0
HasRoom w = (k : ℕ) (m : MemoryObject) → slice_get w.graph.objects k ≡ Some m → (w.storage.slots + 4 * w.slots ≤ object_at w.storage k) × (object_at w.storage k + 4 ≤ w.size)

-- A byte lies outside of the part of the frame in which its objects lie.
abbrev pub IsBeside : Setting → Holding → (address : ℕ) → Type 0
IsBeside w h b = (b < h.registers 2 + (w.storage.slots + 4 * w.slots)) ⊎ (h.registers 2 + w.size ≤ b)

-- Code leads from one configuration to another, as code of an instruction does, but that it may write between the frame's objects too.
pub record BindsOne (w : Setting) (c : Configuration) (h : Holding) (target : Option Home) (code : List MachineInstruction) (d : Configuration) : Type 0 where
  pub can : CanDoAll code h
  pub frame : HoldsFrame w d (done_by_all code h)
  pub kept : (q : ℕ) → IsNoTarget target q → IsLeft q → (done_by_all code h).registers q ≡ h.registers q
  pub outside : (b : ℕ) → IsOutside w c h b → IsBeside w h b → (done_by_all code h).memory b ≡ h.memory b
  pub input : (done_by_all code h).input ≡ h.input

-- What code of an instruction does is so.
pub performs_binds : (w : Setting) (c : Configuration) (h : Holding) (target : Option Home) (code : List MachineInstruction) (d : Configuration) → Performs w c h target code d → BindsOne w c h target code d
performs_binds w c h target code d p = record { can = p.can; frame = p.frame; kept = p.kept; outside = λ b out beside. p.outside b out; input = p.input }

size_low : (e : Element) → (1 ≤ size_of e) × (size_of e ≤ 4)
size_low Unsigned8 = (omega arith, omega arith)
size_low Signed8 = (omega arith, omega arith)
size_low Unsigned16 = (omega arith, omega arith)
size_low Signed16 = (omega arith, omega arith)
size_low Word = (omega arith, omega arith)

size_whole : (e : Element) (a : ℕ) → a % 4 ≡ 0 → a % size_of e ≡ 0
size_whole Unsigned8 a is = omega (arith, is)
size_whole Signed8 a is = omega (arith, is)
size_whole Unsigned16 a is = omega (arith, is)
size_whole Signed16 a is = omega (arith, is)
size_whole Word a is = is

module _ (w : Setting) (c : Configuration) (h : Holding) (storage : IsStorage w) (frame : HoldsFrame w c h) (k : ℕ) (within : k < length w.graph.objects) (o : Object) (there : slice_get c.memory (c.here.first_object + k) ≡ Some o) (live : o.live ≡ true) (empty : bytes_of o ≡ 0)
    (low : w.storage.slots + 4 * w.slots ≤ object_at w.storage k) (high : object_at w.storage k + 4 ≤ w.size) (e : Element) (x : ℕ) where
  -- where it lies
  abbrev n : ℕ
  n = c.here.first_object + k

  abbrev pub spare_memory : ℕ → ℕ
  spare_memory = with_bytes (size_of e) (w.addresses (c.here.first_object + k)) x h.memory

  at : w.addresses (c.here.first_object + k) ≡ h.registers 2 + object_at w.storage k
  at = frame.own k within

  -- A byte outside of the spare word is as it was.
  spare_apart : (b : ℕ) → (b < w.addresses (c.here.first_object + k)) ⊎ (w.addresses (c.here.first_object + k) + 4 ≤ b) → with_bytes (size_of e) (w.addresses (c.here.first_object + k)) x h.memory b ≡ h.memory b
  spare_apart b which =
      let few = (size_low e).1 in
      byte_outside (size_of e) (w.addresses (c.here.first_object + k)) x h.memory b
      (⊎_elim (λ (below : b < w.addresses (c.here.first_object + k)). inl below) (λ (past : w.addresses (c.here.first_object + k) + 4 ≤ b). inr (omega (arith, past, few))) which)

  slot_apart : (j : ℕ) → j < w.slots → word_at spare_memory (h.registers 2 + slot_at w.storage j) ≡ word_at h.memory (h.registers 2 + slot_at w.storage j)
  slot_apart j lt =
      let is : slot_at w.storage j ≡ w.storage.slots + 4 * j = slot_is w c h j storage frame lt in
      let a : ℕ = h.registers 2 + slot_at w.storage j in
      let here = at in
      word_kept h.memory spare_memory (h.registers 2 + slot_at w.storage j)
      (spare_apart _ (inl (omega (arith, is, here, low, lt)))) (spare_apart _ (inl (omega (arith, is, here, low, lt))))
      (spare_apart _ (inl (omega (arith, is, here, low, lt)))) (spare_apart _ (inl (omega (arith, is, here, low, lt))))

  objects_apart : HoldsObjects w.addresses c.memory spare_memory
  objects_apart = objects_kept w.addresses c.memory h.memory spare_memory (λ m p is alive b least most. spare_apart b (beside m p is alive b least most)) frame.objects
    where
      beside : (m : ℕ) (p : Object) → slice_get c.memory m ≡ Some p → p.live ≡ true → (b : ℕ) → w.addresses m ≤ b → b < w.addresses m + bytes_of p → (b < w.addresses (c.here.first_object + k)) ⊎ (w.addresses (c.here.first_object + k) + 4 ≤ b)
      beside m p is alive b least most = ⊎_elim
          (λ (same : m ≡ c.here.first_object + k).
          let one : Some p ≡ Some o = sym is ∙ ap (slice_get c.memory) same ∙ there in
          let it : p ≡ o = cc in
          let none : bytes_of p ≡ 0 = ap bytes_of it ∙ empty in
          absurd (omega (arith, least, most, none)))
          (λ (apart : m ≢ c.here.first_object + k).
          let whole = frame.laid.aligned m p is in
          let mine = frame.laid.aligned (c.here.first_object + k) o there in
          ⊎_elim (λ (below : w.addresses m + bytes_of p < w.addresses (c.here.first_object + k)). inl (omega (arith, below, most)))
          (λ (above : w.addresses (c.here.first_object + k) + bytes_of o < w.addresses m). inr (omega (arith, above, least, whole, mine)))
          (frame.laid.apart m (c.here.first_object + k) p o apart is there alive live))
          (cases_eq m (c.here.first_object + k))

  module _ (t : Holding) (same_map : t.regions ≡ h.regions) (kept : (q : ℕ) → IsLeft q → t.registers q ≡ h.registers q) (memory : t.memory ≡ with_bytes (size_of e) (w.addresses (c.here.first_object + k)) x h.memory) where
    home_apart : (home : Home) → IsHomeAmong w.slots home → value_of_home w.storage t home ≡ value_of_home w.storage h home
    home_apart (Register r) among = kept r (home_left r among)
    home_apart (Slot j) lt = ap (λ s. word_at t.memory (s + slot_at w.storage j)) (kept 2 left_2) ∙ ap (λ (m : ℕ → ℕ). word_at m (h.registers 2 + slot_at w.storage j)) memory ∙ slot_apart j lt

    -- The frame stands as it stood.
    pub spare_framed : HoldsFrame w c t
    spare_framed =
        let sp : t.registers 2 ≡ h.registers 2 = kept 2 left_2 in
        record {
          fetch = can_fetch_stays w.storage w.held h t kept frame.fetch;
          scratch = frame.scratch;
          aligned = ap (λ s. s % 4) sp ∙ frame.aligned;
          map = same_map ∙ frame.map;
          low = subst (λ s. stack_start (map_of_unit w.unit) ≤ s) (sym sp) frame.low;
          high = subst (λ s. s + w.size ≤ stack_end (map_of_unit w.unit)) (sym sp) frame.high;
          homes = λ home among. subst (λ y. Means w.addresses c.memory (c.here.names (home_number home)) y) (sym (home_apart home among)) (frame.homes home among);
          objects = subst (λ (m : ℕ → ℕ). HoldsObjects w.addresses c.memory m) (sym memory) objects_apart;
          laid = frame.laid;
          free = λ m q is alive. subst (λ s. (w.addresses m + bytes_of q ≤ s) ⊎ (s + (w.storage.slots + 4 * w.slots) ≤ w.addresses m)) (sym sp) (frame.free m q is alive);
          own = λ j lt. frame.own j lt ∙ ap (λ s. s + object_at w.storage j) (sym sp);
          static = frame.static;
          arrays = λ m all is.
              let has = frame.arrays m all is in
              let end = has.high in
              let here = at in
              let far = frame.low in
              array_stays w c.memory c.memory h.memory t.memory m all (those_same c.memory) (λ b least most. ap (λ (f : ℕ → ℕ). f b) memory ∙ spare_apart b (inl (omega (arith, most, end, here, far, (map_facts (map_of_unit w.unit)).apart)))) has;
        }

  -- So it is behind the words that store a register there.
  pub spare_stored : (r : Reach) (rs : ℕ) → h.registers rs ≡ x → rs ≢ 5 → rs ≢ 7 → Finds r h (w.addresses (c.here.first_object + k)) → BindsOne w c h None (storing e r rs) c
  spare_stored r rs is n5 n7 finds =
      let a : ℕ = w.addresses (c.here.first_object + k) in
      let u : Holding = done_by_all r.code h in
      let s : MachineInstruction = instruction.Store (store_operation e) rs r.base r.offset in
      let last : done_by_all (r.code ++ s ∷ []) h ≡ done_by_all (s ∷ []) u = done_by_both r.code (s ∷ []) h in
      let here = at in
      let inside : IsDataAt (map_of_unit w.unit) (size_of e) a =
      (size_whole e a (frame.laid.aligned (c.here.first_object + k) o there), inr (let far = frame.low in omega (arith, here, far), let few = (size_low e).1 in let top = frame.high in omega (arith, here, few, high, top))) in
      let found : IsDataAt u.regions (store_size (store_operation e)) (word (u.registers r.base + r.offset)) =
      subst (λ m. IsDataAt m (store_size (store_operation e)) (word (u.registers r.base + r.offset))) (sym (regions_stay r.code h ∙ frame.map))
      (subst (λ q. IsDataAt (map_of_unit w.unit) q (word (u.registers r.base + r.offset))) (sym (store_size_is e)) (subst (IsDataAt (map_of_unit w.unit) (size_of e)) (sym finds.there) inside)) in
      let kept : (q : ℕ) → IsLeft q → (done_by_all (storing e r rs) h).registers q ≡ h.registers q = λ q left. ap (λ (y : Holding). y.registers q) last ∙ finds.kept q left.t0 left.t2 in
      let made : (done_by_all (storing e r rs) h).memory ≡ with_bytes (size_of e) a x h.memory =
      ap (λ (y : Holding). y.memory) last
      ∙ ap (λ q. with_bytes q (word (u.registers r.base + r.offset)) (u.registers rs) u.memory) (store_size_is e)
      ∙ ap (λ q. with_bytes (size_of e) q (u.registers rs) u.memory) finds.there
      ∙ ap (λ q. with_bytes (size_of e) a q u.memory) (finds.kept rs n5 n7 ∙ is)
      ∙ ap (λ (m : ℕ → ℕ). with_bytes (size_of e) a x m) finds.memory in
      record {
        can = can_do_both r.code (s ∷ []) h finds.can (found, tt);
        frame = spare_framed (done_by_all (storing e r rs) h) (regions_stay (storing e r rs) h) kept made;
        kept = λ q none left. kept q left;
        outside = λ b out beside. ap (λ (m : ℕ → ℕ). m b) made ∙ spare_apart b (⊎_elim (λ (below : b < h.registers 2 + (w.storage.slots + 4 * w.slots)). inl (omega (arith, below, here, low))) (λ (past : h.registers 2 + w.size ≤ b). inr (omega (arith, past, here, high))) beside);
        input = ap (λ (y : Holding). y.input) last ∙ finds.input;
      }
