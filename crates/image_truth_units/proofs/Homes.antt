-- What a debugger reads of a home is what the machine holds there for the unit's name.
use Rattle.std.proofs.Common.{◌≡◌, ℕ, ◌+◌, ◌-◌, ◌*◌, ◌<◌, true, ◌&&◌, [], refl, ap, ◌∙◌, arith}
use Rattle.std.specs.Prelude.{nat_le, nat_lt, if◌then◌else◌}
use Rattle.std.proofs.lemmas.Bool.{le-leb, lt-ltb, and_from}
use Rattle.memory_map.specs.Maps.{stack_end, stack_start}
use Rattle.image_build_tables.specs.Storages.{storage_of}
use Rattle.image_build_tables.specs.Variables.{bounded_count}
use Rattle.rv_machine.specs.State.{MachineState, reg}
use Rattle.rv_machine.specs.Memory.{word_in}
use Rattle.stop_engine_view.specs.Reading.{slot_word, is_stack_address}
use Rattle.stop_engine_view.specs.Words.{home_word}
use Rattle.graph_homes.specs.declared.home.Home.{Home}
use Rattle.graph_homes.specs.declared.home.Home.TheVariants.{Register, Slot}
use Rattle.graph_core.specs.Runs.{Activation}
use Rattle.graph_core.specs.Validity.{IsValid}
use Rattle.graph_homes.specs.Homed.{HomedForm, HaveHomes, IsHomeAmong}
use Rattle.rv_emit_steps.specs.Holding.{held, memory_of, word_at}
use Rattle.rv_emit_storage.specs.Storages.{slot_at}
use Rattle.rv_emit_steps.specs.EmitMovesDoing.{value_of_home}
use Rattle.rv_emit_runs.specs.Laid.{Arrangement, code_of}
use Rattle.rv_emit_runs.specs.Standing.{IsFrame}
use Rattle.rv_emit_runs.proofs.Frames.{all_codes}
use Rattle.image_truth_units.proofs.Reading.{stack_word_is}

module _ (h : HomedForm) (valid : IsValid h.unit) (homed : HaveHomes h) (a : Arrangement) (addresses : ℕ → ℕ) (s : MachineState) (b : Activation) (frame : IsFrame s.map (code_of h a b.function) addresses (reg s 2) b) (slots : ℕ) (slots_are : slots ≡ (code_of h a b.function).storage.slots) where
  -- a slot is a word of the frame
  slot_is : (k : ℕ) → k < (code_of h a b.function).slots → slot_word s (bounded_count (slots + 4 * k)) ≡ word_at (memory_of s.map s.bytes s.stack) (reg s 2 + slot_at (code_of h a b.function).storage k)
  slot_is k lt =
      let code = all_codes h valid homed a h.unit b.function in
      let room = (code.storage addresses []).room in
      let small = code.small in
      let low = frame.low in let high = frame.high in
      let offset : bounded_count (slots + 4 * k) ≡ (code_of h a b.function).storage.slots + 4 * k = omega (arith, slots_are, room, small, lt) in
      let place : slot_at (code_of h a b.function).storage k ≡ (code_of h a b.function).storage.slots + 4 * k = omega (arith, room, small, lt) in
      let below : nat_lt (reg s 2) (stack_end s.map) ≡ true = lt-ltb (reg s 2) (stack_end s.map) (omega (arith, high, room, lt)) in
      let stack : is_stack_address s (reg s 2) ≡ true = and_from (nat_le (stack_start s.map) (reg s 2)) (nat_lt (reg s 2) (stack_end s.map)) (le-leb (stack_start s.map) (reg s 2) low) below in
      let within : nat_le (reg s 2 + bounded_count (slots + 4 * k) + 4) (stack_end s.map) ≡ true = le-leb (reg s 2 + bounded_count (slots + 4 * k) + 4) (stack_end s.map) (omega (arith, offset, high, room, lt)) in
      let test : (is_stack_address s (reg s 2) && nat_le (reg s 2 + bounded_count (slots + 4 * k) + 4) (stack_end s.map)) ≡ true = and_from (is_stack_address s (reg s 2)) (nat_le (reg s 2 + bounded_count (slots + 4 * k) + 4) (stack_end s.map)) stack within in
      let at : reg s 2 - stack_start s.map + bounded_count (slots + 4 * k) ≡ reg s 2 + slot_at (code_of h a b.function).storage k - stack_start s.map = omega (arith, offset, place, low) in
      ap (λ c. if c then word_in s.stack (reg s 2 - stack_start s.map + bounded_count (slots + 4 * k)) else 0) test ∙ ap (word_in s.stack) at ∙ stack_word_is s (reg s 2 + slot_at (code_of h a b.function).storage k) (omega (arith, low))

  -- The word of a home is what the machine holds there.
  pub home_word_is : (home : Home) → IsHomeAmong (code_of h a b.function).slots home → home_word s (storage_of slots home) ≡ value_of_home (code_of h a b.function).storage (held s) home
  home_word_is (Register r) among = refl
  home_word_is (Slot k) among = slot_is k among
