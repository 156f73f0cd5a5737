-- The words that reach a location find its address.
use Rattle.std.proofs.Common.{◌≡◌, ◌≢◌, ℕ, ◌+◌, ◌*◌, ◌%◌, ◌<◌, ◌≤◌, ap, ◌∙◌, subst, arith, refl, Option, Some, None, Bool, true, false, cond, List, [], ◌∷◌, length, slice_get}
use Rattle.std.specs.Prelude.{nat_lt, nat_le, option_map}
use Rattle.std.specs.Option.{option_map_or}
use Rattle.std.proofs.lemmas.Bool.{leb-true}
use Rattle.std.proofs.lemmas.Option.{slice_get_within}
use Rattle.word_base.specs.Arithmetic.{subtracted}
use Rattle.rv_code.specs.declared.instruction.Instruction.TheVariants as instruction
use Rattle.rv_code.specs.declared.instruction.RegisterOperation.TheVariants as on
use Rattle.rv_machine.specs.State.{word}
use Rattle.rv_machine.specs.Table.{operation_result}
use Rattle.graph_core.specs.declared.value.Value.TheVariants.{Pointer, Odd}
use Rattle.graph_core.specs.Graphs.{Location, Automatic, Static, At, StaticObject}
use Rattle.graph_core.specs.Values.{pointer_at}
use Rattle.graph_core.specs.Memory.{Object, bytes_of, static_bytes}
use Rattle.graph_core.specs.declared.graph.MemoryObject.{MemoryObject}
use Rattle.graph_core.specs.Runs.{Configuration, pointed}
use Rattle.graph_core.specs.Validity.{IsInObject, IsLocation}
use Rattle.graph_homes.specs.Homed.{placed_location}
use Rattle.rv_emit_storage.specs.declared.storage.Source.{Source}
use Rattle.rv_emit_storage.specs.declared.storage.Source.TheVariants.{Home as OfHome, Word}
use Rattle.rv_emit_storage.specs.Storages.{home_at, object_at, static_object_at, source_of}
use Rattle.rv_emit_words.specs.Constants.{is_small, low_part, high_part, constant_register, fetched_constant}
use Rattle.rv_emit_words.specs.Operands.{home_register, fetched_home}
use Rattle.rv_emit_instructions.specs.Memory.{Reach, upper_of, static_reach, frame_reach, pointer_reach, reach_of}
use Rattle.rv_emit_steps.specs.Holding.{Holding, with_register}
use Rattle.rv_emit_steps.specs.Doing.{done_by_all, CanDoAll}
use Rattle.rv_emit_steps.proofs.Registers.{register_other}
use Rattle.rv_emit_steps.specs.EmitMovesDoing.{Brings, CanFetch, IsReadable, value_of}
use Rattle.rv_emit_steps.proofs.Parts.{high_part_fits, parts_make, parts_reach, difference_adds}
use Rattle.rv_emit_steps.proofs.Fetching.{constant_found}
use Rattle.rv_emit_steps.proofs.Computing.{fetched}
use Rattle.rv_emit_steps.specs.Meaning.{size_at, Means}
use Rattle.rv_emit_steps.specs.Frames.{Setting, IsStorage, HoldsFrame, IsWordIn}
use Rattle.rv_emit_steps.proofs.Values.{lies_low}
use Rattle.rv_emit_steps.proofs.Operands.{operand_readable, operand_means}

-- Words find an address: behind them the register and the offset lead there. No register but t0 and t2 is written, and memory and input are as they were.
pub record Finds (r : Reach) (h : Holding) (address : ℕ) : Type 0 where
  pub can : CanDoAll r.code h
  pub there : word ((done_by_all r.code h).registers r.base + r.offset) ≡ address
  pub kept : (q : ℕ) → q ≢ 5 → q ≢ 7 → (done_by_all r.code h).registers q ≡ h.registers q
  pub memory : (done_by_all r.code h).memory ≡ h.memory
  pub input : (done_by_all r.code h).input ≡ h.input

-- An address that is known.
static_found : (w : Setting) (h : Holding) (a : ℕ) → CanFetch w.storage w.held h → a < 4294967296 → Finds (static_reach w.storage w.held a) h a
static_found w h a can fits = by_test (is_small (subtracted a w.storage.base))
  where
    base : ℕ
    base = w.storage.base

    by_test : (b : Bool)
        → Finds (cond b (record { code = []; base = 3; offset = subtracted a w.storage.base }) (record { code = fetched_constant (upper_of a) w.storage.base 7 w.held; base = constant_register (upper_of a) w.storage.base 7 w.held; offset = low_part a })) h a
    by_test true = record {
      can = tt;
      there = ap (λ x. word (x + subtracted a w.storage.base)) can.gp ∙ difference_adds a w.storage.base fits (omega (arith, can.fits));
      kept = λ q n5 n7. refl;
      memory = refl;
      input = refl;
    }
    by_test false =
        let high : high_part a < 1048576 = high_part_fits a in
        let upper : upper_of a ≡ high_part a * 4096 = omega arith in
        let brings = constant_found h w.held (upper_of a) w.storage.base 7 (omega arith) (omega arith) (omega (arith, can.fits)) can.none can.gp can.all in
        record {
          can = brings.can;
          there = ap (λ x. word (x + low_part a)) (brings.value ∙ upper) ∙ parts_make a fits;
          kept = λ q n5 n7. brings.kept q n7 n5;
          memory = brings.memory;
          input = brings.input;
        }

-- A byte of the frame.
frame_found : (h : Holding) (offset : ℕ) → h.registers 2 + offset < 4294967296 → Finds (frame_reach offset) h (h.registers 2 + offset)
unfolding operation_result
frame_found h offset fits = by_test (nat_lt offset 2048)
  where
    by_test : (b : Bool)
        → Finds (cond b (record { code = []; base = 2; offset = offset }) (record { code = instruction.Lui 7 (high_part offset) ∷ instruction.Register on.Add 7 7 2 ∷ []; base = 7; offset = low_part offset })) h (h.registers 2 + offset)
    by_test true = record { can = tt; there = omega arith; kept = λ q n5 n7. refl; memory = refl; input = refl }
    by_test false =
        let v1 : ℕ = high_part offset * 4096 in
        let f1 : ℕ → ℕ = with_register 7 v1 h.registers in
        let v2 : ℕ = word (v1 + h.registers 2) in
        record {
          can = (tt, (tt, tt));
          there = parts_reach offset (h.registers 2) (omega arith) ∙ (omega arith);
          kept = λ q n5 n7. register_other 7 v2 q f1 n7 ∙ register_other 7 v1 q h.registers n7;
          memory = refl;
          input = refl;
        }

-- Where a value points.
pointer_found : (w : Setting) (h : Holding) (source : Source) → CanFetch w.storage w.held h → IsReadable w.storage h source → value_of w.storage h source < 4294967296 → Finds (pointer_reach w.storage w.held source) h (value_of w.storage h source)
pointer_found w h (Word a) can readable fits = static_found w h a can fits
pointer_found w h (OfHome home) can readable fits =
    let brings : Brings (fetched_home w.storage home 7) h 7 (home_register home 7) (value_of w.storage h (OfHome home)) = fetched w.storage w.held h (OfHome home) 7 (omega arith) can readable in
    record {
      can = brings.can;
      there = ap (λ x. word (x + 0)) brings.value ∙ (omega arith);
      kept = λ q n5 n7. brings.kept q n7 n5;
      memory = brings.memory;
      input = brings.input;
    }

-- An address that is no other value.
pointer_is : (n object size bytes offset at : ℕ) → pointer_at object bytes offset ≡ Pointer n size at → (object ≡ n) × (offset ≡ at) × (offset ≤ bytes)
pointer_is n object size bytes offset at e = by_test (nat_le offset bytes) refl e
  where
    by_test : (b : Bool) → nat_le offset bytes ≡ b → cond b (Pointer object bytes offset) Odd ≡ Pointer n size at → (object ≡ n) × (offset ≡ at) × (offset ≤ bytes)
    by_test true le is = let one : object ≡ n = cc in let two : offset ≡ at = cc in (one, two, leb-true offset bytes le)
    by_test false le is = cc

-- The number of an object that there is.
in_object : (objects : List MemoryObject) (k offset : ℕ) → IsInObject (slice_get objects k) offset → k < length objects
in_object objects k offset within = by_some (slice_get objects k) refl within
  where
    by_some : (found : Option MemoryObject) → slice_get objects k ≡ found → IsInObject found offset → k < length objects
    by_some None e h = absurd h
    by_some (Some o) e h = slice_get_within objects k o e

-- The location at which an access works that reaches an object.
pub location_found : (w : Setting) (c : Configuration) (h : Holding) (l : Location) (n size offset : ℕ) → IsStorage w → HoldsFrame w c h → IsLocation w.unit.statics w.graph l → IsWordIn l
    → pointed w.unit.statics c.memory c.here (placed_location (home_at w.storage) l) ≡ Pointer n size offset → Finds (reach_of w.storage w.held l) h (w.addresses n + offset)
location_found w c h (At a) n size offset storage frame valid fits is =
    let means : Means w.addresses c.memory (Pointer n size offset) (value_of w.storage h (source_of w.storage a)) = subst (λ v. Means w.addresses c.memory v (value_of w.storage h (source_of w.storage a))) is (operand_means w c h a storage frame valid) in
    let low = lies_low w.addresses c.memory n size frame.laid means.0 in
    subst (λ x. Finds (pointer_reach w.storage w.held (source_of w.storage a)) h x) means.2
    (pointer_found w h (source_of w.storage a) frame.fetch (operand_readable w c h a storage frame valid fits) (omega (arith, means.1, means.2, low.1)))
location_found w c h (Static object) n size offset storage frame valid fits is = by_some (slice_get w.unit.statics object) refl is
  where
    there : (o : StaticObject) → slice_get w.unit.statics object ≡ Some o → (object ≡ n) × (0 ≡ offset) × (0 ≤ static_bytes o) → Finds (static_reach w.storage w.held (static_object_at w.storage object)) h (w.addresses n + offset)
    there o at (one, two, le) =
        let known = frame.static object o at in
        let low = lies_low w.addresses c.memory object (static_bytes o) frame.laid known.0 in
        let same : w.addresses object ≡ w.addresses n = ap w.addresses one in
        let e : static_object_at w.storage object ≡ w.addresses n + offset = omega (arith, known.1, same, two) in
        subst (λ x. Finds (static_reach w.storage w.held (static_object_at w.storage object)) h x) e (static_found w h (static_object_at w.storage object) frame.fetch (omega (arith, known.1, low.1)))

    by_some : (found : Option StaticObject) → slice_get w.unit.statics object ≡ found → option_map_or (λ (o : StaticObject). pointer_at object (static_bytes o) 0) found Odd ≡ Pointer n size offset
        → Finds (static_reach w.storage w.held (static_object_at w.storage object)) h (w.addresses n + offset)
    by_some None at e = cc
    by_some (Some o) at e = there o at (pointer_is n object size (static_bytes o) 0 offset e)
location_found w c h (Automatic object at) n size offset storage frame valid fits is = by_some (slice_get c.memory (c.here.first_object + object)) refl is
  where
    there : (o : Object) → slice_get c.memory (c.here.first_object + object) ≡ Some o → (c.here.first_object + object ≡ n) × (at ≡ offset) × (at ≤ bytes_of o)
        → Finds (frame_reach ((object_at w.storage object + at) % 4294967296)) h (w.addresses n + offset)
    there o found (one, two, le) =
        let known : size_at c.memory (c.here.first_object + object) ≡ Some (bytes_of o) = ap (λ (q : Option Object). option_map bytes_of q) found in
        let low = lies_low w.addresses c.memory (c.here.first_object + object) (bytes_of o) frame.laid known in
        let own = frame.own object (in_object w.graph.objects object at valid) in
        let same : w.addresses (c.here.first_object + object) ≡ w.addresses n = ap w.addresses one in
        let k : object_at w.storage object + at ≡ (object_at w.storage object + at) % 4294967296 = omega (arith, own, low.1, le) in
        let e : h.registers 2 + (object_at w.storage object + at) ≡ w.addresses n + offset = omega (arith, own, same, two) in
        subst (λ x. Finds (frame_reach x) h (w.addresses n + offset)) k
        (subst (λ x. Finds (frame_reach (object_at w.storage object + at)) h x) e (frame_found h (object_at w.storage object + at) (omega (arith, own, low.1, le))))

    by_some : (found : Option Object) → slice_get c.memory (c.here.first_object + object) ≡ found → option_map_or (λ (o : Object). pointer_at (c.here.first_object + object) (bytes_of o) at) found Odd ≡ Pointer n size offset
        → Finds (frame_reach ((object_at w.storage object + at) % 4294967296)) h (w.addresses n + offset)
    by_some None found e = cc
    by_some (Some o) found e = there o found (pointer_is n (c.here.first_object + object) size (bytes_of o) at offset e)
