-- Operands are read as words that mean their values.
use Rattle.std.proofs.Common.{◌≡◌, ℕ, ◌+◌, ◌%◌, ◌≤◌, arith, refl, Option, Some, None, Bool, true, false, cond, slice_get}
use Rattle.std.specs.Prelude.{nat_le}
use Rattle.std.specs.Option.{option_map_or}
use Rattle.std.proofs.lemmas.Bool.{leb-true}
use Rattle.graph_core.specs.declared.value.Value.TheVariants.{Pointer, Odd}
use Rattle.graph_core.specs.Graphs.{Operand, Name, Constant, StaticAddress, StaticObject}
use Rattle.graph_core.specs.Values.{pointer_at}
use Rattle.graph_core.specs.Memory.{static_bytes}
use Rattle.graph_core.specs.Runs.{Configuration, value, static_address}
use Rattle.graph_core.specs.Validity.{IsOperand}
use Rattle.graph_homes.specs.Homed.{placed_operand}
use Rattle.rv_emit_storage.specs.Storages.{home_at, static_object_at, source_of}
use Rattle.rv_emit_steps.specs.Holding.{Holding}
use Rattle.rv_emit_steps.specs.EmitMovesDoing.{IsReadable, value_of}
use Rattle.rv_emit_steps.specs.Meaning.{Means}
use Rattle.rv_emit_steps.specs.Frames.{Setting, IsStorage, HoldsFrame, IsWord}
use Rattle.rv_emit_steps.proofs.Values.{lies_low}
use Rattle.rv_emit_steps.proofs.Homes.{home_readable}

pub operand_readable : (w : Setting) (c : Configuration) (h : Holding) (a : Operand) → IsStorage w → HoldsFrame w c h → IsOperand w.unit.statics w.graph a → IsWord a → IsReadable w.storage h (source_of w.storage a)
operand_readable w c h (Name x) storage frame valid fits = home_readable w c h (home_at w.storage x) storage frame (storage.homes x valid)
operand_readable w c h (Constant n) storage frame valid fits = omega arith
operand_readable w c h (StaticAddress object offset) storage frame valid fits = omega arith

-- The address in a static object.
pub static_means : (w : Setting) (c : Configuration) (h : Holding) (object offset : ℕ) → HoldsFrame w c h → Means w.addresses c.memory (static_address w.unit.statics object offset) ((static_object_at w.storage object + offset) % 4294967296)
static_means w c h object offset frame = by_some (slice_get w.unit.statics object) refl
  where
    a : ℕ
    a = (static_object_at w.storage object + offset) % 4294967296

    in_it : (o : StaticObject) → slice_get w.unit.statics object ≡ Some o → offset ≤ static_bytes o → Means w.addresses c.memory (Pointer object (static_bytes o) offset) ((static_object_at w.storage object + offset) % 4294967296)
    in_it o is le =
        let known = frame.static object o is in
        let low = lies_low w.addresses c.memory object (static_bytes o) frame.laid known.0 in
        (known.0, le, omega (arith, known.1, low.0, low.1, le))

    by_test : (o : StaticObject) → slice_get w.unit.statics object ≡ Some o → (b : Bool) → nat_le offset (static_bytes o) ≡ b
        → Means w.addresses c.memory (cond b (Pointer object (static_bytes o) offset) Odd) ((static_object_at w.storage object + offset) % 4294967296)
    by_test o is true e = in_it o is (leb-true offset (static_bytes o) e)
    by_test o is false e = tt

    by_some : (found : Option StaticObject) → slice_get w.unit.statics object ≡ found
        → Means w.addresses c.memory (option_map_or (λ (o : StaticObject). pointer_at object (static_bytes o) offset) found Odd) ((static_object_at w.storage object + offset) % 4294967296)
    by_some None is = tt
    by_some (Some o) is = by_test o is (nat_le offset (static_bytes o)) refl

-- What is read means the operand's value.
pub operand_means : (w : Setting) (c : Configuration) (h : Holding) (a : Operand) → IsStorage w → HoldsFrame w c h → IsOperand w.unit.statics w.graph a
    → Means w.addresses c.memory (value w.unit.statics c.here.names (placed_operand (home_at w.storage) a)) (value_of w.storage h (source_of w.storage a))
operand_means w c h (Name x) storage frame valid = frame.homes (home_at w.storage x) (storage.homes x valid)
operand_means w c h (Constant n) storage frame valid = refl
operand_means w c h (StaticAddress object offset) storage frame valid = static_means w c h object offset frame
