-- A converted number is one of its type, and conversions come to numbers of their types.
use Rattle.std.proofs.Common.{◌≡◌, ℕ, ◌<◌, true, refl, sym, subst, arith, ℤ, pos, negsuc}
use Rattle.std.specs.Prelude.{nat_le}
use Rattle.word_base.specs.Types.{holds, modulo}
use Rattle.c_tree.specs.declared.types.IntegerType.{IntegerType}
use Rattle.c_tree.specs.declared.types.IntegerType.TheVariants.{Char, SignedChar, UnsignedChar, Short, UnsignedShort, Int, UnsignedInt, Long, UnsignedLong}
use Rattle.c_tree.specs.declared.object_type.ValueType.TheVariants.{Integer}
use Rattle.c_tree.specs.TypedExpressions.{RvalueTree, Convert}
use Rattle.c_tree.specs.Programs.{ProgramTree}
use Rattle.c_type_rules.specs.Integers.{integer, wrapped}
use Rattle.c_type_laws.specs.Kind.{Kind, Of}
use Rattle.c_type_laws.specs.Expressions.{kind_of}
use Rattle.c_meaning_values.specs.declared.value.Value.{Value}
use Rattle.c_meaning_values.specs.declared.value.Value.TheVariants as source
use Rattle.c_meaning_values.specs.Memory.{Memory}
use Rattle.c_meaning_values.specs.Operations.{convert}
use Rattle.c_meaning_steps.specs.States.{State, Evaluated, Gives, Leaves, Ends, value_or_undefined, mapped}
use Rattle.c_meaning.specs.Expressions.{Calls, evaluate}
use Rattle.graph_build_runs.proofs.Leads.{Setting, depth_in}
use Rattle.graph_build_runs.proofs.Later.{later_refl}
use Rattle.graph_build_runs.proofs.Typing.{Keeps, Typed}
use Rattle.base_laws.proofs.Numbers.{by_sign, up_to}

remainder_below : (m : ℕ) (z : ℤ) → 0 < m → modulo m z < m
remainder_below m (pos n) some = omega (arith, some)
remainder_below m (negsuc n) some = omega (arith, some)

-- A converted number is one of the type.
pub wrapped_holds : (t : IntegerType) (z : ℤ) → holds (integer t) (wrapped t z) ≡ true
wrapped_holds Char z = let lt = remainder_below 256 z (omega arith) in up_to (modulo 256 z) 255 (omega (arith, lt))
wrapped_holds UnsignedChar z = let lt = remainder_below 256 z (omega arith) in up_to (modulo 256 z) 255 (omega (arith, lt))
wrapped_holds UnsignedShort z = let lt = remainder_below 65536 z (omega arith) in up_to (modulo 65536 z) 65535 (omega (arith, lt))
wrapped_holds UnsignedInt z = let lt = remainder_below 4294967296 z (omega arith) in up_to (modulo 4294967296 z) 4294967295 (omega (arith, lt))
wrapped_holds UnsignedLong z = let lt = remainder_below 4294967296 z (omega arith) in up_to (modulo 4294967296 z) 4294967295 (omega (arith, lt))
wrapped_holds SignedChar z = by_sign 128 256 (modulo 256 z) refl (omega arith) (remainder_below 256 z (omega arith)) (nat_le 128 (modulo 256 z)) refl
wrapped_holds Short z = by_sign 32768 65536 (modulo 65536 z) refl (omega arith) (remainder_below 65536 z (omega arith)) (nat_le 32768 (modulo 65536 z)) refl
wrapped_holds Int z = by_sign 2147483648 4294967296 (modulo 4294967296 z) refl (omega arith) (remainder_below 4294967296 z (omega arith)) (nat_le 2147483648 (modulo 4294967296 z)) refl
wrapped_holds Long z = by_sign 2147483648 4294967296 (modulo 4294967296 z) refl (omega arith) (remainder_below 4294967296 z (omega arith)) (nat_le 2147483648 (modulo 4294967296 z)) refl

pub convert_of : (x : Setting) (calls : Calls) (ty : IntegerType) (e : RvalueTree) → kind_of x.program x.tree (Convert ty e) ≡ Of (Integer ty) → Typed x calls e → Typed x calls (Convert ty e)
convert_of x calls ty e kind typed_e s sound =
    subst (λ k. Keeps x.program x.begun s.memory k (evaluate calls (depth_in x) (Convert ty e) s)) (sym kind) (go (evaluate calls (depth_in x) e s) (typed_e s sound))
  where
    go : (r : Evaluated) → Keeps x.program x.begun s.memory (kind_of x.program x.tree e) r → Keeps x.program x.begun s.memory (Of (Integer ty)) (mapped r (convert ty))
    go (Gives (source.Number z) s1) h = record { sound = h.sound; later = h.later; is = wrapped_holds ty z }
    go (Gives source.Null s1) h = tt
    go (Gives (source.Pointer n k) s1) h = tt
    go (Leaves s1) h = h
    go (Ends c s1) h = tt
