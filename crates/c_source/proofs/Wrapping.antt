-- A converted number is one of its type.
use Rattle.std.proofs.Common.{◌≡◌, ℕ, ◌<◌, true, refl, arith, ℤ, pos, negsuc}
use Rattle.std.specs.Prelude.{nat_le}
use Rattle.word_base.specs.Types.{holds, modulo}
use Rattle.c_tree.specs.declared.types.IntegerType.{IntegerType}
use Rattle.c_tree.specs.declared.types.IntegerType.TheVariants.{Char, SignedChar, UnsignedChar, Short, UnsignedShort, Int, UnsignedInt, Long, UnsignedLong}
use Rattle.c_type_rules.specs.Integers.{integer, wrapped}
use Rattle.base_laws.proofs.Numbers.{by_sign, up_to}

remainder_below : (m : ℕ) (z : ℤ) → 0 < m → modulo m z < m
remainder_below m (pos n) some = omega (arith, some)
remainder_below m (negsuc n) some = omega (arith, some)

-- A converted number is one of the type.
pub wrapped_holds : (t : IntegerType) (z : ℤ) → holds (integer t) (wrapped t z) ≡ true
wrapped_holds Char z = let lt = remainder_below 256 z (omega arith) in up_to (modulo 256 z) 255 (omega (arith, lt))
wrapped_holds UnsignedChar z = let lt = remainder_below 256 z (omega arith) in up_to (modulo 256 z) 255 (omega (arith, lt))
wrapped_holds UnsignedShort z = let lt = remainder_below 65536 z (omega arith) in up_to (modulo 65536 z) 65535 (omega (arith, lt))
wrapped_holds UnsignedInt z = let lt = remainder_below 4294967296 z (omega arith) in up_to (modulo 4294967296 z) 4294967295 (omega (arith, lt))
wrapped_holds UnsignedLong z = let lt = remainder_below 4294967296 z (omega arith) in up_to (modulo 4294967296 z) 4294967295 (omega (arith, lt))
wrapped_holds SignedChar z = by_sign 128 256 (modulo 256 z) refl (omega arith) (remainder_below 256 z (omega arith)) (nat_le 128 (modulo 256 z)) refl
wrapped_holds Short z = by_sign 32768 65536 (modulo 65536 z) refl (omega arith) (remainder_below 65536 z (omega arith)) (nat_le 32768 (modulo 65536 z)) refl
wrapped_holds Int z = by_sign 2147483648 4294967296 (modulo 4294967296 z) refl (omega arith) (remainder_below 4294967296 z (omega arith)) (nat_le 2147483648 (modulo 4294967296 z)) refl
wrapped_holds Long z = by_sign 2147483648 4294967296 (modulo 4294967296 z) refl (omega arith) (remainder_below 4294967296 z (omega arith)) (nat_le 2147483648 (modulo 4294967296 z)) refl
