-- Truth values.
use Rattle.std.proofs.Common.{◌≡◌, Bool, true, false, ◌&&◌, refl}
pub use Rattle.base_laws.proofs.Booleans.{and_false, not_true, or_false, or_true, same_by}

pub and_true : (b : Bool) → (b && true) ≡ b
and_true true = refl
and_true false = refl
