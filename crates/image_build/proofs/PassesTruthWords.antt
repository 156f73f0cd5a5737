-- What operations and truncations make of words are words, and where a function's names and rows are.
use Rattle.std.proofs.Common.{◌≡◌, ℕ, zero, suc, ◌+◌, ◌%◌, ◌<◌, subst, arith, Some, List, [], ◌∷◌, length, slice_get, refl}
use Rattle.std.specs.Prelude.{nat_lt}
use Rattle.std.proofs.lemmas.Option.{none-some, same_Some}
use Rattle.rv_emit_steps.proofs.Operations.{register_does}
use Rattle.rv_emit_instructions.specs.Operations.{register_operation}
use Rattle.graph_core.specs.Graphs.{Graph}
use Rattle.graph_homes.specs.declared.home.Home.{Home}
use Rattle.graph_homes.specs.Homed.{AreHomesOf}
use Rattle.rv_emit_steps.proofs.Operating.{operated_in_range}
use Rattle.word_base.specs.declared.operation.Operation.{Operation}
use Rattle.word_base.specs.declared.operation.Truncation.{Truncation}
use Rattle.word_base.specs.declared.operation.Truncation.TheVariants.{Unsigned8, Signed16, Unsigned16, Signed8}
use Rattle.word_base.specs.WordOperations.{word_operation, truncated}
use Rattle.base_laws.proofs.Numbers.{chosen_fits}

-- What an operation makes of words is a word.
pub operated_fits : (op : Operation) (a b : ℕ) → a < 4294967296 → b < 4294967296 → word_operation op a b < 4294967296
operated_fits op a b ha hb = subst (λ x. x < 4294967296) (register_does op a b) (operated_in_range (register_operation op) a b ha hb)

-- What a truncation leaves is a word.
pub truncated_fits : (t : Truncation) (a : ℕ) → truncated t a < 4294967296
unfolding truncated
truncated_fits Unsigned8 a = omega arith
truncated_fits Signed16 a = chosen_fits (nat_lt (a % 65536) 32768) (a % 65536) (a % 65536 + 4294901760) (omega arith) (omega arith)
truncated_fits Unsigned16 a = omega arith
truncated_fits Signed8 a = chosen_fits (nat_lt (a % 256) 128) (a % 256) (a % 256 + 4294967040) (omega arith) (omega arith)

-- The homes of a function's names: one for each.
pub homes_there : (gs : List Graph) (hs : List (List Home)) (f : ℕ) (g : Graph) → AreHomesOf gs hs → slice_get gs f ≡ Some g → (homes : List Home) × (slice_get hs f ≡ Some homes) × (length homes ≡ g.name_count)
homes_there [] hs f g are is = absurd (none-some g is)
homes_there (x ∷ gs) [] f g are is = absurd are
homes_there (x ∷ gs) (y ∷ hs) zero g are is = (y, refl, subst (λ (z : Graph). length y ≡ z.name_count) (same_Some x g is) are.0)
homes_there (x ∷ gs) (y ∷ hs) (suc f) g are is = homes_there gs hs f g are.2 is
