use Rattle.std.proofs.Common.{◌≡◌, ℕ, [], length}
use Rattle.std.specs.Prelude.{slice_get}
use Rattle.std.specs.Option.{option_map_or}
use Rattle.std.specs.Global.{Vec}
use Rattle.currency_writers.proofs.lists.Lists.new.Given as goal

abbrev pub invariant-loop-made : goal.invariant-loop-made
invariant-loop-made l = record {
  none : (k : ℕ) → option_map_or (λ (v : Vec ℕ). v.items) (slice_get l.lists.items k) [] ≡ [];
  count : length l.lists.items ≡ l._made;
}
