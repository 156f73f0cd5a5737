use Rattle.std.proofs.Common.{◌≡◌, ℕ, [], length}
use Rattle.std.specs.Prelude.{slice_get}
use Rattle.std.specs.Option.{option_map_or}
use Rattle.currency.specs.declared.telling.ToldVariable as declared-variable
use Rattle.std.specs.Global.{Vec}
use Rattle.currency.proofs.told.ToldPlaces.new.Given as goal

abbrev pub invariant-loop-made : goal.invariant-loop-made
invariant-loop-made l = record {
  none : (p : ℕ) → option_map_or (λ (v : Vec declared-variable.ToldVariable). v.items) (slice_get l.by_place.items p) [] ≡ [];
  count : length l.by_place.items ≡ l._made;
}
