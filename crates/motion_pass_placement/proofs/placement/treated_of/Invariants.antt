use Rattle.std.proofs.Common.{◌≡◌, ◌↔◌, ◌<◌, ℕ, true, false, length}
use Rattle.std.specs.Prelude.{slice_index_or}
use Rattle.motion_pass_placement.specs.Placed.{IsMovedAnywhere}
use Rattle.motion_pass_placement.proofs.placement.treated_of.Given as goal

abbrev pub invariant-loop-block : goal.invariant-loop-block
invariant-loop-block l = record {
  size : length l.treated.items ≡ l.count;
  marked : (k : ℕ) → k < l.count → (slice_index_or l.treated.items k false ≡ true) ↔ IsMovedAnywhere l.block l.numbers l.fates k;
}
