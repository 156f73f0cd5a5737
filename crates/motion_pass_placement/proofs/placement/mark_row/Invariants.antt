use Rattle.std.proofs.Common.{◌≡◌, ◌↔◌, ◌⊎◌, ◌<◌, ℕ, true, false, length}
use Rattle.std.specs.Prelude.{slice_index_or}
use Rattle.motion_pass_placement.specs.Placed.{IsMovedBefore}
use Rattle.motion_pass_placement.proofs.placement.mark_row.Given as goal

abbrev pub invariant-loop-index : goal.invariant-loop-index
invariant-loop-index l = record {
  size : length l.treated ≡ length l.fn.treated;
  marked : (k : ℕ) → k < length l.fn.treated → (slice_index_or l.treated k false ≡ true) ↔ ((slice_index_or l.fn.treated k false ≡ true) ⊎ IsMovedBefore l.index l.numbers l.fates k);
}
