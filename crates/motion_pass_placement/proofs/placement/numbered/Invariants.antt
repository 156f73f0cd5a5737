use Rattle.std.proofs.Common.{◌≡◌, ◌<◌, ◌≤◌, ◌+◌, ℕ, None, false, length}
use Rattle.std.specs.Prelude.{is_some, slice_index_or}
use Rattle.motion_pass_placement.specs.Placed.{AreNumbered}
use Rattle.motion_pass_placement.proofs.placement.numbered.Given as goal

abbrev pub invariant-loop-number : goal.invariant-loop-number
invariant-loop-number l = record {
  numbered : AreNumbered l.first_name l.made.temporaries.items l.made.end_name;
  end : l.made.end_name ≤ l.first_name + l.number;
  count : length l.made.temporaries.items ≡ l.number;
  flagged : (k : ℕ) → k < l.number → is_some (slice_index_or l.made.temporaries.items k None) ≡ slice_index_or l.treated k false;
}
