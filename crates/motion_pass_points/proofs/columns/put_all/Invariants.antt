use Rattle.std.proofs.Common.{◌≡◌, ◌/◌, ◌%◌, ℕ, ◌&&◌, length, map}
use Rattle.std.specs.Prelude.{nat_lt}
use Rattle.motion_pass_points.specs.MotionPointsComputing.{computation_view}
use Rattle.motion_pass_points.specs.Columns.{is_marked, is_operand}
use Rattle.motion_pass_points.proofs.columns.put_all.Given as goal

abbrev pub invariant-loop-bit : goal.invariant-loop-bit
invariant-loop-bit l = record {
  size : length l.spoiled ≡ length l.fn.spoiled;
  marked : (x n : ℕ) → n / 64 ≡ l.index → is_marked l.spoiled x n ≡ (nat_lt (n % 64) l.bit && is_operand (map computation_view l.all) n x);
}
