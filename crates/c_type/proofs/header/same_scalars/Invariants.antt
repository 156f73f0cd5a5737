use Rattle.std.proofs.Common.{◌≡◌, length, drop}
use Rattle.c_type.specs.Headers.{same_scalars}
use Rattle.c_type.proofs.header.same_scalars.Given as goal

abbrev pub invariant-loop-i : goal.invariant-loop-i
invariant-loop-i l = record {
  same : same_scalars (drop l.i l.one) (drop l.i l.other) ≡ same_scalars l.one l.other;
  long : length l.one ≡ length l.other;
}
