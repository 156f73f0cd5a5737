use Rattle.std.proofs.Common.{◌≡◌, ◌++◌}
use Rattle.c_type_declarations.specs.Statics.{low_bytes}
use Rattle.c_type_declarations.proofs.fixed.put_low_bytes.Given as goal

abbrev pub invariant-loop-left : goal.invariant-loop-left
invariant-loop-left l = l.bytes.items ++ low_bytes l.left l.rest ≡ l.fn.bytes.items ++ low_bytes l.count l.number

abbrev pub decreases-loop-left : goal.decreases-loop-left
decreases-loop-left l = l.left
