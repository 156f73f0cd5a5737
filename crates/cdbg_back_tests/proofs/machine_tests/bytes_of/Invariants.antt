use Rattle.std.proofs.Common.{◌≡◌, ◌*◌, length}
use Rattle.cdbg_back_tests.proofs.machine_tests.bytes_of.Given as goal

abbrev pub invariant-loop-word : goal.invariant-loop-word
invariant-loop-word l = length l.bytes.items ≡ 4 * l.word-index
