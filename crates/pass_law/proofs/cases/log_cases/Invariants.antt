use Rattle.std.proofs.Common.{◌≡◌, ◌<◌, ◌+◌, ◌++◌, ◌^◌, drop, length}
use Rattle.debug_records.specs.Change.{changes}
use Rattle.pass_law.specs.Cases.{logged}
use Rattle.pass_law.proofs.cases.log_cases.Given as goal

abbrev pub invariant-loop-case : goal.invariant-loop-case
invariant-loop-case l = record {
  some : length (changes l.log) ≡ length (changes l.fn.log) + l.case-index;
  few : length l.case-items < 2 ^ 31;
  left : changes l.log ++ logged l.pass l.kind (length (changes l.log)) (drop l.case-index l.case-items) ≡ changes l.fn.log ++ logged l.pass l.kind (length (changes l.fn.log)) l.case-items;
}
