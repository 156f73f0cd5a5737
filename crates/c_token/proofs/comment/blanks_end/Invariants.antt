use Rattle.std.proofs.Common.{◌≡◌, ◌-◌, ◌≤◌, length, drop}
use Rattle.c_token.specs.Blanks.{blanks_from, blanks_end}
use Rattle.c_token.proofs.comment.blanks_end.Given as goal

abbrev pub invariant-loop-at : goal.invariant-loop-at
invariant-loop-at l = record {
  behind : l.from ≤ l.at;
  in_range : l.at ≤ length l.text;
  same : blanks_from l.text 0 l.at (drop l.at l.text) ≡ blanks_end l.text l.from;
}

abbrev pub decreases-loop-at : goal.decreases-loop-at
decreases-loop-at l = length l.initial.text - l.at
