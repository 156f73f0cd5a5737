use Rattle.std.proofs.Common.{◌≡◌, ◌-◌, ◌≤◌, length, drop}
use Rattle.c_token.specs.Blanks.{line_comment}
use Rattle.c_token.proofs.comment.line_comment.Given as goal

abbrev pub invariant-loop-at : goal.invariant-loop-at
invariant-loop-at l = record {
  behind : l.from ≤ l.at;
  in_range : l.at ≤ length l.text;
  same : line_comment l.text l.at (drop l.at l.text) ≡ line_comment l.text l.from (drop l.from l.text);
}

abbrev pub decreases-loop-at : goal.decreases-loop-at
decreases-loop-at l = length l.initial.text - l.at
