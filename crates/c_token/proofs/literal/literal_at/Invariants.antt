use Rattle.std.proofs.Common.{◌≡◌, ◌-◌, ◌<◌, ◌≤◌, length, drop}
use Rattle.c_token.specs.Literals.{literal_from, literal_at, with_bytes}
use Rattle.c_token.proofs.literal.literal_at.Given as goal

abbrev pub invariant-loop-at : goal.invariant-loop-at
invariant-loop-at l = record {
  behind : l.start < l.at;
  in_range : l.at ≤ length l.text;
  same : with_bytes l.bytes.items (literal_from l.text l.quote l.start 0 l.at (drop l.at l.text)) ≡ literal_at l.text l.start;
}

abbrev pub decreases-loop-at : goal.decreases-loop-at
decreases-loop-at l = length l.initial.text - l.at
