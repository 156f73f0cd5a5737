use Rattle.std.proofs.Common.{◌≡◌, ◌≢◌, ℕ, None, take}
use Rattle.std.specs.Prelude.{All, ◌⊎◌}
use Rattle.debug_records.specs.declared.change.Change.{Change}
use Rattle.currency_writers.specs.Marks.{mark_at, room_of}
use Rattle.currency_hiding.specs.QuietStarts.{IsTakenFrom}
use Rattle.currency_hiding.proofs.Barring.{IsTakenMarked}
use Rattle.currency_hiding.proofs.quiet.mark_taken.Given as goal

abbrev pub invariant-loop-change : goal.invariant-loop-change
invariant-loop-change l = record {
  only : (p : ℕ) → mark_at l.marks p ≢ None → (mark_at l.fn.marks p ≢ None) ⊎ IsTakenFrom l.taken p;
  kept : (p : ℕ) → mark_at l.fn.marks p ≢ None → mark_at l.marks p ≢ None;
  marked : All (λ (d : Change). IsTakenMarked (room_of l.fn.marks) l.marks d) (take l.change-index l.taken);
  room : room_of l.marks ≡ room_of l.fn.marks;
}
