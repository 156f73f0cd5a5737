use Rattle.std.proofs.Common.{◌≡◌, ◌≢◌, ℕ, None, take}
use Rattle.std.specs.Prelude.{All, ◌⊎◌}
use Rattle.currency_writers.specs.Marks.{mark_at, room_of}
use Rattle.currency_writers.specs.declared.writers.Write as declared-write
use Rattle.currency_hiding.specs.QuietStarts.{IsWrittenForOther}
use Rattle.currency_hiding.proofs.Asked.{IsPlaceMarked}
use Rattle.currency_hiding.proofs.Barring.{IsOther}
use Rattle.currency_hiding.proofs.quiet.mark_others.Given as goal

abbrev pub invariant-loop-write : goal.invariant-loop-write
invariant-loop-write l = record {
  only : (p : ℕ) → mark_at l.marks p ≢ None → (mark_at l.fn.marks p ≢ None) ⊎ IsWrittenForOther l.writers l.scalar p;
  kept : (p : ℕ) → mark_at l.fn.marks p ≢ None → mark_at l.marks p ≢ None;
  marked : All (λ (w : declared-write.Write). IsPlaceMarked l.writers (λ y. IsOther l.writers l.scalar y) (room_of l.fn.marks) l.marks w) (take l.write-index l.write-items);
  room : room_of l.marks ≡ room_of l.fn.marks;
}
