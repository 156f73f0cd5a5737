use Rattle.std.proofs.Common.{◌≡◌, ◌≢◌, ℕ, None, take}
use Rattle.std.specs.Prelude.{All, Contains, ◌⊎◌}
use Rattle.currency_writers.specs.Marks.{mark_at, room_of}
use Rattle.currency_writers.proofs.marks.Marks.mark.Given as goal

abbrev pub invariant-loop-place : goal.invariant-loop-place
invariant-loop-place g l = record {
  only : (p : ℕ) → mark_at l.self p ≢ None → (mark_at l.fn.self p ≢ None) ⊎ Contains l.places p;
  kept : (p : ℕ) → mark_at l.fn.self p ≢ None → mark_at l.self p ≢ None;
  all : All (λ p. mark_at l.self p ≢ None) (take l.place-index l.places);
  room : room_of l.self ≡ room_of l.fn.self;
}
