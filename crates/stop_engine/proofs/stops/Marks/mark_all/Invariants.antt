use Rattle.std.proofs.Common.{◌≡◌, ℕ, ◌++◌, drop, map}
use Rattle.debug_records.specs.declared.change.Place.{Place}
use Rattle.stop_engine.specs.Transcript.{is_among_places}
use Rattle.stop_engine.proofs.stops.Marks.mark_all.Given as goal

abbrev pub invariant-loop-place : goal.invariant-loop-place
invariant-loop-place l = record {
  bound : l.self.bound ≡ l.fn.self.bound;
  marked : (p : ℕ) → is_among_places (l.self.places ++ map (λ (q : Place). q.0) (drop l.place-index l.places)) p ≡ is_among_places (l.fn.self.places ++ map (λ (q : Place). q.0) l.places) p;
}
