-- What the four problems tell, together.
use Rattle.std.proofs.Common.{◌≡◌, ◌↔◌, ℕ, Bool, true, Some, List, [], sym, ◌∙◌, subst}
use Rattle.std.specs.Prelude.{slice_get}
use Rattle.graph_core.specs.Graphs.{Block}
use Rattle.graph_core.specs.Computations.{Computation}
use Rattle.motion_pass_points.specs.Ways.{within, IsUnsafe}
use Rattle.motion_pass_points.proofs.Unsafe.{unsafe_along, unsafe_before, unsafe_behind}
use Rattle.motion_pass_problems.specs.Facts.{AreFacts, ArePast, AreUnsafeEnds, AreUnsafeStarts, AreWanted}
use Rattle.motion_pass_problems.proofs.Bools.{same_by}
use Rattle.motion_pass_problems.proofs.Standing.{stands_at, stands_behind}
use Rattle.motion_pass_problems.proofs.UnsafeFlow.{AreUnsafe}

module _ (blocks : List Block) (reached : ℕ → Bool) (e : Computation) (unsafe_ends : ℕ → Bool) where
  -- from the ends of blocks to all points in them
  pub all_unsafe : AreUnsafeEnds blocks reached e unsafe_ends → AreUnsafe blocks reached e unsafe_ends
  all_unsafe is = record {
    each = λ n before rest f s.
        (let end : (unsafe_ends n ≡ true) ↔ IsUnsafe blocks e (within n [] f) = subst (λ g. (unsafe_ends n ≡ true) ↔ IsUnsafe blocks e (within n [] g)) (sym s.end) (is n s.block s.is s.comes) in
        (unsafe_before blocks e n rest f (unsafe_ends n) end.0, unsafe_behind blocks e n rest f (unsafe_ends n) end.1));
  }

  pub ends_unsafe : AreUnsafe blocks reached e unsafe_ends → AreUnsafeEnds blocks reached e unsafe_ends
  ends_unsafe is = λ n b at comes. is.each n b.instructions [] b.end (stands_behind blocks reached n b at comes)

  -- the starts of blocks, by the walks along them
  pub starts_unsafe : (unsafe_starts : ℕ → Bool) → AreUnsafe blocks reached e unsafe_ends → ((n : ℕ) (b : Block) → slice_get blocks n ≡ Some b → reached n ≡ true → unsafe_starts n ≡ unsafe_along e b.instructions (unsafe_ends n)) → AreUnsafeStarts blocks reached e unsafe_starts
  starts_unsafe unsafe_starts unsafe starts n b at comes =
      let is = unsafe.each n [] b.instructions b.end (stands_at blocks reached n b at comes) in
      (λ so. is.0 (sym (starts n b at comes) ∙ so), λ so. starts n b at comes ∙ is.1 so)

  pub walks_unsafe : (unsafe_starts : ℕ → Bool) → AreUnsafe blocks reached e unsafe_ends → AreUnsafeStarts blocks reached e unsafe_starts → (n : ℕ) (b : Block) → slice_get blocks n ≡ Some b → reached n ≡ true → unsafe_starts n ≡ unsafe_along e b.instructions (unsafe_ends n)
  walks_unsafe unsafe_starts unsafe starts n b at comes =
      let is = unsafe.each n [] b.instructions b.end (stands_at blocks reached n b at comes) in
      same_by (unsafe_starts n) (unsafe_along e b.instructions (unsafe_ends n)) (λ so. is.1 ((starts n b at comes).0 so)) (λ so. (starts n b at comes).1 (is.0 so))

pub are_facts : (blocks : List Block) (reached : ℕ → Bool) (e : Computation) (unsafe_starts unhad_ends past_starts past_ends used_starts used_ends : ℕ → Bool) → AreUnsafeStarts blocks reached e unsafe_starts → ArePast blocks reached e unsafe_starts unhad_ends past_starts past_ends
    → AreWanted blocks reached e used_starts used_ends → AreFacts blocks reached e unsafe_starts past_starts past_ends used_starts used_ends
are_facts blocks reached e unsafe_starts unhad_ends past_starts past_ends used_starts used_ends unsafe past wanted = record {
  unsafe_start = unsafe;
  past_start = past.start;
  past_edge = past.edge;
  used_start = wanted.start;
  used_end = wanted.end;
}
