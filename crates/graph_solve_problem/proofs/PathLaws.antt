-- What a meet of sets says of their numbers: by union those on some path, by intersection those on every path.
use Rattle.std.proofs.Common.{◌≡◌, ℕ, inl, inr, ◌↔◌, Bool, true, false, true≢false, refl, sym, ap, ◌∙◌}
use Rattle.std.specs.Prelude.{◌&&◌}
use Rattle.std.specs.Cmp.{nat_cmp_total}
use Rattle.std.specs.FinSet.{contains, union, intersection, contains-union, contains-intersection}
use Rattle.graph_solve_problem.specs.Numbers.{Numbers}
use Rattle.graph_solve_problem.specs.Problem.{DataFlow}
use Rattle.graph_solve_problem.specs.Paths.{ControlFlow, Path, along, Comes, Leaves}
use Rattle.graph_solve_problem.specs.Meets.{SomeMeet, one, both, IsMeetOf}
use Rattle.base_laws.proofs.Booleans.{and_all, either, or_right_again as or_true}

and_parts : (a b : Bool) → (a && b) ≡ a → a ≡ true → b ≡ true
and_parts true b e h = e
and_parts false b e h = absurd (true≢false (sym h))

module _ (P : Numbers → Type 0) (x : Numbers) (q : ℕ) where
  from_some : {y : Numbers} → SomeMeet union P y → contains y q ≡ true → (v : Numbers) × P v × (contains v q ≡ true)
  from_some (one {x = y} p) e = (y, p, e)
  from_some (both {x = y} {y = z} a b) e = elim (either (contains y q) (contains z q) (sym (contains-union nat_cmp_total y z q) ∙ e)) [ inl l ↦ from_some a l | inr r ↦ from_some b r ]

  from_all : {y : Numbers} → SomeMeet intersection P y → ((v : Numbers) → P v → contains v q ≡ true) → contains y q ≡ true
  from_all (one {x = y} p) all = all y p
  from_all (both {x = y} {y = z} a b) all = contains-intersection nat_cmp_total y z q ∙ and_all (contains y q) (contains z q) (from_all a all) (from_all b all)

  -- a number is in the meet by union exactly where it is in one of the sets
  pub in_some : IsMeetOf union P x → (contains x q ≡ true) ↔ ((v : Numbers) × P v × (contains v q ≡ true))
  in_some m = (
    (λ e. from_some m.made e),
    (λ h. sym (ap (λ s. contains s q) (m.below h.0 h.1)) ∙ contains-union nat_cmp_total x h.0 q ∙ or_true (contains x q) (contains h.0 q) h.2),
  )

  -- a number is in the meet by intersection exactly where it is in each of the sets
  pub in_each : IsMeetOf intersection P x → (contains x q ≡ true) ↔ ((v : Numbers) → P v → contains v q ≡ true)
  in_each m = (
    (λ e v p. and_parts (contains x q) (contains v q) (sym (contains-intersection nat_cmp_total x v q) ∙ ap (λ s. contains s q) (m.below v p)) e),
    (λ all. from_all m.made all),
  )

module _ (flow : DataFlow) (control : ControlFlow) (block : ℕ) (x : Numbers) (q : ℕ) where
  -- by union a number comes to a block exactly where it comes along some path
  pub comes_on_some : IsMeetOf union (Comes flow control block) x → (contains x q ≡ true) ↔ ((path : Path control flow.forward block) × (contains (along flow control path) q ≡ true))
  comes_on_some m =
      let laws = in_some (Comes flow control block) x q m in (
        (λ e. let some = laws.0 e in (some.1.0, ap (λ s. contains s q) (sym some.1.1) ∙ some.2)),
        (λ h. laws.1 (along flow control h.0, (h.0, refl), h.1)),
      )

  -- and leaves it exactly where the block makes it of what comes along some path
  pub leaves_on_some : IsMeetOf union (Leaves flow control block) x → (contains x q ≡ true) ↔ ((path : Path control flow.forward block) × (contains (flow.transfer block (along flow control path)) q ≡ true))
  leaves_on_some m =
      let laws = in_some (Leaves flow control block) x q m in (
        (λ e. let some = laws.0 e in (some.1.0, ap (λ s. contains s q) (sym some.1.1) ∙ some.2)),
        (λ h. laws.1 (flow.transfer block (along flow control h.0), (h.0, refl), h.1)),
      )

  -- by intersection a number comes to a block exactly where it comes along every path
  pub comes_on_every : IsMeetOf intersection (Comes flow control block) x → (contains x q ≡ true) ↔ ((path : Path control flow.forward block) → contains (along flow control path) q ≡ true)
  comes_on_every m =
      let laws = in_each (Comes flow control block) x q m in (
        (λ e path. laws.0 e (along flow control path) (path, refl)),
        (λ all. laws.1 (λ v comes. ap (λ s. contains s q) comes.1 ∙ all comes.0)),
      )

  -- and leaves it exactly where the block makes it of what comes along every path
  pub leaves_on_every : IsMeetOf intersection (Leaves flow control block) x → (contains x q ≡ true) ↔ ((path : Path control flow.forward block) → contains (flow.transfer block (along flow control path)) q ≡ true)
  leaves_on_every m =
      let laws = in_each (Leaves flow control block) x q m in (
        (λ e path. laws.0 e (flow.transfer block (along flow control path)) (path, refl)),
        (λ all. laws.1 (λ v leaves. ap (λ s. contains s q) leaves.1 ∙ all leaves.0)),
      )
