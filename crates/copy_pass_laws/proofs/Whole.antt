-- Copy propagation keeps the run of a unit.
use Rattle.std.proofs.Common.{◌≡◌, ℕ, zero, suc, Option, Some, None, List, [], ◌∷◌, refl, ap, ◌∙◌}
use Rattle.event_runs.specs.Following.{Reached}
use Rattle.graph_core.specs.Graphs.{UnitForm}
use Rattle.graph_core.specs.Memory.{first_memory}
use Rattle.graph_core.specs.Runs.{Configuration, Stepped, Goes, Shows, Ends, Wild, events_after, step, run, run_some, enter, unit_run}
use Rattle.pass_law.specs.Kept.{EachFunction, ShareTheSame}
use Rattle.pass_law.specs.Keeps.{SameEvent}
use Rattle.pass_law.proofs.Keeping.{reached_itself}
use Rattle.copy_pass_rule.specs.Copying.{IsPropagated}
use Rattle.copy_pass_laws.specs.SameRuns.{RunTheSame}
use Rattle.copy_pass_laws.proofs.Begins.{BeginSame, enter_same}
use Rattle.copy_pass_laws.proofs.Related.{Related, DoesSame}
use Rattle.copy_pass_laws.proofs.Steps.{after_of, step_same}

module _ (u v : UnitForm) (made : EachFunction IsPropagated u.graphs v.graphs) where
  -- Behind a step that does the same the same is seen, where it is so of what it comes to.
  behind_step : (n : ℕ) → ((c d : Configuration) → Related c d → run (after_of u v made) n d ≡ run u n c) → (p q : Stepped) → DoesSame p q → events_after q (run (after_of u v made) n) ≡ events_after p (run u n)
  behind_step n later (Goes a) (Goes b) does = later a b does
  behind_step n later (Goes a) (Shows o b) does = absurd does
  behind_step n later (Goes a) (Ends o) does = absurd does
  behind_step n later (Goes a) Wild does = absurd does
  behind_step n later (Shows e a) (Goes b) does = absurd does
  behind_step n later (Shows e a) (Shows o b) does = ap (λ z. z ∷ run (after_of u v made) n b) does.1 ∙ ap (λ l. e ∷ l) (later a b does.0)
  behind_step n later (Shows e a) (Ends o) does = absurd does
  behind_step n later (Shows e a) Wild does = absurd does
  behind_step n later (Ends e) (Goes b) does = absurd does
  behind_step n later (Ends e) (Shows o b) does = absurd does
  behind_step n later (Ends e) (Ends o) does = ap (λ z. z ∷ []) does
  behind_step n later (Ends e) Wild does = absurd does
  behind_step n later Wild (Goes b) does = absurd does
  behind_step n later Wild (Shows o b) does = absurd does
  behind_step n later Wild (Ends o) does = absurd does
  behind_step n later Wild Wild does = refl

  -- From configurations that runs come to alike the same is seen in each number of steps.
  run_same : (n : ℕ) (c d : Configuration) → Related c d → run (after_of u v made) n d ≡ run u n c
  run_same zero c d r = refl
  run_same (suc n) c d r = behind_step n (run_same n) (step u c) (step (after_of u v made) d) (step_same u v made c d r)

  -- From the beginning on.
  whole_same : (input : List ℕ) (n : ℕ) → unit_run (after_of u v made) input n ≡ unit_run u input n
  whole_same input n =
      by_first (enter u (first_memory u.statics) input u.main [] []) (enter (after_of u v made) (first_memory u.statics) input u.main [] []) (enter_same (first_memory u.statics) input u.main [] [] [] tt u (after_of u v made) made)
    where
      by_first : (o p : Option Configuration) → BeginSame o p → run_some (after_of u v made) n p ≡ run_some u n o
      by_first None None same = refl
      by_first None (Some d) same = absurd same
      by_first (Some c) None same = absurd same
      by_first (Some c) (Some d) same = run_same n c d same

  -- The unit after is the one that is run.
  after_is : ShareTheSame u v → v ≡ after_of u v made
  after_is shared =
      ap (λ m. record v { main = m }) shared.main
      ∙ ap (λ s. record v { main = u.main; statics = s }) shared.statics
      ∙ ap (λ b. record v { main = u.main; statics = u.statics; array_bytes = b }) shared.array_bytes

-- COPY PROPAGATION KEEPS THE RUN. Where copies were propagated in each function of a unit, and what functions share is the same, the units run the same.
pub propagated_runs : (u v : UnitForm) → ShareTheSame u v → EachFunction IsPropagated u.graphs v.graphs → RunTheSame u v
propagated_runs u v shared made input n = ap (λ (w : UnitForm). unit_run w input n) (after_is u v made shared) ∙ whole_same u v made input n

-- So whatever is seen of the unit before is seen of the unit after.
pub propagated_follows : (u v : UnitForm) → ShareTheSame u v → EachFunction IsPropagated u.graphs v.graphs → (input : List ℕ) (n : ℕ) → Reached SameEvent (unit_run u input n) (unit_run v input)
propagated_follows u v shared made input n = reached_itself (unit_run u input n) (unit_run v input) n (propagated_runs u v shared made input n)
