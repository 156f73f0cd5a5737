-- The runs of the units, from configurations that they come to alike.
use Rattle.std.proofs.Common.{◌≡◌, ℕ, zero, suc, inl, inr, Option, Some, None, List, [], ◌∷◌, refl, sym, ap, ◌∙◌, subst}
use Rattle.event_runs.specs.Following.{Reached}
use Rattle.graph_core.specs.Graphs.{Logged, UnitForm}
use Rattle.graph_core.specs.Memory.{first_memory}
use Rattle.graph_core.specs.Runs.{Configuration, Event, Stepped, Goes, Shows, Ends, Wild, events_after, step, run, run_some, enter, unit_run}
use Rattle.pass_law.specs.Kept.{EachFunction, ShareTheSame}
use Rattle.pass_law.specs.Keeps.{SameEvent}
use Rattle.dead_pass_laws.specs.Follows.{Follows}
use Rattle.dead_pass_laws.proofs.Begins.{IsMade, BeginSame, enter_same}
use Rattle.dead_pass_laws.proofs.Moves.{NotesHold, step_followed}
use Rattle.dead_pass_laws.proofs.Related.{Related, DoesSame, DoesNothing}
use Rattle.dead_pass_laws.proofs.Steps.{after_of}

module _ (u v : UnitForm) (log : List Logged) (made : EachFunction (IsMade u log) u.graphs v.graphs) (hold : NotesHold u log) where
  -- what the unit after comes to
  abbrev IsReached : List Event → Configuration → Type 0
  IsReached events d = Reached SameEvent events (λ k. run (after_of u v log made) k d)

  -- Nothing is seen in no steps.
  nothing : (d : Configuration) → IsReached [] d
  nothing d = record { steps = 0; shown = []; more = []; is = refl; same = tt }

  -- Where the unit after has nothing to do, it comes to what it comes to anyway.
  behind_nothing : (n : ℕ) (d : Configuration) → ((c : Configuration) → Related u log c d → IsReached (run u n c) d) → (p : Stepped) → DoesNothing u log p d → IsReached (events_after p (run u n)) d
  behind_nothing n d later (Goes c) does = later c does
  behind_nothing n d later Wild does = nothing d
  behind_nothing n d later (Shows e c) does = absurd does
  behind_nothing n d later (Ends e) does = absurd does

  -- one step, and what comes behind it
  one_more : (d : Configuration) (q : Stepped) (k : ℕ) → step (after_of u v log made) d ≡ q → run (after_of u v log made) (suc k) d ≡ events_after q (run (after_of u v log made) k)
  one_more d q k e = ap (λ s. events_after s (run (after_of u v log made) k)) e

  -- Where it does the same, it comes to the same behind that.
  behind_same : (n : ℕ) (d : Configuration) → ((c b : Configuration) → Related u log c b → IsReached (run u n c) b) → (p q : Stepped) → step (after_of u v log made) d ≡ q → DoesSame u log p q → IsReached (events_after p (run u n)) d
  behind_same n d later Wild q e does = nothing d
  behind_same n d later (Goes a) (Goes b) e does =
      let r = later a b does in
      record { steps = suc r.steps; shown = r.shown; more = r.more; is = one_more d (Goes b) r.steps e ∙ r.is; same = r.same }
  behind_same n d later (Goes a) (Shows o b) e does = absurd does
  behind_same n d later (Goes a) (Ends o) e does = absurd does
  behind_same n d later (Goes a) Wild e does = absurd does
  behind_same n d later (Shows s a) (Goes b) e does = absurd does
  behind_same n d later (Shows s a) (Shows o b) e does =
      let r = later a b does.1 in
      record { steps = suc r.steps; shown = o ∷ r.shown; more = r.more; is = one_more d (Shows o b) r.steps e ∙ ap (λ l. o ∷ l) r.is; same = (does.0, r.same) }
  behind_same n d later (Shows s a) (Ends o) e does = absurd does
  behind_same n d later (Shows s a) Wild e does = absurd does
  behind_same n d later (Ends s) (Goes b) e does = absurd does
  behind_same n d later (Ends s) (Shows o b) e does = absurd does
  behind_same n d later (Ends s) (Ends o) e does = record { steps = 1; shown = o ∷ []; more = []; is = one_more d (Ends o) 0 e; same = (does, tt) }
  behind_same n d later (Ends s) Wild e does = absurd does

  -- From configurations that runs come to alike.
  run_reached : (n : ℕ) (c d : Configuration) → Related u log c d → IsReached (run u n c) d
  run_reached zero c d r = nothing d
  run_reached (suc n) c d r = elim (step_followed u v log made hold c d r) [
    | inl does ↦ behind_nothing n d (λ a. run_reached n a d) (step u c) does
    | inr does ↦ behind_same n d (run_reached n) (step u c) (step (after_of u v log made) d) refl does
  ]

  -- From the beginning on.
  whole_reached : (input : List ℕ) (n : ℕ) → Reached SameEvent (unit_run u input n) (unit_run (after_of u v log made) input)
  whole_reached input n =
      by_first (enter u (first_memory u.statics) input u.main [] []) (enter (after_of u v log made) (first_memory u.statics) input u.main [] [])
      (enter_same u log (first_memory u.statics) input u.main [] [] [] tt (after_of u v log made) made)
    where
      by_first : (o p : Option Configuration) → BeginSame u log o p → Reached SameEvent (run_some u n o) (λ k. run_some (after_of u v log made) k p)
      by_first None None same = record { steps = 0; shown = []; more = []; is = refl; same = tt }
      by_first None (Some d) same = absurd same
      by_first (Some c) None same = absurd same
      by_first (Some c) (Some d) same = run_reached n c d same

  -- The unit after is the one that is run.
  after_is : ShareTheSame u v → v ≡ after_of u v log made
  after_is shared =
      ap (λ m. record v { main = m }) shared.main
      ∙ ap (λ s. record v { main = u.main; statics = s }) shared.statics
      ∙ ap (λ b. record v { main = u.main; statics = u.statics; array_bytes = b }) shared.array_bytes

  -- Where each function was made so, and notes hold, the unit after follows the unit before.
  pub made_follows : ShareTheSame u v → Follows u v
  made_follows shared input n = subst (λ (w : UnitForm). Reached SameEvent (unit_run u input n) (unit_run w input)) (sym (after_is shared)) (whole_reached input n)
