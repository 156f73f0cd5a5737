-- LAZY CODE MOTION KEEPS THE RUN OF A UNIT.
use Rattle.std.proofs.Common.{◌≡◌, ℕ, zero, suc, ◌+◌, Option, Some, None, List, [], ◌∷◌, refl, sym, ap, ◌∙◌, subst}
use Rattle.event_runs.specs.Following.{Reached}
use Rattle.graph_core.specs.declared.value.Value.{Value}
use Rattle.graph_core.specs.Graphs.{Instruction, End, Block, UnitForm}
use Rattle.graph_core.specs.Memory.{first_memory, is_live}
use Rattle.graph_core.specs.Validity.{IsValid}
use Rattle.graph_core.specs.Runs.{Activation, Configuration, Stepped, Goes, Shows, Ends, Wild, events_after, step_from, step, run, run_some, enter, unit_run}
use Rattle.pass_law.specs.Kept.{ShareTheSame}
use Rattle.pass_law.specs.Keeps.{SameEvent}
use Rattle.pass_law.proofs.Keeping.{reached_itself}
use Rattle.motion_pass_placement.specs.Moves.{AreAllMoved}
use Rattle.motion_pass_laws.specs.MovedRuns.{ShowsTheSame}
use Rattle.motion_pass_laws.proofs.Quiet.{after_of, moved_configuration, IsQuiet}
use Rattle.motion_pass_laws.proofs.Fits.{Fits}
use Rattle.motion_pass_laws.proofs.Passing.{before_instruction}
use Rattle.motion_pass_laws.proofs.Landing.{before_end}
use Rattle.motion_pass_laws.proofs.Related.{AreWaiting, Related, DoesSame}
use Rattle.motion_pass_laws.proofs.Begins.{BeginSame, enter_same}
use Rattle.motion_pass_laws.proofs.Steps.{acts_same, ends_same}

module _ (u v : UnitForm) (valid : IsValid u) (made : AreAllMoved u.room u.graphs v.graphs) where
  -- The run after comes, with nothing seen, to where its next step does what a step before does.
  record Answers (p : Stepped) (d : Configuration) : Type 0 where
    pub to : Configuration
    pub quiet : IsQuiet (after_of u v) d to
    pub does : DoesSame u v p (step (after_of u v) to)

  -- So it is at points that fit, by what is left there.
  answers : (c : Configuration) (count : ℕ) (blocks : List Block) (others : ℕ → Value) (rest : List Instruction) (end : End) (waiting : List Activation) → AreWaiting u c.here.first_object (is_live c.memory) c.waiting waiting
      → (before : List Instruction) → Fits u c.here.graph count blocks (is_live c.memory) c.here.names others before rest c.here.end end → Answers (step_from u before c) (moved_configuration c count blocks others rest end waiting)
  answers c count blocks others rest end waiting waits [] fits = (let b = before_end u v c count blocks others rest c.here.end end fits in record {
    to = moved_configuration c count blocks b.names [] end waiting;
    quiet = b.quiet waiting;
    does = ends_same u v valid made c count blocks b.names [] end waiting waits b.agree c.here.end end b.valid b.leads;
  })
  answers c count blocks others rest end waiting waits (i ∷ before) fits = (let b = before_instruction u v c count blocks others i before rest c.here.end end fits in record {
    to = moved_configuration c count blocks b.names (b.instruction ∷ b.more) end waiting;
    quiet = b.quiet waiting;
    does = acts_same u v valid made (record c { here = record c.here { rest = before } }) count blocks b.names b.more end waiting waits b.agree i b.instruction b.valid b.acts b.on;
  })

  -- At related configurations.
  related_answers : (c d : Configuration) → Related u c d → Answers (step u c) d
  related_answers c d r = subst (λ z. Answers (step u c) z) (sym r.is) (answers c r.count r.blocks r.others r.rest r.end r.waiting r.waits c.here.rest r.here)

  -- In some number of steps the run after shows what one before shows in so many.
  abbrev Shown : (steps : ℕ) → Configuration → Configuration → Type 0
  Shown n c d = (k : ℕ) × (run (after_of u v) k d ≡ run u n c)

  -- Behind a step that does the same, where it is so of what it comes to.
  behind_step : (n : ℕ) → ((c d : Configuration) → Related u c d → Shown n c d) → (to : Configuration) (p q : Stepped) → step (after_of u v) to ≡ q → DoesSame u v p q → (k : ℕ) × (run (after_of u v) k to ≡ events_after p (run u n))
  behind_step n later to Wild q is does = (0, refl)
  behind_step n later to (Goes a) (Goes b) is does =
      let more = later a does.to does.related in
      (suc (does.quiet.steps + more.0), ap (λ s. events_after s (run (after_of u v) (does.quiet.steps + more.0))) is ∙ does.quiet.is more.0 ∙ more.1)
  behind_step n later to (Shows e a) (Shows o b) is does =
      let more = later a does.0.to does.0.related in (
        suc (does.0.quiet.steps + more.0),
        ap (λ s. events_after s (run (after_of u v) (does.0.quiet.steps + more.0))) is ∙ ap (λ z. z ∷ run (after_of u v) (does.0.quiet.steps + more.0) b) does.1 ∙ ap (λ l. e ∷ l) (does.0.quiet.is more.0 ∙ more.1),
      )
  behind_step n later to (Ends e) (Ends o) is does = (1, ap (λ s. events_after s (run (after_of u v) 0)) is ∙ ap (λ z. z ∷ []) does)
  behind_step n later to (Goes a) (Shows o b) is does = absurd does
  behind_step n later to (Goes a) (Ends o) is does = absurd does
  behind_step n later to (Goes a) Wild is does = absurd does
  behind_step n later to (Shows e a) (Goes b) is does = absurd does
  behind_step n later to (Shows e a) (Ends o) is does = absurd does
  behind_step n later to (Shows e a) Wild is does = absurd does
  behind_step n later to (Ends e) (Goes b) is does = absurd does
  behind_step n later to (Ends e) (Shows o b) is does = absurd does
  behind_step n later to (Ends e) Wild is does = absurd does

  -- From configurations that runs come to alike.
  related_shown : (n : ℕ) (c d : Configuration) → Related u c d → Shown n c d
  related_shown zero c d r = (0, refl)
  related_shown (suc n) c d r =
      let a = related_answers c d r in
      let more = behind_step n (related_shown n) a.to (step u c) (step (after_of u v) a.to) refl a.does in
      (a.quiet.steps + more.0, a.quiet.is more.0 ∙ more.1)

  -- From the beginning on.
  whole_shown : (input : List ℕ) (n : ℕ) → (k : ℕ) × (unit_run (after_of u v) input k ≡ unit_run u input n)
  whole_shown input n =
      by_first (enter u (first_memory u.statics) input u.main [] []) (enter (after_of u v) (first_memory u.statics) input u.main [] [])
      (enter_same u (after_of u v) (first_memory u.statics) input u.main [] [] [] valid made refl (λ g. tt))
    where
      by_first : (o p : Option Configuration) → BeginSame u (after_of u v) o p → (k : ℕ) × (run_some (after_of u v) k p ≡ run_some u n o)
      by_first None None same = (0, refl)
      by_first None (Some d) same = (0, refl)
      by_first (Some c) None same = absurd same
      by_first (Some c) (Some d) same = related_shown n c d same

  -- The unit after is the one that is run.
  after_is : ShareTheSame u v → v ≡ after_of u v
  after_is shared =
      ap (λ m. record v { main = m }) shared.main
      ∙ ap (λ s. record v { main = u.main; statics = s }) shared.statics
      ∙ ap (λ b. record v { main = u.main; statics = u.statics; array_bytes = b }) shared.array_bytes

-- LAZY CODE MOTION KEEPS WHAT CAN BE SEEN. Where the code of each function of a valid unit was moved, and what functions share is the same, the unit after shows what the unit before shows.
pub moved_shows : (u v : UnitForm) → IsValid u → ShareTheSame u v → AreAllMoved u.room u.graphs v.graphs → ShowsTheSame u v
moved_shows u v valid shared made input n = (let whole = whole_shown u v valid made input n in (whole.0, ap (λ (w : UnitForm). unit_run w input whole.0) (after_is u v valid made shared) ∙ whole.1))

-- So whatever is seen of the unit before is seen of the unit after.
pub moved_follows : (u v : UnitForm) → IsValid u → ShareTheSame u v → AreAllMoved u.room u.graphs v.graphs → (input : List ℕ) (n : ℕ) → Reached SameEvent (unit_run u input n) (unit_run v input)
moved_follows u v valid shared made input n = (let whole = moved_shows u v valid shared made input n in reached_itself (unit_run u input n) (unit_run v input) whole.0 whole.1)
