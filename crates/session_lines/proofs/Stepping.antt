-- The steps of a run one after the other.
use Rattle.std.proofs.Common.{◌≡◌, suc, ◌≤◌, refl, sym, ap, ◌∙◌, subst}
use Rattle.stop_engine.specs.EngineState.{HasExecuted, RunState}
use Rattle.stop_engine.specs.Transcript.{AnyStop, Ending, Reach, ran}
use Rattle.stop_engine.specs.declared.halt.Halt.{Halt}
use Rattle.stop_engine.proofs.Executions.{executes-none, executes-then}
use Rattle.session_lines.specs.declared.summary.Counts.{Counts}
use Rattle.session_lines.specs.Summary.{IsOneStep, IsStepped, IsStop, IsSummaryOf, counted_reach, nothing, over, step}
use Rattle.session_lines.proofs.Counting.{Stands, arrivals, fewer_left, over_there, stands_there}

-- A run was stepped so far from where it stood: it shows the same image, what comes next is the rest of its steps, and each instruction on
-- the way was counted.
pub record IsUnderWay (start run : RunState) (counts : Counts) : Type 0 where
  pub image : run.form ≡ start.form
  pub so_far : (d : Counts) (e : Ending) → IsStepped start.form run.position run.events counts d e → IsStepped start.form start.position start.events nothing d e
  pub executed : HasExecuted start run

pub begun : (run : RunState) (counts : Counts) → counts ≡ nothing → IsUnderWay run run counts
begun run counts none = record {
  image = refl;
  so_far = λ d e s. subst (λ c. IsStepped run.form run.position run.events c d e) none s;
  executed = executes-none run.left run.machine;
}

abbrev reach_of : RunState → Reach
reach_of run = record { output = run.output; position = run.position; rest = run.events }

module _ (start old new : RunState) (before behind : Counts) (at : Halt) (u : IsUnderWay start old before) (one : IsOneStep old new before behind at) where
  reached_so : ran start.form AnyStop old.position old.events ≡ reach_of new
  reached_so = subst (λ f. ran f AnyStop old.position old.events ≡ reach_of new) u.image one.went.reach

  counted_so : behind ≡ counted_reach start.form (reach_of new) before
  counted_so = one.counts ∙ ap (λ f. counted_reach f (reach_of new) before) (one.went.image ∙ u.image)

  goes_on_so : (d : Counts) (e : Ending) → IsStepped start.form new.position new.events behind d e → IsStepped start.form start.position start.events nothing d e
  goes_on_so d e s = u.so_far d e (step reached_so (subst (λ c. IsStepped start.form new.position new.events c d e) counted_so s))

  -- behind a step to a stop fewer arrivals are left
  pub less : IsStop at → suc (arrivals new.events) ≤ arrivals old.events
  less stop =
      let stands : Stands new.position = stands_there new.form new.position at one.halts stop in
      subst (λ (r : Reach). suc (arrivals r.rest) ≤ arrivals old.events) reached_so
      (fewer_left start.form old.position old.events (subst (λ (r : Reach). Stands r.position) (sym reached_so) stands))

  pub stepped : HasExecuted old new → IsUnderWay start new behind
  stepped more = record {
    image = one.went.image ∙ u.image;
    so_far = goes_on_so;
    executed = executes-then start.left old.left new.left start.machine old.machine new.machine u.executed more;
  }

  pub ended : (IsStop at → ⊥) → IsSummaryOf start (record { counts = behind; ending = at })
  ended other =
      let is = over_there new.form new.position at one.halts other in
      record {
        ending = is.ending;
        stepped = goes_on_so behind is.ending (subst (λ p. IsStepped start.form p new.events behind behind is.ending) (sym is.over) over);
        ending_is = is.halt_is;
      }
