-- A unit behind copy propagation does what the program does.
use Rattle.std.proofs.Common.{◌≡◌, ℕ, zero, suc, ◌+◌, Some, List, [], ◌∷◌, length, refl, sym, ap, subst, ◌∙◌}
use Rattle.std.specs.Prelude.{slice_get}
use Rattle.std.proofs.lemmas.Option.{none-some, same_Some}
use Rattle.c_tree.specs.Programs.{ProgramTree}
use Rattle.c_meaning_values.specs.Memory as source-memory
use Rattle.c_meaning_steps.specs.declared.event.Frame as source-frame
use Rattle.c_meaning_steps.specs.States as source-event
use Rattle.c_meaning.specs.Runs.{source_run}
use Rattle.event_runs.specs.Agreement.{Pairs}
use Rattle.graph_core.specs.Graphs.{Scalar, Graph, UnitForm}
use Rattle.graph_core.specs.Memory as unit-memory
use Rattle.graph_core.specs.Runs as unit-event
use Rattle.graph_core.specs.Runs.{unit_run}
use Rattle.pass_law.specs.Kept.{EachFunction, ShareTheSame}
use Rattle.graph_build_runs.specs.Correspondence.{DoesProgram, SameEvent, SameFrame, SameFrames, Seen, put, exited, deep, stop}
use Rattle.copy_pass_rule.specs.Copying.{IsPropagated}
use Rattle.copy_pass_laws.proofs.Whole.{propagated_runs}

-- A function after has the scalars of the function of its number before.
pub record HadScalars (gs : List Graph) (n : ℕ) (h : Graph) : Type 0 where
  pub before : Graph
  pub is : slice_get gs n ≡ Some before
  pub scalars : h.scalars ≡ before.scalars

had_scalars : (gs hs : List Graph) → EachFunction IsPropagated gs hs → (n : ℕ) (h : Graph) → slice_get hs n ≡ Some h → HadScalars gs n h
had_scalars [] [] made n h is = absurd (none-some h is)
had_scalars [] (k ∷ hs) made n h is = absurd made
had_scalars (g ∷ gs) [] made n h is = absurd made
had_scalars (g ∷ gs) (k ∷ hs) made zero h is = record { before = g; is = refl; scalars = ap (λ (x : Graph). x.scalars) (sym (same_Some k h is)) ∙ ap (λ (x : Graph). x.scalars) made.0.rest }
had_scalars (g ∷ gs) (k ∷ hs) made (suc n) h is = (let found = had_scalars gs hs made.1 n h is in record { before = found.before; is = found.is; scalars = found.scalars })

module _ (p : ProgramTree) (u v : UnitForm) (made : EachFunction IsPropagated u.graphs v.graphs) where
  module _ (memory : source-memory.Memory) (others : unit-memory.Memory) where
    -- What is seen of a variable is seen of it by the scalars of the function after.
    seen_on : (g h : Graph) → h.scalars ≡ g.scalars → (depth : ℕ) (frame : unit-event.Frame) (x : ℕ) → Seen p memory others g depth frame x → Seen p memory others h depth frame x
    seen_on g h same depth frame x seen = record {
      number = seen.number;
      object = seen.object;
      is = seen.is;
      owner = seen.owner;
      lives = seen.lives;
      shadow = λ k s is of. seen.shadow k s (subst (λ (all : List Scalar). slice_get all k ≡ Some s) same is) of;
    }

    frame_on : (depth : ℕ) (a : source-frame.Frame) (b : unit-event.Frame) → SameFrame p memory others u depth a b → SameFrame p memory others v depth a b
    frame_on depth a b same = record {
      function = same.function;
      place = same.place;
      seen = λ h q x is at k shown. (let had = had_scalars u.graphs v.graphs made a.function h is in seen_on had.before h had.scalars depth b x (same.seen had.before q x had.is at k shown));
    }

    frames_on : (all : List source-frame.Frame) (shown : List unit-event.Frame) → SameFrames p memory others u all shown → SameFrames p memory others v all shown
    frames_on [] [] same = tt
    frames_on [] (b ∷ bs) same = absurd same
    frames_on (a ∷ more) [] same = absurd same
    frames_on (a ∷ more) (b ∷ bs) same = (frame_on (length more + 1) a b same.0, frames_on more bs same.1)

  -- An event of the program and one of the unit before are one of the unit after.
  event_on : (a : source-event.Event) (b : unit-event.Event) → SameEvent p u a b → SameEvent p v a b
  event_on a b put = put
  event_on a b (exited status) = exited status
  event_on a b deep = deep
  event_on a b (stop {memory = memory} {others = others} is at many frames typed differ holds) = stop is at many (frames_on memory others _ _ frames) typed differ holds

  events_on : (all : List source-event.Event) (shown : List unit-event.Event) → Pairs (SameEvent p u) all shown → Pairs (SameEvent p v) all shown
  events_on [] [] same = tt
  events_on [] (b ∷ bs) same = absurd same
  events_on (a ∷ more) [] same = absurd same
  events_on (a ∷ more) (b ∷ bs) same = (event_on a b same.0, events_on more bs same.1)

-- THE UNIT AFTER DOES WHAT THE PROGRAM DOES, as the unit before does.
pub program_done : (p : ProgramTree) (u v : UnitForm) → ShareTheSame u v → EachFunction IsPropagated u.graphs v.graphs → DoesProgram p u → DoesProgram p v
program_done p u v shared made does input bytes turns =
    let reached = does input bytes turns in
    record {
      steps = reached.steps;
      shown = reached.shown;
      more = reached.more;
      is = propagated_runs u v shared made input reached.steps ∙ reached.is;
      same = events_on p u v made (source_run p input turns).events reached.shown reached.same;
    }
