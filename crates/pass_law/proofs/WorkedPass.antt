-- The unit of a small program without its assignment keeps what the unit with it does, and the change is earned.
use Rattle.std.proofs.Common.{ℕ, zero, suc, List, [], ◌∷◌, refl, take, drop}
use Rattle.debug_records.specs.declared.change.PassName.{PassName}
use Rattle.event_runs.specs.Following.{Reached}
use Rattle.graph_homes.specs.declared.home.Home.{Home}
use Rattle.graph_core.specs.Graphs.{Instruction, End}
use Rattle.graph_core.specs.Points.{ReadsNext}
use Rattle.graph_core.specs.Paths.{History, front}
use Rattle.graph_core.specs.Runs.{unit_run}
use Rattle.pass_law.specs.Keeps as keeps
use Rattle.pass_law.specs.Keeps.{SameFrame, SameEvent, stop, exited, SameProgram, Keeps}
use Rattle.pass_law.specs.Earned.{IsRemoved, IsEarned}
use Rattle.pass_law.specs.Worked.{assigning, noting, built, removal, reduced, AreWorked}
use Rattle.pass_law.proofs.Inversions.{among_none, path_behind}
use Rattle.pass_law.proofs.WorkedBuilt.{built_is_marked}
use Rattle.pass_law.proofs.WorkedLogs.{removal_logged}
use Rattle.pass_law.proofs.WorkedReduced.{IsPoint, entry, entered, assignment, notes, assigned, return, returns, point, reduced_is_marked}

module _ (pass : PassName) where
  -- With seven steps the run shows all of its events.
  reached : (input : List ℕ) (n : ℕ) → Reached SameEvent (unit_run built input n) (unit_run (reduced pass) input)
  reached input zero = record { steps = 7; shown = []; more = unit_run (reduced pass) input 7; is = refl; same = tt }
  reached input (suc zero) = record { steps = 7; shown = []; more = unit_run (reduced pass) input 7; is = refl; same = tt }
  reached input (suc (suc zero)) = record { steps = 7; shown = []; more = unit_run (reduced pass) input 7; is = refl; same = tt }
  reached input (suc (suc (suc zero))) = record { steps = 7; shown = take 1 (unit_run (reduced pass) input 7); more = drop 1 (unit_run (reduced pass) input 7); is = refl; same = (stop (record { function = refl; place = refl; shadows = (keeps.stays, tt) }, tt), tt) }
  reached input (suc (suc (suc (suc zero)))) = record { steps = 7; shown = take 1 (unit_run (reduced pass) input 7); more = drop 1 (unit_run (reduced pass) input 7); is = refl; same = (stop (record { function = refl; place = refl; shadows = (keeps.stays, tt) }, tt), tt) }
  reached input (suc (suc (suc (suc (suc zero))))) = record { steps = 7; shown = take 1 (unit_run (reduced pass) input 7); more = drop 1 (unit_run (reduced pass) input 7); is = refl; same = (stop (record { function = refl; place = refl; shadows = (keeps.stays, tt) }, tt), tt) }
  reached input (suc (suc (suc (suc (suc (suc zero)))))) = record { steps = 7; shown = take 1 (unit_run (reduced pass) input 7); more = drop 1 (unit_run (reduced pass) input 7); is = refl; same = (stop (record { function = refl; place = refl; shadows = (keeps.stays, tt) }, tt), tt) }
  reached input (suc (suc (suc (suc (suc (suc (suc zero))))))) = record {
    steps = 7;
    shown = take 2 (unit_run (reduced pass) input 7);
    more = drop 2 (unit_run (reduced pass) input 7);
    is = refl;
    same = (
      stop (record { function = refl; place = refl; shadows = (keeps.stays, tt) }, tt),
      (stop (record { function = refl; place = refl; shadows = (keeps.stays, tt) }, tt), tt),
    );
  }
  reached input (suc (suc (suc (suc (suc (suc (suc (suc n)))))))) = record {
    steps = 7;
    shown = unit_run (reduced pass) input 7;
    more = [];
    is = refl;
    same = (
      stop (record { function = refl; place = refl; shadows = (keeps.stays, tt) }, tt),
      (stop (record { function = refl; place = refl; shadows = (keeps.stays, tt) }, tt), (exited, tt)),
    );
  }

  one_program : SameProgram built (reduced pass)
  one_program = record {
    main = refl;
    statics = refl;
    array_bytes = refl;
    steps = refl;
    assignments = refl;
    room = refl;
    added = removal pass ∷ [];
    log = refl;
    functions = (record { entry = refl; parameters = refl; scalars = refl; objects = refl; markers = λ p. (λ m. m, λ m. m) }, tt);
  }

  reduced_keeps : Keeps built (reduced pass)
  reduced_keeps = record { marked = built_is_marked; still_marked = reduced_is_marked pass; program = one_program; follows = reached }

-- At no point that a path comes to x is read next.
reads_nothing : {h : History} {n : ℕ} {left : List Instruction} {f : End} → IsPoint h n left f → ReadsNext 0 left f → ⊥
reads_nothing entry reads = among_none reads
reads_nothing (entered u) reads = among_none reads
reads_nothing (assignment u) reads = among_none reads
reads_nothing (notes u v) reads = among_none reads
reads_nothing (assigned u v w) reads = among_none reads
reads_nothing (return u v w) reads = among_none reads
reads_nothing (returns u v w x) reads = among_none reads

is_removed : IsRemoved assigning noting 2 0
is_removed = record {
  once = refl;
  none = refl;
  unread = λ hist v n rest e at place. λ h m left f way reads. absurd (reads_nothing (point (path_behind at way).1) reads);
}

is_earned : (pass : PassName) (homes : (function : ℕ) → ℕ → Home) → IsEarned (removal pass) (removal pass ∷ []) homes built (reduced pass)
is_earned pass homes = record {
  logged = front;
  function = 0;
  before = assigning;
  after = noting;
  stood = refl;
  stands = refl;
  x = 0;
  scalar = refl;
  borne_out = is_removed;
}

pub are_worked : (pass : PassName) → AreWorked pass
are_worked pass = record { marked = built_is_marked; still_marked = reduced_is_marked pass; keeps = reduced_keeps pass; logs = removal_logged pass; earned = is_earned pass }
