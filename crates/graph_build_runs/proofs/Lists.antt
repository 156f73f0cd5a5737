-- Statements in order, and blocks, do what they mean.
use Rattle.std.proofs.Common.{ℕ, ◌≤◌, List, [], ◌++◌, length, Option}
use Rattle.c_meaning_values.specs.Memory.{Memory as SourceMemory}
use Rattle.c_meaning_steps.specs.States.{State, Outcome, Next, Broken, Continued, Returned, Ended}
use Rattle.c_meaning.specs.Lifetimes.{lifetimes_ended}
use Rattle.c_meaning.specs.Statements.{then_do}
use Rattle.c_flow.specs.declared.edge.Ways.{Ways}
use Rattle.graph_core.specs.Runs.{Configuration, Event}
use Rattle.graph_build_runs.proofs.Leads.{depth_in}
use Rattle.graph_build_runs.proofs.Activities.{Activity}
use Rattle.graph_build_runs.proofs.Living.{AllLive, all_later, all_both}
use Rattle.graph_build_runs.proofs.Outcomes.{Runs, holding_grown, GoesOn, then_runs, closed_runs}

-- Variables that came to live before live, too.
brings_more : (k : Activity) (c : Configuration) (es : List Event) (low high : ℕ) (first brought : List ℕ) (before : SourceMemory) (w : Ways) (o : Outcome) → AllLive before (depth_in k.setting) first → Runs k c es low high brought before w o → Runs k c es low high (first ++ brought) before w o
brings_more k c es low high first brought before w (Next s) h r = record {
  place = r.place;
  local = r.local;
  world = r.world;
  comes = r.comes;
  sound = r.sound;
  fits = r.fits;
  grown = r.grown;
  brings = all_both s.memory (depth_in k.setting) first brought (all_later before s.memory r.grown.later (depth_in k.setting) first h) r.brings;
}
brings_more k c es low high first brought before w (Broken s) h r = r
brings_more k c es low high first brought before w (Continued s) h r = r
brings_more k c es low high first brought before w (Returned v s) h r = r
brings_more k c es low high first brought before w (Ended e s) h r = r

-- A statement, and those behind it.
pub first_goes : (k : Activity) (scope : List ℕ) (low mid high : ℕ) (w : Ways) (begin next : Option ℕ) (first brought : List ℕ) (go rest : State → Outcome) → low ≤ mid → mid ≤ high → GoesOn k low mid first (record w { next = next }) scope begin go
    → GoesOn k mid high brought w (scope ++ first) next rest → GoesOn k low high (first ++ brought) w scope begin (λ s. then_do (go s) rest)
first_goes k scope low mid high w begin next first brought go rest le ge does rest_does c es place l u s comes sound fits h =
    then_runs k c es low mid high first (first ++ brought) scope s.memory w next (go s) rest le ge (does c es place l u s comes sound fits h)
    (λ place2 l2 u2 s2 comes2 sound2 fits2 grown brings.
    (let held = holding_grown k scope low mid s.memory s2.memory le h grown in
    brings_more k c es mid high first brought s2.memory w (rest s2) brings
    (rest_does c es place2 l2 u2 s2 comes2 sound2 fits2 (record { statics = held.statics; under = held.under; scoped = all_both s2.memory (depth_in k.setting) scope first held.scoped brings; frames = held.frames }))))

-- A block: its objects end with it.
pub block_goes : (k : Activity) (scope : List ℕ) (low high : ℕ) (brought : List ℕ) (w : Ways) (begin : Option ℕ) (go : State → Outcome) → GoesOn k low high brought w scope begin go → GoesOn k low low [] w scope begin (λ s. lifetimes_ended (length s.memory) (go s))
block_goes k scope low high brought w begin go does c es place l u s comes sound fits h = closed_runs k c es low high brought s.memory w (go s) (does c es place l u s comes sound fits h)
