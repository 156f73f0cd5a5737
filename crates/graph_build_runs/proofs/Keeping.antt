-- What a program's run keeps, by what statements come to.
use Rattle.std.proofs.Common.{◌≡◌, ℕ, zero, suc, ◌+◌, ◌≤◌, List, [], ◌++◌, length, Option, Some, None, sym, ap, subst, arith}
use Rattle.debug_records.specs.declared.source.Spot.{Spot}
use Rattle.c_tree.specs.TypedExpressions.{RvalueTree}
use Rattle.c_type_laws.specs.Expressions.{kind_of}
use Rattle.c_meaning_values.specs.declared.value.Value as source-value
use Rattle.c_meaning_values.specs.Memory.{Memory as SourceMemory, ended_from}
use Rattle.c_meaning_steps.specs.States.{State, Evaluated, Gives, Leaves, Ends, Tested, Holds, Fails, NoTest, condition_tested, choose, on_value, on_effect, Outcome, Next, Broken, Continued, Returned, Ended}
use Rattle.c_meaning.specs.Activations.{depth_of, stopped, on_begun}
use Rattle.c_meaning.specs.Activations as activations
use Rattle.c_meaning.specs.Lifetimes.{lifetimes_ended}
use Rattle.c_meaning.specs.Expressions.{evaluate}
use Rattle.c_meaning.specs.Statements.{then_do, after_body, after_switch}
use Rattle.graph_build_runs.specs.Typed.{IsOf}
use Rattle.graph_build_runs.proofs.Leads.{depth_in}
use Rattle.graph_build_runs.proofs.Kept.{Since, Sound}
use Rattle.graph_build_runs.proofs.Typing.{HasKind, Keeps, KeepsTest, keeps_tested}
use Rattle.graph_build_runs.proofs.Activities.{Activity, here_in, place_at, sound_now}
use Rattle.graph_build_runs.proofs.Living.{AllLive, all_later, all_both, frames_length, Grown, grown_since, grown_wider, grown_trans}
use Rattle.graph_build_runs.proofs.Fading.{sound_closed, since_closed, of_faded}
use Rattle.graph_build_runs.proofs.Outcomes.{Holding, holding_grown, grown_none}
use Rattle.graph_build_runs.proofs.Stops.{PlaceIs, Ready, ready}
use Rattle.graph_build_runs.proofs.AtPlaces.{Works}

-- A state behind a statement: what is kept, how the memory grew, and what came to live.
pub record Stays (k : Activity) (low high : ℕ) (brought : List ℕ) (before : SourceMemory) (s : State) : Type 0 where
  pub sound : Sound k.setting.program s.memory s
  pub grown : Grown (depth_in k.setting) low high before s.memory
  pub brings : AllLive s.memory (depth_in k.setting) brought

-- a value that is returned is of the function's type
abbrev pub IsReturned : Activity → State → Option source-value.Value → Type 0
IsReturned k s None = Unit {0}
IsReturned k s (Some v) = IsOf s.memory k.setting.tree.result v

abbrev pub KeptBy : Activity → (low high : ℕ) → (brought : List ℕ) → SourceMemory → Outcome → Type 0
KeptBy k low high brought before (Next s) = Stays k low high brought before s
KeptBy k low high brought before (Broken s) = Stays k low high [] before s
KeptBy k low high brought before (Continued s) = Stays k low high [] before s
KeptBy k low high brought before (Returned v s) = Stays k low high [] before s × IsReturned k s v
KeptBy k low high brought before (Ended e s) = Unit {0}

-- Whatever state holds before, what a program's run keeps is kept.
abbrev pub KeepsOn : Activity → (low high : ℕ) → (brought : List ℕ) → (scope : List ℕ) → (State → Outcome) → Type 0
KeepsOn k low high brought scope go = (s : State) → Sound k.setting.program s.memory s → Holding k scope low s.memory → KeptBy k low high brought s.memory (go s)

module _ (k : Activity) where
  stays_since : (low high low2 high2 : ℕ) (brought : List ℕ) (before between : SourceMemory) (s : State) → low ≤ low2 → high2 ≤ high → Grown (depth_in k.setting) low high before between → Stays k low2 high2 brought between s → Stays k low high brought before s
  stays_since low high low2 high2 brought before between s le ge g r =
      record { sound = r.sound; grown = grown_trans (depth_in k.setting) low high before between s.memory g (grown_wider (depth_in k.setting) low low2 high high2 between s.memory le ge r.grown); brings = r.brings }

  pub kept_since : (low high low2 high2 : ℕ) (brought : List ℕ) (before between : SourceMemory) (o : Outcome) → low ≤ low2 → high2 ≤ high → Grown (depth_in k.setting) low high before between → KeptBy k low2 high2 brought between o → KeptBy k low high brought before o
  kept_since low high low2 high2 brought before between (Next s) le ge g r = stays_since low high low2 high2 brought before between s le ge g r
  kept_since low high low2 high2 brought before between (Broken s) le ge g r = stays_since low high low2 high2 [] before between s le ge g r
  kept_since low high low2 high2 brought before between (Continued s) le ge g r = stays_since low high low2 high2 [] before between s le ge g r
  kept_since low high low2 high2 brought before between (Returned v s) le ge g r = (stays_since low high low2 high2 [] before between s le ge g r.0, r.1)
  kept_since low high low2 high2 brought before between (Ended e s) le ge g r = tt

  brings_more : (low high : ℕ) (first brought : List ℕ) (before : SourceMemory) (o : Outcome) → AllLive before (depth_in k.setting) first → KeptBy k low high brought before o → KeptBy k low high (first ++ brought) before o
  brings_more low high first brought before (Next s) h r =
      record { sound = r.sound; grown = r.grown; brings = all_both s.memory (depth_in k.setting) first brought (all_later before s.memory r.grown.later (depth_in k.setting) first h) r.brings }
  brings_more low high first brought before (Broken s) h r = r
  brings_more low high first brought before (Continued s) h r = r
  brings_more low high first brought before (Returned v s) h r = r
  brings_more low high first brought before (Ended e s) h r = r

  -- what is kept where nothing is done
  pub nothing_kept : (low high : ℕ) (s : State) → Sound k.setting.program s.memory s → Stays k low high [] s.memory s
  nothing_kept low high s sound = record { sound = sound; grown = grown_none k low high s.memory; brings = tt }

  then_kept : (low mid high : ℕ) (first brought scope : List ℕ) (before : SourceMemory) (o : Outcome) (rest : State → Outcome) → low ≤ mid → mid ≤ high → Holding k scope low before → KeptBy k low mid first before o → KeepsOn k mid high brought (scope ++ first) rest
      → KeptBy k low high (first ++ brought) before (then_do o rest)
  then_kept low mid high first brought scope before (Next s) rest le ge h r on =
      let held = holding_grown k scope low mid before s.memory le h r.grown in
      kept_since low high mid high (first ++ brought) before s.memory (rest s) le (omega arith) (grown_wider (depth_in k.setting) low low high mid before s.memory (omega arith) ge r.grown)
      (brings_more mid high first brought s.memory (rest s) r.brings (on s r.sound (record { statics = held.statics; under = held.under; scoped = all_both s.memory (depth_in k.setting) scope first held.scoped r.brings; frames = held.frames })))
  then_kept low mid high first brought scope before (Broken s) rest le ge h r on = stays_since low high low mid [] before before s (omega arith) ge (grown_none k low high before) r
  then_kept low mid high first brought scope before (Continued s) rest le ge h r on = stays_since low high low mid [] before before s (omega arith) ge (grown_none k low high before) r
  then_kept low mid high first brought scope before (Returned v s) rest le ge h r on = (stays_since low high low mid [] before before s (omega arith) ge (grown_none k low high before) r.0, r.1)
  then_kept low mid high first brought scope before (Ended e s) rest le ge h r on = tt

  -- a statement, and those behind it
  pub first_kept : (low mid high : ℕ) (first brought scope : List ℕ) (go rest : State → Outcome) → low ≤ mid → mid ≤ high → KeepsOn k low mid first scope go → KeepsOn k mid high brought (scope ++ first) rest → KeepsOn k low high (first ++ brought) scope (λ s. then_do (go s) rest)
  first_kept low mid high first brought scope go rest le ge does on s sound h = then_kept low mid high first brought scope s.memory (go s) rest le ge h (does s sound h) on

  -- the body of a loop
  pub body_kept : (low : ℕ) (scope : List ℕ) (body go : State → Outcome) → KeepsOn k low low [] scope body → KeepsOn k low low [] scope go → KeepsOn k low low [] scope (λ s. after_body (body s) go)
  body_kept low scope body go does on s sound h = by (body s) (does s sound h)
    where
      again : (s2 : State) → Stays k low low [] s.memory s2 → KeptBy k low low [] s.memory (go s2)
      again s2 r = let le : low ≤ low = omega arith in kept_since low low low low [] s.memory s2.memory (go s2) le le r.grown (on s2 r.sound (holding_grown k scope low low s.memory s2.memory le h r.grown))

      by : (o : Outcome) → KeptBy k low low [] s.memory o → KeptBy k low low [] s.memory (after_body o go)
      by (Next s2) r = again s2 r
      by (Broken s2) r = r
      by (Continued s2) r = again s2 r
      by (Returned v s2) r = r
      by (Ended e s2) r = tt

  pub switch_kept : (low : ℕ) (before : SourceMemory) (o : Outcome) → KeptBy k low low [] before o → KeptBy k low low [] before (after_switch o)
  switch_kept low before (Next s) r = r
  switch_kept low before (Broken s) r = r
  switch_kept low before (Continued s) r = r
  switch_kept low before (Returned v s) r = r
  switch_kept low before (Ended e s) r = tt

  stays_closed : (low high : ℕ) (brought : List ℕ) (before : SourceMemory) (s : State) → Stays k low high brought before s → Stays k low low [] before (record s { memory = ended_from (length before) s.memory })
  stays_closed low high brought before s r = record {
    sound = sound_closed k.setting.program s.memory s (length before) r.sound;
    grown = grown_since (depth_in k.setting) low low before (ended_from (length before) s.memory) (since_closed (depth_in k.setting) low high before s.memory r.grown);
    brings = tt;
  }

  returned_closed : (n : ℕ) (s : State) (v : Option source-value.Value) → IsReturned k s v → IsReturned k (record s { memory = ended_from n s.memory }) v
  returned_closed n s None h = tt
  returned_closed n s (Some v) h = of_faded k.setting.program s.memory n [] k.setting.tree.result v h

  -- a block
  pub closed_kept : (low high : ℕ) (brought scope : List ℕ) (go : State → Outcome) → KeepsOn k low high brought scope go → KeepsOn k low low [] scope (λ s. lifetimes_ended (length s.memory) (go s))
  closed_kept low high brought scope go does s sound h = by (go s) (does s sound h)
    where
      by : (o : Outcome) → KeptBy k low high brought s.memory o → KeptBy k low low [] s.memory (lifetimes_ended (length s.memory) o)
      by (Next s2) r = stays_closed low high brought s.memory s2 r
      by (Broken s2) r = stays_closed low high [] s.memory s2 r
      by (Continued s2) r = stays_closed low high [] s.memory s2 r
      by (Returned v s2) r = (stays_closed low high [] s.memory s2 r.0, returned_closed (length s.memory) s2 v r.1)
      by (Ended e s2) r = tt

  -- a place begins
  pub place_kept : (scope : List ℕ) (spot : Spot) → PlaceIs k scope spot.at → (low high : ℕ) (brought : List ℕ) (go : State → Outcome)
      → ((s : State) → Sound k.setting.program s.memory s → Holding k scope low s.memory → Ready k (place_at k spot.at) s.memory → KeptBy k low high brought s.memory (go s)) → KeepsOn k low high brought scope (λ s. activations.at (here_in k) spot s go)
  place_kept scope spot here low high brought go inside s sound h = by s.turns
    where
      by : (turns : ℕ) → KeptBy k low high brought s.memory (on_begun (elim turns [ zero ↦ activations.NoTurn s | suc left ↦ activations.Goes (stopped (here_in k) spot.at (record s { turns = left })) ]) go)
      by zero = tt
      by (suc left) =
          inside (stopped (here_in k) spot.at (record s { turns = left })) (record { typed = sound.typed; differ = sound.differ; declared = sound.declared; single = sound.single; bytes = sound.bytes; since = sound.since }) h (ready k scope low spot.at s.memory here h)

module _ (k : Activity) (at : ℕ) (e : RvalueTree) (works : Works k (place_at k at) e) (s : State) (sound : Sound k.setting.program s.memory s) (here : Ready k (place_at k at) s.memory) (low high : ℕ) (brought : List ℕ) where
  depths : length k.setting.waiting + 1 ≡ depth_of (here_in k)
  depths = ap (λ n. n + 1) (sym (frames_length k.setting.program k.setting.unit s.memory k.frames k.setting.waiting here.frames))

  behind_since : (s2 : State) (o : Outcome) → Sound k.setting.program s.memory s2 → KeptBy k low high brought s2.memory o → KeptBy k low high brought s.memory o
  behind_since s2 o sound2 r = kept_since k low high low high brought s.memory s2.memory o (omega arith) (omega arith) (grown_since (depth_in k.setting) low high s.memory s2.memory sound2.since) r

  -- a value that is used
  pub value_kept : (next : source-value.Value → State → Outcome)
      → ((v : source-value.Value) (s2 : State) → Sound k.setting.program s2.memory s2 → Since s.memory s2.memory → HasKind s2.memory (kind_of k.setting.program k.setting.tree e) v → KeptBy k low high brought s2.memory (next v s2))
      → KeptBy k low high brought s.memory (on_value (evaluate (k.calls (place_at k at)) (depth_of (here_in k)) e s) next)
  value_kept next on =
      subst (λ d. KeptBy k low high brought s.memory (on_value (evaluate (k.calls (place_at k at)) d e s) next)) depths (by (evaluate (k.calls (place_at k at)) (depth_in k.setting) e s) ((works s.memory here).0 s sound))
    where
      by : (r : Evaluated) → Keeps k.setting.program s.memory s.memory (kind_of k.setting.program k.setting.tree e) r → KeptBy k low high brought s.memory (on_value r next)
      by (Gives v s2) gave = behind_since s2 (next v s2) gave.sound (on v s2 (sound_now k.setting.program s.memory s2 gave.sound) gave.sound.since gave.is)
      by (Leaves s2) left = tt
      by (Ends ending s2) h = tt

  -- one that is not used
  pub effect_kept : (next : State → Outcome) → ((s2 : State) → Sound k.setting.program s2.memory s2 → Since s.memory s2.memory → KeptBy k low high brought s2.memory (next s2))
      → KeptBy k low high brought s.memory (on_effect (evaluate (k.calls (place_at k at)) (depth_of (here_in k)) e s) next)
  effect_kept next on =
      subst (λ d. KeptBy k low high brought s.memory (on_effect (evaluate (k.calls (place_at k at)) d e s) next)) depths (by (evaluate (k.calls (place_at k at)) (depth_in k.setting) e s) ((works s.memory here).0 s sound))
    where
      by : (r : Evaluated) → Keeps k.setting.program s.memory s.memory (kind_of k.setting.program k.setting.tree e) r → KeptBy k low high brought s.memory (on_effect r next)
      by (Gives v s2) gave = behind_since s2 (next s2) gave.sound (on s2 (sound_now k.setting.program s.memory s2 gave.sound) gave.sound.since)
      by (Leaves s2) left = behind_since s2 (next s2) left.sound (on s2 (sound_now k.setting.program s.memory s2 left.sound) left.sound.since)
      by (Ends ending s2) h = tt

  -- one that is tested
  pub test_kept : (if_so if_not : State → Outcome) → ((s2 : State) → Sound k.setting.program s2.memory s2 → Since s.memory s2.memory → KeptBy k low high brought s2.memory (if_so s2))
      → ((s2 : State) → Sound k.setting.program s2.memory s2 → Since s.memory s2.memory → KeptBy k low high brought s2.memory (if_not s2))
      → KeptBy k low high brought s.memory (choose (condition_tested (evaluate (k.calls (place_at k at)) (depth_of (here_in k)) e s)) if_so if_not)
  test_kept if_so if_not on off =
      let r = evaluate (k.calls (place_at k at)) (depth_in k.setting) e s in
      subst (λ d. KeptBy k low high brought s.memory (choose (condition_tested (evaluate (k.calls (place_at k at)) d e s)) if_so if_not)) depths
      (by (condition_tested r) (keeps_tested k.setting.program s.memory s.memory (kind_of k.setting.program k.setting.tree e) r ((works s.memory here).0 s sound)))
    where
      by : (r : Tested) → KeepsTest k.setting.program s.memory s.memory r → KeptBy k low high brought s.memory (choose r if_so if_not)
      by (Holds s2) left = behind_since s2 (if_so s2) left.sound (on s2 (sound_now k.setting.program s.memory s2 left.sound) left.sound.since)
      by (Fails s2) left = behind_since s2 (if_not s2) left.sound (off s2 (sound_now k.setting.program s.memory s2 left.sound) left.sound.since)
      by (NoTest ending s2) h = tt
