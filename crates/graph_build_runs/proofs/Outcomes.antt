-- To what the blocks of a statement lead, by what the statement comes to.
use Rattle.std.proofs.Common.{◌≡◌, ℕ, ◌≤◌, List, [], length, Option, Some, None, slice_get, arith}
use Rattle.std.proofs.lemmas.Option.{slice_get_within}
use Rattle.c_meaning_values.specs.declared.value.Value as source-value
use Rattle.c_meaning_values.specs.Memory.{Memory as SourceMemory, ended_from}
use Rattle.c_meaning_steps.specs.declared.event.Ending.{Ending}
use Rattle.c_meaning_steps.specs.declared.event.Ending.TheVariants as ending
use Rattle.c_meaning_steps.specs.States.{State, Outcome, Next, Broken, Continued, Returned, Ended}
use Rattle.c_flow.specs.declared.edge.Ways.{Ways}
use Rattle.c_meaning.specs.Lifetimes.{lifetimes_ended}
use Rattle.c_meaning.specs.Statements.{then_do, after_body, after_switch}
use Rattle.graph_core.specs.Graphs.{Operand, Return, Block}
use Rattle.graph_core.specs.Runs.{Configuration, Event, value}
use Rattle.graph_build_statements.specs.Coding.{block_of}
use Rattle.graph_build_runs.specs.Typed.{IsOf}
use Rattle.graph_build_runs.specs.Stops.{StaticsLive}
use Rattle.graph_build_runs.specs.Correspondence.{SameValue}
use Rattle.graph_build_runs.proofs.Leads.{depth_in, Local, World, Leads, in_block}
use Rattle.graph_build_runs.proofs.Kept.{Since, Sound, Fits}
use Rattle.graph_build_runs.proofs.Results.{EndsBy}
use Rattle.graph_build_runs.proofs.Activities.{Activity, coding_in, before_in}
use Rattle.graph_build_runs.proofs.Living.{statics_later, AllLive, all_later, FramesAre, frames_later, Under, under_grown, Grown, grown_same, grown_since, grown_wider, grown_trans}
use Rattle.graph_build_runs.proofs.Fading.{sound_closed, fits_closed, since_closed, value_faded, of_faded}

-- A run comes to the block of a place, or where there is no place to go to, to the end that stands for none, in whichever block.
abbrev pub Comes : Activity → Configuration → List Event → (next : Option ℕ) → (place : ℕ) → Local → World → Type 0
Comes k c es (Some at) place l w = (b : Block) → slice_get k.setting.graph.blocks (block_of (coding_in k) at) ≡ Some b → Leads k.setting.unit c es (before_in k place b.instructions b.end (in_block (block_of (coding_in k) at) l) w) w.seen
Comes k c es None place l w = (number : ℕ) × Leads k.setting.unit c es (before_in k place [] (Return None) (in_block number l) w) w.seen

-- Where a run comes to hangs on no block that it comes from.
pub comes_from_block : (k : Activity) (c : Configuration) (es : List Event) (next : Option ℕ) (place : ℕ) (l : Local) (w : World) (number : ℕ) → Comes k c es next place (in_block number l) w → Comes k c es next place l w
comes_from_block k c es (Some at) place l w number comes = comes
comes_from_block k c es None place l w number comes = comes

-- The block of a place stands, if there is a place to go to.
abbrev pub There : Activity → Option ℕ → Type 0
There k (Some at) = (b : Block) × (slice_get k.setting.graph.blocks (block_of (coding_in k) at) ≡ Some b)
There k None = Unit {0}

-- The run goes on: the variables of a list have come to live, and the memory has grown.
pub record Arrives (k : Activity) (c : Configuration) (es : List Event) (low high : ℕ) (brought : List ℕ) (before : SourceMemory) (next : Option ℕ) (s : State) : Type 0 where
  pub place : ℕ
  pub local : Local
  pub world : World
  pub comes : Comes k c es next place local world
  pub sound : Sound k.setting.program s.memory s
  pub fits : Fits k.setting None s local world
  pub grown : Grown (depth_in k.setting) low high before s.memory
  pub brings : AllLive s.memory (depth_in k.setting) brought

-- what a `return` hands back
abbrev pub HandsBack : Activity → State → Local → World → Option source-value.Value → Option Operand → Type 0
HandsBack k s l w None a = a ≡ None
HandsBack k s l w (Some v) a = (o : Operand) × (a ≡ Some o) × SameValue k.setting.program s.memory w.memory v (value k.setting.unit.statics l.names o) × IsOf s.memory k.setting.tree.result v

-- The run has come to a `return`.
pub record Leaving (k : Activity) (c : Configuration) (es : List Event) (low high : ℕ) (before : SourceMemory) (v : Option source-value.Value) (s : State) : Type 0 where
  pub place : ℕ
  pub local : Local
  pub world : World
  pub operand : Option Operand
  pub leads : Leads k.setting.unit c es (before_in k place [] (Return operand) local world) world.seen
  pub sound : Sound k.setting.program s.memory s
  pub fits : Fits k.setting None s local world
  pub grown : Grown (depth_in k.setting) low high before s.memory
  pub hands : HandsBack k s local world v operand

-- The run has shown what the program's has, which ends.
pub record Halts (k : Activity) (c : Configuration) (es : List Event) (e : Ending) (s : State) : Type 0 where
  pub configuration : Configuration
  pub seen : List Event
  pub leads : Leads k.setting.unit c es configuration seen
  pub ends : EndsBy k.setting e s configuration seen

-- What a statement leads to, by its outcome.
abbrev pub Runs : Activity → Configuration → List Event → (low high : ℕ) → (brought : List ℕ) → SourceMemory → Ways → Outcome → Type 0
Runs k c es low high brought before w (Next s) = Arrives k c es low high brought before w.next s
Runs k c es low high brought before w (Broken s) = Arrives k c es low high [] before w.by_break s
Runs k c es low high brought before w (Continued s) = Arrives k c es low high [] before w.by_continue s
Runs k c es low high brought before w (Returned v s) = Leaving k c es low high before v s
Runs k c es low high brought before w (Ended e s) = Halts k c es e s

-- What holds before a statement: its variables are new, static ones and those in scope live, and the activations that wait correspond.
pub record Holding (k : Activity) (scope : List ℕ) (low : ℕ) (memory : SourceMemory) : Type 0 where
  pub statics : StaticsLive k.setting.program memory
  pub under : Under memory (depth_in k.setting) low
  pub scoped : AllLive memory (depth_in k.setting) scope
  pub frames : FramesAre k.setting.program k.setting.unit memory k.frames k.setting.waiting

-- Whatever leads to where a statement begins leads to where its outcome goes on.
abbrev pub GoesOn : Activity → (low high : ℕ) → (brought : List ℕ) → Ways → (scope : List ℕ) → (begin : Option ℕ) → (State → Outcome) → Type 0
GoesOn k low high brought w scope begin go = (c : Configuration) (es : List Event) (place : ℕ) (l : Local) (u : World) (s : State) → Comes k c es begin place l u → Sound k.setting.program s.memory s → Fits k.setting None s l u
    → Holding k scope low s.memory → Runs k c es low high brought s.memory w (go s)

pub holding_grown : (k : Activity) (scope : List ℕ) (low high : ℕ) (before after : SourceMemory) → low ≤ high → Holding k scope low before → Grown (depth_in k.setting) low high before after → Holding k scope high after
holding_grown k scope low high before after le h g = record {
  statics = statics_later k.setting.program before after g.later h.statics;
  under = under_grown (depth_in k.setting) low high before after le h.under g;
  scoped = all_later before after g.later (depth_in k.setting) scope h.scoped;
  frames = frames_later k.setting.program k.setting.unit before after g.later k.frames k.setting.waiting h.frames;
}

pub holding_since : (k : Activity) (scope : List ℕ) (low : ℕ) (before after : SourceMemory) → Holding k scope low before → Since before after → Holding k scope low after
holding_since k scope low before after h g = let le : low ≤ low = omega arith in holding_grown k scope low low before after le h (grown_since (depth_in k.setting) low low before after g)

-- nothing has grown yet
pub grown_none : (k : Activity) (low high : ℕ) (memory : SourceMemory) → Grown (depth_in k.setting) low high memory memory
grown_none k low high memory = grown_same (depth_in k.setting) low high memory (λ n o is. slice_get_within memory n o is)

module _ (k : Activity) (c : Configuration) (es : List Event) where
  arrives_since : (low high low2 high2 : ℕ) (brought : List ℕ) (before between : SourceMemory) (next : Option ℕ) (s : State) → low ≤ low2 → high2 ≤ high → Grown (depth_in k.setting) low high before between → Arrives k c es low2 high2 brought between next s
      → Arrives k c es low high brought before next s
  arrives_since low high low2 high2 brought before between next s le ge g r = record {
    place = r.place;
    local = r.local;
    world = r.world;
    comes = r.comes;
    sound = r.sound;
    fits = r.fits;
    grown = grown_trans (depth_in k.setting) low high before between s.memory g (grown_wider (depth_in k.setting) low low2 high high2 between s.memory le ge r.grown);
    brings = r.brings;
  }

  -- What a statement leads to from where another one came to.
  pub runs_since : (low high low2 high2 : ℕ) (brought : List ℕ) (before between : SourceMemory) (w : Ways) (o : Outcome) → low ≤ low2 → high2 ≤ high → Grown (depth_in k.setting) low high before between → Runs k c es low2 high2 brought between w o
      → Runs k c es low high brought before w o
  runs_since low high low2 high2 brought before between w (Next s) le ge g r = arrives_since low high low2 high2 brought before between w.next s le ge g r
  runs_since low high low2 high2 brought before between w (Broken s) le ge g r = arrives_since low high low2 high2 [] before between w.by_break s le ge g r
  runs_since low high low2 high2 brought before between w (Continued s) le ge g r = arrives_since low high low2 high2 [] before between w.by_continue s le ge g r
  runs_since low high low2 high2 brought before between w (Returned v s) le ge g r = record {
    place = r.place;
    local = r.local;
    world = r.world;
    operand = r.operand;
    leads = r.leads;
    sound = r.sound;
    fits = r.fits;
    grown = grown_trans (depth_in k.setting) low high before between s.memory g (grown_wider (depth_in k.setting) low low2 high high2 between s.memory le ge r.grown);
    hands = r.hands;
  }
  runs_since low high low2 high2 brought before between w (Ended e s) le ge g r = r

  -- what came to live may be left out, and other ways be taken
  pub arrives_without : (low high : ℕ) (brought : List ℕ) (before : SourceMemory) (next : Option ℕ) (s : State) → Arrives k c es low high brought before next s → Arrives k c es low high [] before next s
  arrives_without low high brought before next s r = record { place = r.place; local = r.local; world = r.world; comes = r.comes; sound = r.sound; fits = r.fits; grown = r.grown; brings = tt }

  -- The next statement follows where control goes on.
  pub then_runs : (low mid high : ℕ) (first brought : List ℕ) (scope : List ℕ) (before : SourceMemory) (w : Ways) (next : Option ℕ) (o : Outcome) (go : State → Outcome) → low ≤ mid → mid ≤ high
      → Runs k c es low mid first before (record w { next = next }) o
      → ((place : ℕ) (l : Local) (u : World) (s : State) → Comes k c es next place l u → Sound k.setting.program s.memory s → Fits k.setting None s l u → Grown (depth_in k.setting) low mid before s.memory → AllLive s.memory (depth_in k.setting) first → Runs k c es mid high brought s.memory w (go s))
      → Runs k c es low high brought before w (then_do o go)
  then_runs low mid high first brought scope before w next (Next s) go le ge r on =
      runs_since low high mid high brought before s.memory w (go s) le (omega arith) (grown_wider (depth_in k.setting) low low high mid before s.memory (omega arith) ge r.grown) (on r.place r.local r.world s r.comes r.sound r.fits r.grown r.brings)
  then_runs low mid high first brought scope before w next (Broken s) go le ge r on = arrives_since low high low mid [] before before w.by_break s (omega arith) ge (grown_none k low high before) r
  then_runs low mid high first brought scope before w next (Continued s) go le ge r on = arrives_since low high low mid [] before before w.by_continue s (omega arith) ge (grown_none k low high before) r
  then_runs low mid high first brought scope before w next (Returned v s) go le ge r on =
      runs_since low high low mid brought before before w (Returned v s) (omega arith) ge (grown_none k low high before) r
  then_runs low mid high first brought scope before w next (Ended e s) go le ge r on = r

  -- The body of a loop is followed by its next round.
  pub body_runs : (low : ℕ) (before : SourceMemory) (w : Ways) (round : Option ℕ) (o : Outcome) (go : State → Outcome) → Runs k c es low low [] before (record { next = round; by_break = w.next; by_continue = round }) o
      → ((place : ℕ) (l : Local) (u : World) (s : State) → Comes k c es round place l u → Sound k.setting.program s.memory s → Fits k.setting None s l u → Grown (depth_in k.setting) low low before s.memory → Runs k c es low low [] s.memory w (go s))
      → Runs k c es low low [] before w (after_body o go)
  body_runs low before w round (Next s) go r on = runs_since low low low low [] before s.memory w (go s) (omega arith) (omega arith) r.grown (on r.place r.local r.world s r.comes r.sound r.fits r.grown)
  body_runs low before w round (Broken s) go r on = r
  body_runs low before w round (Continued s) go r on = runs_since low low low low [] before s.memory w (go s) (omega arith) (omega arith) r.grown (on r.place r.local r.world s r.comes r.sound r.fits r.grown)
  body_runs low before w round (Returned v s) go r on = r
  body_runs low before w round (Ended e s) go r on = r

  -- `break` leaves a switch.
  pub switch_runs : (low : ℕ) (before : SourceMemory) (w : Ways) (o : Outcome) → Runs k c es low low [] before (record { next = w.next; by_break = w.next; by_continue = w.by_continue }) o → Runs k c es low low [] before w (after_switch o)
  switch_runs low before w (Next s) r = r
  switch_runs low before w (Broken s) r = r
  switch_runs low before w (Continued s) r = r
  switch_runs low before w (Returned v s) r = r
  switch_runs low before w (Ended e s) r = r

  arrives_closed : (low high : ℕ) (brought : List ℕ) (before : SourceMemory) (next : Option ℕ) (s : State) → Arrives k c es low high brought before next s → Arrives k c es low low [] before next (record s { memory = ended_from (length before) s.memory })
  arrives_closed low high brought before next s r = record {
    place = r.place;
    local = r.local;
    world = r.world;
    comes = r.comes;
    sound = sound_closed k.setting.program s.memory s (length before) r.sound;
    fits = fits_closed k.setting s r.local r.world (length before) r.fits;
    grown = grown_since (depth_in k.setting) low low before (ended_from (length before) s.memory) (since_closed (depth_in k.setting) low high before s.memory r.grown);
    brings = tt;
  }

  hands_closed : (n : ℕ) (s : State) (l : Local) (u : World) (v : Option source-value.Value) (a : Option Operand) → HandsBack k s l u v a → HandsBack k (record s { memory = ended_from n s.memory }) l u v a
  hands_closed n s l u None a h = h
  hands_closed n s l u (Some v) a h =
      (h.0, h.1, value_faded k.setting.program s.memory n u.memory v (value k.setting.unit.statics l.names h.0) h.2, of_faded k.setting.program s.memory n u.memory k.setting.tree.result v h.3)

  -- The objects of a block end with it.
  pub closed_runs : (low high : ℕ) (brought : List ℕ) (before : SourceMemory) (w : Ways) (o : Outcome) → Runs k c es low high brought before w o → Runs k c es low low [] before w (lifetimes_ended (length before) o)
  closed_runs low high brought before w (Next s) r = arrives_closed low high brought before w.next s r
  closed_runs low high brought before w (Broken s) r = arrives_closed low high [] before w.by_break s r
  closed_runs low high brought before w (Continued s) r = arrives_closed low high [] before w.by_continue s r
  closed_runs low high brought before w (Returned v s) r = record {
    place = r.place;
    local = r.local;
    world = r.world;
    operand = r.operand;
    leads = r.leads;
    sound = sound_closed k.setting.program s.memory s (length before) r.sound;
    fits = fits_closed k.setting s r.local r.world (length before) r.fits;
    grown = grown_since (depth_in k.setting) low low before (ended_from (length before) s.memory) (since_closed (depth_in k.setting) low high before s.memory r.grown);
    hands = hands_closed (length before) s r.local r.world v r.operand r.hands;
  }
  closed_runs low high brought before w (Ended e s) r = r

-- A run that has come to where something begins has shown what the program's has.
pub halts_there : (k : Activity) (c : Configuration) (es : List Event) (begin : Option ℕ) (place : ℕ) (l : Local) (u : World) (s : State) → There k begin → Comes k c es begin place l u → Fits k.setting None s l u → Halts k c es ending.Turns s
halts_there k c es (Some at) place l u s there comes fits = record { configuration = before_in k place there.0.instructions there.0.end (in_block (block_of (coding_in k) at) l) u; seen = u.seen; leads = comes there.0 there.1; ends = fits.events }
halts_there k c es None place l u s there comes fits = record { configuration = before_in k place [] (Return None) (in_block comes.0 l) u; seen = u.seen; leads = comes.1; ends = fits.events }
