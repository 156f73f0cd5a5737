-- The code of an expression at a place, and where the ends of blocks lead.
use Rattle.std.proofs.Common.{◌≡◌, ℕ, ◌+◌, ◌≤◌, List, [], length, Option, Some, None, slice_get, sym, ap, subst, arith}
use Rattle.c_tree.specs.TypedExpressions.{RvalueTree}
use Rattle.c_type_laws.specs.Expressions.{kind_of}
use Rattle.c_meaning_values.specs.declared.value.Value as source-value
use Rattle.c_meaning_values.specs.Memory.{Memory as SourceMemory}
use Rattle.c_meaning_steps.specs.declared.event.Ending.{Ending}
use Rattle.c_meaning_steps.specs.declared.event.Ending.TheVariants as ending
use Rattle.c_meaning_steps.specs.States.{State, Evaluated, Gives, Leaves, Ends, Tested, Holds, Fails, NoTest, condition_tested, choose, on_value, on_effect, Outcome}
use Rattle.c_meaning.specs.Activations.{depth_of}
use Rattle.c_meaning.specs.Expressions.{evaluate}
use Rattle.c_flow.specs.declared.edge.Ways.{Ways}
use Rattle.graph_core.specs.Graphs.{Jump, Return, Block}
use Rattle.graph_core.specs.Runs.{Configuration, Event, entered, value}
use Rattle.graph_build_steps.specs.Drafts.{Made, Goal, To, Unused, Either, ending as ends_with}
use Rattle.graph_build_code.specs.Code.{code}
use Rattle.graph_build_statements.specs.Coding.{block_of, begun, going, label_for, with_end, branching}
use Rattle.graph_build_runs.specs.Correspondence.{SameValue}
use Rattle.graph_build_runs.proofs.Leads.{Setting, names_in, size_in, depth_in, Local, World, at, Leads, goes, stays, then_leads, in_block}
use Rattle.graph_build_runs.proofs.Kept.{Since, Sound, Fits}
use Rattle.graph_build_runs.proofs.Results.{EndsBy, Reached, to_made, Stuck, operand_in, ToR, UnusedR, EitherR}
use Rattle.graph_build_runs.proofs.Typing.{HasKind, Keeps, Typed, KeepsTest, keeps_tested}
use Rattle.graph_build_runs.proofs.Standing.{Stands, closed_inner, closed_block}
use Rattle.graph_build_runs.proofs.Operands.{Does, Aims, value_in, written_by}
use Rattle.graph_build_runs.proofs.Arithmetic.{pick_between}
use Rattle.graph_build_runs.proofs.Growing.{grows}
use Rattle.graph_build_runs.proofs.Activities.{Activity, coding_in, here_in, place_at, placed, before_in, fits_placed, fits_anywhere, sound_now}
use Rattle.graph_build_runs.proofs.Living.{frames_length, grown_since}
use Rattle.graph_build_runs.proofs.Outcomes.{Comes, Halts, Runs, runs_since}
use Rattle.graph_build_runs.proofs.Stops.{PlaceIs, Ready, block_at}

-- The code of an expression at a place does what the expression means, and gives values of its type.
abbrev pub Works : Activity → (place : ℕ) → RvalueTree → Type 0
Works k place e = (began : SourceMemory) → Ready k place began → Typed (placed k place began) (k.calls place) e × Does (placed k place began) (k.calls place) e

-- The block of a place stands: its marker, and what is made behind it when so many names are used and these inner blocks stand.
pub record Begins (k : Activity) (scope : List ℕ) (at : ℕ) (m : (free : ℕ) → List Block → Made) : Type 0 where
  pub free : ℕ
  pub size : size_in k.setting ≤ free
  pub inner : List Block
  pub stands : Stands k.setting.graph k.setting.top (m free inner).inner
  pub block : slice_get k.setting.graph.blocks (block_of (coding_in k) at) ≡ Some (block_at k at (m free inner))
  pub here : PlaceIs k scope at

-- temporaries are no scalars
pub begun_above : (k : Activity) (t : ℕ) → size_in k.setting ≤ t → size_in k.setting ≤ begun (coding_in k) t
begun_above k t le = pick_between (names_in k.setting) (size_in k.setting) t (size_in k.setting) (omega arith) le

-- a jump to a place, or the end that stands for none
pub going_comes : (k : Activity) (c : Configuration) (es : List Event) (next : Option ℕ) (inner : List Block) (place : ℕ) (l : Local) (u : World)
    → Leads k.setting.unit c es (before_in k place (going (coding_in k) next inner).ops (going (coding_in k) next inner).end l u) u.seen → Comes k c es next place l u
going_comes k c es (Some to) inner place l u leads = λ b is. then_leads leads (goes (ap (entered (before_in k place [] (Jump (block_of (coding_in k) to)) l u) (block_of (coding_in k) to)) is) stays)
going_comes k c es None inner place l u leads = (l.block, leads)

-- the inner blocks stand without the end that stands for none
pub end_front : (k : Activity) (at : ℕ) (next : Option ℕ) (inner : List Block) → Stands k.setting.graph k.setting.top (with_end (coding_in k) at next inner) → Stands k.setting.graph k.setting.top inner
end_front k at (Some to) inner h = h
end_front k at None inner h = closed_inner k.setting.graph k.setting.top (place_at k at) (ends_with (Return None) inner) h

-- a label to branch to
pub label_comes : (k : Activity) (c : Configuration) (es : List Event) (at : ℕ) (next : Option ℕ) (inner : List Block) (place : ℕ) (l : Local) (u : World) → Stands k.setting.graph k.setting.top (with_end (coding_in k) at next inner)
    → ((b : Block) → slice_get k.setting.graph.blocks (label_for (coding_in k) next inner) ≡ Some b → Leads k.setting.unit c es (before_in k place b.instructions b.end (in_block (label_for (coding_in k) next inner) l) u) u.seen) → Comes k c es next place l u
label_comes k c es at (Some to) inner place l u st leads = leads
label_comes k c es at None inner place l u st leads =
    (label_for (coding_in k) None inner, leads (record { place = Some (place_at k at); instructions = []; end = Return None }) (closed_block k.setting.graph k.setting.top (place_at k at) (ends_with (Return None) inner) st))

-- how a run ends hangs on no place
ends_anywhere : (k : Activity) (place : ℕ) (began : SourceMemory) (e : Ending) (s : State) (c : Configuration) (seen : List Event) → EndsBy (placed k place began) e s c seen → EndsBy k.setting e s c seen
ends_anywhere k place began ending.Undefined s c seen h = h
ends_anywhere k place began (ending.Exit z) s c seen h = h
ends_anywhere k place began ending.Depth s c seen h = h
ends_anywhere k place began ending.Turns s c seen h = h

module _ (k : Activity) (at : ℕ) (e : RvalueTree) (works : Works k (place_at k at) e) (c : Configuration) (es : List Event) (l : Local) (u : World) (s : State) (sound : Sound k.setting.program s.memory s) (fits : Fits k.setting None s l u)
    (ready : Ready k (place_at k at) s.memory) (t : ℕ) (size : size_in k.setting ≤ t) (low high : ℕ) (brought : List ℕ) (w : Ways) where
  -- the setting of the place
  abbrev X : Setting
  X = placed k (place_at k at) s.memory

  abbrev made_for : Goal → Made
  made_for g = code (names_in k.setting) (place_at k at) k.setting.top e t g

  abbrev Before : Goal → Type 0
  Before g = Leads k.setting.unit c es (before_in k (place_at k at) (made_for g).ops (made_for g).end l u) u.seen

  abbrev Inner : Goal → Type 0
  Inner g = Stands k.setting.graph k.setting.top (made_for g).inner

  halted : (g : Goal) (ending : Ending) (s2 : State) → Before g → Stuck X (made_for g).ops (made_for g).end l u ending s2 → Halts k c es ending s2
  halted g ending s2 leads h =
      record { configuration = h.configuration; seen = h.seen; leads = then_leads leads h.leads; ends = ends_anywhere k (place_at k at) s.memory ending s2 h.configuration h.seen h.ends }

  depths : length k.setting.waiting + 1 ≡ depth_of (here_in k)
  depths = ap (λ n. n + 1) (sym (frames_length k.setting.program k.setting.unit s.memory k.frames k.setting.waiting ready.frames))

  -- The value of an expression is used.
  pub value_runs : (want : Option ℕ) (m : Made) (next : source-value.Value → State → Outcome) → Inner (To want m) → Aims X (To want m) e t → Before (To want m)
      → ((v : source-value.Value) (s2 : State) (l2 : Local) (u2 : World) → Leads k.setting.unit c es (before_in k (place_at k at) m.ops m.end l2 u2) u2.seen → Sound k.setting.program s2.memory s2 → Fits k.setting want s2 l2 u2 → Since s.memory s2.memory
      → SameValue k.setting.program s2.memory u2.memory v (value k.setting.unit.statics l2.names (operand_in want (value_in k.setting e t))) → HasKind s2.memory (kind_of k.setting.program k.setting.tree e) v → Runs k c es low high brought s2.memory w (next v s2))
      → Runs k c es low high brought s.memory w (on_value (evaluate (k.calls (place_at k at)) (depth_of (here_in k)) e s) next)
  value_runs want m next inner aims before go_on =
      let does = works s.memory ready in
      subst (λ d. Runs k c es low high brought s.memory w (on_value (evaluate (k.calls (place_at k at)) d e s) next)) depths
      (by (evaluate (k.calls (place_at k at)) (depth_in k.setting) e s) (does.0 s sound) (does.1 t (To want m) s l u size inner sound (fits_placed k (place_at k at) s.memory None s l u fits) aims))
    where
      by : (r : Evaluated) → Keeps k.setting.program s.memory s.memory (kind_of k.setting.program k.setting.tree e) r → ToR X want m (value_in X e t) t (written_by X e) (made_for (To want m)).ops (made_for (To want m)).end l u r → Runs k c es low high brought s.memory w (on_value r next)
      by (Gives v s2) gave h =
          runs_since k c es low high low high brought s.memory s2.memory w (next v s2) (omega arith) (omega arith) (grown_since (depth_in k.setting) low high s.memory s2.memory gave.sound.since)
          (go_on v s2 h.reached.local h.reached.world (then_leads before h.reached.leads) (sound_now k.setting.program s.memory s2 gave.sound) (fits_anywhere k (place_at k at) s.memory want s2 h.reached.local h.reached.world h.reached.fits) gave.sound.since h.same gave.is)
      by (Leaves s2) left h = record { configuration = before_in k (place_at k at) m.ops m.end h.local h.world; seen = h.world.seen; leads = then_leads before h.leads; ends = h.fits.events }
      by (Ends ending s2) keeps h = halted (To want m) ending s2 before h

  -- It is not used.
  pub effect_runs : (m : Made) (next : State → Outcome) → Inner (Unused m) → Before (Unused m)
      → ((s2 : State) (l2 : Local) (u2 : World) → Leads k.setting.unit c es (before_in k (place_at k at) m.ops m.end l2 u2) u2.seen → Sound k.setting.program s2.memory s2 → Fits k.setting None s2 l2 u2 → Since s.memory s2.memory → Runs k c es low high brought s2.memory w (next s2))
      → Runs k c es low high brought s.memory w (on_effect (evaluate (k.calls (place_at k at)) (depth_of (here_in k)) e s) next)
  effect_runs m next inner before go_on =
      let does = works s.memory ready in
      subst (λ d. Runs k c es low high brought s.memory w (on_effect (evaluate (k.calls (place_at k at)) d e s) next)) depths
      (by (evaluate (k.calls (place_at k at)) (depth_in k.setting) e s) (does.0 s sound) (does.1 t (Unused m) s l u size inner sound (fits_placed k (place_at k at) s.memory None s l u fits) tt))
    where
      goes_on : (s2 : State) → Sound k.setting.program s.memory s2 → Reached X None t (written_by X e) l u (to_made X (made_for (Unused m)).ops (made_for (Unused m)).end l u m) s2 → Runs k c es low high brought s.memory w (next s2)
      goes_on s2 sound2 h =
          runs_since k c es low high low high brought s.memory s2.memory w (next s2) (omega arith) (omega arith) (grown_since (depth_in k.setting) low high s.memory s2.memory sound2.since)
          (go_on s2 h.local h.world (then_leads before h.leads) (sound_now k.setting.program s.memory s2 sound2) (fits_anywhere k (place_at k at) s.memory None s2 h.local h.world h.fits) sound2.since)

      by : (r : Evaluated) → Keeps k.setting.program s.memory s.memory (kind_of k.setting.program k.setting.tree e) r → UnusedR X m t (written_by X e) (made_for (Unused m)).ops (made_for (Unused m)).end l u r → Runs k c es low high brought s.memory w (on_effect r next)
      by (Gives v s2) gave h = goes_on s2 gave.sound h
      by (Leaves s2) left h = goes_on s2 left.sound h
      by (Ends ending s2) keeps h = halted (Unused m) ending s2 before h

  -- It is tested.
  pub test_runs : (one other : ℕ) (blocks : List Block) (if_so if_not : State → Outcome) → Inner (Either one other blocks) → Before (Either one other blocks)
      → ((s2 : State) (l2 : Local) (u2 : World) → ((b : Block) → slice_get k.setting.graph.blocks one ≡ Some b → Leads k.setting.unit c es (before_in k (place_at k at) b.instructions b.end (in_block one l2) u2) u2.seen) → Sound k.setting.program s2.memory s2 → Fits k.setting None s2 l2 u2 → Since s.memory s2.memory
      → Runs k c es low high brought s2.memory w (if_so s2))
      → ((s2 : State) (l2 : Local) (u2 : World) → ((b : Block) → slice_get k.setting.graph.blocks other ≡ Some b → Leads k.setting.unit c es (before_in k (place_at k at) b.instructions b.end (in_block other l2) u2) u2.seen) → Sound k.setting.program s2.memory s2 → Fits k.setting None s2 l2 u2 → Since s.memory s2.memory
      → Runs k c es low high brought s2.memory w (if_not s2))
      → Runs k c es low high brought s.memory w (choose (condition_tested (evaluate (k.calls (place_at k at)) (depth_of (here_in k)) e s)) if_so if_not)
  test_runs one other blocks if_so if_not inner before go_yes go_no =
      let does = works s.memory ready in
      let r = evaluate (k.calls (place_at k at)) (depth_in k.setting) e s in
      subst (λ d. Runs k c es low high brought s.memory w (choose (condition_tested (evaluate (k.calls (place_at k at)) d e s)) if_so if_not)) depths
      (by (condition_tested r) (keeps_tested k.setting.program s.memory s.memory (kind_of k.setting.program k.setting.tree e) r (does.0 s sound))
      (does.1 t (Either one other blocks) s l u size inner sound (fits_placed k (place_at k at) s.memory None s l u fits) tt))
    where
      by : (r : Tested) → KeepsTest k.setting.program s.memory s.memory r → EitherR X one other t (written_by X e) (made_for (Either one other blocks)).ops (made_for (Either one other blocks)).end l u r → Runs k c es low high brought s.memory w (choose r if_so if_not)
      by (Holds s2) left h =
          runs_since k c es low high low high brought s.memory s2.memory w (if_so s2) (omega arith) (omega arith) (grown_since (depth_in k.setting) low high s.memory s2.memory left.sound.since)
          (go_yes s2 h.local h.world (λ b is. then_leads before (h.leads b is)) (sound_now k.setting.program s.memory s2 left.sound) (fits_anywhere k (place_at k at) s.memory None s2 h.local h.world h.fits) left.sound.since)
      by (Fails s2) left h =
          runs_since k c es low high low high brought s.memory s2.memory w (if_not s2) (omega arith) (omega arith) (grown_since (depth_in k.setting) low high s.memory s2.memory left.sound.since)
          (go_no s2 h.local h.world (λ b is. then_leads before (h.leads b is)) (sound_now k.setting.program s.memory s2 left.sound) (fits_anywhere k (place_at k at) s.memory None s2 h.local h.world h.fits) left.sound.since)
      by (NoTest ending s2) keeps h = halted (Either one other blocks) ending s2 before h

  -- A condition leads two ways.
  pub branch_runs : (free : ℕ) → t ≡ begun (coding_in k) free → (one other : Option ℕ) (inner : List Block) (if_so if_not : State → Outcome) → Stands k.setting.graph k.setting.top (branching (coding_in k) at e free one other inner).inner
      → Leads k.setting.unit c es (before_in k (place_at k at) (branching (coding_in k) at e free one other inner).ops (branching (coding_in k) at e free one other inner).end l u) u.seen
      → ((s2 : State) (l2 : Local) (u2 : World) → Comes k c es one (place_at k at) l2 u2 → Sound k.setting.program s2.memory s2 → Fits k.setting None s2 l2 u2 → Since s.memory s2.memory → Runs k c es low high brought s2.memory w (if_so s2))
      → ((s2 : State) (l2 : Local) (u2 : World) → Comes k c es other (place_at k at) l2 u2 → Sound k.setting.program s2.memory s2 → Fits k.setting None s2 l2 u2 → Since s.memory s2.memory → Runs k c es low high brought s2.memory w (if_not s2))
      → Runs k c es low high brought s.memory w (choose (condition_tested (evaluate (k.calls (place_at k at)) (depth_of (here_in k)) e s)) if_so if_not)
  branch_runs free is one other inner if_so if_not st leads go_yes go_no =
      let ends = with_end (coding_in k) at other inner in
      let all = with_end (coding_in k) at one ends in
      let g = Either (label_for (coding_in k) one ends) (label_for (coding_in k) other inner) all in
      let st_here : Inner g = subst (λ n. Stands k.setting.graph k.setting.top (code (names_in k.setting) (place_at k at) k.setting.top e n g).inner) (sym is) st in
      let before : Before g = subst (λ n. Leads k.setting.unit c es (before_in k (place_at k at) (code (names_in k.setting) (place_at k at) k.setting.top e n g).ops (code (names_in k.setting) (place_at k at) k.setting.top e n g).end l u) u.seen) (sym is) leads in
      let stands : Stands k.setting.graph k.setting.top all = grows (names_in k.setting) (place_at k at) k.setting.top k.setting.graph e t g st_here in
      test_runs (label_for (coding_in k) one ends) (label_for (coding_in k) other inner) all if_so if_not st_here before
      (λ s2 l2 u2 to sound2 fits2 since. go_yes s2 l2 u2 (label_comes k c es at one ends (place_at k at) l2 u2 stands to) sound2 fits2 since)
      (λ s2 l2 u2 to sound2 fits2 since. go_no s2 l2 u2 (label_comes k c es at other inner (place_at k at) l2 u2 (end_front k at one ends stands) to) sound2 fits2 since)
