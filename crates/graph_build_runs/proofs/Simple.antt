-- Expressions as statements, empty statements, and statements that jump do what they mean.
use Rattle.std.proofs.Common.{◌≡◌, ℕ, List, [], Option, Some, None, true, refl}
use Rattle.debug_records.specs.declared.source.Spot.{Spot}
use Rattle.c_tree.specs.TypedExpressions.{RvalueTree}
use Rattle.c_type_laws.specs.Kinds.{is_of}
use Rattle.c_type_laws.specs.Expressions.{kind_of}
use Rattle.c_meaning_steps.specs.States.{State, Next, Broken, Continued, Returned, on_effect}
use Rattle.c_meaning.specs.Activations as activations
use Rattle.c_meaning.specs.Statements.{value_at, expression_run, result}
use Rattle.c_flow.specs.declared.edge.Ways.{Ways}
use Rattle.graph_core.specs.Graphs.{Return, Block}
use Rattle.graph_core.specs.Runs.{Configuration, Event}
use Rattle.graph_build_layout.specs.declared.laid.Use.TheVariants.{Anywhere}
use Rattle.graph_build_layout.specs.Layout.{laid}
use Rattle.graph_build_steps.specs.Drafts.{To, Unused, ending}
use Rattle.graph_build_statements.specs.Coding.{begun, going, coded}
use Rattle.graph_build_runs.proofs.Leads.{names_in, Local, World, Leads}
use Rattle.graph_build_runs.proofs.Kept.{Sound, Fits}
use Rattle.graph_build_runs.proofs.Types.{kind_is_of}
use Rattle.graph_build_runs.proofs.Activities.{Activity, coding_in, here_in, place_at, before_in}
use Rattle.graph_build_runs.proofs.Outcomes.{Arrives, GoesOn, grown_none}
use Rattle.graph_build_runs.proofs.Stops.{Lawful, place_begins}
use Rattle.graph_build_runs.proofs.AtPlaces.{Works, Begins, begun_above, going_comes, value_runs, effect_runs}

-- a run that goes to a place
pub arrives_now : (k : Activity) (c : Configuration) (es : List Event) (low high : ℕ) (next : Option ℕ) (inner : List Block) (place : ℕ) (l : Local) (u : World) (s : State)
    → Leads k.setting.unit c es (before_in k place (going (coding_in k) next inner).ops (going (coding_in k) next inner).end l u) u.seen → Sound k.setting.program s.memory s → Fits k.setting None s l u → Arrives k c es low high [] s.memory next s
arrives_now k c es low high next inner place l u s leads sound fits =
    record { place = place; local = l; world = u; comes = going_comes k c es next inner place l u leads; sound = sound; fits = fits; grown = grown_none k low high s.memory; brings = tt }

module _ (k : Activity) (law : Lawful k) (scope : List ℕ) (low : ℕ) (w : Ways) (spot : Spot) where
  -- a place that leads to another
  pub empty_goes : Begins k scope spot.at (λ t i. going (coding_in k) w.next i) → GoesOn k low low [] w scope (Some spot.at) (λ s. activations.at (here_in k) spot s Next)
  empty_goes b =
      place_begins k law scope spot (going (coding_in k) w.next b.inner) b.block b.here low low [] w Next (λ c es l u s leads sound fits h ready. arrives_now k c es low low w.next b.inner (place_at k spot.at) l u s leads sound fits)

  pub break_goes : Begins k scope spot.at (λ t i. going (coding_in k) w.by_break i) → GoesOn k low low [] w scope (Some spot.at) (λ s. activations.at (here_in k) spot s Broken)
  break_goes b =
      place_begins k law scope spot (going (coding_in k) w.by_break b.inner) b.block b.here low low [] w Broken (λ c es l u s leads sound fits h ready. arrives_now k c es low low w.by_break b.inner (place_at k spot.at) l u s leads sound fits)

  pub continue_goes : Begins k scope spot.at (λ t i. going (coding_in k) w.by_continue i) → GoesOn k low low [] w scope (Some spot.at) (λ s. activations.at (here_in k) spot s Continued)
  continue_goes b =
      place_begins k law scope spot (going (coding_in k) w.by_continue b.inner) b.block b.here low low [] w Continued (λ c es l u s leads sound fits h ready. arrives_now k c es low low w.by_continue b.inner (place_at k spot.at) l u s leads sound fits)

  -- An expression whose value is not used.
  pub run_goes : (e : RvalueTree) → Works k (place_at k spot.at) e → Begins k scope spot.at (λ t i. coded (coding_in k) spot.at e t (Unused (going (coding_in k) w.next i))) → GoesOn k low low [] w scope (Some spot.at) (expression_run k.calls (here_in k) spot e)
  run_goes e works b =
      let m = going (coding_in k) w.next b.inner in
      place_begins k law scope spot (coded (coding_in k) spot.at e b.free (Unused m)) b.block b.here low low [] w (λ s. on_effect (value_at k.calls (here_in k) spot e s) Next)
      (λ c es l u s leads sound fits h ready.
      effect_runs k spot.at e works c es l u s sound fits ready (begun (coding_in k) b.free) (begun_above k b.free b.size) low low [] w m Next b.stands leads
      (λ s2 l2 u2 leads2 sound2 fits2 since. arrives_now k c es low low w.next b.inner (place_at k spot.at) l2 u2 s2 leads2 sound2 fits2))

  -- A `return` without a value, and one with a value.
  pub leave_goes : Begins k scope spot.at (λ t i. ending (Return None) i) → GoesOn k low low [] w scope (Some spot.at) (λ s. activations.at (here_in k) spot s (result k.calls (here_in k) spot None))
  leave_goes b =
      place_begins k law scope spot (ending (Return None) b.inner) b.block b.here low low [] w (result k.calls (here_in k) spot None)
      (λ c es l u s leads sound fits h ready. record { place = place_at k spot.at; local = l; world = u; operand = None; leads = leads; sound = sound; fits = fits; grown = grown_none k low low s.memory; hands = refl })

  pub return_goes : (e : RvalueTree) → Works k (place_at k spot.at) e → is_of (kind_of k.setting.program k.setting.tree e) k.setting.tree.result ≡ true
      → Begins k scope spot.at (λ t i. coded (coding_in k) spot.at e t (To None (ending (Return (Some (laid (names_in k.setting) e Anywhere (begun (coding_in k) t)).value)) i)))
      → GoesOn k low low [] w scope (Some spot.at) (λ s. activations.at (here_in k) spot s (result k.calls (here_in k) spot (Some e)))
  return_goes e works is b =
      let t = begun (coding_in k) b.free in
      let a = (laid (names_in k.setting) e Anywhere t).value in
      let m = ending (Return (Some a)) b.inner in
      place_begins k law scope spot (coded (coding_in k) spot.at e b.free (To None m)) b.block b.here low low [] w (result k.calls (here_in k) spot (Some e))
      (λ c es l u s leads sound fits h ready.
      value_runs k spot.at e works c es l u s sound fits ready t (begun_above k b.free b.size) low low [] w None m (λ v z. Returned (Some v) z) b.stands tt leads
      (λ v s2 l2 u2 leads2 sound2 fits2 since same kind. record {
        place = place_at k spot.at;
        local = l2;
        world = u2;
        operand = Some a;
        leads = leads2;
        sound = sound2;
        fits = fits2;
        grown = grown_none k low low s2.memory;
        hands = (a, refl, same, kind_is_of s2.memory (kind_of k.setting.program k.setting.tree e) k.setting.tree.result v is kind);
      }))
