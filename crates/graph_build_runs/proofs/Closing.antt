-- A function's body and its closing brace, and the return to the activation that waits.
use Rattle.std.proofs.Common.{◌≡◌, ℕ, zero, suc, ◌≤◌, List, [], Option, Some, None, Bool, true, false, refl, arith, pos}
use Rattle.std.specs.Prelude.{if◌then◌else◌}
use Rattle.debug_records.specs.declared.source.Spot.{Spot}
use Rattle.c_meaning_values.specs.declared.value.Value as source-value
use Rattle.c_meaning_values.specs.declared.value.Value.TheVariants as source
use Rattle.c_meaning_values.specs.Memory.{Memory as SourceMemory}
use Rattle.c_meaning_steps.specs.declared.event.Ending.TheVariants as ending
use Rattle.c_meaning_steps.specs.States.{State, Evaluated, Gives, Leaves, Ends, Outcome, Next, Broken, Continued, Returned, Ended}
use Rattle.c_meaning.specs.Activations.{stopped, on_begun}
use Rattle.c_meaning.specs.Activations as activations
use Rattle.c_meaning.specs.Calls.{at_close, handed_back}
use Rattle.c_flow.specs.declared.edge.Ways.{Ways}
use Rattle.graph_core.specs.Graphs.{Operand, Constant, Return}
use Rattle.graph_core.specs.Runs.{Configuration, Event}
use Rattle.graph_build_steps.specs.Drafts.{ending as ends_with}
use Rattle.graph_build_runs.specs.Typed.{IsOf}
use Rattle.graph_build_runs.proofs.Leads.{depth_in, Local, World, in_block}
use Rattle.graph_build_runs.proofs.Activities.{Activity, here_in, before_in}
use Rattle.graph_build_runs.proofs.Outcomes.{Arrives, Leaving, HandsBack, Halts, Runs, Holding, GoesOn, grown_none}
use Rattle.graph_build_runs.proofs.Living.{Grown, grown_trans, grown_wider}
use Rattle.graph_build_runs.proofs.Stops.{Lawful, place_begins}
use Rattle.graph_build_runs.proofs.AtPlaces.{Begins}

-- To what a function's body and its closing brace lead, by what they come to.
abbrev pub Final : Activity → Configuration → List Event → (low high : ℕ) → SourceMemory → Evaluated → Type 0
Final k c es low high before (Gives v s) = Leaving k c es low high before (Some v) s
Final k c es low high before (Leaves s) = Leaving k c es low high before None s
Final k c es low high before (Ends e s) = Halts k c es e s

-- what the closing brace hands back
abbrev pub closing_operand : Bool → Option Operand
closing_operand is_main = if is_main then Some (Constant 0) else None

abbrev pub closing_value : Bool → Option source-value.Value
closing_value is_main = if is_main then Some (source.Number (pos 0)) else None

module _ (k : Activity) (law : Lawful k) (close : Spot) (is_main : Bool) (scope : List ℕ) (low high : ℕ) (le : low ≤ high) (is_number : is_main ≡ true → (memory : SourceMemory) → IsOf memory k.setting.tree.result (source.Number (pos 0))) where
  -- the closing brace
  close_goes : (w : Ways) → Begins k scope close.at (λ t i. ends_with (Return (closing_operand is_main)) i) → GoesOn k high high [] w scope (Some close.at) (λ s. activations.at (here_in k) close s (Returned (closing_value is_main)))
  close_goes w b =
      place_begins k law scope close (ends_with (Return (closing_operand is_main)) b.inner) b.block b.here high high [] w (Returned (closing_value is_main))
      (λ c es l u s leads sound fits h ready.
      record { place = _; local = l; world = u; operand = closing_operand is_main; leads = leads; sound = sound; fits = fits; grown = grown_none k high high s.memory; hands = hands l u s is_main is_number })
    where
      hands : (l : Local) (u : World) (s : State) (b : Bool) → (b ≡ true → (memory : SourceMemory) → IsOf memory k.setting.tree.result (source.Number (pos 0))) → HandsBack k s l u (closing_value b) (closing_operand b)
      hands l u s true number = (Constant 0, refl, refl, number refl s.memory)
      hands l u s false number = refl

  closed_final : (c : Configuration) (es : List Event) (w : Ways) (s : State) (turns : ℕ)
      → Runs k c es high high [] s.memory w (on_begun (elim turns [ zero ↦ activations.NoTurn s | suc left ↦ activations.Goes (stopped (here_in k) close.at (record s { turns = left })) ]) (Returned (closing_value is_main)))
      → Final k c es high high s.memory (handed_back is_main (on_begun (elim turns [ zero ↦ activations.NoTurn s | suc left ↦ activations.Goes (stopped (here_in k) close.at (record s { turns = left })) ]) Next))
  closed_final c es w s zero r = r
  closed_final c es w s (suc left) r = by is_main (stopped (here_in k) close.at (record s { turns = left })) r
    where
      by : (b : Bool) (t : State) → Leaving k c es high high s.memory (if b then Some (source.Number (pos 0)) else None) t → Final k c es high high s.memory (if b then Gives (source.Number (pos 0)) t else Leaves t)
      by true t r = r
      by false t r = r

  leaving_since : (c : Configuration) (es : List Event) (before between : SourceMemory) (v : Option source-value.Value) (s : State) → Grown (depth_in k.setting) low high before between → Leaving k c es high high between v s → Leaving k c es low high before v s
  leaving_since c es before between v s g r = record {
    place = r.place;
    local = r.local;
    world = r.world;
    operand = r.operand;
    leads = r.leads;
    sound = r.sound;
    fits = r.fits;
    grown = grown_trans (depth_in k.setting) low high before between s.memory g (grown_wider (depth_in k.setting) low high high high between s.memory le (omega arith) r.grown);
    hands = r.hands;
  }

  final_since : (c : Configuration) (es : List Event) (before between : SourceMemory) (r : Evaluated) → Grown (depth_in k.setting) low high before between → Final k c es high high between r → Final k c es low high before r
  final_since c es before between (Gives v s) g r = leaving_since c es before between (Some v) s g r
  final_since c es before between (Leaves s) g r = leaving_since c es before between None s g r
  final_since c es before between (Ends e s) g r = r

  halts_here : (c : Configuration) (es : List Event) (brought : List ℕ) (before : SourceMemory) (s : State) → Arrives k c es low high brought before None s → Halts k c es ending.Undefined s
  halts_here c es brought before s r = record { configuration = before_in k r.place [] (Return None) (in_block r.comes.0 r.local) r.world; seen = r.world.seen; leads = r.comes.1; ends = r.fits.events }

  -- The body of a function, and its closing brace where the flow reaches it.
  pub body_final : (reaches : Bool) (c : Configuration) (es : List Event) (brought : List ℕ) (before : SourceMemory) (o : Outcome) → (reaches ≡ true → Begins k (scope) close.at (λ t i. ends_with (Return (closing_operand is_main)) i)) → (reaches ≡ false → (s : State) → o ≡ Next s → ⊥)
      → ((s : State) → Arrives k c es low high brought before (if reaches then Some close.at else None) s → Holding k scope high s.memory) → Runs k c es low high brought before (record { next = if reaches then Some close.at else None; by_break = None; by_continue = None }) o
      → Final k c es low high before (handed_back is_main (at_close (here_in k) close o))
  body_final true c es brought before (Next s) b never held r =
      let w : Ways = record { next = None; by_break = None; by_continue = None } in
      final_since c es before s.memory (handed_back is_main (activations.at (here_in k) close s Next)) r.grown
      (closed_final c es w s s.turns (close_goes w (b refl) c es r.place r.local r.world s r.comes r.sound r.fits (held s r)))
  body_final false c es brought before (Next s) b never held r = absurd (never refl s refl)
  body_final reaches c es brought before (Broken s) b never held r = halts_here c es [] before s r
  body_final reaches c es brought before (Continued s) b never held r = halts_here c es [] before s r
  body_final reaches c es brought before (Returned None s) b never held r = r
  body_final reaches c es brought before (Returned (Some v) s) b never held r = r
  body_final reaches c es brought before (Ended e s) b never held r = r
