-- The recursion of calls, by how many activations may still begin.
use Rattle.std.proofs.Common.{◌≡◌, ℕ, zero, suc, List, [], ◌∷◌, length, Option, Some, None, Bool, true, false, slice_get, refl, subst, arith, pos}
use Rattle.std.specs.Prelude.{if◌then◌else◌}
use Rattle.debug_records.specs.declared.source.Spot.{Spot}
use Rattle.c_tree.specs.Programs.{TypedFunctionTree}
use Rattle.c_type_laws.specs.Kind.{Of}
use Rattle.c_meaning_values.specs.declared.value.Value as source-value
use Rattle.c_meaning_values.specs.declared.value.Value.TheVariants as source
use Rattle.c_meaning_values.specs.Memory.{Memory as SourceMemory, ended_from as source_ended}
use Rattle.c_meaning_steps.specs.declared.event.Frame.{Frame}
use Rattle.c_meaning_steps.specs.declared.event.Ending.{Ending}
use Rattle.c_meaning_steps.specs.declared.event.Ending.TheVariants as ending
use Rattle.c_meaning_steps.specs.States.{State, Evaluated, Gives, Leaves, Ends, Outcome, Next, Broken, Continued, Returned, Ended}
use Rattle.c_meaning.specs.Activations.{stopped, on_begun}
use Rattle.c_meaning.specs.Activations as activations
use Rattle.c_meaning.specs.Lifetimes.{ending_from}
use Rattle.c_meaning.specs.Calls.{handed_back, at_close, forgotten}
use Rattle.graph_core.specs.declared.value.Value.{Value}
use Rattle.graph_core.specs.declared.value.Value.TheVariants.{Odd}
use Rattle.graph_core.specs.declared.instruction.Callee.TheVariants as unit-called
use Rattle.graph_core.specs.Graphs as unit
use Rattle.graph_core.specs.Graphs.{Graph, UnitForm, Operand, Instruction, End, Return}
use Rattle.graph_core.specs.Memory.{ended_from}
use Rattle.graph_core.specs.Runs.{Activation, Configuration, Event, Stepped, Goes, step, value}
use Rattle.graph_core.specs.Runs as run
use Rattle.graph_build_runs.specs.Typed.{IsOf}
use Rattle.graph_build_runs.proofs.Leads.{Setting, depth_in, Local, World, here_at, at, Leads, goes, stays, then_leads}
use Rattle.graph_build_runs.proofs.Later.{later_trans}
use Rattle.graph_build_runs.proofs.Kept.{Since, Sound, Fits, fits_local}
use Rattle.graph_build_runs.proofs.Results.{Stuck}
use Rattle.graph_build_runs.proofs.Typing.{Gave, Left, Keeps, of_word}
use Rattle.graph_build_runs.proofs.Calling.{waiting, returned, Back, BackR}
use Rattle.graph_build_runs.proofs.Activities.{Activity, here_in, before_in}
use Rattle.graph_build_runs.proofs.Living.{Grown, was_there, grown_trans, grown_wider}
use Rattle.graph_build_runs.proofs.Fading.{sound_closed, since_closed, of_faded}
use Rattle.graph_build_runs.proofs.Outcomes.{Leaving, Halts}
use Rattle.graph_build_runs.proofs.Keeping.{KeptBy}
use Rattle.graph_build_runs.proofs.Returning.{gone, fits_returned, value_returned}
use Rattle.graph_build_runs.proofs.Closing.{Final}
use Rattle.graph_build_runs.proofs.Calls.{activity_of}

-- a memory that went on from one that went on
since_both : (a b c : SourceMemory) → Since a b → Since b c → Since a c
since_both a b c f g = record {
  later = later_trans a b c f.later g.later;
  ends = λ n o is alive. (let z = was_there b c g.later n o is alive (g.ends n o is alive) in f.ends n z.0 z.1 z.2);
}

-- What a body comes to is kept, where the objects of its activation end.
module _ (k : Activity) (began before : SourceMemory) (since : Since began before) (high : ℕ) (close : Spot) (is_main : Bool) (is_number : is_main ≡ true → (memory : SourceMemory) → IsOf memory k.setting.tree.result (source.Number (pos 0))) where
  closed_sound : (s : State) → Sound k.setting.program s.memory s → Grown (depth_in k.setting) 0 high before s.memory → Left k.setting.program began before (ending_from (length before) s)
  closed_sound s sound grown =
      let ends = since_closed (depth_in k.setting) 0 high before s.memory grown in
      let there = sound_closed k.setting.program s.memory s (length before) sound in
      record {
        sound = record { typed = there.typed; differ = there.differ; declared = there.declared; single = there.single; bytes = there.bytes; since = since_both began before (source_ended (length before) s.memory) since ends };
        later = ends.later;
      }

  returned_keeps : (s : State) (v : source-value.Value) → Sound k.setting.program s.memory s → Grown (depth_in k.setting) 0 high before s.memory → IsOf s.memory k.setting.tree.result v → Gave k.setting.program began before (Of k.setting.tree.result) v (ending_from (length before) s)
  returned_keeps s v sound grown is = let c = closed_sound s sound grown in record { sound = c.sound; later = c.later; is = of_faded k.setting.program s.memory (length before) [] k.setting.tree.result v is }

  at_close_keeps : (s : State) (turns : ℕ) → Sound k.setting.program s.memory s → Grown (depth_in k.setting) 0 high before s.memory
      → Keeps k.setting.program began before (Of k.setting.tree.result)
      (forgotten (length before) (handed_back is_main (on_begun (elim turns [ zero ↦ activations.NoTurn s | suc left ↦ activations.Goes (stopped (here_in k) close.at (record s { turns = left })) ]) Next)))
  at_close_keeps s zero sound grown = tt
  at_close_keeps s (suc left) sound grown = by is_main is_number
    where
      now : Sound k.setting.program s.memory (stopped (here_in k) close.at (record s { turns = left }))
      now = record { typed = sound.typed; differ = sound.differ; declared = sound.declared; single = sound.single; bytes = sound.bytes; since = sound.since }

      by : (b : Bool) → (b ≡ true → (memory : SourceMemory) → IsOf memory k.setting.tree.result (source.Number (pos 0)))
          → Keeps k.setting.program began before (Of k.setting.tree.result) (forgotten (length before) (if b then Gives (source.Number (pos 0)) (stopped (here_in k) close.at (record s { turns = left })) else Leaves (stopped (here_in k) close.at (record s { turns = left }))))
      by true number = returned_keeps (stopped (here_in k) close.at (record s { turns = left })) (source.Number (pos 0)) now grown (number refl s.memory)
      by false number = closed_sound (stopped (here_in k) close.at (record s { turns = left })) now grown

  pub handed_keeps : (low : ℕ) (brought : List ℕ) (between : SourceMemory) (o : Outcome) → Grown (depth_in k.setting) 0 high before between → KeptBy k low high brought between o
      → Keeps k.setting.program began before (Of k.setting.tree.result) (forgotten (length before) (handed_back is_main (at_close (here_in k) close o)))
  handed_keeps low brought between (Next s) g r = at_close_keeps s s.turns r.sound (grown_trans (depth_in k.setting) 0 high before between s.memory g (grown_wider (depth_in k.setting) 0 low high high between s.memory (omega arith) (omega arith) r.grown))
  handed_keeps low brought between (Broken s) g r = tt
  handed_keeps low brought between (Continued s) g r = tt
  handed_keeps low brought between (Returned None s) g r = closed_sound s r.0.sound (grown_trans (depth_in k.setting) 0 high before between s.memory g (grown_wider (depth_in k.setting) 0 low high high between s.memory (omega arith) (omega arith) r.0.grown))
  handed_keeps low brought between (Returned (Some v) s) g r =
      returned_keeps s v r.0.sound (grown_trans (depth_in k.setting) 0 high before between s.memory g (grown_wider (depth_in k.setting) 0 low high high between s.memory (omega arith) (omega arith) r.0.grown)) r.1
  handed_keeps low brought between (Ended e s) g r = tt

-- A body that comes to its end comes back to the call.
module _ (x : Setting) (f : ℕ) (tree : TypedFunctionTree) (g : Graph) (again : Bool) (top : ℕ) (frames : List Frame) (left : ℕ) (target : Option ℕ) (all : List Operand) (ops : List Instruction) (end : End) (l : Local) (w : World) (s : State) (call : Fits x None s l w)
    (tree_is : slice_get x.program.functions x.function ≡ Some x.tree) where
  abbrev within : Activity
  within = activity_of x.program x.unit f tree g again top (length w.memory) (here_at x ops end (waiting l target) ∷ x.waiting) w.memory frames left

  abbrev calling : Configuration
  calling = at x (unit.Call target (unit-called.Function f) all ∷ ops) end l w

  abbrev behind_world : World → World
  behind_world w2 = record w2 { memory = ended_from (length w.memory) w2.memory }

  back_step : (t : Option ℕ) (w2 : World) (v : Value) → run.returned (ended_from (length w.memory) w2.memory) w2.input v (here_at x ops end (waiting l t) ∷ x.waiting) ≡ Goes (at x ops end (returned l t v) (behind_world w2))
  back_step None w2 v = refl
  back_step (Some j) w2 v = refl

  back_fits : (high : ℕ) (v : Option source-value.Value) (s2 : State) → (h : Leaving within calling w.seen 0 high s.memory v s2) → Fits x None (ending_from (length s.memory) s2) (waiting l target) (behind_world h.world)
  back_fits high v s2 h =
      let f2 = fits_returned x s s2 l w h.world call h.fits.later h.grown.later h.fits.differ h.fits.placed (here_at x ops end (waiting l target)) tree_is refl refl refl h.fits.outer h.fits.input h.fits.events in
      fits_local x None None (ending_from (length s.memory) s2) l (waiting l target) (behind_world h.world) f2 f2.own

  abbrev back_some : (high : ℕ) (v : Option source-value.Value) (s2 : State) → (h : Leaving within calling w.seen 0 high s.memory v s2) → (o : Operand) → h.operand ≡ Some o → Back x target f all ops end l w (ending_from (length s.memory) s2)
  back_some high v s2 h o e = record {
    world = behind_world h.world;
    given = value x.unit.statics h.local.names o;
    leads = then_leads (subst (λ a. Leads x.unit calling w.seen (before_in within h.place [] (Return a) h.local h.world) h.world.seen) e h.leads) (goes (back_step target h.world (value x.unit.statics h.local.names o)) stays);
    fits = back_fits high v s2 h;
    later = gone x s s2 l w h.world call h.fits.later h.grown.later h.fits.differ h.fits.placed;
  }

  pub back_final : (high : ℕ) (r : Evaluated) → Final within calling w.seen 0 high s.memory r → BackR x target f all ops end l w (forgotten (length s.memory) r)
  back_final high (Gives v s2) h = record {
    back = back_some high (Some v) s2 h h.hands.0 h.hands.1;
    same = value_returned x s s2 l w h.world call h.fits.later h.grown.later h.fits.differ h.fits.placed v (value x.unit.statics h.local.names h.hands.0) h.hands.2;
    word = of_word s2.memory tree.result v h.hands.3;
  }
  back_final high (Leaves s2) h = record {
    world = behind_world h.world;
    given = Odd;
    leads = then_leads (subst (λ a. Leads x.unit calling w.seen (before_in within h.place [] (Return a) h.local h.world) h.world.seen) h.hands h.leads) (goes (back_step target h.world Odd) stays);
    fits = back_fits high None s2 h;
    later = gone x s s2 l w h.world call h.fits.later h.grown.later h.fits.differ h.fits.placed;
  }
  back_final high (Ends e s2) h = ended_back e h
    where
      ended_back : (e : Ending) → Halts within calling w.seen e s2 → Stuck x (unit.Call target (unit-called.Function f) all ∷ ops) end l w e s2
      ended_back ending.Undefined h = record { configuration = h.configuration; seen = h.seen; leads = h.leads; ends = h.ends }
      ended_back (ending.Exit z) h = record { configuration = h.configuration; seen = h.seen; leads = h.leads; ends = h.ends }
      ended_back ending.Depth h = record { configuration = h.configuration; seen = h.seen; leads = h.leads; ends = h.ends }
      ended_back ending.Turns h = record { configuration = h.configuration; seen = h.seen; leads = h.leads; ends = h.ends }
