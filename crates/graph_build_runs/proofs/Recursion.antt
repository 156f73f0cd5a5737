-- Calls keep what runs keep and do what they mean, by how many activations may still begin.
use Rattle.std.proofs.Common.{◌≡◌, ℕ, zero, suc, ◌+◌, ◌≤◌, List, [], ◌∷◌, ◌++◌, length, map, Option, Some, None, Bool, true, false, slice_get, refl, sym, ap, ◌∙◌, subst, arith, pos}
use Rattle.std.specs.Prelude.{◌==◌, if◌then◌else◌, option_map, unwrap_or}
use Rattle.std.proofs.lemmas.Option.{slice_get-map}
use Rattle.c_tree.specs.declared.object_type.ValueType.{ValueType}
use Rattle.c_tree.specs.declared.object_type.ValueType.TheVariants.{Void, Integer, Pointer}
use Rattle.c_tree.specs.declared.typed_expression.Callee.TheVariants as called
use Rattle.c_tree.specs.Programs.{TypedFunctionTree, ProgramTree}
use Rattle.c_places.specs.Flow.{reaches_end}
use Rattle.c_places.specs.Places.{places_of_program, parameters_of, brought_by_body}
use Rattle.c_type_rules.specs.ValueTypes.{results_of, given_by, is_void}
use Rattle.c_type_laws.specs.Kind.{Of}
use Rattle.c_type_laws.specs.Kinds.{taken_by}
use Rattle.c_meaning_values.specs.declared.value.Value as source-value
use Rattle.c_meaning_values.specs.declared.value.Value.TheVariants as source
use Rattle.c_meaning_values.specs.Memory.{Memory as SourceMemory}
use Rattle.c_meaning_steps.specs.declared.event.Frame.{Frame}
use Rattle.c_meaning_steps.specs.declared.event.Ending.TheVariants as ending
use Rattle.c_meaning_steps.specs.States.{State, Evaluated, Gives, Leaves, Ends, Outcome, Next, Broken, Continued, Returned, Ended}
use Rattle.c_meaning.specs.Activations.{Activation as SourceActivation, stopped, on_begun}
use Rattle.c_meaning.specs.Activations as activations
use Rattle.c_meaning.specs.Calls.{bind, on_entry, handed_back, at_close, forgotten}
use Rattle.c_meaning.specs.Expressions.{Calls}
use Rattle.c_meaning.specs.Statements.{execute_all}
use Rattle.c_meaning.specs.Runs.{activate, calls_of}
use Rattle.graph_core.specs.declared.value.Value.TheVariants.{Odd}
use Rattle.graph_core.specs.declared.value.Shadow.TheVariants.{Gone}
use Rattle.graph_core.specs.declared.instruction.Callee.TheVariants as unit-called
use Rattle.graph_core.specs.Graphs as unit
use Rattle.graph_core.specs.Graphs.{UnitForm, Operand, Instruction, End, Return}
use Rattle.graph_core.specs.Memory.{Memory}
use Rattle.graph_core.specs.Runs.{Activation, Configuration, Event, TooDeep, Ends as StepEnds, enter, goes_if, value}
use Rattle.graph_build_runs.specs.Typed.{IsOf}
use Rattle.graph_build_runs.specs.Correspondence.{SameValues}
use Rattle.graph_build_runs.proofs.Leads.{depth_in, Local, World, here_at, at, stays}
use Rattle.graph_build_runs.proofs.Kept.{Sound, Fits}
use Rattle.graph_build_runs.proofs.Results.{Stuck, stuck_now}
use Rattle.graph_build_runs.proofs.Typing.{Keeps}
use Rattle.graph_build_runs.proofs.Arguments.{AreOf}
use Rattle.graph_build_runs.proofs.Calling.{none_odd, waiting, BackR}
use Rattle.graph_build_runs.proofs.Library.{call_step}
use Rattle.graph_build_runs.proofs.Coding.{CallsAre}
use Rattle.graph_build_runs.proofs.Activities.{Activity, placed, sound_now}
use Rattle.graph_build_runs.proofs.Living.{statics_later, LivesAt, lives_later, frames_length, frames_later, was_there, all_both, Grown, grown_trans, grown_wider}
use Rattle.graph_build_runs.proofs.Outcomes.{Leaving, Holding, holding_grown}
use Rattle.graph_build_runs.proofs.Stops.{Ready}
use Rattle.graph_build_runs.proofs.Formed.{behind_all}
use Rattle.graph_build_runs.proofs.Statements.{all_above, statements_go}
use Rattle.graph_build_runs.proofs.KeptStatements.{statements_keep}
use Rattle.graph_build_runs.proofs.Closing.{Final, body_final}
use Rattle.graph_build_runs.proofs.Calls.{CallsGood, activity_of, FunctionIs, FunctionsAre}
use Rattle.graph_build_runs.proofs.Depth.{handed_keeps, back_final}

-- a body's end, from before its parameters were bound
pub final_before : (k : Activity) (c : Configuration) (es : List Event) (low high : ℕ) (before between : SourceMemory) (r : Evaluated) → Grown (depth_in k.setting) 0 high before between → Final k c es low high between r → Final k c es 0 high before r
final_before k c es low high before between r g h = by r h
  where
    leaving : (v : Option source-value.Value) (s : State) → Leaving k c es low high between v s → Leaving k c es 0 high before v s
    leaving v s h = record {
      place = h.place;
      local = h.local;
      world = h.world;
      operand = h.operand;
      leads = h.leads;
      sound = h.sound;
      fits = h.fits;
      grown = grown_trans (depth_in k.setting) 0 high before between s.memory g (grown_wider (depth_in k.setting) 0 low high high between s.memory (omega arith) (omega arith) h.grown);
      hands = h.hands;
    }

    by : (r : Evaluated) → Final k c es low high between r → Final k c es 0 high before r
    by (Gives v s) h = leaving (Some v) s h
    by (Leaves s) h = leaving None s h
    by (Ends e s) h = h

module _ (p : ProgramTree) (u : UnitForm) (all_are : FunctionsAre p u) where
  -- what a function gives
  given_is : (n : ℕ) (b : TypedFunctionTree) → slice_get p.functions n ≡ Some b → given_by (results_of p.functions) (called.Function n) ≡ b.result
  given_is n b is = ap (λ o. unwrap_or o Void) (slice_get-map (λ (f : TypedFunctionTree). f.result) p.functions n ∙ ap (option_map (λ (f : TypedFunctionTree). f.result)) is)

  -- An activation of a function that calls, at a place.
  module _ (left f : ℕ) (tree : TypedFunctionTree) (is_f : slice_get p.functions f ≡ Some tree) (fn : FunctionIs p u f tree) (first : ℕ) (ws : List Activation) (objects : Memory) (frames : List Frame) (place : ℕ) (began : SourceMemory) where
    abbrev caller : ℕ → Activity
    caller n = activity_of p u f tree fn.graph fn.again fn.top first ws objects frames n

    abbrev frame_here : Frame
    frame_here = record { function = f; place = place }

    -- what holds where a function is entered
    holding_within : (rdy : Ready (caller left) place began) (s : State) → Sound p began s → (n : ℕ) (b : TypedFunctionTree) (fb : FunctionIs p u n b) (first2 : ℕ) (objects2 : Memory) (a : Activation) (m : ℕ) → a.function ≡ f → a.place ≡ place → a.graph ≡ fn.graph
        → Holding (activity_of p u n b fb.graph fb.again fb.top first2 (a ∷ ws) objects2 (frame_here ∷ frames) m) [] 0 s.memory
    holding_within rdy s sound n b fb first2 objects2 a m function_is place_is graph_is =
        let same : length frames ≡ length ws = frames_length p u began frames ws rdy.frames in record {
          statics = statics_later p began s.memory sound.since.later rdy.statics;
          under = λ i o v d is alive owner.
              (let z = was_there began s.memory sound.since.later i o is alive (sound.since.ends i o is alive) in
              let le : d ≤ length ws + 1 = rdy.above i z.0 v d z.1 z.2 (sym z.3 ∙ owner) in (omega (arith, le), λ e. absurd (omega (arith, le, e))));
          scoped = tt;
          frames = (
            record {
              function = function_is;
              place = place_is;
              graph = fn.is ∙ ap Some (sym graph_is);
              sees = λ q is j v vis. lives_later began s.memory sound.since.later v (length frames + 1) (subst (λ d. LivesAt began v (d + 1)) (sym same) (rdy.sees q is j v vis));
            },
            frames_later p u began s.memory sound.since.later frames ws rdy.frames,
          );
        }

    -- what a call comes to is kept
    keeps_zero : (n : ℕ) (vs : List source-value.Value) (s : State) → Keeps p began s.memory (Of (given_by (results_of p.functions) (called.Function n))) (calls_of p (places_of_program p) 0 (frame_here ∷ frames) n vs s)
    keeps_zero n vs s = tt

    -- the activation that begins, where the call is not looked at
    abbrev any_waiting : Activation
    any_waiting = here_at (placed (caller left) place began) [] (Return None) (record { block = 0; names = λ y. Odd; shadows = λ y. Gone; wants = None })

    abbrev begins_in : (n : ℕ) (b : TypedFunctionTree) → FunctionIs p u n b → (first2 : ℕ) → Activation → Memory → (m : ℕ) → Activity
    begins_in n b fb first2 a objects2 m = activity_of p u n b fb.graph fb.again fb.top first2 (a ∷ ws) objects2 (frame_here ∷ frames) m

  module _ (left f : ℕ) (tree : TypedFunctionTree) (is_f : slice_get p.functions f ≡ Some tree) (fn : FunctionIs p u f tree) (first : ℕ) (ws : List Activation) (objects : Memory) (frames : List Frame) (place : ℕ) (began : SourceMemory)
      (rdy : Ready (activity_of p u f tree fn.graph fn.again fn.top first ws objects frames (suc left)) place began)
      (good : (n : ℕ) (b : TypedFunctionTree) → slice_get p.functions n ≡ Some b → (fb : FunctionIs p u n b) (first2 : ℕ) (a : Activation) (objects2 : Memory) → CallsGood (activity_of p u n b fb.graph fb.again fb.top first2 (a ∷ ws) objects2 (record { function = f; place = place } ∷ frames) left)) where
    abbrev source_here : ℕ → SourceActivation
    source_here n = record { program = p; places = places_of_program p; function = n; waiting = record { function = f; place = place } ∷ frames }

    abbrev source_calls : ℕ → ℕ → Calls
    source_calls n pl = calls_of p (places_of_program p) left (record { function = n; place = pl } ∷ record { function = f; place = place } ∷ frames)

    -- a call that is begun
    abbrev comes_to : (n : ℕ) (b : TypedFunctionTree) (vs : List source-value.Value) (s : State) (turns : ℕ) → Evaluated
    comes_to n b vs s turns = on_entry (elim turns [ zero ↦ activations.NoTurn s | suc left2 ↦ activations.Goes (record s { turns = left2 }) ]) (λ t. forgotten (length s.memory) (handed_back (n == p.main)
        (at_close (source_here n) b.close (execute_all (source_calls n) (source_here n) b.body (record t { memory = bind (source_here n) (parameters_of b) vs t.memory })))))

    ready_now : Ready (activity_of p u f tree fn.graph fn.again fn.top first ws objects frames left) place began
    ready_now = record { statics = rdy.statics; above = rdy.above; frames = rdy.frames; sees = rdy.sees }

    keeps_call : (n : ℕ) (vs : List source-value.Value) (s : State) → Sound p began s → AreOf s.memory (taken_by p (called.Function n)) vs → Keeps p began s.memory (Of (given_by (results_of p.functions) (called.Function n))) (calls_of p (places_of_program p) (suc left) (record { function = f; place = place } ∷ frames) n vs s)
    keeps_call n vs s sound are = by_function (slice_get p.functions n) refl
      where
        by_turns : (b : TypedFunctionTree) → slice_get p.functions n ≡ Some b → FunctionIs p u n b → (turns : ℕ) → Keeps p began s.memory (Of b.result) (comes_to n b vs s turns)
        by_turns b is fb zero = tt
        by_turns b is fb (suc left2) =
            let k = begins_in left f tree is_f fn first ws objects frames place began n b fb 0 (any_waiting left f tree is_f fn first ws objects frames place began) [] left in
            let s1 : State = record s { turns = left2 } in
            let held = holding_within left f tree is_f fn first ws objects frames place began ready_now s sound n b fb 0 [] (any_waiting left f tree is_f fn first ws objects frames place began) left refl refl refl in
            let bound = fb.binds 0 (any_waiting left f tree is_f fn first ws objects frames place began ∷ ws) [] (record { function = f; place = place } ∷ frames) left vs s1
            (let now = sound_now p began s sound in record { typed = now.typed; differ = now.differ; declared = now.declared; single = now.single; bytes = now.bytes; since = now.since }) held are in
            let formed = fb.formed 0 (any_waiting left f tree is_f fn first ws objects frames place began ∷ ws) [] (record { function = f; place = place } ∷ frames) left (good n b is fb 0 (any_waiting left f tree is_f fn first ws objects frames place began) []) in
            let memory = bind (source_here n) (parameters_of b) vs s.memory in
            let low = b.first_variable + b.parameters in
            let high = behind_all low b.body in
            let le = all_above formed in
            let kept = statements_keep k formed (record s1 { memory = memory }) bound.sound bound.holding in
            handed_keeps k began s.memory sound.since high b.close (n == p.main) fb.main_is low (brought_by_body b.body) memory (execute_all (source_calls n) (source_here n) b.body (record s1 { memory = memory }))
            (grown_wider (depth_in k.setting) 0 0 high low s.memory memory (omega arith) le bound.grown) kept

        by_function : (o : Option TypedFunctionTree) → slice_get p.functions n ≡ o → Keeps p began s.memory (Of (given_by (results_of p.functions) (called.Function n))) (activate (source_calls n) (source_here n) o vs s)
        by_function None e = tt
        by_function (Some b) e = subst (λ t. Keeps p began s.memory (Of t) (comes_to n b vs s s.turns)) (sym (given_is n b e)) (by_turns b e (all_are n b e) s.turns)

    does_call : length ws + 1 + suc left ≡ 1024 → (n : ℕ) (target : Option ℕ) (args : List Operand) (vs : List source-value.Value) (ops : List Instruction) (end : End) (s : State) (l : Local) (w : World) → Sound p began s
        → Fits (placed (activity_of p u f tree fn.graph fn.again fn.top first ws objects frames (suc left)) place began) None s l w → AreOf s.memory (taken_by p (called.Function n)) vs → SameValues p s.memory w.memory vs (map (value u.statics l.names) args)
        → BackR (placed (activity_of p u f tree fn.graph fn.again fn.top first ws objects frames (suc left)) place began) target n args ops end l w (calls_of p (places_of_program p) (suc left) (record { function = f; place = place } ∷ frames) n vs s)
    does_call count n target args vs ops end s l w sound fits are same = by_function (slice_get p.functions n) refl
      where
        by_turns : (b : TypedFunctionTree) → slice_get p.functions n ≡ Some b → FunctionIs p u n b → (turns : ℕ) → BackR (placed (activity_of p u f tree fn.graph fn.again fn.top first ws objects frames (suc left)) place began) target n args ops end l w (comes_to n b vs s turns)
        by_turns b is fb zero =
            let x = placed (activity_of p u f tree fn.graph fn.again fn.top first ws objects frames (suc left)) place began in
            record { configuration = at x (unit.Call target (unit-called.Function n) args ∷ ops) end l w; seen = w.seen; leads = stays; ends = fits.events }
        by_turns b is fb (suc left2) =
            let x = placed (activity_of p u f tree fn.graph fn.again fn.top first ws objects frames (suc left)) place began in
            let a = here_at x ops end (waiting l target) in
            let k = begins_in left f tree is_f fn first ws objects frames place began n b fb (length w.memory) a w.memory left in
            let s1 : State = record s { turns = left2 } in
            let held = holding_within left f tree is_f fn first ws objects frames place began ready_now s sound n b fb (length w.memory) w.memory a left refl refl refl in
            let now : Sound p s.memory s1 = (let z = sound_now p began s sound in record { typed = z.typed; differ = z.differ; declared = z.declared; single = z.single; bytes = z.bytes; since = z.since }) in
            let fits1 : Fits x None s1 l w = record { own = fits.own; outer = fits.outer; placed = fits.placed; differ = fits.differ; above = fits.above; later = fits.later; statics = fits.statics; input = fits.input; events = fits.events } in
            let bound = fb.binds (length w.memory) (a ∷ ws) w.memory (record { function = f; place = place } ∷ frames) left vs s1 now held are in
            let deep : length ws + 1 + 1 + left ≡ 1024 = omega (arith, count) in
            let entered = fb.enters x refl refl is_f target args ops end l w s1 vs (record { function = f; place = place } ∷ frames) left deep now fits1 are same held in
            let formed = fb.formed (length w.memory) (a ∷ ws) w.memory (record { function = f; place = place } ∷ frames) left (good n b is fb (length w.memory) a w.memory) in
            let lawful = fb.lawful (length w.memory) (a ∷ ws) w.memory (record { function = f; place = place } ∷ frames) left in
            let memory = bind (source_here n) (parameters_of b) vs s.memory in
            let low = b.first_variable + b.parameters in
            let high = behind_all low b.body in
            let le = all_above formed in
            let scope = parameters_of b ++ brought_by_body b.body in
            let c = at x (unit.Call target (unit-called.Function n) args ∷ ops) end l w in
            let o = execute_all (source_calls n) (source_here n) b.body (record s1 { memory = memory }) in
            let runs = statements_go k lawful formed c w.seen entered.place entered.local entered.world (record s1 { memory = memory }) entered.comes bound.sound entered.fits bound.holding in
            let final = body_final k lawful b.close (n == p.main) scope low high le fb.main_is (reaches_end b.body) c w.seen (brought_by_body b.body) memory o
            (fb.closes (length w.memory) (a ∷ ws) w.memory (record { function = f; place = place } ∷ frames) left) (λ e s2 h. fb.never e (source_calls n) (source_here n) (record s1 { memory = memory }) s2 h)
            (λ s2 r.
            (let h2 = holding_grown k (parameters_of b) low high memory s2.memory le bound.holding r.grown in
            record { statics = h2.statics; under = h2.under; scoped = all_both s2.memory (depth_in k.setting) (parameters_of b) (brought_by_body b.body) h2.scoped r.brings; frames = h2.frames })) runs in
            back_final x n b fb.graph fb.again fb.top (record { function = f; place = place } ∷ frames) left target args ops end l w s fits is_f high (handed_back (n == p.main) (at_close (source_here n) b.close o))
            (final_before k c w.seen low high s.memory memory (handed_back (n == p.main) (at_close (source_here n) b.close o)) (grown_wider (depth_in k.setting) 0 0 high low s.memory memory (omega arith) le bound.grown) final)

        by_function : (o : Option TypedFunctionTree) → slice_get p.functions n ≡ o
            → BackR (placed (activity_of p u f tree fn.graph fn.again fn.top first ws objects frames (suc left)) place began) target n args ops end l w (activate (source_calls n) (source_here n) o vs s)
        by_function None e = stuck_now (placed (activity_of p u f tree fn.graph fn.again fn.top first ws objects frames (suc left)) place began) None (unit.Call target (unit-called.Function n) args ∷ ops) end s l w fits
        by_function (Some b) e = by_turns b e (all_are n b e) s.turns

    -- a function that gives nothing
    gives_nothing : (n : ℕ) → is_void (given_by (results_of p.functions) (called.Function n)) ≡ true → (vs : List source-value.Value) (s : State) (v : source-value.Value) (s2 : State) → calls_of p (places_of_program p) (suc left) (record { function = f; place = place } ∷ frames) n vs s ≡ Gives v s2 → ⊥
    gives_nothing n void vs s v s2 e = by_function (slice_get p.functions n) refl e
      where
        void_zero : (t : ValueType) → is_void t ≡ true → IsOf [] t (source.Number (pos 0)) → ⊥
        void_zero Void void is = is
        void_zero (Integer i) void is = cc
        void_zero (Pointer of) void is = cc

        at_end : (b : TypedFunctionTree) → is_void b.result ≡ true → FunctionIs p u n b → (s3 : State) (turns m : ℕ)
            → forgotten m (handed_back (n == p.main) (on_begun (elim turns [ zero ↦ activations.NoTurn s3 | suc left2 ↦ activations.Goes (stopped (source_here n) b.close.at (record s3 { turns = left2 })) ]) Next)) ≡ Gives v s2 → ⊥
        at_end b void fb s3 zero m e = cc
        at_end b void fb s3 (suc left2) m e = by (n == p.main) fb.main_is e
          where
            by : (main : Bool) → (main ≡ true → (memory : SourceMemory) → IsOf memory b.result (source.Number (pos 0)))
                → forgotten m (if main then Gives (source.Number (pos 0)) (stopped (source_here n) b.close.at (record s3 { turns = left2 })) else Leaves (stopped (source_here n) b.close.at (record s3 { turns = left2 }))) ≡ Gives v s2 → ⊥
            by true is e = void_zero b.result void (is refl [])
            by false is e = cc

        by_outcome : (b : TypedFunctionTree) → is_void b.result ≡ true → FunctionIs p u n b → (t : State) (o : Outcome) → execute_all (source_calls n) (source_here n) b.body t ≡ o → (m : ℕ) → forgotten m (handed_back (n == p.main) (at_close (source_here n) b.close o)) ≡ Gives v s2 → ⊥
        by_outcome b void fb t (Next s3) is m e = at_end b void fb s3 s3.turns m e
        by_outcome b void fb t (Broken s3) is m e = cc
        by_outcome b void fb t (Continued s3) is m e = cc
        by_outcome b void fb t (Returned None s3) is m e = cc
        by_outcome b void fb t (Returned (Some r) s3) is m e = fb.nothing void (source_calls n) (source_here n) t s3 r is
        by_outcome b void fb t (Ended c s3) is m e = cc

        by_turns : (b : TypedFunctionTree) → is_void b.result ≡ true → FunctionIs p u n b → (turns : ℕ) → comes_to n b vs s turns ≡ Gives v s2 → ⊥
        by_turns b void fb zero e = cc
        by_turns b void fb (suc left2) e =
            let t : State = record s { turns = left2; memory = bind (source_here n) (parameters_of b) vs s.memory } in by_outcome b void fb t (execute_all (source_calls n) (source_here n) b.body t) refl (length s.memory) e

        by_function : (o : Option TypedFunctionTree) → slice_get p.functions n ≡ o → activate (source_calls n) (source_here n) o vs s ≡ Gives v s2 → ⊥
        by_function None is e = cc
        by_function (Some b) is e = by_turns b (ap is_void (sym (given_is n b is)) ∙ void) (all_are n b is) s.turns e

  -- the last activation that may begin calls none
  too_deep : (f : ℕ) (tree : TypedFunctionTree) (fn : FunctionIs p u f tree) (first : ℕ) (ws : List Activation) (objects : Memory) (frames : List Frame) (place : ℕ) (began : SourceMemory) → length ws + 1 + 0 ≡ 1024 → (n : ℕ) (target : Option ℕ) (args : List Operand) (vs : List source-value.Value) (ops : List Instruction) (end : End)
      (s : State) (l : Local) (w : World) → Fits (placed (activity_of p u f tree fn.graph fn.again fn.top first ws objects frames 0) place began) None s l w → SameValues p s.memory w.memory vs (map (value u.statics l.names) args)
      → Stuck (placed (activity_of p u f tree fn.graph fn.again fn.top first ws objects frames 0) place began) (unit.Call target (unit-called.Function n) args ∷ ops) end l w ending.Depth s
  too_deep f tree fn first ws objects frames place began count n target args vs ops end s l w fits same =
      let x = placed (activity_of p u f tree fn.graph fn.again fn.top first ws objects frames 0) place began in
      let full : (length ws + 1 == 1024) ≡ true = is_full (length ws) count in
      record {
        configuration = at x (unit.Call target (unit-called.Function n) args ∷ ops) end l w;
        seen = w.seen;
        leads = stays;
        ends = (
          fits.events,
          call_step x (unit-called.Function n) target args ops end l w (none_odd p s.memory w.memory vs (map (value u.statics l.names) args) same)
              ∙ ap (λ b. if b then StepEnds TooDeep else goes_if (enter u w.memory w.input n (map (value u.statics l.names) args) (record (at x ops end l w).here { wants = target } ∷ ws))) full,
        );
      }
    where
      is_full : (n : ℕ) → n + 1 + 0 ≡ 1024 → (n + 1 == 1024) ≡ true
      is_full n e = let same : n + 1 ≡ 1024 = omega (arith, e) in ap (λ k. k == 1024) same

  -- one more activation
  calls_next : (left f : ℕ) (tree : TypedFunctionTree) (is_f : slice_get p.functions f ≡ Some tree) (fn : FunctionIs p u f tree) (first : ℕ) (ws : List Activation) (objects : Memory) (frames : List Frame) (place : ℕ) (began : SourceMemory) (rdy : Ready (activity_of p u f tree fn.graph fn.again fn.top first ws objects frames (suc left)) place began)
      → ((n : ℕ) (b : TypedFunctionTree) → slice_get p.functions n ≡ Some b → (fb : FunctionIs p u n b) (first2 : ℕ) (a : Activation) (objects2 : Memory) → CallsGood (activity_of p u n b fb.graph fb.again fb.top first2 (a ∷ ws) objects2 (record { function = f; place = place } ∷ frames) left))
      → length ws + 1 + suc left ≡ 1024 → CallsAre (placed (activity_of p u f tree fn.graph fn.again fn.top first ws objects frames (suc left)) place began) (calls_of p (places_of_program p) (suc left) (record { function = f; place = place } ∷ frames))
  calls_next left f tree is_f fn first ws objects frames place began rdy below count = record {
    keeps = λ n there vs s sound are. keeps_call left f tree is_f fn first ws objects frames place began rdy below n vs s sound are;
    does = λ n there target args vs ops end s l w sound fits are same. does_call left f tree is_f fn first ws objects frames place began rdy below count n target args vs ops end s l w sound fits are same;
    nothing = λ n void vs s v s2 e. gives_nothing left f tree is_f fn first ws objects frames place began rdy below n void vs s v s2 e;
  }

  -- Calls keep what runs keep and do what they mean.
  pub calls_good : (left f : ℕ) (tree : TypedFunctionTree) → slice_get p.functions f ≡ Some tree → (fn : FunctionIs p u f tree) (first : ℕ) (ws : List Activation) (objects : Memory) (frames : List Frame) → length ws + 1 + left ≡ 1024
      → CallsGood (activity_of p u f tree fn.graph fn.again fn.top first ws objects frames left)
  calls_good zero f tree is_f fn first ws objects frames count place began rdy = record {
    keeps = λ n there vs s sound are. tt;
    does = λ n there target args vs ops end s l w sound fits are same. too_deep f tree fn first ws objects frames place began count n target args vs ops end s l w fits same;
    nothing = λ n void vs s v s2 e. cc;
  }
  calls_good (suc left) f tree is_f fn first ws objects frames count place began rdy =
      calls_next left f tree is_f fn first ws objects frames place began rdy (λ n b is fb first2 a objects2. calls_good left n b is fb first2 (a ∷ ws) objects2 (record { function = f; place = place } ∷ frames) (omega (arith, count))) count
