-- The unit's run shows what the program's does, where the program's functions are as they should be.
use Rattle.std.proofs.Common.{◌≡◌, ℤ, ℕ, zero, suc, ◌+◌, List, [], ◌∷◌, ◌++◌, length, Option, Some, None, Bool, slice_get, refl, sym, ap, ◌∙◌, subst, arith}
use Rattle.std.specs.Prelude.{◌==◌}
use Rattle.std.proofs.lemmas.List.{append-nil, append_assoc}
use Rattle.c_tree.specs.declared.types.IntegerType.TheVariants.{Int}
use Rattle.c_tree.specs.declared.object_type.ValueType.TheVariants.{Integer}
use Rattle.c_tree.specs.Programs.{TypedFunctionTree, ProgramTree}
use Rattle.c_places.specs.Flow.{reaches_end}
use Rattle.c_places.specs.Places.{places_of_program, parameters_of, brought_by_body}
use Rattle.c_meaning_values.specs.declared.value.Value.TheVariants as source
use Rattle.c_meaning_values.specs.Memory.{Memory as SourceMemory}
use Rattle.c_meaning_steps.specs.declared.event.Ending.TheVariants as ending
use Rattle.c_meaning_steps.specs.States.{State, Evaluated, Gives, Leaves, Ends}
use Rattle.c_meaning_steps.specs.States as source-event
use Rattle.c_meaning.specs.Activations as activations
use Rattle.c_meaning.specs.Calls.{bind, on_entry, handed_back, at_close, forgotten}
use Rattle.c_meaning.specs.StaticStorage.{first_memory}
use Rattle.c_meaning.specs.Statements.{execute_all}
use Rattle.c_meaning.specs.Runs.{activate, calls_of, finished}
use Rattle.graph_core.specs.Graphs.{Graph, UnitForm, Return}
use Rattle.graph_core.specs.Memory.{Memory, first_memory as unit_memory}
use Rattle.graph_core.specs.Runs.{Configuration, Event, Exited, TooDeep, Ends as StepEnds, step, run, run_some, enter, unit_run, events_after, exited}
use Rattle.graph_build_names.specs.Conversions.{unsigned_bits}
use Rattle.event_runs.specs.Agreement.{Pairs}
use Rattle.event_runs.specs.Following.{Reached}
use Rattle.graph_build_runs.specs.Typed.{IsOf}
use Rattle.graph_build_runs.specs.Stops.{IsStatus}
use Rattle.graph_build_runs.specs.Correspondence.{SameEvent, SameValue, AreBytes, DoesProgram}
use Rattle.graph_build_runs.specs.Correspondence as event
use Rattle.graph_build_runs.proofs.Leads.{depth_in, Leads, stays, goes, shows}
use Rattle.graph_build_runs.proofs.Later.{some_same}
use Rattle.graph_build_runs.proofs.Activities.{Activity, here_in, before_in}
use Rattle.graph_build_runs.proofs.Living.{all_both}
use Rattle.graph_build_runs.proofs.Outcomes.{holding_grown}
use Rattle.graph_build_runs.proofs.Stops.{pairs_more}
use Rattle.graph_build_runs.proofs.Formed.{behind_all}
use Rattle.graph_build_runs.proofs.Statements.{all_above, statements_go}
use Rattle.graph_build_runs.proofs.Closing.{Final, body_final}
use Rattle.graph_build_runs.proofs.Calls.{activity_of, Entered, Bound, FunctionIs, FunctionsAre}
use Rattle.graph_build_runs.proofs.Recursion.{calls_good}

-- What is shown on the way, in so many steps.
record Ran (u : UnitForm) (c d : Configuration) (es fs : List Event) : Type 0 where
  pub steps : ℕ
  pub shown : List Event
  pub is : fs ≡ es ++ shown
  pub runs : (m k : ℕ) → k ≡ steps + m → run u k c ≡ shown ++ run u m d

ran : (u : UnitForm) (c d : Configuration) (es fs : List Event) → Leads u c es d fs → Ran u c d es fs
ran u c d es fs stays = record { steps = 0; shown = []; is = sym (append-nil es); runs = λ m k e. (let same : k ≡ m = omega (arith, e) in ap (λ n. run u n c) same) }
ran u c d es fs (goes {d = b} s p) =
    let r = ran u b d es fs p in
    record {
      steps = suc r.steps;
      shown = r.shown;
      is = r.is;
      runs = λ m k e. (let same : k ≡ suc (r.steps + m) = omega (arith, e) in ap (λ n. run u n c) same ∙ ap (λ z. events_after z (run u (r.steps + m))) s ∙ r.runs m (r.steps + m) refl);
    }
ran u c d es fs (shows {d = b} {e = e} s p) =
    let r = ran u b d (es ++ e ∷ []) fs p in
    record {
      steps = suc r.steps;
      shown = e ∷ r.shown;
      is = r.is ∙ append_assoc es (e ∷ []) r.shown;
      runs = λ m k q. (let same : k ≡ suc (r.steps + m) = omega (arith, q) in ap (λ n. run u n c) same ∙ ap (λ z. events_after z (run u (r.steps + m))) s ∙ ap (λ xs. e ∷ xs) (r.runs m (r.steps + m) refl));
    }

module _ (p : ProgramTree) (u : UnitForm) (c : Configuration) where
  -- the run has shown what the program's has
  reached_so : (es : List source-event.Event) (d : Configuration) (seen : List Event) → Leads u c [] d seen → Pairs (SameEvent p u) es seen → Reached (SameEvent p u) es (λ n. run u n c)
  reached_so es d seen leads pairs =
      let r = ran u c d [] seen leads in
      let none : r.steps ≡ r.steps + 0 = omega arith in
      record { steps = r.steps; shown = seen; more = run u 0 d; is = r.runs 0 r.steps none ∙ ap (λ xs. xs ++ run u 0 d) (sym r.is); same = pairs }

  -- and ends with an event of its own
  reached_end : (es : List source-event.Event) (d : Configuration) (seen : List Event) (e : source-event.Event) (f : Event) → Leads u c [] d seen → Pairs (SameEvent p u) es seen → step u d ≡ StepEnds f → SameEvent p u e f → Reached (SameEvent p u) (es ++ e ∷ []) (λ n. run u n c)
  reached_end es d seen e f leads pairs ends same =
      let r = ran u c d [] seen leads in
      record {
        steps = r.steps + 1;
        shown = seen ++ f ∷ [];
        more = [];
        is = r.runs 1 (r.steps + 1) refl ∙ ap (λ z. r.shown ++ events_after z (run u 0)) ends ∙ ap (λ xs. xs ++ f ∷ []) (sym r.is) ∙ sym (append-nil (seen ++ f ∷ []));
        same = pairs_more (SameEvent p u) es seen e f pairs same;
      }

-- `main` returns to no activation: the program ends.
module _ (p : ProgramTree) (u : UnitForm) (f : ℕ) (tree : TypedFunctionTree) (g : Graph) (again : Bool) (top first : ℕ) (objects : Memory) (left : ℕ) (c : Configuration) (low high : ℕ) (before : SourceMemory) (gives : tree.result ≡ Integer Int) where
  abbrev main_in : Activity
  main_in = activity_of p u f tree g again top first [] objects [] left

  -- a value that is an int
  status : (memory : SourceMemory) (z : ℤ) → IsOf memory (Integer Int) (source.Number z) → IsStatus z
  status memory z h = h

  shown_final : (n : ℕ) (r : Evaluated) → Final main_in c [] low high before r → Reached (SameEvent p u) (finished (forgotten n r)).events (λ m. run u m c)
  shown_final n (Gives (source.Number z) s) h =
      let o = h.hands.0 in
      let leads = subst (λ a. Leads u c [] (before_in main_in h.place [] (Return a) h.local h.world) h.world.seen) h.hands.1 h.leads in
      reached_end p u c s.events (before_in main_in h.place [] (Return (Some o)) h.local h.world) h.world.seen (source-event.Exited z) (Exited (unsigned_bits z)) leads h.fits.events (ap exited h.hands.2) (event.exited (status s.memory z (subst (λ t. IsOf s.memory t (source.Number z)) gives h.hands.3)))
  shown_final n (Gives source.Null s) h = reached_so p u c s.events (before_in main_in h.place [] (Return h.operand) h.local h.world) h.world.seen h.leads h.fits.events
  shown_final n (Gives (source.Pointer m offset) s) h = reached_so p u c s.events (before_in main_in h.place [] (Return h.operand) h.local h.world) h.world.seen h.leads h.fits.events
  shown_final n (Leaves s) h = reached_so p u c s.events (before_in main_in h.place [] (Return h.operand) h.local h.world) h.world.seen h.leads h.fits.events
  shown_final n (Ends ending.Undefined s) h = reached_so p u c s.events h.configuration h.seen h.leads h.ends
  shown_final n (Ends ending.Turns s) h = reached_so p u c s.events h.configuration h.seen h.leads h.ends
  shown_final n (Ends (ending.Exit z) s) h = reached_end p u c s.events h.configuration h.seen (source-event.Exited z) (Exited (unsigned_bits z)) h.leads h.ends.0 h.ends.1 (event.exited h.ends.2)
  shown_final n (Ends ending.Depth s) h = reached_end p u c s.events h.configuration h.seen source-event.TooDeep TooDeep h.leads h.ends.0 h.ends.1 event.deep

module _ (p : ProgramTree) (u : UnitForm) where
  -- the state in which a run begins, behind its first turn
  abbrev pub begun_with : (input : List ℕ) (turns : ℕ) → State
  begun_with input turns = record { memory = first_memory p; input = input; events = []; turns = turns }

  -- A program's `main` is there, gives an int, and both runs come to its body.
  pub record MainIs : Type 0 where
    pub tree : TypedFunctionTree
    pub is : slice_get p.functions p.main ≡ Some tree
    pub gives : tree.result ≡ Integer Int
    pub function : FunctionIs p u p.main tree
    pub first : ℕ
    pub begins : (input : List ℕ) → (c : Configuration) × (enter u (unit_memory u.statics) input u.main [] [] ≡ Some c)
    pub entered : (input : List ℕ) → AreBytes input → (turns : ℕ)
        → Entered p u (activity_of p u p.main tree function.graph function.again function.top first [] (unit_memory u.statics) [] 1023) tree (begins input).0 [] (first_memory p)
        (record (begun_with input turns) { memory = bind (here_in (activity_of p u p.main tree function.graph function.again function.top first [] (unit_memory u.statics) [] 1023)) (parameters_of tree) [] (first_memory p) })
    pub bound : (input : List ℕ) → AreBytes input → (turns : ℕ)
        → Bound p u (activity_of p u p.main tree function.graph function.again function.top first [] (unit_memory u.statics) [] 1023) tree (first_memory p)
        (record (begun_with input turns) { memory = bind (here_in (activity_of p u p.main tree function.graph function.again function.top first [] (unit_memory u.statics) [] 1023)) (parameters_of tree) [] (first_memory p) })

  -- The unit does what the program does, as far as C defines it.
  pub program_does : FunctionsAre p u → MainIs → DoesProgram p u
  program_does all_are main input bytes turns = by_function (slice_get p.functions p.main) main.is
    where
      started : (r : Evaluated) → Reached (SameEvent p u) (finished r).events (λ m. run u m (main.begins input).0) → Reached (SameEvent p u) (finished r).events (unit_run u input)
      started r h = record { steps = h.steps; shown = h.shown; more = h.more; is = ap (run_some u h.steps) (main.begins input).1 ∙ h.is; same = h.same }

      by_turns : (left : ℕ) → Reached (SameEvent p u)
          (finished (on_entry (elim left [ zero ↦ activations.NoTurn (begun_with input turns) | suc left2 ↦ activations.Goes (begun_with input left2) ])
          (λ t. forgotten (length (first_memory p)) (handed_back (p.main == p.main) (at_close (record { program = p; places = places_of_program p; function = p.main; waiting = [] }) main.tree.close
          (execute_all (λ place. calls_of p (places_of_program p) 1023 (record { function = p.main; place = place } ∷ [])) (record { program = p; places = places_of_program p; function = p.main; waiting = [] }) main.tree.body
          (record t { memory = bind (record { program = p; places = places_of_program p; function = p.main; waiting = [] }) (parameters_of main.tree) [] t.memory }))))))).events (unit_run u input)
      by_turns zero = started (Ends ending.Turns (begun_with input turns)) (record { steps = 0; shown = []; more = []; is = refl; same = tt })
      by_turns (suc left2) =
          let tree = main.tree in
          let fn = main.function in
          let k = activity_of p u p.main tree fn.graph fn.again fn.top main.first [] (unit_memory u.statics) [] 1023 in
          let bound = main.bound input bytes left2 in
          let entered = main.entered input bytes left2 in
          let count : 0 + 1 + 1023 ≡ 1024 = refl in
          let formed = fn.formed main.first [] (unit_memory u.statics) [] 1023 (calls_good p u all_are 1023 p.main tree main.is fn main.first [] (unit_memory u.statics) [] count) in
          let lawful = fn.lawful main.first [] (unit_memory u.statics) [] 1023 in
          let memory = bind (here_in k) (parameters_of tree) [] (first_memory p) in
          let s1 : State = record (begun_with input left2) { memory = memory } in
          let low = tree.first_variable + tree.parameters in
          let high = behind_all low tree.body in
          let le = all_above formed in
          let c = (main.begins input).0 in
          let o = execute_all k.calls (here_in k) tree.body s1 in
          let runs = statements_go k lawful formed c [] entered.place entered.local entered.world s1 entered.comes bound.sound entered.fits bound.holding in
          let final = body_final k lawful tree.close (p.main == p.main) (parameters_of tree ++ brought_by_body tree.body) low high le fn.main_is (reaches_end tree.body) c [] (brought_by_body tree.body) memory o
          (fn.closes main.first [] (unit_memory u.statics) [] 1023) (λ e s2 h. fn.never e k.calls (here_in k) s1 s2 h)
          (λ s2 r.
          (let h2 = holding_grown k (parameters_of tree) low high memory s2.memory le bound.holding r.grown in
          record { statics = h2.statics; under = h2.under; scoped = all_both s2.memory (depth_in k.setting) (parameters_of tree) (brought_by_body tree.body) h2.scoped r.brings; frames = h2.frames })) runs in
          let r = handed_back (p.main == p.main) (at_close (here_in k) tree.close o) in
          started (forgotten (length (first_memory p)) r)
          (shown_final p u p.main tree fn.graph fn.again fn.top main.first (unit_memory u.statics) 1023 c low high memory main.gives (length (first_memory p)) r final)

      by_function : (found : Option TypedFunctionTree) → found ≡ Some main.tree
          → Reached (SameEvent p u) (finished (activate (λ place. calls_of p (places_of_program p) 1023 (record { function = p.main; place = place } ∷ [])) (record { program = p; places = places_of_program p; function = p.main; waiting = [] }) found [] (begun_with input turns))).events (unit_run u input)
      by_function None e = cc
      by_function (Some b) e =
          subst (λ q. Reached (SameEvent p u) (finished (activate (λ place. calls_of p (places_of_program p) 1023 (record { function = p.main; place = place } ∷ [])) (record { program = p; places = places_of_program p; function = p.main; waiting = [] }) (Some q) [] (begun_with input turns))).events (unit_run u input))
          (some_same (sym e)) (by_turns turns)
