-- Where a place begins, both runs stop alike.
use Rattle.std.proofs.Common.{◌≡◌, ◌≢◌, ℕ, zero, suc, ◌+◌, ◌-◌, ◌<◌, ◌≤◌, List, [], ◌∷◌, ◌++◌, length, map, Some, None, Bool, false, slice_get, refl, sym, ap, ◌∙◌, subst, arith}
use Rattle.std.specs.Prelude.{◌==◌, if◌then◌else◌}
use Rattle.std.proofs.lemmas.Option.{slice_get_within}
use Rattle.debug_records.specs.declared.source.Spot.{Spot}
use Rattle.word_base.specs.Owners.{Variable}
use Rattle.c_tree.specs.Programs.{TypedFunctionTree, ProgramTree}
use Rattle.c_places.specs.Places.{Place, places_of_program, scope_at, visible}
use Rattle.c_meaning_values.specs.declared.value.Phase.TheVariants.{Live, Ended}
use Rattle.c_meaning_values.specs.Memory.{Object as SourceObject, Memory as SourceMemory}
use Rattle.c_meaning_steps.specs.declared.event.Frame.{Frame}
use Rattle.c_meaning_steps.specs.States.{State, Outcome}
use Rattle.c_meaning_steps.specs.States as source-event
use Rattle.c_meaning.specs.Activations.{depth_of, frames_at, shown, shown_at, stopped, on_begun}
use Rattle.c_meaning.specs.Activations as activations
use Rattle.c_flow.specs.declared.edge.Ways.{Ways}
use Rattle.graph_core.specs.declared.value.Shadow.{Shadow}
use Rattle.graph_core.specs.Graphs.{Scalar, Graph, UnitForm, Marker, Block}
use Rattle.graph_core.specs.Memory.{Memory}
use Rattle.graph_core.specs.Runs.{Activation, Configuration, Event, Stop, Goes, Shows, step, frame, numbers_from}
use Rattle.graph_build_names.specs.Names.{names_of, scalar_of}
use Rattle.graph_build_steps.specs.Drafts.{Made}
use Rattle.graph_build_statements.specs.Coding.{block_of}
use Rattle.event_runs.specs.Agreement.{Pairs}
use Rattle.graph_build_runs.specs.Stops.{AreDeclared, StaticsLive, IsStopOf}
use Rattle.graph_build_runs.specs.Correspondence.{variable_of, SameMemory, ShadowIs, SameFrame, SameFrames, SameEvent, stop}
use Rattle.graph_build_runs.proofs.Leads.{names_in, depth_in, Local, World, Leads, stays, shows, then_leads, in_block}
use Rattle.graph_build_runs.proofs.Later.{some_same}
use Rattle.graph_build_runs.proofs.Kept.{Sound, ScalarsFirst, Own, Outer, ArePlaced, Fits}
use Rattle.graph_build_runs.proofs.Noting.{ScalarsApart}
use Rattle.graph_build_runs.proofs.Activities.{Activity, coding_in, here_in, place_at, before_in}
use Rattle.graph_build_runs.proofs.Living.{AllLive, all_front, visible_lives, Sees, FrameIs, FramesAre, frames_length}
use Rattle.graph_build_runs.proofs.Outcomes.{Runs, Holding, GoesOn}

-- The scalars of each graph are named as its function's variables are.
abbrev pub NamesScalars : ProgramTree → UnitForm → Type 0
NamesScalars p u = (f : ℕ) (tree : TypedFunctionTree) (g : Graph) → slice_get p.functions f ≡ Some tree → slice_get u.graphs f ≡ Some g
    → (j v : ℕ) (s : Scalar) → slice_get g.scalars j ≡ Some s → s.variable ≡ variable_of p v → scalar_of (names_of p tree false) v ≡ Some j

-- What holds of an activation all the time: its scalars are its first names, apart from others and named as its function's variables are, and its graph is its function's.
pub record Lawful (k : Activity) : Type 0 where
  pub low : ScalarsFirst k.setting
  pub apart : ScalarsApart k.setting
  pub tree_is : slice_get k.setting.program.functions k.setting.function ≡ Some k.setting.tree
  pub graph_is : slice_get k.setting.unit.graphs k.setting.function ≡ Some k.setting.graph
  pub named : NamesScalars k.setting.program k.setting.unit

-- A place of a program stands at a position, with a number, and is no entry.
pub record StandsThere (p : ProgramTree) (number at : ℕ) : Type 0 where
  pub place : Place
  pub is : slice_get (places_of_program p) (number - 1) ≡ Some place
  pub stops : place.is_entry ≡ false
  pub scope : scope_at (places_of_program p) at ≡ place.scope

-- A position is that of a place that is no entry, where no other variables than these are in scope.
pub record PlaceIs (k : Activity) (scope : List ℕ) (at : ℕ) : Type 0 where
  pub there : StandsThere k.setting.program (place_at k at) at
  pub stops : place_at k at == k.setting.graph.entry ≡ false
  pub covers : (q : Place) → slice_get (places_of_program k.setting.program) (place_at k at - 1) ≡ Some q → (memory : SourceMemory) → AllLive memory (depth_in k.setting) scope → AllLive memory (depth_in k.setting) q.scope

-- more variables may live
pub place_wider : (k : Activity) (scope more : List ℕ) (at : ℕ) → PlaceIs k scope at → PlaceIs k (scope ++ more) at
place_wider k scope more at here = record { there = here.there; stops = here.stops; covers = λ q is memory h. here.covers q is memory (all_front memory (depth_in k.setting) scope more h) }

-- What holds where the code of a place begins: no object is deeper than the activation, what is visible lives, here and where others wait, and so do static variables.
pub record Ready (k : Activity) (place : ℕ) (memory : SourceMemory) : Type 0 where
  pub statics : StaticsLive k.setting.program memory
  pub above : (n : ℕ) (o : SourceObject) (v d : ℕ) → slice_get memory n ≡ Some o → o.phase ≢ Ended → o.owner ≡ Variable v d → d ≤ depth_in k.setting
  pub frames : FramesAre k.setting.program k.setting.unit memory k.frames k.setting.waiting
  pub sees : Sees k.setting.program memory (depth_in k.setting) place

pub ready : (k : Activity) (scope : List ℕ) (low at : ℕ) (memory : SourceMemory) → PlaceIs k scope at → Holding k scope low memory → Ready k (place_at k at) memory
ready k scope low at memory here h = record {
  statics = h.statics;
  above = λ n o v d is alive owner. (h.under n o v d is alive owner).0;
  frames = h.frames;
  sees = λ q is j v vis. visible_lives memory (depth_in k.setting) k.setting.program.automatics q.scope j v vis (here.covers q is memory h.scoped);
}

pub pairs_more : {A B : Type 0} (R : A → B → Type 0) (xs : List A) (ys : List B) (a : A) (b : B) → Pairs R xs ys → R a b → Pairs R (xs ++ a ∷ []) (ys ++ b ∷ [])
pairs_more R [] [] a b h r = (r, tt)
pairs_more R [] (y ∷ ys) a b h r = absurd h
pairs_more R (x ∷ xs) [] a b h r = absurd h
pairs_more R (x ∷ xs) (y ∷ ys) a b h r = (h.0, pairs_more R xs ys a b h.1 r)

-- a shadow as a stop shows it
shadow_shown : (shadows : ℕ → Shadow) (from count j : ℕ) → j < count → slice_get (map shadows (numbers_from from count)) j ≡ Some (shadows (from + j))
shadow_shown shadows from zero j lt = absurd (omega (arith, lt))
shadow_shown shadows from (suc count) zero lt = let e : from ≡ from + 0 = omega arith in ap (λ n. Some (shadows n)) e
shadow_shown shadows from (suc count) (suc j) lt = let e : from + 1 + j ≡ from + suc j = omega arith in shadow_shown shadows (from + 1) count j (omega (arith, lt)) ∙ ap (λ n. Some (shadows n)) e

module _ (p : ProgramTree) (u : UnitForm) (named : NamesScalars p u) (memory : SourceMemory) (others : Memory) where
  -- an activation as both stops show it
  frame_same : (depth : ℕ) (a : Frame) (b : Activation) (tree : TypedFunctionTree) (again : Bool) → slice_get p.functions a.function ≡ Some tree → Own p (names_of p tree again) None memory others depth b.first_object b.names b.shadows → FrameIs p u memory depth a b
      → SameFrame p memory others u depth a (frame b)
  frame_same depth a b tree again is own h = record {
    function = h.function;
    place = h.place;
    seen = λ g q v is_g is_q j vis. (let live = h.sees q is_q j v vis in
        record {
          number = live.number;
          object = live.object;
          is = live.is;
          owner = live.owner;
          lives = live.lives;
          shadow = λ i sc at is_v. shadow_of g v is_g live.number live.object live.is live.owner live.lives i sc at is_v;
        });
  }
    where
      shadow_of : (g : Graph) (v : ℕ) → slice_get u.graphs a.function ≡ Some g → (n : ℕ) (o : SourceObject) → slice_get memory n ≡ Some o → o.owner ≡ Variable v depth → o.phase ≡ Live → (i : ℕ) (sc : Scalar) → slice_get g.scalars i ≡ Some sc → sc.variable ≡ variable_of p v
          → ShadowIs p memory others o i (frame b)
      shadow_of g v is_g n o found owner lives i sc at is_v =
          let c = own.scalars v i n o (named a.function tree g is is_g i v sc at is_v) found owner lives in
          let same : g ≡ b.graph = some_same (sym is_g ∙ h.graph) in
          let lt : i < length b.graph.scalars = subst (λ z. i < length z.scalars) same (slice_get_within g.scalars i sc at) in
          let e : 0 + i ≡ i = omega arith in
          record { value = c.value; other = c.word; holds = c.holds; known = shadow_shown b.shadows 0 (length b.graph.scalars) i lt ∙ ap (λ z. Some (b.shadows z)) e ∙ ap Some c.known; same = c.same }

  -- those that wait
  frames_same : (xs : List Frame) (ys : List Activation) → FramesAre p u memory xs ys → Outer p memory others ys → SameFrames p memory others u xs (map frame ys)
  frames_same [] [] h outer = tt
  frames_same [] (y ∷ ys) h outer = absurd h
  frames_same (x ∷ xs) [] h outer = absurd h
  frames_same (x ∷ xs) (y ∷ ys) h outer =
      let c = outer.0 in
      let e : length ys + 1 ≡ length xs + 1 = ap (λ n. n + 1) (sym (frames_length p u memory xs ys h.1)) in (
        frame_same (length xs + 1) x y c.tree false (subst (λ f. slice_get p.functions f ≡ Some c.tree) h.0.function c.is) (subst (λ d. Own p (names_of p c.tree false) None memory others d y.first_object y.names y.shadows) e c.own) h.0,
        frames_same xs ys h.1 outer.1,
      )

  memory_same : ArePlaced p memory others → SameMemory p memory others
  memory_same placed n o is live inside = let c = placed n o is (λ over. no (sym live ∙ over)) inside in record { number = c.number; object = c.object; is = c.is; same = c.same; values = c.values live }
    where
      no : Live ≡ Ended → ⊥
      no h = cc

-- The program's stop at a place is one of its own.
stop_is : (k : Activity) (scope : List ℕ) (low at : ℕ) (memory : SourceMemory) → PlaceIs k scope at → Holding k scope low memory → AreDeclared k.setting.program memory
    → IsStopOf k.setting.program (place_at k at) (depth_of (here_in k)) (shown_at (here_in k) at memory) memory
stop_is k scope low at memory here h declared = record {
  some = omega arith;
  at = here.there.place;
  is = here.there.is;
  stops = here.there.stops;
  shows = ap (λ (vs : List ℕ). map (shown (here_in k) memory) (visible k.setting.program.automatics vs)) here.there.scope;
  declared = declared;
  statics = h.statics;
}

-- The stops at a place are one.
stop_same : (k : Activity) → Lawful k → (scope : List ℕ) (at : ℕ) (m : Made) (s : State) (l : Local) (w : World) → PlaceIs k scope at → (low : ℕ) → Holding k scope low s.memory → Sound k.setting.program s.memory s → Fits k.setting None s l w
    → SameEvent k.setting.program k.setting.unit (source-event.Stop (place_at k at) (depth_of (here_in k)) (frames_at (here_in k) (place_at k at)) (shown_at (here_in k) at s.memory) s.memory)
    (Stop (frame (before_in k (place_at k at) m.ops m.end l w).here ∷ map frame k.setting.waiting) w.memory)
stop_same k law scope at m s l w here low h sound fits =
    let depth : length k.setting.waiting + 1 ≡ length k.frames + 1 = ap (λ n. n + 1) (sym (frames_length k.setting.program k.setting.unit s.memory k.frames k.setting.waiting h.frames)) in
    let now = ready k scope low at s.memory here h in
    let length_is : length k.frames + 1 ≡ length (frames_at (here_in k) (place_at k at)) = omega arith in
    stop (stop_is k scope low at s.memory here h sound.declared) refl length_is (
      frame_same k.setting.program k.setting.unit law.named s.memory w.memory (length k.frames + 1) (record { function = k.setting.function; place = place_at k at }) (before_in k (place_at k at) m.ops m.end l w).here k.setting.tree k.setting.again law.tree_is
          (subst (λ d. Own k.setting.program (names_in k.setting) None s.memory w.memory d k.setting.first l.names l.shadows) depth fits.own)
          (record { function = refl; place = refl; graph = law.graph_is; sees = subst (λ d. Sees k.setting.program s.memory d (place_at k at)) depth now.sees }),
      frames_same k.setting.program k.setting.unit law.named s.memory w.memory k.frames k.setting.waiting h.frames fits.outer,
    )
    sound.typed sound.differ (memory_same k.setting.program k.setting.unit law.named s.memory w.memory fits.placed)

-- the block of a place
abbrev pub block_at : Activity → (at : ℕ) → Made → Block
block_at k at m = record { place = None; instructions = Marker (place_at k at) ∷ m.ops; end = m.end }

-- A place begins: behind its marker both runs go on.
pub place_begins : (k : Activity) → Lawful k → (scope : List ℕ) (spot : Spot) (m : Made) → slice_get k.setting.graph.blocks (block_of (coding_in k) spot.at) ≡ Some (block_at k spot.at m) → PlaceIs k scope spot.at
    → (low high : ℕ) (brought : List ℕ) (w : Ways) (go : State → Outcome)
    → ((c : Configuration) (es : List Event) (l : Local) (u : World) (s : State) → Leads k.setting.unit c es (before_in k (place_at k spot.at) m.ops m.end l u) u.seen → Sound k.setting.program s.memory s → Fits k.setting None s l u → Holding k scope low s.memory
    → Ready k (place_at k spot.at) s.memory → Runs k c es low high brought s.memory w (go s))
    → GoesOn k low high brought w scope (Some spot.at) (λ s. activations.at (here_in k) spot s go)
place_begins k law scope spot m is here low high brought w go inside c es place l u s comes sound fits h = by s.turns
  where
    by : (turns : ℕ) → Runs k c es low high brought s.memory w (on_begun (elim turns [ zero ↦ activations.NoTurn s | suc left ↦ activations.Goes (stopped (here_in k) spot.at (record s { turns = left })) ]) go)
    by zero = record { configuration = before_in k place (Marker (place_at k spot.at) ∷ m.ops) m.end (in_block (block_of (coding_in k) spot.at) l) u; seen = u.seen; leads = comes (block_at k spot.at m) is; ends = fits.events }
    by (suc left) =
        let l2 = in_block (block_of (coding_in k) spot.at) l in
        let to = before_in k (place_at k spot.at) m.ops m.end l2 u in
        let e = Stop (frame to.here ∷ map frame k.setting.waiting) u.memory in
        let stops : step k.setting.unit (before_in k place (Marker (place_at k spot.at) ∷ m.ops) m.end l2 u) ≡ Shows e to = ap (λ b. if b then Goes to else Shows e to) here.stops in
        inside c es l2 (record u { seen = u.seen ++ e ∷ [] }) (stopped (here_in k) spot.at (record s { turns = left })) (then_leads (comes (block_at k spot.at m) is) (shows stops stays))
        (record { typed = sound.typed; differ = sound.differ; declared = sound.declared; single = sound.single; bytes = sound.bytes; since = sound.since })
        (record {
          own = fits.own;
          outer = fits.outer;
          placed = fits.placed;
          differ = fits.differ;
          above = fits.above;
          later = fits.later;
          statics = fits.statics;
          input = fits.input;
          events = pairs_more (SameEvent k.setting.program k.setting.unit) s.events u.seen _ e fits.events (stop_same k law scope spot.at m s l u here low h sound fits);
        })
        h (ready k scope low spot.at s.memory here h)
