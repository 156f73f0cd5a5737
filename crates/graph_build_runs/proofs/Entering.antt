-- A call leads to the body of the function that it begins, and so does the beginning of a run.
use Rattle.std.proofs.Common.{◌≡◌, ℕ, zero, suc, ◌+◌, ◌<◌, ◌≤◌, List, [], ◌∷◌, length, map, take, drop, Option, Some, None, Bool, false, slice_get, refl, ap, ◌∙◌, subst, arith}
use Rattle.std.specs.Prelude.{◌==◌, if◌then◌else◌, option_map, option_and_then}
use Rattle.std.proofs.lemmas.Bool.Decides.{nat_tests}
use Rattle.c_tree.specs.declared.typed_expression.Callee.TheVariants as called
use Rattle.c_tree.specs.Programs.{TypedFunctionTree, ProgramTree}
use Rattle.c_flow.specs.Flow.{start_of_all, ways_of_body}
use Rattle.c_type_laws.specs.Kinds.{taken_by, types_of, parameters_in}
use Rattle.c_places.specs.Places.{numbers_from, parameters_of}
use Rattle.c_meaning_values.specs.declared.value.Value as source-value
use Rattle.c_meaning_steps.specs.declared.event.Frame.{Frame}
use Rattle.c_meaning_steps.specs.States.{State}
use Rattle.c_meaning.specs.Calls.{bind}
use Rattle.graph_core.specs.declared.value.Value.{Value}
use Rattle.graph_core.specs.declared.value.Value.TheVariants.{Odd}
use Rattle.graph_core.specs.declared.value.Shadow.{Shadow}
use Rattle.graph_core.specs.declared.value.Shadow.TheVariants.{Known, Gone}
use Rattle.graph_core.specs.declared.instruction.Callee.TheVariants as unit-called
use Rattle.graph_core.specs.Graphs as unit
use Rattle.graph_core.specs.Graphs.{Graph, UnitForm, Operand, Instruction, End, Marker, Binding as UnitBinding}
use Rattle.graph_core.specs.Memory.{Memory}
use Rattle.graph_core.specs.Values.{is_odd}
use Rattle.graph_core.specs.Runs.{Activation, Configuration, Event, Goes, Shows, Stop, Wild, TooDeep, Ends as StepEnds, goes_if, enter, begun, step, frame, with_value_at, value, bind_names, bind_objects, with_objects}
use Rattle.graph_build_names.specs.Names.{scalar_of}
use Rattle.graph_build_steps.specs.Drafts.{Made}
use Rattle.graph_build_statements.specs.Coding.{going}
use Rattle.event_runs.specs.Agreement.{Pairs}
use Rattle.graph_build_runs.specs.Correspondence.{SameValues, SameEvent}
use Rattle.graph_build_runs.proofs.Leads.{Setting, names_in, depth_in, Local, World, here_at, at, Leads, stays, goes, then_leads, same_number}
use Rattle.graph_build_runs.proofs.Later.{Later, OthersLater, others_refl}
use Rattle.graph_build_runs.proofs.Kept.{Sound, Fits}
use Rattle.graph_build_runs.proofs.Arguments.{AreOf}
use Rattle.graph_build_runs.proofs.Calling.{waiting, none_odd}
use Rattle.graph_build_runs.proofs.Library.{call_step}
use Rattle.graph_build_runs.proofs.Activities.{Activity, coding_in, here_in, before_in}
use Rattle.graph_build_runs.proofs.Living.{frames_length}
use Rattle.graph_build_runs.proofs.Outcomes.{Holding}
use Rattle.graph_build_runs.proofs.Stops.{Lawful}
use Rattle.graph_build_runs.proofs.AtPlaces.{going_comes}
use Rattle.graph_build_runs.proofs.Calls.{activity_of, Entered, Bound}
use Rattle.graph_build_runs.proofs.Parameters.{bindings}
use Rattle.graph_build_runs.proofs.Entry.{noting, note_if, noted_as, noted_by, entry_made, EntryStands, Awaits, entered_memory, entered_names, entered_shadows, entered_source, known_name, fits_entered}

-- The notes of parameters lead to what follows, with the shadows that they say.
notes_lead : (k : Activity) (place : ℕ) (m : Made) (w : World) (number : ℕ) (names : ℕ → Value) (wants : Option ℕ) (count first : ℕ) (shadows : ℕ → Shadow) → ((v x : ℕ) → first ≤ v → v < first + count → scalar_of (names_in k.setting) v ≡ Some x → is_odd (names x) ≡ false) → (es : List Event)
    → Leads k.setting.unit (before_in k place (noting (names_in k.setting) (numbers_from first count) m).ops (noting (names_in k.setting) (numbers_from first count) m).end (record { block = number; names = names; shadows = shadows; wants = wants }) w) es
    (before_in k place m.ops m.end (record { block = number; names = names; shadows = noted_by (names_in k.setting) names (numbers_from first count) shadows; wants = wants }) w) es
notes_lead k place m w number names wants zero first shadows known es = stays
notes_lead k place m w number names wants (suc count) first shadows known es =
    by (λ more. notes_lead k place m w number names wants count (first + 1) more (λ v x le lt is. known v x (omega (arith, le)) (omega (arith, lt)) is) es) (scalar_of (names_in k.setting) first) refl
  where
    by : ((more : ℕ → Shadow) → Leads k.setting.unit (before_in k place (noting (names_in k.setting) (numbers_from (first + 1) count) m).ops (noting (names_in k.setting) (numbers_from (first + 1) count) m).end (record { block = number; names = names; shadows = more; wants = wants }) w) es
        (before_in k place m.ops m.end (record { block = number; names = names; shadows = noted_by (names_in k.setting) names (numbers_from (first + 1) count) more; wants = wants }) w) es)
        → (o : Option ℕ) → scalar_of (names_in k.setting) first ≡ o
        → Leads k.setting.unit (before_in k place (note_if o (noting (names_in k.setting) (numbers_from (first + 1) count) m)).ops (note_if o (noting (names_in k.setting) (numbers_from (first + 1) count) m)).end (record { block = number; names = names; shadows = shadows; wants = wants }) w) es
        (before_in k place m.ops m.end (record { block = number; names = names; shadows = noted_by (names_in k.setting) names (numbers_from (first + 1) count) (noted_as o names shadows); wants = wants }) w) es
    by rest None e = rest shadows
    by rest (Some x) e =
        let inner = noting (names_in k.setting) (numbers_from (first + 1) count) m in
        let to = before_in k place inner.ops inner.end (record { block = number; names = names; shadows = with_value_at shadows x (Known (names x)); wants = wants }) w in
        goes (ap (λ b. if b then Wild else Goes to) (known first x (omega arith) (omega arith) e)) (rest (with_value_at shadows x (Known (names x))))

-- An activation begins with a configuration: the run comes to the body.
module _ (k : Activity) (law : Lawful k) (same_depth : length k.frames ≡ length k.setting.waiting) (entry : EntryStands k.setting.program k.setting.tree k.setting.graph k.setting.again k.setting.top) (s : State) (others : Memory) (begins : k.setting.first ≡ length others)
    (waits : Awaits k.setting.program k.setting.unit s.memory others k.setting.waiting) (held : Holding k [] 0 s.memory) (vs : List source-value.Value) (ws : List Value) (are : AreOf s.memory (types_of (take k.setting.tree.parameters (drop k.setting.tree.first_variable k.setting.program.automatics))) vs)
    (same : SameValues k.setting.program s.memory others vs ws) where
  -- the activation as it begins
  abbrev first_local : List UnitBinding → Local
  first_local all = record { block = 0; names = bind_names all ws (λ x. Odd); shadows = λ x. Gone; wants = None }

  abbrev first_world : List UnitBinding → List ℕ → List Event → World
  first_world all input seen = record { memory = bind_objects (length others) all ws (with_objects (depth_in k.setting) k.setting.graph others); input = input; seen = seen }

  abbrev made : Made
  made = entry_made k.setting.program k.setting.tree k.setting.graph k.setting.again k.setting.top entry.inner

  -- the configuration with which it begins
  abbrev pub begins_at : List UnitBinding → List ℕ → List Event → Configuration
  begins_at all input seen = before_in k k.setting.graph.entry (Marker k.setting.graph.entry ∷ made.ops) made.end (first_local all) (first_world all input seen)

  pub entered_from : (c : Configuration) (es : List Event) (input : List ℕ) → input ≡ s.input → (seen : List Event) → Pairs (SameEvent k.setting.program k.setting.unit) s.events seen → Later s.memory (entered_source k law same_depth entry s others begins waits held vs ws are same) → OthersLater k.setting.objects others
      → Leads k.setting.unit c es (begins_at k.setting.graph.parameters input seen) seen
      → Entered k.setting.program k.setting.unit k k.setting.tree c es s.memory (record s { memory = bind (here_in k) (parameters_of k.setting.tree) vs s.memory })
  entered_from c es input same_input seen events later before leads =
      let all = bindings (names_in k.setting) k.setting.tree.first_variable k.setting.tree.parameters in
      let entry_place = k.setting.graph.entry in
      let names = entered_names k law same_depth entry s others begins waits held vs ws are same in
      let shadows = entered_shadows k law same_depth entry s others begins waits held vs ws are same in
      let w : World = record { memory = entered_memory k law same_depth entry s others begins waits held vs ws are same; input = input; seen = seen } in
      let l : Local = record { block = 0; names = names; shadows = shadows; wants = None } in
      let there = subst (λ b. Leads k.setting.unit c es (begins_at b input seen) seen) entry.parameters leads in
      let behind : Configuration = before_in k entry_place made.ops made.end (first_local all) w in
      let marks : step k.setting.unit (begins_at all input seen) ≡ Goes behind = ap (λ b. if b then Goes behind else Shows (Stop (frame behind.here ∷ map frame behind.waiting) behind.memory) behind) (same_number entry_place) in
      let goal = going (coding_in k) (start_of_all k.setting.tree.body (ways_of_body k.setting.tree).next) entry.inner in
      let notes = notes_lead k entry_place goal w 0 names None k.setting.tree.parameters k.setting.tree.first_variable (λ x. Gone) (λ v x le lt is. known_name k law same_depth entry s others begins waits held vs ws are same v x le lt is) seen in
      record {
        place = entry_place;
        local = l;
        world = w;
        comes = going_comes k c es (start_of_all k.setting.tree.body (ways_of_body k.setting.tree).next) entry.inner entry_place l w (then_leads there (goes marks notes));
        fits = fits_entered k law same_depth entry s others begins waits held vs ws are same later before input same_input seen events;
      }

-- what a unit's memory is where its function begins
pub enters_there : (u : UnitForm) (memory : Memory) (input : List ℕ) (f : ℕ) (vs : List Value) (waiting : List Activation) (g : Graph) (b : unit.Block) → slice_get u.graphs f ≡ Some g → slice_get g.blocks 0 ≡ Some b → enter u memory input f vs waiting ≡ Some (begun memory input f vs waiting g b)
enters_there u memory input f vs waiting g b is at = ap (option_and_then (λ q. option_map (begun memory input f vs waiting q) (slice_get q.blocks 0))) is ∙ ap (option_map (begun memory input f vs waiting g)) at

-- A call leads to the body of its function.
pub call_enters : (x : Setting) (f : ℕ) (tree : TypedFunctionTree) (g : Graph) (again : Bool) (top : ℕ) → slice_get x.unit.graphs f ≡ Some g → slice_get x.program.functions f ≡ Some tree → slice_get x.program.functions x.function ≡ Some x.tree → EntryStands x.program tree g again top
    → (target : Option ℕ) (all : List Operand) (ops : List Instruction) (end : End) (l : Local) (w : World) (s : State) (vs : List source-value.Value) (frames : List Frame) (left : ℕ)
    → Lawful (activity_of x.program x.unit f tree g again top (length w.memory) (here_at x ops end (waiting l target) ∷ x.waiting) w.memory frames left)
    → Later s.memory (bind (here_in (activity_of x.program x.unit f tree g again top (length w.memory) (here_at x ops end (waiting l target) ∷ x.waiting) w.memory frames left)) (parameters_of tree) vs s.memory)
    → length x.waiting + 1 + 1 + left ≡ 1024 → Fits x None s l w → AreOf s.memory (taken_by x.program (called.Function f)) vs → SameValues x.program s.memory w.memory vs (map (value x.unit.statics l.names) all)
    → Holding (activity_of x.program x.unit f tree g again top (length w.memory) (here_at x ops end (waiting l target) ∷ x.waiting) w.memory frames left) [] 0 s.memory
    → Entered x.program x.unit (activity_of x.program x.unit f tree g again top (length w.memory) (here_at x ops end (waiting l target) ∷ x.waiting) w.memory frames left) tree (at x (unit.Call target (unit-called.Function f) all ∷ ops) end l w) w.seen s.memory
    (record s { memory = bind (here_in (activity_of x.program x.unit f tree g again top (length w.memory) (here_at x ops end (waiting l target) ∷ x.waiting) w.memory frames left)) (parameters_of tree) vs s.memory })
call_enters x f tree g again top is_graph there is_here entry target all ops end l w s vs frames left law later count fits are same held =
    let a = here_at x ops end (waiting l target) in
    let k = activity_of x.program x.unit f tree g again top (length w.memory) (a ∷ x.waiting) w.memory frames left in
    let ws = map (value x.unit.statics l.names) all in
    let same_depth = frames_length x.program x.unit s.memory frames (a ∷ x.waiting) held.frames in
    let types = subst (λ r. AreOf s.memory (types_of (parameters_in x.program.automatics r)) vs) there are in
    let waits : Awaits x.program x.unit s.memory w.memory (a ∷ x.waiting) = record {
      outer = (record { tree = x.tree; is = is_here; own = record { scalars = fits.own.scalars; objects = fits.own.objects } }, fits.outer);
      placed = fits.placed;
      differ = fits.differ;
      above = λ m q v d at_m live owner. (let le = fits.above m q v d at_m live owner in omega (arith, le));
      statics = fits.statics;
    } in
    let c = at x (unit.Call target (unit-called.Function f) all ∷ ops) end l w in
    let b : unit.Block = record { place = None; instructions = Marker g.entry ∷ (entry_made x.program tree g again top entry.inner).ops; end = (entry_made x.program tree g again top entry.inner).end } in
    let begin = begun w.memory w.input f ws (a ∷ x.waiting) g b in
    let calls : step x.unit c ≡ Goes begin =
    call_step x (unit-called.Function f) target all ops end l w (none_odd x.program s.memory w.memory vs ws same)
    ∙ ap (λ z. if z then StepEnds TooDeep else goes_if (enter x.unit w.memory w.input f ws (a ∷ x.waiting))) (not_full (length x.waiting) left count)
    ∙ ap goes_if (enters_there x.unit w.memory w.input f ws (a ∷ x.waiting) g b is_graph entry.block) in
    entered_from k law same_depth entry s w.memory refl waits held vs ws types same c w.seen w.input fits.input w.seen fits.events later (others_refl w.memory) (goes calls stays)
  where
    not_full : (n left : ℕ) → n + 1 + 1 + left ≡ 1024 → (n + 1 == 1024) ≡ false
    not_full n left e = grind (arith, nat_tests, e)

-- A function leads from a call to its body, where its parameters are bound as they should be.
abbrev pub Entering : ProgramTree → UnitForm → (f : ℕ) → TypedFunctionTree → Graph → (again : Bool) → (top : ℕ) → Setting → Type 0
Entering p u f tree g again top x = slice_get p.functions x.function ≡ Some x.tree → (target : Option ℕ) (all : List Operand) (ops : List Instruction) (end : End) (l : Local) (w : World) (s : State) (vs : List source-value.Value) (frames : List Frame) (left : ℕ) → length x.waiting + 1 + 1 + left ≡ 1024
    → Sound p s.memory s → Fits x None s l w → AreOf s.memory (taken_by p (called.Function f)) vs → SameValues p s.memory w.memory vs (map (value u.statics l.names) all)
    → Holding (activity_of p u f tree g again top (length w.memory) (here_at x ops end (waiting l target) ∷ x.waiting) w.memory frames left) [] 0 s.memory
    → Entered p u (activity_of p u f tree g again top (length w.memory) (here_at x ops end (waiting l target) ∷ x.waiting) w.memory frames left) tree (at x (unit.Call target (unit-called.Function f) all ∷ ops) end l w) w.seen s.memory
    (record s { memory = bind (here_in (activity_of p u f tree g again top (length w.memory) (here_at x ops end (waiting l target) ∷ x.waiting) w.memory frames left)) (parameters_of tree) vs s.memory })

abbrev pub Binds : ProgramTree → UnitForm → (f : ℕ) → TypedFunctionTree → Graph → (again : Bool) → (top : ℕ) → Type 0
Binds p u f tree g again top = (first : ℕ) (ws : List Activation) (objects : Memory) (frames : List Frame) (left : ℕ) (vs : List source-value.Value) (s : State) → Sound p s.memory s → Holding (activity_of p u f tree g again top first ws objects frames left) [] 0 s.memory
    → AreOf s.memory (taken_by p (called.Function f)) vs → Bound p u (activity_of p u f tree g again top first ws objects frames left) tree s.memory
    (record s { memory = bind (here_in (activity_of p u f tree g again top first ws objects frames left)) (parameters_of tree) vs s.memory })

-- a function that can be entered
abbrev CanEnter : (f : ℕ) → TypedFunctionTree → Graph → (again : Bool) → (top : ℕ) → Setting → ProgramTree → UnitForm → Type 0
CanEnter f tree g again top x p u = slice_get u.graphs f ≡ Some g → slice_get p.functions f ≡ Some tree → EntryStands p tree g again top → ((first : ℕ) (ws : List Activation) (objects : Memory) (frames : List Frame) (left : ℕ) → Lawful (activity_of p u f tree g again top first ws objects frames left))
    → Binds p u f tree g again top → Entering p u f tree g again top x

pub can_enter : (p : ProgramTree) (u : UnitForm) (f : ℕ) (tree : TypedFunctionTree) (g : Graph) (again : Bool) (top : ℕ) → slice_get u.graphs f ≡ Some g → slice_get p.functions f ≡ Some tree → EntryStands p tree g again top
    → ((first : ℕ) (ws : List Activation) (objects : Memory) (frames : List Frame) (left : ℕ) → Lawful (activity_of p u f tree g again top first ws objects frames left)) → Binds p u f tree g again top → (x : Setting) → x.program ≡ p → x.unit ≡ u → Entering p u f tree g again top x
can_enter p u f tree g again top is there entry lawful binds x programs units =
    (subst (λ q. CanEnter f tree g again top x q u) programs (subst (λ v. CanEnter f tree g again top x x.program v) units by)) is there entry lawful binds
  where
    by : CanEnter f tree g again top x x.program x.unit
    by is2 there2 entry2 lawful2 binds2 here target all ops end l w s vs frames left count sound fits are same held =
        let a = here_at x ops end (waiting l target) in
        let bound = binds2 (length w.memory) (a ∷ x.waiting) w.memory frames left vs s sound held are in
        call_enters x f tree g again top is2 there2 here entry2 target all ops end l w s vs frames left (lawful2 (length w.memory) (a ∷ x.waiting) w.memory frames left) bound.grown.later count fits are same held
