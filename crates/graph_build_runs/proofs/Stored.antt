-- Declarators of scalars that are kept in memory do what they mean.
use Rattle.std.proofs.Common.{◌≡◌, ◌≢◌, ℕ, ◌+◌, ◌*◌, ◌<◌, ◌≤◌, List, [], ◌∷◌, ◌++◌, length, Option, Some, None, true, slice_get, slice_set, refl, sym, ap, ◌∙◌, subst, arith}
use Rattle.std.specs.Prelude.{if◌then◌else◌, nat_le, option_map, option_and_then}
use Rattle.std.specs.Option.{option_map_or}
use Rattle.std.proofs.lemmas.List.{length-set, length-replicate}
use Rattle.std.proofs.lemmas.Bool.Decides.{nat_tests}
use Rattle.debug_records.specs.declared.source.Spot.{Spot}
use Rattle.word_base.specs.Owners.{Variable}
use Rattle.c_tree.specs.TypedExpressions.{RvalueTree}
use Rattle.c_tree.specs.TypedStatements.{Zero, Scalar as scalar-initial}
use Rattle.c_tree.specs.Programs.{AutomaticTree}
use Rattle.c_type_rules.specs.Types.{loaded_type}
use Rattle.c_type_laws.specs.Kinds.{is_of}
use Rattle.c_type_laws.specs.Expressions.{kind_of}
use Rattle.c_meaning_values.specs.declared.value.Value as source-value
use Rattle.c_meaning_values.specs.declared.value.Phase.TheVariants.{Initialising, Live, Ended}
use Rattle.c_meaning_values.specs.Types.{element_scalar, value_count, scalar_size, zero_of}
use Rattle.c_meaning_values.specs.Memory.{Object as SourceObject, new_object, set_value, begun as begun_in}
use Rattle.c_meaning_steps.specs.States.{State, Outcome, Next, on_value}
use Rattle.c_meaning.specs.Activations as activations
use Rattle.c_meaning.specs.Statements.{value_at, declare_with}
use Rattle.c_flow.specs.declared.edge.Ways.{Ways}
use Rattle.graph_core.specs.declared.value.Value.{Value}
use Rattle.graph_core.specs.declared.value.Value.TheVariants.{Pointer, Odd}
use Rattle.graph_core.specs.Graphs as unit
use Rattle.graph_core.specs.Graphs.{Operand, Automatic, Store}
use Rattle.graph_core.specs.Memory.{Memory, bytes_of, write, write_in, written_in}
use Rattle.graph_core.specs.Runs.{Configuration, Event, Goes, step, value}
use Rattle.graph_core.specs.Values.{as_element, pointer_at}
use Rattle.graph_build_layout.specs.declared.laid.Use.TheVariants.{Anywhere}
use Rattle.graph_build_layout.specs.Layout.{laid}
use Rattle.graph_build_names.specs.Names.{object_of}
use Rattle.graph_build_steps.specs.Rules as rule
use Rattle.graph_build_steps.specs.Drafts.{To, instruction_before}
use Rattle.graph_build_statements.specs.Coding.{begun, going, coded}
use Rattle.graph_build_runs.specs.Typed.{IsOf}
use Rattle.graph_build_runs.specs.Correspondence.{owner_of, SameObject, SameValue, IsInMemory}
use Rattle.graph_build_runs.proofs.Leads.{names_in, depth_in, Local, World, Leads, goes, stays, then_leads}
use Rattle.graph_build_runs.proofs.Later.{live_open}
use Rattle.graph_build_runs.proofs.Kept.{Sound, ObjectIs, Placed, Fits}
use Rattle.graph_build_runs.proofs.Noting.{known_value}
use Rattle.graph_build_runs.proofs.Types.{kind_is_of}
use Rattle.graph_build_runs.proofs.Places.{pointed_in}
use Rattle.graph_build_runs.proofs.Elements.{reaches, element_keeps}
use Rattle.graph_build_runs.proofs.Storing.{one_same, fits_both_set}
use Rattle.graph_build_runs.proofs.Writing.{store_step}
use Rattle.graph_build_runs.proofs.Activities.{Activity, coding_in, here_in, place_at, placed, before_in, fits_placed, fits_anywhere}
use Rattle.graph_build_runs.proofs.Living.{frames_length}
use Rattle.graph_build_runs.proofs.Outcomes.{Arrives, Runs, GoesOn, runs_since}
use Rattle.graph_build_runs.proofs.Stops.{Lawful, place_begins}
use Rattle.graph_build_runs.proofs.AtPlaces.{Works, Begins, begun_above, going_comes, value_runs}
use Rattle.graph_build_runs.proofs.Making.{last_is, zero_typed, new_in, with_new, made_is, grown_made, ready_made, sound_made, fits_made}
use Rattle.graph_build_runs.proofs.Declared.{after, begun_after, grown_after, lives_after, sound_after, set_last, same_first, zero_same}

at_beginning : (m bytes : ℕ) → pointer_at m bytes 0 ≡ Pointer m bytes 0
at_beginning m bytes = ap (λ b. if b then Pointer m bytes 0 else Odd) (least bytes)
  where
    least : (n : ℕ) → nat_le 0 n ≡ true
    least n = grind (arith, nat_tests)

module _ (k : Activity) (law : Lawful k) (v j : ℕ) (a : AutomaticTree) (is : slice_get k.setting.program.automatics v ≡ Some a) (named : object_of (names_in k.setting) v ≡ Some j) (inside : a.in_memory ≡ true) where
  in_memory : IsInMemory k.setting.program (Variable v (depth_in k.setting))
  in_memory = (a, is, inside)

  -- the unit's object of the variable
  pub same_object : (others : Memory) (o : SourceObject) → o.owner ≡ Variable v (depth_in k.setting) → o.element ≡ element_scalar a.of → length o.values ≡ value_count a.of → (q : ObjectIs k.setting.program others v (depth_in k.setting) (k.setting.first + j) a) → SameObject k.setting.program o q.object
  same_object others o owner element count q =
      record { owner = q.owner ∙ ap (owner_of k.setting.program) (sym owner); lives = q.lives; element = q.element ∙ ap rule.element_of (sym element); count = q.count ∙ sym count }

  -- it holds what it held before, while the source's object is being initialised
  pub placed_new : (s : State) (l : Local) (w : World) → Fits k.setting None s l w
      → Placed k.setting.program (s.memory ++ new_object (Variable v (depth_in k.setting)) a.of Initialising ∷ []) w.memory (new_object (Variable v (depth_in k.setting)) a.of Initialising)
  placed_new s l w fits =
      let q = fits.own.objects v j a named is in
      record {
        number = k.setting.first + j;
        object = q.object;
        is = q.is;
        same = same_object w.memory (new_object (Variable v (depth_in k.setting)) a.of Initialising) refl refl (length-replicate (value_count a.of) (zero_of (element_scalar a.of))) q;
        values = λ live. no live;
      }
    where
      no : {A : Type 0} → Initialising ≡ Live → A
      no h = cc

  -- The object of a scalar takes its first value in both runs.
  module _ (single : value_count a.of ≡ 1) (s : State) (n : ℕ) (o : SourceObject) (at : slice_get s.memory n ≡ Some o) (owner : o.owner ≡ Variable v (depth_in k.setting)) (alive : o.phase ≢ Ended) (u : source-value.Value) (sound : Sound k.setting.program s.memory s) (typed : IsOf s.memory (loaded_type o.element) u)
      (element : o.element ≡ element_scalar a.of) (count : length o.values ≡ value_count a.of) where
    pub stored_after : (c : Configuration) (es : List Event) (low high : ℕ) (next : Option ℕ) (inner : List unit.Block) (place : ℕ) (operand : Operand) (l : Local) (w : World) → Fits k.setting None s l w → SameValue k.setting.program s.memory w.memory u (value k.setting.unit.statics l.names operand)
        → Leads k.setting.unit c es (before_in k place (instruction_before (Store (rule.element_of (element_scalar a.of)) (Automatic j 0) operand) (going (coding_in k) next inner)).ops (going (coding_in k) next inner).end l w) w.seen
        → Arrives k c es low high (v ∷ []) s.memory next (record s { memory = after k v s n o at owner alive u sound typed })
    stored_after c es low high next inner place operand l w fits same leads =
        let p = k.setting.program in
        let given = value k.setting.unit.statics l.names operand in
        let q = fits.own.objects v j a named is in
        let m = k.setting.first + j in
        let so = same_object w.memory o owner element count q in
        let one : length q.object.values ≡ 1 = q.count ∙ single in
        let less : 0 < length q.object.values = omega (arith, one) in
        let zero_at : 0 ≡ 0 * scalar_size (element_scalar a.of) = omega arith in
        let reach = reaches (element_scalar a.of) q.object 0 0 q.lives q.element zero_at less in
        let here : IsOf s.memory (loaded_type (element_scalar a.of)) u = subst (λ e. IsOf s.memory (loaded_type e) u) element typed in
        let keeps : as_element q.object.element given ≡ given = ap (λ e. as_element e given) q.element ∙ element_keeps p s.memory w.memory (element_scalar a.of) u given here same in
        let others = slice_set w.memory m (record q.object { values = slice_set q.object.values 0 given }) in
        let x = placed k place [] in
        let pointed : pointed_in x l w (Automatic j 0) ≡ Pointer m (bytes_of q.object) 0 = ap (λ b. option_map_or (λ z. pointer_at m (bytes_of z) 0) b Odd) q.is ∙ at_beginning m (bytes_of q.object) in
        let writes : write w.memory (rule.element_of (element_scalar a.of)) (pointed_in x l w (Automatic j 0)) given ≡ Some others =
        ap (λ r. write w.memory (rule.element_of (element_scalar a.of)) r given) pointed ∙ ap (option_and_then (write_in w.memory m (rule.element_of (element_scalar a.of)) 0 given)) q.is ∙ ap (option_map (written_in w.memory m given q.object)) reach
        ∙ ap (λ z. Some (slice_set w.memory m (record q.object { values = slice_set q.object.values 0 z }))) keeps in
        let w2 : World = record w { memory = others } in
        let g = going (coding_in k) next inner in
        let stores : step k.setting.unit (before_in k place (instruction_before (Store (rule.element_of (element_scalar a.of)) (Automatic j 0) operand) g).ops g.end l w) ≡ Goes (before_in k place g.ops g.end l w2) =
        store_step x (rule.element_of (element_scalar a.of)) (Automatic j 0) operand g.ops g.end l w others (known_value p s.memory w.memory u given same) writes in
        record {
          place = place;
          local = l;
          world = w2;
          comes = going_comes k c es next inner place l w2 (then_leads leads (goes stores stays));
          sound = sound_after k v s n o at owner alive u sound typed;
          fits =
              fits_anywhere k place s.memory None (record s { memory = after k v s n o at owner alive u sound typed }) l w2
              (fits_both_set (placed k place s.memory) None s l w n o m q.object (slice_set o.values 0 u) (slice_set q.object.values 0 given) (length-set o.values 0 u) (length-set q.object.values 0 given) Live (live_open o.phase alive) sound.differ sound.declared (fits_placed k place s.memory None s l w fits) at alive
              (subst (IsInMemory p) (sym owner) in_memory) q.is so (λ live. one_same p s.memory w.memory o.values q.object.values u given (count ∙ single) one same));
          grown = grown_after k v s n o at owner alive u sound typed low high;
          brings = (lives_after k v s n o at owner alive u sound typed, tt);
        }

  module _ (scope : List ℕ) (low : ℕ) (w : Ways) (spot : Spot) (le : low ≤ v) (single : value_count a.of ≡ 1) where
    -- A scalar in memory with its initializer.
    pub stored_goes : (e : RvalueTree) → Works k (place_at k spot.at) e → is_of (kind_of k.setting.program k.setting.tree e) (loaded_type (element_scalar a.of)) ≡ true
        → Begins k scope spot.at (λ t i. coded (coding_in k) spot.at e t (To None (instruction_before (Store (rule.element_of (element_scalar a.of)) (Automatic j 0) (laid (names_in k.setting) e Anywhere (begun (coding_in k) t)).value) (going (coding_in k) w.next i))))
        → GoesOn k low (v + 1) (v ∷ []) w scope (Some spot.at) (λ s. activations.at (here_in k) spot s (declare_with k.calls (here_in k) spot v (scalar-initial e)))
    stored_goes e works fits_type b =
        let t = begun (coding_in k) b.free in
        let operand = (laid (names_in k.setting) e Anywhere t).value in
        let m = instruction_before (Store (rule.element_of (element_scalar a.of)) (Automatic j 0) operand) (going (coding_in k) w.next b.inner) in
        place_begins k law scope spot (coded (coding_in k) spot.at e b.free (To None m)) b.block b.here low (v + 1) (v ∷ []) w (declare_with k.calls (here_in k) spot v (scalar-initial e))
        (λ c es l u s leads sound fits h ready.
        (let memory = with_new k v a is Initialising s.memory in
        let s1 : State = record s { memory = memory } in
        let frames = frames_length k.setting.program k.setting.unit s.memory k.frames k.setting.waiting h.frames in
        let next : source-value.Value → State → Outcome = λ val z. Next (record z { memory = begun_in (set_value z.memory (length s.memory) 0 val) (length s.memory) }) in
        let above = begun_above k b.free b.size in
        subst (λ z. Runs k c es low (v + 1) (v ∷ []) s.memory w (on_value (value_at k.calls (here_in k) spot e z) next)) (sym (made_is k v a is Initialising s frames))
        (runs_since k c es low (v + 1) low (v + 1) (v ∷ []) s.memory memory w (on_value (value_at k.calls (here_in k) spot e s1) next) (omega arith) (omega arith) (grown_made k v a is Initialising s.memory low le)
        (value_runs k spot.at e works c es l u s1 (sound_made k v a is Initialising (λ young. single) s low le h.under sound) (fits_made k v a s l u fits (λ inside_it. placed_new s l u fits)) (ready_made k v a is Initialising (place_at k spot.at) s.memory ready)
        t above low (v + 1) (v ∷ []) w None m next b.stands tt leads
        (λ val s2 l2 u2 leads2 sound2 fits2 since same kind.
        (let o = since.later (length s.memory) (new_in k v a is Initialising) (last_is s.memory (new_in k v a is Initialising)) in
        let alive : o.object.phase ≢ Ended = λ over. initialising_open (o.phase.open_before over) in
        let typed : IsOf s2.memory (loaded_type o.object.element) val = subst (λ q. IsOf s2.memory (loaded_type q) val) (sym o.element) (kind_is_of s2.memory (kind_of k.setting.program k.setting.tree e) (loaded_type (element_scalar a.of)) val fits_type kind) in
        let count : length o.object.values ≡ value_count a.of = o.count ∙ length-replicate (value_count a.of) (zero_of (element_scalar a.of)) in
        subst (λ z. Arrives k c es low (v + 1) (v ∷ []) s2.memory w.next (record s2 { memory = z })) (sym (begun_after k v s2 (length s.memory) o.object o.is o.owner alive val sound2 typed))
        (stored_after single s2 (length s.memory) o.object o.is o.owner alive val sound2 typed o.element count c es low (v + 1) w.next b.inner (place_at k spot.at) operand l2 u2 fits2 same leads2)))))))
      where
        initialising_open : {A : Type 0} → Initialising ≡ Ended → A
        initialising_open h = cc

    -- One without an initializer is zero.
    pub zeroed_goes : Begins k scope spot.at (λ t i. instruction_before (Store (rule.element_of (element_scalar a.of)) (Automatic j 0) (unit.Constant 0)) (going (coding_in k) w.next i))
        → GoesOn k low (v + 1) (v ∷ []) w scope (Some spot.at) (λ s. activations.at (here_in k) spot s (declare_with k.calls (here_in k) spot v Zero))
    zeroed_goes b =
        let m = instruction_before (Store (rule.element_of (element_scalar a.of)) (Automatic j 0) (unit.Constant 0)) (going (coding_in k) w.next b.inner) in
        place_begins k law scope spot m b.block b.here low (v + 1) (v ∷ []) w (declare_with k.calls (here_in k) spot v Zero)
        (λ c es l u s leads sound fits h ready.
        (let o = new_in k v a is Initialising in
        let memory = with_new k v a is Initialising s.memory in
        let s1 : State = record s { memory = memory } in
        let frames = frames_length k.setting.program k.setting.unit s.memory k.frames k.setting.waiting h.frames in
        let zero_is = zero_of (element_scalar a.of) in
        let sound1 = sound_made k v a is Initialising (λ young. single) s low le h.under sound in
        let fits1 = fits_made k v a s l u fits (λ inside_it. placed_new s l u fits) in
        let same = zero_same k.setting.program memory u.memory (element_scalar a.of).stars in
        let typed = zero_typed memory (element_scalar a.of).base (element_scalar a.of).stars in
        let alive : o.phase ≢ Ended = λ over. initialising_open over in
        let r = stored_after single s1 (length s.memory) o (last_is s.memory o) refl alive zero_is sound1 typed refl (length-replicate (value_count a.of) zero_is) c es low (v + 1) w.next b.inner (place_at k spot.at) (unit.Constant 0) l u fits1 same leads in
        subst (λ z. Runs k c es low (v + 1) (v ∷ []) s.memory w (Next z)) (sym (made_is k v a is Live s frames))
        (runs_since k c es low (v + 1) low (v + 1) (v ∷ []) s.memory memory w (Next (record s { memory = with_new k v a is Live s.memory })) (omega arith) (omega arith) (grown_made k v a is Initialising s.memory low le)
        (subst (λ z. Arrives k c es low (v + 1) (v ∷ []) memory w.next (record s { memory = z }))
        (set_last s.memory o (record o { values = slice_set o.values 0 zero_is; phase = Live }) ∙ ap (λ vs. s.memory ++ record o { values = vs; phase = Live } ∷ []) (same_first (value_count a.of) zero_is)) r))))
      where
        initialising_open : {A : Type 0} → Initialising ≡ Ended → A
        initialising_open h = cc
