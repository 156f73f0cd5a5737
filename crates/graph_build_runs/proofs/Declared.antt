-- Declarators of scalars that are kept in names do what they mean.
use Rattle.std.proofs.Common.{◌≡◌, ◌≢◌, ℕ, zero, suc, ◌+◌, ◌≤◌, inl, List, [], ◌∷◌, ◌++◌, length, replicate, Option, Some, true, slice_get, slice_set, refl, sym, ap, ◌∙◌, subst, arith}
use Rattle.std.specs.Prelude.{if◌then◌else◌}
use Rattle.std.proofs.lemmas.List.{length-set}
use Rattle.std.proofs.lemmas.Option.{slice_get_within}
use Rattle.debug_records.specs.declared.source.Spot.{Spot}
use Rattle.word_base.specs.Owners.{Variable}
use Rattle.c_tree.specs.TypedExpressions.{RvalueTree}
use Rattle.c_tree.specs.TypedStatements.{Zero, Scalar as scalar-initial}
use Rattle.c_tree.specs.Programs.{AutomaticTree, ProgramTree}
use Rattle.c_type_rules.specs.Types.{loaded_type}
use Rattle.c_type_laws.specs.Kinds.{is_of}
use Rattle.c_type_laws.specs.Expressions.{kind_of}
use Rattle.c_meaning_values.specs.declared.value.Value as source-value
use Rattle.c_meaning_values.specs.declared.value.Phase.TheVariants.{Initialising, Live, Ended}
use Rattle.c_meaning_values.specs.Types.{element_scalar, value_count, zero_of, zero_by_stars}
use Rattle.c_meaning_values.specs.Memory.{Object as SourceObject, Memory as SourceMemory, set_value, begun as begun_in}
use Rattle.c_meaning_steps.specs.States.{State, Outcome, Next, on_value}
use Rattle.c_meaning.specs.Activations as activations
use Rattle.c_meaning.specs.Statements.{value_at, declare_with}
use Rattle.c_flow.specs.declared.edge.Ways.{Ways}
use Rattle.graph_core.specs.declared.value.Value.TheVariants.{Number}
use Rattle.graph_core.specs.declared.value.Shadow.TheVariants.{Known}
use Rattle.graph_core.specs.Graphs as unit
use Rattle.graph_core.specs.Memory.{Memory}
use Rattle.graph_core.specs.Runs.{Configuration, Event, Goes, Wild, step, with_value_at}
use Rattle.graph_build_names.specs.Names.{scalar_of}
use Rattle.graph_build_steps.specs.Drafts.{To, instruction_before, note}
use Rattle.graph_build_statements.specs.Coding.{begun, going, coded}
use Rattle.graph_build_runs.specs.Typed.{IsOf}
use Rattle.graph_build_runs.specs.Correspondence.{SameValue, IsInMemory}
use Rattle.graph_build_runs.specs.Stops.{IsDeclared}
use Rattle.graph_build_runs.proofs.Leads.{names_in, depth_in, Local, World, Leads, goes, stays, then_leads, set_name, put_here}
use Rattle.graph_build_runs.proofs.Later.{not_initialising, live_open, Later, later_written, written_is, set_here}
use Rattle.graph_build_runs.proofs.Kept.{Sound, Fits, fits_wanted}
use Rattle.graph_build_runs.proofs.Noting.{known_value, fits_written}
use Rattle.graph_build_runs.proofs.Types.{kind_is_of}
use Rattle.graph_build_runs.proofs.Operands.{Apart}
use Rattle.graph_build_runs.proofs.Meanings.{sound_written}
use Rattle.graph_build_runs.proofs.Activities.{Activity, coding_in, here_in, place_at, placed, before_in, sound_now}
use Rattle.graph_build_runs.proofs.Living.{LivesAt, frames_length, Grown}
use Rattle.graph_build_runs.proofs.Outcomes.{Arrives, Runs, GoesOn, runs_since}
use Rattle.graph_build_runs.proofs.Stops.{Lawful, PlaceIs, place_begins}
use Rattle.graph_build_runs.proofs.Keeping.{Stays, KeptBy, KeepsOn, kept_since, place_kept, value_kept}
use Rattle.graph_build_runs.proofs.AtPlaces.{Works, Begins, begun_above, going_comes, value_runs}
use Rattle.graph_build_runs.proofs.Making.{last_is, zero_typed, new_in, with_new, made_is, grown_made, ready_made, sound_made, fits_made}

length_set : {A : Type 0} (xs : List A) (n : ℕ) (a : A) → length (slice_set xs n a) ≡ length xs
length_set xs n a = length-set xs n a

-- The object of a scalar has taken its first value, and lives.
module _ (k : Activity) (v : ℕ) (s : State) (n : ℕ) (o : SourceObject) (at : slice_get s.memory n ≡ Some o) (owner : o.owner ≡ Variable v (depth_in k.setting)) (alive : o.phase ≢ Ended) (u : source-value.Value)
    (sound : Sound k.setting.program s.memory s) (is : IsOf s.memory (loaded_type o.element) u) where
  abbrev pub taken : SourceObject
  taken = record o { values = slice_set o.values 0 u; phase = Live }

  abbrev pub after : SourceMemory
  after = slice_set s.memory n taken

  pub begun_after : begun_in (set_value s.memory n 0 u) n ≡ after
  begun_after = written_is s.memory n 0 o u at

  later_after : Later s.memory after
  later_after = later_written s.memory n 0 o u at alive

  pub grown_after : (low high : ℕ) → Grown (depth_in k.setting) low high s.memory after
  grown_after low high = record { later = later_after; fresh = λ m z found open_z. (let lt = slice_get_within after m z found in let e = length_set s.memory n taken in inl (omega (arith, lt, e))) }

  pub lives_after : LivesAt after v (depth_in k.setting)
  lives_after = record { number = n; object = taken; is = set_here s.memory n o taken at; owner = owner; lives = refl }

  pub sound_after : Sound k.setting.program after (record s { memory = after })
  sound_after = sound_now k.setting.program s.memory (record s { memory = after }) (sound_written k.setting.program s.memory s n 0 o u at alive sound is)

-- It is kept in a name.
module _ (k : Activity) (law : Lawful k) (v j : ℕ) (named : scalar_of (names_in k.setting) v ≡ Some j) (s : State) (n : ℕ) (o : SourceObject) (at : slice_get s.memory n ≡ Some o) (owner : o.owner ≡ Variable v (depth_in k.setting)) (alive : o.phase ≢ Ended) (u : source-value.Value)
    (sound : Sound k.setting.program s.memory s) (is : IsOf s.memory (loaded_type o.element) u) where
  one_value : length o.values ≡ 1
  one_value = let a = subst (λ q. IsDeclared k.setting.program q o) owner (sound.declared n o at) in a.3 ∙ law.apart.single v j a.0 named a.1

  -- The note says so.
  pub noted_after : (c : Configuration) (es : List Event) (low high : ℕ) (next : Option ℕ) (inner : List unit.Block) (place : ℕ) (l : Local) (w : World) → Fits k.setting (Some j) s l w → SameValue k.setting.program s.memory w.memory u (l.names j)
      → Leads k.setting.unit c es (before_in k place (note j (going (coding_in k) next inner)).ops (note j (going (coding_in k) next inner)).end l w) w.seen → Arrives k c es low high (v ∷ []) s.memory next (record s { memory = after k v s n o at owner alive u sound is })
  noted_after c es low high next inner place l w fits same leads =
      let m = going (coding_in k) next inner in
      let l2 : Local = record l { shadows = with_value_at l.shadows j (Known (l.names j)) } in
      let noting : step k.setting.unit (before_in k place (note j m).ops (note j m).end l w) ≡ Goes (before_in k place m.ops m.end l2 w) =
      ap (λ b. if b then Wild else Goes (before_in k place m.ops m.end l2 w)) (known_value k.setting.program s.memory w.memory u (l.names j) same) in
      record {
        place = place;
        local = l2;
        world = w;
        comes = going_comes k c es next inner place l2 w (then_leads leads (goes noting stays));
        sound = sound_after k v s n o at owner alive u sound is;
        fits = fits_written k.setting v j n o u Live (live_open o.phase alive) s l w law.apart named at owner alive one_value sound.differ fits same;
        grown = grown_after k v s n o at owner alive u sound is low high;
        brings = (lives_after k v s n o at owner alive u sound is, tt);
      }

pub set_last : {A : Type 0} (xs : List A) (a b : A) → slice_set (xs ++ a ∷ []) (length xs) b ≡ xs ++ b ∷ []
set_last [] a b = refl
set_last (x ∷ xs) a b = ap (λ ys. x ∷ ys) (set_last xs a b)

pub same_first : {A : Type 0} (count : ℕ) (a : A) → slice_set (replicate count a) 0 a ≡ replicate count a
same_first zero a = refl
same_first (suc count) a = refl

pub zero_same : (p : ProgramTree) (memory : SourceMemory) (others : Memory) (stars : ℕ) → SameValue p memory others (zero_by_stars stars) (Number 0)
zero_same p memory others zero = refl
zero_same p memory others (suc stars) = refl

-- a scalar has no object in memory
scalar_nowhere : {A : Type 0} (k : Activity) → Lawful k → (v j depth : ℕ) → scalar_of (names_in k.setting) v ≡ Some j → IsInMemory k.setting.program (Variable v depth) → A
scalar_nowhere k law v j depth named inside = let no = law.apart.outside v j inside.0 named inside.1 in let yes = inside.2 in cc

module _ (k : Activity) (law : Lawful k) (scope : List ℕ) (low : ℕ) (w : Ways) (spot : Spot) (v j : ℕ) (a : AutomaticTree) (is : slice_get k.setting.program.automatics v ≡ Some a) (named : scalar_of (names_in k.setting) v ≡ Some j) (le : low ≤ v) where
  -- A scalar with its initializer.
  pub initialised_goes : (e : RvalueTree) → Works k (place_at k spot.at) e → is_of (kind_of k.setting.program k.setting.tree e) (loaded_type (element_scalar a.of)) ≡ true → ((began : SourceMemory) → Apart (placed k (place_at k spot.at) began) j e)
      → Begins k scope spot.at (λ t i. coded (coding_in k) spot.at e t (To (Some j) (note j (going (coding_in k) w.next i))))
      → GoesOn k low (v + 1) (v ∷ []) w scope (Some spot.at) (λ s. activations.at (here_in k) spot s (declare_with k.calls (here_in k) spot v (scalar-initial e)))
  initialised_goes e works fits_type apart b =
      let m = note j (going (coding_in k) w.next b.inner) in
      place_begins k law scope spot (coded (coding_in k) spot.at e b.free (To (Some j) m)) b.block b.here low (v + 1) (v ∷ []) w (declare_with k.calls (here_in k) spot v (scalar-initial e))
      (λ c es l u s leads sound fits h ready.
      (let memory = with_new k v a is Initialising s.memory in
      let s1 : State = record s { memory = memory } in
      let frames = frames_length k.setting.program k.setting.unit s.memory k.frames k.setting.waiting h.frames in
      let next : source-value.Value → State → Outcome = λ val t. Next (record t { memory = begun_in (set_value t.memory (length s.memory) 0 val) (length s.memory) }) in
      let less = law.low v j named in
      let size = b.size in
      let above = begun_above k b.free b.size in
      subst (λ z. Runs k c es low (v + 1) (v ∷ []) s.memory w (on_value (value_at k.calls (here_in k) spot e z) next)) (sym (made_is k v a is Initialising s frames))
      (runs_since k c es low (v + 1) low (v + 1) (v ∷ []) s.memory memory w (on_value (value_at k.calls (here_in k) spot e s1) next) (omega arith) (omega arith) (grown_made k v a is Initialising s.memory low le)
      (value_runs k spot.at e works c es l u s1 (sound_made k v a is Initialising (λ young. law.apart.single v j a named is) s low le h.under sound) (fits_made k v a s l u fits (λ inside. scalar_nowhere k law v j (depth_in k.setting) named inside)) (ready_made k v a is Initialising (place_at k spot.at) s.memory ready)
      (begun (coding_in k) b.free) above low (v + 1) (v ∷ []) w (Some j) m next b.stands (omega (arith, less, above), λ lt. apart memory) leads
      (λ val s2 l2 u2 leads2 sound2 fits2 since same kind.
      (let o = since.later (length s.memory) (new_in k v a is Initialising) (last_is s.memory (new_in k v a is Initialising)) in
      let alive : o.object.phase ≢ Ended = λ over. initialising_open (o.phase.open_before over) in
      let typed : IsOf s2.memory (loaded_type o.object.element) val = subst (λ q. IsOf s2.memory (loaded_type q) val) (sym o.element) (kind_is_of s2.memory (kind_of k.setting.program k.setting.tree e) (loaded_type (element_scalar a.of)) val fits_type kind) in
      subst (λ z. Arrives k c es low (v + 1) (v ∷ []) s2.memory w.next (record s2 { memory = z })) (sym (begun_after k v s2 (length s.memory) o.object o.is o.owner alive val sound2 typed))
      (noted_after k law v j named s2 (length s.memory) o.object o.is o.owner alive val sound2 typed c es low (v + 1) w.next b.inner (place_at k spot.at) l2 u2 fits2 same leads2)))))))
    where
      initialising_open : {A : Type 0} → Initialising ≡ Ended → A
      initialising_open h = cc

  -- A scalar without one is zero.
  pub zero_goes : Begins k scope spot.at (λ t i. instruction_before (unit.Move j (unit.Constant 0)) (note j (going (coding_in k) w.next i))) → GoesOn k low (v + 1) (v ∷ []) w scope (Some spot.at) (λ s. activations.at (here_in k) spot s (declare_with k.calls (here_in k) spot v Zero))
  zero_goes b =
      let m = note j (going (coding_in k) w.next b.inner) in
      place_begins k law scope spot (instruction_before (unit.Move j (unit.Constant 0)) m) b.block b.here low (v + 1) (v ∷ []) w (declare_with k.calls (here_in k) spot v Zero)
      (λ c es l u s leads sound fits h ready.
      (let o = new_in k v a is Initialising in
      let memory = with_new k v a is Initialising s.memory in
      let s1 : State = record s { memory = memory } in
      let frames = frames_length k.setting.program k.setting.unit s.memory k.frames k.setting.waiting h.frames in
      let zero_is = zero_of (element_scalar a.of) in
      let sound1 = sound_made k v a is Initialising (λ young. law.apart.single v j a named is) s low le h.under sound in
      let fits1 = fits_made k v a s l u fits (λ inside. scalar_nowhere k law v j (depth_in k.setting) named inside) in
      let l1 = set_name l j (Number 0) in
      let fits2 = fits_wanted k.setting s1 l u j (Number 0) fits1 in
      let same : SameValue k.setting.program memory u.memory zero_is (l1.names j) = subst (SameValue k.setting.program memory u.memory zero_is) (sym (put_here l.names j (Number 0))) (zero_same k.setting.program memory u.memory (element_scalar a.of).stars) in
      let typed = zero_typed memory (element_scalar a.of).base (element_scalar a.of).stars in
      let alive : o.phase ≢ Ended = λ over. initialising_open over in
      let moved = then_leads leads (goes refl stays) in
      let r = noted_after k law v j named s1 (length s.memory) o (last_is s.memory o) refl alive zero_is sound1 typed c es low (v + 1) w.next b.inner (place_at k spot.at) l1 u fits2 same moved in
      subst (λ z. Runs k c es low (v + 1) (v ∷ []) s.memory w (Next z)) (sym (made_is k v a is Live s frames))
      (runs_since k c es low (v + 1) low (v + 1) (v ∷ []) s.memory memory w (Next (record s { memory = with_new k v a is Live s.memory })) (omega arith) (omega arith) (grown_made k v a is Initialising s.memory low le)
      (subst (λ z. Arrives k c es low (v + 1) (v ∷ []) memory w.next (record s { memory = z }))
      (set_last s.memory o (record o { values = slice_set o.values 0 zero_is; phase = Live }) ∙ ap (λ vs. s.memory ++ record o { values = vs; phase = Live } ∷ []) (same_first (value_count a.of) zero_is)) r))))
    where
      initialising_open : {A : Type 0} → Initialising ≡ Ended → A
      initialising_open h = cc

-- What a program's run keeps is kept by declarators of scalars.
module _ (k : Activity) (scope : List ℕ) (low : ℕ) (spot : Spot) (here : PlaceIs k scope spot.at) (v : ℕ) (a : AutomaticTree) (is : slice_get k.setting.program.automatics v ≡ Some a) (le : low ≤ v) where
  pub initialised_keeps : value_count a.of ≡ 1 → (e : RvalueTree) → Works k (place_at k spot.at) e → is_of (kind_of k.setting.program k.setting.tree e) (loaded_type (element_scalar a.of)) ≡ true → KeepsOn k low (v + 1) (v ∷ []) scope (λ s. activations.at (here_in k) spot s (declare_with k.calls (here_in k) spot v (scalar-initial e)))
  initialised_keeps single e works fits_type =
      place_kept k scope spot here low (v + 1) (v ∷ []) (declare_with k.calls (here_in k) spot v (scalar-initial e))
      (λ s sound h ready.
      (let memory = with_new k v a is Initialising s.memory in
      let s1 : State = record s { memory = memory } in
      let frames = frames_length k.setting.program k.setting.unit s.memory k.frames k.setting.waiting h.frames in
      let next : source-value.Value → State → Outcome = λ val t. Next (record t { memory = begun_in (set_value t.memory (length s.memory) 0 val) (length s.memory) }) in
      subst (λ z. KeptBy k low (v + 1) (v ∷ []) s.memory (on_value (value_at k.calls (here_in k) spot e z) next)) (sym (made_is k v a is Initialising s frames))
      (kept_since k low (v + 1) low (v + 1) (v ∷ []) s.memory memory (on_value (value_at k.calls (here_in k) spot e s1) next) (omega arith) (omega arith) (grown_made k v a is Initialising s.memory low le)
      (value_kept k spot.at e works s1 (sound_made k v a is Initialising (λ young. single) s low le h.under sound) (ready_made k v a is Initialising (place_at k spot.at) s.memory ready) low (v + 1) (v ∷ []) next
      (λ val s2 sound2 since kind.
      (let o = since.later (length s.memory) (new_in k v a is Initialising) (last_is s.memory (new_in k v a is Initialising)) in
      let alive : o.object.phase ≢ Ended = λ over. initialising_open (o.phase.open_before over) in
      let typed : IsOf s2.memory (loaded_type o.object.element) val = subst (λ q. IsOf s2.memory (loaded_type q) val) (sym o.element) (kind_is_of s2.memory (kind_of k.setting.program k.setting.tree e) (loaded_type (element_scalar a.of)) val fits_type kind) in
      subst (λ z. Stays k low (v + 1) (v ∷ []) s2.memory (record s2 { memory = z })) (sym (begun_after k v s2 (length s.memory) o.object o.is o.owner alive val sound2 typed))
      (record {
        sound = sound_after k v s2 (length s.memory) o.object o.is o.owner alive val sound2 typed;
        grown = grown_after k v s2 (length s.memory) o.object o.is o.owner alive val sound2 typed low (v + 1);
        brings = (lives_after k v s2 (length s.memory) o.object o.is o.owner alive val sound2 typed, tt);
      })))))))
    where
      initialising_open : {A : Type 0} → Initialising ≡ Ended → A
      initialising_open h = cc

  pub zero_keeps : KeepsOn k low (v + 1) (v ∷ []) scope (λ s. activations.at (here_in k) spot s (declare_with k.calls (here_in k) spot v Zero))
  zero_keeps =
      place_kept k scope spot here low (v + 1) (v ∷ []) (declare_with k.calls (here_in k) spot v Zero)
      (λ s sound h ready.
      (let frames = frames_length k.setting.program k.setting.unit s.memory k.frames k.setting.waiting h.frames in
      let o = new_in k v a is Live in
      subst (λ z. Stays k low (v + 1) (v ∷ []) s.memory z) (sym (made_is k v a is Live s frames))
      (record {
        sound = sound_made k v a is Live (λ young. not_initialising young) s low le h.under sound;
        grown = grown_made k v a is Live s.memory low le;
        brings = (record { number = length s.memory; object = o; is = last_is s.memory o; owner = refl; lives = refl }, tt);
      })))
