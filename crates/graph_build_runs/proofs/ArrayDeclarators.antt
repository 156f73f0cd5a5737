-- Declarators of arrays with initializers do what they mean.
use Rattle.std.proofs.Common.{◌≡◌, ℕ, ◌+◌, ◌*◌, ◌/◌, ◌≤◌, List, [], ◌∷◌, length, replicate, Option, Some, None, true, slice_get, slice_set, refl, sym, ap, ◌∙◌, subst, arith, pos}
use Rattle.std.specs.Prelude.{if◌then◌else◌, min}
use Rattle.std.specs.Option.{option_map_or}
use Rattle.std.proofs.lemmas.List.{length-replicate}
use Rattle.debug_records.specs.declared.source.Spot.{Spot}
use Rattle.c_tree.specs.declared.types.IntegerType.TheVariants.{Char}
use Rattle.c_tree.specs.declared.object_type.Scalar.{Scalar}
use Rattle.c_tree.specs.declared.object_type.ObjectType.TheVariants as of-object
use Rattle.c_tree.specs.TypedExpressions.{RvalueTree}
use Rattle.c_tree.specs.TypedStatements.{DeclaredTree, Elements, Literal}
use Rattle.c_tree.specs.Programs.{AutomaticTree, LiteralTree}
use Rattle.c_type_rules.specs.Integers.{scalar_size as type_size}
use Rattle.c_meaning_values.specs.declared.value.Phase.TheVariants.{Initialising, Live}
use Rattle.c_meaning_values.specs.Types.{element_scalar, value_count, scalar_size, zero_of}
use Rattle.c_meaning_steps.specs.States.{State}
use Rattle.c_meaning.specs.Activations as activations
use Rattle.c_meaning.specs.Statements.{initialise_elements, declare_with}
use Rattle.c_flow.specs.declared.edge.Ways.{Ways}
use Rattle.graph_core.specs.declared.value.Value.TheVariants.{Number}
use Rattle.graph_core.specs.Graphs as unit
use Rattle.graph_core.specs.Memory.{words_of}
use Rattle.graph_core.specs.Runs.{Goes, step, with_memory}
use Rattle.graph_build_names.specs.Names.{scalar_of, object_of}
use Rattle.graph_build_steps.specs.Drafts.{instruction_before}
use Rattle.graph_build_steps.specs.Steps.{or_zero}
use Rattle.graph_build_statements.specs.Coding.{begun, going}
use Rattle.graph_build_statements.specs.Declaring.{object_type_of, cleared, store_elements, copied_words, declare_array, declare_kept, declare_as}
use Rattle.graph_build_runs.proofs.Leads.{names_in, World, goes, stays, then_leads}
use Rattle.graph_build_runs.proofs.Later.{not_initialising}
use Rattle.graph_build_runs.proofs.Activities.{Activity, coding_in, here_in, place_at, before_in}
use Rattle.graph_build_runs.proofs.Living.{frames_length}
use Rattle.graph_build_runs.proofs.Outcomes.{Runs, GoesOn, runs_since}
use Rattle.graph_build_runs.proofs.Stops.{Lawful, PlaceIs, place_begins}
use Rattle.graph_build_runs.proofs.AtPlaces.{Begins, begun_above}
use Rattle.graph_build_runs.proofs.Keeping.{KeptBy, KeepsOn, kept_since, place_kept}
use Rattle.graph_build_runs.proofs.Making.{last_is, new_in, with_new, made_is, grown_made, ready_made, sound_made}
use Rattle.graph_build_runs.proofs.Clearing.{zeroed_is, zeros_same}
use Rattle.graph_build_runs.proofs.Forming.{DeclaratorDoes}
use Rattle.graph_build_runs.proofs.Declarators.{type_sizes, some_words, some_size}
use Rattle.graph_build_runs.proofs.Arrays.{IsArray, fits_array}
use Rattle.graph_build_runs.proofs.ArrayElements.{ElementsWork, elements_go}
use Rattle.graph_build_runs.proofs.ArrayKept.{elements_keep}
use Rattle.graph_build_runs.proofs.LiteralArrays.{literal_goes, literal_keeps}

module _ (k : Activity) (law : Lawful k) (v j : ℕ) (a : AutomaticTree) (is : slice_get k.setting.program.automatics v ≡ Some a) (named : object_of (names_in k.setting) v ≡ Some j) (inside : a.in_memory ≡ true) (scope : List ℕ) (low : ℕ) (w : Ways) (spot : Spot) (le : low ≤ v) (all : List RvalueTree) (room : length all ≤ value_count a.of)
    (work : ElementsWork k (place_at k spot.at) (element_scalar a.of) all) where
  -- how many words are cleared first
  abbrev clear_words : ℕ
  clear_words = (value_count a.of * scalar_size (element_scalar a.of) + 3) / 4

  -- the new object is an array that lives
  new_array : (s : State) → IsArray k v a (with_new k v a is Live s.memory) (length s.memory)
  new_array s = record { object = new_in k v a is Live; is = last_is s.memory (new_in k v a is Live); owner = refl; lives = refl; element = refl; count = length-replicate (value_count a.of) (zero_of (element_scalar a.of)) }

  -- An array with elements is zero, and then takes them.
  elements_goes : Begins k scope spot.at (λ t i. instruction_before (unit.Zero j clear_words) (store_elements (coding_in k) spot.at (element_scalar a.of) j 0 all (begun (coding_in k) t) (going (coding_in k) w.next i)))
      → GoesOn k low (v + 1) (v ∷ []) w scope (Some spot.at) (λ s. activations.at (here_in k) spot s (declare_with k.calls (here_in k) spot v (Elements all)))
  elements_goes b =
      let t = begun (coding_in k) b.free in
      let m = store_elements (coding_in k) spot.at (element_scalar a.of) j 0 all t (going (coding_in k) w.next b.inner) in
      place_begins k law scope spot (instruction_before (unit.Zero j clear_words) m) b.block b.here low (v + 1) (v ∷ []) w (declare_with k.calls (here_in k) spot v (Elements all))
      (λ c es l u s leads sound fits h ready.
      (let p = k.setting.program in
      let place = place_at k spot.at in
      let frames = frames_length p k.setting.unit s.memory k.frames k.setting.waiting h.frames in
      let sc = element_scalar a.of in
      let count = value_count a.of in
      let q = fits.own.objects v j a named is in
      let number = k.setting.first + j in
      let zeros = replicate count (zero_of sc) in
      let words = replicate count (Number 0) in
      let u2 : World = record u { memory = slice_set u.memory number (record q.object { values = words }) } in
      let memory = with_new k v a is Live s.memory in
      let s1 : State = record s { memory = memory } in
      let sound1 = sound_made k v a is Live (λ young. not_initialising young) s low le h.under sound in
      let fits1 = fits_array k law v j a is named inside s l u low le h.under sound fits zeros words (length-replicate count (zero_of sc)) (length-replicate count (Number 0)) (zeros_same p (with_new k v a is Initialising s.memory) u.memory sc.stars sc refl count) in
      let clears : step k.setting.unit (before_in k place (unit.Zero j clear_words ∷ m.ops) m.end l u) ≡ Goes (before_in k place m.ops m.end l u2) = ap (with_memory (before_in k place m.ops m.end l u)) (zeroed_is u.memory number q.object sc count q.is q.lives q.element q.count) in
      subst (λ z. Runs k c es low (v + 1) (v ∷ []) s.memory w (initialise_elements k.calls (here_in k) spot (length s.memory) 0 all z)) (sym (made_is k v a is Live s frames))
      (runs_since k c es low (v + 1) low (v + 1) (v ∷ []) s.memory memory w (initialise_elements k.calls (here_in k) spot (length s.memory) 0 all s1) (omega arith) (omega arith) (grown_made k v a is Live s.memory low le)
      (elements_go k law v j a is named inside low w spot b.inner all 0 t (begun_above k b.free b.size) work (omega (arith, room)) b.stands c es l u2 s1 (then_leads leads (goes clears stays)) sound1 fits1 (ready_made k v a is Live place s.memory ready) (length s.memory) (new_array s)))))

  elements_kept : PlaceIs k scope spot.at → KeepsOn k low (v + 1) (v ∷ []) scope (λ s. activations.at (here_in k) spot s (declare_with k.calls (here_in k) spot v (Elements all)))
  elements_kept here =
      place_kept k scope spot here low (v + 1) (v ∷ []) (declare_with k.calls (here_in k) spot v (Elements all))
      (λ s sound h ready.
      (let frames = frames_length k.setting.program k.setting.unit s.memory k.frames k.setting.waiting h.frames in
      let memory = with_new k v a is Live s.memory in
      let s1 : State = record s { memory = memory } in
      subst (λ z. KeptBy k low (v + 1) (v ∷ []) s.memory (initialise_elements k.calls (here_in k) spot (length s.memory) 0 all z)) (sym (made_is k v a is Live s frames))
      (kept_since k low (v + 1) low (v + 1) (v ∷ []) s.memory memory (initialise_elements k.calls (here_in k) spot (length s.memory) 0 all s1) (omega arith) (omega arith) (grown_made k v a is Live s.memory low le)
      (elements_keep k law v j a is named inside low spot all 0 work s1 (sound_made k v a is Live (λ young. not_initialising young) s low le h.under sound) (ready_made k v a is Live (place_at k spot.at) s.memory ready) (length s.memory) (new_array s)))))

-- A declarator of an array in memory.
module _ (k : Activity) (law : Lawful k) (d : DeclaredTree) (a : AutomaticTree) (is : slice_get k.setting.program.automatics d.variable ≡ Some a) (j : ℕ) (sc : Scalar) (n : ℕ) (nowhere : scalar_of (names_in k.setting) d.variable ≡ None) (named : object_of (names_in k.setting) d.variable ≡ Some j) (inside : a.in_memory ≡ true)
    (array : a.of ≡ of-object.Array sc n) where
  counts : value_count a.of ≡ n
  counts = ap value_count array

  elements : element_scalar a.of ≡ sc
  elements = ap element_scalar array

  bytes_are : type_size sc * n ≡ n * scalar_size sc
  bytes_are = ap (λ x. x * n) (type_sizes sc.base sc.stars) ∙ swapped (scalar_size sc) n
    where
      swapped : (x y : ℕ) → x * y ≡ y * x
      swapped x y = grind arith

  -- its code
  array_begins : (scope : List ℕ) (next : Option ℕ) → Begins k scope d.spot.at (λ t i. declare_as (coding_in k) (scalar_of (names_in k.setting) d.variable) d t (going (coding_in k) next i)) → Begins k scope d.spot.at (λ t i. declare_array (coding_in k) d.spot.at j sc (n * scalar_size sc) d.initial t (going (coding_in k) next i))
  array_begins scope next b =
      let b1 = subst (λ o. Begins k scope d.spot.at (λ t i. declare_as (coding_in k) o d t (going (coding_in k) next i))) nowhere b in
      let b2 = subst (λ o. Begins k scope d.spot.at (λ t i. declare_kept (coding_in k) d.spot.at (or_zero o) (object_type_of k.setting.program d.variable) d.initial t (going (coding_in k) next i))) named b1 in
      let typed : object_type_of k.setting.program d.variable ≡ of-object.Array sc n = ap (λ r. option_map_or (λ (q : AutomaticTree). q.of) r (of-object.Array (record { base = Char; stars = 0 }) 0)) is ∙ array in
      let b3 = subst (λ of. Begins k scope d.spot.at (λ t i. declare_kept (coding_in k) d.spot.at j of d.initial t (going (coding_in k) next i))) typed b2 in
      subst (λ x. Begins k scope d.spot.at (λ t i. declare_array (coding_in k) d.spot.at j sc x d.initial t (going (coding_in k) next i))) bytes_are b3

  -- With elements,
  pub array_elements : (all : List RvalueTree) → d.initial ≡ Elements all → 1 ≤ n → length all ≤ n → ElementsWork k (place_at k d.spot.at) sc all → DeclaratorDoes k d
  array_elements all init enough room work scope low w le b =
      let b1 = array_begins scope w.next b in
      let b2 = subst (λ q. Begins k scope d.spot.at (λ t i. declare_array (coding_in k) d.spot.at j sc (n * scalar_size sc) q t (going (coding_in k) w.next i))) init b1 in
      let b3 = subst (λ c. Begins k scope d.spot.at (λ t i. if c then store_elements (coding_in k) d.spot.at sc j 0 all (begun (coding_in k) t) (going (coding_in k) w.next i) else instruction_before (unit.Zero j ((n * scalar_size sc + 3) / 4)) (store_elements (coding_in k) d.spot.at sc j 0 all (begun (coding_in k) t) (going (coding_in k) w.next i))))
      (some_words n (scalar_size sc) enough (some_size sc.base sc.stars)) b2 in
      let b4 = subst (λ x. Begins k scope d.spot.at (λ t i. instruction_before (unit.Zero j ((x * scalar_size sc + 3) / 4)) (store_elements (coding_in k) d.spot.at sc j 0 all (begun (coding_in k) t) (going (coding_in k) w.next i)))) (sym counts) b3 in
      let b5 = subst (λ s. Begins k scope d.spot.at (λ t i. instruction_before (unit.Zero j ((value_count a.of * scalar_size s + 3) / 4)) (store_elements (coding_in k) d.spot.at s j 0 all (begun (coding_in k) t) (going (coding_in k) w.next i)))) (sym elements) b4 in
      let room2 : length all ≤ value_count a.of = omega (arith, room, counts) in
      let work2 = subst (λ s. ElementsWork k (place_at k d.spot.at) s all) (sym elements) work in (
        subst (λ q. GoesOn k low (d.variable + 1) (d.variable ∷ []) w scope (Some d.spot.at) (λ s. activations.at (here_in k) d.spot s (declare_with k.calls (here_in k) d.spot d.variable q))) (sym init)
            (elements_goes k law d.variable j a is named inside scope low w d.spot le all room2 work2 b5),
        subst (λ q. KeepsOn k low (d.variable + 1) (d.variable ∷ []) scope (λ s. activations.at (here_in k) d.spot s (declare_with k.calls (here_in k) d.spot d.variable q))) (sym init)
            (elements_kept k law d.variable j a is named inside scope low w d.spot le all room2 work2 b.here),
      )

  -- and with a literal.
  pub array_literal : (m : ℕ) (l : LiteralTree) → d.initial ≡ Literal m → slice_get k.setting.program.array_literals m ≡ Some l → slice_get k.setting.unit.array_bytes m ≡ Some l.bytes → scalar_size sc ≡ 1 → DeclaratorDoes k d
  array_literal m l init literal_is unit_bytes single scope low w le b =
      let b1 = array_begins scope w.next b in
      let b2 = subst (λ q. Begins k scope d.spot.at (λ t i. declare_array (coding_in k) d.spot.at j sc (n * scalar_size sc) q t (going (coding_in k) w.next i))) init b1 in
      let bytes : n * scalar_size sc ≡ value_count a.of = ap (λ z. n * z) single ∙ omega arith ∙ sym counts in
      let b3 = subst (λ x. Begins k scope d.spot.at (λ t i. cleared j x (copied_words (coding_in k) m x) (instruction_before (unit.CopyWords j m (copied_words (coding_in k) m x)) (going (coding_in k) w.next i)))) bytes b2 in
      let count = value_count a.of in
      let words : copied_words (coding_in k) m count ≡ min (words_of count) (words_of (length l.bytes)) = ap (λ r. option_map_or (λ (q : LiteralTree). min (words_of count) (words_of (length q.bytes))) r 0) literal_is in
      let b4 = subst (λ x. Begins k scope d.spot.at (λ t i. cleared j count x (instruction_before (unit.CopyWords j m x) (going (coding_in k) w.next i)))) words b3 in
      let single2 = ap scalar_size elements ∙ single in (
        subst (λ q. GoesOn k low (d.variable + 1) (d.variable ∷ []) w scope (Some d.spot.at) (λ s. activations.at (here_in k) d.spot s (declare_with k.calls (here_in k) d.spot d.variable q))) (sym init)
            (literal_goes k law d.variable j a is named inside scope low w d.spot le m l literal_is unit_bytes single2 b4),
        subst (λ q. KeepsOn k low (d.variable + 1) (d.variable ∷ []) scope (λ s. activations.at (here_in k) d.spot s (declare_with k.calls (here_in k) d.spot d.variable q))) (sym init)
            (literal_keeps k law d.variable j a is named inside scope low w d.spot le m l literal_is unit_bytes single2 b.here),
      )
