-- Declarators of arrays with string literals do what they mean.
use Rattle.std.proofs.Common.{◌≡◌, ℕ, zero, suc, ◌+◌, ◌*◌, ◌/◌, ◌<◌, ◌≤◌, ◌⊎◌, inl, inr, List, [], ◌∷◌, ◌++◌, length, map, take, drop, replicate, Some, None, Bool, true, false, ◌&&◌, slice_get, slice_set, refl, sym, ap, ◌∙◌, subst, arith, pos}
use Rattle.std.specs.Prelude.{if◌then◌else◌, nat_le, min, option_map, option_and_then}
use Rattle.std.specs.List.{AllByRecursion}
use Rattle.std.specs.Option.{option_map_or}
use Rattle.std.proofs.lemmas.Bool.{leb-true}
use Rattle.std.proofs.lemmas.Bool.Decides.{nat_tests}
use Rattle.std.proofs.lemmas.List.{length-replicate}
use Rattle.debug_records.specs.declared.source.Spot.{Spot}
use Rattle.c_tree.specs.declared.types.IntegerType.{IntegerType}
use Rattle.c_tree.specs.declared.types.IntegerType.TheVariants.{Char}
use Rattle.c_tree.specs.declared.object_type.Scalar.{Scalar}
use Rattle.c_tree.specs.TypedStatements.{Literal}
use Rattle.c_tree.specs.Programs.{AutomaticTree, LiteralTree}
use Rattle.c_type_rules.specs.Types.{loaded_type}
use Rattle.c_meaning_values.specs.declared.value.Value as source-value
use Rattle.c_meaning_values.specs.declared.value.Phase.TheVariants.{Initialising, Live}
use Rattle.c_meaning_values.specs.Types.{element_scalar, value_count, scalar_size, size_by_stars, zero_of}
use Rattle.c_meaning_values.specs.Memory.{Memory as SourceMemory}
use Rattle.c_meaning_steps.specs.States.{State, Next}
use Rattle.c_meaning.specs.Activations as activations
use Rattle.c_meaning.specs.Lifetimes.{element_type, element_value, literal_values, set_values}
use Rattle.c_meaning.specs.Statements.{declare_with}
use Rattle.c_flow.specs.declared.edge.Ways.{Ways}
use Rattle.graph_core.specs.declared.value.Value.{Value}
use Rattle.graph_core.specs.declared.value.Value.TheVariants.{Number}
use Rattle.graph_core.specs.declared.instruction.Element.{Element}
use Rattle.graph_core.specs.Graphs as unit
use Rattle.graph_core.specs.Memory.{Object, Memory, bytes_of, words_of, with_object, filled, zeroed, copied, elements_from}
use Rattle.graph_core.specs.Runs.{Configuration, Event, Goes, step, with_memory}
use Rattle.graph_core.specs.Values.{size_of}
use Rattle.graph_build_names.specs.Names.{object_of}
use Rattle.graph_build_steps.specs.Rules as rule
use Rattle.graph_build_steps.specs.Drafts.{Made, instruction_before}
use Rattle.graph_build_statements.specs.Coding.{going}
use Rattle.graph_build_statements.specs.Declaring.{cleared}
use Rattle.graph_build_runs.specs.Typed.{IsOf}
use Rattle.graph_build_runs.specs.Correspondence.{SameValues}
use Rattle.graph_build_runs.proofs.Leads.{names_in, Local, World, Leads, goes, stays, then_leads}
use Rattle.graph_build_runs.proofs.Later.{set_here, set_twice}
use Rattle.graph_build_runs.proofs.Elements.{element_size}
use Rattle.graph_build_runs.proofs.Wrapping.{wrapped_holds}
use Rattle.graph_build_runs.proofs.Activities.{Activity, coding_in, here_in, place_at, before_in}
use Rattle.graph_build_runs.proofs.Living.{frames_length}
use Rattle.graph_build_runs.proofs.Outcomes.{Runs, GoesOn}
use Rattle.graph_build_runs.proofs.Stops.{Lawful, PlaceIs, place_begins}
use Rattle.graph_build_runs.proofs.AtPlaces.{Begins, going_comes}
use Rattle.graph_build_runs.proofs.Keeping.{KeptBy, KeepsOn, place_kept}
use Rattle.graph_build_runs.proofs.Making.{new_in, with_new, made_is, zero_typed}
use Rattle.graph_build_runs.proofs.Clearing.{zeroed_is}
use Rattle.graph_build_runs.proofs.Arrays.{with_array, sound_array, grown_array, lives_array, fits_array}
use Rattle.graph_build_runs.proofs.ArrayLiterals.{filled_with, filled_length, filled_all, values_set_in, copied_same}
use Rattle.base_laws.proofs.Numbers.{least}

elements_length : (bytes : List ℕ) (e : Element) (index count : ℕ) → length (elements_from bytes e index count) ≡ count
elements_length bytes e index zero = refl
elements_length bytes e index (suc count) = ap (λ n. suc n) (elements_length bytes e (index + 1) count)

taken_length : {A : Type 0} (n m : ℕ) (xs ys : List A) → length xs ≡ m → length ys ≡ n → length (take n xs ++ drop m ys) ≡ n
taken_length zero zero [] [] e f = refl
taken_length zero (suc m) (x ∷ xs) [] e f = refl
taken_length zero m xs (y ∷ ys) e f = absurd (omega (arith, f))
taken_length zero zero (x ∷ xs) [] e f = absurd (omega (arith, e))
taken_length zero (suc m) [] [] e f = absurd (omega (arith, e))
taken_length (suc n) m xs [] e f = absurd (omega (arith, f))
taken_length (suc n) zero [] (y ∷ ys) e f = f
taken_length (suc n) zero (x ∷ xs) (y ∷ ys) e f = absurd (omega (arith, e))
taken_length (suc n) (suc m) [] (y ∷ ys) e f = absurd (omega (arith, e))
taken_length (suc n) (suc m) (x ∷ xs) (y ∷ ys) e f = ap (λ k. suc k) (taken_length n m xs ys (omega (arith, e)) (omega (arith, f)))

-- So many words of bytes are copied into an object of elements of one byte.
module _ (memory : Memory) (m : ℕ) (q : Object) (sc : Scalar) (count words : ℕ) (bytes : List ℕ) (is : slice_get memory m ≡ Some q) (lives : q.live ≡ true) (element : q.element ≡ rule.element_of sc) (single : scalar_size sc ≡ 1) (length_is : length q.values ≡ count) where
  abbrev pub copied_values : List Value
  copied_values = take count (elements_from bytes (rule.element_of sc) 0 (4 * words)) ++ drop (4 * words) q.values

  size_is : size_of q.element ≡ 1
  size_is = ap size_of element ∙ element_size sc ∙ single

  pub copied_length : length copied_values ≡ count
  copied_length = taken_length count (4 * words) (elements_from bytes (rule.element_of sc) 0 (4 * words)) q.values (elements_length bytes (rule.element_of sc) 0 (4 * words)) length_is

  values_are : take (length q.values) (elements_from bytes q.element 0 (4 * words / size_of q.element)) ++ drop (length (elements_from bytes q.element 0 (4 * words / size_of q.element))) q.values ≡ copied_values
  values_are =
      let whole : 4 * words / 1 ≡ 4 * words = omega arith in
      ap (λ n. take (length q.values) (elements_from bytes q.element 0 (4 * words / size_of q.element)) ++ drop n q.values) (elements_length bytes q.element 0 (4 * words / size_of q.element))
      ∙ ap (λ n. take (length q.values) (elements_from bytes q.element 0 n) ++ drop n q.values) (ap (λ n. 4 * words / n) size_is ∙ whole)
      ∙ ap (λ n. take n (elements_from bytes q.element 0 (4 * words)) ++ drop (4 * words) q.values) length_is ∙ ap (λ e. take count (elements_from bytes e 0 (4 * words)) ++ drop (4 * words) q.values) element

  pub copied_is : words ≤ words_of (length bytes) → words ≤ words_of count → copied memory m bytes words ≡ Some (slice_set memory m (record q { values = copied_values }))
  copied_is has fits =
      let room : bytes_of q ≡ count = ap (λ n. n * size_of q.element) length_is ∙ ap (λ n. count * n) size_is ∙ omega arith in
      let can : q.live && nat_le words (words_of (bytes_of q)) ≡ true = ap (λ b. b && nat_le words (words_of (bytes_of q))) lives ∙ ap (λ n. nat_le words (words_of n)) room ∙ least words (words_of count) fits in
      ap (λ b. if b then option_and_then (λ o. option_map (with_object memory m) (filled words (elements_from bytes o.element 0 (4 * words / size_of o.element)) o)) (slice_get memory m) else None) (least words (words_of (length bytes)) has)
      ∙ ap (option_and_then (λ o. option_map (with_object memory m) (filled words (elements_from bytes o.element 0 (4 * words / size_of o.element)) o))) is
      ∙ ap (λ b. option_map (with_object memory m) (if b then Some (record q { values = take (length q.values) (elements_from bytes q.element 0 (4 * words / size_of q.element)) ++ drop (length (elements_from bytes q.element 0 (4 * words / size_of q.element))) q.values }) else None)) can
      ∙ ap (λ vs. Some (slice_set memory m (record q { values = vs }))) values_are

-- a byte becomes a number of an array's type
byte_typed : (memory : SourceMemory) (base : IntegerType) (stars b : ℕ) → size_by_stars base stars ≡ 1 → IsOf memory (loaded_type (record { base = base; stars = stars })) (element_value base b)
byte_typed memory base zero b single = wrapped_holds base (pos b)
byte_typed memory base (suc stars) b single = cc

module _ (k : Activity) (law : Lawful k) (v j : ℕ) (a : AutomaticTree) (is : slice_get k.setting.program.automatics v ≡ Some a) (named : object_of (names_in k.setting) v ≡ Some j) (inside : a.in_memory ≡ true) (scope : List ℕ) (low : ℕ) (w : Ways) (spot : Spot) (le : low ≤ v)
    (n : ℕ) (l : LiteralTree) (literal_is : slice_get k.setting.program.array_literals n ≡ Some l) (bytes_are : slice_get k.setting.unit.array_bytes n ≡ Some l.bytes) (single : scalar_size (element_scalar a.of) ≡ 1) where
  abbrev element : Scalar
  element = element_scalar a.of

  abbrev count : ℕ
  count = value_count a.of

  abbrev given_values : List source-value.Value
  given_values = map (element_value element.base) l.bytes

  abbrev values : List source-value.Value
  values = filled_with count (zero_of element) given_values

  -- how many words are copied
  abbrev words : ℕ
  words = min (words_of count) (words_of (length l.bytes))

  mapped_typed : (memory : SourceMemory) (bytes : List ℕ) → AllByRecursion (IsOf memory (loaded_type element)) (map (element_value element.base) bytes)
  mapped_typed memory [] = tt
  mapped_typed memory (b ∷ bytes) = (byte_typed memory element.base element.stars b single, mapped_typed memory bytes)

  values_typed : (memory : SourceMemory) → AllByRecursion (IsOf memory (loaded_type element)) values
  values_typed memory = filled_all (IsOf memory (loaded_type element)) count (zero_of element) given_values (zero_typed memory element.base element.stars) (mapped_typed memory l.bytes)

  type_is : element_type (here_in k) v ≡ element.base
  type_is = ap (λ r. option_map_or (λ (q : AutomaticTree). (element_scalar q.of).base) r Char) is

  -- the program's run behind the declarator
  declared_is : (s : State) → length k.frames ≡ length k.setting.waiting → declare_with k.calls (here_in k) spot v (Literal n) s ≡ Next (record s { memory = with_array k v a is values s.memory })
  declared_is s same_depth =
      ap (λ t. Next (record t { memory = set_values t.memory (length s.memory) 0 (literal_values k.setting.program.array_literals (element_type (here_in k) v) n) })) (made_is k v a is Live s same_depth)
      ∙ ap (λ vs. Next (record s { memory = set_values (with_new k v a is Live s.memory) (length s.memory) 0 vs }))
      (ap (λ t. literal_values k.setting.program.array_literals t n) type_is ∙ ap (λ r. option_map_or (λ (q : LiteralTree). map (element_value element.base) q.bytes) r []) literal_is)
      ∙ ap (λ m. Next (record s { memory = m })) (values_set_in s.memory (new_in k v a is Live) count (zero_of element) refl given_values)

  -- The unit's run has copied the literal over what the object held, or over zeros.
  record Copies (c : Configuration) (es : List Event) (l2 : Local) (u : World) (place : ℕ) (q : Object) (g : Made) : Type 0 where
    pub old : List Value
    pub size : length old ≡ count
    pub covers : (count ≤ 4 * words) ⊎ ((old ≡ replicate count (Number 0)) × (length l.bytes ≤ 4 * words))
    pub leads : Leads k.setting.unit c es (before_in k place g.ops g.end l2 (record u { memory = slice_set u.memory (k.setting.first + j) (record q { values = take count (elements_from l.bytes (rule.element_of element) 0 (4 * words)) ++ drop (4 * words) old }) })) u.seen

  -- the unit's instruction that copies
  copies_step : (l2 : Local) (u : World) (place : ℕ) (q : Object) → slice_get u.memory (k.setting.first + j) ≡ Some q → q.live ≡ true → q.element ≡ rule.element_of element → length q.values ≡ count → (g : Made)
      → step k.setting.unit (before_in k place (unit.CopyWords j n words ∷ g.ops) g.end l2 u) ≡ Goes (before_in k place g.ops g.end l2 (record u { memory = slice_set u.memory (k.setting.first + j) (record q { values = take count (elements_from l.bytes (rule.element_of element) 0 (4 * words)) ++ drop (4 * words) q.values }) }))
  copies_step l2 u place q at lives kind size g =
      let has : words ≤ words_of (length l.bytes) = omega arith in
      let room : words ≤ words_of count = omega arith in
      ap (λ r. with_memory (before_in k place g.ops g.end l2 u) (option_and_then (λ all. copied u.memory (k.setting.first + j) all words) r)) bytes_are
      ∙ ap (with_memory (before_in k place g.ops g.end l2 u)) (copied_is u.memory (k.setting.first + j) q element count words l.bytes at lives kind single size has room)

  copy_leads : (c : Configuration) (es : List Event) (l2 : Local) (u : World) (place : ℕ) (q : Object) → slice_get u.memory (k.setting.first + j) ≡ Some q → q.live ≡ true → q.element ≡ rule.element_of element → length q.values ≡ count → (g : Made)
      → Leads k.setting.unit c es (before_in k place (cleared j count words (instruction_before (unit.CopyWords j n words) g)).ops (cleared j count words (instruction_before (unit.CopyWords j n words) g)).end l2 u) u.seen → Copies c es l2 u place q g
  copy_leads c es l2 u place q at lives kind size g leads = by (nat_le (words_of count) words) refl leads
    where
      by : (b : Bool) → nat_le (words_of count) words ≡ b
          → Leads k.setting.unit c es (before_in k place (if b then instruction_before (unit.CopyWords j n words) g else instruction_before (unit.Zero j (words_of count)) (instruction_before (unit.CopyWords j n words) g)).ops (if b then instruction_before (unit.CopyWords j n words) g else instruction_before (unit.Zero j (words_of count)) (instruction_before (unit.CopyWords j n words) g)).end l2 u) u.seen
          → Copies c es l2 u place q g
      by true e there = (let all = leb-true (words_of count) words e in
          record { old = q.values; size = size; covers = inl (omega (arith, all)); leads = then_leads there (goes (copies_step l2 u place q at lives kind size g) stays) })
      by false e there =
          let few : words < words_of count = grind (arith, nat_tests, e) in
          let zeros = replicate count (Number 0) in
          let q2 : Object = record q { values = zeros } in
          let at_m = k.setting.first + j in
          let u2 : World = record u { memory = slice_set u.memory at_m q2 } in
          let bytes : count ≡ count * scalar_size element = omega arith ∙ ap (λ z. count * z) (sym single) in
          let clears : step k.setting.unit (before_in k place (unit.Zero j (words_of count) ∷ unit.CopyWords j n words ∷ g.ops) g.end l2 u) ≡ Goes (before_in k place (unit.CopyWords j n words ∷ g.ops) g.end l2 u2) =
          ap (λ z. with_memory (before_in k place (unit.CopyWords j n words ∷ g.ops) g.end l2 u) (zeroed u.memory at_m ((z + 3) / 4))) bytes ∙ ap (with_memory (before_in k place (unit.CopyWords j n words ∷ g.ops) g.end l2 u)) (zeroed_is u.memory at_m q element count at lives kind size) in
          let size2 = length-replicate count (Number 0) in
          let copies = copies_step l2 u2 place q2 (set_here u.memory at_m q q2 at) lives kind size2 g in
          let once = ap (λ memory. Goes (before_in k place g.ops g.end l2 (record u { memory = memory }))) (set_twice u.memory at_m q2 (record q { values = take count (elements_from l.bytes (rule.element_of element) 0 (4 * words)) ++ drop (4 * words) zeros })) in
          record { old = zeros; size = size2; covers = inr (refl, omega (arith, few)); leads = then_leads there (goes clears (goes (copies ∙ once) stays)) }

  -- An array with a literal,
  pub literal_goes : Begins k scope spot.at (λ t i. cleared j count words (instruction_before (unit.CopyWords j n words) (going (coding_in k) w.next i))) → GoesOn k low (v + 1) (v ∷ []) w scope (Some spot.at) (λ s. activations.at (here_in k) spot s (declare_with k.calls (here_in k) spot v (Literal n)))
  literal_goes b =
      let g = going (coding_in k) w.next b.inner in
      let m = instruction_before (unit.CopyWords j n words) g in
      place_begins k law scope spot (cleared j count words m) b.block b.here low (v + 1) (v ∷ []) w (declare_with k.calls (here_in k) spot v (Literal n))
      (λ c es l2 u s leads sound fits h ready.
      (let p = k.setting.program in
      let place = place_at k spot.at in
      let q = fits.own.objects v j a named is in
      let number = k.setting.first + j in
      let before_memory = with_new k v a is Initialising s.memory in
      let frames = frames_length p k.setting.unit s.memory k.frames k.setting.waiting h.frames in
      let to : List Value → World = λ ws. record u { memory = slice_set u.memory number (record q.object { values = ws }) } in
      let arrives : (ws : List Value) → length ws ≡ count → SameValues p before_memory u.memory values ws → Leads k.setting.unit c es (before_in k place g.ops g.end l2 (to ws)) u.seen → Runs k c es low (v + 1) (v ∷ []) s.memory w (declare_with k.calls (here_in k) spot v (Literal n) s) = λ ws size same there.
      subst (λ o. Runs k c es low (v + 1) (v ∷ []) s.memory w o) (sym (declared_is s frames))
      (record {
        place = place;
        local = l2;
        world = to ws;
        comes = going_comes k c es w.next b.inner place l2 (to ws) there;
        sound = sound_array k v a is s low le h.under sound values (filled_length count (zero_of element) given_values) (values_typed (with_array k v a is values s.memory));
        fits = fits_array k law v j a is named inside s l2 u low le h.under sound fits values ws (filled_length count (zero_of element) given_values) size same;
        grown = grown_array k v a is s.memory low values le;
        brings = (lives_array k v a is s.memory values, tt);
      }) in
      let copies = copy_leads c es l2 u place q.object q.is q.lives q.element q.count g leads in
      let ws = take count (elements_from l.bytes (rule.element_of element) 0 (4 * words)) ++ drop (4 * words) copies.old in
      arrives ws (taken_length count (4 * words) (elements_from l.bytes (rule.element_of element) 0 (4 * words)) copies.old (elements_length l.bytes (rule.element_of element) 0 (4 * words)) copies.size)
      (copied_same p before_memory u.memory element single l.bytes count (4 * words) 0 l.bytes copies.old refl copies.size copies.covers) copies.leads))

  -- and what is kept by it.
  pub literal_keeps : PlaceIs k scope spot.at → KeepsOn k low (v + 1) (v ∷ []) scope (λ s. activations.at (here_in k) spot s (declare_with k.calls (here_in k) spot v (Literal n)))
  literal_keeps here =
      place_kept k scope spot here low (v + 1) (v ∷ []) (declare_with k.calls (here_in k) spot v (Literal n))
      (λ s sound h ready.
      (let frames = frames_length k.setting.program k.setting.unit s.memory k.frames k.setting.waiting h.frames in
      subst (λ o. KeptBy k low (v + 1) (v ∷ []) s.memory o) (sym (declared_is s frames))
      (record {
        sound = sound_array k v a is s low le h.under sound values (filled_length count (zero_of element) given_values) (values_typed (with_array k v a is values s.memory));
        grown = grown_array k v a is s.memory low values le;
        brings = (lives_array k v a is s.memory values, tt);
      })))
