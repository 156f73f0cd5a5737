-- An array takes its values in both runs.
use Rattle.std.proofs.Common.{◌≡◌, ◌≢◌, ℕ, ◌+◌, ◌*◌, ◌<◌, ◌≤◌, List, [], ◌∷◌, ◌++◌, length, Some, None, true, false, slice_get, slice_set, refl, sym, ap, ◌∙◌, subst, arith}
use Rattle.std.specs.Prelude.{if◌then◌else◌, nat_le, option_map, option_and_then}
use Rattle.std.specs.List.{AllByRecursion}
use Rattle.std.specs.Option.{option_map_or}
use Rattle.std.proofs.lemmas.Bool.Decides.{nat_tests}
use Rattle.std.proofs.lemmas.List.{length-set, length-replicate}
use Rattle.std.proofs.lemmas.Option.{slice_get_within}
use Rattle.word_base.specs.Owners.{Variable}
use Rattle.c_tree.specs.declared.object_type.Scalar.{Scalar}
use Rattle.c_tree.specs.Programs.{AutomaticTree}
use Rattle.c_type_rules.specs.Types.{loaded_type}
use Rattle.c_meaning_values.specs.declared.value.Value as source-value
use Rattle.c_meaning_values.specs.declared.value.Phase.TheVariants.{Initialising, Live, Ended}
use Rattle.c_meaning_values.specs.Types.{element_scalar, value_count, scalar_size, zero_of}
use Rattle.c_meaning_values.specs.Memory.{Object as SourceObject, Memory as SourceMemory, set_value, with_value as source_with}
use Rattle.c_meaning_steps.specs.States.{State}
use Rattle.graph_core.specs.declared.value.Value.{Value}
use Rattle.graph_core.specs.declared.value.Value.TheVariants.{Pointer, Odd}
use Rattle.graph_core.specs.Graphs.{Operand, Instruction, End, Automatic, Store}
use Rattle.graph_core.specs.Memory.{Memory, bytes_of, write, write_in, written_in}
use Rattle.graph_core.specs.Runs.{Goes, step, value}
use Rattle.graph_core.specs.Values.{is_odd, as_element, pointer_at, size_of}
use Rattle.graph_build_names.specs.Names.{object_of}
use Rattle.graph_build_steps.specs.Rules as rule
use Rattle.graph_build_runs.specs.Typed.{IsOf}
use Rattle.graph_build_runs.specs.Correspondence.{owner_of, SameValue, SameValues, IsInMemory}
use Rattle.graph_build_runs.proofs.Leads.{names_in, depth_in, Local, World}
use Rattle.graph_build_runs.proofs.Later.{not_initialising, live_open, Later, later_set}
use Rattle.graph_build_runs.proofs.Kept.{Since, Sound, Fits}
use Rattle.graph_build_runs.proofs.Elements.{reaches, element_size}
use Rattle.graph_build_runs.proofs.Meanings.{sound_set}
use Rattle.graph_build_runs.proofs.Places.{pointed_in}
use Rattle.graph_build_runs.proofs.Storing.{fits_both_set, fits_stored}
use Rattle.graph_build_runs.proofs.Writing.{store_step}
use Rattle.graph_build_runs.proofs.Activities.{Activity, placed, before_in, fits_placed, fits_anywhere, sound_now}
use Rattle.graph_build_runs.proofs.Living.{statics_later, Under, Grown, LivesAt, lives_later, frames_later, was_there}
use Rattle.graph_build_runs.proofs.Stops.{Lawful, Ready}
use Rattle.graph_build_runs.proofs.Making.{last_is, new_in, with_new, differ_made, declared_made, fits_made, sound_more, grown_more}
use Rattle.graph_build_runs.proofs.Declared.{set_last}
use Rattle.graph_build_runs.proofs.Stored.{same_object, placed_new}

-- what holds where a place's code begins holds behind what has ended since
pub ready_since : (k : Activity) (place : ℕ) (before after : SourceMemory) → Since before after → Ready k place before → Ready k place after
ready_since k place before after since h = record {
  statics = statics_later k.setting.program before after since.later h.statics;
  above = λ n o v d is alive owner. (let z = was_there before after since.later n o is alive (since.ends n o is alive) in h.above n z.0 v d z.1 z.2 (sym z.3 ∙ owner));
  frames = frames_later k.setting.program k.setting.unit before after since.later k.frames k.setting.waiting h.frames;
  sees = λ q found j w vis. lives_later before after since.later w (depth_in k.setting) (h.sees q found j w vis);
}

module _ (k : Activity) (v : ℕ) (a : AutomaticTree) (is : slice_get k.setting.program.automatics v ≡ Some a) where
  -- the new object with its values, and the memory with it
  abbrev pub array_of : List source-value.Value → SourceObject
  array_of vs = record (new_in k v a is Live) { values = vs }

  abbrev pub with_array : List source-value.Value → SourceMemory → SourceMemory
  with_array vs memory = memory ++ array_of vs ∷ []

  pub sound_array : (s : State) (low : ℕ) → low ≤ v → Under s.memory (depth_in k.setting) low → Sound k.setting.program s.memory s → (vs : List source-value.Value) → length vs ≡ value_count a.of → AllByRecursion (IsOf (with_array vs s.memory) (loaded_type (element_scalar a.of))) vs
      → Sound k.setting.program (with_array vs s.memory) (record s { memory = with_array vs s.memory })
  sound_array s low le under sound vs count typed = sound_more k v a is (array_of vs) refl refl count (λ young. not_initialising young) s low le under sound typed

  pub grown_array : (memory : SourceMemory) (low : ℕ) (vs : List source-value.Value) → low ≤ v → Grown (depth_in k.setting) low (v + 1) memory (with_array vs memory)
  grown_array memory low vs le = grown_more (depth_in k.setting) memory (array_of vs) low v le refl

  pub lives_array : (memory : SourceMemory) (vs : List source-value.Value) → LivesAt (with_array vs memory) v (depth_in k.setting)
  lives_array memory vs = record { number = length memory; object = array_of vs; is = last_is memory (array_of vs); owner = refl; lives = refl }

-- The object of an array lives.
pub record IsArray (k : Activity) (v : ℕ) (a : AutomaticTree) (memory : SourceMemory) (n : ℕ) : Type 0 where
  pub object : SourceObject
  pub is : slice_get memory n ≡ Some object
  pub owner : object.owner ≡ Variable v (depth_in k.setting)
  pub lives : object.phase ≡ Live
  pub element : object.element ≡ element_scalar a.of
  pub count : length object.values ≡ value_count a.of

pub array_later : (k : Activity) (v : ℕ) (a : AutomaticTree) (before after : SourceMemory) (n : ℕ) → Later before after → IsArray k v a before n → IsArray k v a after n
array_later k v a before after n later h =
    let c = later n h.object h.is in
    record { object = c.object; is = c.is; owner = c.owner ∙ h.owner; lives = c.phase.live h.lives; element = c.element ∙ h.element; count = c.count ∙ h.count }

-- A value that an element keeps of what is written to it.
pub record Taken (k : Activity) (memory : SourceMemory) (others : Memory) (sc : Scalar) (val : source-value.Value) (u : Value) : Type 0 where
  pub kept : Value
  pub keeps : as_element (rule.element_of sc) u ≡ kept
  pub same : SameValue k.setting.program memory others val kept
  pub known : is_odd u ≡ false

open_live : {A : Type 0} → Live ≡ Ended → A
open_live h = cc

module _ (k : Activity) (law : Lawful k) (v j : ℕ) (a : AutomaticTree) (is : slice_get k.setting.program.automatics v ≡ Some a) (named : object_of (names_in k.setting) v ≡ Some j) (inside : a.in_memory ≡ true) where
  -- An array takes all its values at once.
  pub fits_array : (s : State) (l : Local) (u : World) (low : ℕ) → low ≤ v → Under s.memory (depth_in k.setting) low → Sound k.setting.program s.memory s → (fits : Fits k.setting None s l u) → (vs : List source-value.Value) (ws : List Value) → length vs ≡ value_count a.of → length ws ≡ value_count a.of
      → SameValues k.setting.program (with_new k v a is Initialising s.memory) u.memory vs ws
      → Fits k.setting None (record s { memory = with_array k v a is vs s.memory }) l (record u { memory = slice_set u.memory (k.setting.first + j) (record (fits.own.objects v j a named is).object { values = ws }) })
  fits_array s l u low le under sound fits vs ws count unit_count same =
      let p = k.setting.program in
      let o = new_in k v a is Initialising in
      let memory = with_new k v a is Initialising s.memory in
      let s1 : State = record s { memory = memory } in
      let fits1 = fits_made k v a s l u fits (λ inside_it. placed_new k law v j a is named inside s l u fits) in
      let q = fits.own.objects v j a named is in
      let m = k.setting.first + j in
      let others = slice_set u.memory m (record q.object { values = ws }) in
      let u2 : World = record u { memory = others } in
      let counted = length-replicate (value_count a.of) (zero_of (element_scalar a.of)) in
      let alive : o.phase ≢ Ended = λ over. initialising_open over in
      let so = same_object k law v j a is named inside u.memory o refl refl counted q in
      let after : State = record s { memory = with_array k v a is vs s.memory } in
      let fits2 = fits_both_set (placed k 0 memory) None s1 l u (length s.memory) o m q.object vs ws (count ∙ sym counted) (unit_count ∙ sym q.count) Live (live_open o.phase alive) (differ_made k v a is Initialising s.memory low le under sound.differ) (declared_made k v a is Initialising s.memory sound.declared) (fits_placed k 0 memory None s1 l u fits1) (last_is s.memory o) alive (a, is, inside) q.is so
      (λ live. same) in
      fits_anywhere k 0 memory None after l u2 (subst (λ z. Fits (placed k 0 memory) None (record s { memory = z }) l u2) (set_last s.memory o (array_of k v a is vs)) fits2)
    where
      initialising_open : {A : Type 0} → Initialising ≡ Ended → A
      initialising_open h = cc

  -- One of its elements is stored.
  pub record ElementStored (s : State) (l : Local) (u : World) (n index : ℕ) (o : SourceObject) (val : source-value.Value) (operand : Operand) : Type 0 where
    pub memory : Memory
    pub fits : Fits k.setting None (record s { memory = slice_set s.memory n (record o { values = slice_set o.values index val }) }) l (record u { memory = memory })
    pub steps : (place : ℕ) (ops : List Instruction) (end : End) → step k.setting.unit (before_in k place (Store (rule.element_of (element_scalar a.of)) (Automatic j (index * scalar_size (element_scalar a.of))) operand ∷ ops) end l u) ≡ Goes (before_in k place ops end l (record u { memory = memory }))

  pub element_stored : (s : State) (l : Local) (u : World) (n index : ℕ) (arr : IsArray k v a s.memory n) (val : source-value.Value) (operand : Operand) → index < value_count a.of → Sound k.setting.program s.memory s → Fits k.setting None s l u
      → Taken k s.memory u.memory (element_scalar a.of) val (value k.setting.unit.statics l.names operand) → ElementStored s l u n index arr.object val operand
  element_stored s l u n index arr val operand lt sound fits taken =
      let p = k.setting.program in
      let sc = element_scalar a.of in
      let o = arr.object in
      let m = k.setting.first + j in
      let given = value k.setting.unit.statics l.names operand in
      let q = fits.own.objects v j a named is in
      let alive : o.phase ≢ Ended = λ over. open_live (sym arr.lives ∙ over) in
      let in_it = subst (IsInMemory p) (sym arr.owner) (a, is, inside) in
      let c = fits.placed n o arr.is alive in_it in
      let number : c.number ≡ m = fits.differ c.number m c.object q.object c.is q.is c.same.lives q.lives (c.same.owner ∙ ap (owner_of p) arr.owner ∙ sym q.owner) in
      let there : slice_get u.memory m ≡ Some c.object = ap (slice_get u.memory) (sym number) ∙ c.is in
      let element : c.object.element ≡ rule.element_of sc = c.same.element ∙ ap rule.element_of arr.element in
      let size : size_of c.object.element ≡ scalar_size sc = ap size_of element ∙ element_size sc in
      let many : length c.object.values ≡ value_count a.of = c.same.count ∙ arr.count in
      let less : index < length c.object.values = omega (arith, lt, many) in
      let offset = index * scalar_size sc in
      let room : bytes_of c.object ≡ value_count a.of * scalar_size sc = ap (λ k2. k2 * size_of c.object.element) many ∙ ap (λ k2. value_count a.of * k2) size in
      let within : offset ≤ bytes_of c.object = (let top = times_within index (value_count a.of) (scalar_size sc) lt in omega (arith, top, room)) in
      let reach = reaches sc c.object index offset c.same.lives element refl less in
      let others = slice_set u.memory m (record c.object { values = slice_set c.object.values index taken.kept }) in
      let x = placed k 0 s.memory in
      let pointed : pointed_in x l u (Automatic j offset) ≡ Pointer m (bytes_of c.object) offset = ap (λ r. option_map_or (λ z. pointer_at m (bytes_of z) offset) r Odd) there ∙ ap (λ b. if b then Pointer m (bytes_of c.object) offset else Odd) (least offset (bytes_of c.object) within) in
      let keeps : as_element c.object.element given ≡ taken.kept = ap (λ e. as_element e given) element ∙ taken.keeps in
      let writes : write u.memory (rule.element_of sc) (pointed_in x l u (Automatic j offset)) given ≡ Some others =
      ap (λ r. write u.memory (rule.element_of sc) r given) pointed ∙ ap (option_and_then (write_in u.memory m (rule.element_of sc) offset given)) there ∙ ap (option_map (written_in u.memory m given c.object)) reach
      ∙ ap (λ z. Some (slice_set u.memory m (record c.object { values = slice_set c.object.values index z }))) keeps in
      let after : State = record s { memory = slice_set s.memory n (record o { values = slice_set o.values index val }) } in
      record {
        memory = others;
        fits =
            fits_anywhere k 0 s.memory None after l (record u { memory = others })
            (fits_stored x None s l u n index o m c.object val taken.kept sound (fits_placed k 0 s.memory None s l u fits) arr.is alive in_it there c.same c.values taken.same);
        steps = λ place ops end. store_step (placed k place []) (rule.element_of sc) (Automatic j offset) operand ops end l u others taken.known writes;
      }
    where
      least : (m n : ℕ) → m ≤ n → nat_le m n ≡ true
      least m n le = grind (arith, nat_tests, le)

      times_within : (i count size : ℕ) → i < count → i * size ≤ count * size
      times_within i count size lt = grind (arith, lt)

  -- the same in the program's run
  pub set_is : (memory : SourceMemory) (n index : ℕ) (arr : IsArray k v a memory n) (val : source-value.Value) → set_value memory n index val ≡ slice_set memory n (record arr.object { values = slice_set arr.object.values index val })
  set_is memory n index arr val = ap (λ r. option_map_or (λ o. slice_set memory n (source_with o index val)) r memory) arr.is

  pub since_set : (memory : SourceMemory) (n index : ℕ) (arr : IsArray k v a memory n) (val : source-value.Value) → Since memory (slice_set memory n (record arr.object { values = slice_set arr.object.values index val }))
  since_set memory n index arr val = record {
    later = later_set memory n index arr.object val arr.is;
    ends = λ m o found alive. (let lt = slice_get_within (slice_set memory n (record arr.object { values = slice_set arr.object.values index val })) m o found in
        let e = length-set memory n (record arr.object { values = slice_set arr.object.values index val }) in omega (arith, lt, e));
  }

  pub sound_element : (s : State) (n index : ℕ) (arr : IsArray k v a s.memory n) (val : source-value.Value) → Sound k.setting.program s.memory s → IsOf s.memory (loaded_type (element_scalar a.of)) val
      → Sound k.setting.program (slice_set s.memory n (record arr.object { values = slice_set arr.object.values index val })) (record s { memory = slice_set s.memory n (record arr.object { values = slice_set arr.object.values index val }) })
  sound_element s n index arr val sound typed =
      sound_now k.setting.program s.memory (record s { memory = slice_set s.memory n (record arr.object { values = slice_set arr.object.values index val }) })
      (sound_set k.setting.program s.memory s n index arr.object val arr.is sound (subst (λ e. IsOf s.memory (loaded_type e) val) (sym arr.element) typed))
