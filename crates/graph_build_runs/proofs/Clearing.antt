-- An array without an initializer is zero in both runs.
use Rattle.std.proofs.Common.{◌≡◌, ◌≢◌, ℕ, zero, suc, ◌+◌, ◌*◌, ◌/◌, ◌≤◌, ◌⊎◌, inl, inr, List, [], ◌∷◌, ◌++◌, length, take, drop, replicate, Some, None, true, ◌&&◌, slice_get, slice_set, refl, sym, ap, ◌∙◌, subst, arith}
use Rattle.std.specs.Prelude.{if◌then◌else◌, nat_le, option_map, option_and_then}
use Rattle.std.proofs.lemmas.List.{length-replicate, take-replicate, append-nil}
use Rattle.std.proofs.lemmas.Bool.Decides.{nat_tests}
use Rattle.debug_records.specs.declared.source.Spot.{Spot}
use Rattle.c_tree.specs.declared.types.IntegerType.{IntegerType}
use Rattle.c_tree.specs.declared.types.IntegerType.TheVariants.{Char, SignedChar, UnsignedChar, Short, UnsignedShort, Int, UnsignedInt, Long, UnsignedLong}
use Rattle.c_tree.specs.declared.object_type.Scalar.{Scalar}
use Rattle.c_tree.specs.TypedStatements.{Zero}
use Rattle.c_tree.specs.Programs.{AutomaticTree, ProgramTree}
use Rattle.c_meaning_values.specs.declared.value.Phase.TheVariants.{Initialising, Live, Ended}
use Rattle.c_meaning_values.specs.Types.{element_scalar, value_count, scalar_size, size_by_stars, zero_of}
use Rattle.c_meaning_values.specs.Memory.{Memory as SourceMemory}
use Rattle.c_meaning_steps.specs.States.{State, Next}
use Rattle.c_meaning.specs.Activations as activations
use Rattle.c_meaning.specs.Statements.{declare_with}
use Rattle.c_flow.specs.declared.edge.Ways.{Ways}
use Rattle.graph_core.specs.declared.value.Value.TheVariants.{Number}
use Rattle.graph_core.specs.Graphs as unit
use Rattle.graph_core.specs.Memory.{Object, Memory, bytes_of, words_of, with_object, filled, zeroed}
use Rattle.graph_core.specs.Runs.{Goes, step, with_memory}
use Rattle.graph_core.specs.Values.{size_of}
use Rattle.graph_build_names.specs.Names.{object_of}
use Rattle.graph_build_steps.specs.Rules as rule
use Rattle.graph_build_steps.specs.Drafts.{instruction_before}
use Rattle.graph_build_statements.specs.Coding.{going}
use Rattle.graph_build_runs.specs.Correspondence.{SameValues}
use Rattle.graph_build_runs.proofs.Leads.{names_in, World, goes, stays, then_leads}
use Rattle.graph_build_runs.proofs.Later.{not_initialising, live_open}
use Rattle.graph_build_runs.proofs.Kept.{Fits}
use Rattle.graph_build_runs.proofs.Elements.{element_size}
use Rattle.graph_build_runs.proofs.Storing.{fits_both_set}
use Rattle.graph_build_runs.proofs.Activities.{Activity, coding_in, here_in, place_at, placed, before_in, fits_placed, fits_anywhere}
use Rattle.graph_build_runs.proofs.Living.{frames_length}
use Rattle.graph_build_runs.proofs.Outcomes.{Runs, GoesOn}
use Rattle.graph_build_runs.proofs.Stops.{Lawful, place_begins}
use Rattle.graph_build_runs.proofs.AtPlaces.{Begins, going_comes}
use Rattle.graph_build_runs.proofs.Making.{last_is, new_in, with_new, made_is, grown_made, differ_made, declared_made, sound_made, fits_made}
use Rattle.graph_build_runs.proofs.Declared.{set_last, zero_same}
use Rattle.graph_build_runs.proofs.Stored.{same_object, placed_new}
pub use Rattle.base_laws.proofs.Lists.{none_left}

-- the sizes of scalars
pub sizes : (base : IntegerType) (stars : ℕ) → (size_by_stars base stars ≡ 1) ⊎ ((size_by_stars base stars ≡ 2) ⊎ (size_by_stars base stars ≡ 4))
sizes Char zero = inl refl
sizes SignedChar zero = inl refl
sizes UnsignedChar zero = inl refl
sizes Short zero = inr (inl refl)
sizes UnsignedShort zero = inr (inl refl)
sizes Int zero = inr (inr refl)
sizes UnsignedInt zero = inr (inr refl)
sizes Long zero = inr (inr refl)
sizes UnsignedLong zero = inr (inr refl)
sizes base (suc stars) = inr (inr refl)

-- words that cover so many elements hold as many
room : (size count : ℕ) → (size ≡ 1) ⊎ ((size ≡ 2) ⊎ (size ≡ 4)) → count ≤ 4 * ((count * size + 3) / 4) / size
room size count (inl e) = subst (λ k. count ≤ 4 * ((count * k + 3) / 4) / k) (sym e) (omega arith)
room size count (inr (inl e)) = subst (λ k. count ≤ 4 * ((count * k + 3) / 4) / k) (sym e) (omega arith)
room size count (inr (inr e)) = subst (λ k. count ≤ 4 * ((count * k + 3) / 4) / k) (sym e) (omega arith)

pub zeros_same : (p : ProgramTree) (memory : SourceMemory) (others : Memory) (stars : ℕ) (sc : Scalar) → sc.stars ≡ stars → (count : ℕ) → SameValues p memory others (replicate count (zero_of sc)) (replicate count (Number 0))
zeros_same p memory others stars sc e zero = tt
zeros_same p memory others stars sc e (suc count) = (zero_same p memory others sc.stars, zeros_same p memory others stars sc e count)

-- So many words of an object are all of it.
module _ (memory : Memory) (m : ℕ) (q : Object) (sc : Scalar) (count : ℕ) (is : slice_get memory m ≡ Some q) (lives : q.live ≡ true) (element : q.element ≡ rule.element_of sc) (length_is : length q.values ≡ count) where
  abbrev words : ℕ
  words = (count * scalar_size sc + 3) / 4

  abbrev many : ℕ
  many = 4 * words / scalar_size sc

  size_is : size_of q.element ≡ scalar_size sc
  size_is = ap size_of element ∙ element_size sc

  can : q.live && nat_le words (words_of (bytes_of q)) ≡ true
  can =
      ap (λ b. b && nat_le words (words_of (bytes_of q))) lives
      ∙ ap (λ b. nat_le words (words_of b)) (ap (λ n. n * size_of q.element) length_is ∙ ap (λ n. count * n) size_is) ∙ itself words
    where
      itself : (n : ℕ) → nat_le n n ≡ true
      itself n = grind (arith, nat_tests)

  values_are : take (length q.values) (replicate many (Number 0)) ++ drop (length (replicate many (Number 0))) q.values ≡ replicate count (Number 0)
  values_are =
      let enough : count ≤ many = room (scalar_size sc) count (sizes sc.base sc.stars) in
      let covered : length q.values ≤ length (replicate many (Number 0)) = omega (arith, length_is, length-replicate many (Number 0), enough) in
      ap (λ n. take n (replicate many (Number 0)) ++ drop (length (replicate many (Number 0))) q.values) length_is
      ∙ ap (λ xs. take count (replicate many (Number 0)) ++ xs) (none_left (length (replicate many (Number 0))) q.values covered) ∙ append-nil (take count (replicate many (Number 0))) ∙ take-replicate count many (Number 0) enough

  pub zeroed_is : zeroed memory m words ≡ Some (slice_set memory m (record q { values = replicate count (Number 0) }))
  zeroed_is =
      ap (option_and_then (λ o. option_map (with_object memory m) (filled words (replicate (4 * words / size_of o.element) (Number 0)) o))) is ∙ ap (λ n. option_map (with_object memory m) (filled words (replicate (4 * words / n) (Number 0)) q)) size_is
      ∙ ap (λ b. option_map (with_object memory m) (if b then Some (record q { values = take (length q.values) (replicate many (Number 0)) ++ drop (length (replicate many (Number 0))) q.values }) else None)) can
      ∙ ap (λ vs. Some (slice_set memory m (record q { values = vs }))) values_are

-- An array, or a scalar in memory, becomes zero.
module _ (k : Activity) (law : Lawful k) (v j : ℕ) (a : AutomaticTree) (is : slice_get k.setting.program.automatics v ≡ Some a) (named : object_of (names_in k.setting) v ≡ Some j) (inside : a.in_memory ≡ true) (scope : List ℕ) (low : ℕ) (w : Ways) (spot : Spot) (le : low ≤ v) where
  abbrev clear_words : ℕ
  clear_words = (value_count a.of * scalar_size (element_scalar a.of) + 3) / 4

  pub cleared_goes : Begins k scope spot.at (λ t i. instruction_before (unit.Zero j clear_words) (going (coding_in k) w.next i)) → GoesOn k low (v + 1) (v ∷ []) w scope (Some spot.at) (λ s. activations.at (here_in k) spot s (declare_with k.calls (here_in k) spot v Zero))
  cleared_goes b =
      let g = going (coding_in k) w.next b.inner in
      place_begins k law scope spot (instruction_before (unit.Zero j clear_words) g) b.block b.here low (v + 1) (v ∷ []) w (declare_with k.calls (here_in k) spot v Zero)
      (λ c es l u s leads sound fits h ready.
      (let p = k.setting.program in
      let place = place_at k spot.at in
      let o = new_in k v a is Initialising in
      let memory = with_new k v a is Initialising s.memory in
      let s1 : State = record s { memory = memory } in
      let frames = frames_length p k.setting.unit s.memory k.frames k.setting.waiting h.frames in
      let sc = element_scalar a.of in
      let count = value_count a.of in
      let fits1 = fits_made k v a s l u fits (λ inside_it. placed_new k law v j a is named inside s l u fits) in
      let q = fits1.own.objects v j a named is in
      let m = k.setting.first + j in
      let zeros = replicate count (Number 0) in
      let others = slice_set u.memory m (record q.object { values = zeros }) in
      let u2 : World = record u { memory = others } in
      let counted = length-replicate count (zero_of sc) in
      let alive : o.phase ≢ Ended = λ over. initialising_open over in
      let so = same_object k law v j a is named inside u.memory o refl refl counted q in
      let after : State = record s { memory = with_new k v a is Live s.memory } in
      let fits2 = fits_both_set (placed k place memory) None s1 l u (length s.memory) o m q.object (replicate count (zero_of sc)) zeros refl (length-replicate count (Number 0) ∙ sym q.count) Live (live_open o.phase alive) (differ_made k v a is Initialising s.memory low le h.under sound.differ) (declared_made k v a is Initialising s.memory sound.declared) (fits_placed k place memory None s1 l u fits1) (last_is s.memory o) alive (a, is, inside) q.is so
      (λ live. zeros_same p memory u.memory sc.stars sc refl count) in
      let fits3 = subst (λ z. Fits (placed k place memory) None (record s { memory = z }) l u2) (set_last s.memory o (new_in k v a is Live)) fits2 in
      let clears : step k.setting.unit (before_in k place (instruction_before (unit.Zero j clear_words) g).ops g.end l u) ≡ Goes (before_in k place g.ops g.end l u2) = ap (with_memory (before_in k place g.ops g.end l u)) (zeroed_is u.memory m q.object sc count q.is q.lives q.element q.count) in
      subst (λ z. Runs k c es low (v + 1) (v ∷ []) s.memory w (Next z)) (sym (made_is k v a is Live s frames))
      (record {
        place = place;
        local = l;
        world = u2;
        comes = going_comes k c es w.next b.inner place l u2 (then_leads leads (goes clears stays));
        sound = sound_made k v a is Live (λ young. not_initialising young) s low le h.under sound;
        fits = fits_anywhere k place memory None after l u2 fits3;
        grown = grown_made k v a is Live s.memory low le;
        brings = (record { number = length s.memory; object = new_in k v a is Live; is = last_is s.memory (new_in k v a is Live); owner = refl; lives = refl }, tt);
      })))
    where
      initialising_open : {A : Type 0} → Initialising ≡ Ended → A
      initialising_open h = cc
