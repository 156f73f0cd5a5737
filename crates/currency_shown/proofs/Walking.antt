-- From state to state over what is left.
use Rattle.std.proofs.Common.{◌≡◌, ◌≢◌, inl, inr, ℕ, zero, suc, ◌+◌, ◌<◌, ◌≤◌, Bool, true, false, Some, None, List, [], ◌∷◌, length, get_or, replicate, drop, map, refl, sym, ap, subst, ◌∙◌, arith, true≢false, take, ◌++◌}
use Rattle.graph_core.specs.Paths.{Among, front, behind}
use Rattle.currency_notes.proofs.Lists.{among_at, among_left, among_one, among_right, drop_end, drop_more_any}
use Rattle.std.specs.Prelude.{slice_get, ◌⊎◌, ◌||◌, ◌-◌, if◌then◌else◌, min}
use Rattle.std.specs.Global.{Vec}
use Rattle.places.specs.declared.table.PlaceTable as declared-table
use Rattle.graph_core.specs.declared.block.Block as declared-block
use Rattle.graph_core.specs.declared.instruction.Instr as declared-instr
use Rattle.graph_core.specs.Graphs.{Instruction, Marker, Note, Move, Operate, Truncate, Same, Address, Load, Store, Zero, CopyWords, Call, Block, End, Jump, graph_view, instruction_view, end_view}
use Rattle.currency_notes.specs.declared.state.State as declared-state
use Rattle.currency_notes.specs.Sources.{place_where}
use Rattle.currency_shown.specs.declared.found.Found as declared-found
use Rattle.currency_shown.specs.declared.survey.Survey as declared-survey
use Rattle.currency_shown.specs.declared.states.States as declared-states
use Rattle.currency_shown.specs.Chains.{comes_to, ranks, AreAllOnce, AreEqualAll, AreFull, IsWholeAt, IsWithinSome}
use Rattle.currency_shown.specs.declared.found.Unshown as declared-unshown
use Rattle.currency_shown.specs.Found.{entries_of, is_met, IsPlaceOf}
use Rattle.currency_shown.specs.Survey.{AreChainsSound, AreFresh, AreMet, IsMarkedIn, IsSurvey, IsWalked, IsChainSound, IsFound, IsReachedSound, IsSound, IsStep, IsWithinNext}
use Rattle.graph_core.specs.Validity.{markers_in, markers_of_blocks, AreAllDifferent}
use Rattle.graph_core.specs.declared.value.Value.TheVariants.{Odd}
use Rattle.graph_paths.proofs.Points.{reached_behind}
use Rattle.currency_notes.proofs.Filling.{full_step, kept_sized}
use Rattle.currency_notes.proofs.Sourcing.{attained_step}
use Rattle.std.specs.List.{AllByRecursion}
use Rattle.std.proofs.Math.Nat.{min-eq_left, min-eq_right}
use Rattle.std.proofs.lemmas.Option.{none-some, same_Some, slice_get_within}
use Rattle.currency_notes.specs.declared.function.Function as declared-function
use Rattle.base_laws.proofs.Booleans.{by_bool, neither}
use Rattle.graph_core.specs.declared.name.Label.{Label}
use Rattle.currency_shown.proofs.Targets.{each_label, label_numbers}

take_all_of : {A : Type 0} (xs ys : List A) → take (length xs) (xs ++ ys) ≡ xs
take_all_of [] [] = refl
take_all_of [] (y ∷ ys) = refl
take_all_of (x ∷ xs) ys = ap (λ zs. x ∷ zs) (take_all_of xs ys)

-- so many of two lists, one behind the other, as the first one has
pub take_back : {A : Type 0} (xs ys : List A) (n : ℕ) → n ≡ length xs → take n (xs ++ ys) ≡ xs
take_back xs ys n e = subst (λ k. take k (xs ++ ys) ≡ xs) (sym e) (take_all_of xs ys)

module _ (v : declared-survey.Survey) (f : declared-found.Found) where
  -- one instruction before what is left
  pub sound_before : (n : ℕ) (i : Instruction) (rest all : List Instruction) (s t u : declared-state.State) → all ≡ i ∷ rest → ((p : ℕ) → i ≡ Marker p → IsFound v f s p) → IsStep v.function.now (place_where (graph_view v.function.now.graph.now) n (length rest)) s t i
      → IsSound v f n rest t u → IsSound v f n all s u
  sound_before n i rest all s t u e here step later = subst (λ (is : List Instruction). IsSound v f n is s u) (sym e) (here, (t, step, later))

-- nothing is left of a list
pub sound_end : (v : declared-survey.Survey) (items : List declared-instr.Instr) (i n : ℕ) (later : declared-found.Found) (s : declared-state.State) → length items ≤ i → IsSound v later n (map instruction_view (drop i items)) s s
sound_end v items i n later s le = subst (λ (is : List declared-instr.Instr). IsSound v later n (map instruction_view is) s s) (sym (drop_end items i le)) refl

-- what is whole stays so over what is left of a block
pub whole_over : (v : declared-survey.Survey) (f : declared-found.Found) (n : ℕ) (rest : List Instruction) (e : End) (s t : declared-state.State) → IsSound v f n rest s t → IsWholeAt v.function.now s n rest e → IsWholeAt v.function.now t n [] e
whole_over v f n [] e s t same whole = subst (λ (u : declared-state.State). IsWholeAt v.function.now u n [] e) same whole
whole_over v f n (i ∷ rest) e s t sound whole =
    let u = sound.1.0 in
    let step = sound.1.1 in
    let g = graph_view v.function.now.graph.now in
    whole_over v f n rest e u t sound.1.2 (record {
      reached = reached_behind whole.reached Odd;
      sized = kept_sized v.function.now i s u step.kept whole.sized;
      full = λ exact. full_step v.function.now.homes g exact.told exact.numbered n i rest e s u step.kept (whole.full exact);
      attained = λ log told. attained_step log g s u n i rest e (step.told log told) (whole.attained log told);
    })

module _ (v : declared-survey.Survey) (states : declared-states.States) (later : declared-found.Found) where
  -- one block before what is left of a chain
  pub chain_before : (l : ℕ) (b : declared-block.Block) (rest all : List ℕ) (e : End) (s t : declared-state.State) → all ≡ l ∷ rest → e ≡ Jump l → slice_get v.function.now.graph.now.blocks.items l ≡ Some b
      → IsSound v later l (map instruction_view b.instructions.items) s t → IsChainSound v states later rest (end_view b.end) t → IsChainSound v states later all e s
  chain_before l b rest all e s t q leads is sound more = subst (λ (ls : List ℕ). IsChainSound v states later ls e s) (sym q) (leads, (b, is, (t, sound, more)))

  -- the next block of a chain
  pub chain_next : (chain : List ℕ) (i d : ℕ) (e : End) (s t : declared-state.State) (b : declared-block.Block) → i < length chain → e ≡ Jump (get_or chain i d) → slice_get v.function.now.graph.now.blocks.items (get_or chain i d) ≡ Some b
      → IsSound v later (get_or chain i d) (map instruction_view b.instructions.items) s t → IsChainSound v states later (drop (i + 1) chain) (end_view b.end) t → IsChainSound v states later (drop i chain) e s
  chain_next chain i d e s t b lt leads is sound rest = chain_before (get_or chain i d) b (drop (i + 1) chain) (drop i chain) e s t (drop_more_any chain i d lt) leads is sound rest

  pub chain_end : (chain : List ℕ) (i : ℕ) (e : End) (s : declared-state.State) → length chain ≤ i → IsWithinNext v states e s → IsChainSound v states later (drop i chain) e s
  chain_end chain i e s le next = subst (λ ls. IsChainSound v states later ls e s) (sym (drop_end chain i le)) next

  -- a chain that a path comes to, or none does
  pub reached_by : (chain : List ℕ) (d : ℕ) (s : declared-state.State) → AreEqualAll (Some s) (comes_to states (get_or chain 0 d)) → IsChainSound v states later chain (Jump (get_or chain 0 d)) s → IsReachedSound v states later chain
  reached_by chain d s within sound l more e t comes =
      let one : get_or chain 0 d ≡ l = ap (λ c. get_or c 0 d) e in
      (s, subst (λ o. AreEqualAll (Some s) o) (ap (λ k. comes_to states k) one ∙ comes) within, subst (λ k. IsChainSound v states later chain (Jump k) s) one sound)

  pub reached_not : (chain : List ℕ) (d : ℕ) → AreEqualAll None (comes_to states (get_or chain 0 d)) → IsReachedSound v states later chain
  reached_not chain d none l more e t comes =
      let one : get_or chain 0 d ≡ l = ap (λ c. get_or c 0 d) e in
      absurd (subst (λ o. AreEqualAll None o) (ap (λ k. comes_to states k) one ∙ comes) none)

-- ---- Places, each met once

not_among : (p : ℕ) (xs : List ℕ) → AllByRecursion (λ q. p ≢ q) xs → Among p xs → ⊥
not_among p [] all a = elim a [ ]
not_among p (x ∷ xs) all front = all.0 refl
not_among p (x ∷ xs) all (behind a) = not_among p xs all.1 a

different_front : (xs ys : List ℕ) → AreAllDifferent (xs ++ ys) → AreAllDifferent xs
different_front [] ys all = tt
different_front (x ∷ xs) ys all = (each xs all.0, different_front xs ys all.1)
  where
    each : (zs : List ℕ) → AllByRecursion (λ q. x ≢ q) (zs ++ ys) → AllByRecursion (λ q. x ≢ q) zs
    each [] h = tt
    each (z ∷ zs) h = (h.0, each zs h.1)

different_back : (xs ys : List ℕ) → AreAllDifferent (xs ++ ys) → AreAllDifferent ys
different_back [] ys all = all
different_back (x ∷ xs) ys all = different_back xs ys all.1

different_parts : (p : ℕ) (xs ys : List ℕ) → AreAllDifferent (xs ++ ys) → Among p xs → Among p ys → ⊥
different_parts p [] ys all a b = elim a [ ]
different_parts p (x ∷ xs) ys all front b = not_among p (xs ++ ys) all.0 (among_right xs ys b)
different_parts p (x ∷ xs) ys all (behind a) b = different_parts p xs ys all.1 a b

-- the places of a block are among those of all
pub block_among : (blocks : List Block) (n : ℕ) (b : Block) (p : ℕ) → slice_get blocks n ≡ Some b → Among p (markers_in b.instructions) → Among p (markers_of_blocks blocks)
block_among [] n b p is a = absurd (none-some b is)
block_among (c ∷ blocks) zero b p is a = among_left (markers_in c.instructions) (markers_of_blocks blocks) (subst (λ (z : Block). Among p (markers_in z.instructions)) (sym (same_Some c b is)) a)
block_among (c ∷ blocks) (suc n) b p is a = among_right (markers_in c.instructions) (markers_of_blocks blocks) (block_among blocks n b p is a)

-- they are different
pub block_different : (blocks : List Block) (n : ℕ) (b : Block) → slice_get blocks n ≡ Some b → AreAllDifferent (markers_of_blocks blocks) → AreAllDifferent (markers_in b.instructions)
block_different [] n b is all = absurd (none-some b is)
block_different (c ∷ blocks) zero b is all = subst (λ (z : Block). AreAllDifferent (markers_in z.instructions)) (same_Some c b is) (different_front (markers_in c.instructions) (markers_of_blocks blocks) all)
block_different (c ∷ blocks) (suc n) b is all = block_different blocks n b is (different_back (markers_in c.instructions) (markers_of_blocks blocks) all)

-- and of one block
pub one_block_of : (blocks : List Block) (n m : ℕ) (b c : Block) (p : ℕ) → AreAllDifferent (markers_of_blocks blocks) → slice_get blocks n ≡ Some b → slice_get blocks m ≡ Some c → Among p (markers_in b.instructions) → Among p (markers_in c.instructions) → n ≡ m
one_block_of [] n m b c p all is at one other = absurd (none-some b is)
one_block_of (d ∷ blocks) zero zero b c p all is at one other = refl
one_block_of (d ∷ blocks) zero (suc m) b c p all is at one other =
    absurd (different_parts p (markers_in d.instructions) (markers_of_blocks blocks) all (subst (λ (z : Block). Among p (markers_in z.instructions)) (sym (same_Some d b is)) one) (block_among blocks m c p at other))
one_block_of (d ∷ blocks) (suc n) zero b c p all is at one other =
    absurd (different_parts p (markers_in d.instructions) (markers_of_blocks blocks) all (subst (λ (z : Block). Among p (markers_in z.instructions)) (sym (same_Some d c at)) other) (block_among blocks n b p is one))
one_block_of (d ∷ blocks) (suc n) (suc m) b c p all is at one other = ap suc (one_block_of blocks n m b c p (different_back (markers_in d.instructions) (markers_of_blocks blocks) all) is at one other)

-- the places of instructions, where the first of them is a marker or none
module _ (i : Instruction) (rest : List Instruction) where
  pub front_marker : (p : ℕ) → i ≡ Marker p → Among p (markers_in (i ∷ rest))
  front_marker p e = subst (λ (j : Instruction). Among p (markers_in (j ∷ rest))) (sym e) front

  pub back_marker : (p : ℕ) → Among p (markers_in rest) → Among p (markers_in (i ∷ rest))
  back_marker p a = at_instruction i
    where
      at_instruction : (j : Instruction) → Among p (markers_in (j ∷ rest))
      at_instruction (Marker q) = behind a
      at_instruction (Note x v) = a
      at_instruction (Move x o) = a
      at_instruction (Operate x o l r) = a
      at_instruction (Truncate x t o) = a
      at_instruction (Same x l r) = a
      at_instruction (Address x o) = a
      at_instruction (Load x k l) = a
      at_instruction (Store k l o) = a
      at_instruction (Zero o w) = a
      at_instruction (CopyWords o b w) = a
      at_instruction (Call x f all) = a

  pub back_different : AreAllDifferent (markers_in (i ∷ rest)) → AreAllDifferent (markers_in rest)
  back_different all = at_instruction i all
    where
      at_instruction : (j : Instruction) → AreAllDifferent (markers_in (j ∷ rest)) → AreAllDifferent (markers_in rest)
      at_instruction (Marker q) h = h.1
      at_instruction (Note x v) h = h
      at_instruction (Move x o) h = h
      at_instruction (Operate x o l r) h = h
      at_instruction (Truncate x t o) h = h
      at_instruction (Same x l r) h = h
      at_instruction (Address x o) h = h
      at_instruction (Load x k l) h = h
      at_instruction (Store k l o) h = h
      at_instruction (Zero o w) h = h
      at_instruction (CopyWords o b w) h = h
      at_instruction (Call x f all) h = h

  -- what is fresh before an instruction is behind it
  pub fresh_behind : (old new : declared-found.Found) → ((p : ℕ) → is_met new p ≡ true → (is_met old p ≡ true) ⊎ (i ≡ Marker p)) → AreFresh old (markers_in (i ∷ rest)) → AreFresh new (markers_in rest)
  fresh_behind old new only fresh = record {
    different = back_different fresh.different;
    unmet = λ p among. by_bool (is_met new p) (λ e. absurd (elim (only p e) [
      | inl f ↦ true≢false (sym f ∙ fresh.unmet p (back_marker p among))
      | inr f ↦ apart p f among
    ])) (λ e. e);
  }
    where
      apart : (p : ℕ) → i ≡ Marker p → Among p (markers_in rest) → ⊥
      apart p e among = not_among p (markers_in rest) (subst (λ (j : Instruction). AreAllDifferent (markers_in (j ∷ rest))) e fresh.different).0 among

-- what is left of a list stands in it, no earlier
pub among_drop : {A : Type 0} (xs : List A) (i : ℕ) (a : A) → Among a (drop i xs) → (j : ℕ) × (i ≤ j) × (slice_get xs j ≡ Some a)
among_drop xs zero a there = (let k = among_at (drop zero xs) there in (k.0, omega arith, k.1))
among_drop [] (suc i) a there = elim there [ ]
among_drop (x ∷ xs) (suc i) a there = (let k = among_drop xs i a there in (suc k.0, (let le = k.1 in omega (arith, le)), k.2))

-- the places of the blocks that are left of a chain are fresh behind the next of them
pub fresh_next : (blocks : List Block) (chain : List ℕ) (i n : ℕ) (b : Block) (old new : declared-found.Found) → AreAllDifferent (markers_of_blocks blocks) → AreAllOnce chain → slice_get chain i ≡ Some n → drop i chain ≡ n ∷ drop (i + 1) chain → slice_get blocks n ≡ Some b
    → ((p : ℕ) → is_met new p ≡ true → (is_met old p ≡ true) ⊎ Among p (markers_in b.instructions)) → ((p : ℕ) → IsMarkedIn blocks (drop i chain) p → is_met old p ≡ false) → (p : ℕ) → IsMarkedIn blocks (drop (i + 1) chain) p → is_met new p ≡ false
fresh_next blocks chain i n b old new different once here left is only fresh p marked = by_bool (is_met new p) (λ e. absurd (elim (only p e) [
  | inl m ↦ true≢false (sym m ∙ fresh p (record { number = marked.number; block = marked.block; among = subst (λ (l : List ℕ). Among marked.number l) (sym left) (behind marked.among); is = marked.is; marked = marked.marked }))
  | inr m ↦ (let one : n ≡ marked.number = one_block_of blocks n marked.number b marked.block p different is marked.is m marked.marked in
      let j = among_drop chain (i + 1) marked.number marked.among in
      let same : i ≡ j.0 = once i j.0 n here (j.2 ∙ ap Some (sym one)) in
      let le = j.1 in
      omega (arith, same, le))
])) (λ e. e)

-- the places of a chain are fresh where those of earlier ones alone were met
pub chain_fresh : (v : declared-survey.Survey) → IsSurvey v → (found : declared-found.Found) (i : ℕ) (c : Vec ℕ) (chain : List ℕ) → slice_get v.chains.now i ≡ Some c → chain ≡ c.items
    → ((p : ℕ) → is_met found p ≡ true → (j : ℕ) × (j < i) × (d : Vec ℕ) × (slice_get v.chains.now j ≡ Some d) × IsMarkedIn (graph_view v.function.now.graph.now).blocks d.items p)
    → (p : ℕ) → IsMarkedIn (graph_view v.function.now.graph.now).blocks chain p → is_met found p ≡ false
chain_fresh v survey found i c chain at same only p marked = by_bool (is_met found p) (λ e. absurd (apart (only p e))) (λ e. e)
  where
    apart : (j : ℕ) × (j < i) × (d : Vec ℕ) × (slice_get v.chains.now j ≡ Some d) × IsMarkedIn (graph_view v.function.now.graph.now).blocks d.items p → ⊥
    apart w =
        let m = w.4 in
        let one : m.number ≡ marked.number = one_block_of (graph_view v.function.now.graph.now).blocks m.number marked.number m.block marked.block p survey.once m.is marked.is m.marked marked.marked in
        let a = among_at w.2.items m.among in
        let b = among_at c.items (subst (λ (l : List ℕ). Among marked.number l) same marked.among) in
        let r : w.0 ≡ i = (survey.chains.apart w.0 i a.0 b.0 marked.number w.2 c w.3 at (a.1 ∙ ap Some one) b.1).0 in
        let lt = w.1 in
        omega (arith, r, lt)

pub none_taken : (xs : List (Vec ℕ)) (c : Vec ℕ) → Among c (take 0 xs) → ⊥
none_taken [] c there = elim there [ ]
none_taken (x ∷ xs) c there = elim there [ ]

-- a place of a table is one of its rows
pub place_within : (table : declared-table.PlaceTable) (number p : ℕ) → IsPlaceOf table number p → p ≤ length table.rows.items
place_within table number p of = (let lt = slice_get_within table.rows.items (p - 1) of.row of.is in omega (arith, lt))

-- there is room for it
pub place_room : (table : declared-table.PlaceTable) (number p room : ℕ) → room ≡ min (length table.rows.items + 1) 18446744073709551615 → p < 4294967296 → IsPlaceOf table number p → p < room
place_room table number p room size small of =
    let le : p ≤ length table.rows.items = place_within table number p of in
    let r : p < min (length table.rows.items + 1) 18446744073709551615 = below_min p (length table.rows.items + 1) 18446744073709551615 (omega (arith, le)) (omega (arith, small)) in
    omega (arith, size, r)
  where
    either : (a b : ℕ) → (a < b) ⊎ (b ≤ a)
    either a zero = inr (omega arith)
    either zero (suc b) = inl (omega arith)
    either (suc a) (suc b) = elim (either a b) [ inl f ↦ inl (omega (arith, f)) | inr f ↦ inr (omega (arith, f)) ]

    below_min : (k a b : ℕ) → k < a → k < b → k < min a b
    below_min k a b one other = elim (either a b) [
      | inl lt ↦ (let e : min a b ≡ a = min-eq_left (omega (arith, lt)) in omega (arith, e, one))
      | inr le ↦ (let e : min a b ≡ b = min-eq_right le in omega (arith, e, other))
    ]

-- what was met behind an instruction that is a marker
pub marker_cases : (found : declared-found.Found) (i : Instruction) (p q : ℕ) → i ≡ Marker p → (is_met found q ≡ true) ⊎ (p ≡ q) → (is_met found q ≡ true) ⊎ (i ≡ Marker q)
marker_cases found i p q is met = elim met [ inl f ↦ inl f | inr f ↦ inr (is ∙ ap Marker f) ]

-- what was walked over where nothing less is so
pub walked_of : (v : declared-survey.Survey) (old mid new : declared-states.States) (found : declared-found.Found) (entered : declared-state.State) → IsSurvey v → AreFull v.function.now old → mid ≡ old → new ≡ mid
    → (0 < length old.arrived.items → IsWithinSome (comes_to old 0) entered) → AreChainsSound v mid found v.chains.now → AreMet v found → IsWalked v new found entered
walked_of v old mid new found entered survey full one two within sound met = subst (λ (s : declared-states.States). IsWalked v s found entered) (sym two) (record {
  begins = λ lt. (survey.chains.first lt, subst (λ (s : declared-states.States). IsWithinSome (comes_to s 0) entered) (sym one) (within (subst (λ n. 0 < n) (sym full.count) lt)));
  sound = sound;
  met = met;
})

-- a state that came to some blocks, and to another one
module _ (f : declared-function.Function) (old mid new : declared-states.States) (a b : Bool) (one : a ≡ false → mid ≡ old) (two : b ≡ false → new ≡ mid) where
  pub quiet_two : (a || b) ≡ false → new ≡ old
  quiet_two e = (let h = neither a b e in two h.1 ∙ one h.0)

  pub falls_two : (a ≡ true → ranks f mid < ranks f old) → (b ≡ true → ranks f new < ranks f mid) → (a || b) ≡ true → ranks f new < ranks f old
  falls_two less lesser e = by_bool a
      (λ p. by_bool b (λ q. (let x = less p in let y = lesser q in omega (arith, x, y))) (λ q. (let x = less p in let same : ranks f new ≡ ranks f mid = ap (ranks f) (two q) in omega (arith, x, same))))
      (λ p. by_bool b (λ q. (let y = lesser q in let same : ranks f mid ≡ ranks f old = ap (ranks f) (one p) in omega (arith, y, same))) (λ q. absurd (true≢false (sym e ∙ ap (λ z. z || b) p ∙ q))))

  pub within_more : (labels : List Label) (i : ℕ) (d : Label) (s : declared-state.State) → i < length labels → (a ≡ false → (l : ℕ) → Among l (take i (label_numbers labels)) → l < length old.arrived.items → IsWithinSome (comes_to old l) s)
      → (b ≡ false → (get_or labels i d).0 < length mid.arrived.items → IsWithinSome (comes_to mid (get_or labels i d).0) s) → (a || b) ≡ false → (l : ℕ) → Among l (take (i + 1) (label_numbers labels)) → l < length old.arrived.items → IsWithinSome (comes_to old l) s
  within_more labels i d s lt before here e =
      let h = neither a b e in
      each_label (λ l. l < length old.arrived.items → IsWithinSome (comes_to old l) s) labels i d lt (before h.0)
      (subst (λ (z : declared-states.States). (get_or labels i d).0 < length z.arrived.items → IsWithinSome (comes_to z (get_or labels i d).0) s) (one h.0) (here h.1))

-- nothing was met yet
pub nothing_met : (v : declared-survey.Survey) (found : declared-found.Found) (places scalars : ℕ) → ((x : ℕ) → entries_of found.unshown.items x ≡ []) → length found.met.items ≡ min (places + 1) 18446744073709551615 → length found.unshown.items ≡ scalars
    → places ≡ length v.table.now.rows.items → scalars ≡ length v.function.now.graph.now.scalars.items → AreMet v found
nothing_met v found places scalars none met unshown rows all = record {
  each = λ x u among. absurd (nothing u (subst (λ (l : List declared-unshown.Unshown). Among u l) (none x) among));
  places = met ∙ ap (λ n. min (n + 1) 18446744073709551615) rows;
  scalars = unshown ∙ all;
}
  where
    nothing : (u : declared-unshown.Unshown) → Among u [] → ⊥
    nothing u among = elim among [ ]

-- one where less is so somewhere, which asks for another walk
abbrev pub one_if : Bool → ℕ
one_if true = 1
one_if false = 0

-- a walk that is needed leaves less, or is the last one
pub walk_falls : (f : declared-function.Function) (old new : declared-states.States) (before after : Bool) → before ≡ true → (after ≡ true → ranks f new < ranks f old) → (after ≡ false → new ≡ old) → ranks f new + one_if after < ranks f old + one_if before
walk_falls f old new before after is falls quiet =
    let e : one_if before ≡ one_if true = ap one_if is in
    by_bool after
    (λ q. (let lower = falls q in let d : one_if after ≡ one_if true = ap one_if q in omega (arith, e, d, lower)))
    (λ q. (let same : ranks f new ≡ ranks f old = ap (ranks f) (quiet q) in let d : one_if after ≡ one_if false = ap one_if q in omega (arith, e, d, same)))

-- nothing is told of one scalar more
pub entries_pushed : (old new : List (Vec declared-unshown.Unshown)) (v : Vec declared-unshown.Unshown) → new ≡ old ++ (v ∷ []) → v.items ≡ [] → ((x : ℕ) → entries_of old x ≡ []) → (x : ℕ) → entries_of new x ≡ []
entries_pushed old new v is empty none x = subst (λ (all : List (Vec declared-unshown.Unshown)). entries_of all x ≡ []) (sym is) (behind_all old none x)
  where
    behind_all : (all : List (Vec declared-unshown.Unshown)) → ((y : ℕ) → entries_of all y ≡ []) → (y : ℕ) → entries_of (all ++ (v ∷ [])) y ≡ []
    behind_all [] each zero = empty
    behind_all [] each (suc y) = refl
    behind_all (w ∷ all) each zero = each zero
    behind_all (w ∷ all) each (suc y) = behind_all all (λ z. each (suc z)) y
