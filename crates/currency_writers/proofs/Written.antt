-- What writes names, as far as it is known.
use Rattle.std.proofs.Common.{◌≡◌, inl, inr, ℕ, ◌+◌, ◌<◌, Option, Some, None, List, [], ◌∷◌, ◌++◌, length, get_or, map, take, drop, refl, sym, ap, subst, ◌∙◌, arith}
use Rattle.std.specs.Prelude.{slice_get, option_map}
use Rattle.std.specs.Option.{option_or}
use Rattle.std.proofs.lemmas.Bool.Decides.{eqb_tells}
use Rattle.std.proofs.lemmas.List.{get_or-map, length-map, length-take-le, take-append-drop, take_more, drop_more, take_at, length-append}
use Rattle.std.proofs.lemmas.Option.{same_Some, slice_get-map, slice_get-get_or, slice_get_within}
use Rattle.debug_records.specs.declared.change.Place.{Place}
use Rattle.graph_core.specs.declared.graph.Binding as declared-binding
use Rattle.graph_core.specs.declared.block.Block as declared-block
use Rattle.graph_core.specs.declared.graph.Graph as declared-graph
use Rattle.graph_core.specs.declared.instruction.Instr as declared-instr
use Rattle.graph_core.specs.Graphs.{Instruction, Block, Binding, ToScalar, block_view, binding_view, instruction_view, end_view, graph_view}
use Rattle.graph_core.specs.Uses.{target_of, marker_of}
use Rattle.graph_core.specs.Points.{StandsWith}
use Rattle.graph_core.specs.Validity.{place_behind}
use Rattle.currency_writers.specs.declared.writers.Writer as declared-writer
use Rattle.currency_writers.specs.declared.writers.Writer.TheVariants as writer
use Rattle.currency_writers.specs.declared.writers.Writers as declared-writers
use Rattle.currency_writers.specs.declared.writers.Written as declared-written
use Rattle.currency_writers.specs.Writers.{AreBindings, AreBlocks, AreInstructions, AreMore, AreSound, AreWriters, IsIndexed, IsKnown, Writes, instruction, parameter, placed}
use Rattle.graph_core.proofs.Among.{behind_last, behind_one}

pub more_on : (u v w : declared-writers.Writers) → AreMore u v → AreMore v w → AreMore u w
more_on u v w one two = record { function = two.function ∙ one.function; graph = two.graph ∙ one.graph; homes = two.homes ∙ one.homes; by_home = two.by_home ∙ one.by_home; by_name = two.by_name ∙ one.by_name; kept = λ z c. two.kept z (one.kept z c) }

-- what was known
known_on : (old new : declared-writers.Writers) → AreMore old new → (p x : ℕ) (w : declared-writer.Writer) → IsKnown old p x w → IsKnown new p x w
known_on old new more p x w c = more.kept (record { place = p; name = x; writer = w }) c

pub bindings_on : (old new : declared-writers.Writers) (count : ℕ) → AreMore old new → AreBindings old count → AreBindings new count
bindings_on old new count more all k x lt at =
    subst (λ (g : declared-graph.Graph). IsKnown new (graph_view g).entry x (writer.Binding new.function k)) (sym more.graph)
    (subst (λ n. IsKnown new (graph_view old.graph.now).entry x (writer.Binding n k)) (sym more.function)
    (known_on old new more (graph_view old.graph.now).entry x (writer.Binding old.function k) (all k x lt (subst (λ (g : declared-graph.Graph). slice_get (graph_view g).parameters k ≡ Some (ToScalar x)) more.graph at))))

pub instructions_on : (old new : declared-writers.Writers) (n : ℕ) (all : List Instruction) (place : Option ℕ) (count : ℕ) → AreMore old new → AreInstructions old n all place count → AreInstructions new n all place count
instructions_on old new n all place count more known p x before i rest e lt at target =
    subst (λ m. IsKnown new p x (writer.Instruction m n (length before))) (sym more.function) (known_on old new more p x (writer.Instruction old.function n (length before)) (known p x before i rest e lt at target))

pub blocks_on : (old new : declared-writers.Writers) (count : ℕ) → AreMore old new → AreBlocks old count → AreBlocks new count
blocks_on old new count more known n b lt at =
    instructions_on old new n b.instructions b.place (length b.instructions) more (known n b lt (subst (λ g. slice_get (graph_view g).blocks n ≡ Some b) more.graph at))

-- one binding more
pub bindings_more : (v : declared-writers.Writers) (k : ℕ) → AreBindings v k → ((x : ℕ) → slice_get (graph_view v.graph.now).parameters k ≡ Some (ToScalar x) → IsKnown v (graph_view v.graph.now).entry x (writer.Binding v.function k)) → AreBindings v (k + 1)
bindings_more v k before here j x lt at = elim (eqb_tells j k) [
  | inl e ↦ subst (λ n. IsKnown v (graph_view v.graph.now).entry x (writer.Binding v.function n)) (sym e.1) (here x (sym (ap (λ n. slice_get (graph_view v.graph.now).parameters n) e.1) ∙ at))
  | inr e ↦ (let other = e.1 in before j x (omega (arith, lt, other)) at)
]

-- one instruction more
pub instructions_more : (v : declared-writers.Writers) (n : ℕ) (all : List Instruction) (place : Option ℕ) (k : ℕ) → AreInstructions v n all place k
    → ((p x : ℕ) (i : Instruction) → slice_get all k ≡ Some i → place_behind (take k all) place ≡ Some p → target_of i ≡ Some x → IsKnown v p x (writer.Instruction v.function n k)) → AreInstructions v n all place (k + 1)
instructions_more v n all place k known here p x before i rest e lt at target = elim (eqb_tells (length before) k) [
  | inl same ↦ (let index : length before ≡ k = same.1 in
      subst (λ j. IsKnown v p x (writer.Instruction v.function n j)) (sym index)
      (here p x i (ap (λ l. slice_get l k) e ∙ ap (λ n. slice_get (before ++ i ∷ rest) n) (sym index) ∙ nth before i rest) (ap (λ l. place_behind l place) (ap (take k) e ∙ take_at before (i ∷ rest) k index) ∙ at) target))
  | inr other ↦ (let differ = other.1 in known p x before i rest e (omega (arith, lt, differ)) at target)
]
  where
    nth : (xs : List Instruction) (j : Instruction) (ys : List Instruction) → slice_get (xs ++ j ∷ ys) (length xs) ≡ Some j
    nth [] j ys = refl
    nth (z ∷ xs) j ys = nth xs j ys

-- one block more
pub blocks_more : (v : declared-writers.Writers) (n : ℕ) (b : declared-block.Block) → slice_get v.graph.now.blocks.items n ≡ Some b → AreBlocks v n → AreInstructions v n (map instruction_view b.instructions.items) (placed b.place) (length b.instructions.items) → AreBlocks v (n + 1)
blocks_more v n b is known here m c lt at = elim (eqb_tells m n) [
  | inl e ↦ (let one : block_view b ≡ c = same_Some (block_view b) c (sym (slice_get-map block_view v.graph.now.blocks.items n ∙ ap (λ o. option_map block_view o) is) ∙ sym (ap (λ k. slice_get (graph_view v.graph.now).blocks k) e.1) ∙ at) in
      subst (λ j. AreInstructions v j c.instructions c.place (length c.instructions)) (sym e.1)
      (subst (λ (d : Block). AreInstructions v n d.instructions d.place (length d.instructions)) one
      (subst (λ k. AreInstructions v n (map instruction_view b.instructions.items) (placed b.place) k) (sym (length-map b.instructions.items instruction_view)) here)))
  | inr e ↦ (let other = e.1 in known m c (omega (arith, lt, other)) at)
]

-- all that writes
pub all_written : (v : declared-writers.Writers) → AreSound v → IsIndexed v → AreBindings v (length v.graph.now.parameters.items) → AreBlocks v (length v.graph.now.blocks.items) → AreWriters v
all_written v sound indexed bindings blocks = record { sound = sound; all = all; indexed = indexed }
  where
    all : (p x : ℕ) (w : declared-writer.Writer) → Writes v p x w → IsKnown v p x w
    all p x _ (instruction {n} {i} {rest} at target) =
        (let inside = slice_get_within (graph_view v.graph.now).blocks n at.block at.is in
        let long = length-map v.graph.now.blocks.items block_view in
        let count = ap length at.instructions ∙ length-append at.before (i ∷ rest) in
        blocks n at.block (omega (arith, inside, long)) at.is p x at.before i rest at.instructions (omega (arith, count)) at.place target)
    all p x _ (parameter {k} entry at) =
        (let inside = slice_get_within (graph_view v.graph.now).parameters k (ToScalar x) at in
        let long = length-map v.graph.now.parameters.items binding_view in
        subst (λ q. IsKnown v q x (writer.Binding v.function k)) (sym entry) (bindings k x (omega (arith, inside, long)) at))

placed_or : (m s : Option Place) → placed (option_or m s) ≡ option_or (placed m) (placed s)
placed_or None s = refl
placed_or (Some q) s = refl

module _ {A : Type 0} (view : A → Instruction) (xs : List A) (k : ℕ) (x d : A) (lt : k < length xs) (is : x ≡ get_or xs k d) where
  there : get_or (map view xs) k (view d) ≡ view x
  there = get_or-map view xs k d (view d) lt ∙ ap view (sym is)

  inside : k < length (map view xs)
  inside = omega (arith, lt, length-map xs view)

  pub taken : take (k + 1) (map view xs) ≡ take k (map view xs) ++ view x ∷ []
  taken = take_more (map view xs) k (view d) inside ∙ ap (λ a. take k (map view xs) ++ a ∷ []) there

  pub at_index : slice_get (map view xs) k ≡ Some (view x)
  at_index = slice_get-get_or (map view xs) k (view d) inside ∙ ap Some there

  -- the place in force goes on over one instruction
  pub place_next : (m s : Option Place) (p : Option ℕ) → placed m ≡ marker_of (view x) → placed s ≡ place_behind (take k (map view xs)) p → placed (option_or m s) ≡ place_behind (take (k + 1) (map view xs)) p
  place_next m s p marks so_far =
      placed_or m s ∙ ap (λ a. option_or a (placed s)) marks ∙ ap (option_or (marker_of (view x))) so_far ∙ sym (behind_one (view x) (place_behind (take k (map view xs)) p))
      ∙ sym (behind_last (take k (map view xs)) (view x) p) ∙ ap (λ l. place_behind l p) (sym taken)

-- an instruction of a block writes its target where it stands
pub writes_there : (v : declared-writers.Writers) (n : ℕ) (b : declared-block.Block) (k : ℕ) (i : Instruction) (p x : ℕ) → slice_get v.graph.now.blocks.items n ≡ Some b → slice_get (map instruction_view b.instructions.items) k ≡ Some i
    → place_behind (take k (map instruction_view b.instructions.items)) (placed b.place) ≡ Some p → target_of i ≡ Some x → Writes v p x (writer.Instruction v.function n k)
writes_there v n b k i p x is at place target =
    let all = map instruction_view b.instructions.items in
    let lt : k < length all = slice_get_within all k i at in
    let long : length (take k all) ≡ k = length-take-le k all (omega (arith, lt)) in
    let next : get_or all k i ≡ i = same_Some (get_or all k i) i (sym (slice_get-get_or all k i lt) ∙ at) in
    let left : drop k all ≡ i ∷ drop (k + 1) all = drop_more all k i lt ∙ ap (λ a. a ∷ drop (k + 1) all) next in
    let whole : all ≡ take k all ++ i ∷ drop (k + 1) all = sym (take-append-drop k all) ∙ ap (λ l. take k all ++ l) left in
    let stands : StandsWith (graph_view v.graph.now) p n (i ∷ drop (k + 1) all) (end_view b.end) =
    record { block = block_view b; before = take k all; is = slice_get-map block_view v.graph.now.blocks.items n ∙ ap (λ o. option_map block_view o) is; instructions = whole; ends = refl; place = place } in
    subst (λ j. Writes v p x (writer.Instruction v.function n j)) long (instruction stands target)

-- the binding of a parameter writes its name at the entry
pub binding_writes : (v : declared-writers.Writers) (k x p : ℕ) (b : declared-binding.Binding) → slice_get (graph_view v.graph.now).parameters k ≡ Some (binding_view b) → binding_view b ≡ ToScalar x → v.graph.now.entry.0 ≡ p → Writes v p x (writer.Binding v.function k)
binding_writes v k x p b at of place = parameter (sym place) (at ∙ ap Some of)

same_scalar : (x y : ℕ) → ToScalar x ≡ ToScalar y → x ≡ y
same_scalar x y e = cc

pub binding_there : (old new : declared-writers.Writers) (b : Binding) (k n : ℕ) → AreMore old new → b ≡ ToScalar n → IsKnown new (graph_view old.graph.now).entry n (writer.Binding old.function k) → (x : ℕ) → b ≡ ToScalar x
    → IsKnown new (graph_view new.graph.now).entry x (writer.Binding new.function k)
binding_there old new b k n more is there x same =
    subst (λ m. IsKnown new (graph_view new.graph.now).entry x (writer.Binding m k)) (sym more.function)
    (subst (λ (g : declared-graph.Graph). IsKnown new (graph_view g).entry x (writer.Binding old.function k)) (sym more.graph)
    (subst (λ y. IsKnown new (graph_view old.graph.now).entry y (writer.Binding old.function k)) (same_scalar n x (sym is ∙ same)) there))

-- the binding of a number
pub binding_at : (g : declared-graph.Graph) (k n : ℕ) (b d : declared-binding.Binding) → n ≡ k → k < length g.parameters.items → b ≡ get_or g.parameters.items k d → slice_get (graph_view g).parameters n ≡ Some (binding_view b)
binding_at g k n b d same lt is =
    ap (λ i. slice_get (graph_view g).parameters i) same ∙ slice_get-map binding_view g.parameters.items k ∙ ap (λ o. option_map binding_view o) (slice_get-get_or g.parameters.items k d lt ∙ ap Some (sym is))

-- one instruction more, as it was read
pub instructions_next : (old new : declared-writers.Writers) (n : ℕ) (all : List declared-instr.Instr) (before : Option ℕ) (k : ℕ) (i d : declared-instr.Instr) (place : Option Place) → k < length all → i ≡ get_or all k d → placed place ≡ place_behind (take k (map instruction_view all)) before
    → AreInstructions old n (map instruction_view all) before k → AreMore old new → ((p x : ℕ) → placed place ≡ Some p → target_of (instruction_view i) ≡ Some x → IsKnown new p x (writer.Instruction new.function n k)) → AreInstructions new n (map instruction_view all) before (k + 1)
instructions_next old new n all before k i d place lt is in_force known more there =
    instructions_more new n (map instruction_view all) before k (instructions_on old new n (map instruction_view all) before k more known)
    (λ p x j at here target. there p x (in_force ∙ here) (ap target_of (same_Some (instruction_view i) j (sym (at_index instruction_view all k i d lt is) ∙ at)) ∙ target))

-- the block is still that of its number
pub block_still : (old new : declared-writers.Writers) (n : ℕ) (b : declared-block.Block) → AreMore old new → slice_get old.graph.now.blocks.items n ≡ Some b → slice_get new.graph.now.blocks.items n ≡ Some b
block_still old new n b more at = ap (λ (g : declared-graph.Graph). slice_get g.blocks.items n) more.graph ∙ at
