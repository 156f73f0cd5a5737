-- How many writes go at most.
use Rattle.std.proofs.Common.{◌≡◌, ℕ, ◌<◌, ◌≤◌, Some, List, [], ◌∷◌, ◌++◌, length, map, refl, sym, ap, ◌∙◌, subst, arith}
use Rattle.std.specs.Prelude.{option_map, slice_get}
use Rattle.std.specs.List.{AllByRecursion}
use Rattle.std.proofs.lemmas.List.{length-map}
use Rattle.std.proofs.lemmas.Option.{none-some, same_Some, slice_get_within}
use Rattle.places.specs.declared.flow.Assignment.{Assignment}
use Rattle.graph_core.specs.Graphs.{Instruction, Marker, Note, Scalar, Block, Graph}
use Rattle.graph_core.specs.Uses.{target_of}
use Rattle.graph_core.specs.Validity.{counts, instructions_of, place_behind, total}
use Rattle.base_laws.proofs.Lists.{all_so}
use Rattle.pass_law.specs.declared.cases.Case.{Case}
use Rattle.pass_law.specs.Changes.{AreCasesOf, IsCaseOf}
use Rattle.pass_law.proofs.FewCases.{AreApart, all_apart, few_by_key, one_at_most}
use Rattle.dead_pass_notes.specs.Writes.{IsRemovedWrite}

first_same : {x y : Instruction} {xs ys : List Instruction} → x ∷ xs ≡ y ∷ ys → x ≡ y
first_same e = cc

rest_same : {x y : Instruction} {xs ys : List Instruction} → x ∷ xs ≡ y ∷ ys → xs ≡ ys
rest_same e = cc

-- ---- One write at one point

-- Parts of one list that are as long are the same.
same_parts : (xs ys vs ws : List Instruction) → xs ++ ys ≡ vs ++ ws → length xs ≡ length vs → (xs ≡ vs) × (ys ≡ ws)
same_parts [] ys [] ws same long = (refl, same)
same_parts [] ys (j ∷ vs) ws same long = absurd (omega (arith, long))
same_parts (i ∷ xs) ys [] ws same long = absurd (omega (arith, long))
same_parts (i ∷ xs) ys (j ∷ vs) ws same long =
    let rest = same_parts xs ys vs ws (rest_same same) (omega (arith, long)) in
    (ap (λ k. k ∷ xs) (first_same same) ∙ ap (λ zs. j ∷ zs) rest.0, rest.1)

-- What stands behind so many others.
at_behind : (before rest : List Instruction) (i : Instruction) → slice_get (before ++ i ∷ rest) (length before) ≡ Some i
at_behind [] rest i = refl
at_behind (j ∷ before) rest i = at_behind before rest i

-- What writes a name is counted.
counted_one : (i : Instruction) (x : ℕ) → target_of i ≡ Some x → counts i ≡ 1
counted_one (Marker p) x is = absurd (none-some x is)
counted_one (Note y v) x is = absurd (none-some x is)
counted_one _ x is = refl

module _ (assignments : List Assignment) (g : Graph) where
  -- its instruction stands in its block
  stands_there : (c : Case) (a : IsRemovedWrite assignments g c) → slice_get a.stood.block.instructions c.index ≡ Some a.instruction
  stands_there c a = ap (λ all. slice_get all c.index) a.stood.instructions ∙ ap (slice_get (a.stood.before ++ a.instruction ∷ a.rest)) (sym a.index) ∙ at_behind a.stood.before a.rest a.instruction

  -- Writes at one point are one.
  same_case : (c d : Case) → IsRemovedWrite assignments g c → IsRemovedWrite assignments g d → c.block ≡ d.block → c.index ≡ d.index → c ≡ d
  same_case c d a b number index = λ i. record { place = record { 0 = place i }; var = record { 0 = variable i }; block = number i; index = index i; operand = operand i }
    where
      block : a.stood.block ≡ b.stood.block
      block = same_Some a.stood.block b.stood.block (sym a.stood.is ∙ ap (slice_get g.blocks) number ∙ b.stood.is)

      parts : (a.stood.before ≡ b.stood.before) × (a.instruction ∷ a.rest ≡ b.instruction ∷ b.rest)
      parts = same_parts a.stood.before (a.instruction ∷ a.rest) b.stood.before (b.instruction ∷ b.rest)
          (sym a.stood.instructions ∙ ap (λ (k : Block). k.instructions) block ∙ b.stood.instructions) (a.index ∙ index ∙ sym b.index)

      place : c.place.0 ≡ d.place.0
      place = same_Some c.place.0 d.place.0 (sym a.stood.place ∙ ap (λ (k : Block). place_behind a.stood.before k.place) block ∙ ap (λ before. place_behind before b.stood.block.place) parts.0 ∙ b.stood.place)

      target : a.x ≡ b.x
      target = same_Some a.x b.x (sym a.written ∙ ap target_of (first_same parts.1) ∙ b.written)

      variable : c.var.0 ≡ d.var.0
      variable = same_Some c.var.0 d.var.0 (sym a.variable ∙ ap (λ x. option_map (λ (s : Scalar). s.variable) (slice_get g.scalars x)) target ∙ b.variable)

      operand : c.operand ≡ d.operand
      operand = a.no_read ∙ sym b.no_read

  -- ---- How many there are

  -- the writes of the graph
  abbrev IsOfGraph : ℕ → ℕ × Case → Type 0
  IsOfGraph f c = (c.0 ≡ f) × IsRemovedWrite assignments g c.1

  -- those of a block
  abbrev IsOfBlock : (f n : ℕ) → ℕ × Case → Type 0
  IsOfBlock f n c = IsOfGraph f c × (c.1.block ≡ n)

  -- those behind so many instructions of it
  abbrev IsOfIndex : (f n k : ℕ) → ℕ × Case → Type 0
  IsOfIndex f n k c = IsOfBlock f n c × (c.1.index ≡ k)

  -- its instruction stands in the block of this number
  stands_in_block : (f n : ℕ) (b : Block) → slice_get g.blocks n ≡ Some b → (c : ℕ × Case) (is : IsOfBlock f n c) → slice_get b.instructions c.1.index ≡ Some is.0.1.instruction
  stands_in_block f n b at c is =
      let a = is.0.1 in
      let same : a.stood.block ≡ b = same_Some a.stood.block b (sym a.stood.is ∙ ap (slice_get g.blocks) is.1 ∙ at) in
      sym (ap (λ (k : Block). slice_get k.instructions c.1.index) same) ∙ stands_there c.1 a

  module _ (f n : ℕ) (b : Block) (at : slice_get g.blocks n ≡ Some b) where
    -- At one instruction there is one at most, and none where it is not counted.
    few_at : (k : ℕ) (i : Instruction) → slice_get b.instructions k ≡ Some i → (part : List (ℕ × Case)) → AllByRecursion (IsOfIndex f n k) part → AreApart part → length part ≤ counts i
    few_at k i there [] are apart = omega (arith)
    few_at k i there (c ∷ part) are apart =
        let first = are.0 in
        let a = first.0.0.1 in
        let same : a.instruction ≡ i = same_Some a.instruction i (sym (stands_in_block f n b at c first.0) ∙ ap (slice_get b.instructions) first.1 ∙ there) in
        let one = counted_one i a.x (ap target_of (sym same) ∙ a.written) in
        let most = one_at_most c part (all_so (IsOfIndex f n k) (λ d. c ≡ d) (λ d is. same_pair c d first is) part are.1) apart in
        omega (arith, one, most)
      where
        same_pair : (c d : ℕ × Case) → IsOfIndex f n k c → IsOfIndex f n k d → c ≡ d
        same_pair c d a e =
            let function : c.0 ≡ d.0 = a.0.0.0 ∙ sym e.0.0.0 in
            let case : c.1 ≡ d.1 = same_case c.1 d.1 a.0.0.1 e.0.0.1 (a.0.1 ∙ sym e.0.1) (a.1 ∙ sym e.1) in
            λ i. (function i, case i)

    -- In one block they are no more than its instructions that are counted.
    few_in_block : (part : List (ℕ × Case)) → AllByRecursion (IsOfBlock f n) part → AreApart part → length part ≤ total counts b.instructions
    few_in_block = few_by_key {A = ℕ × Case} counts b.instructions (λ c. c.1.index) (IsOfBlock f n) (λ c is. slice_get_within b.instructions c.1.index is.0.1.instruction (stands_in_block f n b at c is)) few_at

  -- So it is in one function.
  few_in_graph : (f : ℕ) (part : List (ℕ × Case)) → AllByRecursion (IsOfGraph f) part → AreApart part → length part ≤ instructions_of g
  few_in_graph f = few_by_key {A = ℕ × Case} (λ (b : Block). total counts b.instructions) g.blocks (λ c. c.1.block) (IsOfGraph f) (λ c is. slice_get_within g.blocks c.1.block is.1.stood.block is.1.stood.is) (few_in_block f)

module _ (assignments : List Assignment) (gs hs : List Graph) where
  -- a case of a function
  abbrev IsOfFunction : ℕ × Case → Type 0
  IsOfFunction c = IsCaseOf (λ before after. IsRemovedWrite assignments before) gs hs c

  -- IN ALL FUNCTIONS THEY ARE NO MORE than the instructions that are counted.
  pub few_writes : (cases : List (ℕ × Case)) → AllByRecursion IsOfFunction cases → AreApart cases → length cases ≤ total instructions_of gs
  few_writes = few_by_key {A = ℕ × Case} instructions_of gs (λ c. c.0) IsOfFunction (λ c is. slice_get_within gs c.0 is.before is.stood)
      (λ f g at part these no_two. few_in_graph assignments g f part (all_so (λ c. IsOfFunction c × (c.0 ≡ f)) (λ c. (c.0 ≡ f) × IsRemovedWrite assignments g c.1)
      (λ c is. (is.1, subst (λ h. IsRemovedWrite assignments h c.1) (same_Some is.0.before g (sym is.0.stood ∙ ap (slice_get gs) is.1 ∙ at)) is.0.case)) part these) no_two)

  pub few_cases : (cases : List Case) → AreCasesOf (λ before after. IsRemovedWrite assignments before) gs hs cases → length cases ≤ total instructions_of gs
  few_cases cases are =
      let both = all_apart IsOfFunction are.of are.all in
      let most = few_writes are.of both.0 both.1 in
      let count : length cases ≡ length are.of = ap (λ (l : List Case). length l) are.are ∙ length-map are.of (λ (c : ℕ × Case). c.1) in
      omega (arith, most, count)
