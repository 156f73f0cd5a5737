-- WHAT LAZY CODE MOTION LOGS: few changes, each in a place of the unit, of a variable of it.
use Rattle.std.proofs.Common.{◌≡◌, ℕ, ◌≤◌, Some, List, [], ◌∷◌, ◌++◌, length, refl, sym, ap, ◌∙◌, subst, arith}
use Rattle.std.specs.Prelude.{option_map, slice_get}
use Rattle.std.specs.List.{AllByRecursion}
use Rattle.std.proofs.lemmas.Option.{none-some, same_Some, slice_get_within}
use Rattle.memory_map.specs.declared.map.Room.{Room}
use Rattle.memory_map.specs.declared.map.Room.TheVariants.{Small, Large}
use Rattle.debug_records.specs.declared.change.PassName.{PassName}
use Rattle.debug_records.specs.declared.change.Kind.TheVariants.{Moved}
use Rattle.graph_core.specs.Bounds.{most_instructions}
use Rattle.graph_core.specs.Graphs.{Instruction, Marker, Note, Scalar, Block, Graph, UnitForm}
use Rattle.graph_core.specs.Computations.{Computation, computed_by}
use Rattle.graph_core.specs.Uses.{target_of}
use Rattle.graph_core.specs.Validity.{counts, instructions_of, place_behind, total}
use Rattle.graph_core.specs.WellMarked.{AreWellMarked}
use Rattle.base_laws.proofs.Lists.{all_so}
use Rattle.pass_law.specs.declared.cases.Case.{Case}
use Rattle.pass_law.specs.Changes.{AddsChangesOf, IsCaseOf}
use Rattle.pass_law.specs.Logs.{LogsWell, most_changes}
use Rattle.pass_law.proofs.FewCases.{AreApart, few_by_key, one_at_most}
use Rattle.pass_law.proofs.LoggedWell.{logged_well, place_marked}
use Rattle.motion_pass_points.proofs.Keys.{it_does}
use Rattle.motion_pass_placement.specs.Moves.{IsMovedAssignment, IsReadingAssignment}
use Rattle.motion_pass_laws.proofs.Pairing.{first_or, tail_of}

-- ---- One assignment at one point

-- Parts of one list that are as long are the same.
same_parts : (xs ys vs ws : List Instruction) → xs ++ ys ≡ vs ++ ws → length xs ≡ length vs → (xs ≡ vs) × (ys ≡ ws)
same_parts [] ys [] ws same long = (refl, same)
same_parts [] ys (j ∷ vs) ws same long = absurd (omega (arith, long))
same_parts (i ∷ xs) ys [] ws same long = absurd (omega (arith, long))
same_parts (i ∷ xs) ys (j ∷ vs) ws same long =
    let rest = same_parts xs ys vs ws (ap tail_of same) (omega (arith, long)) in
    (ap (λ k. k ∷ xs) (ap (first_or i) same) ∙ ap (λ zs. j ∷ zs) rest.0, rest.1)

-- What stands behind so many others.
at_behind : (before rest : List Instruction) (i : Instruction) → slice_get (before ++ i ∷ rest) (length before) ≡ Some i
at_behind [] rest i = refl
at_behind (j ∷ before) rest i = at_behind before rest i

-- What does a computation is counted.
counted_one : (i : Instruction) (e : Computation) → computed_by i ≡ Some e → counts i ≡ 1
counted_one (Marker p) e is = absurd (none-some e is)
counted_one (Note x v) e is = absurd (none-some e is)
counted_one _ e is = refl

module _ (g : Graph) where
  -- its instruction stands in its block
  stands_there : (c : Case) (a : IsReadingAssignment g c) → slice_get a.stood.block.instructions c.index ≡ Some a.instruction
  stands_there c a = ap (λ all. slice_get all c.index) a.stood.instructions ∙ ap (slice_get (a.stood.before ++ a.instruction ∷ a.rest)) (sym a.index) ∙ at_behind a.stood.before a.rest a.instruction

  -- Assignments at one point are one.
  same_case : (c d : Case) → IsReadingAssignment g c → IsReadingAssignment g d → c.block ≡ d.block → c.index ≡ d.index → c ≡ d
  same_case c d a b number index = λ i. record { place = record { 0 = place i }; var = record { 0 = variable i }; block = number i; index = index i; operand = operand i }
    where
      block : a.stood.block ≡ b.stood.block
      block = same_Some a.stood.block b.stood.block (sym a.stood.is ∙ ap (slice_get g.blocks) number ∙ b.stood.is)

      parts : (a.stood.before ≡ b.stood.before) × (a.instruction ∷ a.rest ≡ b.instruction ∷ b.rest)
      parts = same_parts a.stood.before (a.instruction ∷ a.rest) b.stood.before (b.instruction ∷ b.rest)
          (sym a.stood.instructions ∙ ap (λ (k : Block). k.instructions) block ∙ b.stood.instructions) (a.index ∙ index ∙ sym b.index)

      place : c.place.0 ≡ d.place.0
      place = same_Some c.place.0 d.place.0 (sym a.stood.place ∙ ap (λ (k : Block). place_behind a.stood.before k.place) block ∙ ap (λ before. place_behind before b.stood.block.place) parts.0 ∙ b.stood.place)

      target : a.x ≡ b.x
      target = same_Some a.x b.x (sym a.written ∙ ap target_of (ap (first_or a.instruction) parts.1) ∙ b.written)

      variable : c.var.0 ≡ d.var.0
      variable = same_Some c.var.0 d.var.0 (sym a.variable ∙ ap (λ x. option_map (λ (s : Scalar). s.variable) (slice_get g.scalars x)) target ∙ b.variable)

      operand : c.operand ≡ d.operand
      operand = a.no_read ∙ sym b.no_read

  -- ---- How many there are

  -- the cases of assignments of the graph
  abbrev IsOfGraph : ℕ → ℕ × Case → Type 0
  IsOfGraph f c = (c.0 ≡ f) × IsReadingAssignment g c.1

  abbrev IsOfBlock : (f n : ℕ) → ℕ × Case → Type 0
  IsOfBlock f n c = IsOfGraph f c × (c.1.block ≡ n)

  abbrev IsOfIndex : (f n k : ℕ) → ℕ × Case → Type 0
  IsOfIndex f n k c = IsOfBlock f n c × (c.1.index ≡ k)

  -- its instruction stands in the block of this number
  stands_in_block : (f n : ℕ) (b : Block) → slice_get g.blocks n ≡ Some b → (c : ℕ × Case) (is : IsOfBlock f n c) → slice_get b.instructions c.1.index ≡ Some is.0.1.instruction
  stands_in_block f n b at c is =
      let a = is.0.1 in
      let same : a.stood.block ≡ b = same_Some a.stood.block b (sym a.stood.is ∙ ap (slice_get g.blocks) is.1 ∙ at) in
      sym (ap (λ (k : Block). slice_get k.instructions c.1.index) same) ∙ stands_there c.1 a

  module _ (f n : ℕ) (b : Block) (at : slice_get g.blocks n ≡ Some b) where
    -- At one instruction there is one at most, and none where it is not counted.
    few_at : (k : ℕ) (i : Instruction) → slice_get b.instructions k ≡ Some i → (part : List (ℕ × Case)) → AllByRecursion (IsOfIndex f n k) part → AreApart part → length part ≤ counts i
    few_at k i there [] are apart = omega (arith)
    few_at k i there (c ∷ part) are apart =
        let first = are.0 in
        let a = first.0.0.1 in
        let same : a.instruction ≡ i = same_Some a.instruction i (sym (stands_in_block f n b at c first.0) ∙ ap (slice_get b.instructions) first.1 ∙ there) in
        let one = counted_one i a.computation (ap computed_by (sym same) ∙ it_does a.computation a.instruction a.reads.1.0) in
        let most = one_at_most c part (all_so (IsOfIndex f n k) (λ d. c ≡ d) (λ d is. same_pair c d first is) part are.1) apart in
        omega (arith, one, most)
      where
        same_pair : (c d : ℕ × Case) → IsOfIndex f n k c → IsOfIndex f n k d → c ≡ d
        same_pair c d a e =
            let function : c.0 ≡ d.0 = a.0.0.0 ∙ sym e.0.0.0 in
            let case : c.1 ≡ d.1 = same_case c.1 d.1 a.0.0.1 e.0.0.1 (a.0.1 ∙ sym e.0.1) (a.1 ∙ sym e.1) in
            λ i. (function i, case i)

    -- In one block they are no more than its instructions that are counted.
    few_in_block : (part : List (ℕ × Case)) → AllByRecursion (IsOfBlock f n) part → AreApart part → length part ≤ total counts b.instructions
    few_in_block = few_by_key {A = ℕ × Case} counts b.instructions (λ c. c.1.index) (IsOfBlock f n) (λ c is. slice_get_within b.instructions c.1.index is.0.1.instruction (stands_in_block f n b at c is)) few_at

  -- So it is in one function.
  few_in_graph : (f : ℕ) (part : List (ℕ × Case)) → AllByRecursion (IsOfGraph f) part → AreApart part → length part ≤ instructions_of g
  few_in_graph f = few_by_key {A = ℕ × Case} (λ (b : Block). total counts b.instructions) g.blocks (λ c. c.1.block) (IsOfGraph f) (λ c is. slice_get_within g.blocks c.1.block is.1.stood.block is.1.stood.is) (few_in_block f)

-- A unit has fewer instructions than changes may be logged.
few_changes : (room : Room) → most_instructions room ≤ most_changes room
few_changes Small = omega (arith)
few_changes Large = omega (arith)

module _ (u v : UnitForm) (pass : PassName) (marked : AreWellMarked u) (changes : AddsChangesOf pass Moved IsMovedAssignment u v) where
  -- a case of a function of the unit
  abbrev IsOfUnit : ℕ × Case → Type 0
  IsOfUnit c = IsCaseOf IsMovedAssignment u.graphs v.graphs c

  -- In all functions there are few.
  few : (cases : List (ℕ × Case)) → AllByRecursion IsOfUnit cases → AreApart cases → length cases ≤ most_changes u.room
  few cases are apart =
      let all = few_by_key {A = ℕ × Case} instructions_of u.graphs (λ c. c.0) IsOfUnit (λ c is. slice_get_within u.graphs c.0 is.before is.stood)
      (λ f g at part these no_two. few_in_graph g f part (all_so (λ c. IsOfUnit c × (c.0 ≡ f)) (λ c. (c.0 ≡ f) × IsReadingAssignment g c.1)
      (λ c is. (is.1, subst (λ h. IsReadingAssignment h c.1) (same_Some is.0.before g (sym is.0.stood ∙ ap (slice_get u.graphs) is.1 ∙ at)) is.0.case.assignment)) part these) no_two)
      cases are apart in
      let valid = marked.valid.instructions in
      let most = few_changes u.room in
      omega (arith, all, valid, most)

  -- WHAT LAZY CODE MOTION LOGS IS LOGGED WELL.
  pub motion_logs_well : LogsWell pass u v
  motion_logs_well = logged_well pass Moved IsMovedAssignment u v changes (λ e. absurd cc) few
      (λ c is. place_marked u marked c.0 is.before is.stood c.1.place.0 c.1.block (is.case.assignment.instruction ∷ is.case.assignment.rest) is.case.assignment.end is.case.assignment.stood)
      (λ c is. record { function = c.0; graph = is.before; x = is.case.assignment.x; is = is.stood; of = is.case.assignment.variable })
