-- Copy propagation and the removal of dead assignments let no function grow.
use Rattle.std.proofs.Common.{◌≡◌, ℕ, suc, ◌+◌, ◌≤◌, Some, List, [], ◌∷◌, ◌++◌, length, refl, ap, arith}
use Rattle.std.specs.Prelude.{slice_get}
use Rattle.graph_core.specs.Graphs.{Instruction, Call, End, Block, Graph, UnitForm}
use Rattle.graph_core.specs.Validity.{arguments_in, counts, total}
use Rattle.pass_law.specs.Kept.{EachFunction}
use Rattle.copy_pass_rule.specs.Copying.{IsPropagated}
use Rattle.copy_pass_rule.proofs.Alike.{propagated_alike}
use Rattle.copy_pass_rule.proofs.Shapes.{same_arguments_of, same_instructions}
use Rattle.dead_pass_rule.specs.Removing.{AreReduced, ends, gone, stays, IsReduced, StaysAs, same, noted, without}
use Rattle.cdbg_passes.specs.Bounds.{NeverGrows}
use Rattle.cdbg_passes.specs.Steps.{PropagatesCopies, RemovesDead}
use Rattle.cdbg_passes.proofs.Functions.{each_becomes}

-- ---- Copy propagation

propagated_grows : (g h : Graph) → IsPropagated g h → NeverGrows g h
propagated_grows g h made =
    let alike = propagated_alike g h made in
    let names : h.name_count ≡ g.name_count = ap (λ (q : Graph). q.name_count) made.rest in
    let blocks = made.count in
    let instructions = same_instructions g h alike in
    let arguments = same_arguments_of g h alike in
    record { names = omega (arith, names); blocks = omega (arith, blocks); instructions = omega (arith, instructions); arguments = omega (arith, arguments) }

-- ---- The removal of dead assignments

-- lists of one length, one by one
total_less : (count other : Block → ℕ) (bs cs : List Block) → length cs ≡ length bs → ((n : ℕ) (b c : Block) → slice_get bs n ≡ Some b → slice_get cs n ≡ Some c → other c ≤ count b) → total other cs ≤ total count bs
total_less count other [] [] long each = omega arith
total_less count other [] (c ∷ cs) long each = absurd (omega (arith, long))
total_less count other (b ∷ bs) [] long each = omega arith
total_less count other (b ∷ bs) (c ∷ cs) long each =
    let here = each 0 b c refl refl in
    let rest = total_less count other bs cs (omega (arith, long)) (λ n d e is at. each (suc n) d e is at) in
    omega (arith, here, rest)

zero_plus : (m : ℕ) → m ≡ 0 + m
zero_plus m = omega arith

total_both : (count : Instruction → ℕ) (xs ys : List Instruction) → total count (xs ++ ys) ≡ total count xs + total count ys
total_both count [] ys = zero_plus (total count ys)
total_both count (x ∷ xs) ys = (let rest = total_both count xs ys in omega (arith, rest))

-- Where what is left of an instruction counts no more than it, what is left of a graph counts no more.
module _ (count : Instruction → ℕ) (left : (i : Instruction) → total count (without i) ≤ count i) (stay : (g : Graph) (n : ℕ) (rest : List Instruction) (e : End) (i j : Instruction) → StaysAs g n rest e i j → count j ≤ count i) where
  reduced_less : (u : UnitForm) (g : Graph) (n : ℕ) (e : End) (is js : List Instruction) → AreReduced u.assignments g n e is js → total count js ≤ total count is
  reduced_less u g n e is js ends = omega arith
  reduced_less u g n e is js (gone {i} {rest} {after} goes_here more) =
      let deeper = reduced_less u g n e rest after more in
      let here = left i in
      let both = total_both count (without i) after in
      omega (arith, deeper, here, both)
  reduced_less u g n e is js (stays {i} {j} {rest} {after} stays_here as_is more) =
      let deeper = reduced_less u g n e rest after more in
      let here = stay g n rest e i j as_is in
      omega (arith, deeper, here)

  blocks_less : (u : UnitForm) (g h : Graph) → IsReduced u.assignments g h → total (λ (b : Block). total count b.instructions) h.blocks ≤ total (λ (b : Block). total count b.instructions) g.blocks
  blocks_less u g h made =
      total_less (λ b. total count b.instructions) (λ b. total count b.instructions) g.blocks h.blocks made.count (λ n b c is at. reduced_less u g n b.end b.instructions c.instructions (made.blocks n b c is at).instructions)

left_counts : (i : Instruction) → total counts (without i) ≤ counts i
left_counts (Call x f all) = omega arith
left_counts _ = omega arith

stay_counts : (g : Graph) (n : ℕ) (rest : List Instruction) (e : End) (i j : Instruction) → StaysAs g n rest e i j → counts j ≤ counts i
stay_counts g n rest e i j same = omega arith
stay_counts g n rest e i j (noted reached) = omega arith

left_arguments : (i : Instruction) → total arguments_in (without i) ≤ arguments_in i
left_arguments (Call x f all) = omega arith
left_arguments _ = omega arith

stay_arguments : (g : Graph) (n : ℕ) (rest : List Instruction) (e : End) (i j : Instruction) → StaysAs g n rest e i j → arguments_in j ≤ arguments_in i
stay_arguments g n rest e i j same = omega arith
stay_arguments g n rest e i j (noted reached) = omega arith

reduced_grows : (u : UnitForm) (g h : Graph) → IsReduced u.assignments g h → NeverGrows g h
reduced_grows u g h made =
    let names : h.name_count ≡ g.name_count = ap (λ (q : Graph). q.name_count) made.rest in
    let blocks = made.count in
    record { names = omega (arith, names); blocks = omega (arith, blocks); instructions = blocks_less counts left_counts stay_counts u g h made; arguments = blocks_less arguments_in left_arguments stay_arguments u g h made }

-- ---- Units

-- NO FUNCTION GROWS by a step of copy propagation,
pub copies_never_grow : (u v : UnitForm) → PropagatesCopies u v → EachFunction NeverGrows u.graphs v.graphs
copies_never_grow u v step = each_becomes IsPropagated NeverGrows propagated_grows u.graphs v.graphs step.functions

-- and none by one of the removal of dead assignments.
pub dead_never_grow : (u v : UnitForm) → RemovesDead u v → EachFunction NeverGrows u.graphs v.graphs
dead_never_grow u v step = each_becomes (IsReduced u.assignments) NeverGrows (reduced_grows u) u.graphs v.graphs step.functions
