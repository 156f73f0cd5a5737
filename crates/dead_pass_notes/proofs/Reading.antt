-- What the code reads at a spot is what stands there.
use Rattle.std.proofs.Common.{◌≡◌, ◌≢◌, ℕ, suc, ◌≤◌, ◌<◌, List, [], ◌∷◌, length, get_or, map, refl, sym, ap, ◌∙◌, arith}
use Rattle.graph_core.specs.declared.instruction.Instr as declared-instr
use Rattle.graph_core.specs.Graphs.{Operand, Instruction, Graph, instruction_view}
use Rattle.dead_pass_notes.specs.Spots.{left_at, IsPoint}
use Rattle.dead_pass_notes.proofs.PlaceWaysPoints.{first_there}

same_rest : {i j : Instruction} {xs ys : List Instruction} → i ∷ xs ≡ j ∷ ys → i ≡ j
same_rest e = cc

module _ (g : Graph) (n left : ℕ) (point : IsPoint g n (suc left)) (read : List declared-instr.Instr) (is : map instruction_view read ≡ left_at g n (suc left)) where
  -- the first of what is read
  pub first_is : (item : declared-instr.Instr) → 1 ≤ length read → item ≡ get_or read 0 item → left_at g n (suc left) ≡ instruction_view item ∷ left_at g n left
  first_is item some first = by read refl some first
    where
      by : (all : List declared-instr.Instr) → read ≡ all → 1 ≤ length all → item ≡ get_or all 0 item → left_at g n (suc left) ≡ instruction_view item ∷ left_at g n left
      by [] same le e = absurd (omega (arith, le))
      by (y ∷ more) same le e =
          let there = first_there g n left point in
          let read_is : instruction_view y ∷ map instruction_view more ≡ there.instruction ∷ left_at g n left = ap (map instruction_view) (sym same) ∙ is ∙ there.is in
          there.is ∙ ap (λ i. i ∷ left_at g n left) (sym (same_rest read_is) ∙ ap instruction_view (sym e))

  -- something is read
  pub some_read : length read < 1 → ⊥
  some_read none = by read refl none
    where
      by : (all : List declared-instr.Instr) → read ≡ all → length all < 1 → ⊥
      by [] same lt =
          let there = first_there g n left point in
          let short = ap (λ l. length l) (ap (map instruction_view) (sym same) ∙ is ∙ there.is) in
          omega (arith, short)
      by (y ∷ more) same lt = omega (arith, lt)
