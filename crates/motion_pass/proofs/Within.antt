-- How much there is with one graph in place of another.
use Rattle.std.proofs.Common.{◌≡◌, ℕ, ◌+◌, ◌-◌, ◌^◌, ◌<◌, ◌≤◌, ◌++◌, ◌∷◌, List, length, min, arith}
use Rattle.memory_map.specs.declared.map.Room.{Room}
use Rattle.graph_core.proofs.Rooms.{instructions_in, blocks_in}
use Rattle.graph_core.specs.Bounds.{most_names, most_instructions_of_function, most_instructions, most_blocks}
use Rattle.graph_core.specs.Graphs.{Graph}
use Rattle.graph_core.specs.Validity.{instructions_of, total}
use Rattle.motion_pass_placement.specs.Moves.{IsWithin}
use Rattle.motion_pass.specs.declared.bounds.Amount.{Amount}
use Rattle.motion_pass.specs.Amounts.{IsAmount}
use Rattle.motion_pass.proofs.Functions.{total_parts}

module _ (a : Amount) (before behind : List Graph) (g h : Graph) (is : IsAmount a (before ++ g ∷ behind)) where
  pub instructions_with : (was own now : ℕ) → was ≡ min (instructions_of g) (2 ^ 64 - 1) → own ≡ min (instructions_of h) (2 ^ 64 - 1) → a.instructions ≤ 2 ^ 64 - 1 → now ≡ min (a.instructions - was + own) (2 ^ 64 - 1)
      → now ≡ min (total instructions_of (before ++ h ∷ behind)) (2 ^ 64 - 1)
  instructions_with was own now was_is own_is few now_is =
      let old : total instructions_of (before ++ g ∷ behind) ≡ total instructions_of before + (instructions_of g + total instructions_of behind) = total_parts instructions_of before (g ∷ behind) in
      let new : total instructions_of (before ++ h ∷ behind) ≡ total instructions_of before + (instructions_of h + total instructions_of behind) = total_parts instructions_of before (h ∷ behind) in
      let all : a.instructions ≡ total instructions_of (before ++ g ∷ behind) = is.instructions in
      omega (arith, old, new, all, was_is, own_is, few, now_is)

  pub blocks_with : (now : ℕ) → a.blocks ≤ 2 ^ 64 - 1 → now ≡ min (a.blocks - length g.blocks + length h.blocks) (2 ^ 64 - 1) → now ≡ min (total (λ (f : Graph). length f.blocks) (before ++ h ∷ behind)) (2 ^ 64 - 1)
  blocks_with now few now_is =
      let count : Graph → ℕ = λ f. length f.blocks in
      let old : total count (before ++ g ∷ behind) ≡ total count before + (length g.blocks + total count behind) = total_parts count before (g ∷ behind) in
      let new : total count (before ++ h ∷ behind) ≡ total count before + (length h.blocks + total count behind) = total_parts count before (h ∷ behind) in
      let all : a.blocks ≡ total count (before ++ g ∷ behind) = is.blocks in
      omega (arith, old, new, all, few, now_is)

-- what is within bounds, and how much there is then
module _ (room : Room) (h : Graph) (all : List Graph) (own instructions blocks : ℕ) (own_is : own ≡ min (instructions_of h) (2 ^ 64 - 1)) (instructions_is : instructions ≡ min (total instructions_of all) (2 ^ 64 - 1)) (blocks_is : blocks ≡ min (total (λ (f : Graph). length f.blocks) all) (2 ^ 64 - 1)) where
  pub is_within : h.name_count ≤ most_names → own ≤ most_instructions_of_function → instructions ≤ most_instructions room → blocks ≤ most_blocks room → IsWithin room h all
  is_within names few many most = record { names = names; own = omega (arith, own_is, few); instructions = omega (arith, instructions_is, many, instructions_in room); blocks = omega (arith, blocks_is, most, blocks_in room) }

  pub is_amount : instructions ≤ most_instructions room → blocks ≤ most_blocks room → IsAmount (record { instructions = instructions; blocks = blocks }) all
  is_amount many most = record { instructions = omega (arith, instructions_is, many, instructions_in room); blocks = omega (arith, blocks_is, most, blocks_in room) }

  pub own_beyond : most_instructions_of_function < own → IsWithin room h all → ⊥
  own_beyond over w = (let few = w.own in omega (arith, own_is, few, over))

  pub instructions_beyond : most_instructions room < instructions → IsWithin room h all → ⊥
  instructions_beyond over w = (let few = w.instructions in omega (arith, instructions_is, few, over))

  pub blocks_beyond : most_blocks room < blocks → IsWithin room h all → ⊥
  blocks_beyond over w = (let few = w.blocks in omega (arith, blocks_is, few, over))
