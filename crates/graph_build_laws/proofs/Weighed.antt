-- What a program weighs is within the bounds of its unit's room.
use Rattle.std.proofs.Common.{◌≡◌, ℕ, ◌*◌, ◌≤◌, Bool, true, false, if◌then◌else◌, nat_lt, refl, sym, subst, arith}
use Rattle.memory_map.specs.declared.map.Room.{Room}
use Rattle.memory_map.specs.declared.map.Room.TheVariants.{Small, Large}
use Rattle.c_tree.specs.Programs.{ProgramTree}
use Rattle.graph_core.specs.Bounds.{most_arguments, most_blocks, most_instructions, most_markers}
use Rattle.graph_build.specs.Units.{room_of}
use Rattle.base_laws.proofs.Numbers.{not_less}

-- A weight is within the bounds of a room.
pub record IsWeighedFor (room : Room) (weight : ℕ) : Type 0 where
  pub instructions : 2 * weight ≤ most_instructions room
  pub blocks : 3 * weight ≤ most_blocks room
  pub markers : weight ≤ most_markers room
  pub arguments : weight ≤ most_arguments room

weighed_for : (p : ProgramTree) → p.weight ≤ 40000 → IsWeighedFor (room_of p) p.weight
weighed_for p most = go (nat_lt 4000 p.weight) refl
  where
    go : (b : Bool) → nat_lt 4000 p.weight ≡ b → IsWeighedFor (if b then Large else Small) p.weight
    go true e = record { instructions = omega (arith, most); blocks = omega (arith, most); markers = omega (arith, most); arguments = omega (arith, most) }
    go false e = let light = not_less 4000 p.weight e in record { instructions = omega (arith, light); blocks = omega (arith, light); markers = omega (arith, light); arguments = omega (arith, light) }

-- That of a unit is the one of its program.
pub weighed_in : (p : ProgramTree) (room : Room) → room ≡ room_of p → p.weight ≤ 40000 → IsWeighedFor room p.weight
weighed_in p room is most = subst (λ r. IsWeighedFor r p.weight) (sym is) (weighed_for p most)
