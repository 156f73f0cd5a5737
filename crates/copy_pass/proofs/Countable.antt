-- The graphs of a valid unit can be counted.
use Rattle.std.proofs.Common.{◌≡◌, ℕ, zero, suc, ◌-◌, ◌^◌, ◌<◌, ◌≤◌, Some, List, [], ◌∷◌, drop, get_or, length, map, take, sym, ap, subst, arith}
use Rattle.std.specs.Prelude.{slice_get}
use Rattle.std.specs.List.{AllByRecursion}
use Rattle.std.proofs.lemmas.Option.{none-some, same_Some}
use Rattle.memory_map.specs.declared.map.Room.{Room}
use Rattle.memory_map.specs.declared.map.Room.TheVariants.{Small, Large}
use Rattle.base_laws.proofs.Lists.{all_at, each_from, rest_is}
use Rattle.graph_core.specs.Bounds.{most_blocks}
use Rattle.graph_core.specs.Graphs.{Block, Graph, UnitForm}
use Rattle.graph_core.specs.Validity.{IsGraph, IsKept, IsValid, total}
use Rattle.copy_pass_rule.specs.Countable.{IsCountable}

-- One counts no more than all.
no_more : {A : Type 0} (count : A → ℕ) (xs : List A) (n : ℕ) (x : A) → slice_get xs n ≡ Some x → count x ≤ total count xs
no_more count [] n x at = absurd (none-some x at)
no_more count (y ∷ xs) zero x at = (let same = ap count (same_Some y x at) in omega (arith, same))
no_more count (y ∷ xs) (suc n) x at = (let more = no_more count xs n x at in omega (arith, more))

-- There is a block, where the first one keeps a place.
some_block : (place : ℕ) (blocks : List Block) → IsKept (Some place) (slice_get blocks 0) → 0 < length blocks
some_block place [] kept = absurd kept
some_block place (b ∷ blocks) kept = omega arith

few_blocks : (room : Room) → most_blocks room < 2 ^ 31
few_blocks Small = omega (arith)
few_blocks Large = omega (arith)

-- THE GRAPHS OF A VALID UNIT CAN BE COUNTED.
pub each_countable : (u : UnitForm) → IsValid u → AllByRecursion IsCountable u.graphs
each_countable u valid = each_from IsCountable u.graphs one
  where
    one : (f : ℕ) (g : Graph) → slice_get u.graphs f ≡ Some g → IsCountable g
    one f g at =
        let is : IsGraph u g = all_at (IsGraph u) u.graphs f g valid.graphs at in
        let blocks = no_more (λ (h : Graph). length h.blocks) u.graphs f g at in
        let all = valid.blocks in
        let most = few_blocks u.room in
        let scalars = is.scalars in
        let temporaries = is.temporaries in
        let names = is.names in
        let instructions = is.instructions in
        record {
          some = some_block g.entry g.blocks is.begins;
          blocks = omega (arith, blocks, all, most);
          scalars = omega (arith, scalars, temporaries, names);
          instructions = omega (arith, instructions);
        }

module _ {A : Type 0} (view : A → Graph) (P : Graph → Type 0) where
  -- What is so of each is so of the first, and of those behind it.
  pub so_of_first : (left : List A) (x d : A) → 1 ≤ length left → x ≡ get_or left 0 d → AllByRecursion P (map view left) → P (view x)
  so_of_first [] x d some first all = absurd (omega arith)
  so_of_first (y ∷ left) x d some first all = subst (λ z. P (view z)) (sym first) all.0

  pub so_of_rest : (left : List A) → 1 ≤ length left → AllByRecursion P (map view left)
      → AllByRecursion P (map view (take (length left - 1) (drop 1 left)))
  so_of_rest [] some all = absurd (omega arith)
  so_of_rest (y ∷ left) some all = subst (λ zs. AllByRecursion P (map view zs)) (sym (rest_is y left)) all.1
