-- What is told of the writes of a graph, instruction by instruction.
use Rattle.std.specs.Prelude.{◌≡◌, ◌↔◌, ℕ, ◌+◌, ◌==◌, ◌&&◌, Bool, true, false, if◌then◌else◌, Option, Some, None, List, [], ◌∷◌, length}
use Rattle.std.specs.Option.{option_map_or}
use Rattle.std.specs.Ordering.{nat_cmp, ordering_then}
use Rattle.std.specs.declared.cmp.Ordering.{Ordering}
use Rattle.std.specs.BTreeMap as tree
use Rattle.graph_core.specs.Graphs.{Instruction, Block, Binding, ToScalar, ToObject, Graph}
use Rattle.graph_core.specs.Paths.{writes}
use Rattle.graph_core.specs.Points.{is_place}
use Rattle.graph_core.specs.Validity.{place_behind}
use Rattle.dead_pass_writes.specs.declared.writes.Spot.{Spot}
use Rattle.dead_pass_writes.specs.declared.writes.Written.{Written}
use Rattle.dead_pass_writes.specs.declared.writes.Written.TheVariants.{Once, More}
use Rattle.dead_pass_writes.specs.declared.writes.PlaceWrites.{PlaceWrites}
use Rattle.dead_pass_writes.specs.Once.{IsOnce}

-- the order of a place and a name
abbrev pub pair_cmp : ℕ × ℕ → ℕ × ℕ → Ordering
pair_cmp a b = ordering_then (nat_cmp a.0 b.0) (nat_cmp a.1 b.1)

-- what is told of a name in a place
abbrev pub told : PlaceWrites → (p x : ℕ) → Option Written
told writes p x = tree.get pair_cmp writes.all (p, x)

-- it is this name
abbrev pub is_name : (x : ℕ) → Option ℕ → Bool
is_name x target = option_map_or (λ y. y == x) target false

-- one instruction more, which is the first, or one of more
abbrev pub one_more : Option Written → Spot → Written
one_more None spot = Once spot
one_more (Some was) spot = More

-- the one, where there is no more
abbrev pub once_of : Option Written → Option Spot
once_of None = None
once_of (Some More) = None
once_of (Some (Once spot)) = Some spot

-- what is told behind an instruction
abbrev pub with_write : (is_one : Bool) → Spot → Option Written → Option Written
with_write is_one spot was = if is_one then Some (one_more was spot) else was

-- what is told behind a binding
abbrev pub with_binding : (is_one : Bool) → Option Written → Option Written
with_binding is_one was = if is_one then Some More else was

-- what is told behind instructions of a block, of which the first stands where a place is in force
abbrev pub written_by : (p x : ℕ) → Option Written → (place : Option ℕ) → (n : ℕ) → List Instruction → Option Written
written_by p x was place n [] = was
written_by p x was place n (i ∷ rest) =
    written_by p x (with_write (is_place p place && writes x i) (record {
      block = n;
      left = length rest;
    }) was) (place_behind (i ∷ []) place) n rest

-- what is told behind blocks, of which the first has this number
abbrev pub written_in : (p x : ℕ) → Option Written → (n : ℕ) → List Block → Option Written
written_in p x was n [] = was
written_in p x was n (b ∷ more) = written_in p x (written_by p x was b.place n b.instructions) (n + 1) more

-- what is told behind bindings at the entry
abbrev pub bound_by : (entry p x : ℕ) → Option Written → List Binding → Option Written
bound_by entry p x was [] = was
bound_by entry p x was (ToScalar y ∷ more) = bound_by entry p x (with_binding (entry == p && y == x) was) more
bound_by entry p x was (ToObject object ∷ more) = bound_by entry p x was more

-- One write of a name in a place is told just where there is one.
abbrev pub Tells : Graph → PlaceWrites → Type 0
Tells g writes = (p x : ℕ) (s : Spot) → (told writes p x ≡ Some (Once s)) ↔ IsOnce g p x s.block s.left
