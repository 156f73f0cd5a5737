-- Computations that changes moved away from places.
use Rattle.std.specs.Prelude.{◌≡◌, ◌==◌, ◌&&◌, ℕ, Bool, true, false, List, slice_get}
use Rattle.std.specs.List.{list_any}
use Rattle.std.specs.Option.{option_map_or}
use Rattle.debug_records.specs.declared.change.Kind.{Kind}
use Rattle.debug_records.specs.declared.change.Kind.TheVariants.{Moved}
use Rattle.graph_core.specs.Graphs.{Logged, Scalar}
use Rattle.home_assign.specs.declared.moves.Moves.{Moves}
use Rattle.home_assign.specs.Pairs.{has}

-- a change moved a computation away
abbrev pub is_moved : Kind → Bool
is_moved Moved = true
is_moved _ = false

-- a change moved the computation of a variable's value away from a place
abbrev pub moves_from : (variable place : ℕ) → Logged → Bool
moves_from v p c = is_moved c.kind && (c.variable == v && c.place == p)

-- it is known what these changes moved away
abbrev pub AreMoves : List Logged → Moves → Type 0
AreMoves log moves = (v p : ℕ) → has moves.pairs v p ≡ list_any (moves_from v p) log

-- the computation of a scalar's value was moved away from a place
abbrev pub is_moved_at : List Scalar → Moves → (x place : ℕ) → Bool
is_moved_at scalars moves x p = option_map_or (λ (s : Scalar). has moves.pairs s.variable p) (slice_get scalars x) false
