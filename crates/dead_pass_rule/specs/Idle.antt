-- Which writes the removal of dead assignments takes away (Kennedy 1981): those that nothing needs, one by one.
use Rattle.std.specs.Prelude.{◌≡◌, ◌⊎◌, ℕ, ◌≤◌, Bool, true, false, Option, Some, None, List, [], ◌∷◌, length, slice_get}
use Rattle.std.specs.Option.{option_map_or}
use Rattle.places.specs.Flow.{assigns}
use Rattle.places.specs.declared.flow.Assignment.{Assignment}
use Rattle.graph_core.specs.Graphs.{Scalar, Instruction, End, Graph}
use Rattle.graph_core.specs.Uses.{target_of, is_computation}
use Rattle.graph_core.specs.Paths.{History, Way, writes}
use Rattle.graph_core.specs.Points.{StandsWith, some_passed, ReadsNext, assignments_in}
use Rattle.graph_paths.specs.Reached.{IsReached}

-- What comes next is a computation, which calls nothing.
abbrev pub is_computed_next : List Instruction → Bool
is_computed_next [] = false
is_computed_next (i ∷ rest) = is_computation i

-- whether by these assignments a place assigns the variable of a scalar
abbrev pub assigns_scalar : List Assignment → Graph → (p x : ℕ) → Bool
assigns_scalar assignments g p x =
    option_map_or (λ (s : Scalar). assigns assignments p s.variable) (slice_get g.scalars x) false

-- A write of a name in a place may go: the name is a temporary, or the place assigns its variable, and writes it once.
abbrev pub MayGo : List Assignment → Graph → (p x : ℕ) → Type 0
MayGo assignments g p x =
    (length g.scalars ≤ x) ⊎ ((assignments_in g p x ≡ 1) × (assigns_scalar assignments g p x ≡ true))

-- WHAT IS IDLE. A write is idle where it may go, and each read that it reaches, along ways without another write of the
-- name, is by a computation that is idle itself. It is the least such set: what keeps itself alive, as `i = i + 1` in a
-- loop, is not idle. So the idle writes are those that can be taken away one after the other, each where no way reads
-- it any more.
pub data IsIdle (assignments : List Assignment) (g : Graph) : (n : ℕ) → List Instruction → End → Type 0 where
  idle : {n : ℕ} {i : Instruction} {rest : List Instruction} {e : End} {p x : ℕ} → StandsWith g p n (i ∷ rest) e
      → target_of i ≡ Some x → MayGo assignments g p x
      →
      ((h : History) (m : ℕ) (left : List Instruction) (f : End) → Way g n rest e h m left f
      → some_passed (writes x) h ≡ false → ReadsNext x left f → is_computed_next left ≡ true)
      →
      ((h : History) (m : ℕ) (left : List Instruction) (f : End) → Way g n rest e h m left f
      → some_passed (writes x) h ≡ false → ReadsNext x left f → IsIdle assignments g m left f)
      → IsIdle assignments g n (i ∷ rest) e

-- A write goes: some path comes to it, and it is idle.
pub record Goes (assignments : List Assignment) (g : Graph) (n : ℕ) (rest : List Instruction) (e : End) : Type 0 where
  pub reached : IsReached g n rest e
  pub idle : IsIdle assignments g n rest e
