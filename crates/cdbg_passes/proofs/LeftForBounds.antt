-- Code motion leaves a function of a well marked unit for a bound alone: no path comes to its first block again.
use Rattle.std.proofs.Common.{◌≡◌, ℕ, zero, suc, inl, inr, Some, List, [], ◌∷◌, ◌++◌, refl, sym, ◌∙◌, subst, append_assoc, take, drop}
use Rattle.std.specs.Prelude.{slice_get}
use Rattle.std.proofs.lemmas.Option.{same_Some, none-some}
use Rattle.memory_map.specs.declared.map.Room.{Room}
use Rattle.graph_core.specs.Graphs.{Block, Graph, UnitForm}
use Rattle.graph_core.specs.Uses.{targets_of}
use Rattle.graph_core.specs.Paths.{Among}
use Rattle.graph_core.specs.WellMarked.{AreWellMarked, IsWellMarked}
use Rattle.base_laws.proofs.Lists.{append_nil}
use Rattle.motion_pass_points.specs.Ways.{Point, within, along, passes, leaves, enters, IsCome, begins, goes}
use Rattle.motion_pass_placement.specs.Placed.{IsEnteredAgain}
use Rattle.motion_pass_placement.specs.Moves.{BecomesIn, moves, passes_a_bound, is_entered_again, BecomeIn, one_function}
use Rattle.cdbg_passes.specs.Bounds.{AreLeftForBounds, IsLeftForBounds}
use Rattle.cdbg_passes.specs.Steps.{MovesCode}

module _ (blocks : List Block) where
  -- A point stands in a block, or on an edge from one.
  abbrev StandsAt : Point → Type 0
  StandsAt (within n left f) = (b : Block) × (slice_get blocks n ≡ Some b) × (b.end ≡ f)
  StandsAt (along n l) = (b : Block) × (slice_get blocks n ≡ Some b) × Among l (targets_of b.end)

  -- So it is with each point that a path comes to.
  come_stands : {p : Point} → IsCome blocks p → StandsAt p
  come_stands (begins b is) = (b, is, refl)
  come_stands (goes come passes) = come_stands come
  come_stands (goes come (leaves {l = l} to)) = (let s = come_stands come in (s.0, s.1, subst (λ f. Among l (targets_of f)) (sym s.2) to))
  come_stands (goes come (enters b is)) = (b, is, refl)

-- So no path comes to the first block again.
pub not_entered : (u : UnitForm) (g : Graph) → IsWellMarked u g → IsEnteredAgain g.blocks → ⊥
not_entered u g marked again = (let s = come_stands g.blocks again.1 in marked.first again.0 s.0 s.1 s.2)

-- A function that is left is left for a bound.
one_left : {room : Room} (before : List Graph) (g : Graph) (behind : List Graph) (h : Graph) → (IsEnteredAgain g.blocks → ⊥) → BecomesIn room before g behind h → h ≡ g → IsLeftForBounds room before g behind
one_left before g behind h never (moves {h = k} entered moved within_bounds) same = record { moved = k; is = moved; why = inl same }
one_left before g behind h never (passes_a_bound {h = k} entered moved beyond) same = record { moved = k; is = moved; why = inr beyond }
one_left before g behind h never (is_entered_again again) same = absurd (never again)

all_left : {room : Room} (before gs hs : List Graph) → ((f : ℕ) (g : Graph) → slice_get gs f ≡ Some g → IsEnteredAgain g.blocks → ⊥) → BecomeIn room before gs hs → (k : ℕ) (g : Graph) → slice_get gs k ≡ Some g → slice_get hs k ≡ Some g → IsLeftForBounds room (before ++ take k hs) g (drop (suc k) gs)
all_left before [] hs never become k g is at = absurd (none-some g is)
all_left before (x ∷ gs) [] never become k g is at = absurd (none-some g at)
all_left {room} before (x ∷ gs) (y ∷ hs) never (one_function becomes more) zero g is at =
    let left = one_left before x gs y (never 0 x refl) becomes (same_Some y g at ∙ sym (same_Some x g is)) in
    subst (λ l. IsLeftForBounds room l g gs) (sym (append_nil before)) (subst (λ a. IsLeftForBounds room before a gs) (same_Some x g is) left)
all_left {room} before (x ∷ gs) (y ∷ hs) never (one_function becomes more) (suc k) g is at =
    subst (λ l. IsLeftForBounds room l g (drop (suc k) gs)) (append_assoc before (y ∷ []) (take k hs)) (all_left (before ++ y ∷ []) gs hs (λ f a e. never (suc f) a e) more k g is at)

-- FUNCTIONS ARE LEFT FOR BOUNDS ALONE by a step of lazy code motion.
pub left_for_bounds : (u v : UnitForm) → AreWellMarked u → MovesCode u v → AreLeftForBounds u.room u.graphs v.graphs
left_for_bounds u v marked step k g is at = all_left [] u.graphs v.graphs (λ f a e. not_entered u a (marked.graphs f a e)) step.functions k g is at
