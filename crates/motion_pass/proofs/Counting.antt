-- All functions together stay within bounds, where each becomes what it does so that they do.
use Rattle.std.proofs.Common.{ℕ, ◌≤◌, List, [], ◌∷◌, ◌++◌, sym, subst, append_assoc}
use Rattle.memory_map.specs.declared.map.Room.{Room}
use Rattle.graph_core.specs.Graphs.{Graph}
use Rattle.graph_core.specs.Validity.{total}
use Rattle.motion_pass_placement.specs.Moves.{IsWithin, BecomesIn, moves, passes_a_bound, is_entered_again, BecomeIn, no_function, one_function}

module _ (room : Room) (count : Graph → ℕ) (most : ℕ) (bounded : (h : Graph) (all : List Graph) → IsWithin room h all → total count all ≤ most) where
  -- With what becomes of a function they count no more than they may, if they did so before.
  one_within : (before : List Graph) (g : Graph) (behind : List Graph) (h : Graph) → BecomesIn room before g behind h → total count (before ++ g ∷ behind) ≤ most → total count (before ++ h ∷ behind) ≤ most
  one_within before g behind h (moves once is within_bounds) few = bounded h (before ++ h ∷ behind) within_bounds
  one_within before g behind _ (passes_a_bound once is beyond) few = few
  one_within before g behind _ (is_entered_again again) few = few

  -- So it is with what becomes of all.
  pub all_within : (before gs hs : List Graph) → BecomeIn room before gs hs → total count (before ++ gs) ≤ most → total count (before ++ hs) ≤ most
  all_within before _ _ no_function few = few
  all_within before _ _ (one_function {gs = gs} {hs} {g} {h} is more) few =
      let one : total count (before ++ h ∷ gs) ≤ most = one_within before g gs h is few in
      let here : total count ((before ++ h ∷ []) ++ gs) ≤ most = subst (λ all. total count all ≤ most) (sym (append_assoc before (h ∷ []) gs)) one in
      subst (λ all. total count all ≤ most) (append_assoc before (h ∷ []) hs) (all_within (before ++ h ∷ []) gs hs more here)
