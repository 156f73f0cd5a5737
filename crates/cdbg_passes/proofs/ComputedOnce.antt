-- Behind code motion nothing is computed again, and nothing more often than by any safe placement: function by function.
use Rattle.std.proofs.Common.{◌≡◌, ◌⊎◌, inl, inr, ℕ, zero, suc, Some, List, [], ◌∷◌, ◌++◌, refl, sym, subst, append_assoc, arith, take, drop}
use Rattle.std.specs.Prelude.{slice_get}
use Rattle.std.proofs.lemmas.Option.{none-some, same_Some}
use Rattle.graph_core.specs.Graphs.{Graph, UnitForm}
use Rattle.graph_core.specs.Paths.{History}
use Rattle.graph_core.specs.Validity.{IsGraph}
use Rattle.graph_core.specs.WellMarked.{AreWellMarked}
use Rattle.base_laws.proofs.Lists.{all_at, append_nil}
use Rattle.pass_law.specs.Kept.{EachFunction}
use Rattle.motion_pass_placement.specs.Placed.{IsEnteredAgain}
use Rattle.motion_pass_placement.specs.Moving.{IsMoved}
use Rattle.motion_pass_placement.specs.Moves.{BecomesIn, moves, passes_a_bound, is_entered_again, BecomeIn, no_function, one_function}
use Rattle.motion_pass_laws.specs.Made.{stays}
use Rattle.motion_pass_laws.specs.Often.{AreOnePath, nothing_passed, both_passed, DoesNoMore, IsOnceAhead, HasNothingAgain}
use Rattle.motion_pass_laws.specs.Optimal.{IsOptimal}
use Rattle.motion_pass_laws.proofs.Again as again
use Rattle.motion_pass_laws.proofs.Accounts as accounts
use Rattle.motion_pass_laws.proofs.Optimal as optimal
use Rattle.cdbg_passes.specs.NothingLeft.{AreOptimal, ComputeNothingAgain, IsBeyondBounds}
use Rattle.cdbg_passes.specs.Steps.{MovesCode}
use Rattle.cdbg_passes.proofs.LeftForBounds.{not_entered}

-- ---- A function

-- What is so of a function that is moved is so of it, or it was left for a bound.
so_or_left : (u : UnitForm) (R : Graph → Graph → Type 0) → ((g h : Graph) → IsGraph u g → IsMoved g h → (IsEnteredAgain g.blocks → ⊥) → R g h) → (before : List Graph) (g : Graph) (behind : List Graph) (h : Graph)
    → IsGraph u g → (IsEnteredAgain g.blocks → ⊥) → BecomesIn u.room before g behind h → R g h ⊎ ((h ≡ g) × IsBeyondBounds u.room before g behind)
so_or_left u R so before g behind h valid never (moves entered moved within_bounds) = inl (so g h valid moved entered)
so_or_left u R so before g behind _ valid never (passes_a_bound {h = k} entered moved beyond) = inr (refl, record { moved = k; is = moved; beyond = beyond })
so_or_left u R so before g behind _ valid never (is_entered_again entered) = absurd (never entered)

-- A path is one with itself.
one_with_itself : (g : Graph) (history : History) → AreOnePath g history history
one_with_itself g [] = nothing_passed
one_with_itself g (p ∷ history) = both_passed refl refl stays (one_with_itself g history)

-- A function that is left does no more than it did.
left_no_more : (g : Graph) → DoesNoMore g g
left_no_more g history n a way = record { before = history; way = way; one = one_with_itself g history; often = λ e. omega (arith) }

-- So does one that is moved.
no_more : (u : UnitForm) (before : List Graph) (g : Graph) (behind : List Graph) (h : Graph) → IsGraph u g → BecomesIn u.room before g behind h → DoesNoMore g h
no_more u before g behind h valid (moves entered moved within_bounds) = accounts.no_more_often u g h valid moved entered
no_more u before g behind _ valid (passes_a_bound entered moved beyond) = left_no_more g
no_more u before g behind _ valid (is_entered_again entered) = left_no_more g

-- Nor is anything computed further ahead than once in a function that is left,
left_once_more : (g : Graph) → IsOnceAhead g g
left_once_more g history n rest f way = record { before = history; number = n; rest = rest; end = f; way = way; one = one_with_itself g history; often = λ e. omega (arith) }

-- or in one that is moved.
once_more : (u : UnitForm) (before : List Graph) (g : Graph) (behind : List Graph) (h : Graph) → IsGraph u g → BecomesIn u.room before g behind h → IsOnceAhead g h
once_more u before g behind h valid (moves entered moved within_bounds) = accounts.once_more_at_most u g h valid moved entered
once_more u before g behind _ valid (passes_a_bound entered moved beyond) = left_once_more g
once_more u before g behind _ valid (is_entered_again entered) = left_once_more g

-- ---- All functions

all_so : (u : UnitForm) (R : Graph → Graph → Type 0) → ((g h : Graph) → IsGraph u g → IsMoved g h → (IsEnteredAgain g.blocks → ⊥) → R g h) → (before gs hs : List Graph)
    → ((f : ℕ) (g : Graph) → slice_get gs f ≡ Some g → IsGraph u g × (IsEnteredAgain g.blocks → ⊥)) → BecomeIn u.room before gs hs
    → (k : ℕ) (g h : Graph) → slice_get gs k ≡ Some g → slice_get hs k ≡ Some h → R g h ⊎ ((h ≡ g) × IsBeyondBounds u.room (before ++ take k hs) g (drop (suc k) gs))
all_so u R so before [] hs each become k g h is at = absurd (none-some g is)
all_so u R so before (x ∷ gs) [] each become k g h is at = absurd (none-some h at)
all_so u R so before (x ∷ gs) (y ∷ hs) each (one_function becomes more) zero g h is at =
    let of = each 0 x refl in
    let first = so_or_left u R so before x gs y of.0 of.1 becomes in
    let one : R g h ⊎ ((h ≡ g) × IsBeyondBounds u.room before g gs) = subst (λ b. R g b ⊎ ((b ≡ g) × IsBeyondBounds u.room before g gs)) (same_Some y h at) (subst (λ a. R a y ⊎ ((y ≡ a) × IsBeyondBounds u.room before a gs)) (same_Some x g is) first) in
    subst (λ l. R g h ⊎ ((h ≡ g) × IsBeyondBounds u.room l g gs)) (sym (append_nil before)) one
all_so u R so before (x ∷ gs) (y ∷ hs) each (one_function becomes more) (suc k) g h is at =
    subst (λ l. R g h ⊎ ((h ≡ g) × IsBeyondBounds u.room l g (drop (suc k) gs))) (append_assoc before (y ∷ []) (take k hs)) (all_so u R so (before ++ y ∷ []) gs hs (λ f a e. each (suc f) a e) more k g h is at)

-- What is so of each function behind a step is so of all.
all_become : (u : UnitForm) (R : Graph → Graph → Type 0) → ((before : List Graph) (g : Graph) (behind : List Graph) (h : Graph) → IsGraph u g → BecomesIn u.room before g behind h → R g h) → (before gs hs : List Graph)
    → ((f : ℕ) (g : Graph) → slice_get gs f ≡ Some g → IsGraph u g) → BecomeIn u.room before gs hs → EachFunction R gs hs
all_become u R each before _ _ valid no_function = tt
all_become u R each before _ _ valid (one_function {gs = gs} {hs = hs} {g = x} {h = y} becomes more) = (each before x gs y (valid 0 x refl) becomes, all_become u R each (before ++ y ∷ []) gs hs (λ f a e. valid (suc f) a e) more)

of_step : (u v : UnitForm) (R : Graph → Graph → Type 0) → ((g h : Graph) → IsGraph u g → IsMoved g h → (IsEnteredAgain g.blocks → ⊥) → R g h) → AreWellMarked u → MovesCode u v
    → (k : ℕ) (g h : Graph) → slice_get u.graphs k ≡ Some g → slice_get v.graphs k ≡ Some h → R g h ⊎ ((h ≡ g) × IsBeyondBounds u.room (take k v.graphs) g (drop (suc k) u.graphs))
of_step u v R so marked step k g h is at = all_so u R so [] u.graphs v.graphs (λ f a e. (all_at (IsGraph u) u.graphs f a marked.valid.graphs e, not_entered u a (marked.graphs f a e))) step.functions k g h is at

-- NOTHING IS COMPUTED AGAIN behind a step of lazy code motion.
pub nothing_again : (u v : UnitForm) → AreWellMarked u → MovesCode u v → ComputeNothingAgain u.room u.graphs v.graphs
nothing_again u v marked step = of_step u v (λ g h. HasNothingAgain h) (λ g h valid moved entered. again.nothing_again u g h valid moved) marked step

-- EACH FUNCTION IS COMPUTATIONALLY OPTIMAL behind one.
pub are_optimal : (u v : UnitForm) → AreWellMarked u → MovesCode u v → AreOptimal u.room u.graphs v.graphs
are_optimal u v marked step = of_step u v IsOptimal (λ g h valid moved entered. optimal.is_optimal u g h valid moved entered) marked step

-- NOTHING IS COMPUTED MORE OFTEN behind one,
pub no_more_often : (u v : UnitForm) → AreWellMarked u → MovesCode u v → EachFunction DoesNoMore u.graphs v.graphs
no_more_often u v marked step = all_become u DoesNoMore (no_more u) [] u.graphs v.graphs (λ f a e. all_at (IsGraph u) u.graphs f a marked.valid.graphs e) step.functions

-- nor further ahead than once.
pub once_more_at_most : (u v : UnitForm) → AreWellMarked u → MovesCode u v → EachFunction IsOnceAhead u.graphs v.graphs
once_more_at_most u v marked step = all_become u IsOnceAhead (once_more u) [] u.graphs v.graphs (λ f a e. all_at (IsGraph u) u.graphs f a marked.valid.graphs e) step.functions
