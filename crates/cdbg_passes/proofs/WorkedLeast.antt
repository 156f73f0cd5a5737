-- What leaves `x = y == z; w = y == z` as it is is not optimal: the comparison can be placed before both.
use Rattle.std.proofs.Common.{◌≡◌, ◌≤◌, ℕ, ◌+◌, Bool, true, false, true≢false, ◌||◌, ◌&&◌, not, None, List, [], ◌∷◌, refl, sym, subst, arith}
use Rattle.graph_core.specs.declared.value.Value.TheVariants.{Odd}
use Rattle.graph_core.specs.Graphs.{Instruction, End, Return, Block}
use Rattle.graph_core.specs.Uses.{targets_of}
use Rattle.graph_core.specs.Paths.{History, Among, Way, stays, passes, goes, Path, path}
use Rattle.pass_law.proofs.Inversions.{some_same, among_none}
use Rattle.motion_pass_points.specs.Computing.{spoils}
use Rattle.motion_pass_points.specs.Ways.{Point, within, does_at, Leads, IsCome, begins, IsUnsafe, spoiled, ahead}
use Rattle.motion_pass_points.specs.Ways as ways
use Rattle.motion_pass_laws.specs.Optimal.{Placement, IsSafe, has_along, has_on, spent_at, spent_along, spent_on, DoesLeast, IsOptimal}
use Rattle.motion_pass_laws.proofs.Ready.{unhad_come}
use Rattle.cdbg_passes.specs.Worked.{compares, comparing_twice}
use Rattle.cdbg_passes.proofs.WorkedOften.{compared, all}

-- It is inserted before both, and both read it.
abbrev inserts : Point → Bool
inserts (within n (i ∷ j ∷ more) f) = true
inserts _ = false

abbrev placed : Placement
placed = record { inserts = inserts; reads = λ p. true }

-- ---- It is safe

-- the points that ways come to
data IsOn : Point → Type 0 where
  at_entry : IsOn (within 0 (compares 2 ∷ compares 3 ∷ []) (Return None))
  between : IsOn (within 0 (compares 3 ∷ []) (Return None))
  behind_both : IsOn (within 0 [] (Return None))

on : {p : Point} → IsCome comparing_twice.blocks p → IsOn p
on (begins b at) = subst (λ (c : Block). IsOn (within 0 c.instructions c.end)) (some_same at) at_entry
on (ways.goes come step) = further (on come) step
  where
    further : {p q : Point} → IsOn p → Leads comparing_twice.blocks p q → IsOn q
    further at_entry ways.passes = between
    further between ways.passes = behind_both
    further behind_both (ways.leaves among) = absurd (among_none among)

-- Where it is inserted it is down-safe: the instruction there does it.
safe_there : (p : Point) → IsOn p → inserts p ≡ true → IsUnsafe comparing_twice.blocks compared p → ⊥
safe_there _ at_entry it (spoiled idle so) = true≢false idle
safe_there _ at_entry it (ahead idle step unsafe) = true≢false idle
safe_there _ between it unsafe = true≢false (sym it)
safe_there _ behind_both it unsafe = true≢false (sym it)

-- What is so behind a way: whether the temporary has it, and how often it was done.
data IsSo : ℕ → List Instruction → End → Bool → ℕ → Type 0 where
  so_at_entry : IsSo 0 (compares 2 ∷ compares 3 ∷ []) (Return None) false 0
  so_between : IsSo 0 (compares 3 ∷ []) (Return None) true 1
  so_behind : (has : Bool) → IsSo 0 [] (Return None) has 1

so_of_way : {h : History} {n : ℕ} {rest : List Instruction} {f : End} (way : Way comparing_twice 0 (compares 2 ∷ compares 3 ∷ []) (Return None) h n rest f) → IsSo n rest f (has_along comparing_twice compared placed way) (spent_along comparing_twice compared placed way)
so_of_way stays = so_at_entry
so_of_way (passes way v) = further (so_of_way way)
  where
    further : {n : ℕ} {i : Instruction} {left : List Instruction} {f : End} {has : Bool} {spent : ℕ} → IsSo n (i ∷ left) f has spent
        → IsSo n left f (not (spoils compared i) && (inserts (within n (i ∷ left) f) || has)) (spent + spent_at comparing_twice compared placed (within n (i ∷ left) f))
    further so_at_entry = so_between
    further so_between = so_behind true
so_of_way (goes way among b at) = absurd (none (so_of_way way) among)
  where
    none : {n l : ℕ} {f : End} {has : Bool} {spent : ℕ} → IsSo n [] f has spent → Among l (targets_of f) → ⊥
    none (so_behind has) among = among_none among

so : {h : History} {n : ℕ} {rest : List Instruction} {f : End} (way : Path comparing_twice h n rest f) → IsSo n rest f (has_on comparing_twice compared placed way) (spent_on comparing_twice compared placed way)
so {h} {n} {rest} {f} (path b at way) =
    subst (λ (c : Block). (w : Way comparing_twice 0 c.instructions c.end h n rest f) → IsSo n rest f (has_along comparing_twice compared placed w) (spent_along comparing_twice compared placed w)) (some_same at) (λ w. so_of_way w) way

ready_there : {n : ℕ} {rest : List Instruction} {f : End} {has : Bool} {spent : ℕ} → IsSo n rest f has spent → does_at compared (within n rest f) ≡ true → (inserts (within n rest f) || has) ≡ true
ready_there so_at_entry does = refl
ready_there so_between does = refl
ready_there (so_behind has) does = absurd (true≢false (sym does))

is_safe : IsSafe comparing_twice compared placed
is_safe = record { safe = λ p it unsafe unhad. safe_there p (on (unhad_come comparing_twice.blocks compared unhad)) it unsafe; ready = λ n rest f does reads history way. ready_there (so way) does }

-- ---- It does less

once : {f : End} {n : ℕ} {has : Bool} {spent : ℕ} → IsSo n [] f has spent → spent ≡ 1
once (so_behind has) = refl

pub not_least : IsOptimal comparing_twice comparing_twice → ⊥
not_least optimal =
    let d : DoesLeast comparing_twice all [] 0 None = optimal all 0 None (path (record { place = None; instructions = compares 2 ∷ compares 3 ∷ []; end = Return None }) refl (passes (passes stays Odd) Odd)) in
    let other = once (so d.way) in
    let le : 2 ≤ spent_on comparing_twice compared placed d.way = d.least compared placed is_safe in
    omega (arith, other, le)
