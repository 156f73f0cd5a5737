-- In `x = y == z; w = y == z` the comparison is computed again, and more often than in `x = y == z`.
use Rattle.std.proofs.Common.{◌≡◌, ◌≤◌, ℕ, true, None, List, [], ◌∷◌, length, refl, sym, subst, arith}
use Rattle.graph_core.specs.declared.value.Value.{Value}
use Rattle.graph_core.specs.declared.value.Value.TheVariants.{Odd}
use Rattle.graph_core.specs.Graphs.{Name, Instruction, End, Return, Block}
use Rattle.graph_core.specs.Computations.{Computation, Comparing}
use Rattle.graph_core.specs.Uses.{targets_of}
use Rattle.graph_core.specs.Paths.{Passed, History, Among, Way, stays, passes, goes, Path, path}
use Rattle.pass_law.proofs.Inversions.{some_same, among_none}
use Rattle.motion_pass_laws.specs.Often.{is_had, times, DoesAsOften, DoesNoMore, HasNothingAgain}
use Rattle.cdbg_passes.specs.Worked.{compares, comparing_once, comparing_twice}

abbrev pub compared : Computation
compared = Comparing (Name 0) (Name 1)

abbrev passed : ℕ → ℕ → Value → Passed
passed left x v = record { block = 0; left = left; instruction = compares x; wrote = v }

-- ---- Again

-- The points that paths come to, each with what was passed before it.
data IsPoint : History → ℕ → List Instruction → End → Type 0 where
  entry : IsPoint [] 0 (compares 2 ∷ compares 3 ∷ []) (Return None)
  once : (v : Value) → IsPoint (passed 1 2 v ∷ []) 0 (compares 3 ∷ []) (Return None)
  twice : (v w : Value) → IsPoint (passed 0 3 w ∷ passed 1 2 v ∷ []) 0 [] (Return None)

point_of_way : {h : History} {n : ℕ} {rest : List Instruction} {e : End} → Way comparing_twice 0 (compares 2 ∷ compares 3 ∷ []) (Return None) h n rest e → IsPoint h n rest e
point_of_way stays = entry
point_of_way (passes way v) = on (point_of_way way)
  where
    on : {h : History} {n : ℕ} {i : Instruction} {left : List Instruction} {e : End} → IsPoint h n (i ∷ left) e → IsPoint (record { block = n; left = length left; instruction = i; wrote = v } ∷ h) n left e
    on entry = once v
    on (once w) = twice w v
point_of_way (goes way among b at) = absurd (none (point_of_way way) among)
  where
    none : {h : History} {n l : ℕ} {e : End} → IsPoint h n [] e → Among l (targets_of e) → ⊥
    none (twice v w) among = among_none among

point : {h : History} {n : ℕ} {rest : List Instruction} {e : End} → Path comparing_twice h n rest e → IsPoint h n rest e
point {h} {n} {rest} {e} (path b is way) = point_of_way (subst (λ (c : Block). Way comparing_twice 0 c.instructions c.end h n rest e) (sym (some_same is)) way)

had : {h : History} → IsPoint h 0 (compares 3 ∷ []) (Return None) → is_had compared h ≡ true
had (once v) = refl

path_once : Path comparing_twice (passed 1 2 Odd ∷ []) 0 (compares 3 ∷ []) (Return None)
path_once = path (record { place = None; instructions = compares 2 ∷ compares 3 ∷ []; end = Return None }) refl (passes stays Odd)

pub computed_again : HasNothingAgain comparing_twice → ⊥
computed_again never = never (passed 1 2 Odd ∷ []) 0 (compares 3) [] (Return None) compared path_once refl (λ history way. had (point way))

-- ---- More often

-- the same, where it is computed once
data IsShort : History → ℕ → List Instruction → End → Type 0 where
  first : IsShort [] 0 (compares 2 ∷ []) (Return None)
  last : (v : Value) → IsShort (passed 0 2 v ∷ []) 0 [] (Return None)

short_of_way : {h : History} {n : ℕ} {rest : List Instruction} {e : End} → Way comparing_once 0 (compares 2 ∷ []) (Return None) h n rest e → IsShort h n rest e
short_of_way stays = first
short_of_way (passes way v) = on (short_of_way way)
  where
    on : {h : History} {n : ℕ} {i : Instruction} {left : List Instruction} {e : End} → IsShort h n (i ∷ left) e → IsShort (record { block = n; left = length left; instruction = i; wrote = v } ∷ h) n left e
    on first = last v
short_of_way (goes way among b at) = absurd (none (short_of_way way) among)
  where
    none : {h : History} {n l : ℕ} {e : End} → IsShort h n [] e → Among l (targets_of e) → ⊥
    none (last v) among = among_none among

short : {h : History} {n : ℕ} {rest : List Instruction} {e : End} → Path comparing_once h n rest e → IsShort h n rest e
short {h} {n} {rest} {e} (path b is way) = short_of_way (subst (λ (c : Block). Way comparing_once 0 c.instructions c.end h n rest e) (sym (some_same is)) way)

times_once : {h : History} → IsShort h 0 [] (Return None) → times compared h ≡ 1
times_once (last v) = refl

abbrev pub all : History
all = passed 0 3 Odd ∷ passed 1 2 Odd ∷ []

pub computed_more : DoesNoMore comparing_once comparing_twice → ⊥
computed_more no_more =
    let d : DoesAsOften comparing_once all 0 None = no_more all 0 None (path (record { place = None; instructions = compares 2 ∷ compares 3 ∷ []; end = Return None }) refl (passes (passes stays Odd) Odd)) in
    let before = times_once (short d.way) in
    let le : 2 ≤ times compared d.before = d.often compared in
    omega (arith, before, le)
