-- The graph whose sum was moved ahead bears that out.
use Rattle.std.proofs.Common.{◌≡◌, ℕ, zero, suc, ◌⊎◌, inl, inr, true, List, [], ◌∷◌, ◌++◌, length, Some, refl, sym, subst, slice_get, lit≤}
use Rattle.std.specs.Prelude.{⊤}
use Rattle.word_base.specs.declared.operation.Operation.TheVariants.{Add}
use Rattle.graph_core.specs.declared.value.Value.{Value}
use Rattle.graph_core.specs.Graphs.{Name, Of, Is, Instruction, Marker, Note, Move, Operate, End, Jump, Block}
use Rattle.graph_core.specs.Paths.{History, Way, stays, passes, goes, writes}
use Rattle.graph_core.specs.WellMarked as marked
use Rattle.graph_core.specs.WellMarked.{here}
use Rattle.pass_law.specs.Earned as earned
use Rattle.graph_core.specs.Points.{Behind}
use Rattle.graph_core.specs.Computations.{Computation, Operating, computed_by}
use Rattle.pass_law.specs.Earned.{WasComputed, latest, earlier, StopsIt, none, puts, in_block, WasDownSafe, IsMoved}
use Rattle.pass_law.specs.WorkedChanges.{adding, adding_ahead}
use Rattle.pass_law.proofs.Inversions.{some_same, none_is_some, false_is_true}

abbrev sum : Computation
sum = Operating Add (Name 1) (Name 2)

abbrev behind_sum : List Instruction
behind_sum = Move 0 (Name 3) ∷ Note 0 (Is (Of (Name 0))) ∷ []

-- what is left in the graph before where the sum is computed in the one after
abbrev sum_before : List Instruction
sum_before = Operate 0 Add (Name 1) (Name 2) ∷ Note 0 (Is (Of (Name 0))) ∷ []

-- The one instruction that writes the temporary, and where it stands.
data IsSum : Instruction → ℕ → List Instruction → End → Type 0 where
  only : IsSum (Operate 3 Add (Name 1) (Name 2)) 1 behind_sum (Jump 2)

-- so it is of each of these instructions with those behind it
abbrev AllBehind : (Instruction → List Instruction → Type 0) → List Instruction → Type 0
AllBehind P [] = ⊤
AllBehind P (i ∷ rest) = P i rest × AllBehind P rest

at_one : (P : Instruction → List Instruction → Type 0) (before : List Instruction) (i : Instruction) (rest : List Instruction) → AllBehind P (before ++ i ∷ rest) → P i rest
at_one P [] i rest all = all.0
at_one P (j ∷ before) i rest all = at_one P before i rest all.1

abbrev WritesOnlyThere : ℕ → End → Instruction → List Instruction → Type 0
WritesOnlyThere n e i rest = writes 3 i ≡ true → IsSum i n rest e

sums : (n : ℕ) (b : Block) → slice_get adding_ahead.blocks n ≡ Some b → AllBehind (WritesOnlyThere n b.end) b.instructions
sums zero b is = subst (λ (c : Block). AllBehind (WritesOnlyThere 0 c.end) c.instructions) (some_same is) (λ w. absurd (false_is_true w), tt)
sums (suc zero) b is =
    subst (λ (c : Block). AllBehind (WritesOnlyThere 1 c.end) c.instructions) (some_same is)
    (λ w. absurd (false_is_true w), (λ w. only, (λ w. absurd (false_is_true w), (λ w. absurd (false_is_true w), tt))))
sums (suc (suc zero)) b is = subst (λ (c : Block). AllBehind (WritesOnlyThere 2 c.end) c.instructions) (some_same is) (λ w. absurd (false_is_true w), tt)
sums (suc (suc (suc n))) b is = absurd (none_is_some is)

is_sum : (i : Instruction) (n : ℕ) (rest : List Instruction) (e : End) → Behind adding_ahead i n rest e → writes 3 i ≡ true → IsSum i n rest e
is_sum i n rest e at w =
    let all = subst (AllBehind (WritesOnlyThere n at.block.end)) at.instructions (sums n at.block at.is) in
    subst (IsSum i n rest) (sym at.ends) (at_one (WritesOnlyThere n at.block.end) at.before i rest all w)

computes : {i : Instruction} {n : ℕ} {rest : List Instruction} {e : End} → IsSum i n rest e → computed_by i ≡ Some sum
computes only = refl

-- nothing was passed
data AtStart : History → List Instruction → Type 0 where
  start : AtStart [] sum_before

summed_past : {h : History} {n : ℕ} {i : Instruction} {left : List Instruction} → AtStart h (i ∷ left) ⊎ WasComputed sum h → (v : Value) → AtStart (record { block = n; left = length left; instruction = i; wrote = v } ∷ h) left ⊎ WasComputed sum (record { block = n; left = length left; instruction = i; wrote = v } ∷ h)
summed_past (inl start) v = inr (latest refl)
summed_past (inr done) v = inr (earlier done)

summed_along : {h : History} → AtStart h [] ⊎ WasComputed sum h → (more : List Instruction) → AtStart h more ⊎ WasComputed sum h
summed_along (inl s) more = elim s [ ]
summed_along (inr done) more = inr done

summed : {h : History} {m : ℕ} {left : List Instruction} {f : End} → Way adding 1 sum_before (Jump 2) h m left f → AtStart h left ⊎ WasComputed sum h
summed stays = inl start
summed (passes way v) = summed_past (summed way) v
summed (goes way a b is) = summed_along (summed way) b.instructions

stops_summed : {h : History} {left : List Instruction} → AtStart h left ⊎ WasComputed sum h → (f : End) → StopsIt sum left f → WasComputed sum h
stops_summed (inl start) f stops = absurd (stops.0 refl)
stops_summed (inr done) f stops = done

-- The sum stands where the graph before is about to compute it.
down_safe : {i : Instruction} {n : ℕ} {rest : List Instruction} {e : End} → IsSum i n rest e → WasDownSafe adding adding_ahead sum n (i ∷ rest)
down_safe only = record {
  block = 1;
  left = sum_before;
  end = Jump 2;
  lies = in_block {before = Marker 2 ∷ []} {after = Marker 2 ∷ []} refl refl refl refl (earned.stays refl refl none) (puts refl (lit≤ tt) (earned.stays refl refl (earned.stays refl refl none)));
  safe = λ h m left f way stops. stops_summed (summed way) f stops;
}

pub is_moved : IsMoved adding adding_ahead 2 0
is_moved = record {
  e = sum;
  t = 3;
  before = Operate 0 Add (Name 1) (Name 2);
  stood = record { number = 1; block = _; is = refl; stands = marked.behind here };
  wrote = refl;
  computed = refl;
  stands = record { number = 1; block = _; is = refl; stands = marked.behind (marked.behind here) };
  computes = λ i n rest e at w. computes (is_sum i n rest e at w);
  safe = λ i n rest e at w. down_safe (is_sum i n rest e at w);
}
