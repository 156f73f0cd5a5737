-- What is computationally optimal does no computation more often than before: it is a safe placement to leave each where it stands.
use Rattle.std.proofs.Common.{◌≡◌, ℕ, Bool, true, false, true≢false, ◌&&◌, List, refl, sym, arith}
use Rattle.std.specs.Prelude.{if◌then◌else◌}
use Rattle.graph_core.specs.Graphs.{Instruction, End, Graph}
use Rattle.graph_core.specs.Computations.{Computation}
use Rattle.graph_core.specs.Paths.{History, Way, stays, passes, goes, Path, path}
use Rattle.motion_pass_points.specs.Computing.{does}
use Rattle.motion_pass_laws.specs.Often.{times, DoesNoMore}
use Rattle.motion_pass_laws.specs.Optimal.{Placement, IsSafe, spent_along, spent_on, IsOptimal}

-- nothing is inserted, and nothing read
abbrev unplaced : Placement
unplaced = record { inserts = λ p. false; reads = λ p. false }

abbrev number : Bool → ℕ
number b = if b then 1 else 0

as_number : (b : Bool) → number (b && true) ≡ number b
as_number true = refl
as_number false = refl

module _ (g : Graph) (e : Computation) where
  unplaced_safe : IsSafe g e unplaced
  unplaced_safe = record { safe = λ p inserts unsafe unhad. true≢false (sym inserts); ready = λ n rest f does reads history way. absurd (true≢false (sym reads)) }

  -- It does the computation as often as the graph.
  spent_unplaced : {from : ℕ} {rest : List Instruction} {end : End} {history : History} {n : ℕ} {left : List Instruction} {f : End} (way : Way g from rest end history n left f) → spent_along g e unplaced way ≡ times e history
  spent_unplaced stays = refl
  spent_unplaced (passes {i = i} way v) =
      let before = spent_unplaced way in
      let same = as_number (does e i) in
      omega (arith, before, same)
  spent_unplaced (goes way among b at) = (let before = spent_unplaced way in omega (arith, before))

  spent_so : {history : History} {n : ℕ} {rest : List Instruction} {f : End} (way : Path g history n rest f) → spent_on g e unplaced way ≡ times e history
  spent_so (path b at way) = spent_unplaced way

-- WHAT IS OPTIMAL DOES NOTHING MORE OFTEN.
pub optimal_no_more : (g h : Graph) → IsOptimal g h → DoesNoMore g h
optimal_no_more g h optimal history n a way = (let d = optimal history n a way in record {
  before = d.before;
  way = d.way;
  one = d.one;
  often = λ e. (let le = d.least e unplaced (unplaced_safe g e) in let same = spent_so g e d.way in omega (arith, le, same));
})
