-- What is so at the instructions of a block, one after the other.
use Rattle.std.proofs.Common.{◌≡◌, ◌↔◌, inl, inr, ℕ, ◌+◌, ◌/◌, ◌<◌, ◌≤◌, Bool, true, false, true≢false, not, ◌&&◌, ◌||◌, List, length, Option, Some, None, refl, sym, ap, ◌∙◌, subst, arith}
use Rattle.std.specs.Prelude.{if◌then◌else◌, slice_get}
use Rattle.std.proofs.lemmas.Bool.{cases_eq, ne_eqb}
use Rattle.graph_core.specs.Graphs.{Instruction, Block}
use Rattle.graph_core.specs.Uses.{target_of}
use Rattle.graph_core.specs.Computations.{Computation}
use Rattle.motion_pass_points.specs.Computing.{does}
use Rattle.motion_pass_points.specs.Ways.{IsUnsafe, IsPast, IsWanted, IsUsed}
use Rattle.motion_pass_points.specs.Words.{has}
use Rattle.motion_pass_points.specs.declared.columns.Column.{Column}
use Rattle.motion_pass_points.specs.Columns.{is_number, is_spoiled, number_at}
use Rattle.motion_pass_problems.specs.Inner.{IsBlock, IsTreated, in_column, point_at}
use Rattle.motion_pass_problems.proofs.Inner.{column_same, does_there, done_number, late_step, late_told, number_same, spoils_there, used_step, used_told}
use Rattle.motion_pass_placement.specs.declared.fates.Fate.{Fate}
use Rattle.motion_pass_placement.specs.Fates.{fate_of}
use Rattle.motion_pass_placement.specs.Columns.{AreFated}

-- As far as a block was gone through, it is told of its instructions whether the computation can be delayed to them.
pub record AreLateBefore (blocks : List Block) (n : ℕ) (b : Block) (numbers : List (Option ℕ)) (k : ℕ) (e : Computation) (index past : ℕ) (fates : List Fate) : Type 0 where
  pub flag : (IsUnsafe blocks e (point_at n b index) → ⊥) → (has past k ≡ true) ↔ IsPast blocks e (point_at n b index)
  pub told : (j : ℕ) → j < index → number_at numbers j ≡ Some k → ((fate_of fates j).is_late ≡ false) ↔ IsPast blocks e (point_at n b j)

-- And against its order, whether its value is used behind them.
pub record AreUsedBehind (blocks : List Block) (n : ℕ) (b : Block) (numbers : List (Option ℕ)) (k : ℕ) (e : Computation) (index used : ℕ) (fates : List Fate) : Type 0 where
  pub flag : (has used k ≡ true) ↔ IsWanted blocks e (point_at n b index)
  pub told : (j : ℕ) → index ≤ j → j < length b.instructions → number_at numbers j ≡ Some k → ((fate_of fates j).is_used ≡ true) ↔ IsUsed blocks e (point_at n b j)

module _ (blocks : List Block) (reached : ℕ → Bool) (n : ℕ) (b : Block) (is : IsBlock blocks reached n b) (column : Column) (numbers : List (Option ℕ)) (k : ℕ) (e : Computation) (treated : IsTreated column b numbers k e) where
  pub late_on : (index : ℕ) (i : Instruction) → slice_get b.instructions index ≡ Some i → (past after : ℕ) (number o : Option ℕ) → number ≡ in_column column.index (number_at numbers index) → o ≡ target_of i
      → has after k ≡ ((has past k || is_number k number) && not (is_spoiled column.spoiled.items k o)) → (old new : List Fate) → ((m : ℕ) → number ≡ Some m → (fate_of new index).is_late ≡ not (has past m)) → ((j : ℕ) → (j ≡ index → ⊥) → fate_of new j ≡ fate_of old j)
      → AreLateBefore blocks n b numbers k e index past old → AreLateBefore blocks n b numbers k e (index + 1) after new
  late_on index i at past after number o number_is target step old new here others was = record {
    flag = late_step blocks reached n b is e index i at (has past k) (has after k) (step ∙ (λ j. (has past k || does_there column b numbers k e treated index i at number number_is j) && not (spoils_there column b numbers k e treated i o target j))) was.flag;
    told = λ j lt number_at_j. elim (cases_eq j index) [
      | inl same ↦ subst (λ m. ((fate_of new m).is_late ≡ false) ↔ IsPast blocks e (point_at n b m)) (sym same)
          (late_told blocks reached n b is e index i at (done_number column b numbers k e treated index i at (sym (ap (number_at numbers) same) ∙ number_at_j)) (has past k) (fate_of new index).is_late
          (here k (number_is ∙ column_same column.index k treated.of (number_at numbers index) (sym (ap (number_at numbers) same) ∙ number_at_j))) was.flag)
      | inr apart ↦ subst (λ (f : Fate). (f.is_late ≡ false) ↔ IsPast blocks e (point_at n b j)) (sym (others j apart)) (was.told j (omega (arith, lt, apart)) number_at_j)
    ];
  }

  pub used_on : (index : ℕ) (i : Instruction) → slice_get b.instructions index ≡ Some i → (used before : ℕ) (number : Option ℕ) → number ≡ in_column column.index (number_at numbers index) → (late : Bool)
      → has before k ≡ (if is_number k number then not late else has used k) → (number_at numbers index ≡ Some k → (late ≡ false) ↔ IsPast blocks e (point_at n b index))
      → (old new : List Fate) → ((m : ℕ) → number ≡ Some m → (fate_of new index).is_used ≡ has used m) → ((j : ℕ) → (j ≡ index → ⊥) → fate_of new j ≡ fate_of old j)
      → AreUsedBehind blocks n b numbers k e (index + 1) used old → AreUsedBehind blocks n b numbers k e index before new
  used_on index i at used before number number_is late step told old new here others was = record {
    flag = used_step blocks reached n b is e index i at (has used k) (has before k) late (step ∙ ap (λ (d : Bool). if d then not late else has used k) (does_there column b numbers k e treated index i at number number_is))
        (λ done. told (number_there done)) was.flag;
    told = λ j le lt number_at_j. elim (cases_eq j index) [
      | inl same ↦ subst (λ m. ((fate_of new m).is_used ≡ true) ↔ IsUsed blocks e (point_at n b m)) (sym same)
          (used_told blocks reached n b is e index i at (has used k) (fate_of new index).is_used (here k (number_is ∙ column_same column.index k treated.of (number_at numbers index) (sym (ap (number_at numbers) same) ∙ number_at_j))) was.flag)
      | inr apart ↦ subst (λ (f : Fate). (f.is_used ≡ true) ↔ IsUsed blocks e (point_at n b j)) (sym (others j apart)) (was.told j (omega (arith, le, apart)) lt number_at_j)
    ];
  }
    where
      number_there : does e i ≡ true → number_at numbers index ≡ Some k
      number_there done = by (number_at numbers index) (does_there column b numbers k e treated index i at (in_column column.index (number_at numbers index)) refl)
        where
          by : (m : Option ℕ) → is_number k (in_column column.index m) ≡ does e i → m ≡ Some k
          by None same = absurd (true≢false (sym done ∙ sym same))
          by (Some m) same = elim (cases_eq m k) [
            | inl is_k ↦ ap Some is_k
            | inr apart ↦ absurd (true≢false (sym done ∙ sym same ∙ number_same column.index k treated.of (Some m) ∙ ne_eqb m k apart))
          ]

-- what is told of the computations of other columns stays
pub fated_same : (blocks : List Block) (n : ℕ) (b : Block) (numbers : List (Option ℕ)) (k : ℕ) (e : Computation) (old new : List Fate) → ((j : ℕ) → number_at numbers j ≡ Some k → fate_of new j ≡ fate_of old j) → AreFated blocks n b numbers k e old → AreFated blocks n b numbers k e new
fated_same blocks n b numbers k e old new same was = record {
  late = λ j lt number. subst (λ (f : Fate). (f.is_late ≡ false) ↔ IsPast blocks e (point_at n b j)) (sym (same j number)) (was.late j lt number);
  used = λ j lt number. subst (λ (f : Fate). (f.is_used ≡ true) ↔ IsUsed blocks e (point_at n b j)) (sym (same j number)) (was.used j lt number);
}

pub column_other : (column k : ℕ) → (k / 64 ≡ column → ⊥) → (o : Option ℕ) → o ≡ Some k → in_column column o ≡ None
column_other column k apart o is = ap (in_column column) is ∙ ap (λ (t : Bool). if t then Some k else None) (ne_eqb (k / 64) column apart)
