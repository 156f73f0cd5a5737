use Rattle.std.proofs.Common.{◌<◌, ◌∙◌, ℕ, Bool, List, true, false, length, ap, arith}
use Rattle.std.specs.Prelude.{slice_index_or}
use Rattle.std.proofs.lemmas.List.{length-set}
use Rattle.image_form.specs.RulesOfFunctions.{IsPlaceNumber}
use Rattle.image_form.specs.Views.{viewed}
use Rattle.image_form.specs.declared.tables.AssignedPair.{AssignedPair}
use Rattle.image_form.proofs.TableLaws.{each_at}
use Rattle.stop_engine_tables.proofs.Flags.{assigned_here, assigned_other, flag_set}
use Rattle.stop_engine_tables.proofs.home_writes.flag_assigning.Goals as goal
use Rattle.stop_engine_tables.proofs.home_writes.flag_assigning.Goals.{then-pair-variable, else-pair-variable}

pub loop-number-preserved : goal.loop-number-preserved
loop-number-preserved c =
    let m = viewed c.args.image.now in
    let n = c.loop-number.number in
    let pair = c.assigned_at-pair.result in
    let at = c.assigned_at-pair.ensures in
    let old : ℕ → Bool = λ p. slice_index_or c.args.flags.now p false in
    let now : ℕ → Bool = λ p. slice_index_or c.loop-number.flags p false in
    let new : ℕ → Bool = λ p. slice_index_or c.if-pair-variable.flags p false in
    let its = each_at (λ (q : AssignedPair). IsPlaceNumber m q.place × (q.variable < length m.variables)) m.assigned n pair c.requires.image.assigned.each at in
    let low : pair.place < length c.loop-number.flags = omega (arith, its.0.1, c.requires.room, c.loop-number.invariant.room) in
    elim c.if-pair-variable.branch [
      | then-pair-variable w ↦ record {
        flags = λ p. assigned_here m.assigned n pair p c.args.variable (old p) (now p) (new p) at w.if-pair-variable.true (c.loop-number.invariant.flags p)
            (ap (λ (fs : List Bool). slice_index_or fs p false) w.flags-is ∙ flag_set c.loop-number.flags pair.place p low);
        room = ap length w.flags-is ∙ (length-set c.loop-number.flags pair.place true ∙ c.loop-number.invariant.room);
      }
      | else-pair-variable w ↦ record {
        flags = λ p. ap (λ (fs : List Bool). slice_index_or fs p false) w.flags-is
            ∙ assigned_other m.assigned n pair p c.args.variable (old p) (now p) at w.if-pair-variable.false (c.loop-number.invariant.flags p);
        room = ap length w.flags-is ∙ c.loop-number.invariant.room;
      }
    ]
