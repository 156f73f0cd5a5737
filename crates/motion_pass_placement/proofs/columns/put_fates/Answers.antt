use Rattle.std.proofs.Common.{◌≡◌, ◌↔◌, ℕ, List, [], true, false, sym, ap, ◌∙◌, subst}
use Rattle.std.specs.Prelude.{slice_index_or}
use Rattle.graph_core.specs.Graphs.{block_view}
use Rattle.motion_pass_points.specs.Ways.{IsPast, IsUsed, within}
use Rattle.motion_pass_points.specs.Words.{has}
use Rattle.motion_pass_problems.specs.Inner.{point_at}
use Rattle.motion_pass_placement.proofs.columns.put_fates.Goals as goal

pub returns-clause-told : goal.returns-clause-told
returns-clause-told c = λ blocks reached k e is treated facts.
    (let b = block_view c.args.block.now in
    let n = c.args.number in
    let start_is : c.word_of-past_start.result ≡ slice_index_or c.args.solved.now.facts.past_starts.items n 0 = c.word_of-past_start.ensures ∙ ap (λ (ws : List ℕ). slice_index_or ws n 0) c.deref.ensures.value in
    let end_is : c.word_of-used_end.result ≡ slice_index_or c.args.solved.now.facts.used_ends.items n 0 = c.word_of-used_end.ensures ∙ ap (λ (ws : List ℕ). slice_index_or ws n 0) c.deref-2.ensures.value in
    let start : (has c.word_of-past_start.result k ≡ true) ↔ IsPast blocks e (point_at n b 0) = subst (λ w. (has w k ≡ true) ↔ IsPast blocks e (point_at n b 0)) (sym start_is) (facts.past_start n b is.is is.comes) in
    let end : (has c.word_of-used_end.result k ≡ true) ↔ IsUsed blocks e (within n [] b.end) = subst (λ w. (has w k ≡ true) ↔ IsUsed blocks e (within n [] b.end)) (sym end_is) (facts.used_end n b is.is is.comes) in
    let late = c.put_late.ensures.late blocks reached n k e is treated start in
    record {
      late = λ index lt number. subst (λ l. (l ≡ false) ↔ IsPast blocks e (point_at n b index)) (sym (c.put_used.ensures.late index)) (late index lt number);
      used = c.put_used.ensures.used blocks reached n k e is treated late end;
    })
