use Rattle.std.proofs.Common.{ap, map, refl, subst, sym, true≢false, ◌∙◌}
use Rattle.std.proofs.lemmas.List.{map-append}
use Rattle.graph_core.specs.Graphs.{instruction_view, scalar_view}
use Rattle.copy_pass_rule.specs.Flow.{missing_in}
use Rattle.graph_paths.specs.PathMarksTable.{bits_of}
use Rattle.copy_pass_rule.proofs.Standing.{stands_first, stands_on, unknown_on}
use Rattle.copy_pass_rule.proofs.Walked.{IsAhead, ahead_all, ahead_first, ahead_step}
use Rattle.copy_pass_rule.proofs.blocks.read_instructions.Goals as goal

pub loop-ahead-init : goal.loop-ahead-init
loop-ahead-init c =
    let scalars = map scalar_view c.args.scalars.now in
    let copies = c.args.copies.now.all.now in
    let all = map instruction_view c.args.instructions.now in
    let start = missing_in (bits_of c.args.walk.now) 0 in
    record {
      same_count = refl;
      same_width = refl;
      stands = stands_first copies c.args.number all start;
      read = subst (λ out. IsAhead scalars copies c.args.number all all start start (map instruction_view out)) (sym c.new-read.ensures.items)
          (ahead_first scalars copies c.args.number all start);
    }

pub loop-ahead-preserved : goal.loop-ahead-preserved
loop-ahead-preserved c = record {
  same_count = c.step.ensures.same_count ∙ c.loop-ahead.invariant.same_count;
  same_width = c.step.ensures.same_width ∙ c.loop-ahead.invariant.same_width;
  stands = stands_on c.args.copies.now.all.now c.args.number (map instruction_view c.args.instructions.now) (missing_in (bits_of c.args.walk.now) 0) instruction_view _ c.instruction-item.result _ _ _ _ _
      c.in-len1-up.len_at_least c.instruction-item.is refl c.target-target.ensures (λ k d at. c.step.ensures.walk k d at) c.loop-ahead.invariant.stands;
  read = ahead_step instruction_view (map scalar_view c.args.scalars.now) c.args.copies.now.all.now c.args.number (map instruction_view c.args.instructions.now) (missing_in (bits_of c.args.walk.now) 0)
      (missing_in (bits_of c.loop-ahead.walk) 0) (missing_in (bits_of c.step.new.marks) 0) _ c.instruction-item.result _ _ _ (instruction_view c.in_ok-made.made) _ _ c.in-len1-up.len_at_least c.instruction-item.is
      (ap (λ xs. map instruction_view xs) c.in_ok-push.ensures.items ∙ map-append instruction_view _ _) c.in_ok-made.ensures refl (c.is_known.ensures.0 c.if-not-is_known.false)
      c.target-target.ensures (λ k d at. c.step.ensures.walk k d at) c.loop-ahead.invariant.read;
}

pub returns-clause-read : goal.returns-clause-read
returns-clause-read c =
    ahead_all instruction_view (map scalar_view c.args.scalars.now) c.args.copies.now.all.now c.args.number (map instruction_view c.args.instructions.now) (missing_in (bits_of c.args.walk.now) 0) (missing_in (bits_of c.loop-ahead.walk) 0) _ _
    c.in_default.len_below c.loop-ahead.invariant.read

pub returns-then-not-is_known-clause-none : goal.returns-then-not-is_known-clause-none
returns-then-not-is_known-clause-none c = λ e known.
    unknown_on c.args.copies.now.all.now c.args.number (map instruction_view c.args.instructions.now) (missing_in (bits_of c.args.walk.now) 0)
    instruction_view (map scalar_view c.args.scalars.now) c.loop-ahead.ahead.now c.instruction-item.result _
    (instruction_view c.in_ok-made.made) _ (missing_in (bits_of c.loop-ahead.walk) 0) c.in-len1-up.len_at_least c.instruction-item.is refl
    c.in_ok-made.ensures (λ is. true≢false (sym (c.is_known.ensures.1 is) ∙ c.if-not-is_known.true)) c.loop-ahead.invariant.stands known
