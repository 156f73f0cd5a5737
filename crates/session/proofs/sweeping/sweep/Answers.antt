use Rattle.std.proofs.Common.{Err, ap, subst, ◌∙◌}
use Rattle.c_source.proofs.Sources.{unbroken}
use Rattle.work_gen.specs.Generated.{text as generated}
use Rattle.work_gen_laws.proofs.Whole.{generated_has_program}
use Rattle.session.specs.Stages.{SweepEnds}
use Rattle.session.proofs.sweeping.sweep.Goals as goal

pub swept-requires : goal.swept-requires
swept-requires g c = c.requires.run

pub unreachable-requires : goal.unreachable-requires
unreachable-requires g c =
    let refused = c.in-Err-SourceRefused.is ∙ ap Err c.in-Err-SourceRefused.field-0-is in
    unbroken (generated c.args.seed c.args.size) _ _ (generated_has_program c.args.seed c.args.size c.requires.size)
    (subst (λ r. SweepEnds (λ p. (goal.Pass-dyn g (p.vtable, p.value)).named p.value) (λ p. ((goal.Pass-dyn g (p.vtable, p.value)).steps p.value).leads) c.args.passes.now r (record { seed = c.args.seed; size = c.args.size })) refused c.swept.ensures)
