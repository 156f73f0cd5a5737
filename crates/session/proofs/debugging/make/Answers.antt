use Rattle.std.proofs.Common.{map, subst, sym}
use Rattle.debug_records.specs.Change.{letters}
use Rattle.session.specs.Served.{CanRun}
use Rattle.session.specs.Stages.{MakeEnds}
use Rattle.session.proofs.debugging.make.Goals as goal

pub make-requires : goal.make-requires
make-requires g c = subst (λ names. CanRun (λ p. (goal.Pass-dyn g (p.vtable, p.value)).named p.value) c.args.passes.now (map letters names)) (sym c.deref.ensures.value) c.requires

pub returns : goal.returns
returns g c = subst (λ names. MakeEnds (λ p. (goal.Pass-dyn g (p.vtable, p.value)).named p.value) (λ p. ((goal.Pass-dyn g (p.vtable, p.value)).steps p.value).leads) c.args.passes.now c.make.result c.args.source.now (map letters names) c.args.job.now.mode) c.deref.ensures.value c.make.ensures
