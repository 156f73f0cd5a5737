use Rattle.std.proofs.Common.{sym, subst, ap}
use Rattle.command_line.specs.Job.{job_given}
use Rattle.session.specs.Served.{CanRun, needed}
use Rattle.session.proofs.AskedLemmas.{attach_ends, same_ends}
use Rattle.session.proofs.top.serve.Goals as goal

pub returns-in-Debug : goal.returns-in-Debug
returns-in-Debug g c = same_ends _ _ _ _ _ (ap job_given (sym c.in-Debug.is)) c.debug.ensures

pub returns-in-Compile : goal.returns-in-Compile
returns-in-Compile g c = same_ends _ _ _ _ _ (ap job_given (sym c.in-Compile.is)) (c.save_compiled.ensures _)

pub returns-in-Attach : goal.returns-in-Attach
returns-in-Attach g c = same_ends _ _ _ _ _ (ap job_given (sym c.in-Attach.is)) (attach_ends _ _ _ _ c.attach.ensures)

pub returns-in-Passes : goal.returns-in-Passes
returns-in-Passes g c = same_ends _ _ _ _ _ (ap job_given (sym c.in-Passes.is)) c.list_changes.ensures

pub returns-in-Sweep : goal.returns-in-Sweep
returns-in-Sweep g c = same_ends _ _ _ _ _ (ap job_given (sym c.in-Sweep.is)) (c.put_summary.ensures _)

pub debug-requires : goal.debug-requires
debug-requires g c = subst (λ j. CanRun (λ p. (goal.Pass-dyn g (p.vtable, p.value)).named p.value) c.args.passes.now (needed (job_given j))) c.in-Debug.is c.requires

pub save_compiled-requires : goal.save_compiled-requires
save_compiled-requires g c = subst (λ j. CanRun (λ p. (goal.Pass-dyn g (p.vtable, p.value)).named p.value) c.args.passes.now (needed (job_given j))) c.in-Compile.is c.requires

pub list_changes-requires : goal.list_changes-requires
list_changes-requires g c = subst (λ j. CanRun (λ p. (goal.Pass-dyn g (p.vtable, p.value)).named p.value) c.args.passes.now (needed (job_given j))) c.in-Passes.is c.requires

pub put_summary-requires : goal.put_summary-requires
put_summary-requires g c = subst (λ j. CanRun (λ p. (goal.Pass-dyn g (p.vtable, p.value)).named p.value) c.args.passes.now (needed (job_given j))) c.in-Sweep.is c.requires
