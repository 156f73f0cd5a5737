use Rattle.std.proofs.Common.{◌↔◌, IsTrue, List, ℕ, ap, ◌∙◌, map, subst, sym}
use Rattle.debug_records.specs.Change.{letters}
use Rattle.debug_records.specs.declared.change.PassName.{PassName}
use Rattle.command_line.specs.Job.{job_given}
use Rattle.command_line.specs.declared.job.Job.{Job}
use Rattle.pass_law.specs.HandedIn.{AreHandedIn}
use Rattle.session.specs.Served.{needed}
use Rattle.session.proofs.asking.has_passes.Goals as goal

pub returns-in-Debug : goal.returns-in-Debug
returns-in-Debug g c =
    subst (λ (j : Job). IsTrue c.are_handed_in.result ↔ AreHandedIn (λ p. (goal.Pass-dyn g (p.vtable, p.value)).named p.value) c.args.passes.now (needed (job_given j))) (sym c.in-Debug.is)
    (subst (λ (n : List PassName). IsTrue c.are_handed_in.result ↔ AreHandedIn (λ p. (goal.Pass-dyn g (p.vtable, p.value)).named p.value) c.args.passes.now (map letters n)) c.deref.ensures.value c.are_handed_in.ensures)

pub returns-in-Compile : goal.returns-in-Compile
returns-in-Compile g c =
    subst (λ (j : Job). IsTrue c.are_handed_in-in-Compile.result ↔ AreHandedIn (λ p. (goal.Pass-dyn g (p.vtable, p.value)).named p.value) c.args.passes.now (needed (job_given j))) (sym c.in-Compile.is)
    (subst (λ (n : List PassName). IsTrue c.are_handed_in-in-Compile.result ↔ AreHandedIn (λ p. (goal.Pass-dyn g (p.vtable, p.value)).named p.value) c.args.passes.now (map letters n)) c.deref-in-Compile.ensures.value c.are_handed_in-in-Compile.ensures)

pub returns-in-Passes : goal.returns-in-Passes
returns-in-Passes g c =
    subst (λ (j : Job). IsTrue c.are_handed_in-in-Passes.result ↔ AreHandedIn (λ p. (goal.Pass-dyn g (p.vtable, p.value)).named p.value) c.args.passes.now (needed (job_given j))) (sym c.in-Passes.is)
    (subst (λ (n : List PassName). IsTrue c.are_handed_in-in-Passes.result ↔ AreHandedIn (λ p. (goal.Pass-dyn g (p.vtable, p.value)).named p.value) c.args.passes.now (map letters n)) c.deref-in-Passes.ensures.value c.are_handed_in-in-Passes.ensures)

pub returns-in_ok-names-in-Sweep : goal.returns-in_ok-names-in-Sweep
returns-in_ok-names-in-Sweep g c =
    subst (λ (j : Job). IsTrue c.are_handed_in-in-Sweep.result ↔ AreHandedIn (λ p. (goal.Pass-dyn g (p.vtable, p.value)).named p.value) c.args.passes.now (needed (job_given j))) (sym c.in-Sweep.is)
    (subst (λ (n : List (List ℕ)). IsTrue c.are_handed_in-in-Sweep.result ↔ AreHandedIn (λ p. (goal.Pass-dyn g (p.vtable, p.value)).named p.value) c.args.passes.now n) (ap (map letters) c.deref-in-Sweep.ensures.value ∙ c.in_ok-names-in-Sweep.ensures) c.are_handed_in-in-Sweep.ensures)
