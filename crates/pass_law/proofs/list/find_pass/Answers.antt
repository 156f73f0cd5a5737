use Rattle.std.proofs.Common.{subst}
use Rattle.std.proofs.lemmas.List.{take_all}
use Rattle.debug_records.specs.Change.{letters}
use Rattle.pass_law.specs.HandedIn.{IsNoPass}
use Rattle.pass_law.proofs.Leading.{found_first}
use Rattle.pass_law.proofs.Found.{found, none_more, not_both}
use Rattle.pass_law.proofs.list.find_pass.Goals as goal

pub returns-then-is_called-clause-found : goal.returns-then-is_called-clause-found
returns-then-is_called-clause-found g c =
    found (λ p. (goal.Pass-dyn g (p.vtable, p.value)).named p.value) c.args.passes.now (letters c.args.name.now) c.loop-i.i c.index-passes-i.result c.loop-i-test.true c.index-passes-i.is
    (c.is_called.ensures.0 c.if-is_called.true)

pub loop-i-preserved : goal.loop-i-preserved
loop-i-preserved g c =
    none_more (λ p. (goal.Pass-dyn g (p.vtable, p.value)).named p.value) c.args.passes.now (letters c.args.name.now) c.loop-i.i c.index-passes-i.result c.loop-i-test.true c.index-passes-i.is
    (λ same. not_both (c.is_called.ensures.1 same) c.if-is_called.false) c.loop-i.invariant

pub returns-clause-found : goal.returns-clause-found
returns-clause-found g c =
    subst (λ all. IsNoPass (λ p. (goal.Pass-dyn g (p.vtable, p.value)).named p.value) all (letters c.args.name.now)) (take_all c.loop-i.i c.args.passes.now c.loop-i-test.false) c.loop-i.invariant

pub returns-then-is_called-clause-first : goal.returns-then-is_called-clause-first
returns-then-is_called-clause-first g c =
    found_first (λ p. (goal.Pass-dyn g (p.vtable, p.value)).named p.value) (letters c.args.name.now) c.args.passes.now c.loop-i.i c.index-passes-i.result c.loop-i-test.true c.index-passes-i.is
    (c.is_called.ensures.0 c.if-is_called.true) c.loop-i.invariant
