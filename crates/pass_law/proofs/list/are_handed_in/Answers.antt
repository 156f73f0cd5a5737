use Rattle.std.proofs.Common.{refl, subst, map}
use Rattle.std.proofs.lemmas.List.{take_all}
use Rattle.debug_records.specs.Change.{letters}
use Rattle.pass_law.specs.HandedIn.{AreHandedIn}
use Rattle.pass_law.proofs.Found.{all_more, not_both, not_handed}
use Rattle.pass_law.proofs.list.are_handed_in.Goals as goal

pub returns-then-not-is_handed_in : goal.returns-then-not-is_handed_in
returns-then-not-is_handed_in g c = (
  λ met. absurd (not_both met refl),
  λ all. absurd (not_handed (λ p. (goal.Pass-dyn g (p.vtable, p.value)).named p.value) c.args.passes.now c.args.names.now c.loop-name.name-index _ c.loop-name-test.true
      (λ one. not_both (c.is_handed_in.ensures.1 one) c.if-not-is_handed_in.true) all),
)

pub loop-name-preserved : goal.loop-name-preserved
loop-name-preserved g c = all_more (λ p. (goal.Pass-dyn g (p.vtable, p.value)).named p.value) c.args.passes.now c.args.names.now c.loop-name.name-index _ c.loop-name-test.true
    (c.is_handed_in.ensures.0 c.if-not-is_handed_in.false) c.loop-name.invariant

pub returns : goal.returns
returns g c = (λ _. subst (λ names. AreHandedIn (λ p. (goal.Pass-dyn g (p.vtable, p.value)).named p.value) c.args.passes.now (map letters names)) (take_all c.loop-name.name-index c.args.names.now c.loop-name-test.false) c.loop-name.invariant, λ _. refl)
