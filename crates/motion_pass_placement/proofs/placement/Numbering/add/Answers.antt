use Rattle.std.proofs.Common.{◌≡◌, ◌+◌, suc, List, Option, refl, sym, subst, arith}
use Rattle.graph_core.specs.declared.name.Name as declared-name
use Rattle.motion_pass_placement.specs.Placed.{AreNumbered, and_none, and_one}
use Rattle.motion_pass_placement.proofs.placement.Numbering.add.Goals as goal

pub returns-then-not-flag-clause-numbered : goal.returns-then-not-flag-clause-numbered
returns-then-not-flag-clause-numbered c = λ first are. subst (λ (names : List (Option declared-name.Name)). AreNumbered first names c.args.self.now.end_name) (sym c.in_ok-push.ensures.items) (and_none are)

pub returns-clause-numbered : goal.returns-clause-numbered
returns-clause-numbered c = λ first are.
    (let next : suc c.args.self.now.end_name ≡ c.args.self.now.end_name + 1 = omega arith in
    subst (λ m. AreNumbered first c.push-2.new.self.items m) next (subst (λ (names : List (Option declared-name.Name)). AreNumbered first names (suc c.args.self.now.end_name)) (sym c.in_ok-push-2.ensures.items) (and_one are refl)))
