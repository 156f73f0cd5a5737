use Rattle.std.proofs.Common.{◌++◌, ◌∷◌, sym, subst}
use Rattle.std.specs.Prelude.{IfSome}
use Rattle.graph_core.specs.Graphs.{graph_view}
use Rattle.motion_pass_placement.specs.Moves.{BecomesIn, moves, passes_a_bound, IsWithin}
use Rattle.motion_pass.specs.declared.bounds.Amount.{Amount}
use Rattle.motion_pass.specs.Amounts.{IsAmount}
use Rattle.motion_pass.proofs.More.{left_cases, moved_cases}
use Rattle.motion_pass.proofs.pass.moved_within.Goals as goal

pub returns-in_default-clause-becomes : goal.returns-in_default-clause-becomes
returns-in_default-clause-becomes c = λ before behind is.
    subst (λ h. BecomesIn c.args.room before (graph_view c.args.graph.now) behind h) (sym c.in_ok-same.ensures) (passes_a_bound c.requires.once c.in_ok-moved.ensures (c.replaced.ensures.beyond before behind is c.in_default.is))

pub returns-in_default-clause-amount : goal.returns-in_default-clause-amount
returns-in_default-clause-amount c = λ before behind is. subst (λ h. IsAmount c.args.amount.now (before ++ h ∷ behind)) (sym c.in_ok-same.ensures) is

pub returns-in_default-clause-cases : goal.returns-in_default-clause-cases
returns-in_default-clause-cases c = left_cases (graph_view c.args.graph.now) (graph_view c.in_ok-same.same) c.in_ok-same.ensures c.args.cases.now.items

pub returns-clause-becomes : goal.returns-clause-becomes
returns-clause-becomes c = λ before behind is.
    (let h = graph_view c.in_ok-moved.moved in
    moves c.requires.once c.in_ok-moved.ensures (subst (λ o. IfSome o (λ (a : Amount). IsWithin c.args.room h (before ++ h ∷ behind))) c.in-Some.is (c.replaced.ensures.within before behind is)))

pub returns-clause-amount : goal.returns-clause-amount
returns-clause-amount c = λ before behind is.
    (let h = graph_view c.in_ok-moved.moved in
    subst (λ o. IfSome o (λ (a : Amount). IsAmount a (before ++ h ∷ behind))) c.in-Some.is (c.replaced.ensures.amount before behind is))

pub returns-clause-cases : goal.returns-clause-cases
returns-clause-cases c = moved_cases (graph_view c.args.graph.now) (graph_view c.in_ok-moved.moved) c.in_ok-moved.ensures c.args.cases.now.items c.add_moved.new.cases.items c.in_ok-add_moved.ensures
