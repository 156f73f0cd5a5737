use Rattle.std.proofs.Common.{◌≡◌, [], ◌∷◌, true≢false, refl, sym, ◌∙◌, subst}
use Rattle.std.proofs.lemmas.Bool.{eq-eqb, eqb-true}
use Rattle.graph_core.specs.Graphs.{end_view}
use Rattle.graph_core.specs.Paths.{Among, front, behind}
use Rattle.graph_core.specs.Uses.{targets_of}
use Rattle.motion_pass_problems.proofs.Leading.{two_targets}
use Rattle.motion_pass_problems.proofs.reach.leads_to_first.Goals as goal

pub returns-else-then-eq0-clause-never : goal.returns-else-then-eq0-clause-never
returns-else-then-eq0-clause-never c = λ other among.
    two_targets (λ l. l ≡ 0 → ⊥) (subst (λ e. Among 0 (targets_of (end_view e))) c.in-Branch.is among) c.if-then-eq0.false (λ same. true≢false (sym (eq-eqb c.in-Branch.otherwise.0 0 same) ∙ other)) refl

pub returns-in-Jump-clause-leads : goal.returns-in-Jump-clause-leads
returns-in-Jump-clause-leads c = λ so. subst (λ e. Among 0 (targets_of (end_view e))) (sym c.in-Jump.is) (subst (λ l. Among 0 (l ∷ [])) (sym (eqb-true c.in-Jump.to.0 0 so)) front)

pub returns-then-then-eq0-clause-leads : goal.returns-then-then-eq0-clause-leads
returns-then-then-eq0-clause-leads c = λ so. subst (λ e. Among 0 (targets_of (end_view e))) (sym c.in-Branch.is) (subst (λ l. Among 0 (l ∷ c.in-Branch.otherwise.0 ∷ [])) (sym (eqb-true c.in-Branch.then.0 0 so)) front)

pub returns-else-then-eq0-clause-leads : goal.returns-else-then-eq0-clause-leads
returns-else-then-eq0-clause-leads c = λ so. subst (λ e. Among 0 (targets_of (end_view e))) (sym c.in-Branch.is) (subst (λ l. Among 0 (c.in-Branch.then.0 ∷ l ∷ [])) (sym (eqb-true c.in-Branch.otherwise.0 0 so)) (behind front))
