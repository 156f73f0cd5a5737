use Rattle.std.proofs.Common.{◌≡◌, ◌<◌, ℕ, List, true, ◌∷◌, [], inl, inr, sym, ap, ◌∙◌, subst, arith}
use Rattle.graph_core.specs.declared.block.End.{End}
use Rattle.graph_core.specs.Graphs.{end_view}
use Rattle.graph_core.specs.Uses.{targets_of}
use Rattle.graph_core.specs.Paths.{Among, front, behind}
use Rattle.graph_paths.specs.PathMarksTable.{bits_of}
use Rattle.graph_paths.proofs.Leading.{among_two}
use Rattle.dead_pass_rule.proofs.asked.join_all.Goals as goal

pub returns-in-Jump-clause-only : goal.returns-in-Jump-clause-only
returns-in-Jump-clause-only c = λ x b.
    (let to : targets_of (end_view c.args.end.now) ≡ c.in-Jump.to.0 ∷ [] = ap (λ (d : End). targets_of (end_view d)) c.in-Jump.is in
    elim (c.join.ensures.only x b) [
      | inl was ↦ inl was
      | inr p ↦ inr (record { l = c.in-Jump.to.0; among = subst (λ (l : List ℕ). Among c.in-Jump.to.0 l) (sym to) front; within = p.0; told = p.1 })
    ])

pub returns-in-Branch-clause-come : goal.returns-in-Branch-clause-come
returns-in-Branch-clause-come c = λ l lt among x e.
    (let two : Among l (c.in-Branch.then.0 ∷ c.in-Branch.otherwise.0 ∷ []) = subst (λ (d : End). Among l (targets_of (end_view d))) c.in-Branch.is among in
    elim (among_two two) [
      | inl q ↦ (let small : c.in-Branch.then.0 < c.args.blocks = subst (λ m. m < c.args.blocks) q lt in
          c.join-in-Branch-2.ensures.kept x (c.join-in-Branch.ensures.come small x (subst (λ m. bits_of c.args.marks.now m x ≡ true) q e)))
      | inr q ↦ (let small : c.in-Branch.otherwise.0 < c.args.blocks = subst (λ m. m < c.args.blocks) q lt in
          c.join-in-Branch-2.ensures.come small x (c.join-in-Branch.ensures.others c.in-Branch.otherwise.0 x (λ r. omega (arith, r, small)) ∙ subst (λ m. bits_of c.args.marks.now m x ≡ true) q e))
    ])

pub returns-in-Branch-clause-only : goal.returns-in-Branch-clause-only
returns-in-Branch-clause-only c = λ x b.
    (let to : targets_of (end_view c.args.end.now) ≡ c.in-Branch.then.0 ∷ c.in-Branch.otherwise.0 ∷ [] = ap (λ (d : End). targets_of (end_view d)) c.in-Branch.is in
    elim (c.join-in-Branch-2.ensures.only x b) [
      | inl come ↦ elim (c.join-in-Branch.ensures.only x come) [
        | inl was ↦ inl was
        | inr p ↦ inr (record { l = c.in-Branch.then.0; among = subst (λ (l : List ℕ). Among c.in-Branch.then.0 l) (sym to) front; within = p.0; told = p.1 })
      ]
      | inr p ↦ (let small = p.0 in
          inr (record { l = c.in-Branch.otherwise.0; among = subst (λ (l : List ℕ). Among c.in-Branch.otherwise.0 l) (sym to) (behind front); within = p.0; told = sym (c.join-in-Branch.ensures.others c.in-Branch.otherwise.0 x (λ r. omega (arith, r, small))) ∙ p.1 }))
    ])
