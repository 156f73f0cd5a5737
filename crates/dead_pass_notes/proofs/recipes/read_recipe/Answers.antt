use Rattle.std.proofs.Common.{◌≡◌, suc, None, Some, true≢false, sym, ap, subst, ◌∙◌}
use Rattle.graph_core.specs.Graphs.{Name, Of, operand_view}
use Rattle.dead_pass_notes.specs.Idle.{assignments_of, graph_of}
use Rattle.dead_pass_notes.specs.Sources.{IsFound, IsRead}
use Rattle.dead_pass_notes.proofs.Found.{read_name, read_none, read_other}
use Rattle.dead_pass_notes.proofs.recipes.read_recipe.Goals as goal
use Rattle.dead_pass_notes.proofs.recipes.read_recipe.Goals.{in-Name+in_ok-still_holds+else-not-branch, in_default}

pub returns-then-not-branch-clause-found : goal.returns-then-not-branch-clause-found
returns-then-not-branch-clause-found c = λ known room source depth.
    (let g = graph_of c.args.idle.now in
    let y = c.in-Name.name.0 in
    let exact = c.in_ok-still_holds.ensures.exact known room source.0 in
    subst (λ o. IsFound (suc depth) (IsRead (assignments_of c.args.idle.now) g c.args.note c.args.at (operand_view o)) None) (sym c.in-Name.is)
    (read_none g c.args.note c.args.at y (suc depth) (source.1 y (ap operand_view c.in-Name.is)) (λ holds. true≢false (sym (exact.1 holds) ∙ c.if-not-branch.true))))

pub returns-clause-found : goal.returns-clause-found
returns-clause-found c = λ known room source depth.
    (let g = graph_of c.args.idle.now in
    elim c.match-operand.branch [
      | in-Name+in_ok-still_holds+else-not-branch w ↦
          (let y = w.in-Name.name.0 in
          let exact = w.in_ok-still_holds.ensures.exact known room source.0 in
          let read = read_name g c.args.note c.args.at y depth (source.1 y (ap operand_view w.in-Name.is)) (exact.0 w.if-not-branch.false) in
          subst (λ o. IsFound (suc depth) (IsRead (assignments_of c.args.idle.now) g c.args.note c.args.at (operand_view c.args.operand)) (Some (Of (operand_view o)))) (sym w.operand-is)
          (subst (λ o. IsFound (suc depth) (IsRead (assignments_of c.args.idle.now) g c.args.note c.args.at (operand_view o)) (Some (Of (Name y)))) (sym w.in-Name.is) read))
      | in_default w ↦
          subst (λ o. IsFound (suc depth) (IsRead (assignments_of c.args.idle.now) g c.args.note c.args.at (operand_view c.args.operand)) (Some (Of (operand_view o)))) (sym w.operand-is) (read_other g c.args.note c.args.at c.args.operand depth w.in_default.not-Name)
    ])
