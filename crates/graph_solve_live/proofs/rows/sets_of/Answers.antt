use Rattle.std.proofs.Common.{◌+◌, ◌++◌, [], ◌∷◌, sym, ap, ◌∙◌, zero-add}
use Rattle.graph_solve.specs.Rows.{set_at, sets_at}
use Rattle.graph_solve.proofs.Reading.{sets_more}
use Rattle.graph_solve_live.proofs.rows.sets_of.Goals as goal

pub loop-row-preserved : goal.loop-row-preserved
loop-row-preserved c =
    let rows = c.args.marks.now.rows in
    let k = c.loop-row.row in
    c.in_ok-push.ensures.items ∙ ap (λ s. c.loop-row.sets.items ++ s ∷ []) c.in_ok-facts_of.ensures ∙ ap (λ ss. ss ++ set_at rows k ∷ []) c.loop-row.invariant
    ∙ ap (λ m. sets_at rows 0 k ++ set_at rows m ∷ []) (sym (zero-add k)) ∙ sym (sets_more rows 0 k)
