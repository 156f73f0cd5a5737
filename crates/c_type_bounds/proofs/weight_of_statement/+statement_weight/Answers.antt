use Rattle.std.proofs.Common.{rules, ap, arith, sym, ◌∙◌}
use Rattle.std.specs.Prelude.{map}
use Rattle.c_tree.specs.Statements.{branch_view, label_view, statement_view}
use Rattle.c_type_bounds.specs.Weights.{branch_weight, statement_weight}
use Rattle.c_type_bounds.specs.Counts.{capped}
use Rattle.c_type_bounds.proofs.Sums.{sum_whole}
use Rattle.c_type_bounds.proofs.Weights.{if_view, if_view_alone, ifs_weigh, ifs_weigh_alone, labeled_view, labels_weigh, statements_weigh}
use Rattle.c_type_bounds.proofs.weight_of_statement.+statement_weight.Goals as goal

pub branches_weight-returns : goal.branches_weight-returns
branches_weight-returns t c = c.loop-one.invariant ∙ ap capped (sum_whole branch_weight branch_view c.args.all.now c.loop-one.one-index (omega arith))

pub statements_weight-returns : goal.statements_weight-returns
statements_weight-returns t c =
    c.loop-one.invariant ∙ ap capped (sum_whole statement_weight statement_view c.args.all.now c.loop-one.one-index (omega arith) ∙ sym (statements_weigh (map statement_view c.args.all.now)))

pub statement_weight-returns-in-Some : goal.statement_weight-returns-in-Some
statement_weight-returns-in-Some t c =
    rw (c.in-If.is, c.in-Some.is, if_view c.in-If.first c.in-If.others c.in-Some.otherwise, ifs_weigh (branch_view c.in-If.first.value) (map branch_view c.in-If.others.items) (statement_view c.in-Some.otherwise.value)) (search rules)

pub statement_weight-returns-in-None : goal.statement_weight-returns-in-None
statement_weight-returns-in-None t c =
    rw (c.in-If.is, c.in-None.is, if_view_alone c.in-If.first c.in-If.others, ifs_weigh_alone (branch_view c.in-If.first.value) (map branch_view c.in-If.others.items)) (search rules)

pub statement_weight-returns-in-Labeled : goal.statement_weight-returns-in-Labeled
statement_weight-returns-in-Labeled t c =
    rw (c.in-Labeled.is, labeled_view c.in-Labeled.labels c.in-Labeled.statement, labels_weigh (map label_view c.in-Labeled.labels.items) (statement_view c.in-Labeled.statement.value)) (search rules)
