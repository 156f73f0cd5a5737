use Rattle.std.proofs.Common.{refl, sym}
use Rattle.std.specs.Prelude.{map}
use Rattle.c_tree.specs.Statements.{branch_view, label_view, statement_view}
use Rattle.c_type_statements.proofs.LastTokens.{last_behind_labels, last_of_else, last_of_last, last_of_none}
use Rattle.c_type_statements.proofs.Views.{branch_out, if_else_view, if_view, labeled_view}
use Rattle.c_type_statements.proofs.ends.+last_of_statement.Goals as goal

pub returns-in-Some : goal.returns-in-Some
returns-in-Some t c =
    rw (c.in-If.is, c.in-Some.is, if_else_view c.in-If.first c.in-If.others c.in-Some.otherwise, last_of_else (branch_view c.in-If.first.value) (map branch_view c.in-If.others.items) (statement_view c.in-Some.otherwise.value), c.last_of_statement.ensures, c.deref.ensures) refl

pub returns-in-Labeled : goal.returns-in-Labeled
returns-in-Labeled t c =
    rw (c.in-Labeled.is, labeled_view c.in-Labeled.labels c.in-Labeled.statement, last_behind_labels (map label_view c.in-Labeled.labels.items) (statement_view c.in-Labeled.statement.value), c.last_of_statement-in-Labeled.ensures, c.deref-in-Labeled.ensures) refl

pub returns-in-Some-last : goal.returns-in-Some-last
returns-in-Some-last t c =
    rw (c.in-If.is, c.in-None.is, if_view c.in-If.first c.in-If.others, last_of_last (branch_view c.in-If.first.value) c.in-If.others.items c.in-Some-last.branch.now (sym (rw (c.in-Some-last.is, c.deref-in-None.ensures.value) at c.last.ensures.value)), branch_out c.in-Some-last.branch.now)
    c.last_of_statement-in-Some-last.ensures

pub returns-in-None-last : goal.returns-in-None-last
returns-in-None-last t c =
    rw (c.in-If.is, c.in-None.is, if_view c.in-If.first c.in-If.others, last_of_none (branch_view c.in-If.first.value) c.in-If.others.items (sym (rw (c.in-None-last.is, c.deref-in-None.ensures.value) at c.last.ensures.value)), branch_out c.in-If.first.value, ← c.deref-in-None-last.ensures)
    c.last_of_statement-in-None-last.ensures
