use Rattle.std.proofs.Common.{◌+◌, [], ◌∷◌, drop, map, Box, Global, sym, ap, ◌∙◌}
use Rattle.std.specs.Option.{option_map}
use Rattle.std.proofs.lemmas.List.{map-append, map_push}
use Rattle.std.proofs.lemmas.Result.{IfOk-weaker, on_ok_weaker}
use Rattle.c_tree.specs.declared.statement.Statement.{Statement}
use Rattle.c_tree.specs.declared.typed_statement.TypedStatement.{TypedStatement}
use Rattle.c_tree.specs.Expressions.{expression_view}
use Rattle.c_tree.specs.Declarations.{declaration_view}
use Rattle.c_tree.specs.Statements.{branch_view, chain_of_statements, label_view, start_view, statement_view}
use Rattle.c_tree.specs.TypedStatements.{TypedStatementTree, TypedStatementTrees, declared_view, statements_view}
use Rattle.c_tree.specs.TypedStatements as typed-tree
use Rattle.c_type_declarations.specs.Progress.{means, progress_view}
use Rattle.c_type_declarations.proofs.Loops.{drop_item}
use Rattle.c_type_values.specs.Values.{node_view}
use Rattle.c_type_statements.specs.Chains.{built_view}
use Rattle.c_type_statements.specs.Switches.{labels_view, part_view}
use Rattle.c_type_statements.specs.declared.part.Part.TheVariants as part
use Rattle.c_type_statements.proofs.Chains.{misplaced_labels}
use Rattle.c_type_statements.proofs.Loops.{branches_step, branches_end, chain_item, items_step, items_end, statements_step, statements_end}
use Rattle.c_type_statements.proofs.Views.{branch_out, break_view, compound_view, continue_view, declare_view, do_view, empty_view, for_view, labeled_view, return_view, run_view, switch_view, while_view, without_labels}
use Rattle.c_type_statements.proofs.Arms.{block_arm, branch_parts, break_arm, chain_parts, continue_arm, declare_arm, do_arm, empty_arm, for_arm, if_arm, item_labeled, item_unlabeled, return_arm, run_arm, switch_arm, while_arm}
use Rattle.c_type_statements.proofs.statement.+statement.Goals as goal

pub branch-returns : goal.branch-returns
branch-returns t c =
    let b = c.args.branch.now in
    rw (branch_out b, c.first.ensures)
    (branch_parts c.args.setting c.args.last (record { spot = b.spot; condition = expression_view b.condition; then = statement_view b.then }) (node_view c.in_ok-tree.tree) (typed-tree.statement_view c.in_ok-then.then.value) (progress_view c.args.progress.now) (progress_view c.condition.new.progress) (progress_view c.statement.new.progress) c.in_ok-tree.ensures c.in_ok-then.ensures)

pub branches-loop-one-preserved : goal.branches-loop-one-preserved
branches-loop-one-preserved t c =
    let xs = c.args.all.now in
    let i = c.loop-one.one-index in
    rw (c.in_ok-push.ensures.items, map_push built_view c.loop-one.built.items c.in_ok-made.made)
    (sym (branches_step c.args.setting c.args.last (branch_view c.one-item.result) (map branch_view (drop (i + 1) xs)) (map built_view c.loop-one.built.items) (built_view c.in_ok-made.made) (progress_view c.loop-one.progress) (progress_view c.branch-alloc.new.progress) c.in_ok-made.ensures)
    ∙ (rw (ap (λ ys. map branch_view ys) (drop_item xs i c.one-item.result c.loop-one-test.true c.one-item.is)) at c.loop-one.invariant))

pub branches-returns : goal.branches-returns
branches-returns t c =
    sym (branches_end c.args.setting c.args.last branch_view c.args.all.now c.loop-one.one-index (map built_view c.loop-one.built.items) (progress_view c.loop-one.progress) c.loop-one-test.false) ∙ c.loop-one.invariant

pub item-returns-in_ok-all_labels-in-Labeled : goal.item-returns-in_ok-all_labels-in-Labeled
item-returns-in_ok-all_labels-in-Labeled t c =
    let own = c.in-Labeled.own in
    let s = c.in-Labeled.s in
    let labels = rw c.deref.ensures.value at c.in_ok-all_labels-in-Labeled.ensures in
    rw (c.in-Labeled.is, labeled_view own s)
    (on_ok_weaker c.item.result
    (λ h. (rw c.deref-in-Labeled.ensures at h) ∙ item_labeled c.args.setting c.args.kind (map label_view own.items) (statement_view s.value) (labels_view c.args.labels.now) (map part_view c.args.parts.now.items) (map part_view c.all_labels.new.parts.items) (labels_view c.all_labels.new.known) (progress_view c.args.progress.now) (progress_view c.all_labels.new.progress) labels)
    c.item.ensures)

pub item-returns-in_ok-push-in_default : goal.item-returns-in_ok-push-in_default
item-returns-in_ok-push-in_default t c =
    rw (c.in_ok-push-in_default.ensures.items, map-append part_view c.args.parts.now.items (part.Statement c.in_ok-made-in_default.made ∷ []))
    (item_unlabeled c.args.setting c.args.kind (statement_view c.args.s.now) (labels_view c.args.labels.now) (map part_view c.args.parts.now.items) (typed-tree.statement_view c.in_ok-made-in_default.made.value) (progress_view c.args.progress.now) (progress_view c.statement.new.progress) (without_labels c.args.s.now c.in_default.not-Labeled) c.in_ok-made-in_default.ensures)

pub items-loop-one-preserved : goal.items-loop-one-preserved
items-loop-one-preserved t c =
    let xs = c.args.all.now in
    let i = c.loop-one.one-index in
    sym (items_step c.args.setting c.args.kind (statement_view c.one-item.result) (chain_of_statements (map statement_view (drop (i + 1) xs))) (map part_view c.loop-one.parts.items) (map part_view c.item.new.parts.items) (labels_view c.loop-one.labels) (labels_view c.item.new.labels) (progress_view c.loop-one.progress) (progress_view c.item.new.progress) c.in_ok-item.ensures)
    ∙ (rw (chain_item xs i c.one-item.result c.loop-one-test.true c.one-item.is) at c.loop-one.invariant)

pub items-returns : goal.items-returns
items-returns t c =
    IfOk-weaker c.arranged.result _ _
    (λ r h. ap (λ (ts : TypedStatementTrees). means ts (progress_view c.loop-one.progress)) h ∙ sym (items_end c.args.setting c.args.kind c.args.all.now c.loop-one.one-index (map part_view c.loop-one.parts.items) (labels_view c.loop-one.labels) (progress_view c.loop-one.progress) c.loop-one-test.false) ∙ c.loop-one.invariant)
    c.arranged.ensures

pub statements-loop-one-preserved : goal.statements-loop-one-preserved
statements-loop-one-preserved t c =
    let xs = c.args.all.now in
    let i = c.loop-one.one-index in
    rw (c.in_ok-push.ensures.items, map-append part_view c.loop-one.parts.items (part.Statement c.in_ok-made.made ∷ []))
    (sym (statements_step c.args.setting (statement_view c.one-item.result) (chain_of_statements (map statement_view (drop (i + 1) xs))) (map part_view c.loop-one.parts.items) (typed-tree.statement_view c.in_ok-made.made.value) (progress_view c.loop-one.progress) (progress_view c.statement.new.progress) c.in_ok-made.ensures)
    ∙ (rw (chain_item xs i c.one-item.result c.loop-one-test.true c.one-item.is) at c.loop-one.invariant))

pub statements-returns : goal.statements-returns
statements-returns t c =
    IfOk-weaker c.arranged.result _ _
    (λ r h. ap (λ (ts : TypedStatementTrees). means ts (progress_view c.loop-one.progress)) h ∙ sym (statements_end c.args.setting c.args.all.now c.loop-one.one-index (map part_view c.loop-one.parts.items) (progress_view c.loop-one.progress) c.loop-one-test.false) ∙ c.loop-one.invariant)
    c.arranged.ensures

pub statement-returns-in_ok-all-in-Block : goal.statement-returns-in_ok-all-in-Block
statement-returns-in_ok-all-in-Block t c =
    let b = c.in-Block.block in
    rw (c.in-Block.is, compound_view b)
    (IfOk-weaker c.block_of.result _ _
    (λ r h. rw h (block_arm c.args.setting b.opening (chain_of_statements (map statement_view b.statements.items)) b.closing (statements_view c.in_ok-all-in-Block.all) (progress_view c.args.progress.now) (progress_view c.block_in_scope.new.progress) (rw c.deref.ensures.value at c.in_ok-all-in-Block.ensures)))
    c.block_of.ensures)

pub statement-returns-in-Declaration : goal.statement-returns-in-Declaration
statement-returns-in-Declaration t c =
    rw (c.in-Declaration.is, declare_view c.in-Declaration.d)
    (IfOk-weaker c.declared.result _ _ (λ r h. h ∙ declare_arm c.args.setting (declaration_view c.in-Declaration.d) (progress_view c.args.progress.now)) c.declared.ensures)

pub statement-returns-in-Empty : goal.statement-returns-in-Empty
statement-returns-in-Empty t c =
    rw (c.in-Empty.is, empty_view c.in-Empty.spot)
    (IfOk-weaker c.empty.result _ _ (λ r h. rw h (empty_arm c.args.setting c.in-Empty.spot (progress_view c.args.progress.now))) c.empty.ensures)

pub statement-returns-in-Expression : goal.statement-returns-in-Expression
statement-returns-in-Expression t c =
    rw (c.in-Expression.is, run_view c.in-Expression.value c.in-Expression.last)
    (IfOk-weaker c.executed.result _ _ (λ r h. h ∙ run_arm c.args.setting (expression_view c.in-Expression.value) c.in-Expression.last (progress_view c.args.progress.now)) c.executed.ensures)

pub statement-returns-in_ok-other-in-If : goal.statement-returns-in_ok-other-in-If
statement-returns-in_ok-other-in-If t c =
    let g = c.args.setting in
    let p = progress_view c.args.progress.now in
    let v = progress_view c.last_else.new.progress in
    let last = c.last_of_statement-last.result in
    let first = c.deref-in-If.result.now in
    let others = c.deref-in-If-2.result.now in
    IfOk-weaker c.nested.result _ _
    (λ r h. ap (λ (x : TypedStatementTree). means x v) h
    ∙ chain_parts g last (branch_view first) (map branch_view others) (option_map (λ (x : Box Statement Global). statement_view x.value) c.in-If.otherwise) (built_view c.in_ok-chosen-in-If.chosen) (map built_view c.in_ok-built-in-If.built.items) (option_map (λ (x : Box TypedStatement Global). typed-tree.statement_view x.value) c.in_ok-other-in-If.other) p (progress_view c.branch-alloc.new.progress) (progress_view c.branches.new.progress) v c.in_ok-chosen-in-If.ensures c.in_ok-built-in-If.ensures c.in_ok-other-in-If.ensures
    ∙ if_arm g c.args.s.now c.in-If.first c.in-If.others c.in-If.otherwise last first others p c.in-If.is c.last_of_statement-last.ensures c.deref-in-If.ensures c.deref-in-If-2.ensures.value)
    c.nested.ensures

pub statement-returns-in_ok-body-in-While : goal.statement-returns-in_ok-body-in-While
statement-returns-in_ok-body-in-While t c =
    let s = c.in-While.body in
    rw (c.in-While.is, while_view c.in-While.spot c.in-While.e s)
    (IfOk-weaker c.while_of.result _ _
    (λ r h. rw (rw c.first.ensures at h)
    (while_arm c.args.setting c.in-While.spot (expression_view c.in-While.e) (statement_view s.value) (node_view c.in_ok-tree-in-While.tree) (typed-tree.statement_view c.in_ok-body-in-While.body.value) (progress_view c.args.progress.now) (progress_view c.condition.new.progress) (progress_view c.statement.new.progress)
    (rw (c.last_of_statement.ensures, c.deref-in-While.ensures) at c.in_ok-tree-in-While.ensures) (rw (c.in_loop.ensures, c.deref-in-While-2.ensures) at c.in_ok-body-in-While.ensures)))
    c.while_of.ensures)

pub statement-returns-in_ok-tree-in-DoWhile : goal.statement-returns-in_ok-tree-in-DoWhile
statement-returns-in_ok-tree-in-DoWhile t c =
    let s = c.in-DoWhile.body in
    rw (c.in-DoWhile.is, do_view c.in-DoWhile.extent s c.in-DoWhile.e)
    (IfOk-weaker c.do_while_of.result _ _
    (λ r h. rw (rw c.first-in-DoWhile.ensures at h)
    (do_arm c.args.setting c.in-DoWhile.extent (statement_view s.value) (expression_view c.in-DoWhile.e) (typed-tree.statement_view c.in_ok-body-in-DoWhile.body.value) (node_view c.in_ok-tree-in-DoWhile.tree) (progress_view c.args.progress.now) (progress_view c.statement-in-DoWhile.new.progress) (progress_view c.condition-in-DoWhile.new.progress)
    (rw (c.in_loop-in-DoWhile.ensures, c.deref-in-DoWhile.ensures) at c.in_ok-body-in-DoWhile.ensures) c.in_ok-tree-in-DoWhile.ensures))
    c.do_while_of.ensures)

pub statement-returns-in_ok-made-in-For : goal.statement-returns-in_ok-made-in-For
statement-returns-in_ok-made-in-For t c =
    let f = c.in-For in
    rw (f.is, for_view f.spot f.start f.condition f.step f.body, c.close.ensures)
    (for_arm c.args.setting f.spot (start_view f.start) (option_map expression_view f.condition) (option_map expression_view f.step) (statement_view f.body.value) (typed-tree.statement_view c.in_ok-made-in-For.made.value) (progress_view c.args.progress.now) (progress_view c.for_loop.new.progress)
    (rw (c.deref-in-For.ensures, c.in_ok-open-in-For.ensures) at c.in_ok-made-in-For.ensures))

pub statement-returns-in-Switch : goal.statement-returns-in-Switch
statement-returns-in-Switch t c =
    let b = c.in-Switch.body in
    rw (c.in-Switch.is, switch_view c.in-Switch.spot c.in-Switch.value b)
    (IfOk-weaker c.switch.result _ _ (λ r h. h ∙ switch_arm c.args.setting c.in-Switch.spot (expression_view c.in-Switch.value) b.opening (chain_of_statements (map statement_view b.statements.items)) b.closing (progress_view c.args.progress.now)) c.switch.ensures)

pub statement-returns-in_ok-misplaced-in-Labeled : goal.statement-returns-in_ok-misplaced-in-Labeled
statement-returns-in_ok-misplaced-in-Labeled t c =
    let ls = c.in-Labeled.labels in
    let s = c.in-Labeled.s in
    rw (c.in-Labeled.is, labeled_view ls s, misplaced_labels c.args.setting (map label_view ls.items) (statement_view s.value) (progress_view c.args.progress.now), ← c.deref-in-Labeled.ensures.value, ← c.in_ok-misplaced-in-Labeled.ensures, ← c.deref-in-Labeled-2.ensures) c.statement-in-Labeled.ensures

pub statement-returns-in-Break : goal.statement-returns-in-Break
statement-returns-in-Break t c =
    rw (c.in-Break.is, break_view c.in-Break.extent)
    (IfOk-weaker c.broken.result _ _ (λ r h. h ∙ break_arm c.args.setting c.in-Break.extent (progress_view c.args.progress.now)) c.broken.ensures)

pub statement-returns-in-Continue : goal.statement-returns-in-Continue
statement-returns-in-Continue t c =
    rw (c.in-Continue.is, continue_view c.in-Continue.extent)
    (IfOk-weaker c.continued.result _ _ (λ r h. h ∙ continue_arm c.args.setting c.in-Continue.extent (progress_view c.args.progress.now)) c.continued.ensures)

pub statement-returns-in-Return : goal.statement-returns-in-Return
statement-returns-in-Return t c =
    rw (c.in-Return.is, return_view c.in-Return.extent c.in-Return.value)
    (IfOk-weaker c.returned.result _ _ (λ r h. h ∙ return_arm c.args.setting c.in-Return.extent (option_map expression_view c.in-Return.value) (progress_view c.args.progress.now)) c.returned.ensures)
