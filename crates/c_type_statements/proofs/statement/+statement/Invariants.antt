use Rattle.std.proofs.Common.{◌≡◌, ◌++◌, drop}
use Rattle.std.specs.Prelude.{map}
use Rattle.c_tree.specs.Statements.{branch_view, chain_of_statements, statement_view}
use Rattle.c_type_declarations.specs.Progress.{means, next_met, progress_view}
use Rattle.c_type_statements.specs.Chains.{branches_met, built_view}
use Rattle.c_type_statements.specs.Statements.{block_items_met, statements_met}
use Rattle.c_type_statements.specs.Switches.{labels_view, no_labels, part_view, put_all}
use Rattle.c_type_statements.proofs.statement.+statement.Given as goal

abbrev pub invariant-statements-loop-one : goal.invariant-statements-loop-one
invariant-statements-loop-one l =
    next_met (statements_met l.setting (chain_of_statements (map statement_view (drop l.one-index l.all))) (progress_view l.progress)) (λ ts. means (put_all (map part_view l.parts.items) ts)) ≡ statements_met l.setting (chain_of_statements (map statement_view l.all)) (progress_view l.fn.progress)

abbrev pub invariant-branches-loop-one : goal.invariant-branches-loop-one
invariant-branches-loop-one l =
    next_met (branches_met l.setting l.last (map branch_view (drop l.one-index l.all)) (progress_view l.progress)) (λ xs. means (map built_view l.built.items ++ xs)) ≡ branches_met l.setting l.last (map branch_view l.all) (progress_view l.fn.progress)

abbrev pub invariant-items-loop-one : goal.invariant-items-loop-one
invariant-items-loop-one l =
    next_met (block_items_met l.setting l.kind (chain_of_statements (map statement_view (drop l.one-index l.all))) (labels_view l.labels) (progress_view l.progress)) (λ ts. means (put_all (map part_view l.parts.items) ts)) ≡ block_items_met l.setting l.kind (chain_of_statements (map statement_view l.all)) no_labels (progress_view l.fn.progress)
