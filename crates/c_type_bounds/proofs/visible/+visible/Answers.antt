use Rattle.std.proofs.Common.{rules, ◌≡◌, refl, sym, ◌∙◌}
use Rattle.std.specs.Prelude.{map}
use Rattle.c_tree.specs.Programs.{automatic_view}
use Rattle.c_tree.specs.TypedStatements.{start_view, statement_view, statements_view}
use Rattle.c_type_bounds.specs.Visible.{behind_statement, behind_statements, names_view}
use Rattle.c_type_bounds.proofs.NamesBehind.{count_from, counted_all, names_cut, start_cut, statement_cut, statements_cut}
use Rattle.c_type_bounds.proofs.visible.+visible.Goals as goal

pub at_block-returns-clause-names : goal.at_block-returns-clause-names
at_block-returns-clause-names t c =
    rw (c.truncate.ensures.items)
    (names_cut c.args.names.now.items c.at_statements.new.names.items c.len-outer.result (behind_statements (map automatic_view c.args.automatics.now) (statements_view c.args.all.now) (names_view c.args.names.now.items)) c.in_ok-total.ensures.names (search rules) (statements_cut (map automatic_view c.args.automatics.now) (statements_view c.args.all.now) (names_view c.args.names.now.items)))

pub at_inner-returns-clause-names : goal.at_inner-returns-clause-names
at_inner-returns-clause-names t c =
    rw (c.truncate.ensures.items)
    (names_cut c.args.names.now.items c.at_statement.new.names.items c.len-outer.result (behind_statement (map automatic_view c.args.automatics.now) (statement_view c.args.statement.now) (names_view c.args.names.now.items)) c.in_ok-total.ensures.names (search rules) (statement_cut (map automatic_view c.args.automatics.now) (statement_view c.args.statement.now) (names_view c.args.names.now.items)))

pub at_statements-returns-in-End-clause-count : goal.at_statements-returns-in-End-clause-count
at_statements-returns-in-End-clause-count t c =
    let now : count_from (map automatic_view c.args.automatics.now) c.loop-left.total (statements_view c.loop-left.left.now) (names_view c.loop-left.names.items) ≡ c.loop-left.total = rw (c.in-End.is) refl in
    sym now ∙ c.loop-left.invariant.count ∙ counted_all (map automatic_view c.args.automatics.now) (statements_view c.args.all.now) (names_view c.args.names.now.items)

pub at_statement-returns-in_ok-inner-in-For-clause-names : goal.at_statement-returns-in_ok-inner-in-For-clause-names
at_statement-returns-in_ok-inner-in-For-clause-names t c =
    rw (c.truncate.ensures.items, c.in-For.is)
    (names_cut c.args.names.now.items c.at_inner-in-For.new.names.items c.len-kept.result _ (c.in_ok-inner-in-For.ensures.names ∙ c.in_ok-begin-in-For.ensures.names) (search rules) (start_cut (map automatic_view c.args.automatics.now) (start_view c.in-For.start) (names_view c.args.names.now.items)))
