use Rattle.std.proofs.Common.{◌≡◌, ◌+◌, ◌*◌, map}
use Rattle.std.specs.Prelude.{option_map}
use Rattle.c_tree.specs.Programs.{program_view}
use Rattle.c_tree.specs.TypedExpressions.{rvalue_view, lvalue_view, arguments_view}
use Rattle.c_tree.specs.TypedStatements.{statement_view, statements_view, declared_view, initial_view, start_view, step_view}
use Rattle.c_meaning.specs.Weights.{weight, weight_of_left, weights, weight_of_all, weight_of_initial, weight_of_declared, weight_of_start, weight_of_option, weight_of_step, weight_of, weight_of_statements, heaviest}
use Rattle.c_meaning.specs.Views.{round_of}
use Rattle.c_meaning_steps.specs.Views.{state_view}
use Rattle.c_meaning.specs.Statements.{loop, rounds}
use Rattle.c_meaning_eval.proofs.+run.Given as goal

abbrev pub decreases-execution::evaluate : goal.decreases-execution::evaluate
decreases-execution::evaluate l = l.here.now.left * heaviest (program_view l.here.now.program.now).functions + (weight (rvalue_view l.e.now))

abbrev pub decreases-execution::evaluate_test : goal.decreases-execution::evaluate_test
decreases-execution::evaluate_test l = l.here.now.left * heaviest (program_view l.here.now.program.now).functions + (weight (rvalue_view l.e.now) + 1)

abbrev pub decreases-execution::evaluate_both : goal.decreases-execution::evaluate_both
decreases-execution::evaluate_both l = l.here.now.left * heaviest (program_view l.here.now.program.now).functions + (weight (rvalue_view l.left.now) + weight (rvalue_view l.right.now) + 1)

abbrev pub decreases-execution::designate_and_evaluate : goal.decreases-execution::designate_and_evaluate
decreases-execution::designate_and_evaluate l = l.here.now.left * heaviest (program_view l.here.now.program.now).functions + (weight_of_left (lvalue_view l.target.now) + weight (rvalue_view l.right.now) + 1)

abbrev pub decreases-execution::locate : goal.decreases-execution::locate
decreases-execution::locate l = l.here.now.left * heaviest (program_view l.here.now.program.now).functions + (weight_of_left (lvalue_view l.target.now) + 1)

abbrev pub decreases-execution::designate : goal.decreases-execution::designate
decreases-execution::designate l = l.here.now.left * heaviest (program_view l.here.now.program.now).functions + (weight_of_left (lvalue_view l.l.now))

abbrev pub decreases-execution::evaluate_all : goal.decreases-execution::evaluate_all
decreases-execution::evaluate_all l = l.here.now.left * heaviest (program_view l.here.now.program.now).functions + (weights (arguments_view l.arguments.now))

abbrev pub decreases-execution::call_callee : goal.decreases-execution::call_callee
decreases-execution::call_callee l = l.here.now.left * heaviest (program_view l.here.now.program.now).functions + (2)

abbrev pub decreases-statements::value_at : goal.decreases-statements::value_at
decreases-statements::value_at l = l.here.now.left * heaviest (program_view l.here.now.program.now).functions + (weight (rvalue_view l.e.now) + 1)

abbrev pub decreases-statements::test_at : goal.decreases-statements::test_at
decreases-statements::test_at l = l.here.now.left * heaviest (program_view l.here.now.program.now).functions + (weight (rvalue_view l.e.now) + 2)

abbrev pub decreases-statements::check : goal.decreases-statements::check
decreases-statements::check l = l.here.now.left * heaviest (program_view l.here.now.program.now).functions + (weight_of_option (option_map rvalue_view l.condition.now))

abbrev pub decreases-statements::run : goal.decreases-statements::run
decreases-statements::run l = l.here.now.left * heaviest (program_view l.here.now.program.now).functions + (weight (rvalue_view l.e.now) + 2)

abbrev pub decreases-statements::run_step : goal.decreases-statements::run_step
decreases-statements::run_step l = l.here.now.left * heaviest (program_view l.here.now.program.now).functions + (weight_of_step (option_map step_view l.part.now))

abbrev pub decreases-statements::begin_loop : goal.decreases-statements::begin_loop
decreases-statements::begin_loop l = l.here.now.left * heaviest (program_view l.here.now.program.now).functions + (weight_of_start (start_view l.start.now))

abbrev pub decreases-statements::declare_all : goal.decreases-statements::declare_all
decreases-statements::declare_all l = l.here.now.left * heaviest (program_view l.here.now.program.now).functions + (weight_of_declared (map declared_view l.all.now))

abbrev pub decreases-statements::declare : goal.decreases-statements::declare
decreases-statements::declare l = l.here.now.left * heaviest (program_view l.here.now.program.now).functions + (weight_of_initial (initial_view l.d.now.initial) + 2)

abbrev pub decreases-statements::initialise_elements : goal.decreases-statements::initialise_elements
decreases-statements::initialise_elements l = l.here.now.left * heaviest (program_view l.here.now.program.now).functions + (weight_of_all (map rvalue_view l.all.now))

abbrev pub decreases-statements::execute : goal.decreases-statements::execute
decreases-statements::execute l = l.here.now.left * heaviest (program_view l.here.now.program.now).functions + (weight_of (statement_view l.statement.now) + 2)

abbrev pub decreases-statements::execute_all : goal.decreases-statements::execute_all
decreases-statements::execute_all l = l.here.now.left * heaviest (program_view l.here.now.program.now).functions + (weight_of_statements (statements_view l.all.now))

abbrev pub decreases-statements::execute_switch : goal.decreases-statements::execute_switch
decreases-statements::execute_switch l = l.here.now.left * heaviest (program_view l.here.now.program.now).functions + (weight (rvalue_view l.value.now) + weight_of_statements (statements_view l.body.now) + 4)

abbrev pub decreases-statements::execute_return : goal.decreases-statements::execute_return
decreases-statements::execute_return l = l.here.now.left * heaviest (program_view l.here.now.program.now).functions + (weight_of_option (option_map rvalue_view l.value.now) + 4)

abbrev pub decreases-statements::while_round : goal.decreases-statements::while_round
decreases-statements::while_round l = l.here.now.left * heaviest (program_view l.here.now.program.now).functions + (weight (rvalue_view l.condition.now) + weight_of (statement_view l.body.now) + 5)

abbrev pub decreases-statements::do_round : goal.decreases-statements::do_round
decreases-statements::do_round l = l.here.now.left * heaviest (program_view l.here.now.program.now).functions + (weight (rvalue_view l.condition.now) + weight_of (statement_view l.body.now) + 5)

abbrev pub decreases-statements::for_round : goal.decreases-statements::for_round
decreases-statements::for_round l = l.here.now.left * heaviest (program_view l.here.now.program.now).functions + (weight_of_option (option_map rvalue_view l.condition.now) + weight_of_step (option_map step_view l.part.now) + weight_of (statement_view l.body.now) + 5)

abbrev pub decreases-execution::call_function : goal.decreases-execution::call_function
decreases-execution::call_function l = l.left * heaviest (program_view l.program.now).functions + 1

abbrev pub decreases-execution::activate : goal.decreases-execution::activate
decreases-execution::activate l = l.here.now.left * heaviest (program_view l.here.now.program.now).functions + heaviest (program_view l.here.now.program.now).functions

abbrev pub decreases-statements::execute_loop : goal.decreases-statements::execute_loop
decreases-statements::execute_loop l = l.here.now.left * heaviest (program_view l.here.now.program.now).functions + (weight_of (statement_view l.statement.now) + 1)

abbrev pub decreases-statements::execute_round : goal.decreases-statements::execute_round
decreases-statements::execute_round l = l.here.now.left * heaviest (program_view l.here.now.program.now).functions + weight_of (statement_view l.statement.now)

abbrev pub invariant-statements::execute_loop-loop-rest : goal.invariant-statements::execute_loop-loop-rest
invariant-statements::execute_loop-loop-rest l = rounds l.rest (round_of l.here (statement_view l.statement)) (state_view l.state) ≡ loop (round_of l.here (statement_view l.statement)) (state_view l.fn.state)

abbrev pub decreases-statements::execute_loop-loop-rest : goal.decreases-statements::execute_loop-loop-rest
decreases-statements::execute_loop-loop-rest l = l.rest
