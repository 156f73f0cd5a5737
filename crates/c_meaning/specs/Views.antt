-- What expressions and statements come to in an activation of the code.
use Rattle.std.specs.Prelude.{Option, Some, None, List, ◌++◌, ℕ}
use Rattle.c_meaning.specs.declared.activation.Activation as declared-activation
use Rattle.c_meaning_values.specs.declared.value.Value.{Value}
use Rattle.c_meaning_steps.specs.declared.state.End.{End}
use Rattle.c_tree.specs.TypedExpressions.{RvalueTree, LvalueTree, ArgumentTrees}
use Rattle.c_tree.specs.TypedStatements.{TypedStatementTree, While, DoWhile, For, TypedStatementTrees, DeclaredTree, StepTree, TypedStartTree}
use Rattle.c_meaning.specs.Expressions.{evaluate, designate, evaluate_all}
use Rattle.c_meaning.specs.declared.loops.Round as declared-round
use Rattle.c_meaning.specs.declared.loops.Round.TheVariants as round
use Rattle.debug_records.specs.declared.source.Spot.{Spot}
use Rattle.c_meaning_steps.specs.States.{State, Evaluated, Outcome, Tested, Listed, Lists, NoList}
use Rattle.c_meaning.specs.Activations.{Activation, depth_of}
use Rattle.c_meaning.specs.Statements.{execute, execute_all, value_at, test_at, check, expression_run, step, begin_loop, declare_all, declare, initialise_elements, while_round, do_round, for_round}
use Rattle.c_meaning.specs.Runs.{calls_at}
use Rattle.c_meaning_steps.specs.Views.{end_view, outcome_view}
use Rattle.c_meaning.specs.CActivationsViews.{activation_view}

-- values of arguments behind earlier ones
abbrev pub listed_view : Option End → List Value → State → Listed
listed_view None vs s = Lists vs s
listed_view (Some e) vs s = NoList (end_view e) s

-- these values, and behind them others
abbrev pub behind : List Value → Listed → Listed
behind front (Lists vs s) = Lists (front ++ vs) s
behind front (NoList e s) = NoList e s

-- what an expression comes to at a place of an activation
abbrev pub evaluates : declared-activation.Activation → (place : ℕ) → RvalueTree → State → Evaluated
evaluates here place = evaluate (calls_at (activation_view here) here.left place) (depth_of (activation_view here))

abbrev pub designates : declared-activation.Activation → (place : ℕ) → LvalueTree → State → Evaluated
designates here place = designate (calls_at (activation_view here) here.left place) (depth_of (activation_view here))

abbrev pub evaluates_all : declared-activation.Activation → (place : ℕ) → ArgumentTrees → State → Listed
evaluates_all here place =
    evaluate_all (calls_at (activation_view here) here.left place) (depth_of (activation_view here))

-- what statements come to in an activation
abbrev pub executes : declared-activation.Activation → TypedStatementTree → State → Outcome
executes here = execute (calls_at (activation_view here) here.left) (activation_view here)

abbrev pub executes_all : declared-activation.Activation → TypedStatementTrees → State → Outcome
executes_all here = execute_all (calls_at (activation_view here) here.left) (activation_view here)

abbrev pub values_at : declared-activation.Activation → Spot → RvalueTree → State → Evaluated
values_at here = value_at (calls_at (activation_view here) here.left) (activation_view here)

abbrev pub tests_at : declared-activation.Activation → Spot → RvalueTree → State → Tested
tests_at here = test_at (calls_at (activation_view here) here.left) (activation_view here)

abbrev pub checks : declared-activation.Activation → Spot → Option RvalueTree → State → Tested
checks here = check (calls_at (activation_view here) here.left) (activation_view here)

abbrev pub runs : declared-activation.Activation → Spot → RvalueTree → State → Outcome
runs here = expression_run (calls_at (activation_view here) here.left) (activation_view here)

abbrev pub steps : declared-activation.Activation → Option StepTree → State → Outcome
steps here = step (calls_at (activation_view here) here.left) (activation_view here)

abbrev pub begins : declared-activation.Activation → TypedStartTree → State → Outcome
begins here = begin_loop (calls_at (activation_view here) here.left) (activation_view here)

abbrev pub declares_all : declared-activation.Activation → List DeclaredTree → State → Outcome
declares_all here = declare_all (calls_at (activation_view here) here.left) (activation_view here)

abbrev pub declares : declared-activation.Activation → DeclaredTree → State → Outcome
declares here = declare (calls_at (activation_view here) here.left) (activation_view here)

abbrev pub initialises_elements : declared-activation.Activation → Spot → (object index : ℕ) → List RvalueTree → State
    → Outcome
initialises_elements here = initialise_elements (calls_at (activation_view here) here.left) (activation_view here)

-- a round of a loop, given what a next round comes to
abbrev pub round_of : declared-activation.Activation → TypedStatementTree → (State → Outcome) → State → Outcome
round_of here (While spot c body) = while_round (activation_view here) spot (tests_at here spot c) (executes here body)
round_of here (DoWhile body spot c) = do_round (activation_view here) spot (tests_at here spot c) (executes here body)
round_of here (For start spot c p body) =
    for_round (activation_view here) spot (checks here spot c) (executes here body) (steps here p)
round_of here _ = λ again s. again s

-- how a round of a loop ends, given what a next round comes to
abbrev pub round_view : declared-round.Round → (State → Outcome) → State → Outcome
round_view round.Again again s = again s
round_view (round.Leave o) again s = outcome_view o s
