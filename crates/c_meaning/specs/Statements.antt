-- What a statement comes to. Each place that it begins is a turn (ISO/IEC 9899:2011, 6.8).
use Rattle.std.specs.Prelude.{ℕ, zero, suc, ◌+◌, ◌||◌, ℤ, int_le, ◌&&◌, Bool, true, false, Option, Some, None, List, [], ◌∷◌, length}
use Rattle.debug_records.specs.declared.source.Spot.{Spot}
use Rattle.c_tree.specs.TypedExpressions.{RvalueTree}
use Rattle.c_tree.specs.TypedStatements as tree
use Rattle.c_tree.specs.TypedStatements.{InitialTree, Zero, Scalar, Elements, Literal, DeclaredTree, TypedStartTree, Nothing, Declares, StepTree, TypedStatementTree, Block, Declaration, Empty, Run, If, IfElse, While, DoWhile, For, Switch, Break, Continue, Return, TypedStatementTrees, none, first, case, default}
use Rattle.c_meaning_values.specs.declared.value.Value.{Value}
use Rattle.c_meaning_values.specs.declared.value.Value.TheVariants.{Number}
use Rattle.c_meaning_values.specs.declared.value.Phase.TheVariants.{Initialising, Live}
use Rattle.c_meaning_steps.specs.declared.event.Ending.TheVariants.{Undefined, Turns}
use Rattle.c_meaning_values.specs.Memory.{set_value, begun}
use Rattle.c_places.specs.Places.{place_number_at}
use Rattle.c_meaning_steps.specs.States.{State, Evaluated, Outcome, Next, Broken, Continued, Returned, Ended, on_value, on_effect, Tested, Holds, condition_tested, choose}
use Rattle.c_meaning.specs.Expressions.{Calls, evaluate}
use Rattle.c_meaning.specs.Lifetimes.{lifetimes_ended, element_type, made, literal_values, set_values}
use Rattle.c_meaning.specs.Activations.{Activation, depth_of, at}
pub use Rattle.c_type_rules.specs.Constants.{same as is_same_number}

-- the next statement, where control goes on
abbrev pub then_do : Outcome → (State → Outcome) → Outcome
then_do (Next s) go = go s
then_do (Broken s) go = Broken s
then_do (Continued s) go = Continued s
then_do (Returned v s) go = Returned v s
then_do (Ended e s) go = Ended e s

-- what follows a loop's body: `continue` goes to it, and `break` leaves the loop (6.8.6.2p2, 6.8.6.3p2)
abbrev pub after_body : Outcome → (State → Outcome) → Outcome
after_body (Next s) go = go s
after_body (Broken s) go = Next s
after_body (Continued s) go = go s
after_body (Returned v s) go = Returned v s
after_body (Ended e s) go = Ended e s

-- `break` leaves a switch (6.8.6.3p2)
abbrev pub after_switch : Outcome → Outcome
after_switch (Next s) = Next s
after_switch (Broken s) = Next s
after_switch (Continued s) = Continued s
after_switch (Returned v s) = Returned v s
after_switch (Ended e s) = Ended e s

-- At most so many rounds of a loop; a round is given what comes behind it.
abbrev pub rounds : ℕ → ((State → Outcome) → State → Outcome) → State → Outcome
rounds zero round s = Ended Turns s
rounds (suc n) round s = round (rounds n round) s

-- A loop: each of its rounds begins a place, so that it makes at most as many as there are turns left.
abbrev pub loop : ((State → Outcome) → State → Outcome) → State → Outcome
loop round s = rounds s.turns round s

-- a switch's block has a label for a number
abbrev pub has_case : ℤ → TypedStatementTrees → Bool
has_case k none = false
has_case k (first s rest) = has_case k rest
has_case k (case j rest) = is_same_number k j || has_case k rest
has_case k (default rest) = has_case k rest

-- what a switch does where it has the label, and where it has not
abbrev pub by_label : Bool → (State → Outcome) → (State → Outcome) → State → Outcome
by_label true labelled unlabelled s = labelled s
by_label false labelled unlabelled s = unlabelled s

-- what is done with a value that is a number; another one is undefined behaviour
abbrev pub on_number : Value → State → (ℤ → State → Outcome) → Outcome
on_number (Number k) s go = go k s
on_number _ s go = Ended Undefined s

-- a round of `while`: the condition, and where it holds the body
abbrev pub while_round : Activation → Spot → (State → Tested) → (State → Outcome) → (State → Outcome) → State → Outcome
while_round here spot condition body again s =
    at here spot s (λ t. choose (condition t) (λ u. after_body (body u) again) Next)

-- a round of `do`: the body, and then the condition
abbrev pub do_round : Activation → Spot → (State → Tested) → (State → Outcome) → (State → Outcome) → State → Outcome
do_round here spot condition body again s =
    after_body (body s) (λ t. at here spot t (λ u. choose (condition u) again Next))

-- a round of `for`: the condition, and where it holds the body and then the step
abbrev pub for_round : Activation → Spot → (State → Tested) → (body step : State → Outcome) → (State → Outcome) → State
    → Outcome
for_round here spot condition body step again s =
    at here spot s (λ t. choose (condition t) (λ u. after_body (body u) (λ w. then_do (step w) again)) Next)

-- `calls` is what a called function comes to, given the place of the call.
module _ (calls : ℕ → Calls) (here : Activation) where
  -- what an expression of the place at a spot comes to
  abbrev pub value_at : Spot → RvalueTree → State → Evaluated
  value_at spot e s = evaluate (calls (place_number_at here.places spot.at)) (depth_of here) e s

  -- elements of an array from an index on, each stored before the next is evaluated (6.7.9p17, p23)
  abbrev pub initialise_elements : Spot → ℕ → (index : ℕ) → List RvalueTree → State → Outcome
  initialise_elements spot n index [] s = Next s
  initialise_elements spot n index (e ∷ all) s =
      on_value (value_at spot e s)
      (λ v t. initialise_elements spot n (index + 1) all (record t { memory = set_value t.memory n index v }))

  -- What a declarator comes to (6.7.9): a scalar must not be read in its own initializer before something was stored in
  -- it; an array is zero, and then its elements come in order.
  abbrev pub declare_with : Spot → ℕ → InitialTree → State → Outcome
  declare_with spot x Zero s = Next (made here Live x s)
  declare_with spot x (Scalar e) s =
      on_value (value_at spot e (made here Initialising x s))
      (λ v t. Next (record t { memory = begun (set_value t.memory (length s.memory) 0 v) (length s.memory) }))
  declare_with spot x (Elements all) s = initialise_elements spot (length s.memory) 0 all (made here Live x s)
  declare_with spot x (Literal n) s =
      let t = made here Live x s in
      Next
      (record
      t {
        memory = set_values t.memory (length s.memory) 0
            (literal_values here.program.array_literals (element_type here x) n);
      })

  -- a declaration of one variable is executed at its place
  abbrev pub declare : DeclaredTree → State → Outcome
  declare d s = at here d.spot s (declare_with d.spot d.variable d.initial)

  -- a declaration of several variables is executed
  abbrev pub declare_all : List DeclaredTree → State → Outcome
  declare_all [] s = Next s
  declare_all (d ∷ all) s = then_do (declare d s) (declare_all all)

  -- an expression whose value is not used
  abbrev pub expression_run : Spot → RvalueTree → State → Outcome
  expression_run spot e s = at here spot s (λ t. on_effect (value_at spot e t) Next)

  -- the first part of a `for` (6.8.5.3)
  abbrev pub begin_loop : TypedStartTree → State → Outcome
  begin_loop Nothing s = Next s
  begin_loop (tree.Value spot e) s = expression_run spot e s
  begin_loop (Declares all) s = declare_all all s

  -- whether the condition of the place at a spot holds
  abbrev pub test_at : Spot → RvalueTree → State → Tested
  test_at spot e s = condition_tested (value_at spot e s)

  -- a condition that is left out holds (6.8.5.3p2)
  abbrev pub check : Spot → Option RvalueTree → State → Tested
  check spot None s = Holds s
  check spot (Some e) s = test_at spot e s

  -- the step of a loop is executed at its place, if it has one
  abbrev pub step : Option StepTree → State → Outcome
  step None s = Next s
  step (Some p) s = expression_run p.spot p.value s

  -- the value of a `return` (6.8.6.4)
  abbrev pub result : Spot → Option RvalueTree → State → Outcome
  result spot None s = Returned None s
  result spot (Some e) s = on_value (value_at spot e s) (λ v t. Returned (Some v) t)

  abbrev mutual
    -- what the execution of a statement comes to (C11 6.8)
    pub execute : TypedStatementTree → State → Outcome
    execute (Block all) s = lifetimes_ended (length s.memory) (execute_all all s)
    execute (Declaration all) s = declare_all all s
    execute (Empty spot) s = at here spot s Next
    execute (Run spot e) s = expression_run spot e s
    execute (If spot c chosen) s = at here spot s (λ t. choose (test_at spot c t) (execute chosen) Next)
    execute (IfElse spot c chosen other) s =
        at here spot s (λ t. choose (test_at spot c t) (execute chosen) (execute other))
    execute (While spot c body) s = loop (while_round here spot (test_at spot c) (execute body)) s
    execute (DoWhile body spot c) s = loop (do_round here spot (test_at spot c) (execute body)) s
    execute (For start spot c p body) s =
        lifetimes_ended (length s.memory)
        (then_do (begin_loop start s) (loop (for_round here spot (check spot c) (execute body) (step p))))
    execute (Switch spot e all) s =
        at here spot s
        (λ t. on_value (value_at spot e t)
        (λ v u. on_number v u
        (λ k w. after_switch (by_label (has_case k all) (execute_case k all) (execute_default all) w))))
    execute (Break spot) s = at here spot s Broken
    execute (Continue spot) s = at here spot s Continued
    execute (Return spot e) s = at here spot s (result spot e)

    -- statements in order, through labels
    pub execute_all : TypedStatementTrees → State → Outcome
    execute_all none s = Next s
    execute_all (first a rest) s = then_do (execute a s) (execute_all rest)
    execute_all (case j rest) s = execute_all rest s
    execute_all (default rest) s = execute_all rest s

    -- from the label of a number on (6.8.4.2p4)
    pub execute_case : ℤ → TypedStatementTrees → State → Outcome
    execute_case k none s = Next s
    execute_case k (first a rest) s = execute_case k rest s
    execute_case k (case j rest) s = by_label (is_same_number k j) (execute_all rest) (execute_case k rest) s
    execute_case k (default rest) s = execute_case k rest s

    -- from `default` on, or behind the switch where there is none
    pub execute_default : TypedStatementTrees → State → Outcome
    execute_default none s = Next s
    execute_default (first a rest) s = execute_default rest s
    execute_default (case j rest) s = execute_default rest s
    execute_default (default rest) s = execute_all rest s
