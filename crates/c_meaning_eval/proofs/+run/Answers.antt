use Rattle.std.proofs.Common.{◌≡◌, IfOk, sym, ap, ◌∙◌, subst, arith, vec_len, ◌-◌}
use Rattle.std.specs.Prelude.{length}
use Rattle.c_tree.specs.Programs.{function_view, program_view}
use Rattle.c_tree.specs.TypedStatements.{start_view, statement_view}
use Rattle.std.proofs.lemmas.List.{length-map}
use Rattle.c_tree.specs.declared.typed_statement.TypedStatement.{TypedStatement}
use Rattle.c_meaning_steps.specs.declared.state.Outcome.TheVariants as outcome
use Rattle.c_meaning.specs.Views.{begins, executes, round_of, round_view}
use Rattle.c_meaning_values.specs.Views.{object_view}
use Rattle.c_meaning_steps.specs.Views.{outcome_view, state_view}
use Rattle.c_meaning.specs.Lifetimes.{lifetimes_ended}
use Rattle.c_meaning.specs.Statements.{loop, rounds, then_do}
use Rattle.c_meaning_eval.proofs.Rounds.{goes_on, leaves, rounds_step, weighs_less}
use Rattle.c_meaning_eval.proofs.+run.Goals as goal
use Rattle.c_meaning_eval.proofs.+run.Goals.{statements::execute-in-Next+in_ok-outcome-in-Next, statements::execute-in_default}

pub execution::activate-execute_all-requires : goal.execution::activate-execute_all-requires
execution::activate-execute_all-requires t c =
    let w = weighs_less (program_view c.args.here.now.program.now).functions c.args.here.now.function (function_view c.in-Some.function.now) c.in-Some.ensures in
    (omega (arith, w, c.decreases), tt)

pub statements::execute-returns-in-While : goal.statements::execute-returns-in-While
statements::execute-returns-in-While t c =
    let s = state_view c.args.state.now in
    let after = state_view c.execute_loop.new.state in
    subst (λ (a : TypedStatement). IfOk c.execute_loop.result (λ o. outcome_view o after ≡ executes c.args.here.now (statement_view a) s)) (sym c.in-While.is)
    (subst (λ (a : TypedStatement). IfOk c.execute_loop.result (λ o. outcome_view o after ≡ loop (round_of c.args.here.now (statement_view a)) s)) c.in-While.is c.execute_loop.ensures)

pub statements::execute-returns-in-DoWhile : goal.statements::execute-returns-in-DoWhile
statements::execute-returns-in-DoWhile t c =
    let s = state_view c.args.state.now in
    let after = state_view c.execute_loop-in-DoWhile.new.state in
    subst (λ (a : TypedStatement). IfOk c.execute_loop-in-DoWhile.result (λ o. outcome_view o after ≡ executes c.args.here.now (statement_view a) s)) (sym c.in-DoWhile.is)
    (subst (λ (a : TypedStatement). IfOk c.execute_loop-in-DoWhile.result (λ o. outcome_view o after ≡ loop (round_of c.args.here.now (statement_view a)) s)) c.in-DoWhile.is c.execute_loop-in-DoWhile.ensures)

pub statements::execute-returns-after-value-3 : goal.statements::execute-returns-after-value-3
statements::execute-returns-after-value-3 t c =
    let s = state_view c.args.state.now in
    let went = state_view c.begin_loop.new.state in
    let go = loop (round_of c.args.here.now (statement_view c.args.statement.now)) in
    let begun : outcome_view c.in-Ok-begin_loop.value went ≡ begins c.args.here.now (start_view c.in-For.start) s = c.in-Ok-begin_loop.ensures in
    let inner : outcome_view c.match-value-3.outcome (state_view c.match-value-3.state) ≡ then_do (begins c.args.here.now (start_view c.in-For.start) s) go =
    elim c.match-value-3.branch [
      | statements::execute-in-Next+in_ok-outcome-in-Next w ↦
          let is_next : c.in-Ok-begin_loop.value ≡ outcome.Next = w.in-Next.is in
          let looped : outcome_view w.in_ok-outcome-in-Next.outcome (state_view w.execute_loop-in-Next.new.state) ≡ go went = w.in_ok-outcome-in-Next.ensures in
          ap (λ o. outcome_view o (state_view c.match-value-3.state)) w.outcome-is ∙ ap (λ t. outcome_view w.in_ok-outcome-in-Next.outcome (state_view t)) w.state-is
          ∙ looped ∙ goes_on (begins c.args.here.now (start_view c.in-For.start) s) went go (ap (λ o. outcome_view o went) (sym is_next) ∙ begun)
      | statements::execute-in_default w ↦
          let not_next : c.in-Ok-begin_loop.value ≡ outcome.Next → ⊥ = w.in_default.not-Next in
          let same : c.match-value-3.outcome ≡ c.in-Ok-begin_loop.value = w.outcome-is in
          ap (λ o. outcome_view o (state_view c.match-value-3.state)) same ∙ ap (λ t. outcome_view c.in-Ok-begin_loop.value (state_view t)) w.state-is
          ∙ leaves c.in-Ok-begin_loop.value went go not_next ∙ ap (λ o. then_do o go) begun
    ] in
    let count : vec_len c.args.state.now.memory.all ≡ length c.args.state.now.memory.all.items = omega arith in
    let first : c.len-first-in-For.result ≡ length s.memory = c.len-first-in-For.ensures ∙ count ∙ sym (length-map c.args.state.now.memory.all.items object_view) in
    let ended : outcome_view c.match-value-3.outcome (state_view c.close-in-For.new.state) ≡ lifetimes_ended c.len-first-in-For.result (outcome_view c.match-value-3.outcome (state_view c.match-value-3.state)) = c.close-in-For.ensures in
    ended ∙ ap (lifetimes_ended c.len-first-in-For.result) inner ∙ ap (λ n. lifetimes_ended n (then_do (begins c.args.here.now (start_view c.in-For.start) s) go)) first
    ∙ ap (λ (a : TypedStatement). lifetimes_ended (length s.memory) (then_do (begins c.args.here.now (start_view c.in-For.start) s) (loop (round_of c.args.here.now (statement_view a))))) c.in-For.is
    ∙ sym (ap (λ (a : TypedStatement). executes c.args.here.now (statement_view a) s) c.in-For.is)

pub statements::execute_loop-loop-rest-preserved : goal.statements::execute_loop-loop-rest-preserved
statements::execute_loop-loop-rest-preserved t c =
    let round = round_of c.args.here.now (statement_view c.args.statement.now) in
    ap (λ r. round_view r (rounds (c.loop-rest.rest - 1) round) (state_view c.execute_round.new.state)) (sym c.in-Again.is) ∙ c.in-Ok.ensures (rounds (c.loop-rest.rest - 1) round) ∙ sym (rounds_step c.loop-rest.rest round (state_view c.loop-rest.state) (omega arith)) ∙ c.loop-rest.invariant

pub statements::execute_loop-returns-in-Leave : goal.statements::execute_loop-returns-in-Leave
statements::execute_loop-returns-in-Leave t c =
    let round = round_of c.args.here.now (statement_view c.args.statement.now) in
    ap (λ r. round_view r (rounds (c.loop-rest.rest - 1) round) (state_view c.execute_round.new.state)) (sym c.in-Leave.is) ∙ c.in-Ok.ensures (rounds (c.loop-rest.rest - 1) round) ∙ sym (rounds_step c.loop-rest.rest round (state_view c.loop-rest.state) (omega arith)) ∙ c.loop-rest.invariant
